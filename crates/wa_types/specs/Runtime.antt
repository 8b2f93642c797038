-- The parts that every written module has behind those of the original: three types, two globals, five
-- functions and their exports, and a memory where the original has none.
use Rattle.std.specs.Prelude.{ℕ, ◌+◌, List, [], ◌∷◌, ◌++◌, length, map, None, true, codes}
use Rattle.wa_types.specs.declared.values.ValType.TheVariants.{I32}
use Rattle.wa_types.specs.declared.values.Value.TheVariants.{I32 as value_32}
use Rattle.wa_types.specs.declared.operators.NumOp.TheVariants.{I32GtU}
use Rattle.wa_types.specs.declared.syntax.Space.TheVariants.{Func as a_func}
use Rattle.wa_types.specs.declared.syntax.Export.{Export}
use Rattle.wa_types.specs.Base.{added_memories}
use Rattle.wa_types.specs.Modules.{func_sorts, all_memories, all_globals}
use Rattle.wa_types.specs.Syntax.{const, num, global_get, global_set, load, basic, local_get, unreachable, Code, done, plain, branch, FuncType, Func, GlobalDef, Module}

-- how many functions the index space has, imports included (2.5.1)
abbrev pub func_space : Module → ℕ
func_space m = length (func_sorts m)

-- how many globals, imports included (2.5.1)
abbrev pub global_space : Module → ℕ
global_space m = length (all_globals m)

-- [i32] -> [], [] -> [] and [] -> [i32]
abbrev pub runtime_types : List FuncType
runtime_types =
    (record { params = I32 ∷ []; results = [] })
    ∷ (record { params = []; results = [] })
    ∷ (record { params = []; results = I32 ∷ [] })
    ∷ []

-- a mutable i32 that begins as 0
abbrev pub zero_global : GlobalDef
zero_global = record { ty = I32; mutable = true; init = plain (basic (const (value_32 0))) done }

-- the state, then the address of the data structure
abbrev pub runtime_globals : List GlobalDef
runtime_globals = zero_global ∷ zero_global ∷ []

-- traps where the location, the word at the address, is greater than the end, the word behind it
abbrev pub test_code : ℕ → Code
test_code address =
    plain (basic (global_get address)) (plain (basic (load 0x28 2 0))
    (plain (basic (global_get address)) (plain (basic (load 0x28 2 4))
    (plain (basic (num I32GtU)) (branch None (plain unreachable done) done done)))))

-- the state becomes this number, the address the parameter; then the test
abbrev pub start_code : ℕ → ℕ → ℕ → Code
start_code number state address =
    plain (basic (const (value_32 number))) (plain (basic (global_set state))
    (plain (local_get 0) (plain (basic (global_set address)) (test_code address))))

-- the state becomes 0; then the test
abbrev pub stop_code : ℕ → ℕ → Code
stop_code state address = plain (basic (const (value_32 0))) (plain (basic (global_set state)) (test_code address))

-- gives the state
abbrev pub state_code : ℕ → Code
state_code state = plain (basic (global_get state)) done

-- a function of the runtime, without declared locals
abbrev pub runtime_func : ℕ → Code → Func
runtime_func sort body = record { sort = sort; locals = []; body = body }

-- start_unwind, stop_unwind, start_rewind, stop_rewind and get_state, over the first appended type
abbrev pub runtime_funcs : ℕ → ℕ → ℕ → List Func
runtime_funcs first_type state address =
    runtime_func first_type (start_code 1 state address)
    ∷ runtime_func (first_type + 1) (stop_code state address)
    ∷ runtime_func first_type (start_code 2 state address)
    ∷ runtime_func (first_type + 1) (stop_code state address)
    ∷ runtime_func (first_type + 2) (state_code state)
    ∷ []

-- an export of this function
abbrev pub func_export : List ℕ → ℕ → Export
func_export name index = record { name = name; space = a_func; index = index }

-- the five exports, of the functions from this one on
abbrev pub runtime_exports : ℕ → List Export
runtime_exports first =
    func_export (codes "asyncify_start_unwind") first
    ∷ func_export (codes "asyncify_stop_unwind") (first + 1)
    ∷ func_export (codes "asyncify_start_rewind") (first + 2)
    ∷ func_export (codes "asyncify_stop_rewind") (first + 3)
    ∷ func_export (codes "asyncify_get_state") (first + 4)
    ∷ []

-- their names
abbrev pub runtime_names : List (List ℕ)
runtime_names = map (λ (e : Export). e.name) (runtime_exports 0)

-- The module with the runtime's parts behind its own; its own keep their indices.
unfoldable pub with_runtime : Module → Module
with_runtime m = record {
  types = m.types ++ runtime_types;
  imports = m.imports;
  funcs = m.funcs ++ runtime_funcs (length m.types) (global_space m) (global_space m + 1);
  tables = m.tables;
  memories = m.memories ++ added_memories (all_memories m);
  globals = m.globals ++ runtime_globals;
  exports = m.exports ++ runtime_exports (func_space m);
  start = m.start;
  elems = m.elems;
  segments = m.segments;
  customs = m.customs;
}
