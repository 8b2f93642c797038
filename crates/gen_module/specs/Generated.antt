-- The generated module of a number of functions: each calls the one before it, in one of three ways, and the first an import.
use Rattle.std.specs.Prelude.{ℕ, zero, suc, ◌%◌, List, [], ◌∷◌, ◌++◌, Some, None, codes}
use Rattle.wa_types.specs.declared.values.ValType.TheVariants.{I32}
use Rattle.wa_types.specs.declared.values.Value.TheVariants as V
use Rattle.wa_types.specs.declared.operators.NumOp.TheVariants.{I32Add, I32Xor}
use Rattle.wa_types.specs.declared.syntax.Run.{Run}
use Rattle.wa_types.specs.declared.syntax.Import.{Import}
use Rattle.wa_types.specs.declared.syntax.ImportKind.TheVariants.{Func as a_func_import}
use Rattle.wa_types.specs.declared.syntax.Export.{Export}
use Rattle.wa_types.specs.declared.syntax.Space.TheVariants.{Func as a_func}
use Rattle.wa_types.specs.Syntax.{const, num, basic, local_get, local_set, br_if, call, a_loop, Code, done, plain, nest, branch, FuncType, Func, Module}

-- [i32] -> [i32]
abbrev pub one_to_one : FuncType
one_to_one = record { params = I32 ∷ []; results = I32 ∷ [] }

-- an i32 in front of code
abbrev pub constant : ℕ → Code → Code
constant n rest = plain (basic (const (V.I32 n))) rest

-- the function of this index, called with the parameter
abbrev pub called : ℕ → Code → Code
called x rest = plain (local_get 0) (plain (call x) rest)

-- the import, plus one
abbrev pub first_code : Code
first_code = called 0 (constant 1 (plain (basic (num I32Add)) done))

-- the call's result below an operand
abbrev pub adding : ℕ → Code
adding i = constant i (called i (plain (basic (num I32Add)) done))

-- the call in an arm of an `if`
abbrev pub deciding : ℕ → Code
deciding i = plain (local_get 0) (branch (Some I32) (called i done) (constant 0 done) (constant i (plain (basic (num I32Xor)) done)))

-- the call in a loop
abbrev pub looping : ℕ → Code
looping i = nest a_loop None (called i (plain (local_set 1) (constant 0 (plain (br_if 0) done)))) (plain (local_get 1) done)

-- a function of that type
abbrev pub func_with : List Run → Code → Func
func_with locals body = record { sort = 0; locals = locals; body = body }

-- one local
abbrev pub one_local : Run
one_local = record { count = 1; ty = I32 }

-- by the remainder of its number by three
abbrev pub func_by : (i remainder : ℕ) → Func
func_by i zero = func_with (one_local ∷ []) (looping i)
func_by i (suc zero) = func_with [] (adding i)
func_by i (suc (suc k)) = func_with [] (deciding i)

-- The function of this number. The one before it has this number as its index, since the import is function 0.
abbrev pub generated_func : ℕ → Func
generated_func zero = func_with [] first_code
generated_func (suc i) = func_by (suc i) (suc i % 3)

-- the first n functions
abbrev pub generated_funcs : ℕ → List Func
generated_funcs zero = []
generated_funcs (suc n) = generated_funcs n ++ generated_func n ∷ []

-- the import `env.sleep`
abbrev pub sleep : Import
sleep = record { «module» = codes "env"; base = codes "sleep"; kind = a_func_import 0 }

-- the last function is exported
abbrev pub run_export : ℕ → Export
run_export n = record { name = codes "run"; space = a_func; index = n }

-- The module of n functions.
unfoldable pub generated : ℕ → Module
generated n = record {
  types = one_to_one ∷ [];
  imports = sleep ∷ [];
  funcs = generated_funcs n;
  tables = [];
  memories = [];
  globals = [];
  exports = run_export n ∷ [];
  start = None;
  elems = [];
  segments = [];
  customs = [];
}
