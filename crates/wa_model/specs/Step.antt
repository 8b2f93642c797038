-- One reduction of a configuration (standard, section 4.4), with its cost.
use Rattle.std.specs.Prelude.{◌≡◌, ℕ, zero, suc, ◌+◌, ◌-◌, nat_lt, ◌&&◌, if◌then◌else◌, List, [], ◌∷◌, ◌++◌, length, map, take, drop, reverse, Option, Some, None, Bool, true, false}
use Rattle.std.specs.Prelude.{unwrap_or, slice_get, slice_set}
use Rattle.wa_types.specs.declared.values.ValType.{ValType}
use Rattle.wa_types.specs.declared.values.Value.{Value}
use Rattle.wa_types.specs.declared.values.Value.TheVariants as V
use Rattle.wa_types.specs.declared.values.Trap.{Trap}
use Rattle.wa_types.specs.declared.values.Trap.TheVariants.{Unreachable, UndefinedElement, UninitializedElement, TypeMismatch, StackExhausted}
use Rattle.wa_types.specs.declared.syntax.Limits.{Limits}
use Rattle.wa_types.specs.Encoding.{same_type}
use Rattle.wa_types.specs.Syntax.{Plain, basic, local_get, local_set, local_tee, br, br_if, br_table, return, unreachable, call, call_indirect, a_block, a_loop, Code, done, plain, nest}
use Rattle.wa_types.specs.Syntax.{branch, FuncType, Func, Module}
use Rattle.wa_types.specs.Modules.{func_imports, all_memories, type_at, func_type_at, declared_locals, defined_at}
use Rattle.wa_ops.specs.Operate.{value_of}
use Rattle.wa_model.specs.Store.{Store, choose, value_at, Did, works, fails, lacks, takes, extra_cost, act}
use Rattle.wa_model.specs.Configuration.{Label, block_label, loop_label, Activation, Configuration, running, waiting}

-- What comes next (4.4). A cost k stands for suc k.
pub data Next : Type 0 where
  steps : (k : ℕ) → (to : Configuration) → Next  -- a reduction to this configuration
  asks : (k import : ℕ) → (args : List Value) → (waits : Configuration) → Next  -- a call of the imported function of this index; the configuration waits for its results
  returns : (k : ℕ) → (values : List Value) → (store : Store) → Next  -- the outermost activation returned
  traps : (k : ℕ) → (trap : Trap) → (store : Store) → Next
  stuck : Next  -- no reduction; no configuration of a valid module comes here

-- the lowest h operands, those below a construct (4.4.5.6)
abbrev pub keep : ℕ → List Value → List Value
keep h ops = drop (length ops - h) ops

-- how many results a function has (2.5.3)
abbrev pub result_count : Module → ℕ → ℕ
result_count m fn = length (func_type_at m fn).results

-- The results go to the caller (4.4.7.2).
abbrev pub leave : ℕ → Store → (ops : List Value) → (arity : ℕ) → List Activation → Next
leave k s ops arity [] = returns k (take arity ops) s
leave k s ops arity (a ∷ under) = steps k (running s a.func under a.locals (take arity ops ++ a.operands) a.code a.labels)

-- A branch to the label of this number (4.4.5.6). Past the last one it leaves the function.
abbrev pub jump : ℕ → Module → Store → ℕ → List Activation → (ls ops : List Value) → List Label → (l : ℕ) → Next
jump k m s fn under ls ops [] l = leave k s ops (result_count m fn) under
jump k m s fn under ls ops (block_label h arity rest skipped ∷ labels) zero = steps k (running s fn under ls (take arity ops ++ keep h ops) rest labels)
jump k m s fn under ls ops (loop_label h body rest ∷ labels) zero = steps k (running s fn under ls (keep h ops) body (loop_label h body rest ∷ labels))
jump k m s fn under ls ops (label ∷ labels) (suc l) = jump k m s fn under ls ops labels l

-- The end of a sequence (4.4.6.2, 4.4.7.2).
abbrev pub finish : Module → Store → ℕ → List Activation → (ls ops : List Value) → List Label → Next
finish m s fn under ls ops [] = leave 0 s ops (result_count m fn) under
finish m s fn under ls ops (block_label h arity rest skipped ∷ labels) = steps 0 (running s fn under ls ops rest labels)
finish m s fn under ls ops (loop_label h body rest ∷ labels) = steps 0 (running s fn under ls ops rest labels)

-- what an instruction did with its operands, as what comes next (4.4.1 to 4.4.4); a trap costs 1
abbrev pub did : (k fn : ℕ) → List Activation → (ls : List Value) → List Label → (rest : Code) → Store → (ops : List Value) → Did → Next
did k fn under ls labels rest s ops (works s' results) = steps k (running s' fn under ls (results ++ ops) rest labels)
did k fn under ls labels rest s ops (fails trap) = traps 0 trap s
did k fn under ls labels rest s ops lacks = stuck

-- the topmost operand
abbrev pub with_top : List Value → (Value → List Value → Next) → Next
with_top [] on = stuck
with_top (v ∷ ops) on = on v ops

-- the topmost operand, an i32
abbrev pub with_number : List Value → (ℕ → List Value → Next) → Next
with_number [] on = stuck
with_number (V.I32 n ∷ ops) on = on n ops
with_number (V.I64 n ∷ ops) on = stuck

-- the number of a construct's results (2.4.5)
abbrev pub arity_of : Option ValType → ℕ
arity_of None = 0
arity_of (Some t) = 1

-- the zero of a type (4.4.7.1)
abbrev pub zero_of : ValType → Value
zero_of t = value_of t 0

-- the configuration just after a call of a defined function: its declared locals are zero (4.4.7.1)
abbrev pub entered : Store → List Activation → (args : List Value) → ℕ → Func → Configuration
entered s under args x f = running s x under (args ++ map zero_of (declared_locals f.locals)) [] f.body []

-- A call of this function, its arguments below the instruction's own operands (4.4.7.1). Activation 4,097 traps; an import makes none.
abbrev pub invoke : Module → Store → ℕ → List Activation → (ls own ops : List Value) → Code → List Label → (params x : ℕ) → Option Func → Next
invoke m s fn under ls own ops rest labels params x (Some f) =
    if nat_lt (length under + 1) 4096
    then steps params (entered s (waiting fn ls (drop params ops) (own ++ take params ops) rest labels ∷ under) (reverse (take params ops)) x f)
    else traps params StackExhausted s
invoke m s fn under ls own ops rest labels params x None =
    if nat_lt x (func_imports m)
    then asks params x (reverse (take params ops)) (record { store = s; here = waiting fn ls (drop params ops) (own ++ take params ops) rest labels; under = under })
    else stuck

-- the number of parameters of a type (2.3.3)
abbrev pub param_count : FuncType → ℕ
param_count t = length t.params

-- two lists of value types are one (2.3.1)
abbrev pub same_types : List ValType → List ValType → Bool
same_types [] [] = true
same_types (t ∷ ts) (u ∷ us) = same_type t u && same_types ts us
same_types _ _ = false

-- two function types are one (2.3.3)
abbrev pub same_func_type : FuncType → FuncType → Bool
same_func_type t u = same_types t.params u.params && same_types t.results u.results

-- A call through the table, of a function of the type of this index (4.4.5.11).
abbrev pub through : Module → Store → ℕ → List Activation → (ls own ops : List Value) → Code → List Label → (sort : ℕ) → Option (Option ℕ) → Next
through m s fn under ls own ops rest labels sort None = traps (param_count (type_at m sort)) UndefinedElement s
through m s fn under ls own ops rest labels sort (Some None) = traps (param_count (type_at m sort)) UninitializedElement s
through m s fn under ls own ops rest labels sort (Some (Some x)) =
    if same_func_type (func_type_at m x) (type_at m sort)
    then invoke m s fn under ls own ops rest labels (param_count (type_at m sort)) x (defined_at m x)
    else traps (param_count (type_at m sort)) TypeMismatch s

-- the maximum of the first of some limits, where it is told
abbrev pub first_max : List Limits → Option ℕ
first_max [] = None
first_max (l ∷ ls) = l.max

-- the greatest number of pages that the type of the module's memory allows, where told (2.3.5)
abbrev pub memory_max : Module → Option ℕ
memory_max m = first_max (all_memories m)

-- By the instruction that stands next (variable instructions, 4.4.3; control instructions, 4.4.5).
abbrev pub step_plain : Module → Store → ℕ → List Activation → (ls ops : List Value) → List Label → (rest : Code) → Plain → Next
step_plain m s fn under ls ops labels rest (basic b) = did (extra_cost b (take (takes b) ops)) fn under ls labels rest s (drop (takes b) ops) (act (memory_max m) b s (take (takes b) ops))
step_plain m s fn under ls ops labels rest (local_get x) = steps 0 (running s fn under ls (value_at ls x ∷ ops) rest labels)
step_plain m s fn under ls ops labels rest (local_set x) = with_top ops (λ v below. steps 0 (running s fn under (slice_set ls x v) below rest labels))
step_plain m s fn under ls ops labels rest (local_tee x) = with_top ops (λ v below. steps 0 (running s fn under (slice_set ls x v) (v ∷ below) rest labels))
step_plain m s fn under ls ops labels rest (br l) = jump 0 m s fn under ls ops labels l
step_plain m s fn under ls ops labels rest (br_if l) = with_number ops (λ n below. choose n (jump 0 m s fn under ls below labels l) (steps 0 (running s fn under ls below rest labels)))
step_plain m s fn under ls ops labels rest (br_table targets last) = with_number ops (λ n below. jump (length targets + 1) m s fn under ls below labels (unwrap_or (slice_get targets n) last))
step_plain m s fn under ls ops labels rest return = leave 0 s ops (result_count m fn) under
step_plain m s fn under ls ops labels rest unreachable = traps 0 Unreachable s
step_plain m s fn under ls ops labels rest (call x) = invoke m s fn under ls [] ops rest labels (param_count (func_type_at m x)) x (defined_at m x)
step_plain m s fn under ls ops labels rest (call_indirect sort) = with_number ops (λ n below. through m s fn under ls (V.I32 n ∷ []) below rest labels sort (slice_get s.table n))

-- By the code that stands next. A construct begins with none of the operands below it (4.4.5.3 to 4.4.5.5).
abbrev pub step_at : Module → Store → ℕ → List Activation → (ls ops : List Value) → List Label → Code → Next
step_at m s fn under ls ops labels done = finish m s fn under ls ops labels
step_at m s fn under ls ops labels (plain p rest) = step_plain m s fn under ls ops labels rest p
step_at m s fn under ls ops labels (nest a_block r body rest) = steps 0 (running s fn under ls ops body (block_label (length ops) (arity_of r) rest done ∷ labels))
step_at m s fn under ls ops labels (nest a_loop r body rest) = steps 0 (running s fn under ls ops body (loop_label (length ops) body rest ∷ labels))
step_at m s fn under ls ops labels (branch r a b rest) =
    with_number ops (λ n below. steps 0 (choose n
    (running s fn under ls below a (block_label (length below) (arity_of r) rest b ∷ labels))
    (running s fn under ls below b (block_label (length below) (arity_of r) rest done ∷ labels))))

-- what comes next (4.4)
abbrev pub step : Module → Configuration → Next
step m c = step_at m c.store c.here.func c.under c.here.locals c.here.operands c.here.labels c.here.code

-- The relation of reductions: the module goes from c to d at this cost (4.4).
abbrev pub Step : Module → Configuration → Configuration → ℕ → Type 0
Step m c d cost = (k : ℕ) × (step m c ≡ steps k d) × (cost ≡ suc k)
