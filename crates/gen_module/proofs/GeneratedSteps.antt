-- What a generated function does: down to the call of the import, and back with a value.
use Rattle.std.proofs.Common.{arith, ◌≡◌, ◌≤◌, ◌<◌, ℕ, zero, suc, ◌+◌, ◌*◌, ◌%◌, List, [], ◌∷◌, length, Some, refl, ap, ◌∙◌}
use Rattle.std.specs.Prelude.{if◌then◌else◌, Bool}
use Rattle.wa_types.specs.declared.values.Value.{Value}
use Rattle.wa_types.specs.declared.values.Value.TheVariants as V
use Rattle.wa_types.specs.declared.values.Trap.TheVariants.{StackExhausted}
use Rattle.wa_types.specs.declared.operators.NumOp.TheVariants.{I32Add, I32Xor}
use Rattle.wa_types.specs.Modules.{func_type_at, defined_at}
use Rattle.wa_types.specs.Syntax.{num, basic, local_get, local_set, br_if, call, Code, done, plain, Func, FuncType, Module}
use Rattle.wa_ops.specs.Integers.{iadd, ixor}
use Rattle.wa_model.specs.Blocking.{State, runs, Task, Left, blocking, by_step}
use Rattle.wa_model.specs.Configuration.{Activation, Label, block_label, loop_label, running, waiting}
use Rattle.wa_model.specs.Machine.{goes}
use Rattle.wa_model.specs.Plan.{Plan}
use Rattle.wa_model.specs.Step.{entered, invoke, leave, steps, traps}
use Rattle.wa_model.specs.Store.{Store}
use Rattle.wa_model.specs.Untouched.{IsCalm, StaysOff}
use Rattle.wa_model.proofs.StayingOff.{nothing_off}
use Rattle.run_theory.proofs.Runs.{lt_true}
use Rattle.gen_module.specs.Generated.{one_to_one, called, constant, func_by, generated_func}
use Rattle.gen_module.specs.GeneratedRuns.{value_by, value_of_func}
use Rattle.gen_module.proofs.Paths.{Path, at_end, on_way, path_on}

-- the parameter
abbrev pub seven : List Value
seven = V.I32 7 ∷ []

-- what is left in a loop behind the call
abbrev behind_call : Code
behind_call = plain (local_set 1) (constant 0 (plain (br_if 0) done))

-- A function that waits at its call of the function of index x, by the remainder. Its own index is one more.
abbrev pub wait_by : (x remainder : ℕ) → Activation
wait_by x zero = waiting (suc x) (V.I32 7 ∷ V.I32 0 ∷ []) [] seven behind_call (loop_label 0 (called x behind_call) (plain (local_get 1) done) ∷ [])
wait_by x (suc zero) = waiting (suc x) seven (V.I32 x ∷ []) seven (plain (basic (num I32Add)) done) []
wait_by x (suc (suc k)) = waiting (suc x) seven [] seven done (block_label 0 1 (constant x (plain (basic (num I32Xor)) done)) (constant 0 done) ∷ [])

-- the function behind the one of this number
abbrev pub wait : ℕ → Activation
wait i = wait_by (suc i) (suc i % 3)

-- what waits below the first function where that of this number was called over these
abbrev pub waits_under : ℕ → List Activation → List Activation
waits_under zero under = under
waits_under (suc i) under = waits_under i (wait i ∷ under)

-- what is left of the first function behind the call of the import
abbrev pub from_one : Code
from_one = constant 1 (plain (basic (num I32Add)) done)

-- the first function waits for the import
abbrev pub first_waits : Activation
first_waits = waiting 1 seven [] seven from_one []

module _ (m : Module) (plan : Plan) (task : Task) (s : Store) where
  -- a state of the run
  abbrev pub at : Left → (index : ℕ) → List Activation → (locals operands : List Value) → Code → List Label → State
  at l fn under ls ops code labels = runs task (running s fn under ls ops code labels) l

  -- a function just after its call
  abbrev pub enters_at : Left → (index : ℕ) → List Activation → Func → State
  enters_at l fn under f = runs task (entered s under seven fn f) l

  -- the run goes from one state to another at this cost or less, without events and off the area
  pub record Goes (a : State) (most : ℕ) (b : State) : Type 0 where
    pub cost : ℕ
    pub within : cost ≤ most
    pub path : Path (blocking m plan) (IsCalm plan.area) a cost [] b

  pub none : (a : State) (most : ℕ) → Goes a most a
  none a most = record { cost = 0; within = omega arith; path = at_end }

  pub wider : (a b : State) (few most : ℕ) → few ≤ most → Goes a few b → Goes a most b
  wider a b few most le g = let w = g.within in record { cost = g.cost; within = omega arith; path = g.path }

  pub join : (a b c : State) (j k : ℕ) → Goes a j b → Goes b k c → Goes a (j + k) c
  join a b c j k g h = let v = g.within in let w = h.within in
      record { cost = g.cost + h.cost; within = omega arith; path = path_on (blocking m plan) (IsCalm plan.area) a b c g.cost h.cost [] [] g.path h.path }

  pub move : {a b c : State} {k most all : ℕ} → IsCalm plan.area a → blocking m plan a ≡ goes k [] b → Goes b most c → suc k + most ≡ all → Goes a all c
  move {k = k} h e g le = let w = g.within in record { cost = suc k + g.cost; within = omega arith; path = on_way h e g.path refl refl }

  off : StaysOff plan.area (length s.memory) []
  off = nothing_off plan.area (length s.memory)

  module _ (l : Left) where
    -- ---- a call

    call_goes : (fn x : ℕ) (under : List Activation) (ls below : List Value) (rest : Code) (labels : List Label) (f : Func) → func_type_at m x ≡ one_to_one → defined_at m x ≡ Some f
        → length under + 1 < 4096
        → blocking m plan (at l fn under ls (V.I32 7 ∷ below) (plain (call x) rest) labels) ≡ goes 1 [] (enters_at l x (waiting fn ls below seven rest labels ∷ under) f)
    call_goes fn x under ls below rest labels f t d few =
        let ops : List Value = V.I32 7 ∷ below in
        ap (λ (y : FuncType). by_step m plan task l (invoke m s fn under ls [] ops rest labels (length y.params) x (defined_at m x))) t
        ∙ ap (λ o. by_step m plan task l (invoke m s fn under ls [] ops rest labels 1 x o)) d
        ∙ ap (λ (b : Bool). by_step m plan task l (if b then steps 1 (entered s (waiting fn ls below seven rest labels ∷ under) seven x f) else traps 1 StackExhausted s)) (lt_true (length under + 1) 4096 few)

    -- the result goes to who waits
    back_goes : (fn : ℕ) (a : Activation) (under : List Activation) (ls : List Value) (v : Value) → func_type_at m fn ≡ one_to_one
        → blocking m plan (at l fn (a ∷ under) ls (v ∷ []) done []) ≡ goes 0 [] (at l a.func under a.locals (v ∷ a.operands) a.code a.labels)
    back_goes fn a under ls v t = ap (λ (y : FuncType). by_step m plan task l (leave 0 s (v ∷ []) (length y.results) (a ∷ under))) t

    -- ---- one function

    down_by : (x r : ℕ) (under : List Activation) (f : Func) → func_type_at m x ≡ one_to_one → defined_at m x ≡ Some f → length under + 1 < 4096
        → Goes (enters_at l (suc x) under (func_by x r)) 5 (enters_at l x (wait_by x r ∷ under) f)
    down_by x zero under f t d few =
        let to = enters_at l x (wait_by x zero ∷ under) f in
        let back : Label = loop_label 0 (called x behind_call) (plain (local_get 1) done) in
        wider _ to 4 5 (omega arith)
        (move off refl (move off refl (move off (call_goes (suc x) x under (V.I32 7 ∷ V.I32 0 ∷ []) [] behind_call (back ∷ []) f t d few) (none to 0) refl) refl) refl)
    down_by x (suc zero) under f t d few =
        let to = enters_at l x (wait_by x (suc zero) ∷ under) f in
        wider _ to 4 5 (omega arith)
        (move off refl (move off refl (move off (call_goes (suc x) x under seven (V.I32 x ∷ []) (plain (basic (num I32Add)) done) [] f t d few) (none to 0) refl) refl) refl)
    down_by x (suc (suc k)) under f t d few =
        let to = enters_at l x (wait_by x (suc (suc k)) ∷ under) f in
        let back : Label = block_label 0 1 (constant x (plain (basic (num I32Xor)) done)) (constant 0 done) in
        wider _ to 5 5 (omega arith)
        (move off refl (move off refl (move off refl (move off (call_goes (suc x) x under seven [] done (back ∷ []) f t d few) (none to 0) refl) refl) refl) refl)

    -- the locals behind the call
    abbrev pub locals_by : (r v : ℕ) → List Value
    locals_by zero v = V.I32 7 ∷ V.I32 v ∷ []
    locals_by (suc r) v = seven

    back_by : (x r v : ℕ) (under : List Activation)
        → Goes (at l (wait_by x r).func under (wait_by x r).locals (V.I32 v ∷ (wait_by x r).operands) (wait_by x r).code (wait_by x r).labels) 5
        (at l (suc x) under (locals_by r v) (V.I32 (value_by x r v) ∷ []) done [])
    back_by x zero v under =
        let to = at l (suc x) under (V.I32 7 ∷ V.I32 v ∷ []) (V.I32 v ∷ []) done [] in
        move off refl (move off refl (move off refl (move off refl (move off refl (none to 0) refl) refl) refl) refl) refl
    back_by x (suc zero) v under =
        let to = at l (suc x) under seven (V.I32 (iadd 32 x v) ∷ []) done [] in
        wider _ to 1 5 (omega arith) (move off refl (none to 0) refl)
    back_by x (suc (suc k)) v under =
        let to = at l (suc x) under seven (V.I32 (ixor v x) ∷ []) done [] in
        wider _ to 3 5 (omega arith) (move off refl (move off refl (move off refl (none to 0) refl) refl) refl)

  -- ---- all functions up to a number

  module _ (n : ℕ) (few : n ≤ 4000) (types : (x : ℕ) → x ≤ n → func_type_at m x ≡ one_to_one) (funcs : (k : ℕ) → k < n → defined_at m (suc k) ≡ Some (generated_func k)) where
    pub down : (l : Left) (k : ℕ) (under : List Activation) → k < n → length under + k ≤ 4000 → Goes (enters_at l (suc k) under (generated_func k)) (5 * k) (enters_at l 1 (waits_under k under) (generated_func zero))
    down l zero under lt le = none (enters_at l 1 under (generated_func zero)) 0
    down l (suc i) under lt le =
        let here = enters_at l (suc (suc i)) under (generated_func (suc i)) in
        let next = enters_at l (suc i) (wait i ∷ under) (generated_func i) in
        let last = enters_at l 1 (waits_under i (wait i ∷ under)) (generated_func zero) in
        wider here last (5 + 5 * i) (5 * suc i) (omega arith)
        (join here next last 5 (5 * i) (down_by l (suc i) (suc i % 3) under (generated_func i) (types (suc i) (omega arith)) (funcs i (omega arith)) (omega arith))
        (down l i (wait i ∷ under) (omega arith) (omega arith)))

    -- the function of this number stands at its end
    abbrev pub Ended : Left → (k : ℕ) → List Activation → State → Type 0
    Ended l k under from = (ls : List Value) × Goes from (6 * k) (at l (suc k) under ls (V.I32 (value_of_func k) ∷ []) done [])

    pub up : (l : Left) (k : ℕ) (under : List Activation) → k < n → Ended l k under (at l 1 (waits_under k under) seven (V.I32 (value_of_func zero) ∷ []) done [])
    unfolding value_of_func
    up l zero under lt = (seven, none (at l 1 under seven (V.I32 (value_of_func zero) ∷ []) done []) 0)
    up l (suc i) under lt =
        let v = value_of_func i in
        let h = up l i (wait i ∷ under) (omega arith) in
        let from = at l 1 (waits_under i (wait i ∷ under)) seven (V.I32 (value_of_func zero) ∷ []) done [] in
        let mid = at l (suc i) (wait i ∷ under) h.0 (V.I32 v ∷ []) done [] in
        let last = at l (suc (suc i)) under (locals_by l (suc i % 3) v) (V.I32 (value_by (suc i) (suc i % 3) v) ∷ []) done [] in
        let back : Goes mid 6 last = move off (back_goes l (suc i) (wait i) under h.0 (V.I32 v) (types (suc i) (omega arith))) (back_by l (suc i) (suc i % 3) v under) refl in
        (locals_by l (suc i % 3) v, wider from last (6 * i + 6) (6 * suc i) (omega arith) (join from mid last (6 * i) 6 h.1 back))
