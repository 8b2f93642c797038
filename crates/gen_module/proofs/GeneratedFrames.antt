-- The frames of generated functions, their numbered calls, and what they weigh.
use Rattle.std.proofs.Common.{arith, ◌≡◌, ◌≤◌, ◌<◌, ℕ, zero, suc, ◌+◌, ◌-◌, ◌*◌, ◌%◌, List, [], ◌∷◌, ◌++◌, length, map, All, Option, Some, None, refl, sym, ap, ◌∙◌, subst, ⊎_elim}
use Rattle.std.proofs.lemmas.Bool.{cases_lt}
use Rattle.std.specs.Prelude.{Bool, true, false, Contains, if◌then◌else◌, replicate, slice_get, ◌||◌}
use Rattle.std.specs.List.{list_any, sum_by}
use Rattle.std.proofs.lemmas.List.{length-map, length-replicate}
use Rattle.std.proofs.lemmas.List.Sums.{sum_by-cons}
use Rattle.std.proofs.lemmas.Option.{slice_get_within}
use Rattle.std.proofs.lemmas.List.Elements.{All-nil, All-cons, All-head, All-tail}
use Rattle.wa_types.specs.declared.values.ValType.{ValType}
use Rattle.wa_types.specs.declared.values.ValType.TheVariants.{I32}
use Rattle.wa_types.specs.Base.{Base}
use Rattle.wa_types.specs.Bounds.{Weight, activation_bound, code_weight, weight_of_found}
use Rattle.wa_types.specs.Frames.{FrameSize, Pair, Place, Suspended, frame_of, greatest, named_places, pairs_from, size_of_found, slot_places, stands_at, width}
use Rattle.wa_types.specs.Modules.{defined_at, func_sorts, func_type_at, func_types, type_at}
use Rattle.wa_types.specs.Pausing.{Callee, Listed, MayPause, Numbered, TellsMayPause, calls_in, calls_listed, calls_of, calls_indirectly, calls_pausing, direct, has_number, is_told, places_from, save_all}
use Rattle.wa_types.specs.Points.{points}
use Rattle.wa_types.specs.Pruned.{pruned}
use Rattle.wa_types.specs.Syntax.{Code, Func, FuncType, Module}
use Rattle.wa_types.specs.Typing.{Around, GlobalType}
use Rattle.wa_model.specs.Behaves.{StandsNumbered}
use Rattle.wa_model.specs.Configuration.{Activation, Label, place_of, suspended}
use Rattle.run_theory.proofs.Runs.{lt_false}
use Rattle.gen_module.specs.Generated.{one_to_one, first_code, adding, deciding, looping, func_by, func_with, generated_func, generated_funcs, generated}
use Rattle.gen_module.specs.GeneratedRuns.{all_listed}
use Rattle.gen_module.proofs.GeneratedModules.{func_count}
use Rattle.gen_module.proofs.GeneratedSteps.{first_waits, wait, wait_by, waits_under}
use Rattle.gen_module.proofs.GeneratedTypes.{all_sorts, type_there}

-- ---- functions by index

in_front : (fs gs : List Func) (k : ℕ) → k < length fs → slice_get (fs ++ gs) k ≡ slice_get fs k
in_front [] gs k lt = absurd (omega arith)
in_front (f ∷ fs) gs zero lt = refl
in_front (f ∷ fs) gs (suc k) lt = in_front fs gs k (omega arith)

at_last : (fs : List Func) (g : Func) (k : ℕ) → k ≡ length fs → slice_get (fs ++ g ∷ []) k ≡ Some g
at_last [] g zero e = refl
at_last [] g (suc k) e = absurd (omega arith)
at_last (f ∷ fs) g zero e = absurd (omega arith)
at_last (f ∷ fs) g (suc k) e = at_last fs g k (omega arith)

pub func_there : (n k : ℕ) → k < n → slice_get (generated_funcs n) k ≡ Some (generated_func k)
func_there zero k lt = absurd (omega arith)
func_there (suc n) k lt =
    let count = func_count n in
    ⊎_elim
    (λ less. in_front (generated_funcs n) (generated_func n ∷ []) k (omega arith) ∙ func_there n k less)
    (λ more. let same : n ≡ k = omega arith in at_last (generated_funcs n) (generated_func n) k (omega arith) ∙ ap (λ i. Some (generated_func i)) same)
    (cases_lt k n)

-- the function of index k + 1 is that of number k
found_at : (n k : ℕ) → defined_at (generated n) (suc k) ≡ slice_get (generated_funcs n) k
unfolding generated
found_at n k =
    let z : suc k - 1 ≡ k = omega arith in
    ap (λ (b : Bool). if b then None else slice_get (generated_funcs n) (suc k - 1)) (lt_false (suc k) 1 (omega arith)) ∙ ap (slice_get (generated_funcs n)) z

pub defined_there : (n k : ℕ) → k < n → defined_at (generated n) (suc k) ≡ Some (generated_func k)
defined_there n k lt = found_at n k ∙ func_there n k lt

pub typed_there : (n x : ℕ) → x ≤ n → func_type_at (generated n) x ≡ one_to_one
typed_there n x le = ap (λ (t : Option FuncType). elim t [ None ↦ record { params = []; results = [] } | Some y ↦ y ]) (type_there n x le)

pub base_defined : (m : Module) (x : ℕ) → defined_at (Base m) x ≡ defined_at m x
unfolding Base
base_defined m x = refl

pub base_typed : (m : Module) (x : ℕ) → func_type_at (Base m) x ≡ func_type_at m x
unfolding Base
base_typed m x = refl

-- ---- which functions may pause

-- all but the import
abbrev pub which : ℕ → List Bool
which n = false ∷ replicate n true

trues : (n k : ℕ) → k < n → slice_get {X = Bool} (replicate n true) k ≡ Some true
trues zero k lt = absurd (omega arith)
trues (suc n) zero lt = refl
trues (suc n) (suc k) lt = trues n k (omega arith)

pub told : (n k : ℕ) → k < n → slice_get (which n) (suc k) ≡ Some true
told n k lt = trues n k lt

trues_within : (n k : ℕ) → slice_get {X = Bool} (replicate n true) k ≡ Some true → k < n
trues_within zero k e = cc
trues_within (suc n) zero e = omega arith
trues_within (suc n) (suc k) e = let lt = trues_within n k e in omega arith

-- each function has one call, of that before it
calls_by : (x r : ℕ) → calls_in (func_by x r) ≡ direct x ∷ []
unfolding calls_of pruned
calls_by x zero = refl
calls_by x (suc zero) = refl
calls_by x (suc (suc k)) = refl

calls_first : calls_in (func_with [] first_code) ≡ direct 0 ∷ []
unfolding calls_of pruned
calls_first = refl

pub listed_one : (n : ℕ) → Listed (generated n) all_listed ≡ true ∷ []
unfolding generated
listed_one n = refl

may : (n k : ℕ) → k < n → MayPause (generated n) all_listed (suc k)
may n zero lt = calls_listed 1 (func_with [] first_code) 0 0 (defined_there n 0 lt) (ap (λ cs. slice_get cs 0) calls_first) (ap (λ bs. slice_get bs 0) (listed_one n))
may n (suc i) lt =
    calls_pausing (suc (suc i)) (func_by (suc i) (suc i % 3)) 0 (suc i) (defined_there n (suc i) lt) (ap (λ cs. slice_get cs 0) (calls_by (suc i) (suc i % 3))) (may n i (omega arith))

is_defined : (m : Module) (x : ℕ) → MayPause m all_listed x → (f : Func) × (defined_at m x ≡ Some f)
is_defined m _ (calls_listed x f place i found calls listed) = (f, found)
is_defined m _ (calls_indirectly x f place sort found calls heeded) = (f, found)
is_defined m _ (calls_pausing x f place y found calls h) = (f, found)

import_undefined : (n : ℕ) (f : Func) → defined_at (generated n) 0 ≡ Some f → ⊥
unfolding generated
import_undefined n f e = cc

told_of : (n x : ℕ) → MayPause (generated n) all_listed x → slice_get (which n) x ≡ Some true
told_of n zero h = let d = is_defined (generated n) 0 h in absurd (import_undefined n d.0 d.1)
told_of n (suc k) h =
    let d = is_defined (generated n) (suc k) h in
    let count = func_count n in
    let lt : k < length (generated_funcs n) = slice_get_within (generated_funcs n) k d.0 (sym (found_at n k) ∙ d.1) in
    trues n k (omega arith)

may_of : (n x : ℕ) → slice_get (which n) x ≡ Some true → MayPause (generated n) all_listed x
may_of n zero e = cc
may_of n (suc k) e = may n k (trues_within n k e)

which_length : (n : ℕ) → length (which n) ≡ length (func_sorts (generated n))
which_length n = let a = length-replicate {A = Bool} n true in let b = length-replicate {A = ℕ} (suc n) 0 in let c = ap length (all_sorts n) in omega (arith, a, b, c)

pub tells_which : (n : ℕ) → TellsMayPause (generated n) all_listed (which n)
tells_which n = record { len = which_length n; each = λ x. (may_of n x, told_of n x) }

-- ---- slots and frames

-- the slots of code with this around it
abbrev slots_in : Around → Code → List Pair
slots_in c body = pairs_from (λ h t. list_any (stands_at h t) (points c (c.result ∷ []) body [] [])) 0 (greatest (points c (c.result ∷ []) body [] []))

abbrev around_by : List FuncType → List FuncType → Bool → Bool → List GlobalType → List ValType → Around
around_by ts fs table memory gs ls = record { types = ts; funcs = fs; table = table; memory = memory; globals = gs; locals = ls; result = Some I32 }

abbrev two_slots : List Pair
two_slots = record { number = 0; ty = I32 } ∷ record { number = 1; ty = I32 } ∷ []

module _ (ts fs : List FuncType) (table memory : Bool) (gs : List GlobalType) where
  looping_slots : (x : ℕ) → slice_get fs x ≡ Some one_to_one → slots_in (around_by ts fs table memory gs (I32 ∷ I32 ∷ [])) (pruned (looping x)) ≡ record { number = 0; ty = I32 } ∷ []
  unfolding pruned points
  looping_slots x f = rw f refl

  adding_slots : (x : ℕ) → slice_get fs x ≡ Some one_to_one → slots_in (around_by ts fs table memory gs (I32 ∷ [])) (pruned (adding x)) ≡ two_slots
  unfolding pruned points
  adding_slots x f = rw f refl

  deciding_slots : (x : ℕ) → slice_get fs x ≡ Some one_to_one → slots_in (around_by ts fs table memory gs (I32 ∷ [])) (pruned (deciding x)) ≡ two_slots
  unfolding pruned points
  deciding_slots x f = rw f refl

  first_slots : slice_get fs 0 ≡ Some one_to_one → slots_in (around_by ts fs table memory gs (I32 ∷ [])) (pruned first_code) ≡ two_slots
  unfolding pruned points
  first_slots f = rw f refl

-- the bytes of a frame of a function of these locals and slots
abbrev frame_by : List ValType → List Pair → ℕ
frame_by ls slots = 4 + sum_by (λ (p : Place). width p.ty) (named_places (λ x. true) 0 ls ++ slot_places (λ p. true) (length ls) slots)

module _ (n place : ℕ) where
  abbrev Frames16 : Func → Type 0
  Frames16 f = FrameSize (generated n) save_all f place ≡ 16

  by_frame : (x r : ℕ) → x ≤ n → Frames16 (func_by x r)
  unfolding generated
  by_frame x zero le = ap (frame_by (I32 ∷ I32 ∷ [])) (looping_slots (one_to_one ∷ []) (func_types (generated n)) false false [] x (type_there n x le))
  by_frame x (suc zero) le = ap (frame_by (I32 ∷ [])) (adding_slots (one_to_one ∷ []) (func_types (generated n)) false false [] x (type_there n x le))
  by_frame x (suc (suc k)) le = ap (frame_by (I32 ∷ [])) (deciding_slots (one_to_one ∷ []) (func_types (generated n)) false false [] x (type_there n x le))

  first_frame : Frames16 (func_with [] first_code)
  unfolding generated
  first_frame = ap (frame_by (I32 ∷ [])) (first_slots (one_to_one ∷ []) (func_types (generated n)) false false [] (type_there n 0 (omega arith)))

-- ---- weights

module _ (m : Module) (one : type_at m 0 ≡ one_to_one) where
  by_weight : (x r : ℕ) → func_type_at m x ≡ one_to_one → Weight m (func_by x r) ≤ 10
  unfolding code_weight pruned
  by_weight x zero t =
      let a : length (func_type_at m x).params ≡ 1 = ap (λ (y : FuncType). length y.params) t in
      let b : length ((type_at m 0).params ++ I32 ∷ []) ≡ 2 = ap (λ (y : FuncType). length (y.params ++ I32 ∷ [])) one in omega (arith, a, b)
  by_weight x (suc zero) t =
      let a : length (func_type_at m x).params ≡ 1 = ap (λ (y : FuncType). length y.params) t in
      let b : length ((type_at m 0).params ++ []) ≡ 1 = ap (λ (y : FuncType). length (y.params ++ [])) one in omega (arith, a, b)
  by_weight x (suc (suc k)) t =
      let a : length (func_type_at m x).params ≡ 1 = ap (λ (y : FuncType). length y.params) t in
      let b : length ((type_at m 0).params ++ []) ≡ 1 = ap (λ (y : FuncType). length (y.params ++ [])) one in omega (arith, a, b)

  first_weight : func_type_at m 0 ≡ one_to_one → Weight m (func_with [] first_code) ≤ 10
  unfolding code_weight pruned
  first_weight t =
      let a : length (func_type_at m 0).params ≡ 1 = ap (λ (y : FuncType). length y.params) t in
      let b : length ((type_at m 0).params ++ []) ≡ 1 = ap (λ (y : FuncType). length (y.params ++ [])) one in omega (arith, a, b)

-- ---- suspended functions

-- An activation of a generated module that waits: at its numbered call, with a frame of 16 bytes.
pub record Waits (n : ℕ) (a : Suspended) : Type 0 where
  pub numbered : StandsNumbered (generated n) all_listed (which n) a
  pub frame : frame_of (generated n) save_all a ≡ 16
  pub weight : activation_bound (generated n) a ≤ 1792

place_zero : (o : Option Func) (f : Func) (x : ℕ) (code : Code) (labels : List Label) → o ≡ Some f → calls_in f ≡ direct x ∷ [] → place_of o code labels ≡ 0
place_zero None f x code labels e one = cc
place_zero (Some g) f x code labels e one =
    let same : g ≡ f = cc in let len : length (calls_in g) ≡ 1 = ap (λ (h : Func). length (calls_in h)) same ∙ ap length one in omega (arith, len)

first_numbered : (n x : ℕ) (f : Func) → calls_in f ≡ direct x ∷ [] → has_number (generated n) all_listed (which n) (direct x) ≡ true → Contains (Numbered (generated n) all_listed (which n) f) 0
first_numbered n x f one h =
    let test : Callee → Bool = has_number (generated n) all_listed (which n) in
    let same : Numbered (generated n) all_listed (which n) f ≡ 0 ∷ [] =
    ap (places_from test 0) one ∙ ap (λ (b : Bool). if b then 0 ∷ [] else []) h in
    subst (λ ps. Contains ps 0) (sym same) (0, omega arith, refl)

-- a function that waits at its one call of the function of index x
waits_by : (n k x : ℕ) (f : Func) (a : Activation) → k < n → a.func ≡ suc k → defined_at (generated n) (suc k) ≡ Some f → calls_in f ≡ direct x ∷ []
    → has_number (generated n) all_listed (which n) (direct x) ≡ true
    → ((place : ℕ) → FrameSize (generated n) save_all f place ≡ 16) → Weight (generated n) f ≤ 10 → Waits n (suspended (Base (generated n)) a)
waits_by n k x f a lt is d one h frame weight =
    let s : Suspended = suspended (Base (generated n)) a in
    let found : defined_at (generated n) a.func ≡ Some f = ap (defined_at (generated n)) is ∙ d in
    let zero_place : s.place ≡ 0 = place_zero (defined_at (Base (generated n)) a.func) f x a.code a.labels (base_defined (generated n) a.func ∙ found) one in
    let heavy : weight_of_found (generated n) (defined_at (generated n) a.func) ≡ Weight (generated n) f = ap (weight_of_found (generated n)) found in
    record {
      numbered = record {
        instrumented = ap (slice_get (which n)) is ∙ told n k lt;
        numbered = (f, found, subst (Contains (Numbered (generated n) all_listed (which n) f)) (sym zero_place) (first_numbered n x f one h));
      };
      frame = ap (λ o. size_of_found (generated n) save_all o s.place) found ∙ frame s.place;
      weight = omega (arith, heavy, weight);
    }

has_number_by : (n k : ℕ) → k < n → has_number (generated n) all_listed (which n) (direct (suc k)) ≡ true
has_number_by n k lt = ap (λ bs. is_told (slice_get bs (suc k)) || is_told (slice_get (which n) (suc k))) (listed_one n) ∙ ap (λ (o : Option Bool). is_told o) (told n k lt)

first_has_number : (n : ℕ) → has_number (generated n) all_listed (which n) (direct 0) ≡ true
first_has_number n = ap (λ bs. is_told (slice_get bs 0) || is_told (slice_get (which n) 0)) (listed_one n)

wait_func : (x r : ℕ) → (wait_by x r).func ≡ suc x
wait_func x zero = refl
wait_func x (suc zero) = refl
wait_func x (suc (suc k)) = refl

type_zero : (n : ℕ) → type_at (generated n) 0 ≡ one_to_one
unfolding generated
type_zero n = refl

first_fine : (n : ℕ) → 0 < n → Waits n (suspended (Base (generated n)) first_waits)
first_fine n lt =
    waits_by n 0 0 (func_with [] first_code) first_waits lt refl (defined_there n 0 lt) calls_first (first_has_number n) (λ place. first_frame n place)
    (first_weight (generated n) (type_zero n) (typed_there n 0 (omega arith)))

wait_fine : (n i : ℕ) → suc i < n → Waits n (suspended (Base (generated n)) (wait i))
wait_fine n i lt =
    waits_by n (suc i) (suc i) (func_by (suc i) (suc i % 3)) (wait i) lt (wait_func (suc i) (suc i % 3)) (defined_there n (suc i) lt) (calls_by (suc i) (suc i % 3))
    (has_number_by n i (omega arith)) (λ place. by_frame n place (suc i) (suc i % 3) (omega arith))
    (by_weight (generated n) (type_zero n) (suc i) (suc i % 3) (typed_there n (suc i) (omega arith)))

abbrev stack_by : ℕ → List Activation → List Suspended
stack_by n waiting = map (suspended (Base (generated n))) waiting

under_fine : (n k : ℕ) (under : List Activation) → k < n → All (Waits n) (stack_by n under) → All (Waits n) (stack_by n (waits_under k under))
under_fine n zero under lt all = all
under_fine n (suc i) under lt all =
    under_fine n i (wait i ∷ under) (omega arith) (All-cons (Waits n) (suspended (Base (generated n)) (wait i)) (stack_by n under) (wait_fine n i lt) all)

under_length : (k : ℕ) (under : List Activation) → length (waits_under k under) ≡ k + length under
under_length zero under = omega arith
under_length (suc i) under = let on = under_length i (wait i ∷ under) in omega (arith, on)

-- the stack at the call of the import, where the function of this number was entered
unfoldable pub generated_stack : (n k : ℕ) → List Suspended
generated_stack n k = stack_by n (first_waits ∷ waits_under k [])

pub stack_fine : (n k : ℕ) → k < n → All (Waits n) (generated_stack n k)
unfolding generated_stack
stack_fine n k lt =
    All-cons (Waits n) (suspended (Base (generated n)) first_waits) (stack_by n (waits_under k [])) (first_fine n (omega arith)) (under_fine n k [] lt (All-nil (Waits n)))

pub stack_length : (n k : ℕ) → length (generated_stack n k) ≡ suc k
unfolding generated_stack
stack_length n k =
    let a = length-map (waits_under k []) (suspended (Base (generated n))) in
    let b = under_length k [] in omega (arith, a, b)

-- ---- sums

pub frames_sum : (n : ℕ) (stack : List Suspended) → All (Waits n) stack → sum_by (frame_of (generated n) save_all) stack ≡ 16 * length stack
frames_sum n [] all = refl
frames_sum n (a ∷ stack) all =
    let w = All-head (Waits n) a stack all in
    let one = w.frame in
    let split = sum_by-cons (frame_of (generated n) save_all) a stack in
    let on = frames_sum n stack (All-tail (Waits n) a stack all) in omega (arith, one, on, split)

pub bounds_sum : (n : ℕ) (stack : List Suspended) → All (Waits n) stack → sum_by (activation_bound (generated n)) stack ≤ 1792 * length stack
bounds_sum n [] all = omega arith
bounds_sum n (a ∷ stack) all =
    let w = All-head (Waits n) a stack all in
    let one = w.weight in
    let split = sum_by-cons (activation_bound (generated n)) a stack in
    let on = bounds_sum n stack (All-tail (Waits n) a stack all) in omega (arith, one, on, split)
