-- Quiet reductions of the slim side.
use Rattle.std.proofs.Common.{◌≡◌, ℕ, suc, ◌+◌, ◌<◌, List, [], ◌∷◌, length, true, refl, sym, ap, ◌∙◌, subst, arith, ⊎_elim}
use Rattle.std.proofs.lemmas.Bool.{cases_lt}
use Rattle.wa_types.specs.Syntax.{Module, Plain, basic, local_get, local_set, local_tee, br, br_if, br_table, return, unreachable, call, call_indirect, Code, done, plain, nest, branch}
use Rattle.wa_types.specs.declared.values.Value.{Value}
use Rattle.wa_model.specs.Configuration.{Activation, Configuration, Label}
use Rattle.wa_model.specs.Step.{Next, step, step_at, steps, with_top}
use Rattle.wa_model.specs.Store.{Store}
use Rattle.wa_model.specs.Untouched.{next_ranges}
use Rattle.flat_runs.specs.Beside.{IsQuiet}
use Rattle.flat_runs.proofs.Shapes.{quiet_reach, quiet_store}
use Rattle.headline.specs.Beside as L
use Rattle.headline.specs.Beside.{QuietGoes}
use Rattle.slim_laws.specs.Beside.{Sides, SameNext, Saving, saves_none, saves_one, Way, way_ends, way_same, way_sets, head_of, sets_local}

-- ---- stretches

pub quiet_on : (p : Module) (c d e : Configuration) (n k : ℕ) → QuietGoes p c n d → QuietGoes p d k e → QuietGoes p c (n + k) e
quiet_on p c d e _ k L.stays g = subst (λ j. QuietGoes p c j e) (let z : k ≡ 0 + k = omega arith in z) g
quiet_on p c d e m k (L.moves {d = c2} {k = j} {n = n} is none keep level rest em) g = L.moves is none keep level (quiet_on p c2 d e n k rest g) (omega arith)

-- the last reduction of a stretch apart
pub record LastOf (p : Module) (c : Configuration) (n : ℕ) (d : Configuration) : Type 0 where
  pub first : ℕ
  pub at : Configuration
  pub before : QuietGoes p c first at
  pub cost : ℕ
  pub acts : step p at ≡ steps cost d
  pub none : next_ranges at ≡ []
  pub keep : d.store ≡ at.store
  pub all : n ≡ first + suc cost

none_goes : (p : Module) (c d : Configuration) (n : ℕ) → QuietGoes p c n d → n ≡ 0 → c ≡ d
none_goes p c _ _ L.stays e = refl
none_goes p c d m (L.moves is none keep level rest em) e = absurd (omega arith)

pub last_of : (p : Module) (c d : Configuration) (n : ℕ) → 0 < n → QuietGoes p c n d → LastOf p c n d
last_of p c _ _ lt L.stays = absurd (omega arith)
last_of p c d m lt (L.moves {d = c2} {k = j} {n = n} is none keep level rest em) =
    ⊎_elim
    (λ pos.
    let l = last_of p c2 d n pos rest in
    let e = l.all in
    record { first = suc j + l.first; at = l.at; before = L.moves is none keep level l.before refl; cost = l.cost; acts = l.acts; none = l.none; keep = l.keep; all = omega arith })
    (λ few.
    let z : n ≡ 0 = omega arith in
    let e = none_goes p c2 d n rest z in
    record { first = 0; at = c; before = L.stays; cost = j; acts = is ∙ ap (λ y. steps j y) e; none = none; keep = ap (λ (y : Configuration). y.store) (sym e) ∙ keep; all = omega arith })
    (cases_lt 0 n)

-- ---- the slim side's way

quiet_plain : (p q : Plain) (rest rest' : Code) → p ≡ q → IsQuiet (plain q rest') → IsQuiet (plain p rest)
quiet_plain p q rest rest' e h = subst (λ z. IsQuiet (plain z rest)) (sym e) (by q h)
  where
    by : (q : Plain) → IsQuiet (plain q rest') → IsQuiet (plain q rest)
    by (basic b) h = absurd h
    by (local_get x) h = tt
    by (local_set x) h = tt
    by (local_tee x) h = tt
    by (br l) h = tt
    by (br_if l) h = tt
    by (br_table ls l) h = tt
    by return h = tt
    by unreachable h = tt
    by (call x) h = tt
    by (call_indirect x) h = tt

quiet_head : (code code' : Code) → head_of code' ≡ head_of code → IsQuiet code → IsQuiet code'
quiet_head code done e h = tt
quiet_head code (nest s r body rest) e h = tt
quiet_head code (branch r a b rest) e h = tt
quiet_head done (plain p rest) e h = cc
quiet_head (nest s r body rest2) (plain p rest) e h = cc
quiet_head (branch r a b rest2) (plain p rest) e h = cc
quiet_head (plain q rest2) (plain p rest) e h = let z : p ≡ q = cc in quiet_plain p q rest rest2 z h

sets_quiet : (code : Code) → sets_local code ≡ true → IsQuiet code
sets_quiet done e = tt
sets_quiet (nest s r body rest) e = tt
sets_quiet (branch r a b rest) e = tt
sets_quiet (plain (basic b) rest) e = cc
sets_quiet (plain (local_get x) rest) e = tt
sets_quiet (plain (local_set x) rest) e = tt
sets_quiet (plain (local_tee x) rest) e = tt
sets_quiet (plain (br l) rest) e = tt
sets_quiet (plain (br_if l) rest) e = tt
sets_quiet (plain (br_table ls l) rest) e = tt
sets_quiet (plain return rest) e = tt
sets_quiet (plain unreachable rest) e = tt
sets_quiet (plain (call x) rest) e = tt
sets_quiet (plain (call_indirect x) rest) e = tt

-- a reduction stays at this depth of calls
abbrev Level : ℕ → Next → Type 0
Level n (steps k d) = length d.under ≡ n
Level n _ = Unit {0}

level_top : (n : ℕ) (ops : List Value) (on : Value → List Value → Next) → ((v : Value) (below : List Value) → Level n (on v below)) → Level n (with_top ops on)
level_top n [] on h = tt
level_top n (v ∷ ops) on h = h v ops

-- so does a set of a local
sets_stay : (p : Module) (s : Store) (fn : ℕ) (us : List Activation) (ls ops : List Value) (labels : List Label) (code : Code) → sets_local code ≡ true
    → Level (length us) (step_at p s fn us ls ops labels code)
sets_stay p s fn us ls ops labels done e = cc
sets_stay p s fn us ls ops labels (nest y r body rest) e = cc
sets_stay p s fn us ls ops labels (branch r a b rest) e = cc
sets_stay p s fn us ls ops labels (plain (basic b) rest) e = cc
sets_stay p s fn us ls ops labels (plain (local_get x) rest) e = cc
sets_stay p s fn us ls ops labels (plain (local_set x) rest) e = level_top (length us) ops _ (λ v below. refl)
sets_stay p s fn us ls ops labels (plain (local_tee x) rest) e = level_top (length us) ops _ (λ v below. refl)
sets_stay p s fn us ls ops labels (plain (br l) rest) e = cc
sets_stay p s fn us ls ops labels (plain (br_if l) rest) e = cc
sets_stay p s fn us ls ops labels (plain (br_table targets l) rest) e = cc
sets_stay p s fn us ls ops labels (plain return rest) e = cc
sets_stay p s fn us ls ops labels (plain unreachable rest) e = cc
sets_stay p s fn us ls ops labels (plain (call x) rest) e = cc
sets_stay p s fn us ls ops labels (plain (call_indirect x) rest) e = cc

sets_level : (p : Module) (c d : Configuration) → sets_local c.here.code ≡ true → step p c ≡ steps 0 d → length d.under ≡ length c.under
sets_level p c d e is = subst (Level (length c.under)) is (sets_stay p c.store c.here.func c.under c.here.locals c.here.operands c.here.labels c.here.code e)

module _ (w : Sides) where
  one_quiet : (c d e : Configuration) (k n m : ℕ) → IsQuiet c.here.code → step w.slim c ≡ steps k d → length d.under ≡ length c.under → QuietGoes w.slim d n e → m ≡ suc k + n → QuietGoes w.slim c m e
  one_quiet c d e k n m q is level rest em = L.moves is (quiet_reach c.here.operands c.here.code q) (quiet_store w.slim c d k q is) level rest em

  pub way_quiet : (c c' d : Configuration) (n : ℕ) → IsQuiet c.here.code → length d.under ≡ length c'.under → Way w c c' n d → QuietGoes w.slim c' n d
  way_quiet c c' _ _ q level way_ends = L.stays
  way_quiet c c' d _ q level (way_same {k = k} sn e) = one_quiet c' d d k 0 (suc k) (quiet_head c.here.code c'.here.code sn.head q) e level L.stays (omega arith)
  way_quiet c c' d m q level (way_sets {n = n} {c2 = c2} is e go em) =
      let same = sets_level w.slim c' c2 is e in
      one_quiet c' c2 d 0 n m (sets_quiet c'.here.code is) e same (way_quiet c c2 d n q (level ∙ sym same) go) (omega arith)

  pub saving_quiet : (c d : Configuration) (n : ℕ) → Saving w c n d → QuietGoes w.slim c n d
  saving_quiet c _ _ saves_none = L.stays
  saving_quiet c d m (saves_one {n = n} {c2 = c2} is e go em) = one_quiet c c2 d 0 n m (sets_quiet c.here.code is) e (sets_level w.slim c c2 is e) (saving_quiet c2 d n go) (omega arith)

  -- Locals are set, and then comes the same reduction, or none.
  pub data WaySplit (c c' : Configuration) (cost : ℕ) (d : Configuration) : Type 0 where
    acts_too : (n : ℕ) → (at : Configuration) → (k : ℕ) → QuietGoes w.slim c' n at → SameNext c at → step w.slim at ≡ steps k d → cost ≡ n + suc k → WaySplit c c' cost d
    quiet_only : QuietGoes w.slim c' cost d → WaySplit c c' cost d

  pub split : (c c' d : Configuration) (n : ℕ) → Way w c c' n d → WaySplit c c' n d
  split c c' _ _ way_ends = quiet_only L.stays
  split c c' d _ (way_same {k = k} sn e) = acts_too 0 c' k L.stays sn e (omega arith)
  split c c' d m (way_sets {n = n} {c2 = c2} is e go em) = by (split c c2 d n go)
    where
      by : WaySplit c c2 n d → WaySplit c c' m d
      by (acts_too j at k g sn e2 ee) = acts_too (suc j) at k (one_quiet c' c2 at 0 j (suc j) (sets_quiet c'.here.code is) e (sets_level w.slim c' c2 is e) g (omega arith)) sn e2 (omega arith)
      by (quiet_only g) = quiet_only (one_quiet c' c2 d 0 n m (sets_quiet c'.here.code is) e (sets_level w.slim c' c2 is e) g (omega arith))
