-- The answer on a module.
use Rattle.std.proofs.Common.{arith, ◌≡◌, ℕ, suc, ◌+◌, ◌-◌, ◌<◌, inl, inr, List, [], ◌∷◌, Some, None, slice_get, refl, sym, ap, ◌∙◌, subst}
use Rattle.wa_types.specs.Syntax.{Func, Module}
use Rattle.wa_types.specs.Typing.{Typed}
use Rattle.wa_types.specs.Modules.{func_imports, around}
use Rattle.wa_types.specs.Validity.{broken_outside}
use Rattle.wa_types.specs.FirstFault.{FuncFault}
use Rattle.wa_types.proofs.TypingLemmas.{less_on}
use Rattle.wa_types.proofs.FaultLemmas.{all_hold_valid}
use Rattle.validate_bodies.specs.Running.{Verdict, fine, fault, body_verdict, Answer, valid, invalid, func_answer, funcs_answer, outside_answer, module_answer}
use Rattle.validate_bodies.specs.BodyVerdicts.{Says}
use Rattle.validate_bodies.proofs.BodyVerdicts.{passes_typed, fails_fault}

-- the functions before this one are typed
abbrev Before : Module → ℕ → Type 0
Before m n = (j : ℕ) → (f : Func) → j < n → slice_get m.funcs j ≡ Some f → Typed (around m f) f.body

abbrev AllTyped : Module → Type 0
AllTyped m = (i : ℕ) → (f : Func) → slice_get m.funcs i ≡ Some f → Typed (around m f) f.body

abbrev FuncsSay : Module → Answer → Type 0
FuncsSay m valid = AllTyped m
FuncsSay m (invalid None rule at) = ⊥
FuncsSay m (invalid (Some x) rule at) = (i : ℕ) × (x ≡ func_imports m + i) × FuncFault m i rule at

same_some : (f g : Func) → Some f ≡ Some g → f ≡ g
same_some f g e = cc

none_here : (f : Func) → None ≡ Some f → ⊥
none_here f e = cc

-- one more function is typed
one_more : (m : Module) (n : ℕ) (f : Func) → Before m n → slice_get m.funcs n ≡ Some f → Typed (around m f) f.body → Before m (suc n)
one_more m n f before found typed j g lt e = elim (less_on j n) [
  | inl l ↦ before j g l e
  | inr ge ↦
      let at : j ≡ n = omega (arith, lt, ge) in
      let same : f ≡ g = same_some f g (sym found ∙ sym (ap (slice_get m.funcs) at) ∙ e) in
      subst (λ (h : Func). Typed (around m h) h.body) same typed
]

funcs_say : (m : Module) (fs : List Func) (n x : ℕ) → x ≡ func_imports m + n → Before m n → ((j : ℕ) → slice_get m.funcs (n + j) ≡ slice_get fs j) → FuncsSay m (funcs_answer m x fs)
funcs_say m [] n x e before rest = λ i f found. elim (less_on i n) [
  | inl l ↦ before i f l found
  | inr ge ↦
      let at : n + (i - n) ≡ i = omega (arith, ge) in
      absurd (none_here f (sym (rest (i - n)) ∙ ap (slice_get m.funcs) at ∙ found))
]
funcs_say m (f ∷ fs) n x e before rest =
    by_verdict (body_verdict (around m f) f.body) refl (λ typed. funcs_say m fs (suc n) (suc x) (omega (arith, e)) (one_more m n f before here typed) (λ j. ap (slice_get m.funcs) (moved j)
    ∙ rest (suc j)))
  where
    here : slice_get m.funcs n ≡ Some f
    here = let z : n ≡ n + 0 = omega arith in ap (slice_get m.funcs) z ∙ rest 0

    moved : (j : ℕ) → suc n + j ≡ n + suc j
    moved j = omega arith

    by_verdict : (v : Verdict) → body_verdict (around m f) f.body ≡ v → (Typed (around m f) f.body → FuncsSay m (funcs_answer m (suc x) fs)) → FuncsSay m (func_answer x v (funcs_answer m (suc x) fs))
    by_verdict fine is go = go (passes_typed (around m f) f.body is)
    by_verdict (fault rule at) is go = (
      n,
      e,
      record { func = f; found = here; before = before; fault = fails_fault (around m f) f.body rule at is },
    )

by_funcs : (m : Module) (a : Answer) → broken_outside m ≡ [] → FuncsSay m a → Says m a
by_funcs m valid outside h = all_hold_valid m outside h
by_funcs m (invalid None rule at) outside h = absurd h
by_funcs m (invalid (Some x) rule at) outside h = (h.0, h.1, outside, h.2)

by_outside : (m : Module) (broken : List ℕ) (a : Answer) → broken_outside m ≡ broken → FuncsSay m a → Says m (outside_answer broken a)
by_outside m [] a e h = by_funcs m a e h
by_outside m (rule ∷ more) a e h = (ap (λ rules. slice_get rules 0) e, refl)

pub module_decided : (m : Module) → Says m (module_answer m)
module_decided m =
    by_outside m (broken_outside m) (funcs_answer m (func_imports m) m.funcs) refl
    (funcs_say m m.funcs 0 (func_imports m) (omega arith) (λ j f lt found. absurd (omega (arith, lt))) (λ j. let z : 0 + j ≡ j = omega arith in ap (slice_get m.funcs) z))
