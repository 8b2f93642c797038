-- A module has one first fault, and a valid one has none.
use Rattle.std.proofs.Common.{arith, ◌≡◌, ℕ, suc, ◌+◌, ◌<◌, inl, inr, List, [], ◌∷◌, Option, Some, None, Bool, true, false, slice_get, refl, sym, ap, ◌∙◌, subst}
use Rattle.wa_types.specs.declared.rules.Rule.{Rule}
use Rattle.wa_types.specs.Rules.{above_all}
use Rattle.wa_types.specs.Syntax.{Code, Func, Module}
use Rattle.wa_types.specs.Typing.{Around, listed, Typed}
use Rattle.wa_types.specs.Modules.{func_imports, around}
use Rattle.wa_types.specs.Validity.{types_there, funcs_there, tables_there, memories_there, globals_there, all_limits_fit, one_each, all_constant, names_differ, start_lawful, one_result}
use Rattle.wa_types.specs.Validity.{Valid, unless, broken_outside}
use Rattle.wa_types.specs.FirstFault.{BodyFault, FuncFault, FirstFault, cut}
use Rattle.wa_types.proofs.TypingLemmas.{at_upto, typed_upto, upto_fewer, upto_less, less_on}
use Rattle.wa_types.proofs.Cuts.{cut_typed, typed_cut}

-- A body with a fault has no type.
pub fault_not_typed : (c : Around) (body : Code) (r at : ℕ) → BodyFault c body r at → Typed c body → ⊥
fault_not_typed c body r at f h = f.fails (typed_upto (suc r) c (c.result ∷ []) body (listed c.result) [] (suc at) h)

no_sooner : (c : Around) (body : Code) (r s at to : ℕ) → BodyFault c body r at → BodyFault c body s to → at < to → ⊥
no_sooner c body r s at to f g lt = f.fails (upto_less s (suc r) c (c.result ∷ []) body (listed c.result) [] (suc at) (suc to) (omega arith) g.before)

no_less : (c : Around) (body : Code) (r s at to : ℕ) → BodyFault c body r at → BodyFault c body s to → at ≡ to → r < s → ⊥
no_less c body r s at to f g e lt =
    f.fails (at_upto (suc r) c (c.result ∷ []) body (listed c.result) [] (suc to) (suc at) (omega arith)
    (upto_fewer s (suc r) c (c.result ∷ []) body (listed c.result) [] (suc to) (omega arith) g.before))

same_place : (c : Around) (body : Code) (r s at to : ℕ) → BodyFault c body r at → BodyFault c body s to → at ≡ to
same_place c body r s at to f g = elim (less_on at to) [
  | inl l ↦ absurd (no_sooner c body r s at to f g l)
  | inr l ↦ elim (less_on to at) [ inl m ↦ absurd (no_sooner c body s r to at g f m) | inr m ↦ omega arith ]
]

-- A body has one fault.
pub one_body_fault : (c : Around) (body : Code) (r s at to : ℕ) → BodyFault c body r at → BodyFault c body s to → (r ≡ s) × (at ≡ to)
one_body_fault c body r s at to f g =
    let e = same_place c body r s at to f g in (
      elim (less_on r s) [
        | inl l ↦ absurd (no_less c body r s at to f g e l)
        | inr l ↦ elim (less_on s r) [ inl m ↦ absurd (no_less c body s r to at g f (sym e) m) | inr m ↦ omega arith ]
      ],
      e,
    )

-- the function of a fault comes no sooner than another's
not_before : (m : Module) (i j r s at to : ℕ) → FuncFault m i r at → FuncFault m j s to → i < j → ⊥
not_before m i j r s at to f g lt = fault_not_typed (around m f.func) f.func.body r at f.fault (g.before i f.func lt f.found)

same_func : (m : Module) (i j r s at to : ℕ) → FuncFault m i r at → FuncFault m j s to → i ≡ j
same_func m i j r s at to f g = elim (less_on i j) [
  | inl l ↦ absurd (not_before m i j r s at to f g l)
  | inr l ↦ elim (less_on j i) [ inl k ↦ absurd (not_before m j i s r to at g f k) | inr k ↦ omega arith ]
]

some_same : {X : Type 0} (o : Option X) (x y : X) → o ≡ Some x → o ≡ Some y → x ≡ y
some_same o x y e f = let g : Some x ≡ Some y = sym e ∙ f in cc

found_same : (m : Module) (i j : ℕ) (f g : Func) → slice_get m.funcs i ≡ Some f → slice_get m.funcs j ≡ Some g → i ≡ j → f ≡ g
found_same m i j f g e h same = some_same (slice_get m.funcs j) f g (sym (ap (slice_get m.funcs) same) ∙ e) h

moved_fault : (m : Module) (f g : Func) (r at : ℕ) → f ≡ g → BodyFault (around m f) f.body r at → BodyFault (around m g) g.body r at
moved_fault m f g r at e h = subst (λ (z : Func). BodyFault (around m z) z.body r at) e h

-- Functions have one first fault.
one_func_fault : (m : Module) (i j r s at to : ℕ) → FuncFault m i r at → FuncFault m j s to → (i ≡ j) × ((r ≡ s) × (at ≡ to))
one_func_fault m i j r s at to f g =
    let e = same_func m i j r s at to f g in
    (e, one_body_fault (around m g.func) g.func.body r s at to (moved_fault m f.func g.func r at (found_same m i j f.func g.func f.found g.found e) f.fault) g.fault)

none_broken : (m : Module) (r : ℕ) → slice_get (broken_outside m) 0 ≡ Some r → broken_outside m ≡ [] → ⊥
none_broken m r e h = let k : None ≡ Some r = sym (ap (λ z. slice_get z 0) h) ∙ e in cc

-- A module has one first fault.
pub one_first_fault : (m : Module) (x y : Option ℕ) (r s at to : ℕ) → FirstFault m x r at → FirstFault m y s to → (x ≡ y) × (r ≡ s) × (at ≡ to)
one_first_fault m None None r s at to f g = (refl, some_same (slice_get (broken_outside m) 0) r s f.0 g.0, f.1 ∙ sym g.1)
one_first_fault m None (Some y) r s at to f g = absurd (none_broken m r f.0 g.2)
one_first_fault m (Some x) None r s at to f g = absurd (none_broken m s g.0 f.2)
one_first_fault m (Some x) (Some y) r s at to f g =
    let e = one_func_fault m f.0 g.0 r s at to f.3 g.3 in (ap Some (f.1 ∙ ap (λ i. func_imports m + i) e.0 ∙ sym g.1), e.1.0, e.1.1)

unless_true : (b : Bool) (r : Rule) (more : List ℕ) → b ≡ true → unless b r more ≡ more
unless_true true r more e = refl
unless_true false r more e = cc

-- A valid module breaks no rule outside its bodies.
pub valid_outside : (m : Module) → Valid m → broken_outside m ≡ []
valid_outside m v =
    unless_true (types_there m) _ _ v.sorts
    ∙ unless_true (funcs_there m) _ _ v.funcs
    ∙ unless_true (tables_there m) _ _ v.tables
    ∙ unless_true (memories_there m) _ _ v.memories
    ∙ unless_true (globals_there m) _ _ v.globals
    ∙ unless_true (all_limits_fit m) _ _ v.limits
    ∙ unless_true (one_each m) _ _ v.single
    ∙ unless_true (all_constant m) _ _ v.constants
    ∙ unless_true (names_differ m) _ _ v.names
    ∙ unless_true (start_lawful m) _ _ v.start
    ∙ unless_true (one_result m) _ [] v.types

-- A valid module has no first fault.
pub valid_no_fault : (m : Module) (x : Option ℕ) (r at : ℕ) → Valid m → FirstFault m x r at → ⊥
valid_no_fault m None r at v f = none_broken m r f.0 (valid_outside m v)
valid_no_fault m (Some x) r at v f =
    fault_not_typed (around m f.3.func) f.3.func.body r at f.3.fault (v.bodies f.0 f.3.func f.3.found)

unless_false : (b : Bool) (r : Rule) (more : List ℕ) → unless b r more ≡ [] → (b ≡ true) × (more ≡ [])
unless_false true r more e = (refl, e)
unless_false false r more e = cc

-- A module that breaks no rule outside its bodies and whose bodies are typed is valid.
pub all_hold_valid : (m : Module) → broken_outside m ≡ [] → ((i : ℕ) → (f : Func) → slice_get m.funcs i ≡ Some f → Typed (around m f) f.body) → Valid m
all_hold_valid m e bodies =
    let a = unless_false (types_there m) _ _ e in
    let b = unless_false (funcs_there m) _ _ a.1 in
    let c = unless_false (tables_there m) _ _ b.1 in
    let d = unless_false (memories_there m) _ _ c.1 in
    let f = unless_false (globals_there m) _ _ d.1 in
    let g = unless_false (all_limits_fit m) _ _ f.1 in
    let h = unless_false (one_each m) _ _ g.1 in
    let i = unless_false (all_constant m) _ _ h.1 in
    let j = unless_false (names_differ m) _ _ i.1 in
    let k = unless_false (start_lawful m) _ _ j.1 in
    let l = unless_false (one_result m) _ [] k.1 in
    record {
      types = l.0;
      sorts = a.0;
      bodies = bodies;
      limits = g.0;
      single = h.0;
      constants = i.0;
      globals = f.0;
      tables = c.0;
      memories = d.0;
      funcs = b.0;
      start = k.0;
      names = j.0;
    }

-- Before its fault a body is typed as far as it goes, and with it it isn't.
pub fault_is_first : (c : Around) (body : Code) (r at : ℕ) → BodyFault c body r at → Typed c (cut at body) × (Typed c (cut (suc at) body) → ⊥)
fault_is_first c body r at f = (
  cut_typed c (c.result ∷ []) body (listed c.result) [] at (upto_less r above_all c (c.result ∷ []) body (listed c.result) [] at (suc at) (omega arith) f.before),
  λ h. f.fails (typed_cut (suc r) c (c.result ∷ []) body (listed c.result) [] (suc at) h),
)
