-- What is asked of the small module: it is valid and well formed, keeps the size rule, and its function may pause.
use Rattle.std.proofs.Common.{None, Some, [], arith, refl, subst, sym, zero, suc, ℕ, ◌-◌, ◌<◌, ◌^◌, ◌∙◌, ◌∷◌, ◌≡◌, ◌≤◌}
use Rattle.std.specs.Prelude.{Bool, Contains, codes, false, if◌then◌else◌, nat_lt, slice_get, true}
use Rattle.std.proofs.lemmas.List.Elements.{All-cons, All-nil}
use Rattle.std.proofs.lemmas.Option.{slice_get_past}
use Rattle.wa_types.specs.declared.syntax.Export.{Export}
use Rattle.wa_types.specs.declared.syntax.Run.{Run}
use Rattle.wa_types.specs.declared.values.ValType.TheVariants.{I32}
use Rattle.wa_types.specs.Counts.{depth_of}
use Rattle.wa_types.specs.Frames.{Count, results_in}
use Rattle.wa_types.specs.Modules.{around, defined_at}
use Rattle.wa_types.specs.Pausing.{Policy, Settings, MayPause, TellsMayPause, calls_indirectly, calls_listed, calls_of, calls_pausing, is_told}
use Rattle.wa_types.specs.Points.{points}
use Rattle.wa_types.specs.Pruned.{pruned}
use Rattle.wa_types.specs.Runtime.{runtime_names}
use Rattle.wa_types.specs.Sizes.{CodeFits, ElemFits, ElemSizes, CustomFits, ExportFits, FuncFits, FuncSizes, ImportFits, LimitsFit, SegmentFits, SegmentSizes, StrictSizeRule, TypeSizes, WellFormed, code_items, code_lists, code_params}
use Rattle.wa_types.specs.Syntax.{Func, GlobalDef}
use Rattle.wa_types.specs.Typing.{Takes, Typed, Types, moves}
use Rattle.wa_types.specs.Validity.{Valid}
use Rattle.run_theory.specs.Quiet.{FreeOfNames}
use Rattle.emitted_form.specs.PolicyLaws.{CanBeEmitted}
use Rattle.image_laws.specs.Example.{adding, may_pause, sample, saving}

-- ---- validity

body_typed : Typed (around sample adding) adding.body
unfolding Types
body_typed =
    let one = I32 ∷ [] in let two = I32 ∷ I32 ∷ [] in let three = I32 ∷ I32 ∷ I32 ∷ [] in
    let add : Takes (moves two one) two one = ([], refl, refl) in
    (one, ([], refl, refl), (two, (one, refl, refl), (three, (two, refl, refl), (two, (one, refl, refl), (two, (one, refl, refl), (one, add, refl))))))

bodies_typed : (i : ℕ) (f : Func) → slice_get sample.funcs i ≡ Some f → Typed (around sample f) f.body
bodies_typed zero f e = let z : adding ≡ f = cc in subst (λ (g : Func). Typed (around sample g) g.body) z body_typed
bodies_typed (suc i) f e = cc

valid_there : Valid sample
valid_there = record {
  types = refl;
  sorts = refl;
  bodies = bodies_typed;
  limits = refl;
  single = refl;
  constants = refl;
  globals = refl;
  tables = refl;
  memories = refl;
  funcs = refl;
  start = refl;
  names = refl;
}

-- ---- sizes

sizes_there : StrictSizeRule sample
unfolding code_items code_params
sizes_there = record {
  types = omega arith;
  each_type = All-cons (TypeSizes (2 ^ 31)) _ [] (record { params = omega arith; results = omega arith }) (All-nil (TypeSizes (2 ^ 31)));
  imports = omega arith;
  funcs = omega arith;
  tables = omega arith;
  memories = omega arith;
  globals = omega arith;
  exports = omega arith;
  elems = omega arith;
  segments = omega arith;
  each_func = All-cons (FuncSizes (2 ^ 31) (2 ^ 31) sample) adding [] (record { runs = omega arith; labels = (tt, (tt, (tt, (tt, (tt, (tt, tt)))))); total = omega arith })
      (All-nil (FuncSizes (2 ^ 31) (2 ^ 31) sample));
  each_global = All-nil (λ (g : GlobalDef). code_lists (2 ^ 31) g.init);
  each_elem = All-nil (ElemSizes (2 ^ 31));
  each_segment = All-nil (SegmentSizes (2 ^ 31));
}

few_locals : Count sample adding ≡ 8
unfolding pruned points results_in depth_of
few_locals = refl

few_there : (x : ℕ) (f : Func) → defined_at sample x ≡ Some f → is_told (slice_get may_pause x) ≡ true → Count sample f ≤ 50000
few_there zero f e h = cc
few_there (suc zero) f e h = let z : adding ≡ f = cc in let c = few_locals in subst (λ (g : Func). Count sample g ≤ 50000) z (omega arith)
few_there (suc (suc x)) f e h = cc

-- ---- which functions may pause

-- past the function there is none
pick : (b : Bool) (k : ℕ) → 1 ≤ k → (if b then None else slice_get sample.funcs k) ≡ None
pick true k h = refl
pick false k h = slice_get_past sample.funcs k h

none_past : (n : ℕ) (f : Func) → defined_at sample (suc (suc n)) ≡ Some f → ⊥
none_past n f e = let past : None ≡ Some f = sym (pick (nat_lt (suc (suc n)) 1) (suc (suc n) - 1) (omega arith)) ∙ e in cc

-- what may pause is defined
is_defined : (s : Settings) (x : ℕ) → MayPause sample s x → (f : Func) × (defined_at sample x ≡ Some f)
is_defined s _ (calls_listed x f place i found calls listed) = (f, found)
is_defined s _ (calls_indirectly x f place sort found calls heeded) = (f, found)
is_defined s _ (calls_pausing x f place y found calls h) = (f, found)

told_pauses : (policy : Policy) (x : ℕ) → slice_get may_pause x ≡ Some true → MayPause sample (saving policy) x
unfolding calls_of pruned
told_pauses policy zero e = cc
told_pauses policy (suc zero) e = calls_listed 1 adding 0 0 refl refl refl
told_pauses policy (suc (suc x)) e = cc

pauses_told : (policy : Policy) (x : ℕ) → MayPause sample (saving policy) x → slice_get may_pause x ≡ Some true
pauses_told policy zero h = let d = is_defined (saving policy) 0 h in let e : None ≡ Some d.0 = d.1 in cc
pauses_told policy (suc zero) h = refl
pauses_told policy (suc (suc x)) h = let d = is_defined (saving policy) (suc (suc x)) h in absurd (none_past x d.0 d.1)

tells_there : (policy : Policy) → TellsMayPause sample (saving policy) may_pause
tells_there policy = record { len = refl; each = λ x. (told_pauses policy x, pauses_told policy x) }

pub can_there : (policy : Policy) → CanBeEmitted sample (saving policy) may_pause
can_there policy = record { valid = valid_there; sizes = sizes_there; few = few_there; tells = tells_there policy }

-- ---- names and numbers

pub no_run : Contains runtime_names (codes "run") → ⊥
no_run (zero, lt, e) = cc
no_run (suc zero, lt, e) = cc
no_run (suc (suc zero), lt, e) = cc
no_run (suc (suc (suc zero)), lt, e) = cc
no_run (suc (suc (suc (suc zero))), lt, e) = cc
no_run (suc (suc (suc (suc (suc k)))), lt, e) = absurd (omega arith)

pub free_there : FreeOfNames sample
free_there =
    let P : Export → Type 0 = λ e. Contains runtime_names e.name → ⊥ in
    All-cons P _ [] no_run (All-nil P)

pub formed_there : WellFormed sample
unfolding lib.Utf8.encode
formed_there = record {
  imports = All-cons ImportFits _ [] (record { module_name = (codes "env", (refl, refl)); base = (codes "pause", (refl, refl)); kind = omega arith }) (All-nil ImportFits);
  funcs = All-cons FuncFits adding [] (record { sort = omega arith; locals = All-nil (λ (r : Run). r.count < 2 ^ 32); body = (omega arith, (omega arith, (omega arith, (tt, (omega arith, (tt, tt)))))) })
      (All-nil FuncFits);
  tables = All-nil LimitsFit;
  memories = All-nil LimitsFit;
  globals = All-nil (λ (g : GlobalDef). CodeFits g.init);
  exports = All-cons ExportFits _ [] (record { name = (codes "run", (refl, refl)); index = omega arith }) (All-nil ExportFits);
  start = tt;
  elems = All-nil ElemFits;
  segments = All-nil SegmentFits;
  customs = All-nil CustomFits;
}
