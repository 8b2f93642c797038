-- A module of which nothing may pause has a rewritten one's parts by the runtime's alone.
use Rattle.std.proofs.Common.{◌≡◌, ℕ, ◌+◌, Some, refl, sym, ◌∙◌, subst, length, map, zero, suc, List, [], ◌∷◌, Bool, true, false}
use Rattle.std.specs.List.{list_any}
use Rattle.std.proofs.lemmas.Bool.{or_parts}
use Rattle.std.specs.Prelude.{slice_get}
use Rattle.std.proofs.lemmas.Option.{slice_get_within}
use Rattle.std.proofs.lemmas.List.{length-map}
use Rattle.wa_types.specs.Syntax.{Func, Module}
use Rattle.wa_types.specs.Validity.{Valid}
use Rattle.wa_types.specs.Modules.{func_sorts}
use Rattle.wa_types.specs.Pausing.{Settings, TellsMayPause}
use Rattle.wa_types.specs.Runtime.{global_space, runtime_funcs, with_runtime}
use Rattle.wa_model.specs.Rewrites.{SameFunc, RewritesButRuns}
use Rattle.run_theory.specs.Quiet.{NeverPauses, FreeOfNames}
use Rattle.run_theory.proofs.GrownSteps.{front}
use Rattle.run_theory.proofs.RuntimeValid.{runtime_valid}

func_stays : (m : Module) (i : ℕ) (f g : Func) → slice_get m.funcs i ≡ Some f → slice_get (with_runtime m).funcs i ≡ Some g → f ≡ g
unfolding with_runtime
func_stays m i f g e h =
    let same : Some f ≡ Some g = sym e ∙ sym (front m.funcs (runtime_funcs (length m.types) (global_space m) (global_space m + 1)) i (slice_get_within m.funcs i f e)) ∙ h in cc

same_func : (f : Func) → SameFunc f f
same_func f = record { sort = refl; locals = refl; body = refl }

pub quiet_parts : (m : Module) (s : Settings) → Valid m → FreeOfNames m → NeverPauses m s → RewritesButRuns SameFunc m s (with_runtime m)
unfolding with_runtime
quiet_parts m s valid free never = record {
  valid = valid;
  valid_rewritten = runtime_valid m valid free;
  types = refl;
  imports = refl;
  tables = refl;
  memories = refl;
  globals = refl;
  exports = refl;
  start = refl;
  elems = refl;
  segments = refl;
  customs = refl;
  runtime = refl;
  unchanged = λ i f g e h no_pause. subst (SameFunc f) (func_stays m i f g e h) (same_func f);
  rewritten = λ i f g which e h tells may. absurd (never _ may);
}

none_true : (which : List Bool) (x : ℕ) → list_any (λ told. told) which ≡ false → slice_get which x ≡ Some true → ⊥
none_true [] x h e = cc
none_true (told ∷ which) zero h e =
    let b = or_parts told (list_any (λ b. b) which) h in
    let z : told ≡ true = cc in
    let bad : false ≡ true = sym b.0 ∙ z in cc
none_true (told ∷ which) (suc x) h e = none_true which x (or_parts told (list_any (λ b. b) which) h).1 e

pub none_told : (m : Module) (s : Settings) (which : List Bool) → TellsMayPause m s which → list_any (λ told. told) which ≡ false → NeverPauses m s
none_told m s which tells h = λ x may. none_true which x h ((tells.each x).1 may)

-- the list that tells none

false_at : {X : Type 0} (xs : List X) (x : ℕ) → slice_get (map (λ y. false) xs) x ≡ Some true → ⊥
false_at [] x e = cc
false_at (y ∷ xs) zero e = cc
false_at (y ∷ xs) (suc x) e = false_at xs x e

pub none_tells : (m : Module) (s : Settings) → NeverPauses m s → (which : List Bool) × TellsMayPause m s which
none_tells m s never =
    (map (λ y. false) (func_sorts m), record { len = length-map (func_sorts m) (λ y. false); each = λ x. (λ e. absurd (false_at (func_sorts m) x e), λ may. absurd (never x may)) })
