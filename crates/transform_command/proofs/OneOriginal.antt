-- Modules that are run of one source's bytes are emitted of one original.
use Rattle.std.proofs.Common.{◌≡◌, ◌∙◌, ℕ, List, Bool, ap, subst}
use Rattle.wa_types.specs.Pausing.{Listed, Settings, TellsMayPause}
use Rattle.wa_types.specs.Syntax.{Module}
use Rattle.wa_model.specs.Rewrites.{Rewrites}
use Rattle.run_theory.specs.Quiet.{FreeOfNames}
use Rattle.slot_laws.proofs.Closed.{one_list}
use Rattle.emitted_form.specs.EmittedAs.{EmittedAs}
use Rattle.emitted_form.specs.PolicyLaws.{CanBeEmitted}
use Rattle.module_rewrite.proofs.FreeNames.{unreserved_is_free}
use Rattle.transform_command.specs.Running.{RunsAs}
use Rattle.transform_command.proofs.Accepted.{can}
use Rattle.transform_command.proofs.Verdicts.{same_module}

-- Two modules are emitted of one original.
pub record AreEmitted (m : Module) (s : Settings) (p q : Module) : Type 0 where
  pub which : List Bool
  pub can : CanBeEmitted m s which
  pub free : FreeOfNames m
  pub first : EmittedAs m s which p
  pub second : EmittedAs m s which q

-- The second module is of the first one's original, of which these imports are listed.
pub record OfOneOriginal {s : Settings} {bytes : List ℕ} {listed : List Bool} {p : Module} (r : RunsAs s bytes listed p) (others : List Bool) (q : Module) : Type 0 where
  pub emitted : AreEmitted r.source s p q
  pub rewrites : Rewrites r.source s q
  pub listed_are : others ≡ Listed r.source s

pub one_original : {s : Settings} {bytes : List ℕ} {listed others : List Bool} {p q : Module} (r : RunsAs s bytes listed p) → RunsAs s bytes others q → OfOneOriginal r others q
one_original {s} {bytes} {listed} {others} {p} {q} r x =
    let same : x.source ≡ r.source = same_module bytes x.source r.source x.rewritable.accepted.unreserved.read r.rewritable.accepted.unreserved.read in
    let tells : TellsMayPause r.source s x.which = subst (λ (m : Module). TellsMayPause m s x.which) same x.rewritable.tells in
    let told : x.which ≡ r.which = one_list r.source s x.which r.which tells r.rewritable.tells in
    record {
      emitted = record {
        which = r.which;
        can = can bytes r.source r.rewritable.accepted s r.which r.rewritable.few r.rewritable.tells;
        free = unreserved_is_free r.source r.rewritable.accepted.unreserved.free;
        first = r.emitted;
        second = subst (λ (which : List Bool). EmittedAs r.source s which q) told (subst (λ (m : Module). EmittedAs m s x.which q) same x.emitted);
      };
      rewrites = subst (λ (m : Module). Rewrites m s q) same x.rewrites;
      listed_are = x.listed_is ∙ ap (λ (m : Module). Listed m s) same;
    }
