-- What a pause suspends is a lawful stack.
use Rattle.std.proofs.Common.{◌≡◌, ℕ, zero, suc, List, [], ◌∷◌, Some, All, subst}
use Rattle.std.specs.Prelude.{slice_get}
use Rattle.std.proofs.lemmas.List.Elements.{All-head, All-tail}
use Rattle.wa_model.specs.Plan.{EntryFits}
use Rattle.wa_model.specs.Blocking.{Note, Blocking}
use Rattle.wa_model.specs.Behaves.{PauseNumbered}
use Rattle.run_theory.specs.LawfulStacks.{LawfulActivation}
use Rattle.run_laws.specs.Lawful.{PausesAreLawful}
use Rattle.run_laws.proofs.StandingPauses.{pauses_of_entries}
use Rattle.run_laws.proofs.SpotRuns.{stacks_lawful}

got_of : {X : Type 0} (P : X → Type 0) (xs : List X) (i : ℕ) (x : X) → All P xs → slice_get xs i ≡ Some x → P x
got_of P [] i x h e = cc
got_of P (y ∷ xs) zero x h e = subst P (same e) (All-head P y xs h)
  where
    same : Some y ≡ Some x → y ≡ x
    same e = cc
got_of P (y ∷ xs) (suc i) x h e = got_of P xs i x (All-tail P y xs h) e

pub pauses_lawful : PausesAreLawful
pauses_lawful m s which plan os n i ticks x sizes valid compared numbered at pauses =
    let events = (Blocking m plan os n).events in
    let k = pauses_of_entries m plan os n i ticks x at pauses in
    let each = got_of (λ (y : Note). All (LawfulActivation m) y.stack) events i x (stacks_lawful m plan os n sizes valid compared.fits compared.outcomes) at in
    let stands = subst (PauseNumbered m s which x.stack) pauses (got_of (λ (y : Note). PauseNumbered m s which y.stack y.pause) events i x numbered at) in
    let fits = got_of (EntryFits m) plan.entries _ k.entry compared.fits.entries k.at in
    (k.entry, k.call, k.at, k.is, record { few = k.few; each = each; numbered = stands; entered = fits.defined; imported = k.imported; chained = k.chained })
