-- Along a run under the protocol locals have their types.
use Rattle.std.proofs.Common.{◌≡◌, ℕ, List, [], ◌∷◌, All, refl, subst}
use Rattle.std.proofs.lemmas.List.Elements.{All-nil, All-cons}
use Rattle.wa_types.specs.Syntax.{Module}
use Rattle.wa_types.specs.Validity.{Valid}
use Rattle.wa_model.specs.Blocking.{Note}
use Rattle.run_theory.specs.DeterminedRuns.{held_start_of}
use Rattle.wa_model.specs.Machine.{Turn, stops, goes, run}
use Rattle.wa_model.specs.Plan.{AreaFits, Outcome, OutcomeFits, Plan}
use Rattle.wa_model.specs.Plan as L
use Rattle.wa_model.specs.Protocol.{Held, exports_of, protocol}
use Rattle.run_theory.proofs.Invariants.{TurnKeeps, run_keeps}
use Rattle.run_laws.specs.Ranges.{CodesIn}
use Rattle.run_laws.specs.FittingStates.{ExportsTyped}
use Rattle.headline.specs.TypedLocals.{LocalsStayTyped}
use Rattle.headline.proofs.WrittenKnown.{Known, known_begins, known_moves, locals_known}

module _ (p : Module) (v : Valid p) (plan : Plan) (plan_fits : L.Fits p plan) (area : AreaFits p plan.area) (ex : ExportsTyped p) (codes : CodesIn p) where
  abbrev next : Held → Turn Held Note
  next = protocol p (exports_of p) plan

  abbrev Anything : Note → Type 0
  Anything x = Unit {0}

  all_anything : (es : List Note) → All Anything es
  all_anything [] = All-nil Anything
  all_anything (x ∷ es) = All-cons Anything x es tt (all_anything es)

  turns : (b : Held) → Known p v plan plan_fits area ex codes b → TurnKeeps next (Known p v plan plan_fits area ex codes) Anything (next b)
  turns b h = by (next b) refl
    where
      by : (t : Turn Held Note) → next b ≡ t → TurnKeeps next (Known p v plan plan_fits area ex codes) Anything t
      by stops e = tt
      by (goes k es t) e = (all_anything es, known_moves p v plan plan_fits area ex codes b t k es h e)

  along : (os : List Outcome) (n : ℕ) → All OutcomeFits os → Known p v plan plan_fits area ex codes (run next n (held_start_of p plan os).last).last
  along os n fs = (run_keeps next (Known p v plan plan_fits area ex codes) Anything turns n (held_start_of p plan os).last (known_begins p v plan plan_fits area ex codes os fs)).1

pub locals_stay : LocalsStayTyped
locals_stay p plan os n v codes plan_fits area ex fs ph c l e = locals_known p v plan plan_fits area ex codes ph c l
    (subst (Known p v plan plan_fits area ex codes) e (along p v plan plan_fits area ex codes os n fs))
