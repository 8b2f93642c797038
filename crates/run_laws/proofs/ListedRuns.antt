-- Runs that pause at listed imports alone are those of the plan that tells them.
use Rattle.std.proofs.Common.{◌≡◌, ℕ, List, [], ◌∷◌, ◌++◌, Option, Some, Bool, true, false, All, sym, ◌∙◌, subst, inl, inr}
use Rattle.std.specs.Prelude.{slice_get}
use Rattle.std.proofs.lemmas.List.Elements.{All-head, All-tail}
use Rattle.wa_types.specs.Pausing.{is_told}
use Rattle.wa_model.specs.Outside.{Call, Event, called}
use Rattle.wa_model.specs.Machine.{Ran}
use Rattle.wa_model.specs.Plan.{Plan}
use Rattle.wa_model.specs.Blocking.{Note, State}
use Rattle.wa_model.specs.Protocol.{Held}
use Rattle.run_laws.specs.ListedPauses.{PauseListed, PausesListed, BlockingAsTold, ProtocolAsTold}
use Rattle.run_laws.proofs.Forks.{RunForks}
use Rattle.run_laws.proofs.BlockingForks.{blocking_forks}
use Rattle.run_laws.proofs.ProtocolForks.{protocol_forks}

all_at : (P : Note → Type 0) (xs : List Note) (x : Note) (ys : List Note) → All P (xs ++ (x ∷ ys)) → P x
all_at P [] x ys h = All-head P x ys h
all_at P (y ∷ xs) x ys h = all_at P xs x ys (All-tail P y (xs ++ (x ∷ ys)) h)

never : (listed : List Bool) (e : Event) (pause : Option ℕ) (call : Call) (ticks : ℕ) → e ≡ called call → pause ≡ Some ticks → is_told (slice_get listed call.import) ≡ false
    → PauseListed listed e pause → ⊥
never listed e pause call ticks is pauses unlisted h =
    let told : is_told (slice_get listed call.import) ≡ true = subst (λ o. PauseListed listed (called call) o) pauses (subst (λ z. PauseListed listed z pause) is h) in
    let z : true ≡ false = sym told ∙ unlisted in
    cc

pub same_run : (S : Type 0) (listed : List Bool) (plan : Plan) (r r' : Ran S Note) → RunForks S listed plan r r' → PausesListed listed r.events → r ≡ r'
same_run S listed plan r r' (inl e) h = e
same_run S listed plan r r' (inr p) h =
    let P : Note → Type 0 = λ (x : Note). PauseListed listed x.event x.pause in
    absurd (never listed (p.x).event (p.x).pause p.call p.ticks p.is p.pauses p.unlisted (all_at P p.before p.x p.xs (subst (All P) p.here h)))

pub blocking_as_told : BlockingAsTold
blocking_as_told m plan listed os n allows h = same_run State listed plan _ _ (blocking_forks m plan listed allows os n) h

pub protocol_as_told : ProtocolAsTold
protocol_as_told p plan listed os n allows h = same_run Held listed plan _ _ (protocol_forks p plan listed allows os n) h
