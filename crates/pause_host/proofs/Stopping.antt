-- Programs whose receive wasn't answered: no new call comes before it is.
use Rattle.std.proofs.Common.{◌≡◌, ◌<◌, ℕ, List, Option, if◌then◌else◌, Some, None, Bool, true, false, Result, Ok, Err, IfOk, refl, sym, ap, ◌∙◌, subst, arith}
use Rattle.std.specs.Option.{option_map}
use Rattle.wa_types.specs.declared.values.Value.TheVariants as V
use Rattle.wa_model.specs.declared.answers.Answer.{Answer as AnswerValue}
use Rattle.wa_model.specs.declared.events.Event.{Event as EventValue}
use Rattle.wa_model.specs.Outside.{Event, called, answered, paused, parked, returned, ended, shown}
use Rattle.wa_model.specs.Plan.{Outcome, given, refused}
use Rattle.wa_model.specs.View.{answer_of, event_of}
use Rattle.world_model.specs.World.{call_in}
use Rattle.interp.specs.declared.instance.Instance.{Instance}
use Rattle.mail_laws.specs.Mailboxes.{mailed}
use Rattle.mail_laws.specs.MailWorld.{told_pause}
use Rattle.mail_laws.specs.Told.{Await}
use Rattle.host_laws.specs.Answering.{outcome_of}
use Rattle.pause_host.specs.declared.asking.Asked.{Asked}
use Rattle.pause_host.specs.declared.program.Program.{Program}
use Rattle.pause_host.specs.declared.program.State.TheVariants.{Live}
use Rattle.pause_host.specs.declared.stages.Heard.{Heard}
use Rattle.pause_host.specs.declared.stages.Setting.{Setting}
use Rattle.pause_host.specs.declared.stages.Stage.{Stage}
use Rattle.pause_host.specs.Mailing.{WaitsATick, awaits_in, latest}
use Rattle.pause_host.specs.Moves.{StopsAtReceive}
use Rattle.pause_host.specs.Programs.{StopsBehindReceive, is_at_pause, parked_in, receive_in, stops_at}
use Rattle.pause_host.specs.Views.{is_paused, is_stopping}

-- ---- what is asked

pub none_waits : (asked : Asked) → asked.receive ≡ None → WaitsATick asked
none_waits asked none = λ import is. let z : None ≡ Some import = sym none ∙ is in absurd cc

abbrev ticks_of : Outcome → ℕ
ticks_of (given a) = a.ticks
ticks_of (refused how) = 0

-- its answer has a tick
pub ticks_waited : (answer : AnswerValue) → given (answer_of answer) ≡ mailed (Some (V.I32 0)) 1 → 0 < answer.ticks
ticks_waited answer is = let e : answer.ticks ≡ 1 = ap ticks_of is in omega (arith, e)

-- ---- what is heard

-- a receive that is heard is the only one that wasn't answered
pub heard_stops : (x : Setting) (h : Heard) (before : Option ℕ) → StopsAtReceive h → awaits_in x before ≡ None → (r : Await) → awaits_in x (latest h.receive before) ≡ Some r
    → is_stopping h.moved.stage ≡ true
heard_stops x h before stops none r is = by_receive h.receive refl
  where
    by_receive : (o : Option ℕ) → h.receive ≡ o → is_stopping h.moved.stage ≡ true
    by_receive None e = let z : None ≡ Some r = sym none ∙ sym (ap (λ o. awaits_in x (latest o before)) e) ∙ is in absurd cc
    by_receive (Some import) e = stops import e

-- parking tells no new call either
pub no_call_parked : {X : Type 0} (r : Option X) (e : Event) → call_in (told_pause r e) ≡ call_in e
no_call_parked None e = refl
no_call_parked (Some r) (called c) = refl
no_call_parked (Some r) (answered v) = refl
no_call_parked (Some r) (paused ticks used) = refl
no_call_parked (Some r) (returned entry v) = refl
no_call_parked (Some r) (ended how) = refl
no_call_parked (Some r) (parked used) = refl
no_call_parked (Some r) (shown at bytes) = refl

-- ---- one step

-- no receive is left unanswered
pub none_left : (x : Program) → StopsBehindReceive x → stops_at x.state ≡ false → receive_in x ≡ None
none_left x quiet goes = by_receive (receive_in x) refl
  where
    by_receive : (o : Option Await) → receive_in x ≡ o → receive_in x ≡ None
    by_receive None e = e
    by_receive (Some r) e = let z : false ≡ true = sym goes ∙ quiet r e in absurd cc

-- where it is parked, by whether it is paused
abbrev parked_if : Bool → Option Await → Option (List ℕ)
parked_if b o = if b then option_map (λ (r : Await). r.box) o else None

-- what a step keeps
abbrev pub KeepsStopping : Program → EventValue → Program → Type 0
KeepsStopping x event new = StopsBehindReceive new × ((r : Await) → receive_in x ≡ Some r → call_in (event_of event) ≡ None)

module _ {F : Type 0} (x : Program) (result : Result EventValue F) (new : Program) where
  pub stops_behind_none : receive_in x ≡ None → IfOk result (λ event. StopsBehindReceive new) → IfOk result (λ event. KeepsStopping x event new)
  stops_behind_none none h = by_result result h
    where
      by_result : (r : Result EventValue F) → IfOk r (λ event. StopsBehindReceive new) → IfOk r (λ event. KeepsStopping x event new)
      by_result (Ok event) k = (k, λ r is. let z : None ≡ Some r = sym none ∙ is in absurd cc)
      by_result (Err f) k = tt

  pub stops_behind : IfOk result (λ event. StopsBehindReceive new × (call_in (event_of event) ≡ None)) → IfOk result (λ event. KeepsStopping x event new)
  stops_behind h = by_result result h
    where
      by_result : (r : Result EventValue F) → IfOk r (λ event. StopsBehindReceive new × (call_in (event_of event) ≡ None)) → IfOk r (λ event. KeepsStopping x event new)
      by_result (Ok event) k = (k.0, λ r is. k.1)
      by_result (Err f) k = tt

  -- of a program with an instance, which isn't parked
  pub live_stops : (i : Instance) (st : Stage) → x.state ≡ Live i st → StopsBehindReceive x → parked_in x ≡ None → (receive_in x ≡ None → IfOk result (λ event. StopsBehindReceive new))
      → (is_stopping st ≡ true → is_paused st ≡ false → IfOk result (λ event. StopsBehindReceive new × (call_in (event_of event) ≡ None))) → IfOk result (λ event. KeepsStopping x event new)
  live_stops i st state quiet awake receives stops = by_receive (receive_in x) refl
    where
      by_pause : (r : Await) → receive_in x ≡ Some r → (b : Bool) → is_paused st ≡ b → is_paused st ≡ false
      by_pause r e false b = b
      by_pause r e true b =
          let there : is_at_pause x.state ≡ true = ap is_at_pause state ∙ b in
          let z : Some r.box ≡ None = sym (ap (λ c. parked_if c (receive_in x)) there ∙ ap (parked_if true) e) ∙ awake in absurd cc

      by_receive : (o : Option Await) → receive_in x ≡ o → IfOk result (λ event. KeepsStopping x event new)
      by_receive None e = stops_behind_none e (receives e)
      by_receive (Some r) e = stops_behind (stops (sym (ap stops_at state) ∙ quiet r e) (by_pause r e (is_paused st) refl))
