-- A world none of whose imports is bound goes the same way over any devices.
use Rattle.std.proofs.Common.{◌≡◌, ℕ, suc, List, [], ◌∷◌, Option, Some, None, All, refl, sym, ap, ◌∙◌, subst}
use Rattle.wa_types.specs.declared.values.Value.{Value}
use Rattle.wa_model.specs.declared.answers.Detach.{Detach}
use Rattle.wa_model.specs.Blocking.{Note}
use Rattle.wa_model.specs.Outside.{AnswerLine, Call, Line}
use Rattle.wa_model.specs.Plan.{Outcome}
use Rattle.world_model.specs.World.{Actor, CallsMeet, Device, Events, Meets, MeetsBound, NoteMeets, Plays, Program, ProtocolWorldFrom, an_event, call_in, detached, no_event, turn_of}
use Rattle.world_laws.specs.AloneLines.{Unbound}
use Rattle.world_laws.proofs.Places.{all_at}

-- ---- calls

module _ (w : Program) (none : Unbound w) where
  meets_over : (import : ℕ) (args : List Value) (lines : List AnswerLine) (ds : List Device) (o : Outcome) (lines' : List AnswerLine) (ds' : List Device)
      → Meets w import args lines ds o lines' ds' → (ds' ≡ ds) × ((es : List Device) → Meets w import args lines es o lines' es)
  meets_over import args lines ds o lines' ds' h =
      let e = none import in
      let g : MeetsBound w.source import args None lines ds o lines' ds' = subst (λ (b : Option (List ℕ)). MeetsBound w.source import args b lines ds o lines' ds') e h in
      (g.1, λ es. subst (λ (b : Option (List ℕ)). MeetsBound w.source import args b lines es o lines' es) (sym e) (g.0, refl))

  -- they leave the devices as they are
  calls_over : (xs : List Note) (os : List Outcome) (lines : List AnswerLine) (ds : List Device) (os' : List Outcome) (lines' : List AnswerLine) (ds' : List Device)
      → CallsMeet w xs os lines ds os' lines' ds' → (ds' ≡ ds) × ((es : List Device) → CallsMeet w xs os lines es os' lines' es)
  calls_over [] os lines ds os' lines' ds' h = (h.2, λ es. (h.0, h.1, refl))
  calls_over (x ∷ xs) os lines ds os' lines' ds' h = by_call (λ os lines ds h. calls_over xs os lines ds os' lines' ds' h) (call_in x.event) h
    where
      by_call : ((os : List Outcome) (lines : List AnswerLine) (ds : List Device) → CallsMeet w xs os lines ds os' lines' ds'
          → (ds' ≡ ds) × ((es : List Device) → CallsMeet w xs os lines es os' lines' es))
          → (c : Option Call) → NoteMeets w c os lines ds (λ o l d. CallsMeet w xs o l d os' lines' ds')
          → (ds' ≡ ds) × ((es : List Device) → NoteMeets w c os lines es (λ o l d. CallsMeet w xs o l d os' lines' es))
      by_call on None g = on os lines ds g
      by_call on (Some c) g =
          let m = meets_over c.import c.args lines ds g.0 g.2 g.3 g.5 in
          let rest = on g.1 g.2 g.3 g.6 in
          (rest.0 ∙ m.0, λ es. (g.0, g.1, g.2, es, g.4, m.1 es, rest.1 es))

-- ---- events

module _ (programs : List Program) (none : All Unbound programs) (detaches : List Detach) where
  -- the same events over other devices, of which the same are left where they are the same
  record EventsOver (number : ℕ) (actors : List Actor) (ds : List Device) (lines : List Line) (last : List Actor) (ds' es : List Device) : Type 0 where
    end : List Device
    events : Events programs detaches number actors es lines last end
    same : es ≡ ds → end ≡ ds'

  events_over : (number : ℕ) (actors : List Actor) (ds : List Device) (lines : List Line) (last : List Actor) (ds' : List Device)
      → Events programs detaches number actors ds lines last ds' → (es : List Device) → EventsOver number actors ds lines last ds' es
  events_over number actors ds lines last ds' no_event es = record { end = es; events = no_event; same = λ e. e }
  events_over number actors ds lines last ds' (an_event {actors' = next} {ds' = mid} {lines = first} {more = more} play rest split) es =
      let calls =
      calls_over play.w (all_at Unbound programs play.i play.w none play.program) (turn_of play.a.notes) play.a.outcomes play.a.answers (detached number detaches ds) play.outcomes play.answers mid
      play.calls in
      let there : List Device = detached number detaches es in
      let on = events_over (suc number) next mid more last ds' rest there in
      let plays : Plays programs detaches number actors es first next there = record {
        i = play.i;
        a = play.a;
        w = play.w;
        next = play.next;
        program = play.program;
        outcomes = play.outcomes;
        answers = play.answers;
        calls = calls.1 there;
        made = play.made;
        after = play.after;
      } in
      record { end = on.end; events = an_event plays on.events split; same = λ e. on.same (ap (detached number detaches) e ∙ sym calls.0) }

-- ---- worlds

-- The same world over other devices, with the same actors.
pub record WorldOver {begun : ℕ} {programs : List Program} {detaches : List Detach} {ds : List Device} {lines : List Line} {ds' : List Device}
    (world : ProtocolWorldFrom begun programs detaches ds lines ds') (others : List Detach) (es : List Device) : Type 0 where
  pub end : List Device
  pub over : ProtocolWorldFrom begun programs others es lines end
  pub actors : over.actors ≡ world.actors
  pub same : es ≡ ds → end ≡ ds'

pub world_over : {begun : ℕ} {programs : List Program} {detaches : List Detach} {ds : List Device} {lines : List Line} {ds' : List Device}
    (world : ProtocolWorldFrom begun programs detaches ds lines ds') (others : List Detach) → detaches ≡ others → All Unbound programs → (es : List Device) → WorldOver world others es
world_over {begun} {programs} {detaches} {ds} {lines} {ds'} world others e none es =
    let on = events_over programs none detaches (suc begun) world.actors ds lines world.last ds' world.events es in
    record {
      end = on.end;
      over = record {
        actors = world.actors;
        last = world.last;
        starts = world.starts;
        events = subst (λ (xs : List Detach). Events programs xs (suc begun) world.actors es lines world.last on.end) e on.events;
        over = world.over;
      };
      actors = refl;
      same = on.same;
    }
