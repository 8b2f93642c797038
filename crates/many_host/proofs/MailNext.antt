-- A program with mailboxes that is held, with one note more.
use Rattle.std.proofs.Common.{arith, ◌≡◌, ◌+◌, ◌++◌, ℕ, List, [], ◌∷◌, length, Option, Some, None, false, refl, sym, ap, ◌∙◌, subst}
use Rattle.std.specs.Prelude.{is_some}
use Rattle.std.proofs.lemmas.List.{length-append}
use Rattle.wa_model.specs.declared.events.End.{End}
use Rattle.wa_model.specs.Outside.{AnswerLine, Call, Event, called, answered, paused, parked, returned, ended, shown}
use Rattle.wa_model.specs.Plan.{Outcome}
use Rattle.wa_model.specs.Blocking.{Note}
use Rattle.world_model.specs.World.{Program, call_in, is_end}
use Rattle.world_laws.specs.Originals.{new_calls, one_if}
use Rattle.event_order.specs.declared.shows.Show.{Show}
use Rattle.mail_laws.specs.MailWorld.{store_behind}
use Rattle.mail_laws.specs.Told.{Await, Teller, having_told}
use Rattle.pause_host.specs.Mailing.{MailSupply, TakesMail}
use Rattle.pause_host.specs.Programs.{Follows, StopsBehindReceive, TellsNext, end_in, ended_as, lines_left, receive_in}
use Rattle.many_host.specs.Hosts.{has_ended}
use Rattle.many_host.specs.MailStanding.{IsHeld, met_so_far}
use Rattle.many_host.specs.declared.hosted.Hosted.{Hosted}
use Rattle.many_host.proofs.TurnPlaces.{ends_on, or_false}

pub calls_on : (xs ys : List Note) → new_calls (xs ++ ys) ≡ new_calls xs + new_calls ys
calls_on [] ys = omega arith
calls_on (x ∷ xs) ys = let on = calls_on xs ys in omega (arith, on)

pub store_on : (xs : List Note) (x : Note) → store_behind (xs ++ x ∷ []) ≡ x.store
store_on [] x = refl
store_on (y ∷ []) x = refl
store_on (y ∷ z ∷ xs) x = store_on (z ∷ xs) x

ends_said : (e : Event) → is_some (end_in e) ≡ is_end e
ends_said (called c) = refl
ends_said (answered v) = refl
ends_said (paused ticks used) = refl
ends_said (returned entry v) = refl
ends_said (ended how) = refl
ends_said (parked used) = refl
ends_said (shown at bytes) = refl

taken : (w : Program) (c : Option Call) (old : MailSupply) (met : List Outcome) (new : MailSupply) → TakesMail w c old met new → length met ≡ one_if c
taken w None old met new h = ap length h.0
taken w (Some c) old met new h = ap length h.1

-- one that hasn't ended goes on
pub no_end : (x : Hosted) → has_ended x ≡ false → ended_as x.program ≡ None
no_end x e = by (ended_as x.program) e
  where
    by : (o : Option End) → is_some o ≡ false → o ≡ None
    by None q = refl
    by (Some how) q = cc

module _ (shows : List Show) (i : ℕ) (w : Program) (t : Teller) (x x' : Hosted) (e : Event) (old new : MailSupply) (h : IsHeld shows i w t x) (unfinished : t.has_ended ≡ false)
    (n : TellsNext w t.told (met_so_far t) e old new x'.program) (stops : StopsBehindReceive x'.program) where
  abbrev pub note : Note
  note = n.advances.note

  pub next_held : (known : List Outcome) (lines : List AnswerLine) (receive : Option Await) → lines_left x'.program ≡ lines → receive_in x'.program ≡ receive
      → met_so_far t ++ n.advances.met ≡ met_so_far (having_told t (note ∷ []) known lines receive) → IsHeld shows i w (having_told t (note ∷ []) known lines receive) x'
  next_held known lines receive lines_are receive_is is_known =
      record {
        follow = (
          subst (λ os. Follows w (t.told ++ note ∷ []) os x'.program) is_known n.advances.follows,
          lines_are,
          receive_is,
          stops,
        );
        ended_is = ap is_some n.advances.ended_is ∙ ends_said note.event ∙ sym (or_false (is_end note.event));
        told_end = ends_on t.told (note ∷ []) (h.told_end ∙ unfinished);
        as_many =
            (let made = calls_on t.told (note ∷ []) in
            let took = taken w (call_in note.event) old n.advances.met new n.advances.takes in
            let long = length-append (met_so_far t) n.advances.met in
            let many = h.as_many in
            let all : new_calls (t.told ++ note ∷ []) ≡ length (met_so_far t ++ n.advances.met) = omega (arith, made, took, long, many) in
            all) ∙ ap length is_known;
        memory_is = λ some. n.advances.memory_is ∙ ap (λ s. s.memory) (sym (store_on t.told note));
        looks = h.looks;
        live = h.live;
      }
