-- The program of a turn with mailboxes tells one note more.
use Rattle.std.proofs.Common.{arith, ◌≡◌, ◌⊎◌, inl, inr, ℕ, suc, List, [], ◌∷◌, Option, Some, None, true, false, refl, sym, ap, ◌∙◌, subst, length-set}
use Rattle.std.specs.Prelude.{slice_get, slice_set}
use Rattle.std.proofs.lemmas.Bool.{cases_eq}
use Rattle.std.proofs.lemmas.Option.{same_Some}
use Rattle.wa_model.specs.declared.answers.Detach.{Detach}
use Rattle.wa_model.specs.Outside.{Event, Line, parked}
use Rattle.wa_model.specs.Blocking.{Note, no_store, note}
use Rattle.wa_model.specs.View.{event_of}
use Rattle.world_model.specs.World.{Device, Program, call_in, ends_turn}
use Rattle.world_laws.proofs.Places.{set_here, set_there}
use Rattle.event_order.specs.declared.shows.Show.{Show}
use Rattle.event_order.specs.declared.turns.Turn.{Turn}
use Rattle.mailbox_device.specs.declared.mailbox.Settled.{Settled}
use Rattle.mailbox_device.specs.Mail.{Mail}
use Rattle.mail_laws.specs.Told.{AreSent, Await, Teller, having_told}
use Rattle.pause_host.specs.Mailing.{MailSupply, amid_of}
use Rattle.pause_host.specs.Programs.{StopsBehindReceive, TellsNext, ended_as, lines_left, parked_in, receive_in}
use Rattle.pause_host.proofs.Stopping.{no_call_parked}
use Rattle.many_host.specs.MailStanding.{AreParked, Holds, IsHeld, StandingFrom, has_gone, has_stalled, met_so_far, on_its_way}
use Rattle.many_host.specs.MailTurns.{TellsOnFrom}
use Rattle.many_host.specs.ToldMail.{AllPaused, GoesOnBy, with_note}
use Rattle.many_host.specs.Standing.{Held}
use Rattle.many_host.specs.declared.hosted.Hosted.{Hosted}
use Rattle.many_host.specs.declared.turn_taking.Stage.TheVariants.{Telling}
use Rattle.many_host.proofs.Notes.{ends_none, off_none}
use Rattle.many_host.proofs.MailGot.{EachHeld, SentPaused, are_parked, sent_on}
use Rattle.many_host.proofs.MailNext.{next_held, no_end}
use Rattle.many_host.proofs.MailNotes.{mail_turn_goes_on, same_teller}

-- ---- lists of programs that are held

module _ (shows : List Show) (programs : List Program) (due : ℕ) (tellers : List Teller) (xs : List Hosted) (i : ℕ) where
  -- one of them changes
  pub set_held : (w : Program) (t next : Teller) (x x' : Hosted) → EachHeld shows programs due tellers xs → slice_get programs i ≡ Some w → slice_get tellers i ≡ Some t → slice_get xs i ≡ Some x
      → Holds shows i w next x' → EachHeld shows programs due (slice_set tellers i next) (slice_set xs i x')
  set_held w t next x x' each program there held_there holds j v u y ev eu ey = by (cases_eq j i)
    where
      by : (j ≡ i) ⊎ (j ≡ i → ⊥) → Holds shows j v u y
      by (inr other) = each j v u y ev (sym (set_there tellers i j next other) ∙ eu) (sym (set_there xs i j x' other) ∙ ey)
      by (inl same) =
          let w_is : w ≡ v = same_Some w v (sym program ∙ ap (slice_get programs) (sym same) ∙ ev) in
          let t_is : next ≡ u = same_Some next u (sym (set_here tellers i next t there) ∙ ap (slice_get (slice_set tellers i next)) (sym same) ∙ eu) in
          let y_is : x' ≡ y = same_Some x' y (sym (set_here xs i x' x held_there) ∙ ap (slice_get (slice_set xs i x')) (sym same) ∙ ey) in
          subst (λ (k : ℕ). Holds shows k v u y) (sym same)
          (subst (λ (p : Program). Holds shows i p u y) w_is (subst (λ (p : Teller). Holds shows i w p y) t_is (subst (λ (p : Hosted). Holds shows i w next p) y_is holds)))

-- those that are sent a value told their pauses
pub sent_paused : (shows : List Show) (programs : List Program) (due : ℕ) (tellers : List Teller) (ss : List Settled) → AreSent tellers ss → AllPaused tellers ss → SentPaused shows programs due tellers ss
sent_paused shows programs due tellers [] sent paused = tt
sent_paused shows programs due tellers (s ∷ ss) sent paused = (
  record {
    t = sent.0.t;
    r = sent.0.r;
    there = sent.0.there;
    unfinished = sent.0.unfinished;
    receive = sent.0.waits;
    paused = paused.0 sent.0.t sent.0.there;
    once = sent.2;
  },
  sent_paused shows programs due tellers ss sent.3 paused.1,
)

-- ---- a turn on its way

module _ (begun : ℕ) (programs : List Program) (detaches : List Detach) (boxes : List (List ℕ)) (ds : List Device) (lines : List Line) (h : Held Hosted) (last : ℕ) (ds' : List Device) (mail : Mail)
    (turn : Turn) (s : StandingFrom begun programs detaches boxes ds lines h last ds' mail (Telling turn)) (x : Hosted) (there : slice_get h.programs turn.program ≡ Some x) where
  abbrev i : ℕ
  i = turn.program

  abbrev t : Teller
  t = s.at.2

  abbrev sent : List Settled
  sent = s.at.4

  abbrev on : TellsOnFrom begun programs detaches boxes ds s.at.0 i turn.due lines s.tellers (amid_of ds' (record mail { settled = sent }) t.receive)
  on = s.at.6

  teller_is : t ≡ having_told on.t on.turn on.met on.answers t.receive
  teller_is =
      same_teller begun programs detaches boxes ds s.at.0 i turn.due lines s.tellers on.w t (note (parked 0) no_store) (amid_of ds' (record mail { settled = sent }) t.receive) on on.program s.at.3

  pub unfinished : t.has_ended ≡ false
  unfinished = ap (λ (u : Teller). u.has_ended) teller_is ∙ ends_none on.turn on.goes_on

  pub due_now : t.due ≡ turn.due
  due_now = ap (λ (u : Teller). u.due) teller_is ∙ (let off = off_none on.turn on.goes_on in let d = on.due_is in omega (arith, off, d))

  -- who goes on hasn't ended before
  pub held : IsHeld h.shows i on.w t x
  held = by (s.each i on.w t x on.program s.at.3 there)
    where
      by : Holds h.shows i on.w t x → IsHeld h.shows i on.w t x
      by (on_its_way k) = k
      by (has_stalled k) = let z : false ≡ true = sym unfinished ∙ k.ended in absurd cc
      by (has_gone over told looks idle) = let z : false ≡ true = sym unfinished ∙ ap (λ (u : Teller). u.has_ended) told ∙ over in absurd cc

  pub runs : ended_as x.program ≡ None
  runs = no_end x (held.ended_is ∙ unfinished)

  pub awake : parked_in x.program ≡ None
  awake = s.at.8 x there

  module _ (x' : Hosted) (e : Event) (faults faults' : List ℕ) (ds'' : List Device) (mail' : Mail) where
    abbrev pub old : MailSupply
    old = record { lines = lines_left x.program; amid = amid_of ds' mail (receive_in x.program); faults = faults }

    abbrev pub new : MailSupply
    new = record { lines = lines_left x'.program; amid = amid_of ds'' mail' (receive_in x'.program); faults = faults' }

    module _ (n : TellsNext on.w t.told (met_so_far t) e old new x'.program)
        (stops : StopsBehindReceive x'.program × ((r : Await) → receive_in x.program ≡ Some r → call_in e ≡ None)) where
      abbrev pub next_note : Note
      next_note = n.advances.note

      free : (call_in next_note.event ≡ None) ⊎ (t.receive ≡ None)
      free = by (receive_in x.program) refl
        where
          by : (o : Option Await) → receive_in x.program ≡ o → (call_in next_note.event ≡ None) ⊎ (t.receive ≡ None)
          by None is = inr (sym held.follow.2 ∙ is)
          by (Some r) is =
              inl (ap call_in n.advances.event_is ∙ sym (no_call_parked (receive_in x'.program) (event_of n.noted)) ∙ ap call_in (sym n.event_is) ∙ stops.1 r is)

      -- it goes on
      module _ (quiet : ends_turn next_note.event ≡ false) where
        pub goes : GoesOnBy begun programs detaches boxes ds s.at.0 i turn.due lines s.tellers sent t next_note n.advances.met new
        goes =
            mail_turn_goes_on begun programs detaches boxes ds s.at.0 i turn.due lines s.tellers sent on.w t next_note n.advances.met old new
            (subst (λ (r : Option Await). TellsOnFrom begun programs detaches boxes ds s.at.0 i turn.due lines s.tellers (amid_of ds' (record mail { settled = sent }) r)) (sym held.follow.2) on)
            on.program s.at.3 held.follow.1 s.at.5 n.advances.takes free quiet

        abbrev pub next : Teller
        next = with_note t next_note goes.known new

        pub next_holds : IsHeld h.shows i on.w next x'
        next_holds =
            next_held h.shows i on.w t x x' e old new held unfinished n stops.0 goes.known (lines_left x'.program) (receive_in x'.program) refl refl goes.is_known

        abbrev pub told : List Teller
        told = slice_set s.tellers i next

        abbrev pub advanced : List Hosted
        advanced = slice_set h.programs i x'

        pub each_held : EachHeld h.shows programs (suc turn.due) told advanced
        each_held = set_held h.shows programs (suc turn.due) s.tellers h.programs i on.w t next x x' s.each on.program s.at.3 there (on_its_way next_holds)

        pub sent_now : SentPaused h.shows programs (suc turn.due) told mail'.settled
        sent_now =
            sent_on h.shows programs (suc turn.due) s.tellers i next mail'.settled goes.apart
            (sent_paused h.shows programs (suc turn.due) s.tellers mail'.settled goes.are_sent goes.paused)

        pub parked_goes : AreParked mail'.settled advanced
        parked_goes =
            are_parked h.shows programs (suc turn.due) told advanced (sym (length-set s.tellers i next ∙ s.wide))
            (length-set h.programs i x' ∙ s.as_many ∙ sym (length-set s.tellers i next ∙ s.wide)) each_held mail'.settled sent_now
