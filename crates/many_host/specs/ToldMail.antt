-- Laws of notes that are told one after another where there are mailboxes.
use Rattle.std.specs.Prelude.{◌≡◌, ◌⊎◌, ◌+◌, ◌≤◌, ℕ, suc, List, [], ◌∷◌, ◌++◌, map, Option, Some, None, true, false, slice_get, slice_set}
use Rattle.std.specs.List.{AllZip}
use Rattle.wa_model.specs.declared.answers.Detach.{Detach}
use Rattle.wa_model.specs.declared.events.End.TheVariants.{Stalled}
use Rattle.wa_model.specs.Outside.{Line, ended}
use Rattle.wa_model.specs.Plan.{Outcome}
use Rattle.wa_model.specs.Blocking.{Note}
use Rattle.world_model.specs.World.{Device, Program, call_in, detached, ends_turn, line_at, look_events, looks_after}
use Rattle.event_order.specs.declared.shows.Show.{Show}
use Rattle.mailbox_device.specs.declared.mailbox.Settled.{Settled}
use Rattle.mailbox_device.specs.Mail.{Mail, WaitsNowhere, empty_mail}
use Rattle.mail_laws.specs.MailWorld.{ProtocolWorldFrom, parks, pauses, store_behind, told_pause}
use Rattle.mail_laws.specs.Told.{Amid, AreSent, Await, HasStory, HaveEnded, HaveMet, IsLeast, NoneDue, NotAmong, Teller, Tells, due_of, having_told, parked_in, settle_all, starting, waits_at}
use Rattle.pause_host.specs.Mailing.{MailSupply, TakesMail, amid_of}
use Rattle.many_host.specs.MailStanding.{Holds, MailStands, MeetMore, common_of, met_so_far}
use Rattle.many_host.specs.MailTurns.{TellsOnFrom}
use Rattle.many_host.specs.declared.hosted.Hosted.{Hosted}

-- Before the first event nothing is told, and nobody waits,
abbrev pub NothingMailTold : Type 0
NothingMailTold =
    (begun : ℕ) (programs : List Program) (detaches : List Detach) (boxes : List (List ℕ)) (ds : List Device)
    → Tells begun programs detaches boxes ds 0 [] (map starting programs) (common_of ds (empty_mail boxes) 0) × MailStands boxes (map starting programs) (empty_mail boxes)

-- behind whole events the next turn begins, of the program with the least pair of due tick and number, which is awake,
abbrev pub MailTurnBegins : Type 0
MailTurnBegins =
    (begun : ℕ) (programs : List Program) (detaches : List Detach) (boxes : List (List ℕ)) (ds es : List Device) (mail : Mail) (count last i due : ℕ) (lines : List Line) (tellers : List Teller)
    (w : Program)
    → Tells begun programs detaches boxes ds count lines tellers (common_of es mail last) → MailStands boxes tellers mail → slice_get programs i ≡ Some w → IsLeast (map due_of tellers) i due
    → (t : Teller) × (slice_get tellers i ≡ Some t) × (t.has_ended ≡ false) × (t.receive ≡ None)
    × TellsOnFrom begun programs detaches boxes ds count i due lines tellers (record (amid_of (detached (suc (begun + count)) detaches es) mail None) { settled = [] })

-- the program of a turn with one note more, whose call met outcomes of which these are known, and left these answer lines and this receive
abbrev pub with_note : Teller → Note → (known : List Outcome) → MailSupply → Teller
with_note t x known new = having_told t (x ∷ []) known new.lines new.amid.receive

-- all of them behind it: those that it sent a value have got it
abbrev pub with_turn_note : (program due : ℕ) → Teller → Note → (known : List Outcome) → MailSupply → List Teller → List Teller
with_turn_note i due t x known new tellers = settle_all (suc due) new.amid.settled (slice_set tellers i (with_note t x known new))

-- the last note of each program that is sent a value was a pause
abbrev pub AllPaused : List Teller → List Settled → Type 0
AllPaused tellers [] = Unit {0}
AllPaused tellers (s ∷ ss) = ((t : Teller) → slice_get tellers s.program ≡ Some t → pauses t.told ≡ true) × AllPaused tellers ss

-- A turn, which had sent these values, goes on by the note, whose call met these outcomes and left this: of the outcomes all are known but that of a
-- receive that isn't answered yet. Whom it sends a value waited, and isn't the program itself.
pub record GoesOnBy (begun : ℕ) (programs : List Program) (detaches : List Detach) (boxes : List (List ℕ)) (ds : List Device) (count i due : ℕ) (lines : List Line) (tellers : List Teller)
    (sent : List Settled) (t : Teller) (x : Note) (met : List Outcome) (new : MailSupply) : Type 0 where
  pub known : List Outcome
  pub is_known : met_so_far t ++ met ≡ met_so_far (with_note t x known new)
  pub on : TellsOnFrom begun programs detaches boxes ds count i due (lines ++ line_at due i x.event ∷ []) (with_turn_note i due t x known new tellers)
      (record new.amid { settled = sent ++ new.amid.settled })
  pub are_sent : AreSent tellers new.amid.settled
  pub paused : AllPaused tellers new.amid.settled
  pub apart : NotAmong i new.amid.settled
  pub meets : MeetMore i met tellers (with_turn_note i due t x known new tellers)

-- with each note the turn goes on, as long as no call comes behind a receive that wasn't answered,
abbrev pub MailTurnGoesOn : Type 0
MailTurnGoesOn =
    (begun : ℕ) (programs : List Program) (detaches : List Detach) (boxes : List (List ℕ)) (ds : List Device) (count i due : ℕ) (lines : List Line) (tellers : List Teller)
    (sent : List Settled) (w : Program) (t : Teller) (x : Note) (met : List Outcome) (old new : MailSupply)
    → TellsOnFrom begun programs detaches boxes ds count i due lines tellers (record old.amid { settled = sent }) → slice_get programs i ≡ Some w → slice_get tellers i ≡ Some t
    → old.lines ≡ t.answers → old.amid.settled ≡ [] → TakesMail w (call_in x.event) old met new → (call_in x.event ≡ None) ⊎ (t.receive ≡ None) → ends_turn x.event ≡ false
    → GoesOnBy begun programs detaches boxes ds count i due lines tellers sent t x met new

-- in the midst of it the program waits nowhere,
abbrev pub MailTurnAwake : Type 0
MailTurnAwake =
    (begun : ℕ) (programs : List Program) (detaches : List Detach) (boxes : List (List ℕ)) (ds : List Device) (count i due : ℕ) (lines : List Line) (tellers : List Teller) (now : Amid)
    → TellsOnFrom begun programs detaches boxes ds count i due lines tellers now → WaitsNowhere i now.boxes

-- the mailboxes behind a turn of this program, which waits at this receive where it parks
abbrev pub mail_behind : (program : ℕ) → (parking : Option Await) → Amid → Mail
mail_behind i parking now = record { boxes = parked_in i parking now.boxes; settled = [] }

-- the program of a turn behind its last note
abbrev pub with_last : Teller → Note → (receive : Option Await) → Teller
with_last t x receive = having_told t (x ∷ []) [] t.answers receive

-- and with its last note it is whole, with what is shown behind an end: where it pauses at a receive that wasn't answered it waits there.
abbrev pub MailTurnEnds : Type 0
MailTurnEnds =
    (begun : ℕ) (programs : List Program) (detaches : List Detach) (boxes : List (List ℕ)) (ds : List Device) (count i due : ℕ) (lines : List Line) (tellers : List Teller)
    (w : Program) (t : Teller) (x : Note) (now : Amid)
    → TellsOnFrom begun programs detaches boxes ds count i due lines tellers now → slice_get programs i ≡ Some w → slice_get tellers i ≡ Some t → ends_turn x.event ≡ true
    → Tells begun programs detaches boxes ds (suc count) (lines ++ line_at due i (told_pause (parks (x ∷ []) now.receive) x.event) ∷ map (line_at due i) (looks_after w.looks x x.event))
    (slice_set tellers i (with_last t x now.receive)) (common_of now.devices (mail_behind i (parks (x ∷ []) now.receive) now) due)
    × MailStands boxes (slice_set tellers i (with_last t x now.receive)) (mail_behind i (parks (x ∷ []) now.receive) now)
    × MeetMore i [] tellers (slice_set tellers i (with_last t x now.receive))

-- Where none is due, the first that waits ends there, with what is shown behind it.
abbrev pub MailStalls : Type 0
MailStalls =
    (begun : ℕ) (programs : List Program) (detaches : List Detach) (boxes : List (List ℕ)) (ds es : List Device) (mail : Mail) (count last i : ℕ) (lines : List Line) (tellers : List Teller)
    (w : Program) (t : Teller) (r : Await)
    → Tells begun programs detaches boxes ds count lines tellers (common_of es mail last) → MailStands boxes tellers mail → slice_get programs i ≡ Some w → slice_get tellers i ≡ Some t
    → waits_at t ≡ Some r → NoneDue (map due_of tellers) → ((j : ℕ) (u : Teller) (q : Await) → slice_get tellers j ≡ Some u → waits_at u ≡ Some q → i ≤ j)
    → Tells begun programs detaches boxes ds (suc count) (lines ++ map (line_at last i) (ended (Stalled r.import) ∷ look_events (store_behind t.told) w.looks))
    (slice_set tellers i (record t { has_ended = true })) (common_of (detached (suc (begun + count)) detaches es) mail last)
    × MailStands boxes (slice_set tellers i (record t { has_ended = true })) mail

-- ---- worlds

-- What a program that is held has told begins its story.
abbrev pub HeldHasStory : Type 0
HeldHasStory = (shows : List Show) (i : ℕ) (w : Program) (t : Teller) (x : Hosted) → Holds shows i w t x → HasStory w t

-- Some run of the world with mailboxes of these names, behind so many events, has these first lines, in which each program's calls meet first what they
-- have met.
abbrev pub BeginsMailWorld : (begun : ℕ) → List Program → List Detach → (boxes : List (List ℕ)) → List Device → List Line → List Teller → Type 0
BeginsMailWorld begun programs detaches boxes ds lines tellers =
    (more : List Line) × (last : List Device) × (world : ProtocolWorldFrom begun programs detaches boxes ds (lines ++ more) last) × HaveMet tellers world.actors

-- The lines of whole events begin a run of the world, where what each program has told begins its story,
abbrev pub MailToldBegins : Type 0
MailToldBegins =
    (begun : ℕ) (programs : List Program) (detaches : List Detach) (boxes : List (List ℕ)) (ds es : List Device) (mail : Mail) (count last : ℕ) (lines : List Line) (tellers : List Teller)
    → Tells begun programs detaches boxes ds count lines tellers (common_of es mail last) → AllZip HasStory programs tellers → BeginsMailWorld begun programs detaches boxes ds lines tellers

-- so do those with the beginning of the next turn,
abbrev pub MailBegunBegins : Type 0
MailBegunBegins =
    (begun : ℕ) (programs : List Program) (detaches : List Detach) (boxes : List (List ℕ)) (ds : List Device) (count i due : ℕ) (lines : List Line) (tellers : List Teller) (now : Amid)
    → TellsOnFrom begun programs detaches boxes ds count i due lines tellers now → AllZip HasStory programs tellers → BeginsMailWorld begun programs detaches boxes ds lines tellers

-- and once all programs have ended, they are a whole run, whose calls met what the programs' calls did.
abbrev pub MailToldWhole : Type 0
MailToldWhole =
    (begun : ℕ) (programs : List Program) (detaches : List Detach) (boxes : List (List ℕ)) (ds es : List Device) (mail : Mail) (count last : ℕ) (lines : List Line) (tellers : List Teller)
    → Tells begun programs detaches boxes ds count lines tellers (common_of es mail last) → AllZip HasStory programs tellers → HaveEnded tellers
    → (world : ProtocolWorldFrom begun programs detaches boxes ds lines es) × HaveMet tellers world.actors
