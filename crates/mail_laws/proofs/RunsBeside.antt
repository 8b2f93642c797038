-- A run of a world with mailboxes, event by event, beside what is known of it.
use Rattle.std.proofs.Common.{◌≡◌, ◌<◌, ◌≤◌, ◌+◌, ◌^◌, ℕ, suc, List, [], ◌∷◌, ◌++◌, length, map, Some, None, true, false, slice_get, slice_set, refl, sym, ap, ◌∙◌, subst, append_assoc}
use Rattle.std.specs.Option.{option_map}
use Rattle.wa_model.specs.declared.answers.Detach.{Detach}
use Rattle.wa_model.specs.declared.events.End.TheVariants.{Stalled}
use Rattle.wa_model.specs.Outside.{AnswerLine, Call, Event, Line, ended}
use Rattle.wa_model.specs.Plan.{Outcome}
use Rattle.wa_model.specs.Blocking.{Note}
use Rattle.world_model.specs.World.{events_with_looks, Device, Program, behind_turn, detached, line_at, look_events, put_off, turn_of}
use Rattle.world_laws.proofs.Journals.{Grows}
use Rattle.world_laws.proofs.Turns.{turn_parts}
use Rattle.mailbox_device.specs.Mail.{names_of}
use Rattle.mail_laws.specs.Mailboxes.{CallsMeet, Midst, Shared}
use Rattle.mail_laws.specs.MailWorld.{told_pause, Actor, HeldStory, IsNext, IsOver, Parked, Stalls, TakesTurn, begun_event, parked_at, parks, store_behind, turn_lines, wake, with_waiting}
use Rattle.mail_laws.specs.Played.{EndsAreTold, Played}
use Rattle.mail_laws.specs.Replays.{AsksDevice, IsNoBox, LastingDevices}
use Rattle.mail_laws.specs.Told.{NoneDue, waits_at, parked_in, having_told, settle_all, Amid, Common, IsLeast, KeepsPromises, Teller, begun_amid, due_of, ends_program, pending, promised, number_of, receive_of, shared_by, tells_stall, tells_turn}
use Rattle.mail_laws.proofs.CallsCounted.{Counted, set_counted, turn_counted}
use Rattle.mail_laws.proofs.CalmLines.{Calm, Going, calm_event, going_event}
use Rattle.mail_laws.proofs.GoingOn.{stall_lines, AllHold, new_sizes, out, sent, stall, stall_keeps, turn, turn_holds}
use Rattle.mail_laws.proofs.KnownCalls.{bound_to}
use Rattle.mail_laws.proofs.MailJournals.{played_grows}
use Rattle.mail_laws.proofs.PlayedAreTold.{outcomes_are, tie, Beside, awake_on, at2, calm, follows, least, lines_are, none_due, small1, stall_beside, stall_shared, stalled_lines, teller_there, tie2, turn_beside, turn_shared, whole_at, will1}
use Rattle.mail_laws.proofs.Promises.{still_sent}
use Rattle.mail_laws.proofs.SameTurns.{calls_names, parked_names}
use Rattle.mail_laws.proofs.ToldAreWorlds.{Whole, parked_of}
use Rattle.mail_laws.proofs.TurnsFollowed.{Followed}
use Rattle.mail_laws.proofs.TurnsTold.{Knows, Turned}

pub no_parked : (p : Parked) → None ≡ Some p → ⊥
no_parked p e = cc

-- a turn of the program of another spelling of its number
module _ {programs : List Program} {detaches : List Detach} {number : ℕ} {actors : List Actor} {sh : Shared} {lines : List Line} {actors' : List Actor} {sh' : Shared} where
  abbrev pub renumbered : (t : TakesTurn programs detaches number actors sh lines actors' sh') (i : ℕ) (w : Program) → t.i ≡ i → t.w ≡ w → slice_get programs i ≡ Some w
      → TakesTurn programs detaches number actors sh lines actors' sh'
  renumbered t i w same one there = record {
    i = i;
    a = t.a;
    w = w;
    next = subst (λ (k : ℕ). IsNext actors k t.a) same t.next;
    program = there;
    outcomes = t.outcomes;
    answers = t.answers;
    behind = t.behind;
    calls = subst (λ (v : Program). CallsMeet v (turn_of t.a.notes) t.a.outcomes t.a.answers (begun_event number detaches sh) t.outcomes t.answers t.behind) one t.calls;
    made = t.made ∙ (λ k. turn_lines (same k) (one k) t.a (parks (turn_of t.a.notes) t.behind.receive));
    after = t.after ∙ (λ k. wake (suc t.a.due) t.behind.settled (slice_set actors (same k) (record {
      due = t.a.due + put_off (turn_of t.a.notes);
      notes = behind_turn t.a.notes;
      outcomes = t.outcomes;
      answers = t.answers;
      parked = parked_at (store_behind (turn_of t.a.notes)) (parks (turn_of t.a.notes) t.behind.receive);
    })));
    shared = t.shared ∙ (λ k. record { devices = t.behind.devices; boxes = with_waiting (same k) (parks (turn_of t.a.notes) t.behind.receive) t.behind.boxes; tick = t.a.due });
  }

  abbrev pub stalled_as : (s : Stalls programs detaches number actors sh lines actors' sh') (i : ℕ) → s.i ≡ i → Stalls programs detaches number actors sh lines actors' sh'
  stalled_as s i same = record {
    i = i;
    a = s.a;
    w = s.w;
    at = s.at;
    there = subst (λ (k : ℕ). slice_get actors k ≡ Some s.a) same s.there;
    program = subst (λ (k : ℕ). slice_get programs k ≡ Some s.w) same s.program;
    waits = s.waits;
    no_more = s.no_more;
    none_ready = s.none_ready;
    first = subst (λ (k : ℕ). (j : ℕ) (b : Actor) (p : Parked) → slice_get actors j ≡ Some b → b.parked ≡ Some p → k ≤ j) same s.first;
    made = s.made ∙ (λ k. map (line_at sh.tick (same k)) (ended (Stalled s.at.import) ∷ look_events s.at.store s.w.looks));
    after = s.after ∙ (λ k. slice_set actors (same k) (record s.a { parked = None }));
    shared = s.shared;
  }

-- a turn that is followed is followed as what it tells
module _ {w : Program} {i : ℕ} {t : Teller} {tellers : List Teller} {begin : Amid} {limit : ℕ} {will : ℕ → ℕ} {outs : List Outcome} {left : List AnswerLine} {zb : Midst} {part : List Note}
    {os : List Outcome} {ms : List Note} {us : List Outcome} where
  abbrev pub follows_as : (f : Followed w i t tellers begin limit will outs left zb part os ms us) (tu : Turned w i t tellers begin limit) → tu.turn ≡ f.tu.turn → tu.met ≡ f.tu.met → tu.answers ≡ f.tu.answers
      → tu.behind ≡ f.tu.behind → Followed w i t tellers begin limit will outs left zb part os ms us
  follows_as f tu turn met answers behind = record {
    tu = tu;
    turn_is = turn ∙ f.turn_is;
    value = f.value;
    small = f.small;
    met_is = f.met_is ∙ (λ k. sym met k ++ pending f.value (ap (λ (m : Amid). m.receive) (sym behind) k) ++ outs);
    answers_is = answers ∙ f.answers_is;
    behind_is = f.behind_is
        ∙ ap (λ (m : Amid). record { devices = m.devices; boxes = map (promised will) m.boxes; settled = map number_of m.settled; receive = option_map (receive_of f.value) m.receive }) (sym behind);
    keeps = subst (λ (m : Amid). KeepsPromises will m.settled) (sym behind) f.keeps;
    over_is = λ o. f.over_is (ap ends_program (sym turn) ∙ o);
  }

-- ---- what a turn leaves of what is known

module _ {w : Program} {i : ℕ} {t : Teller} {tellers : List Teller} {begin : Amid} {limit : ℕ} where
  abbrev pub then_tellers : Turned w i t tellers begin limit → List Teller
  then_tellers tu = settle_all (suc t.due) tu.behind.settled (slice_set tellers i (having_told t tu.turn tu.met tu.answers tu.behind.receive))

  abbrev pub then_common : Turned w i t tellers begin limit → Common
  then_common tu = record { devices = tu.behind.devices; boxes = parked_in i (parks tu.turn tu.behind.receive) tu.behind.boxes; tick = t.due }

  abbrev pub then_lines : Turned w i t tellers begin limit → List Line
  then_lines tu = map (λ (e : Event). line_at t.due i (told_pause (parks tu.turn tu.behind.receive) e)) (events_with_looks w.looks tu.turn)

-- and what a stall does
abbrev pub stalled_teller : Teller → Teller
stalled_teller t = record { due = t.due; has_ended = true; answers = t.answers; told = t.told; met = t.met; receive = t.receive }

abbrev pub stalled_common : (number : ℕ) → List Detach → Common → Common
stalled_common number detaches c = record { devices = detached number detaches c.devices; boxes = c.boxes; tick = c.tick }

-- ---- where a run stands

-- what is known behind the events so far
pub record Known (programs : List Program) (boxes : List (List ℕ)) (tellers : List Teller) (c : Common) (sizes : List ℕ) (before : List Line) : Type 0 where
  pub holds : AllHold programs tellers c sizes
  pub counted : Counted tellers
  pub named : names_of c.boxes ≡ boxes
  pub calm : Calm before tellers
  pub going : Going programs tellers

-- a run that goes on from there to its end
pub record Goes (programs : List Program) (detaches : List Detach) (F : Type 0) (ds' : List Device) (wholes : List Whole) (tellers : List Teller) (c : Common) (before : List Line) (number count : ℕ) (lines : List Line)
    : Type 0 where
  pub will : ℕ → ℕ
  pub small : (j : ℕ) → will j < 2 ^ 32
  pub actors : List Actor
  pub last : List Actor
  pub sh : Shared
  pub end : Shared
  pub beside : Beside will wholes tellers actors
  pub shared : sh ≡ shared_by will c
  pub played : Played programs detaches number count actors sh lines last end
  pub ends : EndsAreTold programs (before ++ lines) last
  pub over : IsOver last
  pub devices : F → end.devices ≡ ds'

abbrev pub Stories : List Program → List Whole → Type 0
Stories programs wholes = (i : ℕ) (w : Program) (h : Whole) → slice_get programs i ≡ Some w → slice_get wholes i ≡ Some h → HeldStory w h.outcomes h.notes

-- where it stands behind an event
pub record Moved (wholes : List Whole) (actors : List Actor) (sh : Shared) (tellers : List Teller) (c : Common) : Type 0 where
  pub will : ℕ → ℕ
  pub small : (j : ℕ) → will j < 2 ^ 32
  pub beside : Beside will wholes tellers actors
  pub shared : sh ≡ shared_by will c

-- what a program has told and met begins what it tells and meets in all
pub record IsPart (wholes : List Whole) (i : ℕ) (told : List Note) (met : List Outcome) : Type 0 where
  pub h : Whole
  pub there : slice_get wholes i ≡ Some h
  pub rest : List Note
  pub more : List Outcome
  pub notes : h.notes ≡ told ++ rest
  pub outcomes : h.outcomes ≡ met ++ more

module _ (programs : List Program) (detaches : List Detach) (boxes : List (List ℕ)) (F : Type 0) (ds' : List Device) (wholes : List Whole) (stories : Stories programs wholes) (count number : ℕ)
    (tellers : List Teller) (c : Common) (sizes : List ℕ) (before lines : List Line) (s : Known programs boxes tellers c sizes before)
    (run : Goes programs detaches F ds' wholes tellers c before number (suc count) lines) where
  abbrev first : List Line
  first = run.played.0

  abbrev acts : List Actor
  acts = run.played.2

  abbrev z : Shared
  z = run.played.3

  awake : (j : ℕ) (t : Teller) (a : Actor) → slice_get tellers j ≡ Some t → slice_get run.actors j ≡ Some a → t.has_ended ≡ false → t.receive ≡ None → 0 < length a.notes
  awake = awake_on programs detaches (suc count) number wholes before lines tellers c sizes run.will run.actors run.last run.sh run.end s.holds run.beside s.calm s.going run.played run.ends

  pub its_teller : (i : ℕ) (a : Actor) → slice_get run.actors i ≡ Some a → (t : Teller) × (slice_get tellers i ≡ Some t)
  its_teller = teller_there programs detaches number wholes run.will tellers c sizes s.holds run.actors run.beside stories awake run.small

  pub its_whole : (i : ℕ) (t : Teller) → slice_get tellers i ≡ Some t → (h : Whole) × (slice_get wholes i ≡ Some h)
  its_whole = whole_at programs detaches number wholes run.will tellers c sizes s.holds run.actors run.beside stories awake run.small

  -- it goes on behind its event
  abbrev pub goes_on : (tellers' : List Teller) (c' : Common) (before' : List Line) → before ++ first ≡ before' → Moved wholes acts z tellers' c'
      → Goes programs detaches F ds' wholes tellers' c' before' (suc number) count run.played.1
  goes_on tellers' c' before' same m = record {
    will = m.will;
    small = m.small;
    actors = acts;
    last = run.last;
    sh = z;
    end = run.end;
    beside = m.beside;
    shared = m.shared;
    played = run.played.5;
    ends = subst (λ (ls : List Line). EndsAreTold programs ls run.last)
        (ap (λ (ls : List Line). before ++ ls) run.played.6 ∙ sym (append_assoc before first run.played.1) ∙ ap (λ (ls : List Line). ls ++ run.played.1) same) run.ends;
    over = run.over;
    devices = run.devices;
  }

  -- by a turn
  module _ (p : TakesTurn programs detaches number run.actors run.sh first acts z) (u : (t : Teller) × (slice_get tellers p.i ≡ Some t)) (h : (h : Whole) × (slice_get wholes p.i ≡ Some h)) where
    pub turn_calm : (u.0.has_ended ≡ false) × (u.0.receive ≡ None)
    turn_calm = calm programs detaches number wholes run.will tellers c sizes s.holds run.actors run.beside stories awake run.small run.sh run.shared first acts z p u h

    pub turn_least : IsLeast (map due_of tellers) p.i u.0.due
    turn_least = least programs detaches number wholes run.will tellers c sizes s.holds run.actors run.beside stories awake run.small run.sh run.shared first acts z p u h

    abbrev pub FollowsTurn : ℕ → Type 0
    FollowsTurn size = Followed p.w p.i u.0 tellers (begun_amid number detaches c) size run.will p.outcomes p.answers p.behind [] [] p.a.notes p.a.outcomes

    pub turn_follows : (size : ℕ) → Knows p.w u.0.met u.0.told size → FollowsTurn size
    turn_follows size knows = follows programs detaches number wholes run.will tellers c sizes s.holds run.actors run.beside stories awake run.small run.sh run.shared first acts z p u h size knows

    module _ (n : ℕ) (sized : slice_get sizes p.i ≡ Some n) (size : ℕ) (n_is : n ≡ suc size) (g : FollowsTurn size) where
      pub turn_lines_are : first ≡ then_lines g.tu
      turn_lines_are = lines_are programs detaches number wholes run.will tellers c sizes s.holds run.actors run.beside stories awake run.small run.sh run.shared first acts z p u h n sized size n_is g

      pub turn_moved : Moved wholes acts z (then_tellers g.tu) (then_common g.tu)
      turn_moved = record {
        will = will1 programs detaches number wholes run.will tellers c sizes s.holds run.actors run.beside stories awake run.small run.sh run.shared first acts z p u h n sized size n_is g;
        small = small1 programs detaches number wholes run.will tellers c sizes s.holds run.actors run.beside stories awake run.small run.sh run.shared first acts z p u h n sized size n_is g;
        beside = turn_beside programs detaches number wholes run.will tellers c sizes s.holds run.actors run.beside stories awake run.small run.sh run.shared first acts z p u h n sized size n_is g;
        shared = turn_shared programs detaches number wholes run.will tellers c sizes s.holds run.actors run.beside stories awake run.small run.sh run.shared first acts z p u h n sized size n_is g;
      }

      pub turn_part : IsPart wholes p.i (u.0.told ++ g.tu.turn) (u.0.met ++ g.tu.met)
      turn_part = record {
        h = h.0;
        there = h.1;
        rest = behind_turn p.a.notes;
        more = pending g.value g.tu.behind.receive ++ p.outcomes;
        notes = sym (append_assoc u.0.told g.tu.turn (behind_turn p.a.notes) ∙ ap (λ (ns : List Note). u.0.told ++ (ns ++ behind_turn p.a.notes)) g.turn_is
            ∙ ap (λ (ns : List Note). u.0.told ++ ns) (turn_parts p.a.notes) ∙ (tie programs detaches number wholes run.will tellers c sizes s.holds run.actors run.beside stories awake run.small run.sh run.shared first acts z p u h).notes);
        outcomes = sym (append_assoc u.0.met g.tu.met (pending g.value g.tu.behind.receive ++ p.outcomes)
            ∙ ap (λ (os : List Outcome). u.0.met ++ os) (sym (append_assoc g.tu.met (pending g.value g.tu.behind.receive) p.outcomes) ∙ sym g.met_is)
            ∙ outcomes_are programs detaches number wholes run.will tellers c sizes s.holds run.actors run.beside stories awake run.small run.sh run.shared first acts z p u h);
      }

      pub turn_known : (sizes' : List ℕ) × Known programs boxes (then_tellers g.tu) (then_common g.tu) sizes' (before ++ first)
      turn_known =
          let event = tells_turn (turn programs detaches number tellers c sizes s.holds p.i p.w u.0 n p.program u.1 sized turn_calm.0 turn_calm.1 turn_least size n_is g.tu) in (
            new_sizes programs detaches number tellers c sizes s.holds p.i p.w u.0 n p.program u.1 sized turn_calm.0 turn_calm.1 turn_least size n_is g.tu,
            record {
              holds = turn_holds programs detaches number tellers c sizes s.holds p.i p.w u.0 n p.program u.1 sized turn_calm.0 turn_calm.1 turn_least size n_is g.tu;
              counted = turn_counted (suc u.0.due) p.i g.tu.behind.settled tellers u.0 p.w g.tu.turn g.tu.met g.tu.answers (begun_amid number detaches c) g.tu.behind
                  (still_sent tellers g.tu.behind.settled p.i _
                  (out programs detaches number tellers c sizes s.holds p.i p.w u.0 n p.program u.1 sized turn_calm.0 turn_calm.1 turn_least size n_is g.tu)
                  (sent programs detaches number tellers c sizes s.holds p.i p.w u.0 n p.program u.1 sized turn_calm.0 turn_calm.1 turn_least size n_is g.tu)) s.counted (s.counted p.i u.0 u.1) turn_calm.1 refl g.tu.known;
              named = parked_names p.i (parks g.tu.turn g.tu.behind.receive) g.tu.behind.boxes
                  ∙ calls_names p.w g.tu.turn g.tu.met [] u.0.answers g.tu.answers (begun_amid number detaches c) g.tu.behind g.tu.known ∙ s.named;
              calm = subst (λ (ls : List Line). Calm (before ++ ls) (then_tellers g.tu)) (sym turn_lines_are)
                  (calm_event programs detaches number tellers c before (then_lines g.tu) s.calm (then_tellers g.tu) (then_common g.tu) event);
              going = going_event programs detaches number tellers c (then_lines g.tu) s.going (then_tellers g.tu) (then_common g.tu) event;
            },
          )

      -- its devices keep their journals to the end
      pub turn_grows : LastingDevices programs detaches boxes → F → (call : Call) (name : List ℕ) → bound_to p.w call ≡ Some name → IsNoBox name boxes
          → Grows name g.tu.behind.devices ds'
      turn_grows lasting asks call name bound no_box =
          let asked : AsksDevice programs boxes = record { i = p.i; w = p.w; import = call.import; name = name; program = p.program; bound = bound; no_box = no_box } in
          subst (λ (ds : List Device). Grows name ds ds') (ap (λ (y : Shared). y.devices) turn_moved.shared)
          (subst (λ (ds : List Device). Grows name z.devices ds) (run.devices asks)
          (played_grows programs detaches name (lasting asked) count (suc number) acts run.last z run.end run.played.1 run.played.5))

  -- by a stall
  module _ (p : Stalls programs detaches number run.actors run.sh first acts z) (u : (t : Teller) × (slice_get tellers p.i ≡ Some t)) (h : (h : Whole) × (slice_get wholes p.i ≡ Some h)) where
    pub stall_none : NoneDue (map due_of tellers)
    stall_none = none_due programs detaches number wholes run.will tellers c sizes s.holds run.actors run.beside stories awake run.small run.sh run.shared first acts z p u h

    pub stall_at : parked_of (store_behind u.0.told) (waits_at u.0) ≡ Some p.at
    stall_at = sym (tie2 programs detaches number wholes run.will tellers c sizes s.holds run.actors run.beside stories awake run.small run.sh run.shared first acts z p u h).parked ∙ p.waits

    pub stall_moved : Moved wholes acts z (slice_set tellers p.i (stalled_teller u.0)) (stalled_common number detaches c)
    stall_moved = record {
      will = run.will;
      small = run.small;
      beside = stall_beside programs detaches number wholes run.will tellers c sizes s.holds run.actors run.beside stories awake run.small run.sh run.shared first acts z p u h;
      shared = stall_shared programs detaches number wholes run.will tellers c sizes s.holds run.actors run.beside stories awake run.small run.sh run.shared first acts z p u h;
    }

    pub stall_known : (sizes' : List ℕ) × Known programs boxes (slice_set tellers p.i (stalled_teller u.0)) (stalled_common number detaches c) sizes' (before ++ first)
    stall_known =
        let event = tells_stall (stall programs detaches number tellers c sizes s.holds stall_none (at2 programs detaches number wholes run.will tellers c sizes s.holds run.actors run.beside stories awake run.small run.sh run.shared first acts z p u h)) in
        let made : first ≡ stall_lines programs detaches number tellers c sizes s.holds stall_none (at2 programs detaches number wholes run.will tellers c sizes s.holds run.actors run.beside stories awake run.small run.sh run.shared first acts z p u h) =
        stalled_lines programs detaches number wholes run.will tellers c sizes s.holds run.actors run.beside stories awake run.small run.sh run.shared first acts z p u h in (
          slice_set sizes p.i 0,
          record {
            holds = stall_keeps programs detaches number tellers c sizes s.holds stall_none (at2 programs detaches number wholes run.will tellers c sizes s.holds run.actors run.beside stories awake run.small run.sh run.shared first acts z p u h);
            counted = set_counted tellers p.i (stalled_teller u.0) s.counted (s.counted p.i u.0 u.1);
            named = s.named;
            calm = subst (λ (ls : List Line). Calm (before ++ ls) (slice_set tellers p.i (stalled_teller u.0))) (sym made)
                (calm_event programs detaches number tellers c before _ s.calm (slice_set tellers p.i (stalled_teller u.0)) (stalled_common number detaches c) event);
            going = going_event programs detaches number tellers c _ s.going (slice_set tellers p.i (stalled_teller u.0)) (stalled_common number detaches c) event;
          },
        )
