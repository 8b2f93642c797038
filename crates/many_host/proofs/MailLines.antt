-- Where a host with mailboxes stands behind a note of a turn.
use Rattle.std.proofs.Common.{arith, ◌≡◌, ◌<◌, ◌≤◌, All, ◌+◌, ◌++◌, ◌||◌, ℕ, suc, List, [], ◌∷◌, length, map, Option, Some, None, Bool, true, false, if◌then◌else◌, refl, sym, ap, ◌∙◌, subst, length-set, append-nil, append_assoc}
use Rattle.std.specs.Prelude.{MatchOption, is_some, slice_get, slice_set}
use Rattle.std.specs.List.{find}
use Rattle.std.specs.Option.{option_map}
use Rattle.std.proofs.lemmas.List.{map-set, set-set, set_comm}
use Rattle.std.proofs.lemmas.List.Elements.{All-set}
use Rattle.std.proofs.lemmas.Option.{same_Some}
use Rattle.wa_model.specs.declared.answers.Detach.{Detach}
use Rattle.wa_model.specs.declared.events.End.{End}
use Rattle.wa_model.specs.Outside.{Call, Event, Line, called, answered, paused, parked, returned, ended, shown}
use Rattle.wa_model.specs.Plan.{Outcome}
use Rattle.wa_model.specs.Blocking.{Note}
use Rattle.world_model.specs.World.{Device, Program, call_in, ends_turn, is_end, line_at, looks_after, ticks_in}
use Rattle.world_laws.proofs.Places.{set_here, set_there}
use Rattle.event_order.specs.declared.turns.Turn.{Turn}
use Rattle.event_order.specs.Left.{Counted}
use Rattle.event_order.specs.Looks.{looks_of}
use Rattle.mailbox_device.specs.declared.mailbox.Settled.{Settled}
use Rattle.mailbox_device.specs.Mail.{Mail, WaitsNowhere, at_box, awaited, is_box}
use Rattle.mail_laws.specs.MailWorld.{is_pause as is_pause_told, parks, told_pause}
use Rattle.mail_laws.specs.Told.{Await, Common, NotAmong, Teller, Tells, due_of, if_going, pending, parked_in as parked_boxes, settle_all, unless_waiting}
use Rattle.pause_host.specs.Mailing.{MailAnswers, MailSupply, TakesMail, amid_of}
use Rattle.pause_host.specs.Programs.{StopsBehindReceive, TellsNext, begins_paused, ends_in_pause, is_at_pause, lines_left, parked_in, receive_in}
use Rattle.pause_host.specs.Views.{is_pause}
use Rattle.pause_host.proofs.Advancing.{told_end}
use Rattle.pause_host.proofs.Stopping.{no_call_parked}
use Rattle.many_host.specs.Calls.{devices_of, faults_of}
use Rattle.many_host.specs.Hosts.{memory_of}
use Rattle.many_host.specs.MailStanding.{AreParked, CallTakes, CanWait, HaveGot, IsHeld, MailStands, MeetMore, StandingFrom, StandsAtFrom, TakesCall, TellsLineFrom, common_of, due_behind, dues_at, dues_settled, met_so_far, on_its_way, stage_behind, with_waiting}
use Rattle.many_host.specs.MailTurns.{TellsOnFrom}
use Rattle.many_host.specs.ToldMail.{GoesOnBy, mail_behind, with_last}
use Rattle.many_host.specs.Standing as S
use Rattle.many_host.specs.Standing.{Held, looks_at}
use Rattle.many_host.specs.declared.hosted.Hosted.{Hosted}
use Rattle.many_host.specs.declared.turn_taking.Stage.{Stage}
use Rattle.many_host.specs.declared.turn_taking.Stage.TheVariants.{Between, Telling, Showing}
use Rattle.many_host.proofs.MailGot.{EachHeld, all_got, dues_got, many_got, many_held}
use Rattle.many_host.proofs.MailNext.{next_held}
use Rattle.many_host.proofs.DueTicks.{due_behind_it, place_behind}
use Rattle.many_host.proofs.MailHeld.{IsParkedAt, parked_at}
use Rattle.many_host.proofs.MailNotes.{mail_turn_awake, mail_turn_ends}
use Rattle.mail_laws.proofs.Grown.{settle_out}
use Rattle.many_host.proofs.MailTells as T
use Rattle.many_host.proofs.MailTells.{set_held}

-- ---- those that were sent a value, and another

-- another is due as it was
pub due_past : (due : ℕ) (ss : List Settled) (dues : List (Option ℕ)) (i : ℕ) (d : Option ℕ) → NotAmong i ss → slice_set (dues_settled due ss dues) i d ≡ dues_settled due ss (slice_set dues i d)
due_past due [] dues i d out = refl
due_past due (s ∷ ss) dues i d out =
    due_past due ss (slice_set dues s.program (Some due)) i d out.1 ∙ ap (dues_settled due ss) (set_comm dues s.program i (Some due) d (λ e. out.0 (sym e)))

-- and stands as it was
pub got_past : (ss : List Settled) (xs xs' : List Hosted) (i : ℕ) → NotAmong i ss → HaveGot ss xs xs' → slice_get xs' i ≡ slice_get xs i
got_past [] xs xs' i out h = ap (λ (l : List Hosted). slice_get l i) h
got_past (s ∷ ss) xs xs' i out h = got_past ss (slice_set xs s.program h.1) xs' i out.1 h.4 ∙ set_there xs s.program i h.1 out.0

-- ---- devices with their counts

pub counted_same : (old new : List Counted) → devices_of new ≡ devices_of old → faults_of new ≡ faults_of old → new ≡ old
counted_same [] [] d f = refl
counted_same [] (n ∷ ns) d f = cc
counted_same (o ∷ os) [] d f = cc
counted_same (o ∷ os) (n ∷ ns) d f =
    let first_d : n.device ≡ o.device = cc in
    let first_f : n.faults ≡ o.faults = cc in
    let rest_d : devices_of ns ≡ devices_of os = cc in
    let rest_f : faults_of ns ≡ faults_of os = cc in
    λ j. record { device = first_d j; faults = first_f j } ∷ counted_same os ns rest_d rest_f j

-- what doesn't end a turn is told as it is
pub told_plain : {X : Type 0} (r : Option X) (e : Event) → ends_turn e ≡ false → told_pause r e ≡ e
told_plain None e q = refl
told_plain (Some r) (called c) q = refl
told_plain (Some r) (answered v) q = refl
told_plain (Some r) (paused ticks used) q = cc
told_plain (Some r) (returned entry v) q = refl
told_plain (Some r) (ended how) q = cc
told_plain (Some r) (parked used) q = refl
told_plain (Some r) (shown at bytes) q = refl

last_pause : (b : Bool) (notes : List Note) (x : Note) → ends_in_pause b (notes ++ x ∷ []) ≡ is_pause x.event
last_pause b [] x = refl
last_pause b (y ∷ ys) x = last_pause (is_pause y.event) ys x

module _ (begun : ℕ) (programs : List Program) (detaches : List Detach) (boxes : List (List ℕ)) (ds : List Device) (lines : List Line) (h : Held Hosted) (last : ℕ) (ds' : List Device) (mail : Mail)
    (turn : Turn) (s : StandingFrom begun programs detaches boxes ds lines h last ds' mail (Telling turn)) (x : Hosted) (there : slice_get h.programs turn.program ≡ Some x)
    (x' : Hosted) (e : Event) (faults faults' : List ℕ) (ds'' : List Device) (mail' : Mail) where
  abbrev i : ℕ
  i = turn.program

  abbrev t : Teller
  t = s.at.2

  abbrev w : Program
  w = s.at.6.w

  abbrev old : MailSupply
  old = T.old begun programs detaches boxes ds lines h last ds' mail turn s x there x' e faults faults' ds'' mail'

  abbrev new : MailSupply
  new = T.new begun programs detaches boxes ds lines h last ds' mail turn s x there x' e faults faults' ds'' mail'

  module _ (n : TellsNext w t.told (met_so_far t) e old new x'.program)
      (stops : StopsBehindReceive x'.program × ((r : Await) → receive_in x.program ≡ Some r → call_in e ≡ None)) where
    abbrev x_note : Note
    x_note = n.advances.note

    -- the held programs behind it
    abbrev held_now : List Hosted → List (Option ℕ) → Held Hosted
    held_now xs dues = record { programs = xs; dues = dues; detaches = h.detaches; shows = h.shows; begun = h.begun; earlier = h.earlier }

    paused_is : is_at_pause x'.program.state ≡ is_pause x_note.event
    paused_is = n.advances.follows.paused ∙ last_pause (begins_paused w.origin) t.told x_note

    said : e ≡ told_pause (receive_in x'.program) x_note.event
    said = n.event_is ∙ ap (told_pause (receive_in x'.program)) (sym n.advances.event_is)

    -- what is told behind
    abbrev line : Line
    line = line_at turn.due i e

    -- ---- it goes on

    module _ (quiet : ends_turn x_note.event ≡ false) (xs : List Hosted) (due : ℕ) (due_is : due ≡ suc turn.due) where
      abbrev ss : List Settled
      ss = mail'.settled

      abbrev goes : GoesOnBy begun programs detaches boxes ds s.at.0 i turn.due lines s.tellers s.at.4 t x_note n.advances.met new
      goes = T.goes begun programs detaches boxes ds lines h last ds' mail turn s x there x' e faults faults' ds'' mail' n stops quiet

      abbrev told : List Teller
      told = T.told begun programs detaches boxes ds lines h last ds' mail turn s x there x' e faults faults' ds'' mail' n stops quiet

      abbrev advanced : List Hosted
      advanced = slice_set h.programs i x'

      abbrev next : Teller
      next = T.next begun programs detaches boxes ds lines h last ds' mail turn s x there x' e faults faults' ds'' mail' n stops quiet

      abbrev behind : List Teller
      behind = settle_all (suc turn.due) ss told

      goes_dues : dues_settled due ss (slice_set h.dues i (Some turn.due)) ≡ dues_at behind (Telling turn)
      goes_dues =
          ap (λ d. dues_settled d ss (slice_set h.dues i (Some turn.due))) due_is
          ∙ ap (λ (l : List (Option ℕ)). dues_settled (suc turn.due) ss (slice_set l i (Some turn.due))) s.dues
          ∙ ap (dues_settled (suc turn.due) ss) (set-set (map due_of s.tellers) i (Some turn.due) (Some turn.due) ∙ sym (set-set (map due_of s.tellers) i (due_of next) (Some turn.due)))
          ∙ sym (due_past (suc turn.due) ss (slice_set (map due_of s.tellers) i (due_of next)) i (Some turn.due) goes.apart)
          ∙ ap (λ (l : List (Option ℕ)). slice_set l i (Some turn.due))
          (ap (dues_settled (suc turn.due) ss) (sym (map-set due_of s.tellers i next))
          ∙ dues_got h.shows programs (suc turn.due) ss told (T.sent_now begun programs detaches boxes ds lines h last ds' mail turn s x there x' e faults faults' ds'' mail' n stops quiet))

      e_is : x_note.event ≡ e
      e_is = sym (said ∙ told_plain (receive_in x'.program) x_note.event quiet)

      abbrev goes_stands : HaveGot ss advanced xs → parked_in x'.program ≡ None
          → StandingFrom begun programs detaches boxes ds (lines ++ line ∷ []) (held_now xs (dues_settled due ss (slice_set h.dues i (Some turn.due)))) last ds'' (record mail' { settled = [] }) (Telling turn)
      goes_stands got idle =
          record {
            tellers = behind;
            wide = many_got h.shows programs (suc turn.due) ss told ∙ length-set s.tellers i next ∙ s.wide;
            as_many = many_held h.shows programs (suc turn.due) ss advanced xs got ∙ length-set h.programs i x' ∙ s.as_many;
            each = all_got h.shows programs (suc turn.due) ss told advanced xs
                (T.each_held begun programs detaches boxes ds lines h last ds' mail turn s x there x' e faults faults' ds'' mail' n stops quiet)
                (T.sent_now begun programs detaches boxes ds lines h last ds' mail turn s x there x' e faults faults' ds'' mail' n stops quiet) got;
            dues = goes_dues;
            detaches_are = s.detaches_are;
            earlier_is = s.earlier_is;
            count = s.count;
            begun_is = s.begun_is;
            at = (
              s.at.0,
              s.at.1,
              next,
              settle_out (suc turn.due) ss told i goes.apart ∙ set_here s.tellers i next t s.at.3,
              s.at.4 ++ ss,
              refl,
              subst (λ (v : Event). TellsOnFrom begun programs detaches boxes ds s.at.0 i turn.due (lines ++ line_at turn.due i v ∷ []) behind
                  (amid_of ds'' (record mail' { settled = s.at.4 ++ ss }) (receive_in x'.program))) e_is goes.on,
              s.at.7,
              λ y at. let same : x' ≡ y = same_Some x' y (sym (got_past ss advanced xs i goes.apart got ∙ set_here h.programs i x' x there) ∙ at) in
                  ap (λ (z : Hosted). parked_in z.program) (sym same) ∙ idle,
            );
          }

    -- ---- it ends the turn

    module _ (ends : ends_turn x_note.event ≡ true) where
      no_call : call_in x_note.event ≡ None
      no_call = by x_note.event ends
        where
          by : (v : Event) → ends_turn v ≡ true → call_in v ≡ None
          by (called c) q = cc
          by (answered v) q = refl
          by (paused ticks used) q = refl
          by (returned entry v) q = refl
          by (ended how) q = refl
          by (parked used) q = refl
          by (shown at bytes) q = refl

      takes_none : TakesMail w None old n.advances.met new
      takes_none = subst (λ (c : Option Call). TakesMail w c old n.advances.met new) no_call n.advances.takes

      ds_is : ds'' ≡ ds'
      ds_is = ap (λ (z : MailSupply). z.amid.devices) takes_none.1

      boxes_is : mail'.boxes ≡ mail.boxes
      boxes_is = ap (λ (z : MailSupply). z.amid.boxes) takes_none.1

      settled_is : mail'.settled ≡ []
      settled_is = ap (λ (z : MailSupply). z.amid.settled) takes_none.1 ∙ s.at.5

      receive_is : receive_in x'.program ≡ t.receive
      receive_is = ap (λ (z : MailSupply). z.amid.receive) takes_none.1 ∙ (T.held begun programs detaches boxes ds lines h last ds' mail turn s x there).follow.2

      lines_is : lines_left x'.program ≡ t.answers
      lines_is = ap (λ (z : MailSupply). z.lines) takes_none.1 ∙ (T.held begun programs detaches boxes ds lines h last ds' mail turn s x there).follow.1

      abbrev end : Teller
      end = with_last t x_note t.receive

      end_known : met_so_far t ++ n.advances.met ≡ met_so_far end
      end_known = ap (λ os. met_so_far t ++ os) takes_none.0 ∙ append-nil (met_so_far t) ∙ ap (λ os. os ++ pending 0 t.receive) (sym (append-nil t.met))

      end_holds : IsHeld h.shows i w end x'
      end_holds =
          next_held h.shows i w t x x' e old new (T.held begun programs detaches boxes ds lines h last ds' mail turn s x there)
          (T.unfinished begun programs detaches boxes ds lines h last ds' mail turn s x there) n stops.0 [] t.answers t.receive lines_is receive_is end_known

      abbrev ended_tellers : List Teller
      ended_tellers = slice_set s.tellers i end

      abbrev parking : Option Await
      parking = parks (x_note ∷ []) t.receive

      law : Tells begun programs detaches boxes ds (suc s.at.0)
          (lines ++ line_at turn.due i (told_pause parking x_note.event) ∷ map (line_at turn.due i) (looks_after w.looks x_note x_note.event)) ended_tellers
          (common_of ds' (mail_behind i parking (amid_of ds' (record mail { settled = s.at.4 }) t.receive)) turn.due)
          × MailStands boxes ended_tellers (mail_behind i parking (amid_of ds' (record mail { settled = s.at.4 }) t.receive)) × MeetMore i [] s.tellers ended_tellers
      law =
          mail_turn_ends begun programs detaches boxes ds s.at.0 i turn.due lines s.tellers w t x_note (amid_of ds' (record mail { settled = s.at.4 }) t.receive) s.at.6 s.at.6.program s.at.3 ends

      -- what is settled behind is nothing
      advanced_is : (xs : List Hosted) → HaveGot mail'.settled (slice_set h.programs i x') xs → xs ≡ slice_set h.programs i x'
      advanced_is xs got = subst (λ (ss : List Settled). HaveGot ss (slice_set h.programs i x') xs) settled_is got

      end_dues : (due : ℕ) (d : Option ℕ) → d ≡ due_of end → dues_settled due mail'.settled (slice_set h.dues i d) ≡ map due_of ended_tellers
      end_dues due d is =
          ap (λ (ss : List Settled). dues_settled due ss (slice_set h.dues i d)) settled_is
          ∙ ap (λ (l : List (Option ℕ)). slice_set l i d) s.dues ∙ set-set (map due_of s.tellers) i (Some turn.due) d
          ∙ ap (slice_set (map due_of s.tellers) i) is ∙ sym (map-set due_of s.tellers i end)

      -- where it then stands
      module _ (xs : List Hosted) (got : HaveGot mail'.settled (slice_set h.programs i x') xs) (due : ℕ) (d : Option ℕ) (d_is : d ≡ due_of end) where
        abbrev now : Held Hosted
        now = held_now xs (dues_settled due mail'.settled (slice_set h.dues i d))

        end_each : EachHeld h.shows programs due ended_tellers xs
        end_each =
            subst (EachHeld h.shows programs due ended_tellers) (sym (advanced_is xs got))
            (set_held h.shows programs due s.tellers h.programs i w t end x x' s.each s.at.6.program s.at.3 there (on_its_way end_holds))

        abbrev ends_stands : (mail'' : Mail) (stage : Stage) → dues_at ended_tellers stage ≡ map due_of ended_tellers
            → StandsAtFrom begun programs detaches boxes ds s.count (lines ++ line ∷ []) ended_tellers now last ds'' mail'' stage
            → StandingFrom begun programs detaches boxes ds (lines ++ line ∷ []) now last ds'' mail'' stage
        ends_stands mail'' stage plain at =
            record {
              tellers = ended_tellers;
              wide = length-set s.tellers i end ∙ s.wide;
              as_many = ap length (advanced_is xs got) ∙ length-set h.programs i x' ∙ s.as_many;
              each = end_each;
              dues = end_dues due d d_is ∙ sym plain;
              detaches_are = s.detaches_are;
              earlier_is = s.earlier_is;
              count = s.count;
              begun_is = s.begun_is;
              at = at;
            }

        -- behind the event, by the receive at which it parks
        ended_at : (v : Event) → x_note.event ≡ v → (o : Option Await) → parking ≡ o → (m : Mail) → m ≡ record { boxes = parked_boxes i o mail.boxes; settled = [] }
            → Tells begun programs detaches boxes ds s.count (lines ++ line_at turn.due i (told_pause o v) ∷ map (line_at turn.due i) (looks_after w.looks x_note v)) ended_tellers (common_of ds'' m last)
            × MailStands boxes ended_tellers m
        ended_at v is o p m m_is =
            let whole : mail_behind i parking (amid_of ds' (record mail { settled = s.at.4 }) t.receive) ≡ m = (λ j. record { boxes = parked_boxes i (p j) mail.boxes; settled = [] }) ∙ sym m_is in
            let common : common_of ds' (mail_behind i parking (amid_of ds' (record mail { settled = s.at.4 }) t.receive)) turn.due ≡ common_of ds'' m last =
            λ j. common_of (sym ds_is j) (whole j) (sym s.at.7 j) in (
              subst (λ (c : Common). Tells begun programs detaches boxes ds s.count
                  (lines ++ line_at turn.due i (told_pause o v) ∷ map (line_at turn.due i) (looks_after w.looks x_note v)) ended_tellers c) common
                  (subst (λ (k : ℕ). Tells begun programs detaches boxes ds k
                  (lines ++ line_at turn.due i (told_pause o v) ∷ map (line_at turn.due i) (looks_after w.looks x_note v)) ended_tellers
                  (common_of ds' (mail_behind i parking (amid_of ds' (record mail { settled = s.at.4 }) t.receive)) turn.due)) (sym s.at.1)
                  (subst (λ (ls : List Line). Tells begun programs detaches boxes ds (suc s.at.0) ls ended_tellers
                  (common_of ds' (mail_behind i parking (amid_of ds' (record mail { settled = s.at.4 }) t.receive)) turn.due))
                  (λ j. lines ++ line_at turn.due i (told_pause (p j) (is j)) ∷ map (line_at turn.due i) (looks_after w.looks x_note (is j))) law.0)),
              subst (MailStands boxes ended_tellers) whole law.1,
            )

        -- a pause
        pub at_pause : (ticks used : ℕ) → x_note.event ≡ paused ticks used → (o : Option Await) → t.receive ≡ o → (m : Mail) → m ≡ record { boxes = parked_boxes i o mail.boxes; settled = [] }
            → StandsAtFrom begun programs detaches boxes ds s.count (lines ++ line ∷ []) ended_tellers now last ds'' m Between
        at_pause ticks used is o r m m_is =
            let parks_is : parking ≡ o = ap (λ (v : Event). if is_pause_told v then t.receive else None) is ∙ r in
            let e_is : told_pause o (paused ticks used) ≡ e = (λ j. told_pause (sym (receive_is ∙ r) j) (sym is j)) ∙ sym said in
            let at = ended_at (paused ticks used) is o parks_is m m_is in (
              subst (λ (v : Event). Tells begun programs detaches boxes ds s.count (lines ++ line_at turn.due i v ∷ []) ended_tellers (common_of ds'' m last)) e_is at.0,
              at.1,
            )

        -- an end
        pub at_end : (how : End) → x_note.event ≡ ended how → (m : Mail) → m ≡ record { boxes = mail.boxes; settled = [] }
            → StandsAtFrom begun programs detaches boxes ds s.count (lines ++ line ∷ []) ended_tellers now last ds'' m (Showing turn 0)
        at_end how is m m_is =
            let parks_is : parking ≡ None = ap (λ (v : Event). if is_pause_told v then t.receive else None) is in
            let e_is : ended how ≡ e = sym (said ∙ ap (told_pause (receive_in x'.program)) is ∙ told_end (receive_in x'.program) how) in
            let at = ended_at (ended how) is None parks_is m m_is in
            let looks : w.looks ≡ looks_of i h.shows = end_holds.looks in
            let lines_are : lines ++ line_at turn.due i (ended how) ∷ map (line_at turn.due i) (looks_after w.looks x_note (ended how))
            ≡ (lines ++ line ∷ []) ++ map (line_at turn.due i) (looks_at (memory_of x') (looks_of i h.shows)) =
            (λ j. lines ++ line_at turn.due i (e_is j) ∷ map (line_at turn.due i) (looks_at (sym n.advances.memory_is j) (looks j)))
            ∙ sym (append_assoc lines (line ∷ []) (map (line_at turn.due i) (looks_at (memory_of x') (looks_of i h.shows)))) in (
              x',
              ap (λ (l : List Hosted). slice_get l i) (advanced_is xs got) ∙ set_here h.programs i x' x there,
              subst (λ (ls : List Line). Tells begun programs detaches boxes ds s.count ls ended_tellers (common_of ds'' m last)) lines_are at.0,
              at.1,
            )

    -- ---- the next line

    -- when the program is due behind an event, and where the host stands, where the turn goes on
    due_on : (v : Event) (due : ℕ) → ends_turn v ≡ false → S.due_behind due v ≡ Some due
    due_on (called c) due q = ap Some (omega arith)
    due_on (answered v) due q = ap Some (omega arith)
    due_on (paused ticks used) due q = cc
    due_on (returned entry v) due q = ap Some (omega arith)
    due_on (ended how) due q = cc
    due_on (parked used) due q = ap Some (omega arith)
    due_on (shown at bytes) due q = ap Some (omega arith)

    stage_on : (v : Event) → ends_turn v ≡ false → S.stage_behind turn v ≡ Telling turn
    stage_on (called c) q = refl
    stage_on (answered v) q = refl
    stage_on (paused ticks used) q = cc
    stage_on (returned entry v) q = refl
    stage_on (ended how) q = cc
    stage_on (parked used) q = refl
    stage_on (shown at bytes) q = refl

    quiet_pause : (v : Event) → ends_turn v ≡ false → is_pause v ≡ false
    quiet_pause (called c) q = refl
    quiet_pause (answered v) q = refl
    quiet_pause (paused ticks used) q = cc
    quiet_pause (returned entry v) q = refl
    quiet_pause (ended how) q = refl
    quiet_pause (parked used) q = refl
    quiet_pause (shown at bytes) q = refl

    abbrev parked_if : Bool → Option Await → Option (List ℕ)
    parked_if b o = if b then option_map (λ (r : Await). r.box) o else None

    unparked : is_pause x_note.event ≡ false → parked_in x'.program ≡ None
    unparked q = ap (λ b. parked_if b (receive_in x'.program)) (paused_is ∙ q)

    module _ (xs : List Hosted) (got : HaveGot mail'.settled (slice_set h.programs i x') xs) (due : ℕ) (due_is : due ≡ suc turn.due) (co cn : List Counted) where
      abbrev mail_then : Option (List ℕ) → Mail
      mail_then o = record (with_waiting i o mail') { settled = [] }

      -- one line more, where the program is then due at this tick and the host stands here
      abbrev Goal : Option (List ℕ) → Option ℕ → Stage → Type 0
      Goal o d stage =
          TellsLineFrom begun programs detaches boxes ds lines s.tellers co cn mail line (held_now xs (dues_settled due mail'.settled (slice_set h.dues i d))) last ds'' (mail_then o) stage

      module _ (takes : TakesCall programs line n.advances.met co cn mail (mail_then (parked_in x'.program))) where
        goes_on_line : ends_turn x_note.event ≡ false → Goal (parked_in x'.program) (due_behind (is_some (parked_in x'.program)) turn.due e) (stage_behind (is_some (parked_in x'.program)) turn e)
        goes_on_line q =
            let idle = unparked (quiet_pause x_note.event q) in
            let plain : e ≡ x_note.event = said ∙ told_plain (receive_in x'.program) x_note.event q in
            let q_e : ends_turn e ≡ false = ap ends_turn plain ∙ q in
            let d_is : due_behind (is_some (parked_in x'.program)) turn.due e ≡ Some turn.due = ap (λ o. due_behind (is_some o) turn.due e) idle ∙ due_on e turn.due q_e in
            let st_is : stage_behind (is_some (parked_in x'.program)) turn e ≡ Telling turn = ap (λ o. stage_behind (is_some o) turn e) idle ∙ stage_on e q_e in
            let stands = goes_stands q xs due due_is got idle in
            let line_now : Goal None (Some turn.due) (Telling turn) =
            record {
              stands = stands;
              met = n.advances.met;
              meets = (T.goes begun programs detaches boxes ds lines h last ds' mail turn s x there x' e faults faults' ds'' mail' n stops q).meets;
              takes = subst (λ o. TakesCall programs line n.advances.met co cn mail (mail_then o)) idle takes;
            } in
            subst (λ (st : Stage). Goal (parked_in x'.program) (due_behind (is_some (parked_in x'.program)) turn.due e) st) (sym st_is)
            (subst (λ (d : Option ℕ). Goal (parked_in x'.program) d (Telling turn)) (sym d_is) (subst (λ o. Goal o (Some turn.due) (Telling turn)) (sym idle) line_now))

        module _ (ends : ends_turn x_note.event ≡ true) where
          met_none : n.advances.met ≡ []
          met_none = (takes_none ends).0

          end_due_now : t.due ≡ turn.due
          end_due_now = T.due_now begun programs detaches boxes ds lines h last ds' mail turn s x there

          -- from where it stands
          ended_line : (o : Option (List ℕ)) → parked_in x'.program ≡ o → (d : Option ℕ) → d ≡ due_of (end ends) → (stage : Stage) → dues_at (ended_tellers ends) stage ≡ map due_of (ended_tellers ends)
              → StandsAtFrom begun programs detaches boxes ds s.count (lines ++ line ∷ []) (ended_tellers ends) (held_now xs (dues_settled due mail'.settled (slice_set h.dues i d))) last ds'' (mail_then o) stage
              → Goal o d stage
          ended_line o p d d_is stage plain at =
              record {
                stands = ends_stands ends xs got due d d_is (mail_then o) stage plain at;
                met = n.advances.met;
                meets = subst (λ (os : List Outcome). MeetMore i os s.tellers (ended_tellers ends)) (sym met_none) (law ends).2;
                takes = subst (λ q. TakesCall programs line n.advances.met co cn mail (mail_then q)) p takes;
              }

          plain_mail : mail_then None ≡ record { boxes = mail.boxes; settled = [] }
          plain_mail = λ j. record { boxes = boxes_is ends j; settled = [] }

          waiting_mail : (r : Await) → mail_then (Some r.box) ≡ record { boxes = parked_boxes i (Some r) mail.boxes; settled = [] }
          waiting_mail r = λ j. record { boxes = at_box (awaited i) r.box (boxes_is ends j); settled = [] }

          -- a pause
          pause_line : (ticks used : ℕ) → x_note.event ≡ paused ticks used → (o : Option Await) → receive_in x'.program ≡ o
              → Goal (option_map (λ (r : Await). r.box) o) (due_behind (is_some (option_map (λ (r : Await). r.box) o)) turn.due (told_pause o (paused ticks used)))
              (stage_behind (is_some (option_map (λ (r : Await). r.box) o)) turn (told_pause o (paused ticks used)))
          pause_line ticks used is None r =
              let paused_now : parked_in x'.program ≡ None = λ j. parked_if ((paused_is ∙ ap is_pause is) j) (r j) in
              let t_receive : t.receive ≡ None = sym (receive_is ends) ∙ r in
              let d_is : Some (turn.due + ticks) ≡ due_of (end ends) =
              ap Some (let z = end_due_now in omega (arith, z))
              ∙ (λ j. if_going (is_end (sym is j) || false) (unless_waiting (sym t_receive j) (t.due + (ticks_in (sym is j) + 0)))) in
              ended_line None paused_now (Some (turn.due + ticks)) d_is Between refl
              (at_pause ends xs got due (Some (turn.due + ticks)) d_is ticks used is None t_receive (mail_then None) plain_mail)
          pause_line ticks used is (Some r) q =
              let paused_now : parked_in x'.program ≡ Some r.box = λ j. parked_if ((paused_is ∙ ap is_pause is) j) (q j) in
              let t_receive : t.receive ≡ Some r = sym (receive_is ends) ∙ q in
              let d_is : None ≡ due_of (end ends) = λ j. if_going (is_end (sym is j) || false) (unless_waiting (sym t_receive j) (t.due + (ticks_in (sym is j) + 0))) in
              ended_line (Some r.box) paused_now None d_is Between refl
              (at_pause ends xs got due None d_is ticks used is (Some r) t_receive (mail_then (Some r.box)) (waiting_mail r))

          -- an end
          end_line : (how : End) → x_note.event ≡ ended how → Goal None None (Showing turn 0)
          end_line how is =
              let d_is : None ≡ due_of (end ends) = λ j. if_going (is_end (sym is j) || false) (unless_waiting t.receive (t.due + (ticks_in (sym is j) + 0))) in
              ended_line None (unparked (ap is_pause is)) None d_is (Showing turn 0) refl (at_end ends xs got due None d_is how is (mail_then None) plain_mail)

          ends_line : Goal (parked_in x'.program) (due_behind (is_some (parked_in x'.program)) turn.due e) (stage_behind (is_some (parked_in x'.program)) turn e)
          ends_line = by x_note.event refl
            where
              by : (v : Event) → x_note.event ≡ v → Goal (parked_in x'.program) (due_behind (is_some (parked_in x'.program)) turn.due e) (stage_behind (is_some (parked_in x'.program)) turn e)
              by (paused ticks used) is =
                  let r = receive_in x'.program in
                  let p : option_map (λ (q : Await). q.box) r ≡ parked_in x'.program = sym (ap (λ b. parked_if b r) (paused_is ∙ ap is_pause is)) in
                  let e_is : told_pause r (paused ticks used) ≡ e = sym (said ∙ ap (told_pause r) is) in
                  subst (λ (v : Event). Goal (parked_in x'.program) (due_behind (is_some (parked_in x'.program)) turn.due v) (stage_behind (is_some (parked_in x'.program)) turn v)) e_is
                  (subst (λ o. Goal o (due_behind (is_some o) turn.due (told_pause r (paused ticks used))) (stage_behind (is_some o) turn (told_pause r (paused ticks used)))) p
                  (pause_line ticks used is r refl))
              by (ended how) is =
                  let p = unparked (ap is_pause is) in
                  let e_is : ended how ≡ e = sym (said ∙ ap (told_pause (receive_in x'.program)) is ∙ told_end (receive_in x'.program) how) in
                  subst (λ (v : Event). Goal (parked_in x'.program) (due_behind (is_some (parked_in x'.program)) turn.due v) (stage_behind (is_some (parked_in x'.program)) turn v)) e_is
                  (subst (λ o. Goal o (due_behind (is_some o) turn.due (ended how)) (stage_behind (is_some o) turn (ended how))) (sym p) (end_line how is))
              by (called c) is = let z : false ≡ true = sym (ap ends_turn is) ∙ ends in absurd cc
              by (answered v) is = let z : false ≡ true = sym (ap ends_turn is) ∙ ends in absurd cc
              by (returned entry v) is = let z : false ≡ true = sym (ap ends_turn is) ∙ ends in absurd cc
              by (parked used) is = let z : false ≡ true = sym (ap ends_turn is) ∙ ends in absurd cc
              by (shown at bytes) is = let z : false ≡ true = sym (ap ends_turn is) ∙ ends in absurd cc

        pub line_told : (d : Option ℕ) (stage : Stage) → d ≡ due_behind (is_some (parked_in x'.program)) turn.due e → stage ≡ stage_behind (is_some (parked_in x'.program)) turn e
            → Goal (parked_in x'.program) d stage
        line_told d stage d_is st_is =
            subst (λ (st : Stage). Goal (parked_in x'.program) d st) (sym st_is)
            (subst (λ (v : Option ℕ). Goal (parked_in x'.program) v (stage_behind (is_some (parked_in x'.program)) turn e)) (sym d_is) (by (ends_turn x_note.event) refl))
          where
            by : (b : Bool) → ends_turn x_note.event ≡ b → Goal (parked_in x'.program) (due_behind (is_some (parked_in x'.program)) turn.due e) (stage_behind (is_some (parked_in x'.program)) turn e)
            by true q = ends_line q
            by false q = goes_on_line q

    -- ---- what the call took

    call_quiet : (v : Event) (c : Call) → call_in v ≡ Some c → is_pause v ≡ false
    call_quiet (called c') c q = refl
    call_quiet (answered v) c q = refl
    call_quiet (paused ticks used) c q = cc
    call_quiet (returned entry v) c q = refl
    call_quiet (ended how) c q = refl
    call_quiet (parked used) c q = refl
    call_quiet (shown at bytes) c q = refl

    module _ (co cn : List Counted) (d : devices_of co ≡ ds') (f : faults_of co ≡ faults) (d' : devices_of cn ≡ ds'') (f' : faults_of cn ≡ faults') where
      abbrev mail_now : Mail
      mail_now = record (with_waiting i (parked_in x'.program) mail') { settled = [] }

      abbrev Takes : Option Call → Type 0
      Takes o = MatchOption o ((n.advances.met ≡ []) × (cn ≡ co)) (λ c. CallTakes w c n.advances.met co cn mail mail_now)

      takes_by : (o : Option Call) → call_in x_note.event ≡ o → TakesMail w o old n.advances.met new → Takes o
      takes_by None is h = (h.0, counted_same co cn (d' ∙ ap (λ (z : MailSupply). z.amid.devices) h.1 ∙ sym d) (f' ∙ ap (λ (z : MailSupply). z.faults) h.1 ∙ sym f))
      takes_by (Some c) is h =
          let idle : parked_in x'.program ≡ None = unparked (call_quiet x_note.event c is) in
          let old_is : old ≡ record { lines = lines_left x.program; amid = amid_of (devices_of co) mail (receive_in x.program); faults = faults_of co } =
          λ j. record { lines = lines_left x.program; amid = amid_of (sym d j) mail (receive_in x.program); faults = sym f j } in
          let new_is : new ≡ record { lines = lines_left x'.program; amid = amid_of (devices_of cn) (record mail_now { settled = mail'.settled }) (receive_in x'.program); faults = faults_of cn } =
          λ j. record {
            lines = lines_left x'.program;
            amid = amid_of (sym d' j) (record (with_waiting i (sym idle j) mail') { settled = mail'.settled }) (receive_in x'.program);
            faults = sym f' j;
          } in
          record {
            answers = lines_left x.program;
            left = lines_left x'.program;
            before = receive_in x.program;
            behind = receive_in x'.program;
            sent = mail'.settled;
            outcome = h.0;
            met_is = h.1;
            takes = subst (λ (z : MailSupply). MailAnswers w c z h.0 (record {
              lines = lines_left x'.program;
              amid = amid_of (devices_of cn) (record mail_now { settled = mail'.settled }) (receive_in x'.program);
              faults = faults_of cn;
            })) old_is
                (subst (MailAnswers w c old h.0) new_is h.2);
          }

      pub line_takes : TakesCall programs line n.advances.met co cn mail mail_now
      line_takes =
          record {
            w = w;
            program = s.at.6.program;
            takes = subst Takes (sym (ap call_in said ∙ no_call_parked (receive_in x'.program) x_note.event)) (takes_by (call_in x_note.event) refl n.advances.takes);
          }

    -- ---- what is asked on the way

    -- those that were sent a value can go on with it
    pub parked_settles : AreParked mail'.settled (slice_set h.programs i x')
    parked_settles = by (ends_turn x_note.event) refl
      where
        by : (b : Bool) → ends_turn x_note.event ≡ b → AreParked mail'.settled (slice_set h.programs i x')
        by true q = subst (λ (ss : List Settled). AreParked ss (slice_set h.programs i x')) (sym (settled_is q)) tt
        by false q = T.parked_goes begun programs detaches boxes ds lines h last ds' mail turn s x there x' e faults faults' ds'' mail' n stops q

    pause_ends : (v : Event) → is_pause v ≡ true → ends_turn v ≡ true
    pause_ends (called c) q = cc
    pause_ends (answered v) q = cc
    pause_ends (paused ticks used) q = refl
    pause_ends (returned entry v) q = cc
    pause_ends (ended how) q = refl
    pause_ends (parked used) q = cc
    pause_ends (shown at bytes) q = cc

    -- who is parked ended its turn by that
    module _ (name : List ℕ) (is : parked_in x'.program ≡ Some name) where
      abbrev p : IsParkedAt x'.program name
      p = parked_at x'.program name is

      parks_now : ends_turn x_note.event ≡ true
      parks_now = pause_ends x_note.event (sym paused_is ∙ p.paused)

      pub parked_devices : ds'' ≡ ds'
      parked_devices = ds_is parks_now

      pub parked_faults : faults' ≡ faults
      parked_faults = ap (λ (z : MailSupply). z.faults) (takes_none parks_now).1

      pub can_wait : CanWait i name mail'
      can_wait =
          let receive : t.receive ≡ Some p.r = sym (receive_is parks_now) ∙ p.receive in
          let empty = s.at.6.stands.empty p.r receive in
          record {
            box = empty.0;
            there = (λ j. find (is_box (sym p.box j)) (boxes_is parks_now j)) ∙ empty.1;
            empty = empty.2;
            nowhere = subst (WaitsNowhere i) (sym (boxes_is parks_now))
                (mail_turn_awake begun programs detaches boxes ds s.at.0 i turn.due lines s.tellers (amid_of ds' (record mail { settled = s.at.4 }) t.receive) s.at.6);
          }

-- what a wait leaves of who is settled
pub waiting_settled : (program : ℕ) (o : Option (List ℕ)) (m : Mail) → (with_waiting program o m).settled ≡ m.settled
waiting_settled program None m = refl
waiting_settled program (Some name) m = refl

-- ---- numbers in range

pub place_with : (b : Bool) (count : ℕ) (turn : Turn) (e : Event) → turn.program < count → S.PlaceFits count (stage_behind b turn e)
place_with true count turn e h = tt
place_with false count turn e h = place_behind count turn e h

pub turn_with : (b : Bool) (earlier begun : ℕ) (turn : Turn) (e : Event) → turn.due + S.most_ticks ≤ S.latest earlier begun → S.TurnIsDue earlier begun (stage_behind b turn e)
turn_with true earlier begun turn e h = tt
turn_with false earlier begun turn e h = due_behind_it earlier begun turn e h

pub settled_early : (most due : ℕ) (ss : List Settled) (dues : List (Option ℕ)) → due ≤ most → All (S.IsDueBy most) dues → All (S.IsDueBy most) (dues_settled due ss dues)
settled_early most due [] dues le h = h
settled_early most due (s ∷ ss) dues le h = settled_early most due ss (slice_set dues s.program (Some due)) le (All-set (S.IsDueBy most) dues s.program (Some due) le h)

pub settled_many : (due : ℕ) (ss : List Settled) (dues : List (Option ℕ)) → length (dues_settled due ss dues) ≡ length dues
settled_many due [] dues = refl
settled_many due (s ∷ ss) dues = settled_many due ss (slice_set dues s.program (Some due)) ∙ length-set dues s.program (Some due)

-- what there is of a name
pub some_name : (o : Option (List ℕ)) → is_some o ≡ true → (name : List ℕ) × (o ≡ Some name)
some_name None e = cc
some_name (Some name) e = (name, refl)
