-- Turns that were told are a world: the notes and outcomes that the definition wants beforehand are those that were told, and what is
-- still to be told behind them; what a program is promised is what it was sent in the end.
use Rattle.std.proofs.Common.{arith, ◌≡◌, ◌<◌, ◌≤◌, ◌+◌, ◌^◌, ◌⊎◌, inl, inr, ℕ, zero, suc, List, [], ◌∷◌, ◌++◌, length, map, Option, Some, None, Bool, true, false, slice_get, slice_set, refl}
use Rattle.std.proofs.Common.{sym, ap, ◌∙◌, subst, append_assoc, append-nil, length-set, nat_eq, eq-eqb}
use Rattle.std.specs.Prelude.{◌&&◌, ◌||◌}
use Rattle.std.specs.List.{AllZip}
use Rattle.std.specs.Option.{option_map, unwrap_or}
use Rattle.std.proofs.lemmas.Bool.{cases_eq}
use Rattle.std.proofs.lemmas.List.{length-map, set-set, map-append}
use Rattle.std.proofs.lemmas.List.Folds.{list_any-append}
use Rattle.std.proofs.lemmas.Option.{slice_get-map, slice_get_within, same_Some}
use Rattle.wa_model.specs.declared.answers.Detach.{Detach}
use Rattle.wa_model.specs.Outside.{Event, called, answered, paused, parked, returned, ended, shown, Line}
use Rattle.wa_model.specs.Plan.{Outcome}
use Rattle.wa_model.specs.Blocking.{Note, no_store}
use Rattle.wa_model.specs.Store.{Store}
use Rattle.world_model.specs.World.{Device, Program, Look, turn_of, behind_turn, put_off, line_at, events_with_looks, looks_after, is_end}
use Rattle.world_laws.proofs.Places.{item, map_at, of_map, set_here, set_there, set_same, zipped}
use Rattle.mailbox_device.specs.declared.mailbox.Settled.{Settled}
use Rattle.mailbox_device.specs.Mail.{empty_box as no_mail}
use Rattle.mail_laws.specs.MailWorld.{Actor, Parked, Plays, a_turn, a_stall, IsNext, IsReady, StartsHeld, HeldStory, nobody, sharing, parked_at, parks, told_pause, store_behind, wake, woken}
use Rattle.mail_laws.specs.MailWorld.{with_waiting, tells_end, begun_event, begins_over}
use Rattle.mail_laws.specs.Mailboxes.{Receive, Mailbox, Shared, Midst, CallsMeet, mailed, empty_box}
use Rattle.mail_laws.specs.Played.{Played}
use Rattle.mail_laws.specs.Told.{Await, Common, Teller, promised, receive_of, shared_by, number_of, midst_by, pending, starting, if_going, waits_at, unless_waiting, due_of, ends_program, having_told}
use Rattle.mail_laws.specs.Told.{having_got, no_teller, settle_all, NotAmong, AreSent, parked_in, begun_amid, TellsTurn, TellsStall, TellsEvent, tells_turn, tells_stall, Tells, IsRest}
use Rattle.mail_laws.proofs.WholeTurns.{turn_whole, behind_whole, some_note, calls_behind, parks_unless, store_last}
use Rattle.mail_laws.proofs.Promises.{fixed, fixed_here, fixed_there, fixed_out, fixed_none, fixed_small, fixed_keeps, not_sent, still_sent, boxes_same, parked_boxes, parks_map, told_map}
use Rattle.mail_laws.proofs.Played.{one_more}

-- all that a program tells, and all the outcomes that its calls meet
pub record Whole : Type 0 where
  pub notes : List Note
  pub outcomes : List Outcome

-- where a program waits, as the world has it
abbrev pub parked_of : Store → Option Await → Option Parked
parked_of s o = parked_at s (option_map (receive_of 0) o)

-- A program of the world stands where a teller does, before what is still to come of the whole; where it waits it will be sent
-- this value.
pub record Ties (value : ℕ) (t : Teller) (h : Whole) (a : Actor) : Type 0 where
  pub due : a.due ≡ t.due
  pub answers : a.answers ≡ t.answers
  pub notes : t.told ++ a.notes ≡ h.notes
  pub outcomes : t.met ++ pending value t.receive ++ a.outcomes ≡ h.outcomes
  pub parked : a.parked ≡ parked_of (store_behind t.told) (waits_at t)
  pub is_rest : IsRest t.has_ended t.receive a.notes

pub record Foretold (will : ℕ → ℕ) (wholes : List Whole) (tellers : List Teller) (actors : List Actor) : Type 0 where
  pub wide : length wholes ≡ length tellers
  pub long : length actors ≡ length tellers
  pub each : (i : ℕ) (t : Teller) (h : Whole) (a : Actor) → slice_get tellers i ≡ Some t → slice_get wholes i ≡ Some h → slice_get actors i ≡ Some a → Ties (will i) t h a

-- ---- what a teller's standing says

abbrev pub rest_some : (b : Bool) (o : Option Await) (rest : List Note) → IsRest b o rest → 0 < length rest → b ≡ false
rest_some true o rest is some = let never : ⊥ = omega (arith, ap length is, some) in absurd never
rest_some false o rest is some = refl

pub not_parked : (s : Store) (o : Option Await) → parked_of s o ≡ None → o ≡ None
not_parked s None e = refl
not_parked s (Some r) e = absurd cc

-- who waits nowhere and hasn't ended is due
pub due_then : (b : Bool) (o : Option Await) (d : ℕ) → b ≡ false → if_going b o ≡ None → if_going b (unless_waiting o d) ≡ Some d
due_then true o d e none = absurd cc
due_then false None d e none = refl
due_then false (Some r) d e none = absurd cc

ready_due : (v : ℕ) (t : Teller) (h : Whole) (a : Actor) → Ties v t h a → IsReady a → due_of t ≡ Some t.due
ready_due v t h a tie ready =
    due_then t.has_ended t.receive t.due (rest_some t.has_ended t.receive a.notes tie.is_rest ready.unfinished)
    (not_parked (store_behind t.told) (waits_at t) (sym tie.parked ∙ ready.awake))

-- who is due hasn't ended and waits nowhere
due_says : (b : Bool) (o : Option Await) (d e : ℕ) → if_going b (unless_waiting o d) ≡ Some e → (b ≡ false) × (o ≡ None)
due_says true o d e is = absurd cc
due_says false None d e is = (refl, refl)
due_says false (Some r) d e is = absurd cc

pub waits_says : (b : Bool) (o : Option Await) (r : Await) → if_going b o ≡ Some r → (b ≡ false) × (o ≡ Some r)
waits_says true o r is = absurd cc
waits_says false o r is = (refl, is)

pub dues_at : (tellers : List Teller) (j : ℕ) (t : Teller) → slice_get tellers j ≡ Some t → slice_get (map due_of tellers) j ≡ Some (due_of t)
dues_at tellers j t there = slice_get-map due_of tellers j ∙ ap (option_map due_of) there

pub rest_of_none : (rest : List Note) (b : Bool) (o : Option Await) → b ≡ false → o ≡ None → 0 < length rest → IsRest b o rest
rest_of_none rest true o e f some = absurd cc
rest_of_none rest false None e f some = some
rest_of_none rest false (Some r) e f some = absurd cc

pub rest_of_some : (rest : List Note) (b : Bool) (o : Option Await) (r : Await) → b ≡ false → o ≡ Some r → IsRest b o rest
rest_of_some rest true o r e f = absurd cc
rest_of_some rest false None r e f = absurd cc
rest_of_some rest false (Some q) r e f = tt

-- ---- one program changed, from behind

module _ (wholes : List Whole) (will will' : ℕ → ℕ) (tellers : List Teller) (k : ℕ) (t t' : Teller) (there : slice_get tellers k ≡ Some t)
    (same : (j : ℕ) → (j ≡ k → ⊥) → will j ≡ will' j) (actors : List Actor) (fore : Foretold will' wholes (slice_set tellers k t') actors) where
  as_long : length (slice_set tellers k t') ≡ length tellers
  as_long = length-set tellers k t'

  abbrev later : (a : Actor) × (slice_get actors k ≡ Some a)
  later = item actors k (omega (arith, slice_get_within tellers k t there, as_long, fore.long))

  abbrev the_whole : (h : Whole) × (slice_get wholes k ≡ Some h)
  the_whole = item wholes k (omega (arith, slice_get_within tellers k t there, as_long, fore.wide))

  tied : Ties (will' k) t' the_whole.0 later.0
  tied = fore.each k t' the_whole.0 later.0 (set_here tellers k t' t there) the_whole.1 later.1

  set_fore : (b : Actor) → Ties (will k) t the_whole.0 b → Foretold will wholes tellers (slice_set actors k b)
  set_fore b tie =
      record {
        wide = fore.wide ∙ as_long;
        long = length-set actors k b ∙ fore.long ∙ as_long;
        each = λ j u h a et eh ea. by j u h a et eh ea (cases_eq j k);
      }
    where
      by : (j : ℕ) (u : Teller) (h : Whole) (a : Actor) → slice_get tellers j ≡ Some u → slice_get wholes j ≡ Some h → slice_get (slice_set actors k b) j ≡ Some a → (j ≡ k) ⊎ (j ≡ k → ⊥)
          → Ties (will j) u h a
      by j u h a et eh ea (inl e) =
          let eu : t ≡ u = same_Some t u (sym there ∙ ap (slice_get tellers) (sym e) ∙ et) in
          let ew : the_whole.0 ≡ h = same_Some the_whole.0 h (sym the_whole.1 ∙ ap (slice_get wholes) (sym e) ∙ eh) in
          let ek : b ≡ a = same_Some b a (sym (set_here actors k b later.0 later.1) ∙ ap (slice_get (slice_set actors k b)) (sym e) ∙ ea) in
          subst (λ (x : Actor). Ties (will j) u h x) ek
          (subst (λ (x : Whole). Ties (will j) u x b) ew (subst (λ (x : Teller). Ties (will j) x the_whole.0 b) eu (subst (λ (n : ℕ). Ties (will n) t the_whole.0 b) (sym e) tie)))
      by j u h a et eh ea (inr other) =
          subst (λ (n : ℕ). Ties n u h a) (sym (same j other))
          (fore.each j u h a (set_there tellers k j t' other ∙ et) eh (sym (set_there actors k j b other) ∙ ea))

-- ---- programs that were sent a value, from behind

record Unsettled (wholes : List Whole) (due : ℕ) (ss : List Settled) (will : ℕ → ℕ) (tellers : List Teller) (actors : List Actor) : Type 0 where
  pub acts : List Actor
  pub fore : Foretold (fixed ss will) wholes tellers acts
  pub back : actors ≡ wake due (map number_of ss) acts

fore_same : (wholes : List Whole) (will will' : ℕ → ℕ) (tellers : List Teller) (actors : List Actor) → ((j : ℕ) → will j ≡ will' j) → Foretold will' wholes tellers actors
    → Foretold will wholes tellers actors
fore_same wholes will will' tellers actors same fore =
    record { wide = fore.wide; long = fore.long; each = λ i t h a et eh ea. subst (λ (n : ℕ). Ties n t h a) (sym (same i)) (fore.each i t h a et eh ea) }

unsettled : (wholes : List Whole) (due : ℕ) (ss : List Settled) (will : ℕ → ℕ) (tellers : List Teller) (actors : List Actor) → AreSent tellers ss
    → Foretold will wholes (settle_all due ss tellers) actors → Unsettled wholes due ss will tellers actors
unsettled wholes due [] will tellers actors sent fore = record { acts = actors; fore = fore_same wholes (fixed [] will) will tellers actors (fixed_none will) fore; back = refl }
unsettled wholes due (s ∷ ss) will tellers actors sent fore = one (unsettled wholes due ss will (slice_set tellers k got) actors (still_sent tellers ss k got sent.2 sent.3) here)
  where
    k : ℕ
    k = s.program

    t : Teller
    t = sent.0.t

    got : Teller
    got = having_got due s.value sent.0.t

    here : Foretold will wholes (settle_all due ss (slice_set tellers s.program got)) actors
    here = subst (λ (o : Option Teller). Foretold will wholes (settle_all due ss (slice_set tellers s.program (having_got due s.value (unwrap_or o no_teller)))) actors) sent.0.there fore

    one : Unsettled wholes due ss will (slice_set tellers s.program got) actors → Unsettled wholes due (s ∷ ss) will tellers actors
    one on =
        let a = later wholes (fixed (s ∷ ss) will) (fixed ss will) tellers s.program sent.0.t got sent.0.there (fixed_there s ss will) on.acts on.fore in
        let h = the_whole wholes (fixed (s ∷ ss) will) (fixed ss will) tellers s.program sent.0.t got sent.0.there (fixed_there s ss will) on.acts on.fore in
        let tie = tied wholes (fixed (s ∷ ss) will) (fixed ss will) tellers s.program sent.0.t got sent.0.there (fixed_there s ss will) on.acts on.fore in
        let b : Actor = record { due = sent.0.t.due; notes = a.0.notes; outcomes = a.0.outcomes; answers = a.0.answers; parked = parked_of (store_behind sent.0.t.told) (waits_at sent.0.t) } in
        let value : fixed (s ∷ ss) will s.program ≡ s.value = fixed_here s ss will in
        let pends : pending (fixed (s ∷ ss) will s.program) sent.0.t.receive ≡ mailed (Some (Rattle.wa_types.specs.declared.values.Value.TheVariants.I32 s.value)) 1 ∷ [] =
        (λ k. pending (value k) (sent.0.waits k)) in
        let before : Ties (fixed (s ∷ ss) will s.program) sent.0.t h.0 b = record {
          due = refl;
          answers = tie.answers;
          notes = tie.notes;
          outcomes =
              ap (λ (l : List Outcome). sent.0.t.met ++ l ++ a.0.outcomes) pends
              ∙ ap (λ (l : List Outcome). l ++ a.0.outcomes) (sym (append-nil (sent.0.t.met ++ mailed (Some (Rattle.wa_types.specs.declared.values.Value.TheVariants.I32 s.value)) 1 ∷ [])))
              ∙ tie.outcomes;
          parked = refl;
          is_rest = rest_of_some a.0.notes sent.0.t.has_ended sent.0.t.receive sent.0.r sent.0.unfinished sent.0.waits;
        } in
        let awake : a.0.parked ≡ None = tie.parked ∙ ap (λ (y : Bool). parked_of (store_behind sent.0.t.told) (if_going y None)) sent.0.unfinished in
        let back : woken due b ≡ a.0 = (λ k. record { due = sym tie.due k; notes = a.0.notes; outcomes = a.0.outcomes; answers = a.0.answers; parked = sym awake k }) in
        let acts : List Actor = slice_set on.acts s.program b in
        let there : slice_get acts s.program ≡ Some b = set_here on.acts s.program b a.0 a.1 in
        record {
          acts = acts;
          fore = set_fore wholes (fixed (s ∷ ss) will) (fixed ss will) tellers s.program sent.0.t got sent.0.there (fixed_there s ss will) on.acts on.fore b before;
          back =
              on.back
              ∙ ap (wake due (map number_of ss))
              (sym (
              ap (λ (o : Option Actor). slice_set acts s.program (woken due (unwrap_or o nobody))) there
              ∙ set-set on.acts s.program b (woken due b)
              ∙ ap (slice_set on.acts s.program) back
              ∙ set_same on.acts s.program a.0 a.1
              ));
        }

-- ---- one event, from behind

-- where the programs stood in front of an event, and that it leads where they stand behind it
record Before (wholes : List Whole) (programs : List Program) (detaches : List Detach) (number : ℕ) (tellers : List Teller) (c : Common) (lines : List Line) (actors : List Actor)
    (sh : Shared) : Type 0 where
  pub will : ℕ → ℕ
  pub small : (j : ℕ) → will j < 2 ^ 32
  pub acts : List Actor
  pub fore : Foretold will wholes tellers acts
  pub plays : Plays programs detaches number acts (shared_by will c) lines actors sh

module _ (wholes : List Whole) (programs : List Program) (detaches : List Detach) (number : ℕ) (tellers tellers' : List Teller) (c c' : Common) (lines : List Line) (actors : List Actor)
    (will : ℕ → ℕ) (small : (j : ℕ) → will j < 2 ^ 32) (fore : Foretold will wholes tellers' actors) where
  module _ (play : TellsTurn programs detaches number tellers c lines tellers' c') where
    abbrev i : ℕ
    i = play.i

    abbrev t : Teller
    t = play.t

    abbrev ss : List Settled
    ss = play.behind.settled

    abbrev w0 : ℕ → ℕ
    w0 = fixed ss will

    is_due : (t.has_ended ≡ false) × (t.receive ≡ None)
    is_due = due_says t.has_ended t.receive t.due t.due (same_Some (due_of t) (Some t.due) (sym (dues_at tellers i t play.there) ∙ play.next.there))

    out : NotAmong i ss
    out = not_sent tellers ss i t play.there is_due.1 play.sent

    abbrev told : Teller
    told = having_told t play.turn play.met play.answers play.behind.receive

    un : Unsettled wholes (suc t.due) ss will (slice_set tellers i told) actors
    un = unsettled wholes (suc t.due) ss will (slice_set tellers i told) actors (still_sent tellers ss i told out play.sent)
        (subst (λ (l : List Teller). Foretold will wholes l actors) play.after fore)

    same_will : (j : ℕ) → (j ≡ i → ⊥) → w0 j ≡ w0 j
    same_will j other = refl

    abbrev a1 : (a : Actor) × (slice_get un.acts i ≡ Some a)
    a1 = later wholes w0 w0 tellers i t told play.there same_will un.acts un.fore

    abbrev h : (h : Whole) × (slice_get wholes i ≡ Some h)
    h = the_whole wholes w0 w0 tellers i t told play.there same_will un.acts un.fore

    tie : Ties (w0 i) told h.0 a1.0
    tie = tied wholes w0 w0 tellers i t told play.there same_will un.acts un.fore

    abbrev pends : List Outcome
    pends = pending (w0 i) play.behind.receive

    -- the program as it stood before the turn
    abbrev before : Actor
    before = record { due = t.due; notes = play.turn ++ a1.0.notes; outcomes = play.met ++ pends ++ a1.0.outcomes; answers = t.answers; parked = None }

    tie_before : Ties (w0 i) t h.0 before
    tie_before =
        record {
          due = refl;
          answers = refl;
          notes = sym (append_assoc t.told play.turn a1.0.notes) ∙ tie.notes;
          outcomes =
              ap (λ (o : Option Await). t.met ++ pending (w0 i) o ++ (play.met ++ pends ++ a1.0.outcomes)) is_due.1
              ∙ ap (λ (l : List Outcome). l ++ (play.met ++ pends ++ a1.0.outcomes)) (append-nil t.met)
              ∙ sym (append_assoc t.met (play.met ++ pends) a1.0.outcomes)
              ∙ ap (λ (l : List Outcome). l ++ a1.0.outcomes) (sym (append_assoc t.met play.met pends))
              ∙ tie.outcomes;
          parked = λ k. parked_of (store_behind t.told) (if_going (sym is_due.0 k) (sym is_due.1 k));
          is_rest = rest_of_none (play.turn ++ a1.0.notes) t.has_ended t.receive is_due.0 is_due.1 (some_note play.turn a1.0.notes play.whole);
        }

    abbrev acts : List Actor
    acts = slice_set un.acts i before

    fore_before : Foretold w0 wholes tellers acts
    fore_before = set_fore wholes w0 w0 tellers i t told play.there same_will un.acts un.fore before tie_before

    before_there : slice_get acts i ≡ Some before
    before_there = set_here un.acts i before a1.0 a1.1

    is_next : IsNext acts i before
    is_next =
        record {
          there = before_there;
          ready = record { unfinished = some_note play.turn a1.0.notes play.whole; awake = refl };
          least = λ j b eb ready. by j b eb ready (item tellers j (omega (arith, slice_get_within acts j b eb, fore_before.long)))
              (item wholes j (omega (arith, slice_get_within acts j b eb, fore_before.long, fore_before.wide)));
        }
      where
        by : (j : ℕ) (b : Actor) → slice_get acts j ≡ Some b → IsReady b → (u : Teller) × (slice_get tellers j ≡ Some u) → (g : Whole) × (slice_get wholes j ≡ Some g)
            → (t.due < b.due) ⊎ ((t.due ≡ b.due) × (i ≤ j))
        by j b eb ready u g =
            let tj = fore_before.each j u.0 g.0 b u.1 g.1 eb in
            let least = play.next.least j u.0.due (dues_at tellers j u.0 u.1 ∙ ap (λ (o : Option ℕ). Some o) (ready_due (w0 j) u.0 g.0 b tj ready)) in
            subst (λ (n : ℕ). (t.due < n) ⊎ ((t.due ≡ n) × (i ≤ j))) (sym tj.due) least

    abbrev behind : Midst
    behind = midst_by w0 i play.behind

    abbrev parking : Option Receive
    parking = parks (turn_of before.notes) behind.receive

    turn_is : turn_of before.notes ≡ play.turn
    turn_is = turn_whole play.turn a1.0.notes play.whole

    abbrev park : Option Await
    park = parks play.turn play.behind.receive

    parking_is : parking ≡ option_map (receive_of (w0 i)) park
    parking_is = ap (λ (l : List Note). parks l behind.receive) turn_is ∙ parks_map (receive_of (w0 i)) play.turn play.behind.receive

    any_value : (s : Store) (v : ℕ) (o : Option Await) → parked_at s (option_map (receive_of v) o) ≡ parked_of s o
    any_value s v None = refl
    any_value s v (Some r) = refl

    abbrev after : Actor
    after =
        record {
          due = before.due + put_off (turn_of before.notes);
          notes = behind_turn before.notes;
          outcomes = a1.0.outcomes;
          answers = play.answers;
          parked = parked_at (store_behind (turn_of before.notes)) parking;
        }

    after_is : after ≡ a1.0
    after_is = λ k. record { due = due k; notes = behind_whole play.turn a1.0.notes play.whole k; outcomes = a1.0.outcomes; answers = sym tie.answers k; parked = parked k }
      where
        due : t.due + put_off (turn_of before.notes) ≡ a1.0.due
        due = ap (λ (l : List Note). t.due + put_off l) turn_is ∙ sym tie.due

        parked : parked_at (store_behind (turn_of before.notes)) parking ≡ a1.0.parked
        parked =
            ap (λ (l : List Note). parked_at (store_behind l) parking) turn_is
            ∙ ap (parked_at (store_behind play.turn)) parking_is
            ∙ any_value (store_behind play.turn) (w0 i) park
            ∙ ap (parked_of (store_behind play.turn)) (parks_unless play.turn play.behind.receive play.whole)
            ∙ ap (λ (s : Store). parked_of s (waits_at told)) (sym (store_last t.told play.turn play.whole))
            ∙ sym tie.parked

    boxes_are : map (promised will) (parked_in i park play.behind.boxes) ≡ with_waiting i parking (map (promised w0) play.behind.boxes)
    boxes_are =
        parked_boxes will i park play.behind.boxes
        ∙ (λ k. with_waiting i (option_map (receive_of (sym (fixed_out ss will i out) k)) park) (sym (boxes_same ss will play.behind.boxes play.still) k))
        ∙ ap (λ (o : Option Receive). with_waiting i o (map (promised w0) play.behind.boxes)) (sym parking_is)

    turn_before : Before wholes programs detaches number tellers c lines actors (shared_by will c')
    turn_before =
        record {
          will = w0;
          small = fixed_small tellers ss will play.sent small;
          acts = acts;
          fore = fore_before;
          plays = a_turn (record {
            i = i;
            a = before;
            w = play.w;
            next = is_next;
            program = play.program;
            outcomes = a1.0.outcomes;
            answers = play.answers;
            behind = behind;
            calls = subst (λ (l : List Note). CallsMeet play.w l before.outcomes before.answers (begun_event number detaches (shared_by w0 c)) a1.0.outcomes play.answers behind) (sym turn_is)
                (calls_behind play.w play.turn (play.met ++ pends) [] a1.0.outcomes t.answers play.answers (midst_by w0 i (begun_amid number detaches c)) behind
                (play.calls w0 (fixed_small tellers ss will play.sent small) (fixed_keeps tellers ss will play.sent)));
            made =
                play.made
                ∙ (λ k. map (λ (e : Event). line_at t.due i (sym (told_map (receive_of (w0 i)) park e) k)) (events_with_looks play.w.looks play.turn))
                ∙ (λ k. map (λ (e : Event). line_at t.due i (told_pause (sym parking_is k) e)) (events_with_looks play.w.looks (sym turn_is k)));
            after = un.back ∙ ap (wake (suc t.due) (map number_of ss)) (sym (set-set un.acts i before after ∙ ap (slice_set un.acts i) after_is ∙ set_same un.acts i a1.0 a1.1));
            shared = ap (shared_by will) play.common ∙ (λ k. record { devices = play.behind.devices; boxes = boxes_are k; tick = t.due });
          });
        }

  module _ (play : TellsStall programs detaches number tellers c lines tellers' c') where
    abbrev over : Teller
    over = record play.t { has_ended = true }

    abbrev fore_over : Foretold will wholes (slice_set tellers play.i over) actors
    fore_over = subst (λ (l : List Teller). Foretold will wholes l actors) play.after fore

    keeps_will : (j : ℕ) → (j ≡ play.i → ⊥) → will j ≡ will j
    keeps_will j other = refl

    abbrev a2 : (a : Actor) × (slice_get actors play.i ≡ Some a)
    a2 = later wholes will will tellers play.i play.t over play.there keeps_will actors fore_over

    abbrev h2 : (h : Whole) × (slice_get wholes play.i ≡ Some h)
    h2 = the_whole wholes will will tellers play.i play.t over play.there keeps_will actors fore_over

    tie2 : Ties (will play.i) over h2.0 a2.0
    tie2 = tied wholes will will tellers play.i play.t over play.there keeps_will actors fore_over

    waiting : (play.t.has_ended ≡ false) × (play.t.receive ≡ Some play.r)
    waiting = waits_says play.t.has_ended play.t.receive play.r play.waits

    abbrev at : Parked
    at = record { import = play.r.import; store = store_behind play.t.told }

    abbrev before2 : Actor
    before2 = record { due = a2.0.due; notes = a2.0.notes; outcomes = a2.0.outcomes; answers = a2.0.answers; parked = Some at }

    tie_before2 : Ties (will play.i) play.t h2.0 before2
    tie_before2 =
        record {
          due = tie2.due;
          answers = tie2.answers;
          notes = tie2.notes;
          outcomes = tie2.outcomes;
          parked = ap (parked_of (store_behind play.t.told)) (sym play.waits);
          is_rest = rest_of_some a2.0.notes play.t.has_ended play.t.receive play.r waiting.0 waiting.1;
        }

    abbrev acts2 : List Actor
    acts2 = slice_set actors play.i before2

    fore_before2 : Foretold will wholes tellers acts2
    fore_before2 = set_fore wholes will will tellers play.i play.t over play.there keeps_will actors fore_over before2 tie_before2

    stood : (j : ℕ) (b : Actor) → slice_get acts2 j ≡ Some b → (u : Teller) × (slice_get tellers j ≡ Some u) × (g : Whole) × Ties (will j) u g b
    stood j b eb =
        let u = item tellers j (omega (arith, slice_get_within acts2 j b eb, fore_before2.long)) in
        let g = item wholes j (omega (arith, slice_get_within acts2 j b eb, fore_before2.long, fore_before2.wide)) in
        (u.0, u.1, g.0, fore_before2.each j u.0 g.0 b u.1 g.1 eb)

    parks_there : (s : Store) (o : Option Await) (p : Parked) → parked_of s o ≡ Some p → (q : Await) × (o ≡ Some q)
    parks_there s None p e = absurd cc
    parks_there s (Some q) p e = (q, refl)

    stall_before : Before wholes programs detaches number tellers c lines actors (shared_by will c')
    stall_before =
        record {
          will = will;
          small = small;
          acts = acts2;
          fore = fore_before2;
          plays = a_stall (record {
            i = play.i;
            a = before2;
            w = play.w;
            at = at;
            there = set_here actors play.i before2 a2.0 a2.1;
            program = play.program;
            waits = refl;
            no_more = tie2.is_rest;
            none_ready = λ j b eb ready.
                let s = stood j b eb in play.none_due j s.0.due (dues_at tellers j s.0 s.1 ∙ ap (λ (o : Option ℕ). Some o) (ready_due (will j) s.0 s.2 b s.3 ready));
            first = λ j b p eb ep.
                let s = stood j b eb in
                let q = parks_there (store_behind s.0.told) (waits_at s.0) p (sym s.3.parked ∙ ep) in
                play.first j s.0 q.0 s.1 q.1;
            made = play.made;
            after = sym (set-set actors play.i before2 (record before2 { parked = None }) ∙ ap (slice_set actors play.i) back ∙ set_same actors play.i a2.0 a2.1);
            shared = ap (shared_by will) play.common;
          });
        }
      where
        back : record before2 { parked = None } ≡ a2.0
        back = λ k. record { due = a2.0.due; notes = a2.0.notes; outcomes = a2.0.outcomes; answers = a2.0.answers; parked = sym tie2.parked k }

  event_before : TellsEvent programs detaches number tellers c lines tellers' c' → Before wholes programs detaches number tellers c lines actors (shared_by will c')
  event_before (tells_turn play) = turn_before play
  event_before (tells_stall play) = stall_before play

-- ---- all events

abbrev pub nowhere : Option Await
nowhere = None

pub none_going : (b : Bool) → if_going b nowhere ≡ nowhere
none_going true = refl
none_going false = refl

pub record Reached (begun : ℕ) (programs : List Program) (detaches : List Detach) (boxes : List (List ℕ)) (ds : List Device) (wholes : List Whole) (count : ℕ) (lines : List Line) (actors : List Actor)
    (sh : Shared) : Type 0 where
  pub start : List Actor
  pub outcomes : (i : ℕ) (h : Whole) (a : Actor) → slice_get wholes i ≡ Some h → slice_get start i ≡ Some a → a.outcomes ≡ h.outcomes
  pub notes : (i : ℕ) (h : Whole) (a : Actor) → slice_get wholes i ≡ Some h → slice_get start i ≡ Some a → a.notes ≡ h.notes
  pub starts : AllZip StartsHeld programs start
  pub played : Played programs detaches (suc begun) count start (sharing boxes ds) lines actors sh

module _ (begun : ℕ) (programs : List Program) (detaches : List Detach) (boxes : List (List ℕ)) (ds : List Device) (wholes : List Whole)
    (stories : (i : ℕ) (w : Program) (h : Whole) → slice_get programs i ≡ Some w → slice_get wholes i ≡ Some h → HeldStory w h.outcomes h.notes) where
  start : (will : ℕ → ℕ) (tellers : List Teller) (actors : List Actor) → tellers ≡ map starting programs → Foretold will wholes tellers actors → AllZip StartsHeld programs actors
  start will tellers actors is fore = zipped StartsHeld programs actors (fore.long ∙ as_many) each
    where
      as_many : length tellers ≡ length programs
      as_many = ap length is ∙ length-map programs starting

      each : (i : ℕ) (w : Program) (a : Actor) → slice_get programs i ≡ Some w → slice_get actors i ≡ Some a → StartsHeld w a
      each i w a ew ea =
          let h = item wholes i (omega (arith, slice_get_within actors i a ea, fore.long, fore.wide)) in
          let et : slice_get tellers i ≡ Some (starting w) = ap (λ (l : List Teller). slice_get l i) is ∙ slice_get-map starting programs i ∙ ap (option_map starting) ew in
          let tie = fore.each i (starting w) h.0 a et h.1 ea in
          record {
            starts = record { due = tie.due; answers = tie.answers; parked = tie.parked ∙ ap (parked_of no_store) (none_going (begins_over w)) };
            story = subst (λ (ns : List Note). HeldStory w a.outcomes ns) (sym tie.notes) (subst (λ (os : List Outcome). HeldStory w os h.0.notes) (sym tie.outcomes) (stories i w h.0 ew h.1));
          }

  -- nothing was met before
  start_outcomes : (will : ℕ → ℕ) (tellers : List Teller) (actors : List Actor) → tellers ≡ map starting programs → Foretold will wholes tellers actors
      → (i : ℕ) (h : Whole) (a : Actor) → slice_get wholes i ≡ Some h → slice_get actors i ≡ Some a → a.outcomes ≡ h.outcomes
  start_outcomes will tellers actors is fore i h a eh ea =
      let t = item tellers i (omega (arith, slice_get_within actors i a ea, fore.long)) in
      let w = of_map starting programs i t.0 (ap (λ (l : List Teller). slice_get l i) (sym is) ∙ t.1) in
      ap (λ (x : Teller). x.met ++ pending (will i) x.receive ++ a.outcomes) w.2 ∙ (fore.each i t.0 h a t.1 eh ea).outcomes

  -- nothing was told before
  start_notes : (will : ℕ → ℕ) (tellers : List Teller) (actors : List Actor) → tellers ≡ map starting programs → Foretold will wholes tellers actors
      → (i : ℕ) (h : Whole) (a : Actor) → slice_get wholes i ≡ Some h → slice_get actors i ≡ Some a → a.notes ≡ h.notes
  start_notes will tellers actors is fore i h a eh ea =
      let t = item tellers i (omega (arith, slice_get_within actors i a ea, fore.long)) in
      let w = of_map starting programs i t.0 (ap (λ (l : List Teller). slice_get l i) (sym is) ∙ t.1) in
      ap (λ (x : Teller). x.told ++ a.notes) w.2 ∙ (fore.each i t.0 h a t.1 eh ea).notes

  opens : (will : ℕ → ℕ) (names : List (List ℕ)) → map (promised will) (map no_mail names) ≡ map empty_box names
  opens will [] = refl
  opens will (n ∷ names) = ap (λ (l : List Mailbox). empty_box n ∷ l) (opens will names)

  pub reaches : (count : ℕ) (will : ℕ → ℕ) → ((j : ℕ) → will j < 2 ^ 32) → (lines : List Line) (tellers : List Teller) (c : Common) (actors : List Actor)
      → Tells begun programs detaches boxes ds count lines tellers c → Foretold will wholes tellers actors → Reached begun programs detaches boxes ds wholes count lines actors (shared_by will c)
  reaches zero will small lines tellers c actors tells fore =
      record {
        start = actors;
        outcomes = start_outcomes will tellers actors tells.1 fore;
        notes = start_notes will tellers actors tells.1 fore;
        starts = start will tellers actors tells.1 fore;
        played = (tells.0, refl, ap (shared_by will) tells.2 ∙ (λ k. record { devices = ds; boxes = opens will boxes k; tick = 0 }));
      }
  reaches (suc count) will small lines tellers c actors tells fore =
      let b = event_before wholes programs detaches (suc (begun + count)) tells.2 tellers tells.3 c tells.1 actors will small fore tells.5 in
      let on = reaches count b.will b.small tells.0 tells.2 tells.3 b.acts tells.4 b.fore in
      record {
        start = on.start;
        outcomes = on.outcomes;
        notes = on.notes;
        starts = on.starts;
        played = subst (λ (l : List Line). Played programs detaches (suc begun) (suc count) on.start (sharing boxes ds) l actors (shared_by will c)) (sym tells.6)
            (one_more programs detaches count (suc begun) (suc (begun + count)) on.start b.acts actors (sharing boxes ds) (shared_by b.will tells.3) (shared_by will c) tells.0 tells.1 (omega arith) on.played b.plays);
      }

-- ---- ends

pub or_true : (a b : Bool) → (a ≡ true) ⊎ (b ≡ true) → (a || b) ≡ true
or_true true b h = refl
or_true false b (inl e) = absurd cc
or_true false b (inr e) = e

both_true : (a b : Bool) → a ≡ true → b ≡ true → (a && b) ≡ true
both_true true b e f = f
both_true false b e f = absurd cc

or_says : (a b : Bool) → (a || b) ≡ true → (a ≡ true) ⊎ (b ≡ true)
or_says true b e = inl refl
or_says false b e = inr e

abbrev pub ends_here : ℕ → Line → Bool
ends_here i l = nat_eq l.program i && is_end l.event

pub ends_either : (i : ℕ) (before more : List Line) → (tells_end i before ≡ true) ⊎ (tells_end i more ≡ true) → tells_end i (before ++ more) ≡ true
ends_either i before more h = list_any-append (ends_here i) before more ∙ or_true (tells_end i before) (tells_end i more) h

pub told_end : {X : Type 0} (p : Option X) (e : Event) → is_end e ≡ true → is_end (told_pause p e) ≡ true
told_end None e h = h
told_end (Some r) (ended how) h = refl
told_end (Some r) (paused t u) h = absurd cc
told_end (Some r) (called c) h = absurd cc
told_end (Some r) (answered c) h = absurd cc
told_end (Some r) (parked u) h = absurd cc
told_end (Some r) (returned i v) h = absurd cc
told_end (Some r) (shown i v) h = absurd cc

pub turn_ends : {X : Type 0} (looks : List Look) (d i : ℕ) (p : Option X) (turn : List Note) → ends_program turn ≡ true
    → tells_end i (map (λ (e : Event). line_at d i (told_pause p e)) (events_with_looks looks turn)) ≡ true
turn_ends looks d i p [] h = absurd cc
turn_ends {X} looks d i p (x ∷ xs) h = by (turn_ends looks d i p xs) (or_says (is_end x.event) (ends_program xs) h)
  where
    line : Event → Line
    line e = line_at d i (told_pause p e)

    by : (ends_program xs ≡ true → tells_end i (map (λ (e : Event). line_at d i (told_pause p e)) (events_with_looks looks xs)) ≡ true) → (is_end x.event ≡ true) ⊎ (ends_program xs ≡ true)
        → tells_end i (map (λ (e : Event). line_at d i (told_pause p e)) ((x.event ∷ looks_after looks x x.event) ++ events_with_looks looks xs)) ≡ true
    by on (inl e) =
        or_true (ends_here i (line_at d i (told_pause p x.event))) (tells_end i (map (λ (e : Event). line_at d i (told_pause p e)) (looks_after looks x x.event ++ events_with_looks looks xs)))
        (inl (both_true (nat_eq i i) (is_end (told_pause p x.event)) (eq-eqb i i refl) (told_end p x.event e)))
    by on (inr e) =
        ap (tells_end i) (map-append (λ (e : Event). line_at d i (told_pause p e)) (x.event ∷ looks_after looks x x.event) (events_with_looks looks xs))
        ∙ ends_either i (map (λ (e : Event). line_at d i (told_pause p e)) (x.event ∷ looks_after looks x x.event))
        (map (λ (e : Event). line_at d i (told_pause p e)) (events_with_looks looks xs)) (inr (on e))

-- what stands at a place that was set
pub set_back : (xs : List Teller) (i : ℕ) (x y : Teller) → slice_get (slice_set xs i x) i ≡ Some y → (z : Teller) × (slice_get xs i ≡ Some z) × (y ≡ x)
set_back [] i x y e = absurd cc
set_back (z ∷ xs) zero x y e = (z, refl, sym (same_Some x y e))
set_back (z ∷ xs) (suc i) x y e = set_back xs i x y e

-- who is sent a value goes on as it was
pub settle_keeps : (due : ℕ) (ss : List Settled) (tellers : List Teller) (j : ℕ) (t : Teller) → slice_get (settle_all due ss tellers) j ≡ Some t
    → (u : Teller) × (slice_get tellers j ≡ Some u) × (t.has_ended ≡ u.has_ended)
settle_keeps due [] tellers j t e = (t, e, refl)
settle_keeps due (s ∷ ss) tellers j t e = by (settle_keeps due ss (slice_set tellers s.program got) j t e) (cases_eq j s.program)
  where
    got : Teller
    got = having_got due s.value (unwrap_or (slice_get tellers s.program) no_teller)

    by : (u : Teller) × (slice_get (slice_set tellers s.program got) j ≡ Some u) × (t.has_ended ≡ u.has_ended) → (j ≡ s.program) ⊎ (j ≡ s.program → ⊥)
        → (u : Teller) × (slice_get tellers j ≡ Some u) × (t.has_ended ≡ u.has_ended)
    by on (inl same) =
        let b = set_back tellers s.program got on.0 (ap (slice_get (slice_set tellers s.program got)) (sym same) ∙ on.1) in (
          b.0,
          ap (slice_get tellers) same ∙ b.1,
          on.2 ∙ ap (λ (x : Teller). x.has_ended) b.2 ∙ ap (λ (o : Option Teller). (unwrap_or o no_teller).has_ended) b.1,
        )
    by on (inr other) = (on.0, sym (set_there tellers s.program j got other) ∙ on.1, on.2)

module _ (begun : ℕ) (programs : List Program) (detaches : List Detach) (boxes : List (List ℕ)) (ds : List Device) (i : ℕ) (w : Program) (ew : slice_get programs i ≡ Some w)
    (going : begins_over w ≡ false) where
  -- who has ended since it began has told an end
  pub ends_told : (count : ℕ) (lines : List Line) (tellers : List Teller) (c : Common) → Tells begun programs detaches boxes ds count lines tellers c
      → (t : Teller) → slice_get tellers i ≡ Some t → t.has_ended ≡ true → tells_end i lines ≡ true
  ends_told zero lines tellers c tells t there done =
      let same : starting w ≡ t =
      same_Some (starting w) t (sym (map_at starting programs i w ew) ∙ ap (λ (l : List Teller). slice_get l i) (sym tells.1) ∙ there) in
      let no_way : false ≡ true = sym going ∙ ap (λ (x : Teller). x.has_ended) same ∙ done in
      cc
  ends_told (suc count) lines tellers c tells t there over =
      ap (tells_end i) tells.6 ∙ ends_either i tells.0 tells.1 (by tells.5 (λ u eu fu. ends_told count tells.0 tells.2 tells.3 tells.4 u eu fu))
    where
      by : TellsEvent programs detaches (suc (begun + count)) tells.2 tells.3 tells.1 tellers c → ((u : Teller) → slice_get tells.2 i ≡ Some u → u.has_ended ≡ true → tells_end i tells.0 ≡ true)
          → (tells_end i tells.0 ≡ true) ⊎ (tells_end i tells.1 ≡ true)
      by (tells_turn play) on = at (cases_eq i play.i)
        where
          told : Teller
          told = having_told play.t play.turn play.met play.answers play.behind.receive

          keeps : (u : Teller) × (slice_get (slice_set tells.2 play.i told) i ≡ Some u) × (t.has_ended ≡ u.has_ended)
          keeps = settle_keeps (suc play.t.due) play.behind.settled (slice_set tells.2 play.i told) i t (ap (λ (l : List Teller). slice_get l i) (sym play.after) ∙ there)

          at : (i ≡ play.i) ⊎ (i ≡ play.i → ⊥) → (tells_end i tells.0 ≡ true) ⊎ (tells_end i tells.1 ≡ true)
          at (inl same) =
              let here : slice_get (slice_set tells.2 play.i told) play.i ≡ Some keeps.0 = ap (slice_get (slice_set tells.2 play.i told)) (sym same) ∙ keeps.1 in
              let is : keeps.0 ≡ told = (set_back tells.2 play.i told keeps.0 here).2 in
              let ends : ends_program play.turn ≡ true = ap (λ (x : Teller). x.has_ended) (sym is) ∙ sym keeps.2 ∙ over in
              inr (
              ap (λ (n : ℕ). tells_end n tells.1) same ∙ ap (tells_end play.i) play.made
              ∙ turn_ends play.w.looks play.t.due play.i (parks play.turn play.behind.receive) play.turn ends
              )
          at (inr other) = inl (on keeps.0 (sym (set_there tells.2 play.i i told other) ∙ keeps.1) (sym keeps.2 ∙ over))
      by (tells_stall play) on = at (cases_eq i play.i)
        where
          now : Teller
          now = record play.t { has_ended = true }

          there2 : slice_get (slice_set tells.2 play.i now) i ≡ Some t
          there2 = ap (λ (l : List Teller). slice_get l i) (sym play.after) ∙ there

          at : (i ≡ play.i) ⊎ (i ≡ play.i → ⊥) → (tells_end i tells.0 ≡ true) ⊎ (tells_end i tells.1 ≡ true)
          at (inl same) =
              inr (
              ap (λ (n : ℕ). tells_end n tells.1) same ∙ ap (tells_end play.i) play.made
              ∙ or_true (ends_here play.i (line_at tells.3.tick play.i (ended (Rattle.wa_model.specs.declared.events.End.TheVariants.Stalled play.r.import)))) _
              (inl (both_true (nat_eq play.i play.i) true (eq-eqb play.i play.i refl) refl))
              )
          at (inr other) = inl (on t (sym (set_there tells.2 play.i i now other) ∙ there2) over)
