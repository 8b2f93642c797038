-- The events of a program without bound imports among others with mailboxes, alone.
use Rattle.std.proofs.Common.{arith, ◌≡◌, ◌≤◌, ◌<◌, ◌+◌, ◌⊎◌, inl, inr, ℕ, zero, suc, List, [], ◌∷◌, ◌++◌, map, Option, Some, None, Bool, true, false, nat_eq, if◌then◌else◌, refl, sym, ap, ◌∙◌, subst}
use Rattle.std.specs.Prelude.{◌||◌, ◌&&◌, slice_get, slice_set}
use Rattle.std.specs.List.{cons_option, find}
use Rattle.std.specs.Option.{unwrap_or}
use Rattle.std.proofs.lemmas.Bool.{cases_eq}
use Rattle.std.proofs.lemmas.List.Elements.{All-nil, All-cons}
use Rattle.std.proofs.lemmas.Option.{same_Some}
use Rattle.wa_types.specs.Validity.{same_name}
use Rattle.wa_types.specs.declared.values.Value.{Value}
use Rattle.wa_types.specs.declared.values.Value.TheVariants as V
use Rattle.wa_model.specs.declared.answers.Detach.{Detach}
use Rattle.wa_model.specs.declared.events.End.TheVariants.{Stalled}
use Rattle.wa_model.specs.Outside.{AnswerLine, Call, Event, Line, ended}
use Rattle.wa_model.specs.Plan.{Outcome}
use Rattle.wa_model.specs.Blocking.{Note}
use Rattle.world_model.specs.World.{Original, Program, base_names, behind_turn, call_in, events_with_looks, is_end, line_at, look_events, name_at, put_off, turn_of}
use Rattle.run_theory.specs.Growth.{Each}
use Rattle.world_laws.specs.AloneLines.{Unbound, own_lines}
use Rattle.world_laws.proofs.AloneLines.{other_number, own_of_self, own_on}
use Rattle.world_laws.proofs.Places.{all_at, map_at, set_here, set_there, zip_at}
use Rattle.mail_laws.specs.Mailboxes.{CallsMeet, Mailbox, Meets, MeetsBound, MeetsBox, MeetsNamed, MeetsValues, Midst, NoteMeets, Receive, Shared, Waiting, at_box, awaited, is_box, received, receiver, sent, sent_past}
use Rattle.mail_laws.specs.MailWorld.{Actor, EachEnds, Events, HasEnded, Plays, Runs, StartsHeld, StartsOriginal, Stalls, TakesTurn, a_stall, a_turn, an_event, begins_over, begun_event, no_event, nobody, parked_at, parks, pauses, sharing, store_behind, tells_end, told_pause, wake, with_waiting, woken}
use Rattle.mail_laws.specs.WithoutBoxes.{bare}
use Rattle.mail_laws.specs.AloneLines.{OwnLinesAlone, OwnLinesBlocking}
use Rattle.mail_laws.proofs.BareBlocking.{blocking_without_boxes}
use Rattle.mail_laws.proofs.BareWorlds.{worlds_without_boxes}

-- ---- a program that waits at no mailbox

module _ (i : ℕ) where
  abbrev Another : ℕ → Type 0
  Another k = k ≡ i → ⊥

  abbrev WaitsNot : Mailbox → Type 0
  WaitsNot b = Each (λ (x : Waiting). Another x.program) b.waits

  -- it waits nowhere, and was sent nothing
  record Aside (z : Midst) : Type 0 where
    boxes : Each WaitsNot z.boxes
    settled : Each Another z.settled

  at_aside : (change : Mailbox → Mailbox) → ((b : Mailbox) → WaitsNot b → WaitsNot (change b)) → (name : List ℕ) (bs : List Mailbox) → Each WaitsNot bs → Each WaitsNot (at_box change name bs)
  at_aside change keeps name [] h = tt
  at_aside change keeps name (b ∷ bs) h = by (same_name b.name name) (at_aside change keeps name bs h.1)
    where
      by : (y : Bool) → Each WaitsNot (at_box change name bs) → Each WaitsNot (if y then change b ∷ bs else b ∷ at_box change name bs)
      by true on = (keeps b h.0, h.1)
      by false on = (h.0, on)

  found_aside : (name : List ℕ) (bs : List Mailbox) (b : Mailbox) → Each WaitsNot bs → find (is_box name) bs ≡ Some b → WaitsNot b
  found_aside name [] b h e = cc
  found_aside name (d ∷ bs) b h e = by (same_name d.name name) e (λ f. found_aside name bs b h.1 f)
    where
      by : (y : Bool) → (if y then Some d else find (is_box name) bs) ≡ Some b → (find (is_box name) bs ≡ Some b → WaitsNot b) → WaitsNot b
      by true f on = subst WaitsNot (same_Some d b f) h.0
      by false f on = on f

  sent_aside : (v : ℕ) (b : Mailbox) → WaitsNot b → WaitsNot (sent v b)
  sent_aside v b h = by b.waits h h
    where
      by : (ws : List Waiting) → Each (λ (x : Waiting). Another x.program) ws → WaitsNot b → WaitsNot (sent_past v b ws)
      by [] g k = k
      by (x ∷ ws) g k = g.1

  receiver_aside : (ws : List Waiting) → Each (λ (x : Waiting). Another x.program) ws → Each Another (receiver ws)
  receiver_aside [] h = tt
  receiver_aside (x ∷ ws) h = (h.0, tt)

  each_on : (xs ys : List ℕ) → Each Another xs → Each Another ys → Each Another (xs ++ ys)
  each_on [] ys h k = k
  each_on (x ∷ xs) ys h k = (h.0, each_on xs ys h.1 k)

  waiting_on : (xs : List Waiting) (x : Waiting) → Each (λ (y : Waiting). Another y.program) xs → Another x.program → Each (λ (y : Waiting). Another y.program) (xs ++ x ∷ [])
  waiting_on [] x h k = (k, tt)
  waiting_on (y ∷ xs) x h k = (h.0, waiting_on xs x h.1 k)

  box_aside : (import : ℕ) (name : List ℕ) (args : List Value) (b : Mailbox) (z : Midst) (o : Outcome) (z' : Midst) → WaitsNot b → Aside z → MeetsBox import name args b z o z' → Aside z'
  box_aside import name [] b z o z' w h m = by b.values m
    where
      by : (vs : List ℕ) → MeetsValues import name vs z o z' → Aside z'
      by [] g = subst Aside (sym g.3) (record { boxes = h.boxes; settled = h.settled })
      by (v ∷ vs) g = subst Aside (sym g.1) (record { boxes = at_aside (received vs) (λ b k. k) name z.boxes h.boxes; settled = h.settled })
  box_aside import name (V.I32 v ∷ []) b z o z' w h m =
      subst Aside (sym m.2) (record { boxes = at_aside (sent v) (sent_aside v) name z.boxes h.boxes; settled = each_on z.settled (receiver b.waits) h.settled (receiver_aside b.waits w) })
  box_aside import name (V.I32 v ∷ y ∷ ys) b z o z' w h m = subst Aside (sym m.1) h
  box_aside import name (V.I64 v ∷ ys) b z o z' w h m = subst Aside (sym m.1) h

  call_aside : (w : Program) (import : ℕ) (args : List Value) (lines : List AnswerLine) (z : Midst) (o : Outcome) (lines' : List AnswerLine) (z' : Midst)
      → Meets w import args lines z o lines' z' → Aside z → Aside z'
  call_aside w import args lines z o lines' z' m h = by_bound (unwrap_or (slice_get w.binds import) None) m
    where
      by_found : (name : List ℕ) (found : Option Mailbox) → find (is_box name) z.boxes ≡ found → MeetsNamed import (name_at (base_names w.source) import) name args found z o z' → Aside z'
      by_found name None f g = subst Aside (sym g.2) (record { boxes = h.boxes; settled = h.settled })
      by_found name (Some b) f g = box_aside import name args b z o z' (found_aside name z.boxes b h.boxes f) h g

      by_bound : (b : Option (List ℕ)) → MeetsBound w.source import args b lines z o lines' z' → Aside z'
      by_bound None g = subst Aside (sym g.1) h
      by_bound (Some name) g = by_found name (find (is_box name) z.boxes) refl g.0

  calls_aside : (w : Program) (xs : List Note) (os : List Outcome) (lines : List AnswerLine) (z : Midst) (os' : List Outcome) (lines' : List AnswerLine) (z' : Midst)
      → CallsMeet w xs os lines z os' lines' z' → Aside z → Aside z'
  calls_aside w [] os lines z os' lines' z' m h = subst Aside (sym m.2) h
  calls_aside w (x ∷ xs) os lines z os' lines' z' m h = by_call (λ us ls y g k. calls_aside w xs us ls y os' lines' z' g k) (call_in x.event) m
    where
      by_call : ((us : List Outcome) (ls : List AnswerLine) (y : Midst) → CallsMeet w xs us ls y os' lines' z' → Aside y → Aside z')
          → (c : Option Call) → NoteMeets w c os lines z (λ o l y. CallsMeet w xs o l y os' lines' z') → Aside z'
      by_call on None g = on os lines z g h
      by_call on (Some c) g = on g.1 g.2 g.3 g.6 (call_aside w c.import c.args lines z g.0 g.2 g.3 g.5 h)

  -- another program parks
  parking_aside : (k : ℕ) → Another k → (parking : Option Receive) (bs : List Mailbox) → Each WaitsNot bs → Each WaitsNot (with_waiting k parking bs)
  parking_aside k other None bs h = h
  parking_aside k other (Some r) bs h =
      at_aside (awaited (record { program = k; value = r.value })) (λ b g. waiting_on b.waits (record { program = k; value = r.value }) g other) r.box bs h

  -- those that wake are others
  woken_others : (due : ℕ) (is : List ℕ) (acts : List Actor) → Each Another is → slice_get (wake due is acts) i ≡ slice_get acts i
  woken_others due [] acts h = refl
  woken_others due (k ∷ is) acts h =
      let one : Actor = woken due (unwrap_or (slice_get acts k) nobody) in
      woken_others due is (slice_set acts k one) h.1 ∙ set_there acts k i one (λ e. h.0 (sym e))

-- ---- calls of a program without bound imports

-- they leave what is shared, and are the same whatever that is
calls_apart : (w : Program) → Unbound w → (xs : List Note) (os : List Outcome) (lines : List AnswerLine) (z : Midst) (os' : List Outcome) (lines' : List AnswerLine) (z' : Midst)
    → CallsMeet w xs os lines z os' lines' z' → (z' ≡ z) × ((y : Midst) → CallsMeet w xs os lines y os' lines' y)
calls_apart w none [] os lines z os' lines' z' m = (m.2, λ y. (m.0, m.1, refl))
calls_apart w none (x ∷ xs) os lines z os' lines' z' m = by_call (λ us ls y g. calls_apart w none xs us ls y os' lines' z' g) (call_in x.event) m
  where
    by_call : ((us : List Outcome) (ls : List AnswerLine) (y : Midst) → CallsMeet w xs us ls y os' lines' z' → (z' ≡ y) × ((u : Midst) → CallsMeet w xs us ls u os' lines' u))
        → (c : Option Call) → NoteMeets w c os lines z (λ o l y. CallsMeet w xs o l y os' lines' z')
        → (z' ≡ z) × ((y : Midst) → NoteMeets w c os lines y (λ o l u. CallsMeet w xs o l u os' lines' y))
    by_call on None g = on os lines z g
    by_call on (Some c) g =
        let free = none c.import in
        let h : MeetsBound w.source c.import c.args None lines z g.0 g.2 g.3 =
        subst (λ (b : Option (List ℕ)). MeetsBound w.source c.import c.args b lines z g.0 g.2 g.3) free g.5 in
        let r = on g.1 g.2 g.3 g.6 in (
          r.0 ∙ h.1,
          λ y. (g.0, g.1, g.2, y, g.4, subst (λ (b : Option (List ℕ)). MeetsBound w.source c.import c.args b lines y g.0 g.2 y) (sym free) (h.0, refl), r.1 y),
        )

none_parks : (turn : List Note) (r : Option Receive) → r ≡ None → parks turn r ≡ None
none_parks turn r e = by (pauses turn)
  where
    by : (b : Bool) → (if b then r else None) ≡ None
    by true = e
    by false = refl

-- ---- lines

own_of_other : (i j : ℕ) (g : Event → Line) → (j ≡ i → ⊥) → ((e : Event) → (g e).program ≡ j) → (es : List Event) → own_lines i (map g es) ≡ []
own_of_other i j g d is [] = refl
own_of_other i j g d is (e ∷ es) =
    ap (λ (b : Bool). cons_option (if b then Some (record { tick = (g e).tick; program = 0; event = (g e).event }) else None) (own_lines i (map g es)))
    (ap (λ (k : ℕ). nat_eq k i) (is e) ∙ other_number j i d)
    ∙ own_of_other i j g d is es

own_ends : (i : ℕ) (lines : List Line) → tells_end 0 (own_lines i lines) ≡ tells_end i lines
own_ends i [] = refl
own_ends i (l ∷ ls) = by (nat_eq l.program i) (own_ends i ls)
  where
    by : (b : Bool) → tells_end 0 (own_lines i ls) ≡ tells_end i ls
        → tells_end 0 (cons_option (if b then Some (record { tick = l.tick; program = 0; event = l.event }) else None) (own_lines i ls)) ≡ ((b && is_end l.event) || tells_end i ls)
    by true on = ap (λ (c : Bool). is_end l.event || c) on
    by false on = on

-- ---- events

module _ (programs : List Program) (detaches : List Detach) (i : ℕ) (w : Program) (there : slice_get programs i ≡ Some w) (none : Unbound w) where
  -- what is left of a world is left of the world of this program alone
  abbrev Alone : Actor → List Line → List Actor → Type 0
  Alone a lines last = (n tick : ℕ) → (a' : Actor) × (after : ℕ) × (slice_get last i ≡ Some a') × Events (w ∷ []) [] n (a ∷ []) (bare tick []) (own_lines i lines) (a' ∷ []) (bare after [])

  abbrev Stays : Shared → Type 0
  Stays sh = Each (WaitsNot i) sh.boxes

  abbrev Goes : Actor → List Line → List Line → List Actor → List Actor → Shared → Type 0
  Goes a first more acts' last sh' = Stays sh' × (((b : Actor) → slice_get acts' i ≡ Some b → b.parked ≡ None → Alone b more last) → Alone a (first ++ more) last)

  -- an event of another
  other_alone : (a : Actor) (first more : List Line) (acts' last : List Actor) → a.parked ≡ None → slice_get acts' i ≡ Some a → own_lines i first ≡ []
      → ((b : Actor) → slice_get acts' i ≡ Some b → b.parked ≡ None → Alone b more last) → Alone a (first ++ more) last
  other_alone a first more acts' last awake e no_own on n tick =
      let r = on a e awake n tick in
      let lines : own_lines i (first ++ more) ≡ own_lines i more = own_on i first more ∙ ap (λ (ls : List Line). ls ++ own_lines i more) no_own in
      (r.0, r.1, r.2, subst (λ (ls : List Line). Events (w ∷ []) [] n (a ∷ []) (bare tick []) ls (r.0 ∷ []) (bare r.1 [])) (sym lines) r.3)

  module _ (number : ℕ) (acts acts' last : List Actor) (sh sh' : Shared) (first more : List Line) (a : Actor) (e : slice_get acts i ≡ Some a) (awake : a.parked ≡ None) (stays : Stays sh) where
    module _ (t : TakesTurn programs detaches number acts sh first acts' sh') where
      abbrev turn : List Note
      turn = turn_of t.a.notes

      abbrev parking : Option Receive
      parking = parks turn t.behind.receive

      abbrev moved : Actor
      moved = record {
        due = t.a.due + put_off turn;
        notes = behind_turn t.a.notes;
        outcomes = t.outcomes;
        answers = t.answers;
        parked = parked_at (store_behind turn) parking;
      }

      abbrev made : List Line
      made = map (line_at t.a.due 0) (events_with_looks t.w.looks turn)

      aside : Aside i t.behind
      aside =
          calls_aside i t.w turn t.a.outcomes t.a.answers (begun_event number detaches sh) t.outcomes t.answers t.behind t.calls (record { boxes = stays; settled = tt })

      another : (t.i ≡ i → ⊥) → Goes a first more acts' last sh'
      another d = (
        subst Stays (sym t.shared) (parking_aside i t.i d parking t.behind.boxes aside.boxes),
        other_alone a first more acts' last awake
            (ap (λ (xs : List Actor). slice_get xs i) t.after ∙ woken_others i (suc t.a.due) t.behind.settled (slice_set acts t.i moved) aside.settled
            ∙ set_there acts t.i i moved (λ z. d (sym z)) ∙ e)
            (ap (own_lines i) t.made ∙ own_of_other i t.i (λ (v : Event). line_at t.a.due t.i (told_pause parking v)) d (λ v. refl) (events_with_looks t.w.looks turn)),
      )

      own : t.i ≡ i → Goes a first more acts' last sh'
      own z = (
        subst Stays (sym (t.shared ∙ (λ k. record { devices = t.behind.devices; boxes = with_waiting t.i (no_parking k) (ap (λ (y : Midst). y.boxes) free.0 k); tick = t.a.due }))) stays,
        alone,
      )
        where
          is_w : t.w ≡ w
          is_w = same_Some t.w w (sym t.program ∙ ap (slice_get programs) z ∙ there)

          is_a : t.a ≡ a
          is_a = same_Some t.a a (sym t.next.there ∙ ap (slice_get acts) z ∙ e)

          free : (t.behind ≡ begun_event number detaches sh) × ((y : Midst) → CallsMeet t.w turn t.a.outcomes t.a.answers y t.outcomes t.answers y)
          free = calls_apart t.w (subst Unbound (sym is_w) none) turn t.a.outcomes t.a.answers (begun_event number detaches sh) t.outcomes t.answers t.behind t.calls

          no_parking : parking ≡ None
          no_parking = none_parks turn t.behind.receive (ap (λ (y : Midst). y.receive) free.0)

          no_receive : parks {X = Receive} turn None ≡ None
          no_receive = none_parks turn None refl

          behind : slice_get acts' i ≡ Some moved
          behind =
              ap (λ (xs : List Actor). slice_get xs i) t.after ∙ woken_others i (suc t.a.due) t.behind.settled (slice_set acts t.i moved) aside.settled
              ∙ ap (slice_get (slice_set acts t.i moved)) (sym z) ∙ set_here acts t.i moved t.a t.next.there

          only : (j : ℕ) (b : Actor) → slice_get (t.a ∷ []) j ≡ Some b → (t.a.due < b.due) ⊎ ((t.a.due ≡ b.due) × (0 ≤ j))
          only zero b f = inr (ap (λ (c : Actor). c.due) (same_Some t.a b f), omega arith)
          only (suc j) b f = cc

          event : (n tick : ℕ) → Plays (t.w ∷ []) [] n (t.a ∷ []) (bare tick []) made (moved ∷ []) (bare t.a.due [])
          event n tick =
              a_turn (record {
                i = 0;
                a = t.a;
                w = t.w;
                next = record { there = refl; ready = t.next.ready; least = λ j b f ready. only j b f };
                program = refl;
                outcomes = t.outcomes;
                answers = t.answers;
                behind = begun_event n [] (bare tick []);
                calls = free.1 (begun_event n [] (bare tick []));
                made = λ k. map (λ (v : Event). line_at t.a.due 0 (told_pause (sym no_receive k) v)) (events_with_looks t.w.looks turn);
                after = λ k. record {
                  due = t.a.due + put_off turn;
                  notes = behind_turn t.a.notes;
                  outcomes = t.outcomes;
                  answers = t.answers;
                  parked = parked_at (store_behind turn) ((no_parking ∙ sym no_receive) k);
                } ∷ [];
                shared = λ k. record { devices = []; boxes = with_waiting 0 (sym no_receive k) []; tick = t.a.due };
              })

          told : own_lines i first ≡ made
          told =
              ap (own_lines i) (t.made ∙ (λ k. map (λ (v : Event). line_at t.a.due (z k) (told_pause (no_parking k) v)) (events_with_looks t.w.looks turn)))
              ∙ own_of_self i t.a.due (events_with_looks t.w.looks turn)

          alone : ((b : Actor) → slice_get acts' i ≡ Some b → b.parked ≡ None → Alone b more last) → Alone a (first ++ more) last
          alone on n tick =
              let r = on moved behind (ap (parked_at (store_behind turn)) no_parking) (suc n) t.a.due in
              let lines : own_lines i (first ++ more) ≡ made ++ own_lines i more = own_on i first more ∙ ap (λ (ls : List Line). ls ++ own_lines i more) told in
              let rest : Events (t.w ∷ []) [] (suc n) (moved ∷ []) (bare t.a.due []) (own_lines i more) (r.0 ∷ []) (bare r.1 []) =
              subst (λ (v : Program). Events (v ∷ []) [] (suc n) (moved ∷ []) (bare t.a.due []) (own_lines i more) (r.0 ∷ []) (bare r.1 [])) (sym is_w) r.3 in
              let whole : Events (t.w ∷ []) [] n (t.a ∷ []) (bare tick []) (own_lines i (first ++ more)) (r.0 ∷ []) (bare r.1 []) = an_event (event n tick) rest lines in (
                r.0,
                r.1,
                r.2,
                subst (λ (v : Program). Events (v ∷ []) [] n (a ∷ []) (bare tick []) (own_lines i (first ++ more)) (r.0 ∷ []) (bare r.1 [])) is_w
                    (subst (λ (c : Actor). Events (t.w ∷ []) [] n (c ∷ []) (bare tick []) (own_lines i (first ++ more)) (r.0 ∷ []) (bare r.1 [])) is_a whole),
              )

      turn_alone : Goes a first more acts' last sh'
      turn_alone = by (cases_eq t.i i)
        where
          by : (t.i ≡ i) ⊎ (t.i ≡ i → ⊥) → Goes a first more acts' last sh'
          by (inl z) = own z
          by (inr d) = another d

    stall_alone : Stalls programs detaches number acts sh first acts' sh' → Goes a first more acts' last sh'
    stall_alone s = (
      subst Stays (sym s.shared) stays,
      other_alone a first more acts' last awake
          (ap (λ (xs : List Actor). slice_get xs i) s.after ∙ set_there acts s.i i (record s.a { parked = None }) (λ z. other (sym z)) ∙ e)
          (ap (own_lines i) s.made ∙ own_of_other i s.i (line_at sh.tick s.i) other (λ v. refl) (ended (Stalled s.at.import) ∷ look_events s.at.store s.w.looks)),
    )
      where
        other : s.i ≡ i → ⊥
        other z =
            let is_a : s.a ≡ a = same_Some s.a a (sym s.there ∙ ap (slice_get acts) z ∙ e) in
            let bad : None ≡ Some s.at = sym awake ∙ ap (λ (x : Actor). x.parked) (sym is_a) ∙ s.waits in cc

    event_alone : Plays programs detaches number acts sh first acts' sh' → Goes a first more acts' last sh'
    event_alone (a_turn t) = turn_alone t
    event_alone (a_stall s) = stall_alone s

  events_alone : (number : ℕ) (acts last : List Actor) (sh end : Shared) (lines : List Line) → Events programs detaches number acts sh lines last end
      → (a : Actor) → slice_get acts i ≡ Some a → a.parked ≡ None → Stays sh → Alone a lines last
  events_alone number acts last sh end lines no_event a e awake stays = λ n tick. (a, tick, e, no_event)
  events_alone number acts last sh end lines (an_event {actors' = acts1} {sh' = sh1} {lines = first} {more = more} play rest split) a e awake stays =
      let g = event_alone number acts acts1 last sh sh1 first more a e awake stays play in
      subst (λ (ls : List Line). Alone a ls last) (sym split) (g.1 (λ b f up. events_alone (suc number) acts1 last sh1 end more rest b f up g.0))

  empty_boxes : (names : List (List ℕ)) → Each (WaitsNot i) (map (λ (name : List ℕ). record { name = name; values = []; waits = [] }) names)
  empty_boxes [] = tt
  empty_boxes (n ∷ names) = (tt, empty_boxes names)

  run_alone : (begun : ℕ) (boxes : List (List ℕ)) (acts : List Actor) (ds ds' : List _) (lines : List Line) → (r : Runs begun programs detaches boxes acts ds lines ds') → (a : Actor)
      → slice_get acts i ≡ Some a → a.parked ≡ None → Runs begun (w ∷ []) [] [] (a ∷ []) [] (own_lines i lines) []
  run_alone begun boxes acts ds ds' lines r a e awake =
      let x = events_alone (suc begun) acts r.last (sharing boxes ds) r.shared lines r.events a e awake (empty_boxes boxes) (suc begun) 0 in
      let done = all_at HasEnded r.last i x.0 r.over x.2 in
      record { last = x.0 ∷ []; shared = bare x.1 []; events = x.3; over = All-cons HasEnded x.0 [] done (All-nil HasEnded); devices = refl }

  ends_alone : (lines : List Line) → EachEnds programs lines → EachEnds (w ∷ []) (own_lines i lines)
  ends_alone lines ends zero v e going = own_ends i lines ∙ ends i w there (ap begins_over (same_Some w v e) ∙ going)
  ends_alone lines ends (suc j) v e going = cc

-- ---- laws

pub own_lines_alone : OwnLinesAlone
own_lines_alone begun programs detaches boxes ds ds' lines i w there none world =
    let s = zip_at StartsHeld programs world.actors world.starts i w there in
    (worlds_without_boxes begun (w ∷ []) [] [] [] (own_lines i lines)).1 (record {
      actors = s.0 ∷ [];
      starts = (s.2, tt);
      runs = run_alone programs detaches i w there none begun boxes world.actors ds ds' lines world.runs s.0 s.1 s.2.starts.parked;
      ends = ends_alone programs detaches i w there none lines world.ends;
    })

pub own_lines_blocking : OwnLinesBlocking
own_lines_blocking originals detaches boxes ds ds' lines i o there none world =
    let s = zip_at StartsOriginal originals world.actors world.starts i o there in
    let programs : List Program = map (λ (p : Original). p.program) originals in
    let here : slice_get programs i ≡ Some o.program = map_at (λ (p : Original). p.program) originals i o there in
    (blocking_without_boxes (o ∷ []) [] [] [] (own_lines i lines)).1 (record {
      actors = s.0 ∷ [];
      starts = (s.2, tt);
      runs = run_alone programs detaches i o.program here none 0 boxes world.actors ds ds' lines world.runs s.0 s.1 s.2.starts.parked;
      ends = ends_alone programs detaches i o.program here none lines world.ends;
    })
