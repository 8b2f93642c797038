-- The events of a world with mailboxes of rewritten modules are events of that of their originals: programs beside each other.
use Rattle.std.proofs.Common.{arith, ◌≡◌, ◌≤◌, ◌<◌, ◌+◌, ◌⊎◌, inl, inr, ℕ, zero, suc, List, [], ◌∷◌, ◌++◌, length, map, Option, Some, None, All, slice_get, slice_set, refl, sym, ap, ◌∙◌, subst, length-set}
use Rattle.std.specs.List.{AllZip, filter_map, find}
use Rattle.std.specs.Option.{unwrap_or}
use Rattle.std.proofs.lemmas.Bool.{cases_eq, cases_lt}
use Rattle.std.proofs.lemmas.Option.{same_Some, slice_get-get_or, slice_get_within}
use Rattle.std.specs.Prelude.{Bool, true, false, get_or, if◌then◌else◌}
use Rattle.wa_types.specs.declared.values.Value.{Value}
use Rattle.wa_types.specs.declared.syntax.Import.{Import}
use Rattle.wa_types.specs.Modules.{imported_func}
use Rattle.wa_types.specs.Pausing.{joined_name}
use Rattle.wa_model.specs.declared.answers.Area.{Area}
use Rattle.wa_model.specs.declared.answers.Detach.{Detach}
use Rattle.wa_model.specs.declared.events.End.TheVariants.{Done, Stalled}
use Rattle.wa_model.specs.Outside.{AnswerLine, Call, Event, Line, answered, called, ended, parked, paused, returned, shown}
use Rattle.wa_model.specs.Store.{Store}
use Rattle.wa_model.specs.Plan.{Outcome}
use Rattle.wa_model.specs.Blocking.{Note, note}
use Rattle.world_model.specs.World.{Look, MeetsLine, Original, Program, base_names, behind_turn, call_in, ends_turn, events_with_looks, import_names, line_at, look_events, looks_after, name_at, name_if}
use Rattle.world_model.specs.World.{put_off, turn_of}
use Rattle.world_laws.specs.Originals.{SameMoment, ShowsOff, new_calls, one_if}
use Rattle.world_laws.proofs.Meeting.{SameCalls}
use Rattle.world_laws.proofs.Places.{all_at, item, map_at, set_here, set_there}
use Rattle.world_laws.proofs.Shows.{Alike, Prints, alike_events, alike_length, alike_put_off, prints_by, turn_calls}
use Rattle.mail_laws.specs.Mailboxes.{CallsMeet, Meets, MeetsBound, MeetsNamed, Midst, NoteMeets, Receive, Shared, is_box}
use Rattle.mail_laws.specs.MailWorld.{Actor, Events, HasEnded, IsNext, IsOver, IsReady, Parked, Plays, Stalls, TakesTurn, a_stall, a_turn, an_event, begun_event, no_event, nobody}
use Rattle.mail_laws.specs.MailWorld.{parked_at, parks, pauses, store_behind, told_pause, wake, with_waiting, woken}
use Rattle.mail_laws.proofs.CutStories.{pauses_zip}

-- ---- notes that show the same

-- Notes of one event, over stores of which the looks show the same.
pub record Seen (looks : List Look) (x y : Note) : Type 0 where
  pub event : x.event ≡ y.event
  pub shows : look_events x.store looks ≡ look_events y.store looks

pub seen_by : (globals : ℕ) (area : Area) → 0 < area.len → (looks : List Look) → All (ShowsOff area) looks → (xs ys : List Note) → AllZip (SameMoment globals area) xs ys → AllZip (Seen looks) xs ys
seen_by globals area some looks off [] [] h = tt
seen_by globals area some looks off [] (y ∷ ys) h = absurd h
seen_by globals area some looks off (x ∷ xs) [] h = absurd h
seen_by globals area some looks off (x ∷ xs) (y ∷ ys) h =
    let m : SameMoment globals area x y = h.0 in
    let p = prints_by globals area some looks off (note (ended Done) x.store ∷ []) (note (ended Done) y.store ∷ []) (record { event = refl; ends = m.ends }, tt) in
    let one : Prints looks (note (ended Done) x.store) (note (ended Done) y.store) = p.0 in
    (record { event = m.event; shows = one.shows }, seen_by globals area some looks off xs ys h.1)

prints_of : (looks : List Look) (x y : Note) → Seen looks x y → Prints looks x y
prints_of looks x y s = record { event = s.event; shows = by x.event ∙ ap (looks_after looks y) s.event }
  where
    by : (e : Event) → looks_after looks x e ≡ looks_after looks y e
    by (ended how) = s.shows
    by (called c) = refl
    by (answered v) = refl
    by (paused t u) = refl
    by (parked u) = refl
    by (returned i v) = refl
    by (shown at bytes) = refl

module _ (looks : List Look) where
  abbrev pub AllSeen : List Note → List Note → Type 0
  AllSeen = AllZip (Seen looks)

  alike_of : (xs ys : List Note) → AllSeen xs ys → Alike looks xs ys
  alike_of [] [] h = tt
  alike_of [] (y ∷ ys) h = absurd h
  alike_of (x ∷ xs) [] h = absurd h
  alike_of (x ∷ xs) (y ∷ ys) h = (prints_of looks x y h.0, alike_of xs ys h.1)

  seen_turn : (xs ys : List Note) → AllSeen xs ys → AllSeen (turn_of xs) (turn_of ys)
  seen_turn [] [] h = tt
  seen_turn [] (y ∷ ys) h = absurd h
  seen_turn (x ∷ xs) [] h = absurd h
  seen_turn (x ∷ xs) (y ∷ ys) h =
      subst (λ (b : Bool). AllSeen (turn_of (x ∷ xs)) (if b then y ∷ [] else y ∷ turn_of ys)) (ap ends_turn (h.0).event) (by_end (seen_turn xs ys h.1) (ends_turn x.event))
    where
      by_end : AllSeen (turn_of xs) (turn_of ys) → (b : Bool) → AllSeen (if b then x ∷ [] else x ∷ turn_of xs) (if b then y ∷ [] else y ∷ turn_of ys)
      by_end on true = (h.0, tt)
      by_end on false = (h.0, on)

  seen_behind : (xs ys : List Note) → AllSeen xs ys → AllSeen (behind_turn xs) (behind_turn ys)
  seen_behind [] [] h = tt
  seen_behind [] (y ∷ ys) h = absurd h
  seen_behind (x ∷ xs) [] h = absurd h
  seen_behind (x ∷ xs) (y ∷ ys) h =
      subst (λ (b : Bool). AllSeen (behind_turn (x ∷ xs)) (if b then ys else behind_turn ys)) (ap ends_turn (h.0).event) (by_end (seen_behind xs ys h.1) (ends_turn x.event))
    where
      by_end : AllSeen (behind_turn xs) (behind_turn ys) → (b : Bool) → AllSeen (if b then xs else behind_turn xs) (if b then ys else behind_turn ys)
      by_end on true = h.1
      by_end on false = on

  seen_store : (xs ys : List Note) → AllSeen xs ys → look_events (store_behind xs) looks ≡ look_events (store_behind ys) looks
  seen_store [] [] h = refl
  seen_store [] (y ∷ ys) h = absurd h
  seen_store (x ∷ xs) [] h = absurd h
  seen_store (x ∷ []) (y ∷ []) h = (h.0).shows
  seen_store (x ∷ []) (y ∷ y2 ∷ ys) h = absurd h.1
  seen_store (x ∷ x2 ∷ xs) (y ∷ []) h = absurd h.1
  seen_store (x ∷ x2 ∷ xs) (y ∷ y2 ∷ ys) h = seen_store (x2 ∷ xs) (y2 ∷ ys) h.1

  seen_pauses : (xs ys : List Note) → AllSeen xs ys → pauses xs ≡ pauses ys
  seen_pauses = pauses_zip (Seen looks) (λ x y h. h.event)

-- ---- where they wait

-- Both wait at one import, over stores of which the looks show the same, or neither waits.
abbrev pub SameParked : List Look → Option Parked → Option Parked → Type 0
SameParked looks None None = Unit {0}
SameParked looks (Some p) (Some q) = (p.import ≡ q.import) × (look_events p.store looks ≡ look_events q.store looks)
SameParked looks _ _ = ⊥

both_park : (looks : List Look) (s t : Store) (r : Option Receive) → look_events s looks ≡ look_events t looks → SameParked looks (parked_at s r) (parked_at t r)
both_park looks s t None h = tt
both_park looks s t (Some r) h = (refl, h)

awake_too : (looks : List Look) (p q : Option Parked) → SameParked looks p q → q ≡ None → p ≡ None
awake_too looks None None h e = refl
awake_too looks None (Some q) h e = absurd h
awake_too looks (Some p) None h e = absurd h
awake_too looks (Some p) (Some q) h e = cc

awake_back : (looks : List Look) (p q : Option Parked) → SameParked looks p q → p ≡ None → q ≡ None
awake_back looks None None h e = refl
awake_back looks None (Some q) h e = absurd h
awake_back looks (Some p) None h e = absurd h
awake_back looks (Some p) (Some q) h e = cc

abbrev WaitsToo : List Look → Option Parked → Parked → Type 0
WaitsToo looks o at = (p : Parked) × (o ≡ Some p) × (p.import ≡ at.import) × (look_events p.store looks ≡ look_events at.store looks)

waits_too : (looks : List Look) (p q : Option Parked) (at : Parked) → SameParked looks p q → q ≡ Some at → WaitsToo looks p at
waits_too looks None None at h e = absurd cc
waits_too looks None (Some q) at h e = absurd h
waits_too looks (Some p) None at h e = absurd h
waits_too looks (Some p) (Some q) at h e =
    let same : q ≡ at = same_Some q at e in
    (p, refl, h.0 ∙ ap (λ (x : Parked). x.import) same, h.1 ∙ ap (λ (x : Parked). look_events x.store looks) same)

waits_back : (looks : List Look) (p q : Option Parked) (at : Parked) → SameParked looks p q → p ≡ Some at → (b : Parked) × (q ≡ Some b)
waits_back looks None None at h e = absurd cc
waits_back looks None (Some q) at h e = absurd h
waits_back looks (Some p) None at h e = absurd h
waits_back looks (Some p) (Some q) at h e = (q, refl)

-- ---- what calls meet

meets_same : (w v : Program) → SameCalls w v → (import : ℕ) (args : List Value) (lines : List AnswerLine) (z : Midst) (o : Outcome) (lines' : List AnswerLine) (z' : Midst)
    → Meets w import args lines z o lines' z' → Meets v import args lines z o lines' z'
meets_same w v same import args lines z o lines' z' h =
    subst (λ (b : Option (List ℕ)). MeetsBound v.source import args b lines z o lines' z') (ap (λ (bs : List (Option (List ℕ))). unwrap_or (slice_get bs import) None) same.binds)
    (by_bound (unwrap_or (slice_get w.binds import) None) h)
  where
    bases : base_names w.source ≡ base_names v.source
    bases = ap (λ (imports : List Import). filter_map (λ (i : Import). name_if i.base (imported_func i.kind)) imports) same.imports

    joined : import_names w.source ≡ import_names v.source
    joined = ap (λ (imports : List Import). filter_map (λ (i : Import). name_if (joined_name i) (imported_func i.kind)) imports) same.imports

    by_bound : (b : Option (List ℕ)) → MeetsBound w.source import args b lines z o lines' z' → MeetsBound v.source import args b lines z o lines' z'
    by_bound (Some name) g = (subst (λ (ns : List (List ℕ)). MeetsNamed import (name_at ns import) name args (find (is_box name) z.boxes) z o z') bases g.0, g.1)
    by_bound None g = (subst (λ (ns : List (List ℕ)). MeetsLine import (name_at ns import) lines o lines') joined g.0, g.1)

-- the same calls with fewer outcomes behind them
calls_trimmed : (looks : List Look) (w v : Program) → SameCalls w v → (xs ys : List Note) → AllSeen looks xs ys
    → (us rest : List Outcome) (lines : List AnswerLine) (z : Midst) (os' : List Outcome) (lines' : List AnswerLine) (z' : Midst)
    → CallsMeet w ys (us ++ rest) lines z os' lines' z' → new_calls ys ≤ length us
    → (us' : List Outcome) × CallsMeet v xs us lines z us' lines' z' × (os' ≡ us' ++ rest) × (length us ≡ new_calls ys + length us')
calls_trimmed looks w v same [] [] al us rest lines z os' lines' z' h few = (us, (refl, h.1, h.2), h.0, omega arith)
calls_trimmed looks w v same [] (y ∷ ys) al us rest lines z os' lines' z' h few = absurd al
calls_trimmed looks w v same (x ∷ xs) [] al us rest lines z os' lines' z' h few = absurd al
calls_trimmed looks w v same (x ∷ xs) (y ∷ ys) al us rest lines z os' lines' z' h few =
    let r = by_call (λ us lines z h few. calls_trimmed looks w v same xs ys al.1 us rest lines z os' lines' z' h few) (call_in y.event) us h few in
    (r.0, subst (λ (c : Option Call). NoteMeets v c us lines z (λ o l d. CallsMeet v xs o l d r.0 lines' z')) (ap call_in (sym (al.0).event)) r.1, r.2, r.3)
  where
    head_same : (a b : Outcome) (acts bs : List Outcome) → a ∷ acts ≡ b ∷ bs → b ≡ a
    head_same a b acts bs e = cc

    tail_same : (a b : Outcome) (acts bs : List Outcome) → a ∷ acts ≡ b ∷ bs → bs ≡ acts
    tail_same a b acts bs e = cc

    by_call : ((us : List Outcome) (lines : List AnswerLine) (z : Midst) → CallsMeet w ys (us ++ rest) lines z os' lines' z' → new_calls ys ≤ length us
        → (us' : List Outcome) × CallsMeet v xs us lines z us' lines' z' × (os' ≡ us' ++ rest) × (length us ≡ new_calls ys + length us'))
        → (c : Option Call) (us : List Outcome) → NoteMeets w c (us ++ rest) lines z (λ o l d. CallsMeet w ys o l d os' lines' z') → one_if c + new_calls ys ≤ length us
        → (us' : List Outcome) × NoteMeets v c us lines z (λ o l d. CallsMeet v xs o l d us' lines' z') × (os' ≡ us' ++ rest) × (length us ≡ (one_if c + new_calls ys) + length us')
    by_call on None us h few = let r = on us lines z h (omega (arith, few)) in (r.0, r.1, r.2, omega (arith, r.3))
    by_call on (Some call) [] h few = let no_way : ⊥ = omega (arith, few) in absurd no_way
    by_call on (Some call) (u ∷ us) h few =
        let first : h.0 ≡ u = head_same u h.0 (us ++ rest) h.1 h.4 in
        let others : h.1 ≡ us ++ rest = tail_same u h.0 (us ++ rest) h.1 h.4 in
        let r = on us h.2 h.3 (subst (λ (os : List Outcome). CallsMeet w ys os h.2 h.3 os' lines' z') others h.6) (omega (arith, few)) in
        let meets : Meets v call.import call.args lines z u h.2 h.3 =
        meets_same w v same call.import call.args lines z u h.2 h.3 (subst (λ (o : Outcome). Meets w call.import call.args lines z o h.2 h.3) first h.5) in
        (r.0, (u, us, h.2, h.3, refl, meets, r.1), r.2, omega (arith, r.3))

-- ---- rows

-- A program w in the place of an original, and their actors: the same due tick and answers left, notes of which one shows what the other
-- does, outcomes that are those that the calls meet, and they wait at one place.
pub record Row (o : Original) (w : Program) (a b : Actor) : Type 0 where
  pub calls : SameCalls w o.program
  pub looks : w.looks ≡ o.program.looks
  pub due : b.due ≡ a.due
  pub answers : b.answers ≡ a.answers
  pub notes : AllSeen w.looks b.notes a.notes
  pub rest : List Outcome
  pub outcomes : a.outcomes ≡ b.outcomes ++ rest
  pub count : length b.outcomes ≡ new_calls a.notes
  pub parked : SameParked w.looks b.parked a.parked

-- Each program and its original, and their actors.
pub record Rows (os : List Original) (ws : List Program) (acts bs : List Actor) : Type 0 where
  pub originals : length os ≡ length ws
  pub long : length acts ≡ length ws
  pub wide : length bs ≡ length acts
  pub each : (i : ℕ) (o : Original) (w : Program) (a b : Actor) → slice_get os i ≡ Some o → slice_get ws i ≡ Some w → slice_get acts i ≡ Some a → slice_get bs i ≡ Some b → Row o w a b

pub no_rows : Rows [] [] [] []
no_rows = record { originals = refl; long = refl; wide = refl; each = λ i o w a b eo ew ea eb. absurd cc }

pub one_more_row : (o : Original) (os : List Original) (w : Program) (ws : List Program) (a : Actor) (acts : List Actor) (b : Actor) (bs : List Actor) → Row o w a b → Rows os ws acts bs
    → Rows (o ∷ os) (w ∷ ws) (a ∷ acts) (b ∷ bs)
one_more_row o os w ws a acts b bs r rows = record { originals = ap suc rows.originals; long = ap suc rows.long; wide = ap suc rows.wide; each = each }
  where
    each : (i : ℕ) (o' : Original) (w' : Program) (a' b' : Actor) → slice_get (o ∷ os) i ≡ Some o' → slice_get (w ∷ ws) i ≡ Some w' → slice_get (a ∷ acts) i ≡ Some a' → slice_get (b ∷ bs) i ≡ Some b'
        → Row o' w' a' b'
    each zero o' w' a' b' eo ew ea eb =
        subst (λ (x : Original). Row x w' a' b') (same_Some o o' eo)
        (subst (λ (x : Program). Row o x a' b') (same_Some w w' ew) (subst (λ (x : Actor). Row o w x b') (same_Some a a' ea) (subst (λ (x : Actor). Row o w a x) (same_Some b b' eb) r)))
    each (suc i) o' w' a' b' eo ew ea eb = rows.each i o' w' a' b' eo ew ea eb

-- the row of a program
abbrev Found : List Original → List Program → List Actor → ℕ → Actor → Type 0
Found os ws bs i a = (o : Original) × (w : Program) × (b : Actor) × (slice_get os i ≡ Some o) × (slice_get ws i ≡ Some w) × (slice_get bs i ≡ Some b) × Row o w a b

row_at : (os : List Original) (ws : List Program) (acts bs : List Actor) → Rows os ws acts bs → (i : ℕ) (a : Actor) → slice_get acts i ≡ Some a → Found os ws bs i a
row_at os ws acts bs rows i a ea =
    let lt = slice_get_within acts i a ea in
    let o = item os i (omega (arith, lt, rows.originals, rows.long)) in
    let w = item ws i (omega (arith, lt, rows.long)) in
    let b = item bs i (omega (arith, lt, rows.wide)) in
    (o.0, w.0, b.0, o.1, w.1, b.1, rows.each i o.0 w.0 a b.0 o.1 w.1 ea b.1)

-- the same from the original's actor
abbrev Back : List Original → List Program → List Actor → ℕ → Actor → Type 0
Back os ws acts i b = (o : Original) × (w : Program) × (a : Actor) × (slice_get acts i ≡ Some a) × Row o w a b

row_back : (os : List Original) (ws : List Program) (acts bs : List Actor) → Rows os ws acts bs → (i : ℕ) (b : Actor) → slice_get bs i ≡ Some b → Back os ws acts i b
row_back os ws acts bs rows i b eb =
    let lt = slice_get_within bs i b eb in
    let o = item os i (omega (arith, lt, rows.originals, rows.long, rows.wide)) in
    let w = item ws i (omega (arith, lt, rows.long, rows.wide)) in
    let a = item acts i (omega (arith, lt, rows.wide)) in
    (o.0, w.0, a.0, a.1, rows.each i o.0 w.0 a.0 b o.1 w.1 a.1 eb)

row_set : (os : List Original) (ws : List Program) (acts bs : List Actor) → Rows os ws acts bs → (i : ℕ) (o : Original) (w : Program) (a b a' b' : Actor) → slice_get os i ≡ Some o → slice_get ws i ≡ Some w
    → slice_get acts i ≡ Some a → slice_get bs i ≡ Some b → Row o w a' b' → Rows os ws (slice_set acts i a') (slice_set bs i b')
row_set os ws acts bs rows i o w a b a' b' eo ew ea eb r = record {
  originals = rows.originals;
  long = length-set acts i a' ∙ rows.long;
  wide = length-set bs i b' ∙ rows.wide ∙ sym (length-set acts i a');
  each = λ j p v c d ep ev ec ed. by j p v c d ep ev ec ed (cases_eq j i);
}
  where
    by : (j : ℕ) (p : Original) (v : Program) (c d : Actor) → slice_get os j ≡ Some p → slice_get ws j ≡ Some v → slice_get (slice_set acts i a') j ≡ Some c → slice_get (slice_set bs i b') j ≡ Some d
        → (j ≡ i) ⊎ (j ≡ i → ⊥) → Row p v c d
    by j p v c d ep ev ec ed (inl same) =
        let e1 : o ≡ p = same_Some o p (sym eo ∙ ap (slice_get os) (sym same) ∙ ep) in
        let e2 : w ≡ v = same_Some w v (sym ew ∙ ap (slice_get ws) (sym same) ∙ ev) in
        let e3 : a' ≡ c = same_Some a' c (sym (set_here acts i a' a ea) ∙ ap (slice_get (slice_set acts i a')) (sym same) ∙ ec) in
        let e4 : b' ≡ d = same_Some b' d (sym (set_here bs i b' b eb) ∙ ap (slice_get (slice_set bs i b')) (sym same) ∙ ed) in
        subst (λ (x : Original). Row x v c d) e1
        (subst (λ (x : Program). Row o x c d) e2 (subst (λ (x : Actor). Row o w x d) e3 (subst (λ (x : Actor). Row o w a' x) e4 r)))
    by j p v c d ep ev ec ed (inr other) = rows.each j p v c d ep ev (sym (set_there acts i j a' other) ∙ ec) (sym (set_there bs i j b' other) ∙ ed)

set_out : (xs : List Actor) (i : ℕ) (x : Actor) → length xs ≤ i → slice_set xs i x ≡ xs
set_out [] i x le = refl
set_out (y ∷ xs) zero x le = let no_way : ⊥ = omega (arith, le) in absurd no_way
set_out (y ∷ xs) (suc i) x le = ap (λ (l : List Actor). y ∷ l) (set_out xs i x (omega (arith, le)))

row_woken : (due : ℕ) (o : Original) (w : Program) (a b : Actor) → Row o w a b → Row o w (woken due a) (woken due b)
row_woken due o w a b r = record {
  calls = r.calls;
  looks = r.looks;
  due = refl;
  answers = r.answers;
  notes = r.notes;
  rest = r.rest;
  outcomes = r.outcomes;
  count = r.count;
  parked = tt;
}

wake_rows : (due : ℕ) (is : List ℕ) (os : List Original) (ws : List Program) (acts bs : List Actor) → Rows os ws acts bs → Rows os ws (wake due is acts) (wake due is bs)
wake_rows due [] os ws acts bs rows = rows
wake_rows due (i ∷ is) os ws acts bs rows =
    wake_rows due is os ws (slice_set acts i (woken due (unwrap_or (slice_get acts i) nobody))) (slice_set bs i (woken due (unwrap_or (slice_get bs i) nobody))) (by (cases_lt i (length acts)))
  where
    by : (i < length acts) ⊎ (length acts ≤ i) → Rows os ws (slice_set acts i (woken due (unwrap_or (slice_get acts i) nobody))) (slice_set bs i (woken due (unwrap_or (slice_get bs i) nobody)))
    by (inl lt) =
        let a = item acts i lt in
        let f = row_at os ws acts bs rows i a.0 a.1 in
        subst (λ (x : Option Actor). Rows os ws (slice_set acts i (woken due (unwrap_or x nobody))) (slice_set bs i (woken due (unwrap_or (slice_get bs i) nobody)))) (sym a.1)
        (subst (λ (x : Option Actor). Rows os ws (slice_set acts i (woken due a.0)) (slice_set bs i (woken due (unwrap_or x nobody)))) (sym f.5)
        (row_set os ws acts bs rows i f.0 f.1 a.0 f.2 (woken due a.0) (woken due f.2) f.3 f.4 a.1 f.5 (row_woken due f.0 f.1 a.0 f.2 f.6)))
    by (inr le) =
        subst (λ (l : List Actor). Rows os ws l (slice_set bs i (woken due (unwrap_or (slice_get bs i) nobody)))) (sym (set_out acts i (woken due (unwrap_or (slice_get acts i) nobody)) le))
        (subst (λ (l : List Actor). Rows os ws acts l) (sym (set_out bs i (woken due (unwrap_or (slice_get bs i) nobody)) (omega (arith, le, rows.wide)))) rows)

-- ---- whose turn it is

row_length : (o : Original) (w : Program) (a b : Actor) → Row o w a b → length b.notes ≡ length a.notes
row_length o w a b r = alike_length w.looks b.notes a.notes (alike_of w.looks b.notes a.notes r.notes)

ready_back : (o : Original) (w : Program) (a b : Actor) → Row o w a b → IsReady b → IsReady a
ready_back o w a b r h =
    let len = row_length o w a b r in
    let some = h.unfinished in
    record { unfinished = omega (arith, len, some); awake = awake_back w.looks b.parked a.parked r.parked h.awake }

next_row : (os : List Original) (ws : List Program) (acts bs : List Actor) → Rows os ws acts bs → (i : ℕ) (o : Original) (w : Program) (a b : Actor) → slice_get bs i ≡ Some b → Row o w a b → IsNext acts i a
    → IsNext bs i b
next_row os ws acts bs rows i o w a b eb r n = record { there = eb; ready = ready; least = least }
  where
    ready : IsReady b
    ready =
        let len = row_length o w a b r in
        let some = n.ready.unfinished in
        record { unfinished = omega (arith, len, some); awake = awake_too w.looks b.parked a.parked r.parked n.ready.awake }

    least : (j : ℕ) (c : Actor) → slice_get bs j ≡ Some c → IsReady c → (b.due < c.due) ⊎ ((b.due ≡ c.due) × (i ≤ j))
    least j c ec h =
        let f = row_back os ws acts bs rows j c ec in
        by f.2 (f.4).due (n.least j f.2 f.3 (ready_back f.0 f.1 f.2 c f.4 h))
      where
        by : (d : Actor) → c.due ≡ d.due → (a.due < d.due) ⊎ ((a.due ≡ d.due) × (i ≤ j)) → (b.due < c.due) ⊎ ((b.due ≡ c.due) × (i ≤ j))
        by d e (inl lt) = inl (let z = r.due in omega (arith, lt, z, e))
        by d e (inr s) = inr (r.due ∙ s.0 ∙ sym e, s.1)

-- ---- events

abbrev programs_of : List Original → List Program
programs_of os = map (λ (o : Original). o.program) os

module _ (os : List Original) (ws : List Program) (acts bs : List Actor) (rows : Rows os ws acts bs) (detaches : List Detach) (number : ℕ) (sh : Shared) (lines : List Line) (acts' : List Actor) (sh' : Shared) where
  -- the same event of the originals, and the rows behind it
  abbrev Beside : Type 0
  Beside = (bs' : List Actor) × Plays (programs_of os) detaches number bs sh lines bs' sh' × Rows os ws acts' bs'

  turn_beside : TakesTurn ws detaches number acts sh lines acts' sh' → Beside
  turn_beside t = by_row (row_at os ws acts bs rows t.i t.a t.next.there)
    where
      by_row : Found os ws bs t.i t.a → Beside
      by_row f = of_row f.0 f.2 f.3 f.5 (subst (λ (x : Program). Row f.0 x t.a f.2) (same_Some f.1 t.w (sym f.4 ∙ t.program)) f.6)
        where
          of_row : (o : Original) (b : Actor) → slice_get os t.i ≡ Some o → slice_get bs t.i ≡ Some b → Row o t.w t.a b → Beside
          of_row o b eo eb r =
              let turn = seen_turn t.w.looks b.notes t.a.notes r.notes in
              let alike = alike_of t.w.looks (turn_of b.notes) (turn_of t.a.notes) turn in
              let split = turn_calls t.a.notes in
              let pause : pauses (turn_of b.notes) ≡ pauses (turn_of t.a.notes) = seen_pauses t.w.looks (turn_of b.notes) (turn_of t.a.notes) turn in
              let parking : parks (turn_of b.notes) t.behind.receive ≡ parks (turn_of t.a.notes) t.behind.receive =
              ap (λ (y : Bool). if y then t.behind.receive else None) pause in
              let calls : CallsMeet t.w (turn_of t.a.notes) (b.outcomes ++ r.rest) b.answers (begun_event number detaches sh) t.outcomes t.answers t.behind =
              subst (λ (ls : List AnswerLine). CallsMeet t.w (turn_of t.a.notes) (b.outcomes ++ r.rest) ls (begun_event number detaches sh) t.outcomes t.answers t.behind) (sym r.answers)
              (subst (λ (xs : List Outcome). CallsMeet t.w (turn_of t.a.notes) xs t.a.answers (begun_event number detaches sh) t.outcomes t.answers t.behind) r.outcomes t.calls) in
              let c = r.count in
              let few : new_calls (turn_of t.a.notes) ≤ length b.outcomes = omega (arith, split, c) in
              let k = calls_trimmed t.w.looks t.w o.program r.calls (turn_of b.notes) (turn_of t.a.notes) turn b.outcomes r.rest b.answers
              (begun_event number detaches sh) t.outcomes t.answers t.behind calls few in
              let a' : Actor = record {
                due = t.a.due + put_off (turn_of t.a.notes);
                notes = behind_turn t.a.notes;
                outcomes = t.outcomes;
                answers = t.answers;
                parked = parked_at (store_behind (turn_of t.a.notes)) (parks (turn_of t.a.notes) t.behind.receive);
              } in
              let b' : Actor = record {
                due = b.due + put_off (turn_of b.notes);
                notes = behind_turn b.notes;
                outcomes = k.0;
                answers = t.answers;
                parked = parked_at (store_behind (turn_of b.notes)) (parks (turn_of b.notes) t.behind.receive);
              } in
              let off = alike_put_off t.w.looks (turn_of b.notes) (turn_of t.a.notes) alike in
              let d = r.due in
              let row : Row o t.w a' b' = record {
                calls = r.calls;
                looks = r.looks;
                due = omega (arith, d, off);
                answers = refl;
                notes = seen_behind t.w.looks b.notes t.a.notes r.notes;
                rest = r.rest;
                outcomes = k.2;
                count = let m = k.3 in omega (arith, split, c, m);
                parked = subst (λ (q : Option Receive). SameParked t.w.looks (parked_at (store_behind (turn_of b.notes)) q) (parked_at (store_behind (turn_of t.a.notes)) (parks (turn_of t.a.notes) t.behind.receive)))
                    (sym parking)
                    (both_park t.w.looks (store_behind (turn_of b.notes)) (store_behind (turn_of t.a.notes)) (parks (turn_of t.a.notes) t.behind.receive)
                    (seen_store t.w.looks (turn_of b.notes) (turn_of t.a.notes) turn));
              } in
              let rows' : Rows os ws (wake (suc t.a.due) t.behind.settled (slice_set acts t.i a')) (wake (suc t.a.due) t.behind.settled (slice_set bs t.i b')) =
              wake_rows (suc t.a.due) t.behind.settled os ws (slice_set acts t.i a') (slice_set bs t.i b')
              (row_set os ws acts bs rows t.i o t.w t.a b a' b' eo t.program t.next.there eb row) in (
                wake (suc b.due) t.behind.settled (slice_set bs t.i b'),
                a_turn (record {
                  i = t.i;
                  a = b;
                  w = o.program;
                  next = next_row os ws acts bs rows t.i o t.w t.a b eb r t.next;
                  program = map_at (λ (p : Original). p.program) os t.i o eo;
                  outcomes = k.0;
                  answers = t.answers;
                  behind = t.behind;
                  calls = k.1;
                  made = t.made
                      ∙ ap (λ (es : List Event). map (λ (e : Event). line_at t.a.due t.i (told_pause (parks (turn_of t.a.notes) t.behind.receive) e)) es)
                      (sym (alike_events t.w.looks (turn_of b.notes) (turn_of t.a.notes) alike))
                      ∙ (λ j. map (λ (e : Event). line_at (sym r.due j) t.i (told_pause (sym parking j) e)) (events_with_looks (r.looks j) (turn_of b.notes)));
                  after = refl;
                  shared = t.shared
                      ∙ (λ j. record { devices = t.behind.devices; boxes = with_waiting t.i (sym parking j) t.behind.boxes; tick = sym r.due j });
                }),
                subst (λ (xs : List Actor). Rows os ws xs (wake (suc b.due) t.behind.settled (slice_set bs t.i b'))) (sym t.after)
                    (subst (λ (n : ℕ). Rows os ws (wake (suc t.a.due) t.behind.settled (slice_set acts t.i a')) (wake (suc n) t.behind.settled (slice_set bs t.i b'))) (sym r.due) rows'),
              )

  stall_beside : Stalls ws detaches number acts sh lines acts' sh' → Beside
  stall_beside s = by_row (row_at os ws acts bs rows s.i s.a s.there)
    where
      none_more : (looks : List Look) (xs ys : List Note) → AllSeen looks xs ys → ys ≡ [] → xs ≡ []
      none_more looks [] ys h e = refl
      none_more looks (x ∷ xs) [] h e = absurd h
      none_more looks (x ∷ xs) (y ∷ ys) h e = cc

      by_row : Found os ws bs s.i s.a → Beside
      by_row f = of_row f.0 f.2 f.3 f.5 (subst (λ (x : Program). Row f.0 x s.a f.2) (same_Some f.1 s.w (sym f.4 ∙ s.program)) f.6)
        where
          of_row : (o : Original) (b : Actor) → slice_get os s.i ≡ Some o → slice_get bs s.i ≡ Some b → Row o s.w s.a b → Beside
          of_row o b eo eb r =
              let at = waits_too s.w.looks b.parked s.a.parked s.at r.parked s.waits in
              let row : Row o s.w (record s.a { parked = None }) (record b { parked = None }) = record {
                calls = r.calls;
                looks = r.looks;
                due = r.due;
                answers = r.answers;
                notes = r.notes;
                rest = r.rest;
                outcomes = r.outcomes;
                count = r.count;
                parked = tt;
              } in (
                slice_set bs s.i (record b { parked = None }),
                a_stall (record {
                  i = s.i;
                  a = b;
                  w = o.program;
                  at = at.0;
                  there = eb;
                  program = map_at (λ (p : Original). p.program) os s.i o eo;
                  waits = at.1;
                  no_more = none_more s.w.looks b.notes s.a.notes r.notes s.no_more;
                  none_ready = λ j c ec h. let g = row_back os ws acts bs rows j c ec in s.none_ready j g.2 g.3 (ready_back g.0 g.1 g.2 c g.4 h);
                  first = λ j c p ec e. let g = row_back os ws acts bs rows j c ec in let q = waits_back (g.1).looks c.parked (g.2).parked p (g.4).parked e in s.first j g.2 q.0 g.3 q.1;
                  made = s.made
                      ∙ ap (λ (n : ℕ). map (line_at sh.tick s.i) (ended (Stalled n) ∷ look_events s.at.store s.w.looks)) (sym at.2)
                      ∙ ap (λ (es : List Event). map (line_at sh.tick s.i) (ended (Stalled (at.0).import) ∷ es)) (sym at.3)
                      ∙ ap (λ (ls : List Look). map (line_at sh.tick s.i) (ended (Stalled (at.0).import) ∷ look_events (at.0).store ls)) r.looks;
                  after = refl;
                  shared = s.shared;
                }),
                subst (λ (xs : List Actor). Rows os ws xs (slice_set bs s.i (record b { parked = None }))) (sym s.after)
                    (row_set os ws acts bs rows s.i o s.w s.a b (record s.a { parked = None }) (record b { parked = None }) eo s.program s.there eb row),
              )

  event_beside : Plays ws detaches number acts sh lines acts' sh' → Beside
  event_beside (a_turn t) = turn_beside t
  event_beside (a_stall s) = stall_beside s

pub events_beside : (os : List Original) (ws : List Program) (detaches : List Detach) (number : ℕ) (acts bs : List Actor) (sh : Shared) (lines : List Line) (last : List Actor) (end : Shared)
    → Rows os ws acts bs → Events ws detaches number acts sh lines last end → (last' : List Actor) × Events (programs_of os) detaches number bs sh lines last' end × Rows os ws last last'
events_beside os ws detaches number acts bs sh lines last end rows no_event = (bs, no_event, rows)
events_beside os ws detaches number acts bs sh lines last end rows (an_event {actors' = next} {sh' = z} {lines = first} {more = more} play rest e) =
    let p = event_beside os ws acts bs rows detaches number sh first next z play in
    let on = events_beside os ws detaches (suc number) next p.0 z more last end p.2 rest in
    (on.0, an_event p.1 on.1 e, on.2)

-- where one world is over the other is
pub over_beside : (os : List Original) (ws : List Program) (acts bs : List Actor) → Rows os ws acts bs → IsOver acts → IsOver bs
over_beside os ws acts bs rows over k d within =
    let b : Actor = get_or bs k d in
    let f = row_back os ws acts bs rows k b (slice_get-get_or bs k d within) in
    let h = all_at HasEnded acts k f.2 over f.3 in
    let len = row_length f.0 f.1 f.2 b f.4 in
    let none : length (f.2).notes ≡ 0 = ap length h.no_notes in
    record { no_notes = empty b.notes (len ∙ none); awake = awake_too (f.1).looks b.parked (f.2).parked (f.4).parked h.awake }
  where
    empty : (xs : List Note) → length xs ≡ 0 → xs ≡ []
    empty [] e = refl
    empty (x ∷ xs) e = let no_way : ⊥ = omega (arith, e) in absurd no_way
