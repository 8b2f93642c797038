-- The lines that a host has told hold as many turns as have begun, once none is on its way.
use Rattle.std.proofs.Common.{◌≡◌, inl, inr, ℕ, zero, suc, ◌+◌, List, [], ◌∷◌, ◌++◌, map, drop, Bool, true, false, if◌then◌else◌, MatchBool, refl, sym, ap, ◌∙◌, arith, add_assoc}
use Rattle.std.proofs.lemmas.List.{map-append}
use Rattle.wa_model.specs.declared.answers.Detach.{Detach}
use Rattle.wa_model.specs.Outside.{Event, called, answered, paused, parked, returned, ended, shown, Line}
use Rattle.wa_model.specs.Blocking.{Note, events_of}
use Rattle.world_model.specs.World.{Device, Look, Program, ends_turn, events_with_looks, line_at, looks_after}
use Rattle.event_order.specs.Looks.{looks_of}
use Rattle.many_host.specs.Notes.{GoesOn, TellsOnFrom}
use Rattle.many_host.specs.Turns.{EndsOnce, Teller, TellsFrom, behind, since}
use Rattle.many_host.specs.declared.turn_taking.Stage.{Stage}
use Rattle.many_host.specs.declared.turn_taking.Stage.TheVariants.{Between, Telling, Showing}
use Rattle.many_host.specs.Calls.{BegunBy}
use Rattle.many_host.specs.Standing.{LooksOut, StandsAtFrom, held_of, looks_at}
use Rattle.many_host.specs.declared.host.Host.{Host}
use Rattle.many_host.specs.Hosts.{HostToldFrom, memory_of}
use Rattle.many_host.proofs.Numbers.{sum_behind}
use Rattle.world_hosting.specs.Counts.{IsBegunBy, turns_at}
use Rattle.world_hosting.specs.Worlds.{turn_count}

pub turns_append : (front bs : List Line) → turn_count (front ++ bs) ≡ turn_count front + turn_count bs
turns_append [] bs = let e : turn_count bs ≡ 0 + turn_count bs = omega arith in e
turns_append (a ∷ front) bs = ap (λ (n : ℕ). turns_at a.event + n) (turns_append front bs) ∙ sym (add_assoc (turns_at a.event) (turn_count front) (turn_count bs))

-- ---- one turn

module _ (due i : ℕ) where
  abbrev lines_of : List Event → List Line
  lines_of es = map (line_at due i) es

  memory_none : (memory : List ℕ) (looks : List Look) → turn_count (lines_of (looks_at memory looks)) ≡ 0
  memory_none memory [] = refl
  memory_none memory (k ∷ ks) = ap (λ (n : ℕ). 0 + n) (memory_none memory ks)

  looks_none : (looks : List Look) (x : Note) (e : Event) → turn_count (lines_of (looks_after looks x e)) ≡ 0
  looks_none looks x (called call) = refl
  looks_none looks x (answered value) = refl
  looks_none looks x (paused ticks used) = refl
  looks_none looks x (returned entry value) = refl
  looks_none looks x (ended how) = memory_none x.store.memory looks
  looks_none looks x (parked used) = refl
  looks_none looks x (shown at bytes) = refl

  turn_once : (looks : List Look) (turn : List Note) → EndsOnce turn → turn_count (lines_of (events_with_looks looks turn)) ≡ 1
  turn_once looks [] h = absurd h
  turn_once looks (x ∷ xs) h =
      let parts : turn_count (lines_of (events_with_looks looks (x ∷ xs))) ≡ turn_count (lines_of (x.event ∷ looks_after looks x x.event)) + turn_count (lines_of (events_with_looks looks xs)) =
      ap turn_count (map-append (line_at due i) (x.event ∷ looks_after looks x x.event) (events_with_looks looks xs))
      ∙ turns_append (lines_of (x.event ∷ looks_after looks x x.event)) (lines_of (events_with_looks looks xs)) in
      let first : turn_count (lines_of (x.event ∷ looks_after looks x x.event)) ≡ turns_at x.event + 0 = ap (λ (n : ℕ). turns_at x.event + n) (looks_none looks x x.event) in
      let one : turns_at x.event + turn_count (lines_of (events_with_looks looks xs)) ≡ 1 = by (ends_turn x.event) h (turn_once looks xs) in
      omega (arith, parts, first, one)
    where
      by : (b : Bool) → MatchBool b (xs ≡ []) (EndsOnce xs) → (EndsOnce xs → turn_count (lines_of (events_with_looks looks xs)) ≡ 1)
          → (if b then 1 else 0) + turn_count (lines_of (events_with_looks looks xs)) ≡ 1
      by true e on = ap (λ (l : List Note). 1 + turn_count (lines_of (events_with_looks looks l))) e
      by false m on = ap (λ (n : ℕ). 0 + n) (on m)

  -- notes that go on end none
  goes_none : (turn : List Note) → GoesOn turn → turn_count (lines_of (events_of turn)) ≡ 0
  goes_none [] h = refl
  goes_none (x ∷ xs) h = by (ends_turn x.event) h.0 (goes_none xs h.1) where
    by : (b : Bool) → b ≡ false → turn_count (lines_of (events_of xs)) ≡ 0 → (if b then 1 else 0) + turn_count (lines_of (events_of xs)) ≡ 0
    by true e z = absurd cc
    by false e z = ap (λ (n : ℕ). 0 + n) z

-- ---- so many turns

turns_told : (earlier : ℕ) (programs : List Program) (detaches : List Detach) (ds : List Device) (count : ℕ) (lines : List Line) (tellers : List Teller) (ds' : List Device)
    → TellsFrom earlier programs detaches ds count lines tellers ds' → turn_count lines ≡ count
turns_told earlier programs detaches ds zero lines tellers ds' h = ap turn_count h.0
turns_told earlier programs detaches ds (suc count) lines tellers ds' h =
    let before = turns_told earlier programs detaches ds count h.0 h.2 h.3 h.4 in
    let play = h.5 in
    let one : turn_count h.1 ≡ 1 = ap turn_count play.made ∙ turn_once play.t.due play.i play.w.looks play.turn play.whole in
    let all : turn_count lines ≡ turn_count h.0 + turn_count h.1 = ap turn_count h.6 ∙ turns_append h.0 h.1 in
    omega (arith, before, one, all)

turns_on : (earlier : ℕ) (programs : List Program) (detaches : List Detach) (ds : List Device) (number i due : ℕ) (lines : List Line) (tellers : List Teller) (ds' : List Device)
    → TellsOnFrom earlier programs detaches ds number i due lines tellers ds' → turn_count lines ≡ number
turns_on earlier programs detaches ds number i due lines tellers ds' on =
    let whole = turns_told earlier programs detaches ds number on.before on.mid on.es on.whole in
    let parts = ap turn_count on.made ∙ turns_append on.before (map (line_at due i) (events_of on.turn)) in
    let none = goes_none due i on.turn on.goes_on in
    omega (arith, whole, parts, none)

module _ (earlier : ℕ) (programs : List Program) (detaches : List Detach) (ds : List Device) (lines : List Line) (h : Host) (ds' : List Device)
    (told : HostToldFrom earlier programs detaches ds lines h ds') where
  -- how many of its turns have begun
  abbrev own : ℕ
  own = since earlier h.turns.begun

  own_turns : (stage : Stage) → StandsAtFrom earlier memory_of programs detaches ds lines told.tellers (held_of h.turns) ds' stage → LooksOut h.turns.shows.items stage → turn_count lines ≡ own
  own_turns Between at none = turns_told earlier programs detaches ds own lines told.tellers ds' at
  own_turns (Telling turn) at none = absurd none
  own_turns (Showing turn from) at none =
      let looks : List Look = looks_of turn.program (drop from h.turns.shows.items) in
      let whole = turns_told earlier programs detaches ds own (lines ++ map (line_at turn.due turn.program) (looks_at (memory_of at.0) looks)) told.tellers ds' at.2 in
      let parts = turns_append lines (map (line_at turn.due turn.program) (looks_at (memory_of at.0) looks)) in
      let shown_none = memory_none turn.due turn.program (memory_of at.0) looks in
      omega (arith, whole, parts, shown_none)

  pub turns_begun : LooksOut h.turns.shows.items h.turns.stage → behind earlier (turn_count lines) ≡ h.turns.begun
  turns_begun out = ap (behind earlier) (own_turns h.turns.stage told.at out) ∙ told.begun_is

  -- so many events have begun by the next line
  pub begun_next : (n : ℕ) (e : Event) → BegunBy h.turns.stage h.turns.begun n e → IsBegunBy h.turns.begun (earlier + turn_count lines) e n
  begun_next n e next = by h.turns.stage told.at next where
    sum : earlier + own ≡ h.turns.begun
    sum = sym (sum_behind earlier own) ∙ told.begun_is

    by : (stage : Stage) → StandsAtFrom earlier memory_of programs detaches ds lines told.tellers (held_of h.turns) ds' stage → BegunBy stage h.turns.begun n e
        → IsBegunBy h.turns.begun (earlier + turn_count lines) e n
    by Between at is =
        let ended = turns_told earlier programs detaches ds own lines told.tellers ds' at in
        inl (omega (arith, ended, is, sum))
    by (Telling turn) at is =
        let ended = turns_on earlier programs detaches ds at.0 turn.program turn.due lines told.tellers ds' at.2 in
        let one_more = at.1 in
        inl (omega (arith, ended, one_more, is, sum))
    by (Showing turn from) at is =
        let looks : List Look = looks_of turn.program (drop from h.turns.shows.items) in
        let whole = turns_told earlier programs detaches ds own (lines ++ map (line_at turn.due turn.program) (looks_at (memory_of at.0) looks)) told.tellers ds' at.2 in
        let parts = turns_append lines (map (line_at turn.due turn.program) (looks_at (memory_of at.0) looks)) in
        let shown_none = memory_none turn.due turn.program (memory_of at.0) looks in
        let ended : h.turns.begun ≡ earlier + turn_count lines = omega (arith, whole, parts, shown_none, sum) in
        elim is [ inl begins ↦ inl (omega (arith, ended, begins)) | inr stays ↦ inr (stays.0 ∙ ended, ended, stays.1) ]
