-- The lines that a host of strands has told hold as many turns as have begun, once none is on its way.
use Rattle.std.proofs.Common.{◌≡◌, inl, inr, ℕ, zero, suc, ◌+◌, List, [], ◌∷◌, ◌++◌, map, drop, Bool, true, false, if◌then◌else◌, MatchBool, refl, sym, ap, ◌∙◌, arith, add_assoc}
use Rattle.std.proofs.lemmas.List.{map-append}
use Rattle.wa_model.specs.declared.answers.Detach.{Detach}
use Rattle.wa_model.specs.Outside.{Event, called, answered, paused, parked, returned, ended, shown}
use Rattle.wa_model.specs.Blocking.{Note, events_of}
use Rattle.world_model.specs.World.{Device, Look, ends_turn, events_with_looks, looks_after}
use Rattle.many_host.specs.Standing.{looks_at}
use Rattle.event_order.specs.Looks.{looks_of}
use Rattle.strand_laws.specs.StrandNotes.{TellsOnStrands}
use Rattle.strand_laws.specs.StrandWorld.{StrandLine, StrandsInWorld, looks_if}
use Rattle.strand_laws.specs.ToldStrands.{EndsOnce, ProgramTeller, TellsStrands, line_of}
use Rattle.strand_laws.specs.Weaving.{EndNoTurn}
use Rattle.strand_host.specs.declared.host.StrandHost.{StrandHost}
use Rattle.strand_host.specs.declared.turn_taking.Stage.{Stage}
use Rattle.strand_host.specs.declared.turn_taking.Stage.TheVariants.{Between, Telling, Showing}
use Rattle.strand_host.specs.StrandCalls.{BegunWith}
use Rattle.strand_host.specs.StrandHosts.{StrandHostTold}
use Rattle.strand_host.specs.StrandPrograms.{memory_of}
use Rattle.strand_host.specs.StrandStanding.{AreLooksOut, StrandsStandAt, hosted_of, shown_lines}
use Rattle.world_hosting.specs.Counts.{IsBegunBy, closes}
use Rattle.script_command.specs.StrandCounts.{strand_turn_count}

pub strand_turns_append : (front bs : List StrandLine) → strand_turn_count (front ++ bs) ≡ strand_turn_count front + strand_turn_count bs
strand_turns_append [] bs = let e : strand_turn_count bs ≡ 0 + strand_turn_count bs = omega arith in e
strand_turns_append (a ∷ front) bs =
    ap (λ (n : ℕ). closes ends_turn a.event + n) (strand_turns_append front bs) ∙ sym (add_assoc (closes ends_turn a.event) (strand_turn_count front) (strand_turn_count bs))

-- ---- one turn

module _ (due p k : ℕ) where
  abbrev lines_of : List Event → List StrandLine
  lines_of es = map (line_of due p k) es

  memory_none : (memory : List ℕ) (looks : List Look) → strand_turn_count (lines_of (looks_at memory looks)) ≡ 0
  memory_none memory [] = refl
  memory_none memory (x ∷ xs) = ap (λ (n : ℕ). 0 + n) (memory_none memory xs)

  looks_none : (looks : List Look) (x : Note) (e : Event) → strand_turn_count (lines_of (looks_after looks x e)) ≡ 0
  looks_none looks x (called call) = refl
  looks_none looks x (answered value) = refl
  looks_none looks x (paused ticks used) = refl
  looks_none looks x (returned entry value) = refl
  looks_none looks x (ended how) = memory_none x.store.memory looks
  looks_none looks x (parked used) = refl
  looks_none looks x (shown at bytes) = refl

  turn_once : (looks : List Look) (turn : List Note) → EndsOnce turn → strand_turn_count (lines_of (events_with_looks looks turn)) ≡ 1
  turn_once looks [] h = absurd h
  turn_once looks (x ∷ xs) h =
      let parts : strand_turn_count (lines_of (events_with_looks looks (x ∷ xs)))
      ≡ strand_turn_count (lines_of (x.event ∷ looks_after looks x x.event)) + strand_turn_count (lines_of (events_with_looks looks xs)) =
      ap strand_turn_count (map-append (line_of due p k) (x.event ∷ looks_after looks x x.event) (events_with_looks looks xs))
      ∙ strand_turns_append (lines_of (x.event ∷ looks_after looks x x.event)) (lines_of (events_with_looks looks xs)) in
      let first : strand_turn_count (lines_of (x.event ∷ looks_after looks x x.event)) ≡ closes ends_turn x.event + 0 =
      ap (λ (n : ℕ). closes ends_turn x.event + n) (looks_none looks x x.event) in
      let one : closes ends_turn x.event + strand_turn_count (lines_of (events_with_looks looks xs)) ≡ 1 = by (ends_turn x.event) h (turn_once looks xs) in
      omega (arith, parts, first, one)
    where
      by : (b : Bool) → MatchBool b (xs ≡ []) (EndsOnce xs) → (EndsOnce xs → strand_turn_count (lines_of (events_with_looks looks xs)) ≡ 1)
          → (if b then 1 else 0) + strand_turn_count (lines_of (events_with_looks looks xs)) ≡ 1
      by true e on = ap (λ (l : List Note). 1 + strand_turn_count (lines_of (events_with_looks looks l))) e
      by false m on = ap (λ (n : ℕ). 0 + n) (on m)

  -- notes that go on end none
  goes_none : (turn : List Note) → EndNoTurn turn → strand_turn_count (lines_of (events_of turn)) ≡ 0
  goes_none [] h = refl
  goes_none (x ∷ xs) h = by (ends_turn x.event) h.0 (goes_none xs h.1) where
    by : (b : Bool) → b ≡ false → strand_turn_count (lines_of (events_of xs)) ≡ 0 → (if b then 1 else 0) + strand_turn_count (lines_of (events_of xs)) ≡ 0
    by true e z = absurd cc
    by false e z = ap (λ (n : ℕ). 0 + n) z

-- ---- so many turns

turns_told : (gs : List StrandsInWorld) (detaches : List Detach) (ds : List Device) (count : ℕ) (lines : List StrandLine) (tellers : List ProgramTeller) (ds' : List Device)
    → TellsStrands gs detaches ds count lines tellers ds' → strand_turn_count lines ≡ count
turns_told gs detaches ds zero lines tellers ds' h = ap strand_turn_count h.0
turns_told gs detaches ds (suc count) lines tellers ds' h =
    let before = turns_told gs detaches ds count h.0 h.2 h.3 h.4 in
    let play = h.5 in
    let one : strand_turn_count h.1 ≡ 1 = ap strand_turn_count play.made ∙ turn_once play.s.due play.program play.strand (looks_if play.is_last play.g.looks) play.turn play.whole in
    let all : strand_turn_count lines ≡ strand_turn_count h.0 + strand_turn_count h.1 = ap strand_turn_count h.6 ∙ strand_turns_append h.0 h.1 in
    omega (arith, before, one, all)

turns_on : (gs : List StrandsInWorld) (detaches : List Detach) (ds : List Device) (number p k due : ℕ) (lines : List StrandLine) (tellers : List ProgramTeller) (ds' : List Device)
    → TellsOnStrands gs detaches ds number p k due lines tellers ds' → strand_turn_count lines ≡ number
turns_on gs detaches ds number p k due lines tellers ds' on =
    let whole = turns_told gs detaches ds number on.before on.mid on.es on.whole in
    let parts = ap strand_turn_count on.made ∙ strand_turns_append on.before (map (line_of due p k) (events_of on.turn)) in
    let none = goes_none due p k on.turn on.goes_on in
    omega (arith, whole, parts, none)

module _ (gs : List StrandsInWorld) (detaches : List Detach) (ds : List Device) (lines : List StrandLine) (h : StrandHost) (ds' : List Device)
    (told : StrandHostTold gs detaches ds lines h ds') where
  abbrev Stands : Stage → Type 0
  Stands stage = StrandsStandAt memory_of gs detaches ds lines told.tellers (hosted_of h.turns) ds' stage

  own_turns : (stage : Stage) → Stands stage → AreLooksOut h.turns.shows.items stage → strand_turn_count lines ≡ h.turns.begun
  own_turns Between at none = turns_told gs detaches ds h.turns.begun lines told.tellers ds' at
  own_turns (Telling turn) at none = absurd none
  own_turns (Showing turn from) at none =
      let looks : List Look = looks_of turn.program (drop from h.turns.shows.items) in
      let whole = turns_told gs detaches ds h.turns.begun (lines ++ shown_lines turn.due turn.program (memory_of at.0) from h.turns.shows.items) told.tellers ds' at.2 in
      let parts = strand_turns_append lines (shown_lines turn.due turn.program (memory_of at.0) from h.turns.shows.items) in
      let shown_none = memory_none turn.due turn.program 0 (memory_of at.0) looks in
      omega (arith, whole, parts, shown_none)

  pub strand_turns_begun : AreLooksOut h.turns.shows.items h.turns.stage → strand_turn_count lines ≡ h.turns.begun
  strand_turns_begun out = own_turns h.turns.stage told.at out

  -- so many events have begun by the next line
  pub strand_begun_next : (n : ℕ) (e : Event) → BegunWith h.turns.stage h.turns.begun n e → IsBegunBy h.turns.begun (0 + strand_turn_count lines) e n
  strand_begun_next n e next = by h.turns.stage told.at next where
    by : (stage : Stage) → Stands stage → BegunWith stage h.turns.begun n e → IsBegunBy h.turns.begun (0 + strand_turn_count lines) e n
    by Between at is =
        let ended = turns_told gs detaches ds h.turns.begun lines told.tellers ds' at in
        inl (omega (arith, ended, is))
    by (Telling turn) at is =
        let ended = turns_on gs detaches ds at.0 turn.program at.1 turn.due lines told.tellers ds' at.3 in
        let one_more = at.2 in
        inl (omega (arith, ended, one_more, is))
    by (Showing turn from) at is =
        let looks : List Look = looks_of turn.program (drop from h.turns.shows.items) in
        let whole = turns_told gs detaches ds h.turns.begun (lines ++ shown_lines turn.due turn.program (memory_of at.0) from h.turns.shows.items) told.tellers ds' at.2 in
        let parts = strand_turns_append lines (shown_lines turn.due turn.program (memory_of at.0) from h.turns.shows.items) in
        let shown_none = memory_none turn.due turn.program 0 (memory_of at.0) looks in
        let ended : h.turns.begun ≡ 0 + strand_turn_count lines = omega (arith, whole, parts, shown_none) in
        elim is [ inl begins ↦ inl (omega (arith, ended, begins)) | inr stays ↦ inr (stays.0 ∙ ended, ended, stays.1) ]
