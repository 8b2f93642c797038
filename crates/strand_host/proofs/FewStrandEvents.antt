-- How many events begin among programs with strands: fewer than 2^40.
use Rattle.std.proofs.Common.{arith, ◌≡◌, ◌≤◌, ◌<◌, ℕ, zero, suc, ◌+◌, ◌*◌, ◌^◌, List, [], ◌∷◌, ◌++◌, length, length-append, map, Option, Some, Bool, true, false, slice_get, slice_set, refl, ap}
use Rattle.std.proofs.lemmas.Option.{slice_get_within}
use Rattle.wa_model.specs.declared.answers.Detach.{Detach}
use Rattle.wa_model.specs.Blocking.{Note}
use Rattle.world_model.specs.World.{Device}
use Rattle.world_laws.proofs.Places.{item}
use Rattle.event_order.specs.declared.turns.Turn.{Turn}
use Rattle.strand_laws.specs.StrandWorld.{StrandLine, StrandsInWorld}
use Rattle.strand_laws.specs.ToldStrands.{EndsOnce, ProgramTeller, TellsStrandTurn, TellsStrands, having_told, met_and, starting, told_on}
use Rattle.strand_laws.specs.Woven.{told_by}
use Rattle.strand_laws.proofs.StoryLengths.{most_told, story_length}
use Rattle.strand_host.specs.declared.turn_taking.Stage.TheVariants.{Between}
use Rattle.strand_host.specs.StrandStanding.{Hosted, IsPlace, StrandsStanding, stage_behind}
use Rattle.strand_host.specs.StrandTelling.{IsToldSo}
use Rattle.wa_model.specs.Outside.{Event, answered, called, ended, parked, paused, returned, shown}

-- ---- notes that are told

-- how many notes the programs have told
abbrev notes_told : List ProgramTeller → ℕ
notes_told [] = 0
notes_told (t ∷ ts) = length t.told + notes_told ts

none_told : (gs : List StrandsInWorld) → notes_told (map starting gs) ≡ 0
none_told [] = refl
none_told (g ∷ gs) = let rest = none_told gs in omega (arith, rest)

set_told : (ts : List ProgramTeller) (i : ℕ) (t t' : ProgramTeller) → slice_get ts i ≡ Some t → notes_told (slice_set ts i t') + length t.told ≡ notes_told ts + length t'.told
set_told [] i t t' e = cc
set_told (u ∷ ts) zero t t' e =
    let same : u ≡ t = cc in
    let long = ap (λ (z : ProgramTeller). length z.told) same in
    omega (arith, long)
set_told (u ∷ ts) (suc i) t t' e = let rest = set_told ts i t t' e in omega (arith, rest)

-- a whole turn has a note at least
some_note : (k : ℕ) (xs : List Note) → EndsOnce xs → 0 < length (told_by k xs)
some_note k [] h = absurd h
some_note k (x ∷ xs) h = omega arith

-- each event has told one at least
events_told : (gs : List StrandsInWorld) (detaches : List Detach) (ds : List Device) (count : ℕ) (lines : List StrandLine) (tellers : List ProgramTeller) (ds' : List Device)
    → TellsStrands gs detaches ds count lines tellers ds' → count ≤ notes_told tellers
events_told gs detaches ds zero lines tellers ds' h = omega arith
events_told gs detaches ds (suc count) lines tellers ds' h =
    let mid = h.2 in
    let x : TellsStrandTurn gs detaches (suc count) mid h.3 h.1 tellers ds' = h.5 in
    let before = events_told gs detaches ds count h.0 mid h.3 h.4 in
    let now = told_on x.t x.strand (having_told x.s x.turn x.met x.answers) x.turn x.is_last in
    let set = set_told mid x.program x.t now x.there in
    let more = length-append x.t.told (told_by x.strand x.turn) in
    let one = some_note x.strand x.turn x.whole in
    let all = ap notes_told x.after in
    omega (arith, before, set, more, one, all)

-- ---- no more than this

with_steps : StrandsInWorld → ℕ → StrandsInWorld
with_steps g n = record { program = g.program; steps = n; answers = g.answers; binds = g.binds; looks = g.looks }

few_by : (g : StrandsInWorld) (n : ℕ) → length g.program.strands ≤ 16 → most_told (record { program = g.program; steps = n; answers = g.answers; binds = g.binds; looks = g.looks }) ≤ 22 + 21 * n
few_by g zero few = omega (arith, few)
few_by g (suc n) few = let rest = few_by g n few in omega (arith, rest, few)

few_notes : (g : StrandsInWorld) (t : ProgramTeller) (due : Option ℕ) → IsToldSo g t due → length t.told ≤ 21000000022
few_notes g t due so =
    let r = so.story.begins [] in
    let most = story_length g (met_and t.strands []) (t.told ++ r.0) r.1 in
    let few = few_by g g.steps so.few in
    let sum = length-append t.told r.0 in
    omega (arith, most, few, sum, so.few_steps)

few_of_each : (ts : List ProgramTeller) → ((i : ℕ) (t : ProgramTeller) → slice_get ts i ≡ Some t → length t.told ≤ 21000000022) → notes_told ts ≤ length ts * 21000000022
few_of_each [] each = omega arith
few_of_each (t ∷ ts) each =
    let first : length t.told ≤ 21000000022 = each 0 t refl in
    let rest = few_of_each ts (λ i. each (suc i)) in
    omega (arith, first, rest)

-- Behind whole turns fewer than 2^40 events have begun.
pub few_events : {X : Type 0} (follows : X → StrandsInWorld → ProgramTeller → Type 0) (due_at : X → Option ℕ) (memory : X → List ℕ)
    (so : (x : X) (g : StrandsInWorld) (t : ProgramTeller) → follows x g t → IsToldSo g t (due_at x))
    (programs : List StrandsInWorld) (detaches : List Detach) (ds : List Device) (lines : List StrandLine) (h : Hosted X) (ds' : List Device)
    → StrandsStanding follows due_at memory programs detaches ds lines h ds' Between → length h.programs ≤ 16 → h.begun < 2 ^ 40
few_events follows due_at memory so programs detaches ds lines h ds' s few =
    let many = events_told programs detaches ds h.begun lines s.tellers ds' s.at in
    let each = few_of_each s.tellers (λ i t et.
    let g = item programs i (omega (arith, slice_get_within s.tellers i t et, s.wide)) in
    let x = item h.programs i (omega (arith, slice_get_within s.tellers i t et, s.wide, s.as_many)) in
    few_notes g.0 t (due_at x.0) (so x.0 g.0 t (s.each i g.0 t x.0 g.1 et x.1).follow)) in
    omega (arith, many, each, few, s.wide, s.as_many)

-- ---- places

pub place_behind : (count : ℕ) (turn : Turn) (b : Bool) (e : Event) → turn.program < count → IsPlace count (stage_behind turn b e)
place_behind count turn b (paused ticks used) h = tt
place_behind count turn true (ended how) h = h
place_behind count turn false (ended how) h = tt
place_behind count turn b (called c) h = h
place_behind count turn b (answered v) h = h
place_behind count turn b (returned entry v) h = h
place_behind count turn b (parked used) h = h
place_behind count turn b (shown at bytes) h = h
