-- How many lines programs with strands tell: each event tells one note at least, and with it at most as many lines of shows as there are shows.
use Rattle.std.proofs.Common.{arith, ◌≡◌, ◌≤◌, ◌<◌, ℕ, zero, suc, ◌+◌, ◌*◌, ◌^◌, List, [], ◌∷◌, ◌++◌, length, length-append, map, Option, Some, None, Bool, true, false, cond, MatchBool, slice_get, slice_set, refl, ap, ◌∙◌}
use Rattle.std.specs.Prelude.{nat_eq}
use Rattle.std.specs.List.{cons_option}
use Rattle.std.proofs.lemmas.List.{length-map}
use Rattle.std.proofs.lemmas.Option.{slice_get_within}
use Rattle.wa_model.specs.declared.answers.Detach.{Detach}
use Rattle.wa_model.specs.Blocking.{Note, events_of}
use Rattle.wa_model.specs.Outside.{Event, answered, called, ended, parked, paused, returned, shown}
use Rattle.world_model.specs.World.{Device, Look, bytes_shown, ends_turn, events_with_looks, looks_after}
use Rattle.world_laws.proofs.Places.{item}
use Rattle.event_order.specs.declared.shows.Show.{Show}
use Rattle.event_order.specs.Looks.{look_of, looks_of}
use Rattle.strand_laws.specs.StrandNotes.{TellsOnStrands}
use Rattle.strand_laws.specs.StrandWorld.{StrandLine, StrandsInWorld, looks_if}
use Rattle.strand_laws.specs.ToldStrands.{EndsOnce, ProgramTeller, TellsStrandTurn, TellsStrands, having_told, line_of, met_and, told_on}
use Rattle.strand_laws.specs.Woven.{told_by}
use Rattle.strand_laws.proofs.StoryLengths.{most_told, story_length}
use Rattle.strand_host.specs.declared.host.StrandHost.{StrandHost}
use Rattle.strand_host.specs.declared.turn_taking.Stage.{Stage}
use Rattle.strand_host.specs.declared.turn_taking.Stage.TheVariants.{Between, Showing, Telling}
use Rattle.strand_host.specs.StrandHosts.{StrandHostTold}
use Rattle.strand_host.specs.StrandPrograms.{memory_of}
use Rattle.strand_host.specs.StrandStanding.{StrandsStandAt, hosted_of, shown_lines}
use Rattle.strand_host.specs.StrandTelling.{IsToldSo}

-- ---- notes that are told

-- how many notes the programs have told
abbrev notes_told : List ProgramTeller → ℕ
notes_told [] = 0
notes_told (t ∷ ts) = length t.told + notes_told ts

set_told : (ts : List ProgramTeller) (i : ℕ) (t t' : ProgramTeller) → slice_get ts i ≡ Some t → notes_told (slice_set ts i t') + length t.told ≡ notes_told ts + length t'.told
set_told [] i t t' e = cc
set_told (u ∷ ts) zero t t' e =
    let same : u ≡ t = cc in
    let long = ap (λ (z : ProgramTeller). length z.told) same in
    omega (arith, long)
set_told (u ∷ ts) (suc i) t t' e = let rest = set_told ts i t t' e in omega (arith, rest)

told_long : (k : ℕ) (xs : List Note) → length (told_by k xs) ≡ length xs
told_long k [] = refl
told_long k (x ∷ xs) = ap suc (told_long k xs)

-- no program tells more than its steps make
few_by : (g : StrandsInWorld) (n : ℕ) → length g.program.strands ≤ 16 → most_told (record { program = g.program; steps = n; answers = g.answers; binds = g.binds; looks = g.looks }) ≤ 22 + 21 * n
few_by g zero few = omega (arith, few)
few_by g (suc n) few = let rest = few_by g n few in omega (arith, rest, few)

few_of : (g : StrandsInWorld) (t : ProgramTeller) (due : Option ℕ) → IsToldSo g t due → length t.told ≤ 21000000022
few_of g t due so =
    let r = so.story.begins [] in
    let most = story_length g (met_and t.strands []) (t.told ++ r.0) r.1 in
    let few = few_by g g.steps so.few in
    let sum = length-append t.told r.0 in
    omega (arith, most, few, sum, so.few_steps)

few_notes : (ts : List ProgramTeller) → ((i : ℕ) (t : ProgramTeller) → slice_get ts i ≡ Some t → length t.told ≤ 21000000022) → notes_told ts ≤ length ts * 21000000022
few_notes [] each = omega arith
few_notes (t ∷ ts) each =
    let first : length t.told ≤ 21000000022 = each 0 t refl in
    let rest = few_notes ts (λ i. each (suc i)) in
    omega (arith, first, rest)

-- ---- shows

looks_few : (i : ℕ) (shows : List Show) → length (looks_of i shows) ≤ length shows
looks_few i [] = omega arith
looks_few i (s ∷ shows) = by (nat_eq s.program i) (looks_few i shows)
  where
    by : (b : Bool) → length (looks_of i shows) ≤ length shows → length (cons_option (cond b (Some (look_of s)) None) (looks_of i shows)) ≤ suc (length shows)
    by true le = omega (arith, le)
    by false le = omega (arith, le)

after_none : (looks : List Look) (x : Note) (e : Event) → ends_turn e ≡ false → length (looks_after looks x e) ≡ 0
after_none looks x (called c) q = refl
after_none looks x (answered c) q = refl
after_none looks x (paused c d) q = refl
after_none looks x (parked c) q = refl
after_none looks x (returned c d) q = refl
after_none looks x (ended how) q = cc
after_none looks x (shown c d) q = refl

after_few : (looks : List Look) (x : Note) (e : Event) → length (looks_after looks x e) ≤ length looks
after_few looks x (called c) = omega arith
after_few looks x (answered c) = omega arith
after_few looks x (paused c d) = omega arith
after_few looks x (parked c) = omega arith
after_few looks x (returned c d) = omega arith
after_few looks x (ended how) = let long = length-map looks (λ (k : Look). shown k.at (bytes_shown x.store.memory k)) in omega (arith, long)
after_few looks x (shown c d) = omega arith

-- a turn has its notes, and what is shown once
turn_few : (looks : List Look) (turn : List Note) → EndsOnce turn → length (events_with_looks looks turn) ≤ length turn + length looks
turn_few looks [] h = absurd h
turn_few looks (x ∷ xs) h =
    let sum = length-append (x.event ∷ looks_after looks x x.event) (events_with_looks looks xs) in
    by (ends_turn x.event) refl h (λ once. turn_few looks xs once) sum
  where
    by : (b : Bool) → ends_turn x.event ≡ b → MatchBool b (xs ≡ []) (EndsOnce xs) → (EndsOnce xs → length (events_with_looks looks xs) ≤ length xs + length looks)
        → length (events_with_looks looks (x ∷ xs)) ≡ suc (length (looks_after looks x x.event)) + length (events_with_looks looks xs)
        → length (events_with_looks looks (x ∷ xs)) ≤ suc (length xs) + length looks
    by true e none on sum =
        let few = after_few looks x x.event in
        let rest = ap (λ (l : List Note). length (events_with_looks looks l)) none in
        omega (arith, few, rest, sum)
    by false e once on sum =
        let none = after_none looks x x.event e in
        let rest = on once in
        omega (arith, none, rest, sum)

some_note : (xs : List Note) → EndsOnce xs → 0 < length xs
some_note [] h = absurd h
some_note (x ∷ xs) h = omega arith

if_few : (b : Bool) (looks : List Look) → length (looks_if b looks) ≤ length looks
if_few true looks = omega arith
if_few false looks = omega arith

-- ---- lines

-- each program shows fewer than 2^63 ranges
abbrev FewLooks : List StrandsInWorld → Type 0
FewLooks gs = (i : ℕ) (g : StrandsInWorld) → slice_get gs i ≡ Some g → length g.looks < 2 ^ 63

-- So many whole turns have told as many notes at least; and their lines are these, with what was shown.
pub record TurnsAreFew (count : ℕ) (lines : List StrandLine) (tellers : List ProgramTeller) : Type 0 where
  pub notes : count ≤ notes_told tellers
  pub few : length lines ≤ notes_told tellers + count * 2 ^ 63

turns_few : (gs : List StrandsInWorld) (detaches : List Detach) (ds : List Device) (count : ℕ) (lines : List StrandLine) (tellers : List ProgramTeller) (ds' : List Device) → FewLooks gs
    → TellsStrands gs detaches ds count lines tellers ds' → TurnsAreFew count lines tellers
turns_few gs detaches ds zero lines tellers ds' shows h = record { notes = omega arith; few = let none = ap length h.0 in omega (arith, none) }
turns_few gs detaches ds (suc count) lines tellers ds' shows h =
    let mid = h.2 in
    let x : TellsStrandTurn gs detaches (suc count) mid h.3 h.1 tellers ds' = h.5 in
    let before = turns_few gs detaches ds count h.0 mid h.3 shows h.4 in
    let first = before.notes in
    let told = before.few in
    let now = told_on x.t x.strand (having_told x.s x.turn x.met x.answers) x.turn x.is_last in
    let set = set_told mid x.program x.t now x.there in
    let more = length-append x.t.told (told_by x.strand x.turn) in
    let long = told_long x.strand x.turn in
    let one = some_note x.turn x.whole in
    let all = ap notes_told x.after in
    let looks = looks_if x.is_last x.g.looks in
    let made = ap length x.made ∙ length-map (events_with_looks looks x.turn) (line_of x.s.due x.program x.strand) in
    let turn = turn_few looks x.turn x.whole in
    let fewer = if_few x.is_last x.g.looks in
    let few = shows x.program x.g x.is_program in
    let sum = ap length h.6 ∙ length-append h.0 h.1 in
    record { notes = omega (arith, first, set, more, long, one, all); few = omega (arith, told, set, more, long, all, made, turn, fewer, few, sum) }

module _ (gs : List StrandsInWorld) (detaches : List Detach) (ds : List Device) (lines : List StrandLine) (h : StrandHost) (ds' : List Device)
    (told : StrandHostTold gs detaches ds lines h ds') (few : length h.turns.programs.items ≤ 16) (small : length h.turns.shows.items < 2 ^ 63) where
  few_looks : FewLooks gs
  few_looks i g eg =
      let t = item told.tellers i (omega (arith, slice_get_within gs i g eg, told.wide)) in
      let x = item h.turns.programs.items i (omega (arith, slice_get_within gs i g eg, told.as_many)) in
      let looks = ap length (told.each i g t.0 x.0 eg t.1 x.1).looks in
      let most = looks_few i h.turns.shows.items in
      omega (arith, looks, most, small)

  all_notes : notes_told told.tellers ≤ 336000000352
  all_notes =
      let each = few_notes told.tellers (λ i t et.
      let g = item gs i (omega (arith, slice_get_within told.tellers i t et, told.wide)) in
      let x = item h.turns.programs.items i (omega (arith, slice_get_within told.tellers i t et, told.wide, told.as_many)) in
      few_of g.0 t _ (told.each i g.0 t x.0 g.1 et x.1).follow.1) in
      omega (arith, each, few, told.wide, told.as_many)

  -- a host of strands has told few lines
  pub few_strand_lines : length lines < 2 ^ 127
  few_strand_lines = by h.turns.stage told.at
    where
      by : (stage : Stage) → StrandsStandAt memory_of gs detaches ds lines told.tellers (hosted_of h.turns) ds' stage → length lines < 2 ^ 127
      by Between at =
          let n = turns_few gs detaches ds h.turns.begun lines told.tellers ds' few_looks at in
          let notes = n.notes in
          let told_few = n.few in
          omega (arith, notes, told_few, all_notes)
      by (Telling turn) at =
          let on : TellsOnStrands gs detaches ds at.0 turn.program at.1 turn.due lines told.tellers ds' = at.3 in
          let n = turns_few gs detaches ds at.0 on.before on.mid on.es few_looks on.whole in
          let notes = n.notes in
          let told_few = n.few in
          let now = told_on on.t at.1 (having_told on.s on.turn on.met on.answers) on.turn false in
          let set = set_told on.mid turn.program on.t now on.there in
          let more = length-append on.t.told (told_by at.1 on.turn) in
          let long = told_long at.1 on.turn in
          let all = ap notes_told on.after in
          let made = ap length on.made ∙ length-append on.before (map (line_of turn.due turn.program at.1) (events_of on.turn)) in
          let own = length-map (events_of on.turn) (line_of turn.due turn.program at.1) ∙ length-map on.turn (λ (x : Note). x.event) in
          omega (arith, notes, told_few, set, more, long, all, made, own, all_notes)
      by (Showing turn from) at =
          let shows = shown_lines turn.due turn.program (memory_of at.0) from h.turns.shows.items in
          let n = turns_few gs detaches ds h.turns.begun (lines ++ shows) told.tellers ds' few_looks at.2 in
          let notes = n.notes in
          let told_few = n.few in
          let sum = length-append lines shows in
          omega (arith, notes, told_few, sum, all_notes)
