-- How many lines a host tells: no more than its programs' steps make, and those of its shows.
use Rattle.std.proofs.Common.{arith, ◌≡◌, ◌≤◌, ◌<◌, ℕ, zero, suc, ◌+◌, ◌*◌, List, [], ◌∷◌, ◌++◌, length, length-append, map, drop, Some, None, Bool, true, false, cond, slice_get, slice_set, refl, sym, ap, ◌∙◌}
use Rattle.std.specs.Prelude.{nat_eq}
use Rattle.std.specs.List.{cons_option}
use Rattle.std.proofs.lemmas.Bool.{eqb-true, ne_eqb}
use Rattle.std.proofs.lemmas.List.{length-map}
use Rattle.std.proofs.lemmas.Option.{slice_get_within}
use Rattle.wa_model.specs.declared.answers.Detach.{Detach}
use Rattle.wa_model.specs.Outside.{Line}
use Rattle.wa_model.specs.Blocking.{Note, events_of}
use Rattle.world_model.specs.World.{Device, Program, events_with_looks, line_at}
use Rattle.pause_host.proofs.Advancing.{begins_of_follows}
use Rattle.event_order.specs.declared.shows.Show.{Show}
use Rattle.event_order.specs.Looks.{look_of, looks_of}
use Rattle.many_host.specs.Hosts.{HostTold, follows, has_ended, memory_of}
use Rattle.many_host.specs.Notes.{TellsOnFrom}
use Rattle.many_host.specs.Standing.{Held, Holds, StandingFrom, StandsAtFrom, has_gone, held_of, looks_at, on_its_way}
use Rattle.many_host.specs.Turns.{Teller, TellsFrom, TellsTurn, behind, having_told, since, starting}
use Rattle.many_host.specs.declared.host.Host.{Host}
use Rattle.many_host.specs.declared.hosted.Hosted.{Hosted}
use Rattle.many_host.specs.declared.turn_taking.Stage.{Stage}
use Rattle.many_host.specs.declared.turn_taking.Stage.TheVariants.{Between, Telling, Showing}
use Rattle.world_laws.proofs.Places.{item}
use Rattle.many_host.proofs.StoryLines.{begun_lines, lines_in, lines_made, lines_many, lines_on}

-- ---- the lines of programs

abbrev lines_of : Program → Teller → ℕ
lines_of w t = lines_in (length w.looks) t.told

abbrev all_lines : List Program → List Teller → ℕ
all_lines [] ts = 0
all_lines (w ∷ ws) [] = 0
all_lines (w ∷ ws) (t ∷ ts) = lines_of w t + all_lines ws ts

none_yet : (ws : List Program) → all_lines ws (map starting ws) ≡ 0
none_yet [] = refl
none_yet (w ∷ ws) = let rest = none_yet ws in omega (arith, rest)

set_lines : (ws : List Program) (ts : List Teller) (i : ℕ) (w : Program) (t t' : Teller) → slice_get ws i ≡ Some w → slice_get ts i ≡ Some t
    → all_lines ws (slice_set ts i t') + lines_of w t ≡ all_lines ws ts + lines_of w t'
set_lines [] ts i w t t' ew et = cc
set_lines (v ∷ ws) [] i w t t' ew et = cc
set_lines (v ∷ ws) (u ∷ ts) zero w t t' ew et =
    let same : v ≡ w = cc in
    let told : u ≡ t = cc in
    let new = ap (λ (z : Program). lines_of z t') same in
    let before : lines_of v u ≡ lines_of w t = ap (λ (z : Program). lines_of z u) same ∙ ap (lines_of w) told in
    omega (arith, before, new)
set_lines (v ∷ ws) (u ∷ ts) (suc i) w t t' ew et = let rest = set_lines ws ts i w t t' ew et in omega (arith, rest)

-- so many whole turns
tells_lines : (begun : ℕ) (programs : List Program) (detaches : List Detach) (ds : List Device) (count : ℕ) (lines : List Line) (tellers : List Teller) (ds' : List Device)
    → TellsFrom begun programs detaches ds count lines tellers ds' → length lines ≡ all_lines programs tellers
tells_lines begun programs detaches ds zero lines tellers ds' h = ap length h.0 ∙ sym (none_yet programs) ∙ ap (all_lines programs) (sym h.1)
tells_lines begun programs detaches ds (suc count) lines tellers ds' h =
    let mid = h.2 in
    let x : TellsTurn programs detaches (suc (behind begun count)) mid h.3 h.1 tellers ds' = h.5 in
    let before = tells_lines begun programs detaches ds count h.0 mid h.3 h.4 in
    let now = having_told x.t x.turn x.met x.answers in
    let set = set_lines programs mid x.i x.w x.t now x.program x.there in
    let more = lines_on (length x.w.looks) x.t.told x.turn in
    let made = ap length x.made ∙ length-map (events_with_looks x.w.looks x.turn) (line_at x.t.due x.i) ∙ lines_made x.w.looks x.turn in
    let all = ap (all_lines programs) x.after in
    let sum = ap length h.6 ∙ length-append h.0 h.1 in
    omega (arith, before, set, more, made, all, sum)

-- ---- all looks are shows

abbrev pub all_looks : List Program → ℕ
all_looks [] = 0
all_looks (w ∷ ws) = length w.looks + all_looks ws

-- the looks of so many programs from this number on
abbrev pub looks_from : (count from : ℕ) → List Show → ℕ
looks_from zero from shows = 0
looks_from (suc count) from shows = length (looks_of from shows) + looks_from count (suc from) shows

abbrev one_at : Bool → ℕ
one_at true = 1
one_at false = 0

-- whether a show is of one of so many
abbrev hits : (count from : ℕ) → ℕ → ℕ
hits zero from program = 0
hits (suc count) from program = one_at (nat_eq program from) + hits count (suc from) program

no_hits : (count from program : ℕ) → program < from → hits count from program ≡ 0
no_hits zero from program h = refl
no_hits (suc count) from program h =
    let rest = no_hits count (suc from) program (omega arith) in
    let other : nat_eq program from ≡ false = ne_eqb program from (λ e. let no : ⊥ = omega (arith, e, h) in no) in
    let first = ap one_at other in
    omega (arith, rest, first)

hits_once : (count from program : ℕ) → hits count from program ≤ 1
hits_once zero from program = omega arith
hits_once (suc count) from program = by (nat_eq program from) refl (hits_once count (suc from) program)
  where
    by : (b : Bool) → nat_eq program from ≡ b → hits count (suc from) program ≤ 1 → one_at b + hits count (suc from) program ≤ 1
    by false e h = omega (arith, h)
    by true e h = let same = eqb-true program from e in let none = no_hits count (suc from) program (omega (arith, same)) in omega (arith, none)

one_look : (i : ℕ) (s : Show) (shows : List Show) → length (looks_of i (s ∷ shows)) ≡ one_at (nat_eq s.program i) + length (looks_of i shows)
one_look i s shows = by (nat_eq s.program i)
  where
    by : (b : Bool) → length (cons_option (cond b (Some (look_of s)) None) (looks_of i shows)) ≡ one_at b + length (looks_of i shows)
    by true = omega arith
    by false = omega arith

more_looks : (count from : ℕ) (s : Show) (shows : List Show) → looks_from count from (s ∷ shows) ≡ hits count from s.program + looks_from count from shows
more_looks zero from s shows = refl
more_looks (suc count) from s shows =
    let one = one_look from s shows in
    let rest = more_looks count (suc from) s shows in
    omega (arith, one, rest)

no_looks : (count from : ℕ) → looks_from count from [] ≡ 0
no_looks zero from = refl
no_looks (suc count) from = let rest = no_looks count (suc from) in omega (arith, rest)

pub looks_few : (count from : ℕ) (shows : List Show) → looks_from count from shows ≤ length shows
looks_few count from [] = let none = no_looks count from in omega (arith, none)
looks_few count from (s ∷ shows) =
    let more = more_looks count from s shows in
    let once = hits_once count from s.program in
    let rest = looks_few count from shows in
    omega (arith, more, once, rest)

pub looks_are : (shows : List Show) (from : ℕ) (ws : List Program) → ((i : ℕ) (w : Program) → slice_get ws i ≡ Some w → w.looks ≡ looks_of (from + i) shows) → all_looks ws ≡ looks_from (length ws) from shows
looks_are shows from [] each = refl
looks_are shows from (w ∷ ws) each =
    let here : from + 0 ≡ from = omega arith in
    let first = ap length (each 0 w refl ∙ ap (λ k. looks_of k shows) here) in
    let rest = looks_are shows (suc from) ws (λ i v e. each (suc i) v e ∙ ap (λ k. looks_of k shows) (let z : from + suc i ≡ suc from + i = omega arith in z)) in
    omega (arith, first, rest)

-- ---- no more than this

few_of_each : (ws : List Program) (ts : List Teller) → ((i : ℕ) (w : Program) (t : Teller) → slice_get ws i ≡ Some w → slice_get ts i ≡ Some t → lines_of w t ≤ length w.looks + 3000000001)
    → all_lines ws ts ≤ all_looks ws + length ws * 3000000001
few_of_each [] ts each = omega arith
few_of_each (w ∷ ws) [] each = omega arith
few_of_each (w ∷ ws) (t ∷ ts) each =
    let first = each 0 w t refl refl in
    let rest = few_of_each ws ts (λ i. each (suc i)) in
    omega (arith, first, rest)

module _ (begun : ℕ) (programs : List Program) (detaches : List Detach) (ds : List Device) (lines : List Line) (h : Held Hosted) (ds' : List Device) (stage : Stage)
    (s : StandingFrom begun follows has_ended memory_of programs detaches ds lines h ds' stage) (few : length h.programs ≤ 16) where
  held_at : (i : ℕ) (w : Program) → slice_get programs i ≡ Some w → (t : Teller) × (x : Hosted) × (slice_get s.tellers i ≡ Some t) × Holds follows has_ended h.shows i w t x
  held_at i w there =
      let within : i < length programs = slice_get_within programs i w there in
      let t = item s.tellers i (let e = s.wide in omega arith) in
      let x = item h.programs i (let k = s.as_many in omega arith) in
      (t.0, x.0, t.1, s.each i w t.0 x.0 there t.1 x.1)

  looks_of_it : (i : ℕ) (w : Program) → (t : Teller) × (x : Hosted) × (slice_get s.tellers i ≡ Some t) × Holds follows has_ended h.shows i w t x → w.looks ≡ looks_of i h.shows
  looks_of_it i w z = by z.3
    where
      by : Holds follows has_ended h.shows i w z.0 z.1 → w.looks ≡ looks_of i h.shows
      by (on_its_way held) = held.looks
      by (has_gone is told looks) = looks

  looks_shown : all_looks programs ≤ length h.shows
  looks_shown =
      let are = looks_are h.shows 0 programs (λ i w there. looks_of_it i w (held_at i w there) ∙ ap (λ k. looks_of k h.shows) (let z : i ≡ 0 + i = omega arith in z)) in
      let most = looks_few (length programs) 0 h.shows in
      omega (arith, are, most)

  each_few : (i : ℕ) (w : Program) (t : Teller) → slice_get programs i ≡ Some w → slice_get s.tellers i ≡ Some t → lines_of w t ≤ length w.looks + 3000000001
  each_few i w t ew et =
      let within : i < length programs = slice_get_within programs i w ew in
      let x = item h.programs i (let k = s.as_many in omega arith) in
      by_hold x.0 (s.each i w t x.0 ew et x.1)
    where
      by_hold : (x : Hosted) → Holds follows has_ended h.shows i w t x → lines_of w t ≤ length w.looks + 3000000001
      by_hold x (on_its_way held) =
          let first = begun_lines (length w.looks) w (t.met ++ []) t.told (begins_of_follows w t.told t.met x.program held.follow.0 []) in
          let steps = held.follow.0.at.few_steps in
          omega (arith, first, steps)
      by_hold x (has_gone is told looks) = let none = ap (lines_of w) told in omega (arith, none)

  all_few : all_lines programs s.tellers ≤ 48000000016 + length h.shows
  all_few =
      let many = few_of_each programs s.tellers each_few in
      let count : length programs ≤ 16 = (let k = s.as_many in omega arith) in
      let looks = looks_shown in
      omega (arith, many, count, looks)

  pub few_told : length lines ≤ 48000000016 + length h.shows
  few_told = by stage s.at
    where
      by : (g : Stage) → StandsAtFrom begun memory_of programs detaches ds lines s.tellers h ds' g → length lines ≤ 48000000016 + length h.shows
      by Between at = let n = tells_lines begun programs detaches ds (since begun h.begun) lines s.tellers ds' at in omega (arith, n, all_few)
      by (Telling turn) at =
          let on : TellsOnFrom begun programs detaches ds at.0 turn.program turn.due lines s.tellers ds' = at.2 in
          let n = tells_lines begun programs detaches ds at.0 on.before on.mid on.es on.whole in
          let set = set_lines programs on.mid turn.program on.w on.t (having_told on.t on.turn on.met on.answers) on.program on.there in
          let more = lines_on (length on.w.looks) on.t.told on.turn in
          let notes = lines_many (length on.w.looks) on.turn in
          let after = ap (all_lines programs) on.after in
          let made = ap length on.made ∙ length-append on.before (map (line_at turn.due turn.program) (events_of on.turn)) in
          let told = length-map (events_of on.turn) (line_at turn.due turn.program) ∙ length-map on.turn (λ (x : Note). x.event) in
          omega (arith, n, all_few, set, more, notes, after, made, told)
      by (Showing turn from) at =
          let rest : List Line = map (line_at turn.due turn.program) (looks_at (memory_of at.0) (looks_of turn.program (drop from h.shows))) in
          let n = tells_lines begun programs detaches ds (since begun h.begun) (lines ++ rest) s.tellers ds' at.2 in
          let sum = length-append lines rest in
          omega (arith, n, all_few, sum)

-- A host has told few lines.
pub few_lines : (programs : List Program) (detaches : List Detach) (ds ds' : List Device) (lines : List Line) (h : Host) → HostTold programs detaches ds lines h ds' → length h.turns.programs.items ≤ 16
    → length lines ≤ 48000000016 + length h.turns.shows.items
few_lines programs detaches ds ds' lines h told few = few_told 0 programs detaches ds lines (held_of h.turns) ds' h.turns.stage told few
