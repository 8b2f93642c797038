-- How many turns have begun among several programs: fewer than 2^31 since they were held.
use Rattle.std.proofs.Common.{arith, ◌≡◌, ◌≤◌, ◌<◌, ℕ, zero, suc, ◌+◌, ◌*◌, ◌^◌, List, [], ◌∷◌, ◌++◌, length, map, Some, Bool, true, false, slice_get, slice_set, refl, ap}
use Rattle.std.specs.Prelude.{MatchBool}
use Rattle.std.proofs.lemmas.Option.{slice_get_within}
use Rattle.wa_model.specs.declared.answers.Detach.{Detach}
use Rattle.wa_model.specs.Outside.{Line}
use Rattle.wa_model.specs.Blocking.{Note}
use Rattle.world_model.specs.World.{Device, Program, ends_turn}
use Rattle.pause_host.proofs.Advancing.{begins_of_follows}
use Rattle.many_host.specs.Hosts.{follows, has_ended, memory_of}
use Rattle.many_host.specs.Notes.{TellsOnFrom}
use Rattle.many_host.specs.Standing.{Held, Holds, IsTelling, StandingFrom, StandsAtFrom, has_gone, on_its_way}
use Rattle.many_host.specs.Turns.{EndsOnce, Teller, TellsFrom, TellsTurn, behind, having_told, since, starting}
use Rattle.many_host.specs.declared.hosted.Hosted.{Hosted}
use Rattle.many_host.specs.declared.turn_taking.Stage.{Stage}
use Rattle.many_host.specs.declared.turn_taking.Stage.TheVariants.{Between, Telling, Showing}
use Rattle.many_host.proofs.Numbers.{sum_behind}
use Rattle.world_laws.proofs.Places.{item}
use Rattle.world_laws.proofs.StoryTurns.{begun_turns, one_if, turns_in, turns_on}

-- how many turns the programs have told
abbrev told_turns : List Teller → ℕ
told_turns [] = 0
told_turns (t ∷ ts) = turns_in t.told + told_turns ts

none_told : (ws : List Program) → told_turns (map starting ws) ≡ 0
none_told [] = refl
none_told (w ∷ ws) = let rest = none_told ws in omega (arith, rest)

set_turns : (ts : List Teller) (i : ℕ) (t t' : Teller) → slice_get ts i ≡ Some t → told_turns (slice_set ts i t') + turns_in t.told ≡ told_turns ts + turns_in t'.told
set_turns [] i t t' e = cc
set_turns (u ∷ ts) zero t t' e =
    let same : u ≡ t = cc in
    let turns = ap (λ (z : Teller). turns_in z.told) same in
    omega (arith, turns)
set_turns (u ∷ ts) (suc i) t t' e = let rest = set_turns ts i t t' e in omega (arith, rest)

-- a whole turn is one
once : (turn : List Note) → EndsOnce turn → turns_in turn ≡ 1
once [] h = absurd h
once (x ∷ xs) h = by (ends_turn x.event) h (once xs)
  where
    by : (b : Bool) → MatchBool b (xs ≡ []) (EndsOnce xs) → (EndsOnce xs → turns_in xs ≡ 1) → one_if b + turns_in xs ≡ 1
    by true e on = ap (λ (l : List Note). 1 + turns_in l) e
    by false m on = let rest = on m in omega (arith, rest)

-- so many events are so many turns told
tells_turns : (begun : ℕ) (programs : List Program) (detaches : List Detach) (ds : List Device) (count : ℕ) (lines : List Line) (tellers : List Teller) (ds' : List Device)
    → TellsFrom begun programs detaches ds count lines tellers ds' → count ≤ told_turns tellers
tells_turns begun programs detaches ds zero lines tellers ds' h = omega arith
tells_turns begun programs detaches ds (suc count) lines tellers ds' h =
    let mid = h.2 in
    let x : TellsTurn programs detaches (suc (behind begun count)) mid h.3 h.1 tellers ds' = h.5 in
    let before = tells_turns begun programs detaches ds count h.0 mid h.3 h.4 in
    let now = having_told x.t x.turn x.met x.answers in
    let set = set_turns mid x.i x.t now x.there in
    let more = turns_on x.t.told x.turn in
    let one = once x.turn x.whole in
    let all = ap told_turns x.after in
    omega (arith, before, set, more, one, all)

-- each has told no more than this
few_of_each : (ts : List Teller) → ((i : ℕ) (t : Teller) → slice_get ts i ≡ Some t → turns_in t.told ≤ 125000001) → told_turns ts ≤ length ts * 125000001
few_of_each [] each = omega arith
few_of_each (t ∷ ts) each =
    let first : turns_in t.told ≤ 125000001 = each 0 t refl in
    let rest = few_of_each ts (λ i. each (suc i)) in
    omega (arith, first, rest)

module _ (begun : ℕ) (programs : List Program) (detaches : List Detach) (ds : List Device) (lines : List Line) (h : Held Hosted) (ds' : List Device) (stage : Stage)
    (s : StandingFrom begun follows has_ended memory_of programs detaches ds lines h ds' stage) (few : length h.programs ≤ 16) where
  -- a program that is held has an eighth of its steps at most; one that had ended has none
  each_few : (i : ℕ) (t : Teller) → slice_get s.tellers i ≡ Some t → turns_in t.told ≤ 125000001
  each_few i t there =
      let within : i < length s.tellers = slice_get_within s.tellers i t there in
      let w = item programs i (let e = s.wide in omega arith) in
      let x = item h.programs i (let e = s.wide in let k = s.as_many in omega arith) in
      by_hold w.0 x.0 (s.each i w.0 t x.0 w.1 there x.1)
    where
      by_hold : (w : Program) (x : Hosted) → Holds follows has_ended h.shows i w t x → turns_in t.told ≤ 125000001
      by_hold w x (on_its_way held) =
          let first = begun_turns w (t.met ++ []) t.told (begins_of_follows w t.told t.met x.program held.follow.0 []) in
          let steps = held.follow.0.at.few_steps in
          omega (arith, first, steps)
      by_hold w x (has_gone is told looks) = let none = ap (λ (z : Teller). turns_in z.told) told in omega (arith, none)

  all_few : told_turns s.tellers ≤ 2000000016
  all_few =
      let many = few_of_each s.tellers each_few in
      let count : length s.tellers ≤ 16 = (let e = s.wide in let k = s.as_many in omega arith) in
      omega (arith, many, count)

-- Fewer than 2^31 have begun since.
pub few_turns : (h : Held Hosted) (ds' : List Device) (stage : Stage) → IsTelling follows has_ended memory_of h ds' stage → length h.programs ≤ 16 → h.begun < h.earlier + 2 ^ 31
few_turns h ds' stage t few =
    let sum = sum_behind t.begun (since t.begun h.begun) in
    let many = by stage t.stands.at (all_few t.begun t.programs t.detaches t.devices t.lines h ds' stage t.stands few) in
    omega (arith, sum, many, t.stands.begun_is, t.stands.earlier_is)
  where
    ts : List Teller
    ts = t.stands.tellers

    by : (g : Stage) → StandsAtFrom t.begun memory_of t.programs t.detaches t.devices t.lines ts h ds' g → told_turns ts ≤ 2000000016 → since t.begun h.begun < 2 ^ 31
    by Between at all = let n = tells_turns t.begun t.programs t.detaches t.devices (since t.begun h.begun) t.lines ts ds' at in omega (arith, n, all)
    by (Telling turn) at all =
        let on : TellsOnFrom t.begun t.programs t.detaches t.devices at.0 turn.program turn.due t.lines ts ds' = at.2 in
        let n = tells_turns t.begun t.programs t.detaches t.devices at.0 on.before on.mid on.es on.whole in
        let set = set_turns on.mid turn.program on.t (having_told on.t on.turn on.met on.answers) on.there in
        let more = turns_on on.t.told on.turn in
        let after = ap told_turns on.after in
        omega (arith, n, all, set, more, after, at.1)
    by (Showing turn from) at all = let n = tells_turns t.begun t.programs t.detaches t.devices (since t.begun h.begun) _ ts ds' at.2 in omega (arith, n, all)
