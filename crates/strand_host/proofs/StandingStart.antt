-- A program's first turn.
use Rattle.std.proofs.Common.{arith, ◌≡◌, ◌<◌, ◌≤◌, ◌*◌, inr, ℕ, zero, suc, ◌+◌, List, [], ◌∷◌, length, Option, Some, None, true, false, refl, sym, ap, ◌∙◌, subst, append-nil}
use Rattle.std.specs.Prelude.{drop, map, slice_get}
use Rattle.std.proofs.lemmas.List.Elements.{All-cons, All-nil}
use Rattle.wa_model.specs.Instantiation.{Opening, fails_as, opens, opening}
use Rattle.wa_model.specs.Machine.{Leads, Ran, stays}
use Rattle.wa_model.specs.Plan.{Entry, Outcome}
use Rattle.wa_model.specs.Blocking.{Left, Note, all_left, done_notes, no_store, with_outcomes}
use Rattle.wa_model.specs.Protocol.{Held, free, held_begun, held_on}
use Rattle.host_laws.specs.Stretch.{meeting}
use Rattle.strand_laws.specs.StrandWorld.{StrandsInWorld, answers_of}
use Rattle.strand_laws.specs.Strands.{Strand, StrandProgram, beginnings, first_outcomes, held_loom, outcomes_at, plan_of, strand_at}
use Rattle.strand_laws.specs.ToldStrands.{StrandTeller, met_and, starting_strands}
use Rattle.strand_laws.specs.Weaving.{due_in, is_ready}
use Rattle.strand_laws.specs.Woven.{Thread, Told, Woven, put, weave, woven}
use Rattle.strand_host.proofs.StandingThreads.{on_meeting}
use Rattle.strand_host.proofs.StandingWoven.{woven_alike}
use Rattle.strand_host.specs.Standing.{AreWaiting, DuesWithin, FirstTurnBegins, all_at_start, at_start, begun_strands, dues_of_strands, dues_of_threads, longest_pause, meeting_from, opened_first, threads_meeting}

-- ---- what instantiation makes doesn't depend on outcomes

begun_last : (start : Option ℕ) (l : Left) (o : Opening) (os : List Outcome) → (held_begun start (with_outcomes l os) o).last ≡ meeting os (held_begun start l o).last
begun_last start l (fails_as e) os = refl
begun_last None l (opens s) os = on_meeting os s l l.entries
begun_last (Some f) l (opens s) os = refl

begun_events : (start : Option ℕ) (l : Left) (o : Opening) (os : List Outcome) → (held_begun start (with_outcomes l os) o).events ≡ (held_begun start l o).events
begun_events start l (fails_as e) os = refl
begun_events None l (opens s) os = refl
begun_events (Some f) l (opens s) os = refl

begun_waiting : (start : Option ℕ) (l : Left) (o : Opening) → AreWaiting (held_begun start l o).events (held_begun start l o).last
begun_waiting start l (fails_as e) = (refl, refl, refl, refl)
begun_waiting None l (opens s) = by l.entries
  where
    by : (es : List Entry) → AreWaiting (done_notes s es) (held_on s l es)
    by [] = (refl, refl, refl, refl)
    by (e ∷ es) = tt
begun_waiting (Some f) l (opens s) = tt

-- ---- strands at their start

abbrev as_thread : Held → Thread Held
as_thread h = record { due = 0; at = Some h }

first_met : (g : StrandsInWorld) (ss : List Strand) (i : ℕ) (more : List (List Outcome)) → 0 < length ss → first_outcomes (met_and (starting_strands g i ss) more) ≡ outcomes_at more 0
first_met g [] i more lt = let no_way : ⊥ = omega (arith, lt) in absurd no_way
first_met g (s ∷ ss) i [] lt = refl
first_met g (s ∷ ss) i (os ∷ oss) lt = refl

-- with what their calls will meet
begun_are : (g : StrandsInWorld) (ss : List Strand) (i j : ℕ) (f : ℕ → List Outcome) (more : List (List Outcome)) → ((m n : ℕ) → n ≡ j + m → f n ≡ outcomes_at more m)
    → map as_thread (beginnings (free no_store) g.program ss (met_and (starting_strands g i ss) more)) ≡ meeting_from f j (map (at_start g.program) ss)
begun_are g [] i j f more h = refl
begun_are g (s ∷ ss) i j f [] h =
    let z : j ≡ j + 0 = omega arith in
    ap (λ (os : List Outcome). as_thread (free no_store (all_left (plan_of g.program s) os)) ∷ map as_thread (beginnings (free no_store) g.program ss (met_and (starting_strands g (suc i) ss) []))) (sym (h 0 j z))
    ∙ ap (λ (us : List (Thread Held)). as_thread (free no_store (all_left (plan_of g.program s) (f j))) ∷ us) (begun_are g ss (suc i) (suc j) f [] (λ m n e. h (suc m) n (omega (arith, e))))
begun_are g (s ∷ ss) i j f (os ∷ oss) h =
    let z : j ≡ j + 0 = omega arith in
    ap (λ (us : List Outcome). as_thread (free no_store (all_left (plan_of g.program s) us)) ∷ map as_thread (beginnings (free no_store) g.program ss (met_and (starting_strands g (suc i) ss) oss))) (sym (h 0 j z))
    ∙ ap (λ (us : List (Thread Held)). as_thread (free no_store (all_left (plan_of g.program s) (f j))) ∷ us) (begun_are g ss (suc i) (suc j) f oss (λ m n e. h (suc m) n (omega (arith, e))))

-- all but the first
others_are : (g : StrandsInWorld) (ss : List Strand) (more : List (List Outcome)) (h : Held) → 0 < length ss
    → (length (map as_thread (h ∷ beginnings (free no_store) g.program (drop 1 ss) (drop 1 (met_and (starting_strands g 0 ss) more)))) ≡ length (threads_meeting more (map (at_start g.program) ss)))
    × ((d : ℕ) (o : Option Held) → put 0 d o (map as_thread (h ∷ beginnings (free no_store) g.program (drop 1 ss) (drop 1 (met_and (starting_strands g 0 ss) more)))) ≡ put 0 d o (threads_meeting more (map (at_start g.program) ss)))
others_are g [] more h lt = let no_way : ⊥ = omega (arith, lt) in absurd no_way
others_are g (s ∷ ss) [] h lt =
    let e = begun_are g ss 1 1 (outcomes_at []) [] (λ m n q. refl) in
    (ap (λ (us : List (Thread Held)). suc (length us)) e, λ d o. ap (λ (us : List (Thread Held)). record { due = d; at = o } ∷ us) e)
others_are g (s ∷ ss) (os ∷ oss) h lt =
    let e = begun_are g ss 1 1 (outcomes_at (os ∷ oss)) oss (λ m n q. let z : n ≡ suc m = omega (arith, q) in ap (outcomes_at (os ∷ oss)) z) in
    (ap (λ (us : List (Thread Held)). suc (length us)) e, λ d o. ap (λ (us : List (Thread Held)). record { due = d; at = o } ∷ us) e)

-- ---- what is known of them

start_dues : (g : StrandsInWorld) (ss : List Strand) (i : ℕ) → dues_of_threads (map (at_start g.program) ss) ≡ dues_of_strands (starting_strands g i ss)
start_dues g [] i = refl
start_dues g (s ∷ ss) i = ap (λ (v : _). record { due = 0; at = Some tt } ∷ v) (start_dues g ss (suc i))

start_first : (g : StrandsInWorld) (ss : List Strand) (i : ℕ) (h : Held) → 0 < length ss → dues_of_threads (put 0 0 (Some h) (map (at_start g.program) ss)) ≡ dues_of_strands (starting_strands g i ss)
start_first g [] i h lt = let no_way : ⊥ = omega (arith, lt) in absurd no_way
start_first g (s ∷ ss) i h lt = start_dues g (s ∷ ss) i

start_zero : (g : StrandsInWorld) (ss : List Strand) (i j : ℕ) → due_in (slice_get (dues_of_strands (starting_strands g i ss)) j) ≡ 0
start_zero g [] i j = refl
start_zero g (s ∷ ss) i zero = refl
start_zero g (s ∷ ss) i (suc j) = start_zero g ss (suc i) j

start_ready : (g : StrandsInWorld) (ss : List Strand) (i : ℕ) → 0 < length ss → is_ready (slice_get (dues_of_strands (starting_strands g i ss)) 0) ≡ true
start_ready g [] i lt = let no_way : ⊥ = omega (arith, lt) in absurd no_way
start_ready g (s ∷ ss) i lt = refl

start_there : (g : StrandsInWorld) (ss : List Strand) (i : ℕ) → 0 < length ss
    → slice_get (starting_strands g i ss) 0 ≡ Some (record { due = 0; has_ended = false; answers = answers_of g i; met = [] })
start_there g [] i lt = let no_way : ⊥ = omega (arith, lt) in absurd no_way
start_there g (s ∷ ss) i lt = refl

start_long : (g : StrandsInWorld) (ss : List Strand) (i : ℕ) → length (starting_strands g i ss) ≡ length ss
start_long g [] i = refl
start_long g (s ∷ ss) i = ap suc (start_long g ss (suc i))

start_within : (g : StrandsInWorld) (ss : List Strand) (i : ℕ) → DuesWithin 0 (starting_strands g i ss)
start_within g [] i = All-nil (λ (s : StrandTeller). s.due ≤ longest_pause * 0)
start_within g (s ∷ ss) i = All-cons (λ (s : StrandTeller). s.due ≤ longest_pause * 0) _ (starting_strands g (suc i) ss) (omega arith) (start_within g ss (suc i))

-- ---- the first turn

pub first_turn_begins : FirstTurnBegins
first_turn_begins g some = record {
  used = 0;
  steps = omega arith;
  led = λ more. record {
    behind = [];
    made = ap (λ (r : Ran (Woven Held) Told). r.events) (same more) ∙ sym (append-nil (begun_strands p (oss more)).events);
    leads = subst (Begun more) (sym (ap (λ (r : Ran (Woven Held) Told). r.last) (same more))) stays;
  };
  waiting = begun_waiting p.source.start (all_left (plan_of p (strand_at p 0)) []) (opening p.source p.globals);
  s = record { due = 0; has_ended = false; answers = answers_of g 0; met = [] };
  there = start_there g p.strands 0 some;
  unfinished = refl;
  due_is = refl;
  dues = start_first g p.strands 0 (opened_first p).last some;
  turn = record {
    ready = start_ready g p.strands 0 some;
    least = λ j e. let z = start_zero g p.strands 0 j in let y = start_zero g p.strands 0 0 in inr (y ∙ sym z, omega arith);
  };
  wide = start_long g p.strands 0;
  within = start_within g p.strands 0;
}
  where
    p : StrandProgram
    p = g.program

    oss : List (List Outcome) → List (List Outcome)
    oss more = met_and (starting_strands g 0 p.strands) more

    Begun : List (List Outcome) → Woven Held → Type 0
    Begun more w = Leads (weave (held_loom p)) (begun_strands p (oss more)).last 0 [] w

    left : List Outcome → Left
    left os = all_left (plan_of p (strand_at p 0)) os

    same : (more : List (List Outcome)) → woven (held_loom p) true 0 0 (opened_first p).events (meeting (outcomes_at more 0) (opened_first p).last) (threads_meeting more (all_at_start p)) ≡ begun_strands p (oss more)
    same more =
        let f : List Outcome = first_outcomes (oss more) in
        let e : f ≡ outcomes_at more 0 = first_met g p.strands 0 more some in
        let b : Ran Held Note = held_begun p.source.start (left f) (opening p.source p.globals) in
        let others = others_are g p.strands more b.last some in
        ap (λ (os : List Outcome). woven (held_loom p) true 0 0 (opened_first p).events (meeting os (opened_first p).last) (threads_meeting more (all_at_start p))) (sym e)
        ∙ ap (λ (h : Held). woven (held_loom p) true 0 0 (opened_first p).events h (threads_meeting more (all_at_start p))) (sym (begun_last p.source.start (left []) (opening p.source p.globals) f))
        ∙ ap (λ (es : List Note). woven (held_loom p) true 0 0 es b.last (threads_meeting more (all_at_start p))) (sym (begun_events p.source.start (left []) (opening p.source p.globals) f))
        ∙ sym (woven_alike (held_loom p) true 0 0 b.events b.last (map as_thread (b.last ∷ beginnings (free no_store) p (drop 1 p.strands) (drop 1 (oss more)))) (threads_meeting more (all_at_start p)) others.0 others.1)
