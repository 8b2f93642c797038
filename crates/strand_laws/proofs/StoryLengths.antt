-- How long what strands tell is: a move makes three notes at most, and each strand that ends as its turn begins one.
use Rattle.std.proofs.Common.{arith, ◌≡◌, ◌≤◌, ℕ, zero, suc, ◌+◌, ◌-◌, List, [], ◌∷◌, length, Option, Some, None, Bool, true, false, refl, ap, ◌∙◌, length-append}
use Rattle.std.specs.Prelude.{drop, map, if◌then◌else◌, nat_eq, nat_lt}
use Rattle.wa_types.specs.declared.values.Value.{Value}
use Rattle.wa_types.specs.Modules.{defined_at, func_imports, func_type_at}
use Rattle.wa_types.specs.Syntax.{Func, Module}
use Rattle.wa_model.specs.declared.answers.Said.{Said}
use Rattle.wa_model.specs.declared.answers.Said.TheVariants as S
use Rattle.wa_model.specs.declared.events.End.{End}
use Rattle.wa_model.specs.Outside.{Answer, Event, answered, called, ended, parked, paused, returned, shown}
use Rattle.wa_model.specs.Blocking.{Asker, Left, Note, Task, all_left, an_entry, done_notes, fault_of, in_start, inside, no_store, outermost, pause_of, poked, store_at, the_start, with_outcomes}
use Rattle.wa_model.specs.Instantiation.{Opening, fails_as, opens, opening}
use Rattle.wa_model.specs.Machine.{Ran, Turn, after, goes, pay, run, run_with, still, stops}
use Rattle.wa_model.specs.Plan.{Entry, Outcome, Plan, given, refused}
use Rattle.wa_model.specs.Protocol.{Exports, Held, Phase, Then, aside, aside_back, aside_called, aside_step, busy, busy_enters, busy_step, call_again, calling, entering, exports_of, free, give_answer}
use Rattle.wa_model.specs.Protocol.{give_zero, held_asked, held_back, held_begun, held_given, held_next, held_pauses, held_resumed, held_start, held_tested, is_running, is_state, over}
use Rattle.wa_model.specs.Protocol.{pause_there, protocol, rewinds, starting, test_rewound, test_unwound, unwinds}
use Rattle.wa_model.specs.Step.{Next, asks, returns, step, steps, stuck, traps}
use Rattle.wa_model.specs.Store.{Store}
use Rattle.strand_laws.specs.StrandWorld.{HeldStrands, StrandsInWorld, strand_unless_over}
use Rattle.strand_laws.specs.Strands.{ProtocolStrands, Strand, StrandProgram, beginnings, first_outcomes, held_loom, held_wakes, plan_of, strand_at}
use Rattle.strand_laws.specs.Woven.{Loom, Ready, Thread, Told, Woven, awake, ends_strand, finished, first_ready, going, last_event, move_of, moved, put, standing_now, told_by, weave, weave_on, woven, woven_by}
use Rattle.strand_laws.proofs.WovenRuns.{length_put}

-- a move makes three notes at most
abbrev Short : Turn Held Note → Type 0
Short stops = Unit {0}
Short (goes k es t) = length es ≤ 3

done_short : (s : Store) (es : List Entry) → length (done_notes s es) ≤ 1
done_short s [] = omega arith
done_short s (e ∷ es) = omega arith

module _ (p : Module) (x : Exports) (plan : Plan) where
  given_short : (k : ℕ) (y : Note) (said : Said) (s : Store) (l : Left) (w : Asker) → Short (held_given k y said s l w)
  given_short k y (S.Value v) s l (inside task c) = omega arith
  given_short k y (S.Value v) s l (outermost old) = let d = done_short s l.entries in omega (arith, d)
  given_short k y S.Trap s l w = omega arith

  pauses_short : (k : ℕ) (y : Note) (i : ℕ) (a : Answer) (l : Left) (w : Asker) → Short (held_pauses x plan k y i a l w)
  pauses_short k y i a l (inside (an_entry e) c) = omega arith
  pauses_short k y i a l (inside the_start c) = tt
  pauses_short k y i a l (outermost s) = tt

  tested_short : (k i : ℕ) (args : List Value) (w : Asker) (l : Left) (a : Answer) (o : Option End) (t : Option ℕ) → Short (held_tested p x plan k i args w l a o t)
  tested_short k i args w l a (Some e) t = omega arith
  tested_short k i args w l a None None = given_short k _ a.said (poked (store_at w) a.pokes) l w
  tested_short k i args w l a None (Some ticks) = pauses_short k _ i a l w

  asked_short : (k i : ℕ) (args : List Value) (w : Asker) (l : Left) (os : List Outcome) → Short (held_asked p x plan k i args w l os)
  asked_short k i args w l [] = omega arith
  asked_short k i args w l (refused e ∷ os) = omega arith
  asked_short k i args w l (given a ∷ os) =
      tested_short k i args w (with_outcomes l os) a (fault_of (func_type_at p i).results (length (store_at w).memory) plan (in_start w) i a) (pause_of a.ticks)

  back_short : (k : ℕ) (task : Task) (vs : List Value) (s : Store) (l : Left) → Short (held_back k task vs s l)
  back_short k the_start vs s l = let d = done_short s l.entries in omega (arith, d)
  back_short k (an_entry e) vs s l = let d = done_short s l.entries in omega (arith, d)

  either_short : (t : Bool) (a b : Turn Held Note) → Short a → Short b → Short (if t then a else b)
  either_short true a b h k = h
  either_short false a b h k = k

  busy_short : (ph : Phase) (l : Left) (o : Next) → Short (busy_step p x plan ph l o)
  busy_short ph l (steps k d) = omega arith
  busy_short (is_running task) l (asks k i args d) = asked_short k i args (inside task d) l l.outcomes
  busy_short (unwinds e i a) l (asks k j args d) = omega arith
  busy_short (rewinds e i a sp) l (asks k j args d) = either_short (nat_eq j i) _ _ (omega arith) (omega arith)
  busy_short (is_running task) l (returns k vs s) = back_short k task vs s l
  busy_short (unwinds e i a) l (returns k vs s) = omega arith
  busy_short (rewinds e i a sp) l (returns k vs s) = omega arith
  busy_short ph l (traps k t s) = omega arith
  busy_short ph l stuck = tt

  resumed_short : (k : ℕ) (e : Entry) (said : Said) (sp : Store) (c : _) (l : Left) (s : Store) → Short (held_resumed k e said sp c l s)
  resumed_short k e (S.Value v) sp c l s = omega arith
  resumed_short k e S.Trap sp c l s = omega arith

  aside_back_short : (k : ℕ) (ph : Phase) (th : Then) (l : Left) (vs : List Value) (s : Store) → Short (aside_back p x plan k ph th l vs s)
  aside_back_short k (unwinds e i a) (give_zero c) l vs s = omega arith
  aside_back_short k (unwinds e i a) test_unwound l vs s = either_short (is_state 1 vs) _ _ (omega arith) (omega arith)
  aside_back_short k (unwinds e i a) pause_there l vs s = omega arith
  aside_back_short k (unwinds e i a) call_again l vs s = tt
  aside_back_short k (unwinds e i a) (test_rewound c) l vs s = tt
  aside_back_short k (unwinds e i a) (give_answer c) l vs s = tt
  aside_back_short k (rewinds e i a sp) call_again l vs s = omega arith
  aside_back_short k (rewinds e i a sp) (test_rewound c) l vs s = either_short (is_state 2 vs) _ _ (omega arith) (omega arith)
  aside_back_short k (rewinds e i a sp) (give_answer c) l vs s = resumed_short k e a.said sp c l (poked s a.pokes)
  aside_back_short k (rewinds e i a sp) (give_zero c) l vs s = tt
  aside_back_short k (rewinds e i a sp) test_unwound l vs s = tt
  aside_back_short k (rewinds e i a sp) pause_there l vs s = tt
  aside_back_short k (is_running task) th l vs s = tt

  aside_short : (ph : Phase) (th : Then) (l : Left) (o : Next) → Short (aside_step p x plan ph th l o)
  aside_short ph th l (steps k d) = omega arith
  aside_short ph th l (asks k i args d) = omega arith
  aside_short ph th l (returns k vs s) = aside_back_short k ph th l vs s
  aside_short ph th l (traps k t s) = omega arith
  aside_short ph th l stuck = tt

  enters_short : (ph : Phase) (e : Entry) (s : Store) (l : Left) (f : Option Func) → Short (busy_enters ph e s l f)
  enters_short ph e s l None = tt
  enters_short ph e s l (Some f) = omega arith

  next_short : (s : Store) (l : Left) (es : List Entry) → Short (held_next p s l es)
  next_short s l [] = tt
  next_short s l (e ∷ es) = enters_short (is_running (an_entry e)) e s (record { number = l.number; entries = es; outcomes = l.outcomes }) (defined_at p e.func)

  called_short : (ph : Phase) (s : Store) (f : ℕ) (args : List Value) (th : Then) (l : Left) (o : Option Func) → Short (aside_called ph s f args th l o)
  called_short ph s f args th l None = tt
  called_short ph s f args th l (Some g) = omega arith

  start_short : (f : ℕ) (s : Store) (l : Left) (o : Option Func) → Short (held_start p x plan f s l o)
  start_short f s l (Some g) = omega arith
  start_short f s l None = either_short (nat_lt f (func_imports p)) _ _ (asked_short 0 f [] (outermost s) l l.outcomes) tt

  protocol_short : (h : Held) → Short (protocol p x plan h)
  protocol_short (free s l) = next_short s l l.entries
  protocol_short (starting f s l) = start_short f s l (defined_at p f)
  protocol_short (busy ph c l) = busy_short ph l (step p c)
  protocol_short (calling ph s f args th l) = called_short ph s f args th l (defined_at p f)
  protocol_short (aside ph c th l) = aside_short ph th l (step p c)
  protocol_short (entering ph e s l) = enters_short ph e s l (defined_at p e.func)
  protocol_short (over s) = tt

wakes_short : (s : Store) (h : Held) → length (held_wakes s h).events ≤ 1
wakes_short s (free old l) = done_short s l.entries
wakes_short s (starting f t l) = omega arith
wakes_short s (busy ph c l) = omega arith
wakes_short s (calling (is_running task) t f args th l) = omega arith
wakes_short s (calling (unwinds e i a) t f args th l) = omega arith
wakes_short s (calling (rewinds e i a sp) t f args th l) = omega arith
wakes_short s (aside ph c th l) = omega arith
wakes_short s (entering ph e t l) = omega arith
wakes_short s (over t) = omega arith

begun_short : (start : Option ℕ) (l : Left) (o : Opening) → length (held_begun start l o).events ≤ 1
begun_short start l (fails_as e) = omega arith
begun_short None l (opens s) = done_short s l.entries
begun_short (Some f) l (opens s) = omega arith

told_long : (i : ℕ) (es : List Note) → length (told_by i es) ≡ length es
told_long i [] = refl
told_long i (x ∷ es) = ap suc (told_long i es)

abbrev times : ℕ → ℕ → ℕ
times zero c = 0
times (suc m) c = c + times m c

module _ (g : StrandProgram) where
  abbrev loom : Loom Held
  loom = held_loom g

  -- so many notes at most, and so many strands
  abbrev Few : (most strands : ℕ) → Ran (Woven Held) Told → Type 0
  Few m n r = (length r.events ≤ m) × (length r.last.threads ≡ n)

  by_few : (m : ℕ) (again : Store → List (Thread Held) → Ran (Woven Held) Told) → ((s : Store) (ts : List (Thread Held)) → Few m (length ts) (again s ts)) → (st : Bool) (i due : ℕ) (es : List Note)
      (s : Held) (ts : List (Thread Held)) (e : Option Event) → Few (length es + m) (length ts) (woven_by loom again st i due es s ts e)
  by_few m again ok st i due es s ts e = by_case e
    where
      own : length (told_by i es) ≡ length es
      own = told_long i es

      stays : Few (length es + m) (length ts) (record { events = told_by i es; last = going i due s ts })
      stays = let z = own in (omega (arith, z), length_put loom i due (Some s) ts)

      on_from : (d : ℕ) (o : Option Held) (t : Store) → Few (length es + m) (length ts) (after (told_by i es) (again t (put i d o ts)))
      on_from d o t =
          let h = ok t (put i d o ts) in
          let a = length-append (told_by i es) (again t (put i d o ts)).events in
          let z = own in
          let b = h.0 in
          (omega (arith, a, z, b), h.1 ∙ length_put loom i d o ts)

      by_end : (b : Bool) → Few (length es + m) (length ts) (after (told_by i es) (if b then again (loom.store s) (put i due None ts) else still (finished (put i due None ts))))
      by_end true = on_from due None (loom.store s)
      by_end false =
          let a = length-append (told_by i es) [] in
          let z = own in
          (omega (arith, a, z), length_put loom i due None ts)

      by_case : (e : Option Event) → Few (length es + m) (length ts) (woven_by loom again st i due es s ts e)
      by_case None = stays
      by_case (Some (called c)) = stays
      by_case (Some (answered y)) = stays
      by_case (Some (parked u)) = stays
      by_case (Some (returned n y)) = stays
      by_case (Some (shown a b)) = stays
      by_case (Some (paused ticks used)) = on_from (due + ticks) (Some s) (loom.store s)
      by_case (Some (ended how)) = by_end (ends_strand st how)

  on_few : (most : ℕ) (s : Store) (ts : List (Thread Held)) → Few most (length ts) (weave_on loom most s ts)
  on_few zero s ts = (omega arith, refl)
  on_few (suc most) s ts = by_first (on_few most) (first_ready 0 ts)
    where
      by_first : ((s : Store) (ts : List (Thread Held)) → Few most (length ts) (weave_on loom most s ts)) → (o : Option (Ready Held)) → Few (suc most) (length ts) (awake loom (weave_on loom most) s ts o)
      by_first on None = (omega arith, refl)
      by_first on (Some r) =
          let w = held_wakes s r.at in
          let h = by_few most (weave_on loom most) on false r.strand r.due w.events w.last ts (last_event w.events) in
          let a = h.0 in
          let b = wakes_short s r.at in
          (omega (arith, a, b), h.1)

  woven_few : (st : Bool) (i due : ℕ) (es : List Note) (s : Held) (ts : List (Thread Held)) → length es ≤ 3 → Few (4 + length ts) (length ts) (woven loom st i due es s ts)
  woven_few st i due es s ts le =
      let h = by_few (suc (length ts)) (weave_on loom (suc (length ts))) (on_few (suc (length ts))) st i due es s ts (last_event es) in
      let a = h.0 in
      (omega (arith, a, le), h.1)

  run_few : (count n : ℕ) (w : Woven Held) (size : ℕ) → length w.threads ≡ size → length (run_with (weave loom) count n w).events ≤ times count (4 + size)
  run_few zero n w size e = omega arith
  run_few (suc count) n w size e = by_ready (λ m v q. run_few count m v size q) (standing_now w)
    where
      by_turn : ((m : ℕ) (v : Woven Held) → length v.threads ≡ size → length (run_with (weave loom) count m v).events ≤ times count (4 + size)) → (r : Ready Held) → (o : Turn Held Note) → Short o
          → length (pay (run_with (weave loom) count) n w (moved loom (loom.starts r.at) w.now r.due w.threads o)).events ≤ (4 + size) + times count (4 + size)
      by_turn more r stops h = omega arith
      by_turn more r (goes k es u) h = by_cost (nat_lt k n)
        where
          r1 : Ran (Woven Held) Told
          r1 = woven loom (loom.starts r.at) w.now r.due es u w.threads

          few : Few (4 + length w.threads) (length w.threads) r1
          few = woven_few (loom.starts r.at) w.now r.due es u w.threads h

          by_cost : (b : Bool) → length (if b then after r1.events (run_with (weave loom) count (n - suc k) r1.last) else still w).events ≤ (4 + size) + times count (4 + size)
          by_cost true =
              let a = length-append r1.events (run_with (weave loom) count (n - suc k) r1.last).events in
              let b = more (n - suc k) r1.last (few.1 ∙ e) in
              let c = few.0 in
              omega (arith, a, b, c, e)
          by_cost false = omega arith

      by_ready : ((m : ℕ) (v : Woven Held) → length v.threads ≡ size → length (run_with (weave loom) count m v).events ≤ times count (4 + size)) → (o : Option (Ready Held))
          → length (pay (run_with (weave loom) count) n w (move_of loom w.now w.threads o)).events ≤ (4 + size) + times count (4 + size)
      by_ready more None = omega arith
      by_ready more (Some r) = by_turn more r (loom.next w.now r.at) (protocol_short g.source (exports_of g.source) (plan_of g (strand_at g w.now)) r.at)

-- all strands but the first
begin_long : (g : StrandProgram) (ss : List Strand) (oss : List (List Outcome)) → length (beginnings (free no_store) g ss oss) ≤ length ss
begin_long g [] oss = omega arith
begin_long g (s ∷ ss) [] = omega arith
begin_long g (s ∷ ss) (os ∷ oss) = let h = begin_long g ss oss in omega (arith, h)

mapped_long : {A B : Type 0} (f : A → B) (xs : List A) → length (map f xs) ≡ length xs
mapped_long f [] = refl
mapped_long f (x ∷ xs) = ap suc (mapped_long f xs)

times_more : (m a b : ℕ) → a ≤ b → times m a ≤ times m b
times_more zero a b le = omega arith
times_more (suc m) a b le = let h = times_more m a b le in omega (arith, h, le)

-- so many notes at most a program's strands tell
abbrev pub most_told : StrandsInWorld → ℕ
most_told g = (5 + length g.program.strands) + times g.steps (5 + length g.program.strands) + 1

pub story_length : (g : StrandsInWorld) (oss : List (List Outcome)) (ts : List Told) → HeldStrands g oss ts → length ts ≤ most_told g
story_length g oss ts e =
    let few = woven_few p true 0 0 b.events b.last threads (omega (arith, begun)) in
    let r1 = woven (loom p) true 0 0 b.events b.last threads in
    let ran = run_few p g.steps g.steps r1.last (length threads) few.1 in
    let r2 = run (weave (loom p)) g.steps r1.last in
    let a = length-append r1.events r2.events in
    let c = length-append (ProtocolStrands p oss g.steps).events (strand_unless_over g.steps (standing_now (ProtocolStrands p oss g.steps).last)) in
    let z = ap length e in
    let f = few.0 in
    let u = unless_short (standing_now (ProtocolStrands p oss g.steps).last) in
    let more = times_more g.steps (4 + length threads) (5 + length p.strands) (omega (arith, size)) in
    omega (arith, ran, a, c, z, f, u, more, size)
  where
    p : StrandProgram
    p = g.program

    b : Ran Held Note
    b = held_begun p.source.start (all_left (plan_of p (strand_at p 0)) (first_outcomes oss)) (opening p.source p.globals)

    threads : List (Thread Held)
    threads = map (λ (x : Held). record { due = 0; at = Some x }) (b.last ∷ beginnings (free no_store) p (drop 1 p.strands) (drop 1 oss))

    begun : length b.events ≤ 1
    begun = begun_short p.source.start (all_left (plan_of p (strand_at p 0)) (first_outcomes oss)) (opening p.source p.globals)

    less : (ss : List Strand) → length (drop 1 ss) ≤ length ss
    less [] = omega arith
    less (s ∷ ss) = omega arith

    size : length threads ≤ 1 + length p.strands
    size =
        let x = mapped_long {A = Held} {B = Thread Held} (λ (x : Held). record { due = 0; at = Some x }) (b.last ∷ beginnings (free no_store) p (drop 1 p.strands) (drop 1 oss)) in
        let y = begin_long p (drop 1 p.strands) (drop 1 oss) in
        let z = less p.strands in
        omega (arith, x, y, z)

    unless_short : (o : Option (Ready Held)) → length (strand_unless_over g.steps o) ≤ 1
    unless_short None = omega arith
    unless_short (Some r) = omega arith
