-- What strands tell in the protocol world closes each turn that it opens.
use Rattle.std.proofs.Common.{arith, ◌≡◌, ◌<◌, ℕ, zero, suc, ◌+◌, ◌-◌, List, [], ◌∷◌, ◌++◌, length, Option, Some, None, Bool, true, false, refl, sym, ap, ◌∙◌, subst, append_assoc}
use Rattle.std.specs.Prelude.{MatchBool, drop, map, nat_lt, if◌then◌else◌}
use Rattle.wa_model.specs.declared.events.End.{End}
use Rattle.wa_model.specs.Blocking.{Note, all_left, no_store}
use Rattle.wa_model.specs.Instantiation.{opening}
use Rattle.wa_model.specs.Machine.{Ran, Turn, after, goes, pay, run, run_with, still, stops}
use Rattle.wa_model.specs.Outside.{Event, answered, called, ended, parked, paused, returned, shown}
use Rattle.wa_model.specs.Plan.{Outcome}
use Rattle.wa_model.specs.Protocol.{Held, exports_of, free, held_begun}
use Rattle.wa_model.specs.Store.{Store}
use Rattle.world_model.specs.World.{ends_turn}
use Rattle.strand_laws.proofs.ByTurns.{first_there, standing_there}
use Rattle.strand_laws.proofs.TurnEnds.{Chunk, ChunkTurn, held_begun_chunk, held_wakes_chunk, protocol_chunk}
use Rattle.strand_laws.proofs.WovenRuns.{stands, stands_none}
use Rattle.strand_laws.specs.StrandWorld.{HeldStrands, StrandsInWorld, strand_unless_over}
use Rattle.strand_laws.specs.Strands.{ProtocolStrands, StrandProgram, beginnings, first_outcomes, held_loom, plan_of, strand_at}
use Rattle.strand_laws.specs.ToldStrands.{EndsOnce}
use Rattle.strand_laws.specs.Weaving.{Dues, GoesByTurns, dues_behind, now_behind}
use Rattle.strand_laws.specs.Woven.{Loom, Ready, Thread, Told, Woven, awake, ends_strand, finished, first_ready, going, last_event, move_of, moved, put, standing_now, told_by, weave, weave_on, woven, woven_by}

-- no turn is open at the end, where this strand goes on at the start
abbrev pub Closes : Option ℕ → List Told → Type 0
Closes None [] = Unit {0}
Closes (Some i) [] = ⊥
Closes now (t ∷ ts) = Closes (now_behind t.strand t.note.event) ts

abbrev now_opt : ℕ → Option Event → Option ℕ
now_opt i None = Some i
now_opt i (Some e) = now_behind i e

none_there : {A : Type 0} → false ≡ true → A
none_there e = let no_way : ⊥ = cc in absurd no_way

quiet_on : (i : ℕ) (e : Event) (ts : List Told) → ends_turn e ≡ false → Closes (Some i) ts → Closes (now_behind i e) ts
quiet_on i (called c) ts h g = g
quiet_on i (answered said) ts h g = g
quiet_on i (parked used) ts h g = g
quiet_on i (returned n x) ts h g = g
quiet_on i (shown a b) ts h g = g
quiet_on i (paused t u) ts h g = none_there (sym h)
quiet_on i (ended how) ts h g = none_there (sym h)

through : (i : ℕ) (es : List Note) (rest : List Told) → Chunk es → Closes (now_opt i (last_event es)) rest → Closes (Some i) (told_by i es ++ rest)
through i [] rest h g = g
through i (x ∷ []) rest h g = g
through i (x ∷ y ∷ ys) rest h g = quiet_on i x.event (told_by i (y ∷ ys) ++ rest) h.0 (through i (y ∷ ys) rest h.1 g)

-- a turn that begins
to_none : (i : ℕ) (ts : List Told) → Closes (Some i) ts → Closes None ts
to_none i [] g = absurd g
to_none i (t ∷ ts) g = g

pub to_some : (i : ℕ) (t : Told) (ts : List Told) → Closes None (t ∷ ts) → Closes (Some i) (t ∷ ts)
to_some i t ts g = g

module _ (g : StrandProgram) where
  abbrev loom : Loom Held
  loom = held_loom g

  abbrev AtOf : Woven Held → Option (Ready Held) → List Told → Type 0
  AtOf w None tail = tail ≡ []
  AtOf w (Some r) tail = Closes (Some w.now) tail

  abbrev At : Woven Held → List Told → Type 0
  At w tail = AtOf w (standing_now w) tail

  abbrev Goal : Option ℕ → Ran (Woven Held) Told → Type 0
  Goal now r = (tail : List Told) → At r.last tail → Closes now (r.events ++ tail)

  nothing : (ts : List (Thread Held)) (tail : List Told) → At (finished ts) tail → Closes None tail
  nothing ts tail h =
      let z : tail ≡ [] = subst (λ o. AtOf (finished ts) o tail) (stands_none loom ts) h in
      subst (Closes None) (sym z) tt

  module _ (again : Store → List (Thread Held) → Ran (Woven Held) Told) (ok : (t : Store) (ts : List (Thread Held)) → Goal None (again t ts)) where
    by_event : (st : Bool) (i due : ℕ) (es : List Note) (s : Held) (ts : List (Thread Held)) (e : Option Event) → i < length ts → Chunk es → last_event es ≡ e
        → Goal (Some i) (woven_by loom again st i due es s ts e)
    by_event st i due es s ts e lt ch le = by_case e le
      where
        on_from : (o : Option Event) → last_event es ≡ o → (rest : List Told) → Closes (now_opt i o) rest → Closes (Some i) (told_by i es ++ rest)
        on_from o q rest c = through i es rest ch (subst (λ z. Closes (now_opt i z) rest) (sym q) c)

        stay : (tail : List Told) → At (going i due s ts) tail → Closes (Some i) tail
        stay tail h = subst (λ o. AtOf (going i due s ts) o tail) (stands loom i due s ts lt) h

        assoc : (a : Ran (Woven Held) Told) (tail : List Told) → Closes (Some i) (told_by i es ++ (a.events ++ tail)) → Closes (Some i) ((told_by i es ++ a.events) ++ tail)
        assoc a tail c = subst (Closes (Some i)) (sym (append_assoc (told_by i es) a.events tail)) c

        by_end : (how : End) → last_event es ≡ Some (ended how) → (c : Bool)
            → Goal (Some i) (after (told_by i es) (if c then again (loom.store s) (put i due None ts) else still (finished (put i due None ts))))
        by_end how q true tail h =
            let a = again (loom.store s) (put i due None ts) in
            assoc a tail (on_from (Some (ended how)) q (a.events ++ tail) (ok (loom.store s) (put i due None ts) tail h))
        by_end how q false tail h = assoc (still (finished (put i due None ts))) tail (on_from (Some (ended how)) q tail (nothing (put i due None ts) tail h))

        by_case : (o : Option Event) → last_event es ≡ o → Goal (Some i) (woven_by loom again st i due es s ts o)
        by_case None q tail h = on_from None q tail (stay tail h)
        by_case (Some (called c)) q tail h = on_from (Some (called c)) q tail (stay tail h)
        by_case (Some (answered x)) q tail h = on_from (Some (answered x)) q tail (stay tail h)
        by_case (Some (parked x)) q tail h = on_from (Some (parked x)) q tail (stay tail h)
        by_case (Some (returned n x)) q tail h = on_from (Some (returned n x)) q tail (stay tail h)
        by_case (Some (shown a b)) q tail h = on_from (Some (shown a b)) q tail (stay tail h)
        by_case (Some (paused ticks used)) q tail h =
            let a = again (loom.store s) (put i (due + ticks) (Some s) ts) in
            assoc a tail (on_from (Some (paused ticks used)) q (a.events ++ tail) (ok (loom.store s) (put i (due + ticks) (Some s) ts) tail h))
        by_case (Some (ended how)) q tail h = by_end how q (ends_strand st how) tail h

    first_lt : (ts : List (Thread Held)) (r : Ready Held) → first_ready 0 ts ≡ Some r → r.strand < length ts
    first_lt ts r e = (first_there ts r e).0

    awakes : (t : Store) (ts : List (Thread Held)) (o : Option (Ready Held)) → first_ready 0 ts ≡ o → Goal None (awake loom again t ts o)
    awakes t ts None e tail h = nothing ts tail h
    awakes t ts (Some r) e tail h =
        to_none r.strand ((woven_by loom again false r.strand r.due (loom.wakes t r.at).events (loom.wakes t r.at).last ts (last_event (loom.wakes t r.at).events)).events ++ tail)
        (by_event false r.strand r.due (loom.wakes t r.at).events (loom.wakes t r.at).last ts (last_event (loom.wakes t r.at).events) (first_lt ts r e) (held_wakes_chunk t r.at) refl tail h)

  weaves_on : (most : ℕ) (t : Store) (ts : List (Thread Held)) → Goal None (weave_on loom most t ts)
  weaves_on zero t ts tail h = nothing ts tail h
  weaves_on (suc most) t ts tail h = awakes (weave_on loom most) (weaves_on most) t ts (first_ready 0 ts) refl tail h

  woven_closes : (st : Bool) (i due : ℕ) (es : List Note) (s : Held) (ts : List (Thread Held)) → i < length ts → Chunk es → Goal (Some i) (woven loom st i due es s ts)
  woven_closes st i due es s ts lt ch = by_event (weave_on loom (suc (length ts))) (weaves_on (suc (length ts))) st i due es s ts (last_event es) lt ch refl

  abbrev RunGoal : Woven Held → Ran (Woven Held) Told → Type 0
  RunGoal w r = (tail : List Told) → At r.last tail → At w (r.events ++ tail)

  module _ (most : ℕ) (ok : (n : ℕ) (w : Woven Held) → RunGoal w (run_with (weave loom) most n w)) (n : ℕ) (w : Woven Held) where
    abbrev Paid : Turn (Woven Held) Told → Type 0
    Paid o = RunGoal w (pay (run_with (weave loom) most) n w o)

    by_cost : (r : Ready Held) → standing_now w ≡ Some r → (k : ℕ) (es : List Note) (s : Held) → Chunk es → (c : Bool)
        → RunGoal w (if c then after (woven loom (loom.starts r.at) w.now r.due es s w.threads).events (run_with (weave loom) most (n - suc k) (woven loom
        (loom.starts r.at) w.now r.due es s w.threads).last) else still w)
    by_cost r e k es s ch false tail h = h
    by_cost r e k es s ch true tail h =
        let x = woven loom (loom.starts r.at) w.now r.due es s w.threads in
        let y = run_with (weave loom) most (n - suc k) x.last in
        let c : Closes (Some w.now) (x.events ++ (y.events ++ tail)) =
        woven_closes (loom.starts r.at) w.now r.due es s w.threads (standing_there w.threads w.now w.now r e).0 ch (y.events ++ tail) (ok (n - suc k) x.last tail h) in
        subst (λ o. AtOf w o ((x.events ++ y.events) ++ tail)) (sym e) (subst (Closes (Some w.now)) (sym (append_assoc x.events y.events tail)) c)

    by_turn : (r : Ready Held) → standing_now w ≡ Some r → (o : Turn Held Note) → ChunkTurn o → Paid (moved loom (loom.starts r.at) w.now r.due w.threads o)
    by_turn r e stops ch tail h = h
    by_turn r e (goes k es s) ch tail h = by_cost r e k es s ch (nat_lt k n) tail h

    by_standing : (o : Option (Ready Held)) → standing_now w ≡ o → Paid (move_of loom w.now w.threads o)
    by_standing None e tail h = h
    by_standing (Some r) e tail h = by_turn r e (loom.next w.now r.at) (protocol_chunk g.source (exports_of g.source) (plan_of g (strand_at g w.now)) r.at) tail h

  runs_on : (most n : ℕ) (w : Woven Held) → RunGoal w (run_with (weave loom) most n w)
  runs_on zero n w tail h = h
  runs_on (suc most) n w tail h = by_standing most (runs_on most) n w (standing_now w) refl tail h

-- What a program's strands tell closes each turn, from that of the first strand on.
first_closes : (g : StrandsInWorld) (oss : List (List Outcome)) (ts : List Told) → HeldStrands g oss ts → Closes (Some 0) ts
first_closes g oss ts e = subst (Closes (Some 0)) (sym e) all
  where
    p : StrandProgram
    p = g.program

    b : Ran Held Note
    b = held_begun p.source.start (all_left (plan_of p (strand_at p 0)) (first_outcomes oss)) (opening p.source p.globals)

    threads : List (Thread Held)
    threads = map (λ (x : Held). record { due = 0; at = Some x }) (b.last ∷ beginnings (free no_store) p (drop 1 p.strands) (drop 1 oss))

    x : Ran (Woven Held) Told
    x = woven (loom p) true 0 0 b.events b.last threads

    y : Ran (Woven Held) Told
    y = run (weave (loom p)) g.steps x.last

    r : Ran (Woven Held) Told
    r = ProtocolStrands p oss g.steps

    told_behind : (o : Option (Ready Held)) → standing_now r.last ≡ o → AtOf p r.last o (strand_unless_over g.steps o)
    told_behind None q = refl
    told_behind (Some q) z = tt

    at_end : At p r.last (strand_unless_over g.steps (standing_now r.last))
    at_end = told_behind (standing_now r.last) refl

    all : Closes (Some 0) (r.events ++ strand_unless_over g.steps (standing_now r.last))
    all =
        subst (Closes (Some 0)) (sym (append_assoc x.events y.events (strand_unless_over g.steps (standing_now r.last))))
        (woven_closes p true 0 0 b.events b.last threads (omega arith)
        (held_begun_chunk p.source.start (all_left (plan_of p (strand_at p 0)) (first_outcomes oss)) (opening p.source p.globals))
        (y.events ++ strand_unless_over g.steps (standing_now r.last)) (runs_on p g.steps g.steps x.last (strand_unless_over g.steps (standing_now r.last)) at_end))

pub story_closes : (g : StrandsInWorld) (oss : List (List Outcome)) (ts : List Told) → HeldStrands g oss ts → Closes None ts
story_closes g oss ts e = to_none 0 ts (first_closes g oss ts e)

-- so it isn't empty
pub story_some : (g : StrandsInWorld) (oss : List (List Outcome)) (ts : List Told) → HeldStrands g oss ts → 0 < length ts
story_some g oss ts e = by ts (first_closes g oss ts e)
  where
    by : (us : List Told) → Closes (Some 0) us → 0 < length us
    by [] c = absurd c
    by (u ∷ us) c = omega arith

-- ---- turns

-- behind a turn that closes
module _ (k : ℕ) (rest : List Told) where
  pub closed_behind : (xs : List Note) → EndsOnce xs → (now : Option ℕ) → Closes now (told_by k xs ++ rest) → Closes None rest
  closed_behind [] h now c = absurd h
  closed_behind (x ∷ xs) h now c = by_event x.event h c (closed_behind xs)
    where
      by_event : (e : Event) → MatchBool (ends_turn e) (xs ≡ []) (EndsOnce xs) → Closes (now_behind k e) (told_by k xs ++ rest)
          → (EndsOnce xs → (now : Option ℕ) → Closes now (told_by k xs ++ rest) → Closes None rest) → Closes None rest
      by_event (called d) w c on = on w (Some k) c
      by_event (answered d) w c on = on w (Some k) c
      by_event (parked d) w c on = on w (Some k) c
      by_event (returned d f) w c on = on w (Some k) c
      by_event (shown d f) w c on = on w (Some k) c
      by_event (paused t u) w c on = subst (λ (ys : List Note). Closes None (told_by k ys ++ rest)) w c
      by_event (ended how) w c on = subst (λ (ys : List Note). Closes None (told_by k ys ++ rest)) w c

-- The turn of a strand that goes on, in front of what is told behind it.
pub record FirstTurn (k : ℕ) (ts : List Told) : Type 0 where
  pub turn : List Note
  pub rest : List Told
  pub whole : EndsOnce turn
  pub split : ts ≡ told_by k turn ++ rest

pub first_turn : (k : ℕ) (v : Dues) (ts : List Told) → Closes (Some k) ts → GoesByTurns (Some k) v ts → FirstTurn k ts
first_turn k v [] c g = absurd c
first_turn k v (t ∷ ts) c g = by_kind t.note.event refl (subst (λ i. Closes (now_behind i t.note.event) ts) (sym g.0) c) (λ v2 c2 g2. first_turn k v2 ts c2 g2)
  where
    same : t ∷ ts ≡ record { strand = k; note = t.note } ∷ ts
    same = ap (λ i. record { strand = i; note = t.note } ∷ ts) (sym g.0)

    last : ends_turn t.note.event ≡ true → FirstTurn k (t ∷ ts)
    last e = record { turn = t.note ∷ []; rest = ts; whole = subst (λ b. MatchBool b (none ≡ []) (EndsOnce [])) (sym e) refl; split = same }
      where
        none : List Note
        none = []

    more : ends_turn t.note.event ≡ false → FirstTurn k ts → FirstTurn k (t ∷ ts)
    more e f = record {
      turn = t.note ∷ f.turn;
      rest = f.rest;
      whole = subst (λ b. MatchBool b (f.turn ≡ []) (EndsOnce f.turn)) (sym e) f.whole;
      split = same ∙ ap (λ (us : List Told). record { strand = k; note = t.note } ∷ us) f.split;
    }

    on : (e : Event) → t.note.event ≡ e → now_behind k e ≡ Some k → Closes (now_behind k e) ts → ((v2 : Dues) → Closes (Some k) ts → GoesByTurns (Some k) v2 ts → FirstTurn k ts) → FirstTurn k ts
    on e is stays c2 again =
        again (dues_behind t.strand t.note.event v) (subst (λ o. Closes o ts) stays c2)
        (subst (λ o. GoesByTurns o (dues_behind t.strand t.note.event v) ts) (ap (λ d. now_behind t.strand d) is ∙ ap (λ i. now_behind i e) (sym g.0) ∙ stays) g.1)

    by_kind : (e : Event) → t.note.event ≡ e → Closes (now_behind k e) ts → ((v2 : Dues) → Closes (Some k) ts → GoesByTurns (Some k) v2 ts → FirstTurn k ts) → FirstTurn k (t ∷ ts)
    by_kind (called d) is c2 again = more (ap ends_turn is) (on (called d) is refl c2 again)
    by_kind (answered d) is c2 again = more (ap ends_turn is) (on (answered d) is refl c2 again)
    by_kind (parked d) is c2 again = more (ap ends_turn is) (on (parked d) is refl c2 again)
    by_kind (returned d f) is c2 again = more (ap ends_turn is) (on (returned d f) is refl c2 again)
    by_kind (shown d f) is c2 again = more (ap ends_turn is) (on (shown d f) is refl c2 again)
    by_kind (paused t u) is c2 again = last (ap ends_turn is)
    by_kind (ended how) is c2 again = last (ap ends_turn is)
