-- What the strands of a rewritten module tell under the protocol is what those of its original can tell.
use Rattle.std.proofs.Common.{arith, ◌≡◌, ◌≤◌, ◌<◌, ◌+◌, ◌*◌, ◌-◌, ℕ, zero, suc, List, [], ◌∷◌, ◌++◌, length, take, Option, Some, None, true, All, refl, sym, ap, ◌∙◌, subst, ⊎_elim}
use Rattle.std.proofs.Common.{append-nil, append_assoc, length-append}
use Rattle.std.specs.Prelude.{drop, map, slice_get}
use Rattle.std.specs.List.{AllZip, sum_by}
use Rattle.std.proofs.lemmas.List.{length-map}
use Rattle.std.proofs.lemmas.List.Elements.{All-cons, All-head, All-nil, All-tail}
use Rattle.std.proofs.lemmas.Bool.{cases_lt}
use Rattle.wa_types.specs.Base.{Base}
use Rattle.wa_types.specs.Bounds.{Bound, activation_bound}
use Rattle.wa_types.specs.Frames.{Suspended}
use Rattle.wa_types.specs.Pausing.{Settings}
use Rattle.wa_types.specs.Syntax.{Module}
use Rattle.wa_model.specs.declared.events.End.TheVariants.{StepsSpent}
use Rattle.wa_model.specs.Behaves.{IsPrefix, PauseNumbered, pause_stacks}
use Rattle.wa_model.specs.Blocking.{all_left, begun, between, no_store, note}
use Rattle.wa_model.specs.Instantiation.{opening}
use Rattle.wa_model.specs.Machine.{Ran, run}
use Rattle.wa_model.specs.Outside.{Event, ended}
use Rattle.wa_model.specs.Plan.{Outcome}
use Rattle.wa_model.specs.Protocol.{Held, free, held_begun, store_held}
use Rattle.wa_model.specs.Store.{Store}
use Rattle.run_theory.proofs.Runs.{prefix_of_longer, prefix_on}
use Rattle.strand_laws.proofs.AllByTurns.{all_go_by_turns}
use Rattle.strand_laws.proofs.EndTogether.{last_over, run_over, run_split}
use Rattle.strand_laws.proofs.WovenEnds.{ends_are_told, goes_now}
use Rattle.strand_laws.specs.StrandOriginals.{BoundedStrandsEnd, SameStrandMoment, StrandsBounded, StrandStoriesOfOriginals, StrandsMayRun, StrandsOrderly, StrandsStandIn}
use Rattle.strand_laws.specs.StrandWorld.{HeldStrands, IsStrandCertain, StrandOriginal, StrandsInWorld, StrungStrands, spent, strand_next, strand_unless_over, whole}
use Rattle.strand_laws.specs.Strands.{AgreesNow, BlockingStrands, ProtocolStrands, StrandEvent, StrandMoment, StrandProgram, StrandsBehaveOn, StrandsCompared, StrandsNumbered, Strung, IsCalmNow}
use Rattle.strand_laws.specs.Strands.{at_cost, at_note, beginnings, events_told, first_outcomes, held_loom, on, plan_of, strand_at, strung_from, strung_loom, with_source}
use Rattle.strand_laws.specs.Weaving.{Dues, GoesByTurns, HasTurn, all_due, dues_behind, is_there, now_behind}
use Rattle.strand_laws.specs.Woven.{Loom, Ready, Told, Woven, notes_told, standing_now, weave, woven, woven_on}

-- ---- lists

-- where each on the right has one beside it, as many on the left do
zip_of : {X Y : Type 0} (R : X → Y → Type 0) (xs : List X) (ys : List Y) → ((i : ℕ) (y : Y) → slice_get ys i ≡ Some y → (x : X) × (slice_get xs i ≡ Some x) × R x y)
    → AllZip R (take (length ys) xs) ys
zip_of R xs [] h = tt
zip_of R [] (y ∷ ys) h = let w = h 0 y refl in let e : None ≡ Some w.0 = w.1 in let no_way : ⊥ = cc in absurd no_way
zip_of {X} R (x ∷ xs) (y ∷ ys) h = (first (h 0 y refl), zip_of R xs ys (λ i z e. h (suc i) z e))
  where
    first : (z : X) × (slice_get (x ∷ xs) 0 ≡ Some z) × R z y → R x y
    first w = subst (λ (z : X). R z y) (sym (some_same x w.0 w.1)) w.2
      where
        some_same : (a b : X) → Some a ≡ Some b → a ≡ b
        some_same a b e = cc

zip_long : {X Y : Type 0} (R : X → Y → Type 0) (xs : List X) (ys : List Y) → AllZip R xs ys → length xs ≡ length ys
zip_long R [] [] h = refl
zip_long R [] (y ∷ ys) h = absurd h
zip_long R (x ∷ xs) [] h = absurd h
zip_long R (x ∷ xs) (y ∷ ys) h = ap suc (zip_long R xs ys h.1)

zip_last : {X Y : Type 0} (R : X → Y → Type 0) (xs : List X) (ys : List Y) (x : X) (y : Y) → AllZip R xs ys → R x y → AllZip R (xs ++ x ∷ []) (ys ++ y ∷ [])
zip_last R [] [] x y h r = (r, tt)
zip_last R [] (b ∷ ys) x y h r = absurd h
zip_last R (a ∷ xs) [] x y h r = absurd h
zip_last R (a ∷ xs) (b ∷ ys) x y h r = (h.0, zip_last R xs ys x y h.1 r)

take_short : {X : Type 0} (n : ℕ) (xs : List X) → length (take n xs) ≤ length xs
take_short zero xs = omega arith
take_short (suc n) [] = omega arith
take_short (suc n) (x ∷ xs) = let h = take_short n xs in omega (arith, h)

take_front : {X : Type 0} (xs ys : List X) (n : ℕ) → n ≡ length xs → take n (xs ++ ys) ≡ xs
take_front [] ys zero e = refl
take_front [] ys (suc n) e = let no_way : ⊥ = omega (arith, e) in absurd no_way
take_front (x ∷ xs) ys zero e = let no_way : ⊥ = omega (arith, e) in absurd no_way
take_front {X} (x ∷ xs) ys (suc n) e = ap (λ (zs : List X). x ∷ zs) (take_front xs ys n (omega (arith, e)))

take_prefix : {X : Type 0} (xs all : List X) (n : ℕ) → IsPrefix xs all → n ≡ length xs → xs ≡ take n all
take_prefix {X} xs all n h e = sym (ap (λ (zs : List X). take n zs) h.1 ∙ take_front xs h.0 n e)

take_all : {X : Type 0} (xs : List X) (n : ℕ) → n ≡ length xs → take n xs ≡ xs
take_all {X} xs n e = sym (ap (λ (zs : List X). take n zs) (append-nil xs)) ∙ take_front xs [] n e

prefix_long : {X : Type 0} (xs ys : List X) → IsPrefix xs ys → length xs ≤ length ys
prefix_long xs ys h =
    let e : length ys ≡ length (xs ++ h.0) = ap length h.1 in
    let l = length-append xs h.0 in
    omega (arith, e, l)

all_first : {X : Type 0} (P : X → Type 0) (xs ys : List X) → All P (xs ++ ys) → All P xs
all_first P [] ys h = All-nil P
all_first P (x ∷ xs) ys h = All-cons P x xs (All-head P x (xs ++ ys) h) (all_first P xs ys (All-tail P x (xs ++ ys) h))

none_there : {X : Type 0} (xs : List X) (n : ℕ) → slice_get xs n ≡ None → length xs ≤ n
none_there [] n e = omega arith
none_there (x ∷ xs) zero e = let no_way : ⊥ = cc in absurd no_way
none_there (x ∷ xs) (suc n) e = let h = none_there xs n e in omega (arith, h)

nothing_there : {X : Type 0} (xs : List X) (n : ℕ) → length xs ≤ n → slice_get xs n ≡ None
nothing_there [] n le = refl
nothing_there (x ∷ xs) zero le = let no_way : ⊥ = omega (arith, le) in absurd no_way
nothing_there (x ∷ xs) (suc n) le = nothing_there xs n (omega (arith, le))

told_long : (ts : List Told) → length (events_told ts) ≡ length ts
told_long ts = length-map ts (λ (t : Told). record { strand = t.strand; event = t.note.event })

-- a run's bound is at least its cost
pub bound_above : (m : Module) (c n : ℕ) (pauses : List (List Suspended)) → Bound m c pauses ≤ n → c ≤ n
bound_above m c n pauses le = above (sum_by (λ (stack : List Suspended). 256 + sum_by (activation_bound m) stack) pauses) le
  where
    above : (more : ℕ) → 256 * (c + 1) + more ≤ n → c ≤ n
    above more h = omega arith

-- ---- woven runs grow

module _ {S : Type 0} (loom : Loom S) (r : Ran (Woven S) Told) where
  pub grows : (n more : ℕ) → IsPrefix (woven_on loom n r).events (woven_on loom (n + more) r).events
  grows n more =
      let le : n ≤ n = omega arith in
      prefix_on (Woven S) Told (weave loom) r.events (run (weave loom) n r.last).events (run (weave loom) (n + more) r.last).events (prefix_of_longer (Woven S) Told (weave loom) n n more r.last le)

  -- but not where no strand goes on
  pub stays_over : (n more : ℕ) → standing_now (woven_on loom n r).last ≡ None → (woven_on loom (n + more) r).events ≡ (woven_on loom n r).events
  stays_over n more h =
      let u = run (weave loom) n r.last in
      let sp = run_split (Woven S) Told (weave loom) goes_now (ends_are_told loom) n more r.last in
      let over = run_over (Woven S) Told (weave loom) goes_now (ends_are_told loom) ((n - sp.0) + more) u.last (ap is_there h) in
      ap (λ (es : List Told). r.events ++ es)
      (ap (λ (q : Ran (Woven S) Told). q.events) sp.2 ∙ ap (λ (q : Ran (Woven S) Told). u.events ++ q.events) over ∙ append-nil u.events)

  pub still_over : (n more : ℕ) → standing_now (woven_on loom n r).last ≡ None → standing_now (woven_on loom (n + more) r).last ≡ None
  still_over n more h = ap standing_now (last_over (Woven S) Told (weave loom) goes_now (ends_are_told loom) n more r.last (ap is_there h)) ∙ h

-- ---- whose turn it is

one_turn : (now : Option ℕ) (v : Dues) (i j : ℕ) → HasTurn now v i → HasTurn now v j → i ≡ j
one_turn None v i j h k =
    ⊎_elim (λ lt. ⊎_elim (λ lt2. let no_way : ⊥ = omega (arith, lt, lt2) in absurd no_way) (λ le2. let e = le2.0 in let no_way : ⊥ = omega (arith, lt, e) in absurd no_way) (k.least i h.ready))
    (λ le. ⊎_elim (λ lt2. let e = le.0 in let no_way : ⊥ = omega (arith, e, lt2) in absurd no_way) (λ le2. let a = le.1 in let b = le2.1 in omega (arith, a, b)) (k.least i h.ready))
    (h.least j k.ready)
one_turn (Some n) v i j h k = sym h ∙ k

same_turn : (now : Option ℕ) (v : Dues) (xs ys : List Told) (x y : Told) → events_told xs ≡ events_told ys → GoesByTurns now v (xs ++ x ∷ []) → GoesByTurns now v (ys ++ y ∷ [])
    → x.strand ≡ y.strand
same_turn now v [] [] x y e h k = one_turn now v x.strand y.strand h.0 k.0
same_turn now v [] (b ∷ ys) x y e h k = let no_way : ⊥ = cc in absurd no_way
same_turn now v (a ∷ xs) [] x y e h k = let no_way : ⊥ = cc in absurd no_way
same_turn now v (a ∷ xs) (b ∷ ys) x y e h k = same_turn (now_behind b.strand b.note.event) (dues_behind b.strand b.note.event v) xs ys x y rest (subst Behind first h.1) k.1
  where
    event_of : Told → StrandEvent
    event_of t = record { strand = t.strand; event = t.note.event }

    heads : (c d : StrandEvent) (cs ds : List StrandEvent) → c ∷ cs ≡ d ∷ ds → c ≡ d
    heads c d cs ds q = cc

    tails : (c d : StrandEvent) (cs ds : List StrandEvent) → c ∷ cs ≡ d ∷ ds → cs ≡ ds
    tails c d cs ds q = cc

    first : event_of a ≡ event_of b
    first = heads (event_of a) (event_of b) (events_told xs) (events_told ys) e

    rest : events_told xs ≡ events_told ys
    rest = tails (event_of a) (event_of b) (events_told xs) (events_told ys) e

    Behind : StrandEvent → Type 0
    Behind c = GoesByTurns (now_behind c.strand c.event) (dues_behind c.strand c.event v) (xs ++ x ∷ [])

-- ---- an original's strands

-- where they stand behind instantiation
abbrev strung_first : Settings → StrandProgram → List (List Outcome) → Ran (Woven Strung) Told
strung_first s g oss =
    let r = strung_from (begun (Base g.source).start (all_left (plan_of g (strand_at g 0)) (first_outcomes oss)) (opening (Base g.source) g.globals)) in
    woven (strung_loom s g) true 0 0 r.events r.last (map (λ (t : Strung). record { due = 0; at = Some t }) (r.last ∷ beginnings (λ l. on (between no_store l)) g (drop 1 g.strands) (drop 1 oss)))

-- those that have ended make nothing more
pub ended_on : (s : Settings) (g : StrandProgram) (oss : List (List Outcome)) (n most : ℕ) → n ≤ most → standing_now (BlockingStrands s g oss n).last ≡ None
    → ((BlockingStrands s g oss n).events ≡ (BlockingStrands s g oss most).events) × (standing_now (BlockingStrands s g oss most).last ≡ None)
ended_on s g oss n most le over =
    let z : n + (most - n) ≡ most = omega (arith, le) in (
      subst (λ i. (BlockingStrands s g oss n).events ≡ (BlockingStrands s g oss i).events) z (sym (stays_over (strung_loom s g) (strung_first s g oss) n (most - n) over)),
      subst (λ i. standing_now (BlockingStrands s g oss i).last ≡ None) z (still_over (strung_loom s g) (strung_first s g oss) n (most - n) over),
    )

-- and touch nothing more
pub compared_on : (s : Settings) (g : StrandProgram) (oss : List (List Outcome)) (n most : ℕ) → n ≤ most → standing_now (BlockingStrands s g oss n).last ≡ None → StrandsCompared s g oss n
    → StrandsCompared s g oss most
compared_on s g oss n most le over cmp = record {
  some = cmp.some;
  fits = cmp.fits;
  listed = cmp.listed;
  apart = cmp.apart;
  wide = cmp.wide;
  outcomes = cmp.outcomes;
  untouched = λ j lt. ⊎_elim (λ less. cmp.untouched j less) (λ ge. behind j ge) (cases_lt j n);
}
  where
    behind : (j : ℕ) → n ≤ j → IsCalmNow g.strands (standing_now (BlockingStrands s g oss j).last)
    behind j ge = subst (IsCalmNow g.strands) (sym (ended_on s g oss n j ge over).1) tt

-- ---- one story

-- what such a program tells within so many steps
abbrev told_within : StrandProgram → List (List Outcome) → ℕ → List Told
told_within q oss n = (ProtocolStrands q oss n).events ++ strand_unless_over n (standing_now (ProtocolStrands q oss n).last)

module _ (o : StrandOriginal) (w : StrandsInWorld) (oss : List (List Outcome)) (st : StrandsStandIn o w) (may : StrandsMayRun o) (ord : StrandsOrderly o oss) where
  abbrev g : StrandProgram
  g = o.program.program

  abbrev s : Settings
  s = o.settings

  abbrev p : Module
  p = w.program.source

  abbrev N : ℕ
  N = o.program.steps

  abbrev cmp : StrandsCompared o.settings o.program.program oss o.program.steps
  cmp = ord.compared

  -- the program in the place of the original, with the same steps
  abbrev there : StrandsInWorld
  there = record { program = with_source o.program.program w.program.source; steps = o.program.steps; answers = w.answers; binds = w.binds; looks = w.looks }

  abbrev E : ℕ → List Told
  E k = (BlockingStrands s g oss k).events

  abbrev P : ℕ → List Told
  P k = (ProtocolStrands (with_source g p) oss k).events

  abbrev first_e : Ran (Woven Strung) Told
  first_e = strung_first s g oss

  abbrev first_p : Ran (Woven Held) Told
  first_p =
      let r = held_begun p.start (all_left (plan_of g (strand_at g 0)) (first_outcomes oss)) (opening p g.globals) in
      woven (held_loom (with_source g p)) true 0 0 r.events r.last
      (map (λ (t : Held). record { due = 0; at = Some t }) (r.last ∷ beginnings (free no_store) (with_source g p) (drop 1 g.strands) (drop 1 oss)))

  grows_e : (k n : ℕ) → k ≤ n → IsPrefix (E k) (E n)
  grows_e k n le =
      let z : k + (n - k) ≡ n = omega arith in
      subst (λ j. IsPrefix (E k) (E j)) z (grows (strung_loom s g) first_e k (n - k))

  grows_p : (k n : ℕ) → k ≤ n → length (P k) ≤ length (P n)
  grows_p k n le =
      let z : k + (n - k) ≡ n = omega arith in
      subst (λ j. length (P k) ≤ length (P j)) z (prefix_long (P k) (P (k + (n - k))) (grows (held_loom (with_source g p)) first_p k (n - k)))

  -- the law of the module, for less than its steps too
  behaves : (k : ℕ) → k ≤ N → StrandsBehaveOn s ord.which g p oss k
  behaves k le =
      let less : IsPrefix (E k) (E N) = grows_e k N le in
      let numbered : StrandsNumbered s ord.which g oss k =
      all_first (λ (t : Told). PauseNumbered g.source s ord.which t.note.stack t.note.pause) (E k) less.0
      (subst (λ (xs : List Told). All (λ (t : Told). PauseNumbered g.source s ord.which t.note.stack t.note.pause) xs) less.1 ord.numbered) in
      let lower : StrandsCompared s g oss k = record {
        some = cmp.some;
        fits = cmp.fits;
        listed = cmp.listed;
        apart = cmp.apart;
        wide = cmp.wide;
        outcomes = cmp.outcomes;
        untouched = λ j lt. cmp.untouched j (omega (arith, lt, le));
      } in
      st.rewritten.behave may.well_formed ord.which ord.tells g refl oss k lower numbered

  here : StrandsBehaveOn s ord.which g p oss N
  here = behaves N (omega arith)

  -- what is within the bound is told
  reached : (c : ℕ) → Bound g.source c (pause_stacks (notes_told (E c))) ≤ N → length (E c) ≤ length (P N)
  reached c le =
      let b = behaves c (bound_above g.source c N (pause_stacks (notes_told (E c))) le) in
      let bound : ℕ = Bound g.source c (pause_stacks (notes_told (E c))) in
      let reach = prefix_long (events_told (E c)) (events_told (P bound)) b.reaches in
      let more = grows_p bound N le in
      let le_e = told_long (E c) in
      let le_p = told_long (P bound) in
      omega (arith, reach, more, le_e, le_p)

  not_certain : IsStrandCertain s o.program oss (length (P N)) → ⊥
  not_certain c =
      let lt : length (P N) < length (E c.0) = c.1 in
      let le = reached c.0 c.2 in
      omega (arith, lt, le)

  abbrev Same : Told → Told → Type 0
  Same = SameStrandMoment g

  beside : AllZip Same (take (length (P N)) (E N)) (P N)
  beside = zip_of Same (E N) (P N) (λ i y e. let h = here.notes i y e in (h.0, h.1, record { strand = h.2.strand; event = h.2.event; ends = h.2.ends }))

  zip_events : (xs ys : List Told) → AllZip Same xs ys → events_told xs ≡ events_told ys
  zip_events [] [] h = refl
  zip_events [] (y ∷ ys) h = absurd h
  zip_events (x ∷ xs) [] h = absurd h
  zip_events (x ∷ xs) (y ∷ ys) h =
      ap (λ k. record { strand = k; event = x.note.event } ∷ events_told xs) h.0.strand
      ∙ ap (λ (e : Event). record { strand = y.strand; event = e } ∷ events_told xs) h.0.event
      ∙ ap (λ (es : List StrandEvent). record { strand = y.strand; event = y.note.event } ∷ es) (zip_events xs ys h.1)

  no_more : length (P N) ≤ length (E N)
  no_more =
      let a = zip_long Same (take (length (P N)) (E N)) (P N) beside in
      let b = take_short (length (P N)) (E N) in
      omega (arith, a, b)

  abbrev IsStory : List Told → Type 0
  IsStory ts = (us : List Told) × StrungStrands s o.program oss us × AllZip Same us ts

  -- ---- to the end of the program

  at_end : standing_now (ProtocolStrands (with_source g p) oss N).last ≡ None → IsStory (P N ++ [])
  at_end over =
      let bound : ℕ = Bound g.source N (pause_stacks (notes_told (E N))) in
      let high : N ≤ bound = bound_above g.source N bound (pause_stacks (notes_told (E N))) (omega arith) in
      let z : N + (bound - N) ≡ bound = omega (arith, high) in
      let still : length (P bound) ≡ length (P N) = subst (λ j. length (P j) ≡ length (P N)) z (ap length (stays_over (held_loom (with_source g p)) first_p N (bound - N) over)) in
      let reach = prefix_long (events_told (E N)) (events_told (P bound)) here.reaches in
      let le_e = told_long (E N) in
      let le_p = told_long (P bound) in
      let few = no_more in
      let same : length (P N) ≡ length (E N) = omega (arith, still, reach, le_e, le_p, few) in
      let all : take (length (P N)) (E N) ≡ E N = take_all (E N) (length (P N)) same in (
        E N,
        whole (E N) refl (here.over over),
        subst (AllZip Same (E N)) (sym (append-nil (P N))) (subst (λ (xs : List Told). AllZip Same xs (P N)) all beside),
      )

  -- ---- where its steps are spent

  -- the notes of a moment are the first ones
  moment_first : (ts : List Told) (at : Store) → StrandMoment s g oss N ts at → IsPrefix ts (E N)
  moment_first _ _ (at_cost j le) = grows_e j N le
  moment_first _ _ (at_note before behind x e) = (behind, e ∙ sym (append_assoc before (x ∷ []) behind))

  module _ (ts : List Told) (r : Ready Held) (stands : standing_now (ProtocolStrands (with_source g p) oss N).last ≡ Some r) (tells : ts ≡ P N ++ record { strand = r.strand; note = note (ended (StepsSpent N)) (store_held r.at) } ∷ []) where
    abbrev last_p : Told
    last_p = record { strand = r.strand; note = note (ended (StepsSpent o.program.steps)) (store_held r.at) }

    abbrev spent_by : ℕ → Store → Told
    spent_by k at = record { strand = k; note = note (ended (StepsSpent o.program.steps)) at }

    held : HeldStrands there oss (P N ++ last_p ∷ [])
    held = ap (λ (q : Option (Ready Held)). P N ++ strand_unless_over N q) (sym stands)

    cut_at : (before : List Told) (at : Store) → StrandMoment s g oss N before at → events_told before ≡ events_told (P N)
        → AgreesNow g at (standing_now (ProtocolStrands (with_source g p) oss N).last) → IsStory (P N ++ last_p ∷ [])
    cut_at before at moment same agrees = by_next (strand_next (slice_get (E N) (length (P N))) (standing_now (BlockingStrands s g oss N).last)) refl
      where
        long : length (P N) ≡ length before
        long =
            let a = told_long before in
            let b = told_long (P N) in
            let e = ap length same in
            omega (arith, a, b, e)

        first : before ≡ take (length (P N)) (E N)
        first = take_prefix before (E N) (length (P N)) (moment_first before at moment) long

        by_next : (k : Option ℕ) → strand_next (slice_get (E N) (length (P N))) (standing_now (BlockingStrands s g oss N).last) ≡ k → IsStory (P N ++ last_p ∷ [])
        by_next (Some k) e =
            let story : StrungStrands s o.program oss (before ++ spent_by k at ∷ []) =
            spent (length (P N)) k before (before ++ spent_by k at ∷ []) at first no_more e not_certain moment refl in
            let a = (all_go_by_turns s o.program oss (before ++ spent_by k at ∷ []) cmp.some cmp.wide).strung story in
            let b = (all_go_by_turns s there oss (P N ++ last_p ∷ []) cmp.some cmp.wide).held held in
            let turn : k ≡ r.strand = same_turn None (all_due (length g.strands)) before (P N) (spent_by k at) last_p same a b in (
              before ++ spent_by k at ∷ [],
              story,
              zip_last Same before (P N) (spent_by k at) last_p (subst (λ (xs : List Told). AllZip Same xs (P N)) (sym first) beside)
                  (record { strand = turn; event = refl; ends = subst (AgreesNow g at) stands agrees }),
            )
        by_next None e = absurd (by_parts (slice_get (E N) (length (P N))) (standing_now (BlockingStrands s g oss N).last) refl refl e)
          where
            by_parts : (t : Option Told) (q : Option (Ready Strung)) → slice_get (E N) (length (P N)) ≡ t → standing_now (BlockingStrands s g oss N).last ≡ q → strand_next t q ≡ None → ⊥
            by_parts (Some t) q et eq h = cc
            by_parts None (Some q) et eq h = cc
            by_parts None None et eq h =
                let few = none_there (E N) (length (P N)) et in
                let le = no_more in
                let over = here.over_too eq (omega (arith, few, le)) in
                let bad : Some r ≡ None = sym stands ∙ over in cc

    cut : IsStory ts
    cut = let mo = here.moments in subst IsStory (sym tells) (cut_at mo.0 mo.1 mo.2 mo.3 mo.4)

  told_so : (ts : List Told) → HeldStrands w oss ts → ts ≡ told_within (with_source g p) oss N
  told_so ts h = h ∙ ap (λ (q : StrandProgram). told_within q oss w.steps) st.program ∙ ap (told_within (with_source g p) oss) st.steps

  pub story_of_original : (ts : List Told) → HeldStrands w oss ts → IsStory ts
  story_of_original ts h = by_standing (standing_now (ProtocolStrands (with_source g p) oss N).last) refl
    where
      told : ts ≡ told_within (with_source g p) oss N
      told = told_so ts h

      by_standing : (r : Option (Ready Held)) → standing_now (ProtocolStrands (with_source g p) oss N).last ≡ r → IsStory ts
      by_standing None e = subst IsStory (sym (told ∙ ap (λ (q : Option (Ready Held)). P N ++ strand_unless_over N q) e)) (at_end e)
      by_standing (Some r) e = cut ts r e (told ∙ ap (λ (q : Option (Ready Held)). P N ++ strand_unless_over N q) e)

  -- ---- where the bound is within the steps

  module _ (bounded : StrandsBounded o oss) where
    few : bounded.cost + (N - bounded.cost) ≡ N
    few =
        let le : bounded.cost ≤ N = bound_above g.source bounded.cost N (pause_stacks (notes_told (E bounded.cost))) bounded.within in
        omega (arith, le)

    same_e : E N ≡ E bounded.cost
    same_e = subst (λ j. E j ≡ E bounded.cost) few (stays_over (strung_loom s g) first_e bounded.cost (N - bounded.cost) bounded.over)

    over_e : standing_now (BlockingStrands s g oss N).last ≡ None
    over_e = subst (λ j. standing_now (BlockingStrands s g oss j).last ≡ None) few (still_over (strung_loom s g) first_e bounded.cost (N - bounded.cost) bounded.over)

    as_long : length (P N) ≡ length (E N)
    as_long =
        let long = reached bounded.cost bounded.within in
        let short = no_more in
        let sizes = ap length same_e in
        omega (arith, long, short, sizes)

    over_p : standing_now (ProtocolStrands (with_source g p) oss N).last ≡ None
    over_p = here.over_too over_e (sym as_long)

    all_beside : AllZip Same (E N) (P N)
    all_beside = subst (λ (xs : List Told). AllZip Same xs (P N)) (take_all (E N) (length (P N)) as_long) beside

    all_told : (ts : List Told) → HeldStrands w oss ts → ts ≡ P N
    all_told ts h = told_so ts h ∙ ap (λ (q : Option (Ready Held)). P N ++ strand_unless_over N q) over_p ∙ append-nil (P N)

    whole_within : (ts : List Told) → HeldStrands w oss ts → events_told ts ≡ events_told (E bounded.cost)
    whole_within ts h = ap events_told (all_told ts h) ∙ sym (zip_events (E N) (P N) all_beside) ∙ ap events_told same_e

    -- none is spent
    all_of_original : (us : List Told) → StrungStrands s o.program oss us → us ≡ E N
    all_of_original _ (whole us e over) = e
    all_of_original _ (spent j k before us at is few next uncertain moment e) = absurd (⊎_elim certain past (cases_lt j (length (E N))))
      where
        certain : j < length (E N) → ⊥
        certain lt =
            let sizes = ap length same_e in
            let there : j < length (E bounded.cost) = omega (arith, lt, sizes) in
            uncertain (bounded.cost, there, bounded.within)

        past : length (E N) ≤ j → ⊥
        past le =
            let none : strand_next (slice_get (E N) j) (standing_now (BlockingStrands s g oss N).last) ≡ None =
            ap (λ (t : Option Told). strand_next t (standing_now (BlockingStrands s g oss N).last)) (nothing_there (E N) j le) ∙ ap (strand_next None) over_e in
            let bad : Some k ≡ None = sym next ∙ none in
            cc

    pub story_held : (us : List Told) → StrungStrands s o.program oss us → (ts : List Told) × HeldStrands w oss ts × AllZip Same us ts
    story_held us h =
        let ts : List Told = told_within w.program oss w.steps in (
          ts,
          refl,
          subst (λ (xs : List Told). AllZip Same xs ts) (sym (all_of_original us h)) (subst (λ (ys : List Told). AllZip Same (E N) ys) (sym (all_told ts refl)) all_beside),
        )

pub stories_of_originals : StrandStoriesOfOriginals
stories_of_originals o w oss ts st may ord h = story_of_original o w oss st may ord ts h

pub bounded_strands_end : BoundedStrandsEnd
bounded_strands_end o w oss ts st may ord h bounded = whole_within o w oss st may ord bounded ts h
