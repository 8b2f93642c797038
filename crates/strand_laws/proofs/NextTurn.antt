-- The next turn of a strand, whose calls meet its answer lines, and devices that fail.
use Rattle.std.proofs.Common.{arith, ◌≡◌, ◌<◌, ◌≤◌, ◌⊎◌, inl, inr, ℕ, zero, suc, ◌+◌, List, [], ◌∷◌, ◌++◌, length, Option, Some, None, Bool, true, false, refl, sym, ap, ◌∙◌, subst, append_assoc, append-nil}
use Rattle.std.proofs.Common.{length-append, eq-eqb, ne_eqb}
use Rattle.std.proofs.lemmas.List.{append_cancel_left}
use Rattle.std.specs.Prelude.{MatchBool, nat_eq, if◌then◌else◌}
use Rattle.wa_model.specs.Behaves.{IsPrefix}
use Rattle.wa_model.specs.Blocking.{Note}
use Rattle.wa_model.specs.Machine.{Ran}
use Rattle.wa_model.specs.Outside.{AnswerLine, Call, Event, answered, called, ended, parked, paused, returned, shown}
use Rattle.wa_model.specs.Plan.{Outcome, given, refused}
use Rattle.wa_model.specs.Protocol.{Held}
use Rattle.world_model.specs.World.{CallsMeet, Device, Meets, Program, call_in, ends_turn}
use Rattle.world_laws.specs.Originals.{new_calls, one_if}
use Rattle.world_laws.proofs.Counting.{calls_on}
use Rattle.world_laws.proofs.Rests.{Refuses, calls_more, next_line, no_calls, no_line, one_call}
use Rattle.world_laws.proofs.Tails.{SameCall}
use Rattle.strand_laws.proofs.AllByTurns.{held_go}
use Rattle.strand_laws.proofs.Closing.{Closes, FirstTurn, first_turn, story_closes}
use Rattle.strand_laws.proofs.KnownTellers.{Known, same_or}
use Rattle.strand_laws.proofs.StoryLengths.{most_told, story_length}
use Rattle.strand_laws.proofs.StrandForks.{GoesOn, count_at, longer_each, strands_fork}
use Rattle.strand_laws.proofs.StrandTails.{calls_both, calls_by, notes_same, own_notes, standing_tailed}
use Rattle.strand_laws.proofs.StrandsMet.{same_behind}
use Rattle.strand_laws.proofs.TurnTaken.{dues_of}
use Rattle.strand_laws.specs.StrandWorld.{HeldStrands, StrandsInWorld, strand_unless_over}
use Rattle.strand_laws.specs.Strands.{ProtocolStrands, outcomes_at}
use Rattle.strand_laws.specs.ToldStrands.{EndsOnce, ProgramTeller, StrandTeller, met_and}
use Rattle.strand_laws.specs.Weaving.{Dues, EndNoTurn, GoesByTurns, IsDueFirst, dues_behind, now_behind}
use Rattle.strand_laws.specs.Woven.{Ready, Told, Woven, standing_now, told_by}

-- ---- lists

told_same : (x y : Told) (xs ys : List Told) → x ∷ xs ≡ y ∷ ys → x ≡ y
told_same x y xs ys e = cc

told_rest : (x y : Told) (xs ys : List Told) → x ∷ xs ≡ y ∷ ys → xs ≡ ys
told_rest x y xs ys e = cc

calls_first : (j : ℕ) (x : Told) (xs : List Told) → calls_by j (x ∷ xs) ≡ calls_by j (x ∷ []) + calls_by j xs
calls_first j x xs = calls_both j (x ∷ []) xs

calls_one : (j : ℕ) (x : Told) (c : Call) → x.strand ≡ j → x.note.event ≡ called c → calls_by j (x ∷ []) ≡ 1
calls_one j x c e is = ap new_calls (notes_same j x [] e) ∙ ap (λ (v : Event). one_if (call_in v) + 0) is

-- what makes no more calls of a strand than stand before one of these begins what stands before it
begins_told : (j : ℕ) (xs zs ys us : List Told) (y : Told) (c : Call) → xs ++ zs ≡ ys ++ y ∷ us → y.strand ≡ j → y.note.event ≡ called c → calls_by j xs ≤ calls_by j ys
    → (r : List Told) × (ys ≡ xs ++ r)
begins_told j [] zs ys us y c e is call le = (ys, refl)
begins_told j (x ∷ xs) zs [] us y c e is call le =
    let same : x ≡ y = told_same x y (xs ++ zs) us e in
    let one = ap (λ (t : Told). calls_by j (t ∷ [])) same ∙ calls_one j y c is call in
    let a = calls_first j x xs in
    let no_way : ⊥ = omega (arith, le, one, a) in absurd no_way
begins_told j (x ∷ xs) zs (v ∷ ys) us y c e is call le =
    let same : x ≡ v = told_same x v (xs ++ zs) (ys ++ y ∷ us) e in
    let one : calls_by j (x ∷ []) ≡ calls_by j (v ∷ []) = ap (λ (t : Told). calls_by j (t ∷ [])) same in
    let a = calls_first j x xs in
    let b = calls_first j v ys in
    let on = begins_told j xs zs ys us y c (told_rest x v (xs ++ zs) (ys ++ y ∷ us) e) is call (omega (arith, le, one, a, b)) in
    (on.0, ap (λ (t : Told). t ∷ ys) (sym same) ∙ ap (λ (ts : List Told). x ∷ ts) on.1)

told_both : (i : ℕ) (es fs : List Note) → told_by i (es ++ fs) ≡ told_by i es ++ told_by i fs
told_both i [] fs = refl
told_both i (x ∷ es) fs = ap (λ (z : List Told). record { strand = i; note = x } ∷ z) (told_both i es fs)

told_long : (i : ℕ) (es : List Note) → length (told_by i es) ≡ length es
told_long i [] = refl
told_long i (x ∷ es) = ap suc (told_long i es)

-- ---- outcomes with more behind

both_longer : (f h k : ℕ → List Outcome) → ((j : ℕ) → f j ++ h j ≡ k j) → (i : ℕ) (oss : List (List Outcome)) → longer_each h i (longer_each f i oss) ≡ longer_each k i oss
both_longer f h k e i [] = refl
both_longer f h k e i (os ∷ oss) =
    ap (λ (xs : List Outcome). xs ∷ longer_each h (suc i) (longer_each f (suc i) oss)) (append_assoc os (f i) (h i) ∙ ap (λ (ys : List Outcome). os ++ ys) (e i))
    ∙ ap (λ (xss : List (List Outcome)). (os ++ k i) ∷ xss) (both_longer f h k e (suc i) oss)

longer_at : (f : ℕ → List Outcome) (i k j : ℕ) (oss : List (List Outcome)) → j ≡ i + k → k < length oss → outcomes_at (longer_each f i oss) k ≡ outcomes_at oss k ++ f j
longer_at f i k j [] e lt = let no_way : ⊥ = omega (arith, lt) in absurd no_way
longer_at f i zero j (os ∷ oss) e lt = let z : i ≡ j = omega (arith, e) in ap (λ n. os ++ f n) z
longer_at f i (suc k) j (os ∷ oss) e lt = longer_at f (suc i) k j oss (omega (arith, e)) (omega (arith, lt))

pub met_longer : (ss : List StrandTeller) (more : List (List Outcome)) (f : ℕ → List Outcome) (i : ℕ) → ((m j : ℕ) → j ≡ i + m → f j ≡ outcomes_at more m)
    → met_and ss more ≡ longer_each f i (met_and ss [])
met_longer [] more f i h = refl
met_longer (s ∷ ss) [] f i h =
    ap (λ (xs : List Outcome). xs ∷ met_and ss []) (sym (ap (λ (ys : List Outcome). s.met ++ ys) (h 0 i (let z : i ≡ i + 0 = omega arith in z)) ∙ append-nil s.met))
    ∙ ap (λ (xss : List (List Outcome)). (s.met ++ f i) ∷ xss) (met_longer ss [] f (suc i) (λ m j e. h (suc m) j (omega (arith, e))))
met_longer (s ∷ ss) (os ∷ oss) f i h =
    ap (λ (ys : List Outcome). (s.met ++ ys) ∷ met_and ss oss) (sym (h 0 i (let z : i ≡ i + 0 = omega arith in z)))
    ∙ ap (λ (xss : List (List Outcome)). (s.met ++ f i) ∷ xss) (met_longer ss oss f (suc i) (λ m j e. h (suc m) j (omega (arith, e))))

pub longer_wide : (f : ℕ → List Outcome) (i : ℕ) (oss : List (List Outcome)) → length (longer_each f i oss) ≡ length oss
longer_wide f i [] = refl
longer_wide f i (os ∷ oss) = ap suc (longer_wide f (suc i) oss)

-- ---- two stories

-- all that strands tell with these outcomes
abbrev pub story_of : StrandsInWorld → List (List Outcome) → List Told
story_of g oss = (ProtocolStrands g.program oss g.steps).events ++ strand_unless_over g.steps (standing_now (ProtocolStrands g.program oss g.steps).last)

-- The one story stands at a call for which the other has an outcome.
record Parts (g : StrandsInWorld) (tails : ℕ → List Outcome) (oss : List (List Outcome)) : Type 0 where
  before : List Told
  strand : ℕ
  here : Note
  there : Note
  rest : List Told
  more : List Told
  same : SameCall here there
  some : tails strand ≡ [] → ⊥
  count : calls_by strand before ≡ count_at oss strand
  first : story_of g oss ≡ before ++ record { strand = strand; note = here } ∷ rest
  second : story_of g (longer_each tails 0 oss) ≡ before ++ record { strand = strand; note = there } ∷ more

stories_fork : (g : StrandsInWorld) (tails : ℕ → List Outcome) (oss : List (List Outcome)) → 0 < length oss → (story_of g (longer_each tails 0 oss) ≡ story_of g oss) ⊎ Parts g tails oss
stories_fork g tails [] lt = let no_way : ⊥ = omega (arith, lt) in absurd no_way
stories_fork g tails (os ∷ oss) lt = by (strands_fork g.program tails os oss g.steps)
  where
    used : List (List Outcome)
    used = os ∷ oss

    short : Ran (Woven Held) Told
    short = ProtocolStrands g.program used g.steps

    long : Ran (Woven Held) Told
    long = ProtocolStrands g.program (longer_each tails 0 used) g.steps

    by : GoesOn g.program tails (count_at used) [] long short → (story_of g (longer_each tails 0 used) ≡ story_of g used) ⊎ Parts g tails used
    by (inl same) =
        inl (ap (λ (r : Ran (Woven Held) Told). r.events ++ strand_unless_over g.steps (standing_now r.last)) same
        ∙ ap (λ (o : Option (Ready Held)). short.events ++ strand_unless_over g.steps o)
        (standing_tailed g.program tails 0 short.last.now short.last.now short.last.threads (let z : short.last.now ≡ 0 + short.last.now = omega arith in z))
        ∙ ap (λ (xs : List Told). short.events ++ xs) (same_behind g tails g.steps short.last.now (standing_now short.last)))
    by (inr f) = inr (record {
      before = f.before;
      strand = f.strand;
      here = f.here;
      there = f.there;
      rest = strand_unless_over g.steps (standing_now short.last);
      more = f.more ++ strand_unless_over g.steps (standing_now long.last);
      same = f.same;
      some = f.some;
      count = f.count;
      first = ap (λ (xs : List Told). xs ++ strand_unless_over g.steps (standing_now short.last)) f.first
          ∙ append_assoc f.before (record { strand = f.strand; note = f.here } ∷ []) (strand_unless_over g.steps (standing_now short.last));
      second = ap (λ (xs : List Told). xs ++ strand_unless_over g.steps (standing_now long.last)) f.second
          ∙ append_assoc f.before (record { strand = f.strand; note = f.there } ∷ f.more) (strand_unless_over g.steps (standing_now long.last));
    })

-- A story that begins so and goes on does with other outcomes behind those that were met.
abbrev BeginsSo : StrandsInWorld → List (List Outcome) → List Told → Type 0
BeginsSo g oss told = (rest : List Told) × (story_of g oss ≡ told ++ rest) × (0 < length rest)

some_more : (r : List Told) (y : Told) (ys : List Told) → 0 < length (r ++ y ∷ ys)
some_more [] y ys = omega arith
some_more (x ∷ r) y ys = omega arith

begins_alone : (g : StrandsInWorld) (tails : ℕ → List Outcome) (base : List (List Outcome)) (told : List Told) → 0 < length base → ((j : ℕ) → calls_by j told ≡ count_at base j)
    → BeginsSo g (longer_each tails 0 base) told → BeginsSo g base told
begins_alone g tails base told some counts b = by (stories_fork g tails base some)
  where
    by : (story_of g (longer_each tails 0 base) ≡ story_of g base) ⊎ Parts g tails base → BeginsSo g base told
    by (inl same) = (b.0, sym same ∙ b.1, b.2)
    by (inr f) =
        let c = f.count in
        let d = counts f.strand in
        let r = begins_told f.strand told b.0 f.before f.more (record { strand = f.strand; note = f.there }) f.same.2 (sym b.1 ∙ f.second) refl (f.same.0 ∙ f.same.3) (omega (arith, c, d)) in (
          r.0 ++ record { strand = f.strand; note = f.here } ∷ f.rest,
          f.first ∙ ap (λ (ts : List Told). ts ++ record { strand = f.strand; note = f.here } ∷ f.rest) r.1 ∙ append_assoc told r.0 (record { strand = f.strand; note = f.here } ∷ f.rest),
          some_more r.0 _ f.rest,
        )

begins_any : (g : StrandsInWorld) (tails : ℕ → List Outcome) (base : List (List Outcome)) (told : List Told) → 0 < length base → ((j : ℕ) → calls_by j told ≡ count_at base j)
    → BeginsSo g base told → BeginsSo g (longer_each tails 0 base) told
begins_any g tails base told some counts b = by (stories_fork g tails base some)
  where
    by : (story_of g (longer_each tails 0 base) ≡ story_of g base) ⊎ Parts g tails base → BeginsSo g (longer_each tails 0 base) told
    by (inl same) = (b.0, same ∙ b.1, b.2)
    by (inr f) =
        let c = f.count in
        let d = counts f.strand in
        let r = begins_told f.strand told b.0 f.before f.rest (record { strand = f.strand; note = f.here }) f.same.2 (sym b.1 ∙ f.first) refl f.same.3 (omega (arith, c, d)) in (
          r.0 ++ record { strand = f.strand; note = f.there } ∷ f.more,
          f.second ∙ ap (λ (ts : List Told). ts ++ record { strand = f.strand; note = f.there } ∷ f.more) r.1 ∙ append_assoc told r.0 (record { strand = f.strand; note = f.there } ∷ f.more),
          some_more r.0 _ f.more,
        )

-- ---- notes

open_both : (xs ys : List Note) → EndNoTurn xs → EndNoTurn ys → EndNoTurn (xs ++ ys)
open_both [] ys h k = k
open_both (x ∷ xs) ys h k = (h.0, open_both xs ys h.1 k)

ends_behind : (xs ys : List Note) → EndNoTurn xs → EndsOnce ys → EndsOnce (xs ++ ys)
ends_behind [] ys h k = k
ends_behind (x ∷ xs) ys h k = subst (λ b. MatchBool b (xs ++ ys ≡ []) (EndsOnce (xs ++ ys))) (sym h.0) (ends_behind xs ys h.1 k)

open_front : (ys : List Note) (y : Note) (zs : List Note) → EndsOnce (ys ++ y ∷ zs) → EndNoTurn ys
open_front [] y zs h = tt
open_front (x ∷ ys) y zs h = by (ends_turn x.event) refl h (open_front ys y zs)
  where
    not_nil : {A : Type 0} (us : List Note) → us ++ y ∷ zs ≡ [] → A
    not_nil [] e = let no_way : ⊥ = cc in absurd no_way
    not_nil (u ∷ us) e = let no_way : ⊥ = cc in absurd no_way

    by : (b : Bool) → ends_turn x.event ≡ b → MatchBool b (ys ++ y ∷ zs ≡ []) (EndsOnce (ys ++ y ∷ zs)) → (EndsOnce (ys ++ y ∷ zs) → EndNoTurn ys) → (ends_turn x.event ≡ false) × EndNoTurn ys
    by true e w on = not_nil ys w
    by false e w on = (e, on w)

-- The first call of notes, if they make one.
record FirstCall (xs : List Note) : Type 0 where
  before : List Note
  here : Note
  behind : List Note
  call : Call
  split : xs ≡ before ++ here ∷ behind
  none : new_calls before ≡ 0
  is : here.event ≡ called call

first_call : (xs : List Note) → (new_calls xs ≡ 0) ⊎ FirstCall xs
first_call [] = inl refl
first_call (x ∷ xs) = by (call_in x.event) refl (first_call xs)
  where
    is_call : (e : Event) (c : Call) → call_in e ≡ Some c → e ≡ called c
    is_call (called d) c q = ap called (same d c q)
      where
        same : (d c : Call) → Some d ≡ Some c → d ≡ c
        same d c q = cc
    is_call (answered d) c q = let no_way : ⊥ = cc in absurd no_way
    is_call (parked d) c q = let no_way : ⊥ = cc in absurd no_way
    is_call (returned d f) c q = let no_way : ⊥ = cc in absurd no_way
    is_call (shown d f) c q = let no_way : ⊥ = cc in absurd no_way
    is_call (paused d f) c q = let no_way : ⊥ = cc in absurd no_way
    is_call (ended d) c q = let no_way : ⊥ = cc in absurd no_way

    by : (o : Option Call) → call_in x.event ≡ o → (new_calls xs ≡ 0) ⊎ FirstCall xs → (new_calls (x ∷ xs) ≡ 0) ⊎ FirstCall (x ∷ xs)
    by (Some c) e r = inr (record { before = []; here = x; behind = xs; call = c; split = refl; none = refl; is = is_call x.event c e })
    by None e (inl none) = let z = ap one_if e in inl (omega (arith, none, z))
    by None e (inr f) =
        let z = ap one_if e in
        let n = f.none in
        inr (record { before = x ∷ f.before; here = f.here; behind = f.behind; call = f.call; split = ap (λ (ys : List Note). x ∷ ys) f.split; none = omega (arith, n, z); is = f.is })

-- some outcome that a call meets, which leaves the devices
some_meets : (w : Program) (c : Call) (lines : List AnswerLine) (ds : List Device) → (o : Outcome) × (left : List AnswerLine) × Meets w c.import c.args lines ds o left ds
some_meets w c [] ds = let r = no_line w c ds in (refused r.0, r.1, r.2)
some_meets w c (l ∷ ls) ds = by (next_line w c ds l ls)
  where
    by : Refuses w c (l ∷ ls) ds ⊎ Meets w c.import c.args (l ∷ ls) ds (given l.answer) ls ds → (o : Outcome) × (left : List AnswerLine) × Meets w c.import c.args (l ∷ ls) ds o left ds
    by (inl r) = (refused r.0, r.1, r.2)
    by (inr m) = (given l.answer, ls, m)

-- ---- by turns

due_first_same : (v : Dues) (a b : ℕ) → IsDueFirst v a → IsDueFirst v b → a ≡ b
due_first_same v a b h k = by (h.least b k.ready) (k.least a h.ready)
  where
    by : {x y : ℕ} → (x < y) ⊎ ((x ≡ y) × (a ≤ b)) → (y < x) ⊎ ((y ≡ x) × (b ≤ a)) → a ≡ b
    by (inl l) (inl m) = let no_way : ⊥ = omega (arith, l, m) in absurd no_way
    by (inl l) (inr m) = let e = m.0 in let no_way : ⊥ = omega (arith, l, e) in absurd no_way
    by (inr l) (inl m) = let e = l.0 in let no_way : ⊥ = omega (arith, m, e) in absurd no_way
    by (inr l) (inr m) = let p = l.1 in let q = m.1 in omega (arith, p, q)

open_turns : (k : ℕ) (v : Dues) (xs : List Note) (rest : List Told) → EndNoTurn xs → GoesByTurns (Some k) v (told_by k xs ++ rest) → GoesByTurns (Some k) v rest
open_turns k v [] rest h g = g
open_turns k v (x ∷ xs) rest h g = by x.event h.0 g.1 (λ q. open_turns k v xs rest h.1 q)
  where
    no : {A : Type 0} → true ≡ false → A
    no e = let no_way : ⊥ = cc in absurd no_way

    by : (e : Event) → ends_turn e ≡ false → GoesByTurns (now_behind k e) (dues_behind k e v) (told_by k xs ++ rest) → (GoesByTurns (Some k) v (told_by k xs ++ rest) → GoesByTurns (Some k) v rest)
        → GoesByTurns (Some k) v rest
    by (called d) e q on = on q
    by (answered d) e q on = on q
    by (parked d) e q on = on q
    by (returned d f) e q on = on q
    by (shown d f) e q on = on q
    by (paused d f) e q on = no e
    by (ended d) e q on = no e

open_closes : (k : ℕ) (xs : List Note) (rest : List Told) → EndNoTurn xs → Closes (Some k) (told_by k xs ++ rest) → Closes (Some k) rest
open_closes k [] rest h c = c
open_closes k (x ∷ xs) rest h c = by x.event h.0 c (open_closes k xs rest h.1)
  where
    no : {A : Type 0} → true ≡ false → A
    no e = let no_way : ⊥ = cc in absurd no_way

    by : (e : Event) → ends_turn e ≡ false → Closes (now_behind k e) (told_by k xs ++ rest) → (Closes (Some k) (told_by k xs ++ rest) → Closes (Some k) rest) → Closes (Some k) rest
    by (called d) e q on = on q
    by (answered d) e q on = on q
    by (parked d) e q on = on q
    by (returned d f) e q on = on q
    by (shown d f) e q on = on q
    by (paused d f) e q on = no e
    by (ended d) e q on = no e

-- ---- the turn

module _ (g : StrandsInWorld) (t : ProgramTeller) (known : Known g t) (some : 0 < length g.program.strands) (k : ℕ) (first : IsDueFirst (dues_of t.strands) k) (inside : k < length t.strands)
    (w : Program) (answers : List AnswerLine) (start : List Note) (ds0 ds : List Device) where
  abbrev base : List (List Outcome)
  base = met_and t.strands []

  abbrev only : List Outcome → ℕ → List Outcome
  only os j = if nat_eq j k then os else []

  -- the strand's calls meet these too
  abbrev pub outcomes_with : List Outcome → List (List Outcome)
  outcomes_with os = longer_each (only os) 0 base

  base_wide : (ss : List StrandTeller) → length (met_and ss []) ≡ length ss
  base_wide [] = refl
  base_wide (s ∷ ss) = ap suc (base_wide ss)

  wide : (os : List Outcome) → length (outcomes_with os) ≡ length g.program.strands
  wide os = longer_wide (only os) 0 base ∙ base_wide t.strands ∙ known.size

  -- The strand's next turn, with what is told behind it.
  pub record Next : Type 0 where
    pub turn : List Note
    pub outcomes : List Outcome
    pub left : List AnswerLine
    pub whole : EndsOnce turn
    pub calls : CallsMeet w turn outcomes answers ds0 [] left ds
    pub begun : (more : List Note) × (turn ≡ start ++ more)
    pub rest : List Told
    pub story : HeldStrands g (outcomes_with outcomes) ((t.told ++ told_by k turn) ++ rest)

  -- The beginning of a turn, and what is told behind it.
  record Sofar (os : List Outcome) (lines : List AnswerLine) : Type 0 where
    notes : List Note
    rest : List Told
    story : story_of g (outcomes_with os) ≡ (t.told ++ told_by k notes) ++ rest
    meets : CallsMeet w notes os answers ds0 [] lines ds
    begun : (more : List Note) × (notes ≡ start ++ more)
    count : new_calls notes ≡ length os
    is_open : EndNoTurn notes
    goes_on : 0 < length (told_by k notes ++ rest)

  turn_ahead : (os : List Outcome) (lines : List AnswerLine) (x : Sofar os lines) → FirstTurn k x.rest
  turn_ahead os lines x = first_turn k (dues_of t.strands) x.rest (open_closes k x.notes x.rest x.is_open closes) (open_turns k (dues_of t.strands) x.notes x.rest x.is_open turns)
    where
      ahead : List Told
      ahead = told_by k x.notes ++ x.rest

      split : story_of g (outcomes_with os) ≡ t.told ++ ahead
      split = x.story ∙ append_assoc t.told (told_by k x.notes) x.rest

      to_some : (ts : List Told) → 0 < length ts → GoesByTurns None (dues_of t.strands) ts → GoesByTurns (Some k) (dues_of t.strands) ts
      to_some [] lt h = let no_way : ⊥ = omega (arith, lt) in absurd no_way
      to_some (y ∷ ts) lt h = (due_first_same (dues_of t.strands) k y.strand first h.0, h.1)

      to_open : (ts : List Told) → 0 < length ts → Closes None ts → Closes (Some k) ts
      to_open [] lt h = let no_way : ⊥ = omega (arith, lt) in absurd no_way
      to_open (y ∷ ts) lt h = h

      turns : GoesByTurns (Some k) (dues_of t.strands) ahead
      turns = to_some ahead x.goes_on (known.turns ahead (held_go g (outcomes_with os) (t.told ++ ahead) some (wide os) (sym split)))

      closes : Closes (Some k) ahead
      closes = to_open ahead x.goes_on (known.closes ahead (story_closes g (outcomes_with os) (t.told ++ ahead) (sym split)))

  -- with no call in it
  abbrev last_part : (os : List Outcome) (lines : List AnswerLine) (x : Sofar os lines) → (f : FirstTurn k x.rest) → new_calls f.turn ≡ 0 → Next
  last_part os lines x f none = record {
    turn = x.notes ++ f.turn;
    outcomes = os;
    left = lines;
    whole = ends_behind x.notes f.turn x.is_open f.whole;
    calls = subst (λ (us : List Outcome). CallsMeet w (x.notes ++ f.turn) us answers ds0 [] lines ds) (append-nil os)
        (calls_more w x.notes f.turn os [] answers lines lines ds0 ds ds x.meets (no_calls w f.turn lines ds none));
    begun = (x.begun.0 ++ f.turn, ap (λ (ns : List Note). ns ++ f.turn) x.begun.1 ∙ append_assoc start x.begun.0 f.turn);
    rest = f.rest;
    story = sym (x.story ∙ ap (λ (ts : List Told). (t.told ++ told_by k x.notes) ++ ts) f.split ∙ sym (append_assoc (t.told ++ told_by k x.notes) (told_by k f.turn) f.rest)
        ∙ ap (λ (ts : List Told). ts ++ f.rest) (append_assoc t.told (told_by k x.notes) (told_by k f.turn) ∙ ap (λ (ts : List Told). t.told ++ ts) (sym (told_both k x.notes f.turn))));
  }

  -- with an outcome of the first call in it
  module _ (os : List Outcome) (lines : List AnswerLine) (x : Sofar os lines) (f : FirstTurn k x.rest) (c : FirstCall f.turn) (o : Outcome) (left : List AnswerLine)
      (m : Meets w c.call.import c.call.args lines ds o left ds) where
    abbrev front : List Told
    front = t.told ++ told_by k (x.notes ++ c.before)

    abbrev y : Told
    y = record { strand = k; note = c.here }

    abbrev behind : List Told
    behind = told_by k c.behind ++ f.rest

    -- what is told, up to the call
    up_to : story_of g (outcomes_with os) ≡ front ++ y ∷ behind
    up_to =
        x.story
        ∙ ap (λ (ts : List Told). (t.told ++ told_by k x.notes) ++ ts) (f.split ∙ ap (λ (ns : List Note). told_by k ns ++ f.rest) c.split ∙ ap (λ (ts : List Told). ts ++ f.rest) (told_both k c.before (c.here ∷ c.behind))
        ∙ append_assoc (told_by k c.before) (y ∷ told_by k c.behind) f.rest)
        ∙ sym (append_assoc (t.told ++ told_by k x.notes) (told_by k c.before) (y ∷ behind))
        ∙ ap (λ (ts : List Told). ts ++ y ∷ behind) (append_assoc t.told (told_by k x.notes) (told_by k c.before) ∙ ap (λ (ts : List Told). t.told ++ ts) (sym (told_both k x.notes c.before)))

    is_longer : longer_each (only (o ∷ [])) 0 (outcomes_with os) ≡ outcomes_with (os ++ o ∷ [])
    is_longer = both_longer (only os) (only (o ∷ [])) (only (os ++ o ∷ [])) each 0 base
      where
        each : (j : ℕ) → only os j ++ only (o ∷ []) j ≡ only (os ++ o ∷ []) j
        each j = by (nat_eq j k)
          where
            by : (b : Bool) → (if b then os else []) ++ (if b then o ∷ [] else []) ≡ (if b then os ++ o ∷ [] else [])
            by true = refl
            by false = refl

    goes_so : (there : Note) (rest : List Told) → there.event ≡ called c.call → story_of g (outcomes_with (os ++ o ∷ [])) ≡ front ++ record { strand = k; note = there } ∷ rest
        → Sofar (os ++ o ∷ []) left
    goes_so there rest is e = record {
      notes = (x.notes ++ c.before) ++ there ∷ [];
      begun = (
        x.begun.0 ++ (c.before ++ there ∷ []),
        append_assoc x.notes c.before (there ∷ []) ∙ ap (λ (ns : List Note). ns ++ (c.before ++ there ∷ [])) x.begun.1 ∙ append_assoc start x.begun.0 (c.before ++ there ∷ []),
      );
      rest = rest;
      story = e ∙ sym (append_assoc front (record { strand = k; note = there } ∷ []) rest)
          ∙ ap (λ (ts : List Told). ts ++ rest) (append_assoc t.told (told_by k (x.notes ++ c.before)) (record { strand = k; note = there } ∷ []) ∙ ap (λ (ts : List Told). t.told ++ ts) (sym (told_both k (x.notes ++ c.before) (there ∷ []))));
      meets = calls_more w (x.notes ++ c.before) (there ∷ []) os (o ∷ []) answers lines left ds0 ds ds
          (subst (λ (us : List Outcome). CallsMeet w (x.notes ++ c.before) us answers ds0 [] lines ds) (append-nil os)
          (calls_more w x.notes c.before os [] answers lines lines ds0 ds ds x.meets (no_calls w c.before lines ds c.none))) (one_call w there c.call o lines left ds is m);
      count =
          let a = calls_on (x.notes ++ c.before) (there ∷ []) in
          let b = calls_on x.notes c.before in
          let one : new_calls (there ∷ []) ≡ 1 = ap (λ (v : Event). one_if (call_in v) + 0) is in
          let n = c.none in
          let l = length-append os (o ∷ []) in
          let z = x.count in
          omega (arith, a, b, one, n, l, z);
      is_open = open_both (x.notes ++ c.before) (there ∷ []) (open_both x.notes c.before x.is_open (open_front c.before c.here c.behind (subst EndsOnce c.split f.whole))) (ap ends_turn is, tt);
      goes_on =
          let a = length-append (told_by k ((x.notes ++ c.before) ++ there ∷ [])) rest in
          let b = told_long k ((x.notes ++ c.before) ++ there ∷ []) in
          let d = length-append (x.notes ++ c.before) (there ∷ []) in
          omega (arith, a, b, d);
    }

    only_here : (j : ℕ) → (only (o ∷ []) j ≡ [] → ⊥) → j ≡ k
    only_here j h = by (same_or j k)
      where
        by : (j ≡ k) ⊎ (j ≡ k → ⊥) → j ≡ k
        by (inl e) = e
        by (inr ne) = absurd (h (ap (λ b. if b then o ∷ [] else []) (ne_eqb j k ne)))

    met_here : Sofar (os ++ o ∷ []) left
    met_here = by (stories_fork g (only (o ∷ [])) (outcomes_with os) (let z = wide os in omega (arith, z, some)))
      where
        at_fork : (p : Parts g (only (o ∷ [])) (outcomes_with os)) → p.strand ≡ k → Sofar (os ++ o ∷ []) left
        at_fork p e =
            let u : Told = record { strand = p.strand; note = p.here } in
            let counted : calls_by k p.before ≡ count_at (outcomes_with os) k = subst (λ j. calls_by j p.before ≡ count_at (outcomes_with os) j) e p.count in
            let own = ap length (longer_at (only os) 0 k k base (let z : k ≡ 0 + k = omega arith in z) (let z = base_wide t.strands in omega (arith, z, inside))) in
            let both = length-append (outcomes_at base k) (only os k) in
            let mine : length (only os k) ≡ length os = ap (λ b. length (if b then os else [])) (eq-eqb k k refl) in
            let told = known.counts k in
            let a = calls_both k t.told (told_by k (x.notes ++ c.before)) in
            let b = ap new_calls (own_notes k (x.notes ++ c.before)) ∙ calls_on x.notes c.before in
            let n = c.none in
            let z = x.count in
            let same : calls_by k front ≡ calls_by k p.before = omega (arith, counted, own, both, mine, told, a, b, n, z) in
            let l = begins_told k front (y ∷ behind) p.before p.rest u p.same.2 (sym up_to ∙ p.first) e p.same.3 (omega (arith, same)) in
            let r = begins_told k p.before (u ∷ p.rest) front behind y c.call (sym p.first ∙ up_to) refl c.is (omega (arith, same)) in
            let ll = ap length l.1 in
            let rr = ap length r.1 in
            let la = length-append front l.0 in
            let ra = length-append p.before r.0 in
            let is_front : p.before ≡ front = l.1 ∙ ap (λ (ts : List Told). front ++ ts) (nil_is l.0 (omega (arith, ll, rr, la, ra))) ∙ append-nil front in
            let heads : u ∷ p.rest ≡ y ∷ behind = append_cancel_left front (u ∷ p.rest) (y ∷ behind) (ap (λ (ts : List Told). ts ++ u ∷ p.rest) (sym is_front) ∙ sym p.first ∙ up_to) in
            let here : p.here ≡ c.here = ap (λ (v : Told). v.note) (told_same u y p.rest behind heads) in
            goes_so p.there p.more (p.same.0 ∙ ap (λ (v : Note). v.event) here ∙ c.is)
            (ap (story_of g) (sym is_longer) ∙ p.second ∙ ap (λ (ts : List Told). ts ++ record { strand = p.strand; note = p.there } ∷ p.more) is_front
            ∙ ap (λ j. front ++ record { strand = j; note = p.there } ∷ p.more) e)
          where
            nil_is : (ts : List Told) → length ts ≡ 0 → ts ≡ []
            nil_is [] q = refl
            nil_is (v ∷ ts) q = let no_way : ⊥ = omega (arith, q) in absurd no_way

        by : (story_of g (longer_each (only (o ∷ [])) 0 (outcomes_with os)) ≡ story_of g (outcomes_with os)) ⊎ Parts g (only (o ∷ [])) (outcomes_with os) → Sofar (os ++ o ∷ []) left
        by (inl same) = goes_so c.here behind c.is (ap (story_of g) (sym is_longer) ∙ same ∙ up_to)
        by (inr p) = at_fork p (only_here p.strand p.some)

  -- what is told is no longer than stories are
  no_room : (os : List Outcome) (lines : List AnswerLine) (x : Sofar os lines) (f : FirstTurn k x.rest) → FirstCall f.turn → most_told g ≤ length os → ⊥
  no_room os lines x f c le =
      let all = story_length g (outcomes_with os) (story_of g (outcomes_with os)) refl in
      let a = ap length x.story in
      let b = length-append (t.told ++ told_by k x.notes) x.rest in
      let d = length-append t.told (told_by k x.notes) in
      let e = told_long k x.notes in
      let few = few_calls x.notes in
      let n = x.count in
      let rest = ap length f.split in
      let r = length-append (told_by k f.turn) f.rest in
      let u = told_long k f.turn in
      let here = ap length c.split in
      let l = length-append c.before (c.here ∷ c.behind) in
      omega (arith, all, a, b, d, e, few, n, rest, r, u, here, l, le)
    where
      few_calls : (ns : List Note) → new_calls ns ≤ length ns
      few_calls [] = omega arith
      few_calls (n ∷ ns) = let h = few_calls ns in let z = one_few (call_in n.event) in omega (arith, h, z)
        where
          one_few : (o : Option Call) → one_if o ≤ 1
          one_few None = omega arith
          one_few (Some c) = omega arith

  -- the next turn, whose calls meet more behind these
  abbrev From : List Outcome → Type 0
  From os = (n : Next) × IsPrefix os n.outcomes

  grows : (fuel : ℕ) (os : List Outcome) (lines : List AnswerLine) → Sofar os lines → most_told g ≤ length os + fuel → From os
  grows zero os lines x le = by (turn_ahead os lines x)
    where
      by : FirstTurn k x.rest → From os
      by f = by_call (first_call f.turn)
        where
          by_call : (new_calls f.turn ≡ 0) ⊎ FirstCall f.turn → From os
          by_call (inl none) = (last_part os lines x f none, ([], sym (append-nil os)))
          by_call (inr c) = absurd (no_room os lines x f c (omega (arith, le)))
  grows (suc fuel) os lines x le = by (λ us ls z q. grows fuel us ls z q) (turn_ahead os lines x)
    where
      by : ((us : List Outcome) (ls : List AnswerLine) → Sofar us ls → most_told g ≤ length us + fuel → From us) → FirstTurn k x.rest → From os
      by again f = by_call (first_call f.turn)
        where
          by_call : (new_calls f.turn ≡ 0) ⊎ FirstCall f.turn → From os
          by_call (inl none) = (last_part os lines x f none, ([], sym (append-nil os)))
          by_call (inr c) =
              let m = some_meets w c.call lines ds in
              let l = length-append os (m.0 ∷ []) in
              let r = again (os ++ m.0 ∷ []) m.1 (met_here os lines x f c m.0 m.1 m.2) (omega (arith, le, l)) in
              (r.0, (m.0 ∷ r.1.0, r.1.1 ∙ append_assoc os (m.0 ∷ []) r.1.0))

  -- There is one behind its beginning, where something is still to be told.
  pub turn_on : (os : List Outcome) (lines : List AnswerLine) (rest : List Told) → HeldStrands g (outcomes_with os) ((t.told ++ told_by k start) ++ rest) → CallsMeet w start os answers ds0 [] lines ds
      → new_calls start ≡ length os → EndNoTurn start → 0 < length (told_by k start ++ rest) → (n : Next) × IsPrefix os n.outcomes
  turn_on os lines rest story meets count is_open lt =
      grows (most_told g) os lines (record { notes = start; rest = rest; story = sym story; meets = meets; begun = ([], sym (append-nil start)); count = count; is_open = is_open; goes_on = lt })
      (omega arith)

  -- There is one, where something is still to be told with whatever outcomes.
  pub next_turn : start ≡ [] → ds ≡ ds0 → (more : List (List Outcome)) (rest : List Told) → HeldStrands g (met_and t.strands more) (t.told ++ rest) → 0 < length rest → Next
  next_turn none same more rest story lt =
      let small = base_wide t.strands in
      let size = known.size in
      let some_base : 0 < length base = omega (arith, small, size, some) in
      let is : met_and t.strands more ≡ longer_each (outcomes_at more) 0 base = met_longer t.strands more (outcomes_at more) 0 (λ m j e. let z : j ≡ m = omega (arith, e) in ap (outcomes_at more) z) in
      let alone = begins_alone g (outcomes_at more) base t.told some_base known.counts (rest, ap (story_of g) (sym is) ∙ sym story, lt) in
      let with_none = begins_any g (only []) base t.told some_base known.counts alone in
      (grows (most_told g) [] answers (record {
        notes = [];
        rest = with_none.0;
        story = with_none.1 ∙ ap (λ (ts : List Told). ts ++ with_none.0) (sym (append-nil t.told));
        meets = (refl, refl, same);
        begun = ([], sym (ap (λ (ns : List Note). ns ++ []) none));
        count = refl;
        is_open = tt;
        goes_on = with_none.2;
      }) (omega arith)).0
