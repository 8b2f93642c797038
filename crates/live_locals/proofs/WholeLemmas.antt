-- The calls of a whole function, and the sets that they tell.
use Rattle.std.proofs.Common.{◌≡◌, ◌∙◌, ℕ, zero, suc, ◌-◌, ◌+◌, ◌<◌, ◌≤◌, ◌↔◌, List, [], ◌∷◌, ◌++◌, length, map, get_or, replicate, Bool, true, false, All, refl, sym, ap, arith, subst}
use Rattle.std.specs.Prelude.{if◌then◌else◌, Vec}
use Rattle.std.specs.declared.alloc.Global.{Global}
use Rattle.std.proofs.lemmas.List.{append-nil, get_or-map, get_or-replicate, length-map, length-replicate, take_all}
use Rattle.std.proofs.lemmas.List.Elements.{All-cons, All-get_or, All-nil}
use Rattle.std.proofs.lemmas.Option.{get_or_from_slice_get, slice_get_within}
use Rattle.wa_types.specs.Syntax.{basic, local_get, local_set, local_tee, Code, done, plain}
use Rattle.wa_types.specs.Liveness.{live}
use Rattle.run_theory.specs.Flat.{Stmts, no_more, computes, copies, calls, leaps, leaps_if, leaps_by, nests, decides, halts, FlatFunc, result_got}
use Rattle.run_theory.specs.FlatFits.{StmtsFit, ComputesFit}
use Rattle.guard_form.specs.Grouping.{is_place}
use Rattle.guard_form.specs.Pieces.{call_total}
use Rattle.flow_rewrite.specs.Emitting.{Rises}
use Rattle.live_locals.specs.Ops.{IsComputation, OpsFit}
use Rattle.live_locals.specs.Sets.{has, told_of, TellsAnywhere}
use Rattle.call_frames.specs.CallRows.{counted}
use Rattle.call_frames.specs.Classes.{AreKept, MadeAgain, set_keepers}
use Rattle.live_locals.specs.Keeping.{Settles, calls_kept}
use Rattle.live_locals.specs.Rows.{kept, chosen, numbered_from, calls_told, Countable, RowsPut, StandsAt}
use Rattle.live_locals.specs.LiveAt.{KeepsAt, LiveAtCalls, LiveRows, lists_of}
use Rattle.live_locals.specs.declared.keeping.Keeping.{Keeping}
use Rattle.live_locals.proofs.KeepingLemmas.{kept_any, kept_told}
use Rattle.live_locals.proofs.SetLemmas.{none_has}
use Rattle.live_locals.proofs.RowLemmas.{chosen_count, kept_count}
use Rattle.live_locals.proofs.ExactLemmas.{chosen_is, told_exactly}

-- ---- what is asked

is_computation : (locals : ℕ) (op : Code) (to : _) → ComputesFit locals op to → IsComputation op
is_computation n (plain (basic b) done) to h = tt
is_computation n (plain (local_get x) done) to h = tt
is_computation n (plain (local_set x) done) to h = tt
is_computation n (plain (local_tee x) done) to h = tt
is_computation n _ to h = absurd h

ops_fit : (locals labels : ℕ) (s : Stmts) → StmtsFit locals labels s → OpsFit s
ops_fit n l no_more h = tt
ops_fit n l (computes op args to rest) h = (is_computation n op to h.0, ops_fit n l rest h.4)
ops_fit n l (copies to from rest) h = ops_fit n l rest h.2
ops_fit n l (calls op stack args to rest) h = (h.0, ops_fit n l rest h.5)
ops_fit n l (leaps label rest) h = ops_fit n l rest h.1
ops_fit n l (leaps_if condition label rest) h = ops_fit n l rest h.2
ops_fit n l (leaps_by index targets last rest) h = ops_fit n l rest h.3
ops_fit n l (nests shape body rest) h = (ops_fit n (suc l) body h.0, ops_fit n l rest h.1)
ops_fit n l (decides condition a b rest) h = (ops_fit n (suc l) a h.1, ops_fit n (suc l) b h.2, ops_fit n l rest h.3)
ops_fit n l (halts rest) h = ops_fit n l rest h

pub whole_countable : (ns : List ℕ) (locals labels count : ℕ) (s t : Stmts) → t ≡ s → StmtsFit locals labels s → Rises ns → count ≡ 0 + call_total t → Countable ns count t
whole_countable ns n l count s t e h r c = record { ops = ops_fit n l t (subst (StmtsFit n l) (sym e) h); rises = r; room = omega (arith, c) }

-- ---- the calls that keep each local, and the sets that they tell

module _ (f : ℕ → Bool) where
  -- what a test tells of so many numbers, from this one on
  abbrev tested : (first count : ℕ) → List Bool
  tested k n = map f (counted k n)

  tested_long : (k n : ℕ) → length (tested k n) ≡ n
  tested_long k zero = refl
  tested_long k (suc n) = ap suc (tested_long (suc k) n)

  tested_at : (k n x : ℕ) → x < n → get_or (tested k n) x false ≡ f (k + x)
  tested_at k zero x lt = absurd (omega (arith, lt))
  tested_at k (suc n) zero lt = let z : k ≡ k + 0 = omega arith in ap f z
  tested_at k (suc n) (suc x) lt = let z : suc k + x ≡ k + suc x = omega arith in tested_at (suc k) n x (omega (arith, lt)) ∙ ap f z

-- sets of so many locals, by what is told of each local at each place
abbrev sets_at : (size : ℕ) → (ℕ → ℕ → Bool) → List ℕ → List (List Bool)
sets_at n f ps = map (λ p. tested (λ x. f x p) 0 n) ps

has_at : (n : ℕ) (f : ℕ → ℕ → Bool) (x p : ℕ) → x < n → get_or (tested (λ y. f y p) 0 n) x false ≡ f x p
has_at n f x p lt = let z : 0 + x ≡ x = omega arith in tested_at (λ y. f y p) 0 n x lt ∙ ap (λ y. f y p) z

keepers_are : (n : ℕ) (f : ℕ → ℕ → Bool) (x j : ℕ) (ps : List ℕ) → x < n → set_keepers x j (sets_at n f ps) ≡ calls_told j (map (f x) ps)
keepers_are n f x j [] lt = refl
keepers_are n f x j (p ∷ ps) lt = (λ i. (if has_at n f x p lt i then j ∷ [] else []) ++ keepers_are n f x (suc j) ps lt i)

all_long : (n : ℕ) (f : ℕ → ℕ → Bool) (ps : List ℕ) → All (λ (s : List Bool). length s ≡ n) (sets_at n f ps)
all_long n f [] = All-nil (λ (s : List Bool). length s ≡ n)
all_long n f (p ∷ ps) = All-cons (λ (s : List Bool). length s ≡ n) (tested (λ x. f x p) 0 n) (sets_at n f ps) (tested_long (λ x. f x p) 0 n) (all_long n f ps)

module _ (f : FlatFunc) (ns : List ℕ) (v : Vec Bool Global) (behind before : List Bool) (first : ℕ) (old new : Keeping) (fits : StmtsFit (length f.locals) 1 f.body) (rises : Rises ns)
    (range : All (λ n. n < call_total f.body) ns) (ev : v.items ≡ behind) (read : TellsAnywhere (replicate (length f.locals) false) behind (result_got f.result))
    (put : RowsPut ns (v ∷ []) behind before f.body (call_total f.body) first old new) (none : (x : ℕ) → x < length f.locals → calls_kept old behind x ≡ [])
    (rows : List (List ℕ)) (count : length rows ≡ length f.locals) (all : (x : ℕ) → x < length f.locals → get_or rows x [] ≡ calls_kept new before x) where
  fit : OpsFit f.body
  fit = ops_fit (length f.locals) 1 f.body fits

  size : length behind ≡ length f.locals
  size = (read (λ z. [])).size ∙ length-replicate (length f.locals) false

  at_first : first ≡ 0
  at_first = let p = put.told.places in omega (arith, p)

  -- what is kept of one local
  abbrev K : ℕ → List Bool
  K x = kept x (has behind x ∷ []) (has behind x) f.body

  K_long : (x : ℕ) → length (K x) ≡ call_total f.body
  K_long x = kept_count x (has behind x ∷ []) (has behind x) f.body

  in_range : (x : ℕ) → All (λ n. n < length (K x)) ns
  in_range x = subst (λ m. All (λ n. n < m) ns) (sym (K_long x)) range

  -- whether a local is kept at the call of this place
  abbrev F : (x p : ℕ) → Bool
  F x p = get_or (K x) (p - 0) false

  rows_are : (x : ℕ) → x < length f.locals → get_or rows x [] ≡ calls_told 0 (map (F x) ns)
  rows_are x lt =
      let n = size in
      all x lt ∙ put.told.each x (omega (arith, n, lt)) ∙ ap (λ z. calls_told (numbered_from ns 0 first) (chosen ns first (kept x (told_of x (v ∷ [])) (has behind x) f.body)) ++ z) (none x lt)
      ∙ append-nil (calls_told (numbered_from ns 0 first) (chosen ns first (kept x (told_of x (v ∷ [])) (has behind x) f.body)))
      ∙ ap (λ m. calls_told (numbered_from ns 0 m) (chosen ns m (kept x (told_of x (v ∷ [])) (has behind x) f.body))) at_first
      ∙ ap (λ s. calls_told 0 (chosen ns 0 (kept x (has s x ∷ []) (has behind x) f.body))) ev
      ∙ ap (calls_told 0) (chosen_is ns false (K x) rises (in_range x))

  abbrev made : List (List Bool)
  made = sets_at (length f.locals) F ns

  made_at : (k : ℕ) → k < length ns → get_or made k [] ≡ tested (λ x. F x (get_or ns k 0)) 0 (length f.locals)
  made_at k lt = get_or-map (λ p. tested (λ x. F x p) 0 (length f.locals)) ns k 0 [] lt

  live_made : LiveAtCalls f ns made
  live_made = record {
    calls = length-map ns (λ p. tested (λ x. F x p) 0 (length f.locals));
    locals = λ k lt. ap length (made_at k lt) ∙ tested_long (λ x. F x (get_or ns k 0)) 0 (length f.locals);
    exact = λ k place x at lt.
        let within = slice_get_within ns k place at in
        let is : get_or ns k 0 ≡ place = get_or_from_slice_get ns k place 0 at in
        let low : place < length (K x) = subst (λ p. p < length (K x)) is (All-get_or (λ n. n < length (K x)) ns k 0 within (in_range x)) in
        let none : place - 0 ≡ place = omega arith in
        let e : has (get_or made k []) x ≡ get_or (K x) place false =
        ap (λ s. has s x) (made_at k within) ∙ has_at (length f.locals) F x (get_or ns k 0) lt ∙ ap (λ p. get_or (K x) (p - 0) false) is ∙ ap (λ p. get_or (K x) p false) none in
        subst (λ b. (b ≡ true) ↔ KeepsAt f place x) (sym e)
        (told_exactly x f (has behind x) place ((read (λ z. [])).each x (let l = length-replicate (length f.locals) false in omega (arith, l, lt))
        ∙ ap (λ o. live x [] o (result_got f.result)) (none_has (length f.locals) x)) fit low);
  }

  pub whole_rows : LiveRows f ns rows
  whole_rows = record {
    sets = made;
    live = live_made;
    kept = record {
      many = live_made.calls;
      sized = all_long (length f.locals) F ns;
      keepers = record {
        size = count;
        each = λ x lt. rows_are x lt ∙ sym (keepers_are (length f.locals) F x 0 ns lt);
      };
    };
  }

-- ---- at the start

-- how many numbered calls there are
pub all_numbered : (ns : List ℕ) (count : ℕ) (s t : Stmts) → t ≡ s → Rises ns → All (λ n. n < call_total s) ns → count ≡ 0 + call_total t → numbered_from ns 0 count ≡ length ns
all_numbered ns count s t e rises range c =
    let bs : List Bool = kept 0 [] false s in
    let long : length bs ≡ call_total s = kept_count 0 [] false s in
    let z = ap call_total e in
    let all : count ≡ length bs = omega (arith, c, z, long) in
    ap (numbered_from ns 0) all ∙ sym (chosen_count ns 0 bs) ∙ ap length (chosen_is ns false bs rises (subst (λ m. All (λ n. n < m) ns) (sym long) range))
    ∙ length-map ns (λ p. get_or bs (p - 0) false)

numbered_few : (ns : List ℕ) (n k : ℕ) → numbered_from ns n k ≤ k
numbered_few ns n zero = omega arith
numbered_few ns n (suc k) = by (is_place ns n) (numbered_few ns (suc n) k)
  where
    by : (b : Bool) → numbered_from ns (suc n) k ≤ k → (if b then suc (numbered_from ns (suc n) k) else numbered_from ns (suc n) k) ≤ suc k
    by true le = omega (arith, le)
    by false le = omega (arith, le)

-- so they are as few as the calls
pub numbers_few : (ns : List ℕ) (s : Stmts) → Rises ns → All (λ n. n < call_total s) ns → length ns ≤ call_total s
numbers_few ns s rises range =
    let z : 0 + call_total s ≡ call_total s = omega arith in
    let e = all_numbered ns (call_total s) s s refl rises range (sym z) in
    let le = numbered_few ns 0 (call_total s) in omega (arith, e, le)

module _ (n left : ℕ) (st : Keeping) (el : st.left ≡ left) (es : st.since.items ≡ replicate n left) (er : st.rows.items ≡ replicate n []) where
  since_at : (x : ℕ) → x < n → get_or st.since.items x 0 ≡ left
  since_at x lt = ap (λ ys. get_or ys x 0) es ∙ get_or-replicate n x left 0 lt

  pub stands_first : (ns : List ℕ) (place m : ℕ) → m ≡ n → left ≡ numbered_from ns 0 place → StandsAt ns place m st
  stands_first ns place m e k = record {
    stands = record {
      sinces = ap length es ∙ length-replicate n left ∙ sym e;
      rows = ap length er ∙ length-replicate n [] ∙ sym e;
      later = λ x lt. let s = since_at x (omega (arith, e, lt)) in omega (arith, s, el);
    };
    left = el ∙ k;
  }

  pub none_first : (set : List Bool) (x : ℕ) → x < n → calls_kept st set x ≡ []
  none_first set x lt = kept_any st set [] x (since_at x lt ∙ sym el) ∙ ap (λ ys. get_or ys x []) er ∙ get_or-replicate n x [] [] lt

-- the same of what the walk is given and answers
pub rows_live : (f : FlatFunc) (ns : List ℕ) (v : Vec Bool Global) (none told behind before lent : List Bool) (s t : Stmts) (count first left n : ℕ) (tos : List (Vec Bool Global))
    (start walked ended : Keeping) (rows : List (List ℕ)) → StmtsFit (length f.locals) 1 f.body
    → Rises ns → All (λ n. n < call_total f.body) ns → none ≡ replicate (length f.locals) false → TellsAnywhere none told (result_got f.result) → behind ≡ told → v.items ≡ behind → tos ≡ v ∷ []
    → s ≡ f.body → t ≡ f.body → count ≡ 0 + call_total t → n ≡ length f.locals → start.left ≡ left → start.since.items ≡ replicate n left → start.rows.items ≡ replicate n []
    → RowsPut ns tos behind before s count first start walked → length before ≡ length behind → lent ≡ before → Settles lent (λ x. true) walked ended → rows ≡ ended.rows.items → LiveRows f ns rows
rows_live f ns v none told behind before lent s t count first left n tos start walked ended rows fits rises range en read eb ev et es est ec same_size sl ss sr put long el settled er =
    let a : RowsPut ns (v ∷ []) behind before s count first start walked = subst (λ ts. RowsPut ns ts behind before s count first start walked) et put in
    let b : RowsPut ns (v ∷ []) behind before f.body count first start walked = subst (λ u. RowsPut ns (v ∷ []) behind before u count first start walked) es a in
    let k : count ≡ call_total f.body = let z = ap call_total est in omega (arith, ec, z) in
    let d : RowsPut ns (v ∷ []) behind before f.body (call_total f.body) first start walked = subst (λ m. RowsPut ns (v ∷ []) behind before f.body m first start walked) k b in
    let h : TellsAnywhere (replicate (length f.locals) false) behind (result_got f.result) =
    subst (λ o. TellsAnywhere o behind (result_got f.result)) en (subst (λ n. TellsAnywhere none n (result_got f.result)) (sym eb) read) in
    let first_long : length behind ≡ length f.locals = (h (λ z. [])).size ∙ length-replicate (length f.locals) false in
    let last_long : length lent ≡ length f.locals = ap length el ∙ long ∙ first_long in
    whole_rows f ns v behind before first start walked fits rises range ev h d (λ x lt. none_first n left start sl ss sr behind x (omega (arith, same_size, lt))) rows
    (ap length er ∙ settled.stands.rows ∙ last_long)
    (λ x lt.
    let low : x < length lent = omega (arith, last_long, lt) in
    ap (λ rs. get_or rs x []) er ∙ sym (kept_told ended lent x (settled.told x low refl)) ∙ settled.same x low ∙ ap (λ z. calls_kept walked z x) el)

-- ---- sets that are made again

pub sets_again : (f : FlatFunc) (ns : List ℕ) (rows : List (List ℕ)) (made : List (Vec Bool Global)) (n : ℕ) → n ≡ length ns → LiveRows f ns rows → MadeAgain rows n made
    → LiveAtCalls f ns (lists_of made)
sets_again f ns rows made n e h m =
    let all : AreKept (length rows) (length ns) h.sets rows = subst (λ k. AreKept k (length ns) h.sets rows) (sym h.kept.keepers.size) h.kept in
    let many = h.kept.many in
    subst (LiveAtCalls f ns) (sym (m.same (length ns) h.sets all (omega (arith, e)) ∙ take_all n h.sets (omega (arith, e, many)))) h.live
