-- The calls that keep each local, statement by statement.
use Rattle.std.proofs.Common.{◌≡◌, ◌∙◌, ℕ, zero, suc, ◌-◌, ◌+◌, ◌<◌, ◌≤◌, List, [], ◌∷◌, ◌++◌, length, drop, get_or, Option, Bool, true, false, ◌&&◌, ◌||◌, nat_eq, refl, sym, ap, arith, subst, length-append}
use Rattle.std.specs.Prelude.{Vec, if◌then◌else◌}
use Rattle.std.specs.declared.alloc.Global.{Global}
use Rattle.std.specs.List.{list_any}
use Rattle.std.proofs.lemmas.List.{append-nil, append_assoc}
use Rattle.wa_types.specs.declared.instrs.Instr.{Instr}
use Rattle.wa_types.specs.Syntax.{a_block, a_loop, Code, done}
use Rattle.wa_types.specs.Liveness.{live}
use Rattle.wa_model.specs.declared.flat.Operand.{Operand}
use Rattle.wa_model.specs.declared.flat.Stmt.{Stmt, roll-Stmt, roll-out-Stmt}
use Rattle.wa_model.specs.declared.flat.Stmt.TheVariants.{Plain as PlainStmt, Move, Call as CallStmt, Br as BrStmt, BrIf as BrIfStmt, BrTable as BrTableStmt, Block, Loop, If, Unreachable as UnreachableStmt, Block', Loop', If', rolls-Block, rolls-Loop, rolls-If, outs-Block', outs-Loop', outs-If'}
use Rattle.run_theory.specs.Flat.{Stmts, no_more, computes, copies, calls, leaps, leaps_if, leaps_by, nests, decides, halts, set_to, slots_got, last_of, code_of}
use Rattle.run_theory.specs.FlatView.{stmt_in_front, stmts}
use Rattle.guard_form.specs.Grouping.{is_place}
use Rattle.guard_form.specs.Pieces.{call_total}
use Rattle.flow_rewrite.specs.Statements.{with_rest}
use Rattle.flow_rewrite.proofs.StmtLemmas.{in_front_is, stmts_step, stmts_end, total_with, call_is}
use Rattle.live_locals.specs.Ops.{OpsFit}
use Rattle.live_locals.specs.Sets.{has, told_of, told_by, TellsBefore, TellsAnywhere, Passed}
use Rattle.live_locals.specs.Keeping.{CallPut, Settles, Stands, calls_kept, is_it, touches}
use Rattle.live_locals.specs.Rows.{label_tells, kept, chosen, numbered_from, calls_told, CallsBefore, Countable, RowsPut, StandsAt}
use Rattle.live_locals.specs.declared.keeping.Keeping.{Keeping}
use Rattle.live_locals.proofs.SetLemmas.{live_followed, told_more}
use Rattle.live_locals.proofs.CodeLemmas.{live_slots, slots_set, ops_at}
use Rattle.live_locals.proofs.KeepingLemmas.{kept_any, kept_same}
use Rattle.live_locals.proofs.TouchLemmas.{done_past, simple_kept, unwritten}

-- ---- lists by places

module _ (ns : List ℕ) where
  pub chosen_append : {X : Type 0} (n : ℕ) (xs ys : List X) → chosen ns n (xs ++ ys) ≡ chosen ns n xs ++ chosen ns (n + length xs) ys
  chosen_append n [] ys = let z : n ≡ n + 0 = omega arith in ap (λ m. chosen ns m ys) z
  chosen_append n (x ∷ xs) ys =
      by (is_place ns n) (let z : suc n + length xs ≡ n + suc (length xs) = omega arith in chosen_append (suc n) xs ys ∙ ap (λ m. chosen ns (suc n) xs ++ chosen ns m ys) z)
    where
      by : (b : Bool) → chosen ns (suc n) (xs ++ ys) ≡ chosen ns (suc n) xs ++ chosen ns (n + suc (length xs)) ys
          → (if b then x ∷ chosen ns (suc n) (xs ++ ys) else chosen ns (suc n) (xs ++ ys)) ≡ (if b then x ∷ chosen ns (suc n) xs else chosen ns (suc n) xs) ++ chosen ns (n + suc (length xs)) ys
      by true ih = ap (λ z. x ∷ z) ih
      by false ih = ih

  pub numbered_add : (n a b : ℕ) → numbered_from ns n (a + b) ≡ numbered_from ns n a + numbered_from ns (n + a) b
  numbered_add n zero b = let z : n ≡ n + 0 = omega arith in let y : 0 + b ≡ b = omega arith in let w : 0 + numbered_from ns (n + 0) b ≡ numbered_from ns (n + 0) b = omega arith in
      ap (numbered_from ns n) y ∙ ap (λ m. numbered_from ns m b) z ∙ sym w
  numbered_add n (suc a) b =
      let y : suc a + b ≡ suc (a + b) = omega arith in
      ap (numbered_from ns n) y
      ∙ by (is_place ns n) (let z : suc n + a ≡ n + suc a = omega arith in numbered_add (suc n) a b ∙ ap (λ m. numbered_from ns (suc n) a + numbered_from ns m b) z)
    where
      by : (c : Bool) → numbered_from ns (suc n) (a + b) ≡ numbered_from ns (suc n) a + numbered_from ns (n + suc a) b
          → (if c then suc (numbered_from ns (suc n) (a + b)) else numbered_from ns (suc n) (a + b))
          ≡ (if c then suc (numbered_from ns (suc n) a) else numbered_from ns (suc n) a) + numbered_from ns (n + suc a) b
      by true ih = omega (arith, ih)
      by false ih = ih

  pub chosen_count : {X : Type 0} (n : ℕ) (xs : List X) → length (chosen ns n xs) ≡ numbered_from ns n (length xs)
  chosen_count n [] = refl
  chosen_count n (x ∷ xs) = by (is_place ns n) (chosen_count (suc n) xs)
    where
      by : (c : Bool) → length (chosen ns (suc n) xs) ≡ numbered_from ns (suc n) (length xs)
          → length (if c then x ∷ chosen ns (suc n) xs else chosen ns (suc n) xs) ≡ (if c then suc (numbered_from ns (suc n) (length xs)) else numbered_from ns (suc n) (length xs))
      by true ih = ap suc ih
      by false ih = ih

-- ---- what is kept

kept_with : (x : ℕ) (tos : List Bool) (out : Bool) (u s : Stmts) → kept x tos out (with_rest u s) ≡ kept x tos (live x tos out (code_of s)) (with_rest u no_more) ++ kept x tos out s
unfolding kept code_of live
kept_with x tos out no_more s = refl
kept_with x tos out (computes op args to rest) s = refl
kept_with x tos out (copies to from rest) s = refl
kept_with x tos out (calls op stack args to rest) s =
    ap (λ b. b ∷ kept x tos out s) (ap (live x tos out) (slots_set stack to (code_of s)) ∙ live_followed x tos out (slots_got stack (set_to to done)) (code_of s))
kept_with x tos out (leaps l rest) s = refl
kept_with x tos out (leaps_if o l rest) s = refl
kept_with x tos out (leaps_by o ls l rest) s = refl
kept_with x tos out (nests y body rest) s =
    let k : Bool = live x tos out (code_of s) in
    ap (λ z. z ++ kept x tos out s) (sym (append-nil (kept x (label_tells x y tos k (code_of body) ∷ tos) k body)))
kept_with x tos out (decides o a b rest) s =
    let k : Bool = live x tos out (code_of s) in
    let ka : List Bool = kept x (k ∷ tos) k a in
    let kb : List Bool = kept x (k ∷ tos) k b in
    ap (λ z. ka ++ (z ++ kept x tos out s)) (sym (append-nil kb)) ∙ sym (append_assoc ka (kb ++ []) (kept x tos out s))
kept_with x tos out (halts rest) s = refl

pub kept_front : (x : ℕ) (tos : List Bool) (out : Bool) (st : Stmt) (s : Stmts) → kept x tos out (stmt_in_front st s) ≡ kept x tos (live x tos out (code_of s)) (stmt_in_front st no_more)
    ++ kept x tos out s
kept_front x tos out st s =
    ap (kept x tos out) (in_front_is st s) ∙ kept_with x tos out (stmt_in_front st no_more) s
    ∙ ap (λ u. kept x tos (live x tos out (code_of s)) u ++ kept x tos out s) (sym (in_front_is st no_more))

pub kept_count : (x : ℕ) (tos : List Bool) (out : Bool) (s : Stmts) → length (kept x tos out s) ≡ call_total s
unfolding kept
kept_count x tos out no_more = refl
kept_count x tos out (computes op args to rest) = kept_count x tos out rest
kept_count x tos out (copies to from rest) = kept_count x tos out rest
kept_count x tos out (calls op stack args to rest) = ap suc (kept_count x tos out rest)
kept_count x tos out (leaps l rest) = kept_count x tos out rest
kept_count x tos out (leaps_if o l rest) = kept_count x tos out rest
kept_count x tos out (leaps_by o ls l rest) = kept_count x tos out rest
kept_count x tos out (nests y body rest) =
    let k : Bool = live x tos out (code_of rest) in
    let ts : List Bool = label_tells x y tos k (code_of body) ∷ tos in
    let a = kept_count x ts k body in let b = kept_count x tos out rest in
    let e = length-append (kept x ts k body) (kept x tos out rest) in omega (arith, a, b, e)
kept_count x tos out (decides o s t rest) =
    let k : Bool = live x tos out (code_of rest) in
    let a = kept_count x (k ∷ tos) k s in let b = kept_count x (k ∷ tos) k t in let d = kept_count x tos out rest in
    let e = length-append (kept x (k ∷ tos) k s) (kept x (k ∷ tos) k t ++ kept x tos out rest) in
    let f = length-append (kept x (k ∷ tos) k t) (kept x tos out rest) in omega (arith, a, b, d, e, f)
kept_count x tos out (halts rest) = kept_count x tos out rest

pub total_front : (x : Stmt) (s : Stmts) → call_total (stmt_in_front x s) ≡ call_total (stmt_in_front x no_more) + call_total s
total_front x s =
    let a = ap call_total (in_front_is x s) in let b = ap call_total (in_front_is x no_more) in
    let e = total_with 0 (stmt_in_front x no_more) s in let f = total_with 0 (stmt_in_front x no_more) no_more in
    omega (arith, a, b, e, f)

total_drop : (i : ℕ) (xs : List Stmt) → call_total (stmts (drop i xs)) ≤ call_total (stmts xs)
unfolding stmts
total_drop zero xs = omega arith
total_drop (suc i) [] = omega arith
total_drop (suc i) (x ∷ xs) = let a = total_drop i xs in let b = total_front x (stmts xs) in omega (arith, a, b)

-- ---- counting

pub count_next : (xs : List Stmt) (j : ℕ) (x : Stmt) (next next2 m : ℕ) → j < length xs → x ≡ get_or xs j x → next2 ≡ next + call_total (stmt_in_front x no_more)
    → next + call_total (stmts (drop j xs)) ≡ m
    → next2 + call_total (stmts (drop (j + 1) xs)) ≡ m
count_next xs j x next next2 m lt at n e =
    let q = ap call_total (stmts_step xs j x lt at) in let f = total_front x (stmts (drop (j + 1) xs)) in omega (arith, q, f, n, e)

pub count_end : (xs : List Stmt) (j next m : ℕ) → length xs ≤ j → next + call_total (stmts (drop j xs)) ≡ m → next ≡ m
count_end xs j next m le e = let q = ap call_total (stmts_end xs j le) in omega (arith, q, e)

pub nest_total : (n m : ℕ) (x : Stmt) (y : _) (body : Stmts) → stmt_in_front x no_more ≡ nests y body no_more → m ≡ n + call_total body → m ≡ n + call_total (stmt_in_front x no_more)
nest_total n m x y body is e = let q = ap call_total is in omega (arith, q, e)

pub if_total : (n m l : ℕ) (x : Stmt) (o : Operand) (s t : Stmts) → stmt_in_front x no_more ≡ decides o s t no_more → m ≡ n + call_total s → l ≡ m + call_total t
    → l ≡ n + call_total (stmt_in_front x no_more)
if_total n m l x o s t is e f = let q = ap call_total is in omega (arith, q, e, f)

-- ---- numbers of calls

pub told_append : (k : ℕ) (xs ys : List Bool) → calls_told k (xs ++ ys) ≡ calls_told k xs ++ calls_told (k + length xs) ys
told_append k [] ys = let z : k ≡ k + 0 = omega arith in ap (λ n. calls_told n ys) z
told_append k (x ∷ xs) ys =
    let own : List ℕ = if x then k ∷ [] else [] in
    let z : suc k + length xs ≡ k + suc (length xs) = omega arith in
    ap (λ z. own ++ z) (told_append (suc k) xs ys ∙ ap (λ n. calls_told (suc k) xs ++ calls_told n ys) z) ∙ sym (append_assoc own (calls_told (suc k) xs) (calls_told (k + suc (length xs)) ys))

told_one : (b v : Bool) (k : ℕ) → calls_told k (if b then v ∷ [] else []) ≡ (if b && v then k ∷ [] else [])
told_one true true k = refl
told_one true false k = refl
told_one false v k = refl

-- ---- the calls of statements

module _ (ns : List ℕ) where
  -- how many numbered calls stand before a place
  abbrev number_at : ℕ → ℕ
  number_at p = numbered_from ns 0 p

  pub one_before : (p last : ℕ) → p + 1 ≡ last → number_at p + (if is_place ns p then 1 else 0) ≡ number_at last
  one_before p last e =
      let z : 0 + p ≡ p = omega arith in
      let a = ap number_at (sym e) ∙ numbered_add ns 0 p 1 ∙ ap (λ n. number_at p + numbered_from ns n 1) z in
      by (is_place ns p) refl ∙ sym a
    where
      by : (b : Bool) → is_place ns p ≡ b → number_at p + (if is_place ns p then 1 else 0) ≡ number_at p + numbered_from ns p 1
      by true e = ap (λ c. number_at p + (if c then 1 else 0)) e ∙ sym (ap (λ c. number_at p + (if c then suc (numbered_from ns (suc p) 0) else numbered_from ns (suc p) 0)) e)
      by false e = ap (λ c. number_at p + (if c then 1 else 0)) e ∙ sym (ap (λ c. number_at p + (if c then suc (numbered_from ns (suc p) 0) else numbered_from ns (suc p) 0)) e)

  -- two stretches of calls, the later one first
  calls_pair : (tos tos1 tos2 : List (Vec Bool Global)) (a a1 a2 : List Bool) (s s1 s2 : Stmts) (last mid first : ℕ) (old between new : ℕ → List ℕ) → length a1 ≡ length a
      → length a2 ≡ length a
      → call_total s ≡ call_total s2 + call_total s1
      → ((x : ℕ) → x < length a → kept x (told_of x tos) (has a x) s ≡ kept x (told_of x tos2) (has a2 x) s2 ++ kept x (told_of x tos1) (has a1 x) s1)
      → CallsBefore ns tos1 a1 s1 last mid old between → CallsBefore ns tos2 a2 s2 mid first between new → CallsBefore ns tos a s last first old new
  calls_pair tos tos1 tos2 a a1 a2 s s1 s2 last mid first old between new n1 n2 t k f g = record {
    places = let p = f.places in let q = g.places in omega (arith, t, p, q);
    each = λ x lt.
        let k1 : List Bool = kept x (told_of x tos1) (has a1 x) s1 in
        let k2 : List Bool = kept x (told_of x tos2) (has a2 x) s2 in
        let c1 : List Bool = chosen ns mid k1 in
        let c2 : List Bool = chosen ns first k2 in
        let at : first + length k2 ≡ mid = ap (λ m. first + m) (kept_count x (told_of x tos2) (has a2 x) s2) ∙ g.places in
        let number : number_at first + length c2 ≡ number_at mid =
        ap (λ m. number_at first + m) (chosen_count ns first k2) ∙ (let z : 0 + first ≡ first = omega arith in ap (λ m. number_at first + numbered_from ns m (length k2)) (sym z))
        ∙ sym (numbered_add ns 0 first (length k2)) ∙ ap number_at at in
        g.each x (omega (arith, n2, lt)) ∙ ap (λ z. calls_told (number_at first) c2 ++ z) (f.each x (omega (arith, n1, lt)))
        ∙ sym (append_assoc (calls_told (number_at first) c2) (calls_told (number_at mid) c1) (old x))
        ∙ ap (λ n. (calls_told (number_at first) c2 ++ calls_told n c1) ++ old x) (sym number)
        ∙ ap (λ z. z ++ old x) (sym (told_append (number_at first) c2 c1))
        ∙ ap (λ m. calls_told (number_at first) (c2 ++ chosen ns m k1) ++ old x) (sym at)
        ∙ ap (λ z. calls_told (number_at first) z ++ old x) (sym (chosen_append ns first k2 k1) ∙ ap (chosen ns first) (sym (k x lt)));
  }

  -- the same calls
  calls_as : (tos tos1 : List (Vec Bool Global)) (a a1 : List Bool) (s s1 : Stmts) (last first : ℕ) (old new : ℕ → List ℕ) → length a1 ≡ length a → call_total s ≡ call_total s1
      → ((x : ℕ) → x < length a → kept x (told_of x tos) (has a x) s ≡ kept x (told_of x tos1) (has a1 x) s1) → CallsBefore ns tos1 a1 s1 last first old new
      → CallsBefore ns tos a s last first old new
  calls_as tos tos1 a a1 s s1 last first old new n t k f = record {
    places = let p = f.places in omega (arith, t, p);
    each = λ x lt. f.each x (omega (arith, n, lt)) ∙ ap (λ z. calls_told (number_at first) (chosen ns first z) ++ old x) (sym (k x lt));
  }

  stands_as : (place n m : ℕ) (st : Keeping) → n ≡ m → StandsAt ns place n st → StandsAt ns place m st
  stands_as place n m st e h = subst (λ k. StandsAt ns place k st) e h

  -- no calls
  pub rows_none : (tos : List (Vec Bool Global)) (a b : List Bool) (s : Stmts) (last : ℕ) (old new : Keeping) → call_total s ≡ 0 → ((x : ℕ) → kept x (told_of x tos) (has a x) s ≡ [])
      → ((x : ℕ) → x < length a → calls_kept new b x ≡ calls_kept old a x) → StandsAt ns last (length a) new → RowsPut ns tos a b s last last old new
  rows_none tos a b s last old new t k same there = record {
    told = record {
      places = omega (arith, t);
      each = λ x lt. same x lt ∙ sym (ap (λ z. calls_told (number_at last) (chosen ns last z) ++ calls_kept old a x) (k x));
    };
    there = there;
  }

  pub rows_first : (tos : List (Vec Bool Global)) (a : List Bool) (xs : List Stmt) (last : ℕ) (old : Keeping) → StandsAt ns last (length a) old
      → RowsPut ns tos a a (stmts (drop (length xs) xs)) last last old old
  unfolding kept
  rows_first tos a xs last old there =
      let e = stmts_end xs (length xs) (omega arith) in
      rows_none tos a a (stmts (drop (length xs) xs)) last old old (ap call_total e) (λ x. ap (kept x (told_of x tos) (has a x)) e) (λ x lt. refl) there

  pub rows_before : (tos mid : List (Vec Bool Global)) (a b c : List Bool) (xs : List Stmt) (left : ℕ) (x : Stmt) (last place first : ℕ) (old between new : Keeping) → 0 < left
      → left ≤ length xs
      → x ≡ get_or xs (left - 1) x → Passed tos mid a b (code_of (stmts (drop left xs))) → RowsPut ns tos a b (stmts (drop left xs)) last place old between
      → RowsPut ns mid b c (stmt_in_front x no_more) place first between new → RowsPut ns tos a c (stmts (drop (left - 1) xs)) last first old new
  rows_before tos mid a b c xs left x last place first old between new some within at p f g =
      let next : left - 1 + 1 ≡ left = omega arith in
      let e : stmts (drop (left - 1) xs) ≡ stmt_in_front x (stmts (drop left xs)) = stmts_step xs (left - 1) x (omega arith) at ∙ ap (λ n. stmt_in_front x (stmts (drop n xs))) next in
      let rest : Stmts = stmts (drop left xs) in record {
        told = calls_pair tos tos mid a a b (stmts (drop (left - 1) xs)) rest (stmt_in_front x no_more) last place first (calls_kept old a) (calls_kept between b) (calls_kept new c) refl
            p.tells.size
            (ap call_total e ∙ total_front x rest)
            (λ y lt. ap (kept y (told_of y tos) (has a y)) e ∙ kept_front y (told_of y tos) (has a y) x rest
            ∙ ap (λ z. z ++ kept y (told_of y tos) (has a y) rest)
            (ap (λ c. kept y (told_of y tos) c (stmt_in_front x no_more)) (sym (p.tells.each y lt)) ∙ ap (λ ts. kept y (told_of y ts) (has b y) (stmt_in_front x no_more)) (sym p.labels)))
            f.told g.told;
        there = stands_as first (length b) (length a) new p.tells.size g.there;
      }

  pub rows_end : (tos : List (Vec Bool Global)) (a b : List Bool) (xs : List Stmt) (left last first : ℕ) (old new : Keeping) → left ≡ 0
      → RowsPut ns tos a b (stmts (drop left xs)) last first old new
      → RowsPut ns tos a b (stmts xs) last first old new
  rows_end tos a b xs left last first old new e h = subst (λ n. RowsPut ns tos a b (stmts (drop n xs)) last first old new) e h

  -- what is asked of the statement before
  pub countable_before : (tos : List (Vec Bool Global)) (a b : List Bool) (xs : List Stmt) (left : ℕ) (x : Stmt) (last place : ℕ) (old between : Keeping) → 0 < left → left ≤ length xs
      → x ≡ get_or xs (left - 1) x → Countable ns last (stmts xs) → RowsPut ns tos a b (stmts (drop left xs)) last place old between → Countable ns place (stmt_in_front x no_more)
  countable_before tos a b xs left x last place old between some within at h f = record {
    ops = ops_at xs (left - 1) x (omega (arith, some, within)) at h.ops;
    rises = h.rises;
    room =
        let next : left - 1 + 1 ≡ left = omega arith in
        let e = ap call_total (stmts_step xs (left - 1) x (omega arith) at ∙ ap (λ n. stmt_in_front x (stmts (drop n xs))) next) in
        let t = total_front x (stmts (drop left xs)) in let d = total_drop (left - 1) xs in let p = f.told.places in let r = h.room in omega (arith, e, t, d, p, r);
  }

  pub stands_before : (tos mid : List (Vec Bool Global)) (a b : List Bool) (s : Stmts) (last place : ℕ) (old between : Keeping) (k : Code) → Passed tos mid a b k → RowsPut ns tos a b s last place old between
      → StandsAt ns place (length b) between
  stands_before tos mid a b s last place old between k p f = stands_as place (length a) (length b) between (sym p.tells.size) f.there

  pub stands_settled : (place m n : ℕ) (lent : List Bool) (test : ℕ → Bool) (old new : Keeping) → length lent ≡ n → StandsAt ns place m old → Settles lent test old new → StandsAt ns place n new
  stands_settled place m n lent test old new e h j = record { stands = subst (λ k. Stands k new) e j.stands; left = j.left ∙ h.left }

  -- all calls are told, and any set is there from then on
  pub rows_settled : (tos : List (Vec Bool Global)) (a b c lent : List Bool) (s : Stmts) (last first : ℕ) (old mid new : Keeping) → length b ≡ length a → lent ≡ b
      → RowsPut ns tos a b s last first old mid → Settles lent (λ x. true) mid new → RowsPut ns tos a c s last first old new
  rows_settled tos a b c lent s last first old mid new n el f h =
      let long = ap length el ∙ n in record {
        told = record {
          places = f.told.places;
          each = λ x lt.
              kept_any new c lent x (h.told x (omega (arith, long, lt)) refl) ∙ h.same x (omega (arith, long, lt)) ∙ ap (λ z. calls_kept mid z x) el ∙ f.told.each x lt;
        };
        there = record { stands = subst (λ k. Stands k new) long h.stands; left = h.left ∙ f.there.left };
      }

  -- ---- a call

  -- it's counted
  pub call_room : (x : Stmt) (op : Instr) (stack : Vec ℕ Global) (args : ℕ) (to : Option ℕ) (last : ℕ) → x ≡ CallStmt op stack args to → Countable ns last (stmt_in_front x no_more) → 1 ≤ last
  call_room x op stack args to last e h = let t = ap call_total (call_is x op stack args to e no_more) in let r = h.room in omega (arith, t, r)

  -- what is asked where it is put
  pub call_number : (last place : ℕ) (a : List Bool) (to : Option ℕ) (old mid : Keeping) → 1 ≤ last → place ≡ last - 1 → StandsAt ns last (length a) old → Settles a (λ x. is_it x to) old mid
      → mid.left ≡ numbered_from ns 0 (suc place)
  call_number last place a to old mid some e h j = let z : suc place ≡ last = omega (arith, some, e) in j.left ∙ h.left ∙ ap number_at (sym z)

  pub call_rows : (tos : List (Vec Bool Global)) (x : Stmt) (op : Instr) (stack : Vec ℕ Global) (args : ℕ) (to : Option ℕ) (xs : List ℕ) (a b c : List Bool) (last : ℕ) (old mid new : Keeping)
      → x ≡ CallStmt op stack args to → xs ≡ stack.items → call_total (stmt_in_front x no_more) ≤ last → StandsAt ns last (length a) old
      → Settles a (λ y. is_it y to) old mid → TellsAnywhere a b (set_to to done) → CallPut (is_place ns (last - 1)) b xs (last_of args xs) mid new
      → TellsAnywhere b c (slots_got (last_of args xs) done)
      → RowsPut ns tos a c (stmt_in_front x no_more) last (last - 1) old new
  unfolding kept code_of live
  call_rows tos x op stack args to xs a b c last old mid new e ex room there j w f r =
      let is = call_is x op stack args to e no_more in
      let t : call_total (stmt_in_front x no_more) ≡ 1 = ap call_total is in
      let n = (w (told_by tos)).size in
      let next : last - 1 + 1 ≡ last = omega (arith, t, room) in
      let number : new.left ≡ number_at (last - 1) = (let o = one_before (last - 1) last next in let k = f.keeps.left in let i = j.left in let l = there.left in omega (arith, o, k, i, l)) in record {
        told = record {
          places = omega (arith, t, room);
          each = λ y lt.
              let ts = told_of y tos in
              let low : y < length b = omega (arith, n, lt) in
              let own : Bool = list_any (nat_eq y) xs || has b y in
              let kept_is : kept y ts (has a y) (stmt_in_front x no_more) ≡ own ∷ [] =
              ap (kept y ts (has a y)) is ∙ ap (λ v. v ∷ []) (live_slots y ts (has a y) stack.items (set_to to done) ∙ ap (λ v. list_any (nat_eq y) stack.items || v) (sym ((w (told_by tos)).each y lt)))
              ∙ ap (λ zs. (list_any (nat_eq y) zs || has b y) ∷ []) (sym ex) in
              behind y low (list_any (nat_eq y) (last_of args xs)) refl ∙ f.keeps.kept y low
              ∙ ap (λ z. (if is_place ns (last - 1) && own then new.left ∷ [] else []) ++ z) (before y lt (is_it y to) refl ∙ j.same y lt)
              ∙ ap (λ k. (if is_place ns (last - 1) && own then k ∷ [] else []) ++ calls_kept old a y) number
              ∙ ap (λ z. z ++ calls_kept old a y) (sym (told_one (is_place ns (last - 1)) own (number_at (last - 1))))
              ∙ ap (λ z. calls_told (number_at (last - 1)) (chosen ns (last - 1) z) ++ calls_kept old a y) (sym kept_is);
        };
        there = record { stands = subst (λ k. Stands k new) n f.keeps.stands; left = number };
      }
    where
      -- what is read for the call is told
      behind : (y : ℕ) → y < length b → (v : Bool) → list_any (nat_eq y) (last_of args xs) ≡ v → calls_kept new c y ≡ calls_kept new b y
      behind y lt true q = kept_any new c b y (f.told y lt q)
      behind y lt false q =
          kept_same new c b y ((r (told_by tos)).each y lt ∙ live_slots y (told_of y tos) (has b y) (last_of args xs) done
          ∙ ap (λ v. list_any (nat_eq y) (last_of args xs) || v) (done_past y (told_of y tos) (has b y)) ∙ ap (λ v. v || has b y) q)

      -- the local that is written is told
      before : (y : ℕ) → y < length a → (v : Bool) → is_it y to ≡ v → calls_kept mid b y ≡ calls_kept mid a y
      before y lt true q = kept_any mid b a y (j.told y lt q)
      before y lt false q = kept_same mid b a y ((w (told_by tos)).each y lt ∙ unwritten y (told_of y tos) (has a y) to q)

-- ---- constructs

module _ (ns : List ℕ) (x : Stmt) (tos : List (Vec Bool Global)) where
  abbrev one : Stmts
  one = stmt_in_front x no_more

  pub block_rows : (body : Stmts) (v : Vec Bool Global) (inside : List (Vec Bool Global)) (a b : List Bool) (last first : ℕ) (old new : Keeping) → one ≡ nests a_block body no_more
      → v.items ≡ a → inside ≡ tos ++ v ∷ [] → RowsPut ns inside a b body last first old new → RowsPut ns tos a b one last first old new
  unfolding kept code_of live
  block_rows body v inside a b last first old new is e ei h = record {
    told = calls_as ns tos inside a a one body last first (calls_kept old a) (calls_kept new b) refl (let t = ap call_total is in omega (arith, t))
        (λ y lt. ap (kept y (told_of y tos) (has a y)) is ∙ append-nil (kept y (has a y ∷ told_of y tos) (has a y) body)
        ∙ ap (λ ts. kept y ts (has a y) body) (sym (ap (told_of y) ei ∙ told_more y tos v ∙ ap (λ s. has s y ∷ told_of y tos) e))) h.told;
    there = h.there;
  }

  pub loop_rows : (body : Stmts) (v : Vec Bool Global) (inside : List (Vec Bool Global)) (a b entry inner lent : List Bool) (last first : ℕ) (old mid new : Keeping) → one ≡ nests a_loop body no_more
      → v.items ≡ entry → inside ≡ tos ++ v ∷ [] → b ≡ a → TellsBefore (told_by tos) a entry (code_of one) → RowsPut ns inside b inner body last first old mid → length inner ≡ length b
      → lent ≡ inner → Settles lent (λ y. true) mid new → RowsPut ns tos a entry one last first old new
  unfolding kept code_of live
  loop_rows body v inside a b entry inner lent last first old mid new is e ei eb w h n el j =
      rows_settled ns tos a inner entry lent one last first old mid new (n ∙ ap length eb) el (record {
        told = calls_as ns tos inside a b one body last first (calls_kept old a) (calls_kept mid inner) (ap length eb) (let t = ap call_total is in omega (arith, t))
            (λ y lt. ap (kept y (told_of y tos) (has a y)) is ∙ append-nil (kept y (live y (false ∷ told_of y tos) (has a y) (code_of body) ∷ told_of y tos) (has a y) body)
            ∙ ap (λ c. kept y (c ∷ told_of y tos) (has a y) body) (sym (w.each y lt ∙ ap (λ u. live y (told_of y tos) (has a y) (code_of u)) is))
            ∙ ap (λ ts. kept y ts (has a y) body) (sym (ap (told_of y) ei ∙ told_more y tos v ∙ ap (λ s. has s y ∷ told_of y tos) e)) ∙ ap (λ s. kept y (told_of y inside) (has s y) body) (sym eb))
            (subst (λ z. CallsBefore ns inside b body last first (calls_kept old z) (calls_kept mid inner)) eb h.told);
        there = stands_as ns first (length b) (length a) mid (ap length eb) h.there;
      }) j

  pub if_rows : (o : Operand) (s t : Stmts) (v : Vec Bool Global) (inside mid : List (Vec Bool Global)) (a b second first_set lent last_set joined : List Bool) (last middle first : ℕ)
      (old between turned after new : Keeping)
      → one ≡ decides o s t no_more → v.items ≡ a → inside ≡ tos ++ v ∷ [] → mid ≡ inside → b ≡ a → RowsPut ns inside a second t last middle old between → length second ≡ length a
      → lent ≡ second → Settles lent (λ y. true) between turned
      → RowsPut ns mid b first_set s middle first turned after → length first_set ≡ length b → last_set ≡ first_set → Settles last_set (λ y. true) after new
      → RowsPut ns tos a joined one last first old new
  unfolding kept code_of live
  if_rows o s t v inside mid a b second first_set lent last_set joined last middle first old between turned after new is e ei em eb f n el j g m em2 k =
      let lab : (y : ℕ) → has a y ∷ told_of y tos ≡ told_of y inside = λ y. sym (ap (told_of y) ei ∙ told_more y tos v ∙ ap (λ q. has q y ∷ told_of y tos) e) in
      let f2 : RowsPut ns inside a b t last middle old turned = rows_settled ns inside a second b lent t last middle old between turned n el f j in
      rows_settled ns tos a first_set joined last_set one last first old after new (m ∙ ap length eb) em2 (record {
        told = calls_pair ns tos inside mid a a b one t s last middle first (calls_kept old a) (calls_kept turned b) (calls_kept after first_set) refl (ap length eb)
            (let c = ap call_total is in omega (arith, c))
            (λ y lt. ap (kept y (told_of y tos) (has a y)) is
            ∙ ap (λ z. kept y (has a y ∷ told_of y tos) (has a y) s ++ z) (append-nil (kept y (has a y ∷ told_of y tos) (has a y) t))
            ∙ ap (λ ts. kept y ts (has a y) s ++ kept y ts (has a y) t) (lab y)
            ∙ (λ i. kept y (told_of y (sym em i)) (has (sym eb i) y) s ++ kept y (told_of y inside) (has a y) t)) f2.told g.told;
        there = stands_as ns first (length b) (length a) after (ap length eb) g.there;
      }) k

  -- what is asked inside
  pub nest_countable : (y : _) (body : Stmts) (last : ℕ) → one ≡ nests y body no_more → Countable ns last one → Countable ns last body
  nest_countable y body last is h = record { ops = (subst OpsFit is h.ops).0; rises = h.rises; room = let t = ap call_total is in let r = h.room in omega (arith, t, r) }

  pub else_countable : (o : Operand) (s t : Stmts) (last : ℕ) → one ≡ decides o s t no_more → Countable ns last one → Countable ns last t
  else_countable o s t last is h = record { ops = (subst OpsFit is h.ops).1; rises = h.rises; room = let c = ap call_total is in let r = h.room in omega (arith, c, r) }

  pub then_countable : (o : Operand) (s t : Stmts) (last middle : ℕ) → one ≡ decides o s t no_more → middle + call_total t ≡ last → Countable ns last one → Countable ns middle s
  then_countable o s t last middle is m h = record { ops = (subst OpsFit is h.ops).0; rises = h.rises; room = let c = ap call_total is in let r = h.room in omega (arith, c, r, m) }

simple_none : (x : Stmt) → ((op : Instr) (stack : Vec ℕ Global) (args : ℕ) (to : Option ℕ) → x ≡ CallStmt op stack args to → ⊥) → ((v : Vec Stmt Global) → x ≡ Block v → ⊥)
    → ((v : Vec Stmt Global) → x ≡ Loop v → ⊥) → ((o : Operand) (v w : Vec Stmt Global) → x ≡ If o v w → ⊥)
    → (call_total (stmt_in_front x no_more) ≡ 0) × ((y : ℕ) (tos : List Bool) (out : Bool) → kept y tos out (stmt_in_front x no_more) ≡ [])
unfolding stmt_in_front kept
simple_none (PlainStmt op args to) nc nb nl ni = (refl, λ y tos out. refl)
simple_none (Move to from) nc nb nl ni = (refl, λ y tos out. refl)
simple_none (CallStmt op stack args to) nc nb nl ni = absurd (nc op stack args to refl)
simple_none (BrStmt l) nc nb nl ni = (refl, λ y tos out. refl)
simple_none (BrIfStmt o l) nc nb nl ni = (refl, λ y tos out. refl)
simple_none (BrTableStmt o v l) nc nb nl ni = (refl, λ y tos out. refl)
simple_none (Block' a z) nc nb nl ni = absurd (nb _ (sym (roll-out-Stmt (Block' a z)) ∙ ap roll-Stmt (outs-Block' a z) ∙ rolls-Block _))
simple_none (Loop' a z) nc nb nl ni = absurd (nl _ (sym (roll-out-Stmt (Loop' a z)) ∙ ap roll-Stmt (outs-Loop' a z) ∙ rolls-Loop _))
simple_none (If' c a z e f) nc nb nl ni = absurd (ni c _ _ (sym (roll-out-Stmt (If' c a z e f)) ∙ ap roll-Stmt (outs-If' c a z e f) ∙ rolls-If c _ _))
simple_none UnreachableStmt nc nb nl ni = (refl, λ y tos out. refl)

pub simple_rows : (ns : List ℕ) (x : Stmt) (tos : List (Vec Bool Global)) (a b : List Bool) (last : ℕ) (old new : Keeping)
    → ((op : Instr) (stack : Vec ℕ Global) (args : ℕ) (to : Option ℕ) → x ≡ CallStmt op stack args to → ⊥) → ((v : Vec Stmt Global) → x ≡ Block v → ⊥)
    → ((v : Vec Stmt Global) → x ≡ Loop v → ⊥) → ((o : Operand) (v w : Vec Stmt Global) → x ≡ If o v w → ⊥) → OpsFit (stmt_in_front x no_more) → StandsAt ns last (length a) old
    → TellsBefore (told_by tos) a b (code_of (stmt_in_front x no_more)) → Settles a (λ y. touches y (stmt_in_front x no_more)) old new → RowsPut ns tos a b (stmt_in_front x no_more) last last old new
simple_rows ns x tos a b last old new nc nb nl ni fit there w h =
    let q = simple_none x nc nb nl ni in
    rows_none ns tos a b (stmt_in_front x no_more) last old new q.0 (λ y. q.1 y (told_of y tos) (has a y)) (simple_kept x (told_by tos) a b old new nc nb nl ni fit w h)
    (record { stands = h.stands; left = h.left ∙ there.left })
