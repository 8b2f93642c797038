-- Bodies and constructs, passed over backwards in all worlds.
use Rattle.std.proofs.Common.{◌≡◌, ◌∙◌, ℕ, suc, ◌-◌, ◌+◌, ◌<◌, ◌≤◌, inl, inr, List, [], ◌∷◌, ◌++◌, length, map, take, drop, get_or, set, replicate, Option, Some, None, Bool, false, ◌||◌, refl, sym, ap, arith, subst, length-append}
use Rattle.std.specs.Prelude.{Vec, nat_eq, if◌then◌else◌}
use Rattle.std.specs.declared.alloc.Global.{Global}
use Rattle.std.proofs.lemmas.Bool.{cases_eq, cases_lt, eq-eqb, ne_eqb, lt-ltb, le-ltb}
use Rattle.std.proofs.lemmas.List.{append-nil, append_assoc, get_or_past, get_or-replicate, length-replicate, reverse-append, take_at}
use Rattle.std.proofs.Math.Seq.{take-append_seam}
use Rattle.wa_types.specs.Syntax.{a_block, a_loop, Code, done, nest}
use Rattle.wa_types.specs.Liveness.{live}
use Rattle.wa_model.specs.declared.flat.Operand.{Operand}
use Rattle.wa_model.specs.declared.flat.Stmt.{Stmt, roll-Stmt, roll-out-Stmt}
use Rattle.wa_model.specs.declared.flat.Stmt.TheVariants.{Plain as PlainStmt, Move, Call as CallStmt, Br as BrStmt, BrIf as BrIfStmt, BrTable as BrTableStmt, Block, Loop, If, Unreachable as UnreachableStmt, Block', Loop', If', rolls-Block, rolls-Loop, rolls-If, outs-Block', outs-Loop', outs-If'}
use Rattle.run_theory.specs.Flat.{Stmts, no_more, nests, decides, got, code_of}
use Rattle.run_theory.specs.FlatView.{stmt_in_front, stmts}
use Rattle.flow_rewrite.proofs.StmtLemmas.{stmts_step, stmts_end}
use Rattle.live_locals.specs.Sets.{has, told_of, TellsBefore}
use Rattle.live_locals.proofs.SetLemmas.{tells_as, tells_none}
use Rattle.live_locals.proofs.CodeLemmas.{code_end}
use Rattle.live_locals.proofs.PassLemmas.{tells_before, block_tells, if_tells}
use Rattle.live_locals.specs.Words.{bit, world, told_in, WordsTell, WordsBefore, WordsPassed}
use Rattle.live_locals.specs.Heads.{deeper, loop_total, heads, Knows, Fresh, HeadsPut, WordsKept}
use Rattle.live_locals.proofs.WordLemmas.{bit_none, world_long, world_has}
use Rattle.live_locals.proofs.HeadLemmas.{knows_on, knows_as, set_there, loops_front, heads_front, heads_count}

-- one more label inside
pub told_more : (i : ℕ) (outer : List (Vec Bool Global)) (inner : List (Vec ℕ Global)) (v : Vec ℕ Global) (x : ℕ)
    → told_in i outer (inner ++ v ∷ []) x ≡ has (world i v.items) x ∷ told_in i outer inner x
told_more i outer inner v x = ap (λ ws. map (λ (s : Vec ℕ Global). has (world i s.items) x) ws ++ told_of x outer) (reverse-append inner (v ∷ []))

pub told_as : (i : ℕ) (outer : List (Vec Bool Global)) (inner : List (Vec ℕ Global)) (v : Vec ℕ Global) (a : List ℕ) → v.items ≡ a → (x : ℕ)
    → told_in i outer (inner ++ v ∷ []) x ≡ has (world i a) x ∷ told_in i outer inner x
told_as i outer inner v a e x = told_more i outer inner v x ∙ ap (λ s. has (world i s) x ∷ told_in i outer inner x) e

-- ---- the label of a loop

-- what it tells to what stands inside
pub record OwnLabel (r n : ℕ) (v : Vec ℕ Global) : Type 0 where
  pub word : ℕ
  pub are : v.items ≡ replicate n word
  pub bits : (i : ℕ) → i < 64 → bit i word ≡ nat_eq i (suc r)

module _ (r n : ℕ) (v : Vec ℕ Global) (own : OwnLabel r n v) (i : ℕ) (il : i < 64) (x : ℕ) where
  pub own_here : x < n → has (world i v.items) x ≡ nat_eq i (suc r)
  own_here lt = world_has i v.items x ∙ ap (λ s. bit i (get_or s x 0)) own.are ∙ ap (bit i) (get_or-replicate n x own.word 0 lt) ∙ own.bits i il

  pub own_other : (i ≡ suc r → ⊥) → has (world i v.items) x ≡ false
  own_other ne = elim (cases_lt x n) [
    | inl l ↦ own_here l ∙ ne_eqb i (suc r) ne
    | inr g ↦ let m = length-replicate n own.word in
        world_has i v.items x ∙ ap (λ s. bit i (get_or s x 0)) own.are ∙ ap (bit i) (get_or_past (replicate n own.word) x 0 (omega (arith, m, g))) ∙ bit_none i
  ]

-- ---- worlds of loops that aren't around

pub fresh_on : (r : ℕ) (outer : List (Vec Bool Global)) (inner : List (Vec ℕ Global)) (a b : List ℕ) (k : Code) → Fresh r outer inner a → WordsBefore outer inner a b k → Fresh r outer inner b
fresh_on r outer inner a b k f w i x il lt =
    let q = f i x il lt in
    let n = world_long i a in let m = world_long 0 a in let nb = (w i il).size in let mb = (w 0 (omega arith)).size in (
      q.0,
      elim (cases_lt x (length a)) [
        | inl l ↦ (w i il).each x (omega (arith, n, l)) ∙ (λ j. live x (q.0 j) (q.1 j) k) ∙ sym ((w 0 (omega arith)).each x (omega (arith, m, l)))
        | inr g ↦ get_or_past (world i b) x false (omega (arith, n, nb, g)) ∙ sym (get_or_past (world 0 b) x false (omega (arith, m, mb, g)))
      ],
    )

pub fresh_block : (r : ℕ) (outer : List (Vec Bool Global)) (inner inside : List (Vec ℕ Global)) (v : Vec ℕ Global) (a : List ℕ) → v.items ≡ a → inside ≡ inner ++ v ∷ [] → Fresh r outer inner a
    → Fresh r outer inside a
fresh_block r outer inner inside v a e ei f =
    subst (λ ts. Fresh r outer ts a) (sym ei) (λ i x il lt. let q = f i x il lt in
    (told_as i outer inner v a e x ∙ (λ j. q.1 j ∷ q.0 j) ∙ sym (told_as 0 outer inner v a e x), q.1))

deeper_above : (r i : ℕ) → i < 64 → deeper r < i → suc r < i
deeper_above r i il lt = elim (cases_lt r 64) [
  | inl l ↦ let e : deeper r ≡ suc r = ap (λ b. if b then suc r else r) (lt-ltb r 64 l) in omega (arith, e, lt)
  | inr g ↦ let e : deeper r ≡ r = ap (λ b. if b then suc r else r) (le-ltb r 64 g) in absurd (omega (arith, e, lt, g, il))
]

pub fresh_loop : (r n : ℕ) (outer : List (Vec Bool Global)) (inner inside : List (Vec ℕ Global)) (v : Vec ℕ Global) (a : List ℕ) → OwnLabel r n v → inside ≡ inner ++ v ∷ [] → Fresh r outer inner a
    → Fresh (deeper r) outer inside a
fresh_loop r n outer inner inside v a own ei f =
    subst (λ ts. Fresh (deeper r) outer ts a) (sym ei) (λ i x il lt.
    let up = deeper_above r i il lt in
    let q = f i x il (omega (arith, up)) in (
      told_more i outer inner v x ∙ (λ j. (own_other r n v own i il x (λ e. absurd (omega (arith, e, up))) ∙ sym (own_other r n v own 0 (omega arith) x (λ e. absurd (omega (arith, e))))) j ∷ q.0 j)
          ∙ sym (told_more 0 outer inner v x),
      q.1,
    ))

-- ---- bodies

pub words_first : (outer : List (Vec Bool Global)) (inner : List (Vec ℕ Global)) (a : List ℕ) (xs : List Stmt) → WordsPassed outer inner inner a a (code_of (stmts (drop (length xs) xs)))
words_first outer inner a xs = record {
  labels = refl;
  tells = λ i il. tells_as (told_in i outer inner) (world i a) (world i a) done (code_of (stmts (drop (length xs) xs))) (sym (code_end xs)) (tells_none (told_in i outer inner) (world i a));
}

module _ (outer : List (Vec Bool Global)) (inner mid new : List (Vec ℕ Global)) (a b c : List ℕ) (xs : List Stmt) (left : ℕ) (x : Stmt) (some : 0 < left) (within : left ≤ length xs)
    (at : x ≡ get_or xs (left - 1) x) (f : WordsPassed outer inner mid a b (code_of (stmts (drop left xs)))) where
  pub words_before : WordsPassed outer mid new b c (code_of (stmt_in_front x no_more)) → WordsPassed outer inner new a c (code_of (stmts (drop (left - 1) xs)))
  words_before g = record {
    labels = g.labels ∙ f.labels;
    tells = λ i il. tells_before (told_in i outer inner) (world i a) (world i b) (world i c) xs left x some within at (f.tells i il)
        (subst (λ ts. TellsBefore (told_in i outer ts) (world i b) (world i c) (code_of (stmt_in_front x no_more))) f.labels (g.tells i il));
  }

  pub fresh_before : (r : ℕ) → Fresh r outer inner a → Fresh r outer mid b
  fresh_before r h = subst (λ ts. Fresh r outer ts b) (sym f.labels) (fresh_on r outer inner a b (code_of (stmts (drop left xs))) h f.tells)

  pub heads_before : (r : ℕ) (old between last : List (Option (Vec ℕ Global))) → HeadsPut r outer inner a (stmts (drop left xs)) old between
      → HeadsPut r outer mid b (stmt_in_front x no_more) between last → HeadsPut r outer inner a (stmts (drop (left - 1) xs)) old last
  heads_before r old between last h g =
      let rest : Stmts = stmts (drop left xs) in
      let next : left - 1 + 1 ≡ left = omega arith in
      let e : stmts (drop (left - 1) xs) ≡ stmt_in_front x rest = stmts_step xs (left - 1) x (omega arith) at ∙ ap (λ n. stmt_in_front x (stmts (drop n xs))) next in
      record {
        more = h.more ++ g.more;
        is = g.is ∙ ap (λ z. z ++ g.more) h.is ∙ append_assoc old h.more g.more;
        count = length-append h.more g.more ∙ (λ i. h.count i + g.count i) ∙ sym (ap loop_total e ∙ loops_front x rest);
        tell = λ i y il lt.
            let n = world_long i a in let nb = world_long i b in let s = (f.tells i il).size in
            let t : List Bool = told_in i outer inner y in
            let k : Bool = has (world i a) y in
            knows_as i y (h.more ++ g.more) (heads y i r t k rest ++ heads y i r (told_in i outer mid y) (has (world i b) y) (stmt_in_front x no_more)) (heads y i r t k (stmts (drop (left - 1) xs)))
            (ap (λ ts. heads y i r t k rest ++ heads y i r (told_in i outer ts y) (has (world i b) y) (stmt_in_front x no_more)) f.labels
            ∙ ap (λ o. heads y i r t k rest ++ heads y i r t o (stmt_in_front x no_more)) ((f.tells i il).each y (omega (arith, n, lt)))
            ∙ sym (ap (heads y i r t k) e ∙ heads_front y i r t k x rest))
            (knows_on i y h.more g.more (heads y i r t k rest) (heads y i r (told_in i outer mid y) (has (world i b) y) (stmt_in_front x no_more)) (h.count ∙ sym (heads_count y i r t k rest))
            (h.tell i y il lt) (g.tell i y il (omega (arith, n, nb, s, lt))));
      }

-- no loops
pub heads_none : (r : ℕ) (outer : List (Vec Bool Global)) (inner : List (Vec ℕ Global)) (a : List ℕ) (s : Stmts) (old : List (Option (Vec ℕ Global))) → loop_total s ≡ 0
    → HeadsPut r outer inner a s old old
heads_none r outer inner a s old e = record { more = []; is = sym (append-nil old); count = sym e; tell = λ i x il lt. tt }

pub heads_first : (r : ℕ) (outer : List (Vec Bool Global)) (inner : List (Vec ℕ Global)) (a : List ℕ) (xs : List Stmt) (old : List (Option (Vec ℕ Global)))
    → HeadsPut r outer inner a (stmts (drop (length xs) xs)) old old
heads_first r outer inner a xs old = heads_none r outer inner a (stmts (drop (length xs) xs)) old (ap loop_total (stmts_end xs (length xs) (omega arith)))

pub words_end : (outer : List (Vec Bool Global)) (inner new : List (Vec ℕ Global)) (a b : List ℕ) (xs : List Stmt) (left : ℕ) → left ≡ 0
    → WordsPassed outer inner new a b (code_of (stmts (drop left xs))) → WordsPassed outer inner new a b (code_of (stmts xs))
words_end outer inner new a b xs left e h = subst (λ n. WordsPassed outer inner new a b (code_of (stmts (drop n xs)))) e h

pub heads_end : (r : ℕ) (outer : List (Vec Bool Global)) (inner : List (Vec ℕ Global)) (a : List ℕ) (xs : List Stmt) (left : ℕ) (old new : List (Option (Vec ℕ Global))) → left ≡ 0
    → HeadsPut r outer inner a (stmts (drop left xs)) old new → HeadsPut r outer inner a (stmts xs) old new
heads_end r outer inner a xs left old new e h = subst (λ n. HeadsPut r outer inner a (stmts (drop n xs)) old new) e h

-- ---- constructs

popped_words : (tos : List (Vec ℕ Global)) (v : Vec ℕ Global) (old : Vec (Vec ℕ Global) Global) (new : List (Vec ℕ Global)) → old.items ≡ tos ++ v ∷ []
    → new ≡ take (old.len - 1) old.items → new ≡ tos
popped_words tos v old new e r =
    let n = old.ok.0 in let m = ap length e in let k = length-append tos (v ∷ []) in
    let z : old.len - 1 ≡ length tos = omega (arith, n, m, k) in
    r ∙ ap (λ j. take j old.items) z ∙ ap (take (length tos)) e ∙ take_at tos (v ∷ []) (length tos) refl

module _ (x : Stmt) (r : ℕ) (outer : List (Vec Bool Global)) (inner : List (Vec ℕ Global)) where
  abbrev one : Stmts
  one = stmt_in_front x no_more

  module _ (body : Stmts) (v : Vec ℕ Global) (inside : List (Vec ℕ Global)) (a : List ℕ) (ei : inside ≡ inner ++ v ∷ []) where
    module _ (is : one ≡ nests a_block body no_more) (e : v.items ≡ a) where
      pub words_block : (mid : Vec (Vec ℕ Global) Global) (new : List (Vec ℕ Global)) (b : List ℕ) → WordsPassed outer inside mid.items a b (code_of body)
          → new ≡ take (mid.len - 1) mid.items → WordsPassed outer inner new a b (code_of one)
      unfolding code_of
      words_block mid new b h t = record {
        labels = popped_words inner v mid new (h.labels ∙ ei) t;
        tells = λ i il. tells_as (told_in i outer inner) (world i a) (world i b) (nest a_block None (code_of body) done) (code_of one) (sym (ap code_of is))
            (block_tells (told_in i outer inner) (told_in i outer (inner ++ v ∷ [])) (world i a) (world i b) (code_of body) (told_as i outer inner v a e)
            (subst (λ ts. TellsBefore (told_in i outer ts) (world i a) (world i b) (code_of body)) ei (h.tells i il)));
      }

      pub heads_block : (old new : List (Option (Vec ℕ Global))) → HeadsPut r outer inside a body old new → HeadsPut r outer inner a one old new
      unfolding heads live code_of
      heads_block old new h = record {
        more = h.more;
        is = h.is;
        count = let c = h.count in let l = ap loop_total is in omega (arith, c, l);
        tell = λ i y il lt. knows_as i y h.more (heads y i r (told_in i outer inside y) (has (world i a) y) body) (heads y i r (told_in i outer inner y) (has (world i a) y) one)
            (ap (λ ts. heads y i r ts (has (world i a) y) body) (ap (λ q. told_in i outer q y) ei ∙ told_as i outer inner v a e y)
            ∙ sym (ap (heads y i r (told_in i outer inner y) (has (world i a) y)) is))
            (h.tell i y il lt);
      }

    module _ (is : one ≡ nests a_loop body no_more) (own : OwnLabel r (length a) v) (f : Fresh r outer inner a) (mid : Vec (Vec ℕ Global) Global) (b c : List ℕ)
        (h : WordsPassed outer inside mid.items a b (code_of body)) (n : length c ≡ length b)
        (leaves : (i y : ℕ) → i < 64 → has (world i c) y ≡ (if nat_eq i (suc r) then has (world 0 b) y else has (world i b) y)) where
      -- what is read first from the loop's head on, nothing told for its label
      in_others : (i : ℕ) → i < 64 → (i ≡ suc r → ⊥) → (y : ℕ) → y < length a → has (world i b) y ≡ live y (false ∷ told_in i outer inner y) (has (world i a) y) (code_of body)
      in_others i il ne y lt =
          let m = world_long i a in
          (h.tells i il).each y (omega (arith, m, lt))
          ∙ ap (λ ts. live y ts (has (world i a) y) (code_of body)) (ap (λ q. told_in i outer q y) ei ∙ told_more i outer inner v y
          ∙ ap (λ t. t ∷ told_in i outer inner y) (own_other r (length a) v own i il y ne))

      head_each : (i : ℕ) → i < 64 → (y : ℕ) → y < length a → has (world i c) y ≡ live y (false ∷ told_in i outer inner y) (has (world i a) y) (code_of body)
      head_each i il y lt = elim (cases_eq i (suc r)) [
        | inl e ↦
            let q = f i y il (omega (arith, e)) in
            leaves i y il ∙ ap (λ t. if t then has (world 0 b) y else has (world i b) y) (eq-eqb i (suc r) e) ∙ in_others 0 (omega arith) (λ z. absurd (omega (arith, z))) y lt
            ∙ (λ j. live y (false ∷ sym q.0 j) (sym q.1 j) (code_of body))
        | inr ne ↦ leaves i y il ∙ ap (λ t. if t then has (world 0 b) y else has (world i b) y) (ne_eqb i (suc r) ne) ∙ in_others i il ne y lt
      ]

      pub words_loop : (new : List (Vec ℕ Global)) → new ≡ take (mid.len - 1) mid.items → WordsPassed outer inner new a c (code_of one)
      unfolding code_of live
      words_loop new t = record {
        labels = popped_words inner v mid new (h.labels ∙ ei) t;
        tells = λ i il. tells_as (told_in i outer inner) (world i a) (world i c) (nest a_loop None (code_of body) done) (code_of one) (sym (ap code_of is)) (record {
          size = let m = world_long i c in let k = world_long i b in let s = (h.tells i il).size in omega (arith, m, k, n, s);
          each = λ y lt. let m = world_long i a in head_each i il y (omega (arith, m, lt));
        });
      }

      told_inside : (i : ℕ) → i < 64 → (y : ℕ) → y < length a → told_in i outer inside y ≡ nat_eq i (suc r) ∷ told_in i outer inner y
      told_inside i il y lt = ap (λ q. told_in i outer q y) ei ∙ told_more i outer inner v y ∙ ap (λ t. t ∷ told_in i outer inner y) (own_here r (length a) v own i il y lt)

      module _ (old between : List (Option (Vec ℕ Global))) (g : HeadsPut (deeper r) outer inside a body (old ++ None ∷ []) between) where
        loop_counted : (e : Option (Vec ℕ Global)) → length (e ∷ g.more) ≡ loop_total one
        loop_counted e = let d = g.count in let l = ap loop_total is in omega (arith, d, l)

        inside_known : (i y : ℕ) → i < 64 → y < length a → Knows i y g.more (heads y i (deeper r) (nat_eq i (suc r) ∷ told_in i outer inner y) (has (world i a) y) body)
        inside_known i y il lt =
            knows_as i y g.more (heads y i (deeper r) (told_in i outer inside y) (has (world i a) y) body)
            (heads y i (deeper r) (nat_eq i (suc r) ∷ told_in i outer inner y) (has (world i a) y) body)
            (ap (λ ts. heads y i (deeper r) ts (has (world i a) y) body) (told_inside i il y lt)) (g.tell i y il lt)

        -- nothing is kept for the loop
        heads_loop_left : HeadsPut r outer inner a one old between
        unfolding heads live code_of
        heads_loop_left = record {
          more = None ∷ g.more;
          is = g.is ∙ append_assoc old (None ∷ []) g.more;
          count = loop_counted None;
          tell = λ i y il lt. knows_as i y (None ∷ g.more) (heads y i r (told_in i outer inner y) (has (world i a) y) (nests a_loop body no_more))
              (heads y i r (told_in i outer inner y) (has (world i a) y) one)
              (sym (ap (heads y i r (told_in i outer inner y) (has (world i a) y)) is)) (inside_known i y il lt);
        }

        heads_loop_kept : (w : Vec ℕ Global) (at : ℕ) (new : List (Option (Vec ℕ Global))) → w.items ≡ c → at ≡ length old → new ≡ set between at (Some w) → HeadsPut r outer inner a one old new
        unfolding heads live code_of
        heads_loop_kept w at new ew ea en = record {
          more = Some w ∷ g.more;
          is = en ∙ ap (λ k. set between k (Some w)) ea ∙ ap (λ z. set z (length old) (Some w)) g.is ∙ set_there old None (Some w) g.more;
          count = loop_counted (Some w);
          tell = λ i y il lt. knows_as i y (Some w ∷ g.more) (heads y i r (told_in i outer inner y) (has (world i a) y) (nests a_loop body no_more))
              (heads y i r (told_in i outer inner y) (has (world i a) y) one)
              (sym (ap (heads y i r (told_in i outer inner y) (has (world i a) y)) is)) (ap (λ s. has (world i s) y) ew ∙ head_each i il y lt, inside_known i y il lt);
        }

        pub heads_loop : (at : ℕ) (new : List (Option (Vec ℕ Global))) → at ≡ length old → WordsKept at c between new → HeadsPut r outer inner a one old new
        heads_loop at new ea (inl e) = subst (λ z. HeadsPut r outer inner a one old z) (sym e) heads_loop_left
        heads_loop at new ea (inr k) = heads_loop_kept k.0 at new k.1 ea k.2

  module _ (o : Operand) (s t : Stmts) (v : Vec ℕ Global) (inside mid : List (Vec ℕ Global)) (a own : List ℕ) (is : one ≡ decides o s t no_more) (e : v.items ≡ a) (eo : own ≡ a)
      (ei : inside ≡ inner ++ v ∷ []) (em : mid ≡ inside) where
    pub words_if : (last : Vec (Vec ℕ Global) Global) (new : List (Vec ℕ Global)) (first lent second joined b : List ℕ) → lent ≡ first → WordsPassed outer inside mid a second (code_of t)
        → WordsPassed outer mid last.items own first (code_of s) → new ≡ take (last.len - 1) last.items → length joined ≡ length second
        → ((i : ℕ) → i < 64 → (y : ℕ) → y < length second → has (world i joined) y ≡ (has (world i lent) y || has (world i second) y)) → WordsTell joined b (got o done)
        → WordsPassed outer inner new a b (code_of one)
    words_if last new first lent second joined b el h g r2 n j op = record {
      labels = popped_words inner v last new (g.labels ∙ em ∙ ei) r2;
      tells = λ i il. let m = world_long i joined in let k = world_long i second in
          if_tells (told_in i outer inner) (told_in i outer (inner ++ v ∷ [])) (world i a) x o s t (world i first) (world i second) (world i joined) (world i b) is (told_as i outer inner v a e)
          (subst (λ ts. TellsBefore (told_in i outer ts) (world i a) (world i second) (code_of t)) ei (h.tells i il))
          (subst (λ ts. TellsBefore (told_in i outer ts) (world i a) (world i first) (code_of s)) (em ∙ ei)
          (subst (λ u. TellsBefore (told_in i outer mid) (world i u) (world i first) (code_of s)) eo (g.tells i il)))
          (omega (arith, m, k, n)) (λ y l. j i il y (omega (arith, k, l)) ∙ ap (λ u. has (world i u) y || has (world i second) y) el) (op i il);
    }

    pub heads_if : (old between new : List (Option (Vec ℕ Global))) → HeadsPut r outer inside a t old between → HeadsPut r outer mid own s between new → HeadsPut r outer inner a one old new
    unfolding heads live code_of
    heads_if old between new h g = record {
      more = h.more ++ g.more;
      is = g.is ∙ ap (λ z. z ++ g.more) h.is ∙ append_assoc old h.more g.more;
      count = let p = h.count in let q = g.count in let l = length-append h.more g.more in let z = ap loop_total is in omega (arith, p, q, l, z);
      tell = λ i y il lt.
          let told : told_in i outer inside y ≡ has (world i a) y ∷ told_in i outer inner y = ap (λ q. told_in i outer q y) ei ∙ told_as i outer inner v a e y in
          let nt : ℕ = length own in
          knows_as i y (h.more ++ g.more) (heads y i r (told_in i outer inside y) (has (world i a) y) t ++ heads y i r (told_in i outer mid y) (has (world i own) y) s)
          (heads y i r (told_in i outer inner y) (has (world i a) y) one)
          ((λ z. heads y i r (told z) (has (world i a) y) t ++ heads y i r ((ap (λ q. told_in i outer q y) em ∙ told) z) (has (world i (eo z)) y) s)
          ∙ sym (ap (heads y i r (told_in i outer inner y) (has (world i a) y)) is))
          (knows_on i y h.more g.more (heads y i r (told_in i outer inside y) (has (world i a) y) t) (heads y i r (told_in i outer mid y) (has (world i own) y) s)
          (h.count ∙ sym (heads_count y i r (told_in i outer inside y) (has (world i a) y) t)) (h.tell i y il lt) (g.tell i y il (subst (λ u. y < length u) (sym eo) lt)));
    }

pub no_loops : (x : Stmt) → ((v : Vec Stmt Global) → x ≡ Block v → ⊥) → ((v : Vec Stmt Global) → x ≡ Loop v → ⊥) → ((o : Operand) (v w : Vec Stmt Global) → x ≡ If o v w → ⊥)
    → loop_total (stmt_in_front x no_more) ≡ 0
unfolding stmt_in_front
no_loops (PlainStmt op args to) nb nl ni = refl
no_loops (Move to from) nb nl ni = refl
no_loops (CallStmt op stack args to) nb nl ni = refl
no_loops (BrStmt l) nb nl ni = refl
no_loops (BrIfStmt o l) nb nl ni = refl
no_loops (BrTableStmt o v l) nb nl ni = refl
no_loops (Block' a z) nb nl ni = absurd (nb _ (sym (roll-out-Stmt (Block' a z)) ∙ ap roll-Stmt (outs-Block' a z) ∙ rolls-Block _))
no_loops (Loop' a z) nb nl ni = absurd (nl _ (sym (roll-out-Stmt (Loop' a z)) ∙ ap roll-Stmt (outs-Loop' a z) ∙ rolls-Loop _))
no_loops (If' c a z e f) nb nl ni = absurd (ni c _ _ (sym (roll-out-Stmt (If' c a z e f)) ∙ ap roll-Stmt (outs-If' c a z e f) ∙ rolls-If c _ _))
no_loops UnreachableStmt nb nl ni = refl

pub own_of : (r n m : ℕ) (v : Vec ℕ Global) → n ≡ m → (w : ℕ) × (v.items ≡ replicate n w) × ((i : ℕ) → i < 64 → bit i w ≡ nat_eq i (suc r)) → OwnLabel r m v
own_of r n m v e h = record { word = h.0; are = h.1 ∙ ap (λ k. replicate k h.0) e; bits = h.2 }

pub put_as : (r2 r : ℕ) (outer : List (Vec Bool Global)) (inner : List (Vec ℕ Global)) (a : List ℕ) (s : Stmts) (es old new : List (Option (Vec ℕ Global))) → r2 ≡ r → es ≡ old
    → HeadsPut r2 outer inner a s es new → HeadsPut r outer inner a s old new
put_as r2 r outer inner a s es old new e f h = subst (λ l. HeadsPut l outer inner a s old new) e (subst (λ o. HeadsPut r2 outer inner a s o new) f h)

pub head_there : (r : ℕ) (outer : List (Vec Bool Global)) (inner : List (Vec ℕ Global)) (a : List ℕ) (s : Stmts) (old between : List (Option (Vec ℕ Global))) (at : ℕ) → at ≡ length old
    → HeadsPut r outer inner a s (old ++ None ∷ []) between → at < length between
head_there r outer inner a s old between at ea h =
    let n = ap length h.is in let m = length-append (old ++ None ∷ []) h.more in let k = length-append old (None ∷ []) in omega (arith, ea, n, m, k)

pub words_size : (outer : List (Vec Bool Global)) (inner : List (Vec ℕ Global)) (a b : List ℕ) (k : Code) → WordsBefore outer inner a b k → length b ≡ length a
words_size outer inner a b k w = let n = world_long 0 a in let m = world_long 0 b in let s = (w 0 (omega arith)).size in omega (arith, n, m, s)

pub put_back_words : (new old : List ℕ) (len : ℕ) → length new ≡ length old → length old ≡ len → take len (new ++ drop (length new) old) ≡ new
put_back_words new old len e k = let z : len ≡ length new = omega (arith, e, k) in ap (λ n. take n (new ++ drop (length new) old)) z ∙ take-append_seam new (drop (length new) old)
