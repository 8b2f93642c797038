-- What is known inside nests of loops, statement by statement.
use Rattle.std.proofs.Common.{◌≡◌, ◌∙◌, ℕ, suc, ◌-◌, ◌+◌, ◌<◌, ◌≤◌, ◌⊎◌, inl, inr, ◌^◌, List, [], ◌∷◌, ◌++◌, length, reverse, take, drop, get_or, Option, Some, Bool, true, false, ◌||◌, ◌&&◌, refl, sym, ap, arith, subst, length-append}
use Rattle.std.specs.Prelude.{Vec, nat_eq, if◌then◌else◌, replicate, Result, Ok, Err, IfOk, OnOk}
use Rattle.std.specs.declared.alloc.Global.{Global}
use Rattle.std.proofs.lemmas.Bool.{cases_lt, ne_eqb, eq-eqb, lt-ltb}
use Rattle.std.proofs.lemmas.List.{append-nil, append_assoc, drop-append-le, drop_all, drop_at, drop-drop, length-drop, length-reverse, get_or-replicate, length-replicate, reverse-append, take-append-drop, take_all, take_more}
use Rattle.wa_types.specs.Syntax.{a_block, a_loop}
use Rattle.wa_types.specs.Liveness.{live}
use Rattle.wa_model.specs.declared.flat.Operand.{Operand}
use Rattle.wa_model.specs.declared.flat.Stmt.{Stmt}
use Rattle.run_theory.specs.Flat.{Stmts, no_more, nests, decides, code_of}
use Rattle.run_theory.specs.FlatView.{stmt_in_front, stmts}
use Rattle.flow_rewrite.proofs.StmtLemmas.{stmts_step, stmts_end}
use Rattle.live_locals.specs.Sets.{has, told_of, told_by, TellsBefore, Passed}
use Rattle.live_locals.proofs.SetLemmas.{told_more, or_none}
use Rattle.live_locals.proofs.PassLemmas.{popped}
use Rattle.live_locals.specs.Words.{bit, world, meets, WordsPassed}
use Rattle.live_locals.specs.Heads.{deeper, loop_total, heads, Knows, HeadsPut}
use Rattle.live_locals.proofs.WordLemmas.{world_long, world_has}
use Rattle.live_locals.proofs.LevelLemmas.{meets_first}
use Rattle.live_locals.proofs.HeadLemmas.{knows_on, knows_left, knows_right, knows_as, loops_front, heads_front, heads_count, heads_tail}
use Rattle.live_locals.specs.Nests.{joined, in_some, told_in_some, Around, NestOf, Nest, AtLoop, Enters}
use Rattle.live_locals.proofs.UnionLemmas.{live_in_some, told_again, some_again, told_cons, some_same, none_in_some, up_more}

-- ---- statement by statement

module _ (level : ℕ) (reach : List ℕ) (tos mid : List (Vec Bool Global)) (a b : List Bool) (xs : List Stmt) (left : ℕ) (x : Stmt) (some : 0 < left) (within : left ≤ length xs)
    (at : x ≡ get_or xs (left - 1) x) (f : Passed tos mid a b (code_of (stmts (drop left xs)))) where
  abbrev rest : Stmts
  rest = stmts (drop left xs)

  around_stmt : (y : ℕ) → y < length a → Around level (get_or reach y 0) (told_of y tos) (has a y) → Around level (get_or reach y 0) (told_of y mid) (has b y)
  around_stmt y lt w = record {
    worlds = w.worlds;
    told = w.told;
    out = λ i. live y (w.told i) (w.out i) (code_of rest);
    low = w.low;
    long = w.long;
    fresh = λ i il l. let q = w.fresh i il l in (q.0, λ j. live y (q.0 j) (q.1 j) (code_of rest));
    labels_are = ap (told_of y) f.labels ∙ w.labels_are;
    behind_is = f.tells.each y lt ∙ (λ j. live y (w.labels_are j) (w.behind_is j) (code_of rest)) ∙ live_in_some w.told w.long y w.out (code_of rest) w.worlds;
    meet = w.meet;
  }

  heads_stmt : (y i : ℕ) (told : List Bool) (out : Bool) (es : List (Option (Vec ℕ Global))) → Knows i y es (heads y i level told out (stmts xs))
      → Knows i y (drop (loop_total rest) es) (heads y i level told (live y told out (code_of rest)) (stmt_in_front x no_more))
  heads_stmt y i told out es k =
      let next : left - 1 + 1 ≡ left = omega arith in
      let e : stmts (drop (left - 1) xs) ≡ stmt_in_front x rest = stmts_step xs (left - 1) x (omega arith) at ∙ ap (λ n. stmt_in_front x (stmts (drop n xs))) next in
      let hs : List Bool = heads y i level told out rest in
      let gs : List Bool = heads y i level told (live y told out (code_of rest)) (stmt_in_front x no_more) in
      let w = heads_tail y i level told out (left - 1) xs in
      let k2 : Knows i y es ((hs ++ gs) ++ w.0) =
      knows_as i y es (heads y i level told out (stmts xs)) ((hs ++ gs) ++ w.0)
      (w.1 ∙ ap (λ z. z ++ w.0) (ap (heads y i level told out) e ∙ heads_front y i level told out x rest)) k in
      subst (λ n. Knows i y (drop n es) gs) (heads_count y i level told out rest) (knows_right i y es hs gs (knows_left i y es (hs ++ gs) w.0 k2))

  pub nest_stmt : (es fs : List (Option (Vec ℕ Global))) → fs ≡ drop (loop_total rest) es → Nest level reach tos a es (stmts xs) → Nest level reach mid b fs (stmt_in_front x no_more)
  unfolding around_stmt
  nest_stmt es fs ef n = λ low.
      let q = n low in let s = f.tells.size in (
        q.0 ∙ sym s,
        λ y lt.
            let la : y < length a = omega (arith, s, lt) in
            let w = q.1 y la in (
              around_stmt y la w.0,
              λ i il. subst (λ z. Knows i y z (heads y i level (w.0.told i) (live y (w.0.told i) (w.0.out i) (code_of rest)) (stmt_in_front x no_more))) (sym ef)
                  (heads_stmt y i (w.0.told i) (w.0.out i) es (w.1 i il)),
            ),
      )

-- ---- constructs

module _ (level : ℕ) (reach : List ℕ) (x : Stmt) (tos : List (Vec Bool Global)) (v : Vec Bool Global) (inside : List (Vec Bool Global)) (a : List Bool) (e : v.items ≡ a)
    (ei : inside ≡ tos ++ v ∷ []) where
  abbrev one : Stmts
  one = stmt_in_front x no_more

  around_block : (y : ℕ) → Around level (get_or reach y 0) (told_of y tos) (has a y) → Around level (get_or reach y 0) (told_of y inside) (has a y)
  around_block y w = record {
    worlds = w.worlds;
    told = λ i. w.out i ∷ w.told i;
    out = w.out;
    low = w.low;
    long = λ i. ap suc (w.long i);
    fresh = λ i il l. let q = w.fresh i il l in (λ j. q.1 j ∷ q.0 j, q.1);
    labels_are =
        ap (told_of y) ei ∙ told_more y tos v ∙ (λ j. (ap (λ s. has s y) e ∙ w.behind_is) j ∷ w.labels_are j) ∙ sym (told_cons w.out w.told w.worlds);
    behind_is = w.behind_is;
    meet = w.meet;
  }

  pub nest_block : (body : Stmts) → one ≡ nests a_block body no_more → (es : List (Option (Vec ℕ Global))) → Nest level reach tos a es one → Nest level reach inside a es body
  unfolding heads live code_of around_block
  nest_block body is es n = λ low.
      let q = n low in (
        q.0,
        λ y lt.
            let w = q.1 y lt in (
              around_block y w.0,
              λ i il. knows_as i y es (heads y i level (w.0.told i) (w.0.out i) one) (heads y i level (w.0.told i) (w.0.out i) (nests a_block body no_more))
                  (ap (heads y i level (w.0.told i) (w.0.out i)) is) (w.1 i il),
            ),
      )

  module _ (o : Operand) (s t : Stmts) (is : one ≡ decides o s t no_more) (es : List (Option (Vec ℕ Global))) (n : Nest level reach tos a es one) where
    pub nest_else : Nest level reach inside a es t
    unfolding heads live code_of around_block
    nest_else = λ low.
        let q = n low in (
          q.0,
          λ y lt.
              let w = q.1 y lt in (
                around_block y w.0,
                λ i il.
                    let told : List Bool = w.0.out i ∷ w.0.told i in
                    knows_left i y es (heads y i level told (w.0.out i) t) (heads y i level told (w.0.out i) s)
                    (knows_as i y es (heads y i level (w.0.told i) (w.0.out i) one) (heads y i level (w.0.told i) (w.0.out i) (decides o s t no_more))
                    (ap (heads y i level (w.0.told i) (w.0.out i)) is) (w.1 i il)),
              ),
        )

    pub nest_then : (mid : List (Vec Bool Global)) (own : List Bool) (fs : List (Option (Vec ℕ Global))) → mid ≡ inside → own ≡ a → fs ≡ drop (loop_total t) es → Nest level reach mid own fs s
    unfolding heads live code_of around_block
    nest_then mid own fs em eo ef =
        subst (λ ts. Nest level reach ts own fs s) (sym em) (subst (λ u. Nest level reach inside u fs s) (sym eo) (subst (λ z. Nest level reach inside a z s) (sym ef) (λ low.
        let q = n low in (
          q.0,
          λ y lt.
              let w = q.1 y lt in (
                around_block y w.0,
                λ i il.
                    let told : List Bool = w.0.out i ∷ w.0.told i in
                    subst (λ m. Knows i y (drop m es) (heads y i level told (w.0.out i) s)) (heads_count y i level told (w.0.out i) t)
                    (knows_right i y es (heads y i level told (w.0.out i) t) (heads y i level told (w.0.out i) s)
                    (knows_as i y es (heads y i level (w.0.told i) (w.0.out i) one) (heads y i level (w.0.told i) (w.0.out i) (decides o s t no_more))
                    (ap (heads y i level (w.0.told i) (w.0.out i)) is) (w.1 i il))),
              ),
        ))))

-- ---- loops

-- nothing is known
pub nothing_known : (reach : List ℕ) (tos : List (Vec Bool Global)) (a : List Bool) (es : List (Option (Vec ℕ Global))) (s : Stmts) (level : ℕ) → 63 ≤ level → Nest level reach tos a es s
nothing_known reach tos a es s level le low = absurd (omega (arith, le, low))

-- the loop's own words were kept
pub at_known : (level : ℕ) (reach : List ℕ) (tos : List (Vec Bool Global)) (a : List Bool) (body : Stmts) (es fs : List (Option (Vec ℕ Global))) (w : Vec ℕ Global) (words : List ℕ) → level < 63
    → es ≡ Some w ∷ fs → words ≡ w.items → length words ≡ length a → Nest level reach tos a es (nests a_loop body no_more) → AtLoop level reach tos a words fs body
unfolding heads live code_of
at_known level reach tos a body es fs w words low e ew n h =
    let q = h low in (
      q.0,
      n,
      λ y lt.
          let p = q.1 y lt in
          let known : (i : ℕ) → i < 64 → Knows i y (Some w ∷ fs) (heads y i level (p.0.told i) (p.0.out i) (nests a_loop body no_more)) =
          λ i il. subst (λ z. Knows i y z (heads y i level (p.0.told i) (p.0.out i) (nests a_loop body no_more))) e (p.1 i il) in
          (p.0, λ i il. ap (λ s. bit i (get_or s y 0)) ew ∙ sym (world_has i w.items y) ∙ (known i il).0, λ i il. (known i il).1),
    )

none_left : (i y : ℕ) (es : List (Option (Vec ℕ Global))) → Knows i y es []
none_left i y [] = tt
none_left i y (e ∷ es) = tt

-- A nest begins at this loop.
pub at_first : (tos : List (Vec Bool Global)) (a : List Bool) (first words : List ℕ) (inner : List (Vec ℕ Global)) (x : Stmt) (body : Stmts)
    (old new entries fs : List (Option (Vec ℕ Global))) (ones : List ℕ) → ((i : ℕ) → i < 64 → world i first ≡ a) → ones ≡ replicate (length a) 1
    → stmt_in_front x no_more ≡ nests a_loop body no_more → old ≡ [] → WordsPassed tos [] inner first words (code_of (stmt_in_front x no_more))
    → HeadsPut 0 tos [] first (stmt_in_front x no_more) old new → entries ≡ drop 1 new ++ fs → AtLoop 0 ones tos a words entries body
unfolding heads live code_of
at_first tos a first words inner x body old new entries fs ones cast eo is none p h ee =
    let n : length first ≡ length a = sym (world_long 0 first) ∙ ap length (cast 0 (omega arith)) in
    let m : length words ≡ length first = (let s = (p.tells 0 (omega arith)).size in let c = world_long 0 words in let d = world_long 0 first in omega (arith, s, c, d)) in
    let l : length new ≡ suc (loop_total body) = (let c = h.count in let z = ap loop_total is in let d = ap length h.is in let g = length-append old h.more in let o = ap length none
    in omega (arith, c, z, d, g, o)) in (
      ap length eo ∙ length-replicate (length a) 1,
      m ∙ n,
      λ y lt.
          let lf : y < length first = omega (arith, n, lt) in
          let same : new ≡ h.more = h.is ∙ ap (λ z. z ++ h.more) none in
          let around : Around 0 (get_or ones y 0) (told_of y tos) (has a y) = record {
            worlds = [];
            told = λ i. told_of y tos;
            out = λ i. has (world i first) y;
            low = tt;
            long = λ i. refl;
            fresh = λ i il l2. (refl, ap (λ s. has s y) (cast i il ∙ sym (cast 0 (omega arith))));
            labels_are = refl;
            behind_is = ap (λ s. has s y) (sym (cast 0 (omega arith)));
            meet = λ w small. ap (λ s. meets w (get_or s y 0)) eo ∙ ap (meets w) (get_or-replicate (length a) y 1 0 lt) ∙ meets_first w;
          } in (
            around,
            λ i il. (let c = world_long i first in sym (world_has i words y) ∙ (p.tells i il).each y (omega (arith, c, lf)) ∙ ap (λ s. live y (told_of y tos) (has (world i first) y) (code_of s)) is),
            λ i il.
                let gs : List Bool = heads y i (deeper 0) (nat_eq i 1 ∷ told_of y tos) (has (world i first) y) body in
                let k : Knows i y new (heads y i 0 (told_of y tos) (has (world i first) y) (nests a_loop body no_more)) =
                subst (λ z. Knows i y z (heads y i 0 (told_of y tos) (has (world i first) y) (nests a_loop body no_more))) (sym same)
                (knows_as i y h.more (heads y i 0 (told_of y tos) (has (world i first) y) (stmt_in_front x no_more)) (heads y i 0 (told_of y tos) (has (world i first) y) (nests a_loop body no_more))
                (ap (heads y i 0 (told_of y tos) (has (world i first) y)) is) (h.tell i y il lf)) in
                let k1 : Knows i y (drop 1 new) gs = knows_right i y new (live y (false ∷ told_of y tos) (has (world i first) y) (code_of body) ∷ []) gs k in
                let c1 : length (drop 1 new) ≡ length gs = (let d = length-drop 1 new in let z = heads_count y i (deeper 0) (nat_eq i 1 ∷ told_of y tos) (has (world i first) y) body
                in omega (arith, d, z, l)) in
                subst (λ z. Knows i y z gs) (sym ee) (knows_as i y (drop 1 new ++ fs) (gs ++ []) gs (append-nil gs) (knows_on i y (drop 1 new) fs gs [] c1 k1 (none_left i y fs))),
          ),
    )

module _ (level : ℕ) (low : level < 63) (reach : List ℕ) (tos : List (Vec Bool Global)) (a new : List Bool) (words : List ℕ) (body : Stmts) (es : List (Option (Vec ℕ Global)))
    (inner : ℕ) (within : List ℕ) (h : AtLoop level reach tos a words es body) (g : Enters level reach words a new inner within) where
  head_is : (y : ℕ) → y < length a → has new y ≡ live y (false ∷ told_of y tos) (has a y) (code_of body)
  head_is y lt =
      let p = h.2 y lt in
      let w = p.0 in
      g.set y lt ∙ w.meet (get_or words y 0) (g.small y)
      ∙ some_same level (omega (arith, low)) (λ i. bit i (get_or words y 0)) (λ i. live y (false ∷ w.told i) (w.out i) (code_of body)) p.1 w.worlds w.low
      ∙ sym (live_in_some (λ i. false ∷ w.told i) (λ i. ap suc (w.long i)) y w.out (code_of body) w.worlds)
      ∙ ap (λ ts. live y ts (in_some w.worlds w.out) (code_of body)) (told_cons (λ i. false) w.told w.worlds
      ∙ ap (λ c. c ∷ told_in_some w.worlds w.told) (none_in_some level (λ i. false) (λ i le. refl) w.worlds w.low))
      ∙ (λ j. live y (false ∷ sym w.labels_are j) (sym w.behind_is j) (code_of body))

  pub head_tells : TellsBefore (told_by tos) a new (code_of (nests a_loop body no_more))
  unfolding live code_of
  head_tells = record { size = g.size; each = head_is }

  module _ (v : Vec Bool Global) (ev : v.items ≡ new) (y : ℕ) (lt : y < length a) where
    one_label : told_of y (tos ++ v ∷ []) ≡ has new y ∷ told_of y tos
    one_label = told_more y tos v ∙ ap (λ s. has s y ∷ told_of y tos) ev

    deeper_is : deeper level ≡ suc level
    deeper_is = ap (λ b. if b then suc level else level) (lt-ltb level 64 (omega (arith, low)))

    own_other : (i : ℕ) → (i ≡ suc level → ⊥) → nat_eq i (suc level) ≡ false
    own_other i ne = ne_eqb i (suc level) ne

    met_inside : (w : ℕ) → w < 2 ^ 64 → meets w (get_or within y 0) ≡ (meets w (get_or reach y 0) || (has new y && bit (suc level) w))
    met_inside w small = g.holds y w (let n = h.0 in omega (arith, n, lt)) small

    entered : (b : Bool) → has new y ≡ b → (w : Around level (get_or reach y 0) (told_of y tos) (has a y))
        → ((i : ℕ) → i < 64 → Knows i y es (heads y i (deeper level) (nat_eq i (suc level) ∷ w.told i) (w.out i) body))
        → NestOf (suc level) (get_or within y 0) (told_of y (tos ++ v ∷ [])) (has a y) es body y
    entered true e w k =
        let f : ℕ → Bool = λ i. nat_eq i (suc level) in
        let q = w.fresh (suc level) (omega (arith, low)) (omega arith) in (
          record {
            worlds = suc level ∷ w.worlds;
            told = λ i. f i ∷ w.told i;
            out = w.out;
            low = (omega arith, up_more level (suc level) w.worlds (omega arith) w.low);
            long = λ i. ap suc (w.long i);
            fresh = λ i il l. let r = w.fresh i il (omega (arith, l)) in
                (λ j. (own_other i (λ z. absurd (omega (arith, z, l))) ∙ sym (own_other 0 (λ z. absurd (omega (arith, z))))) j ∷ r.0 j, r.1);
            labels_are =
                one_label ∙ (λ j. e j ∷ w.labels_are j)
                ∙ sym (ap (λ z. joined z (f (suc level) ∷ w.told (suc level))) (told_cons f w.told w.worlds)
                ∙ (λ j. (ap (λ c. in_some w.worlds f || c) (eq-eqb (suc level) (suc level) refl) ∙ or_all (in_some w.worlds f)) j
                ∷ (ap (joined (told_in_some w.worlds w.told)) q.0 ∙ told_again w.told w.long w.worlds) j));
            behind_is = w.behind_is ∙ sym (ap (λ c. in_some w.worlds w.out || c) q.1 ∙ some_again w.out w.worlds);
            meet = λ u small. met_inside u small ∙ (λ j. w.meet u small j || (e j && bit (suc level) u));
          },
          λ i il. subst (λ l. Knows i y es (heads y i l (f i ∷ w.told i) (w.out i) body)) deeper_is (k i il),
        )
      where
        or_all : (c : Bool) → (c || true) ≡ true
        or_all true = refl
        or_all false = refl
    entered false e w k =
        let f : ℕ → Bool = λ i. nat_eq i (suc level) in (
          record {
            worlds = w.worlds;
            told = λ i. f i ∷ w.told i;
            out = w.out;
            low = up_more level (suc level) w.worlds (omega arith) w.low;
            long = λ i. ap suc (w.long i);
            fresh = λ i il l. let r = w.fresh i il (omega (arith, l)) in
                (λ j. (own_other i (λ z. absurd (omega (arith, z, l))) ∙ sym (own_other 0 (λ z. absurd (omega (arith, z))))) j ∷ r.0 j, r.1);
            labels_are =
                one_label ∙ (λ j. e j ∷ w.labels_are j)
                ∙ sym (told_cons f w.told w.worlds ∙ ap (λ c. c ∷ told_in_some w.worlds w.told)
                (none_in_some level f (λ i le. own_other i (λ z. absurd (omega (arith, z, le)))) w.worlds w.low));
            behind_is = w.behind_is;
            meet = λ u small. met_inside u small ∙ (λ j. w.meet u small j || (e j && bit (suc level) u)) ∙ or_none (in_some w.worlds (λ i. bit i u));
          },
          λ i il. subst (λ l. Knows i y es (heads y i l (f i ∷ w.told i) (w.out i) body)) deeper_is (k i il),
        )

  pub nest_inside : (v : Vec Bool Global) → v.items ≡ new → Nest inner within (tos ++ v ∷ []) a es body
  nest_inside v ev = λ lo. (
    g.long ∙ h.0,
    λ y lt.
        let p = h.2 y lt in
        subst (λ l. NestOf l (get_or within y 0) (told_of y (tos ++ v ∷ [])) (has a y) es body y) (sym g.level_is) (entered v ev y lt (has new y) refl p.0 p.2),
  )

-- ---- entries, the next last

pub skipped : {X : Type 0} (old : List X) (len n k : ℕ) → len ≡ length old → k ≡ len - n → reverse (take k old) ≡ drop n (reverse old)
skipped old len n k el ek = sym (ap (λ xs. drop n (reverse xs)) (sym (take-append-drop k old)) ∙ ap (drop n) (reverse-append (take k old) (drop k old)) ∙ sides (cases_lt n (length old)))
  where
    sides : (n < length old) ⊎ (length old ≤ n) → drop n (reverse (drop k old) ++ reverse (take k old)) ≡ reverse (take k old)
    sides (inl l) =
        let m = length-reverse (drop k old) in let d = length-drop k old in drop_at (reverse (drop k old)) (reverse (take k old)) n (omega (arith, m, d, ek, el, l))
    sides (inr g) =
        let e : k ≡ 0 = omega (arith, ek, el, g) in
        ap (λ j. drop n (reverse (drop j old) ++ reverse (take j old))) e ∙ drop_all n (reverse old ++ [])
        (let q = length-append (reverse old) [] in let p = length-reverse old in omega (arith, q, p, g))
        ∙ sym (ap (λ j. reverse (take j old)) e)

-- the last of some entries is put before others
pub poured : {X : Type 0} (more left old new : List X) (len : ℕ) (d entry : X) → len ≡ length more → 0 < len → left ≡ take (len - 1) more → entry ≡ get_or more (len - 1) d
    → new ≡ old ++ entry ∷ [] → left ++ reverse new ≡ more ++ reverse old
poured more left old new len d entry el some et ed en =
    let lt : len - 1 < length more = omega (arith, el, some) in
    let z : len - 1 + 1 ≡ len = omega (arith, some) in
    let whole : take (len - 1) more ++ entry ∷ [] ≡ more =
    ap (λ e. take (len - 1) more ++ e ∷ []) ed ∙ sym (take_more more (len - 1) d lt) ∙ ap (λ k. take k more) z ∙ take_all len more (omega (arith, el)) in
    (λ i. et i ++ reverse (en i)) ∙ ap (λ r. take (len - 1) more ++ r) (reverse-append old (entry ∷ [])) ∙ sym (append_assoc (take (len - 1) more) (entry ∷ []) (reverse old))
    ∙ ap (λ xs. xs ++ reverse old) whole

-- ---- answers

pub on_ok : {A E : Type 0} (r : Result A E) (P : Type 0) → P → OnOk r P
on_ok (Ok v) P p = p
on_ok (Err e) P p = tt

pub if_on_ok : {A E : Type 0} (r : Result A E) (P : A → Type 0) (Q : Type 0) → ((v : A) → P v → Q) → IfOk r P → OnOk r Q
if_on_ok (Ok v) P Q f p = f v p
if_on_ok (Err e) P Q f p = tt

-- entries that begin a nest, put before others, its own taken
begun : {X : Type 0} (inside old skip put new : List X) (m n : ℕ) → length inside ≡ suc n → m ≡ length inside - 1 → skip ≡ drop m old → put ≡ inside ++ skip → new ≡ drop 1 put
    → (new ≡ drop 1 inside ++ skip) × (drop n new ≡ drop n old)
begun inside old skip put new m n l em es ep en =
    let e : new ≡ drop 1 inside ++ skip = en ∙ ap (drop 1) ep ∙ drop-append-le 1 inside skip (omega (arith, l)) in
    let k : m ≡ n = omega (arith, em, l) in
    (e, ap (drop n) e ∙ drop_at (drop 1 inside) skip n (let d = length-drop 1 inside in omega (arith, d, l)) ∙ es ∙ ap (λ j. drop j old) k)

-- a nest begins at the loop
pub at_begun : (tos : List (Vec Bool Global)) (a : List Bool) (first lent passed words : List ℕ) (none inner : List (Vec ℕ Global)) (x : Stmt)
    (before inside old skip put new : List (Option (Vec ℕ Global))) (ones reach : List ℕ) (len m : ℕ) → ((i : ℕ) → i < 64 → world i first ≡ a) → lent ≡ first → none ≡ [] → before ≡ []
    → WordsPassed tos none inner lent passed (code_of (stmt_in_front x no_more)) → HeadsPut 0 tos none lent (stmt_in_front x no_more) before inside → words ≡ passed
    → ones ≡ replicate (length a) 1 → reach ≡ ones → len ≡ length inside → m ≡ len - 1 → skip ≡ drop m old → put ≡ inside ++ skip → new ≡ drop 1 put
    → (body : Stmts) → stmt_in_front x no_more ≡ nests a_loop body no_more → AtLoop 0 reach tos a words new body × (drop (loop_total body) new ≡ drop (loop_total body) old)
at_begun tos a first lent passed words none inner x before inside old skip put new ones reach len m cast el en eb p h ew eo er ln em es ep et body is =
    let p1 : WordsPassed tos [] inner lent words (code_of (stmt_in_front x no_more)) =
    subst (λ ts. WordsPassed tos ts inner lent words (code_of (stmt_in_front x no_more))) en (subst (λ w. WordsPassed tos none inner lent w (code_of (stmt_in_front x no_more))) (sym ew) p) in
    let h1 : HeadsPut 0 tos [] lent (stmt_in_front x no_more) before inside = subst (λ ts. HeadsPut 0 tos ts lent (stmt_in_front x no_more) before inside) en h in
    let l : length inside ≡ suc (loop_total body) =
    (let c = h.count in let z = ap loop_total is in let d = ap length h.is in let g = length-append before h.more in let o = ap length eb in omega (arith, c, z, d, g, o)) in
    let b = begun inside old skip put new m (loop_total body) l (omega (arith, em, ln)) es ep et in
    (at_first tos a lent words inner x body before inside new skip reach (λ i il. ap (world i) el ∙ cast i il) (er ∙ eo) is eb p1 h1 b.0, b.1)

-- ---- entries that are left

pub left_first : (xs : List Stmt) (es : List (Option (Vec ℕ Global))) → es ≡ drop (loop_total (stmts (drop (length xs) xs))) es
left_first xs es = sym (ap (λ n. drop n es) (ap loop_total (stmts_end xs (length xs) (omega arith))))

pub left_before : (xs : List Stmt) (left : ℕ) (x : Stmt) (es fs gs : List (Option (Vec ℕ Global))) → 0 < left → left ≤ length xs → x ≡ get_or xs (left - 1) x
    → fs ≡ drop (loop_total (stmts (drop left xs))) es → gs ≡ drop (loop_total (stmt_in_front x no_more)) fs → gs ≡ drop (loop_total (stmts (drop (left - 1) xs))) es
left_before xs left x es fs gs some within at ef eg =
    let next : left - 1 + 1 ≡ left = omega arith in
    let e : stmts (drop (left - 1) xs) ≡ stmt_in_front x (stmts (drop left xs)) = stmts_step xs (left - 1) x (omega arith) at ∙ ap (λ n. stmt_in_front x (stmts (drop n xs))) next in
    eg ∙ ap (drop (loop_total (stmt_in_front x no_more))) ef ∙ drop-drop (loop_total (stmt_in_front x no_more)) (loop_total (stmts (drop left xs))) es
    ∙ ap (λ n. drop n es) (sym (ap loop_total e ∙ loops_front x (stmts (drop left xs))))

pub left_end : (xs : List Stmt) (left : ℕ) (es fs : List (Option (Vec ℕ Global))) → left ≡ 0 → fs ≡ drop (loop_total (stmts (drop left xs))) es → fs ≡ drop (loop_total (stmts xs)) es
left_end xs left es fs e h = h ∙ ap (λ n. drop (loop_total (stmts (drop n xs))) es) e

-- as many entries are left, if as many loops are passed
pub left_as : (m n : ℕ) (es fs : List (Option (Vec ℕ Global))) → m ≡ n → fs ≡ drop m es → fs ≡ drop n es
left_as m n es fs e h = h ∙ ap (λ k. drop k es) e

pub left_two : (m n k : ℕ) (es fs gs : List (Option (Vec ℕ Global))) → k ≡ m + n → fs ≡ drop m es → gs ≡ drop n fs → gs ≡ drop k es
left_two m n k es fs gs e f g = g ∙ ap (drop n) f ∙ drop-drop n m es ∙ ap (λ j. drop j es) (sym e)

pub loops_of : (x : Stmt) (s : Stmts) → stmt_in_front x no_more ≡ s → loop_total s ≡ loop_total (stmt_in_front x no_more)
loops_of x s is = sym (ap loop_total is)

pub loops_in_block : (x : Stmt) (body : Stmts) → stmt_in_front x no_more ≡ nests a_block body no_more → loop_total body ≡ loop_total (stmt_in_front x no_more)
loops_in_block x body is = let e = ap loop_total is in omega (arith, e)

pub loops_in_loop : (x : Stmt) (body : Stmts) → stmt_in_front x no_more ≡ nests a_loop body no_more → suc (loop_total body) ≡ loop_total (stmt_in_front x no_more)
loops_in_loop x body is = let e = ap loop_total is in omega (arith, e)

pub loops_in_if : (x : Stmt) (o : Operand) (s t : Stmts) → stmt_in_front x no_more ≡ decides o s t no_more → loop_total (stmt_in_front x no_more) ≡ loop_total t + loop_total s
loops_in_if x o s t is = let e = ap loop_total is in omega (arith, e)

-- ---- what is known, of equal things

pub nest_as : (level : ℕ) (reach reach2 : List ℕ) (tos tos2 : List (Vec Bool Global)) (a b : List Bool) (es : List (Option (Vec ℕ Global))) (s : Stmts) → reach2 ≡ reach → tos2 ≡ tos → b ≡ a
    → Nest level reach tos a es s → Nest level reach2 tos2 b es s
nest_as level reach reach2 tos tos2 a b es s er et eb n =
    subst (λ r. Nest level r tos2 b es s) (sym er) (subst (λ ts. Nest level reach ts b es s) (sym et) (subst (λ u. Nest level reach tos u es s) (sym eb) n))

-- a loop that was entered
pub loop_passed_by : (x : Stmt) (body : Stmts) (tos entered_tos inside : List (Vec Bool Global)) (v : Vec Bool Global) (mid : Vec (Vec Bool Global) Global) (new : List (Vec Bool Global))
    (a b : List Bool)
    → stmt_in_front x no_more ≡ nests a_loop body no_more → Passed tos entered_tos a b (code_of (nests a_loop body no_more)) → inside ≡ entered_tos ++ v ∷ [] → mid.items ≡ inside
    → new ≡ take (mid.len - 1) mid.items → Passed tos new a b (code_of (stmt_in_front x no_more))
loop_passed_by x body tos entered_tos inside v mid new a b is h ei em r = record {
  labels = popped tos v mid new (em ∙ ei ∙ ap (λ ts. ts ++ v ∷ []) h.labels) r;
  tells = subst (λ s. TellsBefore (told_by tos) a b (code_of s)) (sym is) h.tells;
}
