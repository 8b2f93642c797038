-- The stacks of numbered calls, marked statement by statement.
use Rattle.std.proofs.Common.{◌≡◌, ℕ, zero, suc, ◌+◌, ◌<◌, ◌≤◌, List, [], ◌∷◌, ◌++◌, length, get_or, drop, take, Option, ◌⊎◌, inl, inr, Bool, true, false, refl, sym, ap, subst, ◌∙◌, arith, All, append_assoc, length-append, set}
use Rattle.std.specs.Prelude.{◌≢◌, ◌||◌, ◌&&◌, nat_eq, nat_lt, slice_get}
use Rattle.std.specs.List.{list_any}
use Rattle.std.proofs.lemmas.Bool.{cases_eq, cases_lt, eq-eqb, le-ltb, ne_eqb}
use Rattle.std.proofs.lemmas.List.{append-nil, take_more, take_all, get_or-set_same, get_or-set_other}
use Rattle.std.proofs.lemmas.List.Folds.{list_any-append}
use Rattle.std.proofs.Math.ListN.{get_or-eq_default}
use Rattle.std.proofs.Math.Seq.{take-append_seam}
use Rattle.std.specs.declared.vec.Vec.{Vec}
use Rattle.std.specs.declared.alloc.Global.{Global}
use Rattle.wa_types.specs.declared.instrs.Instr.{Instr}
use Rattle.wa_types.specs.Syntax.{Shape}
use Rattle.wa_model.specs.declared.flat.Operand.{Operand}
use Rattle.wa_model.specs.declared.flat.Stmt.{Stmt}
use Rattle.wa_model.specs.declared.flat.Stmt.TheVariants.{Call as CallStmt, Block, Loop, If}
use Rattle.run_theory.specs.Flat.{Stmts, no_more, computes, copies, calls, leaps, leaps_if, leaps_by, nests, decides, halts, FlatFunc}
use Rattle.run_theory.specs.FlatView.{stmt_in_front, stmts}
use Rattle.run_theory.specs.Growth.{Each}
use Rattle.flat_laws.specs.FlatModule.{stacks_in}
use Rattle.guard_form.specs.Grouping.{is_place}
use Rattle.guard_form.specs.Pieces.{call_total}
use Rattle.flow_rewrite.proofs.NumberingLemmas.{none_place}
use Rattle.flow_rewrite.specs.Statements.{with_rest}
use Rattle.flow_rewrite.proofs.StmtLemmas.{in_front_is, stmts_step, stmts_end, call_is}
use Rattle.emitted_form.specs.Emitted.{or_none, holds_operand}
use Rattle.func_rewrite.specs.Marking.{is_held, StacksFit, Markable, Marked}

-- ---- booleans

or_turn : (a b c : Bool) → ((a || b) || c) ≡ (a || (b || c))
or_turn true b c = refl
or_turn false b c = refl

or_none_left : (a : Bool) → (a || false) ≡ a
or_none_left true = refl
or_none_left false = refl

and_none : (a : Bool) → (a && false) ≡ false
and_none true = refl
and_none false = refl

-- ---- stacks

module _ (ps : List ℕ) (x : ℕ) where
  held_append : (n : ℕ) (xs ys : List (List ℕ)) → is_held ps n (xs ++ ys) x ≡ (is_held ps n xs x || is_held ps (n + length xs) ys x)
  held_append n [] ys = let z : n ≡ n + 0 = omega arith in ap (λ k. is_held ps k ys x) z
  held_append n (st ∷ xs) ys =
      let z : suc n + length xs ≡ n + suc (length xs) = omega arith in
      ap (λ b. (is_place ps n && list_any (nat_eq x) st) || b) (held_append (suc n) xs ys ∙ ap (λ k. is_held ps (suc n) xs x || is_held ps k ys x) z)
      ∙ sym (or_turn (is_place ps n && list_any (nat_eq x) st) (is_held ps (suc n) xs x) (is_held ps (n + suc (length xs)) ys x))

stacks_count : (s : Stmts) → length (stacks_in s) ≡ call_total s
unfolding stacks_in
stacks_count no_more = refl
stacks_count (computes op args to rest) = stacks_count rest
stacks_count (copies to from rest) = stacks_count rest
stacks_count (calls op stack args to rest) = ap suc (stacks_count rest)
stacks_count (leaps l rest) = stacks_count rest
stacks_count (leaps_if c l rest) = stacks_count rest
stacks_count (leaps_by o ls l rest) = stacks_count rest
stacks_count (nests y body rest) = let a = stacks_count body in let b = stacks_count rest in let e = length-append (stacks_in body) (stacks_in rest) in omega arith
stacks_count (decides c x y rest) =
    let a = stacks_count x in let b = stacks_count y in let d = stacks_count rest in
    let e = length-append (stacks_in x) (stacks_in y ++ stacks_in rest) in let f = length-append (stacks_in y) (stacks_in rest) in omega arith
stacks_count (halts rest) = stacks_count rest

stacks_with : (u s : Stmts) → stacks_in (with_rest u s) ≡ stacks_in (with_rest u no_more) ++ stacks_in s
unfolding stacks_in
stacks_with no_more s = refl
stacks_with (computes op args to rest) s = refl
stacks_with (copies to from rest) s = refl
stacks_with (calls op stack args to rest) s = refl
stacks_with (leaps l rest) s = refl
stacks_with (leaps_if c l rest) s = refl
stacks_with (leaps_by o ls l rest) s = refl
stacks_with (nests y body rest) s = ap (λ z. z ++ stacks_in s) (sym (append-nil (stacks_in body)))
stacks_with (decides c a b rest) s =
    sym (append_assoc (stacks_in a) (stacks_in b) (stacks_in s)) ∙ ap (λ z. (stacks_in a ++ z) ++ stacks_in s) (sym (append-nil (stacks_in b)))
stacks_with (halts rest) s = refl

stacks_front : (x : Stmt) (s : Stmts) → stacks_in (stmt_in_front x s) ≡ stacks_in (stmt_in_front x no_more) ++ stacks_in s
stacks_front x s = ap stacks_in (in_front_is x s) ∙ stacks_with (stmt_in_front x no_more) s ∙ ap (λ z. stacks_in z ++ stacks_in s) (sym (in_front_is x no_more))

total_front : (x : Stmt) (s : Stmts) → call_total (stmt_in_front x s) ≡ call_total (stmt_in_front x no_more) + call_total s
total_front x s =
    let a = stacks_count (stmt_in_front x s) in let b = stacks_count (stmt_in_front x no_more) in let c = stacks_count s in
    let e = ap length (stacks_front x s) in let f = length-append (stacks_in (stmt_in_front x no_more)) (stacks_in s) in omega arith

module _ {X : Type 0} (P : X → Type 0) where
  each_left : (xs ys : List X) → Each P (xs ++ ys) → Each P xs
  each_left [] ys h = tt
  each_left (x ∷ xs) ys h = (h.0, each_left xs ys h.1)

  each_right : (xs ys : List X) → Each P (xs ++ ys) → Each P ys
  each_right [] ys h = h
  each_right (x ∷ xs) ys h = each_right xs ys h.1

abbrev Few : ℕ → List ℕ → Type 0
Few n stack = All (λ x. x < n) stack

-- ---- along a body

-- What is known in the middle of statements.
pub record Going (ps : List ℕ) (place : ℕ) (s : Stmts) (old : List Bool) (next : ℕ) (kept : List Bool) (rest : Stmts) : Type 0 where
  pub size : length kept ≡ length old
  pub each : (x : ℕ) → (get_or kept x false || is_held ps next (stacks_in rest) x) ≡ (get_or old x false || is_held ps place (stacks_in s) x)
  pub places : next + call_total rest ≡ place + call_total s
  pub fits : StacksFit (length old) rest

module _ (ps : List ℕ) (place : ℕ) (xs : List Stmt) (old : List Bool) where
  abbrev S : Stmts
  S = stmts xs

  pub going_first : (m : Markable ps (length old) place S) → Going ps place S old place old (stmts (drop 0 xs))
  going_first m = record { size = refl; each = λ x. refl; places = refl; fits = m.fits }

  module _ (next : ℕ) (kept : List Bool) (j : ℕ) (g : Going ps place S old next kept (stmts (drop j xs))) where
    module _ (x : Stmt) (lt : j < length xs) (at : x ≡ get_or xs j x) where
      abbrev one : Stmts
      one = stmt_in_front x no_more

      abbrev more : Stmts
      more = stmts (drop (j + 1) xs)

      split : stacks_in (stmts (drop j xs)) ≡ stacks_in one ++ stacks_in more
      split = ap stacks_in (stmts_step xs j x lt at) ∙ stacks_front x more

      counted : call_total (stmts (drop j xs)) ≡ call_total one + call_total more
      counted = ap call_total (stmts_step xs j x lt at) ∙ total_front x more

      pub going_one : Markable ps (length old) place S → Markable ps (length kept) next one
      going_one m =
          let room = m.room in let places = g.places in let c = counted in
          record {
            rises = m.rises;
            fits = subst (λ n. StacksFit n one) (sym g.size) (each_left (Few (length old)) (stacks_in one) (stacks_in more) (subst (Each (Few (length old))) split g.fits));
            room = omega arith;
          }

      pub going_next : (next2 : ℕ) (new : List Bool) → next2 ≡ next + call_total one → Marked ps next one kept new → Going ps place S old next2 new more
      going_next next2 new e m =
          let places = g.places in let c = counted in
          record {
            size = m.size ∙ g.size;
            each = λ x.
                let n = stacks_count one in
                let z : next2 ≡ next + length (stacks_in one) = omega arith in
                ap (λ b. b || is_held ps next2 (stacks_in more) x) (m.each x)
                ∙ or_turn (get_or kept x false) (is_held ps next (stacks_in one) x) (is_held ps next2 (stacks_in more) x)
                ∙ ap (λ k. get_or kept x false || (is_held ps next (stacks_in one) x || is_held ps k (stacks_in more) x)) z
                ∙ ap (λ b. get_or kept x false || b) (sym (held_append ps x next (stacks_in one) (stacks_in more)))
                ∙ ap (λ st. get_or kept x false || is_held ps next st x) (sym split) ∙ g.each x;
            places = omega arith;
            fits = each_right (Few (length old)) (stacks_in one) (stacks_in more) (subst (Each (Few (length old))) split g.fits);
          }

    pub going_end : length xs ≤ j → (next ≡ place + call_total S) × Marked ps place S old kept
    unfolding stacks_in
    going_end le =
        let q = stmts_end xs j le in
        let places = g.places in
        let none = ap call_total q in (
          omega arith,
          record {
            size = g.size;
            each = λ x. sym (or_none_left (get_or kept x false)) ∙ ap (λ s. get_or kept x false || is_held ps next (stacks_in s) x) (sym q) ∙ g.each x;
          },
        )

-- ---- one statement

module _ (ps : List ℕ) (place : ℕ) (x : Stmt) (old : List Bool) where
  abbrev it : Stmts
  it = stmt_in_front x no_more

  module _ (op : Instr) (stack : Vec ℕ Global) (args : ℕ) (to : Option ℕ) (is : x ≡ CallStmt op stack args to) where
    call_stack : stacks_in it ≡ stack.items ∷ []
    unfolding stacks_in
    call_stack = ap stacks_in (call_is x op stack args to is no_more)

    pub call_fits : Markable ps (length old) place it → All (λ x. x < length old) stack.items
    call_fits m = (subst (Each (Few (length old))) call_stack m.fits).0

    pub call_place : place + 1 ≡ place + call_total it
    call_place = let q = ap call_total (call_is x op stack args to is no_more) in omega arith

    pub call_marked : (new : List Bool) → length new ≡ length old → ((y : ℕ) → get_or new y false ≡ (get_or old y false || (is_place ps place && list_any (nat_eq y) stack.items)))
        → Marked ps place it old new
    call_marked new e h = record {
      size = e;
      each = λ y.
          h y ∙ ap (λ b. get_or old y false || b) (sym (or_none_left (is_place ps place && list_any (nat_eq y) stack.items)))
          ∙ ap (λ st. get_or old y false || is_held ps place st y) (sym call_stack);
    }

  module _ (y : Shape) (body : Stmts) (is : it ≡ nests y body no_more) where
    nest_stacks : stacks_in it ≡ stacks_in body
    unfolding stacks_in
    nest_stacks = ap stacks_in is ∙ append-nil (stacks_in body)

    nest_total : call_total it ≡ call_total body
    nest_total = let q = ap call_total is in omega arith

    pub nest_ready : Markable ps (length old) place it → Markable ps (length old) place body
    nest_ready m = let room = m.room in let n = nest_total in record { rises = m.rises; fits = subst (Each (Few (length old))) nest_stacks m.fits; room = omega arith }

    pub nest_place : (r : ℕ) → r ≡ place + call_total body → r ≡ place + call_total it
    nest_place r e = let n = nest_total in omega arith

    pub nest_marked : (new : List Bool) → Marked ps place body old new → Marked ps place it old new
    nest_marked new m = record { size = m.size; each = λ x. m.each x ∙ ap (λ st. get_or old x false || is_held ps place st x) (sym nest_stacks) }

  module _ (o : Operand) (a b : Stmts) (is : it ≡ decides o a b no_more) where
    if_stacks : stacks_in it ≡ stacks_in a ++ stacks_in b
    unfolding stacks_in
    if_stacks = ap stacks_in is ∙ ap (λ z. stacks_in a ++ z) (append-nil (stacks_in b))

    if_total : call_total it ≡ call_total a + call_total b
    if_total = let q = ap call_total is in omega arith

    pub if_ready : Markable ps (length old) place it → Markable ps (length old) place a
    if_ready m =
        let room = m.room in let n = if_total in
        record { rises = m.rises; fits = each_left (Few (length old)) (stacks_in a) (stacks_in b) (subst (Each (Few (length old))) if_stacks m.fits); room = omega arith }

    module _ (middle : ℕ) (mid : List Bool) (em : middle ≡ place + call_total a) (first : Marked ps place a old mid) where
      pub else_ready : Markable ps (length old) place it → Markable ps (length mid) middle b
      else_ready m =
          let room = m.room in let n = if_total in
          record {
            rises = m.rises;
            fits = subst (λ n. StacksFit n b) (sym first.size) (each_right (Few (length old)) (stacks_in a) (stacks_in b) (subst (Each (Few (length old))) if_stacks m.fits));
            room = omega arith;
          }

      pub if_place : (r : ℕ) → r ≡ middle + call_total b → r ≡ place + call_total it
      if_place r e = let n = if_total in omega arith

      pub if_marked : (new : List Bool) → Marked ps middle b mid new → Marked ps place it old new
      if_marked new m = record {
        size = m.size ∙ first.size;
        each = λ x.
            let n = stacks_count a in
            let z : middle ≡ place + length (stacks_in a) = omega arith in
            m.each x ∙ ap (λ t. t || is_held ps middle (stacks_in b) x) (first.each x)
            ∙ or_turn (get_or old x false) (is_held ps place (stacks_in a) x) (is_held ps middle (stacks_in b) x)
            ∙ ap (λ k. get_or old x false || (is_held ps place (stacks_in a) x || is_held ps k (stacks_in b) x)) z
            ∙ ap (λ t. get_or old x false || t) (sym (held_append ps x place (stacks_in a) (stacks_in b)))
            ∙ ap (λ st. get_or old x false || is_held ps place st x) (sym if_stacks);
      }

  none_of : ((op : Instr) (stack : Vec ℕ Global) (args : ℕ) (to : Option ℕ) → x ≡ CallStmt op stack args to → ⊥) → ((v : Vec Stmt Global) → x ≡ Block v → ⊥)
      → ((v : Vec Stmt Global) → x ≡ Loop v → ⊥) → ((o : Operand) (v w : Vec Stmt Global) → x ≡ If o v w → ⊥) → call_total it ≡ 0
  none_of nc nb nl ni = let e = none_place 0 x nc nb nl ni in omega arith

  none_stacks : (s : Stmts) → call_total s ≡ 0 → stacks_in s ≡ []
  none_stacks s e = by (stacks_in s) (stacks_count s ∙ e)
    where
      by : (st : List (List ℕ)) → length st ≡ 0 → st ≡ []
      by [] h = refl
      by (a ∷ b) h = absurd (omega arith)

  pub none_marked : ((op : Instr) (stack : Vec ℕ Global) (args : ℕ) (to : Option ℕ) → x ≡ CallStmt op stack args to → ⊥) → ((v : Vec Stmt Global) → x ≡ Block v → ⊥)
      → ((v : Vec Stmt Global) → x ≡ Loop v → ⊥) → ((o : Operand) (v w : Vec Stmt Global) → x ≡ If o v w → ⊥) → (place ≡ place + call_total it) × Marked ps place it old old
  none_marked nc nb nl ni =
      let e = none_of nc nb nl ni in (
        omega arith,
        record { size = refl; each = λ y. sym (or_none_left (get_or old y false)) ∙ ap (λ st. get_or old y false || is_held ps place st y) (sym (none_stacks it e)) },
      )

-- ---- one stack

pub mark_one : (kept : List Bool) (k x : ℕ) → k < length kept → get_or (set kept k true) x false ≡ (get_or kept x false || nat_eq x k)
mark_one kept k x lt = by (cases_eq x k)
  where
    true_right : (b : Bool) → (b || true) ≡ true
    true_right true = refl
    true_right false = refl

    by : (x ≡ k) ⊎ (x ≢ k) → get_or (set kept k true) x false ≡ (get_or kept x false || nat_eq x k)
    by (inl e) =
        ap (λ j. get_or (set kept k true) j false) e ∙ get_or-set_same kept k true false lt
        ∙ sym (ap (λ b. get_or kept x false || b) (eq-eqb x k e) ∙ true_right (get_or kept x false))
    by (inr n) = get_or-set_other kept k x true false n ∙ sym (ap (λ b. get_or kept x false || b) (ne_eqb x k n) ∙ or_none_left (get_or kept x false))

pub stack_step : (old kept : List Bool) (stack : List ℕ) (i s : ℕ) → i < length stack → s ≡ get_or stack i 0 → s < length kept
    → ((x : ℕ) → get_or kept x false ≡ (get_or old x false || list_any (nat_eq x) (take i stack)))
    → (x : ℕ) → get_or (set kept s true) x false ≡ (get_or old x false || list_any (nat_eq x) (take (i + 1) stack))
stack_step old kept stack i s lt at few h x =
    let more : list_any (nat_eq x) (take (i + 1) stack) ≡ (list_any (nat_eq x) (take i stack) || nat_eq x s) =
    ap (list_any (nat_eq x)) (take_more stack i 0 lt ∙ ap (λ k. take i stack ++ k ∷ []) (sym at)) ∙ list_any-append (nat_eq x) (take i stack) (s ∷ [])
    ∙ ap (λ b. list_any (nat_eq x) (take i stack) || b) (or_none_left (nat_eq x s)) in
    mark_one kept s x few ∙ ap (λ b. b || nat_eq x s) (h x) ∙ or_turn (get_or old x false) (list_any (nat_eq x) (take i stack)) (nat_eq x s)
    ∙ ap (λ b. get_or old x false || b) (sym more)

pub stack_first : (old : List Bool) (stack : List ℕ) (x : ℕ) → get_or old x false ≡ (get_or old x false || list_any (nat_eq x) (take 0 stack))
stack_first old stack x = sym (or_none_left (get_or old x false))

pub stack_end : (old kept : List Bool) (stack : List ℕ) (i : ℕ) → length stack ≤ i → ((x : ℕ) → get_or kept x false ≡ (get_or old x false || list_any (nat_eq x) (take i stack)))
    → (x : ℕ) → get_or kept x false ≡ (get_or old x false || list_any (nat_eq x) stack)
stack_end old kept stack i le h x = h x ∙ ap (λ st. get_or old x false || list_any (nat_eq x) st) (take_all i stack le)

-- where a call is numbered its stack is marked
pub marked_where : (a b p q : Bool) → p ≡ true → a ≡ (b || q) → a ≡ (b || (p && q))
marked_where a b p q e h = h ∙ ap (λ c. b || (c && q)) (sym e)

pub unmarked_where : (b p q : Bool) → p ≡ false → b ≡ (b || (p && q))
unmarked_where b p q e = sym (ap (λ c. b || (c && q)) e ∙ or_none_left b)

-- ---- by places

-- what stands at a place of a list
abbrev single : (n p : ℕ) → List (List ℕ) → ℕ → Bool
single n p [] x = false
single n p (st ∷ sts) x = (nat_eq p n && list_any (nat_eq x) st) || single (suc n) p sts x

both_or : (a b c d e : Bool) → (((a || b) && c) || (d || e)) ≡ (((a && c) || d) || ((b && c) || e))
both_or true true true d e = refl
both_or true true false true e = refl
both_or true true false false e = refl
both_or true false true d e = refl
both_or true false false true e = refl
both_or true false false false e = refl
both_or false true true true e = refl
both_or false true true false e = refl
both_or false true false true e = refl
both_or false true false false e = refl
both_or false false true true e = refl
both_or false false true false e = refl
both_or false false false true e = refl
both_or false false false false e = refl

held_more : (p : ℕ) (ps : List ℕ) (n : ℕ) (sts : List (List ℕ)) (x : ℕ) → is_held (p ∷ ps) n sts x ≡ (single n p sts x || is_held ps n sts x)
held_more p ps n [] x = refl
held_more p ps n (st ∷ sts) x =
    ap (λ b. ((nat_eq p n || is_place ps n) && list_any (nat_eq x) st) || b) (held_more p ps (suc n) sts x)
    ∙ both_or (nat_eq p n) (is_place ps n) (list_any (nat_eq x) st) (single (suc n) p sts x) (is_held ps (suc n) sts x)

held_none : (n : ℕ) (sts : List (List ℕ)) (x : ℕ) → is_held [] n sts x ≡ false
held_none n [] x = refl
held_none n (st ∷ sts) x = held_none (suc n) sts x

single_past : (n p : ℕ) (sts : List (List ℕ)) (x : ℕ) → p < n → single n p sts x ≡ false
single_past n p [] x lt = refl
single_past n p (st ∷ sts) x lt = ap (λ b. (b && list_any (nat_eq x) st) || single (suc n) p sts x) (ne_eqb p n (λ e. absurd (omega arith))) ∙ single_past (suc n) p sts x (omega arith)

single_at : (n p k : ℕ) (sts : List (List ℕ)) (x : ℕ) → p ≡ n + k → single n p sts x ≡ list_any (nat_eq x) (or_none (slice_get sts k))
single_at n p k [] x e = refl
single_at n p zero (st ∷ sts) x e =
    ap (λ b. (b && list_any (nat_eq x) st) || single (suc n) p sts x) (eq-eqb p n (omega arith))
    ∙ ap (λ b. list_any (nat_eq x) st || b) (single_past (suc n) p sts x (omega arith)) ∙ or_none_left (list_any (nat_eq x) st)
single_at n p (suc k) (st ∷ sts) x e =
    ap (λ b. (b && list_any (nat_eq x) st) || single (suc n) p sts x) (ne_eqb p n (λ z. absurd (omega arith))) ∙ single_at (suc n) p k sts x (omega arith)

-- what is marked over a whole body holds an operand at a numbered call
pub held_is : (f : FlatFunc) (ps : List ℕ) (x : ℕ) → is_held ps 0 (stacks_in f.body) x ≡ holds_operand f ps x
held_is f [] x = held_none 0 (stacks_in f.body) x
held_is f (p ∷ ps) x =
    held_more p ps 0 (stacks_in f.body) x
    ∙ ap (λ b. b || is_held ps 0 (stacks_in f.body) x) (single_at 0 p p (stacks_in f.body) x (omega arith))
    ∙ ap (λ b. list_any (nat_eq x) (or_none (slice_get (stacks_in f.body) p)) || b) (held_is f ps x)

-- ---- all locals

pub put_back : (new old : List Bool) (len : ℕ) → length new ≡ length old → length old ≡ len → take len (new ++ drop (length new) old) ≡ new
put_back new old len e k = let z : len ≡ length new = omega arith in ap (λ n. take n (new ++ drop (length new) old)) z ∙ take-append_seam new (drop (length new) old)

-- what is marked in the end
pub kept_is : (f : FlatFunc) (ps : List ℕ) (own n : ℕ) (old new : List Bool) → length old ≡ n → own ≤ n → ((x : ℕ) → x < n → get_or old x false ≡ nat_lt x own) → Marked ps 0 f.body old new
    → (x : ℕ) → get_or new x false ≡ (nat_lt x own || holds_operand f ps x)
kept_is f ps own n old new e le h m x = m.each x ∙ ap (λ b. b || is_held ps 0 (stacks_in f.body) x) (by (cases_lt x n)) ∙ ap (λ b. nat_lt x own || b) (held_is f ps x)
  where
    by : (x < n) ⊎ (n ≤ x) → get_or old x false ≡ nat_lt x own
    by (inl l) = h x l
    by (inr g) = get_or-eq_default old false {n = x} (omega arith) ∙ sym (le-ltb x own (omega arith))
