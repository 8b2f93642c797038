-- What flat code may read before it writes it: slots of the operands that stand there.
use Rattle.std.proofs.Common.{◌≡◌, ◌∙◌, ℕ, zero, suc, ◌-◌, ◌≤◌, List, [], ◌∷◌, ◌++◌, length, map, take, drop, reverse, Option, Some, None, Bool, true, false, ◌||◌, ◌⊎◌, inl, inr, refl, sym, ap, subst, arith, ⊎_elim}
use Rattle.std.specs.Prelude.{slice_get, nat_eq, not}
use Rattle.std.specs.List.{list_any}
use Rattle.std.proofs.lemmas.Bool.{eqb-true, eq-eqb, and_parts}
use Rattle.std.proofs.lemmas.List.{append_assoc, reverse-append, length-reverse}
use Rattle.std.proofs.lemmas.Option.{slice_get_within}
use Rattle.wa_types.specs.declared.values.ValType.{ValType}
use Rattle.wa_types.specs.declared.values.ValType.TheVariants.{I32}
use Rattle.wa_types.specs.Syntax.{Basic, Plain, basic, local_get, local_set, local_tee, br, br_if, br_table, return, unreachable, call, call_indirect, a_block, a_loop, Code, done, plain, nest, branch, FuncType, Func, Module}
use Rattle.wa_types.specs.Pruned.{is_last}
use Rattle.wa_types.specs.Typing.{Around, listed, sig, basic_sig, jump as jump_sig, may_jump, jumps as jumps_sig, calls as calls_sig, calls_at, gets, sets, tees, Takes}
use Rattle.wa_types.specs.Points.{after}
use Rattle.wa_types.specs.Liveness.{told_at, live_plain, live}
use Rattle.wa_types.specs.Modules.{or_empty, func_types, func_type_at, type_at, locals_of, around}
use Rattle.wa_model.specs.declared.flat.Operand.TheVariants.{Local}
use Rattle.wa_model.specs.Store.{takes, gives}
use Rattle.run_theory.specs.Flat.{Stmts, no_more, copies, calls, leaps, leaps_if, leaps_by, followed_by, all_got, set_to, slots_got, last_of, code_of}
use Rattle.flat_laws.specs.Flatten.{Names, names, slot, slots, result_local, top, top_of, carry_to, carry, carry_all, arrive, flat, flat_plain}
use Rattle.flat_laws.specs.Placed.{GoesOn, Good}
use Rattle.flat_laws.proofs.OperandTypes.{after_all}
use Rattle.flat_laws.proofs.TableLabels.{AllLabels, table_typed}
use Rattle.flat_laws.proofs.Typing.{exactly, sized}
use Rattle.flat_laws.specs.Behind.{Among}

-- ---- lists

or_split : (a b : Bool) → (a || b) ≡ true → (a ≡ true) ⊎ (b ≡ true)
or_split true b e = inl refl
or_split false b e = inr e

not_true : (a : Bool) → not a ≡ true → a ≡ true → ⊥
not_true true e h = cc
not_true false e h = cc

among_front : (y : ℕ) (xs ys : List ℕ) → Among y xs → Among y (xs ++ ys)
among_front y [] ys h = absurd h
among_front y (x ∷ xs) ys (inl e) = inl e
among_front y (x ∷ xs) ys (inr h) = inr (among_front y xs ys h)

among_behind : (y : ℕ) (xs ys : List ℕ) → Among y ys → Among y (xs ++ ys)
among_behind y [] ys h = h
among_behind y (x ∷ xs) ys h = inr (among_behind y xs ys h)

among_parts : (y : ℕ) (xs ys : List ℕ) → Among y (xs ++ ys) → Among y xs ⊎ Among y ys
among_parts y [] ys h = inr h
among_parts y (x ∷ xs) ys (inl e) = inl (inl e)
among_parts y (x ∷ xs) ys (inr h) = ⊎_elim (λ a. inl (inr a)) (λ b. inr b) (among_parts y xs ys h)

pub among_reversed : (y : ℕ) (xs : List ℕ) → Among y xs → Among y (reverse xs)
among_reversed y [] h = absurd h
among_reversed y (x ∷ xs) (inl e) = subst (Among y) (sym (reverse-append (x ∷ []) xs)) (among_behind y (reverse xs) (x ∷ []) (inl e))
among_reversed y (x ∷ xs) (inr h) = subst (Among y) (sym (reverse-append (x ∷ []) xs)) (among_front y (reverse xs) (x ∷ []) (among_reversed y xs h))

among_back : (y : ℕ) (xs : List ℕ) → Among y (reverse xs) → Among y xs
among_back y [] h = h
among_back y (x ∷ xs) h = ⊎_elim (λ a. inr (among_back y xs a)) (λ b. one b) (among_parts y (reverse xs) (x ∷ []) (subst (Among y) (reverse-append (x ∷ []) xs) h))
  where
    one : Among y (x ∷ []) → Among y (x ∷ xs)
    one (inl e) = inl e
    one (inr b) = absurd b

among_taken : (y k : ℕ) (xs : List ℕ) → Among y (take k xs) → Among y xs
among_taken y zero xs h = absurd h
among_taken y (suc k) [] h = h
among_taken y (suc k) (x ∷ xs) (inl e) = inl e
among_taken y (suc k) (x ∷ xs) (inr h) = inr (among_taken y k xs h)

among_dropped : (y k : ℕ) (xs : List ℕ) → Among y (drop k xs) → Among y xs
among_dropped y zero xs h = h
among_dropped y (suc k) [] h = h
among_dropped y (suc k) (x ∷ xs) h = inr (among_dropped y k xs h)

module _ (m : Module) (f : Func) (y : ℕ) (extra : length (locals_of m f) ≤ y) where
  abbrev pub n : Names
  n = names m f

  abbrev pub c : Around
  c = around m f

  -- it is the slot of one of these operands
  abbrev pub S : List ValType → Type 0
  S ops = Among y (slots n ops)

  s_behind : (ts ops : List ValType) → S ops → S (ts ++ ops)
  s_behind [] ops h = h
  s_behind (t ∷ ts) ops h = inr (s_behind ts ops h)

  top_in : (t : ValType) (more ops : List ValType) → ops ≡ t ∷ more → y ≡ top n ops → S ops
  top_in t more [] e h = cc
  top_in t more (u ∷ ops) e h = inl h

  -- ---- one access

  module _ (tos : List Bool) (out : Bool) where
    abbrev L : Code → Type 0
    L code = live y tos out code ≡ true

    live_get : (x : ℕ) (rest : Code) → L (plain (local_get x) rest) → (y ≡ x) ⊎ L rest
    unfolding live
    live_get x rest h = ⊎_elim (λ a. inl (eqb-true y x a)) (λ b. inr b) (or_split (nat_eq y x) (live y tos out rest) h)

    live_set : (x : ℕ) (rest : Code) → L (plain (local_set x) rest) → (y ≡ x → ⊥) × L rest
    unfolding live
    live_set x rest h =
        let p = and_parts (not (nat_eq y x)) (live y tos out rest) h in (λ e. not_true (nat_eq y x) p.0 (eq-eqb y x e), p.1)

    live_all : (xs : List ℕ) (rest : Code) → L (all_got (map Local xs) rest) → Among y xs ⊎ L rest
    live_all [] rest h = inr h
    live_all (x ∷ xs) rest h = ⊎_elim (λ a. inl (inl a)) (λ b. ⊎_elim (λ a. inl (inr a)) (λ z. inr z) (live_all xs rest b)) (live_get x (all_got (map Local xs) rest) h)

    live_slots : (xs : List ℕ) (rest : Code) → L (slots_got xs rest) → Among y xs ⊎ L rest
    live_slots [] rest h = inr h
    live_slots (x ∷ xs) rest h = ⊎_elim (λ a. inl (inl a)) (λ b. ⊎_elim (λ a. inl (inr a)) (λ z. inr z) (live_slots xs rest b)) (live_get x (slots_got xs rest) h)

    live_to : (to : Option ℕ) (rest : Code) → L (set_to to rest) → (to ≡ Some y → ⊥) × L rest
    live_to None rest h = (λ e. none e, h)
      where
        none : None ≡ Some y → ⊥
        none e = cc
    live_to (Some x) rest h = let p = live_set x rest h in (λ e. p.0 (same e), p.1)
      where
        same : Some x ≡ Some y → y ≡ x
        same e = cc

    live_copy : (to x : ℕ) (rest : Stmts) → L (code_of (copies to (Local x) rest)) → (y ≡ x) ⊎ ((y ≡ to → ⊥) × L (code_of rest))
    unfolding code_of
    live_copy to x rest h = ⊎_elim (λ a. inl a) (λ b. inr (live_set to (code_of rest) b)) (live_get x (plain (local_set to) (code_of rest)) h)

    -- ---- what is added

    -- it isn't the local of this result
    abbrev NotAt : ℕ → Option ValType → Type 0
    NotAt d None = Unit {0}
    NotAt d (Some t) = y ≡ result_local n d t → ⊥

    live_carry : (d : ℕ) (r : Option ValType) (ops more : List ValType) (rest : Stmts) → ops ≡ listed r ++ more → L (code_of (carry_to n d (Some r) ops rest)) → S ops ⊎ (NotAt d r × L (code_of rest))
    live_carry d None ops more rest e h = inr (tt, h)
    live_carry d (Some t) ops more rest e h = ⊎_elim (λ a. inl (top_in t more ops e a)) (λ b. inr b) (live_copy (result_local n d t) (top n ops) rest h)

    carry_at : (ls : List (Option ValType)) (j : ℕ) (r : Option ValType) (ops more : List ValType) (rest : Stmts) → slice_get ls j ≡ Some r → ops ≡ listed r ++ more
        → L (code_of (carry n ls ops j rest))
        → S ops ⊎ (NotAt (length ls - suc j) r × L (code_of rest))
    carry_at ls j r ops more rest er e h = live_carry (length ls - suc j) r ops more rest e (subst (λ o. L (code_of (carry_to n (length ls - suc j) o ops rest))) er h)

    -- nor that of one of these labels
    abbrev NotAll : List (Option ValType) → Option ValType → List ℕ → Type 0
    NotAll ls r [] = Unit {0}
    NotAll ls r (j ∷ js) = NotAt (length ls - suc j) r × NotAll ls r js

    carry_each : (ls : List (Option ValType)) (js : List ℕ) (r : Option ValType) (ops more : List ValType) (rest : Stmts) → AllLabels ls r js → ops ≡ listed r ++ more
        → L (code_of (carry_all n ls ops js rest))
        → S ops ⊎ (NotAll ls r js × L (code_of rest))
    carry_each ls [] r ops more rest al e h = inr (tt, h)
    carry_each ls (j ∷ js) r ops more rest al e h =
        ⊎_elim (λ a. inl a) (λ b. ⊎_elim (λ a. inl a) (λ d. inr ((b.0, d.0), d.1)) (carry_each ls js r ops more rest al.1 e b.1)) (carry_at ls j r ops more (carry_all n ls ops js rest) al.0 e h)

    -- ---- where branches go

    -- at a label: the local of its result, or a slot of an operand below
    abbrev pub AtLabel : ℕ → Option ValType → List ValType → Type 0
    AtLabel d None low = S low
    AtLabel d (Some t) low = (y ≡ result_local n d t) ⊎ S low

    pub label_deeper : (d : ℕ) (r : Option ValType) (ts low : List ValType) → AtLabel d r low → AtLabel d r (ts ++ low)
    label_deeper d None ts low h = s_behind ts low h
    label_deeper d (Some t) ts low (inl e) = inl e
    label_deeper d (Some t) ts low (inr h) = inr (s_behind ts low h)

    not_there : (d : ℕ) (r : Option ValType) (low : List ValType) → NotAt d r → AtLabel d r low → S low
    not_there d None low z h = h
    not_there d (Some t) low z (inl e) = absurd (z e)
    not_there d (Some t) low z (inr h) = h

    -- it is told of labels only so
    abbrev pub Conds : List (Option ValType) → List ValType → Type 0
    Conds ls low = (j : ℕ) (r : Option ValType) → slice_get ls j ≡ Some r → told_at tos j ≡ true → AtLabel (length ls - suc j) r low

    -- the end of a sequence
    abbrev pub Ends : ℕ → Option ValType → (outs low : List ValType) → Type 0
    Ends d r outs low = out ≡ true → AtLabel d r (outs ++ low)

    any_told : (ls : List (Option ValType)) (js : List ℕ) (r : Option ValType) (low : List ValType) → Conds ls low → AllLabels ls r js → NotAll ls r js → list_any (told_at tos) js ≡ true → S low
    any_told ls [] r low cs al na e = cc
    any_told ls (j ∷ js) r low cs al na e =
        ⊎_elim (λ a. not_there (length ls - suc j) r low na.0 (cs j r al.0 a)) (λ b. any_told ls js r low cs al.1 na.1 b) (or_split (told_at tos j) (list_any (told_at tos) js) e)

    -- behind a result that is written
    without_result : (k : ℕ) (outs more behind : List ValType) → length outs ≡ k → k ≤ 1 → behind ≡ outs ++ more → (top_of n k behind ≡ Some y → ⊥) → S behind → S more
    without_result k [] more behind e le eb z h = subst S eb h
    without_result zero (t ∷ outs) more behind e le eb z h = absurd (omega arith)
    without_result (suc k) (t ∷ u ∷ outs) more behind e le eb z h = absurd (omega arith)
    without_result (suc k) (t ∷ []) more behind e le eb z h = by (subst S eb h)
      where
        by : S (t ∷ more) → S more
        by (inl a) = absurd (z (ap (λ ts. Some (top n ts)) eb ∙ ap (λ i. Some i) (sym a)))
        by (inr b) = b

    -- ---- instructions

    module _ (ls : List (Option ValType)) (own mids low : List ValType) (cs : Conds ls low) where
      abbrev ops : List ValType
      ops = own ++ low

      low_in : S low → S ops
      low_in h = s_behind own low h

      -- a result goes to its slot, and the rest reads slots alone
      behind_result : (k : ℕ) (outs below : List ValType) (ins : List ValType) (rest : Stmts) → length outs ≡ k → k ≤ 1 → mids ≡ outs ++ below → own ≡ ins ++ below
          → (L (code_of rest) → S (mids ++ low))
          → L (set_to (top_of n k (mids ++ low)) (code_of rest)) → S ops
      behind_result k outs below ins rest el le em eo ih h =
          let p = live_to (top_of n k (mids ++ low)) (code_of rest) h in
          let more = without_result k outs (below ++ low) (mids ++ low) el le (ap (λ z. z ++ low) em ∙ append_assoc outs below low) p.0 (ih p.1) in
          subst S (sym (ap (λ z. z ++ low) eo ∙ append_assoc ins below low)) (s_behind ins (below ++ low) more)

      own_not : (x : ℕ) (t : ValType) → slice_get (locals_of m f) x ≡ Some t → y ≡ x → ⊥
      own_not x t e h = let lt = slice_get_within (locals_of m f) x t e in absurd (omega arith)

      basic_live : (b : Basic) (rest : Stmts) → Takes (basic_sig c b) own mids → (L (code_of rest) → S (mids ++ low)) → L (code_of (flat_plain n c ls ops (mids ++ low) (basic b) rest)) → S ops
      unfolding code_of followed_by live
      basic_live b rest t ih h =
          let ex = exactly (basic_sig c b) (takes b) (gives b) own mids (sized c b) t in
          let xs : List ℕ = reverse (take (takes b) (slots n ops)) in
          ⊎_elim (λ a. among_taken y (takes b) (slots n ops) (among_back y (take (takes b) (slots n ops)) a))
          (λ z. behind_result (gives b) ex.outs ex.below ex.ins rest ex.few (gives_one b) ex.mids_is ex.own_is ih z)
          (live_all xs (plain (basic b) (set_to (top_of n (gives b) (mids ++ low)) (code_of rest))) h)
        where
          gives_one : (b : Basic) → gives b ≤ 1
          gives_one b = grind arith

      get_live : (x : ℕ) (rest : Stmts) → Takes (gets (slice_get c.locals x)) own mids → (L (code_of rest) → S (mids ++ low))
          → L (code_of (flat_plain n c ls ops (mids ++ low) (local_get x) rest)) → S ops
      get_live x rest t ih h = by (slice_get (locals_of m f) x) refl t
        where
          by : (o : Option ValType) → slice_get (locals_of m f) x ≡ o → Takes (gets o) own mids → S ops
          by None eo t = absurd t
          by (Some u) eo t =
              ⊎_elim (λ a. absurd (own_not x u eo a)) (λ b. subst S (ap (λ z. z ++ low) (sym t.1))
              (without_result 1 (u ∷ []) (t.0 ++ low) (mids ++ low) refl (omega arith) (ap (λ z. z ++ low) t.2) (λ e. b.0 (some_is e)) (ih b.1)))
              (live_copy (top n (mids ++ low)) x rest h)
            where
              some_is : top_of n 1 (mids ++ low) ≡ Some y → y ≡ top n (mids ++ low)
              some_is e = cc

      set_live : (x : ℕ) (rest : Stmts) → Takes (sets (slice_get c.locals x)) own mids → (L (code_of rest) → S (mids ++ low))
          → L (code_of (flat_plain n c ls ops (mids ++ low) (local_set x) rest)) → S ops
      set_live x rest t ih h = by (slice_get (locals_of m f) x) refl t
        where
          by : (o : Option ValType) → slice_get (locals_of m f) x ≡ o → Takes (sets o) own mids → S ops
          by None eo t = absurd t
          by (Some u) eo t =
              let all : ops ≡ u ∷ (t.0 ++ low) = ap (λ z. z ++ low) t.1 in
              ⊎_elim (λ a. top_in u (t.0 ++ low) ops all a) (λ b. subst S (sym all) (inr (subst S (ap (λ z. z ++ low) t.2) (ih b.1)))) (live_copy x (top n ops) rest h)

      tee_live : (x : ℕ) (rest : Stmts) → Takes (tees (slice_get c.locals x)) own mids → (L (code_of rest) → S (mids ++ low))
          → L (code_of (flat_plain n c ls ops (mids ++ low) (local_tee x) rest)) → S ops
      tee_live x rest t ih h = by (slice_get (locals_of m f) x) refl t
        where
          by : (o : Option ValType) → slice_get (locals_of m f) x ≡ o → Takes (tees o) own mids → S ops
          by None eo t = absurd t
          by (Some u) eo t =
              let all : ops ≡ u ∷ (t.0 ++ low) = ap (λ z. z ++ low) t.1 in
              ⊎_elim (λ a. top_in u (t.0 ++ low) ops all a) (λ b. subst S (ap (λ z. z ++ low) t.2 ∙ sym all) (ih b.1)) (live_copy x (top n ops) rest h)

      leap_live : (j : ℕ) (r : Option ValType) (more : List ValType) → slice_get ls j ≡ Some r → ops ≡ listed r ++ more → L (code_of (carry n ls ops j (leaps j no_more))) → S ops
      unfolding code_of live
      leap_live j r more er e h = ⊎_elim (λ a. a) (λ b. low_in (not_there (length ls - suc j) r low b.0 (cs j r er b.1))) (carry_at ls j r ops more (leaps j no_more) er e h)

      br_live : (j : ℕ) → Takes (jump_sig (slice_get ls j)) own mids → L (code_of (carry n ls ops j (leaps j no_more))) → S ops
      br_live j t h = by (slice_get ls j) refl t
        where
          by : (o : Option (Option ValType)) → slice_get ls j ≡ o → Takes (jump_sig o) own mids → S ops
          by None eo t = absurd t
          by (Some r) eo t = leap_live j r (t.0 ++ low) eo (ap (λ z. z ++ low) t.1 ∙ append_assoc (listed r) t.0 low) h

      if_live : (j : ℕ) (rest : Stmts) → Takes (may_jump (slice_get ls j)) own mids → (L (code_of rest) → S (mids ++ low)) → L (code_of (flat_plain n c ls ops (mids ++ low) (br_if j) rest)) → S ops
      unfolding code_of live
      if_live j rest t ih h = by (slice_get ls j) refl t
        where
          by : (o : Option (Option ValType)) → slice_get ls j ≡ o → Takes (may_jump o) own mids → S ops
          by None eo t = absurd t
          by (Some r) eo t =
              let more : List ValType = t.0 ++ low in
              let all : ops ≡ I32 ∷ (listed r ++ more) = ap (λ z. z ++ low) t.1 ∙ ap (λ z. I32 ∷ z) (append_assoc (listed r) t.0 low) in
              let behind : mids ++ low ≡ listed r ++ more = ap (λ z. z ++ low) t.2 ∙ append_assoc (listed r) t.0 low in
              let deeper : S (listed r ++ more) → S ops = λ a. subst S (sym all) (inr a) in
              ⊎_elim
              (λ a. deeper (subst S (ap (drop 1) all) a))
              (λ b.
              ⊎_elim
              (λ a. top_in I32 (listed r ++ more) ops all a)
              (λ z. ⊎_elim (λ a. low_in (not_there (length ls - suc j) r low b.0 (cs j r eo a))) (λ a. deeper (subst S behind (ih a))) (or_split (told_at tos j) (live y tos out (code_of rest)) z))
              (live_get (top n ops) (plain (br_if j) (code_of rest)) b.1))
              (carry_at ls j r (drop 1 ops) more (leaps_if (Local (top n ops)) j rest) eo (ap (drop 1) all) h)

      table_live : (ts : List ℕ) (j : ℕ) (behind : List ValType) (rest : Stmts) → Takes (jumps_sig ls ts (slice_get ls j)) own mids
          → L (code_of (flat_plain n c ls ops behind (br_table ts j) rest)) → S ops
      unfolding code_of live
      table_live ts j behind rest t h = by (slice_get ls j) refl t
        where
          by : (o : Option (Option ValType)) → slice_get ls j ≡ o → Takes (jumps_sig ls ts o) own mids → S ops
          by None eo t = absurd t
          by (Some r) eo t =
              let q = table_typed ls ts r own mids t in
              let more : List ValType = q.1 ++ low in
              let all : ops ≡ I32 ∷ (listed r ++ more) = ap (λ z. z ++ low) q.2 ∙ ap (λ z. I32 ∷ z) (append_assoc (listed r) q.1 low) in
              let deeper : S (listed r ++ more) → S ops = λ a. subst S (sym all) (inr a) in
              ⊎_elim
              (λ a. deeper (subst S (ap (drop 1) all) a))
              (λ b.
              ⊎_elim
              (λ a. deeper (subst S (ap (drop 1) all) a))
              (λ d.
              ⊎_elim
              (λ a. top_in I32 (listed r ++ more) ops all a)
              (λ z. low_in (any_told ls (j ∷ ts) r low cs (eo, q.0) (d.0, b.0) z))
              (live_get (top n ops) (plain (br_table ts j) done) d.1))
              (carry_at ls j r (drop 1 ops) more (leaps_by (Local (top n ops)) ts j no_more) eo (ap (drop 1) all) b.1))
              (carry_each ls ts r (drop 1 ops) more (carry n ls (drop 1 ops) j (leaps_by (Local (top n ops)) ts j no_more)) q.0 (ap (drop 1) all) h)

      -- the operands of a call are slots, and its result goes to one
      stack_live : (i : Plain) (k : ℕ) (to : Option ℕ) (rest : Stmts) → (L (set_to to (code_of rest)) → S ops) → live_plain y tos i ≡ (λ b. b)
          → L (code_of (calls (plain i done) (reverse (slots n ops)) k to rest)) → S ops
      unfolding code_of followed_by live
      stack_live i k to rest ih plain_on h =
          let xs : List ℕ = reverse (slots n ops) in
          ⊎_elim (λ a. among_back y (slots n ops) (among_dropped y (length xs - k) xs a)) (λ z. ih (sym (ap (λ g. g (live y tos out (set_to to (code_of rest)))) plain_on) ∙ z))
          (live_slots (last_of k xs) (plain i (set_to to (code_of rest))) h)

      module _ (small : (x : ℕ) → length (func_type_at m x).results ≤ 1) (small_sort : (t : ℕ) → length (type_at m t).results ≤ 1) where
        -- behind the call itself
        pub call_behind : (x : ℕ) (rest : Stmts) → Takes (calls_sig (slice_get c.funcs x)) own mids → (L (code_of rest) → S (mids ++ low))
            → L (set_to (top_of n (length (func_type_at m x).results) (mids ++ low)) (code_of rest)) → S ops
        call_behind x rest t ih h = by (slice_get (func_types m) x) refl t
          where
            by : (o : Option FuncType) → slice_get (func_types m) x ≡ o → Takes (calls_sig o) own mids → S ops
            by None eo t = absurd t
            by (Some u) eo t =
                let eu : length u.results ≡ length (func_type_at m x).results = ap (λ (q : FuncType). length q.results) (sym (ap or_empty eo)) in
                behind_result (length (func_type_at m x).results) (reverse u.results) t.0 (reverse u.params) rest (length-reverse u.results ∙ eu) (small x) t.2 t.1 ih h

        pub indirect_behind : (sort : ℕ) (rest : Stmts) → Takes (calls_at c.table (slice_get m.types sort)) own mids → (L (code_of rest) → S (mids ++ low))
            → L (set_to (top_of n (length (type_at m sort).results) (mids ++ low)) (code_of rest)) → S ops
        indirect_behind sort rest t ih h = by c.table (slice_get m.types sort) refl t
          where
            by : (b : Bool) (o : Option FuncType) → slice_get m.types sort ≡ o → Takes (calls_at b o) own mids → S ops
            by b None eo t = absurd t
            by false (Some u) eo t = absurd t
            by true (Some u) eo t =
                let eu : length u.results ≡ length (type_at m sort).results = ap (λ (q : FuncType). length q.results) (sym (ap or_empty eo)) in
                behind_result (length (type_at m sort).results) (reverse u.results) t.0 (I32 ∷ reverse u.params) rest (length-reverse u.results ∙ eu) (small_sort sort) t.2 t.1 ih h

        on_live : (i : Plain) (rest : Stmts) → is_last i ≡ false → Takes (sig c ls i) own mids → (L (code_of rest) → S (mids ++ low)) → L (code_of (flat_plain n c ls ops (mids ++ low) i rest)) → S ops
        on_live (basic b) rest z t ih h = basic_live b rest t ih h
        on_live (local_get x) rest z t ih h = get_live x rest t ih h
        on_live (local_set x) rest z t ih h = set_live x rest t ih h
        on_live (local_tee x) rest z t ih h = tee_live x rest t ih h
        on_live (br j) rest z t ih h = cc
        on_live (br_if j) rest z t ih h = if_live j rest t ih h
        on_live (br_table ts j) rest z t ih h = cc
        on_live return rest z t ih h = cc
        on_live unreachable rest z t ih h = cc
        on_live (call x) rest z t ih h = stack_live (call x) (length (func_type_at m x).params) (top_of n (length (func_type_at m x).results) (mids ++ low)) rest (call_behind x rest t ih) refl h
        on_live (call_indirect sort) rest z t ih h = stack_live (call_indirect sort) (suc (length (type_at m sort).params))
            (top_of n (length (type_at m sort).results) (mids ++ low)) rest (indirect_behind sort rest t ih) refl h

      last_live : (i : Plain) (behind : List ValType) (rest : Stmts) → slice_get ls (length ls - 1) ≡ Some c.result → is_last i ≡ true → Takes (sig c ls i) own mids
          → L (code_of (flat_plain n c ls ops behind i rest)) → S ops
      unfolding code_of live
      last_live (br j) behind rest la z t h = br_live j t h
      last_live (br_table ts j) behind rest la z t h = table_live ts j behind rest t h
      last_live return behind rest la z t h = leap_live (length ls - 1) c.result (t.0 ++ low) la (ap (λ q. q ++ low) t.1 ∙ append_assoc (listed c.result) t.0 low) h
      last_live unreachable behind rest la z t h = cc
      last_live (basic b) behind rest la z t h = cc
      last_live (local_get x) behind rest la z t h = cc
      last_live (local_set x) behind rest la z t h = cc
      last_live (local_tee x) behind rest la z t h = cc
      last_live (br_if j) behind rest la z t h = cc
      last_live (call x) behind rest la z t h = cc
      last_live (call_indirect sort) behind rest la z t h = cc

  -- ---- code

  -- behind a construct's end
  pub arrive_live : (tos : List Bool) (out : Bool) (d : ℕ) (r : Option ValType) (ops : List ValType) (rest : Stmts) → (L tos out (code_of rest) → S (listed r ++ ops))
      → L tos out (code_of (arrive n d r ops rest)) → AtLabel tos out d r ops
  arrive_live tos out d None ops rest ih h = ih h
  arrive_live tos out d (Some t) ops rest ih h = ⊎_elim (λ a. inl a) (λ b. inr (by (ih b.1) b.0)) (live_copy tos out (slot n (length ops) t) (result_local n d t) rest h)
    where
      by : S (t ∷ ops) → (y ≡ slot n (length ops) t → ⊥) → S ops
      by (inl a) z = absurd (z a)
      by (inr b) z = b

  -- inside one more label
  pub inner_conds : (tos : List Bool) (out k : Bool) (ls : List (Option ValType)) (r : Option ValType) (own low : List ValType) → Conds tos out ls low
      → (k ≡ true → AtLabel tos out (length ls) r (own ++ low)) → (out' : Bool) → Conds (k ∷ tos) out' (r ∷ ls) (own ++ low)
  inner_conds tos out k ls r own low cs h out' zero q e told =
      let z : r ≡ q = some_is e in
      let d : length ls ≡ length (r ∷ ls) - 1 = omega arith in
      subst (λ i. AtLabel (k ∷ tos) out' i q (own ++ low)) d (subst (λ p. AtLabel (k ∷ tos) out' (length ls) p (own ++ low)) z (same (length ls) r (h told)))
    where
      some_is : Some r ≡ Some q → r ≡ q
      some_is e = cc

      same : (d : ℕ) (r : Option ValType) → AtLabel tos out d r (own ++ low) → AtLabel (k ∷ tos) out' d r (own ++ low)
      same d None h = h
      same d (Some t) h = h
  inner_conds tos out k ls r own low cs h out' (suc j) q e told =
      let d : length ls - suc j ≡ length (r ∷ ls) - suc (suc j) = omega arith in
      subst (λ i. AtLabel (k ∷ tos) out' i q (own ++ low)) d (same (length ls - suc j) q (label_deeper tos out (length ls - suc j) q own low (cs j q e told)))
    where
      same : (d : ℕ) (r : Option ValType) → AtLabel tos out d r (own ++ low) → AtLabel (k ∷ tos) out' d r (own ++ low)
      same d None h = h
      same d (Some t) h = h

  module _ (small : (x : ℕ) → length (func_type_at m x).results ≤ 1) (small_sort : (t : ℕ) → length (type_at m t).results ≤ 1) where
    pub code_live : (tos : List Bool) (out : Bool) (q : Option ValType) (lt : List (Option ValType)) (code : Code) (outs own low : List ValType)
        → slice_get (q ∷ lt) (length lt) ≡ Some c.result → (q ≡ None) ⊎ (outs ≡ listed q)
        → Conds tos out (q ∷ lt) low → Ends tos out (length lt) q outs low → Good n c (q ∷ lt) code outs own low → live y tos out (code_of (flat n c (q ∷ lt) code (own ++ low))) ≡ true
        → S (own ++ low)
    unfolding flat Good live code_of
    code_live tos out q lt done outs own low la (inl none) cs en g h =
        let e = subst (λ r. AtLabel tos out (length lt) r (outs ++ low)) none (en (subst (λ r. L tos out (code_of (carry_to n (length (q ∷ lt) - 1) (Some r) (own ++ low) no_more))) none h)) in
        subst S (ap (λ z. z ++ low) (sym g.1)) e
    code_live tos out q lt done outs own low la (inr value) cs en g h =
        ⊎_elim (λ a. a)
        (λ b. let d : length (q ∷ lt) - 1 ≡ length lt = omega arith in subst S (ap (λ z. z ++ low) (sym g.1))
        (not_there tos out (length lt) q (outs ++ low) (subst (λ i. NotAt tos out i q) d b.0) (en b.1)))
        (live_carry tos out (length (q ∷ lt) - 1) q (own ++ low) low no_more (ap (λ z. z ++ low) (g.1 ∙ value)) h)
    code_live tos out q lt (plain i rest) outs own low la hd cs en g h = by (is_last i) refl (λ gr z. code_live tos out q lt rest outs g.1 low la hd cs en gr z) g.3 h
      where
        by : (b : Bool) → is_last i ≡ b → (Good n c (q ∷ lt) rest outs g.1 low → live y tos out (code_of (flat n c (q ∷ lt) rest (g.1 ++ low))) ≡ true → S (g.1 ++ low))
            → GoesOn b (Good n c (q ∷ lt) rest outs g.1 low)
            → live y tos out (code_of (flat_plain n c (q ∷ lt) (own ++ low) (after (sig c (q ∷ lt) i) (own ++ low)) i (flat n c (q ∷ lt) rest (after (sig c (q ∷ lt) i) (own ++ low)))))
            ≡ true → S (own ++ low)
        by true z ih gr h =
            let one : length lt ≡ length (q ∷ lt) - 1 = omega arith in
            last_live tos out (q ∷ lt) own g.1 low cs i (after (sig c (q ∷ lt) i) (own ++ low)) (flat n c (q ∷ lt) rest (after (sig c (q ∷ lt) i) (own ++ low)))
            (subst (λ j. slice_get (q ∷ lt) j ≡ Some c.result) one la) z g.2 h
        by false z ih gr h =
            on_live tos out (q ∷ lt) own g.1 low cs small small_sort i (flat n c (q ∷ lt) rest (g.1 ++ low)) z g.2 (ih gr)
            (subst (λ behind. live y tos out (code_of (flat_plain n c (q ∷ lt) (own ++ low) behind i (flat n c (q ∷ lt) rest behind))) ≡ true)
            (after_all c (q ∷ lt) i own g.1 low (own ++ low) z g.2 refl) h)
    code_live tos out q lt (nest a_block r body rest) outs own low la hd cs en g h =
        let k : Bool = live y tos out (code_of (arrive n (length (q ∷ lt)) r (own ++ low) (flat n c (q ∷ lt) rest (listed r ++ (own ++ low))))) in
        let assoc : (listed r ++ own) ++ low ≡ listed r ++ (own ++ low) = append_assoc (listed r) own low in
        let rest_it : live y tos out (code_of (flat n c (q ∷ lt) rest (listed r ++ (own ++ low)))) ≡ true → S (listed r ++ (own ++ low)) =
        subst (λ ts. live y tos out (code_of (flat n c (q ∷ lt) rest ts)) ≡ true → S ts) assoc (code_live tos out q lt rest outs (listed r ++ own) low la hd cs en g.3) in
        let behind : k ≡ true → AtLabel tos out (length (q ∷ lt)) r (own ++ low) = arrive_live tos out (length (q ∷ lt)) r (own ++ low) (flat n c (q ∷ lt) rest (listed r ++ (own ++ low))) rest_it in
        code_live (k ∷ tos) k r (q ∷ lt) body (listed r) [] (own ++ low) la (inr refl) (inner_conds tos out k (q ∷ lt) r own low cs behind k)
        (λ e. label_deeper tos out (length (q ∷ lt)) r (listed r) (own ++ low) (behind e)) g.2 h
    code_live tos out q lt (nest a_loop r body rest) outs own low la hd cs en g h =
        let k : Bool = live y tos out (code_of (flat n c (q ∷ lt) rest (listed r ++ (own ++ low)))) in
        let assoc : (listed r ++ own) ++ low ≡ listed r ++ (own ++ low) = append_assoc (listed r) own low in
        let rest_it : k ≡ true → S (listed r ++ (own ++ low)) =
        subst (λ ts. live y tos out (code_of (flat n c (q ∷ lt) rest ts)) ≡ true → S ts) assoc (code_live tos out q lt rest outs (listed r ++ own) low la hd cs en g.3) in
        code_live (false ∷ tos) k None (q ∷ lt) body (listed r) [] (own ++ low) la (inl refl) (inner_conds tos out false (q ∷ lt) None own low cs (λ e. cc) k) rest_it g.2 h
    code_live tos out q lt (branch r a b rest) outs own low la hd cs en g h =
        let below : List ValType = g.2 in
        let all : own ++ low ≡ I32 ∷ (below ++ low) = ap (λ z. z ++ low) g.3 in
        let arms : List ValType → Bool = λ ds.
        let k : Bool = live y tos out (code_of (arrive n (length (q ∷ lt)) r ds (flat n c (q ∷ lt) rest (listed r ++ ds)))) in
        live y (k ∷ tos) k (code_of (flat n c (r ∷ q ∷ lt) a ds)) || live y (k ∷ tos) k (code_of (flat n c (r ∷ q ∷ lt) b ds)) in
        let k : Bool = live y tos out (code_of (arrive n (length (q ∷ lt)) r (below ++ low) (flat n c (q ∷ lt) rest (listed r ++ (below ++ low))))) in
        let assoc : (listed r ++ below) ++ low ≡ listed r ++ (below ++ low) = append_assoc (listed r) below low in
        let rest_it : live y tos out (code_of (flat n c (q ∷ lt) rest (listed r ++ (below ++ low)))) ≡ true → S (listed r ++ (below ++ low)) =
        subst (λ ts. live y tos out (code_of (flat n c (q ∷ lt) rest ts)) ≡ true → S ts) assoc (code_live tos out q lt rest outs (listed r ++ below) low la hd cs en g.6) in
        let behind : k ≡ true → AtLabel tos out (length (q ∷ lt)) r (below ++ low) = arrive_live tos out (length (q ∷ lt)) r (below ++ low)
        (flat n c (q ∷ lt) rest (listed r ++ (below ++ low))) rest_it in
        let inner = inner_conds tos out k (q ∷ lt) r below low cs behind k in
        let ends : k ≡ true → AtLabel (k ∷ tos) k (length (q ∷ lt)) r (listed r ++ (below ++ low)) = λ e. label_deeper (k ∷ tos) k (length (q ∷ lt)) r (listed r) (below ++ low) (behind e) in
        let deeper : S (below ++ low) → S (own ++ low) = λ z. subst S (sym all) (inr z) in
        ⊎_elim
        (λ z. top_in I32 (below ++ low) (own ++ low) all (eqb-true y (top n (own ++ low)) z))
        (λ z.
        ⊎_elim
        (λ u. deeper (code_live (k ∷ tos) k r (q ∷ lt) a (listed r) [] (below ++ low) la (inr refl) inner ends g.4 u))
        (λ u. deeper (code_live (k ∷ tos) k r (q ∷ lt) b (listed r) [] (below ++ low) la (inr refl) inner ends g.5 u))
        (or_split (live y (k ∷ tos) k (code_of (flat n c (r ∷ q ∷ lt) a (below ++ low)))) (live y (k ∷ tos) k (code_of (flat n c (r ∷ q ∷ lt) b (below ++ low))))
        (subst (λ ds. arms ds ≡ true) (ap (drop 1) all) z)))
        (or_split (nat_eq y (top n (own ++ low))) (arms (drop 1 (own ++ low))) h)
