-- The statements of good code are in range.
use Rattle.std.proofs.Common.{◌≡◌, ◌∙◌, ℕ, zero, suc, ◌+◌, ◌-◌, ◌≤◌, ◌<◌, List, [], ◌∷◌, ◌++◌, length, map, take, drop, reverse, Option, Some, None, Bool, true, false, refl, sym, ap, subst, arith, length-append}
use Rattle.std.specs.Prelude.{slice_get, All}
use Rattle.std.proofs.lemmas.List.{length-reverse, length-map, append_assoc, reverse-append}
use Rattle.std.proofs.lemmas.Option.{slice_get_within}
use Rattle.std.proofs.lemmas.List.Elements.{All-append, All-take, All-nil, All-cons, All-head, All-tail}
use Rattle.wa_types.specs.declared.values.ValType.{ValType}
use Rattle.wa_types.specs.declared.values.ValType.TheVariants.{I32}
use Rattle.wa_types.specs.Syntax.{Basic, Plain, basic, local_get, local_set, local_tee, br, br_if, br_table, return, unreachable, call, call_indirect, Shape, a_block, a_loop, Code, done, plain, nest, branch, FuncType, Func, Module}
use Rattle.wa_types.specs.Pruned.{is_last}
use Rattle.wa_types.specs.Typing.{Around, listed, sig, basic_sig, label, jump as jump_sig, may_jump, jumps as jumps_sig, calls as calls_sig, calls_at, gets, sets, tees, Takes}
use Rattle.wa_types.specs.Points.{after}
use Rattle.wa_types.specs.Modules.{or_empty, func_sorts, func_types, func_type_at, type_at, locals_of, around}
use Rattle.wa_types.specs.Frames.{SlotPairs, ResultPairs}
use Rattle.wa_model.specs.declared.flat.Operand.TheVariants.{Local}
use Rattle.wa_model.specs.Store.{takes, gives}
use Rattle.run_theory.specs.Flat.{Stmts, no_more, leaps, leaps_if, leaps_by, decides}
use Rattle.run_theory.specs.FlatFits.{OperandFits, ToFits, TellsResult, StmtsFit, CalleesInRange, ResultsTold}
use Rattle.run_theory.proofs.FittingNames.{func_found}
use Rattle.run_theory.proofs.HeightLemmas.{basic_height}
use Rattle.flat_laws.specs.Flatten.{Names, names, place, slots, top, top_of, carry_to, carry, carry_all, arrive, flat, flat_plain}
use Rattle.flat_laws.specs.Placed.{AllIn, HasResult, GoesOn, Good}
use Rattle.flat_laws.proofs.OperandTypes.{after_all, good_in, take_few, takes_few}
use Rattle.flat_laws.proofs.TableLabels.{AllLabels, table_typed}
use Rattle.flat_laws.proofs.Typing.{Have, have_one}
use Rattle.flat_laws.proofs.Heights.{operands_few}

all_reversed : (P : ℕ → Type 0) (xs : List ℕ) → All P xs → All P (reverse xs)
all_reversed P [] a = All-nil P
all_reversed P (x ∷ xs) a =
    subst (All P) (sym (reverse-append (x ∷ []) xs)) (All-append P (reverse xs) (x ∷ []) (all_reversed P xs (All-tail P x xs a)) (All-cons P x [] (All-head P x xs a) (All-nil P)))

tells_top : (n : Names) (k : ℕ) (ops : List ValType) → TellsResult k (top_of n k ops)
tells_top n zero ops = refl
tells_top n (suc k) ops = tt

slots_long : (n : Names) (ops : List ValType) → length (slots n ops) ≡ length ops
slots_long n [] = refl
slots_long n (t ∷ ops) = ap suc (slots_long n ops)

all_at_labels : (ls : List (Option ValType)) (r : Option ValType) (js : List ℕ) → AllLabels ls r js → All (λ j. j < length ls) js
all_at_labels ls r [] h = All-nil (λ j. j < length ls)
all_at_labels ls r (j ∷ js) h = All-cons (λ j. j < length ls) j js (slice_get_within ls j r h.0) (all_at_labels ls r js h.1)

module _ (m : Module) (f : Func) (few : length (locals_of m f) + (length (SlotPairs m f) + length (ResultPairs m f)) ≤ 50000) where
  abbrev n : Names
  n = names m f

  abbrev c : Around
  c = around m f

  -- so many locals
  abbrev most : ℕ
  most = length (locals_of m f) + (length (SlotPairs m f) + length (ResultPairs m f))

  abbrev funcs : ℕ
  funcs = length (func_sorts m)

  -- statements among so many labels: locals and labels are in range, functions too, and results are told
  abbrev F : (labels : ℕ) → Stmts → Type 0
  F k s = StmtsFit most k s × CalleesInRange funcs s × ResultsTold m s

  -- ---- locals

  slot_in : (ops : List ValType) (t : ValType) → place (length ops) t (SlotPairs m f) < length (SlotPairs m f) → n.first + place (length ops) t n.slots < most
  slot_in ops t lt = omega arith

  result_in : (d : ℕ) (t : ValType) → HasResult n d (Some t) → n.first + (length n.slots + place d t n.results) < most
  result_in d t h = omega arith

  all_slots : (ops : List ValType) → AllIn n ops → All (λ x. x < most) (slots n ops)
  all_slots [] a = All-nil (λ x. x < most)
  all_slots (t ∷ ops) a = All-cons (λ x. x < most) (n.first + place (length ops) t n.slots) (slots n ops) (slot_in ops t a.0) (all_slots ops a.1)

  all_operands : (xs : List ℕ) → All (λ x. x < most) xs → All (OperandFits most) (map Local xs)
  all_operands [] a = All-nil (OperandFits most)
  all_operands (x ∷ xs) a = All-cons (OperandFits most) (Local x) (map Local xs) (All-head (λ x. x < most) x xs a) (all_operands xs (All-tail (λ x. x < most) x xs a))

  -- the topmost operand's, where there is a local at all
  top_in : (ops : List ValType) → AllIn n ops → 0 < most → top n ops < most
  top_in [] a z = z
  top_in (t ∷ ops) a z = slot_in ops t a.0

  top_of_in : (k : ℕ) (ops : List ValType) → AllIn n ops → k ≤ length ops → ToFits most (top_of n k ops)
  top_of_in zero ops a le = tt
  top_of_in (suc k) [] a le = absurd (omega arith)
  top_of_in (suc k) (t ∷ ops) a le = slot_in ops t a.0

  drop_one : (ops : List ValType) → AllIn n ops → AllIn n (drop 1 ops)
  drop_one [] a = tt
  drop_one (t ∷ ops) a = a.1

  -- ---- what is added

  carry_fits : (k d : ℕ) (o : Option (Option ValType)) (ops : List ValType) (rest : Stmts) → ((r : Option ValType) → o ≡ Some r → HasResult n d r) → AllIn n ops → F k rest
      → F k (carry_to n d o ops rest)
  carry_fits k d None ops rest has a h = h
  carry_fits k d (Some None) ops rest has a h = h
  carry_fits k d (Some (Some t)) ops rest has a h = let r = result_in d t (has (Some t) refl) in ((r, top_in ops a (omega arith), h.0), h.1, h.2)

  carry_at : (ls : List (Option ValType)) (j : ℕ) (ops : List ValType) (rest : Stmts) → Have n ls → AllIn n ops → F (length ls) rest → F (length ls) (carry n ls ops j rest)
  carry_at ls j ops rest ha a h = carry_fits (length ls) (length ls - suc j) (slice_get ls j) ops rest (λ r e. have_one n ls j r ha e) a h

  carry_each : (ls : List (Option ValType)) (js : List ℕ) (ops : List ValType) (rest : Stmts) → Have n ls → AllIn n ops → F (length ls) rest → F (length ls) (carry_all n ls ops js rest)
  carry_each ls [] ops rest ha a h = h
  carry_each ls (j ∷ js) ops rest ha a h = carry_at ls j ops (carry_all n ls ops js rest) ha a (carry_each ls js ops rest ha a h)

  arrive_fits : (k d : ℕ) (r : Option ValType) (ops : List ValType) (rest : Stmts) → HasResult n d r → AllIn n (listed r ++ ops) → F k rest → F k (arrive n d r ops rest)
  arrive_fits k d None ops rest has a h = h
  arrive_fits k d (Some t) ops rest has a h = ((slot_in ops t a.0, result_in d t has, h.0), h.1, h.2)

  -- ---- instructions

  own_local : (y : ℕ) (t : ValType) → slice_get (locals_of m f) y ≡ Some t → y < most
  own_local y t e = let z = slice_get_within (locals_of m f) y t e in omega arith

  module _ (ls : List (Option ValType)) (own mids low : List ValType) (ha : Have n ls) (a : AllIn n (own ++ low)) where
    basic_fits : (b : Basic) (rest : Stmts) → Takes (basic_sig c b) own mids → AllIn n (mids ++ low) → F (length ls) rest → F (length ls) (flat_plain n c ls (own ++ low) (mids ++ low) (basic b) rest)
    basic_fits b rest t ab h =
        let xs : List ℕ = reverse (take (takes b) (slots n (own ++ low))) in
        let all : All (OperandFits most) (map Local xs) = all_operands xs (all_reversed (λ x. x < most) (take (takes b) (slots n (own ++ low)))
        (All-take (λ x. x < most) (takes b) (slots n (own ++ low)) (all_slots (own ++ low) a))) in
        let l : length (map Local xs) ≡ length (take (takes b) (slots n (own ++ low))) = length-map xs Local ∙ length-reverse (take (takes b) (slots n (own ++ low))) in
        let k = take_few (takes b) (slots n (own ++ low)) in
        let three = takes_few b in
        let hb = basic_height c b own mids low t in
        ((tells_top n (gives b) (mids ++ low), all, omega arith, top_of_in (gives b) (mids ++ low) ab (omega arith), h.0), h.1, h.2)

    get_fits : (y : ℕ) (rest : Stmts) → Takes (gets (slice_get c.locals y)) own mids → AllIn n (mids ++ low) → F (length ls) rest
        → F (length ls) (flat_plain n c ls (own ++ low) (mids ++ low) (local_get y) rest)
    get_fits y rest t ab h = by (slice_get (locals_of m f) y) refl t
      where
        by : (o : Option ValType) → slice_get (locals_of m f) y ≡ o → Takes (gets o) own mids → F (length ls) (flat_plain n c ls (own ++ low) (mids ++ low) (local_get y) rest)
        by None e t = absurd t
        by (Some u) e t = let z = own_local y u e in ((top_in (mids ++ low) ab (omega arith), z, h.0), h.1, h.2)

    set_fits : (y : ℕ) (rest : Stmts) → Takes (sets (slice_get c.locals y)) own mids → F (length ls) rest → F (length ls) (flat_plain n c ls (own ++ low) (mids ++ low) (local_set y) rest)
    set_fits y rest t h = by (slice_get (locals_of m f) y) refl t
      where
        by : (o : Option ValType) → slice_get (locals_of m f) y ≡ o → Takes (sets o) own mids → F (length ls) (flat_plain n c ls (own ++ low) (mids ++ low) (local_set y) rest)
        by None e t = absurd t
        by (Some u) e t = let z = own_local y u e in ((z, top_in (own ++ low) a (omega arith), h.0), h.1, h.2)

    tee_fits : (y : ℕ) (rest : Stmts) → Takes (tees (slice_get c.locals y)) own mids → F (length ls) rest → F (length ls) (flat_plain n c ls (own ++ low) (mids ++ low) (local_tee y) rest)
    tee_fits y rest t h = by (slice_get (locals_of m f) y) refl t
      where
        by : (o : Option ValType) → slice_get (locals_of m f) y ≡ o → Takes (tees o) own mids → F (length ls) (flat_plain n c ls (own ++ low) (mids ++ low) (local_tee y) rest)
        by None e t = absurd t
        by (Some u) e t = let z = own_local y u e in ((z, top_in (own ++ low) a (omega arith), h.0), h.1, h.2)

    -- an operand on top has a slot
    top_there : (t : ValType) (more : List ValType) → own ≡ t ∷ more → top n (own ++ low) < most
    top_there t more e = by (own ++ low) (ap (λ z. z ++ low) e) a
      where
        by : (ops : List ValType) → ops ≡ t ∷ (more ++ low) → AllIn n ops → top n ops < most
        by [] e a = cc
        by (u ∷ ops) e a = slot_in ops u a.0

    leap_fits : (j : ℕ) → j < length ls → F (length ls) (carry n ls (own ++ low) j (leaps j no_more))
    leap_fits j lt = carry_at ls j (own ++ low) (leaps j no_more) ha a ((lt, tt), tt, tt)

    br_fits : (j : ℕ) → Takes (jump_sig (slice_get ls j)) own mids → F (length ls) (carry n ls (own ++ low) j (leaps j no_more))
    br_fits j t = by (slice_get ls j) refl t
      where
        by : (o : Option (Option ValType)) → slice_get ls j ≡ o → Takes (jump_sig o) own mids → F (length ls) (carry n ls (own ++ low) j (leaps j no_more))
        by None e t = absurd t
        by (Some r) e t = leap_fits j (slice_get_within ls j r e)

    if_fits : (j : ℕ) (rest : Stmts) → Takes (may_jump (slice_get ls j)) own mids → F (length ls) rest
        → F (length ls) (carry n ls (drop 1 (own ++ low)) j (leaps_if (Local (top n (own ++ low))) j rest))
    if_fits j rest t h = by (slice_get ls j) refl t
      where
        by : (o : Option (Option ValType)) → slice_get ls j ≡ o → Takes (may_jump o) own mids → F (length ls) (carry n ls (drop 1 (own ++ low)) j (leaps_if (Local (top n (own ++ low))) j rest))
        by None e t = absurd t
        by (Some r) e t =
            carry_at ls j (drop 1 (own ++ low)) (leaps_if (Local (top n (own ++ low))) j rest) ha (drop_one (own ++ low) a)
            ((top_there I32 (listed r ++ t.0) t.1, slice_get_within ls j r e, h.0), h.1, h.2)

    table_fits : (ts : List ℕ) (j : ℕ) → Takes (jumps_sig ls ts (slice_get ls j)) own mids
        → F (length ls) (carry_all n ls (drop 1 (own ++ low)) ts (carry n ls (drop 1 (own ++ low)) j (leaps_by (Local (top n (own ++ low))) ts j no_more)))
    table_fits ts j t = by (slice_get ls j) refl t
      where
        by : (o : Option (Option ValType)) → slice_get ls j ≡ o → Takes (jumps_sig ls ts o) own mids
            → F (length ls) (carry_all n ls (drop 1 (own ++ low)) ts (carry n ls (drop 1 (own ++ low)) j (leaps_by (Local (top n (own ++ low))) ts j no_more)))
        by None e t = absurd t
        by (Some r) e t =
            let q = table_typed ls ts r own mids t in
            carry_each ls ts (drop 1 (own ++ low)) (carry n ls (drop 1 (own ++ low)) j (leaps_by (Local (top n (own ++ low))) ts j no_more)) ha (drop_one (own ++ low) a)
            (carry_at ls j (drop 1 (own ++ low)) (leaps_by (Local (top n (own ++ low))) ts j no_more) ha (drop_one (own ++ low) a)
            ((top_there I32 (listed r ++ q.1) q.2, all_at_labels ls r ts q.0, slice_get_within ls j r e, tt), tt, tt))

    -- the stack of a call
    stack_in : All (λ x. x < most) (reverse (slots n (own ++ low)))
    stack_in = all_reversed (λ x. x < most) (slots n (own ++ low)) (all_slots (own ++ low) a)

    stack_long : length (reverse (slots n (own ++ low))) ≡ length (own ++ low)
    stack_long = length-reverse (slots n (own ++ low)) ∙ slots_long n (own ++ low)

    call_fits : (y : ℕ) (rest : Stmts) → Takes (calls_sig (slice_get c.funcs y)) own mids → AllIn n (mids ++ low) → F (length ls) rest
        → F (length ls) (flat_plain n c ls (own ++ low) (mids ++ low) (call y) rest)
    call_fits y rest t ab h = by (slice_get (func_types m) y) refl t
      where
        by : (o : Option FuncType) → slice_get (func_types m) y ≡ o → Takes (calls_sig o) own mids → F (length ls) (flat_plain n c ls (own ++ low) (mids ++ low) (call y) rest)
        by None e t = absurd t
        by (Some u) e t =
            let eu : u ≡ func_type_at m y = sym (ap or_empty e) in
            let la = length-append own low in
            let lb = length-append mids low in
            let lo : length own ≡ length (reverse u.params) + length t.0 = ap length t.1 ∙ length-append (reverse u.params) t.0 in
            let lm : length mids ≡ length (reverse u.results) + length t.0 = ap length t.2 ∙ length-append (reverse u.results) t.0 in
            let rp : length (reverse u.params) ≡ length (func_type_at m y).params = length-reverse u.params ∙ ap (λ (q : FuncType). length q.params) eu in
            let rr : length (reverse u.results) ≡ length (func_type_at m y).results = length-reverse u.results ∙ ap (λ (q : FuncType). length q.results) eu in
            let few_ops = operands_few m f (own ++ low) a in
            let sl = stack_long in (
              (tt, stack_in, omega arith, omega arith, top_of_in (length (func_type_at m y).results) (mids ++ low) ab (omega arith), h.0),
              ((func_found m y u e).0, h.1),
              (tells_top n (length (func_type_at m y).results) (mids ++ low), h.2),
            )

    indirect_fits : (sort : ℕ) (rest : Stmts) → Takes (calls_at c.table (slice_get m.types sort)) own mids → AllIn n (mids ++ low) → F (length ls) rest
        → F (length ls) (flat_plain n c ls (own ++ low) (mids ++ low) (call_indirect sort) rest)
    indirect_fits sort rest t ab h = by c.table (slice_get m.types sort) refl t
      where
        by : (b : Bool) (o : Option FuncType) → slice_get m.types sort ≡ o → Takes (calls_at b o) own mids → F (length ls) (flat_plain n c ls (own ++ low) (mids ++ low) (call_indirect sort) rest)
        by b None e t = absurd t
        by false (Some u) e t = absurd t
        by true (Some u) e t =
            let eu : u ≡ type_at m sort = sym (ap or_empty e) in
            let la = length-append own low in
            let lb = length-append mids low in
            let lo : length own ≡ suc (length (reverse u.params) + length t.0) = ap length t.1 ∙ ap suc (length-append (reverse u.params) t.0) in
            let lm : length mids ≡ length (reverse u.results) + length t.0 = ap length t.2 ∙ length-append (reverse u.results) t.0 in
            let rp : length (reverse u.params) ≡ length (type_at m sort).params = length-reverse u.params ∙ ap (λ (q : FuncType). length q.params) eu in
            let rr : length (reverse u.results) ≡ length (type_at m sort).results = length-reverse u.results ∙ ap (λ (q : FuncType). length q.results) eu in
            let few_ops = operands_few m f (own ++ low) a in
            let sl = stack_long in (
              (tt, stack_in, omega arith, omega arith, top_of_in (length (type_at m sort).results) (mids ++ low) ab (omega arith), h.0),
              (tt, h.1),
              (tells_top n (length (type_at m sort).results) (mids ++ low), h.2),
            )

    on_fits : (i : Plain) (rest : Stmts) → is_last i ≡ false → Takes (sig c ls i) own mids → AllIn n (mids ++ low) → F (length ls) rest
        → F (length ls) (flat_plain n c ls (own ++ low) (mids ++ low) i rest)
    on_fits (basic b) rest z t ab h = basic_fits b rest t ab h
    on_fits (local_get y) rest z t ab h = get_fits y rest t ab h
    on_fits (local_set y) rest z t ab h = set_fits y rest t h
    on_fits (local_tee y) rest z t ab h = tee_fits y rest t h
    on_fits (br j) rest z t ab h = cc
    on_fits (br_if j) rest z t ab h = if_fits j rest t h
    on_fits (br_table ts j) rest z t ab h = cc
    on_fits return rest z t ab h = cc
    on_fits unreachable rest z t ab h = cc
    on_fits (call y) rest z t ab h = call_fits y rest t ab h
    on_fits (call_indirect sort) rest z t ab h = indirect_fits sort rest t ab h

    last_fits : (i : Plain) (behind : List ValType) (rest : Stmts) → 1 ≤ length ls → is_last i ≡ true → Takes (sig c ls i) own mids → F (length ls) (flat_plain n c ls (own ++ low) behind i rest)
    last_fits (br j) behind rest one z t = br_fits j t
    last_fits (br_table ts j) behind rest one z t = table_fits ts j t
    last_fits return behind rest one z t = leap_fits (length ls - 1) (omega arith)
    last_fits unreachable behind rest one z t = (tt, tt, tt)
    last_fits (basic b) behind rest one z t = cc
    last_fits (local_get y) behind rest one z t = cc
    last_fits (local_set y) behind rest one z t = cc
    last_fits (local_tee y) behind rest one z t = cc
    last_fits (br_if j) behind rest one z t = cc
    last_fits (call y) behind rest one z t = cc
    last_fits (call_indirect sort) behind rest one z t = cc

  -- ---- code

  -- what a branch to a label takes is there where the construct's result is
  shape_in : (s : Shape) (r : Option ValType) (ops : List ValType) → AllIn n (listed r ++ ops) → AllIn n (listed (label s r) ++ ops)
  shape_in a_block r ops a = a
  shape_in a_loop None ops a = a
  shape_in a_loop (Some t) ops a = a.1

  pub code_fits : (ls : List (Option ValType)) (code : Code) (outs own low : List ValType) → 1 ≤ length ls → Have n ls → Good n c ls code outs own low → F (length ls) (flat n c ls code (own ++ low))
  unfolding flat Good
  code_fits ls done outs own low one ha g = carry_at ls 0 (own ++ low) no_more ha g.0 (tt, tt, tt)
  code_fits ls (plain i rest) outs own low one ha g = by (is_last i) refl (λ gr. code_fits ls rest outs g.1 low one ha gr) g.3
    where
      by : (b : Bool) → is_last i ≡ b → (Good n c ls rest outs g.1 low → F (length ls) (flat n c ls rest (g.1 ++ low))) → GoesOn b (Good n c ls rest outs g.1 low)
          → F (length ls) (flat_plain n c ls (own ++ low) (after (sig c ls i) (own ++ low)) i (flat n c ls rest (after (sig c ls i) (own ++ low))))
      by true z ih gr = last_fits ls own g.1 low ha g.0 i (after (sig c ls i) (own ++ low)) (flat n c ls rest (after (sig c ls i) (own ++ low))) one z g.2
      by false z ih gr =
          subst (λ behind. F (length ls) (flat_plain n c ls (own ++ low) behind i (flat n c ls rest behind))) (sym (after_all c ls i own g.1 low (own ++ low) z g.2 refl))
          (on_fits ls own g.1 low ha g.0 i (flat n c ls rest (g.1 ++ low)) z g.2 (good_in n c ls rest outs g.1 low gr) (ih gr))
  code_fits ls (nest s r body rest) outs own low one ha g =
      let assoc : (listed r ++ own) ++ low ≡ listed r ++ (own ++ low) = append_assoc (listed r) own low in
      let inner = code_fits (label s r ∷ ls) body (listed r) [] (own ++ low) (omega arith) (g.1, ha) g.2 in
      let rest_it = subst (λ ts. F (length ls) (flat n c ls rest ts)) assoc (code_fits ls rest outs (listed r ++ own) low one ha g.3) in
      let behind_it = arrive_fits (length ls) (length ls) (label s r) (own ++ low) (flat n c ls rest (listed r ++ (own ++ low))) g.1
      (shape_in s r (own ++ low) (subst (AllIn n) assoc (good_in n c ls rest outs (listed r ++ own) low g.3))) rest_it in
      ((inner.0, behind_it.0), (inner.1, behind_it.1), (inner.2, behind_it.2))
  code_fits ls (branch r x y rest) outs own low one ha g =
      let below : List ValType = g.2 in
      let eo : drop 1 (own ++ low) ≡ below ++ low = ap (λ z. drop 1 (z ++ low)) g.3 in
      let assoc : (listed r ++ below) ++ low ≡ listed r ++ (below ++ low) = append_assoc (listed r) below low in
      let fa = code_fits (r ∷ ls) x (listed r) [] (below ++ low) (omega arith) (g.1, ha) g.4 in
      let fb = code_fits (r ∷ ls) y (listed r) [] (below ++ low) (omega arith) (g.1, ha) g.5 in
      let rest_it = subst (λ ts. F (length ls) (flat n c ls rest ts)) assoc (code_fits ls rest outs (listed r ++ below) low one ha g.6) in
      let behind_it = arrive_fits (length ls) (length ls) r (below ++ low) (flat n c ls rest (listed r ++ (below ++ low))) g.1
      (subst (AllIn n) assoc (good_in n c ls rest outs (listed r ++ below) low g.6)) rest_it in
      let cond = top_there ls own own low ha g.0 I32 below g.3 in
      subst (λ ds. F (length ls) (decides (Local (top n (own ++ low))) (flat n c (r ∷ ls) x ds) (flat n c (r ∷ ls) y ds) (arrive n (length ls) r ds (flat n c ls rest (listed r ++ ds))))) (sym eo)
      ((cond, fa.0, fb.0, behind_it.0), (fa.1, fb.1, behind_it.1), (fa.2, fb.2, behind_it.2))
