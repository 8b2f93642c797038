-- Flat code is typed at no operands.
use Rattle.std.proofs.Common.{◌⊎◌, inl, inr, ◌≡◌, ◌∙◌, ℕ, zero, suc, ◌+◌, ◌-◌, ◌≤◌, ◌<◌, List, [], ◌∷◌, ◌++◌, length, map, take, drop, reverse, Option, Some, None, Bool, true, false, ◌&&◌}
use Rattle.std.proofs.Common.{refl, sym, ap, subst, arith, length-append}
use Rattle.std.specs.Prelude.{slice_get, if◌then◌else◌, nat_lt, nat_le}
use Rattle.std.proofs.lemmas.Bool.{lt-ltb}
use Rattle.std.proofs.lemmas.Option.{slice_get_within}
use Rattle.std.proofs.lemmas.List.{length-map, length-reverse, map-append, append_assoc, append-nil, reverse-append}
use Rattle.std.proofs.Math.Seq.{take-append_seam}
use Rattle.wa_types.specs.declared.values.ValType.{ValType}
use Rattle.wa_types.specs.declared.values.ValType.TheVariants.{I32}
use Rattle.wa_types.specs.Encoding.{same_type}
use Rattle.wa_types.specs.Accesses.{AccessRow, load_row, store_row}
use Rattle.wa_types.specs.declared.rules.Rule.TheVariants.{UnknownLabel, StackTypes, Alignment, ConstantGlobal}
use Rattle.wa_types.specs.Syntax.{Basic, nop, drop as a_drop, select, const, num, global_get, global_set, load, store, memory_size, memory_grow, memory_copy, memory_fill, Plain, basic, local_get, local_set}
use Rattle.wa_types.specs.Syntax.{local_tee, br, br_if, br_table, return, unreachable, call, call_indirect, a_block, a_loop, Code, done, plain, nest, branch, Func, Module, FuncType}
use Rattle.wa_types.specs.Pruned.{is_last}
use Rattle.wa_types.specs.Typing.{Around, GlobalType, listed, sig, basic_sig, Types, Typed, Takes, Sig, moves, leaves, drops, selects, lacks, late as late_sig, jump as jump_sig, may_jump}
use Rattle.wa_types.specs.Typing.{jumps as jumps_sig, calls as calls_sig, calls_at, gets, sets, tees, gets_global, sets_global, loads, stores, with_memory, all_there, all_alike, agrees_with}
use Rattle.wa_types.specs.Points.{after}
use Rattle.wa_types.specs.Modules.{or_empty, func_type_at, type_at, locals_of, around}
use Rattle.wa_types.specs.Frames.{Pair, same_pair, SlotPairs, ResultPairs}
use Rattle.wa_model.specs.declared.flat.Operand.TheVariants.{Local}
use Rattle.wa_model.specs.Store.{takes, gives}
use Rattle.run_theory.specs.Flat.{Stmts, no_more, copies, calls, leaps, leaps_if, leaps_by, decides, halts, followed_by, all_got, set_to, code_of, result_got, body_of}
use Rattle.run_theory.proofs.FittingNames.{same_true}
use Rattle.flat_laws.specs.Flatten.{Names, names, past, place, slot, slots, result_local, top, top_of, carry_to, carry, carry_all, arrive, flat, flat_plain, result_of, flattened}
use Rattle.flat_laws.specs.Placed.{AllIn, HasResult, GoesOn, Good}
use Rattle.flat_laws.specs.FlatModule.{extra_types}
use Rattle.run_theory.specs.FlatTyped.{StmtsTyped}
use Rattle.flat_laws.proofs.OperandTypes.{after_all, good_in}
use Rattle.flat_laws.proofs.GotLemmas.{all_got_on, args_got}
use Rattle.flat_laws.proofs.TableLabels.{AllLabels, table_typed}

-- ---- types of locals

get_right : (xs ys : List ValType) (k : ℕ) → slice_get (xs ++ ys) (length xs + k) ≡ slice_get ys k
get_right [] ys k = let z : 0 + k ≡ k = omega arith in ap (slice_get ys) z
get_right (x ∷ xs) ys k = let z : length (x ∷ xs) + k ≡ suc (length xs + k) = omega arith in ap (slice_get (x ∷ (xs ++ ys))) z ∙ get_right xs ys k

second : (a b : Bool) → (a && b) ≡ true → b ≡ true
second true b e = e
second false b e = cc

place_typed : (h : ℕ) (t : ValType) (ps : List Pair) (more : List ValType) → place h t ps < length ps → slice_get (map (λ (p : Pair). p.ty) ps ++ more) (place h t ps) ≡ Some t
place_typed h t [] more lt = absurd (omega arith)
place_typed h t (p ∷ ps) more lt = by (same_pair h t p) refl (λ z. place_typed h t ps more z) lt
  where
    by : (b : Bool) → same_pair h t p ≡ b → (place h t ps < length ps → slice_get (map (λ (p : Pair). p.ty) ps ++ more) (place h t ps) ≡ Some t) → past b (place h t ps) < suc (length ps)
        → slice_get (p.ty ∷ (map (λ (p : Pair). p.ty) ps ++ more)) (past b (place h t ps)) ≡ Some t
    by true e ih lt = ap (λ z. Some z) (sym (same_true t p.ty (second _ (same_type t p.ty) e)))
    by false e ih lt = ih (omega arith)

abbrev Sized : Sig → (k l : ℕ) → Type 0
Sized (moves ps rs) k l = (length ps ≡ k) × (length rs ≡ l)
Sized (leaves ps) k l = ⊥
Sized drops k l = (k ≡ 1) × (l ≡ 0)
Sized selects k l = (k ≡ 3) × (l ≡ 1)
Sized (lacks r) k l = Unit {0}
Sized (late_sig r ps rs) k l = Unit {0}

sized_if : (b : Bool) (g h : Sig) (k l : ℕ) → Sized g k l → Sized h k l → Sized (if b then g else h) k l
sized_if true g h k l x y = x
sized_if false g h k l x y = y

sized_got : (o : Option GlobalType) → Sized (gets_global o) 0 1
sized_got None = tt
sized_got (Some g) = (refl, refl)

sized_set : (o : Option GlobalType) → Sized (sets_global o) 1 0
sized_set None = tt
sized_set (Some g) = sized_if g.mutable (moves (g.ty ∷ []) []) (late_sig ConstantGlobal (g.ty ∷ []) []) 1 0 (refl, refl) tt

sized_load : (b : Bool) (align : ℕ) (o : Option AccessRow) → Sized (loads b align o) 1 1
sized_load false align o = tt
sized_load true align None = tt
sized_load true align (Some row) = sized_if (nat_le align row.natural) (moves (I32 ∷ []) (row.ty ∷ [])) (late_sig Alignment (I32 ∷ []) (row.ty ∷ [])) 1 1 (refl, refl) tt

sized_store : (b : Bool) (align : ℕ) (o : Option AccessRow) → Sized (stores b align o) 2 0
sized_store false align o = tt
sized_store true align None = tt
sized_store true align (Some row) = sized_if (nat_le align row.natural) (moves (row.ty ∷ I32 ∷ []) []) (late_sig Alignment (row.ty ∷ I32 ∷ []) []) 2 0 (refl, refl) tt

sized_memory : (b : Bool) (ps rs : List ValType) → Sized (with_memory b ps rs) (length ps) (length rs)
sized_memory false ps rs = tt
sized_memory true ps rs = (refl, refl)

pub sized : (c : Around) (b : Basic) → Sized (basic_sig c b) (takes b) (gives b)
sized c nop = (refl, refl)
sized c a_drop = (refl, refl)
sized c select = (refl, refl)
sized c (const v) = (refl, refl)
sized c (num op) = (refl, refl)
sized c (global_get x) = sized_got (slice_get c.globals x)
sized c (global_set x) = sized_set (slice_get c.globals x)
sized c (load op align offset) = sized_load c.memory align (load_row op)
sized c (store op align offset) = sized_store c.memory align (store_row op)
sized c memory_size = sized_memory c.memory [] (I32 ∷ [])
sized c memory_grow = sized_memory c.memory (I32 ∷ []) (I32 ∷ [])
sized c memory_copy = sized_memory c.memory (I32 ∷ I32 ∷ I32 ∷ []) []
sized c memory_fill = sized_memory c.memory (I32 ∷ I32 ∷ I32 ∷ []) []

-- what an instruction asks for, without what lies below
pub record Exactly (g : Sig) (k l : ℕ) (own mids : List ValType) : Type 0 where
  pub ins : List ValType
  pub outs : List ValType
  pub below : List ValType
  pub takes_it : Takes g ins outs
  pub own_is : own ≡ ins ++ below
  pub mids_is : mids ≡ outs ++ below
  pub many : length ins ≡ k
  pub few : length outs ≡ l

pub exactly : (g : Sig) (k l : ℕ) (own mids : List ValType) → Sized g k l → Takes g own mids → Exactly g k l own mids
exactly (moves ps rs) k l own mids z h = record { ins = ps; outs = rs; below = h.0; takes_it = ([], sym (append-nil ps), sym (append-nil rs)); own_is = h.1; mids_is = h.2; many = z.0; few = z.1 }
exactly (leaves ps) k l own mids z h = absurd z
exactly drops k l own mids z h = record { ins = h.0 ∷ []; outs = []; below = mids; takes_it = (h.0, refl); own_is = h.1; mids_is = refl; many = sym z.0; few = sym z.1 }
exactly selects k l own mids z h = record { ins = I32 ∷ h.0 ∷ h.0 ∷ []; outs = h.0 ∷ []; below = h.1; takes_it = (h.0, [], refl, refl); own_is = h.2; mids_is = h.3; many = sym z.0; few = sym z.1 }
exactly (lacks r) k l own mids z h = absurd h
exactly (late_sig r ps rs) k l own mids z h = absurd h

-- ---- labels

abbrev pub none_of : List (Option ValType) → List (Option ValType)
none_of [] = []
none_of (r ∷ lt) = None ∷ none_of lt

none_there : (lt more : List (Option ValType)) (j : ℕ) → j < length lt → slice_get (none_of lt ++ more) j ≡ Some None
none_there [] more j lt = absurd (omega arith)
none_there (r ∷ ls) more zero lt = refl
none_there (r ∷ ls) more (suc j) lt = none_there ls more j (omega arith)

none_long : (lt more : List (Option ValType)) → length (none_of lt ++ more) ≡ length lt + length more
none_long [] more = let z : length more ≡ 0 + length more = omega arith in z
none_long (r ∷ lt) more = let ih = none_long lt more in let z : suc (length lt + length more) ≡ length (r ∷ lt) + length more = omega arith in ap suc ih ∙ z

-- each label has the local of its result
abbrev pub Have : Names → List (Option ValType) → Type 0
Have n [] = Unit {0}
Have n (r ∷ lt) = HasResult n (length lt) r × Have n lt

pub have_one : (n : Names) (lt : List (Option ValType)) (j : ℕ) (r : Option ValType) → Have n lt → slice_get lt j ≡ Some r → HasResult n (length lt - suc j) r
have_one n [] j r h e = cc
have_one n (q ∷ lt) zero r h e = let z : q ≡ r = cc in let k : length lt ≡ length (q ∷ lt) - 1 = omega arith in subst (λ d. HasResult n d r) k (subst (HasResult n (length lt)) z h.0)
have_one n (q ∷ lt) (suc j) r h e = let k : length lt - suc j ≡ length (q ∷ lt) - suc (suc j) = omega arith in subst (λ d. HasResult n d r) k (have_one n lt j r h.1 e)

module _ (m : Module) (f : Func) where
  abbrev c : Around
  c = around m f

  abbrev n : Names
  n = names m f

  -- the context of the flat body
  abbrev pub wide : Around
  wide = record { types = c.types; funcs = c.funcs; table = c.table; memory = c.memory; globals = c.globals; locals = c.locals ++ extra_types m f; result = c.result }

  slot_typed : (h : ℕ) (t : ValType) → place h t (SlotPairs m f) < length (SlotPairs m f) → slice_get wide.locals (slot n h t) ≡ Some t
  slot_typed h t lt = get_right (locals_of m f) (extra_types m f) (place h t (SlotPairs m f)) ∙ place_typed h t (SlotPairs m f) (map (λ (p : Pair). p.ty) (ResultPairs m f)) lt

  result_typed : (d : ℕ) (t : ValType) → HasResult n d (Some t) → slice_get wide.locals (result_local n d t) ≡ Some t
  result_typed d t lt =
      get_right (locals_of m f) (extra_types m f) (length (SlotPairs m f) + place d t (ResultPairs m f))
      ∙ ap (λ k. slice_get (extra_types m f) (k + place d t (ResultPairs m f))) (sym (length-map (SlotPairs m f) (λ (p : Pair). p.ty)))
      ∙ get_right (map (λ (p : Pair). p.ty) (SlotPairs m f)) (map (λ (p : Pair). p.ty) (ResultPairs m f)) (place d t (ResultPairs m f))
      ∙ ap (λ z. slice_get z (place d t (ResultPairs m f))) (sym (append-nil (map (λ (p : Pair). p.ty) (ResultPairs m f)))) ∙ place_typed d t (ResultPairs m f) [] lt

  module _ (fs : List (Option ValType)) where
    get_types : (y : ℕ) (t : ValType) (code : Code) (outs below : List ValType) → slice_get wide.locals y ≡ Some t → Types wide fs code outs (t ∷ below)
        → Types wide fs (plain (local_get y) code) outs below
    unfolding Types
    get_types y t code outs below e h = (t ∷ below, subst (λ o. Takes (gets o) below (t ∷ below)) (sym e) (below, refl, refl), h)

    set_types : (y : ℕ) (t : ValType) (code : Code) (outs below : List ValType) → slice_get wide.locals y ≡ Some t → Types wide fs code outs below
        → Types wide fs (plain (local_set y) code) outs (t ∷ below)
    unfolding Types
    set_types y t code outs below e h = (below, subst (λ o. Takes (sets o) (t ∷ below) below) (sym e) (below, refl, refl), h)

    -- slots are read
    push_types : (ts below : List ValType) (k : ℕ) (code : Code) (outs : List ValType) → AllIn n ts → k ≤ length ts → Types wide fs code outs (take k ts ++ below)
        → Types wide fs (all_got (map Local (reverse (take k (slots n ts)))) code) outs below
    push_types ts below zero code outs a le h = h
    push_types [] below (suc k) code outs a le h = absurd (omega arith)
    push_types (t ∷ ts) below (suc k) code outs a le h =
        let y : ℕ = slot n (length ts) t in
        let xs : List ℕ = take k (slots n ts) in
        let e : all_got (map Local (reverse (y ∷ xs))) code ≡ all_got (map Local (reverse xs)) (plain (local_get y) code) =
        ap (λ ys. all_got (map Local ys) code) (reverse-append (y ∷ []) xs) ∙ ap (λ ys. all_got ys code) (map-append Local (reverse xs) (y ∷ []))
        ∙ all_got_on (map Local (reverse xs)) (Local y ∷ []) code in
        subst (λ z. Types wide fs z outs below) (sym e) (push_types ts below k (plain (local_get y) code) outs a.1 (omega arith)
        (get_types y t code outs (take k ts ++ below) (slot_typed (length ts) t a.0) h))

    -- a result is set
    results_set : (rs more behind : List ValType) (code : Code) → length rs ≤ 1 → behind ≡ rs ++ more → AllIn n behind → Types wide fs code [] []
        → Types wide fs (set_to (top_of n (length rs) behind) code) [] rs
    results_set [] more behind code le e a h = h
    results_set (t ∷ u ∷ rs) more behind code le e a h = absurd (omega arith)
    results_set (t ∷ []) more behind code le e a h =
        subst (λ ts. Types wide fs (plain (local_set (top n ts)) code) [] (t ∷ [])) (sym e) (set_types (slot n (length more) t) t code [] [] (slot_typed (length more) t (subst (AllIn n) e a).0) h)

    copy_types : (to from : ℕ) (t : ValType) (rest : Stmts) → slice_get wide.locals to ≡ Some t → slice_get wide.locals from ≡ Some t → Types wide fs (code_of rest) [] []
        → Types wide fs (code_of (copies to (Local from) rest)) [] []
    unfolding code_of
    copy_types to from t rest et ef h = get_types from t (plain (local_set to) (code_of rest)) [] [] ef (set_types to t (code_of rest) [] [] et h)

    carry_types : (d : ℕ) (r : Option ValType) (ops more : List ValType) (rest : Stmts) → ops ≡ listed r ++ more → AllIn n ops → HasResult n d r → Types wide fs (code_of rest) [] []
        → Types wide fs (code_of (carry_to n d (Some r) ops rest)) [] []
    carry_types d None ops more rest e a has h = h
    carry_types d (Some t) ops more rest e a has h =
        subst (λ ts. Types wide fs (code_of (copies (result_local n d t) (Local (top n ts)) rest)) [] []) (sym e)
        (copy_types (result_local n d t) (slot n (length more) t) t rest (result_typed d t has) (slot_typed (length more) t (subst (AllIn n) e a).0) h)

    arrive_types : (d : ℕ) (r : Option ValType) (ops : List ValType) (rest : Stmts) → AllIn n (listed r ++ ops) → HasResult n d r → Types wide fs (code_of rest) [] []
        → Types wide fs (code_of (arrive n d r ops rest)) [] []
    arrive_types d None ops rest a has h = h
    arrive_types d (Some t) ops rest a has h = copy_types (slot n (length ops) t) (result_local n d t) t rest (slot_typed (length ops) t a.0) (result_typed d t has) h

  result_types : (r : Option ValType) → c.result ≡ r → HasResult n 0 r → Types wide (c.result ∷ []) (result_got (result_of n r)) (listed r) []
  unfolding Types
  result_types None e h = refl
  result_types (Some t) e h = get_types (c.result ∷ []) (result_local n 0 t) t done (t ∷ []) [] (result_typed 0 t h) refl

  -- ---- statements, under any labels around the function's own block

  module _ (out : List (Option ValType)) where
    abbrev fl : List (Option ValType) → List (Option ValType)
    fl lt = none_of lt ++ out

    abbrev T : List (Option ValType) → Stmts → Type 0
    T lt k = Types wide (fl lt) (code_of k) [] []

    leap_types : (lt : List (Option ValType)) (j : ℕ) → j < length lt → T lt (leaps j no_more)
    unfolding code_of Types
    leap_types lt j le = ([], subst (λ o. Takes (jump_sig o) [] []) (sym (none_there lt out j le)) ([], refl), refl)

    get_left : (xs ys : List ValType) (y : ℕ) (t : ValType) → slice_get xs y ≡ Some t → slice_get (xs ++ ys) y ≡ Some t
    get_left [] ys y t e = cc
    get_left (x ∷ xs) ys zero t e = e
    get_left (x ∷ xs) ys (suc y) t e = get_left xs ys y t e

    -- a branch is carried and made
    carry_at : (lt : List (Option ValType)) (j : ℕ) (r : Option ValType) (ops more : List ValType) (rest : Stmts) → Have n lt → slice_get lt j ≡ Some r → ops ≡ listed r ++ more → AllIn n ops
        → T lt rest → T lt (carry n lt ops j rest)
    carry_at lt j r ops more rest ha er e a h =
        subst (λ o. T lt (carry_to n (length lt - suc j) o ops rest)) (sym er) (carry_types (fl lt) (length lt - suc j) r ops more rest e a (have_one n lt j r ha er) h)

    carry_each : (lt : List (Option ValType)) (js : List ℕ) (r : Option ValType) (ops more : List ValType) (rest : Stmts) → Have n lt → AllLabels lt r js → ops ≡ listed r ++ more
        → AllIn n ops → T lt rest → T lt (carry_all n lt ops js rest)
    carry_each lt [] r ops more rest ha al e a h = h
    carry_each lt (j ∷ js) r ops more rest ha al e a h = carry_at lt j r ops more (carry_all n lt ops js rest) ha al.0 e a (carry_each lt js r ops more rest ha al.1 e a h)

    and_both : (a b : Bool) → a ≡ true → b ≡ true → (a && b) ≡ true
    and_both true b e f = f
    and_both false b e f = cc

    all_flat : (lt : List (Option ValType)) (r : Option ValType) (js : List ℕ) → AllLabels lt r js → (all_there (fl lt) js ≡ true) × (all_alike (fl lt) None js ≡ true)
    all_flat lt r [] al = (refl, refl)
    all_flat lt r (j ∷ js) al =
        let ih = all_flat lt r js al.1 in
        let le : j < length lt = slice_get_within lt j r al.0 in
        let long = none_long lt out in (
          and_both (nat_lt j (length (fl lt))) (all_there (fl lt) js) (lt-ltb j (length (fl lt)) (omega arith)) ih.0,
          and_both (agrees_with None (slice_get (fl lt) j)) (all_alike (fl lt) None js) (ap (agrees_with None) (none_there lt out j le)) ih.1,
        )

    -- the topmost operand, an i32
    cond_types : (lt : List (Option ValType)) (ops more : List ValType) (code : Code) → ops ≡ I32 ∷ more → AllIn n ops → Types wide (fl lt) code [] (I32 ∷ [])
        → Types wide (fl lt) (plain (local_get (top n ops)) code) [] []
    cond_types lt ops more code e a h = subst (λ ts. Types wide (fl lt) (plain (local_get (top n ts)) code) [] []) (sym e)
        (get_types (fl lt) (slot n (length more) I32) I32 code [] [] (slot_typed (length more) I32 (subst (AllIn n) e a).0) h)

    module _ (lt : List (Option ValType)) (own low ops : List ValType) (ha : Have n lt) (e : ops ≡ own ++ low) (a : AllIn n ops) where
      basic_types : (b : Basic) (mids behind : List ValType) (rest : Stmts) → Takes (basic_sig c b) own mids → behind ≡ mids ++ low → AllIn n behind → T lt rest
          → T lt (flat_plain n c lt ops behind (basic b) rest)
      unfolding code_of followed_by Types
      basic_types b mids behind rest t eb ab h =
          let ex = exactly (basic_sig c b) (takes b) (gives b) own mids (sized c b) t in
          let eo : ops ≡ ex.ins ++ (ex.below ++ low) = e ∙ ap (λ z. z ++ low) ex.own_is ∙ append_assoc ex.ins ex.below low in
          let em : behind ≡ ex.outs ++ (ex.below ++ low) = eb ∙ ap (λ z. z ++ low) ex.mids_is ∙ append_assoc ex.outs ex.below low in
          let tk : take (takes b) ops ≡ ex.ins = ap (λ k. take k ops) (sym ex.many) ∙ ap (take (length ex.ins)) eo ∙ take-append_seam ex.ins (ex.below ++ low) in
          let lo : length ops ≡ length ex.ins + length (ex.below ++ low) = ap length eo ∙ length-append ex.ins (ex.below ++ low) in
          let mn = ex.many in let fw = ex.few in
          let one = gives_one b in
          let set_it : Types wide (fl lt) (set_to (top_of n (gives b) behind) (code_of rest)) [] ex.outs =
          subst (λ k. Types wide (fl lt) (set_to (top_of n k behind) (code_of rest)) [] ex.outs) fw
          (results_set (fl lt) ex.outs (ex.below ++ low) behind (code_of rest) (omega arith) em ab h) in
          push_types (fl lt) ops [] (takes b) (plain (basic b) (set_to (top_of n (gives b) behind) (code_of rest))) [] a (omega arith)
          (subst (λ ts. Types wide (fl lt) (plain (basic b) (set_to (top_of n (gives b) behind) (code_of rest))) [] ts) (sym (append-nil (take (takes b) ops) ∙ tk)) (ex.outs, ex.takes_it, set_it))
        where
          gives_one : (b : Basic) → gives b ≤ 1
          gives_one b = grind arith

      get_plain : (y : ℕ) (mids behind : List ValType) (rest : Stmts) → Takes (gets (slice_get c.locals y)) own mids → behind ≡ mids ++ low → AllIn n behind → T lt rest
          → T lt (copies (top n behind) (Local y) rest)
      get_plain y mids behind rest t eb ab h = by (slice_get c.locals y) refl t
        where
          by : (o : Option ValType) → slice_get (around m f).locals y ≡ o → Takes (gets o) own mids
              → Types wide (none_of lt ++ out) (code_of (copies (top (names m f) behind) (Local y) rest)) [] []
          by None ey t = absurd t
          by (Some u) ey t =
              let eb2 : behind ≡ u ∷ (t.0 ++ low) = eb ∙ ap (λ z. z ++ low) t.2 in
              subst (λ ts. Types wide (none_of lt ++ out) (code_of (copies (top (names m f) ts) (Local y) rest)) [] []) (sym eb2)
              (copy_types (none_of lt ++ out) (slot (names m f) (length (t.0 ++ low)) u) y u rest
              (slot_typed (length (t.0 ++ low)) u (subst (AllIn (names m f)) eb2 ab).0) (get_left (locals_of m f) (extra_types m f) y u ey) h)

      put_plain : (y : ℕ) (u : ValType) (more : List ValType) (rest : Stmts) → slice_get c.locals y ≡ Some u → ops ≡ u ∷ more → T lt rest → T lt (copies y (Local (top n ops)) rest)
      put_plain y u more rest ey eo h =
          subst (λ ts. T lt (copies y (Local (top n ts)) rest)) (sym eo) (copy_types (fl lt) y (slot n (length more) u) u rest (get_left (locals_of m f) (extra_types m f) y u ey)
          (slot_typed (length more) u (subst (AllIn n) eo a).0) h)

      set_plain : (y : ℕ) (mids : List ValType) (rest : Stmts) → Takes (sets (slice_get c.locals y)) own mids → T lt rest → T lt (copies y (Local (top n ops)) rest)
      set_plain y mids rest t h = by (slice_get c.locals y) refl t
        where
          by : (o : Option ValType) → slice_get (around m f).locals y ≡ o → Takes (sets o) own mids
              → Types wide (none_of lt ++ out) (code_of (copies y (Local (top (names m f) ops)) rest)) [] []
          by None ey t = absurd t
          by (Some u) ey t = put_plain y u (t.0 ++ low) rest ey (e ∙ ap (λ z. z ++ low) t.1) h

      tee_plain : (y : ℕ) (mids : List ValType) (rest : Stmts) → Takes (tees (slice_get c.locals y)) own mids → T lt rest → T lt (copies y (Local (top n ops)) rest)
      tee_plain y mids rest t h = by (slice_get c.locals y) refl t
        where
          by : (o : Option ValType) → slice_get (around m f).locals y ≡ o → Takes (tees o) own mids
              → Types wide (none_of lt ++ out) (code_of (copies y (Local (top (names m f) ops)) rest)) [] []
          by None ey t = absurd t
          by (Some u) ey t = put_plain y u (t.0 ++ low) rest ey (e ∙ ap (λ z. z ++ low) t.1) h

      jump_plain : (j : ℕ) (r : Option ValType) (more : List ValType) → slice_get lt j ≡ Some r → ops ≡ listed r ++ more → T lt (carry n lt ops j (leaps j no_more))
      jump_plain j r more er eo = carry_at lt j r ops more (leaps j no_more) ha er eo a (leap_types lt j (slice_get_within lt j r er))

      br_plain : (j : ℕ) (mids : List ValType) → Takes (jump_sig (slice_get lt j)) own mids → T lt (carry n lt ops j (leaps j no_more))
      br_plain j mids t = by (slice_get lt j) refl t
        where
          by : (o : Option (Option ValType)) → slice_get lt j ≡ o → Takes (jump_sig o) own mids
              → Types wide (none_of lt ++ out) (code_of (carry (names m f) lt ops j (leaps j no_more))) [] []
          by None er t = absurd t
          by (Some r) er t = jump_plain j r (t.0 ++ low) er (e ∙ ap (λ z. z ++ low) t.1 ∙ append_assoc (listed r) t.0 low)

      if_plain : (j : ℕ) (mids : List ValType) (rest : Stmts) → Takes (may_jump (slice_get lt j)) own mids → T lt rest → T lt (carry n lt (drop 1 ops) j (leaps_if (Local (top n ops)) j rest))
      unfolding code_of Types
      if_plain j mids rest t h = by (slice_get lt j) refl t
        where
          by : (o : Option (Option ValType)) → slice_get lt j ≡ o → Takes (may_jump o) own mids
              → Types wide (none_of lt ++ out) (code_of (carry (names m f) lt (drop 1 ops) j (leaps_if (Local (top (names m f) ops)) j rest))) [] []
          by None er t = absurd t
          by (Some r) er t =
              let eo : ops ≡ I32 ∷ (listed r ++ (t.0 ++ low)) = e ∙ ap (λ z. z ++ low) t.1 ∙ ap (λ z. I32 ∷ z) (append_assoc (listed r) t.0 low) in
              let leap : Types wide (none_of lt ++ out) (plain (br_if j) (code_of rest)) [] (I32 ∷ []) =
              ([], subst (λ o. Takes (may_jump o) (I32 ∷ []) []) (sym (none_there lt out j (slice_get_within lt j r er))) ([], refl, refl), h) in
              carry_at lt j r (drop 1 ops) (t.0 ++ low) (leaps_if (Local (top (names m f) ops)) j rest) ha er (ap (drop 1) eo)
              (subst (AllIn (names m f)) (sym (ap (drop 1) eo)) (subst (AllIn (names m f)) eo a).1)
              (cond_types lt ops (listed r ++ (t.0 ++ low)) (plain (br_if j) (code_of rest)) eo a leap)

      table_plain : (ts : List ℕ) (j : ℕ) (mids : List ValType) → Takes (jumps_sig lt ts (slice_get lt j)) own mids
          → T lt (carry_all n lt (drop 1 ops) ts (carry n lt (drop 1 ops) j (leaps_by (Local (top n ops)) ts j no_more)))
      unfolding code_of Types
      table_plain ts j mids t = by (slice_get lt j) refl t
        where
          by : (o : Option (Option ValType)) → slice_get lt j ≡ o → Takes (jumps_sig lt ts o) own mids
              → Types wide (none_of lt ++ out) (code_of (carry_all (names m f) lt (drop 1 ops) ts
              (carry (names m f) lt (drop 1 ops) j (leaps_by (Local (top (names m f) ops)) ts j no_more)))) [] []
          by None er t = absurd t
          by (Some r) er t =
              let tt2 = table_typed lt ts r own mids t in
              let eo : ops ≡ I32 ∷ (listed r ++ (tt2.1 ++ low)) = e ∙ ap (λ z. z ++ low) tt2.2 ∙ ap (λ z. I32 ∷ z) (append_assoc (listed r) tt2.1 low) in
              let al = all_flat lt r ts tt2.0 in
              let leap : Types wide (none_of lt ++ out) (plain (br_table ts j) done) [] (I32 ∷ []) = (
                [],
                subst (λ o. Takes (jumps_sig (none_of lt ++ out) ts o) (I32 ∷ []) []) (sym (none_there lt out j (slice_get_within lt j r er)))
                    (subst (λ (b : Bool). Takes (if b then (if all_alike (none_of lt ++ out) None ts then leaves (I32 ∷ []) else lacks StackTypes)
                    else lacks UnknownLabel) (I32 ∷ []) []) (sym al.0)
                    (subst (λ (b : Bool). Takes (if b then leaves (I32 ∷ []) else lacks StackTypes) (I32 ∷ []) []) (sym al.1) ([], refl))),
                refl,
              ) in
              let a1 : AllIn (names m f) (drop 1 ops) = subst (AllIn (names m f)) (sym (ap (drop 1) eo)) (subst (AllIn (names m f)) eo a).1 in
              carry_each lt ts r (drop 1 ops) (tt2.1 ++ low) (carry (names m f) lt (drop 1 ops) j (leaps_by (Local (top (names m f) ops)) ts j no_more)) ha tt2.0 (ap (drop 1) eo) a1
              (carry_at lt j r (drop 1 ops) (tt2.1 ++ low) (leaps_by (Local (top (names m f) ops)) ts j no_more) ha er (ap (drop 1) eo) a1
              (cond_types lt ops (listed r ++ (tt2.1 ++ low)) (plain (br_table ts j) done) eo a leap))

      halt_plain : T lt (halts no_more)
      unfolding code_of Types
      halt_plain = ([], ([], refl), refl)

      slots_long : (ts : List ValType) → length (slots n ts) ≡ length ts
      slots_long [] = refl
      slots_long (t ∷ ts) = ap suc (slots_long ts)

      calls_plain : (i : Plain) (ps rs more more2 behind : List ValType) (rest : Stmts) → ops ≡ ps ++ more → behind ≡ rs ++ more2 → AllIn n behind → length rs ≤ 1
          → Takes (sig wide (fl lt) i) ps rs → T lt rest
          → T lt (calls (plain i done) (reverse (slots n ops)) (length ps) (top_of n (length rs) behind) rest)
      unfolding code_of followed_by Types
      calls_plain i ps rs more more2 behind rest eo eb ab le t h =
          let k : ℕ = length ps in
          let code : Code = plain i (set_to (top_of n (length rs) behind) (code_of rest)) in
          let lo : length ops ≡ length ps + length more = ap length eo ∙ length-append ps more in
          let ls : length (slots n ops) ≡ length ops = slots_long ops in
          let tk : take k ops ≡ ps = ap (take k) eo ∙ take-append_seam ps more in
          subst (λ z. Types wide (fl lt) z [] []) (sym (args_got k (slots n ops) code (omega arith)))
          (push_types (fl lt) ops [] k code [] a (omega arith) (subst (λ ts. Types wide (fl lt) code [] ts) (sym (append-nil (take k ops) ∙ tk))
          (rs, t, results_set (fl lt) rs more2 behind (code_of rest) le eb ab h)))

      call_plain : (y : ℕ) (mids behind : List ValType) (rest : Stmts) → length (or_empty (slice_get c.funcs y)).results ≤ 1 → Takes (calls_sig (slice_get c.funcs y)) own mids
          → behind ≡ mids ++ low → AllIn n behind → T lt rest
          → T lt (calls (plain (call y) done) (reverse (slots n ops)) (length (or_empty (slice_get c.funcs y)).params) (top_of n (length (or_empty (slice_get c.funcs y)).results) behind) rest)
      call_plain y mids behind rest small t eb ab h = by (slice_get c.funcs y) refl small t
        where
          by : (o : Option FuncType) → slice_get (around m f).funcs y ≡ o → length (or_empty o).results ≤ 1 → Takes (calls_sig o) own mids
              → Types wide (none_of lt ++ out) (code_of (calls (plain (call y) done) (reverse (slots (names m f) ops)) (length (or_empty o).params)
              (top_of (names m f) (length (or_empty o).results) behind) rest)) [] []
          by None ef small t = absurd t
          by (Some u) ef small t =
              let lr = length-reverse u.results in
              subst (λ k. Types wide (none_of lt ++ out) (code_of
              (calls (plain (call y) done) (reverse (slots (names m f) ops)) k (top_of (names m f) (length u.results) behind) rest)) [] []) (length-reverse u.params)
              (subst (λ k. Types wide (none_of lt ++ out) (code_of
              (calls (plain (call y) done) (reverse (slots (names m f) ops)) (length (reverse u.params)) (top_of (names m f) k behind) rest)) [] []) lr
              (calls_plain (call y) (reverse u.params) (reverse u.results) (t.0 ++ low) (t.0 ++ low) behind rest (e ∙ ap (λ z. z ++ low) t.1 ∙ append_assoc (reverse u.params) t.0 low) (eb
              ∙ ap (λ z. z ++ low) t.2 ∙ append_assoc (reverse u.results) t.0 low) ab (omega arith)
              (subst (λ o. Takes (calls_sig o) (reverse u.params) (reverse u.results)) (sym ef) ([], sym (append-nil (reverse u.params)), sym (append-nil (reverse u.results)))) h))

      indirect_plain : (y : ℕ) (mids behind : List ValType) (rest : Stmts) → length (or_empty (slice_get c.types y)).results ≤ 1 → Takes (calls_at c.table (slice_get c.types y)) own mids
          → behind ≡ mids ++ low → AllIn n behind → T lt rest
          → T lt (calls (plain (call_indirect y) done) (reverse (slots n ops)) (suc (length (or_empty (slice_get c.types y)).params))
          (top_of n (length (or_empty (slice_get c.types y)).results) behind) rest)
      indirect_plain y mids behind rest small t eb ab h = by c.table refl (slice_get c.types y) refl small t
        where
          by : (b : Bool) → (around m f).table ≡ b → (o : Option FuncType) → slice_get (around m f).types y ≡ o → length (or_empty o).results ≤ 1 → Takes (calls_at b o) own mids
              → Types wide (none_of lt ++ out) (code_of (calls (plain (call_indirect y) done) (reverse (slots (names m f) ops)) (suc (length (or_empty o).params))
              (top_of (names m f) (length (or_empty o).results) behind) rest)) [] []
          by b et None ef small t = absurd t
          by false et (Some u) ef small t = absurd t
          by true et (Some u) ef small t =
              let lr = length-reverse u.results in
              subst (λ k. Types wide (none_of lt ++ out) (code_of
              (calls (plain (call_indirect y) done) (reverse (slots (names m f) ops)) (suc k) (top_of (names m f) (length u.results) behind) rest)) [] []) (length-reverse u.params)
              (subst (λ k. Types wide (none_of lt ++ out) (code_of
              (calls (plain (call_indirect y) done) (reverse (slots (names m f) ops)) (suc (length (reverse u.params))) (top_of (names m f) k behind) rest)) [] []) lr
              (calls_plain (call_indirect y) (I32 ∷ reverse u.params) (reverse u.results) (t.0 ++ low) (t.0 ++ low) behind rest (e ∙ ap (λ z. z ++ low) t.1
              ∙ ap (λ z. I32 ∷ z) (append_assoc (reverse u.params) t.0 low)) (eb ∙ ap (λ z. z ++ low) t.2 ∙ append_assoc (reverse u.results) t.0 low) ab (omega arith)
              (subst (λ b. Takes (calls_at b (slice_get (around m f).types y)) (I32 ∷ reverse u.params) (reverse u.results)) (sym et)
              (subst (λ o. Takes (calls_at true o) (I32 ∷ reverse u.params) (reverse u.results)) (sym ef)
              ([], ap (λ z. I32 ∷ z) (sym (append-nil (reverse u.params))), sym (append-nil (reverse u.results))))) h))

    -- ---- code

    module _ (small : (y : ℕ) → length (func_type_at m y).results ≤ 1) (small_sort : (t : ℕ) → length (type_at m t).results ≤ 1) where
      on_types : (lt : List (Option ValType)) (own mids low ops behind : List ValType) (i : Plain) (rest : Stmts) → Have n lt → ops ≡ own ++ low → AllIn n ops → is_last i ≡ false
          → Takes (sig c lt i) own mids → behind ≡ mids ++ low → AllIn n behind → T lt rest → T lt (flat_plain n c lt ops behind i rest)
      on_types lt own mids low ops behind (basic b) rest ha e a z t eb ab h = basic_types lt own low ops ha e a b mids behind rest t eb ab h
      on_types lt own mids low ops behind (local_get y) rest ha e a z t eb ab h = get_plain lt own low ops ha e a y mids behind rest t eb ab h
      on_types lt own mids low ops behind (local_set y) rest ha e a z t eb ab h = set_plain lt own low ops ha e a y mids rest t h
      on_types lt own mids low ops behind (local_tee y) rest ha e a z t eb ab h = tee_plain lt own low ops ha e a y mids rest t h
      on_types lt own mids low ops behind (br j) rest ha e a z t eb ab h = cc
      on_types lt own mids low ops behind (br_if j) rest ha e a z t eb ab h = if_plain lt own low ops ha e a j mids rest t h
      on_types lt own mids low ops behind (br_table ts j) rest ha e a z t eb ab h = cc
      on_types lt own mids low ops behind return rest ha e a z t eb ab h = cc
      on_types lt own mids low ops behind unreachable rest ha e a z t eb ab h = cc
      on_types lt own mids low ops behind (call y) rest ha e a z t eb ab h = call_plain lt own low ops ha e a y mids behind rest (small y) t eb ab h
      on_types lt own mids low ops behind (call_indirect y) rest ha e a z t eb ab h = indirect_plain lt own low ops ha e a y mids behind rest (small_sort y) t eb ab h

      last_types : (lt : List (Option ValType)) (own mids low ops behind : List ValType) (i : Plain) (rest : Stmts) → Have n lt → slice_get lt (length lt - 1) ≡ Some c.result
          → ops ≡ own ++ low → AllIn n ops → is_last i ≡ true → Takes (sig c lt i) own mids → T lt (flat_plain n c lt ops behind i rest)
      last_types lt own mids low ops behind (br j) rest ha la e a z t = br_plain lt own low ops ha e a j mids t
      last_types lt own mids low ops behind (br_table ts j) rest ha la e a z t = table_plain lt own low ops ha e a ts j mids t
      last_types lt own mids low ops behind return rest ha la e a z t = jump_plain lt own low ops ha e a (length lt - 1) c.result (t.0 ++ low) la (e ∙ ap (λ q. q ++ low) t.1
          ∙ append_assoc (listed c.result) t.0 low)
      last_types lt own mids low ops behind unreachable rest ha la e a z t = halt_plain lt own low ops ha e a
      last_types lt own mids low ops behind (basic b) rest ha la e a z t = cc
      last_types lt own mids low ops behind (local_get y) rest ha la e a z t = cc
      last_types lt own mids low ops behind (local_set y) rest ha la e a z t = cc
      last_types lt own mids low ops behind (local_tee y) rest ha la e a z t = cc
      last_types lt own mids low ops behind (br_if j) rest ha la e a z t = cc
      last_types lt own mids low ops behind (call y) rest ha la e a z t = cc
      last_types lt own mids low ops behind (call_indirect y) rest ha la e a z t = cc

      flat_types : (q : Option ValType) (lt : List (Option ValType)) (code : Code) (outs own low : List ValType) → Have n (q ∷ lt) → slice_get (q ∷ lt) (length lt) ≡ Some c.result
          → (q ≡ None) ⊎ (outs ≡ listed q) → Good n c (q ∷ lt) code outs own low → T (q ∷ lt) (flat n c (q ∷ lt) code (own ++ low))
      unfolding flat code_of Types Good
      flat_types q lt done outs own low ha la (inl no_value) g = carry_at (q ∷ lt) 0 None (own ++ low) (own ++ low) no_more ha (ap (λ z. Some z) no_value) refl g.0 refl
      flat_types q lt done outs own low ha la (inr value) g = carry_at (q ∷ lt) 0 q (own ++ low) low no_more ha refl (ap (λ z. z ++ low) (g.1 ∙ value)) g.0 refl
      flat_types q lt (plain i rest) outs own low ha la hd g = by (is_last i) refl (λ gr. flat_types q lt rest outs g.1 low ha la hd gr) g.3
        where
          last : slice_get (q ∷ lt) (length (q ∷ lt) - 1) ≡ Some (around m f).result
          last = let z : length lt ≡ length (q ∷ lt) - 1 = omega arith in subst (λ k. slice_get (q ∷ lt) k ≡ Some (around m f).result) z la

          by : (b : Bool) → is_last i ≡ b → (Good (names m f) (around m f) (q ∷ lt) rest outs g.1 low
              → Types wide (none_of (q ∷ lt) ++ out) (code_of (flat (names m f) (around m f) (q ∷ lt) rest (g.1 ++ low))) [] [])
              → GoesOn b (Good (names m f) (around m f) (q ∷ lt) rest outs g.1 low)
              → Types wide (none_of (q ∷ lt) ++ out) (code_of (flat_plain (names m f) (around m f) (q ∷ lt) (own ++ low)
              (after (sig (around m f) (q ∷ lt) i) (own ++ low)) i (flat (names m f) (around m f) (q ∷ lt) rest (after (sig (around m f) (q ∷ lt) i) (own ++ low))))) [] []
          by true z ih gr = last_types (q ∷ lt) own g.1 low (own ++ low) (after (sig (around m f) (q ∷ lt) i) (own ++ low)) i
              (flat (names m f) (around m f) (q ∷ lt) rest (after (sig (around m f) (q ∷ lt) i) (own ++ low))) ha last refl g.0 z g.2
          by false z ih gr =
              subst (λ behind. Types wide (none_of (q ∷ lt) ++ out)
              (code_of (flat_plain (names m f) (around m f) (q ∷ lt) (own ++ low) behind i (flat (names m f) (around m f) (q ∷ lt) rest behind))) [] [])
              (sym (after_all (around m f) (q ∷ lt) i own g.1 low (own ++ low) z g.2 refl))
              (on_types (q ∷ lt) own g.1 low (own ++ low) (g.1 ++ low) i (flat (names m f) (around m f) (q ∷ lt) rest (g.1 ++ low)) ha refl g.0 z g.2 refl
              (good_in (names m f) (around m f) (q ∷ lt) rest outs g.1 low gr) (ih gr))
      flat_types q lt (nest a_block r body rest) outs own low ha la hd g =
          let assoc : (listed r ++ own) ++ low ≡ listed r ++ (own ++ low) = append_assoc (listed r) own low in
          let rest_it : T (q ∷ lt) (flat n c (q ∷ lt) rest (listed r ++ (own ++ low))) =
          subst (λ ts. T (q ∷ lt) (flat n c (q ∷ lt) rest ts)) assoc (flat_types q lt rest outs (listed r ++ own) low ha la hd g.3) in (
            flat_types r (q ∷ lt) body (listed r) [] (own ++ low) (g.1, ha) la (inr refl) g.2,
            arrive_types (fl (q ∷ lt)) (length (q ∷ lt)) r (own ++ low) (flat n c (q ∷ lt) rest (listed r ++ (own ++ low)))
                (subst (AllIn n) assoc (good_in n c (q ∷ lt) rest outs (listed r ++ own) low g.3)) g.1 rest_it,
          )
      flat_types q lt (nest a_loop r body rest) outs own low ha la hd g =
          let assoc : (listed r ++ own) ++ low ≡ listed r ++ (own ++ low) = append_assoc (listed r) own low in
          let rest_it : T (q ∷ lt) (flat n c (q ∷ lt) rest (listed r ++ (own ++ low))) =
          subst (λ ts. T (q ∷ lt) (flat n c (q ∷ lt) rest ts)) assoc (flat_types q lt rest outs (listed r ++ own) low ha la hd g.3) in
          (flat_types None (q ∷ lt) body (listed r) [] (own ++ low) (tt, ha) la (inl refl) g.2, rest_it)
      flat_types q lt (branch r a b rest) outs own low ha la hd g =
          let below : List ValType = g.2 in
          let eo : own ++ low ≡ I32 ∷ (below ++ low) = ap (λ z. z ++ low) g.3 in
          let assoc : (listed r ++ below) ++ low ≡ listed r ++ (below ++ low) = append_assoc (listed r) below low in
          let rest_it : T (q ∷ lt) (flat n c (q ∷ lt) rest (listed r ++ (below ++ low))) =
          subst (λ ts. T (q ∷ lt) (flat n c (q ∷ lt) rest ts)) assoc (flat_types q lt rest outs (listed r ++ below) low ha la hd g.6) in
          let behind_it = arrive_types (fl (q ∷ lt)) (length (q ∷ lt)) r (below ++ low) (flat n c (q ∷ lt) rest (listed r ++ (below ++ low)))
          (subst (AllIn n) assoc (good_in n c (q ∷ lt) rest outs (listed r ++ below) low g.6)) g.1 rest_it in
          let ta = flat_types r (q ∷ lt) a (listed r) [] (below ++ low) (g.1, ha) la (inr refl) g.4 in
          let tb = flat_types r (q ∷ lt) b (listed r) [] (below ++ low) (g.1, ha) la (inr refl) g.5 in
          subst (λ ds. T (q ∷ lt) (decides (Local (top n (own ++ low))) (flat n c (r ∷ q ∷ lt) a ds) (flat n c (r ∷ q ∷ lt) b ds)
          (arrive n (length (q ∷ lt)) r ds (flat n c (q ∷ lt) rest (listed r ++ ds))))) (sym (ap (drop 1) eo))
          (cond_types (q ∷ lt) (own ++ low) (below ++ low) (branch None (code_of (flat n c (r ∷ q ∷ lt) a (below ++ low))) (code_of (flat n c (r ∷ q ∷ lt) b (below ++ low)))
          (code_of (arrive n (length (q ∷ lt)) r (below ++ low) (flat n c (q ∷ lt) rest (listed r ++ (below ++ low)))))) eo g.0
          ([], refl, ta, tb, behind_it))

    -- ---- statement by statement

    abbrev S : List (Option ValType) → Stmts → Type 0
    S lt k = StmtsTyped wide (fl lt) k

    s_carry_at : (lt : List (Option ValType)) (j : ℕ) (r : Option ValType) (ops more : List ValType) (rest : Stmts) → Have n lt → slice_get lt j ≡ Some r → ops ≡ listed r ++ more
        → AllIn n ops → S lt rest → S lt (carry n lt ops j rest)
    unfolding code_of Types
    s_carry_at lt j r ops more rest ha er e a h = subst (λ o. S lt (carry_to n (length lt - suc j) o ops rest)) (sym er) (by r e (have_one n lt j r ha er))
      where
        by : (r : Option ValType) → ops ≡ listed r ++ more → HasResult (names m f) (length lt - suc j) r
            → StmtsTyped wide (none_of lt ++ out) (carry_to (names m f) (length lt - suc j) (Some r) ops rest)
        by None e has = h
        by (Some t) e has = (carry_types (none_of lt ++ out) (length lt - suc j) (Some t) ops more no_more e a has refl, h)

    s_carry_each : (lt : List (Option ValType)) (js : List ℕ) (r : Option ValType) (ops more : List ValType) (rest : Stmts) → Have n lt → AllLabels lt r js → ops ≡ listed r ++ more
        → AllIn n ops → S lt rest → S lt (carry_all n lt ops js rest)
    s_carry_each lt [] r ops more rest ha al e a h = h
    s_carry_each lt (j ∷ js) r ops more rest ha al e a h = s_carry_at lt j r ops more (carry_all n lt ops js rest) ha al.0 e a (s_carry_each lt js r ops more rest ha al.1 e a h)

    s_arrive : (lt : List (Option ValType)) (d : ℕ) (r : Option ValType) (ops : List ValType) (rest : Stmts) → AllIn n (listed r ++ ops) → HasResult n d r → S lt rest → S lt (arrive n d r ops rest)
    unfolding code_of Types
    s_arrive lt d None ops rest a has h = h
    s_arrive lt d (Some t) ops rest a has h = (arrive_types (fl lt) d (Some t) ops no_more a has refl, h)

    module _ (lt : List (Option ValType)) (own low ops : List ValType) (ha : Have n lt) (e : ops ≡ own ++ low) (a : AllIn n ops) where
      s_jump : (j : ℕ) (r : Option ValType) (more : List ValType) → slice_get lt j ≡ Some r → ops ≡ listed r ++ more → S lt (carry n lt ops j (leaps j no_more))
      unfolding code_of
      s_jump j r more er eo = s_carry_at lt j r ops more (leaps j no_more) ha er eo a (leap_types lt j (slice_get_within lt j r er), tt)

      s_br : (j : ℕ) (mids : List ValType) → Takes (jump_sig (slice_get lt j)) own mids → S lt (carry n lt ops j (leaps j no_more))
      s_br j mids t = by (slice_get lt j) refl t
        where
          by : (o : Option (Option ValType)) → slice_get lt j ≡ o → Takes (jump_sig o) own mids
              → StmtsTyped wide (none_of lt ++ out) (carry (names m f) lt ops j (leaps j no_more))
          by None er t = absurd t
          by (Some r) er t = s_jump j r (t.0 ++ low) er (e ∙ ap (λ z. z ++ low) t.1 ∙ append_assoc (listed r) t.0 low)

      s_if : (j : ℕ) (mids : List ValType) (rest : Stmts) → Takes (may_jump (slice_get lt j)) own mids → S lt rest → S lt (carry n lt (drop 1 ops) j (leaps_if (Local (top n ops)) j rest))
      unfolding code_of Types
      s_if j mids rest t h = by (slice_get lt j) refl t
        where
          by : (o : Option (Option ValType)) → slice_get lt j ≡ o → Takes (may_jump o) own mids
              → StmtsTyped wide (none_of lt ++ out) (carry (names m f) lt (drop 1 ops) j (leaps_if (Local (top (names m f) ops)) j rest))
          by None er t = absurd t
          by (Some r) er t =
              let eo : ops ≡ I32 ∷ (listed r ++ (t.0 ++ low)) = e ∙ ap (λ z. z ++ low) t.1 ∙ ap (λ z. I32 ∷ z) (append_assoc (listed r) t.0 low) in
              let leap : Types wide (none_of lt ++ out) (plain (br_if j) done) [] (I32 ∷ []) =
              ([], subst (λ o. Takes (may_jump o) (I32 ∷ []) []) (sym (none_there lt out j (slice_get_within lt j r er))) ([], refl, refl), refl) in
              s_carry_at lt j r (drop 1 ops) (t.0 ++ low) (leaps_if (Local (top (names m f) ops)) j rest) ha er (ap (drop 1) eo)
              (subst (AllIn (names m f)) (sym (ap (drop 1) eo)) (subst (AllIn (names m f)) eo a).1) (cond_types lt ops (listed r ++ (t.0 ++ low)) (plain (br_if j) done) eo a leap, h)

      s_table : (ts : List ℕ) (j : ℕ) (mids : List ValType) → Takes (jumps_sig lt ts (slice_get lt j)) own mids
          → S lt (carry_all n lt (drop 1 ops) ts (carry n lt (drop 1 ops) j (leaps_by (Local (top n ops)) ts j no_more)))
      unfolding code_of Types
      s_table ts j mids t = by (slice_get lt j) refl t
        where
          by : (o : Option (Option ValType)) → slice_get lt j ≡ o → Takes (jumps_sig lt ts o) own mids
              → StmtsTyped wide (none_of lt ++ out) (carry_all (names m f) lt (drop 1 ops) ts
              (carry (names m f) lt (drop 1 ops) j (leaps_by (Local (top (names m f) ops)) ts j no_more)))
          by None er t = absurd t
          by (Some r) er t =
              let tt2 = table_typed lt ts r own mids t in
              let eo : ops ≡ I32 ∷ (listed r ++ (tt2.1 ++ low)) = e ∙ ap (λ z. z ++ low) tt2.2 ∙ ap (λ z. I32 ∷ z) (append_assoc (listed r) tt2.1 low) in
              let al = all_flat lt r ts tt2.0 in
              let leap : Types wide (none_of lt ++ out) (plain (br_table ts j) done) [] (I32 ∷ []) = (
                [],
                subst (λ o. Takes (jumps_sig (none_of lt ++ out) ts o) (I32 ∷ []) []) (sym (none_there lt out j (slice_get_within lt j r er)))
                    (subst (λ (b : Bool). Takes (if b then (if all_alike (none_of lt ++ out) None ts then leaves (I32 ∷ []) else lacks StackTypes)
                    else lacks UnknownLabel) (I32 ∷ []) []) (sym al.0)
                    (subst (λ (b : Bool). Takes (if b then leaves (I32 ∷ []) else lacks StackTypes) (I32 ∷ []) []) (sym al.1) ([], refl))),
                refl,
              ) in
              let a1 : AllIn (names m f) (drop 1 ops) = subst (AllIn (names m f)) (sym (ap (drop 1) eo)) (subst (AllIn (names m f)) eo a).1 in
              s_carry_each lt ts r (drop 1 ops) (tt2.1 ++ low) (carry (names m f) lt (drop 1 ops) j (leaps_by (Local (top (names m f) ops)) ts j no_more)) ha tt2.0 (ap (drop 1) eo) a1
              (s_carry_at lt j r (drop 1 ops) (tt2.1 ++ low) (leaps_by (Local (top (names m f) ops)) ts j no_more) ha er (ap (drop 1) eo) a1
              (cond_types lt ops (listed r ++ (tt2.1 ++ low)) (plain (br_table ts j) done) eo a leap, tt))

    module _ (small : (y : ℕ) → length (func_type_at m y).results ≤ 1) (small_sort : (t : ℕ) → length (type_at m t).results ≤ 1) where
      s_on : (lt : List (Option ValType)) (own mids low ops behind : List ValType) (i : Plain) (rest : Stmts) → Have n lt → ops ≡ own ++ low → AllIn n ops → is_last i ≡ false
          → Takes (sig c lt i) own mids → behind ≡ mids ++ low → AllIn n behind → S lt rest → S lt (flat_plain n c lt ops behind i rest)
      unfolding code_of Types
      s_on lt own mids low ops behind (basic b) rest ha e a z t eb ab h = (basic_types lt own low ops ha e a b mids behind no_more t eb ab refl, h)
      s_on lt own mids low ops behind (local_get y) rest ha e a z t eb ab h = (get_plain lt own low ops ha e a y mids behind no_more t eb ab refl, h)
      s_on lt own mids low ops behind (local_set y) rest ha e a z t eb ab h = (set_plain lt own low ops ha e a y mids no_more t refl, h)
      s_on lt own mids low ops behind (local_tee y) rest ha e a z t eb ab h = (tee_plain lt own low ops ha e a y mids no_more t refl, h)
      s_on lt own mids low ops behind (br j) rest ha e a z t eb ab h = cc
      s_on lt own mids low ops behind (br_if j) rest ha e a z t eb ab h = s_if lt own low ops ha e a j mids rest t h
      s_on lt own mids low ops behind (br_table ts j) rest ha e a z t eb ab h = cc
      s_on lt own mids low ops behind return rest ha e a z t eb ab h = cc
      s_on lt own mids low ops behind unreachable rest ha e a z t eb ab h = cc
      s_on lt own mids low ops behind (call y) rest ha e a z t eb ab h = (call_plain lt own low ops ha e a y mids behind no_more (small y) t eb ab refl, h)
      s_on lt own mids low ops behind (call_indirect y) rest ha e a z t eb ab h = (indirect_plain lt own low ops ha e a y mids behind no_more (small_sort y) t eb ab refl, h)

      s_last : (lt : List (Option ValType)) (own mids low ops behind : List ValType) (i : Plain) (rest : Stmts) → Have n lt → slice_get lt (length lt - 1) ≡ Some c.result → ops ≡ own ++ low
          → AllIn n ops → is_last i ≡ true → Takes (sig c lt i) own mids → S lt (flat_plain n c lt ops behind i rest)
      s_last lt own mids low ops behind (br j) rest ha la e a z t = s_br lt own low ops ha e a j mids t
      s_last lt own mids low ops behind (br_table ts j) rest ha la e a z t = s_table lt own low ops ha e a ts j mids t
      s_last lt own mids low ops behind return rest ha la e a z t = s_jump lt own low ops ha e a (length lt - 1) c.result (t.0 ++ low) la (e ∙ ap (λ q. q ++ low) t.1
          ∙ append_assoc (listed c.result) t.0 low)
      s_last lt own mids low ops behind unreachable rest ha la e a z t = tt
      s_last lt own mids low ops behind (basic b) rest ha la e a z t = cc
      s_last lt own mids low ops behind (local_get y) rest ha la e a z t = cc
      s_last lt own mids low ops behind (local_set y) rest ha la e a z t = cc
      s_last lt own mids low ops behind (local_tee y) rest ha la e a z t = cc
      s_last lt own mids low ops behind (br_if j) rest ha la e a z t = cc
      s_last lt own mids low ops behind (call y) rest ha la e a z t = cc
      s_last lt own mids low ops behind (call_indirect y) rest ha la e a z t = cc

      -- a condition is read
      cond_got : (lt : List (Option ValType)) (ops more : List ValType) → ops ≡ I32 ∷ more → AllIn n ops → Types wide (fl lt) (plain (local_get (top n ops)) done) (I32 ∷ []) []
      unfolding Types
      cond_got lt ops more e a = subst (λ ts. Types wide (fl lt) (plain (local_get (top n ts)) done) (I32 ∷ []) []) (sym e)
          (get_types (fl lt) (slot n (length more) I32) I32 done (I32 ∷ []) [] (slot_typed (length more) I32 (subst (AllIn n) e a).0) refl)

      flat_stmts : (q : Option ValType) (lt : List (Option ValType)) (code : Code) (outs own low : List ValType) → Have n (q ∷ lt) → slice_get (q ∷ lt) (length lt) ≡ Some c.result
          → (q ≡ None) ⊎ (outs ≡ listed q) → Good n c (q ∷ lt) code outs own low → S (q ∷ lt) (flat n c (q ∷ lt) code (own ++ low))
      unfolding flat Good
      flat_stmts q lt done outs own low ha la (inl no_value) g = s_carry_at (q ∷ lt) 0 None (own ++ low) (own ++ low) no_more ha (ap (λ z. Some z) no_value) refl g.0 tt
      flat_stmts q lt done outs own low ha la (inr value) g = s_carry_at (q ∷ lt) 0 q (own ++ low) low no_more ha refl (ap (λ z. z ++ low) (g.1 ∙ value)) g.0 tt
      flat_stmts q lt (plain i rest) outs own low ha la hd g = by (is_last i) refl (λ gr. flat_stmts q lt rest outs g.1 low ha la hd gr) g.3
        where
          last : slice_get (q ∷ lt) (length (q ∷ lt) - 1) ≡ Some (around m f).result
          last = let z : length lt ≡ length (q ∷ lt) - 1 = omega arith in subst (λ k. slice_get (q ∷ lt) k ≡ Some (around m f).result) z la

          by : (b : Bool) → is_last i ≡ b → (Good (names m f) (around m f) (q ∷ lt) rest outs g.1 low
              → StmtsTyped wide (none_of (q ∷ lt) ++ out) (flat (names m f) (around m f) (q ∷ lt) rest (g.1 ++ low)))
              → GoesOn b (Good (names m f) (around m f) (q ∷ lt) rest outs g.1 low)
              → StmtsTyped wide (none_of (q ∷ lt) ++ out) (flat_plain (names m f) (around m f) (q ∷ lt) (own ++ low)
              (after (sig (around m f) (q ∷ lt) i) (own ++ low)) i (flat (names m f) (around m f) (q ∷ lt) rest (after (sig (around m f) (q ∷ lt) i) (own ++ low))))
          by true z ih gr = s_last (q ∷ lt) own g.1 low (own ++ low) (after (sig (around m f) (q ∷ lt) i) (own ++ low)) i
              (flat (names m f) (around m f) (q ∷ lt) rest (after (sig (around m f) (q ∷ lt) i) (own ++ low))) ha last refl g.0 z g.2
          by false z ih gr =
              subst (λ behind. StmtsTyped wide (none_of (q ∷ lt) ++ out)
              (flat_plain (names m f) (around m f) (q ∷ lt) (own ++ low) behind i (flat (names m f) (around m f) (q ∷ lt) rest behind)))
              (sym (after_all (around m f) (q ∷ lt) i own g.1 low (own ++ low) z g.2 refl))
              (s_on (q ∷ lt) own g.1 low (own ++ low) (g.1 ++ low) i (flat (names m f) (around m f) (q ∷ lt) rest (g.1 ++ low)) ha refl g.0 z g.2 refl
              (good_in (names m f) (around m f) (q ∷ lt) rest outs g.1 low gr) (ih gr))
      flat_stmts q lt (nest a_block r body rest) outs own low ha la hd g =
          let assoc : (listed r ++ own) ++ low ≡ listed r ++ (own ++ low) = append_assoc (listed r) own low in
          let rest_it : S (q ∷ lt) (flat n c (q ∷ lt) rest (listed r ++ (own ++ low))) =
          subst (λ ts. S (q ∷ lt) (flat n c (q ∷ lt) rest ts)) assoc (flat_stmts q lt rest outs (listed r ++ own) low ha la hd g.3) in (
            flat_stmts r (q ∷ lt) body (listed r) [] (own ++ low) (g.1, ha) la (inr refl) g.2,
            s_arrive (q ∷ lt) (length (q ∷ lt)) r (own ++ low) (flat n c (q ∷ lt) rest (listed r ++ (own ++ low)))
                (subst (AllIn n) assoc (good_in n c (q ∷ lt) rest outs (listed r ++ own) low g.3)) g.1 rest_it,
          )
      flat_stmts q lt (nest a_loop r body rest) outs own low ha la hd g =
          let assoc : (listed r ++ own) ++ low ≡ listed r ++ (own ++ low) = append_assoc (listed r) own low in
          let rest_it : S (q ∷ lt) (flat n c (q ∷ lt) rest (listed r ++ (own ++ low))) =
          subst (λ ts. S (q ∷ lt) (flat n c (q ∷ lt) rest ts)) assoc (flat_stmts q lt rest outs (listed r ++ own) low ha la hd g.3) in
          (flat_stmts None (q ∷ lt) body (listed r) [] (own ++ low) (tt, ha) la (inl refl) g.2, rest_it)
      flat_stmts q lt (branch r a b rest) outs own low ha la hd g =
          let below : List ValType = g.2 in
          let eo : own ++ low ≡ I32 ∷ (below ++ low) = ap (λ z. z ++ low) g.3 in
          let assoc : (listed r ++ below) ++ low ≡ listed r ++ (below ++ low) = append_assoc (listed r) below low in
          let rest_it : S (q ∷ lt) (flat n c (q ∷ lt) rest (listed r ++ (below ++ low))) =
          subst (λ ts. S (q ∷ lt) (flat n c (q ∷ lt) rest ts)) assoc (flat_stmts q lt rest outs (listed r ++ below) low ha la hd g.6) in
          let behind_it = s_arrive (q ∷ lt) (length (q ∷ lt)) r (below ++ low) (flat n c (q ∷ lt) rest (listed r ++ (below ++ low)))
          (subst (AllIn n) assoc (good_in n c (q ∷ lt) rest outs (listed r ++ below) low g.6)) g.1 rest_it in
          let ta = flat_stmts r (q ∷ lt) a (listed r) [] (below ++ low) (g.1, ha) la (inr refl) g.4 in
          let tb = flat_stmts r (q ∷ lt) b (listed r) [] (below ++ low) (g.1, ha) la (inr refl) g.5 in
          subst (λ ds. S (q ∷ lt) (decides (Local (top n (own ++ low))) (flat n c (r ∷ q ∷ lt) a ds) (flat n c (r ∷ q ∷ lt) b ds)
          (arrive n (length (q ∷ lt)) r ds (flat n c (q ∷ lt) rest (listed r ++ ds))))) (sym (ap (drop 1) eo))
          (cond_got (q ∷ lt) (own ++ low) (below ++ low) eo g.0, ta, tb, behind_it)

  module _ (small : (y : ℕ) → length (func_type_at m y).results ≤ 1) (small_sort : (t : ℕ) → length (type_at m t).results ≤ 1) where
    -- the body of the flat function
    pub body_types : (x : ℕ) → Good n c (c.result ∷ []) f.body (listed c.result) [] [] → HasResult n 0 c.result → Typed wide (body_of (flattened m x f))
    unfolding Types
    body_types x g h = (flat_types (c.result ∷ []) small small_sort c.result [] f.body (listed c.result) [] [] (h, tt) refl (inr refl) g, result_types c.result refl h)

    -- its statements are typed whatever stands around its own block, so no branch leaves that
    pub own_stmts : (out : List (Option ValType)) (x : ℕ) → Good n c (c.result ∷ []) f.body (listed c.result) [] [] → HasResult n 0 c.result
        → StmtsTyped wide (None ∷ out) (flattened m x f).body
    own_stmts out x g h = flat_stmts out small small_sort c.result [] f.body (listed c.result) [] [] (h, tt) refl (inr refl) g

    pub body_stmts : (x : ℕ) → Good n c (c.result ∷ []) f.body (listed c.result) [] [] → HasResult n 0 c.result → StmtsTyped wide (None ∷ c.result ∷ []) (flattened m x f).body
    body_stmts x g h = own_stmts (c.result ∷ []) x g h
