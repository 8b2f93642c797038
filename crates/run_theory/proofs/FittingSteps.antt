-- From a configuration that fits a valid module there is a reduction, to one that fits again.
use Rattle.std.proofs.Common.{arith, ◌≡◌, ℕ, zero, suc, ◌+◌, ◌-◌, ◌<◌, ◌≤◌, List, [], ◌∷◌, ◌++◌, map, reverse, Option, Some, None, Bool, true, false, refl, sym, ap, ◌∙◌, subst, length, take}
use Rattle.std.proofs.Common.{drop, append_assoc}
use Rattle.std.specs.Prelude.{nat_lt, if◌then◌else◌, slice_get, slice_set, unwrap_or}
use Rattle.std.proofs.lemmas.Bool.{ltb-true, ltb-false, and_parts}
use Rattle.std.proofs.lemmas.List.{length-map, map-append, length-reverse, reverse-reverse}
use Rattle.wa_types.specs.declared.values.ValType.{ValType}
use Rattle.wa_types.specs.declared.values.ValType.TheVariants.{I32}
use Rattle.wa_types.specs.declared.values.Value.{Value}
use Rattle.wa_types.specs.declared.values.Value.TheVariants as V
use Rattle.wa_types.specs.declared.values.Trap.TheVariants.{StackExhausted, TypeMismatch}
use Rattle.wa_types.specs.Counts.{depth_of}
use Rattle.wa_types.specs.Pruned.{is_last}
use Rattle.wa_types.specs.Syntax.{Plain, basic, local_get, local_set, local_tee, br, br_if, br_table, return, unreachable, call, call_indirect, a_block, a_loop, Code, done, plain, nest}
use Rattle.wa_types.specs.Syntax.{branch, FuncType, Func, Module}
use Rattle.wa_types.specs.declared.rules.Rule.TheVariants.{UnknownLabel, StackTypes}
use Rattle.wa_types.specs.Typing.{Around, Sig, moves, leaves, drops, selects, lacks, late, listed, type_of, same_result, all_there, agrees_with, all_alike, jump as jump_sig, may_jump, jumps}
use Rattle.wa_types.specs.Typing.{calls, calls_at, gets, sets, tees, basic_sig, sig, Takes, Types}
use Rattle.wa_types.specs.Validity.{Valid}
use Rattle.wa_types.specs.Modules.{func_imports, func_sorts, func_types, func_type_at, type_at, or_empty, declared_locals, locals_of, around, defined_at}
use Rattle.wa_model.specs.Store.{choose, Store, value_at, Did, works, fails, lacks as lacking, takes, extra_cost, act}
use Rattle.wa_model.specs.Configuration.{Label, block_label, loop_label, Activation, Configuration, running, waiting}
use Rattle.wa_model.specs.Step.{Next, steps, asks, traps, stuck, keep, result_count, leave, jump, finish, did, with_top, with_number, arity_of, zero_of, entered, invoke, param_count}
use Rattle.wa_model.specs.Step.{same_func_type, through, memory_max, step_at, step}
use Rattle.run_theory.specs.Growth.{EntryNamed}
use Rattle.run_theory.specs.Heights.{behind_plain, most_operands, Within}
use Rattle.run_theory.specs.Fitting.{types_of, results_of, StoreFits, Stands, ActFits, CallersFit, Fits, NextFits, ActWithin}
use Rattle.run_theory.proofs.GrownSteps.{each_got}
use Rattle.run_theory.proofs.FittingNames.{split_types, carried_types, kept_types, reversed_types, value_typed, set_typed, zeros_typed, same_true, func_types_true, one_reversed, type_small}
use Rattle.run_theory.proofs.FittingNames.{func_type_small, results_are, count_is, defined_type, not_defined, func_found}
use Rattle.run_theory.proofs.FittingActs.{DidFits, act_fits}
use Rattle.run_theory.proofs.HeightLemmas.{listed_height, basic_height, gets_height, sets_height, tees_height, may_jump_height, calls_height, calls_at_height, begins_within, rest_within}
use Rattle.run_theory.proofs.HeightLemmas.{nest_within, branch_within}

-- ---- typing

-- what an instruction takes it takes above more operands
pub takes_above : (g : Sig) (ins outs more : List ValType) → Takes g ins outs → Takes g (ins ++ more) (outs ++ more)
takes_above (moves ps rs) ins outs more h =
    (h.0 ++ more, ap (λ xs. xs ++ more) h.1 ∙ append_assoc ps h.0 more, ap (λ xs. xs ++ more) h.2 ∙ append_assoc rs h.0 more)
takes_above (leaves ps) ins outs more h = (h.0 ++ more, ap (λ xs. xs ++ more) h.1 ∙ append_assoc ps h.0 more)
takes_above drops ins outs more h = (h.0, ap (λ xs. xs ++ more) h.1)
takes_above selects ins outs more h = (h.0, h.1 ++ more, ap (λ xs. xs ++ more) h.2, ap (λ xs. xs ++ more) h.3)
takes_above (lacks r) ins outs more h = absurd h
takes_above (late r ps rs) ins outs more h = absurd h

result_true : (r r' : Option ValType) → same_result r r' ≡ true → r ≡ r'
result_true None None e = refl
result_true None (Some u) e = cc
result_true (Some t) None e = cc
result_true (Some t) (Some u) e = ap (λ x. Some x) (same_true t u e)

agrees_true : (r : Option ValType) (o : Option (Option ValType)) → agrees_with r o ≡ true → o ≡ Some r
agrees_true r None e = cc
agrees_true r (Some s) e = ap (λ x. Some x) (sym (result_true r s e))

-- the label that a branch table chooses takes the result of the last one
pub chosen_alike : (ls : List (Option ValType)) (r : Option ValType) (labels : List ℕ) (last n : ℕ) → slice_get ls last ≡ Some r → all_alike ls r labels ≡ true
    → slice_get ls (unwrap_or (slice_get labels n) last) ≡ Some r
chosen_alike ls r [] last n e h = e
chosen_alike ls r (l ∷ labels) last zero e h = agrees_true r (slice_get ls l) (and_parts (agrees_with r (slice_get ls l)) (all_alike ls r labels) h).0
chosen_alike ls r (l ∷ labels) last (suc n) e h = chosen_alike ls r labels last n e (and_parts (agrees_with r (slice_get ls l)) (all_alike ls r labels) h).1

-- What code inside labels gives, and that other code which gives it, and stays within the bounds, may stand in its place.
pub record Restands (m : Module) (top deep : ℕ) (c : Around) (results : List (Option ValType)) (labels : List Label) (code : Code) (own below : List ValType) : Type 0 where
  pub outs : List ValType
  pub typed : Types c results code outs own
  pub within : Within m top deep code (length (own ++ below)) (length labels)
  pub again : (code' : Code) (own' : List ValType) → Types c results code' outs own' → Within m top deep code' (length (own' ++ below)) (length labels)
      → Stands m top deep c results labels code' own' below

pub restands : (m : Module) (top deep : ℕ) (c : Around) (results : List (Option ValType)) (labels : List Label) (code : Code) (own below : List ValType)
    → Stands m top deep c results labels code own below → Restands m top deep c results labels code own below
unfolding Stands
restands m top deep c results [] code own below h = record { outs = listed c.result; typed = h.2; within = h.3; again = λ code' own' t w. (h.0, h.1, t, w) }
restands m top deep c results (block_label height arity rest skipped ∷ labels) code own below h =
    record { outs = listed h.0; typed = h.8; within = h.9; again = λ code' own' t w. (h.0, h.1, h.2, h.3, h.4, h.5, h.6, h.7, t, w, h.10) }
restands m top deep c results (loop_label height body rest ∷ labels) code own below h =
    record { outs = listed h.0; typed = h.9; within = h.10; again = λ code' own' t w. (h.0, h.1, h.2, h.3, h.4, h.5, h.6, h.7, h.8, t, w, h.11) }

-- an activation that fits stays within the bounds of its function
pub heights_within : (m : Module) (a : Activation) (types : List ValType) → ActFits m a.func a.locals a.code a.labels types → ActWithin m a types
heights_within m a types h =
    let f = h.func in
    let k = restands m (most_operands m f.body 0) (depth_of f.body) (around m f) h.results a.labels a.code h.own h.below h.stands in
    let w = begins_within m (most_operands m f.body 0) (depth_of f.body) a.code (length (h.own ++ h.below)) (length a.labels) k.within in
    record { func = f; func_is = h.func_is; operands = subst (λ ts. length ts ≤ most_operands m f.body 0) (sym h.types_are) w.0; labels = w.1 }

-- the body of a defined function of a valid module has its type
pub body_typed : (m : Module) (v : Valid m) (x : ℕ) (g : Func) → defined_at m x ≡ Some g → Types (around m g) ((around m g).result ∷ []) g.body (listed (around m g).result) []
body_typed m v x g = by_import (nat_lt x (func_imports m))
  where
    by_import : (b : Bool) → (if b then None else slice_get m.funcs (x - func_imports m)) ≡ Some g → Types (around m g) ((around m g).result ∷ []) g.body (listed (around m g).result) []
    by_import true e = cc
    by_import false e = v.bodies (x - func_imports m) g e

module _ (m : Module) (v : Valid m) (outs : List ValType) where
  module _ (s : Store) (so : StoreFits m s) where
    -- ---- results

    leaves_fit : (k fn : ℕ) (ops : List Value) (more : List ValType) (under : List Activation) → types_of ops ≡ results_of m fn ++ more → CallersFit m outs (results_of m fn) under
        → NextFits m outs (leave k s ops (result_count m fn) under)
    leaves_fit k fn ops more [] e w =
        (so, ap (λ n. types_of (take n ops)) (count_is m v fn) ∙ (split_types (results_of m fn) more ops e).0 ∙ w)
    leaves_fit k fn ops more (a ∷ under) e w =
        let taken : types_of (take (result_count m fn) ops) ≡ results_of m fn = ap (λ n. types_of (take n ops)) (count_is m v fn) ∙ (split_types (results_of m fn) more ops e).0 in
        let types : types_of (take (result_count m fn) ops ++ a.operands) ≡ results_of m fn ++ types_of a.operands = map-append type_of (take (result_count m fn) ops) a.operands
        ∙ ap (λ xs. xs ++ types_of a.operands) taken in
        record { store = so; here = subst (ActFits m a.func a.locals a.code a.labels) (sym types) w.0; under = w.1 }

    -- ---- calls

    -- a function that is entered with arguments of its types
    pub entered_fits : (under : List Activation) (args : List Value) (x : ℕ) (g : Func) → defined_at m x ≡ Some g → types_of args ≡ (func_type_at m x).params → CallersFit m outs (results_of m x) under
        → Fits m outs (entered s under args x g)
    unfolding Stands
    entered_fits under args x g is e w =
        let locals : types_of (args ++ map zero_of (declared_locals g.locals)) ≡ locals_of m g =
        map-append type_of args (map zero_of (declared_locals g.locals))
        ∙ ap (λ ts. ts ++ types_of (map zero_of (declared_locals g.locals))) (e ∙ ap (λ (t : FuncType). t.params) (defined_type m x g is))
        ∙ ap (λ ts. (type_at m g.sort).params ++ ts) (zeros_typed (declared_locals g.locals)) in
        let c : Around = around m g in record {
          store = so;
          here = record {
            func = g;
            func_is = is;
            locals_fit = locals;
            results = c.result
                ∷ [];
            own = [];
            below = [];
            types_are = refl;
            stands = (refl, refl, body_typed m v x g is, record { operands = omega arith; labels = omega arith });
          };
          under = w;
        }

    module _ (fn : ℕ) (f : Func) (is : defined_at m fn ≡ Some f) (under : List Activation) (w : CallersFit m outs (results_of m fn) under) where
      abbrev c : Around
      c = around m f

      abbrev top : ℕ
      top = most_operands m f.body 0

      abbrev deep : ℕ
      deep = depth_of f.body

      result_is : results_of m fn ≡ listed c.result
      result_is = ap (λ (t : FuncType). listed (slice_get t.results 0)) (defined_type m fn f is)

      -- a configuration of this activation
      goes_on : (ls ops : List Value) (code : Code) (labels : List Label) (results : List (Option ValType)) (own below : List ValType)
          → types_of ls ≡ locals_of m f → types_of ops ≡ own ++ below → Stands m top deep c results labels code own below → Fits m outs (running s fn under ls ops code labels)
      goes_on ls ops code labels results own below el eo st =
          record { store = so; here = record { func = f; func_is = is; locals_fit = el; results = results; own = own; below = below; types_are = eo; stands = st }; under = w }

      -- in another store
      going_on : (s' : Store) → StoreFits m s' → (ls ops : List Value) (code : Code) (labels : List Label) (results : List (Option ValType)) (own below : List ValType)
          → types_of ls ≡ locals_of m f → types_of ops ≡ own ++ below → Stands m top deep c results labels code own below → Fits m outs (running s' fn under ls ops code labels)
      going_on s' so' ls ops code labels results own below el eo st =
          record { store = so'; here = record { func = f; func_is = is; locals_fit = el; results = results; own = own; below = below; types_are = eo; stands = st }; under = w }

      leaves_here : (k : ℕ) (ops : List Value) (more : List ValType) → types_of ops ≡ listed c.result ++ more → NextFits m outs (leave k s ops (result_count m fn) under)
      leaves_here k ops more e = leaves_fit k fn ops more under (e ∙ ap (λ xs. xs ++ more) (sym result_is)) w

      module _ (ls : List Value) (el : types_of ls ≡ locals_of m f) where
        -- a branch to a label that takes the topmost operands
        jumps_fit : (k : ℕ) (ops : List Value) (labels : List Label) (results : List (Option ValType)) (code : Code) (own below front more : List ValType) (l : ℕ) (r : Option ValType)
            → Stands m top deep c results labels code own below → types_of ops ≡ front ++ below → types_of ops ≡ listed r ++ more → slice_get results l ≡ Some r
            → NextFits m outs (jump k m s fn under ls ops labels l)
        unfolding Stands
        jumps_fit k ops [] results code own below front more zero r st eb er e =
            let z : r ≡ c.result = ap (λ o. unwrap_or o r) (sym e ∙ ap (λ rs. slice_get rs 0) st.0) in leaves_here k ops more (er ∙ ap (λ x. listed x ++ more) z)
        jumps_fit k ops [] results code own below front more (suc l) r st eb er e = let z = sym e ∙ ap (λ rs. slice_get rs (suc l)) st.0 in cc
        jumps_fit k ops (block_label h arity rest skipped ∷ labels) results code own below front more zero r st eb er e =
            let z : r ≡ st.0 = ap (λ o. unwrap_or o r) (sym e ∙ ap (λ rs. slice_get rs 0) st.4) in
            let types : types_of (take arity ops ++ keep h ops) ≡ listed st.0 ++ below = carried_types st.0 more front below h arity ops (er ∙ ap (λ x. listed x ++ more) z) eb st.6 st.7 in
            goes_on ls (take arity ops ++ keep h ops) rest labels st.1 (listed st.0 ++ st.2) st.3 el (types ∙ ap (λ xs. listed st.0 ++ xs) st.5 ∙ sym (append_assoc (listed st.0) st.2 st.3)) st.10
        jumps_fit k ops (loop_label h body rest ∷ labels) results code own below front more zero r st eb er e =
            goes_on ls (keep h ops) body (loop_label h body rest ∷ labels) results [] below el (kept_types front below h ops eb st.6)
            (st.0, st.1, st.2, st.3, st.4, st.5, st.6, st.7, st.8, st.7, st.8, st.11)
        jumps_fit k ops (block_label h arity rest skipped ∷ labels) results code own below front more (suc l) r st eb er e =
            jumps_fit k ops labels st.1 rest (listed st.0 ++ st.2) st.3 (front ++ st.2) more l r st.10
            (eb ∙ ap (λ xs. front ++ xs) st.5 ∙ sym (append_assoc front st.2 st.3)) er (sym (ap (λ rs. slice_get rs (suc l)) st.4) ∙ e)
        jumps_fit k ops (loop_label h body rest ∷ labels) results code own below front more (suc l) r st eb er e =
            jumps_fit k ops labels st.1 rest (listed st.0 ++ st.2) st.3 (front ++ st.2) more l r st.11
            (eb ∙ ap (λ xs. front ++ xs) st.5 ∙ sym (append_assoc front st.2 st.3)) er (sym (ap (λ rs. slice_get rs (suc l)) st.4) ∙ e)

        -- the end of a sequence
        finishes_fit : (ops : List Value) (labels : List Label) (results : List (Option ValType)) (own below : List ValType)
            → Stands m top deep c results labels done own below → types_of ops ≡ own ++ below → NextFits m outs (finish m s fn under ls ops labels)
        unfolding Stands Types
        finishes_fit ops [] results own below st e = leaves_here 0 ops below (e ∙ ap (λ xs. xs ++ below) st.2)
        finishes_fit ops (block_label h arity rest skipped ∷ labels) results own below st e =
            goes_on ls ops rest labels st.1 (listed st.0 ++ st.2) st.3 el (e ∙ ap (λ xs. xs ++ below) st.8 ∙ ap (λ xs. listed st.0 ++ xs) st.5 ∙ sym (append_assoc (listed st.0) st.2 st.3)) st.10
        finishes_fit ops (loop_label h body rest ∷ labels) results own below st e =
            goes_on ls ops rest labels st.1 (listed st.0 ++ st.2) st.3 el (e ∙ ap (λ xs. xs ++ below) st.9 ∙ ap (λ xs. listed st.0 ++ xs) st.5 ∙ sym (append_assoc (listed st.0) st.2 st.3)) st.11

        -- ---- instructions

        did_fits : (k : ℕ) (ops : List Value) (labels : List Label) (results : List (Option ValType)) (rest : Code) (mids below : List ValType) (d : Did)
            → Stands m top deep c results labels rest mids below → DidFits m (mids ++ below) ops d → NextFits m outs (did k fn under ls labels rest s ops d)
        did_fits k ops labels results rest mids below (works s' rs) st h = going_on s' h.0 ls (rs ++ ops) rest labels results mids below el h.1 st
        did_fits k ops labels results rest mids below (fails trap) st h = so
        did_fits k ops labels results rest mids below lacking st h = absurd h

        -- the topmost operand, of this type
        tops_fit : (ops : List Value) (t : ValType) (more : List ValType) (on : Value → List Value → Next) → types_of ops ≡ t ∷ more
            → ((x : Value) (below : List Value) → type_of x ≡ t → types_of below ≡ more → NextFits m outs (on x below)) → NextFits m outs (with_top ops on)
        tops_fit [] t more on e h = cc
        tops_fit (x ∷ ops) t more on e h = let a : type_of x ≡ t = cc in let b : types_of ops ≡ more = cc in h x ops a b

        numbers_fit : (ops : List Value) (more : List ValType) (on : ℕ → List Value → Next) → types_of ops ≡ I32 ∷ more
            → ((n : ℕ) (below : List Value) → types_of below ≡ more → NextFits m outs (on n below)) → NextFits m outs (with_number ops on)
        numbers_fit [] more on e h = cc
        numbers_fit (V.I32 n ∷ ops) more on e h = let b : types_of ops ≡ more = cc in h n ops b
        numbers_fit (V.I64 n ∷ ops) more on e h = cc

        chooses_fit : (n : ℕ) (x y : Next) → NextFits m outs x → NextFits m outs y → NextFits m outs (choose n x y)
        chooses_fit zero x y h k = k
        chooses_fit (suc n) x y h k = h

        gets_fit : (x : ℕ) (ops : List Value) (labels : List Label) (results : List (Option ValType)) (rest : Code) (own mids below : List ValType) (o : Option ValType)
            → slice_get (locals_of m f) x ≡ o → Takes (gets o) own mids → types_of ops ≡ own ++ below → Stands m top deep c results labels rest mids below
            → NextFits m outs (steps 0 (running s fn under ls (value_at ls x ∷ ops) rest labels))
        gets_fit x ops labels results rest own mids below None e h eo st = absurd h
        gets_fit x ops labels results rest own mids below (Some t) e h eo st =
            let ev : type_of (value_at ls x) ≡ t = value_typed ls x t (ap (λ ts. slice_get ts x) el ∙ e) in
            let et : types_of (value_at ls x ∷ ops) ≡ mids ++ below = ap (λ u. u ∷ types_of ops) ev ∙ ap (λ us. t ∷ us) (eo ∙ ap (λ xs. xs ++ below) h.1) ∙ ap (λ xs. xs ++ below) (sym h.2) in
            goes_on ls (value_at ls x ∷ ops) rest labels results mids below el et st

        sets_fit : (x : ℕ) (ops : List Value) (labels : List Label) (results : List (Option ValType)) (rest : Code) (own mids below : List ValType) (o : Option ValType)
            → slice_get (locals_of m f) x ≡ o → Takes (sets o) own mids → types_of ops ≡ own ++ below → Stands m top deep c results labels rest mids below
            → NextFits m outs (with_top ops (λ v lower. steps 0 (running s fn under (slice_set ls x v) lower rest labels)))
        sets_fit x ops labels results rest own mids below None e h eo st = absurd h
        sets_fit x ops labels results rest own mids below (Some t) e h eo st =
            tops_fit ops t (mids ++ below) _ (eo ∙ ap (λ xs. xs ++ below) (h.1 ∙ ap (λ xs. t ∷ xs) (sym h.2)))
            (λ v lower ev el'. goes_on (slice_set ls x v) lower rest labels results mids below
            (set_typed ls x v (ap (λ ts. slice_get ts x) el ∙ e ∙ ap (λ u. Some u) (sym ev)) ∙ el) el' st)

        tees_fit : (x : ℕ) (ops : List Value) (labels : List Label) (results : List (Option ValType)) (rest : Code) (own mids below : List ValType) (o : Option ValType)
            → slice_get (locals_of m f) x ≡ o → Takes (tees o) own mids → types_of ops ≡ own ++ below → Stands m top deep c results labels rest mids below
            → NextFits m outs (with_top ops (λ v lower. steps 0 (running s fn under (slice_set ls x v) (v ∷ lower) rest labels)))
        tees_fit x ops labels results rest own mids below None e h eo st = absurd h
        tees_fit x ops labels results rest own mids below (Some t) e h eo st =
            tops_fit ops t (h.0 ++ below) _ (eo ∙ ap (λ xs. xs ++ below) h.1)
            (λ v lower ev el'. goes_on (slice_set ls x v) (v ∷ lower) rest labels results mids below
            (set_typed ls x v (ap (λ ts. slice_get ts x) el ∙ e ∙ ap (λ u. Some u) (sym ev)) ∙ el)
            (ap (λ u. u ∷ types_of lower) ev ∙ ap (λ us. t ∷ us) el' ∙ ap (λ xs. xs ++ below) (sym h.2)) st)

        -- ---- branches

        br_fits : (ops : List Value) (labels : List Label) (results : List (Option ValType)) (code : Code) (own mids below : List ValType) (l : ℕ) (o : Option (Option ValType))
            → slice_get results l ≡ o → Takes (jump_sig o) own mids → types_of ops ≡ own ++ below → Stands m top deep c results labels code own below
            → NextFits m outs (jump 0 m s fn under ls ops labels l)
        br_fits ops labels results code own mids below l None e h eo st = absurd h
        br_fits ops labels results code own mids below l (Some r) e h eo st =
            jumps_fit 0 ops labels results code own below own (h.0 ++ below) l r st eo (eo ∙ ap (λ xs. xs ++ below) h.1 ∙ append_assoc (listed r) h.0 below) e

        br_if_fits : (ops : List Value) (labels : List Label) (results : List (Option ValType)) (code rest : Code) (own mids below : List ValType) (l : ℕ) (o : Option (Option ValType))
            → slice_get results l ≡ o → Takes (may_jump o) own mids → types_of ops ≡ own ++ below → Stands m top deep c results labels code own below
            → Stands m top deep c results labels rest mids below
            → NextFits m outs (with_number ops (λ n lower. choose n (jump 0 m s fn under ls lower labels l) (steps 0 (running s fn under ls lower rest labels))))
        br_if_fits ops labels results code rest own mids below l None e h eo st again = absurd h
        br_if_fits ops labels results code rest own mids below l (Some r) e h eo st again =
            numbers_fit ops (mids ++ below) _ (eo ∙ ap (λ xs. xs ++ below) (h.1 ∙ ap (λ xs. I32 ∷ xs) (sym h.2)))
            (λ n lower el'. chooses_fit n _ _
            (jumps_fit 0 lower labels results rest mids below mids (h.0 ++ below) l r again el' (el' ∙ ap (λ xs. xs ++ below) h.2 ∙ append_assoc (listed r) h.0 below) e)
            (goes_on ls lower rest labels results mids below el el' again))

        -- by what a branch table takes
        br_table_fits : (ops : List Value) (labels : List Label) (results : List (Option ValType)) (code : Code) (own mids below : List ValType) (targets : List ℕ) (last : ℕ)
            (o : Option (Option ValType))
            → slice_get results last ≡ o → Takes (jumps results targets o) own mids → types_of ops ≡ own ++ below → Stands m top deep c results labels code own below
            → NextFits m outs (with_number ops (λ n lower. jump (length targets + 1) m s fn under ls lower labels (unwrap_or (slice_get targets n) last)))
        br_table_fits ops labels results code own mids below targets last None e h eo st = absurd h
        br_table_fits ops labels results code own mids below targets last (Some r) e h eo st = by_there (all_there results targets) (all_alike results r targets) refl h
          where
            by_there : (a b : Bool) → all_alike results r targets ≡ b → Takes (if a then (if b then leaves (I32 ∷ listed r) else lacks StackTypes) else lacks UnknownLabel) own mids
                → NextFits m outs (with_number ops (λ n lower. jump (length targets + 1) m s fn under ls lower labels (unwrap_or (slice_get targets n) last)))
            by_there false b z h' = absurd h'
            by_there true false z h' = absurd h'
            by_there true true z h' =
                let et : types_of ops ≡ I32 ∷ (listed r ++ (h'.0 ++ below)) = eo ∙ ap (λ xs. xs ++ below) h'.1 ∙ ap (λ xs. I32 ∷ xs) (append_assoc (listed r) h'.0 below) in
                numbers_fit ops (listed r ++ (h'.0 ++ below)) _ et
                (λ n lower el'. jumps_fit (length targets + 1) lower labels results code own below (listed r ++ h'.0) (h'.0 ++ below) (unwrap_or (slice_get targets n) last) r st
                (el' ∙ sym (append_assoc (listed r) h'.0 below)) el' (chosen_alike results r targets last n e z))

        -- ---- calls

        -- a call with arguments on top
        invokes_fit : (own_ops ops : List Value) (labels : List Label) (results : List (Option ValType)) (rest : Code) (b0 below : List ValType) (x : ℕ) (t : FuncType)
            → x < length (func_sorts m) → func_type_at m x ≡ t → types_of ops ≡ reverse t.params ++ (b0 ++ below) → Stands m top deep c results labels rest (reverse t.results ++ b0) below
            → (o : Option Func) → defined_at m x ≡ o → NextFits m outs (invoke m s fn under ls own_ops ops rest labels (length t.params) x o)
        invokes_fit own_ops ops labels results rest b0 below x t lt et eo st o eq = by_callee o eq
          where
            params : ℕ
            params = length t.params

            split : (types_of (take params ops) ≡ reverse t.params) × (types_of (drop params ops) ≡ b0 ++ below)
            split =
                let n : length (reverse t.params) ≡ length t.params = length-reverse t.params in
                let p = split_types (reverse t.params) (b0 ++ below) ops eo in
                (ap (λ k. types_of (take k ops)) (sym n) ∙ p.0, ap (λ k. types_of (drop k ops)) (sym n) ∙ p.1)

            args_typed : types_of (reverse (take params ops)) ≡ (func_type_at m x).params
            args_typed = reversed_types (take params ops) ∙ ap reverse split.0 ∙ reverse-reverse t.params ∙ ap (λ (u : FuncType). u.params) (sym et)

            result_types : results_of m x ++ types_of (drop params ops) ≡ (reverse t.results ++ b0) ++ below
            result_types =
                ap (λ xs. xs ++ types_of (drop params ops)) (results_are m v x ∙ sym (one_reversed (func_type_at m x).results (func_type_small m v x)) ∙ ap (λ (u : FuncType). reverse u.results) et)
                ∙ ap (λ ys. reverse t.results ++ ys) split.1 ∙ sym (append_assoc (reverse t.results) b0 below)

            caller : CallersFit m outs (results_of m x) (waiting fn ls (drop params ops) (own_ops ++ take params ops) rest labels ∷ under)
            caller = (record { func = f; func_is = is; locals_fit = el; results = results; own = reverse t.results ++ b0; below = below; types_are = result_types; stands = st }, w)

            by_callee : (o : Option Func) → defined_at m x ≡ o → NextFits m outs (invoke m s fn under ls own_ops ops rest labels params x o)
            by_callee (Some g) e = by_room (nat_lt (length under + 1) 4096)
              where
                by_room : (b : Bool) → NextFits m outs (if b then steps params (entered s (waiting fn ls (drop params ops) (own_ops ++ take params ops) rest labels ∷ under)
                    (reverse (take params ops)) x g) else traps params StackExhausted s)
                by_room true = entered_fits (waiting fn ls (drop params ops) (own_ops ++ take params ops) rest labels ∷ under) (reverse (take params ops)) x g e args_typed caller
                by_room false = so
            by_callee None e = by_import (nat_lt x (func_imports m)) refl
              where
                by_import : (b : Bool) → nat_lt x (func_imports m) ≡ b → NextFits m outs
                    (if b then asks params x (reverse (take params ops)) (record {
                      store = s;
                      here = waiting fn ls (drop params ops) (own_ops ++ take params ops) rest labels;
                      under =
                          under;
                    }) else stuck)
                by_import true z = (ltb-true x (func_imports m) z, args_typed, record { store = so; waits = caller })
                by_import false z = let i = not_defined m x lt e in let j = ltb-false x (func_imports m) z in absurd (omega arith)

        calls_fit : (ops : List Value) (labels : List Label) (results : List (Option ValType)) (rest : Code) (own mids below : List ValType) (x : ℕ) (o : Option FuncType)
            → slice_get (func_types m) x ≡ o → Takes (calls o) own mids → types_of ops ≡ own ++ below → Stands m top deep c results labels rest mids below
            → NextFits m outs (invoke m s fn under ls [] ops rest labels (param_count (func_type_at m x)) x (defined_at m x))
        calls_fit ops labels results rest own mids below x None e h eo st = absurd h
        calls_fit ops labels results rest own mids below x (Some t) e h eo st =
            let found = func_found m x t e in
            let et : func_type_at m x ≡ t = found.1 in
            subst (λ (u : FuncType). NextFits m outs (invoke m s fn under ls [] ops rest labels (param_count u) x (defined_at m x))) (sym et)
            (invokes_fit [] ops labels results rest h.0 below x t found.0 et (eo ∙ ap (λ xs. xs ++ below) h.1 ∙ append_assoc (reverse t.params) h.0 below)
            (subst (λ xs. Stands m top deep c results labels rest xs below) h.2 st) (defined_at m x) refl)

        -- a call of what stands at a place of the table
        through_fits : (own_ops ops : List Value) (labels : List Label) (results : List (Option ValType)) (rest : Code) (b0 below : List ValType) (sort : ℕ)
            → types_of ops ≡ reverse (type_at m sort).params ++ (b0 ++ below) → Stands m top deep c results labels rest (reverse (type_at m sort).results ++ b0) below
            → (o : Option (Option ℕ)) → ((x : ℕ) → o ≡ Some (Some x) → x < length (func_sorts m)) → NextFits m outs (through m s fn under ls own_ops ops rest labels sort o)
        through_fits own_ops ops labels results rest b0 below sort eo st None h = so
        through_fits own_ops ops labels results rest b0 below sort eo st (Some None) h = so
        through_fits own_ops ops labels results rest b0 below sort eo st (Some (Some x)) h = by_type (same_func_type (func_type_at m x) (type_at m sort)) refl
          where
            by_type : (b : Bool) → same_func_type (func_type_at m x) (type_at m sort) ≡ b
                → NextFits m outs (if b then invoke m s fn under ls own_ops ops rest labels (param_count (type_at m sort)) x (defined_at m x) else traps (param_count (type_at m sort)) TypeMismatch s)
            by_type false z = so
            by_type true z = invokes_fit own_ops ops labels results rest b0 below x (type_at m sort) (h x refl) (func_types_true (func_type_at m x) (type_at m sort) z) eo st (defined_at m x) refl

        calls_at_fit : (ops : List Value) (labels : List Label) (results : List (Option ValType)) (rest : Code) (own mids below : List ValType) (sort : ℕ) (table : Bool) (o : Option FuncType)
            → slice_get m.types sort ≡ o → Takes (calls_at table o) own mids → types_of ops ≡ own ++ below → Stands m top deep c results labels rest mids below
            → NextFits m outs (with_number ops (λ n lower. through m s fn under ls (V.I32 n ∷ []) lower rest labels sort (slice_get s.table n)))
        calls_at_fit ops labels results rest own mids below sort table None e h eo st = absurd h
        calls_at_fit ops labels results rest own mids below sort false (Some t) e h eo st = absurd h
        calls_at_fit ops labels results rest own mids below sort true (Some t) e h eo st =
            let et : type_at m sort ≡ t = ap or_empty e in
            let eb : types_of ops ≡ I32 ∷ (reverse (type_at m sort).params ++ (h.0 ++ below)) =
            eo ∙ ap (λ xs. xs ++ below) h.1 ∙ ap (λ xs. I32 ∷ xs) (append_assoc (reverse t.params) h.0 below) ∙ ap (λ (u : FuncType). I32 ∷ (reverse u.params ++ (h.0 ++ below))) (sym et) in
            let st' : Stands m top deep c results labels rest (reverse (type_at m sort).results ++ h.0) below =
            subst (λ xs. Stands m top deep c results labels rest xs below) (h.2 ∙ ap (λ (u : FuncType). reverse u.results ++ h.0) (sym et)) st in
            numbers_fit ops (reverse (type_at m sort).params ++ (h.0 ++ below)) _ eb
            (λ n lower el'. through_fits (V.I32 n ∷ []) lower labels results rest h.0 below sort el' st' (slice_get s.table n)
            (λ x z. each_got (EntryNamed (length (func_sorts m))) s.table n (Some x) so.table z))

        -- ---- by the code that stands next

        plain_fits : (ops : List Value) (labels : List Label) (results : List (Option ValType)) (p : Plain) (rest : Code) (own mids below : List ValType)
            → Takes (sig c results p) own mids → types_of ops ≡ own ++ below → Stands m top deep c results labels (plain p rest) own below
            → (is_last p ≡ false → behind_plain m p (length (own ++ below)) ≡ length (mids ++ below) → Stands m top deep c results labels rest mids below)
            → NextFits m outs (step_at m s fn under ls ops labels (plain p rest))
        plain_fits ops labels results (basic b) rest own mids below h eo st again =
            did_fits (extra_cost b (take (takes b) ops)) (drop (takes b) ops) labels results rest mids below (act (memory_max m) b s (take (takes b) ops)) (again refl (basic_height c b own mids below h))
            (act_fits m c (memory_max m) b s ops (mids ++ below) refl so (subst (λ xs. Takes (basic_sig c b) xs (mids ++ below)) (sym eo) (takes_above (basic_sig c b) own mids below h)))
        plain_fits ops labels results (local_get x) rest own mids below h eo st again =
            gets_fit x ops labels results rest own mids below (slice_get (locals_of m f) x) refl h eo (again refl (gets_height (slice_get (locals_of m f) x) own mids below h))
        plain_fits ops labels results (local_set x) rest own mids below h eo st again =
            sets_fit x ops labels results rest own mids below (slice_get (locals_of m f) x) refl h eo (again refl (sets_height (slice_get (locals_of m f) x) own mids below h))
        plain_fits ops labels results (local_tee x) rest own mids below h eo st again =
            tees_fit x ops labels results rest own mids below (slice_get (locals_of m f) x) refl h eo (again refl (tees_height (slice_get (locals_of m f) x) own mids below h))
        plain_fits ops labels results (br l) rest own mids below h eo st again = br_fits ops labels results (plain (br l) rest) own mids below l (slice_get results l) refl h eo st
        plain_fits ops labels results (br_if l) rest own mids below h eo st again =
            br_if_fits ops labels results (plain (br_if l) rest) rest own mids below l (slice_get results l) refl h eo st (again refl (may_jump_height (slice_get results l) own mids below h))
        plain_fits ops labels results (br_table targets last) rest own mids below h eo st again =
            br_table_fits ops labels results (plain (br_table targets last) rest) own mids below targets last (slice_get results last) refl h eo st
        plain_fits ops labels results return rest own mids below h eo st again = leaves_here 0 ops (h.0 ++ below) (eo ∙ ap (λ xs. xs ++ below) h.1 ∙ append_assoc (listed c.result) h.0 below)
        plain_fits ops labels results unreachable rest own mids below h eo st again = so
        plain_fits ops labels results (call x) rest own mids below h eo st again =
            calls_fit ops labels results rest own mids below x (slice_get (func_types m) x) refl h eo
            (again refl (calls_height (slice_get (func_types m) x) (func_type_at m x) own mids below (λ t e. (func_found m x t e).1) (func_type_small m v x) h))
        plain_fits ops labels results (call_indirect sort) rest own mids below h eo st again =
            calls_at_fit ops labels results rest own mids below sort c.table (slice_get m.types sort) refl h eo
            (again refl (calls_at_height c.table (slice_get m.types sort) (type_at m sort) own mids below (λ t e. ap or_empty e) (type_small m v sort) h))

        -- a construct's body begins with none of the operands below it
        enters : (ops : List Value) (labels : List Label) (results : List (Option ValType)) (body rest : Code) (r : Option ValType) (skipped : Code) (own below : List ValType)
            → types_of ops ≡ own ++ below → Types c (r ∷ results) body (listed r) [] → Within m top deep body (length (own ++ below)) (suc (length labels))
            → Stands m top deep c results labels rest (listed r ++ own) below
            → Fits m outs (running s fn under ls ops body (block_label (length ops) (arity_of r) rest skipped ∷ labels))
        unfolding Stands
        enters ops labels results body rest r skipped own below eo t wi st =
            let h : length ops ≡ length (own ++ below) = sym (length-map ops type_of) ∙ ap length eo in
            goes_on ls ops body (block_label (length ops) (arity_of r) rest skipped ∷ labels) (r ∷ results) [] (own ++ below) el eo (r, results, own, below, refl, refl, h, refl, t, wi, st)

        enters_loop : (ops : List Value) (labels : List Label) (results : List (Option ValType)) (body rest : Code) (r : Option ValType) (own below : List ValType)
            → types_of ops ≡ own ++ below → Types c (None ∷ results) body (listed r) [] → Within m top deep body (length (own ++ below)) (suc (length labels))
            → Stands m top deep c results labels rest (listed r ++ own) below
            → Fits m outs (running s fn under ls ops body (loop_label (length ops) body rest ∷ labels))
        unfolding Stands
        enters_loop ops labels results body rest r own below eo t wi st =
            let h : length ops ≡ length (own ++ below) = sym (length-map ops type_of) ∙ ap length eo in
            goes_on ls ops body (loop_label (length ops) body rest ∷ labels) (None ∷ results) [] (own ++ below) el eo (r, results, own, below, refl, refl, h, t, wi, t, wi, st)

        -- what stands behind a construct
        behind_fits : (r : Option ValType) (rest : Code) (own below : List ValType) (d : ℕ) → Within m top deep rest (length (own ++ below) + arity_of r) d
            → Within m top deep rest (length ((listed r ++ own) ++ below)) d
        behind_fits r rest own below d w = subst (λ k. Within m top deep rest k d) (sym (listed_height r own below)) w

        code_fits : (ops : List Value) (labels : List Label) (results : List (Option ValType)) (code : Code) (own below : List ValType)
            → types_of ops ≡ own ++ below → Stands m top deep c results labels code own below → Restands m top deep c results labels code own below
            → NextFits m outs (step_at m s fn under ls ops labels code)
        unfolding Types
        code_fits ops labels results done own below eo st k = finishes_fit ops labels results own below st eo
        code_fits ops labels results (plain p rest) own below eo st k =
            let t = k.typed in
            plain_fits ops labels results p rest own t.0 below t.1 eo st (λ goes e. k.again rest t.0 t.2
            (rest_within m top deep p rest (length (own ++ below)) (length (t.0 ++ below)) (length labels) goes e k.within))
        code_fits ops labels results (nest a_block r body rest) own below eo st k =
            let t = k.typed in
            let w = nest_within m top deep a_block r body rest (length (own ++ below)) (length labels) k.within in
            enters ops labels results body rest r done own below eo t.0 w.0 (k.again rest (listed r ++ own) t.1 (behind_fits r rest own below (length labels) w.1))
        code_fits ops labels results (nest a_loop r body rest) own below eo st k =
            let t = k.typed in
            let w = nest_within m top deep a_loop r body rest (length (own ++ below)) (length labels) k.within in
            enters_loop ops labels results body rest r own below eo t.0 w.0 (k.again rest (listed r ++ own) t.1 (behind_fits r rest own below (length labels) w.1))
        code_fits ops labels results (branch r a b rest) own below eo st k =
            numbers_fit ops (k.typed.0 ++ below) _ (eo ∙ ap (λ xs. xs ++ below) k.typed.1) by_arm
          where
            arms : Within m top deep a (length (k.typed.0 ++ below)) (suc (length labels)) × Within m top deep b (length (k.typed.0 ++ below)) (suc (length labels))
                × Within m top deep rest (length (k.typed.0 ++ below) + arity_of r) (length labels)
            arms = branch_within m top deep r a b rest (length (k.typed.0 ++ below)) (length labels)
                (subst (λ xs. Within m top deep (branch r a b rest) (length (xs ++ below)) (length labels)) k.typed.1 k.within)

            by_arm : (n : ℕ) (lower : List Value) → types_of lower ≡ k.typed.0 ++ below → NextFits m outs (steps 0 (choose n
                (running s fn under ls lower a (block_label (length lower) (arity_of r) rest b ∷ labels))
                (running s fn under ls lower b (block_label (length lower) (arity_of r) rest done ∷ labels))))
            by_arm zero lower e =
                let t = k.typed in enters lower labels results b rest r done t.0 below e t.3 arms.1 (k.again rest (listed r ++ t.0) t.4 (behind_fits r rest t.0 below (length labels) arms.2))
            by_arm (suc n) lower e =
                let t = k.typed in enters lower labels results a rest r b t.0 below e t.2 arms.0 (k.again rest (listed r ++ t.0) t.4 (behind_fits r rest t.0 below (length labels) arms.2))

-- From a configuration that fits there is a reduction, and what comes next fits.
pub steps_fit : (m : Module) (outs : List ValType) (c : Configuration) → Valid m → Fits m outs c → NextFits m outs (step m c)
steps_fit m outs c v ok =
    let h = ok.here in
    code_fits m v outs c.store ok.store c.here.func h.func h.func_is c.under ok.under c.here.locals h.locals_fit c.here.operands c.here.labels h.results c.here.code h.own h.below
    h.types_are h.stands (restands m (most_operands m h.func.body 0) (depth_of h.func.body) (around m h.func) h.results c.here.labels c.here.code h.own h.below h.stands)
