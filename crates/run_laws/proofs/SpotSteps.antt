-- Reductions of a valid module keep each activation at a spot of its body, over operands of the spot's types.
use Rattle.std.proofs.Common.{◌≡◌, ℕ, zero, suc, ◌+◌, List, [], ◌∷◌, ◌++◌, map, reverse, Option, Some, None, Bool, true, false, refl, sym, ap, ◌∙◌, subst, length, take, drop, append_assoc}
use Rattle.std.specs.Prelude.{nat_lt, if◌then◌else◌, slice_get, slice_set, unwrap_or}
use Rattle.std.proofs.lemmas.List.{length-map, map-append, length-reverse, reverse-reverse}
use Rattle.wa_types.specs.declared.values.ValType.{ValType}
use Rattle.wa_types.specs.declared.values.ValType.TheVariants.{I32}
use Rattle.wa_types.specs.declared.values.Value.{Value}
use Rattle.wa_types.specs.declared.values.Value.TheVariants as V
use Rattle.wa_types.specs.declared.values.Trap.TheVariants.{StackExhausted, TypeMismatch}
use Rattle.wa_types.specs.Pruned.{is_last}
use Rattle.wa_types.specs.Pausing.{Callee, direct, indirect, callee as callee_of}
use Rattle.wa_types.specs.Syntax.{Plain, basic, local_get, local_set, local_tee, br, br_if, br_table, return, unreachable, call, call_indirect, a_block, a_loop, Code, done, plain, nest, branch, FuncType, Func, Module}
use Rattle.wa_types.specs.declared.rules.Rule.TheVariants.{UnknownLabel, StackTypes}
use Rattle.wa_types.specs.Typing.{Around, leaves, lacks, listed, type_of, all_there, all_alike, jump as jump_sig, may_jump, jumps, calls, calls_at, gets, sets, tees, basic_sig, sig, Takes, Types, Typed}
use Rattle.wa_types.specs.Validity.{Valid}
use Rattle.wa_types.specs.Modules.{func_imports, func_types, func_type_at, type_at, or_empty, declared_locals, locals_of, around, defined_at}
use Rattle.wa_types.proofs.PlaceLemmas.{last_no_call}
use Rattle.wa_model.specs.Store.{choose, Store, value_at, Did, works, fails, lacks as lacking, takes, extra_cost, act}
use Rattle.wa_model.specs.Configuration.{Label, block_label, loop_label, Activation, Configuration, running, waiting}
use Rattle.wa_model.specs.Step.{Next, steps, asks, returns, traps, stuck, keep, result_count, leave, jump, finish, did, with_top, with_number, arity_of, zero_of, entered, invoke, param_count, same_func_type, through, memory_max, step_at, step}
use Rattle.run_theory.specs.Fitting.{types_of, results_of, StoreFits}
use Rattle.run_theory.proofs.FittingNames.{split_types, carried_types, kept_types, reversed_types, value_typed, set_typed, zeros_typed, func_types_true, one_reversed, func_type_small, results_are, count_is, defined_type, func_found}
use Rattle.run_theory.proofs.FittingActs.{DidFits, act_fits}
use Rattle.run_theory.proofs.FittingSteps.{takes_above, chosen_alike, body_typed}
use Rattle.run_laws.proofs.Spots.{Spot, at_start, past, in_block, in_loop, in_arm, in_else, retyped, placed}

-- An activation that runs, over operands of these types, stands at a spot of its body.
pub record RunsAtSpot (m : Module) (fn : ℕ) (locals : List Value) (code : Code) (labels : List Label) (types : List ValType) : Type 0 where
  pub func : Func
  pub func_is : defined_at m fn ≡ Some func
  pub locals_fit : types_of locals ≡ locals_of m func
  pub results : List (Option ValType)
  pub own : List ValType
  pub below : List ValType
  pub types_are : types ≡ own ++ below
  pub spot : Spot (around m func) func.body results labels code own below

-- One that waits for a function stands just behind a call at a spot. Before the call it had operands of the spot's types.
pub record WaitsAtSpot (m : Module) (fn : ℕ) (a : Activation) : Type 0 where
  pub func : Func
  pub func_is : defined_at m a.func ≡ Some func
  pub locals_fit : types_of a.locals ≡ locals_of m func
  pub results : List (Option ValType)
  pub own : List ValType
  pub mids : List ValType
  pub below : List ValType
  pub call : Plain
  pub callee : Callee
  pub callee_is : callee_of call ≡ Some callee
  pub takes : Takes (sig (around m func) results call) own mids
  pub before : types_of (a.taken ++ a.operands) ≡ own ++ below
  pub behind : results_of m fn ++ types_of a.operands ≡ mids ++ below
  pub spot : Spot (around m func) func.body results a.labels (plain call a.code) own below

-- activations that wait, the innermost first, which waits for this function
abbrev pub CallersAtSpots : Module → ℕ → List Activation → Type 0
CallersAtSpots m fn [] = Unit {0}
CallersAtSpots m fn (a ∷ under) = WaitsAtSpot m fn a × CallersAtSpots m a.func under

pub record ConfigurationAtSpots (m : Module) (c : Configuration) : Type 0 where
  pub store : StoreFits m c.store
  pub here : RunsAtSpot m c.here.func c.here.locals c.here.code c.here.labels (types_of c.here.operands)
  pub under : CallersAtSpots m c.here.func c.under

-- a configuration that waits for an import
pub record WaitingAtSpots (m : Module) (import : ℕ) (c : Configuration) : Type 0 where
  pub store : StoreFits m c.store
  pub waits : CallersAtSpots m import (c.here ∷ c.under)

abbrev pub NextAtSpots : Module → Next → Type 0
NextAtSpots m (steps k d) = ConfigurationAtSpots m d
NextAtSpots m (asks k import args d) = WaitingAtSpots m import d
NextAtSpots m (returns k values s) = StoreFits m s
NextAtSpots m (traps k trap s) = StoreFits m s
NextAtSpots m stuck = Unit {0}

-- control goes on behind a call
call_goes : (p : Plain) (x : Callee) → callee_of p ≡ Some x → is_last p ≡ false
call_goes p x e = by_last (is_last p) refl
  where
    by_last : (b : Bool) → is_last p ≡ b → b ≡ false
    by_last true f = let bad = sym e ∙ last_no_call p f in cc
    by_last false f = refl

-- who waited goes on with results of the types that it waited for
pub goes_on_behind : (m : Module) (fn : ℕ) (a : Activation) (values : List Value) → WaitsAtSpot m fn a → types_of values ≡ results_of m fn
    → RunsAtSpot m a.func a.locals a.code a.labels (types_of (values ++ a.operands))
goes_on_behind m fn a values w e = record {
  func = w.func;
  func_is = w.func_is;
  locals_fit = w.locals_fit;
  results = w.results;
  own = w.mids;
  below = w.below;
  types_are = map-append type_of values a.operands ∙ ap (λ xs. xs ++ types_of a.operands) e ∙ w.behind;
  spot = past w.call w.own (call_goes w.call w.callee w.callee_is) w.takes w.spot;
}

take_back : (n : ℕ) (ops : List Value) → take n ops ++ drop n ops ≡ ops
take_back zero ops = refl
take_back (suc n) [] = refl
take_back (suc n) (x ∷ ops) = ap (λ xs. x ∷ xs) (take_back n ops)

module _ (m : Module) (v : Valid m) where
  module _ (s : Store) (so : StoreFits m s) where
    -- ---- results

    leaves_spot : (k fn : ℕ) (ops : List Value) (more : List ValType) (under : List Activation) → types_of ops ≡ results_of m fn ++ more
        → CallersAtSpots m fn under → NextAtSpots m (leave k s ops (result_count m fn) under)
    leaves_spot k fn ops more [] e w = so
    leaves_spot k fn ops more (a ∷ under) e w =
        let taken : types_of (take (result_count m fn) ops) ≡ results_of m fn = ap (λ n. types_of (take n ops)) (count_is m v fn) ∙ (split_types (results_of m fn) more ops e).0 in
        record { store = so; here = goes_on_behind m fn a (take (result_count m fn) ops) w.0 taken; under = w.1 }

    -- ---- calls

    -- a function that is entered with arguments of its types
    pub entered_spot : (under : List Activation) (args : List Value) (x : ℕ) (g : Func) → defined_at m x ≡ Some g → types_of args ≡ (func_type_at m x).params → CallersAtSpots m x under
        → ConfigurationAtSpots m (entered s under args x g)
    entered_spot under args x g is e w =
        let locals : types_of (args ++ map zero_of (declared_locals g.locals)) ≡ locals_of m g =
        map-append type_of args (map zero_of (declared_locals g.locals))
        ∙ ap (λ ts. ts ++ types_of (map zero_of (declared_locals g.locals))) (e ∙ ap (λ (t : FuncType). t.params) (defined_type m x g is))
        ∙ ap (λ ts. (type_at m g.sort).params ++ ts) (zeros_typed (declared_locals g.locals)) in
        let c : Around = around m g in record {
          store = so;
          here = record { func = g; func_is = is; locals_fit = locals; results = c.result ∷ []; own = []; below = []; types_are = refl; spot = at_start refl };
          under = w;
        }

    module _ (fn : ℕ) (f : Func) (is : defined_at m fn ≡ Some f) (under : List Activation) (w : CallersAtSpots m fn under) where
      abbrev c : Around
      c = around m f

      typed : Typed c f.body
      typed = body_typed m v fn f is

      result_is : results_of m fn ≡ listed c.result
      result_is = ap (λ (t : FuncType). listed (slice_get t.results 0)) (defined_type m fn f is)

      -- a configuration of this activation
      going_on : (s' : Store) → StoreFits m s' → (ls ops : List Value) (code : Code) (labels : List Label) (results : List (Option ValType)) (own below : List ValType)
          → types_of ls ≡ locals_of m f → types_of ops ≡ own ++ below → Spot c f.body results labels code own below → ConfigurationAtSpots m (running s' fn under ls ops code labels)
      going_on s' so' ls ops code labels results own below el eo st =
          record { store = so'; here = record { func = f; func_is = is; locals_fit = el; results = results; own = own; below = below; types_are = eo; spot = st }; under = w }

      goes_on : (ls ops : List Value) (code : Code) (labels : List Label) (results : List (Option ValType)) (own below : List ValType)
          → types_of ls ≡ locals_of m f → types_of ops ≡ own ++ below → Spot c f.body results labels code own below → ConfigurationAtSpots m (running s fn under ls ops code labels)
      goes_on ls ops code labels results own below el eo st = going_on s so ls ops code labels results own below el eo st

      leaves_here : (k : ℕ) (ops : List Value) (more : List ValType) → types_of ops ≡ listed c.result ++ more → NextAtSpots m (leave k s ops (result_count m fn) under)
      leaves_here k ops more e = leaves_spot k fn ops more under (e ∙ ap (λ xs. xs ++ more) (sym result_is)) w

      module _ (ls : List Value) (el : types_of ls ≡ locals_of m f) where
        -- a branch to a label that takes the topmost operands
        jumps_spot : (k : ℕ) (ops : List Value) (labels : List Label) (results : List (Option ValType)) (code : Code) (own below front more : List ValType) (l : ℕ) (r : Option ValType)
            → Spot c f.body results labels code own below → types_of ops ≡ front ++ below → types_of ops ≡ listed r ++ more → slice_get results l ≡ Some r
            → NextAtSpots m (jump k m s fn under ls ops labels l)
        jumps_spot k ops [] results code own below front more zero r st eb er e =
            let p = placed c f.body results [] code own below typed st in
            let z : r ≡ c.result = ap (λ o. unwrap_or o r) (sym e ∙ ap (λ rs. slice_get rs 0) p.0) in leaves_here k ops more (er ∙ ap (λ x. listed x ++ more) z)
        jumps_spot k ops [] results code own below front more (suc l) r st eb er e =
            let p = placed c f.body results [] code own below typed st in
            let z = sym e ∙ ap (λ rs. slice_get rs (suc l)) p.0 in cc
        jumps_spot k ops (block_label h arity rest skipped ∷ labels) results code own below front more zero r st eb er e =
            let p = placed c f.body results (block_label h arity rest skipped ∷ labels) code own below typed st in
            let z : r ≡ p.0 = ap (λ o. unwrap_or o r) (sym e ∙ ap (λ rs. slice_get rs 0) p.4) in
            let types : types_of (take arity ops ++ keep h ops) ≡ listed p.0 ++ below = carried_types p.0 more front below h arity ops (er ∙ ap (λ x. listed x ++ more) z) eb p.6 p.7 in
            goes_on ls (take arity ops ++ keep h ops) rest labels p.1 (listed p.0 ++ p.2) p.3 el (types ∙ ap (λ xs. listed p.0 ++ xs) p.5 ∙ sym (append_assoc (listed p.0) p.2 p.3)) p.9
        jumps_spot k ops (loop_label h body rest ∷ labels) results code own below front more zero r st eb er e =
            let p = placed c f.body results (loop_label h body rest ∷ labels) code own below typed st in
            goes_on ls (keep h ops) body (loop_label h body rest ∷ labels) results [] below el (kept_types front below h ops eb p.6) p.9
        jumps_spot k ops (block_label h arity rest skipped ∷ labels) results code own below front more (suc l) r st eb er e =
            let p = placed c f.body results (block_label h arity rest skipped ∷ labels) code own below typed st in
            jumps_spot k ops labels p.1 rest (listed p.0 ++ p.2) p.3 (front ++ p.2) more l r p.9
            (eb ∙ ap (λ xs. front ++ xs) p.5 ∙ sym (append_assoc front p.2 p.3)) er (sym (ap (λ rs. slice_get rs (suc l)) p.4) ∙ e)
        jumps_spot k ops (loop_label h body rest ∷ labels) results code own below front more (suc l) r st eb er e =
            let p = placed c f.body results (loop_label h body rest ∷ labels) code own below typed st in
            jumps_spot k ops labels p.1 rest (listed p.0 ++ p.2) p.3 (front ++ p.2) more l r p.8
            (eb ∙ ap (λ xs. front ++ xs) p.5 ∙ sym (append_assoc front p.2 p.3)) er (sym (ap (λ rs. slice_get rs (suc l)) p.4) ∙ e)

        -- the end of a sequence
        finishes_spot : (ops : List Value) (labels : List Label) (results : List (Option ValType)) (own below : List ValType)
            → Spot c f.body results labels done own below → types_of ops ≡ own ++ below → NextAtSpots m (finish m s fn under ls ops labels)
        unfolding Types
        finishes_spot ops [] results own below st e =
            let p = placed c f.body results [] done own below typed st in
            leaves_here 0 ops below (e ∙ ap (λ xs. xs ++ below) p.2)
        finishes_spot ops (block_label h arity rest skipped ∷ labels) results own below st e =
            let p = placed c f.body results (block_label h arity rest skipped ∷ labels) done own below typed st in
            goes_on ls ops rest labels p.1 (listed p.0 ++ p.2) p.3 el (e ∙ ap (λ xs. xs ++ below) p.8 ∙ ap (λ xs. listed p.0 ++ xs) p.5 ∙ sym (append_assoc (listed p.0) p.2 p.3)) p.9
        finishes_spot ops (loop_label h body rest ∷ labels) results own below st e =
            let p = placed c f.body results (loop_label h body rest ∷ labels) done own below typed st in
            goes_on ls ops rest labels p.1 (listed p.0 ++ p.2) p.3 el (e ∙ ap (λ xs. xs ++ below) p.7 ∙ ap (λ xs. listed p.0 ++ xs) p.5 ∙ sym (append_assoc (listed p.0) p.2 p.3)) p.8

        -- ---- instructions

        did_spot : (k : ℕ) (ops : List Value) (labels : List Label) (results : List (Option ValType)) (rest : Code) (mids below : List ValType) (d : Did)
            → Spot c f.body results labels rest mids below → DidFits m (mids ++ below) ops d → NextAtSpots m (did k fn under ls labels rest s ops d)
        did_spot k ops labels results rest mids below (works s' rs) st h = going_on s' h.0 ls (rs ++ ops) rest labels results mids below el h.1 st
        did_spot k ops labels results rest mids below (fails trap) st h = so
        did_spot k ops labels results rest mids below lacking st h = absurd h

        -- the topmost operand, of this type
        tops_spot : (ops : List Value) (t : ValType) (more : List ValType) (on : Value → List Value → Next) → types_of ops ≡ t ∷ more
            → ((x : Value) (below : List Value) → type_of x ≡ t → types_of below ≡ more → NextAtSpots m (on x below)) → NextAtSpots m (with_top ops on)
        tops_spot [] t more on e h = cc
        tops_spot (x ∷ ops) t more on e h = let a : type_of x ≡ t = cc in let b : types_of ops ≡ more = cc in h x ops a b

        numbers_spot : (ops : List Value) (more : List ValType) (on : ℕ → List Value → Next) → types_of ops ≡ I32 ∷ more
            → ((n : ℕ) (below : List Value) → types_of below ≡ more → NextAtSpots m (on n below)) → NextAtSpots m (with_number ops on)
        numbers_spot [] more on e h = cc
        numbers_spot (V.I32 n ∷ ops) more on e h = let b : types_of ops ≡ more = cc in h n ops b
        numbers_spot (V.I64 n ∷ ops) more on e h = cc

        chooses_spot : (n : ℕ) (x y : Next) → NextAtSpots m x → NextAtSpots m y → NextAtSpots m (choose n x y)
        chooses_spot zero x y h k = k
        chooses_spot (suc n) x y h k = h

        gets_spot : (x : ℕ) (ops : List Value) (labels : List Label) (results : List (Option ValType)) (rest : Code) (own mids below : List ValType) (o : Option ValType)
            → slice_get (locals_of m f) x ≡ o → Takes (gets o) own mids → types_of ops ≡ own ++ below → Spot c f.body results labels rest mids below
            → NextAtSpots m (steps 0 (running s fn under ls (value_at ls x ∷ ops) rest labels))
        gets_spot x ops labels results rest own mids below None e h eo st = absurd h
        gets_spot x ops labels results rest own mids below (Some t) e h eo st =
            let ev : type_of (value_at ls x) ≡ t = value_typed ls x t (ap (λ ts. slice_get ts x) el ∙ e) in
            let et : types_of (value_at ls x ∷ ops) ≡ mids ++ below = ap (λ u. u ∷ types_of ops) ev ∙ ap (λ us. t ∷ us) (eo ∙ ap (λ xs. xs ++ below) h.1) ∙ ap (λ xs. xs ++ below) (sym h.2) in
            goes_on ls (value_at ls x ∷ ops) rest labels results mids below el et st

        sets_spot : (x : ℕ) (ops : List Value) (labels : List Label) (results : List (Option ValType)) (rest : Code) (own mids below : List ValType) (o : Option ValType)
            → slice_get (locals_of m f) x ≡ o → Takes (sets o) own mids → types_of ops ≡ own ++ below → Spot c f.body results labels rest mids below
            → NextAtSpots m (with_top ops (λ v lower. steps 0 (running s fn under (slice_set ls x v) lower rest labels)))
        sets_spot x ops labels results rest own mids below None e h eo st = absurd h
        sets_spot x ops labels results rest own mids below (Some t) e h eo st =
            tops_spot ops t (mids ++ below) _ (eo ∙ ap (λ xs. xs ++ below) (h.1 ∙ ap (λ xs. t ∷ xs) (sym h.2)))
            (λ v lower ev el'. goes_on (slice_set ls x v) lower rest labels results mids below
            (set_typed ls x v (ap (λ ts. slice_get ts x) el ∙ e ∙ ap (λ u. Some u) (sym ev)) ∙ el) el' st)

        tees_spot : (x : ℕ) (ops : List Value) (labels : List Label) (results : List (Option ValType)) (rest : Code) (own mids below : List ValType) (o : Option ValType)
            → slice_get (locals_of m f) x ≡ o → Takes (tees o) own mids → types_of ops ≡ own ++ below → Spot c f.body results labels rest mids below
            → NextAtSpots m (with_top ops (λ v lower. steps 0 (running s fn under (slice_set ls x v) (v ∷ lower) rest labels)))
        tees_spot x ops labels results rest own mids below None e h eo st = absurd h
        tees_spot x ops labels results rest own mids below (Some t) e h eo st =
            tops_spot ops t (h.0 ++ below) _ (eo ∙ ap (λ xs. xs ++ below) h.1)
            (λ v lower ev el'. goes_on (slice_set ls x v) (v ∷ lower) rest labels results mids below
            (set_typed ls x v (ap (λ ts. slice_get ts x) el ∙ e ∙ ap (λ u. Some u) (sym ev)) ∙ el)
            (ap (λ u. u ∷ types_of lower) ev ∙ ap (λ us. t ∷ us) el' ∙ ap (λ xs. xs ++ below) (sym h.2)) st)

        -- ---- branches

        br_spot : (ops : List Value) (labels : List Label) (results : List (Option ValType)) (code : Code) (own mids below : List ValType) (l : ℕ) (o : Option (Option ValType))
            → slice_get results l ≡ o → Takes (jump_sig o) own mids → types_of ops ≡ own ++ below → Spot c f.body results labels code own below → NextAtSpots m (jump 0 m s fn under ls ops labels l)
        br_spot ops labels results code own mids below l None e h eo st = absurd h
        br_spot ops labels results code own mids below l (Some r) e h eo st =
            jumps_spot 0 ops labels results code own below own (h.0 ++ below) l r st eo (eo ∙ ap (λ xs. xs ++ below) h.1 ∙ append_assoc (listed r) h.0 below) e

        br_if_spot : (ops : List Value) (labels : List Label) (results : List (Option ValType)) (code rest : Code) (own mids below : List ValType) (l : ℕ) (o : Option (Option ValType))
            → slice_get results l ≡ o → Takes (may_jump o) own mids → types_of ops ≡ own ++ below → Spot c f.body results labels code own below → Spot c f.body results labels rest mids below
            → NextAtSpots m (with_number ops (λ n lower. choose n (jump 0 m s fn under ls lower labels l) (steps 0 (running s fn under ls lower rest labels))))
        br_if_spot ops labels results code rest own mids below l None e h eo st again = absurd h
        br_if_spot ops labels results code rest own mids below l (Some r) e h eo st again =
            numbers_spot ops (mids ++ below) _ (eo ∙ ap (λ xs. xs ++ below) (h.1 ∙ ap (λ xs. I32 ∷ xs) (sym h.2)))
            (λ n lower el'. chooses_spot n _ _
            (jumps_spot 0 lower labels results rest mids below mids (h.0 ++ below) l r again el' (el' ∙ ap (λ xs. xs ++ below) h.2 ∙ append_assoc (listed r) h.0 below) e)
            (goes_on ls lower rest labels results mids below el el' again))

        -- by what a branch table takes
        br_table_spot : (ops : List Value) (labels : List Label) (results : List (Option ValType)) (code : Code) (own mids below : List ValType) (targets : List ℕ) (last : ℕ)
            (o : Option (Option ValType))
            → slice_get results last ≡ o → Takes (jumps results targets o) own mids → types_of ops ≡ own ++ below → Spot c f.body results labels code own below
            → NextAtSpots m (with_number ops (λ n lower. jump (length targets + 1) m s fn under ls lower labels (unwrap_or (slice_get targets n) last)))
        br_table_spot ops labels results code own mids below targets last None e h eo st = absurd h
        br_table_spot ops labels results code own mids below targets last (Some r) e h eo st = by_there (all_there results targets) (all_alike results r targets) refl h
          where
            by_there : (a b : Bool) → all_alike results r targets ≡ b → Takes (if a then (if b then leaves (I32 ∷ listed r) else lacks StackTypes) else lacks UnknownLabel) own mids
                → NextAtSpots m (with_number ops (λ n lower. jump (length targets + 1) m s fn under ls lower labels (unwrap_or (slice_get targets n) last)))
            by_there false b z h' = absurd h'
            by_there true false z h' = absurd h'
            by_there true true z h' =
                let et : types_of ops ≡ I32 ∷ (listed r ++ (h'.0 ++ below)) = eo ∙ ap (λ xs. xs ++ below) h'.1 ∙ ap (λ xs. I32 ∷ xs) (append_assoc (listed r) h'.0 below) in
                numbers_spot ops (listed r ++ (h'.0 ++ below)) _ et
                (λ n lower el'. jumps_spot (length targets + 1) lower labels results code own below (listed r ++ h'.0) (h'.0 ++ below) (unwrap_or (slice_get targets n) last) r st
                (el' ∙ sym (append_assoc (listed r) h'.0 below)) el' (chosen_alike results r targets last n e z))

        -- ---- calls

        -- a call with arguments on top, above the operands that the instruction took itself
        invokes_spot : (own_ops ops : List Value) (labels : List Label) (results : List (Option ValType)) (p : Plain) (at : Callee) (rest : Code) (own b0 below : List ValType) (x : ℕ) (t : FuncType)
            → callee_of p ≡ Some at → Takes (sig c results p) own (reverse t.results ++ b0) → types_of (own_ops ++ ops) ≡ own ++ below
            → func_type_at m x ≡ t → types_of ops ≡ reverse t.params ++ (b0 ++ below) → Spot c f.body results labels (plain p rest) own below
            → (o : Option Func) → defined_at m x ≡ o → NextAtSpots m (invoke m s fn under ls own_ops ops rest labels (length t.params) x o)
        invokes_spot own_ops ops labels results p at rest own b0 below x t calls takes whole et eo st o eq = by_callee o eq
          where
            params : ℕ
            params = length t.params

            split : (types_of (take params ops) ≡ reverse t.params) × (types_of (drop params ops) ≡ b0 ++ below)
            split =
                let n : length (reverse t.params) ≡ length t.params = length-reverse t.params in
                let q = split_types (reverse t.params) (b0 ++ below) ops eo in
                (ap (λ k. types_of (take k ops)) (sym n) ∙ q.0, ap (λ k. types_of (drop k ops)) (sym n) ∙ q.1)

            args_typed : types_of (reverse (take params ops)) ≡ (func_type_at m x).params
            args_typed = reversed_types (take params ops) ∙ ap reverse split.0 ∙ reverse-reverse t.params ∙ ap (λ (u : FuncType). u.params) (sym et)

            result_types : results_of m x ++ types_of (drop params ops) ≡ (reverse t.results ++ b0) ++ below
            result_types =
                ap (λ xs. xs ++ types_of (drop params ops)) (results_are m v x ∙ sym (one_reversed (func_type_at m x).results (func_type_small m v x)) ∙ ap (λ (u : FuncType). reverse u.results) et)
                ∙ ap (λ ys. reverse t.results ++ ys) split.1 ∙ sym (append_assoc (reverse t.results) b0 below)

            taken_types : types_of ((own_ops ++ take params ops) ++ drop params ops) ≡ own ++ below
            taken_types = ap types_of (append_assoc own_ops (take params ops) (drop params ops) ∙ ap (λ xs. own_ops ++ xs) (take_back params ops)) ∙ whole

            caller : CallersAtSpots m x (waiting fn ls (drop params ops) (own_ops ++ take params ops) rest labels ∷ under)
            caller = (
              record {
                func = f;
                func_is = is;
                locals_fit = el;
                results = results;
                own = own;
                mids = reverse t.results ++ b0;
                below = below;
                call = p;
                callee = at;
                callee_is = calls;
                takes = takes;
                before = taken_types;
                behind = result_types;
                spot = st;
              },
              w,
            )

            by_callee : (o : Option Func) → defined_at m x ≡ o → NextAtSpots m (invoke m s fn under ls own_ops ops rest labels params x o)
            by_callee (Some g) e = by_room (nat_lt (length under + 1) 4096)
              where
                by_room : (b : Bool) → NextAtSpots m
                    (if b then steps params (entered s (waiting fn ls (drop params ops) (own_ops ++ take params ops) rest labels ∷ under) (reverse (take params ops)) x g)
                    else traps params StackExhausted s)
                by_room true = entered_spot (waiting fn ls (drop params ops) (own_ops ++ take params ops) rest labels ∷ under) (reverse (take params ops)) x g e args_typed caller
                by_room false = so
            by_callee None e = by_import (nat_lt x (func_imports m))
              where
                by_import : (b : Bool) → NextAtSpots m
                    (if b then asks params x (reverse (take params ops)) (record { store = s; here = waiting fn ls (drop params ops) (own_ops ++ take params ops) rest labels; under = under })
                    else stuck)
                by_import true = record { store = so; waits = caller }
                by_import false = tt

        calls_spot : (ops : List Value) (labels : List Label) (results : List (Option ValType)) (rest : Code) (own mids below : List ValType) (x : ℕ) (o : Option FuncType)
            → slice_get (func_types m) x ≡ o → Takes (calls o) own mids → types_of ops ≡ own ++ below → Spot c f.body results labels (plain (call x) rest) own below
            → NextAtSpots m (invoke m s fn under ls [] ops rest labels (param_count (func_type_at m x)) x (defined_at m x))
        calls_spot ops labels results rest own mids below x None e h eo st = absurd h
        calls_spot ops labels results rest own mids below x (Some t) e h eo st =
            let found = func_found m x t e in
            let et : func_type_at m x ≡ t = found.1 in
            let takes : Takes (sig c results (call x)) own (reverse t.results ++ h.0) = subst (λ q. Takes (calls q) own (reverse t.results ++ h.0)) (sym e) (h.0, h.1, refl) in
            subst (λ (u : FuncType). NextAtSpots m (invoke m s fn under ls [] ops rest labels (param_count u) x (defined_at m x))) (sym et)
            (invokes_spot [] ops labels results (call x) (direct x) rest own h.0 below x t refl takes eo et
            (eo ∙ ap (λ xs. xs ++ below) h.1 ∙ append_assoc (reverse t.params) h.0 below) st (defined_at m x) refl)

        -- a call of what stands at a place of the table
        through_spot : (n : ℕ) (ops : List Value) (labels : List Label) (results : List (Option ValType)) (rest : Code) (own b0 below : List ValType) (sort : ℕ)
            → Takes (sig c results (call_indirect sort)) own (reverse (type_at m sort).results ++ b0) → types_of (V.I32 n ∷ ops) ≡ own ++ below
            → types_of ops ≡ reverse (type_at m sort).params ++ (b0 ++ below) → Spot c f.body results labels (plain (call_indirect sort) rest) own below
            → (o : Option (Option ℕ)) → NextAtSpots m (through m s fn under ls (V.I32 n ∷ []) ops rest labels sort o)
        through_spot n ops labels results rest own b0 below sort takes whole eo st None = so
        through_spot n ops labels results rest own b0 below sort takes whole eo st (Some None) = so
        through_spot n ops labels results rest own b0 below sort takes whole eo st (Some (Some x)) = by_type (same_func_type (func_type_at m x) (type_at m sort)) refl
          where
            by_type : (b : Bool) → same_func_type (func_type_at m x) (type_at m sort) ≡ b
                → NextAtSpots m (if b then invoke m s fn under ls (V.I32 n ∷ []) ops rest labels (param_count (type_at m sort)) x (defined_at m x)
                else traps (param_count (type_at m sort)) TypeMismatch s)
            by_type false z = so
            by_type true z =
                invokes_spot (V.I32 n ∷ []) ops labels results (call_indirect sort) (indirect sort) rest own b0 below x (type_at m sort) refl takes whole
                (func_types_true (func_type_at m x) (type_at m sort) z) eo st (defined_at m x) refl

        calls_at_spot : (ops : List Value) (labels : List Label) (results : List (Option ValType)) (rest : Code) (own mids below : List ValType) (sort : ℕ) (table : Bool) (o : Option FuncType)
            → c.table ≡ table → slice_get m.types sort ≡ o → Takes (calls_at table o) own mids → types_of ops ≡ own ++ below → Spot c f.body results labels (plain (call_indirect sort) rest) own below
            → NextAtSpots m (with_number ops (λ n lower. through m s fn under ls (V.I32 n ∷ []) lower rest labels sort (slice_get s.table n)))
        calls_at_spot ops labels results rest own mids below sort table None z e h eo st = absurd h
        calls_at_spot ops labels results rest own mids below sort false (Some t) z e h eo st = absurd h
        calls_at_spot ops labels results rest own mids below sort true (Some t) z e h eo st =
            let et : type_at m sort ≡ t = ap or_empty e in
            let eb : types_of ops ≡ I32 ∷ (reverse (type_at m sort).params ++ (h.0 ++ below)) =
            eo ∙ ap (λ xs. xs ++ below) h.1 ∙ ap (λ xs. I32 ∷ xs) (append_assoc (reverse t.params) h.0 below) ∙ ap (λ (u : FuncType). I32 ∷ (reverse u.params ++ (h.0 ++ below))) (sym et) in
            let found : Takes (calls_at true (Some t)) own (reverse t.results ++ h.0) = (h.0, h.1, refl) in
            let there : Takes (calls_at c.table (slice_get m.types sort)) own (reverse t.results ++ h.0) =
            subst (λ b. Takes (calls_at b (slice_get m.types sort)) own (reverse t.results ++ h.0)) (sym z) (subst (λ q. Takes (calls_at true q) own (reverse t.results ++ h.0)) (sym e) found) in
            let takes : Takes (sig c results (call_indirect sort)) own (reverse (type_at m sort).results ++ h.0) =
            subst (λ (u : FuncType). Takes (sig c results (call_indirect sort)) own (reverse u.results ++ h.0)) (sym et) there in
            numbers_spot ops (reverse (type_at m sort).params ++ (h.0 ++ below)) _ eb
            (λ n lower el'. through_spot n lower labels results rest own h.0 below sort takes (ap (λ xs. I32 ∷ xs) el' ∙ sym eb ∙ eo) el' st (slice_get s.table n))

        -- ---- by the code that stands next

        plain_spot : (ops : List Value) (labels : List Label) (results : List (Option ValType)) (p : Plain) (rest : Code) (own mids below : List ValType)
            → Takes (sig c results p) own mids → types_of ops ≡ own ++ below → Spot c f.body results labels (plain p rest) own below
            → (is_last p ≡ false → Spot c f.body results labels rest mids below)
            → NextAtSpots m (step_at m s fn under ls ops labels (plain p rest))
        plain_spot ops labels results (basic b) rest own mids below h eo st again =
            did_spot (extra_cost b (take (takes b) ops)) (drop (takes b) ops) labels results rest mids below (act (memory_max m) b s (take (takes b) ops)) (again refl)
            (act_fits m c (memory_max m) b s ops (mids ++ below) refl so (subst (λ xs. Takes (basic_sig c b) xs (mids ++ below)) (sym eo) (takes_above (basic_sig c b) own mids below h)))
        plain_spot ops labels results (local_get x) rest own mids below h eo st again =
            gets_spot x ops labels results rest own mids below (slice_get (locals_of m f) x) refl h eo (again refl)
        plain_spot ops labels results (local_set x) rest own mids below h eo st again =
            sets_spot x ops labels results rest own mids below (slice_get (locals_of m f) x) refl h eo (again refl)
        plain_spot ops labels results (local_tee x) rest own mids below h eo st again =
            tees_spot x ops labels results rest own mids below (slice_get (locals_of m f) x) refl h eo (again refl)
        plain_spot ops labels results (br l) rest own mids below h eo st again = br_spot ops labels results (plain (br l) rest) own mids below l (slice_get results l) refl h eo st
        plain_spot ops labels results (br_if l) rest own mids below h eo st again =
            br_if_spot ops labels results (plain (br_if l) rest) rest own mids below l (slice_get results l) refl h eo st (again refl)
        plain_spot ops labels results (br_table targets last) rest own mids below h eo st again =
            br_table_spot ops labels results (plain (br_table targets last) rest) own mids below targets last (slice_get results last) refl h eo st
        plain_spot ops labels results return rest own mids below h eo st again = leaves_here 0 ops (h.0 ++ below) (eo ∙ ap (λ xs. xs ++ below) h.1 ∙ append_assoc (listed c.result) h.0 below)
        plain_spot ops labels results unreachable rest own mids below h eo st again = so
        plain_spot ops labels results (call x) rest own mids below h eo st again = calls_spot ops labels results rest own mids below x (slice_get (func_types m) x) refl h eo st
        plain_spot ops labels results (call_indirect sort) rest own mids below h eo st again =
            calls_at_spot ops labels results rest own mids below sort c.table (slice_get m.types sort) refl refl h eo st

        height_is : (ops : List Value) (types : List ValType) → types_of ops ≡ types → length ops ≡ length types
        height_is ops types e = sym (length-map ops type_of) ∙ ap length e

        code_spot : (ops : List Value) (labels : List Label) (results : List (Option ValType)) (code : Code) (own below : List ValType)
            → types_of ops ≡ own ++ below → Spot c f.body results labels code own below → NextAtSpots m (step_at m s fn under ls ops labels code)
        unfolding Types
        code_spot ops labels results done own below eo st = finishes_spot ops labels results own below st eo
        code_spot ops labels results (plain p rest) own below eo st =
            let t = (retyped c f.body results labels (plain p rest) own below (placed c f.body results labels (plain p rest) own below typed st)).typed in
            plain_spot ops labels results p rest own t.0 below t.1 eo st (λ goes. past p own goes t.1 st)
        code_spot ops labels results (nest a_block r body rest) own below eo st =
            goes_on ls ops body (block_label (length ops) (arity_of r) rest done ∷ labels) (r ∷ results) [] (own ++ below) el eo
            (in_block own below refl (height_is ops (own ++ below) eo) refl refl st)
        code_spot ops labels results (nest a_loop r body rest) own below eo st =
            goes_on ls ops body (loop_label (length ops) body rest ∷ labels) (None ∷ results) [] (own ++ below) el eo (in_loop r own below refl (height_is ops (own ++ below) eo) st)
        code_spot ops labels results (branch r a b rest) own below eo st =
            numbers_spot ops (kinds.0 ++ below) _ (eo ∙ ap (λ xs. xs ++ below) kinds.1) by_arm
          where
            kinds : (lower : List ValType) × (own ≡ I32 ∷ lower)
            kinds = let t = (retyped c f.body results labels (branch r a b rest) own below (placed c f.body results labels (branch r a b rest) own below typed st)).typed in (t.0, t.1)

            by_arm : (n : ℕ) (lower : List Value) → types_of lower ≡ kinds.0 ++ below → NextAtSpots m (steps 0 (choose n
                (running s fn under ls lower a (block_label (length lower) (arity_of r) rest b ∷ labels))
                (running s fn under ls lower b (block_label (length lower) (arity_of r) rest done ∷ labels))))
            by_arm zero lower e =
                goes_on ls lower b (block_label (length lower) (arity_of r) rest done ∷ labels) (r ∷ results) [] (kinds.0 ++ below) el e
                (in_else a own kinds.0 below kinds.1 refl (height_is lower (kinds.0 ++ below) e) refl refl st)
            by_arm (suc n) lower e =
                goes_on ls lower a (block_label (length lower) (arity_of r) rest b ∷ labels) (r ∷ results) [] (kinds.0 ++ below) el e
                (in_arm own kinds.0 below kinds.1 refl (height_is lower (kinds.0 ++ below) e) refl st)

-- Each reduction leads from spots to spots.
pub steps_spot : (m : Module) (c : Configuration) → Valid m → ConfigurationAtSpots m c → NextAtSpots m (step m c)
steps_spot m c v ok =
    let h = ok.here in
    code_spot m v c.store ok.store c.here.func h.func h.func_is c.under ok.under c.here.locals h.locals_fit c.here.operands c.here.labels h.results c.here.code h.own h.below h.types_are h.spot
