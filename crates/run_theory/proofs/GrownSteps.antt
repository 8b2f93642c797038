-- What stands behind a module's own parts leaves each of its reductions as it was.
use Rattle.std.proofs.Common.{◌≡◌, ℕ, zero, suc, ◌+◌, ◌-◌, ◌<◌, List, [], ◌∷◌, ◌++◌, map, Option, Some, None, Result, Ok, Err, Bool, true, false, refl, sym, ap, ◌∙◌, subst, length, take}
use Rattle.std.proofs.Common.{drop, reverse, arith, append_assoc, length-append, length-set}
use Rattle.std.specs.Prelude.{◌%◌, nat_lt, if◌then◌else◌, slice_get, slice_set, unwrap_or}
use Rattle.std.specs.Option.{option_map}
use Rattle.std.proofs.lemmas.Bool.{ltb-false}
use Rattle.std.proofs.lemmas.List.{length-map, map-append, get_or_append_left, set-append_left}
use Rattle.std.proofs.lemmas.Option.{slice_get-map, slice_get_within}
use Rattle.wa_types.specs.declared.values.Value.{Value}
use Rattle.wa_types.specs.declared.values.Value.TheVariants as V
use Rattle.wa_types.specs.declared.values.Trap.{Trap}
use Rattle.wa_types.specs.declared.values.Trap.TheVariants.{StackExhausted, TypeMismatch, UndefinedElement, UninitializedElement}
use Rattle.wa_types.specs.declared.syntax.Export.{Export}
use Rattle.wa_types.specs.Accesses.{AccessRow, load_row, store_row}
use Rattle.wa_types.specs.Encoding.{same_type}
use Rattle.wa_types.specs.Memory.{Memory, number_at, with_number as number_put, copied, filled_with, grown}
use Rattle.wa_types.specs.Typing.{type_of}
use Rattle.wa_types.specs.Syntax.{Basic, nop, drop as a_drop, select, const, num, global_get, global_set, load, store, memory_size, memory_grow, memory_copy, memory_fill, basic, local_get, local_set, local_tee, br}
use Rattle.wa_types.specs.Syntax.{br_if, br_table, return, unreachable, call, call_indirect, a_block, a_loop, Code, done, plain, nest, branch, FuncType, Func, GlobalDef, Module}
use Rattle.wa_types.specs.Modules.{imported, imported_func, func_imports, func_sorts, func_type_at, type_at, or_empty, defined_at}
use Rattle.wa_ops.specs.Operate.{operate, number_of}
use Rattle.wa_model.specs.Store.{choose, Store, value_at, Did, works, fails, lacks, takes, extra_cost, act, computed, load_at, loaded, store_at, stored, width_of, grew}
use Rattle.wa_model.specs.Configuration.{Label, block_label, loop_label, Activation, Configuration, running, waiting}
use Rattle.wa_model.specs.Step.{Next, steps, asks, traps, stuck, result_count, leave, jump, finish, did, with_top, with_number, arity_of, entered, invoke, param_count}
use Rattle.wa_model.specs.Step.{same_func_type, through, memory_max, step_at, step}
use Rattle.run_theory.specs.Growth.{grown_module, Spaces, spaces_of, Each, BasicNamed, CodeNamed, LabelNamed, ActNamed, EntryNamed, StoreNamed, ConfigNamed, NextNamed, grown_store}
use Rattle.run_theory.specs.Growth.{grown_config, grown_next}

-- ---- lists

pub front : {X : Type 0} (xs ys : List X) (i : ℕ) → i < length xs → slice_get (xs ++ ys) i ≡ slice_get xs i
front [] ys i h = absurd (omega arith)
front (x ∷ xs) ys zero h = refl
front (x ∷ xs) ys (suc i) h = front xs ys i (omega arith)

pub each_got : {X : Type 0} (P : X → Type 0) (xs : List X) (i : ℕ) (x : X) → Each P xs → slice_get xs i ≡ Some x → P x
each_got P [] i x h e = cc
each_got P (y ∷ ys) zero x h e = let z : y ≡ x = cc in subst P z h.0
each_got P (y ∷ ys) (suc i) x h e = each_got P ys i x h.1 e

-- ---- what an instruction does with its operands

abbrev pub grown_did : List Value → Did → Did
grown_did more (works s results) = works (grown_store more s) results
grown_did more (fails trap) = fails trap
grown_did more lacks = lacks

abbrev DidNamed : Spaces → Did → Type 0
DidNamed n (works s results) = StoreNamed n s
DidNamed n _ = Unit {0}

abbrev DidStays : List Value → Spaces → (d d' : Did) → Type 0
DidStays more n d d' = (d' ≡ grown_did more d) × DidNamed n d

module _ (more : List Value) (n : Spaces) where
  abbrev wide : Store → Store
  wide s = grown_store more s

  computed_stays : (s : Store) (o : Option (Result Value Trap)) → StoreNamed n s → DidStays more n (computed s o) (computed (wide s) o)
  computed_stays s None ok = (refl, tt)
  computed_stays s (Some (Ok v)) ok = (refl, ok)
  computed_stays s (Some (Err t)) ok = (refl, tt)

  loaded_stays : (s : Store) (row : AccessRow) (o : Option ℕ) → StoreNamed n s → DidStays more n (loaded s row o) (loaded (wide s) row o)
  loaded_stays s row None ok = (refl, tt)
  loaded_stays s row (Some v) ok = (refl, ok)

  load_stays : (s : Store) (place : ℕ) (o : Option AccessRow) → StoreNamed n s → DidStays more n (load_at s place o) (load_at (wide s) place o)
  load_stays s place None ok = (refl, tt)
  load_stays s place (Some row) ok = loaded_stays s row (number_at s.memory place (width_of row)) ok

  stored_stays : (s : Store) (o : Option (List ℕ)) → StoreNamed n s → DidStays more n (stored s o) (stored (wide s) o)
  stored_stays s None ok = (refl, tt)
  stored_stays s (Some memory) ok = (refl, record { globals = ok.globals; table = ok.table })

  store_stays : (s : Store) (place : ℕ) (v : Value) (o : Option AccessRow) → StoreNamed n s → DidStays more n (store_at s place v o) (store_at (wide s) place v o)
  store_stays s place v None ok = (refl, tt)
  store_stays s place v (Some row) ok = by_type (same_type row.ty (type_of v)) (stored_stays s (number_put s.memory place (width_of row) (number_of v)) ok)
    where
      by_type : (b : Bool) → DidStays more n (stored s (number_put s.memory place (width_of row) (number_of v))) (stored (wide s) (number_put s.memory place (width_of row) (number_of v)))
          → DidStays more n (if b then stored s (number_put s.memory place (width_of row) (number_of v)) else lacks)
          (if b then stored (wide s) (number_put s.memory place (width_of row) (number_of v)) else lacks)
      by_type true h = h
      by_type false h = (refl, tt)

  grew_stays : (s : Store) (o : Option Memory) → StoreNamed n s → DidStays more n (grew s o) (grew (wide s) o)
  grew_stays s None ok = (refl, ok)
  grew_stays s (Some m) ok = (refl, record { globals = ok.globals; table = ok.table })

  act_stays : (most : Option ℕ) (b : Basic) (s : Store) (ops : List Value) → BasicNamed n.globals b → StoreNamed n s → DidStays more n (act most b s ops) (act most b (wide s) ops)
  act_stays most nop s [] h ok = (refl, ok)
  act_stays most a_drop s (v ∷ []) h ok = (refl, ok)
  act_stays most select s (V.I32 k ∷ upper ∷ lower ∷ []) h ok = (refl, ok)
  act_stays most (const v) s [] h ok = (refl, ok)
  act_stays most (num op) s ops h ok = computed_stays s (operate op ops) ok
  act_stays most (global_get x) s [] h ok =
      let e = ok.globals in
      (ap (λ v. works (wide s) (v ∷ [])) (get_or_append_left s.globals more (V.I32 0) x (omega arith)), ok)
  act_stays most (global_set x) s (v ∷ []) h ok =
      let e = ok.globals in (
        ap (λ gs. works (record { globals = gs; memory = s.memory; table = s.table }) []) (set-append_left s.globals more x v (omega arith)),
        record { globals = length-set s.globals x v ∙ e; table = ok.table },
      )
  act_stays most (load op align offset) s (V.I32 a ∷ []) h ok = load_stays s (a + offset) (load_row op) ok
  act_stays most (store op align offset) s (v ∷ V.I32 a ∷ []) h ok = store_stays s (a + offset) v (store_row op) ok
  act_stays most memory_size s [] h ok = (refl, ok)
  act_stays most memory_grow s (V.I32 k ∷ []) h ok = grew_stays s (grown (record { bytes = s.memory; max = most }) k) ok
  act_stays most memory_copy s (V.I32 k ∷ V.I32 from ∷ V.I32 to ∷ []) h ok = stored_stays s (copied s.memory to from k) ok
  act_stays most memory_fill s (V.I32 k ∷ V.I32 v ∷ V.I32 at ∷ []) h ok = stored_stays s (filled_with s.memory at (v % 256) k) ok
  act_stays most _ s _ h ok = (refl, tt)

  -- ---- what comes next

  abbrev pub Stays : (o o' : Next) → Type 0
  Stays o o' = (o' ≡ grown_next more o) × NextNamed n o

  leaves_stay : (k : ℕ) (s : Store) (ops : List Value) (arity : ℕ) (under : List Activation) → StoreNamed n s → Each (ActNamed n) under
      → Stays (leave k s ops arity under) (leave k (wide s) ops arity under)
  leaves_stay k s ops arity [] so uo = (refl, so)
  leaves_stay k s ops arity (a ∷ under) so uo =
      let ao = uo.0 in (refl, record { store = so; here = record { func = ao.func; code = ao.code; labels = ao.labels }; under = uo.1 })

  did_stays : (k fn : ℕ) (under : List Activation) (ls : List Value) (labels : List Label) (rest : Code) (ops : List Value) (s : Store) (d d' : Did)
      → fn < n.funcs → Each (ActNamed n) under → Each (LabelNamed n) labels → CodeNamed n rest → StoreNamed n s → DidStays more n d d'
      → Stays (did k fn under ls labels rest s ops d) (did k fn under ls labels rest (wide s) ops d')
  did_stays k fn under ls labels rest ops s (works s' results) d' fo uo lo co so h =
      (ap (did k fn under ls labels rest (wide s) ops) h.0, record { store = h.1; here = record { func = fo; code = co; labels = lo }; under = uo })
  did_stays k fn under ls labels rest ops s (fails trap) d' fo uo lo co so h = (ap (did k fn under ls labels rest (wide s) ops) h.0, so)
  did_stays k fn under ls labels rest ops s lacks d' fo uo lo co so h = (ap (did k fn under ls labels rest (wide s) ops) h.0, tt)

  top_stays : (ops : List Value) (on on' : Value → List Value → Next) → ((v : Value) (below : List Value) → Stays (on v below) (on' v below)) → Stays (with_top ops on) (with_top ops on')
  top_stays [] on on' h = (refl, tt)
  top_stays (v ∷ ops) on on' h = h v ops

  number_stays : (ops : List Value) (on on' : ℕ → List Value → Next) → ((v : ℕ) (below : List Value) → Stays (on v below) (on' v below)) → Stays (with_number ops on) (with_number ops on')
  number_stays [] on on' h = (refl, tt)
  number_stays (V.I32 v ∷ ops) on on' h = h v ops
  number_stays (V.I64 v ∷ ops) on on' h = (refl, tt)

  chooses_stay : (v : ℕ) (x y x' y' : Next) → Stays x x' → Stays y y' → Stays (choose v x y) (choose v x' y')
  chooses_stay zero x y x' y' g h = h
  chooses_stay (suc v) x y x' y' g h = g

-- A module's own parts name only what is there.
pub record ModuleNamed (m : Module) : Type 0 where
  pub sorts : (x sort : ℕ) → slice_get (func_sorts m) x ≡ Some sort → sort < length m.types
  pub bodies : (i : ℕ) (f : Func) → slice_get m.funcs i ≡ Some f → CodeNamed (spaces_of m) f.body

module _ (m : Module) (ts : List FuncType) (fs : List Func) (gs : List GlobalDef) (es : List Export) where
  abbrev pub p : Module
  p = grown_module m ts fs gs es

  abbrev pub n : Spaces
  n = spaces_of m

  pub sorts_are : func_sorts p ≡ func_sorts m ++ map (λ (f : Func). f.sort) fs
  sorts_are =
      ap (λ ys. imported imported_func m ++ ys) (map-append (λ (f : Func). f.sort) m.funcs fs)
      ∙ sym (append_assoc (imported imported_func m) (map (λ (f : Func). f.sort) m.funcs) (map (λ (f : Func). f.sort) fs))

  pub sort_stays : (x : ℕ) → x < n.funcs → slice_get (func_sorts p) x ≡ slice_get (func_sorts m) x
  sort_stays x h = ap (λ ys. slice_get ys x) sorts_are ∙ front (func_sorts m) (map (λ (f : Func). f.sort) fs) x h

  pub type_stays : (sort : ℕ) → sort < n.types → type_at p sort ≡ type_at m sort
  type_stays sort h = ap or_empty (front m.types ts sort h)

  pub funcs_count : n.funcs ≡ func_imports m + length m.funcs
  funcs_count = length-append (imported imported_func m) (map (λ (f : Func). f.sort) m.funcs) ∙ ap (λ k. func_imports m + k) (length-map m.funcs (λ (f : Func). f.sort))

  pub defined_stays : (x : ℕ) → x < n.funcs → defined_at p x ≡ defined_at m x
  defined_stays x h = by_import (nat_lt x (func_imports m)) refl
    where
      by_import : (b : Bool) → nat_lt x (func_imports m) ≡ b → (if b then None else slice_get (m.funcs ++ fs) (x - func_imports m)) ≡ (if b then None else slice_get m.funcs (x - func_imports m))
      by_import true e = refl
      by_import false e = let le = ltb-false x (func_imports m) e in let c = funcs_count in front m.funcs fs (x - func_imports m) (omega arith)

  module _ (ok : ModuleNamed m) where
    pub func_type_stays : (x : ℕ) → x < n.funcs → func_type_at p x ≡ func_type_at m x
    func_type_stays x h =
        ap or_empty (slice_get-map (type_at p) (func_sorts p) x)
        ∙ ap (λ o. or_empty (option_map (type_at p) o)) (sort_stays x h)
        ∙ by_sort (slice_get (func_sorts m) x) refl
        ∙ ap or_empty (sym (slice_get-map (type_at m) (func_sorts m) x))
      where
        by_sort : (o : Option ℕ) → slice_get (func_sorts m) x ≡ o → or_empty (option_map (type_at p) o) ≡ or_empty (option_map (type_at m) o)
        by_sort None e = refl
        by_sort (Some sort) e = type_stays sort (ok.sorts x sort e)

    pub body_named : (x : ℕ) (f : Func) → defined_at m x ≡ Some f → CodeNamed n f.body
    body_named x f = by_import (nat_lt x (func_imports m))
      where
        by_import : (b : Bool) → (if b then None else slice_get m.funcs (x - func_imports m)) ≡ Some f → CodeNamed n f.body
        by_import true e = cc
        by_import false e = ok.bodies (x - func_imports m) f e

    pub defined_below : (x : ℕ) (f : Func) → defined_at m x ≡ Some f → x < n.funcs
    defined_below x f = by_import (nat_lt x (func_imports m)) refl
      where
        by_import : (b : Bool) → nat_lt x (func_imports m) ≡ b → (if b then None else slice_get m.funcs (x - func_imports m)) ≡ Some f → x < n.funcs
        by_import true z e = cc
        by_import false z e = let le = ltb-false x (func_imports m) z in let lt = slice_get_within m.funcs (x - func_imports m) f e in let c = funcs_count in omega arith

    pub entered_named : (s : Store) (under : List Activation) (args : List Value) (x : ℕ) (f : Func) → StoreNamed n s → Each (ActNamed n) under → defined_at m x ≡ Some f
        → ConfigNamed n (entered s under args x f)
    entered_named s under args x f so uo e = record { store = so; here = record { func = defined_below x f e; code = body_named x f e; labels = tt }; under = uo }

    module _ (more : List Value) where
      abbrev big : Store → Store
      big s = grown_store more s

      abbrev Same : (o o' : Next) → Type 0
      Same o o' = Stays more n o o'

      leaves_here : (k : ℕ) (s : Store) (fn : ℕ) (ops : List Value) (under : List Activation) → fn < n.funcs → StoreNamed n s → Each (ActNamed n) under
          → Same (leave k s ops (result_count m fn) under) (leave k (big s) ops (result_count p fn) under)
      leaves_here k s fn ops under fo so uo =
          let r = leaves_stay more n k s ops (result_count m fn) under so uo in
          (ap (λ (t : FuncType). leave k (big s) ops (length t.results) under) (func_type_stays fn fo) ∙ r.0, r.1)

      jumps_stay : (k : ℕ) (s : Store) (fn : ℕ) (under : List Activation) (ls ops : List Value) (labels : List Label) (l : ℕ) → fn < n.funcs → StoreNamed n s → Each (ActNamed n) under
          → Each (LabelNamed n) labels → Same (jump k m s fn under ls ops labels l) (jump k p (big s) fn under ls ops labels l)
      jumps_stay k s fn under ls ops [] l fo so uo lo = leaves_here k s fn ops under fo so uo
      jumps_stay k s fn under ls ops (block_label h arity rest skipped ∷ labels) zero fo so uo lo = (refl, record { store = so; here = record { func = fo; code = lo.0; labels = lo.1 }; under = uo })
      jumps_stay k s fn under ls ops (loop_label h body rest ∷ labels) zero fo so uo lo = (refl, record { store = so; here = record { func = fo; code = (lo.0).0; labels = lo }; under = uo })
      jumps_stay k s fn under ls ops (block_label h arity rest skipped ∷ labels) (suc l) fo so uo lo = jumps_stay k s fn under ls ops labels l fo so uo lo.1
      jumps_stay k s fn under ls ops (loop_label h body rest ∷ labels) (suc l) fo so uo lo = jumps_stay k s fn under ls ops labels l fo so uo lo.1

      finishes_stay : (s : Store) (fn : ℕ) (under : List Activation) (ls ops : List Value) (labels : List Label) → fn < n.funcs → StoreNamed n s → Each (ActNamed n) under
          → Each (LabelNamed n) labels → Same (finish m s fn under ls ops labels) (finish p (big s) fn under ls ops labels)
      finishes_stay s fn under ls ops [] fo so uo lo = leaves_here 0 s fn ops under fo so uo
      finishes_stay s fn under ls ops (block_label h arity rest skipped ∷ labels) fo so uo lo = (refl, record { store = so; here = record { func = fo; code = lo.0; labels = lo.1 }; under = uo })
      finishes_stay s fn under ls ops (loop_label h body rest ∷ labels) fo so uo lo = (refl, record { store = so; here = record { func = fo; code = (lo.0).1; labels = lo.1 }; under = uo })

      module _ (s : Store) (fn : ℕ) (under : List Activation) (fo : fn < n.funcs) (so : StoreNamed n s) (uo : Each (ActNamed n) under) where
        invokes_stay : (ls own ops : List Value) (rest : Code) (labels : List Label) (params x : ℕ) → x < n.funcs → CodeNamed n rest → Each (LabelNamed n) labels → (o : Option Func)
            → defined_at m x ≡ o → Same (invoke m s fn under ls own ops rest labels params x o) (invoke p (big s) fn under ls own ops rest labels params x o)
        invokes_stay ls own ops rest labels params x xo co lo (Some f) e = by_room (nat_lt (length under + 1) 4096)
          where
            to : Store → Configuration
            to st = entered st (waiting fn ls (drop params ops) (own ++ take params ops) rest labels ∷ under) (reverse (take params ops)) x f

            by_room : (b : Bool) → Same (if b then steps params (to s) else traps params StackExhausted s) (if b then steps params (to (big s)) else traps params StackExhausted (big s))
            by_room true = (
              refl,
              entered_named s (waiting fn ls (drop params ops) (own ++ take params ops) rest labels ∷ under) (reverse (take params ops)) x f so
                  (record { func = fo; code = co; labels = lo }, uo) e,
            )
            by_room false = (refl, so)
        invokes_stay ls own ops rest labels params x xo co lo None e = by_import (nat_lt x (func_imports m))
          where
            waits : Store → Configuration
            waits st = record { store = st; here = waiting fn ls (drop params ops) (own ++ take params ops) rest labels; under = under }

            by_import : (b : Bool) → Same (if b then asks params x (reverse (take params ops)) (waits s) else stuck) (if b then asks params x (reverse (take params ops)) (waits (big s)) else stuck)
            by_import true = (refl, (xo, record { store = so; here = record { func = fo; code = co; labels = lo }; under = uo }))
            by_import false = (refl, tt)

        invokes_at : (ls own ops : List Value) (rest : Code) (labels : List Label) (params x : ℕ) → x < n.funcs → CodeNamed n rest → Each (LabelNamed n) labels
            → Same (invoke m s fn under ls own ops rest labels params x (defined_at m x)) (invoke p (big s) fn under ls own ops rest labels params x (defined_at p x))
        invokes_at ls own ops rest labels params x xo co lo =
            let r = invokes_stay ls own ops rest labels params x xo co lo (defined_at m x) refl in
            (ap (invoke p (big s) fn under ls own ops rest labels params x) (defined_stays x xo) ∙ r.0, r.1)

        through_stays : (ls own ops : List Value) (rest : Code) (labels : List Label) (sort : ℕ) → sort < n.types → CodeNamed n rest → Each (LabelNamed n) labels → (o : Option (Option ℕ))
            → ((x : ℕ) → o ≡ Some (Some x) → x < n.funcs) → Same (through m s fn under ls own ops rest labels sort o) (through p (big s) fn under ls own ops rest labels sort o)
        through_stays ls own ops rest labels sort st co lo None h = (ap (λ t. traps (param_count t) UndefinedElement (big s)) (type_stays sort st), so)
        through_stays ls own ops rest labels sort st co lo (Some None) h = (ap (λ t. traps (param_count t) UninitializedElement (big s)) (type_stays sort st), so)
        through_stays ls own ops rest labels sort st co lo (Some (Some x)) h =
            let xo = h x refl in
            let r = by_type (same_func_type (func_type_at m x) (type_at m sort)) (invokes_at ls own ops rest labels (param_count (type_at m sort)) x xo co lo) in
            (ap (λ t. test t (type_at p sort)) (func_type_stays x xo) ∙ ap (λ t. test (func_type_at m x) t) (type_stays sort st) ∙ r.0, r.1)
          where
            test : FuncType → FuncType → Next
            test t u = if same_func_type t u then invoke p (big s) fn under ls own ops rest labels (param_count u) x (defined_at p x) else traps (param_count u) TypeMismatch (big s)

            by_type : (b : Bool) → Same (invoke m s fn under ls own ops rest labels (param_count (type_at m sort)) x (defined_at m x))
                (invoke p (big s) fn under ls own ops rest labels (param_count (type_at m sort)) x (defined_at p x))
                → Same (if b then invoke m s fn under ls own ops rest labels (param_count (type_at m sort)) x (defined_at m x) else traps (param_count (type_at m sort)) TypeMismatch s)
                (if b then invoke p (big s) fn under ls own ops rest labels (param_count (type_at m sort)) x (defined_at p x)
                else traps (param_count (type_at m sort)) TypeMismatch (big s))
            by_type true r = r
            by_type false r = (refl, so)

        in_table : (i : ℕ) (o : Option (Option ℕ)) → slice_get s.table i ≡ o → (x : ℕ) → o ≡ Some (Some x) → x < n.funcs
        in_table i o e x z = each_got (EntryNamed n.funcs) s.table i (Some x) so.table (e ∙ z)

        here_named : (ls ops : List Value) (code : Code) (labels : List Label) → CodeNamed n code → Each (LabelNamed n) labels → ConfigNamed n (running s fn under ls ops code labels)
        here_named ls ops code labels co lo = record { store = so; here = record { func = fo; code = co; labels = lo }; under = uo }

        step_at_stays : (ls ops : List Value) (labels : List Label) (code : Code) → CodeNamed n code → Each (LabelNamed n) labels
            → Same (step_at m s fn under ls ops labels code) (step_at p (big s) fn under ls ops labels code)
        step_at_stays ls ops labels done co lo = finishes_stay s fn under ls ops labels fo so uo lo
        step_at_stays ls ops labels (plain (basic b) rest) co lo =
            did_stays more n (extra_cost b (take (takes b) ops)) fn under ls labels rest (drop (takes b) ops) s (act (memory_max m) b s (take (takes b) ops))
            (act (memory_max m) b (big s) (take (takes b) ops)) fo uo lo co.1 so (act_stays more n (memory_max m) b s (take (takes b) ops) co.0 so)
        step_at_stays ls ops labels (plain (local_get x) rest) co lo = (refl, here_named ls (value_at ls x ∷ ops) rest labels co.1 lo)
        step_at_stays ls ops labels (plain (local_set x) rest) co lo = top_stays more n ops _ _ (λ v below. (refl, here_named (slice_set ls x v) below rest labels co.1 lo))
        step_at_stays ls ops labels (plain (local_tee x) rest) co lo = top_stays more n ops _ _ (λ v below. (refl, here_named (slice_set ls x v) (v ∷ below) rest labels co.1 lo))
        step_at_stays ls ops labels (plain (br l) rest) co lo = jumps_stay 0 s fn under ls ops labels l fo so uo lo
        step_at_stays ls ops labels (plain (br_if l) rest) co lo =
            number_stays more n ops _ _ (λ v below. chooses_stay more n v (jump 0 m s fn under ls below labels l) (steps 0 (running s fn under ls below rest labels)) _ _
            (jumps_stay 0 s fn under ls below labels l fo so uo lo) (refl, here_named ls below rest labels co.1 lo))
        step_at_stays ls ops labels (plain (br_table targets last) rest) co lo =
            number_stays more n ops _ _ (λ v below. jumps_stay (length targets + 1) s fn under ls below labels (unwrap_or (slice_get targets v) last) fo so uo lo)
        step_at_stays ls ops labels (plain return rest) co lo = leaves_here 0 s fn ops under fo so uo
        step_at_stays ls ops labels (plain unreachable rest) co lo = (refl, so)
        step_at_stays ls ops labels (plain (call x) rest) co lo =
            let r = invokes_at ls [] ops rest labels (param_count (func_type_at m x)) x co.0 co.1 lo in
            (ap (λ t. invoke p (big s) fn under ls [] ops rest labels (param_count t) x (defined_at p x)) (func_type_stays x co.0) ∙ r.0, r.1)
        step_at_stays ls ops labels (plain (call_indirect sort) rest) co lo =
            number_stays more n ops _ _ (λ v below. through_stays ls (V.I32 v ∷ []) below rest labels sort co.0 co.1 lo (slice_get s.table v) (in_table v (slice_get s.table v) refl))
        step_at_stays ls ops labels (nest a_block r body rest) co lo = (refl, here_named ls ops body (block_label (length ops) (arity_of r) rest done ∷ labels) co.0 (co.1, lo))
        step_at_stays ls ops labels (nest a_loop r body rest) co lo = (refl, here_named ls ops body (loop_label (length ops) body rest ∷ labels) co.0 (co, lo))
        step_at_stays ls ops labels (branch r a b rest) co lo = number_stays more n ops _ _ (λ v below. by_arm v below)
          where
            first : Store → List Value → Configuration
            first st below = running st fn under ls below a (block_label (length below) (arity_of r) rest b ∷ labels)

            second : Store → List Value → Configuration
            second st below = running st fn under ls below b (block_label (length below) (arity_of r) rest done ∷ labels)

            by_arm : (v : ℕ) (below : List Value) → Same (steps 0 (choose v (first s below) (second s below))) (steps 0 (choose v (first (big s) below) (second (big s) below)))
            by_arm zero below = (refl, here_named ls below b (block_label (length below) (arity_of r) rest done ∷ labels) co.1 (co.2, lo))
            by_arm (suc v) below = (refl, here_named ls below a (block_label (length below) (arity_of r) rest b ∷ labels) co.0 (co.2, lo))

      pub step_stays : (c : Configuration) → ConfigNamed n c → Same (step m c) (step p (grown_config more c))
      step_stays c ok' =
          let h = ok'.here in
          step_at_stays c.store c.here.func c.under h.func ok'.store ok'.under c.here.locals c.here.operands c.here.labels c.here.code h.code h.labels
