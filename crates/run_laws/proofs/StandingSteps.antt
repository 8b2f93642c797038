-- Reductions keep code where it stands among its function's calls.
use Rattle.std.proofs.Common.{◌≡◌, ℕ, zero, suc, ◌+◌, ◌<◌, Bool, true, false, cond, ltb, List, [], ◌∷◌, ◌++◌, length, take, drop, reverse, Option, Some, None, Result, Ok, Err, refl, sym, ap, ◌∙◌, arith}
use Rattle.std.specs.Prelude.{◌%◌, unwrap_or, slice_get}
use Rattle.std.proofs.lemmas.Bool.{ltb-true}
use Rattle.std.proofs.lemmas.List.{append-nil, append_assoc}
use Rattle.wa_types.specs.declared.values.Value.{Value}
use Rattle.wa_types.specs.declared.values.Value.TheVariants as V
use Rattle.wa_types.specs.declared.values.Trap.{Trap}
use Rattle.wa_types.specs.declared.values.Trap.TheVariants.{StackExhausted, TypeMismatch}
use Rattle.wa_types.specs.Pruned.{pruned}
use Rattle.wa_types.specs.Pausing.{Callee, direct, indirect, calls_of, calls_in}
use Rattle.wa_types.specs.Syntax.{Basic, nop, drop as a_drop, select, const, num, global_get, global_set, load, store, memory_size, memory_grow, memory_copy, memory_fill, Plain, basic, local_get, local_set, local_tee, br, br_if, br_table, return, unreachable, call, call_indirect, a_block, a_loop, Code, done, plain, nest, branch, Func, Module}
use Rattle.wa_types.specs.Modules.{func_imports, type_at, func_type_at, defined_at}
use Rattle.wa_model.specs.Store.{choose, Store, Did, works, fails, lacks, takes, extra_cost, act, computed, width_of, loaded, load_at, stored, store_at, grew}
use Rattle.wa_model.specs.Configuration.{Label, block_label, loop_label, Activation, Configuration, running, waiting, calls_behind}
use Rattle.wa_model.specs.Step.{Next, steps, asks, traps, stuck, result_count, leave, jump, finish, did, entered, invoke, param_count, same_func_type, through, memory_max, step_plain, step_at, step, arity_of}
use Rattle.wa_types.specs.Accesses.{AccessRow, load_row, store_row}
use Rattle.wa_types.specs.Encoding.{same_type}
use Rattle.wa_types.specs.Memory.{Memory, number_at, with_number as number_put, copied, filled_with, grown}
use Rattle.wa_types.specs.Typing.{type_of}
use Rattle.wa_model.specs.Operate.{operate, number_of}
use Rattle.run_theory.specs.LawfulStacks.{LeadsTo}
use Rattle.run_laws.proofs.StandingStates.{calls_from, Remains, LabelsRemain, StandsAt, WaitsAt, CallersAt, ConfigurationAt, NextAt}

-- a part more stands before
past : (all before xs ys : List Callee) → all ≡ before ++ (xs ++ ys) → all ≡ (before ++ xs) ++ ys
past all before xs ys e = e ∙ sym (append_assoc before xs ys)

-- the body of a function that is entered
pub body_stands : (m : Module) (x : ℕ) (f : Func) → defined_at m x ≡ Some f → StandsAt m x f.body []
body_stands m x f e = (f, e, ([], sym (append-nil (calls_in f))), tt)

-- ---- no instruction changes the table

abbrev DidAt : List (Option ℕ) → Did → Type 0
DidAt table (works s results) = s.table ≡ table
DidAt table (fails trap) = Unit {0}
DidAt table lacks = Unit {0}

computed_at : (table : List (Option ℕ)) (s : Store) (o : Option (Result Value Trap)) → s.table ≡ table → DidAt table (computed s o)
computed_at table s None e = tt
computed_at table s (Some (Ok v)) e = e
computed_at table s (Some (Err trap)) e = tt

loaded_at : (table : List (Option ℕ)) (s : Store) (row : AccessRow) (o : Option ℕ) → s.table ≡ table → DidAt table (loaded s row o)
loaded_at table s row None e = tt
loaded_at table s row (Some n) e = e

load_at_at : (table : List (Option ℕ)) (s : Store) (place : ℕ) (o : Option AccessRow) → s.table ≡ table → DidAt table (load_at s place o)
load_at_at table s place None e = tt
load_at_at table s place (Some row) e = loaded_at table s row (number_at s.memory place (width_of row)) e

stored_at : (table : List (Option ℕ)) (s : Store) (o : Option (List ℕ)) → s.table ≡ table → DidAt table (stored s o)
stored_at table s None e = tt
stored_at table s (Some memory) e = e

store_at_at : (table : List (Option ℕ)) (s : Store) (place : ℕ) (v : Value) (o : Option AccessRow) → s.table ≡ table → DidAt table (store_at s place v o)
store_at_at table s place v None e = tt
store_at_at table s place v (Some row) e = by_type (same_type row.ty (type_of v))
  where
    by_type : (b : Bool) → DidAt table (cond b (stored s (number_put s.memory place (width_of row) (number_of v))) lacks)
    by_type true = stored_at table s (number_put s.memory place (width_of row) (number_of v)) e
    by_type false = tt

grew_at : (table : List (Option ℕ)) (s : Store) (o : Option Memory) → s.table ≡ table → DidAt table (grew s o)
grew_at table s None e = e
grew_at table s (Some m) e = e

act_at : (table : List (Option ℕ)) (most : Option ℕ) (b : Basic) (s : Store) (ops : List Value) → s.table ≡ table → DidAt table (act most b s ops)
act_at table most nop s [] e = e
act_at table most a_drop s (v ∷ []) e = e
act_at table most select s (V.I32 n ∷ upper ∷ lower ∷ []) e = e
act_at table most (const v) s [] e = e
act_at table most (num op) s ops e = computed_at table s (operate op ops) e
act_at table most (global_get x) s [] e = e
act_at table most (global_set x) s (v ∷ []) e = e
act_at table most (load op align offset) s (V.I32 a ∷ []) e = load_at_at table s (a + offset) (load_row op) e
act_at table most (store op align offset) s (v ∷ V.I32 a ∷ []) e = store_at_at table s (a + offset) v (store_row op) e
act_at table most memory_size s [] e = e
act_at table most memory_grow s (V.I32 n ∷ []) e = grew_at table s (grown (record { bytes = s.memory; max = most }) n) e
act_at table most memory_copy s (V.I32 n ∷ V.I32 from ∷ V.I32 to ∷ []) e = stored_at table s (copied s.memory to from n) e
act_at table most memory_fill s (V.I32 n ∷ V.I32 v ∷ V.I32 at ∷ []) e = stored_at table s (filled_with s.memory at (v % 256) n) e
act_at table most _ s _ e = tt

-- who waited goes on
pub waited_stands : (m : Module) (c : Callee) (fn : ℕ) (code : Code) (labels : List Label) → WaitsAt m c fn code labels → StandsAt m fn code labels
waited_stands m c fn code labels w = (w.0, w.2, (w.1 ++ c ∷ [], past (calls_in w.0) w.1 (c ∷ []) (calls_from code labels) w.3), w.4)

module _ (m : Module) (table : List (Option ℕ)) (root : ℕ) where
  leave_at : (k : ℕ) (s : Store) (ops : List Value) (arity x : ℕ) (under : List Activation) → s.table ≡ table → CallersAt m table root x under
      → length under < 4096 → NextAt m table root (leave k s ops arity under)
  leave_at k s ops arity x [] e h few = e
  leave_at k s ops arity x (a ∷ under) e h few = record { same = e; here = waited_stands m h.0 a.func a.code a.labels h.2; under = h.3; few = omega arith }

  chosen_at : (n : ℕ) (first second : Next) → NextAt m table root first → NextAt m table root second → NextAt m table root (choose n first second)
  chosen_at zero first second h k = k
  chosen_at (suc n) first second h k = h

  module _ (fn : ℕ) (f : Func) (is : defined_at m fn ≡ Some f) (under : List Activation) (u : CallersAt m table root fn under) (few : length under < 4096) where
    goes_on : (s : Store) (ls ops : List Value) (code : Code) (labels : List Label) → s.table ≡ table → Remains (calls_in f) code labels
        → LabelsRemain (calls_in f) labels → ConfigurationAt m table root (running s fn under ls ops code labels)
    goes_on s ls ops code labels e h lb = record { same = e; here = (f, is, h, lb); under = u; few = few }

    did_at : (k : ℕ) (ls : List Value) (labels : List Label) (rest : Code) (s : Store) (ops : List Value) (d : Did) → s.table ≡ table → DidAt table d → Remains (calls_in f) rest labels
        → LabelsRemain (calls_in f) labels → NextAt m table root (did k fn under ls labels rest s ops d)
    did_at k ls labels rest s ops (works s' results) e t h lb = goes_on s' ls (results ++ ops) rest labels t h lb
    did_at k ls labels rest s ops (fails trap) e t h lb = e
    did_at k ls labels rest s ops lacks e t h lb = tt

    jump_at : (k : ℕ) (s : Store) (ls ops : List Value) (labels : List Label) (l : ℕ) → s.table ≡ table → LabelsRemain (calls_in f) labels → NextAt m table root (jump k m s fn under ls ops labels l)
    jump_at k s ls ops [] l e lb = leave_at k s ops (result_count m fn) fn under e u few
    jump_at k s ls ops (block_label h arity rest skipped ∷ labels) zero e lb = goes_on s ls _ rest labels e lb.0 lb.1
    jump_at k s ls ops (loop_label h body rest ∷ labels) zero e lb = goes_on s ls _ body (loop_label h body rest ∷ labels) e lb.0 lb
    jump_at k s ls ops (block_label h arity rest skipped ∷ labels) (suc l) e lb = jump_at k s ls ops labels l e lb.1
    jump_at k s ls ops (loop_label h body rest ∷ labels) (suc l) e lb = jump_at k s ls ops labels l e lb.2

    finish_at : (s : Store) (ls ops : List Value) (labels : List Label) → s.table ≡ table → LabelsRemain (calls_in f) labels → NextAt m table root (finish m s fn under ls ops labels)
    finish_at s ls ops [] e lb = leave_at 0 s ops (result_count m fn) fn under e u few
    finish_at s ls ops (block_label h arity rest skipped ∷ labels) e lb = goes_on s ls ops rest labels e lb.0 lb.1
    finish_at s ls ops (loop_label h body rest ∷ labels) e lb = goes_on s ls ops rest labels e lb.1 lb.2

    invoke_at : (c : Callee) (s : Store) (ls own ops : List Value) (rest : Code) (labels : List Label) (params x : ℕ) (o : Option Func) (before : List Callee)
        → s.table ≡ table → LeadsTo m table c ((own ++ take params ops) ++ drop params ops) x
        → calls_in f ≡ before ++ c ∷ calls_from rest labels → LabelsRemain (calls_in f) labels → defined_at m x ≡ o → NextAt m table root (invoke m s fn under ls own ops rest labels params x o)
    invoke_at c s ls own ops rest labels params x (Some g) before e to at lb there = by_depth (ltb (length under + 1) 4096) refl
      where
        by_depth : (b : Bool) → ltb (length under + 1) 4096 ≡ b
            → NextAt m table root
            (cond b (steps params (entered s (waiting fn ls (drop params ops) (own ++ take params ops) rest labels ∷ under) (reverse (take params ops)) x g)) (traps params StackExhausted s))
        by_depth true z =
            let lt : length under + 1 < 4096 = ltb-true _ _ z in
            record { same = e; here = body_stands m x g there; under = (c, to, (f, before, is, at, lb), u); few = omega arith }
        by_depth false z = e
    invoke_at c s ls own ops rest labels params x None before e to at lb there = by_import (ltb x (func_imports m)) refl
      where
        by_import : (b : Bool) → ltb x (func_imports m) ≡ b → NextAt m table root
            (cond b (asks params x (reverse (take params ops)) (record { store = s; here = waiting fn ls (drop params ops) (own ++ take params ops) rest labels; under = under })) stuck)
        by_import true z = record { same = e; stack = (c, to, (f, before, is, at, lb), u); few = few; imported = ltb-true x (func_imports m) z }
        by_import false z = tt

    through_at : (s : Store) (ls ops : List Value) (n : ℕ) (rest : Code) (labels : List Label) (sort : ℕ) (o : Option (Option ℕ)) (before : List Callee) → s.table ≡ table → slice_get s.table n ≡ o
        → calls_in f ≡ before ++ indirect sort ∷ calls_from rest labels → LabelsRemain (calls_in f) labels → NextAt m table root (through m s fn under ls (V.I32 n ∷ []) ops rest labels sort o)
    through_at s ls ops n rest labels sort None before e z at lb = e
    through_at s ls ops n rest labels sort (Some None) before e z at lb = e
    through_at s ls ops n rest labels sort (Some (Some x)) before e z at lb = by_type (same_func_type (func_type_at m x) (type_at m sort)) refl
      where
        by_type : (b : Bool) → same_func_type (func_type_at m x) (type_at m sort) ≡ b
            → NextAt m table root
            (cond b (invoke m s fn under ls (V.I32 n ∷ []) ops rest labels (param_count (type_at m sort)) x (defined_at m x)) (traps (param_count (type_at m sort)) TypeMismatch s))
        by_type true y =
            invoke_at (indirect sort) s ls (V.I32 n ∷ []) ops rest labels (param_count (type_at m sort)) x (defined_at m x) before e
            (n, take (param_count (type_at m sort)) ops ++ drop (param_count (type_at m sort)) ops, refl, ap (λ (t : List (Option ℕ)). slice_get t n) (sym e) ∙ z, y) at lb refl
        by_type false y = e

    plain_at : (s : Store) (ls ops : List Value) (labels : List Label) (rest : Code) (p : Plain) → s.table ≡ table → Remains (calls_in f) (plain p rest) labels
        → LabelsRemain (calls_in f) labels → NextAt m table root (step_plain m s fn under ls ops labels rest p)
    unfolding pruned calls_of
    plain_at s ls ops labels rest (basic b) e h lb =
        did_at (extra_cost b (take (takes b) ops)) ls labels rest s (drop (takes b) ops) (act (memory_max m) b s (take (takes b) ops)) e (act_at table (memory_max m) b s (take (takes b) ops) e) h lb
    plain_at s ls ops labels rest (local_get x) e h lb = goes_on s ls _ rest labels e h lb
    plain_at s ls [] labels rest (local_set x) e h lb = tt
    plain_at s ls (v ∷ ops) labels rest (local_set x) e h lb = goes_on s _ ops rest labels e h lb
    plain_at s ls [] labels rest (local_tee x) e h lb = tt
    plain_at s ls (v ∷ ops) labels rest (local_tee x) e h lb = goes_on s _ (v ∷ ops) rest labels e h lb
    plain_at s ls ops labels rest (br l) e h lb = jump_at 0 s ls ops labels l e lb
    plain_at s ls [] labels rest (br_if l) e h lb = tt
    plain_at s ls (V.I64 n ∷ ops) labels rest (br_if l) e h lb = tt
    plain_at s ls (V.I32 n ∷ ops) labels rest (br_if l) e h lb =
        chosen_at n (jump 0 m s fn under ls ops labels l) (steps 0 (running s fn under ls ops rest labels)) (jump_at 0 s ls ops labels l e lb) (goes_on s ls ops rest labels e h lb)
    plain_at s ls [] labels rest (br_table targets last) e h lb = tt
    plain_at s ls (V.I64 n ∷ ops) labels rest (br_table targets last) e h lb = tt
    plain_at s ls (V.I32 n ∷ ops) labels rest (br_table targets last) e h lb = jump_at (length targets + 1) s ls ops labels (unwrap_or (slice_get targets n) last) e lb
    plain_at s ls ops labels rest return e h lb = leave_at 0 s ops (result_count m fn) fn under e u few
    plain_at s ls ops labels rest unreachable e h lb = e
    plain_at s ls ops labels rest (call x) e h lb = invoke_at (direct x) s ls [] ops rest labels (param_count (func_type_at m x)) x (defined_at m x) h.0 e refl h.1 lb refl
    plain_at s ls [] labels rest (call_indirect sort) e h lb = tt
    plain_at s ls (V.I64 n ∷ ops) labels rest (call_indirect sort) e h lb = tt
    plain_at s ls (V.I32 n ∷ ops) labels rest (call_indirect sort) e h lb = through_at s ls ops n rest labels sort (slice_get s.table n) h.0 e refl h.1 lb

    -- the body of a construct, and what stands behind it
    into_body : (all before : List Callee) (body rest : Code) (labels : List Label) → all ≡ before ++ ((calls_of (pruned body) ++ calls_of (pruned rest)) ++ calls_behind labels)
        → all ≡ before ++ (calls_of (pruned body) ++ (calls_of (pruned rest) ++ calls_behind labels))
    into_body all before body rest labels e = e ∙ ap (λ (xs : List Callee). before ++ xs) (append_assoc (calls_of (pruned body)) (calls_of (pruned rest)) (calls_behind labels))

    code_at : (s : Store) (ls ops : List Value) (labels : List Label) (code : Code) → s.table ≡ table → Remains (calls_in f) code labels
        → LabelsRemain (calls_in f) labels → NextAt m table root (step_at m s fn under ls ops labels code)
    unfolding pruned calls_of
    code_at s ls ops labels done z h lb = finish_at s ls ops labels z lb
    code_at s ls ops labels (plain p rest) z h lb = plain_at s ls ops labels rest p z h lb
    code_at s ls ops labels (nest a_block r body rest) z h lb =
        let e = into_body (calls_in f) h.0 body rest labels h.1 in
        goes_on s ls ops body (block_label (length ops) (arity_of r) rest done ∷ labels) z (h.0, e)
        ((h.0 ++ calls_of (pruned body), past (calls_in f) h.0 (calls_of (pruned body)) (calls_from rest labels) e), lb)
    code_at s ls ops labels (nest a_loop r body rest) z h lb =
        let e = into_body (calls_in f) h.0 body rest labels h.1 in
        goes_on s ls ops body (loop_label (length ops) body rest ∷ labels) z (h.0, e)
        ((h.0, e), (h.0 ++ calls_of (pruned body), past (calls_in f) h.0 (calls_of (pruned body)) (calls_from rest labels) e), lb)
    code_at s ls [] labels (branch r a b rest) z h lb = tt
    code_at s ls (V.I64 n ∷ ops) labels (branch r a b rest) z h lb = tt
    code_at s ls (V.I32 n ∷ ops) labels (branch r a b rest) z h lb = by_number n
      where
        both : calls_in f ≡ h.0 ++ (calls_of (pruned a) ++ (calls_of (pruned b) ++ calls_from rest labels))
        both =
            h.1
            ∙ ap (λ (xs : List Callee). h.0 ++ xs) (append_assoc (calls_of (pruned a) ++ calls_of (pruned b)) (calls_of (pruned rest)) (calls_behind labels)
            ∙ append_assoc (calls_of (pruned a)) (calls_of (pruned b)) (calls_from rest labels))

        second : calls_in f ≡ (h.0 ++ calls_of (pruned a)) ++ (calls_of (pruned b) ++ calls_from rest labels)
        second = past (calls_in f) h.0 (calls_of (pruned a)) (calls_of (pruned b) ++ calls_from rest labels) both

        behind : calls_in f ≡ (h.0 ++ calls_of (pruned a) ++ calls_of (pruned b)) ++ calls_from rest labels
        behind = past (calls_in f) (h.0 ++ calls_of (pruned a)) (calls_of (pruned b)) (calls_from rest labels) second

        by_number : (k : ℕ) → ConfigurationAt m table root
            (choose k (running s fn under ls ops a (block_label (length ops) (arity_of r) rest b ∷ labels)) (running s fn under ls ops b (block_label (length ops) (arity_of r) rest done ∷ labels)))
        by_number zero =
            goes_on s ls ops b (block_label (length ops) (arity_of r) rest done ∷ labels) z (h.0 ++ calls_of (pruned a), second) ((h.0 ++ calls_of (pruned a) ++ calls_of (pruned b), behind), lb)
        by_number (suc k) = goes_on s ls ops a (block_label (length ops) (arity_of r) rest b ∷ labels) z (h.0, both) ((h.0 ++ calls_of (pruned a) ++ calls_of (pruned b), behind), lb)

  -- one reduction
  pub step_stands : (c : Configuration) → ConfigurationAt m table root c → NextAt m table root (step m c)
  step_stands c h = code_at c.here.func (h.here).0 (h.here).1 c.under h.under h.few c.store c.here.locals c.here.operands c.here.labels c.here.code h.same (h.here).2 (h.here).3
