-- One reduction on both sides, by the code that stands next.
use Rattle.std.proofs.Common.{◌≡◌, ◌∙◌, ℕ, zero, suc, ◌+◌, ◌≤◌, List, [], ◌∷◌, ◌++◌, length, take, drop, map, reverse, Option, Some, None, Bool, true, false, refl, sym, ap, subst, arith}
use Rattle.std.specs.Prelude.{if◌then◌else◌, nat_lt, slice_get, slice_set}
use Rattle.std.specs.Option.{unwrap_or}
use Rattle.std.proofs.lemmas.Bool.{and_parts}
use Rattle.std.proofs.lemmas.List.{length-take-le}
use Rattle.wa_types.specs.declared.values.ValType.{ValType}
use Rattle.wa_types.specs.declared.values.Value.{Value}
use Rattle.wa_types.specs.declared.values.Value.TheVariants as V
use Rattle.wa_types.specs.declared.values.Trap.TheVariants.{StackExhausted, TypeMismatch}
use Rattle.wa_types.specs.Encoding.{same_type}
use Rattle.wa_types.specs.Modules.{func_imports, type_at, func_type_at, declared_locals, defined_at}
use Rattle.wa_types.specs.Pausing.{Callee, callee, direct, indirect}
use Rattle.wa_types.specs.Pruned.{is_last}
use Rattle.wa_types.specs.Syntax.{Plain, basic, local_get, local_set, local_tee, br, br_if, br_table, return, unreachable, call, call_indirect, a_block, a_loop, Code, done, branch, Func, FuncType, Module}
use Rattle.wa_model.specs.Configuration.{Label, block_label, loop_label, Activation, running, waiting}
use Rattle.wa_model.specs.Step.{steps, asks, traps, stuck, arity_of, did, entered, finish, invoke, jump, keep, leave, memory_max, param_count, result_count, same_func_type, same_types, step_at, step_plain, through, zero_of}
use Rattle.wa_model.specs.Store.{Store, Did, works, fails, lacks, act, extra_cost, takes, value_at}
use Rattle.guard_form.specs.Asserts.{assert_code, tested_behind}
use Rattle.guard_form.specs.Passing.{stays}
use Rattle.guard_form.proofs.Passing.{passes}
use Rattle.assert_laws.specs.Beside.{Sides, Tested, at_done, at_plain, at_last, at_nest, at_branch, LabelsToo, no_label, in_block, in_loop, Twin, both_import, both_defined, Together, CallsIt, directly, by_table, Waits, waits, Unders, bottom, above, beside, ProperPlain, ProperCode, Comes, Matched, both_step, both_ask, both_return, both_trap, plain_stuck}
use Rattle.assert_laws.proofs.StateKept.{KeptIn, act_kept}
use Rattle.assert_laws.proofs.TestedCalls.{tested_calls}

same_long : (ts us : List ValType) → same_types ts us ≡ true → length ts ≡ length us
same_long [] [] e = refl
same_long [] (u ∷ us) e = cc
same_long (t ∷ ts) [] e = cc
same_long (t ∷ ts) (u ∷ us) e = ap suc (same_long ts us (and_parts (same_type t u) (same_types ts us) e).1)

params_same : (t u : FuncType) → same_func_type t u ≡ true → param_count u ≡ param_count t
params_same t u e = sym (same_long t.params u.params (and_parts (same_types t.params u.params) (same_types t.results u.results) e).0)

not_less : (n : ℕ) → n ≡ suc n → ⊥
not_less n e = absurd (omega arith)

not_more : (n : ℕ) → suc n ≡ n → ⊥
not_more n e = absurd (omega arith)

module _ (w : Sides) where
  abbrev p : Module
  p = w.plainly

  abbrev q : Module
  q = w.tested

  abbrev T : Code → Code → Type 0
  T a b = Tested w.tests w.state a b

  abbrev Ls : List Label → List Label → Type 0
  Ls a b = LabelsToo w.tests w.state a b

  pub unders_long : (g : ℕ) (us us' : List Activation) → Unders w g us us' → length us' ≡ length us
  unders_long g _ _ bottom = refl
  unders_long g _ _ (above {a = a} {under = us} {under' = us'} wt un) = ap suc (unders_long a.func us us' un)

  -- ---- behind a return

  pub lands : (s : Store) → value_at s.globals w.state ≡ V.I32 0 → (g : ℕ) (a a' : Activation) (us us' : List Activation) → Waits w g a a' → Unders w a.func us us' → (vs : List Value)
      → Comes w (running s a.func us a.locals (vs ++ a.operands) a.code a.labels) (running s a'.func us' a'.locals (vs ++ a'.operands) a'.code a'.labels)
  lands s e g _ _ us us' (waits {rest = rest} {rest' = rest'} {labels = labels} {labels' = labels'} fn ls ops taken x c t la) un vs = by (w.tests x)
    where
      by : (b : Bool) → Comes w (running s fn us ls (vs ++ ops) rest labels) (running s fn us' ls (vs ++ ops) (if b then assert_code w.state rest' else rest') labels')
      by true = record { n = 5; few = omega arith; to = running s fn us' ls (vs ++ ops) rest' labels'; goes = passes q w.state s fn us' ls (vs ++ ops) rest' labels' e; both = beside s e fn ls (vs ++ ops) t la un }
      by false = record { n = 0; few = omega arith; to = running s fn us' ls (vs ++ ops) rest' labels'; goes = stays; both = beside s e fn ls (vs ++ ops) t la un }

  module _ (ok : Together w) (s : Store) (e : value_at s.globals w.state ≡ V.I32 0) (fn : ℕ) (us us' : List Activation) (un : Unders w fn us us') where
    -- at once
    abbrev here : (ls ops : List Value) (code code' : Code) (labels labels' : List Label) → T code code' → Ls labels labels'
        → Comes w (running s fn us ls ops code labels) (running s fn us' ls ops code' labels')
    here ls ops code code' labels labels' t la = record { n = 0; few = omega arith; to = running s fn us' ls ops code' labels'; goes = stays; both = beside s e fn ls ops t la un }

    results_same : result_count q fn ≡ result_count p fn
    results_same = ap (λ (t : FuncType). length t.results) (ok.func_type fn)

    leaves : (k : ℕ) (ops : List Value) → Matched w (length us) (leave k s ops (result_count p fn) us) (leave k s ops (result_count q fn) us')
    leaves k ops = subst (λ n. Matched w (length us) (leave k s ops (result_count p fn) us) (leave k s ops n us')) (sym results_same) (by us us' un)
      where
        by : (vs vs' : List Activation) → Unders w fn vs vs' → Matched w (length vs) (leave k s ops (result_count p fn) vs) (leave k s ops (result_count p fn) vs')
        by _ _ bottom = both_return
        by _ _ (above {a = a} {a' = a'} {under = vs} {under' = vs'} wt rest) = both_step (lands s e fn a a' vs vs' wt rest (take (result_count p fn) ops)) (λ z. absurd (not_less (length vs) z))

    jump_too : (k : ℕ) (ls ops : List Value) (labels labels' : List Label) (l : ℕ) → Ls labels labels' → Matched w (length us) (jump k p s fn us ls ops labels l) (jump k q s fn us' ls ops labels' l)
    jump_too k ls ops _ _ l no_label = leaves k ops
    jump_too k ls ops _ _ zero (in_block {rest = r} {rest' = r'} {labels = labels} {labels' = labels'} h arity skipped skipped' sk t la) = both_step (here ls (take arity ops ++ keep h ops) r r' labels labels' t la) (λ z. refl)
    jump_too k ls ops _ _ zero (in_loop {body = b} {body' = b'} {rest = r} {rest' = r'} {labels = labels} {labels' = labels'} h tb t la) =
        both_step (here ls (keep h ops) b b' (loop_label h b r ∷ labels) (loop_label h b' r' ∷ labels') tb (in_loop h tb t la)) (λ z. refl)
    jump_too k ls ops _ _ (suc l) (in_block {labels = labels} {labels' = labels'} h arity skipped skipped' sk t la) = jump_too k ls ops labels labels' l la
    jump_too k ls ops _ _ (suc l) (in_loop {labels = labels} {labels' = labels'} h tb t la) = jump_too k ls ops labels labels' l la

    finish_too : (ls ops : List Value) (labels labels' : List Label) → Ls labels labels' → Matched w (length us) (finish p s fn us ls ops labels) (finish q s fn us' ls ops labels')
    finish_too ls ops _ _ no_label = leaves 0 ops
    finish_too ls ops _ _ (in_block {rest = r} {rest' = r'} {labels = labels} {labels' = labels'} h arity skipped skipped' sk t la) = both_step (here ls ops r r' labels labels' t la) (λ z. refl)
    finish_too ls ops _ _ (in_loop {rest = r} {rest' = r'} {labels = labels} {labels' = labels'} h tb t la) = both_step (here ls ops r r' labels labels' t la) (λ z. refl)

    -- ---- calls

    invoke_too : (ls own ops : List Value) (rest rest' : Code) (labels labels' : List Label) (n g : ℕ) (x : Callee) → CallsIt p g (own ++ take n ops) x → T rest rest' → Ls labels labels'
        → Matched w (length us) (invoke p s fn us ls own ops rest labels n g (defined_at p g)) (invoke q s fn us' ls own ops (tested_behind w.tests w.state (Some x) rest') labels' n g (defined_at q g))
    invoke_too ls own ops rest rest' labels labels' n g x c t la = by (ok.twin g)
      where
        behind : Code
        behind = tested_behind w.tests w.state (Some x) rest'

        stack : Unders w g (waiting fn ls (drop n ops) (own ++ take n ops) rest labels ∷ us) (waiting fn ls (drop n ops) (own ++ take n ops) behind labels' ∷ us')
        stack = above (waits fn ls (drop n ops) (own ++ take n ops) x c t la) un

        M : Option Func → Option Func → Type 0
        M o o' = Matched w (length us) (invoke p s fn us ls own ops rest labels n g o) (invoke q s fn us' ls own ops behind labels' n g o')

        by_import : (b : Bool) → Matched w (length us)
            (if b then asks n g (reverse (take n ops)) (record { store = s; here = waiting fn ls (drop n ops) (own ++ take n ops) rest labels; under = us }) else stuck)
            (if b then asks n g (reverse (take n ops)) (record { store = s; here = waiting fn ls (drop n ops) (own ++ take n ops) behind labels'; under = us' }) else stuck)
        by_import true = both_ask (record { store = refl; state = e; stack = stack })
        by_import false = plain_stuck

        imported : M None None
        imported = subst (λ k. Matched w (length us) (invoke p s fn us ls own ops rest labels n g None)
            (if nat_lt g k then asks n g (reverse (take n ops)) (record { store = s; here = waiting fn ls (drop n ops) (own ++ take n ops) behind labels'; under = us' }) else stuck))
            (sym ok.imports) (by_import (nat_lt g (func_imports p)))

        by_room : (h h' : Func) → declared_locals h'.locals ≡ declared_locals h.locals → T h.body h'.body → (b : Bool) → Matched w (length us)
            (if b then steps n (entered s (waiting fn ls (drop n ops) (own ++ take n ops) rest labels ∷ us) (reverse (take n ops)) g h) else traps n StackExhausted s)
            (if b then steps n (entered s (waiting fn ls (drop n ops) (own ++ take n ops) behind labels' ∷ us') (reverse (take n ops)) g h') else traps n StackExhausted s)
        by_room h h' loc tb true =
            let args = reverse (take n ops) in
            let u1 = waiting fn ls (drop n ops) (own ++ take n ops) rest labels ∷ us in
            let u2 = waiting fn ls (drop n ops) (own ++ take n ops) behind labels' ∷ us' in
            let l1 = args ++ map zero_of (declared_locals h.locals) in
            both_step (subst (λ ts. Comes w (running s g u1 l1 [] h.body []) (running s g u2 (args ++ map zero_of ts) [] h'.body [])) (sym loc)
            (record { n = 0; few = omega arith; to = running s g u2 l1 [] h'.body []; goes = stays; both = beside s e g l1 [] tb no_label stack })) (λ z. absurd (not_more (length us) z))
        by_room h h' loc tb false = both_trap

        defined : (h h' : Func) → declared_locals h'.locals ≡ declared_locals h.locals → T h.body h'.body → M (Some h) (Some h')
        defined h h' loc tb = subst (λ k. Matched w (length us) (invoke p s fn us ls own ops rest labels n g (Some h))
            (if nat_lt (k + 1) 4096 then steps n (entered s (waiting fn ls (drop n ops) (own ++ take n ops) behind labels' ∷ us') (reverse (take n ops)) g h') else traps n StackExhausted s))
            (sym (unders_long fn us us' un)) (by_room h h' loc tb (nat_lt (length us + 1) 4096))

        by : Twin w g → M (defined_at p g) (defined_at q g)
        by (both_import e1 e2) = subst (λ o. M o (defined_at q g)) (sym e1) (subst (λ o. M None o) (sym e2) imported)
        by (both_defined h h' e1 e2 loc tb) = subst (λ o. M o (defined_at q g)) (sym e1) (subst (λ o. M (Some h) o) (sym e2) (defined h h' loc tb))

    call_too : (ls ops : List Value) (rest rest' : Code) (labels labels' : List Label) (g : ℕ) → param_count (func_type_at p g) ≤ length ops → T rest rest' → Ls labels labels'
        → Matched w (length us) (invoke p s fn us ls [] ops rest labels (param_count (func_type_at p g)) g (defined_at p g))
        (invoke q s fn us' ls [] ops (tested_behind w.tests w.state (Some (direct g)) rest') labels' (param_count (func_type_at q g)) g (defined_at q g))
    call_too ls ops rest rest' labels labels' g le t la =
        subst (λ n. Matched w (length us) (invoke p s fn us ls [] ops rest labels (param_count (func_type_at p g)) g (defined_at p g))
        (invoke q s fn us' ls [] ops (tested_behind w.tests w.state (Some (direct g)) rest') labels' n g (defined_at q g))) (ap param_count (sym (ok.func_type g)))
        (invoke_too ls [] ops rest rest' labels labels' (param_count (func_type_at p g)) g (direct g) (directly (length-take-le (param_count (func_type_at p g)) ops le)) t la)

    through_too : (ls below : List Value) (rest rest' : Code) (labels labels' : List Label) (sort n : ℕ) (o : Option (Option ℕ)) → param_count (type_at p sort) ≤ length below → T rest rest' → Ls labels labels'
        → Matched w (length us) (through p s fn us ls (V.I32 n ∷ []) below rest labels sort o)
        (through q s fn us' ls (V.I32 n ∷ []) below (tested_behind w.tests w.state (Some (indirect sort)) rest') labels' sort o)
    through_too ls below rest rest' labels labels' sort n o le t la = by o
      where
        behind : Code
        behind = tested_behind w.tests w.state (Some (indirect sort)) rest'

        sorts : type_at q sort ≡ type_at p sort
        sorts = ok.sort sort

        traps_too : {t : _} → Matched w (length us) (traps (param_count (type_at p sort)) t s) (traps (param_count (type_at q sort)) t s)
        traps_too {t} = subst (λ z. Matched w (length us) (traps (param_count (type_at p sort)) t s) (traps (param_count z) t s)) (sym sorts) both_trap

        by_type : (g : ℕ) (b : Bool) → same_func_type (func_type_at p g) (type_at p sort) ≡ b → Matched w (length us)
            (if b then invoke p s fn us ls (V.I32 n ∷ []) below rest labels (param_count (type_at p sort)) g (defined_at p g) else traps (param_count (type_at p sort)) TypeMismatch s)
            (if b then invoke q s fn us' ls (V.I32 n ∷ []) below behind labels' (param_count (type_at p sort)) g (defined_at q g) else traps (param_count (type_at p sort)) TypeMismatch s)
        by_type g true is =
            let k = param_count (type_at p sort) in
            let z : length (take k below) ≡ param_count (func_type_at p g) = length-take-le k below le ∙ params_same (func_type_at p g) (type_at p sort) is in
            invoke_too ls (V.I32 n ∷ []) below rest rest' labels labels' k g (indirect sort) (by_table sort n (take k below) refl z is) t la
        by_type g false is = both_trap

        by : (o : Option (Option ℕ)) → Matched w (length us) (through p s fn us ls (V.I32 n ∷ []) below rest labels sort o) (through q s fn us' ls (V.I32 n ∷ []) below behind labels' sort o)
        by None = traps_too
        by (Some None) = traps_too
        by (Some (Some g)) =
            subst (λ z. Matched w (length us) (through p s fn us ls (V.I32 n ∷ []) below rest labels sort (Some (Some g)))
            (if same_func_type (func_type_at q g) z then invoke q s fn us' ls (V.I32 n ∷ []) below behind labels' (param_count z) g (defined_at q g) else traps (param_count z) TypeMismatch s)) (sym sorts)
            (subst (λ z. Matched w (length us) (through p s fn us ls (V.I32 n ∷ []) below rest labels sort (Some (Some g)))
            (if same_func_type z (type_at p sort) then invoke q s fn us' ls (V.I32 n ∷ []) below behind labels' (param_count (type_at p sort)) g (defined_at q g)
            else traps (param_count (type_at p sort)) TypeMismatch s)) (sym (ok.func_type g))
            (by_type g (same_func_type (func_type_at p g) (type_at p sort)) refl))

    -- ---- by the instruction

    acted : (k : ℕ) (ls ops : List Value) (rest rest' : Code) (labels labels' : List Label) (d : Did) → KeptIn w.state (value_at s.globals w.state) d → T rest rest' → Ls labels labels'
        → Matched w (length us) (did k fn us ls labels rest s ops d) (did k fn us' ls labels' rest' s ops d)
    acted k ls ops rest rest' labels labels' (works s2 vs) kept t la =
        both_step (record { n = 0; few = omega arith; to = running s2 fn us' ls (vs ++ ops) rest' labels'; goes = stays; both = beside s2 (kept ∙ e) fn ls (vs ++ ops) t la un }) (λ z. refl)
    acted k ls ops rest rest' labels labels' (fails tr) kept t la = both_trap
    acted k ls ops rest rest' labels labels' lacks kept t la = plain_stuck

    br_if_too : (ls ops : List Value) (rest rest' : Code) (labels labels' : List Label) (l : ℕ) → T rest rest' → Ls labels labels'
        → Matched w (length us) (step_plain p s fn us ls ops labels rest (br_if l)) (step_plain q s fn us' ls ops labels' rest' (br_if l))
    br_if_too ls [] rest rest' labels labels' l t la = plain_stuck
    br_if_too ls (V.I64 n ∷ below) rest rest' labels labels' l t la = plain_stuck
    br_if_too ls (V.I32 zero ∷ below) rest rest' labels labels' l t la = both_step (here ls below rest rest' labels labels' t la) (λ z. refl)
    br_if_too ls (V.I32 (suc n) ∷ below) rest rest' labels labels' l t la = jump_too 0 ls below labels labels' l la

    br_table_too : (ls ops : List Value) (rest rest' : Code) (labels labels' : List Label) (targets : List ℕ) (last : ℕ) → Ls labels labels'
        → Matched w (length us) (step_plain p s fn us ls ops labels rest (br_table targets last)) (step_plain q s fn us' ls ops labels' rest' (br_table targets last))
    br_table_too ls [] rest rest' labels labels' targets last la = plain_stuck
    br_table_too ls (V.I64 n ∷ below) rest rest' labels labels' targets last la = plain_stuck
    br_table_too ls (V.I32 n ∷ below) rest rest' labels labels' targets last la = jump_too (length targets + 1) ls below labels labels' (unwrap_or (slice_get targets n) last) la

    set_too : (ls ops : List Value) (rest rest' : Code) (labels labels' : List Label) (x : ℕ) → T rest rest' → Ls labels labels'
        → Matched w (length us) (step_plain p s fn us ls ops labels rest (local_set x)) (step_plain q s fn us' ls ops labels' rest' (local_set x))
    set_too ls [] rest rest' labels labels' x t la = plain_stuck
    set_too ls (v ∷ below) rest rest' labels labels' x t la = both_step (here (slice_set ls x v) below rest rest' labels labels' t la) (λ z. refl)

    tee_too : (ls ops : List Value) (rest rest' : Code) (labels labels' : List Label) (x : ℕ) → T rest rest' → Ls labels labels'
        → Matched w (length us) (step_plain p s fn us ls ops labels rest (local_tee x)) (step_plain q s fn us' ls ops labels' rest' (local_tee x))
    tee_too ls [] rest rest' labels labels' x t la = plain_stuck
    tee_too ls (v ∷ below) rest rest' labels labels' x t la = both_step (here (slice_set ls x v) (v ∷ below) rest rest' labels labels' t la) (λ z. refl)

    indirect_too : (ls ops : List Value) (rest rest' : Code) (labels labels' : List Label) (sort : ℕ) → suc (param_count (type_at p sort)) ≤ length ops → T rest rest' → Ls labels labels'
        → Matched w (length us) (step_plain p s fn us ls ops labels rest (call_indirect sort))
        (step_plain q s fn us' ls ops labels' (tested_behind w.tests w.state (Some (indirect sort)) rest') (call_indirect sort))
    indirect_too ls [] rest rest' labels labels' sort le t la = plain_stuck
    indirect_too ls (V.I64 n ∷ below) rest rest' labels labels' sort le t la = plain_stuck
    indirect_too ls (V.I32 n ∷ below) rest rest' labels labels' sort le t la = through_too ls below rest rest' labels labels' sort n (slice_get s.table n) (omega arith) t la

    -- one behind which control goes on
    plain_too : (ls ops : List Value) (rest rest' : Code) (labels labels' : List Label) (i : Plain) → ProperPlain w ops i → T rest rest' → Ls labels labels'
        → Matched w (length us) (step_plain p s fn us ls ops labels rest i) (step_plain q s fn us' ls ops labels' (tested_behind w.tests w.state (callee i) rest') i)
    plain_too ls ops rest rest' labels labels' (basic b) pr t la =
        subst (λ k. Matched w (length us) (step_plain p s fn us ls ops labels rest (basic b))
        (did (extra_cost b (take (takes b) ops)) fn us' ls labels' rest' s (drop (takes b) ops) (act k b s (take (takes b) ops)))) (sym ok.most)
        (acted (extra_cost b (take (takes b) ops)) ls (drop (takes b) ops) rest rest' labels labels' (act (memory_max p) b s (take (takes b) ops)) (act_kept w.state s (memory_max p) b (take (takes b) ops) pr) t la)
    plain_too ls ops rest rest' labels labels' (local_get x) pr t la = both_step (here ls (value_at ls x ∷ ops) rest rest' labels labels' t la) (λ z. refl)
    plain_too ls ops rest rest' labels labels' (local_set x) pr t la = set_too ls ops rest rest' labels labels' x t la
    plain_too ls ops rest rest' labels labels' (local_tee x) pr t la = tee_too ls ops rest rest' labels labels' x t la
    plain_too ls ops rest rest' labels labels' (br l) pr t la = jump_too 0 ls ops labels labels' l la
    plain_too ls ops rest rest' labels labels' (br_if l) pr t la = br_if_too ls ops rest rest' labels labels' l t la
    plain_too ls ops rest rest' labels labels' (br_table targets last) pr t la = br_table_too ls ops rest rest' labels labels' targets last la
    plain_too ls ops rest rest' labels labels' return pr t la = leaves 0 ops
    plain_too ls ops rest rest' labels labels' unreachable pr t la = both_trap
    plain_too ls ops rest rest' labels labels' (call g) pr t la = call_too ls ops rest rest' labels labels' g pr t la
    plain_too ls ops rest rest' labels labels' (call_indirect sort) pr t la = indirect_too ls ops rest rest' labels labels' sort pr t la

    -- one behind which it doesn't
    last_too : (ls ops : List Value) (rest rest' : Code) (labels labels' : List Label) (i : Plain) → is_last i ≡ true → Ls labels labels'
        → Matched w (length us) (step_plain p s fn us ls ops labels rest i) (step_plain q s fn us' ls ops labels' rest' i)
    last_too ls ops rest rest' labels labels' (br l) z la = jump_too 0 ls ops labels labels' l la
    last_too ls ops rest rest' labels labels' (br_table targets last) z la = br_table_too ls ops rest rest' labels labels' targets last la
    last_too ls ops rest rest' labels labels' return z la = leaves 0 ops
    last_too ls ops rest rest' labels labels' unreachable z la = both_trap
    last_too ls ops rest rest' labels labels' (basic b) z la = cc
    last_too ls ops rest rest' labels labels' (local_get x) z la = cc
    last_too ls ops rest rest' labels labels' (local_set x) z la = cc
    last_too ls ops rest rest' labels labels' (local_tee x) z la = cc
    last_too ls ops rest rest' labels labels' (br_if l) z la = cc
    last_too ls ops rest rest' labels labels' (call g) z la = cc
    last_too ls ops rest rest' labels labels' (call_indirect sort) z la = cc

    branch_too : (ls ops : List Value) (r : Option ValType) (a a' b b' rest rest' : Code) (labels labels' : List Label) → T a a' → T b b' → T rest rest' → Ls labels labels'
        → Matched w (length us) (step_at p s fn us ls ops labels (branch r a b rest)) (step_at q s fn us' ls ops labels' (branch r a' b' rest'))
    branch_too ls [] r a a' b b' rest rest' labels labels' ta tb t la = plain_stuck
    branch_too ls (V.I64 n ∷ below) r a a' b b' rest rest' labels labels' ta tb t la = plain_stuck
    branch_too ls (V.I32 zero ∷ below) r a a' b b' rest rest' labels labels' ta tb t la =
        both_step (here ls below b b' (block_label (length below) (arity_of r) rest done ∷ labels) (block_label (length below) (arity_of r) rest' done ∷ labels') tb
        (in_block (length below) (arity_of r) done done refl t la)) (λ z. refl)
    branch_too ls (V.I32 (suc n) ∷ below) r a a' b b' rest rest' labels labels' ta tb t la =
        both_step (here ls below a a' (block_label (length below) (arity_of r) rest b ∷ labels) (block_label (length below) (arity_of r) rest' b' ∷ labels') ta
        (in_block (length below) (arity_of r) b b' (tested_calls (w.tests) (w.state) b b' tb) t la)) (λ z. refl)

    pub table : (ls ops : List Value) (code code' : Code) (labels labels' : List Label) → ProperCode w ops code → T code code' → Ls labels labels'
        → Matched w (length us) (step_at p s fn us ls ops labels code) (step_at q s fn us' ls ops labels' code')
    table ls ops _ _ labels labels' pr at_done la = finish_too ls ops labels labels' la
    table ls ops _ _ labels labels' pr (at_plain {rest = rest} {rest' = rest'} i t) la = plain_too ls ops rest rest' labels labels' i pr t la
    table ls ops _ _ labels labels' pr (at_last i rest rest' z cs) la = last_too ls ops rest rest' labels labels' i z la
    table ls ops _ _ labels labels' pr (at_nest {body = body} {body' = body'} {rest = rest} {rest' = rest'} a_block r tb t) la =
        both_step (here ls ops body body' (block_label (length ops) (arity_of r) rest done ∷ labels) (block_label (length ops) (arity_of r) rest' done ∷ labels') tb
        (in_block (length ops) (arity_of r) done done refl t la)) (λ z. refl)
    table ls ops _ _ labels labels' pr (at_nest {body = body} {body' = body'} {rest = rest} {rest' = rest'} a_loop r tb t) la =
        both_step (here ls ops body body' (loop_label (length ops) body rest ∷ labels) (loop_label (length ops) body' rest' ∷ labels') tb (in_loop (length ops) tb t la)) (λ z. refl)
    table ls ops _ _ labels labels' pr (at_branch {a = a} {a' = a'} {b = b} {b' = b'} {rest = rest} {rest' = rest'} r ta tb t) la =
        branch_too ls ops r a a' b b' rest rest' labels labels' ta tb t la
