-- Statements of calls.
use Rattle.std.proofs.Common.{◌≡◌, ℕ, zero, suc, ◌≤◌, ◌++◌, List, [], ◌∷◌, length, reverse, slice_get, nat_lt, Option, Some, None, Bool, true, refl, subst, arith, ap, sym, ◌∙◌}
use Rattle.std.specs.declared.vec.Vec.{Vec}
use Rattle.std.specs.declared.alloc.Global.{Global}
use Rattle.wa_types.specs.declared.values.ValType.{ValType}
use Rattle.wa_types.specs.declared.instrs.Instr.{Instr}
use Rattle.wa_types.specs.declared.instrs.Instr.TheVariants.{Call, CallIndirect}
use Rattle.wa_types.specs.Syntax.{Plain, call, call_indirect, Code, done, plain, FuncType}
use Rattle.wa_types.specs.View.{in_front}
use Rattle.wa_types.specs.Typing.{calls as calls_sig, calls_at, sig, Takes}
use Rattle.wa_types.specs.Modules.{or_empty}
use Rattle.wa_types.specs.Leaves.{is_leaf}
use Rattle.wasm_validate.specs.Walk.{Walk, TypedAt}
use Rattle.wa_model.specs.declared.flat.Stmt.{Stmt}
use Rattle.wa_model.specs.declared.flat.Stmt.TheVariants.{Call as Calls}
use Rattle.run_theory.specs.Flat.{Stmts, calls}
use Rattle.run_theory.specs.FlatView.{stmt_in_front}
use Rattle.flat_laws.specs.Flatten.{Names, slots, top_of}
use Rattle.flatten.specs.Emitting.{onto_stmts, all_of, CallAt, Changed, SmallTypes}
use Rattle.flatten.specs.Numbers.{bit}
use Rattle.flatten.proofs.OntoLemmas.{onto_more}
use Rattle.flatten.proofs.TakenLemmas.{call_changed, table_changed}
use Rattle.flatten.proofs.LeafLemmas.{taken}

pub called_is : (n : Names) (p : Plain) (old new : List Stmt) (op : Instr) (stack : Vec ℕ Global) (count : ℕ) (to : Option ℕ) (g : Bool) (ops behind : List ValType) (k : Stmts)
    → ((rest : Code) → in_front op rest ≡ plain p rest) → new ≡ old ++ Calls op stack count to ∷ []
    → stack.items ≡ reverse (slots n ops) → to ≡ top_of n (bit g) behind → onto_stmts new k ≡ onto_stmts old (calls (plain p done) (reverse (slots n ops)) count (top_of n (bit g) behind) k)
unfolding stmt_in_front
called_is n p old new op stack count to g ops behind k eo e es et =
    ap (λ z. onto_stmts z k) e ∙ onto_more old (Calls op stack count to) k ∙ ap (λ z. onto_stmts old (calls z stack.items count to k)) (eo done)
    ∙ ap (λ z. onto_stmts old (calls (plain p done) z count to k)) es ∙ ap (λ z. onto_stmts old (calls (plain p done) (reverse (slots n ops)) count z k)) et

is_call : (i : Instr) (x : ℕ) → i ≡ Call x → (rest : Code) → in_front i rest ≡ plain (call x) rest
unfolding in_front
is_call i x e rest = ap (λ j. in_front j rest) e

is_call_indirect : (i : Instr) (x : ℕ) → i ≡ CallIndirect x → (rest : Code) → in_front i rest ≡ plain (call_indirect x) rest
unfolding in_front
is_call_indirect i x e rest = ap (λ j. in_front j rest) e

pub call_leaf : (i : Instr) (x : ℕ) → i ≡ Call x → is_leaf i ≡ true
unfolding is_leaf
call_leaf i x e = ap is_leaf e

pub call_indirect_leaf : (i : Instr) (x : ℕ) → i ≡ CallIndirect x → is_leaf i ≡ true
unfolding is_leaf
call_indirect_leaf i x e = ap is_leaf e

no_func : (o : Option FuncType) (own mids : List ValType) → o ≡ None → Takes (calls_sig o) own mids → ⊥
no_func None own mids e t = t
no_func (Some u) own mids e t = cc

no_sort : (table : Bool) (o : Option FuncType) (own mids : List ValType) → o ≡ None → Takes (calls_at table o) own mids → ⊥
no_sort table None own mids e t = t
no_sort table (Some u) own mids e t = cc

module _ (v : Walk) (i : Instr) (x : ℕ) (typed : TypedAt v (in_front i done)) where
  pub func_there : i ≡ Call x → slice_get v.around.funcs x ≡ None → ⊥
  func_there e none = let t = taken v i (call x) (is_call i x e) typed in no_func (slice_get v.around.funcs x) v.own t.0 none t.1

  pub sort_there : i ≡ CallIndirect x → slice_get v.around.types x ≡ None → ⊥
  sort_there e none = let t = taken v i (call_indirect x) (is_call_indirect i x e) typed in no_sort v.around.table (slice_get v.around.types x) v.own t.0 none t.1

  pub call_at : (n : Names) (t : FuncType) (k : ℕ) (g : Bool) → i ≡ Call x → slice_get v.around.funcs x ≡ Some t → SmallTypes v.around → k ≡ length t.params → bit g ≡ length t.results
      → CallAt n v i k g
  call_at n t k g e et small ek eg =
      let is = is_call i x e in
      let u : or_empty (slice_get v.around.funcs x) ≡ t = ap or_empty et in
      let kp : k ≡ length (or_empty (slice_get v.around.funcs x)).params = ek ∙ sym (ap (λ (z : FuncType). length z.params) u) in
      let kr : bit g ≡ length (or_empty (slice_get v.around.funcs x)).results = eg ∙ sym (ap (λ (z : FuncType). length z.results) u) in
      let few = (small.funcs x).results in
      let ch : (mids : List ValType) → Takes (sig v.around v.labels (call x)) v.own mids
      → Changed k (bit g) (all_of v) (mids ++ v.under) = (λ mids h. subst (λ z. Changed z (bit g) (all_of v) (mids ++ v.under)) (sym kp)
      (subst (λ z. Changed (length (or_empty (slice_get v.around.funcs x)).params) z (all_of v) (mids ++ v.under)) (sym kr)
      (call_changed (slice_get v.around.funcs x) v.own mids v.under few h))) in
      let can = taken v i (call x) is typed in
      record {
        call = call x;
        is = is;
        goes_on = refl;
        there = (ch can.0 can.1).there;
        changed = ch;
        flat_is = λ behind rest. ap (λ z. calls (plain (call x) done) (reverse (slots n (all_of v))) z (top_of n (length (or_empty (slice_get v.around.funcs x)).results) behind) rest)
            (sym kp) ∙ ap (λ z. calls (plain (call x) done) (reverse (slots n (all_of v))) k (top_of n z behind) rest) (sym kr);
      }

  pub indirect_at : (n : Names) (t : FuncType) (k : ℕ) (g : Bool) → i ≡ CallIndirect x → slice_get v.around.types x ≡ Some t → SmallTypes v.around → k ≡ suc (length t.params)
      → bit g ≡ length t.results → CallAt n v i k g
  indirect_at n t k g e et small ek eg =
      let is = is_call_indirect i x e in
      let u : or_empty (slice_get v.around.types x) ≡ t = ap or_empty et in
      let kp : k ≡ suc (length (or_empty (slice_get v.around.types x)).params) = ek ∙ sym (ap (λ (z : FuncType). suc (length z.params)) u) in
      let kr : bit g ≡ length (or_empty (slice_get v.around.types x)).results = eg ∙ sym (ap (λ (z : FuncType). length z.results) u) in
      let few = (small.sorts x).results in
      let ch : (mids : List ValType) → Takes (sig v.around v.labels (call_indirect x)) v.own mids
      → Changed k (bit g) (all_of v) (mids ++ v.under) = (λ mids h. subst (λ z. Changed z (bit g) (all_of v) (mids ++ v.under)) (sym kp)
      (subst (λ z. Changed (suc (length (or_empty (slice_get v.around.types x)).params)) z (all_of v) (mids ++ v.under)) (sym kr)
      (table_changed v.around.table (slice_get v.around.types x) v.own mids v.under few h))) in
      let can = taken v i (call_indirect x) is typed in
      record {
        call = call_indirect x;
        is = is;
        goes_on = refl;
        there = (ch can.0 can.1).there;
        changed = ch;
        flat_is = λ behind rest. ap (λ z. calls (plain (call_indirect x) done) (reverse (slots n (all_of v))) z
            (top_of n (length (or_empty (slice_get v.around.types x)).results) behind) rest) (sym kp)
            ∙ ap (λ z. calls (plain (call_indirect x) done) (reverse (slots n (all_of v))) k (top_of n z behind) rest) (sym kr);
      }

-- whether a type has a result
pub given_is : (k : ℕ) → k ≤ 1 → bit (nat_lt 0 k) ≡ k
given_is zero le = refl
given_is (suc zero) le = refl
given_is (suc (suc k)) le = absurd (omega arith)

pub few_results : (o : Option FuncType) (t : FuncType) → o ≡ Some t → length (or_empty o).results ≤ 1 → length t.results ≤ 1
few_results o t e le = subst (λ z. length (or_empty z).results ≤ 1) e le
