-- Statements behind which control never goes on.
use Rattle.std.proofs.Common.{◌≡◌, ℕ, zero, suc, ◌<◌, ◌++◌, List, [], ◌∷◌, length, drop, get_or, slice_get, Option, Some, None, arith, ap, sym, ◌∙◌, length-append}
use Rattle.std.proofs.lemmas.Option.{slice_get_within}
use Rattle.std.specs.declared.vec.Vec.{Vec}
use Rattle.std.specs.declared.alloc.Global.{Global}
use Rattle.wa_types.specs.declared.values.ValType.{ValType}
use Rattle.wa_types.specs.declared.instrs.Instr.{Instr}
use Rattle.wa_types.specs.declared.instrs.Instr.TheVariants.{Br, BrTable, Return, Unreachable}
use Rattle.wa_types.specs.Syntax.{Plain, br, br_table, return, unreachable, Code, plain}
use Rattle.wa_types.specs.View.{in_front}
use Rattle.wa_types.specs.Typing.{jump, jumps, sig, Takes}
use Rattle.wa_types.specs.Points.{after}
use Rattle.wasm_validate.specs.Walk.{Walk}
use Rattle.wa_model.specs.declared.flat.Stmt.{Stmt}
use Rattle.wa_model.specs.declared.flat.Stmt.TheVariants.{Br as Jump, BrTable as JumpBy, Unreachable as Halt}
use Rattle.wa_model.specs.declared.flat.Operand.TheVariants.{Local}
use Rattle.run_theory.specs.Flat.{Stmts, no_more, leaps, leaps_by, halts}
use Rattle.run_theory.specs.FlatView.{stmt_in_front}
use Rattle.flat_laws.specs.Flatten.{Names, top, carry, carry_all, flat, flat_plain}
use Rattle.flat_laws.proofs.TableLabels.{AllLabels, table_typed}
use Rattle.flatten.specs.Emitting.{onto_stmts, all_of, flat_at, carried_to, all_carried, label_locals}
use Rattle.flatten.proofs.OntoLemmas.{onto_more}
use Rattle.flatten.proofs.CarryLemmas.{carry_is, carry_all_is, carries_step, carries_end}

pub is_br : (i : Instr) (l : ℕ) → i ≡ Br l → (rest : Code) → in_front i rest ≡ plain (br l) rest
unfolding in_front
is_br i l e rest = ap (λ j. in_front j rest) e

pub is_return : (i : Instr) → i ≡ Return → (rest : Code) → in_front i rest ≡ plain return rest
unfolding in_front
is_return i e rest = ap (λ j. in_front j rest) e

pub is_unreachable : (i : Instr) → i ≡ Unreachable → (rest : Code) → in_front i rest ≡ plain unreachable rest
unfolding in_front
is_unreachable i e rest = ap (λ j. in_front j rest) e

pub is_br_table : (i : Instr) (ts : Vec ℕ Global) (l : ℕ) → i ≡ BrTable ts l → (rest : Code) → in_front i rest ≡ plain (br_table ts.items l) rest
unfolding in_front
is_br_table i ts l e rest = ap (λ j. in_front j rest) e

-- what is put, where nothing stands behind
pub last_put : (n : Names) (v : Walk) (i : Instr) (p : Plain) (old new : List Stmt) → ((rest : Code) → in_front i rest ≡ plain p rest)
    → ((behind : List ValType) (k : Stmts) → onto_stmts new no_more ≡ onto_stmts old (flat_plain n v.around v.labels (all_of v) behind p k))
    → (rest : Code) → onto_stmts new no_more ≡ onto_stmts old (flat_at n v (in_front i rest))
unfolding flat
last_put n v i p old new is h rest =
    h (after (sig v.around v.labels p) (all_of v)) (flat n v.around v.labels rest (after (sig v.around v.labels p) (all_of v)))
    ∙ sym (ap (λ k. onto_stmts old (flat n v.around v.labels k (all_of v))) (is rest))

pub jump_there : (ls : List (Option ValType)) (l : ℕ) (own mids : List ValType) (o : Option (Option ValType)) → slice_get ls l ≡ o → Takes (jump o) own mids → l < length ls
jump_there ls l own mids None e t = absurd t
jump_there ls l own mids (Some r) e t = slice_get_within ls l r e

pub jumped : (n : Names) (ls : List (Option ValType)) (locals : List (Option ℕ)) (old mid new : List Stmt) (l from : ℕ) (ops : List ValType) → locals ≡ label_locals n ls
    → ((rest : Stmts) → onto_stmts mid rest ≡ onto_stmts old (carried_to (slice_get locals l) from rest)) → new ≡ mid ++ Jump l ∷ [] → from ≡ top n ops
    → onto_stmts new no_more ≡ onto_stmts old (carry n ls ops l (leaps l no_more))
unfolding stmt_in_front
jumped n ls locals old mid new l from ops el h e ef =
    ap (λ z. onto_stmts z no_more) e ∙ onto_more mid (Jump l) no_more ∙ h (leaps l no_more) ∙ ap (λ y. onto_stmts old (carried_to (slice_get locals l) y (leaps l no_more))) ef
    ∙ ap (λ xs. onto_stmts old (carried_to (slice_get xs l) (top n ops) (leaps l no_more))) el ∙ ap (onto_stmts old) (carry_is n ls ops l (leaps l no_more))

pub halted : (old new : List Stmt) → new ≡ old ++ Halt ∷ [] → onto_stmts new no_more ≡ onto_stmts old (halts no_more)
unfolding stmt_in_front
halted old new e = ap (λ z. onto_stmts z no_more) e ∙ onto_more old Halt no_more

-- ---- br_table

pub record TableTyped (ls : List (Option ValType)) (targets : List ℕ) (last : ℕ) (own : List ValType) : Type 0 where
  pub each : (k d : ℕ) → k < length targets → get_or targets k d < length ls
  pub last_there : last < length ls
  pub one : 0 < length own

each_there : (ls : List (Option ValType)) (r : Option ValType) (targets : List ℕ) → AllLabels ls r targets → (k d : ℕ) → k < length targets → get_or targets k d < length ls
each_there ls r [] a k d lt = absurd (omega arith)
each_there ls r (t ∷ ts) a zero d lt = slice_get_within ls t r a.0
each_there ls r (t ∷ ts) a (suc k) d lt = each_there ls r ts a.1 k d (omega arith)

pub table_there : (ls : List (Option ValType)) (targets : List ℕ) (last : ℕ) (own mids : List ValType) (o : Option (Option ValType)) → slice_get ls last ≡ o
    → Takes (jumps ls targets o) own mids → TableTyped ls targets last own
table_there ls targets last own mids None e t = absurd t
table_there ls targets last own mids (Some r) e t =
    let w = table_typed ls targets r own mids t in
    record { each = each_there ls r targets w.0; last_there = slice_get_within ls last r e; one = omega (arith, ap length w.2) }

pub jumped_by : (n : Names) (ls : List (Option ValType)) (locals : List (Option ℕ)) (old one two new : List Stmt) (index from last : ℕ) (targets : Vec ℕ Global) (copy : Vec ℕ Global)
    (ops : List ValType) → locals ≡ label_locals n ls → copy.items ≡ targets.items
    → ((rest : Stmts) → onto_stmts one rest ≡ onto_stmts old (all_carried locals targets.items from rest))
    → ((rest : Stmts) → onto_stmts two rest ≡ onto_stmts one (carried_to (slice_get locals last) from rest)) → new ≡ two ++ JumpBy (Local index) copy last ∷ [] → index ≡ top n ops
    → from ≡ top n (drop 1 ops)
    → onto_stmts new no_more ≡ onto_stmts old (carry_all n ls (drop 1 ops) targets.items (carry n ls (drop 1 ops) last (leaps_by (Local (top n ops)) targets.items last no_more)))
unfolding stmt_in_front
jumped_by n ls locals old one two new index from last targets copy ops el ec h1 h2 e ei ef =
    let low : List ValType = drop 1 ops in
    let end : Stmts = leaps_by (Local (top n ops)) targets.items last no_more in
    ap (λ z. onto_stmts z no_more) e ∙ onto_more two (JumpBy (Local index) copy last) no_more ∙ ap (λ y. onto_stmts two (leaps_by (Local index) y last no_more)) ec
    ∙ ap (λ y. onto_stmts two (leaps_by (Local y) targets.items last no_more)) ei
    ∙ h2 end ∙ h1 (carried_to (slice_get locals last) from end)
    ∙ ap (λ y. onto_stmts old (all_carried locals targets.items y (carried_to (slice_get locals last) y end))) ef
    ∙ ap (λ xs. onto_stmts old (all_carried xs targets.items (top n low) (carried_to (slice_get xs last) (top n low) end))) el
    ∙ ap (λ k. onto_stmts old (all_carried (label_locals n ls) targets.items (top n low) k)) (carry_is n ls low last end)
    ∙ ap (onto_stmts old) (carry_all_is n ls low targets.items (carry n ls low last end))

pub own_long : (v : Walk) → 0 < length v.own → 0 < length (all_of v)
own_long v lt = omega (arith, lt, length-append v.own v.under)

pub ruleset moving = (carries_step, carries_end)
