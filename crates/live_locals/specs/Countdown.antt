-- A countdown loop as a flat function: `sum = sum + (0 ? 100 : ask(n))` while `n = n - 1` isn't 0. Local 0 is n, local 1 the sum, and
-- locals 2 to 4 are slots. At its call the sum waits in slot 2, and slot 3 holds the argument.
use Rattle.std.specs.Prelude.{[], ◌∷◌, Some}
use Rattle.wa_types.specs.declared.values.ValType.TheVariants.{I32}
use Rattle.wa_types.specs.declared.values.Value.TheVariants.{I32 as value_32}
use Rattle.wa_types.specs.declared.operators.NumOp.TheVariants.{I32Add, I32Sub}
use Rattle.wa_types.specs.Syntax.{num, basic, call, a_loop, done, plain}
use Rattle.wa_model.specs.declared.flat.Operand.TheVariants.{Local, Const}
use Rattle.run_theory.specs.Flat.{Stmts, no_more, computes, copies, calls, leaps_if, nests, decides, FlatFunc}
use Rattle.live_locals.specs.LiveAt.{KeepsAt}

-- a turn of the loop
abbrev pub one_turn : Stmts
one_turn =
    copies 2 (Local 1) (decides (Const (value_32 0)) (copies 3 (Const (value_32 100)) no_more) (copies 3 (Local 0) (calls (plain (call 0) done) (2 ∷ 3 ∷ []) 1 (Some 3) no_more))
    (computes (plain (basic (num I32Add)) done) (Local 2 ∷ Local 3 ∷ []) (Some 2) (copies 1 (Local 2) (computes (plain (basic (num I32Sub)) done) (Local 0 ∷ Const (value_32 1) ∷ []) (Some 2)
    (copies 0 (Local 2) (leaps_if (Local 2) 0 no_more))))))

-- the function
abbrev pub countdown : FlatFunc
countdown = record {
  func = 1;
  sort = 0;
  locals = I32 ∷ I32 ∷ I32 ∷ I32 ∷ I32 ∷ [];
  result = Some 2;
  body = nests a_loop one_turn (copies 2 (Local 1) no_more);
}

-- Its call keeps n and both slots of the stack; the sum is written before it is read again, and slot 4 isn't used.
pub record CountdownKeeps : Type 0 where
  pub counter : KeepsAt countdown 0 0
  pub sum : KeepsAt countdown 0 1 → ⊥
  pub waits : KeepsAt countdown 0 2
  pub argument : KeepsAt countdown 0 3
  pub unused : KeepsAt countdown 0 4 → ⊥
