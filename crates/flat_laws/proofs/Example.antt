-- A function with a branch that carries a value, flattened.
use Rattle.std.proofs.Common.{◌≡◌, [], ◌∷◌, Some, None, refl}
use Rattle.wa_types.specs.declared.values.ValType.TheVariants.{I32}
use Rattle.wa_types.specs.declared.values.Value.TheVariants as V
use Rattle.wa_types.specs.declared.operators.NumOp.TheVariants.{I32Add}
use Rattle.wa_types.specs.Syntax.{drop, const, num, basic, local_get, br_if, br_table, call, a_block, done, plain, nest, branch, Func, Module}
use Rattle.wa_types.specs.Pruned.{pruned}
use Rattle.wa_types.specs.Points.{points}
use Rattle.wa_types.specs.Frames.{results_in}
use Rattle.wa_types.specs.Counts.{depth_of}
use Rattle.wa_model.specs.declared.flat.Operand.TheVariants.{Local}
use Rattle.run_theory.specs.Flat.{no_more, computes, copies, calls, leaps_if, leaps_by, nests, decides}
use Rattle.flat_laws.specs.Flatten.{flat, flattened}

-- (5 + the block's value), which is the parameter where it isn't 0, and else 1
abbrev one : Func
one = record {
  sort = 0;
  locals = [];
  body =
      plain (basic (const (V.I32 5)))
      (nest a_block (Some I32) (plain (local_get 0) (plain (local_get 0) (plain (br_if 0) (plain (basic drop) (plain (basic (const (V.I32 1))) done)))))
      (plain (basic (num I32Add)) done));
}

-- an if with a result in the condition of another, a call above an operand, and a br_table to labels of two depths
abbrev two : Func
two = record {
  sort = 0;
  locals = [];
  body =
      plain (local_get 0)
      (branch (Some I32) (plain (local_get 0) done) (plain (basic (const (V.I32 2))) (plain (call 0) done))
      (branch (Some I32)
      (plain (basic (const (V.I32 9))) (plain (local_get 0) (plain (br_table (0 ∷ []) 1) done)))
      (plain (basic (const (V.I32 3))) (plain (local_get 0) (plain (call 0) (plain (basic (num I32Add)) done))))
      done));
}

abbrev m : Module
m = record {
  types = record { params = I32 ∷ []; results = I32 ∷ [] } ∷ [];
  imports = [];
  funcs = one ∷ two ∷ [];
  tables = [];
  memories = [];
  globals = [];
  exports = [];
  start = None;
  elems = [];
  segments = [];
  customs = [];
}

one_is : (flattened m 0 one).body ≡
    computes (plain (basic (const (V.I32 5))) done) [] (Some 1)
    (nests a_block
    (copies 2 (Local 0) (copies 3 (Local 0)
    (copies 5 (Local 2) (leaps_if (Local 3) 0 (computes (plain (basic drop) done) (Local 2 ∷ []) None
    (computes (plain (basic (const (V.I32 1))) done) [] (Some 2) (copies 5 (Local 2) no_more)))))))
    (copies 2 (Local 5) (computes (plain (basic (num I32Add)) done) (Local 1 ∷ Local 2 ∷ []) (Some 1) (copies 4 (Local 1) no_more))))
unfolding flat points pruned results_in depth_of
one_is = refl

two_is : (flattened m 1 two).body ≡
    copies 1 (Local 0)
    (decides (Local 1) (copies 1 (Local 0) (copies 4 (Local 1) no_more)) (computes (plain (basic (const (V.I32 2))) done) [] (Some 1)
    (calls (plain (call 0) done) (1 ∷ []) 1 (Some 1) (copies 4 (Local 1) no_more)))
    (copies 1 (Local 4)
    (decides (Local 1)
    (computes (plain (basic (const (V.I32 9))) done) [] (Some 1) (copies 2 (Local 0) (copies 4 (Local 1) (copies 3 (Local 1) (leaps_by (Local 2) (0 ∷ []) 1 no_more)))))
    (computes (plain (basic (const (V.I32 3))) done) [] (Some 1) (copies 2 (Local 0) (calls (plain (call 0) done) (1 ∷ 2 ∷ []) 1 (Some 2)
    (computes (plain (basic (num I32Add)) done) (Local 1 ∷ Local 2 ∷ []) (Some 1) (copies 4 (Local 1) no_more)))))
    (copies 1 (Local 4) (copies 3 (Local 1) no_more)))))
unfolding flat points pruned results_in depth_of
two_is = refl

locals_are : (flattened m 1 two).locals ≡ I32 ∷ I32 ∷ I32 ∷ I32 ∷ I32 ∷ []
unfolding points pruned results_in depth_of
locals_are = refl
