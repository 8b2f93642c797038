-- What is emitted for small statements, computed.
use Rattle.std.proofs.Common.{◌≡◌, [], ◌∷◌, Some, None, refl}
use Rattle.std.specs.Prelude.{nat_lt, ◌&&◌}
use Rattle.wa_types.specs.declared.values.Value.TheVariants as V
use Rattle.wa_types.specs.declared.operators.NumOp.TheVariants.{I32Add, I32Mul}
use Rattle.wa_types.specs.Syntax.{drop, const, num, basic, local_get, local_set, local_tee, br_if, call, a_block, a_loop, done, plain, nest}
use Rattle.wa_types.specs.Pausing.{direct, calls_of}
use Rattle.wa_model.specs.declared.flat.Operand.TheVariants.{Local}
use Rattle.run_theory.specs.Flat.{Stmts, no_more, computes, copies, calls, leaps_if, nests, followed_by, code_of}
use Rattle.slim_laws.specs.Slim.{Terms}
use Rattle.slim_laws.specs.Emit.{emit}
use Rattle.slim_laws.specs.Parts.{no_unit, call_unit, emit_units}

-- one parameter, slots 1 to 3, and the local of the result, 4
terms : Terms
terms = record { slot = λ x. nat_lt 0 x && nat_lt x 4; size = 5; fixed = λ n. 1 ∷ 2 ∷ [] }

-- x + f(x * 3), in pieces: what stands before the call, and behind it
before : Stmts
before =
    computes (plain (local_get 0) done) [] (Some 1)
    (computes (plain (local_get 0) done) [] (Some 2)
    (computes (plain (basic (const (V.I32 3))) done) [] (Some 3)
    (computes (plain (basic (num I32Mul)) done) (Local 2 ∷ Local 3 ∷ []) (Some 2) no_more)))

after : Stmts
after = computes (plain (basic (num I32Add)) done) (Local 1 ∷ Local 2 ∷ []) (Some 1) (copies 4 (Local 1) no_more)

-- the call is numbered: operands go to their slots, and its result stays on the operand stack for the piece behind
numbered_is : emit_units terms 0 [] (Some []) before (call_unit (2 ∷ []) (direct 0) (Some 2) after no_unit) [] []
    ≡ Some (record {
      first = plain (local_get 0) (plain (local_get 0) (plain (basic (const (V.I32 3))) (plain (basic (num I32Mul)) (plain (local_set 2) (plain (local_set 1) done)))));
      units = call_unit (2 ∷ []) (direct 0) None (plain (local_set 2) (plain (local_get 1) (plain (local_get 2) (plain (basic (num I32Add)) (plain (local_set 4) done))))) no_unit;
    })
unfolding before after terms followed_by code_of calls_of
numbered_is = refl

-- a call without number takes all of the operand stack as its arguments: f(x)
calm_terms : Terms
calm_terms = record { slot = λ x. nat_lt 0 x && nat_lt x 4; size = 5; fixed = λ n. [] }

calm : Stmts
calm =
    computes (plain (local_get 0) done) [] (Some 1)
    (calls (plain (call 0) done) (1 ∷ []) 1 (Some 1)
    (copies 4 (Local 1) no_more))

calm_is : emit calm_terms [] (Some []) calm [] [] ≡ Some (plain (local_get 0) (plain (call 0) (plain (local_set 4) done)))
unfolding calm calm_terms followed_by
calm_is = refl

-- while (x * x) x = x * x, in a block
squares : Stmts
squares =
    nests a_block
    (nests a_loop
    (computes (plain (local_get 0) done) [] (Some 1)
    (computes (plain (local_get 0) done) [] (Some 2)
    (computes (plain (basic (num I32Mul)) done) (Local 1 ∷ Local 2 ∷ []) (Some 1)
    (computes (plain (local_set 0) done) (Local 1 ∷ []) None
    (computes (plain (local_get 0) done) [] (Some 1)
    (leaps_if (Local 1) 0 no_more)))))) no_more) no_more

squares_are : emit terms [] (Some []) squares [] []
    ≡ Some (nest a_block None (nest a_loop None (plain (local_get 0) (plain (local_get 0) (plain (basic (num I32Mul)) (plain (local_set 0) (plain (local_get 0) (plain (br_if 0) done)))))) done) done)
unfolding squares terms followed_by
squares_are = refl

-- while (x = x * x), in a loop: what is set is read again
squares_again : Stmts
squares_again =
    nests a_loop
    (computes (plain (local_get 0) done) [] (Some 1)
    (computes (plain (local_get 0) done) [] (Some 2)
    (computes (plain (basic (num I32Mul)) done) (Local 1 ∷ Local 2 ∷ []) (Some 1)
    (copies 0 (Local 1)
    (leaps_if (Local 1) 0 no_more))))) no_more

squares_again_are : emit terms [] (Some []) squares_again [] []
    ≡ Some (nest a_loop None (plain (local_get 0) (plain (local_get 0) (plain (basic (num I32Mul)) (plain (local_tee 0) (plain (br_if 0) done))))) done)
unfolding squares_again terms followed_by
squares_again_are = refl

-- a slot that is read once more than it was set has no slim code
twice : Stmts
twice = computes (plain (local_get 0) done) [] (Some 1) (computes (plain (basic drop) done) (Local 1 ∷ []) None (computes (plain (basic drop) done) (Local 1 ∷ []) None no_more))

twice_has_none : emit terms [] (Some []) twice [] [] ≡ None
unfolding twice terms followed_by
twice_has_none = refl
