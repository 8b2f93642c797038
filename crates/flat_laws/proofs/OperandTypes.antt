-- Operands before and behind instructions of good code.
use Rattle.std.proofs.Common.{◌≡◌, ℕ, ◌++◌, zero, suc, length, take, List, [], ◌∷◌, Option, false, if◌then◌else◌, ap, sym, ◌∙◌, ◌≤◌, arith, refl}
use Rattle.std.proofs.lemmas.Bool.{leb-true}
use Rattle.wa_types.specs.declared.values.ValType.{ValType}
use Rattle.wa_types.specs.Syntax.{Basic, nop, drop as drop_operand, select, const, num, global_get, global_set, load, store, memory_size, memory_grow, memory_copy, memory_fill, Plain}
use Rattle.wa_types.specs.Syntax.{Code, done, plain, nest, branch}
use Rattle.wa_types.specs.Pruned.{is_last}
use Rattle.wa_types.specs.Typing.{Around, sig}
use Rattle.wa_types.specs.Typing.{Takes}
use Rattle.wa_types.specs.Points.{after}
use Rattle.wa_types.specs.declared.operators.NumOp.{NumOp}
use Rattle.wa_types.specs.declared.operators.NumOp.TheVariants.{I32Eqz}
use Rattle.wa_types.specs.Operators.{operand_types}
use Rattle.wa_types.proofs.PointLemmas.{passes, takes_after}
use Rattle.wa_model.specs.Store.{takes}
use Rattle.run_theory.proofs.FittingSteps.{takes_above}
use Rattle.flat_laws.specs.Flatten.{Names}
use Rattle.flat_laws.specs.Placed.{AllIn, Good}

-- a numeric instruction takes two operands at most
few_operands : (op : NumOp) → length (operand_types op) ≤ 3
few_operands I32Eqz = leb-true _ 3 refl
few_operands _ = leb-true _ 3 refl

pub takes_few : (b : Basic) → takes b ≤ 3
takes_few nop = omega arith
takes_few drop_operand = omega arith
takes_few select = omega arith
takes_few (const v) = omega arith
takes_few (num op) = few_operands op
takes_few (global_get x) = omega arith
takes_few (global_set x) = omega arith
takes_few (load op align offset) = omega arith
takes_few (store op align offset) = omega arith
takes_few memory_size = omega arith
takes_few memory_grow = omega arith
takes_few memory_copy = omega arith
takes_few memory_fill = omega arith

-- what stands behind an instruction, over all operands
pub after_all : (c : Around) (ls : List (Option ValType)) (p : Plain) (own mids low types : List ValType) → is_last p ≡ false → Takes (sig c ls p) own mids → types ≡ own ++ low
    → after (sig c ls p) types ≡ mids ++ low
after_all c ls p own mids low types e t is = ap (after (sig c ls p)) is ∙ sym (takes_after (sig c ls p) (own ++ low) (mids ++ low) (passes c ls p e) (takes_above (sig c ls p) own mids low t))

pub good_in : (n : Names) (c : Around) (ls : List (Option ValType)) (code : Code) (outs own low : List ValType) → Good n c ls code outs own low → AllIn n (own ++ low)
unfolding Good
good_in n c ls done outs own low g = g.0
good_in n c ls (plain p rest) outs own low g = g.0
good_in n c ls (nest s r body rest) outs own low g = g.0
good_in n c ls (branch r a b rest) outs own low g = g.0

pub take_few : {X : Type 0} (k : ℕ) (xs : List X) → length (take k xs) ≤ k
take_few zero xs = omega arith
take_few (suc k) [] = omega arith
take_few (suc k) (x ∷ xs) = let ih = take_few k xs in omega arith
