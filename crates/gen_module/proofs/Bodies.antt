-- The code of a list of instructions, one instruction at a time.
use Rattle.std.proofs.Common.{◌≡◌, ℕ, List, [], ◌∷◌, refl}
use Rattle.wa_types.specs.declared.values.Value.{Value}
use Rattle.wa_types.specs.declared.operators.NumOp.{NumOp}
use Rattle.wa_types.specs.declared.instrs.Instr.{Instr}
use Rattle.wa_types.specs.declared.instrs.Instr.TheVariants.{Const, Num, LocalGet, LocalSet, Call, BrIf}
use Rattle.wa_types.specs.Syntax.{Code, done, plain, basic, const, num, local_get, local_set, call, br_if}
use Rattle.wa_types.specs.View.{code, onto, in_front}
use Rattle.wa_types.proofs.ViewLemmas.{in_if, in_loop}

pub code_cons : (x : Instr) (xs : List Instr) → code (x ∷ xs) ≡ in_front x (code xs)
unfolding code onto
code_cons x xs = refl

pub code_nil : code [] ≡ done
unfolding code onto
code_nil = refl

pub of_const : (v : Value) (rest : Code) → in_front (Const v) rest ≡ plain (basic (const v)) rest
unfolding in_front
of_const v rest = refl

pub of_num : (op : NumOp) (rest : Code) → in_front (Num op) rest ≡ plain (basic (num op)) rest
unfolding in_front
of_num op rest = refl

pub of_local_get : (x : ℕ) (rest : Code) → in_front (LocalGet x) rest ≡ plain (local_get x) rest
unfolding in_front
of_local_get x rest = refl

pub of_local_set : (x : ℕ) (rest : Code) → in_front (LocalSet x) rest ≡ plain (local_set x) rest
unfolding in_front
of_local_set x rest = refl

pub of_call : (x : ℕ) (rest : Code) → in_front (Call x) rest ≡ plain (call x) rest
unfolding in_front
of_call x rest = refl

pub of_br_if : (l : ℕ) (rest : Code) → in_front (BrIf l) rest ≡ plain (br_if l) rest
unfolding in_front
of_br_if l rest = refl

pub ruleset bodies = (code_cons, code_nil, of_const, of_num, of_local_get, of_local_set, of_call, of_br_if, in_if, in_loop)
