-- Operands of an operator's types have an outcome, and a value that comes out is of its result's type.
use Rattle.std.proofs.Common.{◌≡◌, ℕ, Bool, true, false, List, [], ◌∷◌, map, length, Option, Some, None, Result, Ok, Err, cond, refl, sym, ◌∙◌, ap, subst, arith}
use Rattle.std.specs.Prelude.{IsSome, ◌&&◌}
use Rattle.std.specs.Option.{option_map}
use Rattle.std.proofs.lemmas.List.{length-map}
use Rattle.wa_types.specs.declared.values.Trap.{Trap}
use Rattle.wa_types.specs.declared.values.ValType.{ValType}
use Rattle.wa_types.specs.declared.values.ValType.TheVariants.{I32, I64}
use Rattle.wa_types.specs.declared.values.Value.{Value}
use Rattle.wa_types.specs.declared.operators.NumOp.{NumOp}
use Rattle.wa_types.specs.declared.operators.NumOp.TheVariants.{I32Eqz}
use Rattle.wa_types.specs.Operators.{operand_types, result_type}
use Rattle.wa_types.specs.Encoding.{same_type}
use Rattle.wa_types.specs.Typing.{type_of}
use Rattle.wa_ops.specs.Operate.{Meaning, unary, conversion, comparison, binary, meaning_of, number_of, value_of, are_of, applied, valued, operate}

same_type-same : (t : ValType) → same_type t t ≡ true
same_type-same I32 = refl
same_type-same I64 = refl

are_of-types : (values : List Value) → are_of (map type_of values) values ≡ true
are_of-types [] = refl
are_of-types (v ∷ values) = ap (λ (b : Bool). b && are_of (map type_of values) values) (same_type-same (type_of v)) ∙ are_of-types values

-- how many operands a meaning takes
arity : Meaning → ℕ
arity (unary f) = 1
arity (conversion f) = 1
arity (comparison f) = 2
arity (binary f) = 2

arity_is : (op : NumOp) → length (operand_types op) ≡ arity (meaning_of op)
unfolding arity
arity_is I32Eqz = refl
arity_is _ = refl

applied_to : (m : Meaning) (numbers : List ℕ) → length numbers ≡ arity m → IsSome (applied m numbers)
unfolding arity
applied_to (unary f) [] h = absurd (omega arith)
applied_to (unary f) (i ∷ []) h = refl
applied_to (unary f) (i ∷ j ∷ rest) h = absurd (omega arith)
applied_to (conversion f) [] h = absurd (omega arith)
applied_to (conversion f) (i ∷ []) h = refl
applied_to (conversion f) (i ∷ j ∷ rest) h = absurd (omega arith)
applied_to (comparison f) [] h = absurd (omega arith)
applied_to (comparison f) (j ∷ []) h = absurd (omega arith)
applied_to (comparison f) (j ∷ i ∷ []) h = refl
applied_to (comparison f) (j ∷ i ∷ k ∷ rest) h = absurd (omega arith)
applied_to (binary f) [] h = absurd (omega arith)
applied_to (binary f) (j ∷ []) h = absurd (omega arith)
applied_to (binary f) (j ∷ i ∷ []) h = refl
applied_to (binary f) (j ∷ i ∷ k ∷ rest) h = absurd (omega arith)

mapped : {A B : Type 0} (f : A → B) (o : Option A) → IsSome o → IsSome (option_map f o)
mapped f None h = cc
mapped f (Some x) h = refl

-- operands of an operator's types have an outcome
pub operate-typed : (op : NumOp) (operands : List Value) → map type_of operands ≡ operand_types op → IsSome (operate op operands)
operate-typed op operands h =
    let typed : are_of (operand_types op) operands ≡ true =
    subst (λ (types : List ValType). are_of types operands ≡ true) h (are_of-types operands) in
    let count : length (map number_of operands) ≡ arity (meaning_of op) =
    length-map operands number_of ∙ sym (length-map operands type_of) ∙ ap length h ∙ arity_is op in
    let outcome = option_map (valued (result_type op)) (applied (meaning_of op) (map number_of operands)) in
    subst (λ (b : Bool). IsSome (cond b outcome None)) (sym typed)
    (mapped (valued (result_type op)) (applied (meaning_of op) (map number_of operands))
    (applied_to (meaning_of op) (map number_of operands) count))

type_of-value_of : (t : ValType) (n : ℕ) → type_of (value_of t n) ≡ t
type_of-value_of I32 n = refl
type_of-value_of I64 n = refl

of_outcome : (t : ValType) (b : Bool) (o : Option (Result ℕ Trap)) (v : Value)
    → cond b (option_map (valued t) o) None ≡ Some (Ok v) → type_of v ≡ t
of_outcome t false o v h = cc
of_outcome t true None v h = cc
of_outcome t true (Some (Err trap)) v h = cc
of_outcome t true (Some (Ok n)) v h =
    let same : value_of t n ≡ v = cc in
    subst (λ (w : Value). type_of w ≡ t) same (type_of-value_of t n)

-- a value that comes out is of the operator's result type
pub type_of-operate : (op : NumOp) (operands : List Value) (v : Value) → operate op operands ≡ Some (Ok v) → type_of v ≡ result_type op
type_of-operate op operands v h =
    of_outcome (result_type op) (are_of (operand_types op) operands) (applied (meaning_of op) (map number_of operands)) v h
