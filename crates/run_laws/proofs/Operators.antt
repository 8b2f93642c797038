-- What an operator makes of operands in range is in range.
use Rattle.std.proofs.Common.{◌≡◌, ℕ, ◌^◌, ◌<◌, Bool, true, false, cond, List, [], ◌∷◌, map, Option, Some, None, Result, Ok, Err, All, refl, arith}
use Rattle.std.specs.Option.{option_map}
use Rattle.std.proofs.lemmas.Bool.{and_parts}
use Rattle.std.proofs.lemmas.Nat.{or_lt, xor_lt}
use Rattle.std.specs.Int.Bits.{and_lt}
use Rattle.std.proofs.lemmas.List.Elements.{All-head, All-tail}
use Rattle.wa_types.specs.declared.values.Trap.{Trap}
use Rattle.wa_types.specs.declared.values.ValType.{ValType}
use Rattle.wa_types.specs.declared.values.ValType.TheVariants.{I32, I64}
use Rattle.wa_types.specs.declared.values.Value.{Value}
use Rattle.wa_types.specs.declared.values.Value.TheVariants as V
use Rattle.wa_types.specs.declared.operators.NumOp.{NumOp}
use Rattle.wa_types.specs.declared.operators.NumOp.TheVariants.{I32Eqz, I64Eqz, I32Clz, I32Ctz, I32Popcnt, I32Add, I32Sub, I32Mul, I32DivS, I32DivU, I32RemS, I32RemU, I32And, I32Or, I32Xor, I32Shl, I32ShrS, I32ShrU, I32Rotl, I32Rotr, I64Clz, I64Ctz, I64Popcnt, I64Add, I64Sub, I64Mul, I64DivS, I64DivU, I64RemS, I64RemU, I64And, I64Or, I64Xor, I64Shl, I64ShrS, I64ShrU, I64Rotl, I64Rotr, I32WrapI64, I64ExtendI32S, I64ExtendI32U, I32Extend8S, I32Extend16S, I64Extend8S, I64Extend16S, I64Extend32S}
use Rattle.wa_types.specs.Encoding.{same_type}
use Rattle.wa_types.specs.Operators.{operand_types, result_type}
use Rattle.wa_types.specs.Sizes.{value_fits}
use Rattle.wa_types.specs.Typing.{type_of}
use Rattle.wa_model.specs.Operate.{Meaning, unary, conversion, comparison, binary, meaning_of, number_of, value_of, are_of, applied, valued}
use Rattle.run_laws.specs.Ranges.{GivenIn, OperatorsIn}
use Rattle.run_laws.proofs.Numbers.{OkBelow, truth_in, width_32, width_64, iclz_in, ictz_in, ipopcnt_in, mod_in, div_u_in, div_s_in, rem_u_in, rem_s_in, shr_u_in, shr_s_in, rotl_in, rotr_in, extend_in, iextend_in}

-- the numbers of a type
abbrev pub size : ValType → ℕ
size I32 = 2 ^ 32
size I64 = 2 ^ 64

pub value_of_in : (t : ValType) (n : ℕ) → n < size t → value_fits (value_of t n)
value_of_in I32 n h = h
value_of_in I64 n h = h

-- what a meaning makes of numbers of these types, the topmost first, is of that type
abbrev MeaningIn : List ValType → ValType → Meaning → Type 0
MeaningIn (t ∷ []) u (unary f) = (i : ℕ) → i < size t → f i < size u
MeaningIn (t ∷ []) u (conversion f) = (i : ℕ) → i < size t → f i < size u
MeaningIn (s ∷ t ∷ []) u (comparison f) = (i j : ℕ) → i < size t → j < size s → f i j < size u
MeaningIn (s ∷ t ∷ []) u (binary f) = (i j : ℕ) → i < size t → j < size s → OkBelow (size u) (f i j)
MeaningIn _ _ _ = ⊥

truth : (b : Bool) → cond b 1 0 < 2 ^ 32
truth b = truth_in (2 ^ 32) (omega arith) b

-- the comparisons are the last clause
meaning_in : (op : NumOp) → MeaningIn (operand_types op) (result_type op) (meaning_of op)
meaning_in I32Eqz = λ i h. truth _
meaning_in I64Eqz = λ i h. truth _
meaning_in I32Clz = λ i h. iclz_in 32 width_32 i
meaning_in I32Ctz = λ i h. ictz_in 32 width_32 i
meaning_in I32Popcnt = λ i h. ipopcnt_in 32 width_32 i
meaning_in I32Add = λ i j h k. mod_in 32 width_32 _
meaning_in I32Sub = λ i j h k. mod_in 32 width_32 _
meaning_in I32Mul = λ i j h k. mod_in 32 width_32 _
meaning_in I32DivS = λ i j h k. div_s_in 32 width_32 i j h
meaning_in I32DivU = λ i j h k. div_u_in 32 width_32 i j h
meaning_in I32RemS = λ i j h k. rem_s_in 32 width_32 i j h
meaning_in I32RemU = λ i j h k. rem_u_in 32 width_32 i j h
meaning_in I32And = λ i j h k. and_lt 32 i j h k
meaning_in I32Or = λ i j h k. or_lt 32 i j h k
meaning_in I32Xor = λ i j h k. xor_lt 32 i j h k
meaning_in I32Shl = λ i j h k. mod_in 32 width_32 _
meaning_in I32ShrS = λ i j h k. shr_s_in 32 width_32 i j h
meaning_in I32ShrU = λ i j h k. shr_u_in 32 width_32 i j h
meaning_in I32Rotl = λ i j h k. rotl_in 32 width_32 i j h
meaning_in I32Rotr = λ i j h k. rotr_in 32 width_32 i j h
meaning_in I64Clz = λ i h. iclz_in 64 width_64 i
meaning_in I64Ctz = λ i h. ictz_in 64 width_64 i
meaning_in I64Popcnt = λ i h. ipopcnt_in 64 width_64 i
meaning_in I64Add = λ i j h k. mod_in 64 width_64 _
meaning_in I64Sub = λ i j h k. mod_in 64 width_64 _
meaning_in I64Mul = λ i j h k. mod_in 64 width_64 _
meaning_in I64DivS = λ i j h k. div_s_in 64 width_64 i j h
meaning_in I64DivU = λ i j h k. div_u_in 64 width_64 i j h
meaning_in I64RemS = λ i j h k. rem_s_in 64 width_64 i j h
meaning_in I64RemU = λ i j h k. rem_u_in 64 width_64 i j h
meaning_in I64And = λ i j h k. and_lt 64 i j h k
meaning_in I64Or = λ i j h k. or_lt 64 i j h k
meaning_in I64Xor = λ i j h k. xor_lt 64 i j h k
meaning_in I64Shl = λ i j h k. mod_in 64 width_64 _
meaning_in I64ShrS = λ i j h k. shr_s_in 64 width_64 i j h
meaning_in I64ShrU = λ i j h k. shr_u_in 64 width_64 i j h
meaning_in I64Rotl = λ i j h k. rotl_in 64 width_64 i j h
meaning_in I64Rotr = λ i j h k. rotr_in 64 width_64 i j h
meaning_in I32WrapI64 = λ i h. mod_in 32 width_32 i
meaning_in I64ExtendI32S = λ i h. extend_in 32 64 i (omega arith) (omega arith)
meaning_in I64ExtendI32U = λ i h. omega arith
meaning_in I32Extend8S = λ i h. iextend_in 8 32 i (omega arith)
meaning_in I32Extend16S = λ i h. iextend_in 16 32 i (omega arith)
meaning_in I64Extend8S = λ i h. iextend_in 8 64 i (omega arith)
meaning_in I64Extend16S = λ i h. iextend_in 16 64 i (omega arith)
meaning_in I64Extend32S = λ i h. iextend_in 32 64 i (omega arith)
meaning_in _ = λ i j h k. truth _

-- numbers of these types, in order
abbrev NumbersIn : List ValType → List ℕ → Type 0
NumbersIn [] [] = Unit {0}
NumbersIn (t ∷ types) (n ∷ ns) = (n < size t) × NumbersIn types ns
NumbersIn _ _ = ⊥

number_in : (t : ValType) (v : Value) → same_type t (type_of v) ≡ true → value_fits v → number_of v < size t
number_in I32 (V.I32 n) e h = h
number_in I64 (V.I64 n) e h = h
number_in I32 (V.I64 n) e h = cc
number_in I64 (V.I32 n) e h = cc

numbers_in : (types : List ValType) (values : List Value) → are_of types values ≡ true → All value_fits values → NumbersIn types (map number_of values)
numbers_in [] [] e h = tt
numbers_in [] (v ∷ values) e h = cc
numbers_in (t ∷ types) [] e h = cc
numbers_in (t ∷ types) (v ∷ values) e h =
    let b = and_parts (same_type t (type_of v)) (are_of types values) e in (
      number_in t v b.0 (All-head value_fits v values h),
      numbers_in types values b.1 (All-tail value_fits v values h),
    )

abbrev OutcomeIn : ValType → Option (Result ℕ Trap) → Type 0
OutcomeIn u None = Unit {0}
OutcomeIn u (Some r) = OkBelow (size u) r

applied_in : (m : Meaning) (ns : List ℕ) (types : List ValType) (u : ValType) → MeaningIn types u m → NumbersIn types ns → OutcomeIn u (applied m ns)
applied_in (unary f) [] types u h k = tt
applied_in (unary f) (i ∷ j ∷ ns) types u h k = tt
applied_in (unary f) (i ∷ []) [] u h k = absurd h
applied_in (unary f) (i ∷ []) (t ∷ []) u h k = h i k.0
applied_in (unary f) (i ∷ []) (s ∷ t ∷ []) u h k = absurd h
applied_in (unary f) (i ∷ []) (r ∷ s ∷ t ∷ types) u h k = absurd h
applied_in (conversion f) [] types u h k = tt
applied_in (conversion f) (i ∷ j ∷ ns) types u h k = tt
applied_in (conversion f) (i ∷ []) [] u h k = absurd h
applied_in (conversion f) (i ∷ []) (t ∷ []) u h k = h i k.0
applied_in (conversion f) (i ∷ []) (s ∷ t ∷ []) u h k = absurd h
applied_in (conversion f) (i ∷ []) (r ∷ s ∷ t ∷ types) u h k = absurd h
applied_in (comparison f) [] types u h k = tt
applied_in (comparison f) (j ∷ []) types u h k = tt
applied_in (comparison f) (j ∷ i ∷ l ∷ ns) types u h k = tt
applied_in (comparison f) (j ∷ i ∷ []) [] u h k = absurd h
applied_in (comparison f) (j ∷ i ∷ []) (t ∷ []) u h k = absurd h
applied_in (comparison f) (j ∷ i ∷ []) (s ∷ t ∷ []) u h k = h i j (k.1).0 k.0
applied_in (comparison f) (j ∷ i ∷ []) (r ∷ s ∷ t ∷ types) u h k = absurd h
applied_in (binary f) [] types u h k = tt
applied_in (binary f) (j ∷ []) types u h k = tt
applied_in (binary f) (j ∷ i ∷ l ∷ ns) types u h k = tt
applied_in (binary f) (j ∷ i ∷ []) [] u h k = absurd h
applied_in (binary f) (j ∷ i ∷ []) (t ∷ []) u h k = absurd h
applied_in (binary f) (j ∷ i ∷ []) (s ∷ t ∷ []) u h k = h i j (k.1).0 k.0
applied_in (binary f) (j ∷ i ∷ []) (r ∷ s ∷ t ∷ types) u h k = absurd h

valued_in : (u : ValType) (o : Option (Result ℕ Trap)) → OutcomeIn u o → GivenIn (option_map (valued u) o)
valued_in u None h = tt
valued_in u (Some (Ok n)) h = value_of_in u n h
valued_in u (Some (Err trap)) h = tt

-- what an operator makes of operands in range is in range
pub operate_in : OperatorsIn
operate_in op operands h = by_types (are_of (operand_types op) operands) refl
  where
    by_types : (b : Bool) → are_of (operand_types op) operands ≡ b → GivenIn (cond b (option_map (valued (result_type op)) (applied (meaning_of op) (map number_of operands))) None)
    by_types true e =
        valued_in (result_type op) (applied (meaning_of op) (map number_of operands))
        (applied_in (meaning_of op) (map number_of operands) (operand_types op) (result_type op) (meaning_in op) (numbers_in (operand_types op) operands e h))
    by_types false e = tt
