-- The parts of types and entries of types.
use Rattle.std.proofs.Common.{◌≡◌, ℕ, List, [], ◌∷◌, ap, sym, subst, arith, Option, Some, None, Bool, refl}
use Rattle.wa_types.specs.declared.syntax.Run.{Run}
use Rattle.wa_types.specs.declared.syntax.Limits.{Limits}
use Rattle.wa_types.specs.declared.values.ValType.{ValType}
use Rattle.wa_types.specs.Syntax.{FuncType}
use Rattle.wa_types.specs.Encoding.{mutable_byte}
use Rattle.wa_types.specs.Spells.{◌▸◌, Exactly, Number, Vector, ValueType, FunctionType, LimitsOf, RunOf}
use Rattle.wa_types.specs.Reading.{IsValueType, IsFuncType, IsRun}
use Rattle.wasm_build.specs.Builds.{SpelledAs, SpelledGlobalType}
use Rattle.wasm_build.proofs.Betweens.{as_vector}

abbrev pub SpelledTypes : List ValType → ℕ → List ℕ → Type 0
SpelledTypes ts = Vector (SpelledAs ValueType IsValueType) ts

-- a function type
abbrev pub TypeResults : FuncType → ℕ → List ℕ → Type 0
TypeResults t = SpelledTypes t.results

abbrev pub TypeVectors : FuncType → ℕ → List ℕ → Type 0
TypeVectors t = SpelledTypes t.params ▸ TypeResults t

abbrev pub TypeParts : FuncType → ℕ → List ℕ → Type 0
TypeParts t = Exactly (0x60 ∷ []) ▸ TypeVectors t

pub type_parts : (t : FuncType) (at : ℕ) (bytes : List ℕ) → SpelledAs FunctionType IsFuncType t at bytes → TypeParts t at bytes
type_parts t at bytes (raw, is, h) =
    (h.0, h.1, h.2, h.3, (h.4.0, h.4.1, h.4.2, as_vector ValueType IsValueType raw.params t.params _ _ is.params h.4.3, as_vector ValueType IsValueType raw.results t.results _ _ is.results h.4.4))

abbrev pub SpelledType : ValType → ℕ → List ℕ → Type 0
SpelledType = SpelledAs ValueType IsValueType

-- a global type
pub global_parts : (g : ValType × Bool) (at : ℕ) (bytes : List ℕ) → SpelledGlobalType g at bytes → (SpelledType g.0 ▸ Exactly (mutable_byte g.1 ∷ [])) at bytes
global_parts g at bytes (raw, is, h) = (h.0, h.1, h.2, (raw, is, h.3), h.4)

-- a run of locals
pub run_parts : (r : Run) (at : ℕ) (bytes : List ℕ) → SpelledAs RunOf IsRun r at bytes → (Number r.count ▸ SpelledType r.ty) at bytes
run_parts r at bytes (raw, is, h) = (h.0, h.1, h.2, subst (λ n. Number n at h.0) (sym is.count) h.3, (raw.ty, is.ty, h.4))

-- limits, by their first byte
abbrev pub flag_of : Option ℕ → ℕ
flag_of None = 0x00
flag_of (Some high) = 0x01

abbrev pub high_in : Option ℕ → ℕ
high_in None = 0
high_in (Some high) = high

abbrev pub LimitsTail : ℕ → Option ℕ → ℕ → List ℕ → Type 0
LimitsTail low None = Number low
LimitsTail low (Some high) = Number low ▸ Number high

limits_by : (low : ℕ) (high : Option ℕ) (at : ℕ) (bytes : List ℕ) → LimitsOf (record { min = low; max = high }) at bytes → (Exactly (flag_of high ∷ []) ▸ LimitsTail low high) at bytes
limits_by low None at bytes h = h
limits_by low (Some high) at bytes h = h

pub limits_parts : (l : Limits) (at : ℕ) (bytes : List ℕ) → LimitsOf l at bytes → (Exactly (flag_of l.max ∷ []) ▸ LimitsTail l.min l.max) at bytes
limits_parts l at bytes h = limits_by l.min l.max at bytes h

pub with_high : (low : ℕ) (high : Option ℕ) (at : ℕ) (bytes : List ℕ) → 0x01 ≡ flag_of high → LimitsTail low high at bytes → (Number low ▸ Number (high_in high)) at bytes
with_high low None at bytes e h = absurd (omega (arith, e))
with_high low (Some high) at bytes e h = h

pub without_high : (low : ℕ) (high : Option ℕ) (at : ℕ) (bytes : List ℕ) → 0x00 ≡ flag_of high → LimitsTail low high at bytes → Number low at bytes
without_high low None at bytes e h = h
without_high low (Some high) at bytes e h = absurd (omega (arith, e))

pub no_high : (high : Option ℕ) → 0x00 ≡ flag_of high → None ≡ high
no_high None e = refl
no_high (Some high) e = absurd (omega (arith, e))

pub high_is : (n : ℕ) (high : Option ℕ) → 0x01 ≡ flag_of high → n ≡ high_in high → Some n ≡ high
high_is n None e f = absurd (omega (arith, e))
high_is n (Some high) e f = ap (λ z. Some z) f
