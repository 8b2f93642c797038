-- What a frame wants at an operand's place is the operand.
use Rattle.std.proofs.Common.{arith, ◌≡◌, ℕ, ◌+◌, ◌-◌, ◌++◌, List, [], ◌∷◌, length, map, reverse, Some, None, false, refl, sym, ap, ◌∙◌}
use Rattle.std.specs.Prelude.{slice_get, nat_lt, if◌then◌else◌}
use Rattle.std.proofs.lemmas.List.{map-append, reverse-append}
use Rattle.std.proofs.lemmas.Bool.{le-ltb}
use Rattle.std.proofs.lemmas.Option.{slice_get-map}
use Rattle.std.specs.Option.{option_map}
use Rattle.wa_types.specs.declared.values.Value.{Value}
use Rattle.wa_types.specs.Syntax.{Func, Module}
use Rattle.wa_types.specs.Typing.{type_of}
use Rattle.wa_types.specs.Modules.{locals_of}
use Rattle.wa_types.specs.Frames.{SlotPairs, Place, Suspended, of_type, operand_at, wanted}
use Rattle.wa_types.proofs.SlotLemmas.{same_self}
use Rattle.slot_laws.specs.SlotBounds.{IsSlotOf, OperandsAreWanted}
use Rattle.slot_laws.proofs.SavedOperands.{operands_saved}

typed_at : (xs : List Value) (h : ℕ) (v : Value) → slice_get xs h ≡ Some v → slice_get (map type_of xs) h ≡ Some (type_of v)
typed_at xs h v e = slice_get-map type_of xs h ∙ ap (option_map type_of) e

types_reversed : (xs : List Value) → map type_of (reverse xs) ≡ reverse (map type_of xs)
types_reversed [] = refl
types_reversed (x ∷ xs) =
    ap (map type_of) (reverse-append (x ∷ []) xs) ∙ map-append type_of (reverse xs) (x ∷ []) ∙ ap (λ ys. ys ++ type_of x ∷ []) (types_reversed xs)
    ∙ sym (reverse-append (type_of x ∷ []) (map type_of xs))

-- behind the named locals stand the slots
slot_wanted : (m : Module) (f : Func) (a : Suspended) (h : ℕ) (v : Value) (p : Place) → slice_get (reverse a.operands) h ≡ Some v → IsSlotOf m f h (type_of v) p → wanted m f a p ≡ Some v
slot_wanted m f a h v p e (k, there, is) =
    ap (wanted m f a) is ∙ ap (λ b. if b then slice_get a.locals (n + k) else operand_at a.operands (slice_get (SlotPairs m f) (n + k - n))) past
    ∙ ap (λ i. operand_at a.operands (slice_get (SlotPairs m f) i)) back ∙ ap (operand_at a.operands) there ∙ ap (of_type (type_of v)) e ∙ ap (λ b. if b then Some v else None) (same_self (type_of v))
  where
    n : ℕ
    n = length (locals_of m f)

    past : nat_lt (n + k) n ≡ false
    past = le-ltb (n + k) n (omega arith)

    back : n + k - n ≡ k
    back = omega arith

pub operands_wanted : OperandsAreWanted
operands_wanted m policy f a h v points there =
    let at : slice_get (reverse (map type_of a.operands)) h ≡ Some (type_of v) = ap (λ ts. slice_get ts h) (sym (types_reversed a.operands)) ∙ typed_at (reverse a.operands) h v there in
    let w = operands_saved m policy f a.place h (type_of v) (map type_of a.operands, points, at) in
    (w.0, (w.1.0, w.1.1, w.1.2, slot_wanted m f a h v w.1.0 there w.1.2))
