-- What a load comes to.
use Rattle.std.proofs.Common.{◌≡◌, ℕ, ◌+◌, ◌^◌, List, ◌∷◌, Option, Some, Bool, refl, ap, sym, ◌∙◌}
use Rattle.wa_types.specs.declared.values.ValType.{ValType}
use Rattle.wa_types.specs.declared.values.ValType.TheVariants.{I32, I64}
use Rattle.wa_types.specs.declared.values.Value.{Value}
use Rattle.wa_types.specs.declared.values.Value.TheVariants as V
use Rattle.wa_types.specs.Accesses.{load_row}
use Rattle.wa_types.specs.Memory.{number_at}
use Rattle.wa_types.specs.Syntax.{load}
use Rattle.wa_ops.specs.Loads.{load_value}
use Rattle.wa_model.specs.Store.{Store, extended, loaded, load_at}
use Rattle.wa_ops.specs.declared.access.Access.{Access}
use Rattle.wa_ops.specs.Access.{row_of}
use Rattle.interp_state.specs.Effects.{worked, effect, effect_over}

extended_is : (op natural : ℕ) (ty : ValType) (signed : Bool) (n : ℕ) → extended (record { opcode = op; ty = ty; natural = natural; signed = signed }) n ≡ load_value ty (2 ^ natural) signed n
extended_is op natural I32 signed n = refl
extended_is op natural I64 signed n = refl

pub load_shows : (most : Option ℕ) (s : Store) (ops : List Value) (addr op align offset width : ℕ) (a : Access) (n : ℕ) → load_row op ≡ Some (row_of op a)
    → number_at s.memory (addr + offset) width ≡ Some n → width ≡ 2 ^ a.natural → effect most (load op align offset) s (V.I32 addr ∷ ops) ≡ worked s (load_value a.ty width a.signed n ∷ ops)
load_shows most s ops addr op align offset width a n er en ew =
    ap (λ r. effect_over ops (load_at s (addr + offset) r)) er
    ∙ ap (λ r. effect_over ops (loaded s (row_of op a) r)) (ap (number_at s.memory (addr + offset)) (sym ew) ∙ en)
    ∙ ap (λ v. worked s (v ∷ ops)) (extended_is op a.natural a.ty a.signed n ∙ ap (λ w. load_value a.ty w a.signed n) (sym ew))
