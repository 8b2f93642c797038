-- Values of a program's globals are in range, and the memory that it shows lies off its area.
use Rattle.std.proofs.Common.{◌≡◌, ℕ, ◌+◌, List, [], ◌∷◌, map, nat_lt, Option, Some, None, Bool, true, false}
use Rattle.std.proofs.Common.{◌&&◌, refl, sym, ap, ◌∙◌, subst, arith, All, position, if◌then◌else◌}
use Rattle.std.specs.List.{cons_option}
use Rattle.std.specs.Option.{option_or, unwrap_or}
use Rattle.std.specs.Str.{bytes_eq}
use Rattle.std.proofs.lemmas.List.Elements.{All-nil, All-cons, All-head, All-tail}
use Rattle.wa_types.specs.declared.syntax.Import.{Import}
use Rattle.wa_types.specs.declared.values.ValType.{ValType}
use Rattle.wa_types.specs.declared.values.ValType.TheVariants.{I32, I64}
use Rattle.wa_types.specs.declared.values.Value.{Value}
use Rattle.wa_types.specs.Encoding.{same_type}
use Rattle.wa_types.specs.Modules.{imported_global}
use Rattle.wa_types.specs.Pausing.{joined_name}
use Rattle.wa_types.specs.Sizes.{value_fits}
use Rattle.wa_types.specs.Typing.{GlobalType, type_of}
use Rattle.wa_ops.specs.Operate.{are_of}
use Rattle.wa_model.specs.declared.answers.Area.{Area}
use Rattle.run_theory.specs.Fitting.{types_of}
use Rattle.script_model.specs.Script.{GlobalText, ShowText}
use Rattle.wa_model.specs.Step.{zero_of}
use Rattle.script_setup.specs.SetUpRules.{global_values, last_value, overlaps, value_or_zero}
use Rattle.script_setup.proofs.FirstPlaces.{none_passes}
use Rattle.world_laws.specs.Originals.{ShowsOff}
use Rattle.world_hosting.specs.Worlds.{look_at}

-- ---- values in range

zero_fits : (ty : ValType) → value_fits (zero_of ty)
zero_fits I32 = omega arith
zero_fits I64 = omega arith

abbrev GlobalOk : GlobalText → Type 0
GlobalOk g = value_fits g.value

last_fits : (name : List ℕ) (gs : List GlobalText) (v : Value) → All GlobalOk gs → last_value name gs ≡ Some v → value_fits v
last_fits name [] v h e = cc
last_fits name (g ∷ gs) v h e = by (last_value name gs) refl e (last_fits name gs v (All-tail GlobalOk g gs h)) where
  own : (b : Bool) → (if b then Some g.value else None) ≡ Some v → value_fits v
  own true k =
      let same : g.value ≡ v = cc in
      subst value_fits same (All-head GlobalOk g gs h)
  own false k = cc

  by : (o : Option Value) → last_value name gs ≡ o → option_or o (if bytes_eq g.name name then Some g.value else None) ≡ Some v → (last_value name gs ≡ Some v → value_fits v) → value_fits v
  by (Some w) later k more = more (later ∙ k)
  by None later k more = own (bytes_eq g.name name) k

pub globals_fit : (gs : List GlobalText) → All GlobalOk gs → (imports : List Import) → All value_fits (global_values imports gs)
globals_fit gs h [] = All-nil value_fits
globals_fit gs h (i ∷ is) = by (imported_global i.kind) (globals_fit gs h is) where
  value : (ty : ValType) (o : Option Value) → last_value (joined_name i) gs ≡ o → value_fits (unwrap_or o (zero_of ty))
  value ty None z = zero_fits ty
  value ty (Some v) z = last_fits (joined_name i) gs v h z

  by : (o : Option GlobalType) → All value_fits (global_values is gs) → All value_fits (cons_option (value_or_zero o (last_value (joined_name i) gs)) (global_values is gs))
  by None more = more
  by (Some g) more = All-cons value_fits (unwrap_or (last_value (joined_name i) gs) (zero_of g.ty)) (global_values is gs) (value g.ty (last_value (joined_name i) gs) refl) more

-- values of these types
same_is : (ty : ValType) → same_type ty ty ≡ true
same_is I32 = refl
same_is I64 = refl

pub are_typed : (ts : List ValType) (vs : List Value) → types_of vs ≡ ts → are_of ts vs ≡ true
are_typed [] [] e = refl
are_typed [] (v ∷ vs) e = cc
are_typed (t ∷ ts) [] e = cc
are_typed (t ∷ ts) (v ∷ vs) e =
    let head : type_of v ≡ t = cc in
    let rest : types_of vs ≡ ts = cc in
    ap (λ (ty : ValType). same_type ty (type_of v) && are_of ts vs) (sym head) ∙ ap (λ (b : Bool). b && are_of ts vs) (same_is (type_of v)) ∙ are_typed ts vs rest

-- ---- what is shown

-- ranges that overlap in neither direction share no byte
pub off : (a b c d : Bool) → (c && d) ≡ false → (a && b && c && d) ≡ false
off true true c d h = h
off true false c d h = refl
off false b c d h = refl

pub shows_off : (area : Area) (shows : List ShowText) → position (overlaps area) shows ≡ None → All (ShowsOff area) (map look_at shows)
shows_off area shows e = by shows (none_passes (overlaps area) shows e) where
  by : (xs : List ShowText) → All (λ x. overlaps area x ≡ false) xs → All (ShowsOff area) (map look_at xs)
  by [] h = All-nil (ShowsOff area)
  by (x ∷ xs) h =
      All-cons (ShowsOff area) (look_at x) (map look_at xs)
      (off (nat_lt 0 x.len) (nat_lt 0 area.len) (nat_lt x.at (area.at + area.len)) (nat_lt area.at (x.at + x.len)) (All-head (λ (y : ShowText). overlaps area y ≡ false) x xs h))
      (by xs (All-tail (λ (y : ShowText). overlaps area y ≡ false) x xs h))
