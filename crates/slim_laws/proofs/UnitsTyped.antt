-- Slim units have their types.
use Rattle.std.proofs.Common.{◌≡◌, ℕ, List, [], ◌∷◌, Option, Some, None, refl, sym, ap, ◌∙◌, subst}
use Rattle.std.specs.Prelude.{slice_get}
use Rattle.wa_types.specs.declared.values.ValType.{ValType}
use Rattle.wa_types.specs.declared.values.ValType.TheVariants.{I32}
use Rattle.wa_types.specs.Pausing.{Callee}
use Rattle.wa_types.specs.Syntax.{Code, done, local_set, plain}
use Rattle.wa_types.specs.Typing.{Around, Takes, sets, Types}
use Rattle.run_theory.specs.Flat.{followed_by, got, set_to, slots_got}
use Rattle.guard_form.specs.Pieces.{Units, call_to}
use Rattle.guard_form.specs.Typed.{UnitsTyped, UnitsTypedFrom}
use Rattle.guard_form.proofs.FrontTypes.{from_none}
use Rattle.guard_form.proofs.PieceTypes.{types_then}
use Rattle.slim_laws.specs.Slim.{Free, StackShape, Terms}
use Rattle.slim_laws.specs.Typed.{WovenTypes, types_same, types_kept}
use Rattle.slim_laws.proofs.KeptTypes.{typed}
use Rattle.slim_laws.specs.SlimUnits.{ResultSlim, has_none, is_set, is_kept, SlimUnits, untouched, alone, before_call, before_block, before_loop, before_if, before_kept_if}
use Rattle.slim_laws.specs.SlimUnitLaws.{UnitsStayTyped}

module _ (c : Around) (t : Terms) where
  -- What a call leaves on the slim side: its arguments and the call take nothing to it, and it is what that side has alone.
  record Left (ls : List (Option ValType)) (slots : List ℕ) (x : Callee) (to' : Option ℕ) (sh : StackShape) : Type 0 where
    outs : List ValType
    call : Types c ls (slots_got slots (plain (call_to x) (set_to to' done))) outs []
    woven : WovenTypes c.locals sh [] outs

  -- without the result's local
  without_set : (ls : List (Option ValType)) (xs : List ℕ) (x : Callee) (y : ℕ) (ty : ValType) (ins : List ValType) → slice_get c.locals y ≡ Some ty
      → Types c ls (slots_got xs (plain (call_to x) (plain (local_set y) done))) [] ins → Types c ls (slots_got xs (plain (call_to x) done)) (ty ∷ []) ins
  unfolding Types
  without_set ls [] x y ty ins e h =
      let k = subst (λ o. Takes (sets o) h.0 (h.2).0) e (h.2).1 in
      (h.0, h.1, k.1 ∙ ap (λ us. ty ∷ us) (sym k.2 ∙ (h.2).2))
  without_set ls (z ∷ xs) x y ty ins e h = (h.0, h.1, without_set ls xs x y ty h.0 e h.2)

  -- the type of the result's local
  has_type : (ls : List (Option ValType)) (xs : List ℕ) (x : Callee) (y : ℕ) (ins : List ValType) → Types c ls (slots_got xs (plain (call_to x) (plain (local_set y) done))) [] ins
      → (ty : ValType) × (slice_get c.locals y ≡ Some ty)
  unfolding Types
  has_type ls [] x y ins h = by (slice_get c.locals y) refl (h.2).1
    where
      by : (o : Option ValType) → slice_get c.locals y ≡ o → Takes (sets o) h.0 (h.2).0 → (ty : ValType) × (slice_get c.locals y ≡ Some ty)
      by None e k = absurd k
      by (Some ty) e k = (ty, e)
  has_type ls (z ∷ xs) x y ins h = has_type ls xs x y h.0 h.2

  left : (ls : List (Option ValType)) (slots : List ℕ) (x : Callee) (g h : Free) (to to' : Option ℕ) (sh : StackShape) → ResultSlim t g to to' h sh
      → Types c ls (slots_got slots (plain (call_to x) (set_to to done))) [] [] → Left ls slots x to' sh
  left ls slots x g h _ _ _ (has_none co) k = record { outs = []; call = k; woven = types_same }
  left ls slots x g h _ _ _ (is_set y co) k = record { outs = []; call = k; woven = types_same }
  left ls slots x g h _ _ _ (is_kept y is lt co hy) k =
      let ty = has_type ls slots x y [] k in
      record { outs = ty.0 ∷ []; call = without_set ls slots x y ty.0 [] ty.1 k; woven = types_kept y ty.0 ty.1 types_same }

  units_typed : (ls : List (Option ValType)) (n : ℕ) (ts : List Free) (out f : Free) (sh : StackShape) (first first' : Code) (us us' : Units) (ins : List ValType)
      → SlimUnits t n ts out f sh first us first' us' → WovenTypes c.locals sh [] ins → UnitsTyped c ls first us → UnitsTypedFrom c ls ins first' us'
  units_typed ls n ts out _ _ first _ us _ _ untouched types_same h = from_none c ls first us h
  units_typed ls n ts out f sh first first' _ _ ins (alone sl) wo h = typed c t ls n ts out f sh first first' [] [] ins sl wo h
  units_typed ls n ts out f sh first first' _ _ ins (before_call {sh2 = sh2} {behind = behind} {behind' = behind'} {rest = rest} {rest' = rest'} {to = to} {to' = to'} slots x g h2 go sl hs hf re
      sg on) wo h =
      let l = left ls slots x g h2 to to' sh2 re h.1 in
      (l.outs, typed c t ls _ ts g f sh first first' [] [] ins sl wo h.0, l.call, units_typed ls n ts out h2 sh2 behind behind' rest rest' l.outs on l.woven h.2, sg)
  units_typed ls n ts out f sh first first' _ _ ins (before_block {inner = inner} {inner' = inner'} {behind = behind} {behind' = behind'} {body = body} {body' = body'} {rest =
      rest} {rest' = rest'} g h2 go sl ib on) wo h = (
        typed c t ls _ ts g f sh first first' [] [] ins sl wo h.0,
        units_typed (None ∷ ls) _ (h2 ∷ ts) h2 g [] inner inner' body body' [] ib types_same h.1,
        units_typed ls n ts out h2 [] behind behind' rest rest' [] on types_same h.2,
      )
  units_typed ls n ts out f sh first first' _ _ ins (before_loop {inner = inner} {inner' = inner'} {behind = behind} {behind' = behind'} {body = body} {body' = body'} {rest = rest} {rest' =
      rest'} g head h2 go sl co ib on) wo h = (
        typed c t ls _ ts g f sh first first' [] [] ins sl wo h.0,
        units_typed (None ∷ ls) _ (head ∷ ts) h2 head [] inner inner' body body' [] ib types_same h.1,
        units_typed ls n ts out h2 [] behind behind' rest rest' [] on types_same h.2,
      )
  units_typed ls n ts out f sh first first' _ _ ins (before_if {fa = fa} {fa' = fa'} {fb = fb} {fb' = fb'} {behind = behind} {behind' = behind'} {a = a} {a' = a'} {b = b} {b' = b'} {rest =
      rest} {rest' = rest'} o g k h2 go sl hc co ia ib on) wo h = (
        (typed c t ls _ ts g f sh first first' [] [] ins sl wo h.0, h.1),
        units_typed (None ∷ ls) _ (h2 ∷ ts) h2 k [] fa fa' a a' [] ia types_same h.2,
        units_typed (None ∷ ls) _ (h2 ∷ ts) h2 k [] fb fb' b b' [] ib types_same h.3,
        units_typed ls n ts out h2 [] behind behind' rest rest' [] on types_same h.4,
      )
  units_typed ls n ts out f sh first first' _ _ ins (before_kept_if {fa = fa} {fa' = fa'} {fb = fb} {fb' = fb'} {behind = behind} {behind' = behind'} {a = a} {a' = a'} {b = b} {b' = b'}
      {rest = rest} {rest' = rest'} o g h2 go sl ia ib on) wo h = (
        typed c t ls _ ts g f sh (followed_by first (got o done)) first' (I32 ∷ []) [] ins sl wo (types_then c ls first (got o done) (I32 ∷ []) [] [] h.0 h.1),
        units_typed (None ∷ ls) _ (h2 ∷ ts) h2 g [] fa fa' a a' [] ia types_same h.2,
        units_typed (None ∷ ls) _ (h2 ∷ ts) h2 g [] fb fb' b b' [] ib types_same h.3,
        units_typed ls n ts out h2 [] behind behind' rest rest' [] on types_same h.4,
      )

pub typed_law : UnitsStayTyped
typed_law c ls t n ts out f sh first first' us us' ins su wo h = units_typed c t ls n ts out f sh first first' us us' ins su wo h
