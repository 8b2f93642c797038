-- Slim code has the type of the code beside it.
use Rattle.std.specs.Prelude.{◌≡◌, ℕ, List, [], ◌∷◌, Option, Some, None, slice_get}
use Rattle.wa_types.specs.declared.values.ValType.{ValType}
use Rattle.wa_types.specs.Syntax.{Code}
use Rattle.wa_types.specs.Typing.{Around, Types, Typed}
use Rattle.slim_laws.specs.Slim.{Free, StackShape, Terms, Slims}

-- the types of the operands of both sides, the topmost first
pub data WovenTypes (locals : List ValType) : StackShape → (ins ins' : List ValType) → Type 0 where
  types_same : {ins : List ValType} → WovenTypes locals [] ins ins
  types_both : {sh : StackShape} {ins ins' : List ValType} → (ty : ValType) → WovenTypes locals sh ins ins' → WovenTypes locals (None ∷ sh) (ty ∷ ins) (ty ∷ ins')
  types_kept : {sh : StackShape} {ins ins' : List ValType} → (x : ℕ) → (ty : ValType) → slice_get locals x ≡ Some ty → WovenTypes locals sh ins ins' → WovenTypes locals (Some x ∷ sh) ins (ty ∷ ins')

-- Slim code has the types of the code beside it.
abbrev pub TypesAreKept : Type 0
TypesAreKept =
    (c : Around) (ls : List (Option ValType)) (t : Terms) (n : ℕ) (ts : List Free) (out f : Free) (sh : StackShape) (code code' : Code) (outs ins ins' : List ValType)
    → Slims t n ts out f sh code code' → WovenTypes c.locals sh ins ins' → Types c ls code outs ins → Types c ls code' outs ins'

-- A slim body is typed where the body beside it is.
abbrev pub BodiesAreTyped : Type 0
BodiesAreTyped = (c : Around) (t : Terms) (n : ℕ) (ts : List Free) (out f : Free) (code code' : Code) → Slims t n ts out f [] code code' → Typed c code → Typed c code'
