-- Typed code all of whose operands have slots and all of whose results have locals.
use Rattle.std.specs.Prelude.{◌≡◌, ◌<◌, ℕ, ◌++◌, List, [], ◌∷◌, length, Option, Some, None, Bool, true, false}
use Rattle.wa_types.specs.declared.values.ValType.{ValType}
use Rattle.wa_types.specs.declared.values.ValType.TheVariants.{I32}
use Rattle.wa_types.specs.Syntax.{Code, done, plain, nest, branch}
use Rattle.wa_types.specs.Typing.{Around, listed, sig, Takes, label}
use Rattle.wa_types.specs.Pruned.{is_last}
use Rattle.flat_laws.specs.Flatten.{Names, place}

-- each operand has a slot
abbrev pub AllIn : Names → List ValType → Type 0
AllIn n [] = Unit {0}
AllIn n (t ∷ ops) = (place (length ops) t n.slots < length n.slots) × AllIn n ops

-- a result has its local
abbrev pub HasResult : Names → (depth : ℕ) → Option ValType → Type 0
HasResult n d None = Unit {0}
HasResult n d (Some t) = place d t n.results < length n.results

-- where control goes on behind an instruction, this holds there
abbrev pub GoesOn : Bool → Type 0 → Type 0
GoesOn true P = Unit {0}
GoesOn false P = P

-- Typed code all of whose operands and results have their locals. `own` are the operands of the innermost construct, `low`
-- those below, as in `Points`.
unfoldable pub Good : Names → Around → List (Option ValType) → Code → (outs own low : List ValType) → Type 0
Good n c ls done outs own low = AllIn n (own ++ low) × (own ≡ outs)
Good n c ls (plain p rest) outs own low = AllIn n (own ++ low) × (mids : List ValType) × Takes (sig c ls p) own mids × GoesOn (is_last p) (Good n c ls rest outs mids low)
Good n c ls (nest s r body rest) outs own low =
    AllIn n (own ++ low) × HasResult n (length ls) (label s r) × Good n c (label s r ∷ ls) body (listed r) [] (own ++ low) × Good n c ls rest outs (listed r ++ own) low
Good n c ls (branch r a b rest) outs own low =
    AllIn n (own ++ low) × HasResult n (length ls) r × (below : List ValType) × (own ≡ I32 ∷ below)
    × Good n c (r ∷ ls) a (listed r) [] (below ++ low) × Good n c (r ∷ ls) b (listed r) [] (below ++ low) × Good n c ls rest outs (listed r ++ below) low
