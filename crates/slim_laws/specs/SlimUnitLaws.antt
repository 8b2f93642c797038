-- What slim units have in common with those beside them.
use Rattle.std.specs.Prelude.{◌≡◌, ℕ, ◌+◌, ◌≤◌, List, [], ◌∷◌, Option, Some, None, Bool, true, false}
use Rattle.wa_types.specs.declared.values.ValType.{ValType}
use Rattle.wa_types.specs.Counts.{depth_of}
use Rattle.wa_types.specs.Pausing.{Callee}
use Rattle.wa_types.specs.Syntax.{a_block, Code, nest}
use Rattle.wa_types.specs.Typing.{Around}
use Rattle.run_theory.specs.Flat.{followed_by, result_got}
use Rattle.wa_model.specs.Rewrites.{instructions_and_labels}
use Rattle.guard_form.specs.Bounds.{passing, reads, unit_count}
use Rattle.guard_form.specs.Functions.{ArmsHold, Calls, PiecesCall}
use Rattle.guard_form.specs.Numbers.{UnitsNumbered}
use Rattle.guard_form.specs.Pieces.{Units, flat_units, numbers_in}
use Rattle.guard_form.specs.Typed.{UnitsTyped, UnitsTypedFrom}
use Rattle.slim_laws.specs.Slim.{Free, StackShape, kept, Slims, Terms}
use Rattle.slim_laws.specs.Typed.{WovenTypes}
use Rattle.slim_laws.specs.SlimUnits.{SlimUnits}

-- The code of slim units is slim.
abbrev pub UnitsAreSlim : Type 0
UnitsAreSlim =
    (t : Terms) (n : ℕ) (ts : List Free) (out f : Free) (sh : StackShape) (first first' : Code) (us us' : Units) → SlimUnits t n ts out f sh first us first' us'
    → Slims t n ts out f sh (followed_by first (flat_units us)) (followed_by first' (flat_units us'))

-- the local of a result isn't free
abbrev pub ToHeld : Free → Option ℕ → Type 0
ToHeld f None = Unit {0}
ToHeld f (Some x) = f x ≡ false

-- So is the body that they make, where the local of the result isn't free.
abbrev pub BodyIsSlim : Type 0
BodyIsSlim =
    (t : Terms) (f out : Free) (first first' : Code) (us us' : Units) (result : Option ℕ) → SlimUnits t 0 (out ∷ []) out f [] first us first' us' → ToHeld out result
    → Slims t 0 [] (λ y. true) f [] (nest a_block None (followed_by first (flat_units us)) (result_got result)) (nest a_block None (followed_by first' (flat_units us')) (result_got result))

-- Where units take no operands to none, slim ones take those that their side has alone to none.
abbrev pub UnitsStayTyped : Type 0
UnitsStayTyped =
    (c : Around) (ls : List (Option ValType)) (t : Terms) (n : ℕ) (ts : List Free) (out f : Free) (sh : StackShape) (first first' : Code) (us us' : Units) (ins : List ValType)
    → SlimUnits t n ts out f sh first us first' us' → WovenTypes c.locals sh [] ins → UnitsTyped c ls first us → UnitsTypedFrom c ls ins first' us'

-- Slim units have as many numbers and units; their calls pass a test where those beside them do, arms have a unit, and pieces
-- call nothing else.
pub record AlikeUnits (first first' : Code) (us us' : Units) : Type 0 where
  pub numbers : numbers_in us' ≡ numbers_in us
  pub count : unit_count us' ≡ unit_count us
  pub numbered : (test : Callee → Bool) → UnitsNumbered test us → UnitsNumbered test us'
  pub arms : ArmsHold us → ArmsHold us'

-- So are all slim units.
abbrev pub UnitsAreAlike : Type 0
UnitsAreAlike =
    (t : Terms) (n : ℕ) (ts : List Free) (out f : Free) (sh : StackShape) (first first' : Code) (us us' : Units) → SlimUnits t n ts out f sh first us first' us' → AlikeUnits first first' us us'

-- Their pieces call what those beside them call.
abbrev pub PiecesCallAlike : Type 0
PiecesCallAlike =
    (t : Terms) (n : ℕ) (ts : List Free) (out f : Free) (sh : StackShape) (first first' : Code) (us us' : Units) (test : Callee → Bool) → SlimUnits t n ts out f sh first us first' us'
    → Calls (λ c. test c ≡ false) first → PiecesCall (λ c. test c ≡ false) us → Calls (λ c. test c ≡ false) first' × PiecesCall (λ c. test c ≡ false) us'

-- They are no larger but for the values that their side has alone, nest no deeper, and read a global as often.
pub record SlimmerUnits (state : ℕ) (sh : StackShape) (first first' : Code) (us us' : Units) : Type 0 where
  pub size : instructions_and_labels (followed_by first' (flat_units us')) ≤ instructions_and_labels (followed_by first (flat_units us)) + kept sh
  pub depth : depth_of (followed_by first' (flat_units us')) ≤ depth_of (followed_by first (flat_units us))
  pub reading : reads state (followed_by first' (flat_units us')) ≡ reads state (followed_by first (flat_units us))

-- So are all slim units.
abbrev pub UnitsAreSlimmer : Type 0
UnitsAreSlimmer =
    (t : Terms) (n : ℕ) (ts : List Free) (out f : Free) (sh : StackShape) (first first' : Code) (us us' : Units) (state : ℕ) → SlimUnits t n ts out f sh first us first' us'
    → SlimmerUnits state sh first first' us us'

-- Passing them costs no more.
abbrev pub PassingIsLess : Type 0
PassingIsLess =
    (t : Terms) (n : ℕ) (ts : List Free) (out f : Free) (first first' : Code) (us us' : Units) → SlimUnits t n ts out f [] first us first' us' → passing first' us' ≤ passing first us
