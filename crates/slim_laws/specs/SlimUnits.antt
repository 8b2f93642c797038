-- Pieces and units beside the same units with slim pieces.
use Rattle.std.specs.Prelude.{◌≡◌, ℕ, ◌+◌, ◌<◌, length, List, [], ◌∷◌, Option, Some, None, true, false}
use Rattle.wa_types.specs.Syntax.{a_block, a_loop, Code, done}
use Rattle.wa_types.specs.Pausing.{Callee, calls_of}
use Rattle.wa_model.specs.declared.flat.Operand.{Operand}
use Rattle.wa_model.specs.declared.flat.Operand.TheVariants.{Local, Const}
use Rattle.run_theory.specs.Flat.{followed_by, got, set_to}
use Rattle.guard_form.specs.Pieces.{Units, no_unit, call_unit, nest_unit, if_unit, flat_units, StartsGot}
use Rattle.slim_laws.specs.Slim.{Free, Covers, CoversBut, Held, StackShape, Slims, Terms}
use Rattle.slim_laws.specs.Parts.{goes_on}

-- an operand that may not differ
abbrev pub OperandHeld : Free → Operand → Type 0
OperandHeld f (Local x) = f x ≡ false
OperandHeld f (Const v) = Unit {0}

-- The result of a numbered call: none, set on both sides, or kept on the operand stack of the slim side alone; with what is free
-- behind, and the operands there.
pub data ResultSlim (t : Terms) (here : Free) : (to to' : Option ℕ) → (behind : Free) → StackShape → Type 0 where
  has_none : {g : Free} → Covers here g → ResultSlim t here None None g []
  is_set : {g : Free} → (x : ℕ) → CoversBut x here g → ResultSlim t here (Some x) (Some x) g []
  is_kept : {g : Free} → (x : ℕ) → t.slot x ≡ true → x < t.size → Covers here g → g x ≡ true → ResultSlim t here (Some x) None g (Some x ∷ [])

-- A piece and units, and the same units with slim pieces: with so many calls of the flat code behind them, inside labels with these
-- locals free at their targets, with those of `out` free behind the end and those of the next argument here, and operands of this
-- shape. In front of a unit a piece comes to its end, with the same operands on both sides; what a unit takes isn't free. But for
-- the condition of an `if`, which the slim piece may leave on the operand stack, where it isn't the piece behind a call.
pub data SlimUnits (t : Terms) : (n : ℕ) → (targets : List Free) → (out here : Free) → StackShape → (first : Code) → Units → (first' : Code) → Units → Type 0 where
  -- units that stay as they are
  untouched : {n : ℕ} {ts : List Free} {out : Free} {first : Code} {us : Units} → SlimUnits t n ts out (λ y. false) [] first us first us
  alone : {n : ℕ} {ts : List Free} {out f : Free} {sh : StackShape} {first first' : Code} → Slims t n ts out f sh first first' → SlimUnits t n ts out f sh first no_unit first' no_unit
  before_call : {n : ℕ} {ts : List Free} {out f : Free} {sh sh2 : StackShape} {first first' behind behind' : Code} {rest rest' : Units} {to to' : Option ℕ} → (slots : List ℕ) → (x : Callee)
      → (g h : Free) → goes_on first ≡ true → Slims t (length (calls_of (flat_units (call_unit slots x to behind rest))) + n) ts g f sh first first'
      → Held g slots → Held g (t.fixed (length (calls_of (set_to to (followed_by behind (flat_units rest)))) + n))
      → ResultSlim t g to to' h sh2 → StartsGot rest' → SlimUnits t n ts out h sh2 behind rest behind' rest'
      → SlimUnits t n ts out f sh first (call_unit slots x to behind rest) first' (call_unit slots x to' behind' rest')
  before_block : {n : ℕ} {ts : List Free} {out f : Free} {sh : StackShape} {first first' inner inner' behind behind' : Code} {body body' rest rest' : Units} → (g h : Free)
      → goes_on first ≡ true → Slims t (length (calls_of (flat_units (nest_unit a_block inner body behind rest))) + n) ts g f sh first first'
      → SlimUnits t (length (calls_of (followed_by behind (flat_units rest))) + n) (h ∷ ts) h g [] inner body inner' body' → SlimUnits t n ts out h [] behind rest behind' rest'
      → SlimUnits t n ts out f sh first (nest_unit a_block inner body behind rest) first' (nest_unit a_block inner' body' behind' rest')
  before_loop : {n : ℕ} {ts : List Free} {out f : Free} {sh : StackShape} {first first' inner inner' behind behind' : Code} {body body' rest rest' : Units} → (g head h : Free)
      → goes_on first ≡ true → Slims t (length (calls_of (flat_units (nest_unit a_loop inner body behind rest))) + n) ts g f sh first first' → Covers g head
      → SlimUnits t (length (calls_of (followed_by behind (flat_units rest))) + n) (head ∷ ts) h head [] inner body inner' body' → SlimUnits t n ts out h [] behind rest behind' rest'
      → SlimUnits t n ts out f sh first (nest_unit a_loop inner body behind rest) first' (nest_unit a_loop inner' body' behind' rest')
  before_if : {n : ℕ} {ts : List Free} {out f : Free} {sh : StackShape} {first first' fa fa' fb fb' behind behind' : Code} {a a' b b' rest rest' : Units} → (c : Operand) → (g k h : Free)
      → goes_on first ≡ true → Slims t (length (calls_of (flat_units (if_unit (Some c) fa a fb b behind rest))) + n) ts g f sh first first' → OperandHeld g c → Covers g k
      → SlimUnits t (length (calls_of (followed_by fb (flat_units b))) + (length (calls_of (followed_by behind (flat_units rest))) + n)) (h ∷ ts) h k [] fa a fa' a'
      → SlimUnits t (length (calls_of (followed_by behind (flat_units rest))) + n) (h ∷ ts) h k [] fb b fb' b' → SlimUnits t n ts out h [] behind rest behind' rest'
      → SlimUnits t n ts out f sh first (if_unit (Some c) fa a fb b behind rest) first' (if_unit (Some c) fa' a' fb' b' behind' rest')
  before_kept_if : {n : ℕ} {ts : List Free} {out f : Free} {sh : StackShape} {first first' fa fa' fb fb' behind behind' : Code} {a a' b b' rest rest' : Units} → (c : Operand) → (g h : Free)
      → goes_on first ≡ true → Slims t (length (calls_of (flat_units (if_unit (Some c) fa a fb b behind rest))) + n) ts g f sh (followed_by first (got c done)) first'
      → SlimUnits t (length (calls_of (followed_by fb (flat_units b))) + (length (calls_of (followed_by behind (flat_units rest))) + n)) (h ∷ ts) h g [] fa a fa' a'
      → SlimUnits t (length (calls_of (followed_by behind (flat_units rest))) + n) (h ∷ ts) h g [] fb b fb' b' → SlimUnits t n ts out h [] behind rest behind' rest'
      → SlimUnits t n ts out f sh first (if_unit (Some c) fa a fb b behind rest) first' (if_unit None fa' a' fb' b' behind' rest')
