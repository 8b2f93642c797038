-- Laws of slots and result locals: their order, what they are, how many, and which slots a frame saves.
use Rattle.std.specs.Prelude.{◌≡◌, ◌↔◌, ◌⊎◌, ◌≤◌, ◌<◌, ◌+◌, ◌^◌, ℕ, suc, List, [], ◌∷◌, length, map, reverse, Some, All, true, slice_get}
use Rattle.std.specs.List.{list_any}
use Rattle.wa_types.specs.declared.values.ValType.{ValType}
use Rattle.wa_types.specs.declared.values.ValType.TheVariants.{I32, I64}
use Rattle.wa_types.specs.declared.values.Value.{Value}
use Rattle.wa_types.specs.Typing.{type_of}
use Rattle.wa_types.specs.Syntax.{a_block, a_loop, Code, done, plain, nest, branch, Func, Module}
use Rattle.wa_types.specs.Pruned.{pruned}
use Rattle.wa_types.specs.Modules.{around, locals_of}
use Rattle.wa_types.specs.Counts.{count_of}
use Rattle.wa_types.specs.Validity.{Valid}
use Rattle.wa_types.specs.Sizes.{StrictSizeRule}
use Rattle.wa_types.specs.Pausing.{Policy}
use Rattle.wa_types.specs.Points.{AtPoint, func_call_points}
use Rattle.wa_types.specs.Frames.{Pair, same_pair, SlotPairs, ResultPairs, Count, Place, Saved, Suspended, wanted}

-- ---- order

-- by number, i32 before i64
abbrev pub Precedes : Pair → Pair → Type 0
Precedes p q = (p.number < q.number) ⊎ ((p.number ≡ q.number) × (p.ty ≡ I32) × (q.ty ≡ I64))

-- each pair precedes all that stand behind it
abbrev pub Ascend : List Pair → Type 0
Ascend [] = Unit {0}
Ascend (p ∷ ps) = All (Precedes p) ps × Ascend ps

-- The slots of a function stand in this order.
abbrev pub SlotsAscend : Type 0
SlotsAscend = (m : Module) (f : Func) → Ascend (SlotPairs m f)

-- So do its result locals.
abbrev pub ResultsAscend : Type 0
ResultsAscend = (m : Module) (f : Func) → Ascend (ResultPairs m f)

-- Each pair stands at one place.
abbrev pub StandOnce : List Pair → Type 0
StandOnce ps = (i j : ℕ) (p : Pair) → slice_get ps i ≡ Some p → slice_get ps j ≡ Some p → i ≡ j

-- So does each slot.
abbrev pub SlotsStandOnce : Type 0
SlotsStandOnce = (m : Module) (f : Func) → StandOnce (SlotPairs m f)

-- So does each result local.
abbrev pub ResultsStandOnce : Type 0
ResultsStandOnce = (m : Module) (f : Func) → StandOnce (ResultPairs m f)

-- ---- what result locals are

-- A block or an if of code at this depth has a result of type t and stands at depth d. A construct in the outermost sequence
-- stands at the depth of the code.
unfoldable pub ResultIn : (depth : ℕ) → Code → (d : ℕ) → (t : ValType) → Type 0
ResultIn depth done d t = ⊥
ResultIn depth (plain p rest) d t = ResultIn depth rest d t
ResultIn depth (nest a_block r body rest) d t = ((d ≡ depth) × (r ≡ Some t)) ⊎ (ResultIn (suc depth) body d t ⊎ ResultIn depth rest d t)
ResultIn depth (nest a_loop r body rest) d t = ResultIn (suc depth) body d t ⊎ ResultIn depth rest d t
ResultIn depth (branch r a b rest) d t = ((d ≡ depth) × (r ≡ Some t)) ⊎ (ResultIn (suc depth) a d t ⊎ (ResultIn (suc depth) b d t ⊎ ResultIn depth rest d t))

-- The function has a result of type t, at depth 0, or a block or an if of its pruned body has, at its depth.
abbrev pub ResultPair : Module → Func → ℕ → ValType → Type 0
ResultPair m f d t = ((d ≡ 0) × ((around m f).result ≡ Some t)) ⊎ ResultIn 1 (pruned f.body) d t

-- The result locals of a function are these pairs.
abbrev pub ResultsArePairs : Type 0
ResultsArePairs = (m : Module) (f : Func) (d : ℕ) (t : ValType) → (list_any (same_pair d t) (ResultPairs m f) ≡ true) ↔ ResultPair m f d t

-- ---- how many

-- Slots and result locals are together at most the instructions of the pruned body, and one.
abbrev pub SlotsAreFew : Type 0
SlotsAreFew =
    (m : Module) (i : ℕ) (f : Func) → Valid m → slice_get m.funcs i ≡ Some f
    → length (SlotPairs m f) + length (ResultPairs m f) ≤ count_of (pruned f.body) + 1

-- So the locals of a rewritten function can be numbered by a u32, where the original keeps the size rule.
abbrev pub CountFits : Type 0
CountFits = (m : Module) (i : ℕ) (f : Func) → Valid m → StrictSizeRule m → slice_get m.funcs i ≡ Some f → Count m f < 2 ^ 32

-- ---- calls

-- The operands that are found just before a call of a valid module are those of a point of the pruned body.
abbrev pub CallsAreAtPoints : Type 0
CallsAreAtPoints =
    (m : Module) (i : ℕ) (f : Func) (place : ℕ) (ops : List ValType) → Valid m → slice_get m.funcs i ≡ Some f → slice_get (func_call_points m f) place ≡ Some ops
    → AtPoint (around m f) ((around m f).result ∷ []) (pruned f.body) [] [] ops

-- ---- what a frame saves

-- each place is one of a higher local than those before, and of this one or a higher
abbrev pub RiseFrom : (low : ℕ) → List Place → Type 0
RiseFrom low [] = Unit {0}
RiseFrom low (p ∷ ps) = (low ≤ p.local) × RiseFrom (suc p.local) ps

-- The saved locals stand in their order.
abbrev pub SavedRise : Type 0
SavedRise = (m : Module) (policy : Policy) (f : Func) (place : ℕ) → RiseFrom 0 (Saved m policy f place)

-- the operand of this height, just before the call at this place, has this type
abbrev pub OperandAt : Module → Func → (place height : ℕ) → ValType → Type 0
OperandAt m f place height t =
    (ops : List ValType) × (slice_get (func_call_points m f) place ≡ Some ops) × (slice_get (reverse ops) height ≡ Some t)

-- The local is the slot of this height and type: it stands behind the parameters and declared locals, at the pair's place.
abbrev pub IsSlotOf : Module → Func → (height : ℕ) → ValType → Place → Type 0
IsSlotOf m f height t p =
    (k : ℕ) × (slice_get (SlotPairs m f) k ≡ Some (record { number = height; ty = t })) × (p ≡ record { local = length (locals_of m f) + k; ty = t })

-- Under each policy an operand that stands at a call has exactly one place among the saved locals of that call.
abbrev pub OperandsAreSaved : Type 0
OperandsAreSaved =
    (m : Module) (policy : Policy) (f : Func) (place height : ℕ) (t : ValType) → OperandAt m f place height t
    → (i : ℕ) × ((p : Place) × (slice_get (Saved m policy f place) i ≡ Some p) × IsSlotOf m f height t p)
    × ((j : ℕ) (q : Place) → slice_get (Saved m policy f place) j ≡ Some q → IsSlotOf m f height t q → j ≡ i)

-- The frame wants an operand at that place: each operand of a suspended activation whose operands have the types of its call's
-- point has a place among the saved locals, its slot, where what is wanted is this operand.
abbrev pub OperandsAreWanted : Type 0
OperandsAreWanted =
    (m : Module) (policy : Policy) (f : Func) (a : Suspended) (height : ℕ) (v : Value)
    → slice_get (func_call_points m f) a.place ≡ Some (map type_of a.operands) → slice_get (reverse a.operands) height ≡ Some v
    → (i : ℕ) × ((p : Place) × (slice_get (Saved m policy f a.place) i ≡ Some p) × IsSlotOf m f height (type_of v) p × (wanted m f a p ≡ Some v))
