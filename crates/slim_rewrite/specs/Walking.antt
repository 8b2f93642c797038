-- The state of the walk that writes slim code, and what its steps do to code.
use Rattle.std.specs.Prelude.{◌≡◌, ℕ, ◌+◌, ◌-◌, ◌≤◌, ◌<◌, ◌++◌, List, [], ◌∷◌, length, get_or, take, drop, Option, Some, None, Bool, true, false, not, ◌&&◌, nat_lt}
use Rattle.wa_types.specs.Pausing.{calls_of}
use Rattle.wa_types.specs.Syntax.{basic, local_get, local_set, local_tee, Code, done, plain}
use Rattle.wa_types.specs.View.{onto}
use Rattle.wa_model.specs.declared.flat.Operand.{Operand}
use Rattle.run_theory.specs.Flat.{all_got, slots_got}
use Rattle.wa_model.specs.Store.{takes}
use Rattle.flow_rewrite.specs.Putting.{Puts}
use Rattle.slim_laws.specs.Emit.{elem, free_by}
use Rattle.slim_laws.specs.Slim.{Free, more, Reaches, StackShape, Slims, Terms}
use Rattle.slim_rewrite.specs.declared.stack.Walk.{Walk}

-- a local that holds operands
abbrev pub slot_in : Walk → ℕ → Bool
slot_in w x = not (nat_lt x w.low) && nat_lt (x - w.low) (length w.places.items)

-- The table tells where each slot of the stack stands; and what is set is on the stack.
pub record Good (w : Walk) : Type 0 where
  pub slots : (i : ℕ) → i < length w.stack.items → slot_in w (get_or w.stack.items i 0) ≡ true
  pub places : (i : ℕ) → i < length w.stack.items → get_or w.places.items (get_or w.stack.items i 0 - w.low) 0 ≡ i
  pub set : w.set ≤ length w.stack.items
  pub floor : w.floor ≤ w.set

-- the same slots, and the same construct around
pub record Alike (a b : Walk) : Type 0 where
  pub alloc : b.alloc ≡ a.alloc
  pub low : b.low ≡ a.low
  pub places : length b.places.items ≡ length a.places.items
  pub floor : b.floor ≡ a.floor
  pub below : take a.floor b.stack.items ≡ take a.floor a.stack.items

-- slots whose values stand above those of this shape on the operand stack of the slim code, the lowest first
abbrev pub kept_onto : List ℕ → StackShape → StackShape
kept_onto [] sh = sh
kept_onto (x ∷ xs) sh = kept_onto xs (Some x ∷ sh)

-- these slots are set, the topmost first
abbrev pub unstacked : List ℕ → Code → Code
unstacked [] c = c
unstacked (x ∷ xs) c = unstacked xs (plain (local_set x) c)

-- the locals that may differ
abbrev pub free_at : Terms → Walk → Free
free_at t w = free_by t.slot (take w.set w.stack.items)

-- the operands that stand on the operand stack
abbrev pub shape_at : Walk → StackShape
shape_at w = kept_onto (drop w.set w.stack.items) []

-- the topmost operand is this slot's, and stands on the operand stack of the slim code
abbrev pub IsKeptTop : Walk → ℕ → Type 0
IsKeptTop w x = (w.set < length w.stack.items) × (get_or w.stack.items (length w.stack.items - 1) 0 ≡ x)

-- A result is kept.
pub record Kept (a b : Walk) (x : ℕ) : Type 0 where
  pub good : Good b
  pub alike : Alike a b
  pub stack : b.stack.items ≡ a.stack.items ++ x ∷ []
  pub set : b.set ≡ a.set
  pub piece : b.piece.items ≡ a.piece.items
  pub slot : slot_in a x ≡ true
  pub new : elem x a.stack.items ≡ false

-- So it is of a result that is told.
abbrev pub KeptTold : (a b : Walk) → Option ℕ → Type 0
KeptTold a b None = b ≡ a
KeptTold a b (Some x) = Kept a b x

-- All slots are set.
pub record Flushed (a b : Walk) : Type 0 where
  pub good : Good b
  pub alike : Alike a b
  pub stack : b.stack.items ≡ a.stack.items
  pub set : b.set ≡ length b.stack.items
  pub puts : Puts a.piece.items b.piece.items (unstacked (drop a.set a.stack.items))

-- Operands are the topmost slots.
pub record IsTop (stack : List ℕ) (args : List Operand) : Type 0 where
  pub fits : length args ≤ length stack
  pub same : (c : Code) → all_got args c ≡ slots_got (drop (length stack - length args) stack) c

-- Operands are taken: nothing is put, or all slots are set and these got.
pub data TakenBy (a b : Walk) (args : List Operand) : Type 0 where
  from_stack : a.set ≤ length b.stack.items → b.set ≡ a.set → b.piece.items ≡ a.piece.items → TakenBy a b args
  from_slots : b.set ≡ length b.stack.items → Puts a.piece.items b.piece.items (λ c. unstacked (drop a.set a.stack.items) (all_got args c)) → TakenBy a b args

-- These operands were taken; `alone` tells that none is left on the operand stack.
pub record Taken (a b : Walk) (args : List Operand) (alone : Bool) : Type 0 where
  pub good : Good b
  pub alike : Alike a b
  pub top : IsTop a.stack.items args
  pub stack : b.stack.items ≡ take (length a.stack.items - length args) a.stack.items
  pub bare : alone ≡ true → b.set ≡ length b.stack.items
  pub way : TakenBy a b args

-- An instruction takes so many operands, and is no access to a slot.
abbrev pub OpTakes : Walk → Code → ℕ → Type 0
OpTakes w (plain (basic b) done) k = takes b ≡ k
OpTakes w (plain (local_get x) done) k = (slot_in w x ≡ false) × (k ≡ 0)
OpTakes w (plain (local_set x) done) k = (slot_in w x ≡ false) × (k ≡ 1)
OpTakes w (plain (local_tee x) done) k = (slot_in w x ≡ false) × (k ≡ 1)
OpTakes w c k = ⊥

-- So it is where a number is told.
abbrev pub TakesTold : Walk → Code → Option ℕ → Type 0
TakesTold w c None = Unit {0}
TakesTold w c (Some k) = OpTakes w c k

-- The terms of a function speak of these slots.
pub record Among (t : Terms) (w : Walk) : Type 0 where
  pub slots : (x : ℕ) → t.slot x ≡ slot_in w x
  pub size : w.low + length w.places.items ≤ t.size

-- nothing is fixed at a call with so many behind it
abbrev pub Told : (calls : Bool) → Terms → ℕ → Type 0
Told false t k = Unit {0}
Told true t k = t.fixed k ≡ []

-- The code of a statement was put, whatever comes: where the rest is slim, so is the whole. Labels lead to where no more is
-- set than below the construct.
pub record Stepped (a b : Walk) (calls : Bool) (f : Code → Code) : Type 0 where
  pub good : Good b
  pub alike : Alike a b
  pub slim : Code → Code
  pub puts : Puts a.piece.items b.piece.items slim
  pub step : (t : Terms) → Among t a → (n : ℕ) (ts : List Free) (out : Free) (c c' : Code) → ((l : ℕ) → Reaches (free_by t.slot (take a.floor a.stack.items)) ts l)
      → Told calls t (length (calls_of c) + n) → Slims t n ts out (free_at t b) (shape_at b) c c' → Slims t n ts out (free_at t a) (shape_at a) (f c) (slim c')

-- The topmost operand goes to a local, whatever comes: it is set, or the operand is kept for it.
pub record Assigned (a b : Walk) (x : ℕ) : Type 0 where
  pub good : Good b
  pub alike : Alike a b
  pub slim : Code → Code
  pub puts : Puts a.piece.items b.piece.items slim
  pub step : (t : Terms) → Among t a → (n : ℕ) (ts : List Free) (out : Free) (c c' : Code) → Slims t n ts out (free_at t b) (shape_at b) c c'
      → Slims t n ts out (free_at t a) (more 1 (shape_at a)) (plain (local_set x) c) (slim c')

-- A jump was put: with nothing behind it, the whole is slim, whatever is free behind the end.
pub record Ended (a b : Walk) (f : Code) : Type 0 where
  pub good : Good b
  pub alike : Alike a b
  pub slim : Code
  pub puts : onto b.piece.items done ≡ onto a.piece.items slim
  pub step : (t : Terms) → Among t a → (n : ℕ) (ts : List Free) (out : Free) → ((l : ℕ) → Reaches (free_by t.slot (take a.floor a.stack.items)) ts l)
      → Slims t n ts out (free_at t a) (shape_at a) f slim
