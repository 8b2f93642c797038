-- The locals of flat functions, and what a suspended program keeps in its frames.
use Rattle.std.specs.Prelude.{◌≡◌, ℕ, zero, suc, ◌+◌, ◌-◌, ◌++◌, List, [], ◌∷◌, length, reverse, take, drop, max, Option, Some, None, Bool, true, false, ◌&&◌, slice_get, nat_lt, nat_eq, if◌then◌else◌}
use Rattle.std.specs.List.{list_any, position, sum_by}
use Rattle.std.specs.Int.{w32, w64, to_le_bytes}
use Rattle.wa_types.specs.declared.values.ValType.{ValType}
use Rattle.wa_types.specs.declared.values.ValType.TheVariants.{I32, I64}
use Rattle.wa_types.specs.declared.values.Value.{Value}
use Rattle.wa_types.specs.declared.values.Value.TheVariants.{I32 as value_32, I64 as value_64}
use Rattle.wa_types.specs.Encoding.{same_type}
use Rattle.wa_types.specs.Syntax.{Shape, a_block, a_loop, Code, done, plain, nest, branch, Func, Module}
use Rattle.wa_types.specs.Pruned.{pruned}
use Rattle.wa_types.specs.Typing.{type_of}
use Rattle.wa_types.specs.Modules.{around, locals_of, defined_at}
use Rattle.wa_types.specs.Counts.{depth_of}
use Rattle.wa_types.specs.Points.{func_points, func_call_points}
use Rattle.wa_types.specs.Pausing.{Policy, save_all, save_live, Settings, Numbered}
use Rattle.wa_types.specs.Liveness.{is_live_after}

-- A type at a number: a height or a depth.
pub record Pair : Type 0 where
  pub number : ℕ
  pub ty : ValType

-- a pair in front of others, where told
abbrev pub pair_onto : Bool → ℕ → ValType → List Pair → List Pair
pair_onto true n t rest = record { number = n; ty = t } ∷ rest
pair_onto false n t rest = rest

-- the pairs that pass, for so many numbers from n on: by number, i32 before i64
abbrev pub pairs_from : (ℕ → ValType → Bool) → ℕ → ℕ → List Pair
pairs_from test n zero = []
pairs_from test n (suc k) = pair_onto (test n I32) n I32 (pair_onto (test n I64) n I64 (pairs_from test (suc n) k))

-- a type that is there is this one
abbrev pub is_type : ValType → Option ValType → Bool
is_type t None = false
is_type t (Some u) = same_type t u

-- an operand of this type stands at this height
abbrev pub stands_at : ℕ → ValType → List ValType → Bool
stands_at h t ops = is_type t (slice_get (reverse ops) h)

-- the most operands that stand at one point
abbrev pub greatest : List (List ValType) → ℕ
greatest [] = 0
greatest (ops ∷ rest) = max (length ops) (greatest rest)

-- The slots of a function: a pair for each height and type of an operand at some point of its pruned body.
abbrev pub SlotPairs : Module → Func → List Pair
SlotPairs m f = pairs_from (λ h t. list_any (stands_at h t) (func_points m f)) 0 (greatest (func_points m f))

-- the pair of a result, where there is one
abbrev pub pair_of : ℕ → Option ValType → List Pair
pair_of d None = []
pair_of d (Some t) = record { number = d; ty = t } ∷ []

-- the pair of the result of a block; a loop's makes none
abbrev pub shape_pair : Shape → ℕ → Option ValType → List Pair
shape_pair a_block d r = pair_of d r
shape_pair a_loop d r = []

-- the results of the blocks and ifs of code that stands at this depth
unfoldable pub results_in : ℕ → Code → List Pair
results_in d done = []
results_in d (plain p rest) = results_in d rest
results_in d (nest s r body rest) = shape_pair s d r ++ results_in (suc d) body ++ results_in d rest
results_in d (branch r a b rest) = pair_of d r ++ results_in (suc d) a ++ results_in (suc d) b ++ results_in d rest

-- the results of a function's pruned body: its own has depth 0, a construct in the outermost sequence depth 1
abbrev pub all_results : Module → Func → List Pair
all_results m f = pair_of 0 (around m f).result ++ results_in 1 (pruned f.body)

-- a pair is of this number and type
abbrev pub same_pair : ℕ → ValType → Pair → Bool
same_pair n t p = nat_eq n p.number && same_type t p.ty

-- The result locals of a function: a pair for each depth and type of a result of its pruned body.
abbrev pub ResultPairs : Module → Func → List Pair
ResultPairs m f = pairs_from (λ d t. list_any (same_pair d t) (all_results m f)) 0 (suc (depth_of (pruned f.body)))

-- The parameters and locals of the rewritten function: those of the flat function, the call index and a scratch local of each type.
abbrev pub Count : Module → Func → ℕ
Count m f = length (locals_of m f) + length (SlotPairs m f) + length (ResultPairs m f) + 3

-- A local of the flat function that a frame saves.
pub record Place : Type 0 where
  pub local : ℕ
  pub ty : ValType

-- a place in front of others, where told
abbrev pub place_onto : Bool → ℕ → ValType → List Place → List Place
place_onto true x t rest = record { local = x; ty = t } ∷ rest
place_onto false x t rest = rest

-- the parameters and declared locals that are kept, from local x on
abbrev pub named_places : (ℕ → Bool) → ℕ → List ValType → List Place
named_places keep x [] = []
named_places keep x (t ∷ ts) = place_onto (keep x) x t (named_places keep (suc x) ts)

-- the slots that are kept, from local x on
abbrev pub slot_places : (Pair → Bool) → ℕ → List Pair → List Place
slot_places keep x [] = []
slot_places keep x (p ∷ ps) = place_onto (keep p) x p.ty (slot_places keep (suc x) ps)

-- the parameters, declared locals and slots that are kept
abbrev pub places : Module → Func → (ℕ → Bool) → (Pair → Bool) → List Place
places m f keep keep_slot = named_places keep 0 (locals_of m f) ++ slot_places keep_slot (length (locals_of m f)) (SlotPairs m f)

-- an operand of this pair stands on the stack that is told
abbrev pub is_on_stack : Option (List ValType) → Pair → Bool
is_on_stack None p = false
is_on_stack (Some ops) p = stands_at p.number p.ty ops

-- The locals that the frame of the call at this place saves, by index. Policy `all`: parameters, declared locals and slots. Policy `live`: each
-- parameter or declared local that a path from just after the call reads before it writes it, and each slot of an operand on the stack there.
abbrev pub Saved : Module → Policy → Func → ℕ → List Place
Saved m save_all f place = places m f (λ x. true) (λ p. true)
Saved m save_live f place = places m f (is_live_after f place) (is_on_stack (slice_get (func_call_points m f) place))

-- in bytes
abbrev pub width : ValType → ℕ
width I32 = 4
width I64 = 8

-- The bytes of the frame of the call at this place: the saved locals and the call index.
abbrev pub FrameSize : Module → Policy → Func → ℕ → ℕ
FrameSize m policy f place = 4 + sum_by (λ (p : Place). width p.ty) (Saved m policy f place)

-- A suspended activation: its function, the place of its call, and its locals and operands just before that call, the topmost first.
pub record Suspended : Type 0 where
  pub func : ℕ
  pub place : ℕ
  pub locals : List Value
  pub operands : List Value

-- the bytes of the frame of a call of a function that is there, else 0
abbrev pub size_of_found : Module → Policy → Option Func → ℕ → ℕ
size_of_found m policy None place = 0
size_of_found m policy (Some f) place = FrameSize m policy f place

-- the bytes of an activation's frame
abbrev pub frame_of : Module → Policy → Suspended → ℕ
frame_of m policy a = size_of_found m policy (defined_at m a.func) a.place

-- The bytes that a suspended stack takes of the area: two words and its frames.
abbrev pub Room : Module → Policy → List Suspended → ℕ
Room m policy stack = 8 + sum_by (frame_of m policy) stack

-- the bytes in use with the frames of a stack, the innermost first, until the first that would pass the length
abbrev pub fit_from : Module → Policy → ℕ → ℕ → List Suspended → ℕ
fit_from m policy len used [] = used
fit_from m policy len used (a ∷ rest) = if nat_lt len (used + frame_of m policy a) then used else fit_from m policy len (used + frame_of m policy a) rest

-- The bytes of an area of this length that are in use when an unwind of this stack ends in it, the innermost activation first.
abbrev pub Fit : Module → Policy → List Suspended → ℕ → ℕ
Fit m policy stack len = fit_from m policy len 8 stack

-- memory holds these bytes from this address on
abbrev pub HoldsBytes : List ℕ → ℕ → List ℕ → Type 0
HoldsBytes memory at bytes = take (length bytes) (drop at memory) ≡ bytes

-- a word of 32 bits, the lowest byte first
abbrev pub word : ℕ → List ℕ
word n = to_le_bytes w32 n

-- the bytes of a value, the lowest first
abbrev pub value_bytes : Value → List ℕ
value_bytes (value_32 n) = to_le_bytes w32 n
value_bytes (value_64 n) = to_le_bytes w64 n

-- an operand of this pair, where there is one
abbrev pub of_type : ValType → Option Value → Option Value
of_type t None = None
of_type t (Some v) = if same_type (type_of v) t then Some v else None

-- the operand of a pair that is told, counted from the lowest one
abbrev pub operand_at : List Value → Option Pair → Option Value
operand_at operands None = None
operand_at operands (Some p) = of_type p.ty (slice_get (reverse operands) p.number)

-- what a saved local has to hold: a parameter or declared local its value, a slot the operand there; any other slot may hold any value
abbrev pub wanted : Module → Func → Suspended → Place → Option Value
wanted m f a p =
    let n = length (locals_of m f) in
    if nat_lt p.local n then slice_get a.locals p.local else operand_at a.operands (slice_get (SlotPairs m f) (p.local - n))

-- memory holds this value, where one is told
abbrev pub HoldsValue : List ℕ → ℕ → Option Value → Type 0
HoldsValue memory at None = Unit {0}
HoldsValue memory at (Some v) = HoldsBytes memory at (value_bytes v)

-- the saved locals stand in a row
abbrev pub HoldsPlaces : List ℕ → (Place → Option Value) → ℕ → List Place → Type 0
HoldsPlaces memory value at [] = Unit {0}
HoldsPlaces memory value at (p ∷ ps) = HoldsValue memory at (value p) × HoldsPlaces memory value (at + width p.ty) ps

-- the number of the call at this place
abbrev pub call_number : Module → Settings → List Bool → Func → ℕ → Option ℕ
call_number m s which f place = position (nat_eq place) (Numbered m s which f)

-- memory holds this number of a call, which is told
abbrev pub HoldsIndex : List ℕ → ℕ → Option ℕ → Type 0
HoldsIndex memory at None = ⊥
HoldsIndex memory at (Some k) = HoldsBytes memory at (word k)

-- memory holds the frame of an activation of a function that is there: its saved locals, and the number of its call
abbrev pub HoldsFrame : Module → Settings → List Bool → List ℕ → ℕ → Suspended → Option Func → Type 0
HoldsFrame m s which memory at a None = ⊥
HoldsFrame m s which memory at a (Some f) =
    HoldsPlaces memory (wanted m f a) at (Saved m s.policy f a.place)
    × HoldsIndex memory (at + FrameSize m s.policy f a.place - 4) (call_number m s which f a.place)

-- the frames of a stack stand in a row, the innermost first
abbrev pub HoldsFrames : Module → Settings → List Bool → List ℕ → ℕ → List Suspended → Type 0
HoldsFrames m s which memory at [] = Unit {0}
HoldsFrames m s which memory at (a ∷ rest) = HoldsFrame m s which memory at a (defined_at m a.func) × HoldsFrames m s which memory (at + frame_of m s.policy a) rest

-- What memory holds of a suspended stack, the innermost activation first, in an area of so many bytes at this address: the location and the
-- end, and behind them each frame, its saved locals in order and then the number of its call.
pub record Image (m : Module) (s : Settings) (which : List Bool) (stack : List Suspended) (at len : ℕ) (memory : List ℕ) : Type 0 where
  pub location : HoldsBytes memory at (word (at + Room m s.policy stack))
  pub limit : HoldsBytes memory (at + 4) (word (at + len))
  pub frames : HoldsFrames m s which memory (at + 8) stack
