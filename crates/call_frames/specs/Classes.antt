-- Classes of calls that keep the same locals.
use Rattle.std.specs.Prelude.{◌≡◌, ◌≤◌, ◌<◌, ◌&&◌, ◌||◌, ℕ, zero, suc, ◌+◌, ◌*◌, List, [], ◌∷◌, ◌++◌, length, get_or, nat_eq, take, Bool, false, if◌then◌else◌, Option, Some, All, Vec}
use Rattle.std.specs.Borrow.{Bor}
use Rattle.std.specs.declared.alloc.Global.{Global}
use Rattle.std.specs.BTreeMap.{BTreeMap, get_by}
use Rattle.std.specs.Cmp.Lexicographic.{slice_cmp}
use Rattle.std.specs.Ordering.{bool_cmp}
use Rattle.wa_types.specs.declared.values.ValType.{ValType}
use Rattle.frame_laws.specs.Layout.{FrameField, kept_count}
use Rattle.call_frames.specs.PlainFrames.{SavedPart, at_every, at_these, call_fields}
use Rattle.call_frames.specs.PlainLaws.{NameCalls, named_calls, tests_cost}
use Rattle.call_frames.specs.CallParts.{parts_length, tests_most}
use Rattle.call_frames.specs.declared.frames.CallClass.{CallClass}
use Rattle.call_frames.specs.Views.{fields_in, kept_total, sets_of}

-- ---- what is made

-- each number is below this one
abbrev pub AllBelow : ℕ → List ℕ → Type 0
AllBelow n [] = Unit {0}
AllBelow n (k ∷ ks) = (k < n) × AllBelow n ks

-- .. in each part
abbrev pub NumbersBelow : ℕ → List SavedPart → Type 0
NumbersBelow n [] = Unit {0}
NumbersBelow n (at_every fs ∷ ps) = NumbersBelow n ps
NumbersBelow n (at_these ks fs ∷ ps) = AllBelow n ks × NumbersBelow n ps

-- Parts of frames by which each call keeps exactly the locals of its set, in order.
pub record KeepSets (types : List ValType) (sets : List (List Bool)) (ps : List SavedPart) : Type 0 where
  pub fields : (k : ℕ) → k < length sets → call_fields k ps ≡ fields_in 0 (get_or sets k []) types
  pub below : NumbersBelow (length sets) ps
  pub named : NameCalls ps

-- So do these, with bounds on the codes by what the calls keep, and on the tests by how many locals and calls there are.
pub record KeepCheaply (types : List ValType) (sets : List (List Bool)) (ps : List SavedPart) : Type 0 where
  pub keep : KeepSets types sets ps
  pub tests : tests_cost ps ≤ tests_most (length types) (length sets)
  pub size : parts_length ps ≤ 30 * kept_total types sets

-- the instructions of both codes, where each test compares call by call
abbrev pub named_length : List SavedPart → ℕ
named_length [] = 0
named_length (at_every fs ∷ ps) = 6 * kept_count fs + named_length ps
named_length (at_these ks fs ∷ ps) = 12 * length ks + 12 + 6 * kept_count fs + named_length ps

-- .. and these, each call in one part at most
pub record KeepByClasses (types : List ValType) (sets : List (List Bool)) (ps : List SavedPart) : Type 0 where
  pub keep : KeepSets types sets ps
  pub numbers : named_calls ps ≤ length sets
  pub size : named_length ps ≤ 30 * kept_total types sets

-- all sets are this one
abbrev pub AllAre : List Bool → List (List Bool) → Type 0
AllAre set [] = Unit {0}
AllAre set (s ∷ ss) = (s ≡ set) × AllAre set ss

-- no part stands under a test
abbrev pub AllShared : List SavedPart → Type 0
AllShared [] = Unit {0}
AllShared (at_every fs ∷ ps) = AllShared ps
AllShared (at_these ks fs ∷ ps) = ⊥

-- ---- while they are made

-- the calls from this number on whose sets have a local
abbrev pub set_keepers : (local call : ℕ) → List (List Bool) → List ℕ
set_keepers x call [] = []
set_keepers x call (set ∷ sets) = (if get_or set x false then call ∷ [] else []) ++ set_keepers x (suc call) sets

-- a set has a local
abbrev pub set_has : List (Vec Bool Global) → (call local : ℕ) → Bool
set_has sets k x = get_or (get_or (sets_of sets) k []) x false

-- For each of so many locals, the calls whose sets have it.
pub record AreKeepers (count : ℕ) (sets : List (List Bool)) (keepers : List (List ℕ)) : Type 0 where
  pub size : length keepers ≡ count
  pub each : (x : ℕ) → x < count → get_or keepers x [] ≡ set_keepers x 0 sets

-- So many calls keep these sets of so many locals, and these calls each local.
pub record AreKept (locals count : ℕ) (sets : List (List Bool)) (kept_by : List (List ℕ)) : Type 0 where
  pub many : length sets ≡ count
  pub sized : All (λ (set : List Bool). length set ≡ locals) sets
  pub keepers : AreKeepers locals sets kept_by

-- how many calls there are together
abbrev pub calls_total : List (List ℕ) → ℕ
calls_total [] = 0
calls_total (ks ∷ kss) = length ks + calls_total kss

-- The first sets of the calls that keep each local.
pub record MadeAgain (kept_by : List (List ℕ)) (count : ℕ) (made : List (Vec Bool Global)) : Type 0 where
  pub many : length made ≡ count
  pub sized : All (λ (set : Vec Bool Global). length set.items ≡ length kept_by) made
  pub same : (calls : ℕ) (sets : List (List Bool)) → AreKept (length kept_by) calls sets kept_by → count ≤ calls → sets_of made ≡ take count sets

-- Sets are of one size, above this local.
abbrev pub SizedAbove : (local : ℕ) → List (Vec Bool Global) → Type 0
SizedAbove x sets = (n : ℕ) × (x < n) × All (λ (set : Vec Bool Global). length set.items ≡ n) sets

-- Sets have a local more at the calls that the test tells.
pub record Noted (calls : ℕ → Bool) (local : ℕ) (old new : List (Vec Bool Global)) : Type 0 where
  pub size : length new ≡ length old
  pub sized : (n : ℕ) → All (λ (set : Vec Bool Global). length set.items ≡ n) old → All (λ (set : Vec Bool Global). length set.items ≡ n) new
  pub each : (k x : ℕ) → k < length old → set_has new k x ≡ (set_has old k x || (calls k && nat_eq x local))

-- The part of this number has these fields, and at least one.
abbrev pub HasFields : ℕ → List SavedPart → List FrameField → Type 0
HasFields n [] gs = ⊥
HasFields zero (at_these ks fs ∷ ps) gs = (fs ≡ gs) × (1 ≤ kept_count fs)
HasFields (suc n) (at_these ks fs ∷ ps) gs = HasFields n ps gs
HasFields zero (at_every fs ∷ ps) gs = ⊥
HasFields (suc n) (at_every fs ∷ ps) gs = HasFields n ps gs

-- one more call keeps the part of this number
abbrev pub with_call : (n call : ℕ) → List SavedPart → List SavedPart
with_call n call [] = []
with_call zero call (at_these ks fs ∷ ps) = at_these (ks ++ call ∷ []) fs ∷ ps
with_call zero call (at_every fs ∷ ps) = at_every fs ∷ ps
with_call (suc n) call (p ∷ ps) = p ∷ with_call n call ps

-- what is found for a set
abbrev pub found_at : BTreeMap (Bor (List Bool)) ℕ → Bor (List Bool) → Option ℕ
found_at found q = get_by (λ (k : Bor (List Bool)). slice_cmp bool_cmp q.now k.now) found

-- the number of the part that has its fields
abbrev pub Finds : List ValType → BTreeMap (Bor (List Bool)) ℕ → List SavedPart → Type 0
Finds types found ps = (q : Bor (List Bool)) (n : ℕ) → found_at found q ≡ Some n → HasFields n ps (fields_in 0 q.now types)

-- These parts keep one set more, that of the next call.
abbrev pub KeepsMore : List ValType → (call : ℕ) → (set : List Bool) → (old new : List SavedPart) → Type 0
KeepsMore types call set old new = (sets : List (List Bool)) → length sets ≡ call → KeepByClasses types sets old → KeepByClasses types (sets ++ set ∷ []) new

-- .. and are found
pub record FindsMore (types : List ValType) (call : ℕ) (set : List Bool) (found_now : BTreeMap (Bor (List Bool)) ℕ) (old new : List SavedPart) : Type 0 where
  pub index : Finds types found_now new
  pub keeps : KeepsMore types call set old new

-- ---- sizes

-- classes of few fields, so that their sizes are small
abbrev pub FewFields : List CallClass → Type 0
FewFields cs = All (λ (c : CallClass). length c.fields.items ≤ 50000) cs

-- how many fields a part has, and how many of them all calls keep
abbrev pub part_fields : SavedPart → ℕ
part_fields (at_every fs) = length fs
part_fields (at_these ks fs) = length fs

abbrev pub shared_fields : List SavedPart → ℕ
shared_fields [] = 0
shared_fields (at_every fs ∷ ps) = length fs + shared_fields ps
shared_fields (at_these ks fs ∷ ps) = shared_fields ps

-- parts of few fields, and few that all calls keep
pub record FewParts (ps : List SavedPart) : Type 0 where
  pub each : All (λ (p : SavedPart). part_fields p ≤ 50000) ps
  pub shared : shared_fields ps ≤ 50000
