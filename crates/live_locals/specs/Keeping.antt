-- The calls that keep each local, as far as a walk from the last call on has come.
use Rattle.std.specs.Prelude.{◌≡◌, ◌<◌, ◌≤◌, ◌+◌, ◌-◌, ◌||◌, ◌&&◌, not, ℕ, suc, List, [], ◌∷◌, ◌++◌, length, get_or, nat_eq, Option, Some, None, Bool, true, false, if◌then◌else◌}
use Rattle.std.specs.List.{list_any}
use Rattle.wa_types.specs.Syntax.{local_get, local_set, local_tee, Code, done, plain}
use Rattle.wa_model.specs.declared.flat.Operand.{Operand}
use Rattle.wa_model.specs.declared.flat.Operand.TheVariants.{Local, Const}
use Rattle.run_theory.specs.Flat.{Stmts, computes, copies}
use Rattle.call_frames.specs.CallRows.{counted}
use Rattle.live_locals.specs.Sets.{has}
use Rattle.live_locals.specs.declared.keeping.Keeping.{Keeping}

-- The calls from the one that comes next on: those up to where the set was changed last, where it has the local, and those that are told.
abbrev pub kept_on : (next : ℕ) → (since : ℕ) → (told : Bool) → (rows : List ℕ) → List ℕ
kept_on k since told rows = (if told then counted k (since - k) else []) ++ rows

-- the calls that keep a local, where its set is this one now
abbrev pub calls_kept : Keeping → List Bool → ℕ → List ℕ
calls_kept st set x = kept_on st.left (get_or st.since.items x 0) (has set x) (get_or st.rows.items x [])

-- It tells of so many locals since which call their sets are as they are now.
pub record Stands (size : ℕ) (st : Keeping) : Type 0 where
  pub sinces : length st.since.items ≡ size
  pub rows : length st.rows.items ≡ size
  pub later : (x : ℕ) → x < size → st.left ≤ get_or st.since.items x 0

-- all calls that keep a local are told, so that its set may change
abbrev pub IsSettled : Keeping → ℕ → Type 0
IsSettled st x = get_or st.since.items x 0 ≡ st.left

-- Of the locals that pass a test all calls are told. The calls that keep each local are the same.
pub record Settles (set : List Bool) (test : ℕ → Bool) (old new : Keeping) : Type 0 where
  pub left : new.left ≡ old.left
  pub stands : Stands (length set) new
  pub same : (x : ℕ) → x < length set → calls_kept new set x ≡ calls_kept old set x
  pub still : (x : ℕ) → x < length set → IsSettled old x → IsSettled new x
  pub told : (x : ℕ) → x < length set → test x ≡ true → IsSettled new x

-- One call more is there, which keeps what its set has: of the locals that pass a test it is told.
pub record Holds (set : List Bool) (test : ℕ → Bool) (old new : Keeping) : Type 0 where
  pub left : new.left ≡ old.left
  pub stands : Stands (length set) new
  pub held : (x : ℕ) → x < length set → test x ≡ true
      → IsSettled new x × (get_or new.rows.items x [] ≡ old.left ∷ kept_on (suc old.left) (get_or old.since.items x 0) (has set x) (get_or old.rows.items x []))
  pub rest : (x : ℕ) → x < length set → test x ≡ false
      → (get_or new.since.items x 0 ≡ get_or old.since.items x 0) × (get_or new.rows.items x [] ≡ get_or old.rows.items x [])

-- no local's calls are told up to the next one
abbrev pub AllOpen : (size : ℕ) → Keeping → Type 0
AllOpen size st = (x : ℕ) → x < size → suc st.left ≤ get_or st.since.items x 0

-- of one local more it is told, unless the set has it
abbrev pub HoldsMore : (set : List Bool) → (local : ℕ) → (old new : Keeping) → Type 0
HoldsMore set y old new =
    (test : ℕ → Bool) (start : Keeping) → AllOpen (length set) start → Holds set test start old → Holds set (λ x. test x || (nat_eq x y && not (has set x))) start new

-- Where the call has a number it keeps the locals of a stack, and those of the set.
pub record CallKept (numbered : Bool) (set : List Bool) (stack : List ℕ) (old new : Keeping) : Type 0 where
  pub left : new.left + (if numbered then 1 else 0) ≡ old.left
  pub stands : Stands (length set) new
  pub kept : (x : ℕ) → x < length set
      → calls_kept new set x ≡ (if numbered && (list_any (nat_eq x) stack || has set x) then new.left ∷ [] else []) ++ calls_kept old set x

-- .. and of these locals all calls are told
pub record CallPut (numbered : Bool) (set : List Bool) (stack taken : List ℕ) (old new : Keeping) : Type 0 where
  pub keeps : CallKept numbered set stack old new
  pub told : (x : ℕ) → x < length set → list_any (nat_eq x) taken ≡ true → IsSettled new x

-- ---- which locals statements touch

-- an operand reads it
abbrev pub is_local : ℕ → Operand → Bool
is_local x (Local y) = nat_eq x y
is_local x (Const v) = false

-- it is the local that is told
abbrev pub is_it : ℕ → Option ℕ → Bool
is_it x None = false
is_it x (Some y) = nat_eq x y

-- a computation reads or writes it
abbrev pub op_touches : ℕ → Code → Bool
op_touches x (plain (local_get y) done) = nat_eq x y
op_touches x (plain (local_set y) done) = nat_eq x y
op_touches x (plain (local_tee y) done) = nat_eq x y
op_touches x _ = false

-- the first statement may change whether it is read first
abbrev pub touches : ℕ → Stmts → Bool
touches x (computes op args to rest) = (is_it x to || op_touches x op) || list_any (is_local x) args
touches x (copies to from rest) = nat_eq x to || is_local x from
touches x _ = true
