-- What is emitted, by the policy of the settings: functions are written from some slim pieces, and under `live` with the frames of the policy.
use Rattle.std.specs.Prelude.{◌≡◌, ℕ, suc, List, [], ◌∷◌, Bool, true, false, slice_get}
use Rattle.wa_types.specs.Modules.{func_imports}
use Rattle.wa_types.specs.Pausing.{Numbered, Policy, Settings, is_told, save_all, save_live}
use Rattle.wa_types.specs.Runtime.{with_runtime}
use Rattle.wa_types.specs.Syntax.{Func, Module}
use Rattle.call_frames.specs.PlainFrames.{SavedParts}
use Rattle.slim_laws.specs.SlimModule.{Pieces, SlimPieces}
use Rattle.emitted_form.specs.CodesHold.{AllSlim}
use Rattle.emitted_form.specs.Emitted.{IsAllWritten, asyncified}
use Rattle.emitted_form.specs.EmittedBy.{written_by}
use Rattle.emitted_form.specs.LiveParts.{AllLiveParts, LiveParts, live_asyncified, live_codes}

-- ---- one function

-- as it is written from these pieces, with frames of these parts
abbrev pub live_written : Module → Settings → (which : List Bool) → (index : ℕ) → Func → Pieces → SavedParts → Func
live_written m s which x f ps p = written_by m s which (live_codes (λ y. ps) (λ y. p)) x f

-- It is written from some slim pieces, with frames that keep at each call what the policy saves there.
pub record IsLiveWritten (m : Module) (s : Settings) (which : List Bool) (x : ℕ) (f g : Func) : Type 0 where
  pub pieces : Pieces
  pub slim : SlimPieces m (Numbered m s which f) x f pieces
  pub parts : SavedParts
  pub live : LiveParts m s which x f parts
  pub is : g ≡ live_written m s which x f pieces parts

-- by the policy
abbrev pub IsWrittenUnder : Policy → Module → Settings → (which : List Bool) → (index : ℕ) → (f g : Func) → Type 0
IsWrittenUnder save_all m s which x f g = IsAllWritten m s which x f g
IsWrittenUnder save_live m s which x f g = IsLiveWritten m s which x f g

-- The second function is the first as it is written, this being its index.
abbrev pub IsWritten : Module → Settings → (which : List Bool) → (index : ℕ) → (f g : Func) → Type 0
IsWritten m s which x f g = IsWrittenUnder s.policy m s which x f g

-- ---- several

-- it is written where told, and else stays
abbrev pub IsEmittedWhere : (told : Bool) → Module → Settings → (which : List Bool) → (index : ℕ) → (f g : Func) → Type 0
IsEmittedWhere true m s which x f g = IsWritten m s which x f g
IsEmittedWhere false m s which x f g = g ≡ f

-- a function that may pause is written, any other stays
abbrev pub IsEmitted : Module → Settings → (which : List Bool) → (index : ℕ) → (f g : Func) → Type 0
IsEmitted m s which x f g = IsEmittedWhere (is_told (slice_get which x)) m s which x f g

-- These are the functions from this index on, as they are emitted.
abbrev pub AreEmitted : Module → Settings → (which : List Bool) → (index : ℕ) → (fs gs : List Func) → Type 0
AreEmitted m s which x [] [] = Unit {0}
AreEmitted m s which x [] (g ∷ gs) = ⊥
AreEmitted m s which x (f ∷ fs) [] = ⊥
AreEmitted m s which x (f ∷ fs) (g ∷ gs) = IsEmitted m s which x f g × AreEmitted m s which (suc x) fs gs

-- ---- the module

-- It is emitted under the policy `all`, from some slim pieces.
pub record IsAllAsyncified (m : Module) (s : Settings) (which : List Bool) (q : Module) : Type 0 where
  pub pieces : (index : ℕ) → Pieces
  pub slim : AllSlim m s which pieces
  pub is : q ≡ asyncified m s which pieces

-- It is emitted under the policy `live`, from some slim pieces and parts of frames.
pub record IsLiveAsyncified (m : Module) (s : Settings) (which : List Bool) (q : Module) : Type 0 where
  pub pieces : (index : ℕ) → Pieces
  pub slim : AllSlim m s which pieces
  pub parts : (index : ℕ) → SavedParts
  pub live : AllLiveParts m s which parts
  pub is : q ≡ live_asyncified m s which pieces parts

-- by the policy
abbrev pub EmittedUnder : Policy → Module → Settings → (which : List Bool) → Module → Type 0
EmittedUnder save_all m s which q = IsAllAsyncified m s which q
EmittedUnder save_live m s which q = IsLiveAsyncified m s which q

-- The second module is what is emitted of the first, where each function that may pause is written, `which` telling them.
abbrev pub EmittedAs : Module → Settings → (which : List Bool) → Module → Type 0
EmittedAs m s which q = EmittedUnder s.policy m s which q

-- ---- functions make a module

-- Functions that are emitted one by one are those of an emitted module.
abbrev pub FunctionsAreEmitted : Type 0
FunctionsAreEmitted =
    (m : Module) (s : Settings) (which : List Bool) (gs : List Func) → AreEmitted m s which (func_imports m) m.funcs gs
    → EmittedAs m s which (with_runtime (record m { funcs = gs }))
