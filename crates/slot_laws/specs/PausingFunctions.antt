-- Which functions may pause: one list tells it, and it is the least closed set.
use Rattle.std.specs.Prelude.{◌≡◌, ℕ, List, Some, true, false, Bool, slice_get}
use Rattle.wa_types.specs.Syntax.{Func, Module}
use Rattle.wa_types.specs.Modules.{defined_at}
use Rattle.wa_types.specs.Pausing.{Settings, Listed, direct, indirect, calls_in, MayPause, TellsMayPause}

-- A set of functions is closed: each defined function is in it whose pruned body calls a listed import, holds a
-- `call_indirect` that isn't ignored, or calls a function of the set.
pub record IsClosed (m : Module) (s : Settings) (Member : ℕ → Type 0) : Type 0 where
  pub calls_listed : (x : ℕ) (f : Func) (place i : ℕ) → defined_at m x ≡ Some f → slice_get (calls_in f) place ≡ Some (direct i) → slice_get (Listed m s) i ≡ Some true → Member x
  pub calls_indirectly : (x : ℕ) (f : Func) (place sort : ℕ) → defined_at m x ≡ Some f → slice_get (calls_in f) place ≡ Some (indirect sort) → s.ignore_indirect ≡ false → Member x
  pub calls_member : (x : ℕ) (f : Func) (place y : ℕ) → defined_at m x ≡ Some f → slice_get (calls_in f) place ≡ Some (direct y) → Member y → Member x

-- The functions that may pause are a closed set,
abbrev pub MayPauseIsClosed : Type 0
MayPauseIsClosed = (m : Module) (s : Settings) → IsClosed m s (MayPause m s)

-- and every closed set contains them, here each one that a test tells: a clause can't range over all facts of numbers.
abbrev pub MayPauseIsLeast : Type 0
MayPauseIsLeast = (m : Module) (s : Settings) (member : ℕ → Bool) → IsClosed m s (λ x. member x ≡ true) → (x : ℕ) → MayPause m s x → member x ≡ true

-- One list tells them,
abbrev pub OneListTells : Type 0
OneListTells = (m : Module) (s : Settings) (which others : List Bool) → TellsMayPause m s which → TellsMayPause m s others → which ≡ others

-- and there is one.
abbrev pub SomeListTells : Type 0
SomeListTells = (m : Module) (s : Settings) → (which : List Bool) × TellsMayPause m s which
