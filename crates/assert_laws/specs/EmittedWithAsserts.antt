-- What is emitted with asserts, by the policy of the settings: a test stands behind each call that has no number, but for calls that can't be reached.
use Rattle.std.specs.Prelude.{◌≡◌, ℕ, suc, List, [], ◌∷◌, Bool, true, false, not, slice_get}
use Rattle.wa_types.specs.Modules.{func_imports}
use Rattle.wa_types.specs.Pausing.{Callee, Settings, has_number, is_told}
use Rattle.wa_types.specs.Runtime.{global_space, with_runtime}
use Rattle.wa_types.specs.Syntax.{Code, Func, Module}
use Rattle.guard_form.specs.Asserts.{asserted, asserted_reached}
use Rattle.emitted_form.specs.EmittedAs.{EmittedAs, IsEmitted}

-- A body with asserts: of a function that is written behind the calls without a number, of one that stays behind each call that can be reached.
abbrev pub asserted_body : (tests : Callee → Bool) → (state : ℕ) → (written : Bool) → Code → Code
asserted_body t st true c = asserted t st c
asserted_body t st false c = asserted_reached st c

module _ (m : Module) (s : Settings) (which : List Bool) where
  -- the function of this index, as it was emitted, with asserts
  abbrev pub func_with_asserts : (index : ℕ) → Func → Func
  func_with_asserts x g = record g { body = asserted_body (λ c. not (has_number m s which c)) (global_space m) (is_told (slice_get which x)) g.body }

  -- the functions from this index on
  abbrev pub funcs_with_asserts : (index : ℕ) → List Func → List Func
  funcs_with_asserts x [] = []
  funcs_with_asserts x (g ∷ gs) = func_with_asserts x g ∷ funcs_with_asserts (suc x) gs

  -- A module that was emitted, each function with asserts. Those of the runtime make no call, so they stay.
  abbrev pub module_with_asserts : Module → Module
  module_with_asserts p = record p { funcs = funcs_with_asserts (func_imports p) p.funcs }

-- The second module is what is emitted of the first with asserts, where each function that may pause is written, `which` telling them.
pub record EmittedWithAsserts (m : Module) (s : Settings) (which : List Bool) (q : Module) : Type 0 where
  pub without : Module
  pub emitted : EmittedAs m s which without
  pub is : q ≡ module_with_asserts m s which without

-- ---- function by function

-- The second function is the first as it is emitted with asserts, this being its index.
pub record IsEmittedWithAsserts (m : Module) (s : Settings) (which : List Bool) (x : ℕ) (f h : Func) : Type 0 where
  pub without : Func
  pub emitted : IsEmitted m s which x f without
  pub is : h ≡ func_with_asserts m s which x without

-- These are the functions from this index on, as they are emitted with asserts.
abbrev pub AreEmittedWithAsserts : Module → Settings → (which : List Bool) → (index : ℕ) → (fs hs : List Func) → Type 0
AreEmittedWithAsserts m s which x [] [] = Unit {0}
AreEmittedWithAsserts m s which x [] (h ∷ hs) = ⊥
AreEmittedWithAsserts m s which x (f ∷ fs) [] = ⊥
AreEmittedWithAsserts m s which x (f ∷ fs) (h ∷ hs) = IsEmittedWithAsserts m s which x f h × AreEmittedWithAsserts m s which (suc x) fs hs

-- Functions that are emitted with asserts one by one are those of a module that is.
abbrev pub FunctionsHaveAsserts : Type 0
FunctionsHaveAsserts =
    (m : Module) (s : Settings) (which : List Bool) (hs : List Func) → AreEmittedWithAsserts m s which (func_imports m) m.funcs hs
    → EmittedWithAsserts m s which (with_runtime (record m { funcs = hs }))
