-- Laws of what is emitted, for both policies.
use Rattle.std.specs.Prelude.{◌≡◌, ◌≤◌, ℕ, ◌+◌, List, map, Some, Bool, true, slice_get}
use Rattle.wa_types.specs.Modules.{defined_at, func_imports}
use Rattle.wa_types.specs.Pausing.{MayPause, Numbered, Settings, TellsMayPause, is_told}
use Rattle.wa_types.specs.Runtime.{global_space}
use Rattle.wa_types.specs.Sizes.{SizeRule, StrictSizeRule}
use Rattle.wa_types.specs.Syntax.{done, Func, Module}
use Rattle.wa_types.specs.Validity.{Valid}
use Rattle.run_theory.specs.Quiet.{FreeOfNames}
use Rattle.wa_model.specs.Rewrites.{Rewrites, RewritesButRuns, SameFunc}
use Rattle.flat_laws.specs.Flatten.{flattened}
use Rattle.guard_form.specs.Bounds.{reads, reads_bound}
use Rattle.emitted_form.specs.Sizes.{FewWritten}
use Rattle.headline.specs.Given.{BehavesGiven}
use Rattle.emitted_form.specs.EmittedAs.{EmittedAs, IsWritten}

-- A valid module under the strict size rule, and the functions of it that may pause, each with at most 50,000 locals as it is written.
pub record CanBeEmitted (m : Module) (s : Settings) (which : List Bool) : Type 0 where
  pub valid : Valid m
  pub sizes : StrictSizeRule m
  pub few : FewWritten m which
  pub tells : TellsMayPause m s which

-- What is emitted of one without a reserved name is valid,
abbrev pub EmittedAsIsValid : Type 0
EmittedAsIsValid = (m : Module) (s : Settings) (which : List Bool) (q : Module) → CanBeEmitted m s which → FreeOfNames m → EmittedAs m s which q → Valid q

-- it is the original, rewritten, in each part but its runs,
abbrev pub EmittedAsIsRewritten : Type 0
EmittedAsIsRewritten = (m : Module) (s : Settings) (which : List Bool) (q : Module) → CanBeEmitted m s which → FreeOfNames m → EmittedAs m s which q → RewritesButRuns SameFunc m s q

-- and in all, pauses included.
abbrev pub EmittedAsRewrites : Type 0
EmittedAsRewrites = (m : Module) (s : Settings) (which : List Bool) (q : Module) → CanBeEmitted m s which → FreeOfNames m → EmittedAs m s which q → Rewrites m s q

-- It behaves like its original under any plan that is given: one that lets no import pause needs no area.
abbrev pub EmittedAsBehavesGiven : Type 0
EmittedAsBehavesGiven = (m : Module) (s : Settings) (which : List Bool) (q : Module) → CanBeEmitted m s which → FreeOfNames m → EmittedAs m s which q → BehavesGiven m s q

-- It keeps the size rule.
abbrev pub EmittedAsKeepsSizes : Type 0
EmittedAsKeepsSizes = (m : Module) (s : Settings) (which : List Bool) (q : Module) → CanBeEmitted m s which → EmittedAs m s which q → SizeRule q

-- a module with no code in its functions
abbrev pub without_code : Module → Module
without_code m = record m { funcs = map (λ (f : Func). record f { body = done }) m.funcs }

-- Modules that are emitted of one differ in code alone.
abbrev pub EmittedDifferInCode : Type 0
EmittedDifferInCode = (m : Module) (s : Settings) (which : List Bool) (p q : Module) → EmittedAs m s which p → EmittedAs m s which q → without_code p ≡ without_code q

-- ---- reads of the state

-- The second function, the first one as it is written, reads the global of the state, which stands behind the module's own, at most 8 times for each numbered
-- call and for each construct that holds one, and 8.
abbrev pub ReadsFew : Module → Settings → (which : List Bool) → (index : ℕ) → (f g : Func) → Type 0
ReadsFew m s which x f g = reads (global_space m) g.body ≤ reads_bound (Numbered m s which f) (flattened m x f).body

-- So does each function of the second module that may pause; what else stands for a function of the first never reads it. Functions go by their number among
-- the defined ones.
pub record EachReadsFew (m : Module) (s : Settings) (which : List Bool) (q : Module) : Type 0 where
  pub written : (i : ℕ) (f g : Func) → slice_get m.funcs i ≡ Some f → slice_get q.funcs i ≡ Some g → MayPause m s (func_imports m + i) → ReadsFew m s which (func_imports m + i) f g
  pub others : (i : ℕ) (f g : Func) → slice_get m.funcs i ≡ Some f → slice_get q.funcs i ≡ Some g → ¬ MayPause m s (func_imports m + i) → reads (global_space m) g.body ≡ 0

-- A function that is written reads it few times,
abbrev pub WrittenAsReadsFew : Type 0
WrittenAsReadsFew =
    (m : Module) (s : Settings) (which : List Bool) (x : ℕ) (f g : Func) → CanBeEmitted m s which → defined_at m x ≡ Some f → is_told (slice_get which x) ≡ true → IsWritten m s which x f g
    → ReadsFew m s which x f g

-- and so do those of a module that is emitted.
abbrev pub EmittedAsReadsFew : Type 0
EmittedAsReadsFew = (m : Module) (s : Settings) (which : List Bool) (q : Module) → CanBeEmitted m s which → EmittedAs m s which q → EachReadsFew m s which q
