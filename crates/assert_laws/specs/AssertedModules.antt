-- Laws of the module that is emitted with asserts, for both policies.
use Rattle.std.specs.Prelude.{◌≡◌, ℕ, ◌+◌, ◌^◌, ◌<◌, ◌≤◌, List, length, count_by, Some, Bool, not, slice_get}
use Rattle.wa_types.specs.Encoding.{Enc}
use Rattle.wa_types.specs.ModuleBounds.{source_bounds, prepared_bounds}
use Rattle.wa_types.specs.Modules.{func_imports}
use Rattle.wa_types.specs.Norm.{Norm}
use Rattle.wa_types.specs.Pausing.{MayPause, Numbered, Settings, TellsMayPause, calls_in, has_number}
use Rattle.wa_types.specs.Reading.{SpellsModule}
use Rattle.wa_types.specs.Runtime.{global_space}
use Rattle.wa_types.specs.Sizes.{SizeRule, WellFormed}
use Rattle.wa_types.specs.Syntax.{Func, Module}
use Rattle.wa_types.specs.Validity.{Valid}
use Rattle.wasm_encode.specs.Modules.{FewLocals}
use Rattle.wasm_reader.specs.Answers.{IsAccepted}
use Rattle.run_theory.specs.Quiet.{FreeOfNames}
use Rattle.wa_model.specs.Behaves.{BehavesOn, BehavesUnpaused}
use Rattle.wa_model.specs.Blocking.{Blocking}
use Rattle.wa_model.specs.Plan.{Outcome, Plan}
use Rattle.flat_laws.specs.Flatten.{flattened}
use Rattle.guard_form.specs.AssertedRuns.{ExpectedWithAsserts, RewritesWithAsserts}
use Rattle.guard_form.specs.Bounds.{reads, reads_bound}
use Rattle.headline.specs.Given.{ComparedGiven}
use Rattle.emitted_form.specs.PolicyLaws.{CanBeEmitted}
use Rattle.assert_laws.specs.EmittedWithAsserts.{EmittedWithAsserts}

-- What is emitted with asserts of a module without a reserved name is valid,
abbrev pub AssertedIsValid : Type 0
AssertedIsValid = (m : Module) (s : Settings) (which : List Bool) (q : Module) → CanBeEmitted m s which → FreeOfNames m → EmittedWithAsserts m s which q → Valid q

-- it is the original, rewritten with asserts: no plan is left out, whichever calls the activations stand at where it pauses,
abbrev pub AssertedRewrites : Type 0
AssertedRewrites =
    (m : Module) (s : Settings) (which : List Bool) (q : Module) → CanBeEmitted m s which → FreeOfNames m → EmittedWithAsserts m s which q → RewritesWithAsserts m s q

-- and where nothing pauses it does what its original does under any area.
abbrev pub AssertedRunsUnpaused : Type 0
AssertedRunsUnpaused =
    (m : Module) (s : Settings) (which : List Bool) (q : Module) → CanBeEmitted m s which → FreeOfNames m → EmittedWithAsserts m s which q → BehavesUnpaused m q

-- A module behaves as one with asserts does under plans that are given: one that lets no import pause needs no area.
abbrev pub BehavesGivenWithAsserts : Module → Settings → Module → Type 0
BehavesGivenWithAsserts m s p =
    WellFormed m → (which : List Bool) → TellsMayPause m s which → (plan : Plan) (os : List Outcome) (n : ℕ)
    → ComparedGiven m plan os n → BehavesOn m s p plan os n which (ExpectedWithAsserts m s which plan.area (Blocking m plan os n).events)

-- So does what is emitted with asserts.
abbrev pub AssertedBehavesGiven : Type 0
AssertedBehavesGiven =
    (m : Module) (s : Settings) (which : List Bool) (q : Module) → CanBeEmitted m s which → FreeOfNames m → EmittedWithAsserts m s which q → BehavesGivenWithAsserts m s q

-- Its numbers are in range where those of the original are,
abbrev pub AssertedIsWellFormed : Type 0
AssertedIsWellFormed =
    (m : Module) (s : Settings) (which : List Bool) (q : Module) → CanBeEmitted m s which → EmittedWithAsserts m s which q → WellFormed m → WellFormed q

-- and it keeps the size rule.
abbrev pub AssertedKeepsSizes : Type 0
AssertedKeepsSizes = (m : Module) (s : Settings) (which : List Bool) (q : Module) → CanBeEmitted m s which → EmittedWithAsserts m s which q → SizeRule q

-- ---- what is written of it

-- Its functions declare few locals,
abbrev pub AssertedHasFewLocals : Type 0
AssertedHasFewLocals = (m : Module) (s : Settings) (which : List Bool) (q : Module) → CanBeEmitted m s which → EmittedWithAsserts m s which q → FewLocals q

-- its bytes are fewer than 2 ^ 64 where those of the original are far fewer,
abbrev pub AssertedIsShort : Type 0
AssertedIsShort =
    (m : Module) (s : Settings) (which : List Bool) (q : Module) → CanBeEmitted m s which → EmittedWithAsserts m s which q → length m.funcs ≤ 100000 → length (Enc m) ≤ 2 ^ 36
    → length (Enc q) < 2 ^ 64

-- what is written of it, where that isn't long, spells its norm,
abbrev pub AssertedIsSpelled : Type 0
AssertedIsSpelled =
    (m : Module) (s : Settings) (which : List Bool) (q : Module) → CanBeEmitted m s which → EmittedWithAsserts m s which q → WellFormed m → length (Enc q) ≤ 67108864
    → SpellsModule (Enc q) (Norm q)

-- and of a source module it has no float, and passes no bound of a prepared module.
abbrev pub AssertedIsPrepared : Type 0
AssertedIsPrepared =
    (m : Module) (s : Settings) (which : List Bool) (q : Module) (bytes : List ℕ) → CanBeEmitted m s which → EmittedWithAsserts m s which q → IsAccepted source_bounds bytes m
    → length (Enc q) ≤ 67108864 → SpellsModule (Enc q) (Norm q) → IsAccepted prepared_bounds (Enc q) (Norm q)

-- ---- reads of the state

-- The second function, the first one as it is written with asserts, reads the global of the state as often as without them, and once more for each of
-- its calls that has no number.
abbrev pub ReadsFewWithAsserts : Module → Settings → (which : List Bool) → (index : ℕ) → (f g : Func) → Type 0
ReadsFewWithAsserts m s which x f g =
    reads (global_space m) g.body ≤ reads_bound (Numbered m s which f) (flattened m x f).body + count_by (λ c. not (has_number m s which c)) (calls_in f)

-- So does each function of the second module that may pause; what else stands for a function of the first reads it once for each call that can be reached.
pub record EachReadsFewWithAsserts (m : Module) (s : Settings) (which : List Bool) (q : Module) : Type 0 where
  pub written : (i : ℕ) (f g : Func) → slice_get m.funcs i ≡ Some f → slice_get q.funcs i ≡ Some g → MayPause m s (func_imports m + i)
      → ReadsFewWithAsserts m s which (func_imports m + i) f g
  pub others : (i : ℕ) (f g : Func) → slice_get m.funcs i ≡ Some f → slice_get q.funcs i ≡ Some g → ¬ MayPause m s (func_imports m + i)
      → reads (global_space m) g.body ≡ length (calls_in f)

-- So do those of a module that is emitted with asserts.
abbrev pub AssertedReadsFew : Type 0
AssertedReadsFew =
    (m : Module) (s : Settings) (which : List Bool) (q : Module) → CanBeEmitted m s which → EmittedWithAsserts m s which q → EachReadsFewWithAsserts m s which q
