-- What flattening owes the headline, carried over from a flat module to the one with asserts.
use Rattle.std.specs.Prelude.{◌≡◌, ℕ, ◌<◌, List, ◌∷◌, Some, Bool, true, All, not}
use Rattle.wa_types.specs.Modules.{defined_at}
use Rattle.wa_types.specs.Runtime.{global_space}
use Rattle.wa_types.specs.Syntax.{Code, Func, Module}
use Rattle.wa_types.specs.declared.values.Value.TheVariants as V
use Rattle.wa_model.specs.Behaves.{StandsNumbered}
use Rattle.wa_model.specs.Configuration.{Activation, Configuration, stack_of}
use Rattle.wa_model.specs.Store.{Store, value_at}
use Rattle.headline.specs.FlatLaw.{AllLocalsFit, FlatAgain, FlatLaw, FlatStands, Still}
use Rattle.guard_form.specs.Functions.{Role}
use Rattle.guard_runs.specs.Joined.{CallFrame}
use Rattle.guard_runs.specs.Returned.{AllSameFlat}
use Rattle.guard_runs.specs.Stopped.{AllNumbered, Stopped, StopsInside, NumberedAs}
use Rattle.headline.specs.World.{World, base, setting}
use Rattle.guard_form.specs.Asserts.{assert_code}
use Rattle.assert_laws.specs.Beside.{Asked, Beside, Sides, Together, Unders}
use Rattle.wa_types.specs.Pausing.{Callee, indirect}

-- the world whose flat module has asserts
abbrev pub with_asserts : World → (flat written : Module) → (ℕ → Role) → (Activation → CallFrame) → World
with_asserts w q written role lay = record w { flat = q; written = written; role = role; lay = lay; tests = 5; asserts = true }

-- both flat modules: tests stand behind the calls that have no number
abbrev pub assert_sides : World → Module → Sides
assert_sides w q = record { plainly = w.flat; tested = q; state = global_space w.original; tests = λ x. not (w.numbered x) }

module _ (w : World) (q : Module) (L : (top spare : ℕ) → Configuration → Configuration → Type 0) (W : (top import : ℕ) → Configuration → Configuration → Type 0) where
  -- both run: a configuration without asserts stands between
  pub record LinkedBeside (top spare : ℕ) (c f : Configuration) : Type 0 where
    pub between : Configuration
    pub link : L top spare c between
    pub beside : Beside (assert_sides w q) between f

  -- both wait for the answer of an import
  pub record WaitsBeside (top i : ℕ) (d f : Configuration) : Type 0 where
    pub between : Configuration
    pub waits : W top i d between
    pub asked : Asked (assert_sides w q) i between f

-- The module with asserts goes the same stretch, to a configuration beside.
pub record StillToo (w : World) (q written : Module) (role : ℕ → Role) (lay : Activation → CallFrame) (top : ℕ) (f' : Configuration) (n : ℕ) (e : Configuration) : Type 0 where
  pub to : Configuration
  pub goes : Still (setting (with_asserts w q written role lay) top) f' n to
  pub both : Beside (assert_sides w q) e to

-- Proper reductions that leave the store and stay at the depth of calls are reductions of the module with asserts, as many and proper.
abbrev pub StretchesAreFollowed : Type 0
StretchesAreFollowed =
    (w : World) (q written : Module) (role : ℕ → Role) (lay : Activation → CallFrame) (top : ℕ) (f f' e : Configuration) (n : ℕ)
    → Together (assert_sides w q) → Still (setting w top) f n e → Beside (assert_sides w q) f f' → StillToo w q written role lay top f' n e

-- what of the law is about suspended stacks
pub record StackLaw (w : World) (Live : Configuration → Configuration → Type 0) (L : (top spare : ℕ) → Configuration → Configuration → Type 0) (W : (top import : ℕ) → Configuration → Configuration
    → Type 0) (G : Store → Type 0) : Type 0 where
  pub numbers : (top i : ℕ) (d f : Configuration) → W top i d f → All (StandsNumbered w.original w.settings w.which) (stack_of (base w) d) → AllNumbered (setting w top) i (f.here ∷ f.under)
  pub stands : (top i : ℕ) (d f : Configuration) (us' : List Activation) (st : Stopped (setting w top) i (f.here ∷ f.under) us') → W top i d f
      → All (StandsNumbered w.original w.settings w.which) (stack_of (base w) d)
      → AllLocalsFit w.written us' → FlatStands w Live L W G top i d f us' st
  pub again : (top i : ℕ) (d f : Configuration) (a : Activation) (us : List Activation) → W top i d f → All (StandsNumbered w.original w.settings w.which) (stack_of (base w) d)
      → AllSameFlat w.lay (f.here ∷ f.under) (a ∷ us) → (us' : List Activation) → Stopped (setting w top) i (a ∷ us) us' → AllLocalsFit w.written us' → FlatAgain w Live L W G top i d f a us

-- What flattening owes of runs it owes of the module with asserts, which costs a test more behind a return or an answer.
abbrev pub AssertsAreBeside : Type 1
AssertsAreBeside =
    (w : World) (q written : Module) (role : ℕ → Role) (lay : Activation → CallFrame) (Live : Configuration → Configuration → Type 0)
    (L : (top spare : ℕ) → Configuration → Configuration → Type 0) (W : (top import : ℕ) → Configuration → Configuration → Type 0) (G : Store → Type 0)
    → FlatLaw w Live L W G → w.tests ≡ 0 → Together (assert_sides w q) → ((s : Store) → G s → value_at s.globals (global_space w.original) ≡ V.I32 0)
    → ((x : ℕ) (g : Func) → x < w.funcs → defined_at q x ≡ Some g → (g' : Func) × (defined_at written x ≡ Some g'))
    → StackLaw (with_asserts w q written role lay) Live (LinkedBeside w q L W) (WaitsBeside w q L W) G
    → FlatLaw (with_asserts w q written role lay) Live (LinkedBeside w q L W) (WaitsBeside w q L W) G

-- whichever type a call through the table names, it has a number or not
abbrev pub IndirectsAlike : (numbered : Callee → Bool) → Type 0
IndirectsAlike numbered = (s t : ℕ) → numbered (indirect s) ≡ numbered (indirect t)

-- Where a written stack stops inside, the activation there begins with the test.
abbrev pub TestIsMet : Type 0
TestIsMet =
    (w : World) (q written : Module) (role : ℕ → Role) (lay : Activation → CallFrame) (top g : ℕ) (us fs fs' : List Activation)
    → Together (assert_sides w q) → IndirectsAlike w.numbered → Unders (assert_sides w q) g us fs → (s : StopsInside (setting (with_asserts w q written role lay) top) g fs fs')
    → (code : Code) × (s.at'.code ≡ assert_code (global_space w.original) code)

-- What tells who stands at numbered calls of activations without asserts tells it of those with them.
abbrev pub NumbersCarryOver : Type 0
NumbersCarryOver =
    (w : World) (q written : Module) (role : ℕ → Role) (lay : Activation → CallFrame) (top : ℕ) (told : ℕ → Bool) (g : ℕ) (tests : List Bool) (us fs : List Activation)
    → Together (assert_sides w q) → Unders (assert_sides w q) g us fs → NumberedAs (setting w top) told g tests us
    → NumberedAs (setting (with_asserts w q written role lay) top) told g tests fs
