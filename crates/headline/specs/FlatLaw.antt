-- What flattening owes the headline: one reduction of the original is a stretch of the flat module that leaves the store but for
-- one reduction, which leaves the original's.
use Rattle.std.specs.Prelude.{◌≡◌, ℕ, suc, ◌+◌, ◌*◌, ◌^◌, ◌<◌, ◌≤◌, List, [], ◌∷◌, length, Option, Some, None, Bool, All}
use Rattle.std.specs.Option.{option_to_list}
use Rattle.wa_types.specs.declared.values.Trap.{Trap}
use Rattle.wa_types.specs.declared.values.Value.{Value}
use Rattle.wa_types.specs.Bounds.{activation_bound}
use Rattle.wa_types.specs.Frames.{Suspended}
use Rattle.wa_types.specs.Modules.{defined_at, func_imports, func_type_at, locals_of}
use Rattle.wa_types.specs.Sizes.{value_fits}
use Rattle.wa_types.specs.Syntax.{Func, Module}
use Rattle.wa_model.specs.Behaves.{StandsNumbered}
use Rattle.wa_model.specs.Blocking.{fault_of, poked, resumed}
use Rattle.wa_model.specs.Configuration.{Activation, Configuration, stack_of}
use Rattle.run_theory.specs.Fitting.{types_of}
use Rattle.wa_model.specs.Outside.{Answer}
use Rattle.wa_model.specs.declared.answers.Said.TheVariants as S
use Rattle.wa_model.specs.Plan.{AnswerFits, AreLawful}
use Rattle.wa_model.specs.Step.{Next, asks, entered, param_count, returns, step, steps, stuck, traps}
use Rattle.wa_model.specs.Store.{Store}
use Rattle.wa_model.specs.Untouched.{StaysOff, next_ranges}
use Rattle.frame_laws.specs.Function.{rewinding, unwinding}
use Rattle.frame_laws.specs.Stack.{Level}
use Rattle.frame_laws.specs.Suspended.{AllStandFor}
use Rattle.guard_runs.specs.Levels.{MayStand, levels_of}
use Rattle.guard_runs.specs.Returned.{AllSameFlat}
use Rattle.guard_runs.specs.Alike.{Setting, sides_of}
use Rattle.guard_runs.specs.Beside.{Proper}
use Rattle.guard_runs.specs.Stopped.{AllNumbered, Stopped}
use Rattle.headline.specs.World.{World, base, setting}

-- Proper reductions of the flat side that leave the store and stay at the depth of calls.
pub data Still (v : Setting) : Configuration → ℕ → Configuration → Type 0 where
  stays : {c : Configuration} → Still v c 0 c
  moves : {c d e : Configuration} {k n m : ℕ} → Proper (sides_of v) c → step v.flat c ≡ steps k d → d.store ≡ c.store → length d.under ≡ length c.under → Still v d n e → m ≡ suc k + n → Still v c m e

-- Each level's two costs, the call's two operands a slot included, are within the bound of its activation; so are the outermost
-- function's arguments beside.
abbrev pub AllWeigh : Module → (params : ℕ) → List Level → List Suspended → Type 0
AllWeigh m n [] [] = Unit {0}
AllWeigh m n (v ∷ []) (a ∷ []) = n + (unwinding v.fn v.out + 1 + (2 * length v.site.slots + 1) + rewinding v.fn v.seek) ≤ activation_bound m a
AllWeigh m n (v ∷ x ∷ vs) (a ∷ rest) = (unwinding v.fn v.out + 1 + (2 * length v.site.slots + 1) + rewinding v.fn v.seek ≤ activation_bound m a) × AllWeigh m n (x ∷ vs) rest
AllWeigh m n _ _ = ⊥

-- An activation's locals have their types and are in range.
pub record LocalsFit (p : Module) (func : ℕ) (locals : List Value) : Type 0 where
  pub found : Func
  pub is : defined_at p func ≡ Some found
  pub typed : types_of locals ≡ locals_of p found
  pub ranges : All value_fits locals

-- so do those of each
abbrev pub AllLocalsFit : Module → List Activation → Type 0
AllLocalsFit p [] = Unit {0}
AllLocalsFit p (a ∷ us) = LocalsFit p a.func a.locals × AllLocalsFit p us

module _ (w : World) (Live : Configuration → Configuration → Type 0) (L : (top spare : ℕ) → Configuration → Configuration → Type 0) (W : (top import : ℕ) → Configuration → Configuration
    → Type 0) (G : Store → Type 0) where
  -- A reduction: quiet as to the store, one that does what the original's does, and quiet again. What is to spare from earlier ones may
  -- be spent, and something be left.
  pub record FlatSteps (top spare k : ℕ) (d f : Configuration) : Type 0 where
    pub n1 : ℕ
    pub mid : Configuration
    pub before : Still (setting w top) f n1 mid
    pub proper : Proper (sides_of (setting w top)) mid
    pub j : ℕ
    pub after : Configuration
    pub acts : step w.flat mid ≡ steps j after
    pub store : after.store ≡ d.store
    pub n2 : ℕ
    pub to : Configuration
    pub behind : Still (setting w top) after n2 to
    pub least : suc k ≤ n1 + suc j
    pub left : ℕ
    pub most : n1 + suc j + n2 + left ≤ 16 * suc k + w.tests + spare
    pub link : L top left d to

  -- In front of a call of an import each of its operands is read once.
  pub record FlatAsks (top spare k i : ℕ) (args : List Value) (d f : Configuration) : Type 0 where
    pub n : ℕ
    pub at : Configuration
    pub before : Still (setting w top) f n at
    pub j : ℕ
    pub least : suc k ≤ n + suc j
    pub most : n + suc j ≤ 2 * suc k + spare
    pub proper : Proper (sides_of (setting w top)) at
    pub to : Configuration
    pub asks_there : step w.flat at ≡ asks j i args to
    pub waits : W top i d to

  pub record FlatReturns (top spare k : ℕ) (vs : List Value) (s : Store) (f : Configuration) : Type 0 where
    pub n : ℕ
    pub at : Configuration
    pub before : Still (setting w top) f n at
    pub j : ℕ
    pub least : suc k ≤ n + suc j
    pub most : n + suc j ≤ 16 * suc k + spare
    pub proper : Proper (sides_of (setting w top)) at
    pub returns_there : step w.flat at ≡ returns j vs s
    pub good : G s

  pub record FlatTraps (top spare k : ℕ) (t : Trap) (s : Store) (f : Configuration) : Type 0 where
    pub n : ℕ
    pub at : Configuration
    pub before : Still (setting w top) f n at
    pub j : ℕ
    pub least : suc k ≤ n + suc j
    pub most : n + suc j ≤ 16 * suc k + spare
    pub proper : Proper (sides_of (setting w top)) at
    pub traps_there : step w.flat at ≡ traps j t s

  abbrev pub FlatNext : (top spare : ℕ) → Next → Configuration → Type 0
  FlatNext top spare (steps k d) f = FlatSteps top spare k d f
  FlatNext top spare (asks k i args d) f = FlatAsks top spare k i args d f
  FlatNext top spare (returns k vs s) f = FlatReturns top spare k vs s f
  FlatNext top spare (traps k t s) f = FlatTraps top spare k t s f
  FlatNext top spare stuck f = ⊥

  -- the flat side goes on, and both are linked, with something to spare
  pub record FlatOn (top most : ℕ) (c f : Configuration) : Type 0 where
    pub n : ℕ
    pub left : ℕ
    pub few : n + left ≤ most
    pub to : Configuration
    pub goes : Still (setting w top) f n to
    pub link : L top left c to

  -- the host's call of a function
  pub record FlatEnters (x : ℕ) (args : List Value) (f : Func) (s : Store) : Type 0 where
    pub func : Func
    pub defined : defined_at w.flat x ≡ Some func
    pub func' : Func
    pub defined' : defined_at w.written x ≡ Some func'
    pub known : x < w.funcs
    pub count : length args ≡ param_count (func_type_at w.flat x)
    pub on : FlatOn x 16 (entered s [] args x f) (entered s [] args x func)

  -- a suspended stack, as frames
  pub record FlatStands (top i : ℕ) (d f : Configuration) (us' : List Activation) (st : Stopped (setting w top) i (f.here ∷ f.under) us') : Type 0 where
    pub may : MayStand (setting w top) w.lay st
    pub stand : AllStandFor w.original w.settings w.which (levels_of (setting w top) w.lay st) (stack_of (base w) d)
    pub weigh : AllWeigh w.original (param_count (func_type_at w.flat top)) (levels_of (setting w top) w.lay st) (stack_of (base w) d)

  -- the same flat stack again, but for what isn't kept; the original's is chosen anew
  pub record FlatAgain (top i : ℕ) (d f : Configuration) (a : Activation) (us : List Activation) : Type 0 where
    pub chosen : Configuration
    pub live : Live d chosen
    pub waits : W top i chosen (record { store = f.store; here = a; under = us })

  -- WHAT FLATTENING OWES. `L` links a configuration of the original that runs with a flat one, with so much to spare, `W` one that
  -- waits for an import's answer; `G` says that a store's values are in range.
  pub record FlatLaw : Type 0 where
    pub store : (top spare : ℕ) (c f : Configuration) → L top spare c f → f.store ≡ c.store
    pub good : (top spare : ℕ) (c f : Configuration) → L top spare c f → G c.store
    pub waits_store : (top i : ℕ) (d f : Configuration) → W top i d f → f.store ≡ d.store
    pub waits_good : (top i : ℕ) (d f : Configuration) → W top i d f → G d.store
    pub waits_known : (top i : ℕ) (d f : Configuration) → W top i d f → (i < func_imports (base w)) × (i < w.funcs)
    pub small : (s : Store) → G s → length s.memory < 2 ^ 32
    pub reduces : (top spare : ℕ) (c f : Configuration) → L top spare c f → StaysOff w.plan.area (length c.store.memory) (next_ranges c) → FlatNext top spare (step (base w) c) f
    pub answered : (top i : ℕ) (d f : Configuration) (start : Bool) (a : Answer) (v : Option Value) → W top i d f → AnswerFits a → a.said ≡ S.Value v
        → fault_of (func_type_at (base w) i).results (length d.store.memory) w.plan start i a ≡ None
        → FlatOn top (4 + w.tests) (resumed d (poked d.store a.pokes) (option_to_list v)) (resumed f (poked d.store a.pokes) (option_to_list v))
    pub enters : (x : ℕ) (args : List Value) (f : Func) (s : Store) → AreLawful (func_type_at (base w) x).params args → G s → defined_at (base w) x ≡ Some f → FlatEnters x args f s
    pub poked_good : (i : ℕ) (s : Store) (start : Bool) (a : Answer) → G s → AnswerFits a → fault_of (func_type_at (base w) i).results (length s.memory) w.plan start i a ≡ None → G (poked s a.pokes)
    pub numbers : (top i : ℕ) (d f : Configuration) → W top i d f → All (StandsNumbered w.original w.settings w.which) (stack_of (base w) d) → AllNumbered (setting w top) i (f.here ∷ f.under)
    pub stands : (top i : ℕ) (d f : Configuration) (us' : List Activation) (st : Stopped (setting w top) i (f.here ∷ f.under) us') → W top i d f
        → All (StandsNumbered w.original w.settings w.which) (stack_of (base w) d)
        → AllLocalsFit w.written us' → FlatStands top i d f us' st
    pub again : (top i : ℕ) (d f : Configuration) (a : Activation) (us : List Activation) → W top i d f → All (StandsNumbered w.original w.settings w.which) (stack_of (base w) d)
        → AllSameFlat w.lay (f.here ∷ f.under) (a ∷ us) → (us' : List Activation) → Stopped (setting w top) i (a ∷ us) us' → AllLocalsFit w.written us' → FlatAgain top i d f a us
