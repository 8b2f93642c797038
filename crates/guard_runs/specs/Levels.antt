-- Activations that wait at numbered calls of guarded functions, as levels of a stack with frames.
use Rattle.std.specs.Prelude.{◌≡◌, ℕ, suc, ◌+◌, ◌^◌, ◌<◌, List, [], ◌∷◌, ◌++◌, length, map, Option, Some}
use Rattle.wa_types.specs.Modules.{defined_at}
use Rattle.wa_types.specs.Sizes.{value_fits}
use Rattle.wa_types.specs.Syntax.{Code, Func}
use Rattle.wa_types.specs.Typing.{type_of}
use Rattle.wa_types.specs.declared.values.Value.{Value}
use Rattle.wa_model.specs.Configuration.{Activation, waiting}
use Rattle.run_theory.specs.Flat.{followed_by, set_to}
use Rattle.wa_model.specs.Store.{value_at}
use Rattle.wa_model.specs.declared.answers.Area.{Area}
use Rattle.frame_laws.specs.Layout.{FrameField, kept, gap}
use Rattle.frame_laws.specs.Stack.{Level, activation_of, slot_values, AllKept, AllFit, Chain}
use Rattle.guard_form.specs.Bounds.{passing}
use Rattle.guard_form.specs.Functions.{ArmsHold, GuardedFunc}
use Rattle.guard_form.specs.Pieces.{Units, flat_units}
use Rattle.guard_form.specs.Places.{Enclosing, flat_labels}
use Rattle.guard_runs.specs.Joined.{CallFrame, written_of, site_of, Uses}
use Rattle.guard_runs.specs.Alike.{Setting, Paired}
use Rattle.guard_runs.specs.Rewinding.{NoneBelow}
use Rattle.guard_runs.specs.Stopped.{host, above, Stopped}

-- a flat activation that waits at a numbered call
abbrev pub flat_waiting : (fn : ℕ) (f : GuardedFunc) (to : Option ℕ) (behind : Code) (rest : Units) (xs : List Enclosing) (ls ops taken : List Value) → Activation
flat_waiting fn f to behind rest xs ls ops taken = waiting fn ls ops taken (set_to to (followed_by behind (flat_units rest))) (flat_labels f xs)

-- such activations as levels, each with the frame of its call
abbrev pub levels_of : (v : Setting) (lay : Activation → CallFrame) {g : ℕ} {us us' : List Activation} → Stopped v g us us' → List Level
levels_of v lay (host e) = []
levels_of v lay (above {f = f} {k = k} {slots = slots} {x = x} {to = to} {behind = behind} {rest = rest} {xs = xs} fn here is ls extra ops taken both h pl gt deep under) =
    (record {
      func = fn;
      fn = written_of v.globals f (lay (flat_waiting fn f to behind rest xs ls ops taken));
      site = site_of v.globals f k h slots x to behind rest xs;
      locals = ls ++ extra;
      ops = ops;
      taken = taken;
      out = 4;
      seek = passing f.first f.body + 3;
    })
    ∷ levels_of v lay under

-- the kept locals are flat ones, of their types and in range
abbrev pub FlatFieldsFit : List Value → List FrameField → Type 0
FlatFieldsFit ls [] = Unit {0}
FlatFieldsFit ls (kept x t ∷ ps) = (x < length ls) × (type_of (value_at ls x) ≡ t) × value_fits (value_at ls x) × FlatFieldsFit ls ps
FlatFieldsFit ls (gap t ∷ ps) = FlatFieldsFit ls ps

-- What is asked of each of them: its function is defined and uses its frame, its constructs have no operands below, its kept
-- locals can be saved, and the call took what its slots hold, which are saved.
abbrev pub MayStand : (v : Setting) (lay : Activation → CallFrame) {g : ℕ} {us us' : List Activation} → Stopped v g us us' → Type 0
MayStand v lay (host e) = Unit {0}
MayStand v lay (above {f = f} {k = k} {slots = slots} {to = to} {behind = behind} {rest = rest} {xs = xs} fn here is ls extra ops taken both h pl gt deep under) =
    let l = lay (flat_waiting fn f to behind rest xs ls ops taken) in
    ((func : Func) × (defined_at v.written fn ≡ Some func)) × Uses v.globals f k l × (l.layout.address ≡ suc v.globals) × (l.layout.scratch ≡ suc f.size) × NoneBelow xs
    × ArmsHold f.body × FlatFieldsFit ls l.layout.fields × (k < 2 ^ 32) × AllKept slots l.layout.fields
    × (taken ≡ slot_values ls slots []) × MayStand v lay under

-- each level's call enters the next one inwards
abbrev pub ChainOf : (v : Setting) → List Level → Type 0
ChainOf v [] = Unit {0}
ChainOf v (w ∷ ws) = Chain v.written v.globals v.table w ws

-- They are such levels.
pub record AreLevels (g : ℕ) (area : Area) (v : Setting) (us' : List Activation) (ws : List Level) : Type 0 where
  pub acts : us' ≡ map activation_of ws
  pub fit : AllFit g area v.written v.globals (suc v.globals) ws
  pub chain : ChainOf v ws

-- So it is of each stack that has stopped.
abbrev pub StoppedAreLevels : Type 0
StoppedAreLevels =
    (g : ℕ) (area : Area) (v : Setting) (lay : Activation → CallFrame) (callee : ℕ) (us us' : List Activation) (d : Stopped v callee us us') → Paired v → MayStand v lay d
    → AreLevels g area v us' (levels_of v lay d)
