-- A pause of a small module, stores that hold it, written by hand, and some that don't.
use Rattle.std.specs.Prelude.{◌<◌, ◌^◌, ℕ, List, [], ◌∷◌, ◌++◌, Some, None, true, false, Bool, replicate, codes}
use Rattle.wa_types.specs.declared.values.ValType.TheVariants.{I32}
use Rattle.wa_types.specs.declared.values.Value.TheVariants as V
use Rattle.wa_types.specs.declared.operators.NumOp.TheVariants.{I32Add}
use Rattle.wa_types.specs.declared.syntax.ImportKind.TheVariants as K
use Rattle.wa_types.specs.declared.syntax.Space.TheVariants as Sp
use Rattle.wa_types.specs.Memory.{page_size}
use Rattle.wa_types.specs.Syntax.{const, num, basic, local_get, call, Code, done, plain, Func, Module}
use Rattle.wa_types.specs.Pausing.{Policy, Settings, every, save_all, save_live}
use Rattle.wa_model.specs.declared.answers.Said.TheVariants as S
use Rattle.wa_model.specs.declared.events.End.TheVariants.{Done}
use Rattle.wa_model.specs.Behaves.{IsPrefix}
use Rattle.wa_model.specs.Blocking.{events_of}
use Rattle.wa_model.specs.Configuration.{running, waiting}
use Rattle.wa_model.specs.Outside.{Answer, answered, ended, returned}
use Rattle.wa_model.specs.Plan.{Entry, Outcome, Plan, given}
use Rattle.wa_model.specs.Store.{Store}
use Rattle.emitted_form.specs.EmittedAs.{EmittedAs}
use Rattle.image_laws.specs.Image.{GoesOnFrom, HoldsPause, Pause, RestBound, held_rest, held_there, stack_there}

-- ---- a run that pauses

-- what stands behind the call, and the call
abbrev pub behind_call : Code
behind_call = plain (basic (num I32Add)) done

abbrev pub at_call : Code
at_call = plain (call 0) behind_call

-- 5 + pause(x + 1), x being the parameter. At the call the lowest of three slots holds 5, the next one the argument, the highest nothing.
abbrev pub adding : Func
adding = record { sort = 0; locals = []; body = plain (basic (const (V.I32 5))) (plain (local_get 0) (plain (basic (const (V.I32 1))) (plain (basic (num I32Add)) at_call))) }

-- the import `env.pause`, and that function, exported as `run`
abbrev pub sample : Module
sample = record {
  types = record { params = I32 ∷ []; results = I32 ∷ [] } ∷ [];
  imports = record { «module» = codes "env"; base = codes "pause"; kind = K.Func 0 } ∷ [];
  funcs = adding ∷ [];
  tables = [];
  memories = [];
  globals = [];
  exports = record { name = codes "run"; space = Sp.Func; index = 1 } ∷ [];
  start = None;
  elems = [];
  segments = [];
  customs = [];
}

abbrev pub saving : Policy → Settings
saving policy = record { choice = every; ignore_indirect = false; policy = policy }

-- the function may pause
abbrev pub may_pause : List Bool
may_pause = false ∷ true ∷ []

abbrev pub called_with_7 : Entry
called_with_7 = record { func = 1; args = V.I32 7 ∷ [] }

-- with 64 bytes from 1024 on as the area
abbrev pub plan_there : Plan
plan_there = record { globals = []; entries = called_with_7 ∷ []; area = record { at = 1024; len = 64 }; others = []; listed = Some (true ∷ []) }

-- the answer is 42, after 5 ticks
abbrev pub answer_42 : Answer
answer_42 = record { said = S.Value (Some (V.I32 42)); pokes = []; ticks = 5 }

abbrev pub outcomes_there : List Outcome
outcomes_there = given answer_42 ∷ []

abbrev pub fresh : Store
fresh = record { globals = []; memory = replicate page_size 0; table = [] }

-- the run waits in the function, with 5 below and 8 as the argument
abbrev pub pause_there : Pause
pause_there = record {
  cost = 6;
  notes = [];
  entry = called_with_7;
  left = record { number = 0; entries = []; outcomes = outcomes_there };
  calls = running fresh 1 [] (V.I32 7 ∷ []) (V.I32 8 ∷ V.I32 5 ∷ []) at_call [];
  own_cost = 1;
  waits = record { store = fresh; here = waiting 1 (V.I32 7 ∷ []) (V.I32 5 ∷ []) (V.I32 8 ∷ []) behind_call []; under = [] };
  import = 0;
  args = V.I32 8 ∷ [];
  answer = answer_42;
  ticks = 5;
  outcomes = [];
}

-- ---- stores

-- one page: this area, and zeros around it
abbrev pub page_of : (area : List ℕ) → List ℕ
page_of area = replicate 1024 0 ++ (area ++ replicate 64448 0)

-- a store with this state and address
abbrev pub store_of : (state address : ℕ) → (area : List ℕ) → Store
store_of state address area = record { globals = V.I32 state ∷ V.I32 address ∷ []; memory = page_of area; table = [] }

-- The location's low byte, 1088 as the end, and a frame of the policy `all`: the parameter, the slots of the operand below and of the
-- argument, the highest slot, and the number of the call; and bytes behind the frame.
abbrev pub area_of : (location parameter below argument free number : ℕ) → List ℕ
area_of location parameter below argument free number =
    location ∷ 4 ∷ 0 ∷ 0 ∷ 0x40 ∷ 4 ∷ 0 ∷ 0 ∷ parameter ∷ 0 ∷ 0 ∷ 0 ∷ below ∷ 0 ∷ 0 ∷ 0 ∷ argument ∷ 0 ∷ 0 ∷ 0 ∷ free ∷ free ∷ free ∷ free ∷ number ∷ 0 ∷ 0 ∷ 0 ∷ replicate 36 free

-- the same with a frame of the policy `live`: the parameter is dead behind the call, and only the slots of operands are kept
abbrev pub live_area_of : (location below argument free number : ℕ) → List ℕ
live_area_of location below argument free number =
    location ∷ 4 ∷ 0 ∷ 0 ∷ 0x40 ∷ 4 ∷ 0 ∷ 0 ∷ below ∷ 0 ∷ 0 ∷ 0 ∷ argument ∷ 0 ∷ 0 ∷ 0 ∷ number ∷ 0 ∷ 0 ∷ 0 ∷ replicate 44 free

-- the area by the policy, with a frame's end of 1052 or 1044
abbrev pub image_with : Policy → (free : ℕ) → List ℕ
image_with save_all free = area_of 0x1c 7 5 8 free 0
image_with save_live free = live_area_of 0x14 5 8 free 0

-- such a store of a module holds the pause
abbrev pub Holds : Policy → Module → Store → Type 0
Holds policy q t = HoldsPause sample q (saving policy) may_pause plan_there pause_there.waits t

-- Whatever stands in the free slot, behind the frame, and in the address global: this store holds the pause.
abbrev pub HandWrittenHolds : Type 0
HandWrittenHolds =
    (policy : Policy) (q : Module) → EmittedAs sample (saving policy) may_pause q → (free address : ℕ) → free < 256 → address < 2 ^ 32
    → Holds policy q (store_of 0 address (image_with policy free))

-- Others don't: a location in front of the frame, another parameter, another operand below, another argument, another number of the call;
-- nor the state of an unwind, or another byte below the area; nor the frame of the other policy.
pub record OthersDont (q : Module) (free address : ℕ) : Type 0 where
  pub location : Holds save_all q (store_of 0 address (area_of 0x08 7 5 8 free 0)) → ⊥
  pub parameter : Holds save_all q (store_of 0 address (area_of 0x1c 6 5 8 free 0)) → ⊥
  pub operand : Holds save_all q (store_of 0 address (area_of 0x1c 7 6 8 free 0)) → ⊥
  pub argument : Holds save_all q (store_of 0 address (area_of 0x1c 7 5 9 free 0)) → ⊥
  pub number : Holds save_all q (store_of 0 address (area_of 0x1c 7 5 8 free 1)) → ⊥
  pub state : Holds save_all q (store_of 1 address (area_of 0x1c 7 5 8 free 0)) → ⊥
  pub below : Holds save_all q (record { globals = V.I32 0 ∷ V.I32 address ∷ []; memory = 1 ∷ replicate 1023 0 ++ (area_of 0x1c 7 5 8 free 0 ++ replicate 64448 0); table = [] }) → ⊥
  pub policy : Holds save_all q (store_of 0 address (image_with save_live free)) → ⊥

abbrev pub HandWrittenDont : Type 0
HandWrittenDont = (q : Module) (free address : ℕ) → OthersDont q free address

-- ---- what comes back

-- From such a store q does what the original does from the answer on, for any cost: the answer is given, 47 is returned, and that is all.
pub record ComesBack (policy : Policy) (q : Module) (t : Store) : Type 0 where
  pub goes_on : (n : ℕ) → GoesOnFrom sample (saving policy) q plan_there may_pause n pause_there t
  pub events : IsPrefix (answered (S.Value (Some (V.I32 42))) ∷ returned 0 (Some (V.I32 47)) ∷ ended Done ∷ [])
      (events_of (held_rest q plan_there (held_there q plan_there pause_there t) (RestBound sample 2 (stack_there sample pause_there) [])).events)

-- Whatever is emitted of the module, by either policy, comes back from the store that is written by hand.
abbrev pub HandWrittenComesBack : Type 0
HandWrittenComesBack =
    (policy : Policy) (q : Module) → EmittedAs sample (saving policy) may_pause q → (free address : ℕ) → free < 256 → address < 2 ^ 32
    → ComesBack policy q (store_of 0 address (image_with policy free))
