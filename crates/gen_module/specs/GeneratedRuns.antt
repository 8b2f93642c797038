-- What a generated module does where its import pauses once, and what a rewritten one does then.
use Rattle.std.specs.Prelude.{◌≡◌, ℕ, zero, suc, ◌+◌, ◌-◌, ◌*◌, ◌%◌, ◌≤◌, List, [], ◌∷◌, Some, true, false}
use Rattle.wa_types.specs.declared.values.Value.TheVariants as V
use Rattle.wa_types.specs.Pausing.{Settings, every, save_all}
use Rattle.wa_types.specs.Syntax.{Module}
use Rattle.wa_ops.specs.Integers.{iadd, ixor}
use Rattle.wa_model.specs.declared.answers.Said.TheVariants as S
use Rattle.wa_model.specs.declared.events.End.TheVariants.{Done}
use Rattle.wa_model.specs.Outside.{Answer, Event, called, paused, answered, returned, ended}
use Rattle.wa_model.specs.Plan.{Plan, given}
use Rattle.wa_model.specs.Blocking.{events_of}
use Rattle.wa_model.specs.Protocol.{Protocol}
use Rattle.wa_model.specs.Behaves.{IsPrefix}
use Rattle.wa_model.specs.Rewrites.{Rewrites}
use Rattle.gen_module.specs.Generated.{generated}

-- each import is listed, no call through the table is ignored, and frames save all locals
abbrev pub all_listed : Settings
all_listed = record { choice = every; ignore_indirect = false; policy = save_all }

-- the import is answered by 41, one tick later
abbrev pub wakes : Answer
wakes = record { said = S.Value (Some (V.I32 41)); pokes = []; ticks = 1 }

-- The last function, of index n, is entered with 7. The area is a whole page, and the one import is listed.
abbrev pub run_plan : (n : ℕ) → Plan
run_plan n = record {
  globals = [];
  entries = record { func = n; args = V.I32 7 ∷ [] } ∷ [];
  area = record { at = 0; len = 65536 };
  others = [];
  listed = Some (true ∷ []);
}

-- what a function makes of the value that its call returns, by the remainder of its number by three
abbrev pub value_by : (i remainder value : ℕ) → ℕ
value_by i zero value = value
value_by i (suc zero) value = iadd 32 i value
value_by i (suc (suc k)) value = ixor value i

-- what the function of this number returns
unfoldable pub value_of_func : ℕ → ℕ
value_of_func zero = iadd 32 41 1
value_of_func (suc i) = value_by (suc i) (suc i % 3) (value_of_func i)

-- The import is called and pauses, with so many bytes of the area in use; it is answered, the entry returns this value, and that is all.
abbrev pub pauses_once : (used value : ℕ) → List Event
pauses_once used value =
    called (record { import = 0; args = V.I32 7 ∷ [] }) ∷ paused 1 used ∷ answered wakes.said ∷ returned 0 (Some (V.I32 value)) ∷ ended Done ∷ []

-- Whatever a module of n functions is rewritten as does so: two words and a frame of 16 bytes for each function are in use, and each
-- function has its value. No more than 100,000,000 steps are needed.
abbrev pub GeneratedPausesOnce : Type 0
GeneratedPausesOnce =
    (n : ℕ) (p : Module) (steps : ℕ) → 1 ≤ n → n ≤ 4000 → 100000000 ≤ steps → Rewrites (generated n) all_listed p
    → IsPrefix (pauses_once (8 + 16 * n) (value_of_func (n - 1))) (events_of (Protocol p (run_plan n) (given wakes ∷ []) steps).events)

-- One function makes 42 of the answer, four make 41, and seven 40.
pub record FewFunctionsReturn : Type 0 where
  pub one : value_of_func 0 ≡ 42
  pub four : value_of_func 3 ≡ 41
  pub seven : value_of_func 6 ≡ 40
