-- The run of a generated module, rewritten: a call, a pause, its answer, a return, and the end.
use Rattle.std.specs.Prelude.{◌≡◌, ℕ, ◌+◌, ◌-◌, ◌*◌, List, [], ◌∷◌, codes}
use Rattle.wa_types.specs.Syntax.{Module}
use Rattle.wa_model.specs.Outside.{AnswerLine}
use Rattle.wa_model.specs.Blocking.{Note, events_of}
use Rattle.wa_model.specs.Rewrites.{Rewrites}
use Rattle.world_model.specs.World as W
use Rattle.world_model.specs.World.{at_start}
use Rattle.host_laws.specs.Stories.{IsStory}
use Rattle.gen_module.specs.Generated.{generated}
use Rattle.gen_module.specs.GeneratedRuns.{all_listed, pauses_once, run_plan, value_of_func, wakes}

-- `env.sleep` is answered by 41, one tick later
abbrev pub sleep_answer : AnswerLine
sleep_answer = record { import = codes "env.sleep"; answer = wakes }

-- The program over a module whose last function, of index n, is exported as `run`: that is entered with 7. The area is a whole
-- page, the one import is listed, one answer is given, and there are 100,000,000 steps.
abbrev pub run_program : (n : ℕ) → Module → W.Program
run_program n p = record { source = p; plan = run_plan n; steps = 100000000; answers = sleep_answer ∷ []; binds = []; looks = []; origin = at_start }

-- The program's story has one pause, with so many bytes of the area used, and one return, of this value; then it is done.
pub record PausesOnce (w : W.Program) (used value : ℕ) : Type 0 where
  pub notes : List Note
  pub story : IsStory w notes
  pub events : events_of notes ≡ pauses_once used value

-- It is the program of the generated module of n functions, rewritten. Two words and a frame of 16 bytes for each function are used, and
-- the value is that of the last function.
pub record PlaysGenerated (n used value : ℕ) : Type 0 where
  pub rewritten : Module
  pub rewrites : Rewrites (generated n) all_listed rewritten
  pub run : PausesOnce (run_program n rewritten) used value
  pub used_is : used ≡ 8 + 16 * n
  pub value_is : value ≡ value_of_func (n - 1)
