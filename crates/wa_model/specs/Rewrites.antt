-- What a rewritten module is: the original with the runtime's parts, its functions that may pause rewritten, and the original's behaviour: with
-- pauses over an area that it doesn't touch, without pauses under any.
use Rattle.std.specs.Prelude.{◌≡◌, ℕ, ◌+◌, ◌*◌, ◌≤◌, List, length, drop, Some, Bool, slice_get}
use Rattle.std.specs.List.{sum_by}
use Rattle.wa_types.specs.Encoding.{merged}
use Rattle.wa_types.specs.Syntax.{Code, done, plain, nest, branch, Func, Module}
use Rattle.wa_types.specs.Modules.{func_imports, locals_of}
use Rattle.wa_types.specs.Validity.{Valid}
use Rattle.wa_types.specs.Sizes.{label_count}
use Rattle.wa_types.specs.Norm.{Norm}
use Rattle.wa_types.specs.Counts.{depth_of}
use Rattle.wa_types.specs.Pruned.{pruned}
use Rattle.wa_types.specs.Runtime.{with_runtime}
use Rattle.wa_types.specs.Pausing.{Policy, save_all, save_live, Settings, MayPause, TellsMayPause, Numbered}
use Rattle.wa_types.specs.Frames.{Count, Saved}
use Rattle.wa_types.specs.Bounds.{Weight}
use Rattle.wa_model.specs.Behaves.{Behaves, BehavesUnpaused}

-- the instructions of code, and the labels of its branch tables
unfoldable pub instructions_and_labels : Code → ℕ
instructions_and_labels done = 0
instructions_and_labels (plain p rest) = 1 + label_count p + instructions_and_labels rest
instructions_and_labels (nest s r body rest) = 1 + instructions_and_labels body + instructions_and_labels rest
instructions_and_labels (branch r a b rest) = 1 + instructions_and_labels a + instructions_and_labels b + instructions_and_labels rest

-- what the frames of these calls may add to a function's size
abbrev pub frames_size : Module → Policy → Func → List ℕ → ℕ
frames_size m save_all f places = 0
frames_size m save_live f places = 64 * sum_by (λ place. length (Saved m save_live f place)) places

-- A function that can't pause stays: its type, its runs of locals but for how they are cut, its body, all code included.
pub record SameFunc (f g : Func) : Type 0 where
  pub sort : g.sort ≡ f.sort
  pub locals : merged g.locals ≡ merged f.locals
  pub body : g.body ≡ f.body

-- A function that may pause keeps its type, and has bounds on its locals, nesting and size by those of its pruned body.
pub record RewrittenFunc (m : Module) (s : Settings) (p : Module) (which : List Bool) (f g : Func) : Type 0 where
  pub sort : g.sort ≡ f.sort
  pub locals : length (locals_of p g) ≡ Count m f
  pub nesting : depth_of g.body ≤ 3 * depth_of (pruned f.body) + 8
  pub size : instructions_and_labels g.body ≤ 128 * (Weight m f + 4) + frames_size m s.policy f (Numbered m s which f)

-- p is the module m rewritten under the settings s, but for its runs. `Stays` relates a function that can't pause to what became of it.
pub record RewritesButRuns (Stays : Func → Func → Type 0) (m : Module) (s : Settings) (p : Module) : Type 0 where
  pub valid : Valid m
  pub valid_rewritten : Valid p
  -- the runtime's parts stand behind the original's, which stay
  pub types : p.types ≡ (with_runtime m).types
  pub imports : p.imports ≡ m.imports
  pub tables : p.tables ≡ m.tables
  pub memories : p.memories ≡ (with_runtime m).memories
  pub globals : p.globals ≡ (with_runtime m).globals
  pub exports : p.exports ≡ (with_runtime m).exports
  pub start : p.start ≡ m.start
  pub elems : p.elems ≡ m.elems
  pub segments : p.segments ≡ m.segments
  -- custom sections stand behind the same written sections
  pub customs : (Norm p).customs ≡ (Norm (record p { customs = m.customs })).customs
  pub runtime : drop (length m.funcs) p.funcs ≡ drop (length m.funcs) (with_runtime m).funcs
  -- functions, by their number among the defined ones
  pub unchanged : (i : ℕ) (f g : Func) → slice_get m.funcs i ≡ Some f → slice_get p.funcs i ≡ Some g → ¬ MayPause m s (func_imports m + i) → Stays f g
  pub rewritten : (i : ℕ) (f g : Func) (which : List Bool) → slice_get m.funcs i ≡ Some f → slice_get p.funcs i ≡ Some g → TellsMayPause m s which → MayPause m s (func_imports m + i)
      → RewrittenFunc m s p which f g

-- p is the module m rewritten under the settings s: `Stays` relates a function that can't pause to what became of it, and `Runs` says what runs of p owe
-- those of m. Where nothing pauses they are those of m, under any area.
pub record RewritesBy (Stays : Func → Func → Type 0) (Runs : Type 0) (m : Module) (s : Settings) (p : Module) : Type 0 where
  pub parts : RewritesButRuns Stays m s p
  pub behaves : Runs
  pub unpaused : BehavesUnpaused m p

-- without asserts: a function that can't pause stays
abbrev pub Rewrites : Module → Settings → Module → Type 0
Rewrites m s p = RewritesBy SameFunc (Behaves m s p) m s p
