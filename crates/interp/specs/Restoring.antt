-- Which bytes may be put back as the memory of an instance.
use Rattle.std.specs.Prelude.{◌≡◌, ℕ, ◌≤◌, ◌%◌, List, [], length}
use Rattle.wa_types.specs.Memory.{page_bound, page_size, pages_of}
use Rattle.wa_types.specs.Modules.{all_memories}
use Rattle.wa_types.specs.Syntax.{Module}
use Rattle.wa_model.specs.Instantiation.{least_of}
use Rattle.wa_model.specs.Step.{memory_max}

-- so many pages are at least the declared minimum, and at most the bound of `memory.grow`
pub record PagesFit (m : Module) (pages : ℕ) : Type 0 where
  pub least : least_of (all_memories m) ≤ pages
  pub most : pages ≤ page_bound (memory_max m)

-- The bytes can be the memory of an instance of the module: whole pages, in such a number; none where the module has no memory.
pub record IsRestorable (m : Module) (memory : List ℕ) : Type 0 where
  pub whole : length memory % page_size ≡ 0
  pub pages : PagesFit m (pages_of memory)
  pub none : all_memories m ≡ [] → memory ≡ []
