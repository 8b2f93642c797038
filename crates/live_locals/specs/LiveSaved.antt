-- What the calls of a flat function keep, beside what frames save.
use Rattle.std.specs.Prelude.{◌≡◌, ◌↔◌, ◌<◌, ℕ, length, Some, Bool, true}
use Rattle.wa_types.specs.Syntax.{Func, Module}
use Rattle.wa_types.specs.Pausing.{calls_in, save_live}
use Rattle.wa_types.specs.Frames.{named_places, Saved}
use Rattle.wa_types.specs.Modules.{defined_at}
use Rattle.wa_types.specs.Validity.{Valid}
use Rattle.flat_laws.specs.Flatten.{flattened}
use Rattle.live_locals.specs.LiveAt.{KeepsAt}

-- Where a test tells exactly the locals that a call of the flat function keeps, those that pass are the saved locals of that call
-- of the original under the policy `live`, each with its type, in their order.
abbrev pub LiveIsSaved : Type 0
LiveIsSaved =
    (m : Module) (x : ℕ) (f : Func) (place : ℕ) (keep : ℕ → Bool) → Valid m → defined_at m x ≡ Some f → place < length (calls_in f)
    → ((y : ℕ) → y < length (flattened m x f).locals → (keep y ≡ true) ↔ KeepsAt (flattened m x f) place y)
    → named_places keep 0 (flattened m x f).locals ≡ Saved m save_live f place
