-- Modules of which no import is bound.
use Rattle.std.proofs.Common.{◌≡◌, ℕ, zero, suc, List, [], ◌∷◌, length, map, None, Option, refl}
use Rattle.std.specs.Prelude.{slice_get}
use Rattle.std.specs.Option.{unwrap_or}
use Rattle.std.proofs.lemmas.List.{length-map}
use Rattle.wa_types.specs.Syntax.{Module}
use Rattle.wa_types.specs.Modules.{func_imports, imported, imported_func}
use Rattle.pause_host.specs.Settings.{none_bound}

pub none_for_each : (p : Module) → length (none_bound p) ≡ func_imports p
none_for_each p = let none : ℕ → Option (List ℕ) = λ sort. None in length-map (imported imported_func p) none

none_there : (none : ℕ → Option (List ℕ)) → ((x : ℕ) → none x ≡ None) → (xs : List ℕ) (i : ℕ) → unwrap_or (slice_get (map none xs) i) None ≡ None
none_there none is [] i = refl
none_there none is (x ∷ xs) zero = is x
none_there none is (x ∷ xs) (suc i) = none_there none is xs i

pub none_at : (p : Module) (i : ℕ) → unwrap_or (slice_get (none_bound p) i) None ≡ None
none_at p i = none_there (λ sort. None) (λ x. refl) (imported imported_func p) i
