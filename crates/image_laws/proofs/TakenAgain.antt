-- Both sides of a stack that waits took the same operands.
use Rattle.std.proofs.Common.{List, ap, sym, ℕ, ◌∙◌, ◌∷◌, ◌≡◌}
use Rattle.wa_model.specs.Configuration.{Activation}
use Rattle.guard_runs.specs.Alike.{Setting}
use Rattle.guard_runs.specs.Stopped.{Stopped, above, host}

first_is : (a b : Activation) (us vs : List Activation) → a ∷ us ≡ b ∷ vs → a ≡ b
first_is a b us vs e = cc

pub stopped_taken : (v : Setting) (g : ℕ) (us us' : List Activation) → Stopped v g us us' → (a b : Activation) (vs vs' : List Activation) → us ≡ a ∷ vs → us' ≡ b ∷ vs' → b.taken ≡ a.taken
stopped_taken v g _ _ (host e) a b vs vs' q q' = cc
stopped_taken v g _ _ (above {under = under} {under' = under'} fn here is ls extra ops taken both h pl gt deep rest) a b vs vs' q q' =
    ap (λ (x : Activation). x.taken) (sym (first_is _ b under' vs' q')) ∙ ap (λ (x : Activation). x.taken) (first_is _ a under vs q)
