-- What the bytes of a module spell is rewritten with asserts where the module is.
use Rattle.std.proofs.Common.{◌∙◌, ℕ}
use Rattle.wa_types.specs.Norm.{Norm}
use Rattle.wa_types.specs.Pausing.{Settings}
use Rattle.wa_types.specs.Runtime.{global_space}
use Rattle.wa_types.specs.Syntax.{Func, Module}
use Rattle.wa_model.specs.Blocking.{Blocking}
use Rattle.norm_laws.proofs.Locals.{merged_once}
use Rattle.norm_laws.proofs.Norms.{behaves_on, merged_func, norm_rewritten_by}
use Rattle.guard_form.specs.Asserts.{Asserted}
use Rattle.guard_form.specs.AssertedRuns.{BehavesWithAsserts, ExpectedWithAsserts, RewritesWithAsserts}

asserted_merged : (st : ℕ) (f g : Func) → Asserted st f g → Asserted st f (merged_func g)
asserted_merged st f g h = record { sort = h.sort; locals = merged_once g.locals ∙ h.locals; body = h.body }

pub norm_rewritten_with : (m : Module) (s : Settings) (p : Module) → RewritesWithAsserts m s p → RewritesWithAsserts m s (Norm p)
norm_rewritten_with m s p =
    norm_rewritten_by (Asserted (global_space m)) (asserted_merged (global_space m)) (BehavesWithAsserts m s p) (BehavesWithAsserts m s (Norm p)) (λ behaves w which tells plan os n compared.
    behaves_on m s p plan os n which (ExpectedWithAsserts m s which plan.area (Blocking m plan os n).events) (behaves w which tells plan os n compared)) m s p
