use Rattle.std.proofs.Common.{◌≡◌, suc, sym, ap, ◌∙◌}
use Rattle.wa_model.specs.Step.{steps}
use Rattle.run_theory.proofs.determined_runs.one_next_configuration.Goals as goal

pub returns : goal.returns
returns c = λ m c0 d e j k a b.
    let same : steps a.0 d ≡ steps b.0 e = sym a.1 ∙ b.1 in
    let same_cost : a.0 ≡ b.0 = cc in
    let same_next : d ≡ e = cc in
    (same_next, a.2 ∙ ap suc same_cost ∙ sym b.2)
