use Rattle.std.proofs.Common.{◌++◌, map-id, ap, sym, subst, ◌∙◌}
use Rattle.std.specs.Array.Iter.{array_into_iter_items, array_steps}
use Rattle.std.proofs.lemmas.Iterator.{YieldsList}
use Rattle.std.proofs.lemmas.Iterator.Adapters.{fact_from_extend}
use Rattle.std.proofs.lemmas.Iterator.Consumers.{YieldsList-from_shown}
use Rattle.local_spill.proofs.PutLemmas.{put_these}
use Rattle.local_spill.proofs.putting.put_all.Goals as goal

pub returns : goal.returns
returns g c =
    fact_from_extend (λ x. x) c.extend.result c.extend.ensures.ran
    (λ it b. subst (YieldsList array_steps (λ x. x) it) b.0 (YieldsList-from_shown array_steps (λ x. x) array_into_iter_items (λ u t p. p.0) (λ u x t p. p) it))
    (λ xs e h. put_these c.args.out.now.items _ c.args.instrs (h.0 ∙ ap (λ ys. c.args.out.now.items ++ ys) (sym (map-id xs) ∙ e)))
