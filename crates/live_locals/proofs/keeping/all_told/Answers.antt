use Rattle.std.proofs.Common.{◌++◌, ◌∷◌, ◌∙◌, [], ap, sym}
use Rattle.std.proofs.lemmas.List.{append-nil, append_assoc}
use Rattle.call_frames.proofs.GroupSteps.{nothing_left}
use Rattle.live_locals.proofs.keeping.all_told.Goals as goal

pub loop-later-preserved : goal.loop-later-preserved
loop-later-preserved c =
    let rest = c.next.new.self.rest.items in
    let old = c.loop-later.all.items in
    ap (λ ys. ys ++ rest) c.in_ok-push.ensures.items ∙ append_assoc old (_ ∷ []) rest ∙ ap (λ x. old ++ (x ∷ rest)) c.all.ensures
    ∙ ap (λ ys. old ++ ys) (sym c.in-Some.ensures.steps.0) ∙ c.loop-later.invariant

pub returns : goal.returns
returns c =
    let none = nothing_left c.loop-later.later-iterator.rest.items (sym c.loop-later.later-iterator.rest.ok.0 ∙ c.in-None.ensures.steps.0) in
    sym (append-nil c.loop-later.all.items) ∙ ap (λ ys. c.loop-later.all.items ++ ys) (sym none) ∙ c.loop-later.invariant
