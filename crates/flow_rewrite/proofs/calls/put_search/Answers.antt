use Rattle.wa_types.specs.View.{code}
use Rattle.flow_rewrite.specs.Begun.{lead_of}
use Rattle.flow_rewrite.specs.Emitting.{indices}
use Rattle.flow_rewrite.proofs.PieceLemmas.{search_of, test_of}
use Rattle.flow_rewrite.proofs.calls.put_search.Goals as goal

pub returns : goal.returns
returns c =
    let i = indices c.args.guards.now in
    let lead = lead_of c.args.lead in
    search_of i lead c.args.search.label c.args.search.by c.args.search.number (code c.args.piece.now) _ _ _ _
    (test_of i lead c.args.search.number c.args.search.label _ _ _ c.lead_or_none-other.ensures c.in_ok-put_index.ensures c.in_ok-push.ensures.items) c.in_ok-inside.ensures c.in_ok-put_test.ensures
