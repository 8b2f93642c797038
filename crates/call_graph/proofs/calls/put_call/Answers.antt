use Rattle.std.proofs.Common.{ap, map, ◌∙◌, [], ◌∷◌}
use Rattle.std.proofs.lemmas.List.{map-append}
use Rattle.call_graph.specs.Calls.{callee_of}
use Rattle.call_graph.proofs.calls.put_call.Goals as goal

pub returns : goal.returns
returns c = ap (map callee_of) c.in_ok-push.ensures.items ∙ map-append callee_of c.args.out.now.items (c.args.call ∷ [])
