use Rattle.std.proofs.Common.{arith, ap, length, List, ◌++◌, map, ◌≡◌}
use Rattle.std.proofs.lemmas.List.{length-append, length-map}
use Rattle.transcript.specs.declared.events.Names.{Names}
use Rattle.world_hosting.specs.declared.staging.Staged.{Staged}
use Rattle.world_hosting.proofs.parting.part_programs.Goals as goal

pub put_parts-requires : goal.put_parts-requires
put_parts-requires c =
    let names : List Names = map (λ (s : Staged). s.names) c.loop-one.one-iterator.rest.items in
    let whole : length (c.loop-one.names.items ++ names) ≡ length (map (λ (s : Staged). s.names) c.args.staged.items) = ap length c.loop-one.invariant.names in
    omega (arith, whole, length-append c.loop-one.names.items names, length-map c.args.staged.items (λ (s : Staged). s.names), c.requires)
