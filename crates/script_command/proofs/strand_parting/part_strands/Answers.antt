use Rattle.std.proofs.Common.{arith, ap, length, List, ◌++◌, map, ◌≡◌}
use Rattle.std.proofs.lemmas.List.{length-append, length-map}
use Rattle.std.specs.Global.{Vec}
use Rattle.transcript.specs.declared.events.Names.{Names}
use Rattle.script_command.specs.declared.strand_starts.StagedStrands.{StagedStrands}
use Rattle.script_command.proofs.strand_parting.part_strands.Goals as goal

pub put_strand_parts-requires : goal.put_strand_parts-requires
put_strand_parts-requires c =
    let names : List (Vec Names) = map (λ (s : StagedStrands). s.names) c.loop-one.one-iterator.rest.items in
    let whole : length (c.loop-one.names.items ++ names) ≡ length (map (λ (s : StagedStrands). s.names) c.args.staged.items) = ap length c.loop-one.invariant.names in
    omega (arith, whole, length-append c.loop-one.names.items names, length-map c.args.staged.items (λ (s : StagedStrands). s.names), c.requires)
