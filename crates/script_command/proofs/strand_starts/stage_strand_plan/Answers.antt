use Rattle.std.proofs.Common.{refl, ◌∙◌, map, sym}
use Rattle.std.proofs.lemmas.List.{length-map}
use Rattle.transcript.specs.Printing.{names_of}
use Rattle.script_command.specs.StrandStages.{range_look}
use Rattle.script_command.proofs.PlansOfStrands.{as_many_strands, strands_start}
use Rattle.script_command.proofs.strand_starts.stage_strand_plan.Goals as goal

pub returns-in-Ok : goal.returns-in-Ok
returns-in-Ok c = λ funcs binds all bound. record {
  follows = strands_start c.args.plan c.in-Ok.program c.in-Ok.ensures funcs (map range_look c.args.shows.items) binds all bound;
  named = length-map c.args.names.items names_of ∙ c.requires.named ∙ sym (as_many_strands c.args.plan funcs all);
  names = refl;
  shows = refl;
}

pub want_of_memory-requires : goal.want_of_memory-requires
want_of_memory-requires c = (c.args.plan, c.requires.sets_up, c.in-Err.ensures)
