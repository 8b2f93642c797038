-- The entries of a LIST.
use Rattle.std.proofs.Common.{ap, subst, sym, ◌∙◌}
use Rattle.wa_types.specs.Pausing.{list_of}
use Rattle.call_graph.specs.Lists.{Blames}
use Rattle.script_model.specs.Command.{listed_choice}
use Rattle.script_command.proofs.modules.listed_choice.Goals as goal

pub want_of_memory-requires : goal.want_of_memory-requires
want_of_memory-requires c = (c.requires.0, subst (Blames c.in-Err.fault) (ap list_of c.as_str.ensures ∙ c.requires.1) c.in-Err.ensures)

pub returns-in-Ok : goal.returns-in-Ok
returns-in-Ok c = ap listed_choice (sym (ap list_of c.as_str.ensures) ∙ c.in-Ok.ensures)
