-- What is opened of a script with strands is staged, and told.
use Rattle.std.proofs.Common.{◌∙◌, List, map, refl, sym, subst}
use Rattle.std.specs.List.{AllZip}
use Rattle.wa_types.specs.declared.syntax.Module.{Module}
use Rattle.script_command.specs.Ends.{call}
use Rattle.script_command.specs.StrandTold.{named_strands}
use Rattle.script_command.specs.Views.{CanOpen, parts_of}
use Rattle.script_command.proofs.Ending.{out_of_memory_alone}
use Rattle.script_command.proofs.StagedParts.{few_made, made_parts}
use Rattle.script_command.proofs.StagedStrandParts.{IsStagedPart, parts_staged, staged_parts}
use Rattle.script_command.proofs.strand_playing.play_strands.Goals as goal

pub stage_all_strands-requires : goal.stage_all_strands-requires
stage_all_strands-requires g c = subst (λ (ms : List Module). AllZip CanOpen ms c.args.opened.programs.planned.items) (sym c.deref.ensures.value) c.requires.ready.each

pub tell_strands-requires-clause-few : goal.tell_strands-requires-clause-few
tell_strands-requires-clause-few g c = few_made CanOpen IsStagedPart _ c.args.opened.programs.planned.items _ c.requires.ready.few (staged_parts _ _ c.in-Ok.ensures)

pub tell_strands-requires-clause-staged : goal.tell_strands-requires-clause-staged
tell_strands-requires-clause-staged g c = (map named_strands (parts_of c.deref.result.now c.args.opened.programs.planned.items), c.in-Ok.ensures)

pub returns-in-Ok-clause-end : goal.returns-in-Ok-clause-end
returns-in-Ok-clause-end g c = λ way files name f f' opens.
    c.tell_strands.ensures.end way files name f f' c.requires.some.0 opens.play
    (parts_staged opens.play.parts _
    (made_parts CanOpen IsStagedPart c.args.opened.programs.planned.items c.deref.result.now c.args.opened.programs.modules.items opens.play.parts _ opens.parts_are c.deref.ensures.value
    (staged_parts _ _ c.in-Ok.ensures)))
    opens.detaches_are (opens.strand_is ∙ c.requires.some.1)

pub returns-in-Err-clause-end : goal.returns-in-Err-clause-end
returns-in-Err-clause-end g c = λ way files name f f' opens.
    out_of_memory_alone (call way name files f f' _ _ _ _ _ _) c.out_of_memory.result refl c.out_of_memory.ensures.status c.out_of_memory.ensures.printed
