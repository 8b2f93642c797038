-- What is opened of a script without strands is staged, and told.
use Rattle.std.proofs.Common.{◌∙◌, List, refl, sym, subst}
use Rattle.std.specs.List.{AllZip}
use Rattle.wa_types.specs.declared.syntax.Module.{Module}
use Rattle.world_hosting.specs.Views.{IsStaged}
use Rattle.script_command.specs.Views.{CanStage, parts_of}
use Rattle.script_command.specs.Ends.{call}
use Rattle.script_command.proofs.Ending.{out_of_memory_alone}
use Rattle.script_command.proofs.StagedParts.{few_made, made_parts}
use Rattle.script_command.proofs.playing.play_plainly.Goals as goal

pub stage_all-requires : goal.stage_all-requires
stage_all-requires g c = subst (λ (ms : List Module). AllZip CanStage ms c.args.opened.programs.planned.items) (sym c.deref.ensures.value) c.requires.plays.each

pub tell_by_mail-requires-clause-few : goal.tell_by_mail-requires-clause-few
tell_by_mail-requires-clause-few g c = few_made CanStage IsStaged _ c.args.opened.programs.planned.items _ c.requires.plays.few c.in-Ok.ensures

pub returns-in-Ok-clause-end : goal.returns-in-Ok-clause-end
returns-in-Ok-clause-end g c = λ way files name f f' opens.
    c.tell_by_mail.ensures.end way files name f f' opens.play
    (made_parts CanStage IsStaged c.args.opened.programs.planned.items c.deref.result.now c.args.opened.programs.modules.items opens.play.parts _ opens.parts_are c.deref.ensures.value c.in-Ok.ensures)
    opens.detaches_are (opens.strand_is ∙ c.requires.none) opens.mailboxes_are

pub returns-in-Err-clause-end : goal.returns-in-Err-clause-end
returns-in-Err-clause-end g c = λ way files name f f' opens.
    out_of_memory_alone (call way name files f f' _ _ _ _ _ _) c.out_of_memory.result refl c.out_of_memory.ensures.status c.out_of_memory.ensures.printed

pub tell_by_mail-requires-clause-staged : goal.tell_by_mail-requires-clause-staged
tell_by_mail-requires-clause-staged g c = (parts_of c.deref.result.now c.args.opened.programs.planned.items, c.in-Ok.ensures)
