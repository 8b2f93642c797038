-- What was opened is staged, and played.
use Rattle.std.proofs.Common.{List, refl, sym, subst}
use Rattle.std.specs.List.{AllZip}
use Rattle.wa_types.specs.declared.syntax.Module.{Module}
use Rattle.world_hosting.specs.Views.{IsStaged}
use Rattle.script_command.specs.Views.{CanStage, parts_of}
use Rattle.script_command.proofs.StagedParts.{few_made, made_parts}
use Rattle.script_command.specs.SnapshotCalls.{saves}
use Rattle.script_command.proofs.Steps.{nothing_told, saved_out}
use Rattle.script_command.proofs.Unbinding.{unbound_programs}
use Rattle.script_command.proofs.saving.play_to.Goals as goal

pub stage_all-requires : goal.stage_all-requires
stage_all-requires g c = subst (λ (ms : List Module). AllZip CanStage ms c.args.opened.programs.planned.items) (sym c.deref.ensures.value) c.requires.plays.each

pub play_staged-requires-clause-few : goal.play_staged-requires-clause-few
play_staged-requires-clause-few g c = few_made CanStage IsStaged _ c.args.opened.programs.planned.items _ c.requires.plays.few c.in-Ok.ensures

pub play_staged-requires-clause-staged : goal.play_staged-requires-clause-staged
play_staged-requires-clause-staged g c = (parts_of c.deref.result.now c.args.opened.programs.planned.items, c.in-Ok.ensures)

pub returns-in-Ok-clause-played : goal.returns-in-Ok-clause-played
returns-in-Ok-clause-played g c = λ files name opens.
    saved_out c.play_staged.result opens.play.run.parts _ _ opens.detaches_are c.args.most _ _ _ _
    (c.play_staged.ensures.played opens.play.run.parts
    (made_parts CanStage IsStaged c.args.opened.programs.planned.items c.deref.result.now c.args.opened.programs.modules.items opens.play.run.parts _ opens.parts_are c.deref.ensures.value c.in-Ok.ensures)
    (unbound_programs files name opens.play))

pub returns-in-Ok-clause-part : goal.returns-in-Ok-clause-part
returns-in-Ok-clause-part g c = λ files name snap f f' s s' opens.
    c.play_staged.ensures.part files name snap f f' s s' opens.play
    (made_parts CanStage IsStaged c.args.opened.programs.planned.items c.deref.result.now c.args.opened.programs.modules.items opens.play.run.parts _ opens.parts_are c.deref.ensures.value c.in-Ok.ensures)
    opens.detaches_are

pub returns-in-Err-clause-part : goal.returns-in-Err-clause-part
returns-in-Err-clause-part g c = λ files name snap f f' s s' opens. nothing_told (saves c.args.most) name snap files files f f' s s' _ _ _ refl
