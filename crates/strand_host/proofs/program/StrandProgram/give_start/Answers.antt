use Rattle.std.proofs.Common.{◌-◌, true, arith}
use Rattle.interp.specs.Host.{code_in, store_in, waits_in}
use Rattle.pause_host.specs.Views.{left_of}
use Rattle.pause_host.specs.declared.stages.Stage.TheVariants as Stage
use Rattle.pause_host.specs.declared.stages.Task.TheVariants as T
use Rattle.pause_host.proofs.Hosting.{given_waits}
use Rattle.strand_host.specs.StrandPrograms.{set_to, stock_of}
use Rattle.strand_host.proofs.GoingOn.{hosts}
use Rattle.strand_host.proofs.StartTurns.{given_ran}
use Rattle.strand_host.proofs.program.StrandProgram.give_start.Goals as goal

pub resume-requires-clause-waits : goal.resume-requires-clause-waits
resume-requires-clause-waits g c =
    let h = c.requires.goes in
    let x = stock_of c.args.self.now in
    let s = c.args.strand in
    given_waits (set_to x.setting s.area) (code_in c.args.instance) (left_of s.left) (store_in c.args.instance) (waits_in c.args.instance) T.Start c.args.value
    (hosts h.0 h.1 x c.args.instance 0 (record s { stage = Stage.Giving T.Start c.args.value }) true h.2)

pub start_ran-requires-clause-goes : goal.start_ran-requires-clause-goes
start_ran-requires-clause-goes g c =
    let h = c.requires.goes in
    let used = c.resume.new.steps.used - c.unused-steps.result.used in (
      h.0,
      h.1,
      given_ran h.0 h.1 (stock_of c.args.self.now) c.args.instance c.args.strand c.args.value h.2 c.requires.free c.resume.new.self c.in_ok-turn.turn c.unused-steps.result.left used
          c.resume.new.steps.left c.unused-steps.ensures.left
          (omega (arith, c.resume.ensures.sum, c.resume.ensures.grows)) c.resume.ensures.code c.in_ok-turn.ensures.resumes c.in_ok-turn.ensures.again,
    )

pub returns-clause-next : goal.returns-clause-next
returns-clause-next g c = λ gw t at.
    let used = c.resume.new.steps.used - c.unused-steps.result.used in
    c.start_ran.ensures.next gw t
    (given_ran gw t (stock_of c.args.self.now) c.args.instance c.args.strand c.args.value at c.requires.free c.resume.new.self c.in_ok-turn.turn c.unused-steps.result.left used
    c.resume.new.steps.left c.unused-steps.ensures.left
    (omega (arith, c.resume.ensures.sum, c.resume.ensures.grows)) c.resume.ensures.code c.in_ok-turn.ensures.resumes c.in_ok-turn.ensures.again)
