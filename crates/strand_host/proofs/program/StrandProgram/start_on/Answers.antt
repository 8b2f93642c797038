use Rattle.std.proofs.Common.{refl}
use Rattle.pause_host.specs.declared.stages.Stage.TheVariants as S
use Rattle.strand_host.specs.StrandPrograms.{stock_of}
use Rattle.strand_host.proofs.StartAnswers.{at_giving, at_stage, both_ok, ending_told}
use Rattle.strand_host.proofs.TheLaws.{all_laws}
use Rattle.strand_host.proofs.program.StrandProgram.start_on.Goals as goal

pub start_answered-requires-clause-goes : goal.start_answered-requires-clause-goes
start_answered-requires-clause-goes g c =
    let h = c.requires.goes in
    (h.0, h.1, at_stage h.0 h.1 (stock_of c.args.self.now) c.args.instance c.args.strand (S.Answering c.in-Answering.task c.in-Answering.answer) c.in-Answering.is h.2.0)

pub returns-in-Answering-clause-next : goal.returns-in-Answering-clause-next
returns-in-Answering-clause-next g c = λ gw t at starts.
    c.start_answered.ensures.next gw t _ _
    (at_stage gw t (stock_of c.args.self.now) c.args.instance c.args.strand (S.Answering c.in-Answering.task c.in-Answering.answer) c.in-Answering.is at)

pub returns-in-Giving-clause-next : goal.returns-in-Giving-clause-next
returns-in-Giving-clause-next g c = λ gw t at starts.
    c.give_start.ensures.next gw t (at_giving gw t (stock_of c.args.self.now) c.args.instance c.args.strand c.in-Giving.task c.in-Giving.value c.in-Giving.is starts at)

pub give_start-requires-clause-goes : goal.give_start-requires-clause-goes
give_start-requires-clause-goes g c =
    let h = c.requires.goes in
    (h.0, h.1, at_giving h.0 h.1 (stock_of c.args.self.now) c.args.instance c.args.strand c.in-Giving.task c.in-Giving.value c.in-Giving.is h.2.1 h.2.0)

pub returns-in-Ending-clause-next : goal.returns-in-Ending-clause-next
returns-in-Ending-clause-next g c = λ gw t at starts.
    both_ok c.start_ends.result
    (λ told said settles. ending_told all_laws gw t (stock_of c.args.self.now) c.args.instance c.args.strand at c.in-Ending.end c.in-Ending.is told c.args.self.now c.start_ends.new.self _ _ said.0 said.1 refl settles)
    c.start_ends.ensures.event c.start_ends.ensures.settles
