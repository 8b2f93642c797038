use Rattle.strand_host.specs.StrandPrograms.{stock_of}
use Rattle.strand_host.proofs.Starts.{in_start, past_start}
use Rattle.strand_host.proofs.program.StrandProgram.goes.Goals as goal

pub start_on-requires-clause-goes : goal.start_on-requires-clause-goes
start_on-requires-clause-goes g c =
    let h = c.requires.goes in (h.0, h.1, in_start h.0 h.1 (stock_of c.args.self.now) c.args.instance c.args.going h.2 c.if-starts.true)

pub go_on-requires-clause-goes : goal.go_on-requires-clause-goes
go_on-requires-clause-goes g c =
    let h = c.requires.goes in (h.0, h.1, past_start h.0 h.1 (stock_of c.args.self.now) c.args.instance c.args.going h.2 c.if-starts.false)

pub returns-then-starts-clause-next : goal.returns-then-starts-clause-next
returns-then-starts-clause-next g c = λ gw t at.
    let q = in_start gw t (stock_of c.args.self.now) c.args.instance c.args.going at c.if-starts.true in c.start_on.ensures.next gw t q.0 q.1

pub returns-clause-next : goal.returns-clause-next
returns-clause-next g c = λ gw t at.
    c.go_on.ensures.next gw t (past_start gw t (stock_of c.args.self.now) c.args.instance c.args.going at c.if-starts.false)
