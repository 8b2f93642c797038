use Rattle.std.proofs.Common.{sym, ◌∙◌, subst}
use Rattle.strand_host.specs.StrandPrograms.{StandsSo, stock_of}
use Rattle.strand_host.proofs.program.StrandProgram.advance.Goals as goal

pub open-requires-clause-goes : goal.open-requires-clause-goes
open-requires-clause-goes g c =
    let h = c.requires.goes in (h.g, h.t, (subst (StandsSo h.g h.t (stock_of c.args.self.now)) (sym c.replace.ensures.value ∙ c.in-Fresh.is) h.follows).0)

pub goes-requires-clause-goes : goal.goes-requires-clause-goes
goes-requires-clause-goes g c =
    let h = c.requires.goes in (h.g, h.t, (subst (StandsSo h.g h.t (stock_of c.args.self.now)) (sym c.replace.ensures.value ∙ c.in-Runs.is) h.follows).0)

pub begin_turn-requires-clause-goes : goal.begin_turn-requires-clause-goes
begin_turn-requires-clause-goes g c =
    let h = c.requires.goes in (h.g, h.t, (subst (StandsSo h.g h.t (stock_of c.args.self.now)) (sym c.replace.ensures.value ∙ c.in-Between.is) h.follows).0)

pub returns-in-Fresh-clause-told : goal.returns-in-Fresh-clause-told
returns-in-Fresh-clause-told g c = λ gw t follows live. c.open.ensures.next gw t (subst (StandsSo gw t (stock_of c.args.self.now)) (sym c.replace.ensures.value ∙ c.in-Fresh.is) follows).0

pub returns-in-Runs-clause-told : goal.returns-in-Runs-clause-told
returns-in-Runs-clause-told g c = λ gw t follows live. c.goes.ensures.next gw t (subst (StandsSo gw t (stock_of c.args.self.now)) (sym c.replace.ensures.value ∙ c.in-Runs.is) follows).0

pub returns-in-Between-clause-told : goal.returns-in-Between-clause-told
returns-in-Between-clause-told g c = λ gw t follows live. c.begin_turn.ensures.next gw t (subst (StandsSo gw t (stock_of c.args.self.now)) (sym c.replace.ensures.value ∙ c.in-Between.is) follows).0
