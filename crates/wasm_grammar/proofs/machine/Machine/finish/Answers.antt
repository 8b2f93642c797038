use Rattle.std.proofs.Common.{sym, ◌∙◌, arith, subst}
use Rattle.wa_types.specs.Begun.{FaultAt}
use Rattle.wasm_grammar.proofs.PieceEnds.{fault_more, fault_wanting, whole_there, marked_there}
use Rattle.file_laws.proofs.Judged.{judged}
use Rattle.wasm_grammar.proofs.machine.Machine.finish.Goals as goal

pub returns-then-self-last-clause-err : goal.returns-then-self-last-clause-err
returns-then-self-last-clause-err c = subst (FaultAt c.args.bytes.now.all) (sym c.len-last.ensures.len)
    (fault_more c.args.bytes.now.all c.args.self.now.at c.args.self.now.goals c.requires (let e = c.len-last.ensures.len in let n = c.if-self-last.true in omega (arith, e, n)))

pub returns-then-not-is_end-clause-err : goal.returns-then-not-is_end-clause-err
returns-then-not-is_end-clause-err c = subst (FaultAt c.args.bytes.now.all) (sym c.len-last.ensures.len)
    (fault_wanting c.args.bytes.now.all c.args.self.now.at c.args.self.now.goals c.requires (let e = c.len-last.ensures.len in let n = c.if-self-last.false in omega (arith, e, n))
    (sym c.is_end.ensures ∙ c.if-not-is_end.true))

pub returns-clause-ok : goal.returns-clause-ok
returns-clause-ok c = whole_there c.args.bytes.now.all c.args.self.now.at c.args.self.now.goals c.requires
    (let e = c.len-last.ensures.len in let n = c.if-self-last.false in omega (arith, e, n)) (sym c.is_end.ensures ∙ c.if-not-is_end.false)

pub returns-clause-marks : goal.returns-clause-marks
returns-clause-marks c = λ short ss spelled.
    let m = marked_there c.args.bytes.now.all c.args.self.now.at c.args.self.now.goals c.requires (let e = c.len-last.ensures.len in let n = c.if-self-last.false in omega (arith, e, n))
    (sym c.is_end.ensures ∙ c.if-not-is_end.false) in
    judged c.args.bounds.now c.args.bytes.now.all m.0 c.args.self.now.marks ss m.1 short spelled
