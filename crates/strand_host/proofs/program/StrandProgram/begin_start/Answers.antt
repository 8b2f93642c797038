use Rattle.std.proofs.Common.{◌≤◌, ◌<◌, ◌-◌, arith}
use Rattle.wa_types.specs.Modules.{func_imports}
use Rattle.strand_host.specs.StrandPrograms.{stock_of}
use Rattle.strand_host.proofs.StartTurns.{import_ran, own_ran}
use Rattle.strand_host.proofs.program.StrandProgram.begin_start.Goals as goal

pub start_ran-requires-clause-goes : goal.start_ran-requires-clause-goes
start_ran-requires-clause-goes g c =
    let h = c.requires.goes in
    let x = c.args.self.now in
    let used = c.begin.new.steps.used - c.unused-steps.result.used in
    let is = h.2.at.strand.is_set in
    let lt : c.args.func < func_imports h.0.program.source = omega (arith, c.len.ensures, x.setting.imports.ok.0, is.all, c.if-func-len.true) in (
      h.0,
      h.1,
      import_ran h.0 h.1 (stock_of x) c.args.instance c.args.strand c.args.func h.2 c.begin.new.self c.in_ok-turn.turn c.unused-steps.result.left used c.begin.new.steps.left c.unused-steps.ensures.left
          (omega (arith, c.begin.ensures.sum, c.begin.ensures.grows)) c.begin.ensures.code c.in_ok-turn.ensures.calls c.in_ok-turn.ensures.again lt,
    )

pub returns-then-func-len-clause-next : goal.returns-then-func-len-clause-next
returns-then-func-len-clause-next g c = λ gw t at.
    let x = c.args.self.now in
    let used = c.begin.new.steps.used - c.unused-steps.result.used in
    let is = at.at.strand.is_set in
    let lt : c.args.func < func_imports gw.program.source = omega (arith, c.len.ensures, x.setting.imports.ok.0, is.all, c.if-func-len.true) in
    c.start_ran.ensures.next gw t
    (import_ran gw t (stock_of x) c.args.instance c.args.strand c.args.func at c.begin.new.self c.in_ok-turn.turn c.unused-steps.result.left used c.begin.new.steps.left c.unused-steps.ensures.left
    (omega (arith, c.begin.ensures.sum, c.begin.ensures.grows)) c.begin.ensures.code c.in_ok-turn.ensures.calls c.in_ok-turn.ensures.again lt)

pub start_ran-requires-2-clause-goes : goal.start_ran-requires-2-clause-goes
start_ran-requires-2-clause-goes g c =
    let h = c.requires.goes in
    let x = c.args.self.now in
    let used = c.begin.new.steps.used - c.unused-steps.result.used in
    let is = h.2.at.strand.is_set in
    let le : func_imports h.0.program.source ≤ c.args.func = omega (arith, c.len.ensures, x.setting.imports.ok.0, is.all, c.if-func-len.false) in (
      h.0,
      h.1,
      own_ran h.0 h.1 (stock_of x) c.args.instance c.args.strand c.args.func h.2 c.begin.new.self c.in_ok-turn.turn c.unused-steps.result.left used c.begin.new.steps.left c.unused-steps.ensures.left
          (omega (arith, c.begin.ensures.sum, c.begin.ensures.grows)) c.begin.ensures.code c.in_ok-turn.ensures.calls c.in_ok-turn.ensures.again le,
    )

pub returns-clause-next : goal.returns-clause-next
returns-clause-next g c = λ gw t at.
    let x = c.args.self.now in
    let used = c.begin.new.steps.used - c.unused-steps.result.used in
    let is = at.at.strand.is_set in
    let le : func_imports gw.program.source ≤ c.args.func = omega (arith, c.len.ensures, x.setting.imports.ok.0, is.all, c.if-func-len.false) in
    c.start_ran-2.ensures.next gw t
    (own_ran gw t (stock_of x) c.args.instance c.args.strand c.args.func at c.begin.new.self c.in_ok-turn.turn c.unused-steps.result.left used c.begin.new.steps.left c.unused-steps.ensures.left
    (omega (arith, c.begin.ensures.sum, c.begin.ensures.grows)) c.begin.ensures.code c.in_ok-turn.ensures.calls c.in_ok-turn.ensures.again le)
