use Rattle.std.proofs.Common.{◌∙◌, ap, sym}
use Rattle.std.specs.Option.{option_copied}
use Rattle.script_reader.proofs.FirstLines.{devices, line_here, line_later, no_line}
use Rattle.script_reader.proofs.script.device_line.Goals as goal

pub loop-program-preserved : goal.loop-program-preserved
loop-program-preserved c =
    line_later devices c.deref-program-items.result.now c.args.script.now.programs.items c.deref-program-items.ensures.value c.loop-program.program-index c.program-item.result
    c.loop-program-test.true c.program-item.is c.deref.result.now c.deref.ensures.value c.loop-program.invariant (sym c.first.ensures.value ∙ ap option_copied c.in_default.is)

pub returns-in-Some : goal.returns-in-Some
returns-in-Some c =
    line_here devices c.deref-program-items.result.now c.args.script.now.programs.items c.deref-program-items.ensures.value c.loop-program.program-index c.program-item.result
    c.loop-program-test.true c.program-item.is c.deref.result.now c.deref.ensures.value c.loop-program.invariant c.in-Some.bind.now (sym c.in-Some.ensures.value)

pub returns : goal.returns
returns c =
    no_line devices c.deref-program-items.result.now c.args.script.now.programs.items c.deref-program-items.ensures.value c.loop-program.program-index c.loop-program-test.false
    c.loop-program.invariant
