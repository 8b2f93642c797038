use Rattle.wa_types.specs.Syntax.{unreachable}
use Rattle.flatten.proofs.BasicLemmas.{last_one}
use Rattle.flatten.proofs.JumpLemmas.{is_unreachable, last_put, halted}
use Rattle.flatten.proofs.jumps.put_last.Goals as goal

pub unreachable-requires : goal.unreachable-requires
unreachable-requires c = last_one c.args.instr.now c.requires.last c.in_default.not-Unreachable c.in_default.not-Return c.in_default.not-Br c.in_default.not-BrTable

pub returns-in_ok-push-in-Unreachable : goal.returns-in_ok-push-in-Unreachable
returns-in_ok-push-in-Unreachable c =
    last_put c.args.names.now c.args.at.now.typing c.args.instr.now unreachable c.args.out.now.items c.push.new.self.items (is_unreachable c.args.instr.now c.in-Unreachable.is)
    (λ behind k. halted c.args.out.now.items c.push.new.self.items c.in_ok-push-in-Unreachable.ensures.items)
