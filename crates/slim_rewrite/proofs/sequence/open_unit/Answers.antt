use Rattle.std.proofs.Common.{ap, sym, ◌∙◌}
use Rattle.std.specs.declared.vec.Vec.{Vec}
use Rattle.std.specs.declared.alloc.Global.{Global}
use Rattle.wa_types.specs.declared.instrs.Instr.{Instr}
use Rattle.slim_rewrite.proofs.SequenceLemmas.{opened_some}
use Rattle.slim_rewrite.proofs.sequence.open_unit.Goals as goal

pub returns-in_ok-push-in-Some : goal.returns-in_ok-push-in-Some
returns-in_ok-push-in-Some c =
    opened_some c.args.at.now c.replace-piece.new.dest c.args.all.now c.push.new.self c.replace.new.dest c.args.head c.in-Some.open _ c.replace-piece.result c.requires
    (ap (λ (v : Vec Instr Global). v.items) c.replace-piece.ensures.after ∙ c.new.ensures.items) c.replace.ensures.after (sym c.replace.ensures.value ∙ c.in-Some.is) c.replace-piece.ensures.value
    c.closed.ensures c.in_ok-push-in-Some.ensures.items
