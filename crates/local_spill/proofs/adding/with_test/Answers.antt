use Rattle.std.proofs.Common.{ap, ◌∙◌}
use Rattle.local_spill.proofs.PutLemmas.{if_is, no_code}
use Rattle.wa_types.specs.declared.instrs.Instr.TheVariants.{GlobalGet, Load, Num}
use Rattle.wa_types.specs.declared.operators.NumOp.TheVariants.{I32GtU}
use Rattle.wa_types.specs.Syntax.{done}
use Rattle.wa_types.specs.View.{onto, in_front}
use Rattle.local_spill.proofs.Bodies.{code_is, trap_code}
use Rattle.local_spill.proofs.adding.with_test.Goals as goal

pub returns : goal.returns
unfolding onto in_front
returns c =
    let a = c.args.address in
    code_is _ ∙ c.in_ok-put_all.ensures done
    ∙ ap (λ k. onto c.args.body.items (in_front (GlobalGet a) (in_front (Load 0x28 2 0) (in_front (GlobalGet a) (in_front (Load 0x28 2 4) (in_front (Num I32GtU) k))))))
    (if_is _ _ _ _ (trap_code _ c.in_ok-trap.ensures.items) (no_code _ c.new.ensures.items) done)
