use Rattle.std.proofs.Common.{refl, ◌++◌}
use Rattle.std.specs.Prelude.{codes}
use Rattle.wa_types.specs.declared.values.Value.{Value}
use Rattle.script_model.specs.Transcript.{behind_spaces, printed_value}
use Rattle.transcript.proofs.Joined.{last_text, next_text, two_parts}
use Rattle.transcript.proofs.parts.put_values.Goals as goal

pub loop-value-preserved : goal.loop-value-preserved
loop-value-preserved c =
    next_text behind_spaces (λ (v : Value). codes " " ++ printed_value v) (λ v vs. refl) c.loop-value.line.items c.put_value.new.line.items _ c.args.values.now c.loop-value.value-index _
    c.loop-value-test.true (two_parts _ _ _ _ _ c.in_ok-put.ensures c.in_ok-put_value.ensures) c.loop-value.invariant

pub returns : goal.returns
returns c = last_text behind_spaces refl c.loop-value.line.items _ c.args.values.now c.loop-value.value-index c.loop-value-test.false c.loop-value.invariant
