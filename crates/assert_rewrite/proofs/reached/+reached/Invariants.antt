use Rattle.std.proofs.Common.{◌≡◌, drop}
use Rattle.wa_types.specs.View.{code, onto}
use Rattle.guard_form.specs.Asserts.{asserted_reached}
use Rattle.assert_rewrite.specs.Testing.{where_reached}
use Rattle.assert_rewrite.proofs.reached.+reached.Given as goal

abbrev pub invariant-assert_body-loop-instr : goal.invariant-assert_body-loop-instr
invariant-assert_body-loop-instr l = onto l.out.items (where_reached l.state l.reached (code (drop l.instr-index l.body))) ≡ asserted_reached l.state (code l.body)
