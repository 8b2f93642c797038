use Rattle.std.proofs.Common.{◌≡◌, drop}
use Rattle.wa_types.specs.View.{code, onto}
use Rattle.guard_form.specs.Asserts.{asserted}
use Rattle.assert_rewrite.specs.Testing.{without_number}
use Rattle.assert_rewrite.proofs.written.+free.Given as goal

abbrev pub invariant-assert_free-loop-instr : goal.invariant-assert_free-loop-instr
invariant-assert_free-loop-instr l =
    onto l.out.items (asserted (without_number l.which l.listed l.ignore_indirect) l.state (code (drop l.instr-index l.body)))
    ≡ asserted (without_number l.which l.listed l.ignore_indirect) l.state (code l.body)
