use Rattle.std.proofs.Common.{sym, ◌∙◌}
use Rattle.wa_types.specs.declared.syntax.Import.{Import}
use Rattle.wa_types.specs.Modules.{imported_func}
use Rattle.wa_types.specs.Pausing.{listed_import, joined_name}
use Rattle.validate_bodies.proofs.SpaceLemmas.{fm_some, fm_none, fm_end}
use Rattle.call_graph.proofs.IndexLemmas.{marked, unmarked}
use Rattle.call_graph.proofs.imports.marks_of.Goals as goal

pub loop-import-init : goal.loop-import-init
loop-import-init c = λ k h. c.new-marks.ensures.items

pub loop-import-preserved-then-not-is_func : goal.loop-import-preserved-then-not-is_func
loop-import-preserved-then-not-is_func c = λ k h.
    fm_none (λ (i : Import). listed_import k i (imported_func i.kind)) c.args.imports.now c.loop-import.marks.items c.loop-import.import-index c.import-item.result
    (unmarked k c.import-item.result (sym c.is_func.ensures ∙ c.if-not-is_func.true)) c.loop-import-test.true c.import-item.is (c.loop-import.invariant k h)

pub loop-import-preserved : goal.loop-import-preserved
loop-import-preserved c = λ k h.
    fm_some (λ (i : Import). listed_import k i (imported_func i.kind)) c.args.imports.now c.loop-import.marks.items c.push.new.self.items
    c.loop-import.import-index c.import-item.result c.in_ok-names_import.field-0
    (marked k c.import-item.result c.in_ok-names_import.field-0 (sym c.is_func.ensures ∙ c.if-not-is_func.false) (c.in_ok-names_import.ensures ∙ h (joined_name c.import-item.result)))
    c.in_ok-push.ensures.items c.loop-import-test.true c.import-item.is (c.loop-import.invariant k h)

pub returns : goal.returns
returns c = λ k h.
    fm_end (λ (i : Import). listed_import k i (imported_func i.kind)) c.args.imports.now c.loop-import.marks.items c.loop-import.import-index c.loop-import-test.false (c.loop-import.invariant k h)
