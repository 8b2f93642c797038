use Rattle.std.proofs.Common.{◌≡◌, Some, ap, sym, ◌∙◌, refl}
use Rattle.std.specs.Prelude.{slice_get}
use Rattle.std.proofs.lemmas.Option.{slice_get_read}
use Rattle.pause_host.proofs.Suspensions.{names_other, suspends, suspends_none}
use Rattle.pause_host.proofs.thawing.suspended.Goals as goal

pub returns-then-not-is_name : goal.returns-then-not-is_name
returns-then-not-is_name c = λ w is short.
    let x = c.args.setting.now in
    let at : slice_get x.imports.items c.args.import ≡ Some c.in-Some.called.now = ap (λ xs. slice_get xs c.args.import) (sym c.deref.ensures.value) ∙ slice_get_read c.deref.result.now _ c.args.import c.in-Some.called.now refl c.in-Some.ensures.lookup.3.0 c.in-Some.ensures.lookup.1 in
    names_other w x is c.in-Some.called.now c.args.import c.args.size c.args.line at (λ e. c.if-not-is_name.ensures.no (c.as_str.ensures ∙ e ∙ sym c.as_str-2.ensures))

pub returns-in-Pausing : goal.returns-in-Pausing
returns-in-Pausing c = λ w is short.
    let x = c.args.setting.now in
    let at : slice_get x.imports.items c.args.import ≡ Some c.in-Some.called.now = ap (λ xs. slice_get xs c.args.import) (sym c.deref.ensures.value) ∙ slice_get_read c.deref.result.now _ c.args.import c.in-Some.called.now refl c.in-Some.ensures.lookup.3.0 c.in-Some.ensures.lookup.1 in
    suspends w x is c.in-Some.called.now c.args.import c.args.size c.args.line at c.args.entry _ (c.answered.ensures.stage w is short) c.in-Pausing.pause c.in-Pausing.is
    (sym c.as_str.ensures ∙ c.if-not-is_name.ensures.yes ∙ c.as_str-2.ensures)

pub returns : goal.returns
returns c = λ w is short.
    let x = c.args.setting.now in
    let at : slice_get x.imports.items c.args.import ≡ Some c.in-Some.called.now = ap (λ xs. slice_get xs c.args.import) (sym c.deref.ensures.value) ∙ slice_get_read c.deref.result.now _ c.args.import c.in-Some.called.now refl c.in-Some.ensures.lookup.3.0 c.in-Some.ensures.lookup.1 in
    suspends_none w x is c.in-Some.called.now c.args.import c.args.size c.args.line at c.args.entry _ (c.answered.ensures.stage w is short) c.in_default-answered.not-Pausing
