use Rattle.std.proofs.Common.{subst, ◌≤◌, ◌<◌, ◌≡◌, List, length, get_or}
use Rattle.std.specs.BTreeSet.{contains_text}
use Rattle.wa_types.specs.declared.syntax.Import.{Import}
use Rattle.wa_types.specs.View.{module_of}
use Rattle.script_setup.proofs.Misbound.{all_unfit, next_unfit}
use Rattle.script_setup.proofs.mail.unfit_imports.Goals as goal

pub loop-import-preserved : goal.loop-import-preserved
loop-import-preserved c =
    next_unfit (module_of c.args.«module».now) (contains_text c.loop-import.names) (contains_text c.put_unfit.new.names) c.args.«module».now.imports.items c.loop-import.import-index
    c.import-item.result
    (subst (λ (xs : List Import). c.loop-import.import-index < length xs) c.deref-import-items.ensures.value c.loop-import-test.true)
    (subst (λ (xs : List Import). c.import-item.result ≡ get_or xs c.loop-import.import-index c.import-item.result) c.deref-import-items.ensures.value c.import-item.is)
    c.loop-import.invariant c.in_ok-put_unfit.ensures

pub returns : goal.returns
returns c =
    all_unfit (module_of c.args.«module».now) (contains_text c.loop-import.names) c.args.«module».now.imports.items c.loop-import.import-index
    (subst (λ (xs : List Import). length xs ≤ c.loop-import.import-index) c.deref-import-items.ensures.value c.loop-import-test.false) c.loop-import.invariant
