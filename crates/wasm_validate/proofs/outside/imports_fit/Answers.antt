use Rattle.std.proofs.Common.{rules, tests, sym, ◌∙◌, ◌^◌, ◌&&◌}
use Rattle.std.proofs.lemmas.Iterator.{YieldsList-from_slice}
use Rattle.std.proofs.lemmas.Iterator.Search.{all_from_yields_List}
use Rattle.wa_types.specs.declared.syntax.Import.{Import}
use Rattle.wa_types.specs.Modules.{imported_memory, imported_table}
use Rattle.wa_types.specs.Validity.{limits_fit}
use Rattle.wasm_validate.specs.Outside.{option_all}
use Rattle.wasm_validate.proofs.OutsideLemmas.{filtered_both}
use Rattle.wasm_validate.proofs.outside.imports_fit.Goals as goal

pub returns : goal.returns
returns c =
    all_from_yields_List (λ (x : Import). option_all (limits_fit (2 ^ 32)) (imported_table x.kind) && option_all (limits_fit 65536) (imported_memory x.kind)) _ _ _ c.all.ensures.ran
    (YieldsList-from_slice c.args.imports.now cc) (λ x b q k. search (rules, tests))
    ∙ sym (filtered_both (limits_fit (2 ^ 32)) (limits_fit 65536) (λ (x : Import). imported_table x.kind) (λ (x : Import). imported_memory x.kind) c.args.imports.now)
