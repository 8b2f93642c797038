use Rattle.std.proofs.Common.{rules, tests, sym, ◌∙◌, nat_lt}
use Rattle.std.proofs.lemmas.Iterator.{YieldsList-from_slice}
use Rattle.std.proofs.lemmas.Iterator.Search.{all_from_yields_List}
use Rattle.wa_types.specs.declared.syntax.Export.{Export}
use Rattle.wasm_validate.specs.Outside.{option_all, index_in}
use Rattle.wasm_validate.proofs.OutsideLemmas.{all_filtered}
use Rattle.wasm_validate.proofs.indices.exported_below.Goals as goal

pub returns : goal.returns
returns c =
    all_from_yields_List (λ (x : Export). option_all (λ n. nat_lt n c.args.limit) (index_in c.args.space x)) _ _ _ c.all.ensures.ran (YieldsList-from_slice c.args.exports.now cc)
    (λ x b q k. search (rules, tests)) ∙ sym (all_filtered (λ n. nat_lt n c.args.limit) (index_in c.args.space) c.args.exports.now)
