use Rattle.std.proofs.Common.{rules, tests, sym, ◌∙◌, nat_le, length}
use Rattle.std.proofs.lemmas.Iterator.{YieldsList-from_slice}
use Rattle.std.proofs.lemmas.Iterator.Search.{all_from_yields_List}
use Rattle.wa_types.specs.declared.syntax.FuncType.{FuncType as TypeValue}
use Rattle.wa_types.specs.Syntax.{FuncType}
use Rattle.wa_types.specs.View.{func_type_of}
use Rattle.std.proofs.lemmas.List.Folds.{list_all-map}
use Rattle.wasm_validate.proofs.outside.one_result.Goals as goal

pub returns : goal.returns
returns c =
    all_from_yields_List (λ (x : TypeValue). nat_le (length x.results.items) 1) _ _ _ c.all.ensures.ran (YieldsList-from_slice c.args.types.now cc) (λ x b q k. search (rules, tests))
    ∙ sym (list_all-map (λ (x : FuncType). nat_le (length x.results) 1) func_type_of c.args.types.now)
