use Rattle.std.proofs.Common.{rules, tests, sym, ◌∙◌, nat_lt}
use Rattle.std.proofs.lemmas.Iterator.{YieldsList-from_slice}
use Rattle.std.proofs.lemmas.Iterator.Search.{all_from_yields_List}
use Rattle.wa_types.specs.declared.syntax.Elem.{Elem as ElemValue}
use Rattle.wa_types.specs.Syntax.{Elem}
use Rattle.wa_types.specs.Validity.{all_below}
use Rattle.wa_types.specs.View.{elem_of}
use Rattle.wasm_validate.proofs.OutsideLemmas.{all_flat_map}
use Rattle.wasm_validate.proofs.indices.elem_funcs_below.Goals as goal

pub returns : goal.returns
returns c =
    all_from_yields_List (λ (x : ElemValue). all_below c.args.limit x.funcs.items) _ _ _ c.all.ensures.ran (YieldsList-from_slice c.args.elems.now cc) (λ x b q k. search (rules, tests))
    ∙ sym (all_flat_map (λ n. nat_lt n c.args.limit) (λ (x : Elem). x.funcs) elem_of c.args.elems.now)
