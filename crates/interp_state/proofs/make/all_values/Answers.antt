use Rattle.std.proofs.Common.{◌++◌, map, ap, sym, ◌∙◌}
use Rattle.wa_types.specs.Syntax.{GlobalDef}
use Rattle.wa_types.specs.View.{global_of}
use Rattle.wa_model.specs.Instantiation.{constant_value}
use Rattle.interp_state.specs.Making.{value_of_global}
use Rattle.interp_state.proofs.MapLemmas.{map_map}
use Rattle.interp_state.proofs.make.all_values.Goals as goal

pub returns : goal.returns
returns c =
    let imports = c.args.imports.now in
    let globals = c.args.source.now.globals.items in
    c.in_ok-extend_from_slice.ensures.items
    ∙ ap (λ v. v ++ c.deref-2.result.now) c.in_ok-values.ensures.items
    ∙ ap (λ v. imports ++ v) (c.deref-2.ensures.value ∙ c.in_ok-defined.ensures ∙ ap (map (value_of_global imports)) c.deref.ensures.value
    ∙ sym (map_map (λ (g : GlobalDef). constant_value imports g.init) global_of globals))
