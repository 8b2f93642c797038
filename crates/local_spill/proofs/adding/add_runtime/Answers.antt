-- Each list has got its parts.
use Rattle.std.proofs.Common.{ap, arith, ◌∙◌, sym}
use Rattle.std.proofs.lemmas.List.{length-map}
use Rattle.local_spill.specs.declared.RuntimeIds.{RuntimeIds}
use Rattle.wa_types.specs.View.{module_of, func_type_of}
use Rattle.local_spill.proofs.Grown.{grown}
use Rattle.local_spill.proofs.adding.add_runtime.Goals as goal

pub returns-clause-added : goal.returns-clause-added
returns-clause-added c =
    grown (module_of c.args.module) _ _ _ _ _ c.ids_behind-ids.result c.len-first_type.result c.ids_behind-ids.ensures (c.len-first_type.ensures ∙ c.args.module.types.ok.0
    ∙ sym (length-map c.args.module.types.items func_type_of))
    c.in_ok-push_types.ensures c.in_ok-push_funcs.ensures (rw c.deref.ensures.value at c.in_ok-add_memory.ensures) c.in_ok-push_globals.ensures c.in_ok-push_exports.ensures

pub returns-clause-ids : goal.returns-clause-ids
returns-clause-ids c = c.ids_behind-ids.ensures

pub push_funcs-requires : goal.push_funcs-requires
push_funcs-requires c = omega (arith, c.len-first_type.ensures, c.args.module.types.ok.0, c.requires.types)

pub push_exports-requires : goal.push_exports-requires
push_exports-requires c = omega (arith, ap (λ (ids : RuntimeIds). ids.first) c.ids_behind-ids.ensures, c.requires.funcs)
