use Rattle.std.proofs.Common.{◌≡◌, map, take}
use Rattle.wa_types.specs.Modules.{imported, imported_global}
use Rattle.wa_types.specs.View.{module_of}
use Rattle.validate_bodies.specs.Spaces.{global_type_of}
use Rattle.wasm_validate.proofs.OutsideLemmas.{taken}
use Rattle.wasm_validate.proofs.rules.constants.Goals as goal

pub returns : goal.returns
returns c =
    let e : map global_type_of (take c.args.spaces.now.global_imports c.args.spaces.now.globals.items)
    ≡ imported imported_global (module_of c.args.module.now) = taken global_type_of _ _ _ _ c.requires.globals c.requires.global_imports in
    rw (c.deref.ensures.value, c.deref-2.ensures.value, c.deref-3.ensures.value, c.deref-4.ensures.value, e, c.requires.globals) at c.all_constant.ensures
