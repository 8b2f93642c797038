use Rattle.std.proofs.Common.{rules, ◌≡◌, ◌∙◌, ap, sym, length}
use Rattle.std.proofs.lemmas.List.{length-map}
use Rattle.wa_types.specs.Modules.{all_globals}
use Rattle.wa_types.specs.View.{module_of}
use Rattle.validate_bodies.specs.Spaces.{global_type_of}
use Rattle.wasm_validate.proofs.rules.globals_there.Goals as goal

pub returns : goal.returns
returns c =
    let k : c.len-limit.result ≡ length c.args.spaces.now.globals.items = search rules in
    let n : c.len-limit.result ≡ length (all_globals (module_of c.args.module.now)) = k ∙ sym (length-map c.args.spaces.now.globals.items global_type_of) ∙ ap length c.requires.globals in
    rw (n, c.deref.ensures.value, c.deref-2.ensures.value, c.deref-3.ensures.value, c.deref-4.ensures.value) at c.globals_below.ensures
