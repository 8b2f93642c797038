use Rattle.std.proofs.Common.{◌∙◌, ap, sym, map}
use Rattle.wa_types.specs.View.{module_of}
use Rattle.host_setup.specs.Views.{entry_of}
use Rattle.host_setup.proofs.Positions.{area_is_fine}
use Rattle.host_setup.proofs.entries.set_up.Goals as goal

pub returns : goal.returns
returns c =
    area_is_fine c.with_area.result (module_of c.module-module.result.now) (module_of c.args.valid.now) c.args.area c.in_ok-pages.pages (map entry_of c.args.entries.now) c.in_ok-pages.ensures
    (ap module_of c.module-module.ensures.same) (sym c.is_area.ensures ∙ c.if-not-is_area.false) c.with_area.ensures
