use Rattle.std.proofs.Common.{refl, sym}
use Rattle.wa_types.specs.View.{module_of}
use Rattle.pause_host.proofs.setting.setting_of.Goals as goal

pub returns : goal.returns
returns c = record {
  exports = c.exports_of.ensures (module_of c.args.«module».now) (sym c.deref.ensures.value);
  area_is = refl;
  no_others = c.new-others.ensures.items;
  listed_is = refl;
  binds_are = refl;
  steps_are = refl;
  names = c.in_ok-host_imports.ensures.names;
  bases = c.in_ok-host_imports.ensures.bases;
  results = c.in_ok-host_imports.ensures.results;
}
