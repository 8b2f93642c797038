-- What a run sees of a module.
use Rattle.std.specs.Prelude.{[], map}
use Rattle.wa_types.specs.Syntax.{Func, Module}
use Rattle.wa_types.specs.Modules.{declared_locals}
use Rattle.run_theory.specs.FlatFits.{one_run}

-- a function whose locals are declared one by one
abbrev pub one_by_one : Func → Func
one_by_one f = record { sort = f.sort; locals = map one_run (declared_locals f.locals); body = f.body }

-- The module with the locals of each function declared one by one, and without custom sections.
abbrev pub bare : Module → Module
bare m = record {
  types = m.types;
  imports = m.imports;
  funcs = map one_by_one m.funcs;
  tables = m.tables;
  memories = m.memories;
  globals = m.globals;
  exports = m.exports;
  start = m.start;
  elems = m.elems;
  segments = m.segments;
  customs = [];
}
