-- The numbered calls of a flat function, and what their frames keep.
use Rattle.std.specs.Prelude.{◌≡◌, List, Bool}
use Rattle.wa_types.specs.Pausing.{Settings, Numbered}
use Rattle.wa_types.specs.Syntax.{Func, Module}
use Rattle.run_theory.specs.FlatView.{flat_func_of}
use Rattle.flatten.specs.declared.whole.Flattened.{Flattened}
use Rattle.live_locals.specs.LiveAt.{LiveRows}
use Rattle.func_rewrite.specs.declared.calls.LiveCalls.{LiveCalls}

-- The numbered calls of this function, and exactly what each keeps.
pub record AreLiveCalls (m : Module) (s : Settings) (which : List Bool) (f : Func) (flat : Flattened) (v : LiveCalls) : Type 0 where
  pub numbers : v.numbers.items ≡ Numbered m s which f
  pub rows : LiveRows (flat_func_of flat.func) v.numbers.items v.rows.items
