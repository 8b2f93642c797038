-- Functions with asserts, as both modules have them.
use Rattle.std.specs.Prelude.{◌≡◌, ℕ, Bool, drop, map}
use Rattle.wa_types.specs.Pausing.{Callee}
use Rattle.wa_types.specs.Syntax.{Func, Module}
use Rattle.guard_form.specs.Functions.{GuardedFunc, Role, as_is, with_guards}
use Rattle.guard_form.specs.Asserts.{asserted, asserted_reached}
use Rattle.assert_laws.specs.AssertedUnits.{asserted_units}

-- a guarded function whose pieces have asserts
abbrev pub asserted_guards : (tests : Callee → Bool) → (state : ℕ) → GuardedFunc → GuardedFunc
asserted_guards t st f = record {
  size = f.size;
  exits = f.exits;
  restoring = f.restoring;
  saving = f.saving;
  first = asserted t st f.first;
  body = asserted_units t st f.body;
}

-- so has a function that stays, as far as it can be reached
abbrev pub asserted_role : (tests : Callee → Bool) → (state : ℕ) → Role → Role
asserted_role t st (as_is n body) = as_is n (asserted_reached st body)
asserted_role t st (with_guards f) = with_guards (asserted_guards t st f)

-- The written module with asserts has the parts of the one without, but for the original's functions, of which there are n.
pub record AssertedModule (n : ℕ) (p0 p : Module) : Type 0 where
  pub types : p.types ≡ p0.types
  pub imports : p.imports ≡ p0.imports
  pub tables : p.tables ≡ p0.tables
  pub memories : p.memories ≡ p0.memories
  pub globals : p.globals ≡ p0.globals
  pub exports : p.exports ≡ p0.exports
  pub start : p.start ≡ p0.start
  pub elems : p.elems ≡ p0.elems
  pub segments : p.segments ≡ p0.segments
  pub runtime : drop n p.funcs ≡ drop n p0.funcs
  pub sorts : map (λ (f : Func). f.sort) p.funcs ≡ map (λ (f : Func). f.sort) p0.funcs
