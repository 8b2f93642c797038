-- There are at most as many units as calls and constructs.
use Rattle.std.proofs.Common.{ℕ, suc, ◌+◌, ◌≤◌, List, Option, Some, None, Bool, true, false, arith}
use Rattle.std.specs.Prelude.{◌||◌, if◌then◌else◌}
use Rattle.wa_types.specs.Pausing.{Callee}
use Rattle.run_theory.specs.Flat.{Stmts, no_more, computes, copies, calls, leaps, leaps_if, leaps_by, nests, decides, halts, last_of}
use Rattle.guard_form.specs.Bounds.{unit_count}
use Rattle.guard_form.specs.Pieces.{nest_unit, if_unit, numbered, holds_call, call_total, first_piece, unit_call, units}

-- the calls and constructs of statements
abbrev pub calls_and_constructs : Stmts → ℕ
calls_and_constructs no_more = 0
calls_and_constructs (computes op args to rest) = calls_and_constructs rest
calls_and_constructs (copies to from rest) = calls_and_constructs rest
calls_and_constructs (calls op stack args to rest) = 1 + calls_and_constructs rest
calls_and_constructs (leaps l rest) = calls_and_constructs rest
calls_and_constructs (leaps_if c l rest) = calls_and_constructs rest
calls_and_constructs (leaps_by index labels last rest) = calls_and_constructs rest
calls_and_constructs (nests s body rest) = 1 + calls_and_constructs body + calls_and_constructs rest
calls_and_constructs (decides c a b rest) = 1 + calls_and_constructs a + calls_and_constructs b + calls_and_constructs rest
calls_and_constructs (halts rest) = calls_and_constructs rest

abbrev few : List ℕ → ℕ → Stmts → Type 0
few ps n s = unit_count (units ps n s) ≤ calls_and_constructs s

pub units_are_few : (ps : List ℕ) (n : ℕ) (s : Stmts) → few ps n s
units_are_few ps n no_more = omega arith
units_are_few ps n (computes op args to rest) = units_are_few ps n rest
units_are_few ps n (copies to from rest) = units_are_few ps n rest
units_are_few ps n (calls op stack args to rest) = by (numbered ps n op) (units_are_few ps (suc n) rest)
  where
    by : (o : Option Callee) → few ps (suc n) rest
        → unit_count (unit_call o (last_of args stack) to (first_piece ps (suc n) rest) (units ps (suc n) rest)) ≤ 1 + calls_and_constructs rest
    by None ih = omega arith
    by (Some x) ih = omega arith
units_are_few ps n (leaps l rest) = units_are_few ps n rest
units_are_few ps n (leaps_if c l rest) = units_are_few ps n rest
units_are_few ps n (leaps_by index labels last rest) = units_are_few ps n rest
units_are_few ps n (nests s body rest) = by (holds_call ps n body) (units_are_few ps n body) (units_are_few ps (n + call_total body) rest)
  where
    by : (b : Bool) → few ps n body → few ps (n + call_total body) rest
        → unit_count
        (if b then nest_unit s (first_piece ps n body) (units ps n body) (first_piece ps (n + call_total body) rest) (units ps (n + call_total body) rest)
        else units ps (n + call_total body) rest)
        ≤ 1 + calls_and_constructs body + calls_and_constructs rest
    by true ib ih = omega arith
    by false ib ih = omega arith
units_are_few ps n (decides c a b rest) =
    by (holds_call ps n a || holds_call ps (n + call_total a) b) (units_are_few ps n a) (units_are_few ps (n + call_total a) b)
    (units_are_few ps (n + call_total a + call_total b) rest)
  where
    by : (h : Bool) → few ps n a → few ps (n + call_total a) b → few ps (n + call_total a + call_total b) rest
        → unit_count
        (if h then if_unit (Some c) (first_piece ps n a) (units ps n a) (first_piece ps (n + call_total a) b) (units ps (n + call_total a) b)
        (first_piece ps (n + call_total a + call_total b) rest) (units ps (n + call_total a + call_total b) rest)
        else units ps (n + call_total a + call_total b) rest)
        ≤ 1 + calls_and_constructs a + calls_and_constructs b + calls_and_constructs rest
    by true ia ib ih = omega arith
    by false ia ib ih = omega arith
units_are_few ps n (halts rest) = units_are_few ps n rest
