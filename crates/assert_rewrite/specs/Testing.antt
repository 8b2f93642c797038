-- Which calls get a test behind them, and code behind which control may go on or not.
use Rattle.std.specs.Prelude.{◌≡◌, ℕ, List, Option, Some, None, Bool, true, false, not, if◌then◌else◌}
use Rattle.wa_types.specs.declared.instrs.Instr.{Instr}
use Rattle.wa_types.specs.Pausing.{Callee}
use Rattle.wa_types.specs.Pruned.{is_last_instr}
use Rattle.wa_types.specs.Syntax.{Code, done}
use Rattle.wa_types.specs.View.{in_front}
use Rattle.guard_form.specs.Asserts.{any_callee, asserted_reached, tested_behind}
use Rattle.guard_form.specs.Pieces.{sole_callee}
use Rattle.flow_rewrite.specs.Numbering.{gets_number}

-- a call of this callee has no number
abbrev pub without_number : (which listed : List Bool) → (ignore_indirect : Bool) → Callee → Bool
without_number which listed ignored c = not (gets_number which listed ignored (Some c))

-- behind an instruction stands a test, where it is a call that wants one
abbrev pub is_tested : (tests : Callee → Bool) → Option Callee → Bool
is_tested tests None = false
is_tested tests (Some c) = tests c

-- what becomes of code of a function that stays, where it can be reached and where not
abbrev pub where_reached : (state : ℕ) → (reached : Bool) → Code → Code
where_reached st true c = asserted_reached st c
where_reached st false c = c

-- what stands behind an instruction of such code: where control goes on, the test behind a call and the rest with asserts
abbrev pub what_follows : (state : ℕ) → (reached : Bool) → Instr → (rest : Code) → Code
what_follows st false x rest = rest
what_follows st true x rest = if is_last_instr x then rest else tested_behind any_callee st (sole_callee (in_front x done)) (asserted_reached st rest)

-- the second instruction stands for the first one in such code
abbrev pub StandsFor : (state : ℕ) → (reached : Bool) → (x y : Instr) → Type 0
StandsFor st reached x y = (rest : Code) → where_reached st reached (in_front x rest) ≡ in_front y (what_follows st reached x rest)
