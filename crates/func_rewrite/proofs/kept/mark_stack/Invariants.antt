use Rattle.std.proofs.Common.{◌≡◌, ℕ, get_or, take, false}
use Rattle.std.specs.Prelude.{◌||◌, nat_eq}
use Rattle.std.specs.List.{list_any}
use Rattle.func_rewrite.proofs.kept.mark_stack.Given as goal

abbrev pub invariant-loop-slot : goal.invariant-loop-slot
invariant-loop-slot l = (x : ℕ) → get_or l.kept x false ≡ (get_or l.fn.kept x false || list_any (nat_eq x) (take l.slot-index l.stack))
