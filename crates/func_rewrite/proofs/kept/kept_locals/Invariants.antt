use Rattle.std.proofs.Common.{◌≡◌, ℕ, ◌<◌, get_or, length, false}
use Rattle.std.specs.Prelude.{nat_lt}
use Rattle.func_rewrite.proofs.kept.kept_locals.Given as goal

abbrev pub invariant-loop-local : goal.invariant-loop-local
invariant-loop-local l = record { many : length l.kept.items ≡ l.local; own : (x : ℕ) → x < l.local → get_or l.kept.items x false ≡ nat_lt x l.own }
