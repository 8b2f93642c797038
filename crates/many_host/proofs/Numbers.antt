-- Events behind others, by their numbers.
use Rattle.std.proofs.Common.{arith, ◌≡◌, ◌+◌, ℕ, zero, suc, refl, sym, ap, ◌∙◌}
use Rattle.many_host.specs.Turns.{behind, since}

pub sum_behind : (begun count : ℕ) → behind begun count ≡ begun + count
sum_behind zero count = omega arith
sum_behind (suc begun) count = let rest = sum_behind begun count in omega (arith, rest)

pub next_behind : (begun count : ℕ) → behind begun (suc count) ≡ suc (behind begun count)
next_behind zero count = refl
next_behind (suc begun) count = ap suc (next_behind begun count)

pub none_since : (begun : ℕ) → since begun begun ≡ 0
none_since zero = refl
none_since (suc begun) = none_since begun

pub none_behind : (begun : ℕ) → behind begun 0 ≡ begun
none_behind zero = refl
none_behind (suc begun) = ap suc (none_behind begun)

-- one event more
pub next_since : (begun number next : ℕ) → behind begun (since begun number) ≡ number → next ≡ suc number → since begun next ≡ suc (since begun number)
next_since zero number next is e = e
next_since (suc begun) zero next is e = let no : ⊥ = omega (arith, is) in absurd no
next_since (suc begun) (suc number) zero is e = let no : ⊥ = omega (arith, e) in absurd no
next_since (suc begun) (suc number) (suc next) is e = next_since begun number next (let n = is in omega (arith, n)) (omega (arith, e))

-- .. and is behind as many
pub begun_next : (begun number next : ℕ) → behind begun (since begun number) ≡ number → next ≡ suc number → behind begun (since begun next) ≡ next
begun_next begun number next is e = ap (behind begun) (next_since begun number next is e) ∙ next_behind begun (since begun number) ∙ ap suc is ∙ sym e
