-- How many slots' values a shape holds, before and behind an instruction.
use Rattle.std.proofs.Common.{◌≡◌, ℕ, zero, suc, refl, ap}
use Rattle.slim_laws.specs.Slim.{StackShape, more, Takes, takes_none, takes_same, takes_one, Rises, rises, rises_below, Plainly, plainly, plainly_held, kept}

pub plainly_none : (sh : StackShape) → Plainly sh → kept sh ≡ 0
plainly_none _ plainly = refl
plainly_none _ (plainly_held {sh = sh} p) = plainly_none sh p

pub taken_kept : (n : ℕ) (sh sh2 : StackShape) → Takes n sh sh2 → kept sh2 ≡ kept sh
taken_kept _ _ _ takes_none = refl
taken_kept _ _ _ takes_same = refl
taken_kept _ _ _ (takes_one {n = n} {sh = sh} {sh2 = sh2} ta) = taken_kept n sh sh2 ta

pub more_kept : (n : ℕ) (sh : StackShape) → kept (more n sh) ≡ kept sh
more_kept zero sh = refl
more_kept (suc n) sh = more_kept n sh

pub risen_kept : (x : ℕ) (sh sh2 : StackShape) → Rises x sh sh2 → kept sh ≡ suc (kept sh2)
risen_kept x _ _ rises = refl
risen_kept x _ _ (rises_below {sh = sh} {sh2 = sh2} ri) = ap suc (risen_kept x sh sh2 ri)
