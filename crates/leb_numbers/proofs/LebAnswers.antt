-- What an answer of reading shows.
use Rattle.std.proofs.Common.{◌≡◌, ℕ, ◌+◌, ◌-◌, ◌*◌, ◌⊎◌, inl, inr, List, ◌++◌, Result, Ok, Err, refl, ap, sym, ◌∙◌, length, take, true, false, Bool, cond}
use Rattle.std.proofs.lemmas.List.{take_at}
use Rattle.leb_numbers.specs.declared.leb.LebFault.{LebFault}
use Rattle.leb_numbers.specs.Leb.{above}

pub ok-injective : (m n : ℕ) (r : Result ℕ LebFault) → r ≡ Ok m → r ≡ Ok n → m ≡ n
ok-injective m n r e f = cc

pub pair_eq : {A B : Type 0} {p : A × B} {x : A} {y : B} → p.0 ≡ x → p.1 ≡ y → p ≡ (x, y)
pair_eq e f = λ i. (e i, f i)

pub above_ok : (b n : ℕ) (r : Result ℕ LebFault) → above b r ≡ Ok n → (high : ℕ) × (r ≡ Ok high) × (n ≡ b - 128 + 128 * high)
above_ok b n (Ok high) e = (high, refl, cc)
above_ok b n (Err d) e = absurd (cc)

pub chosen : {A : Type 0} → (b : Bool) (x y z : A) → cond b x y ≡ z → ((b ≡ true) × (x ≡ z)) ⊎ ((b ≡ false) × (y ≡ z))
chosen true x y z e = inl (refl, e)
chosen false x y z e = inr (refl, e)

-- two fronts of one list, of one length
pub same_fronts : (a b x y : List ℕ) → length a ≡ length b → a ++ x ≡ b ++ y → a ≡ b
same_fronts a b x y l e = sym (take_at a x (length b) l) ∙ ap (take (length b)) e ∙ take_at b y (length b) refl
