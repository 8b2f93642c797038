-- Lists of value types that are the same.
use Rattle.std.proofs.Common.{◌≡◌, ℕ, suc, ◌+◌, ◌<◌, List, [], ◌∷◌, length, get_or, drop, Bool, true, false, ◌&&◌, refl, ap, ◌∙◌, sym, drop-cons, add-one}
use Rattle.wa_types.specs.declared.values.ValType.{ValType}
use Rattle.wa_types.specs.declared.values.ValType.TheVariants.{I32, I64}
use Rattle.wa_types.specs.Encoding.{same_type}
use Rattle.wa_model.specs.Step.{same_types}

and_no : (b : Bool) → (b && false) ≡ false
and_no true = refl
and_no false = refl

pub lengths_differ : (xs ys : List ValType) → (length xs ≡ length ys → ⊥) → false ≡ same_types xs ys
lengths_differ [] [] h = absurd (h refl)
lengths_differ [] (u ∷ us) h = refl
lengths_differ (t ∷ ts) [] h = refl
lengths_differ (t ∷ ts) (u ∷ us) h =
    sym (ap (λ b. same_type t u && b) (sym (lengths_differ ts us (λ e. h (ap suc e)))) ∙ and_no (same_type t u))

same_itself : (t : ValType) → same_type t t ≡ true
same_itself I32 = refl
same_itself I64 = refl

not_same : (t u : ValType) → (t ≡ u → ⊥) → same_type t u ≡ false
not_same I32 I32 h = absurd (h refl)
not_same I32 I64 h = refl
not_same I64 I32 h = refl
not_same I64 I64 h = absurd (h refl)

at_both : (xs ys : List ValType) (i : ℕ) (x y : ValType) → i < length xs → i < length ys → x ≡ get_or xs i x → y ≡ get_or ys i y
    → same_types (drop i xs) (drop i ys) ≡ (same_type x y && same_types (drop (i + 1) xs) (drop (i + 1) ys))
at_both xs ys i x y hx hy ex ey =
    ap (λ v. same_types v (drop i ys)) (drop-cons xs i x hx ∙ ap (λ v. v ∷ drop (suc i) xs) (sym ex))
    ∙ ap (same_types (x ∷ drop (suc i) xs)) (drop-cons ys i y hy ∙ ap (λ v. v ∷ drop (suc i) ys) (sym ey))
    ∙ ap (λ n. same_type x y && same_types (drop n xs) (drop n ys)) (sym (add-one i))

pub same_on : (xs ys : List ValType) (i : ℕ) (x y : ValType) → i < length xs → i < length ys → x ≡ get_or xs i x → y ≡ get_or ys i y → x ≡ y
    → same_types (drop i xs) (drop i ys) ≡ same_types (drop (i + 1) xs) (drop (i + 1) ys)
same_on xs ys i x y hx hy ex ey e =
    at_both xs ys i x y hx hy ex ey ∙ ap (λ b. b && same_types (drop (i + 1) xs) (drop (i + 1) ys)) (ap (same_type x) (sym e) ∙ same_itself x)

pub differ_at : (xs ys : List ValType) (i : ℕ) (x y : ValType) → i < length xs → i < length ys → x ≡ get_or xs i x → y ≡ get_or ys i y → (x ≡ y → ⊥) → same_types (drop i xs) (drop i ys) ≡ false
differ_at xs ys i x y hx hy ex ey h =
    at_both xs ys i x y hx hy ex ey ∙ ap (λ b. b && same_types (drop (i + 1) xs) (drop (i + 1) ys)) (not_same x y h)

pub ruleset same_lists = (lengths_differ, same_on, differ_at)
