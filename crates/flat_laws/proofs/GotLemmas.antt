-- Code that reads locals one after the other.
use Rattle.std.proofs.Common.{◌≡◌, ◌∙◌, ℕ, ◌-◌, ◌≤◌, List, [], ◌∷◌, ◌++◌, length, map, take, drop, refl, sym, ap, reverse, length-drop}
use Rattle.std.proofs.lemmas.List.{reverse-append, take-append-drop, length-reverse}
use Rattle.std.proofs.Math.Seq.{drop-append_seam}
use Rattle.wa_types.specs.Syntax.{local_get, Code, plain}
use Rattle.wa_model.specs.declared.flat.Operand.{Operand}
use Rattle.wa_model.specs.declared.flat.Operand.TheVariants.{Local}
use Rattle.run_theory.specs.Flat.{all_got, slots_got, last_of}

pub all_got_on : (xs ys : List Operand) (code : Code) → all_got (xs ++ ys) code ≡ all_got xs (all_got ys code)
all_got_on [] ys code = refl
all_got_on (Local x ∷ xs) ys code = ap (plain (local_get x)) (all_got_on xs ys code)
all_got_on (a ∷ xs) ys code = let e = all_got_on xs ys code in cc

slots_all : (xs : List ℕ) (code : Code) → slots_got xs code ≡ all_got (map Local xs) code
slots_all [] code = refl
slots_all (x ∷ xs) code = ap (plain (local_get x)) (slots_all xs code)

pub last_reverse : (k : ℕ) (xs : List ℕ) → k ≤ length xs → last_of k (reverse xs) ≡ reverse (take k xs)
last_reverse k xs le =
    let front : List ℕ = reverse (drop k xs) in
    let back : List ℕ = reverse (take k xs) in
    let e : reverse xs ≡ front ++ back = ap reverse (sym (take-append-drop k xs)) ∙ reverse-append (take k xs) (drop k xs) in
    let n : length (reverse xs) - k ≡ length front = count e in
    ap (λ j. drop j (reverse xs)) n ∙ ap (drop (length front)) e ∙ drop-append_seam front back
  where
    count : reverse xs ≡ reverse (drop k xs) ++ reverse (take k xs) → length (reverse xs) - k ≡ length (reverse (drop k xs))
    count e = ap (λ n. n - k) (length-reverse xs) ∙ sym (length-drop k xs) ∙ sym (length-reverse (drop k xs))

pub args_got : (k : ℕ) (xs : List ℕ) (code : Code) → k ≤ length xs → slots_got (last_of k (reverse xs)) code ≡ all_got (map Local (reverse (take k xs))) code
args_got k xs code le = ap (λ ys. slots_got ys code) (last_reverse k xs le) ∙ slots_all (reverse (take k xs)) code
