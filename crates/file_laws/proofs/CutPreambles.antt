-- The preamble alone is a file, and its beginnings fail where they end.
use Rattle.std.proofs.Common.{◌≡◌, ℕ, ◌<◌, ◌≤◌, inr, List, [], ◌++◌, refl, ap, sym, ◌∙◌, arith, append-nil, append_assoc, length, length-append, length-take-le, take, drop}
use Rattle.std.proofs.lemmas.List.{take-append-drop}
use Rattle.wa_types.specs.Encoding.{preamble}
use Rattle.wa_types.specs.Spells.{Spells}
use Rattle.wa_types.specs.Begun.{IsWhole, FaultAt}
use Rattle.file_laws.proofs.FileReads.{whole_spelled, spelled_begun}

pub empty_spelled : Spells preamble []
empty_spelled = record { parts = (preamble, [], sym (append-nil preamble), refl, refl); order = tt; counts = refl }

whole_long : (bytes : List ℕ) → IsWhole bytes → 8 ≤ length bytes
whole_long bytes w =
    let s = whole_spelled bytes w in
    let p = s.1.parts in
    omega (arith, ap length p.2, length-append p.0 p.1, ap length p.3)

pub cut_fails : (k : ℕ) → k < 8 → FaultAt (take k preamble) k
cut_fails k h =
    let len : length (take k preamble) ≡ k = length-take-le k preamble (omega (arith, h)) in
    record {
      within = omega (arith, len);
      before = λ j lt. spelled_begun preamble [] empty_spelled (take j (take k preamble)) (drop j (take k preamble) ++ drop k preamble)
          (sym (take-append-drop k preamble) ∙ ap (λ z. z ++ drop k preamble) (sym (take-append-drop j (take k preamble)))
          ∙ append_assoc (take j (take k preamble)) (drop j (take k preamble)) (drop k preamble));
      stops = inr (sym len, λ w. omega (arith, whole_long (take k preamble) w, len, h));
    }
