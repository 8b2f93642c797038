-- Where flattening begins.
use Rattle.std.proofs.Common.{◌≡◌, ℕ, ◌++◌, List, [], ◌∷◌, reverse, Option, ap, sym, ◌∙◌}
use Rattle.wa_types.specs.declared.values.ValType.{ValType}
use Rattle.wasm_validate.specs.Walk.{Walk}
use Rattle.flat_laws.specs.Flatten.{Names, slots}
use Rattle.flatten.specs.Emitting.{all_of, label_locals, result_at}

pub begin_held : (n : Names) (w : Walk) (ss : List ℕ) → ss ≡ [] → w.own ≡ [] → w.under ≡ [] → reverse ss ≡ slots n (all_of w)
begin_held n w ss e own under = ap reverse e ∙ sym (ap (λ z. slots n (z ++ w.under)) own ∙ ap (slots n) under)

pub begin_labels : (n : Names) (w : Walk) (given : Option ValType) (old new : List (Option ℕ)) (x : Option ℕ) → old ≡ [] → new ≡ old ++ x ∷ [] → x ≡ result_at n 0 given
    → w.labels ≡ given ∷ [] → reverse new ≡ label_locals n w.labels
begin_labels n w given old new x eo en ex el = ap reverse en ∙ ap (λ z. reverse (z ++ x ∷ [])) eo ∙ ap (λ y. y ∷ []) ex ∙ sym (ap (label_locals n) el)

pub ruleset beginning = (begin_held, begin_labels)
