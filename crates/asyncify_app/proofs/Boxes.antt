-- Boxed devices that are lent.
use Rattle.std.proofs.Common.{◌≡◌, ℕ, List, [], ◌∷◌, map, Option, refl, sym, ap, ◌∙◌, subst}
use Rattle.vault_port.specs.Files.{Files}
use Rattle.world_model.specs.World.{Device}
use Rattle.event_order.specs.Left.{Counted}
use Rattle.script_command.specs.declared.way.Way.{Way}
use Rattle.script_command.specs.Answers.{HasOneEnd}
use Rattle.script_command.specs.Ends.{call}
use Rattle.script_command.proofs.Answering.{kept_devices}
use Rattle.asyncify_app.specs.Devices.{counted_boxes}

abbrev one : Device → ℕ → Counted
one d n = record { device = d; faults = n }

-- lists with the same devices and the same counts
pub counted_same : {B : Type 0} (seen : B → Device) (faults : B → ℕ) (xs ys : List B) → map seen xs ≡ map seen ys → map faults xs ≡ map faults ys
    → counted_boxes seen faults xs ≡ counted_boxes seen faults ys
counted_same seen faults [] [] e f = refl
counted_same seen faults [] (y ∷ ys) e f = cc
counted_same seen faults (x ∷ xs) [] e f = cc
counted_same seen faults (x ∷ xs) (y ∷ ys) e f =
    let d : seen x ≡ seen y = cc in
    let ds : map seen xs ≡ map seen ys = cc in
    let n : faults x ≡ faults y = cc in
    let ns : map faults xs ≡ map faults ys = cc in
    ap (λ (a : Device). one a (faults x) ∷ counted_boxes seen faults xs) d ∙ ap (λ (k : ℕ). one (seen y) k ∷ counted_boxes seen faults xs) n
    ∙ ap (λ (cs : List Counted). one (seen y) (faults y) ∷ cs) (counted_same seen faults xs ys ds ns)

module _ (way : Way) (name : List ℕ) (files : Option Files) (f f' p p' : ℕ) (old new : Option (List ℕ)) (mid ds last ds' : List Counted) (status : ℕ) (same : mid ≡ ds)
    (left : last ≡ ds') (h : HasOneEnd (call way name files f f' p p' old new mid last) status) where
  pub ends_lent : HasOneEnd (call way name files f f' p p' old new ds ds') status
  ends_lent = subst (λ (cs : List Counted). HasOneEnd (call way name files f f' p p' old new ds cs) status) left
      (subst (λ (cs : List Counted). HasOneEnd (call way name files f f' p p' old new cs last) status) same h)

  pub kept_lent : (status ≡ 0 → ⊥) → (status ≡ 9 → ⊥) → (status ≡ 12 → ⊥) → ds' ≡ ds
  kept_lent zero nine twelve = sym left ∙ kept_devices (call way name files f f' p p' old new mid last) status h.end zero nine twelve ∙ same
