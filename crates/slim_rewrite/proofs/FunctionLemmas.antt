-- Whole functions.
use Rattle.std.proofs.Common.{◌≡◌, ℕ, zero, suc, ◌<◌, ◌^◌, List, [], ◌∷◌, length, take, sym, ap, ◌∙◌, subst, arith}
use Rattle.run_theory.specs.Flat.{FlatFunc}
use Rattle.run_theory.specs.FlatFits.{FlatFits}
use Rattle.guard_form.specs.Pieces.{call_total, first_piece, units}
use Rattle.slim_laws.specs.Emit.{free_by}
use Rattle.slim_laws.specs.Slim.{Free, Covers, Reaches, Terms}
use Rattle.slim_laws.proofs.EmittedCode as E
use Rattle.slim_laws.specs.SlimUnits.{SlimUnits}
use Rattle.slim_rewrite.specs.declared.stack.Walk.{Walk}
use Rattle.slim_rewrite.specs.Walking.{free_at, shape_at, Among}
use Rattle.slim_rewrite.proofs.BranchLemmas.{bare_shape}
use Rattle.slim_rewrite.specs.declared.sequence.Written.{Written}
use Rattle.slim_rewrite.specs.Coming.{Around, Ready}
use Rattle.slim_rewrite.specs.Functions.{is_between, AreSlim}
use Rattle.slim_rewrite.specs.Inside.{first_code, units_in, IsWritten}

pub func_ready : (g : FlatFunc) → FlatFits g → call_total g.body < 2 ^ 32 → Ready 0 g.body
func_ready g h few = record { locals = length g.locals; labels = 1; fit = h.statements; room = omega (arith, few) }

module _ (low count : ℕ) (a : Walk) (low_is : a.low ≡ low) (places : length a.places.items ≡ count) (stack : a.stack.items ≡ []) (set : a.set ≡ 0) (floor : a.floor ≡ 0) where
  pub function_slim : (ps : List ℕ) (g : FlatFunc) (b : Walk) (w : Written) → IsWritten ps a 0 g.body b w → AreSlim ps low count g w.pieces
  function_slim ps g b w h = λ t slots size fixed.
      let out : Free = free_by t.slot [] in
      let among : Among t a = record { slots = λ x. slots x ∙ (λ j. is_between (sym low_is j) (sym places j) x); size = omega (arith, size, low_is, places) } in
      let none : (n : ℕ) → n ≡ 0 → free_by t.slot (take n a.stack.items) ≡ out = λ n e. λ j. free_by t.slot (take (e j) (stack j)) in
      let here : free_at t a ≡ out = none a.set set in
      let around : Around t a (out ∷ []) = labels t out (free_by t.slot (take a.floor a.stack.items)) (subst (λ f. Covers f out) (sym (none a.floor floor)) (λ y e. e)) in
      let bare : shape_at a ≡ [] = bare_shape a (set ∙ sym (ap length stack)) in
      let sl = h.slim t among 0 (out ∷ []) out around fixed (λ e. E.covers_by t (take b.set b.stack.items) [] (λ y q. cc)) in
      subst (λ sh. SlimUnits t 0 (out ∷ []) out out sh (first_piece ps 0 g.body) (units ps 0 g.body) (first_code w.pieces) (units_in w.pieces)) bare
      (subst (λ f. SlimUnits t 0 (out ∷ []) out f (shape_at a) (first_piece ps 0 g.body) (units ps 0 g.body) (first_code w.pieces) (units_in w.pieces)) here sl)
    where
      labels : (t : Terms) (g f : Free) → Covers f g → (i : ℕ) → Reaches f (g ∷ []) i
      labels t g f co zero = co
      labels t g f co (suc i) = tt
