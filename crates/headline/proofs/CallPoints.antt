-- What a call saves is the same for the original and for the original with the memory that it is compared with.
use Rattle.std.proofs.Common.{◌≡◌, ◌∙◌, ℕ, List, [], ◌∷◌, ◌++◌, drop, Option, Some, Bool, true, false, refl, sym, ap, subst}
use Rattle.std.specs.Prelude.{slice_get}
use Rattle.wa_types.specs.Base.{Base}
use Rattle.wa_types.specs.Frames.{Saved, SlotPairs, is_on_stack}
use Rattle.wa_types.specs.Liveness.{is_live_after}
use Rattle.wa_types.specs.Modules.{around, defined_at, locals_of}
use Rattle.wa_types.specs.Pausing.{Policy, callee, save_all, save_live}
use Rattle.wa_types.specs.Points.{after, call_points, func_call_points, if_call, unless_last}
use Rattle.wa_types.specs.Pruned.{is_last, pruned}
use Rattle.wa_types.specs.Syntax.{Code, branch, done, nest, plain, Func, Module}
use Rattle.wa_types.specs.Typing.{Around, Types, label, listed, sig}
use Rattle.wa_types.specs.Validity.{Valid}
use Rattle.wa_types.specs.declared.values.ValType.{ValType}
use Rattle.wa_types.proofs.PointLemmas.{passes, takes_after}
use Rattle.wa_types.proofs.TypingLemmas.{pruned_types}
use Rattle.run_theory.proofs.BaseValid.{base_wider}
use Rattle.run_theory.proofs.FittingSteps.{body_typed}
use Rattle.run_theory.proofs.WiderTyping.{Wider, takes_wider}
use Rattle.flat_laws.proofs.RuntimeModules.{base_slots}
use Rattle.headline.proofs.KeptFields.{places_by}
use Rattle.headline.proofs.PairedFlat.{base_locals}

points_same : (c d : Around) (w : Wider c d) (ls : List (Option ValType)) (k : Code) (outs under ops : List ValType) → Types c ls k outs ops
    → call_points c ls k under ops ≡ call_points d ls k under ops
unfolding call_points Types
points_same c d w ls done outs under ops t = refl
points_same c d w ls (plain p rest) outs under ops t = by_last (is_last p) refl (points_same c d w ls rest outs under t.0 t.2)
  where
    by_last : (b : Bool) → is_last p ≡ b → call_points c ls rest under t.0 ≡ call_points d ls rest under t.0
        → if_call (callee p) (ops ++ under) ++ unless_last b (call_points c ls rest under (after (sig c ls p) ops))
        ≡ if_call (callee p) (ops ++ under) ++ unless_last b (call_points d ls rest under (after (sig d ls p) ops))
    by_last true e h = refl
    by_last false e h =
        let left = takes_after (sig c ls p) ops t.0 (passes c ls p e) t.1 in
        let right = takes_after (sig d ls p) ops t.0 (passes d ls p e) (takes_wider c d w ops t.0 ls p t.1) in
        ap (λ xs. if_call (callee p) (ops ++ under) ++ xs) (ap (call_points c ls rest under) (sym left) ∙ h ∙ ap (call_points d ls rest under) right)
points_same c d w ls (nest s r body rest) outs under ops t =
    ap (λ xs. xs ++ call_points c ls rest under (listed r ++ ops)) (points_same c d w (label s r ∷ ls) body (listed r) (ops ++ under) [] t.0)
    ∙ ap (λ xs. call_points d (label s r ∷ ls) body (ops ++ under) [] ++ xs) (points_same c d w ls rest outs under (listed r ++ ops) t.1)
points_same c d w ls (branch r a b rest) outs under ops t =
    let e : t.0 ≡ drop 1 ops = sym (ap (drop 1) t.1) in
    let behind = subst (λ xs. Types c ls rest outs (listed r ++ xs)) e t.4 in
    ap (λ xs. xs ++ (call_points c (r ∷ ls) b (drop 1 ops ++ under) [] ++ call_points c ls rest under (listed r ++ drop 1 ops))) (points_same c d w (r ∷ ls) a (listed r) (drop 1 ops ++ under) [] t.2)
    ∙ ap (λ xs. call_points d (r ∷ ls) a (drop 1 ops ++ under) [] ++ (xs ++ call_points c ls rest under (listed r ++ drop 1 ops)))
    (points_same c d w (r ∷ ls) b (listed r) (drop 1 ops ++ under) [] t.3)
    ∙ ap (λ xs. call_points d (r ∷ ls) a (drop 1 ops ++ under) [] ++ (call_points d (r ∷ ls) b (drop 1 ops ++ under) [] ++ xs)) (points_same c d w ls rest outs under (listed r ++ drop 1 ops) behind)

pub base_call_points : (m : Module) → Valid m → (x : ℕ) (f : Func) → defined_at m x ≡ Some f → func_call_points (Base m) f ≡ func_call_points m f
base_call_points m v x f is =
    let c : Around = around m f in
    let d : Around = around (Base m) f in
    let w = base_wider m f in
    sym (points_same c d w (c.result ∷ []) (pruned f.body) (listed c.result) [] [] (pruned_types c (c.result ∷ []) f.body (listed c.result) [] (body_typed m v x f is))
    ∙ ap (λ r. call_points d (r ∷ []) (pruned f.body) [] []) (sym w.result))

-- the saved locals, for either policy
pub base_saved : (m : Module) → Valid m → (x : ℕ) (f : Func) → defined_at m x ≡ Some f → (policy : Policy) (at : ℕ) → Saved (Base m) policy f at ≡ Saved m policy f at
base_saved m v x f is save_all at =
    ap (λ ts. places_by (λ y. true) (λ p. true) ts (SlotPairs (Base m) f)) (base_locals m f) ∙ ap (places_by (λ y. true) (λ p. true) (locals_of m f)) (base_slots m v x f is)
base_saved m v x f is save_live at =
    ap (λ ps. places_by (is_live_after f at) (is_on_stack (slice_get ps at)) (locals_of (Base m) f) (SlotPairs (Base m) f)) (base_call_points m v x f is)
    ∙ ap (λ ts. places_by (is_live_after f at) (is_on_stack (slice_get (func_call_points m f) at)) ts (SlotPairs (Base m) f)) (base_locals m f)
    ∙ ap (places_by (is_live_after f at) (is_on_stack (slice_get (func_call_points m f) at)) (locals_of m f)) (base_slots m v x f is)
