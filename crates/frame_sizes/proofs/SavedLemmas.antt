-- What a frame saves, put together.
use Rattle.std.proofs.Common.{arith, ◌≡◌, ℕ, zero, suc, ◌<◌, ◌++◌, List, [], ◌∷◌, map, length, slice_get, Some, ap, sym, ◌∙◌, subst, refl}
use Rattle.std.specs.List.{list_any}
use Rattle.wa_types.specs.declared.values.ValType.{ValType}
use Rattle.wa_types.specs.declared.syntax.Module.{Module as ModuleValue}
use Rattle.wa_types.specs.declared.syntax.Func.{Func as FuncValue}
use Rattle.wa_types.specs.Syntax.{Code, Func, Module}
use Rattle.wa_types.specs.Pruned.{pruned}
use Rattle.wa_types.specs.Pausing.{Policy}
use Rattle.wa_types.specs.Typing.{listed}
use Rattle.wa_types.specs.Validity.{Valid}
use Rattle.wa_types.specs.View.{func_of, module_of}
use Rattle.wa_types.specs.Modules.{around, locals_of}
use Rattle.wa_types.specs.Points.{func_points, func_call_points}
use Rattle.wa_types.specs.Frames.{Pair, Place, SlotPairs, Saved, greatest, pairs_from, stands_at, named_places, slot_places}
use Rattle.wa_types.proofs.TypingLemmas.{pruned_types}
use Rattle.wasm_validate.specs.Walk.{Walk, outset, TypedAt}
use Rattle.frame_sizes.specs.Points.{points_at, calls_at}
use Rattle.frame_sizes.specs.Frames.{keep_local, keep_slot}
use Rattle.frame_sizes.proofs.FrameLemmas.{saved_is}

-- a defined function is there
pub there : (m : ModuleValue) (i : ℕ) → i < length m.funcs.items → (f : Func) × (slice_get (module_of m).funcs i ≡ Some f)
there m i lt = at m.funcs.items i lt
  where
    at : (fs : List FuncValue) (i : ℕ) → i < length fs → (f : Func) × (slice_get (map func_of fs) i ≡ Some f)
    at [] i lt = absurd (omega (arith, lt))
    at (f ∷ fs) zero lt = (func_of f, refl)
    at (f ∷ fs) (suc i) lt = at fs i (omega (arith, lt))

-- the pruned body is typed where a walk begins
pub pruned_typed : (m : Module) (i : ℕ) (f : Func) (w : Walk) (body : Code) → Valid m → slice_get m.funcs i ≡ Some f → w ≡ outset (around m f) → body ≡ pruned f.body → TypedAt w body
pruned_typed m i f w body v is e b =
    let c = around m f in
    let typed : TypedAt (outset c) (pruned f.body) = (listed c.result, pruned_types c (c.result ∷ []) f.body (listed c.result) [] (v.bodies i f is)) in
    subst (λ (z : Walk). TypedAt z body) (sym e) (subst (TypedAt (outset c)) (sym b) typed)

-- All parts are those of the definition.
pub saved_whole : (m : Module) (p : Policy) (f : Func) (place n : ℕ) (w : Walk) (body body' : Code) (points calls points' calls' : List (List ValType)) (locals locals' : List ValType)
    (slots slots' : List Pair) (named all : List Place)
    → w ≡ outset (around m f) → body ≡ pruned f.body → body' ≡ body → points ≡ points_at w body → calls ≡ calls_at w body → points' ≡ points → calls' ≡ calls
    → slots ≡ pairs_from (λ h t. list_any (stands_at h t) points') 0 (greatest points') → slots' ≡ slots → locals ≡ locals_of m f → locals' ≡ locals → n ≡ length locals'
    → named ≡ named_places (keep_local p body' place) 0 locals' → all ≡ named ++ slot_places (keep_slot p (slice_get calls' place)) n slots' → all ≡ Saved m p f place
saved_whole m p f place n w body body' points calls points' calls' locals locals' slots slots' named all ew eb eb' ep ec ep' ec' es es' el el' en h g =
    let ps : points' ≡ func_points m f = ep' ∙ ep ∙ ap (λ (z : Walk). points_at z body) ew ∙ ap (points_at (outset (around m f))) eb in
    let cs : calls' ≡ func_call_points m f = ec' ∙ ec ∙ ap (λ (z : Walk). calls_at z body) ew ∙ ap (calls_at (outset (around m f))) eb in
    let ss : slots' ≡ SlotPairs m f = es' ∙ es ∙ ap (λ (qs : List (List ValType)). pairs_from (λ h t. list_any (stands_at h t) qs) 0 (greatest qs)) ps in
    g ∙ ap (λ z. z ++ slot_places (keep_slot p (slice_get calls' place)) n slots') h
    ∙ ap (λ k. named_places (keep_local p body' place) 0 locals' ++ slot_places (keep_slot p (slice_get calls' place)) k slots') en
    ∙ saved_is m p f place body' locals' slots' calls' (eb' ∙ eb) (el' ∙ el) ss cs

pub same_some : (f g : Func) → Some f ≡ Some g → f ≡ g
same_some f g e = cc
