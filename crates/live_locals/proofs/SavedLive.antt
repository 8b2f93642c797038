-- What a flat function's call keeps is what the policy `live` saves.
use Rattle.std.proofs.Common.{◌≡◌, ◌∙◌, ℕ, zero, suc, ◌+◌, ◌<◌, ◌≤◌, ◌↔◌, inl, inr, List, [], ◌∷◌, ◌++◌, length, map, reverse, get_or, Option, Some, None, Bool, true, false, ◌||◌, refl, sym, ap, subst, arith, length-append}
use Rattle.std.specs.Prelude.{slice_get}
use Rattle.std.specs.Option.{option_map}
use Rattle.std.proofs.lemmas.Bool.{ne_eqb}
use Rattle.std.proofs.lemmas.List.{append-nil, length-map}
use Rattle.std.proofs.lemmas.Option.{slice_get-map, slice_get-get_or, slice_get_within}
use Rattle.wa_types.specs.declared.values.ValType.{ValType}
use Rattle.wa_types.specs.Syntax.{a_block, Code, nest, Func, Module}
use Rattle.wa_types.specs.Pruned.{pruned}
use Rattle.wa_types.specs.Typing.{Typed}
use Rattle.wa_types.specs.Modules.{around, defined_at, locals_of}
use Rattle.wa_types.specs.Pausing.{calls_in, is_told, save_live}
use Rattle.wa_types.specs.Points.{func_call_points}
use Rattle.wa_types.specs.Liveness.{Position, ReadsFirst, behind_calls, is_live_after, live, live_at, live_from, told_at}
use Rattle.wa_types.specs.Frames.{Pair, Place, SlotPairs, ResultPairs, Saved, is_on_stack, is_type, named_places, place_onto, slot_places, stands_at}
use Rattle.wa_types.specs.Validity.{Valid}
use Rattle.wa_types.proofs.LiveLemmas.{live_reads, reads_live}
use Rattle.wa_types.proofs.PlaceLemmas.{point_each}
use Rattle.wa_types.proofs.SlotLemmas.{same_true, same_self}
use Rattle.run_theory.proofs.FittingSteps.{body_typed}
use Rattle.run_theory.specs.Flat.{FlatFunc, code_of, body_of, result_got}
use Rattle.flat_laws.specs.Flatten.{Names, names, place, slots, result_local, result_of, flattened}
use Rattle.flat_laws.specs.FlatModule.{stacks_in}
use Rattle.flat_laws.proofs.Sizes.{stacks_are_slots}
use Rattle.flat_laws.specs.Behind.{Among}
use Rattle.flat_laws.proofs.OwnLemmas.{own_uses}
use Rattle.flat_laws.proofs.PrunedFlat.{whole_flat, whole_result}
use Rattle.flat_laws.proofs.StackReads.{stack_reads}
use Rattle.frame_sizes.specs.Lives.{lives}
use Rattle.frame_sizes.proofs.LiveLemmas.{told_calls}
use Rattle.slot_laws.proofs.SavedOperands.{operands_saved, slots_once}
use Rattle.live_locals.specs.LiveAt.{KeepsAt, OnStack}
use Rattle.live_locals.specs.LiveSaved.{LiveIsSaved}
use Rattle.live_locals.proofs.UsesLive.{uses_lives}
use Rattle.live_locals.proofs.StackSlots.{pair_at, place_found, place_within, slot_among, among_slot, from_reversed}
use Rattle.flat_laws.proofs.LiveFlat.{among_reversed}

-- ---- lists of places

named_append : (keep : ℕ → Bool) (x : ℕ) (ts us : List ValType) → named_places keep x (ts ++ us) ≡ named_places keep x ts ++ named_places keep (x + length ts) us
named_append keep x [] us = let z : x ≡ x + 0 = omega arith in ap (λ k. named_places keep k us) z
named_append keep x (t ∷ ts) us =
    let z : suc x + length ts ≡ x + suc (length ts) = omega arith in
    ap (place_onto (keep x) x t) (named_append keep (suc x) ts us ∙ ap (λ k. named_places keep (suc x) ts ++ named_places keep k us) z)
    ∙ onto_append (keep x) (named_places keep (suc x) ts) (named_places keep (x + suc (length ts)) us)
  where
    onto_append : (b : Bool) (ps qs : List Place) → place_onto b x t (ps ++ qs) ≡ place_onto b x t ps ++ qs
    onto_append true ps qs = refl
    onto_append false ps qs = refl

named_same : (keep keep2 : ℕ → Bool) (x : ℕ) (ts : List ValType) → ((i : ℕ) → i < length ts → keep (x + i) ≡ keep2 (x + i)) → named_places keep x ts ≡ named_places keep2 x ts
named_same keep keep2 x [] h = refl
named_same keep keep2 x (t ∷ ts) h =
    let z : x + 0 ≡ x = omega arith in
    let e : keep x ≡ keep2 x = ap keep (sym z) ∙ h 0 (omega arith) ∙ ap keep2 z in
    ap (λ b. place_onto b x t (named_places keep (suc x) ts)) e
    ∙ ap (place_onto (keep2 x) x t)
    (named_same keep keep2 (suc x) ts (λ i lt. let y : suc x + i ≡ x + suc i = omega arith in ap keep y ∙ h (suc i) (omega (arith, lt)) ∙ ap keep2 (sym y)))

named_slots : (keep : ℕ → Bool) (keep_slot : Pair → Bool) (x : ℕ) (ps : List Pair) → ((i : ℕ) (p : Pair) → slice_get ps i ≡ Some p → keep (x + i) ≡ keep_slot p)
    → named_places keep x (map (λ (p : Pair). p.ty) ps) ≡ slot_places keep_slot x ps
named_slots keep keep_slot x [] h = refl
named_slots keep keep_slot x (p ∷ ps) h =
    let z : x + 0 ≡ x = omega arith in
    ap (λ b. place_onto b x p.ty (named_places keep (suc x) (map (λ (q : Pair). q.ty) ps))) (ap keep (sym z) ∙ h 0 p refl)
    ∙ ap (place_onto (keep_slot p) x p.ty)
    (named_slots keep keep_slot (suc x) ps (λ i q e. let y : suc x + i ≡ x + suc i = omega arith in ap keep y ∙ h (suc i) q e))

named_none : (keep : ℕ → Bool) (x : ℕ) (ts : List ValType) → ((i : ℕ) → i < length ts → keep (x + i) ≡ false) → named_places keep x ts ≡ []
named_none keep x [] h = refl
named_none keep x (t ∷ ts) h =
    let z : x + 0 ≡ x = omega arith in
    ap (λ b. place_onto b x t (named_places keep (suc x) ts)) (ap keep (sym z) ∙ h 0 (omega arith))
    ∙ named_none keep (suc x) ts (λ i lt. let y : suc x + i ≡ x + suc i = omega arith in ap keep y ∙ h (suc i) (omega (arith, lt)))

-- ---- tests

-- two tests are the same where they pass together
same_test : (a b : Bool) → (a ≡ true → b ≡ true) → (b ≡ true → a ≡ true) → a ≡ b
same_test true true f g = refl
same_test true false f g = sym (f refl)
same_test false true f g = g refl
same_test false false f g = refl

never : (a : Bool) → (a ≡ true → ⊥) → a ≡ false
never true h = absurd (h refl)
never false h = refl

live_map : (x : ℕ) (places : List Position) (place : ℕ) → is_told (slice_get (map (live_at x) places) place) ≡ live_from x (slice_get places place)
live_map x [] place = refl
live_map x (p ∷ ps) zero = refl
live_map x (p ∷ ps) (suc n) = live_map x ps n

-- at a place it is told of the code from there on
told_place : (y place : ℕ) (code : Code) → is_told (slice_get (lives y [] false code) place) ≡ live_from y (slice_get (behind_calls [] code) place)
told_place y place code = ap (λ bs. is_told (slice_get bs place)) (told_calls y [] code) ∙ live_map y (behind_calls [] code) place

from_some : (y : ℕ) (o : Option Position) → live_from y o ≡ true → (at : Position) × (o ≡ Some at) × ReadsFirst y at
from_some y None e = cc
from_some y (Some at) e = (at, refl, live_reads y at e)

some_from : (y : ℕ) (o : Option Position) (at : Position) → o ≡ Some at → ReadsFirst y at → live_from y o ≡ true
some_from y o at e h = ap (live_from y) e ∙ reads_live y at h

module _ (m : Module) (x : ℕ) (f : Func) (place_ : ℕ) (valid : Valid m) (is : defined_at m x ≡ Some f) (typed : Typed (around m f) f.body) (within : place_ < length (calls_in f)) where
  abbrev fl : FlatFunc
  fl = flattened m x f

  abbrev own : ℕ
  own = length (locals_of m f)

  abbrev nm : Names
  nm = names m f

  abbrev ops : List ValType
  ops = get_or (func_call_points m f) place_ []

  points_at : slice_get (func_call_points m f) place_ ≡ Some ops
  points_at = let e = point_each (around m f) ((around m f).result ∷ []) f.body [] [] in slice_get-get_or (func_call_points m f) place_ [] (omega (arith, e, within))

  stack_at : slice_get (stacks_in fl.body) place_ ≡ Some (reverse (slots nm ops))
  stack_at =
      let g : List ValType → List ℕ = λ (os : List ValType). reverse (slots nm os) in
      ap (λ z. slice_get z place_) (stacks_are_slots m x f typed) ∙ slice_get-map g (func_call_points m f) place_ ∙ ap (option_map g) points_at

  same_list : (a b : List ℕ) → Some a ≡ Some b → a ≡ b
  same_list a b e = cc

  -- on the stack is the slot of an operand
  on_stack : (y : ℕ) → OnStack fl place_ y → Among y (slots nm ops)
  on_stack y o = from_reversed nm y ops (subst (Among y) (same_list o.0 (reverse (slots nm ops)) (sym o.1 ∙ stack_at)) o.2)

  stack_on : (y : ℕ) → Among y (slots nm ops) → OnStack fl place_ y
  stack_on y a = (reverse (slots nm ops), stack_at, among_reversed y (slots nm ops) a)

  -- ---- the flat body has nothing that is cut

  whole : pruned (body_of fl) ≡ body_of fl
  unfolding pruned
  whole =
      let a = whole_flat nm (around m f) ((around m f).result ∷ []) f.body [] in
      let b = whole_result (result_of nm (around m f).result) in
      λ i. nest a_block None (a i) (b i)

  -- an extra local that is kept is on the stack
  stack_of : (y : ℕ) → own ≤ y → KeepsAt fl place_ y → Among y (slots nm ops)
  stack_of y le (inl o) = on_stack y o
  stack_of y le (inr r) = on_stack y (stack_reads m x f place_ y valid is le (r.0, ap (λ k. slice_get (behind_calls [] k) place_) whole ∙ r.1, r.2))

  -- ---- own locals

  abbrev result : Option ℕ
  result = result_of nm (around m f).result

  -- the result isn't own
  result_other : (y : ℕ) → y < own → (o : Option ValType) → live y [] false (result_got (result_of nm o)) ≡ false
  unfolding live
  result_other y lt None = refl
  result_other y lt (Some t) = ap (λ b. b || false) (ne_eqb y (result_local nm 0 t) (λ e. absurd (omega (arith, e, lt))))

  result_lives : (y : ℕ) (o : Option ℕ) → lives y [] false (result_got o) ≡ []
  unfolding lives
  result_lives y None = refl
  result_lives y (Some z) = refl

  none_told : (l : ℕ) → told_at (false ∷ []) l ≡ told_at [] l
  none_told zero = refl
  none_told (suc l) = refl

  own_lives : (y : ℕ) → y < own → lives y [] false (body_of fl) ≡ lives y [] false (pruned f.body)
  unfolding lives
  own_lives y lt =
      let b : Code = code_of fl.body in
      ap (λ k. lives y (k ∷ []) k b ++ lives y [] false (result_got result)) (result_other y lt (around m f).result)
      ∙ ap (λ bs. lives y (false ∷ []) false b ++ bs) (result_lives y result) ∙ append-nil (lives y (false ∷ []) false b)
      ∙ sym (uses_lives own y lt 0 b (false ∷ []) (false ∷ []) false (λ l. refl) refl)
      ∙ ap (lives y (false ∷ []) false) (own_uses m x f valid is)
      ∙ uses_lives own y lt 0 (pruned f.body) [] (false ∷ []) false none_told refl

  own_told : (y : ℕ) → y < own → live_from y (slice_get (behind_calls [] (body_of fl)) place_) ≡ is_live_after f place_ y
  own_told y lt = sym (told_place y place_ (body_of fl)) ∙ ap (λ bs. is_told (slice_get bs place_)) (own_lives y lt) ∙ told_place y place_ (pruned f.body)

  own_kept : (k : Bool) (y : ℕ) → y < own → (k ≡ true) ↔ KeepsAt fl place_ y → k ≡ is_live_after f place_ y
  own_kept k y lt h = same_test k (is_live_after f place_ y) (λ e. there (h.0 e)) (λ e. h.1 (inr (from_some y (slice_get (behind_calls [] (body_of fl)) place_) (own_told y lt ∙ e))))
    where
      there : KeepsAt fl place_ y → is_live_after f place_ y ≡ true
      there (inl o) = let w = among_slot nm y ops (on_stack y o) in let q = w.3 in absurd (omega (arith, q, lt))
      there (inr r) = sym (own_told y lt) ∙ some_from y (slice_get (behind_calls [] (body_of fl)) place_) r.0 r.1 r.2

  -- ---- slots

  the_pair : (p q : Pair) → Some p ≡ Some q → p ≡ q
  the_pair p q e = cc

  typed_some : (t : ValType) (o : Option ValType) → is_type t o ≡ true → o ≡ Some t
  typed_some t None e = cc
  typed_some t (Some u) e = ap Some (sym (same_true t u e))

  slot_kept : (k : Bool) (i : ℕ) (p : Pair) → slice_get (SlotPairs m f) i ≡ Some p → (k ≡ true) ↔ KeepsAt fl place_ (own + i) → k ≡ is_on_stack (slice_get (func_call_points m f) place_) p
  slot_kept k i p at h = same_test k (is_on_stack (slice_get (func_call_points m f) place_) p) (λ e. there (stack_of (own + i) (omega arith) (h.0 e))) (λ e. h.1 (inl (back e)))
    where
      there : Among (own + i) (slots nm ops) → is_on_stack (slice_get (func_call_points m f) place_) p ≡ true
      there a =
          let w = among_slot nm (own + i) ops a in
          let q = w.3 in
          let z : i ≡ place w.0 w.1 (SlotPairs m f) = omega (arith, q) in
          let lt = slice_get_within (SlotPairs m f) i p at in
          let found = place_found w.0 w.1 (SlotPairs m f) (omega (arith, z, lt)) in
          let same : p ≡ pair_at w.0 w.1 = the_pair p (pair_at w.0 w.1) (sym at ∙ ap (slice_get (SlotPairs m f)) z ∙ found) in
          ap (λ o. is_on_stack o p) points_at ∙ ap (λ (r : Pair). stands_at r.number r.ty ops) same ∙ ap (is_type w.1) w.2 ∙ same_self w.1

      back : is_on_stack (slice_get (func_call_points m f) place_) p ≡ true → OnStack fl place_ (own + i)
      back e =
          let stands = typed_some p.ty (slice_get (reverse ops) p.number) (sym (ap (λ o. is_on_stack o p) points_at) ∙ e) in
          let lt = place_within p.number p.ty (SlotPairs m f) i at in
          let z : place p.number p.ty (SlotPairs m f) ≡ i = slots_once m f (place p.number p.ty (SlotPairs m f)) i p (place_found p.number p.ty (SlotPairs m f) lt) at in
          stack_on (own + i) (slot_among nm (own + i) ops p.number p.ty stands (ap (λ n. own + n) (sym z)))

  -- ---- result locals

  result_kept : (k : Bool) (j : ℕ) → (k ≡ true) ↔ KeepsAt fl place_ (own + length (SlotPairs m f) + j) → k ≡ false
  result_kept k j h = never k (λ e. none (stack_of (own + length (SlotPairs m f) + j) (omega arith) (h.0 e)))
    where
      none : Among (own + length (SlotPairs m f) + j) (slots nm ops) → ⊥
      none a =
          let w = among_slot nm (own + length (SlotPairs m f) + j) ops a in
          let saved = operands_saved m save_live f place_ w.0 w.1 (ops, points_at, w.2) in
          let slot_at = saved.1.2 in
          let lt = place_within w.0 w.1 (SlotPairs m f) slot_at.0 slot_at.1 in
          let q = w.3 in omega (arith, q, lt)

  -- ---- all of them

  abbrev slot_types : List ValType
  slot_types = map (λ (p : Pair). p.ty) (SlotPairs m f)

  abbrev result_types : List ValType
  result_types = map (λ (p : Pair). p.ty) (ResultPairs m f)

  pub all_kept : (keep : ℕ → Bool) → ((y : ℕ) → y < length fl.locals → (keep y ≡ true) ↔ KeepsAt fl place_ y) → named_places keep 0 fl.locals ≡ Saved m save_live f place_
  all_kept keep h =
      let a = length-append (locals_of m f ++ slot_types) result_types in let b = length-append (locals_of m f) slot_types in
      let c = length-map (SlotPairs m f) (λ (p : Pair). p.ty) in
      named_append keep 0 (locals_of m f ++ slot_types) result_types
      ∙ ap (λ ps. named_places keep 0 (locals_of m f ++ slot_types) ++ ps)
      (named_none keep (0 + length (locals_of m f ++ slot_types)) result_types
      (λ i lt. let z : 0 + length (locals_of m f ++ slot_types) + i ≡ own + length (SlotPairs m f) + i = omega (arith, b, c) in
      ap keep z ∙ result_kept (keep (own + length (SlotPairs m f) + i)) i (h (own + length (SlotPairs m f) + i) (omega (arith, a, b, c, lt)))))
      ∙ append-nil (named_places keep 0 (locals_of m f ++ slot_types)) ∙ named_append keep 0 (locals_of m f) slot_types
      ∙ ap (λ ps. ps ++ named_places keep (0 + own) slot_types)
      (named_same keep (is_live_after f place_) 0 (locals_of m f)
      (λ i lt. let z : 0 + i ≡ i = omega arith in ap keep z ∙ own_kept (keep i) i lt (h i (omega (arith, a, b, lt))) ∙ ap (is_live_after f place_) (sym z)))
      ∙ ap (λ n. named_places (is_live_after f place_) 0 (locals_of m f) ++ named_places keep n slot_types) (let z : 0 + own ≡ own = omega arith in z)
      ∙ ap (λ ps. named_places (is_live_after f place_) 0 (locals_of m f) ++ ps)
      (named_slots keep (is_on_stack (slice_get (func_call_points m f) place_)) own (SlotPairs m f)
      (λ i p e. let lt = slice_get_within (SlotPairs m f) i p e in slot_kept (keep (own + i)) i p e (h (own + i) (omega (arith, a, b, c, lt)))))

pub live_is_saved : LiveIsSaved
live_is_saved m x f place keep v is within h = all_kept m x f place v is (body_typed m v x f is) within keep h
