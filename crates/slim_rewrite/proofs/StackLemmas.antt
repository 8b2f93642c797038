-- The stack of slots.
use Rattle.std.proofs.Common.{◌≡◌, ◌≢◌, ℕ, zero, suc, ◌+◌, ◌-◌, ◌<◌, ◌≤◌, List, [], ◌∷◌, ◌++◌, length, get_or, take, drop, set, Bool, true, false, not, refl, sym, ap, ◌∙◌, subst, arith, ◌⊎◌, inl, inr, length-drop, length-append}
use Rattle.std.specs.Prelude.{nat_eq, nat_lt, ◌||◌, ◌&&◌}
use Rattle.std.proofs.lemmas.Bool.{ltb-true, ltb-false}
use Rattle.std.proofs.lemmas.Bool.Decides.{eqb_tells}
use Rattle.std.proofs.lemmas.List.{get_or-set_same, get_or-set_other, take-append-le, take_more, drop-append-le, length-take, length-take-le, get_or-drop, drop_all}
use Rattle.std.proofs.Math.ListN.{get_or-append}
use Rattle.std.proofs.Math.Seq.{get_or-append_seam, take-length}
use Rattle.std.proofs.Math.Nat.{eq-or-lt_of_le, le_of_lt}
use Rattle.wa_types.specs.declared.instrs.Instr.{Instr}
use Rattle.wa_types.specs.declared.instrs.Instr.TheVariants.{LocalSet}
use Rattle.wa_types.specs.Syntax.{local_get, local_set, Code, plain}
use Rattle.wa_types.specs.View.{onto}
use Rattle.wa_model.specs.declared.flat.Operand.{Operand}
use Rattle.wa_model.specs.declared.flat.Operand.TheVariants.{Local}
use Rattle.run_theory.specs.Flat.{all_got, slots_got}
use Rattle.flow_rewrite.specs.Putting.{Puts}
use Rattle.flow_rewrite.proofs.PutLemmas.{put_one, set_is}
use Rattle.slim_laws.specs.Emit.{elem}
use Rattle.slim_laws.proofs.EmittedCode.{both_true}
use Rattle.slim_rewrite.specs.declared.stack.Walk.{Walk}
use Rattle.slim_rewrite.specs.Walking.{slot_in, unstacked, Flushed, Good, IsTop, Kept}

-- ---- what is on a list

pub not_elem : (x : ℕ) (xs : List ℕ) → ((i : ℕ) → i < length xs → get_or xs i 0 ≡ x → ⊥) → elem x xs ≡ false
not_elem x [] h = refl
not_elem x (y ∷ xs) h = by (eqb_tells x y) (not_elem x xs (λ i lt e. h (suc i) (omega arith) e))
  where
    by : ((nat_eq x y ≡ true) × (x ≡ y)) ⊎ ((nat_eq x y ≡ false) × (x ≢ y)) → elem x xs ≡ false → (nat_eq x y || elem x xs) ≡ false
    by (inl q) ih = absurd (h 0 (omega arith) (sym q.1))
    by (inr q) ih = subst (λ b. (b || elem x xs) ≡ false) (sym q.0) ih

pub elem_here : (x : ℕ) (xs : List ℕ) → elem x (x ∷ xs) ≡ true
elem_here x xs = by (eqb_tells x x)
  where
    by : ((nat_eq x x ≡ true) × (x ≡ x)) ⊎ ((nat_eq x x ≡ false) × (x ≢ x)) → (nat_eq x x || elem x xs) ≡ true
    by (inl q) = ap (λ b. b || elem x xs) q.0
    by (inr q) = absurd (q.1 refl)

or_right : (a b : Bool) → b ≡ true → (a || b) ≡ true
or_right true b e = refl
or_right false b e = e

pub elem_get : (xs : List ℕ) (i : ℕ) → i < length xs → elem (get_or xs i 0) xs ≡ true
elem_get [] i lt = absurd (omega arith)
elem_get (y ∷ xs) zero lt = elem_here y xs
elem_get (y ∷ xs) (suc i) lt = or_right (nat_eq (get_or xs i 0) y) (elem (get_or xs i 0) xs) (elem_get xs i (omega arith))

other_than : (x : ℕ) (xs : List ℕ) (i : ℕ) → i < length xs → elem x xs ≡ false → get_or xs i 0 ≢ x
other_than x xs i lt e q = let a : elem x xs ≡ true = subst (λ z. elem z xs ≡ true) q (elem_get xs i lt) in cc

pub get_any : (xs : List ℕ) (i d e : ℕ) → i < length xs → get_or xs i d ≡ get_or xs i e
get_any [] i d e lt = absurd (omega arith)
get_any (x ∷ xs) zero d e lt = refl
get_any (x ∷ xs) (suc i) d e lt = get_any xs i d e (omega arith)

pub from_not_false : (b : Bool) → not b ≡ false → b ≡ true
from_not_false true e = refl
from_not_false false e = cc

-- ---- slots

pub slot_low : (w : Walk) (x : ℕ) → slot_in w x ≡ true → (w.low ≤ x) × (x - w.low < length w.places.items)
slot_low w x e =
    let h = both_true (not (nat_lt x w.low)) (nat_lt (x - w.low) (length w.places.items)) e in
    (ltb-false x w.low (by (nat_lt x w.low) h.0), ltb-true (x - w.low) (length w.places.items) h.1)
  where
    by : (b : Bool) → not b ≡ true → b ≡ false
    by true e = cc
    by false e = refl

pub slot_same : (a b : Walk) (x : ℕ) → b.low ≡ a.low → length b.places.items ≡ length a.places.items → slot_in b x ≡ slot_in a x
slot_same a b x e f = λ j. not (nat_lt x (e j)) && nat_lt (x - e j) (f j)

pub stands_not : (w : Walk) (x p : ℕ) → Good w → p ≡ get_or w.places.items (x - w.low) 0 → (p < length w.stack.items → get_or w.stack.items p 0 ≢ x) → elem x w.stack.items ≡ false
stands_not w x p good e other = not_elem x w.stack.items (λ i lt q.
    let z : p ≡ i = e ∙ ap (λ y. get_or w.places.items (y - w.low) 0) (sym q) ∙ good.places i lt in
    other (omega arith) (ap (λ k. get_or w.stack.items k 0) z ∙ q))

pub stands_is : (w : Walk) (x p y : ℕ) → Good w → p ≡ get_or w.places.items (x - w.low) 0 → p < length w.stack.items → y ≡ get_or w.stack.items p 0 → nat_eq y x ≡ elem x w.stack.items
stands_is w x p y good e lt is = by (eqb_tells y x)
  where
    by : ((nat_eq y x ≡ true) × (y ≡ x)) ⊎ ((nat_eq y x ≡ false) × (y ≢ x)) → nat_eq y x ≡ elem x w.stack.items
    by (inl q) = q.0 ∙ sym (subst (λ z. elem z w.stack.items ≡ true) (sym is ∙ q.1) (elem_get w.stack.items p lt))
    by (inr q) = q.0 ∙ sym (stands_not w x p good e (λ less z. q.1 (is ∙ z)))

module _ (a b : Walk) (x : ℕ) (good : Good a) (slot : slot_in a x ≡ true) (new : elem x a.stack.items ≡ false) (alloc : b.alloc ≡ a.alloc) (low : b.low ≡ a.low)
    (places : b.places.items ≡ set a.places.items (x - a.low) (length a.stack.items)) (count : length b.places.items ≡ length a.places.items)
    (stack : b.stack.items ≡ a.stack.items ++ x ∷ []) (set_same : b.set ≡ a.set) (floor : b.floor ≡ a.floor) (piece : b.piece.items ≡ a.piece.items) where
  abbrev xs : List ℕ
  xs = a.stack.items

  longer : length b.stack.items ≡ length xs + 1
  longer = ap length stack ∙ length-append xs (x ∷ [])

  -- each place is an earlier one or the new one
  either : (i : ℕ) → i < length b.stack.items → (i ≡ length xs) ⊎ (i < length xs)
  either i lt = let n = longer in eq-or-lt_of_le (omega arith)

  slots : (i : ℕ) → i < length b.stack.items → slot_in b (get_or b.stack.items i 0) ≡ true
  slots i lt = slot_same a b (get_or b.stack.items i 0) low count ∙ ap (λ ys. slot_in a (get_or ys i 0)) stack ∙ by (either i lt)
    where
      by : (i ≡ length xs) ⊎ (i < length xs) → slot_in a (get_or (xs ++ x ∷ []) i 0) ≡ true
      by (inl e) = ap (λ k. slot_in a (get_or (xs ++ x ∷ []) k 0)) e ∙ ap (slot_in a) (get_or-append_seam xs x [] 0) ∙ slot
      by (inr h) = ap (slot_in a) (get_or-append xs (x ∷ []) 0 i h) ∙ good.slots i h

  at : (i : ℕ) → i < length b.stack.items → get_or b.places.items (get_or b.stack.items i 0 - b.low) 0 ≡ i
  at i lt = (λ j. get_or (places j) (get_or (stack j) i 0 - low j) 0) ∙ by (either i lt)
    where
      by : (i ≡ length xs) ⊎ (i < length xs) → get_or (set a.places.items (x - a.low) (length xs)) (get_or (xs ++ x ∷ []) i 0 - a.low) 0 ≡ i
      by (inl e) = ap (λ k. get_or (set a.places.items (x - a.low) (length xs)) (get_or (xs ++ x ∷ []) k 0 - a.low) 0) e
          ∙ ap (λ y. get_or (set a.places.items (x - a.low) (length xs)) (y - a.low) 0) (get_or-append_seam xs x [] 0)
          ∙ get_or-set_same a.places.items (x - a.low) (length xs) 0 (slot_low a x slot).1 ∙ sym e
      by (inr h) =
          let y = get_or xs i 0 in
          let l = (slot_low a y (good.slots i h)).0 in let m = (slot_low a x slot).0 in
          let ne = other_than x xs i h new in
          ap (λ y. get_or (set a.places.items (x - a.low) (length xs)) (y - a.low) 0) (get_or-append xs (x ∷ []) 0 i h)
          ∙ get_or-set_other a.places.items (x - a.low) (y - a.low) (length xs) 0 (λ q. ne (omega arith)) ∙ good.places i h

  pub kept_is : Kept a b x
  kept_is = record {
    good = record { slots = slots; places = at; set = let n = longer in let h = good.set in omega arith; floor = let h = good.floor in omega arith };
    alike = record {
      alloc = alloc;
      low = low;
      places = count;
      floor = floor;
      below = ap (take a.floor) stack ∙ take-append-le a.floor xs (x ∷ []) (let h = good.set in let g = good.floor in omega arith);
    };
    stack = stack;
    set = set_same;
    piece = piece;
    slot = slot;
    new = new;
  }

-- ---- slots set

unstacked_more : (xs : List ℕ) (x : ℕ) (c : Code) → unstacked (xs ++ x ∷ []) c ≡ plain (local_set x) (unstacked xs c)
unstacked_more [] x c = refl
unstacked_more (y ∷ xs) x c = unstacked_more xs x (plain (local_set y) c)

-- those below a place are still to be set
abbrev pub Setting : (old new : List Instr) → (xs : List ℕ) → (low place : ℕ) → Type 0
Setting old new xs low place = (c : Code) → onto new (unstacked (drop low (take place xs)) c) ≡ onto old (unstacked (drop low xs) c)

pub setting_start : (old : List Instr) (xs : List ℕ) (low place : ℕ) → place ≡ length xs → Setting old old xs low place
setting_start old xs low place e c = ap (λ ys. onto old (unstacked (drop low ys) c)) (ap (λ n. take n xs) e ∙ take-length xs)

pub setting_next : (old mid new : List Instr) (xs : List ℕ) (low place d : ℕ) → low ≤ place → place < length xs → Setting old mid xs low (place + 1)
    → new ≡ mid ++ LocalSet (get_or xs place d) ∷ [] → Setting old new xs low place
setting_next old mid new xs low place d le lt h e c =
    let x = get_or xs place d in
    put_one mid new (LocalSet x) (plain (local_set x)) e (set_is x) (unstacked (drop low (take place xs)) c)
    ∙ ap (onto mid) (sym (unstacked_more (drop low (take place xs)) x c)
    ∙ ap (λ ys. unstacked ys c) (sym (drop-append-le low (take place xs) (x ∷ []) (let q = length-take-le place xs (le_of_lt lt) in omega arith)) ∙ ap (drop low) (sym (take_more xs place d lt))))
    ∙ h c

pub setting_end : (old new : List Instr) (xs : List ℕ) (low place : ℕ) → place ≤ low → Setting old new xs low place → Puts old new (unstacked (drop low xs))
setting_end old new xs low place le h c = sym (ap (λ ys. onto new (unstacked ys c)) (drop_all low (take place xs) (length_le place xs le))) ∙ h c
  where
    length_le : (place : ℕ) (xs : List ℕ) → place ≤ low → length (take place xs) ≤ low
    length_le zero xs le = omega arith
    length_le (suc n) [] le = omega arith
    length_le (suc n) (x ∷ xs) le = let q = length-take (suc n) (x ∷ xs) in grind arith

-- a state that differs in what is set, and in the piece
pub set_good : (a b : Walk) → Good a → b.low ≡ a.low → b.places.items ≡ a.places.items → b.stack.items ≡ a.stack.items → b.floor ≡ a.floor → b.set ≡ length b.stack.items → Good b
set_good a b good low places stack floor set = record {
  slots = λ i lt. slot_same a b (get_or b.stack.items i 0) low (ap length places) ∙ ap (λ ys. slot_in a (get_or ys i 0)) stack ∙ good.slots i (subst (λ ys. i < length ys) stack lt);
  places = λ i lt. (λ j. get_or (places j) (get_or (stack j) i 0 - low j) 0) ∙ good.places i (subst (λ ys. i < length ys) stack lt);
  set = omega arith;
  floor = let h = good.set in let g = good.floor in let n = ap length stack in omega arith;
}

pub flushed_is : (a b : Walk) (place : ℕ) → Good a → Setting a.piece.items b.piece.items a.stack.items a.set place → place ≤ a.set → b.alloc ≡ a.alloc → b.low ≡ a.low
    → b.places.items ≡ a.places.items → b.stack.items ≡ a.stack.items → b.floor ≡ a.floor → b.set ≡ length b.stack.items → Flushed a b
flushed_is a b place good setting le alloc low places stack floor set = record {
  good = set_good a b good low places stack floor set;
  alike = record { alloc = alloc; low = low; places = ap length places; floor = floor; below = ap (take a.floor) stack };
  stack = stack;
  set = set;
  puts = setting_end a.piece.items b.piece.items a.stack.items a.set place le setting;
}

-- ---- the stack cut

cut_get : (xs : List ℕ) (n i : ℕ) → i < length (take n xs) → get_or (take n xs) i 0 ≡ get_or xs i 0
cut_get xs zero i lt = absurd (omega arith)
cut_get [] (suc n) i lt = refl
cut_get (x ∷ xs) (suc n) zero lt = refl
cut_get (x ∷ xs) (suc n) (suc i) lt = cut_get xs n i (omega arith)

pub cut_good : (a b : Walk) (n : ℕ) → Good a → b.low ≡ a.low → b.places.items ≡ a.places.items → b.stack.items ≡ take n a.stack.items → n ≤ length a.stack.items → b.floor ≡ a.floor
    → b.set ≤ n → a.floor ≤ b.set → Good b
cut_good a b n good low places stack le floor set above =
    let m = ap length stack ∙ length-take-le n a.stack.items le in
    let i2 : (i : ℕ) → i < length b.stack.items → i < length a.stack.items = λ i lt. omega arith in
    let same : (i : ℕ) → i < length b.stack.items → get_or b.stack.items i 0 ≡ get_or a.stack.items i 0 =
    λ i lt. ap (λ ys. get_or ys i 0) stack ∙ cut_get a.stack.items n i (subst (λ ys. i < length ys) stack lt) in
    record {
      slots = λ i lt. slot_same a b (get_or b.stack.items i 0) low (ap length places) ∙ ap (slot_in a) (same i lt) ∙ good.slots i (i2 i lt);
      places = λ i lt. (λ j. get_or (places j) (same i lt j - low j) 0) ∙ good.places i (i2 i lt);
      set = omega arith;
      floor = omega arith;
    }

pub good_by : (a b : Walk) (n : ℕ) → Good a → b.low ≡ a.low → b.places.items ≡ a.places.items → b.stack.items ≡ take n a.stack.items → n ≤ length a.stack.items → b.set ≤ n
    → b.floor ≤ b.set → Good b
good_by a b n good low places stack le set floor =
    let m = ap length stack ∙ length-take-le n a.stack.items le in
    let i2 : (i : ℕ) → i < length b.stack.items → i < length a.stack.items = λ i lt. omega arith in
    let same : (i : ℕ) → i < length b.stack.items → get_or b.stack.items i 0 ≡ get_or a.stack.items i 0 =
    λ i lt. ap (λ ys. get_or ys i 0) stack ∙ cut_get a.stack.items n i (subst (λ ys. i < length ys) stack lt) in
    record {
      slots = λ i lt. slot_same a b (get_or b.stack.items i 0) low (ap length places) ∙ ap (slot_in a) (same i lt) ∙ good.slots i (i2 i lt);
      places = λ i lt. (λ j. get_or (places j) (same i lt j - low j) 0) ∙ good.places i (i2 i lt);
      set = omega arith;
      floor = floor;
    }

pub cut_below : (xs : List ℕ) (floor n : ℕ) → floor ≤ n → take floor (take n xs) ≡ take floor xs
cut_below xs zero n le = refl
cut_below [] (suc f) zero le = refl
cut_below [] (suc f) (suc n) le = refl
cut_below (x ∷ xs) (suc f) zero le = absurd (omega arith)
cut_below (x ∷ xs) (suc f) (suc n) le = ap (◌∷◌ x) (cut_below xs f n (omega arith))

-- ---- topmost operands

abbrev pub TopTo : (xs : List ℕ) (args : List Operand) → (low n : ℕ) → Type 0
TopTo xs args low n = (j : ℕ) → j < n → get_or args j (Local 0) ≡ Local (get_or xs (low + j) 0)

same_got : (args : List Operand) (xs : List ℕ) → length args ≡ length xs → ((j : ℕ) → j < length args → get_or args j (Local 0) ≡ Local (get_or xs j 0)) → (c : Code)
    → all_got args c ≡ slots_got xs c
same_got [] [] e h c = refl
same_got [] (x ∷ xs) e h c = absurd (omega arith)
same_got (o ∷ args) [] e h c = absurd (omega arith)
same_got (o ∷ args) (x ∷ xs) e h c = by o (h 0 (omega arith)) (same_got args xs (omega arith) (λ j lt. h (suc j) (omega arith)) c)
  where
    by : (o : Operand) → o ≡ Local x → all_got args c ≡ slots_got xs c → all_got (o ∷ args) c ≡ plain (local_get x) (slots_got xs c)
    by o q ih = ap (λ y. all_got (y ∷ args) c) q ∙ ap (plain (local_get x)) ih

pub top_next : (xs : List ℕ) (args : List Operand) (low n place x : ℕ) → TopTo xs args low n → place ≡ low + n → get_or args n (Local 0) ≡ Local x → get_or xs place 0 ≡ x → TopTo xs args low (n + 1)
top_next xs args low n place x h e q r j lt = by (eq-or-lt_of_le (omega arith))
  where
    by : (j ≡ n) ⊎ (j < n) → get_or args j (Local 0) ≡ Local (get_or xs (low + j) 0)
    by (inr l) = h j l
    by (inl z) = ap (λ k. get_or args k (Local 0)) z ∙ q ∙ ap Local (sym r ∙ ap (λ k. get_or xs k 0) (e ∙ ap (λ k. low + k) (sym z)))

pub top_is : (xs : List ℕ) (args : List Operand) (low : ℕ) → low + length args ≡ length xs → TopTo xs args low (length args) → IsTop xs args
top_is xs args low e h =
    let z : length xs - length args ≡ low = omega arith in
    record {
      fits = omega arith;
      same = λ c. same_got args (drop low xs) (let q = length-drop low xs in omega arith) (λ j lt. h j lt ∙ ap Local (sym (get_or-drop low xs j 0))) c
          ∙ ap (λ n. slots_got (drop n xs) c) (sym z);
    }
