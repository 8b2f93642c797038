-- Goals of counted entries.
use Rattle.std.proofs.Common.{◌≡◌, ℕ, suc, zero, ◌+◌, ◌-◌, List, [], ◌∷◌, ◌++◌, Option, Some, None, refl, ap, sym, ◌∙◌, subst, arith, append_assoc, append-nil, length, false, nat_eq, nat_le}
use Rattle.leb_numbers.specs.Leb.{IsUnsigned}
use Rattle.wa_types.specs.Begun.{Goal, count, entries, EntryKind, an_unsigned, next, entry, others, and_then, some_of}
use Rattle.wa_types.specs.Spells.{◌▸◌, Exactly, Items, Vector}
use Rattle.file_laws.proofs.Runs.{some_same, not_none}
use Rattle.file_laws.proofs.GoalReads.{Any, Reads, reads_none, reads_then, reads_as, Begins, reads_first, Goes, takes_one, gives_one, to_left, to_right, on_right}

pub reads_append : (gs hs : List Goal) (F G : ℕ → List ℕ → Type 0) → Reads gs F → Reads hs G → Reads (gs ++ hs) (F ▸ G)
reads_append gs hs F G r s = record {
  sound = λ more last at bytes h.
      to_left F G (Goes more last) at bytes
      (on_right F (Goes (hs ++ more) last) (G ▸ Goes more last) at bytes (λ k b w. s.sound more last k b w)
      (r.sound (hs ++ more) last at bytes (subst (λ z. Goes z last at bytes) (append_assoc gs hs more) h)));
  complete = λ more last at bytes h.
      subst (λ z. Goes z last at bytes) (sym (append_assoc gs hs more))
      (r.complete (hs ++ more) last at bytes
      (on_right F (G ▸ Goes more last) (Goes (hs ++ more) last) at bytes (λ k b w. s.complete more last k b w) (to_right F G (Goes more last) at bytes h)));
}

pub reads_alone : (gs : List Goal) (F : ℕ → List ℕ → Type 0) → Reads gs F → Reads (gs ++ []) F
reads_alone gs F r = subst (λ z. Reads z F) (sym (append-nil gs)) r

-- so many of what a spelling says, one behind another
pub record Many {X : Type 0} (f : X → ℕ → List ℕ → Type 0) (n at : ℕ) (bytes : List ℕ) : Type 0 where
  pub items : List X
  pub number : length items ≡ n
  pub spelled : Items f items at bytes

and_then_some : (o : Option (List Goal)) (more new : List Goal) → and_then o more ≡ Some new → (e : List Goal) × (o ≡ Some e) × (new ≡ e ++ more)
and_then_some None more new e = absurd (not_none new e)
and_then_some (Some gs) more new e = (gs, refl, some_same new (gs ++ more) _ e refl)

others_one : (k : EntryKind) → others k 1 ≡ []
others_one k = refl

others_more : (k : EntryKind) (n : ℕ) → others k (suc (suc n)) ≡ entries k (suc n) ∷ []
others_more k n =
    let e : nat_le (suc (suc n)) 1 ≡ false = grind (arith) in
    let f : suc (suc n) - 1 ≡ suc n = omega arith in
    rw (e, f) refl

entry_next : (k : EntryKind) (n v at : ℕ) → next (entries k n) v at ≡ and_then (entry k v at) (others k n)
unfolding next
entry_next k n v at = refl

pushed_one : (k : EntryKind) (n v at : ℕ) (new : List Goal) → next (entries k (suc (suc n))) v at ≡ Some new
    → (e : List Goal) × (next (entries k 1) v at ≡ Some (e ++ [])) × (new ≡ e ++ entries k (suc n) ∷ [])
pushed_one k n v at new p =
    let t = and_then_some (entry k v at) (others k (suc (suc n))) new (sym (entry_next k (suc (suc n)) v at) ∙ p) in
    (t.0, entry_next k 1 v at ∙ ap (λ o. and_then o []) t.1, t.2 ∙ ap (λ z. t.0 ++ z) (others_more k n))

pushed_more : (k : EntryKind) (n v at : ℕ) (new : List Goal) → next (entries k 1) v at ≡ Some new → next (entries k (suc (suc n))) v at ≡ Some (new ++ entries k (suc n) ∷ [])
pushed_more k n v at new p =
    let t = and_then_some (entry k v at) [] new (sym (entry_next k 1 v at) ∙ p) in
    entry_next k (suc (suc n)) v at ∙ ap (λ o. and_then o (others k (suc (suc n)))) t.1
    ∙ ap (λ z. Some (t.0 ++ z)) (others_more k n) ∙ ap (λ z. Some (z ++ entries k (suc n) ∷ [])) (sym (append-nil t.0) ∙ sym t.2)

-- an entry of several is an entry and the others
unroll : (k : EntryKind) (n last at : ℕ) (more : List Goal) (bytes : List ℕ) → Goes (entries k (suc (suc n)) ∷ more) last at bytes → Goes (entries k 1 ∷ entries k (suc n) ∷ more) last at bytes
unroll k n last at more bytes h =
    let f = takes_one (entries k (suc (suc n))) more last at bytes refl refl h in
    let p = pushed_one k n f.value (at + length f.front) f.new f.pushed in
    gives_one (entries k 1) (entries k (suc n) ∷ more) last at bytes refl (record {
      front = f.front;
      back = f.back;
      value = f.value;
      new = p.0 ++ [];
      whole = f.whole;
      is_item = f.is_item;
      pushed = p.1;
      goes = subst (λ z. Goes z last (at + length f.front) f.back)
          (ap (λ z. z ++ more) p.2 ∙ append_assoc p.0 (entries k (suc n) ∷ []) more ∙ ap (λ z. z ++ entries k (suc n) ∷ more) (sym (append-nil p.0))) f.goes;
    })

roll : (k : EntryKind) (n last at : ℕ) (more : List Goal) (bytes : List ℕ) → Goes (entries k 1 ∷ entries k (suc n) ∷ more) last at bytes → Goes (entries k (suc (suc n)) ∷ more) last at bytes
roll k n last at more bytes h =
    let f = takes_one (entries k 1) (entries k (suc n) ∷ more) last at bytes refl refl h in
    gives_one (entries k (suc (suc n))) more last at bytes refl (record {
      front = f.front;
      back = f.back;
      value = f.value;
      new = f.new ++ entries k (suc n) ∷ [];
      whole = f.whole;
      is_item = f.is_item;
      pushed = pushed_more k n f.value (at + length f.front) f.new f.pushed;
      goes = subst (λ z. Goes z last (at + length f.front) f.back) (sym (append_assoc f.new (entries k (suc n) ∷ []) more)) f.goes;
    })

module _ {X : Type 0} (f : X → ℕ → List ℕ → Type 0) where
  one_from : (at : ℕ) (a : List ℕ) → Any f at a → Many f 1 at a
  one_from at a h = record { items = h.0 ∷ []; number = refl; spelled = (a, [], sym (append-nil a), h.1, refl) }

  one_to_list : (at : ℕ) (a : List ℕ) (xs : List X) → length xs ≡ 1 → Items f xs at a → Any f at a
  one_to_list at a [] e h = absurd (omega (arith, e))
  one_to_list at a (x ∷ []) e h = (x, subst (f x at) (sym (h.2 ∙ ap (λ z. h.0 ++ z) h.4 ∙ append-nil h.0)) h.3)
  one_to_list at a (x ∷ y ∷ xs) e h = absurd (omega (arith, e))

  one_to : (at : ℕ) (a : List ℕ) → Many f 1 at a → Any f at a
  one_to at a m = one_to_list at a m.items m.number m.spelled

  more_from : (n at : ℕ) (a : List ℕ) → (Any f ▸ Many f n) at a → Many f (suc n) at a
  more_from n at a h = record { items = h.3.0 ∷ h.4.items; number = ap suc h.4.number; spelled = (h.0, h.1, h.2, h.3.1, h.4.spelled) }

  more_to_list : (n at : ℕ) (a : List ℕ) (xs : List X) → length xs ≡ suc n → Items f xs at a → (Any f ▸ Many f n) at a
  more_to_list n at a [] e h = absurd (omega (arith, e))
  more_to_list n at a (x ∷ xs) e h = (h.0, h.1, h.2, (x, h.3), record { items = xs; number = omega (arith, e); spelled = h.4 })

  more_to : (n at : ℕ) (a : List ℕ) → Many f (suc n) at a → (Any f ▸ Many f n) at a
  more_to n at a m = more_to_list n at a m.items m.number m.spelled

  none_from : (at : ℕ) (a : List ℕ) → Exactly [] at a → Many f 0 at a
  none_from at a h = record { items = []; number = refl; spelled = h }

  none_to_list : (at : ℕ) (a : List ℕ) (xs : List X) → length xs ≡ 0 → Items f xs at a → Exactly [] at a
  none_to_list at a [] e h = h
  none_to_list at a (x ∷ xs) e h = absurd (omega (arith, e))

  none_to : (at : ℕ) (a : List ℕ) → Many f 0 at a → Exactly [] at a
  none_to at a m = none_to_list at a m.items m.number m.spelled

  vector_from : (at : ℕ) (a : List ℕ) → Begins an_unsigned (λ v k. Many f v) at a → Any (Vector f) at a
  vector_from at a b = (b.follows.items, (b.front, b.back, b.whole, subst (IsUnsigned 32 b.front) (sym b.follows.number) b.is_item, b.follows.spelled))

  vector_to : (at : ℕ) (a : List ℕ) → Any (Vector f) at a → Begins an_unsigned (λ v k. Many f v) at a
  vector_to at a h = let t = h.1 in record { front = t.0; back = t.1; value = length h.0; whole = t.2; is_item = t.3; follows = record { items = h.0; number = refl; spelled = t.4 } }

  -- several entries, where one is read
  pub reads_entries : (k : EntryKind) → Reads (entries k 1 ∷ []) (Any f) → (n : ℕ) → Reads (entries k (suc n) ∷ []) (Many f (suc n))
  reads_entries k r zero = reads_as (entries k 1 ∷ []) (Any f) (Many f 1) one_from one_to r
  reads_entries k r (suc n) =
      let s = reads_as (entries k 1 ∷ entries k (suc n) ∷ []) (Any f ▸ Many f (suc n)) (Many f (suc (suc n))) (more_from (suc n)) (more_to (suc n))
      (reads_then (entries k 1) (entries k (suc n) ∷ []) (Any f) (Many f (suc n)) r (reads_entries k r n)) in
      record {
        sound = λ more last at bytes h. s.sound more last at bytes (unroll k n last at more bytes h);
        complete = λ more last at bytes h. roll k n last at more bytes (s.complete more last at bytes h);
      }

  pub reads_some : (k : EntryKind) → Reads (entries k 1 ∷ []) (Any f) → (n : ℕ) → Reads (some_of k n) (Many f n)
  reads_some k r zero = reads_as [] (Exactly []) (Many f 0) none_from none_to reads_none
  reads_some k r (suc n) =
      let e : nat_eq (suc n) 0 ≡ false = grind (arith) in
      let p : some_of k (suc n) ≡ entries k (suc n) ∷ [] = rw e refl in
      subst (λ z. Reads z (Many f (suc n))) (sym p) (reads_entries k r n)

  pub reads_count : (k : EntryKind) → Reads (entries k 1 ∷ []) (Any f) → Reads (count k ∷ []) (Any (Vector f))
  unfolding next
  reads_count k r = reads_as _ (Begins an_unsigned (λ v k. Many f v)) (Any (Vector f)) vector_from vector_to (reads_first (count k) (λ v k. Many f v) refl refl (λ v j. reads_some k r v))
