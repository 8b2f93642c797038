-- From goals on, bytes lead to the end of a file and show something. What is spelled in front of that shows its own part.
use Rattle.std.proofs.Common.{◌≡◌, ℕ, suc, zero, ◌+◌, ◌-◌, List, [], ◌∷◌, ◌++◌, Option, Some, None, refl, ap, sym, ◌∙◌, subst, arith, append_assoc, append-nil, length, length-append, Bool, true, false, nat_eq, nat_le, IsTrue, IsUtf8}
use Rattle.wa_types.specs.declared.syntax.Space.{Space}
use Rattle.wa_types.specs.declared.syntax.Space.TheVariants.{Func as a_func, Table as a_table, Memory as a_memory, Global as a_global}
use Rattle.wa_types.specs.declared.syntax.Limits.{Limits}
use Rattle.wa_types.specs.Encoding.{space_byte, mutable_byte}
use Rattle.wa_types.specs.Opcodes.{is_float_type}
use Rattle.wa_types.specs.Binary.{Placed, RawKind, raw_func, raw_table, raw_memory, raw_global}
use Rattle.wa_types.specs.Begun.{Goal, exact, sections, number, name, value_type, block_type, mutable, import_kind, space, limits, signed, name_bytes, until, count, entries, EntryKind, a_byte, first_of, IsItem, wants, next, entry, others, and_then, some_of, name_of, where_true, closing, open_ended, settled, Inside, Steps, some_indices}
use Rattle.wa_types.specs.Marks.{place_if, float_type}
use Rattle.wa_types.specs.ModuleBounds.{ModuleBounds}
use Rattle.wa_types.specs.Spells.{◌▸◌, Exactly, Number, SignedNumber, Items, Vector, TextBytes, Text, ValueType, BlockType, Maximum, LimitsOf, TableType, GlobalType, ImportKindOf}
use Rattle.file_laws.proofs.Items.{item_some}
use Rattle.file_laws.proofs.Runs.{steps_inside}
use Rattle.file_laws.specs.Showing.{Seen, nothing_seen, floats_seen, functions_seen, both, shown, entry_shown, count_shown, Shows, shows_item}
use Rattle.file_laws.proofs.Noting.{both_assoc}

-- From these goals, settled at this place, the bytes lead to the end of a file, and show this.
pub record Tells (b : ModuleBounds) (last : ℕ) (gs : List Goal) (at : ℕ) (bytes : List ℕ) (s : Seen) : Type 0 where
  pub left : List Goal
  pub settles : settled at gs ≡ Some left
  pub inside : Inside at left
  pub shows : Shows b at left bytes (sections last 0 ∷ []) s

-- what is seen in parts, one behind another
abbrev pub seen_in : {X : Type 0} → (X → Seen) → List X → Seen
seen_in f [] = nothing_seen
seen_in f (x ∷ xs) = both (f x) (seen_in f xs)

abbrev pub seen_placed : Placed → Seen
seen_placed t = floats_seen (float_type t)

-- what is imported shows a function, or a global's type
abbrev pub seen_kind : RawKind → Seen
seen_kind (raw_func sort) = functions_seen 1
seen_kind (raw_global x m) = seen_placed x
seen_kind _ = nothing_seen

stands : (at : ℕ) (g : Goal) (gs : List Goal) → closing g ≡ open_ended → settled at (g ∷ gs) ≡ Some (g ∷ gs)
unfolding settled
stands at g gs e = rw e refl

pub same_number : (v k : ℕ) → v ≡ k → nat_eq v k ≡ true
same_number v k e = subst (λ z. nat_eq v z ≡ true) e (grind (arith))

mutable_small : (m : Bool) → IsTrue (nat_le (mutable_byte m) 1)
mutable_small false = refl
mutable_small true = refl

space_small : (s : Space) → IsTrue (nat_le (space_byte s) 3)
space_small a_func = refl
space_small a_table = refl
space_small a_memory = refl
space_small a_global = refl

pub some_more : (k : EntryKind) (n : ℕ) → some_of k (suc n) ≡ entries k (suc n) ∷ []
some_more k n = let e : nat_eq (suc n) 0 ≡ false = grind (arith) in rw e refl

pub others_some : (k : EntryKind) (n : ℕ) → others k (suc n) ≡ some_of k n
others_some k zero = refl
others_some k (suc n) =
    let e : nat_le (suc (suc n)) 1 ≡ false = grind (arith) in
    let f : suc (suc n) - 1 ≡ suc n = omega arith in
    let g : others k (suc (suc n)) ≡ entries k (suc n) ∷ [] = rw (e, f) refl in
    g ∙ sym (some_more k n)

pub entry_next : (k : EntryKind) (n v at : ℕ) → next (entries k n) v at ≡ and_then (entry k v at) (others k n)
unfolding next
entry_next k n v at = refl

silent_entries : {X : Type 0} (xs : List X) → seen_in (λ x. nothing_seen) xs ≡ nothing_seen
silent_entries [] = refl
silent_entries (x ∷ xs) = silent_entries xs

module _ (b : ModuleBounds) (last : ℕ) where
  -- an item of the first goal, and what goes on behind it
  pub give_settled : (g : Goal) (more new : List Goal) (at v : ℕ) (front back : List ℕ) (t : Seen) → settled at (g ∷ more) ≡ Some (g ∷ more) → IsItem (wants g) front v
      → next g v (at + length front) ≡ Some new
      → Tells b last (new ++ more) (at + length front) back t → Tells b last (g ∷ more) at (front ++ back) (both (shown b g more v at) t)
  give_settled g more new at v front back t c i p h =
      let s : Steps g more v (at + length front) h.left = record { new = new; pushed = p; settles = h.settles; inside = h.inside } in
      record {
        left = g ∷ more;
        settles = c;
        inside = steps_inside g more v (at + length front) at h.left s (omega (arith, item_some (wants g) front v i));
        shows = shows_item front back v h.left t refl i s h.shows refl;
      }

  -- .. of a goal without an end
  pub give : (g : Goal) (more new : List Goal) (at v : ℕ) (front back : List ℕ) (t : Seen) → closing g ≡ open_ended → IsItem (wants g) front v → next g v (at + length front) ≡ Some new
      → Tells b last (new ++ more) (at + length front) back t → Tells b last (g ∷ more) at (front ++ back) (both (shown b g more v at) t)
  give g more new at v front back t c i p h = give_settled g more new at v front back t (stands at g more c) i p h

  -- an end is here
  pub tells_until : (end : ℕ) (more : List Goal) (at : ℕ) (bytes : List ℕ) (t : Seen) → at ≡ end → Tells b last more at bytes t → Tells b last (until end ∷ more) at bytes t
  unfolding settled
  tells_until end more at bytes t e h = record { left = h.left; settles = rw (same_number at end e) h.settles; inside = h.inside; shows = h.shows }

  pub give_byte : (g : Goal) (more new : List Goal) (at v : ℕ) (front back : List ℕ) (t : Seen) → closing g ≡ open_ended → wants g ≡ a_byte → front ≡ v ∷ [] → next g v (at + 1) ≡ Some new
      → Tells b last (new ++ more) (at + length front) back t → Tells b last (g ∷ more) at (front ++ back) (both (shown b g more v at) t)
  give_byte g more new at v front back t c w e p h =
      subst (λ z. Tells b last (g ∷ more) at (z ++ back) (both (shown b g more v at) t)) (sym e)
      (give g more new at v (v ∷ []) back t c (subst (λ i. IsItem i (v ∷ []) v) (sym w) refl) p (subst (λ z. Tells b last (new ++ more) (at + length z) back t) e h))

  -- What is spelled so stands between these goals and those, and shows this.
  abbrev pub Gives : (from to : List Goal) → (ℕ → List ℕ → Type 0) → Seen → Type 0
  Gives from to F s = (at : ℕ) (a c : List ℕ) (t : Seen) → F at a → Tells b last to (at + length a) c t → Tells b last from at (a ++ c) (both s t)

  pub gives_none : (gs : List Goal) → Gives gs gs (Exactly []) nothing_seen
  gives_none gs at a c t h k = subst (λ z. Tells b last gs at (z ++ c) t) (sym h) (subst (λ n. Tells b last gs n c t) (omega (arith, ap length h)) k)

  pub gives_then : (from mid to : List Goal) (F G : ℕ → List ℕ → Type 0) (s u : Seen) → Gives from mid F s → Gives mid to G u → Gives from to (F ▸ G) (both s u)
  gives_then from mid to F G s u f g at a c t h k =
      let place : at + length a ≡ at + length h.0 + length h.1 = omega (arith, ap length h.2, length-append h.0 h.1) in
      let near = g (at + length h.0) h.1 c t h.4 (subst (λ n. Tells b last to n c t) place k) in
      subst (λ z. Tells b last from at z (both (both s u) t)) (sym (append_assoc h.0 h.1 c) ∙ ap (λ z. z ++ c) (sym h.2))
      (subst (Tells b last from at (h.0 ++ (h.1 ++ c))) (sym (both_assoc s u t)) (f at h.0 (h.1 ++ c) (both u t) h.3 near))

  pub gives_as : (from to : List Goal) (F G : ℕ → List ℕ → Type 0) (s : Seen) → ((at : ℕ) (a : List ℕ) → G at a → F at a) → Gives from to F s → Gives from to G s
  gives_as from to F G s from_g f at a c t h k = f at a c t (from_g at a h) k

  pub gives_same : (from to : List Goal) (F : ℕ → List ℕ → Type 0) (s u : Seen) → s ≡ u → Gives from to F s → Gives from to F u
  gives_same from to F s u e f at a c t h k = subst (λ z. Tells b last from at (a ++ c) (both z t)) e (f at a c t h k)

  pub gives_from : (x y to : List Goal) (F : ℕ → List ℕ → Type 0) (s : Seen) → x ≡ y → Gives x to F s → Gives y to F s
  gives_from x y to F s e f at a c t h k = subst (λ z. Tells b last z at (a ++ c) (both s t)) e (f at a c t h k)

  -- leaves
  pub gives_number : (more : List Goal) (n : ℕ) → Gives (number ∷ more) more (Number n) nothing_seen
  unfolding next
  gives_number more n at a c t h k = give number more [] at n a c t refl h refl k

  pub gives_signed : (bits : ℕ) (more : List Goal) (n : ℕ) → Gives (signed bits ∷ more) more (SignedNumber bits n) nothing_seen
  unfolding next
  gives_signed bits more n at a c t h k = give (signed bits) more [] at n a c t refl h refl k

  pub gives_exact : (more : List Goal) (x : ℕ) → Gives (exact x ∷ more) more (Exactly (x ∷ [])) nothing_seen
  unfolding next
  gives_exact more x at a c t h k = give_byte (exact x) more [] at x a c t refl refl h (ap (λ z. where_true z []) (same_number x x refl)) k

  pub gives_value_type : (more : List Goal) (x : Placed) → Gives (value_type ∷ more) more (ValueType x) (seen_placed x)
  unfolding next
  gives_value_type more x at a c t h k =
      subst (λ z. Tells b last (value_type ∷ more) at (a ++ c) (both (floats_seen (place_if (is_float_type x.byte) z)) t)) h.1.0
      (give_byte value_type more [] at x.byte a c t refl refl h.1.1 (ap (λ z. where_true z []) h.0) k)

  pub gives_block_type : (more : List Goal) (x : Placed) → Gives (block_type ∷ more) more (BlockType x) (seen_placed x)
  unfolding next
  gives_block_type more x at a c t h k =
      subst (λ z. Tells b last (block_type ∷ more) at (a ++ c) (both (floats_seen (place_if (is_float_type x.byte) z)) t)) h.1.0
      (give_byte block_type more [] at x.byte a c t refl refl h.1.1 (ap (λ z. where_true z []) h.0) k)

  pub gives_mutable : (more : List Goal) (m : Bool) → Gives (mutable ∷ more) more (Exactly (mutable_byte m ∷ [])) nothing_seen
  unfolding next
  gives_mutable more m at a c t h k = give_byte mutable more [] at (mutable_byte m) a c t refl refl h (ap (λ z. where_true z []) (mutable_small m)) k

  pub gives_space : (more : List Goal) (s : Space) → Gives (space ∷ more) more (Exactly (space_byte s ∷ [])) nothing_seen
  unfolding next
  gives_space more s at a c t h k = give_byte space more [] at (space_byte s) a c t refl refl h (ap (λ z. where_true z []) (space_small s)) k

  -- limits, from a goal or an entry that begins with their flag
  pub gives_maximum : (from to : List Goal) (low : ℕ) (high : Option ℕ) → Gives from (number ∷ to) (Exactly (0x00 ∷ [])) nothing_seen
      → Gives from (number ∷ number ∷ to) (Exactly (0x01 ∷ [])) nothing_seen
      → Gives from to (Maximum low high) nothing_seen
  gives_maximum from to low None none some = gives_then from (number ∷ to) to (Exactly (0x00 ∷ [])) (Number low) nothing_seen nothing_seen none (gives_number to low)
  gives_maximum from to low (Some high) none some =
      gives_then from (number ∷ number ∷ to) to (Exactly (0x01 ∷ [])) (Number low ▸ Number high) nothing_seen nothing_seen some
      (gives_then (number ∷ number ∷ to) (number ∷ to) to (Number low) (Number high) nothing_seen nothing_seen (gives_number (number ∷ to) low) (gives_number to high))

  pub gives_limits : (more : List Goal) (l : Limits) → Gives (limits ∷ more) more (LimitsOf l) nothing_seen
  unfolding next
  gives_limits more l =
      gives_maximum (limits ∷ more) more l.min l.max
      (λ at a c t h k. give_byte limits more (number ∷ []) at 0x00 a c t refl refl h refl k)
      (λ at a c t h k. give_byte limits more (number ∷ number ∷ []) at 0x01 a c t refl refl h refl k)

  -- names
  pub gives_name_bytes : (more : List Goal) (xs : List ℕ) → Gives (name_of (length xs) ++ more) more (TextBytes xs) nothing_seen
  unfolding next
  gives_name_bytes more [] at a c t h k = gives_none more at a c t h.0 k
  gives_name_bytes more (x ∷ xs) at a c t h k =
      let n = length (x ∷ xs) in
      let e : nat_eq n 0 ≡ false = grind (arith) in
      let f : name_of n ≡ name_bytes n ∷ [] = rw e refl in
      subst (λ z. Tells b last (z ++ more) at (a ++ c) t) (sym f)
      (give (name_bytes n) more [] at 0 a c t refl (omega arith, ap length h.0, subst IsUtf8 (sym h.0) h.1, refl) refl k)

  pub gives_text : (more : List Goal) (xs : List ℕ) → Gives (name ∷ more) more (Text xs) nothing_seen
  unfolding next
  gives_text more xs =
      gives_then (name ∷ more) (name_of (length xs) ++ more) more (Number (length xs)) (TextBytes xs) nothing_seen nothing_seen
      (λ at a c t h k. give name more (name_of (length xs)) at (length xs) a c t refl h refl k) (gives_name_bytes more xs)

  -- a global's type, what is imported
  pub gives_global_type : (more : List Goal) (x : Placed) (m : Bool) → Gives (value_type ∷ mutable ∷ more) more (GlobalType x m) (seen_placed x)
  gives_global_type more x m =
      gives_same (value_type ∷ mutable ∷ more) more (GlobalType x m) (both (seen_placed x) nothing_seen) (seen_placed x)
      (λ i. record { floats_at = append-nil (float_type x) i; opens_at = []; counts = []; params = []; sizes = [] })
      (gives_then (value_type ∷ mutable ∷ more) (mutable ∷ more) more (ValueType x) (Exactly (mutable_byte m ∷ [])) (seen_placed x) nothing_seen (gives_value_type (mutable ∷ more) x)
      (gives_mutable more m))

  pub gives_table : (more : List Goal) (l : Limits) → Gives (exact 0x70 ∷ limits ∷ more) more (TableType l) nothing_seen
  gives_table more l = gives_then (exact 0x70 ∷ limits ∷ more) (limits ∷ more) more (Exactly (0x70 ∷ [])) (LimitsOf l) nothing_seen nothing_seen (gives_exact (limits ∷ more) 0x70)
      (gives_limits more l)

  kind_byte : (x : ℕ) (n : Seen) (more new : List Goal) → next import_kind x 0 ≡ Some new → ((at : ℕ) → next import_kind x at ≡ next import_kind x 0) → shown b import_kind more x 0 ≡ n
      → Gives (import_kind ∷ more) (new ++ more) (Exactly (x ∷ [])) n
  kind_byte x n more new e same f at a c t h k =
      subst (λ z. Tells b last (import_kind ∷ more) at (a ++ c) (both z t)) f (give_byte import_kind more new at x a c t refl refl h (same (at + 1) ∙ e) k)

  pub gives_kind : (more : List Goal) (k : RawKind) → Gives (import_kind ∷ more) more (ImportKindOf k) (seen_kind k)
  unfolding next
  gives_kind more (raw_func sort) = gives_then (import_kind ∷ more) (number ∷ more) more (Exactly (0x00 ∷ [])) (Number sort) (functions_seen 1) nothing_seen
      (kind_byte 0x00 (functions_seen 1) more (number ∷ []) refl (λ at. refl) refl) (gives_number more sort)
  gives_kind more (raw_table l) =
      gives_then (import_kind ∷ more) (exact 0x70 ∷ limits ∷ more) more (Exactly (0x01 ∷ [])) (TableType l) nothing_seen nothing_seen
      (kind_byte 0x01 nothing_seen more (exact 0x70 ∷ limits ∷ []) refl (λ at. refl) refl) (gives_table more l)
  gives_kind more (raw_memory l) = gives_then (import_kind ∷ more) (limits ∷ more) more (Exactly (0x02 ∷ [])) (LimitsOf l) nothing_seen nothing_seen
      (kind_byte 0x02 nothing_seen more (limits ∷ []) refl (λ at. refl) refl) (gives_limits more l)
  gives_kind more (raw_global x m) =
      gives_then (import_kind ∷ more) (value_type ∷ mutable ∷ more) more (Exactly (0x03 ∷ [])) (GlobalType x m) nothing_seen (seen_placed x)
      (kind_byte 0x03 nothing_seen more (value_type ∷ mutable ∷ []) refl (λ at. refl) refl) (gives_global_type more x m)

  -- the first item of an entry
  pub gives_entry : (k : EntryKind) (n : ℕ) (more es : List Goal) (F : ℕ → List ℕ → Type 0) (v : ℕ) (s : Seen) → ((at : ℕ) (a : List ℕ) → F at a → IsItem (first_of k) a v)
      → ((at end : ℕ) (a : List ℕ) → F at a → entry k v end ≡ Some es)
      → ((at : ℕ) (a : List ℕ) → F at a → entry_shown k v at ≡ s) → Gives (entries k n ∷ more) (es ++ (others k n ++ more)) F s
  gives_entry k n more es F v s item pushed see at a c t h w =
      subst (λ z. Tells b last (entries k n ∷ more) at (a ++ c) (both z t)) (see at a h)
      (give (entries k n) more (es ++ others k n) at v a c t refl (item at a h) (entry_next k n v (at + length a) ∙ ap (λ z. and_then z (others k n)) (pushed at (at + length a) a h))
      (subst (λ z. Tells b last z (at + length a) c t) (sym (append_assoc es (others k n) more)) w))

  -- entries one behind another
  pub gives_entries : {X : Type 0} (k : EntryKind) (F : X → ℕ → List ℕ → Type 0) (see : X → Seen) (more : List Goal) → ((n : ℕ) (x : X) → Gives (entries k n ∷ more) (others k n ++ more) (F x) (see x))
      → (xs : List X) → Gives (some_of k (length xs) ++ more) more (Items F xs) (seen_in see xs)
  gives_entries k F see more one [] = gives_none more
  gives_entries k F see more one (x ∷ xs) =
      gives_from (entries k (suc (length xs)) ∷ more) (some_of k (suc (length xs)) ++ more) more (Items F (x ∷ xs)) (seen_in see (x ∷ xs)) (ap (λ z. z ++ more) (sym (some_more k (length xs))))
      (gives_then (entries k (suc (length xs)) ∷ more) (others k (suc (length xs)) ++ more) more (F x) (Items F xs) (see x) (seen_in see xs) (one (suc (length xs)) x)
      (gives_from (some_of k (length xs) ++ more) (others k (suc (length xs)) ++ more) more (Items F xs) (seen_in see xs) (ap (λ z. z ++ more) (sym (others_some k (length xs))))
      (gives_entries k F see more one xs)))

  pub gives_count : {X : Type 0} (k : EntryKind) (F : X → ℕ → List ℕ → Type 0) (see : X → Seen) (more : List Goal) (shows : Seen) (xs : List X)
      → ((n : ℕ) (x : X) → Gives (entries k n ∷ more) (others k n ++ more) (F x) (see x))
      → count_shown k more (length xs) ≡ shows → Gives (count k ∷ more) more (Vector F xs) (both shows (seen_in see xs))
  unfolding next
  gives_count k F see more shows xs one e =
      gives_then (count k ∷ more) (some_of k (length xs) ++ more) more (Number (length xs)) (Items F xs) shows (seen_in see xs)
      (λ at a c t h w. subst (λ z. Tells b last (count k ∷ more) at (a ++ c) (both z t)) e (give (count k) more (some_of k (length xs)) at (length xs) a c t refl h refl w))
      (gives_entries k F see more one xs)

  -- a vector of entries that show nothing
  pub gives_silent : {X : Type 0} (k : EntryKind) (F : X → ℕ → List ℕ → Type 0) (more : List Goal) (xs : List X)
      → ((n : ℕ) (x : X) → Gives (entries k n ∷ more) (others k n ++ more) (F x) nothing_seen)
      → count_shown k more (length xs) ≡ nothing_seen → Gives (count k ∷ more) more (Vector F xs) nothing_seen
  gives_silent k F more xs one e =
      gives_same (count k ∷ more) more (Vector F xs) (seen_in (λ x. nothing_seen) xs) nothing_seen (silent_entries xs)
      (gives_count k F (λ x. nothing_seen) more nothing_seen xs one e)

  pub gives_numbers : (more : List Goal) (ns : List ℕ) → Gives (count some_indices ∷ more) more (Vector Number ns) nothing_seen
  gives_numbers more ns = gives_silent some_indices Number more ns (λ n x. gives_entry some_indices n more [] (Number x) x nothing_seen (λ at a h. h) (λ at end a h. refl) (λ at a h. refl)) refl
