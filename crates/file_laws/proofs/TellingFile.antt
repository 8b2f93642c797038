-- What sections show, and whole files.
use Rattle.std.proofs.Common.{◌≡◌, ℕ, suc, zero, ◌+◌, ◌<◌, ◌≤◌, List, [], ◌∷◌, ◌++◌, map, Some, refl, ap, sym, ◌∙◌, subst, arith, add-zero, append_assoc, append-nil, length, length-append, true, cond, nat_eq, nat_lt, ◌&&◌}
use Rattle.std.specs.List.{flat_map}
use Rattle.std.proofs.lemmas.Bool.{lt-ltb, ne_eqb}
use Rattle.wa_types.specs.Encoding.{preamble}
use Rattle.wa_types.specs.Binary.{Section, custom, types, imports, functions, tables, memories, globals, exports, start, elements, bodies, segments}
use Rattle.wa_types.specs.Begun.{Goal, exact, sections, size, head, until, rest, EntryKind, some_types, some_imports, some_functions, some_tables, some_memories, some_globals, some_exports, some_elements, some_bodies, some_segments, next, Inside, settled, where_true, some_of, others, entries, name_of, may_follow, content, start as start_goals}
use Rattle.wa_types.specs.ModuleBounds.{ModuleBounds}
use Rattle.wa_types.specs.Spells.{◌▸◌, Exactly, Number, Items, Vector, Sized, TextBytes, Text, FunctionType, LimitsOf, TableType, ImportOf, GlobalOf, ExportOf, ElementOf, BodyOf, SegmentOf, SectionOf, Rising, Spells, sorts_in, bodies_in}
use Rattle.file_laws.proofs.GoalReads.{to_right}
use Rattle.file_laws.proofs.Runs.{some_same}
use Rattle.file_laws.proofs.SectionReads.{Balanced}
use Rattle.file_laws.specs.Showing.{Seen, nothing_seen, functions_seen, both, levels, Shows, shows_none}
use Rattle.file_laws.proofs.Noting.{both_none, both_assoc}
use Rattle.file_laws.proofs.Telling.{Tells, Gives, give, give_byte, give_settled, tells_until, same_number, gives_none, gives_then, gives_as, gives_same, gives_exact, gives_name_bytes, gives_entries, seen_in}
use Rattle.file_laws.proofs.TellingEntries.{Calm, type_entry, import_entry, function_entry, table_entry, memory_entry, global_entry, export_entry, element_entry, body_entry, segment_entry, seen_type, seen_import, seen_global, seen_element, seen_body, seen_segment}

abbrev pub seen_section : ModuleBounds → Section → Seen
seen_section b (types ts) = seen_in seen_type ts
seen_section b (imports is) = seen_in seen_import is
seen_section b (functions sorts) = functions_seen (length sorts)
seen_section b (globals gs) = seen_in (seen_global b) gs
seen_section b (elements es) = seen_in (seen_element b) es
seen_section b (bodies bs) = seen_in (seen_body b) bs
seen_section b (segments ss) = seen_in (seen_segment b) ss
seen_section b _ = nothing_seen

silent : {X : Type 0} (xs : List X) → seen_in (λ x. nothing_seen) xs ≡ nothing_seen
silent [] = refl
silent (x ∷ xs) = silent xs

sections_next : (last owed v at : ℕ) → next (sections last owed) v at ≡ where_true (may_follow v last owed) (size v last owed ∷ [])
unfolding next
sections_next last owed v at = refl

size_next : (id last owed v at : ℕ) → next (size id last owed) v at ≡ Some (head id (at + v) last owed ∷ [])
unfolding next
size_next id last owed v at = refl

head_next : (id end last owed v at : ℕ) → next (head id end last owed) v at ≡ content id end last owed v
unfolding next
head_next id end last owed v at = refl

rest_next : (end v at : ℕ) → next (rest end) v at ≡ Some (rest end ∷ [])
unfolding next
rest_next end v at = refl

rest_here : (at end : ℕ) (gs : List Goal) → at ≡ end → settled at (rest end ∷ gs) ≡ settled at gs
unfolding settled
rest_here at end gs e = rw (same_number at end e) refl

rest_there : (at end : ℕ) (gs : List Goal) → at < end → settled at (rest end ∷ gs) ≡ Some (rest end ∷ gs)
unfolding settled
rest_there at end gs h = rw (ne_eqb at end (λ e. omega (arith, h, e))) refl

calm_until : (end id owed : ℕ) → Calm (until end ∷ sections id owed ∷ [])
unfolding levels
calm_until end id owed = record { flat = refl; free = refl }

module _ (b : ModuleBounds) (last : ℕ) where
  -- What is spelled up to an end shows this.
  abbrev pub Fills : (to : List Goal) (new : ℕ → List Goal) → (ℕ → List ℕ → Type 0) → Seen → Type 0
  Fills to new G s = (end at : ℕ) (a c : List ℕ) (t : Seen) → at + length a ≡ end → G at a → Tells b last to (at + length a) c t → Tells b last (new end) at (a ++ c) (both s t)

  -- a section's id, size and first number, and what follows up to its end
  opened : (id lst owed v : ℕ) (to : List Goal) (new : ℕ → List Goal) (G : ℕ → List ℕ → Type 0) (u s : Seen) → may_follow id lst owed ≡ true → ((end : ℕ) → content id end lst owed v ≡ Some (new end))
      → cond (nat_eq id 3) (functions_seen v) nothing_seen ≡ u → Fills to new G s → Gives b last (sections lst owed ∷ []) to (Exactly (id ∷ []) ▸ Sized (Number v ▸ G)) (both u s)
  opened id lst owed v to new G u s follows pushed head_shows fills at a c t h k =
      let p = h.0 in
      let z = h.4 in
      let n = z.0 in
      let q = z.1.0 in
      let f = z.1.4 in
      let r = f.1.0 in
      let x = f.1.1 in
      let from = at + length p in
      let there = from + length q in
      let end = there + n in
      let inner = there + length r in
      let body : h.1 ≡ q ++ (r ++ x) = z.1.2 ∙ ap (λ y. q ++ y) f.1.2 in
      let place : at + length a ≡ inner + length x = omega (arith, ap length h.2, length-append p h.1, ap length body, length-append q (r ++ x), length-append r x) in
      let full : inner + length x ≡ end = omega (arith, f.0, ap length f.1.2, length-append r x) in
      let held : Tells b last (new end) inner (x ++ c) (both s t) = fills end inner x c t full f.1.4 (subst (λ y. Tells b last to y c t) place k) in
      let first : Tells b last (head id end lst owed ∷ []) there (r ++ (x ++ c)) (both u (both s t)) =
      subst (λ y. Tells b last (head id end lst owed ∷ []) there (r ++ (x ++ c)) (both y (both s t))) head_shows
      (give b last (head id end lst owed) [] (new end) there v r (x ++ c) (both s t) refl f.1.3 (head_next id end lst owed v inner ∙ pushed end)
      (subst (λ y. Tells b last y inner (x ++ c) (both s t)) (sym (append-nil (new end))) held)) in
      let sized : Tells b last (size id lst owed ∷ []) from (q ++ (r ++ (x ++ c))) (both u (both s t)) =
      give b last (size id lst owed) [] (head id end lst owed ∷ []) from n q (r ++ (x ++ c)) (both u (both s t)) refl z.1.3 (size_next id lst owed n there) first in
      let whole : Tells b last (sections lst owed ∷ []) at (p ++ (q ++ (r ++ (x ++ c)))) (both u (both s t)) =
      give_byte b last (sections lst owed) [] (size id lst owed ∷ []) at id p (q ++ (r ++ (x ++ c))) (both u (both s t)) refl refl h.3 (sections_next lst owed id (at + 1)
      ∙ ap (λ y. where_true y (size id lst owed ∷ [])) follows) sized in
      let bytes : p ++ (q ++ (r ++ (x ++ c))) ≡ a ++ c =
      ap (λ y. p ++ y) (ap (λ y. q ++ y) (sym (append_assoc r x c)) ∙ sym (append_assoc q (r ++ x) c) ∙ ap (λ y. y ++ c) (sym body)) ∙ sym (append_assoc p h.1 c) ∙ ap (λ y. y ++ c) (sym h.2) in
      subst (λ y. Tells b last (sections lst owed ∷ []) at y (both (both u s) t)) bytes (subst (Tells b last (sections lst owed ∷ []) at (p ++ (q ++ (r ++ (x ++ c))))) (sym (both_assoc u s t)) whole)

  -- a section of entries
  vector : {X : Type 0} (k : EntryKind) (F : X → ℕ → List ℕ → Type 0) (see : X → Seen) (id lst owed to_owed : ℕ) (xs : List X) (u : Seen) → may_follow id lst owed ≡ true
      → ((end : ℕ) → content id end lst owed (length xs) ≡ Some (some_of k (length xs) ++ until end ∷ sections id to_owed ∷ [])) → cond (nat_eq id 3) (functions_seen (length xs)) nothing_seen ≡ u
      → ((n : ℕ) (more : List Goal) → Calm more → (x : X) → Gives b last (entries k n ∷ more) (others k n ++ more) (F x) (see x))
      → Gives b last (sections lst owed ∷ []) (sections id to_owed ∷ []) (Exactly (id ∷ []) ▸ Sized (Vector F xs)) (both u (seen_in see xs))
  vector k F see id lst owed to_owed xs u follows pushed shows one =
      opened id lst owed (length xs) (sections id to_owed ∷ []) (λ end. some_of k (length xs) ++ until end ∷ sections id to_owed ∷ []) (Items F xs) u (seen_in see xs) follows pushed shows
      (λ end at a c t e h w.
      gives_entries b last k F see (until end ∷ sections id to_owed ∷ []) (λ n x. one n (until end ∷ sections id to_owed ∷ []) (calm_until end id to_owed) x) xs at a c t h
      (tells_until b last end (sections id to_owed ∷ []) (at + length a) c t e w))

  -- .. that show nothing
  quiet : {X : Type 0} (k : EntryKind) (F : X → ℕ → List ℕ → Type 0) (id lst owed to_owed : ℕ) (xs : List X) (u : Seen) → may_follow id lst owed ≡ true
      → ((end : ℕ) → content id end lst owed (length xs) ≡ Some (some_of k (length xs) ++ until end ∷ sections id to_owed ∷ [])) → cond (nat_eq id 3) (functions_seen (length xs)) nothing_seen ≡ u
      → ((n : ℕ) (more : List Goal) (x : X) → Gives b last (entries k n ∷ more) (others k n ++ more) (F x) nothing_seen)
      → Gives b last (sections lst owed ∷ []) (sections id to_owed ∷ []) (Exactly (id ∷ []) ▸ Sized (Vector F xs)) u
  quiet k F id lst owed to_owed xs u follows pushed shows one =
      gives_same b last (sections lst owed ∷ []) (sections id to_owed ∷ []) (Exactly (id ∷ []) ▸ Sized (Vector F xs)) (both u (seen_in (λ x. nothing_seen) xs)) u (ap (both u) (silent xs)
      ∙ both_none u)
      (vector k F (λ x. nothing_seen) id lst owed to_owed xs u follows pushed shows (λ n more calm x. one n more x))

  begin_at : (lst owed x : ℕ) → may_follow 8 lst owed ≡ true → Gives b last (sections lst owed ∷ []) (sections 8 owed ∷ []) (Exactly (8 ∷ []) ▸ Sized (Number x)) nothing_seen
  begin_at lst owed x follows =
      gives_as b last (sections lst owed ∷ []) (sections 8 owed ∷ []) (Exactly (8 ∷ []) ▸ Sized (Number x ▸ Exactly [])) (Exactly (8 ∷ []) ▸ Sized (Number x)) nothing_seen
      (λ at a h. (h.0, h.1, h.2, h.3, (h.4.0, (h.4.1.0, h.4.1.1, h.4.1.2, h.4.1.3, (h.4.1.4.0, (h.4.1.1, [], sym (append-nil h.4.1.1), h.4.1.4.1, refl))))))
      (opened 8 lst owed x (sections 8 owed ∷ []) (λ end. until end ∷ sections 8 owed ∷ []) (Exactly []) nothing_seen nothing_seen follows (λ end. refl) refl
      (λ end at a c t e h w. gives_none b last (until end ∷ sections 8 owed ∷ []) at a c t h (tells_until b last end (sections 8 owed ∷ []) (at + length a) c t e w)))

  -- any bytes up to an end
  rest_tells : (xs : List ℕ) (end : ℕ) (more : List Goal) (at : ℕ) (c : List ℕ) (t : Seen) → at + length xs ≡ end → Tells b last more (at + length xs) c t
      → Tells b last (rest end ∷ more) at (xs ++ c) t
  rest_tells [] end more at c t e w =
      let h : Tells b last more at c t = subst (λ z. Tells b last more z c t) (add-zero at) w in
      record { left = h.left; settles = rest_here at end more (sym (add-zero at) ∙ e) ∙ h.settles; inside = h.inside; shows = h.shows }
  rest_tells (x ∷ xs) end more at c t e w =
      let place : at + length (x ∷ xs) ≡ at + 1 + length xs = omega arith in
      let h = rest_tells xs end more (at + 1) c t (sym place ∙ e) (subst (λ z. Tells b last more z c t) place w) in
      give_settled b last (rest end) more (rest end ∷ []) at x (x ∷ []) (xs ++ c) t (rest_there at end more (omega (arith, e, place))) refl (rest_next end x (at + 1)) h

  named : (lst owed : ℕ) (name text : List ℕ) → Gives b last (sections lst owed ∷ []) (sections lst owed ∷ []) (Exactly (0 ∷ []) ▸ Sized (Text name ▸ Exactly text)) nothing_seen
  named lst owed name text =
      let n = length name in
      gives_as b last (sections lst owed ∷ []) (sections lst owed ∷ []) (Exactly (0 ∷ []) ▸ Sized (Number n ▸ (TextBytes name ▸ Exactly text))) (Exactly (0 ∷ [])
      ▸ Sized (Text name ▸ Exactly text)) nothing_seen
      (λ at a h. (
        h.0,
        h.1,
        h.2,
        h.3,
        (h.4.0, (h.4.1.0, h.4.1.1, h.4.1.2, h.4.1.3, (h.4.1.4.0, to_right (Number n) (TextBytes name) (Exactly text) (at + length h.0 + length h.4.1.0) h.4.1.1 h.4.1.4.1))),
      ))
      (opened 0 lst owed n (sections lst owed ∷ []) (λ end. name_of n ++ rest end ∷ sections lst owed ∷ []) (TextBytes name ▸ Exactly text) nothing_seen nothing_seen refl (λ end. refl) refl
      (λ end at a c t e h w.
      let place : at + length a ≡ at + length h.0 + length h.1 = omega (arith, ap length h.2, length-append h.0 h.1) in
      let far = rest_tells h.1 end (sections lst owed ∷ []) (at + length h.0) c t (sym place ∙ e) (subst (λ z. Tells b last (sections lst owed ∷ []) z c t) place w) in
      subst (λ z. Tells b last (name_of n ++ rest end ∷ sections lst owed ∷ []) at z t) (sym (append_assoc h.0 h.1 c) ∙ ap (λ z. z ++ c) (sym h.2))
      (gives_name_bytes b last (rest end ∷ sections lst owed ∷ []) name at h.0 (h.1 ++ c) t h.3 far)))

  -- the preamble
  pub gives_bytes : (xs : List ℕ) (more : List Goal) → Gives b last (map exact xs ++ more) more (Exactly xs) nothing_seen
  gives_bytes [] more = gives_none b last more
  gives_bytes (x ∷ xs) more =
      gives_as b last (exact x ∷ (map exact xs ++ more)) more (Exactly (x ∷ []) ▸ Exactly xs) (Exactly (x ∷ xs)) nothing_seen (λ at a h. (x ∷ [], xs, h, refl, refl))
      (gives_then b last (exact x ∷ (map exact xs ++ more)) (map exact xs ++ more) more (Exactly (x ∷ [])) (Exactly xs) nothing_seen nothing_seen
      (gives_exact b last (map exact xs ++ more) x) (gives_bytes xs more))

rises : (last id : ℕ) → last < id → (nat_lt last id && true && true) ≡ true
rises last id h = rw (lt-ltb last id h) refl

free_rises : (last owed : ℕ) → last < 11 → owed ≡ 0 → may_follow 11 last owed ≡ true
free_rises last owed h e = subst (λ z. may_follow 11 last z ≡ true) (sym e) (rw (lt-ltb last 11 h) refl)

none_owed : (owed : ℕ) → (0 < owed → ⊥) → owed ≡ 0
none_owed zero h = refl
none_owed (suc n) h = absurd (h (omega arith))

-- sections lead on and show something
abbrev Tell : ModuleBounds → (last owed at : ℕ) → List ℕ → Seen → Type 0
Tell b last owed at bytes s = (fin : ℕ) × Tells b fin (sections last owed ∷ []) at bytes s

step : (b : ModuleBounds) (s : Section) (ss : List Section) (last owed at : ℕ) (a c : List ℕ) (t : Seen) → SectionOf s at a → Rising last (s ∷ ss) → Balanced owed (s ∷ ss)
    → ((next_last next_owed : ℕ) → Rising next_last ss → Balanced next_owed ss → Tell b next_last next_owed (at + length a) c t) → Tell b last owed at (a ++ c) (both (seen_section b s) t)
step b (types xs) ss last owed at a c t h r o more =
    let g = more 1 owed r.1 o in
    (g.0, vector b g.0 some_types FunctionType seen_type 1 last owed owed xs nothing_seen (rises last 1 r.0) (λ end. refl) refl (λ n gs calm x. type_entry b g.0 n gs calm x) at a c t h g.1)
step b (imports xs) ss last owed at a c t h r o more =
    let g = more 2 owed r.1 o in
    (g.0, vector b g.0 some_imports ImportOf seen_import 2 last owed owed xs nothing_seen (rises last 2 r.0) (λ end. refl) refl (λ n gs calm x. import_entry b g.0 n gs x) at a c t h g.1)
step b (functions xs) ss last owed at a c t h r o more =
    let g = more 3 (length xs) r.1 o in
    (g.0, quiet b g.0 some_functions Number 3 last owed (length xs) xs (functions_seen (length xs)) (rises last 3 r.0) (λ end. refl) refl (λ n gs x. function_entry b g.0 n gs x) at a c t h g.1)
step b (tables xs) ss last owed at a c t h r o more =
    let g = more 4 owed r.1 o in
    (g.0, quiet b g.0 some_tables TableType 4 last owed owed xs nothing_seen (rises last 4 r.0) (λ end. refl) refl (λ n gs x. table_entry b g.0 n gs x) at a c t h g.1)
step b (memories xs) ss last owed at a c t h r o more =
    let g = more 5 owed r.1 o in
    (g.0, quiet b g.0 some_memories LimitsOf 5 last owed owed xs nothing_seen (rises last 5 r.0) (λ end. refl) refl (λ n gs x. memory_entry b g.0 n gs x) at a c t h g.1)
step b (globals xs) ss last owed at a c t h r o more =
    let g = more 6 owed r.1 o in
    (g.0, vector b g.0 some_globals GlobalOf (seen_global b) 6 last owed owed xs nothing_seen (rises last 6 r.0) (λ end. refl) refl (λ n gs calm x. global_entry b g.0 n gs calm x) at a c t h g.1)
step b (exports xs) ss last owed at a c t h r o more =
    let g = more 7 owed r.1 o in
    (g.0, quiet b g.0 some_exports ExportOf 7 last owed owed xs nothing_seen (rises last 7 r.0) (λ end. refl) refl (λ n gs x. export_entry b g.0 n gs x) at a c t h g.1)
step b (start x) ss last owed at a c t h r o more =
    let g = more 8 owed r.1 o in
    (g.0, begin_at b g.0 last owed x (rises last 8 r.0) at a c t h g.1)
step b (elements xs) ss last owed at a c t h r o more =
    let g = more 9 owed r.1 o in
    (g.0, vector b g.0 some_elements ElementOf (seen_element b) 9 last owed owed xs nothing_seen (rises last 9 r.0) (λ end. refl) refl (λ n gs calm x. element_entry b g.0 n gs calm x) at a c t h g.1)
step b (bodies xs) ss last owed at a c t h r o more =
    let g = more 10 0 r.1 o.1 in (
      g.0,
      vector b g.0 some_bodies BodyOf (seen_body b) 10 last owed 0 xs nothing_seen (rises last 10 r.0)
          (λ end. ap (λ z. where_true z (some_of some_bodies (length xs) ++ until end ∷ sections 10 0 ∷ [])) (same_number (length xs) owed o.0)) refl
          (λ n gs calm x. body_entry b g.0 n gs calm x) at a c t h g.1,
    )
step b (segments xs) ss last owed at a c t h r o more =
    let g = more 11 owed r.1 o.1 in (
      g.0,
      vector b g.0 some_segments SegmentOf (seen_segment b) 11 last owed owed xs nothing_seen (free_rises last owed r.0 o.0) (λ end. refl) refl
          (λ n gs calm x. segment_entry b g.0 n gs calm x) at a c t h g.1,
    )
step b (custom name text) ss last owed at a c t h r o more =
    let g = more last owed r o in
    (g.0, named b g.0 last owed name text at a c t h g.1)

file_end : (b : ModuleBounds) (last at : ℕ) (bytes : List ℕ) → bytes ≡ [] → Tells b last (sections last 0 ∷ []) at bytes nothing_seen
unfolding settled Inside
file_end b last at bytes e = record {
  left = sections last 0 ∷ [];
  settles = refl;
  inside = (tt, tt);
  shows =
      subst (λ z. Shows b at (sections last 0 ∷ []) z (sections last 0 ∷ []) nothing_seen) (sym e) (shows_none refl);
}

sections_tell : (b : ModuleBounds) (ss : List Section) (last owed at : ℕ) (bytes : List ℕ) → Items SectionOf ss at bytes → Rising last ss → Balanced owed ss
    → Tell b last owed at bytes (seen_in (seen_section b) ss)
sections_tell b [] last owed at bytes h r o = (last, subst (λ z. Tells b last (sections last z ∷ []) at bytes nothing_seen) (sym o) (file_end b last at bytes h))
sections_tell b (s ∷ ss) last owed at bytes h r o =
    let g = step b s ss last owed at h.0 h.1 (seen_in (seen_section b) ss) h.3 r o (λ k w u v. sections_tell b ss k w (at + length h.0) h.1 h.4 u v) in
    (g.0, subst (λ z. Tells b g.0 (sections last owed ∷ []) at z (both (seen_section b s) (seen_in (seen_section b) ss))) (sym h.2) g.1)

-- behind sections of ids from 10 on there are no functions and no bodies
late : (ss : List Section) (last : ℕ) → Rising last ss → 10 ≤ last → (flat_map sorts_in ss ≡ []) × (flat_map bodies_in ss ≡ [])
late [] last r h = (refl, refl)
late (custom name text ∷ ss) last r h = late ss last r h
late (segments xs ∷ ss) last r h = late ss 11 r.1 (omega arith)
late (_ ∷ ss) last r h = absurd (omega (arith, h, r.0))

counts_balanced : (ss : List Section) (last owed : ℕ) → Rising last ss → owed + length (flat_map sorts_in ss) ≡ length (flat_map bodies_in ss) → (0 < owed → 3 ≤ last) → Balanced owed ss
counts_balanced [] last owed r c h = omega (arith, c)
counts_balanced (custom name text ∷ ss) last owed r c h = counts_balanced ss last owed r c h
counts_balanced (functions xs ∷ ss) last owed r c h =
    let free : owed ≡ 0 = none_owed owed (λ s. omega (arith, h s, r.0)) in
    counts_balanced ss 3 (length xs) r.1 (omega (arith, c, free, length-append xs (flat_map sorts_in ss))) (λ s. omega arith)
counts_balanced (bodies xs ∷ ss) last owed r c h =
    let l = late ss 10 r.1 (omega arith) in
    (omega (arith, c, ap length l.0, ap length l.1, length-append xs (flat_map bodies_in ss)), counts_balanced ss 10 0 r.1 (omega (arith, ap length l.0, ap length l.1)) (λ s. omega arith))
counts_balanced (segments xs ∷ ss) last owed r c h =
    let l = late ss 11 r.1 (omega arith) in
    (omega (arith, c, ap length l.0, ap length l.1), counts_balanced ss 11 owed r.1 c (λ s. omega arith))
counts_balanced (types xs ∷ ss) last owed r c h = counts_balanced ss 1 owed r.1 c (λ s. absurd (omega (arith, h s, r.0)))
counts_balanced (imports xs ∷ ss) last owed r c h = counts_balanced ss 2 owed r.1 c (λ s. absurd (omega (arith, h s, r.0)))
counts_balanced (tables xs ∷ ss) last owed r c h = counts_balanced ss 4 owed r.1 c (λ s. omega arith)
counts_balanced (memories xs ∷ ss) last owed r c h = counts_balanced ss 5 owed r.1 c (λ s. omega arith)
counts_balanced (globals xs ∷ ss) last owed r c h = counts_balanced ss 6 owed r.1 c (λ s. omega arith)
counts_balanced (exports xs ∷ ss) last owed r c h = counts_balanced ss 7 owed r.1 c (λ s. omega arith)
counts_balanced (start x ∷ ss) last owed r c h = counts_balanced ss 8 owed r.1 c (λ s. omega arith)
counts_balanced (elements xs ∷ ss) last owed r c h = counts_balanced ss 9 owed r.1 c (λ s. omega arith)

start_settled : settled 0 start_goals ≡ Some start_goals
unfolding settled
start_settled = refl

-- A file's items show what its sections hold.
pub file_shows : (b : ModuleBounds) (bytes : List ℕ) (ss : List Section) → Spells bytes ss → (fin : ℕ) × Shows b 0 start_goals bytes (sections fin 0 ∷ []) (seen_in (seen_section b) ss)
file_shows b bytes ss s =
    let p = s.parts in
    let all = seen_in (seen_section b) ss in
    let balanced = counts_balanced ss 0 0 s.order (omega (arith, s.counts)) (λ h. absurd (omega (arith, h))) in
    let g = sections_tell b ss 0 0 (0 + length p.0) p.1 p.4 s.order balanced in
    let f = gives_bytes b g.0 preamble (sections 0 0 ∷ []) 0 p.0 p.1 all p.3 g.1 in
    let left : f.left ≡ start_goals = some_same f.left start_goals _ f.settles start_settled in
    (g.0, subst (λ z. Shows b 0 start_goals z (sections g.0 0 ∷ []) all) (sym p.2) (subst (λ z. Shows b 0 z (p.0 ++ p.1) (sections g.0 0 ∷ []) all) left f.shows))
