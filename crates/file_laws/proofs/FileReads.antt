-- Sections that are spelled lead to the end of a file; and what a whole file is.
use Rattle.std.proofs.Common.{◌≡◌, ℕ, suc, zero, ◌+◌, ◌<◌, ◌≤◌, List, [], ◌∷◌, ◌++◌, map, flat_map, Some, refl, ap, sym, ◌∙◌, subst, arith, add-zero, append_assoc, append-nil, length, length-append, true, ◌&&◌, nat_eq, nat_lt}
use Rattle.std.proofs.lemmas.Bool.{lt-ltb}
use Rattle.leb_numbers.specs.Leb.{IsUnsigned}
use Rattle.wa_types.specs.Encoding.{preamble}
use Rattle.wa_types.specs.Binary.{Section, custom, types, imports, functions, tables, memories, globals, exports, start, elements, bodies, segments}
use Rattle.wa_types.specs.Begun.{Goal, exact, sections, size, head, until, rest, entries, EntryKind, some_types, some_imports, some_functions, some_tables, some_memories, some_globals, some_exports, some_elements, some_bodies, some_segments, next, Inside, settled, where_true, some_of, name_of, may_follow, content, Leads, arrived, IsWhole, Begun, part, start as start_goals}
use Rattle.wa_types.specs.Spells.{◌▸◌, Exactly, Number, Items, Vector, Sized, Text, FunctionType, LimitsOf, TableType, ImportOf, GlobalOf, ExportOf, ElementOf, BodyOf, SegmentOf, SectionOf, Rising, Spells, sorts_in, bodies_in}
use Rattle.file_laws.proofs.Runs.{some_same, leads_on, begun_front}
use Rattle.file_laws.proofs.GoalReads.{Any, Reads, Goes, gives_one, reads_until, reads_none, reads_then, reads_as}
use Rattle.file_laws.proofs.Leaves.{reads_name_of, text_to, reads_exact}
use Rattle.file_laws.proofs.Vectors.{reads_some}
use Rattle.file_laws.proofs.EntryReads.{reads_type, reads_import, reads_function, reads_table, reads_memory, reads_global, reads_export, reads_element, reads_body, reads_segment}
use Rattle.file_laws.proofs.SectionReads.{reads_rest, Balanced, sections_sound}

sections_next : (last owed v at : ℕ) → next (sections last owed) v at ≡ where_true (may_follow v last owed) (size v last owed ∷ [])
unfolding next
sections_next last owed v at = refl

size_next : (id last owed v at : ℕ) → next (size id last owed) v at ≡ Some (head id (at + v) last owed ∷ [])
unfolding next
size_next id last owed v at = refl

head_next : (id end last owed v at : ℕ) → next (head id end last owed) v at ≡ content id end last owed v
unfolding next
head_next id end last owed v at = refl

-- a section's id, size and first number, and what goes on behind them
record Opening (id last owed fin at : ℕ) (bytes : List ℕ) : Type 0 where
  size_bytes : List ℕ
  head_bytes : List ℕ
  back : List ℕ
  bytes_size : ℕ
  value : ℕ
  new : List Goal
  whole : bytes ≡ id ∷ (size_bytes ++ (head_bytes ++ back))
  is_size : IsUnsigned 32 size_bytes bytes_size
  is_head : IsUnsigned 32 head_bytes value
  follows : may_follow id last owed ≡ true
  pushed : content id (at + 1 + length size_bytes + bytes_size) last owed value ≡ Some new
  goes : Goes new fin (at + 1 + length size_bytes + length head_bytes) back

give_section : (id last owed fin at : ℕ) (bytes : List ℕ) → Opening id last owed fin at bytes → Goes (sections last owed ∷ []) fin at bytes
give_section id last owed fin at bytes o =
    let end = at + 1 + length o.size_bytes + o.bytes_size in
    let h : Goes (head id end last owed ∷ []) fin (at + 1 + length o.size_bytes) (o.head_bytes ++ o.back) =
    gives_one (head id end last owed) [] fin (at + 1 + length o.size_bytes) (o.head_bytes ++ o.back) refl (record {
      front = o.head_bytes;
      back = o.back;
      value = o.value;
      new = o.new;
      whole = refl;
      is_item = o.is_head;
      pushed = head_next id end last owed o.value _ ∙ o.pushed;
      goes = subst (λ z. Goes z fin (at + 1 + length o.size_bytes + length o.head_bytes) o.back) (sym (append-nil o.new)) o.goes;
    }) in
    let s : Goes (size id last owed ∷ []) fin (at + 1) (o.size_bytes ++ (o.head_bytes ++ o.back)) =
    gives_one (size id last owed) [] fin (at + 1) (o.size_bytes ++ (o.head_bytes ++ o.back)) refl (record {
      front = o.size_bytes;
      back = o.head_bytes ++ o.back;
      value = o.bytes_size;
      new = head id end last owed ∷ [];
      whole = refl;
      is_item = o.is_size;
      pushed = size_next id last owed o.bytes_size _;
      goes = h;
    }) in
    gives_one (sections last owed) [] fin at bytes refl (record {
      front = id ∷ [];
      back = o.size_bytes ++ (o.head_bytes ++ o.back);
      value = id;
      new = size id last owed ∷ [];
      whole = o.whole;
      is_item = refl;
      pushed = sections_next last owed id _ ∙ ap (λ b. where_true b (size id last owed ∷ [])) o.follows;
      goes = s;
    })

-- up to an end, and behind it
at_end : (end : ℕ) (more : List Goal) (fin at : ℕ) (bytes : List ℕ) → at ≡ end → Goes more fin at bytes → Goes (until end ∷ more) fin at bytes
at_end end more fin at bytes e g = (reads_until end).complete more fin at bytes ([], bytes, refl, (e, refl), subst (λ z. Goes more fin z bytes) (sym (add-zero at)) g)

-- a section of entries
give_entries : {X : Type 0} (f : X → ℕ → List ℕ → Type 0) (k : EntryKind) (id last owed next_owed fin at : ℕ) (xs : List X) (bytes : List ℕ) → Reads (entries k 1 ∷ []) (Any f)
    → may_follow id last owed ≡ true → ((end : ℕ) → content id end last owed (length xs) ≡ Some (some_of k (length xs) ++ until end ∷ sections id next_owed ∷ []))
    → ((Exactly (id ∷ []) ▸ Sized (Vector f xs)) ▸ Goes (sections id next_owed ∷ []) fin) at bytes → Goes (sections last owed ∷ []) fin at bytes
give_entries f k id last owed next_owed fin at xs bytes r follows pushed h =
    let s = h.3 in
    let z = s.4 in
    let v = z.1.4.1 in
    let id_is : s.0 ≡ id ∷ [] = s.3 in
    let front : h.0 ≡ id ∷ (z.1.0 ++ (v.0 ++ v.1)) = s.2 ∙ ap (λ t. t ++ s.1) id_is ∙ ap (λ t. id ∷ t) (z.1.2 ∙ ap (λ t. z.1.0 ++ t) v.2) in
    let place : at + length s.0 ≡ at + 1 = ap (λ t. at + length t) id_is in
    let end = at + 1 + length z.1.0 + z.0 in
    let start_at = at + 1 + length z.1.0 + length v.0 in
    let spelled : Items f xs start_at v.1 = subst (λ t. Items f xs (t + length z.1.0 + length v.0) v.1) place v.4 in
    let here : start_at + length v.1 ≡ end = omega (arith, z.1.4.0, ap length v.2, length-append v.0 v.1) in
    let g : Goes (sections id next_owed ∷ []) fin (start_at + length v.1) h.1 =
    subst (λ t. Goes (sections id next_owed ∷ []) fin t h.1) (omega (arith, ap length front, length-append z.1.0 (v.0 ++ v.1), length-append v.0 v.1)) h.4 in
    give_section id last owed fin at bytes (record {
      size_bytes = z.1.0;
      head_bytes = v.0;
      back = v.1 ++ h.1;
      bytes_size = z.0;
      value = length xs;
      new = some_of k (length xs) ++ until end ∷ sections id next_owed ∷ [];
      whole = h.2 ∙ ap (λ t. t ++ h.1) front ∙ ap (λ t. id ∷ t) (append_assoc z.1.0 (v.0 ++ v.1) h.1 ∙ ap (λ t. z.1.0 ++ t) (append_assoc v.0 v.1 h.1));
      is_size = z.1.3;
      is_head = v.3;
      follows = follows;
      pushed = pushed end;
      goes = (reads_some f k r (length xs)).complete (until end ∷ sections id next_owed ∷ []) fin start_at (v.1 ++ h.1)
          (v.1, h.1, refl, record { items = xs; number = refl; spelled = spelled }, at_end end (sections id next_owed ∷ []) fin (start_at + length v.1) h.1 here g);
    })

give_start : (last owed fin at x : ℕ) (bytes : List ℕ) → may_follow 8 last owed ≡ true → ((Exactly (8 ∷ []) ▸ Sized (Number x)) ▸ Goes (sections 8 owed ∷ []) fin) at bytes
    → Goes (sections last owed ∷ []) fin at bytes
give_start last owed fin at x bytes follows h =
    let s = h.3 in
    let z = s.4 in
    let id_is : s.0 ≡ 8 ∷ [] = s.3 in
    let front : h.0 ≡ 8 ∷ (z.1.0 ++ z.1.1) = s.2 ∙ ap (λ t. t ++ s.1) id_is ∙ ap (λ t. 8 ∷ t) z.1.2 in
    let end = at + 1 + length z.1.0 + z.0 in
    let place = at + 1 + length z.1.0 + length z.1.1 in
    let here : place ≡ end = omega (arith, z.1.4.0) in
    let g : Goes (sections 8 owed ∷ []) fin place h.1 = subst (λ t. Goes (sections 8 owed ∷ []) fin t h.1) (omega (arith, ap length front, length-append z.1.0 z.1.1)) h.4 in
    give_section 8 last owed fin at bytes (record {
      size_bytes = z.1.0;
      head_bytes = z.1.1;
      back = h.1;
      bytes_size = z.0;
      value = x;
      new = until end ∷ sections 8 owed ∷ [];
      whole = h.2 ∙ ap (λ t. t ++ h.1) front ∙ ap (λ t. 8 ∷ t) (append_assoc z.1.0 z.1.1 h.1);
      is_size = z.1.3;
      is_head = z.1.4.1;
      follows = follows;
      pushed = refl;
      goes = at_end end (sections 8 owed ∷ []) fin place h.1 here g;
    })

give_custom : (last owed fin at : ℕ) (name text : List ℕ) (bytes : List ℕ) → ((Exactly (0 ∷ []) ▸ Sized (Text name ▸ Exactly text)) ▸ Goes (sections last owed ∷ []) fin) at bytes
    → Goes (sections last owed ∷ []) fin at bytes
give_custom last owed fin at name text bytes h =
    let s = h.3 in
    let z = s.4 in
    let c = z.1.4.1 in
    let id_is : s.0 ≡ 0 ∷ [] = s.3 in
    let t = text_to (at + 1 + length z.1.0) c.0 (name, subst (λ w. Text name (w + length z.1.0) c.0) (ap (λ w. at + length w) id_is) c.3) in
    let front : h.0 ≡ 0 ∷ (z.1.0 ++ ((t.front ++ t.back) ++ c.1)) = s.2 ∙ ap (λ w. w ++ s.1) id_is ∙ ap (λ w. 0 ∷ w) (z.1.2 ∙ ap (λ w. z.1.0 ++ w) (c.2 ∙ ap (λ w. w ++ c.1) t.whole)) in
    let end = at + 1 + length z.1.0 + z.0 in
    let place = at + 1 + length z.1.0 + length t.front in
    let here : place + length t.back + length c.1 ≡ end = omega (arith, z.1.4.0, ap length c.2, length-append c.0 c.1, ap length t.whole, length-append t.front t.back) in
    let g : Goes (sections last owed ∷ []) fin (place + length t.back + length c.1) h.1 =
    subst (λ w. Goes (sections last owed ∷ []) fin w h.1) (omega (
      arith,
      ap length front,
      length-append z.1.0 ((t.front ++ t.back) ++ c.1),
      length-append (t.front ++ t.back) c.1,
      length-append t.front t.back,
    )) h.4 in
    give_section 0 last owed fin at bytes (record {
      size_bytes = z.1.0;
      head_bytes = t.front;
      back = t.back ++ (c.1 ++ h.1);
      bytes_size = z.0;
      value = t.value;
      new = name_of t.value ++ rest end ∷ sections last owed ∷ [];
      whole = h.2 ∙ ap (λ w. w ++ h.1) front ∙ ap (λ w. 0 ∷ w) (append_assoc z.1.0 ((t.front ++ t.back) ++ c.1) h.1
          ∙ ap (λ w. z.1.0 ++ w) (append_assoc (t.front ++ t.back) c.1 h.1 ∙ append_assoc t.front t.back (c.1 ++ h.1)));
      is_size = z.1.3;
      is_head = t.is_item;
      follows = refl;
      pushed = refl;
      goes = (reads_name_of t.value).complete (rest end ∷ sections last owed ∷ []) fin place (t.back ++ (c.1 ++ h.1))
          (t.back, c.1 ++ h.1, refl, t.follows, (reads_rest end).complete (sections last owed ∷ []) fin (place + length t.back) (c.1 ++ h.1) (c.1, h.1, refl, here, g));
    })

rises : (last id : ℕ) → last < id → (nat_lt last id && true && true) ≡ true
rises last id h = rw (lt-ltb last id h) refl

same_number : (m n : ℕ) → m ≡ n → nat_eq m n ≡ true
same_number m n e = subst (λ z. nat_eq m z ≡ true) e (grind (arith))

free_rises : (last owed : ℕ) → last < 11 → owed ≡ 0 → may_follow 11 last owed ≡ true
free_rises last owed h e = subst (λ z. may_follow 11 last z ≡ true) (sym e) (rw (lt-ltb last 11 h) refl)

none_owed : (owed : ℕ) → (0 < owed → ⊥) → owed ≡ 0
none_owed zero h = refl
none_owed (suc n) h = absurd (h (omega arith))

-- each section leads on to those behind it
give : (s : Section) (ss : List Section) (last owed at : ℕ) (bytes : List ℕ) → SectionOf s at bytes → Rising last (s ∷ ss) → Balanced owed (s ∷ ss) → (b : List ℕ)
    → ((next_last next_owed : ℕ) → Rising next_last ss → Balanced next_owed ss → (fin : ℕ) × Goes (sections next_last next_owed ∷ []) fin (at + length bytes) b)
    → (fin : ℕ) × Goes (sections last owed ∷ []) fin at (bytes ++ b)
give (types ts) ss last owed at bytes h r c b more =
    let g = more 1 owed r.1 c in
    (g.0, give_entries FunctionType some_types 1 last owed owed g.0 at ts (bytes ++ b) reads_type (rises last 1 r.0) (λ end. refl) (bytes, b, refl, h, g.1))
give (imports xs) ss last owed at bytes h r c b more =
    let g = more 2 owed r.1 c in
    (g.0, give_entries ImportOf some_imports 2 last owed owed g.0 at xs (bytes ++ b) reads_import (rises last 2 r.0) (λ end. refl) (bytes, b, refl, h, g.1))
give (tables xs) ss last owed at bytes h r c b more =
    let g = more 4 owed r.1 c in
    (g.0, give_entries TableType some_tables 4 last owed owed g.0 at xs (bytes ++ b) reads_table (rises last 4 r.0) (λ end. refl) (bytes, b, refl, h, g.1))
give (memories xs) ss last owed at bytes h r c b more =
    let g = more 5 owed r.1 c in
    (g.0, give_entries LimitsOf some_memories 5 last owed owed g.0 at xs (bytes ++ b) reads_memory (rises last 5 r.0) (λ end. refl) (bytes, b, refl, h, g.1))
give (globals xs) ss last owed at bytes h r c b more =
    let g = more 6 owed r.1 c in
    (g.0, give_entries GlobalOf some_globals 6 last owed owed g.0 at xs (bytes ++ b) reads_global (rises last 6 r.0) (λ end. refl) (bytes, b, refl, h, g.1))
give (exports xs) ss last owed at bytes h r c b more =
    let g = more 7 owed r.1 c in
    (g.0, give_entries ExportOf some_exports 7 last owed owed g.0 at xs (bytes ++ b) reads_export (rises last 7 r.0) (λ end. refl) (bytes, b, refl, h, g.1))
give (elements xs) ss last owed at bytes h r c b more =
    let g = more 9 owed r.1 c in
    (g.0, give_entries ElementOf some_elements 9 last owed owed g.0 at xs (bytes ++ b) reads_element (rises last 9 r.0) (λ end. refl) (bytes, b, refl, h, g.1))
give (functions xs) ss last owed at bytes h r c b more =
    let g = more 3 (length xs) r.1 c in
    (g.0, give_entries Number some_functions 3 last owed (length xs) g.0 at xs (bytes ++ b) reads_function (rises last 3 r.0) (λ end. refl) (bytes, b, refl, h, g.1))
give (bodies xs) ss last owed at bytes h r c b more =
    let g = more 10 0 r.1 c.1 in (
      g.0,
      give_entries BodyOf some_bodies 10 last owed 0 g.0 at xs (bytes ++ b) reads_body (rises last 10 r.0)
          (λ end. ap (λ t. where_true t (some_of some_bodies (length xs) ++ until end ∷ sections 10 0 ∷ [])) (same_number (length xs) owed c.0)) (bytes, b, refl, h, g.1),
    )
give (segments xs) ss last owed at bytes h r c b more =
    let g = more 11 owed r.1 c.1 in
    (g.0, give_entries SegmentOf some_segments 11 last owed owed g.0 at xs (bytes ++ b) reads_segment (free_rises last owed r.0 c.0) (λ end. refl) (bytes, b, refl, h, g.1))
give (start x) ss last owed at bytes h r c b more =
    let g = more 8 owed r.1 c in
    (g.0, give_start last owed g.0 at x (bytes ++ b) (rises last 8 r.0) (bytes, b, refl, h, g.1))
give (custom name text) ss last owed at bytes h r c b more =
    let g = more last owed r c in
    (g.0, give_custom last owed g.0 at name text (bytes ++ b) (bytes, b, refl, h, g.1))

file_end : (last at : ℕ) (bytes : List ℕ) → bytes ≡ [] → Goes (sections last 0 ∷ []) last at bytes
unfolding settled Inside
file_end last at bytes e = record { left = sections last 0 ∷ []; settles = refl; inside = (tt, tt); leads = subst (λ z. Leads at (sections last 0 ∷ []) z (sections last 0 ∷ [])) (sym e) arrived }

-- Sections in order lead to the end of a file.
pub sections_complete : (ss : List Section) (last owed at : ℕ) (bytes : List ℕ) → Items SectionOf ss at bytes → Rising last ss → Balanced owed ss
    → (fin : ℕ) × Goes (sections last owed ∷ []) fin at bytes
sections_complete [] last owed at bytes h r c = (last, subst (λ z. Goes (sections last z ∷ []) last at bytes) (sym c) (file_end last at bytes h))
sections_complete (s ∷ ss) last owed at bytes h r c =
    let g = give s ss last owed at h.0 h.3 r c h.1 (λ k o u v. sections_complete ss k o (at + length h.0) h.1 h.4 u v) in
    (g.0, subst (Goes (sections last owed ∷ []) g.0 at) (sym h.2) g.1)

-- behind sections of ids from 10 on there are no functions and no bodies
late : (ss : List Section) (last : ℕ) → Rising last ss → 10 ≤ last → (flat_map sorts_in ss ≡ []) × (flat_map bodies_in ss ≡ [])
late [] last r h = (refl, refl)
late (custom name text ∷ ss) last r h = late ss last r h
late (segments xs ∷ ss) last r h = late ss 11 r.1 (omega arith)
late (_ ∷ ss) last r h = absurd (omega (arith, h, r.0))

balanced_counts : (ss : List Section) (last owed : ℕ) → Rising last ss → Balanced owed ss → (0 < owed → 3 ≤ last) → owed + length (flat_map sorts_in ss) ≡ length (flat_map bodies_in ss)
balanced_counts [] last owed r c h = omega (arith, c)
balanced_counts (custom name text ∷ ss) last owed r c h = balanced_counts ss last owed r c h
balanced_counts (functions xs ∷ ss) last owed r c h =
    let more = balanced_counts ss 3 (length xs) r.1 c (λ s. omega arith) in
    let free : owed ≡ 0 = none_owed owed (λ s. omega (arith, h s, r.0)) in
    omega (arith, more, free, length-append xs (flat_map sorts_in ss))
balanced_counts (bodies xs ∷ ss) last owed r c h =
    let more = balanced_counts ss 10 0 r.1 c.1 (λ s. omega arith) in
    omega (arith, more, c.0, length-append xs (flat_map bodies_in ss))
balanced_counts (segments xs ∷ ss) last owed r c h = balanced_counts ss 11 owed r.1 c.1 (λ s. omega arith)
balanced_counts (types xs ∷ ss) last owed r c h = balanced_counts ss 1 owed r.1 c (λ s. absurd (omega (arith, h s, r.0)))
balanced_counts (imports xs ∷ ss) last owed r c h = balanced_counts ss 2 owed r.1 c (λ s. absurd (omega (arith, h s, r.0)))
balanced_counts (tables xs ∷ ss) last owed r c h = balanced_counts ss 4 owed r.1 c (λ s. omega arith)
balanced_counts (memories xs ∷ ss) last owed r c h = balanced_counts ss 5 owed r.1 c (λ s. omega arith)
balanced_counts (globals xs ∷ ss) last owed r c h = balanced_counts ss 6 owed r.1 c (λ s. omega arith)
balanced_counts (exports xs ∷ ss) last owed r c h = balanced_counts ss 7 owed r.1 c (λ s. omega arith)
balanced_counts (start x ∷ ss) last owed r c h = balanced_counts ss 8 owed r.1 c (λ s. omega arith)
balanced_counts (elements xs ∷ ss) last owed r c h = balanced_counts ss 9 owed r.1 c (λ s. omega arith)

counts_balanced : (ss : List Section) (last owed : ℕ) → Rising last ss → owed + length (flat_map sorts_in ss) ≡ length (flat_map bodies_in ss) → (0 < owed → 3 ≤ last) → Balanced owed ss
counts_balanced [] last owed r c h = omega (arith, c)
counts_balanced (custom name text ∷ ss) last owed r c h = counts_balanced ss last owed r c h
counts_balanced (functions xs ∷ ss) last owed r c h =
    let free : owed ≡ 0 = none_owed owed (λ s. omega (arith, h s, r.0)) in
    counts_balanced ss 3 (length xs) r.1 (omega (arith, c, free, length-append xs (flat_map sorts_in ss))) (λ s. omega arith)
counts_balanced (bodies xs ∷ ss) last owed r c h =
    let l = late ss 10 r.1 (omega arith) in
    (omega (arith, c, ap length l.0, ap length l.1, length-append xs (flat_map bodies_in ss)), counts_balanced ss 10 0 r.1 (omega (arith, ap length l.0, ap length l.1)) (λ s. omega arith))
counts_balanced (segments xs ∷ ss) last owed r c h =
    let l = late ss 11 r.1 (omega arith) in
    (omega (arith, c, ap length l.0, ap length l.1), counts_balanced ss 11 owed r.1 c (λ s. omega arith))
counts_balanced (types xs ∷ ss) last owed r c h = counts_balanced ss 1 owed r.1 c (λ s. absurd (omega (arith, h s, r.0)))
counts_balanced (imports xs ∷ ss) last owed r c h = counts_balanced ss 2 owed r.1 c (λ s. absurd (omega (arith, h s, r.0)))
counts_balanced (tables xs ∷ ss) last owed r c h = counts_balanced ss 4 owed r.1 c (λ s. omega arith)
counts_balanced (memories xs ∷ ss) last owed r c h = counts_balanced ss 5 owed r.1 c (λ s. omega arith)
counts_balanced (globals xs ∷ ss) last owed r c h = counts_balanced ss 6 owed r.1 c (λ s. omega arith)
counts_balanced (exports xs ∷ ss) last owed r c h = counts_balanced ss 7 owed r.1 c (λ s. omega arith)
counts_balanced (start x ∷ ss) last owed r c h = counts_balanced ss 8 owed r.1 c (λ s. omega arith)
counts_balanced (elements xs ∷ ss) last owed r c h = counts_balanced ss 9 owed r.1 c (λ s. omega arith)

-- bytes one by one
reads_bytes : (xs : List ℕ) → Reads (map exact xs) (Exactly xs)
reads_bytes [] = reads_none
reads_bytes (x ∷ xs) = reads_as (exact x ∷ map exact xs) (Exactly (x ∷ []) ▸ Exactly xs) (Exactly (x ∷ xs))
    (λ at a h. h.2 ∙ ap (λ z. z ++ h.1) h.3 ∙ ap (λ z. x ∷ z) h.4) (λ at a h. (x ∷ [], xs, h, refl, refl))
    (reads_then (exact x) (map exact xs) (Exactly (x ∷ [])) (Exactly xs) (reads_exact x) (reads_bytes xs))

start_goes : (last : ℕ) (bytes : List ℕ) → Leads 0 start_goals bytes (sections last 0 ∷ []) → Goes start_goals last 0 bytes
unfolding settled Inside
start_goes last bytes l = record { left = start_goals; settles = refl; inside = (tt, (tt, (tt, (tt, (tt, (tt, (tt, (tt, (tt, tt))))))))); leads = l }

goes_start : (last : ℕ) (bytes : List ℕ) → Goes start_goals last 0 bytes → Leads 0 start_goals bytes (sections last 0 ∷ [])
unfolding settled
goes_start last bytes g = subst (λ z. Leads 0 z bytes (sections last 0 ∷ [])) (some_same g.left start_goals _ g.settles refl) g.leads

-- What the goals accept as whole is spelled.
pub whole_spelled : (bytes : List ℕ) → IsWhole bytes → (ss : List Section) × Spells bytes ss
whole_spelled bytes w =
    let p = (reads_bytes preamble).sound (sections 0 0 ∷ []) w.0 0 bytes (start_goes w.0 bytes w.1) in
    let f = sections_sound (length p.1) 0 0 w.0 (0 + length p.0) p.1 (omega arith) p.4 in
    let counts : 0 + length (flat_map sorts_in f.all) ≡ length (flat_map bodies_in f.all) = balanced_counts f.all 0 0 f.rising f.balanced (λ s. absurd (omega (arith, s))) in
    (f.all, record { parts = (p.0, p.1, p.2, p.3, f.spelled); order = f.rising; counts = omega (arith, counts) })

-- What is spelled the goals accept as whole.
pub spelled_whole : (bytes : List ℕ) (ss : List Section) → Spells bytes ss → IsWhole bytes
spelled_whole bytes ss s =
    let p = s.parts in
    let g = sections_complete ss 0 0 (0 + length p.0) p.1 p.4 s.order (counts_balanced ss 0 0 s.order (omega (arith, s.counts)) (λ h. absurd (omega (arith, h)))) in
    (g.0, goes_start g.0 bytes ((reads_bytes preamble).complete (sections 0 0 ∷ []) g.0 0 bytes (p.0, p.1, p.2, p.3, g.1)))

whole_begun : (bytes : List ℕ) → IsWhole bytes → Begun bytes
unfolding Inside
whole_begun bytes w = subst Begun (append-nil bytes) (leads_on 0 start_goals bytes (sections w.0 0 ∷ []) w.1 [] (part refl (tt, tt)))

-- Each beginning of what is spelled is begun.
pub spelled_begun : (bytes : List ℕ) (ss : List Section) → Spells bytes ss → (a b : List ℕ) → bytes ≡ a ++ b → Begun a
spelled_begun bytes ss s a b e = begun_front 0 start_goals bytes (whole_begun bytes (spelled_whole bytes ss s)) a b e

-- Each beginning of what is begun is begun.
pub begun_beginning : (bytes : List ℕ) → Begun bytes → (a b : List ℕ) → bytes ≡ a ++ b → Begun a
begun_beginning bytes h a b e = begun_front 0 start_goals bytes h a b e
