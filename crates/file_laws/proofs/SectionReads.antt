-- Sections, and whole files.
use Rattle.std.proofs.Common.{◌≡◌, ℕ, suc, zero, ◌+◌, ◌-◌, ◌<◌, ◌≤◌, ◌⊎◌, List, [], ◌∷◌, ◌++◌, Some, refl, ap, sym, ◌∙◌, subst, arith, add-zero, append_assoc, append-nil, length, length-append, Bool, true, false, not, ◌&&◌, inl, inr, nat_eq, nat_le, nat_lt, eqb-true}
use Rattle.std.proofs.lemmas.Bool.{ltb-true, ltb-false, lt-ltb}
use Rattle.leb_numbers.specs.Leb.{IsUnsigned}
use Rattle.wa_types.specs.Binary.{Section, custom, types, imports, functions, tables, memories, globals, exports, start, elements, bodies, segments}
use Rattle.wa_types.specs.Begun.{Goal, sections, size, head, until, rest, entries, EntryKind, some_types, some_imports, some_functions, some_tables, some_memories, some_globals, some_exports, some_elements, some_bodies, some_segments, next, settled, where_true, some_of, name_of, may_follow, content, Leads, arrived, item}
use Rattle.wa_types.specs.Spells.{◌▸◌, Exactly, Number, Items, Vector, Sized, FunctionType, LimitsOf, TableType, ImportOf, GlobalOf, ExportOf, ElementOf, BodyOf, SegmentOf, SectionOf, Rising}
use Rattle.file_laws.proofs.Runs.{some_same, not_none}
use Rattle.file_laws.proofs.GoalReads.{Any, Reads, Goes, First, takes_one, leads_one, reads_until, first_item}
use Rattle.file_laws.proofs.Leaves.{reads_name_of, text_from}
use Rattle.file_laws.proofs.Vectors.{reads_some}
use Rattle.file_laws.proofs.EntryReads.{reads_type, reads_import, reads_function, reads_table, reads_memory, reads_global, reads_export, reads_element, reads_body, reads_segment}

-- any bytes up to an end
abbrev pub UpTo : ℕ → ℕ → List ℕ → Type 0
UpTo end at bytes = at + length bytes ≡ end

by_test : (b : Bool) → (b ≡ true) ⊎ (b ≡ false)
by_test true = inl refl
by_test false = inr refl

settled_here : (at end : ℕ) (gs : List Goal) → nat_eq at end ≡ true → settled at (rest end ∷ gs) ≡ settled at gs
unfolding settled
settled_here at end gs e = rw e refl

settled_there : (at end : ℕ) (gs : List Goal) → nat_eq at end ≡ false → settled at (rest end ∷ gs) ≡ Some (rest end ∷ gs)
unfolding settled
settled_there at end gs e = rw e refl

rest_next : (end v at : ℕ) → next (rest end) v at ≡ Some (rest end ∷ [])
unfolding next
rest_next end v at = refl

-- here is the end, or one more byte
rest_head : (end : ℕ) (more : List Goal) (last at : ℕ) (bytes : List ℕ) → Goes (rest end ∷ more) last at bytes
    → ((at ≡ end) × Goes more last at bytes) ⊎ ((v : ℕ) × (b : List ℕ) × (bytes ≡ v ∷ b) × Goes (rest end ∷ more) last (at + 1) b)
rest_head end more last at bytes h = elim (by_test (nat_eq at end)) [
  | inl e ↦ inl (eqb-true at end e, record { left = h.left; settles = sym (settled_here at end more e) ∙ h.settles; inside = h.inside; leads = h.leads })
  | inr e ↦
      let left : h.left ≡ rest end ∷ more = some_same h.left (rest end ∷ more) _ h.settles (settled_there at end more e) in
      let f = first_item (rest end) more last at bytes (sections last 0 ∷ []) refl refl (subst (λ z. Leads at z bytes (sections last 0 ∷ [])) left h.leads) in
      let new : f.new ≡ rest end ∷ [] = some_same f.new (rest end ∷ []) _ f.pushed (rest_next end f.value _) in
      inr (
        f.value,
        f.back,
        f.whole ∙ ap (λ z. z ++ f.back) f.is_item,
        subst (λ z. Goes (z ++ more) last (at + 1) f.back) new (subst (λ z. Goes (f.new ++ more) last (at + length z) f.back) f.is_item f.goes),
      )
]

rest_end : (end : ℕ) (more : List Goal) (last at : ℕ) (bytes : List ℕ) → at ≡ end → Goes more last at bytes → (UpTo end ▸ Goes more last) at bytes
rest_end end more last at bytes e g = ([], bytes, refl, omega (arith, e), subst (λ z. Goes more last z bytes) (sym (add-zero at)) g)

rest_sound : (n end : ℕ) (more : List Goal) (last at : ℕ) (bytes : List ℕ) → length bytes ≤ n → Goes (rest end ∷ more) last at bytes → (UpTo end ▸ Goes more last) at bytes
rest_sound zero end more last at bytes short h = elim (rest_head end more last at bytes h) [
  | inl e ↦ rest_end end more last at bytes e.0 e.1
  | inr f ↦ absurd (omega (arith, short, ap length f.2))
]
rest_sound (suc n) end more last at bytes short h = elim (rest_head end more last at bytes h) [
  | inl e ↦ rest_end end more last at bytes e.0 e.1
  | inr f ↦
      let r = rest_sound n end more last (at + 1) f.1 (omega (arith, short, ap length f.2)) f.3 in
      (f.0 ∷ r.0, r.1, f.2 ∙ ap (λ z. f.0 ∷ z) r.2, omega (arith, r.3), subst (λ z. Goes more last z r.1) (omega arith) r.4)
]

not_same : (at end : ℕ) → at < end → nat_eq at end ≡ false
not_same at end h = elim (by_test (nat_eq at end)) [
  | inl e ↦ absurd (omega (arith, h, eqb-true at end e))
  | inr e ↦ e
]

same_place : (at end : ℕ) → at ≡ end → nat_eq at end ≡ true
same_place at end e = subst (λ z. nat_eq at z ≡ true) e (grind (arith))

rest_complete : (a : List ℕ) (end : ℕ) (more : List Goal) (last at : ℕ) (b : List ℕ) → at + length a ≡ end → Goes more last (at + length a) b → Goes (rest end ∷ more) last at (a ++ b)
rest_complete [] end more last at b e g =
    let h : Goes more last at b = subst (λ z. Goes more last z b) (add-zero at) g in
    record { left = h.left; settles = settled_here at end more (same_place at end (omega (arith, e))) ∙ h.settles; inside = h.inside; leads = h.leads }
rest_complete (x ∷ a) end more last at b e g =
    let place : at + 1 + length a ≡ at + length (x ∷ a) = omega arith in
    let h = rest_complete a end more last (at + 1) b (place ∙ e) (subst (λ z. Goes more last z b) (sym place) g) in
    let l = leads_one (rest end) more last at (x ∷ (a ++ b)) (record {
      front = x ∷ [];
      back = a ++ b;
      value = x;
      new = rest end
          ∷ [];
      whole = refl;
      is_item = refl;
      pushed = rest_next end x _;
      goes = h;
    }) in
    record { left = rest end ∷ more; settles = settled_there at end more (not_same at end (omega (arith, e))); inside = l.1; leads = l.0 }

pub reads_rest : (end : ℕ) → Reads (rest end ∷ []) (UpTo end)
reads_rest end = record {
  sound = λ more last at bytes h. rest_sound (length bytes) end more last at bytes (omega arith) h;
  complete = λ more last at bytes h. subst (Goes (rest end ∷ more) last at) (sym h.2) (rest_complete h.0 end more last at h.1 h.3 h.4);
}

-- as many bodies as functions, section by section
abbrev pub Balanced : (owed : ℕ) → List Section → Type 0
Balanced owed [] = owed ≡ 0
Balanced owed (functions sorts ∷ ss) = Balanced (length sorts) ss
Balanced owed (bodies bs ∷ ss) = (length bs ≡ owed) × Balanced 0 ss
Balanced owed (segments xs ∷ ss) = (owed ≡ 0) × Balanced owed ss
Balanced owed (s ∷ ss) = Balanced owed ss

-- a section's id, size and first number
record Opened (id last owed fin at : ℕ) (bytes : List ℕ) : Type 0 where
  size_bytes : List ℕ
  head_bytes : List ℕ
  back : List ℕ
  bytes_size : ℕ
  value : ℕ
  new : List Goal
  whole : bytes ≡ id ∷ (size_bytes ++ (head_bytes ++ back))
  is_size : IsUnsigned 32 size_bytes bytes_size
  is_head : IsUnsigned 32 head_bytes value
  follows : may_follow id last owed ≡ true
  pushed : content id (at + 1 + length size_bytes + bytes_size) last owed value ≡ Some new
  goes : Goes new fin (at + 1 + length size_bytes + length head_bytes) back

where_some : (b : Bool) (gs new : List Goal) → where_true b gs ≡ Some new → (b ≡ true) × (new ≡ gs)
where_some true gs new e = (refl, some_same new gs _ e refl)
where_some false gs new e = absurd (not_none new e)

sections_next : (last owed v at : ℕ) → next (sections last owed) v at ≡ where_true (may_follow v last owed) (size v last owed ∷ [])
unfolding next
sections_next last owed v at = refl

size_next : (id last owed v at : ℕ) → next (size id last owed) v at ≡ Some (head id (at + v) last owed ∷ [])
unfolding next
size_next id last owed v at = refl

head_next : (id end last owed v at : ℕ) → next (head id end last owed) v at ≡ content id end last owed v
unfolding next
head_next id end last owed v at = refl

-- the end of the file, or a section
data Turn (last owed fin at : ℕ) (bytes : List ℕ) : Type 0 where
  finished : bytes ≡ [] → owed ≡ 0 → Turn last owed fin at bytes
  opened : (id : ℕ) → Opened id last owed fin at bytes → Turn last owed fin at bytes

owed_of : Goal → ℕ
owed_of (sections last owed) = owed
owed_of _ = 0

open_section : (last owed fin at : ℕ) (bytes : List ℕ) → First (sections last owed) [] fin at bytes → Turn last owed fin at bytes
open_section last owed fin at bytes f =
    let w = where_some (may_follow f.value last owed) (size f.value last owed ∷ []) f.new (sym (sections_next last owed f.value _) ∙ f.pushed) in
    let g : Goes (size f.value last owed ∷ []) fin (at + 1) f.back = subst (λ z. Goes (z ++ []) fin (at + 1) f.back) w.1
    (subst (λ z. Goes (f.new ++ []) fin (at + length z) f.back) f.is_item f.goes) in
    let s = takes_one (size f.value last owed) [] fin (at + 1) f.back refl refl g in
    let n : s.new ≡ head f.value (at + 1 + length s.front + s.value) last owed ∷ [] = some_same s.new _ _ s.pushed (size_next f.value last owed s.value _) in
    let k : Goes (head f.value (at + 1 + length s.front + s.value) last owed ∷ []) fin (at + 1 + length s.front) s.back = subst (λ z. Goes (z ++ []) fin (at + 1 + length s.front) s.back) n s.goes in
    let t = takes_one (head f.value (at + 1 + length s.front + s.value) last owed) [] fin (at + 1 + length s.front) s.back refl refl k in
    opened f.value (record {
      size_bytes = s.front;
      head_bytes = t.front;
      back = t.back;
      bytes_size = s.value;
      value = t.value;
      new = t.new;
      whole = f.whole ∙ ap (λ z. z ++ f.back) f.is_item ∙ ap (λ z. f.value ∷ z) (s.whole ∙ ap (λ z. s.front ++ z) t.whole);
      is_size = s.is_item;
      is_head = t.is_item;
      follows = w.0;
      pushed = sym (head_next f.value (at + 1 + length s.front + s.value) last owed t.value _) ∙ t.pushed;
      goes = subst (λ z. Goes z fin (at + 1 + length s.front + length t.front) t.back) (append-nil t.new) t.goes;
    })

settled_sections : (at last owed : ℕ) → settled at (sections last owed ∷ []) ≡ Some (sections last owed ∷ [])
unfolding settled
settled_sections at last owed = refl

top_of : List Goal → ℕ
top_of [] = 0
top_of (g ∷ gs) = owed_of g

turn_of : (last owed fin at : ℕ) (bytes : List ℕ) (hs : List Goal) → hs ≡ sections fin 0 ∷ [] → Leads at (sections last owed ∷ []) bytes hs → Turn last owed fin at bytes
unfolding top_of owed_of
turn_of last owed fin at bytes hs e arrived = finished refl (ap top_of e)
turn_of last owed fin at bytes hs e (item a b v ks f i s l) =
    open_section last owed fin at bytes (record {
      front = a;
      back = b;
      value = v;
      new = s.new;
      whole = f;
      is_item = i;
      pushed = s.pushed;
      goes = record { left = ks; settles = s.settles; inside = s.inside; leads = subst (λ z. Leads (at + length a) ks b z) e l };
    })

turn : (last owed fin at : ℕ) (bytes : List ℕ) → Goes (sections last owed ∷ []) fin at bytes → Turn last owed fin at bytes
turn last owed fin at bytes h =
    let left : h.left ≡ sections last owed ∷ [] = some_same h.left _ _ h.settles (settled_sections at last owed) in
    turn_of last owed fin at bytes (sections fin 0 ∷ []) refl (subst (λ z. Leads at z bytes (sections fin 0 ∷ [])) left h.leads)

-- A section at the front, and what goes on behind it.
record Step (last owed fin at : ℕ) (bytes : List ℕ) : Type 0 where
  section : Section
  front : List ℕ
  back : List ℕ
  next_last : ℕ
  next_owed : ℕ
  whole : bytes ≡ front ++ back
  spelled : SectionOf section at front
  goes : Goes (sections next_last next_owed ∷ []) fin (at + length front) back
  rises : (ss : List Section) → Rising next_last ss → Rising last (section ∷ ss)
  balances : (ss : List Section) → Balanced next_owed ss → Balanced owed (section ∷ ss)

-- a section of entries at the front
record Entries {X : Type 0} (f : X → ℕ → List ℕ → Type 0) (id count next_owed fin at : ℕ) (bytes : List ℕ) : Type 0 where
  items : List X
  front : List ℕ
  back : List ℕ
  number : length items ≡ count
  whole : bytes ≡ front ++ back
  spelled : (Exactly (id ∷ []) ▸ Sized (Vector f items)) at front
  goes : Goes (sections id next_owed ∷ []) fin (at + length front) back

-- what stands behind an end
behind_end : (end : ℕ) (more : List Goal) (fin at : ℕ) (bytes : List ℕ) → Goes (until end ∷ more) fin at bytes → (at ≡ end) × Goes more fin at bytes
behind_end end more fin at bytes h =
    let u = (reads_until end).sound more fin at bytes h in
    let none : at + length u.0 ≡ at = omega (arith, ap length u.3.1) in
    (u.3.0, subst (Goes more fin at) (sym (u.2 ∙ ap (λ z. z ++ u.1) u.3.1)) (subst (λ z. Goes more fin z u.1) none u.4))

entries_step : {X : Type 0} (f : X → ℕ → List ℕ → Type 0) (k : EntryKind) (id last owed next_owed fin at : ℕ) (bytes : List ℕ) → Reads (entries k 1 ∷ []) (Any f)
    → (o : Opened id last owed fin at bytes) → o.new ≡ some_of k o.value ++ until (at + 1 + length o.size_bytes + o.bytes_size) ∷ sections id next_owed ∷ []
    → Entries f id o.value next_owed fin at bytes
entries_step f k id last owed next_owed fin at bytes r o e =
    let end = at + 1 + length o.size_bytes + o.bytes_size in
    let m = (reads_some f k r o.value).sound (until end ∷ sections id next_owed ∷ []) fin (at + 1 + length o.size_bytes + length o.head_bytes) o.back
    (subst (λ z. Goes z fin (at + 1 + length o.size_bytes + length o.head_bytes) o.back) e o.goes) in
    let u = behind_end end (sections id next_owed ∷ []) fin (at + 1 + length o.size_bytes + length o.head_bytes + length m.0) m.1 m.4 in
    record {
      items = m.3.items;
      front = id ∷ (o.size_bytes ++ (o.head_bytes ++ m.0));
      back = m.1;
      number = m.3.number;
      whole = o.whole ∙ ap (λ z. id ∷ z) (ap (λ z. o.size_bytes ++ z) (ap (λ z. o.head_bytes ++ z) m.2 ∙ sym (append_assoc o.head_bytes m.0 m.1))
          ∙ sym (append_assoc o.size_bytes (o.head_bytes ++ m.0) m.1));
      spelled = (
        id ∷ [],
        o.size_bytes ++ (o.head_bytes ++ m.0),
        refl,
        refl,
        (
          o.bytes_size,
          (
            o.size_bytes,
            o.head_bytes ++ m.0,
            refl,
            o.is_size,
            (omega (arith, u.0, length-append o.head_bytes m.0), (o.head_bytes, m.0, refl, subst (IsUnsigned 32 o.head_bytes) (sym m.3.number) o.is_head, m.3.spelled)),
          ),
        ),
      );
      goes = subst (λ z. Goes (sections id next_owed ∷ []) fin z m.1) (omega (arith, length-append o.size_bytes (o.head_bytes ++ m.0), length-append o.head_bytes m.0)) u.1;
    }

and_left : (a b : Bool) → (a && b) ≡ true → a ≡ true
and_left true b e = refl
and_left false b e = e

and_right : (a b : Bool) → (a && b) ≡ true → b ≡ true
and_right true b e = e
and_right false b e = absurd (cc)

above_of : (last id : ℕ) (b c : Bool) → ((nat_lt last id && b) && c) ≡ true → last < id
above_of last id b c e = ltb-true last id (and_left (nat_lt last id) b (and_left (nat_lt last id && b) c e))

step_types : (last owed fin at : ℕ) (bytes : List ℕ) (o : Opened 1 last owed fin at bytes) → Step last owed fin at bytes
step_types last owed fin at bytes o =
    let s = entries_step FunctionType some_types 1 last owed owed fin at bytes reads_type o (some_same o.new _ _ o.pushed refl) in
    record {
      section = types s.items;
      front = s.front;
      back = s.back;
      next_last = 1;
      next_owed = owed;
      whole = s.whole;
      spelled = s.spelled;
      goes = s.goes;
      rises = λ ss r.
          (above_of last 1 true true o.follows, r);
      balances = λ ss b. b;
    }

step_imports : (last owed fin at : ℕ) (bytes : List ℕ) (o : Opened 2 last owed fin at bytes) → Step last owed fin at bytes
step_imports last owed fin at bytes o =
    let s = entries_step ImportOf some_imports 2 last owed owed fin at bytes reads_import o (some_same o.new _ _ o.pushed refl) in
    record {
      section = imports s.items;
      front = s.front;
      back = s.back;
      next_last = 2;
      next_owed = owed;
      whole = s.whole;
      spelled = s.spelled;
      goes = s.goes;
      rises = λ ss r.
          (above_of last 2 true true o.follows, r);
      balances = λ ss b. b;
    }

step_functions : (last owed fin at : ℕ) (bytes : List ℕ) (o : Opened 3 last owed fin at bytes) → Step last owed fin at bytes
step_functions last owed fin at bytes o =
    let s = entries_step Number some_functions 3 last owed o.value fin at bytes reads_function o (some_same o.new _ _ o.pushed refl) in
    record {
      section = functions s.items;
      front = s.front;
      back = s.back;
      next_last = 3;
      next_owed = o.value;
      whole = s.whole;
      spelled = s.spelled;
      goes = s.goes;
      rises = λ ss r.
          (above_of last 3 true true o.follows, r);
      balances = λ ss b. subst (λ z. Balanced z ss) (sym s.number) b;
    }

step_tables : (last owed fin at : ℕ) (bytes : List ℕ) (o : Opened 4 last owed fin at bytes) → Step last owed fin at bytes
step_tables last owed fin at bytes o =
    let s = entries_step TableType some_tables 4 last owed owed fin at bytes reads_table o (some_same o.new _ _ o.pushed refl) in
    record {
      section = tables s.items;
      front = s.front;
      back = s.back;
      next_last = 4;
      next_owed = owed;
      whole = s.whole;
      spelled = s.spelled;
      goes = s.goes;
      rises = λ ss r.
          (above_of last 4 true true o.follows, r);
      balances = λ ss b. b;
    }

step_memories : (last owed fin at : ℕ) (bytes : List ℕ) (o : Opened 5 last owed fin at bytes) → Step last owed fin at bytes
step_memories last owed fin at bytes o =
    let s = entries_step LimitsOf some_memories 5 last owed owed fin at bytes reads_memory o (some_same o.new _ _ o.pushed refl) in
    record {
      section = memories s.items;
      front = s.front;
      back = s.back;
      next_last = 5;
      next_owed = owed;
      whole = s.whole;
      spelled = s.spelled;
      goes = s.goes;
      rises = λ ss r.
          (above_of last 5 true true o.follows, r);
      balances = λ ss b. b;
    }

step_globals : (last owed fin at : ℕ) (bytes : List ℕ) (o : Opened 6 last owed fin at bytes) → Step last owed fin at bytes
step_globals last owed fin at bytes o =
    let s = entries_step GlobalOf some_globals 6 last owed owed fin at bytes reads_global o (some_same o.new _ _ o.pushed refl) in
    record {
      section = globals s.items;
      front = s.front;
      back = s.back;
      next_last = 6;
      next_owed = owed;
      whole = s.whole;
      spelled = s.spelled;
      goes = s.goes;
      rises = λ ss r.
          (above_of last 6 true true o.follows, r);
      balances = λ ss b. b;
    }

step_exports : (last owed fin at : ℕ) (bytes : List ℕ) (o : Opened 7 last owed fin at bytes) → Step last owed fin at bytes
step_exports last owed fin at bytes o =
    let s = entries_step ExportOf some_exports 7 last owed owed fin at bytes reads_export o (some_same o.new _ _ o.pushed refl) in
    record {
      section = exports s.items;
      front = s.front;
      back = s.back;
      next_last = 7;
      next_owed = owed;
      whole = s.whole;
      spelled = s.spelled;
      goes = s.goes;
      rises = λ ss r.
          (above_of last 7 true true o.follows, r);
      balances = λ ss b. b;
    }

step_elements : (last owed fin at : ℕ) (bytes : List ℕ) (o : Opened 9 last owed fin at bytes) → Step last owed fin at bytes
step_elements last owed fin at bytes o =
    let s = entries_step ElementOf some_elements 9 last owed owed fin at bytes reads_element o (some_same o.new _ _ o.pushed refl) in
    record {
      section = elements s.items;
      front = s.front;
      back = s.back;
      next_last = 9;
      next_owed = owed;
      whole = s.whole;
      spelled = s.spelled;
      goes = s.goes;
      rises = λ ss r.
          (above_of last 9 true true o.follows, r);
      balances = λ ss b. b;
    }

step_bodies : (last owed fin at : ℕ) (bytes : List ℕ) (o : Opened 10 last owed fin at bytes) → Step last owed fin at bytes
step_bodies last owed fin at bytes o =
    let w = where_some (nat_eq o.value owed) (some_of some_bodies o.value ++ until (at + 1 + length o.size_bytes + o.bytes_size) ∷ sections 10 0 ∷ []) o.new o.pushed in
    let s = entries_step BodyOf some_bodies 10 last owed 0 fin at bytes reads_body o w.1 in
    record {
      section = bodies s.items;
      front = s.front;
      back = s.back;
      next_last = 10;
      next_owed = 0;
      whole = s.whole;
      spelled = s.spelled;
      goes = s.goes;
      rises = λ ss r.
          (above_of last 10 true true o.follows, r);
      balances = λ ss b. (s.number ∙ eqb-true o.value owed w.0, b);
    }

owes_none : (owed : ℕ) → not (true && nat_lt 0 owed) ≡ true → owed ≡ 0
owes_none zero e = refl
owes_none (suc n) e = absurd (let h : nat_lt 0 (suc n) ≡ true = lt-ltb 0 (suc n) (omega arith) in let p : false ≡ true = sym (rw h refl) ∙ e in cc)

step_segments : (last owed fin at : ℕ) (bytes : List ℕ) (o : Opened 11 last owed fin at bytes) → Step last owed fin at bytes
step_segments last owed fin at bytes o =
    let s = entries_step SegmentOf some_segments 11 last owed owed fin at bytes reads_segment o (some_same o.new _ _ o.pushed refl) in
    let free : owed ≡ 0 = owes_none owed (and_right (nat_lt last 11 && true) (not (true && nat_lt 0 owed)) o.follows) in
    record {
      section = segments s.items;
      front = s.front;
      back = s.back;
      next_last = 11;
      next_owed = owed;
      whole = s.whole;
      spelled = s.spelled;
      goes = s.goes;
      rises = λ ss r.
          (above_of last 11 true _ o.follows, r);
      balances = λ ss b. (free, b);
    }

step_start : (last owed fin at : ℕ) (bytes : List ℕ) (o : Opened 8 last owed fin at bytes) → Step last owed fin at bytes
step_start last owed fin at bytes o =
    let end = at + 1 + length o.size_bytes + o.bytes_size in
    let place = at + 1 + length o.size_bytes + length o.head_bytes in
    let g : Goes (until end ∷ sections 8 owed ∷ []) fin place o.back = subst (λ z. Goes z fin place o.back) (some_same o.new _ _ o.pushed refl) o.goes in
    let u = behind_end end (sections 8 owed ∷ []) fin place o.back g in
    record {
      section = start o.value;
      front = 8 ∷ (o.size_bytes ++ o.head_bytes);
      back = o.back;
      next_last = 8;
      next_owed = owed;
      whole = o.whole ∙ ap (λ z. 8 ∷ z) (sym (append_assoc o.size_bytes o.head_bytes o.back));
      spelled = (8 ∷ [], o.size_bytes ++ o.head_bytes, refl, refl, (o.bytes_size, (o.size_bytes, o.head_bytes, refl, o.is_size, (omega (arith, u.0), o.is_head))));
      goes = subst (λ z. Goes (sections 8 owed ∷ []) fin z o.back) (omega (arith, length-append o.size_bytes o.head_bytes)) u.1;
      rises = λ ss r. (above_of last 8 true true o.follows, r);
      balances = λ ss b. b;
    }

step_custom : (last owed fin at : ℕ) (bytes : List ℕ) (o : Opened 0 last owed fin at bytes) → Step last owed fin at bytes
step_custom last owed fin at bytes o =
    let end = at + 1 + length o.size_bytes + o.bytes_size in
    let place = at + 1 + length o.size_bytes + length o.head_bytes in
    let g : Goes (name_of o.value ++ rest end ∷ sections last owed ∷ []) fin place o.back = subst (λ z. Goes z fin place o.back) (some_same o.new _ _ o.pushed refl) o.goes in
    let m = (reads_name_of o.value).sound (rest end ∷ sections last owed ∷ []) fin place o.back g in
    let t = text_from (at + 1 + length o.size_bytes) (o.head_bytes ++ m.0) (record { front = o.head_bytes; back = m.0; value = o.value; whole = refl; is_item = o.is_head; follows = m.3 }) in
    let u = (reads_rest end).sound (sections last owed ∷ []) fin (place + length m.0) m.1 m.4 in
    record {
      section = custom t.0 u.0;
      front = 0 ∷ (o.size_bytes ++ ((o.head_bytes ++ m.0) ++ u.0));
      back = u.1;
      next_last = last;
      next_owed = owed;
      whole = o.whole ∙ ap (λ z. 0 ∷ z) (ap (λ z. o.size_bytes ++ z) (ap (λ z. o.head_bytes ++ z) (m.2 ∙ ap (λ z. m.0 ++ z) u.2) ∙ sym (append_assoc o.head_bytes m.0 (u.0 ++ u.1))
          ∙ sym (append_assoc (o.head_bytes ++ m.0) u.0 u.1)) ∙ sym (append_assoc o.size_bytes ((o.head_bytes ++ m.0) ++ u.0) u.1));
      spelled = (
        0 ∷ [],
        o.size_bytes ++ ((o.head_bytes ++ m.0) ++ u.0),
        refl,
        refl,
        (
          o.bytes_size,
          (
            o.size_bytes,
            (o.head_bytes ++ m.0) ++ u.0,
            refl,
            o.is_size,
            (omega (arith, u.3, length-append (o.head_bytes ++ m.0) u.0, length-append o.head_bytes m.0), (o.head_bytes ++ m.0, u.0, refl, t.1, refl)),
          ),
        ),
      );
      goes = subst (λ z. Goes (sections last owed ∷ []) fin z u.1) (omega (
        arith,
        length-append o.size_bytes ((o.head_bytes ++ m.0) ++ u.0),
        length-append (o.head_bytes ++ m.0) u.0,
        length-append o.head_bytes m.0,
      )) u.4;
      rises = λ ss r. r;
      balances = λ ss b. b;
    }

past_all : (n : ℕ) (a b c : Bool) → (a && nat_le (12 + n) 11 && c) ≡ true → ⊥
past_all n a b c e = let f : nat_le (12 + n) 11 ≡ false = grind (arith) in let g : nat_le (12 + n) 11
    ≡ true = and_right a (nat_le (12 + n) 11) (and_left (a && nat_le (12 + n) 11) c e) in let p : false ≡ true = sym f ∙ g in cc

step_unknown : (n last owed fin at : ℕ) (bytes : List ℕ) → (o : Opened (12 + n) last owed fin at bytes) → nat_eq (12 + n) 0 ≡ false → Step last owed fin at bytes
step_unknown n last owed fin at bytes o e =
    absurd (past_all n (nat_lt last (12 + n)) true (not (nat_eq (12 + n) 11 && nat_lt 0 owed))
    (let p : ((nat_lt last (12 + n) && nat_le (12 + n) 11) && not (nat_eq (12 + n) 11 && nat_lt 0 owed)) ≡ true = rw e at o.follows in p))

-- which id
IdCase : ℕ → Type 0
IdCase id = (id < 12) ⊎ ((n : ℕ) × (id ≡ 12 + n))

id_case : (id : ℕ) → IdCase id
unfolding IdCase
id_case id = elim (by_test (nat_lt id 12)) [
  | inl e ↦ inl (ltb-true id 12 e)
  | inr e ↦ inr (id - 12, omega (arith, ltb-false id 12 e))
]

by_id : (id last owed fin at : ℕ) (bytes : List ℕ) → id < 12 → Opened id last owed fin at bytes → Step last owed fin at bytes
by_id zero last owed fin at bytes h o = step_custom last owed fin at bytes o
by_id (suc zero) last owed fin at bytes h o = step_types last owed fin at bytes o
by_id (suc (suc zero)) last owed fin at bytes h o = step_imports last owed fin at bytes o
by_id (suc (suc (suc zero))) last owed fin at bytes h o = step_functions last owed fin at bytes o
by_id (suc (suc (suc (suc zero)))) last owed fin at bytes h o = step_tables last owed fin at bytes o
by_id (suc (suc (suc (suc (suc zero))))) last owed fin at bytes h o = step_memories last owed fin at bytes o
by_id (suc (suc (suc (suc (suc (suc zero)))))) last owed fin at bytes h o = step_globals last owed fin at bytes o
by_id (suc (suc (suc (suc (suc (suc (suc zero))))))) last owed fin at bytes h o = step_exports last owed fin at bytes o
by_id (suc (suc (suc (suc (suc (suc (suc (suc zero)))))))) last owed fin at bytes h o = step_start last owed fin at bytes o
by_id (suc (suc (suc (suc (suc (suc (suc (suc (suc zero))))))))) last owed fin at bytes h o = step_elements last owed fin at bytes o
by_id (suc (suc (suc (suc (suc (suc (suc (suc (suc (suc zero)))))))))) last owed fin at bytes h o = step_bodies last owed fin at bytes o
by_id (suc (suc (suc (suc (suc (suc (suc (suc (suc (suc (suc zero))))))))))) last owed fin at bytes h o = step_segments last owed fin at bytes o
by_id (suc (suc (suc (suc (suc (suc (suc (suc (suc (suc (suc (suc n)))))))))))) last owed fin at bytes h o = absurd (omega (arith, h))

step : (id last owed fin at : ℕ) (bytes : List ℕ) → Opened id last owed fin at bytes → Step last owed fin at bytes
unfolding IdCase
step id last owed fin at bytes o = elim (id_case id) [
  | inl h ↦ by_id id last owed fin at bytes h o
  | inr h ↦ step_unknown h.0 last owed fin at bytes (subst (λ z. Opened z last owed fin at bytes) h.1 o) (grind (arith))
]

-- sections in order, spelled by the bytes
pub record Filed (last owed at : ℕ) (bytes : List ℕ) : Type 0 where
  pub all : List Section
  pub spelled : Items SectionOf all at bytes
  pub rising : Rising last all
  pub balanced : Balanced owed all

section_some : (s : Section) (at : ℕ) (a : List ℕ) → SectionOf s at a → 0 < length a
section_some s at a h = omega (arith, ap length h.2, length-append h.0 h.1, ap length h.3)

none_filed : (last owed at : ℕ) (bytes : List ℕ) → bytes ≡ [] → owed ≡ 0 → Filed last owed at bytes
none_filed last owed at bytes e z = record { all = []; spelled = e; rising = tt; balanced = z }

one_filed : (last owed fin at : ℕ) (bytes : List ℕ) (s : Step last owed fin at bytes) → Filed s.next_last s.next_owed (at + length s.front) s.back → Filed last owed at bytes
one_filed last owed fin at bytes s f = record {
  all = s.section ∷ f.all;
  spelled = (s.front, s.back, s.whole, s.spelled, f.spelled);
  rising = s.rises f.all f.rising;
  balanced =
      s.balances f.all f.balanced;
}

step_less : (last owed fin at : ℕ) (bytes : List ℕ) (s : Step last owed fin at bytes) → length s.back < length bytes
step_less last owed fin at bytes s = omega (arith, section_some s.section at s.front s.spelled, ap length s.whole, length-append s.front s.back)

-- What leads to the end of a file is sections in order.
pub sections_sound : (n last owed fin at : ℕ) (bytes : List ℕ) → length bytes ≤ n → Goes (sections last owed ∷ []) fin at bytes → Filed last owed at bytes
sections_sound zero last owed fin at bytes short g = elim (turn last owed fin at bytes g) [
  | finished e z ↦ none_filed last owed at bytes e z
  | opened id o ↦ absurd (omega (arith, short, step_less last owed fin at bytes (step id last owed fin at bytes o)))
]
sections_sound (suc n) last owed fin at bytes short g = elim (turn last owed fin at bytes g) [
  | finished e z ↦ none_filed last owed at bytes e z
  | opened id o ↦
      let s = step id last owed fin at bytes o in
      one_filed last owed fin at bytes s (sections_sound n s.next_last s.next_owed fin (at + length s.front) s.back (omega (arith, short, step_less last owed fin at bytes s)) s.goes)
]
