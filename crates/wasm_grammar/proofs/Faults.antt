-- Where the bytes of a file stop being begun.
use Rattle.std.proofs.Common.{◌≡◌, ℕ, suc, zero, ◌+◌, ◌-◌, ◌<◌, ◌≤◌, inl, inr, List, [], ◌∷◌, ◌++◌, Option, Some, None, refl, ap, sym, ◌∙◌, subst, arith, add-zero, append-nil, length, take, drop, length-take-le, length-drop, Bool, true, false, MatchBool, max}
use Rattle.std.proofs.Math.Seq.{take-add, take-append_seam}
use Rattle.std.proofs.lemmas.List.{take_all, drop-drop}
use Rattle.std.proofs.lemmas.Bool.{cases_lt, ne_eqb}
use Rattle.std.specs.Option.{unwrap_or}
use Rattle.wa_types.specs.Begun.{Goal, rest, entries, signed, EntryKind, some_types, some_imports, some_functions, some_tables, some_memories, some_globals, some_exports, some_elements, some_bodies, some_segments, some_value_types, some_runs, some_indices, some_bytes, first_of, wants, IsItem, IsPart, next, Steps, Leads, BegunFrom, part, then, Inside, settled, start, Begun}
use Rattle.file_laws.proofs.Items.{item_front, part_front, item_some, item_whole, one_item}
use Rattle.file_laws.proofs.Runs.{leads_on, leads_only, leads_more, inside_less, begun_front}
use Rattle.wasm_grammar.proofs.ItemFronts.{byte_whole}
use Rattle.wasm_grammar.specs.Items.{IsTold, IsWholeItem, IsWrong}
use Rattle.wasm_grammar.specs.Ends.{NoStep, IsReached}
use Rattle.wa_types.specs.ModuleBounds.{ModuleBounds}
use Rattle.file_laws.specs.declared.marks.Marks.{Marks}
use Rattle.file_laws.specs.Showing.{shown, Noted, MarksAlong}
use Rattle.file_laws.proofs.Noting.{noted_none}
use Rattle.file_laws.proofs.Showings.{marks_more}
use Rattle.wasm_grammar.specs.Machine.{Stands, StopsAt}

-- the bytes between two places
abbrev pub between : List ℕ → ℕ → ℕ → List ℕ
between bytes at k = take (k - at) (drop at bytes)

cut_at : (bytes : List ℕ) (at k : ℕ) → at ≤ k → take k bytes ≡ take at bytes ++ between bytes at k
cut_at bytes at k h = ap (λ n. take n bytes) (omega arith) ∙ take-add at (k - at) bytes

cut_between : (bytes : List ℕ) (at j k : ℕ) → at ≤ j → j ≤ k → between bytes at k ≡ between bytes at j ++ between bytes j k
cut_between bytes at j k h i =
    ap (λ n. take n (drop at bytes)) (omega arith) ∙ take-add (j - at) (k - j) (drop at bytes)
    ∙ ap (λ s. between bytes at j ++ take (k - j) s) (drop-drop (j - at) at bytes ∙ ap (λ n. drop n bytes) (omega arith))

pub length_between : (bytes : List ℕ) (at k : ℕ) → at ≤ k → k ≤ length bytes → length (between bytes at k) ≡ k - at
length_between bytes at k h fits = length-take-le (k - at) (drop at bytes) (omega (arith, length-drop at bytes))

-- the front of what stands between two places
pub front_between : (bytes : List ℕ) (at stop used : ℕ) → at + used ≤ stop → stop ≤ length bytes → take used (between bytes at stop) ≡ between bytes at (at + used)
front_between bytes at stop used h fits =
    let long : length (between bytes at (at + used)) ≡ used = length_between bytes at (at + used) (omega arith) (omega arith) ∙ omega arith in
    ap (take used) (cut_between bytes at (at + used) stop (omega arith) h)
    ∙ ap (λ n. take n (between bytes at (at + used) ++ between bytes (at + used) stop)) (sym long)
    ∙ take-append_seam (between bytes at (at + used)) (between bytes (at + used) stop)

to_the_end : (bytes : List ℕ) (at : ℕ) → at ≤ length bytes → between bytes at (length bytes) ≡ drop at bytes
to_the_end bytes at h = take_all (length bytes - at) (drop at bytes) (omega (arith, length-drop at bytes))

place_at : (bytes : List ℕ) (at : ℕ) → at ≤ length bytes → 0 + length (take at bytes) ≡ at
place_at bytes at h = omega (arith, length-take-le at bytes h)

-- what is begun to there, by what leads to a place
not_begun : (bytes : List ℕ) (at k : ℕ) (hs : List Goal) → at ≤ k → k ≤ length bytes → Leads 0 start (take at bytes) hs → (BegunFrom at hs (between bytes at k) → ⊥) → Begun (take k bytes) → ⊥
not_begun bytes at k hs h fits l never b =
    never (subst (λ n. BegunFrom n hs (between bytes at k)) (place_at bytes at (omega arith)) (leads_only 0 start (take at bytes) hs l (between bytes at k) (take k bytes) b (cut_at bytes at k h)))

-- a first fault, from what stands before it
fault : (bytes : List ℕ) (at k : ℕ) (g : Goal) (gs : List Goal) → at < k → k ≤ length bytes → Leads 0 start (take at bytes) (g ∷ gs) → IsPart (wants g) (between bytes at (k - 1))
    → Inside (k - 1) (g ∷ gs) → (BegunFrom at (g ∷ gs) (between bytes at k) → ⊥) → StopsAt bytes k
fault bytes at k g gs h fits l short inside never =
    let place : k - 1 ≡ 0 + length (take at bytes) + length (between bytes at (k - 1)) =
    omega (arith, place_at bytes at (omega arith), length_between bytes at (k - 1) (omega arith) (omega arith)) in
    let near : Begun (take at bytes ++ between bytes at (k - 1)) =
    leads_on 0 start (take at bytes) (g ∷ gs) l (between bytes at (k - 1)) (part short (subst (λ n. Inside n (g ∷ gs)) place inside)) in
    record {
      within = fits;
      before = λ j lt. begun_front 0 start (take at bytes ++ between bytes at (k - 1)) near (take j bytes) (between bytes j (k - 1))
          (sym (cut_at bytes at (k - 1) (omega arith)) ∙ cut_at bytes j (k - 1) (omega arith));
      stops = not_begun bytes at k (g ∷ gs) (omega arith) fits l never;
    }

-- a part that an end cuts off begins nothing
part_ends : (at : ℕ) (g : Goal) (gs : List Goal) (a : List ℕ) → IsPart (wants g) a → (Inside (at + length a) (g ∷ gs) → ⊥) → BegunFrom at (g ∷ gs) a → ⊥
part_ends at g gs a s never (part t i) = never i
part_ends at g gs a s never (then p q v ks e i t b) = item_whole (wants g) p q v i (subst (IsPart (wants g)) e s)

-- an item that leads nowhere begins nothing
step_ends : (at : ℕ) (g : Goal) (gs : List Goal) (a : List ℕ) (v : ℕ) → IsItem (wants g) a v → NoStep g gs v (at + length a) → BegunFrom at (g ∷ gs) a → ⊥
step_ends at g gs a v h never (part t i) = item_whole (wants g) a [] v h (subst (IsPart (wants g)) (sym (append-nil a)) t)
step_ends at g gs a v h never (then p q w ks e i t b) =
    let one = one_item (wants g) a [] p q v w h i (append-nil a ∙ e) in
    never ks (subst (λ u. Steps g gs u (at + length a) ks) (sym one.0) (subst (λ n. Steps g gs w (at + n) ks) (sym one.1) t))

-- what is wrong begins nothing
wrong_ends : (at : ℕ) (g : Goal) (gs : List Goal) (a : List ℕ) → (IsPart (wants g) a → ⊥) → ((p q : List ℕ) (v : ℕ) → a ≡ p ++ q → IsItem (wants g) p v → ⊥) → BegunFrom at (g ∷ gs) a → ⊥
wrong_ends at g gs a no_part no_item (part t i) = no_part t
wrong_ends at g gs a no_part no_item (then p q v ks e i t b) = no_item p q v e i

-- the value that is told leads where the value does
told_entry : (k : EntryKind) (v told : ℕ) → IsTold (first_of k) v told → v ≡ told
told_entry some_types v told h = h
told_entry some_imports v told h = h
told_entry some_functions v told h = h
told_entry some_tables v told h = h
told_entry some_memories v told h = h
told_entry some_globals v told h = h
told_entry some_exports v told h = h
told_entry some_elements v told h = h
told_entry some_bodies v told h = h
told_entry some_segments v told h = h
told_entry some_value_types v told h = h
told_entry some_runs v told h = h
told_entry some_indices v told h = h
told_entry some_bytes v told h = h

told_next : (g : Goal) (v told at : ℕ) → IsTold (wants g) v told → next g v at ≡ next g told at
unfolding next
told_next (signed bits) v told at h = refl
told_next (entries k n) v told at h = ap (λ z. next (entries k n) z at) (told_entry k v told h)
told_next g v told at h = ap (λ z. next g z at) h

-- and shows what it does
told_shown : (bounds : ModuleBounds) (g : Goal) (gs : List Goal) (v told at : ℕ) → IsTold (wants g) v told → shown bounds g gs told at ≡ shown bounds g gs v at
told_shown bounds (signed bits) gs v told at h = refl
told_shown bounds (entries k n) gs v told at h = ap (λ z. shown bounds (entries k n) gs z at) (sym (told_entry k v told h))
told_shown bounds g gs v told at h = ap (λ z. shown bounds g gs z at) (sym h)

told_steps : (g : Goal) (gs : List Goal) (v told at : ℕ) (hs : List Goal) → next g v at ≡ next g told at → Steps g gs told at hs → Steps g gs v at hs
told_steps g gs v told at hs e s = record { new = s.new; pushed = e ∙ s.pushed; settles = s.settles; inside = s.inside }

-- What is known where an item is to be read.
pub record Ready (bounds : ModuleBounds) (m : Marks) (bytes : List ℕ) (at stop : ℕ) (g : Goal) (gs : List Goal) : Type 0 where
  pub room : at ≤ stop
  pub fits : stop ≤ length bytes
  pub leads : Leads 0 start (take at bytes) (g ∷ gs)
  pub marked : MarksAlong bounds 0 start (take at bytes) (g ∷ gs) m
  pub below : (j : ℕ) → j < stop → Inside j (g ∷ gs)

-- an end that is reached stands before no place that stands
pub end_room : {bounds : ModuleBounds} {m : Marks} (bytes : List ℕ) (at last end : ℕ) (gs : List Goal) (o : Option ℕ) → Stands bounds m bytes at gs → o ≡ Some end → IsReached gs last o → at < end
end_room bytes at last end gs None s e reached = absurd (cc)
end_room bytes at last end gs (Some x) s e reached =
    let f : x ≡ end = cc in
    elim (cases_lt at x) [
      | inl lt ↦ omega (arith, f, lt)
      | inr ge ↦ absurd (reached.2 (inside_less gs x at ge s.inside))
    ]

pub ready : {bounds : ModuleBounds} {m : Marks} (bytes : List ℕ) (at stop : ℕ) (all gs : List Goal) (g : Goal) (end : Option ℕ) → Stands bounds m bytes at all → all ≡ g ∷ gs
    → IsReached all (length bytes) end → stop ≡ unwrap_or end (length bytes) → Ready bounds m bytes at stop g gs
ready {bounds = bounds} {m = m} bytes at stop all gs g None s e reached f = record {
  room = omega (arith, f, s.within);
  fits = omega (arith, f);
  leads = subst (Leads 0 start (take at bytes)) e s.leads;
  marked = subst (λ z. MarksAlong bounds 0 start (take at bytes) z m) e s.marked;
  below = λ j h. subst (Inside j) e (reached j (omega (arith, f, h)));
}
ready {bounds = bounds} {m = m} bytes at stop all gs g (Some end) s e reached f = record {
  room = omega (arith, f, end_room bytes at (length bytes) end all (Some end) s refl reached);
  fits = omega (arith, f, reached.0);
  leads = subst (Leads 0 start (take at bytes)) e s.leads;
  marked = subst (λ z. MarksAlong bounds 0 start (take at bytes) z m) e s.marked;
  below = λ j h. subst (Inside j) e (reached.1 j (omega (arith, f, h)));
}

-- the end that is reached ends the goals
pub ended_there : (gs hs : List Goal) (last end : ℕ) (o : Option ℕ) → gs ≡ hs → o ≡ Some end → IsReached gs last o → Inside end hs → ⊥
ended_there gs hs last end None e f reached i = absurd (cc)
ended_there gs hs last end (Some x) e f reached i =
    let g : x ≡ end = cc in
    reached.2 (subst (λ n. Inside n gs) (sym g) (subst (Inside end) (sym e) i))

pub stop_there : (o : Option ℕ) (stop last end : ℕ) → o ≡ Some end → stop ≡ unwrap_or o last → stop ≡ end
stop_there o stop last end e f = f ∙ ap (λ z. unwrap_or z last) e

-- the same of the number that is all bytes' length
pub reached_at : (gs : List Goal) (o : Option ℕ) {n last : ℕ} → n ≡ last → IsReached gs n o → IsReached gs last o
reached_at gs o e reached = subst (λ z. IsReached gs z o) e reached

pub stop_at : (o : Option ℕ) {stop n last : ℕ} → n ≡ last → stop ≡ unwrap_or o n → stop ≡ unwrap_or o last
stop_at o e f = f ∙ ap (unwrap_or o) e

-- no content ends before the place where one ends first, or before the end of all bytes
pub below_stop : (gs : List Goal) (o : Option ℕ) (n last stop : ℕ) → n ≡ last → IsReached gs n o → stop ≡ unwrap_or o n → (j : ℕ) → j < stop → Inside j gs
below_stop gs None n last stop e reached f = λ j lt. reached j (omega (arith, f, lt))
below_stop gs (Some x) n last stop e reached f = λ j lt. reached.1 j (omega (arith, f, lt))

pub stop_within : (gs : List Goal) (o : Option ℕ) (n last stop : ℕ) → n ≡ last → IsReached gs n o → stop ≡ unwrap_or o n → stop ≤ last
stop_within gs None n last stop e reached f = omega (arith, e, f)
stop_within gs (Some x) n last stop e reached f = let h = reached.0 in omega (arith, e, f, h)

pub no_end : (gs : List Goal) (last : ℕ) (o : Option ℕ) → o ≡ None → IsReached gs last o → Inside last gs
no_end gs last None e reached = reached last (omega arith)
no_end gs last (Some x) e reached = absurd (cc)

pub stop_last : (o : Option ℕ) (stop last : ℕ) → o ≡ None → stop ≡ unwrap_or o last → stop ≡ last
stop_last o stop last e f = f ∙ ap (λ z. unwrap_or z last) e

module _ {bounds : ModuleBounds} {m : Marks} (bytes : List ℕ) (at stop : ℕ) (g : Goal) (gs : List Goal) (y : Ready bounds m bytes at stop g gs) where
  -- so many bytes stand before the stop
  used_fits : (used : ℕ) → used ≤ length (between bytes at stop) → at + used ≤ stop
  used_fits used h = omega (arith, h, length_between bytes at stop (omega (arith, y.room)) y.fits, y.room)

  front_is : (used : ℕ) → used ≤ length (between bytes at stop) → take used (between bytes at stop) ≡ between bytes at (at + used)
  front_is used h = front_between bytes at stop used (used_fits used h) y.fits

  -- the item is cut off by an end
  pub fault_end : at < stop → IsPart (wants g) (between bytes at stop) → (Inside stop (g ∷ gs) → ⊥) → StopsAt bytes stop
  fault_end room short ended =
      let long = length_between bytes at stop (omega (arith, room)) y.fits in
      fault bytes at stop g gs room y.fits y.leads
      (part_front (wants g) (between bytes at (stop - 1)) (between bytes (stop - 1) stop) (subst (IsPart (wants g)) (cut_between bytes at (stop - 1) stop (omega (arith, room)) (omega arith)) short))
      (y.below (stop - 1) (omega (arith, room)))
      (part_ends at g gs (between bytes at stop) short (λ i. ended (subst (λ n. Inside n (g ∷ gs)) (omega (arith, long, room)) i)))

  -- the item is wrong
  pub fault_wrong : (used : ℕ) → IsWrong (wants g) (between bytes at stop) used → StopsAt bytes (at + used)
  fault_wrong used w =
      let fits = used_fits used w.within in
      let some = w.some in
      let same = front_is used w.within in
      let less : take (used - 1) (between bytes at stop) ≡ between bytes at (at + used - 1) = front_is (used - 1) (omega (arith, w.within)) ∙ ap (between bytes at) (omega (arith, some)) in
      fault bytes at (at + used) g gs (omega (arith, some)) (omega (arith, fits, y.fits)) y.leads
      (subst (IsPart (wants g)) less w.before)
      (y.below (at + used - 1) (omega (arith, fits, some)))
      (wrong_ends at g gs (between bytes at (at + used)) (λ p. w.never.no_part (subst (IsPart (wants g)) (sym same) p)) (λ p q v e i. w.never.no_item p q v (same ∙ e) i))

  whole_is : (told used : ℕ) → (w : IsWholeItem (wants g) (between bytes at stop) told used) → IsItem (wants g) (between bytes at (at + used)) w.value
  whole_is told used w = subst (λ z. IsItem (wants g) z w.value) (front_is used w.within) w.is_item

  long_is : (told used : ℕ) → IsWholeItem (wants g) (between bytes at stop) told used → length (between bytes at (at + used)) ≡ used
  long_is told used w = length_between bytes at (at + used) (omega arith) (omega (arith, used_fits used w.within, y.fits)) ∙ omega arith

  some_is : (told used : ℕ) → IsWholeItem (wants g) (between bytes at stop) told used → 0 < used
  some_is told used w = omega (arith, item_some (wants g) (between bytes at (at + used)) w.value (whole_is told used w), long_is told used w)

  -- the item leads nowhere
  pub fault_step : (told used : ℕ) → IsWholeItem (wants g) (between bytes at stop) told used → NoStep g gs told (at + used) → StopsAt bytes (at + used)
  fault_step told used w never =
      let fits = used_fits used w.within in
      let some = some_is told used w in
      let it = whole_is told used w in
      let long = long_is told used w in
      let cut = cut_between bytes at (at + used - 1) (at + used) (omega (arith, some)) (omega arith) in
      let last = length_between bytes (at + used - 1) (at + used) (omega arith) (omega (arith, fits, y.fits)) in
      fault bytes at (at + used) g gs (omega (arith, some)) (omega (arith, fits, y.fits)) y.leads
      (item_front (wants g) (between bytes at (at + used - 1)) (between bytes (at + used - 1) (at + used)) w.value (subst (λ z. IsItem (wants g) z w.value) cut it) (omega (arith, last, some)))
      (y.below (at + used - 1) (omega (arith, fits, some)))
      (step_ends at g gs (between bytes at (at + used)) w.value it
      (λ hs s. never hs (told_steps g gs told w.value (at + used) hs (sym (told_next g w.value told (at + used) w.is_told)) (subst (λ n. Steps g gs w.value n hs) (ap (λ n. at + n) long) s))))

  -- the item leads on
  pub goes_on : (n : Marks) (told used : ℕ) (hs : List Goal) → IsWholeItem (wants g) (between bytes at stop) told used → Noted bounds (shown bounds g gs told at) m n
      → Steps g gs told (at + used) hs → Stands bounds n bytes (at + used) hs
  goes_on n told used hs w noted s =
      let fits = used_fits used w.within in
      let t = told_steps g gs w.value told (at + used) hs (told_next g w.value told (at + used) w.is_told) s in
      let place : at + used ≡ 0 + length (take at bytes) + length (between bytes at (at + used)) = omega (arith, place_at bytes at (omega (arith, y.room, y.fits)), long_is told used w) in
      record {
        within = omega (arith, fits, y.fits);
        leads = subst (λ z. Leads 0 start z hs) (sym (cut_at bytes at (at + used) (omega arith)))
            (leads_more 0 start (take at bytes) g gs hs y.leads (between bytes at (at + used)) w.value (whole_is told used w) (subst (λ n. Steps g gs w.value n hs) place t));
        inside = s.inside;
        marked = subst (λ z. MarksAlong bounds 0 start z hs n) (sym (cut_at bytes at (at + used) (omega arith)))
            (marks_more bounds 0 start (take at bytes) g gs hs m n y.marked (between bytes at (at + used)) w.value (whole_is told used w) (subst (λ n. Steps g gs w.value n hs) place t)
            (subst (λ z. Noted bounds z m n) (told_shown bounds g gs w.value told at w.is_told ∙ ap (shown bounds g gs w.value) (sym (place_at bytes at (omega (arith, y.room, y.fits))))) noted));
      }

  -- there are no more bytes
  pub waits_there : stop ≡ length bytes → at ≤ length bytes → IsPart (wants g) (between bytes at stop) → IsPart (wants g) (drop at bytes)
  waits_there e h short = subst (IsPart (wants g)) (ap (between bytes at) e ∙ to_the_end bytes at h) short

  pub goes_far : (told used : ℕ) → IsWholeItem (wants g) (between bytes at stop) told used → at < at + used
  goes_far told used w = omega (arith, some_is told used w)

pub on_false : (P Q : Type 0) (b : Bool) → b ≡ false → MatchBool b P Q → Q
on_false P Q true e h = absurd (cc)
on_false P Q false e h = h

pub on_true : (P Q : Type 0) (b : Bool) → b ≡ true → MatchBool b P Q → P
on_true P Q true e h = h
on_true P Q false e h = absurd (cc)

a_first : (bytes : List ℕ) → 0 < length bytes → (b : ℕ) × (bs : List ℕ) × (bytes ≡ b ∷ bs)
a_first [] h = absurd (omega (arith, h))
a_first (b ∷ bs) h = (b, bs, refl)

-- any byte goes on with any bytes
skip_one : {bounds : ModuleBounds} {m : Marks} (bytes : List ℕ) (at end : ℕ) (gs : List Goal) → Stands bounds m bytes at (rest end ∷ gs) → at + 1 ≤ length bytes
    → Inside (at + 1) (rest end ∷ gs) → Stands bounds m bytes (at + 1) (rest end ∷ gs)
unfolding next settled Inside
skip_one {bounds = bounds} {m = m} bytes at end gs s fits inside =
    let y : Ready bounds m bytes at (at + 1) (rest end) gs = record {
      room = omega arith;
      fits = fits;
      leads = s.leads;
      marked = s.marked;
      below = λ j h.
          inside_less (rest end ∷ gs) j (at + 1) (omega (arith, h)) inside;
    } in
    let long = length_between bytes at (at + 1) (omega arith) fits in
    let f = a_first (between bytes at (at + 1)) (omega (arith, long)) in
    let before : at + 1 < end = inside.0 in
    let steps : Steps (rest end) gs f.0 (at + 1) (rest end ∷ gs) = record {
      new = rest end ∷ [];
      pushed = refl;
      settles = rw (ne_eqb (at + 1) end (λ e. omega (arith, before, e))) refl;
      inside = inside;
    } in
    goes_on bytes at (at + 1) (rest end) gs y m f.0 1 (rest end ∷ gs) (byte_whole f.0 f.1 (between bytes at (at + 1)) f.2) (noted_none bounds m) steps

skips : {bounds : ModuleBounds} {m : Marks} (bytes : List ℕ) (at n end : ℕ) (gs : List Goal) → Stands bounds m bytes at (rest end ∷ gs) → at + n ≤ length bytes
    → Inside (at + n) (rest end ∷ gs) → Stands bounds m bytes (at + n) (rest end ∷ gs)
skips {bounds = bounds} {m = m} bytes at zero end gs s fits inside = subst (λ k. Stands bounds m bytes k (rest end ∷ gs)) (sym (add-zero at)) s
skips {bounds = bounds} {m = m} bytes at (suc n) end gs s fits inside =
    let place : at + n + 1 ≡ at + suc n = omega arith in
    let near = skips bytes at n end gs s (omega (arith, fits)) (inside_less (rest end ∷ gs) (at + n) (at + suc n) (omega arith) inside) in
    subst (λ k. Stands bounds m bytes k (rest end ∷ gs)) place (skip_one bytes (at + n) end gs near (omega (arith, fits)) (subst (λ k. Inside k (rest end ∷ gs)) (sym place) inside))

-- all but the last byte before a stop
pub skips_to : {bounds : ModuleBounds} {m : Marks} (bytes : List ℕ) (at stop place end : ℕ) (g : Goal) (gs : List Goal) → g ≡ rest end → place ≡ max at (stop - 1)
    → Stands bounds m bytes at (g ∷ gs) → stop ≤ length bytes → ((j : ℕ) → j < stop → Inside j (g ∷ gs)) → Stands bounds m bytes place (g ∷ gs)
skips_to {bounds = bounds} {m = m} bytes at stop place end g gs e f s fits below = elim (cases_lt at (stop - 1)) [
  | inl lt ↦
      let n : at + (place - at) ≡ place = omega (arith, f, lt) in
      let t : Stands bounds m bytes at (rest end ∷ gs) = subst (λ h. Stands bounds m bytes at (h ∷ gs)) e s in
      let i : Inside place (rest end ∷ gs) = subst (λ h. Inside place (h ∷ gs)) e (below place (omega (arith, f, lt))) in
      let u : Stands bounds m bytes (at + (place - at)) (rest end ∷ gs) = skips bytes at (place - at) end gs t (omega (arith, n, f, lt, fits)) (subst (λ k. Inside k (rest end ∷ gs)) (sym n) i) in
      subst (λ k. Stands bounds m bytes k (g ∷ gs)) n (subst (λ h. Stands bounds m bytes (at + (place - at)) (h ∷ gs)) (sym e) u)
  | inr ge ↦ subst (λ k. Stands bounds m bytes k (g ∷ gs)) (let k : at ≡ place = omega (arith, f, ge) in k) s
]

-- what stands where reading goes on
pub on_from : {bounds : ModuleBounds} {m : Marks} (bytes : List ℕ) (at from stop : ℕ) (all gs : List Goal) (g : Goal) (end : Option ℕ) → Stands bounds m bytes at all → all ≡ g ∷ gs
    → IsReached all (length bytes) end → stop ≡ unwrap_or end (length bytes) → (Stands bounds m bytes at (g ∷ gs) → stop ≤ length bytes → ((j : ℕ) → j < stop → Inside j (g ∷ gs))
    → Stands bounds m bytes from (g ∷ gs)) → Stands bounds m bytes from all
on_from {bounds = bounds} {m = m} bytes at from stop all gs g end s e reached f on =
    let y = ready bytes at stop all gs g end s e reached f in
    subst (Stands bounds m bytes from) (sym e) (on (subst (Stands bounds m bytes at) e s) y.fits y.below)
