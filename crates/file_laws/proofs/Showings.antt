-- Items that show something: one more, that bytes show one thing, and that offsets rise.
use Rattle.std.proofs.Common.{◌≡◌, ℕ, ◌+◌, ◌*◌, ◌^◌, ◌<◌, ◌≤◌, List, [], ◌∷◌, ◌++◌, Bool, true, false, cond, ◌&&◌, nat_le, nat_eq, refl, ap, sym, ◌∙◌, subst, arith, add-zero, append_assoc, append-nil, length, length-append}
use Rattle.wa_types.specs.Opcodes.{is_float_type, is_float_op}
use Rattle.wa_types.specs.Begun.{Goal, head, entries, count, value_type, block_type, import_kind, code, EntryKind, some_globals, some_bodies, some_value_types, IsItem, wants, Steps}
use Rattle.wa_types.specs.Marks.{place_if}
use Rattle.wa_types.specs.ModuleBounds.{ModuleBounds}
use Rattle.file_laws.proofs.Items.{item_some, one_item, same_cut, place_of}
use Rattle.file_laws.proofs.Runs.{one_step}
use Rattle.file_laws.proofs.SpelledFits.{unsigned_fits}
use Rattle.file_laws.specs.declared.marks.Marks.{Marks}
use Rattle.file_laws.specs.Showing.{Seen, nothing_seen, functions_seen, both, total, shown, entry_shown, count_shown, await_results, levels, opens_level, Shows, shows_none, shows_item, Noted, no_marks, MarksAlong}
use Rattle.file_laws.proofs.Noting.{noted_none, noted_both, both_none, both_assoc, total_both}

-- one more item
pub shows_more : (b : ModuleBounds) (at : ℕ) (gs : List Goal) (a : List ℕ) (g : Goal) (hs ks : List Goal) (s : Seen) → Shows b at gs a (g ∷ hs) s
    → (c : List ℕ) (v : ℕ) → IsItem (wants g) c v → Steps g hs v (at + length a + length c) ks → Shows b at gs (a ++ c) ks (both s (shown b g hs v (at + length a)))
shows_more b at gs [] g hs ks s (shows_none e) c v i t =
    shows_item c [] v ks nothing_seen (sym (append-nil c)) i (subst (λ n. Steps g hs v (n + length c) ks) (add-zero at) t) (shows_none refl)
    (ap (λ z. both z (shown b g hs v (at + 0))) e ∙ ap (λ n. shown b g hs v n) (add-zero at) ∙ sym (both_none (shown b g hs v at)))
shows_more b at (f ∷ gs) a g hs ks s (shows_item p q w js u e i t l o) c v j r =
    shows_item p (q ++ c) w js (both u (shown b g hs v (at + length p + length q))) (ap (λ z. z ++ c) e ∙ append_assoc p q c) i t
    (shows_more b (at + length p) js q g hs ks u l c v j (subst (λ n. Steps g hs v (n + length c) ks) (place_of at a p q e) r))
    (ap (λ z. both z (shown b g hs v (at + length a))) o ∙ both_assoc (shown b f gs w at) u (shown b g hs v (at + length a))
    ∙ ap (λ n. both (shown b f gs w at) (both u (shown b g hs v n))) (place_of at a p q e))

-- bytes that lead to one end show one thing
pub one_showing : (b : ModuleBounds) (at : ℕ) (gs : List Goal) (bytes : List ℕ) (hs ks : List Goal) (s t : Seen) → Shows b at gs bytes hs s → Shows b at gs bytes ks t → s ≡ t
one_showing b at gs [] hs ks s t (shows_none e) (shows_none f) = e ∙ sym f
one_showing b at (g ∷ gs) [] hs ks s t (shows_none e) (shows_item p q v js u c i z l o) = absurd (omega (arith, item_some (wants g) p v i, ap length c, length-append p q))
one_showing b at (g ∷ gs) [] hs ks s t (shows_item p q v js u c i z l o) (shows_none e) = absurd (omega (arith, item_some (wants g) p v i, ap length c, length-append p q))
one_showing b at (g ∷ gs) bytes hs ks s t (shows_item p q v js u c i z l o) (shows_item x y w is r d j m k f) =
    let cut : p ++ q ≡ x ++ y = sym c ∙ d in
    let one = one_item (wants g) p q x y v w i j cut in
    let two = same_cut p q x y cut one.1 in
    let near : Steps g gs v (at + length p) is =
    subst (λ u. Steps g gs u (at + length p) is) (sym one.0) (subst (λ n. Steps g gs w (at + n) is) (sym one.1) m) in
    let same : is ≡ js = one_step g gs v (at + length p) is js near z in
    let there : Shows b (at + length p) js q ks r =
    subst (λ h. Shows b (at + length p) h q ks r) same (subst (λ h. Shows b (at + length p) is h ks r) (sym two.1) (subst (λ n. Shows b (at + n) is y ks r) (sym one.1) k)) in
    o ∙ ap (λ n. both (shown b g gs n at) u) one.0 ∙ ap (both (shown b g gs w at)) (one_showing b (at + length p) js q hs ks u r l there) ∙ sym f

-- what bytes show that lead on is what their front shows, and more
pub shows_front : (b : ModuleBounds) (at : ℕ) (gs : List Goal) (a : List ℕ) (hs : List Goal) (s : Seen) → Shows b at gs a hs s
    → (c more : List ℕ) (rs : List Goal) (t : Seen) → Shows b at gs c rs t → c ≡ a ++ more → (u : Seen) × (t ≡ both s u)
shows_front b at gs [] hs s (shows_none e) c more rs t h f = (t, ap (λ z. both z t) (sym e))
shows_front b at (g ∷ gs) a hs s (shows_item p q v js u e i z l o) [] more rs t (shows_none k) f =
    absurd (omega (arith, item_some (wants g) p v i, ap length f, ap length e, length-append p q, length-append a more))
shows_front b at (g ∷ gs) a hs s (shows_item p q v js u e i z l o) c more rs t (shows_item x y w is r d j m k f) h =
    let cut : p ++ (q ++ more) ≡ x ++ y = sym (h ∙ ap (λ t. t ++ more) e ∙ append_assoc p q more) ∙ d in
    let one = one_item (wants g) p (q ++ more) x y v w i j cut in
    let two = same_cut p (q ++ more) x y cut one.1 in
    let near : Steps g gs v (at + length p) is =
    subst (λ u. Steps g gs u (at + length p) is) (sym one.0) (subst (λ n. Steps g gs w (at + n) is) (sym one.1) m) in
    let same : is ≡ js = one_step g gs v (at + length p) is js near z in
    let there : Shows b (at + length p) js (q ++ more) rs r =
    subst (λ h. Shows b (at + length p) h (q ++ more) rs r) same
    (subst (λ h. Shows b (at + length p) is h rs r) (sym two.1) (subst (λ n. Shows b (at + n) is y rs r) (sym one.1) k)) in
    let on = shows_front b (at + length p) js q hs u l (q ++ more) more rs r there refl in
    (on.0, f ∙ ap (λ n. both (shown b g gs n at) r) (sym one.0) ∙ ap (both (shown b g gs v at)) on.1 ∙ sym (both_assoc (shown b g gs v at) u on.0) ∙ ap (λ z. both z on.0) (sym o))

-- Offsets that rise from one offset, and stay below another.
abbrev pub Within : (low high : ℕ) → List ℕ → Type 0
Within low high [] = low ≤ high
Within low high (k ∷ ks) = (low ≤ k) × Within (k + 1) high ks

within_from : (ks : List ℕ) (low below high : ℕ) → below ≤ low → Within low high ks → Within below high ks
within_from [] low below high e h = omega (arith, e, h)
within_from (k ∷ ks) low below high e h = (omega (arith, e, h.0), h.1)

within_both : (ks js : List ℕ) (low middle high : ℕ) → Within low middle ks → Within middle high js → Within low high (ks ++ js)
within_both [] js low middle high h g = within_from js middle low high h g
within_both (k ∷ ks) js low middle high h g = (h.0, within_both ks js (k + 1) middle high h.1 g)

within_if : (t : Bool) (at high : ℕ) → at < high → Within at high (place_if t at)
within_if true at high h = (omega arith, omega (arith, h))
within_if false at high h = omega (arith, h)

-- What stands in a part lies in it: offsets rise from the part's first to its end, and it has few functions.
pub record Held (s : Seen) (low high : ℕ) : Type 0 where
  pub floats : Within low high s.floats_at
  pub opens : Within low high s.opens_at
  pub few : total s.counts + low * 2 ^ 32 ≤ high * 2 ^ 32

total_nothing : total [] ≡ 0
total_nothing = refl

total_one : (n : ℕ) → total (n ∷ []) ≡ n
total_one n = omega arith

held_nothing : (low high : ℕ) → low ≤ high → Held nothing_seen low high
held_nothing low high h = record { floats = h; opens = h; few = omega (arith, h, total_nothing) }

held_both : (s t : Seen) (low middle high : ℕ) → Held s low middle → Held t middle high → Held (both s t) low high
held_both s t low middle high f g = record {
  floats = within_both s.floats_at t.floats_at low middle high f.floats g.floats;
  opens = within_both s.opens_at t.opens_at low middle high f.opens g.opens;
  few = (let h = f.few in let k = g.few in omega (arith, h, k, total_both s.counts t.counts));
}

held_float : (t : Bool) (at high : ℕ) → at < high → Held (let z : Seen = record { floats_at = place_if t at; opens_at = []; counts = []; params = []; sizes = [] } in z) at high
held_float t at high h = record { floats = within_if t at high h; opens = omega (arith, h); few = omega (arith, h, total_nothing) }

held_functions : (n at high : ℕ) → at < high → n < 2 ^ 32 → Held (let z : Seen = record { floats_at = []; opens_at = []; counts = n ∷ []; params = []; sizes = [] } in z) at high
held_functions n at high h small = record { floats = omega (arith, h); opens = omega (arith, h); few = omega (arith, h, small, total_one n) }

held_if : (t : Bool) (n at high : ℕ) → at < high → n < 2 ^ 32 → Held (cond t (functions_seen n) nothing_seen) at high
held_if true n at high h small = held_functions n at high h small
held_if false n at high h small = held_nothing at high (omega (arith, h))

held_entry : (k : EntryKind) (v at high : ℕ) → at < high → Held (entry_shown k v at) at high
held_entry some_globals v at high h = held_float (is_float_type v) at high h
held_entry some_value_types v at high h = held_float (is_float_type v) at high h
held_entry some_bodies v at high h = record { floats = omega (arith, h); opens = omega (arith, h); few = omega (arith, h, total_nothing) }
held_entry _ v at high h = held_nothing at high (omega (arith, h))

held_params : (t : Bool) (v at high : ℕ) → at < high → Held (let z : Seen = record { floats_at = []; opens_at = []; counts = []; params = v ∷ []; sizes = [] } in cond t z nothing_seen) at high
held_params true v at high h = record { floats = omega (arith, h); opens = omega (arith, h); few = omega (arith, h, total_nothing) }
held_params false v at high h = held_nothing at high (omega (arith, h))

held_count : (k : EntryKind) (gs : List Goal) (v at high : ℕ) → at < high → Held (count_shown k gs v) at high
held_count some_value_types gs v at high h = held_params (await_results gs) v at high h
held_count _ gs v at high h = held_nothing at high (omega (arith, h))

held_shown : (b : ModuleBounds) (g : Goal) (gs : List Goal) (front : List ℕ) (v at : ℕ) → IsItem (wants g) front v → at < at + length front → Held (shown b g gs v at) at (at + length front)
held_shown b (head id end last owed) gs front v at i h = held_if (nat_eq id 3) v at (at + length front) h (unsigned_fits 32 front v i)
held_shown b (entries k n) gs front v at i h = held_entry k v at (at + length front) h
held_shown b (count k) gs front v at i h = held_count k gs v at (at + length front) h
held_shown b value_type gs front v at i h = held_float (is_float_type v) at (at + length front) h
held_shown b block_type gs front v at i h = held_float (is_float_type v) at (at + length front) h
held_shown b import_kind gs front v at i h = held_if (nat_eq v 0) 1 at (at + length front) h (omega arith)
held_shown b (code first_arm) gs front v at i h = record {
  floats = within_if (is_float_op v) at (at + length front) h;
  opens = within_if (opens_level v && nat_le b.nesting (levels gs)) at (at + length front) h;
  few = omega (arith, h, total_nothing);
}
held_shown b _ gs front v at i h = held_nothing at (at + length front) (omega (arith, h))

pub held_along : (b : ModuleBounds) (at : ℕ) (gs : List Goal) (bytes : List ℕ) (hs : List Goal) (s : Seen) → Shows b at gs bytes hs s → Held s at (at + length bytes)
held_along b at gs [] hs s (shows_none e) = subst (λ z. Held z at (at + 0)) (sym e) (held_nothing at (at + 0) (omega arith))
held_along b at (g ∷ gs) bytes hs s (shows_item p q v js u c i z l o) =
    let here = held_shown b g gs p v at i (omega (arith, item_some (wants g) p v i)) in
    let more = held_along b (at + length p) js q hs u l in
    subst (λ t. Held t at (at + length bytes)) (sym o) (held_both (shown b g gs v at) u at (at + length p) (at + length bytes) here
    (subst (Held u (at + length p)) (sym (place_of at bytes p q c)) more))

-- Marks along items.

pub marks_begin : (b : ModuleBounds) (at : ℕ) (gs : List Goal) → MarksAlong b at gs [] gs no_marks
marks_begin b at gs = (nothing_seen, shows_none refl, noted_none b no_marks)

pub marks_more : (b : ModuleBounds) (at : ℕ) (gs : List Goal) (a : List ℕ) (g : Goal) (hs ks : List Goal) (m n : Marks) → MarksAlong b at gs a (g ∷ hs) m
    → (c : List ℕ) (v : ℕ) → IsItem (wants g) c v → Steps g hs v (at + length a + length c) ks → Noted b (shown b g hs v (at + length a)) m n → MarksAlong b at gs (a ++ c) ks n
marks_more b at gs a g hs ks m n w c v i t o =
    let here = shown b g hs v (at + length a) in
    (both w.0 here, shows_more b at gs a g hs ks w.0 w.1 c v i t, noted_both b w.0 here no_marks m n w.2 o)
