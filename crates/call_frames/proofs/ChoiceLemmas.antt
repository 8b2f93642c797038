-- Groups or classes: either keeps the sets, and costs little.
use Rattle.std.proofs.Common.{◌≡◌, ◌∙◌, ℕ, zero, suc, ◌+◌, ◌*◌, ◌^◌, ◌<◌, ◌≤◌, ◌⊎◌, inl, inr, ⊎_elim, List, [], ◌∷◌, ◌++◌, length, get_or, map, Bool, true, false, nat_eq, All, refl, sym, ap, subst, arith, eq-eqb, leb-true, le-leb, length-append}
use Rattle.std.specs.Prelude.{nat_le, if◌then◌else◌}
use Rattle.std.proofs.lemmas.List.{length-map}
use Rattle.std.proofs.lemmas.List.Elements.{All-nil, All-cons, All-head, All-tail}
use Rattle.wa_types.specs.declared.values.ValType.{ValType}
use Rattle.frame_laws.specs.Layout.{FrameField, kept, gap, kept_count}
use Rattle.call_frames.specs.PlainFrames.{SavedPart, at_every, at_these, is_one_of, call_fields, test_size}
use Rattle.call_frames.specs.PlainLaws.{NameCalls, tests_cost}
use Rattle.call_frames.proofs.PlainBounds.{names_law, test_few}
use Rattle.call_frames.specs.declared.frames.CallClass.{CallClass}
use Rattle.call_frames.specs.CallParts.{keeps, keepers, same_calls, with_field, with_kept, grouped, shared_where, groups, parts_length, tests_most, are_better, better_parts, kept_by_sets}
use Rattle.call_frames.specs.Classes.{AllAre, AllShared, NumbersBelow, FewFields, FewParts, KeepByClasses, KeepCheaply, KeepSets, named_length, part_fields, shared_fields}
use Rattle.call_frames.specs.Views.{class_part, class_parts, fields_in, kept_field, kept_total, kept_where}
use Rattle.call_frames.proofs.GroupLemmas.{AreGroups, Rows, fields_where, groups_fields, grouped_groups, keepers_few, row_fields, shared_below, shared_named, shared_same}
use Rattle.call_frames.proofs.SizedSets.{Sized, both_true, join_true}

-- ---- groups keep the sets

abbrev pub rows_of : List ValType → List (List Bool) → Rows
rows_of types sets = kept_by_sets types sets

row_at : (types : List ValType) (sets : List (List Bool)) (k : ℕ) → k < length sets → get_or (rows_of types sets) k [] ≡ fields_in 0 (get_or sets k []) types
row_at types [] k lt = absurd (omega (arith, lt))
row_at types (s ∷ sets) zero lt = refl
row_at types (s ∷ sets) (suc k) lt = row_at types sets k (omega (arith, lt))

set_sized : (types : List ValType) (sets : List (List Bool)) (k : ℕ) → k < length sets → Sized types sets → length (get_or sets k []) ≡ length types
set_sized types [] k lt h = absurd (omega (arith, lt))
set_sized types (s ∷ sets) zero lt h = All-head (λ (z : List Bool). length z ≡ length types) s sets h
set_sized types (s ∷ sets) (suc k) lt h = set_sized types sets k (omega (arith, lt)) (All-tail (λ (z : List Bool). length z ≡ length types) s sets h)

module _ (types : List ValType) (sets : List (List Bool)) (sized : Sized types sets) where
  many : length (rows_of types sets) ≡ length sets
  many = length-map sets (λ (set : List Bool). fields_in 0 set types)

  are : AreGroups (length (rows_of types sets)) (grouped 0 types (rows_of types sets) [])
  are = grouped_groups 0 types (rows_of types sets) [] tt

  pub groups_keep : KeepSets types sets (groups types (rows_of types sets))
  groups_keep = record {
    fields = λ k lt.
        let l : k < length (rows_of types sets) = omega (arith, lt, many) in
        shared_same (length (rows_of types sets)) k (grouped 0 types (rows_of types sets) []) are l ∙ groups_fields types (rows_of types sets) k l
        ∙ ap (λ fs. fields_where 0 (λ y. keeps y fs) types) (row_at types sets k lt) ∙ row_fields (get_or sets k []) types (set_sized types sets k lt sized);
    below = subst (λ n. NumbersBelow n (groups types (rows_of types sets))) many (shared_below (length (rows_of types sets)) (grouped 0 types (rows_of types sets) []) are);
    named = shared_named (length (rows_of types sets)) (grouped 0 types (rows_of types sets) []) are;
  }

-- ---- their sizes

abbrev pub total_fields : List SavedPart → ℕ
total_fields [] = 0
total_fields (p ∷ ps) = part_fields p + total_fields ps

field_total : (ks : List ℕ) (f : FrameField) (ps : List SavedPart) → total_fields (with_field ks f ps) ≤ total_fields ps + 1
field_total ks f [] = omega arith
field_total ks f (at_every gs ∷ []) = omega arith
field_total ks f (at_these js gs ∷ []) = by (same_calls js ks)
  where
    by : (b : Bool) → total_fields (if b then at_these js (gs ++ f ∷ []) ∷ [] else at_these js gs ∷ at_these ks (f ∷ []) ∷ []) ≤ length gs + 0 + 1
    by true = let l = length-append gs (f ∷ []) in omega (arith, l)
    by false = omega arith
field_total ks f (at_every gs ∷ q ∷ ps) = let ih = field_total ks f (q ∷ ps) in omega (arith, ih)
field_total ks f (at_these js gs ∷ q ∷ ps) = let ih = field_total ks f (q ∷ ps) in omega (arith, ih)

kept_total_more : (ks : List ℕ) (f : FrameField) (ps : List SavedPart) → total_fields (with_kept ks f ps) ≤ total_fields ps + 1
kept_total_more [] f ps = omega arith
kept_total_more (k ∷ ks) f ps = field_total (k ∷ ks) f ps

grouped_total : (x : ℕ) (ts : List ValType) (rows : Rows) (ps : List SavedPart) → total_fields (grouped x ts rows ps) ≤ total_fields ps + length ts
grouped_total x [] rows ps = omega arith
grouped_total x (t ∷ ts) rows ps =
    let a = grouped_total (suc x) ts rows (with_kept (keepers x 0 rows) (kept x t) ps) in
    let b = kept_total_more (keepers x 0 rows) (kept x t) ps in omega (arith, a, b)

shared_total : (n : ℕ) (ps : List SavedPart) → total_fields (map (shared_where n) ps) ≡ total_fields ps
shared_total n [] = refl
shared_total n (at_every fs ∷ ps) = ap (λ k. length fs + k) (shared_total n ps)
shared_total n (at_these ks fs ∷ ps) = by (nat_eq (length ks) n) (shared_total n ps)
  where
    by : (b : Bool) → total_fields (map (shared_where n) ps) ≡ total_fields ps → total_fields ((if b then at_every fs else at_these ks fs) ∷ map (shared_where n) ps) ≡ length fs + total_fields ps
    by true ih = ap (λ k. length fs + k) ih
    by false ih = ap (λ k. length fs + k) ih

few_each : (most : ℕ) (ps : List SavedPart) → total_fields ps ≤ most → All (λ (p : SavedPart). part_fields p ≤ most) ps
few_each most [] le = All-nil (λ (p : SavedPart). part_fields p ≤ most)
few_each most (p ∷ ps) le = All-cons (λ (q : SavedPart). part_fields q ≤ most) p ps (omega (arith, le)) (few_each most ps (omega (arith, le)))

shared_among : (ps : List SavedPart) → shared_fields ps ≤ total_fields ps
shared_among [] = omega arith
shared_among (at_every fs ∷ ps) = let ih = shared_among ps in omega (arith, ih)
shared_among (at_these ks fs ∷ ps) = let ih = shared_among ps in omega (arith, ih)

pub groups_few : (types : List ValType) (rows : Rows) → length types ≤ 50000 → FewParts (groups types rows)
groups_few types rows few =
    let ps = grouped 0 types rows [] in
    let a = grouped_total 0 types rows [] in
    let b = shared_total (length rows) ps in
    let c = shared_among (map (shared_where (length rows)) ps) in
    record { each = few_each 50000 (map (shared_where (length rows)) ps) (omega (arith, a, b, few)); shared = omega (arith, a, b, c, few) }

no_shared : (cs : List CallClass) → shared_fields (class_parts cs) ≡ 0
no_shared [] = refl
no_shared (c ∷ cs) = no_shared cs

classes_each : (cs : List CallClass) → FewFields cs → All (λ (p : SavedPart). part_fields p ≤ 50000) (class_parts cs)
classes_each [] h = All-nil (λ (p : SavedPart). part_fields p ≤ 50000)
classes_each (c ∷ cs) h =
    let l = length-map c.fields.items kept_field in
    let f = All-head (λ (d : CallClass). length d.fields.items ≤ 50000) c cs h in
    All-cons (λ (q : SavedPart). part_fields q ≤ 50000) (class_part c) (class_parts cs) (omega (arith, l, f)) (classes_each cs (All-tail (λ (d : CallClass). length d.fields.items ≤ 50000) c cs h))

pub classes_few : (cs : List CallClass) → FewFields cs → FewParts (class_parts cs)
classes_few cs h = record { each = classes_each cs h; shared = let n = no_shared cs in omega (arith, n) }

-- ---- their lengths

test_most : (ks : List ℕ) → test_size ks ≤ 4 * length ks + 1
test_most [] = omega arith
test_most (k ∷ ks) = let a = test_few (k ∷ ks) (omega arith) in omega (arith, a)

-- rows are no longer than their calls, compared one by one
pub named_most : (ps : List SavedPart) → NameCalls ps → parts_length ps ≤ named_length ps
named_most [] h = omega arith
named_most (at_every fs ∷ ps) h = let ih = named_most ps h in omega (arith, ih)
named_most (at_these ks fs ∷ ps) h = let ih = named_most ps h.1 in let t = test_few ks h.0 in omega (arith, ih, t)

count_most : (fs : List FrameField) → kept_count fs ≤ length fs
count_most [] = omega arith
count_most (kept x t ∷ fs) = let ih = count_most fs in omega (arith, ih)
count_most (gap t ∷ fs) = let ih = count_most fs in omega (arith, ih)

count_more : (fs : List FrameField) (f : FrameField) → kept_count (fs ++ f ∷ []) ≤ kept_count fs + 1
count_more [] (kept x t) = omega arith
count_more [] (gap t) = omega arith
count_more (kept x t ∷ fs) f = let ih = count_more fs f in omega (arith, ih)
count_more (gap t ∷ fs) f = let ih = count_more fs f in omega (arith, ih)

field_length : (ks : List ℕ) (f : FrameField) (ps : List SavedPart) → parts_length (with_field ks f ps) ≤ parts_length ps + (12 * length ks + 24)
field_length ks f [] = let t = test_most ks in let c = count_more [] f in omega (arith, t, c)
field_length ks f (at_every gs ∷ []) = let t = test_most ks in let c = count_more [] f in omega (arith, t, c)
field_length ks f (at_these js gs ∷ []) = by (same_calls js ks)
  where
    by : (b : Bool) → parts_length (if b then at_these js (gs ++ f ∷ []) ∷ [] else at_these js gs ∷ at_these ks (f ∷ []) ∷ []) ≤ parts_length (at_these js gs ∷ []) + (12 * length ks + 24)
    by true = let c = count_more gs f in omega (arith, c)
    by false = let t = test_most ks in let c = count_more [] f in omega (arith, t, c)
field_length ks f (at_every gs ∷ q ∷ ps) = let ih = field_length ks f (q ∷ ps) in omega (arith, ih)
field_length ks f (at_these js gs ∷ q ∷ ps) = let ih = field_length ks f (q ∷ ps) in omega (arith, ih)

kept_length : (n : ℕ) (ks : List ℕ) (f : FrameField) (ps : List SavedPart) → length ks ≤ n → parts_length (with_kept ks f ps) ≤ parts_length ps + (12 * n + 24)
kept_length n [] f ps le = omega arith
kept_length n (k ∷ ks) f ps le = let a = field_length (k ∷ ks) f ps in omega (arith, a, le)

product_next : (a b : ℕ) → suc a * b ≡ b + a * b
product_next a b = grind arith

grouped_length : (n x : ℕ) (ts : List ValType) (rows : Rows) (ps : List SavedPart) → length rows ≤ n → parts_length (grouped x ts rows ps) ≤ parts_length ps + length ts * (12 * n + 24)
grouped_length n x [] rows ps le = omega arith
grouped_length n x (t ∷ ts) rows ps le =
    let few = keepers_few x 0 rows in
    let a = grouped_length n (suc x) ts rows (with_kept (keepers x 0 rows) (kept x t) ps) le in
    let b = kept_length n (keepers x 0 rows) (kept x t) ps (omega (arith, few, le)) in
    let d = product_next (length ts) (12 * n + 24) in
    omega (arith, a, b, d)

shared_length : (n : ℕ) (ps : List SavedPart) → parts_length (map (shared_where n) ps) ≤ parts_length ps
shared_length n [] = omega arith
shared_length n (at_every fs ∷ ps) = let ih = shared_length n ps in omega (arith, ih)
shared_length n (at_these ks fs ∷ ps) = by (nat_eq (length ks) n) (shared_length n ps)
  where
    by : (b : Bool) → parts_length (map (shared_where n) ps) ≤ parts_length ps
        → parts_length ((if b then at_every fs else at_these ks fs) ∷ map (shared_where n) ps) ≤ parts_length (at_these ks fs ∷ ps)
    by true ih = omega (arith, ih)
    by false ih = omega (arith, ih)

product_most : (a b : ℕ) → a ≤ 50000 → a * b ≤ 50000 * b
product_most a b le = grind (arith, le)

pub groups_short : (types : List ValType) (rows : Rows) → length types ≤ 50000 → length rows < 2 ^ 32 → parts_length (groups types rows) < 2 ^ 60
groups_short types rows few calls =
    let a = grouped_length (2 ^ 32) 0 types rows [] (omega (arith, calls)) in
    let b = shared_length (length rows) (grouped 0 types rows []) in
    let p = product_most (length types) (12 * 2 ^ 32 + 24) few in
    omega (arith, a, b, p)

in_count : (x : ℕ) (set : List Bool) (types : List ValType) → kept_count (fields_in x set types) ≤ length types
in_count x [] types = omega arith
in_count x (b ∷ bs) [] = omega arith
in_count x (b ∷ bs) (t ∷ ts) = by b (in_count (suc x) bs ts)
  where
    by : (c : Bool) → kept_count (fields_in (suc x) bs ts) ≤ length ts → kept_count (kept_where c x t (fields_in (suc x) bs ts)) ≤ suc (length ts)
    by true h = omega (arith, h)
    by false h = omega (arith, h)

pub total_short : (types : List ValType) (sets : List (List Bool)) → length types ≤ 50000 → kept_total types sets ≤ 50000 * length sets
total_short types [] few = omega arith
total_short types (s ∷ sets) few =
    let a = in_count 0 s types in
    let b = total_short types sets few in omega (arith, a, b, few)

-- tests cost no more than twice what they are long
pub cost_short : (ps : List SavedPart) → tests_cost ps ≤ 2 * parts_length ps
cost_short [] = omega arith
cost_short (at_every fs ∷ ps) = let ih = cost_short ps in omega (arith, ih)
cost_short (at_these ks fs ∷ ps) = let ih = cost_short ps in omega (arith, ih)

-- ---- where all calls keep the same

full_keepers : (x j : ℕ) (r : List FrameField) (rows : Rows) → All (λ (fs : List FrameField). fs ≡ r) rows → (keepers x j rows ≡ []) ⊎ (length (keepers x j rows) ≡ length rows)
full_keepers x j r rows h = by (keeps x r) refl
  where
    none : (i : ℕ) (qs : Rows) → All (λ (fs : List FrameField). fs ≡ r) qs → keeps x r ≡ false → keepers x i qs ≡ []
    none i [] g e = refl
    none i (q ∷ qs) g e =
        ap (λ b. (if b then i ∷ [] else []) ++ keepers x (suc i) qs) (ap (keeps x) (All-head (λ (fs : List FrameField). fs ≡ r) q qs g) ∙ e)
        ∙ none (suc i) qs (All-tail (λ (fs : List FrameField). fs ≡ r) q qs g) e

    all : (i : ℕ) (qs : Rows) → All (λ (fs : List FrameField). fs ≡ r) qs → keeps x r ≡ true → length (keepers x i qs) ≡ length qs
    all i [] g e = refl
    all i (q ∷ qs) g e =
        ap (λ b. length ((if b then i ∷ [] else []) ++ keepers x (suc i) qs)) (ap (keeps x) (All-head (λ (fs : List FrameField). fs ≡ r) q qs g) ∙ e)
        ∙ ap suc (all (suc i) qs (All-tail (λ (fs : List FrameField). fs ≡ r) q qs g) e)

    by : (b : Bool) → keeps x r ≡ b → (keepers x j rows ≡ []) ⊎ (length (keepers x j rows) ≡ length rows)
    by true e = inr (all j rows h e)
    by false e = inl (none j rows h e)

-- each part names as many calls as there are
abbrev pub AllFull : ℕ → List SavedPart → Type 0
AllFull n [] = Unit {0}
AllFull n (at_every fs ∷ ps) = AllFull n ps
AllFull n (at_these ks fs ∷ ps) = (length ks ≡ n) × AllFull n ps

field_full : (n : ℕ) (ks : List ℕ) (f : FrameField) (ps : List SavedPart) → length ks ≡ n → AllFull n ps → AllFull n (with_field ks f ps)
field_full n ks f [] e g = (e, tt)
field_full n ks f (at_every gs ∷ []) e g = (e, tt)
field_full n ks f (at_these js gs ∷ []) e g = by (same_calls js ks)
  where
    by : (b : Bool) → AllFull n (if b then at_these js (gs ++ f ∷ []) ∷ [] else at_these js gs ∷ at_these ks (f ∷ []) ∷ [])
    by true = g
    by false = (g.0, (e, tt))
field_full n ks f (at_every gs ∷ q ∷ ps) e g = field_full n ks f (q ∷ ps) e g
field_full n ks f (at_these js gs ∷ q ∷ ps) e g = (g.0, field_full n ks f (q ∷ ps) e g.1)

kept_full : (n : ℕ) (ks : List ℕ) (f : FrameField) (ps : List SavedPart) → (ks ≡ []) ⊎ (length ks ≡ n) → AllFull n ps → AllFull n (with_kept ks f ps)
kept_full n [] f ps h g = g
kept_full n (k ∷ ks) f ps h g = field_full n (k ∷ ks) f ps (⊎_elim (λ e. let no : ⊥ = cc in absurd no) (λ e. e) h) g

grouped_full : (x : ℕ) (ts : List ValType) (r : List FrameField) (rows : Rows) (ps : List SavedPart) → All (λ (fs : List FrameField). fs ≡ r) rows → AllFull (length rows) ps
    → AllFull (length rows) (grouped x ts rows ps)
grouped_full x [] r rows ps h g = g
grouped_full x (t ∷ ts) r rows ps h g =
    grouped_full (suc x) ts r rows (with_kept (keepers x 0 rows) (kept x t) ps) h (kept_full (length rows) (keepers x 0 rows) (kept x t) ps (full_keepers x 0 r rows h) g)

full_shared : (n : ℕ) (ps : List SavedPart) → AllFull n ps → AllShared (map (shared_where n) ps)
full_shared n [] g = tt
full_shared n (at_every fs ∷ ps) g = full_shared n ps g
full_shared n (at_these ks fs ∷ ps) g =
    subst (λ b. AllShared ((if b then at_every fs else at_these ks fs) ∷ map (shared_where n) ps)) (sym (eq-eqb (length ks) n g.0)) (full_shared n ps g.1)

rows_alike : (types : List ValType) (set : List Bool) (sets : List (List Bool)) → AllAre set sets → All (λ (fs : List FrameField). fs ≡ fields_in 0 set types) (rows_of types sets)
rows_alike types set [] h = All-nil (λ (fs : List FrameField). fs ≡ fields_in 0 set types)
rows_alike types set (s ∷ sets) h =
    All-cons (λ (fs : List FrameField). fs ≡ fields_in 0 set types) (fields_in 0 s types) (rows_of types sets) (ap (λ z. fields_in 0 z types) h.0) (rows_alike types set sets h.1)

pub groups_shared : (types : List ValType) (set : List Bool) (sets : List (List Bool)) → AllAre set sets → AllShared (groups types (rows_of types sets))
groups_shared types set sets h =
    full_shared (length (rows_of types sets)) (grouped 0 types (rows_of types sets) [])
    (grouped_full 0 types (fields_in 0 set types) (rows_of types sets) [] (rows_alike types set sets h) tt)

-- without tests, the codes are as long as their fields tell
shared_cost : (ps : List SavedPart) → AllShared ps → tests_cost ps ≡ 0
shared_cost [] h = refl
shared_cost (at_every fs ∷ ps) h = shared_cost ps h
shared_cost (at_these ks fs ∷ ps) h = absurd h

count_join : (fs gs : List FrameField) → kept_count (fs ++ gs) ≡ kept_count fs + kept_count gs
count_join [] gs = omega arith
count_join (kept x t ∷ fs) gs = let ih = count_join fs gs in omega (arith, ih)
count_join (gap t ∷ fs) gs = count_join fs gs

shared_exact : (k : ℕ) (ps : List SavedPart) → AllShared ps → parts_length ps ≡ 6 * kept_count (call_fields k ps)
shared_exact k [] h = omega arith
shared_exact k (at_every fs ∷ ps) h = let ih = shared_exact k ps h in let j = count_join fs (call_fields k ps) in omega (arith, ih, j)
shared_exact k (at_these ks fs ∷ ps) h = absurd h

length_least : (k : ℕ) (ps : List SavedPart) → 6 * kept_count (call_fields k ps) ≤ parts_length ps
length_least k [] = omega arith
length_least k (at_every fs ∷ ps) = let ih = length_least k ps in let j = count_join fs (call_fields k ps) in omega (arith, ih, j)
length_least k (at_these ks fs ∷ ps) = by (is_one_of ks k) (length_least k ps)
  where
    by : (b : Bool) → 6 * kept_count (call_fields k ps) ≤ parts_length ps → 6 * kept_count ((if b then fs else []) ++ call_fields k ps) ≤ parts_length (at_these ks fs ∷ ps)
    by true ih = let j = count_join fs (call_fields k ps) in omega (arith, ih, j)
    by false ih = omega (arith, ih)

-- ---- the choice

module _ (types : List ValType) (sets : List (List Bool)) (sized : Sized types sets) (cs : List SavedPart) (by_classes : KeepByClasses types sets cs) where
  abbrev pub gs : List SavedPart
  gs = groups types (rows_of types sets)

  abbrev pub most : ℕ
  most = tests_most (length types) (length sets)

  classes_tests : tests_cost cs ≤ most
  classes_tests = let a = names_law cs by_classes.keep.named in let b = by_classes.numbers in omega (arith, a, b)

  pub chosen_keep : KeepCheaply types sets (better_parts most gs cs)
  chosen_keep = by (are_better most gs cs) refl
    where
      by : (b : Bool) → are_better most gs cs ≡ b → KeepCheaply types sets (if b then gs else cs)
      by true e =
          let both = both_true (nat_le (tests_cost gs) most) (nat_le (parts_length gs) (parts_length cs)) e in
          let less = leb-true (parts_length gs) (parts_length cs) both.1 in
          let named = named_most cs by_classes.keep.named in
          let size = by_classes.size in
          record { keep = groups_keep types sets sized; tests = leb-true (tests_cost gs) most both.0; size = omega (arith, less, named, size) }
      by false e =
          let named = named_most cs by_classes.keep.named in
          let size = by_classes.size in
          record { keep = by_classes.keep; tests = classes_tests; size = omega (arith, named, size) }

  pub chosen_alike : (set : List Bool) → 1 ≤ length sets → AllAre set sets → AllShared (better_parts most gs cs)
  chosen_alike set some h =
      let shared = groups_shared types set sets h in
      let cost = shared_cost gs shared in
      let own = shared_exact 0 gs shared in
      let least = length_least 0 cs in
      let keep : call_fields 0 gs ≡ call_fields 0 cs = (groups_keep types sets sized).fields 0 some ∙ sym (by_classes.keep.fields 0 some) in
      let same = ap kept_count keep in
      let better : are_better most gs cs ≡ true = join_true (nat_le (tests_cost gs) most) (nat_le (parts_length gs) (parts_length cs))
      (le-leb (tests_cost gs) most (omega (arith, cost))) (le-leb (parts_length gs) (parts_length cs) (omega (arith, own, least, same))) in
      subst (λ b. AllShared (if b then gs else cs)) (sym better) shared
