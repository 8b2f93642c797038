-- Groups, parts and their sizes as the program makes them.
use Rattle.std.proofs.Common.{◌≡◌, ◌∙◌, ℕ, zero, suc, ◌+◌, ◌-◌, ◌*◌, ◌<◌, ◌≤◌, List, [], ◌∷◌, ◌++◌, length, get_or, map, take, drop, Bool, true, false, nat_eq, refl, sym, ap, arith}
use Rattle.std.specs.Prelude.{if◌then◌else◌, slice_set, Vec}
use Rattle.std.specs.declared.alloc.Global.{Global}
use Rattle.std.proofs.lemmas.List.{append-nil, append_assoc, drop_all, drop_more, map_more, map-append}
use Rattle.std.proofs.lemmas.List.Elements.{All-head, All-tail}
use Rattle.wa_types.specs.declared.values.ValType.{ValType}
use Rattle.frame_laws.specs.Layout.{FrameField, kept}
use Rattle.call_frames.specs.PlainFrames.{SavedPart, at_every, at_these, test_size}
use Rattle.call_frames.specs.PlainLaws.{tests_cost}
use Rattle.call_frames.specs.declared.frames.CallClass.{CallClass}
use Rattle.call_frames.specs.declared.frames.KeptPart.{KeptPart}
use Rattle.call_frames.specs.CallParts.{keeps, keepers, same_calls, with_field, with_kept, grouped, grouped_by, parts_length, kept_by_sets}
use Rattle.call_frames.specs.Classes.{AreKeepers, set_keepers}
use Rattle.call_frames.specs.Views.{class_part, class_parts, fields_in, fields_of, part_view, part_views}
use Rattle.call_frames.proofs.FoundClasses.{all_kept}
use Rattle.call_frames.proofs.GroupLemmas.{Rows, keeps_in}
use Rattle.call_frames.proofs.SizedSets.{Sized}

-- ---- the calls that keep a local

pub same_keepers : (types : List ValType) (x j : ℕ) (sets : List (List Bool)) → Sized types sets → x < length types → keepers x j (kept_by_sets types sets) ≡ set_keepers x j sets
same_keepers types x j [] sized lt = refl
same_keepers types x j (s ∷ sets) sized lt =
    let e = All-head (λ (z : List Bool). length z ≡ length types) s sets sized in
    let z : x ≡ 0 + x = omega arith in
    ap (λ b. (if b then j ∷ [] else []) ++ keepers x (suc j) (kept_by_sets types sets)) (ap (λ y. keeps y (fields_in 0 s types)) z ∙ keeps_in 0 s types x (omega (arith, e, lt)) e)
    ∙ ap (λ ks. (if get_or s x false then j ∷ [] else []) ++ ks) (same_keepers types x (suc j) sets (All-tail (λ (z : List Bool). length z ≡ length types) s sets sized) lt)

-- ---- one more local

pub no_calls : (ks : List ℕ) (f : FrameField) (ps : List SavedPart) → length ks ≡ 0 → ps ≡ with_kept ks f ps
no_calls [] f ps e = refl
no_calls (k ∷ ks) f ps e = absurd (omega (arith, e))

some_calls : (ks : List ℕ) (f : FrameField) (ps : List SavedPart) → 1 ≤ length ks → with_field ks f ps ≡ with_kept ks f ps
some_calls [] f ps le = absurd (omega (arith, le))
some_calls (k ∷ ks) f ps le = refl

pub first_group : (ks : List ℕ) (f : FrameField) (cs : List CallClass) → 1 ≤ length ks → length cs ≡ 0 → class_parts cs ++ at_these ks (f ∷ []) ∷ [] ≡ with_kept ks f (class_parts cs)
first_group ks f [] le e = some_calls ks f [] le
first_group ks f (c ∷ cs) le e = absurd (omega (arith, e))

field_apart : (ks : List ℕ) (f : FrameField) (cs : List CallClass) (i : ℕ) (d : CallClass) → i + 1 ≡ length cs → same_calls (get_or cs i d).calls ks ≡ false
    → class_parts cs ++ at_these ks (f ∷ []) ∷ [] ≡ with_field ks f (class_parts cs)
field_apart ks f [] i d e other = absurd (omega (arith, e))
field_apart ks f (c ∷ []) zero d e other = ap (λ b. if b then at_these c.calls (fields_of c.fields.items ++ f ∷ []) ∷ [] else class_part c ∷ at_these ks (f ∷ []) ∷ []) (sym other)
field_apart ks f (c ∷ []) (suc i) d e other = absurd (omega (arith, e))
field_apart ks f (c ∷ b ∷ cs) zero d e other = absurd (omega (arith, e))
field_apart ks f (c ∷ b ∷ cs) (suc i) d e other = ap (λ ps. class_part c ∷ ps) (field_apart ks f (b ∷ cs) i d (omega (arith, e)) other)

pub next_group : (ks : List ℕ) (f : FrameField) (cs : List CallClass) (i : ℕ) (d : CallClass) → 1 ≤ length ks → i + 1 ≡ length cs → same_calls (get_or cs i d).calls ks ≡ false
    → class_parts cs ++ at_these ks (f ∷ []) ∷ [] ≡ with_kept ks f (class_parts cs)
next_group ks f cs i d le e other = field_apart ks f cs i d e other ∙ some_calls ks f (class_parts cs) le

field_joins : (ks : List ℕ) (f : FrameField) (cs : List CallClass) (i : ℕ) (d x : CallClass) → i + 1 ≡ length cs → same_calls (get_or cs i d).calls ks ≡ true
    → x.calls ≡ (get_or cs i d).calls → fields_of x.fields.items ≡ fields_of (get_or cs i d).fields.items ++ f ∷ []
    → class_parts (slice_set cs i x) ≡ with_field ks f (class_parts cs)
field_joins ks f [] i d x e same ec ef = absurd (omega (arith, e))
field_joins ks f (c ∷ []) zero d x e same ec ef =
    ap (λ ks. at_these ks (fields_of x.fields.items) ∷ []) ec ∙ ap (λ fs. at_these c.calls fs ∷ []) ef
    ∙ ap (λ b. if b then at_these c.calls (fields_of c.fields.items ++ f ∷ []) ∷ [] else class_part c ∷ at_these ks (f ∷ []) ∷ []) (sym same)
field_joins ks f (c ∷ []) (suc i) d x e same ec ef = absurd (omega (arith, e))
field_joins ks f (c ∷ b ∷ cs) zero d x e same ec ef = absurd (omega (arith, e))
field_joins ks f (c ∷ b ∷ []) (suc zero) d x e same ec ef = ap (λ ps. class_part c ∷ ps) (field_joins ks f (b ∷ []) zero d x refl same ec ef)
field_joins ks f (c ∷ b ∷ []) (suc (suc i)) d x e same ec ef = absurd (omega (arith, e))
field_joins ks f (c ∷ b ∷ a ∷ cs) (suc i) d x e same ec ef = ap (λ ps. class_part c ∷ ps) (field_joins ks f (b ∷ a ∷ cs) i d x (omega (arith, e)) same ec ef)

pub class_any : (cs : List CallClass) (i : ℕ) (d e : CallClass) → i < length cs → get_or cs i d ≡ get_or cs i e
class_any [] i d e lt = absurd (omega (arith, lt))
class_any (c ∷ cs) zero d e lt = refl
class_any (c ∷ cs) (suc i) d e lt = class_any cs i d e (omega (arith, lt))

pub same_group : (ks : List ℕ) (f : FrameField) (cs : List CallClass) (i : ℕ) (d x : CallClass) → 1 ≤ length ks → i + 1 ≡ length cs → same_calls (get_or cs i d).calls ks ≡ true
    → x.calls ≡ (get_or cs i d).calls → fields_of x.fields.items ≡ fields_of (get_or cs i d).fields.items ++ f ∷ []
    → class_parts (slice_set cs i x) ≡ with_kept ks f (class_parts cs)
same_group ks f cs i d x le e same ec ef = field_joins ks f cs i d x e same ec ef ∙ some_calls ks f (class_parts cs) le

-- ---- groups, local by local

-- the groups of these locals, and those of the locals to come
abbrev pub GroupsTo : List ValType → (keepers : List (List ℕ)) → (local : ℕ) → (left : List (List ℕ)) → (groups : List SavedPart) → Type 0
GroupsTo types kss local left ps = (length left + local ≡ length types) × (grouped_by local (drop local types) left ps ≡ grouped_by 0 types kss [])

pub groups_next : (types : List ValType) (kss : List (List ℕ)) (local : ℕ) (d : ValType) (ks : List ℕ) (left rest : List (List ℕ)) (f : FrameField) (old new : List SavedPart) → left ≡ ks ∷ rest
    → f ≡ kept local (get_or types local d) → new ≡ with_kept ks f old → GroupsTo types kss local left old → GroupsTo types kss (local + 1) rest new
groups_next types kss local d ks left rest f old new el ef en h =
    let n = ap length el in
    let size = h.0 in
    let lt : local < length types = omega (arith, n, size) in
    let next : suc local ≡ local + 1 = omega arith in (
      omega (arith, n, size),
      ap (grouped_by (local + 1) (drop (local + 1) types) rest) (en ∙ ap (λ g. with_kept ks g old) ef)
          ∙ ap (λ x. grouped_by x (drop (local + 1) types) rest (with_kept ks (kept local (get_or types local d)) old)) (sym next)
          ∙ ap (λ ts. grouped_by local ts (ks ∷ rest) old) (sym (drop_more types local d lt)) ∙ ap (λ ls. grouped_by local (drop local types) ls old) (sym el) ∙ h.1,
    )

pub groups_end : (types : List ValType) (kss : List (List ℕ)) (local : ℕ) (left : List (List ℕ)) (ps : List SavedPart) → left ≡ [] → GroupsTo types kss local left ps → ps ≡ grouped_by 0 types kss []
groups_end types kss local left ps e h =
    let n = ap length e in
    let size = h.0 in
    sym (ap (λ ts. grouped_by local ts left ps) (drop_all local types (omega (arith, n, size)))) ∙ h.1

-- groups by the calls of each local are those of the sets
groups_by : (x : ℕ) (ts : List ValType) (rows : Rows) (kss : List (List ℕ)) (ps : List SavedPart) → length kss ≡ length ts
    → ((y : ℕ) → y < length ts → get_or kss y [] ≡ keepers (x + y) 0 rows) → grouped_by x ts kss ps ≡ grouped x ts rows ps
groups_by x [] rows kss ps n h = refl
groups_by x (t ∷ ts) rows [] ps n h = absurd (omega (arith, n))
groups_by x (t ∷ ts) rows (ks ∷ kss) ps n h =
    let z : x + 0 ≡ x = omega arith in
    groups_by (suc x) ts rows kss (with_kept ks (kept x t) ps) (omega (arith, n))
    (λ y lt. h (suc y) (omega (arith, lt)) ∙ let w : x + suc y ≡ suc x + y = omega arith in ap (λ m. keepers m 0 rows) w)
    ∙ ap (λ js. grouped (suc x) ts rows (with_kept js (kept x t) ps)) (h 0 (omega arith) ∙ ap (λ m. keepers m 0 rows) z)

pub groups_same : (types : List ValType) (sets : List (List Bool)) (kss : List (List ℕ)) → Sized types sets
    → AreKeepers (length types) sets kss → grouped_by 0 types kss [] ≡ grouped 0 types (kept_by_sets types sets) []
groups_same types sets kss sized h =
    groups_by 0 types (kept_by_sets types sets) kss [] h.size
    (λ y lt. h.each y lt ∙ sym (same_keepers types y 0 sets sized lt) ∙ (let w : y ≡ 0 + y = omega arith in ap (λ m. keepers m 0 (kept_by_sets types sets)) w))

pub some_calls_there : (ks : List ℕ) (r : Bool) → r ≡ nat_eq (length ks) 0 → r ≡ false → 1 ≤ length ks
some_calls_there [] r e f = let bad : ⊥ = cc in absurd bad
some_calls_there (k ∷ ks) r e f = omega arith

pub last_place : (v : Vec CallClass Global) (n : ℕ) → n ≡ v.len → (n ≡ 0 → ⊥) → (n - 1) + 1 ≡ length v.items
last_place v n e f = by n refl
  where
    by : (m : ℕ) → n ≡ m → (n - 1) + 1 ≡ length v.items
    by zero q = absurd (f q)
    by (suc m) q = let l = v.ok.0 in omega (arith, q, l, e)

-- ---- parts made of a list that is walked

pub nothing_left : {X : Type 0} (xs : List X) → length xs ≡ 0 → xs ≡ []
nothing_left [] e = refl
nothing_left (x ∷ xs) e = absurd (omega (arith, e))

module _ (f : CallClass → SavedPart) (all : List CallClass) where
  pub part_next : (c : CallClass) (rest left : List CallClass) (p : KeptPart) (old new : List KeptPart) → left ≡ c ∷ rest → new ≡ old ++ p ∷ [] → part_view p ≡ f c
      → part_views old ++ map f left ≡ map f all → part_views new ++ map f rest ≡ map f all
  part_next c rest left p old new el en ep h =
      ap (λ ps. part_views ps ++ map f rest) en ∙ ap (λ ps. ps ++ map f rest) (map-append part_view old (p ∷ []))
      ∙ ap (λ q. (part_views old ++ q ∷ []) ++ map f rest) ep ∙ append_assoc (part_views old) (f c ∷ []) (map f rest)
      ∙ ap (λ cs. part_views old ++ map f cs) (sym el) ∙ h

  pub parts_end : (left : List CallClass) (ps : List KeptPart) → left ≡ [] → part_views ps ++ map f left ≡ map f all → part_views ps ≡ map f all
  parts_end left ps e h = sym (append-nil (part_views ps)) ∙ ap (λ cs. part_views ps ++ map f cs) (sym e) ∙ h

pub two_maps : (f : CallClass → SavedPart) (g : SavedPart → SavedPart) (cs : List CallClass) → map (λ (c : CallClass). g (f c)) cs ≡ map g (map f cs)
two_maps f g [] = refl
two_maps f g (c ∷ cs) = ap (λ ps. g (f c) ∷ ps) (two_maps f g cs)

-- ---- sizes

pub one_length : (c : CallClass) → parts_length (class_part c ∷ []) ≡ 3 * test_size c.calls + 13 + 6 * length c.fields.items
one_length c = let n = all_kept c.fields.items in omega (arith, n)

length_join : (ps qs : List SavedPart) → parts_length (ps ++ qs) ≡ parts_length ps + parts_length qs
length_join [] qs = omega arith
length_join (at_every fs ∷ ps) qs = let ih = length_join ps qs in omega (arith, ih)
length_join (at_these ks fs ∷ ps) qs = let ih = length_join ps qs in omega (arith, ih)

cost_join : (ps qs : List SavedPart) → tests_cost (ps ++ qs) ≡ tests_cost ps + tests_cost qs
cost_join [] qs = omega arith
cost_join (at_every fs ∷ ps) qs = cost_join ps qs
cost_join (at_these ks fs ∷ ps) qs = let ih = cost_join ps qs in omega (arith, ih)

-- a sum over parts, one more at a time
module _ (sum : List SavedPart → ℕ) (join : (ps qs : List SavedPart) → sum (ps ++ qs) ≡ sum ps + sum qs) (ps : List KeptPart) where
  pub sum_next : (i : ℕ) (d : KeptPart) → i < length ps → sum (part_views (take (i + 1) ps)) ≡ sum (part_views (take i ps)) + sum (part_view (get_or ps i d) ∷ [])
  sum_next i d lt = ap sum (map_more part_view ps i d lt) ∙ join (part_views (take i ps)) (part_view (get_or ps i d) ∷ [])

take_least : (sum : List SavedPart → ℕ) (join : (ps qs : List SavedPart) → sum (ps ++ qs) ≡ sum ps + sum qs) (ps : List KeptPart) (i : ℕ) → sum (part_views (take i ps)) ≤ sum (part_views ps)
take_least sum join [] zero = omega arith
take_least sum join [] (suc i) = omega arith
take_least sum join (p ∷ ps) zero =
    let a = join [] (part_views (p ∷ ps)) in omega (arith, a)
take_least sum join (p ∷ ps) (suc i) =
    let a = join (part_view p ∷ []) (part_views (take i ps)) in
    let b = join (part_view p ∷ []) (part_views ps) in
    let ih = take_least sum join ps i in omega (arith, a, b, ih)

module _ (ps : List KeptPart) (i : ℕ) (d : KeptPart) (lt : i < length ps) where
  pub length_next : parts_length (part_views (take (i + 1) ps)) ≡ parts_length (part_views (take i ps)) + parts_length (part_view (get_or ps i d) ∷ [])
  length_next = sum_next parts_length length_join ps i d lt

  pub length_within : parts_length (part_views (take (i + 1) ps)) ≤ parts_length (part_views ps)
  length_within = take_least parts_length length_join ps (i + 1)

  pub cost_next : tests_cost (part_views (take (i + 1) ps)) ≡ tests_cost (part_views (take i ps)) + tests_cost (part_view (get_or ps i d) ∷ [])
  cost_next = sum_next tests_cost cost_join ps i d lt

  pub cost_within : tests_cost (part_views (take (i + 1) ps)) ≤ tests_cost (part_views ps)
  cost_within = take_least tests_cost cost_join ps (i + 1)
