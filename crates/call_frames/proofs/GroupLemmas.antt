-- Groups of locals: at each call they have what it keeps.
use Rattle.std.proofs.Common.{◌≡◌, ◌∙◌, ℕ, zero, suc, ◌+◌, ◌<◌, ◌≤◌, List, [], ◌∷◌, ◌++◌, length, get_or, map, Bool, true, false, nat_eq, refl, sym, ap, arith, eq-eqb, eqb-true, ne_eqb}
use Rattle.std.specs.Cmp.{unsigned_Decides}
use Rattle.std.specs.Cmp.Lexicographic.{pointwise_decides}
use Rattle.std.specs.Prelude.{◌||◌, if◌then◌else◌}
use Rattle.std.proofs.lemmas.List.{append-nil, append_assoc}
use Rattle.wa_types.specs.declared.values.ValType.{ValType}
use Rattle.frame_laws.specs.Layout.{FrameField, kept}
use Rattle.call_frames.specs.PlainFrames.{SavedPart, at_every, at_these, is_one_of, call_fields}
use Rattle.call_frames.specs.PlainLaws.{NameCalls}
use Rattle.call_frames.specs.CallParts.{keeps, keepers, same_calls, with_field, with_kept, grouped, shared_where}
use Rattle.call_frames.specs.Classes.{AllBelow, NumbersBelow}
use Rattle.call_frames.specs.Views.{kept_where, fields_in}

abbrev pub Rows : Type 0
Rows = List (List FrameField)

-- ---- the calls that keep a local

not_before : (x j : ℕ) (rows : Rows) (k : ℕ) → k < j → is_one_of (keepers x j rows) k ≡ false
not_before x j [] k lt = refl
not_before x j (fs ∷ rows) k lt = by (keeps x fs) (not_before x (suc j) rows k (omega (arith, lt)))
  where
    by : (b : Bool) → is_one_of (keepers x (suc j) rows) k ≡ false → is_one_of ((if b then j ∷ [] else []) ++ keepers x (suc j) rows) k ≡ false
    by true ih = ap (λ b. b || is_one_of (keepers x (suc j) rows) k) (ne_eqb k j (λ e. absurd (omega (arith, e, lt)))) ∙ ih
    by false ih = ih

pub is_keeper : (x j : ℕ) (rows : Rows) (k : ℕ) → k < length rows → is_one_of (keepers x j rows) (j + k) ≡ keeps x (get_or rows k [])
is_keeper x j [] k lt = absurd (omega (arith, lt))
is_keeper x j (fs ∷ rows) zero lt = by (keeps x fs)
  where
    by : (b : Bool) → is_one_of ((if b then j ∷ [] else []) ++ keepers x (suc j) rows) (j + 0) ≡ b
    by true = ap (λ b. b || is_one_of (keepers x (suc j) rows) (j + 0)) (eq-eqb (j + 0) j (omega arith))
    by false = not_before x (suc j) rows (j + 0) (omega arith)
is_keeper x j (fs ∷ rows) (suc k) lt =
    let z : suc j + k ≡ j + suc k = omega arith in
    by (keeps x fs) (ap (is_one_of (keepers x (suc j) rows)) (sym z) ∙ is_keeper x (suc j) rows k (omega (arith, lt)))
  where
    by : (b : Bool) → is_one_of (keepers x (suc j) rows) (j + suc k) ≡ keeps x (get_or rows k [])
        → is_one_of ((if b then j ∷ [] else []) ++ keepers x (suc j) rows) (j + suc k) ≡ keeps x (get_or rows k [])
    by true ih = ap (λ b. b || is_one_of (keepers x (suc j) rows) (j + suc k)) (ne_eqb (j + suc k) j (λ e. absurd (omega (arith, e)))) ∙ ih
    by false ih = ih

keepers_below : (x j n : ℕ) (rows : Rows) → j + length rows ≤ n → AllBelow n (keepers x j rows)
keepers_below x j n [] le = tt
keepers_below x j n (fs ∷ rows) le = by (keeps x fs) (keepers_below x (suc j) n rows (omega (arith, le)))
  where
    by : (b : Bool) → AllBelow n (keepers x (suc j) rows) → AllBelow n ((if b then j ∷ [] else []) ++ keepers x (suc j) rows)
    by true ih = (omega (arith, le), ih)
    by false ih = ih

pub keepers_few : (x j : ℕ) (rows : Rows) → length (keepers x j rows) ≤ length rows
keepers_few x j [] = omega arith
keepers_few x j (fs ∷ rows) = by (keeps x fs) (keepers_few x (suc j) rows)
  where
    by : (b : Bool) → length (keepers x (suc j) rows) ≤ length rows → length ((if b then j ∷ [] else []) ++ keepers x (suc j) rows) ≤ suc (length rows)
    by true ih = omega (arith, ih)
    by false ih = omega (arith, ih)

-- where they are as many as there are calls, each keeps it
all_keep : (x j : ℕ) (rows : Rows) → length (keepers x j rows) ≡ length rows → (k : ℕ) → k < length rows → keeps x (get_or rows k []) ≡ true
all_keep x j [] e k lt = absurd (omega (arith, lt))
all_keep x j (fs ∷ rows) e k lt = by (keeps x fs) refl e (λ q i l. all_keep x (suc j) rows q i l)
  where
    few : length (keepers x (suc j) rows) ≤ length rows
    few = keepers_few x (suc j) rows

    at : (i : ℕ) → i < suc (length rows) → keeps x fs ≡ true → length (keepers x (suc j) rows) ≡ length rows
        → (length (keepers x (suc j) rows) ≡ length rows → (n : ℕ) → n < length rows → keeps x (get_or rows n []) ≡ true) → keeps x (get_or (fs ∷ rows) i []) ≡ true
    at zero l h q others = h
    at (suc i) l h q others = others q i (omega (arith, l))

    by : (b : Bool) → keeps x fs ≡ b → length ((if b then j ∷ [] else []) ++ keepers x (suc j) rows) ≡ suc (length rows)
        → (length (keepers x (suc j) rows) ≡ length rows → (n : ℕ) → n < length rows → keeps x (get_or rows n []) ≡ true) → keeps x (get_or (fs ∷ rows) k []) ≡ true
    by true h q others = at k lt h (omega (arith, q)) others
    by false h q others = absurd (omega (arith, q, few))

-- ---- parts of such calls

-- Some of so many calls; where they are as many, each is one of them.
pub record AreCalls (n : ℕ) (ks : List ℕ) : Type 0 where
  pub below : AllBelow n ks
  pub some : 1 ≤ length ks
  pub all : length ks ≡ n → (k : ℕ) → k < n → is_one_of ks k ≡ true

abbrev pub AreGroups : ℕ → List SavedPart → Type 0
AreGroups n [] = Unit {0}
AreGroups n (at_every fs ∷ ps) = ⊥
AreGroups n (at_these ks fs ∷ ps) = AreCalls n ks × AreGroups n ps

are_keepers : (x : ℕ) (rows : Rows) → 1 ≤ length (keepers x 0 rows) → AreCalls (length rows) (keepers x 0 rows)
are_keepers x rows some = record {
  below = keepers_below x 0 (length rows) rows (omega arith);
  some = some;
  all = λ e k lt. let z : k ≡ 0 + k = omega arith in ap (is_one_of (keepers x 0 rows)) z ∙ is_keeper x 0 rows k lt ∙ all_keep x 0 rows e k lt;
}

field_groups : (n : ℕ) (ks : List ℕ) (f : FrameField) (ps : List SavedPart) → AreCalls n ks → AreGroups n ps → AreGroups n (with_field ks f ps)
field_groups n ks f [] h g = (h, tt)
field_groups n ks f (at_every gs ∷ []) h g = absurd g
field_groups n ks f (at_these js gs ∷ []) h g = by (same_calls js ks)
  where
    by : (b : Bool) → AreGroups n (if b then at_these js (gs ++ f ∷ []) ∷ [] else at_these js gs ∷ at_these ks (f ∷ []) ∷ [])
    by true = g
    by false = (g.0, (h, tt))
field_groups n ks f (at_every gs ∷ q ∷ ps) h g = absurd g
field_groups n ks f (at_these js gs ∷ q ∷ ps) h g = (g.0, field_groups n ks f (q ∷ ps) h g.1)

kept_groups : (n : ℕ) (ks : List ℕ) (f : FrameField) (ps : List SavedPart) → (1 ≤ length ks → AreCalls n ks) → AreGroups n ps → AreGroups n (with_kept ks f ps)
kept_groups n [] f ps h g = g
kept_groups n (k ∷ ks) f ps h g = field_groups n (k ∷ ks) f ps (h (omega arith)) g

pub grouped_groups : (x : ℕ) (ts : List ValType) (rows : Rows) (ps : List SavedPart) → AreGroups (length rows) ps → AreGroups (length rows) (grouped x ts rows ps)
grouped_groups x [] rows ps g = g
grouped_groups x (t ∷ ts) rows ps g =
    grouped_groups (suc x) ts rows (with_kept (keepers x 0 rows) (kept x t) ps) (kept_groups (length rows) (keepers x 0 rows) (kept x t) ps (are_keepers x rows) g)

-- ---- their fields

calls_same : (js ks : List ℕ) → same_calls js ks ≡ true → js ≡ ks
calls_same js ks e = (pointwise_decides unsigned_Decides js ks).0 e

pub same_itself : (ks : List ℕ) → same_calls ks ks ≡ true
same_itself ks = (pointwise_decides unsigned_Decides ks ks).1 refl

if_more : (b : Bool) (gs : List FrameField) (f : FrameField) → (if b then gs ++ f ∷ [] else []) ++ [] ≡ ((if b then gs else []) ++ []) ++ (if b then f ∷ [] else [])
if_more true gs f = append-nil (gs ++ f ∷ []) ∙ ap (λ xs. xs ++ f ∷ []) (sym (append-nil gs))
if_more false gs f = refl

one_more : (b : Bool) (gs : List FrameField) (f : FrameField) → gs ++ ((if b then f ∷ [] else []) ++ []) ≡ (gs ++ []) ++ (if b then f ∷ [] else [])
one_more true gs f = ap (λ xs. xs ++ f ∷ []) (sym (append-nil gs))
one_more false gs f = sym (append-nil (gs ++ []))

field_fields : (k : ℕ) (ks : List ℕ) (f : FrameField) (ps : List SavedPart) → call_fields k (with_field ks f ps) ≡ call_fields k ps ++ (if is_one_of ks k then f ∷ [] else [])
field_fields k ks f [] = append-nil (if is_one_of ks k then f ∷ [] else [])
field_fields k ks f (at_every gs ∷ []) = one_more (is_one_of ks k) gs f
field_fields k ks f (at_these js gs ∷ []) = by (same_calls js ks) refl
  where
    by : (b : Bool) → same_calls js ks ≡ b → call_fields k (if b then at_these js (gs ++ f ∷ []) ∷ [] else at_these js gs ∷ at_these ks (f ∷ []) ∷ [])
        ≡ ((if is_one_of js k then gs else []) ++ []) ++ (if is_one_of ks k then f ∷ [] else [])
    by true e = if_more (is_one_of js k) gs f ∙ ap (λ is. ((if is_one_of js k then gs else []) ++ []) ++ (if is_one_of is k then f ∷ [] else [])) (calls_same js ks e)
    by false e = one_more (is_one_of ks k) (if is_one_of js k then gs else []) f
field_fields k ks f (at_every gs ∷ q ∷ ps) =
    ap (λ xs. gs ++ xs) (field_fields k ks f (q ∷ ps)) ∙ sym (append_assoc gs (call_fields k (q ∷ ps)) (if is_one_of ks k then f ∷ [] else []))
field_fields k ks f (at_these js gs ∷ q ∷ ps) =
    let own = if is_one_of js k then gs else [] in
    ap (λ xs. own ++ xs) (field_fields k ks f (q ∷ ps)) ∙ sym (append_assoc own (call_fields k (q ∷ ps)) (if is_one_of ks k then f ∷ [] else []))

kept_fields : (k : ℕ) (ks : List ℕ) (f : FrameField) (ps : List SavedPart) → call_fields k (with_kept ks f ps) ≡ call_fields k ps ++ (if is_one_of ks k then f ∷ [] else [])
kept_fields k [] f ps = sym (append-nil (call_fields k ps))
kept_fields k (j ∷ ks) f ps = field_fields k (j ∷ ks) f ps

-- the fields of the locals for which a test holds, from local x on
abbrev pub fields_where : (x : ℕ) → (ℕ → Bool) → List ValType → List FrameField
fields_where x keep [] = []
fields_where x keep (t ∷ ts) = kept_where (keep x) x t (fields_where (suc x) keep ts)

grouped_fields : (x : ℕ) (ts : List ValType) (rows : Rows) (ps : List SavedPart) (k : ℕ) → k < length rows
    → call_fields k (grouped x ts rows ps) ≡ call_fields k ps ++ fields_where x (λ y. keeps y (get_or rows k [])) ts
grouped_fields x [] rows ps k lt = sym (append-nil (call_fields k ps))
grouped_fields x (t ∷ ts) rows ps k lt =
    let ks = keepers x 0 rows in
    let z : 0 + k ≡ k = omega arith in
    grouped_fields (suc x) ts rows (with_kept ks (kept x t) ps) k lt
    ∙ ap (λ fs. fs ++ rest) (kept_fields k ks (kept x t) ps)
    ∙ ap (λ b. (call_fields k ps ++ (if b then kept x t ∷ [] else [])) ++ rest) (ap (is_one_of ks) (sym z) ∙ is_keeper x 0 rows k lt)
    ∙ by (keeps x (get_or rows k []))
  where
    rest : List FrameField
    rest = fields_where (suc x) (λ y. keeps y (get_or rows k [])) ts

    by : (b : Bool) → (call_fields k ps ++ (if b then kept x t ∷ [] else [])) ++ rest ≡ call_fields k ps ++ kept_where b x t rest
    by true = append_assoc (call_fields k ps) (kept x t ∷ []) rest
    by false = ap (λ fs. fs ++ rest) (append-nil (call_fields k ps))

-- ---- rows of sets

above : (y x : ℕ) (set : List Bool) (types : List ValType) → y < x → keeps y (fields_in x set types) ≡ false
above y x [] types lt = refl
above y x (b ∷ bs) [] lt = refl
above y x (b ∷ bs) (t ∷ ts) lt = by b (above y (suc x) bs ts (omega (arith, lt)))
  where
    by : (c : Bool) → keeps y (fields_in (suc x) bs ts) ≡ false → keeps y (kept_where c x t (fields_in (suc x) bs ts)) ≡ false
    by true ih = ap (λ c. c || keeps y (fields_in (suc x) bs ts)) (ne_eqb x y (λ e. absurd (omega (arith, e, lt)))) ∙ ih
    by false ih = ih

pub keeps_in : (x : ℕ) (set : List Bool) (types : List ValType) (i : ℕ) → i < length set → length set ≡ length types → keeps (x + i) (fields_in x set types) ≡ get_or set i false
keeps_in x [] types i lt e = absurd (omega (arith, lt))
keeps_in x (b ∷ bs) [] i lt e = absurd (omega (arith, e))
keeps_in x (b ∷ bs) (t ∷ ts) zero lt e = by b
  where
    by : (c : Bool) → keeps (x + 0) (kept_where c x t (fields_in (suc x) bs ts)) ≡ c
    by true = ap (λ c. c || keeps (x + 0) (fields_in (suc x) bs ts)) (eq-eqb x (x + 0) (omega arith))
    by false = above (x + 0) (suc x) bs ts (omega arith)
keeps_in x (b ∷ bs) (t ∷ ts) (suc i) lt e =
    let z : suc x + i ≡ x + suc i = omega arith in
    by b (ap (λ y. keeps y (fields_in (suc x) bs ts)) (sym z) ∙ keeps_in (suc x) bs ts i (omega (arith, lt)) (omega (arith, e)))
  where
    by : (c : Bool) → keeps (x + suc i) (fields_in (suc x) bs ts) ≡ get_or bs i false → keeps (x + suc i) (kept_where c x t (fields_in (suc x) bs ts)) ≡ get_or bs i false
    by true ih = ap (λ c. c || keeps (x + suc i) (fields_in (suc x) bs ts)) (ne_eqb x (x + suc i) (λ q. absurd (omega (arith, q)))) ∙ ih
    by false ih = ih

where_in : (x : ℕ) (set : List Bool) (types : List ValType) (keep : ℕ → Bool) → length set ≡ length types → ((i : ℕ) → i < length set → keep (x + i) ≡ get_or set i false)
    → fields_where x keep types ≡ fields_in x set types
where_in x [] [] keep e h = refl
where_in x [] (t ∷ ts) keep e h = absurd (omega (arith, e))
where_in x (b ∷ bs) [] keep e h = absurd (omega (arith, e))
where_in x (b ∷ bs) (t ∷ ts) keep e h =
    let z : x ≡ x + 0 = omega arith in
    ap (λ c. kept_where c x t (fields_where (suc x) keep ts)) (ap keep z ∙ h 0 (omega arith))
    ∙ ap (kept_where b x t) (where_in (suc x) bs ts keep (omega (arith, e)) (λ i lt. let n : suc x + i ≡ x + suc i = omega arith in ap keep n ∙ h (suc i) (omega (arith, lt))))

pub row_fields : (set : List Bool) (types : List ValType) → length set ≡ length types → fields_where 0 (λ y. keeps y (fields_in 0 set types)) types ≡ fields_in 0 set types
row_fields set types e = where_in 0 set types (λ y. keeps y (fields_in 0 set types)) e (λ i lt. keeps_in 0 set types i lt e)

pub groups_fields : (types : List ValType) (rows : Rows) (k : ℕ) → k < length rows → call_fields k (grouped 0 types rows []) ≡ fields_where 0 (λ y. keeps y (get_or rows k [])) types
groups_fields types rows k lt = grouped_fields 0 types rows [] k lt

-- ---- what all calls keep

pub shared_same : (n k : ℕ) (ps : List SavedPart) → AreGroups n ps → k < n → call_fields k (map (shared_where n) ps) ≡ call_fields k ps
shared_same n k [] g lt = refl
shared_same n k (at_every fs ∷ ps) g lt = absurd g
shared_same n k (at_these ks fs ∷ ps) g lt = by (nat_eq (length ks) n) refl (shared_same n k ps g.1 lt)
  where
    by : (b : Bool) → nat_eq (length ks) n ≡ b → call_fields k (map (shared_where n) ps) ≡ call_fields k ps
        → call_fields k ((if b then at_every fs else at_these ks fs) ∷ map (shared_where n) ps) ≡ (if is_one_of ks k then fs else []) ++ call_fields k ps
    by true e ih = ap (λ xs. fs ++ xs) ih ∙ ap (λ b. (if b then fs else []) ++ call_fields k ps) (sym (g.0.all (eqb-true (length ks) n e) k lt))
    by false e ih = ap (λ xs. (if is_one_of ks k then fs else []) ++ xs) ih

pub shared_below : (n : ℕ) (ps : List SavedPart) → AreGroups n ps → NumbersBelow n (map (shared_where n) ps)
shared_below n [] g = tt
shared_below n (at_every fs ∷ ps) g = absurd g
shared_below n (at_these ks fs ∷ ps) g = by (nat_eq (length ks) n) (shared_below n ps g.1)
  where
    by : (b : Bool) → NumbersBelow n (map (shared_where n) ps) → NumbersBelow n ((if b then at_every fs else at_these ks fs) ∷ map (shared_where n) ps)
    by true ih = ih
    by false ih = (g.0.below, ih)

pub shared_named : (n : ℕ) (ps : List SavedPart) → AreGroups n ps → NameCalls (map (shared_where n) ps)
shared_named n [] g = tt
shared_named n (at_every fs ∷ ps) g = absurd g
shared_named n (at_these ks fs ∷ ps) g = by (nat_eq (length ks) n) (shared_named n ps g.1)
  where
    by : (b : Bool) → NameCalls (map (shared_where n) ps) → NameCalls ((if b then at_every fs else at_these ks fs) ∷ map (shared_where n) ps)
    by true ih = ih
    by false ih = (g.0.some, ih)
