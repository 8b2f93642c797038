-- Classes found by their sets, set by set.
use Rattle.std.proofs.Common.{◌≡◌, ℕ, zero, suc, ◌+◌, ◌<◌, ◌≤◌, List, [], ◌∷◌, ◌++◌, length, take, get_or, Bool, true, false, cond, Option, Some, None, refl, sym, ap, ◌∙◌, subst, arith, eqb-true, ◌==◌}
use Rattle.std.specs.Prelude.{if◌then◌else◌, slice_set, Vec}
use Rattle.std.specs.declared.alloc.Global.{Global}
use Rattle.std.specs.Borrow.{Bor}
use Rattle.std.specs.BTreeMap.{BTreeMap, UpdatesBy, is_at}
use Rattle.std.specs.Cmp.Lexicographic.{slice_cmp}
use Rattle.std.specs.Map.{lookup}
use Rattle.std.specs.Ordering.{bool_cmp, is_eq}
use Rattle.std.proofs.lemmas.Bool.{eqb-false}
use Rattle.std.proofs.lemmas.List.{map_more, map-append, take_more, take_all, length-take-le, length-map}
use Rattle.wa_types.specs.declared.values.ValType.{ValType}
use Rattle.frame_laws.specs.Layout.{FrameField, kept, kept_count}
use Rattle.call_frames.specs.PlainFrames.{SavedPart, at_these}
use Rattle.call_frames.specs.declared.frames.CallClass.{CallClass}
use Rattle.call_frames.specs.declared.frames.KeptLocal.{KeptLocal}
use Rattle.call_frames.specs.Classes.{KeepByClasses, HasFields, with_call, found_at, Finds, KeepsMore}
use Rattle.call_frames.specs.Views.{kept_field, fields_of, class_part, class_parts, kept_where, fields_in, sets_of}
use Rattle.call_frames.proofs.ClassLemmas.{has_with, has_join, has_last}

-- ---- sets in order

pub same_set : (xs ys : List Bool) → is_eq (slice_cmp bool_cmp xs ys) ≡ true → xs ≡ ys
same_set [] [] e = refl
same_set [] (y ∷ ys) e = let no : ⊥ = cc in absurd no
same_set (x ∷ xs) [] e = let no : ⊥ = cc in absurd no
same_set (true ∷ xs) (true ∷ ys) e = ap (λ zs. true ∷ zs) (same_set xs ys e)
same_set (false ∷ xs) (false ∷ ys) e = ap (λ zs. false ∷ zs) (same_set xs ys e)
same_set (true ∷ xs) (false ∷ ys) e = let no : ⊥ = cc in absurd no
same_set (false ∷ xs) (true ∷ ys) e = let no : ⊥ = cc in absurd no

pub none_some : {X : Type 0} (o : Option X) (x : X) → o ≡ None → o ≡ Some x → ⊥
none_some None x e h = cc
none_some (Some y) x e h = cc

pub finds_none : (types : List ValType) (found : BTreeMap (Bor (List Bool)) ℕ) (ps : List SavedPart) → found.entries ≡ [] → Finds types found ps
finds_none types found ps e q n h =
    absurd (none_some (found_at found q) n (ap (lookup (is_at (λ (k : Bor (List Bool)). slice_cmp bool_cmp q.now k.now))) e) h)

pub finds_with : (types : List ValType) (found : BTreeMap (Bor (List Bool)) ℕ) (ps : List SavedPart) (c n : ℕ) → Finds types found ps → Finds types found (with_call c n ps)
finds_with types found ps c n f q m h = has_with c n m ps (fields_in 0 q.now types) (f q m h)

pub finds_new : (types : List ValType) (old new : BTreeMap (Bor (List Bool)) ℕ) (set : Bor (List Bool)) (ps : List SavedPart) (ks : List ℕ) (fs : List FrameField) (n : ℕ) → n ≡ length ps
    → fs ≡ fields_in 0 set.now types → 1 ≤ kept_count fs
    → UpdatesBy (λ (x y : Bor (List Bool)). slice_cmp bool_cmp x.now y.now) (λ (k : Bor (List Bool)). slice_cmp bool_cmp set.now k.now) old new (Some n)
    → Finds types old ps → Finds types new (ps ++ at_these ks fs ∷ [])
finds_new types old new set ps ks fs n at e some u f q m h = by (is_eq (slice_cmp bool_cmp set.now q.now)) refl (sym (u.0 q) ∙ h)
  where
    some_is : (a b : ℕ) → Some a ≡ Some b → a ≡ b
    some_is a b s = cc

    by : (b : Bool) → is_eq (slice_cmp bool_cmp set.now q.now) ≡ b → cond b (Some n) (found_at old q) ≡ Some m → HasFields m (ps ++ at_these ks fs ∷ []) (fields_in 0 q.now types)
    by true same is =
        subst (λ k. HasFields k (ps ++ at_these ks fs ∷ []) (fields_in 0 q.now types)) (sym at ∙ some_is n m is)
        (has_last ps ks fs (fields_in 0 q.now types) (e ∙ ap (λ s. fields_in 0 s types) (same_set set.now q.now same)) some)
    by false same is = has_join m ps (at_these ks fs ∷ []) (fields_in 0 q.now types) (f q m is)

-- ---- classes of the program

pub has_within : (n : ℕ) (cs : List CallClass) (gs : List FrameField) → HasFields n (class_parts cs) gs → n < length cs
has_within n [] gs h = absurd h
has_within zero (c ∷ cs) gs h = omega arith
has_within (suc n) (c ∷ cs) gs h = let ih = has_within n cs gs h in omega arith

pub class_with : (cs : List CallClass) (i n : ℕ) (d x : CallClass) → i < length cs → x.calls ≡ (get_or cs i d).calls ++ n ∷ [] → x.fields ≡ (get_or cs i d).fields
    → class_parts (slice_set cs i x) ≡ with_call i n (class_parts cs)
class_with [] i n d x lt ec ef = absurd (omega (arith, lt))
class_with (c ∷ cs) zero n d x lt ec ef =
    ap (λ ks. at_these ks (fields_of x.fields.items) ∷ class_parts cs) ec ∙ ap (λ fs. at_these (c.calls ++ n ∷ []) (fields_of fs.items) ∷ class_parts cs) ef
class_with (c ∷ cs) (suc i) n d x lt ec ef = ap (λ ps. class_part c ∷ ps) (class_with cs i n d x (omega (arith, lt)) ec ef)

-- ---- fields of a set

fields_more : (x : ℕ) (bs : List Bool) (b : Bool) (ts : List ValType) (d : ValType) → length bs < length ts
    → fields_in x (bs ++ b ∷ []) ts ≡ fields_in x bs ts ++ kept_where b (x + length bs) (get_or ts (length bs) d) []
fields_more x bs b [] d lt = absurd (omega (arith, lt))
fields_more x [] b (t ∷ ts) d lt = let z : x ≡ x + 0 = omega arith in ap (λ y. kept_where b y t []) z
fields_more x (c ∷ bs) b (t ∷ ts) d lt =
    let z : suc x + length bs ≡ x + suc (length bs) = omega arith in
    by c (fields_more (suc x) bs b ts d (omega (arith, lt)) ∙ ap (λ y. fields_in (suc x) bs ts ++ kept_where b y (get_or ts (length bs) d) []) z)
  where
    by : (e : Bool) → fields_in (suc x) (bs ++ b ∷ []) ts ≡ fields_in (suc x) bs ts ++ kept_where b (x + suc (length bs)) (get_or ts (length bs) d) []
        → kept_where e x t (fields_in (suc x) (bs ++ b ∷ []) ts) ≡ kept_where e x t (fields_in (suc x) bs ts) ++ kept_where b (x + suc (length bs)) (get_or ts (length bs) d) []
    by true ih = ap (λ fs. kept x t ∷ fs) ih
    by false ih = ih

one_field : (b : Bool) (k : KeptLocal) → fields_of (if b then k ∷ [] else []) ≡ kept_where b k.local k.ty []
one_field true k = refl
one_field false k = refl

pub kept_step : (old new : List KeptLocal) (k : KeptLocal) (set : List Bool) (types : List ValType) (i : ℕ) (e : Bool) (d : ValType) → i < length set → length set ≡ length types
    → new ≡ old ++ (if get_or set i e then k ∷ [] else []) → k.local ≡ i → k.ty ≡ get_or types i d → fields_of old ≡ fields_in 0 (take i set) types
    → fields_of new ≡ fields_in 0 (take (i + 1) set) types
kept_step old new k set types i e d lt size is el et before =
    let b = get_or set i e in
    let n : length (take i set) ≡ i = length-take-le i set (omega arith) in
    let z : k.local ≡ 0 + length (take i set) = omega arith in
    let t : k.ty ≡ get_or types (length (take i set)) d = et ∙ ap (λ j. get_or types j d) (sym n) in
    ap fields_of is ∙ map-append kept_field old (if b then k ∷ [] else []) ∙ ap (λ fs. fs ++ fields_of (if b then k ∷ [] else [])) before
    ∙ ap (λ gs. fields_in 0 (take i set) types ++ gs) (one_field b k ∙ ap (λ y. kept_where b y k.ty []) z ∙ ap (λ u. kept_where b (0 + length (take i set)) u []) t)
    ∙ sym (fields_more 0 (take i set) b types d (omega (arith, n, lt, size)))
    ∙ ap (λ s. fields_in 0 s types) (sym (take_more set i e lt))

pub kept_end : (new : List KeptLocal) (set : List Bool) (types : List ValType) (i : ℕ) → length set ≤ i → fields_of new ≡ fields_in 0 (take i set) types → fields_of new ≡ fields_in 0 set types
kept_end new set types i le h = h ∙ ap (λ s. fields_in 0 s types) (take_all i set le)

fields_few : (x : ℕ) (set : List Bool) (types : List ValType) → length (fields_in x set types) ≤ length types
fields_few x [] types = omega arith
fields_few x (b ∷ bs) [] = omega arith
fields_few x (b ∷ bs) (t ∷ ts) = by b (fields_few (suc x) bs ts)
  where
    by : (c : Bool) → length (fields_in (suc x) bs ts) ≤ length ts → length (kept_where c x t (fields_in (suc x) bs ts)) ≤ suc (length ts)
    by true h = omega arith
    by false h = omega arith

pub kept_few : (ks : List KeptLocal) (set : List Bool) (types : List ValType) → fields_of ks ≡ fields_in 0 set types → length ks ≤ length types
kept_few ks set types e = let l = length-map ks kept_field in let f = fields_few 0 set types in let n = ap length e in omega arith

pub all_kept : (ks : List KeptLocal) → kept_count (fields_of ks) ≡ length ks
all_kept [] = refl
all_kept (k ∷ ks) = ap suc (all_kept ks)

-- fields as the program has them: none, or some
pub no_fields : (v : Vec KeptLocal Global) (set : List Bool) (types : List ValType) (r : Bool) → r ≡ (v.len == 0) → r ≡ true → fields_of v.items ≡ fields_in 0 set types → fields_in 0 set types ≡ []
no_fields v set types r e t h =
    let n : v.len ≡ 0 = eqb-true v.len 0 (sym e ∙ t) in
    let l : length v.items ≡ 0 = sym v.ok.0 ∙ n in
    sym h ∙ by v.items l
  where
    by : (ks : List KeptLocal) → length ks ≡ 0 → fields_of ks ≡ []
    by [] k = refl
    by (x ∷ ks) k = absurd (omega (arith, k))

pub some_fields : (v : Vec KeptLocal Global) (r : Bool) → r ≡ (v.len == 0) → r ≡ false → 1 ≤ kept_count (fields_of v.items)
some_fields v r e f =
    by (length v.items) refl
  where
    by : (m : ℕ) → length v.items ≡ m → 1 ≤ kept_count (fields_of v.items)
    by zero q = absurd (eqb-false v.len 0 (sym e ∙ f) (v.ok.0 ∙ q))
    by (suc m) q = let k = all_kept v.items in omega arith

pub parts_count : (v : Vec CallClass Global) (n : ℕ) → n ≡ v.len → n ≡ length (class_parts v.items)
parts_count v n e = e ∙ v.ok.0 ∙ sym (length-map v.items class_part)

-- ---- sets of calls

pub sets_next : (types : List ValType) (sets : List (Vec Bool Global)) (i : ℕ) (d : Vec Bool Global) (set : List Bool) (old new : List SavedPart) → i < length sets → set ≡ (get_or sets i d).items
    → KeepByClasses types (sets_of (take i sets)) old → KeepsMore types i set old new → KeepByClasses types (sets_of (take (i + 1) sets)) new
sets_next types sets i d set old new lt e h more =
    let n : length (sets_of (take i sets)) ≡ i = length-map (take i sets) (λ (s : Vec Bool Global). s.items) ∙ length-take-le i sets (omega arith) in
    subst (λ ss. KeepByClasses types ss new)
    (ap (λ s. sets_of (take i sets) ++ s ∷ []) e ∙ sym (map_more (λ (s : Vec Bool Global). s.items) sets i d lt))
    (more (sets_of (take i sets)) n h)

pub sets_end : (types : List ValType) (sets : List (Vec Bool Global)) (i : ℕ) (ps : List SavedPart) → length sets ≤ i → KeepByClasses types (sets_of (take i sets)) ps
    → KeepByClasses types (sets_of sets) ps
sets_end types sets i ps le h = subst (λ ss. KeepByClasses types (sets_of ss) ps) (take_all i sets le) h

pub sets_none : (types : List ValType) → KeepByClasses types [] []
sets_none types = record { keep = record { fields = λ k lt. absurd (omega (arith, lt)); below = tt; named = tt }; numbers = omega arith; size = omega arith }
