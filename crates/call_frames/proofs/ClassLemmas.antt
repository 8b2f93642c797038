-- Classes that keep the sets of calls, with one more call.
use Rattle.std.proofs.Common.{◌≡◌, ℕ, zero, suc, ◌+◌, ◌<◌, ◌≤◌, ◌⊎◌, List, [], ◌∷◌, ◌++◌, length, get_or, Bool, true, false, nat_eq, refl, sym, ap, ◌∙◌, subst, arith, ⊎_elim, eq-eqb, length-append}
use Rattle.std.specs.Prelude.{◌||◌, if◌then◌else◌}
use Rattle.std.proofs.lemmas.Bool.{ne_eqb}
use Rattle.std.proofs.lemmas.List.{append-nil, append_assoc, get_or_append_left, get_or_at}
use Rattle.wa_types.specs.declared.values.ValType.{ValType}
use Rattle.frame_laws.specs.Layout.{FrameField, kept_count}
use Rattle.call_frames.specs.PlainFrames.{SavedPart, at_every, at_these, is_one_of, call_fields}
use Rattle.call_frames.specs.PlainLaws.{NameCalls, named_calls}
use Rattle.call_frames.specs.declared.frames.CallClass.{CallClass}
use Rattle.call_frames.specs.Classes.{AllBelow, NumbersBelow, KeepByClasses, named_length, HasFields, with_call}
use Rattle.call_frames.specs.Views.{class_parts, fields_in, kept_total}

-- no part is kept by all calls
abbrev pub OnlyThese : List SavedPart → Type 0
OnlyThese [] = Unit {0}
OnlyThese (at_every fs ∷ ps) = ⊥
OnlyThese (at_these ks fs ∷ ps) = OnlyThese ps

pub classes_only : (cs : List CallClass) → OnlyThese (class_parts cs)
classes_only [] = tt
classes_only (c ∷ cs) = classes_only cs

-- ---- names

past : (a b c : Bool) → (a || (b || c)) ≡ ((a || b) || c)
past true b c = refl
past false b c = refl

one_named : (ks : List ℕ) (n k : ℕ) → is_one_of (ks ++ n ∷ []) k ≡ (is_one_of ks k || nat_eq k n)
one_named [] n k = by (nat_eq k n)
  where
    by : (b : Bool) → (b || false) ≡ (false || b)
    by true = refl
    by false = refl
one_named (j ∷ ks) n k = ap (λ b. nat_eq k j || b) (one_named ks n k) ∙ past (nat_eq k j) (is_one_of ks k) (nat_eq k n)

not_below : (n : ℕ) (ks : List ℕ) (k : ℕ) → AllBelow n ks → n ≤ k → is_one_of ks k ≡ false
not_below n [] k h le = refl
not_below n (j ∷ ks) k h le =
    let ne : nat_eq k j ≡ false = ne_eqb k j (λ e. absurd (omega (arith, e, h.0, le))) in
    ap (λ b. b || is_one_of ks k) ne ∙ not_below n ks k h.1 le

all_wider : (n : ℕ) (ks : List ℕ) → AllBelow n ks → AllBelow (n + 1) ks
all_wider n [] h = tt
all_wider n (k ∷ ks) h = (omega (arith, h.0), all_wider n ks h.1)

all_more : (n : ℕ) (ks : List ℕ) → AllBelow n ks → AllBelow (n + 1) (ks ++ n ∷ [])
all_more n [] h = (omega arith, tt)
all_more n (k ∷ ks) h = (omega (arith, h.0), all_more n ks h.1)

pub below_wider : (n : ℕ) (ps : List SavedPart) → NumbersBelow n ps → NumbersBelow (n + 1) ps
below_wider n [] h = tt
below_wider n (at_every fs ∷ ps) h = below_wider n ps h
below_wider n (at_these ks fs ∷ ps) h = (all_wider n ks h.0, below_wider n ps h.1)

-- a call that no part names keeps nothing
none_at : (n k : ℕ) (ps : List SavedPart) → OnlyThese ps → NumbersBelow n ps → n ≤ k → call_fields k ps ≡ []
none_at n k [] o h le = refl
none_at n k (at_every fs ∷ ps) o h le = absurd o
none_at n k (at_these ks fs ∷ ps) o h le =
    ap (λ b. (if b then fs else []) ++ call_fields k ps) (not_below n ks k h.0 le) ∙ none_at n k ps o h.1 le

-- ---- one more call of a part

others_stay : (c n k : ℕ) (ps : List SavedPart) → nat_eq k n ≡ false → call_fields k (with_call c n ps) ≡ call_fields k ps
others_stay c n k [] e = refl
others_stay zero n k (at_every fs ∷ ps) e = refl
others_stay zero n k (at_these ks fs ∷ ps) e =
    ap (λ b. (if b then fs else []) ++ call_fields k ps) (one_named ks n k ∙ ap (λ b. is_one_of ks k || b) e ∙ by (is_one_of ks k))
  where
    by : (b : Bool) → (b || false) ≡ b
    by true = refl
    by false = refl
others_stay (suc c) n k (at_every fs ∷ ps) e = ap (λ gs. fs ++ gs) (others_stay c n k ps e)
others_stay (suc c) n k (at_these ks fs ∷ ps) e = ap (λ gs. (if is_one_of ks k then fs else []) ++ gs) (others_stay c n k ps e)

it_keeps : (c n : ℕ) (ps : List SavedPart) (gs : List FrameField) → OnlyThese ps → NumbersBelow n ps → HasFields c ps gs → call_fields n (with_call c n ps) ≡ gs
it_keeps c n [] gs o h has = absurd has
it_keeps zero n (at_every fs ∷ ps) gs o h has = absurd o
it_keeps zero n (at_these ks fs ∷ ps) gs o h has =
    let named : is_one_of (ks ++ n ∷ []) n ≡ true = one_named ks n n ∙ ap (λ b. is_one_of ks n || b) (eq-eqb n n refl) ∙ by (is_one_of ks n) in
    ap (λ b. (if b then fs else []) ++ call_fields n ps) named ∙ ap (λ zs. fs ++ zs) (none_at n n ps o h.1 (omega arith)) ∙ append-nil fs ∙ has.0
  where
    by : (b : Bool) → (b || true) ≡ true
    by true = refl
    by false = refl
it_keeps (suc c) n (at_every fs ∷ ps) gs o h has = absurd o
it_keeps (suc c) n (at_these ks fs ∷ ps) gs o h has =
    ap (λ b. (if b then fs else []) ++ call_fields n (with_call c n ps)) (not_below n ks n h.0 (omega arith)) ∙ it_keeps c n ps gs o h.1 has

below_with : (c n : ℕ) (ps : List SavedPart) → NumbersBelow n ps → NumbersBelow (n + 1) (with_call c n ps)
below_with c n [] h = tt
below_with zero n (at_every fs ∷ ps) h = below_wider n ps h
below_with zero n (at_these ks fs ∷ ps) h = (all_more n ks h.0, below_wider n ps h.1)
below_with (suc c) n (at_every fs ∷ ps) h = below_with c n ps h
below_with (suc c) n (at_these ks fs ∷ ps) h = (all_wider n ks h.0, below_with c n ps h.1)

named_with : (c n : ℕ) (ps : List SavedPart) → NameCalls ps → NameCalls (with_call c n ps)
named_with c n [] h = tt
named_with zero n (at_every fs ∷ ps) h = h
named_with zero n (at_these ks fs ∷ ps) h = let l = length-append ks (n ∷ []) in (omega arith, h.1)
named_with (suc c) n (at_every fs ∷ ps) h = named_with c n ps h
named_with (suc c) n (at_these ks fs ∷ ps) h = (h.0, named_with c n ps h.1)

calls_with : (c n : ℕ) (ps : List SavedPart) → named_calls (with_call c n ps) ≤ named_calls ps + 1
calls_with c n [] = omega arith
calls_with zero n (at_every fs ∷ ps) = omega arith
calls_with zero n (at_these ks fs ∷ ps) = let l = length-append ks (n ∷ []) in omega arith
calls_with (suc c) n (at_every fs ∷ ps) = calls_with c n ps
calls_with (suc c) n (at_these ks fs ∷ ps) = let ih = calls_with c n ps in omega arith

size_with : (c n : ℕ) (ps : List SavedPart) → named_length (with_call c n ps) ≤ named_length ps + 12
size_with c n [] = omega arith
size_with zero n (at_every fs ∷ ps) = omega arith
size_with zero n (at_these ks fs ∷ ps) = let l = length-append ks (n ∷ []) in omega (arith, l)
size_with (suc c) n (at_every fs ∷ ps) = let ih = size_with c n ps in omega (arith, ih)
size_with (suc c) n (at_these ks fs ∷ ps) = let ih = size_with c n ps in omega (arith, ih)

pub has_with : (c n m : ℕ) (ps : List SavedPart) (gs : List FrameField) → HasFields m ps gs → HasFields m (with_call c n ps) gs
has_with c n m [] gs h = h
has_with zero n m (at_every fs ∷ ps) gs h = h
has_with zero n zero (at_these ks fs ∷ ps) gs h = h
has_with zero n (suc m) (at_these ks fs ∷ ps) gs h = h
has_with (suc c) n zero (at_every fs ∷ ps) gs h = h
has_with (suc c) n zero (at_these ks fs ∷ ps) gs h = h
has_with (suc c) n (suc m) (at_every fs ∷ ps) gs h = has_with c n m ps gs h
has_with (suc c) n (suc m) (at_these ks fs ∷ ps) gs h = has_with c n m ps gs h

pub has_some : (c : ℕ) (ps : List SavedPart) (gs : List FrameField) → HasFields c ps gs → 1 ≤ kept_count gs
has_some c [] gs h = absurd h
has_some zero (at_every fs ∷ ps) gs h = absurd h
has_some zero (at_these ks fs ∷ ps) gs h = subst (λ hs. 1 ≤ kept_count hs) h.0 h.1
has_some (suc c) (at_every fs ∷ ps) gs h = has_some c ps gs h
has_some (suc c) (at_these ks fs ∷ ps) gs h = has_some c ps gs h

-- ---- one more part

fields_join : (k : ℕ) (ps qs : List SavedPart) → call_fields k (ps ++ qs) ≡ call_fields k ps ++ call_fields k qs
fields_join k [] qs = refl
fields_join k (at_every fs ∷ ps) qs = ap (λ gs. fs ++ gs) (fields_join k ps qs) ∙ sym (append_assoc fs (call_fields k ps) (call_fields k qs))
fields_join k (at_these ks fs ∷ ps) qs =
    let own = if is_one_of ks k then fs else [] in
    ap (λ gs. own ++ gs) (fields_join k ps qs) ∙ sym (append_assoc own (call_fields k ps) (call_fields k qs))

below_join : (n : ℕ) (ps qs : List SavedPart) → NumbersBelow n ps → NumbersBelow n qs → NumbersBelow n (ps ++ qs)
below_join n [] qs h g = g
below_join n (at_every fs ∷ ps) qs h g = below_join n ps qs h g
below_join n (at_these ks fs ∷ ps) qs h g = (h.0, below_join n ps qs h.1 g)

named_join : (ps qs : List SavedPart) → NameCalls ps → NameCalls qs → NameCalls (ps ++ qs)
named_join [] qs h g = g
named_join (at_every fs ∷ ps) qs h g = named_join ps qs h g
named_join (at_these ks fs ∷ ps) qs h g = (h.0, named_join ps qs h.1 g)

calls_join : (ps qs : List SavedPart) → named_calls (ps ++ qs) ≡ named_calls ps + named_calls qs
calls_join [] qs = omega arith
calls_join (at_every fs ∷ ps) qs = calls_join ps qs
calls_join (at_these ks fs ∷ ps) qs = let ih = calls_join ps qs in omega arith

size_join : (ps qs : List SavedPart) → named_length (ps ++ qs) ≡ named_length ps + named_length qs
size_join [] qs = omega arith
size_join (at_every fs ∷ ps) qs = let ih = size_join ps qs in omega (arith, ih)
size_join (at_these ks fs ∷ ps) qs = let ih = size_join ps qs in omega (arith, ih)

pub has_join : (m : ℕ) (ps qs : List SavedPart) (gs : List FrameField) → HasFields m ps gs → HasFields m (ps ++ qs) gs
has_join m [] qs gs h = absurd h
has_join zero (at_every fs ∷ ps) qs gs h = h
has_join zero (at_these ks fs ∷ ps) qs gs h = h
has_join (suc m) (at_every fs ∷ ps) qs gs h = has_join m ps qs gs h
has_join (suc m) (at_these ks fs ∷ ps) qs gs h = has_join m ps qs gs h

pub has_last : (ps : List SavedPart) (ks : List ℕ) (fs gs : List FrameField) → fs ≡ gs → 1 ≤ kept_count fs → HasFields (length ps) (ps ++ at_these ks fs ∷ []) gs
has_last [] ks fs gs e le = (e, le)
has_last (at_every f ∷ ps) ks fs gs e le = has_last ps ks fs gs e le
has_last (at_these j f ∷ ps) ks fs gs e le = has_last ps ks fs gs e le

-- ---- sets

total_more : (types : List ValType) (sets : List (List Bool)) (set : List Bool) → kept_total types (sets ++ set ∷ []) ≡ kept_total types sets + kept_count (fields_in 0 set types)
total_more types [] set = omega arith
total_more types (s ∷ sets) set = let ih = total_more types sets set in omega arith

module _ (types : List ValType) (sets : List (List Bool)) (set : List Bool) where
  abbrev n : ℕ
  n = length sets

  abbrev gs : List FrameField
  gs = fields_in 0 set types

  -- what holds of the calls so far, and of the next one
  each_more : (new : List SavedPart) → ((k : ℕ) → k < n → call_fields k new ≡ fields_in 0 (get_or sets k []) types) → call_fields n new ≡ gs
      → (k : ℕ) → k < length (sets ++ set ∷ []) → call_fields k new ≡ fields_in 0 (get_or (sets ++ set ∷ []) k []) types
  each_more new before last k lt = ⊎_elim earlier this cases
    where
      cases : (k < n) ⊎ (k ≡ n)
      cases = let l = length-append sets (set ∷ []) in grind arith

      earlier : k < n → call_fields k new ≡ fields_in 0 (get_or (sets ++ set ∷ []) k []) types
      earlier h = before k h ∙ ap (λ s. fields_in 0 s types) (sym (get_or_append_left sets (set ∷ []) [] k h))

      this : k ≡ n → call_fields k new ≡ fields_in 0 (get_or (sets ++ set ∷ []) k []) types
      this e = ap (λ i. call_fields i new) e ∙ last ∙ ap (λ s. fields_in 0 s types) (sym (get_or_at sets set [] [] k (sym e)))

  pub keep_with : (c : ℕ) (ps : List SavedPart) → OnlyThese ps → HasFields c ps gs → KeepByClasses types sets ps → KeepByClasses types (sets ++ set ∷ []) (with_call c n ps)
  keep_with c ps o has h =
      let l = length-append sets (set ∷ []) in
      let t = total_more types sets set in
      let some = has_some c ps gs has in
      let m = calls_with c n ps in
      let s = size_with c n ps in
      let few = h.numbers in
      let small = h.size in
      record {
        keep = record {
          fields = each_more (with_call c n ps) (λ k lt. others_stay c n k ps (ne_eqb k n (λ e. absurd (omega (arith, e, lt)))) ∙ h.keep.fields k lt) (it_keeps c n ps gs o h.keep.below has);
          below = subst (λ i. NumbersBelow i (with_call c n ps)) (sym l) (below_with c n ps h.keep.below);
          named = named_with c n ps h.keep.named;
        };
        numbers = omega arith;
        size = omega arith;
      }

  pub keep_new : (fs : List FrameField) (ps : List SavedPart) → OnlyThese ps → fs ≡ gs → 1 ≤ kept_count fs → KeepByClasses types sets ps
      → KeepByClasses types (sets ++ set ∷ []) (ps ++ at_these (n ∷ []) fs ∷ [])
  keep_new fs ps o e some h =
      let one : List SavedPart = at_these (n ∷ []) fs ∷ [] in
      let l = length-append sets (set ∷ []) in
      let t = total_more types sets set in
      let m = calls_join ps one in
      let s = size_join ps one in
      let few = h.numbers in
      let small = h.size in
      let same : kept_count fs ≡ kept_count gs = ap kept_count e in
      record {
        keep = record {
          fields = each_more (ps ++ one)
              (λ k lt. fields_join k ps one ∙ ap (λ b. call_fields k ps ++ ((if b then fs else []) ++ [])) (ap (λ b. b || false) (ne_eqb k n (λ q. absurd (omega (arith, q, lt)))))
              ∙ append-nil (call_fields k ps) ∙ h.keep.fields k lt)
              (fields_join n ps one ∙ ap (λ xs. xs ++ call_fields n one) (none_at n n ps o h.keep.below (omega arith))
              ∙ ap (λ b. (if b then fs else []) ++ []) (ap (λ b. b || false) (eq-eqb n n refl)) ∙ append-nil fs ∙ e);
          below = subst (λ i. NumbersBelow i (ps ++ one)) (sym l) (below_join (n + 1) ps one (below_wider n ps h.keep.below) ((omega arith, tt), tt));
          named = named_join ps one h.keep.named (omega arith, tt);
        };
        numbers = omega arith;
        size = omega arith;
      }

  pub keep_none : (ps : List SavedPart) → OnlyThese ps → gs ≡ [] → KeepByClasses types sets ps → KeepByClasses types (sets ++ set ∷ []) ps
  keep_none ps o e h =
      let l = length-append sets (set ∷ []) in
      let t = total_more types sets set in
      let few = h.numbers in
      let small = h.size in
      record {
        keep = record {
          fields = each_more ps h.keep.fields (none_at n n ps o h.keep.below (omega arith) ∙ sym e);
          below = subst (λ i. NumbersBelow i ps) (sym l) (below_wider n ps h.keep.below);
          named = h.keep.named;
        };
        numbers = omega arith;
        size = omega arith;
      }
