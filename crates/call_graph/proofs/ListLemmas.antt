-- What a text spells as a list of imports, and what an entry names.
use Rattle.std.proofs.Common.{arith, ◌≡◌, ◌≢◌, ℕ, zero, suc, ◌+◌, ◌-◌, ◌<◌, ◌≤◌, List, [], ◌∷◌, ◌++◌, map, length, take, drop, get_or, Bool, true, false, ◌||◌, cond, if◌then◌else◌, nat_eq, eqb, Option, Some, None, Result, Ok, Err, refl, sym, ap, ◌∙◌, append_assoc}
use Rattle.std.specs.Prelude.{◌==◌, MatchBool, MatchOption}
use Rattle.std.specs.Borrow.{Bor}
use Rattle.call_graph.specs.Lists.{IsBehind}
use Rattle.std.specs.Bool.{Decides}
use Rattle.std.specs.List.{list_any, starts_with, slice_split, onto_first as std_onto_first}
use Rattle.std.specs.Cmp.Lexicographic.{pointwise, bytes_decides}
use Rattle.std.specs.Str.Pattern.{FindsChar}
use Rattle.std.proofs.lemmas.Bool.{and_parts}
use Rattle.std.proofs.lemmas.Bool.Decides.{Decides-eqb, same_from_decides}
use Rattle.std.proofs.lemmas.Slice.Eq.{starts_is}
use Rattle.std.proofs.lemmas.List.{take_more, take_all, length-append, take-append-le, append_cancel_left, append-nil}
use Rattle.std.proofs.lemmas.List.Folds.{list_any-append, list_any_at, Any-from_list_any}
use Rattle.std.proofs.lemmas.Str.Pattern.{contains_char}
use Rattle.wa_types.specs.Pausing.{Entry, beginning, exactly, ListError, star_inside, no_dot, onto_first, pieces, has_byte, all_but_last, entry_without_star, entry_of, onto_entries, entry_onto, entries_of, names}

-- ---- bytes of a text

any_at : (c : ℕ) (bs : List ℕ) → has_byte c bs ≡ true → (k : ℕ) × (k < length bs) × (get_or bs k 0 ≡ c)
any_at c bs h =
    let a = Any-from_list_any (λ b. b == c) bs h in
    let at : get_or bs a.0 0 ≡ a.1 = get_or_any bs a.0 a.1 a.2 a.3 in
    (a.0, a.2, at ∙ (Decides-eqb a.1 c).0 a.4)
  where
    get_or_any : (xs : List ℕ) (k x : ℕ) → k < length xs → get_or xs k x ≡ x → get_or xs k 0 ≡ x
    get_or_any [] k x lt e = absurd (omega (arith, lt))
    get_or_any (y ∷ ys) zero x lt e = e
    get_or_any (y ∷ ys) (suc k) x lt e = get_or_any ys k x (omega (arith, lt)) e

at_any : (c k : ℕ) (bs : List ℕ) → k < length bs → get_or bs k 0 ≡ c → has_byte c bs ≡ true
at_any c k bs lt e = list_any_at (λ b. b == c) bs k 0 lt ((Decides-eqb (get_or bs k 0) c).1 e)

-- what `contains` answers of an ASCII character
pub contains_is : (c : ℕ) (bs : List ℕ) (r : Bool) → MatchBool r ((i : ℕ) × (j : ℕ) × FindsChar c bs (Some (i, j)) × (i ≤ j) × (j ≤ length bs)) (FindsChar c bs None) → c < 128 → has_byte c bs ≡ r
contains_is c bs true m lt =
    let f = (contains_char c bs true m lt).0 refl in
    at_any c f.0 bs f.1 f.2
contains_is c bs false m lt = by_test (has_byte c bs) refl
  where
    by_test : (t : Bool) → has_byte c bs ≡ t → has_byte c bs ≡ false
    by_test true e =
        let a = any_at c bs e in
        let bad : false ≡ true = (contains_char c bs false m lt).1 a.0 a.1 a.2 in
        absurd (cc)
    by_test false e = e

-- ---- an entry

entry_some : (t : List ℕ) → 0 < length t → entry_of t ≡ (if has_byte 42 (all_but_last t) then Err star_inside else (if has_byte 42 t then Ok (beginning (all_but_last t)) else entry_without_star t))
entry_some [] h = absurd (omega (arith, h))
entry_some (b ∷ bs) h = refl

last_of : (t : List ℕ) → 0 < length t → (x : ℕ) × (t ≡ all_but_last t ++ x ∷ [])
last_of t h =
    let n = length t - 1 in
    let le : length t ≤ n + 1 = omega arith in
    (get_or t n 0, sym (take_all (n + 1) t le) ∙ take_more t n 0 (omega arith))

or_true : (b : Bool) → (b || true) ≡ true
or_true true = refl
or_true false = refl

or_false : (b : Bool) → (b || false) ≡ b
or_false true = refl
or_false false = refl

starred_front : (bs : List ℕ) → all_but_last (bs ++ 42 ∷ []) ≡ bs
starred_front bs =
    let n : length (bs ++ 42 ∷ []) - 1 ≡ length bs = omega (arith, length-append bs (42 ∷ [])) in
    ap (λ k. take k (bs ++ 42 ∷ [])) n ∙ take-append-le (length bs) bs (42 ∷ []) (omega arith) ∙ take_all (length bs) bs (omega arith)

starred_has : (bs : List ℕ) → has_byte 42 (bs ++ 42 ∷ []) ≡ true
starred_has bs = list_any-append (λ c. c == 42) bs (42 ∷ []) ∙ or_true (has_byte 42 bs)

starred_some : (bs : List ℕ) → 0 < length (bs ++ 42 ∷ [])
starred_some bs = omega (arith, length-append bs (42 ∷ []))

pub star_within : (bs : List ℕ) → has_byte 42 bs ≡ true → entry_of (bs ++ 42 ∷ []) ≡ Err star_inside
star_within bs h = entry_some (bs ++ 42 ∷ []) (starred_some bs) ∙ rw (starred_front bs, h) refl

pub star_at_end : (bs n : List ℕ) → has_byte 42 bs ≡ false → n ≡ bs → entry_of (bs ++ 42 ∷ []) ≡ Ok (beginning n)
star_at_end bs n h e = entry_some (bs ++ 42 ∷ []) (starred_some bs) ∙ rw (starred_front bs, h, starred_has bs) (ap (λ (t : List ℕ). Ok (beginning t)) (sym e))

-- a text that no star ends has its stars in front of its last byte
star_in_front : (t : List ℕ) → 0 < length t → ((front : List ℕ) → t ≡ front ++ 42 ∷ [] → ⊥) → has_byte 42 t ≡ has_byte 42 (all_but_last t)
star_in_front t h starless =
    let l = last_of t h in
    by_test l.0 l.1 (l.0 == 42) refl
  where
    by_test : (x : ℕ) → t ≡ all_but_last t ++ x ∷ [] → (b : Bool) → (x == 42) ≡ b → has_byte 42 t ≡ has_byte 42 (all_but_last t)
    by_test x e true is = absurd (starless (all_but_last t) (e ∙ ap (λ y. all_but_last t ++ y ∷ []) ((Decides-eqb x 42).0 is)))
    by_test x e false is =
        ap (has_byte 42) e ∙ list_any-append (λ c. c == 42) (all_but_last t) (x ∷ [])
        ∙ ap (λ b. has_byte 42 (all_but_last t) || (b || false)) is ∙ or_false (has_byte 42 (all_but_last t))

pub star_before_end : (t : List ℕ) → 0 < length t → ((front : List ℕ) → t ≡ front ++ 42 ∷ [] → ⊥) → has_byte 42 t ≡ true → entry_of t ≡ Err star_inside
star_before_end t some starless h = entry_some t some ∙ rw (sym (star_in_front t some starless) ∙ h) refl

pub without_dot : (t : List ℕ) → 0 < length t → ((front : List ℕ) → t ≡ front ++ 42 ∷ [] → ⊥) → has_byte 42 t ≡ false → has_byte 46 t ≡ false → entry_of t ≡ Err no_dot
without_dot t some starless h dot = entry_some t some ∙ rw (sym (star_in_front t some starless) ∙ h, h, dot) refl

pub with_dot : (t n : List ℕ) → 0 < length t → ((front : List ℕ) → t ≡ front ++ 42 ∷ [] → ⊥) → has_byte 42 t ≡ false → has_byte 46 t ≡ true → n ≡ t → entry_of t ≡ Ok (exactly n)
with_dot t n some starless h dot e = entry_some t some ∙ rw (sym (star_in_front t some starless) ∙ h, h, dot) (ap (λ (x : List ℕ). Ok (exactly x)) (sym e))

-- ---- a list of entries

pub pieces_split : (bs : List ℕ) → pieces bs ≡ slice_split (λ b. eqb b 44) bs
pieces_split [] = refl
pieces_split (b ∷ bs) = rw (pieces_split bs) (by_parts (slice_split (λ c. eqb c 44) bs))
  where
    by_parts : (ps : List (List ℕ)) → (if b == 44 then [] ∷ ps else onto_first b ps) ≡ cond (eqb b 44) ([] ∷ ps) (std_onto_first b ps)
    by_parts [] = refl
    by_parts (p ∷ ps) = refl

pub entries_push : (xs : List (List ℕ)) (x : List ℕ) (es : List Entry) (e : Entry) → entries_of xs ≡ Ok es → entry_of x ≡ Ok e → entries_of (xs ++ x ∷ []) ≡ Ok (es ++ e ∷ [])
entries_push [] x es e all is = let z : [] ≡ es = cc in ap (λ r. entry_onto r (Ok [])) is ∙ ap (λ (z : List Entry). Ok (z ++ e ∷ [])) z
entries_push (y ∷ ys) x es e all is = by_first (entry_of y) (entries_of ys) refl refl all (λ fs there. entries_push ys x fs e there is)
  where
    by_first : (r : Result Entry ListError) (rs : Result (List Entry) ListError) → entry_of y ≡ r → entries_of ys ≡ rs → entry_onto r rs ≡ Ok es
        → ((fs : List Entry) → entries_of ys ≡ Ok fs → entries_of (ys ++ x ∷ []) ≡ Ok (fs ++ e ∷ [])) → entries_of (y ∷ (ys ++ x ∷ [])) ≡ Ok (es ++ e ∷ [])
    by_first (Ok f) (Ok fs) here there eq more =
        let z : f ∷ fs ≡ es = cc in
        ap (λ r. entry_onto r (entries_of (ys ++ x ∷ []))) here ∙ ap (λ rs. onto_entries f rs) (more fs there)
        ∙ ap (λ (z : List Entry). Ok (z ++ e ∷ [])) z
    by_first (Ok f) (Err g) here there eq more = absurd (cc)
    by_first (Err f) rs here there eq more = absurd (cc)

pub entries_fail : (xs : List (List ℕ)) (x : List ℕ) (ys : List (List ℕ)) (es : List Entry) (f : ListError) → entries_of xs ≡ Ok es → entry_of x ≡ Err f → entries_of (xs ++ x ∷ ys) ≡ Err f
entries_fail [] x ys es f all is = ap (λ r. entry_onto r (entries_of ys)) is
entries_fail (y ∷ more) x ys es f all is = by_first (entry_of y) (entries_of more) refl refl all (λ fs there. entries_fail more x ys fs f there is)
  where
    by_first : (r : Result Entry ListError) (rs : Result (List Entry) ListError) → entry_of y ≡ r → entries_of more ≡ rs → entry_onto r rs ≡ Ok es
        → ((fs : List Entry) → entries_of more ≡ Ok fs → entries_of (more ++ x ∷ ys) ≡ Err f) → entries_of (y ∷ (more ++ x ∷ ys)) ≡ Err f
    by_first (Ok e) (Ok fs) here there eq fails = ap (λ r. entry_onto r (entries_of (more ++ x ∷ ys))) here ∙ ap (λ rs. onto_entries e rs) (fails fs there)
    by_first (Ok e) (Err g) here there eq fails = absurd (cc)
    by_first (Err g) rs here there eq fails = absurd (cc)

-- ---- what an entry names

pub any_of_map : {X Y : Type 0} (p : Y → Bool) (f : X → Y) (xs : List X) → list_any p (map f xs) ≡ list_any (λ x. p (f x)) xs
any_of_map p f [] = refl
any_of_map p f (x ∷ xs) = ap (λ b. p (f x) || b) (any_of_map p f xs)

begun : (n t : List ℕ) → starts_with nat_eq n t ≡ true → n ≡ t ++ drop (length t) n
begun n t = (starts_is Decides-eqb n t (starts_with nat_eq n t) refl).0

is_begun : (n t rest : List ℕ) → n ≡ t ++ rest → starts_with nat_eq n t ≡ true
is_begun n t = (starts_is Decides-eqb n t (starts_with nat_eq n t) refl).1

false_by : (b : Bool) → (b ≡ true → ⊥) → b ≡ false
false_by true h = absurd (h refl)
false_by false h = refl

abbrev joined : List ℕ → List ℕ → List ℕ
joined m b = m ++ 46 ∷ b

-- a beginning of a joined name is one of the module name, or goes on behind the dot
data Reach (m t : List ℕ) : Type 0 where
  inside : (rest : List ℕ) → m ≡ t ++ rest → Reach m t
  behind : (rest : List ℕ) → t ≡ m ++ 46 ∷ rest → Reach m t

reach : (m b t d : List ℕ) → joined m b ≡ t ++ d → Reach m t
reach m b [] d e = inside m refl
reach [] b (x ∷ t) d e = let z : 46 ≡ x = cc in behind t (ap (λ y. y ∷ t) (sym z))
reach (y ∷ m) b (x ∷ t) d e = longer (reach m b t d (cc)) (cc)
  where
    longer : Reach m t → y ≡ x → Reach (y ∷ m) (x ∷ t)
    longer (inside rest f) z = inside rest (ap (λ l. y ∷ l) f ∙ ap (λ w. w ∷ (t ++ rest)) z)
    longer (behind rest f) z = behind rest (ap (λ l. x ∷ l) f ∙ ap (λ w. w ∷ (m ++ 46 ∷ rest)) (sym z))

-- the text is a beginning of the module name
pub begins_inside : (m b t : List ℕ) → starts_with nat_eq m t ≡ true → true ≡ names (beginning t) (m ++ 46 ∷ b)
begins_inside m b t h =
    sym (is_begun (joined m b) t (drop (length t) m ++ 46 ∷ b) (ap (λ l. l ++ 46 ∷ b) (begun m t h) ∙ append_assoc t (drop (length t) m) (46 ∷ b)))

-- the text goes on behind the dot
pub begins_behind : (m b t rest : List ℕ) → t ≡ m ++ 46 ∷ rest → starts_with nat_eq b rest ≡ names (beginning t) (m ++ 46 ∷ b)
begins_behind m b t rest e =
    same_from_decides {P = (d : List ℕ) × (b ≡ rest ++ d)} (starts_with nat_eq b rest) (names (beginning t) (joined m b)) (λ h. (drop (length rest) b, begun b rest h), λ p. is_begun b rest p.0 p.1) (
      λ h. (drop (length t) (joined m b), cut (drop (length t) (joined m b)) (begun (joined m b) t h)),
      λ p. is_begun (joined m b) t p.0 (ap (λ l. m ++ 46 ∷ l) p.1 ∙ sym (grown p.0)),
    )
  where
    grown : (d : List ℕ) → t ++ d ≡ m ++ 46 ∷ (rest ++ d)
    grown d = ap (λ l. l ++ d) e ∙ append_assoc m (46 ∷ rest) d

    cut : (d : List ℕ) → joined m b ≡ t ++ d → b ≡ rest ++ d
    cut d h = let f : 46 ∷ b ≡ 46 ∷ (rest ++ d) = append_cancel_left m (46 ∷ b) (46 ∷ (rest ++ d)) (h ∙ grown d) in cc

-- it does neither
pub begins_nowhere : (m b t : List ℕ) → starts_with nat_eq m t ≡ false → ((rest : List ℕ) → t ≡ m ++ 46 ∷ rest → ⊥) → false ≡ names (beginning t) (m ++ 46 ∷ b)
begins_nowhere m b t out none = sym (false_by (names (beginning t) (joined m b)) (λ h. by_reach (reach m b t (drop (length t) (joined m b)) (begun (joined m b) t h))))
  where
    by_reach : Reach m t → ⊥
    by_reach (inside rest e) = let bad : true ≡ false = sym (is_begun m t rest e) ∙ out in cc
    by_reach (behind rest e) = none rest e

pub names_exact : (t n : List ℕ) → Decides (names (exactly t) n) (t ≡ n)
names_exact t n = (same, is_same)
  where
    same : names (exactly t) n ≡ true → t ≡ n
    same h =
        let b = and_parts (starts_with nat_eq n t) (nat_eq (length n) (length t)) h in
        let le : length n ≤ length t = omega (arith, (Decides-eqb (length n) (length t)).0 b.1) in
        (bytes_decides t (take (length t) n)).0 b.0 ∙ take_all (length t) n le

    is_same : t ≡ n → names (exactly t) n ≡ true
    is_same e =
        let s = is_begun n t [] (sym e ∙ sym (append-nil t)) in
        let l = (Decides-eqb (length n) (length t)).1 (ap length (sym e)) in
        rw (s, l) refl

-- the joined name's part behind the dot is compared
pub same_behind : (m b t rest : List ℕ) (r : Bool) → t ≡ m ++ 46 ∷ rest → r ≡ pointwise nat_eq rest b → r ≡ names (exactly t) (m ++ 46 ∷ b)
same_behind m b t rest r e is =
    is
    ∙ same_from_decides {P = rest ≡ b} (pointwise nat_eq rest b) (names (exactly t) (joined m b)) (bytes_decides rest b) (
      λ h. let f : 46 ∷ rest ≡ 46 ∷ b = append_cancel_left m (46 ∷ rest) (46 ∷ b) (sym e ∙ (names_exact t (joined m b)).0 h) in cc,
      λ h. (names_exact t (joined m b)).1 (e ∙ ap (λ l. m ++ 46 ∷ l) h),
    )

pub same_nowhere : (m b t : List ℕ) → ((rest : List ℕ) → t ≡ m ++ 46 ∷ rest → ⊥) → false ≡ names (exactly t) (m ++ 46 ∷ b)
same_nowhere m b t none = sym (false_by (names (exactly t) (joined m b)) (λ h. none b ((names_exact t (joined m b)).0 h)))

-- what is behind a name and a dot
pub behind_is : (text name rest : List ℕ) (r : Option (Bor (List ℕ))) → text ≡ name ++ rest → MatchOption r ((more : List ℕ) → rest ≢ 46 ∷ more) (λ x. rest ≡ 46 ∷ x.now) → IsBehind text name r
behind_is text name rest None e h = λ more f. h more (append_cancel_left name rest (46 ∷ more) (sym e ∙ f))
behind_is text name rest (Some x) e h = e ∙ ap (λ l. name ++ l) h
