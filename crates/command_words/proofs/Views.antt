-- What a word is, for `clap` and for the commands of script_model at once.
use Rattle.std.proofs.Common.{◌≡◌, ◌⊎◌, ◌∙◌, ◌==◌, ℕ, zero, suc, List, [], ◌∷◌, ◌++◌, Option, Some, None, Bool, true, false, not, ◌&&◌, ◌||◌, inl, inr, refl, sym, ap, subst, codes, bytes_eq}
use Rattle.std.proofs.Common.{if◌then◌else◌, true≢false, eqb-true, eq-eqb, arith, slice_get, chars, is_some, unwrap_or, encode_utf8, encode_utf8_all, IsUtf8, option_and_then}
use Rattle.std.proofs.lemmas.Slice.Eq.{bytes_eq-Decides}
use Rattle.std.proofs.lemmas.Str.{encode_ascii, encodes-chars, IsUtf8-past_char}
use Rattle.clap.specs.Lexer.{long_of, long_of_rest, short_of, short_of_rest, strip_byte, name_and_value}
use Rattle.clap.proofs.CutLemmas.{Lacks}
use Rattle.clap.proofs.LexerLemmas.{name_and_value-at, name_and_value-without}
use Rattle.script_model.specs.Command.{Word, imports_word, save_word, ignore_imports_word, ignore_indirect_word, asserts_word, end_word, unknown_word, name_word, word_of, is_hyphened, behind, named_word, with_value}

abbrev pub Text : Type 0
Text = List ℕ

-- ---- tests of texts

pub same_is : (xs ys : Text) → bytes_eq xs ys ≡ true → xs ≡ ys
same_is xs ys e = (bytes_eq-Decides xs ys).0 e

pub same_text : (xs ys : Text) → xs ≡ ys → bytes_eq xs ys ≡ true
same_text xs ys e = (bytes_eq-Decides xs ys).1 e

-- texts that aren't equal
pub differ : (xs ys : Text) → (xs ≡ ys → ⊥) → bytes_eq xs ys ≡ false
differ xs ys h = go (bytes_eq xs ys) refl
  where
    go : (b : Bool) → bytes_eq xs ys ≡ b → b ≡ false
    go true e = absurd (h (same_is xs ys e))
    go false e = refl

pub clash : (xs ys : Text) → bytes_eq xs ys ≡ false → xs ≡ ys → ⊥
clash xs ys apart e = true≢false (sym (same_text xs ys e) ∙ apart)

nothing : (t : Text) → None ≡ Some t → ⊥
nothing t e = true≢false (sym (ap is_some e))

-- what stands behind a beginning
pub behind_is : (front text rest : Text) → behind front text ≡ Some rest → text ≡ front ++ rest
behind_is [] text rest e = ap (λ (o : Option Text). unwrap_or o text) e
behind_is (b ∷ bs) [] rest e = absurd (nothing rest e)
behind_is (b ∷ bs) (c ∷ cs) rest e = go (c == b) refl e (behind_is bs cs rest)
  where
    go : (t : Bool) → (c == b) ≡ t → (if t then behind bs cs else None) ≡ Some rest → (behind bs cs ≡ Some rest → cs ≡ bs ++ rest) → c ∷ cs ≡ (b ∷ bs) ++ rest
    go true at k more = ap (λ (x : ℕ). x ∷ cs) (eqb-true c b at) ∙ ap (λ (xs : Text). b ∷ xs) (more k)
    go false at k more = absurd (nothing rest k)

-- ---- a text is cut at its first `=`

pub Cut : Text → Type 0
Cut text = Lacks 61 text ⊎ ((front : Text) × (rest : Text) × Lacks 61 front × (text ≡ front ++ 61 ∷ rest))

lacks_more : (x : ℕ) (xs : Text) → (x == 61) ≡ false → Lacks 61 xs → Lacks 61 (x ∷ xs)
lacks_more x xs ne h zero lt e = true≢false (sym (eq-eqb x 61 e) ∙ ne)
lacks_more x xs ne h (suc i) lt e = h i (omega arith) e

cut : (text : Text) → Cut text
unfolding Cut
cut [] = inl (λ i lt. absurd (omega arith))
cut (x ∷ xs) = go (x == 61) refl (cut xs)
  where
    go : (t : Bool) → (x == 61) ≡ t → Cut xs → Cut (x ∷ xs)
    go true e h = inr ([], xs, (λ i lt. absurd (omega arith)), ap (λ (y : ℕ). y ∷ xs) (eqb-true x 61 e))
    go false e (inl h) = inl (lacks_more x xs e h)
    go false e (inr h) = inr (x ∷ h.0, h.1, lacks_more x h.0 e h.2, ap (λ (ys : Text). x ∷ ys) h.3)

-- ---- what a word is

-- nothing stands in the way of a name
pub record IsName (word : Text) : Type 0 where
  pub told : word_of word ≡ name_word word
  pub no_end : bytes_eq word (codes "--") ≡ false
  pub no_long : long_of word ≡ None
  pub no_short : short_of word ≡ None
  pub listed : (is_hyphened word && not (bytes_eq word (codes "-"))) ≡ false

-- the word begins with `-`, is longer than that, and is no option
pub record IsUnknown (word : Text) : Type 0 where
  pub told : word_of word ≡ unknown_word
  pub no_end : bytes_eq word (codes "--") ≡ false
  pub listed : (is_hyphened word && not (bytes_eq word (codes "-"))) ≡ true

-- a long word that is none of the options, as name and value
abbrev pub Strange : Text × Option Text → Type 0
Strange p = (bytes_eq (codes "imports") p.0 ≡ false) × (bytes_eq (codes "save") p.0 ≡ false)
    × (p.1 ≡ None → (bytes_eq (codes "ignore-imports") p.0 ≡ false) × (bytes_eq (codes "ignore-indirect") p.0 ≡ false) × (bytes_eq (codes "asserts") p.0 ≡ false))

pub data View (word : Text) : Type 0 where
  is_end : word ≡ codes "--" → View word
  is_list : word ≡ codes "--imports" → View word
  is_save : word ≡ codes "--save" → View word
  is_imports : word ≡ codes "--ignore-imports" → View word
  is_indirect : word ≡ codes "--ignore-indirect" → View word
  is_asserts : word ≡ codes "--asserts" → View word
  is_list_with : (text : Text) → word ≡ codes "--imports=" ++ text → View word
  is_save_with : (text : Text) → word ≡ codes "--save=" ++ text → View word
  is_named : IsName word → View word
  is_long : IsUnknown word → (p : Text × Option Text) → long_of word ≡ Some p → Strange p → View word
  is_short : IsUnknown word → long_of word ≡ None → (y : ℕ) (ys : Text) → short_of word ≡ Some (y ∷ ys) → (x : ℕ) → slice_get (chars (y ∷ ys)) 0 ≡ Some x → View word

-- no test of an option holds of the word
record IsPast (word : Text) : Type 0 where
  pub lists : bytes_eq word (codes "--imports") ≡ false
  pub saves : bytes_eq word (codes "--save") ≡ false
  pub imports : bytes_eq word (codes "--ignore-imports") ≡ false
  pub indirect : bytes_eq word (codes "--ignore-indirect") ≡ false
  pub asserts : bytes_eq word (codes "--asserts") ≡ false
  pub ends : bytes_eq word (codes "--") ≡ false
  pub unlisted : behind (codes "--imports=") word ≡ None
  pub unsaved : behind (codes "--save=") word ≡ None

abbrev word_by : (lists saves imports indirect asserts ends : Bool) → (list save : Option Text) → Text → Word
word_by lists saves imports indirect asserts ends list save word =
    if lists then imports_word else (if saves then save_word else (if imports then ignore_imports_word
    else (if indirect then ignore_indirect_word else (if asserts then asserts_word else (if ends then end_word else with_value list save word)))))

past_named : (word : Text) → IsPast word → word_of word ≡ named_word word
past_named word h = λ i. word_by (h.lists i) (h.saves i) (h.imports i) (h.indirect i) (h.asserts i) (h.ends i) (h.unlisted i) (h.unsaved i) word

-- ---- a word that begins with `-`

abbrev is_some_text : Text → Bool
is_some_text [] = false
is_some_text (x ∷ xs) = true

first_char : (y : ℕ) (ys : Text) → IsUtf8 (45 ∷ y ∷ ys) → (x : ℕ) × (slice_get (chars (y ∷ ys)) 0 ≡ Some x)
first_char y ys utf8 = go (chars (y ∷ ys)) refl
  where
    one : encode_utf8 45 ≡ 45 ∷ []
    one = encode_ascii 45 (omega arith)

    rest : IsUtf8 (y ∷ ys)
    rest = IsUtf8-past_char (45 ∷ y ∷ ys) (y ∷ ys) 45 utf8 (ap (λ (f : Text). f ++ y ∷ ys) (sym one))

    go : (cs : Text) → chars (y ∷ ys) ≡ cs → (x : ℕ) × (slice_get (chars (y ∷ ys)) 0 ≡ Some x)
    go [] e = absurd (true≢false (sym (ap is_some_text (encodes-chars (y ∷ ys) rest)) ∙ ap (λ (c : Text). is_some_text (encode_utf8_all c)) e))
    go (c ∷ cs) e = (c, ap (λ (l : Text). slice_get l 0) e)

unknown : (y : ℕ) (ys : Text) → IsPast (45 ∷ y ∷ ys) → IsUnknown (45 ∷ y ∷ ys)
unknown y ys h = record { told = past_named (45 ∷ y ∷ ys) h; no_end = h.ends; listed = refl }

short_word : (y : ℕ) (ys : Text) → IsUtf8 (45 ∷ y ∷ ys) → IsPast (45 ∷ y ∷ ys) → (y == 45) ≡ false → View (45 ∷ y ∷ ys)
short_word y ys utf8 h ne =
    let c = first_char y ys utf8 in
    is_short (unknown y ys h) (ap (λ (b : Bool). option_and_then long_of_rest (if b then Some ys else None)) ne)
    y ys (ap (λ (b : Bool). if b then None else Some (y ∷ ys)) ne) c.0 c.1

-- a text of two hyphens more
abbrev hyphens : Text → Text
hyphens text = 45 ∷ 45 ∷ text

strange : (text : Text) → IsPast (45 ∷ 45 ∷ text) → Cut text → (p : Text × Option Text) × (name_and_value text ≡ p) × Strange p
unfolding Cut
strange text h (inl lacks) = (
  (text, None),
  name_and_value-without text lacks,
  (
    differ (codes "imports") text (λ e. clash (hyphens text) (codes "--imports") h.lists (ap hyphens (sym e))),
    differ (codes "save") text (λ e. clash (hyphens text) (codes "--save") h.saves (ap hyphens (sym e))),
    λ _. (
      differ (codes "ignore-imports") text (λ e. clash (hyphens text) (codes "--ignore-imports") h.imports (ap hyphens (sym e))),
      differ (codes "ignore-indirect") text (λ e. clash (hyphens text) (codes "--ignore-indirect") h.indirect (ap hyphens (sym e))),
      differ (codes "asserts") text (λ e. clash (hyphens text) (codes "--asserts") h.asserts (ap hyphens (sym e))),
    ),
  ),
)
strange text h (inr c) = (
  (c.0, Some c.1),
  ap name_and_value c.3 ∙ name_and_value-at c.0 c.1 c.2,
  (
    differ (codes "imports") c.0 (λ e. nothing c.1 (sym h.unlisted ∙ ap (λ (t : Text). behind (codes "--imports=") (hyphens t)) (c.3 ∙ ap (λ (f : Text). f ++ 61 ∷ c.1) (sym e)))),
    differ (codes "save") c.0 (λ e. nothing c.1 (sym h.unsaved ∙ ap (λ (t : Text). behind (codes "--save=") (hyphens t)) (c.3 ∙ ap (λ (f : Text). f ++ 61 ∷ c.1) (sym e)))),
    λ e. absurd (nothing c.1 (sym e)),
  ),
)

long_word : (z : ℕ) (zs : Text) → IsPast (45 ∷ 45 ∷ z ∷ zs) → View (45 ∷ 45 ∷ z ∷ zs)
long_word z zs h = let s = strange (z ∷ zs) h (cut (z ∷ zs)) in is_long (unknown 45 (z ∷ zs) h) s.0 (ap Some s.1) s.2

hyphened : (rest : Text) → IsUtf8 (45 ∷ rest) → IsPast (45 ∷ rest) → View (45 ∷ rest)
hyphened [] utf8 h = is_named (record { told = refl; no_end = refl; no_long = refl; no_short = refl; listed = refl })
hyphened (y ∷ ys) utf8 h = go (y == 45) refl
  where
    two : (ys : Text) → IsPast (45 ∷ 45 ∷ ys) → View (45 ∷ 45 ∷ ys)
    two [] h = absurd (true≢false h.ends)
    two (z ∷ zs) h = long_word z zs h

    go : (b : Bool) → (y == 45) ≡ b → View (45 ∷ y ∷ ys)
    go true e = let is = eqb-true y 45 e in subst (λ (x : ℕ). View (45 ∷ x ∷ ys)) (sym is) (two ys (subst (λ (x : ℕ). IsPast (45 ∷ x ∷ ys)) is h))
    go false e = short_word y ys utf8 h e

-- ---- a word that doesn't

named : (x : ℕ) (xs : Text) → IsPast (x ∷ xs) → (x == 45) ≡ false → IsName (x ∷ xs)
named x xs h ne = record {
  told = past_named (x ∷ xs) h ∙ ap (λ (b : Bool). if not b || bytes_eq (x ∷ xs) (codes "-") then name_word (x ∷ xs) else unknown_word) ne;
  no_end = h.ends;
  no_long = ap (λ (b : Bool). option_and_then long_of_rest (option_and_then (strip_byte 45) (if b then Some xs else None))) ne;
  no_short = ap (λ (b : Bool). option_and_then short_of_rest (if b then Some xs else None)) ne;
  listed = ap (λ (b : Bool). b && not (bytes_eq (x ∷ xs) (codes "-"))) ne;
}

plain_word : (word : Text) → IsUtf8 word → IsPast word → View word
plain_word [] utf8 h = is_named (record { told = refl; no_end = refl; no_long = refl; no_short = refl; listed = refl })
plain_word (x ∷ xs) utf8 h = go (x == 45) refl
  where
    go : (b : Bool) → (x == 45) ≡ b → View (x ∷ xs)
    go true e =
        let is = eqb-true x 45 e in
        subst (λ (y : ℕ). View (y ∷ xs)) (sym is) (hyphened xs (subst (λ (y : ℕ). IsUtf8 (y ∷ xs)) is utf8) (subst (λ (y : ℕ). IsPast (y ∷ xs)) is h))
    go false e = is_named (named x xs h e)

-- the word isn't this one
abbrev Apart : Text → Text → Type 0
Apart word option = bytes_eq word option ≡ false

pub view : (word : Text) → IsUtf8 word → View word
view word utf8 = at_lists (bytes_eq word (codes "--imports")) refl
  where
    at_save_value : Apart word (codes "--imports") → Apart word (codes "--save") → Apart word (codes "--ignore-imports") → Apart word (codes "--ignore-indirect") → Apart word (codes "--asserts")
        → Apart word (codes "--") → behind (codes "--imports=") word ≡ None → (o : Option Text) → behind (codes "--save=") word ≡ o → View word
    at_save_value l s a b f c d (Some text) e = is_save_with text (behind_is (codes "--save=") word text e)
    at_save_value l s a b f c d None e = plain_word word utf8 (record { lists = l; saves = s; imports = a; indirect = b; asserts = f; ends = c; unlisted = d; unsaved = e })

    at_value : Apart word (codes "--imports") → Apart word (codes "--save") → Apart word (codes "--ignore-imports") → Apart word (codes "--ignore-indirect") → Apart word (codes "--asserts")
        → Apart word (codes "--") → (o : Option Text) → behind (codes "--imports=") word ≡ o → View word
    at_value l s a b f c (Some text) e = is_list_with text (behind_is (codes "--imports=") word text e)
    at_value l s a b f c None e = at_save_value l s a b f c e (behind (codes "--save=") word) refl

    at_end : Apart word (codes "--imports") → Apart word (codes "--save") → Apart word (codes "--ignore-imports") → Apart word (codes "--ignore-indirect") → Apart word (codes "--asserts")
        → (t : Bool) → bytes_eq word (codes "--") ≡ t → View word
    at_end l s a b f true e = is_end (same_is word (codes "--") e)
    at_end l s a b f false e = at_value l s a b f e (behind (codes "--imports=") word) refl

    at_asserts : Apart word (codes "--imports") → Apart word (codes "--save") → Apart word (codes "--ignore-imports") → Apart word (codes "--ignore-indirect")
        → (t : Bool) → bytes_eq word (codes "--asserts") ≡ t → View word
    at_asserts l s a b true e = is_asserts (same_is word (codes "--asserts") e)
    at_asserts l s a b false e = at_end l s a b e (bytes_eq word (codes "--")) refl

    at_indirect : Apart word (codes "--imports") → Apart word (codes "--save") → Apart word (codes "--ignore-imports") → (t : Bool) → bytes_eq word (codes "--ignore-indirect") ≡ t → View word
    at_indirect l s a true e = is_indirect (same_is word (codes "--ignore-indirect") e)
    at_indirect l s a false e = at_asserts l s a e (bytes_eq word (codes "--asserts")) refl

    at_imports : Apart word (codes "--imports") → Apart word (codes "--save") → (t : Bool) → bytes_eq word (codes "--ignore-imports") ≡ t → View word
    at_imports l s true e = is_imports (same_is word (codes "--ignore-imports") e)
    at_imports l s false e = at_indirect l s e (bytes_eq word (codes "--ignore-indirect")) refl

    at_save : Apart word (codes "--imports") → (t : Bool) → bytes_eq word (codes "--save") ≡ t → View word
    at_save l true e = is_save (same_is word (codes "--save") e)
    at_save l false e = at_imports l e (bytes_eq word (codes "--ignore-imports")) refl

    at_lists : (t : Bool) → bytes_eq word (codes "--imports") ≡ t → View word
    at_lists true e = is_list (same_is word (codes "--imports") e)
    at_lists false e = at_save e (bytes_eq word (codes "--save")) refl
