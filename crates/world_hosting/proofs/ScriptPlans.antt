-- What the lines of a script tell of a program fits a plan.
use Rattle.std.proofs.Common.{pow_pos, option_map, ◌==◌, ◌∙◌, arith, ◌≡◌, ℕ, ◌+◌, ◌-◌, ◌*◌, ◌<◌, ◌≤◌, ◌^◌, ◌&&◌, nat_le, Bool, true, false, Option, Some, None, Ok, Err, List, [], ◌∷◌, length, subst, refl, if◌then◌else◌, codes, All}
use Rattle.std.specs.Option.{option_or}
use Rattle.std.specs.Str.{bytes_eq}
use Rattle.std.proofs.lemmas.Bool.{leb-true}
use Rattle.std.proofs.lemmas.List.Elements.{All-nil, All-cons, All-weaker}
use Rattle.wa_types.specs.Sizes.{value_fits}
use Rattle.wa_types.specs.declared.values.Value.{Value}
use Rattle.wa_types.specs.declared.values.Value.TheVariants as V
use Rattle.script_model.specs.Command.{behind}
use Rattle.wa_model.specs.declared.answers.Said.{Said}
use Rattle.wa_model.specs.declared.answers.Said.TheVariants as S
use Rattle.wa_model.specs.Plan.{AnswerFits, PokeFits, SaidFits}
use Rattle.wa_model.specs.Outside.{Poke}
use Rattle.script_model.specs.ScriptLines.{Statement, begins_program, lists_imports, ignores_imports, saves, has_area, has_steps, sets_global, binds, enters, answers, shows, detaches, begins_strand, Keyword, program_word, imports_word, ignore_imports_word, save_word, area_word, steps_word, global_word, device_word, enter_word, answer_word, show_word, detach_word, mailbox_word, strand_word, Meaning, PokeWords, hex_value, joined_digits, hex_bytes, hex_in, if_within, number_in, number_within, integer_in, negative, i32_in, i64_in, u32_in, all_values, value_in, unless_none, says_two, says_policy, pokes_in, poke_of, all_pokes, result_in, answer_with, says_answer, says, says_with, keyword_in, words_say, line_words, line_says}
use Rattle.script_model.specs.ScriptLines as L
use Rattle.host_laws.specs.Answering.{IsShort}
use Rattle.pause_host.specs.Moves.{HasShortPokes}

-- ---- what a statement tells

abbrev pub SaysFit : Statement → Type 0
SaysFit (has_steps n) = (1 ≤ n) × (n ≤ 1000000000)
SaysFit (sets_global name value) = value_fits value
SaysFit (enters name args) = All value_fits args
SaysFit (answers line) = HasShortPokes line × AnswerFits line.answer
SaysFit _ = Unit {0}

abbrev MeaningFits : Meaning → Type 0
MeaningFits (Ok s) = SaysFit s
MeaningFits (Err rule) = Unit {0}

-- ---- numbers

within_bounds : (least most : ℕ) (o : Option ℕ) (n : ℕ) → if_within least most o ≡ Some n → (least ≤ n) × (n ≤ most)
within_bounds least most None n e = cc
within_bounds least most (Some m) n e = by (nat_le least m) refl (nat_le m most) refl e where
  by : (a : Bool) → nat_le least m ≡ a → (b : Bool) → nat_le m most ≡ b → (if a && b then Some m else None) ≡ Some n → (least ≤ n) × (n ≤ most)
  by true ha true hb k =
      let same : m ≡ n = cc in
      (subst (λ (i : ℕ). least ≤ i) same (leb-true least m ha), subst (λ (i : ℕ). i ≤ most) same (leb-true m most hb))
  by true ha false hb k = cc
  by false ha b hb k = cc

steps_said : (o : Option ℕ) → ((n : ℕ) → o ≡ Some n → SaysFit (has_steps n)) → MeaningFits (unless_none (λ n. Ok (has_steps n)) o)
steps_said None h = tt
steps_said (Some n) h = h n refl

said_unless : {A : Type 0} (told : A → Meaning) (o : Option A) → ((x : A) → o ≡ Some x → MeaningFits (told x)) → MeaningFits (unless_none told o)
said_unless told None h = tt
said_unless told (Some x) h = h x refl

two_said : (told : ℕ → ℕ → Statement) (a b : Option ℕ) → ((x y : ℕ) → SaysFit (told x y)) → MeaningFits (says_two told a b)
two_said told (Some x) (Some y) h = h x y
two_said told (Some x) None h = tt
two_said told None (Some y) h = tt
two_said told None None h = tt

policy_said : (word : List ℕ) → MeaningFits (says_policy word)
policy_said word = by (bytes_eq word (codes "all")) (bytes_eq word (codes "live")) where
  by : (a b : Bool) → MeaningFits (if a then Ok (saves false) else (if b then Ok (saves true) else Err 3))
  by true b = tt
  by false true = tt
  by false false = tt

-- ---- values

integer_bound : (width : ℕ) (word : List ℕ) (n : ℕ) → integer_in width word ≡ Some n → n < 2 ^ width
integer_bound width [] n e = cc
integer_bound width (c ∷ cs) n e = by (c == 45) e where
  some : 0 < 2 ^ width
  some = pow_pos width

  below : (o : Option ℕ) → ((k : ℕ) → o ≡ Some k → 1 ≤ k) → negative width o ≡ Some n → n < 2 ^ width
  below None least k = cc
  below (Some j) least k =
      let same : 2 ^ width - j ≡ n = cc in
      let one = least j refl in
      let pos = some in
      omega (arith, same, one, pos)

  by : (b : Bool) → (if b then negative width (number_within 1 (2 ^ (width - 1)) cs) else number_within 0 (2 ^ width - 1) (c ∷ cs)) ≡ Some n → n < 2 ^ width
  by true k = below (number_within 1 (2 ^ (width - 1)) cs) (λ j h. (within_bounds 1 (2 ^ (width - 1)) (number_in cs) j h).0) k
  by false k =
      let most = (within_bounds 0 (2 ^ width - 1) (number_in (c ∷ cs)) n k).1 in
      let pos = some in
      omega (arith, most, pos)

narrow_fits : (o : Option (List ℕ)) (v : Value) → i32_in o ≡ Some v → value_fits v
narrow_fits None v e = cc
narrow_fits (Some digits) v e = by (integer_in 32 digits) refl e where
  by : (r : Option ℕ) → integer_in 32 digits ≡ r → option_map V.I32 r ≡ Some v → value_fits v
  by None is k = cc
  by (Some n) is k =
      let same : V.I32 n ≡ v = cc in
      subst value_fits same (integer_bound 32 digits n is)

wide_fits : (o : Option (List ℕ)) (v : Value) → i64_in o ≡ Some v → value_fits v
wide_fits None v e = cc
wide_fits (Some digits) v e = by (integer_in 64 digits) refl e where
  by : (r : Option ℕ) → integer_in 64 digits ≡ r → option_map V.I64 r ≡ Some v → value_fits v
  by None is k = cc
  by (Some n) is k =
      let same : V.I64 n ≡ v = cc in
      subst value_fits same (integer_bound 64 digits n is)

told_value : (word : List ℕ) (v : Value) → value_in word ≡ Some v → value_fits v
told_value word v e = by (i32_in (behind (codes "i32:") word)) refl e where
  by : (o : Option Value) → i32_in (behind (codes "i32:") word) ≡ o → option_or o (i64_in (behind (codes "i64:") word)) ≡ Some v → value_fits v
  by (Some x) is k = narrow_fits (behind (codes "i32:") word) v (is ∙ k)
  by None is k = wide_fits (behind (codes "i64:") word) v k

told_values : (words : List (List ℕ)) (vs : List Value) → all_values words ≡ Some vs → All value_fits vs
told_values [] vs e =
    let same : [] ≡ vs = cc in
    subst (All value_fits) same (All-nil value_fits)
told_values (word ∷ words) vs e = by (value_in word) (all_values words) refl refl e (told_values words) where
  by : (o : Option Value) (r : Option (List Value)) → value_in word ≡ o → all_values words ≡ r → L.onto o r ≡ Some vs
      → ((more : List Value) → all_values words ≡ Some more → All value_fits more) → All value_fits vs
  by (Some v) (Some more) one is k rest =
      let same : v ∷ more ≡ vs = cc in
      subst (All value_fits) same (All-cons value_fits v more (told_value word v one) (rest more is))
  by (Some v) None one is k rest = cc
  by None (Some more) one is k rest = cc
  by None None one is k rest = cc

result_fits : (word : List ℕ) (said : Said) → result_in word ≡ Some said → SaidFits said
result_fits word said e = by (bytes_eq word (codes "none")) (bytes_eq word (codes "trap")) e where
  some : (o : Option Value) → value_in word ≡ o → option_map (λ (x : Value). S.Value (Some x)) o ≡ Some said → SaidFits said
  some None is k = cc
  some (Some x) is k =
      let same : S.Value (Some x) ≡ said = cc in
      subst SaidFits same (told_value word x is)

  by : (a b : Bool) → (if a then Some (S.Value None) else if b then Some S.Trap else option_map (λ (x : Value). S.Value (Some x)) (value_in word)) ≡ Some said → SaidFits said
  by true b k =
      let same : S.Value None ≡ said = cc in
      subst SaidFits same tt
  by false true k =
      let same : S.Trap ≡ said = cc in
      subst SaidFits same tt
  by false false k = some (value_in word) refl k

short_number : (word : List ℕ) (n : ℕ) → u32_in word ≡ Some n → n < 2 ^ 32
short_number word n e =
    let most = (within_bounds 0 (2 ^ 32 - 1) (number_in word) n e).1 in
    omega (arith, most)

-- ---- pokes

digit_bound : (c d : ℕ) → hex_value c ≡ Some d → d < 16
digit_bound c d e =
    first (nat_le 48 c) (nat_le c 57) refl (nat_le 97 c) (nat_le c 102) refl (nat_le 65 c) (nat_le c 70) refl e
  where
    third : (a b : Bool) → nat_le c 70 ≡ b → (if a && b then Some (c - 55) else None) ≡ Some d → d < 16
    third true true is k =
        let same : c - 55 ≡ d = cc in
        let most = leb-true c 70 is in
        omega (arith, same, most)
    third true false is k = cc
    third false b is k = cc

    second : (a b : Bool) → nat_le c 102 ≡ b → (e' f : Bool) → nat_le c 70 ≡ f → (if a && b then Some (c - 87) else (if e' && f then Some (c - 55) else None)) ≡ Some d → d < 16
    second true true is e' f on k =
        let same : c - 87 ≡ d = cc in
        let most = leb-true c 102 is in
        omega (arith, same, most)
    second true false is e' f on k = third e' f on k
    second false b is e' f on k = third e' f on k

    first : (a b : Bool) → nat_le c 57 ≡ b → (a' b' : Bool) → nat_le c 102 ≡ b' → (e' f : Bool) → nat_le c 70 ≡ f
        → (if a && b then Some (c - 48) else (if a' && b' then Some (c - 87) else (if e' && f then Some (c - 55) else None))) ≡ Some d → d < 16
    first true true is a' b' is' e' f on k =
        let same : c - 48 ≡ d = cc in
        let most = leb-true c 57 is in
        omega (arith, same, most)
    first true false is a' b' is' e' f on k = second a' b' is' e' f on k
    first false b is a' b' is' e' f on k = second a' b' is' e' f on k

byte_bound : (high low d : ℕ) → joined_digits (hex_value high) (hex_value low) ≡ Some d → d < 256
byte_bound high low d e = by (hex_value high) (hex_value low) refl refl e where
  by : (a b : Option ℕ) → hex_value high ≡ a → hex_value low ≡ b → joined_digits a b ≡ Some d → d < 256
  by (Some h) (Some l) one two k =
      let same : h * 16 + l ≡ d = cc in
      let up = digit_bound high h one in
      let down = digit_bound low l two in
      omega (arith, same, up, down)
  by (Some h) None one two k = cc
  by None (Some l) one two k = cc
  by None None one two k = cc

abbrev IsByte : ℕ → Type 0
IsByte b = b < 256

hex_in_range : (word bytes : List ℕ) → hex_bytes word ≡ Some bytes → All IsByte bytes
hex_in_range [] bytes e =
    let same : [] ≡ bytes = cc in
    subst (All IsByte) same (All-nil IsByte)
hex_in_range (c ∷ []) bytes e = cc
hex_in_range (high ∷ low ∷ rest) bytes e = by (joined_digits (hex_value high) (hex_value low)) (hex_bytes rest) refl refl e (hex_in_range rest) where
  by : (d : Option ℕ) (r : Option (List ℕ)) → joined_digits (hex_value high) (hex_value low) ≡ d → hex_bytes rest ≡ r → L.onto d r ≡ Some bytes
      → ((bs : List ℕ) → hex_bytes rest ≡ Some bs → All IsByte bs) → All IsByte bytes
  by (Some d) (Some bs) one is k more =
      let same : d ∷ bs ≡ bytes = cc in
      subst (All IsByte) same (All-cons IsByte d bs (byte_bound high low d one) (more bs is))
  by (Some d) None one is k more = cc
  by None (Some bs) one is k more = cc
  by None None one is k more = cc

hex_told : (word bytes : List ℕ) → hex_in word ≡ Some bytes → hex_bytes word ≡ Some bytes
hex_told word bytes e = by (nat_le 2 (length word) && nat_le (length word) 131072) e where
  by : (b : Bool) → (if b then hex_bytes word else None) ≡ Some bytes → hex_bytes word ≡ Some bytes
  by true k = k
  by false k = cc

-- two digits a byte
hex_length : (word bytes : List ℕ) → hex_bytes word ≡ Some bytes → length bytes + length bytes ≤ length word
hex_length [] bytes e =
    let same : [] ≡ bytes = cc in
    subst (λ (b : List ℕ). length b + length b ≤ 0) same (omega arith)
hex_length (c ∷ []) bytes e = cc
hex_length (high ∷ low ∷ rest) bytes e = by (joined_digits (hex_value high) (hex_value low)) (hex_bytes rest) refl e (hex_length rest) where
  by : (d : Option ℕ) (r : Option (List ℕ)) → hex_bytes rest ≡ r → L.onto d r ≡ Some bytes → ((bs : List ℕ) → hex_bytes rest ≡ Some bs → length bs + length bs ≤ length rest)
      → length bytes + length bytes ≤ length (high ∷ low ∷ rest)
  by (Some d) (Some bs) is k more =
      let same : d ∷ bs ≡ bytes = cc in
      let few = more bs is in
      subst (λ (b : List ℕ). length b + length b ≤ length (high ∷ low ∷ rest)) same (omega (arith, few))
  by (Some d) None is k more = cc
  by None (Some bs) is k more = cc
  by None None is k more = cc

short_hex : (word bytes : List ℕ) → hex_in word ≡ Some bytes → length bytes < 2 ^ 32
short_hex word bytes e = by (nat_le 2 (length word)) (nat_le (length word) 131072) refl e where
  by : (a b : Bool) → nat_le (length word) 131072 ≡ b → (if a && b then hex_bytes word else None) ≡ Some bytes → length bytes < 2 ^ 32
  by true true is k =
      let few = hex_length word bytes k in
      let most = leb-true (length word) 131072 is in
      omega (arith, few, most)
  by true false is k = cc
  by false b is k = cc

-- short, and of bytes at a place of 32 bits
record IsPoke (p : Poke) : Type 0 where
  short : IsShort p
  fits : PokeFits p

poke_told : (at : Option ℕ) (word : List ℕ) (p : Poke) → ((n : ℕ) → at ≡ Some n → n < 2 ^ 32) → poke_of at (hex_in word) ≡ Some p → IsPoke p
poke_told at word p place e = by at (hex_in word) refl place e where
  by : (a : Option ℕ) (b : Option (List ℕ)) → hex_in word ≡ b → ((n : ℕ) → a ≡ Some n → n < 2 ^ 32) → poke_of a b ≡ Some p → IsPoke p
  by (Some n) (Some bytes) is below k =
      let same : ◌≡◌ {A = Poke} (record { at = n; bytes = bytes }) p = cc in
      subst IsPoke same (record { short = short_hex word bytes is; fits = record { at = below n refl; bytes = hex_in_range word bytes (hex_told word bytes is) } })
  by (Some n) None is below k = cc
  by None (Some bytes) is below k = cc
  by None None is below k = cc

pokes_told : (ps : List PokeWords) (qs : List Poke) → all_pokes ps ≡ Some qs → All IsPoke qs
pokes_told [] qs e =
    let same : [] ≡ qs = cc in
    subst (All IsPoke) same (All-nil IsPoke)
pokes_told (p ∷ ps) qs e = by (poke_of (u32_in p.at) (hex_in p.bytes)) (all_pokes ps) refl refl e (pokes_told ps) where
  by : (o : Option Poke) (r : Option (List Poke)) → poke_of (u32_in p.at) (hex_in p.bytes) ≡ o → all_pokes ps ≡ r → L.onto o r ≡ Some qs
      → ((more : List Poke) → all_pokes ps ≡ Some more → All IsPoke more)
      → All IsPoke qs
  by (Some q) (Some more) one is k rest =
      let same : q ∷ more ≡ qs = cc in
      subst (All IsPoke) same (All-cons IsPoke q more (poke_told (u32_in p.at) p.bytes q (short_number p.at) one) (rest more is))
  by (Some q) None one is k rest = cc
  by None (Some more) one is k rest = cc
  by None None one is k rest = cc

answer_said : (name : List ℕ) (result : Option Said) (ticks : Option ℕ) (pokes : Option (List Poke)) → ((said : Said) → result ≡ Some said → SaidFits said)
    → ((n : ℕ) → ticks ≡ Some n → n < 2 ^ 32)
    → ((qs : List Poke) → pokes ≡ Some qs → All IsPoke qs) → MeaningFits (L.answer_of name result ticks pokes)
answer_said name (Some said) (Some n) (Some qs) r t h =
    (All-weaker IsPoke IsShort (λ p k. k.short) qs (h qs refl), record { said = r said refl; pokes = All-weaker IsPoke PokeFits (λ p k. k.fits) qs (h qs refl); ticks = t n refl })
answer_said name (Some said) (Some n) None r t h = tt
answer_said name (Some said) None (Some qs) r t h = tt
answer_said name (Some said) None None r t h = tt
answer_said name None (Some n) (Some qs) r t h = tt
answer_said name None (Some n) None r t h = tt
answer_said name None None (Some qs) r t h = tt
answer_said name None None None r t h = tt

with_said : (name result ticks : List ℕ) (o : Option (List PokeWords)) → MeaningFits (answer_with name result ticks o)
with_said name result ticks None = tt
with_said name result ticks (Some pokes) = answer_said name (result_in result) (u32_in ticks) (all_pokes pokes) (result_fits result) (short_number ticks) (pokes_told pokes)

answers_said : (name result : List ℕ) (words : List (List ℕ)) → MeaningFits (says_answer name result words)
answers_said name result [] = with_said name result (codes "0") (pokes_in [])
answers_said name result (k ∷ []) = with_said name result (codes "0") (pokes_in (k ∷ []))
answers_said name result (k ∷ n ∷ more) = by (bytes_eq k (codes "ticks")) where
  by : (b : Bool) → MeaningFits (if b then answer_with name result n (pokes_in more) else answer_with name result (codes "0") (pokes_in (k ∷ n ∷ more)))
  by true = with_said name result n (pokes_in more)
  by false = with_said name result (codes "0") (pokes_in (k ∷ n ∷ more))

-- ---- lines

said_fits : (k : Keyword) (words : List (List ℕ)) → MeaningFits (says k words)
said_fits program_word [] = tt
said_fits program_word (a ∷ []) = tt
said_fits program_word (a ∷ b ∷ more) = tt
said_fits imports_word [] = tt
said_fits imports_word (a ∷ []) = tt
said_fits imports_word (a ∷ b ∷ more) = tt
said_fits ignore_imports_word [] = tt
said_fits ignore_imports_word (a ∷ more) = tt
said_fits save_word [] = tt
said_fits save_word (a ∷ []) = policy_said a
said_fits save_word (a ∷ b ∷ more) = tt
said_fits area_word [] = tt
said_fits area_word (a ∷ []) = tt
said_fits area_word (a ∷ b ∷ []) = two_said has_area (u32_in a) (u32_in b) (λ x y. tt)
said_fits area_word (a ∷ b ∷ c ∷ more) = tt
said_fits steps_word [] = tt
said_fits steps_word (a ∷ []) = steps_said (number_within 1 1000000000 a) (λ n e. within_bounds 1 1000000000 (number_in a) n e)
said_fits steps_word (a ∷ b ∷ more) = tt
said_fits global_word [] = tt
said_fits global_word (a ∷ []) = tt
said_fits global_word (a ∷ b ∷ []) = said_unless (λ v. Ok (sets_global a v)) (value_in b) (λ v e. told_value b v e)
said_fits global_word (a ∷ b ∷ c ∷ more) = tt
said_fits device_word [] = tt
said_fits device_word (a ∷ []) = tt
said_fits device_word (a ∷ b ∷ []) = tt
said_fits device_word (a ∷ b ∷ c ∷ more) = tt
said_fits enter_word [] = tt
said_fits enter_word (a ∷ more) = said_unless (λ vs. Ok (enters a vs)) (all_values more) (λ vs e. told_values more vs e)
said_fits answer_word [] = tt
said_fits answer_word (a ∷ []) = tt
said_fits answer_word (a ∷ b ∷ more) = answers_said a b more
said_fits show_word [] = tt
said_fits show_word (a ∷ []) = tt
said_fits show_word (a ∷ b ∷ []) = two_said shows (u32_in a) (number_within 1 4096 b) (λ x y. tt)
said_fits show_word (a ∷ b ∷ c ∷ more) = tt
said_fits detach_word [] = tt
said_fits detach_word (a ∷ []) = tt
said_fits detach_word (a ∷ b ∷ []) = said_unless (λ n. Ok (detaches a n)) (number_within 1 (2 ^ 64 - 1) b) (λ n e. tt)
said_fits detach_word (a ∷ b ∷ c ∷ more) = tt
said_fits mailbox_word [] = tt
said_fits mailbox_word (a ∷ []) = tt
said_fits mailbox_word (a ∷ b ∷ more) = tt
said_fits strand_word [] = tt
said_fits strand_word (a ∷ []) = tt
said_fits strand_word (a ∷ b ∷ []) = two_said begins_strand (u32_in a) (u32_in b) (λ x y. tt)
said_fits strand_word (a ∷ b ∷ c ∷ more) = tt

said_with : (k : Option Keyword) (words : List (List ℕ)) → MeaningFits (says_with k words)
said_with None words = tt
said_with (Some k) words = said_fits k words

words_fit : (o : Option (List (List ℕ))) (s : Statement) → words_say o ≡ Ok (Some s) → SaysFit s
words_fit None s e = cc
words_fit (Some []) s e = cc
words_fit (Some (word ∷ words)) s e = by (says_with (keyword_in word) words) (said_with (keyword_in word) words) e where
  by : (r : Meaning) → MeaningFits r → L.told r ≡ Ok (Some s) → SaysFit s
  by (Ok s') h k =
      let same : s' ≡ s = cc in
      subst SaysFit same h
  by (Err rule) h k = cc

pub line_fits : (line : List ℕ) (s : Statement) → line_says line ≡ Ok (Some s) → SaysFit s
line_fits line s e = words_fit (line_words line) s e
