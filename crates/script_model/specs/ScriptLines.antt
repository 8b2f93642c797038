-- What a line of a script says.
use Rattle.std.specs.Prelude.{ℕ, ◌+◌, ◌-◌, ◌*◌, ◌^◌, ◌==◌, nat_lt, nat_le, ◌&&◌, ◌||◌, if◌then◌else◌, List, [], ◌∷◌, ◌++◌, length, map, Option, Some, None, Bool, true, false, Result, Ok, Err, codes}
use Rattle.std.specs.Option.{option_map, option_or}
use Rattle.std.specs.Str.{bytes_eq, is_utf8}
use Rattle.std.specs.List.{slice_split, filter, list_all, find}
use Rattle.std.specs.Fmt.{decimal}
use Rattle.wa_types.specs.declared.values.Value.{Value}
use Rattle.wa_types.specs.declared.values.Value.TheVariants as V
use Rattle.script_model.specs.Command.{behind}
use Rattle.wa_model.specs.declared.answers.Said.{Said}
use Rattle.wa_model.specs.declared.answers.Said.TheVariants as S
use Rattle.wa_model.specs.Outside.{Poke, AnswerLine}

-- ---- words

-- the byte that a hexadecimal digit of either case stands for
abbrev pub hex_value : ℕ → Option ℕ
hex_value c =
    if nat_le 48 c && nat_le c 57 then Some (c - 48)
    else (if nat_le 97 c && nat_le c 102 then Some (c - 87)
    else (if nat_le 65 c && nat_le c 70 then Some (c - 55) else None))

-- a byte by its two digits, where both are digits
abbrev pub joined_digits : Option ℕ → Option ℕ → Option ℕ
joined_digits (Some high) (Some low) = Some (high * 16 + low)
joined_digits _ _ = None

-- an item in front of others, where all are told
abbrev pub onto : {A : Type 0} → Option A → Option (List A) → Option (List A)
onto (Some x) (Some xs) = Some (x ∷ xs)
onto _ _ = None

-- the bytes that pairs of hexadecimal digits stand for
abbrev pub hex_bytes : List ℕ → Option (List ℕ)
hex_bytes [] = Some []
hex_bytes (c ∷ []) = None
hex_bytes (high ∷ low ∷ rest) = onto (joined_digits (hex_value high) (hex_value low)) (hex_bytes rest)

-- a byte in front of others, where it is told
abbrev pub behind_byte : List ℕ → Option ℕ → Option (List ℕ)
behind_byte rest None = None
behind_byte rest (Some b) = Some (b ∷ rest)

-- what stands behind a `%` begins with two hexadecimal digits, which stand for a byte
abbrev pub escaped : List ℕ → Option (List ℕ)
escaped (high ∷ low ∷ rest) = behind_byte rest (joined_digits (hex_value high) (hex_value low))
escaped _ = None

-- two texts as one, where both are told
abbrev pub both : Option (List ℕ) → Option (List ℕ) → Option (List ℕ)
both (Some text) (Some more) = Some (text ++ more)
both _ _ = None

-- the texts of all these parts
abbrev pub all_escaped : List (List ℕ) → Option (List ℕ)
all_escaped [] = Some []
all_escaped (part ∷ parts) = both (escaped part) (all_escaped parts)

-- the parts between the `%` of a word
abbrev pub unescaped_parts : List (List ℕ) → Option (List ℕ)
unescaped_parts [] = Some []
unescaped_parts (part ∷ parts) = both (Some part) (all_escaped parts)

-- a text that is told and is UTF-8
abbrev pub if_utf8 : Option (List ℕ) → Option (List ℕ)
if_utf8 None = None
if_utf8 (Some text) = if is_utf8 text then Some text else None

-- What a word says: `%hh` stands for a byte, and what comes out is UTF-8.
abbrev pub word_text : List ℕ → Option (List ℕ)
word_text word = if_utf8 (unescaped_parts (slice_split (λ b. b == 37) word))

-- all items, where each is told
abbrev pub all_told : List (Option (List ℕ)) → Option (List (List ℕ))
all_told [] = Some []
all_told (x ∷ xs) = onto x (all_told xs)

-- spaces and tabs stand between words
abbrev pub is_blank : ℕ → Bool
is_blank b = b == 32 || b == 9

-- a word isn't empty
abbrev pub has_bytes : List ℕ → Bool
has_bytes word = nat_lt 0 (length word)

-- the pieces between blanks that aren't empty
abbrev pub words_in : List ℕ → List (List ℕ)
words_in line = filter has_bytes (slice_split is_blank line)

-- the line begins with `#`
abbrev pub is_comment : List ℕ → Bool
is_comment [] = false
is_comment (b ∷ bs) = b == 35

-- the words of a line, what they say; a line that begins with `#` has none
abbrev pub line_words : List ℕ → Option (List (List ℕ))
line_words line = if is_utf8 line then (if is_comment line then Some [] else all_told (map word_text (words_in line))) else None

-- ---- numbers

-- a decimal digit
abbrev pub is_digit : ℕ → Bool
is_digit c = nat_le 48 c && nat_le c 57

-- the number of decimal digits, behind those before it
abbrev pub digits_value : (before : ℕ) → List ℕ → ℕ
digits_value n [] = n
digits_value n (c ∷ cs) = digits_value (n * 10 + (c - 48)) cs

-- a number is spelled as it is printed, in decimal without leading zeros
abbrev pub number_in : List ℕ → Option ℕ
number_in word = if list_all is_digit word && bytes_eq (decimal (digits_value 0 word)) word then Some (digits_value 0 word) else None

-- a number that is told and within these
abbrev pub if_within : (least most : ℕ) → Option ℕ → Option ℕ
if_within least most None = None
if_within least most (Some n) = if nat_le least n && nat_le n most then Some n else None

-- a number from `least` to `most`
abbrev pub number_within : (least most : ℕ) → List ℕ → Option ℕ
number_within least most word = if_within least most (number_in word)

-- a negative number stands for what is added to it modulo 2^width
abbrev pub negative : (width : ℕ) → Option ℕ → Option ℕ
negative width None = None
negative width (Some n) = Some (2 ^ width - n)

-- a number from the least signed to the greatest unsigned one of the width, as unsigned
abbrev pub integer_in : (width : ℕ) → List ℕ → Option ℕ
integer_in width [] = None
integer_in width (c ∷ cs) =
    if c == 45 then negative width (number_within 1 (2 ^ (width - 1)) cs) else number_within 0 (2 ^ width - 1) (c ∷ cs)

-- the value of 32 bits that digits spell, where they are told
abbrev pub i32_in : Option (List ℕ) → Option Value
i32_in None = None
i32_in (Some digits) = option_map V.I32 (integer_in 32 digits)

-- the value of 64 bits that digits spell, where they are told
abbrev pub i64_in : Option (List ℕ) → Option Value
i64_in None = None
i64_in (Some digits) = option_map V.I64 (integer_in 64 digits)

-- `i32:N` or `i64:N`
abbrev pub value_in : List ℕ → Option Value
value_in word = option_or (i32_in (behind (codes "i32:") word)) (i64_in (behind (codes "i64:") word))

-- from 1 to 65,536 bytes in hexadecimal digits
abbrev pub hex_in : List ℕ → Option (List ℕ)
hex_in word = if nat_le 2 (length word) && nat_le (length word) 131072 then hex_bytes word else None

-- a number of 32 bits
abbrev pub u32_in : List ℕ → Option ℕ
u32_in word = number_within 0 (2 ^ 32 - 1) word

-- values, one a word
abbrev pub all_values : List (List ℕ) → Option (List Value)
all_values [] = Some []
all_values (word ∷ words) = onto (value_in word) (all_values words)

-- ---- what lines say

-- What a line of a script says.
pub data Statement : Type 0 where
  begins_program : (path : List ℕ) → Statement
  lists_imports : (list : List ℕ) → Statement
  ignores_imports : Statement
  saves : (live : Bool) → Statement
  has_area : (at len : ℕ) → Statement
  has_steps : (n : ℕ) → Statement
  sets_global : (name : List ℕ) → (value : Value) → Statement
  binds : (import device : List ℕ) → Statement
  enters : (name : List ℕ) → (args : List Value) → Statement
  answers : (line : AnswerLine) → Statement
  shows : (at len : ℕ) → Statement
  detaches : (device : List ℕ) → (before : ℕ) → Statement
  has_mailbox : (name : List ℕ) → Statement
  begins_strand : (at len : ℕ) → Statement

-- the first words of lines
pub data Keyword : Type 0 where
  program_word imports_word ignore_imports_word save_word area_word steps_word global_word device_word enter_word answer_word show_word detach_word mailbox_word strand_word : Keyword

-- A keyword and how it is spelled.
pub record Spelling : Type 0 where
  pub text : List ℕ
  pub keyword : Keyword

-- all keywords
abbrev pub keywords : List Spelling
keywords =
    record { text = codes "program"; keyword = program_word }
    ∷ record { text = codes "imports"; keyword = imports_word }
    ∷ record { text = codes "ignore-imports"; keyword = ignore_imports_word }
    ∷ record { text = codes "save"; keyword = save_word }
    ∷ record { text = codes "area"; keyword = area_word }
    ∷ record { text = codes "steps"; keyword = steps_word }
    ∷ record { text = codes "global"; keyword = global_word }
    ∷ record { text = codes "device"; keyword = device_word }
    ∷ record { text = codes "enter"; keyword = enter_word }
    ∷ record { text = codes "answer"; keyword = answer_word }
    ∷ record { text = codes "show"; keyword = show_word }
    ∷ record { text = codes "detach"; keyword = detach_word }
    ∷ record { text = codes "mailbox"; keyword = mailbox_word }
    ∷ record { text = codes "strand"; keyword = strand_word }
    ∷ []

-- the keyword that a word is
abbrev pub keyword_in : List ℕ → Option Keyword
keyword_in word = option_map (λ (s : Spelling). s.keyword) (find (λ (s : Spelling). bytes_eq s.text word) keywords)

-- A line says a statement, or breaks the rule of this number: 3 where the number or form of its words is wrong, 4 where a number, a
-- value or bytes are.
abbrev pub Meaning : Type 0
Meaning = Result Statement ℕ

-- what is said of a number, a value or bytes, which break rule 4 where they aren't spelled
abbrev pub unless_none : {A : Type 0} → (A → Meaning) → Option A → Meaning
unless_none says None = Err 4
unless_none says (Some x) = says x

-- two numbers
abbrev pub says_two : (ℕ → ℕ → Statement) → Option ℕ → Option ℕ → Meaning
says_two says (Some a) (Some b) = Ok (says a b)
says_two says _ _ = Err 4

-- `all` or `live`
abbrev pub says_policy : List ℕ → Meaning
says_policy word = if bytes_eq word (codes "all") then Ok (saves false) else (if bytes_eq word (codes "live") then Ok (saves true) else Err 3)

-- the words of a poke: a place and bytes
pub record PokeWords : Type 0 where
  pub at : List ℕ
  pub bytes : List ℕ

-- the words of a poke in front of others, where they begin as one
abbrev pub poke_if : Bool → PokeWords → Option (List PokeWords) → Option (List PokeWords)
poke_if true p rest = onto (Some p) rest
poke_if false p rest = None

-- `poke AT HEX`, any number of times
abbrev pub pokes_in : List (List ℕ) → Option (List PokeWords)
pokes_in [] = Some []
pokes_in (k ∷ at ∷ bytes ∷ rest) = poke_if (bytes_eq k (codes "poke")) (record { at = at; bytes = bytes }) (pokes_in rest)
pokes_in _ = None

-- a poke, where its place and its bytes are told
abbrev pub poke_of : Option ℕ → Option (List ℕ) → Option Poke
poke_of (Some at) (Some bytes) = Some (record { at = at; bytes = bytes })
poke_of _ _ = None

-- the pokes that these words spell
abbrev pub all_pokes : List PokeWords → Option (List Poke)
all_pokes [] = Some []
all_pokes (p ∷ ps) = onto (poke_of (u32_in p.at) (hex_in p.bytes)) (all_pokes ps)

-- a VALUE, `none` or `trap`
abbrev pub result_in : List ℕ → Option Said
result_in word =
    if bytes_eq word (codes "none") then Some (S.Value None)
    else if bytes_eq word (codes "trap") then Some S.Trap
    else option_map (λ (v : Value). S.Value (Some v)) (value_in word)

-- an answer, where all its parts are told
abbrev pub answer_of : (name : List ℕ) → Option Said → Option ℕ → Option (List Poke) → Meaning
answer_of name (Some said) (Some ticks) (Some pokes) = Ok (answers (record { import = name; answer = record { said = said; pokes = pokes; ticks = ticks } }))
answer_of name _ _ _ = Err 4

-- an answer by its words, where those behind the ticks are of pokes
abbrev pub answer_with : (name result ticks : List ℕ) → Option (List PokeWords) → Meaning
answer_with name result ticks None = Err 3
answer_with name result ticks (Some pokes) = answer_of name (result_in result) (u32_in ticks) (all_pokes pokes)

-- `[ticks N] [poke AT HEX]*` behind a result
abbrev pub says_answer : (name result : List ℕ) → List (List ℕ) → Meaning
says_answer name result (k ∷ n ∷ more) =
    if bytes_eq k (codes "ticks") then answer_with name result n (pokes_in more) else answer_with name result (codes "0") (pokes_in (k ∷ n ∷ more))
says_answer name result more = answer_with name result (codes "0") (pokes_in more)

-- the words behind the first one
abbrev pub says : Keyword → List (List ℕ) → Meaning
says program_word (path ∷ []) = Ok (begins_program path)
says imports_word (list ∷ []) = Ok (lists_imports list)
says ignore_imports_word [] = Ok ignores_imports
says save_word (policy ∷ []) = says_policy policy
says area_word (at ∷ len ∷ []) = says_two has_area (u32_in at) (u32_in len)
says steps_word (n ∷ []) = unless_none (λ n. Ok (has_steps n)) (number_within 1 1000000000 n)
says global_word (name ∷ value ∷ []) = unless_none (λ v. Ok (sets_global name v)) (value_in value)
says device_word (import ∷ device ∷ []) = Ok (binds import device)
says enter_word (name ∷ args) = unless_none (λ vs. Ok (enters name vs)) (all_values args)
says answer_word (name ∷ result ∷ more) = says_answer name result more
says show_word (at ∷ len ∷ []) = says_two shows (u32_in at) (number_within 1 4096 len)
says detach_word (device ∷ before ∷ []) = unless_none (λ n. Ok (detaches device n)) (number_within 1 (2 ^ 64 - 1) before)
says mailbox_word (name ∷ []) = Ok (has_mailbox name)
says strand_word (at ∷ len ∷ []) = says_two begins_strand (u32_in at) (u32_in len)
says _ _ = Err 3

-- what the words behind the first one say, where that is a keyword
abbrev pub says_with : Option Keyword → List (List ℕ) → Meaning
says_with None words = Err 2
says_with (Some k) words = says k words

-- what is said, as told
abbrev pub told : {A : Type 0} → Result A ℕ → Result (Option A) ℕ
told (Ok x) = Ok (Some x)
told (Err rule) = Err rule

-- what words say, where there are any; the line is UTF-8 and its words are told
abbrev pub words_say : Option (List (List ℕ)) → Result (Option Statement) ℕ
words_say None = Err 1
words_say (Some []) = Ok None
words_say (Some (word ∷ words)) = told (says_with (keyword_in word) words)

-- What a line says: nothing where it has no words or begins with `#`, else a statement; or the rule of 1 to 4 that it breaks, the
-- least one.
abbrev pub line_says : List ℕ → Result (Option Statement) ℕ
line_says line = words_say (line_words line)
