-- The strands of a program one after another, their areas and their entries.
use Rattle.std.proofs.Common.{arith, ◌≡◌, ℕ, ◌+◌, ◌-◌, ◌<◌, ◌≤◌, List, [], ◌∷◌, ◌++◌, length, map, get_or, take, drop, slice_get, Option, Some, None, Bool, true, false, ◌||◌, ap, sym, ◌∙◌, refl, if◌then◌else◌, append_assoc, append-nil}
use Rattle.std.specs.List.{list_any}
use Rattle.std.specs.Option.{option_map, unwrap_or}
use Rattle.std.proofs.lemmas.List.{length-map, map-append, map_more}
use Rattle.std.proofs.lemmas.Option.{slice_get-map, slice_get_read}
use Rattle.wa_model.specs.declared.answers.Area.{Area}
use Rattle.wa_model.specs.Blocking.{overlap}
use Rattle.run_theory.proofs.GrownSteps.{front}
use Rattle.run_theory.proofs.RuntimeValid.{behind}
use Rattle.script_model.specs.Script as T
use Rattle.script_model.specs.ScriptText.{AreaText}
use Rattle.host_setup.specs.SetUp.{NamedEntry}
use Rattle.host_setup.specs.declared.entries.Entry.{Entry}
use Rattle.host_setup.specs.Views.{entry_of as named_entry_of}
use Rattle.script_reader.specs.declared.script.EntryText.{EntryText}
use Rattle.script_reader.specs.declared.script.StrandText.{StrandText}
use Rattle.script_reader.specs.Views.{entry_of, strand_of}
use Rattle.script_setup.specs.SetUpRules.{asked_from, entries_then, named_entry, overlap_line, overlaps, overlaps_one, shares_byte, worse}
use Rattle.script_setup.specs.Views.{earlier_areas, line_among}
use Rattle.script_setup.proofs.Gathered.{all_gone, front_is}

-- the strands behind the first so many
abbrev pub strands_left : List StrandText → ℕ → List T.StrandText
strands_left xs i = map strand_of (drop i xs)

next_left : (xs : List StrandText) (i : ℕ) (x : StrandText) → i < length xs → x ≡ get_or xs i x → strands_left xs i ≡ strand_of x ∷ strands_left xs (i + 1)
next_left xs i x lt at = ap (λ (ys : List StrandText). map strand_of ys) (front_is xs i x lt at)

none_left : (xs : List StrandText) (i : ℕ) → length xs ≤ i → strands_left xs i ≡ []
none_left xs i le = ap (λ (ys : List StrandText). map strand_of ys) (all_gone xs i le)

-- ---- the area that is asked

module _ (pages : ℕ) (xs : List StrandText) (i : ℕ) (a whole : AreaText) (before : whole ≡ asked_from pages a (strands_left xs i)) where
  pub asked_next : (x : StrandText) → i < length xs → x ≡ get_or xs i x → (next : AreaText) → worse pages a (record { line = x.line; area = x.area }) ≡ next
      → whole ≡ asked_from pages next (strands_left xs (i + 1))
  asked_next x lt at next is =
      before ∙ ap (asked_from pages a) (next_left xs i x lt at) ∙ ap (λ (b : AreaText). asked_from pages b (strands_left xs (i + 1))) is

  pub asked_last : length xs ≤ i → whole ≡ a
  asked_last le = before ∙ ap (asked_from pages a) (none_left xs i le)

-- ---- areas that overlap

-- a test that the first part decides, and one that it leaves to the second
pub or_first : (a b r : Bool) → r ≡ a → r ≡ true → (a || b) ≡ r
or_first true b r e t = sym t
or_first false b r e t = cc

pub or_second : (a b r s : Bool) → r ≡ a → r ≡ false → s ≡ b → (a || b) ≡ s
or_second true b r s e f g = cc
or_second false b r s e f g = sym g

or_false : (b : Bool) → (b || false) ≡ b
or_false true = refl
or_false false = refl

-- a range of memory that has a byte of one of the areas
pub overlaps_any : (area : Area) (xs : List StrandText) (s : T.ShowText)
    → overlaps_one area (map strand_of xs) s ≡ (overlaps area s || list_any (λ (x : StrandText). overlaps x.area s) xs)
overlaps_any area [] s = sym (or_false (overlaps area s))
overlaps_any area (x ∷ xs) s = ap (λ (b : Bool). overlaps area s || b) (overlaps_any x.area xs s)

-- an area that shares a byte with one of these strands'
pub shares_any : (xs : List StrandText) (a : Area) → shares_byte (earlier_areas xs) a ≡ list_any (λ (x : StrandText). overlap x.area.at x.area.len a.at a.len) xs
shares_any [] a = refl
shares_any (x ∷ xs) a = ap (λ (b : Bool). overlap x.area.at x.area.len a.at a.len || b) (shares_any xs a)

module _ (own : Area) (xs : List StrandText) (i : ℕ) (whole : Option ℕ) (before : whole ≡ overlap_line (own ∷ earlier_areas (take i xs)) (strands_left xs i)) where
  pub overlap_next : (x : StrandText) → i < length xs → x ≡ get_or xs i x → shares_byte (own ∷ earlier_areas (take i xs)) x.area ≡ false
      → whole ≡ overlap_line (own ∷ earlier_areas (take (i + 1) xs)) (strands_left xs (i + 1))
  overlap_next x lt at off =
      before ∙ ap (overlap_line (own ∷ earlier_areas (take i xs))) (next_left xs i x lt at)
      ∙ ap (λ (b : Bool). if b then Some x.line else overlap_line ((own ∷ earlier_areas (take i xs)) ++ x.area ∷ []) (strands_left xs (i + 1))) off
      ∙ ap (λ (y : StrandText). overlap_line (own ∷ (earlier_areas (take i xs) ++ y.area ∷ [])) (strands_left xs (i + 1))) at
      ∙ ap (λ (areas : List Area). overlap_line (own ∷ areas) (strands_left xs (i + 1))) (sym (map_more (λ (s : StrandText). s.area) xs i x lt))

  pub overlap_here : (x : StrandText) → i < length xs → x ≡ get_or xs i x → shares_byte (own ∷ earlier_areas (take i xs)) x.area ≡ true → whole ≡ Some x.line
  overlap_here x lt at on =
      before ∙ ap (overlap_line (own ∷ earlier_areas (take i xs))) (next_left xs i x lt at)
      ∙ ap (λ (b : Bool). if b then Some x.line else overlap_line ((own ∷ earlier_areas (take i xs)) ++ x.area ∷ []) (strands_left xs (i + 1))) on

  pub overlap_nowhere : length xs ≤ i → whole ≡ None
  overlap_nowhere le = before ∙ ap (overlap_line (own ∷ earlier_areas (take i xs))) (none_left xs i le)

-- ---- entries

-- the entries of these strands, in order
abbrev pub entries_of_all : List T.StrandText → List T.EntryText
entries_of_all ss = entries_then [] ss

pub entries_behind : (es : List T.EntryText) (ss : List T.StrandText) → entries_then es ss ≡ es ++ entries_of_all ss
entries_behind es [] = sym (append-nil es)
entries_behind es (s ∷ ss) = refl

next_entries : (xs : List StrandText) (i : ℕ) (x : StrandText) → i < length xs → x ≡ get_or xs i x
    → entries_of_all (strands_left xs i) ≡ map entry_of x.entries.items ++ entries_of_all (strands_left xs (i + 1))
next_entries xs i x lt at =
    ap (λ (ss : List T.StrandText). entries_of_all ss) (next_left xs i x lt at) ∙ entries_behind (map entry_of x.entries.items) (strands_left xs (i + 1))

abbrev named : List T.EntryText → List NamedEntry
named es = map named_entry es

-- these entries of the program's own, and those of further strands
pub first_put : (es : List T.EntryText) (ss : List T.StrandText) (done : List Entry) → map named_entry_of done ≡ named es → named (entries_then es ss) ≡ map named_entry_of done ++ named (entries_of_all ss)
first_put es ss done e =
    ap named (entries_behind es ss) ∙ map-append named_entry es (entries_of_all ss) ∙ ap (λ (ns : List NamedEntry). ns ++ named (entries_of_all ss)) (sym e)

-- .. those of one more
pub more_put : (xs : List StrandText) (i : ℕ) (x : StrandText) (done new : List Entry) (whole : List NamedEntry) → i < length xs → x ≡ get_or xs i x
    → map named_entry_of new ≡ map named_entry_of done ++ named (map entry_of x.entries.items)
    → whole ≡ map named_entry_of done ++ named (entries_of_all (strands_left xs i)) → whole ≡ map named_entry_of new ++ named (entries_of_all (strands_left xs (i + 1)))
more_put xs i x done new whole lt at is before =
    before
    ∙ ap (λ (es : List T.EntryText). map named_entry_of done ++ named es) (next_entries xs i x lt at)
    ∙ ap (λ (ns : List NamedEntry). map named_entry_of done ++ ns) (map-append named_entry (map entry_of x.entries.items) (entries_of_all (strands_left xs (i + 1))))
    ∙ sym (append_assoc (map named_entry_of done) (named (map entry_of x.entries.items)) (named (entries_of_all (strands_left xs (i + 1)))))
    ∙ ap (λ (ns : List NamedEntry). ns ++ named (entries_of_all (strands_left xs (i + 1)))) (sym is)

-- .. those of all
pub all_put : (xs : List StrandText) (i : ℕ) (done : List Entry) (whole : List NamedEntry) → length xs ≤ i → whole ≡ map named_entry_of done ++ named (entries_of_all (strands_left xs i))
    → map named_entry_of done ≡ whole
all_put xs i done whole le before = sym (before ∙ ap (λ (ss : List T.StrandText). map named_entry_of done ++ named (entries_of_all ss)) (none_left xs i le) ∙ append-nil (map named_entry_of done))

-- ---- the line of an entry

abbrev line_of : Option T.EntryText → ℕ
line_of o = unwrap_or (option_map (λ (e : T.EntryText). e.line) o) 0

module _ (es ys : List EntryText) (same : ys ≡ es) (more : List T.EntryText) (i : ℕ) where
  -- an entry that is one of the first
  pub line_here : (e : EntryText) → i < length ys → e ≡ get_or ys i e → e.line ≡ line_among (map entry_of es ++ more) i
  line_here e lt at =
      let n = length-map es entry_of in
      let m = ap length same in
      let there : slice_get es i ≡ Some e = ap (λ (zs : List EntryText). slice_get zs i) (sym same) ∙ slice_get_read ys (length ys) i e refl lt at in
      sym (ap line_of (front (map entry_of es) more i (omega (arith, n, m, lt)) ∙ slice_get-map entry_of es i ∙ ap (option_map entry_of) there))

  -- .. and one that is behind them
  pub line_later : length ys ≤ i → line_among more (i - length es) ≡ line_among (map entry_of es ++ more) i
  line_later le =
      let n = length-map es entry_of in
      let m = ap length same in
      sym (ap line_of (behind (map entry_of es) more i (i - length es) (omega (arith, n, m, le))))

module _ (xs : List StrandText) (i : ℕ) (x : StrandText) (left whole : ℕ) (lt : i < length xs) (at : x ≡ get_or xs i x)
    (before : whole ≡ line_among (entries_of_all (strands_left xs i)) left) where
  abbrev further : List T.EntryText
  further = entries_of_all (strands_left xs (i + 1))

  module _ (ys : List EntryText) (same : ys ≡ x.entries.items) where
    -- an entry of the next strand
    pub line_found : (e : EntryText) → left < length ys → e ≡ get_or ys left e → e.line ≡ whole
    line_found e le is =
        line_here x.entries.items ys same further left e le is ∙ ap (λ (es : List T.EntryText). line_among es left) (sym (next_entries xs i x lt at)) ∙ sym before

    -- .. or one behind it
    pub line_passed : (n : ℕ) → n ≡ length x.entries.items → length ys ≤ left → whole ≡ line_among further (left - n)
    line_passed n many le =
        before ∙ ap (λ (es : List T.EntryText). line_among es left) (next_entries xs i x lt at) ∙ sym (line_later x.entries.items ys same further left le)
        ∙ ap (λ k. line_among further (left - k)) (sym many)
