-- What the marks of a file are, by its sections.
use Rattle.std.proofs.Common.{take, drop, Some, ◌≡◌, ℕ, ◌+◌, ◌<◌, ◌≤◌, ◌^◌, List, [], ◌∷◌, ◌++◌, map, Option, None, refl, ap, sym, ◌∙◌, subst, arith, append_assoc, length, length-append}
use Rattle.std.proofs.lemmas.List.{take-append-drop}
use Rattle.std.specs.List.{All, flat_map}
use Rattle.std.proofs.lemmas.List.Concat.{flat_map_single}
use Rattle.std.proofs.lemmas.List.Elements.{All-nil, All-cons}
use Rattle.wa_types.specs.Begun.{Goal, sections, start as start_goals}
use Rattle.wa_types.specs.Binary.{RawType, RawKind, raw_func, raw_table, raw_memory, raw_global, RawImport, RawGlobal, RawElem, RawBody, RawSegment, Section, types, imports, functions, globals, elements, bodies, segments}
use Rattle.wa_types.specs.Spells.{Spells, sorts_in, bodies_in}
use Rattle.wa_types.specs.Reading.{types_in, imports_in}
use Rattle.wa_types.specs.Marks.{float_type, code_floats, type_floats, kind_floats, body_floats, kind_sorts, code_opens, section_floats, section_opens, floats, opens, imported_sorts, function_count, parameter_counts, body_sizes, first_above}
use Rattle.wa_types.specs.ModuleBounds.{ModuleBounds}
use Rattle.file_laws.specs.declared.marks.Marks.{Marks}
use Rattle.file_laws.specs.Showing.{Seen, nothing_seen, both, first_of, total, Noted, no_marks, MarksAlong}
use Rattle.file_laws.specs.Found.{IsFirst, MarksOf}
use Rattle.file_laws.proofs.Noting.{total_both}
use Rattle.file_laws.proofs.Showings.{Within, held_along, one_showing, shows_front}
use Rattle.file_laws.proofs.Telling.{seen_in, seen_kind}
use Rattle.file_laws.proofs.TellingEntries.{seen_type, seen_import, seen_global, seen_element, seen_body, seen_segment}
use Rattle.file_laws.proofs.TellingFile.{seen_section, file_shows}

all_above : (ks : List ℕ) (low high k : ℕ) → k ≤ low → Within low high ks → All (λ j. k ≤ j) ks
all_above [] low high k e h = All-nil (λ j. k ≤ j)
all_above (j ∷ ks) low high k e h = All-cons (λ i. k ≤ i) j ks (omega (arith, e, h.0)) (all_above ks (j + 1) high k (omega (arith, e, h.0)) h.1)

-- the first of rising offsets is the least
first_is_least : (ks : List ℕ) (low high : ℕ) → Within low high ks → IsFirst (first_of None ks) ks
first_is_least [] low high h = refl
first_is_least (k ∷ ks) low high h = record {
  among = (0, omega arith, refl);
  least = All-cons (λ j. k ≤ j) k ks (omega arith) (all_above ks (k + 1) high k (omega arith) h.1);
}

flat_nothing : {X : Type 0} (xs : List X) → flat_map {A = ℕ} (λ x. []) xs ≡ []
flat_nothing [] = refl
flat_nothing (x ∷ xs) = flat_nothing xs

flat_both : {X : Type 0} (f : X → List ℕ) (xs ys : List X) → flat_map f (xs ++ ys) ≡ flat_map f xs ++ flat_map f ys
flat_both f [] ys = refl
flat_both f (x ∷ xs) ys = ap (λ z. f x ++ z) (flat_both f xs ys) ∙ sym (append_assoc (f x) (flat_map f xs) (flat_map f ys))

map_both : {X : Type 0} (f : X → ℕ) (xs ys : List X) → map f (xs ++ ys) ≡ map f xs ++ map f ys
map_both f [] ys = refl
map_both f (x ∷ xs) ys = ap (λ z. f x ∷ z) (map_both f xs ys)

-- one kind of what is seen
module _ (get : Seen → List ℕ) (none : get nothing_seen ≡ []) (join : (s t : Seen) → get (both s t) ≡ get s ++ get t) where
  pub in_all : {X : Type 0} (f : X → Seen) (g : X → List ℕ) → ((x : X) → get (f x) ≡ g x) → (xs : List X) → get (seen_in f xs) ≡ flat_map g xs
  in_all f g h [] = none
  in_all f g h (x ∷ xs) = join (f x) (seen_in f xs) ∙ ap (λ z. z ++ get (seen_in f xs)) (h x) ∙ ap (λ z. g x ++ z) (in_all f g h xs)

  pub in_none : {X : Type 0} (f : X → Seen) → ((x : X) → get (f x) ≡ []) → (xs : List X) → get (seen_in f xs) ≡ []
  in_none f h xs = in_all f (λ x. []) h xs ∙ flat_nothing xs

floats_in : {X : Type 0} (f : X → Seen) (g : X → List ℕ) → ((x : X) → (f x).floats_at ≡ g x) → (xs : List X) → (seen_in f xs).floats_at ≡ flat_map g xs
floats_in f g h xs = in_all (λ s. s.floats_at) refl (λ s t. refl) f g h xs

opens_in : {X : Type 0} (f : X → Seen) (g : X → List ℕ) → ((x : X) → (f x).opens_at ≡ g x) → (xs : List X) → (seen_in f xs).opens_at ≡ flat_map g xs
opens_in f g h xs = in_all (λ s. s.opens_at) refl (λ s t. refl) f g h xs

no_opens : {X : Type 0} (f : X → Seen) → ((x : X) → (f x).opens_at ≡ []) → (xs : List X) → (seen_in f xs).opens_at ≡ []
no_opens f h xs = in_none (λ s. s.opens_at) refl (λ s t. refl) f h xs

no_counts : {X : Type 0} (f : X → Seen) → ((x : X) → (f x).counts ≡ []) → (xs : List X) → (seen_in f xs).counts ≡ []
no_counts f h xs = in_none (λ s. s.counts) refl (λ s t. refl) f h xs

no_params : {X : Type 0} (f : X → Seen) → ((x : X) → (f x).params ≡ []) → (xs : List X) → (seen_in f xs).params ≡ []
no_params f h xs = in_none (λ s. s.params) refl (λ s t. refl) f h xs

no_sizes : {X : Type 0} (f : X → Seen) → ((x : X) → (f x).sizes ≡ []) → (xs : List X) → (seen_in f xs).sizes ≡ []
no_sizes f h xs = in_none (λ s. s.sizes) refl (λ s t. refl) f h xs

-- What is imported.

kind_floats_of : (k : RawKind) → (seen_kind k).floats_at ≡ kind_floats k
kind_floats_of (raw_func sort) = refl
kind_floats_of (raw_table l) = refl
kind_floats_of (raw_memory l) = refl
kind_floats_of (raw_global t m) = refl

kind_alone : (k : RawKind) → ((seen_kind k).opens_at ≡ []) × ((seen_kind k).params ≡ []) × ((seen_kind k).sizes ≡ [])
kind_alone (raw_func sort) = (refl, refl, refl)
kind_alone (raw_table l) = (refl, refl, refl)
kind_alone (raw_memory l) = (refl, refl, refl)
kind_alone (raw_global t m) = (refl, refl, refl)

kind_counts : (k : RawKind) → total (seen_kind k).counts ≡ length (kind_sorts k)
kind_counts (raw_func sort) = omega arith
kind_counts (raw_table l) = omega arith
kind_counts (raw_memory l) = omega arith
kind_counts (raw_global t m) = omega arith

abbrev sorts_of_import : RawImport → List ℕ
sorts_of_import i = kind_sorts i.kind

total_none : (ns : List ℕ) → ns ≡ [] → total ns ≡ 0
total_none ns e = ap total e

total_one : (n : ℕ) → total (n ∷ []) ≡ n
total_one n = omega arith

import_counts : (xs : List RawImport) → total (seen_in seen_import xs).counts ≡ length (flat_map sorts_of_import xs)
import_counts [] = total_none [] refl
import_counts (x ∷ xs) =
    omega (arith, total_both (seen_kind x.kind).counts (seen_in seen_import xs).counts, kind_counts x.kind, import_counts xs, length-append (kind_sorts x.kind) (flat_map sorts_of_import xs))

-- Sections, by the definitions of marks.

floats_of : (b : ModuleBounds) (s : Section) → (seen_section b s).floats_at ≡ section_floats s
floats_of b (types xs) = floats_in seen_type type_floats (λ x. refl) xs
floats_of b (imports xs) = floats_in seen_import (λ (i : RawImport). kind_floats i.kind) (λ x. kind_floats_of x.kind) xs
floats_of b (functions xs) = refl
floats_of b (globals xs) = floats_in (seen_global b) (λ (g : RawGlobal). float_type g.ty ++ code_floats g.init) (λ x. refl) xs
floats_of b (elements xs) = floats_in (seen_element b) (λ (e : RawElem). code_floats e.offset) (λ x. refl) xs
floats_of b (bodies xs) = floats_in (seen_body b) body_floats (λ x. refl) xs
floats_of b (segments xs) = floats_in (seen_segment b) (λ (s : RawSegment). code_floats s.offset) (λ x. refl) xs
floats_of b _ = refl

opens_of : (b : ModuleBounds) (s : Section) → (seen_section b s).opens_at ≡ section_opens b.nesting s
opens_of b (types xs) = no_opens seen_type (λ x. refl) xs
opens_of b (imports xs) = no_opens seen_import (λ x. (kind_alone x.kind).0) xs
opens_of b (functions xs) = refl
opens_of b (globals xs) = opens_in (seen_global b) (λ (g : RawGlobal). code_opens b.nesting 0 g.init) (λ x. refl) xs
opens_of b (elements xs) = opens_in (seen_element b) (λ (e : RawElem). code_opens b.nesting 0 e.offset) (λ x. refl) xs
opens_of b (bodies xs) = opens_in (seen_body b) (λ (x : RawBody). code_opens b.nesting 0 x.code) (λ x. refl) xs
opens_of b (segments xs) = opens_in (seen_segment b) (λ (s : RawSegment). code_opens b.nesting 0 s.offset) (λ x. refl) xs
opens_of b _ = refl

counts_of : (b : ModuleBounds) (s : Section) → total (seen_section b s).counts ≡ length (flat_map sorts_of_import (imports_in s)) + length (sorts_in s)
counts_of b (types xs) = omega (arith, total_none (seen_in seen_type xs).counts (no_counts seen_type (λ x. refl) xs))
counts_of b (imports xs) = omega (arith, import_counts xs)
counts_of b (functions xs) = omega (arith, total_one (length xs))
counts_of b (globals xs) = omega (arith, total_none (seen_in (seen_global b) xs).counts (no_counts (seen_global b) (λ x. refl) xs))
counts_of b (elements xs) = omega (arith, total_none (seen_in (seen_element b) xs).counts (no_counts (seen_element b) (λ x. refl) xs))
counts_of b (bodies xs) = omega (arith, total_none (seen_in (seen_body b) xs).counts (no_counts (seen_body b) (λ x. refl) xs))
counts_of b (segments xs) = omega (arith, total_none (seen_in (seen_segment b) xs).counts (no_counts (seen_segment b) (λ x. refl) xs))
counts_of b _ = omega (arith, total_none [] refl)

counts_all : (b : ModuleBounds) (ss : List Section) → total (seen_in (seen_section b) ss).counts ≡ function_count ss
counts_all b [] = omega (arith, total_none [] refl)
counts_all b (s ∷ ss) =
    omega (
      arith,
      total_both (seen_section b s).counts (seen_in (seen_section b) ss).counts,
      counts_of b s,
      counts_all b ss,
      ap length (flat_both sorts_of_import (imports_in s) (flat_map imports_in ss)),
      length-append (flat_map sorts_of_import (imports_in s)) (imported_sorts ss),
      length-append (sorts_in s) (flat_map sorts_in ss),
    )

abbrev params_of : RawType → ℕ
params_of t = length t.params

type_params : (xs : List RawType) → (seen_in seen_type xs).params ≡ map params_of xs
type_params xs = in_all (λ s. s.params) refl (λ s t. refl) seen_type (λ (t : RawType). length t.params ∷ []) (λ x. refl) xs ∙ flat_map_single params_of xs

parameters_of : (b : ModuleBounds) (s : Section) → (seen_section b s).params ≡ map params_of (types_in s)
parameters_of b (types xs) = type_params xs
parameters_of b (imports xs) = no_params seen_import (λ x. (kind_alone x.kind).1) xs
parameters_of b (functions xs) = refl
parameters_of b (globals xs) = no_params (seen_global b) (λ x. refl) xs
parameters_of b (elements xs) = no_params (seen_element b) (λ x. refl) xs
parameters_of b (bodies xs) = no_params (seen_body b) (λ x. refl) xs
parameters_of b (segments xs) = no_params (seen_segment b) (λ x. refl) xs
parameters_of b _ = refl

parameters_all : (b : ModuleBounds) (ss : List Section) → (seen_in (seen_section b) ss).params ≡ parameter_counts ss
parameters_all b [] = refl
parameters_all b (s ∷ ss) =
    ap (λ z. z ++ (seen_in (seen_section b) ss).params) (parameters_of b s) ∙ ap (λ z. map params_of (types_in s) ++ z) (parameters_all b ss)
    ∙ sym (map_both params_of (types_in s) (flat_map types_in ss))

abbrev size_of : RawBody → ℕ
size_of x = x.size

body_sizes_of : (b : ModuleBounds) (xs : List RawBody) → (seen_in (seen_body b) xs).sizes ≡ map size_of xs
body_sizes_of b xs = in_all (λ s. s.sizes) refl (λ s t. refl) (seen_body b) (λ (x : RawBody). x.size ∷ []) (λ x. refl) xs ∙ flat_map_single size_of xs

sizes_of : (b : ModuleBounds) (s : Section) → (seen_section b s).sizes ≡ map size_of (bodies_in s)
sizes_of b (types xs) = no_sizes seen_type (λ x. refl) xs
sizes_of b (imports xs) = no_sizes seen_import (λ x. (kind_alone x.kind).2) xs
sizes_of b (functions xs) = refl
sizes_of b (globals xs) = no_sizes (seen_global b) (λ x. refl) xs
sizes_of b (elements xs) = no_sizes (seen_element b) (λ x. refl) xs
sizes_of b (bodies xs) = body_sizes_of b xs
sizes_of b (segments xs) = no_sizes (seen_segment b) (λ x. refl) xs
sizes_of b _ = refl

sizes_all : (b : ModuleBounds) (ss : List Section) → (seen_in (seen_section b) ss).sizes ≡ body_sizes ss
sizes_all b [] = refl
sizes_all b (s ∷ ss) =
    ap (λ z. z ++ (seen_in (seen_section b) ss).sizes) (sizes_of b s) ∙ ap (λ z. map size_of (bodies_in s) ++ z) (sizes_all b ss) ∙ sym (map_both size_of (bodies_in s) (flat_map bodies_in ss))

first_in : (o : Option ℕ) (ks js : List ℕ) (high : ℕ) → o ≡ first_of None ks → ks ≡ js → Within 0 high ks → IsFirst o js
first_in o ks js high e f h = subst (λ z. IsFirst z js) (sym e) (subst (λ z. IsFirst (first_of None ks) z) f (first_is_least ks 0 high h))

noted_of : (b : ModuleBounds) (bytes : List ℕ) (ss : List Section) (m : Marks) → (fin : ℕ) → Noted b (seen_in (seen_section b) ss) no_marks m → length bytes < 2 ^ 32
    → Within 0 (0 + length bytes) (seen_in (seen_section b) ss).floats_at → Within 0 (0 + length bytes) (seen_in (seen_section b) ss).opens_at
    → total (seen_in (seen_section b) ss).counts < 2 ^ 64 → MarksOf b ss m
noted_of b bytes ss m fin noted short floats_rise opens_rise few = record {
  float = first_in m.float (seen_in (seen_section b) ss).floats_at (floats ss) (0 + length bytes) noted.float (floats_in (seen_section b) section_floats (floats_of b) ss) floats_rise;
  functions = let f = noted.functions (omega (arith, few)) in omega (arith, f, counts_all b ss);
  parameters = noted.parameters ∙ ap (first_above b.parameters) (parameters_all b ss);
  body = noted.body ∙ ap (first_above b.body) (sizes_all b ss);
  deep = first_in m.deep (seen_in (seen_section b) ss).opens_at (opens b.nesting ss) (0 + length bytes) noted.deep (opens_in (seen_section b) (section_opens b.nesting) (opens_of b) ss) opens_rise;
}

-- What is marked along all items of a file is what its sections are judged by.
pub judged : (b : ModuleBounds) (bytes : List ℕ) (last : ℕ) (m : Marks) (ss : List Section) → MarksAlong b 0 start_goals bytes (sections last 0 ∷ []) m → length bytes < 2 ^ 32
    → Spells bytes ss → MarksOf b ss m
judged b bytes last m ss a short s =
    let f = file_shows b bytes ss s in
    let same = one_showing b 0 start_goals bytes (sections last 0 ∷ []) (sections f.0 0 ∷ []) a.0 (seen_in (seen_section b) ss) a.1 f.1 in
    let held = held_along b 0 start_goals bytes (sections f.0 0 ∷ []) (seen_in (seen_section b) ss) f.1 in
    let few = held.few in
    noted_of b bytes ss m f.0 (subst (λ z. Noted b z no_marks m) same a.2) short held.floats held.opens (omega (arith, few, short))

none_first : (xs ys : List ℕ) → xs ++ ys ≡ [] → xs ≡ []
none_first [] ys e = refl
none_first (x ∷ xs) ys e = absurd (omega (arith, ap length e))

-- Where a level past the bound is marked, whatever follows, no file is shallow.
pub deep_stays : (b : ModuleBounds) (bytes more : List ℕ) (at k : ℕ) (gs : List Goal) (m : Marks) → MarksAlong b 0 start_goals (take at bytes) gs m → m.deep ≡ Some k
    → (ss : List Section) → Spells (bytes ++ more) ss → opens b.nesting ss ≡ [] → ⊥
deep_stays b bytes more at k gs m a deep ss s none =
    let f = file_shows b (bytes ++ more) ss s in
    let front : bytes ++ more ≡ take at bytes ++ (drop at bytes ++ more) =
    ap (λ z. z ++ more) (sym (take-append-drop at bytes)) ∙ append_assoc (take at bytes) (drop at bytes) more in
    let u = shows_front b 0 start_goals (take at bytes) gs a.0 a.1 (bytes ++ more) (drop at bytes ++ more) (sections f.0 0 ∷ []) (seen_in (seen_section b) ss) f.1 front in
    let nothing : a.0.opens_at ++ u.0.opens_at ≡ [] =
    sym (ap (λ z. z.opens_at) u.1) ∙ opens_in (seen_section b) (section_opens b.nesting) (opens_of b) ss ∙ none in
    let is : m.deep ≡ None = a.2.deep ∙ ap (first_of None) (none_first a.0.opens_at u.0.opens_at nothing) in
    let no : None ≡ Some k = sym is ∙ deep in
    cc
