-- A module around entries that were written beforehand.
use Rattle.std.proofs.Common.{◌≡◌, ◌≢◌, ℕ, zero, suc, ◌+◌, ◌<◌, ◌≤◌, ◌^◌, List, [], ◌∷◌, ◌++◌, refl, ap, sym, ◌∙◌, subst, arith, map, add-one, append_assoc, length, length-append, inl, inr}
use Rattle.std.specs.Prelude.{slice_index_or}
use Rattle.std.specs.List.{flat_map}
use Rattle.std.proofs.lemmas.Bool.{eq-eqb, ne_eqb, cases_eq}
use Rattle.std.proofs.lemmas.List.{length-map}
use Rattle.leb_numbers.specs.Leb.{shortest}
use Rattle.wa_types.specs.Syntax.{Func, Module}
use Rattle.wa_types.specs.Encoding.{sized, section, start_section, customs_behind, func_type_bytes, import_bytes, table_bytes, limits_bytes, global_bytes, export_bytes, elem_bytes, segment_bytes, Enc}
use Rattle.wasm_encode.specs.Modules.{known_section, places_from}
use Rattle.wasm_encode.specs.declared.held.CodeEntries.{CodeEntries}
use Rattle.wasm_encode.specs.Around.{code_entry, code_entries, code_section, section_around, HoldsEntries, IsAround}
use Rattle.wasm_encode.proofs.ModuleLemmas.{first_length, more_length}

-- ---- the code section

pub code_none : (n : ℕ) (entries : List ℕ) → n ≡ 0 → code_section n entries ≡ []
code_none n entries e = ap (λ k. code_section k entries) e

code_some : (n : ℕ) (entries : List ℕ) → n ≢ 0 → code_section n entries ≡ 10 ∷ sized (shortest n ++ entries)
code_some zero entries h = absurd (h refl)
code_some (suc n) entries h = refl

pub code_length : (n : ℕ) (entries : List ℕ) → n ≢ 0 → length (code_section n entries) ≡ 1 + (length (shortest (length (shortest n) + length entries)) + (length (shortest n) + length entries))
code_length n entries h =
    let whole = length-append (shortest n) entries in
    ap length (code_some n entries h) ∙ omega (arith, length-append (shortest (length (shortest n ++ entries))) (shortest n ++ entries), whole, ap (λ k. length (shortest k)) whole)

pub code_put : (n : ℕ) (entries old a b c new : List ℕ) → n ≢ 0 → a ≡ old ++ 10 ∷ []
    → b ≡ a ++ shortest (length (shortest n) + length entries) → c ≡ b ++ shortest n → new ≡ c ++ entries → new ≡ old ++ code_section n entries
code_put n entries old a b c new h ea eb ec en =
    let size : List ℕ = shortest (length (shortest n) + length entries) in
    let same : sized (shortest n ++ entries) ≡ size ++ shortest n ++ entries =
    ap (λ k. shortest k ++ (shortest n ++ entries)) (length-append (shortest n) entries) ∙ sym (append_assoc size (shortest n) entries) in
    en ∙ ap (λ z. z ++ entries) (ec ∙ ap (λ z. z ++ shortest n) (eb ∙ ap (λ z. z ++ size) ea))
    ∙ ap (λ z. z ++ entries) (append_assoc (old ++ 10 ∷ []) size (shortest n)) ∙ append_assoc (old ++ 10 ∷ []) (size ++ shortest n) entries
    ∙ append_assoc old (10 ∷ []) (size ++ shortest n ++ entries) ∙ ap (λ z. old ++ 10 ∷ z) (sym same) ∙ ap (λ z. old ++ z) (sym (code_some n entries h))

-- what a count of entries is, where their section isn't too large to be counted
pub counted : (n : ℕ) (v : CodeEntries) (entries : List ℕ) → n ≢ 0 → HoldsEntries v entries → length (code_section n entries) < 2 ^ 64 → v.len ≡ length entries
counted n v entries h holds fits = omega (arith, code_length n entries h, fits, holds.len)

pub ruleset putting = (code_none, code_length, code_put)

pub around_code : (id : ℕ) (m : Module) (entries : List ℕ) → id ≡ 10 → section_around id m entries ≡ code_section (length m.funcs) entries
unfolding section_around
around_code id m entries e = rw (eq-eqb id 10 e) refl

pub around_known : (id : ℕ) (m : Module) (entries : List ℕ) → id ≢ 10 → section_around id m entries ≡ known_section id m
unfolding section_around
around_known id m entries h = rw (ne_eqb id 10 h) refl

pub ruleset places = (around_code, around_known, length-map)

-- ---- the sections of two modules

abbrev pub sort_bytes : Func → List ℕ
sort_bytes f = shortest f.sort

sorts_flat : (fs : List Func) → flat_map sort_bytes fs ≡ flat_map shortest (map (λ (f : Func). f.sort) fs)
sorts_flat [] = refl
sorts_flat (f ∷ fs) = ap (λ bs. shortest f.sort ++ bs) (sorts_flat fs)

sorts_section : (fs : List Func) → section 3 sort_bytes fs ≡ section 3 shortest (map (λ (f : Func). f.sort) fs)
sorts_section [] = refl
sorts_section (f ∷ fs) =
    let n : length (f ∷ fs) ≡ length (map (λ (f : Func). f.sort) (f ∷ fs)) = sym (length-map (f ∷ fs) (λ (f : Func). f.sort)) in
    ap (λ k. 3 ∷ sized (shortest k ++ flat_map sort_bytes (f ∷ fs))) n
    ∙ ap (λ bs. 3 ∷ sized (shortest (length (map (λ (f : Func). f.sort) (f ∷ fs))) ++ bs)) (sorts_flat (f ∷ fs))

-- functions of the same types have one function section
pub same_sort_bytes : (fs gs : List Func) → map (λ (f : Func). f.sort) fs ≡ map (λ (f : Func). f.sort) gs → section 3 sort_bytes fs ≡ section 3 sort_bytes gs
same_sort_bytes fs gs e = sorts_section fs ∙ ap (section 3 shortest) e ∙ sym (sorts_section gs)

-- lists that differ at one place
elsewhere : (front back : List (List ℕ)) (x y : List ℕ) (id : ℕ) → id ≢ length front → slice_index_or (front ++ x ∷ back) id [] ≡ slice_index_or (front ++ y ∷ back) id []
elsewhere [] back x y zero h = absurd (h refl)
elsewhere [] back x y (suc id) h = refl
elsewhere (f ∷ front) back x y zero h = refl
elsewhere (f ∷ front) back x y (suc id) h = elsewhere front back x y id (λ e. h (ap suc e))

-- the sections in front of that of code
abbrev in_front_of_code : Module → List ℕ → List (List ℕ)
in_front_of_code m sorts =
    []
    ∷ section 1 func_type_bytes m.types
    ∷ section 2 import_bytes m.imports
    ∷ sorts
    ∷ section 4 table_bytes m.tables
    ∷ section 5 limits_bytes m.memories
    ∷ section 6 global_bytes m.globals
    ∷ section 7 export_bytes m.exports
    ∷ start_section m.start
    ∷ section 9 elem_bytes m.elems
    ∷ []

other_known : (m : Module) (fs : List Func) (id : ℕ) → id ≢ 10 → map (λ (f : Func). f.sort) fs ≡ map (λ (f : Func). f.sort) m.funcs → known_section id (record m { funcs = fs }) ≡ known_section id m
unfolding known_section
other_known m fs id h e =
    let last : List (List ℕ) = section 11 segment_bytes m.segments ∷ [] in
    elsewhere (in_front_of_code m (section 3 sort_bytes fs)) last (section 10 code_entry fs) (section 10 code_entry m.funcs) id h
    ∙ ap (λ sorts. slice_index_or (in_front_of_code m sorts ++ section 10 code_entry m.funcs ∷ last) id []) (same_sort_bytes fs m.funcs e)

section_of_code : (fs : List Func) → section 10 code_entry fs ≡ code_section (length fs) (flat_map code_entry fs)
section_of_code [] = refl
section_of_code (f ∷ fs) = refl

known_code : (p : Module) → known_section 10 p ≡ section 10 code_entry p.funcs
unfolding known_section
known_code p = refl

-- ---- a module's entries among all its bytes

places_within : (p : Module) (id : ℕ) → id ≤ 12 → length (places_from id p) ≤ length (Enc p)
places_within p zero le = let l = first_length p in omega (arith, l)
places_within p (suc n) le =
    let l = more_length p n (omega (arith, le)) in
    let before = places_within p n (omega (arith, le)) in
    subst (λ (k : ℕ). length (places_from k p) ≤ length (Enc p)) (add-one n) (omega (arith, l, before))

in_section : (fs : List Func) → length (flat_map code_entry fs) ≤ length (code_section (length fs) (flat_map code_entry fs))
in_section [] = omega arith
in_section (f ∷ fs) = let l = code_length (length (f ∷ fs)) (flat_map code_entry (f ∷ fs)) (λ e. omega (arith, e)) in omega (arith, l)

pub entries_within : (p : Module) → length (code_entries p) ≤ length (Enc p)
entries_within p =
    let known = ap length (known_code p ∙ section_of_code p.funcs) in
    let here = in_section p.funcs in
    let l = more_length p 10 (omega arith) in
    let all = places_within p 10 (omega arith) in
    omega (arith, known, here, l, all)

-- ---- around entries

module _ (m : Module) (p : Module) (a : IsAround m p) where
  same_count : length p.funcs ≡ length m.funcs
  same_count = sym (length-map p.funcs (λ (f : Func). f.sort)) ∙ ap length a.sorts ∙ length-map m.funcs (λ (f : Func). f.sort)

  -- each section is the other module's
  pub section_is : (id : ℕ) → known_section id p ≡ section_around id m (code_entries p)
  section_is id = elim (cases_eq id 10) [
    | inl ten ↦
        ap (λ k. known_section k p) ten ∙ known_code p ∙ section_of_code p.funcs ∙ ap (λ n. code_section n (code_entries p)) same_count
        ∙ sym (around_code id m (code_entries p) ten)
    | inr other ↦
        ap (known_section id) (sym a.other_funcs) ∙ other_known m p.funcs id other a.sorts ∙ sym (around_known id m (code_entries p) other)
  ]

  pub customs_same : p.customs ≡ m.customs
  customs_same = ap (λ (q : Module). q.customs) (sym a.other_funcs)

  -- what is left to be written can be counted
  pub place_fits : (id : ℕ) → id < 12 → length (places_from id p) ≤ length (Enc p) → length (section_around id m (code_entries p)) < 2 ^ 64
  place_fits id lt le = let s = ap length (section_is id) in let l = more_length p id lt in omega (arith, s, l, le, a.fits)

  pub customs_fit : (id : ℕ) → id < 12 → length (places_from id p) ≤ length (Enc p) → length (customs_behind id m.customs) < 2 ^ 64
  customs_fit id lt le = let k = ap (λ cs. length (customs_behind id cs)) customs_same in let l = more_length p id lt in omega (arith, k, l, le, a.fits)

  -- what was counted, with a place more
  pub count_more : (id len place customs : ℕ) → id < 12 → place ≡ length (section_around id m (code_entries p)) → customs ≡ length (customs_behind id m.customs)
      → len + length (places_from id p) ≡ length (Enc p)
      → len + (place + customs) + length (places_from (id + 1) p) ≡ length (Enc p)
  count_more id len place customs lt ep ec before =
      let s = ap length (section_is id) in
      let k = ap (λ cs. length (customs_behind id cs)) customs_same in
      let l = more_length p id lt in omega (arith, s, k, l, ep, ec, before)
