-- Sections of entries, and custom sections at their places.
use Rattle.std.proofs.Common.{◌≡◌, ◌≢◌, ℕ, zero, suc, ◌+◌, ◌<◌, ◌≤◌, ◌^◌, List, [], ◌∷◌, ◌++◌, Bool, true, false, inl, inr, refl, ap, sym, ◌∙◌, arith, min, map, filter, eqb, cond, add-one, append_assoc, append-nil, length, length-append, get_or, drop, drop-cons}
use Rattle.std.proofs.lemmas.List.{drop_all}
use Rattle.std.proofs.lemmas.Bool.{eq-eqb, ne_eqb}
use Rattle.wa_types.specs.declared.syntax.Custom.{Custom as CustomValue}
use Rattle.leb_numbers.specs.Leb.{shortest}
use Rattle.wa_types.specs.Syntax.{Custom}
use Rattle.wa_types.specs.View.{custom_of}
use Rattle.wa_types.specs.Encoding.{vector, sized, section, custom_bytes, customs_behind}
use Rattle.wasm_encode.proofs.Codes.{put_parts}

pub section_none : {X : Type 0} (id : ℕ) (f : X → List ℕ) (xs : List X) → length xs ≡ 0 → section id f xs ≡ []
section_none id f [] h = refl
section_none id f (x ∷ xs) h = absurd (omega arith)

pub section_some : {X : Type 0} (id : ℕ) (f : X → List ℕ) (xs : List X) → length xs ≢ 0 → section id f xs ≡ id ∷ sized (vector f xs)
section_some id f [] h = absurd (h refl)
section_some id f (x ∷ xs) h = refl

pub section_length : {X : Type 0} (id : ℕ) (f : X → List ℕ) (xs : List X) → length xs ≢ 0 → length (section id f xs) ≡ 1 + (length (shortest (length (vector f xs))) + length (vector f xs))
section_length id f xs h = ap length (section_some id f xs h) ∙ omega (arith, length-append (shortest (length (vector f xs))) (vector f xs))

pub ruleset measuring = (section_none, section_length)

-- what was written, with a part more behind its length
pub put_sized : (out head bytes first second new whole : List ℕ) (n : ℕ) → first ≡ out ++ head → second ≡ first ++ shortest n → n ≡ length bytes → new ≡ second ++ bytes
    → whole ≡ head ++ sized bytes → new ≡ out ++ whole
put_sized out head bytes first second new whole n begun number is put e =
    put_parts out head (shortest (length bytes)) bytes first new whole begun (put ∙ ap (λ s. s ++ bytes) (number ∙ ap (λ k. first ++ shortest k) is)) e

pub ruleset putting = (section_none, section_some, section_length, append_assoc)

-- the custom sections behind an id, from the one at i on
custom_here : (id : ℕ) (c : Custom) (cs : List Custom) → min c.after 11 ≡ id → customs_behind id (c ∷ cs) ≡ custom_bytes c ++ customs_behind id cs
custom_here id c cs h = rw (eq-eqb _ _ h) refl

custom_elsewhere : (id : ℕ) (c : Custom) (cs : List Custom) → min c.after 11 ≢ id → customs_behind id (c ∷ cs) ≡ customs_behind id cs
custom_elsewhere id c cs h = rw (ne_eqb _ _ h) refl

at_custom : (cs : List CustomValue) (i : ℕ) (c : CustomValue) → i < length cs → c ≡ get_or cs i c → map custom_of (drop i cs) ≡ custom_of c ∷ map custom_of (drop (i + 1) cs)
at_custom cs i c h e = rw (add-one, drop-cons cs i c) (ap (λ d. custom_of d ∷ map custom_of (drop (suc i) cs)) (sym e))

pub customs_step_here : (id : ℕ) (cs : List CustomValue) (i : ℕ) (c : CustomValue) → i < length cs → c ≡ get_or cs i c → min c.after 11 ≡ id
    → customs_behind id (map custom_of (drop i cs)) ≡ custom_bytes (custom_of c) ++ customs_behind id (map custom_of (drop (i + 1) cs))
customs_step_here id cs i c h e here = ap (customs_behind id) (at_custom cs i c h e) ∙ custom_here id (custom_of c) _ here

pub customs_step_elsewhere : (id : ℕ) (cs : List CustomValue) (i : ℕ) (c : CustomValue) → i < length cs → c ≡ get_or cs i c → min c.after 11 ≢ id
    → customs_behind id (map custom_of (drop i cs)) ≡ customs_behind id (map custom_of (drop (i + 1) cs))
customs_step_elsewhere id cs i c h e there = ap (customs_behind id) (at_custom cs i c h e) ∙ custom_elsewhere id (custom_of c) _ there

pub customs_none : (id : ℕ) (cs : List CustomValue) (i : ℕ) → length cs ≤ i → customs_behind id (map custom_of (drop i cs)) ≡ []
customs_none id cs i h = ap (λ s. customs_behind id (map custom_of s)) (drop_all i cs h)

pub customs_length_here : (id : ℕ) (cs : List CustomValue) (i : ℕ) (c : CustomValue) → i < length cs → c ≡ get_or cs i c → min c.after 11 ≡ id
    → length (customs_behind id (map custom_of (drop i cs))) ≡ length (custom_bytes (custom_of c)) + length (customs_behind id (map custom_of (drop (i + 1) cs)))
customs_length_here id cs i c h e here = ap length (customs_step_here id cs i c h e here) ∙ length-append (custom_bytes (custom_of c)) _

pub customs_length_elsewhere : (id : ℕ) (cs : List CustomValue) (i : ℕ) (c : CustomValue) → i < length cs → c ≡ get_or cs i c → min c.after 11 ≢ id
    → length (customs_behind id (map custom_of (drop i cs))) ≡ length (customs_behind id (map custom_of (drop (i + 1) cs)))
customs_length_elsewhere id cs i c h e there = ap length (customs_step_elsewhere id cs i c h e there)

pub customs_length_none : (id : ℕ) (cs : List CustomValue) (i : ℕ) → length cs ≤ i → length (customs_behind id (map custom_of (drop i cs))) ≡ 0
customs_length_none id cs i h = ap length (customs_none id cs i h)

pub ruleset measuring_customs = (customs_length_here, customs_length_elsewhere, customs_length_none)

pub put_here : (id : ℕ) (cs : List CustomValue) (i : ℕ) (c : CustomValue) (old new whole : List ℕ) → i < length cs → c ≡ get_or cs i c → min c.after 11 ≡ id
    → new ≡ old ++ custom_bytes (custom_of c) → old ++ customs_behind id (map custom_of (drop i cs)) ≡ whole → new ++ customs_behind id (map custom_of (drop (i + 1) cs)) ≡ whole
put_here id cs i c old new whole h e here put before =
    ap (λ s. s ++ customs_behind id (map custom_of (drop (i + 1) cs))) put ∙ append_assoc old (custom_bytes (custom_of c)) _ ∙ ap (λ s. old ++ s) (sym (customs_step_here id cs i c h e here)) ∙ before

pub put_elsewhere : (id : ℕ) (cs : List CustomValue) (i : ℕ) (c : CustomValue) (old whole : List ℕ) → i < length cs → c ≡ get_or cs i c → min c.after 11 ≢ id
    → old ++ customs_behind id (map custom_of (drop i cs)) ≡ whole → old ++ customs_behind id (map custom_of (drop (i + 1) cs)) ≡ whole
put_elsewhere id cs i c old whole h e there before = ap (λ s. old ++ s) (sym (customs_step_elsewhere id cs i c h e there)) ∙ before

pub put_no_more : (id : ℕ) (cs : List CustomValue) (i : ℕ) (new whole : List ℕ) → length cs ≤ i → new ++ customs_behind id (map custom_of (drop i cs)) ≡ whole → new ≡ whole
put_no_more id cs i new whole h before = sym (append-nil new) ∙ ap (λ s. new ++ s) (sym (customs_none id cs i h)) ∙ before

pub ruleset putting_customs = (put_here, put_elsewhere, put_no_more)
