-- A module's sections, and the custom sections behind each.
use Rattle.std.proofs.Common.{◌≡◌, ℕ, ◌+◌, ◌<◌, ◌≤◌, ◌^◌, List, [], ◌∷◌, ◌++◌, refl, ap, sym, ◌∙◌, subst, arith, map, add-one, append_assoc, append-nil, length, length-append, get_or, drop, drop-cons}
use Rattle.std.proofs.lemmas.List.{drop_all, get_or_default, get_or-map, length-map}
use Rattle.std.specs.List.{flat_map, All}
use Rattle.wa_types.specs.declared.syntax.Func.{Func as FuncValue}
use Rattle.wa_types.specs.declared.syntax.Module.{Module as ModuleValue}
use Rattle.leb_numbers.specs.Leb.{shortest}
use Rattle.wa_types.specs.Syntax.{Func, Custom, Module}
use Rattle.wa_types.specs.View.{func_of, module_of}
use Rattle.wa_types.specs.Encoding.{vector, sized, section, sections, body_bytes, customs_behind, with_customs, preamble, Enc}
use Rattle.wasm_encode.specs.Locals.{local_count}
use Rattle.wasm_encode.specs.Modules.{FewLocals, known_section, places_from}
use Rattle.wasm_encode.proofs.Vectors.{entry_le}
use Rattle.wasm_encode.proofs.SectionLemmas.{section_length}

-- the sections from the one at i on, in front of those after it
step : (ss : List (List ℕ)) (cs : List Custom) (i : ℕ) → i < length ss → with_customs i (drop i ss) cs ≡ get_or ss i [] ++ customs_behind i cs ++ with_customs (i + 1) (drop (i + 1) ss) cs
step ss cs i h = rw (add-one, drop-cons ss i []) refl

flat_map_map : {X Y : Type 0} (f : Y → List ℕ) (g : X → Y) (xs : List X) → flat_map f (map g xs) ≡ flat_map (λ x. f (g x)) xs
flat_map_map f g [] = refl
flat_map_map f g (x ∷ xs) = ap (λ s. f (g x) ++ s) (flat_map_map f g xs)

vector_map : {X Y : Type 0} (f : Y → List ℕ) (g : X → Y) (xs : List X) → vector f (map g xs) ≡ vector (λ x. f (g x)) xs
vector_map f g xs = ap (λ n. shortest n ++ flat_map f (map g xs)) (length-map xs g) ∙ ap (λ s. shortest (length xs) ++ s) (flat_map_map f g xs)

-- a section of entries that are seen through a view
pub section_map : {X Y : Type 0} (id : ℕ) (f : Y → List ℕ) (g : X → Y) (xs : List X) → section id f (map g xs) ≡ section id (λ x. f (g x)) xs
section_map id f g [] = refl
section_map id f g (x ∷ xs) = ap (λ v. id ∷ sized v) (vector_map f g (x ∷ xs))

-- Bodies that are few bytes in all are few bytes each.
abbrev code_entry : FuncValue → List ℕ
code_entry f = sized (body_bytes (func_of f))

entries_fit : (fs : List FuncValue) → All (λ f. local_count f.locals.items < 2 ^ 32) fs → length (section 10 code_entry fs) < 2 ^ 64
    → All (λ f. (local_count f.locals.items < 2 ^ 32) × (length (code_entry f) < 2 ^ 64)) fs
entries_fit fs few fits = λ k d h.
    let whole = section_length 10 code_entry fs (omega arith) in
    let entry = entry_le code_entry fs k (get_or fs k d) h (get_or_default fs k d (get_or fs k d) h) in
    (few k d h, omega (arith, whole, entry, fits))

pub code_fits : (m : ModuleValue) (id : ℕ) (fs : List FuncValue) → id ≡ 10 → fs ≡ m.funcs.items → FewLocals (module_of m) → length (known_section id (module_of m)) < 2 ^ 64
    → All (λ f. (local_count f.locals.items < 2 ^ 32) × (length (code_entry f) < 2 ^ 64)) fs
unfolding known_section
code_fits m id fs ten same few fits =
    let P : List FuncValue → Type 0 = λ s. All (λ f. (local_count f.locals.items < 2 ^ 32) × (length (code_entry f) < 2 ^ 64)) s in
    let known : length (section 10 (λ (f : Func). sized (body_bytes f)) (map func_of m.funcs.items)) < 2 ^ 64 =
    subst (λ (i : ℕ). length (known_section i (module_of m)) < 2 ^ 64) ten fits in
    let section_fits : length (section 10 code_entry m.funcs.items) < 2 ^ 64 = subst (λ (s : List ℕ). length s < 2 ^ 64)
    (section_map 10 (λ (f : Func). sized (body_bytes f)) func_of m.funcs.items) known in
    let each : All (λ f. local_count f.locals.items < 2 ^ 32) m.funcs.items = λ k d h.
    subst (λ (f : Func). local_count f.locals < 2 ^ 32) (get_or-map func_of m.funcs.items k d (func_of d) h)
    (few k (func_of d) (let count = length-map m.funcs.items func_of in omega (arith, count))) in
    subst P (sym same) (entries_fit m.funcs.items each section_fits)

-- a module's places begin behind its preamble
pub places_first : (m : Module) → Enc m ≡ preamble ++ places_from 0 m
unfolding Enc places_from
places_first m = append_assoc preamble (customs_behind 0 m.customs) (with_customs 1 (sections m) m.customs)

-- the section of an id and the custom sections behind it, in front of the places after it
pub places_more : (m : Module) (id : ℕ) → id < 12 → places_from id m ≡ known_section id m ++ customs_behind id m.customs ++ places_from (id + 1) m
unfolding places_from known_section
places_more m id h = step ([] ∷ sections m) m.customs id h

pub places_none : (m : Module) (id : ℕ) → 12 ≤ id → places_from id m ≡ []
unfolding places_from
places_none m id h = ap (λ s. with_customs id s m.customs) (drop_all id ([] ∷ sections m) h)

pub first_length : (m : Module) → length (Enc m) ≡ 8 + length (places_from 0 m)
first_length m = ap length (places_first m) ∙ omega (arith, length-append preamble (places_from 0 m))

pub more_length : (m : Module) (id : ℕ) → id < 12 → length (places_from id m) ≡ length (known_section id m) + length (customs_behind id m.customs) + length (places_from (id + 1) m)
more_length m id h = ap length (places_more m id h) ∙ omega (
  arith,
  length-append (known_section id m ++ customs_behind id m.customs) (places_from (id + 1) m),
  length-append (known_section id m) (customs_behind id m.customs),
)

pub none_length : (m : Module) (id : ℕ) → 12 ≤ id → length (places_from id m) ≡ 0
none_length m id h = ap length (places_none m id h)

pub ruleset measuring = (first_length, more_length, none_length)

pub put_first : (m : Module) (old new : List ℕ) → new ≡ old ++ preamble → new ++ places_from 0 m ≡ old ++ Enc m
put_first m old new put = ap (λ s. s ++ places_from 0 m) put ∙ append_assoc old preamble _ ∙ ap (λ s. old ++ s) (sym (places_first m))

pub put_more : (m : Module) (id : ℕ) (old middle new whole : List ℕ) → id < 12 → middle ≡ old ++ known_section id m → new ≡ middle ++ customs_behind id m.customs
    → old ++ places_from id m ≡ whole → new ++ places_from (id + 1) m ≡ whole
put_more m id old middle new whole h known customs before =
    ap (λ s. s ++ places_from (id + 1) m) (customs ∙ ap (λ s. s ++ customs_behind id m.customs) known ∙ append_assoc old _ _)
    ∙ append_assoc old (known_section id m ++ customs_behind id m.customs) _ ∙ ap (λ s. old ++ s) (sym (places_more m id h)) ∙ before

pub put_no_more : (m : Module) (id : ℕ) (new whole : List ℕ) → 12 ≤ id → new ++ places_from id m ≡ whole → new ≡ whole
put_no_more m id new whole h before = sym (append-nil new) ∙ ap (λ s. new ++ s) (sym (places_none m id h)) ∙ before

pub ruleset putting = (put_first, put_more, put_no_more, first_length, more_length, none_length)
