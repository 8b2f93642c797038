-- Entries and their functions, place by place.
use Rattle.std.proofs.Common.{◌≡◌, ℕ, ◌<◌, Option, Some, None, List, length, map, get_or, slice_get, sym, ap, ◌∙◌, refl, subst, Bool, true, Result, Vec, Global, if◌then◌else◌}
use Rattle.std.specs.Option.{option_map, option_or, unwrap_or}
use Rattle.std.proofs.lemmas.Option.{slice_get-map, slice_get_read}
use Rattle.std.proofs.lemmas.List.{length-map}
use Rattle.wa_types.specs.Syntax.{Module}
use Rattle.wa_model.specs.declared.answers.Area.{Area}
use Rattle.host_setup.specs.declared.entries.Entry.{Entry}
use Rattle.host_setup.specs.declared.faults.SetupFault.{SetupFault}
use Rattle.host_setup.specs.SetUp.{NamedEntry, Fault, area_bad, is_area_in, least_pages, entry_func, entry_funcs, all_told, entries_fault, module_fault, unless_fault, set_up}
use Rattle.host_setup.specs.Views.{Reads, entry_of}

-- the item at a place, of a list that is made by a map of another
pub mapped_at : {X Y : Type 0} (f : X → Option Y) (os : List (Option Y)) (xs : List X) (i : ℕ) (x : X) → os ≡ map f xs → i < length xs → x ≡ get_or xs i x → unwrap_or (slice_get os i) None ≡ f x
mapped_at f os xs i x e lt at =
    ap (λ (l : List (Option _)). unwrap_or (slice_get l i) None) e
    ∙ ap (λ (o : Option (Option _)). unwrap_or o None) (slice_get-map f xs i ∙ ap (option_map f) (slice_get_read xs (length xs) i x refl lt at))

-- ---- answers, of equal parts

abbrev answer : (imports : ℕ) → List (Option ℕ) → List Bool → Result (List ℕ) Fault
answer imports funcs tests = unless_fault (entries_fault imports funcs tests) (all_told funcs)

abbrev ReadsFuncs : Result (Vec ℕ Global) SetupFault → Result (List ℕ) Fault → Type 0
ReadsFuncs r told = Reads (λ (v : Vec ℕ Global). v.items) r told

pub same_answer : (r : Result (Vec ℕ Global) SetupFault) (imports imports' : ℕ) (funcs funcs' : List (Option ℕ)) (tests tests' : List Bool) → funcs ≡ funcs' → tests ≡ tests' → imports ≡ imports'
    → ReadsFuncs r (answer imports funcs tests) → ReadsFuncs r (answer imports' funcs' tests')
same_answer r imports imports' funcs funcs' tests tests' f t i h =
    subst (ReadsFuncs r) (ap (λ (n : ℕ). answer n funcs tests) i ∙ ap (λ (x : List (Option ℕ)). answer imports' x tests) f ∙ ap (answer imports' funcs') t) h

abbrev in_area : Bool → Module → List NamedEntry → Result (List ℕ) Fault
in_area t p es = unless_fault (option_or (if t then None else Some area_bad) (module_fault p es)) (all_told (entry_funcs p es))

-- over a lawful area the rest decides
pub area_is_fine : (r : Result (Vec ℕ Global) SetupFault) (p q : Module) (area : Area) (pages : ℕ) (es : List NamedEntry) → pages ≡ least_pages p → p ≡ q → is_area_in pages area ≡ true
    → ReadsFuncs r (in_area true p es) → ReadsFuncs r (set_up q area es)
area_is_fine r p q area pages es e same ok h =
    subst (λ (m : Module). ReadsFuncs r (set_up m area es)) same
    (subst (λ (t : Bool). ReadsFuncs r (in_area t p es)) (sym ok ∙ ap (λ (n : ℕ). is_area_in n area) e) h)

-- as many entries, as many functions
pub length_funcs : (funcs : List (Option ℕ)) (p : Module) (es : List Entry) → funcs ≡ entry_funcs p (map entry_of es) → length funcs ≡ length es
length_funcs funcs p es e = ap (λ (l : List (Option ℕ)). length l) e ∙ length-map (map entry_of es) (λ (x : NamedEntry). entry_func p x.name) ∙ length-map es entry_of
