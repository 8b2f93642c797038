-- The numbers that limits bound, of sections and of the module that they are.
use Rattle.std.proofs.Common.{◌≡◌, ◌∙◌, ℕ, ◌+◌, ◌≤◌, List, [], ◌∷◌, ◌++◌, length, map, Bool, true, false, Some, None, All, refl, sym, ap, arith}
use Rattle.std.specs.Prelude.{nat_lt, if◌then◌else◌}
use Rattle.std.specs.List.{AllZip, flat_map}
use Rattle.std.proofs.lemmas.Bool.{le-ltb}
use Rattle.std.proofs.lemmas.List.{length-map}
use Rattle.std.proofs.lemmas.List.Elements.{All-nil, All-cons, All-head, All-tail}
use Rattle.wa_types.specs.declared.syntax.Import.{Import}
use Rattle.wa_types.specs.declared.syntax.ImportKind.{ImportKind}
use Rattle.wa_types.specs.Binary.{RawType, RawKind, raw_func, raw_table, raw_memory, raw_global, RawImport, RawBody, Section}
use Rattle.wa_types.specs.Marks.{kind_sorts, function_count, parameter_counts, body_sizes, first_above}
use Rattle.wa_types.specs.Reading.{IsValueType, IsFuncType, IsKind, IsImport, types_in, imports_in, IsModule}
use Rattle.wa_types.specs.Sizes as Sizes
use Rattle.wa_types.specs.Spells.{BodyOf, bodies_in, Spells}
use Rattle.wa_types.specs.Syntax.{FuncType, Func, Module}
use Rattle.wasm_reader.proofs.SpelledCodeSizes.{length_split}
use Rattle.wasm_reader.proofs.SpelledSizes.{Seen, held_seen, bodies_seen, each_length, none_above}
use Rattle.emitted_form.proofs.Floats.{each_all}
use Rattle.emitted_form.proofs.Levels.{each_back}

-- numbers that are at most the bound
pub below_bound : {X : Type 0} (f : X → ℕ) (bound : ℕ) (xs : List X) → All (λ x. f x ≤ bound) xs → first_above bound (map f xs) ≡ None
below_bound f bound [] h = refl
below_bound f bound (x ∷ xs) h =
    by (nat_lt bound (f x)) (le-ltb bound (f x) (All-head (λ x. f x ≤ bound) x xs h)) (below_bound f bound xs (All-tail (λ x. f x ≤ bound) x xs h))
  where
    by : (b : Bool) → b ≡ false → first_above bound (map f xs) ≡ None → (if b then Some (f x) else first_above bound (map f xs)) ≡ None
    by true e h = cc
    by false e h = h

-- ---- functions

-- the functions of a module, imported ones included
abbrev pub functions_of : Module → ℕ
functions_of m = length (flat_map (λ (i : Import). Sizes.kind_sorts i.kind) m.imports) + length m.funcs

kinds_same : (raw : RawKind) (k : ImportKind) → IsKind raw k → kind_sorts raw ≡ Sizes.kind_sorts k
kinds_same (raw_func sort) k h = sym (ap Sizes.kind_sorts h)
kinds_same (raw_table l) k h = sym (ap Sizes.kind_sorts h)
kinds_same (raw_memory l) k h = sym (ap Sizes.kind_sorts h)
kinds_same (raw_global t mutable) k h = sym (ap Sizes.kind_sorts h.1)

imports_same : (xs : List RawImport) (ys : List Import) → AllZip IsImport xs ys → flat_map (λ (i : RawImport). kind_sorts i.kind) xs ≡ flat_map (λ (i : Import). Sizes.kind_sorts i.kind) ys
imports_same [] [] h = refl
imports_same [] (y ∷ ys) h = absurd h
imports_same (x ∷ xs) [] h = absurd h
imports_same (x ∷ xs) (y ∷ ys) h =
    ap (λ ks. ks ++ flat_map (λ (i : RawImport). kind_sorts i.kind) xs) (kinds_same x.kind y.kind h.0.kind) ∙ ap (λ ks. Sizes.kind_sorts y.kind ++ ks) (imports_same xs ys h.1)

pub functions_counted : (ss : List Section) (m : Module) → IsModule ss m → function_count ss ≡ functions_of m
functions_counted ss m h =
    let a = ap length (imports_same (flat_map imports_in ss) m.imports h.imports) in
    let b = ap length h.sorts in
    let c = length-map m.funcs (λ (f : Func). f.sort) in omega (arith, a, b, c)

-- ---- parameters

abbrev params_of : RawType → ℕ
params_of t = length t.params

pub few_params_of : (bound : ℕ) (ss : List Section) (m : Module) → IsModule ss m → first_above bound (parameter_counts ss) ≡ None → All (λ (t : FuncType). length t.params ≤ bound) m.types
few_params_of bound ss m h e =
    each_back IsFuncType (λ (t : RawType). length t.params ≤ bound) (λ (t : FuncType). length t.params ≤ bound)
    (λ x y r l. let n = each_length IsValueType x.params y.params r.params in omega (arith, n, l)) (flat_map types_in ss) m.types h.types (none_above params_of bound (flat_map types_in ss) e)

pub few_params : (bound : ℕ) (ss : List Section) (m : Module) → IsModule ss m → All (λ (t : FuncType). length t.params ≤ bound) m.types → first_above bound (parameter_counts ss) ≡ None
few_params bound ss m h l =
    below_bound params_of bound (flat_map types_in ss)
    (each_all IsFuncType (λ (t : RawType). length t.params ≤ bound) (λ (t : FuncType). length t.params ≤ bound)
    (λ x y r l. let n = each_length IsValueType x.params y.params r.params in omega (arith, n, l)) (flat_map types_in ss) m.types h.types l)

-- ---- bodies

-- no body is longer than the file
pub short_bodies : (bound : ℕ) (bytes : List ℕ) (ss : List Section) → Spells bytes ss → length bytes ≤ bound → first_above bound (body_sizes ss) ≡ None
short_bodies bound bytes ss s l =
    let p = s.parts in
    let n = length_split bytes p.0 p.1 p.2 in
    let seen = held_seen bound BodyOf bodies_in (bodies_seen bound) ss (0 + length p.0) p.1 p.4 (omega (arith, n, l)) in
    below_bound (λ (b : RawBody). b.size) bound (flat_map bodies_in ss) (all_within (flat_map bodies_in ss) seen)
  where
    within : (b : RawBody) → Seen bound BodyOf b → b.size ≤ bound
    within b h = let n = length_split h.bytes h.spelled.0 h.spelled.1 h.spelled.2 in omega (arith, n, h.few, h.spelled.4.0)

    all_within : (bs : List RawBody) → All (Seen bound BodyOf) bs → All (λ (b : RawBody). b.size ≤ bound) bs
    all_within [] h = All-nil (λ (b : RawBody). b.size ≤ bound)
    all_within (b ∷ bs) h = All-cons (λ (b : RawBody). b.size ≤ bound) b bs (within b (All-head (Seen bound BodyOf) b bs h)) (all_within bs (All-tail (Seen bound BodyOf) b bs h))
