-- Parts of a plan, one by one.
use Rattle.std.proofs.Common.{◌≡◌, ◌<◌, ◌≤◌, ◌+◌, ◌++◌, ℕ, zero, suc, List, [], ◌∷◌, map, length, take, drop, get_or, drop-cons, add-one, Option, Some, cond, refl, sym, ap, ◌∙◌, append_assoc, arith}
use Rattle.std.specs.Prelude.{nat_eq, ◌&&◌}
use Rattle.std.specs.List.{find, filter_map, cons_option}
use Rattle.std.specs.Str.{bytes_eq}
use Rattle.std.proofs.lemmas.List.{map-append, take_more}
use Rattle.std.proofs.lemmas.List.Elements.{filter_map-append}
use Rattle.wa_types.specs.declared.values.Value.{Value}
use Rattle.wa_types.specs.declared.syntax.Export.{Export}
use Rattle.wa_types.specs.Validity.{same_name}
use Rattle.wa_model.specs.Plan.{Entry}
use Rattle.wa_model.specs.Protocol.{index_of}
use Rattle.wa_model.specs.Protocol as P
use Rattle.host_setup.specs.SetUp.{NamedEntry}
use Rattle.host_setup.specs.declared.entries.Entry.{Entry as EntryValue}
use Rattle.host_setup.specs.Views as V
use Rattle.pause_host.specs.declared.stages.EntryCall.{EntryCall}
use Rattle.pause_host.specs.Views.{entry_of}
use Rattle.pause_host.specs.Settings.{calls_of}

-- ---- exports

same_bytes : (xs ys : List ℕ) → same_name xs ys ≡ bytes_eq xs ys
same_bytes [] [] = refl
same_bytes [] (y ∷ ys) = refl
same_bytes (x ∷ xs) [] = refl
same_bytes (x ∷ xs) (y ∷ ys) = ap (λ b. nat_eq x y && b) (same_bytes xs ys)

pub found_same : (name : List ℕ) (es : List Export) → find (λ (e : Export). bytes_eq e.name name) es ≡ find (λ (e : Export). same_name e.name name) es
found_same name [] = refl
found_same name (e ∷ es) =
    ap (λ b. cond b (Some e) (find (λ (y : Export). bytes_eq y.name name) es)) (sym (same_bytes e.name name))
    ∙ ap (λ r. cond (same_name e.name name) (Some e) r) (found_same name es)

pub five : (a b c d e a' b' c' d' e' : ℕ) → a ≡ a' → b ≡ b' → c ≡ c' → d ≡ d' → e ≡ e'
    → (let x : P.Exports = record { start_unwind = a; stop_unwind = b; start_rewind = c; stop_rewind = d; get_state = e } in let y : P.Exports =
    record { start_unwind = a'; stop_unwind = b'; start_rewind = c'; stop_rewind = d'; get_state = e' } in x ≡ y)
five a b c d e a' b' c' d' e' h1 h2 h3 h4 h5 = rw (h1, h2, h3, h4, h5) refl

-- ---- items that are gathered

pub one_more : {X Y : Type 0} (f : X → Option Y) (xs : List X) (i : ℕ) (x : X) (ys new : List Y) → i < length xs → x ≡ get_or xs i x → ys ≡ filter_map f (take i xs)
    → new ≡ ys ++ cons_option (f x) [] → new ≡ filter_map f (take (i + 1) xs)
one_more f xs i x ys new lt at before e =
    e ∙ ap (λ z. z ++ cons_option (f x) []) before ∙ sym (filter_map-append f (take i xs) (x ∷ [])) ∙ ap (λ z. filter_map f (take i xs ++ z ∷ [])) at ∙ ap (filter_map f) (sym (take_more xs i x lt))

pub mapped_more : {X Y Z : Type 0} (g : Y → Z) (f : X → Option Y) (xs : List X) (i : ℕ) (x : X) (zs new : List Z) → i < length xs → x ≡ get_or xs i x → zs ≡ map g (filter_map f (take i xs))
    → new ≡ zs ++ map g (cons_option (f x) [])
    → new ≡ map g (filter_map f (take (i + 1) xs))
mapped_more g f xs i x zs new lt at before e =
    e ∙ ap (λ z. z ++ map g (cons_option (f x) [])) before ∙ sym (map-append g (filter_map f (take i xs)) (cons_option (f x) []))
    ∙ ap (map g) (sym (filter_map-append f (take i xs) (x ∷ [])) ∙ ap (λ z. filter_map f (take i xs ++ z ∷ [])) at ∙ ap (filter_map f) (sym (take_more xs i x lt)))

-- ---- entry calls

pub no_funcs : (es : List NamedEntry) → calls_of es [] ≡ []
no_funcs [] = refl
no_funcs (e ∷ es) = refl

pub call_more : (all : List Entry) (rest rest' : List EntryValue) (funcs : List ℕ) (i f : ℕ) (e : EntryValue) (calls calls' : List EntryCall) (c : EntryCall)
    → all ≡ map entry_of calls ++ calls_of (map V.entry_of rest) (drop i funcs) → rest ≡ e ∷ rest'
    → drop i funcs ≡ f ∷ drop (i + 1) funcs → calls' ≡ calls ++ c ∷ [] → c.func ≡ f → c.args.items ≡ e.args.items → all ≡ map entry_of calls' ++ calls_of (map V.entry_of rest') (drop (i + 1) funcs)
call_more all rest rest' funcs i f e calls calls' c h r d n is_f is_args =
    h ∙ ap (λ z. map entry_of calls ++ calls_of (map V.entry_of z) (drop i funcs)) r ∙ ap (λ z. map entry_of calls ++ calls_of (map V.entry_of (e ∷ rest')) z) d
    ∙ ap (λ (z : Entry). map entry_of calls ++ z ∷ calls_of (map V.entry_of rest') (drop (i + 1) funcs)) (same f e.args.items c.func c.args.items is_f is_args)
    ∙ sym (append_assoc (map entry_of calls) (entry_of c ∷ []) (calls_of (map V.entry_of rest') (drop (i + 1) funcs)))
    ∙ ap (λ z. z ++ calls_of (map V.entry_of rest') (drop (i + 1) funcs)) (sym (map-append entry_of calls (c ∷ [])) ∙ ap (map entry_of) (sym n))
  where
    same : (f' : ℕ) (vs : List Value) (g : ℕ) (us : List Value) → g ≡ f' → us ≡ vs → (let x : Entry = record { func = f'; args = vs } in let y : Entry = record { func = g; args = us } in x ≡ y)
    same f' vs g us p q = rw (p, q) refl

pub none_left : (xs : List EntryValue) → length xs ≡ 0 → xs ≡ []
none_left [] e = refl
none_left (x ∷ xs) e = let no : ⊥ = omega arith in absurd no

pub dropped : (xs : List ℕ) (i x : ℕ) → i < length xs → x ≡ get_or xs i x → drop i xs ≡ x ∷ drop (i + 1) xs
dropped xs i x lt at = drop-cons xs i x lt ∙ ap (λ z. z ∷ drop (suc i) xs) (sym at) ∙ ap (λ n. x ∷ drop n xs) (sym (add-one i))

pub dropped_all : (xs : List ℕ) (i : ℕ) → length xs ≤ i → drop i xs ≡ []
dropped_all [] zero h = refl
dropped_all [] (suc i) h = refl
dropped_all (x ∷ xs) zero h = let no : ⊥ = omega arith in absurd no
dropped_all (x ∷ xs) (suc i) h = dropped_all xs i (omega arith)
