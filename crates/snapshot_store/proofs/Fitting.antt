-- That all of a list fit, item by item.
use Rattle.std.proofs.Common.{◌≡◌, ℕ, ◌+◌, ◌<◌, ◌≤◌, List, [], ◌∷◌, ◌++◌, length, map, take, get_or, sym, ap, ◌∙◌, subst, All, append_assoc}
use Rattle.std.specs.Prelude.{Err, Ok, OnOk, Result}
use Rattle.std.specs.List.{flat_map}
use Rattle.std.proofs.lemmas.Grind.{flat_map-append}
use Rattle.std.proofs.lemmas.List.{append-nil, get_or_default, map-append, take_all, take_more}
use Rattle.std.proofs.lemmas.List.Elements.{All-append, All-cons, All-nil}

-- one item more
pub all_more : {X : Type 0} (P : X → Type 0) (xs : List X) (i : ℕ) (x : X) → i < length xs → x ≡ get_or xs i x → All P (take i xs) → P x → All P (take (i + 1) xs)
all_more {X = X} P xs i x h is all p =
    subst (All P) (ap (λ (y : X). take i xs ++ y ∷ []) is ∙ sym (take_more xs i x h)) (All-append P (take i xs) (x ∷ []) all (All-cons P x [] p (All-nil P)))

-- .. as what they are seen
pub all_seen_more : {X Y : Type 0} (view : X → Y) (P : Y → Type 0) (xs : List X) (i : ℕ) (x : X) → i < length xs → x ≡ get_or xs i x → All P (map view (take i xs)) → P (view x)
    → All P (map view (take (i + 1) xs))
all_seen_more {X = X} view P xs i x h is all p =
    subst (λ (ys : List X). All P (map view ys)) (ap (λ (y : X). take i xs ++ y ∷ []) is ∙ sym (take_more xs i x h))
    (subst (All P) (sym (map-append view (take i xs) (x ∷ []))) (All-append P (map view (take i xs)) (view x ∷ []) all (All-cons P (view x) [] p (All-nil P))))

-- all items
pub all_of : {X : Type 0} (P : List X → Type 0) (xs : List X) (i : ℕ) → length xs ≤ i → P (take i xs) → P xs
all_of P xs i h all = subst P (take_all i xs h) all

-- an item that is read is there, whatever stands for one that isn't
pub read_as : {X : Type 0} (xs : List X) (i : ℕ) (d : X) → i < length xs → get_or xs i d ≡ get_or xs i (get_or xs i d)
read_as xs i d h = get_or_default xs i d (get_or xs i d) h

-- one item more is spelled behind the others
pub spelled_more : {X : Type 0} (spell : X → List ℕ) (front mid o o' : List ℕ) (xs : List X) (i : ℕ) (x : X) → i < length xs → x ≡ get_or xs i x
    → o ≡ front ++ (mid ++ flat_map spell (take i xs)) → o' ≡ o ++ spell x → o' ≡ front ++ (mid ++ flat_map spell (take (i + 1) xs))
spelled_more {X = X} spell front mid o o' xs i x h is e e' =
    let told = flat_map spell (take i xs) in
    let more : flat_map spell (take (i + 1) xs) ≡ told ++ spell x =
    ap (flat_map spell) (take_more xs i x h ∙ ap (λ (y : X). take i xs ++ y ∷ []) (sym is)) ∙ flat_map-append spell (take i xs) (x ∷ []) ∙ ap (λ (bs : List ℕ). told ++ bs) (append-nil (spell x)) in
    e' ∙ ap (λ (bs : List ℕ). bs ++ spell x) e ∙ append_assoc front (mid ++ told) (spell x) ∙ ap (λ (bs : List ℕ). front ++ bs) (append_assoc mid told (spell x))
    ∙ ap (λ (bs : List ℕ). front ++ (mid ++ bs)) (sym more)

-- whatever the answer is
pub on_ok_true : {T E P : Type 0} (r : Result T E) → P → OnOk r P
on_ok_true (Ok x) p = p
on_ok_true (Err e) p = tt
