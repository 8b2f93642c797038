-- What stands in a module under each index, gathered item by item.
use Rattle.std.proofs.Common.{arith, ◌≡◌, ℕ, suc, ◌+◌, ◌-◌, ◌<◌, ◌≤◌, ◌^◌, List, [], ◌∷◌, ◌++◌, length, take, drop, get_or, map, Option, Some, None, Bool, true, false, refl, ap, sym, ◌∙◌, subst, add-one, drop-cons, if◌then◌else◌, All, append_assoc}
use Rattle.std.specs.List.{filter_map}
use Rattle.std.specs.Option.{is_some}
use Rattle.std.proofs.lemmas.List.{take_more, take_all, drop_all, map_more, length-append, length-map, get_or-map, append-nil}
use Rattle.std.proofs.lemmas.List.Elements.{filter_map-append}
use Rattle.std.proofs.lemmas.List.Sums.{sum_by_more_le, sum_by-append}
use Rattle.wa_types.specs.declared.syntax.Run.{Run}
use Rattle.wa_types.specs.declared.syntax.Func.{Func as FuncValue}
use Rattle.wa_types.specs.Sizes.{SizeRule}
use Rattle.wa_types.specs.Syntax.{Func as PlainFunc, Module}
use Rattle.wa_types.specs.View.{func_of}
use Rattle.validate_bodies.specs.Spaces.{total, ends_from, ends_of}
use Rattle.std.proofs.lemmas.Bool.{lt-ltb, le-ltb}

abbrev opt_list : {Y : Type 0} → Option Y → List Y
opt_list None = []
opt_list (Some y) = y ∷ []

fm_one : {X Y : Type 0} (f : X → Option Y) (x : X) → filter_map f (x ∷ []) ≡ opt_list (f x)
fm_one f x = by_test (f x) refl
  where
    by_test : (o : Option _) → f x ≡ o → filter_map f (x ∷ []) ≡ opt_list o
    by_test None e = rw e refl
    by_test (Some y) e = rw e refl

fm_more : {X Y : Type 0} (f : X → Option Y) (xs : List X) (i : ℕ) (x : X) → i < length xs → x ≡ get_or xs i x → filter_map f (take (i + 1) xs) ≡ filter_map f (take i xs) ++ opt_list (f x)
fm_more f xs i x h e =
    ap (filter_map f) (take_more xs i x h) ∙ filter_map-append f (take i xs) (get_or xs i x ∷ [])
    ∙ ap (λ z. filter_map f (take i xs) ++ z) (fm_one f (get_or xs i x) ∙ ap (λ z. opt_list (f z)) (sym e))

pub fm_some : {X Y : Type 0} (f : X → Option Y) (xs : List X) (ys new : List Y) (i : ℕ) (x : X) (y : Y) → Some y ≡ f x → new ≡ ys ++ y ∷ [] → i < length xs → x ≡ get_or xs i x
    → ys ≡ filter_map f (take i xs) → new ≡ filter_map f (take (i + 1) xs)
fm_some f xs ys new i x y some e h at before =
    e ∙ ap (λ z. z ++ y ∷ []) before ∙ ap (λ o. filter_map f (take i xs) ++ opt_list o) some ∙ sym (fm_more f xs i x h at)

pub fm_none : {X Y : Type 0} (f : X → Option Y) (xs : List X) (ys : List Y) (i : ℕ) (x : X) → None ≡ f x → i < length xs → x ≡ get_or xs i x → ys ≡ filter_map f (take i xs)
    → ys ≡ filter_map f (take (i + 1) xs)
fm_none f xs ys i x none h at before =
    before ∙ sym (append-nil (filter_map f (take i xs))) ∙ ap (λ o. filter_map f (take i xs) ++ opt_list o) none ∙ sym (fm_more f xs i x h at)

pub fm_end : {X Y : Type 0} (f : X → Option Y) (xs : List X) (ys : List Y) (i : ℕ) → length xs ≤ i → ys ≡ filter_map f (take i xs) → ys ≡ filter_map f xs
fm_end f xs ys i h e = e ∙ ap (filter_map f) (take_all i xs h)

map_one : {X Y : Type 0} (v : X → Y) (xs : List X) (x : X) → map v (xs ++ x ∷ []) ≡ map v xs ++ v x ∷ []
map_one v [] x = refl
map_one v (y ∷ ys) x = ap (λ z. v y ∷ z) (map_one v ys x)

pub fm_some_map : {X Y Z : Type 0} (v : Z → Y) (f : X → Option Y) (xs : List X) (ys new : List Z) (i : ℕ) (x : X) (y : Z) → Some (v y) ≡ f x → new ≡ ys ++ y ∷ [] → i < length xs
    → x ≡ get_or xs i x → map v ys ≡ filter_map f (take i xs) → map v new ≡ filter_map f (take (i + 1) xs)
fm_some_map v f xs ys new i x y some e h at before =
    fm_some f xs (map v ys) (map v new) i x (v y) some (ap (map v) e ∙ map_one v ys y) h at before

-- one more item of a map, in front of which something stands
pub on_more : {X Y : Type 0} (f : X → Y) (front ys new : List Y) (xs : List X) (i : ℕ) (x : X) (y : Y) → new ≡ ys ++ y ∷ [] → y ≡ f x → i < length xs → x ≡ get_or xs i x
    → ys ≡ front ++ map f (take i xs) → new ≡ front ++ map f (take (i + 1) xs)
on_more f front ys new xs i x y e is h at before =
    e ∙ ap (λ z. z ++ y ∷ []) before ∙ ap (λ z. (front ++ map f (take i xs)) ++ z ∷ []) (is ∙ ap f at)
    ∙ append_assoc front (map f (take i xs)) (f (get_or xs i x) ∷ []) ∙ ap (λ z. front ++ z) (sym (map_more f xs i x h))

pub map_compose : {X Y Z : Type 0} (g : Y → Z) (f : X → Y) (xs : List X) → map g (map f xs) ≡ map (λ x. g (f x)) xs
map_compose g f [] = refl
map_compose g f (x ∷ xs) = ap (λ z. g (f x) ∷ z) (map_compose g f xs)

pub on_end : {X Y : Type 0} (f : X → Y) (front ys : List Y) (xs : List X) (i : ℕ) → length xs ≤ i → ys ≡ front ++ map f (take i xs) → ys ≡ front ++ map f xs
on_end f front ys xs i h e = e ∙ ap (λ z. front ++ map f z) (take_all i xs h)

-- what stands behind a front, of a map of a map
pub on_close : {X Y Z : Type 0} (g : Y → Z) (f : X → Y) (front ys : List Z) (xs : List X) (i : ℕ) → length xs ≤ i → ys ≡ front ++ map (λ x. g (f x)) (take i xs) → ys ≡ front ++ map g (map f xs)
on_close g f front ys xs i h e = on_end (λ x. g (f x)) front ys xs i h e ∙ ap (λ z. front ++ z) (sym (map_compose g f xs))

pub front_length : {X : Type 0} (all xs ys : List X) (m n : ℕ) → all ≡ xs ++ ys → m ≡ length all → n ≡ length ys → m - n ≡ length xs
front_length all xs ys m n e f g = omega (arith, ap length e, length-append xs ys)

pub both_length : {X : Type 0} (xs ys : List X) (m n : ℕ) → m ≡ length xs → n ≡ length ys → m + n ≡ length (xs ++ ys)
both_length xs ys m n e f = omega (arith, length-append xs ys)

pub each_total : (fs : List FuncValue) → All (λ (f : PlainFunc). total f.locals < 2 ^ 64) (map func_of fs) → All (λ (f : FuncValue). total f.locals.items < 2 ^ 64) fs
each_total fs h = λ k d lt. subst (λ (f : PlainFunc). total f.locals < 2 ^ 64) (get_or-map func_of fs k d (func_of d) lt) (h k (func_of d) (omega (arith, length-map fs func_of)))

pub few_locals : (m : Module) → SizeRule m → All (λ (f : PlainFunc). total f.locals < 2 ^ 64) m.funcs
few_locals m h = λ k d lt. let s = h.each_func k d lt in omega (arith, s.total)

pub ruleset filtering = (fm_some, fm_none, fm_end, fm_some_map, on_more, on_end)

-- one more is counted, or not
abbrev pub one_if : Bool → ℕ
one_if b = if b then 1 else 0

opt_length : {Y : Type 0} (o : Option Y) → length (opt_list o) ≡ one_if (is_some o)
opt_length None = refl
opt_length (Some y) = refl

pub count_more : {X Y : Type 0} (f : X → Option Y) (xs : List X) (i : ℕ) (x : X) → i < length xs → x ≡ get_or xs i x
    → length (filter_map f (take (i + 1) xs)) ≡ length (filter_map f (take i xs)) + one_if (is_some (f x))
count_more f xs i x h e = ap length (fm_more f xs i x h e) ∙ length-append (filter_map f (take i xs)) (opt_list (f x)) ∙ ap (λ n. length (filter_map f (take i xs)) + n) (opt_length (f x))

pub count_yes : {X Y : Type 0} (f : X → Option Y) (xs : List X) (i n : ℕ) (x : X) → is_some (f x) ≡ true → i < length xs → x ≡ get_or xs i x → n ≡ length (filter_map f (take i xs))
    → n + 1 ≡ length (filter_map f (take (i + 1) xs))
count_yes f xs i n x there h e before = ap (λ k. k + 1) before ∙ sym (count_more f xs i x h e ∙ ap (λ b. length (filter_map f (take i xs)) + one_if b) there)

pub count_not : {X Y : Type 0} (f : X → Option Y) (xs : List X) (i n : ℕ) (x : X) → is_some (f x) ≡ false → i < length xs → x ≡ get_or xs i x → n ≡ length (filter_map f (take i xs))
    → n ≡ length (filter_map f (take (i + 1) xs))
count_not f xs i n x none h e before = before ∙ (omega arith) ∙ sym (count_more f xs i x h e ∙ ap (λ b. length (filter_map f (take i xs)) + one_if b) none)

pub count_end : {X Y : Type 0} (f : X → Option Y) (xs : List X) (i : ℕ) → length xs ≤ i → length (filter_map f (take i xs)) ≡ length (filter_map f xs)
count_end f xs i h = ap (λ z. length (filter_map f z)) (take_all i xs h)

pub ruleset counting = (count_yes, count_not, count_end)

pub ends_none : (n : ℕ) → ends_from n [] ≡ []
unfolding ends_from
ends_none n = refl

pub ends_step : (n : ℕ) (rs : List Run) (i : ℕ) (r d : Run) → i < length rs → r ≡ get_or rs i d → ends_from n (drop i rs) ≡ (n + r.count) ∷ ends_from (n + r.count) (drop (i + 1) rs)
unfolding ends_from
ends_step n rs i r d h e = rw (add-one, drop-cons rs i d) (ap (λ (q : Run). (n + q.count) ∷ ends_from (n + q.count) (drop (suc i) rs)) (sym e))

pub ends_on : (n m : ℕ) (rs : List Run) (i : ℕ) (r d : Run) (ys new all : List ℕ) → i < length rs → r ≡ get_or rs i d → m ≡ n + r.count → new ≡ ys ++ m ∷ []
    → ys ++ ends_from n (drop i rs) ≡ all → new ++ ends_from m (drop (i + 1) rs) ≡ all
ends_on n m rs i r d ys new all h at e f before =
    ap (λ z. z ++ ends_from m (drop (i + 1) rs)) f ∙ append_assoc ys (m ∷ []) (ends_from m (drop (i + 1) rs))
    ∙ ap (λ z. ys ++ z ∷ ends_from z (drop (i + 1) rs)) e ∙ ap (λ z. ys ++ z) (sym (ends_step n rs i r d h at)) ∙ before

pub ends_end : (n : ℕ) (rs : List Run) (i : ℕ) (ys all : List ℕ) → length rs ≤ i → ys ++ ends_from n (drop i rs) ≡ all → ys ≡ all
ends_end n rs i ys all h before = sym (append-nil ys) ∙ ap (λ z. ys ++ z) (sym (ap (ends_from n) (drop_all i rs h) ∙ ends_none n)) ∙ before

-- the sum so far and the next run
pub sum_next : (rs : List Run) (i : ℕ) (r d : Run) → i < length rs → r ≡ get_or rs i d → total (take (i + 1) rs) ≡ total (take i rs) + r.count
sum_next rs i r d h e = total_more ∙ ap (λ (q : Run). total (take i rs) + q.count) (sym e)
  where
    total_more : total (take (i + 1) rs) ≡ total (take i rs) + (get_or rs i d).count
    total_more = ap total (take_more rs i d h) ∙ sum_by-append (λ (q : Run). q.count) (take i rs) (get_or rs i d ∷ []) ∙ omega arith

pub sum_within : (rs : List Run) (i : ℕ) (r : Run) → i < length rs → r ≡ get_or rs i r → total (take i rs) + r.count ≤ total rs
sum_within rs i r h e = subst (λ (q : Run). total (take i rs) + q.count ≤ total rs) (sym e) (sum_by_more_le (λ (q : Run). q.count) rs i r h)

pub few_ends : (rs : List Run) → length rs ≤ 4 → ends_of rs ≡ []
unfolding ends_of
few_ends rs h = ap (λ b. if b then ends_from 0 rs else []) (le-ltb 4 (length rs) h)

pub many_ends : (rs : List Run) → 4 < length rs → ends_of rs ≡ ends_from 0 rs
unfolding ends_of
many_ends rs h = ap (λ b. if b then ends_from 0 rs else []) (lt-ltb 4 (length rs) h)

pub ruleset choosing = (few_ends, many_ends)

pub ruleset ending = (ends_on, ends_end, sum_next, sum_within, on_more, on_end)
