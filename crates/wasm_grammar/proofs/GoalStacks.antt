-- The stack of goals, whose top is the last of a list, and the least ends beside it.
use Rattle.std.proofs.Common.{◌≡◌, ℕ, ◌+◌, ◌-◌, ◌<◌, ◌≤◌, List, [], ◌∷◌, ◌++◌, Option, Some, None, refl, ap, sym, ◌∙◌, subst, arith, length, length-take-le, take, drop, reverse, map, get_or, min, Bool, true, false, nat_lt, MatchBool}
use Rattle.std.proofs.lemmas.List.{length-map, length-reverse, reverse-append, take_more, take_all, drop-map, drop-drop, get_or-take}
use Rattle.std.proofs.lemmas.Bool.{ltb-true, ltb-false}
use Rattle.std.specs.Option.{is_some}
use Rattle.wa_types.specs.Begun.{Goal, code, end_of, Inside, IsBefore, settled, closing, passed, next, Steps}
use Rattle.file_laws.proofs.Runs.{some_same}
use Rattle.wasm_grammar.specs.declared.goals.Goal.{Goal as Wanted}
use Rattle.wasm_grammar.specs.Goals.{goal_of, stack_of}
use Rattle.wasm_grammar.specs.declared.ends.Closing.{Closing}
use Rattle.wasm_grammar.specs.Ends.{lowered, least_ends, by_closing, NoStep}
use Rattle.file_laws.specs.Showing.{level_of, levels}

pub stack_push : (xs : List Wanted) (x : Wanted) → stack_of (xs ++ x ∷ []) ≡ goal_of x ∷ stack_of xs
stack_push xs x = ap (map goal_of) (reverse-append xs (x ∷ []))

-- the last of a list is the first of it turned round
turned : {A : Type 0} (xs : List A) (d : A) → 0 < length xs → reverse xs ≡ get_or xs (length xs - 1) d ∷ reverse (take (length xs - 1) xs)
turned xs d some =
    let last : length xs - 1 < length xs = omega arith in
    let all : length xs - 1 + 1 ≡ length xs = omega arith in
    let whole : xs ≡ take (length xs - 1) xs ++ get_or xs (length xs - 1) d ∷ [] =
    sym (take_all (length xs) xs (omega arith)) ∙ ap (λ n. take n xs) (sym all) ∙ take_more xs (length xs - 1) d last in
    ap reverse whole ∙ reverse-append (take (length xs - 1) xs) (get_or xs (length xs - 1) d ∷ [])

-- without its last, a list turned round is without its first
pub turned_less : {A : Type 0} (xs : List A) → reverse (take (length xs - 1) xs) ≡ drop 1 (reverse xs)
turned_less [] = refl
turned_less (x ∷ xs) = ap (drop 1) (sym (turned (x ∷ xs) x (omega arith)))

pub stack_top : (xs : List Wanted) (d : Wanted) → 0 < length xs → stack_of xs ≡ goal_of (get_or xs (length xs - 1) d) ∷ drop 1 (stack_of xs)
stack_top xs d some = let e = ap (map goal_of) (turned xs d some) in e ∙ ap (λ z. goal_of (get_or xs (length xs - 1) d) ∷ drop 1 z) (sym e)

-- the goal behind the first
pub stack_second : (xs : List Wanted) (n : ℕ) (d : Wanted) → 1 < length xs → n + 2 ≡ length xs → drop 1 (stack_of xs) ≡ goal_of (get_or xs n d) ∷ drop 2 (stack_of xs)
stack_second xs n d some place =
    let less : List Wanted = take (length xs - 1) xs in
    let long : length less ≡ length xs - 1 = length-take-le (length xs - 1) xs (omega arith) in
    let shift : stack_of less ≡ drop 1 (stack_of xs) = ap (map goal_of) (turned_less xs) ∙ sym (drop-map goal_of 1 (reverse xs)) in
    let same : get_or less (length less - 1) d ≡ get_or xs n d = get_or-take (length xs - 1) xs (length less - 1) d (omega (arith, long, some))
    ∙ ap (λ k. get_or xs k d) (omega (arith, long, place)) in
    let far : drop 1 (drop 1 (stack_of xs)) ≡ drop 2 (stack_of xs) = drop-drop 1 1 (stack_of xs) in
    sym shift ∙ stack_top less d (omega (arith, long, some)) ∙ ap (λ z. goal_of z ∷ drop 1 (stack_of less)) same ∙ ap (λ z. goal_of (get_or xs n d) ∷ drop 1 z) shift
    ∙ ap (λ z. goal_of (get_or xs n d) ∷ z) far

pub least_top : (gs : List Goal) (ends : List ℕ) (d : ℕ) → 0 < length ends → least_ends gs ≡ reverse ends → least_ends gs ≡ get_or ends (length ends - 1) d ∷ drop 1 (least_ends gs)
least_top gs ends d some e = let t = e ∙ turned ends d some in t ∙ ap (λ z. get_or ends (length ends - 1) d ∷ drop 1 z) (sym t)

-- without ends none is ever reached, and otherwise the first is the least
lowered_inside : (o : Option ℕ) (ends : List ℕ) (gs : List Goal) (IsIn : ℕ → Type 0) → lowered o ends ≡ [] → ((j : ℕ) → IsIn j) → (j : ℕ) → IsBefore j o × IsIn j
lowered_inside None ends gs IsIn e h j = (tt, h j)
lowered_inside (Some x) [] gs IsIn e h j = absurd (cc)
lowered_inside (Some x) (m ∷ ends) gs IsIn e h j = absurd (cc)

lowered_none : (o : Option ℕ) (ends : List ℕ) → lowered o ends ≡ [] → (o ≡ None) × (ends ≡ [])
lowered_none None ends e = (refl, e)
lowered_none (Some x) [] e = absurd (cc)
lowered_none (Some x) (m ∷ ends) e = absurd (cc)

pub no_ends : (gs : List Goal) → least_ends gs ≡ [] → (j : ℕ) → Inside j gs
unfolding least_ends Inside
no_ends [] e j = tt
no_ends (g ∷ gs) e j =
    let n = lowered_none (end_of g) (least_ends gs) e in
    (subst (IsBefore j) (sym n.0) tt, no_ends gs n.1 j)

-- the least end of a goal and of others
with_none : (e m j : ℕ) (ends : List ℕ) (gs : List Goal) → e ∷ [] ≡ m ∷ ends → ((j : ℕ) → Inside j gs) → (j < m → (j < e) × Inside j gs) × (m ≤ j → (j < e) × Inside j gs → ⊥)
with_none e m j ends gs same all =
    let f : e ≡ m = cc in
    (λ h. (omega (arith, f, h), all j), λ h i. omega (arith, f, h, i.0))

with_some : (e l m j : ℕ) (more ends : List ℕ) (gs : List Goal) → min e l ∷ l ∷ more ≡ m ∷ ends → ((j : ℕ) → (j < l → Inside j gs) × (l ≤ j → Inside j gs → ⊥))
    → (j < m → (j < e) × Inside j gs) × (m ≤ j → (j < e) × Inside j gs → ⊥)
with_some e l m j more ends gs same all =
    let f : min e l ≡ m = cc in (
      λ h. (omega (arith, f, h), (all j).0 (omega (arith, f, h))),
      λ h i. (all j).1 (omega (arith, f, h, i.0)) i.1,
    )

-- what is known of the least of these ends
abbrev Firsts : List Goal → List ℕ → Type 0
Firsts gs ends = (m : ℕ) (more : List ℕ) → ends ≡ m ∷ more → (j : ℕ) → (j < m → Inside j gs) × (m ≤ j → Inside j gs → ⊥)

first_by : (gs : List Goal) (o : Option ℕ) (least : List ℕ) → (least ≡ [] → (j : ℕ) → Inside j gs) → Firsts gs least → (m : ℕ) (ends : List ℕ) → lowered o least ≡ m ∷ ends → (j : ℕ)
    → (j < m → IsBefore j o × Inside j gs) × (m ≤ j → IsBefore j o × Inside j gs → ⊥)
first_by gs None least none firsts m ends h j = let i = firsts m ends h j in (λ l. (tt, i.0 l), λ l k. i.1 l k.1)
first_by gs (Some x) [] none firsts m ends h j = with_none x m j ends gs h (none refl)
first_by gs (Some x) (l ∷ more) none firsts m ends h j = with_some x l m j more ends gs h (firsts l more refl)

pub first_end : (gs : List Goal) (m : ℕ) (ends : List ℕ) → least_ends gs ≡ m ∷ ends → (j : ℕ) → (j < m → Inside j gs) × (m ≤ j → Inside j gs → ⊥)
unfolding least_ends Inside
first_end [] m ends e j = absurd (cc)
first_end (g ∷ gs) m ends e j = first_by gs (end_of g) (least_ends gs) (no_ends gs) (λ n more f. first_end gs n more f) m ends e j

-- an end more, and an end less
pub end_pushed : (gs : List Goal) (g : Goal) (e m : ℕ) (ends new : List ℕ) → end_of g ≡ Some e → least_ends gs ≡ reverse ends → lowered (Some e) (reverse ends) ≡ m ∷ reverse ends
    → new ≡ ends ++ m ∷ [] → least_ends (g ∷ gs) ≡ reverse new
unfolding least_ends
end_pushed gs g e m ends new o l h f = ap (λ z. lowered z (least_ends gs)) o ∙ ap (lowered (Some e)) l ∙ h ∙ sym (ap reverse f ∙ reverse-append ends (m ∷ []))

pub none_pushed : (gs : List Goal) (g : Goal) (ends : List ℕ) → end_of g ≡ None → least_ends gs ≡ reverse ends → least_ends (g ∷ gs) ≡ reverse ends
unfolding least_ends
none_pushed gs g ends o l = ap (λ z. lowered z (least_ends gs)) o ∙ l

lowered_less : (e : ℕ) (ends : List ℕ) → drop 1 (lowered (Some e) ends) ≡ ends
lowered_less e [] = refl
lowered_less e (m ∷ ends) = refl

pub end_popped : (gs : List Goal) (g : Goal) (e : ℕ) (ends new : List ℕ) (n : ℕ) → end_of g ≡ Some e → least_ends (g ∷ gs) ≡ reverse ends → n ≡ length ends → new ≡ take (n - 1) ends
    → least_ends gs ≡ reverse new
unfolding least_ends
end_popped gs g e ends new n o l k f =
    sym (lowered_less e (least_ends gs)) ∙ ap (λ z. drop 1 (lowered z (least_ends gs))) (sym o) ∙ ap (drop 1) l ∙ sym (turned_less ends) ∙ ap (λ z. reverse (take (z - 1) ends)) (sym k)
    ∙ ap reverse (sym f)

pub none_popped : (gs : List Goal) (g : Goal) (ends : List ℕ) → end_of g ≡ None → least_ends (g ∷ gs) ≡ reverse ends → least_ends gs ≡ reverse ends
unfolding least_ends
none_popped gs g ends o l = ap (λ z. lowered z (least_ends gs)) (sym o) ∙ l

none_there : (ends : List ℕ) → length ends < 1 → ends ≡ []
none_there [] h = refl
none_there (e ∷ ends) h = absurd (omega arith)

pub empty_ends : (gs : List Goal) (ends lent : List ℕ) → lent ≡ ends → length lent < 1 → least_ends gs ≡ reverse ends → (j : ℕ) → Inside j gs
empty_ends gs ends lent e h l = no_ends gs (l ∙ ap reverse (sym e ∙ none_there lent h))

pub last_end : (gs : List Goal) (ends lent : List ℕ) → lent ≡ ends → 0 < length lent → least_ends gs ≡ reverse ends → (j : ℕ)
    → (j < get_or lent (length lent - 1) 0 → Inside j gs) × (get_or lent (length lent - 1) 0 ≤ j → Inside j gs → ⊥)
last_end gs ends lent e h l j =
    first_end gs (get_or lent (length lent - 1) 0) (drop 1 (least_ends gs)) (least_top gs lent 0 h (l ∙ ap reverse (sym e))) j

-- whether a goal has an end
pub with_end : (o p : Option ℕ) → p ≡ o → is_some p ≡ true → (e : ℕ) × (o ≡ Some e)
with_end None p e h = absurd (let f : is_some p ≡ false = ap is_some e in cc)
with_end (Some x) p e h = (x, refl)

pub without_end : (o p : Option ℕ) → p ≡ o → is_some p ≡ false → o ≡ None
without_end None p e h = refl
without_end (Some x) p e h = absurd (let f : is_some p ≡ true = ap is_some e in cc)

-- how the first goal stands to a place settles it
pub settled_by : (at : ℕ) (gs rest : List Goal) (g : Goal) (k : Closing) → gs ≡ g ∷ rest → ((later here : Option (List Goal)) → passed at (closing g) later here ≡ by_closing k later here)
    → settled at gs ≡ by_closing k (settled at rest) (Some gs)
unfolding settled
settled_by at gs rest g k e f =
    ap (settled at) e ∙ f (settled at rest) (Some (g ∷ rest)) ∙ ap (λ z. by_closing k (settled at rest) (Some z)) (sym e)

pub settled_none : (at : ℕ) (gs : List Goal) → gs ≡ [] → settled at gs ≡ Some gs
unfolding settled
settled_none at gs e = ap (settled at) e ∙ ap Some (sym e)

pub no_goals : (items : List Wanted) (ends : List ℕ) → items ≡ [] → ends ≡ [] → least_ends (stack_of items) ≡ reverse ends
unfolding least_ends
no_goals items ends e f = ap (λ z. least_ends (stack_of z)) e ∙ ap reverse (sym f)

-- what is put in place and settled is a step where the place stands before the least end, and else there is none
pub step_by_end : (g : Goal) (gs new put left : List Goal) (v at end : ℕ) → Some new ≡ next g v at → put ≡ new ++ gs → settled at put ≡ Some left
    → (at < end → Inside at left) × (end ≤ at → Inside at left → ⊥) → MatchBool (nat_lt at end) (Steps g gs v at left) (NoStep g gs v at)
step_by_end g gs new put left v at end pushed e settles least = by_test (nat_lt at end) refl where
  settled_so : settled at (new ++ gs) ≡ Some left
  settled_so = ap (settled at) (sym e) ∙ settles

  left_so : (hs : List Goal) → Steps g gs v at hs → hs ≡ left
  left_so hs s = some_same hs left (settled at (new ++ gs)) (ap (λ z. settled at (z ++ gs)) (some_same new s.new (next g v at) (sym pushed) s.pushed) ∙ s.settles) settled_so

  by_test : (t : Bool) → nat_lt at end ≡ t → MatchBool t (Steps g gs v at left) (NoStep g gs v at)
  by_test true h = record { new = new; pushed = sym pushed; settles = settled_so; inside = least.0 (ltb-true at end h) }
  by_test false h = λ hs s. least.1 (ltb-false at end h) (subst (Inside at) (left_so hs s) s.inside)

-- the levels of code
end_flat : (g : Goal) (e : ℕ) → end_of g ≡ Some e → level_of g ≡ 0
end_flat (code first_arm) e h = absurd (cc)
end_flat _ e h = refl

level_small : (g : Goal) → level_of g ≤ 1
level_small (code first_arm) = omega arith
level_small _ = omega arith

levels_few : (gs : List Goal) → levels gs ≤ length gs
unfolding levels
levels_few [] = omega arith
levels_few (g ∷ gs) = omega (arith, level_small g, levels_few gs)

long_stack : (xs : List Wanted) → length (stack_of xs) ≡ length xs
long_stack xs = length-map (reverse xs) goal_of ∙ length-reverse xs

-- there is room for one more
pub levels_fit : (xs : List Wanted) (codes : ℕ) → codes ≡ levels (stack_of xs) → codes ≤ length xs
levels_fit xs codes e = omega (arith, e, levels_few (stack_of xs), long_stack xs)

pub level_one : (g : Goal) → level_of g ≤ 1
level_one g = level_small g

pub level_pushed : (g : Goal) (gs : List Goal) (codes level : ℕ) → codes ≡ levels gs → level ≡ level_of g → codes + level ≡ levels (g ∷ gs)
unfolding levels
level_pushed g gs codes level e f = omega (arith, e, f)

pub end_pushed_flat : (g : Goal) (gs : List Goal) (codes e : ℕ) → codes ≡ levels gs → end_of g ≡ Some e → codes ≡ levels (g ∷ gs)
unfolding levels
end_pushed_flat g gs codes e h f = omega (arith, h, end_flat g e f)

pub level_popped : (g : Goal) (gs : List Goal) (codes level : ℕ) → codes ≡ levels (g ∷ gs) → level ≡ level_of g → (level ≤ codes) × (codes - level ≡ levels gs)
unfolding levels
level_popped g gs codes level e f = (omega (arith, e, f), omega (arith, e, f))

pub levels_none : (gs : List Goal) → gs ≡ [] → 0 ≡ levels gs
unfolding levels
levels_none gs e = sym (ap levels e)

pub levels_behind_none : (gs : List Goal) → gs ≡ [] → 0 ≡ levels (drop 1 gs)
unfolding levels
levels_behind_none gs e = sym (ap (λ z. levels (drop 1 z)) e)

one_left : (gs : List Goal) → length gs < 2 → drop 1 gs ≡ []
one_left [] h = refl
one_left (g ∷ []) h = refl
one_left (g ∷ k ∷ gs) h = absurd (omega arith)

pub none_second : (xs : List Wanted) → length xs < 2 → drop 1 (stack_of xs) ≡ []
none_second xs h = one_left (stack_of xs) (omega (arith, h, long_stack xs))
