-- A survey, instruction by instruction.
use Rattle.std.proofs.Common.{◌≡◌, ℕ, zero, suc, ◌+◌, ◌<◌, ◌≤◌, ◌||◌, ◌++◌, List, [], ◌∷◌, length, drop, get_or, slice_get, Option, Some, None, Bool, true, false, if◌then◌else◌, refl, subst, arith, ap, sym, ◌∙◌, length-append, Result, Ok, Err, OnOk}
use Rattle.std.specs.List.{list_any}
use Rattle.std.proofs.lemmas.List.{append-nil, append_assoc}
use Rattle.std.proofs.lemmas.List.Folds.{list_any-append}
use Rattle.wa_types.specs.declared.values.ValType.{ValType}
use Rattle.wa_types.specs.declared.instrs.Instr.{Instr}
use Rattle.wa_types.specs.Syntax.{Basic, basic, Plain, local_get, local_set, local_tee, br, br_if, br_table, return, unreachable, call, call_indirect, Shape, Code, done, plain, nest, branch}
use Rattle.wa_types.specs.View.{code, onto, in_front}
use Rattle.wa_types.specs.Pruned.{is_last, is_last_instr, pruned}
use Rattle.wa_types.specs.Sizes.{code_items}
use Rattle.wa_types.specs.Typing.{gets, sets, tees, may_jump, label, listed, sig, Takes, Types}
use Rattle.wa_types.specs.Points.{after, unless_last, points}
use Rattle.wa_types.specs.Frames.{Pair, pair_of, shape_pair, same_pair, stands_at, results_in}
use Rattle.wa_types.proofs.ViewLemmas.{code_step, code_empty}
use Rattle.wasm_validate.specs.Walk.{Walk, Stays, Inside, TypedAt, left_at}
use Rattle.wasm_validate.proofs.WalkUses.{typed_alone, onward}
use Rattle.wa_model.specs.Store.{takes, gives}
use Rattle.flat_laws.proofs.OperandTypes.{after_all}
use Rattle.flatten.specs.declared.marks.Seen.{Seen}
use Rattle.flatten.specs.declared.survey.Found.{Found}
use Rattle.flatten.specs.Numbers.{is_marked, pairs_in}
use Rattle.flatten.specs.Emitting.{all_of, Changed, SmallTypes}
use Rattle.flatten.specs.Surveying.{is_top, Covers, any_point, any_result, found_count, Surveyed, SurveyedOne}
use Rattle.flatten.proofs.TakenLemmas.{basic_changed, call_changed, table_changed}
use Rattle.flat_laws.specs.Flatten.{Names}
use Rattle.flatten.proofs.NestLemmas.{left_same, left_outer}
use Rattle.flatten.proofs.BasicLemmas.{last_plain}
use Rattle.flatten.proofs.BodyLemmas.{items_front}
use Rattle.flatten.proofs.SurveyLemmas.{stands_drop, top_stands, covers_next, seen_on, absorbed, or_same, or_turned, or_turned_twice, point_head}

-- Where a survey stands in a body, of which this is left.
pub record Went (v w : Walk) (all left : Code) (a b : Found) : Type 0 where
  pub stays : Stays v w
  pub typed : TypedAt w left
  pub covers : Covers a.slots.items (all_of v) → Covers b.slots.items (all_of w)
  pub slots : Covers a.slots.items (all_of v) → (h : ℕ) (t : ValType) → (is_marked b.slots.items h t || any_point h t w left) ≡ (is_marked a.slots.items h t || any_point h t v all)
  pub results : (d : ℕ) (t : ValType) → (is_marked b.results.items d t || any_result d t w left) ≡ (is_marked a.results.items d t || any_result d t v all)
  pub few : found_count b + code_items left ≤ found_count a + code_items all

-- ---- what all operands are behind an instruction

-- all but the topmost were there
abbrev pub OneMore : (all new : List ValType) → Type 0
OneMore all new = (k : ℕ) × (drop 1 new ≡ drop k all)

from_given : (k g : ℕ) (all new : List ValType) → g ≤ 1 → Changed k g all new → OneMore all new
from_given k zero all new le c = (suc k, ap (drop 1) c.then_all ∙ dropped k all)
  where
    dropped : (k : ℕ) (xs : List ValType) → drop 1 (drop k xs) ≡ drop (suc k) xs
    dropped zero xs = refl
    dropped (suc k) [] = refl
    dropped (suc k) (x ∷ xs) = dropped k xs
from_given k (suc g) all new le c = (k, ap (drop 1) c.then_all.1)

few_gives : (b : Basic) → gives b ≤ 1
few_gives b = grind arith

get_more : (o : Option ValType) (own mids under : List ValType) → Takes (gets o) own mids → OneMore (own ++ under) (mids ++ under)
get_more None own mids under t = absurd t
get_more (Some u) own mids under t = (0, ap (λ z. drop 1 (z ++ under)) t.2 ∙ ap (λ z. z ++ under) (sym t.1))

set_more : (o : Option ValType) (own mids under : List ValType) → Takes (sets o) own mids → OneMore (own ++ under) (mids ++ under)
set_more None own mids under t = absurd t
set_more (Some u) own mids under t = (2, ap (λ z. drop 1 (z ++ under)) t.2 ∙ sym (ap (λ z. drop 2 (z ++ under)) t.1))

tee_more : (o : Option ValType) (own mids under : List ValType) → Takes (tees o) own mids → OneMore (own ++ under) (mids ++ under)
tee_more None own mids under t = absurd t
tee_more (Some u) own mids under t = (1, ap (λ z. drop 1 (z ++ under)) (t.2 ∙ sym t.1))

br_if_more : (o : Option (Option ValType)) (own mids under : List ValType) → Takes (may_jump o) own mids → OneMore (own ++ under) (mids ++ under)
br_if_more None own mids under t = absurd t
br_if_more (Some r) own mids under t = (2, ap (λ z. drop 1 (z ++ under)) t.2 ∙ sym (ap (λ z. drop 2 (z ++ under)) t.1))

plain_more : (v : Walk) (p : Plain) (mids : List ValType) → is_last p ≡ false → SmallTypes v.around → Takes (sig v.around v.labels p) v.own mids → OneMore (all_of v) (mids ++ v.under)
plain_more v (basic b) mids e s t = from_given (takes b) (gives b) (all_of v) (mids ++ v.under) (few_gives b) (basic_changed v.around b v.own mids v.under t)
plain_more v (local_get x) mids e s t = get_more (slice_get v.around.locals x) v.own mids v.under t
plain_more v (local_set x) mids e s t = set_more (slice_get v.around.locals x) v.own mids v.under t
plain_more v (local_tee x) mids e s t = tee_more (slice_get v.around.locals x) v.own mids v.under t
plain_more v (br l) mids e s t = cc
plain_more v (br_if l) mids e s t = br_if_more (slice_get v.labels l) v.own mids v.under t
plain_more v (br_table ts l) mids e s t = cc
plain_more v return mids e s t = cc
plain_more v unreachable mids e s t = cc
plain_more v (call x) mids e s t = from_given _ _ (all_of v) (mids ++ v.under) (s.funcs x).results (call_changed (slice_get v.around.funcs x) v.own mids v.under (s.funcs x).results t)
plain_more v (call_indirect x) mids e s t = from_given _ _ (all_of v) (mids ++ v.under) (s.sorts x).results
    (table_changed v.around.table (slice_get v.around.types x) v.own mids v.under (s.sorts x).results t)

-- ---- the top is visited

module _ (a b : List Seen) (v w : Walk) (more : OneMore (all_of v) (all_of w)) (ca : Covers a (all_of v)) (m : (h : ℕ) (t : ValType)
    → is_marked b h t ≡ (is_top h t (all_of w) || is_marked a h t)) where
  pub visited_covers : Covers b (all_of w)
  visited_covers = covers_next a b (all_of v) (all_of w) more.0 ca more.1 m

  pub visited_slots : (rest : Code) (h : ℕ) (t : ValType) → (is_marked b h t || any_point h t w rest) ≡ (is_marked a h t || any_point h t w rest)
  visited_slots rest h t = ap (λ z. z || any_point h t w rest) (m h t) ∙ seen_on (is_top h t (all_of w)) (is_marked a h t) (any_point h t w rest)
      (λ e. point_head h t w rest (top_stands h t (all_of w) e))

-- ---- bodies

or_none : (m s : Bool) → (s ≡ true → m ≡ true) → (m || (s || false)) ≡ m
or_none true s f = refl
or_none false true f = sym (f refl)
or_none false false f = refl

or_false : (m : Bool) → (m || false) ≡ m
or_false true = refl
or_false false = refl

last_points : (h : ℕ) (t : ValType) (w : Walk) (p : Plain) (rest : Code) → is_last p ≡ true → any_point h t w (plain p rest) ≡ (stands_at h t (all_of w) || false)
unfolding points
last_points h t w p rest e = ap (λ b. stands_at h t (all_of w) || list_any (stands_at h t) (unless_last b (points w.around w.labels rest w.under (after (sig w.around w.labels p) w.own)))) e

last_results : (d : ℕ) (t : ValType) (w : Walk) (p : Plain) (rest : Code) → is_last p ≡ true → any_result d t w (plain p rest) ≡ false
unfolding results_in pruned
last_results d t w p rest e = ap (λ b. list_any (same_pair d t) (results_in (length w.labels) (if b then done else pruned rest))) e

done_points : (h : ℕ) (t : ValType) (w : Walk) → any_point h t w done ≡ (stands_at h t (all_of w) || false)
unfolding points
done_points h t w = refl

done_results : (d : ℕ) (t : ValType) (w : Walk) → any_result d t w done ≡ false
unfolding results_in pruned
done_results d t w = refl

pub went_first : (v : Walk) (all : Code) (a : Found) → TypedAt v all → Went v v all all a a
went_first v all a t = record {
  stays = record { around = refl; labels = refl; under = refl };
  typed = t;
  covers = λ c. c;
  slots = λ c h t. refl;
  results = λ d t. refl;
  few = omega arith;
}

-- what nothing is found in is found
went_through : (v w : Walk) (all left : Code) (a b : Found) → Went v w all left a b → ((h : ℕ) (t : ValType) → any_point h t w left ≡ (stands_at h t (all_of w) || false))
    → ((d : ℕ) (t : ValType) → any_result d t w left ≡ false) → Surveyed v w all a b
went_through v w all left a b g ps rs = record {
  stays = g.stays;
  slots = λ c h t. sym (or_none (is_marked b.slots.items h t) (stands_at h t (all_of w)) (g.covers c h t)) ∙ ap (λ z. is_marked b.slots.items h t || z) (sym (ps h t)) ∙ g.slots c h t;
  results = λ d t. sym (or_false (is_marked b.results.items d t)) ∙ ap (λ z. is_marked b.results.items d t || z) (sym (rs d t)) ∙ g.results d t;
  few = let f = g.few in omega arith;
}

module _ (v w : Walk) (body : List Instr) (j : ℕ) (a b : Found) (g : Went v w (code body) (code (drop j body)) a b) where
  pub went_end : length body ≤ j → Surveyed v w (code body) a b
  went_end le =
      let e = code_empty body j le in
      went_through v w (code body) (code (drop j body)) a b g (λ h t. ap (any_point h t w) e ∙ done_points h t w) (λ d t. ap (any_result d t w) e ∙ done_results d t w)

  module _ (x : Instr) (lt : j < length body) (at : x ≡ get_or body j x) where
    front : code (drop j body) ≡ in_front x (code (drop (j + 1) body))
    front = code_step body j x lt at

    front_typed : TypedAt w (in_front x (code (drop (j + 1) body)))
    front_typed = subst (TypedAt w) front g.typed

    pub went_last : is_last_instr x ≡ true → Surveyed v w (code body) a b
    went_last e =
        let p = last_plain x e in
        let k : code (drop j body) ≡ plain p.0 (code (drop (j + 1) body)) = front ∙ p.1 (code (drop (j + 1) body)) in
        went_through v w (code body) (code (drop j body)) a b g (λ h t. ap (any_point h t w) k ∙ last_points h t w p.0 (code (drop (j + 1) body)) p.2) (λ d t. ap (any_result d t w) k
        ∙ last_results d t w p.0 (code (drop (j + 1) body)) p.2)

    pub next_typed : TypedAt w (in_front x done)
    next_typed = typed_alone w.around w.labels x (code (drop (j + 1) body)) w.own front_typed

    pub next_fewer : code_items (in_front x done) ≤ code_items (code (drop j body))
    next_fewer = omega (arith, ap code_items front ∙ items_front x (code (drop (j + 1) body)))

    pub went_next : (u : Walk) (d : Found) → is_last_instr x ≡ false → SurveyedOne w u x b d → Went v u (code body) (code (drop (j + 1) body)) a d
    went_next u d e o =
        let rest : Code = code (drop (j + 1) body) in
        record {
          stays = record { around = o.stays.around ∙ g.stays.around; labels = o.stays.labels ∙ g.stays.labels; under = o.stays.under ∙ g.stays.under };
          typed = moved_typed w u rest o.stays (onward w.around w.labels x rest w.own front_typed u.own o.typed e);
          covers = λ c. o.covers (g.covers c);
          slots = λ c h t. o.slots (g.covers c) rest h t ∙ ap (λ k. is_marked b.slots.items h t || any_point h t w k) (sym front) ∙ g.slots c h t;
          results = λ n t. o.results rest n t ∙ ap (λ k. is_marked b.results.items n t || any_result n t w k) (sym front) ∙ g.results n t;
          few = let f = g.few in let q = o.few in omega (arith, f, q, ap code_items front ∙ items_front x rest);
        }
      where
        moved_typed : (w u : Walk) (k : Code) → Stays w u → TypedAt (record { around = w.around; labels = w.labels; own = u.own; under = w.under }) k → TypedAt u k
        moved_typed w u k s h =
            subst (λ c. TypedAt (record { around = c; labels = u.labels; own = u.own; under = u.under }) k) (sym s.around)
            (subst (λ ls. TypedAt (record { around = w.around; labels = ls; own = u.own; under = u.under }) k) (sym s.labels) h)

-- ---- one instruction

module _ (v w : Walk) (i : Instr) (p : Plain) (is : (rest : Code) → in_front i rest ≡ plain p rest) (on : is_last p ≡ false) (st : Stays v w)
    (ty : Types v.around v.labels (in_front i done) w.own v.own) where
  plain_moved : Takes (sig v.around v.labels p) v.own w.own
  unfolding Types
  plain_moved = let t : Types v.around v.labels (plain p done) w.own v.own = subst (λ (k : Code). Types v.around v.labels k w.own v.own) (is done) ty
      in subst (Takes (sig v.around v.labels p) v.own) t.2 t.1

  plain_behind : after (sig v.around v.labels p) v.own ≡ w.own
  plain_behind = after_all v.around v.labels p v.own w.own [] v.own on plain_moved (sym (append-nil v.own)) ∙ append-nil w.own

  plain_points : (rest : Code) (h : ℕ) (t : ValType) → any_point h t v (in_front i rest) ≡ (stands_at h t (all_of v) || any_point h t w rest)
  unfolding points
  plain_points rest h t =
      ap (any_point h t v) (is rest) ∙ ap (λ b. stands_at h t (all_of v) || list_any (stands_at h t) (unless_last b (points v.around v.labels rest v.under (after (sig v.around v.labels p) v.own)))) on
      ∙ ap (λ own. stands_at h t (all_of v) || list_any (stands_at h t) (points v.around v.labels rest v.under own)) plain_behind
      ∙ ap (λ c. stands_at h t (all_of v) || list_any (stands_at h t) (points c v.labels rest v.under w.own)) (sym st.around)
      ∙ ap (λ ls. stands_at h t (all_of v) || list_any (stands_at h t) (points w.around ls rest v.under w.own)) (sym st.labels)
      ∙ ap (λ u. stands_at h t (all_of v) || list_any (stands_at h t) (points w.around w.labels rest u w.own)) (sym st.under)

  plain_results : (rest : Code) (d : ℕ) (t : ValType) → any_result d t v (in_front i rest) ≡ any_result d t w rest
  unfolding results_in pruned
  plain_results rest d t =
      ap (any_result d t v) (is rest) ∙ ap (λ b. list_any (same_pair d t) (results_in (length v.labels) (if b then done else pruned rest))) on
      ∙ ap (λ ls. list_any (same_pair d t) (results_in (length ls) (pruned rest))) (sym st.labels)

  plain_counts : 1 ≤ code_items (in_front i done)
  unfolding code_items
  plain_counts = omega (arith, ap code_items (is done))

  pub plain_one : (a b : Found) → SmallTypes v.around → ((h : ℕ) (t : ValType) → is_marked b.slots.items h t ≡ (is_top h t (all_of w) || is_marked a.slots.items h t))
      → length (pairs_in 0 b.slots.items) ≤ length (pairs_in 0 a.slots.items) + 1 → b.results.items ≡ a.results.items → SurveyedOne v w i a b
  plain_one a b small m few er =
      let more : OneMore (all_of v) (all_of w) = subst (λ u. OneMore (all_of v) (w.own ++ u)) (sym st.under) (plain_more v p w.own on small plain_moved) in
      record {
        stays = st;
        typed = ty;
        covers = λ c. visited_covers a.slots.items b.slots.items v w more c m;
        slots = λ c rest h t.
            visited_slots a.slots.items b.slots.items v w more c m rest h t ∙ absorbed (is_marked a.slots.items h t) (stands_at h t (all_of v)) (any_point h t w rest) (c h t)
            ∙ ap (λ z. is_marked a.slots.items h t || z) (sym (plain_points rest h t));
        results = λ rest d t. ap (λ z. is_marked z d t || any_result d t w rest) er ∙ ap (λ z. is_marked a.results.items d t || z) (sym (plain_results rest d t));
        few = omega (arith, few, plain_counts, ap (λ z. length (pairs_in 0 z)) er);
      }

-- what is covered stays so
covers_on : (a m : List Seen) (ops : List ValType) (x : ℕ → ValType → Bool) → Covers a ops → ((h : ℕ) (t : ValType) → is_marked m h t ≡ (is_marked a h t || x h t)) → Covers m ops
covers_on a m ops x c e h t s = e h t ∙ by (is_marked a h t) (x h t) (c h t s)
  where
    by : (p q : Bool) → p ≡ true → (p || q) ≡ true
    by true q f = refl
    by false q f = cc

given_more : (given : Option ValType) (all : List ValType) → OneMore all (listed given ++ all)
given_more None all = (1, refl)
given_more (Some t) all = (0, refl)

more_below : (given : Option ValType) (all low : List ValType) (k : ℕ) → low ≡ drop k all → OneMore all (listed given ++ low)
more_below None all low k e = (suc k, ap (drop 1) e ∙ dropped k all)
  where
    dropped : (k : ℕ) (xs : List ValType) → drop 1 (drop k xs) ≡ drop (suc k) xs
    dropped zero xs = refl
    dropped (suc k) [] = refl
    dropped (suc k) (x ∷ xs) = dropped k xs
more_below (Some t) all low k e = (k, e)

-- names that aren't looked at
pub no_names : Names
no_names = record { first = 0; slots = []; results = [] }

-- inside a construct, and behind it
abbrev pub inside_of : Walk → Option ValType → List ValType → Walk
inside_of v lab own0 = record { around = v.around; labels = lab ∷ v.labels; own = []; under = own0 ++ v.under }

abbrev pub behind_of : Walk → Option ValType → List ValType → Walk
behind_of v given own0 = record { around = v.around; labels = v.labels; own = listed given ++ own0; under = v.under }

pub left_behind : (v u : Walk) (lab given : Option ValType) (own0 : List ValType) (base : ℕ) → Stays (inside_of v lab own0) u → base ≡ length v.under → left_at given base u ≡ behind_of v given own0
left_behind v u lab given own0 base st e = left_same no_names v lab given own0 u base st ∙ left_outer no_names v lab given own0 base e

behind_stays : (v w : Walk) (given : Option ValType) (own0 : List ValType) → w ≡ behind_of v given own0 → Stays v w
behind_stays v w given own0 e = record { around = ap (λ (z : Walk). z.around) e; labels = ap (λ (z : Walk). z.labels) e; under = ap (λ (z : Walk). z.under) e }

behind_all : (v w : Walk) (given : Option ValType) (own0 : List ValType) → w ≡ behind_of v given own0 → all_of w ≡ listed given ++ (own0 ++ v.under)
behind_all v w given own0 e = ap (λ (z : Walk). all_of z) e ∙ append_assoc (listed given) own0 v.under

module _ (v w u : Walk) (i : Instr) (s : Shape) (given : Option ValType) (body : Code) (is : (rest : Code) → in_front i rest ≡ nest s given body rest) (typed : TypedAt v (in_front i done)) where
  pub nest_in : (e : Walk) → Inside v (in_front i done) e → e ≡ inside_of v (label s given) v.own
  nest_in e h = subst (λ (k : Code). Inside v k e) (is done) h

  nest_types : Types v.around v.labels (nest s given body done) typed.0 v.own
  nest_types = subst (λ (k : Code). Types v.around v.labels k typed.0 v.own) (is done) typed.1

  pub nest_first : (e : Walk) → e ≡ inside_of v (label s given) v.own → TypedAt e body
  unfolding Types
  nest_first e q = subst (λ (z : Walk). TypedAt z body) (sym q) (listed given, nest_types.0)

  nest_typed : w ≡ behind_of v given v.own → Types v.around v.labels (in_front i done) w.own v.own
  unfolding Types
  nest_typed e = subst (λ (k : Code). Types v.around v.labels k w.own v.own) (sym (is done)) (nest_types.0, sym (ap (λ (z : Walk). z.own) e))

  pub nest_items : code_items (in_front i done) ≡ 2 + code_items body
  unfolding code_items
  nest_items = ap code_items (is done) ∙ omega arith

  nest_points : (rest : Code) (h : ℕ) (t : ValType) → w ≡ behind_of v given v.own → any_point h t v (in_front i rest)
      ≡ (stands_at h t (all_of v) || (any_point h t (inside_of v (label s given) v.own) body || any_point h t w rest))
  unfolding points
  nest_points rest h t e =
      ap (any_point h t v) (is rest) ∙ ap (λ z. stands_at h t (all_of v) || z) (list_any-append (stands_at h t) (points v.around (label s given ∷ v.labels) body (v.own ++ v.under) [])
      (points v.around v.labels rest v.under (listed given ++ v.own)))
      ∙ ap (λ (z : Walk). stands_at h t (all_of v) || (any_point h t (inside_of v (label s given) v.own) body || any_point h t z rest)) (sym e)

  nest_results : (rest : Code) (d : ℕ) (t : ValType) → w ≡ behind_of v given v.own
      → any_result d t v (in_front i rest) ≡ ((list_any (same_pair d t) (shape_pair s (length v.labels) given) || any_result d t (inside_of v (label s given) v.own) body) || any_result d t w rest)
  unfolding results_in pruned
  nest_results rest d t e =
      let here : List Pair = shape_pair s (length v.labels) given in
      let inner : List Pair = results_in (suc (length v.labels)) (pruned body) in
      let behind : List Pair = results_in (length v.labels) (pruned rest) in
      ap (any_result d t v) (is rest) ∙ list_any-append (same_pair d t) (here ++ inner) behind ∙ ap (λ z. z || list_any (same_pair d t) behind) (list_any-append (same_pair d t) here inner)
      ∙ ap (λ (z : Walk). (list_any (same_pair d t) here || list_any (same_pair d t) inner) || any_result d t z rest) (sym e)

  pub nest_one : (e : Walk) (a a1 m b : Found) → e ≡ inside_of v (label s given) v.own → w ≡ behind_of v given v.own → a1.slots.items ≡ a.slots.items
      → ((d : ℕ) (t : ValType) → is_marked a1.results.items d t ≡ (list_any (same_pair d t) (shape_pair s (length v.labels) given) || is_marked a.results.items d t))
      → length (pairs_in 0 a1.results.items) ≤ length (pairs_in 0 a.results.items) + 1
      → Surveyed e u body a1 m → ((h : ℕ) (t : ValType) → is_marked b.slots.items h t ≡ (is_top h t (all_of w) || is_marked m.slots.items h t))
      → length (pairs_in 0 b.slots.items) ≤ length (pairs_in 0 m.slots.items) + 1 → b.results.items ≡ m.results.items → SurveyedOne v w i a b
  nest_one e a a1 m b ee ew ea ra fa g mb fb er =
      let more : OneMore (all_of v) (all_of w) = subst (OneMore (all_of v)) (sym (behind_all v w given v.own ew)) (more_below given (all_of v) (all_of v) 0 refl) in
      let first : Covers a.slots.items (all_of v) → Covers a1.slots.items (all_of e) =
      (λ c. subst (λ (z : Walk). Covers a1.slots.items (all_of z)) (sym ee) (subst (λ z. Covers z (all_of v)) (sym ea) c)) in
      let grew : (c : Covers a.slots.items (all_of v)) (h : ℕ) (t : ValType) → is_marked m.slots.items h t ≡ (is_marked a.slots.items h t || any_point h t (inside_of v (label s given) v.own) body) =
      (λ c h t. g.slots (first c) h t ∙ ap (λ z. is_marked z h t || any_point h t e body) ea ∙ ap (λ (z : Walk). is_marked a.slots.items h t || any_point h t z body) ee) in
      let covered : Covers a.slots.items (all_of v) → Covers m.slots.items (all_of v) =
      (λ c. covers_on a.slots.items m.slots.items (all_of v) (λ h t. any_point h t (inside_of v (label s given) v.own) body) c (grew c)) in
      record {
        stays = behind_stays v w given v.own ew;
        typed = nest_typed ew;
        covers = λ c. visited_covers m.slots.items b.slots.items v w more (covered c) mb;
        slots = λ c rest h t.
            visited_slots m.slots.items b.slots.items v w more (covered c) mb rest h t ∙ ap (λ z. z || any_point h t w rest) (grew c h t)
            ∙ or_same (is_marked a.slots.items h t) (any_point h t (inside_of v (label s given) v.own) body) (any_point h t w rest)
            ∙ absorbed (is_marked a.slots.items h t) (stands_at h t (all_of v)) (any_point h t (inside_of v (label s given) v.own) body || any_point h t w rest) (c h t)
            ∙ ap (λ z. is_marked a.slots.items h t || z) (sym (nest_points rest h t ew));
        results = λ rest d t.
            ap (λ z. is_marked z d t || any_result d t w rest) er ∙ ap (λ z. z || any_result d t w rest) (g.results d t
            ∙ ap (λ (z : Walk). is_marked a1.results.items d t || any_result d t z body) ee ∙ ap (λ z. z || any_result d t (inside_of v (label s given) v.own) body) (ra d t))
            ∙ or_turned (list_any (same_pair d t) (shape_pair s (length v.labels) given)) (is_marked a.results.items d t) (any_result d t (inside_of v (label s given) v.own) body)
            (any_result d t w rest)
            ∙ ap (λ z. is_marked a.results.items d t || z) (sym (nest_results rest d t ew));
        few = let f = g.few in omega (arith, f, fa, fb, nest_items, ap (λ z. length (pairs_in 0 z)) er, ap (λ z. length (pairs_in 0 z)) ea);
      }

module _ (v w u u2 : Walk) (i : Instr) (given : Option ValType) (one two : Code) (is : (rest : Code) → in_front i rest ≡ branch given one two rest) (typed : TypedAt v (in_front i done)) where
  pub branch_in : (e : Walk) → Inside v (in_front i done) e → e ≡ inside_of v given (drop 1 v.own)
  branch_in e h = subst (λ (k : Code). Inside v k e) (is done) h

  branch_types : Types v.around v.labels (branch given one two done) typed.0 v.own
  branch_types = subst (λ (k : Code). Types v.around v.labels k typed.0 v.own) (is done) typed.1

  pub branch_first : (e : Walk) → e ≡ inside_of v given (drop 1 v.own) → TypedAt e one
  unfolding Types
  branch_first e q = subst (λ (z : Walk). TypedAt z one) (sym q) (listed given, branch_types.2)

  pub branch_second : (e : Walk) → e ≡ inside_of v given (drop 1 v.own) → TypedAt e two
  unfolding Types
  branch_second e q = subst (λ (z : Walk). TypedAt z two) (sym q) (listed given, branch_types.3)

  branch_typed : w ≡ behind_of v given (drop 1 v.own) → Types v.around v.labels (in_front i done) w.own v.own
  unfolding Types
  branch_typed e =
      let own : w.own ≡ listed given ++ branch_types.0 = ap (λ (z : Walk). z.own) e ∙ ap (λ z. listed given ++ drop 1 z) branch_types.1 in
      subst (λ (k : Code). Types v.around v.labels k w.own v.own) (sym (is done)) (branch_types.0, branch_types.1, branch_types.2, branch_types.3, sym own)

  below_is : drop 1 v.own ++ v.under ≡ drop 1 (all_of v)
  unfolding Types
  below_is = ap (λ z. drop 1 z ++ v.under) branch_types.1 ∙ sym (ap (λ z. drop 1 (z ++ v.under)) branch_types.1)

  pub branch_items : 2 + code_items one + code_items two ≤ code_items (in_front i done)
  unfolding code_items
  branch_items = omega (arith, ap code_items (is done))

  branch_points : (rest : Code) (h : ℕ) (t : ValType) → w ≡ behind_of v given (drop 1 v.own)
      → any_point h t v (in_front i rest) ≡ (stands_at h t (all_of v) || (any_point h t (inside_of v given (drop 1 v.own)) one
      || (any_point h t (inside_of v given (drop 1 v.own)) two || any_point h t w rest)))
  unfolding points
  branch_points rest h t e =
      let p : List (List ValType) = points v.around (given ∷ v.labels) one (drop 1 v.own ++ v.under) [] in
      let q : List (List ValType) = points v.around (given ∷ v.labels) two (drop 1 v.own ++ v.under) [] in
      let r : List (List ValType) = points v.around v.labels rest v.under (listed given ++ drop 1 v.own) in
      ap (any_point h t v) (is rest) ∙ ap (λ z. stands_at h t (all_of v) || z) (list_any-append (stands_at h t) p (q ++ r)
      ∙ ap (λ z. list_any (stands_at h t) p || z) (list_any-append (stands_at h t) q r))
      ∙ ap (λ (z : Walk). stands_at h t (all_of v) || (list_any (stands_at h t) p || (list_any (stands_at h t) q || any_point h t z rest))) (sym e)

  branch_results : (rest : Code) (d : ℕ) (t : ValType) → w ≡ behind_of v given (drop 1 v.own)
      → any_result d t v (in_front i rest) ≡ (((list_any (same_pair d t) (pair_of (length v.labels) given) || any_result d t (inside_of v given (drop 1 v.own)) one)
      || any_result d t (inside_of v given (drop 1 v.own)) two) || any_result d t w rest)
  unfolding results_in pruned
  branch_results rest d t e =
      let here : List Pair = pair_of (length v.labels) given in
      let p : List Pair = results_in (suc (length v.labels)) (pruned one) in
      let q : List Pair = results_in (suc (length v.labels)) (pruned two) in
      let r : List Pair = results_in (length v.labels) (pruned rest) in
      ap (any_result d t v) (is rest) ∙ list_any-append (same_pair d t) (here ++ p ++ q) r
      ∙ ap (λ z. z || list_any (same_pair d t) r) (list_any-append (same_pair d t) (here ++ p) q ∙ ap (λ z. z || list_any (same_pair d t) q) (list_any-append (same_pair d t) here p))
      ∙ ap (λ (z : Walk). ((list_any (same_pair d t) here || list_any (same_pair d t) p) || list_any (same_pair d t) q) || any_result d t z rest) (sym e)

  pub branch_one : (e e2 : Walk) (a a1 m1 m b : Found) → e ≡ inside_of v given (drop 1 v.own) → e2 ≡ inside_of v given (drop 1 v.own) → w ≡ behind_of v given (drop 1 v.own)
      → a1.slots.items ≡ a.slots.items
      → ((d : ℕ) (t : ValType) → is_marked a1.results.items d t ≡ (list_any (same_pair d t) (pair_of (length v.labels) given) || is_marked a.results.items d t))
      → length (pairs_in 0 a1.results.items) ≤ length (pairs_in 0 a.results.items) + 1
      → Surveyed e u one a1 m1 → Surveyed e2 u2 two m1 m → ((h : ℕ) (t : ValType) → is_marked b.slots.items h t ≡ (is_top h t (all_of w) || is_marked m.slots.items h t))
      → length (pairs_in 0 b.slots.items) ≤ length (pairs_in 0 m.slots.items) + 1 → b.results.items ≡ m.results.items → SurveyedOne v w i a b
  branch_one e e2 a a1 m1 m b ee ee2 ew ea ra fa g1 g2 mb fb er =
      let low : List ValType = drop 1 v.own ++ v.under in
      let x : ℕ → ValType → Bool = (λ h t. any_point h t (inside_of v given (drop 1 v.own)) one) in
      let y : ℕ → ValType → Bool = (λ h t. any_point h t (inside_of v given (drop 1 v.own)) two) in
      let more : OneMore (all_of v) (all_of w) = subst (OneMore (all_of v)) (sym (behind_all v w given (drop 1 v.own) ew)) (more_below given (all_of v) low 1 below_is) in
      let lower : Covers a.slots.items (all_of v) → Covers a.slots.items low = (λ c h t z. c h t (stands_drop 1 h t (all_of v) (ap (stands_at h t) (sym below_is) ∙ z))) in
      let grew1 : (c : Covers a.slots.items (all_of v)) (h : ℕ) (t : ValType) → is_marked m1.slots.items h t ≡ (is_marked a.slots.items h t || x h t) =
      (λ c h t. g1.slots (subst (λ (z : Walk). Covers a1.slots.items (all_of z)) (sym ee) (subst (λ z. Covers z low) (sym ea) (lower c))) h t
      ∙ ap (λ z. is_marked z h t || any_point h t e one) ea ∙ ap (λ (z : Walk). is_marked a.slots.items h t || any_point h t z one) ee) in
      let grew2 : (c : Covers a.slots.items (all_of v)) (h : ℕ) (t : ValType) → is_marked m.slots.items h t ≡ ((is_marked a.slots.items h t || x h t) || y h t) =
      (λ c h t. g2.slots (subst (λ (z : Walk). Covers m1.slots.items (all_of z)) (sym ee2) (covers_on a.slots.items m1.slots.items low x (lower c) (grew1 c))) h t
      ∙ ap (λ z. z || any_point h t e2 two) (grew1 c h t) ∙ ap (λ (z : Walk). (is_marked a.slots.items h t || x h t) || any_point h t z two) ee2) in
      let covered : Covers a.slots.items (all_of v) → Covers m.slots.items (all_of v) =
      (λ c. covers_on a.slots.items m.slots.items (all_of v) (λ h t. x h t || y h t) c (λ h t. grew2 c h t ∙ or_same (is_marked a.slots.items h t) (x h t) (y h t))) in
      record {
        stays = behind_stays v w given (drop 1 v.own) ew;
        typed = branch_typed ew;
        covers = λ c. visited_covers m.slots.items b.slots.items v w more (covered c) mb;
        slots = λ c rest h t.
            visited_slots m.slots.items b.slots.items v w more (covered c) mb rest h t ∙ ap (λ z. z || any_point h t w rest) (grew2 c h t ∙ or_same (is_marked a.slots.items h t) (x h t) (y h t))
            ∙ or_same (is_marked a.slots.items h t) (x h t || y h t) (any_point h t w rest) ∙ ap (λ z. is_marked a.slots.items h t || z) (or_same (x h t) (y h t) (any_point h t w rest))
            ∙ absorbed (is_marked a.slots.items h t) (stands_at h t (all_of v)) (x h t || (y h t || any_point h t w rest)) (c h t)
            ∙ ap (λ z. is_marked a.slots.items h t || z) (sym (branch_points rest h t ew));
        results = λ rest d t.
            ap (λ z. is_marked z d t || any_result d t w rest) er
            ∙ ap (λ z. z || any_result d t w rest) (g2.results d t ∙ ap (λ (z : Walk). is_marked m1.results.items d t || any_result d t z two) ee2
            ∙ ap (λ z. z || any_result d t (inside_of v given (drop 1 v.own)) two) (g1.results d t ∙ ap (λ (z : Walk). is_marked a1.results.items d t || any_result d t z one) ee
            ∙ ap (λ z. z || any_result d t (inside_of v given (drop 1 v.own)) one) (ra d t)))
            ∙ or_turned_twice (list_any (same_pair d t) (pair_of (length v.labels) given)) (is_marked a.results.items d t) (any_result d t (inside_of v given (drop 1 v.own)) one)
            (any_result d t (inside_of v given (drop 1 v.own)) two) (any_result d t w rest)
            ∙ ap (λ z. is_marked a.results.items d t || z) (sym (branch_results rest d t ew));
        few = let f1 = g1.few in let f2 = g2.few in omega (arith, f1, f2, fa, fb, branch_items, ap (λ z. length (pairs_in 0 z)) er, ap (λ z. length (pairs_in 0 z)) ea);
      }

pub base_within : (v : Walk) (lab given : Option ValType) (own0 : List ValType) (u : Walk) (base : ℕ) → Stays (inside_of v lab own0) u → base ≡ length v.under → base ≤ length u.under
base_within v lab given own0 u base st e = omega (arith, e, ap length st.under, length-append own0 v.under)

pub on_both : {A E : Type 0} (res : Result A E) (P Q R : Type 0) → (P → Q → R) → OnOk res P → OnOk res Q → OnOk res R
on_both (Ok u) P Q R f h k = f h k
on_both (Err e) P Q R f h k = tt

-- what is left of a body is no more than all of it
pub went_fewer : (body : List Instr) (j : ℕ) → code_items (code (drop j body)) ≤ code_items (code body)
unfolding code onto
went_fewer body zero = omega arith
went_fewer [] (suc j) = omega arith
went_fewer (x ∷ body) (suc j) = omega (arith, went_fewer body j, items_front x (code body))
