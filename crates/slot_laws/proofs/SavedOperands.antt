-- Each operand that stands at a call has one place among the saved locals.
use Rattle.std.proofs.Common.{arith, ◌≡◌, ℕ, zero, suc, ◌+◌, ◌⊎◌, inl, inr, ◌++◌, length, drop, List, [], ◌∷◌, Some, None, Option, Bool, true, false, refl, ap, sym, ◌∙◌, subst}
use Rattle.std.specs.Prelude.{slice_get}
use Rattle.std.specs.List.{list_any}
use Rattle.wa_types.specs.declared.values.ValType.{ValType}
use Rattle.wa_types.specs.Syntax.{Code, done, plain, nest, branch, Func, Module}
use Rattle.wa_types.specs.Pruned.{is_last, pruned}
use Rattle.wa_types.specs.Typing.{Around, sig, listed, label}
use Rattle.wa_types.specs.Modules.{around, locals_of}
use Rattle.wa_types.specs.Pausing.{Callee, callee, Policy, save_all, save_live}
use Rattle.wa_types.specs.Points.{after, unless_last, points, if_call, call_points, func_points, func_call_points}
use Rattle.wa_types.specs.Liveness.{is_live_after}
use Rattle.wa_types.specs.Frames.{Pair, stands_at, is_type, greatest, same_pair, SlotPairs, Place, place_onto, named_places, slot_places, places, is_on_stack, Saved}
use Rattle.wa_types.proofs.PointLemmas.{In, in_left, in_right, is_visited}
use Rattle.wa_types.proofs.TypingLemmas.{pruned_types}
use Rattle.wa_types.proofs.SlotLemmas.{same_self, either_true, own_pair, stands_below, in_any, in_greatest, pass_pairs}
use Rattle.slot_laws.specs.SlotBounds.{CallsAreAtPoints, RiseFrom, OperandsAreSaved, SlotsStandOnce}
use Rattle.slot_laws.proofs.Order.{pairs_ascend, stand_once, slots_rise, named_rise, rise_once}

-- ---- what stands at a call stands at a point

get_append : {X : Type 0} (xs ys : List X) (i : ℕ) (x : X) → slice_get (xs ++ ys) i ≡ Some x → ((j : ℕ) × (slice_get xs j ≡ Some x)) ⊎ ((j : ℕ) × (slice_get ys j ≡ Some x))
get_append [] ys i x e = inr (i, e)
get_append (z ∷ xs) ys zero x e = inl (0, e)
get_append (z ∷ xs) ys (suc i) x e = elim (get_append xs ys i x e) [ inl (j, f) ↦ inl (suc j, f) | inr h ↦ inr h ]

unless_in : (b : Bool) (i : ℕ) (ops : List ValType) (cs ps : List (List ValType)) → ((j : ℕ) → slice_get cs j ≡ Some ops → In ops ps)
    → slice_get (unless_last b cs) i ≡ Some ops → In ops (unless_last b ps)
unless_in true i ops cs ps go e = cc
unless_in false i ops cs ps go e = go i e

-- the operands of a call are those of the point before it
call_in : (o : Option Callee) (here ops : List ValType) (i : ℕ) (cs ps : List (List ValType)) → ((j : ℕ) → slice_get cs j ≡ Some ops → In ops ps)
    → slice_get (if_call o here ++ cs) i ≡ Some ops → In ops (here ∷ ps)
call_in None here ops i cs ps go e = inr (go i e)
call_in (Some x) here ops zero cs ps go e = let z : here ≡ ops = cc in inl (sym z)
call_in (Some x) here ops (suc i) cs ps go e = inr (go i e)

pub call_is_point : (c : Around) (ls : List (Option ValType)) (k : Code) (under ops all : List ValType) (i : ℕ)
    → slice_get (call_points c ls k under ops) i ≡ Some all → In all (points c ls k under ops)
unfolding call_points points
call_is_point c ls done under ops all i e = cc
call_is_point c ls (plain p rest) under ops all i e =
    let next : List ValType = after (sig c ls p) ops in
    call_in (callee p) (ops ++ under) all i (unless_last (is_last p) (call_points c ls rest under next)) (unless_last (is_last p) (points c ls rest under next))
    (λ j f. unless_in (is_last p) j all (call_points c ls rest under next) (points c ls rest under next) (λ k g. call_is_point c ls rest under next all k g) f) e
call_is_point c ls (nest s r body rest) under ops all i e =
    let first : List (List ValType) = points c (label s r ∷ ls) body (ops ++ under) [] in
    let second : List (List ValType) = points c ls rest under (listed r ++ ops) in
    elim (get_append (call_points c (label s r ∷ ls) body (ops ++ under) []) (call_points c ls rest under (listed r ++ ops)) i all e) [
      | inl (j, f) ↦ inr (in_left all first second (call_is_point c (label s r ∷ ls) body (ops ++ under) [] all j f))
      | inr (j, f) ↦ inr (in_right all first second (call_is_point c ls rest under (listed r ++ ops) all j f))
    ]
call_is_point c ls (branch r a b rest) under ops all i e =
    let below : List ValType = drop 1 ops in
    let first : List (List ValType) = points c (r ∷ ls) a (below ++ under) [] in
    let second : List (List ValType) = points c (r ∷ ls) b (below ++ under) [] in
    let third : List (List ValType) = points c ls rest under (listed r ++ below) in
    elim (get_append (call_points c (r ∷ ls) a (below ++ under) []) (call_points c (r ∷ ls) b (below ++ under) [] ++ call_points c ls rest under (listed r ++ below)) i all e) [
      | inl (j, f) ↦ inr (in_left all first (second ++ third) (call_is_point c (r ∷ ls) a (below ++ under) [] all j f))
      | inr (j, f) ↦ elim (get_append (call_points c (r ∷ ls) b (below ++ under) []) (call_points c ls rest under (listed r ++ below)) j all f) [
        | inl (k, g) ↦ inr (in_right all first (second ++ third) (in_left all second third (call_is_point c (r ∷ ls) b (below ++ under) [] all k g)))
        | inr (k, g) ↦ inr (in_right all first (second ++ third) (in_right all second third (call_is_point c ls rest under (listed r ++ below) all k g)))
      ]
    ]

-- ---- the slot of an operand, and its place

pub pair_found : (h : ℕ) (t : ValType) (ps : List Pair) → list_any (same_pair h t) ps ≡ true → (k : ℕ) × (slice_get ps k ≡ Some (record { number = h; ty = t }))
pair_found h t [] e = cc
pair_found h t (p ∷ ps) e = elim (either_true (same_pair h t p) (list_any (same_pair h t) ps) e) [
  | inl f ↦ let w = own_pair h p.number t p.ty f in (0, ap Some (made p h t (sym w.0) (sym w.1)))
  | inr f ↦ let w = pair_found h t ps f in (suc w.0, w.1)
]
  where
    made : (p : Pair) (n : ℕ) (u : ValType) → p.number ≡ n → p.ty ≡ u → p ≡ record { number = n; ty = u }
    made p n u e f = ap (λ k. record { number = k; ty = p.ty }) e ∙ ap (λ v. record { number = n; ty = v }) f

onto_place : (b : Bool) (x : ℕ) (t : ValType) (ps : List Place) (i : ℕ) (p : Place) → slice_get ps i ≡ Some p → (j : ℕ) × (slice_get (place_onto b x t ps) j ≡ Some p)
onto_place true x t ps i p e = (suc i, e)
onto_place false x t ps i p e = (i, e)

-- a slot that is kept has a place
slot_placed : (keep : Pair → Bool) (x : ℕ) (ps : List Pair) (k : ℕ) (p : Pair) → slice_get ps k ≡ Some p → keep p ≡ true
    → (i : ℕ) × (slice_get (slot_places keep x ps) i ≡ Some (record { local = x + k; ty = p.ty }))
slot_placed keep x [] k p e h = cc
slot_placed keep x (q ∷ ps) zero p e h = by_first (keep q) (let z : q ≡ p = cc in ap keep z ∙ h)
  where
    by_first : (b : Bool) → b ≡ true → (i : ℕ) × (slice_get (place_onto b x q.ty (slot_places keep (suc x) ps)) i ≡ Some (record { local = x + 0; ty = p.ty }))
    by_first true g =
        let z : q ≡ p = cc in
        let n : x ≡ x + 0 = omega arith in
        (0, ap (λ (r : Pair). Some (record { local = x; ty = r.ty })) z ∙ ap (λ (y : ℕ). Some (record { local = y; ty = p.ty })) n)
    by_first false g = cc
slot_placed keep x (q ∷ ps) (suc k) p e h =
    let w = slot_placed keep (suc x) ps k p e h in
    let n : suc x + k ≡ x + suc k = omega arith in
    onto_place (keep q) x q.ty (slot_places keep (suc x) ps) w.0 (record { local = x + suc k; ty = p.ty }) (w.1 ∙ ap (λ (y : ℕ). Some (record { local = y; ty = p.ty })) n)

behind_named : (xs ys : List Place) (i : ℕ) (p : Place) → slice_get ys i ≡ Some p → (j : ℕ) × (slice_get (xs ++ ys) j ≡ Some p)
behind_named [] ys i p e = (i, e)
behind_named (x ∷ xs) ys i p e = let w = behind_named xs ys i p e in (suc w.0, w.1)

module _ (m : Module) (f : Func) where
  abbrev count : ℕ
  count = length (locals_of m f)

  places_rise : (keep : ℕ → Bool) (keep_slot : Pair → Bool) → RiseFrom 0 (places m f keep keep_slot)
  places_rise keep keep_slot = named_rise keep 0 (locals_of m f) (slot_places keep_slot count (SlotPairs m f)) (from_zero (slots_rise keep_slot count (SlotPairs m f)))
    where
      from_zero : RiseFrom count (slot_places keep_slot count (SlotPairs m f)) → RiseFrom (0 + count) (slot_places keep_slot count (SlotPairs m f))
      from_zero h = let z : count ≡ 0 + count = omega arith in subst (λ n. RiseFrom n (slot_places keep_slot count (SlotPairs m f))) z h

  pub saved_rise : (policy : Policy) (place : ℕ) → RiseFrom 0 (Saved m policy f place)
  saved_rise save_all place = places_rise (λ x. true) (λ p. true)
  saved_rise save_live place = places_rise (is_live_after f place) (is_on_stack (slice_get (func_call_points m f) place))

  -- an operand at a call has a slot
  slot_of : (place h : ℕ) (t : ValType) (ops : List ValType) → slice_get (func_call_points m f) place ≡ Some ops → stands_at h t ops ≡ true
      → (k : ℕ) × (slice_get (SlotPairs m f) k ≡ Some (record { number = h; ty = t }))
  slot_of place h t ops e stands =
      let seen = call_is_point (around m f) ((around m f).result ∷ []) (pruned f.body) [] [] ops place e in
      let few = in_greatest (func_points m f) ops seen in
      let low = stands_below h t ops stands in
      let passes = in_any (stands_at h t) (func_points m f) ops seen stands in
      pair_found h t (SlotPairs m f) (pass_pairs (λ k u. list_any (stands_at k u) (func_points m f)) 0 (greatest (func_points m f)) h t (omega arith) (omega (arith, few, low)) passes)

  placed : (keep : ℕ → Bool) (keep_slot : Pair → Bool) (k : ℕ) (p : Pair) → slice_get (SlotPairs m f) k ≡ Some p → keep_slot p ≡ true
      → (i : ℕ) × (slice_get (places m f keep keep_slot) i ≡ Some (record { local = count + k; ty = p.ty }))
  placed keep keep_slot k p e h =
      let w = slot_placed keep_slot count (SlotPairs m f) k p e h in
      behind_named (named_places keep 0 (locals_of m f)) (slot_places keep_slot count (SlotPairs m f)) w.0 (record { local = count + k; ty = p.ty }) w.1

  saved_place : (policy : Policy) (place h k : ℕ) (t : ValType) (ops : List ValType) → slice_get (func_call_points m f) place ≡ Some ops
      → stands_at h t ops ≡ true → slice_get (SlotPairs m f) k ≡ Some (record { number = h; ty = t })
      → (i : ℕ) × (slice_get (Saved m policy f place) i ≡ Some (record { local = count + k; ty = t }))
  saved_place save_all place h k t ops e stands s = placed (λ x. true) (λ p. true) k (record { number = h; ty = t }) s refl
  saved_place save_live place h k t ops e stands s =
      placed (is_live_after f place) (is_on_stack (slice_get (func_call_points m f) place)) k (record { number = h; ty = t }) s (ap (λ o. is_on_stack o (record { number = h; ty = t })) e ∙ stands)

-- The slots of a function stand once.
pub slots_once : SlotsStandOnce
slots_once m f = stand_once (SlotPairs m f) (pairs_ascend (λ h t. list_any (stands_at h t) (func_points m f)) 0 (greatest (func_points m f)))

pub operands_saved : OperandsAreSaved
operands_saved m policy f place h t (ops, e, top) =
    let stands : stands_at h t ops ≡ true = ap (is_type t) top ∙ same_self t in
    let k = slot_of m f place h t ops e stands in
    let i = saved_place m f policy place h k.0 t ops e stands k.1 in
    let here : Place = record { local = length (locals_of m f) + k.0; ty = t } in (
      i.0,
      (here, i.1, (k.0, k.1, refl)),
      λ j q there slot.
          let same : slot.0 ≡ k.0 = slots_once m f slot.0 k.0 (record { number = h; ty = t }) slot.1 k.1 in
          let is : q ≡ here = slot.2 ∙ ap (λ (n : ℕ). record { local = length (locals_of m f) + n; ty = t }) same in
          rise_once 0 (Saved m policy f place) j i.0 here (saved_rise m f policy place) (there ∙ ap Some is) i.1,
    )

pub calls_at_points : CallsAreAtPoints
calls_at_points m i f place ops v is e =
    let c : Around = around m f in
    let seen = call_is_point c (c.result ∷ []) (pruned f.body) [] [] ops place e in
    is_visited c (c.result ∷ []) (pruned f.body) (listed c.result) [] [] ops (pruned_types c (c.result ∷ []) f.body (listed c.result) [] (v.bodies i f is)) seen
