-- Frames and places, as lists that are given as slices.
use Rattle.std.proofs.Common.{arith, ◌≡◌, ℕ, zero, suc, ◌+◌, ◌-◌, ◌*◌, ◌^◌, ◌<◌, ◌≤◌, List, [], ◌∷◌, ◌++◌, map, Option, Some, None, Bool, true, false, refl, ap, sym, ◌∙◌, length, take, drop, get_or, slice_get, append_assoc, nat_lt, reverse, drop-cons}
use Rattle.std.specs.Prelude.{Vec}
use Rattle.std.specs.declared.alloc.Global.{Global}
use Rattle.std.proofs.lemmas.Bool.{lt-ltb, le-ltb}
use Rattle.std.proofs.lemmas.List.{append-nil, map-append, drop_all, length-map}
use Rattle.std.proofs.lemmas.List.Sums.{sum_by-cons, sum_by_more, sum_by_more_le}
use Rattle.std.proofs.lemmas.Option.{slice_get-map, slice_get_past, slice_get-get_or}
use Rattle.std.specs.Option.{option_map}
use Rattle.std.specs.List.{sum_by}
use Rattle.wa_types.specs.declared.values.ValType.{ValType}
use Rattle.wa_types.specs.Syntax.{Code, Func, Module}
use Rattle.wa_types.specs.Pruned.{pruned}
use Rattle.wa_types.specs.Pausing.{Policy, save_all, save_live, is_told}
use Rattle.wa_types.specs.Modules.{locals_of, func_imports, defined_at}
use Rattle.wa_types.specs.Points.{func_call_points}
use Rattle.wa_types.specs.Liveness.{live_at, live_from, behind_calls, is_live_after, Position}
use Rattle.wa_types.specs.Frames.{Pair, Place, SlotPairs, is_on_stack, place_onto, named_places, slot_places, width, Saved, Room, frame_of, size_of_found}
use Rattle.frame_sizes.specs.declared.slot_pairs.Pair.{Pair as PairValue}
use Rattle.frame_sizes.specs.declared.frames.Place.{Place as PlaceValue}
use Rattle.frame_sizes.specs.declared.frames.Suspended.{Suspended as SuspendedValue}
use Rattle.frame_sizes.specs.Lives.{lives}
use Rattle.frame_sizes.specs.Points.{lists_of}
use Rattle.frame_sizes.specs.Slots.{pair_of, pairs_of}
use Rattle.frame_sizes.specs.Frames.{place_of, places_of, suspended_of, keep_local, keep_slot}
use Rattle.frame_sizes.proofs.LiveLemmas.{told_calls}

-- ---- places

pub places_more : (ps : List PlaceValue) (p : PlaceValue) → places_of (ps ++ p ∷ []) ≡ places_of ps ++ place_of p ∷ []
places_more ps p = map-append place_of ps (p ∷ [])

pub ruleset pushing = (places_more, append-nil)

onto_is : (b : Bool) (n : ℕ) (t : ValType) (rest : List Place) → place_onto b n t rest ≡ place_onto b n t [] ++ rest
onto_is true n t rest = refl
onto_is false n t rest = refl

-- one more is put
pub named_put : (keep : ℕ → Bool) (x : ℕ) (ts : List ValType) (t : ValType) (kept : Bool) (old new all : List Place) → x < length ts → t ≡ get_or ts x t → kept ≡ keep x
    → old ++ named_places keep x (drop x ts) ≡ all → new ≡ old ++ place_onto kept x t [] → new ++ named_places keep (x + 1) (drop (x + 1) ts) ≡ all
named_put keep x ts t kept old new all lt at k before e =
    let m : x + 1 ≡ suc x = omega arith in
    let rest : List Place = named_places keep (suc x) (drop (suc x) ts) in
    ap (λ n. new ++ named_places keep n (drop n ts)) m ∙ ap (λ z. z ++ rest) e ∙ append_assoc old (place_onto kept x t []) rest
    ∙ ap (λ b. old ++ (place_onto b x t [] ++ rest)) k ∙ ap (λ u. old ++ (place_onto (keep x) x u [] ++ rest)) at
    ∙ ap (λ z. old ++ z) (sym (onto_is (keep x) x (get_or ts x t) rest)) ∙ ap (λ us. old ++ named_places keep x us) (sym (drop-cons ts x t lt)) ∙ before

pub named_end : (keep : ℕ → Bool) (x : ℕ) (ts : List ValType) (old all : List Place) → length ts ≤ x → old ++ named_places keep x (drop x ts) ≡ all → old ≡ all
named_end keep x ts old all le e = sym (append-nil old) ∙ ap (λ us. old ++ named_places keep x us) (sym (drop_all x ts le)) ∙ e

pub slot_put : (keep : Pair → Bool) (first i : ℕ) (ps : List PairValue) (p : PairValue) (kept : Bool) (old new all : List Place) → i < length ps → p ≡ get_or ps i p → kept ≡ keep (pair_of p)
    → old ++ slot_places keep (first + i) (pairs_of (drop i ps)) ≡ all → new ≡ old ++ place_onto kept (first + i) p.ty []
    → new ++ slot_places keep (first + (i + 1)) (pairs_of (drop (i + 1) ps)) ≡ all
slot_put keep first i ps p kept old new all lt at k before e =
    let m : i + 1 ≡ suc i = omega arith in
    let n : first + (i + 1) ≡ suc (first + i) = omega arith in
    let x : ℕ = first + i in
    let rest : List Place = slot_places keep (suc x) (pairs_of (drop (suc i) ps)) in
    ap (λ j. new ++ slot_places keep j (pairs_of (drop (i + 1) ps))) n ∙ ap (λ j. new ++ slot_places keep (suc x) (pairs_of (drop j ps))) m
    ∙ ap (λ z. z ++ rest) e ∙ append_assoc old (place_onto kept x p.ty []) rest
    ∙ ap (λ b. old ++ (place_onto b x p.ty [] ++ rest)) k ∙ ap (λ z. old ++ z) (sym (onto_is (keep (pair_of p)) x p.ty rest))
    ∙ ap (λ (q : PairValue). old ++ slot_places keep x (pair_of q ∷ pairs_of (drop (suc i) ps))) at ∙ ap (λ qs. old ++ slot_places keep x (pairs_of qs)) (sym (drop-cons ps i p lt)) ∙ before

pub slot_end : (keep : Pair → Bool) (first i : ℕ) (ps : List PairValue) (old all : List Place) → length ps ≤ i → old ++ slot_places keep (first + i) (pairs_of (drop i ps)) ≡ all → old ≡ all
slot_end keep first i ps old all le e = sym (append-nil old) ∙ ap (λ qs. old ++ slot_places keep (first + i) (pairs_of qs)) (sym (drop_all i ps le)) ∙ e

-- ---- sums

sum_map : {X Y : Type 0} (f : Y → ℕ) (g : X → Y) (xs : List X) → sum_by f (map g xs) ≡ sum_by (λ x. f (g x)) xs
sum_map f g [] = refl
sum_map f g (x ∷ xs) = sum_by-cons f (g x) (map g xs) ∙ ap (λ n. f (g x) + n) (sum_map f g xs) ∙ sym (sum_by-cons (λ y. f (g y)) x xs)

pub widths_more : (ps : List PlaceValue) (i : ℕ) (p : PlaceValue) → i < length ps → p ≡ get_or ps i p
    → sum_by (λ (q : Place). width q.ty) (places_of (take (i + 1) ps)) ≡ sum_by (λ (q : Place). width q.ty) (places_of (take i ps)) + width p.ty
widths_more ps i p lt at =
    let f : Place → ℕ = λ (q : Place). width q.ty in
    sum_map f place_of (take (i + 1) ps) ∙ sum_by_more (λ (q : PlaceValue). width q.ty) ps i p lt ∙ ap (λ n. n + width (get_or ps i p).ty) (sym (sum_map f place_of (take i ps)))
    ∙ ap (λ (q : PlaceValue). sum_by f (places_of (take i ps)) + width q.ty) (sym at)

module _ (m : Module) (policy : Policy) where
  abbrev size_at : SuspendedValue → ℕ
  size_at a = frame_of m policy (suspended_of a)

  -- what the frames so far and the next one take is no more than all take
  pub room_over : (stack : List SuspendedValue) (i size frame : ℕ) (a : SuspendedValue) → i < length stack → size ≡ 8 + sum_by (frame_of m policy) (map suspended_of (take i stack))
      → frame ≡ size_at (get_or stack i a) → 2 ^ 64 ≤ size + frame → 2 ^ 64 ≤ Room m policy (map suspended_of stack)
  room_over stack i size frame a lt so one over =
      let first = sum_map (frame_of m policy) suspended_of (take i stack) in
      let all = sum_map (frame_of m policy) suspended_of stack in
      let le = sum_by_more_le size_at stack i a lt in omega (arith, first, all, so, one, le, over)

-- ---- what is kept

live_map : (x : ℕ) (places : List Position) (place : ℕ) → is_told (slice_get (map (live_at x) places) place) ≡ live_from x (slice_get places place)
live_map x [] place = refl
live_map x (p ∷ ps) zero = refl
live_map x (p ∷ ps) (suc n) = live_map x ps n

kept_is : (f : Func) (place x : ℕ) (code : Code) → code ≡ pruned f.body → is_told (slice_get (lives x [] false code) place) ≡ is_live_after f place x
kept_is f place x code e =
    ap (λ k. is_told (slice_get (lives x [] false k) place)) e ∙ ap (λ bs. is_told (slice_get bs place)) (told_calls x [] (pruned f.body)) ∙ live_map x (behind_calls [] (pruned f.body)) place

named_same : (k l : ℕ → Bool) → ((x : ℕ) → k x ≡ l x) → (x : ℕ) (ts : List ValType) → named_places k x ts ≡ named_places l x ts
named_same k l e x [] = refl
named_same k l e x (t ∷ ts) = ap (λ b. place_onto b x t (named_places k (suc x) ts)) (e x) ∙ ap (place_onto (l x) x t) (named_same k l e (suc x) ts)

pub saved_is : (m : Module) (p : Policy) (f : Func) (place : ℕ) (code : Code) (locals : List ValType) (slots : List Pair) (calls : List (List ValType)) → code ≡ pruned f.body
    → locals ≡ locals_of m f → slots ≡ SlotPairs m f → calls ≡ func_call_points m f
    → named_places (keep_local p code place) 0 locals ++ slot_places (keep_slot p (slice_get calls place)) (length locals) slots ≡ Saved m p f place
saved_is m save_all f place code locals slots calls b l s c =
    ap (λ ts. named_places (λ x. true) 0 ts ++ slot_places (λ p. true) (length ts) slots) l
    ∙ ap (λ ps. named_places (λ x. true) 0 (locals_of m f) ++ slot_places (λ p. true) (length (locals_of m f)) ps) s
saved_is m save_live f place code locals slots calls b l s c =
    ap (λ z. z ++ slot_places (is_on_stack (slice_get calls place)) (length locals) slots) (named_same _ (is_live_after f place) (λ x. kept_is f place x code b) 0 locals)
    ∙ ap (λ ts. named_places (is_live_after f place) 0 ts ++ slot_places (is_on_stack (slice_get calls place)) (length ts) slots) l
    ∙ ap (λ ps. named_places (is_live_after f place) 0 (locals_of m f) ++ slot_places (is_on_stack (slice_get calls place)) (length (locals_of m f)) ps) s
    ∙ ap (λ cs. named_places (is_live_after f place) 0 (locals_of m f) ++ slot_places (is_on_stack (slice_get cs place)) (length (locals_of m f)) (SlotPairs m f)) c

-- no list, and some list, of operands
pub calls_none : (vs : List (Vec ValType Global)) (i : ℕ) → slice_get vs i ≡ None → slice_get (lists_of vs) i ≡ None
calls_none vs i e = slice_get-map _ vs i ∙ ap (option_map _) e

pub calls_some : (vs : List (Vec ValType Global)) (i : ℕ) (v : Vec ValType Global) → slice_get vs i ≡ Some v → slice_get (lists_of vs) i ≡ Some (reverse v.items)
calls_some vs i v e = slice_get-map _ vs i ∙ ap (option_map _) e

pub ruleset keeping = (calls_none, calls_some)

-- ---- functions by their index

module _ (m : Module) (x : ℕ) where
  pub defined_import : x < func_imports m → defined_at m x ≡ None
  defined_import h = rw (lt-ltb _ _ h) refl

  pub defined_here : func_imports m ≤ x → defined_at m x ≡ slice_get m.funcs (x - func_imports m)
  defined_here h = rw (le-ltb _ _ h) refl

pub ruleset defining = (defined_import, defined_here, slice_get_past, length-map)

pub ruleset summing = (widths_more)

pub frame_none : (m : Module) (policy : Policy) (a : SuspendedValue) → defined_at m a.func ≡ None → 0 ≡ frame_of m policy (suspended_of a)
frame_none m policy a e = sym (ap (λ o. size_of_found m policy o a.place) e)

pub frame_some : (m : Module) (policy : Policy) (a : SuspendedValue) (f : Func) (places : List Place) → defined_at m a.func ≡ Some f → places ≡ Saved m policy f a.place
    → 4 + sum_by (λ (p : Place). width p.ty) places ≡ frame_of m policy (suspended_of a)
frame_some m policy a f places e s = ap (λ (ps : List Place). 4 + sum_by (λ (p : Place). width p.ty) ps) s ∙ sym (ap (λ o. size_of_found m policy o a.place) e)
