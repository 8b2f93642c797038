-- What comes back stands beside the same operands, and beside own locals that differ only where no path reads first.
use Rattle.std.proofs.Common.{◌≡◌, ℕ, zero, suc, ◌+◌, ◌<◌, ◌≤◌, ◌⊎◌, inl, inr, List, [], ◌∷◌, ◌++◌, length, map, take, drop, reverse, Option, Some, Bool, true, false, refl, sym, ap, ◌∙◌, subst, arith, length-append}
use Rattle.std.specs.Prelude.{slice_get}
use Rattle.std.proofs.lemmas.Bool.{cases_lt}
use Rattle.std.proofs.lemmas.List.{get_or-take, get_or_append_left, get_or_past, length-drop, length-map, length-take-le, take-append-drop}
use Rattle.wa_types.specs.Frames.{Pair, Place, SlotPairs, is_on_stack, is_type, named_places, place_onto, same_pair, slot_places}
use Rattle.wa_types.specs.Liveness.{Position, ReadsFirst, behind_calls, is_live_after, live_from}
use Rattle.wa_types.specs.Modules.{defined_at, locals_of}
use Rattle.wa_types.specs.Points.{func_call_points}
use Rattle.wa_types.specs.Pruned.{pruned}
use Rattle.wa_types.specs.Syntax.{Func, Module}
use Rattle.wa_types.specs.Typing.{type_of}
use Rattle.wa_types.specs.declared.values.ValType.{ValType}
use Rattle.wa_types.specs.declared.values.Value.{Value}
use Rattle.wa_types.specs.declared.values.Value.TheVariants as V
use Rattle.wa_types.proofs.LiveLemmas.{reads_live}
use Rattle.wa_types.proofs.SlotLemmas.{own_pair, reverse_left, reverse_top, same_self}
use Rattle.wa_model.specs.Configuration.{Activation, place_of}
use Rattle.run_theory.specs.Fitting.{types_of}
use Rattle.wa_model.specs.Store.{value_at}
use Rattle.run_laws.proofs.SpotSteps.{WaitsAtSpot}
use Rattle.run_laws.proofs.SpotPlaces.{at_call}
use Rattle.flat_laws.specs.Flatten.{Names, names, past}
use Rattle.flat_laws.specs.Flatten as F
use Rattle.flat_runs.specs.Beside.{Holds, Locals}
use Rattle.flat_runs.proofs.Slots.{extra_got}
use Rattle.frame_laws.specs.FrameMemory.{IsKept}
use Rattle.frame_laws.specs.Layout.{FrameField, kept}
use Rattle.emitted_form.specs.SameLive.{SameLocals, place}
use Rattle.emitted_form.specs.LiveFrames.{ComesBack, LiveComesBack, fields_at}

-- ---- what frames keep

abbrev as_kept : List Place → List FrameField
as_kept ps = map (λ (p : Place). kept p.local p.ty) ps

kept_behind : (y : ℕ) (xs ys : List Place) → IsKept y (as_kept ys) → IsKept y (as_kept (xs ++ ys))
kept_behind y [] ys h = h
kept_behind y (x ∷ xs) ys h = inr (kept_behind y xs ys h)

kept_onto : (b : Bool) (y x : ℕ) (t : ValType) (ps qs : List Place) → IsKept y (as_kept (ps ++ qs)) → IsKept y (as_kept (place_onto b x t ps ++ qs))
kept_onto true y x t ps qs h = inr h
kept_onto false y x t ps qs h = h

kept_first : (b : Bool) (x y : ℕ) (t : ValType) (ps qs : List Place) → b ≡ true → y ≡ x → IsKept y (as_kept (place_onto b x t ps ++ qs))
kept_first true x y t ps qs e z = inl z
kept_first false x y t ps qs e z = cc

kept_own : (keep : ℕ → Bool) (x : ℕ) (ts : List ValType) (qs : List Place) (i : ℕ) → i < length ts → keep (x + i) ≡ true → IsKept (x + i) (as_kept (named_places keep x ts ++ qs))
kept_own keep x [] qs i lt k = absurd (omega (arith, lt))
kept_own keep x (t ∷ ts) qs zero lt k = let z : x + 0 ≡ x = omega arith in kept_first (keep x) x (x + 0) t (named_places keep (suc x) ts) qs (ap keep (sym z) ∙ k) z
kept_own keep x (t ∷ ts) qs (suc i) lt k =
    let z : suc x + i ≡ x + suc i = omega arith in
    kept_onto (keep x) (x + suc i) x t (named_places keep (suc x) ts) qs
    (subst (λ y. IsKept y (as_kept (named_places keep (suc x) ts ++ qs))) z (kept_own keep (suc x) ts qs i (omega (arith, lt)) (ap keep z ∙ k)))

onto_kept : (b : Bool) (y x : ℕ) (t : ValType) (ps : List Place) → IsKept y (as_kept ps) → IsKept y (as_kept (place_onto b x t ps))
onto_kept true y x t ps h = inr h
onto_kept false y x t ps h = h

first_kept : (b : Bool) (x y : ℕ) (t : ValType) (ps : List Place) → b ≡ true → y ≡ x → IsKept y (as_kept (place_onto b x t ps))
first_kept true x y t ps e z = inl z
first_kept false x y t ps e z = cc

kept_slot : (keep : Pair → Bool) (x : ℕ) (ps : List Pair) (i : ℕ) (p : Pair) → slice_get ps i ≡ Some p → keep p ≡ true → IsKept (x + i) (as_kept (slot_places keep x ps))
kept_slot keep x [] i p e k = cc
kept_slot keep x (q ∷ ps) zero p e k =
    let z : x + 0 ≡ x = omega arith in let same : q ≡ p = cc in first_kept (keep q) x (x + 0) q.ty (slot_places keep (suc x) ps) (ap keep same ∙ k) z
kept_slot keep x (q ∷ ps) (suc i) p e k =
    let z : suc x + i ≡ x + suc i = omega arith in
    onto_kept (keep q) (x + suc i) x q.ty (slot_places keep (suc x) ps) (subst (λ y. IsKept y (as_kept (slot_places keep (suc x) ps))) z (kept_slot keep (suc x) ps i p e k))

-- ---- the slot of a pair

abbrev pair_at : ℕ → ValType → Pair
pair_at h t = record { number = h; ty = t }

pair_made : (p : Pair) (h : ℕ) (t : ValType) → h ≡ p.number → t ≡ p.ty → p ≡ pair_at h t
pair_made p h t e f = ap (λ k. pair_at k p.ty) (sym e) ∙ ap (pair_at h) (sym f)

place_found : (h : ℕ) (t : ValType) (ps : List Pair) → F.place h t ps < length ps → slice_get ps (F.place h t ps) ≡ Some (pair_at h t)
place_found h t [] lt = absurd (omega (arith, lt))
place_found h t (p ∷ ps) lt = by (same_pair h t p) refl lt (place_found h t ps)
  where
    by : (b : Bool) → same_pair h t p ≡ b → past b (F.place h t ps) < suc (length ps) → (F.place h t ps < length ps → slice_get ps (F.place h t ps) ≡ Some (pair_at h t))
        → slice_get (p ∷ ps) (past b (F.place h t ps)) ≡ Some (pair_at h t)
    by true e l later = let w = own_pair h p.number t p.ty e in ap Some (pair_made p h t w.0 w.1)
    by false e l later = later (omega (arith, l))

-- ---- operands

-- slots that are the same wherever an operand stands hold the same operands
holds_live : (n : Names) (extra extra2 : List Value) (stack : List ValType)
    → ((h : ℕ) (t : ValType) → slice_get (reverse stack) h ≡ Some t → F.place h t n.slots < length n.slots → value_at extra2 (F.place h t n.slots) ≡ value_at extra (F.place h t n.slots))
    → (ops : List Value) → ((h : ℕ) → h < length ops → slice_get (reverse stack) h ≡ slice_get (reverse (types_of ops)) h) → Holds n extra ops → Holds n extra2 ops
holds_live n extra extra2 stack each [] front holds = tt
holds_live n extra extra2 stack each (w ∷ ops) front holds =
    let l : length (types_of ops) ≡ length ops = length-map ops type_of in
    let top : slice_get (reverse (types_of (w ∷ ops))) (length ops) ≡ Some (type_of w) = ap (slice_get (reverse (types_of (w ∷ ops)))) (sym l) ∙ reverse_top (type_of w) (types_of ops) in (
      holds.0,
      each (length ops) (type_of w) (front (length ops) (omega arith) ∙ top) holds.0 ∙ holds.1,
      holds_live n extra extra2 stack each ops (λ h lt. front h (omega (arith, lt)) ∙ reverse_left (type_of w) (types_of ops) h (omega (arith, lt, l))) holds.2,
    )

-- ---- one activation

the_func : (x y : Func) → Some x ≡ Some y → x ≡ y
the_func x y e = cc

some_from : (y : ℕ) (o : Option Position) (at : Position) → o ≡ Some at → ReadsFirst y at → live_from y o ≡ true
some_from y o at e h = ap (live_from y) e ∙ reads_live y at h

module _ (m : Module) (f : Func) (g : ℕ) (a : Activation) (extra locals : List Value) (is : defined_at m a.func ≡ Some f) (at : WaitsAtSpot m g a)
    (held : Locals m f a.locals extra (a.taken ++ a.operands))
    (size : length locals ≡ length (a.locals ++ extra)) (typed : types_of (take (length a.locals) locals) ≡ locals_of m f)
    (same : (y : ℕ) → IsKept y (fields_at m f (place_of (Some f) a.code a.labels)) → value_at locals y ≡ value_at (a.locals ++ extra) y) where
  abbrev own : List Value
  own = take (length a.locals) locals

  abbrev extra2 : List Value
  extra2 = drop (length a.locals) locals

  abbrev call_place : ℕ
  call_place = place_of (Some f) a.code a.labels

  abbrev stack : List ValType
  stack = types_of (a.taken ++ a.operands)

  func_is : at.func ≡ f
  func_is = the_func at.func f (sym at.func_is ∙ is)

  own_size : length a.locals ≡ length (locals_of m f)
  own_size = sym (length-map a.locals type_of) ∙ ap length held.typed

  long : length a.locals ≤ length locals
  long = let l = length-append a.locals extra in omega (arith, l, size)

  own_long : length own ≡ length a.locals
  own_long = length-take-le (length a.locals) locals long

  split : locals ≡ own ++ extra2
  split = sym (take-append-drop (length a.locals) locals)

  behind : slice_get (behind_calls [] (pruned f.body)) call_place ≡ Some (place a.code a.labels)
  behind =
      let w = at_call m at.func at.results a.labels at.call a.code at.own at.below at.callee at.callee_is at.spot in
      subst (λ (h : Func). slice_get (behind_calls [] (pruned h.body)) (place_of (Some h) a.code a.labels) ≡ Some (place a.code a.labels)) func_is w.behind

  points : slice_get (func_call_points m f) call_place ≡ Some stack
  points =
      let w = at_call m at.func at.results a.labels at.call a.code at.own at.below at.callee at.callee_is at.spot in
      subst (λ (h : Func). slice_get (func_call_points m h) (place_of (Some h) a.code a.labels) ≡ Some stack) func_is (w.operands ∙ ap Some (sym at.before))

  own_kept : (y : ℕ) → y < length a.locals → ReadsFirst y (place a.code a.labels) → IsKept y (fields_at m f call_place)
  own_kept y lt r =
      let o = own_size in
      let z : 0 + y ≡ y = omega arith in
      subst (λ i. IsKept i (fields_at m f call_place)) z
      (kept_own (is_live_after f call_place) 0 (locals_of m f) (slot_places (is_on_stack (slice_get (func_call_points m f) call_place)) (length (locals_of m f)) (SlotPairs m f)) y
      (omega (arith, lt, o))
      (ap (is_live_after f call_place) z ∙ some_from y (slice_get (behind_calls [] (pruned f.body)) call_place) (place a.code a.labels) behind r))

  live : SameLocals a.code a.labels a.locals own
  live = (own_long, λ y r. by y r (cases_lt y (length a.locals)))
    where
      by : (y : ℕ) → ReadsFirst y (place a.code a.labels) → (y < length a.locals) ⊎ (length a.locals ≤ y) → value_at own y ≡ value_at a.locals y
      by y r (inl lt) = get_or-take (length a.locals) locals y (V.I32 0) lt ∙ same y (own_kept y lt r) ∙ get_or_append_left a.locals extra (V.I32 0) y lt
      by y r (inr ge) = let n = own_long in get_or_past own y (V.I32 0) (omega (arith, n, ge)) ∙ sym (get_or_past a.locals y (V.I32 0) ge)

  slot_same : (h : ℕ) (t : ValType) → slice_get (reverse stack) h ≡ Some t → F.place h t (SlotPairs m f) < length (SlotPairs m f)
      → value_at extra2 (F.place h t (SlotPairs m f)) ≡ value_at extra (F.place h t (SlotPairs m f))
  slot_same h t e lt =
      let i = F.place h t (SlotPairs m f) in
      let n = length (locals_of m f) in
      let on : is_on_stack (slice_get (func_call_points m f) call_place) (pair_at h t) ≡ true = ap (λ o. is_on_stack o (pair_at h t)) points ∙ ap (is_type t) e ∙ same_self t in
      let k : IsKept (n + i) (fields_at m f call_place) =
      kept_behind (n + i) (named_places (is_live_after f call_place) 0 (locals_of m f)) (slot_places (is_on_stack (slice_get (func_call_points m f) call_place)) n (SlotPairs m f))
      (kept_slot (is_on_stack (slice_get (func_call_points m f) call_place)) n (SlotPairs m f) i (pair_at h t) (place_found h t (SlotPairs m f) lt) on) in
      sym (extra_got own extra2 n i (own_long ∙ own_size)) ∙ ap (λ ls. value_at ls (n + i)) (sym split) ∙ same (n + i) k ∙ extra_got a.locals extra n i own_size

  pub back : ComesBack m f a locals
  back = record {
    own = own;
    extra = extra2;
    split = split;
    live = live;
    held = record {
      typed = typed;
      size = let l = length-append a.locals extra in let d = length-drop (length a.locals) locals in let h = held.size in omega (arith, l, d, h, size);
      holds = holds_live (names m f) extra extra2 stack slot_same (a.taken ++ a.operands) (λ h lt. refl) held.holds;
    };
  }

pub comes_back : LiveComesBack
comes_back m f g a extra locals is at held size typed same = back m f g a extra locals is at held size typed same
