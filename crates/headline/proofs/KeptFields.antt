-- What frames keep of flat locals: each has its type, stands for what is wanted at a call, and the call's slots are among them.
use mathlib.Core.List.{reverse_aux}
use Rattle.std.proofs.Common.{◌≡◌, ℕ, zero, suc, ◌+◌, ◌<◌, ◌⊎◌, inl, inr, List, [], ◌∷◌, ◌++◌, length, map, take, reverse, Option, Some, None, Bool, true, false, All, refl, sym, ap, ◌∙◌, subst, arith}
use Rattle.std.specs.Prelude.{slice_get, if◌then◌else◌}
use Rattle.std.proofs.lemmas.List.{length-map, length-reverse, reverse-append}
use Rattle.std.proofs.lemmas.List.Elements.{All-head, All-tail}
use Rattle.wa_types.specs.Encoding.{same_type}
use Rattle.wa_types.specs.Frames.{Pair, Place, Saved, SlotPairs, is_on_stack, is_type, named_places, of_type, operand_at, place_onto, same_pair, slot_places, stands_at}
use Rattle.wa_types.specs.Liveness.{is_live_after}
use Rattle.wa_types.specs.Modules.{locals_of}
use Rattle.wa_types.specs.Pausing.{Policy, save_all, save_live}
use Rattle.wa_types.specs.Points.{func_call_points}
use Rattle.wa_types.specs.Sizes.{value_fits}
use Rattle.wa_types.specs.Syntax.{Func, Module}
use Rattle.wa_types.specs.Typing.{type_of}
use Rattle.wa_types.specs.declared.values.ValType.{ValType}
use Rattle.wa_types.specs.declared.values.Value.{Value}
use Rattle.wa_types.proofs.SlotLemmas.{own_pair, reverse_left, reverse_top, same_self, same_true}
use Rattle.run_theory.specs.Fitting.{types_of}
use Rattle.wa_model.specs.Store.{value_at}
use Rattle.flat_laws.specs.Flatten.{Names, past, place, slots}
use Rattle.flat_runs.specs.Beside.{Holds}
use Rattle.flat_runs.proofs.Stretches.{Gets}
use Rattle.frame_laws.specs.FrameMemory.{IsKept}
use Rattle.frame_laws.specs.Layout.{FrameField, gap, kept}
use Rattle.frame_laws.specs.Stack.{AllKept, slot_values}
use Rattle.frame_laws.specs.Suspended.{Lays, Tells}
use Rattle.guard_runs.specs.Levels.{FlatFieldsFit}
use Rattle.slot_laws.specs.SlotBounds.{StandOnce}
use Rattle.headline.specs.EmittedModule.{fields_of}

-- ---- places, one by one

abbrev pub EachPlace : (Place → Type 0) → List Place → Type 0
EachPlace P [] = Unit {0}
EachPlace P (q ∷ qs) = P q × EachPlace P qs

each_both : (P : Place → Type 0) (xs ys : List Place) → EachPlace P xs → EachPlace P ys → EachPlace P (xs ++ ys)
each_both P [] ys h k = k
each_both P (x ∷ xs) ys h k = (h.0, each_both P xs ys h.1 k)

-- a property of a place, if it is there
each_onto : (P : Place → Type 0) (b : Bool) (x : ℕ) (t : ValType) (qs : List Place) → P (record { local = x; ty = t }) → EachPlace P qs → EachPlace P (place_onto b x t qs)
each_onto P true x t qs p h = (p, h)
each_onto P false x t qs p h = h

named_each : (P : Place → Type 0) (test : ℕ → Bool) (x : ℕ) (ts : List ValType) → ((y : ℕ) (t : ValType) → slice_get ts y ≡ Some t → P (record { local = x + y; ty = t }))
    → EachPlace P (named_places test x ts)
named_each P test x [] h = tt
named_each P test x (t ∷ ts) h =
    let z : x + 0 ≡ x = omega arith in
    each_onto P (test x) x t (named_places test (suc x) ts) (subst (λ y. P (record { local = y; ty = t })) z (h 0 t refl))
    (named_each P test (suc x) ts (λ y u e. let w : x + suc y ≡ suc x + y = omega arith in subst (λ y. P (record { local = y; ty = u })) w (h (suc y) u e)))

slot_each : (P : Place → Type 0) (test : Pair → Bool) (x : ℕ) (ps : List Pair) → ((k : ℕ) (p : Pair) → slice_get ps k ≡ Some p → P (record { local = x + k; ty = p.ty }))
    → EachPlace P (slot_places test x ps)
slot_each P test x [] h = tt
slot_each P test x (p ∷ ps) h =
    let z : x + 0 ≡ x = omega arith in
    each_onto P (test p) x p.ty (slot_places test (suc x) ps) (subst (λ y. P (record { local = y; ty = p.ty })) z (h 0 p refl))
    (slot_each P test (suc x) ps (λ k q e. let w : x + suc k ≡ suc x + k = omega arith in subst (λ y. P (record { local = y; ty = q.ty })) w (h (suc k) q e)))

-- the own locals and the slots that pass
abbrev pub places_by : (ℕ → Bool) → (Pair → Bool) → List ValType → List Pair → List Place
places_by test test_slot ts ps = named_places test 0 ts ++ slot_places test_slot (length ts) ps

-- all of them
abbrev pub all_places : List ValType → List Pair → List Place
all_places ts ps = places_by (λ y. true) (λ p. true) ts ps

pub places_each : (P : Place → Type 0) (test : ℕ → Bool) (test_slot : Pair → Bool) (ts : List ValType) (ps : List Pair)
    → ((y : ℕ) (t : ValType) → slice_get ts y ≡ Some t → P (record { local = y; ty = t }))
    → ((k : ℕ) (p : Pair) → slice_get ps k ≡ Some p → P (record { local = length ts + k; ty = p.ty })) → EachPlace P (places_by test test_slot ts ps)
places_each P test test_slot ts ps own slot =
    each_both P (named_places test 0 ts) (slot_places test_slot (length ts) ps)
    (named_each P test 0 ts (λ y t e. let z : y ≡ 0 + y = omega arith in subst (λ y. P (record { local = y; ty = t })) z (own y t e)))
    (slot_each P test_slot (length ts) ps slot)

-- ---- fields

pub fields_fit : (keep : ℕ → Bool) (ls : List Value) (qs : List Place) → EachPlace (λ q. (q.local < length ls) × (type_of (value_at ls q.local) ≡ q.ty) × value_fits (value_at ls q.local))
    qs → FlatFieldsFit ls (fields_of keep qs)
fields_fit keep ls [] h = tt
fields_fit keep ls (q ∷ qs) h = by (keep q.local) (fields_fit keep ls qs h.1)
  where
    by : (b : Bool) → FlatFieldsFit ls (fields_of keep qs) → FlatFieldsFit ls ((if b then kept q.local q.ty else gap q.ty) ∷ fields_of keep qs)
    by true ih = (h.0.0, h.0.1, h.0.2, ih)
    by false ih = ih

-- it lays what is wanted
abbrev pub LaysPlace : (keep : ℕ → Bool) → (Place → Option Value) → List Value → Place → Type 0
LaysPlace keep value ls q = (keep q.local ≡ true → Tells (value q) (value_at ls q.local)) × (keep q.local ≡ false → value q ≡ None)

pub fields_lay : (keep : ℕ → Bool) (value : Place → Option Value) (ls : List Value) (qs : List Place) → EachPlace (LaysPlace keep value ls) qs → Lays value ls (fields_of keep qs) qs
fields_lay keep value ls [] h = tt
fields_lay keep value ls (q ∷ qs) h = by (keep q.local) refl (fields_lay keep value ls qs h.1)
  where
    by : (b : Bool) → keep q.local ≡ b → Lays value ls (fields_of keep qs) qs → Lays value ls ((if b then kept q.local q.ty else gap q.ty) ∷ fields_of keep qs) (q ∷ qs)
    by true e ih = (refl, h.0.0 e, ih)
    by false e ih = (refl, h.0.1 e, ih)

-- ---- what is kept

kept_later : (keep : ℕ → Bool) (y : ℕ) (q : Place) (qs : List Place) → IsKept y (fields_of keep qs) → IsKept y (fields_of keep (q ∷ qs))
kept_later keep y q qs h = by (keep q.local)
  where
    by : (b : Bool) → IsKept y ((if b then kept q.local q.ty else gap q.ty) ∷ fields_of keep qs)
    by true = inr h
    by false = h

kept_behind : (keep : ℕ → Bool) (y : ℕ) (xs ys : List Place) → IsKept y (fields_of keep ys) → IsKept y (fields_of keep (xs ++ ys))
kept_behind keep y [] ys h = h
kept_behind keep y (x ∷ xs) ys h = kept_later keep y x (xs ++ ys) (kept_behind keep y xs ys h)

kept_here : (keep : ℕ → Bool) (y : ℕ) (t : ValType) (qs : List Place) → keep y ≡ true → IsKept y (fields_of keep (record { local = y; ty = t } ∷ qs))
kept_here keep y t qs e = by (keep y) e
  where
    by : (b : Bool) → b ≡ true → IsKept y ((if b then kept y t else gap t) ∷ fields_of keep qs)
    by true e = inl refl
    by false e = cc

-- behind a place that may be there
kept_past : (keep : ℕ → Bool) (b : Bool) (y x : ℕ) (t : ValType) (ps ys : List Place) → IsKept y (fields_of keep (ps ++ ys)) → IsKept y (fields_of keep (place_onto b x t ps ++ ys))
kept_past keep true y x t ps ys h = kept_later keep y (record { local = x; ty = t }) (ps ++ ys) h
kept_past keep false y x t ps ys h = h

-- at a place that is there
kept_at : (keep : ℕ → Bool) (b : Bool) (x : ℕ) (t : ValType) (ps ys : List Place) → b ≡ true → keep x ≡ true → IsKept x (fields_of keep (place_onto b x t ps ++ ys))
kept_at keep true x t ps ys e k = kept_here keep x t (ps ++ ys) k
kept_at keep false x t ps ys e k = cc

kept_named : (keep test : ℕ → Bool) (x : ℕ) (ts : List ValType) (ys : List Place) (i : ℕ) (t : ValType) → slice_get ts i ≡ Some t → test (x + i) ≡ true → keep (x + i) ≡ true
    → IsKept (x + i) (fields_of keep (named_places test x ts ++ ys))
kept_named keep test x [] ys i t e q k = cc
kept_named keep test x (u ∷ ts) ys zero t e q k =
    let z : x ≡ x + 0 = omega arith in
    subst (λ y. IsKept y (fields_of keep (named_places test x (u ∷ ts) ++ ys))) z (kept_at keep (test x) x u (named_places test (suc x) ts) ys (ap test z ∙ q) (ap keep z ∙ k))
kept_named keep test x (u ∷ ts) ys (suc i) t e q k =
    let z : suc x + i ≡ x + suc i = omega arith in
    kept_past keep (test x) (x + suc i) x u (named_places test (suc x) ts) ys
    (subst (λ y. IsKept y (fields_of keep (named_places test (suc x) ts ++ ys))) z (kept_named keep test (suc x) ts ys i t e (ap test z ∙ q) (ap keep z ∙ k)))

no_more : (ps : List Place) → ps ++ [] ≡ ps
no_more [] = refl
no_more (p ∷ ps) = ap (λ qs. p ∷ qs) (no_more ps)

kept_slot : (keep : ℕ → Bool) (test : Pair → Bool) (x : ℕ) (ps : List Pair) (ys : List Place) (i : ℕ) (p : Pair) → slice_get ps i ≡ Some p → test p ≡ true → keep (x + i) ≡ true
    → IsKept (x + i) (fields_of keep (slot_places test x ps ++ ys))
kept_slot keep test x [] ys i p e q k = cc
kept_slot keep test x (r ∷ ps) ys zero p e q k =
    let z : x ≡ x + 0 = omega arith in
    let same : r ≡ p = cc in
    subst (λ y. IsKept y (fields_of keep (slot_places test x (r ∷ ps) ++ ys))) z (kept_at keep (test r) x r.ty (slot_places test (suc x) ps) ys (ap test same ∙ q) (ap keep z ∙ k))
kept_slot keep test x (r ∷ ps) ys (suc i) p e q k =
    let z : suc x + i ≡ x + suc i = omega arith in
    kept_past keep (test r) (x + suc i) x r.ty (slot_places test (suc x) ps) ys
    (subst (λ y. IsKept y (fields_of keep (slot_places test (suc x) ps ++ ys))) z (kept_slot keep test (suc x) ps ys i p e q (ap keep z ∙ k)))

-- an own local that passes and is to be kept is
pub own_kept : (keep test : ℕ → Bool) (test_slot : Pair → Bool) (ts : List ValType) (ps : List Pair) (y : ℕ) (t : ValType) → slice_get ts y ≡ Some t → test y ≡ true → keep y ≡ true
    → IsKept y (fields_of keep (places_by test test_slot ts ps))
own_kept keep test test_slot ts ps y t e q k =
    let z : 0 + y ≡ y = omega arith in
    subst (λ i. IsKept i (fields_of keep (places_by test test_slot ts ps))) z (kept_named keep test 0 ts (slot_places test_slot (length ts) ps) y t e (ap test z ∙ q) (ap keep z ∙ k))

-- so is a slot
pub slot_kept : (keep test : ℕ → Bool) (test_slot : Pair → Bool) (ts : List ValType) (ps : List Pair) (k : ℕ) (p : Pair) → slice_get ps k ≡ Some p → test_slot p ≡ true → keep (length ts + k) ≡ true
    → IsKept (length ts + k) (fields_of keep (places_by test test_slot ts ps))
slot_kept keep test test_slot ts ps k p e q kk =
    kept_behind keep (length ts + k) (named_places test 0 ts) (slot_places test_slot (length ts) ps)
    (subst (λ qs. IsKept (length ts + k) (fields_of keep qs)) (no_more (slot_places test_slot (length ts) ps)) (kept_slot keep test_slot (length ts) ps [] k p e q kk))

-- ---- a list of kept locals

pub kept_take : (k : ℕ) (xs : List ℕ) (fs : List FrameField) → AllKept xs fs → AllKept (take k xs) fs
kept_take zero xs fs h = tt
kept_take (suc k) [] fs h = tt
kept_take (suc k) (x ∷ xs) fs h = (h.0, kept_take k xs fs h.1)

kept_aux : (xs ys : List ℕ) (fs : List FrameField) → AllKept xs fs → AllKept ys fs → AllKept (reverse_aux xs ys) fs
kept_aux [] ys fs h k = k
kept_aux (x ∷ xs) ys fs h k = kept_aux xs (x ∷ ys) fs h.1 (h.0, k)

pub kept_reverse : (xs : List ℕ) (fs : List FrameField) → AllKept xs fs → AllKept (reverse xs) fs
kept_reverse xs fs h = kept_aux xs [] fs h tt

-- ---- the values of slots

values_aux : (ls : List Value) (xs ys : List ℕ) (onto : List Value) → slot_values ls (reverse_aux xs ys) onto ≡ slot_values ls ys (map (value_at ls) xs ++ onto)
values_aux ls [] ys onto = refl
values_aux ls (x ∷ xs) ys onto = values_aux ls xs (x ∷ ys) onto

got_values : (ls : List Value) (k : ℕ) (xs : List ℕ) (vs : List Value) → Gets ls xs vs → map (value_at ls) (take k xs) ≡ take k vs
got_values ls zero xs vs h = refl
got_values ls (suc k) [] [] h = refl
got_values ls (suc k) [] (v ∷ vs) h = absurd h
got_values ls (suc k) (x ∷ xs) [] h = absurd h
got_values ls (suc k) (x ∷ xs) (v ∷ vs) h = ap (λ w. w ∷ map (value_at ls) (take k xs)) h.0 ∙ ap (λ ws. v ∷ ws) (got_values ls k xs vs h.1)

nothing_more : (xs : List Value) → xs ++ [] ≡ xs
nothing_more [] = refl
nothing_more (x ∷ xs) = ap (λ ys. x ∷ ys) (nothing_more xs)

front_of : (taken ops : List Value) → take (length taken) (taken ++ ops) ≡ taken
front_of [] ops = refl
front_of (v ∷ taken) ops = ap (λ vs. v ∷ vs) (front_of taken ops)

pub taken_is : (ls : List Value) (xs : List ℕ) (taken ops : List Value) → Gets ls xs (taken ++ ops) → taken ≡ slot_values ls (reverse (take (length taken) xs)) []
taken_is ls xs taken ops h =
    sym (values_aux ls (take (length taken) xs) [] [] ∙ nothing_more (map (value_at ls) (take (length taken) xs)) ∙ got_values ls (length taken) xs (taken ++ ops) h ∙ front_of taken ops)

-- ---- operands in slots

place_got : (h : ℕ) (t : ValType) (ps : List Pair) → place h t ps < length ps → slice_get ps (place h t ps) ≡ Some (record { number = h; ty = t })
place_got h t [] lt = absurd (omega arith)
place_got h t (p ∷ ps) lt = by (same_pair h t p) refl lt (λ g. place_got h t ps g)
  where
    made : (p : Pair) (n : ℕ) (u : ValType) → n ≡ p.number → u ≡ p.ty → p ≡ record { number = n; ty = u }
    made p n u e f = ap (λ k. record { number = k; ty = p.ty }) (sym e) ∙ ap (λ v. record { number = n; ty = v }) (sym f)

    by : (b : Bool) → same_pair h t p ≡ b → past b (place h t ps) < suc (length ps) → (place h t ps < length ps → slice_get ps (place h t ps) ≡ Some (record { number = h; ty = t }))
        → slice_get (p ∷ ps) (past b (place h t ps)) ≡ Some (record { number = h; ty = t })
    by true e lt ih = let w = own_pair h p.number t p.ty e in ap (λ z. Some z) (made p h t w.0 w.1)
    by false e lt ih = ih (omega arith)

module _ (n : Names) (extra : List Value) (keep : ℕ → Bool) where
  -- the operand stands in its slot, which is kept
  abbrev pub AtSlot : ℕ → Value → Type 0
  AtSlot h v = (place h (type_of v) n.slots < length n.slots) × (value_at extra (place h (type_of v) n.slots) ≡ v) × (keep (n.first + place h (type_of v) n.slots) ≡ true)

  last_got : (xs : List Value) (w : Value) (h : ℕ) (v : Value) → slice_get (xs ++ w ∷ []) h ≡ Some v → (slice_get xs h ≡ Some v) ⊎ ((h ≡ length xs) × (v ≡ w))
  last_got [] w zero v e = let z : v ≡ w = cc in inr (refl, z)
  last_got [] w (suc h) v e = cc
  last_got (x ∷ xs) w zero v e = inl e
  last_got (x ∷ xs) w (suc h) v e = elim (last_got xs w h v e) [ inl f ↦ inl f | inr f ↦ inr (let z : suc h ≡ length (x ∷ xs) = let y = f.0 in omega arith in (z, f.1)) ]

  types_long : (ops : List Value) → length (types_of ops) ≡ length ops
  types_long ops = length-map ops type_of

  pub held_at : (ops : List Value) → Holds n extra ops → All (λ y. keep y ≡ true) (slots n (types_of ops)) → (h : ℕ) (v : Value) → slice_get (reverse ops) h ≡ Some v → AtSlot h v
  held_at [] holds ks h v e = cc
  held_at (w ∷ ops) holds ks h v e =
      let k0 : keep (n.first + place (length (types_of ops)) (type_of w) n.slots) ≡ true =
      All-head (λ y. keep y ≡ true) (n.first + place (length (types_of ops)) (type_of w) n.slots) (slots n (types_of ops)) ks in
      let ih = held_at ops holds.2 (All-tail (λ y. keep y ≡ true) (n.first + place (length (types_of ops)) (type_of w) n.slots) (slots n (types_of ops)) ks) h v in
      let here : AtSlot (length ops) w = (holds.0, holds.1, ap (λ i. keep (n.first + place i (type_of w) n.slots)) (sym (types_long ops)) ∙ k0) in
      elim (last_got (reverse ops) w h v (ap (λ xs. slice_get xs h) (sym (reverse-append (w ∷ []) ops)) ∙ e)) [
        | inl f ↦ ih f
        | inr f ↦ let z : h ≡ length ops = f.0 ∙ length-reverse ops in subst (λ u. AtSlot h u) (sym f.1) (subst (λ i. AtSlot i w) (sym z) here)
      ]

  -- what a slot has to hold it holds, and it is kept
  pub slot_lays : (ops : List Value) → Holds n extra ops → All (λ y. keep y ≡ true) (slots n (types_of ops)) → StandOnce n.slots → (k : ℕ) (p : Pair) → slice_get n.slots k ≡ Some p
      → (keep (n.first + k) ≡ true → Tells (operand_at ops (Some p)) (value_at extra k)) × (keep (n.first + k) ≡ false → operand_at ops (Some p) ≡ None)
  slot_lays ops holds ks once k p e = by (slice_get (reverse ops) p.number) refl
    where
      clash : (b : Bool) → b ≡ true → b ≡ false → ⊥
      clash true q r = cc
      clash false q r = cc

      there : (v : Value) → AtSlot p.number v → type_of v ≡ p.ty → (value_at extra k ≡ v) × (keep (n.first + k) ≡ true)
      there v at ty =
          let same : place p.number (type_of v) n.slots ≡ k =
          once (place p.number (type_of v) n.slots) k p (place_got p.number (type_of v) n.slots at.0 ∙ ap (λ t. Some (record { number = p.number; ty = t })) ty) e in
          (ap (value_at extra) (sym same) ∙ at.1, ap (λ i. keep (n.first + i)) (sym same) ∙ at.2)

      by_type : (v : Value) → AtSlot p.number v → (b : Bool) → same_type (type_of v) p.ty ≡ b
          → (keep (n.first + k) ≡ true → Tells (if b then Some v else None) (value_at extra k)) × (keep (n.first + k) ≡ false → (if b then Some v else None) ≡ None)
      by_type v at true q = let t = there v at (same_true (type_of v) p.ty q) in (λ h. t.0, λ h. absurd (clash (keep (n.first + k)) t.1 h))
      by_type v at false q = (λ h. tt, λ h. refl)

      by : (o : Option Value) → slice_get (reverse ops) p.number ≡ o → (keep (n.first + k) ≡ true → Tells (of_type p.ty o) (value_at extra k)) × (keep (n.first + k) ≡ false → of_type p.ty o ≡ None)
      by None q = (λ h. tt, λ h. refl)
      by (Some v) q = by_type v (held_at ops holds ks p.number v q) (same_type (type_of v) p.ty) refl

-- the slots of operands are kept, where those are that hold an operand of this stack
pub slots_kept : (n : Names) (extra : List Value) (keep : ℕ → Bool) (fs : List FrameField) (stack : List ValType)
    → ((k : ℕ) (p : Pair) → slice_get n.slots k ≡ Some p → stands_at p.number p.ty stack ≡ true → keep (n.first + k) ≡ true → IsKept (n.first + k) fs) → (ops : List Value)
    → ((h : ℕ) → h < length ops → slice_get (reverse stack) h ≡ slice_get (reverse (types_of ops)) h) → Holds n extra ops → All (λ y. keep y ≡ true) (slots n (types_of ops))
    → AllKept (slots n (types_of ops)) fs
slots_kept n extra keep fs stack each [] front holds ks = tt
slots_kept n extra keep fs stack each (w ∷ ops) front holds ks =
    let i = place (length (types_of ops)) (type_of w) n.slots in
    let k0 : keep (n.first + place (length (types_of ops)) (type_of w) n.slots) ≡ true =
    All-head (λ y. keep y ≡ true) (n.first + place (length (types_of ops)) (type_of w) n.slots) (slots n (types_of ops)) ks in
    let l : length (types_of ops) ≡ length ops = length-map ops type_of in
    let within : place (length (types_of ops)) (type_of w) n.slots < length n.slots = subst (λ j. place j (type_of w) n.slots < length n.slots) (sym l) holds.0 in
    let top : slice_get (reverse stack) (length (types_of ops)) ≡ Some (type_of w) =
    ap (slice_get (reverse stack)) l ∙ front (length ops) (omega arith) ∙ ap (slice_get (reverse (types_of (w ∷ ops)))) (sym l) ∙ reverse_top (type_of w) (types_of ops) in
    let stands : stands_at (length (types_of ops)) (type_of w) stack ≡ true = ap (is_type (type_of w)) top ∙ same_self (type_of w) in (
      each i (record { number = length (types_of ops); ty = type_of w }) (place_got (length (types_of ops)) (type_of w) n.slots within) stands k0,
      slots_kept n extra keep fs stack each ops (λ h lt. front h (omega (arith, lt)) ∙ reverse_left (type_of w) (types_of ops) h (omega (arith, lt, l))) holds.2
          (All-tail (λ y. keep y ≡ true) (n.first + place (length (types_of ops)) (type_of w) n.slots) (slots n (types_of ops)) ks),
    )

-- ---- the saved locals of a call

-- each is an own local or a slot
pub saved_each : (P : Place → Type 0) (m : Module) (policy : Policy) (f : Func) (at : ℕ) → ((y : ℕ) (t : ValType) → slice_get (locals_of m f) y ≡ Some t → P (record { local = y; ty = t }))
    → ((k : ℕ) (p : Pair) → slice_get (SlotPairs m f) k ≡ Some p → P (record { local = length (locals_of m f) + k; ty = p.ty })) → EachPlace P (Saved m policy f at)
saved_each P m save_all f at own slot = places_each P (λ y. true) (λ p. true) (locals_of m f) (SlotPairs m f) own slot
saved_each P m save_live f at own slot = places_each P (is_live_after f at) (is_on_stack (slice_get (func_call_points m f) at)) (locals_of m f) (SlotPairs m f) own slot

-- a slot of an operand on the stack is saved
pub saved_slot : (m : Module) (policy : Policy) (f : Func) (at : ℕ) (keep : ℕ → Bool) (ops : List ValType) (k : ℕ) (p : Pair) → slice_get (func_call_points m f) at ≡ Some ops
    → slice_get (SlotPairs m f) k ≡ Some p
    → stands_at p.number p.ty ops ≡ true → keep (length (locals_of m f) + k) ≡ true → IsKept (length (locals_of m f) + k) (fields_of keep (Saved m policy f at))
saved_slot m save_all f at keep ops k p points e stands kk = slot_kept keep (λ y. true) (λ p. true) (locals_of m f) (SlotPairs m f) k p e refl kk
saved_slot m save_live f at keep ops k p points e stands kk =
    slot_kept keep (is_live_after f at) (is_on_stack (slice_get (func_call_points m f) at)) (locals_of m f) (SlotPairs m f) k p e (ap (λ o. is_on_stack o p) points ∙ stands) kk

-- ---- locals that have types

pub typed_at : (ls : List Value) (i : ℕ) (t : ValType) → slice_get (types_of ls) i ≡ Some t → All value_fits ls → (i < length ls) × (type_of (value_at ls i) ≡ t) × value_fits (value_at ls i)
typed_at [] i t e h = cc
typed_at (v ∷ ls) zero t e h = let z : type_of v ≡ t = cc in (omega arith, z, All-head value_fits v ls h)
typed_at (v ∷ ls) (suc i) t e h = let r = typed_at ls i t e (All-tail value_fits v ls h) in let lt = r.0 in (omega arith, r.1, r.2)
