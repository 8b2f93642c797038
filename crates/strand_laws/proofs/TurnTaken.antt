-- A turn that one strand told, in front of what all of a program's strands tell.
use Rattle.std.proofs.Common.{arith, ◌≡◌, ◌<◌, ℕ, zero, suc, ◌+◌, List, [], ◌∷◌, ◌++◌, length, Option, Some, None, Bool, true, false, refl, sym, ap, subst}
use Rattle.std.specs.Prelude.{MatchBool, map, slice_get, slice_set, if◌then◌else◌, ◌||◌}
use Rattle.wa_model.specs.Blocking.{Note}
use Rattle.wa_model.specs.Outside.{Event, answered, called, ended, parked, paused, returned, shown}
use Rattle.world_model.specs.World.{Look, behind_turn, ends_turn, events_with_looks, is_end, looks_after, put_off, ticks_in, turn_of}
use Rattle.strand_laws.proofs.StrandTails.{notes_both, notes_same}
use Rattle.strand_laws.specs.StrandWorld.{last_strand, notes_of}
use Rattle.strand_laws.specs.ToldStrands.{EndsOnce, StrandTeller, having_told, tells_end}
use Rattle.strand_laws.specs.Weaving.{Dues, GoesByTurns, due_in, dues_behind, is_ready, now_behind}
use Rattle.strand_laws.specs.Woven.{Thread, Told, put, told_by}

-- ---- a turn

-- a note ends a turn or not
module _ (zs : List Note) where
  -- a turn that ends once is the turn of what it begins
  pub turn_first : (xs : List Note) → EndsOnce xs → (turn_of (xs ++ zs) ≡ xs) × (behind_turn (xs ++ zs) ≡ zs)
  turn_first [] h = absurd h
  turn_first (x ∷ xs) h = by (ends_turn x.event) h (λ g. turn_first xs g)
    where
      by : (b : Bool) → MatchBool b (xs ≡ []) (EndsOnce xs) → (EndsOnce xs → (turn_of (xs ++ zs) ≡ xs) × (behind_turn (xs ++ zs) ≡ zs))
          → ((if b then x ∷ [] else x ∷ turn_of (xs ++ zs)) ≡ x ∷ xs) × ((if b then xs ++ zs else behind_turn (xs ++ zs)) ≡ zs)
      by true e on = (ap (λ (ys : List Note). x ∷ ys) (sym e), ap (λ (ys : List Note). ys ++ zs) e)
      by false g on = let r = on g in (ap (λ (ys : List Note). x ∷ ys) r.0, r.1)

pub some_told : (xs : List Note) → EndsOnce xs → 0 < length xs
some_told [] h = absurd h
some_told (x ∷ xs) h = omega arith

-- where no note is an end it doesn't matter what is shown
pub no_end_shows : (looks looks' : List Look) (xs : List Note) → tells_end xs ≡ false → events_with_looks looks xs ≡ events_with_looks looks' xs
no_end_shows looks looks' [] h = refl
no_end_shows looks looks' (x ∷ xs) h = by x.event h (no_end_shows looks looks' xs)
  where
    no : {A : Type 0} → true ≡ false → A
    no e = let no_way : ⊥ = cc in absurd no_way

    by : (e : Event) → (is_end e || tells_end xs) ≡ false → (tells_end xs ≡ false → events_with_looks looks xs ≡ events_with_looks looks' xs)
        → (x.event ∷ looks_after looks x e) ++ events_with_looks looks xs ≡ (x.event ∷ looks_after looks' x e) ++ events_with_looks looks' xs
    by (called c) h on = ap (λ (es : List Event). x.event ∷ es) (on h)
    by (answered c) h on = ap (λ (es : List Event). x.event ∷ es) (on h)
    by (parked c) h on = ap (λ (es : List Event). x.event ∷ es) (on h)
    by (returned c d) h on = ap (λ (es : List Event). x.event ∷ es) (on h)
    by (shown c d) h on = ap (λ (es : List Event). x.event ∷ es) (on h)
    by (paused c d) h on = ap (λ (es : List Event). x.event ∷ es) (on h)
    by (ended c) h on = no h

-- ---- what is due

-- a strand that hasn't ended
abbrev pub going_on : Bool → Option (Unit {0})
going_on true = None
going_on false = Some tt

abbrev pub due_now : StrandTeller → Thread (Unit {0})
due_now s = record { due = s.due; at = going_on s.has_ended }

abbrev pub dues_of : List StrandTeller → Dues
dues_of ss = map due_now ss

pub dues_get : (ss : List StrandTeller) (k : ℕ) (s : StrandTeller) → slice_get ss k ≡ Some s → slice_get (dues_of ss) k ≡ Some (due_now s)
dues_get [] k s e = let no_way : ⊥ = cc in absurd no_way
dues_get (x ∷ ss) zero s e = ap (λ (o : StrandTeller). Some (due_now o)) (same e)
  where
    same : Some x ≡ Some s → x ≡ s
    same q = cc
dues_get (x ∷ ss) (suc k) s e = dues_get ss k s e

pub dues_back : (ss : List StrandTeller) (k : ℕ) → is_ready (slice_get (dues_of ss) k) ≡ true → (s : StrandTeller) × (slice_get ss k ≡ Some s) × (s.has_ended ≡ false)
dues_back [] k e = let no_way : ⊥ = cc in absurd no_way
dues_back (x ∷ ss) zero e = (x, refl, by x.has_ended e)
  where
    by : (b : Bool) → is_ready (Some (record { due = x.due; at = going_on b })) ≡ true → b ≡ false
    by true q = let no_way : ⊥ = cc in absurd no_way
    by false q = refl
dues_back (x ∷ ss) (suc k) e = dues_back ss k e

pub dues_put : (ss : List StrandTeller) (k : ℕ) (s : StrandTeller) → dues_of (slice_set ss k s) ≡ put k s.due (going_on s.has_ended) (dues_of ss)
dues_put [] k s = refl
dues_put (x ∷ ss) zero s = refl
dues_put (x ∷ ss) (suc k) s = ap (λ (v : Dues). due_now x ∷ v) (dues_put ss k s)

-- ---- behind a turn

module _ (k : ℕ) (rest : List Told) where
  abbrev Behind : Dues → (later : ℕ) → Bool → Type 0
  Behind v later over = GoesByTurns None (put k (due_in (slice_get v k) + later) (going_on over) v) rest

  by_event : (v : Dues) (x : Note) (xs : List Note) → MatchBool (ends_turn x.event) (xs ≡ []) (EndsOnce xs)
      → (EndsOnce xs → GoesByTurns (Some k) v (told_by k xs ++ rest) → Behind v (put_off xs) (tells_end xs))
      → (e : Event) → MatchBool (ends_turn e) (xs ≡ []) (EndsOnce xs) → GoesByTurns (now_behind k e) (dues_behind k e v) (told_by k xs ++ rest) → Behind v (ticks_in e + put_off xs) (is_end e || tells_end xs)
  by_event v x xs w on (called c) h g = let z : put_off xs ≡ 0 + put_off xs = omega arith in subst (λ n. Behind v n (tells_end xs)) z (on h g)
  by_event v x xs w on (answered c) h g = let z : put_off xs ≡ 0 + put_off xs = omega arith in subst (λ n. Behind v n (tells_end xs)) z (on h g)
  by_event v x xs w on (parked c) h g = let z : put_off xs ≡ 0 + put_off xs = omega arith in subst (λ n. Behind v n (tells_end xs)) z (on h g)
  by_event v x xs w on (returned c d) h g = let z : put_off xs ≡ 0 + put_off xs = omega arith in subst (λ n. Behind v n (tells_end xs)) z (on h g)
  by_event v x xs w on (shown c d) h g = let z : put_off xs ≡ 0 + put_off xs = omega arith in subst (λ n. Behind v n (tells_end xs)) z (on h g)
  by_event v x xs w on (paused t u) h g =
      let z : t ≡ t + 0 = omega arith in
      subst (λ (ys : List Note). Behind v (t + put_off ys) (tells_end ys)) (sym h)
      (subst (λ n. Behind v n false) z (subst (λ (ys : List Note). GoesByTurns None (put k (due_in (slice_get v k) + t) (Some tt) v) (told_by k ys ++ rest)) h g))
  by_event v x xs w on (ended how) h g =
      let z : due_in (slice_get v k) ≡ due_in (slice_get v k) + (0 + 0) = omega arith in
      subst (λ (ys : List Note). Behind v (0 + put_off ys) true) (sym h)
      (subst (λ n. GoesByTurns None (put k n None v) rest) z (subst (λ (ys : List Note). GoesByTurns None (put k (due_in (slice_get v k)) None v) (told_by k ys ++ rest)) h g))

  going_behind : (v : Dues) (xs : List Note) → EndsOnce xs → GoesByTurns (Some k) v (told_by k xs ++ rest) → Behind v (put_off xs) (tells_end xs)
  going_behind v [] h g = absurd h
  going_behind v (x ∷ xs) h g = by_event v x xs h (λ w f. going_behind v xs w f) x.event h g.1

  from_none : (v : Dues) (xs : List Note) → EndsOnce xs → GoesByTurns None v (told_by k xs ++ rest) → GoesByTurns (Some k) v (told_by k xs ++ rest)
  from_none v [] h g = absurd h
  from_none v (x ∷ xs) h g = (refl, g.1)

  -- Behind a strand's turn all goes by turns, with that strand due later, or gone.
  pub turn_taken : (ss : List StrandTeller) (s : StrandTeller) (xs : List Note) (met : _) (answers : _) → slice_get ss k ≡ Some s → EndsOnce xs → GoesByTurns None (dues_of ss) (told_by k xs ++ rest)
      → GoesByTurns None (dues_of (slice_set ss k (having_told s xs met answers))) rest
  turn_taken ss s xs met answers there h g =
      subst (λ (v : Dues). GoesByTurns None v rest) (sym (dues_put ss k (having_told s xs met answers)))
      (subst (λ d. GoesByTurns None (put k (d + put_off xs) (going_on (tells_end xs)) (dues_of ss)) rest) (ap due_in (dues_get ss k s there))
      (going_behind (dues_of ss) xs h (from_none (dues_of ss) xs h g)))

-- ---- the strand that tells the last note

pub last_behind : (xs : List Told) (y : Told) (ys : List Told) → last_strand (xs ++ y ∷ ys) ≡ last_strand (y ∷ ys)
last_behind [] y ys = refl
last_behind (x ∷ []) y ys = refl
last_behind (x ∷ z ∷ xs) y ys = last_behind (z ∷ xs) y ys

pub last_own : (k : ℕ) (x : Note) (xs : List Note) → last_strand (told_by k (x ∷ xs)) ≡ k
last_own k x [] = refl
last_own k x (y ∷ xs) = last_own k y xs

pub last_tells : (y : Told) (ys : List Told) → 0 < length (notes_of (last_strand (y ∷ ys)) (y ∷ ys))
last_tells y [] = let z = ap length (notes_same y.strand y [] refl) in omega (arith, z)
last_tells y (z ∷ ys) =
    let h = last_tells z ys in
    let e = ap length (notes_both (last_strand (z ∷ ys)) (y ∷ []) (z ∷ ys)) in
    more (notes_of (last_strand (z ∷ ys)) (y ∷ [])) (notes_of (last_strand (z ∷ ys)) (z ∷ ys)) (length (notes_of (last_strand (z ∷ ys)) (y ∷ z ∷ ys))) e h
  where
    more : (xs ys : List Note) (n : ℕ) → n ≡ length (xs ++ ys) → 0 < length ys → 0 < n
    more [] ys n e h = omega (arith, e, h)
    more (x ∷ xs) ys n e h = omega (arith, e)
