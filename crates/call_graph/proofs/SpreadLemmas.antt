-- Telling functions, their callers, and so on.
use Rattle.std.proofs.Common.{arith, ◌≡◌, ℕ, zero, suc, ◌+◌, ◌<◌, ◌≤◌, List, [], ◌∷◌, ◌++◌, length, take, drop, get_or, set, Some, Bool, true, false, slice_get, refl, sym, ap, ◌∙◌, subst}
use Rattle.std.proofs.Common.{length-set, length-append, ⊎_elim, inl, inr}
use Rattle.std.proofs.lemmas.Bool.{cases_lt}
use Rattle.std.proofs.lemmas.List.{take_more, take_all, drop_all, append-nil}
use Rattle.std.specs.Prelude.{◌↔◌, ◌⊎◌, Contains, All}
use Rattle.std.proofs.lemmas.Option.{slice_get-get_or, slice_get_within}
use Rattle.std.proofs.lemmas.List.Elements.{Contains-get_or, Contains-append_left, Contains-push, Contains-push_cases}
use Rattle.std.specs.declared.vec.Vec.{Vec}
use Rattle.std.specs.declared.alloc.Global.{Global}
use Rattle.call_graph.specs.Graph.{items_or_none, callers_at, Reached, at_start, by_caller, untold, Tells}

abbrev Told : List Bool → ℕ → Type 0
Told told x = slice_get told x ≡ Some true

-- ---- one of them is told

pub set_here : (told : List Bool) (x : ℕ) → x < length told → slice_get (set told x true) x ≡ Some true
set_here [] x h = absurd (omega (arith, h))
set_here (b ∷ told) zero h = refl
set_here (b ∷ told) (suc x) h = set_here told x (omega (arith, h))

pub set_keeps : (told : List Bool) (x y : ℕ) → Told told y → Told (set told x true) y
set_keeps [] x y h = h
set_keeps (b ∷ told) zero zero h = refl
set_keeps (b ∷ told) zero (suc y) h = h
set_keeps (b ∷ told) (suc x) zero h = h
set_keeps (b ∷ told) (suc x) (suc y) h = set_keeps told x y h

pub set_alone : (told : List Bool) (x y : ℕ) → Told (set told x true) y → Told told y ⊎ (x ≡ y)
set_alone [] x y h = inl h
set_alone (b ∷ told) zero zero h = inr refl
set_alone (b ∷ told) zero (suc y) h = inl h
set_alone (b ∷ told) (suc x) zero h = inl h
set_alone (b ∷ told) (suc x) (suc y) h = ⊎_elim inl (λ e. inr (ap suc e)) (set_alone told x y h)

pub set_fewer : (told : List Bool) (x : ℕ) → slice_get told x ≡ Some false → untold (set told x true) + 1 ≡ untold told
set_fewer [] x h = absurd (cc)
set_fewer (true ∷ told) zero h = absurd (cc)
set_fewer (false ∷ told) zero h = omega arith
set_fewer (true ∷ told) (suc x) h = set_fewer told x h
set_fewer (false ∷ told) (suc x) h = omega (arith, set_fewer told x h)

none_contained : (x : ℕ) → Contains [] x → ⊥
none_contained x c = omega (arith, c.1)

pub got_is : (told : List Bool) (x : ℕ) (d b : Bool) → x < length told → get_or told x d ≡ b → slice_get told x ≡ Some b
got_is told x d b lt e = slice_get-get_or told x d lt ∙ ap Some e

-- ---- a list of them is told

pub tells_none : (told : List Bool) (pending : List ℕ) → Tells [] told told pending pending
tells_none told pending = record {
  len = refl;
  kept = λ x h. h;
  these = λ x c. absurd (none_contained x c);
  still = λ x c. c;
  fresh = λ x h. inl h;
  later = λ x c. inl c;
  fewer = refl;
}

module _ (funcs : List ℕ) (told new : List Bool) (pending after : List ℕ) (before : Tells funcs told new pending after) (x : ℕ) where
  these_too : (now : List Bool) → ((y : ℕ) → Told new y → Told now y) → Told now x → (y : ℕ) → Contains (funcs ++ x ∷ []) y → Told now y
  these_too now keeps is y c =
      ⊎_elim (λ d. keeps y (before.these y d)) (λ e. subst (Told now) e is) (Contains-push_cases funcs x y c)

  -- one that is told already
  pub tells_known : Told new x → Tells (funcs ++ x ∷ []) told new pending after
  tells_known is = record {
    len = before.len;
    kept = before.kept;
    these = these_too new (λ y h. h) is;
    still = before.still;
    fresh = λ y h. ⊎_elim inl (λ p. inr (Contains-append_left funcs (x ∷ []) y p.0, p.1)) (before.fresh y h);
    later = before.later;
    fewer = before.fewer;
  }

  -- one that isn't
  pub tells_new : slice_get new x ≡ Some false → Tells (funcs ++ x ∷ []) told (set new x true) pending (after ++ x ∷ [])
  tells_new is =
      let within : x < length new = slice_get_within new x false is in
      record {
        len = length-set new x true ∙ before.len;
        kept = λ y h. set_keeps new x y (before.kept y h);
        these = these_too (set new x true) (set_keeps new x) (set_here new x within);
        still = λ y c. Contains-append_left after (x ∷ []) y (before.still y c);
        fresh = λ y h. ⊎_elim (λ t. ⊎_elim inl (λ p. inr (Contains-append_left funcs (x ∷ []) y p.0, Contains-append_left after (x ∷ []) y p.1)) (before.fresh y t))
            (λ e. inr (subst (Contains (funcs ++ x ∷ [])) e (Contains-push funcs x), subst (Contains (after ++ x ∷ [])) e (Contains-push after x))) (set_alone new x y h);
        later = λ y c. ⊎_elim (λ d. ⊎_elim inl (λ t. inr (set_keeps new x y t)) (before.later y d)) (λ e. inr (subst (Told (set new x true)) e (set_here new x within)))
            (Contains-push_cases after x y c);
        fewer = omega (arith, set_fewer new x is, before.fewer, length-append after (x ∷ []));
      }

-- ---- all that are reached

-- Those told so far are reached, and the callers of each are told, but for those that are pending.
pub record Spreading (callers : List (Vec ℕ Global)) (starts told : List Bool) (pending : List ℕ) : Type 0 where
  pub len : length told ≡ length starts
  pub started : (x : ℕ) → slice_get starts x ≡ Some true → slice_get told x ≡ Some true
  pub sound : (x : ℕ) → slice_get told x ≡ Some true → Reached callers starts x
  pub there : (x : ℕ) → Contains pending x → slice_get told x ≡ Some true
  pub closed : (y x : ℕ) → slice_get told y ≡ Some true → Contains (callers_at callers y) x → (slice_get told x ≡ Some true) ⊎ Contains pending y

module _ (callers : List (Vec ℕ Global)) (starts : List Bool) where
  pub spreads_first : (pending : List ℕ) → ((x : ℕ) → Contains pending x ↔ Told starts x) → Spreading callers starts starts pending
  spreads_first pending h = record {
    len = refl;
    started = λ x t. t;
    sound = λ x t. at_start x t;
    there = λ x c. (h x).0 c;
    closed = λ y x t c. inr ((h y).1 t);
  }

  pub spreads_on : (told new : List Bool) (pending rest after : List ℕ) (func : ℕ) → Spreading callers starts told pending → pending ≡ rest ++ func ∷ []
      → Tells (callers_at callers func) told new rest after → Spreading callers starts new after
  spreads_on told new pending rest after func s e t =
      let popped : Contains pending func = subst (λ p. Contains p func) (sym e) (Contains-push rest func) in
      let in_rest : (x : ℕ) → Contains rest x → Contains pending x = λ x c. subst (λ p. Contains p x) (sym e) (Contains-append_left rest (func ∷ []) x c) in
      record {
        len = t.len ∙ s.len;
        started = λ x h. t.kept x (s.started x h);
        sound = λ x h. ⊎_elim (s.sound x) (λ p. by_caller x func p.0 (s.sound func (s.there func popped))) (t.fresh x h);
        there = λ x c. ⊎_elim (λ d. t.kept x (s.there x (in_rest x d))) (λ h. h) (t.later x c);
        closed = λ y x h c. ⊎_elim (λ k. ⊎_elim (λ d. inl (t.kept x d)) (λ p. ⊎_elim (λ d. inr (t.still y d))
            (λ f. inl (t.these x (subst (λ z. Contains (callers_at callers z) x) (sym f) c))) (Contains-push_cases rest func y (subst (λ l. Contains l y) e p))) (s.closed y x k c))
            (λ p. inr p.1) (t.fresh y h);
      }

  reached_told : (told : List Bool) (x : ℕ) → Spreading callers starts told [] → Reached callers starts x → Told told x
  reached_told told x s (at_start y h) = s.started y h
  reached_told told x s (by_caller y z c r) =
      ⊎_elim (λ h. h) (λ p. absurd (none_contained z p)) (s.closed z y (reached_told told z s r) c)

  pub spreads_last : (told : List Bool) (pending : List ℕ) → Spreading callers starts told pending → pending ≡ [] → (x : ℕ) → Told told x ↔ Reached callers starts x
  spreads_last told pending s e x =
      let t : Spreading callers starts told [] = subst (Spreading callers starts told) e s in
      (s.sound x, λ r. reached_told told x t r)

-- ---- the list of those that are told at the start

pub places_known : (told : List Bool) (places : List ℕ) (n : ℕ) → slice_get told n ≡ Some false → ((x : ℕ) → Contains places x ↔ ((x < n) × Told told x)) → (x : ℕ)
    → Contains places x ↔ ((x < n + 1) × Told told x)
places_known told places n is h x = (
  λ c. let p = (h x).0 c in (omega (arith, p.0), p.1),
  λ p. ⊎_elim (λ lt. (h x).1 (lt, p.1)) (λ ge. let e : x ≡ n = omega (arith, p.0) in let bad : Some true ≡ Some false = sym p.1 ∙ ap (slice_get told) e ∙ is in absurd (cc)) (cases_lt x n),
)

places_longer : (told : List Bool) (places : List ℕ) (n : ℕ) → Told told n → ((x : ℕ) → Contains places x ↔ ((x < n) × Told told x)) → (x : ℕ)
    → Contains (places ++ n ∷ []) x ↔ ((x < n + 1) × Told told x)
places_longer told places n is h x = (
  λ c. ⊎_elim (λ d. let p = (h x).0 d in (omega (arith, p.0), p.1)) (λ e. (omega (arith, e), subst (Told told) e is)) (Contains-push_cases places n x c),
  λ p. ⊎_elim (λ lt. Contains-append_left places (n ∷ []) x ((h x).1 (lt, p.1))) (λ ge. let e : n ≡ x = omega (arith, p.0) in subst (Contains (places ++ n ∷ [])) e (Contains-push places n))
      (cases_lt x n),
)

-- the callers of a function are within
pub all_within : (callers : List (Vec ℕ Global)) (told : List Bool) (y : ℕ) (v : Vec ℕ Global) → slice_get callers y ≡ Some v → length told ≡ length callers
    → ((y x : ℕ) → Contains (callers_at callers y) x → x < length callers) → All (λ x. x < length told) v.items
all_within callers told y v is len within = λ k d lt.
    let c : Contains (callers_at callers y) (get_or v.items k d) = subst (λ o. Contains (items_or_none o) (get_or v.items k d)) (sym is) (Contains-get_or v.items k d lt) in
    omega (arith, len, within y (get_or v.items k d) c)

pub places_more : (told : List Bool) (places new : List ℕ) (n : ℕ) → Told told n → new ≡ places ++ n ∷ [] → ((x : ℕ) → Contains places x ↔ ((x < n) × Told told x)) → (x : ℕ)
    → Contains new x ↔ ((x < n + 1) × Told told x)
places_more told places new n is e h = subst (λ l. (x : ℕ) → Contains l x ↔ ((x < n + 1) × Told told x)) (sym e) (places_longer told places n is h)

pub places_last : (told : List Bool) (places : List ℕ) (n : ℕ) → length told ≤ n → ((x : ℕ) → Contains places x ↔ ((x < n) × Told told x)) → (x : ℕ) → Contains places x ↔ Told told x
places_last told places n le h x = (
  λ c. ((h x).0 c).1,
  λ t. (h x).1 (let lt = slice_get_within told x true t in omega (arith, lt, le), t),
)

module _ (funcs : List ℕ) (told new : List Bool) (pending after : List ℕ) (i : ℕ) (lt : i < length funcs) (before : Tells (take i funcs) told new pending after)
    (within : All (λ x. x < length told) funcs) (d : Bool) where
  here_within : get_or funcs i 0 < length new
  here_within = omega (arith, within i 0 lt, before.len)

  pub tell_known : get_or new (get_or funcs i 0) d ≡ true → Tells (take (i + 1) funcs) told new pending after
  tell_known is =
      subst (λ l. Tells l told new pending after) (sym (take_more funcs i 0 lt))
      (tells_known (take i funcs) told new pending after before (get_or funcs i 0) (got_is new (get_or funcs i 0) d true here_within is))

  pub tell_new : (more : List ℕ) → get_or new (get_or funcs i 0) d ≡ false → more ≡ after ++ get_or funcs i 0 ∷ [] → Tells (take (i + 1) funcs) told (set new (get_or funcs i 0) true) pending more
  tell_new more is e =
      subst (λ l. Tells l told (set new (get_or funcs i 0) true) pending more) (sym (take_more funcs i 0 lt))
      (subst (Tells (take i funcs ++ get_or funcs i 0 ∷ []) told (set new (get_or funcs i 0) true) pending) (sym e)
      (tells_new (take i funcs) told new pending after before (get_or funcs i 0) (got_is new (get_or funcs i 0) d false here_within is)))

-- a function that is pending is there
pub pending_within : (callers : List (Vec ℕ Global)) (starts told : List Bool) (pending rest : List ℕ) (func : ℕ) → Spreading callers starts told pending → pending ≡ rest ++ func ∷ []
    → length starts ≡ length callers → func < length callers
pending_within callers starts told pending rest func s e len =
    let c : Contains pending func = subst (λ p. Contains p func) (sym e) (Contains-push rest func) in
    omega (arith, slice_get_within told func true (s.there func c), s.len, len)

-- what is written back to a vector from its slice
pub written_back : {X : Type 0} (old new : List X) (n : ℕ) → n ≡ length old → length new ≡ length old → take n (new ++ drop (length new) old) ≡ new
written_back old new n e same =
    let le : length old ≤ length new = omega (arith, same) in
    let most : length new ≤ n = omega (arith, same, e) in
    ap (λ l. take n (new ++ l)) (drop_all (length new) old le) ∙ ap (take n) (append-nil new) ∙ take_all n new most

pub none_left : (xs : List ℕ) → length xs ≡ 0 → xs ≡ []
none_left [] h = refl
none_left (x ∷ xs) h = absurd (omega (arith, h))
