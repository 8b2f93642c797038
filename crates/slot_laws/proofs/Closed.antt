-- The functions that may pause are the least closed set, which one list tells.
use Rattle.std.proofs.Common.{arith, ◌≡◌, ℕ, zero, suc, ◌+◌, ◌-◌, ◌<◌, ◌≤◌, ◌⊎◌, inl, inr, ◌||◌, not, length, map, List, [], ◌∷◌, Some, None, Option, Bool, true, false, refl, ap, sym, ◌∙◌, subst}
use Rattle.std.specs.Prelude.{slice_get, nat_lt, if◌then◌else◌}
use Rattle.std.specs.List.{list_any}
use Rattle.std.proofs.lemmas.Bool.{cases_lt}
use Rattle.std.proofs.lemmas.Option.{slice_get_within}
use Rattle.std.proofs.lemmas.List.{length-append, length-map}
use Rattle.wa_types.specs.Syntax.{Func, Module}
use Rattle.wa_types.specs.Modules.{imported, imported_func, func_sorts, func_imports, defined_at}
use Rattle.wa_types.specs.Pausing.{Callee, direct, indirect, Settings, Listed, calls_in, MayPause, calls_listed as by_listed, calls_indirectly as by_table, calls_pausing as by_member}
use Rattle.wa_types.specs.Pausing.{TellsMayPause, is_told, has_number}
use Rattle.wa_types.proofs.SlotLemmas.{either_true, or_left, or_right}
use Rattle.slot_laws.specs.PausingFunctions.{IsClosed, MayPauseIsClosed, MayPauseIsLeast, OneListTells, SomeListTells}

pub is_closed : MayPauseIsClosed
is_closed m s = record {
  calls_listed = λ x f place i is at listed. by_listed x f place i is at listed;
  calls_indirectly = λ x f place sort is at counted. by_table x f place sort is at counted;
  calls_member = λ x f place y is at may. by_member x f place y is at may;
}

pub is_least : MayPauseIsLeast
is_least m s member closed _ (by_listed x f place i is at listed) = closed.calls_listed x f place i is at listed
is_least m s member closed _ (by_table x f place sort is at counted) = closed.calls_indirectly x f place sort is at counted
is_least m s member closed _ (by_member x f place y is at may) = closed.calls_member x f place y is at (is_least m s member closed y may)

-- ---- lists of truth values

same_lists : (xs ys : List Bool) → length xs ≡ length ys → ((x : ℕ) → slice_get xs x ≡ Some true → slice_get ys x ≡ Some true)
    → ((x : ℕ) → slice_get ys x ≡ Some true → slice_get xs x ≡ Some true) → xs ≡ ys
same_lists [] [] e to from = refl
same_lists [] (y ∷ ys) e to from = absurd (omega (arith, e))
same_lists (x ∷ xs) [] e to from = absurd (omega (arith, e))
same_lists (true ∷ xs) (true ∷ ys) e to from = ap (λ zs. true ∷ zs) (same_lists xs ys (omega (arith, e)) (λ x h. to (suc x) h) (λ x h. from (suc x) h))
same_lists (false ∷ xs) (false ∷ ys) e to from = ap (λ zs. false ∷ zs) (same_lists xs ys (omega (arith, e)) (λ x h. to (suc x) h) (λ x h. from (suc x) h))
same_lists (true ∷ xs) (false ∷ ys) e to from = let bad : Some false ≡ Some true = to 0 refl in cc
same_lists (false ∷ xs) (true ∷ ys) e to from = let bad : Some false ≡ Some true = from 0 refl in cc

pub one_list : OneListTells
one_list m s which others w o =
    same_lists which others (w.len ∙ sym o.len) (λ x h. (o.each x).1 ((w.each x).0 h)) (λ x h. (w.each x).1 ((o.each x).0 h))

-- how many aren't told
abbrev untold : List Bool → ℕ
untold [] = 0
untold (true ∷ told) = untold told
untold (false ∷ told) = 1 + untold told

-- what is told stays told
abbrev Grows : List Bool → List Bool → Type 0
Grows [] [] = Unit {0}
Grows (true ∷ xs) (true ∷ ys) = Grows xs ys
Grows (false ∷ xs) (y ∷ ys) = Grows xs ys
Grows _ _ = ⊥

grown_fewer : (xs ys : List Bool) → Grows xs ys → untold ys ≤ untold xs
grown_fewer [] [] h = omega arith
grown_fewer [] (y ∷ ys) h = absurd h
grown_fewer (true ∷ xs) [] h = absurd h
grown_fewer (false ∷ xs) [] h = absurd h
grown_fewer (true ∷ xs) (true ∷ ys) h = grown_fewer xs ys h
grown_fewer (true ∷ xs) (false ∷ ys) h = absurd h
grown_fewer (false ∷ xs) (true ∷ ys) h = let g = grown_fewer xs ys h in omega (arith, g)
grown_fewer (false ∷ xs) (false ∷ ys) h = let g = grown_fewer xs ys h in omega (arith, g)

-- where no fewer are untold, nothing has changed
grown_same : (xs ys : List Bool) → Grows xs ys → untold xs ≤ untold ys → xs ≡ ys
grown_same [] [] h le = refl
grown_same [] (y ∷ ys) h le = absurd h
grown_same (true ∷ xs) [] h le = absurd h
grown_same (false ∷ xs) [] h le = absurd h
grown_same (true ∷ xs) (true ∷ ys) h le = ap (λ zs. true ∷ zs) (grown_same xs ys h le)
grown_same (true ∷ xs) (false ∷ ys) h le = absurd h
grown_same (false ∷ xs) (true ∷ ys) h le = let g = grown_fewer xs ys h in absurd (omega (arith, g, le))
grown_same (false ∷ xs) (false ∷ ys) h le = ap (λ zs. false ∷ zs) (grown_same xs ys h (omega (arith, le)))

-- the answers of a test, for so many numbers from x on
abbrev told_from : (ℕ → Bool) → ℕ → ℕ → List Bool
told_from test x zero = []
told_from test x (suc k) = test x ∷ told_from test (suc x) k

told_length : (test : ℕ → Bool) (x k : ℕ) → length (told_from test x k) ≡ k
told_length test x zero = refl
told_length test x (suc k) = ap suc (told_length test (suc x) k)

told_at : (test : ℕ → Bool) (x k i : ℕ) → i < k → slice_get (told_from test x k) i ≡ Some (test (x + i))
told_at test x zero i lt = absurd (omega (arith, lt))
told_at test x (suc k) zero lt = let z : x ≡ x + 0 = omega arith in ap (λ y. Some (test y)) z
told_at test x (suc k) (suc i) lt = let z : suc x + i ≡ x + suc i = omega arith in told_at test (suc x) k i (omega (arith, lt)) ∙ ap (λ y. Some (test y)) z

told_grows : (test : ℕ → Bool) (x : ℕ) (told : List Bool) → ((i : ℕ) → slice_get told i ≡ Some true → test (x + i) ≡ true) → Grows told (told_from test x (length told))
told_grows test x [] h = tt
told_grows test x (b ∷ told) h =
    by_first b (test x) (λ e. let z : x + 0 ≡ x = omega arith in ap test (sym z) ∙ h 0 (ap Some e))
    (told_grows test (suc x) told (λ i e. let z : suc x + i ≡ x + suc i = omega arith in ap test z ∙ h (suc i) e))
  where
    by_first : (b c : Bool) → (b ≡ true → c ≡ true) → Grows told (told_from test (suc x) (length told)) → Grows (b ∷ told) (c ∷ told_from test (suc x) (length told))
    by_first true true f g = g
    by_first true false f g = let bad : false ≡ true = f refl in cc
    by_first false c f g = g

some_true : (o : Option Bool) → is_told o ≡ true → o ≡ Some true
some_true None e = cc
some_true (Some b) e = ap Some e

any_at : (test : Callee → Bool) (cs : List Callee) → list_any test cs ≡ true → (place : ℕ) × (c : Callee) × (slice_get cs place ≡ Some c) × (test c ≡ true)
any_at test [] e = cc
any_at test (c ∷ cs) e = elim (either_true (test c) (list_any test cs) e) [
  | inl h ↦ (0, c, refl, h)
  | inr h ↦ let w = any_at test cs h in (suc w.0, w.1, w.2, w.3)
]

at_any : (test : Callee → Bool) (cs : List Callee) (place : ℕ) (c : Callee) → slice_get cs place ≡ Some c → test c ≡ true → list_any test cs ≡ true
at_any test [] place c e h = cc
at_any test (d ∷ cs) zero c e h = let z : d ≡ c = cc in or_left (test d) (list_any test cs) (ap test z ∙ h)
at_any test (d ∷ cs) (suc place) c e h = or_right (test d) (list_any test cs) (at_any test cs place c e h)

not_false : (b : Bool) → not b ≡ true → b ≡ false
not_false true e = cc
not_false false e = refl

module _ (m : Module) (s : Settings) where
  abbrev count : ℕ
  count = length (func_sorts m)

  abbrev calls_found : Option Func → List Callee
  calls_found None = []
  calls_found (Some f) = calls_in f

  -- told before, or calling what pauses or is told
  abbrev turn : List Bool → ℕ → Bool
  turn told x = is_told (slice_get told x) || list_any (has_number m s told) (calls_found (defined_at m x))

  abbrev round : List Bool → List Bool
  round told = told_from (turn told) 0 count

  -- only functions that may pause are told
  abbrev Sound : List Bool → Type 0
  Sound told = (x : ℕ) → slice_get told x ≡ Some true → MayPause m s x

  by_call : (told : List Bool) (sound : Sound told) (x : ℕ) (o : Option Func) → defined_at m x ≡ o → list_any (has_number m s told) (calls_found o) ≡ true → MayPause m s x
  by_call told sound x None is e = cc
  by_call told sound x (Some f) is e =
      let w = any_at (has_number m s told) (calls_in f) e in by_callee w.0 w.1 w.2 w.3
    where
      by_callee : (place : ℕ) (c : Callee) → slice_get (calls_in f) place ≡ Some c → has_number m s told c ≡ true → MayPause m s x
      by_callee place (direct y) at h = elim (either_true (is_told (slice_get (Listed m s) y)) (is_told (slice_get told y)) h) [
        | inl g ↦ by_listed x f place y is at (some_true (slice_get (Listed m s) y) g)
        | inr g ↦ by_member x f place y is at (sound y (some_true (slice_get told y) g))
      ]
      by_callee place (indirect sort) at h = by_table x f place sort is at (not_false s.ignore_indirect h)

  turn_sound : (told : List Bool) → Sound told → (x : ℕ) → turn told x ≡ true → MayPause m s x
  turn_sound told sound x e = elim (either_true (is_told (slice_get told x)) (list_any (has_number m s told) (calls_found (defined_at m x))) e) [
    | inl h ↦ sound x (some_true (slice_get told x) h)
    | inr h ↦ by_call told sound x (defined_at m x) refl h
  ]

  within : (told : List Bool) (x : ℕ) → length told ≡ count → slice_get told x ≡ Some true → x < count
  within told x e h = let w = slice_get_within told x true h in omega (arith, w, e)

  round_sound : (told : List Bool) → Sound told → Sound (round told)
  round_sound told sound x h =
      let lt = within (round told) x (told_length (turn told) 0 count) h in
      let at = told_at (turn told) 0 count x lt in
      let z : 0 + x ≡ x = omega arith in
      let is : turn told x ≡ true = let k : Some (turn told (0 + x)) ≡ Some true = sym at ∙ h in ap (turn told) (sym z) ∙ cc in
      turn_sound told sound x is

  round_grows : (told : List Bool) → length told ≡ count → Grows told (round told)
  round_grows told e =
      subst (λ n. Grows told (told_from (turn told) 0 n)) e
      (told_grows (turn told) 0 told
      (λ i h. let z : i ≡ 0 + i = omega arith in ap (turn told) (sym z) ∙ or_left (is_told (slice_get told i)) (list_any (has_number m s told) (calls_found (defined_at m i))) (ap is_told h)))

  -- a sound list that a round doesn't change
  record Settled : Type 0 where
    told : List Bool
    len : length told ≡ count
    sound : Sound told
    stays : round told ≡ told

  settle : (fuel : ℕ) (told : List Bool) → untold told ≤ fuel → length told ≡ count → Sound told → Settled
  settle zero told le e sound =
      let few = grown_fewer told (round told) (round_grows told e) in
      record { told = told; len = e; sound = sound; stays = sym (grown_same told (round told) (round_grows told e) (omega (arith, le))) }
  settle (suc fuel) told le e sound = by_change (λ few. settle fuel (round told) few (told_length (turn told) 0 count) (round_sound told sound)) (cases_lt (untold (round told)) (untold told))
    where
      by_change : (untold (round told) ≤ fuel → Settled) → (untold (round told) < untold told) ⊎ (untold told ≤ untold (round told)) → Settled
      by_change next (inl lt) = next (omega (arith, lt, le))
      by_change next (inr ge) = record { told = told; len = e; sound = sound; stays = sym (grown_same told (round told) (round_grows told e) ge) }

  -- a defined function has an index of the list
  defined_within : (x : ℕ) (f : Func) → defined_at m x ≡ Some f → x < count
  defined_within x f e = by_import (nat_lt x (func_imports m)) e
    where
      sizes : count ≡ func_imports m + length m.funcs
      sizes = let a = length-append (imported imported_func m) (map (λ (g : Func). g.sort) m.funcs) in let b = length-map m.funcs (λ (g : Func). g.sort) in omega (arith, a, b)

      by_import : (b : Bool) → (if b then None else slice_get m.funcs (x - func_imports m)) ≡ Some f → x < count
      by_import true h = cc
      by_import false h = let w = slice_get_within m.funcs (x - func_imports m) f h in omega (arith, w, sizes)

  settled_closed : (t : Settled) → IsClosed m s (λ x. is_told (slice_get t.told x) ≡ true)
  settled_closed t = record {
    calls_listed = λ x f place i is at listed. joins x f place (direct i) is at (or_left (is_told (slice_get (Listed m s) i)) (is_told (slice_get t.told i)) (ap is_told listed));
    calls_indirectly = λ x f place sort is at counted. joins x f place (indirect sort) is at (ap not counted);
    calls_member = λ x f place y is at told. joins x f place (direct y) is at (or_right (is_told (slice_get (Listed m s) y)) (is_told (slice_get t.told y)) told);
  }
    where
      joins : (x : ℕ) (f : Func) (place : ℕ) (c : Callee) → defined_at m x ≡ Some f → slice_get (calls_in f) place ≡ Some c → has_number m s t.told c ≡ true → is_told (slice_get t.told x) ≡ true
      joins x f place c is at h =
          let any : list_any (has_number m s t.told) (calls_found (defined_at m x)) ≡ true =
          ap (λ o. list_any (has_number m s t.told) (calls_found o)) is ∙ at_any (has_number m s t.told) (calls_in f) place c at h in
          let turned : turn t.told x ≡ true = or_right (is_told (slice_get t.told x)) (list_any (has_number m s t.told) (calls_found (defined_at m x))) any in
          let z : 0 + x ≡ x = omega arith in
          let there = told_at (turn t.told) 0 count x (defined_within x f is) in
          ap (λ ts. is_told (slice_get ts x)) (sym t.stays) ∙ ap is_told there ∙ ap (turn t.told) z ∙ turned

  none_told : Sound (told_from (λ x. false) 0 count)
  none_told x h =
      let lt = within (told_from (λ x. false) 0 count) x (told_length (λ x. false) 0 count) h in
      let bad : Some false ≡ Some true = sym (told_at (λ x. false) 0 count x lt) ∙ h in cc

  tells : (t : Settled) → TellsMayPause m s t.told
  tells t = record {
    len = t.len;
    each = λ x. (t.sound x, λ may. some_true (slice_get t.told x) (is_least m s (λ y. is_told (slice_get t.told y)) (settled_closed t) x may));
  }

pub some_list : SomeListTells
some_list m s =
    let first : List Bool = told_from (λ x. false) 0 (length (func_sorts m)) in
    let t = settle m s (untold first) first (omega arith) (told_length (λ x. false) 0 (length (func_sorts m))) (none_told m s) in
    (t.told, tells m s t)
