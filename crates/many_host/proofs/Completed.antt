-- A turn that has begun, told to its end.
use Rattle.std.proofs.Common.{arith, ◌≡◌, List, [], ◌∷◌, ◌++◌, Bool, true, false, ◌||◌, if◌then◌else◌, refl, sym, ap, ◌∙◌, subst}
use Rattle.std.specs.Prelude.{MatchBool}
use Rattle.wa_model.specs.Outside.{Event}
use Rattle.wa_model.specs.Blocking.{Note, events_of}
use Rattle.world_model.specs.World.{Look, behind_turn, ends_turn, events_with_looks, is_end, turn_of}
use Rattle.world_laws.proofs.Counting.{Ends}
use Rattle.world_laws.proofs.Turns.{end_turn}
use Rattle.many_host.specs.Turns.{EndsOnce, IsRest, ends_program}
use Rattle.many_host.specs.Notes.{GoesOn}
use Rattle.many_host.proofs.Notes.{no_end, no_looks}

-- ---- notes of a turn, and others behind them

pub once_behind : (xs ys : List Note) → GoesOn xs → EndsOnce ys → EndsOnce (xs ++ ys)
once_behind [] ys g h = h
once_behind (x ∷ xs) ys g h = subst (λ (b : Bool). MatchBool b (xs ++ ys ≡ []) (EndsOnce (xs ++ ys))) (sym g.0) (once_behind xs ys g.1 h)

pub ends_behind : (xs ys : List Note) → GoesOn xs → ends_program (xs ++ ys) ≡ ends_program ys
ends_behind [] ys g = refl
ends_behind (x ∷ xs) ys g = ap (λ (b : Bool). b || ends_program (xs ++ ys)) (no_end x.event g.0) ∙ ends_behind xs ys g.1

pub looks_behind : (looks : List Look) (xs ys : List Note) → GoesOn xs → events_with_looks looks (xs ++ ys) ≡ events_of xs ++ events_with_looks looks ys
looks_behind looks [] ys g = refl
looks_behind looks (x ∷ xs) ys g =
    ap (λ (l : List Event). (x.event ∷ l) ++ events_with_looks looks (xs ++ ys)) (no_looks looks x x.event g.0) ∙ ap (λ (l : List Event). x.event ∷ l) (looks_behind looks xs ys g.1)

-- ---- the first turn of notes that come to an end

abbrev none : List Note
none = []

none_more : (b : Bool) → b ≡ true → MatchBool b (none ≡ none) ⊥
none_more true e = refl
none_more false e = cc

first_once : (x : Note) (ts : List Note) (b : Bool) → ends_turn x.event ≡ b → (b ≡ false → EndsOnce ts) → EndsOnce (if b then x ∷ [] else x ∷ ts)
first_once x ts true e f = none_more (ends_turn x.event) e
first_once x ts false e f = subst (λ (b : Bool). MatchBool b (ts ≡ []) (EndsOnce ts)) (sym e) (f refl)

pub turn_once : (xs : List Note) → Ends xs → EndsOnce (turn_of xs)
turn_once [] h = absurd h
turn_once (x ∷ []) h = first_once x [] (ends_turn x.event) refl (λ no. let bad : true ≡ false = sym (end_turn x.event h) ∙ no in cc)
turn_once (x ∷ y ∷ ys) h = first_once x (turn_of (y ∷ ys)) (ends_turn x.event) refl (λ no. turn_once (y ∷ ys) h.1)

pub turn_rest : (xs : List Note) → Ends xs → IsRest (ends_program (turn_of xs)) (behind_turn xs)
turn_rest [] h = absurd h
turn_rest (x ∷ []) h = by (ends_turn x.event) (end_turn x.event h) where
  ends : (b : Bool) → b ≡ true → IsRest (b || false) []
  ends true e = refl
  ends false e = cc

  by : (b : Bool) → b ≡ true → IsRest (ends_program (if b then x ∷ [] else x ∷ [])) (if b then [] else [])
  by true e = ends (is_end x.event) h
  by false e = cc
turn_rest (x ∷ y ∷ ys) h = by (ends_turn x.event) (turn_rest (y ∷ ys) h.1) where
  going : (b c : Bool) (rest : List Note) → b ≡ false → IsRest c rest → IsRest (b || c) rest
  going true c rest e r = cc
  going false c rest e r = r

  by : (b : Bool) → IsRest (ends_program (turn_of (y ∷ ys))) (behind_turn (y ∷ ys)) → IsRest (ends_program (if b then x ∷ [] else x ∷ turn_of (y ∷ ys))) (if b then y ∷ ys else behind_turn (y ∷ ys))
  by true on = going (is_end x.event) false (y ∷ ys) h.0 (omega arith)
  by false on = going (is_end x.event) (ends_program (turn_of (y ∷ ys))) (behind_turn (y ∷ ys)) h.0 on
