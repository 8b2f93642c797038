-- Small facts of lists, ends and due ticks.
use Rattle.std.proofs.Common.{◌≡◌, ◌<◌, ℕ, List, [], ◌∷◌, ◌++◌, length, map, Some, Bool, true, false, ◌||◌, slice_get, slice_set, refl, sym, ap, ◌∙◌, get_or}
use Rattle.std.proofs.lemmas.List.{map-set}
use Rattle.std.proofs.lemmas.Option.{slice_get-get_or}
use Rattle.wa_model.specs.Blocking.{Note}
use Rattle.world_model.specs.World.{is_end}
use Rattle.many_host.specs.Turns.{Teller, due_of, ends_program}

-- what is read at a place stands there
pub stands_at : {X : Type 0} (xs : List X) (i : ℕ) (x : X) → i < length xs → x ≡ get_or xs i x → slice_get xs i ≡ Some x
stands_at {X} xs i x within is = slice_get-get_or xs i x within ∙ ap (λ (y : X). Some y) (sym is)

pub or_false : (b : Bool) → (b || false) ≡ b
or_false true = refl
or_false false = refl

pub ends_on : (xs ys : List Note) → ends_program xs ≡ false → ends_program (xs ++ ys) ≡ ends_program ys
ends_on [] ys e = refl
ends_on (x ∷ xs) ys e = by (is_end x.event) e (ends_on xs ys) where
  by : (b : Bool) → (b || ends_program xs) ≡ false → (ends_program xs ≡ false → ends_program (xs ++ ys) ≡ ends_program ys) → (b || ends_program (xs ++ ys)) ≡ ends_program ys
  by true h on = cc
  by false h on = on h

pub dues_set : (tellers : List Teller) (i : ℕ) (t : Teller) → map due_of (slice_set tellers i t) ≡ slice_set (map due_of tellers) i (due_of t)
dues_set tellers i t = map-set due_of tellers i t
