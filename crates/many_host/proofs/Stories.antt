-- Of a story of which only the beginning was told, that the rest comes to an end.
use Rattle.std.proofs.Common.{◌≡◌, ◌⊎◌, inl, inr, List, [], ◌∷◌, ◌++◌, length, Bool, true, false, ◌||◌, refl, sym, ◌∙◌, subst}
use Rattle.wa_model.specs.Outside.{AnswerLine}
use Rattle.wa_model.specs.Plan.{Outcome}
use Rattle.wa_model.specs.Blocking.{Note}
use Rattle.world_model.specs.World.{Device, Program, is_end, protocol_story}
use Rattle.world_laws.specs.Originals.{new_calls}
use Rattle.world_laws.proofs.Counting.{Ends}
use Rattle.world_laws.proofs.Rests.{Further, further_counts}
use Rattle.world_laws.proofs.StoryParts.{story_ends}
use Rattle.many_host.specs.Turns.{ends_program, is_gone}
use Rattle.many_host.proofs.Origins.{some_story}

or_right : (a b : Bool) → (a || b) ≡ false → b ≡ false
or_right true b e = cc
or_right false b e = e

or_left : (a b : Bool) → (a || b) ≡ false → a ≡ false
or_left true b e = cc
or_left false b e = refl

-- the end of a story lies behind what has none
pub ends_tail : (done full : List Note) → ends_program done ≡ false → Ends (done ++ full) → Ends full
ends_tail [] full e h = h
ends_tail (x ∷ []) [] e h = let bad : true ≡ false = sym h ∙ or_left (is_end x.event) false e in cc
ends_tail (x ∷ []) (y ∷ ys) e h = h.1
ends_tail (x ∷ z ∷ xs) full e h = ends_tail (z ∷ xs) full (or_right (is_end x.event) (ends_program (z ∷ xs)) e) h.1

-- so it does where a program has begun and told no end
pub rest_ends : (w : Program) (pre : List Outcome) (done : List Note) (answers : List AnswerLine) (ds : List Device) → new_calls done ≡ length pre → ends_program done ≡ false → is_gone w ≡ false
    → (f : Further w pre done answers ds) → Ends f.full
rest_ends w pre done answers ds count live some f = ends_tail done f.full live (subst Ends f.story (by (story_ends w (pre ++ f.outcomes) (further_counts w pre done answers ds count f))))
  where
    by : (protocol_story w (pre ++ f.outcomes) ≡ []) ⊎ Ends (protocol_story w (pre ++ f.outcomes)) → Ends (protocol_story w (pre ++ f.outcomes))
    by (inl none) = absurd (some_story w some (pre ++ f.outcomes) none)
    by (inr h) = h
