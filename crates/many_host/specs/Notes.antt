-- A world as it is told, note by note: so many whole turns, and the beginning of the next.
use Rattle.std.specs.Prelude.{◌≡◌, ℕ, suc, List, [], ◌∷◌, ◌++◌, map, Some, false, MatchBool, slice_get, slice_set}
use Rattle.wa_model.specs.declared.answers.Detach.{Detach}
use Rattle.wa_model.specs.Outside.{AnswerLine, Line}
use Rattle.wa_model.specs.Plan.{Outcome}
use Rattle.wa_model.specs.Blocking.{Note, events_of}
use Rattle.wa_model.specs.Behaves.{IsPrefix}
use Rattle.world_model.specs.World.{Device, Program, detached, CallsMeet, ends_turn, line_at, protocol_story}
use Rattle.event_order.specs.Dues.{IsLeast}
use Rattle.many_host.specs.Turns.{Teller, due_of, ends_program, having_told, behind, is_gone, TellsFrom}

-- none of these notes ends a turn
abbrev pub GoesOn : List Note → Type 0
GoesOn [] = Unit {0}
GoesOn (x ∷ xs) = (ends_turn x.event ≡ false) × GoesOn xs

-- Behind so many whole turns the program of this place, which was due at this tick, tells the next: it has told notes of it, and none
-- that ends it. The detaches with the turn's number came before. (Other events had begun before all of these.)
pub record TellsOnFrom (begun : ℕ) (programs : List Program) (detaches : List Detach) (ds : List Device) (number i due : ℕ) (lines : List Line) (tellers : List Teller) (ds' : List Device) : Type 0 where
  pub before : List Line
  pub mid : List Teller
  pub es : List Device
  pub whole : TellsFrom begun programs detaches ds number before mid es
  pub w : Program
  pub t : Teller
  pub program : slice_get programs i ≡ Some w
  pub there : slice_get mid i ≡ Some t
  pub unfinished : t.has_ended ≡ false
  pub due_is : t.due ≡ due
  pub next : IsLeast (map due_of mid) i due
  pub turn : List Note
  pub goes_on : GoesOn turn
  pub met : List Outcome
  pub answers : List AnswerLine
  pub calls : CallsMeet w turn met t.answers (detached (suc (behind begun number)) detaches es) [] answers ds'
  pub made : lines ≡ before ++ map (line_at due i) (events_of turn)
  pub after : tellers ≡ slice_set mid i (having_told t turn met answers)

-- from the first event on
abbrev pub TellsOn : List Program → List Detach → List Device → (number i due : ℕ) → List Line → List Teller → List Device → Type 0
TellsOn = TellsOnFrom 0

-- What a program has told begins its story, whatever later calls meet; it is the whole one exactly where its end was told, or nothing is to
-- come of it.
pub record OnStory (w : Program) (t : Teller) : Type 0 where
  pub begins : (more : List Outcome) → IsPrefix t.told (protocol_story w (t.met ++ more))
  pub whole : MatchBool t.has_ended (t.told ≡ protocol_story w t.met) (ends_program t.told ≡ false)
  pub live : t.has_ended ≡ false → is_gone w ≡ false
