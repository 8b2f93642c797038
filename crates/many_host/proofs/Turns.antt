-- Whole turns with more behind them.
use Rattle.std.proofs.Common.{arith, ◌≡◌, ◌<◌, List, [], ◌∷◌, ◌++◌, length, Option, Some, None, Bool, true, false, if◌then◌else◌, MatchBool, sym, ap}
use Rattle.wa_model.specs.Outside.{AnswerLine, Call}
use Rattle.wa_model.specs.Plan.{Outcome}
use Rattle.wa_model.specs.Blocking.{Note}
use Rattle.world_model.specs.World.{Device, Program, CallsMeet, NoteMeets, call_in, ends_turn, turn_of, behind_turn}
use Rattle.many_host.specs.Turns.{EndsOnce}

pub turn_whole : (xs rest : List Note) → EndsOnce xs → turn_of (xs ++ rest) ≡ xs
turn_whole [] rest h = absurd h
turn_whole (x ∷ xs) rest h = by (ends_turn x.event) h (turn_whole xs rest) where
  by : (b : Bool) → MatchBool b (xs ≡ []) (EndsOnce xs) → (EndsOnce xs → turn_of (xs ++ rest) ≡ xs) → (if b then x ∷ [] else x ∷ turn_of (xs ++ rest)) ≡ x ∷ xs
  by true e on = ap (λ (l : List Note). x ∷ l) (sym e)
  by false m on = ap (λ (l : List Note). x ∷ l) (on m)

pub behind_whole : (xs rest : List Note) → EndsOnce xs → behind_turn (xs ++ rest) ≡ rest
behind_whole [] rest h = absurd h
behind_whole (x ∷ xs) rest h = by (ends_turn x.event) h (behind_whole xs rest) where
  by : (b : Bool) → MatchBool b (xs ≡ []) (EndsOnce xs) → (EndsOnce xs → behind_turn (xs ++ rest) ≡ rest) → (if b then xs ++ rest else behind_turn (xs ++ rest)) ≡ rest
  by true e on = ap (λ (l : List Note). l ++ rest) e
  by false m on = on m

pub some_note : (xs rest : List Note) → EndsOnce xs → 0 < length (xs ++ rest)
some_note [] rest h = absurd h
some_note (x ∷ xs) rest h = omega arith

-- calls meet the same where further outcomes wait behind those that they meet
pub calls_behind : (w : Program) (xs : List Note) (os os' more : List Outcome) (lines lines' : List AnswerLine) (ds ds' : List Device) → CallsMeet w xs os lines ds os' lines' ds'
    → CallsMeet w xs (os ++ more) lines ds (os' ++ more) lines' ds'
calls_behind w [] os os' more lines lines' ds ds' h = (ap (λ (l : List Outcome). l ++ more) h.0, h.1, h.2)
calls_behind w (x ∷ xs) os os' more lines lines' ds ds' h = by (call_in x.event) h (λ o l d. calls_behind w xs o os' more l lines' d ds') where
  by : (c : Option Call) → NoteMeets w c os lines ds (λ o l d. CallsMeet w xs o l d os' lines' ds')
      → ((o : List Outcome) (l : List AnswerLine) (d : List Device) → CallsMeet w xs o l d os' lines' ds' → CallsMeet w xs (o ++ more) l d (os' ++ more) lines' ds')
      → NoteMeets w c (os ++ more) lines ds (λ o l d. CallsMeet w xs o l d (os' ++ more) lines' ds')
  by None m on = on os lines ds m
  by (Some call) m on = (m.0, m.1 ++ more, m.2, m.3, ap (λ (l : List Outcome). l ++ more) m.4, m.5, on m.1 m.2 m.3 m.6)
