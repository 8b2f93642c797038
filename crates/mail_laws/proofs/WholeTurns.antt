-- Whole turns with more behind them.
use Rattle.std.proofs.Common.{arith, ◌≡◌, ◌<◌, List, [], ◌∷◌, ◌++◌, length, Option, Some, None, Bool, true, false, if◌then◌else◌, MatchBool, refl, sym, ap}
use Rattle.std.specs.Prelude.{◌||◌}
use Rattle.wa_model.specs.Outside.{AnswerLine, Call, Event, called, answered, paused, parked, returned, ended, shown}
use Rattle.wa_model.specs.Plan.{Outcome}
use Rattle.wa_model.specs.Blocking.{Note}
use Rattle.world_model.specs.World.{Program, call_in, ends_turn, is_end, turn_of, behind_turn}
use Rattle.mail_laws.specs.Mailboxes.{Midst, CallsMeet, NoteMeets}
use Rattle.mail_laws.specs.MailWorld.{is_pause, parks, pauses, store_behind}
use Rattle.mail_laws.specs.Told.{EndsOnce, ends_program, if_going}

pub turn_whole : (xs rest : List Note) → EndsOnce xs → turn_of (xs ++ rest) ≡ xs
turn_whole [] rest h = absurd h
turn_whole (x ∷ xs) rest h = by (ends_turn x.event) h (turn_whole xs rest) where
  by : (b : Bool) → MatchBool b (xs ≡ []) (EndsOnce xs) → (EndsOnce xs → turn_of (xs ++ rest) ≡ xs) → (if b then x ∷ [] else x ∷ turn_of (xs ++ rest)) ≡ x ∷ xs
  by true e on = ap (λ (l : List Note). x ∷ l) (sym e)
  by false m on = ap (λ (l : List Note). x ∷ l) (on m)

pub behind_whole : (xs rest : List Note) → EndsOnce xs → behind_turn (xs ++ rest) ≡ rest
behind_whole [] rest h = absurd h
behind_whole (x ∷ xs) rest h = by (ends_turn x.event) h (behind_whole xs rest) where
  by : (b : Bool) → MatchBool b (xs ≡ []) (EndsOnce xs) → (EndsOnce xs → behind_turn (xs ++ rest) ≡ rest) → (if b then xs ++ rest else behind_turn (xs ++ rest)) ≡ rest
  by true e on = ap (λ (l : List Note). l ++ rest) e
  by false m on = on m

pub some_note : (xs rest : List Note) → EndsOnce xs → 0 < length (xs ++ rest)
some_note [] rest h = absurd h
some_note (x ∷ xs) rest h = omega arith

-- calls meet the same where further outcomes wait behind those that they meet
pub calls_behind : (w : Program) (xs : List Note) (os os' more : List Outcome) (lines lines' : List AnswerLine) (z z' : Midst) → CallsMeet w xs os lines z os' lines' z'
    → CallsMeet w xs (os ++ more) lines z (os' ++ more) lines' z'
calls_behind w [] os os' more lines lines' z z' h = (ap (λ (l : List Outcome). l ++ more) h.0, h.1, h.2)
calls_behind w (x ∷ xs) os os' more lines lines' z z' h = by (call_in x.event) h (λ o l d. calls_behind w xs o os' more l lines' d z') where
  by : (c : Option Call) → NoteMeets w c os lines z (λ o l d. CallsMeet w xs o l d os' lines' z')
      → ((o : List Outcome) (l : List AnswerLine) (d : Midst) → CallsMeet w xs o l d os' lines' z' → CallsMeet w xs (o ++ more) l d (os' ++ more) lines' z')
      → NoteMeets w c (os ++ more) lines z (λ o l d. CallsMeet w xs o l d (os' ++ more) lines' z')
  by None m on = on os lines z m
  by (Some call) m on = (m.0, m.1 ++ more, m.2, m.3, ap (λ (l : List Outcome). l ++ more) m.4, m.5, on m.1 m.2 m.3 m.6)

-- ---- how it ends

abbrev no_notes : List Note
no_notes = []

-- a turn that ends with a pause tells no end, and one that doesn't does
pub parks_unless : {X : Type 0} (xs : List Note) (r : Option X) → EndsOnce xs → parks xs r ≡ if_going (ends_program xs) r
parks_unless [] r h = absurd h
parks_unless (x ∷ []) r h = by_event x.event h
  where
    by_event : (e : Event) → MatchBool (ends_turn e) (no_notes ≡ []) ⊥ → (if is_pause e then r else None) ≡ if_going (is_end e || false) r
    by_event (paused t u) m = refl
    by_event (ended how) m = refl
    by_event (called c) m = absurd m
    by_event (answered c) m = absurd m
    by_event (parked u) m = absurd m
    by_event (returned i v) m = absurd m
    by_event (shown i v) m = absurd m
parks_unless (x ∷ y ∷ ys) r h = by_event x.event h (parks_unless (y ∷ ys) r)
  where
    by_event : (e : Event) → MatchBool (ends_turn e) (y ∷ ys ≡ []) (EndsOnce (y ∷ ys)) → (EndsOnce (y ∷ ys) → parks (y ∷ ys) r ≡ if_going (ends_program (y ∷ ys)) r)
        → parks (y ∷ ys) r ≡ if_going (is_end e || ends_program (y ∷ ys)) r
    by_event (paused t u) m on = let no_way : ⊥ = omega (arith, ap length m) in absurd no_way
    by_event (ended how) m on = let no_way : ⊥ = omega (arith, ap length m) in absurd no_way
    by_event (called c) m on = on m
    by_event (answered c) m on = on m
    by_event (parked u) m on = on m
    by_event (returned i v) m on = on m
    by_event (shown i v) m on = on m

-- the store behind notes is that behind the last of them
pub store_last : (xs ys : List Note) → EndsOnce ys → store_behind (xs ++ ys) ≡ store_behind ys
store_last xs [] h = absurd h
store_last [] (y ∷ ys) h = refl
store_last (x ∷ []) (y ∷ ys) h = refl
store_last (x ∷ z ∷ xs) (y ∷ ys) h = store_last (z ∷ xs) (y ∷ ys) h

-- whether they pause is told by the last of them
pub pauses_behind : (xs ys : List Note) → 0 < length ys → pauses (xs ++ ys) ≡ pauses ys
pauses_behind [] ys some = refl
pauses_behind xs [] some = let never : ⊥ = omega (arith, some) in absurd never
pauses_behind (x ∷ []) (y ∷ ys) some = refl
pauses_behind (x ∷ z ∷ xs) (y ∷ ys) some = pauses_behind (z ∷ xs) (y ∷ ys) some
