-- What a program is given and what it does, as plain data: whatever memory the vectors have.
use Rattle.std.specs.Prelude.{ℕ, List, Option}
use Rattle.wa_types.specs.declared.values.Value.{Value}
use Rattle.wa_model.specs.declared.answers.Said.{Said}
use Rattle.wa_model.specs.declared.events.End.{End}

-- Bytes that an answer puts into the memory from a place on.
pub record Poke : Type 0 where
  pub at : ℕ
  pub bytes : List ℕ

-- What an import's call is answered.
pub record Answer : Type 0 where
  pub said : Said
  pub pokes : List Poke
  pub ticks : ℕ

-- A call of a function import.
pub record Call : Type 0 where
  pub import : ℕ
  pub args : List Value

-- An answer for the import of a joined name.
pub record AnswerLine : Type 0 where
  pub import : List ℕ
  pub answer : Answer

-- What a program does that can be seen from outside.
pub data Event : Type 0 where
  called : (call : Call) → Event
  answered : (said : Said) → Event
  paused : (ticks used : ℕ) → Event
  parked : (used : ℕ) → Event
  returned : (entry : ℕ) → (value : Option Value) → Event
  ended : (how : End) → Event
  shown : (at : ℕ) → (bytes : Option (List ℕ)) → Event

-- An event of a program, and the tick at which it began.
pub record Line : Type 0 where
  pub tick : ℕ
  pub program : ℕ
  pub event : Event
