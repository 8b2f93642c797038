-- What the values of the program are, as plain data: the vectors' memory is left out.
use Rattle.std.specs.Prelude.{map}
use Rattle.std.specs.Option.{option_map}
use Rattle.wa_model.specs.declared.answers.Poke.{Poke as PokeValue}
use Rattle.wa_model.specs.declared.answers.Answer.{Answer as AnswerValue}
use Rattle.wa_model.specs.declared.answers.AnswerLine.{AnswerLine as AnswerLineValue}
use Rattle.wa_model.specs.declared.events.Call.{Call as CallValue}
use Rattle.wa_model.specs.declared.events.Event.{Event as EventValue}
use Rattle.wa_model.specs.declared.events.Event.TheVariants.{Called, Answered, Paused, Parked, Returned, Ended, Shown}
use Rattle.wa_model.specs.declared.events.Line.{Line as LineValue}
use Rattle.wa_model.specs.Outside.{Poke, Answer, Call, AnswerLine, Event, called, answered, paused, parked, returned, ended, shown, Line}

-- a poke
abbrev pub poke_of : PokeValue → Poke
poke_of p = record { at = p.at; bytes = p.bytes.items }

-- an answer
abbrev pub answer_of : AnswerValue → Answer
answer_of a = record { said = a.said; pokes = map poke_of a.pokes.items; ticks = a.ticks }

-- a call of an import
abbrev pub call_of : CallValue → Call
call_of c = record { import = c.import; args = c.args.items }

-- an answer for an import
abbrev pub answer_line_of : AnswerLineValue → AnswerLine
answer_line_of l = record { import = l.import; answer = answer_of l.answer }

-- an event
abbrev pub event_of : EventValue → Event
event_of (Called c) = called (call_of c)
event_of (Answered said) = answered said
event_of (Paused ticks used) = paused ticks used
event_of (Parked used) = parked used
event_of (Returned entry v) = returned entry v
event_of (Ended e) = ended e
event_of (Shown at bytes) = shown at (option_map (λ b. b.items) bytes)

-- an event of a program, and its tick
abbrev pub line_of : LineValue → Line
line_of l = record { tick = l.tick; program = l.program; event = event_of l.event }
