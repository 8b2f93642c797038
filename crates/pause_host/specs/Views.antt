-- The place of the protocol's machine for which a stage stands.
use Rattle.std.specs.Prelude.{ℕ, zero, suc, Bool, true, false, if◌then◌else◌, List, [], ◌∷◌, length, map, Option, Some, None}
use Rattle.std.specs.Option.{option_to_list}
use Rattle.wa_types.specs.declared.values.Value.{Value}
use Rattle.wa_types.specs.declared.values.Value.TheVariants as V
use Rattle.wa_types.specs.declared.values.Trap.TheVariants as Trap
use Rattle.wa_model.specs.declared.answers.Area.{Area}
use Rattle.wa_model.specs.declared.answers.Answer.{Answer as AnswerValue}
use Rattle.wa_model.specs.declared.answers.AnswerLine.{AnswerLine as AnswerLineValue}
use Rattle.wa_model.specs.declared.answers.Said.{Said}
use Rattle.wa_model.specs.declared.answers.Said.TheVariants as SV
use Rattle.wa_model.specs.declared.events.End.{End}
use Rattle.wa_model.specs.declared.events.End.TheVariants as E
use Rattle.wa_model.specs.Outside.{Answer, AnswerLine, Event, answered, paused, ended}
use Rattle.wa_model.specs.View.{answer_of, answer_line_of}
use Rattle.wa_model.specs.Store.{Store}
use Rattle.wa_model.specs.Plan.{Entry}
use Rattle.wa_model.specs.Blocking as B
use Rattle.wa_model.specs.Blocking.{note, poked, resumed, the_start, an_entry, Asker, inside, outermost, done_notes, import_traps}
use Rattle.wa_model.specs.Protocol as P
use Rattle.wa_model.specs.Protocol.{Phase, is_running, unwinds, rewinds, give_zero, call_again, busy, calling, over, held_on, with_words}
use Rattle.interp.specs.Instance as I
use Rattle.interp.specs.Instance.{Waits}
use Rattle.host_laws.specs.Places.{Place, stands, has_ended, nowhere}
use Rattle.pause_host.specs.Holding.{are_inside, is_held}
use Rattle.pause_host.specs.declared.stages.Exports.{Exports}
use Rattle.pause_host.specs.declared.stages.EntryCall.{EntryCall}
use Rattle.pause_host.specs.declared.stages.Left.{Left}
use Rattle.pause_host.specs.declared.stages.Pause.{Pause}
use Rattle.pause_host.specs.declared.stages.Task.{Task}
use Rattle.pause_host.specs.declared.stages.Task.TheVariants as T
use Rattle.pause_host.specs.declared.stages.Stage.{Stage}
use Rattle.pause_host.specs.declared.stages.Stage.TheVariants.{Free, Answering, Giving, Pausing, Paused, Ending, Ended}

-- the five exports
abbrev pub exports_in : Exports → P.Exports
exports_in x = record { start_unwind = x.start_unwind; stop_unwind = x.stop_unwind; start_rewind = x.start_rewind; stop_rewind = x.stop_rewind; get_state = x.get_state }

-- an entry
abbrev pub entry_of : EntryCall → Entry
entry_of e = record { func = e.func; args = e.args.items }

-- the entries left, and the outcomes that are known: none
abbrev pub left_of : Left → B.Left
left_of l = record { number = l.number; entries = map entry_of l.entries.items; outcomes = [] }

-- the answer lines left
abbrev pub lines_in : List AnswerLineValue → List AnswerLine
lines_in answers = map answer_line_of answers

-- ---- phases of a pause

-- the phase in which a pause unwinds
abbrev pub unwinding : Pause → Phase
unwinding pause = unwinds (entry_of pause.entry) pause.import (answer_of pause.answer)

-- the phase in which it rewinds, since this store
abbrev pub rewinding : Pause → (since : Store) → Phase
rewinding pause since = rewinds (entry_of pause.entry) pause.import (answer_of pause.answer) since

-- ---- stages

-- what waits for the answer, where a task's call of an import does
abbrev pub with_asker : {A : Type 0} → A → Store → Task → Waits → (Asker → A) → A
with_asker none s T.Outermost I.outermost on = on (outermost s)
with_asker none s T.Start (I.inside here under) on = on (inside the_start (record { store = s; here = here; under = under }))
with_asker none s (T.Entry e) (I.inside here under) on = on (inside (an_entry (entry_of e)) (record { store = s; here = here; under = under }))
with_asker none s _ _ on = none

-- what is said is told next, and a value given, over the store with the pokes
abbrev pub answering : B.Left → Said → Store → Asker → Place
answering l (SV.Value v) s (inside task c) = stands (note (answered (SV.Value v)) s ∷ []) (busy (is_running task) (resumed c s (option_to_list v)) l)
answering l (SV.Value v) s (outermost old) = stands (note (answered (SV.Value v)) s ∷ done_notes s l.entries) (held_on s l l.entries)
answering l SV.Trap s w = stands (import_traps s) (over s)

-- a value is given
abbrev pub giving : B.Left → Option Value → Store → Asker → Place
giving l value s (inside task c) = stands [] (busy (is_running task) (resumed c s (option_to_list value)) l)
giving l value s (outermost old) = nowhere

-- the words are written, into an area inside the memory, and the stack is unwound
abbrev pub pausing : P.Exports → Area → B.Left → Entry → (import : ℕ) → Answer → Store → Waits → Place
pausing x area l e import a s (I.inside here under) =
    if is_held area s
    then stands [] (calling (unwinds e import a) (with_words s area) x.start_unwind (V.I32 area.at ∷ []) (give_zero (record { store = s; here = here; under = under })) l)
    else nowhere
pausing x area l e import a s _ = nowhere

-- the stack is rewound
abbrev pub paused_at : P.Exports → Area → B.Left → Entry → (import : ℕ) → Answer → Store → Place
paused_at x area l e import a s = stands [] (calling (rewinds e import a s) s x.start_rewind (V.I32 area.at ∷ []) call_again l)

-- the next entry is to be called, or all have returned
abbrev pub free_place : B.Left → Store → Place
free_place l s = stands (done_notes s l.entries) (held_on s l l.entries)

-- an answer is told next whose pokes lie inside the memory
abbrev pub answered_at : B.Left → Answer → Store → Task → Waits → Place
answered_at l a s task w = if are_inside (length s.memory) a.pokes then with_asker nowhere s task w (answering l a.said (poked s a.pokes)) else nowhere

-- the place of a stage over a store, with what waits in the instance
abbrev pub place_in : P.Exports → Area → B.Left → Store → Waits → Stage → Place
place_in x area l s w Free = free_place l s
place_in x area l s w (Answering task answer) = answered_at l (answer_of answer) s task w
place_in x area l s w (Giving task value) = with_asker nowhere s task w (giving l value s)
place_in x area l s w (Pausing pause) = pausing x area l (entry_of pause.entry) pause.import (answer_of pause.answer) s w
place_in x area l s w (Paused pause) = paused_at x area l (entry_of pause.entry) pause.import (answer_of pause.answer) s
place_in x area l s w (Ending end) = stands (note (ended end) s ∷ []) (over s)
place_in x area l s w (Ended end) = has_ended end

-- the end that was told
abbrev pub end_of : Stage → Option End
end_of (Ended end) = Some end
end_of _ = None

-- ---- pauses

-- a pause was told, and nothing since
abbrev pub is_paused : Stage → Bool
is_paused (Paused pause) = true
is_paused _ = false

-- a stage from which no new call comes before a pause was told and answered: it pauses, is paused, or has come to its end
abbrev pub is_stopping : Stage → Bool
is_stopping (Pausing pause) = true
is_stopping (Paused pause) = true
is_stopping (Ending end) = true
is_stopping (Ended end) = true
is_stopping _ = false

-- an event tells a pause
abbrev pub is_pause : Event → Bool
is_pause (paused ticks used) = true
is_pause _ = false

-- ---- the stage behind an answer that was told

-- the stage once the answer was told: a trap ends the program; an import that is the start function waits for nothing
abbrev pub stage_told : Task → Said → Stage
stage_told task SV.Trap = Ending (E.Trapped Trap.Import)
stage_told T.Outermost (SV.Value v) = Free
stage_told T.Start (SV.Value v) = Giving T.Start v
stage_told (T.Entry e) (SV.Value v) = Giving (T.Entry e) v

-- ---- the stage behind a call

-- the call is inside the start function, or is it
abbrev pub starts : Task → Bool
starts (T.Entry e) = false
starts _ = true

-- a stage inside the start function
abbrev pub is_starting : Stage → Bool
is_starting (Answering task answer) = starts task
is_starting (Giving T.Start value) = true
is_starting (Ending end) = true
is_starting _ = false

-- the stage behind an answer that passes its tests, by its ticks
abbrev pub stage_passed : (ticks : ℕ) → Task → (import : ℕ) → AnswerValue → Stage
stage_passed zero task import a = Answering task a
stage_passed (suc ticks) (T.Entry e) import a = Pausing (record { entry = e; import = import; answer = a })
stage_passed (suc ticks) _ import a = Ending (E.PauseInStart import)

-- by the first test that an answer fails, and by its ticks
abbrev pub stage_after : Option End → (ticks : ℕ) → Task → (import : ℕ) → AnswerValue → Stage
stage_after (Some end) ticks task import a = Ending end
stage_after None ticks task import a = stage_passed ticks task import a
