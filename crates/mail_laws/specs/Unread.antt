-- What an import was answered isn't read before the answer is given.
use Rattle.std.specs.Prelude.{◌≡◌, ℕ, suc, ◌++◌, List, [], ◌∷◌, length, Some, true}
use Rattle.wa_types.specs.declared.values.Value.TheVariants as V
use Rattle.wa_model.specs.declared.answers.Said.TheVariants as S
use Rattle.wa_model.specs.Plan.{Outcome}
use Rattle.wa_model.specs.Blocking.{Note}
use Rattle.wa_model.specs.Protocol.{Held, Phase, aside, busy, calling, entering, free, is_running, over, rewinds, starting, unwinds}
use Rattle.world_model.specs.World.{Program}
use Rattle.world_laws.specs.Originals.{new_calls}
use Rattle.host_laws.specs.Stories.{Made}
use Rattle.mail_laws.specs.Mailboxes.{mailed}
use Rattle.mail_laws.specs.MailWorld.{pauses}

-- a phase of a pause, with this value in the answer
abbrev pub phase_with : ℕ → Phase → Phase
phase_with v (is_running task) = is_running task
phase_with v (unwinds e i a) = unwinds e i (record { said = S.Value (Some (V.I32 v)); pokes = []; ticks = 1 })
phase_with v (rewinds e i a s) = rewinds e i (record { said = S.Value (Some (V.I32 v)); pokes = []; ticks = 1 }) s

-- where a run stands, with this value in the answer of its pause
abbrev pub with_value : ℕ → Held → Held
with_value v (busy ph c l) = busy (phase_with v ph) c l
with_value v (calling ph s f args th l) = calling (phase_with v ph) s f args th l
with_value v (aside ph c th l) = aside (phase_with v ph) c th l
with_value v (entering ph e s l) = entering (phase_with v ph) e s l
with_value v (free s l) = free s l
with_value v (starting f s l) = starting f s l
with_value v (over s) = over s

-- Behind the pause of a receive, where nothing was made since, a run stands for every value.
abbrev pub UnreadAnswers : Type 0
UnreadAnswers =
    (w : Program) (notes : List Note) (os : List Outcome) (u v left : ℕ) (h : Held) → pauses notes ≡ true → new_calls notes ≡ suc (length os)
    → Made w notes [] (os ++ mailed (Some (V.I32 u)) 1 ∷ []) left h → Made w notes [] (os ++ mailed (Some (V.I32 v)) 1 ∷ []) left (with_value v h)
