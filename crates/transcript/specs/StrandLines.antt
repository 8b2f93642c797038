-- Printed lines of strands.
use Rattle.std.specs.Prelude.{ℕ, nat_eq, List, [], ◌++◌, codes, if◌then◌else◌}
use Rattle.std.specs.Fmt.{decimal}
use Rattle.wa_model.specs.Outside.{Line}
use Rattle.script_model.specs.Transcript.{Names, event_text, line_end}

-- the number of a strand behind its program's: the first has none
abbrev pub strand_number : ℕ → List ℕ
strand_number k = if nat_eq k 0 then [] else codes "." ++ decimal k

-- the line of an event of a program's strand: the tick, the numbers of both, and what is said of the event
unfoldable pub strand_event_line : Names → Line → (strand : ℕ) → List ℕ
strand_event_line names l k = decimal l.tick ++ (codes " " ++ decimal l.program ++ strand_number k ++ codes " ") ++ event_text names l.tick l.event ++ line_end
