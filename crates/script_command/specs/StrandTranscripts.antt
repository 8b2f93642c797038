-- What is printed of programs with strands: the line of each event, and the last line.
use Rattle.std.specs.Prelude.{ℕ, List, [], ◌∷◌, ◌++◌, slice_get}
use Rattle.std.specs.Option.{unwrap_or}
use Rattle.wa_model.specs.Outside.{Line}
use Rattle.script_model.specs.Transcript.{Names, last_line, names_at}
use Rattle.transcript.specs.StrandLines.{strand_event_line}
use Rattle.strand_laws.specs.StrandWorld.{StrandLine}

-- the line of a strand's event, as one of its program
abbrev pub program_line : StrandLine → Line
program_line l = record { tick = l.tick; program = l.program; event = l.event }

-- the names of a program's strand, where each program has those of its strands
abbrev pub strand_names_at : List (List Names) → (program strand : ℕ) → Names
strand_names_at names p k = names_at (unwrap_or (slice_get names p) []) k

-- the line of a strand's event, by the names of its strand
abbrev pub named_strand_line : List (List Names) → StrandLine → List ℕ
named_strand_line names l = strand_event_line (strand_names_at names l.program l.strand) (program_line l) l.strand

-- the lines of strands' events, one behind another
abbrev pub strand_event_lines : List (List Names) → List StrandLine → List ℕ
strand_event_lines names [] = []
strand_event_lines names (l ∷ ls) = named_strand_line names l ++ strand_event_lines names ls

-- The transcript of the lines of so many programs with strands, which made so many events.
abbrev pub StrandTranscript : List (List Names) → (programs events : ℕ) → List StrandLine → List ℕ
StrandTranscript names programs events ls = strand_event_lines names ls ++ last_line programs events
