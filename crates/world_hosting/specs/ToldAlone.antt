-- A program whose imports are bound to no device, among others and alone.
use Rattle.std.specs.Prelude.{◌≡◌, ℕ, List, [], ◌∷◌, Some, slice_get}
use Rattle.wa_model.specs.declared.answers.Detach.{Detach}
use Rattle.wa_model.specs.Outside.{Line}
use Rattle.script_model.specs.Transcript.{Transcript}
use Rattle.world_model.specs.World.{ProtocolWorld}
use Rattle.event_order.specs.Left.{Counted}
use Rattle.world_laws.specs.AloneLines.{Unbound, own_lines}
use Rattle.world_hosting.specs.Worlds.{AreTold, Part, part_names, turn_count, world_program}

-- the transcript of a program that has these lines alone
abbrev pub alone_text : Part → List Line → List ℕ
alone_text x lines = Transcript (part_names x ∷ []) 1 (turn_count lines) lines

-- The own lines of a program without bound imports, which is told among others, are those of its world alone; and where it is told
-- alone, nothing else is.
abbrev pub AloneText : Type 0
AloneText =
    (parts : List Part) (detaches : List Detach) (old new : List Counted) (text : List ℕ) (told : AreTold parts detaches old new text) (i : ℕ) (x : Part)
    → slice_get parts i ≡ Some x → Unbound (world_program x)
    → ProtocolWorld (world_program x ∷ []) [] [] (own_lines i told.lines) []
    × ((last : List Counted) (alone : List ℕ) → AreTold (x ∷ []) [] [] last alone → alone ≡ alone_text x (own_lines i told.lines))

-- One without `device` lines is such a program.
abbrev pub UnboundWithoutLines : Type 0
UnboundWithoutLines = (x : Part) → x.text.binds ≡ [] → Unbound (world_program x)
