-- A program whose imports are bound to no device and to no mailbox, among others with mailboxes and alone without them.
use Rattle.std.specs.Prelude.{◌≡◌, ℕ, List, [], ◌∷◌, Some, slice_get}
use Rattle.wa_model.specs.declared.answers.Detach.{Detach}
use Rattle.wa_model.specs.Outside.{Line}
use Rattle.world_model.specs.World.{BlockingWorld as UnboxedBlocking, Device, Original, Program, ProtocolWorldFrom as UnboxedWorldFrom}
use Rattle.world_laws.specs.AloneLines.{Unbound, own_lines}
use Rattle.mail_laws.specs.MailWorld.{BlockingWorld, ProtocolWorldFrom}

-- Such a program has the lines that it would have alone, in a world without mailboxes, whatever the others, the devices and the mailboxes do:
-- under the protocol,
abbrev pub OwnLinesAlone : Type 0
OwnLinesAlone =
    (begun : ℕ) (programs : List Program) (detaches : List Detach) (boxes : List (List ℕ)) (ds ds' : List Device) (lines : List Line) (i : ℕ) (w : Program)
    → slice_get programs i ≡ Some w → Unbound w → ProtocolWorldFrom begun programs detaches boxes ds lines ds' → UnboxedWorldFrom begun (w ∷ []) [] [] (own_lines i lines) []

-- and with blocking imports.
abbrev pub OwnLinesBlocking : Type 0
OwnLinesBlocking =
    (originals : List Original) (detaches : List Detach) (boxes : List (List ℕ)) (ds ds' : List Device) (lines : List Line) (i : ℕ) (o : Original)
    → slice_get originals i ≡ Some o → Unbound o.program → BlockingWorld originals detaches boxes ds lines ds' → UnboxedBlocking (o ∷ []) [] [] (own_lines i lines) []
