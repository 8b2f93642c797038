-- What a world's devices keep of it fixes its lines, with mailboxes too.
use Rattle.std.specs.Prelude.{◌≡◌, ℕ, List, Option, Some, None, false, All, slice_get}
use Rattle.std.specs.List.{list_any}
use Rattle.std.specs.Option.{unwrap_or}
use Rattle.wa_types.specs.Validity.{same_name}
use Rattle.wa_types.specs.declared.values.Value.{Value}
use Rattle.wa_model.specs.declared.answers.Detach.{Detach}
use Rattle.wa_model.specs.declared.events.End.{End}
use Rattle.wa_model.specs.declared.events.End.TheVariants.{BadAnswer}
use Rattle.wa_model.specs.Outside.{Event, Line, ended}
use Rattle.world_model.specs.World.{Device, Program}
use Rattle.world_laws.specs.AloneLines.{Unbound}
use Rattle.world_laws.specs.Replays.{SameFaults}
use Rattle.mail_laws.specs.MailWorld.{ProtocolWorldFrom}

-- the value of a wrong type that an end tells
abbrev pub wrong_value : End → Option (Option Value)
wrong_value (BadAnswer import value) = Some value
wrong_value _ = None

-- the same of an event
abbrev pub wrong_in : Event → Option (Option Value)
wrong_in (ended how) = wrong_value how
wrong_in _ = None

-- as far as both go, lines of one place tell one value of a wrong type, or neither tells any
abbrev pub SameWrongs : (lines1 lines2 : List Line) → Type 0
SameWrongs lines1 lines2 = (i : ℕ) (x y : Line) → slice_get lines1 i ≡ Some x → slice_get lines2 i ≡ Some y → wrong_in x.event ≡ wrong_in y.event

-- a name that no mailbox has
abbrev pub IsNoBox : (name : List ℕ) → (boxes : List (List ℕ)) → Type 0
IsNoBox name boxes = list_any (λ (box : List ℕ). same_name box name) boxes ≡ false

-- Some import of these programs is bound to a name that no mailbox has: if to anything, to a device.
pub record AsksDevice (programs : List Program) (boxes : List (List ℕ)) : Type 0 where
  pub i : ℕ
  pub w : Program
  pub import : ℕ
  pub name : List ℕ
  pub program : slice_get programs i ≡ Some w
  pub bound : unwrap_or (slice_get w.binds import) None ≡ Some name
  pub no_box : IsNoBox name boxes

-- no line takes out a device of such a name
abbrev pub LastingDevices : List Program → List Detach → (boxes : List (List ℕ)) → Type 0
LastingDevices programs detaches boxes = (asks : AsksDevice programs boxes) → All (λ (x : Detach). same_name x.device asks.name ≡ false) detaches

-- Two runs of one world, of which no device that an import is bound to is taken out, that end with the same devices, journals included, and
-- tell faults at the same places, and the same values of a wrong type at the same places, have the same lines. (A receive at an empty mailbox by an import whose result
-- isn't an i32 ends its program at once, and that end tells a value which nobody has sent: nothing else fixes it.)
abbrev pub JournalsFixLines : Type 0
JournalsFixLines =
    (begun : ℕ) (programs : List Program) (detaches : List Detach) (boxes : List (List ℕ)) (ds ds' : List Device) (lines1 lines2 : List Line) → LastingDevices programs detaches boxes
    → ProtocolWorldFrom begun programs detaches boxes ds lines1 ds' → ProtocolWorldFrom begun programs detaches boxes ds lines2 ds' → SameFaults lines1 lines2
    → SameWrongs lines1 lines2 → lines1 ≡ lines2

-- A world whose imports are bound to mailboxes or to nothing has one run, but for such values.
abbrev pub MailboxesFixLines : Type 0
MailboxesFixLines =
    (begun : ℕ) (programs : List Program) (detaches : List Detach) (boxes : List (List ℕ)) (ds ds1 ds2 : List Device) (lines1 lines2 : List Line) → (AsksDevice programs boxes → ⊥)
    → ProtocolWorldFrom begun programs detaches boxes ds lines1 ds1 → ProtocolWorldFrom begun programs detaches boxes ds lines2 ds2 → SameWrongs lines1 lines2
    → (lines1 ≡ lines2) × (ds1 ≡ ds2)

-- One of programs whose imports are bound to nothing has one run.
abbrev pub UnboundFixLines : Type 0
UnboundFixLines =
    (begun : ℕ) (programs : List Program) (detaches : List Detach) (boxes : List (List ℕ)) (ds ds1 ds2 : List Device) (lines1 lines2 : List Line) → All Unbound programs
    → ProtocolWorldFrom begun programs detaches boxes ds lines1 ds1 → ProtocolWorldFrom begun programs detaches boxes ds lines2 ds2 → (lines1 ≡ lines2) × (ds1 ≡ ds2)
