-- When a line tells that a program stalled.
use Rattle.std.specs.Prelude.{◌≡◌, ◌≤◌, ℕ, suc, List, [], ◌∷◌, map, Some, Bool, true, false, slice_get}
use Rattle.std.specs.List.{AllZip, list_any}
use Rattle.wa_model.specs.declared.answers.Detach.{Detach}
use Rattle.wa_model.specs.declared.events.End.{End}
use Rattle.wa_model.specs.declared.events.End.TheVariants.{Stalled}
use Rattle.wa_model.specs.Outside.{Event, ended, Line}
use Rattle.wa_model.specs.Blocking.{Note}
use Rattle.world_model.specs.World.{Device, Original, Program, line_at, turn_of}
use Rattle.mail_laws.specs.Mailboxes.{Shared}
use Rattle.mail_laws.specs.MailWorld.{Actor, IsReady, Parked, Plays, StartsOriginal, TakesTurn, sharing}
use Rattle.mail_laws.specs.Played.{Played, ProtocolWorldUpToFrom}

-- the end of a program that waits for good
abbrev pub is_stalled : End → Bool
is_stalled (Stalled import) = true
is_stalled _ = false

-- an event is such an end
abbrev pub stalls : Event → Bool
stalls (ended how) = is_stalled how
stalls _ = false

-- a line tells one
abbrev pub tells_stalled : List Line → Bool
tells_stalled lines = list_any (λ (l : Line). stalls l.event) lines

-- a note is of one
abbrev pub note_stalls : Note → Bool
note_stalls x = stalls x.event

-- no program is ready
abbrev pub NoneReady : List Actor → Type 0
NoneReady actors = (j : ℕ) (b : Actor) → slice_get actors j ≡ Some b → IsReady b → ⊥

-- The first line tells that the first of the programs that wait stalled there, at this tick, and no other does.
pub record FirstStalls (actors : List Actor) (tick : ℕ) (lines : List Line) : Type 0 where
  pub i : ℕ
  pub a : Actor
  pub at : Parked
  pub there : slice_get actors i ≡ Some a
  pub waits : a.parked ≡ Some at
  pub no_more : a.notes ≡ []
  pub first : (j : ℕ) (b : Actor) (p : Parked) → slice_get actors j ≡ Some b → b.parked ≡ Some p → i ≤ j
  pub more : List Line
  pub lines_are : lines ≡ line_at tick i (ended (Stalled at.import)) ∷ more
  pub calm : tells_stalled more ≡ false

-- where an event tells `Stalled`: exactly where no program is ready, and then of the least number that waits
abbrev pub StallsThere : (actors : List Actor) → (tick : ℕ) → (lines : List Line) → Type 0
StallsThere actors tick lines =
    (tells_stalled lines ≡ true → NoneReady actors × FirstStalls actors tick lines) × (NoneReady actors → (tells_stalled lines ≡ true) × FirstStalls actors tick lines)

-- An event tells it so whose turn, if it is one, doesn't.
abbrev pub StallsLast : Type 0
StallsLast =
    (programs : List Program) (detaches : List Detach) (number : ℕ) (actors actors' : List Actor) (sh sh' : Shared) (lines : List Line)
    → Plays programs detaches number actors sh lines actors' sh'
    → ((t : TakesTurn programs detaches number actors sh lines actors' sh') → list_any note_stalls (turn_of t.a.notes) ≡ false) → StallsThere actors sh.tick lines

-- So does each event of a protocol world, since no call of a world meets such an end,
abbrev pub WorldsStallLast : Type 0
WorldsStallLast =
    (begun : ℕ) (programs : List Program) (detaches : List Detach) (boxes : List (List ℕ)) (ds ds' : List Device) (number : ℕ) (lines more : List Line) (actors' : List Actor) (sh' : Shared)
    → (world : ProtocolWorldUpToFrom begun programs detaches boxes ds number lines ds') → Plays programs detaches (suc number) world.now world.shared more actors' sh'
    → StallsThere world.now world.shared.tick more

-- and each event of a blocking world.
abbrev pub BlockingWorldsStallLast : Type 0
BlockingWorldsStallLast =
    (originals : List Original) (detaches : List Detach) (boxes : List (List ℕ)) (ds : List Device) (count : ℕ) (lines more : List Line) (actors now actors' : List Actor) (sh sh' : Shared)
    → AllZip StartsOriginal originals actors → Played (map (λ (o : Original). o.program) originals) detaches 1 count actors (sharing boxes ds) lines now sh
    → Plays (map (λ (o : Original). o.program) originals) detaches (suc count) now sh more actors' sh' → StallsThere now sh.tick more
