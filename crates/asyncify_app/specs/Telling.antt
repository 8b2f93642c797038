-- A program that tells its next event.
use Rattle.std.specs.Prelude.{◌≡◌, List, [], ◌∷◌, ◌++◌, None}
use Rattle.wa_model.specs.Outside.{Event}
use Rattle.wa_model.specs.Blocking.{Note, events_of}
use Rattle.wa_model.specs.Behaves.{IsPrefix}
use Rattle.world_model.specs.World as W
use Rattle.host_laws.specs.Stories.{BeginsStory}
use Rattle.pause_host.specs.Programs.{FollowsAlone, ended_as, end_in}
use Rattle.pause_host.specs.declared.program.Program.{Program}

-- Behind these notes of a program's story it has told one more, of this event.
pub record TellsNext (w : W.Program) (notes : List Note) (event : Event) (x : Program) : Type 0 where
  pub note : Note
  pub event_is : note.event ≡ event
  pub follows : FollowsAlone w (notes ++ note ∷ []) x
  pub ended_is : ended_as x ≡ end_in event

-- Behind these notes no other event comes.
abbrev pub ComesNext : W.Program → List Note → Event → Type 0
ComesNext w notes event = (x : Note) → BeginsStory w (notes ++ x ∷ []) → x.event ≡ event

-- It has told these notes and goes on, and what comes next is this event.
pub record StandsBefore (w : W.Program) (notes : List Note) (event : Event) (x : Program) : Type 0 where
  pub follows : FollowsAlone w notes x
  pub goes_on : ended_as x ≡ None
  pub next : ComesNext w notes event

-- Whatever a program that is alone has told, it tells these events first.
abbrev pub TellsFirst : W.Program → List Event → Type 0
TellsFirst w events = (notes : List Note) → BeginsStory w notes → (rest : List Event) × IsPrefix (events_of notes) (events ++ rest)
