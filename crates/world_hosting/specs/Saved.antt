-- The programs of a script, told up to an event, and the snapshot that is made there.
use Rattle.std.specs.Prelude.{◌≡◌, ◌⊎◌, ◌≤◌, ◌<◌, ℕ, List, map, Option, Some, slice_get}
use Rattle.wa_model.specs.declared.answers.Detach.{Detach}
use Rattle.wa_model.specs.Outside.{Line}
use Rattle.wa_model.specs.Plan.{Outcome}
use Rattle.world_model.specs.World.{Actor, IsOver, Program}
use Rattle.event_order.specs.Dues.{HaveEnded}
use Rattle.event_order.specs.Left.{Counted}
use Rattle.many_host.specs.Calls.{devices_of}
use Rattle.many_host.specs.declared.host.Host.{Host}
use Rattle.many_host.specs.Hosts.{HostToldFrom}
use Rattle.many_host.specs.Standing.{LooksOut}
use Rattle.many_host.specs.Turns.{Teller}
use Rattle.script_model.specs.Transcript.{event_lines}
use Rattle.snapshot_store.specs.Snapshots.{Snapshot}
use Rattle.vault_port.specs.declared.whole.PutFault.{PutFault}
use Rattle.vault_port.specs.Taken.{Appends}
use Rattle.vault_port.specs.Told.{Becomes}
use Rattle.world_laws.specs.Played.{ProtocolWorldUpTo}
use Rattle.world_laws.specs.Snapshots.{IsSnapshotOf}
use Rattle.world_hosting.specs.Counts.{Took, met_by}
use Rattle.world_hosting.specs.Worlds.{AreBegunFrom, Part, PrintsPart, part_names, world_programs}

-- What is told of each program are all the outcomes that its actor's calls meet.
abbrev pub AreAllMet : List Line → (met : List (List Outcome)) → List Actor → Type 0
AreAllMet lines met actors = (i : ℕ) (a : Actor) → slice_get actors i ≡ Some a → a.outcomes ≡ met_by i lines met

-- The text tells the first events of a run of the protocol world, as many as are asked for, or all where there are fewer; and the snapshot is
-- that of the programs behind them. What the calls met is what was taken of the devices.
pub record AreSaved (parts : List Part) (detaches : List Detach) (old new : List Counted) (most : ℕ) (text : List ℕ) (s : Snapshot) : Type 0 where
  pub lines : List Line
  pub met : List (List Outcome)
  pub world : ProtocolWorldUpTo (world_programs parts) detaches (devices_of old) s.events lines (devices_of new)
  pub enough : (s.events ≡ most) ⊎ ((s.events < most) × IsOver world.now)
  pub is : IsSnapshotOf (world_programs parts) world.actors world.now s.events s
  pub meets : AreAllMet lines met world.actors
  pub took : Took (world_programs parts) detaches 0 0 lines met old s.events new
  pub text_is : text ≡ event_lines (map part_names parts) lines

-- Such a text came behind what was printed.
abbrev pub Saves : List Part → List Detach → (most : ℕ) → (cs cs' : List Counted) → (old new : Option (List ℕ)) → Snapshot → Type 0
Saves parts detaches most cs cs' old new s = (text : List ℕ) × AreSaved parts detaches cs cs' most text s × Becomes old new (Appends text)

-- A beginning of such a text came behind what was printed, of programs behind earlier events: no more events than were asked for had begun.
abbrev pub SavesPartFrom : PutFault → (earlier : ℕ) → List Program → List Part → List Detach → (most : ℕ) → (cs cs' : List Counted) → (old new : Option (List ℕ)) → Type 0
SavesPartFrom fault earlier programs parts detaches most cs cs' old new =
    (least : ℕ) × (text : List ℕ) × (told : AreBegunFrom fault earlier programs parts detaches cs cs' least text) × (told.begun ≤ most) × Becomes old new (PrintsPart fault least text)

-- the same of programs of a script from their start
abbrev pub SavesPart : PutFault → List Part → List Detach → (most : ℕ) → (cs cs' : List Counted) → (old new : Option (List ℕ)) → Type 0
SavesPart fault parts = SavesPartFrom fault 0 (world_programs parts) parts

-- ---- what a host has told

-- the programs of a host have met what the lines tell
abbrev pub MetBy : List Line → (met : List (List Outcome)) → List Teller → Type 0
MetBy lines met tellers = (i : ℕ) (t : Teller) → slice_get tellers i ≡ Some t → t.met ≡ met_by i lines met

-- The host, which began behind so many events, has told these lines, with what their calls met and took of the devices.
pub record HasTold (earlier : ℕ) (programs : List Program) (detaches : List Detach) (old : List Counted) (h : Host) (now : List Counted) : Type 0 where
  pub lines : List Line
  pub host : HostToldFrom earlier programs detaches (devices_of old) lines h (devices_of now)
  pub met : List (List Outcome)
  pub took : Took programs detaches earlier earlier lines met old h.turns.begun now
  pub meets : MetBy lines met host.tellers

-- They were printed.
pub record HasPrinted (earlier : ℕ) (programs : List Program) (parts : List Part) (detaches : List Detach) (cs : List Counted) (h : Host) (cs' : List Counted) (old new : Option (List ℕ)) : Type 0 where
  pub told : HasTold earlier programs detaches cs h cs'
  pub printed : Becomes old new (Appends (event_lines (map part_names parts) told.lines))

-- The host is between two events: so many have begun, or fewer, and all programs have ended.
abbrev pub StopsAt : (most : ℕ) → Host → Type 0
StopsAt most h = LooksOut h.turns.shows.items h.turns.stage × ((h.turns.begun ≡ most) ⊎ ((h.turns.begun < most) × HaveEnded h.turns.dues.items))
