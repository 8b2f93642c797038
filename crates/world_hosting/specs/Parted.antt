-- Programs that are set up, in parts.
use Rattle.std.specs.Prelude.{◌≡◌, ℕ, suc, List, [], ◌∷◌, ◌++◌, length, map}
use Rattle.transcript.specs.Printing.{names_of}
use Rattle.event_order.specs.declared.shows.Show.{Show}
use Rattle.wa_model.specs.declared.answers.Detach.{Detach}
use Rattle.world_model.specs.World.{Device, Program}
use Rattle.transcript.specs.declared.events.Names.{Names}
use Rattle.mailbox_device.specs.Mail.{Mail, empty_mail}
use Rattle.many_host.specs.Hosts.{HostToldFrom}
use Rattle.many_host.specs.MailHosts.{HostTellsFrom}
use Rattle.many_host.specs.declared.host.Host.{Host}
use Rattle.script_reader.specs.declared.script.ShowText.{ShowText}
use Rattle.world_hosting.specs.declared.hosting.Timed.{Timed}
use Rattle.world_hosting.specs.declared.parting.Parted.{Parted}
use Rattle.world_hosting.specs.declared.resuming.Resumed.{Resumed}
use Rattle.world_hosting.specs.declared.staging.Staged.{Staged}
use Rattle.world_hosting.specs.Worlds.{Part, part_names, world_programs}

-- a line of a script that shows memory of the program of this number
abbrev pub show_at : ℕ → ShowText → Show
show_at program text = record { program = program; at = text.at; len = text.len }

-- what is shown of these programs, the first of which has this number
abbrev pub shows_from : ℕ → List Staged → List Show
shows_from number [] = []
shows_from number (s ∷ ss) = map (show_at number) s.shows.items ++ shows_from (suc number) ss

-- The programs, the names of their lines, and what is shown behind their ends, in order.
pub record AreParted (staged : List Staged) (x : Parted) : Type 0 where
  pub programs : x.programs.items ≡ map (λ (s : Staged). s.program) staged
  pub names : x.names.items ≡ map (λ (s : Staged). s.names) staged
  pub shows : x.shows.items ≡ shows_from 0 staged

-- The programs that were put back, when each is due, and which have ended, in order.
pub record AreTimed (resumed : List Resumed) (x : Timed) : Type 0 where
  pub staged : x.staged.items ≡ map (λ (z : Resumed). z.staged) resumed
  pub dues : x.dues.items ≡ map (λ (z : Resumed). z.due) resumed
  pub ended : x.ended.items ≡ map (λ (z : Resumed). z.ended) resumed

-- The host, which began behind so many events, has told nothing yet of a world of these programs, whatever its devices; there is a program a
-- part, and their lines have these names.
pub record Begins (earlier : ℕ) (programs : List Program) (parts : List Part) (detaches : List Detach) (h : Host) (names : List Names) : Type 0 where
  pub wide : length programs ≡ length parts
  pub told : (ds : List Device) → HostToldFrom earlier programs detaches ds [] h ds
  pub begun : h.turns.begun ≡ earlier
  pub names_are : map names_of names ≡ map part_names parts

-- So it is with some programs.
pub record BeginsHosting (h : Host) (names : List Names) : Type 0 where
  pub earlier : ℕ
  pub programs : List Program
  pub parts : List Part
  pub detaches : List Detach
  pub begins : Begins earlier programs parts detaches h names

-- The host, which begins with the first event, has told nothing yet of a world of these programs with empty mailboxes of these names, whatever its
-- devices; and its lines have these names.
pub record BeginsMail (parts : List Part) (detaches : List Detach) (boxes : List (List ℕ)) (h : Host) (names : List Names) : Type 0 where
  pub told : (ds : List Device) → HostTellsFrom 0 (world_programs parts) detaches boxes ds [] h ds (empty_mail boxes)
  pub begun : h.turns.begun ≡ 0
  pub names_are : map names_of names ≡ map part_names parts

-- So it is with some programs, and these mailboxes.
pub record BeginsMailHosting (h : Host) (names : List Names) (mail : Mail) : Type 0 where
  pub parts : List Part
  pub detaches : List Detach
  pub boxes : List (List ℕ)
  pub begins : BeginsMail parts detaches boxes h names
  pub empty : mail ≡ empty_mail boxes
