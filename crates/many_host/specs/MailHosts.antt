-- What a host of several programs has told where there are mailboxes.
use Rattle.std.specs.Prelude.{◌≡◌, ℕ, List, All, Option, None, MatchOption}
use Rattle.wa_model.specs.declared.answers.Detach.{Detach}
use Rattle.wa_model.specs.declared.events.Line.{Line as LineValue}
use Rattle.wa_model.specs.Outside.{Line}
use Rattle.wa_model.specs.View.{line_of}
use Rattle.world_model.specs.World.{Device}
use Rattle.world_model.specs.World as W
use Rattle.event_order.specs.Left.{Counted}
use Rattle.mailbox_device.specs.Mail.{Mail}
use Rattle.mail_laws.specs.MailWorld.{ProtocolWorldFrom}
use Rattle.mail_laws.specs.Told.{HaveMet, Teller}
use Rattle.pause_host.specs.declared.program.Program.{Program}
use Rattle.pause_host.specs.Programs.{receive_in}
use Rattle.many_host.specs.MailStanding.{StandingFrom, TellsLineFrom}
use Rattle.many_host.specs.Standing.{held_of}
use Rattle.many_host.specs.ToldMail.{BeginsMailWorld}
use Rattle.many_host.specs.declared.host.Host.{Host}

-- none of these programs waits for a mailbox
abbrev pub NoneWaits : List Program → Type 0
NoneWaits xs = All (λ (x : Program). receive_in x ≡ None) xs

-- The host, which began behind so many events, has told these lines of a world of the programs with mailboxes of these names: so many whole events, and
-- the beginning of the next; these devices were there at first, and these devices and mailboxes are now.
abbrev pub HostTellsFrom : (begun : ℕ) → List W.Program → List Detach → (boxes : List (List ℕ)) → List Device → List Line → Host → List Device → Mail → Type 0
HostTellsFrom begun programs detaches boxes ds lines h ds' mail =
    StandingFrom begun programs detaches boxes ds lines (held_of h.turns) h.turns.last ds' mail h.turns.stage

-- It told one line more, with what its call met and took; or there is none, and what was told is a whole run of the world, whose calls met what the
-- programs' calls did, and which leaves these devices, as they were.
abbrev pub HostTellsNext : (begun : ℕ) → List W.Program → List Detach → (boxes : List (List ℕ)) → List Device → List Line → List Teller → (old left new : List Counted) → (mail : Mail) → Host → List Device
    → (mail' : Mail) → Option LineValue → Type 0
HostTellsNext begun programs detaches boxes ds lines tellers old left new mail h ds' mail' result =
    MatchOption result ((world : ProtocolWorldFrom begun programs detaches boxes ds lines ds') × HaveMet tellers world.actors × (new ≡ old))
    (λ line. TellsLineFrom begun programs detaches boxes ds lines tellers left new mail (line_of line) (held_of h.turns) h.turns.last ds' mail' h.turns.stage)

-- The lines that a host has told begin a run of the world, in which each program's calls meet first what they have met.
abbrev pub MailHostBegins : Type 0
MailHostBegins =
    (begun : ℕ) (programs : List W.Program) (detaches : List Detach) (boxes : List (List ℕ)) (ds : List Device) (lines : List Line) (h : Host) (ds' : List Device) (mail : Mail)
    (told : HostTellsFrom begun programs detaches boxes ds lines h ds' mail) → BeginsMailWorld begun programs detaches boxes ds lines told.tellers
