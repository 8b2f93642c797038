-- What a host with mailboxes answers, with its devices as they are counted.
use Rattle.std.proofs.Common.{◌≡◌, ℕ, List, [], ◌∷◌, ◌++◌, Option, Some, None, sym, subst}
use Rattle.device_port.specs.declared.devices.Devices.{Devices}
use Rattle.device_port.specs.Listed.{of_all}
use Rattle.wa_model.specs.declared.answers.Detach.{Detach}
use Rattle.wa_model.specs.declared.events.Line.{Line as LineValue}
use Rattle.wa_model.specs.Outside.{Line}
use Rattle.wa_model.specs.View.{line_of}
use Rattle.world_model.specs.World.{Device, Program}
use Rattle.event_order.specs.Left.{Counted}
use Rattle.mailbox_device.specs.Mail.{Mail}
use Rattle.mail_laws.specs.MailWorld.{ProtocolWorldFrom}
use Rattle.mail_laws.specs.Told.{HaveMet, Teller}
use Rattle.many_host.specs.Calls.{devices_of}
use Rattle.many_host.specs.declared.host.Host.{Host}
use Rattle.many_host.specs.MailHosts.{HostTellsFrom, HostTellsNext}
use Rattle.many_host.specs.MailStanding.{StandsAtFrom, TellsLineFrom}
use Rattle.many_host.specs.Standing.{held_of}
use Rattle.many_host.proofs.Counts.{counted_devices}
use Rattle.world_hosting.specs.Counts.{counted}

module _ (programs : List Program) (detaches : List Detach) (boxes : List (List ℕ)) (ds : List Device) (lines : List Line) (tellers : List Teller) (old left new : List Counted) (mail : Mail) (h : Host)
    (es : List Device) (mail' : Mail) (r : Option LineValue) where
  pub mail_line_told : (l : LineValue) → r ≡ Some l → HostTellsNext 0 programs detaches boxes ds lines tellers old left new mail h es mail' r
      → TellsLineFrom 0 programs detaches boxes ds lines tellers left new mail (line_of l) (held_of h.turns) h.turns.last es mail' h.turns.stage
  mail_line_told l is told = subst (λ (o : Option LineValue). HostTellsNext 0 programs detaches boxes ds lines tellers old left new mail h es mail' o) is told

  pub no_mail_told : r ≡ None → HostTellsNext 0 programs detaches boxes ds lines tellers old left new mail h es mail' r
      → (world : ProtocolWorldFrom 0 programs detaches boxes ds lines es) × HaveMet tellers world.actors × (new ≡ old)
  no_mail_told is told = subst (λ (o : Option LineValue). HostTellsNext 0 programs detaches boxes ds lines tellers old left new mail h es mail' o) is told

module _ {X : Type 0} {F : X → Type 0} (f : (x : X) × F x → Device) (g : (x : X) × F x → ℕ) (programs : List Program) (detaches : List Detach) (boxes : List (List ℕ)) (ds : List Device) where
  abbrev mail_standing_with : (lines : List Line) (h : Host) (mail : Mail) (es es' : List Device) → es ≡ es' → HostTellsFrom 0 programs detaches boxes ds lines h es mail
      → HostTellsFrom 0 programs detaches boxes ds lines h es' mail
  mail_standing_with lines h mail es es' is told = record {
    tellers = told.tellers;
    wide = told.wide;
    as_many = told.as_many;
    each = told.each;
    dues = told.dues;
    detaches_are = told.detaches_are;
    earlier_is = told.earlier_is;
    count = told.count;
    begun_is = told.begun_is;
    at = subst (λ (l : List Device). StandsAtFrom 0 programs detaches boxes ds told.count lines told.tellers (held_of h.turns) h.turns.last l mail h.turns.stage) is told.at;
  }

  -- the devices, as a host sees them
  abbrev pub mail_host_seen : (lines : List Line) (d : Devices X F) (h : Host) (mail : Mail) → HostTellsFrom 0 programs detaches boxes ds lines h (devices_of (counted f g d)) mail
      → HostTellsFrom 0 programs detaches boxes ds lines h (of_all f d) mail
  mail_host_seen lines d h mail told = mail_standing_with lines h mail (devices_of (counted f g d)) (of_all f d) (counted_devices f g d) told

  pub mail_world_counted : (lines : List Line) (d : Devices X F) (tellers : List Teller) → (world : ProtocolWorldFrom 0 programs detaches boxes ds lines (of_all f d)) × HaveMet tellers world.actors
      → (world : ProtocolWorldFrom 0 programs detaches boxes ds lines (devices_of (counted f g d))) × HaveMet tellers world.actors
  mail_world_counted lines d tellers both =
      subst (λ (es : List Device). (world : ProtocolWorldFrom 0 programs detaches boxes ds lines es) × HaveMet tellers world.actors) (sym (counted_devices f g d)) both

  pub mail_line_counted : (lines : List Line) (tellers : List Teller) (old new : List Counted) (mail : Mail) (line : Line) (d : Devices X F) (h : Host) (mail' : Mail)
      → TellsLineFrom 0 programs detaches boxes ds lines tellers old new mail line (held_of h.turns) h.turns.last (of_all f d) mail' h.turns.stage
      → TellsLineFrom 0 programs detaches boxes ds lines tellers old new mail line (held_of h.turns) h.turns.last (devices_of (counted f g d)) mail' h.turns.stage
  mail_line_counted lines tellers old new mail line d h mail' t = record {
    stands = mail_standing_with (lines ++ line ∷ []) h mail' (of_all f d) (devices_of (counted f g d)) (sym (counted_devices f g d)) t.stands;
    met = t.met;
    meets = t.meets;
    takes = t.takes;
  }
