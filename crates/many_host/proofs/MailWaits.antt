-- A program that is parked waits at its mailbox.
use Rattle.std.proofs.Common.{◌≡◌, ℕ, List, Some, None, sym, ap, ◌∙◌}
use Rattle.std.specs.Prelude.{slice_get}
use Rattle.std.specs.List.{position}
use Rattle.std.specs.Option.{option_and_then}
use Rattle.mailbox_device.specs.Mail.{Awaits, IsEmptyAt, Mail, awaited, is_box}
use Rattle.mailbox_device.proofs.Named.{changed, found}
use Rattle.many_host.specs.MailStanding.{CanWait, with_waiting}

module _ (program : ℕ) (name : List ℕ) (mail : Mail) (place : ℕ) (is : position (is_box name) mail.boxes ≡ Some place) where
  box_there : (can : CanWait program name mail) → slice_get mail.boxes place ≡ Some can.box
  box_there can = sym (found (is_box name) mail.boxes ∙ ap (option_and_then (slice_get mail.boxes)) is) ∙ can.there

  pub empty_there : CanWait program name mail → IsEmptyAt place mail.boxes
  empty_there can = record { box = can.box; there = box_there can; empty = can.empty }

  pub waits_now : (new : Mail) → Awaits place program mail new → new ≡ with_waiting program (Some name) mail
  waits_now new a = λ j. record { boxes = (a.boxes ∙ changed name mail.boxes place a.box (awaited program) is a.there) j; settled = a.settled j }

-- what can wait is there
pub is_found : (program : ℕ) (name : List ℕ) (mail : Mail) → CanWait program name mail → position (is_box name) mail.boxes ≡ None → ⊥
is_found program name mail can is =
    let none : None ≡ Some can.box = sym (found (is_box name) mail.boxes ∙ ap (option_and_then (slice_get mail.boxes)) is) ∙ can.there in cc
