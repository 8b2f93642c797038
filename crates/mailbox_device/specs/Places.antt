-- The places of mailboxes by their names, as they are kept in order.
use Rattle.std.specs.Prelude.{String, ◌≡◌, ℕ, List, position}
use Rattle.std.specs.declared.alloc.Global.{Global}
use Rattle.std.specs.BTreeMap.{BTreeMap, get_by_text}
use Rattle.wa_types.specs.Validity.{same_name}
use Rattle.mailbox_device.specs.Mail.{Box, IsOrderly, names_of}

-- they are the places of these names, of each the first
abbrev pub TellsPlaces : BTreeMap (String Global) ℕ → List (List ℕ) → Type 0
TellsPlaces places names = (name : List ℕ) → get_by_text places name ≡ position (λ (n : List ℕ). same_name n name) names

-- Mailboxes in order, and the places of their names.
pub record AreSound (places : BTreeMap (String Global) ℕ) (boxes : List Box) : Type 0 where
  pub found : TellsPlaces places (names_of boxes)
  pub orderly : IsOrderly boxes
