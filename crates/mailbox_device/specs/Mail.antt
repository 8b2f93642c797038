-- Mailboxes as plain data, and what a send, a receive and a wait leave of them.
use Rattle.std.specs.Prelude.{◌≡◌, ℕ, ◌<◌, ◌≤◌, ◌^◌, nat_eq, Bool, List, [], ◌∷◌, ◌++◌, length, map, sum_by, count_by, All, if◌then◌else◌, slice_get, slice_set, Some}
use Rattle.wa_types.specs.Validity.{same_name}
use Rattle.wa_types.specs.declared.values.Value.TheVariants.{I32}
use Rattle.device_port.specs.declared.device.Reply.{Reply}
use Rattle.mailbox_device.specs.declared.mailbox.Settled.{Settled}

-- A mailbox: its name, the values that were sent and not received, and the programs that wait, both first come first.
pub record Box : Type 0 where
  pub name : List ℕ
  pub values : List ℕ
  pub waits : List ℕ

-- Mailboxes, and the programs that were sent a value while they waited, first settled first.
pub record Mail : Type 0 where
  pub boxes : List Box
  pub settled : List Settled

-- ---- names

-- a mailbox has this name
abbrev pub is_box : List ℕ → Box → Bool
is_box name b = same_name b.name name

-- with the first mailbox of a name changed
abbrev pub at_box : (change : Box → Box) → List ℕ → List Box → List Box
at_box change name [] = []
at_box change name (b ∷ bs) = if is_box name b then change b ∷ bs else b ∷ at_box change name bs

-- the names of these, in order
abbrev pub names_of : List Box → List (List ℕ)
names_of boxes = map (λ (b : Box). b.name) boxes

-- ---- empty ones

abbrev pub empty_box : List ℕ → Box
empty_box name = record { name = name; values = []; waits = [] }

-- empty mailboxes of these names, where nobody is settled
abbrev pub empty_mail : List (List ℕ) → Mail
empty_mail names = record { boxes = map empty_box names; settled = [] }

-- ---- one mailbox

-- what a send leaves where these wait: the first of them waits no longer, or the value is queued
abbrev pub sent_past : ℕ → Box → List ℕ → Box
sent_past value b [] = record b { values = b.values ++ value ∷ [] }
sent_past value b (program ∷ more) = record b { waits = more }

-- what a send leaves of a mailbox
abbrev pub sent : ℕ → Box → Box
sent value b = sent_past value b b.waits

-- who is settled with the value where these wait: the first of them
abbrev pub receiver : ℕ → List ℕ → List Settled
receiver value [] = []
receiver value (program ∷ more) = record { program = program; value = value } ∷ []

-- the answer to who receives a value that was queued
abbrev pub at_once : (value : ℕ) → Reply
at_once value = record { value = Some (I32 value); ticks = 0 }

-- with these values left
abbrev pub received : List ℕ → Box → Box
received rest b = record b { values = rest }

-- The first value is taken out of a mailbox, and answered at once.
pub record TakesFirst (reply : Reply) (old new : Box) : Type 0 where
  pub value : ℕ
  pub rest : List ℕ
  pub queued : old.values ≡ value ∷ rest
  pub fits : value < 2 ^ 32
  pub answer : reply ≡ at_once value
  pub left : new ≡ received rest old

-- with a program behind those that wait
abbrev pub awaited : ℕ → Box → Box
awaited program b = record b { waits = b.waits ++ program ∷ [] }

-- ---- who waits

-- how often a program waits at a mailbox
abbrev pub waits_in : (program : ℕ) → Box → ℕ
waits_in program b = count_by (nat_eq program) b.waits

-- how often at all of these
abbrev pub waits_at_all : (program : ℕ) → List Box → ℕ
waits_at_all program boxes = sum_by (waits_in program) boxes

-- it waits at none of them
abbrev pub WaitsNowhere : (program : ℕ) → List Box → Type 0
WaitsNowhere program boxes = waits_at_all program boxes ≡ 0

-- where a program waits no value is queued
abbrev pub IsServed : Box → Type 0
IsServed b = 0 < length b.waits → b.values ≡ []

-- So it is at each mailbox, and each program waits once at most.
pub record IsOrderly (boxes : List Box) : Type 0 where
  pub served : All IsServed boxes
  pub once : (program : ℕ) → waits_at_all program boxes ≤ 1

-- ---- one of them all

-- No value is queued at this place.
pub record IsEmptyAt (place : ℕ) (boxes : List Box) : Type 0 where
  pub box : Box
  pub there : slice_get boxes place ≡ Some box
  pub empty : box.values ≡ []

-- A value is sent to the mailbox at this place.
pub record Sends (place value : ℕ) (old new : Mail) : Type 0 where
  pub box : Box
  pub there : slice_get old.boxes place ≡ Some box
  pub boxes : new.boxes ≡ slice_set old.boxes place (sent value box)
  pub settled : new.settled ≡ old.settled ++ receiver value box.waits

-- The first value is taken out of the mailbox at this place.
pub record Receives (place : ℕ) (reply : Reply) (old new : Mail) : Type 0 where
  pub box : Box
  pub after : Box
  pub there : slice_get old.boxes place ≡ Some box
  pub takes : TakesFirst reply box after
  pub boxes : new.boxes ≡ slice_set old.boxes place after
  pub settled : new.settled ≡ old.settled

-- A program waits at the mailbox at this place.
pub record Awaits (place program : ℕ) (old new : Mail) : Type 0 where
  pub box : Box
  pub there : slice_get old.boxes place ≡ Some box
  pub boxes : new.boxes ≡ slice_set old.boxes place (awaited program box)
  pub settled : new.settled ≡ old.settled
