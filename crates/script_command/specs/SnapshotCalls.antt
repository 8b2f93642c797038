-- Calls of the commands on snapshots.
use Rattle.std.specs.Prelude.{ℕ, List, Option}
use Rattle.vault_port.specs.Files.{Files}
use Rattle.event_order.specs.Left.{Counted}

-- What a call does: it plays so many events at most and saves what stands behind them, or it goes on from what was saved.
pub data Deed : Type 0 where
  saves : (most : ℕ) → Deed
  continues : Deed

-- A call: its script and its snapshot; the files, the counts of faults of reading and of writing, and the devices, with their counts, before
-- and after it.
pub record Call : Type 0 where
  pub script : List ℕ
  pub snap : List ℕ
  pub files : Option Files
  pub files' : Option Files
  pub fetch_faults : ℕ
  pub fetch_faults' : ℕ
  pub save_faults : ℕ
  pub save_faults' : ℕ
  pub devices : List Counted
  pub devices' : List Counted

-- What a sink has taken, and its count of faults, before and after it.
pub record Output : Type 0 where
  pub taken : Option (List ℕ)
  pub taken' : Option (List ℕ)
  pub faults : ℕ
  pub faults' : ℕ

-- a call by these
abbrev pub call : (script snap : List ℕ) → (files files' : Option Files) → (fetched fetched' saved saved' : ℕ) → (ds ds' : List Counted) → Call
call spelled snap all all' fetched fetched' saved saved' ds ds' = record {
  script = spelled;
  snap = snap;
  files = all;
  files' = all';
  fetch_faults = fetched;
  fetch_faults' = fetched';
  save_faults = saved;
  save_faults' = saved';
  devices = ds;
  devices' = ds';
}

-- an output by these
abbrev pub output : (old new : Option (List ℕ)) → (put put' : ℕ) → Output
output old new put put' = record { taken = old; taken' = new; faults = put; faults' = put' }
