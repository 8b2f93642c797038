-- How a call ends, by the command that its words spell.
use Rattle.std.specs.Prelude.{◌≡◌, ◌⊎◌, ℕ, List, Option, Some, None}
use Rattle.vault_port.specs.Counts.{FailsOnce}
use Rattle.vault_port.specs.Files.{Files, ChangesOnly, HoldsFrontAtMost}
use Rattle.vault_port.specs.Told.{Becomes}
use Rattle.wa_types.specs.Encoding.{Enc}
use Rattle.script_model.specs.Command.{Manner, transform}
use Rattle.script_model.specs.Spelled.{Spelled, rewrites, hosts, runs, generates, saves, continues}
use Rattle.script_model.specs.Transcript.{refusal_line, write_fault}
use Rattle.event_order.specs.Left.{Counted}
use Rattle.transcript.specs.Refused.{Prints}
use Rattle.gen_module.specs.Generated.{generated}
use Rattle.asyncify_app.specs.Printed as G
use Rattle.script_command.specs.declared.way.Way.{Way}
use Rattle.script_command.specs.declared.way.Way.TheVariants.{Host, Run}
use Rattle.script_command.specs.Answers as A
use Rattle.script_command.specs.Ends as P
use Rattle.script_command.specs.SnapshotAnswers as N
use Rattle.script_command.specs.SnapshotCalls as S
use Rattle.transform_command.specs.Ends as T
pub use Rattle.transform_command.specs.Ends.{IsRefusal}

-- this holds where words play a script to its end
abbrev pub OnScript : Option Spelled → Type 0 → Type 0
OnScript (Some (hosts script)) P = P
OnScript (Some (runs script)) P = P
OnScript (Some (continues script snap)) P = P
OnScript _ P = Unit {0}

-- this holds where words play none
abbrev pub OffScript : Option Spelled → Type 0 → Type 0
OffScript (Some (hosts script)) P = Unit {0}
OffScript (Some (runs script)) P = Unit {0}
OffScript (Some (saves script events snap)) P = Unit {0}
OffScript (Some (continues script snap)) P = Unit {0}
OffScript _ P = P

-- this holds where words save no snapshot: a save may be refused once its events are played
abbrev pub OffSave : Option Spelled → Type 0 → Type 0
OffSave (Some (saves script events snap)) P = Unit {0}
OffSave _ P = P

-- A call: what its words spell; the files, the counts of faults, what the sink has taken and the devices, with their counts, before and after it.
pub record Call : Type 0 where
  pub spelled : Option Spelled
  pub files : Option Files
  pub files' : Option Files
  pub fetch_faults : ℕ
  pub fetch_faults' : ℕ
  pub save_faults : ℕ
  pub save_faults' : ℕ
  pub sink_faults : ℕ
  pub sink_faults' : ℕ
  pub taken : Option (List ℕ)
  pub taken' : Option (List ℕ)
  pub devices : List Counted
  pub devices' : List Counted

-- the call as one of `transform`
abbrev pub transform_call : Call → Manner → (input output : List ℕ) → T.Call
transform_call c how from to = record {
  manner = how;
  input = from;
  output = to;
  files = c.files;
  files' = c.files';
  fetch_faults = c.fetch_faults;
  fetch_faults' = c.fetch_faults';
  save_faults = c.save_faults;
  save_faults' = c.save_faults';
  sink_faults = c.sink_faults;
  sink_faults' = c.sink_faults';
}

-- the call as one that plays a script
abbrev pub script_call : Call → Way → (script : List ℕ) → P.Call
script_call c way script = P.call way script c.files c.fetch_faults c.fetch_faults' c.sink_faults c.sink_faults' c.taken c.taken' c.devices c.devices'

-- the call as one on a snapshot, and what it prints
abbrev pub snapshot_call : Call → (script snap : List ℕ) → S.Call
snapshot_call c script snap = S.call script snap c.files c.files' c.fetch_faults c.fetch_faults' c.save_faults c.save_faults' c.devices c.devices'

abbrev pub output_of : Call → S.Output
output_of c = S.output c.taken c.taken' c.sink_faults c.sink_faults'

-- Of `gen`: the module is written and the lines on its run are printed; memory is wanting; the module could not be written; or
-- the sink failed.
abbrev pub GeneratesOnce : Call → (number : ℕ) → (output : List ℕ) → ℕ → Type 0
GeneratesOnce c n output status =
    ((status ≡ 0) × Becomes c.files c.files' (ChangesOnly output (Enc (generated n))) × Becomes c.taken c.taken' (G.PrintsGenerated n))
    ⊎ ((status ≡ 9) × Becomes c.files c.files' (HoldsFrontAtMost output (Enc (generated n))) × Becomes c.taken c.taken' (G.RunsOutOfMemory n output c.sink_faults c.sink_faults'))
    ⊎ ((status ≡ 11) × FailsOnce c.save_faults c.save_faults' × Becomes c.files c.files' (HoldsFrontAtMost output (Enc (generated n)))
    × Becomes c.taken c.taken' (Prints (refusal_line None (write_fault output)) c.sink_faults c.sink_faults'))
    ⊎ ((status ≡ 12) × FailsOnce c.sink_faults c.sink_faults' × Becomes c.files c.files' (ChangesOnly output (Enc (generated n))) × Becomes c.taken c.taken' (G.PrintsLess n))

-- The call has one end, by its status, with its reason and what it printed: words that spell nothing are refused, and each command
-- has its ends. (What `transform` prints is told apart.)
abbrev pub EndsBy : Call → Option Spelled → ℕ → Type 0
EndsBy c None status = (status ≡ 2) ⊎ (status ≡ 9)
EndsBy c (Some (rewrites (transform how input output))) status = T.HasOneEnd (transform_call c how input output) status
EndsBy c (Some (hosts script)) status = A.HasOneEnd (script_call c Host script) status
EndsBy c (Some (runs script)) status = A.HasOneEnd (script_call c Run script) status
EndsBy c (Some (generates n output)) status = GeneratesOnce c n output status
EndsBy c (Some (saves script events snap)) status = N.HasOneEnd (S.saves events) (snapshot_call c script snap) (output_of c) status
EndsBy c (Some (continues script snap)) status = N.HasOneEnd S.continues (snapshot_call c script snap) (output_of c) status

-- The call has one end, by what its words spell.
abbrev pub HasOneEnd : Call → ℕ → Type 0
HasOneEnd c status = EndsBy c c.spelled status
