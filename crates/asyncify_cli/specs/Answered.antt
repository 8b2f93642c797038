-- What the program answers to its words.
use Rattle.std.specs.Prelude.{◌≡◌, ◌⊎◌, ℕ, List, [], ◌∷◌, Option, None, codes}
use Rattle.vault_port.specs.Files.{Files}
use Rattle.vault_port.specs.Told.{Becomes}
use Rattle.script_model.specs.Command.{OnTransform, command}
use Rattle.script_model.specs.Spelled.{spelled}
use Rattle.script_model.specs.Transcript.{read_fault, refusal_line, usage, write_fault}
use Rattle.event_order.specs.Left.{Counted}
use Rattle.transcript.specs.Refused.{CountsBy, Prints, PrintsMemory}
use Rattle.asyncify_app.specs.Sources.{IsTransformed}
use Rattle.asyncify_app.specs.Transforms.{IsCutShort, PrintsRefusal, PrintsDone, PrintsLess, RunsOutOfMemory}
use Rattle.asyncify_app.specs.Ends.{Call, HasOneEnd, IsRefusal, OnScript}

-- the program's devices, before they are asked
abbrev pub own_devices : List Counted
own_devices =
    record { device = record { name = codes "counter"; journal = [] }; faults = 0 }
    ∷ record { device = record { name = codes "echo"; journal = [] }; faults = 0 }
    ∷ []

-- The call of these words has one end, nothing is tried again behind a failure, its files become what the status says, and so does what it prints.
pub record IsAnswered (words : List (List ℕ)) (c : Call) (status : ℕ) : Type 0 where
  pub one_end : HasOneEnd c status
  pub counts : CountsBy status c.fetch_faults c.fetch_faults' c.save_faults c.save_faults' c.sink_faults c.sink_faults'
  pub done : OnTransform (command words) (λ settings input output. (status ≡ 0) ⊎ (status ≡ 12) → Becomes c.files c.files' (IsTransformed settings input output))
  pub cut : OnTransform (command words) (λ settings input output. (status ≡ 9) ⊎ (status ≡ 11) → Becomes c.files c.files' (IsCutShort settings input output))
  pub kept : (status ≡ 10) ⊎ IsRefusal status → c.files' ≡ c.files
  pub scripts_kept : OnScript c.spelled (c.files' ≡ c.files)
  pub usage_kept : c.spelled ≡ None → c.files' ≡ c.files
  pub prints_done : OnTransform (command words) (λ settings input output. status ≡ 0 → Becomes c.taken c.taken' (PrintsDone settings c.files c.files' input output))
  pub prints_less : OnTransform (command words) (λ settings input output. status ≡ 12 → Becomes c.taken c.taken' (PrintsLess settings c.files c.files' input output))
  pub prints_memory : OnTransform (command words) (λ settings input output. status ≡ 9 → Becomes c.taken c.taken' (RunsOutOfMemory settings c.files c.files' input output c.sink_faults c.sink_faults'))
  pub prints_read : OnTransform (command words) (λ settings input output.
      status ≡ 10 → Becomes c.taken c.taken' (Prints (refusal_line None (read_fault input)) c.sink_faults c.sink_faults'))
  pub prints_write : OnTransform (command words) (λ settings input output.
      status ≡ 11 → Becomes c.taken c.taken' (Prints (refusal_line None (write_fault output)) c.sink_faults c.sink_faults'))
  pub prints_refusal : OnTransform (command words) (λ settings input output.
      IsRefusal status → Becomes c.taken c.taken' (PrintsRefusal settings c.files input status c.sink_faults c.sink_faults'))
  pub prints_usage : status ≡ 2 → Becomes c.taken c.taken' (Prints (refusal_line None usage) c.sink_faults c.sink_faults')
  pub prints_usage_memory : c.spelled ≡ None → status ≡ 9 → Becomes c.taken c.taken' (PrintsMemory (refusal_line None usage) c.sink_faults c.sink_faults')

-- a call of these words is answered that has these devices, whatever becomes of them
unfoldable pub Answers : (words : List (List ℕ)) → (files files' : Option Files) → (fetch_faults fetch_faults' save_faults save_faults' sink_faults sink_faults' : ℕ)
    → (taken taken' : Option (List ℕ)) → (devices : List Counted) → (status : ℕ) → Type 0
Answers words files files' fetch_faults fetch_faults' save_faults save_faults' sink_faults sink_faults' taken taken' devices status =
    (left : List Counted) × IsAnswered words (record {
      spelled = spelled words;
      files = files;
      files' = files';
      fetch_faults = fetch_faults;
      fetch_faults' = fetch_faults';
      save_faults = save_faults;
      save_faults' = save_faults';
      sink_faults = sink_faults;
      sink_faults' = sink_faults';
      taken = taken;
      taken' = taken';
      devices = devices;
      devices' = left;
    }) status
