-- What `transform` leaves of OUT where it doesn't end well, and what it prints.
use Rattle.std.specs.Prelude.{◌≡◌, ◌⊎◌, ℕ, List, ◌++◌, length, take, count_by, Bool, Option, Some, None, codes}
use Rattle.std.specs.Fmt.{decimal}
use Rattle.vault_port.specs.Files.{Files, bytes_of, KeepsOthers}
use Rattle.vault_port.specs.Told.{WhereTold}
use Rattle.vault_port.specs.Taken.{Appends, AppendsLess}
use Rattle.wa_types.specs.Syntax.{Module}
use Rattle.wa_types.specs.Encoding.{Enc}
use Rattle.script_model.specs.Command.{Manner}
use Rattle.script_model.specs.Transcript.{refusal_line, read_fault, write_fault, line_end}
use Rattle.transcript.specs.Refused.{status_of, Prints, PrintsMemory}
use Rattle.transform_command.specs.Sources.{IsRewritable, IsSource, Cause, IsRefusedIn, refusal_for}

-- what `transform` prints: how many functions the module defines, how many of them are instrumented, and how
-- many bytes were written
unfoldable pub done_line : (functions instrumented bytes : ℕ) → List ℕ
done_line functions instrumented bytes =
    codes "ok functions " ++ decimal functions ++ codes " instrumented " ++ decimal instrumented ++ codes " bytes " ++ decimal bytes ++ line_end

-- OUT is as before, or holds some first bytes of what it would hold; the other files are as before.
pub record IsCutShort (how : Manner) (input output : List ℕ) (old new : Files) : Type 0 where
  pub left : (new output ≡ old output)
      ⊎ ((m : Module) × (which : List Bool) × (p : Module) × IsSource how (bytes_of old input) m which p × (n : ℕ) × (new output ≡ Some (take n (Enc p))))
  pub others : KeepsOthers output old new

-- the functions of the module that these bytes spell, how many of them may pause, and the bytes of what is written
abbrev pub IsCount : Manner → List ℕ → (functions instrumented bytes : ℕ) → Type 0
IsCount how source functions instrumented bytes =
    (m : Module) × (which : List Bool) × (p : Module) × IsSource how source m which p × (functions ≡ length m.funcs) × (instrumented ≡ count_by (λ b. b) which) × (bytes ≡ length (Enc p))

-- the line of a module that was written; where the files are told, that of the module in IN, with as many bytes as OUT has now
abbrev pub IsDoneLine : Manner → (files files' : Option Files) → (input output line : List ℕ) → Type 0
IsDoneLine how files files' input output line =
    (functions : ℕ) × (instrumented : ℕ) × (bytes : ℕ) × (line ≡ done_line functions instrumented bytes) × WhereTold files (λ all. IsCount how (bytes_of all input) functions instrumented bytes)
    × WhereTold files' (λ all. bytes ≡ length (bytes_of all output))

-- there is an accepted source in IN
unfoldable pub HoldsSource : Manner → List ℕ → Type 0
HoldsSource how bytes = (m : Module) × (which : List Bool) × (p : Module) × IsSource how bytes m which p

-- there is a source in IN that can be rewritten
unfoldable pub HoldsRewritable : Manner → List ℕ → Type 0
HoldsRewritable how bytes = (m : Module) × (which : List Bool) × IsRewritable how.settings bytes m which

-- a cause of this status; where the files are told, IN is refused for it
abbrev pub HasCause : Manner → Option Files → List ℕ → ℕ → Type 0
HasCause how files input status = (cause : Cause) × (status ≡ status_of (refusal_for cause)) × WhereTold files (λ all. IsRefusedIn how (bytes_of all input) cause)

-- the line of a refusal of IN
abbrev pub IsRefusalLine : Manner → Option Files → List ℕ → List ℕ → Type 0
IsRefusalLine how files input line = (cause : Cause) × (line ≡ refusal_line None (refusal_for cause)) × WhereTold files (λ all. IsRefusedIn how (bytes_of all input) cause)

-- the line of a refusal, or of a module that was written
abbrev pub IsLine : Manner → (files files' : Option Files) → (input output line : List ℕ) → Type 0
IsLine how files files' input output line =
    IsRefusalLine how files input line ⊎ (line ≡ refusal_line None (read_fault input)) ⊎ (line ≡ refusal_line None (write_fault output)) ⊎ IsDoneLine how files files' input output line

-- the line of the module that was written was printed
abbrev pub PrintsDone : Manner → (files files' : Option Files) → (input output : List ℕ) → (old new : List ℕ) → Type 0
PrintsDone how files files' input output old new = (line : List ℕ) × IsDoneLine how files files' input output line × Appends line old new

-- less of that line was printed
abbrev pub PrintsLess : Manner → (files files' : Option Files) → (input output : List ℕ) → (old new : List ℕ) → Type 0
PrintsLess how files files' input output old new = (line : List ℕ) × IsDoneLine how files files' input output line × AppendsLess line old new

-- some first bytes of a line of the command, and then some of the line on memory, were printed
abbrev pub RunsOutOfMemory : Manner → (files files' : Option Files) → (input output : List ℕ) → (faults faults' : ℕ) → (old new : List ℕ) → Type 0
RunsOutOfMemory how files files' input output faults faults' old new = (line : List ℕ) × IsLine how files files' input output line × PrintsMemory line faults faults' old new

-- the line of a cause of this status was printed, for which IN is refused; or less of it where the sink has failed
abbrev pub PrintsRefusal : Manner → Option Files → List ℕ → ℕ → ℕ → ℕ → List ℕ → List ℕ → Type 0
PrintsRefusal how files input status faults faults' old new =
    (cause : Cause) × (status ≡ status_of (refusal_for cause)) × WhereTold files (λ all. IsRefusedIn how (bytes_of all input) cause)
    × Prints (refusal_line None (refusal_for cause)) faults faults' old new
