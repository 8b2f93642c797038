-- What a refused module leaves.
use Rattle.std.specs.Prelude.{◌≡◌, List, ℕ, Option}
use Rattle.script_model.specs.Command.{Manner}
use Rattle.vault_port.specs.Files.{Files, bytes_of}
use Rattle.vault_port.specs.Told.{WhereTold}
use Rattle.transcript.specs.Printing.{refusal_of}
use Rattle.transform_command.specs.Sources.{Cause, IsRefusedIn, refusal_for}
use Rattle.transform_command.specs.declared.transform.TransformFault.{TransformFault}
use Rattle.transform_command.specs.declared.transform.TransformFault.TheVariants.{Refused as transform_refused}

-- a refusal of a cause, for which, where the files are told, IN is refused
abbrev pub IsToldRefusal : Manner → Option Files → List ℕ → TransformFault → Type 0
IsToldRefusal how files input (transform_refused kind) = (cause : Cause) × WhereTold files (λ all. IsRefusedIn how (bytes_of all input) cause) × (refusal_of kind ≡ refusal_for cause)
IsToldRefusal how files input _ = Unit {0}

-- the fault is a refusal of the source
abbrev pub IsOfSource : TransformFault → Type 0
IsOfSource (transform_refused kind) = Unit {0}
IsOfSource _ = ⊥
