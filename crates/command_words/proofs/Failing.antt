-- What a fault of a parse says of the words.
use Rattle.std.proofs.Common.{◌≡◌, Option, None, Err, refl}
use Rattle.clap.specs.Values.{kind_of}
use Rattle.clap.specs.declared.error.Error.{Error}
use Rattle.clap.specs.declared.error.kind.ErrorKind.TheVariants.{OutOfMemory}
use Rattle.script_model.specs.Spelled.{Spelled}
use Rattle.command_words.specs.Words.{Reads, spelled_of}
use Rattle.command_words.specs.declared.words.WordsFault.{WordsFault}
use Rattle.command_words.specs.declared.words.WordsFault.TheVariants.{Memory, Usage}

pub fails_as : (fault : WordsFault) (spelling : Option Spelled) (e : Error) → ((kind_of e ≡ OutOfMemory → ⊥) → spelling ≡ None) → (fault ≡ Usage → kind_of e ≡ OutOfMemory → ⊥)
    → Reads spelled_of (Err fault) spelling
fails_as Memory spelling e nothing others = tt
fails_as Usage spelling e nothing others = nothing (others refl)
