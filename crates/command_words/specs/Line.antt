-- Parts of the command line, as they are made.
use Rattle.std.specs.Prelude.{[]}
use Rattle.clap.specs.Simple.{App}
use Rattle.command_words.specs.Grammar.{line_shape}

-- the line without its commands
abbrev pub bare_line : App
bare_line = record { top = line_shape; subs = [] }
