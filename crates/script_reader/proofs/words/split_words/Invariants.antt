use Rattle.std.proofs.Common.{◌≡◌, length, drop}
use Rattle.std.specs.List.{slice_split}
use Rattle.script_model.specs.ScriptLines.{is_blank}
use Rattle.script_reader.specs.Reading.{behind_words, told_words}
use Rattle.script_reader.proofs.words.split_words.Given as goal

-- the words of the pieces that are left stand behind those read
abbrev pub invariant-loop-piece : goal.invariant-loop-piece
invariant-loop-piece l = behind_words l.words.items (told_words (drop (length l.yielded) (slice_split is_blank l.fn.line))) ≡ told_words (slice_split is_blank l.fn.line)
