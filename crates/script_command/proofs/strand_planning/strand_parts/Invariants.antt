use Rattle.std.proofs.Common.{◌++◌, ◌≡◌, List, map}
use Rattle.std.specs.List.{AllZip}
use Rattle.script_model.specs.Script.{StrandText}
use Rattle.script_reader.specs.Views.{strand_of}
use Rattle.script_command.specs.StrandViews.{IsStrandPart}
use Rattle.script_command.proofs.strand_planning.strand_parts.Given as goal

-- those that are planned, and those to come
abbrev pub invariant-loop-text : goal.invariant-loop-text
invariant-loop-text l = (ss : List StrandText) × AllZip IsStrandPart ss l.parts.items × (map strand_of l.fn.texts.items ≡ ss ++ map strand_of l.text-iterator.rest.items)
