use Rattle.std.proofs.Common.{◌≡◌, ◌++◌, map, take}
use Rattle.wa_types.specs.View.{module_of}
use Rattle.script_reader.specs.declared.script.StrandText.{StrandText}
use Rattle.script_reader.specs.Views.{strand_of}
use Rattle.script_setup.specs.SetUpRules.{strand_names}
use Rattle.transcript.specs.Printing.{names_of}
use Rattle.script_command.proofs.strand_planning.put_names.Given as goal

abbrev pub invariant-loop-strand : goal.invariant-loop-strand
invariant-loop-strand l =
    map names_of l.names.items ≡ map names_of l.fn.names.items ++ map (λ (s : StrandText). strand_names (module_of l.«module») (strand_of s)) (take l.strand-index l.strands)
