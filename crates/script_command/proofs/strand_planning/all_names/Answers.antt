-- The names of the lines of all strands.
use Rattle.std.proofs.Common.{◌∙◌, ◌++◌, List, [], ◌∷◌, map, ap}
use Rattle.wa_types.specs.View.{module_of}
use Rattle.script_model.specs.Transcript.{Names}
use Rattle.script_reader.specs.declared.script.StrandText.{StrandText}
use Rattle.script_reader.specs.Views.{program_of, strand_of}
use Rattle.script_setup.specs.SetUpRules.{program_names, strand_names}
use Rattle.transcript.specs.declared.events.Names.{Names as NamesValue}
use Rattle.transcript.specs.Printing.{names_of}
use Rattle.script_command.proofs.strand_planning.all_names.Goals as goal

pub returns : goal.returns
returns c =
    let first =
    ap (map names_of) c.in_ok-push.ensures.items ∙ ap (λ (xs : List NamesValue). map names_of (xs ++ c.in_ok-first.first ∷ [])) c.new-names.ensures.items
    ∙ ap (λ (n : Names). n ∷ []) c.in_ok-first.ensures in
    c.in_ok-put_names.ensures ∙ ap (λ (ns : List Names). ns ++ map (strand_names (module_of c.args.«module».now)) (map strand_of c.deref.result.now)) first
    ∙ ap (λ (ss : List StrandText). program_names (module_of c.args.«module».now) (program_of c.args.text.now) ∷ map (strand_names (module_of c.args.«module».now)) (map strand_of ss)) c.deref.ensures.value
