use Rattle.std.proofs.Common.{ap, sym, ◌∙◌, ◌-◌, List, map}
use Rattle.script_model.specs.Script.{EntryText}
use Rattle.script_reader.specs.declared.script.StrandText.{StrandText}
use Rattle.script_reader.specs.Views.{program_of, strand_of}
use Rattle.script_setup.specs.Views.{line_among}
use Rattle.script_setup.proofs.StrandLoops.{entries_behind, entries_of_all, line_here, line_later}
use Rattle.script_setup.proofs.entries.entry_line.Goals as goal

pub returns-in-Some : goal.returns-in-Some
returns-in-Some c =
    let t = program_of c.args.text.now in
    line_here c.args.text.now.entries.items c.deref.result.now c.deref.ensures.value (entries_of_all t.strands) c.args.entry c.in-Some.entry.now c.in-Some.ensures.lookup.3.0
    c.in-Some.ensures.lookup.1
    ∙ ap (λ (es : List EntryText). line_among es c.args.entry) (sym (entries_behind t.entries t.strands))

pub returns-in-None : goal.returns-in-None
returns-in-None c =
    let t = program_of c.args.text.now in
    c.line_behind.ensures ∙ ap (λ (ss : List StrandText). line_among (entries_of_all (map strand_of ss)) (c.args.entry - c.len.result)) c.deref-in-None.ensures.value
    ∙ ap (λ n. line_among (entries_of_all t.strands) (c.args.entry - n)) (c.len.ensures ∙ c.args.text.now.entries.ok.0)
    ∙ line_later c.args.text.now.entries.items c.deref.result.now c.deref.ensures.value (entries_of_all t.strands) c.args.entry c.in-None.ensures.lookup.3
    ∙ ap (λ (es : List EntryText). line_among es c.args.entry) (sym (entries_behind t.entries t.strands))
