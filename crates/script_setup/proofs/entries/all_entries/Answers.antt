use Rattle.std.proofs.Common.{◌≡◌, ◌++◌, ◌∙◌, ap, sym, subst, map, List}
use Rattle.host_setup.specs.Views.{entry_of as named_entry_of}
use Rattle.script_reader.specs.declared.script.EntryText.{EntryText}
use Rattle.script_reader.specs.declared.script.StrandText.{StrandText}
use Rattle.script_reader.specs.Views.{entry_of, program_of, strand_of}
use Rattle.script_setup.specs.SetUpRules.{entries_in, named_entry}
use Rattle.script_setup.proofs.StrandLoops.{all_put, entries_of_all, first_put, more_put}
use Rattle.script_setup.proofs.entries.all_entries.Goals as goal

pub loop-strand-init : goal.loop-strand-init
loop-strand-init c =
    let t = program_of c.args.text.now in
    subst (λ (xs : List StrandText). map named_entry (entries_in t) ≡ map named_entry_of c.in_ok-entries.entries.items ++ map named_entry (entries_of_all (map strand_of xs)))
    (sym c.deref-strand-items.ensures.value)
    (first_put t.entries t.strands c.in_ok-entries.entries.items (c.in_ok-entries.ensures ∙ ap (λ (ts : List EntryText). map named_entry (map entry_of ts)) c.deref.ensures.value))

pub loop-strand-preserved : goal.loop-strand-preserved
loop-strand-preserved c =
    more_put c.deref-strand-items.result.now c.loop-strand.strand-index c.strand-item.result c.loop-strand.entries.items c.put_entries.new.entries.items
    (map named_entry (entries_in (program_of c.args.text.now))) c.loop-strand-test.true c.strand-item.is
    (c.in_ok-put_entries.ensures ∙ ap (λ (ts : List EntryText). map named_entry_of c.loop-strand.entries.items ++ map named_entry (map entry_of ts)) c.deref-in-loop-strand.ensures.value)
    c.loop-strand.invariant

pub returns : goal.returns
returns c =
    all_put c.deref-strand-items.result.now c.loop-strand.strand-index c.loop-strand.entries.items (map named_entry (entries_in (program_of c.args.text.now))) c.loop-strand-test.false
    c.loop-strand.invariant
