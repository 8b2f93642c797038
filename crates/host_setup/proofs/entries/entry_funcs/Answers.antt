use Rattle.std.proofs.Common.{[], ◌∙◌, ap}
use Rattle.host_setup.specs.declared.entries.Entry.{Entry}
use Rattle.host_setup.specs.SetUp.{NamedEntry, entry_func}
use Rattle.host_setup.specs.Views.{entry_of}
use Rattle.host_setup.proofs.IndexTypes.{on_more, on_close}
use Rattle.host_setup.proofs.entries.entry_funcs.Goals as goal

pub loop-entry-preserved : goal.loop-entry-preserved
loop-entry-preserved c = λ p t.
    on_more (λ (e : Entry). entry_func p e.name) [] c.loop-entry.funcs.items c.put.new.items.items c.args.entries.now c.loop-entry.entry-index c.entry-item.result c.entry_func-func.result
    c.in_ok-put.ensures (c.entry_func-func.ensures p t ∙ ap (entry_func p) c.as_str.ensures) c.loop-entry-test.true c.entry-item.is (c.loop-entry.invariant p t)

pub returns : goal.returns
returns c = λ p t. on_close (λ (e : NamedEntry). entry_func p e.name) entry_of [] c.loop-entry.funcs.items c.args.entries.now c.loop-entry.entry-index c.loop-entry-test.false
    (c.loop-entry.invariant p t)
