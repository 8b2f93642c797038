use Rattle.std.proofs.Common.{[], ◌∙◌, ap, List}
use Rattle.wa_types.specs.View.{module_of}
use Rattle.host_setup.specs.declared.entries.Entry.{Entry}
use Rattle.host_setup.specs.SetUp.{NamedEntry, are_args, entry_func}
use Rattle.host_setup.specs.Views.{entry_of}
use Rattle.host_setup.proofs.IndexTypes.{on_more, on_close, map_map}
use Rattle.host_setup.proofs.Positions.{mapped_at}
use Rattle.host_setup.proofs.entries.have_args.Goals as goal

pub loop-i-preserved : goal.loop-i-preserved
loop-i-preserved c =
    on_more (λ (e : Entry). are_args (module_of c.args.«module».now) e.args.items (entry_func (module_of c.args.«module».now) e.name)) [] c.loop-i.tests.items c.put.new.items.items
    c.args.entries.now c.loop-i.i
    c.index-entries-i.result c.are_args-test.result c.in_ok-put.ensures
    (c.are_args-test.ensures ∙ ap (λ (a : List _). are_args (module_of c.args.«module».now) a c.func_at-func.result) c.deref.ensures.value
    ∙ ap (are_args (module_of c.args.«module».now) c.index-entries-i.result.args.items)
    (c.func_at-func.ensures
    ∙ mapped_at (λ (e : Entry). entry_func (module_of c.args.«module».now) e.name) c.args.funcs.now c.args.entries.now c.loop-i.i c.index-entries-i.result
    (c.requires.funcs ∙ map_map (λ (e : NamedEntry). entry_func (module_of c.args.«module».now) e.name) entry_of c.args.entries.now) c.loop-i-test.true c.index-entries-i.is))
    c.loop-i-test.true c.index-entries-i.is c.loop-i.invariant

pub returns : goal.returns
returns c =
    on_close (λ (e : NamedEntry). are_args (module_of c.args.«module».now) e.args (entry_func (module_of c.args.«module».now) e.name)) entry_of [] c.loop-i.tests.items c.args.entries.now
    c.loop-i.i c.loop-i-test.false
    c.loop-i.invariant
