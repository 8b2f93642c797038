use Rattle.std.proofs.Common.{refl, ◌-◌}
use Rattle.wa_types.specs.Begun.{entries}
use Rattle.wasm_grammar.specs.Goals.{kind_of}
use Rattle.wasm_grammar.proofs.ShortItems.{entries_on, entries_below}
use Rattle.wasm_grammar.proofs.machine.Machine.pass_single.Goals as goal

pub returns-clause-ok : goal.returns-clause-ok
returns-clause-ok c = λ bounds stands.
    entries_on c.args.bytes.now.all c.args.self.now.goals c.pop.new.self c.push.new.self (entries (kind_of c.args.kind) c.args.n)
    (kind_of c.args.kind) c.args.n c.args.self.now.at c.short_entries-passed.result c.args.stop
    c.requires.top refl c.pop.ensures c.in_ok-push.ensures.ok stands c.requires.below c.short_entries-passed.ensures.passes

pub returns-clause-below : goal.returns-clause-below
returns-clause-below c =
    entries_below c.args.self.now.goals c.pop.new.self c.push.new.self (entries (kind_of c.args.kind) c.args.n) (kind_of c.args.kind) (c.args.n - c.short_entries-passed.result) c.args.stop
    c.requires.top c.pop.ensures c.in_ok-push.ensures.ok c.requires.below
