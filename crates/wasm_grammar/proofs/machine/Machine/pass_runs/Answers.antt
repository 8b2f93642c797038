use Rattle.std.proofs.Common.{◌-◌}
use Rattle.wa_types.specs.Begun.{entries, some_runs}
use Rattle.wasm_grammar.proofs.ShortItems.{runs_on, entries_below}
use Rattle.wasm_grammar.proofs.machine.Machine.pass_runs.Goals as goal

pub returns-clause-ok : goal.returns-clause-ok
returns-clause-ok c = λ bounds stands.
    runs_on c.args.bytes.now.all c.args.self.now.goals c.pop.new.self c.push.new.self c.args.n c.args.self.now.at c.short_runs-passed.result c.args.stop
    c.requires.top c.pop.ensures c.in_ok-push.ensures.ok stands c.requires.below c.short_runs-passed.ensures.passes

pub returns-clause-below : goal.returns-clause-below
returns-clause-below c =
    entries_below c.args.self.now.goals c.pop.new.self c.push.new.self (entries some_runs c.args.n) some_runs (c.args.n - c.short_runs-passed.result) c.args.stop
    c.requires.top c.pop.ensures c.in_ok-push.ensures.ok c.requires.below
