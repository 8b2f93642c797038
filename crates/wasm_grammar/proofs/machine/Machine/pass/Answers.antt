use Rattle.std.proofs.Common.{length}
use Rattle.wasm_grammar.proofs.Faults.{below_stop, stop_within}
use Rattle.wasm_grammar.proofs.machine.Machine.pass.Goals as goal

pub pass_entries-requires-clause-below : goal.pass_entries-requires-clause-below
pass_entries-requires-clause-below c =
    below_stop c.args.self.now.goals c.end_within-end.result c.len-last.result (length c.args.bytes.now.all) c.unwrap_or-stop.result c.len-last.ensures.len c.end_within-end.ensures
    c.unwrap_or-stop.ensures

pub pass_entries-requires-clause-stop : goal.pass_entries-requires-clause-stop
pass_entries-requires-clause-stop c =
    stop_within c.args.self.now.goals c.end_within-end.result c.len-last.result (length c.args.bytes.now.all) c.unwrap_or-stop.result c.len-last.ensures.len c.end_within-end.ensures
    c.unwrap_or-stop.ensures

pub loop-init : goal.loop-init
loop-init c = record {
  stands = c.in_ok-pass_entries.ensures.ok c.args.bounds.now c.requires.stands;
  below = c.in_ok-pass_entries.ensures.below;
  ahead = c.pass_entries.ensures.ahead;
}
