use Rattle.std.proofs.Common.{◌≡◌, ◌+◌, ◌++◌, length, map, drop}
use Rattle.host_setup.specs.Views.{entry_of as named_of}
use Rattle.pause_host.specs.Views.{entry_of}
use Rattle.pause_host.specs.Settings.{calls_of}
use Rattle.pause_host.proofs.entries.entry_calls.Given as goal

abbrev pub invariant-loop-func : goal.invariant-loop-func
invariant-loop-func l = record {
  told : calls_of (map named_of l.fn.entries.items) l.funcs ≡ map entry_of l.calls.items ++ calls_of (map named_of l.rest.items) (drop l.func-index l.funcs);
  many : l.func-index + length l.rest.items ≡ length l.funcs;
}
