use Rattle.std.proofs.Common.{◌≡◌, ◌+◌, drop, reverse, [], false}
use Rattle.wa_types.specs.View.{code}
use Rattle.wa_types.specs.FirstFault.{size}
use Rattle.wa_types.specs.Typing.{listed}
use Rattle.validate_bodies.specs.Running.{checks}
use Rattle.validate_bodies.specs.Stack.{known, Level}
use Rattle.validate_bodies.proofs.bodies.+check.Given as goal

abbrev pub invariant-check_body-loop-instr : goal.invariant-check_body-loop-instr
invariant-check_body-loop-instr l = record {
  labels : l.labels.items ≡ l.initial.labels.items;
  level : Level l.initial.o l.o;
  place : l.at + size (code (drop l.instr-index l.body)) ≡ l.initial.at + size (code l.body);
  judged : checks l.context (reverse l.labels.items) (code (drop l.instr-index l.body)) (listed l.frame.gives) (known l.o) l.o.free l.at
      ≡ checks l.context (reverse l.labels.items) (code l.body) (listed l.frame.gives) [] false l.initial.at;
}
