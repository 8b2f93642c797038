use Rattle.wasm_reader.proofs.GoingOn.{going_on, going_from, first_from, same_machine, same_from}
use Rattle.wasm_reader.proofs.progress.read_on.Goals.{in-Some, in-None+in_ok-machine-in-None}
use Rattle.wasm_reader.proofs.progress.read_on.Goals as goal

pub feed-requires-clause-stands : goal.feed-requires-clause-stands
feed-requires-clause-stands c =
    elim c.match-machine.branch [
      | in-Some w ↦ same_machine c.args.bounds.now c.args.file.now.all w.in-Some.machine c.match-machine.machine w.machine-is
          (going_on c.args.bounds.now c.requires.0 c.requires.1 c.args.file.now.all c.args.file.now.base c.args.machine w.in-Some.machine w.in-Some.is c.requires.2 c.requires.3)
      | in-None+in_ok-machine-in-None w ↦ same_machine c.args.bounds.now c.args.file.now.all w.in_ok-machine-in-None.machine c.match-machine.machine w.machine-is
          (w.in_ok-machine-in-None.ensures.stands c.args.bounds.now c.args.file.now.all)
    ]

pub feed-requires-clause-from : goal.feed-requires-clause-from
feed-requires-clause-from c =
    elim c.match-machine.branch [
      | in-Some w ↦ same_from c.args.file.now.base w.in-Some.machine c.match-machine.machine w.machine-is
          (going_from c.args.bounds.now c.requires.0 c.args.file.now.base c.args.machine w.in-Some.machine w.in-Some.is c.requires.2)
      | in-None+in_ok-machine-in-None w ↦ first_from c.args.bounds.now c.requires.0 c.args.file.now.base c.args.machine c.match-machine.machine w.in-None.is c.requires.2
    ]

pub returns-in-Ok-clause-going : goal.returns-in-Ok-clause-going
returns-in-Ok-clause-going c = (c.in-Ok.ensures.ok, c.feed.ensures.from)
