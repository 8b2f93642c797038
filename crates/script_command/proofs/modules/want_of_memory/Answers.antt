use Rattle.script_command.proofs.Choices.{blames_memory}
use Rattle.script_command.proofs.modules.want_of_memory.Goals as goal

pub unreachable-requires : goal.unreachable-requires
unreachable-requires c = blames_memory c.args.fault c.requires.0 c.requires.1 c.in_default.not-Memory
