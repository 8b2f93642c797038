-- What is opened is played, by whether it has strands.
use Rattle.script_command.proofs.NoStrands.{plainly_ready}
use Rattle.script_command.proofs.playing.play.Goals as goal

pub play_plainly-requires-clause-plays : goal.play_plainly-requires-clause-plays
play_plainly-requires-clause-plays g c = plainly_ready c.args.opened c.requires.ready c.in-None.is

pub play_strands-requires-clause-some : goal.play_strands-requires-clause-some
play_strands-requires-clause-some g c = (_, c.in-Some.is)
