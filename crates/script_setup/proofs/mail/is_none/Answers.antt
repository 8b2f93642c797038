use Rattle.script_setup.proofs.Misbound.{one_type}
use Rattle.script_setup.proofs.mail.is_none.Goals as goal

pub returns-in-len1-up : goal.returns-in-len1-up
returns-in-len1-up c = one_type c.args.types.now c.in-len1-up.len_at_least
