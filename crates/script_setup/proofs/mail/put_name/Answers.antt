use Rattle.script_setup.proofs.Misbound.{one_put}
use Rattle.script_setup.proofs.mail.put_name.Goals as goal

pub returns-clause-names : goal.returns-clause-names
returns-clause-names c = one_put c.args.names.now c.insert.new.self c.args.name c.in_ok-is_new.ensures.keys
