use Rattle.script_command.proofs.modules.fetch_module.Goals as goal

pub fetch_rewritten-requires : goal.fetch_rewritten-requires
fetch_rewritten-requires g c = c.requires
