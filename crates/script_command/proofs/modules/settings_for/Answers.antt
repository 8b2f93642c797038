use Rattle.script_command.proofs.modules.settings_for.Goals as goal

pub choice_for-requires : goal.choice_for-requires
choice_for-requires c = c.requires
