use Rattle.world_hosting.proofs.MailLogs.{mail_devices_logged}
use Rattle.world_hosting.proofs.device_logs.told_devices_with_mail_are_logged.Goals as goal

pub returns : goal.returns
returns c = mail_devices_logged
