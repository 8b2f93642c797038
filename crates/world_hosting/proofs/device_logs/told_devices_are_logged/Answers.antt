use Rattle.world_hosting.proofs.DeviceLogs.{devices_logged}
use Rattle.world_hosting.proofs.device_logs.told_devices_are_logged.Goals as goal

pub returns : goal.returns
returns c = devices_logged
