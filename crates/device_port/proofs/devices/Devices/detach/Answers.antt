use Rattle.std.proofs.Common.{◌∙◌}
use Rattle.device_port.proofs.Places.{removed, taken_out_by}
use Rattle.device_port.proofs.devices.Devices.detach.Goals as goal

pub returns-clause-devices : goal.returns-clause-devices
returns-clause-devices g c = removed _ _ _ _ c.remove.ensures.items

pub returns-clause-counts : goal.returns-clause-counts
returns-clause-counts g c = removed _ _ _ _ c.remove.ensures.items

pub returns-clause-taken_out : goal.returns-clause-taken_out
returns-clause-taken_out g c = λ name first. removed _ _ _ _ c.remove.ensures.items ∙ taken_out_by name _ _ first
