use Rattle.std.proofs.Common.{sym, ap, ◌∙◌}
use Rattle.std.specs.Str.{bytes_eq}
use Rattle.device_port.proofs.Places.{same_bytes}
use Rattle.device_port.proofs.devices.is_of_name.Goals as goal

pub returns : goal.returns
returns g c =
    let seen = (goal.Device-dyn g (c.args.device.now.vtable, c.args.device.now.value)).seen c.args.device.now.value in
    c.eq.ensures ∙ ap (λ n. bytes_eq n c.args.name.now) c.name_of.ensures ∙ sym (same_bytes seen.name c.args.name.now)
