use Rattle.std.proofs.Common.{arith, ◌+◌, ◌-◌, ◌%◌, ◌^◌, ◌∙◌, length, ap}
use Rattle.wa_types.specs.Memory.{bytes_at, number_of_bytes}
use Rattle.interp.specs.Host.{code_in, store_in}
use Rattle.pause_host.proofs.Callings.{memory_is}
use Rattle.pause_host.proofs.Hosting.{memory_shown}
use Rattle.pause_host.proofs.memory.used_of.Goals as goal

pub unreachable-requires : goal.unreachable-requires
unreachable-requires c = memory_shown (code_in c.args.instance.now) (store_in c.args.instance.now) c.requires.memory c.in_default.ensures

pub used_at-requires : goal.used_at-requires
used_at-requires c =
    let same = memory_is (code_in c.args.instance.now) (store_in c.args.instance.now) c.in-Some.memory.now c.requires.memory c.in-Some.ensures in
    let area = c.requires.area in
    omega (arith, ap length same, area.wide, area.inside)

pub returns : goal.returns
returns c =
    let same = memory_is (code_in c.args.instance.now) (store_in c.args.instance.now) c.in-Some.memory.now c.requires.memory c.in-Some.ensures in
    let at = c.args.area.at in
    c.used_at.ensures ∙ ap (λ bytes. (number_of_bytes (bytes_at bytes at 4) + 2 ^ 32 - at) % 2 ^ 32) same
