use Rattle.std.proofs.Common.{◌-◌, All, None, map, sym, ◌∙◌, ap, subst}
use Rattle.wa_model.specs.Protocol.{exports_of}
use Rattle.interp.specs.Host.{code_in, store_in, waits_in}
use Rattle.device_port.specs.Listed.{of_all}
use Rattle.mailbox_device.specs.Mail.{Mail, empty_box}
use Rattle.many_host.specs.Telling.{supply}
use Rattle.pause_host.specs.Moves.{HasShortPokes}
use Rattle.pause_host.specs.Views.{left_of, lines_in, place_in}
use Rattle.pause_host.proofs.Hosting.{memory_kept, memory_there}
use Rattle.strand_host.specs.StrandMoves.{MovesOn}
use Rattle.strand_host.proofs.PlainMoves.{plain_moves}
use Rattle.strand_host.proofs.turns.strand_event.Goals as goal

pub returns-clause-comes : goal.returns-clause-comes
returns-clause-comes g c = λ w is code pokes fits more.
    let i = c.args.instance.now in
    let i' = c.next_event.new.instance in
    let from = place_in (exports_of w.source) w.plan.area (left_of c.args.left.now) (store_in i) (waits_in i) c.args.stage in
    let used = c.next_event.new.steps.used - c.args.steps.now.used in
    let left = c.args.steps.now.left in
    let kept = c.next_event.ensures.answers in
    let l' = left_of c.next_event.new.left in
    let m = c.in_ok-heard.heard.moved in
    let no_boxes = ap (λ (m : Mail). m.boxes) c.in_ok-none.ensures.empty ∙ ap (map empty_box) c.new.ensures.items in
    let next = c.in_ok-next.ensures.comes w is code fits more in
    let comes = c.in_ok-heard.ensures.comes w is (c.next_event.ensures.code ∙ code) (subst (λ ls. All HasShortPokes (lines_in ls.items)) (sym kept) pokes) from l' left used None next in
    let plain = plain_moves w from left used m _ _ l' (store_in i') (waits_in i') no_boxes comes in
    subst (λ ls. MovesOn w from left used m
    (supply (lines_in ls.items) (of_all (λ z. (goal.Device-dyn g z).seen z.1) c.args.devices.now) (of_all (λ z. (goal.Device-dyn g z).faults z.1) c.args.devices.now))
    (supply (lines_in c.told.new.answers.items) (of_all (λ z. (goal.Device-dyn g z).seen z.1) c.told.new.devices) (of_all (λ z. (goal.Device-dyn g z).faults z.1) c.told.new.devices))
    l' (store_in i') (waits_in i')) kept plain

pub told-requires-clause-memory : goal.told-requires-clause-memory
told-requires-clause-memory g c =
    let h = c.requires.there in
    memory_kept (code_in c.args.instance.now) (code_in c.next_event.new.instance) c.next_event.ensures.code (memory_there h.program c.args.setting.now (code_in c.args.instance.now) h.setting h.code_is)
