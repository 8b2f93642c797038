use Rattle.std.proofs.Common.{◌≡◌, [], None, map, refl, sym, ap, ◌∙◌, subst, arith}
use Rattle.device_port.specs.Listed.{of_all}
use Rattle.interp.specs.Host.{store_in, waits_in}
use Rattle.mailbox_device.specs.Mail.{Mail, empty_box}
use Rattle.pause_host.specs.Holding.{HoldsArea}
use Rattle.pause_host.specs.Views.{left_of}
use Rattle.host_laws.specs.Places.{stands}
use Rattle.strand_host.specs.declared.program.StrandProgram.{StrandProgram}
use Rattle.strand_host.specs.declared.strands.Strand.{Strand}
use Rattle.strand_host.specs.declared.strands.StrandEvent.{StrandEvent}
use Rattle.strand_host.specs.StrandPrograms.{TellsEvent, stock_of, world_strand}
use Rattle.strand_host.proofs.PlainMoves.{plain_moves}
use Rattle.strand_host.proofs.StartCalls.{call_told, unpaused}
use Rattle.strand_host.proofs.TheLaws.{all_laws}
use Rattle.strand_host.proofs.program.StrandProgram.start_calls.Goals as goal

pub told-requires-clause-asks : goal.told-requires-clause-asks
told-requires-clause-asks g c =
    let r = c.requires.goes.2 in
    let is = r.at.strand.is_set in (
      (let lt = r.turned.1 in omega (arith, lt, is.all)),
      subst (λ ar. HoldsArea ar (store_in c.args.instance)) is.area r.turned.2,
    )

pub returns-in_err-heard-clause-once : goal.returns-in_err-heard-clause-once
returns-in_err-heard-clause-once g c = λ e. c.in_err-heard.ensures.once refl

pub tell-requires-clause-there : goal.tell-requires-clause-there
tell-requires-clause-there g c =
    let is = c.requires.goes.2.at.is in
    omega (arith, is.some, is.dues)

pub tell-requires-clause-slots : goal.tell-requires-clause-slots
tell-requires-clause-slots g c = let is = c.requires.goes.2.at.is in is.slots ∙ sym is.dues

pub tell-requires-clause-few : goal.tell-requires-clause-few
tell-requires-clause-few g c = λ due ticks there leads short.
    let h = c.requires.goes in
    let r = h.2 in
    let s = c.args.strand in
    let m = c.in_ok-heard.heard.moved in
    let s' : Strand = record { area = s.area; left = record s.left { answers = c.told.new.answers }; stage = m.stage } in
    absurd (unpaused all_laws h.0 h.1 (stock_of c.args.self.now) r.left r.used s s' r.held r.at c.args.instance r.code r.steps c.args.task c.args.call (left_of s.left) r.turned.0 r.starts m refl refl refl
    (c.in_ok-heard.ensures.starts r.starts) c.in_ok-heard.ensures.pauses ticks leads)

pub returns-clause-next : goal.returns-clause-next
returns-clause-next g c = λ gw t r.
    let x = stock_of c.args.self.now in
    let i = c.args.instance in
    let s = c.args.strand in
    let l = left_of s.left in
    let m = c.in_ok-heard.heard.moved in
    let w = world_strand gw 0 in
    let s' : Strand = record { area = s.area; left = record s.left { answers = c.told.new.answers }; stage = m.stage } in
    let ds = of_all (λ z. (goal.Device-dyn g z).seen z.1) c.args.devices.now in
    let fs = of_all (λ z. (goal.Device-dyn g z).faults z.1) c.args.devices.now in
    let ds' = of_all (λ z. (goal.Device-dyn g z).seen z.1) c.told.new.devices in
    let fs' = of_all (λ z. (goal.Device-dyn g z).faults z.1) c.told.new.devices in
    let no_boxes = ap (λ (m : Mail). m.boxes) c.in_ok-none.ensures.empty ∙ ap (map empty_box) c.new.ensures.items in
    let comes = c.in_ok-heard.ensures.comes w r.at.strand.is_set r.code r.at.strand.pokes (stands [] r.held) l r.left r.used None r.turned.0 in
    let plain = plain_moves w (stands [] r.held) r.left r.used m _ _ l (store_in i) (waits_in i) no_boxes comes in
    let old : StrandProgram = record c.args.self.now { setting = record c.args.self.now.setting { area = s.area } } in
    let told = call_told all_laws gw t x r.left r.used s s' r.held r.at i r.code r.steps c.args.task c.args.call l r.turned.0 r.starts m refl refl refl (c.in_ok-heard.ensures.starts r.starts)
    c.in_ok-heard.ensures.pauses old c.tell.new.self ds ds' fs fs' plain refl c.tell.ensures.settles in
    let one : StrandEvent = record { strand = 0; event = m.event } in
    let same : one ≡ c.tell.result = ap (λ n. record { strand = n; event = m.event }) (sym c.tell.ensures.event.0) ∙ ap (λ e. record { strand = c.tell.result.strand; event = e }) (sym c.tell.ensures.event.1) in
    subst (λ z. TellsEvent gw t z ds fs ds' fs' c.tell.new.self) same told
