use Rattle.std.proofs.Common.{◌≡◌, ◌-◌, false, refl, sym, ap, ◌∙◌, subst, arith}
use Rattle.device_port.specs.Listed.{of_all}
use Rattle.strand_host.specs.declared.program.StrandProgram.{StrandProgram}
use Rattle.strand_host.specs.declared.strands.Strand.{Strand}
use Rattle.strand_host.specs.declared.strands.StrandEvent.{StrandEvent}
use Rattle.strand_host.specs.StrandPrograms.{TellsEvent, stock_of, world_strand}
use Rattle.strand_host.proofs.GoingOn.{due_in_range, fits_w, hosts, not_ended, tells_event}
use Rattle.strand_host.proofs.StandingEnds.{due_fits}
use Rattle.strand_host.proofs.TheLaws.{all_laws}
use Rattle.strand_host.proofs.program.StrandProgram.go_on.Goals as goal

pub strand_event-requires-clause-there : goal.strand_event-requires-clause-there
strand_event-requires-clause-there g c =
    let h = c.requires.goes in hosts h.0 h.1 (stock_of c.args.self.now) c.args.instance c.args.number c.args.strand false h.2

pub tell-requires-clause-there : goal.tell-requires-clause-there
tell-requires-clause-there g c =
    let h = c.requires.goes in
    let a = h.2.at in
    let is = a.is in
    omega (arith, a.there, is.dues)

pub tell-requires-clause-slots : goal.tell-requires-clause-slots
tell-requires-clause-slots g c = let is = c.requires.goes.2.at.is in is.slots ∙ sym is.dues

pub tell-requires-clause-few : goal.tell-requires-clause-few
tell-requires-clause-few g c = λ due ticks there leads short.
    let h = c.requires.goes in
    let gw = h.0 in
    let t = h.1 in
    let at = h.2 in
    let k = c.args.number in
    let s = c.args.strand in
    let x = stock_of c.args.self.now in
    let i = c.args.instance in
    let i' = c.strand_event.new.instance in
    let m = c.in_ok-moved.moved in
    let s' : Strand = record { area = s.area; left = c.strand_event.new.left; stage = m.stage } in
    let comes = c.in_ok-moved.ensures.comes (world_strand gw k) at.at.strand.is_set at.code at.at.strand.pokes (fits_w gw t x i k s false at) (not_ended gw t x i k s false at) in
    due_in_range all_laws due_fits gw t x i k s at i' s' refl c.unused-steps.result.left (c.strand_event.new.steps.used - c.unused-steps.result.used) c.unused-steps.ensures.left m refl _ _ _ _ comes
    c.in_ok-moved.ensures.pauses due ticks there leads short

pub returns-clause-next : goal.returns-clause-next
returns-clause-next g c = λ gw t at.
    let k = c.args.number in
    let s = c.args.strand in
    let x = stock_of c.args.self.now in
    let i = c.args.instance in
    let i' = c.strand_event.new.instance in
    let m = c.in_ok-moved.moved in
    let used = c.strand_event.new.steps.used - c.unused-steps.result.used in
    let s' : Strand = record { area = s.area; left = c.strand_event.new.left; stage = m.stage } in
    let ds = of_all (λ z. (goal.Device-dyn g z).seen z.1) c.args.devices.now in
    let fs = of_all (λ z. (goal.Device-dyn g z).faults z.1) c.args.devices.now in
    let ds' = of_all (λ z. (goal.Device-dyn g z).seen z.1) c.strand_event.new.devices in
    let fs' = of_all (λ z. (goal.Device-dyn g z).faults z.1) c.strand_event.new.devices in
    let comes = c.in_ok-moved.ensures.comes (world_strand gw k) at.at.strand.is_set at.code at.at.strand.pokes (fits_w gw t x i k s false at) (not_ended gw t x i k s false at) in
    let left : c.strand_event.new.steps.left ≡ c.args.self.now.steps_left - used = omega (arith, c.strand_event.ensures.sum, c.strand_event.ensures.grows, c.unused-steps.ensures.left) in
    let old : StrandProgram = record c.args.self.now { setting = record c.args.self.now.setting { area = s.area }; steps_left = c.strand_event.new.steps.left } in
    let told = tells_event all_laws due_fits gw t x i k s at i' s' refl c.unused-steps.result.left used c.unused-steps.ensures.left m refl ds ds' fs fs' comes c.in_ok-moved.ensures.pauses
    c.tell.ensures.short (comes.pokes at.at.strand.pokes) (c.strand_event.ensures.code ∙ at.code) old c.tell.new.self (ap (λ n. record x { steps_left = n }) left) c.tell.ensures.settles in
    let one : StrandEvent = record { strand = k; event = m.event } in
    let same : one ≡ c.tell.result = ap (λ n. record { strand = n; event = m.event }) (sym c.tell.ensures.event.0) ∙ ap (λ e. record { strand = c.tell.result.strand; event = e }) (sym c.tell.ensures.event.1) in
    subst (λ z. TellsEvent gw t z ds fs ds' fs' c.tell.new.self) same told
