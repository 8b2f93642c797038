use Rattle.std.proofs.Common.{◌-◌, All, [], refl, sym, ◌∙◌, ap, subst, arith}
use Rattle.wa_model.specs.Protocol.{exports_of, starting}
use Rattle.interp.specs.Host.{code_in, store_in, waits_in}
use Rattle.host_laws.specs.Places.{stands}
use Rattle.pause_host.specs.Mailing.{awaits_in, latest, mail_supply}
use Rattle.pause_host.specs.Moves.{HasShortPokes, Moves}
use Rattle.pause_host.specs.Views.{left_of, lines_in, place_in}
use Rattle.pause_host.specs.declared.program.Program.{Program}
use Rattle.pause_host.specs.declared.program.State.TheVariants.{Live}
use Rattle.pause_host.specs.Programs.{MailAdvances, mail_supply_of}
use Rattle.pause_host.proofs.Hosting.{memory_kept, memory_there}
use Rattle.pause_host.proofs.Advancing.{advanced, same_place, memory_told}
use Rattle.pause_host.specs.Programs.{StopsBehindReceive}
use Rattle.pause_host.proofs.Stopping.{heard_stops}
use Rattle.pause_host.proofs.program.Program.begin.Goals as goal

pub returns-clause-next : goal.returns-clause-next
returns-clause-next g c = λ w notes os code f.
    let x = c.args.self.now in
    let old = mail_supply_of (λ z. (goal.Device-dyn g z).seen z.1) (λ z. (goal.Device-dyn g z).faults z.1) x c.args.devices.now c.args.mail.now in
    let new = mail_supply (λ z. (goal.Device-dyn g z).seen z.1) (λ z. (goal.Device-dyn g z).faults z.1) (lines_in c.told.new.answers.items) c.told.new.devices c.told.new.mail
    (awaits_in x.setting (latest c.in_ok-heard.heard.receive x.receive)) in
    let is = f.setting in
    let i = c.args.instance in
    let i' = c.start.new.instance in
    let from = stands [] (starting c.args.func (store_in i) (left_of x.left)) in
    let next = c.in_ok-next.ensures.comes w is code f.fits in
    let kept = c.start.ensures.answers in
    let used0 = c.start.new.steps.used - c.unused-steps.result.used in
    let l' = left_of c.start.new.left in
    let moves1 = c.in_ok-heard.ensures.comes w is (c.start.ensures.code ∙ code) (subst (λ ls. All HasShortPokes (lines_in ls.items)) (sym kept) f.pokes) from l' c.unused-steps.result.left used0 x.receive next in
    let to = place_in (exports_of w.source) w.plan.area l' (store_in i') (waits_in i') c.in_ok-heard.heard.moved.stage in
    let moves0 = subst (λ ls. Moves w from c.unused-steps.result.left (record old { lines = lines_in ls.items }) c.in_ok-heard.heard.moved.event (store_in i') used0 new to) kept moves1 in
    let moves = subst (λ n. Moves w from n old c.in_ok-heard.heard.moved.event (store_in i') (c.start.new.steps.used - c.unused-steps.result.used) new to) c.unused-steps.ensures.left moves0 in
    let stage = c.in_ok-heard.heard.moved.stage in
    let x' : Program = record x { left = record c.start.new.left { answers = c.told.new.answers }; receive = latest c.in_ok-heard.heard.receive x.receive; steps_left = c.start.new.steps.left; state = Live i' stage } in
    let used = c.start.new.steps.used - c.unused-steps.result.used in
    subst
    (λ (z : Program). MailAdvances w notes os c.in_ok-heard.heard.moved.event old (mail_supply_of (λ z. (goal.Device-dyn g z).seen z.1) (λ z. (goal.Device-dyn g z).faults z.1) z c.told.new.devices c.told.new.mail) z)
    (sym (c.put_state.ensures ∙ ap (λ (z : Program). record z { state = Live i' stage }) c.put_receive.ensures))
    (advanced w notes os x x' from to c.in_ok-heard.heard.moved.event (store_in i') used old new f moves refl refl refl refl refl refl
    (omega (arith, c.start.ensures.sum, c.start.ensures.grows, c.unused-steps.ensures.left))
    (same_place w x (left_of c.start.new.left) (store_in i') (waits_in i') stage is) refl
    (memory_told w x i' stage is (c.start.ensures.code ∙ code)) (c.start.ensures.code ∙ code) c.in_ok-heard.ensures.pauses)

pub start-requires-clause-there : goal.start-requires-clause-there
start-requires-clause-there g c =
    let h = c.requires in
    record { program = h.program; setting = h.at.setting; code_is = h.code; fits = h.at.fits; holds = h.at.holds }

pub told-requires-clause-memory : goal.told-requires-clause-memory
told-requires-clause-memory g c =
    let h = c.requires in
    memory_kept (code_in c.args.instance) (code_in c.start.new.instance) c.start.ensures.code (memory_there h.program c.args.self.now.setting (code_in c.args.instance) h.at.setting h.code)

pub returns-clause-receives : goal.returns-clause-receives
returns-clause-receives g c = λ none.
    let x = c.args.self.now in
    let h = c.in_ok-heard.heard in
    subst StopsBehindReceive (sym (c.put_state.ensures ∙ ap (λ (z : Program). record z { state = Live c.start.new.instance h.moved.stage }) c.put_receive.ensures))
    (heard_stops x.setting h x.receive c.in_ok-heard.ensures.receives none)
