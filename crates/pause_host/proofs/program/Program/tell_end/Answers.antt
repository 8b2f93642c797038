use Rattle.std.proofs.Common.{Ok, Result, [], ◌∷◌, refl, sym, ap, subst, arith}
use Rattle.std.specs.declared.alloc.AllocError.{AllocError}
use Rattle.wa_model.specs.declared.events.Event.TheVariants as EV
use Rattle.wa_model.specs.Outside.{ended}
use Rattle.wa_model.specs.Blocking.{note}
use Rattle.wa_model.specs.Protocol.{over}
use Rattle.interp.specs.Host.{store_in, waits_in}
use Rattle.host_laws.specs.Places.{stands, has_ended}
use Rattle.pause_host.specs.Views.{left_of}
use Rattle.pause_host.specs.declared.program.Program.{Program}
use Rattle.pause_host.specs.declared.program.State.TheVariants.{Live}
use Rattle.pause_host.specs.declared.stages.Moved.{Moved}
use Rattle.pause_host.specs.declared.stages.Stage.TheVariants.{Ended}
use Rattle.pause_host.specs.Programs.{MailAdvances, mail_supply_with}
use Rattle.pause_host.proofs.Advancing.{advanced, memory_told}
use Rattle.pause_host.proofs.Results.{ending_ok}
use Rattle.pause_host.specs.Programs.{StopsBehindReceive}
use Rattle.pause_host.proofs.program.Program.tell_end.Goals as goal

pub returns-clause-next : goal.returns-clause-next
returns-clause-next c = λ w notes os ds counts mail f code.
    let x = c.args.self.now in
    let i = c.args.instance in
    let s = store_in i in
    let end = c.args.end in
    let x' : Program = record x { state = Live i (Ended end) } in
    let m : Moved = record { event = EV.Ended c.in_ok-told.told; stage = Ended end } in
    let r : Result Moved AllocError = Ok m in
    let supply = mail_supply_with x ds counts mail in
    let moves = ending_ok w end s x.steps_left 0 r supply (left_of x.left) (waits_in i) refl (ap EV.Ended c.in_ok-told.ensures) refl in
    subst (λ (z : Program). MailAdvances w notes os m.event supply (mail_supply_with z ds counts mail) z) (sym c.put_state.ensures)
    (advanced w notes os x x' (stands (note (ended end) s ∷ []) (over s)) (has_ended end) m.event s 0 supply supply f moves refl refl refl refl refl refl (omega arith) refl refl
    (memory_told w x i (Ended end) f.setting code) code refl)

pub returns-clause-stops : goal.returns-clause-stops
returns-clause-stops c = (subst StopsBehindReceive (sym c.put_state.ensures) (λ r is. refl), refl)
