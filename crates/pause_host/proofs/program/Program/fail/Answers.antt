use Rattle.std.proofs.Common.{[], ◌∷◌, refl, sym, subst, arith}
use Rattle.wa_model.specs.declared.events.Event.TheVariants as EV
use Rattle.wa_model.specs.Outside.{ended}
use Rattle.wa_model.specs.Blocking.{note, no_store}
use Rattle.wa_model.specs.Protocol.{over}
use Rattle.host_laws.specs.Places.{stands, has_ended}
use Rattle.pause_host.specs.declared.program.Program.{Program}
use Rattle.pause_host.specs.declared.program.State.TheVariants.{Failed}
use Rattle.pause_host.specs.Programs.{MailAdvances, mail_supply_with}
use Rattle.pause_host.proofs.Advancing.{advanced, failed_moves}
use Rattle.pause_host.specs.Programs.{StopsBehindReceive}
use Rattle.pause_host.proofs.program.Program.fail.Goals as goal

pub returns-clause-next : goal.returns-clause-next
returns-clause-next c = λ w notes os ds counts mail f.
    let x = c.args.self.now in
    let x' : Program = record x { state = Failed c.args.end } in
    let event = EV.Ended c.in_ok-told.told in
    let supply = mail_supply_with x ds counts mail in
    subst (λ (z : Program). MailAdvances w notes os event supply (mail_supply_with z ds counts mail) z) (sym c.put_state.ensures)
    (advanced w notes os x x' (stands (note (ended c.args.end) no_store ∷ []) (over no_store)) (has_ended c.args.end) event no_store 0 supply supply f
    (failed_moves w x.steps_left supply c.args.end c.in_ok-told.told c.in_ok-told.ensures) refl refl refl refl refl refl (omega arith) refl refl refl tt refl)

pub returns-clause-stops : goal.returns-clause-stops
returns-clause-stops c = (subst StopsBehindReceive (sym c.put_state.ensures) (λ r is. refl), refl)
