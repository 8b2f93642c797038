use Rattle.pause_host.specs.declared.stages.Moved.{Moved}
use Rattle.std.proofs.Common.{cond, length, map, ◌∙◌, ap, refl, sym, subst}
use Rattle.wa_model.specs.declared.events.Event.TheVariants as EV
use Rattle.wa_model.specs.Blocking.{poked}
use Rattle.wa_model.specs.Protocol.{exports_of}
use Rattle.wa_model.specs.View.{answer_of, poke_of}
use Rattle.interp.specs.Host.{store_in, waits_in}
use Rattle.host_laws.specs.Places.{nowhere}
use Rattle.pause_host.specs.Holding.{PokesInside, are_inside}
use Rattle.pause_host.specs.Moves.{ComesFrom, PlaceFits}
use Rattle.pause_host.specs.Views.{answering, place_in, with_asker}
use Rattle.pause_host.specs.declared.stages.Stage.TheVariants as S
use Rattle.pause_host.proofs.Stagings.{answer_inside, tell_comes}
use Rattle.pause_host.proofs.running.tell_answer.Goals as goal

pub returns-clause-comes : goal.returns-clause-comes
returns-clause-comes c = λ w l lines left f.
    let s = store_in c.args.instance.now in
    let waits = waits_in c.args.instance.now in
    let s' = poked s (answer_of c.args.answer).pokes in
    let from = place_in (exports_of w.source) w.plan.area l s waits (S.Answering c.args.task c.args.answer) in
    let m : Moved = record { event = EV.Answered c.args.answer.said; stage = c.stage_told-stage.result } in
    let at = with_asker nowhere s c.args.task waits (answering l c.args.answer.said s') in
    let test = answer_inside w (are_inside (length s.memory) (answer_of c.args.answer).pokes) at f in
    let written = c.write_pokes.ensures.store ∙ ap (λ ps. poked s (map poke_of ps)) c.deref.ensures.value in
    subst (λ z. ComesFrom w from left 0 m lines lines l z (waits_in c.write_pokes.new.instance)) (sym written)
    (subst (λ ws. ComesFrom w from left 0 m lines lines l s' ws) (sym c.write_pokes.ensures.waits)
    (subst (λ b. ComesFrom w (cond b at nowhere) left 0 m lines lines l s' waits) (sym test)
    (tell_comes w s c.args.task waits left m lines l c.args.answer.said s' (subst (λ b. PlaceFits w (cond b at nowhere)) test f) refl c.stage_told-stage.ensures.stage)))

pub write_pokes-requires-clause-inside : goal.write_pokes-requires-clause-inside
write_pokes-requires-clause-inside c =
    subst (λ ps. PokesInside (length (store_in c.args.instance.now).memory) (map poke_of ps)) (sym c.deref.ensures.value) c.requires.inside
