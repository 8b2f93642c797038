use Rattle.std.proofs.Common.{◌≡◌, ◌∙◌, ap, sym}
use Rattle.wa_model.specs.Outside.{paused}
use Rattle.wa_model.specs.View.{event_of}
use Rattle.pause_host.proofs.Advancing.{alone_on_its_way}
use Rattle.asyncify_app.proofs.Runs.{hears, is_pause, told_is}
use Rattle.asyncify_app.proofs.generated_runs.hear_pause.Goals as goal

pub returns : goal.returns
returns c = λ w notes ticks used s.
    let a = c.in_ok-used.ensures.next w notes s.follows s.goes_on in
    let e : paused c.in-Paused.ticks c.in-Paused.used ≡ paused ticks used =
    sym (ap event_of c.in-Paused.is) ∙ told_is w c.advance_alone.new.self c.args.program.now notes (paused ticks used) c.in_ok-used.field-0 s a in
    (cc, hears w c.advance_alone.new.self c.args.program.now notes (paused ticks used) c.in_ok-used.field-0 s a)

pub unreachable-requires : goal.unreachable-requires
unreachable-requires c =
    let h = c.requires in
    let s = h.4 in
    is_pause c.in_ok-used.field-0 h.2 h.3
    (told_is h.0 c.advance_alone.new.self c.args.program.now h.1 (paused h.2 h.3) c.in_ok-used.field-0 s (c.in_ok-used.ensures.next h.0 h.1 s.follows s.goes_on)) c.in_default.not-Paused

pub advance_alone-requires : goal.advance_alone-requires
advance_alone-requires c = let h = c.requires in alone_on_its_way h.0 h.1 c.args.program.now h.4.follows
