use Rattle.wa_model.specs.declared.events.End.TheVariants.{Done}
use Rattle.wa_model.specs.Outside.{ended}
use Rattle.pause_host.proofs.Advancing.{alone_on_its_way}
use Rattle.asyncify_app.proofs.Runs.{hears, is_end, told_is}
use Rattle.asyncify_app.proofs.generated_runs.hear_end.Goals as goal

pub returns : goal.returns
returns c = λ w notes s.
    hears w c.advance_alone.new.self c.args.program.now notes (ended Done) c.in_ok-advance_alone.field-0 s (c.in_ok-advance_alone.ensures.next w notes s.follows s.goes_on)

pub unreachable-requires : goal.unreachable-requires
unreachable-requires c =
    let h = c.requires in
    let s = h.2 in
    is_end c.in_ok-advance_alone.field-0 Done
    (told_is h.0 c.advance_alone.new.self c.args.program.now h.1 (ended Done) c.in_ok-advance_alone.field-0 s (c.in_ok-advance_alone.ensures.next h.0 h.1 s.follows s.goes_on)) c.in_default.not-Ended

pub advance_alone-requires : goal.advance_alone-requires
advance_alone-requires c = let h = c.requires in alone_on_its_way h.0 h.1 c.args.program.now h.2.follows
