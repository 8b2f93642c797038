use Rattle.wa_model.specs.Outside.{answered}
use Rattle.pause_host.proofs.Advancing.{alone_on_its_way}
use Rattle.asyncify_app.proofs.Runs.{hears, is_answer, told_is}
use Rattle.asyncify_app.proofs.generated_runs.hear_answer.Goals as goal

pub returns : goal.returns
returns c = λ w notes said s.
    hears w c.advance_alone.new.self c.args.program.now notes (answered said) c.in_ok-advance_alone.field-0 s (c.in_ok-advance_alone.ensures.next w notes s.follows s.goes_on)

pub unreachable-requires : goal.unreachable-requires
unreachable-requires c =
    let h = c.requires in
    let s = h.3 in
    is_answer c.in_ok-advance_alone.field-0 h.2
    (told_is h.0 c.advance_alone.new.self c.args.program.now h.1 (answered h.2) c.in_ok-advance_alone.field-0 s (c.in_ok-advance_alone.ensures.next h.0 h.1 s.follows s.goes_on)) c.in_default.not-Answered

pub advance_alone-requires : goal.advance_alone-requires
advance_alone-requires c = let h = c.requires in alone_on_its_way h.0 h.1 c.args.program.now h.3.follows
