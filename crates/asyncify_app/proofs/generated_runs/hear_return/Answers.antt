use Rattle.std.proofs.Common.{Some, ◌≡◌, ◌∙◌, ap, sym}
use Rattle.wa_types.specs.declared.values.Value.TheVariants as V
use Rattle.wa_model.specs.Outside.{returned}
use Rattle.wa_model.specs.View.{event_of}
use Rattle.pause_host.proofs.Advancing.{alone_on_its_way}
use Rattle.asyncify_app.proofs.Runs.{hears, is_return, told_is}
use Rattle.asyncify_app.proofs.generated_runs.hear_return.Goals as goal

pub returns : goal.returns
returns c = λ w notes entry value s.
    let a = c.in_ok-value.ensures.next w notes s.follows s.goes_on in
    let number = c.number_of.ensures in
    let e : returned c.in-Returned.entry c.in-Returned.value ≡ returned entry (Some (V.I32 value)) =
    sym (ap event_of c.in-Returned.is) ∙ told_is w c.advance_alone.new.self c.args.program.now notes (returned entry (Some (V.I32 value))) c.in_ok-value.field-0 s a in
    (cc, hears w c.advance_alone.new.self c.args.program.now notes (returned entry (Some (V.I32 value))) c.in_ok-value.field-0 s a)

pub number_of-requires : goal.number_of-requires
number_of-requires c =
    let h = c.requires in
    let s = h.4 in
    let e : returned c.in-Returned.entry c.in-Returned.value ≡ returned h.2 (Some (V.I32 h.3)) =
    sym (ap event_of c.in-Returned.is)
    ∙ told_is h.0 c.advance_alone.new.self c.args.program.now h.1 (returned h.2 (Some (V.I32 h.3))) c.in_ok-value.field-0 s (c.in_ok-value.ensures.next h.0 h.1 s.follows s.goes_on) in
    (h.3, cc)

pub unreachable-requires : goal.unreachable-requires
unreachable-requires c =
    let h = c.requires in
    let s = h.4 in
    is_return c.in_ok-value.field-0 h.2 (Some (V.I32 h.3))
    (told_is h.0 c.advance_alone.new.self c.args.program.now h.1 (returned h.2 (Some (V.I32 h.3))) c.in_ok-value.field-0 s (c.in_ok-value.ensures.next h.0 h.1 s.follows s.goes_on))
    c.in_default.not-Returned

pub advance_alone-requires : goal.advance_alone-requires
advance_alone-requires c = let h = c.requires in alone_on_its_way h.0 h.1 c.args.program.now h.4.follows
