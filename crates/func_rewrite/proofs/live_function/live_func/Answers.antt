use Rattle.std.proofs.Common.{arith, ap, length, drop, map, subst, sym, ◌∙◌, ◌++◌, ◌∷◌, []}
use Rattle.wa_types.specs.declared.values.ValType.TheVariants.{I32, I64}
use Rattle.wa_types.specs.Syntax.{done}
use Rattle.wa_types.specs.View.{code, func_of, module_of}
use Rattle.run_theory.specs.FlatFits.{one_run}
use Rattle.call_graph.specs.Settings.{settings_of}
use Rattle.call_frames.specs.FrameParts.{restoring_by_call, saving_by_call}
use Rattle.call_frames.specs.PlainFrames.{frames_of}
use Rattle.flow_rewrite.specs.Emitting.{Rises}
use Rattle.func_rewrite.specs.Bodies.{IsSlimBody}
use Rattle.func_rewrite.proofs.WrittenFuncs.{few_calls, fits, slots_told}
use Rattle.call_frames.specs.Classes.{KeepCheaply}
use Rattle.call_frames.specs.Views.{parts_view, told_frames}
use Rattle.func_rewrite.proofs.CallFacts.{kept_lent, numbers_few, numbers_rise, types_few}
use Rattle.func_rewrite.proofs.PartsOwed.{live_is}
use Rattle.func_rewrite.proofs.live_function.live_func.Goals as goal

pub saved_parts-requires-clause-kept : goal.saved_parts-requires-clause-kept
saved_parts-requires-clause-kept c =
    let calls = c.args.calls.now in
    let calls_are = c.requires.calls.rows in (
      calls_are.sets,
      kept_lent c.args.flat.now.func.locals.items c.deref-2.result.now calls.numbers.items c.len-count.result calls_are.sets calls.rows.items c.deref.result.now c.deref-2.ensures.value
          (c.len-count.ensures ∙ calls.numbers.ok.0) c.deref.ensures.value calls_are.kept,
    )

pub saved_parts-requires-clause-few : goal.saved_parts-requires-clause-few
saved_parts-requires-clause-few c =
    let k = types_few (module_of c.args.pass.now.valid.now) (settings_of c.args.pass.now.settings.now) c.args.pass.now.which.now (func_of c.args.source.now) c.args.flat.now
    c.requires.valid c.requires.sizes c.requires.flat in
    let e = ap length c.deref-2.ensures.value in omega (arith, k, e)

pub saved_parts-requires-clause-calls : goal.saved_parts-requires-clause-calls
saved_parts-requires-clause-calls c =
    let calls = c.args.calls.now in
    let k = numbers_few (module_of c.args.pass.now.valid.now) (settings_of c.args.pass.now.settings.now) c.args.pass.now.which.now (func_of c.args.source.now) c.args.flat.now
    c.requires.valid c.requires.sizes c.requires.flat calls.numbers.items c.requires.calls.numbers in
    let e = c.len-count.ensures ∙ calls.numbers.ok.0 in omega (arith, k, e)

pub live_body-requires-clause-fits : goal.live_body-requires-clause-fits
live_body-requires-clause-fits c =
    fits (module_of c.args.pass.now.valid.now) (settings_of c.args.pass.now.settings.now) c.args.pass.now.which.now (func_of c.args.source.now) c.args.flat.now c.requires.valid c.requires.sizes c.requires.flat

pub live_body-requires-clause-rises : goal.live_body-requires-clause-rises
live_body-requires-clause-rises c =
    let calls = c.args.calls.now in
    subst Rises (sym c.deref-5.ensures.value)
    (numbers_rise (module_of c.args.pass.now.valid.now) (settings_of c.args.pass.now.settings.now) c.args.pass.now.which.now (func_of c.args.source.now) c.args.flat.now
    c.requires.valid c.requires.sizes c.requires.flat calls.numbers.items c.requires.calls.numbers)

pub live_body-requires-clause-few : goal.live_body-requires-clause-few
live_body-requires-clause-few c =
    few_calls (module_of c.args.pass.now.valid.now) (settings_of c.args.pass.now.settings.now) c.args.pass.now.which.now (func_of c.args.source.now) c.args.flat.now c.requires.valid c.requires.sizes c.requires.flat

pub live_body-requires-clause-slots : goal.live_body-requires-clause-slots
live_body-requires-clause-slots c =
    slots_told (module_of c.args.pass.now.valid.now) (settings_of c.args.pass.now.settings.now) c.args.pass.now.which.now (func_of c.args.source.now) c.args.flat.now c.requires.valid c.requires.sizes c.requires.flat

pub returns : goal.returns
returns c =
    let calls = c.args.calls.now in
    let v = c.args.flat.now in
    let ids = c.args.pass.now.ids.now in
    let parts = c.in_ok-parts.parts in
    let told = told_frames (length calls.numbers.items) (length v.func.locals.items) ids.address parts in
    let calls_are = c.requires.calls.rows in
    let kept = kept_lent c.args.flat.now.func.locals.items c.deref-2.result.now calls.numbers.items c.len-count.result calls_are.sets calls.rows.items c.deref.result.now c.deref-2.ensures.value
    (c.len-count.ensures ∙ calls.numbers.ok.0) c.deref.ensures.value calls_are.kept in
    let cheap = subst (λ ts. KeepCheaply ts calls_are.sets (parts_view parts)) c.deref-2.ensures.value (c.in_ok-parts.ensures.keep calls_are.sets kept) in
    let body = subst (λ ns. IsSlimBody (module_of c.args.pass.now.valid.now) ns ids.state v.func.func (func_of c.args.source.now) (restoring_by_call (frames_of told) done)
    (saving_by_call (frames_of told) done) (code c.in_ok-body.body.items)) c.deref-5.ensures.value
    (c.in_ok-body.ensures (module_of c.args.pass.now.valid.now) (func_of c.args.source.now) (length calls.numbers.items) c.requires.flat) in
    let locals = c.in_ok-locals.ensures ∙ ap (λ rs. rs ++ map one_run (drop v.first_slot c.deref-4.result.now ++ I32 ∷ I32 ∷ I64 ∷ [])) c.deref-3.ensures.value
    ∙ ap (λ ls. c.args.source.now.locals.items ++ map one_run (drop v.first_slot ls ++ I32 ∷ I32 ∷ I64 ∷ [])) c.deref-4.ensures.value in
    live_is (module_of c.args.pass.now.valid.now) (settings_of c.args.pass.now.settings.now) c.args.pass.now.which.now (func_of c.args.source.now) v
    c.requires.valid c.requires.sizes c.requires.flat calls.numbers.items calls_are.sets c.requires.calls.numbers calls_are.live ids c.requires.ids parts cheap
    c.in_ok-locals.locals.items (code c.in_ok-body.body.items) locals body
