use Rattle.std.proofs.Common.{◌∙◌, ap, arith, length, subst, sym}
use Rattle.wa_types.specs.Pausing.{save_live}
use Rattle.wa_types.specs.View.{func_of, module_of}
use Rattle.run_theory.specs.FlatView.{flat_func_of}
use Rattle.call_graph.specs.Settings.{settings_of}
use Rattle.call_frames.specs.Classes.{MadeAgain}
use Rattle.func_rewrite.specs.Frames.{FramesAt}
use Rattle.live_locals.specs.LiveAt.{lists_of}
use Rattle.live_locals.proofs.WholeLemmas.{sets_again}
use Rattle.func_rewrite.specs.Layouts.{SetFrames}
use Rattle.func_rewrite.proofs.CallFacts.{SetsSized, set_sizes, sets_few, types_few}
use Rattle.func_rewrite.proofs.LayoutSteps.{frames_under}
use Rattle.func_rewrite.proofs.SetFields.{places_saved}
use Rattle.func_rewrite.proofs.live_function.live_layouts.Goals as goal

pub set_layouts-requires-clause-sizes : goal.set_layouts-requires-clause-sizes
set_layouts-requires-clause-sizes c =
    let calls = c.args.calls.now in
    let live = sets_again (flat_func_of c.args.flat.now.func) calls.numbers.items calls.rows.items c.in_ok-sets.sets.items c.len.result (c.len.ensures ∙ calls.numbers.ok.0) c.requires.calls.rows
    (subst (λ rs. MadeAgain rs c.len.result c.in_ok-sets.sets.items) c.deref.ensures.value c.in_ok-sets.ensures) in
    let all = set_sizes (module_of c.args.pass.now.valid.now) (settings_of c.args.pass.now.settings.now) c.args.pass.now.which.now (func_of c.args._source.now) c.args.flat.now
    c.requires.valid c.requires.sizes c.requires.flat calls.numbers.items c.requires.calls.numbers c.in_ok-sets.sets.items live in
    subst (λ ts. SetsSized (length ts) c.deref-2.result.now) (sym c.deref-3.ensures.value) (subst (SetsSized (length c.args.flat.now.func.locals.items)) (sym c.deref-2.ensures.value) all)

pub set_layouts-requires-clause-few : goal.set_layouts-requires-clause-few
set_layouts-requires-clause-few c =
    let k = types_few (module_of c.args.pass.now.valid.now) (settings_of c.args.pass.now.settings.now) c.args.pass.now.which.now (func_of c.args._source.now) c.args.flat.now
    c.requires.valid c.requires.sizes c.requires.flat in
    let e = ap length c.deref-3.ensures.value in omega (arith, k, e)

pub set_layouts-requires-clause-calls : goal.set_layouts-requires-clause-calls
set_layouts-requires-clause-calls c =
    let calls = c.args.calls.now in
    let live = sets_again (flat_func_of c.args.flat.now.func) calls.numbers.items calls.rows.items c.in_ok-sets.sets.items c.len.result (c.len.ensures ∙ calls.numbers.ok.0) c.requires.calls.rows
    (subst (λ rs. MadeAgain rs c.len.result c.in_ok-sets.sets.items) c.deref.ensures.value c.in_ok-sets.ensures) in
    let k = sets_few (module_of c.args.pass.now.valid.now) (settings_of c.args.pass.now.settings.now) c.args.pass.now.which.now (func_of c.args._source.now) c.args.flat.now
    c.requires.valid c.requires.sizes c.requires.flat calls.numbers.items c.requires.calls.numbers c.in_ok-sets.sets.items live in
    let e = ap length c.deref-2.ensures.value in omega (arith, k, e)

pub returns : goal.returns
returns c =
    let m = module_of c.args.pass.now.valid.now in
    let f = func_of c.args._source.now in
    let calls = c.args.calls.now in
    let v = c.args.flat.now in
    let ls = c.in_ok-layouts.layouts.items in
    let types = v.func.locals.items in
    let live = sets_again (flat_func_of c.args.flat.now.func) calls.numbers.items calls.rows.items c.in_ok-sets.sets.items c.len.result (c.len.ensures ∙ calls.numbers.ok.0) c.requires.calls.rows
    (subst (λ rs. MadeAgain rs c.len.result c.in_ok-sets.sets.items) c.deref.ensures.value c.in_ok-sets.ensures) in
    let sets = lists_of c.in_ok-sets.sets.items in
    let made = subst (λ ts. SetFrames ts 0 sets ls) c.deref-3.ensures.value (subst (λ ss. SetFrames c.deref-3.result.now 0 (lists_of ss) ls) c.deref-2.ensures.value c.in_ok-layouts.ensures) in
    subst (λ ns. FramesAt m save_live f 0 ns ls) c.requires.calls.numbers
    (frames_under m save_live f types 0 calls.numbers.items sets ls live.calls
    (places_saved m (settings_of c.args.pass.now.settings.now) c.args.pass.now.which.now f v c.requires.valid c.requires.flat calls.numbers.items sets c.requires.calls.numbers live) made)
