use Rattle.std.proofs.Common.{arith, ap, subst, length, take, ◌∙◌, ◌≡◌}
use Rattle.std.specs.Vec.{vec_len}
use Rattle.func_rewrite.specs.WrittenFrames.{numbered_places, AllFrames}
use Rattle.flow_rewrite.proofs.NumberingLemmas.{callees_count}
use Rattle.wa_types.specs.Pausing.{places_from}
use Rattle.wa_types.specs.View.{func_of, module_of}
use Rattle.run_theory.specs.FlatView.{flat_func_of}
use Rattle.call_graph.specs.Settings.{settings_of}
use Rattle.flow_rewrite.specs.Numbering.{callees, gets_number}
use Rattle.func_rewrite.proofs.CallNumbers.{places_few as places_few_of}
use Rattle.func_rewrite.proofs.WrittenFuncs.{few_calls, numbers, saved_few, places_few, frames_are}
use Rattle.func_rewrite.proofs.function.func_frames.Goals as goal

pub number_calls-requires : goal.number_calls-requires
number_calls-requires c = few_calls (module_of c.args.pass.now.valid.now) (settings_of c.args.pass.now.settings.now) c.args.pass.now.which.now
    (func_of c.args._source.now) c.args.flat.now c.requires.valid c.requires.sizes c.requires.flat

pub saved_places-requires : goal.saved_places-requires
saved_places-requires c = let e = ap length c.deref.ensures.value in let k = saved_few (module_of c.args.pass.now.valid.now) (settings_of c.args.pass.now.settings.now) c.args.pass.now.which.now
    (func_of c.args._source.now) c.args.flat.now c.requires.valid c.requires.sizes c.requires.flat in omega (arith, e, k)

pub overflow_cast-len : goal.overflow_cast-len
overflow_cast-len c =
    let v = c.in_ok-numbers.numbers in
    let many : vec_len v ≡ length v.items = let k = v.ok in omega arith in
    let few = places_few_of (gets_number c.args.pass.now.which.now c.args.pass.now.listed.now c.args.pass.now.settings.now.ignore_indirect) 0 (callees (flat_func_of c.args.flat.now.func).body) in
    let count = callees_count (flat_func_of c.args.flat.now.func).body in
    let total = few_calls (module_of c.args.pass.now.valid.now) (settings_of c.args.pass.now.settings.now) c.args.pass.now.which.now
    (func_of c.args._source.now) c.args.flat.now c.requires.valid c.requires.sizes c.requires.flat in
    omega (arith, c.len.ensures, many, ap length c.in_ok-numbers.ensures, few, count, total)

pub call_frames-requires : goal.call_frames-requires
call_frames-requires c = let e = ap length c.deref-2.ensures.value in let k = places_few (module_of c.args.pass.now.valid.now) (settings_of c.args.pass.now.settings.now) c.args.pass.now.which.now
    (func_of c.args._source.now) c.args.flat.now c.requires.valid c.requires.sizes c.requires.flat c.in_ok-saved.saved.items (c.in_ok-saved.ensures
    ∙ ap (λ xs. numbered_places 0 (take c.args.flat.now.first_result xs)) c.deref.ensures.value) in omega (arith, e, k)

pub returns : goal.returns
returns c =
    let v = c.in_ok-numbers.numbers in
    let many : vec_len v ≡ length v.items = let k = v.ok in omega arith in
    frames_are (module_of c.args.pass.now.valid.now) (settings_of c.args.pass.now.settings.now) c.args.pass.now.which.now
    (func_of c.args._source.now) c.args.flat.now c.requires.valid c.requires.sizes c.requires.flat c.in_ok-saved.saved.items (c.in_ok-saved.ensures
    ∙ ap (λ xs. numbered_places 0 (take c.args.flat.now.first_result xs)) c.deref.ensures.value) v.items _ c.in_ok-frames.frames.items (c.in_ok-numbers.ensures
    ∙ ap (λ l. places_from (gets_number c.args.pass.now.which.now l c.args.pass.now.settings.now.ignore_indirect) 0 (callees (flat_func_of c.args.flat.now.func).body)) c.requires.listed
    ∙ numbers (module_of c.args.pass.now.valid.now) (settings_of c.args.pass.now.settings.now) c.args.pass.now.which.now
    (func_of c.args._source.now) c.args.flat.now c.requires.valid c.requires.sizes c.requires.flat) (c.len.ensures ∙ many)
    (subst (λ xs. AllFrames xs c.len.result c.in_ok-frames.frames.items) c.deref-2.ensures.value c.in_ok-frames.ensures)
