use Rattle.std.proofs.Common.{◌∷◌, ◌+◌, ◌∙◌, ap, arith, drop, refl, sym}
use Rattle.std.proofs.lemmas.List.{drop_all, drop_more}
use Rattle.call_frames.specs.CallParts.{grouped_by}
use Rattle.call_frames.specs.Views.{class_parts}
use Rattle.call_frames.proofs.GroupSteps.{groups_end, groups_next}
use Rattle.call_frames.proofs.grouping.groups_of.Goals as goal

pub loop-local-init : goal.loop-local-init
loop-local-init c = (let e = c.requires.size in omega (arith, e), ap (λ gs. grouped_by 0 c.args.types.now c.args.keepers.now (class_parts gs)) c.new-groups.ensures.items)

pub loop-local-preserved : goal.loop-local-preserved
loop-local-preserved c =
    let kss = c.args.keepers.now in
    let local = c.loop-local.local in
    let ks = c.index-keepers-local.result in
    groups_next c.args.types.now kss local _ ks (drop local kss) (drop (local + 1) kss) _
    (class_parts c.loop-local.groups.items) (class_parts c.put_local.new.groups.items)
    (drop_more kss local ks c.loop-local-test.true ∙ ap (λ k. k ∷ drop (local + 1) kss) (sym c.index-keepers-local.is)) refl c.in_ok-put_local.ensures c.loop-local.invariant

pub returns : goal.returns
returns c =
    groups_end c.args.types.now c.args.keepers.now c.loop-local.local (drop c.loop-local.local c.args.keepers.now) (class_parts c.loop-local.groups.items)
    (drop_all c.loop-local.local c.args.keepers.now (omega (arith, c.loop-local-test.false))) c.loop-local.invariant
