use Rattle.std.proofs.Common.{◌+◌, ◌*◌, ◌<◌, ap, sym, ◌∙◌, subst}
use Rattle.wa_types.specs.Counts.{count_of}
use Rattle.wa_types.specs.View.{onto}
use Rattle.wa_types.specs.Levels.{enclosed, owed, to_do}
use Rattle.wa_types.proofs.LevelLemmas.{begins, ends, closed_last, code_first, no_level, none_left}
use Rattle.wa_types.proofs.bodies.copy_body.Goals as goal

pub left-init : goal.left-init
left-init c = begins c.args.body.now c.in_ok-with_capacity.field-0.items c.new.result.items c.new.ensures.items c.in_ok-with_capacity.ensures.items

pub left-smaller-in_ok-copy_next-in-Some : goal.left-smaller-in_ok-copy_next-in-Some
left-smaller-in_ok-copy_next-in-Some c =
    let first = code_first c.left.copying.left.now c.in-Some.instr.now c.in-Some.behind.now c.in-Some.ensures.cases.0 in
    let less : to_do c.copy_next.new.copying < to_do c.left.copying =
    subst (λ k. to_do c.copy_next.new.copying < owed c.left.copying.levels.items + 3 * count_of k) (sym first) c.in_ok-copy_next-in-Some.ensures.less in
    less

pub left-preserved-in_ok-copy_next-in-Some : goal.left-preserved-in_ok-copy_next-in-Some
left-preserved-in_ok-copy_next-in-Some c =
    let first = code_first c.left.copying.left.now c.in-Some.instr.now c.in-Some.behind.now c.in-Some.ensures.cases.0 in
    c.in_ok-copy_next-in-Some.ensures.same ∙ ap (λ k. enclosed c.left.copying.levels.items (onto c.left.copying.made.items k)) (sym first) ∙ c.left.invariant

pub left-preserved : goal.left-preserved
left-preserved c =
    c.in_ok-close-in-Some-pop.ensures.same
    ∙ closed_last c.left.copying.levels.items c.pop.new.self.items c.in-Some-pop.level c.left.copying.made.items c.left.copying.left.now c.in-Some-pop.ensures.items
    (none_left c.left.copying.left.now c.in-None.ensures.cases)
    ∙ c.left.invariant

pub returns-in-None-pop : goal.returns-in-None-pop
returns-in-None-pop c =
    ends c.left.copying.made.items c.left.copying.left.now c.left.copying.levels.items
    (no_level c.left.copying.levels.items c.left.copying.levels.len c.left.copying.levels.ok.0 c.in-None-pop.ensures.cases.0) (none_left c.left.copying.left.now c.in-None.ensures.cases)
    ∙ c.left.invariant
