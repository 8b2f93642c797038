use Rattle.std.proofs.Common.{◌≡◌, ◌<◌, ◌≤◌, ◌^◌, All, Bool, length, sym, subst, true, false, ap, arith, ◌∙◌}
use Rattle.std.specs.Prelude.{Vec}
use Rattle.std.specs.declared.alloc.Global.{Global}
use Rattle.call_frames.specs.PlainLaws.{tests_cost}
use Rattle.call_frames.specs.CallParts.{are_better, parts_length, tests_most}
use Rattle.call_frames.specs.Classes.{KeepByClasses}
use Rattle.call_frames.specs.Views.{class_parts, part_views, sets_of}
use Rattle.call_frames.proofs.Chosen.{classes_fit, groups_fit, made_alike, made_few, made_fit, made_keep, taken_alike, taken_few, taken_keep, told_better}
use Rattle.call_frames.proofs.KeptSets.{both_made, few_sets, groups_kept, made_sized}
use Rattle.call_frames.proofs.classing.saved_parts.Goals as goal

pub groups_of-requires : goal.groups_of-requires
groups_of-requires c = record { size = c.requires.kept.1.keepers.size; few = c.requires.few }

pub classes_of-requires : goal.classes_of-requires
classes_of-requires c =
    let m = c.in_ok-sets.ensures in
    let made = made_sized c.args.types.now c.args.count c.args.keepers.now c.args.count c.in_ok-sets.sets.items c.requires.kept.1.keepers.size m in
    let n = m.many in
    let e = ap length c.deref-3.ensures.value in record {
      sizes = subst (λ xs. All (λ (set : Vec Bool Global). length set.items ≡ length c.args.types.now) xs) (sym c.deref-3.ensures.value) made;
      few = c.requires.few;
      calls = omega (arith, n, e, c.requires.calls);
    }

pub length_of-requires : goal.length_of-requires
length_of-requires c =
    let types = c.args.types.now in
    let kept = c.requires.kept.1 in
    let gs = c.in_ok-groups.groups.items in
    let made = groups_kept types c.args.count c.args.keepers.now c.requires.kept.0 kept gs c.in_ok-groups_of.field-0.items c.in_ok-groups.ensures c.in_ok-groups_of.ensures in
    let fit = made_fit types c.requires.kept.0 kept.sized c.requires.few gs made (few_sets types c.args.count c.args.keepers.now c.requires.kept.0 kept c.requires.calls) in
    let same = ap (λ ps. parts_length (part_views ps)) c.deref.ensures.value in omega (arith, fit, same)

pub are_short-requires : goal.are_short-requires
are_short-requires c =
    let types = c.args.types.now in
    let kept = c.requires.kept.1 in
    let gs = c.in_ok-groups.groups.items in
    let made = groups_kept types c.args.count c.args.keepers.now c.requires.kept.0 kept gs c.in_ok-groups_of.field-0.items c.in_ok-groups.ensures c.in_ok-groups_of.ensures in
    subst (λ ps. parts_length (part_views ps) < 2 ^ 60) (sym c.deref-2.ensures.value)
    (made_fit types c.requires.kept.0 kept.sized c.requires.few gs made (few_sets types c.args.count c.args.keepers.now c.requires.kept.0 kept c.requires.calls))

pub returns-then-are_short-clause-keep : goal.returns-then-are_short-clause-keep
returns-then-are_short-clause-keep c = λ sets kept.
    let types = c.args.types.now in
    let gs = c.in_ok-groups.groups.items in
    let made = groups_kept types c.args.count c.args.keepers.now sets kept gs c.in_ok-groups_of.field-0.items c.in_ok-groups.ensures c.in_ok-groups_of.ensures in
    let many = kept.many in
    let cost = subst (λ ps. tests_cost (part_views ps) ≤ tests_most (length types) c.args.count) c.deref-2.ensures.value (c.are_short.ensures.cost c.if-are_short.true) in
    let short = subst (λ ps. parts_length (part_views ps) ≤ c.in_ok-least.least) c.deref-2.ensures.value (c.are_short.ensures.length c.if-are_short.true) in
    let least = c.in_ok-least.ensures types sets kept in
    made_keep types sets kept.sized c.requires.few gs made (omega (arith, cost, many)) (omega (arith, short, least))

pub returns-then-are_short-clause-alike : goal.returns-then-are_short-clause-alike
returns-then-are_short-clause-alike c = λ set sets kept some h.
    let types = c.args.types.now in
    let gs = c.in_ok-groups.groups.items in
    let made = groups_kept types c.args.count c.args.keepers.now sets kept gs c.in_ok-groups_of.field-0.items c.in_ok-groups.ensures c.in_ok-groups_of.ensures in
    made_alike types sets kept.sized c.requires.few gs made set h

pub returns-then-are_short-clause-few : goal.returns-then-are_short-clause-few
returns-then-are_short-clause-few c =
    let types = c.args.types.now in
    let kept = c.requires.kept.1 in
    let gs = c.in_ok-groups.groups.items in
    let made = groups_kept types c.args.count c.args.keepers.now c.requires.kept.0 kept gs c.in_ok-groups_of.field-0.items c.in_ok-groups.ensures c.in_ok-groups_of.ensures in
    made_few types c.requires.kept.0 kept.sized c.requires.few gs made

pub are_better-requires-clause-groups : goal.are_better-requires-clause-groups
are_better-requires-clause-groups c =
    let types = c.args.types.now in
    let gs = c.in_ok-groups.groups.items in
    let cs = c.in_ok-classes.classes.items in
    let own = c.in_ok-classes_of.ensures in
    let m = c.in_ok-sets.ensures in
    let keep = subst (λ xs. KeepByClasses types (sets_of xs) (class_parts c.in_ok-classes_of.field-0.items)) c.deref-3.ensures.value own.keep in
    let made = both_made types c.args.count c.args.keepers.now c.requires.kept.0 c.requires.kept.1 c.in_ok-sets.sets.items m gs cs c.in_ok-groups_of.field-0.items c.in_ok-classes_of.field-0.items
    c.in_ok-groups.ensures c.in_ok-groups_of.ensures c.in_ok-classes.ensures keep own.few in
    let few = few_sets types c.args.count c.args.keepers.now c.requires.kept.0 c.requires.kept.1 c.requires.calls in
    subst (λ ps. parts_length (part_views ps) < 2 ^ 60) (sym c.deref-4.ensures.value) (groups_fit types c.requires.kept.0 c.requires.kept.1.sized c.requires.few few gs cs made)

pub are_better-requires-clause-classes : goal.are_better-requires-clause-classes
are_better-requires-clause-classes c =
    let types = c.args.types.now in
    let gs = c.in_ok-groups.groups.items in
    let cs = c.in_ok-classes.classes.items in
    let own = c.in_ok-classes_of.ensures in
    let m = c.in_ok-sets.ensures in
    let keep = subst (λ xs. KeepByClasses types (sets_of xs) (class_parts c.in_ok-classes_of.field-0.items)) c.deref-3.ensures.value own.keep in
    let made = both_made types c.args.count c.args.keepers.now c.requires.kept.0 c.requires.kept.1 c.in_ok-sets.sets.items m gs cs c.in_ok-groups_of.field-0.items c.in_ok-classes_of.field-0.items
    c.in_ok-groups.ensures c.in_ok-groups_of.ensures c.in_ok-classes.ensures keep own.few in
    let few = few_sets types c.args.count c.args.keepers.now c.requires.kept.0 c.requires.kept.1 c.requires.calls in
    subst (λ ps. parts_length (part_views ps) < 2 ^ 60) (sym c.deref-5.ensures.value) (classes_fit types c.requires.kept.0 c.requires.kept.1.sized c.requires.few few gs cs made)

pub returns-then-are_better-clause-keep : goal.returns-then-are_better-clause-keep
returns-then-are_better-clause-keep c = λ sets kept.
    let types = c.args.types.now in
    let gs = c.in_ok-groups.groups.items in
    let cs = c.in_ok-classes.classes.items in
    let own = c.in_ok-classes_of.ensures in
    let m = c.in_ok-sets.ensures in
    let keep = subst (λ xs. KeepByClasses types (sets_of xs) (class_parts c.in_ok-classes_of.field-0.items)) c.deref-3.ensures.value own.keep in
    let made = both_made types c.args.count c.args.keepers.now sets kept c.in_ok-sets.sets.items m gs cs c.in_ok-groups_of.field-0.items c.in_ok-classes_of.field-0.items
    c.in_ok-groups.ensures c.in_ok-groups_of.ensures c.in_ok-classes.ensures keep own.few in
    let few = few_sets types c.args.count c.args.keepers.now sets kept c.requires.calls in
    let is = told_better (tests_most (length types) c.args.count) gs cs c.deref-4.result.now c.deref-5.result.now c.are_better.result true c.deref-4.ensures.value
    c.deref-5.ensures.value c.are_better.ensures c.if-are_better.true in
    let same = ap (λ n. are_better (tests_most (length types) n) (part_views gs) (part_views cs)) kept.many in
    taken_keep types sets kept.sized c.requires.few few gs cs made true (same ∙ is)

pub returns-then-are_better-clause-alike : goal.returns-then-are_better-clause-alike
returns-then-are_better-clause-alike c = λ set sets kept some h.
    let types = c.args.types.now in
    let gs = c.in_ok-groups.groups.items in
    let cs = c.in_ok-classes.classes.items in
    let own = c.in_ok-classes_of.ensures in
    let m = c.in_ok-sets.ensures in
    let keep = subst (λ xs. KeepByClasses types (sets_of xs) (class_parts c.in_ok-classes_of.field-0.items)) c.deref-3.ensures.value own.keep in
    let made = both_made types c.args.count c.args.keepers.now sets kept c.in_ok-sets.sets.items m gs cs c.in_ok-groups_of.field-0.items c.in_ok-classes_of.field-0.items
    c.in_ok-groups.ensures c.in_ok-groups_of.ensures c.in_ok-classes.ensures keep own.few in
    let few = few_sets types c.args.count c.args.keepers.now sets kept c.requires.calls in
    let is = told_better (tests_most (length types) c.args.count) gs cs c.deref-4.result.now c.deref-5.result.now c.are_better.result true c.deref-4.ensures.value
    c.deref-5.ensures.value c.are_better.ensures c.if-are_better.true in
    let same = ap (λ n. are_better (tests_most (length types) n) (part_views gs) (part_views cs)) kept.many in
    let n = kept.many in
    taken_alike types sets kept.sized c.requires.few few gs cs made true (same ∙ is) set (omega (arith, n, some)) h

pub returns-then-are_better-clause-few : goal.returns-then-are_better-clause-few
returns-then-are_better-clause-few c =
    let types = c.args.types.now in
    let gs = c.in_ok-groups.groups.items in
    let cs = c.in_ok-classes.classes.items in
    let own = c.in_ok-classes_of.ensures in
    let m = c.in_ok-sets.ensures in
    let keep = subst (λ xs. KeepByClasses types (sets_of xs) (class_parts c.in_ok-classes_of.field-0.items)) c.deref-3.ensures.value own.keep in
    let made = both_made types c.args.count c.args.keepers.now c.requires.kept.0 c.requires.kept.1 c.in_ok-sets.sets.items m gs cs c.in_ok-groups_of.field-0.items c.in_ok-classes_of.field-0.items
    c.in_ok-groups.ensures c.in_ok-groups_of.ensures c.in_ok-classes.ensures keep own.few in
    let few = few_sets types c.args.count c.args.keepers.now c.requires.kept.0 c.requires.kept.1 c.requires.calls in
    let is = told_better (tests_most (length types) c.args.count) gs cs c.deref-4.result.now c.deref-5.result.now c.are_better.result true c.deref-4.ensures.value
    c.deref-5.ensures.value c.are_better.ensures c.if-are_better.true in
    let same = ap (λ n. are_better (tests_most (length types) n) (part_views gs) (part_views cs)) c.requires.kept.1.many in
    taken_few types c.requires.kept.0 c.requires.kept.1.sized c.requires.few few gs cs made true (same ∙ is)

pub returns-clause-keep : goal.returns-clause-keep
returns-clause-keep c = λ sets kept.
    let types = c.args.types.now in
    let gs = c.in_ok-groups.groups.items in
    let cs = c.in_ok-classes.classes.items in
    let own = c.in_ok-classes_of.ensures in
    let m = c.in_ok-sets.ensures in
    let keep = subst (λ xs. KeepByClasses types (sets_of xs) (class_parts c.in_ok-classes_of.field-0.items)) c.deref-3.ensures.value own.keep in
    let made = both_made types c.args.count c.args.keepers.now sets kept c.in_ok-sets.sets.items m gs cs c.in_ok-groups_of.field-0.items c.in_ok-classes_of.field-0.items
    c.in_ok-groups.ensures c.in_ok-groups_of.ensures c.in_ok-classes.ensures keep own.few in
    let few = few_sets types c.args.count c.args.keepers.now sets kept c.requires.calls in
    let is = told_better (tests_most (length types) c.args.count) gs cs c.deref-4.result.now c.deref-5.result.now c.are_better.result false c.deref-4.ensures.value
    c.deref-5.ensures.value c.are_better.ensures c.if-are_better.false in
    let same = ap (λ n. are_better (tests_most (length types) n) (part_views gs) (part_views cs)) kept.many in
    taken_keep types sets kept.sized c.requires.few few gs cs made false (same ∙ is)

pub returns-clause-alike : goal.returns-clause-alike
returns-clause-alike c = λ set sets kept some h.
    let types = c.args.types.now in
    let gs = c.in_ok-groups.groups.items in
    let cs = c.in_ok-classes.classes.items in
    let own = c.in_ok-classes_of.ensures in
    let m = c.in_ok-sets.ensures in
    let keep = subst (λ xs. KeepByClasses types (sets_of xs) (class_parts c.in_ok-classes_of.field-0.items)) c.deref-3.ensures.value own.keep in
    let made = both_made types c.args.count c.args.keepers.now sets kept c.in_ok-sets.sets.items m gs cs c.in_ok-groups_of.field-0.items c.in_ok-classes_of.field-0.items
    c.in_ok-groups.ensures c.in_ok-groups_of.ensures c.in_ok-classes.ensures keep own.few in
    let few = few_sets types c.args.count c.args.keepers.now sets kept c.requires.calls in
    let is = told_better (tests_most (length types) c.args.count) gs cs c.deref-4.result.now c.deref-5.result.now c.are_better.result false c.deref-4.ensures.value
    c.deref-5.ensures.value c.are_better.ensures c.if-are_better.false in
    let same = ap (λ n. are_better (tests_most (length types) n) (part_views gs) (part_views cs)) kept.many in
    let n = kept.many in
    taken_alike types sets kept.sized c.requires.few few gs cs made false (same ∙ is) set (omega (arith, n, some)) h

pub returns-clause-few : goal.returns-clause-few
returns-clause-few c =
    let types = c.args.types.now in
    let gs = c.in_ok-groups.groups.items in
    let cs = c.in_ok-classes.classes.items in
    let own = c.in_ok-classes_of.ensures in
    let m = c.in_ok-sets.ensures in
    let keep = subst (λ xs. KeepByClasses types (sets_of xs) (class_parts c.in_ok-classes_of.field-0.items)) c.deref-3.ensures.value own.keep in
    let made = both_made types c.args.count c.args.keepers.now c.requires.kept.0 c.requires.kept.1 c.in_ok-sets.sets.items m gs cs c.in_ok-groups_of.field-0.items c.in_ok-classes_of.field-0.items
    c.in_ok-groups.ensures c.in_ok-groups_of.ensures c.in_ok-classes.ensures keep own.few in
    let few = few_sets types c.args.count c.args.keepers.now c.requires.kept.0 c.requires.kept.1 c.requires.calls in
    let is = told_better (tests_most (length types) c.args.count) gs cs c.deref-4.result.now c.deref-5.result.now c.are_better.result false c.deref-4.ensures.value
    c.deref-5.ensures.value c.are_better.ensures c.if-are_better.false in
    let same = ap (λ n. are_better (tests_most (length types) n) (part_views gs) (part_views cs)) c.requires.kept.1.many in
    taken_few types c.requires.kept.0 c.requires.kept.1.sized c.requires.few few gs cs made false (same ∙ is)
