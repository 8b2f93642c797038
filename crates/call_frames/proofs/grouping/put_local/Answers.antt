use Rattle.std.proofs.Common.{◌-◌, ◌++◌, ◌∷◌, [], ap, arith, sym, ◌∙◌}
use Rattle.std.proofs.lemmas.List.{map-append}
use Rattle.std.proofs.lemmas.Result.{on_ok_weaker}
use Rattle.call_frames.specs.declared.frames.CallClass.{CallClass}
use Rattle.call_frames.specs.CallParts.{same_calls}
use Rattle.call_frames.specs.Views.{fields_of, kept_field}
use Rattle.call_frames.proofs.GroupSteps.{class_any, last_place, next_group, same_group, some_calls_there}
use Rattle.call_frames.proofs.grouping.put_local.Goals as goal

pub returns-then-not-equal : goal.returns-then-not-equal
returns-then-not-equal c =
    let cs = c.args.groups.now.items in
    let i = c.len-count.result - 1 in
    let ks = c.args.calls.now in
    let some = some_calls_there ks c.is_empty.result c.is_empty.ensures c.if-is_empty.false in
    let last = last_place c.args.groups.now c.len-count.result c.len-count.ensures c.if-count-eq0.false in
    on_ok_weaker c.put_group-then-not-equal.result
    (λ e. e ∙ next_group ks (kept_field c.args.field) cs i c.index.result.now some last
    (ap (λ (y : CallClass). same_calls y.calls ks) (sym c.index.ensures) ∙ sym c.equal.ensures ∙ c.if-not-equal.true))
    c.put_group-then-not-equal.ensures

pub returns : goal.returns
returns c =
    let cs = c.args.groups.now.items in
    let i = c.len-count.result - 1 in
    let ks = c.args.calls.now in
    let some = some_calls_there ks c.is_empty.result c.is_empty.ensures c.if-is_empty.false in
    let last = last_place c.args.groups.now c.len-count.result c.len-count.ensures c.if-count-eq0.false in
    let first = c.index.ensures ∙ class_any cs i c.index.result.now c.index_mut.result.now (omega (arith, last)) in
    on_ok_weaker c.put_field.result
    (λ e.
    same_group ks (kept_field c.args.field) cs i c.index_mut.result.now c.put_field.new.group some last
    (ap (λ (y : CallClass). same_calls y.calls ks) (sym first) ∙ sym c.equal.ensures ∙ c.if-not-equal.false)
    (c.put_field.ensures.calls ∙ ap (λ (y : CallClass). y.calls) c.index_mut.ensures.value)
    (ap fields_of (e ∙ ap (λ (y : CallClass). y.fields.items ++ c.args.field ∷ []) c.index_mut.ensures.value) ∙ map-append kept_field _ (c.args.field ∷ [])))
    c.put_field.ensures.fields
