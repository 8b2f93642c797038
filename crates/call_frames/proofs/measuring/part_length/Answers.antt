use Rattle.std.proofs.Common.{◌<◌, ◌^◌, ◌∷◌, [], ap, arith, subst, ◌∙◌}
use Rattle.call_frames.specs.CallParts.{parts_length}
use Rattle.call_frames.specs.Views.{part_view}
use Rattle.call_frames.proofs.FoundClasses.{all_kept}
use Rattle.call_frames.proofs.measuring.part_length.Goals as goal

pub overflow_mul-result : goal.overflow_mul-result
overflow_mul-result c =
    let n = all_kept c.in-Every.fields.items in
    let l = c.len.ensures ∙ c.in-Every.fields.ok.0 in
    let r = subst (λ p. parts_length (part_view p ∷ []) < 2 ^ 62) c.in-Every.is c.requires in omega (arith, n, l, r)

pub returns-in-Every : goal.returns-in-Every
returns-in-Every c =
    let n = all_kept c.in-Every.fields.items in
    let l = c.len.ensures ∙ c.in-Every.fields.ok.0 in
    let e = ap (λ p. parts_length (part_view p ∷ [])) c.in-Every.is in omega (arith, n, l, e)
