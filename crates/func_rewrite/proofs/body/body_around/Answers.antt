use Rattle.std.proofs.Common.{arith, ap, None, ◌∙◌}
use Rattle.std.proofs.lemmas.Result.{IfOk-weaker}
use Rattle.wa_types.specs.Syntax.{a_block, nest}
use Rattle.wa_types.specs.View.{code}
use Rattle.run_theory.specs.Flat.{FlatFunc, followed_by}
use Rattle.frame_laws.specs.Function.{result_type, value_code}
use Rattle.func_rewrite.proofs.body.body_around.Goals as goal

pub returns : goal.returns
returns c =
    let v = c.args.flat.now in
    let g = code c.in_ok-guarded.guarded.items in
    let s = code c.args.saved.items in
    IfOk-weaker c.with_end.result _ _
    (λ b h m f is. record {
      guarded = g;
      slim = c.in_ok-guarded.ensures m v.func.func f is.flat is.first_slot (let a = is.first_slot in let b = is.first_result in omega (arith, a, b));
      is =
          h ∙ ap (λ t. nest a_block None g (followed_by s (value_code t))) (c.result_type-given.ensures ∙ ap (λ ls. result_type ls v.func.result) c.deref.ensures.value)
          ∙ ap (λ (k : FlatFunc). nest a_block None g (followed_by s (value_code (result_type k.locals k.result)))) is.flat;
    })
    c.with_end.ensures
