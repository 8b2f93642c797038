-- Code with tests has the calls of the code beside it, and so have labels.
use Rattle.std.proofs.Common.{◌≡◌, ◌∙◌, ℕ, ◌++◌, List, length, Bool, refl, ap, arith}
use Rattle.wa_types.specs.Pausing.{Callee, callee, callee_onto, calls_of}
use Rattle.wa_types.specs.Syntax.{Code}
use Rattle.wa_model.specs.Configuration.{Label}
use Rattle.guard_form.specs.Numbers.{calls_behind}
use Rattle.guard_form.proofs.AssertedCode as C
use Rattle.assert_laws.specs.Beside.{Tested, at_done, at_plain, at_last, at_nest, at_branch, LabelsToo, no_label, in_block, in_loop}

module _ (tests : Callee → Bool) (st : ℕ) where
  pub tested_calls : (c c' : Code) → Tested tests st c c' → calls_of c' ≡ calls_of c
  unfolding calls_of
  tested_calls _ _ at_done = refl
  tested_calls _ _ (at_plain {rest = rest} {rest' = rest'} p t) = ap (callee_onto (callee p)) (C.calls_behind tests st (callee p) rest' ∙ tested_calls rest rest' t)
  tested_calls _ _ (at_last p rest rest' e same) = ap (callee_onto (callee p)) same
  tested_calls _ _ (at_nest {body = body} {body' = body'} {rest = rest} {rest' = rest'} y r tb t) =
      ap (λ cs. cs ++ calls_of rest') (tested_calls body body' tb) ∙ ap (λ cs. calls_of body ++ cs) (tested_calls rest rest' t)
  tested_calls _ _ (at_branch {a = a} {a' = a'} {b = b} {b' = b'} {rest = rest} {rest' = rest'} r ta tb t) =
      ap (λ cs. cs ++ calls_of b' ++ calls_of rest') (tested_calls a a' ta) ∙ ap (λ cs. calls_of a ++ cs ++ calls_of rest') (tested_calls b b' tb)
      ∙ ap (λ cs. calls_of a ++ calls_of b ++ cs) (tested_calls rest rest' t)

  pub labels_calls : (ls ls' : List Label) → LabelsToo tests st ls ls' → calls_behind ls' ≡ calls_behind ls
  labels_calls _ _ no_label = refl
  labels_calls _ _ (in_block {rest = rest} {rest' = rest'} {labels = ls} {labels' = ls'} h arity skipped skipped' sk t la) =
      let a = ap length sk in
      let b = ap length (tested_calls rest rest' t) in
      let c = labels_calls ls ls' la in
      omega arith
  labels_calls _ _ (in_loop {rest = rest} {rest' = rest'} {labels = ls} {labels' = ls'} h tb t la) =
      let b = ap length (tested_calls rest rest' t) in
      let c = labels_calls ls ls' la in
      omega arith
