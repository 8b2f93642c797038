use Rattle.std.proofs.Common.{refl, subst, sym, ◌∙◌}
use Rattle.std.proofs.lemmas.Result.{IfOk-weaker}
use Rattle.run_theory.specs.FlatView.{flat_func_of, stmts}
use Rattle.slim_rewrite.specs.declared.stack.Walk.{Walk}
use Rattle.slim_rewrite.specs.declared.sequence.Written.{Written}
use Rattle.slim_rewrite.specs.Functions.{are_plain, are_slim, AreSlim}
use Rattle.slim_rewrite.specs.Inside.{unboxed, IsWritten, WrittenTold}
use Rattle.slim_rewrite.proofs.FunctionLemmas.{function_slim}
use Rattle.slim_rewrite.proofs.function.pieces_of.Goals as goal

pub returns : goal.returns
returns c =
    let a : Walk = record {
      alloc = c.args.alloc;
      low = c.args.low;
      places = c.in_ok-vec.field-0;
      stack = c.new.result;
      set = 0;
      floor = 0;
      apart = c.in_ok-heights_apart.field-0;
      piece = c.new-2.result;
    } in
    let b = c.write_sequence.new.at in
    let w = c.in-Some.written.value in
    let ps = c.args.numbers.now in
    are_slim (subst (λ (v : Written). AreSlim ps c.args.low c.args.slots (flat_func_of c.args.func.now) v.pieces) (sym c.into_inner.ensures)
    (function_slim c.args.low c.args.slots a refl (sym c.in_ok-vec.field-0.ok.0 ∙ c.in_ok-vec.ensures.len) c.new.ensures.items refl refl ps (flat_func_of c.args.func.now) b w
    (subst (λ xs. IsWritten ps a 0 (stmts xs) b w) c.deref.ensures.value (subst (λ o. WrittenTold ps a 0 (stmts c.deref.result.now) b (unboxed o)) c.in-Some.is c.in_ok-written.ensures))))

pub returns-in_default : goal.returns-in_default
returns-in_default c = IfOk-weaker c.plain_pieces.result _ _ (λ p h. are_plain h) c.plain_pieces.ensures
