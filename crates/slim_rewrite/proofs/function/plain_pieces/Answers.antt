use Rattle.std.proofs.Common.{ap, refl, subst, sym, ◌∙◌}
use Rattle.run_theory.specs.FlatView.{flat_func_of, stmts}
use Rattle.guard_form.specs.Pieces.{first_piece, units}
use Rattle.slim_rewrite.specs.declared.sequence.Written.{Written}
use Rattle.slim_rewrite.specs.Coming.{Ready}
use Rattle.slim_rewrite.specs.Inside.{first_code, units_in}
use Rattle.slim_rewrite.proofs.FunctionLemmas.{func_ready}
use Rattle.slim_rewrite.proofs.function.plain_pieces.Goals as goal

pub gather_sequence-requires : goal.gather_sequence-requires
gather_sequence-requires c = record {
  rises = c.requires.rises;
  bare = record { stack = c.new-2.ensures.items; set = refl; floor = refl };
  ready = subst (λ xs. Ready 0 (stmts xs)) (sym c.deref.ensures.value) (func_ready (flat_func_of c.args.func.now) c.requires.fits c.requires.few);
}

pub returns : goal.returns
returns c =
    let e = c.in_ok-written.ensures in
    let ps = c.args.numbers.now in
    record {
      first = ap (λ (w : Written). first_code w.pieces) c.into_inner.ensures ∙ e.first ∙ ap (λ xs. first_piece ps 0 (stmts xs)) c.deref.ensures.value;
      units = ap (λ (w : Written). units_in w.pieces) c.into_inner.ensures ∙ e.units ∙ ap (λ xs. units ps 0 (stmts xs)) c.deref.ensures.value;
    }
