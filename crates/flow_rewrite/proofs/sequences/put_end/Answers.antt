use Rattle.std.proofs.Common.{ap, sym, subst, arith}
use Rattle.wa_types.specs.View.{code}
use Rattle.wa_types.proofs.ViewLemmas.{code_none}
use Rattle.flow_rewrite.specs.Begun.{lead_of}
use Rattle.flow_rewrite.specs.Emitting.{indices}
use Rattle.flow_rewrite.specs.Exits.{exit_of}
use Rattle.flow_rewrite.specs.Raising.{Raisable}
use Rattle.flow_rewrite.proofs.ExitLemmas.{end_led, end_unled}
use Rattle.flow_rewrite.proofs.PieceLemmas.{raisable_done, raisable_out}
use Rattle.flow_rewrite.proofs.sequences.put_end.Goals as goal

pub put_restoring-requires : goal.put_restoring-requires
put_restoring-requires c = subst (Raisable 0 1) (sym code_none) (raisable_out 0 2 1 _ (omega arith) (raisable_done 0 (omega arith)))

pub returns-in_ok-put_last-in-None : goal.returns-in_ok-put_last-in-None
returns-in_ok-put_last-in-None c =
    end_unled (indices c.args.guards.now) (lead_of c.args.lead) (exit_of c.args.exit) (code c.args.piece.now) _ _ (ap lead_of c.in-None.is) c.in_ok-put_last-in-None.ensures

pub returns-in_ok-put_last-in-Some : goal.returns-in_ok-put_last-in-Some
returns-in_ok-put_last-in-Some c =
    end_led (indices c.args.guards.now) (lead_of c.args.lead) (code c.in-Some.restoring.items) (exit_of c.args.exit) (code c.args.piece.now) _ _ _ (ap lead_of c.in-Some.is)
    c.in_ok-put_restoring-in-Some.ensures c.in_ok-put_last-in-Some.ensures
