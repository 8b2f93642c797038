use Rattle.std.proofs.Common.{refl, sym, ap, set, ◌∙◌, ◌-◌, arith}
use Rattle.std.proofs.lemmas.List.{length-set}
use Rattle.slim_rewrite.proofs.StackLemmas.{kept_is}
use Rattle.slim_rewrite.proofs.stack.keep.Goals as goal

pub returns : goal.returns
returns c = λ e.
    kept_is c.args.at.now _ c.args.to c.requires (sym c.is_slot.ensures ∙ c.if-not-is_slot.false) (sym c.stands.ensures ∙ c.if-stands.false) refl refl
    (ap (λ n. set c.args.at.now.places.items (c.args.to - c.args.at.now.low) n) (let n = c.len.ensures in let m = c.args.at.now.stack.ok.0 in omega arith))
    (length-set c.args.at.now.places.items _ _)
    c.in_ok-push.ensures.items refl refl refl
