use Rattle.std.proofs.Common.{ap, sym, subst, ◌∙◌, ℕ, Option}
use Rattle.std.specs.declared.vec.Vec.{Vec}
use Rattle.std.specs.declared.alloc.Global.{Global}
use Rattle.wa_types.specs.declared.values.ValType.{ValType}
use Rattle.flat_laws.specs.Flatten.{result_local}
use Rattle.flatten.specs.Emitting.{ArrivesAt, Closed}
use Rattle.flatten.proofs.ConstructLemmas.{one_arrives, len_labels}
use Rattle.flatten.proofs.constructs.put_arrival.Goals as goal

pub returns-in_ok-push-in-Some : goal.returns-in_ok-push-in-Some
returns-in_ok-push-in-Some c =
    let n = c.args.names.now in
    let a = c.args.at.now in
    let labels = ap (λ (z : Vec (Option ℕ) Global). z.items) c.in_ok-to-in-Some.ensures.labels in
    subst (λ (o : Option ValType). Closed n o a c.push_slot.new.at c.args.out.now.items c.push.new.self.items) (sym c.in-Some.is)
    (one_arrives n c.in-Some.ty a c.push_slot.new.at c.args.out.now.items c.push.new.self.items c.in_ok-to-in-Some.to c.result-from.result
    (subst (λ (o : Option ValType). ArrivesAt n o a) c.in-Some.is c.requires)
    c.in_ok-to-in-Some.ensures.typing labels c.in_ok-to-in-Some.ensures.slot c.in_ok-to-in-Some.ensures.result (c.result-from.ensures
    ∙ ap (λ d. result_local n d c.in-Some.ty) (len_labels c.push_slot.new.at a c.len.result c.len.ensures labels)) c.in_ok-push-in-Some.ensures.items)
