use Rattle.std.proofs.Common.{ap, subst, ℕ, Option}
use Rattle.std.specs.declared.vec.Vec.{Vec}
use Rattle.std.specs.declared.alloc.Global.{Global}
use Rattle.wa_types.specs.declared.values.ValType.{ValType}
use Rattle.flatten.specs.Emitting.{ArrivesAt}
use Rattle.flatten.proofs.ConstructLemmas.{loop_none, loop_one}
use Rattle.flatten.proofs.constructs.put_loop.Goals as goal

pub returns-in-None : goal.returns-in-None
returns-in-None c =
    loop_none c.args.names.now c.args.inner c.args.at.now c.args.out.now.items c.push.new.self.items
    (subst (λ (o : Option ValType). ArrivesAt c.args.names.now o c.args.at.now) c.in-None.is c.requires) c.in_ok-push.ensures.items

pub returns-in_ok-push_slot-in-Some : goal.returns-in_ok-push_slot-in-Some
returns-in_ok-push_slot-in-Some c =
    loop_one c.args.names.now c.in-Some.field-0 c.args.inner c.args.at.now c.push_slot.new.at c.args.out.now.items c.push.new.self.items
    (subst (λ (o : Option ValType). ArrivesAt c.args.names.now o c.args.at.now) c.in-Some.is c.requires)
    c.in_ok-push_slot-in-Some.ensures.typing (ap (λ (z : Vec (Option ℕ) Global). z.items) c.in_ok-push_slot-in-Some.ensures.labels) c.in_ok-push_slot-in-Some.ensures.slot c.in_ok-push.ensures.items
