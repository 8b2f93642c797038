use Rattle.std.proofs.Common.{refl, ap, slice_get, ℕ, Option}
use Rattle.std.specs.declared.vec.Vec.{Vec}
use Rattle.std.specs.declared.alloc.Global.{Global}
use Rattle.wa_types.specs.Syntax.{local_get}
use Rattle.flatten.proofs.LeafLemmas.{moved, emits, is_get, get_below, copied, put_is}
use Rattle.flatten.proofs.PositionLemmas.{slot_more}
use Rattle.flatten.proofs.leaves.put_get.Goals as goal

pub push_slot-requires : goal.push_slot-requires
push_slot-requires c =
    let st = c.in_ok-advance.ensures.stays in
    let t = moved c.args.names.now c.args.at.now.typing c.advance.new.self c.args.instr.now (local_get c.args.x) (is_get c.args.instr.now c.args.x c.requires.is) st c.in_ok-advance.ensures.typed in
    get_below c.args.names.now c.args.at.now.typing c.advance.new.self c.args.at.now.slots.items (slice_get c.args.at.now.typing.around.locals c.args.x) t st.under c.requires.ready.held

pub returns : goal.returns
returns c =
    let n = c.args.names.now in
    let v = c.args.at.now.typing in
    let w = c.advance.new.self in
    let st = c.in_ok-advance.ensures.stays in
    let ty = c.in_ok-advance.ensures.typed in
    let is = is_get c.args.instr.now c.args.x c.requires.is in
    let t = moved n v w c.args.instr.now (local_get c.args.x) is st ty in
    let b = get_below n v w c.args.at.now.slots.items (slice_get v.around.locals c.args.x) t st.under c.requires.ready.held in
    put_is n c.args.at.now c.push_slot.new.at c.args.instr.now c.args.out.now.items c.push.new.self.items w c.requires.ready st ty
    (emits n v w c.args.instr.now (local_get c.args.x) is st ty refl c.args.out.now.items c.push.new.self.items
    (λ k. copied n c.args.out.now.items c.push.new.self.items c.in_ok-to.to c.args.x _ k c.in_ok-push.ensures.items c.in_ok-to.ensures.result))
    c.in_ok-to.ensures.typing (ap (λ (z : Vec (Option ℕ) Global). z.items) c.in_ok-to.ensures.labels)
    (slot_more n c.args.at.now.slots.items c.push_slot.new.at.slots.items b.0 b.1 _ b.3 b.2 c.in_ok-to.ensures.slot)
