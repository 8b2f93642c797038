use Rattle.std.proofs.Common.{refl, ap, sym, arith, subst, ◌≡◌, ◌+◌, ◌-◌, ◌∙◌, ◌++◌, drop, reverse, length, map, ℕ, Option}
use Rattle.std.specs.declared.vec.Vec.{Vec}
use Rattle.std.specs.declared.alloc.Global.{Global}
use Rattle.std.proofs.lemmas.List.{length-reverse}
use Rattle.wa_types.specs.Syntax.{basic}
use Rattle.wa_model.specs.Store.{takes, gives}
use Rattle.wa_model.specs.declared.flat.Operand.TheVariants.{Local}
use Rattle.flat_laws.specs.Flatten.{top_of}
use Rattle.flatten.specs.Emitting.{all_of, Given}
use Rattle.flatten.proofs.BasicLemmas.{is_basic, basic_leaf}
use Rattle.flatten.proofs.TakenLemmas.{basic_changed, new_long, kept_slots, taken_slots, holds_but, bit_few}
use Rattle.flatten.proofs.LeafLemmas.{moved, emits, computed_is, put_is, slots_are_long}
use Rattle.flatten.proofs.leaves.put_basic.Goals as goal

pub copy_leaf-requires : goal.copy_leaf-requires
copy_leaf-requires c = basic_leaf c.args.instr.now c.requires.is.0 c.requires.is.1

pub overflow_sub-kept : goal.overflow_sub-kept
overflow_sub-kept c =
    let b = c.requires.is.0 in
    let v = c.args.at.now.typing in
    let w = c.advance.new.self in
    let st = c.in_ok-advance.ensures.stays in
    let t = moved c.args.names.now v w c.args.instr.now (basic b) (is_basic c.args.instr.now b c.requires.is.1) st c.in_ok-advance.ensures.typed in
    let ch = basic_changed v.around b v.own w.own v.under t in
    let long = new_long c.args.names.now (takes b) (gives b) (all_of v) (w.own ++ v.under) ch (bit_few c.args.given (gives b) c.requires.is.2) c.args.at.now.slots.items c.requires.ready.held in
    let there = ch.there in
    omega (arith, long, there, c.requires.is.2, c.bit.ensures, ap length c.types.ensures, ap (λ z. length (w.own ++ z)) st.under, length-reverse c.types.result.now)

pub take_operands-requires : goal.take_operands-requires
take_operands-requires c =
    let b = c.requires.is.0 in
    let v = c.args.at.now.typing in
    let w = c.advance.new.self in
    let st = c.in_ok-advance.ensures.stays in
    let t = moved c.args.names.now v w c.args.instr.now (basic b) (is_basic c.args.instr.now b c.requires.is.1) st c.in_ok-advance.ensures.typed in
    let ch = basic_changed v.around b v.own w.own v.under t in
    let long = new_long c.args.names.now (takes b) (gives b) (all_of v) (w.own ++ v.under) ch (bit_few c.args.given (gives b) c.requires.is.2) c.args.at.now.slots.items c.requires.ready.held in
    let there = ch.there in
    omega (
      arith,
      long,
      there,
      c.requires.is.2,
      c.bit.ensures,
      ap length c.types.ensures,
      ap (λ z. length (w.own ++ z)) st.under,
      length-reverse c.types.result.now,
      slots_are_long c.args.names.now c.args.at.now c.requires.ready,
    )

pub put_to-requires : goal.put_to-requires
put_to-requires c =
    let b = c.requires.is.0 in
    let n = c.args.names.now in
    let v = c.args.at.now.typing in
    let w = c.advance.new.self in
    let st = c.in_ok-advance.ensures.stays in
    let t = moved n v w c.args.instr.now (basic b) (is_basic c.args.instr.now b c.requires.is.1) st c.in_ok-advance.ensures.typed in
    let ch = basic_changed v.around b v.own w.own v.under t in
    let few = bit_few c.args.given (gives b) c.requires.is.2 in
    let ss = c.args.at.now.slots.items in
    let long = new_long n (takes b) (gives b) (all_of v) (w.own ++ v.under) ch few ss c.requires.ready.held in
    let there = ch.there in
    let kept : ℕ = length c.types.result.now - c.bit.result in
    let e : kept + takes b ≡ length ss =
    omega (
      arith,
      long,
      there,
      c.requires.is.2,
      c.bit.ensures,
      ap length c.types.ensures,
      ap (λ z. length (w.own ++ z)) st.under,
      length-reverse c.types.result.now,
      slots_are_long n c.args.at.now c.requires.ready,
    ) in
    holds_but c.args.given n _ (w.own ++ v.under) (drop (takes b) (all_of v)) (ap (λ z. w.own ++ z) st.under)
    (subst (λ g. Given g (w.own ++ v.under) (drop (takes b) (all_of v))) (sym c.requires.is.2) ch.then_all)
    (ap reverse c.in_ok-args.ensures.kept ∙ kept_slots n (takes b) (gives b) (all_of v) (w.own ++ v.under) ch few ss c.requires.ready.held kept e)

pub returns : goal.returns
returns c =
    let b = c.requires.is.0 in
    let n = c.args.names.now in
    let v = c.args.at.now.typing in
    let w = c.advance.new.self in
    let st = c.in_ok-advance.ensures.stays in
    let ty = c.in_ok-advance.ensures.typed in
    let is = is_basic c.args.instr.now b c.requires.is.1 in
    let t = moved n v w c.args.instr.now (basic b) is st ty in
    let ch = basic_changed v.around b v.own w.own v.under t in
    let few = bit_few c.args.given (gives b) c.requires.is.2 in
    let ss = c.args.at.now.slots.items in
    let long = new_long n (takes b) (gives b) (all_of v) (w.own ++ v.under) ch few ss c.requires.ready.held in
    let there = ch.there in
    let kept : ℕ = length c.types.result.now - c.bit.result in
    let e : kept + takes b ≡ length ss =
    omega (
      arith,
      long,
      there,
      c.requires.is.2,
      c.bit.ensures,
      ap length c.types.ensures,
      ap (λ z. length (w.own ++ z)) st.under,
      length-reverse c.types.result.now,
      slots_are_long n c.args.at.now c.requires.ready,
    ) in
    let args = c.in_ok-args.ensures.taken ∙ ap (map Local) (taken_slots n (takes b) (gives b) (all_of v) (w.own ++ v.under) ch few ss c.requires.ready.held kept e) in
    let to = c.in_ok-to.ensures.to ∙ ap (λ g. top_of n g (all_of w)) c.requires.is.2 in
    put_is n c.args.at.now c.put_to.new.at c.args.instr.now c.args.out.now.items c.push.new.self.items w c.requires.ready st ty
    (emits n v w c.args.instr.now (basic b) is st ty refl c.args.out.now.items c.push.new.self.items
    (λ k. computed_is n b c.args.out.now.items c.push.new.self.items c.in_ok-op.op _ _ (all_of v) (all_of w) k (λ rest. c.in_ok-op.ensures rest ∙ is rest) c.in_ok-push.ensures.items args to))
    c.in_ok-to.ensures.typing (ap (λ (z : Vec (Option ℕ) Global). z.items) c.in_ok-to.ensures.labels) c.in_ok-to.ensures.held
