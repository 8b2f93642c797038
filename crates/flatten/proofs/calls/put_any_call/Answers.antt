use Rattle.std.proofs.Common.{refl, ap, sym, arith, ◌≡◌, ◌+◌, ◌-◌, ◌∙◌, ◌++◌, drop, reverse, length, ℕ, Option}
use Rattle.std.proofs.lemmas.List.{reverse-reverse}
use Rattle.std.specs.declared.vec.Vec.{Vec}
use Rattle.std.specs.declared.alloc.Global.{Global}
use Rattle.flatten.specs.Emitting.{all_of, onto_stmts}
use Rattle.flatten.specs.Numbers.{bit}
use Rattle.flatten.proofs.TakenLemmas.{kept_slots, holds_but, bit_few}
use Rattle.flatten.proofs.LeafLemmas.{moved, emits, put_is, slots_are_long}
use Rattle.flatten.proofs.CallLemmas.{called_is}
use Rattle.flatten.proofs.calls.put_any_call.Goals as goal

pub overflow_sub-kept : goal.overflow_sub-kept
overflow_sub-kept c = omega (arith, c.requires.call.there, slots_are_long c.args.names.now c.args.at.now c.requires.ready, c.len.ensures)

pub put_to-requires : goal.put_to-requires
put_to-requires c =
    let n = c.args.names.now in
    let v = c.args.at.now.typing in
    let w = c.advance.new.self in
    let st = c.in_ok-advance.ensures.stays in
    let at = c.requires.call in
    let t = moved n v w c.args.instr.now at.call at.is st c.in_ok-advance.ensures.typed in
    let ch = at.changed w.own t in
    let ss = c.args.at.now.slots.items in
    let kept : ℕ = c.len.result - c.args.taken in
    let e : kept + c.args.taken ≡ length ss = omega (arith, at.there, slots_are_long n c.args.at.now c.requires.ready, c.len.ensures) in
    holds_but c.args.given n _ (w.own ++ v.under) (drop c.args.taken (all_of v)) (ap (λ z. w.own ++ z) st.under) ch.then_all
    (ap reverse c.truncate.ensures.items ∙ kept_slots n c.args.taken (bit c.args.given) (all_of v) (w.own ++ v.under) ch (bit_few c.args.given (bit c.args.given) refl) ss c.requires.ready.held kept e)

pub returns : goal.returns
returns c =
    let n = c.args.names.now in
    let v = c.args.at.now.typing in
    let w = c.advance.new.self in
    let st = c.in_ok-advance.ensures.stays in
    let ty = c.in_ok-advance.ensures.typed in
    let at = c.requires.call in
    let stack = c.in_ok-stack.ensures.items ∙ c.deref.ensures.value ∙ sym (reverse-reverse c.args.at.now.slots.items) ∙ ap reverse c.requires.ready.held in
    put_is n c.args.at.now c.put_to.new.at c.args.instr.now c.args.out.now.items c.push.new.self.items w c.requires.ready st ty
    (emits n v w c.args.instr.now at.call at.is st ty at.goes_on c.args.out.now.items c.push.new.self.items
    (λ k. called_is n at.call c.args.out.now.items c.push.new.self.items c.in_ok-op.op c.in_ok-stack.stack c.args.taken c.in_ok-to.to c.args.given (all_of v) (all_of w) k
    (λ rest. c.in_ok-op.ensures rest ∙ at.is rest) c.in_ok-push.ensures.items stack c.in_ok-to.ensures.to
    ∙ ap (onto_stmts c.args.out.now.items) (sym (at.flat_is (all_of w) k))))
    c.in_ok-to.ensures.typing (ap (λ (z : Vec (Option ℕ) Global). z.items) c.in_ok-to.ensures.labels) c.in_ok-to.ensures.held
