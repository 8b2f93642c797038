use Rattle.std.proofs.Common.{ap, arith, ◌≡◌, ◌-◌, ◌∙◌, length, reverse, List, ℕ, Option}
use Rattle.wa_types.specs.Syntax.{return}
use Rattle.run_theory.specs.Flat.{leaps, no_more}
use Rattle.flat_laws.specs.Flatten.{carry}
use Rattle.flatten.specs.Emitting.{all_of, first_or, onto_stmts}
use Rattle.flatten.proofs.LeafLemmas.{labels_long, top_slot_is}
use Rattle.flatten.proofs.JumpLemmas.{is_return, last_put, jumped}
use Rattle.flatten.proofs.jumps.put_return.Goals as goal

pub returns : goal.returns
returns c =
    let n = c.args._names.now in
    let v = c.args.at.now.typing in
    let from = top_slot_is n c.args.at.now c.requires.ready c.top_slot-from.result (c.top_slot-from.ensures ∙ ap (λ (z : List ℕ). first_or (reverse z)) c.deref.ensures.value) in
    let locals = ap (λ (z : List (Option ℕ)). reverse z) c.deref-2.ensures.value ∙ c.requires.ready.labels in
    let label : ℕ = c.len.result - 1 in
    let same : label ≡ length v.labels - 1 = omega (arith, c.len.ensures, labels_long n c.args.at.now c.requires.ready) in
    last_put n v c.args.instr.now return c.args.out.now.items c.push.new.self.items (is_return c.args.instr.now c.requires.is)
    (λ behind k. jumped n v.labels (reverse c.deref-2.result.now) c.args.out.now.items c.put_carry.new.out.items c.push.new.self.items label c.top_slot-from.result
    (all_of v) locals c.in_ok-put_carry.ensures c.in_ok-push.ensures.items from
    ∙ ap (λ l. onto_stmts c.args.out.now.items (carry n v.labels (all_of v) l (leaps l no_more))) same)
