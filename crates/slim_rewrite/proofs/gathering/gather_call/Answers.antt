use Rattle.std.proofs.Common.{ap, sym, ◌∙◌, ◌+◌, ◌-◌, length, arith}
use Rattle.std.specs.Option.{option_map}
use Rattle.std.proofs.lemmas.List.{take_rest}
use Rattle.wa_types.specs.Syntax.{done}
use Rattle.wa_types.specs.View.{in_front, onto}
use Rattle.run_theory.specs.Flat.{followed_by, set_to, slots_got}
use Rattle.flow_rewrite.specs.UnitView.{callee_of}
use Rattle.slim_rewrite.proofs.CallLemmas.{call_leaf}
use Rattle.slim_rewrite.proofs.GatherLemmas.{bare_good, call_gathered, free_gathered}
use Rattle.slim_rewrite.proofs.NestLemmas.{on_ok}
use Rattle.slim_rewrite.proofs.gathering.gather_call.Goals as goal

pub open_unit-requires : goal.open_unit-requires
open_unit-requires c = bare_good c.args.at.now c.requires.bare

pub put_copy-requires : goal.put_copy-requires
put_copy-requires c = call_leaf c.args.call.op.now c.requires.ready.fit.0

pub returns-in_ok-slots-in-Some : goal.returns-in_ok-slots-in-Some
returns-in_ok-slots-in-Some c = on_ok c.open_unit.result _ _
    (λ opened. call_gathered c.args.numbers.now c.args.at.now c.open_unit.new.at c.args.all.now c.open_unit.new.all (c.args.all.now.place + 1) c.in_ok-slots-in-Some.slots c.in-Some.target
    (in_front c.args.call.op.now done) c.args.call.stack.now c.args.call.args c.args.call.to c.requires.bare opened (omega arith)
    (ap (option_map callee_of) (sym c.in-Some.is) ∙ c.numbered_target.ensures)
    (c.in_ok-slots-in-Some.ensures.items ∙ take_rest c.args.call.stack.now (length c.args.call.stack.now - c.args.call.args))) c.open_unit.ensures

pub returns-in_ok-put_copy-in-None : goal.returns-in_ok-put_copy-in-None
returns-in_ok-put_copy-in-None c = on_ok c.put_to.result _ _
    (λ puts. free_gathered c.args.numbers.now c.args.at.now _ c.args.all.now (c.args.all.now.place + 1) (in_front c.args.call.op.now done) c.args.call.stack.now c.args.call.args c.args.call.to
    (record { stack = c.requires.bare.stack; set = c.requires.bare.set; floor = c.requires.bare.floor }) (omega arith) (ap (option_map callee_of) (sym c.in-None.is) ∙ c.numbered_target.ensures)
    (λ rest. puts rest ∙ c.in_ok-put_copy-in-None.ensures (set_to c.args.call.to rest) ∙ c.in_ok-put_slots-in-None.ensures (followed_by (in_front c.args.call.op.now done) (set_to c.args.call.to rest))
    ∙ ap (λ xs. onto c.args.at.now.piece.items (slots_got xs (followed_by (in_front c.args.call.op.now done) (set_to c.args.call.to rest))))
    (take_rest c.args.call.stack.now (length c.args.call.stack.now - c.args.call.args)))) c.put_to.ensures
