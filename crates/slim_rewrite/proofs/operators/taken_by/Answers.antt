use Rattle.std.proofs.Common.{sym, ◌∙◌}
use Rattle.slim_rewrite.proofs.OpLemmas.{takes_nop, takes_const, takes_global_get, takes_memory_size, takes_drop, takes_global_set, takes_memory_grow, takes_memory_copy, takes_memory_fill, takes_load, takes_store, takes_select, takes_num, takes_get, takes_set, takes_tee}
use Rattle.slim_rewrite.proofs.operators.taken_by.Goals as goal

pub returns-in-Nop : goal.returns-in-Nop
returns-in-Nop c = takes_nop c.args.at.now c.args.op.now c.in-Nop.is

pub returns-in-Const : goal.returns-in-Const
returns-in-Const c = takes_const c.args.at.now c.args.op.now _ c.in-Const.is

pub returns-in-GlobalGet : goal.returns-in-GlobalGet
returns-in-GlobalGet c = takes_global_get c.args.at.now c.args.op.now _ c.in-GlobalGet.is

pub returns-in-MemorySize : goal.returns-in-MemorySize
returns-in-MemorySize c = takes_memory_size c.args.at.now c.args.op.now c.in-MemorySize.is

pub returns-in-Drop : goal.returns-in-Drop
returns-in-Drop c = takes_drop c.args.at.now c.args.op.now c.in-Drop.is

pub returns-in-GlobalSet : goal.returns-in-GlobalSet
returns-in-GlobalSet c = takes_global_set c.args.at.now c.args.op.now _ c.in-GlobalSet.is

pub returns-in-MemoryGrow : goal.returns-in-MemoryGrow
returns-in-MemoryGrow c = takes_memory_grow c.args.at.now c.args.op.now c.in-MemoryGrow.is

pub returns-in-MemoryCopy : goal.returns-in-MemoryCopy
returns-in-MemoryCopy c = takes_memory_copy c.args.at.now c.args.op.now c.in-MemoryCopy.is

pub returns-in-MemoryFill : goal.returns-in-MemoryFill
returns-in-MemoryFill c = takes_memory_fill c.args.at.now c.args.op.now c.in-MemoryFill.is

pub returns-in-Load : goal.returns-in-Load
returns-in-Load c = takes_load c.args.at.now c.args.op.now _ _ _ c.in-Load.is

pub returns-in-Store : goal.returns-in-Store
returns-in-Store c = takes_store c.args.at.now c.args.op.now _ _ _ c.in-Store.is

pub returns-in-Select : goal.returns-in-Select
returns-in-Select c = takes_select c.args.at.now c.args.op.now c.in-Select.is

pub returns-in-Num : goal.returns-in-Num
returns-in-Num c = takes_num c.args.at.now c.args.op.now c.in-Num.num c.operand_count.result c.in-Num.is c.operand_count.ensures

pub returns-else-is_slot : goal.returns-else-is_slot
returns-else-is_slot c = takes_get c.args.at.now c.args.op.now c.in-LocalGet.x c.in-LocalGet.is (sym c.is_slot.ensures ∙ c.if-is_slot.false)

pub returns-else-is_slot-2 : goal.returns-else-is_slot-2
returns-else-is_slot-2 c = takes_set c.args.at.now c.args.op.now c.in-LocalSet.x c.in-LocalSet.is (sym c.is_slot-in-LocalSet.ensures ∙ c.if-is_slot-2.false)

pub returns-else-is_slot-3 : goal.returns-else-is_slot-3
returns-else-is_slot-3 c = takes_tee c.args.at.now c.args.op.now c.in-LocalTee.x c.in-LocalTee.is (sym c.is_slot-in-LocalTee.ensures ∙ c.if-is_slot-3.false)
