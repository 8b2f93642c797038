use Rattle.std.proofs.Common.{refl, ap}
use Rattle.wa_types.specs.Syntax.{nop, drop, select, const, num, global_get, global_set, load, store, memory_size, memory_grow, memory_copy, memory_fill}
use Rattle.flatten.specs.Emitting.{basic_of}
use Rattle.flatten.proofs.leaves.basic_result.Goals as goal

pub returns-in-Nop : goal.returns-in-Nop
unfolding basic_of
returns-in-Nop c = (nop, ap basic_of c.in-Nop.is, refl)

pub returns-in-Drop : goal.returns-in-Drop
unfolding basic_of
returns-in-Drop c = (drop, ap basic_of c.in-Drop.is, refl)

pub returns-in-Select : goal.returns-in-Select
unfolding basic_of
returns-in-Select c = (select, ap basic_of c.in-Select.is, refl)

pub returns-in-Const : goal.returns-in-Const
unfolding basic_of
returns-in-Const c = (const c.in-Const.field-0, ap basic_of c.in-Const.is, refl)

pub returns-in-Num : goal.returns-in-Num
unfolding basic_of
returns-in-Num c = (num c.in-Num.field-0, ap basic_of c.in-Num.is, refl)

pub returns-in-GlobalGet : goal.returns-in-GlobalGet
unfolding basic_of
returns-in-GlobalGet c = (global_get c.in-GlobalGet.field-0, ap basic_of c.in-GlobalGet.is, refl)

pub returns-in-GlobalSet : goal.returns-in-GlobalSet
unfolding basic_of
returns-in-GlobalSet c = (global_set c.in-GlobalSet.field-0, ap basic_of c.in-GlobalSet.is, refl)

pub returns-in-Load : goal.returns-in-Load
unfolding basic_of
returns-in-Load c = (load c.in-Load.op c.in-Load.align c.in-Load.offset, ap basic_of c.in-Load.is, refl)

pub returns-in-Store : goal.returns-in-Store
unfolding basic_of
returns-in-Store c = (store c.in-Store.op c.in-Store.align c.in-Store.offset, ap basic_of c.in-Store.is, refl)

pub returns-in-MemorySize : goal.returns-in-MemorySize
unfolding basic_of
returns-in-MemorySize c = (memory_size, ap basic_of c.in-MemorySize.is, refl)

pub returns-in-MemoryGrow : goal.returns-in-MemoryGrow
unfolding basic_of
returns-in-MemoryGrow c = (memory_grow, ap basic_of c.in-MemoryGrow.is, refl)

pub returns-in-MemoryCopy : goal.returns-in-MemoryCopy
unfolding basic_of
returns-in-MemoryCopy c = (memory_copy, ap basic_of c.in-MemoryCopy.is, refl)

pub returns-in-MemoryFill : goal.returns-in-MemoryFill
unfolding basic_of
returns-in-MemoryFill c = (memory_fill, ap basic_of c.in-MemoryFill.is, refl)
