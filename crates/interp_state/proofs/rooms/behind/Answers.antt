use Rattle.std.proofs.Common.{arith, ap, sym, ◌∙◌}
use Rattle.wa_types.specs.Syntax.{done}
use Rattle.wa_types.specs.View.{in_front, module_of}
use Rattle.run_theory.specs.Heights.{behind}
use Rattle.interp_state.proofs.RoomLemmas.{after_get, after_global_get, after_const, after_size, after_num, after_select, after_load, after_grow, after_copy, after_fill, after_set, after_global_set, after_drop, after_br_if, after_store, after_tee, after_nop, after_br, after_br_table, after_return, after_unreachable}
use Rattle.interp_state.proofs.rooms.behind.Goals as goal

pub returns-in-LocalGet : goal.returns-in-LocalGet
returns-in-LocalGet c =
    let m = module_of c.args.source.now in
    let h = c.args.height in
    sym (ap (λ i. behind m (in_front i done) h) c.in-LocalGet.is ∙ after_get m h _)

pub returns-in-GlobalGet : goal.returns-in-GlobalGet
returns-in-GlobalGet c =
    let m = module_of c.args.source.now in
    let h = c.args.height in
    sym (ap (λ i. behind m (in_front i done) h) c.in-GlobalGet.is ∙ after_global_get m h _)

pub returns-in-Const : goal.returns-in-Const
returns-in-Const c =
    let m = module_of c.args.source.now in
    let h = c.args.height in
    sym (ap (λ i. behind m (in_front i done) h) c.in-Const.is ∙ after_const m h _)

pub returns-in-MemorySize : goal.returns-in-MemorySize
returns-in-MemorySize c =
    let m = module_of c.args.source.now in
    let h = c.args.height in
    sym (ap (λ i. behind m (in_front i done) h) c.in-MemorySize.is ∙ after_size m h)

pub returns-in-Num : goal.returns-in-Num
returns-in-Num c =
    let m = module_of c.args.source.now in
    let h = c.args.height in
    omega (arith, c.operand_count.ensures, ap (λ i. behind m (in_front i done) h) c.in-Num.is ∙ after_num m h _)

pub returns-in-Select : goal.returns-in-Select
returns-in-Select c =
    let m = module_of c.args.source.now in
    let h = c.args.height in
    omega (arith, ap (λ i. behind m (in_front i done) h) c.in-Select.is ∙ after_select m h)

pub returns-in-Load : goal.returns-in-Load
returns-in-Load c =
    let m = module_of c.args.source.now in
    let h = c.args.height in
    omega (arith, ap (λ i. behind m (in_front i done) h) c.in-Load.is ∙ after_load m h _ _ _)

pub returns-in-MemoryGrow : goal.returns-in-MemoryGrow
returns-in-MemoryGrow c =
    let m = module_of c.args.source.now in
    let h = c.args.height in
    omega (arith, ap (λ i. behind m (in_front i done) h) c.in-MemoryGrow.is ∙ after_grow m h)

pub returns-in-MemoryCopy : goal.returns-in-MemoryCopy
returns-in-MemoryCopy c =
    let m = module_of c.args.source.now in
    let h = c.args.height in
    omega (arith, ap (λ i. behind m (in_front i done) h) c.in-MemoryCopy.is ∙ after_copy m h)

pub returns-in-MemoryFill : goal.returns-in-MemoryFill
returns-in-MemoryFill c =
    let m = module_of c.args.source.now in
    let h = c.args.height in
    omega (arith, ap (λ i. behind m (in_front i done) h) c.in-MemoryFill.is ∙ after_fill m h)

pub returns-in-LocalSet : goal.returns-in-LocalSet
returns-in-LocalSet c =
    let m = module_of c.args.source.now in
    let h = c.args.height in
    omega (arith, ap (λ i. behind m (in_front i done) h) c.in-LocalSet.is ∙ after_set m h _)

pub returns-in-GlobalSet : goal.returns-in-GlobalSet
returns-in-GlobalSet c =
    let m = module_of c.args.source.now in
    let h = c.args.height in
    omega (arith, ap (λ i. behind m (in_front i done) h) c.in-GlobalSet.is ∙ after_global_set m h _)

pub returns-in-Drop : goal.returns-in-Drop
returns-in-Drop c =
    let m = module_of c.args.source.now in
    let h = c.args.height in
    omega (arith, ap (λ i. behind m (in_front i done) h) c.in-Drop.is ∙ after_drop m h)

pub returns-in-BrIf : goal.returns-in-BrIf
returns-in-BrIf c =
    let m = module_of c.args.source.now in
    let h = c.args.height in
    omega (arith, ap (λ i. behind m (in_front i done) h) c.in-BrIf.is ∙ after_br_if m h _)

pub returns-in-Store : goal.returns-in-Store
returns-in-Store c =
    let m = module_of c.args.source.now in
    let h = c.args.height in
    omega (arith, ap (λ i. behind m (in_front i done) h) c.in-Store.is ∙ after_store m h _ _ _)

pub returns-in-LocalTee : goal.returns-in-LocalTee
returns-in-LocalTee c =
    let m = module_of c.args.source.now in
    let h = c.args.height in
    sym (ap (λ i. behind m (in_front i done) h) c.in-LocalTee.is ∙ after_tee m h _)

pub returns-in-Nop : goal.returns-in-Nop
returns-in-Nop c =
    let m = module_of c.args.source.now in
    let h = c.args.height in
    sym (ap (λ i. behind m (in_front i done) h) c.in-Nop.is ∙ after_nop m h)

pub returns-in-Br : goal.returns-in-Br
returns-in-Br c =
    let m = module_of c.args.source.now in
    let h = c.args.height in
    sym (ap (λ i. behind m (in_front i done) h) c.in-Br.is ∙ after_br m h _)

pub returns-in-BrTable : goal.returns-in-BrTable
returns-in-BrTable c =
    let m = module_of c.args.source.now in
    let h = c.args.height in
    sym (ap (λ i. behind m (in_front i done) h) c.in-BrTable.is ∙ after_br_table m h _ _)

pub returns-in-Return : goal.returns-in-Return
returns-in-Return c =
    let m = module_of c.args.source.now in
    let h = c.args.height in
    sym (ap (λ i. behind m (in_front i done) h) c.in-Return.is ∙ after_return m h)

pub returns-in-Unreachable : goal.returns-in-Unreachable
returns-in-Unreachable c =
    let m = module_of c.args.source.now in
    let h = c.args.height in
    sym (ap (λ i. behind m (in_front i done) h) c.in-Unreachable.is ∙ after_unreachable m h)
