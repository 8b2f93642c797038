use Rattle.std.proofs.Common.{ap, sym, ◌∙◌, refl, map, reverse, subst}
use Rattle.std.proofs.lemmas.Result.{IfOk-weaker, IfErr-weaker}
use Rattle.wa_types.specs.declared.values.Trap.TheVariants as T
use Rattle.wa_types.specs.declared.instrs.Instr.TheVariants.{Unreachable, Nop, Drop, Select, Return, MemorySize, MemoryGrow, MemoryCopy, MemoryFill, Const, Num, Br, BrIf, BrTable, Call, CallIndirect, LocalGet, LocalSet, LocalTee, GlobalGet, GlobalSet, Load, Store, Block, Loop, If}
use Rattle.wa_types.specs.Syntax.{basic, nop, drop as drop_operand, select, const, num, global_get, global_set, load, store, memory_size, memory_grow, memory_copy, memory_fill, local_get, local_set, local_tee, br, br_if, br_table, return, unreachable, call, call_indirect, plain, nest, branch, a_block, a_loop}
use Rattle.wa_types.specs.View.{code, module_of}
use Rattle.wa_types.proofs.ViewLemmas.{in_block, in_loop, in_if, in_br_table}
use Rattle.run_theory.specs.Fitting.{NextFits}
use Rattle.wa_model.specs.Step.{memory_max, leave}
use Rattle.interp_state.specs.declared.flow.Flow.TheVariants.{Moved, Trapped}
use Rattle.interp_state.specs.Effects.{Shows, effect}
use Rattle.interp.specs.Stacks.{code_of}
use Rattle.interp.specs.Told.{Tells}
use Rattle.interp_state.specs.View.{store_of, running_of, waiting_of}
use Rattle.interp.proofs.Fronts.{front_unreachable, front_nop, front_drop, front_select, front_return, front_size, front_grow, front_copy, front_fill, front_const, front_num, front_br, front_br_if, front_call, front_indirect, front_local_get, front_local_set, front_local_tee, front_global_get, front_global_set, front_load, front_store}
use Rattle.interp.proofs.ReduceLemmas.{code_arm, basic_arm, paid_arm, if_ok_both}
use Rattle.interp.proofs.RoomKept.{arm_lacked, err_any, grow_unpaid, labels_lacked, never_err, ok_any, operands_hold, operands_lacked, refuted_arm, roomier, taking_arm}
use Rattle.interp.proofs.reducing.dispatch.Goals as goal

pub returns-in-Const : goal.returns-in-Const
returns-in-Const c =
    let m = module_of c.args.program.now in
    let s = store_of c.args.store.now in
    let k = c.args.stack.now in
    let rest = code k.here.code.now in
    record {
      tells =
          IfOk-weaker c.constant.result _ _ (λ f told. basic_arm m s s k c.constant.new.operands c.args.instr.now (Const c.in-Const.value) (const c.in-Const.value) f c.args.left c.in-Const.is
          (front_const c.in-Const.value rest) refl c.requires.paid (λ _. refl) (told (memory_max m) s)) c.constant.ensures.shows;
      max = refl;
      holds = ok_any c.constant.result _ (operands_hold (module_of c.args.program.now) c.args.stack.now c.constant.new.operands c.constant.ensures.holds);
      lacks =
          IfErr-weaker c.constant.result _ _ (λ e full outs h. refuted_arm m outs s k c.args.instr.now (Const c.in-Const.value) (plain (basic (const c.in-Const.value)) rest) c.in-Const.is
          (front_const c.in-Const.value rest) (operands_lacked m outs k (code_of m s k (plain (basic (const c.in-Const.value)) rest)) 0 _ _ _ _ _ _ refl full h)) c.constant.ensures.lacks;
      unchanged = err_any c.constant.result _ (λ e. refl);
    }

pub returns-in-Num : goal.returns-in-Num
returns-in-Num c =
    let m = module_of c.args.program.now in
    let s = store_of c.args.store.now in
    let k = c.args.stack.now in
    let rest = code k.here.code.now in
    record {
      tells =
          IfOk-weaker c.numeric.result _ _ (λ f told. basic_arm m s s k c.numeric.new.operands c.args.instr.now (Num c.in-Num.op) (num c.in-Num.op) f c.args.left c.in-Num.is
          (front_num c.in-Num.op rest) refl c.requires.paid (λ _. refl) (told (memory_max m) s)) c.numeric.ensures.shows;
      max = refl;
      holds = ok_any c.numeric.result _ (operands_hold (module_of c.args.program.now) c.args.stack.now c.numeric.new.operands c.numeric.ensures.holds);
      lacks = never_err c.numeric.result _ c.numeric.ensures.succeeds;
      unchanged = err_any c.numeric.result _ (λ e. refl);
    }

pub returns-in-Select : goal.returns-in-Select
returns-in-Select c =
    let m = module_of c.args.program.now in
    let s = store_of c.args.store.now in
    let k = c.args.stack.now in
    let rest = code k.here.code.now in
    record {
      tells =
          IfOk-weaker c.choose.result _ _ (λ f told. basic_arm m s s k c.choose.new.operands c.args.instr.now Select select f c.args.left c.in-Select.is (front_select rest) refl c.requires.paid
          (λ _. refl) (told (memory_max m) s)) c.choose.ensures.shows;
      max = refl;
      holds = ok_any c.choose.result _ (operands_hold (module_of c.args.program.now) c.args.stack.now c.choose.new.operands c.choose.ensures.holds);
      lacks = never_err c.choose.result _ c.choose.ensures.succeeds;
      unchanged = err_any c.choose.result _ (λ e. refl);
    }

pub returns-in-Load : goal.returns-in-Load
returns-in-Load c =
    let m = module_of c.args.program.now in
    let s = store_of c.args.store.now in
    let k = c.args.stack.now in
    let rest = code k.here.code.now in
    record {
      tells =
          IfOk-weaker c.load_at.result _ _ (λ f told. basic_arm m s s k c.load_at.new.operands c.args.instr.now (Load c.in-Load.op c.in-Load.align c.in-Load.offset)
          (load c.in-Load.op c.in-Load.align c.in-Load.offset) f c.args.left c.in-Load.is (front_load c.in-Load.op c.in-Load.align c.in-Load.offset rest) refl c.requires.paid (λ _. refl)
          (told (memory_max m) c.in-Load.align)) c.load_at.ensures.shows;
      max = refl;
      holds = ok_any c.load_at.result _ (operands_hold (module_of c.args.program.now) c.args.stack.now c.load_at.new.operands c.load_at.ensures.holds);
      lacks = never_err c.load_at.result _ c.load_at.ensures.succeeds;
      unchanged = err_any c.load_at.result _ (λ e. refl);
    }

pub returns-in-MemorySize : goal.returns-in-MemorySize
returns-in-MemorySize c =
    let m = module_of c.args.program.now in
    let s = store_of c.args.store.now in
    let k = c.args.stack.now in
    let rest = code k.here.code.now in
    record {
      tells =
          IfOk-weaker c.memory_size.result _ _ (λ f told. basic_arm m s s k c.memory_size.new.operands c.args.instr.now MemorySize memory_size f c.args.left c.in-MemorySize.is
          (front_size rest) refl c.requires.paid (λ _. refl) (told (memory_max m))) c.memory_size.ensures.shows;
      max = refl;
      holds = ok_any c.memory_size.result _ (operands_hold (module_of c.args.program.now) c.args.stack.now c.memory_size.new.operands c.memory_size.ensures.holds);
      lacks =
          IfErr-weaker c.memory_size.result _ _ (λ e full outs h. refuted_arm m outs s k c.args.instr.now (MemorySize) (plain (basic memory_size) rest) c.in-MemorySize.is (front_size rest)
          (operands_lacked m outs k (code_of m s k (plain (basic memory_size) rest)) 0 _ _ _ _ _ _ refl full h)) c.memory_size.ensures.lacks;
      unchanged = err_any c.memory_size.result _ (λ e. refl);
    }

pub returns-in-GlobalGet : goal.returns-in-GlobalGet
returns-in-GlobalGet c =
    let m = module_of c.args.program.now in
    let s = store_of c.args.store.now in
    let k = c.args.stack.now in
    let rest = code k.here.code.now in
    record {
      tells =
          IfOk-weaker c.get_global.result _ _ (λ f told. basic_arm m s s k c.get_global.new.operands c.args.instr.now (GlobalGet c.in-GlobalGet.x)
          (global_get c.in-GlobalGet.x) f c.args.left c.in-GlobalGet.is (front_global_get c.in-GlobalGet.x rest) refl c.requires.paid (λ _. refl) (told (memory_max m))) c.get_global.ensures.shows;
      max = refl;
      holds = ok_any c.get_global.result _ (operands_hold (module_of c.args.program.now) c.args.stack.now c.get_global.new.operands c.get_global.ensures.holds);
      lacks =
          IfErr-weaker c.get_global.result _ _ (λ e full outs h. refuted_arm m outs s k c.args.instr.now (GlobalGet c.in-GlobalGet.x)
          (plain (basic (global_get c.in-GlobalGet.x)) rest) c.in-GlobalGet.is (front_global_get c.in-GlobalGet.x rest)
          (operands_lacked m outs k (code_of m s k (plain (basic (global_get c.in-GlobalGet.x)) rest)) 0 _ _ _ _ _ _ refl full h)) c.get_global.ensures.lacks;
      unchanged = err_any c.get_global.result _ (λ e. refl);
    }

pub returns-in-Drop : goal.returns-in-Drop
returns-in-Drop c =
    let m = module_of c.args.program.now in
    let s = store_of c.args.store.now in
    let k = c.args.stack.now in
    let rest = code k.here.code.now in
    record {
      tells =
          basic_arm m s s k c.drop_top.new.operands c.args.instr.now Drop drop_operand c.drop_top.result c.args.left c.in-Drop.is (front_drop rest) refl c.requires.paid (λ _. refl)
          (c.drop_top.ensures.shows (memory_max m) s);
      max = refl;
      holds = operands_hold (module_of c.args.program.now) c.args.stack.now c.drop_top.new.operands c.drop_top.ensures.holds;
      lacks = tt;
      unchanged = tt;
    }

pub returns-in-Nop : goal.returns-in-Nop
returns-in-Nop c =
    let m = module_of c.args.program.now in
    let s = store_of c.args.store.now in
    let k = c.args.stack.now in
    let rest = code k.here.code.now in
    record {
      tells = basic_arm m s s k k.here.operands c.args.instr.now Nop nop (Moved 0) c.args.left c.in-Nop.is (front_nop rest) refl c.requires.paid (λ _. refl) (refl, refl);
      max = refl;
      holds = λ h. h;
      lacks = tt;
      unchanged = tt;
    }

pub returns-in-Unreachable : goal.returns-in-Unreachable
returns-in-Unreachable c =
    let m = module_of c.args.program.now in
    let s = store_of c.args.store.now in
    let k = c.args.stack.now in
    let rest = code k.here.code.now in
    record {
      tells = code_arm m s k c.args.instr.now Unreachable (plain unreachable rest) (Trapped 0 T.Unreachable) c.args.left (running_of s k) c.in-Unreachable.is (front_unreachable rest) (refl, c.requires.paid);
      max = refl;
      holds = λ h. h;
      lacks = tt;
      unchanged = tt;
    }

pub returns-in-Store : goal.returns-in-Store
returns-in-Store c =
    let m = module_of c.args.program.now in
    let s = store_of c.args.store.now in
    let k = c.args.stack.now in
    let rest = code k.here.code.now in
    record {
      tells =
          basic_arm m s (store_of c.store_at.new.store) k c.store_at.new.operands c.args.instr.now (Store c.in-Store.op c.in-Store.align c.in-Store.offset)
          (store c.in-Store.op c.in-Store.align c.in-Store.offset) c.store_at.result c.args.left c.in-Store.is
          (front_store c.in-Store.op c.in-Store.align c.in-Store.offset rest) refl c.requires.paid c.store_at.ensures.kept (c.store_at.ensures.shows (memory_max m) c.in-Store.align);
      max = c.store_at.ensures.max;
      holds = operands_hold (module_of c.args.program.now) c.args.stack.now c.store_at.new.operands c.store_at.ensures.holds;
      lacks = tt;
      unchanged = tt;
    }

pub returns-in-GlobalSet : goal.returns-in-GlobalSet
returns-in-GlobalSet c =
    let m = module_of c.args.program.now in
    let s = store_of c.args.store.now in
    let k = c.args.stack.now in
    let rest = code k.here.code.now in
    record {
      tells =
          basic_arm m s (store_of c.set_global.new.store) k c.set_global.new.operands c.args.instr.now (GlobalSet c.in-GlobalSet.x)
          (global_set c.in-GlobalSet.x) c.set_global.result c.args.left c.in-GlobalSet.is (front_global_set c.in-GlobalSet.x rest) refl c.requires.paid c.set_global.ensures.kept
          (c.set_global.ensures.shows (memory_max m));
      max = c.set_global.ensures.max;
      holds = operands_hold (module_of c.args.program.now) c.args.stack.now c.set_global.new.operands c.set_global.ensures.holds;
      lacks = tt;
      unchanged = tt;
    }

pub returns-in-MemoryGrow : goal.returns-in-MemoryGrow
returns-in-MemoryGrow c =
    let m = module_of c.args.program.now in
    let s = store_of c.args.store.now in
    let k = c.args.stack.now in
    let rest = code k.here.code.now in
    record {
      tells =
          IfOk-weaker c.memory_grow.result _ _ (λ f told. basic_arm m s (store_of c.memory_grow.new.store) k c.memory_grow.new.operands c.args.instr.now MemoryGrow memory_grow f c.args.left
          c.in-MemoryGrow.is (front_grow rest) refl c.requires.paid told.1 (subst (λ most. Shows (effect most memory_grow s (reverse k.here.operands.items)) f (store_of c.memory_grow.new.store)
          (reverse c.memory_grow.new.operands.items)) c.requires.most told.0)) (if_ok_both c.memory_grow.result _ _ c.memory_grow.ensures.shows c.memory_grow.ensures.kept);
      max = c.memory_grow.ensures.max;
      holds = ok_any c.memory_grow.result _ (operands_hold (module_of c.args.program.now) c.args.stack.now c.memory_grow.new.operands c.memory_grow.ensures.holds);
      lacks = err_any c.memory_grow.result _ (λ e outs h fits. taking_arm m s k c.args.instr.now (MemoryGrow) (plain (basic memory_grow) rest) c.in-MemoryGrow.is (front_grow rest) (grow_unpaid m s k));
      unchanged = c.memory_grow.ensures.unchanged;
    }

pub returns-in-MemoryCopy : goal.returns-in-MemoryCopy
returns-in-MemoryCopy c =
    let m = module_of c.args.program.now in
    let s = store_of c.args.store.now in
    let k = c.args.stack.now in
    let rest = code k.here.code.now in
    record {
      tells =
          paid_arm m s (store_of c.memory_copy.new.store) k c.memory_copy.new.operands c.args.instr.now MemoryCopy memory_copy c.memory_copy.result c.args.left c.in-MemoryCopy.is (front_copy rest)
          c.requires.paid c.memory_copy.ensures.kept (c.memory_copy.ensures.shows (memory_max m));
      max = c.memory_copy.ensures.max;
      holds = operands_hold (module_of c.args.program.now) c.args.stack.now c.memory_copy.new.operands c.memory_copy.ensures.holds;
      lacks = tt;
      unchanged = tt;
    }

pub returns-in-MemoryFill : goal.returns-in-MemoryFill
returns-in-MemoryFill c =
    let m = module_of c.args.program.now in
    let s = store_of c.args.store.now in
    let k = c.args.stack.now in
    let rest = code k.here.code.now in
    record {
      tells =
          paid_arm m s (store_of c.memory_fill.new.store) k c.memory_fill.new.operands c.args.instr.now MemoryFill memory_fill c.memory_fill.result c.args.left c.in-MemoryFill.is (front_fill rest)
          c.requires.paid c.memory_fill.ensures.kept (c.memory_fill.ensures.shows (memory_max m));
      max = c.memory_fill.ensures.max;
      holds = operands_hold (module_of c.args.program.now) c.args.stack.now c.memory_fill.new.operands c.memory_fill.ensures.holds;
      lacks = tt;
      unchanged = tt;
    }

pub returns-in-LocalGet : goal.returns-in-LocalGet
returns-in-LocalGet c =
    let m = module_of c.args.program.now in
    let s = store_of c.args.store.now in
    let k = c.args.stack.now in
    let rest = code k.here.code.now in
    record {
      tells =
          IfOk-weaker c.get_local.result _ _ (λ f told. code_arm m s k c.args.instr.now (LocalGet c.in-LocalGet.x) (plain (local_get c.in-LocalGet.x) rest) f c.args.left
          (running_of s c.get_local.new.stack) c.in-LocalGet.is (front_local_get c.in-LocalGet.x rest) (told m s c.args.left c.requires.paid)) c.get_local.ensures.tells;
      max = refl;
      holds = ok_any c.get_local.result _ (roomier (module_of c.args.program.now) c.args.stack.now c.get_local.new.stack c.get_local.ensures.holds);
      lacks =
          IfErr-weaker c.get_local.result _ _ (λ e full outs h. refuted_arm m outs s k c.args.instr.now (LocalGet c.in-LocalGet.x) (plain (local_get c.in-LocalGet.x) rest) c.in-LocalGet.is
          (front_local_get c.in-LocalGet.x rest) (operands_lacked m outs k (code_of m s k (plain (local_get c.in-LocalGet.x) rest)) 0 _ _ _ _ _ _ refl full h)) c.get_local.ensures.lacks;
      unchanged = err_any c.get_local.result _ (λ e. refl);
    }

pub returns-in-LocalSet : goal.returns-in-LocalSet
returns-in-LocalSet c =
    let m = module_of c.args.program.now in
    let s = store_of c.args.store.now in
    let k = c.args.stack.now in
    let rest = code k.here.code.now in
    record {
      tells =
          code_arm m s k c.args.instr.now (LocalSet c.in-LocalSet.x) (plain (local_set c.in-LocalSet.x) rest) c.set_local.result c.args.left (running_of s c.set_local.new.stack) c.in-LocalSet.is
          (front_local_set c.in-LocalSet.x rest) (c.set_local.ensures.tells m s c.args.left c.requires.paid);
      max = refl;
      holds = roomier (module_of c.args.program.now) c.args.stack.now c.set_local.new.stack c.set_local.ensures.holds;
      lacks = tt;
      unchanged = tt;
    }

pub returns-in-LocalTee : goal.returns-in-LocalTee
returns-in-LocalTee c =
    let m = module_of c.args.program.now in
    let s = store_of c.args.store.now in
    let k = c.args.stack.now in
    let rest = code k.here.code.now in
    record {
      tells =
          code_arm m s k c.args.instr.now (LocalTee c.in-LocalTee.x) (plain (local_tee c.in-LocalTee.x) rest) c.tee_local.result c.args.left (running_of s c.tee_local.new.stack) c.in-LocalTee.is
          (front_local_tee c.in-LocalTee.x rest) (c.tee_local.ensures.tells m s c.args.left c.requires.paid);
      max = refl;
      holds = roomier (module_of c.args.program.now) c.args.stack.now c.tee_local.new.stack c.tee_local.ensures.holds;
      lacks = tt;
      unchanged = tt;
    }

pub returns-in-Block : goal.returns-in-Block
returns-in-Block c =
    let m = module_of c.args.program.now in
    let s = store_of c.args.store.now in
    let k = c.args.stack.now in
    let rest = code k.here.code.now in
    record {
      tells =
          IfOk-weaker c.enter_block.result _ _ (λ f told. code_arm m s k c.args.instr.now (Block c.in-Block.result c.in-Block.body)
          (nest a_block c.in-Block.result (code c.deref.result.now) rest) f c.args.left (running_of s c.enter_block.new.stack) c.in-Block.is (in_block c.in-Block.result c.in-Block.body rest
          ∙ ap (λ b. nest a_block c.in-Block.result (code b) rest) (sym c.deref.ensures.value)) (told m s c.args.left c.requires.paid)) c.enter_block.ensures.tells;
      max = refl;
      holds = ok_any c.enter_block.result _ (roomier (module_of c.args.program.now) c.args.stack.now c.enter_block.new.stack c.enter_block.ensures.holds);
      lacks =
          IfErr-weaker c.enter_block.result _ _ (λ e full outs h. refuted_arm m outs s k c.args.instr.now (Block c.in-Block.result c.in-Block.body)
          (nest a_block c.in-Block.result (code c.deref.result.now) rest) c.in-Block.is (in_block c.in-Block.result c.in-Block.body rest
          ∙ ap (λ b. nest a_block c.in-Block.result (code b) rest) (sym c.deref.ensures.value))
          (labels_lacked m outs k (code_of m s k (nest a_block c.in-Block.result (code c.deref.result.now) rest)) 0 _ _ _ _ _ _ refl full h)) c.enter_block.ensures.lacks;
      unchanged = err_any c.enter_block.result _ (λ e. refl);
    }

pub returns-in-Loop : goal.returns-in-Loop
returns-in-Loop c =
    let m = module_of c.args.program.now in
    let s = store_of c.args.store.now in
    let k = c.args.stack.now in
    let rest = code k.here.code.now in
    record {
      tells =
          IfOk-weaker c.enter_loop.result _ _ (λ f told. code_arm m s k c.args.instr.now (Loop c.in-Loop.result c.in-Loop.body)
          (nest a_loop c.in-Loop.result (code c.deref-in-Loop.result.now) rest) f c.args.left (running_of s c.enter_loop.new.stack) c.in-Loop.is (in_loop c.in-Loop.result c.in-Loop.body rest
          ∙ ap (λ b. nest a_loop c.in-Loop.result (code b) rest) (sym c.deref-in-Loop.ensures.value)) (told m s c.args.left c.requires.paid)) c.enter_loop.ensures.tells;
      max = refl;
      holds = ok_any c.enter_loop.result _ (roomier (module_of c.args.program.now) c.args.stack.now c.enter_loop.new.stack c.enter_loop.ensures.holds);
      lacks =
          IfErr-weaker c.enter_loop.result _ _ (λ e full outs h. refuted_arm m outs s k c.args.instr.now (Loop c.in-Loop.result c.in-Loop.body)
          (nest a_loop c.in-Loop.result (code c.deref-in-Loop.result.now) rest) c.in-Loop.is (in_loop c.in-Loop.result c.in-Loop.body rest
          ∙ ap (λ b. nest a_loop c.in-Loop.result (code b) rest) (sym c.deref-in-Loop.ensures.value))
          (labels_lacked m outs k (code_of m s k (nest a_loop c.in-Loop.result (code c.deref-in-Loop.result.now) rest)) 0 _ _ _ _ _ _ refl full h)) c.enter_loop.ensures.lacks;
      unchanged = err_any c.enter_loop.result _ (λ e. refl);
    }

pub returns-in-If : goal.returns-in-If
returns-in-If c =
    let m = module_of c.args.program.now in
    let s = store_of c.args.store.now in
    let k = c.args.stack.now in
    let rest = code k.here.code.now in
    record {
      tells =
          IfOk-weaker c.enter_arm.result _ _ (λ f told. code_arm m s k c.args.instr.now (If c.in-If.result c.in-If.then_arm c.in-If.else_arm)
          (branch c.in-If.result (code c.deref-in-If.result.now) (code c.deref-in-If-2.result.now) rest) f c.args.left (running_of s c.enter_arm.new.stack) c.in-If.is
          (in_if c.in-If.result c.in-If.then_arm c.in-If.else_arm rest ∙ ap (λ b. branch c.in-If.result (code b) (code c.in-If.else_arm.items) rest) (sym c.deref-in-If.ensures.value)
          ∙ ap (λ b. branch c.in-If.result (code c.deref-in-If.result.now) (code b) rest) (sym c.deref-in-If-2.ensures.value)) (told m s c.args.left c.requires.paid)) c.enter_arm.ensures.tells;
      max = refl;
      holds = ok_any c.enter_arm.result _ (roomier (module_of c.args.program.now) c.args.stack.now c.enter_arm.new.stack c.enter_arm.ensures.holds);
      lacks =
          IfErr-weaker c.enter_arm.result _ _ (λ e full outs h. refuted_arm m outs s k c.args.instr.now (If c.in-If.result c.in-If.then_arm c.in-If.else_arm)
          (branch c.in-If.result (code c.deref-in-If.result.now) (code c.deref-in-If-2.result.now) rest) c.in-If.is (in_if c.in-If.result c.in-If.then_arm c.in-If.else_arm rest
          ∙ ap (λ b. branch c.in-If.result (code b) (code c.in-If.else_arm.items) rest) (sym c.deref-in-If.ensures.value)
          ∙ ap (λ b. branch c.in-If.result (code c.deref-in-If.result.now) (code b) rest) (sym c.deref-in-If-2.ensures.value))
          (arm_lacked m outs k s c.in-If.result (code c.deref-in-If.result.now) (code c.deref-in-If-2.result.now) full h)) c.enter_arm.ensures.lacks;
      unchanged = err_any c.enter_arm.result _ (λ e. refl);
    }

pub returns-in-Br : goal.returns-in-Br
returns-in-Br c =
    let m = module_of c.args.program.now in
    let s = store_of c.args.store.now in
    let k = c.args.stack.now in
    let rest = code k.here.code.now in
    record {
      tells =
          IfOk-weaker c.jump.result _ _ (λ f told. code_arm m s k c.args.instr.now (Br c.in-Br.label) (plain (br c.in-Br.label) rest) f c.args.left (running_of s c.jump.new.stack) c.in-Br.is
          (front_br c.in-Br.label rest) (told s c.args.left c.requires.paid)) c.jump.ensures.tells;
      max = refl;
      holds = ok_any c.jump.result _ (c.jump.ensures.holds (module_of c.args.program.now));
      lacks =
          IfErr-weaker c.jump.result _ _ (λ e f outs h. refuted_arm m outs s k c.args.instr.now (Br c.in-Br.label) (plain (br c.in-Br.label) rest) c.in-Br.is (front_br c.in-Br.label rest)
          (f s outs h)) c.jump.ensures.lacks;
      unchanged = err_any c.jump.result _ (λ e. refl);
    }

pub returns-in-BrIf : goal.returns-in-BrIf
returns-in-BrIf c =
    let m = module_of c.args.program.now in
    let s = store_of c.args.store.now in
    let k = c.args.stack.now in
    let rest = code k.here.code.now in
    record {
      tells =
          IfOk-weaker c.branch_if.result _ _ (λ f told. code_arm m s k c.args.instr.now (BrIf c.in-BrIf.label) (plain (br_if c.in-BrIf.label) rest) f c.args.left
          (running_of s c.branch_if.new.stack) c.in-BrIf.is (front_br_if c.in-BrIf.label rest) (told s c.args.left c.requires.paid)) c.branch_if.ensures.tells;
      max = refl;
      holds = ok_any c.branch_if.result _ (c.branch_if.ensures.holds (module_of c.args.program.now));
      lacks =
          IfErr-weaker c.branch_if.result _ _ (λ e f outs h. refuted_arm m outs s k c.args.instr.now (BrIf c.in-BrIf.label) (plain (br_if c.in-BrIf.label) rest) c.in-BrIf.is
          (front_br_if c.in-BrIf.label rest) (f s outs h)) c.branch_if.ensures.lacks;
      unchanged = err_any c.branch_if.result _ (λ e. refl);
    }

pub returns-in-BrTable : goal.returns-in-BrTable
returns-in-BrTable c =
    let m = module_of c.args.program.now in
    let s = store_of c.args.store.now in
    let k = c.args.stack.now in
    let rest = code k.here.code.now in
    record {
      tells =
          IfOk-weaker c.branch_by.result _ _ (λ f told. code_arm m s k c.args.instr.now (BrTable c.in-BrTable.labels c.in-BrTable.last)
          (plain (br_table c.in-BrTable.labels.items c.in-BrTable.last) rest) f c.args.left (running_of s c.branch_by.new.stack) c.in-BrTable.is
          (in_br_table c.in-BrTable.labels c.in-BrTable.last rest) (told s)) c.branch_by.ensures.tells;
      max = refl;
      holds = ok_any c.branch_by.result _ (c.branch_by.ensures.holds (module_of c.args.program.now));
      lacks =
          IfErr-weaker c.branch_by.result _ _ (λ e f outs h. refuted_arm m outs s k c.args.instr.now (BrTable c.in-BrTable.labels c.in-BrTable.last)
          (plain (br_table c.in-BrTable.labels.items c.in-BrTable.last) rest) c.in-BrTable.is (in_br_table c.in-BrTable.labels c.in-BrTable.last rest) (f s outs h)) c.branch_by.ensures.lacks;
      unchanged = err_any c.branch_by.result _ (λ e. refl);
    }

pub returns-in-Return : goal.returns-in-Return
returns-in-Return c =
    let m = module_of c.args.program.now in
    let s = store_of c.args.store.now in
    let k = c.args.stack.now in
    let rest = code k.here.code.now in
    record {
      tells =
          IfOk-weaker c.leave.result _ _ (λ f told. code_arm m s k c.args.instr.now Return (plain return rest) f c.args.left (running_of s c.leave.new.stack) c.in-Return.is (front_return rest)
          (subst (λ n. Tells s (leave 0 s (reverse k.here.operands.items) n (map waiting_of (reverse k.under.items))) c.args.left f (running_of s c.leave.new.stack)) c.func_results.ensures
          (told s c.args.left c.requires.paid))) c.leave.ensures.tells;
      max = refl;
      holds = ok_any c.leave.result _ (c.leave.ensures.holds (module_of c.args.program.now));
      lacks =
          IfErr-weaker c.leave.result _ _ (λ e f outs h. refuted_arm m outs s k c.args.instr.now (Return) (plain return rest) c.in-Return.is (front_return rest)
          (subst (λ n. NextFits m outs (leave 0 s (reverse k.here.operands.items) n (map waiting_of (reverse k.under.items))) → ⊥) c.func_results.ensures (f m s outs h))) c.leave.ensures.lacks;
      unchanged = err_any c.leave.result _ (λ e. refl);
    }

pub returns-in-Call : goal.returns-in-Call
returns-in-Call c =
    let m = module_of c.args.program.now in
    let s = store_of c.args.store.now in
    let k = c.args.stack.now in
    let rest = code k.here.code.now in
    record {
      tells =
          IfOk-weaker c.call.result _ _ (λ f told. code_arm m s k c.args.instr.now (Call c.in-Call.func) (plain (call c.in-Call.func) rest) f c.args.left
          (running_of s c.call.new.stack) c.in-Call.is (front_call c.in-Call.func rest) (told s)) c.call.ensures.tells;
      max = refl;
      holds = c.call.ensures.holds;
      lacks =
          IfErr-weaker c.call.result _ _ (λ e paid outs h fits. taking_arm m s k c.args.instr.now (Call c.in-Call.func) (plain (call c.in-Call.func) rest) c.in-Call.is
          (front_call c.in-Call.func rest) (tt, paid s)) c.call.ensures.lacks;
      unchanged = err_any c.call.result _ (λ e. refl);
    }

pub returns-in-CallIndirect : goal.returns-in-CallIndirect
returns-in-CallIndirect c =
    let m = module_of c.args.program.now in
    let s = store_of c.args.store.now in
    let k = c.args.stack.now in
    let rest = code k.here.code.now in
    record {
      tells =
          IfOk-weaker c.call_indirect.result _ _ (λ f told. code_arm m s k c.args.instr.now (CallIndirect c.in-CallIndirect.sort) (plain (call_indirect c.in-CallIndirect.sort) rest) f c.args.left
          (running_of s c.call_indirect.new.stack) c.in-CallIndirect.is (front_indirect c.in-CallIndirect.sort rest) (told s refl)) c.call_indirect.ensures.tells;
      max = refl;
      holds = c.call_indirect.ensures.holds;
      lacks =
          IfErr-weaker c.call_indirect.result _ _ (λ e paid outs h fits. taking_arm m s k c.args.instr.now (CallIndirect c.in-CallIndirect.sort)
          (plain (call_indirect c.in-CallIndirect.sort) rest) c.in-CallIndirect.is (front_indirect c.in-CallIndirect.sort rest) (tt, paid s refl)) c.call_indirect.ensures.lacks;
      unchanged = err_any c.call_indirect.result _ (λ e. refl);
    }
