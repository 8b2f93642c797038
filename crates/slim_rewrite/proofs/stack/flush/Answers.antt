use Rattle.std.proofs.Common.{refl, ap, subst, ◌∙◌, ◌-◌, ◌++◌, ◌∷◌, [], get_or, arith}
use Rattle.wa_types.specs.declared.instrs.Instr.TheVariants.{LocalSet}
use Rattle.slim_rewrite.proofs.StackLemmas.{Setting, setting_start, setting_next, flushed_is}
use Rattle.slim_rewrite.proofs.stack.flush.Goals as goal

pub slots-init : goal.slots-init
slots-init c =
    let n = c.len-place.ensures in let m = c.args.at.now.stack.ok.0 in
    record {
      setting = setting_start c.args.at.now.piece.items c.args.at.now.stack.items c.args.at.now.set c.len-place.result (omega arith);
      fits = omega arith;
      stack = refl;
      set = refl;
      places = refl;
      low = refl;
      floor = refl;
      alloc = refl;
    }

pub slots-preserved : goal.slots-preserved
slots-preserved c =
    let h = c.slots.invariant in
    let lt = c.slots-test.true in let fits = h.fits in let same = h.set in
    record {
      setting = setting_next c.args.at.now.piece.items c.slots.at.piece.items _ c.args.at.now.stack.items c.args.at.now.set (c.slots.place - 1) c.index.result.now (omega arith) (omega arith)
          (subst (λ k. Setting c.args.at.now.piece.items c.slots.at.piece.items c.args.at.now.stack.items c.args.at.now.set k) (omega arith) h.setting)
          (c.in_ok-push.ensures.items ∙ ap (λ x. c.slots.at.piece.items ++ LocalSet x ∷ []) (c.index.ensures ∙ ap (λ ys. get_or ys (c.slots.place - 1) c.index.result.now) h.stack));
      fits = omega arith;
      stack = h.stack;
      set = h.set;
      places = h.places;
      low = h.low;
      floor = h.floor;
      alloc = h.alloc;
    }

pub returns : goal.returns
returns c =
    let h = c.slots.invariant in
    flushed_is c.args.at.now _ c.slots.place c.requires h.setting (let e = h.set in let q = c.slots-test.false in omega arith) h.alloc h.low h.places h.stack h.floor
    (let n = c.len-at.ensures in let m = c.slots.at.stack.ok.0 in omega arith)
