use Rattle.std.proofs.Common.{refl, length, ◌∷◌, []}
use Rattle.wa_types.specs.declared.values.ValType.TheVariants.{I32, I64}
use Rattle.func_rewrite.proofs.BodyCode.{runs_are}
use Rattle.func_rewrite.proofs.locals.written_locals.Goals as goal

pub returns : goal.returns
returns c = runs_are c.args.runs.now c.in_ok-out.out.items c.put_each.new.out.items c.put_each-2.new.out.items c.args.locals.now _ (I32 ∷ I32 ∷ I64 ∷ []) c.args.own
    (length c.args.locals.now) c.in_ok-out.ensures.items refl c.requires refl c.in_ok-put_each.ensures c.in_ok-put_each-2.ensures
