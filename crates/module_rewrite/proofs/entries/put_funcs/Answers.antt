use Rattle.std.proofs.Common.{◌<◌, ◌^◌, ◌++◌, [], arith, refl, subst, sym, append_assoc, append-nil}
use Rattle.wa_types.specs.declared.syntax.Func.{Func as FuncValue}
use Rattle.wa_types.specs.View.{func_of}
use Rattle.wasm_encode.specs.Locals.{local_count}
use Rattle.wasm_encode.proofs.Vectors.{entry_length, put_step, put_none}
use Rattle.wasm_encode.specs.Around.{code_entry, HoldsEntries}
use Rattle.module_rewrite.proofs.entries.put_funcs.Goals as goal

pub loop-index-init : goal.loop-index-init
loop-index-init c = record {
  put = ([], λ es h. subst (HoldsEntries c.args.out.now) (sym (append-nil es)) h, refl);
  left = omega arith;
}

pub put-requires-clause-locals : goal.put-requires-clause-locals
put-requires-clause-locals c =
    subst (λ (f : FuncValue). local_count f.locals.items < 2 ^ 32) (sym c.index-funcs-index.is) (c.requires.locals c.loop-index.index c.index-funcs-index.result c.loop-index-test.true)

pub put-requires-clause-fits : goal.put-requires-clause-fits
put-requires-clause-fits c =
    let l = entry_length (λ (f : FuncValue). code_entry (func_of f)) c.args.funcs.now c.loop-index.index c.index-funcs-index.result c.loop-index-test.true c.index-funcs-index.is in
    omega (arith, l, c.loop-index.invariant.left, c.requires.short)

pub loop-index-preserved : goal.loop-index-preserved
loop-index-preserved c =
    let l = entry_length (λ (f : FuncValue). code_entry (func_of f)) c.args.funcs.now c.loop-index.index c.index-funcs-index.result c.loop-index-test.true c.index-funcs-index.is in
    let before = c.loop-index.invariant.put in
    let more = code_entry (func_of c.index-funcs-index.result) in
    record {
      put = (
        before.0 ++ more,
        λ es h. subst (HoldsEntries c.put.new.self) (append_assoc es before.0 more) (c.in_ok-put.ensures (es ++ before.0) (before.1 es h)),
        put_step (λ (f : FuncValue). code_entry (func_of f)) c.args.funcs.now c.loop-index.index c.index-funcs-index.result before.0 (before.0 ++ more) _
            c.loop-index-test.true c.index-funcs-index.is refl before.2,
      );
      left = omega (arith, l, c.loop-index.invariant.left);
    }

pub returns : goal.returns
returns c = λ es h.
    let before = c.loop-index.invariant.put in
    let all = put_none (λ (f : FuncValue). code_entry (func_of f)) c.args.funcs.now c.loop-index.index before.0 _ c.loop-index-test.false before.2 in
    subst (λ bs. HoldsEntries c.loop-index.out (es ++ bs)) all (before.1 es h)
