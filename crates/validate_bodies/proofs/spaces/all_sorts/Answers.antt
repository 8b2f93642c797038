use Rattle.std.proofs.Common.{refl, sym, ◌∙◌}
use Rattle.std.proofs.lemmas.List.{append-nil}
use Rattle.std.proofs.lemmas.Result.{IfOk-from_err}
use Rattle.std.specs.List.{filter_map}
use Rattle.wa_types.specs.declared.syntax.Func.{Func as FuncValue}
use Rattle.wa_types.specs.declared.syntax.Import.{Import}
use Rattle.wa_types.specs.Modules.{imported_func}
use Rattle.wa_types.specs.Syntax.{Func}
use Rattle.wa_types.specs.View.{func_of}
use Rattle.validate_bodies.proofs.SpaceLemmas.{on_close, on_more}
use Rattle.validate_bodies.proofs.spaces.all_sorts.Goals as goal

pub returns : goal.returns
returns c =
    on_close (λ (f : Func). f.sort) func_of (filter_map (λ (i : Import). imported_func i.kind) c.args.imports.now) c.loop-func.sorts.items c.args.funcs.now c.loop-func.func-index
    c.loop-func-test.false c.loop-func.invariant

pub loop-func-init : goal.loop-func-init
loop-func-init c = c.in_ok-sorts.ensures ∙ sym (append-nil _)

pub loop-func-preserved : goal.loop-func-preserved
loop-func-preserved c =
    on_more (λ (f : FuncValue). f.sort) (filter_map (λ (i : Import). imported_func i.kind) c.args.imports.now) c.loop-func.sorts.items c.push.new.self.items c.args.funcs.now
    c.loop-func.func-index c.func-item.result c.func-item.result.sort c.in_ok-push.ensures.items refl c.loop-func-test.true c.func-item.is c.loop-func.invariant

pub returns-in_err-sorts : goal.returns-in_err-sorts
returns-in_err-sorts c = IfOk-from_err c.from_residual.result _ c.from_residual.ensures.0

pub returns-in_err-push : goal.returns-in_err-push
returns-in_err-push c = IfOk-from_err c.from_residual-in_err-push.result _ c.from_residual-in_err-push.ensures.0
