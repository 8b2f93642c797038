use Rattle.std.proofs.Common.{arith, refl}
use Rattle.std.proofs.lemmas.Result.{err_from_is_err_and}
use Rattle.wa_types.specs.Syntax.{a_block, a_loop}
use Rattle.wasm_build.specs.declared.levels.Opened.TheVariants.{Block, Loop, Then}
use Rattle.wasm_build.specs.BuildsCode.{open_block, open_loop, open_if}
use Rattle.wasm_build.proofs.CodeParts.{next_end, next_else, next_none, nest_stop, next_block, next_loop, if_stop, next_if}
use Rattle.wasm_build.proofs.OpenLevels.{turned_stop, turn_put, turn_open, run_block, run_loop, run_if}
use Rattle.wasm_build.proofs.code.go_on.Goals as goal

pub returns-in_err-op-clause-on : goal.returns-in_err-op-clause-on
returns-in_err-op-clause-on c = λ old r.
    let p = err_from_is_err_and c.from_residual.result c.from_residual.ensures.1 in
    turned_stop _ _ c.from_residual.result p.0 p.1 (next_none _ _ _ c.in_err-op.ensures.err) r

pub returns-in-11-clause-on : goal.returns-in-11-clause-on
returns-in-11-clause-on c = λ old r. c.end.ensures old c.args.input.now c.byte.new.self r (next_end _ _ _ (record { left = c.in_ok-op.ensures.ok; at = c.in_ok-op.ensures.at }) c.in-11.is)

pub returns-in-5-clause-on : goal.returns-in-5-clause-on
returns-in-5-clause-on c = λ old r. c.turn.ensures old c.args.input.now c.byte.new.self r (next_else _ _ _ (record { left = c.in_ok-op.ensures.ok; at = c.in_ok-op.ensures.at }) c.in-5.is)

pub returns-in_err-ty-in-2-clause-on : goal.returns-in_err-ty-in-2-clause-on
returns-in_err-ty-in-2-clause-on c = λ old r.
    let p = err_from_is_err_and c.from_residual-in_err-ty-in-2.result c.from_residual-in_err-ty-in-2.ensures.1 in
    turned_stop _ _ c.from_residual-in_err-ty-in-2.result p.0 p.1 (nest_stop a_block _ _ _ _ _ _ _
    (record { left = c.in_ok-op.ensures.ok; at = c.in_ok-op.ensures.at }) c.in-2.is refl p.2 c.in_err-ty-in-2.ensures.built) r

pub returns-in_ok-ty-in-2-clause-on : goal.returns-in_ok-ty-in-2-clause-on
returns-in_ok-ty-in-2-clause-on c = λ old r.
    turn_open Block c.in_ok-ty-in-2.ty (open_block c.in_ok-ty-in-2.ty) c.open.result c.args.levels.now.items c.open.new.levels.items c.args.body.now c.open.new.body c.open.ensures.on
    c.open.ensures.levels c.open.ensures.body c.open.ensures.err
    (λ old here new r n f e. run_block old here new c.args.levels.now.items c.open.new.levels.items c.args.body.now c.open.new.body.items c.in_ok-ty-in-2.ty r f n e)
    old c.args.input.now _ r (next_block _ _ _ _ _ (record { left = c.in_ok-op.ensures.ok; at = c.in_ok-op.ensures.at }) c.in-2.is c.in_ok-ty-in-2.ensures.built)

pub returns-in_err-ty-in-3-clause-on : goal.returns-in_err-ty-in-3-clause-on
returns-in_err-ty-in-3-clause-on c = λ old r.
    let p = err_from_is_err_and c.from_residual-in_err-ty-in-3.result c.from_residual-in_err-ty-in-3.ensures.1 in
    turned_stop _ _ c.from_residual-in_err-ty-in-3.result p.0 p.1 (nest_stop a_loop _ _ _ _ _ _ _
    (record { left = c.in_ok-op.ensures.ok; at = c.in_ok-op.ensures.at }) c.in-3.is refl p.2 c.in_err-ty-in-3.ensures.built) r

pub returns-in_ok-ty-in-3-clause-on : goal.returns-in_ok-ty-in-3-clause-on
returns-in_ok-ty-in-3-clause-on c = λ old r.
    turn_open Loop c.in_ok-ty-in-3.ty (open_loop c.in_ok-ty-in-3.ty) c.open-in-3.result c.args.levels.now.items c.open-in-3.new.levels.items c.args.body.now c.open-in-3.new.body
    c.open-in-3.ensures.on c.open-in-3.ensures.levels c.open-in-3.ensures.body c.open-in-3.ensures.err
    (λ old here new r n f e. run_loop old here new c.args.levels.now.items c.open-in-3.new.levels.items c.args.body.now c.open-in-3.new.body.items c.in_ok-ty-in-3.ty r f n e)
    old c.args.input.now _ r (next_loop _ _ _ _ _ (record { left = c.in_ok-op.ensures.ok; at = c.in_ok-op.ensures.at }) c.in-3.is c.in_ok-ty-in-3.ensures.built)

pub returns-in_err-ty-in-4-clause-on : goal.returns-in_err-ty-in-4-clause-on
returns-in_err-ty-in-4-clause-on c = λ old r.
    let p = err_from_is_err_and c.from_residual-in_err-ty-in-4.result c.from_residual-in_err-ty-in-4.ensures.1 in
    turned_stop _ _ c.from_residual-in_err-ty-in-4.result p.0 p.1 (if_stop _ _ _ _ _ _ _
    (record { left = c.in_ok-op.ensures.ok; at = c.in_ok-op.ensures.at }) c.in-4.is refl p.2 c.in_err-ty-in-4.ensures.built) r

pub returns-in_ok-ty-in-4-clause-on : goal.returns-in_ok-ty-in-4-clause-on
returns-in_ok-ty-in-4-clause-on c = λ old r.
    turn_open Then c.in_ok-ty-in-4.ty (open_if c.in_ok-ty-in-4.ty) c.open-in-4.result c.args.levels.now.items c.open-in-4.new.levels.items c.args.body.now c.open-in-4.new.body
    c.open-in-4.ensures.on c.open-in-4.ensures.levels c.open-in-4.ensures.body c.open-in-4.ensures.err
    (λ old here new r n f e. run_if old here new c.args.levels.now.items c.open-in-4.new.levels.items c.args.body.now c.open-in-4.new.body.items c.in_ok-ty-in-4.ty r f n e)
    old c.args.input.now _ r (next_if _ _ _ _ _ (record { left = c.in_ok-op.ensures.ok; at = c.in_ok-op.ensures.at }) c.in-4.is c.in_ok-ty-in-4.ensures.built)

pub returns-in_default-clause-on : goal.returns-in_default-clause-on
returns-in_default-clause-on c = λ old r.
    turn_put c.in_ok-op.op c.put.result old _ _ _ c.args.levels.now.items c.args.body.now c.put.new.body (record { left = c.in_ok-op.ensures.ok; at = c.in_ok-op.ensures.at })
    (record { not_end = λ h. omega arith; not_else = λ h. omega arith; not_block = λ h. omega arith; not_loop = λ h. omega arith; not_if = λ h. omega arith })
    c.put.ensures.puts r
