use Rattle.std.proofs.Common.{arith, ◌≡◌, ◌≤◌, ◌<◌, ◌+◌, ◌-◌, [], IfOk, length, sym, ap, ◌∙◌, subst}
use Rattle.wa_types.specs.Modules.{func_imports, func_sorts, func_type_at}
use Rattle.run_theory.specs.Fitting.{results_of, StoreFits}
use Rattle.wa_model.specs.Protocol.{starting}
use Rattle.interp.specs.Host.{code_in, store_in, waits_in}
use Rattle.interp.specs.Instance.{Calls}
use Rattle.host_laws.specs.Places.{stands}
use Rattle.pause_host.specs.Views.{left_of}
use Rattle.pause_host.specs.Hosting.{AsksOnly}
use Rattle.pause_host.specs.Moves.{NextFrom}
use Rattle.pause_host.proofs.Callings.{area_told}
use Rattle.pause_host.proofs.Holding.{area_longer}
use Rattle.pause_host.proofs.MemoryGrows.{calls_longer}
use Rattle.pause_host.proofs.Hosting.{calls_one, start_stands}
use Rattle.pause_host.proofs.Tasks.{import_stops, start_turn, start_defined}
use Rattle.pause_host.proofs.running.start.Goals as goal

pub returns-then-func-len-clause-comes : goal.returns-then-func-len-clause-comes
returns-then-func-len-clause-comes c = λ w is code f.
    let s = store_in c.args.instance.now in
    let s' = store_in c.begin.new.self in
    let w' = waits_in c.begin.new.self in
    let left = c.args.steps.now.left in
    let used = c.begin.new.steps.used - c.args.steps.now.used in
    let m = code_in c.args.instance.now in
    let l = left_of c.args.left.now in
    let typed = sym f.1.0 ∙ ap (λ z. (func_type_at z c.args.func).params) (sym code) in
    let told = c.in_ok-turn.ensures.calls (subst (λ z. StoreFits z s) (sym code) f.0) typed in
    let calls = subst (λ z. Calls z s c.args.func [] left used c.in_ok-turn.turn s' w') code told in
    c.start_asked.ensures.comes w is s s' w' c.args.func l left used
    (let lt : c.args.func < func_imports w.source = omega (arith, c.len.ensures, c.args.setting.now.imports.ok.0, is.all, c.if-func-len.true) in lt) calls

pub returns-clause-comes : goal.returns-clause-comes
returns-clause-comes c = λ w is code f.
    let s = store_in c.args.instance.now in
    let s' = store_in c.begin.new.self in
    let w' = waits_in c.begin.new.self in
    let left = c.args.steps.now.left in
    let used = c.begin.new.steps.used - c.args.steps.now.used in
    let m = code_in c.args.instance.now in
    let l = left_of c.args.left.now in
    let typed = sym f.1.0 ∙ ap (λ z. (func_type_at z c.args.func).params) (sym code) in
    let told = c.in_ok-turn.ensures.calls (subst (λ z. StoreFits z s) (sym code) f.0) typed in
    let calls = subst (λ z. Calls z s c.args.func [] left used c.in_ok-turn.turn s' w') code told in
    let there = start_defined w c.args.func f.1.1 (let le : func_imports w.source ≤ c.args.func = omega (arith, c.len.ensures, c.args.setting.now.imports.ok.0, is.all, c.if-func-len.false) in le) in
    let ran = start_turn w l c.args.func there.0 s left used c.in_ok-turn.turn s' w' there.1 calls in
    let sum : c.begin.new.steps.left + used ≡ left = omega (arith, c.begin.ensures.sum, c.begin.ensures.grows) in
    let total : used + (c.start_ran.new.steps.used - c.begin.new.steps.used) ≡ c.start_ran.new.steps.used - c.args.steps.now.used = omega (arith, c.begin.ensures.grows, c.start_ran.ensures.grows) in
    subst (λ k. IfOk c.start_ran.result (λ n. NextFrom w (stands [] (starting c.args.func s l)) left k n (left_of c.start_ran.new.left) (store_in c.start_ran.new.instance)
    (waits_in c.start_ran.new.instance))) total
    (c.start_ran.ensures.comes w is (c.begin.ensures.code ∙ code) (starting c.args.func s l) left used ran sum f)

pub start_asked-requires : goal.start_asked-requires
start_asked-requires c =
    let there = c.requires.there in
    let w = there.program in
    let is = there.setting in
    let code = there.code_is in
    let f = there.fits in
    let s = store_in c.args.instance.now in
    let s' = store_in c.begin.new.self in
    let w' = waits_in c.begin.new.self in
    let left = c.args.steps.now.left in
    let used = c.begin.new.steps.used - c.args.steps.now.used in
    let typed = sym f.1.0 ∙ ap (λ z. (func_type_at z c.args.func).params) (sym code) in
    let told = c.in_ok-turn.ensures.calls (subst (λ z. StoreFits z s) (sym code) f.0) typed in
    let calls = subst (λ z. Calls z s c.args.func [] left used c.in_ok-turn.turn s' w') code told in
    let lt : c.args.func < func_imports w.source = omega (arith, c.len.ensures, c.args.setting.now.imports.ok.0, is.all, c.if-func-len.true) in
    record { turn = subst (λ n. AsksOnly n c.in_ok-turn.turn) (sym is.all) (import_stops w (left_of c.args.left.now) c.args.func s left used s' w' lt c.in_ok-turn.turn calls) }

pub start_ran-requires-clause-turn : goal.start_ran-requires-clause-turn
start_ran-requires-clause-turn c =
    let there = c.requires.there in
    let w = there.program in
    let is = there.setting in
    let code = there.code_is in
    let f = there.fits in
    let s = store_in c.args.instance.now in
    let s' = store_in c.begin.new.self in
    let w' = waits_in c.begin.new.self in
    let left = c.args.steps.now.left in
    let used = c.begin.new.steps.used - c.args.steps.now.used in
    let m = code_in c.args.instance.now in
    let l = left_of c.args.left.now in
    let typed = sym f.1.0 ∙ ap (λ z. (func_type_at z c.args.func).params) (sym code) in
    let fits = subst (λ z. StoreFits z s) (sym code) f.0 in
    let told = c.in_ok-turn.ensures.calls fits typed in
    let calls = subst (λ z. Calls z s c.args.func [] left used c.in_ok-turn.turn s' w') code told in
    let there_is = start_defined w c.args.func f.1.1 (let le : func_imports w.source ≤ c.args.func = omega (arith, c.len.ensures, c.args.setting.now.imports.ok.0, is.all, c.if-func-len.false) in le) in
    let ran = start_turn w l c.args.func there_is.0 s left used c.in_ok-turn.turn s' w' there_is.1 calls in
    let again = c.in_ok-turn.ensures.again (subst (λ z. c.args.func < length (func_sorts z)) (sym code) f.1.1) fits typed in
    start_stands w c.args.setting.now (code_in c.begin.new.self) (starting c.args.func s l) l left used c.in_ok-turn.turn s' w' is (c.begin.ensures.code ∙ code) f there.holds ran
    (calls_one w c.args.setting.now m (results_of m c.args.func) c.in_ok-turn.turn s' w' is code again)

pub returns-then-func-len-clause-asks : goal.returns-then-func-len-clause-asks
returns-then-func-len-clause-asks c =
    let there = c.requires.there in
    let w = there.program in
    let code = there.code_is in
    let f = there.fits in
    let x = c.args.setting.now in
    let s = store_in c.args.instance.now in
    let s' = store_in c.begin.new.self in
    let w' = waits_in c.begin.new.self in
    let left = c.args.steps.now.left in
    let used = c.begin.new.steps.used - c.args.steps.now.used in
    let typed = sym f.1.0 ∙ ap (λ z. (func_type_at z c.args.func).params) (sym code) in
    let told = c.in_ok-turn.ensures.calls (subst (λ z. StoreFits z s) (sym code) f.0) typed in
    c.start_asked.ensures.asks s'
    (area_longer x.area s s' (calls_longer (code_in c.args.instance.now) s c.args.func [] left used c.in_ok-turn.turn s' w' told) (area_told w x s there.setting there.holds.0))

pub start_ran-requires-clause-area : goal.start_ran-requires-clause-area
start_ran-requires-clause-area c =
    let there = c.requires.there in
    let w = there.program in
    let code = there.code_is in
    let f = there.fits in
    let x = c.args.setting.now in
    let s = store_in c.args.instance.now in
    let s' = store_in c.begin.new.self in
    let w' = waits_in c.begin.new.self in
    let left = c.args.steps.now.left in
    let used = c.begin.new.steps.used - c.args.steps.now.used in
    let typed = sym f.1.0 ∙ ap (λ z. (func_type_at z c.args.func).params) (sym code) in
    let told = c.in_ok-turn.ensures.calls (subst (λ z. StoreFits z s) (sym code) f.0) typed in
    area_longer x.area s s' (calls_longer (code_in c.args.instance.now) s c.args.func [] left used c.in_ok-turn.turn s' w' told) (area_told w x s there.setting there.holds.0)
