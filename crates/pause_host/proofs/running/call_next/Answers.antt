use Rattle.std.proofs.Common.{arith, ◌≡◌, ◌<◌, ◌-◌, [], IfOk, length, drop, length-drop, map, refl, sym, ap, ◌∙◌, subst}
use Rattle.wa_types.specs.Modules.{func_sorts, func_type_at}
use Rattle.run_theory.specs.Fitting.{types_of, results_of, StoreFits}
use Rattle.interp.specs.Host.{code_in, store_in, waits_in}
use Rattle.interp.specs.Instance.{Calls}
use Rattle.pause_host.specs.Views.{entry_of, left_of}
use Rattle.pause_host.specs.Moves.{NextFrom}
use Rattle.pause_host.proofs.Callings.{area_told}
use Rattle.pause_host.proofs.Holding.{area_longer, free_holds}
use Rattle.pause_host.proofs.MemoryGrows.{calls_longer}
use Rattle.pause_host.proofs.Hosting.{calls_one, defined_below}
use Rattle.pause_host.proofs.Results.{free_is, free_fits, none_left}
use Rattle.pause_host.proofs.Tasks.{entry_turn}
use Rattle.pause_host.proofs.WhatComes.{done_next}
use Rattle.wa_model.specs.Protocol.{free}
use Rattle.pause_host.proofs.running.call_next.Goals as goal

pub returns-in-None-clause-comes : goal.returns-in-None-clause-comes
returns-in-None-clause-comes c = λ w is code f.
    done_next w (left_of c.args.left.now) (store_in c.args.instance.now) c.args.steps.now.left _ c.ends.result _ (waits_in c.args.instance.now)
    (none_left c.args.left.now.entries.items
    (let e : length c.args.left.now.entries.items ≡ length (drop 1 c.args.left.now.entries.items) = ap length (c.in-None.ensures.items ∙ c.in-None.ensures.rest) in
    omega (arith, e, length-drop 1 c.args.left.now.entries.items))) (omega arith) c.ends.ensures.end

pub returns-in_ok-turn-in-Some-clause-comes : goal.returns-in_ok-turn-in-Some-clause-comes
returns-in_ok-turn-in-Some-clause-comes c = λ w is code f.
    let s = store_in c.args.instance.now in
    let s' = store_in c.begin.new.self in
    let w' = waits_in c.begin.new.self in
    let left = c.args.steps.now.left in
    let used = c.begin.new.steps.used - c.args.steps.now.used in
    let m = code_in c.args.instance.now in
    let l = left_of c.args.left.now in
    let e = entry_of c.in-Some.entry in
    let rest = map entry_of c.pop_front.new.self.items in
    let entries = ap (map entry_of) c.in-Some.ensures.items in
    let fits = free_fits w.source s l e rest entries f in
    let typed = ap types_of c.deref.ensures.value ∙ fits.1.1 ∙ ap (λ z. (func_type_at z e.func).params) (sym code) in
    let told = c.in_ok-turn-in-Some.ensures.calls (subst (λ z. StoreFits z s) (sym code) fits.0) typed in
    let calls = subst (λ z. Calls z s e.func e.args left used c.in_ok-turn-in-Some.turn s' w') code
    (subst (λ vs. Calls m s e.func vs left used c.in_ok-turn-in-Some.turn s' w') c.deref.ensures.value told) in
    let ran = entry_turn w l (record { number = l.number; entries = rest; outcomes = [] }) e rest fits.1.0.0 s left used c.in_ok-turn-in-Some.turn s' w' entries refl refl fits.1.0.1 calls in
    subst (λ z. IfOk c.entry_ran.result (λ n. NextFrom w z left used n (left_of c.entry_ran.new.left) s' w')) (sym (free_is s l e rest entries))
    (c.entry_ran.ensures.comes w is (free s l) left used s' w' ran)

pub entry_ran-requires-clause-turn : goal.entry_ran-requires-clause-turn
entry_ran-requires-clause-turn c =
    let there = c.requires.there in
    let w = there.program in
    let code = there.code_is in
    let s = store_in c.args.instance.now in
    let m = code_in c.args.instance.now in
    let l = left_of c.args.left.now in
    let e = entry_of c.in-Some.entry in
    let rest = map entry_of c.pop_front.new.self.items in
    let entries = ap (map entry_of) c.in-Some.ensures.items in
    let fits = free_fits w.source s l e rest entries there.fits in
    let typed = ap types_of c.deref.ensures.value ∙ fits.1.1 ∙ ap (λ z. (func_type_at z e.func).params) (sym code) in
    let below = subst (λ z. e.func < length (func_sorts z)) (sym code) (defined_below w.source e.func fits.1.0.0 fits.1.0.1) in
    let again = c.in_ok-turn-in-Some.ensures.again below (subst (λ z. StoreFits z s) (sym code) fits.0) typed in
    calls_one w c.args.setting.now m (results_of m e.func) c.in_ok-turn-in-Some.turn (store_in c.begin.new.self) (waits_in c.begin.new.self) there.setting code again

pub returns-in_ok-turn-in-Some-clause-asks : goal.returns-in_ok-turn-in-Some-clause-asks
returns-in_ok-turn-in-Some-clause-asks c =
    let there = c.requires.there in
    let w = there.program in
    let code = there.code_is in
    let x = c.args.setting.now in
    let s = store_in c.args.instance.now in
    let s' = store_in c.begin.new.self in
    let w' = waits_in c.begin.new.self in
    let left = c.args.steps.now.left in
    let used = c.begin.new.steps.used - c.args.steps.now.used in
    let m = code_in c.args.instance.now in
    let l = left_of c.args.left.now in
    let e = entry_of c.in-Some.entry in
    let rest = map entry_of c.pop_front.new.self.items in
    let entries = ap (map entry_of) c.in-Some.ensures.items in
    let fits = free_fits w.source s l e rest entries there.fits in
    let typed = ap types_of c.deref.ensures.value ∙ fits.1.1 ∙ ap (λ z. (func_type_at z e.func).params) (sym code) in
    let told = c.in_ok-turn-in-Some.ensures.calls (subst (λ z. StoreFits z s) (sym code) fits.0) typed in
    let calls = subst (λ z. Calls z s e.func e.args left used c.in_ok-turn-in-Some.turn s' w') code
    (subst (λ vs. Calls m s e.func vs left used c.in_ok-turn-in-Some.turn s' w') c.deref.ensures.value told) in
    c.entry_ran.ensures.asks s' (area_longer x.area s s' (calls_longer w.source s e.func e.args left used c.in_ok-turn-in-Some.turn s' w' calls)
    (area_told w x s there.setting (free_holds w s l e rest entries there.holds).0))

pub entry_ran-requires-clause-number : goal.entry_ran-requires-clause-number
entry_ran-requires-clause-number c =
    let there = c.requires.there in
    let l = left_of c.args.left.now in
    let e = entry_of c.in-Some.entry in
    let rest = map entry_of c.pop_front.new.self.items in
    let entries = ap (map entry_of) c.in-Some.ensures.items in
    omega (arith, (free_holds there.program (store_in c.args.instance.now) l e rest entries there.holds).1, ap length entries)
