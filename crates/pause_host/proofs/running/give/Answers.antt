use Rattle.std.proofs.Common.{arith, ◌≡◌, ◌+◌, ◌-◌, [], IfOk, refl, sym, ap, ◌∙◌, subst}
use Rattle.std.specs.Option.{option_to_list}
use Rattle.run_theory.specs.Fitting.{types_of, StoreFits}
use Rattle.wa_model.specs.Blocking.{the_start, an_entry, resumed}
use Rattle.wa_model.specs.Protocol.{exports_of, busy, is_running}
use Rattle.interp.specs.Host.{code_in, store_in, waits_in}
use Rattle.interp.specs.Instance.{Resumes, Awaits}
use Rattle.host_laws.specs.Places.{stands}
use Rattle.pause_host.specs.Views.{entry_of, left_of, place_in}
use Rattle.pause_host.specs.Moves.{NextFrom, PlaceFits}
use Rattle.pause_host.specs.Holding.{PlaceHolds}
use Rattle.pause_host.proofs.Callings.{area_told}
use Rattle.pause_host.proofs.Holding.{area_longer}
use Rattle.pause_host.proofs.MemoryGrows.{resumes_longer}
use Rattle.pause_host.proofs.Hosting.{calls_one, given_waits, outermost_given, start_stands}
use Rattle.pause_host.specs.declared.stages.Stage.TheVariants as S
use Rattle.pause_host.specs.declared.stages.Task.TheVariants as T
use Rattle.pause_host.proofs.Stagings.{gives, gives_awaits, gives_store, gives_turn}
use Rattle.pause_host.proofs.running.give.Goals as goal

pub returns-in-Entry-clause-comes : goal.returns-in-Entry-clause-comes
returns-in-Entry-clause-comes c = λ w is code f.
    let s = store_in c.args.instance.now in
    let waits = waits_in c.args.instance.now in
    let s' = store_in c.resume.new.self in
    let w' = waits_in c.resume.new.self in
    let left = c.args.steps.now.left in
    let used = c.resume.new.steps.used - c.args.steps.now.used in
    let l = left_of c.args.left.now in
    let f' = subst (λ z. PlaceFits w (place_in (exports_of w.source) w.plan.area l s waits (S.Giving z c.args.given.value))) c.in-Entry.is f in
    let g = gives w (T.Entry c.in-Entry.entry) (an_entry (entry_of c.in-Entry.entry)) waits l c.args.given.value s refl f' in
    let awaits = gives_awaits w (T.Entry c.in-Entry.entry) (an_entry (entry_of c.in-Entry.entry)) waits l c.args.given.value s g in
    let told = c.in_ok-turn.ensures.resumes g.fits.0 (subst (λ z. StoreFits z s) (sym code)
    (gives_store w (T.Entry c.in-Entry.entry) (an_entry (entry_of c.in-Entry.entry)) waits l c.args.given.value s g))
    (subst (λ z. Awaits z g.fits.0 (types_of (option_to_list c.args.given.value)) waits) (sym code) awaits) in
    let ran = gives_turn w (T.Entry c.in-Entry.entry) (an_entry (entry_of c.in-Entry.entry)) waits l c.args.given.value s g left used c.in_ok-turn.turn s' w'
    (subst (λ z. Resumes z s waits c.args.given.value left used c.in_ok-turn.turn s' w') code told) in
    let h = busy (is_running (an_entry (entry_of c.in-Entry.entry))) (resumed (record { store = s; here = g.here; under = g.under }) s (option_to_list c.args.given.value)) l in
    let place = ap (λ z. place_in (exports_of w.source) w.plan.area l s waits (S.Giving z c.args.given.value)) c.in-Entry.is ∙ g.place_is in
    subst (λ z. IfOk c.entry_ran.result (λ n. NextFrom w z left used n (left_of c.entry_ran.new.left) s' w')) (sym place)
    (c.entry_ran.ensures.comes w is h left used s' w' ran)

pub returns-in-Start-clause-comes : goal.returns-in-Start-clause-comes
returns-in-Start-clause-comes c = λ w is code f.
    let s = store_in c.args.instance.now in
    let waits = waits_in c.args.instance.now in
    let s' = store_in c.resume.new.self in
    let w' = waits_in c.resume.new.self in
    let left = c.args.steps.now.left in
    let used = c.resume.new.steps.used - c.args.steps.now.used in
    let l = left_of c.args.left.now in
    let f' = subst (λ z. PlaceFits w (place_in (exports_of w.source) w.plan.area l s waits (S.Giving z c.args.given.value))) c.in-Start.is f in
    let g = gives w T.Start the_start waits l c.args.given.value s refl f' in
    let awaits = gives_awaits w T.Start the_start waits l c.args.given.value s g in
    let told = c.in_ok-turn.ensures.resumes g.fits.0 (subst (λ z. StoreFits z s) (sym code) (gives_store w T.Start the_start waits l c.args.given.value s g))
    (subst (λ z. Awaits z g.fits.0 (types_of (option_to_list c.args.given.value)) waits) (sym code) awaits) in
    let ran = gives_turn w T.Start the_start waits l c.args.given.value s g left used c.in_ok-turn.turn s' w' (subst (λ z. Resumes z s waits c.args.given.value left used c.in_ok-turn.turn s' w') code told) in
    let h = busy (is_running the_start) (resumed (record { store = s; here = g.here; under = g.under }) s (option_to_list c.args.given.value)) l in
    let place = ap (λ z. place_in (exports_of w.source) w.plan.area l s waits (S.Giving z c.args.given.value)) c.in-Start.is ∙ g.place_is in
    let sum : c.resume.new.steps.left + used ≡ left = omega (arith, c.resume.ensures.sum, c.resume.ensures.grows) in
    let total : used + (c.start_ran.new.steps.used - c.resume.new.steps.used) ≡ c.start_ran.new.steps.used - c.args.steps.now.used = omega (arith, c.resume.ensures.grows, c.start_ran.ensures.grows) in
    subst (λ z. IfOk c.start_ran.result (λ n. NextFrom w z left (c.start_ran.new.steps.used - c.args.steps.now.used) n (left_of c.start_ran.new.left)
    (store_in c.start_ran.new.instance) (waits_in c.start_ran.new.instance))) (sym place)
    (subst (λ k. IfOk c.start_ran.result (λ n. NextFrom w (stands [] h) left k n (left_of c.start_ran.new.left) (store_in c.start_ran.new.instance) (waits_in c.start_ran.new.instance))) total
    (c.start_ran.ensures.comes w is (c.resume.ensures.code ∙ code) h left used ran sum g.fits))

pub resume-requires-clause-waits : goal.resume-requires-clause-waits
resume-requires-clause-waits c =
    given_waits c.args.setting.now (code_in c.args.instance.now) (left_of c.args.left.now) (store_in c.args.instance.now) (waits_in c.args.instance.now) c.args.given.task c.args.given.value c.requires.there

pub entry_ran-requires-clause-turn : goal.entry_ran-requires-clause-turn
entry_ran-requires-clause-turn c =
    let there = c.requires.there in
    let w = there.program in
    let s = store_in c.args.instance.now in
    let waits = waits_in c.args.instance.now in
    let l = left_of c.args.left.now in
    let f' = subst (λ z. PlaceFits w (place_in (exports_of w.source) w.plan.area l s waits (S.Giving z c.args.given.value))) c.in-Entry.is there.fits in
    let g = gives w (T.Entry c.in-Entry.entry) (an_entry (entry_of c.in-Entry.entry)) waits l c.args.given.value s refl f' in
    let again = c.in_ok-turn.ensures.again g.fits.0
    (subst (λ z. StoreFits z s) (sym there.code_is) (gives_store w (T.Entry c.in-Entry.entry) (an_entry (entry_of c.in-Entry.entry)) waits l c.args.given.value s g))
    (subst (λ z. Awaits z g.fits.0 (types_of (option_to_list c.args.given.value)) waits) (sym there.code_is)
    (gives_awaits w (T.Entry c.in-Entry.entry) (an_entry (entry_of c.in-Entry.entry)) waits l c.args.given.value s g)) in
    calls_one w c.args.setting.now (code_in c.args.instance.now) g.fits.0 c.in_ok-turn.turn (store_in c.resume.new.self) (waits_in c.resume.new.self) there.setting there.code_is again

pub start_ran-requires-clause-turn : goal.start_ran-requires-clause-turn
start_ran-requires-clause-turn c =
    let there = c.requires.there in
    let w = there.program in
    let s = store_in c.args.instance.now in
    let waits = waits_in c.args.instance.now in
    let s' = store_in c.resume.new.self in
    let w' = waits_in c.resume.new.self in
    let left = c.args.steps.now.left in
    let used = c.resume.new.steps.used - c.args.steps.now.used in
    let l = left_of c.args.left.now in
    let code = there.code_is in
    let f' = subst (λ z. PlaceFits w (place_in (exports_of w.source) w.plan.area l s waits (S.Giving z c.args.given.value))) c.in-Start.is there.fits in
    let g = gives w T.Start the_start waits l c.args.given.value s refl f' in
    let fits = subst (λ z. StoreFits z s) (sym code) (gives_store w T.Start the_start waits l c.args.given.value s g) in
    let awaits = subst (λ z. Awaits z g.fits.0 (types_of (option_to_list c.args.given.value)) waits) (sym code) (gives_awaits w T.Start the_start waits l c.args.given.value s g) in
    let told = c.in_ok-turn.ensures.resumes g.fits.0 fits awaits in
    let again = c.in_ok-turn.ensures.again g.fits.0 fits awaits in
    let ran = gives_turn w T.Start the_start waits l c.args.given.value s g left used c.in_ok-turn.turn s' w' (subst (λ z. Resumes z s waits c.args.given.value left used c.in_ok-turn.turn s' w') code told) in
    let h = busy (is_running the_start) (resumed (record { store = s; here = g.here; under = g.under }) s (option_to_list c.args.given.value)) l in
    let place = ap (λ z. place_in (exports_of w.source) w.plan.area l s waits (S.Giving z c.args.given.value)) c.in-Start.is ∙ g.place_is in
    start_stands w c.args.setting.now (code_in c.resume.new.self) h l left used c.in_ok-turn.turn s' w' there.setting (c.resume.ensures.code ∙ code) g.fits (subst (PlaceHolds w) place there.holds) ran
    (calls_one w c.args.setting.now (code_in c.args.instance.now) g.fits.0 c.in_ok-turn.turn s' w' there.setting code again)

pub unreachable-requires : goal.unreachable-requires
unreachable-requires c =
    outermost_given c.args.setting.now (code_in c.args.instance.now) (left_of c.args.left.now) (store_in c.args.instance.now) (waits_in c.args.instance.now) c.args.given.task c.args.given.value c.in-Outermost.is
    c.requires.there

pub returns-in-Entry-clause-asks : goal.returns-in-Entry-clause-asks
returns-in-Entry-clause-asks c =
    let there = c.requires.there in
    let w = there.program in
    let x = c.args.setting.now in
    let s = store_in c.args.instance.now in
    let waits = waits_in c.args.instance.now in
    let s' = store_in c.resume.new.self in
    let w' = waits_in c.resume.new.self in
    let left = c.args.steps.now.left in
    let used = c.resume.new.steps.used - c.args.steps.now.used in
    let l = left_of c.args.left.now in
    let code = there.code_is in
    let f' = subst (λ z. PlaceFits w (place_in (exports_of w.source) w.plan.area l s waits (S.Giving z c.args.given.value))) c.in-Entry.is there.fits in
    let g = gives w (T.Entry c.in-Entry.entry) (an_entry (entry_of c.in-Entry.entry)) waits l c.args.given.value s refl f' in
    let place = ap (λ z. place_in (exports_of w.source) w.plan.area l s waits (S.Giving z c.args.given.value)) c.in-Entry.is ∙ g.place_is in
    let holds = subst (PlaceHolds w) place there.holds in
    let fits = subst (λ z. StoreFits z s) (sym code) (gives_store w (T.Entry c.in-Entry.entry) (an_entry (entry_of c.in-Entry.entry)) waits l c.args.given.value s g) in
    let awaits = subst (λ z. Awaits z g.fits.0 (types_of (option_to_list c.args.given.value)) waits) (sym code) (gives_awaits w (T.Entry c.in-Entry.entry) (an_entry (entry_of c.in-Entry.entry)) waits l c.args.given.value s g) in
    let told = c.in_ok-turn.ensures.resumes g.fits.0 fits awaits in
    c.entry_ran.ensures.asks s' (area_longer x.area s s' (resumes_longer (code_in c.args.instance.now) s waits c.args.given.value left used c.in_ok-turn.turn s' w' told)
    (area_told w x s there.setting holds.0))

pub entry_ran-requires-clause-number : goal.entry_ran-requires-clause-number
entry_ran-requires-clause-number c =
    let there = c.requires.there in
    let w = there.program in
    let x = c.args.setting.now in
    let s = store_in c.args.instance.now in
    let waits = waits_in c.args.instance.now in
    let s' = store_in c.resume.new.self in
    let w' = waits_in c.resume.new.self in
    let left = c.args.steps.now.left in
    let used = c.resume.new.steps.used - c.args.steps.now.used in
    let l = left_of c.args.left.now in
    let code = there.code_is in
    let f' = subst (λ z. PlaceFits w (place_in (exports_of w.source) w.plan.area l s waits (S.Giving z c.args.given.value))) c.in-Entry.is there.fits in
    let g = gives w (T.Entry c.in-Entry.entry) (an_entry (entry_of c.in-Entry.entry)) waits l c.args.given.value s refl f' in
    let place = ap (λ z. place_in (exports_of w.source) w.plan.area l s waits (S.Giving z c.args.given.value)) c.in-Entry.is ∙ g.place_is in
    let holds = subst (PlaceHolds w) place there.holds in
    omega (arith, holds.1)

pub start_ran-requires-clause-area : goal.start_ran-requires-clause-area
start_ran-requires-clause-area c =
    let there = c.requires.there in
    let w = there.program in
    let x = c.args.setting.now in
    let s = store_in c.args.instance.now in
    let waits = waits_in c.args.instance.now in
    let s' = store_in c.resume.new.self in
    let w' = waits_in c.resume.new.self in
    let left = c.args.steps.now.left in
    let used = c.resume.new.steps.used - c.args.steps.now.used in
    let l = left_of c.args.left.now in
    let code = there.code_is in
    let f' = subst (λ z. PlaceFits w (place_in (exports_of w.source) w.plan.area l s waits (S.Giving z c.args.given.value))) c.in-Start.is there.fits in
    let g = gives w T.Start the_start waits l c.args.given.value s refl f' in
    let place = ap (λ z. place_in (exports_of w.source) w.plan.area l s waits (S.Giving z c.args.given.value)) c.in-Start.is ∙ g.place_is in
    let holds = subst (PlaceHolds w) place there.holds in
    let fits = subst (λ z. StoreFits z s) (sym code) (gives_store w T.Start the_start waits l c.args.given.value s g) in
    let awaits = subst (λ z. Awaits z g.fits.0 (types_of (option_to_list c.args.given.value)) waits) (sym code) (gives_awaits w T.Start the_start waits l c.args.given.value s g) in
    let told = c.in_ok-turn.ensures.resumes g.fits.0 fits awaits in
    area_longer x.area s s' (resumes_longer (code_in c.args.instance.now) s waits c.args.given.value left used c.in_ok-turn.turn s' w' told) (area_told w x s there.setting holds.0)
