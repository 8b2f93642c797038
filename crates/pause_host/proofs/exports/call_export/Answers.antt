use Rattle.std.proofs.Common.{◌-◌, sym, ap, ◌∙◌, subst}
use Rattle.wa_model.specs.declared.events.End.TheVariants as E
use Rattle.run_theory.specs.Fitting.{StoreFits}
use Rattle.wa_model.specs.Protocol.{calling, trap_end}
use Rattle.interp.specs.Host.{code_in, store_in, CallsAside}
use Rattle.pause_host.specs.Moves.{EndsAt}
use Rattle.pause_host.proofs.Hosting.{memory_kept, memory_there}
use Rattle.pause_host.proofs.Holding.{area_longer}
use Rattle.pause_host.proofs.MemoryGrows.{calls_longer}
use Rattle.pause_host.proofs.Outcomes.{params_typed, came_returned, came_trapped, came_asked, came_spent}
use Rattle.pause_host.proofs.exports.call_export.Goals as goal

pub returns-in-Returned-clause-exports : goal.returns-in-Returned-clause-exports
returns-in-Returned-clause-exports c = λ w is code fits callable.
    let s = store_in c.args.instance.now in
    let left = c.args.steps.now.left in
    let used = c.aside.new.steps.used - c.args.steps.now.used in
    let s' = store_in c.aside.new.self in
    let m = code_in c.args.instance.now in
    let h = c.in_ok-value.ensures.calls (subst (λ m. StoreFits m s) (sym code) fits) (params_typed w m code s c.args.func c.args.args.now left used s' callable) in
    came_returned w m code s c.args.func c.args.args.now left used s' callable c.in-Returned.value (subst (λ t. CallsAside m s c.args.func c.args.args.now left used t s') c.in-Returned.is h)

pub returns-in-Trapped-clause-exports : goal.returns-in-Trapped-clause-exports
returns-in-Trapped-clause-exports c = λ w is code fits callable ph th l works.
    let s = store_in c.args.instance.now in
    let left = c.args.steps.now.left in
    let used = c.aside.new.steps.used - c.args.steps.now.used in
    let s' = store_in c.aside.new.self in
    let m = code_in c.args.instance.now in
    let h = c.in_ok-value.ensures.calls (subst (λ m. StoreFits m s) (sym code) fits) (params_typed w m code s c.args.func c.args.args.now left used s' callable) in
    subst (λ e. EndsAt w (calling ph s c.args.func c.args.args.now th l) left used e s')
    (ap (λ a. trap_end a ph c.in-Trapped.trap s') is.area ∙ sym (c.trap_end-end.ensures ph works))
    (came_trapped w m code s c.args.func c.args.args.now left used s' callable ph th l c.in-Trapped.trap (subst (λ t. CallsAside m s c.args.func c.args.args.now left used t s') c.in-Trapped.is h))

pub returns-in-Waiting-clause-exports : goal.returns-in-Waiting-clause-exports
returns-in-Waiting-clause-exports c = λ w is code fits callable ph th l works.
    let s = store_in c.args.instance.now in
    let left = c.args.steps.now.left in
    let used = c.aside.new.steps.used - c.args.steps.now.used in
    let s' = store_in c.aside.new.self in
    let m = code_in c.args.instance.now in
    let h = c.in_ok-value.ensures.calls (subst (λ m. StoreFits m s) (sym code) fits) (params_typed w m code s c.args.func c.args.args.now left used s' callable) in
    came_asked w m code s c.args.func c.args.args.now left used s' callable ph th l c.in-Waiting.field-0 (subst (λ t. CallsAside m s c.args.func c.args.args.now left used t s') c.in-Waiting.is h)

pub returns-in-StepsSpent-clause-exports : goal.returns-in-StepsSpent-clause-exports
returns-in-StepsSpent-clause-exports c = λ w is code fits callable ph th l works.
    let s = store_in c.args.instance.now in
    let left = c.args.steps.now.left in
    let used = c.aside.new.steps.used - c.args.steps.now.used in
    let s' = store_in c.aside.new.self in
    let m = code_in c.args.instance.now in
    let h = c.in_ok-value.ensures.calls (subst (λ m. StoreFits m s) (sym code) fits) (params_typed w m code s c.args.func c.args.args.now left used s' callable) in
    subst (λ n. EndsAt w (calling ph s c.args.func c.args.args.now th l) left used (E.StepsSpent n) s') is.steps
    (came_spent w m code s c.args.func c.args.args.now left used s' callable ph th l (subst (λ t. CallsAside m s c.args.func c.args.args.now left used t s') c.in-StepsSpent.is h))

pub trap_end-end-requires-clause-memory : goal.trap_end-end-requires-clause-memory
trap_end-end-requires-clause-memory c =
    let h = c.requires.may in
    memory_kept (code_in c.args.instance.now) (code_in c.aside.new.self) c.aside.ensures.code (memory_there h.program c.args.setting.now (code_in c.args.instance.now) h.setting h.code_is)

pub trap_end-end-requires-clause-area : goal.trap_end-end-requires-clause-area
trap_end-end-requires-clause-area c =
    let h = c.requires.may in
    let w = h.program in
    let s = store_in c.args.instance.now in
    let left = c.args.steps.now.left in
    let used = c.aside.new.steps.used - c.args.steps.now.used in
    let s' = store_in c.aside.new.self in
    let m = code_in c.args.instance.now in
    let told = c.in_ok-value.ensures.calls (subst (λ m. StoreFits m s) (sym h.code_is) h.fits) (params_typed w m h.code_is s c.args.func c.args.args.now left used s' h.callable) in
    area_longer c.args.setting.now.area s s' (calls_longer m s c.args.func c.args.args.now left used c.in_ok-value.field-0 s' told.0 told.1) h.area
