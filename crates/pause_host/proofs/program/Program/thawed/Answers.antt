use Rattle.std.proofs.Common.{◌≡◌, ◌≤◌, ◌-◌, None, List, map, ap, sym, ◌∙◌, subst}
use Rattle.wa_types.specs.declared.syntax.Module.{Module as ModuleValue}
use Rattle.wa_types.specs.declared.values.Value.{Value}
use Rattle.wa_types.specs.Modules.{all_tables}
use Rattle.wa_types.specs.View.{module_of}
use Rattle.wa_model.specs.Instantiation.{elem_piece, first_out, least_of}
use Rattle.interp_state.specs.Making.{restored_store}
use Rattle.snapshot_store.specs.Views.{parts_of}
use Rattle.pause_host.specs.declared.program.Program.{Program}
use Rattle.pause_host.specs.declared.program.State.TheVariants.{Live}
use Rattle.pause_host.specs.declared.stages.Stage.TheVariants.{Paused}
use Rattle.pause_host.specs.Thawing.{PartsSuit, StandsThawed}
use Rattle.pause_host.proofs.GoingOn.{goes_on}
use Rattle.pause_host.proofs.Reopened.{reopens}
use Rattle.pause_host.proofs.Thawings.{made_setting, made_short, stands, store_fits, suits, unfit}
use Rattle.pause_host.proofs.program.Program.thawed.Goals as goal

pub returns-in_default : goal.returns-in_default
returns-in_default c = λ x funcs plan up made numbers.
    let self = c.args.self in
    let parts = parts_of c.args.parts.now in
    let memory = c.args.memory.now in
    unfit x parts memory funcs plan up self made numbers c.requires.few c.requires.whole
    (c.in_default.ensures.takes _ (made_setting x parts memory funcs plan up self made numbers c.requires.few c.requires.whole)
    (made_short x parts memory funcs plan up self made numbers c.requires.few c.requires.whole))

pub restore-requires-clause-elems : goal.restore-requires-clause-elems
restore-requires-clause-elems c =
    let self = c.args.self in
    let g = c.requires.numbers.globals in
    let values = c.args.parts.now.globals.items in
    let r = reopens (module_of self.valid.now) self.globals.items values g.opened c.requires.valid g.is_opened g.constants in
    let Fit : ModuleValue → List Value → Type 0 = λ m vs. first_out (least_of (all_tables (module_of m))) 0 (map (elem_piece vs) (module_of m).elems) ≡ None in
    subst (Fit c.take_pause.new.self.valid.now) (sym c.deref.ensures.value) (subst (λ (m : ModuleValue). Fit m values) (sym (ap (λ (z : Program). z.valid.now) c.take_pause.ensures.rest)) r.fit)

pub restore-requires-clause-entries : goal.restore-requires-clause-entries
restore-requires-clause-entries c =
    let self = c.args.self in
    let g = c.requires.numbers.globals in
    let r = reopens (module_of self.valid.now) self.globals.items c.args.parts.now.globals.items g.opened c.requires.valid g.is_opened g.constants in
    subst (λ (m : ModuleValue). least_of (all_tables (module_of m)) ≤ 100000) (sym (ap (λ (z : Program). z.valid.now) c.take_pause.ensures.rest)) r.few

pub returns : goal.returns
returns c = λ x funcs plan up made numbers.
    let self = c.args.self in
    let parts = parts_of c.args.parts.now in
    let memory = c.args.memory.now in
    let new = c.take_pause.new.self in
    let pause = c.in-Some.pause in
    let instance = c.in_ok-instance.instance in
    let rest = c.take_pause.ensures.rest in
    let t = c.in-Some.ensures.takes _ (made_setting x parts memory funcs plan up self made numbers c.requires.few c.requires.whole)
    (made_short x parts memory funcs plan up self made numbers c.requires.few c.requires.whole) in
    let code = c.in_ok-instance.ensures.code ∙ ap (λ (z : Program). module_of z.valid.now) rest in
    let store = c.in_ok-instance.ensures.store ∙ ap (λ vs. restored_store (module_of new.valid.now) vs memory) c.deref.ensures.value
    ∙ ap (λ (z : Program). restored_store (module_of z.valid.now) parts.globals memory) rest in
    let is = c.stand.ensures ∙ ap (λ (z : Program). record z { steps_left = z.steps_left - parts.steps_used; state = Live instance (Paused pause) }) rest in
    let suit : PartsSuit x parts = suits x parts memory funcs plan up self made numbers c.requires.few c.requires.whole new pause t in
    let there : StandsThawed x parts memory suit c.stand.new.self =
    subst (λ (z : Program). StandsThawed x parts memory suit z) (sym is) (stands x parts memory funcs plan up self made numbers c.requires.few c.requires.whole new pause t instance code store) in
    let fits = store_fits x parts memory funcs plan up self made numbers c.requires.few c.requires.whole new pause t instance code store c.in_ok-instance.ensures.fits in
    (suit, there, goes_on x parts memory suit c.stand.new.self there plan made.valid made.sizes c.requires.whole fits)
