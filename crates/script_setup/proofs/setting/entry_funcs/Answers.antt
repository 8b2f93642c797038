use Rattle.std.proofs.Common.{◌≡◌, sym, ap, ◌∙◌, subst, List, map}
use Rattle.wa_types.specs.View.{module_of}
use Rattle.script_model.specs.ScriptText.{AreaText}
use Rattle.host_setup.specs.SetUp.{NamedEntry, set_up}
use Rattle.host_setup.specs.Views.{Blames as BlamesSetUp}
use Rattle.script_reader.specs.Views.{program_of}
use Rattle.script_setup.specs.SetUpRules.{asked_area, entries_in, named_entry, told_funcs}
use Rattle.script_setup.specs.declared.fault.RuleFault.{RuleFault}
use Rattle.script_setup.specs.Views.{Blames, area_text_of}
use Rattle.script_setup.proofs.Told.{fault_told}
use Rattle.script_setup.proofs.setting.entry_funcs.Goals as goal

pub returns-in-Ok : goal.returns-in-Ok
returns-in-Ok c =
    let t = program_of c.args.text.now in
    let p = module_of c.args.valid.now in
    let asked = area_text_of c.in_ok-asked.asked in
    let is : asked_area p t ≡ asked = ap (λ m. asked_area (module_of m) t) (sym c.module.ensures.same) ∙ c.in_ok-asked.ensures in
    ap (λ (a : AreaText). told_funcs a t (set_up p a.area (map named_entry (entries_in t)))) is
    ∙ ap (λ (es : List NamedEntry). told_funcs asked t (set_up p asked.area es)) (sym c.requires.same)
    ∙ ap (told_funcs asked t) c.in-Ok.ensures

pub returns-in-Err : goal.returns-in-Err
returns-in-Err c =
    let t = program_of c.args.text.now in
    let p = module_of c.args.valid.now in
    let asked = area_text_of c.in_ok-asked.asked in
    let is : asked_area p t ≡ asked = ap (λ m. asked_area (module_of m) t) (sym c.module.ensures.same) ∙ c.in_ok-asked.ensures in
    let wanted : List NamedEntry = map named_entry (entries_in t) in
    let blames : BlamesSetUp c.in-Err.fault (set_up p asked.area wanted) =
    subst (λ (es : List NamedEntry). BlamesSetUp c.in-Err.fault (set_up p asked.area es)) c.requires.same c.in-Err.ensures in
    subst (λ (a : AreaText). Blames c.rule_fault.result (told_funcs a t (set_up p a.area wanted))) (sym is)
    (subst (λ (f : RuleFault). Blames f (told_funcs asked t (set_up p asked.area wanted))) (sym c.rule_fault.ensures)
    (fault_told asked t c.in-Err.fault (set_up p asked.area wanted) blames))
