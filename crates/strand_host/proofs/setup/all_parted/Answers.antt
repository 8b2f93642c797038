use Rattle.std.proofs.Common.{List, [], map, Some, subst, sym, ap, refl, ◌∙◌}
use Rattle.wa_types.specs.Validity.{Valid}
use Rattle.wa_types.specs.View.{module_of}
use Rattle.pause_host.specs.Settings.{MakesSetting}
use Rattle.strand_host.specs.declared.plan.StrandPart.{StrandPart}
use Rattle.strand_host.specs.StrandPlans.{AllSetUp, first_overlap}
use Rattle.strand_host.specs.StrandSetups.{AllOfLength, AreAtStart, area_of, items_of}
use Rattle.strand_host.proofs.SetupLoops.{lengths_of, none_is}
use Rattle.strand_host.proofs.setup.all_parted.Goals as goal

pub at_start-requires : goal.at_start-requires
at_start-requires c =
    let p = module_of c.args.plan.plan.module.now in
    let funcs = c.in_ok-funcs.funcs.items in
    let parts = c.in_ok-parts.parts.items in
    subst (λ vs. AllOfLength parts (items_of vs)) (sym c.deref-5.ensures.value)
    (lengths_of p (subst (λ m. Valid (module_of m)) c.module.ensures.same c.module.ensures.valid) parts (items_of funcs)
    (subst (λ ps. AllSetUp p ps (items_of funcs)) c.deref.ensures.value c.in_ok-funcs.ensures))

pub returns : goal.returns
returns c =
    let x = c.args.plan in
    let p = module_of x.plan.module.now in
    let funcs = items_of c.in_ok-funcs.funcs.items in
    let parts = c.in_ok-parts.ensures in
    let areas = c.in_ok-areas.ensures ∙ ap (map area_of) (c.deref-2.ensures.value ∙ parts) in
    record {
      lawful = subst (λ m. Valid (module_of m)) c.module.ensures.same c.module.ensures.valid;
      funcs = funcs;
      all = subst (λ ps. AllSetUp p ps funcs) (c.deref.ensures.value ∙ parts) c.in_ok-funcs.ensures;
      apart = ap (first_overlap [] 0) (sym (c.deref-3.ensures.value ∙ areas)) ∙ sym c.overlapping.ensures ∙ none_is c.overlapping.result c.in_default.not-Some;
      valid = refl;
      globals = refl;
      made = c.in_ok-setting.setting;
      makes = subst (λ m. MakesSetting (module_of m) x.plan.listed x.plan.binds x.plan.area x.plan.steps c.in_ok-setting.setting) c.module.ensures.same c.in_ok-setting.ensures;
      setting = refl;
      others = areas;
      steps = refl;
      dues = c.in_ok-dues.ensures ∙ ap (map (λ (s : StrandPart). Some 0)) (c.deref-4.ensures.value ∙ parts);
      strands = subst (λ ps. AreAtStart ps funcs c.in_ok-strands.strands.items) parts
          (subst (λ vs. AreAtStart c.in_ok-parts.parts.items (items_of vs) c.in_ok-strands.strands.items) c.deref-5.ensures.value c.in_ok-strands.ensures);
    }
