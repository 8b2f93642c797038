use Rattle.std.proofs.Common.{arith, ◌≡◌, ◌∙◌, ap, sym, refl, length, map, subst}
use Rattle.std.proofs.lemmas.List.{length-map}
use Rattle.wa_types.specs.Sizes.{SizeRule}
use Rattle.wa_types.specs.Validity.{Valid}
use Rattle.wa_types.specs.View.{module_of}
use Rattle.host_setup.specs.SetUp.{set_up}
use Rattle.host_setup.specs.Views.{entry_of as named_of}
use Rattle.pause_host.specs.Settings.{MakesSetting, calls_of}
use Rattle.pause_host.proofs.Making.{funcs_many}
use Rattle.pause_host.proofs.program.Program.of_plan.Goals as goal

pub entry_calls-requires : goal.entry_calls-requires
entry_calls-requires c =
    let x = c.args.plan in
    let p = module_of x.«module».now in
    let up = ap (λ es. set_up p x.area (map named_of es)) (sym c.deref.ensures.value) ∙ c.in_ok-funcs.ensures in
    let v = subst (λ m. Valid (module_of m)) c.module.ensures.same c.module.ensures.valid in
    ap length c.deref-2.ensures.value ∙ funcs_many p v x.area (map named_of x.entries.items) c.in_ok-funcs.funcs.items up ∙ length-map x.entries.items named_of

pub returns : goal.returns
returns c =
    let x = c.args.plan in
    let p = module_of x.«module».now in
    let funcs = c.in_ok-funcs.funcs.items in
    let up = ap (λ es. set_up p x.area (map named_of es)) (sym c.deref.ensures.value) ∙ c.in_ok-funcs.ensures in
    let v = subst (λ m. Valid (module_of m)) c.module.ensures.same c.module.ensures.valid in
    let made = subst (λ m. MakesSetting (module_of m) x.listed x.binds x.area x.steps c.in_ok-setting.setting) c.module.ensures.same c.in_ok-setting.ensures in
    let given : c.len-given.result ≡ length x.answers.items = omega (arith, c.len-given.ensures, x.answers.ok) in
    let calls = c.in_ok-entries.ensures ∙ ap (calls_of (map named_of x.entries.items)) c.deref-2.ensures.value in
    record {
      ok = (
        funcs,
        up,
        record {
          valid = v;
          sizes = subst (λ m. SizeRule (module_of m)) c.module.ensures.same c.module.ensures.sizes;
          source = refl;
          setting = made;
          globals = refl;
          number = refl;
          entries = calls;
          answers = c.from_vec.ensures.items;
          given = given;
          steps = refl;
          awake = refl;
          fresh = refl;
        },
      );
      err = tt;
    }
