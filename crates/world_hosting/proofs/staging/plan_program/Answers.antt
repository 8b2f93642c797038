use Rattle.std.proofs.Common.{refl, ap, map, ◌∙◌, Option, List, Bool, ℕ}
use Rattle.std.specs.Borrow.{Bor}
use Rattle.std.specs.Global.{Vec}
use Rattle.wa_types.specs.declared.syntax.Module.{Module as ModuleValue}
use Rattle.wa_types.specs.View.{module_of}
use Rattle.pause_host.specs.declared.plan.Plan.{Plan}
use Rattle.script_reader.specs.declared.script.ProgramText.{ProgramText}
use Rattle.script_reader.specs.Views.{bind_of, program_of}
use Rattle.script_setup.specs.declared.setting.SetUp.{SetUp}
use Rattle.script_setup.specs.SetUpRules.{program_names}
use Rattle.script_setup.specs.Bindings.{bindings}
use Rattle.world_hosting.proofs.Starts.{IsPlanOf, is_plan, is_set_up, same_entries}
use Rattle.world_hosting.proofs.staging.plan_program.Goals as goal

-- the plan that is made
abbrev plan_of : Bor ModuleValue → Option (Vec Bool) → ProgramText → SetUp → Vec (Option (List ℕ)) → Plan
plan_of valid listed t given binds = record {
  «module» = valid;
  listed = listed;
  binds = binds;
  area = t.area;
  steps = t.steps;
  globals = given.globals;
  entries = given.entries;
  answers = t.answers;
}

pub returns : goal.returns
returns c =
    let t = program_of c.args.text in
    let x : Plan = plan_of c.args.valid c.args.listed c.args.text c.args.given c.in_ok-binds.binds in
    let bound =
    c.in_ok-binds.ensures ∙ ap (λ m. bindings (module_of m) (map bind_of c.deref.result.now)) c.module-2.ensures.same
    ∙ ap (λ bs. bindings (module_of c.args.valid.now) (map bind_of bs)) c.deref.ensures.value in
    let of : IsPlanOf t c.args.given x = record { entries = refl; globals = refl; area = refl; steps = refl; answers = refl; binds = bound } in
    record {
      plan = is_plan t c.args.given x of c.requires.suits c.requires.listed c.requires.fits;
      source = refl;
      listed = refl;
      entries = same_entries t c.args.given x of c.requires.suits;
      funcs = is_set_up t c.args.given x of c.requires.suits;
      globals = refl;
      area = refl;
      steps = refl;
      answers = refl;
      binds = bound;
      names = c.in_ok-names.ensures ∙ ap (λ m. program_names (module_of m) t) c.module.ensures.same;
      shows = refl;
    }
