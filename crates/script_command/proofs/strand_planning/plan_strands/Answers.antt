-- The plan of a script's program with all its strands.
use Rattle.std.proofs.Common.{refl, ap, map, ◌∙◌, Option, List, Bool, ℕ}
use Rattle.std.specs.Borrow.{Bor}
use Rattle.std.specs.Global.{Vec}
use Rattle.wa_types.specs.declared.syntax.Module.{Module as ModuleValue}
use Rattle.wa_types.specs.View.{module_of}
use Rattle.host_setup.specs.declared.entries.Entry.{Entry}
use Rattle.script_reader.specs.declared.script.ProgramText.{ProgramText}
use Rattle.script_reader.specs.Views.{bind_of, entry_of, program_of, show_of}
use Rattle.script_setup.specs.Bindings.{bindings}
use Rattle.script_setup.specs.SetUpRules.{named_entry}
use Rattle.script_setup.specs.declared.setting.SetUp.{SetUp}
use Rattle.strand_host.specs.declared.plan.StrandPart.{StrandPart}
use Rattle.strand_host.specs.declared.plan.StrandPlan.{StrandPlan}
use Rattle.world_hosting.specs.Worlds.{look_at}
use Rattle.script_command.proofs.PlannedParts.{IsStrandPlanOf, are_apart, is_strand_plan, sets_up}
use Rattle.script_command.proofs.strand_planning.plan_strands.Goals as goal

-- the plan that is made
abbrev plan_of : Bor ModuleValue → Option (Vec Bool) → ProgramText → SetUp → Vec (Option (List ℕ)) → Vec Entry → Vec StrandPart → StrandPlan
plan_of valid listed t given binds entries strands = record {
  plan = record {
    «module» = valid;
    listed = listed;
    binds = binds;
    area = t.area;
    steps = t.steps;
    globals = given.globals;
    entries = entries;
    answers = t.answers;
  };
  strands = strands;
}

pub returns : goal.returns
returns c =
    let t = program_of c.args.text in
    let x : StrandPlan = plan_of c.args.valid c.args.listed c.args.text c.args.given c.in_ok-binds.binds c.in_ok-entries.entries c.in_ok-strands.strands in
    let bound =
    c.in_ok-binds.ensures ∙ ap (λ m. bindings (module_of m) (map bind_of c.deref.result.now)) c.module.ensures.same
    ∙ ap (λ bs. bindings (module_of c.args.valid.now) (map bind_of bs)) c.deref.ensures.value in
    let entries = c.in_ok-entries.ensures ∙ ap (λ es. map named_entry (map entry_of es)) c.deref-2.ensures.value in
    let of : IsStrandPlanOf t c.args.given x =
    record { globals = refl; area = refl; steps = refl; entries = entries; answers = refl; binds = bound; strands = c.in_ok-strands.ensures } in
    record {
      plan = is_strand_plan t c.args.given x of c.requires.suits c.requires.listed c.requires.fits;
      source = refl;
      listed = refl;
      globals = refl;
      area = refl;
      entries = entries;
      answers = refl;
      steps = refl;
      binds = bound;
      strands = c.in_ok-strands.ensures;
      set_up = sets_up t c.args.given x of c.requires.suits;
      apart = are_apart t c.args.given x of c.requires.suits;
      shows = c.in_ok-shows.ensures ∙ ap (λ ss. map look_at (map show_of ss)) c.deref-3.ensures.value;
    }
