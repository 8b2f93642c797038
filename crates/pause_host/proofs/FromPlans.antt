-- A program that is made of a plan follows the plan's program of a world.
use Rattle.std.proofs.Common.{◌≡◌, ℕ, List, map, ap, Ok, Err, Result, IfOk}
use Rattle.std.specs.Prelude.{IfErr}
use Rattle.wa_model.specs.View.{answer_line_of}
use Rattle.host_setup.specs.declared.faults.SetupFault.{SetupFault}
use Rattle.host_setup.specs.SetUp.{set_up}
use Rattle.host_setup.specs.Views.{Blames}
use Rattle.pause_host.specs.declared.plan.Plan.{Plan}
use Rattle.pause_host.specs.declared.program.Program.{Program}
use Rattle.pause_host.specs.FromPlans.{IsOfPlan}
use Rattle.pause_host.specs.Mailing.{awaits_in}
use Rattle.pause_host.specs.Programs.{IsPlan, SetsUp, named_entries, source_of}
use Rattle.pause_host.proofs.Beginning.{follows}

pub sets_up : (x : Plan) → IsPlan x → (r : Result Program SetupFault)
    → IfOk r (λ program. (funcs : List ℕ) × (set_up (source_of x) x.area (named_entries x) ≡ Ok funcs) × IsOfPlan x funcs program)
    → IfErr r (λ fault. Blames fault (set_up (source_of x) x.area (named_entries x))) → SetsUp x r
sets_up x plan (Ok program) ok err =
    let m = ok.2 in (
      ok.0,
      ok.1,
      λ looks binds bound. follows x ok.0 looks binds bound plan m.valid ok.1 m.sizes program m.source m.globals m.setting m.number m.entries m.answers m.given m.steps m.fresh,
      ap (map answer_line_of) m.answers,
      ap (awaits_in program.setting) m.awake,
    )
sets_up x plan (Err fault) ok err = err
