use Rattle.std.proofs.Common.{subst}
use Rattle.host_setup.specs.Views.{Blames}
use Rattle.world_hosting.proofs.Starts.{begins}
use Rattle.world_hosting.proofs.staging.start_planned.Goals as goal

pub new-requires : goal.new-requires
new-requires c = c.requires.1.plan

pub returns-in-Ok : goal.returns-in-Ok
returns-in-Ok c = λ x p.
    let told = begins x c.args.planned p c.in-Ok.program c.in-Ok.ensures in
    record { follows = told.0; answers = told.1; awake = told.2; names = p.names; shows = p.shows }

pub want_of_memory-requires : goal.want_of_memory-requires
want_of_memory-requires c = let p = c.requires.1 in (c.requires.0.given.funcs, subst (Blames c.in-Err.fault) p.funcs c.in-Err.ensures)
