use Rattle.std.proofs.Common.{refl}
use Rattle.wa_types.specs.View.{module_of}
use Rattle.gen_module.specs.Generated.{generated}
use Rattle.asyncify_app.proofs.Runs.{imports_as, is_plan, made_follows, refused_for_memory}
use Rattle.asyncify_app.proofs.program.program_of.Goals as goal

pub new-requires : goal.new-requires
new-requires c =
    let r = c.requires in
    let p = module_of c.args.module.now in is_plan p c.in_ok-plan.plan (imports_as r.0 (generated r.0) p refl r.2) c.in_ok-plan.ensures

pub returns-in-Ok : goal.returns-in-Ok
returns-in-Ok c = λ n r. made_follows n (module_of c.args.module.now) c.in_ok-plan.plan c.in-Ok.program r c.in_ok-plan.ensures c.in-Ok.ensures

pub want_of_memory-requires : goal.want_of_memory-requires
want_of_memory-requires c = let r = c.requires in refused_for_memory r.0 (module_of c.args.module.now) c.in_ok-plan.plan c.in-Err.fault r.1 r.2 c.in_ok-plan.ensures c.in-Err.ensures
