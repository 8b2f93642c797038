use Rattle.std.proofs.Common.{◌+◌, ◌-◌, ◌*◌}
use Rattle.wa_types.specs.View.{module_of}
use Rattle.gen_module.specs.GeneratedRuns.{value_of_func}
use Rattle.asyncify_app.specs.Playing.{run_program}
use Rattle.asyncify_app.proofs.Runs.{run_tells}
use Rattle.asyncify_app.proofs.generated_runs.play.Goals as goal

pub returns : goal.returns
returns c = λ n least most r.
    let p = module_of c.args.module.now in
    c.play_through.ensures (run_program n p) (8 + 16 * n) (value_of_func (n - 1)) (c.in_ok-program.ensures n r) (run_tells n p least most r)

pub program_of-requires : goal.program_of-requires
program_of-requires c = let r = c.requires in (r.0, r.1, r.3)

pub play_through-requires : goal.play_through-requires
play_through-requires c =
    let r = c.requires in
    let n = r.0 in
    let p = module_of c.args.module.now in
    (run_program n p, 8 + 16 * n, value_of_func (n - 1), c.in_ok-program.ensures n r.3, run_tells n p r.1 r.2 r.3)
