use Rattle.std.proofs.Common.{arith, refl}
use Rattle.wasm_encode.proofs.Runs.{local_count_le}
use Rattle.wasm_encode.proofs.locals.next_run.Goals as goal

pub loop-at-init : goal.loop-at-init
loop-at-init c = record {
  within = c.requires.place;
  from = omega arith;
  moved = λ none. absurd (none refl);
  total = let least = local_count_le c.args.runs.now c.args.at.now in omega (arith, least);
  merges = refl;
}
