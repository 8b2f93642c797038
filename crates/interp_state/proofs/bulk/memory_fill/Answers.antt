use Rattle.std.proofs.Common.{inl}
use Rattle.interp_state.specs.View.{store_of}
use Rattle.interp_state.proofs.bulk.memory_fill.Goals as goal

pub returns-in_default-clause-shows : goal.returns-in_default-clause-shows
returns-in_default-clause-shows c = λ most. inl (c.in_default.ensures.words most (store_of c.args.store.now)).1
