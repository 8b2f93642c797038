-- What is told where an entry that waits for an import is answered, and where the original's run goes on from there.
use Rattle.std.specs.Prelude.{List, [], ◌∷◌}
use Rattle.std.specs.Option.{option_to_list}
use Rattle.wa_model.specs.declared.answers.Said.{Said}
use Rattle.wa_model.specs.declared.answers.Said.TheVariants as S
use Rattle.wa_model.specs.Blocking.{Left, Note, State, an_entry, halts, import_traps, note, resumed, runs}
use Rattle.wa_model.specs.Configuration.{Configuration}
use Rattle.wa_model.specs.Outside.{answered}
use Rattle.wa_model.specs.Plan.{Entry}
use Rattle.wa_model.specs.Store.{Store}

-- what is told once this was said: a trap ends the program
abbrev pub answer_notes : Said → Store → List Note
answer_notes (S.Value v) s = note (answered (S.Value v)) s ∷ []
answer_notes S.Trap s = import_traps s

-- where an entry goes on that waited, once this was said
abbrev pub goes_on_told : Said → Entry → Configuration → Store → Left → State
goes_on_told (S.Value v) e c s l = runs (an_entry e) (resumed c s (option_to_list v)) l
goes_on_told S.Trap e c s l = halts s
