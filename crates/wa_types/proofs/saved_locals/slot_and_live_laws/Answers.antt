use Rattle.std.specs.Prelude.{[], ◌∷◌}
use Rattle.wa_types.specs.Pruned.{pruned}
use Rattle.wa_types.specs.Modules.{around}
use Rattle.wa_types.proofs.LiveLemmas.{live_after, after_live}
use Rattle.wa_types.proofs.PlaceLemmas.{behind_each, point_each}
use Rattle.wa_types.proofs.SlotLemmas.{slots_are_pairs, pairs_are_slots}
use Rattle.wa_types.proofs.saved_locals.slot_and_live_laws.Goals as goal

pub returns-clause-slots : goal.returns-clause-slots
returns-clause-slots c = λ m f typed h t. (slots_are_pairs m f typed h t, pairs_are_slots m f h t)

pub returns-clause-live : goal.returns-clause-live
returns-clause-live c = λ f place x. (live_after f place x, after_live f place x)

pub returns-clause-lists : goal.returns-clause-lists
returns-clause-lists c = λ m f. (behind_each [] (pruned f.body), point_each (around m f) ((around m f).result ∷ []) f.body [] [])
