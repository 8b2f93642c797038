-- Slots, of the program's values.
use Rattle.std.specs.Prelude.{List, map}
use Rattle.wa_types.specs.Frames.{Pair}
use Rattle.frame_sizes.specs.declared.slot_pairs.Pair.{Pair as PairValue}

-- a type at a height
abbrev pub pair_of : PairValue → Pair
pair_of p = record { number = p.number; ty = p.ty }

-- types at heights
abbrev pub pairs_of : List PairValue → List Pair
pairs_of ps = map pair_of ps
