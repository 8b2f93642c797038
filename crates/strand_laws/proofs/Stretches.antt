-- Stretches of strands are woven.
use Rattle.std.proofs.Common.{List, [], ◌∷◌}
use Rattle.wa_model.specs.Blocking.{Note}
use Rattle.strand_laws.proofs.WovenRuns.{NoEnds, woven_leads}
use Rattle.strand_laws.specs.Strands.{held_loom, strung_loom}
use Rattle.strand_laws.specs.Weaving.{AllStretchesAreWoven, EndNoTurn, StretchesAreWoven}
use Rattle.strand_laws.specs.Woven.{Loom}

no_ends : (es : List Note) → EndNoTurn es → NoEnds es
no_ends [] h = tt
no_ends (x ∷ xs) h = (h.0, no_ends xs h.1)

are_woven : {S : Type 0} (loom : Loom S) → StretchesAreWoven loom
are_woven loom i due n s t ts es lt leads h = woven_leads loom i due s t ts n es lt leads (no_ends es h)

pub stretches : AllStretchesAreWoven
stretches s g = record { held = are_woven (held_loom g); strung = are_woven (strung_loom s g) }
