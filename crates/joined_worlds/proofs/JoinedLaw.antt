-- The law of joined worlds.
use Rattle.image_laws.proofs.Emitted.{image_goes_on, pauses_hold}
use Rattle.image_laws.proofs.Joined.{whole_bound}
use Rattle.emitted_form.proofs.CodeAlone.{code_alone}
use Rattle.joined_worlds.specs.JoinedOriginals.{JoinedWorldsOfOriginals}
use Rattle.joined_worlds.proofs.JoinedOriginals.{joined_worlds_of_originals}

pub joined_law : JoinedWorldsOfOriginals
joined_law = joined_worlds_of_originals image_goes_on pauses_hold whole_bound code_alone
