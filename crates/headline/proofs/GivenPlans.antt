-- A plan that fits is given.
use Rattle.std.proofs.Common.{ℕ, List}
use Rattle.wa_types.specs.Pausing.{Settings}
use Rattle.wa_types.specs.Syntax.{Module}
use Rattle.wa_model.specs.Behaves.{Behaves, Compared}
use Rattle.wa_model.specs.Plan.{Fits, Outcome, Plan}
use Rattle.headline.specs.Given.{BehavesGiven, ComparedGiven, Given, LetsPause}

pub fits_given : (m : Module) (plan : Plan) → Fits m plan → Given m plan
fits_given m plan f = let a = f.area in record { globals = f.globals; entries = f.entries; inside = a.inside; area = λ lets. a }

pub given_fits : (m : Module) (plan : Plan) → Given m plan → LetsPause plan → Fits m plan
given_fits m plan g lets = record { globals = g.globals; entries = g.entries; area = g.area lets }

pub compared_given : (m : Module) (s : Settings) (plan : Plan) (os : List Outcome) (n : ℕ) → Compared m s plan os n → ComparedGiven m plan os n
compared_given m s plan os n c = record { given = fits_given m plan c.fits; outcomes = c.outcomes; untouched = c.untouched }

-- who behaves under each given plan behaves under each that fits
pub behaves_given : (m : Module) (s : Settings) (p : Module) → BehavesGiven m s p → Behaves m s p
behaves_given m s p h wf which tells plan os n cmp pauses = h wf which tells plan os n (compared_given m s plan os n cmp) pauses
