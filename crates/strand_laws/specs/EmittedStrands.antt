-- The strands of what is emitted.
use Rattle.std.specs.Prelude.{◌≡◌, ℕ, List, Some, Bool, false}
use Rattle.wa_types.specs.Pausing.{Listed, Settings, TellsMayPause}
use Rattle.wa_types.specs.Syntax.{Module}
use Rattle.wa_model.specs.Plan.{Outcome}
use Rattle.run_theory.specs.Quiet.{FreeOfNames}
use Rattle.emitted_form.specs.EmittedAs.{EmittedAs}
use Rattle.emitted_form.specs.PolicyLaws.{CanBeEmitted}
use Rattle.strand_laws.specs.Strands.{StrandProgram, StrandsBehave, StrandsNumbered}

-- Under both policies the strands of what is emitted behave like those of its original.
abbrev pub StrandsOfEmitted : Type 0
StrandsOfEmitted = (m : Module) (s : Settings) (told : List Bool) (q : Module) → CanBeEmitted m s told → FreeOfNames m → EmittedAs m s told q → StrandsBehave m s q

-- Where `call_indirect` isn't ignored, each pause of an original's strands finds its activations at numbered calls.
abbrev pub StrandPausesAtNumbers : Type 0
StrandPausesAtNumbers =
    (s : Settings) (which : List Bool) (g : StrandProgram) (oss : List (List Outcome)) (n : ℕ) → TellsMayPause g.source s which → s.ignore_indirect ≡ false
    → g.listed ≡ Some (Listed g.source s) → StrandsNumbered s which g oss n
