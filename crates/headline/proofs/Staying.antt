-- Where every function stays, no suspended stack stands at numbered calls.
use Rattle.std.proofs.Common.{◌≡◌, ℕ, List, Bool, true, false, All, sym, ap, ◌∙◌, map}
use Rattle.std.specs.Prelude.{slice_get}
use Rattle.std.proofs.lemmas.List.Elements.{All-head}
use Rattle.wa_types.specs.Base.{Base}
use Rattle.wa_types.specs.Pausing.{Settings, is_told}
use Rattle.wa_types.specs.Syntax.{Module}
use Rattle.wa_model.specs.Behaves.{StandsNumbered}
use Rattle.wa_model.specs.Configuration.{Configuration, stack_of, suspended}
use Rattle.wa_model.specs.Plan.{Plan}
use Rattle.run_laws.proofs.BlockingRuns.{well_formed_in}
use Rattle.headline.specs.Links.{StandsLaw}
use Rattle.headline.specs.CoreOf.{RunsBeside, WaitsBeside, core_of}
use Rattle.headline.specs.EmittedModule.{Framing}
use Rattle.headline.specs.EmittedLaws.{StayingBehave}
use Rattle.headline.proofs.Behaving.{says}

module _ (m : Module) (s : Settings) (which : List Bool) (frames : (index : ℕ) → Framing) (p : Module) (plan : Plan) (stay : (x : ℕ) → is_told (slice_get which x) ≡ false) where
  never : (d : Configuration) → All (StandsNumbered m s which) (stack_of (Base m) d) → ⊥
  never d nums =
      let told = (All-head (StandsNumbered m s which) (suspended (Base m) d.here) (map (suspended (Base m)) d.under) nums).instrumented in
      let bad : true ≡ false = ap is_told (sym told) ∙ stay d.here.func in
      cc

  pub none_stand : StandsLaw (core_of m s which frames plan p) (RunsBeside m s which frames plan p) (WaitsBeside m s which frames plan p) (λ c d. c ≡ d)
  none_stand = record {
    numbers = λ top i d f l nums. absurd (never d nums);
    stands = λ top i d f us' st l nums fit. absurd (never d nums);
    again = λ top i d f a us l nums same us' st fit. absurd (never d nums);
  }

pub staying_behave : StayingBehave
staying_behave m s which frames p valid written_valid wf written_codes tells stay em plan os n cmp pauses =
    says m s which frames p valid written_valid (well_formed_in m wf) written_codes tells em plan cmp.given (none_stand m s which frames p plan stay) os n cmp pauses
