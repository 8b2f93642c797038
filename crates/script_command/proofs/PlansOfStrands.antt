-- A plan whose strands can be set up.
use Rattle.std.proofs.Common.{◌≡◌, ℕ, zero, suc, List, [], ◌∷◌, length, Option, Some, None, Result, Ok, refl, sym, ap, ◌∙◌, subst}
use Rattle.wa_types.specs.Syntax.{Module}
use Rattle.wa_model.specs.declared.answers.Area.{Area}
use Rattle.world_model.specs.World.{Look}
use Rattle.host_setup.specs.SetUp.{Fault}
use Rattle.host_setup.specs.Views.{Blames}
use Rattle.host_setup.specs.declared.faults.SetupFault.{SetupFault}
use Rattle.host_setup.specs.declared.faults.SetupFault.TheVariants as F
use Rattle.pause_host.specs.Programs.{BindsAs, source_of}
use Rattle.strand_laws.specs.ToldStrands.{starting}
use Rattle.strand_host.specs.declared.plan.StrandPart.{StrandPart}
use Rattle.strand_host.specs.declared.plan.StrandPlan.{StrandPlan}
use Rattle.strand_host.specs.declared.program.StrandProgram.{StrandProgram}
use Rattle.strand_host.specs.StrandPlans.{AllSetUp, AreasApart, FailsFirst, OverlapsFirst, parts_of, set_up_of, strands_with, world_strands}
use Rattle.strand_host.specs.StrandPrograms.{FollowsStrands, SetsUp}

same_ok : (r : Result (List ℕ) Fault) (fs gs : List ℕ) → r ≡ Ok fs → r ≡ Ok gs → fs ≡ gs
same_ok r fs gs e f =
    let both : ◌≡◌ {A = Result (List ℕ) Fault} (Ok fs) (Ok gs) = sym e ∙ f in
    cc

-- the functions of entries are known
all_set_up_once : (p : Module) (ss : List StrandPart) (fss gss : List (List ℕ)) → AllSetUp p ss fss → AllSetUp p ss gss → fss ≡ gss
all_set_up_once p [] fss gss h k = h ∙ sym k
all_set_up_once p (s ∷ ss) [] gss h k = absurd h
all_set_up_once p (s ∷ ss) (fs ∷ fss) [] h k = absurd k
all_set_up_once p (s ∷ ss) (fs ∷ fss) (gs ∷ gss) h k =
    let first = same_ok (set_up_of p s) fs gs h.0 k.0 in
    let rest = all_set_up_once p ss fss gss h.1 k.1 in
    λ i. first i ∷ rest i

-- a strand a part
strands_long : (ss : List StrandPart) (p : Module) (fss : List (List ℕ)) → AllSetUp p ss fss → length (strands_with ss fss) ≡ length ss
strands_long [] p fss h = refl
strands_long (s ∷ ss) p [] h = absurd h
strands_long (s ∷ ss) p (fs ∷ fss) h = ap suc (strands_long ss p fss h.1)

pub as_many_strands : (x : StrandPlan) (funcs : List (List ℕ)) → AllSetUp (source_of x.plan) (parts_of x) funcs → length (strands_with (parts_of x) funcs) ≡ length (parts_of x)
as_many_strands x funcs h = strands_long (parts_of x) (source_of x.plan) funcs h

-- the program that is made stands at its start, with whatever functions are known to be those of the entries
pub strands_start : (x : StrandPlan) (program : StrandProgram) → SetsUp x program → (funcs : List (List ℕ)) (looks : List Look) (binds : List (Option (List ℕ)))
    → AllSetUp (source_of x.plan) (parts_of x) funcs → BindsAs x.plan binds → FollowsStrands (world_strands x funcs looks binds) (starting (world_strands x funcs looks binds)) program
strands_start x program up funcs looks binds all bound =
    subst (λ (fss : List (List ℕ)). FollowsStrands (world_strands x fss looks binds) (starting (world_strands x fss looks binds)) program)
    (all_set_up_once (source_of x.plan) (parts_of x) up.0 funcs up.1 all) (up.3 looks binds bound)

-- a fault of a strand that can be set up tells of nothing but memory
pub fault_of_none : (p : Module) (ss : List StrandPart) (fss : List (List ℕ)) (k : ℕ) (fault : SetupFault) → AllSetUp p ss fss → FailsFirst p ss k fault → (funcs : List ℕ) × Blames fault (Ok funcs)
fault_of_none p [] fss k fault h f = absurd f
fault_of_none p (s ∷ ss) [] k fault h f = absurd h
fault_of_none p (s ∷ ss) (fs ∷ fss) zero fault h f = (fs, subst (Blames fault) h.0 f)
fault_of_none p (s ∷ ss) (fs ∷ fss) (suc k) fault h f = fault_of_none p ss fss k fault h.1 f.1

-- areas that are apart don't overlap
pub none_overlaps : (areas : List Area) (k : ℕ) → AreasApart areas → OverlapsFirst areas k → ⊥
none_overlaps areas k apart overlaps =
    let both : ◌≡◌ {A = Option ℕ} None (Some k) = sym apart ∙ overlaps in
    cc

pub blames_memory : (fault : SetupFault) (funcs : List ℕ) → Blames fault (Ok funcs) → (fault ≡ F.Memory → ⊥) → ⊥
blames_memory F.Memory funcs b other = other refl
blames_memory F.AreaBad funcs b other = cc
blames_memory (F.NoExports name) funcs b other = cc
blames_memory (F.EntryMissing entry) funcs b other = cc
blames_memory (F.EntryIsImport entry) funcs b other = cc
blames_memory (F.ArgTypes entry) funcs b other = cc
