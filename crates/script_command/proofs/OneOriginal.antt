-- Programs of one text, which `run` sets up over modules of one file, stand for one original.
use Rattle.std.proofs.Common.{◌≡◌, ◌∙◌, ℕ, List, Option, Some, Bool, true, Result, Ok, sym, ap, subst}
use Rattle.vault_port.specs.Files.{Files}
use Rattle.wa_types.specs.Pausing.{Listed, Settings}
use Rattle.wa_types.specs.Syntax.{Module}
use Rattle.wa_model.specs.Rewrites.{Rewrites}
use Rattle.world_model.specs.World.{Original}
use Rattle.script_model.specs.Command.{choice_said}
use Rattle.script_model.specs.Script.{ProgramText, ScriptFault}
use Rattle.script_setup.specs.SetUpRules.{SetUp, set_up_rules}
use Rattle.transform_command.specs.Running.{RunsAs}
use Rattle.transform_command.proofs.OneOriginal.{AreEmitted, OfOneOriginal, one_original}
use Rattle.transform_command.proofs.Verdicts.{one_written}
use Rattle.world_laws.specs.Originals.{StandsIn}
use Rattle.world_hosting.specs.OriginalRuns.{IsRewritten, Source, original_for}
use Rattle.world_hosting.specs.Worlds.{HasRanges, Part, part, world_program}
use Rattle.world_hosting.proofs.Originals.{stands_in}
use Rattle.script_command.specs.Playing.{IsStage, policy_for}
use Rattle.script_command.specs.RunOriginals.{IsSource}
use Rattle.script_command.specs.declared.way.Way.TheVariants.{Run}
use Rattle.script_command.proofs.NoStrands.{HasNoStrand}
use Rattle.script_command.proofs.ProgramModules.{one_settings}
use Rattle.script_command.proofs.Runs.{SameImports, heeds}
use Rattle.script_command.proofs.SameSetUp.{same_rules}

pub some_bytes : (a b : List ℕ) → ◌≡◌ {A = Option (List ℕ)} (Some a) (Some b) → a ≡ b
some_bytes a b e = cc

ok_given : (a b : SetUp) → ◌≡◌ {A = Result SetUp ScriptFault} (Ok a) (Ok b) → a ≡ b
ok_given a b e = cc

-- The program's original, for which both programs stand, by modules that are emitted of it.
pub record OfOneSource (files : Files) (x y : Part) : Type 0 where
  pub of : Source
  pub is_source : IsSource (Some files) of x
  pub rewritten : IsRewritten of x
  pub emitted : AreEmitted of.original of.settings x.source y.source
  pub first : StandsIn (original_for of x) (world_program x)
  pub second : StandsIn (original_for of x) (world_program y)
  pub names : SameImports of y

module _ (files files' : Files) (boxes : List (List ℕ)) (t : ProgramText) (there : files' t.path ≡ files t.path) (ranges : HasRanges t) (none : HasNoStrand t) where
  -- two programs of this text
  module _ (p q : Module) (listed listed' : Option (List Bool)) (given given' : SetUp) (is : IsStage Run boxes (Some files) (part p listed t given))
      (is' : IsStage Run boxes (Some files') (part q listed' t given')) where
    abbrev x : Part
    x = part p listed t given

    abbrev y : Part
    y = part q listed' t given'

    abbrev s : Settings
    s = is.module_is.3.0

    abbrev bytes : List ℕ
    bytes = is.module_is.0

    abbrev l : List Bool
    l = is.module_is.1

    abbrev l' : List Bool
    l' = is'.module_is.1

    abbrev runs : RunsAs s bytes l p
    runs = is.module_is.3.2

    runs' : RunsAs s bytes l' q
    runs' =
        subst (λ (bs : List ℕ). RunsAs s bs l' q) (some_bytes is'.module_is.0 bytes (sym is'.module_is.2 ∙ there ∙ is.module_is.2))
        (subst (λ (r : Settings). RunsAs r is'.module_is.0 l' q) (one_settings t is'.module_is.3.0 s is'.module_is.3.1 is.module_is.3.1) is'.module_is.3.2)

    one : OfOneOriginal runs l' q
    one = one_original runs runs'

    same_given : given ≡ given'
    same_given =
        let rules =
        same_rules true boxes p q t
        (one_written s bytes runs.source runs'.source runs.which runs'.which p q runs.rewritable runs'.rewritable runs.rewrites runs'.rewrites) in
        ok_given given given' (sym is.set_up ∙ rules ∙ is'.set_up)

    abbrev of : Source
    of = record { original = runs.source; settings = s }

    rewritten : (r : Module) (told : Option (List Bool)) (g : SetUp) → Rewrites runs.source s r → told ≡ Some (Listed runs.source s) → set_up_rules true boxes r t ≡ Ok g → IsRewritten of (part r told t g)
    rewritten r told g rewrites is_listed set_up = record {
      rewrites = rewrites;
      well_formed = runs.well_formed;
      which = runs.which;
      tells = runs.rewritable.tells;
      heeds = heeds (policy_for t.policy_live) (choice_said t.list t.ignore_imports) s is.module_is.3.1;
      listed = is_listed;
      ranges = ranges;
      boxes = boxes;
      set_up = set_up;
      alone = none;
    }

    first : IsRewritten of x
    first = rewritten p listed given runs.rewrites (is.module_is.4 ∙ ap (λ (bs : List Bool). Some bs) runs.listed_is) is.set_up

    second : IsRewritten of y
    second = rewritten q listed' given' one.rewrites (is'.module_is.4 ∙ ap (λ (bs : List Bool). Some bs) one.listed_are) is'.set_up

    -- both have one original
    same_original : original_for of y ≡ original_for of x
    same_original =
        ap (λ (g : SetUp). record { program = world_program (part of.original (Some (Listed of.original of.settings)) t g); settings = of.settings }) (sym same_given)

    of_one_source : OfOneSource files x y
    of_one_source = record {
      of = of;
      is_source = record { bytes = bytes; holds = is.module_is.2; source = runs.rewritable.accepted; settings_are = is.module_is.3.1 };
      rewritten = first;
      emitted = one.emitted;
      first = stands_in of x first;
      second = subst (λ (o : Original). StandsIn o (world_program y)) same_original (stands_in of y second);
      names = one.rewrites.parts.imports;
    }

-- So do programs whose texts are one.
pub one_source : (files files' : Files) (boxes : List (List ℕ)) (x y : Part) → y.text ≡ x.text → files' x.text.path ≡ files x.text.path → HasRanges x.text → HasNoStrand x.text → IsStage Run boxes (Some files) x → IsStage Run boxes (Some files') y
    → OfOneSource files x y
one_source files files' boxes x y same there ranges none is is' =
    let z : Part = part y.source y.listed x.text y.given in
    let made : y ≡ z = ap (λ (t : ProgramText). part y.source y.listed t y.given) same in
    subst (OfOneSource files x) (sym made)
    (of_one_source files files' boxes x.text there ranges none x.source y.source x.listed y.listed x.given y.given is (subst (IsStage Run boxes (Some files')) made is'))
