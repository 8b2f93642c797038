-- What is hosted of rewritten modules is told of their originals.
use Rattle.std.proofs.Common.{◌≡◌, ℕ, List, [], ◌∷◌, Option, None, Bool, All, refl, ap}
use Rattle.std.specs.List.{AllZip}
use Rattle.std.proofs.lemmas.List.Elements.{All-nil, All-cons, All-head, All-tail}
use Rattle.vault_port.specs.Files.{Files}
use Rattle.wa_types.specs.declared.syntax.Import.{Import}
use Rattle.wa_model.specs.Plan.{Plan}
use Rattle.world_laws.specs.Originals.{StandsIn}
use Rattle.script_command.specs.Playing.{IsStage, boxes_in}
use Rattle.script_command.specs.declared.way.Way.TheVariants.{Host}
use Rattle.world_hosting.specs.Worlds.{Part, world_program, world_programs}
use Rattle.world_laws.specs.UntoldWorlds.{MayRunUntold}
use Rattle.world_laws.proofs.Untold.{worlds_untold}
use Rattle.script_command.specs.HostedOriginals.{HostsAreOfOriginals, IsHosted, hosted_for, hosted_originals}
use Rattle.world_hosting.specs.OriginalRuns.{Source}
use Rattle.script_command.proofs.Runs.{SameImports, text_of_originals}

-- a hosted module tells no list
listed_none : (files : Option Files) (boxes : List (List ℕ)) (y : Part) → IsStage Host boxes files y → y.listed ≡ None
listed_none files boxes y stage = stage.module_is.3

stands_in : (x : Source) (y : Part) → y.listed ≡ None → IsHosted x y → StandsIn (hosted_for x y) (world_program y)
stands_in x y listed h =
    let o = hosted_for x y in
    let plan : Plan = o.program.plan in
    let planned : Option (List Bool) → Plan = λ l. record { globals = plan.globals; entries = plan.entries; area = plan.area; others = plan.others; listed = l } in
    let rw_of = h.rewrites in
    record {
      rewrites = rw_of;
      plan = ap planned listed;
      steps = refl;
      answers = refl;
      binds = ap (λ (imports : List Import). Rattle.script_setup.specs.Bindings.bound_imports imports y.text.binds) rw_of.parts.imports;
      looks = refl;
      start = refl;
      original_start = refl;
    }

pub all_stand_in : (files : Option Files) (boxes : List (List ℕ)) (xs : List Source) (ys : List Part) → All (IsStage Host boxes files) ys → AllZip IsHosted xs ys → AllZip StandsIn (hosted_originals xs ys) (world_programs ys)
all_stand_in files boxes [] [] st h = tt
all_stand_in files boxes [] (y ∷ ys) st h = absurd h
all_stand_in files boxes (x ∷ xs) [] st h = absurd h
all_stand_in files boxes (x ∷ xs) (y ∷ ys) st h =
    (stands_in x y (listed_none files boxes y (All-head (IsStage Host boxes files) y ys st)) h.0, all_stand_in files boxes xs ys (All-tail (IsStage Host boxes files) y ys st) h.1)

pub all_may_run : (xs : List Source) (ys : List Part) → AllZip IsHosted xs ys → All MayRunUntold (hosted_originals xs ys)
all_may_run [] ys h = All-nil MayRunUntold
all_may_run (x ∷ xs) [] h = absurd h
all_may_run (x ∷ xs) (y ∷ ys) h = let first = h.0 in All-cons MayRunUntold (hosted_for x y) (hosted_originals xs ys) first.may (all_may_run xs ys h.1)

pub same_imports : (xs : List Source) (ys : List Part) → AllZip IsHosted xs ys → AllZip SameImports xs ys
same_imports [] [] h = tt
same_imports [] (y ∷ ys) h = absurd h
same_imports (x ∷ xs) [] h = absurd h
same_imports (x ∷ xs) (y ∷ ys) h = let first = h.0 in (first.rewrites.parts.imports, same_imports xs ys h.1)

pub hosts_of_originals : HostsAreOfOriginals
hosts_of_originals files name play sources h old new text told orderly = (
  worlds_untold (hosted_originals sources play.parts) (world_programs play.parts) _ _ _ told.lines (all_stand_in files (boxes_in play.whole) sources play.parts play.stages.each h)
      (all_may_run sources play.parts h) told.world orderly,
  text_of_originals sources play.parts text told.lines (same_imports sources play.parts h) told.text_is,
)
