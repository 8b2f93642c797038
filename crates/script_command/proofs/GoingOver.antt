-- The programs of a script, set up twice over modules of the same files, go over from a save to a continue.
use Rattle.std.proofs.Common.{◌≡◌, ℕ, zero, suc, List, [], ◌∷◌, map, Some, All, subst}
use Rattle.std.specs.Prelude.{slice_get}
use Rattle.std.specs.List.{AllZip}
use Rattle.std.proofs.lemmas.List.Elements.{All-nil, All-cons, All-head, All-tail}
use Rattle.vault_port.specs.Files.{Files}
use Rattle.wa_model.specs.Plan.{Outcome}
use Rattle.wa_model.specs.Untouched.{Untouched}
use Rattle.world_model.specs.World.{Original}
use Rattle.script_model.specs.Script.{ProgramText}
use Rattle.world_laws.specs.Originals.{MayRun, Orderly}
use Rattle.world_laws.proofs.Stories.{none_ignored}
use Rattle.joined_worlds.specs.JoinedOriginals.{AllGoOver, GoesOver}
use Rattle.world_hosting.specs.OriginalRuns.{IsRewritten, Source, original_for, originals_for}
use Rattle.world_hosting.specs.Worlds.{HasRanges, Part, world_program, world_programs}
use Rattle.world_hosting.proofs.Originals.{may_run}
use Rattle.script_command.specs.Playing.{IsStage}
use Rattle.script_command.specs.RunOriginals.{IsSource}
use Rattle.script_command.specs.declared.way.Way.TheVariants.{Run}
use Rattle.script_command.proofs.NoStrands.{HasNoStrand}
use Rattle.script_command.proofs.OneOriginal.{OfOneSource, one_source}
use Rattle.script_command.proofs.Runs.{SameImports}

goes_over : (files : Files) (x y : Part) (one : OfOneSource files x y) → GoesOver (original_for one.of x) (world_program x) (world_program y)
goes_over files x y one = record {
  which = one.emitted.which;
  can = one.emitted.can;
  free = one.emitted.free;
  saved = one.emitted.first;
  continued = one.emitted.second;
  first = one.first;
  second = one.second;
}

-- The programs' originals, for which those of both stand.
pub record GoOver (files : Files) (xs ys : List Part) : Type 0 where
  pub sources : List Source
  pub are_sources : AllZip (IsSource (Some files)) sources xs
  pub rewritten : AllZip IsRewritten sources xs
  pub over : AllGoOver (originals_for sources xs) (world_programs xs) (world_programs ys)
  pub names : AllZip SameImports sources ys

abbrev pub texts_of : List Part → List ProgramText
texts_of xs = map (λ (x : Part). x.text) xs

-- the second files hold a program's module as the first ones do
abbrev pub HasAlike : Files → Files → ProgramText → Type 0
HasAlike files files' t = files' t.path ≡ files t.path

pub go_over : (files files' : Files) (boxes : List (List ℕ)) (xs ys : List Part) → texts_of ys ≡ texts_of xs → All (HasAlike files files') (texts_of xs) → All HasRanges (texts_of xs) → All HasNoStrand (texts_of xs) → All (IsStage Run boxes (Some files)) xs
    → All (IsStage Run boxes (Some files')) ys → GoOver files xs ys
go_over files files' boxes [] [] same there ranges none st st' = record { sources = []; are_sources = tt; rewritten = tt; over = tt; names = tt }
go_over files files' boxes [] (y ∷ ys) same there ranges none st st' = cc
go_over files files' boxes (x ∷ xs) [] same there ranges none st st' = cc
go_over files files' boxes (x ∷ xs) (y ∷ ys) same there ranges none st st' =
    let head : y.text ≡ x.text = cc in
    let tail : texts_of ys ≡ texts_of xs = cc in
    let one =
    one_source files files' boxes x y head (All-head (HasAlike files files') x.text (texts_of xs) there) (All-head HasRanges x.text (texts_of xs) ranges)
    (All-head HasNoStrand x.text (texts_of xs) none)
    (All-head (IsStage Run boxes (Some files)) x xs st) (All-head (IsStage Run boxes (Some files')) y ys st') in
    let rest =
    go_over files files' boxes xs ys tail (All-tail (HasAlike files files') x.text (texts_of xs) there) (All-tail HasRanges x.text (texts_of xs) ranges)
    (All-tail HasNoStrand x.text (texts_of xs) none) (All-tail (IsStage Run boxes (Some files)) x xs st)
    (All-tail (IsStage Run boxes (Some files')) y ys st') in
    record {
      sources = one.of ∷ rest.sources;
      are_sources = (one.is_source, rest.are_sources);
      rewritten = (one.rewritten, rest.rewritten);
      over = (goes_over files x y one, rest.over);
      names = (one.names, rest.names);
    }

-- Originals that stay off their areas run orderly.
pub each_orderly : (xs : List Source) (ys : List Part) → AllZip IsRewritten xs ys → (i : ℕ) (o : Original) → slice_get (originals_for xs ys) i ≡ Some o → (os : List Outcome)
    → Untouched o.program.source o.program.plan os o.program.steps → Orderly o os
each_orderly [] ys h i o e os calm = cc
each_orderly (x ∷ xs) [] h i o e os calm = absurd h
each_orderly (x ∷ xs) (y ∷ ys) h zero o e os calm = by o (same (original_for x y) o e) calm
  where
    same : (o q : Original) → Some o ≡ Some q → o ≡ q
    same o q e = cc

    by : (q : Original) → original_for x y ≡ q → Untouched q.program.source q.program.plan os q.program.steps → Orderly q os
    by q is calm =
        subst (λ (o : Original). Untouched o.program.source o.program.plan os o.program.steps → Orderly o os) is
        (λ off. none_ignored (original_for x y) os h.0.which (may_run x y h.0) h.0.tells h.0.heeds off) calm
each_orderly (x ∷ xs) (y ∷ ys) h (suc i) o e os calm = each_orderly xs ys h.1 i o e os calm

pub all_may_run : (xs : List Source) (ys : List Part) → AllZip IsRewritten xs ys → All MayRun (originals_for xs ys)
all_may_run [] ys h = All-nil MayRun
all_may_run (x ∷ xs) [] h = absurd h
all_may_run (x ∷ xs) (y ∷ ys) h = All-cons MayRun (original_for x y) (originals_for xs ys) (may_run x y h.0) (all_may_run xs ys h.1)
