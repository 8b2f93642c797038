-- What is run are rewritten originals, and what is printed tells a run of them (`runs_of_originals`).
use Rattle.std.proofs.Common.{◌≡◌, ℕ, suc, List, [], ◌∷◌, length, map, Option, Some, None, Bool, false, All, refl, sym, ap, ◌∙◌, subst}
use Rattle.std.specs.List.{AllZip, filter_map}
use Rattle.std.specs.Option.{option_map}
use Rattle.std.proofs.lemmas.List.Elements.{All-head, All-tail}
use Rattle.vault_port.specs.Files.{Files}
use Rattle.wa_types.specs.declared.syntax.Import.{Import}
use Rattle.wa_types.specs.Modules.{imported_func}
use Rattle.wa_types.specs.Pausing.{Choice, Policy, joined_name, Settings}
use Rattle.script_model.specs.Command.{choice_said}
use Rattle.wa_model.specs.Outside.{Line}
use Rattle.world_model.specs.World.{name_if}
use Rattle.script_model.specs.Script.{EntryText, ProgramText, strand_line}
use Rattle.script_model.specs.Transcript.{Names, Transcript}
use Rattle.script_setup.specs.SetUpRules.{program_names}
use Rattle.script_command.specs.Playing.{IsStage, Play, boxes_in, policy_for}
use Rattle.script_command.specs.declared.way.Way.{Way}
use Rattle.script_command.specs.declared.way.Way.TheVariants.{Run}
use Rattle.world_hosting.specs.Worlds.{HasRanges, Part, part_names, turn_count}
use Rattle.world_hosting.proofs.ScriptPrograms.{scripts_are_in_range}
use Rattle.world_hosting.specs.OriginalRuns.{IsRewritten, Source}
use Rattle.world_hosting.proofs.Originals.{told_of_originals}
use Rattle.script_command.specs.RunOriginals.{IsSource, RunsAreOfOriginals, original_names}
use Rattle.script_command.proofs.NoStrands.{HasNoStrand, no_strands}

-- ---- the script

abbrev texts_of : List Part → List ProgramText
texts_of ys = map (λ (y : Part). y.text) ys

pub in_range : (files : Option Files) (name : List ℕ) (play : Play Run files name) → All HasRanges (texts_of play.parts)
in_range files name play =
    let h = play.of_script in
    subst (All HasRanges) (sym play.stages.texts_are) (scripts_are_in_range h.bytes play.whole h.script.text)

pub have_no_strand : (way : Way) (files : Option Files) (name : List ℕ) (play : Play way files name) → strand_line play.whole ≡ None → All HasNoStrand (texts_of play.parts)
have_no_strand way files name play none = subst (All HasNoStrand) (sym play.stages.texts_are) (no_strands play.whole none)

-- ---- one program

pub heeds : (policy : Policy) (o : Option Choice) (s : Settings) → option_map (λ (c : Choice). record { choice = c; ignore_indirect = false; policy = policy }) o ≡ Some s → s.ignore_indirect ≡ false
heeds policy None s e = cc
heeds policy (Some c) s e =
    let of : Settings = record { choice = c; ignore_indirect = false; policy = policy } in
    let same : of ≡ s = cc in
    sym (ap (λ (x : Settings). x.ignore_indirect) same)

-- its original
pub record HasSource (files : Option Files) (y : Part) : Type 0 where
  pub of : Source
  pub is_source : IsSource files of y
  pub rewritten : IsRewritten of y

source_of : (files : Option Files) (boxes : List (List ℕ)) (y : Part) → IsStage Run boxes files y → HasRanges y.text → HasNoStrand y.text → HasSource files y
source_of files boxes y stage ranges none =
    let settings = stage.module_is.3.0 in
    let runs = stage.module_is.3.2 in
    record {
      of = record { original = runs.source; settings = settings };
      is_source = record { bytes = stage.module_is.0; holds = stage.module_is.2; source = runs.rewritable.accepted; settings_are = stage.module_is.3.1 };
      rewritten = record {
        rewrites = runs.rewrites;
        well_formed = runs.well_formed;
        which = runs.which;
        tells = runs.rewritable.tells;
        heeds = heeds (policy_for y.text.policy_live) (choice_said y.text.list y.text.ignore_imports) settings stage.module_is.3.1;
        listed = stage.module_is.4 ∙ ap (λ (l : List Bool). Some l) runs.listed_is;
        ranges = ranges;
        boxes = boxes;
        set_up = stage.set_up;
        alone = none;
      };
    }

-- ---- all of them

pub record HaveSources (files : Option Files) (ys : List Part) : Type 0 where
  pub sources : List Source
  pub are_sources : AllZip (IsSource files) sources ys
  pub rewritten : AllZip IsRewritten sources ys

pub sources_of : (files : Option Files) (boxes : List (List ℕ)) (ys : List Part) → All (IsStage Run boxes files) ys → All HasRanges (texts_of ys) → All HasNoStrand (texts_of ys)
    → HaveSources files ys
sources_of files boxes [] stages ranges none = record { sources = []; are_sources = tt; rewritten = tt }
sources_of files boxes (y ∷ ys) stages ranges none =
    let first = source_of files boxes y (All-head (IsStage Run boxes files) y ys stages) (All-head HasRanges y.text (texts_of ys) ranges)
    (All-head HasNoStrand y.text (texts_of ys) none) in
    let rest = sources_of files boxes ys (All-tail (IsStage Run boxes files) y ys stages) (All-tail HasRanges y.text (texts_of ys) ranges)
    (All-tail HasNoStrand y.text (texts_of ys) none) in
    record { sources = first.of ∷ rest.sources; are_sources = (first.is_source, rest.are_sources); rewritten = (first.rewritten, rest.rewritten) }

-- ---- names

abbrev pub imports_over : List Import → List (List ℕ)
imports_over is = filter_map (λ (i : Import). name_if (joined_name i) (imported_func i.kind)) is

abbrev pub names_over : ProgramText → List Import → Names
names_over t is = record {
  imports = imports_over is;
  entries = map (λ (e : EntryText). e.name) t.entries;
  len = t.area.len;
}

-- each program's module has its original's imports
abbrev pub SameImports : Source → Part → Type 0
SameImports x y = y.source.imports ≡ x.original.imports

pub same_names : (xs : List Source) (ys : List Part) → AllZip SameImports xs ys → map part_names ys ≡ original_names xs ys
same_names [] [] h = refl
same_names [] (y ∷ ys) h = absurd h
same_names (x ∷ xs) [] h = absurd h
same_names (x ∷ xs) (y ∷ ys) h =
    let one : part_names y ≡ program_names x.original y.text = ap (names_over y.text) h.0 in
    ap (λ (n : Names). n ∷ map part_names ys) one ∙ ap (λ (ns : List Names). program_names x.original y.text ∷ ns) (same_names xs ys h.1)

pub as_many : (xs : List Source) (ys : List Part) → AllZip SameImports xs ys → length ys ≡ length xs
as_many [] [] h = refl
as_many [] (y ∷ ys) h = absurd h
as_many (x ∷ xs) [] h = absurd h
as_many (x ∷ xs) (y ∷ ys) h = ap suc (as_many xs ys h.1)

pub same_imports : (xs : List Source) (ys : List Part) → AllZip IsRewritten xs ys → AllZip SameImports xs ys
same_imports [] [] h = tt
same_imports [] (y ∷ ys) h = absurd h
same_imports (x ∷ xs) [] h = absurd h
same_imports (x ∷ xs) (y ∷ ys) h = (h.0.rewrites.parts.imports, same_imports xs ys h.1)

-- a text of these programs that counts so many events, by the names of their originals
pub text_by_originals : (xs : List Source) (ys : List Part) (text : List ℕ) (events : ℕ) (lines : List Line) → AllZip SameImports xs ys
    → text ≡ Transcript (map part_names ys) (length ys) events lines → text ≡ Transcript (original_names xs ys) (length xs) events lines
text_by_originals xs ys text events lines same is =
    is ∙ ap (λ (ns : List Names). Transcript ns (length ys) events lines) (same_names xs ys same)
    ∙ ap (λ (n : ℕ). Transcript (original_names xs ys) n events lines) (as_many xs ys same)

-- the same where they are its turns
pub text_of_originals : (xs : List Source) (ys : List Part) (text : List ℕ) (lines : List Line) → AllZip SameImports xs ys
    → text ≡ Transcript (map part_names ys) (length ys) (turn_count lines) lines → text ≡ Transcript (original_names xs ys) (length xs) (turn_count lines) lines
text_of_originals xs ys text lines same is = text_by_originals xs ys text (turn_count lines) lines same is

pub runs_of_originals : RunsAreOfOriginals
runs_of_originals files name play none =
    let have = sources_of files (boxes_in play.whole) play.parts play.stages.each (in_range files name play) (have_no_strand Run files name play none) in (
      have.sources,
      have.are_sources,
      λ old new text told calm. (
        told_of_originals have.sources play.parts _ _ _ told.lines have.rewritten told.world calm,
        text_of_originals have.sources play.parts text told.lines (same_imports have.sources play.parts have.rewritten) told.text_is,
      ),
    )
