-- What is told of a script with strands is of the originals of what is played.
use Rattle.std.proofs.Common.{◌≡◌, ℕ, suc, List, [], ◌∷◌, length, map, Option, Some, Bool, All, refl, sym, ap, ◌∙◌, subst}
use Rattle.std.specs.List.{AllZip}
use Rattle.std.proofs.lemmas.List.Elements.{All-head, All-tail}
use Rattle.vault_port.specs.Files.{Files}
use Rattle.wa_types.specs.declared.syntax.Import.{Import}
use Rattle.wa_model.specs.declared.answers.Detach.{Detach}
use Rattle.world_model.specs.World.{Device}
use Rattle.script_model.specs.Command.{choice_said}
use Rattle.script_model.specs.Script.{EntryText, ProgramText, StrandText}
use Rattle.script_model.specs.Transcript.{Names}
use Rattle.event_order.specs.Left.{Counted}
use Rattle.transform_command.proofs.OneOriginal.{one_original}
use Rattle.strand_laws.specs.StrandWorld.{BlockingStrandWorld, ProtocolStrandWorld, StrandLine, StrandsInWorld}
use Rattle.script_command.specs.StrandCounts.{strand_turn_count}
use Rattle.script_command.specs.StrandTranscripts.{StrandTranscript}
use Rattle.script_command.specs.StrandWorldsTold.{all_strand_names, strand_worlds}
use Rattle.world_hosting.specs.OriginalRuns.{Source}
use Rattle.world_hosting.specs.Worlds.{HasRanges, Part}
use Rattle.script_command.specs.declared.way.Way.{Way}
use Rattle.script_command.specs.declared.way.Way.TheVariants.{Host, Run}
use Rattle.script_command.specs.Playing.{IsStage, Play, boxes_in, detaches_in, policy_for}
use Rattle.script_command.specs.RunOriginals.{IsSource}
use Rattle.script_command.specs.StrandOriginals.{IsStrandsRewritten, StrandsStayOff, strand_originals_for}
use Rattle.script_command.specs.StrandTold.{IsStrandToldOf, IsStrandTranscript, OfStrandOriginals, RunsStrandOriginals, named_strands, original_strand_names, strands_played}
use Rattle.script_command.specs.StrandWorlds.{part_strands, strand_names_in, strand_names_of}
use Rattle.script_command.proofs.Runs.{SameImports, as_many, heeds, imports_over, in_range, names_over}
use Rattle.script_command.proofs.StrandFaults.{strand_faults}
use Rattle.script_command.proofs.StrandLogs.{strands_logged}
use Rattle.script_command.proofs.StrandOriginals.{strands_of_originals}

-- ---- originals

abbrev texts_of : List Part → List ProgramText
texts_of ys = map (λ (y : Part). y.text) ys

-- the original of a program with strands
record HasStrandSource (files : Option Files) (y : Part) : Type 0 where
  of : Source
  is_source : IsSource files of y
  rewritten : IsStrandsRewritten of y

strand_source_of : (files : Option Files) (boxes : List (List ℕ)) (y : Part) → IsStage Run boxes files y → HasRanges y.text → HasStrandSource files y
strand_source_of files boxes y stage ranges =
    let settings = stage.module_is.3.0 in
    let runs = stage.module_is.3.2 in
    let one = one_original runs runs in
    record {
      of = record { original = runs.source; settings = settings };
      is_source = record { bytes = stage.module_is.0; holds = stage.module_is.2; source = runs.rewritable.accepted; settings_are = stage.module_is.3.1 };
      rewritten = record {
        rewrites = runs.rewrites;
        well_formed = runs.well_formed;
        which = one.emitted.which;
        can = one.emitted.can;
        free = one.emitted.free;
        emitted = one.emitted.first;
        heeds = heeds (policy_for y.text.policy_live) (choice_said y.text.list y.text.ignore_imports) settings stage.module_is.3.1;
        listed = stage.module_is.4 ∙ ap (λ (l : List Bool). Some l) runs.listed_is;
        ranges = ranges;
        boxes = boxes;
        set_up = stage.set_up;
      };
    }

record HaveStrandSources (files : Option Files) (ys : List Part) : Type 0 where
  sources : List Source
  are_sources : AllZip (IsSource files) sources ys
  rewritten : AllZip IsStrandsRewritten sources ys

strand_sources_of : (files : Option Files) (boxes : List (List ℕ)) (ys : List Part) → All (IsStage Run boxes files) ys → All HasRanges (texts_of ys) → HaveStrandSources files ys
strand_sources_of files boxes [] stages ranges = record { sources = []; are_sources = tt; rewritten = tt }
strand_sources_of files boxes (y ∷ ys) stages ranges =
    let first = strand_source_of files boxes y (All-head (IsStage Run boxes files) y ys stages) (All-head HasRanges y.text (texts_of ys) ranges) in
    let rest = strand_sources_of files boxes ys (All-tail (IsStage Run boxes files) y ys stages) (All-tail HasRanges y.text (texts_of ys) ranges) in
    record { sources = first.of ∷ rest.sources; are_sources = (first.is_source, rest.are_sources); rewritten = (first.rewritten, rest.rewritten) }

-- ---- the world

worlds_of : (ys : List Part) → strand_worlds (map named_strands ys) ≡ map part_strands ys
worlds_of [] = refl
worlds_of (y ∷ ys) = ap (λ (gs : List StrandsInWorld). part_strands y ∷ gs) (worlds_of ys)

-- the lines of a run of the originals' world
told_of : (xs : List Source) (ys : List Part) (detaches : List Detach) (ds ds' : List Device) (lines : List StrandLine) → AllZip IsStrandsRewritten xs ys
    → (world : ProtocolStrandWorld (strand_worlds (map named_strands ys)) detaches ds lines ds') → AllZip StrandsStayOff (strand_originals_for xs ys) world.staged
    → BlockingStrandWorld (strand_originals_for xs ys) detaches ds lines ds'
told_of xs ys detaches ds ds' lines rewritten =
    subst (λ (gs : List StrandsInWorld). (world : ProtocolStrandWorld gs detaches ds lines ds') → AllZip StrandsStayOff (strand_originals_for xs ys) world.staged
    → BlockingStrandWorld (strand_originals_for xs ys) detaches ds lines ds') (sym (worlds_of ys)) (λ world calm. strands_of_originals xs ys detaches ds ds' lines rewritten world calm)

-- ---- names

strand_imports : (xs : List Source) (ys : List Part) → AllZip IsStrandsRewritten xs ys → AllZip SameImports xs ys
strand_imports [] [] h = tt
strand_imports [] (y ∷ ys) h = absurd h
strand_imports (x ∷ xs) [] h = absurd h
strand_imports (x ∷ xs) (y ∷ ys) h = (h.0.rewrites.parts.imports, strand_imports xs ys h.1)

-- the names of strands, by the imports
abbrev strands_over : List StrandText → List Import → List Names
strands_over ss is = map (λ (s : StrandText). record { imports = imports_over is; entries = map (λ (e : EntryText). e.name) s.entries; len = s.area.len }) ss

same_strand_names : (xs : List Source) (ys : List Part) → AllZip SameImports xs ys → all_strand_names (map named_strands ys) ≡ original_strand_names xs ys
same_strand_names [] [] h = refl
same_strand_names [] (y ∷ ys) h = absurd h
same_strand_names (x ∷ xs) [] h = absurd h
same_strand_names (x ∷ xs) (y ∷ ys) h =
    let one : strand_names_in y ≡ strand_names_of x.original y.text = ap (λ (is : List Import). names_over y.text is ∷ strands_over y.text.strands is) h.0 in
    ap (λ (ns : List Names). ns ∷ all_strand_names (map named_strands ys)) one
    ∙ ap (λ (nss : List (List Names)). strand_names_of x.original y.text ∷ nss) (same_strand_names xs ys h.1)

named_long : (ys : List Part) → length (map named_strands ys) ≡ length ys
named_long [] = refl
named_long (y ∷ ys) = ap suc (named_long ys)

-- the text by the names of the originals
strand_text : (xs : List Source) (ys : List Part) (text : List ℕ) (events : ℕ) (lines : List StrandLine) → AllZip SameImports xs ys
    → text ≡ StrandTranscript (all_strand_names (map named_strands ys)) (length (map named_strands ys)) events lines → text ≡ StrandTranscript (original_strand_names xs ys) (length xs) events lines
strand_text xs ys text events lines same is =
    is ∙ ap (λ (ns : List (List Names)). StrandTranscript ns (length (map named_strands ys)) events lines) (same_strand_names xs ys same)
    ∙ ap (λ (n : ℕ). StrandTranscript (original_strand_names xs ys) n events lines) (named_long ys ∙ as_many xs ys same)

-- ---- what is played

runs_originals : (files : Option Files) (name : List ℕ) (play : Play Run files name) (old new : List Counted) (text : List ℕ) (told : IsStrandTranscript play old new text)
    → RunsStrandOriginals files name play old new text told
runs_originals files name play old new text told =
    let have = strand_sources_of files (boxes_in play.whole) play.parts play.stages.each (in_range files name play) in
    record {
      sources = have.sources;
      are_sources = have.are_sources;
      world = λ calm. (
        told_of have.sources play.parts _ _ _ told.lines have.rewritten told.world calm,
        strand_text have.sources play.parts text (strand_turn_count told.lines) told.lines (strand_imports have.sources play.parts have.rewritten) told.text_is,
      );
    }

of_originals : (way : Way) (files : Option Files) (name : List ℕ) (play : Play way files name) (old new : List Counted) (text : List ℕ) (told : IsStrandTranscript play old new text)
    → OfStrandOriginals way files name play old new text told
of_originals Run files name play old new text told = runs_originals files name play old new text told
of_originals Host files name play old new text told = tt

pub strand_told_of : (way : Way) (files : Option Files) (name : List ℕ) (play : Play way files name) (old new : List Counted) (text : List ℕ) → IsStrandTranscript play old new text
    → IsStrandToldOf play old new text
strand_told_of way files name play old new text told = record {
  told = told;
  originals = of_originals way files name play old new text told;
  logs = strands_logged (strand_worlds (strands_played play)) (detaches_in play.whole) told.lines told.met old new told.took;
  faults = strand_faults (strand_worlds (strands_played play)) (detaches_in play.whole) told.lines told.met old new told.world told.took;
}
