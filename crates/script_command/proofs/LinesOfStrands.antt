-- Each line that is told is one of a strand that its program has.
use Rattle.std.proofs.Common.{arith, ◌≡◌, ◌<◌, ℕ, zero, suc, List, [], ◌∷◌, ◌++◌, length, map, Some, sym, ap, ◌∙◌, subst}
use Rattle.std.specs.Prelude.{slice_get}
use Rattle.std.specs.Global.{Vec}
use Rattle.std.proofs.lemmas.List.{length-map}
use Rattle.std.proofs.lemmas.Option.{slice_get_within}
use Rattle.run_theory.specs.Growth.{Each}
use Rattle.wa_model.specs.declared.answers.Detach.{Detach}
use Rattle.wa_model.specs.Outside.{Event, answered, called, ended, parked, paused, returned, shown}
use Rattle.wa_model.specs.Blocking.{events_of}
use Rattle.world_model.specs.World.{Device, events_with_looks}
use Rattle.world_laws.proofs.Places.{all_at, map_at, of_map}
use Rattle.script_model.specs.Transcript as T
use Rattle.transcript.specs.declared.events.Names.{Names}
use Rattle.transcript.specs.Printing.{names_of}
use Rattle.strand_laws.specs.StrandNotes.{TellsOnStrands}
use Rattle.strand_laws.specs.StrandWorld.{StrandLine, StrandsInWorld, looks_if}
use Rattle.strand_laws.specs.ToldStrands.{ProgramTeller, StrandTeller, TellsStrandTurn, TellsStrands, line_of}
use Rattle.strand_laws.proofs.ToldStrands.{zip_get}
use Rattle.strand_laws.proofs.ToldWorlds.{wide_told}
use Rattle.strand_host.specs.declared.turn_taking.Stage.{Stage}
use Rattle.strand_host.specs.declared.turn_taking.Stage.TheVariants.{Between, Showing, Telling}
use Rattle.strand_host.specs.declared.host.StrandHost.{StrandHost}
use Rattle.strand_host.specs.StrandHosts.{StrandHostTold}
use Rattle.strand_host.specs.StrandPrograms.{memory_of}
use Rattle.strand_host.specs.StrandStanding.{StrandsStandAt, hosted_of, shown_lines}
use Rattle.script_command.specs.StrandParts.{BeginsStrands, HasNames, NamesEach, names_in}
use Rattle.script_command.specs.StrandWorldsTold.{NamedStrands, strand_worlds}

-- ---- lists

module _ {X : Type 0} (P : X → Type 0) where
  each_both : (xs ys : List X) → Each P xs → Each P ys → Each P (xs ++ ys)
  each_both [] ys h k = k
  each_both (x ∷ xs) ys h k = (h.0, each_both xs ys h.1 k)

  each_first : (xs ys : List X) → Each P (xs ++ ys) → Each P xs
  each_first [] ys h = tt
  each_first (x ∷ xs) ys h = (h.0, each_first xs ys h.1)

  each_last : (xs : List X) (x : X) → Each P (xs ++ x ∷ []) → P x
  each_last [] x h = h.0
  each_last (y ∷ xs) x h = each_last xs x h.1

-- ---- lines

-- The line is of a strand that its program has.
pub record IsOfStrand (gs : List StrandsInWorld) (l : StrandLine) : Type 0 where
  pub g : StrandsInWorld
  pub program : slice_get gs l.program ≡ Some g
  pub strand : l.strand < length g.program.strands

module _ (gs : List StrandsInWorld) (due p k : ℕ) (g : StrandsInWorld) (program : slice_get gs p ≡ Some g) (strand : k < length g.program.strands) where
  one_of : (e : Event) → IsOfStrand gs (line_of due p k e)
  one_of (called c) = record { g = g; program = program; strand = strand }
  one_of (answered c) = record { g = g; program = program; strand = strand }
  one_of (paused c d) = record { g = g; program = program; strand = strand }
  one_of (parked c) = record { g = g; program = program; strand = strand }
  one_of (returned c d) = record { g = g; program = program; strand = strand }
  one_of (ended how) = record { g = g; program = program; strand = strand }
  one_of (shown c d) = record { g = g; program = program; strand = omega (arith, strand) }

  all_of : (es : List Event) → Each (IsOfStrand gs) (map (line_of due p k) es)
  all_of [] = tt
  all_of (e ∷ es) = (one_of e, all_of es)

-- a strand that a program's teller knows
known_strand : (gs : List StrandsInWorld) (detaches : List Detach) (ds : List Device) (count : ℕ) (lines : List StrandLine) (tellers : List ProgramTeller) (ds' : List Device)
    → TellsStrands gs detaches ds count lines tellers ds' → (p k : ℕ) (g : StrandsInWorld) (t : ProgramTeller) (s : StrandTeller) → slice_get gs p ≡ Some g → slice_get tellers p ≡ Some t
    → slice_get t.strands k ≡ Some s → k < length g.program.strands
known_strand gs detaches ds count lines tellers ds' h p k g t s eg et es =
    let wide = zip_get (λ (g : StrandsInWorld) (t : ProgramTeller). length t.strands ≡ length g.program.strands) gs tellers p g t (wide_told gs detaches ds count lines tellers ds' h) eg et in
    omega (arith, slice_get_within t.strands k s es, wide)

-- so are all lines of whole turns
all_told : (gs : List StrandsInWorld) (detaches : List Detach) (ds : List Device) (count : ℕ) (lines : List StrandLine) (tellers : List ProgramTeller) (ds' : List Device)
    → TellsStrands gs detaches ds count lines tellers ds' → Each (IsOfStrand gs) lines
all_told gs detaches ds zero lines tellers ds' h = subst (Each (IsOfStrand gs)) (sym h.0) tt
all_told gs detaches ds (suc count) lines tellers ds' h =
    let x : TellsStrandTurn gs detaches (suc count) h.2 h.3 h.1 tellers ds' = h.5 in
    let strand = known_strand gs detaches ds count h.0 h.2 h.3 h.4 x.program x.strand x.g x.t x.s x.is_program x.there x.strand_there in
    subst (Each (IsOfStrand gs)) (sym h.6)
    (each_both (IsOfStrand gs) h.0 h.1 (all_told gs detaches ds count h.0 h.2 h.3 h.4)
    (subst (Each (IsOfStrand gs)) (sym x.made) (all_of gs x.s.due x.program x.strand x.g x.is_program strand (events_with_looks (looks_if x.is_last x.g.looks) x.turn))))

-- and of a turn on its way
all_on : (gs : List StrandsInWorld) (detaches : List Detach) (ds : List Device) (number p k due : ℕ) (lines : List StrandLine) (tellers : List ProgramTeller) (ds' : List Device)
    → TellsOnStrands gs detaches ds number p k due lines tellers ds' → Each (IsOfStrand gs) lines
all_on gs detaches ds number p k due lines tellers ds' on =
    let strand = known_strand gs detaches ds number on.before on.mid on.es on.whole p k on.g on.t on.s on.is_program on.there on.strand_there in
    subst (Each (IsOfStrand gs)) (sym on.made)
    (each_both (IsOfStrand gs) on.before (map (line_of due p k) (events_of on.turn)) (all_told gs detaches ds number on.before on.mid on.es on.whole)
    (all_of gs due p k on.g on.is_program strand (events_of on.turn)))

-- the last line of a host
pub last_of_strand : (gs : List StrandsInWorld) (detaches : List Detach) (ds : List Device) (lines : List StrandLine) (l : StrandLine) (h : StrandHost) (ds' : List Device)
    → StrandHostTold gs detaches ds (lines ++ l ∷ []) h ds' → IsOfStrand gs l
last_of_strand gs detaches ds lines l h ds' told = by h.turns.stage told.at
  where
    by : (stage : Stage) → StrandsStandAt memory_of gs detaches ds (lines ++ l ∷ []) told.tellers (hosted_of h.turns) ds' stage → IsOfStrand gs l
    by Between at = each_last (IsOfStrand gs) lines l (all_told gs detaches ds h.turns.begun (lines ++ l ∷ []) told.tellers ds' at)
    by (Telling turn) at = each_last (IsOfStrand gs) lines l (all_on gs detaches ds at.0 turn.program at.1 turn.due (lines ++ l ∷ []) told.tellers ds' at.3)
    by (Showing turn from) at =
        let shows = shown_lines turn.due turn.program (memory_of at.0) from h.turns.shows.items in
        each_last (IsOfStrand gs) lines l
        (each_first (IsOfStrand gs) (lines ++ l ∷ []) shows (all_told gs detaches ds h.turns.begun ((lines ++ l ∷ []) ++ shows) told.tellers ds' at.2))

-- ---- names

-- it has names
pub line_named : (programs : List NamedStrands) (detaches : List Detach) (h : StrandHost) (names : List (Vec Names)) → BeginsStrands programs detaches h names → (l : StrandLine)
    → IsOfStrand (strand_worlds programs) l → HasNames names l.program l.strand
line_named programs detaches h names b l of =
    let x = of_map (λ (x : NamedStrands). x.world) programs l.program of.g of.program in
    let there : slice_get (map names_in names) l.program ≡ Some x.0.names =
    ap (λ (ns : List (List T.Names)). slice_get ns l.program) b.names_are ∙ map_at (λ (x : NamedStrands). x.names) programs l.program x.0 x.1 in
    let own = of_map names_in names l.program x.0.names there in
    let each : length x.0.names ≡ length x.0.world.program.strands = all_at NamesEach programs l.program x.0 b.named x.1 in
    let world = ap (λ (g : StrandsInWorld). length g.program.strands) x.2 in
    let long = ap length own.2 in
    let many = length-map own.0.items names_of in
    let strand = of.strand in
    (own.0, own.1, omega (arith, each, world, long, many, strand))
