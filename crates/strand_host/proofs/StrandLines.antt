-- What a host of strands has told, as a beginning of a world's run.
use Rattle.std.proofs.Common.{arith, ◌≡◌, ℕ, List, ◌++◌, Option, Some, None, true, get_or, slice_get, refl, ap, ◌∙◌, subst, append_assoc}
use Rattle.std.specs.Prelude.{MatchOption}
use Rattle.std.specs.List.{AllZip}
use Rattle.std.specs.Option.{option_map}
use Rattle.std.proofs.lemmas.Option.{slice_get-get_or, slice_get-map, slice_get_within}
use Rattle.wa_model.specs.declared.answers.Detach.{Detach}
use Rattle.world_model.specs.World.{Device}
use Rattle.world_laws.proofs.Places.{item, zipped}
use Rattle.event_order.specs.Dues.{HaveEnded}
use Rattle.event_order.specs.Left.{Counted}
use Rattle.strand_laws.specs.StrandNotes.{OnStory}
use Rattle.strand_laws.specs.StrandWorld.{ProtocolStrandWorld, StrandLine, StrandsInWorld}
use Rattle.strand_laws.specs.ToldStrands.{HaveEnded as AllHaveEnded, ProgramTeller}
use Rattle.strand_laws.specs.Weaving.{HaveStrands}
use Rattle.strand_laws.proofs.BegunTurns.{begun_begin}
use Rattle.strand_laws.proofs.StrandNotes.{stories_of, told_begin}
use Rattle.strand_laws.proofs.ToldWorlds.{all_told_is_world}
use Rattle.strand_host.specs.declared.host.StrandHost.{StrandHost}
use Rattle.strand_host.specs.declared.program.StrandProgram.{StrandProgram}
use Rattle.strand_host.specs.declared.turn_taking.Stage.{Stage}
use Rattle.strand_host.specs.declared.turn_taking.Stage.TheVariants.{Between, Showing, Telling}
use Rattle.strand_host.specs.declared.turn_taking.StrandLine.{StrandLine as LineValue}
use Rattle.strand_host.specs.declared.turn_taking.StrandTurns.{StrandTurns}
use Rattle.strand_host.specs.StrandHosts.{StrandHostNext, ToldStrandLinesBegin, due_in, follows}
use Rattle.strand_host.specs.StrandPrograms.{memory_of}
use Rattle.strand_host.specs.StrandStanding.{AllStrandsTold, Hosted, StrandsStanding, TellsNextLine, hosted_of, shown_lines}
use Rattle.strand_host.specs.StrandTelling.{IsDueThen, IsToldSo}

over_then : (t : ProgramTeller) (o : Option ℕ) → IsDueThen t o → ((due : ℕ) → o ≡ Some due → ⊥) → t.has_ended ≡ true
over_then t None d never = d
over_then t (Some due) d never = absurd (never due refl)

module _ (gs : List StrandsInWorld) (detaches : List Detach) (ds : List Device) (lines : List StrandLine) (h : Hosted StrandProgram) (ds' : List Device) where
  abbrev Stands : Stage → Type 0
  Stands stage = StrandsStanding follows due_in memory_of gs detaches ds lines h ds' stage

  told_so : (stage : Stage) (s : Stands stage) (i : ℕ) (g : StrandsInWorld) (t : ProgramTeller) (x : StrandProgram) → slice_get gs i ≡ Some g → slice_get s.tellers i ≡ Some t
      → slice_get h.programs i ≡ Some x → IsToldSo g t (due_in x)
  told_so stage s i g t x eg et ex = (s.each i g t x eg et ex).follow.1

  -- what each program has told begins its story
  pub all_on : (stage : Stage) (s : Stands stage) → AllZip OnStory gs s.tellers
  all_on stage s = zipped OnStory gs s.tellers s.wide each where
    each : (i : ℕ) (g : StrandsInWorld) (t : ProgramTeller) → slice_get gs i ≡ Some g → slice_get s.tellers i ≡ Some t → OnStory g t
    each i g t eg et =
        let x = item h.programs i (omega (arith, slice_get_within gs i g eg, s.as_many)) in
        (told_so stage s i g t x.0 eg et x.1).story

  all_some : (stage : Stage) (s : Stands stage) → HaveStrands gs
  all_some stage s k d within =
      let g = get_or gs k d in
      let t = item s.tellers k (omega (arith, within, s.wide)) in
      let x = item h.programs k (omega (arith, within, s.as_many)) in
      (told_so stage s k g t.0 x.0 (slice_get-get_or gs k d within) t.1 x.1).some

  all_over : (stage : Stage) (s : Stands stage) → HaveEnded h.dues → AllHaveEnded s.tellers
  all_over stage s ended k d within =
      let t = get_or s.tellers k d in
      let g = item gs k (omega (arith, within, s.wide)) in
      let x = item h.programs k (omega (arith, within, s.wide, s.as_many)) in
      let so = told_so stage s k g.0 t x.0 g.1 (slice_get-get_or s.tellers k d within) x.1 in
      over_then t (due_in x.0) so.due_is (λ due e.
      ended k due (ap (λ (l : List (Option ℕ)). slice_get l k) s.dues ∙ slice_get-map due_in h.programs k ∙ ap (option_map due_in) x.1 ∙ ap (λ (o : Option ℕ). Some o) e))

  abbrev Begins : Type 0
  Begins = (more : List StrandLine) × (last : List Device) × ProtocolStrandWorld gs detaches ds (lines ++ more) last

  begins_at : (stage : Stage) → Stands stage → Begins
  begins_at Between s = told_begin gs detaches ds h.begun lines s.tellers ds' (all_some Between s) s.at (all_on Between s)
  begins_at (Telling turn) s =
      begun_begin gs detaches ds ds' s.at.0 turn.program s.at.1 turn.due lines s.tellers (all_some (Telling turn) s) s.at.3 (all_on (Telling turn) s)
  begins_at (Showing turn from) s =
      let looks = shown_lines turn.due turn.program (memory_of s.at.0) from h.shows in
      let run = told_begin gs detaches ds h.begun (lines ++ looks) s.tellers ds' (all_some (Showing turn from) s) s.at.2 (all_on (Showing turn from) s) in
      (looks ++ run.0, run.1, subst (λ (l : List StrandLine). ProtocolStrandWorld gs detaches ds l run.1) (append_assoc lines looks run.0) run.2)

  whole_at : (tellers : List ProgramTeller) (old new : List Counted) → AllStrandsTold follows due_in memory_of gs detaches ds lines tellers old new h ds'
      → ProtocolStrandWorld gs detaches ds lines ds' × (new ≡ old)
  whole_at tellers old new t =
      let s = t.stands in
      (all_told_is_world gs detaches ds h.begun lines s.tellers ds' (all_some Between s) s.at (stories_of gs s.tellers (all_on Between s)) (all_over Between s t.have_ended), t.kept)

pub told_lines_begin : ToldStrandLinesBegin
told_lines_begin gs detaches ds ds' lines h told = begins_at gs detaches ds lines (hosted_of h.turns) ds' h.turns.stage told

pub host_next : (gs : List StrandsInWorld) (detaches : List Detach) (ds : List Device) (lines : List StrandLine) (tellers : List ProgramTeller) (old left new : List Counted) (h : StrandHost)
    (ds' : List Device) (result : Option LineValue) → TellsNextLine follows due_in memory_of gs detaches ds lines tellers old left new h.turns ds' result
    → StrandHostNext gs detaches ds lines tellers old left new h ds' result
host_next gs detaches ds lines tellers old left new h ds' None t = whole_at gs detaches ds lines (hosted_of h.turns) ds' tellers old new t
host_next gs detaches ds lines tellers old left new h ds' (Some line) t = t

-- where there is no line, the host is as it was
pub same_host : (now before : StrandTurns StrandProgram) (result : Option LineValue) → MatchOption result (now ≡ before) (λ l. Unit {0})
    → MatchOption result (◌≡◌ {A = StrandHost} (record { turns = now }) (record { turns = before })) (λ l. Unit {0})
same_host now before None same = λ k. record { turns = same k }
same_host now before (Some line) same = tt
