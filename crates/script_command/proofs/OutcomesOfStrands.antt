-- The outcomes that lines of strands tell are the first that the calls of a world's strands meet.
use Rattle.std.proofs.Common.{arith, ◌≡◌, ℕ, zero, suc, List, [], ◌∷◌, ◌++◌, length, map, Option, Some, None, true, false, get_or, refl, sym, ap, ◌∙◌, subst, append_assoc, append-nil}
use Rattle.std.specs.Prelude.{if◌then◌else◌, nat_eq, slice_get}
use Rattle.std.specs.List.{AllZip}
use Rattle.std.specs.Option.{option_map}
use Rattle.std.proofs.lemmas.Option.{same_Some, slice_get-get_or, slice_get-map, slice_get_within}
use Rattle.wa_model.specs.declared.answers.Detach.{Detach}
use Rattle.wa_model.specs.Plan.{Outcome}
use Rattle.wa_model.specs.Behaves.{IsPrefix}
use Rattle.world_model.specs.World.{Device, Look}
use Rattle.world_laws.proofs.Places.{item, zip_at, zip_back}
use Rattle.event_order.specs.Dues.{HaveEnded}
use Rattle.many_host.specs.Standing.{looks_at}
use Rattle.strand_laws.specs.StrandNotes.{TellsOnStrands}
use Rattle.strand_laws.specs.StrandWorld.{HeldStrands, ProtocolStrandWorld, Staged, StartsStrands, StrandLine, StrandsInWorld, strand_actors}
use Rattle.strand_laws.specs.Strands.{Strand}
use Rattle.strand_laws.specs.ToldStrands.{ProgramTeller, StrandTeller, TellsStrands, having_told, line_of, starting, starting_strands, told_on}
use Rattle.strand_laws.specs.ToldStrands as L
use Rattle.strand_laws.specs.Weaving.{HaveStrands}
use Rattle.strand_laws.specs.Woven.{Told}
use Rattle.strand_laws.proofs.BegunTurns.{begun_begin_met}
use Rattle.strand_laws.proofs.Blocks.{set_length}
use Rattle.strand_laws.proofs.StrandNotes.{stories_of}
use Rattle.strand_laws.proofs.ToldGoesOn.{told_goes_on_met}
use Rattle.strand_laws.proofs.ToldStrands.{zip_get, zip_set}
use Rattle.strand_laws.proofs.ToldWorlds.{HaveMet, all_told_met, wide_told}
use Rattle.strand_host.specs.declared.host.StrandHost.{StrandHost}
use Rattle.strand_host.specs.declared.program.StrandProgram.{StrandProgram}
use Rattle.strand_host.specs.declared.turn_taking.Stage.{Stage}
use Rattle.strand_host.specs.declared.turn_taking.Stage.TheVariants.{Between, Showing, Telling}
use Rattle.strand_host.specs.StrandHosts.{StrandHostTold, due_in}
use Rattle.strand_host.specs.StrandPrograms.{memory_of}
use Rattle.strand_host.specs.StrandStanding.{AreLooksOut, StrandsMeetMore, StrandsStandAt, hosted_of, shown_lines}
use Rattle.strand_host.specs.StrandTelling.{IsDueThen, IsToldSo}
use Rattle.strand_host.proofs.StrandLines.{all_on}
use Rattle.script_command.specs.StrandCounts.{AreStrandsMet, strand_met_by}

-- ---- one line more

-- what the calls of strands met is what the lines tell
abbrev pub StrandsMetBy : List StrandLine → (met : List (List Outcome)) → List ProgramTeller → Type 0
StrandsMetBy lines met tellers =
    (p k : ℕ) (t : ProgramTeller) (s : StrandTeller) → slice_get tellers p ≡ Some t → slice_get t.strands k ≡ Some s → s.met ≡ strand_met_by p k lines met

-- the outcomes that a line tells, where it is the strand's
abbrev own_met : (p k : ℕ) → StrandLine → List Outcome → List Outcome
own_met p k l os = if nat_eq p l.program then (if nat_eq k l.strand then os else []) else []

met_more : (p k : ℕ) (lines : List StrandLine) (met : List (List Outcome)) (l : StrandLine) (os : List Outcome) → length met ≡ length lines
    → strand_met_by p k (lines ++ l ∷ []) (met ++ os ∷ []) ≡ strand_met_by p k lines met ++ own_met p k l os
met_more p k [] [] l os long = append-nil (own_met p k l os)
met_more p k (x ∷ lines) (ms ∷ met) l os long =
    ap (λ (us : List Outcome). own_met p k x ms ++ us) (met_more p k lines met l os (omega (arith, long))) ∙ sym (append_assoc (own_met p k x ms) (strand_met_by p k lines met) (own_met p k l os))
met_more p k [] (ms ∷ met) l os long = absurd (omega (arith, long))
met_more p k (x ∷ lines) [] l os long = absurd (omega (arith, long))

-- each program has a teller of each strand
abbrev pub AllWide : List StrandsInWorld → List ProgramTeller → Type 0
AllWide gs tellers = AllZip (λ (g : StrandsInWorld) (t : ProgramTeller). length t.strands ≡ length g.program.strands) gs tellers

pub met_on : (gs : List StrandsInWorld) (lines : List StrandLine) (met : List (List Outcome)) (l : StrandLine) (os : List Outcome) (tellers tellers' : List ProgramTeller) → length met ≡ length lines
    → AllWide gs tellers → AllWide gs tellers' → StrandsMetBy lines met tellers → StrandsMeetMore l.program l.strand os tellers tellers' → StrandsMetBy (lines ++ l ∷ []) (met ++ os ∷ []) tellers'
met_on gs lines met l os tellers tellers' long wide wide' known more p k t' s' et' es' =
    let g = zip_back (λ (g : StrandsInWorld) (t : ProgramTeller). length t.strands ≡ length g.program.strands) gs tellers' wide' p t' et' in
    let t = zip_at_teller p g.0 g.1 in
    let a = g.2 in
    let b = t.2 in
    let s = item t.0.strands k (omega (arith, slice_get_within t'.strands k s' es', a, b)) in
    more p k t.0 t' s.0 s' t.1 et' s.1 es' ∙ ap (λ (us : List Outcome). us ++ own_met p k l os) (known p k t.0 s.0 t.1 s.1) ∙ sym (met_more p k lines met l os long)
  where
    zip_at_teller : (q : ℕ) (g : StrandsInWorld) → slice_get gs q ≡ Some g → (t : ProgramTeller) × (slice_get tellers q ≡ Some t) × (length t.strands ≡ length g.program.strands)
    zip_at_teller q g eg = zip_at (λ (g : StrandsInWorld) (t : ProgramTeller). length t.strands ≡ length g.program.strands) gs tellers wide q g eg

-- ---- before the first line

none_started : (g : StrandsInWorld) (i : ℕ) (ss : List Strand) (k : ℕ) (s : StrandTeller) → slice_get (starting_strands g i ss) k ≡ Some s → s.met ≡ []
none_started g i [] k s e = cc
none_started g i (x ∷ ss) zero s e = ap (λ (u : StrandTeller). u.met) (sym (same_Some _ s e))
none_started g i (x ∷ ss) (suc k) s e = none_started g (suc i) ss k s e

none_starting : (gs : List StrandsInWorld) (p k : ℕ) (t : ProgramTeller) (s : StrandTeller) → slice_get (map starting gs) p ≡ Some t → slice_get t.strands k ≡ Some s → s.met ≡ []
none_starting gs p k t s et es = by (slice_get gs p) (sym (slice_get-map starting gs p) ∙ et)
  where
    by : (o : Option StrandsInWorld) → option_map starting o ≡ Some t → s.met ≡ []
    by None e = cc
    by (Some g) e = none_started g 0 g.program.strands k s (ap (λ (u : ProgramTeller). slice_get u.strands k) (same_Some (starting g) t e) ∙ es)

module _ (gs : List StrandsInWorld) (detaches : List Detach) (ds : List Device) (lines : List StrandLine) (h : StrandHost) (ds' : List Device)
    (told : StrandHostTold gs detaches ds lines h ds') where
  abbrev Stands : Stage → Type 0
  Stands stage = StrandsStandAt memory_of gs detaches ds lines told.tellers (hosted_of h.turns) ds' stage

  -- before any event none has met any
  pub none_met : h.turns.begun ≡ 0 → (met : List (List Outcome)) → StrandsMetBy [] met told.tellers
  none_met none met p k t s et es = by h.turns.stage told.at
    where
      first : (ls : List StrandLine) → TellsStrands gs detaches ds h.turns.begun ls told.tellers ds' → s.met ≡ []
      first ls at =
          let start = subst (λ (n : ℕ). TellsStrands gs detaches ds n ls told.tellers ds') none at in
          none_starting gs p k t s (ap (λ (l : List ProgramTeller). slice_get l p) (sym start.1) ∙ et) es

      by : (stage : Stage) → Stands stage → s.met ≡ []
      by Between at = first lines at
      by (Telling turn) at = let more = at.2 in let never : ⊥ = omega (arith, none, more) in absurd never
      by (Showing turn from) at = first _ at.2

  -- ---- what is known of strands

  pub all_wide : AllWide gs told.tellers
  all_wide = by h.turns.stage told.at
    where
      by : (stage : Stage) → Stands stage → AllWide gs told.tellers
      by Between at = wide_told gs detaches ds h.turns.begun lines told.tellers ds' at
      by (Telling turn) at =
          let on : TellsOnStrands gs detaches ds at.0 turn.program at.1 turn.due lines told.tellers ds' = at.3 in
          let before = wide_told gs detaches ds at.0 on.before on.mid on.es on.whole in
          let own = having_told on.s on.turn on.met on.answers in
          let wide = zip_get (λ (g : StrandsInWorld) (t : ProgramTeller). length t.strands ≡ length g.program.strands) gs on.mid turn.program on.g on.t before on.is_program on.there in
          subst (AllWide gs) (sym on.after)
          (zip_set (λ (g : StrandsInWorld) (t : ProgramTeller). length t.strands ≡ length g.program.strands) gs on.mid turn.program on.g (told_on on.t at.1 own on.turn false) before on.is_program
          (set_length on.t.strands at.1 own ∙ wide))
      by (Showing turn from) at = wide_told gs detaches ds h.turns.begun (lines ++ shown_lines turn.due turn.program (memory_of at.0) from h.turns.shows.items) told.tellers ds' at.2

  so_at : (i : ℕ) (g : StrandsInWorld) (t : ProgramTeller) (x : StrandProgram) → slice_get gs i ≡ Some g → slice_get told.tellers i ≡ Some t → slice_get h.turns.programs.items i ≡ Some x
      → IsToldSo g t (due_in x)
  so_at i g t x eg et ex = (told.each i g t x eg et ex).follow.1

  all_some : HaveStrands gs
  all_some k d within =
      let g = get_or gs k d in
      let t = item told.tellers k (omega (arith, within, told.wide)) in
      let x = item h.turns.programs.items k (omega (arith, within, told.as_many)) in
      (so_at k g t.0 x.0 (slice_get-get_or gs k d within) t.1 x.1).some

  over_then : (t : ProgramTeller) (o : Option ℕ) → IsDueThen t o → ((due : ℕ) → o ≡ Some due → ⊥) → t.has_ended ≡ true
  over_then t None d never = d
  over_then t (Some due) d never = absurd (never due refl)

  all_over : HaveEnded h.turns.dues.items → L.HaveEnded told.tellers
  all_over ended k d within =
      let t = get_or told.tellers k d in
      let g = item gs k (omega (arith, within, told.wide)) in
      let x = item h.turns.programs.items k (omega (arith, within, told.wide, told.as_many)) in
      let so = so_at k g.0 t x.0 g.1 (slice_get-get_or told.tellers k d within) x.1 in
      over_then t (due_in x.0) so.due_is (λ due e.
      ended k due (ap (λ (l : List (Option ℕ)). slice_get l k) told.dues ∙ slice_get-map due_in h.turns.programs.items k ∙ ap (option_map due_in) x.1 ∙ ap (λ (o : Option ℕ). Some o) e))

  -- ---- worlds

  -- what was told begins a run of the world, in which calls meet what they met;
  pub lines_met : (more : List StrandLine) × (last : List Device) × (w : ProtocolStrandWorld gs detaches ds (lines ++ more) last) × HaveMet told.tellers w.staged
  lines_met = by h.turns.stage told.at
    where
      stories : AllZip L.HasStory gs told.tellers
      stories = stories_of gs told.tellers (all_on gs detaches ds lines (hosted_of h.turns) ds' h.turns.stage told)

      by : (stage : Stage) → Stands stage → (more : List StrandLine) × (last : List Device) × (w : ProtocolStrandWorld gs detaches ds (lines ++ more) last) × HaveMet told.tellers w.staged
      by Between at = told_goes_on_met gs detaches ds h.turns.begun lines told.tellers ds' all_some at stories
      by (Telling turn) at =
          begun_begin_met gs detaches ds ds' at.0 turn.program at.1 turn.due lines told.tellers all_some at.3 (all_on gs detaches ds lines (hosted_of h.turns) ds' h.turns.stage told)
      by (Showing turn from) at =
          let looks = shown_lines turn.due turn.program (memory_of at.0) from h.turns.shows.items in
          let run = told_goes_on_met gs detaches ds h.turns.begun (lines ++ looks) told.tellers ds' all_some at.2 stories in
          let whole =
          subst (λ (l : List StrandLine). (w : ProtocolStrandWorld gs detaches ds l run.1) × HaveMet told.tellers w.staged) (append_assoc lines looks run.0) (run.2, run.3) in
          (looks ++ run.0, run.1, whole.0, whole.1)

  -- and it is a whole one where all have ended
  pub whole_met : HaveEnded h.turns.dues.items → AreLooksOut h.turns.shows.items h.turns.stage → (w : ProtocolStrandWorld gs detaches ds lines ds') × HaveMet told.tellers w.staged
  whole_met ended out = by h.turns.stage told.at out
    where
      stories : AllZip L.HasStory gs told.tellers
      stories = stories_of gs told.tellers (all_on gs detaches ds lines (hosted_of h.turns) ds' h.turns.stage told)

      by : (stage : Stage) → Stands stage → AreLooksOut h.turns.shows.items stage → (w : ProtocolStrandWorld gs detaches ds lines ds') × HaveMet told.tellers w.staged
      by Between at none = all_told_met gs detaches ds h.turns.begun lines told.tellers ds' all_some at stories (all_over ended)
      by (Telling turn) at none = absurd none
      by (Showing turn from) at none =
          let same : lines ++ shown_lines turn.due turn.program (memory_of at.0) from h.turns.shows.items ≡ lines =
          ap (λ (ks : List Look). lines ++ map (line_of turn.due turn.program 0) (looks_at (memory_of at.0) ks)) none ∙ append-nil lines in
          all_told_met gs detaches ds h.turns.begun lines told.tellers ds' all_some (subst (λ (ls : List StrandLine). TellsStrands gs detaches ds h.turns.begun ls told.tellers ds') same at.2) stories
          (all_over ended)

  -- ---- actors

  actors_long : (g : StrandsInWorld) (ts : List Told) (i : ℕ) (oss : List (List Outcome)) → length (strand_actors g ts i oss) ≡ length oss
  actors_long g ts i [] = refl
  actors_long g ts i (os ∷ oss) = ap suc (actors_long g ts (suc i) oss)

  -- what lines tell is what actors meet
  pub are_strands_met : (met : List (List Outcome)) → StrandsMetBy lines met told.tellers → (staged : List Staged) → AllZip (StartsStrands HeldStrands) gs staged → HaveMet told.tellers staged
      → AreStrandsMet lines met staged
  are_strands_met met known staged starts have p k x a ex ea =
      let g = zip_back (StartsStrands HeldStrands) gs staged starts p x ex in
      let t = zip_at (λ (g : StrandsInWorld) (t : ProgramTeller). length t.strands ≡ length g.program.strands) gs told.tellers all_wide p g.0 g.1 in
      let b = t.2 in
      let s0 = g.2 in
      let outcomes = s0.wide in
      let actors = ap length s0.actors_are ∙ actors_long g.0 s0.told 0 s0.outcomes in
      let s = item t.0.strands k (omega (arith, slice_get_within x.actors k a ea, b, outcomes, actors)) in
      subst (λ (us : List Outcome). IsPrefix us a.outcomes) (known p k t.0 s.0 t.1 s.1) (have p k t.0 s.0 x a t.1 s.1 ex ea)
