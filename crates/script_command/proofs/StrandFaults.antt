-- Faults of devices that the lines of strands tell are counted.
use Rattle.std.proofs.Common.{arith, ◌≡◌, ◌<◌, ◌≤◌, ◌+◌, ◌-◌, inl, ℕ, zero, suc, List, [], ◌∷◌, ◌++◌, length, map, Option, Some, None, Bool, true, false, refl, sym, ap, ◌∙◌, subst, ltb-true, ltb-false}
use Rattle.std.specs.Prelude.{if◌then◌else◌, nat_eq, nat_lt, slice_get}
use Rattle.std.specs.List.{AllZip}
use Rattle.std.specs.Option.{option_map}
use Rattle.std.proofs.lemmas.Option.{slice_get-map}
use Rattle.wa_model.specs.declared.answers.Detach.{Detach}
use Rattle.wa_model.specs.declared.events.End.{End}
use Rattle.wa_model.specs.declared.events.End.TheVariants.{DeviceFault}
use Rattle.wa_model.specs.Outside.{Call, Event, Line, answered, called, ended, parked, paused, returned, shown}
use Rattle.wa_model.specs.Plan.{Outcome}
use Rattle.world_model.specs.World.{Look, Program, call_in, ends_turn}
use Rattle.run_theory.specs.Growth.{Each}
use Rattle.run_theory.proofs.GrownInstances.{each_append}
use Rattle.event_order.specs.Left.{Counted}
use Rattle.host_laws.specs.Supplies.{Supply, Takes}
use Rattle.many_host.specs.Calls.{TakesCall, devices_of, faults_of, left_at}
use Rattle.many_host.specs.Telling.{supply}
use Rattle.strand_laws.specs.Strands.{Strand, StrandProgram, strand_at}
use Rattle.strand_laws.specs.StrandWorld.{HeldStrands, ProtocolStrandWorld, Staged, StartsStrands, StrandLine, StrandsInWorld, joined, last_strand, looks_if, notes_of, strand_actors, strand_in, strand_line, strand_lines, strand_program, strand_programs}
use Rattle.strand_laws.specs.Woven.{Told}
use Rattle.strand_host.specs.StrandCalls.{TakesStrandCall}
use Rattle.script_command.specs.StrandCounts.{TookStrands, strand_turn_count}
use Rattle.script_command.specs.StrandTranscripts.{program_line}
use Rattle.world_hosting.specs.Counts.{IsBegunBy, Took, closes, ended_in}
use Rattle.world_hosting.specs.FaultCounts.{CountsTo, event_at, failed_by, failed_in, one_more_if, with_told}
use Rattle.world_hosting.proofs.CountedNotes.{Goes}
use Rattle.world_hosting.proofs.Ledgers.{all_beside}
use Rattle.script_command.specs.StrandFaults.{AreStrandFaultsCounted}
use Rattle.script_command.specs.StrandLogs.{asking}
use Rattle.script_command.proofs.StrandCounting.{Lawful, events_on}
use Rattle.script_command.proofs.StrandGoes.{strand_goes}

-- ---- whose row it is

-- the program of the strand of this number, where the strands of all are numbered in a row
abbrev owner : List StrandProgram → ℕ → ℕ
owner [] i = 0
owner (q ∷ qs) i = if nat_lt i (length q.strands) then 0 else suc (owner qs (i - length q.strands))

owned_line : (p : ℕ) (qs : List StrandProgram) (i tick : ℕ) (e : Event) → program_line (strand_line p qs i tick e) ≡ record { tick = tick; program = p + owner qs i; event = e }
owned_line p [] i tick e = let z : p ≡ p + 0 = omega arith in ap (λ (k : ℕ). record { tick = tick; program = k; event = e }) z
owned_line p (q ∷ qs) i tick e = by (nat_lt i (length q.strands)) (owned_line (suc p) qs (i - length q.strands) tick e)
  where
    by : (b : Bool) → program_line (strand_line (suc p) qs (i - length q.strands) tick e) ≡ record { tick = tick; program = suc p + owner qs (i - length q.strands); event = e }
        → program_line (if b then record { tick = tick; program = p; strand = strand_in i e; event = e } else strand_line (suc p) qs (i - length q.strands) tick e)
        ≡ record { tick = tick; program = p + (if b then 0 else suc (owner qs (i - length q.strands))); event = e }
    by true on = let z : p ≡ p + 0 = omega arith in ap (λ (k : ℕ). record { tick = tick; program = k; event = e }) z
    by false on =
        let z : suc p + owner qs (i - length q.strands) ≡ p + suc (owner qs (i - length q.strands)) = omega arith in
        on ∙ ap (λ (k : ℕ). record { tick = tick; program = k; event = e }) z

first_line : (qs : List StrandProgram) (i tick : ℕ) (e : Event) → program_line (strand_line 0 qs i tick e) ≡ record { tick = tick; program = owner qs i; event = e }
first_line qs i tick e = let z : 0 + owner qs i ≡ owner qs i = omega arith in owned_line 0 qs i tick e ∙ ap (λ (k : ℕ). record { tick = tick; program = k; event = e }) z

-- ---- rows

-- A strand of this program as a row.
record RowOf (g : StrandsInWorld) (w : Program) : Type 0 where
  looks : List Look
  number : ℕ
  strand : Strand
  is : w ≡ strand_program g looks number strand

abbrev Rows : Option StrandsInWorld → Option Program → Type 0
Rows None None = Unit {0}
Rows (Some g) (Some w) = RowOf g w
Rows _ _ = ⊥

-- the rows of one program, in front of those of others
row_within : (g : StrandsInWorld) (last number : ℕ) (ss : List Strand) (ws : List Program) (i : ℕ) → i < length ss → Rows (Some g) (slice_get (strand_programs g last number ss ++ ws) i)
row_within g last number [] ws i lt = let no_way : ⊥ = omega (arith, lt) in absurd no_way
row_within g last number (s ∷ ss) ws zero lt = record { looks = looks_if (nat_eq last number) g.looks; number = number; strand = s; is = refl }
row_within g last number (s ∷ ss) ws (suc i) lt = row_within g last (suc number) ss ws i (omega (arith, lt))

row_behind : (g : StrandsInWorld) (last number : ℕ) (ss : List Strand) (ws : List Program) (i : ℕ) → length ss ≤ i → slice_get (strand_programs g last number ss ++ ws) i ≡ slice_get ws (i - length ss)
row_behind g last number [] ws i le = let z : i ≡ i - 0 = omega arith in ap (slice_get ws) z
row_behind g last number (s ∷ ss) ws zero le = let no_way : ⊥ = omega (arith, le) in absurd no_way
row_behind g last number (s ∷ ss) ws (suc i) le =
    let z : i - length ss ≡ suc i - suc (length ss) = omega arith in
    row_behind g last (suc number) ss ws i (omega (arith, le)) ∙ ap (slice_get ws) z

abbrev Starts : List StrandsInWorld → List Staged → Type 0
Starts gs staged = AllZip (StartsStrands HeldStrands) gs staged

abbrev rows_of : List Staged → List Program
rows_of staged = joined (map (λ (x : Staged). x.programs) staged)

abbrev programs_of : List StrandsInWorld → List StrandProgram
programs_of gs = map (λ (g : StrandsInWorld). g.program) gs

rows_stand : (gs : List StrandsInWorld) (staged : List Staged) → Starts gs staged → (i : ℕ) → Rows (slice_get gs (owner (programs_of gs) i)) (slice_get (rows_of staged) i)
rows_stand [] [] h i = tt
rows_stand [] (x ∷ xs) h i = absurd h
rows_stand (g ∷ gs) [] h i = absurd h
rows_stand (g ∷ gs) (x ∷ xs) h i =
    subst (λ (ws : List Program). Rows (slice_get (g ∷ gs) (owner (programs_of (g ∷ gs)) i)) (slice_get (ws ++ rows_of xs) i)) (sym h.0.programs_are)
    (by (nat_lt i (length g.program.strands)) refl (rows_stand gs xs h.1 (i - length g.program.strands)))
  where
    by : (b : Bool) → nat_lt i (length g.program.strands) ≡ b → Rows (slice_get gs (owner (programs_of gs) (i - length g.program.strands))) (slice_get (rows_of xs) (i - length g.program.strands))
        → Rows (slice_get (g ∷ gs) (if b then 0 else suc (owner (programs_of gs) (i - length g.program.strands))))
        (slice_get (strand_programs g (last_strand h.0.told) 0 g.program.strands ++ rows_of xs) i)
    by true e on = row_within g (last_strand h.0.told) 0 g.program.strands (rows_of xs) i (ltb-true i (length g.program.strands) e)
    by false e on =
        subst (Rows (slice_get gs (owner (programs_of gs) (i - length g.program.strands))))
        (sym (row_behind g (last_strand h.0.told) 0 g.program.strands (rows_of xs) i (ltb-false i (length g.program.strands) e))) on

-- ---- what a row's call takes

-- what a strand's call takes its row takes
row_takes : (g : StrandsInWorld) (w : Program) → RowOf g w → (k : ℕ) (s : Strand) (c : Option Call) (old new : Supply) (os : List Outcome) → Takes (strand_program g [] k s) c old os new → Takes w c old os new
row_takes g w row k s c old new os t = subst (λ (v : Program). Takes v c old os new) (sym row.is) (by c t)
  where
    by : (c : Option Call) → Takes (strand_program g [] k s) c old os new → Takes (strand_program g row.looks row.number row.strand) c old os new
    by None t = t
    by (Some c) t = (t.0, t.1, record { meets = t.2.meets; counts = t.2.counts })

row_call : (gs : List StrandsInWorld) (ws : List Program) (l : StrandLine) (i tick : ℕ) (e : Event) (os : List Outcome) (old new : List Counted) → l.event ≡ e → Rows (slice_get gs l.program) (slice_get ws i)
    → TakesStrandCall gs l os old new → TakesCall ws (record { tick = tick; program = i; event = e }) os old new
row_call gs ws l i tick e os old new is rows t = by (slice_get ws i) refl (subst (λ (o : Option StrandsInWorld). Rows o (slice_get ws i)) t.program rows)
  where
    before : Supply
    before = supply t.answers (devices_of old) (faults_of old)

    behind : Supply
    behind = supply t.left (devices_of new) (faults_of new)

    by : (o : Option Program) → slice_get ws i ≡ o → Rows (Some t.g) o → TakesCall ws (record { tick = tick; program = i; event = e }) os old new
    by None q r = absurd r
    by (Some w) q r = record {
      w = w;
      program = q;
      answers = t.answers;
      left = t.left;
      takes = row_takes t.g w r l.strand (strand_at t.g.program l.strand) (call_in e) before behind os
          (subst (λ (v : Event). Takes (strand_program t.g [] l.strand (strand_at t.g.program l.strand)) (call_in v) before os behind) is t.takes);
    }

module _ (gs : List StrandsInWorld) (staged : List Staged) (starts : Starts gs staged) (detaches : List Detach) where
  abbrev ws : List Program
  ws = rows_of staged

  abbrev qs : List StrandProgram
  qs = programs_of gs

  rows_took : (begun over : ℕ) (flat : List Line) (met : List (List Outcome)) (old : List Counted) (last : ℕ) (new : List Counted) → TookStrands gs detaches begun over (strand_lines qs flat) met old last new
      → Took ws detaches begun over flat met old last new
  rows_took begun over [] [] old last new t = t
  rows_took begun over [] (os ∷ met) old last new t = absurd t
  rows_took begun over (l ∷ flat) [] old last new t = absurd t
  rows_took begun over (l ∷ flat) (os ∷ met) old last new t =
      let line : StrandLine = strand_line 0 qs l.program l.tick l.event in
      let one = first_line qs l.program l.tick l.event in
      let is : line.event ≡ l.event = ap (λ (k : Line). k.event) one in
      let row : Rows (slice_get gs line.program) (slice_get ws l.program) =
      subst (λ (p : ℕ). Rows (slice_get gs p) (slice_get ws l.program)) (sym (ap (λ (k : Line). k.program) one)) (rows_stand gs staged starts l.program) in (
        t.0,
        t.1,
        subst (λ (e : Event). IsBegunBy begun over e t.0) is t.2,
        row_call gs ws line l.program l.tick l.event os (left_at begun t.0 detaches old) t.1 is row t.3,
        subst (λ (e : Event). Took ws detaches t.0 (over + closes ends_turn e) flat met t.1 last new) is (rows_took t.0 (over + closes ends_turn line.event) flat met t.1 last new t.4),
      )

  -- as many turns end
  rows_ended : (flat : List Line) → strand_turn_count (strand_lines qs flat) ≡ ended_in ends_turn flat
  rows_ended [] = refl
  rows_ended (l ∷ flat) =
      let one = first_line qs l.program l.tick l.event in
      ap (λ (k : Line). closes ends_turn k.event + strand_turn_count (strand_lines qs flat)) one ∙ ap (λ (n : ℕ). closes ends_turn l.event + n) (rows_ended flat)

  -- ---- what lines tell

  bound_same : (g : StrandsInWorld) (looks : List Look) (k : ℕ) (s : Strand) (e : Event) → failed_in (Some (strand_program g looks k s)) e ≡ failed_in (Some (asking g)) e
  bound_same g looks k s (ended how) = by how
    where
      by : (how : End) → failed_in (Some (strand_program g looks k s)) (ended how) ≡ failed_in (Some (asking g)) (ended how)
      by (DeviceFault import) = refl
      by _ = refl
  bound_same g looks k s (called c) = refl
  bound_same g looks k s (answered v) = refl
  bound_same g looks k s (paused t u) = refl
  bound_same g looks k s (parked u) = refl
  bound_same g looks k s (returned n v) = refl
  bound_same g looks k s (shown a b) = refl

  row_failed : (i : ℕ) (e : Event) → failed_in (slice_get ws i) e ≡ failed_in (slice_get (map asking gs) (owner qs i)) e
  row_failed i e =
      by (slice_get gs (owner qs i)) (slice_get ws i) (rows_stand gs staged starts i)
      ∙ ap (λ (o : Option Program). failed_in o e) (sym (slice_get-map asking gs (owner qs i)))
    where
      by : (a : Option StrandsInWorld) (b : Option Program) → Rows a b → failed_in b e ≡ failed_in (option_map asking a) e
      by None None r = refl
      by None (Some w) r = absurd r
      by (Some g) None r = absurd r
      by (Some g) (Some w) r = ap (λ (v : Program). failed_in (Some v) e) r.is ∙ bound_same g r.looks r.number r.strand e

  -- what rows tell of faults the lines of their programs do
  rows_told : (begun over : ℕ) (flat : List Line) (cs : List Counted) → with_told ws detaches begun over flat cs ≡ with_told (map asking gs) detaches begun over (map program_line (strand_lines qs flat)) cs
  rows_told begun over [] cs = refl
  rows_told begun over (l ∷ flat) cs =
      let line : Line = record { tick = l.tick; program = owner qs l.program; event = l.event } in
      let left : List Counted = left_at begun (event_at begun over l.event) detaches cs in
      rows_told (event_at begun over l.event) (over + closes ends_turn l.event) flat (one_more_if (failed_by ws l) left)
      ∙ ap (λ (o : Option (List ℕ)). with_told (map asking gs) detaches (event_at begun over l.event) (over + closes ends_turn l.event) (map program_line (strand_lines qs flat)) (one_more_if o left))
      (row_failed l.program l.event)
      ∙ ap (λ (k : Line). with_told (map asking gs) detaches begun over (k ∷ map program_line (strand_lines qs flat)) cs) (sym (first_line qs l.program l.tick l.event))

-- ---- actors

-- each strand's actor goes on to a pause or an end
actors_go : (g : StrandsInWorld) (ts : List Told) (number : ℕ) (oss : List (List Outcome)) → ((k j : ℕ) (os : List Outcome) → j ≡ number + k → slice_get oss k ≡ Some os → Goes os (notes_of j ts))
    → Each Lawful (strand_actors g ts number oss)
actors_go g ts number [] go = tt
actors_go g ts number (os ∷ oss) go =
    let z : number ≡ number + 0 = omega arith in
    (go 0 number os z refl, actors_go g ts (suc number) oss (λ k j us e is. go (suc k) j us (omega (arith, e)) is))

all_go : (gs : List StrandsInWorld) (staged : List Staged) → Starts gs staged → Each Lawful (joined (map (λ (x : Staged). x.actors) staged))
all_go [] [] h = tt
all_go [] (x ∷ xs) h = absurd h
all_go (g ∷ gs) [] h = absurd h
all_go (g ∷ gs) (x ∷ xs) h =
    let one = h.0 in
    each_append Lawful x.actors (joined (map (λ (x : Staged). x.actors) xs))
    (subst (Each Lawful) (sym one.actors_are)
    (actors_go g one.told 0 one.outcomes (λ k j os e is. let z : k ≡ j = omega (arith, e) in subst (λ (n : ℕ). Goes os (notes_of n one.told)) z
    (strand_goes g one.outcomes one.told one.wide one.tells k os is))))
    (all_go gs xs h.1)

-- ---- worlds

-- In a whole run of the protocol world of strands, by what its lines took of the devices.
pub strand_faults : (gs : List StrandsInWorld) (detaches : List Detach) (lines : List StrandLine) (met : List (List Outcome)) (old new : List Counted)
    → ProtocolStrandWorld gs detaches (devices_of old) lines (devices_of new) → TookStrands gs detaches 0 0 lines met old (strand_turn_count lines) new
    → AreStrandFaultsCounted gs detaches lines old new
strand_faults gs detaches lines met old new world took =
    let runs = world.runs in
    let of_rows : TookStrands gs detaches 0 0 (strand_lines (programs_of gs) runs.flat) met old (strand_turn_count (strand_lines (programs_of gs) runs.flat)) new =
    subst (λ (ls : List StrandLine). TookStrands gs detaches 0 0 ls met old (strand_turn_count ls) new) runs.made took in
    let turns = rows_ended gs world.staged world.starts detaches runs.flat in
    let all = events_on (rows_of world.staged) detaches (strand_turn_count (strand_lines (programs_of gs) runs.flat)) new 1 (joined (map (λ (x : Staged). x.actors) world.staged)) runs.last
    (devices_of old) (devices_of new) runs.flat runs.events 0 refl (all_go gs world.staged world.starts) 0 old old old (inl (refl, refl)) (all_beside old)
    (record { met = met; took = rows_took gs world.staged world.starts detaches 0 0 runs.flat met old (strand_turn_count (strand_lines (programs_of gs) runs.flat)) new of_rows })
    (omega (arith, turns)) refl in
    subst (λ (ls : List StrandLine). AllZip CountsTo (with_told (map asking gs) detaches 0 0 (map program_line ls) old) new) (sym runs.made)
    (subst (λ (cs : List Counted). AllZip CountsTo cs new) (rows_told gs world.staged world.starts detaches 0 0 runs.flat old) all)
