-- What was told begins a story.
use Rattle.std.proofs.Common.{arith, ◌≡◌, ◌<◌, ℕ, suc, ◌+◌, List, [], ◌∷◌, ◌++◌, length, Option, Some, None, Bool, true, false, refl, sym, ap, ◌∙◌, subst, append_assoc, append-nil, length-append, ◌*◌, ◌^◌, ◌≤◌}
use Rattle.std.specs.Prelude.{slice_get}
use Rattle.wa_model.specs.Machine.{Ran, after, run, still}
use Rattle.wa_model.specs.Outside.{Event, answered, called, ended, parked, paused, returned, shown}
use Rattle.wa_model.specs.Plan.{Outcome}
use Rattle.wa_model.specs.Blocking.{Note}
use Rattle.wa_model.specs.Protocol.{Held}
use Rattle.wa_model.specs.Store.{Store}
use Rattle.run_theory.proofs.Runs.{leads_run}
use Rattle.host_laws.specs.Stretch.{meeting}
use Rattle.strand_laws.proofs.EndTogether.{run_quiet}
use Rattle.strand_laws.proofs.StoryLengths.{most_told, story_length}
use Rattle.strand_laws.proofs.WovenEnds.{ends_are_told, goes_now}
use Rattle.strand_laws.proofs.WovenRuns.{stands}
use Rattle.strand_laws.specs.StrandNotes.{OnStory}
use Rattle.strand_laws.specs.StrandWorld.{HeldStrands, StrandsInWorld, strand_unless_over}
use Rattle.strand_laws.specs.Strands.{ProtocolStrands, held_loom, outcomes_at}
use Rattle.strand_laws.specs.ToldStrands.{IsRest, ProgramTeller, met_and}
use Rattle.strand_laws.specs.Weaving.{is_ready, is_there}
use Rattle.strand_laws.specs.Woven.{Loom, Ready, Thread, Told, Woven, going, last_event, standing_now, weave, weave_on, woven, woven_by}
use Rattle.strand_host.proofs.StandingLed.{lt_meeting}
use Rattle.strand_host.proofs.StandingNext.{next_turn_begins, thread_got}
use Rattle.strand_host.proofs.StandingWoven.{true_false}
use Rattle.strand_host.specs.Standing.{BetweenIsOnStory, LedTo, TurnIsOnStory, WholeIsOnStory, begun_strands, threads_meeting, longest_pause}

-- ---- the rest

-- what is told from where the machine stands, with so much left
abbrev pub told_from : StrandsInWorld → (left : ℕ) → Ran (Woven Held) Told → List Told
told_from g left r =
    r.events ++ ((run (weave (held_loom g.program)) left r.last).events ++ strand_unless_over g.steps (standing_now (run (weave (held_loom g.program)) left r.last).last))

pub story_from : (g : StrandsInWorld) (oss : List (List Outcome)) (used left : ℕ) (told : List Told) (r : Ran (Woven Held) Told) → LedTo g.program oss used told r → used + left ≡ g.steps
    → HeldStrands g oss (told ++ told_from g left r)
story_from g oss used left told r l steps =
    sym (append_assoc told r.events (z.events ++ u))
    ∙ ap (λ (us : List Told). us ++ (z.events ++ u)) l.made
    ∙ sym (append_assoc (b.events ++ l.behind) z.events u)
    ∙ ap (λ (us : List Told). us ++ u) (append_assoc b.events l.behind z.events)
    ∙ sym (ap (λ (x : Ran (Woven Held) Told). x.events ++ strand_unless_over g.steps (standing_now x.last)) ran)
  where
    loom : Loom Held
    loom = held_loom g.program

    b : Ran (Woven Held) Told
    b = begun_strands g.program oss

    z : Ran (Woven Held) Told
    z = run (weave loom) left r.last

    u : List Told
    u = strand_unless_over g.steps (standing_now z.last)

    ran : ProtocolStrands g.program oss g.steps ≡ after b.events (after l.behind z)
    ran =
        ap (λ n. after b.events (run (weave loom) n b.last)) (sym steps)
        ∙ ap (after b.events) (leads_run (Woven Held) Told (weave loom) b.last r.last used left l.behind l.leads)

-- ---- something is still to be told

some_made : (loom : Loom Held) (again : Store → List (Thread Held) → Ran (Woven Held) Told) (st : Bool) (i due : ℕ) (x : Note) (es : List Note) (s : Held) (ts : List (Thread Held)) (e : Option Event)
    → 0 < length (woven_by loom again st i due (x ∷ es) s ts e).events
some_made loom again st i due x es s ts None = omega arith
some_made loom again st i due x es s ts (Some (called c)) = omega arith
some_made loom again st i due x es s ts (Some (answered c)) = omega arith
some_made loom again st i due x es s ts (Some (parked c)) = omega arith
some_made loom again st i due x es s ts (Some (returned c d)) = omega arith
some_made loom again st i due x es s ts (Some (shown c d)) = omega arith
some_made loom again st i due x es s ts (Some (paused c d)) = omega arith
some_made loom again st i due x es s ts (Some (ended how)) = omega arith

-- from where a strand goes on
some_left : (g : StrandsInWorld) (left : ℕ) (w : Woven Held) → goes_now w ≡ true → 0 < length (told_from g left (still w))
some_left g left w on = by z.events refl
  where
    loom : Loom Held
    loom = held_loom g.program

    z : Ran (Woven Held) Told
    z = run (weave loom) left w

    unless_one : (o : Option (Ready Held)) → is_there o ≡ true → 0 < length (strand_unless_over g.steps o)
    unless_one None e = true_false (sym e)
    unless_one (Some r) e = omega arith

    by : (us : List Told) → z.events ≡ us → 0 < length (z.events ++ strand_unless_over g.steps (standing_now z.last))
    by [] e =
        let h = unless_one (standing_now z.last) (run_quiet (Woven Held) Told (weave loom) goes_now (ends_are_told loom) left w e on) in
        let l = length-append z.events (strand_unless_over g.steps (standing_now z.last)) in
        omega (arith, h, l)
    by (x ∷ us) e =
        let n = ap length e in
        let l = length-append z.events (strand_unless_over g.steps (standing_now z.last)) in
        omega (arith, n, l)

some_on : (g : StrandsInWorld) (left : ℕ) (st : Bool) (k due : ℕ) (es : List Note) (h : Held) (ts : List (Thread Held)) → k < length ts
    → 0 < length (told_from g left (woven (held_loom g.program) st k due es h ts))
some_on g left st k due [] h ts lt = some_left g left (going k due h ts) (ap is_there (stands (held_loom g.program) k due h ts lt))
some_on g left st k due (x ∷ es) h ts lt =
    let loom : Loom Held = held_loom g.program in
    let a = some_made loom (weave_on loom (suc (length ts))) st k due x es h ts (last_event (x ∷ es)) in
    let r : Ran (Woven Held) Told = woven loom st k due (x ∷ es) h ts in
    let l = length-append r.events ((run (weave loom) left r.last).events ++ strand_unless_over g.steps (standing_now (run (weave loom) left r.last).last)) in
    omega (arith, a, l)

-- ---- laws

pub turn_is_on_story : TurnIsOnStory
turn_is_on_story g t left k due st ready h ts m live = record { begins = begins }
  where
    begins : (more : List (List Outcome)) → (rest : List Told) × HeldStrands g (met_and t.strands more) (t.told ++ rest) × IsRest t.has_ended rest
    begins more =
        let r : Ran (Woven Held) Told = woven (held_loom g.program) st k due ready (meeting (outcomes_at more k) h) (threads_meeting more ts) in (
          told_from g left r,
          story_from g (met_and t.strands more) m.used left t.told r (m.led more) m.steps,
          subst (λ b. IsRest b (told_from g left r)) (sym live) (some_on g left st k due ready (meeting (outcomes_at more k) h) (threads_meeting more ts) (lt_meeting g t left k due st st ready h ts m more)),
        )

pub between_is_on_story : BetweenIsOnStory
between_is_on_story g t left s ts k b first live =
    let got = thread_got ts k (ap (λ (v : _). is_ready (slice_get v k)) b.dues ∙ first.ready) in
    turn_is_on_story g t left k got.0 false _ _ ts (next_turn_begins g t left s ts k got.0 got.1 b first got.2) live

pub whole_is_on_story : WholeIsOnStory
whole_is_on_story g t whole over = record { begins = λ more. ([], subst (HeldStrands g (met_and t.strands more)) (sym (append-nil t.told)) (whole more), subst (λ b. IsRest b []) (sym over) refl) }

-- ---- how much is told

-- a program that goes on has told less than the most
pub told_fits : (g : StrandsInWorld) (t : ProgramTeller) → OnStory g t → t.has_ended ≡ false → length t.told + 1 ≤ most_told g
told_fits g t on live =
    let b = on.begins [] in
    let lt : 0 < length b.0 = subst (λ c. IsRest c b.0) live b.2 in
    let a = story_length g (met_and t.strands []) (t.told ++ b.0) b.1 in
    let l = length-append t.told b.0 in
    omega (arith, lt, a, l)

-- one that has ended has told the most at most
pub told_few : (g : StrandsInWorld) (t : ProgramTeller) → OnStory g t → length t.told ≤ most_told g
told_few g t on =
    let b = on.begins [] in
    let a = story_length g (met_and t.strands []) (t.told ++ b.0) b.1 in
    let l = length-append t.told b.0 in
    omega (arith, a, l)

-- a due tick is in range
pub due_in_range : (steps due : ℕ) → steps ≤ 1000000000 → due ≤ longest_pause * steps → due < 2 ^ 64
due_in_range steps due few le = omega (arith, few, le)
