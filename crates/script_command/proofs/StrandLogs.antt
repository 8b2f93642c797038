-- The devices that are left in a run of programs with strands, each with its log behind its journal.
use Rattle.std.proofs.Common.{◌≡◌, ◌+◌, inl, ℕ, List, [], ◌∷◌, map, Option, Some, None, refl, ap, ◌∙◌}
use Rattle.std.specs.Option.{option_map}
use Rattle.std.proofs.lemmas.Option.{slice_get-map}
use Rattle.wa_model.specs.declared.answers.Detach.{Detach}
use Rattle.wa_model.specs.Outside.{Call}
use Rattle.wa_model.specs.Plan.{Outcome}
use Rattle.world_model.specs.World.{call_in, ends_turn}
use Rattle.event_order.specs.Left.{Counted}
use Rattle.host_laws.specs.Supplies.{Supply, Takes, bound_to}
use Rattle.many_host.specs.Calls.{TakesCall, devices_of}
use Rattle.strand_laws.specs.Strands.{Strand}
use Rattle.strand_laws.specs.StrandWorld.{StrandLine, StrandsInWorld, strand_program}
use Rattle.strand_host.specs.StrandCalls.{TakesStrandCall}
use Rattle.script_command.specs.StrandCounts.{TookStrands, strand_turn_count}
use Rattle.script_command.specs.StrandTranscripts.{program_line}
use Rattle.world_hosting.specs.Counts.{Took, closes}
use Rattle.world_hosting.specs.DeviceLogs.{answered_calls, device_log, taken_by, with_logs}
use Rattle.world_hosting.specs.Worlds.{turn_count}
use Rattle.world_hosting.proofs.DeviceLogs.{first_logs, goes_shown, logs_on, taken_line}
use Rattle.script_command.specs.StrandLogs.{AreStrandsLogged, asking}

-- what a strand's call takes its program's first strand would take
taken_so : (g : StrandsInWorld) (i : ℕ) (s : Strand) (c : Option Call) (old new : Supply) (os : List Outcome) → Takes (strand_program g [] i s) c old os new → Takes (asking g) c old os new
taken_so g i s None old new os t = t
taken_so g i s (Some c) old new os t = (t.0, t.1, record { meets = t.2.meets; counts = t.2.counts })

module _ (gs : List StrandsInWorld) where
  call_taken : (l : StrandLine) (os : List Outcome) (old new : List Counted) → TakesStrandCall gs l os old new → TakesCall (map asking gs) (program_line l) os old new
  call_taken l os old new t = record {
    w = asking t.g;
    program = slice_get-map asking gs l.program ∙ ap (option_map asking) t.program;
    answers = t.answers;
    left = t.left;
    takes = taken_so t.g l.strand _ (call_in l.event) _ _ os t.takes;
  }

  -- what the lines of strands took lines of their programs would take
  lines_took : (detaches : List Detach) (begun ended : ℕ) (lines : List StrandLine) (met : List (List Outcome)) (old : List Counted) (last : ℕ) (new : List Counted)
      → TookStrands gs detaches begun ended lines met old last new → Took (map asking gs) detaches begun ended (map program_line lines) met old last new
  lines_took detaches begun ended [] [] old last new t = t
  lines_took detaches begun ended [] (os ∷ met) old last new t = absurd t
  lines_took detaches begun ended (l ∷ lines) [] old last new t = absurd t
  lines_took detaches begun ended (l ∷ lines) (os ∷ met) old last new t = (
    t.0,
    t.1,
    t.2,
    call_taken l os _ t.1 t.3,
    lines_took detaches t.0 (ended + closes ends_turn l.event) lines met t.1 last new t.4,
  )

pub same_turns : (lines : List StrandLine) → strand_turn_count lines ≡ turn_count (map program_line lines)
same_turns [] = refl
same_turns (l ∷ lines) = ap (λ (n : ℕ). closes ends_turn l.event + n) (same_turns lines)

pub strands_logged : (gs : List StrandsInWorld) (detaches : List Detach) (lines : List StrandLine) (met : List (List Outcome)) (old new : List Counted)
    → TookStrands gs detaches 0 0 lines met old (strand_turn_count lines) new → AreStrandsLogged gs detaches lines met (devices_of old) (devices_of new)
strands_logged gs detaches lines met old new took =
    logs_on (map asking gs) detaches (devices_of old) ends_turn goes_shown bound_to (TakesCall (map asking gs)) (taken_line (map asking gs) detaches (devices_of old)) (map program_line lines) met 0 0 old []
    (strand_turn_count lines) new (inl refl) (first_logs detaches [] (devices_of old)) (lines_took gs detaches 0 0 lines met old (strand_turn_count lines) new took)
    ∙ ap (λ (n : ℕ). with_logs (taken_by n detaches) (device_log detaches (answered_calls (map asking gs) 0 (map program_line lines) met)) [] (devices_of old)) (same_turns lines)
