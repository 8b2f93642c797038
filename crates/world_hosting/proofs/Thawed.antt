-- A record that suits a program of a script, as that suits its plan, and the program that is put back by it.
use Rattle.std.proofs.Common.{◌≡◌, ◌<◌, ◌^◌, ℕ, suc, List, [], ◌∷◌, length, map, Option, Some, None, Bool, true, false, Ok, Err, arith, refl, sym, ap, ◌∙◌, subst}
use Rattle.std.proofs.lemmas.List.{length-map}
use Rattle.world_model.specs.World as W
use Rattle.host_setup.specs.SetUp.{NamedEntry, Fault, all_told, entry_funcs, first_fault, unless_fault}
use Rattle.host_setup.specs.Views.{entry_of}
use Rattle.pause_host.specs.declared.faults.ThawFault.{ThawFault}
use Rattle.pause_host.specs.declared.faults.ThawFault.TheVariants as T
use Rattle.pause_host.specs.declared.program.Program.{Program}
use Rattle.pause_host.specs.Programs.{named_entries, source_of}
use Rattle.pause_host.specs.Settings.{calls_of}
use Rattle.pause_host.specs.Thawing.{PartsSuit, Thaws}
use Rattle.snapshot_store.specs.Snapshots.{PausedParts, paused}
use Rattle.script_setup.specs.Bindings.{bindings}
use Rattle.world_laws.specs.Snapshots.{from_record}
use Rattle.world_hosting.specs.declared.resuming.Resumed.{Resumed}
use Rattle.world_hosting.specs.declared.staging.ScriptPlan.{ScriptPlan}
use Rattle.world_hosting.specs.declared.staging.Staged.{Staged}
use Rattle.world_hosting.specs.Continued.{GoesOn, Resumes, unpaused_record}
use Rattle.world_hosting.specs.Suiting.{PauseSuits}
use Rattle.world_hosting.specs.Views.{IsPlanned, IsStaged}
use Rattle.world_hosting.specs.Worlds.{Part, look_at, world_program}
use Rattle.world_hosting.proofs.PutBack.{goes_on}
use Rattle.world_hosting.proofs.Starts.{binds_as, planned, same_world}

-- ---- entries

told_funcs : (o : Option Fault) (xs ys : List ℕ) → unless_fault o xs ≡ Ok ys → ys ≡ xs
told_funcs None xs ys e = cc
told_funcs (Some f) xs ys e = cc

calls_many : (es : List NamedEntry) (fs : List ℕ) → length fs ≡ length es → length (calls_of es fs) ≡ length es
calls_many [] fs e = refl
calls_many (x ∷ es) [] e = e
calls_many (x ∷ es) (f ∷ fs) e = ap suc (calls_many es fs (omega (arith, e)))

module _ (x : Part) (z : ScriptPlan) (p : IsPlanned x z) where
  many_entries : length (calls_of (named_entries z.plan) x.given.funcs) ≡ length z.plan.entries.items
  many_entries =
      let es : List NamedEntry = named_entries z.plan in
      let funcs = told_funcs (first_fault (source_of z.plan) z.plan.area es) (all_told (entry_funcs (source_of z.plan) es)) x.given.funcs p.funcs in
      calls_many es x.given.funcs (ap length funcs ∙ length-map (entry_funcs (source_of z.plan) es) _ ∙ length-map es _)
      ∙ length-map z.plan.entries.items entry_of

  -- ---- parts that suit

  module _ (parts : PausedParts) where
    pub suits_plan : PauseSuits (world_program x) parts → PartsSuit z.plan parts
    suits_plan h = by (subst (λ (w : W.Program). PauseSuits w parts) (sym (same_world x z p)) h) where
      by : PauseSuits (planned x z p) parts → PartsSuit z.plan parts
      by s =
          let last = s.last in
          record {
            steps = s.steps;
            entry = omega (arith, s.entry, many_entries);
            globals = s.globals;
            pages = s.pages;
            answer = record { some = last.some; line = last.line; there = last.there; pauses = last.pauses; names = last.names; passes = last.passes };
          }

    pub plan_suits : PartsSuit z.plan parts → PauseSuits (world_program x) parts
    plan_suits s = subst (λ (w : W.Program). PauseSuits w parts) (same_world x z p) by where
      by : PauseSuits (planned x z p) parts
      by =
          let last = s.answer in
          record {
            steps = s.steps;
            entry = omega (arith, s.entry, many_entries);
            globals = s.globals;
            pages = s.pages;
            last = record { some = last.some; line = last.line; there = last.there; pauses = last.pauses; names = last.names; passes = last.passes };
          }

    -- ---- the program at its pause

    abbrev thawed : Program → (due : ℕ) → Resumed
    thawed program due = record { staged = record { program = program; names = z.names; shows = z.shows }; due = due; ended = false }

    pub resumes : (due : ℕ) (memory : List ℕ) (program : Program) → due < 2 ^ 62 → Thaws z.plan parts memory (Ok program) → Resumes x (paused due parts memory) (Ok (thawed program due))
    resumes due memory program early t = (
      (early, plan_suits t.0),
      record {
        goes = subst (λ (w : W.Program). GoesOn (from_record w (paused due parts memory)) program due false) (same_world x z p)
            (goes_on z.plan x.given.funcs (map look_at x.text.shows) (bindings x.source x.text.binds) (paused due parts memory) program due false p.funcs (binds_as x z p) (t, refl, refl));
        early = early;
        names = p.names;
        shows = p.shows;
      },
    )

    pub unfit : (due : ℕ) (memory : List ℕ) (fault : ThawFault) → Thaws z.plan parts memory (Err fault) → Resumes x (paused due parts memory) (Err fault)
    unfit due memory T.Unfit h = λ s. h (suits_plan s.1)
    unfit due memory T.Memory h = tt

-- ---- a program that isn't at a pause

pub unpaused : (x : Part) (s : Staged) (ended : Bool) → IsStaged x s → Resumes x (unpaused_record ended) (Ok (record { staged = s; due = 0; ended = ended }))
unpaused x s false is = (tt, record { goes = (refl, is.follows, is.answers, refl); early = omega arith; names = is.names; shows = is.shows })
unpaused x s true is = (tt, record { goes = refl; early = omega arith; names = is.names; shows = is.shows })
