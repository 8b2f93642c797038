-- At a related pair whose original asks an import that pauses: the rewritten module calls it too, and is about to unwind.
use Rattle.std.proofs.Common.{All, List, None, Some, [], ap, arith, false, length, refl, subst, suc, ℕ, ◌*◌, ◌+◌, ◌-◌, ◌<◌, ◌^◌, ◌∙◌, ◌∷◌, ◌≡◌, ◌≤◌, ◌++◌}
use Rattle.wa_types.specs.Modules.{func_type_at}
use Rattle.wa_types.specs.declared.values.Value.{Value}
use Rattle.wa_types.specs.declared.values.Value.TheVariants as V
use Rattle.run_theory.proofs.Runs.{leads_on}
use Rattle.wa_model.specs.Behaves.{PausesNumbered, StandsNumbered}
use Rattle.wa_model.specs.Blocking.{Left, Note, State, an_entry, call_note, fault_of, go_on, inside, pause_of, poked, runs, with_outcomes}
use Rattle.wa_model.specs.Configuration.{Configuration, stack_of}
use Rattle.wa_model.specs.Machine.{goes, moves, stays}
use Rattle.wa_model.specs.Outside.{Answer}
use Rattle.wa_model.specs.Plan.{AnswerFits, Entry, Outcome, given}
use Rattle.wa_model.specs.Protocol.{Held, busy, calling, give_zero, held_tested, is_running, unwinds, with_words}
use Rattle.wa_model.specs.Step.{asks, step}
use Rattle.wa_model.specs.Store.{Store}
use Rattle.guard_runs.proofs.StoppedStacks.{stops_law}
use Rattle.guard_runs.specs.Stopped.{Stopped}
use Rattle.headline.specs.FlatLaw.{AllLocalsFit, FlatAsks, FlatLaw, FlatNext}
use Rattle.headline.specs.Given.{LetsPause}
use Rattle.headline.specs.Halts.{PausesKnown}
use Rattle.headline.specs.StoreLaws.{StoreLaws}
use Rattle.headline.specs.Told.{answer_notes, goes_on_told}
use Rattle.headline.specs.World.{World, WorldFits, base, setting}
use Rattle.headline.specs.WrittenRuns.{WrittenLaw}
use Rattle.headline.proofs.Asks.{Called, answer_fits, left_fits, pause_allowed, tested_now, to_call, went_on}
use Rattle.headline.proofs.FlatStretches.{pr, xp}
use Rattle.headline.proofs.Pauses.{told_moves}
use Rattle.headline.proofs.Reductions.{Allowed, LeftFits, Link, TopOf, allowed_on, nb}
use Rattle.headline.proofs.Simulation.{known_along}

module _ (w : World) (ft : WorldFits w) (sl : StoreLaws w) (L : (top spare : ℕ) → Configuration → Configuration → Type 0) (W : ℕ → ℕ → Configuration → Configuration → Type 0) (G : Store
    → Type 0) (law : FlatLaw w (λ c d. c ≡ d) L W G) (Known : Held → Type 0) where
  -- what the host is about to call where an import has paused here
  abbrev pub begins_unwind : Entry → (import : ℕ) → Answer → Configuration → Left → Held
  begins_unwind e i a c l = calling (unwinds e i a) (with_words c.store w.plan.area) (xp w).start_unwind (V.I32 w.plan.area.at ∷ []) (give_zero c) l

  -- The rewritten module has called the import and is about to unwind; what is known of it, and of where the original goes on.
  pub record Unwinding (n spare top : ℕ) (e : Entry) (c b : Configuration) (l : Left) (k i : ℕ) (args : List Value) (d : Configuration) (a : Answer) (os : List Outcome) (ticks : ℕ) : Type 0 where
    pub called : Called w ft sl L W G law top spare (an_entry e) l c.store b k i args d
    pub tells : pr w (busy (is_running (an_entry e)) called.mid l)
        ≡ goes called.j (call_note i args (called.at).store (stack_of w.written called.at) (Some ticks) ∷ []) (begins_unwind e i a called.at (with_outcomes l os))
    pub known : Known (begins_unwind e i a called.at (with_outcomes l os))
    pub numbered : All (StandsNumbered w.original w.settings w.which) (stack_of (base w) d)
    pub locals : AllLocalsFit w.written ((called.at).here ∷ (called.at).under)
    pub stopped : Stopped (setting w top) i ((called.flat_at).here ∷ (called.flat_at).under) ((called.at).here ∷ (called.at).under)
    pub small : length d.store.memory < 2 ^ 32
    pub passes : fault_of (func_type_at (base w) i).results (length d.store.memory) w.plan false i a ≡ None
    pub lets : LetsPause w.plan
    pub pauses : pause_of a.ticks ≡ Some ticks
    pub answer : AnswerFits a
    pub rest : LeftFits w (with_outcomes l os)
    pub allowed : Allowed w (n - suc k) (goes_on_told a.said e d (poked d.store a.pokes) (with_outcomes l os))
    pub is_top : TopOf w (an_entry e) top

  module _ (wl : WrittenLaw w Known) (none : w.asserts ≡ false) (n spare top x : ℕ) (within : 10 * x ≤ spare) (e : Entry) (c b : Configuration) (l : Left) (is_top : TopOf w (an_entry e) top)
      (lk : Link w ft sl L W G law top x c b)
      (lf : LeftFits w l) (al : Allowed w n (runs (an_entry e) c l)) (kn : Known (busy (is_running (an_entry e)) b l)) (k i : ℕ) (args : List Value) (d : Configuration)
      (is : step (base w) c ≡ asks k i args d) (a : Answer) (os : List Outcome) (ticks : ℕ) (eo : l.outcomes ≡ given a ∷ os)
      (ef : fault_of (func_type_at (base w) i).results (length d.store.memory) w.plan false i a ≡ None) (et : pause_of a.ticks ≡ Some ticks) (enough : suc k ≤ n) where
    abbrev lo : Left
    lo = with_outcomes l os

    fs : FlatAsks w (λ c d. c ≡ d) L W G top x k i args d lk.flat_at
    fs = subst (λ o. FlatNext w (λ c d. c ≡ d) L W G top x o lk.flat_at) is (law.reduces top x c lk.flat_at lk.link (al.calm 0 [] (runs (an_entry e) c l) stays (omega arith)))

    cd : Called w ft sl L W G law top spare (an_entry e) l c.store b k i args d
    cd = to_call w ft sl L W G law n spare top x within (an_entry e) c b l is_top lk lf al k i args d fs

    abbrev b0 : Held
    b0 = busy (is_running (an_entry e)) b l

    abbrev b1 : Held
    b1 = busy (is_running (an_entry e)) cd.mid l

    abbrev b2 : Held
    b2 = begins_unwind e i a cd.at (with_outcomes l os)

    abbrev x1 : Note
    x1 = call_note i args d.store (stack_of (base w) d) (Some ticks)

    abbrev y1 : Note
    y1 = call_note i args (cd.at).store (stack_of w.written cd.at) (Some ticks)

    abbrev x3 : List Note
    x3 = answer_notes a.said (poked d.store a.pokes)

    abbrev a2 : State
    a2 = goes_on_told a.said e d (poked d.store a.pokes) (with_outcomes l os)

    mv : pr w b1 ≡ goes cd.j (y1 ∷ []) b2
    mv =
        tested_now w ft sl L W G law n spare top x within (an_entry e) c b l is_top lk lf al k i args d is cd a os None eo ef
        ∙ ap (held_tested w.written (xp w) w.plan cd.j i args (inside (an_entry e) cd.at) lo a None) et

    was : nb w (runs (an_entry e) c l) ≡ goes k (x1 ∷ x3) a2
    was =
        went_on w ft sl L W G law n spare top x within (an_entry e) c b l is_top lk lf al k i args d is cd a os eo ef
        ∙ ap (λ z. go_on k (call_note i args d.store (stack_of (base w) d) z) a.said (poked d.store a.pokes) lo (inside (an_entry e) d)) et
        ∙ told_moves k x1 a.said (poked d.store a.pokes) lo e d

    known_there : Known b2
    known_there =
        known_along w Known wl b0 b2 (cd.cost + (suc cd.j + 0)) _ kn
        (leads_on Held Note (pr w) b0 b1 b2 cd.cost (suc cd.j + 0) [] ((y1 ∷ []) ++ []) (cd.silent).leads (moves mv stays refl refl))

    lets_pause : LetsPause w.plan
    lets_pause = (i, pause_allowed (func_type_at (base w) i).results (length d.store.memory) w.plan false i a ticks ef et)

    nums : All (StandsNumbered w.original w.settings w.which) (stack_of (base w) d)
    nums =
        let h : PausesNumbered w.original w.settings w.which (x1 ∷ x3) =
        subst (λ t. PausesKnown t w.original w.settings w.which (x1 ∷ x3)) none (al.numbered 0 k [] (x1 ∷ x3) (runs (an_entry e) c l) a2 stays was (omega arith)) in
        let lt : 0 < length (x1 ∷ x3) = omega arith in
        h 0 x1 lt

    pub unwinding : Unwinding n spare top e c b l k i args d a os ticks
    unwinding = record {
      called = cd;
      tells = mv;
      known = known_there;
      numbered = nums;
      locals = wl.waits lets_pause e i a (with_words (cd.at).store w.plan.area) (xp w).start_unwind (V.I32 w.plan.area.at ∷ []) cd.at lo known_there;
      stopped = stops_law (setting w top) i _ _ cd.stack (law.numbers top i d cd.flat_at cd.waits nums);
      small = law.small d.store (law.waits_good top i d cd.flat_at cd.waits);
      passes = ef;
      lets = lets_pause;
      pauses = et;
      answer = answer_fits w ft sl L W G law n spare top x within (an_entry e) c b l is_top lk lf al k i args d is cd a os eo;
      rest = left_fits w ft sl L W G law n spare top x within (an_entry e) c b l is_top lk lf al k i args d is cd a os eo;
      allowed = allowed_on w n k (x1 ∷ x3) (runs (an_entry e) c l) a2 was al;
      is_top = is_top;
    }
