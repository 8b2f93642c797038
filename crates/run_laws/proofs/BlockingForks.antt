-- The machine whose imports block, where listed imports are told or not.
use Rattle.std.proofs.Common.{ℕ, suc, List, [], ◌∷◌, length, Option, Some, None, Bool, true, false, refl, sym, ap, subst, inl, inr}
use Rattle.std.specs.Prelude.{if◌then◌else◌, nat_lt}
use Rattle.std.specs.Option.{option_to_list}
use Rattle.wa_types.specs.Base.{Base}
use Rattle.wa_types.specs.Modules.{func_imports, func_type_at, defined_at}
use Rattle.wa_types.specs.Syntax.{Func, Module}
use Rattle.wa_types.specs.declared.values.Value.{Value}
use Rattle.wa_model.specs.declared.answers.Said.{Said}
use Rattle.wa_model.specs.declared.answers.Said.TheVariants as S
use Rattle.wa_model.specs.declared.events.End.{End}
use Rattle.wa_model.specs.declared.events.End.TheVariants.{UnlistedPause}
use Rattle.wa_model.specs.Outside.{Answer, answered, ended}
use Rattle.wa_model.specs.Machine.{Turn, stops, Ran, after, run}
use Rattle.wa_model.specs.Plan.{Plan, Outcome, given, refused}
use Rattle.wa_model.specs.Instantiation.{opening}
use Rattle.wa_model.specs.Store.{Store}
use Rattle.wa_model.specs.Step.{Next, steps, asks, returns, traps, stuck, step}
use Rattle.wa_model.specs.Blocking.{Note, note, call_note, fault_of, pause_of, poked, resumed, Task, Left, with_outcomes, Asker, inside, outermost, store_at, stack_at, in_start, State, between, begins, runs, halts, done_notes, import_traps, on_to, go_on, tested, asked, by_step, start_called, blocking, begun, all_left, Blocking}
use Rattle.run_laws.specs.ListedPauses.{Allows, told}
use Rattle.run_laws.proofs.Forks.{TurnForks, RunForks, after_forks, run_forks}
use Rattle.run_laws.proofs.Faults.{PauseForks, fault_forks}

module _ (m : Module) (plan : Plan) (listed : List Bool) (allows : Allows plan listed) where
  abbrev T : Turn State Note → Turn State Note → Type 0
  T = TurnForks State listed plan (blocking m (told plan listed))

  tested_forks : (k i : ℕ) (args : List Value) (w : Asker) (l : Left) (a : Answer) (o o' : Option End) → PauseForks listed plan (in_start w) i a.ticks o o'
      → T (tested m k i args w l a o) (tested m k i args w l a o')
  tested_forks k i args w l a o o' (inl e) = inl (ap (tested m k i args w l a) e)
  tested_forks k i args w l a o o' (inr p) =
      subst (λ z. T (tested m k i args w l a z) (tested m k i args w l a o')) (sym p.none)
      (subst (λ z. T (tested m k i args w l a None) (tested m k i args w l a z)) (sym p.some) (by w a.said))
    where
      by : (w : Asker) (said : Said)
          → T (go_on k (call_note i args (store_at w) (stack_at m w) (pause_of a.ticks)) said (poked (store_at w) a.pokes) l w) (tested m k i args w l a (Some (UnlistedPause i)))
      by (inside task c) (S.Value v) = inr (record {
        k = k;
        call = record { import = i; args = args };
        ticks = suc p.more;
        x = call_note i args c.store (stack_at m (inside task c)) (pause_of a.ticks);
        xs = note (answered (S.Value v)) (poked c.store a.pokes) ∷ [];
        t = runs task (resumed c (poked c.store a.pokes) (option_to_list v)) l;
        goes_on = refl;
        is = refl;
        pauses = ap pause_of p.ticks_are;
        unlisted = p.unlisted;
        allowed = p.allowed;
        y = call_note i args c.store (stack_at m (inside task c)) None;
        z = note (ended (UnlistedPause i)) c.store;
        u = halts c.store;
        ends = refl;
        same = refl;
        how = refl;
        over = refl;
      })
      by (outermost s) (S.Value v) = inr (record {
        k = k;
        call = record { import = i; args = args };
        ticks = suc p.more;
        x = call_note i args s (stack_at m (outermost s)) (pause_of a.ticks);
        xs = note (answered (S.Value v)) (poked s a.pokes) ∷ done_notes (poked s a.pokes) l.entries;
        t = on_to (poked s a.pokes) l l.entries;
        goes_on = refl;
        is = refl;
        pauses = ap pause_of p.ticks_are;
        unlisted = p.unlisted;
        allowed = p.allowed;
        y = call_note i args s (stack_at m (outermost s)) None;
        z = note (ended (UnlistedPause i)) s;
        u = halts s;
        ends = refl;
        same = refl;
        how = refl;
        over = refl;
      })
      by w S.Trap = inr (record {
        k = k;
        call = record { import = i; args = args };
        ticks = suc p.more;
        x = call_note i args (store_at w) (stack_at m w) (pause_of a.ticks);
        xs = import_traps (poked (store_at w) a.pokes);
        t = halts (poked (store_at w) a.pokes);
        goes_on = refl;
        is = refl;
        pauses = ap pause_of p.ticks_are;
        unlisted = p.unlisted;
        allowed = p.allowed;
        y = call_note i args (store_at w) (stack_at m w) None;
        z = note (ended (UnlistedPause i)) (store_at w);
        u = halts (store_at w);
        ends = refl;
        same = refl;
        how = refl;
        over = refl;
      })

  asked_forks : (k i : ℕ) (args : List Value) (w : Asker) (l : Left) (os : List Outcome) → T (asked m plan k i args w l os) (asked m (told plan listed) k i args w l os)
  asked_forks k i args w l [] = inl refl
  asked_forks k i args w l (refused e ∷ os) = inl refl
  asked_forks k i args w l (given a ∷ os) =
      tested_forks k i args w (with_outcomes l os) a (fault_of (func_type_at m i).results (length (store_at w).memory) plan (in_start w) i a)
      (fault_of (func_type_at m i).results (length (store_at w).memory) (told plan listed) (in_start w) i a)
      (fault_forks listed plan allows (func_type_at m i).results (length (store_at w).memory) (in_start w) i a)

  step_forks : (task : Task) (l : Left) (o : Next) → T (by_step m plan task l o) (by_step m (told plan listed) task l o)
  step_forks task l (steps k d) = inl refl
  step_forks task l (asks k i args d) = asked_forks k i args (inside task d) l l.outcomes
  step_forks task l (returns k vs s) = inl refl
  step_forks task l (traps k t s) = inl refl
  step_forks task l stuck = inl refl

  start_forks : (x : ℕ) (s : Store) (l : Left) (o : Option Func) → T (start_called m plan x s l o) (start_called m (told plan listed) x s l o)
  start_forks x s l (Some f) = inl refl
  start_forks x s l None = by (nat_lt x (func_imports m))
    where
      by : (b : Bool) → T (if b then asked m plan 0 x [] (outermost s) l l.outcomes else stops) (if b then asked m (told plan listed) 0 x [] (outermost s) l l.outcomes else stops)
      by true = asked_forks 0 x [] (outermost s) l l.outcomes
      by false = inl refl

  turn_forks : (t : State) → T (blocking m plan t) (blocking m (told plan listed) t)
  turn_forks (between s l) = inl refl
  turn_forks (begins x s l) = start_forks x s l (defined_at m x)
  turn_forks (runs task c l) = step_forks task l (step m c)
  turn_forks (halts s) = inl refl

  pub run_from : (n : ℕ) (r : Ran State Note) → RunForks State listed plan (after r.events (run (blocking m plan) n r.last)) (after r.events (run (blocking m (told plan listed)) n r.last))
  run_from n r =
      after_forks State listed plan r.events (run (blocking m plan) n r.last) (run (blocking m (told plan listed)) n r.last)
      (run_forks State listed plan (blocking m plan) (blocking m (told plan listed)) turn_forks n r.last)

pub blocking_forks : (m : Module) (plan : Plan) (listed : List Bool) → Allows plan listed → (os : List Outcome) (n : ℕ)
    → RunForks State listed plan (Blocking m plan os n) (Blocking m (told plan listed) os n)
blocking_forks m plan listed allows os n = run_from (Base m) plan listed allows n (begun (Base m).start (all_left plan os) (opening (Base m) plan.globals))
