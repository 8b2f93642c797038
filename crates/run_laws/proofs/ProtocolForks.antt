-- The machine of the protocol, where listed imports are told or not.
use Rattle.std.proofs.Common.{◌≡◌, ℕ, suc, List, [], ◌∷◌, length, Option, Some, None, Bool, true, false, refl, sym, ap, ◌∙◌, subst, inl, inr}
use Rattle.std.specs.Prelude.{if◌then◌else◌, nat_lt}
use Rattle.wa_types.specs.Modules.{func_imports, func_type_at, defined_at}
use Rattle.wa_types.specs.Syntax.{Func, Module}
use Rattle.wa_types.specs.declared.values.Value.{Value}
use Rattle.wa_types.specs.declared.values.Value.TheVariants as V
use Rattle.wa_model.specs.declared.events.End.{End}
use Rattle.wa_model.specs.declared.events.End.TheVariants.{UnlistedPause}
use Rattle.wa_model.specs.Outside.{Answer, ended}
use Rattle.wa_model.specs.Machine.{Turn, stops, Ran, after, run}
use Rattle.wa_model.specs.Plan.{Plan, Outcome, given, refused}
use Rattle.wa_model.specs.Instantiation.{opening}
use Rattle.wa_model.specs.Store.{Store}
use Rattle.wa_model.specs.Step.{Next, steps, asks, returns, traps, stuck, step}
use Rattle.wa_model.specs.Blocking.{Note, note, call_note, fault_of, pause_of, the_start, an_entry, Left, with_outcomes, Asker, inside, outermost, store_at, stack_at, in_start, all_left}
use Rattle.wa_model.specs.Protocol.{Exports, exports_of, Phase, is_running, unwinds, rewinds, Then, give_zero, test_unwound, pause_there, call_again, test_rewound, give_answer, with_words, Held, free, starting, busy, calling, aside, entering, over, held_tested, held_asked, busy_step, aside_back, aside_step, held_start, protocol, held_begun, Protocol}
use Rattle.run_laws.specs.ListedPauses.{Allows, told}
use Rattle.run_laws.proofs.Forks.{TurnForks, RunForks, after_forks, run_forks}
use Rattle.run_laws.proofs.Faults.{PauseForks, fault_forks}

module _ (p : Module) (x : Exports) (plan : Plan) (listed : List Bool) (allows : Allows plan listed) where
  abbrev T : Turn Held Note → Turn Held Note → Type 0
  T = TurnForks Held listed plan (protocol p x (told plan listed))

  -- what comes of a test doesn't look at the list
  same_tested : (k i : ℕ) (args : List Value) (w : Asker) (l : Left) (a : Answer) (o : Option End) (ticks : Option ℕ)
      → held_tested p x plan k i args w l a o ticks ≡ held_tested p x (told plan listed) k i args w l a o ticks
  same_tested k i args w l a (Some e) ticks = refl
  same_tested k i args w l a None None = refl
  same_tested k i args (inside the_start c) l a None (Some t) = refl
  same_tested k i args (inside (an_entry e) c) l a None (Some t) = refl
  same_tested k i args (outermost s) l a None (Some t) = refl

  tested_forks : (k i : ℕ) (args : List Value) (w : Asker) (l : Left) (a : Answer) (o o' : Option End) → PauseForks listed plan (in_start w) i a.ticks o o'
      → T (held_tested p x plan k i args w l a o (pause_of a.ticks)) (held_tested p x (told plan listed) k i args w l a o' (pause_of a.ticks))
  tested_forks k i args w l a o o' (inl e) =
      inl (ap (λ z. held_tested p x plan k i args w l a z (pause_of a.ticks)) e ∙ same_tested k i args w l a o' (pause_of a.ticks))
  tested_forks k i args w l a o o' (inr q) =
      subst (λ z. T (held_tested p x plan k i args w l a z (pause_of a.ticks)) (held_tested p x (told plan listed) k i args w l a o' (pause_of a.ticks))) (sym q.none)
      (subst (λ z. T (held_tested p x plan k i args w l a None (pause_of a.ticks)) (held_tested p x (told plan listed) k i args w l a z (pause_of a.ticks))) (sym q.some)
      (subst (λ n. T (held_tested p x plan k i args w l a None (pause_of n)) (held_tested p x (told plan listed) k i args w l a (Some (UnlistedPause i)) (pause_of n))) (sym q.ticks_are)
      (by w q.starts)))
    where
      by : (w : Asker) → in_start w ≡ false
          → T (held_tested p x plan k i args w l a None (Some (suc q.more))) (held_tested p x (told plan listed) k i args w l a (Some (UnlistedPause i)) (Some (suc q.more)))
      by (inside the_start c) e = cc
      by (outermost s) e = cc
      by (inside (an_entry en) c) e = inr (record {
        k = k;
        call = record { import = i; args = args };
        ticks = suc q.more;
        x = call_note i args c.store (stack_at p (inside (an_entry en) c)) (Some (suc q.more));
        xs = [];
        t = calling (unwinds en i a) (with_words c.store plan.area) x.start_unwind (V.I32 (plan.area).at ∷ []) (give_zero c) l;
        goes_on = refl;
        is = refl;
        pauses = refl;
        unlisted = q.unlisted;
        allowed = q.allowed;
        y = call_note i args c.store (stack_at p (inside (an_entry en) c)) None;
        z = note (ended (UnlistedPause i)) c.store;
        u = over c.store;
        ends = refl;
        same = refl;
        how = refl;
        over = refl;
      })

  asked_forks : (k i : ℕ) (args : List Value) (w : Asker) (l : Left) (os : List Outcome) → T (held_asked p x plan k i args w l os) (held_asked p x (told plan listed) k i args w l os)
  asked_forks k i args w l [] = inl refl
  asked_forks k i args w l (refused e ∷ os) = inl refl
  asked_forks k i args w l (given a ∷ os) =
      tested_forks k i args w (with_outcomes l os) a (fault_of (func_type_at p i).results (length (store_at w).memory) plan (in_start w) i a)
      (fault_of (func_type_at p i).results (length (store_at w).memory) (told plan listed) (in_start w) i a)
      (fault_forks listed plan allows (func_type_at p i).results (length (store_at w).memory) (in_start w) i a)

  busy_forks : (ph : Phase) (l : Left) (o : Next) → T (busy_step p x plan ph l o) (busy_step p x (told plan listed) ph l o)
  busy_forks (is_running task) l (steps k d) = inl refl
  busy_forks (is_running task) l (asks k i args d) = asked_forks k i args (inside task d) l l.outcomes
  busy_forks (is_running task) l (returns k vs s) = inl refl
  busy_forks (is_running task) l (traps k t s) = inl refl
  busy_forks (is_running task) l stuck = inl refl
  busy_forks (unwinds e i a) l (steps k d) = inl refl
  busy_forks (unwinds e i a) l (asks k j args d) = inl refl
  busy_forks (unwinds e i a) l (returns k vs s) = inl refl
  busy_forks (unwinds e i a) l (traps k t s) = inl refl
  busy_forks (unwinds e i a) l stuck = inl refl
  busy_forks (rewinds e i a sp) l (steps k d) = inl refl
  busy_forks (rewinds e i a sp) l (asks k j args d) = inl refl
  busy_forks (rewinds e i a sp) l (returns k vs s) = inl refl
  busy_forks (rewinds e i a sp) l (traps k t s) = inl refl
  busy_forks (rewinds e i a sp) l stuck = inl refl

  same_back : (k : ℕ) (ph : Phase) (th : Then) (l : Left) (vs : List Value) (s : Store) → aside_back p x plan k ph th l vs s ≡ aside_back p x (told plan listed) k ph th l vs s
  same_back k (is_running task) (give_zero c) l vs s = refl
  same_back k (is_running task) test_unwound l vs s = refl
  same_back k (is_running task) pause_there l vs s = refl
  same_back k (is_running task) call_again l vs s = refl
  same_back k (is_running task) (test_rewound c) l vs s = refl
  same_back k (is_running task) (give_answer c) l vs s = refl
  same_back k (unwinds e i a) (give_zero c) l vs s = refl
  same_back k (unwinds e i a) test_unwound l vs s = refl
  same_back k (unwinds e i a) pause_there l vs s = refl
  same_back k (unwinds e i a) call_again l vs s = refl
  same_back k (unwinds e i a) (test_rewound c) l vs s = refl
  same_back k (unwinds e i a) (give_answer c) l vs s = refl
  same_back k (rewinds e i a sp) (give_zero c) l vs s = refl
  same_back k (rewinds e i a sp) test_unwound l vs s = refl
  same_back k (rewinds e i a sp) pause_there l vs s = refl
  same_back k (rewinds e i a sp) call_again l vs s = refl
  same_back k (rewinds e i a sp) (test_rewound c) l vs s = refl
  same_back k (rewinds e i a sp) (give_answer c) l vs s = refl

  same_trap : (k : ℕ) (ph : Phase) (th : Then) (l : Left) (o : Next) → aside_step p x plan ph th l o ≡ aside_step p x (told plan listed) ph th l o
  same_trap k ph th l (steps j d) = refl
  same_trap k ph th l (asks j i args d) = refl
  same_trap k ph th l (returns j vs s) = same_back j ph th l vs s
  same_trap k (is_running task) th l (traps j t s) = refl
  same_trap k (unwinds e i a) th l (traps j t s) = refl
  same_trap k (rewinds e i a sp) th l (traps j t s) = refl
  same_trap k ph th l stuck = refl

  start_forks : (f : ℕ) (s : Store) (l : Left) (o : Option Func) → T (held_start p x plan f s l o) (held_start p x (told plan listed) f s l o)
  start_forks f s l (Some g) = inl refl
  start_forks f s l None = by (nat_lt f (func_imports p))
    where
      by : (b : Bool) → T (if b then held_asked p x plan 0 f [] (outermost s) l l.outcomes else stops) (if b then held_asked p x (told plan listed) 0 f [] (outermost s) l l.outcomes else stops)
      by true = asked_forks 0 f [] (outermost s) l l.outcomes
      by false = inl refl

  turn_forks : (t : Held) → T (protocol p x plan t) (protocol p x (told plan listed) t)
  turn_forks (free s l) = inl refl
  turn_forks (starting f s l) = start_forks f s l (defined_at p f)
  turn_forks (busy ph c l) = busy_forks ph l (step p c)
  turn_forks (calling ph s f args th l) = inl refl
  turn_forks (aside ph c th l) = inl (same_trap 0 ph th l (step p c))
  turn_forks (entering ph e s l) = inl refl
  turn_forks (over s) = inl refl

  pub run_from : (n : ℕ) (r : Ran Held Note) → RunForks Held listed plan (after r.events (run (protocol p x plan) n r.last)) (after r.events (run (protocol p x (told plan listed)) n r.last))
  run_from n r =
      after_forks Held listed plan r.events (run (protocol p x plan) n r.last) (run (protocol p x (told plan listed)) n r.last)
      (run_forks Held listed plan (protocol p x plan) (protocol p x (told plan listed)) turn_forks n r.last)

pub protocol_forks : (p : Module) (plan : Plan) (listed : List Bool) → Allows plan listed → (os : List Outcome) (n : ℕ)
    → RunForks Held listed plan (Protocol p plan os n) (Protocol p (told plan listed) os n)
protocol_forks p plan listed allows os n = run_from p (exports_of p) plan listed allows n (held_begun p.start (all_left plan os) (opening p plan.globals))
