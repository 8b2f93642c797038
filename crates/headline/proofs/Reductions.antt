-- The relation of the runs, and the moves without an import.
use Rattle.headline.specs.World.{World, WorldFits, base, setting}
use Rattle.guard_runs.specs.Alike.{Alike}
use Rattle.guard_runs.specs.Beside.{Near}
use Rattle.headline.proofs.FlatStretches.{Along, Sil, Sm, NoneAbove, along, gl, other_top, pr, sides, then_returns, then_steps, then_traps, up_to, xp}
use Rattle.headline.specs.StoreLaws.{StoreLaws}
use Rattle.headline.proofs.FromSimulation.{na}
use Rattle.headline.proofs.ToldMoves.{Silent, Told, by_silence, by_told, calls_none, calls_none_before, dear_of, no_more, silent_before, silent_none, silent_on, silent_one, told}
use Rattle.headline.specs.Halts.{PausesKnown, room_in, used_in}
use Rattle.headline.specs.FlatLaw.{FlatLaw, FlatReturns, FlatSteps, FlatTraps}
use Rattle.std.proofs.Common.{All, List, None, Some, [], ap, append-nil, arith, length, refl, subst, suc, sym, ℕ, ⊎_elim, ◌*◌, ◌++◌, ◌+◌, ◌-◌, ◌<◌, ◌∙◌, ◌∷◌, ◌≡◌, ◌≤◌}
use Rattle.std.proofs.lemmas.Bool.{cases_lt}
use Rattle.std.specs.Prelude.{slice_get}
use Rattle.run_theory.proofs.Follow.{Alike as AllAlike}
use Rattle.run_theory.proofs.QuietRuns.{first_behind}
use Rattle.run_theory.proofs.Rewound.{Forwards}
use Rattle.run_theory.proofs.Runs.{leads_run}
use Rattle.run_theory.proofs.ShownRuns.{shown_move}
use Rattle.wa_model.specs.Behaves.{SameNote, AtCalls, AtPaused, last_called}
use Rattle.wa_model.specs.Blocking.{events_of, Left, Note, State, Task, an_entry, begins, between, blocking, by_step, done_notes, halts, next_entry, note, on_to, runs, store_of, task_back, the_start, value_of_results}
use Rattle.wa_model.specs.Configuration.{Configuration}
use Rattle.wa_model.specs.Machine.{Leads, Ran, Turn, goes, moves, run, stops}
use Rattle.wa_model.specs.Outside.{ended, returned}
use Rattle.wa_model.specs.Plan.{AreLawful, Entry, EntryFits, OutcomeFits}
use Rattle.wa_model.specs.Protocol.{Held, busy, busy_step, free, held_back, held_on, is_running, over, starting, store_held}
use Rattle.wa_model.specs.Step.{param_count, returns, step, steps}
use Rattle.wa_model.specs.Store.{Store}
use Rattle.wa_model.specs.Untouched.{IsCalm}
use Rattle.wa_model.specs.declared.events.End.TheVariants.{Done, Trapped}
use Rattle.wa_types.specs.Frames.{Image}
use Rattle.wa_types.specs.Modules.{func_type_at}
use Rattle.wa_types.specs.declared.values.Trap.{Trap}
use Rattle.wa_types.specs.declared.values.Value.{Value}
use Rattle.wa_types.specs.declared.values.Value.TheVariants as V
use Rattle.headline.proofs.ToldMoves as T

module _ (w : World) where
  -- the state of the written module is 0
  abbrev pub Quiet : Store → Type 0
  Quiet s' = slice_get s'.globals (gl w) ≡ Some (V.I32 0)

  -- it is wherever stores belong together
  pub quiet_there : (top : ℕ) (s s' : Store) → Alike (setting w top) s s' → Quiet s'
  quiet_there top s s' h =
      subst (λ k. slice_get s'.globals k ≡ Some (V.I32 0)) h.own_size (ap (λ gs. slice_get gs (length h.own)) h.globals' ∙ first_behind h.own (V.I32 0 ∷ h.address ∷ []))

  -- a note of each side
  pub same_note : (y z : Note) → y.event ≡ z.event → Sm w y.store z.store → AtPaused z.event (Image w.original w.settings w.which y.stack w.plan.area.at w.plan.area.len z.store.memory)
      → z.since ≡ None → AtCalls z.event (Quiet z.store)
      → SameNote w.original w.settings w.which w.plan.area y z
  same_note y z ev st im none quiet = record { event = ev; ends = st; image = im; kept = λ at e. let q : None ≡ Some at = sym none ∙ e in cc; state = quiet }

  abbrev pub nb : State → Turn State Note
  nb = blocking (base w) w.plan

  abbrev pub nn : State → Turn State Note
  nn = na (room_in w) (used_in w) w.original w.settings w.which w.written w.plan

  -- with its pauses shown
  abbrev pub sh : Turn State Note → Turn State Note
  sh = shown_move (room_in w) (used_in w) w.plan.area.len

  -- up to a cost of n the run from here touches no byte of the area, and is known at its pauses
  pub record Allowed (n : ℕ) (a : State) : Type 0 where
    pub calm : (j : ℕ) (es : List Note) (t : State) → Leads nb a j es t → j < n → IsCalm w.plan.area t
    pub numbered : (j k : ℕ) (es fs : List Note) (t u : State) → Leads nb a j es t → nb t ≡ goes k fs u → j + suc k ≤ n → PausesKnown w.asserts w.original w.settings w.which fs

  pub allowed_less : (n k : ℕ) (a : State) → Allowed n a → k ≤ n → Allowed k a
  allowed_less n k a h le = record { calm = λ j es t l lt. h.calm j es t l (omega arith); numbered = λ j i es fs t u l e lt. h.numbered j i es fs t u l e (omega arith) }

  pub allowed_on : (n k : ℕ) (es : List Note) (a t : State) → nb a ≡ goes k es t → Allowed n a → Allowed (n - suc k) t
  allowed_on n k es a t e h = record {
    calm = λ j fs u l lt. h.calm (suc k + j) (es ++ fs) u (moves e l refl refl) (omega arith);
    numbered = λ j i fs gs u v l e2 le. h.numbered (suc k + j) i (es ++ fs) gs u v (moves e l refl refl) e2 (omega arith);
  }

  pub record LeftFits (l : Left) : Type 0 where
    pub entries : All (EntryFits w.original) l.entries
    pub outcomes : All OutcomeFits l.outcomes

  -- the function that the host called
  abbrev pub TopOf : Task → ℕ → Type 0
  TopOf the_start top = Unit {0}
  TopOf (an_entry e) top = EntryFits w.original e × (e.func ≡ top) × (length e.args ≡ param_count (func_type_at w.flat top))

  abbrev pub Rests : Store → Ran Held Note → Type 0
  Rests seen r = (r.events ≡ []) × Sm w seen (store_held r.last)

  pub rests_before : (seen : Store) (b b1 to : Held) (c k : ℕ) (gs : List Note) → Sil w seen b c b1 → pr w b1 ≡ goes k gs to → (j : ℕ) → j ≤ c + k → Rests seen (run (pr w) j b)
  rests_before seen b b1 to c k gs q e j le =
      ⊎_elim
      (λ few. q.each j (omega arith))
      (λ ge.
      let z : j ≡ c + (j - c) = omega arith in
      let r : run (pr w) j b ≡ run (pr w) (j - c) b1 = ap (λ i. run (pr w) i b) z ∙ leads_run Held Note (pr w) b b1 c (j - c) [] q.leads in
      let u = q.each c (omega arith) in
      let zz : c ≡ c + 0 = omega arith in
      let at : run (pr w) c b ≡ run (pr w) 0 b1 = ap (λ i. run (pr w) i b) zz ∙ leads_run Held Note (pr w) b b1 c 0 [] q.leads in
      let seen1 : Sm w seen (store_held b1) = subst (λ (o : Ran Held Note). Sm w seen (store_held o.last)) at u.1 in
      subst (Rests seen) (sym r) (silent_before w.original w.settings w.which w.written (xp w) w.plan seen b1 to k gs e seen1 (j - c) (omega arith)))
      (cases_lt j c)

  module _ (ft : WorldFits w) (sl : StoreLaws w) (L : (top spare : ℕ) → Configuration → Configuration → Type 0) (W : ℕ → ℕ → Configuration → Configuration → Type 0) (G : Store → Type 0)
      (law : FlatLaw w (λ c d. c ≡ d) L W G) where
    -- THE RELATION: a flat configuration stands between, with so much to spare
    pub record Link (top spare : ℕ) (c b : Configuration) : Type 0 where
      pub flat_at : Configuration
      pub link : L top spare c flat_at
      pub near : Near (sides w top) 9 flat_at b

    -- what the flat side may spend the written one may ten times
    pub data R (n spare : ℕ) : State → Held → Type 0 where
      r_between : {s s' : Store} {l : Left} → G s → Alike (setting w 0) s s' → LeftFits l → Allowed n (between s l) → R n spare (between s l) (free s' l)
      r_begins : {s s' : Store} {l : Left} {x : ℕ} → G s → Alike (setting w 0) s s' → LeftFits l → AreLawful (func_type_at (base w) x).params [] × (x < w.funcs) → Allowed n (begins x s l)
          → R n spare (begins x s l) (starting x s' l)
      r_runs : {c b : Configuration} {l : Left} {task : Task} → (top x : ℕ) → 10 * x ≤ spare → TopOf task top → Link top x c b → LeftFits l → Allowed n (runs task c l)
          → R n spare (runs task c l) (busy (is_running task) b l)
      r_halts : {s s' : Store} → Sm w s s' → R n spare (halts s) (over s')

    abbrev pub M : (n spare k : ℕ) (es : List Note) (a a' : State) (b : Held) → Type 0
    M = T.M w.original w.settings w.which w.written (xp w) w.plan nn R

    -- what a turn of A owes: while it can't be paid nothing is made, and where it can it is matched
    abbrev pub Owes : (n spare : ℕ) → State → Held → Turn State Note → Type 0
    Owes n spare a b stops = (j : ℕ) → Rests (store_of a) (run (pr w) j b)
    Owes n spare a b (goes k es t) = ((j : ℕ) → j ≤ k → Rests (store_of a) (run (pr w) j b)) × (suc k ≤ n → M n spare k es a t b)

    -- a stretch, one move that tells notes, and a stretch behind it
    pub tell_move : (n spare k j c c2 left : ℕ) (a a' : State) (b b1 b2 to : Held) (es1 gs : List Note) (y : Note) → Sil w (store_of a) b c b1 → pr w b1 ≡ goes j gs b2
        → AllAlike (SameNote w.original w.settings w.which w.plan.area) (es1 ++ y ∷ []) gs
        → Sil w y.store b2 c2 to → suc k ≤ c + suc j → c + suc j + c2 + left ≤ 256 * suc k + spare → Forwards b → Forwards b2 → (suc k ≤ n → R (n - suc k) left a' to)
        → Owes n spare a b (goes k (es1 ++ y ∷ []) a')
    tell_move n spare k j c c2 left a a' b b1 b2 to es1 gs y q e al q2 least most forwards forwards2 r =
        let t : Told w.original w.settings w.which w.written (xp w) w.plan (store_of a) (es1 ++ y ∷ []) b (c + suc j + c2) gs to = told es1 y q e al (no_more q2) refl refl (sym (append-nil gs)) in (
          λ i le. rests_before (store_of a) b b1 b2 c j gs q e i (omega arith),
          λ enough. by_told w.original w.settings w.which w.written (xp w) w.plan nn R n spare k (c + suc j + c2) left (es1 ++ y ∷ []) gs a a' b to t (omega arith) (
            calls_none_before w.original w.settings w.which w.written (xp w) w.plan None (store_of a) b b1 b2 c j gs q e forwards,
            calls_none w.original w.settings w.which w.written (xp w) w.plan (last_called None (events_of (es1 ++ y ∷ []))) y.store b2 to c2 q2 forwards2,
          )
              (omega arith) (omega arith) (r enough),
        )

    -- the same with nothing behind
    pub last_move : (n spare k j c : ℕ) (a a' : State) (b b1 to : Held) (es1 gs : List Note) (y : Note) → Sil w (store_of a) b c b1 → pr w b1 ≡ goes j gs to
        → AllAlike (SameNote w.original w.settings w.which w.plan.area) (es1 ++ y ∷ []) gs
        → Sm w y.store (store_held to) → (suc k ≤ c + suc j) × (c + suc j ≤ 256 * suc k + spare) → Forwards b → Forwards to → (suc k ≤ n → R (n - suc k) 0 a' to)
        → Owes n spare a b (goes k (es1 ++ y ∷ []) a')
    last_move n spare k j c a a' b b1 to es1 gs y q e al h most forwards forwards2 r =
        tell_move n spare k j c 0 0 a a' b b1 to to es1 gs y q e al (silent_none w.original w.settings w.which w.written (xp w) w.plan y.store to h) most.0 (let two = most.1 in omega arith) forwards forwards2 r

    -- ---- code that runs

    module _ (n spare top x : ℕ) (within : 10 * x ≤ spare) (task : Task) (c b : Configuration) (l : Left) (is_top : TopOf task top) (lk : Link top x c b) (lf : LeftFits l)
        (al : Allowed n (runs task c l)) where
      abbrev a0 : State
      a0 = runs task c l

      abbrev b0 : Held
      b0 = busy (is_running task) b l

      pub seen0 : Sm w c.store lk.flat_at.store
      seen0 = subst (λ s. Sm w c.store s) (sym (law.store top x c lk.flat_at lk.link)) (Rattle.run_laws.proofs.Keeping.same_refl (gl w) w.plan.area c.store)

      pub steps_case : (k : ℕ) (d : Configuration) → step (base w) c ≡ steps k d → FlatSteps w (λ c d. c ≡ d) L W G top x k d lk.flat_at → Owes n spare a0 b0 (goes k [] (runs task d l))
      steps_case k d is fs =
          let u1 = along w ft sl top task l c.store lk.flat_at fs.mid b fs.n1 fs.before lk.near seen0 in
          let u2 = up_to w ft sl top task l c.store fs.mid u1.to u1.near fs.proper u1.flat_store in
          let t = then_steps (setting w top) (step w.flat fs.mid) (step w.written u2.mid) fs.j fs.after u2.same fs.acts in
          let q1 = silent_on w.original w.settings w.which w.written (xp w) w.plan c.store b0 (busy (is_running task) u1.to l) (busy (is_running task) u2.mid l) u1.cost u2.cost u1.silent u2.silent in
          let mv : pr w (busy (is_running task) u2.mid l) ≡ goes fs.j [] (busy (is_running task) t.0 l) = ap (busy_step w.written (xp w) w.plan (is_running task) l) t.1 in
          let seen2 : Sm w d.store fs.after.store = subst (λ s. Sm w d.store s) (sym fs.store) (Rattle.run_laws.proofs.Keeping.same_refl (gl w) w.plan.area d.store) in
          let u3 = along w ft sl top task l d.store fs.after fs.to t.0 fs.n2 fs.behind t.2 seen2 in
          let a1 = u1.least in let a2 = u1.most in let a3 = u2.short in let a4 = u3.least in let a5 = u3.most in let a6 = fs.least in let a7 = fs.most in let a8 = within in let a9 = ft.few_tests in (
            λ j le. rests_before c.store b0 (busy (is_running task) u2.mid l) (busy (is_running task) t.0 l) (u1.cost + u2.cost) fs.j [] q1 mv j (omega arith),
            λ enough.
                by_silence w.original w.settings w.which w.written (xp w) w.plan nn R n spare k (u1.cost + u2.cost) fs.j u3.cost (10 * fs.left) a0 (runs task d l) b0
                (busy (is_running task) u2.mid l) (busy (is_running task) t.0 l) (busy (is_running task) u3.to l) q1 mv u3.silent (omega arith) (omega arith) tt
                (r_runs top fs.left (omega arith) is_top (record { flat_at = fs.to; link = fs.link; near = u3.near }) lf
                (allowed_on n k [] a0 (runs task d l) (ap (by_step (base w) w.plan task l) is) al)),
          )

      pub traps_case : (k : ℕ) (t : Trap) (s : Store) → FlatTraps w (λ c d. c ≡ d) L W G top x k t s lk.flat_at → Owes n spare a0 b0 (goes k (note (ended (Trapped t)) s ∷ []) (halts s))
      traps_case k t s fs =
          let u1 = along w ft sl top task l c.store lk.flat_at fs.at b fs.n fs.before lk.near seen0 in
          let u2 = up_to w ft sl top task l c.store fs.at u1.to u1.near fs.proper u1.flat_store in
          let r = then_traps (setting w top) (step w.flat fs.at) (step w.written u2.mid) fs.j t s u2.same fs.traps_there in
          let q1 = silent_on w.original w.settings w.which w.written (xp w) w.plan c.store b0 (busy (is_running task) u1.to l) (busy (is_running task) u2.mid l) u1.cost u2.cost u1.silent u2.silent in
          let mv : pr w (busy (is_running task) u2.mid l) ≡ goes fs.j (note (ended (Trapped t)) r.0 ∷ []) (over r.0) = ap (busy_step w.written (xp w) w.plan (is_running task) l) r.1 in
          let h = sl.same_end top s r.0 r.2 in
          let a9 = u1.least in let a4 = fs.least in let a1 = u1.most in let a2 = u2.short in let a3 = fs.most in let a5 = within in
          last_move n spare k fs.j (u1.cost + u2.cost) a0 (halts s) b0 (busy (is_running task) u2.mid l) (over r.0) [] (note (ended (Trapped t)) r.0 ∷ []) (note (ended (Trapped t)) s) q1 mv
          (same_note _ _ refl h tt refl (quiet_there top s r.0 r.2), tt) h (omega arith, omega arith) tt tt (λ enough. r_halts h)

      -- what comes behind the start function or an entry
      pub goes_on : (k : ℕ) (vs : List Value) (s : Store) → step (base w) c ≡ returns k vs s → FlatReturns w (λ c d. c ≡ d) L W G top x k vs s lk.flat_at
          → Owes n spare a0 b0 (sh (task_back k task vs s l))
      goes_on k vs s is fs = by_task task refl l.entries refl
        where
          u1 : Along w ft sl top task l c.store fs.n fs.at b
          u1 = along w ft sl top task l c.store lk.flat_at fs.at b fs.n fs.before lk.near seen0

          u2 : NoneAbove w ft sl top task l c.store fs.at u1.to
          u2 = up_to w ft sl top task l c.store fs.at u1.to u1.near fs.proper u1.flat_store

          r : (t : Store) × (step w.written u2.mid ≡ returns fs.j vs t) × Alike (setting w top) s t
          r = then_returns (setting w top) (step w.flat fs.at) (step w.written u2.mid) fs.j vs s u2.same fs.returns_there

          q1 : Sil w c.store b0 (u1.cost + u2.cost) (busy (is_running task) u2.mid l)
          q1 = silent_on w.original w.settings w.which w.written (xp w) w.plan c.store b0 (busy (is_running task) u1.to l) (busy (is_running task) u2.mid l) u1.cost u2.cost u1.silent u2.silent

          h : Sm w s r.0
          h = sl.same_end top s r.0 r.2

          q0 : Quiet r.0
          q0 = quiet_there top s r.0 r.2

          few : (suc k ≤ u1.cost + u2.cost + suc fs.j) × (u1.cost + u2.cost + suc fs.j ≤ 256 * suc k + spare)
          few = let a9 = u1.least in let a4 = fs.least in let a1 = u1.most in let a2 = u2.short in let a3 = fs.most in let a5 = within in (omega arith, omega arith)

          mv : pr w (busy (is_running task) u2.mid l) ≡ held_back fs.j task vs r.0 l
          mv = ap (busy_step w.written (xp w) w.plan (is_running task) l) r.1

          was : nb a0 ≡ task_back k task vs s l
          was = ap (by_step (base w) w.plan task l) is

          next_r : (l2 : Left) → l2.entries ≡ l.entries → l2.outcomes ≡ l.outcomes → (es : List Note) → nb a0 ≡ goes k es (between s l2) → suc k ≤ n → R (n - suc k) 0 (between s l2) (free r.0 l2)
          next_r l2 ee eo es e enough =
              r_between fs.good (other_top w top 0 s r.0 r.2) (record {
                entries = subst (All (EntryFits w.original)) (sym ee) lf.entries;
                outcomes =
                    subst (All OutcomeFits) (sym eo) lf.outcomes;
              }) (allowed_on n k es a0 (between s l2) e al)

          by_task : (tk : Task) → task ≡ tk → (es : List Entry) → l.entries ≡ es → Owes n spare a0 b0 (sh (task_back k task vs s l))
          by_task the_start et [] ee = subst (Owes n spare a0 b0) (sym (ap (sh) (ap (λ z. task_back k z vs s l) et ∙ ap (λ z. goes k (done_notes s z) (on_to s l z)) ee)))
              (last_move n spare k fs.j (u1.cost + u2.cost) a0 (halts s) b0 (busy (is_running task) u2.mid l) (over r.0) [] (note (ended Done) r.0 ∷ []) (note (ended Done) s) q1 (mv
              ∙ ap (λ z. held_back fs.j z vs r.0 l) et ∙ ap (λ z. goes fs.j (done_notes r.0 z) (held_on r.0 l z)) ee) (same_note _ _ refl h tt refl q0, tt) h few tt tt (λ enough. r_halts h))
          by_task the_start et (e1 ∷ es) ee = subst (Owes n spare a0 b0) (sym (ap (sh) (ap (λ z. task_back k z vs s l) et ∙ ap (λ z. goes k (done_notes s z) (on_to s l z)) ee)))
              (silent_last (mv ∙ ap (λ z. held_back fs.j z vs r.0 l) et ∙ ap (λ z. goes fs.j (done_notes r.0 z) (held_on r.0 l z)) ee)
              (next_r l refl refl [] (was ∙ ap (λ z. task_back k z vs s l) et ∙ ap (λ z. goes k (done_notes s z) (on_to s l z)) ee)))
            where
              silent_last : pr w (busy (is_running task) u2.mid l) ≡ goes fs.j [] (free r.0 l) → (suc k ≤ n → R (n - suc k) 0 (between s l) (free r.0 l)) → Owes n spare a0 b0 (goes k [] (between s l))
              silent_last e rr = (
                λ j le. rests_before c.store b0 (busy (is_running task) u2.mid l) (free r.0 l) (u1.cost + u2.cost) fs.j [] q1 e j (let a1 = few.0 in omega arith),
                λ enough. let a1 = few.0 in let a2 = few.1 in by_silence w.original w.settings w.which w.written (xp w) w.plan nn R n spare k (u1.cost + u2.cost) fs.j 0 0 a0
                    (between s l) b0 (busy (is_running task) u2.mid l) (free r.0 l) (free r.0 l) q1 e (silent_none w.original w.settings w.which w.written (xp w) w.plan s (free r.0 l) h)
                    (omega arith) (omega arith) tt (rr enough),
              )
          by_task (an_entry e) et [] ee =
              subst (Owes n spare a0 b0) (sym (ap (sh) (ap (λ z. task_back k z vs s l) et
              ∙ ap (λ z. goes k (note (returned l.number (value_of_results vs)) s ∷ done_notes s z) (on_to s (next_entry l) z)) ee)))
              (last_move n spare k fs.j (u1.cost + u2.cost) a0 (halts s) b0 (busy (is_running task) u2.mid l) (over r.0) (note (returned l.number (value_of_results vs)) s ∷ [])
              (note (returned l.number (value_of_results vs)) r.0 ∷ note (ended Done) r.0 ∷ []) (note (ended Done) s) q1
              (mv ∙ ap (λ z. held_back fs.j z vs r.0 l) et ∙ ap (λ z. goes fs.j (note (returned l.number (value_of_results vs)) r.0 ∷ done_notes r.0 z) (held_on r.0 (next_entry l) z)) ee)
              (same_note _ _ refl h tt refl q0, (same_note _ _ refl h tt refl q0, tt)) h few tt tt (λ enough. r_halts h))
          by_task (an_entry e) et (e1 ∷ es) ee =
              subst (Owes n spare a0 b0) (sym (ap (sh) (ap (λ z. task_back k z vs s l) et
              ∙ ap (λ z. goes k (note (returned l.number (value_of_results vs)) s ∷ done_notes s z) (on_to s (next_entry l) z)) ee)))
              (last_move n spare k fs.j (u1.cost + u2.cost) a0 (between s (next_entry l)) b0 (busy (is_running task) u2.mid l) (free r.0 (next_entry l)) []
              (note (returned l.number (value_of_results vs)) r.0 ∷ []) (note (returned l.number (value_of_results vs)) s) q1
              (mv ∙ ap (λ z. held_back fs.j z vs r.0 l) et ∙ ap (λ z. goes fs.j (note (returned l.number (value_of_results vs)) r.0 ∷ done_notes r.0 z) (held_on r.0 (next_entry l) z)) ee)
              (same_note _ _ refl h tt refl q0, tt) h few tt tt (next_r (next_entry l) refl refl (note (returned l.number (value_of_results vs)) s ∷ [])
              (was ∙ ap (λ z. task_back k z vs s l) et ∙ ap (λ z. goes k (note (returned l.number (value_of_results vs)) s ∷ done_notes s z) (on_to s (next_entry l) z)) ee)))
