-- A call of an import: to the call, and the outcomes without a pause.
use Rattle.headline.specs.World.{World, WorldFits, base, setting}
use Rattle.guard_runs.proofs.EachStretch.{answers_go_on}
use Rattle.guard_runs.proofs.Stores.{together}
use Rattle.guard_runs.specs.Alike.{Alike}
use Rattle.guard_runs.specs.Beside.{Callers}
use Rattle.headline.proofs.AllArgs.{all_args}
use Rattle.headline.proofs.FlatStretches.{Sil, Sm, along, gl, pr, sides, then_asks, up_to, xp}
use Rattle.headline.specs.StoreLaws.{StoreLaws}
use Rattle.headline.proofs.Reductions.{Allowed, LeftFits, Link, Owes, Quiet, TopOf, allowed_on, last_move, nb, quiet_there, r_halts, r_runs, same_note, seen0, sh, tell_move}
use Rattle.headline.proofs.ToldMoves.{silent_on}
use Rattle.headline.specs.FlatLaw.{FlatAsks, FlatLaw}
use Rattle.run_laws.proofs.Keeping.{same_refl}
use Rattle.std.proofs.Common.{All, Bool, List, None, Option, Some, [], ap, arith, false, length, refl, subst, suc, sym, true, zero, ℕ, ◌*◌, ◌+◌, ◌<◌, ◌∙◌, ◌∷◌, ◌≡◌, ◌≤◌}
use Rattle.run_theory.proofs.QuietRuns.{at_calls}
use Rattle.run_theory.proofs.TestedPokes.{passes_area}
use Rattle.std.specs.Option.{option_to_list}
use Rattle.wa_model.specs.Blocking.{Left, Note, State, Task, asked, bad_pause, bad_poke, bad_value, by_step, call_note, ends_at_call, fault_of, go_on, halts, import_traps, inside, is_start, is_unlisted, note, or_else, pause_of, poked, resumed, runs, tested, with_outcomes}
use Rattle.wa_model.specs.Configuration.{Configuration, stack_of}
use Rattle.wa_model.specs.Machine.{Turn, goes}
use Rattle.wa_model.specs.Outside.{Answer, answered, ended}
use Rattle.wa_model.specs.Plan.{AnswerFits, Outcome, OutcomeFits, Plan, given, refused}
use Rattle.wa_model.specs.Protocol.{Held, busy, busy_step, held_asked, held_ends, held_given, held_tested, is_running, over}
use Rattle.wa_model.specs.Step.{asks, step}
use Rattle.wa_model.specs.Store.{Store}
use Rattle.wa_model.specs.declared.answers.Said.{Said}
use Rattle.wa_model.specs.declared.answers.Said.TheVariants as S
use Rattle.wa_model.specs.declared.events.End.{End}
use Rattle.wa_model.specs.declared.events.End.TheVariants.{Trapped}
use Rattle.wa_types.specs.Modules.{func_type_at}
use Rattle.wa_types.specs.declared.values.Trap.TheVariants.{Import}
use Rattle.wa_types.specs.declared.values.ValType.{ValType}
use Rattle.wa_types.specs.declared.values.Value.{Value}

pub first_fits : (o : Outcome) (os : List Outcome) → All OutcomeFits (o ∷ os) → OutcomeFits o
first_fits o os h = let lt : 0 < length (o ∷ os) = omega arith in h 0 o lt

pub others_fit : (o : Outcome) (os : List Outcome) → All OutcomeFits (o ∷ os) → All OutcomeFits os
others_fit o os h = λ k d lt. let more : suc k < length (o ∷ os) = omega arith in h (suc k) d more

-- what was said is a value, or a trap
pub by_said : {X : Type 0} (said : Said) → ((v : Option Value) → said ≡ S.Value v → X) → (said ≡ S.Trap → X) → X
by_said (S.Value v) value trap = value v refl
by_said S.Trap value trap = trap refl

else_none : (a b : Option End) → or_else a b ≡ None → (a ≡ None) × (b ≡ None)
else_none None b h = (refl, h)
else_none (Some e) b h = cc

-- an answer without a fault doesn't pause inside the start function
pub no_pause_in_start : (types : List ValType) (size : ℕ) (plan : Plan) (i : ℕ) (a : Answer) → fault_of types size plan true i a ≡ None → pause_of a.ticks ≡ None
no_pause_in_start types size plan i a h =
    let q = else_none (bad_value types i a.said) (or_else (bad_poke size (plan.area ∷ plan.others) a.pokes) (bad_pause true (is_unlisted plan.listed i) i a.ticks)) h in
    by_ticks a.ticks (else_none (bad_poke size (plan.area ∷ plan.others) a.pokes) (bad_pause true (is_unlisted plan.listed i) i a.ticks) q.1).1
  where
    by_ticks : (t : ℕ) → bad_pause true (is_unlisted plan.listed i) i t ≡ None → pause_of t ≡ None
    by_ticks zero e = refl
    by_ticks (suc t) e = cc

-- who pauses without a fault is let pause
pub pause_allowed : (types : List ValType) (size : ℕ) (plan : Plan) (start : Bool) (i : ℕ) (a : Answer) (ticks : ℕ) → fault_of types size plan start i a ≡ None → pause_of a.ticks ≡ Some ticks
    → is_unlisted plan.listed i ≡ false
pause_allowed types size plan start i a ticks h et =
    let q = else_none (bad_value types i a.said) (or_else (bad_poke size (plan.area ∷ plan.others) a.pokes) (bad_pause start (is_unlisted plan.listed i) i a.ticks)) h in
    by start (is_unlisted plan.listed i) a.ticks (else_none (bad_poke size (plan.area ∷ plan.others) a.pokes) (bad_pause start (is_unlisted plan.listed i) i a.ticks) q.1).1 et
  where
    by : (s u : Bool) (t : ℕ) → bad_pause s u i t ≡ None → pause_of t ≡ Some ticks → u ≡ false
    by s u zero e p = cc
    by true u (suc t) e p = cc
    by false true (suc t) e p = cc
    by false false (suc t) e p = refl

module _ (w : World) (ft : WorldFits w) (sl : StoreLaws w) (L : (top spare : ℕ) → Configuration → Configuration → Type 0) (W : ℕ → ℕ → Configuration → Configuration → Type 0) (G : Store
    → Type 0) (law : FlatLaw w (λ c d. c ≡ d) L W G) where
  -- where the written side calls the import
  pub record Called (top spare : ℕ) (task : Task) (l : Left) (seen : Store) (b : Configuration) (k i : ℕ) (args : List Value) (d : Configuration) : Type 0 where
    pub cost : ℕ
    pub j : ℕ
    pub least : suc k ≤ cost + suc j
    pub few : cost + suc j ≤ 20 * suc k + 9 + spare
    pub mid : Configuration
    pub silent : Sil w seen (busy (is_running task) b l) cost (busy (is_running task) mid l)
    pub flat_at : Configuration
    pub waits : W top i d flat_at
    pub at : Configuration
    pub asks_there : step w.written mid ≡ asks j i args at
    pub all_there : length args ≡ j
    pub alike : Alike (setting w top) d.store at.store
    pub stack : Callers (sides w top) i (flat_at.here ∷ flat_at.under) (at.here ∷ at.under)

  module _ (n spare top x : ℕ) (within : 10 * x ≤ spare) (task : Task) (c b : Configuration) (l : Left) (is_top : TopOf w task top) (lk : Link w ft sl L W G law top x c b)
      (lf : LeftFits w l) (al : Allowed w n (runs task c l)) where
    abbrev pub a0 : State
    a0 = runs task c l

    abbrev pub b0 : Held
    b0 = busy (is_running task) b l

    abbrev pub O : Turn State Note → Type 0
    O = Owes w ft sl L W G law n spare (runs task c l) (busy (is_running task) b l)

    pub to_call : (k i : ℕ) (args : List Value) (d : Configuration) → FlatAsks w (λ c d. c ≡ d) L W G top x k i args d lk.flat_at → Called top spare task l c.store b k i args d
    to_call k i args d fs =
        let u1 = along w ft sl top task l c.store lk.flat_at fs.at b fs.n fs.before lk.near (seen0 w ft sl L W G law n spare top x within task c b l is_top lk lf al) in
        let u2 = up_to w ft sl top task l c.store fs.at u1.to u1.near fs.proper u1.flat_store in
        let t = then_asks (setting w top) (step w.flat fs.at) (step w.written u2.mid) fs.j i args fs.to u2.same fs.asks_there in
        let a9 = u1.least in let a4 = fs.least in let a1 = u1.most in let a2 = u2.short in let a3 = fs.most in let a5 = within in
        let ask = t.2 in
        record {
          cost = u1.cost + u2.cost;
          j = fs.j;
          least = omega arith;
          few = omega arith;
          mid = u2.mid;
          silent = silent_on w.original w.settings w.which w.written (xp w) w.plan c.store b0 (busy (is_running task) u1.to l) (busy (is_running task) u2.mid l) u1.cost u2.cost u1.silent u2.silent;
          flat_at = fs.to;
          waits = fs.waits;
          at = t.0;
          asks_there = t.1;
          all_there = all_args (sides w top) fs.at fs.to fs.j i args fs.proper fs.asks_there;
          alike = subst (λ s. Alike (setting w top) s (t.0).store) (law.waits_store top i d fs.to fs.waits) ask.store;
          stack = ask.stack;
        }

    module _ (k i : ℕ) (args : List Value) (d : Configuration) (is : step (base w) c ≡ asks k i args d) (cd : Called top spare task l c.store b k i args d) where
      abbrev pub b1 : Held
      b1 = busy (is_running task) cd.mid l

      pub same_d : Sm w d.store (cd.at).store
      same_d = sl.same_end top d.store (cd.at).store cd.alike

      quiet_d : Quiet w (cd.at).store
      quiet_d = quiet_there w top d.store (cd.at).store cd.alike

      paid : (suc k ≤ cd.cost + suc cd.j) × (cd.cost + suc cd.j ≤ 256 * suc k + spare)
      paid = let a1 = cd.few in (cd.least, omega arith)

      pub now : pr w b1 ≡ held_asked w.written (xp w) w.plan cd.j i args (inside task cd.at) l l.outcomes
      now = ap (busy_step w.written (xp w) w.plan (is_running task) l) cd.asks_there

      pub was : nb w a0 ≡ asked (base w) w.plan k i args (inside task d) l l.outcomes
      was = ap (by_step (base w) w.plan task l) is

      abbrev pub fault : Answer → Option End
      fault a = fault_of (func_type_at (base w) i).results (length d.store.memory) w.plan (is_start task) i a

      same_fault : (a : Answer) → fault_of (func_type_at w.written i).results (length (cd.at).store.memory) w.plan (is_start task) i a ≡ fault a
      same_fault a =
          let kn = law.waits_known top i d cd.flat_at cd.waits in
          let sz = same_d in
          ap (λ z. fault_of z.results (length (cd.at).store.memory) w.plan (is_start task) i a) (ft.import_type i kn.0)
          ∙ ap (λ z. fault_of (func_type_at (base w) i).results z w.plan (is_start task) i a) (sym sz.size)

      -- the run ends at the call
      ends_there : (e : End) → pr w b1 ≡ held_ends cd.j (call_note i args (cd.at).store (stack_of w.written cd.at) None) e
          → O (sh w (ends_at_call k (call_note i args d.store (stack_of (base w) d) None) e))
      ends_there e mv =
          last_move w ft sl L W G law n spare k cd.j cd.cost a0 (halts d.store) b0 b1 (over (cd.at).store) (call_note i args d.store (stack_of (base w) d) None ∷ [])
          (call_note i args (cd.at).store (stack_of w.written cd.at) None ∷ note (ended e) (cd.at).store ∷ []) (note (ended e) d.store) cd.silent mv
          (same_note w _ _ refl same_d tt refl quiet_d, (same_note w _ _ refl same_d tt refl (at_calls (ended e) (Quiet w (cd.at).store) quiet_d), tt)) same_d paid tt tt (λ enough. r_halts same_d)

      pub tested_now : (a : Answer) (os : List Outcome) (o : Option End) → l.outcomes ≡ given a ∷ os → fault a ≡ o
          → pr w b1 ≡ held_tested w.written (xp w) w.plan cd.j i args (inside task cd.at) (with_outcomes l os) a o (pause_of a.ticks)
      tested_now a os o eo ef =
          now ∙ ap (held_asked w.written (xp w) w.plan cd.j i args (inside task cd.at) l) eo
          ∙ ap (λ z. held_tested w.written (xp w) w.plan cd.j i args (inside task cd.at) (with_outcomes l os) a z (pause_of a.ticks)) (same_fault a ∙ ef)

      pub left_fits : (a : Answer) (os : List Outcome) → l.outcomes ≡ given a ∷ os → LeftFits w (with_outcomes l os)
      left_fits a os eo = record { entries = lf.entries; outcomes = others_fit (given a) os (subst (All OutcomeFits) eo lf.outcomes) }

      pub answer_fits : (a : Answer) (os : List Outcome) → l.outcomes ≡ given a ∷ os → AnswerFits a
      answer_fits a os eo = first_fits (given a) os (subst (All OutcomeFits) eo lf.outcomes)

      pub went_on : (a : Answer) (os : List Outcome) → l.outcomes ≡ given a ∷ os → fault a ≡ None
          → nb w a0 ≡ go_on k (call_note i args d.store (stack_of (base w) d) (pause_of a.ticks)) a.said (poked d.store a.pokes) (with_outcomes l os) (inside task d)
      went_on a os eo ef = was ∙ ap (asked (base w) w.plan k i args (inside task d) l) eo ∙ ap (tested (base w) k i args (inside task d) (with_outcomes l os) a) ef

      -- the answer is given on both sides, from a suspended stack that the original's belongs to
      pub record Given_on (lo : Left) (seen : Store) (c2 : Configuration) (from : Configuration) : Type 0 where
        pub cost : ℕ
        pub left : ℕ
        pub few : cost + 10 * left ≤ 90
        pub to : Configuration
        pub silent : Sil w seen (busy (is_running task) from lo) cost (busy (is_running task) to lo)
        pub link : Link w ft sl L W G law top left c2 to

      pub give : (lo : Left) (a : Answer) (v : Option Value) (f bw : Configuration) → a.said ≡ S.Value v → W top i d f → Alike (setting w top) d.store bw.store → Callers (sides w top) i (f.here ∷ f.under) (bw.here ∷ bw.under)
          → AnswerFits a → fault a ≡ None
          → Given_on lo (poked d.store a.pokes) (resumed d (poked d.store a.pokes) (option_to_list v)) (resumed bw (poked bw.store a.pokes) (option_to_list v))
      give lo a v f bw told wt like us fits ef =
          let alike2 = sl.poked_too top d.store bw.store a like (passes_area (func_type_at (base w) i).results (length d.store.memory) w.plan (is_start task) i a ef) in
          let nr = answers_go_on (sides w top) (poked d.store a.pokes) (poked bw.store a.pokes) i f.here bw.here f.under bw.under (option_to_list v)
          (together (setting w top) (ft.paired top)) alike2 us in
          let fo = law.answered top i d f (is_start task) a v wt fits told ef in
          let u = along w ft sl top task lo (poked d.store a.pokes) (resumed f (poked d.store a.pokes) (option_to_list v)) fo.to
          (resumed bw (poked bw.store a.pokes) (option_to_list v)) fo.n fo.goes nr (same_refl (gl w) w.plan.area (poked d.store a.pokes)) in
          let a1 = fo.few in let a2 = u.most in let a3 = ft.few_tests in
          record { cost = u.cost; left = fo.left; few = omega arith; to = u.to; silent = u.silent; link = record { flat_at = fo.to; link = fo.link; near = u.near } }

      at_once : (a : Answer) (v : Option Value) (os : List Outcome) → a.said ≡ S.Value v → l.outcomes ≡ given a ∷ os → fault a ≡ None → pause_of a.ticks ≡ None
          → O (sh w (tested (base w) k i args (inside task d) (with_outcomes l os) a None))
      at_once a v os told eo ef et =
          let lo = with_outcomes l os in
          let alike2 = sl.poked_too top d.store (cd.at).store a cd.alike (passes_area (func_type_at (base w) i).results (length d.store.memory) w.plan (is_start task) i a ef) in
          let same2 = sl.same_end top (poked d.store a.pokes) (poked (cd.at).store a.pokes) alike2 in
          let quiet2 = quiet_there w top (poked d.store a.pokes) (poked (cd.at).store a.pokes) alike2 in
          let gv = give lo a v cd.flat_at cd.at told cd.waits cd.alike cd.stack (answer_fits a os eo) ef in
          let mv = tested_now a os None eo ef ∙ ap (held_tested w.written (xp w) w.plan cd.j i args (inside task cd.at) lo a None) et
          ∙ ap (λ z. held_given cd.j (call_note i args (cd.at).store (stack_of w.written cd.at) None) z (poked (cd.at).store a.pokes) lo (inside task cd.at)) told in
          let a1 = cd.few in let a2 = gv.few in
          let was2 = went_on a os eo ef ∙ ap (λ z. go_on k (call_note i args d.store (stack_of (base w) d) z) a.said (poked d.store a.pokes) lo (inside task d)) et
          ∙ ap (λ z. go_on k (call_note i args d.store (stack_of (base w) d) None) z (poked d.store a.pokes) lo (inside task d)) told in
          let owes : O (goes k (call_note i args d.store (stack_of (base w) d) None ∷ note (answered (S.Value v)) (poked d.store a.pokes) ∷ [])
          (runs task (resumed d (poked d.store a.pokes) (option_to_list v)) lo)) =
          tell_move w ft sl L W G law n spare k cd.j cd.cost gv.cost (10 * gv.left) a0 (runs task (resumed d (poked d.store a.pokes) (option_to_list v)) lo) b0 b1
          (busy (is_running task) (resumed cd.at (poked (cd.at).store a.pokes) (option_to_list v)) lo) (busy (is_running task) gv.to lo)
          (call_note i args d.store (stack_of (base w) d) None ∷ []) (call_note i args (cd.at).store (stack_of w.written cd.at) None ∷ note (answered (S.Value v)) (poked (cd.at).store a.pokes)
          ∷ []) (note (answered (S.Value v)) (poked d.store a.pokes)) cd.silent mv
          (same_note w _ _ refl same_d tt refl quiet_d, (same_note w _ _ refl same2 tt refl quiet2, tt)) gv.silent cd.least (omega arith) tt tt
          (λ enough. r_runs top gv.left (omega arith) is_top gv.link (left_fits a os eo) (allowed_on w n k _ a0 _ was2 al)) in
          subst (λ z. O (sh w (go_on k (call_note i args d.store (stack_of (base w) d) z) a.said (poked d.store a.pokes) lo (inside task d)))) (sym et)
          (subst (λ z. O (sh w (go_on k (call_note i args d.store (stack_of (base w) d) None) z (poked d.store a.pokes) lo (inside task d)))) (sym told) owes)

      -- the import traps, and the run ends
      traps_there : (a : Answer) (os : List Outcome) → a.said ≡ S.Trap → l.outcomes ≡ given a ∷ os → fault a ≡ None → pause_of a.ticks ≡ None
          → O (sh w (tested (base w) k i args (inside task d) (with_outcomes l os) a None))
      traps_there a os told eo ef et =
          let lo = with_outcomes l os in
          let alike2 = sl.poked_too top d.store (cd.at).store a cd.alike (passes_area (func_type_at (base w) i).results (length d.store.memory) w.plan (is_start task) i a ef) in
          let same2 = sl.same_end top (poked d.store a.pokes) (poked (cd.at).store a.pokes) alike2 in
          let quiet2 = quiet_there w top (poked d.store a.pokes) (poked (cd.at).store a.pokes) alike2 in
          let mv = tested_now a os None eo ef ∙ ap (held_tested w.written (xp w) w.plan cd.j i args (inside task cd.at) lo a None) et
          ∙ ap (λ z. held_given cd.j (call_note i args (cd.at).store (stack_of w.written cd.at) None) z (poked (cd.at).store a.pokes) lo (inside task cd.at)) told in
          let owes : O (goes k (call_note i args d.store (stack_of (base w) d) None ∷ import_traps (poked d.store a.pokes)) (halts (poked d.store a.pokes))) =
          last_move w ft sl L W G law n spare k cd.j cd.cost a0 (halts (poked d.store a.pokes)) b0 b1 (over (poked (cd.at).store a.pokes))
          (call_note i args d.store (stack_of (base w) d) None ∷ note (answered S.Trap) (poked d.store a.pokes) ∷ [])
          (call_note i args (cd.at).store (stack_of w.written cd.at) None ∷ import_traps (poked (cd.at).store a.pokes)) (note (ended (Trapped Import)) (poked d.store a.pokes)) cd.silent mv
          (same_note w _ _ refl same_d tt refl quiet_d, (same_note w _ _ refl same2 tt refl quiet2, (same_note w _ _ refl same2 tt refl quiet2, tt))) same2 paid tt tt (λ enough. r_halts same2) in
          subst (λ z. O (sh w (go_on k (call_note i args d.store (stack_of (base w) d) z) a.said (poked d.store a.pokes) lo (inside task d)))) (sym et)
          (subst (λ z. O (sh w (go_on k (call_note i args d.store (stack_of (base w) d) None) z (poked d.store a.pokes) lo (inside task d)))) (sym told) owes)

      -- a pause is left to its own file
      abbrev pub Pausing : Type 0
      Pausing = (a : Answer) (os : List Outcome) (ticks : ℕ) → l.outcomes ≡ given a ∷ os → fault a ≡ None → pause_of a.ticks ≡ Some ticks
          → O (sh w (tested (base w) k i args (inside task d) (with_outcomes l os) a None))

      pub asks_case : Pausing → O (sh w (asked (base w) w.plan k i args (inside task d) l l.outcomes))
      asks_case pausing = by_outcomes l.outcomes refl
        where
          by_pause : (a : Answer) (os : List Outcome) → l.outcomes ≡ given a ∷ os → fault a ≡ None → (o : Option ℕ) → pause_of a.ticks ≡ o
              → O (sh w (tested (base w) k i args (inside task d) (with_outcomes l os) a None))
          by_pause a os eo ef None et = by_said a.said (λ v told. at_once a v os told eo ef et) (λ told. traps_there a os told eo ef et)
          by_pause a os eo ef (Some ticks) et = pausing a os ticks eo ef et

          by_fault : (a : Answer) (os : List Outcome) → l.outcomes ≡ given a ∷ os → (o : Option End) → fault a ≡ o → O (sh w (tested (base w) k i args (inside task d) (with_outcomes l os) a o))
          by_fault a os eo None ef = by_pause a os eo ef (pause_of a.ticks) refl
          by_fault a os eo (Some e) ef = ends_there e (tested_now a os (Some e) eo ef)

          by_outcomes : (os : List Outcome) → l.outcomes ≡ os → O (sh w (asked (base w) w.plan k i args (inside task d) l l.outcomes))
          by_outcomes [] eo =
              subst (λ z. O (sh w (asked (base w) w.plan k i args (inside task d) l z))) (sym eo)
              (last_move w ft sl L W G law n spare k cd.j cd.cost a0 (halts d.store) b0 b1 (over (cd.at).store) [] (call_note i args (cd.at).store (stack_of w.written cd.at) None ∷ [])
              (call_note i args d.store (stack_of (base w) d) None) cd.silent
              (now ∙ ap (held_asked w.written (xp w) w.plan cd.j i args (inside task cd.at) l) eo) (same_note w _ _ refl same_d tt refl quiet_d, tt) same_d paid tt tt (λ enough. r_halts same_d))
          by_outcomes (refused e ∷ os) eo =
              subst (λ z. O (sh w (asked (base w) w.plan k i args (inside task d) l z))) (sym eo)
              (ends_there e (now ∙ ap (held_asked w.written (xp w) w.plan cd.j i args (inside task cd.at) l) eo))
          by_outcomes (given a ∷ os) eo =
              subst (λ z. O (sh w (asked (base w) w.plan k i args (inside task d) l z))) (sym eo) (by_fault a os eo (fault a) refl)
