-- The simulation: each move of the shown blocking machine is matched under the protocol; with it, all that is owed.
use Rattle.run_theory.proofs.TestedPokes.{passes_area}
use Rattle.headline.specs.WrittenRuns.{WrittenLaw}
use Rattle.headline.specs.World.{World, WorldFits, base, setting}
use Rattle.guard_runs.proofs.EachStretch.{calls_begin}
use Rattle.guard_runs.proofs.Stores.{together}
use Rattle.guard_runs.specs.Alike.{Alike}
use Rattle.headline.proofs.Asks.{asks_case, by_said, first_fits, no_pause_in_start, others_fit, pause_allowed, to_call}
use Rattle.headline.proofs.FlatStretches.{Sm, along, gl, other_top, pr, sides, xp}
use Rattle.headline.specs.Given.{LetsPause}
use Rattle.headline.specs.StoreLaws.{StoreLaws}
use Rattle.headline.proofs.FromSimulation.{Simulates}
use Rattle.headline.proofs.Pauses.{pausing}
use Rattle.headline.proofs.Reductions.{Allowed, LeftFits, Link, Owes, Quiet, R, Rests, TopOf, allowed_less, allowed_on, goes_on, last_move, nb, nn, quiet_there, r_begins, r_between, r_halts, r_runs, rests_before, same_note, sh, steps_case, traps_case}
use Rattle.headline.proofs.ToldMoves.{Sees, Sees_at, by_silence, dear_of, silent_none}
use Rattle.headline.specs.FlatLaw.{FlatAsks, FlatEnters, FlatLaw, FlatNext}
use Rattle.headline.specs.Halts.{HaltLaw, room_in, used_in}
use Rattle.run_laws.proofs.Keeping.{same_refl}
use Rattle.std.proofs.Common.{All, Bool, List, None, Option, Some, [], ap, arith, false, length, refl, subst, suc, sym, true, ℕ, ⊎_elim, ◌<◌, ◌∙◌, ◌∷◌, ◌≡◌, ◌≤◌, ◌*◌}
use Rattle.std.proofs.lemmas.Bool.{cases_lt, ltb-true}
use Rattle.std.specs.Prelude.{if◌then◌else◌, nat_lt}
use Rattle.run_theory.proofs.QuietRuns.{at_calls}
use Rattle.run_theory.proofs.Rewound.{Forwards, forwards_asks, silent_forwards}
use Rattle.run_theory.proofs.Runs.{no_move}
use Rattle.run_theory.proofs.Follow.{Match, On_way, all_made, not_yet, up_to}
use Rattle.wa_model.specs.Behaves.{SameNote}
use Rattle.wa_model.specs.Blocking.{Left, Note, State, Task, an_entry, asked, begins, between, by_step, call_note, done_notes, ends_at_call, enter_next, enters, fault_of, go_on, halts, import_traps, inside, note, on_to, outermost, pause_of, poked, runs, start_called, store_of, tested, the_start, with_outcomes}
use Rattle.wa_model.specs.Configuration.{Configuration}
use Rattle.wa_model.specs.Machine.{Leads, Ran, Turn, goes, run, stays, stops}
use Rattle.wa_model.specs.Outside.{Answer, answered, ended}
use Rattle.wa_model.specs.Plan.{AreLawful, Entry, EntryFits, Outcome, OutcomeFits, Plan, given, refused}
use Rattle.wa_model.specs.Protocol.{Held, busy, busy_enters, calling, give_zero, unwinds, free, held_asked, held_ends, held_given, held_next, held_on, held_start, held_tested, is_running, over, starting, store_held}
use Rattle.wa_model.specs.Step.{Next, asks, entered, returns, step, steps, stuck, traps}
use Rattle.wa_model.specs.Store.{Store}
use Rattle.wa_model.specs.declared.answers.Said.TheVariants as S
use Rattle.wa_model.specs.declared.events.End.{End}
use Rattle.wa_model.specs.declared.events.End.TheVariants.{Done, Trapped}
use Rattle.wa_types.specs.Base.{Base}
use Rattle.wa_types.specs.Modules.{defined_at, func_imports, func_type_at}
use Rattle.wa_types.specs.Syntax.{Func, Module}
use Rattle.wa_types.specs.declared.values.Trap.TheVariants.{Import}
use Rattle.wa_types.specs.declared.values.Value.{Value}

base_defined : (m : Module) (x : ℕ) → defined_at (Base m) x ≡ defined_at m x
unfolding Base
base_defined m x = refl

base_type : (m : Module) (x : ℕ) → func_type_at (Base m) x ≡ func_type_at m x
unfolding Base
base_type m x = refl

-- what is known of the written side where it begins is known wherever it gets
pub known_along : (w : World) (Known : Held → Type 0) → WrittenLaw w Known → (b t : Held) (k : ℕ) (es : List Note) → Known b → Leads (pr w) b k es t → Known t
known_along w Known wl b t k es h Leads.stays = h
known_along w Known wl b t k es h (Leads.moves {t = t1} {k = k1} {n = n1} {es = es1} {fs = fs} e rest em eg) = known_along w Known wl t1 t n1 fs (wl.keeps b t1 k1 es1 h e) rest

module _ (w : World) (ft : WorldFits w) (sl : StoreLaws w) (L : (top spare : ℕ) → Configuration → Configuration → Type 0) (W : ℕ → ℕ → Configuration → Configuration → Type 0) (G : Store
    → Type 0) (law : FlatLaw w (λ c d. c ≡ d) L W G)
    (Known : Held → Type 0) (wl : WrittenLaw w Known) (hl : HaltLaw w W) where
  abbrev Rel : (n spare : ℕ) → State → Held → Type 0
  Rel = R w ft sl L W G law

  -- with what is known of the written side
  abbrev pub Both : (n spare : ℕ) → State → Held → Type 0
  Both n spare a b = Rel n spare a b × Known b

  -- stretches keep it
  abbrev Ow : (n spare : ℕ) → State → Held → Turn State Note → Type 0
  Ow = Owes w ft sl L W G law

  -- nothing comes next on both sides
  none_next : (n spare : ℕ) (a : State) (b : Held) → Sm w (store_of a) (store_held b) → pr w b ≡ stops → Ow n spare a b stops
  none_next n spare a b h e = λ j.
      let z = no_move Held Note (pr w) j b e in
      (ap (λ r. r.events) z, subst (λ (r : Ran Held Note). Sm w (store_of a) (store_held r.last)) (sym z) h)

  -- ---- code that runs

  asks_of : (n spare top x : ℕ) (within : 10 * x ≤ spare) (task : Task) (c b : Configuration) (l : Left) (is_top : TopOf w task top) (lk : Link w ft sl L W G law top x c b)
      (lf : LeftFits w l) (al : Allowed w n (runs task c l))
      → Known (busy (is_running task) b l) → (k i : ℕ) (args : List Value) (d : Configuration) → step (base w) c ≡ asks k i args d
      → FlatAsks w (λ c d. c ≡ d) L W G top x k i args d lk.flat_at → Ow n spare (runs task c l) (busy (is_running task) b l)
      (sh w (asked (base w) w.plan k i args (inside task d) l l.outcomes))
  asks_of n spare top x within the_start c b l is_top lk lf al kn k i args d is fs =
      asks_case w ft sl L W G law n spare top x within the_start c b l is_top lk lf al k i args d is (to_call w ft sl L W G law n spare top x within the_start c b l is_top lk lf al k i args d fs)
      (λ a os ticks eo ef et. let none = no_pause_in_start (func_type_at (base w) i).results (length d.store.memory) w.plan i a ef in let z : None ≡ Some ticks = sym none ∙ et in cc)
  asks_of n spare top x within (an_entry e) c b l is_top lk lf al kn k i args d is fs =
      let cd = to_call w ft sl L W G law n spare top x within (an_entry e) c b l is_top lk lf al k i args d fs in
      asks_case w ft sl L W G law n spare top x within (an_entry e) c b l is_top lk lf al k i args d is cd
      (λ a os ticks eo ef et.
      let lets : LetsPause w.plan = (i, pause_allowed (func_type_at (base w) i).results (length d.store.memory) w.plan false i a ticks ef et) in
      pausing w ft sl L W G law hl n spare top x within e c b l is_top lk lf al k i args d is cd a os ticks eo ef et
      (λ c2 l2 cost es lds. wl.locals lets (an_entry e) c2 l2 (known_along w Known wl (busy (is_running (an_entry e)) b l) (busy (is_running (an_entry e)) c2 l2) cost es kn lds))
      (λ s2 x2 args2 c2 l2 cost es lds. wl.waits lets e i a s2 x2 args2 c2 l2
      (known_along w Known wl (busy (is_running (an_entry e)) b l) (calling (unwinds e i a) s2 x2 args2 (give_zero c2) l2) cost es kn lds)))

  runs_owes : (n spare top x : ℕ) (within : 10 * x ≤ spare) (task : Task) (c b : Configuration) (l : Left) → 0 < n → TopOf w task top → Link w ft sl L W G law top x c b → LeftFits w l
      → Allowed w n (runs task c l) → Known (busy (is_running task) b l) → Ow n spare (runs task c l) (busy (is_running task) b l) (nn w (runs task c l))
  runs_owes n spare top x within task c b l pos is_top lk lf al kn = by_next (step (base w) c) refl (law.reduces top x c lk.flat_at lk.link (al.calm 0 [] (runs task c l) stays pos))
    where
      by_next : (o : Next) → step (base w) c ≡ o → FlatNext w (λ c d. c ≡ d) L W G top x o lk.flat_at
          → Ow n spare (runs task c l) (busy (is_running task) b l) (sh w (by_step (base w) w.plan task l o))
      by_next (steps k d) is fs = steps_case w ft sl L W G law n spare top x within task c b l is_top lk lf al k d is fs
      by_next (asks k i args d) is fs = asks_of n spare top x within task c b l is_top lk lf al kn k i args d is fs
      by_next (returns k vs s) is fs = goes_on w ft sl L W G law n spare top x within task c b l is_top lk lf al k vs s is fs
      by_next (traps k t s) is fs = traps_case w ft sl L W G law n spare top x within task c b l is_top lk lf al k t s fs
      by_next stuck is fs = absurd fs

  -- ---- a call of the host

  host_calls : (n spare x : ℕ) (args : List Value) (task : Task) (f : Func) (s s' : Store) (a : State) (b : Held) (l : Left) → Sm w (store_of a) (store_held b) → store_of a ≡ s → G s
      → Alike (setting w 0) s s' → LeftFits w l
      → (fe : FlatEnters w (λ c d. c ≡ d) L W G x args f s) → TopOf w task x → nb w a ≡ goes (length args) [] (runs task (entered s [] args x f) l)
      → pr w b ≡ goes (length args) [] (busy (is_running task) (entered s' [] args x fe.func') l) → Allowed w n a → Forwards b
      → Ow n spare a b (goes (length args) [] (runs task (entered s [] args x f) l))
  host_calls n spare x args task f s s' a b l seen at_s good like lf fe top mva mvb al forwards =
      let like2 = other_top w 0 x s s' like in
      let nr = calls_begin (sides w x) s s' args fe.func fe.func' (together (setting w x) (ft.paired x)) fe.known fe.defined fe.defined' fe.count like2 in
      let on = fe.on in
      let u = along w ft sl x task l s (entered s [] args x fe.func) on.to (entered s' [] args x fe.func') on.n on.goes nr (same_refl (gl w) w.plan.area s) in
      let a1 = on.few in let a2 = u.most in
      let q0 = silent_none w.original w.settings w.which w.written (xp w) w.plan (store_of a) b seen in
      let k : ℕ = length args in (
        λ j le. rests_before w (store_of a) b b (busy (is_running task) (entered s' [] args x fe.func') l) 0 k [] q0 mvb j (omega arith),
        λ enough.
            by_silence w.original w.settings w.which w.written (xp w) w.plan (nn w) Rel n spare k 0 k u.cost (10 * on.left) a (runs task (entered s [] args x f) l) b b
            (busy (is_running task) (entered s' [] args x fe.func') l) (busy (is_running task) u.to l) q0 mvb u.silent (omega arith) (omega arith) forwards
            (r_runs x on.left (omega arith) top (record { flat_at = on.to; link = on.link; near = u.near }) lf (allowed_on w n k [] a (runs task (entered s [] args x f) l) mva al)),
      )

  first_entry : (e : Entry) (es : List Entry) → All (EntryFits w.original) (e ∷ es) → EntryFits w.original e
  first_entry e es h = let lt : 0 < length (e ∷ es) = omega arith in h 0 e lt

  other_entries : (e : Entry) (es : List Entry) → All (EntryFits w.original) (e ∷ es) → All (EntryFits w.original) es
  other_entries e es h = λ k d lt. let more : suc k < length (e ∷ es) = omega arith in h (suc k) d more

  between_owes : (n spare : ℕ) (s s' : Store) (l : Left) → G s → Alike (setting w 0) s s' → LeftFits w l → Allowed w n (between s l) → Ow n spare (between s l) (free s' l) (nn w (between s l))
  between_owes n spare s s' l good like lf al = by_entries l.entries refl
    where
      seen : Sm w s s'
      seen = sl.same_end 0 s s' like

      by_entries : (es : List Entry) → l.entries ≡ es → Ow n spare (between s l) (free s' l) (sh w (enter_next (base w) s l l.entries))
      by_entries [] ee = subst (λ z. Ow n spare (between s l) (free s' l) (sh w (enter_next (base w) s l z))) (sym ee)
          (none_next n spare (between s l) (free s' l) seen (ap (held_next w.written s' l) ee))
      by_entries (e ∷ es) ee =
          let all = subst (All (EntryFits w.original)) ee lf.entries in
          let fits = first_entry e es all in
          let dfn = fits.defined in
          let there : defined_at (base w) e.func ≡ Some dfn.0 = base_defined w.original e.func ∙ dfn.1 in
          let lw : AreLawful (func_type_at (base w) e.func).params e.args = subst (λ z. AreLawful z.params e.args) (sym (base_type w.original e.func)) fits.args in
          let fe = law.enters e.func e.args dfn.0 s lw good there in
          let l2 : Left = record { number = l.number; entries = es; outcomes = l.outcomes } in
          let fits2 : LeftFits w l2 = record { entries = other_entries e es all; outcomes = lf.outcomes } in
          let mva : nb w (between s l) ≡ goes (length e.args) [] (runs (an_entry e) (entered s [] e.args e.func dfn.0) l2) = ap (enter_next (base w) s l) ee ∙ ap (enters e s l2) there in
          let mvb : pr w (free s' l) ≡ goes (length e.args) [] (busy (is_running (an_entry e)) (entered s' [] e.args e.func fe.func') l2) = ap (held_next w.written s' l) ee
          ∙ ap (busy_enters (is_running (an_entry e)) e s' l2) fe.defined' in
          subst (λ z. Ow n spare (between s l) (free s' l) (sh w (enter_next (base w) s l z))) (sym ee)
          (subst (λ z. Ow n spare (between s l) (free s' l) (sh w (enters e s l2 z))) (sym there)
          (host_calls n spare e.func e.args (an_entry e) dfn.0 s s' (between s l) (free s' l) l2 seen refl good like fits2 fe (fits, refl, fe.count) mva mvb al tt))

  -- ---- the start function

  module _ (n spare x : ℕ) (s s' : Store) (l : Left) (good : G s) (like : Alike (setting w 0) s s') (lf : LeftFits w l) (al : Allowed w n (begins x s l)) where
    abbrev a0 : State
    a0 = begins x s l

    abbrev b0 : Held
    b0 = starting x s' l

    seen : Sm w s s'
    seen = sl.same_end 0 s s' like

    quiet : Quiet w s'
    quiet = quiet_there w 0 s s' like

    module _ (imported : x < func_imports (base w)) (was : nb w a0 ≡ asked (base w) w.plan 0 x [] (outermost s) l l.outcomes)
        (now : pr w b0 ≡ held_asked w.written (xp w) w.plan 0 x [] (outermost s') l l.outcomes) where
      abbrev fault : Answer → Option End
      fault a = fault_of (func_type_at (base w) x).results (length s.memory) w.plan true x a

      same_fault : (a : Answer) → fault_of (func_type_at w.written x).results (length s'.memory) w.plan true x a ≡ fault a
      same_fault a =
          let sz = seen in
          ap (λ z. fault_of z.results (length s'.memory) w.plan true x a) (ft.import_type x imported) ∙ ap (λ z. fault_of (func_type_at (base w) x).results z w.plan true x a) (sym sz.size)

      ends_there : (e : End) → pr w b0 ≡ held_ends 0 (call_note x [] s' [] None) e → Ow n spare a0 b0 (sh w (ends_at_call 0 (call_note x [] s [] None) e))
      ends_there e mv =
          last_move w ft sl L W G law n spare 0 0 0 a0 (halts s) b0 b0 (over s') (call_note x [] s [] None ∷ []) (call_note x [] s' [] None ∷ note (ended e) s' ∷ []) (note (ended e) s)
          (silent_none w.original w.settings w.which w.written (xp w) w.plan s b0 seen) mv
          (same_note w _ _ refl seen tt refl quiet, (same_note w _ _ refl seen tt refl (at_calls (ended e) (Quiet w s') quiet), tt)) seen
          (omega arith, omega arith) tt tt (λ enough. r_halts seen)

      given_case : (a : Answer) (os : List Outcome) → l.outcomes ≡ given a ∷ os → (o : Option End) → fault a ≡ o
          → Ow n spare a0 b0 (sh w (tested (base w) 0 x [] (outermost s) (with_outcomes l os) a o))
      given_case a os eo (Some e) ef =
          ends_there e (now ∙ ap (held_asked w.written (xp w) w.plan 0 x [] (outermost s') l) eo
          ∙ ap (λ z. held_tested w.written (xp w) w.plan 0 x [] (outermost s') (with_outcomes l os) a z (pause_of a.ticks)) (same_fault a ∙ ef))
      given_case a os eo None ef =
          subst (λ z. Ow n spare a0 b0 (sh w (go_on 0 (call_note x [] s [] z) a.said t lo (outermost s)))) (sym no_pause)
          (by_said a.said (λ v told. subst (λ z. Ow n spare a0 b0 (sh w (go_on 0 (call_note x [] s [] None) z t lo (outermost s)))) (sym told) (by_entries v told l.entries refl))
          (λ told. subst (λ z. Ow n spare a0 b0 (sh w (go_on 0 (call_note x [] s [] None) z t lo (outermost s)))) (sym told) (traps_there told)))
        where
          lo : Left
          lo = with_outcomes l os

          t : Store
          t = poked s a.pokes

          t' : Store
          t' = poked s' a.pokes

          no_pause : pause_of a.ticks ≡ None
          no_pause = no_pause_in_start (func_type_at (base w) x).results (length s.memory) w.plan x a ef

          like2 : Alike (setting w 0) (poked s a.pokes) (poked s' a.pokes)
          like2 = sl.poked_too 0 s s' a like (passes_area (func_type_at (base w) x).results (length s.memory) w.plan true x a ef)

          seen2 : Sm w (poked s a.pokes) (poked s' a.pokes)
          seen2 = sl.same_end 0 (poked s a.pokes) (poked s' a.pokes) like2

          quiet2 : Quiet w (poked s' a.pokes)
          quiet2 = quiet_there w 0 (poked s a.pokes) (poked s' a.pokes) like2

          fits_a : Rattle.wa_model.specs.Plan.AnswerFits a
          fits_a = first_fits (given a) os (subst (All OutcomeFits) eo lf.outcomes)

          good2 : G (poked s a.pokes)
          good2 = law.poked_good x s true a good fits_a ef

          fits2 : LeftFits w (with_outcomes l os)
          fits2 = record { entries = lf.entries; outcomes = others_fit (given a) os (subst (All OutcomeFits) eo lf.outcomes) }

          mv : pr w b0 ≡ held_given 0 (call_note x [] s' [] None) a.said (poked s' a.pokes) (with_outcomes l os) (outermost s')
          mv =
              now ∙ ap (held_asked w.written (xp w) w.plan 0 x [] (outermost s') l) eo
              ∙ ap (λ z. held_tested w.written (xp w) w.plan 0 x [] (outermost s') (with_outcomes l os) a z (pause_of a.ticks)) (same_fault a ∙ ef)
              ∙ ap (held_tested w.written (xp w) w.plan 0 x [] (outermost s') (with_outcomes l os) a None) no_pause

          mv_told : (v : Option Value) → a.said ≡ S.Value v → pr w b0 ≡ held_given 0 (call_note x [] s' [] None) (S.Value v) (poked s' a.pokes) (with_outcomes l os) (outermost s')
          mv_told v told = mv ∙ ap (λ z. held_given 0 (call_note x [] s' [] None) z (poked s' a.pokes) (with_outcomes l os) (outermost s')) told

          was2 : nb w a0 ≡ go_on 0 (call_note x [] s [] None) a.said (poked s a.pokes) (with_outcomes l os) (outermost s)
          was2 =
              was ∙ ap (asked (base w) w.plan 0 x [] (outermost s) l) eo ∙ ap (tested (base w) 0 x [] (outermost s) (with_outcomes l os) a) ef
              ∙ ap (λ z. go_on 0 (call_note x [] s [] z) a.said (poked s a.pokes) (with_outcomes l os) (outermost s)) no_pause

          -- the import traps, and the run ends
          traps_there : a.said ≡ S.Trap → Ow n spare a0 b0 (goes 0 (call_note x [] s [] None ∷ import_traps (poked s a.pokes)) (halts (poked s a.pokes)))
          traps_there told =
              last_move w ft sl L W G law n spare 0 0 0 a0 (halts (poked s a.pokes)) b0 b0 (over (poked s' a.pokes)) (call_note x [] s [] None ∷ note (answered S.Trap) (poked s a.pokes) ∷ [])
              (call_note x [] s' [] None ∷ import_traps (poked s' a.pokes)) (note (ended (Trapped Import)) (poked s a.pokes))
              (silent_none w.original w.settings w.which w.written (xp w) w.plan s b0 seen)
              (mv ∙ ap (λ z. held_given 0 (call_note x [] s' [] None) z (poked s' a.pokes) (with_outcomes l os) (outermost s')) told)
              (same_note w _ _ refl seen tt refl quiet, (same_note w _ _ refl seen2 tt refl quiet2, (same_note w _ _ refl seen2 tt refl quiet2, tt))) seen2
              (omega arith, omega arith) tt tt (λ enough. r_halts seen2)

          was_told : (v : Option Value) → a.said ≡ S.Value v → nb w a0 ≡ go_on 0 (call_note x [] s [] None) (S.Value v) (poked s a.pokes) (with_outcomes l os) (outermost s)
          was_told v told = was2 ∙ ap (λ z. go_on 0 (call_note x [] s [] None) z (poked s a.pokes) (with_outcomes l os) (outermost s)) told

          by_entries : (v : Option Value) → a.said ≡ S.Value v → (es : List Entry) → l.entries ≡ es
              → Ow n spare a0 b0 (sh w (go_on 0 (call_note x [] s [] None) (S.Value v) (poked s a.pokes) (with_outcomes l os) (outermost s)))
          by_entries v told [] ee =
              subst (λ z. Ow n spare a0 b0 (goes 0 (call_note x [] s [] None ∷ note (answered (S.Value v)) (poked s a.pokes) ∷ done_notes (poked s a.pokes) z)
              (on_to (poked s a.pokes) (with_outcomes l os) z))) (sym ee)
              (last_move w ft sl L W G law n spare 0 0 0 a0 (halts (poked s a.pokes)) b0 b0 (over (poked s' a.pokes)) (call_note x [] s [] None ∷ note (answered (S.Value v)) (poked s a.pokes) ∷ [])
              (call_note x [] s' [] None ∷ note (answered (S.Value v)) (poked s' a.pokes) ∷ note (ended Done) (poked s' a.pokes) ∷ []) (note (ended Done) (poked s a.pokes))
              (silent_none w.original w.settings w.which w.written (xp w) w.plan s b0 seen)
              (mv_told v told ∙ ap (λ z. goes 0 (call_note x [] s' [] None ∷ note (answered (S.Value v)) (poked s' a.pokes) ∷ done_notes (poked s' a.pokes) z) (held_on (poked s' a.pokes) (with_outcomes l os) z)) ee)
              (same_note w _ _ refl seen tt refl quiet, (same_note w _ _ refl seen2 tt refl quiet2, (same_note w _ _ refl seen2 tt refl quiet2, tt))) seen2
              (omega arith, omega arith) tt tt (λ enough. r_halts seen2))
          by_entries v told (e ∷ es) ee =
              subst (λ z. Ow n spare a0 b0 (goes 0 (call_note x [] s [] None ∷ note (answered (S.Value v)) (poked s a.pokes) ∷ done_notes (poked s a.pokes) z)
              (on_to (poked s a.pokes) (with_outcomes l os) z))) (sym ee)
              (last_move w ft sl L W G law n spare 0 0 0 a0 (between (poked s a.pokes) (with_outcomes l os)) b0 b0 (free (poked s' a.pokes) (with_outcomes l os)) (call_note x [] s [] None ∷ [])
              (call_note x [] s' [] None ∷ note (answered (S.Value v)) (poked s' a.pokes) ∷ []) (note (answered (S.Value v)) (poked s a.pokes))
              (silent_none w.original w.settings w.which w.written (xp w) w.plan s b0 seen)
              (mv_told v told ∙ ap (λ z. goes 0 (call_note x [] s' [] None ∷ note (answered (S.Value v)) (poked s' a.pokes) ∷ done_notes (poked s' a.pokes) z) (held_on (poked s' a.pokes) (with_outcomes l os) z)) ee)
              (same_note w _ _ refl seen tt refl quiet, (same_note w _ _ refl seen2 tt refl quiet2, tt)) seen2 (omega arith, omega arith) tt tt
              (λ enough. r_between good2 like2 fits2 (allowed_on w n 0 _ a0 _ (was_told v told ∙ ap
              (λ z. goes 0 (call_note x [] s [] None ∷ note (answered (S.Value v)) (poked s a.pokes) ∷ done_notes (poked s a.pokes) z) (on_to (poked s a.pokes) (with_outcomes l os) z)) ee)
              al)))

      asked_there : Ow n spare a0 b0 (sh w (asked (base w) w.plan 0 x [] (outermost s) l l.outcomes))
      asked_there = by_outcomes l.outcomes refl
        where
          by_outcomes : (os : List Outcome) → l.outcomes ≡ os → Ow n spare a0 b0 (sh w (asked (base w) w.plan 0 x [] (outermost s) l l.outcomes))
          by_outcomes [] eo =
              subst (λ z. Ow n spare a0 b0 (sh w (asked (base w) w.plan 0 x [] (outermost s) l z))) (sym eo)
              (last_move w ft sl L W G law n spare 0 0 0 a0 (halts s) b0 b0 (over s') [] (call_note x [] s' [] None ∷ []) (call_note x [] s [] None)
              (silent_none w.original w.settings w.which w.written (xp w) w.plan s b0 seen)
              (now ∙ ap (held_asked w.written (xp w) w.plan 0 x [] (outermost s') l) eo) (same_note w _ _ refl seen tt refl quiet, tt) seen (omega arith, omega arith) tt tt (λ enough. r_halts seen))
          by_outcomes (refused e ∷ os) eo =
              subst (λ z. Ow n spare a0 b0 (sh w (asked (base w) w.plan 0 x [] (outermost s) l z))) (sym eo) (ends_there e (now ∙ ap (held_asked w.written (xp w) w.plan 0 x [] (outermost s') l) eo))
          by_outcomes (given a ∷ os) eo =
              subst (λ z. Ow n spare a0 b0 (sh w (asked (base w) w.plan 0 x [] (outermost s) l z))) (sym eo) (given_case a os eo (fault a) refl)

    begins_owes : AreLawful (func_type_at (base w) x).params [] × (x < w.funcs) → Ow n spare a0 b0 (nn w a0)
    begins_owes lw = by_defined (defined_at (base w) x) refl
      where
        by_defined : (o : Option Func) → defined_at (base w) x ≡ o → Ow n spare a0 b0 (sh w (start_called (base w) w.plan x s l (defined_at (base w) x)))
        by_defined (Some f) e =
            let fe = law.enters x [] f s lw.0 good e in
            subst (λ z. Ow n spare a0 b0 (sh w (start_called (base w) w.plan x s l z))) (sym e)
            (host_calls n spare x [] the_start f s s' a0 b0 l seen refl good like lf fe tt (ap (start_called (base w) w.plan x s l) e) (ap (held_start w.written (xp w) w.plan x s' l) fe.defined') al tt)
        by_defined None e = subst (λ z. Ow n spare a0 b0 (sh w (start_called (base w) w.plan x s l z))) (sym e) (by_import (nat_lt x (func_imports (base w))) refl)
          where
            now : pr w b0 ≡ (if nat_lt x (func_imports w.written) then held_asked w.written (xp w) w.plan 0 x [] (outermost s') l l.outcomes else stops)
            now = ap (held_start w.written (xp w) w.plan x s' l) (ft.undefined x lw.1 e)

            by_import : (t : Bool) → nat_lt x (func_imports (base w)) ≡ t → Ow n spare a0 b0
                (sh w (if nat_lt x (func_imports (base w)) then asked (base w) w.plan 0 x [] (outermost s) l l.outcomes else stops))
            by_import true q =
                subst (λ z. Ow n spare a0 b0 (sh w (if z then asked (base w) w.plan 0 x [] (outermost s) l l.outcomes else stops))) (sym q)
                (asked_there (ltb-true x (func_imports (base w)) q)
                (ap (start_called (base w) w.plan x s l) e ∙ ap (λ z. if z then asked (base w) w.plan 0 x [] (outermost s) l l.outcomes else stops) q)
                (now ∙ ap (λ z. if nat_lt x z then held_asked w.written (xp w) w.plan 0 x [] (outermost s') l l.outcomes else stops) ft.imports
                ∙ ap (λ z. if z then held_asked w.written (xp w) w.plan 0 x [] (outermost s') l l.outcomes else stops) q))
            by_import false q =
                subst (λ z. Ow n spare a0 b0 (sh w (if z then asked (base w) w.plan 0 x [] (outermost s) l l.outcomes else stops))) (sym q)
                (none_next n spare a0 b0 seen
                (now ∙ ap (λ z. if nat_lt x z then held_asked w.written (xp w) w.plan 0 x [] (outermost s') l l.outcomes else stops) ft.imports
                ∙ ap (λ z. if z then held_asked w.written (xp w) w.plan 0 x [] (outermost s') l l.outcomes else stops) q))

  -- ---- all

  sees : (n spare : ℕ) (a : State) (b : Held) → Rel n spare a b → Sm w (store_of a) (store_held b)
  sees n spare _ _ (r_between {s = s} {s' = s'} good like lf al) = sl.same_end 0 s s' like
  sees n spare _ _ (r_begins {s = s} {s' = s'} good like lf lw al) = sl.same_end 0 s s' like
  sees n spare _ _ (r_runs {c = c} {b = b} top x within is_top lk lf al) =
      subst (λ s. Sm w s b.store) (law.store top x c lk.flat_at lk.link) (Rattle.headline.proofs.FlatStretches.near_same w sl top lk.flat_at b lk.near)
  sees n spare _ _ (r_halts h) = h

  -- no entry is being rewound
  forwards : (n spare : ℕ) (a : State) (b : Held) → Rel n spare a b → Forwards b
  forwards n spare _ _ (r_between good like lf al) = tt
  forwards n spare _ _ (r_begins good like lf lw al) = tt
  forwards n spare _ _ (r_runs top x within is_top lk lf al) = tt
  forwards n spare _ _ (r_halts h) = tt

  owes : (n spare : ℕ) (a : State) (b : Held) → 0 < n → Rel n spare a b → Known b → Ow n spare a b (nn w a)
  owes n spare _ _ pos (r_between {s = s} {s' = s'} {l = l} good like lf al) kn = between_owes n spare s s' l good like lf al
  owes n spare _ _ pos (r_begins {s = s} {s' = s'} {l = l} {x = x} good like lf lw al) kn = begins_owes n spare x s s' l good like lf al lw
  owes n spare _ _ pos (r_runs {c = c} {b = b} {l = l} {task = task} top x within is_top lk lf al) kn = runs_owes n spare top x within task c b l pos is_top lk lf al kn
  owes n spare _ _ pos (r_halts {s = s} {s' = s'} h) kn = none_next n spare (halts s) (over s') h refl

  rel_less : (n k spare : ℕ) (a : State) (b : Held) → Rel n spare a b → k ≤ n → Rel k spare a b
  rel_less n k spare _ _ (r_between {s = s} {l = l} good like lf al) le = r_between good like lf (allowed_less w n k (between s l) al le)
  rel_less n k spare _ _ (r_begins {s = s} {l = l} {x = x} good like lf lw al) le = r_begins good like lf lw (allowed_less w n k (begins x s l) al le)
  rel_less n k spare _ _ (r_runs {c = c} {l = l} {task = task} top x within is_top lk lf al) le = r_runs top x within is_top lk lf (allowed_less w n k (runs task c l) al le)
  rel_less n k spare _ _ (r_halts h) le = r_halts h

  -- nothing is paid
  at_once : (a : State) (b : Held) → Sm w (store_of a) (store_held b) → (j : ℕ) → j ≤ 0 → Rests w (store_of a) (run (pr w) j b)
  at_once a b h j le = let z : j ≡ 0 = omega arith in subst (λ i. Rests w (store_of a) (run (pr w) i b)) (sym z) (refl, h)

  abbrev Made : (Rl : (n spare : ℕ) → State → Held → Type 0) (n spare k : ℕ) → List Note → State → State → Held → Type 0
  Made Rl = Match State Held Note Note (nn w) (pr w) Rl (SameNote w.original w.settings w.which w.plan.area) (dear_of w.original)
      (Sees w.original w.settings w.which w.written (xp w) w.plan) (Sees_at w.original w.settings w.which w.written (xp w) w.plan)

  abbrev Way : (Rl : (n spare : ℕ) → State → Held → Type 0) (k : ℕ) → List Note → State → State → ℕ → Ran Held Note → Type 0
  Way Rl = On_way State Held Note Note (nn w) (pr w) Rl (SameNote w.original w.settings w.which w.plan.area) (dear_of w.original)
      (Sees w.original w.settings w.which w.written (xp w) w.plan) (Sees_at w.original w.settings w.which w.written (xp w) w.plan)

  -- THE SIMULATION
  pub simulates : Simulates (room_in w) (used_in w) w.original w.settings w.which w.written w.plan Both
  simulates = record {
    less = λ n k spare a b r le. (rel_less n k spare a b r.0 le, r.1);
    stop = λ n spare a b r e j le. waits n spare a b r.0 j
        (⊎_elim (λ pos. subst (Ow n spare a b) e (owes n spare a b pos r.0 r.1) j) (λ no_cost. at_once a b (sees n spare a b r.0) j (omega arith)) (cases_lt 0 n));
    slow = λ n spare k es a' a b r e few j le. waits n spare a b r.0 j
        (⊎_elim (λ pos. (owed n spare k es a' a b (owes n spare a b pos r.0 r.1) e).0 j (omega arith))
        (λ no_cost. at_once a b (sees n spare a b r.0) j (omega arith)) (cases_lt 0 n));
    move = λ n spare a b k es a' r e enough. with_known n spare k es a a' b r.1 ((owed n spare k es a' a b (owes n spare a b (omega arith) r.0 r.1) e).1 enough);
  }
    where
      -- as long as nothing is told no rewound entry calls
      waits : (n spare : ℕ) (a : State) (b : Held) → Rel n spare a b → (j : ℕ) → Rests w (store_of a) (run (pr w) j b)
          → ((run (pr w) j b).events ≡ []) × Sees w.original w.settings w.which w.written (xp w) w.plan a (run (pr w) j b).last
      waits n spare a b r j h =
          (h.0, (h.1, forwards_asks w.written None (run (pr w) j b).last (silent_forwards w.written (xp w) w.plan j b (forwards n spare a b r) h.0)))

      owed : (n spare k : ℕ) (es : List Note) (a' a : State) (b : Held) → Ow n spare a b (nn w a) → nn w a ≡ goes k es a' → Ow n spare a b (goes k es a')
      owed n spare k es a' a b o e = subst (Ow n spare a b) e o

      -- where it stands doesn't depend on the relation
      on_way_too : (n k : ℕ) (es : List Note) (a a' : State) (j : ℕ) (r : Ran Held Note) → Way Rel k es a a' j r → Way Both k es a a' j r
      on_way_too n k es a a' j r (not_yet none sees_it) = not_yet none sees_it
      on_way_too n k es a a' j r (all_made ge same sees_it) = all_made ge same sees_it
      on_way_too n k es a a' j r (up_to es1 es2 x ge split same sees_it) = up_to es1 es2 x ge split same sees_it

      -- .. and what is known is kept
      with_known : (n spare k : ℕ) (es : List Note) (a a' : State) (b : Held) → Known b → Made Rel n spare k es a a' b → Made Both n spare k es a a' b
      with_known n spare k es a a' b kn mt = record {
        cost = mt.cost;
        left = mt.left;
        events = mt.events;
        to = mt.to;
        leads = mt.leads;
        no_less = mt.no_less;
        bound = mt.bound;
        alike = mt.alike;
        rel = (mt.rel, known_along w Known wl b mt.to mt.cost mt.events kn mt.leads);
        on_way = λ j lt. on_way_too n k es a a' j (run (pr w) j b) (mt.on_way j lt);
      }
