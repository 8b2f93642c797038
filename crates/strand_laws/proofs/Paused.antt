-- A strand pauses: one move of its original that tells the call and the pause, and the written module's stretch up to there.
use Rattle.headline.specs.FlatLaw.{AllLocalsFit, FlatLaw, FlatStands}
use Rattle.headline.specs.Given.{LetsPause}
use Rattle.headline.specs.StoreLaws.{StoreLaws}
use Rattle.headline.specs.World.{World, WorldFits, base, setting}
use Rattle.headline.specs.WrittenRuns.{WrittenLaw}
use Rattle.headline.proofs.Asks.{Called, answer_fits, fault, left_fits, pause_allowed, same_d, tested_now}
use Rattle.headline.proofs.FlatStretches.{Sil, Sm, gl, pr, sides, xp}
use Rattle.headline.proofs.FromSimulation.{dear_cons}
use Rattle.headline.proofs.Halves.{Hangs}
use Rattle.headline.proofs.OuterLevels.{under_deep, weigh_all}
use Rattle.headline.proofs.Pauses.{LevelsOf, levels_are, same_config, ticks_are}
use Rattle.headline.proofs.Reductions.{Allowed, LeftFits, Link, TopOf, quiet_there, same_note}
use Rattle.headline.proofs.Simulation.{known_along}
use Rattle.headline.proofs.ToldMoves.{Here, Told, calls_none_before, dear_of, here, no_more, silent_none, silent_quiet, told, told_alike, told_leads}
use Rattle.frame_laws.specs.FrameMemory.{AreaAt}
use Rattle.frame_laws.specs.Stack.{activation_of, rewinding_all, total_size, unwinding_all}
use Rattle.guard_runs.proofs.Pausing.{pauses_law}
use Rattle.guard_runs.proofs.StoppedStacks.{stops_law}
use Rattle.guard_runs.proofs.WaitingLevels.{stopped_are_levels}
use Rattle.guard_runs.specs.Alike.{Alike}
use Rattle.guard_runs.specs.Levels.{AreLevels, levels_of}
use Rattle.guard_runs.specs.Pause.{AreaReady, PausesAt, at_import}
use Rattle.guard_runs.specs.Stopped.{Stopped}
use Rattle.guard_runs.specs.UnseenMoves.{GoesUnseen}
use Rattle.run_laws.proofs.CallArgs.{Took}
use Rattle.run_laws.proofs.CallArgs.{took as call_took}
use Rattle.run_laws.proofs.Keeping.{same_on}
use Rattle.std.proofs.Common.{All, List, None, Option, Some, [], ap, arith, length, map, refl, subst, suc, sym, ℕ, ◌*◌, ◌+◌, ◌++◌, ◌<◌, ◌^◌, ◌∙◌, ◌∷◌, ◌≡◌, ◌≤◌, false}
use Rattle.std.proofs.lemmas.List.{length-map}
use Rattle.std.specs.List.{sum_by}
use Rattle.run_theory.proofs.Follow.{Alike as AllAlike}
use Rattle.run_theory.proofs.Runs.{leads_on}
use Rattle.wa_model.specs.Behaves.{RewindsTo, SameNote, StandsNumbered}
use Rattle.wa_model.specs.Blocking.{Left, Note, an_entry, call_note, fault_of, inside, note, pause_of, runs, with_outcomes}
use Rattle.wa_model.specs.Configuration.{Activation, Configuration, stack_of}
use Rattle.wa_model.specs.Expected.{pause_note}
use Rattle.wa_model.specs.Machine.{Leads, goes, moves, run, stays}
use Rattle.wa_model.specs.Outside.{Answer, Call, paused}
use Rattle.wa_model.specs.Plan.{Entry, Outcome, given}
use Rattle.wa_model.specs.Protocol.{Held, busy, calling, give_zero, held_tested, is_running, unwinds, with_words}
use Rattle.wa_model.specs.Step.{asks, param_count, step}
use Rattle.wa_model.specs.Store.{Store}
use Rattle.wa_types.specs.Bounds.{activation_bound}
use Rattle.wa_types.specs.Frames.{Room, Suspended}
use Rattle.wa_types.specs.Modules.{func_type_at}
use Rattle.wa_types.specs.declared.values.Value.{Value}
use Rattle.wa_types.specs.declared.values.Value.TheVariants as V
use Rattle.strand_laws.proofs.Resumed.{Suspends, rewound_from}

half_bound : (c1 k spare pc un args sl rw most dear rest n : ℕ) → c1 ≤ 20 * suc k + 9 + spare → pc ≤ 28 + un → un + n + 2 * sl + rw ≤ most → args ≡ n → dear ≡ 256 + most + rest
    → c1 + (pc + 1 + 0) + (120 + args + 2 * sl + rw) ≤ 256 * suc k + dear + spare
half_bound c1 k spare pc un args sl rw most dear rest n h1 h2 h3 h4 h5 = omega arith

module _ (w : World) (ft : WorldFits w) (sl : StoreLaws w) (L : (top spare : ℕ) → Configuration → Configuration → Type 0) (W : ℕ → ℕ → Configuration → Configuration → Type 0)
    (G : Store → Type 0) (law : FlatLaw w (λ c d. c ≡ d) L W G) (Known : Held → Type 0) (wl : WrittenLaw w Known)
    (n spare top x : ℕ) (within : 10 * x ≤ spare) (e : Entry) (c b : Configuration) (l : Left) (is_top : TopOf w (an_entry e) top) (lk : Link w ft sl L W G law top x c b)
    (lf : LeftFits w l) (al : Allowed w n (runs (an_entry e) c l)) (kn : Known (busy (is_running (an_entry e)) b l))
    (k i : ℕ) (args : List Value) (d : Configuration) (is : step (base w) c ≡ asks k i args d) (cd : Called w ft sl L W G law top spare (an_entry e) l c.store b k i args d)
    (a : Answer) (os : List Outcome) (ticks : ℕ) (eo : l.outcomes ≡ given a ∷ os)
    (ef : fault w ft sl L W G law n spare top x within (an_entry e) c b l is_top lk lf al k i args d is cd a ≡ None) (et : pause_of a.ticks ≡ Some ticks) where
  abbrev lo : Left
  lo = with_outcomes l os

  abbrev b0 : Held
  b0 = busy (is_running (an_entry e)) b l

  abbrev b1 : Held
  b1 = busy (is_running (an_entry e)) cd.mid l

  abbrev s1 : Store
  s1 = (cd.at).store

  abbrev S : List Suspended
  S = stack_of (base w) d

  abbrev x1 : Note
  x1 = call_note i args d.store S (Some ticks)

  abbrev y1_there : Note
  y1_there = call_note i args s1 (stack_of w.written cd.at) (Some ticks)

  abbrev x2 : Note
  x2 = pause_note ticks (Room w.original w.settings.policy S) d.store S

  abbrev b2 : Held
  b2 = calling (unwinds e i a) (with_words s1 w.plan.area) (xp w).start_unwind (V.I32 w.plan.area.at ∷ []) (give_zero cd.at) lo

  -- the call that it tells
  abbrev told_call : Option Call
  told_call = Some (record { import = i; args = args })

  mv : pr w b1 ≡ goes cd.j (y1_there ∷ []) b2
  mv =
      tested_now w ft sl L W G law n spare top x within (an_entry e) c b l is_top lk lf al k i args d is cd a os None eo ef
      ∙ ap (held_tested w.written (xp w) w.plan cd.j i args (inside (an_entry e) cd.at) lo a None) et

  same1 : Sm w d.store s1
  same1 = same_d w ft sl L W G law n spare top x within (an_entry e) c b l is_top lk lf al k i args d is cd

  small : length d.store.memory < 2 ^ 32
  small = law.small d.store (law.waits_good top i d cd.flat_at cd.waits)

  -- the plan lets this import pause, so its area is wide enough
  lets : LetsPause w.plan
  lets = (i, pause_allowed (func_type_at (base w) i).results (length d.store.memory) w.plan false i a ticks ef et)

  wide : 8 ≤ w.plan.area.len
  wide = ft.least lets

  rdy : AreaReady (gl w) (gl w) (suc (gl w)) w.plan.area s1
  rdy = sl.ready top d.store s1 cd.alike wide small

  al1 : SameNote w.original w.settings w.which w.plan.area x1 y1_there
  al1 = same_note w x1 y1_there refl same1 tt refl (quiet_there w top d.store s1 cd.alike)

  known_to : (t : Held) (m : ℕ) (es : List Note) → Leads (pr w) b0 m es t → Known t
  known_to t m es lds = known_along w Known wl b0 t m es kn lds

  -- its locals fit where it is about to unwind
  unwound : AllLocalsFit w.written ((cd.at).here ∷ (cd.at).under)
  unwound =
      wl.waits lets e i a (with_words s1 w.plan.area) (xp w).start_unwind (V.I32 w.plan.area.at ∷ []) cd.at lo
      (known_to b2 _ _ (leads_on Held Note (pr w) b0 b1 b2 cd.cost (suc cd.j + 0) [] ((y1_there ∷ []) ++ []) (cd.silent).leads (moves mv stays refl refl)))

  words_same : Sm w d.store (with_words s1 w.plan.area)
  words_same = let r = rdy in same_on (gl w) w.plan.area d.store s1 (with_words s1 w.plan.area) same1 (sl.words s1 wide r.inside)

  abbrev Numbered : Type 0
  Numbered = All (StandsNumbered w.original w.settings w.which) S

  -- THE STRETCH UP TO THE PAUSE
  pub record PausesThere : Type 0 where
    pub cost : ℕ
    pub credit : ℕ
    pub y1 : Note
    pub y2 : Note
    pub p2 : Held
    pub c1 : ℕ
    pub s3 : Store
    pub leads : Leads (pr w) b0 cost (y1 ∷ y2 ∷ []) (rewound_from w e i a lo s3)
    pub no_less : suc k ≤ cost
    pub bound : cost + credit ≤ 256 * suc k + dear_of w.original (x1 ∷ x2 ∷ []) + spare
    pub alike : AllAlike (SameNote w.original w.settings w.which w.plan.area) (x1 ∷ x2 ∷ []) (y1 ∷ y2 ∷ [])
    pub at_each : (j : ℕ) → j ≤ cost → Here w.original w.settings w.which w.written (xp w) w.plan None c.store (x1 ∷ x2 ∷ []) k j (run (pr w) j b0)
    pub before : Leads (pr w) b0 c1 (y1 ∷ []) p2
    pub last : pr w p2 ≡ goes 0 (y2 ∷ []) (rewound_from w e i a lo s3)
    pub cost_is : cost ≡ c1 + suc 0
    pub same_event : y2.event ≡ x2.event
    pub same_call : y1.event ≡ x1.event
    pub like : Alike (setting w top) d.store s3
    pub suspends : Suspends w ft sl L W G law top i e a lo d credit s3
    pub known : Known (rewound_from w e i a lo s3)

  module _ (nums : All (StandsNumbered w.original w.settings w.which) (stack_of (base w) d)) (fits_len : Room w.original w.settings.policy (stack_of (base w) d) ≤ w.plan.area.len) where
    st : Stopped (setting w top) i ((cd.flat_at).here ∷ (cd.flat_at).under) ((cd.at).here ∷ (cd.at).under)
    st = stops_law (setting w top) i _ _ cd.stack (law.numbers top i d cd.flat_at cd.waits nums)

    stand : FlatStands w (λ c d. c ≡ d) L W G top i d cd.flat_at ((cd.at).here ∷ (cd.at).under) st
    stand = law.stands top i d cd.flat_at ((cd.at).here ∷ (cd.at).under) st cd.waits nums unwound

    lv : AreLevels (gl w) w.plan.area (setting w top) ((cd.at).here ∷ (cd.at).under) (levels_of (setting w top) w.lay st)
    lv = stopped_are_levels (gl w) w.plan.area (setting w top) w.lay i _ _ st (ft.paired top) stand.may

    z : LevelsOf w top S (cd.at).here (cd.at).under (levels_of (setting w top) w.lay st)
    z = levels_are w top S (cd.at).here (cd.at).under (levels_of (setting w top) w.lay st) lv.acts lv.fit lv.chain stand.stand stand.weigh

    in_room : 8 + total_size (z.v ∷ z.vs) ≤ w.plan.area.len
    in_room = let hd = z.held in subst (λ q. q ≤ w.plan.area.len) hd.room fits_len

    pa : PausesAt (gl w) (gl w) (suc (gl w)) w.written (xp w) w.plan e i a lo s1 z.v z.vs
    pa = pauses_law (gl w) (gl w) (suc (gl w)) w.written (xp w) w.plan e i a lo s1 z.v z.vs ft.runtime rdy z.fits in_room

    quiet_way : Sil w d.store b2 pa.cost pa.at
    quiet_way =
        let cfg : at_import s1 z.v z.vs ≡ cd.at = same_config cd.at (activation_of z.v) (map activation_of z.vs) z.here_is z.under_is in
        silent_quiet w.original w.settings w.which w.written (xp w) w.plan d.store b2 pa.at pa.cost
        (subst (λ q. GoesUnseen (gl w) w.plan.area w.written (xp w) w.plan (calling (unwinds e i a) (with_words s1 w.plan.area) (xp w).start_unwind (V.I32 w.plan.area.at ∷ [])
        (give_zero q) lo) pa.cost pa.at) cfg pa.before)
        words_same

    like3 : Alike (setting w top) d.store pa.store
    like3 = sl.around top d.store s1 pa.store cd.alike pa.around

    hangs : Hangs w ft sl L W G law top i e d
    hangs =
        let deep0 = under_deep (sides w top) i _ _ cd.stack (omega arith) in
        let deep1 : length (cd.at).under ≡ length z.vs = ap length z.under_is ∙ length-map z.vs activation_of in
        record {
          flat = cd.flat_at;
          waits = cd.waits;
          here = (cd.at).here;
          under = (cd.at).under;
          st = st;
          may = stand.may;
          v = z.v;
          vs = z.vs;
          are = z.are;
          fits = z.fits;
          chain = z.chain;
          room = in_room;
          deep = omega arith;
          args = args;
          took = subst (λ (b : Activation). Took (param_count (func_type_at w.written i)) args b.taken) z.here_is
              (call_took w.written cd.mid cd.at cd.j i args cd.asks_there cd.all_there);
          is_top = is_top;
        }

    abbrev b4 : Held
    b4 = rewound_from w e i a lo pa.store

    abbrev y2_there : Note
    y2_there = note (paused a.ticks (8 + total_size (z.v ∷ z.vs))) pa.store

    paused_alike : x2.event ≡ y2_there.event
    paused_alike =
        let hd = z.held in
        ap (λ q. paused ticks q) hd.room ∙ ap (λ q. paused q (8 + total_size (z.v ∷ z.vs))) (sym (ticks_are a.ticks ticks et))

    told_as : SameNote w.original w.settings w.which w.plan.area x2 y2_there
    told_as =
        let hd = z.held in
        let sus = pa.suspended in
        let arnd = pa.around in
        let lk3 = like3 in
        let rdy3 = sl.ready top d.store pa.store lk3 wide small in
        let room_there = in_room in
        let area_at : AreaAt (suc (gl w)) w.plan.area pa.store (w.plan.area.at + 8 + total_size (z.v ∷ z.vs)) =
        record { address = arnd.address; location = sus.location; limit = sus.limit; low = omega arith; high = omega arith; inside = rdy3.inside; small = rdy3.small } in
        same_note w x2 y2_there paused_alike (sl.same_end top d.store pa.store lk3) (hd.image (suc (gl w)) w.plan.area pa.store area_at sus.frames) refl (quiet_there w top d.store pa.store lk3)

    seen3 : Sm w d.store pa.store
    seen3 = sl.same_end top d.store pa.store like3

    t2 : Told w.original w.settings w.which w.written (xp w) w.plan d.store (x2 ∷ []) b2 (pa.cost + 1 + 0) (y2_there ∷ []) b4
    t2 = told [] x2 quiet_way pa.tells (told_as, tt) (no_more (silent_none w.original w.settings w.which w.written (xp w) w.plan d.store b4 seen3)) refl refl refl

    abbrev whole_cost : ℕ
    whole_cost = cd.cost + suc cd.j + (pa.cost + 1 + 0)

    t1 : Told w.original w.settings w.which w.written (xp w) w.plan c.store (x1 ∷ x2 ∷ []) b0 whole_cost (y1_there ∷ y2_there ∷ []) b4
    t1 = told [] x1 cd.silent mv (al1, tt) t2 refl refl refl

    leads_there : Leads (pr w) b0 whole_cost (y1_there ∷ y2_there ∷ []) b4
    leads_there = told_leads w.original w.settings w.which w.written (xp w) w.plan c.store (x1 ∷ x2 ∷ []) (y1_there ∷ y2_there ∷ []) b0 b4 whole_cost t1

    each_there : (j : ℕ) → j ≤ whole_cost → Here w.original w.settings w.which w.written (xp w) w.plan None c.store (x1 ∷ x2 ∷ []) k j (run (pr w) j b0)
    unfolding t1 t2
    each_there j le =
        here w.original w.settings w.which w.written (xp w) w.plan None c.store (x1 ∷ x2 ∷ []) (y1_there ∷ y2_there ∷ []) b0 b4 whole_cost t1 k cd.least (
          calls_none_before w.original w.settings w.which w.written (xp w) w.plan None c.store b0 b1 b2 cd.cost cd.j (y1_there ∷ []) cd.silent mv tt,
          (
            calls_none_before w.original w.settings w.which w.written (xp w) w.plan told_call d.store b2 pa.at b4 pa.cost 0 (y2_there ∷ []) quiet_way pa.tells tt,
            λ q few. let none : q ≡ 0 = omega arith in subst (λ z. RewindsTo w.written told_call (run (pr w) z b4).last) (sym none) tt,
          ),
        ) j le

    to_last : Leads (pr w) b0 (cd.cost + suc cd.j + pa.cost) (y1_there ∷ []) pa.at
    to_last =
        let way = leads_on Held Note (pr w) b0 b1 pa.at cd.cost (suc cd.j + pa.cost) [] (y1_there ∷ []) (cd.silent).leads (moves mv (quiet_way).leads refl refl) in
        let ee : cd.cost + (suc cd.j + pa.cost) ≡ cd.cost + suc cd.j + pa.cost = omega arith in
        subst (λ m. Leads (pr w) b0 m (y1_there ∷ []) pa.at) ee way

    credit_there : ℕ
    credit_there = 120 + length e.args + 2 * length (z.v).site.slots + rewinding_all z.v z.vs

    suspends_there : Suspends w ft sl L W G law top i e a lo d credit_there pa.store
    unfolding credit_there hangs
    suspends_there =
        let same_size = (sl.same_end top d.store pa.store like3).size in
        let lk3 = like3 in
        record {
          hangs = hangs;
          table = lk3.table;
          suspended = pa.suspended;
          numbered = nums;
          fits = answer_fits w ft sl L W G law n spare top x within (an_entry e) c b l is_top lk lf al k i args d is cd a os eo;
          lets = lets;
          passes = subst (λ m. fault_of (func_type_at (base w) i).results m w.plan false i a ≡ None) same_size ef;
          left_fits = left_fits w ft sl L W G law n spare top x within (an_entry e) c b l is_top lk lf al k i args d is cd a os eo;
          credit = omega arith;
        }

    bound_there : whole_cost + credit_there ≤ 256 * suc k + dear_of w.original (x1 ∷ x2 ∷ []) + spare
    unfolding credit_there
    bound_there =
        let dear : dear_of w.original (x1 ∷ x2 ∷ []) ≡ 256 + sum_by (activation_bound w.original) S + dear_of w.original (x2 ∷ []) = dear_cons w.original x1 (x2 ∷ []) in
        half_bound (cd.cost + suc cd.j) k spare pa.cost (unwinding_all z.v z.vs) (length e.args) (length (z.v).site.slots) (rewinding_all z.v z.vs) (sum_by (activation_bound w.original) S)
        (dear_of w.original (x1 ∷ x2 ∷ [])) (dear_of w.original (x2 ∷ [])) (param_count (func_type_at w.flat top)) cd.few pa.within
        (weigh_all w.original (param_count (func_type_at w.flat top)) z.v z.vs S z.weigh) is_top.2 dear

    pub pauses_there : PausesThere
    pauses_there =
        let least = cd.least in
        record {
          cost = whole_cost;
          credit = credit_there;
          y1 = y1_there;
          y2 = y2_there;
          p2 = pa.at;
          c1 = cd.cost + suc cd.j + pa.cost;
          s3 = pa.store;
          leads = leads_there;
          no_less = omega arith;
          bound = bound_there;
          alike = told_alike w.original w.settings w.which w.written (xp w) w.plan c.store (x1 ∷ x2 ∷ []) (y1_there ∷ y2_there ∷ []) b0 b4 whole_cost t1;
          at_each = each_there;
          before = to_last;
          last = pa.tells;
          cost_is = omega arith;
          same_event = sym paused_alike;
          same_call = refl;
          like = like3;
          suspends = suspends_there;
          known = known_to b4 whole_cost (y1_there ∷ y2_there ∷ []) leads_there;
        }
