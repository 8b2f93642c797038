-- A call whose answer pauses: one move of the shown blocking machine, with three notes, or two where the frames don't fit.
use Rattle.run_theory.proofs.TestedPokes.{passes_area}
use Rattle.headline.specs.FlatLaw.{AllLocalsFit, AllWeigh, FlatLaw, FlatStands}
use Rattle.headline.specs.World.{World, WorldFits, base, setting}
use Rattle.headline.specs.Halts.{HaltLaw, HaltsIn, PausesKnown, StackKnown, room_in, used_in}
use Rattle.headline.proofs.Rooms.{room_known}
use Rattle.frame_laws.proofs.HeldFrames.{stacks_held}
use Rattle.frame_laws.specs.FrameMemory.{AreaAt}
use Rattle.frame_laws.specs.Stack.{AllFit, Chain, Level, activation_of, fit_of, rewinding_all, total_size, unwinding_all}
use Rattle.frame_laws.specs.Suspended.{AllStandFor, HeldAlike}
use Rattle.guard_runs.proofs.WaitingLevels.{stopped_are_levels}
use Rattle.guard_runs.specs.Levels.{AreLevels, ChainOf, levels_of}
use Rattle.guard_runs.specs.Returned.{AllSameFlat}
use Rattle.guard_runs.proofs.StoppedStacks.{stops_law, waits_law}
use Rattle.guard_runs.specs.Alike.{Alike}
use Rattle.guard_runs.specs.Stopped.{Stopped}
use Rattle.headline.proofs.Asks.{Called, Given_on, answer_fits, by_said, give, left_fits, pause_allowed, same_d, tested_now, went_on}
use Rattle.headline.proofs.FlatStretches.{Sil, Sm, gl, pr, sides, xp}
use Rattle.headline.specs.StoreLaws.{StoreLaws}
use Rattle.headline.specs.Told.{answer_notes, goes_on_told}
use Rattle.headline.proofs.FromSimulation.{dear_cons}
use Rattle.headline.proofs.Halves.{Back, Hangs, comes_back}
use Rattle.headline.proofs.OuterLevels.{under_deep, weigh_all}
use Rattle.headline.proofs.Reductions.{Allowed, LeftFits, Link, Owes, Quiet, R, TopOf, allowed_on, nb, nn, quiet_there, r_halts, r_runs, rests_before, same_note, sh}
use Rattle.headline.proofs.ToldMoves.{Calls, Told, by_told, calls_none, calls_none_before, dear_of, no_more, silent_none, silent_quiet, told, told_leads}
use Rattle.guard_runs.proofs.Pausing.{pauses_law}
use Rattle.guard_runs.specs.Pause.{AreaReady, PausesAt, at_import}
use Rattle.guard_runs.specs.UnseenMoves.{GoesUnseen}
use Rattle.run_laws.proofs.CallArgs.{Took}
use Rattle.run_laws.proofs.CallArgs.{took as call_took}
use Rattle.run_laws.proofs.Keeping.{same_on}
use Rattle.std.proofs.Common.{All, Bool, List, None, Option, Some, [], ap, arith, false, length, map, refl, subst, suc, sym, true, zero, ℕ, ◌*◌, ◌+◌, ◌<◌, ◌^◌, ◌∙◌, ◌∷◌, ◌≡◌, ◌≤◌, ◌++◌}
use Rattle.std.proofs.lemmas.Bool.{ltb-false, ltb-true}
use Rattle.std.proofs.lemmas.List.{length-map}
use Rattle.std.specs.List.{sum_by}
use Rattle.std.specs.Option.{option_to_list}
use Rattle.std.specs.Prelude.{if◌then◌else◌, nat_lt}
use Rattle.run_theory.proofs.Runs.{leads_on, leads_run}
use Rattle.wa_model.specs.Behaves.{AreaKept, RewindsTo, SameNote, StandsNumbered}
use Rattle.wa_model.specs.Blocking.{Left, Note, State, an_entry, call_note, go_on, halts, import_traps, inside, note, pause_of, poked, resumed, runs, tested, with_outcomes}
use Rattle.wa_model.specs.Configuration.{Activation, Configuration, stack_of}
use Rattle.wa_model.specs.Expected.{pause_note, trap_note}
use Rattle.wa_model.specs.Machine.{Leads, Ran, goes, moves, run, stays}
use Rattle.wa_model.specs.Outside.{Answer, Call, answered, ended, paused}
use Rattle.wa_model.specs.Plan.{Entry, Outcome, given}
use Rattle.wa_model.specs.Protocol.{Held, answer_note, busy, call_again, calling, give_zero, held_resumed, is_running, over, rewinds, store_held, unwinds, with_words}
use Rattle.wa_model.specs.Step.{asks, param_count, step}
use Rattle.wa_model.specs.Store.{Store}
use Rattle.wa_model.specs.declared.answers.Said.{Said}
use Rattle.wa_model.specs.declared.answers.Said.TheVariants as SV
use Rattle.wa_model.specs.declared.events.End.TheVariants.{Trapped, UnwindTrap}
use Rattle.wa_types.specs.Bounds.{activation_bound}
use Rattle.wa_types.specs.Frames.{Room, Suspended}
use Rattle.wa_types.specs.Modules.{func_type_at}
use Rattle.wa_types.specs.declared.values.Trap.TheVariants.{Import, Unreachable}
use Rattle.wa_types.specs.declared.values.Value.{Value}
use Rattle.wa_types.specs.declared.values.Value.TheVariants as V

pub ticks_are : (t ticks : ℕ) → pause_of t ≡ Some ticks → t ≡ ticks
ticks_are zero ticks e = cc
ticks_are (suc t) ticks e = cc

pause_bound : (c1 k spare pc ac gc left un args sl rw most dear rest n : ℕ) → c1 ≤ 20 * suc k + 9 + spare → pc ≤ 28 + un → ac ≤ 29 + args + 2 * sl + rw → gc + 10 * left ≤ 90
    → un + n + 2 * sl + rw ≤ most → args ≡ n → dear ≡ 256 + most + rest
    → c1 + (pc + 1 + (ac + 1 + gc)) + 10 * left ≤ 256 * suc k + dear + spare
pause_bound c1 k spare pc ac gc left un args sl rw most dear rest n h1 h2 h3 h4 h5 h6 h7 = omega arith

paid_enough : (c1 k more : ℕ) → suc k ≤ c1 → suc k ≤ c1 + more
paid_enough c1 k more h = omega arith

-- what is said is told in the move of the call
pub told_moves : (k : ℕ) (x : Note) (said : Said) (s : Store) (l : Left) (e : Entry) (c : Configuration)
    → go_on k x said s l (inside (an_entry e) c) ≡ goes k (x ∷ answer_notes said s) (goes_on_told said e c s l)
told_moves k x (SV.Value v) s l e c = refl
told_moves k x SV.Trap s l e c = refl

pub some_is : {X : Type 0} (x y : X) → Some x ≡ Some y → x ≡ y
some_is x y q = cc

pub same_config : (c : Configuration) (a : Activation) (us : List Activation) → c.here ≡ a → c.under ≡ us → record { store = c.store; here = a; under = us } ≡ c
same_config c a us e1 e2 = sym (ap (λ z. record { store = c.store; here = z; under = c.under }) e1 ∙ ap (λ z. record { store = c.store; here = a; under = z }) e2)

-- The levels of a suspended stack: there is an innermost one.
pub record LevelsOf (w : World) (top : ℕ) (S : List Suspended) (here : Activation) (under : List Activation) (ws : List Level) : Type 0 where
  pub v : Level
  pub vs : List Level
  pub are : ws ≡ v ∷ vs
  pub here_is : here ≡ activation_of v
  pub under_is : under ≡ map activation_of vs
  pub fits : AllFit (gl w) w.plan.area w.written (gl w) (suc (gl w)) (v ∷ vs)
  pub chain : Chain w.written (gl w) w.table v vs
  pub held : HeldAlike w.original w.settings w.which (v ∷ vs) S
  pub weigh : AllWeigh w.original (param_count (func_type_at w.flat top)) (v ∷ vs) S

-- activations that are levels
record SomeLevel (here : Activation) (under : List Activation) (ws : List Level) : Type 0 where
  v : Level
  vs : List Level
  are : ws ≡ v ∷ vs
  acts : here ∷ under ≡ activation_of v ∷ map activation_of vs

some_level : (here : Activation) (under : List Activation) (ws : List Level) → here ∷ under ≡ map activation_of ws → SomeLevel here under ws
some_level here under [] e = cc
some_level here under (v ∷ vs) e = record { v = v; vs = vs; are = refl; acts = e }

first_is : (a b : Activation) (us vs : List Activation) → a ∷ us ≡ b ∷ vs → a ≡ b
first_is a b us vs e = cc

rest_are : (a b : Activation) (us vs : List Activation) → a ∷ us ≡ b ∷ vs → us ≡ vs
rest_are a b us vs e = cc

pub levels_are : (w : World) (top : ℕ) (S : List Suspended) (here : Activation) (under : List Activation) (ws : List Level) → here ∷ under ≡ map activation_of ws
    → AllFit (gl w) w.plan.area w.written (gl w) (suc (gl w)) ws → ChainOf (setting w top) ws → AllStandFor w.original w.settings w.which ws S
    → AllWeigh w.original (param_count (func_type_at w.flat top)) ws S → LevelsOf w top S here under ws
levels_are w top S here under ws acts fit chain stand weigh = record {
  v = r.v;
  vs = r.vs;
  are = r.are;
  here_is = first_is here (activation_of r.v) under (map activation_of r.vs) r.acts;
  under_is = rest_are here (activation_of r.v) under (map activation_of r.vs) r.acts;
  fits = subst (AllFit (gl w) w.plan.area w.written (gl w) (suc (gl w))) r.are fit;
  chain = subst (ChainOf (setting w top)) r.are chain;
  held = stacks_held w.original w.settings w.which (r.v ∷ r.vs) S (subst (λ vs. AllStandFor w.original w.settings w.which vs S) r.are stand);
  weigh = subst (λ vs. AllWeigh w.original (param_count (func_type_at w.flat top)) vs S) r.are weigh;
}
  where
    r : SomeLevel here under ws
    r = some_level here under ws acts

module _ (w : World) (ft : WorldFits w) (sl : StoreLaws w) (L : (top spare : ℕ) → Configuration → Configuration → Type 0) (W : ℕ → ℕ → Configuration → Configuration → Type 0) (G : Store
    → Type 0) (law : FlatLaw w (λ c d. c ≡ d) L W G) (hl : HaltLaw w W)
    (n spare top x : ℕ) (within : 10 * x ≤ spare) (e : Entry) (c b : Configuration) (l : Left) (is_top : TopOf w (an_entry e) top) (lk : Link w ft sl L W G law top x c b)
    (lf : LeftFits w l) (al : Allowed w n (runs (an_entry e) c l))
    (k i : ℕ) (args : List Value) (d : Configuration) (is : step (base w) c ≡ asks k i args d) (cd : Called w ft sl L W G law top spare (an_entry e) l c.store b k i args d)
    (a : Answer) (os : List Outcome) (ticks : ℕ) (eo : l.outcomes ≡ given a ∷ os) (ef : Rattle.headline.proofs.Asks.fault w ft sl L W G law n spare top x within
    (an_entry e) c b l is_top lk lf al k i args d is cd a ≡ None) (et : pause_of a.ticks ≡ Some ticks)
    (came : (c2 : Configuration) (l2 : Left) (cost : ℕ) (es : List Note) → Leads (pr w) (busy (is_running (an_entry e)) b l) cost es (busy (is_running (an_entry e)) c2 l2)
    → AllLocalsFit w.written (c2.here ∷ c2.under))
    (unwinds_so : (s2 : Store) (x2 : ℕ) (args2 : List Value) (c2 : Configuration) (l2 : Left) (cost : ℕ) (es : List Note)
    → Leads (pr w) (busy (is_running (an_entry e)) b l) cost es (calling (unwinds e i a) s2 x2 args2 (give_zero c2) l2) → AllLocalsFit w.written (c2.here ∷ c2.under)) where
  abbrev lo : Left
  lo = with_outcomes l os

  abbrev a0 : State
  a0 = runs (an_entry e) c l

  abbrev b0 : Held
  b0 = busy (is_running (an_entry e)) b l

  abbrev b1 : Held
  b1 = busy (is_running (an_entry e)) cd.mid l

  abbrev s1 : Store
  s1 = (cd.at).store

  abbrev S : List Suspended
  S = stack_of (base w) d

  abbrev x1 : Note
  x1 = call_note i args d.store S (Some ticks)

  abbrev y1 : Note
  y1 = call_note i args s1 (stack_of w.written cd.at) (Some ticks)

  -- the call that y1 tells
  abbrev told_call : Option Call
  told_call = Some (record { import = i; args = args })

  abbrev b2 : Held
  b2 = calling (unwinds e i a) (with_words s1 w.plan.area) (xp w).start_unwind (V.I32 w.plan.area.at ∷ []) (give_zero cd.at) lo

  abbrev a2 : State
  a2 = goes_on_told a.said e d (poked d.store a.pokes) lo

  mv : pr w b1 ≡ goes cd.j (y1 ∷ []) b2
  mv =
      tested_now w ft sl L W G law n spare top x within (an_entry e) c b l is_top lk lf al k i args d is cd a os None eo ef
      ∙ ap (Rattle.wa_model.specs.Protocol.held_tested w.written (xp w) w.plan cd.j i args (inside (an_entry e) cd.at) lo a None) et

  was : nb w a0 ≡ goes k (x1 ∷ answer_notes a.said (poked d.store a.pokes)) a2
  was =
      went_on w ft sl L W G law n spare top x within (an_entry e) c b l is_top lk lf al k i args d is cd a os eo ef
      ∙ ap (λ z. go_on k (call_note i args d.store S z) a.said (poked d.store a.pokes) lo (inside (an_entry e) d)) et
      ∙ told_moves k x1 a.said (poked d.store a.pokes) lo e d

  same1 : Sm w d.store s1
  same1 = same_d w ft sl L W G law n spare top x within (an_entry e) c b l is_top lk lf al k i args d is cd

  small : length d.store.memory < 2 ^ 32
  small = law.small d.store (law.waits_good top i d cd.flat_at cd.waits)

  -- the plan lets this import pause, so its area is wide enough
  wide : 8 ≤ w.plan.area.len
  wide = ft.least (i, pause_allowed (func_type_at (base w) i).results (length d.store.memory) w.plan false i a ticks ef et)

  rdy : AreaReady (gl w) (gl w) (suc (gl w)) w.plan.area s1
  rdy = sl.ready top d.store s1 cd.alike wide small

  al1 : SameNote w.original w.settings w.which w.plan.area x1 y1
  al1 = same_note w x1 y1 refl same1 tt refl (quiet_there w top d.store s1 cd.alike)

  -- while it can't be paid, nothing is made
  before : (j : ℕ) → j ≤ k → (((run (pr w) j b0).events ≡ []) × Sm w c.store (store_held (run (pr w) j b0).last))
  before j le = rests_before w c.store b0 b1 b2 cd.cost cd.j (y1 ∷ []) cd.silent mv j (let q = cd.least in omega arith)

  abbrev Numbered : Type 0
  Numbered = All (StandsNumbered w.original w.settings w.which) S

  known_first : (t : Bool) (rest : List Note) → PausesKnown t w.original w.settings w.which (x1 ∷ rest) → StackKnown t w.original w.settings w.which S
  known_first true rest h = tt
  known_first false rest h = let lt : 0 < length (x1 ∷ rest) = omega arith in h 0 x1 lt

  known_now : suc k ≤ n → StackKnown w.asserts w.original w.settings w.which S
  known_now enough =
      known_first w.asserts (answer_notes a.said (poked d.store a.pokes)) (al.numbered 0 k [] (x1 ∷ answer_notes a.said (poked d.store a.pokes)) a0 a2 stays was (omega arith))

  -- its locals fit where it is about to unwind
  unwound : AllLocalsFit w.written ((cd.at).here ∷ (cd.at).under)
  unwound =
      unwinds_so (with_words s1 w.plan.area) (xp w).start_unwind (V.I32 w.plan.area.at ∷ []) cd.at lo _ _
      (leads_on Held Note (pr w) b0 b1 b2 cd.cost (suc cd.j + 0) [] ((y1 ∷ []) ++ []) (cd.silent).leads (moves mv stays refl refl))

  -- what is known of the stack
  record Standing : Type 0 where
    st : Stopped (setting w top) i ((cd.flat_at).here ∷ (cd.flat_at).under) ((cd.at).here ∷ (cd.at).under)
    fs : FlatStands w (λ c d. c ≡ d) L W G top i d cd.flat_at ((cd.at).here ∷ (cd.at).under) st
    v : Level
    vs : List Level
    are : levels_of (setting w top) w.lay st ≡ v ∷ vs
    here_is : (cd.at).here ≡ activation_of v
    under_is : (cd.at).under ≡ map activation_of vs
    fits : AllFit (gl w) w.plan.area w.written (gl w) (suc (gl w)) (v ∷ vs)
    chain : Chain w.written (gl w) w.table v vs
    held : HeldAlike w.original w.settings w.which (v ∷ vs) S
    weigh : AllWeigh w.original (param_count (func_type_at w.flat top)) (v ∷ vs) S

  standing : Numbered → Standing
  standing nums = record {
    st = st;
    fs = fs;
    v = r.v;
    vs = r.vs;
    are = r.are;
    here_is = r.here_is;
    under_is = r.under_is;
    fits = r.fits;
    chain = r.chain;
    held = r.held;
    weigh = r.weigh;
  }
    where
      st : Stopped (setting w top) i ((cd.flat_at).here ∷ (cd.flat_at).under) ((cd.at).here ∷ (cd.at).under)
      st = stops_law (setting w top) i _ _ cd.stack (law.numbers top i d cd.flat_at cd.waits nums)

      fs : FlatStands w (λ c d. c ≡ d) L W G top i d cd.flat_at ((cd.at).here ∷ (cd.at).under) st
      fs = law.stands top i d cd.flat_at ((cd.at).here ∷ (cd.at).under) st cd.waits nums unwound

      lv : AreLevels (gl w) w.plan.area (setting w top) ((cd.at).here ∷ (cd.at).under) (levels_of (setting w top) w.lay st)
      lv = stopped_are_levels (gl w) w.plan.area (setting w top) w.lay i _ _ st (ft.paired top) fs.may

      r : LevelsOf w top S (cd.at).here (cd.at).under (levels_of (setting w top) w.lay st)
      r = levels_are w top S (cd.at).here (cd.at).under (levels_of (setting w top) w.lay st) lv.acts lv.fit lv.chain fs.stand fs.weigh

  words_same : Sm w d.store (with_words s1 w.plan.area)
  words_same = let r = rdy in same_on (gl w) w.plan.area d.store s1 (with_words s1 w.plan.area) same1 (sl.words s1 wide r.inside)

  call_from : Configuration → Held
  call_from z = calling (unwinds e i a) (with_words s1 w.plan.area) (xp w).start_unwind (V.I32 w.plan.area.at ∷ []) (give_zero z) lo

  -- ---- the frames don't fit

  overrun : (enough : suc k ≤ n) → w.plan.area.len < room_in w S
      → Rattle.headline.proofs.Reductions.M w ft sl L W G law n spare k (x1 ∷ trap_note (used_in w S) w.plan.area.len d.store ∷ []) a0
      (halts d.store) b0
  overrun enough over_len =
      let hi : HaltsIn w e i a lo S cd.at (used_in w S) = hl top i d cd.flat_at cd.at e a lo cd.waits cd.stack (known_now enough) over_len unwound rdy in
      let ov = hi.traps in
      let qq : GoesUnseen (gl w) w.plan.area w.written (xp w) w.plan b2 ov.cost ov.at = ov.before in
      let q1 = silent_quiet w.original w.settings w.which w.written (xp w) w.plan d.store b2 ov.at ov.cost qq words_same in
      let last = q1.each ov.cost (omega arith) in
      let zz : ov.cost ≡ ov.cost + 0 = omega arith in
      let at : run (pr w) ov.cost b2 ≡ run (pr w) 0 ov.at = ap (λ j. run (pr w) j b2) zz ∙ leads_run Held Note (pr w) b2 ov.at ov.cost 0 [] q1.leads in
      let seen_at : Sm w d.store (store_held ov.at) = subst (λ (o : Ran Held Note). Sm w d.store (store_held o.last)) at last.1 in
      let held_is : store_held ov.at ≡ (ov.config).store = ap store_held ov.is in
      let seen_end : Sm w d.store ov.store = subst (λ s. Sm w d.store s) (held_is ∙ sym (sl.trapped ov.config 0 Unreachable ov.store ov.traps_there)) seen_at in
      let x2 : Note = trap_note (used_in w S) w.plan.area.len d.store in
      let y2 : Note = note (ended (UnwindTrap Unreachable (fit_of w.plan.area.len 8 hi.inner) w.plan.area.len)) ov.store in
      let al2 : SameNote w.original w.settings w.which w.plan.area x2 y2 = same_note w x2 y2 (ap (λ u. ended (UnwindTrap Unreachable u w.plan.area.len)) hi.bytes) seen_end tt refl tt in
      let t2 : Told w.original w.settings w.which w.written (xp w) w.plan d.store (x2 ∷ []) b2 (ov.cost + 1 + 0) (y2 ∷ []) (over ov.store) =
      told [] x2 q1 ov.tells (al2, tt) (no_more (silent_none w.original w.settings w.which w.written (xp w) w.plan d.store (over ov.store) seen_end)) refl refl refl in
      let t1 : Told w.original w.settings w.which w.written (xp w) w.plan c.store (x1 ∷ x2 ∷ []) b0 (cd.cost + suc cd.j + (ov.cost + 1 + 0)) (y1 ∷ y2 ∷ []) (over ov.store) =
      told [] x1 cd.silent mv (al1, tt) t2 refl refl refl in
      let w0 = cd.least in let w1 = cd.few in let w2 = ov.within in
      let w3 = hi.few in
      let dear : dear_of w.original (x1 ∷ x2 ∷ []) ≡ 256 + sum_by (activation_bound w.original) S + dear_of w.original (x2 ∷ []) = dear_cons w.original x1 (x2 ∷ []) in
      by_told w.original w.settings w.which w.written (xp w) w.plan (nn w) (R w ft sl L W G law) n spare k (cd.cost + suc cd.j + (ov.cost + 1 + 0)) 0 (x1 ∷ x2 ∷ []) (y1 ∷ y2 ∷ []) a0
      (halts d.store) b0 (over ov.store) t1 (omega arith) (
        calls_none_before w.original w.settings w.which w.written (xp w) w.plan None c.store b0 b1 b2 cd.cost cd.j (y1 ∷ []) cd.silent mv tt,
        (
          calls_none_before w.original w.settings w.which w.written (xp w) w.plan told_call d.store b2 ov.at (over ov.store) ov.cost 0 (y2 ∷ []) q1 ov.tells tt,
          calls_none w.original w.settings w.which w.written (xp w) w.plan told_call d.store (over ov.store) (over ov.store) 0
              (silent_none w.original w.settings w.which w.written (xp w) w.plan d.store (over ov.store) seen_end) tt,
        ),
      ) (omega arith) (omega arith) (r_halts seen_end)

  -- ---- the frames fit: paused, and answered

  abbrev x2 : Note
  x2 = pause_note ticks (Room w.original w.settings.policy S) d.store S

  abbrev Same : Note → Note → Type 0
  Same = SameNote w.original w.settings w.which w.plan.area

  -- the stack was suspended in a store, and came back to where it waits in another one
  record Returned : Type 0 where
    pc : ℕ
    p2 : Held
    y2 : Note
    b4 : Held
    ac : ℕ
    p4 : Held
    s3 : Store
    wt : Configuration
    s5 : Store
    to_pause : Sil w d.store b2 pc p2
    pauses : pr w p2 ≡ goes 0 (y2 ∷ []) b4
    same2 : Same x2 y2
    to_answer : Sil w d.store b4 ac p4
    again : (j : ℕ) → j ≤ ac → RewindsTo w.written (Some (record { import = i; args = args })) (run (pr w) j b4).last
    answers : pr w p4 ≡ held_resumed 0 e a.said s3 wt lo (poked s5 a.pokes)
    kept : AreaKept w.plan.area s3 (poked s5 a.pokes)
    seen : Sm w (poked d.store a.pokes) (poked s5 a.pokes)
    quiet : Quiet w (poked s5 a.pokes)
    like : Alike (setting w top) d.store s5
    new : List Activation
    same_flat : AllSameFlat w.lay ((cd.flat_at).here ∷ (cd.flat_at).under) new
    stopped : Stopped (setting w top) i new (wt.here ∷ wt.under)
    un : ℕ
    sl2 : ℕ
    rw2 : ℕ
    unwound_in : pc ≤ 28 + un
    rewound_in : ac ≤ 29 + length e.args + 2 * sl2 + rw2
    weighs : un + param_count (func_type_at w.flat top) + 2 * sl2 + rw2 ≤ sum_by (activation_bound w.original) S

  returned_so : Numbered → Room w.original w.settings.policy S ≤ w.plan.area.len → Returned
  returned_so nums fits_len =
      let z = standing nums in
      let hd = z.held in
      let zfs = z.fs in
      let ar = w.plan.area in
      let in_room : 8 + total_size (z.v ∷ z.vs) ≤ ar.len = subst (λ q. q ≤ ar.len) hd.room fits_len in
      let pa : PausesAt (gl w) (gl w) (suc (gl w)) w.written (xp w) w.plan e i a lo s1 z.v z.vs =
      pauses_law (gl w) (gl w) (suc (gl w)) w.written (xp w) w.plan e i a lo s1 z.v z.vs ft.runtime rdy z.fits in_room in
      let cfg : at_import s1 z.v z.vs ≡ cd.at = same_config cd.at (activation_of z.v) (map activation_of z.vs) z.here_is z.under_is in
      let qq : GoesUnseen (gl w) ar w.written (xp w) w.plan b2 pa.cost pa.at =
      subst (λ q. GoesUnseen (gl w) ar w.written (xp w) w.plan (calling (unwinds e i a) (with_words s1 ar) (xp w).start_unwind (V.I32 ar.at ∷ []) (give_zero q) lo) pa.cost pa.at) cfg pa.before in
      let q1 = silent_quiet w.original w.settings w.which w.written (xp w) w.plan d.store b2 pa.at pa.cost qq words_same in
      let alike3 = sl.around top d.store s1 pa.store cd.alike pa.around in
      let same3 = sl.same_end top d.store pa.store alike3 in
      let rdy3 = sl.ready top d.store pa.store alike3 wide small in
      let deep0 = under_deep (sides w top) i _ _ cd.stack (omega arith) in
      let deep1 : length (cd.at).under ≡ length z.vs = ap length z.under_is ∙ length-map z.vs activation_of in
      let hangs : Hangs w ft sl L W G law top i e d = record {
        flat = cd.flat_at;
        waits = cd.waits;
        here = (cd.at).here;
        under = (cd.at).under;
        st = z.st;
        may = zfs.may;
        v = z.v;
        vs = z.vs;
        are = z.are;
        fits = z.fits;
        chain = z.chain;
        room = in_room;
        deep = omega arith;
        args = args;
        took = subst (λ (b : Activation). Took (param_count (func_type_at w.written i)) args b.taken) z.here_is
            (call_took w.written cd.mid cd.at cd.j i args cd.asks_there cd.all_there);
        is_top = is_top;
      } in
      let b4 : Held = calling (rewinds e i a pa.store) pa.store (xp w).start_rewind (V.I32 ar.at ∷ []) call_again lo in
      let no_bad = passes_area (func_type_at (base w) i).results (length d.store.memory) w.plan false i a ef in
      let bk : Back w ft sl L W G law top i e a lo d hangs d.store pa.store = comes_back w ft sl L W G law top i e a lo d hangs d.store pa.store alike3 wide small pa.suspended no_bad in
      let y2 : Note = note (paused a.ticks (8 + total_size (z.v ∷ z.vs))) pa.store in
      let sus = pa.suspended in
      let arnd = pa.around in
      let area_at : AreaAt (suc (gl w)) ar pa.store (ar.at + 8 + total_size (z.v ∷ z.vs)) =
      record { address = arnd.address; location = sus.location; limit = sus.limit; low = omega arith; high = omega arith; inside = rdy3.inside; small = rdy3.small } in
      let ev2 : x2.event ≡ y2.event = ap (λ q. paused ticks q) hd.room ∙ ap (λ q. paused q (8 + total_size (z.v ∷ z.vs))) (sym (ticks_are a.ticks ticks et)) in
      let quiet3 = quiet_there w top d.store pa.store alike3 in
      let al2 : SameNote w.original w.settings w.which w.plan.area x2 y2 = same_note w x2 y2 ev2 same3 (hd.image (suc (gl w)) ar pa.store area_at sus.frames) refl quiet3 in
      record {
        pc = pa.cost;
        p2 = pa.at;
        y2 = y2;
        b4 = b4;
        ac = bk.cost;
        p4 = bk.at;
        s3 = pa.store;
        wt = bk.config;
        s5 = bk.store;
        to_pause = q1;
        pauses = pa.tells;
        same2 = al2;
        to_answer = bk.silent;
        again = bk.calls;
        answers = bk.answers;
        kept = bk.kept;
        seen = bk.seen;
        quiet = quiet_there w top d.store bk.store bk.like;
        like = bk.like;
        new = bk.new;
        same_flat = bk.same_flat;
        stopped = bk.stopped;
        un = unwinding_all z.v z.vs;
        sl2 = length (z.v).site.slots;
        rw2 = rewinding_all z.v z.vs;
        unwound_in = pa.within;
        rewound_in = bk.within;
        weighs = weigh_all w.original (param_count (func_type_at w.flat top)) z.v z.vs S z.weigh;
      }

  -- the notes of the answer
  abbrev y3 : Returned → Said → Note
  y3 r said = answer_note said (poked r.s5 a.pokes) r.s3

  same3 : (r : Returned) (said : Said) → Same (note (answered said) (poked d.store a.pokes)) (answer_note said (poked r.s5 a.pokes) r.s3)
  same3 r said = record {
    event = refl;
    ends = r.seen;
    image = tt;
    kept = λ at q. let eq : r.s3 ≡ at = some_is r.s3 at q in subst (λ u. AreaKept w.plan.area u (poked r.s5 a.pokes)) eq r.kept;
    state = r.quiet;
  }

  -- on the way a rewound entry calls the import as it was called
  calls_three : (r : Returned) {Behind : Type 0} → Behind
      → ((j : ℕ) → j ≤ cd.cost + cd.j → RewindsTo w.written None (run (pr w) j b0).last)
      × (((j : ℕ) → j ≤ r.pc + 0 → RewindsTo w.written (Some (record { import = i; args = args })) (run (pr w) j b2).last)
      × (((j : ℕ) → j ≤ r.ac + 0 → RewindsTo w.written (Some (record { import = i; args = args })) (run (pr w) j r.b4).last) × Behind))
  calls_three r behind = (
    calls_none_before w.original w.settings w.which w.written (xp w) w.plan None c.store b0 b1 b2 cd.cost cd.j (y1 ∷ []) cd.silent mv tt,
    (
      calls_none_before w.original w.settings w.which w.written (xp w) w.plan told_call d.store b2 r.p2 r.b4 r.pc 0 (r.y2 ∷ []) r.to_pause r.pauses tt,
      (λ j le. r.again j (omega arith), behind),
    ),
  )

  -- ---- a value was said: the entry goes on

  module _ (value : Option Value) (said_is : a.said ≡ SV.Value value) where
    abbrev x3 : Note
    x3 = note (answered (SV.Value value)) (poked d.store a.pokes)

    abbrev a3 : State
    a3 = runs (an_entry e) (resumed d (poked d.store a.pokes) (option_to_list value)) lo

    was_value : nb w a0 ≡ goes k (x1 ∷ x3 ∷ []) a3
    was_value = was ∙ ap (λ q. goes k (x1 ∷ answer_notes q (poked d.store a.pokes)) (goes_on_told q e d (poked d.store a.pokes) lo)) said_is

    abbrev back_at : Configuration → Store → Held
    back_at wt s = busy (is_running (an_entry e)) (resumed wt (poked s a.pokes) (option_to_list value)) lo

    answers_value : (r : Returned) → pr w r.p4 ≡ goes 0 (y3 r (SV.Value value) ∷ []) (back_at r.wt r.s5)
    answers_value r = r.answers ∙ ap (λ q. held_resumed 0 e q r.s3 r.wt lo (poked r.s5 a.pokes)) said_is

    -- all three notes are told on the way from the call to behind the answer
    three : (r : Returned) (to : Held) (gc : ℕ) → Sil w (poked d.store a.pokes) (back_at r.wt r.s5) gc to
        → Told w.original w.settings w.which w.written (xp w) w.plan c.store (x1 ∷ x2 ∷ x3 ∷ []) b0 (cd.cost + suc cd.j + (r.pc + 1 + (r.ac + 1 + gc))) (y1 ∷ r.y2 ∷ y3 r (SV.Value value) ∷ []) to
    three r to gc q3 =
        let t3 : Told w.original w.settings w.which w.written (xp w) w.plan d.store (x3 ∷ []) r.b4 (r.ac + 1 + gc) (y3 r (SV.Value value) ∷ []) to =
        told [] x3 r.to_answer (answers_value r) (same3 r (SV.Value value), tt) (no_more q3) refl refl refl in
        let t2 : Told w.original w.settings w.which w.written (xp w) w.plan d.store (x2 ∷ x3 ∷ []) b2 (r.pc + 1 + (r.ac + 1 + gc)) (r.y2 ∷ y3 r (SV.Value value) ∷ []) to =
        told [] x2 r.to_pause r.pauses (r.same2, tt) t3 refl refl refl in
        told [] x1 cd.silent mv (al1, tt) t2 refl refl refl

    calls_so : (r : Returned) (to : Held) (gc : ℕ) (q3 : Sil w (poked d.store a.pokes) (back_at r.wt r.s5) gc to)
        → Calls w.original w.settings w.which w.written (xp w) w.plan None (three r to gc q3)
    unfolding three
    calls_so r to gc q3 =
        calls_three r (calls_none w.original w.settings w.which w.written (xp w) w.plan told_call (poked d.store a.pokes) (back_at r.wt r.s5) to gc q3 tt)

    -- where it came back its locals fit
    known_there : (r : Returned) → AllLocalsFit w.written ((r.wt).here ∷ (r.wt).under)
    known_there r =
        let t = three r (back_at r.wt r.s5) 0 (silent_none w.original w.settings w.which w.written (xp w) w.plan (poked d.store a.pokes) (back_at r.wt r.s5) r.seen) in
        came (resumed r.wt (poked r.s5 a.pokes) (option_to_list value)) lo (cd.cost + suc cd.j + (r.pc + 1 + (r.ac + 1 + 0))) (y1 ∷ r.y2 ∷ y3 r (SV.Value value) ∷ [])
        (told_leads w.original w.settings w.which w.written (xp w) w.plan c.store (x1 ∷ x2 ∷ x3 ∷ []) (y1 ∷ r.y2 ∷ y3 r (SV.Value value) ∷ []) b0 (back_at r.wt r.s5)
        (cd.cost + suc cd.j + (r.pc + 1 + (r.ac + 1 + 0))) t)

    abbrev Given : Configuration → Store → Type 0
    Given wt s = Given_on w ft sl L W G law n spare top x within (an_entry e) c b l is_top lk lf al k i args d is cd lo (poked d.store a.pokes)
        (resumed d (poked d.store a.pokes) (option_to_list value)) (resumed wt (poked s a.pokes) (option_to_list value))

    -- the answer is given to a stack that came back: the flat one is chosen anew
    anew : Numbered → (new : List Activation) (wt : Configuration) (s : Store) → AllLocalsFit w.written (wt.here ∷ wt.under)
        → AllSameFlat w.lay ((cd.flat_at).here ∷ (cd.flat_at).under) new → Stopped (setting w top) i new (wt.here ∷ wt.under) → Alike (setting w top) d.store s → Given wt s
    anew nums [] wt s fit same st like = absurd same
    anew nums (f2 ∷ us2) wt s fit same st like =
        let ag = law.again top i d cd.flat_at f2 us2 cd.waits nums same (wt.here ∷ wt.under) st fit in
        let wt2 = subst (λ q. W top i q (record { store = (cd.flat_at).store; here = f2; under = us2 })) (sym ag.live) ag.waits in
        give w ft sl L W G law n spare top x within (an_entry e) c b l is_top lk lf al k i args d is cd lo a value (record { store = (cd.flat_at).store; here = f2; under = us2 })
        (record { store = s; here = wt.here; under = wt.under }) said_is wt2 like
        (waits_law (setting w top) i _ _ st) (answer_fits w ft sl L W G law n spare top x within (an_entry e) c b l is_top lk lf al k i args d is cd a os eo) ef

    matched : (r : Returned) → Given r.wt r.s5 → Rattle.headline.proofs.Reductions.M w ft sl L W G law n spare k (x1 ∷ x2 ∷ x3 ∷ []) a0 a3 b0
    unfolding three
    matched r gv =
        let to : Held = busy (is_running (an_entry e)) gv.to lo in
        let dear : dear_of w.original (x1 ∷ x2 ∷ x3 ∷ []) ≡ 256 + sum_by (activation_bound w.original) S + dear_of w.original (x2 ∷ x3 ∷ []) = dear_cons w.original x1 (x2 ∷ x3 ∷ []) in
        by_told w.original w.settings w.which w.written (xp w) w.plan (nn w) (R w ft sl L W G law) n spare k (cd.cost + suc cd.j + (r.pc + 1 + (r.ac + 1 + gv.cost))) (10 * gv.left)
        (x1 ∷ x2 ∷ x3 ∷ []) (y1 ∷ r.y2 ∷ y3 r (SV.Value value) ∷ []) a0 a3 b0 to
        (three r to gv.cost gv.silent) cd.least (calls_so r to gv.cost gv.silent) (paid_enough (cd.cost + suc cd.j) k (r.pc + 1 + (r.ac + 1 + gv.cost)) cd.least)
        (pause_bound (cd.cost + suc cd.j) k spare r.pc r.ac gv.cost gv.left r.un (length e.args) r.sl2 r.rw2 (sum_by (activation_bound w.original) S) (dear_of w.original (x1 ∷ x2 ∷ x3 ∷ []))
        (dear_of w.original (x2 ∷ x3 ∷ []))
        (param_count (func_type_at w.flat top)) cd.few r.unwound_in r.rewound_in gv.few r.weighs is_top.2 dear)
        (r_runs top gv.left (omega arith) is_top gv.link (left_fits w ft sl L W G law n spare top x within (an_entry e) c b l is_top lk lf al k i args d is cd a os eo)
        (allowed_on w n k _ a0 a3 was_value al))

    value_there : Numbered → Returned → Rattle.headline.proofs.Reductions.M w ft sl L W G law n spare k (x1 ∷ x2 ∷ x3 ∷ []) a0 a3 b0
    value_there nums r = matched r (anew nums r.new r.wt r.s5 (known_there r) r.same_flat r.stopped r.like)

  -- ---- the import traps: the run ends in the move that tells it

  traps_there : Returned → a.said ≡ SV.Trap
      → Rattle.headline.proofs.Reductions.M w ft sl L W G law n spare k (x1 ∷ x2 ∷ import_traps (poked d.store a.pokes)) a0 (halts (poked d.store a.pokes)) b0
  traps_there r said_is =
      let x3 : Note = note (answered SV.Trap) (poked d.store a.pokes) in
      let x4 : Note = note (ended (Trapped Import)) (poked d.store a.pokes) in
      let y4 : Note = note (ended (Trapped Import)) (poked r.s5 a.pokes) in
      let to : Held = over (poked r.s5 a.pokes) in
      let tells : pr w r.p4 ≡ goes 0 (y3 r SV.Trap ∷ y4 ∷ []) to = r.answers ∙ ap (λ q. held_resumed 0 e q r.s3 r.wt lo (poked r.s5 a.pokes)) said_is in
      let same4 : Same x4 y4 = same_note w x4 y4 refl r.seen tt refl r.quiet in
      let t3 : Told w.original w.settings w.which w.written (xp w) w.plan d.store (x3 ∷ x4 ∷ []) r.b4 (r.ac + 1 + 0) (y3 r SV.Trap ∷ y4 ∷ []) to =
      told (x3 ∷ []) x4 r.to_answer tells (same3 r SV.Trap, (same4, tt))
      (no_more (silent_none w.original w.settings w.which w.written (xp w) w.plan (poked d.store a.pokes) to r.seen)) refl refl refl in
      let t2 : Told w.original w.settings w.which w.written (xp w) w.plan d.store (x2 ∷ x3 ∷ x4 ∷ []) b2 (r.pc + 1 + (r.ac + 1 + 0)) (r.y2 ∷ y3 r SV.Trap ∷ y4 ∷ []) to =
      told [] x2 r.to_pause r.pauses (r.same2, tt) t3 refl refl refl in
      let t1 : Told w.original w.settings w.which w.written (xp w) w.plan c.store (x1 ∷ x2 ∷ x3 ∷ x4 ∷ []) b0 (cd.cost + suc cd.j + (r.pc + 1 + (r.ac + 1 + 0))) (y1 ∷ r.y2 ∷ y3 r SV.Trap ∷ y4 ∷ []) to =
      told [] x1 cd.silent mv (al1, tt) t2 refl refl refl in
      let dear : dear_of w.original (x1 ∷ x2 ∷ x3 ∷ x4 ∷ []) ≡ 256 + sum_by (activation_bound w.original) S + dear_of w.original (x2 ∷ x3 ∷ x4 ∷ []) = dear_cons w.original x1 (x2 ∷ x3 ∷ x4 ∷ []) in
      by_told w.original w.settings w.which w.written (xp w) w.plan (nn w) (R w ft sl L W G law) n spare k (cd.cost + suc cd.j + (r.pc + 1 + (r.ac + 1 + 0))) 0
      (x1 ∷ x2 ∷ x3 ∷ x4 ∷ []) (y1 ∷ r.y2 ∷ y3 r SV.Trap ∷ y4 ∷ []) a0 (halts (poked d.store a.pokes)) b0 to
      t1 cd.least
      (calls_three r (calls_none w.original w.settings w.which w.written (xp w) w.plan told_call (poked d.store a.pokes) to to 0
      (silent_none w.original w.settings w.which w.written (xp w) w.plan (poked d.store a.pokes) to r.seen) tt))
      (paid_enough (cd.cost + suc cd.j) k (r.pc + 1 + (r.ac + 1 + 0)) cd.least)
      (pause_bound (cd.cost + suc cd.j) k spare r.pc r.ac 0 0 r.un (length e.args) r.sl2 r.rw2 (sum_by (activation_bound w.original) S) (dear_of w.original (x1 ∷ x2 ∷ x3 ∷ x4 ∷ []))
      (dear_of w.original (x2 ∷ x3 ∷ x4 ∷ []))
      (param_count (func_type_at w.flat top)) cd.few r.unwound_in r.rewound_in (omega arith) r.weighs is_top.2 dear)
      (r_halts r.seen)

  -- ---- both

  abbrev Matched : Said → Type 0
  Matched said = Rattle.headline.proofs.Reductions.M w ft sl L W G law n spare k (x1 ∷ x2 ∷ answer_notes said (poked d.store a.pokes)) a0 (goes_on_told said e d (poked d.store a.pokes) lo) b0

  pause_at : Numbered → Room w.original w.settings.policy S ≤ w.plan.area.len → Matched a.said
  pause_at nums fits_len =
      let r = returned_so nums fits_len in
      by_said a.said (λ v said_is. subst Matched (sym said_is) (value_there v said_is nums r)) (λ said_is. subst Matched (sym said_is) (traps_there r said_is))

  -- where the room that it is taken to need is there, the stack stands at numbered calls and needs as much
  pause_here : suc k ≤ n → room_in w S ≤ w.plan.area.len
      → Rattle.headline.proofs.Reductions.M w ft sl L W G law n spare k (x1 ∷ pause_note ticks (room_in w S) d.store S ∷ answer_notes a.said (poked d.store a.pokes)) a0 a2 b0
  pause_here enough fits_len =
      let h = room_known w.original w.settings w.which w.plan.area.len S w.asserts (known_now enough) fits_len in
      subst (λ r. Rattle.headline.proofs.Reductions.M w ft sl L W G law n spare k (x1 ∷ pause_note ticks r d.store S ∷ answer_notes a.said (poked d.store a.pokes)) a0 a2 b0) (sym h.1)
      (pause_at h.0 (subst (λ r. r ≤ w.plan.area.len) h.1 fits_len))

  -- both, by the room
  pub pausing : Owes w ft sl L W G law n spare a0 b0 (sh w (tested (base w) k i args (inside (an_entry e) d) lo a None))
  pausing = subst (λ q. Owes w ft sl L W G law n spare a0 b0 (sh w (go_on k (call_note i args d.store S q) a.said (poked d.store a.pokes) lo (inside (an_entry e) d)))) (sym et)
      (subst (λ q. Owes w ft sl L W G law n spare a0 b0 (sh w q)) (sym (told_moves k x1 a.said (poked d.store a.pokes) lo e d))
      (by_room (nat_lt w.plan.area.len (room_in w S)) refl))
    where
      by_room : (t : Bool) → nat_lt w.plan.area.len (room_in w S) ≡ t
          → Owes w ft sl L W G law n spare a0 b0 (if t then goes k (x1 ∷ trap_note (used_in w S) w.plan.area.len d.store ∷ []) (halts d.store)
          else goes k (x1 ∷ pause_note ticks (room_in w S) d.store S ∷ answer_notes a.said (poked d.store a.pokes)) a2)
      by_room true q = (before, λ enough. overrun enough (ltb-true w.plan.area.len (room_in w S) q))
      by_room false q = (before, λ enough. pause_here enough (ltb-false w.plan.area.len (room_in w S) q))
