-- A stack that hangs comes back over any two stores that belong together, and goes on as a related pair: which store the original has
-- meanwhile is left open.
use Rattle.run_theory.proofs.TestedPokes.{passes_area}
use Rattle.std.proofs.Common.{All, List, None, Option, [], ap, arith, false, length, refl, subst, suc, sym, ℕ, ◌*◌, ◌+◌, ◌<◌, ◌^◌, ◌∙◌, ◌∷◌, ◌≡◌, ◌≤◌, ◌++◌}
use Rattle.std.specs.List.{sum_by}
use Rattle.std.specs.Option.{option_to_list}
use Rattle.wa_types.specs.Frames.{Fit, Room}
use Rattle.wa_types.specs.Modules.{func_type_at}
use Rattle.wa_types.specs.declared.values.Trap.TheVariants.{Import}
use Rattle.run_theory.proofs.Runs.{leads_on}
use Rattle.wa_types.specs.declared.values.Value.{Value}
use Rattle.wa_model.specs.declared.answers.Said.{Said}
use Rattle.wa_model.specs.declared.answers.Said.TheVariants as SV
use Rattle.wa_model.specs.declared.events.End.TheVariants.{Trapped}
use Rattle.wa_model.specs.Behaves.{AreaKept, SameNote, StandsNumbered}
use Rattle.wa_model.specs.Blocking.{Left, Note, State, an_entry, bad_poke, fault_of, halts, import_traps, note, poked, resumed, runs}
use Rattle.wa_model.specs.Configuration.{Activation, Configuration, stack_of}
use Rattle.wa_model.specs.Machine.{goes, moves, stays}
use Rattle.wa_model.specs.Outside.{Answer, answered, ended}
use Rattle.wa_model.specs.Plan.{AnswerFits, Entry}
use Rattle.wa_model.specs.Protocol.{Held, answer_note, busy, held_resumed, is_running, over}
use Rattle.wa_model.specs.Step.{param_count}
use Rattle.wa_model.specs.Store.{Store}
use Rattle.guard_runs.specs.Returned.{AllSameFlat}
use Rattle.guard_runs.proofs.StoppedStacks.{waits_law}
use Rattle.guard_runs.specs.Alike.{Alike}
use Rattle.guard_runs.specs.Stopped.{Stopped}
use Rattle.headline.specs.FlatLaw.{AllLocalsFit, FlatLaw}
use Rattle.headline.specs.Given.{LetsPause}
use Rattle.headline.specs.Halts.{HaltLaw, room_by, used_by}
use Rattle.headline.specs.StoreLaws.{StoreLaws}
use Rattle.headline.specs.World.{World, WorldFits, base, setting}
use Rattle.headline.specs.WrittenRuns.{WrittenLaw}
use Rattle.headline.proofs.FlatStretches.{Sil, along, gl, pr, sides, xp}
use Rattle.headline.proofs.Reductions.{Allowed, LeftFits, Link, Quiet, quiet_there, r_halts, r_runs, same_note}
use Rattle.headline.proofs.FromSimulation.{Simulates}
use Rattle.headline.proofs.ToldMoves.{silent_none}
use Rattle.headline.proofs.Simulation.{Both, known_along, simulates}
use Rattle.guard_runs.specs.Pause.{SuspendedIn}
use Rattle.image_laws.proofs.Apart.{ApartSums, rewound_all}
use Rattle.guard_runs.proofs.EachStretch.{answers_go_on}
use Rattle.guard_runs.proofs.Stores.{together}
use Rattle.headline.proofs.Pauses.{some_is}
use Rattle.run_laws.proofs.Keeping.{same_refl}
use Rattle.image_laws.specs.Image.{BehavesFrom, held_at_pause, rewind_bound}
use Rattle.image_laws.proofs.FromPair.{Comes, behaves_from}
use Rattle.headline.proofs.Halves.{Back, Hangs, comes_back}

module _ (w : World) (ft : WorldFits w) (sl : StoreLaws w) (L : (top spare : ℕ) → Configuration → Configuration → Type 0) (W : ℕ → ℕ → Configuration → Configuration → Type 0) (G : Store
    → Type 0) (law : FlatLaw w (λ c d. c ≡ d) L W G) (Known : Held → Type 0) (wl : WrittenLaw w Known) (hl : HaltLaw w W) (none : w.asserts ≡ false) where
  -- the simulation, with what is expected without asserts
  pub plain_simulates : Simulates (Room w.original w.settings.policy) (λ stack. Fit w.original w.settings.policy stack w.plan.area.len) w.original w.settings w.which w.written w.plan
      (Both w ft sl L W G law Known wl hl)
  plain_simulates =
      subst (λ t. Simulates (λ stack. room_by t w.original w.settings w.which w.plan.area.len stack) (λ stack. used_by t w.original w.settings w.which w.plan.area.len stack)
      w.original w.settings w.which w.written w.plan (Both w ft sl L W G law Known wl hl)) none (simulates w ft sl L W G law Known wl hl)

  module _ (n top i : ℕ) (e : Entry) (a : Answer) (lo : Left) (d : Configuration) (z : Hangs w ft sl L W G law top i e d) (t : Store) (like : Alike (setting w top) d.store t)
      (sus : SuspendedIn w.plan.area t (z.v ∷ z.vs)) (nums : All (StandsNumbered w.original w.settings w.which) (stack_of (base w) d)) (fits_a : AnswerFits a)
      (ef : fault_of (func_type_at (base w) i).results (length d.store.memory) w.plan false i a ≡ None) (lets : LetsPause w.plan) (lf : LeftFits w lo)
      (known3 : Known (held_at_pause w.written w.plan e i a t lo))
      (sums : ApartSums w.original (param_count (func_type_at w.flat top)) (z.v ∷ z.vs) (stack_of (base w) d)) where
    abbrev b3 : Held
    b3 = held_at_pause w.written w.plan e i a t lo

    small : length d.store.memory < 2 ^ 32
    small = law.small d.store (law.waits_good top i d z.flat z.waits)

    no_bad : bad_poke (length d.store.memory) (w.plan.area ∷ []) a.pokes ≡ None
    no_bad = passes_area (func_type_at (base w) i).results (length d.store.memory) w.plan false i a ef

    bk : Back w ft sl L W G law top i e a lo d z d.store t
    bk = comes_back w ft sl L W G law top i e a lo d z d.store t like (ft.least lets) small sus no_bad

    quiet : Quiet w (poked bk.store a.pokes)
    quiet = quiet_there w top d.store bk.store bk.like

    -- the note of the answer
    same3 : (said : Said) → SameNote w.original w.settings w.which w.plan.area (note (answered said) (poked d.store a.pokes)) (answer_note said (poked bk.store a.pokes) t)
    same3 said = record {
      event = refl;
      ends = bk.seen;
      image = tt;
      kept = λ at q. let eq : t ≡ at = some_is t at q in subst (λ u. AreaKept w.plan.area u (poked bk.store a.pokes)) eq bk.kept;
      state = quiet;
    }

    -- what is known behind the answer
    known_behind : (to : Held) (es : List Note) → pr w bk.at ≡ goes 0 es to → Known to
    known_behind to es tells =
        let q = bk.silent in
        known_along w Known wl b3 to (bk.cost + (suc 0 + 0)) _ known3 (leads_on Held Note (pr w) b3 bk.at to bk.cost (suc 0 + 0) [] (es ++ []) q.leads (moves tells stays refl refl))

    -- ---- a value was said

    module _ (v : Option Value) (said_is : a.said ≡ SV.Value v) (al : Allowed w n (runs (an_entry e) (resumed d (poked d.store a.pokes) (option_to_list v)) lo)) where
      abbrev x3 : Note
      x3 = note (answered (SV.Value v)) (poked d.store a.pokes)

      abbrev a2 : State
      a2 = runs (an_entry e) (resumed d (poked d.store a.pokes) (option_to_list v)) lo

      abbrev b5 : Held
      b5 = busy (is_running (an_entry e)) (resumed bk.config (poked bk.store a.pokes) (option_to_list v)) lo

      answers : pr w bk.at ≡ goes 0 (answer_note (SV.Value v) (poked bk.store a.pokes) t ∷ []) b5
      answers = bk.answers ∙ ap (λ q. held_resumed 0 e q t bk.config lo (poked bk.store a.pokes)) said_is

      abbrev y3 : Note
      y3 = answer_note (SV.Value v) (poked bk.store a.pokes) t

      known5 : Known b5
      known5 = known_behind b5 (y3 ∷ []) answers

      fit5 : AllLocalsFit w.written ((bk.config).here ∷ (bk.config).under)
      fit5 = wl.locals lets (an_entry e) (resumed bk.config (poked bk.store a.pokes) (option_to_list v)) lo known5

      -- the answer is given on both sides
      record GoesOn (from : Configuration) : Type 0 where
        cost : ℕ
        left : ℕ
        few : cost + 10 * left ≤ 90
        to : Configuration
        silent : Sil w (poked d.store a.pokes) (busy (is_running (an_entry e)) from lo) cost (busy (is_running (an_entry e)) to lo)
        link : Link w ft sl L W G law top left (resumed d (poked d.store a.pokes) (option_to_list v)) to

      give : (f wt : Configuration) (s : Store) → W top i d f → Alike (setting w top) d.store s → Stopped (setting w top) i (f.here ∷ f.under) (wt.here ∷ wt.under)
          → GoesOn (resumed wt (poked s a.pokes) (option_to_list v))
      give f wt s waits lk st =
          let lk2 = sl.poked_too top d.store s a lk no_bad in
          let nr = answers_go_on (sides w top) (poked d.store a.pokes) (poked s a.pokes) i f.here wt.here f.under wt.under (option_to_list v) (together (setting w top) (ft.paired top)) lk2
          (waits_law (setting w top) i _ _ st) in
          let fo = law.answered top i d f false a v waits fits_a said_is ef in
          let u = along w ft sl top (an_entry e) lo (poked d.store a.pokes) (resumed f (poked d.store a.pokes) (option_to_list v)) fo.to
          (resumed wt (poked s a.pokes) (option_to_list v)) fo.n fo.goes nr (same_refl (gl w) w.plan.area (poked d.store a.pokes)) in
          let a1 = fo.few in let a2 = ft.few_tests in let a3 = u.most in
          record { cost = u.cost; left = fo.left; few = omega arith; to = u.to; silent = u.silent; link = record { flat_at = fo.to; link = fo.link; near = u.near } }

      anew : (new : List Activation) (wt : Configuration) (s : Store) → AllLocalsFit w.written (wt.here ∷ wt.under) → AllSameFlat w.lay ((z.flat).here ∷ (z.flat).under) new
          → Stopped (setting w top) i new (wt.here ∷ wt.under) → Alike (setting w top) d.store s → GoesOn (resumed wt (poked s a.pokes) (option_to_list v))
      anew [] wt s fit same st lk = absurd same
      anew (f2 ∷ us2) wt s fit same st lk =
          let ag = law.again top i d z.flat f2 us2 z.waits nums same (wt.here ∷ wt.under) st fit in
          let wt2 = subst (λ q. W top i q (record { store = (z.flat).store; here = f2; under = us2 })) (sym ag.live) ag.waits in
          give (record { store = (z.flat).store; here = f2; under = us2 }) wt s wt2 lk st

      gv : GoesOn (resumed bk.config (poked bk.store a.pokes) (option_to_list v))
      gv = anew bk.new bk.config bk.store fit5 bk.same_flat bk.stopped bk.like

      pub comes : Comes w.original w.settings w.which w.written w.plan (Both w ft sl L W G law Known wl hl) n (128 + sum_by (rewind_bound w.original) (stack_of (base w) d)) d.store
          (record { import = i; args = z.args })
          (note (answered (SV.Value v)) (poked d.store a.pokes) ∷ []) (runs (an_entry e) (resumed d (poked d.store a.pokes) (option_to_list v)) lo) (held_at_pause w.written w.plan e i a t lo)
      comes =
          let few = gv.few in let in29 = bk.within in
          let w1 = sums.rewinds in
          let w2 = rewound_all z.v z.vs in
          let top_is = z.is_top in
          let argc = top_is.2 in
          let q = gv.silent in
          record {
            cost = bk.cost;
            at = bk.at;
            notes_there = y3 ∷ [];
            on = b5;
            more = gv.cost;
            to = busy (is_running (an_entry e)) gv.to lo;
            left = 10 * gv.left;
            silent = bk.silent;
            calls = bk.calls;
            forwards = tt;
            tells = answers;
            same = (same3 (SV.Value v), tt);
            behind = gv.silent;
            rel = (
              r_runs top gv.left (omega arith) z.is_top gv.link lf al,
              known_along w Known wl b5 (busy (is_running (an_entry e)) gv.to lo) gv.cost [] known5 q.leads,
            );
            few = omega arith;
          }

      -- A STACK THAT HANGS comes back, whatever the store is
      pub hanging_goes_on : BehavesFrom w.original w.settings w.written w.plan w.which n d.store (record { import = i; args = z.args }) (stack_of (base w) d) (note (answered (SV.Value v)) (poked d.store a.pokes) ∷ [])
          (runs (an_entry e) (resumed d (poked d.store a.pokes) (option_to_list v)) lo) (held_at_pause w.written w.plan e i a t lo)
      hanging_goes_on =
          behaves_from w.original w.settings w.which w.written w.plan (Both w ft sl L W G law Known wl hl) plain_simulates n d.store (record { import = i; args = z.args }) (stack_of (base w) d) (x3 ∷ []) a2 b3
          lf.outcomes refl comes

    -- ---- the import traps

    module _ (said_is : a.said ≡ SV.Trap) where
      abbrev b6 : Held
      b6 = over (poked bk.store a.pokes)

      abbrev y4 : Note
      y4 = note (ended (Trapped Import)) (poked bk.store a.pokes)

      trap_tells : pr w bk.at ≡ goes 0 (answer_note SV.Trap (poked bk.store a.pokes) t ∷ y4 ∷ []) b6
      trap_tells = bk.answers ∙ ap (λ q. held_resumed 0 e q t bk.config lo (poked bk.store a.pokes)) said_is

      trap_comes : Comes w.original w.settings w.which w.written w.plan (Both w ft sl L W G law Known wl hl) n (128 + sum_by (rewind_bound w.original) (stack_of (base w) d)) d.store
          (record { import = i; args = z.args })
          (import_traps (poked d.store a.pokes)) (halts (poked d.store a.pokes)) (held_at_pause w.written w.plan e i a t lo)
      trap_comes =
          let in29 = bk.within in
          let w1 = sums.rewinds in
          let w2 = rewound_all z.v z.vs in
          let top_is = z.is_top in
          let argc = top_is.2 in
          record {
            cost = bk.cost;
            at = bk.at;
            notes_there = answer_note SV.Trap (poked bk.store a.pokes) t ∷ y4 ∷ [];
            on = b6;
            more = 0;
            to = b6;
            left = 0;
            silent = bk.silent;
            calls = bk.calls;
            forwards = tt;
            tells = trap_tells;
            same = (same3 SV.Trap, (same_note w (note (ended (Trapped Import)) (poked d.store a.pokes)) y4 refl bk.seen tt refl quiet, tt));
            behind = silent_none w.original w.settings w.which w.written (xp w) w.plan (poked d.store a.pokes) b6 bk.seen;
            rel = (r_halts bk.seen, known_behind b6 (answer_note SV.Trap (poked bk.store a.pokes) t ∷ y4 ∷ []) trap_tells);
            few = omega arith;
          }

      -- IT COMES BACK, and the program ends
      pub hanging_traps : BehavesFrom w.original w.settings w.written w.plan w.which n d.store (record { import = i; args = z.args }) (stack_of (base w) d) (import_traps (poked d.store a.pokes)) (halts (poked d.store a.pokes))
          (held_at_pause w.written w.plan e i a t lo)
      hanging_traps =
          behaves_from w.original w.settings w.which w.written w.plan (Both w ft sl L W G law Known wl hl) plain_simulates n d.store (record { import = i; args = z.args }) (stack_of (base w) d) (import_traps (poked d.store a.pokes))
          (halts (poked d.store a.pokes)) b3 tt refl trap_comes
