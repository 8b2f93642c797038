-- A strand that is suspended comes back over the store of the moment, whatever ran there since, and goes on.
use Rattle.run_theory.proofs.TestedPokes.{passes_area}
use Rattle.headline.specs.World.{World, WorldFits, base, setting}
use Rattle.headline.specs.FlatLaw.{AllLocalsFit, FlatLaw}
use Rattle.headline.specs.Given.{LetsPause}
use Rattle.headline.specs.StoreLaws.{StoreLaws}
use Rattle.headline.specs.WrittenRuns.{WrittenLaw}
use Rattle.headline.proofs.FlatStretches.{Sil, along, gl, pr, sides, xp}
use Rattle.headline.proofs.Halves.{Back, Hangs, comes_back}
use Rattle.headline.proofs.Reductions.{Allowed, LeftFits, Link, R, quiet_there, r_runs, same_note}
use Rattle.headline.proofs.Simulation.{known_along}
use Rattle.headline.proofs.ToldMoves.{Calls, Late, Told, calls_none, no_more, told}
use Rattle.frame_laws.specs.Stack.{rewinding_all}
use Rattle.guard_runs.proofs.EachStretch.{answers_go_on}
use Rattle.guard_runs.proofs.StoppedStacks.{waits_law}
use Rattle.guard_runs.proofs.Stores.{together}
use Rattle.guard_runs.specs.Alike.{Alike}
use Rattle.guard_runs.specs.Pause.{SuspendedIn}
use Rattle.guard_runs.specs.Returned.{AllSameFlat}
use Rattle.guard_runs.specs.Stopped.{Stopped}
use Rattle.image_laws.proofs.Restored.{over_store}
use Rattle.run_laws.proofs.Keeping.{same_refl}
use Rattle.std.proofs.Common.{All, List, None, Option, Some, [], ap, arith, length, refl, subst, suc, sym, ℕ, ◌*◌, ◌+◌, ◌∙◌, ◌∷◌, ◌≡◌, ◌≤◌, false}
use Rattle.std.specs.Option.{option_to_list}
use Rattle.wa_model.specs.Behaves.{AreaKept, SameNote, StandsNumbered}
use Rattle.wa_model.specs.Blocking.{Left, Note, State, an_entry, bad_poke, fault_of, note, poked, resumed, runs}
use Rattle.wa_model.specs.Configuration.{Activation, Configuration, stack_of}
use Rattle.wa_model.specs.Machine.{goes}
use Rattle.wa_model.specs.Outside.{Answer, Call, answered, ended}
use Rattle.wa_model.specs.Plan.{AnswerFits, Entry}
use Rattle.wa_model.specs.Protocol.{Held, answer_note, busy, call_again, calling, held_resumed, is_running, over, rewinds}
use Rattle.wa_model.specs.Store.{Store}
use Rattle.wa_model.specs.declared.answers.Said.TheVariants as S
use Rattle.wa_model.specs.declared.events.End.TheVariants.{Trapped}
use Rattle.wa_types.specs.declared.values.Trap.TheVariants.{Import}
use Rattle.run_theory.proofs.Follow.{Alike as AllAlike}
use Rattle.strand_laws.proofs.Hanging.{AreaSame, passes_on, suspended_on}
use Rattle.wa_types.specs.Modules.{func_type_at}
use Rattle.wa_types.specs.declared.values.Value.{Value}
use Rattle.wa_types.specs.declared.values.Value.TheVariants as V

-- where a strand stands as its turn begins over this store
abbrev pub rewound_from : World → Entry → (i : ℕ) → Answer → Left → Store → Held
rewound_from w e i a lo s' = calling (rewinds e i a s') s' (xp w).start_rewind (V.I32 w.plan.area.at ∷ []) call_again lo

nothing_allowed : (w : World) (a : State) → Allowed w 0 a
nothing_allowed w a = record { calm = λ j es t l lt. let z : ⊥ = omega arith in absurd z; numbered = λ j k es fs t u l e le. let z : ⊥ = omega arith in absurd z }

some_is : (x y : Store) → Some x ≡ Some y → x ≡ y
some_is x y q = cc

module _ (w : World) (ft : WorldFits w) (sl : StoreLaws w) (L : (top spare : ℕ) → Configuration → Configuration → Type 0) (W : ℕ → ℕ → Configuration → Configuration → Type 0)
    (G : Store → Type 0) (law : FlatLaw w (λ c d. c ≡ d) L W G) where
  -- A call waits for an answer behind a pause: its stack hangs, and is suspended in the area of this store, where the answer passes its
  -- tests; so much may be spent on the way back.
  pub record Suspends (top i : ℕ) (e : Entry) (a : Answer) (lo : Left) (d : Configuration) (c : ℕ) (s' : Store) : Type 0 where
    pub hangs : Hangs w ft sl L W G law top i e d
    pub table : d.store.table ≡ w.table
    pub suspended : SuspendedIn w.plan.area s' (hangs.v ∷ hangs.vs)
    pub numbered : All (StandsNumbered w.original w.settings w.which) (stack_of (base w) d)
    pub fits : AnswerFits a
    pub lets : LetsPause w.plan
    pub passes : fault_of (func_type_at (base w) i).results (length s'.memory) w.plan false i a ≡ None
    pub left_fits : LeftFits w lo
    pub credit : 120 + length e.args + 2 * length (hangs.v).site.slots + rewinding_all hangs.v hangs.vs ≤ c

  -- WHAT WAITS GOES ON WAITING over a store that has kept its area
  pub suspends_on : (top i : ℕ) (e : Entry) (a : Answer) (lo : Left) (d : Configuration) (c : ℕ) (s s' : Store) → Suspends top i e a lo d c s → AreaSame w.plan.area s s'
      → Suspends top i e a lo d c s'
  suspends_on top i e a lo d c s s' sp same =
      let z = sp.hangs in
      record {
        hangs = z;
        table = sp.table;
        suspended = suspended_on (gl w) w.plan.area w.written (gl w) (suc (gl w)) s s' (z.v ∷ z.vs) same z.room z.fits sp.suspended;
        numbered = sp.numbered;
        fits = sp.fits;
        lets = sp.lets;
        passes = passes_on (func_type_at (base w) i).results (length s.memory) (length s'.memory) w.plan false i a same.grown sp.passes;
        left_fits = sp.left_fits;
        credit = sp.credit;
      }

  module _ (Known : Held → Type 0) (wl : WrittenLaw w Known)
      (restored : (top i : ℕ) (d f : Configuration) (t : Store) → W top i d f → G t → t.table ≡ d.store.table → W top i (over_store d t) (over_store f t)) where
    -- It came back, over the store t of the original and s' of the written module, and goes on with this value.
    pub record Woken (top i : ℕ) (e : Entry) (a : Answer) (v : Option Value) (lo : Left) (d : Configuration) (c : ℕ) (t s' : Store) : Type 0 where
      pub cost : ℕ
      pub left : ℕ
      pub y : Note
      pub to : Configuration
      pub tells : Told w.original w.settings w.which w.written (xp w) w.plan t (note (answered (S.Value v)) (poked t a.pokes) ∷ []) (rewound_from w e i a lo s') cost (y ∷ [])
          (busy (is_running (an_entry e)) to lo)
      pub late : Late w.original w.settings w.which w.written (xp w) w.plan 0 tells
      pub told_call : Option Call
      pub calls : Calls w.original w.settings w.which w.written (xp w) w.plan told_call tells
      pub few : cost + 10 * left ≤ c
      pub on : R w ft sl L W G law 0 (10 * left) (runs (an_entry e) (resumed d (poked t a.pokes) (option_to_list v)) lo) (busy (is_running (an_entry e)) to lo)
      pub known : Known (busy (is_running (an_entry e)) to lo)
      pub same_event : y.event ≡ answered (S.Value v)

    -- what is told of a trap behind the pause
    abbrev pub Traps : Option Store → Store → List Note
    Traps since s = record { event = answered S.Trap; store = s; stack = []; pause = None; since = since } ∷ note (ended (Trapped Import)) s ∷ []

    -- It came back, over the store t of the original and s' of the written module, and the import traps.
    pub record WokenTraps (top i : ℕ) (e : Entry) (a : Answer) (lo : Left) (c : ℕ) (t s' : Store) : Type 0 where
      pub cost : ℕ
      pub at : Held
      pub store : Store
      pub silent : Sil w t (rewound_from w e i a lo s') cost at
      pub traps : pr w at ≡ goes 0 (Traps (Some s') (poked store a.pokes)) (over (poked store a.pokes))
      pub alike : AllAlike (SameNote w.original w.settings w.which w.plan.area) (Traps None (poked t a.pokes)) (Traps (Some s') (poked store a.pokes))
      pub few : cost + 1 ≤ c
      pub like : Alike (setting w top) (poked t a.pokes) (poked store a.pokes)
      pub good : G (poked t a.pokes)
      pub known : Known at

    module _ (top i : ℕ) (e : Entry) (a : Answer) (lo : Left) (d : Configuration) (c : ℕ) (s' t : Store) (sp : Suspends top i e a lo d c s') (like : Alike (setting w top) t s') (good : G t)
        (kn : Known (rewound_from w e i a lo s')) where
      abbrev dt : Configuration
      dt = over_store d t

      -- the stack hangs over the store of the moment
      there : Hangs w ft sl L W G law top i e dt
      there =
          let z = sp.hangs in
          record {
            flat = over_store z.flat t;
            waits = restored top i d z.flat t z.waits good (like.table ∙ sym sp.table);
            here = z.here;
            under = z.under;
            st = z.st;
            may = z.may;
            v = z.v;
            vs = z.vs;
            are = z.are;
            fits = z.fits;
            chain = z.chain;
            room = z.room;
            deep = z.deep;
            args = z.args;
            took = z.took;
            is_top = z.is_top;
          }

      size : length t.memory ≡ length s'.memory
      size = (sl.same_end top t s' like).size

      passes_now : fault_of (func_type_at (base w) i).results (length t.memory) w.plan false i a ≡ None
      passes_now = subst (λ z. fault_of (func_type_at (base w) i).results z w.plan false i a ≡ None) (sym size) sp.passes

      no_bad : bad_poke (length t.memory) (w.plan.area ∷ []) a.pokes ≡ None
      no_bad = passes_area (func_type_at (base w) i).results (length t.memory) w.plan false i a passes_now

      back : Back w ft sl L W G law top i e a lo dt there t s'
      unfolding there
      back = comes_back w ft sl L W G law top i e a lo dt there t s' like (ft.least sp.lets) (law.small t good) sp.suspended no_bad

      known_back : Known back.at
      known_back = known_along w Known wl (rewound_from w e i a lo s') back.at back.cost [] kn (back.silent).leads

      -- SECOND HALF of a pause that an import's trap ends
      pub traps_again : a.said ≡ S.Trap → WokenTraps top i e a lo c t s'
      unfolding there
      traps_again said_trap =
          let bk = back in
          let cr = sp.credit in
          let wi = bk.within in
          let quiet = quiet_there w top t bk.store bk.like in
          let al : SameNote w.original w.settings w.which w.plan.area (note (answered S.Trap) (poked t a.pokes)) (answer_note S.Trap (poked bk.store a.pokes) s') = record {
            event = refl;
            ends = bk.seen;
            image = tt;
            kept = λ at q. subst (λ u. AreaKept w.plan.area u (poked bk.store a.pokes)) (some_is s' at q) bk.kept;
            state = quiet;
          } in
          let al2 : SameNote w.original w.settings w.which w.plan.area (note (ended (Trapped Import)) (poked t a.pokes)) (note (ended (Trapped Import)) (poked bk.store a.pokes)) =
          same_note w _ _ refl bk.seen tt refl quiet in
          record {
            cost = bk.cost;
            at = bk.at;
            store = bk.store;
            silent = bk.silent;
            traps = bk.answers ∙ ap (λ q. held_resumed 0 e q s' bk.config lo (poked bk.store a.pokes)) said_trap;
            alike = (al, (al2, tt));
            few = omega arith;
            like = sl.poked_too top t bk.store a bk.like no_bad;
            good = law.poked_good i t false a good sp.fits passes_now;
            known = known_back;
          }

      -- a value was said: the entry goes on

      module _ (v : Option Value) (told_value : a.said ≡ S.Value v) where
        abbrev behind : Held
        behind = busy (is_running (an_entry e)) (resumed back.config (poked back.store a.pokes) (option_to_list v)) lo

        answers : pr w back.at ≡ goes 0 (answer_note (S.Value v) (poked back.store a.pokes) s' ∷ []) behind
        answers = back.answers ∙ ap (λ q. held_resumed 0 e q s' back.config lo (poked back.store a.pokes)) told_value

        known_behind : Known behind
        known_behind =
            wl.keeps back.at behind 0 (answer_note (S.Value v) (poked back.store a.pokes) s' ∷ [])
            known_back answers

        locals : AllLocalsFit w.written ((back.config).here ∷ (back.config).under)
        locals = wl.locals sp.lets (an_entry e) (resumed back.config (poked back.store a.pokes) (option_to_list v)) lo known_behind

        -- the answer is given to the flat stack that is chosen anew
        record Gives : Type 0 where
          cost : ℕ
          left : ℕ
          few : cost + 10 * left ≤ 90
          to : Configuration
          silent : Sil w (poked t a.pokes) behind cost (busy (is_running (an_entry e)) to lo)
          link : Link w ft sl L W G law top left (resumed d (poked t a.pokes) (option_to_list v)) to

        gives_by : (new : List Activation) → AllSameFlat w.lay ((sp.hangs).flat.here ∷ (sp.hangs).flat.under) new → Stopped (setting w top) i new ((back.config).here ∷ (back.config).under) → Gives
        unfolding there
        gives_by [] same st = absurd same
        gives_by (f2 ∷ us2) same st =
            let bk = back in
            let fl : Configuration = record { store = t; here = f2; under = us2 } in
            let ag = law.again top i dt (there).flat f2 us2 (there).waits sp.numbered same ((bk.config).here ∷ (bk.config).under) st locals in
            let wt2 : W top i dt fl = subst (λ q. W top i q fl) (sym ag.live) ag.waits in
            let alike2 = sl.poked_too top t bk.store a bk.like no_bad in
            let nr = answers_go_on (sides w top) (poked t a.pokes) (poked bk.store a.pokes) i f2 (bk.config).here us2 (bk.config).under (option_to_list v)
            (together (setting w top) (ft.paired top)) alike2 (waits_law (setting w top) i _ _ st) in
            let fo = law.answered top i dt fl false a v wt2 sp.fits told_value passes_now in
            let u = along w ft sl top (an_entry e) lo (poked t a.pokes) (resumed fl (poked t a.pokes) (option_to_list v)) fo.to
            (resumed bk.config (poked bk.store a.pokes) (option_to_list v)) fo.n fo.goes nr (same_refl (gl w) w.plan.area (poked t a.pokes)) in
            let a1 = fo.few in let a2 = u.most in let a3 = ft.few_tests in
            record { cost = u.cost; left = fo.left; few = omega arith; to = u.to; silent = u.silent; link = record { flat_at = fo.to; link = fo.link; near = u.near } }

        gives : Gives
        unfolding there
        gives = gives_by (back).new (back).same_flat (back).stopped

        -- SECOND HALF of a pause behind which a value was said
        pub wakes_again : Woken top i e a v lo d c t s'
        unfolding there
        wakes_again =
            let bk = back in
            let gv = gives in
            let cr = sp.credit in
            let wi = bk.within in
            let fw = gv.few in
            let x : Note = note (answered (S.Value v)) (poked t a.pokes) in
            let y : Note = answer_note (S.Value v) (poked bk.store a.pokes) s' in
            let called : Option Call = Some (record { import = i; args = (sp.hangs).args }) in
            let al : SameNote w.original w.settings w.which w.plan.area x y = record {
              event = refl;
              ends = bk.seen;
              image = tt;
              kept = λ at q. subst (λ u. AreaKept w.plan.area u (poked bk.store a.pokes)) (some_is s' at q) bk.kept;
              state = quiet_there w top t bk.store bk.like;
            } in
            record {
              cost = bk.cost + 1 + gv.cost;
              left = gv.left;
              y = y;
              to = gv.to;
              tells = told [] x bk.silent answers (al, tt) (no_more gv.silent) refl refl refl;
              late = omega arith;
              told_call = called;
              calls = (
                λ j le. bk.calls j (omega arith),
                calls_none w.original w.settings w.which w.written (xp w) w.plan called (poked t a.pokes) behind
                    (busy (is_running (an_entry e)) gv.to lo) gv.cost gv.silent tt,
              );
              few = omega arith;
              on = r_runs top gv.left (omega arith) (sp.hangs).is_top gv.link sp.left_fits (nothing_allowed w (runs (an_entry e) (resumed d (poked t a.pokes) (option_to_list v)) lo));
              known = known_along w Known wl behind (busy (is_running (an_entry e)) gv.to lo) gv.cost [] known_behind (gv.silent).leads;
              same_event = refl;
            }
