-- The second half of a pause: a stack that is suspended in the area comes back over any stores that belong together.
use Rattle.headline.specs.World.{World, WorldFits, setting}
use Rattle.frame_laws.specs.Stack.{AllCameBack, AllFit, CallsTo, Chain, Level, outer_of, rewinding_all, total_size}
use Rattle.guard_runs.proofs.ReturnedStacks.{stacks_return}
use Rattle.guard_runs.proofs.WaitingLevels.{stopped_are_levels}
use Rattle.guard_runs.specs.Levels.{MayStand, levels_of}
use Rattle.guard_runs.specs.Returned.{AllSameFlat, FlatAgain}
use Rattle.guard_runs.specs.Alike.{Alike}
use Rattle.guard_runs.specs.Stopped.{Stopped}
use Rattle.headline.proofs.FlatStretches.{Sil, Sm, gl, pr, xp}
use Rattle.headline.specs.StoreLaws.{StoreLaws}
use Rattle.headline.proofs.OuterLevels.{inner_calls, outer_all}
use Rattle.headline.proofs.Reductions.{TopOf}
use Rattle.headline.proofs.ToldMoves.{silent_quiet}
use Rattle.headline.specs.FlatLaw.{FlatLaw}
use Rattle.guard_runs.proofs.Pausing.{answers_law}
use Rattle.guard_runs.specs.Pause.{AnswersAt, EntersEntry, SuspendedIn}
use Rattle.run_laws.proofs.CallArgs.{Took, one_args}
use Rattle.run_laws.proofs.CallArgs.{took as call_took}
use Rattle.run_theory.proofs.Rewound.{rewinds_once}
use Rattle.guard_runs.proofs.UnseenMoves.{each_instant}
use Rattle.std.proofs.Common.{List, None, Some, [], ap, length, subst, suc, sym, ℕ, ◌*◌, ◌+◌, ◌<◌, ◌^◌, ◌∙◌, ◌∷◌, ◌≡◌, ◌≤◌}
use Rattle.wa_model.specs.Behaves.{AreaKept, RewindsTo}
use Rattle.wa_model.specs.Blocking.{Left, an_entry, bad_poke, poked}
use Rattle.wa_model.specs.Configuration.{Activation, Configuration}
use Rattle.wa_model.specs.Outside.{Answer}
use Rattle.wa_model.specs.Plan.{Entry}
use Rattle.wa_model.specs.Machine.{run}
use Rattle.wa_model.specs.Step.{param_count}
use Rattle.wa_model.specs.Protocol.{Held, busy, call_again, calling, held_resumed, rewinds}
use Rattle.wa_model.specs.Store.{Store}
use Rattle.wa_types.specs.Modules.{declared_locals, defined_at, func_type_at}
use Rattle.wa_types.specs.declared.values.Value.{Value}
use Rattle.wa_types.specs.declared.values.Value.TheVariants as V

module _ (w : World) (ft : WorldFits w) (sl : StoreLaws w) (L : (top spare : ℕ) → Configuration → Configuration → Type 0) (W : ℕ → ℕ → Configuration → Configuration → Type 0)
    (G : Store → Type 0) (law : FlatLaw w (λ c d. c ≡ d) L W G) where
  -- A call of the original with these arguments waits, and its stack is one of frames.
  pub record Hangs (top i : ℕ) (e : Entry) (d : Configuration) : Type 0 where
    pub flat : Configuration
    pub waits : W top i d flat
    pub here : Activation
    pub under : List Activation
    pub st : Stopped (setting w top) i (flat.here ∷ flat.under) (here ∷ under)
    pub may : MayStand (setting w top) w.lay st
    pub v : Level
    pub vs : List Level
    pub are : levels_of (setting w top) w.lay st ≡ v ∷ vs
    pub fits : AllFit (gl w) w.plan.area w.written (gl w) (suc (gl w)) (v ∷ vs)
    pub chain : Chain w.written (gl w) w.table v vs
    pub room : 8 + total_size (v ∷ vs) ≤ w.plan.area.len
    pub deep : length vs < 4096
    pub args : List Value
    pub took : Took (param_count (func_type_at w.written i)) args v.taken
    pub is_top : TopOf w (an_entry e) top

  -- it came back to the import's call, over these stores, and is answered; on the way the import is called, with the same arguments
  pub record Back (top i : ℕ) (e : Entry) (a : Answer) (lo : Left) (d : Configuration) (z : Hangs top i e d) (s s' : Store) : Type 0 where
    pub cost : ℕ
    pub at : Held
    pub config : Configuration
    pub store : Store
    pub silent : Sil w s (calling (rewinds e i a s') s' (xp w).start_rewind (V.I32 w.plan.area.at ∷ []) call_again lo) cost at
    pub calls : (j : ℕ) → j ≤ cost → RewindsTo w.written (Some (record { import = i; args = z.args }))
        (run (pr w) j (calling (rewinds e i a s') s' (xp w).start_rewind (V.I32 w.plan.area.at ∷ []) call_again lo)).last
    pub answers : pr w at ≡ held_resumed 0 e a.said s' config lo (poked store a.pokes)
    pub seen : Sm w (poked s a.pokes) (poked store a.pokes)
    pub like : Alike (setting w top) s store
    pub kept : AreaKept w.plan.area s' (poked store a.pokes)
    pub new : List Activation
    pub same_flat : AllSameFlat w.lay ((z.flat).here ∷ (z.flat).under) new
    pub stopped : Stopped (setting w top) i new (config.here ∷ config.under)
    pub within : cost ≤ 29 + length e.args + 2 * length (z.v).site.slots + rewinding_all z.v z.vs

  pub comes_back : (top i : ℕ) (e : Entry) (a : Answer) (lo : Left) (d : Configuration) (z : Hangs top i e d) (s s' : Store) → Alike (setting w top) s s' → 8 ≤ w.plan.area.len
      → length s.memory < 2 ^ 32 → SuspendedIn w.plan.area s' (z.v ∷ z.vs) → bad_poke (length s.memory) (w.plan.area ∷ []) a.pokes ≡ None → Back top i e a lo d z s s'
  comes_back top i e a lo d z s s' like wide small sus no_bad =
      let ar = w.plan.area in
      let same = sl.same_end top s s' like in
      let rdy = sl.ready top s s' like wide small in
      let kn = law.waits_known top i d z.flat z.waits in
      let ok = outer_all (setting w top) (ft.paired top) w.lay i _ _ z.st z.may z.v z.vs z.are in
      let lv_fit = (stopped_are_levels (gl w) ar (setting w top) w.lay i _ _ z.st (ft.paired top) z.may).fit in
      let ic = inner_calls (setting w top) (ft.paired top) w.lay (gl w) ar i _ _ z.st kn.1 lv_fit z.v z.vs z.are in
      let tbl : s'.table ≡ w.table = like.table' in
      let top_is = z.is_top in
      let ent : EntersEntry w.written (gl w) e (outer_of z.v z.vs) =
      record {
        is = top_is.1 ∙ sym ok.is;
        func = ok.func;
        defined = ap (defined_at w.written) ok.is ∙ ok.defined;
        body = ok.body;
        size = ap (λ q. q + length (declared_locals (ok.func).locals)) top_is.2 ∙ ok.size;
      } in
      let an : AnswersAt (gl w) (gl w) (suc (gl w)) w.written (xp w) w.plan e i a lo s' z.v z.vs =
      answers_law (gl w) (gl w) (suc (gl w)) w.written (xp w) w.plan e i ic.params a lo s' z.v z.vs ft.runtime rdy z.fits
      (subst (λ t. Chain w.written (gl w) t z.v z.vs) (sym tbl) z.chain) z.deep sus z.room ent
      (subst (λ t. CallsTo w.written t z.v ic.params i) (sym tbl) ic.goes_to) (ft.import_undefined i kn.0) (subst (λ q. i < q) (sym ft.imports) kn.0) in
      let b4 : Held = calling (rewinds e i a s') s' (xp w).start_rewind (V.I32 ar.at ∷ []) call_again lo in
      let q2 = silent_quiet w.original w.settings w.which w.written (xp w) w.plan s b4 an.at an.cost an.before same in
      let took : Took (param_count (func_type_at w.written i)) an.args (z.v).taken =
      subst (Took (param_count (func_type_at w.written i)) an.args) (ap (λ (b : Activation). b.taken) (an.waits_as).0)
      (call_took w.written an.asking an.waits an.count i an.args an.asks_there an.all_there) in
      let same_args : an.args ≡ z.args = one_args (param_count (func_type_at w.written i)) an.args z.args (z.v).taken took z.took in
      let to_call = (each_instant (gl w) ar w.written (xp w) w.plan b4 (busy (rewinds e i a s') an.asking lo) an.reach an.to_call).1 in
      let alike4 = sl.around top s s' an.store like an.around in
      let same4 = sl.same_end top s an.store alike4 in
      let alike5 = sl.poked_too top s an.store a alike4 no_bad in
      let same5 = sl.same_end top (poked s a.pokes) (poked an.store a.pokes) alike5 in
      let here_as = (an.waits_as).0 in
      let under_as = (an.waits_as).1 in
      let reb : AllCameBack (levels_of (setting w top) w.lay z.st) ((an.waits).here ∷ (an.waits).under) =
      subst (λ ws. AllCameBack ws ((an.waits).here ∷ (an.waits).under)) (sym z.are) (
        record { locals = an.locals; kept_same = an.kept_same; is = here_as },
        subst (AllCameBack z.vs) (sym under_as) an.came_back,
      ) in
      let fa : FlatAgain (setting w top) w.lay i ((z.flat).here ∷ (z.flat).under) ((an.waits).here ∷ (an.waits).under) = stacks_return (setting w top) w.lay i _ _ _ z.st z.may reb in
      let size4 = same4.size in
      record {
        cost = an.cost;
        at = an.at;
        config = an.waits;
        store = an.store;
        silent = q2;
        calls = λ j le. subst (λ (vs : List Value). RewindsTo w.written (Some (record { import = i; args = vs })) (run (pr w) j b4).last) same_args
            (rewinds_once w.written (xp w) w.plan e i a s' an.asking an.waits lo an.count an.args an.asks_there b4 an.reach to_call j (q2.each j le).0);
        answers = an.tells;
        seen = same5;
        like = alike4;
        kept = sl.poked_area s' an.store a an.lowered wide (subst (λ u. bad_poke u (ar ∷ []) a.pokes ≡ None) size4 no_bad);
        new = fa.new;
        same_flat = fa.same;
        stopped = fa.stopped;
        within = an.within;
      }
