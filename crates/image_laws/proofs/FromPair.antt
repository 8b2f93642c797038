-- From any related pair of a simulation, behind first notes, to all that a rewritten module owes the rest of a run.
use Rattle.std.proofs.Common.{append-nil, Bool, ◌≡◌, ℕ, suc, ◌+◌, ◌-◌, ◌≤◌, ◌⊎◌, inl, inr, ⊎_elim, List, [], ◌∷◌, ◌++◌, Option, Some, refl, sym, ap, ◌∙◌, subst, arith}
use Rattle.std.proofs.lemmas.Bool.{cases_lt}
use Rattle.std.proofs.lemmas.List.Elements.{filter_map-append}
use Rattle.std.specs.List.{sum_by}
use Rattle.wa_types.specs.Base.{Base}
use Rattle.wa_types.specs.Frames.{Fit, Room, Suspended}
use Rattle.wa_types.specs.Pausing.{Settings}
use Rattle.wa_types.specs.Runtime.{global_space}
use Rattle.wa_types.specs.Syntax.{Module}
use Rattle.run_theory.proofs.Follow.{Begins, alike_on, back, begins_on, forth}
use Rattle.run_theory.proofs.Follow as Fo
use Rattle.run_theory.proofs.FromMoves.{begins_right, events_of_alike, events_on, prefix_of_begins, prefix_of_leads}
use Rattle.run_theory.proofs.Moments.{Moment, at_event, at_state, moment}
use Rattle.run_theory.proofs.Rewound.{Forwards, forwards_asks, last_on, silent_forwards}
use Rattle.run_theory.proofs.Runs.{leads_on, leads_run, one_move}
use Rattle.run_theory.proofs.ShownMoments.{Lawful, event_moment, state_moment}
use Rattle.run_theory.proofs.ShownRuns.{shown_run}
use Rattle.wa_model.specs.Behaves.{IsPrefix, RewindsTo, SameNote, last_called, pause_stacks, unless_pause, without_pauses}
use Rattle.wa_model.specs.Blocking.{Note, State, blocking, events_of, store_of}
use Rattle.wa_model.specs.Expected.{SameEnd}
use Rattle.wa_model.specs.Machine.{Leads, Ran, Turn, after, goes, moves, run}
use Rattle.wa_model.specs.Outside.{Call, Event}
use Rattle.wa_model.specs.Plan.{Plan}
use Rattle.wa_model.specs.Protocol.{Held, exports_of, protocol, store_held}
use Rattle.wa_model.specs.Store.{Store}
use Rattle.headline.proofs.FromSimulation.{Simulates, dear_on, dear_shown, moment_calls, na}
use Rattle.headline.proofs.ToldMoves.{Sees, Sees_at, Silent, dear_of}
use Rattle.image_laws.specs.Image.{BehavesFrom, IsMomentFrom, RestBound, expected_from, rewind_bound}

without_on : (xs ys : List Note) → without_pauses (events_of (xs ++ ys)) ≡ without_pauses (events_of xs) ++ without_pauses (events_of ys)
without_on xs ys = ap without_pauses (events_on xs ys) ∙ filter_map-append unless_pause (events_of xs) (events_of ys)

module _ (m : Module) (s : Settings) (which : List Bool) (p : Module) (plan : Plan) where
  abbrev room : List Suspended → ℕ
  room = Room m s.policy

  abbrev fit : List Suspended → ℕ
  fit = λ stack. Fit m s.policy stack plan.area.len

  abbrev pub pr : Held → Turn Held Note
  pr = protocol p (exports_of p) plan

  abbrev Q : Note → Note → Type 0
  Q = SameNote m s which plan.area

  abbrev ne : State → Turn State Note
  ne = na room fit m s which p plan

  abbrev Sil : Store → Held → ℕ → Held → Type 0
  Sil = Silent m s which p (exports_of p) plan

  module _ (R : (n spare : ℕ) → State → Held → Type 0) where
    -- From b the protocol comes without an event, by this call, to a move that tells notes beside xs, and from there to a related pair.
    pub record Comes (n extra : ℕ) (before : Store) (call : Call) (xs : List Note) (a : State) (b : Held) : Type 0 where
      pub cost : ℕ
      pub at : Held
      pub notes_there : List Note
      pub on : Held
      pub more : ℕ
      pub to : Held
      pub left : ℕ
      pub silent : Silent m s which p (exports_of p) plan before b cost at
      pub calls : (j : ℕ) → j ≤ cost → RewindsTo p (Some call) (run (protocol p (exports_of p) plan) j b).last
      pub forwards : Forwards on
      pub tells : protocol p (exports_of p) plan at ≡ goes 0 notes_there on
      pub same : Fo.Alike (SameNote m s which plan.area) xs notes_there
      pub behind : Silent m s which p (exports_of p) plan (store_of a) on more to
      pub rel : R n left a to
      pub few : cost + 1 + more + left ≤ extra

    module _ (sim : Simulates room fit m s which p plan R) (n : ℕ) (before : Store) (call : Call) (stack : List Suspended) (xs : List Note) (a : State) (b : Held) (lawful : Lawful a)
        (honest : without_pauses (events_of xs) ≡ events_of xs) (cm : Comes n (128 + sum_by (rewind_bound m) stack) before call xs a b) where
      -- the run behind the first notes
      run_on : (j : ℕ) → cm.cost + 1 ≤ j → run (protocol p (exports_of p) plan) j b ≡ after cm.notes_there (run (protocol p (exports_of p) plan) (j - (cm.cost + 1)) cm.on)
      run_on j le =
          let z : j ≡ cm.cost + suc (0 + (j - (cm.cost + 1))) = omega arith in
          let q = cm.silent in
          ap (λ i. run pr i b) z ∙ leads_run Held Note pr b cm.at cm.cost (suc (0 + (j - (cm.cost + 1)))) [] q.leads
          ∙ one_move Held Note pr 0 (j - (cm.cost + 1)) cm.notes_there cm.at cm.on cm.tells

      run_to : (j : ℕ) → cm.more ≤ j → run (protocol p (exports_of p) plan) j cm.on ≡ run (protocol p (exports_of p) plan) (j - cm.more) cm.to
      run_to j le =
          let z : j ≡ cm.more + (j - cm.more) = omega arith in
          let q = cm.behind in
          ap (λ i. run pr i cm.on) z ∙ leads_run Held Note pr cm.on cm.to cm.more (j - cm.more) [] q.leads

      none_begins : (zs ys : List Note) → ys ≡ [] → Begins (SameNote m s which plan.area) zs ys
      none_begins zs ys e = subst (λ us. Begins (SameNote m s which plan.area) zs us) (sym e) tt

      begun_on : (j : ℕ) → j ≤ n → Begins (SameNote m s which plan.area) (run ne n a).events (run (protocol p (exports_of p) plan) j cm.on).events
      begun_on j le =
          ⊎_elim
          (λ lt. let q = cm.behind in none_begins (run ne n a).events (run pr j cm.on).events (q.each j (omega arith)).0)
          (λ ge.
          subst (λ (r : Ran Held Note). Begins (SameNote m s which plan.area) (run ne n a).events r.events) (sym (run_to j ge))
          (back State Held Note Note ne pr R Q (dear_of m) (Sees m s which p (exports_of p) plan) (Sees_at m s which p (exports_of p) plan) sim (dear_on m) refl
          (j - cm.more) (j - cm.more) n cm.left a cm.to (sim.less n (j - cm.more) cm.left a cm.to cm.rel (omega arith)) (omega arith) (omega arith)))
          (cases_lt j cm.more)

      begun_so : Begins (SameNote m s which plan.area) (xs ++ (run ne n a).events) (run (protocol p (exports_of p) plan) n b).events
      begun_so =
          ⊎_elim
          (λ lt. let q = cm.silent in none_begins (xs ++ (run ne n a).events) (run pr n b).events (q.each n (omega arith)).0)
          (λ ge.
          subst (λ (r : Ran Held Note). Begins (SameNote m s which plan.area) (xs ++ (run ne n a).events) r.events) (sym (run_on n ge))
          (begins_on Q xs (run ne n a).events cm.notes_there (run pr (n - (cm.cost + 1)) cm.on).events cm.same (begun_on (n - (cm.cost + 1)) (omega arith))))
          (cases_lt n (cm.cost + 1))

      expected_are : expected_from m s plan xs a n ≡ xs ++ (run ne n a).events
      expected_are = ap (λ zs. xs ++ zs) (sym (shown_run room fit plan.area.len (Base m) plan n n a (omega arith)))

      begins_expected : Begins (SameNote m s which plan.area) (expected_from m s plan xs a n) (run (protocol p (exports_of p) plan) n b).events
      begins_expected = subst (λ zs. Begins (SameNote m s which plan.area) zs (run pr n b).events) (sym expected_are) begun_so

      same_event : (y z : Note) → SameNote m s which plan.area y z → y.event ≡ z.event
      same_event y z h = h.event

      -- it gets as far
      reaches : IsPrefix (events_of (expected_from m s plan xs a n))
          (events_of (run (protocol p (exports_of p) plan) (RestBound m n stack (pause_stacks (run (blocking (Base m) plan) n a).events)) b).events)
      reaches =
          let f = forth State Held Note Note ne pr R Q (dear_of m) (Sees m s which p (exports_of p) plan) (Sees_at m s which p (exports_of p) plan) sim (dear_on m) refl
          n n cm.left a cm.to cm.rel (omega arith) in
          let q1 = cm.silent in let q2 = cm.behind in
          let blocked : List Note = (run (blocking (Base m) plan) n a).events in
          let d1 : dear_of m (run ne n a).events ≤ dear_of m blocked =
          subst (λ zs. dear_of m zs ≤ dear_of m blocked) (sym (shown_run room fit plan.area.len (Base m) plan n n a (omega arith)))
          (dear_shown m room fit plan.area.len blocked) in
          let bound : ℕ = RestBound m n stack (pause_stacks (run (blocking (Base m) plan) n a).events) in
          let l2 : Leads pr cm.on (cm.more + f.0) f.1 f.2 = leads_on Held Note pr cm.on cm.to f.2 cm.more f.0 [] f.1 q2.leads f.3 in
          let l1 : Leads pr cm.at (suc 0 + (cm.more + f.0)) (cm.notes_there ++ f.1) f.2 = moves cm.tells l2 refl refl in
          let l0 : Leads pr b (cm.cost + (suc 0 + (cm.more + f.0))) (cm.notes_there ++ f.1) f.2 =
          leads_on Held Note pr b cm.at f.2 cm.cost (suc 0 + (cm.more + f.0)) [] (cm.notes_there ++ f.1) q1.leads l1 in
          let few = cm.few in
          let enough : cm.cost + (suc 0 + (cm.more + f.0)) ≤ bound = omega (arith, f.4) in
          let pre : IsPrefix (events_of (cm.notes_there ++ f.1)) (events_of (run pr bound b).events) =
          prefix_of_leads Held pr b f.2 (cm.cost + (suc 0 + (cm.more + f.0))) bound (cm.notes_there ++ f.1) l0 enough in
          let same : events_of (xs ++ (run ne n a).events) ≡ events_of (cm.notes_there ++ f.1) =
          events_of_alike Q same_event (xs ++ (run ne n a).events) (cm.notes_there ++ f.1) (alike_on Q xs (run ne n a).events cm.notes_there f.1 cm.same f.5) in
          subst (λ es. IsPrefix es (events_of (run pr bound b).events)) (sym (ap events_of expected_are ∙ same)) pre

      -- ---- moments

      first_told : without_pauses (events_of cm.notes_there) ≡ events_of xs
      first_told = ap without_pauses (sym (events_of_alike Q same_event xs cm.notes_there cm.same)) ∙ honest

      told : (es made : List Note) → Fo.Alike (SameNote m s which plan.area) es made → events_of xs ++ without_pauses (events_of es) ≡ without_pauses (events_of (cm.notes_there ++ made))
      told es made al =
          sym (without_on cm.notes_there made ∙ ap (λ zs. zs ++ without_pauses (events_of made)) first_told
          ∙ ap (λ zs. events_of xs ++ without_pauses zs) (sym (events_of_alike Q same_event es made al)))

      abbrev Says : Ran Held Note → Type 0
      Says r = ((r.events ≡ []) × SameEnd (global_space m) plan.area before (store_held r.last))
          ⊎ ((events : List Event) × (at : Store) × IsMomentFrom m plan xs a n events at × (events ≡ without_pauses (events_of r.events)) × SameEnd (global_space m) plan.area at (store_held r.last))

      by_moment : (j : ℕ) → j ≤ n → (r : Ran Held Note)
          → Moment State Held Note Note ne (protocol p (exports_of p) plan) R (SameNote m s which plan.area) (dear_of m) (Sees m s which p (exports_of p) plan)
          (Sees_at m s which p (exports_of p) plan) j a r
          → Says (after cm.notes_there r)
      by_moment j le r (at_state cost es at l within al sees) =
          inr (
            events_of xs ++ without_pauses (events_of es),
            store_of at,
            state_moment room fit plan.area.len (Base m) plan xs a at n cost es lawful l (omega arith),
            told es r.events al,
            sees.0,
          )
      by_moment j le r (at_event cost k es es1 es2 y at a' l e within al sees) =
          inr (
            events_of xs ++ without_pauses (events_of (es ++ (es1 ++ y ∷ []))),
            y.store,
            event_moment room fit plan.area.len (Base m) plan xs a at a' n cost k es es1 es2 y lawful l e (omega arith),
            told (es ++ (es1 ++ y ∷ [])) r.events al,
            sees.0,
          )

      just_first : (r : Ran Held Note) → r.events ≡ [] → SameEnd (global_space m) plan.area (store_of a) (store_held r.last) → Says (after cm.notes_there r)
      just_first r none sees =
          inr (
            events_of xs,
            store_of a,
            inl (0, omega arith, ap events_of (sym (append-nil xs)), refl),
            sym (ap (λ zs. without_pauses (events_of (cm.notes_there ++ zs))) none ∙ ap (λ zs. without_pauses (events_of zs)) (append-nil cm.notes_there) ∙ first_told),
            sees,
          )

      moment_on : (j : ℕ) → j ≤ n → Says (after cm.notes_there (run (protocol p (exports_of p) plan) j cm.on))
      moment_on j le =
          ⊎_elim
          (λ lt. let q = cm.behind in let w = q.each j (omega arith) in just_first (run pr j cm.on) w.0 w.1)
          (λ ge.
          subst (λ (r : Ran Held Note). Says (after cm.notes_there r)) (sym (run_to j ge))
          (by_moment (j - cm.more) (omega arith) (run pr (j - cm.more) cm.to)
          (moment State Held Note Note ne pr R Q (dear_of m) (Sees m s which p (exports_of p) plan) (Sees_at m s which p (exports_of p) plan) sim
          (j - cm.more) (j - cm.more) cm.left a cm.to (sim.less n (j - cm.more) cm.left a cm.to cm.rel (omega arith)) (omega arith))))
          (cases_lt j cm.more)

      moments : Says (run (protocol p (exports_of p) plan) n b)
      moments =
          ⊎_elim
          (λ lt. let q = cm.silent in let w = q.each n (omega arith) in inl w)
          (λ ge. subst (λ (r : Ran Held Note). Says r) (sym (run_on n ge)) (moment_on (n - (cm.cost + 1)) (omega arith)))
          (cases_lt n (cm.cost + 1))

      -- ---- calls

      -- a rewound entry calls the import that was told last
      abbrev CallsTold : Ran Held Note → Type 0
      CallsTold r = RewindsTo p (last_called (Some call) (events_of r.events)) r.last

      calls_behind : (r : Ran Held Note) → RewindsTo p (last_called (last_called (Some call) (events_of cm.notes_there)) (events_of r.events)) r.last → CallsTold (after cm.notes_there r)
      calls_behind r h =
          let same : last_called (last_called (Some call) (events_of cm.notes_there)) (events_of r.events) ≡ last_called (Some call) (events_of (cm.notes_there ++ r.events)) =
          sym (last_on (Some call) (events_of cm.notes_there) (events_of r.events)) ∙ ap (last_called (Some call)) (sym (events_on cm.notes_there r.events)) in
          subst (λ (c : Option Call). RewindsTo p c r.last) same h

      calls_on : (j : ℕ) → j ≤ n → CallsTold (after cm.notes_there (run (protocol p (exports_of p) plan) j cm.on))
      calls_on j le =
          calls_behind (run pr j cm.on)
          (⊎_elim
          (λ lt.
          let q = cm.behind in
          forwards_asks p (last_called (last_called (Some call) (events_of cm.notes_there)) (events_of (run pr j cm.on).events)) (run pr j cm.on).last
          (silent_forwards p (exports_of p) plan j cm.on cm.forwards (q.each j (omega arith)).0))
          (λ ge.
          subst (λ (r : Ran Held Note). RewindsTo p (last_called (last_called (Some call) (events_of cm.notes_there)) (events_of r.events)) r.last) (sym (run_to j ge))
          (moment_calls room fit m s which p plan R (j - cm.more) a (run pr (j - cm.more) cm.to) (last_called (Some call) (events_of cm.notes_there))
          (moment State Held Note Note ne pr R Q (dear_of m) (Sees m s which p (exports_of p) plan) (Sees_at m s which p (exports_of p) plan) sim
          (j - cm.more) (j - cm.more) cm.left a cm.to (sim.less n (j - cm.more) cm.left a cm.to cm.rel (omega arith)) (omega arith))))
          (cases_lt j cm.more))

      again : CallsTold (run (protocol p (exports_of p) plan) n b)
      again =
          ⊎_elim
          (λ lt.
          let q = cm.silent in
          let none : events_of (run pr n b).events ≡ [] = ap events_of (q.each n (omega arith)).0 in
          subst (λ es. RewindsTo p (last_called (Some call) es) (run pr n b).last) (sym none) (cm.calls n (omega arith)))
          (λ ge. subst CallsTold (sym (run_on n ge)) (calls_on (n - (cm.cost + 1)) (omega arith)))
          (cases_lt n (cm.cost + 1))

      -- FROM ANY RELATED PAIR
      pub behaves_from : BehavesFrom m s p plan which n before call stack xs a b
      behaves_from = record {
        reaches = reaches;
        follows = prefix_of_begins Q same_event (expected_from m s plan xs a n) (run pr n b).events begins_expected;
        notes = begins_right Q (expected_from m s plan xs a n) (run pr n b).events begins_expected;
        moments = moments;
        again = again;
      }
