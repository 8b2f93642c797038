-- What comes of the start function in the first strand's turn: of its call, and of the value that it is given.
use Rattle.std.proofs.Common.{◌≡◌, ◌≤◌, ◌<◌, ◌-◌, ◌+◌, ℕ, List, [], ◌∷◌, length, Option, true, refl, sym, ap, ◌∙◌, subst, arith}
use Rattle.wa_types.specs.Modules.{func_imports, func_sorts, func_type_at}
use Rattle.wa_types.specs.Syntax.{Module}
use Rattle.wa_model.specs.Blocking.{Left, Note, inside, note, outermost, resumed, the_start, with_outcomes}
use Rattle.wa_model.specs.Outside.{ended}
use Rattle.wa_model.specs.declared.events.End.TheVariants as E
use Rattle.wa_model.specs.Protocol.{Held, busy, busy_step, exports_of, is_running, over, protocol, starting}
use Rattle.wa_model.specs.Store.{Store}
use Rattle.wa_types.specs.declared.values.Trap.{Trap}
use Rattle.world_model.specs.World.{Program}
use Rattle.run_theory.proofs.Runs.{leads_on}
use Rattle.interp.specs.declared.turns.Turn.{Turn}
use Rattle.interp.specs.declared.turns.Turn.TheVariants.{Returned, StepsSpent, Trapped, Waiting}
use Rattle.interp.specs.Instance.{Awaits, Calls, FitsAgain, Resumes, TurnFits, Waits}
use Rattle.interp.specs.Host.{code_in, store_in, waits_in}
use Rattle.interp.specs.declared.instance.Instance.{Instance}
use Rattle.run_theory.specs.Fitting.{StoreFits, results_of, types_of}
use Rattle.std.specs.Option.{option_to_list}
use Rattle.wa_types.specs.declared.values.ValType.{ValType}
use Rattle.wa_types.specs.declared.values.Value.{Value}
use Rattle.run_laws.specs.FittingStates.{HeldFits}
use Rattle.host_laws.specs.Places.{stands}
use Rattle.pause_host.specs.Views.{left_of, starts}
use Rattle.pause_host.specs.declared.stages.Task.{Task}
use Rattle.strand_laws.specs.StrandWorld.{StrandsInWorld}
use Rattle.strand_laws.specs.ToldStrands.{ProgramTeller}
use Rattle.strand_host.specs.declared.strands.Strand.{Strand}
use Rattle.host_laws.specs.Stretch.{meeting}
use Rattle.pause_host.specs.declared.stages.Task.TheVariants as T
use Rattle.pause_host.specs.declared.stages.Stage.TheVariants as Stage
use Rattle.pause_host.specs.Moves.{IsAsking, PlaceFits, TaskTurn, runs_on, too_dear}
use Rattle.pause_host.proofs.Stagings.{Gives, gives, gives_awaits, gives_store, gives_turn}
use Rattle.wa_model.specs.declared.answers.Area.{Area}
use Rattle.pause_host.specs.Holding.{HeldHolds, HoldsArea}
use Rattle.pause_host.proofs.Holding.{area_longer}
use Rattle.pause_host.proofs.MemoryGrows.{calls_longer, resumes_longer}
use Rattle.pause_host.proofs.Results.{task_asking}
use Rattle.pause_host.proofs.Tasks.{import_asks, import_spent, import_stops, start_defined, start_returned, start_turn, task_asks, task_spent}
use Rattle.pause_host.proofs.Ways.{busy_goes, traps_by}
use Rattle.strand_host.specs.Standing.{LastMove}
use Rattle.strand_host.specs.StrandPrograms.{AtPlace, StartRan, StartTurned, StartsAt, Stock, TurnAt, place_of, world_strand}

-- an import that is called is one of so many
abbrev AsksWithin : (imports : ℕ) → Turn → Type 0
AsksWithin imports (Waiting call) = call.import < imports
AsksWithin imports _ = Unit {0}

asks_within : (m : Module) (outs : List ValType) (turn : Turn) (waits : Waits) → TurnFits m outs turn waits → AsksWithin (func_imports m) turn
asks_within m outs (Waiting call) waits h = h.0
asks_within m outs (Returned v) waits h = tt
asks_within m outs (Trapped trap) waits h = tt
asks_within m outs StepsSpent waits h = tt

module _ (w : Program) where
  trapped_last : (h : Held) (l : Left) (left used : ℕ) (trap : Trap) (s : Store) (waits : Waits) → TaskTurn w h l the_start left used (Trapped trap) s waits
      → LastMove w.source w.plan h [] (note (ended (E.Trapped trap)) s ∷ []) used (over s) true × (used ≤ left)
  trapped_last h l left used trap s waits (too_dear is h1) = cc
  trapped_last h l left used trap s waits (runs_on c u more go le e h1) =
      let p = w.source in
      let x = exports_of w.source in
      let r = traps_by p c (left - u) more trap s h1.0 in (
        record {
          at = busy (is_running the_start) r.at l;
          cost = u + r.cost;
          k = r.k;
          first = λ os.
              leads_on Held Note (protocol p x w.plan) (meeting os h) (meeting os (busy (is_running the_start) c l)) (meeting os (busy (is_running the_start) r.at l)) u r.cost [] [] (go os)
              (busy_goes w (is_running the_start) l c r.at r.cost r.runs os);
          starts = refl;
          move = λ os. ap (busy_step p x w.plan (is_running the_start) (with_outcomes l os)) r.next_is;
          used_is = omega (arith, r.used_is, e);
        },
        omega (arith, r.within),
      )

  -- by a turn of the start function
  pub task_turned : (h : Held) (l : Left) (left used : ℕ) (turn : Turn) (s : Store) (waits : Waits) → TaskTurn w h l the_start left used turn s waits
      → AsksWithin (func_imports w.source) turn → HoldsArea w.plan.area s → StartTurned w h left used T.Start turn l s waits
  task_turned h l left used (Returned v) s waits ran asked area = start_returned w h l left used v s waits ran
  task_turned h l left used (Trapped trap) s waits ran asked area = trapped_last h l left used trap s waits ran
  task_turned h l left used (Waiting call) s waits ran asked area =
      let asks = task_asks w h l the_start left used s waits call ran in (
        record { held = h; from_is = refl; who = inside the_start asks.0; asks = asks.3; within = asks.4; asking = task_asking T.Start the_start asks.0 s waits refl asks.1 asks.2 },
        asked,
        area,
      )
  task_turned h l left used StepsSpent s waits ran asked area = task_spent w h l the_start left used s waits ran

  -- by the call of one that is an import
  pub import_turned : (l : Left) (func : ℕ) (s : Store) (left used : ℕ) (turn : Turn) (s' : Store) (waits : Waits) → func < func_imports w.source → Calls w.source s func [] left used turn s' waits
      → HoldsArea w.plan.area s' → StartTurned w (starting func s l) left used T.Outermost turn l s' waits
  import_turned l func s left used (Returned v) s' waits lt calls area = absurd (import_stops w l func s left used s' waits lt (Returned v) calls)
  import_turned l func s left used (Trapped trap) s' waits lt calls area = absurd (import_stops w l func s left used s' waits lt (Trapped trap) calls)
  import_turned l func s left used (Waiting call) s' waits lt calls area =
      let asks = import_asks w l func s left used s' waits lt call calls in (
        record {
          held = starting func s l;
          from_is = refl;
          who = outermost s;
          asks = asks.2;
          within = asks.3;
          asking = subst (λ ws. IsAsking T.Outermost ws s' (outermost s)) (sym asks.1) (ap outermost (sym asks.0));
        },
        import_stops w l func s left used s' waits lt (Waiting call) calls,
        area,
      )
  import_turned l func s left used StepsSpent s' waits lt calls area = import_spent w l func s left used s' waits lt calls

-- ---- the start function is called

module _ (g : StrandsInWorld) (t : ProgramTeller) (x : Stock) (i : Instance) (s : Strand) (func : ℕ) (at : StartsAt g t x i s func) (i' : Instance) (turn : Turn) (left used left' : ℕ)
    (left_is : left ≡ x.steps_left) (left_then : left' ≡ left - used) (code : code_in i' ≡ code_in i)
    (calls : StoreFits (code_in i) (store_in i) → [] ≡ (func_type_at (code_in i) func).params → Calls (code_in i) (store_in i) func [] left used turn (store_in i') (waits_in i'))
    (again : func < length (func_sorts (code_in i)) → StoreFits (code_in i) (store_in i) → [] ≡ (func_type_at (code_in i) func).params
    → FitsAgain (code_in i) (results_of (code_in i) func) turn (store_in i') (waits_in i')) where
  abbrev h : Held
  h = starting func (store_in i) (left_of s.left)

  abbrev w : Program
  w = world_strand g 0

  same : at.at.held ≡ h
  same = let place : stands [] h ≡ stands at.at.ready at.at.held = at.at.place_is in cc

  there : HeldFits g.program.source h
  there = subst (HeldFits g.program.source) same at.at.fits

  typed : [] ≡ (func_type_at (code_in i) func).params
  typed = sym there.1.0 ∙ ap (λ (z : Module). (func_type_at z func).params) (sym at.code)

  fits_here : StoreFits (code_in i) (store_in i)
  fits_here = subst (λ (z : Module). StoreFits z (store_in i)) (sym at.code) there.0

  called : Calls g.program.source (store_in i) func [] x.steps_left used turn (store_in i') (waits_in i')
  called =
      subst (λ n. Calls g.program.source (store_in i) func [] n used turn (store_in i') (waits_in i')) left_is
      (subst (λ (z : Module). Calls z (store_in i) func [] left used turn (store_in i') (waits_in i')) at.code (calls fits_here typed))

  again_then : FitsAgain (code_in i) (results_of (code_in i) func) turn (store_in i') (waits_in i')
  again_then = again (subst (λ (z : Module). func < length (func_sorts z)) (sym at.code) there.1.1) fits_here typed

  fits_then : StoreFits g.program.source (store_in i')
  fits_then = subst (λ (z : Module). StoreFits z (store_in i')) at.code again_then.0

  asked_then : AsksWithin (func_imports g.program.source) turn
  asked_then = subst (λ (z : Module). AsksWithin (func_imports z) turn) at.code (asks_within (code_in i) (results_of (code_in i) func) turn (waits_in i') again_then.1)

  area_then : HoldsArea w.plan.area (store_in i')
  area_then =
      subst (λ (z : Area). HoldsArea z (store_in i')) (sym at.at.strand.is_set.area)
      (area_longer s.area (store_in i) (store_in i') (calls_longer g.program.source (store_in i) func [] x.steps_left used turn (store_in i') (waits_in i') called) (subst (HeldHolds s.area) same at.at.holds).0)

  ran : (task : Task) → starts task ≡ true → StartTurned w h x.steps_left used task turn (left_of s.left) (store_in i') (waits_in i') → StartRan g t (record x { steps_left = left' }) i' s task turn
  ran task begins turned = record {
    left = x.steps_left;
    used = used;
    held = h;
    at = at.at;
    steps = left_then ∙ ap (λ n. n - used) left_is;
    stage = at.stage;
    starts = begins;
    turned = turned;
    code = code ∙ at.code;
    fits = fits_then;
  }

  pub import_ran : func < func_imports g.program.source → StartRan g t (record x { steps_left = left' }) i' s T.Outermost turn
  import_ran lt = ran T.Outermost refl (import_turned w (left_of s.left) func (store_in i) x.steps_left used turn (store_in i') (waits_in i') lt called area_then)

  pub own_ran : func_imports g.program.source ≤ func → StartRan g t (record x { steps_left = left' }) i' s T.Start turn
  own_ran le =
      let d = start_defined w func there.1.1 le in
      ran T.Start refl
      (task_turned w h (left_of s.left) x.steps_left used turn (store_in i') (waits_in i')
      (start_turn w (left_of s.left) func d.0 (store_in i) x.steps_left used turn (store_in i') (waits_in i') d.1 called) asked_then area_then)

-- ---- it is given the value

module _ (g : StrandsInWorld) (t : ProgramTeller) (x : Stock) (i : Instance) (s : Strand) (value : Option Value) (at : TurnAt g t x i 0 (record s { stage = Stage.Giving T.Start value }) true)
    (free : s.stage ≡ Stage.Free) (i' : Instance) (turn : Turn) (left used left' : ℕ) (left_is : left ≡ x.steps_left) (left_then : left' ≡ left - used) (code : code_in i' ≡ code_in i)
    (resumes : (outs : List ValType) → StoreFits (code_in i) (store_in i) → Awaits (code_in i) outs (types_of (option_to_list value)) (waits_in i)
    → Resumes (code_in i) (store_in i) (waits_in i) value left used turn (store_in i') (waits_in i'))
    (again : (outs : List ValType) → StoreFits (code_in i) (store_in i) → Awaits (code_in i) outs (types_of (option_to_list value)) (waits_in i)
    → FitsAgain (code_in i) outs turn (store_in i') (waits_in i')) where
  abbrev u : Program
  u = world_strand g 0

  abbrev a : AtPlace g t x 0 (record s { stage = Stage.Giving T.Start value }) true (place_of g i (record s { stage = Stage.Giving T.Start value }))
  a = at.at

  given : Gives u T.Start the_start (waits_in i) (left_of s.left) value (store_in i)
  given = gives u T.Start the_start (waits_in i) (left_of s.left) value (store_in i) refl (subst (PlaceFits u) (sym a.place_is) a.fits)

  fits_before : StoreFits (code_in i) (store_in i)
  fits_before = subst (λ (z : Module). StoreFits z (store_in i)) (sym at.code) (gives_store u T.Start the_start (waits_in i) (left_of s.left) value (store_in i) given)

  awaits : Awaits (code_in i) given.fits.0 (types_of (option_to_list value)) (waits_in i)
  awaits =
      subst (λ (z : Module). Awaits z given.fits.0 (types_of (option_to_list value)) (waits_in i)) (sym at.code)
      (gives_awaits u T.Start the_start (waits_in i) (left_of s.left) value (store_in i) given)

  resumed_here : Resumes g.program.source (store_in i) (waits_in i) value x.steps_left used turn (store_in i') (waits_in i')
  resumed_here =
      subst (λ n. Resumes g.program.source (store_in i) (waits_in i) value n used turn (store_in i') (waits_in i')) left_is
      (subst (λ (z : Module). Resumes z (store_in i) (waits_in i) value left used turn (store_in i') (waits_in i')) at.code (resumes given.fits.0 fits_before awaits))

  abbrev runs_there : Held
  runs_there = busy (is_running the_start) (resumed (record { store = store_in i; here = given.here; under = given.under }) (store_in i) (option_to_list value)) (left_of s.left)

  stands_there : AtPlace g t x 0 s true (stands [] runs_there)
  stands_there = record {
    ts = a.ts;
    low = a.low;
    is = a.is;
    there = a.there;
    rows = a.rows;
    slot = a.slot;
    teller = a.teller;
    teller_is = a.teller_is;
    due = a.due;
    strand = record { is_set = a.strand.is_set; pokes = a.strand.pokes; answers = a.strand.answers; unfinished = a.strand.unfinished };
    ready = a.ready;
    held = a.held;
    place_is = sym given.place_is ∙ a.place_is;
    turn = a.turn;
    fits = a.fits;
    holds = a.holds;
    notes = a.notes;
    long = a.long;
    behind_start = a.behind_start;
  }

  again_there : FitsAgain (code_in i) given.fits.0 turn (store_in i') (waits_in i')
  again_there = again given.fits.0 fits_before awaits

  asked_there : AsksWithin (func_imports g.program.source) turn
  asked_there = subst (λ (z : Module). AsksWithin (func_imports z) turn) at.code (asks_within (code_in i) given.fits.0 turn (waits_in i') again_there.1)

  held_there : a.held ≡ runs_there
  held_there = let place : stands [] runs_there ≡ stands a.ready a.held = sym given.place_is ∙ a.place_is in cc

  area_there : HoldsArea u.plan.area (store_in i')
  area_there =
      subst (λ (z : Area). HoldsArea z (store_in i')) (sym a.strand.is_set.area)
      (area_longer s.area (store_in i) (store_in i') (resumes_longer g.program.source (store_in i) (waits_in i) value x.steps_left used turn (store_in i') (waits_in i') resumed_here)
      (subst (HeldHolds s.area) held_there a.holds).0)

  pub given_ran : StartRan g t (record x { steps_left = left' }) i' s T.Start turn
  given_ran = record {
    left = x.steps_left;
    used = used;
    held = runs_there;
    at = stands_there;
    steps = left_then ∙ ap (λ n. n - used) left_is;
    stage = free;
    starts = refl;
    turned = task_turned u runs_there (left_of s.left) x.steps_left used turn (store_in i') (waits_in i')
        (gives_turn u T.Start the_start (waits_in i) (left_of s.left) value (store_in i) given x.steps_left used turn (store_in i') (waits_in i') resumed_here) asked_there area_there;
    code = code ∙ at.code;
    fits = subst (λ (z : Module). StoreFits z (store_in i')) at.code again_there.0;
  }
