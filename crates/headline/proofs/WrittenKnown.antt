-- Along the written module's run each configuration fits it, and is in range: so locals have their types.
use Rattle.std.proofs.Common.{◌≡◌, ℕ, ◌*◌, List, [], ◌∷◌, Some, All, subst, arith}
use Rattle.std.proofs.lemmas.List.Elements.{All-cons, All-head, All-tail, All-weaker}
use Rattle.wa_types.specs.Memory.{page_size}
use Rattle.wa_types.specs.Modules.{all_memories, defined_at, func_type_at, imported, imported_global}
use Rattle.wa_types.specs.Syntax.{Func, Module}
use Rattle.wa_types.specs.Validity.{Valid}
use Rattle.wa_types.specs.declared.values.ValType.{ValType}
use Rattle.wa_model.specs.Blocking.{Left, Note, all_left}
use Rattle.wa_model.specs.Configuration.{Activation, Configuration}
use Rattle.run_theory.specs.Fitting.{CallersFit, Fits, global_types, results_of, types_of}
use Rattle.wa_model.specs.Instantiation.{Opening, fails_as, opens, opening, least_of}
use Rattle.run_theory.specs.DeterminedRuns.{held_start_of}
use Rattle.wa_model.specs.Outside.{Answer}
use Rattle.wa_model.specs.Store.{Store}
use Rattle.wa_types.specs.declared.values.Value.{Value}
use Rattle.wa_model.specs.Machine.{Turn, goes}
use Rattle.wa_model.specs.Plan.{AreaFits, Entry, EntryFits, Outcome, OutcomeFits, Plan}
use Rattle.wa_model.specs.Plan as L
use Rattle.wa_model.specs.Protocol.{Held, Phase, give_zero, unwinds, free, starting, busy, calling, aside, entering, over, exports_of, held_begun, held_started, is_running, protocol}
use Rattle.run_theory.proofs.FittingOpenings.{openings_fit}
use Rattle.run_theory.proofs.Invariants.{TurnKeeps}
use Rattle.run_theory.proofs.NamedModules.{valid_instance}
use Rattle.run_laws.specs.Ranges.{ActivationIn, CodesIn, HeldFrom, NoteIn, OpeningIn}
use Rattle.run_laws.proofs.Openings.{openings_in}
use Rattle.run_laws.proofs.ProtocolRuns.{fits_in, opened_in, turn_in}
use Rattle.run_laws.specs.FittingStates.{ExportsTyped, HeldFits}
use Rattle.run_laws.proofs.ProtocolStopping.{begun_fits, turn_fits}
use Rattle.run_laws.proofs.Stopping.{start_there}
use Rattle.run_laws.proofs.SpotRuns.{listed_typed, start_takes_none}
use Rattle.headline.specs.FlatLaw.{AllLocalsFit}
use Rattle.headline.specs.Given.{LetsPause}
use Rattle.headline.specs.World.{World}
use Rattle.headline.specs.WrittenRuns.{WrittenLaw}

-- where all is over nothing has to be in range
abbrev pub InRange : ℕ → Held → Type 0
InRange low (over s) = Unit {0}
InRange low h = HeldFrom low h

in_range : (low : ℕ) (h : Held) → HeldFrom low h → InRange low h
in_range low (over s) k = tt
in_range low (free s l) k = k
in_range low (starting f s l) k = k
in_range low (busy ph c l) k = k
in_range low (calling ph s f args th l) k = k
in_range low (aside ph c th l) k = k
in_range low (entering ph e s l) k = k

module _ (p : Module) (v : Valid p) (plan : Plan) (plan_fits : L.Fits p plan) (area : AreaFits p plan.area) (ex : ExportsTyped p) (codes : CodesIn p) where
  abbrev low : ℕ
  low = least_of (all_memories p) * page_size

  abbrev next : Held → Turn Held Note
  next = protocol p (exports_of p) plan

  pub record Known (h : Held) : Type 0 where
    pub fits : HeldFits p h
    pub ranges : InRange low h

  -- ---- moves

  move_fits : (b t : Held) (k : ℕ) (es : List Note) → HeldFits p b → next b ≡ goes k es t → HeldFits p t
  move_fits b t k es h e = (subst (TurnKeeps next (HeldFits p) (λ (y : Note). Unit {0})) e (turn_fits p v plan ex b h)).1

  held_moves : (b t : Held) (k : ℕ) (es : List Note) → HeldFrom low b → next b ≡ goes k es t → InRange low t
  held_moves b t k es h e = in_range low t (subst (TurnKeeps next (HeldFrom low) (NoteIn low)) e (turn_in p codes (exports_of p) plan low area.least area.inside low b (omega arith) h)).1

  move_ranges : (b t : Held) (k : ℕ) (es : List Note) → InRange low b → next b ≡ goes k es t → InRange low t
  move_ranges (over s) t k es h e = cc
  move_ranges (free s l) t k es h e = held_moves (free s l) t k es h e
  move_ranges (starting f s l) t k es h e = held_moves (starting f s l) t k es h e
  move_ranges (busy ph c l) t k es h e = held_moves (busy ph c l) t k es h e
  move_ranges (calling ph s f args th l) t k es h e = held_moves (calling ph s f args th l) t k es h e
  move_ranges (aside ph c th l) t k es h e = held_moves (aside ph c th l) t k es h e
  move_ranges (entering ph y s l) t k es h e = held_moves (entering ph y s l) t k es h e

  -- ---- where a run begins

  entry_typed : (y : Entry) → EntryFits p y → ((f : Func) × (defined_at p y.func ≡ Some f)) × (types_of y.args ≡ (func_type_at p y.func).params)
  entry_typed y h = (h.defined, listed_typed (func_type_at p y.func).params y.args h.args.typed)

  begins_fit : (os : List Outcome) → HeldFits p (held_start_of p plan os).last
  begins_fit os =
      let globals : types_of plan.globals ≡ global_types (imported imported_global p) = listed_typed _ plan.globals plan_fits.globals.typed in
      (begun_fits p v plan ex (all_left plan os) (opening p plan.globals) p.start 0
      (All-weaker (EntryFits p) (λ (y : Entry). ((f : Func) × (defined_at p y.func ≡ Some f)) × (types_of y.args ≡ (func_type_at p y.func).params))
      (λ y h. entry_typed y h) plan.entries plan_fits.entries)
      (λ s o. openings_fit p plan.globals s v globals o) (λ f o. (start_takes_none p f v o, start_there p f p.start (valid_instance p v).start o))).1

  begins_in : (os : List Outcome) → All OutcomeFits os → InRange low (held_start_of p plan os).last
  begins_in os fs = by_opening (opening p plan.globals) (openings_in p plan.globals codes (fits_in p plan plan_fits).globals)
    where
      by_opening : (o : Opening) → OpeningIn low o → InRange low (held_begun p.start (all_left plan os) o).last
      by_opening (fails_as e) h = tt
      by_opening (opens s) h =
          in_range low (held_started s (all_left plan os) p.start).last
          (opened_in p codes plan 0 area p.start (all_left plan os) s h (record { entries = (fits_in p plan plan_fits).entries; outcomes = fs })).1

  -- ---- what it says of locals

  callers_known : (outs types : List ValType) (under : List Activation) → CallersFit p outs types under → All ActivationIn under → AllLocalsFit p under
  callers_known outs types [] h r = tt
  callers_known outs types (a ∷ under) h r =
      let fit = h.0 in
      let ranges = All-head ActivationIn a under r in
      (record { found = fit.func; is = fit.func_is; typed = fit.locals_fit; ranges = ranges.locals }, callers_known outs (results_of p a.func) under h.1 (All-tail ActivationIn a under r))

  pub locals_known : (ph : Phase) (c : Configuration) (l : Left) → Known (busy ph c l) → AllLocalsFit p (c.here ∷ c.under)
  locals_known ph c l h =
      let fit : Fits p (h.fits).0 c = (h.fits).1 in
      let ranges = (h.ranges).2.1 in
      let here = fit.here in
      (record { found = here.func; is = here.func_is; typed = here.locals_fit; ranges = ranges.here.locals }, callers_known (h.fits).0 (results_of p c.here.func) c.under fit.under ranges.under)

  waits_known : (e : Entry) (i : ℕ) (a : Answer) (s : Store) (x : ℕ) (args : List Value) (c : Configuration) (l : Left) → Known (calling (unwinds e i a) s x args (give_zero c) l)
      → AllLocalsFit p (c.here ∷ c.under)
  waits_known e i a s x args c l h =
      let waits = (h.fits).3 in
      let ranges = (h.ranges).2.3 in
      callers_known waits.0 (results_of p i) (c.here ∷ c.under) waits.1 (All-cons ActivationIn c.here c.under ranges.here ranges.under)

  pub known_begins : (os : List Outcome) → All OutcomeFits os → Known (held_start_of p plan os).last
  known_begins os fs = record { fits = begins_fit os; ranges = begins_in os fs }

  pub known_moves : (b t : Held) (k : ℕ) (es : List Note) → Known b → next b ≡ goes k es t → Known t
  known_moves b t k es h e = record { fits = move_fits b t k es h.fits e; ranges = move_ranges b t k es h.ranges e }

-- what is known where the plan lets some import pause
module _ (w : World) (v : Valid w.written) (fits : LetsPause w.plan → L.Fits w.written w.plan) (area : LetsPause w.plan → AreaFits w.written w.plan.area) (ex : ExportsTyped w.written)
    (codes : CodesIn w.written) where
  abbrev pub KnownIf : Held → Type 0
  KnownIf h = (lets : LetsPause w.plan) → Known w.written v w.plan (fits lets) (area lets) ex codes h

  -- THE WRITTEN SIDE'S LAW
  pub written_law : WrittenLaw w KnownIf
  written_law = record {
    begins = λ os fs lets. known_begins w.written v w.plan (fits lets) (area lets) ex codes os fs;
    keeps = λ b t k es h e lets. known_moves w.written v w.plan (fits lets) (area lets) ex codes b t k es (h lets) e;
    waits = λ lets e i a s x args c l h. waits_known w.written v w.plan (fits lets) (area lets) ex codes e i a s x args c l (h lets);
    locals = λ lets task c l h. locals_known w.written v w.plan (fits lets) (area lets) ex codes (is_running task) c l (h lets);
  }
