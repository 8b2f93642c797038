-- The run of a generated module whose import pauses once, and what a rewritten one does then.
use Rattle.std.proofs.Common.{arith, ◌≡◌, ◌≤◌, ◌<◌, ℕ, zero, suc, ◌+◌, ◌-◌, ◌*◌, List, [], ◌∷◌, ◌++◌, length, All, Some, refl, sym, ap, ◌∙◌, subst, append_assoc}
use Rattle.std.specs.Prelude.{Bool, if◌then◌else◌, replicate}
use Rattle.std.specs.List.{sum_by}
use Rattle.std.proofs.lemmas.List.Elements.{All-nil, All-cons, All-weaker}
use Rattle.std.proofs.lemmas.List.Sums.{sum_by-cons}
use Rattle.std.proofs.lemmas.List.{map-append}
use Rattle.wa_types.specs.declared.values.Value.{Value}
use Rattle.wa_types.specs.declared.values.Value.TheVariants as V
use Rattle.wa_types.specs.Base.{Base}
use Rattle.wa_types.specs.Bounds.{Bound, activation_bound}
use Rattle.wa_types.specs.Frames.{Fit, Room, Suspended}
use Rattle.wa_types.specs.Memory.{page_size}
use Rattle.wa_types.specs.Modules.{defined_at, func_type_at}
use Rattle.wa_types.specs.Pausing.{save_all}
use Rattle.wa_types.specs.Syntax.{call, Code, done, plain, FuncType, Module}
use Rattle.wa_model.specs.declared.events.End.TheVariants.{Done}
use Rattle.wa_model.specs.Outside.{answered, ended, returned}
use Rattle.wa_model.specs.Expected.{Expected, pause_note, trap_note}
use Rattle.wa_model.specs.Behaves.{Compared, IsPrefix, PauseNumbered, PausesNumbered, StandsNumbered, expected_notes, pause_stacks}
use Rattle.wa_model.specs.Protocol.{Held, Protocol, exports_of, protocol}
use Rattle.wa_model.specs.Rewrites.{Rewrites}
use Rattle.run_theory.specs.DeterminedRuns.{held_start_of}
use Rattle.run_theory.proofs.Runs.{leads_run, lt_false, prefix_of_longer, prefix_on}
use Rattle.wa_model.specs.Store.{Store}
use Rattle.wa_model.specs.Machine.{Ran, Turn, after, goes, run}
use Rattle.wa_model.specs.Plan.{Entry, Outcome, OutcomeFits, Plan, given}
use Rattle.wa_model.specs.Blocking.{Blocking, Left, Note, State, Task, an_entry, between, blocking, by_step, call_note, enters, events_of, halts, note}
use Rattle.wa_model.specs.Configuration.{Activation}
use Rattle.wa_model.specs.Step.{leave}
use Rattle.wa_model.specs.Untouched.{IsCalm, StaysOff, Untouched}
use Rattle.wa_model.proofs.StayingOff.{nothing_off}
use Rattle.gen_module.specs.Generated.{one_to_one, generated, generated_func}
use Rattle.gen_module.specs.GeneratedRuns.{GeneratedPausesOnce, all_listed, pauses_once, run_plan, value_of_func, wakes}
use Rattle.gen_module.proofs.GeneratedFrames.{Waits, base_defined, base_typed, bounds_sum, defined_there, frames_sum, generated_stack, listed_one, stack_fine, stack_length, tells_which, typed_there, which}
use Rattle.gen_module.proofs.GeneratedFits.{outcome_fits, plan_fits, well_formed}
use Rattle.gen_module.proofs.GeneratedSteps.{at, down, enters_at, from_one, seven, up, waits_under}
use Rattle.gen_module.proofs.Paths.{Path, at_end, on_way, path_keeps, path_leads, path_on}

abbrev entry_of : ℕ → Entry
entry_of n = record { func = n; args = seven }

abbrev left_with : List Outcome → Left
left_with os = record { number = 0; entries = []; outcomes = os }

abbrev answers : List Outcome
answers = given wakes ∷ []

abbrev machine : ℕ → State → Turn State Note
machine n = blocking (Base (generated n)) (run_plan n)

abbrev IsOff : ℕ → State → Type 0
IsOff n = IsCalm (run_plan n).area

module _ (k : ℕ) (s : Store) where
  abbrev n : ℕ
  n = suc k

  abbrev task : Task
  task = an_entry (entry_of n)

  -- what stands before the first move
  abbrev start_at : State
  start_at = between s (record { number = 0; entries = entry_of n ∷ []; outcomes = answers })

  abbrev here : (os : List Outcome) → (index : ℕ) → List Activation → (locals operands : List Value) → Code → State
  here os index under ls ops code = at (Base (generated n)) (run_plan n) task s (left_with os) index under ls ops code []

  -- the notes of the whole run
  abbrev answer_notes : List Note
  answer_notes = call_note 0 seven s (generated_stack n k) (Some 1) ∷ note (answered wakes.said) s ∷ []

  abbrev end_notes : List Note
  end_notes = note (returned 0 (Some (V.I32 (value_of_func k)))) s ∷ note (ended Done) s ∷ []

  abbrev whole_notes : List Note
  whole_notes = answer_notes ++ end_notes

  types : (x : ℕ) → x ≤ n → func_type_at (Base (generated n)) x ≡ one_to_one
  types x le = base_typed (generated n) x ∙ typed_there n x le

  funcs : (i : ℕ) → i < n → defined_at (Base (generated n)) (suc i) ≡ Some (generated_func i)
  funcs i lt = base_defined (generated n) (suc i) ∙ defined_there n i lt

  abbrev first_at : State
  first_at = enters_at (Base (generated n)) (run_plan n) task s (left_with answers) n [] (generated_func k)

  enter_goes : machine n start_at ≡ goes 1 [] first_at
  enter_goes = ap (enters (entry_of n) s (left_with answers)) (funcs k (omega arith))

  ask_goes : machine n (here answers 1 (waits_under k []) seven seven (plain (call 0) from_one)) ≡ goes 1 answer_notes (here [] 1 (waits_under k []) seven (V.I32 41 ∷ []) from_one)
  unfolding Base generated generated_stack
  ask_goes = refl

  end_goes : (ls : List Value) → machine n (here [] n [] ls (V.I32 (value_of_func k) ∷ []) done) ≡ goes 0 end_notes (halts s)
  end_goes ls =
      ap (λ (y : FuncType). by_step (Base (generated n)) (run_plan n) task (left_with []) (leave 0 s (V.I32 (value_of_func k) ∷ []) (length y.results) [])) (types n (omega arith))

  off : StaysOff (run_plan n).area (length s.memory) []
  off = nothing_off (run_plan n).area (length s.memory)

  -- The whole run, and what it costs.
  pub record Whole : Type 0 where
    pub cost : ℕ
    pub within : cost ≤ 11 * k + 8
    pub path : Path (machine n) (IsOff n) start_at cost whole_notes (halts s)

  pub whole_there : suc k ≤ 4000 → Whole
  unfolding value_of_func
  whole_there most =
      let under = waits_under k [] in
      let d = down (Base (generated n)) (run_plan n) task s n most types funcs (left_with answers) k [] (omega arith) (omega arith) in
      let u = up (Base (generated n)) (run_plan n) task s n most types funcs (left_with []) k [] (omega arith) in
      let a = enters_at (Base (generated n)) (run_plan n) task s (left_with answers) 1 under (generated_func zero) in
      let b = here [] 1 under seven (V.I32 (value_of_func zero) ∷ []) done in
      let c = here [] n [] u.0 (V.I32 (value_of_func k) ∷ []) done in
      let v = d.within in
      let w = u.1.within in
      let last : Path (machine n) (IsOff n) c 1 end_notes (halts s) = on_way off (end_goes u.0) at_end refl refl in
      let back : Path (machine n) (IsOff n) b (u.1.cost + 1) end_notes (halts s) = path_on (machine n) (IsOff n) b c (halts s) u.1.cost 1 [] end_notes u.1.path last in
      let ask : Path (machine n) (IsOff n) a (1 + (2 + (1 + (1 + (u.1.cost + 1))))) whole_notes (halts s) =
      on_way off refl (on_way off ask_goes (on_way off refl (on_way off refl back refl refl) refl refl) refl refl) refl refl in
      let all : Path (machine n) (IsOff n) first_at (d.cost + (1 + (2 + (1 + (1 + (u.1.cost + 1)))))) whole_notes (halts s) =
      path_on (machine n) (IsOff n) first_at a (halts s) d.cost (1 + (2 + (1 + (1 + (u.1.cost + 1))))) [] whole_notes d.path ask in
      record { cost = 2 + (d.cost + (1 + (2 + (1 + (1 + (u.1.cost + 1)))))); within = omega arith; path = on_way tt enter_goes all (omega arith) refl }

-- the store of a page of zeros
abbrev fresh : Store
fresh = record { globals = []; memory = replicate (1 * page_size) 0; table = [] }

pub begins_there : (k N : ℕ) → Blocking (generated (suc k)) (run_plan (suc k)) answers N ≡ after [] (run (machine (suc k)) N (start_at k fresh))
unfolding Base generated
begins_there k N = refl

-- ---- the run up to its cost

module _ (k : ℕ) (most : suc k ≤ 4000) where
  abbrev m : Module
  m = generated (suc k)

  abbrev plan : Plan
  plan = run_plan (suc k)

  abbrev w : Whole k fresh
  w = whole_there k fresh most

  abbrev c : ℕ
  c = w.cost

  abbrev notes : List Note
  notes = whole_notes k fresh

  notes_there : (Blocking m plan answers c).events ≡ notes
  notes_there =
      let leads = path_leads (machine (suc k)) (IsOff (suc k)) (start_at k fresh) (halts fresh) c notes w.path in
      let z : c ≡ c + 0 = omega arith in
      ap (λ (r : Ran State Note). r.events) (begins_there k c)
      ∙ ap (λ (j : ℕ). (run (machine (suc k)) j (start_at k fresh)).events) z
      ∙ ap (λ (r : Ran State Note). r.events) (leads_run State Note (machine (suc k)) (start_at k fresh) (halts fresh) c 0 notes leads)

  untouched : Untouched m plan answers c
  untouched = λ j lt.
      subst (λ (r : Ran State Note). IsOff (suc k) r.last) (sym (begins_there k j))
      (path_keeps (machine (suc k)) (IsOff (suc k)) (start_at k fresh) (halts fresh) c notes w.path tt refl j)

  compared : Compared m all_listed plan answers c
  compared = record {
    fits = plan_fits k;
    listed = sym (ap (λ (bs : List Bool). Some bs) (listed_one (suc k)));
    outcomes = All-cons OutcomeFits (given wakes) [] outcome_fits (All-nil OutcomeFits);
    untouched = untouched;
  }

  abbrev stack : List Suspended
  stack = generated_stack (suc k) k

  fine : All (Waits (suc k)) stack
  fine = stack_fine (suc k) k (omega arith)

  abbrev IsNumbered : Note → Type 0
  IsNumbered x = PauseNumbered m all_listed (which (suc k)) x.stack x.pause

  notes_numbered : All IsNumbered notes
  notes_numbered =
      let call_there : Note = call_note 0 seven fresh stack (Some 1) in
      let answer_there : Note = note (answered wakes.said) fresh in
      let return_there : Note = note (returned 0 (Some (V.I32 (value_of_func k)))) fresh in
      let end_there : Note = note (ended Done) fresh in
      let none_left : All IsNumbered [] = All-nil IsNumbered in
      let last : All IsNumbered (end_there ∷ []) = All-cons IsNumbered end_there [] tt none_left in
      let two : All IsNumbered (return_there ∷ end_there ∷ []) = All-cons IsNumbered return_there (end_there ∷ []) tt last in
      let three : All IsNumbered (answer_there ∷ return_there ∷ end_there ∷ []) = All-cons IsNumbered answer_there (return_there ∷ end_there ∷ []) tt two in
      All-cons IsNumbered call_there (answer_there ∷ return_there ∷ end_there ∷ [])
      (All-weaker (Waits (suc k)) (StandsNumbered m all_listed (which (suc k))) (λ a h. h.numbered) stack fine) three

  numbered : PausesNumbered m all_listed (which (suc k)) (Blocking m plan answers c).events
  numbered = subst (All IsNumbered) (sym notes_there) notes_numbered

  -- ---- what is expected

  room_is : Room m save_all stack ≡ 8 + 16 * suc k
  room_is = ap (λ z. 8 + z) (frames_sum (suc k) stack fine) ∙ ap (λ z. 8 + 16 * z) (stack_length (suc k) k)

  expected_is : events_of (expected_notes m all_listed plan answers c) ≡ pauses_once (8 + 16 * suc k) (value_of_func k)
  expected_is =
      let room = room_is in
      ap (λ (xs : List Note). events_of (Expected m save_all plan.area xs)) notes_there
      ∙ ap (λ (b : Bool). events_of (call_note 0 seven fresh stack (Some 1) ∷ (if b then trap_note (Fit m save_all stack 65536) 65536 fresh ∷ []
      else pause_note 1 (Room m save_all stack) fresh stack ∷ note (answered wakes.said) fresh ∷ end_notes k fresh))) (lt_false 65536 (Room m save_all stack) (omega arith))
      ∙ ap (λ used. pauses_once used (value_of_func k)) room_is

  bound_within : Bound m c (pause_stacks (Blocking m plan answers c).events) ≤ 100000000
  bound_within =
      let same : Bound m c (pause_stacks (Blocking m plan answers c).events) ≡ Bound m c (stack ∷ []) = ap (λ (xs : List Note). Bound m c (pause_stacks xs)) notes_there in
      let one = sum_by-cons (λ (st : List Suspended). 256 + sum_by (activation_bound m) st) stack [] in
      let sum = bounds_sum (suc k) stack fine in
      let len = stack_length (suc k) k in
      let within = w.within in
      omega (arith, same, one, sum, len, within)

-- ---- the rewritten module

prefix_events : (xs ys : List Note) → IsPrefix xs ys → IsPrefix (events_of xs) (events_of ys)
prefix_events xs ys h = (events_of h.0, ap events_of h.1 ∙ map-append (λ (x : Note). x.event) xs h.0)

prefix_joined : {X : Type 0} (xs ys zs : List X) → IsPrefix xs ys → IsPrefix ys zs → IsPrefix xs zs
prefix_joined xs ys zs h g = (h.0 ++ g.0, g.1 ∙ ap (λ us. us ++ g.0) h.1 ∙ append_assoc xs h.0 g.0)

grows : (p : Module) (plan : Plan) (os : List Outcome) (few many : ℕ) → few ≤ many → IsPrefix (Protocol p plan os few).events (Protocol p plan os many).events
grows p plan os few many le =
    let z : few + (many - few) ≡ many = omega arith in
    let same : few ≤ few = omega arith in
    subst (λ j. IsPrefix (Protocol p plan os few).events (Protocol p plan os j).events) z
    (prefix_on Held Note (protocol p (exports_of p) plan) (held_start_of p plan os).events _ _
    (prefix_of_longer Held Note (protocol p (exports_of p) plan) few few (many - few) (held_start_of p plan os).last same))

pauses_from : (k : ℕ) (p : Module) (steps : ℕ) → suc k ≤ 4000 → 100000000 ≤ steps → Rewrites (generated (suc k)) all_listed p
    → IsPrefix (pauses_once (8 + 16 * suc k) (value_of_func k)) (events_of (Protocol p (run_plan (suc k)) answers steps).events)
pauses_from k p steps most enough r =
    let m : Module = generated (suc k) in
    let plan : Plan = run_plan (suc k) in
    let c = (whole_there k fresh most).cost in
    let bound = Bound m c (pause_stacks (Blocking m plan answers c).events) in
    let b = r.behaves (well_formed (suc k) most) (which (suc k)) (tells_which (suc k)) plan answers c (compared k most) (numbered k most) in
    let within = bound_within k most in
    let reaches : IsPrefix (pauses_once (8 + 16 * suc k) (value_of_func k)) (events_of (Protocol p plan answers bound).events) =
    subst (λ es. IsPrefix es (events_of (Protocol p plan answers bound).events)) (expected_is k most) b.reaches in
    let le : bound ≤ steps = omega arith in
    let few : List Note = (Protocol p plan answers bound).events in
    let many : List Note = (Protocol p plan answers steps).events in
    prefix_joined (pauses_once (8 + 16 * suc k) (value_of_func k)) (events_of few) (events_of many) reaches (prefix_events few many (grows p plan answers bound steps le))

pub generated_pauses_once : GeneratedPausesOnce
generated_pauses_once zero p steps least most enough r = absurd (omega arith)
generated_pauses_once (suc k) p steps least most enough r =
    let z : suc k - 1 ≡ k = omega arith in
    subst (λ j. IsPrefix (pauses_once (8 + 16 * suc k) (value_of_func j)) (events_of (Protocol p (run_plan (suc k)) answers steps).events)) (sym z) (pauses_from k p steps most enough r)
