-- Wherever a run under the protocol comes, its store fits and its memory is no shorter; an end is told over the store where all is over.
use Rattle.std.proofs.Common.{◌≡◌, ℕ, suc, ◌+◌, ◌≤◌, Bool, true, false, cond, List, [], ◌∷◌, ◌++◌, length, Option, Some, None, refl, sym, ◌∙◌, subst, arith}
use Rattle.std.specs.Prelude.{nat_lt, nat_eq}
use Rattle.std.proofs.lemmas.Bool.{false≢true}
use Rattle.wa_types.specs.declared.values.ValType.{ValType}
use Rattle.wa_types.specs.declared.values.Value.{Value}
use Rattle.wa_types.specs.Syntax.{Func, Module}
use Rattle.wa_types.specs.Frames.{Suspended}
use Rattle.wa_types.specs.Validity.{Valid}
use Rattle.wa_types.specs.Modules.{defined_at, func_imports, func_type_at}
use Rattle.wa_model.specs.declared.answers.Said.{Said}
use Rattle.wa_model.specs.declared.answers.Said.TheVariants as SV
use Rattle.wa_model.specs.declared.events.End.{End}
use Rattle.wa_model.specs.Outside.{Answer, Poke}
use Rattle.wa_model.specs.Machine.{Turn, stops, goes, Leads, stays, moves}
use Rattle.wa_model.specs.Store.{Store}
use Rattle.wa_model.specs.Configuration.{Configuration}
use Rattle.wa_model.specs.Step.{Next, steps, asks, returns, traps, stuck, step}
use Rattle.wa_model.specs.Plan.{Entry, Plan, Outcome, given, refused}
use Rattle.wa_model.specs.Blocking.{Note, fault_of, pause_of, poked, done_notes, Task, the_start, an_entry, Left, with_outcomes, Asker, inside, outermost, store_at, in_start, stack_at, call_note, next_entry}
use Rattle.wa_model.specs.Protocol.{Exports, exports_of, Phase, is_running, unwinds, rewinds, Then, give_zero, test_unwound, pause_there, call_again, test_rewound, give_answer, Held, free, starting, busy, calling, aside, entering, over, store_held}
use Rattle.wa_model.specs.Protocol.{with_words, broken, held_on, held_back, held_given, held_pauses, held_resumed, held_tested, held_asked, busy_step, is_state, aside_back, aside_step, busy_enters, held_next, aside_called, held_start, protocol}
use Rattle.world_model.specs.World.{is_end}
use Rattle.run_theory.specs.Fitting.{StoreFits, NextFits}
use Rattle.run_theory.proofs.FittingSteps.{steps_fit}
use Rattle.run_laws.specs.FittingStates.{HeldFits, ExportsTyped}
use Rattle.run_laws.proofs.ProtocolStopping.{protocol_states_stay}
use Rattle.run_theory.proofs.Runs.{leads_stopped}
use Rattle.pause_host.proofs.Comings.{fits_meeting}
use Rattle.host_laws.specs.Stretch.{Stretch, is_over, meeting}
use Rattle.host_laws.proofs.Stretches.{store_meeting}
use Rattle.pause_host.proofs.Holding.{poked_longer, words_longer}
use Rattle.pause_host.proofs.MemoryGrows.{NextLong, step_long}

never : {A : Type 0} → false ≡ true → A
never e = absurd (false≢true e)

module _ (p : Module) (v : Valid p) (plan : Plan) (low : ℕ) where
  abbrev x : Exports
  x = exports_of p

  abbrev pub Good : Store → Type 0
  Good s = StoreFits p s × (low ≤ length s.memory)

  -- notes are told over such stores, and an end over the one where all is over
  abbrev pub NotesGood : List Note → Held → Type 0
  NotesGood [] t = Unit {0}
  NotesGood (y ∷ ys) t = Good y.store × (is_end y.event ≡ true → (is_over t ≡ true) × (store_held t ≡ y.store)) × NotesGood ys t

  abbrev TurnGood : Turn Held Note → Type 0
  TurnGood stops = Unit {0}
  TurnGood (goes k es t) = Good (store_held t) × NotesGood es t

  poked_good : (s : Store) (ps : List Poke) → Good s → Good (poked s ps)
  poked_good s ps g = let le = poked_longer s ps in let f = g.0 in let lo = g.1 in (record { globals = f.globals; table = f.table }, omega arith)

  words_good : (s : Store) → Good s → Good (with_words s plan.area)
  words_good s g = let le = words_longer s plan.area in let f = g.0 in let lo = g.1 in (record { globals = f.globals; table = f.table }, omega arith)

  on_store : (s : Store) (l : Left) (es : List Entry) → store_held (held_on s l es) ≡ s
  on_store s l [] = refl
  on_store s l (e ∷ es) = refl

  on_good : (s : Store) (l : Left) (es : List Entry) → Good s → Good (store_held (held_on s l es))
  on_good s l [] g = g
  on_good s l (e ∷ es) g = g

  done_good : (s : Store) (l : Left) (es : List Entry) → Good s → NotesGood (done_notes s es) (held_on s l es)
  done_good s l [] g = (g, (λ e. (refl, refl)), tt)
  done_good s l (y ∷ es) g = tt

  back_good : (k : ℕ) (task : Task) (results : List Value) (s : Store) (l : Left) → Good s → TurnGood (held_back k task results s l)
  back_good k the_start results s l g = (on_good s l l.entries g, done_good s l l.entries g)
  back_good k (an_entry e) results s l g = (on_good s (next_entry l) l.entries g, (g, (λ e. never e), done_good s (next_entry l) l.entries g))

  given_good : (k import : ℕ) (args : List Value) (old : Store) (stack : List Suspended) (pause : Option ℕ) (said : Said) (s : Store) (l : Left) (who : Asker) → Good old → Good s
      → TurnGood (held_given k (call_note import args old stack pause) said s l who)
  given_good k import args old stack pause (SV.Value value) s l (inside task c) o g = (g, (o, (λ e. never e), (g, (λ e. never e), tt)))
  given_good k import args old stack pause (SV.Value value) s l (outermost older) o g = (on_good s l l.entries g, (o, (λ e. never e), (g, (λ e. never e), done_good s l l.entries g)))
  given_good k import args old stack pause SV.Trap s l who o g = (g, (o, (λ e. never e), (g, (λ e. never e), (g, (λ e. (refl, refl)), tt))))

  pauses_good : (k import : ℕ) (args : List Value) (stack : List Suspended) (ticks : ℕ) (a : Answer) (l : Left) (who : Asker) → Good (store_at who)
      → TurnGood (held_pauses x plan k (call_note import args (store_at who) stack (Some ticks)) import a l who)
  pauses_good k import args stack ticks a l (inside (an_entry e) c) g = (words_good c.store g, (g, (λ e. never e), tt))
  pauses_good k import args stack ticks a l (inside the_start c) g = tt
  pauses_good k import args stack ticks a l (outermost s) g = tt

  tested_good : (k import : ℕ) (args : List Value) (who : Asker) (l : Left) (a : Answer) (o : Option End) (pause : Option ℕ) → Good (store_at who)
      → TurnGood (held_tested p x plan k import args who l a o pause)
  tested_good k import args who l a (Some e) pause g = (g, (g, (λ e. never e), (g, (λ e. (refl, refl)), tt)))
  tested_good k import args who l a None None g = given_good k import args (store_at who) (stack_at p who) None a.said (poked (store_at who) a.pokes) l who g (poked_good (store_at who) a.pokes g)
  tested_good k import args who l a None (Some ticks) g = pauses_good k import args (stack_at p who) ticks a l who g

  asked_good : (k import : ℕ) (args : List Value) (who : Asker) (l : Left) (os : List Outcome) → Good (store_at who) → TurnGood (held_asked p x plan k import args who l os)
  asked_good k import args who l [] g = (g, (g, (λ e. never e), tt))
  asked_good k import args who l (refused e ∷ os) g = (g, (g, (λ e. never e), (g, (λ e. (refl, refl)), tt)))
  asked_good k import args who l (given a ∷ os) g =
      tested_good k import args who (with_outcomes l os) a (fault_of (func_type_at p import).results (length (store_at who).memory) plan (in_start who) import a) (pause_of a.ticks) g

  broken_good : (k rule : ℕ) (s : Store) → Good s → TurnGood (broken k rule s)
  broken_good k rule s g = (g, (g, (λ e. (refl, refl)), tt))

  busy_good : (ph : Phase) (l : Left) (outs : List ValType) (o : Next) → NextFits p outs o → NextLong low o → TurnGood (busy_step p x plan ph l o)
  busy_good ph l outs (steps k d) n le = ((n.store, le), tt)
  busy_good (is_running task) l outs (asks k import args d) n le = asked_good k import args (inside task d) l l.outcomes (n.2.store, le)
  busy_good (unwinds e i a) l outs (asks k import args d) n le = broken_good k 1 d.store (n.2.store, le)
  busy_good (rewinds e i a sp) l outs (asks k import args d) n le = by_import (nat_eq import i)
    where
      by_import : (b : Bool) → TurnGood (cond b (goes k [] (calling (rewinds e i a sp) d.store x.get_state [] (test_rewound d) l)) (broken k 3 d.store))
      by_import true = ((n.2.store, le), tt)
      by_import false = broken_good k 3 d.store (n.2.store, le)
  busy_good (is_running task) l outs (returns k results s) n le = back_good k task results s l (n.0, le)
  busy_good (unwinds e i a) l outs (returns k results s) n le = ((n.0, le), tt)
  busy_good (rewinds e i a sp) l outs (returns k results s) n le = broken_good k 5 s (n.0, le)
  busy_good ph l outs (traps k trap s) n le = ((n, le), ((n, le), (λ e. (refl, refl)), tt))
  busy_good ph l outs stuck n le = tt

  resumed_good : (k : ℕ) (e : Entry) (said : Said) (sp : Store) (c : Configuration) (l : Left) (s : Store) → Good s → TurnGood (held_resumed k e said sp c l s)
  resumed_good k e (SV.Value v) sp c l s g = (g, (g, (λ e. never e), tt))
  resumed_good k e SV.Trap sp c l s g = (g, (g, (λ e. never e), (g, (λ e. (refl, refl)), tt)))

  aside_back_good : (k : ℕ) (ph : Phase) (th : Then) (l : Left) (results : List Value) (s : Store) → Good s → TurnGood (aside_back p x plan k ph th l results s)
  aside_back_good k (unwinds e i a) (give_zero c) l results s g = (g, tt)
  aside_back_good k (unwinds e i a) test_unwound l results s g = by_state (is_state 1 results)
    where
      by_state : (b : Bool) → TurnGood (cond b (goes k [] (calling (unwinds e i a) s x.stop_unwind [] pause_there l)) (broken k 2 s))
      by_state true = (g, tt)
      by_state false = broken_good k 2 s g
  aside_back_good k (unwinds e i a) pause_there l results s g = (g, (g, (λ e. never e), tt))
  aside_back_good k (rewinds e i a sp) call_again l results s g = (g, tt)
  aside_back_good k (rewinds e i a sp) (test_rewound c) l results s g = by_state (is_state 2 results)
    where
      by_state : (b : Bool) → TurnGood (cond b (goes k [] (calling (rewinds e i a sp) s x.stop_rewind [] (give_answer c) l)) (broken k 4 s))
      by_state true = (g, tt)
      by_state false = broken_good k 4 s g
  aside_back_good k (rewinds e i a sp) (give_answer c) l results s g = resumed_good k e a.said sp c l (poked s a.pokes) (poked_good s a.pokes g)
  aside_back_good k _ _ l results s g = tt

  aside_good : (ph : Phase) (th : Then) (l : Left) (outs : List ValType) (o : Next) → NextFits p outs o → NextLong low o → TurnGood (aside_step p x plan ph th l o)
  aside_good ph th l outs (steps k d) n le = ((n.store, le), tt)
  aside_good ph th l outs (asks k import args d) n le = broken_good k 6 d.store (n.2.store, le)
  aside_good ph th l outs (returns k results s) n le = aside_back_good k ph th l results s (n.0, le)
  aside_good ph th l outs (traps k trap s) n le = ((n, le), ((n, le), (λ e. (refl, refl)), tt))
  aside_good ph th l outs stuck n le = tt

  enters_good : (ph : Phase) (e : Entry) (s : Store) (l : Left) (o : Option Func) → Good s → TurnGood (busy_enters ph e s l o)
  enters_good ph e s l None g = tt
  enters_good ph e s l (Some f) g = (g, tt)

  next_good : (s : Store) (l : Left) (es : List Entry) → Good s → TurnGood (held_next p s l es)
  next_good s l [] g = tt
  next_good s l (e ∷ es) g = enters_good (is_running (an_entry e)) e s (record { number = l.number; entries = es; outcomes = l.outcomes }) (defined_at p e.func) g

  called_good : (ph : Phase) (s : Store) (f : ℕ) (args : List Value) (th : Then) (l : Left) (o : Option Func) → Good s → TurnGood (aside_called ph s f args th l o)
  called_good ph s f args th l None g = tt
  called_good ph s f args th l (Some h) g = (g, tt)

  start_good : (f : ℕ) (s : Store) (l : Left) (o : Option Func) → Good s → TurnGood (held_start p x plan f s l o)
  start_good f s l (Some h) g = (g, tt)
  start_good f s l None g = by_import (nat_lt f (func_imports p))
    where
      by_import : (b : Bool) → TurnGood (cond b (held_asked p x plan 0 f [] (outermost s) l l.outcomes) stops)
      by_import true = asked_good 0 f [] (outermost s) l l.outcomes g
      by_import false = tt

  -- one move of the machine
  turn_good : (h : Held) → HeldFits p h → low ≤ length (store_held h).memory → TurnGood (protocol p x plan h)
  turn_good (free s l) h le = next_good s l l.entries (h.0, le)
  turn_good (starting f s l) h le = start_good f s l (defined_at p f) (h.0, le)
  turn_good (busy ph c l) h le = busy_good ph l h.0 (step p c) (steps_fit p h.0 c v h.1) (step_long low p c le)
  turn_good (calling ph s f args th l) h le = called_good ph s f args th l (defined_at p f) (h.0, le)
  turn_good (aside ph c th l) h le = aside_good ph th l h.0 (step p c) (steps_fit p h.0 c v h.1) (step_long low p c le)
  turn_good (entering ph e s l) h le = enters_good ph e s l (defined_at p e.func) (h.0, le)
  turn_good (over s) h le = tt

  -- ---- along moves

  over_stays : (h t : Held) (n : ℕ) (es : List Note) → is_over h ≡ true → Leads (protocol p x plan) h n es t → h ≡ t
  over_stays (over s) t n es e l = (leads_stopped Held Note (protocol p x plan) (over s) t n es refl l).1
  over_stays (free s l0) t n es e l = never e
  over_stays (starting f s l0) t n es e l = never e
  over_stays (busy ph c l0) t n es e l = never e
  over_stays (calling ph s f args th l0) t n es e l = never e
  over_stays (aside ph c th l0) t n es e l = never e
  over_stays (entering ph y s l0) t n es e l = never e

  good_on : (es : List Note) (t u : Held) (n : ℕ) (fs : List Note) → Leads (protocol p x plan) t n fs u → NotesGood es t → NotesGood es u
  good_on [] t u n fs l g = tt
  good_on (y ∷ ys) t u n fs l g = (g.0, (λ e. let there = g.1 e in let same = over_stays t u n fs there.0 l in subst (λ z. (is_over z ≡ true) × (store_held z ≡ y.store)) same there), good_on ys t u n fs l g.2)

  good_both : (es fs : List Note) (t : Held) → NotesGood es t → NotesGood fs t → NotesGood (es ++ fs) t
  good_both [] fs t g h = h
  good_both (y ∷ ys) fs t g h = (g.0, g.1, good_both ys fs t g.2 h)

  leads_good : (ex : ExportsTyped p) (h t : Held) (n : ℕ) (es : List Note) → HeldFits p h → low ≤ length (store_held h).memory → Leads (protocol p x plan) h n es t
      → (low ≤ length (store_held t).memory) × NotesGood es t
  leads_good ex h t n es f le stays = (le, tt)
  leads_good ex h u n gs f le (moves {t = t} {k = k} {n = m} {es = es} {fs = fs} e rest em eg) =
      let turn : TurnGood (goes k es t) = subst TurnGood e (turn_good h f le) in
      let fits : HeldFits p t = protocol_states_stay p plan h t (suc k + 0) (es ++ []) v ex f (moves e stays refl refl) in
      let tail = leads_good ex t u m fs fits turn.0.1 rest in
      (tail.0, subst (λ z. NotesGood z u) (sym eg) (good_both es fs u (good_on es t u m fs rest turn.1) tail.1))

  over_meeting : (os : List Outcome) (h : Held) → is_over (meeting os h) ≡ is_over h
  over_meeting os (free s l) = refl
  over_meeting os (starting f s l) = refl
  over_meeting os (busy ph c l) = refl
  over_meeting os (calling ph s f args th l) = refl
  over_meeting os (aside ph c th l) = refl
  over_meeting os (entering ph e s l) = refl
  over_meeting os (over s) = refl

  meeting_good : (os : List Outcome) (es : List Note) (h : Held) → NotesGood es (meeting os h) → NotesGood es h
  meeting_good os [] h g = tt
  meeting_good os (y ∷ ys) h g = (g.0, (λ e. let there = g.1 e in (sym (over_meeting os h) ∙ there.0, sym (store_meeting os h) ∙ there.1)), meeting_good os ys h g.2)

  -- Along a stretch the memory gets no shorter, and what is told is told over stores that fit.
  pub stretch_good : (ex : ExportsTyped p) (h t : Held) (os : List Outcome) (n : ℕ) (es : List Note) → HeldFits p h → low ≤ length (store_held h).memory → Stretch p plan h os es n t
      → (low ≤ length (store_held t).memory) × NotesGood es t
  stretch_good ex h t os n es f le stretch =
      let start : low ≤ length (store_held (meeting (os ++ []) h)).memory = subst (λ (z : Store). low ≤ length z.memory) (sym (store_meeting (os ++ []) h)) le in
      let all = leads_good ex (meeting (os ++ []) h) (meeting [] t) n es (fits_meeting p (os ++ []) h f) start (stretch []) in
      (subst (λ (z : Store). low ≤ length z.memory) (store_meeting [] t) all.0, meeting_good [] es t all.1)

  -- What was made before stays so.
  pub ready_good : (h t : Held) (os : List Outcome) (n : ℕ) (ready es : List Note) → Stretch p plan h os es n t → NotesGood ready h → NotesGood ready t
  ready_good h t os n ready es stretch g =
      meeting_good [] ready t (good_on ready (meeting (os ++ []) h) (meeting [] t) n es (stretch []) (good_meeting (os ++ []) ready h g))
    where
      good_meeting : (os' : List Outcome) (ys : List Note) (h' : Held) → NotesGood ys h' → NotesGood ys (meeting os' h')
      good_meeting os' [] h' k = tt
      good_meeting os' (y ∷ ys) h' k = (k.0, (λ e. let there = k.1 e in (over_meeting os' h' ∙ there.0, store_meeting os' h' ∙ there.1)), good_meeting os' ys h' k.2)
