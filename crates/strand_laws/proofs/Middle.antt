-- Blocking runs over stores that differ in one area, of which they touch no byte: the moves are the same, and so are the bytes there.
use Rattle.run_theory.proofs.TestedPokes.{first_fits, fits_inside, fits_off, pokes_pass}
use Rattle.std.proofs.Common.{◌≡◌, ℕ, ◌+◌, ◌≤◌, List, [], ◌∷◌, ◌++◌, length, Option, Some, None, Bool, true, false, refl, sym, ap, ◌∙◌, subst, inl, inr, ⊎_elim, arith}
use Rattle.std.specs.Option.{option_to_list}
use Rattle.std.specs.Prelude.{if◌then◌else◌, nat_lt, map}
use Rattle.wa_types.specs.declared.values.Value.{Value}
use Rattle.wa_types.specs.Memory.{overwritten}
use Rattle.wa_types.specs.Modules.{defined_at, func_imports, func_type_at}
use Rattle.wa_types.specs.Syntax.{Func, Module}
use Rattle.wa_types.specs.declared.values.Trap.TheVariants.{Import}
use Rattle.wa_model.specs.declared.answers.Area.{Area}
use Rattle.wa_model.specs.declared.answers.Said.{Said}
use Rattle.wa_model.specs.declared.answers.Said.TheVariants as S
use Rattle.wa_model.specs.declared.events.End.{End}
use Rattle.wa_model.specs.declared.events.End.TheVariants.{Trapped}
use Rattle.wa_model.specs.Outside.{Answer, Poke, answered, ended}
use Rattle.wa_model.specs.Blocking.{Asker, Left, Note, State, Task, an_entry, asked, bad_poke, begins, between, blocking, by_step, call_note, done_notes, ends_at_call, enter_next, enters, fault_of, go_on, halts, import_traps}
use Rattle.wa_model.specs.Blocking.{in_start, inside, next_entry, note, on_to, outermost, overlap, pause_of, poked, resumed, runs, stack_at, start_called, store_at, store_of, task_back, tested, the_start, with_outcomes}
use Rattle.wa_model.specs.Configuration.{Configuration, suspended}
use Rattle.wa_model.specs.Machine.{Turn, goes, stops}
use Rattle.wa_model.specs.Plan.{Entry, Outcome, Plan, given, refused}
use Rattle.wa_model.specs.Step.{Next, asks, returns, step, steps, stuck, traps}
use Rattle.wa_model.specs.Store.{Store, with_memory}
use Rattle.wa_model.specs.Untouched.{IsCalm, StaysOff, next_ranges, ranges_in}
use Rattle.guard_runs.proofs.Stores.{Wrote, long, neither, wrote}
use Rattle.strand_laws.proofs.Apart.{Apart, ApartAt, Gap, NextApart, off, reduces_apart, written_too}

-- what belongs to notes, states, turns over such stores
pub record NoteApart (p : Gap) (x x' : Note) : Type 0 where
  pub event : x'.event ≡ x.event
  pub stack : x'.stack ≡ x.stack
  pub pause : x'.pause ≡ x.pause
  pub store : Apart p x.store x'.store

abbrev pub NotesApart : Gap → List Note → List Note → Type 0
NotesApart p [] [] = Unit {0}
NotesApart p (x ∷ xs) (x' ∷ xs') = NoteApart p x x' × NotesApart p xs xs'
NotesApart p [] (x' ∷ xs') = ⊥
NotesApart p (x ∷ xs) [] = ⊥

pub data StateApart (p : Gap) : State → State → Type 0 where
  s_between : {s s' : Store} {l : Left} → Apart p s s' → StateApart p (between s l) (between s' l)
  s_begins : {s s' : Store} {l : Left} {x : ℕ} → Apart p s s' → StateApart p (begins x s l) (begins x s' l)
  s_runs : {c c' : Configuration} {l : Left} {task : Task} → ApartAt p c c' → StateApart p (runs task c l) (runs task c' l)
  s_halts : {s s' : Store} → Apart p s s' → StateApart p (halts s) (halts s')

pub data TurnApart (p : Gap) : Turn State Note → Turn State Note → Type 0 where
  both_stop : TurnApart p stops stops
  both_go : {k : ℕ} {es es' : List Note} {t t' : State} → NotesApart p es es' → StateApart p t t' → TurnApart p (goes k es t) (goes k es' t')

-- the pokes of answers that pass a plan's tests keep off the area
abbrev pub Guards : Plan → Area → Type 0
Guards plan area = (size : ℕ) (qs : List Poke) → bad_poke size (plan.area ∷ plan.others) qs ≡ None → bad_poke size (area ∷ []) qs ≡ None

module _ (p : Gap) where
  pub size_apart : (s s' : Store) → Apart p s s' → length s'.memory ≡ length s.memory
  size_apart s s' h = ap length h.memory' ∙ long h.low p.held p.held' h.high (h.held_size' ∙ sym h.held_size) ∙ sym (ap length h.memory)

  note_apart : (e : Rattle.wa_model.specs.Outside.Event) (s s' : Store) → Apart p s s' → NoteApart p (note e s) (note e s')
  note_apart e s s' h = record { event = refl; stack = refl; pause = refl; store = h }

  done_apart : (s s' : Store) (es : List Entry) → Apart p s s' → NotesApart p (done_notes s es) (done_notes s' es)
  done_apart s s' [] h = (note_apart _ s s' h, tt)
  done_apart s s' (e ∷ es) h = tt

  on_apart : (s s' : Store) (l : Left) (es : List Entry) → Apart p s s' → StateApart p (on_to s l es) (on_to s' l es)
  on_apart s s' l [] h = s_halts h
  on_apart s s' l (e ∷ es) h = s_between h

  at_store : (s s' : Store) (here : Rattle.wa_model.specs.Configuration.Activation) (under : List Rattle.wa_model.specs.Configuration.Activation) → Apart p s s'
      → ApartAt p (record { store = s; here = here; under = under }) (record { store = s'; here = here; under = under })
  at_store s s' here under h = record { store = h; here = refl; under = refl }

  -- ---- pokes

  abbrev pub EveryOff : List Poke → Type 0
  EveryOff [] = Unit {0}
  EveryOff (q ∷ qs) = (overlap q.at (length q.bytes) p.area.at p.area.len ≡ false) × EveryOff qs

  put_apart : (s s' : Store) (at : ℕ) (bytes : List ℕ) → at + length bytes ≤ length s.memory → overlap at (length bytes) p.area.at p.area.len ≡ false → Apart p s s'
      → Apart p (with_memory s (overwritten s.memory at bytes)) (with_memory s' (overwritten s'.memory at bytes))
  put_apart s s' at bytes le off_ h =
      let lm : length s.memory ≡ length (h.low ++ (p.held ++ h.high)) = ap length h.memory in
      let e1 = h.low_size in
      let e2 = h.held_size in
      by_wrote _ _
      (subst (λ y. Wrote h.low p.held p.held' h.high same (Some (overwritten y at bytes)) (Some (overwritten s'.memory at bytes))) (sym h.memory)
      (subst (λ y. Wrote h.low p.held p.held' h.high same (Some (overwritten (h.low ++ (p.held ++ h.high)) at bytes)) (Some (overwritten y at bytes))) (sym h.memory')
      (written_too h.low p.held p.held' h.high same at bytes (omega arith)
      (λ some. ⊎_elim (λ z. inl (e2 ∙ z)) (λ y. inr (⊎_elim (λ q. inl (omega arith)) (λ q. inr (omega arith)) y)) (off at (length bytes) p.area.at p.area.len some off_)))))
    where
      same : length p.held' ≡ length p.held
      same = h.held_size' ∙ sym h.held_size

      some_is : {X : Type 0} (x y : X) → Some x ≡ Some y → x ≡ y
      some_is x y q = cc

      by_wrote : (m m' : List ℕ) → Wrote h.low p.held p.held' h.high same (Some m) (Some m') → Apart p (with_memory s m) (with_memory s' m')
      by_wrote m m' w = go (Some m) (Some m') w m m' refl refl
        where
          go : (o o' : Option (List ℕ)) → Wrote h.low p.held p.held' h.high same o o' → (m m' : List ℕ) → o ≡ Some m → o' ≡ Some m' → Apart p (with_memory s m) (with_memory s' m')
          go _ _ neither m m' e e' = cc
          go _ _ (wrote low2 high2 e0) m m' e e' = record {
            low = low2;
            high = high2;
            low_size = e0 ∙ h.low_size;
            held_size = h.held_size;
            held_size' = h.held_size';
            memory = sym (some_is _ m e);
            memory' = sym (some_is _ m' e');
            globals = h.globals;
            table = h.table;
          }

  pub pokes_apart : (s s' : Store) (areas : List Area) (qs : List Poke) → bad_poke (length s.memory) areas qs ≡ None → EveryOff qs → Apart p s s'
      → Apart p (poked s qs) (poked s' qs)
  pokes_apart s s' areas [] e offs h = h
  pokes_apart s s' areas (q ∷ qs) e offs h =
      let b = first_fits (length s.memory) areas q qs e in
      let le = fits_inside (length s.memory) areas q b.0 in
      let n : length (overwritten s.memory q.at q.bytes) ≡ length s.memory = Rattle.wa_types.proofs.MemoryLemmas.length-overwritten s.memory q.at q.bytes le in
      pokes_apart (with_memory s (overwritten s.memory q.at q.bytes)) (with_memory s' (overwritten s'.memory q.at q.bytes)) areas qs (subst (λ z. bad_poke z areas qs ≡ None) (sym n) b.1) offs.1
      (put_apart s s' q.at q.bytes le offs.0 h)

  -- ---- answers and calls

  pub data AskerApart : Asker → Asker → Type 0 where
    a_inside : {task : Task} {d d' : Configuration} → ApartAt p d d' → AskerApart (inside task d) (inside task d')
    a_outermost : {s s' : Store} → Apart p s s' → AskerApart (outermost s) (outermost s')

  asker_store : (v v' : Asker) → AskerApart v v' → Apart p (store_at v) (store_at v')
  asker_store _ _ (a_inside h) = h.store
  asker_store _ _ (a_outermost h) = h

  asker_stack : (m : Module) (v v' : Asker) → AskerApart v v' → stack_at m v' ≡ stack_at m v
  asker_stack m _ _ (a_inside {d = d} {d' = d'} h) =
      ap (λ (z : Rattle.wa_model.specs.Configuration.Activation). map (suspended m) (z ∷ d'.under)) h.here ∙ ap
      (λ (z : List Rattle.wa_model.specs.Configuration.Activation). map (suspended m) (d.here ∷ z)) h.under
  asker_stack m _ _ (a_outermost h) = refl

  asker_start : (v v' : Asker) → AskerApart v v' → in_start v' ≡ in_start v
  asker_start _ _ (a_inside h) = refl
  asker_start _ _ (a_outermost h) = refl

  call_apart : (m : Module) (i : ℕ) (args : List Value) (v v' : Asker) (o : Option ℕ) → AskerApart v v'
      → NoteApart p (call_note i args (store_at v) (stack_at m v) o) (call_note i args (store_at v') (stack_at m v') o)
  call_apart m i args v v' o h = record { event = refl; stack = asker_stack m v v' h; pause = refl; store = asker_store v v' h }

  resumed_apart : (d d' : Configuration) (s s' : Store) (vs : List Value) → ApartAt p d d' → Apart p s s' → ApartAt p (resumed d s vs) (resumed d' s' vs)
  resumed_apart d d' s s' vs h g = record {
    store = g;
    here = ap (λ (z : Rattle.wa_model.specs.Configuration.Activation). record { func = z.func; locals = z.locals; operands = vs ++ z.operands; taken = []; code = z.code; labels = z.labels }) h.here;
    under = h.under;
  }

  ends_apart : (m : Module) (k i : ℕ) (args : List Value) (v v' : Asker) (e : End) → AskerApart v v'
      → TurnApart p (ends_at_call k (call_note i args (store_at v) (stack_at m v) None) e) (ends_at_call k (call_note i args (store_at v') (stack_at m v') None) e)
  ends_apart m k i args v v' e h = both_go (call_apart m i args v v' None h, (note_apart _ _ _ (asker_store v v' h), tt)) (s_halts (asker_store v v' h))

  -- an import that traps is told, and ends the run
  trap_apart : (k : ℕ) (x x' : Note) (s s' : Store) → NoteApart p x x' → Apart p s s' → TurnApart p (goes k (x ∷ import_traps s) (halts s)) (goes k (x' ∷ import_traps s') (halts s'))
  trap_apart k x x' s s' n g = both_go (n, (note_apart (answered S.Trap) s s' g, (note_apart (ended (Trapped Import)) s s' g, tt))) (s_halts g)

  gives_apart : (m : Module) (k i : ℕ) (args : List Value) (v v' : Asker) (l : Left) (said : Said) (s s' : Store) (o : Option ℕ) → AskerApart v v' → Apart p s s'
      → TurnApart p (go_on k (call_note i args (store_at v) (stack_at m v) o) said s l v) (go_on k (call_note i args (store_at v') (stack_at m v') o) said s' l v')
  gives_apart m k i args _ _ l (S.Value x) s s' o (a_inside {task = task} {d = d} {d' = d'} h) g =
      both_go (call_apart m i args (inside task d) (inside task d') o (a_inside h), (note_apart _ s s' g, tt)) (s_runs (resumed_apart d d' s s' (option_to_list x) h g))
  gives_apart m k i args _ _ l (S.Value x) s s' o (a_outermost {s = u} {s' = u'} h) g =
      both_go (call_apart m i args (outermost u) (outermost u') o (a_outermost h), (note_apart _ s s' g, done_apart s s' l.entries g)) (on_apart s s' l l.entries g)
  gives_apart m k i args v v' l S.Trap s s' o h g =
      trap_apart k (call_note i args (store_at v) (stack_at m v) o) (call_note i args (store_at v') (stack_at m v') o) s s' (call_apart m i args v v' o h) g

  -- pokes that pass the test of the area
  pub answer_off : (size : ℕ) (qs : List Poke) → bad_poke size (p.area ∷ []) qs ≡ None → EveryOff qs
  answer_off size [] e = tt
  answer_off size (q ∷ qs) e = let b = first_fits size (p.area ∷ []) q qs e in (fits_off size p.area [] q b.0, answer_off size qs b.1)

  asked_apart : (m : Module) (plan : Plan) (k i : ℕ) (args : List Value) (v v' : Asker) (l : Left) (os : List Outcome) → Guards plan p.area → AskerApart v v'
      → TurnApart p (asked m plan k i args v l os) (asked m plan k i args v' l os)
  asked_apart m plan k i args v v' l [] off_ h = both_go (call_apart m i args v v' None h, tt) (s_halts (asker_store v v' h))
  asked_apart m plan k i args v v' l (refused e ∷ os) off_ h = ends_apart m k i args v v' e h
  asked_apart m plan k i args v v' l (given a ∷ os) off_ h =
      subst (λ z. TurnApart p (asked m plan k i args v l (given a ∷ os)) (tested m k i args v' (with_outcomes l os) a z)) (sym same)
      (by_fault (fault_of (func_type_at m i).results (length (store_at v).memory) plan (in_start v) i a) refl)
    where
      same : fault_of (func_type_at m i).results (length (store_at v').memory) plan (in_start v') i a ≡ fault_of (func_type_at m i).results (length (store_at v).memory) plan (in_start v) i a
      same =
          ap (λ z. fault_of (func_type_at m i).results z plan (in_start v') i a) (size_apart (store_at v) (store_at v') (asker_store v v' h))
          ∙ ap (λ z. fault_of (func_type_at m i).results (length (store_at v).memory) plan z i a) (asker_start v v' h)

      passed : fault_of (func_type_at m i).results (length (store_at v).memory) plan (in_start v) i a ≡ None → bad_poke (length (store_at v).memory) (p.area ∷ []) a.pokes ≡ None
      passed ef = off_ (length (store_at v).memory) a.pokes (pokes_pass (func_type_at m i).results (length (store_at v).memory) plan (in_start v) i a ef)

      by_fault : (o : Option End) → fault_of (func_type_at m i).results (length (store_at v).memory) plan (in_start v) i a ≡ o
          → TurnApart p (tested m k i args v (with_outcomes l os) a o) (tested m k i args v' (with_outcomes l os) a o)
      by_fault (Some e) ef = ends_apart m k i args v v' e h
      by_fault None ef =
          gives_apart m k i args v v' (with_outcomes l os) a.said (poked (store_at v) a.pokes) (poked (store_at v') a.pokes) (pause_of a.ticks) h
          (pokes_apart (store_at v) (store_at v') (p.area ∷ []) a.pokes (passed ef) (answer_off (length (store_at v).memory) a.pokes (passed ef)) (asker_store v v' h))

  back_apart : (k : ℕ) (task : Task) (vs : List Value) (s s' : Store) (l : Left) → Apart p s s' → TurnApart p (task_back k task vs s l) (task_back k task vs s' l)
  back_apart k the_start vs s s' l h = both_go (done_apart s s' l.entries h) (on_apart s s' l l.entries h)
  back_apart k (an_entry e) vs s s' l h = both_go (note_apart _ s s' h, done_apart s s' l.entries h) (on_apart s s' (next_entry l) l.entries h)

  by_step_apart : (m : Module) (plan : Plan) (task : Task) (l : Left) (o o' : Next) → Guards plan p.area → NextApart p o o' → TurnApart p (by_step m plan task l o) (by_step m plan task l o')
  by_step_apart m plan task l (steps k d) (steps k' d') off_ h = subst (λ z. TurnApart p (goes k [] (runs task d l)) (goes z [] (runs task d' l))) (sym h.0) (both_go tt (s_runs h.1))
  by_step_apart m plan task l (asks k i args d) (asks k' i' args' d') off_ h =
      subst (λ z. TurnApart p (asked m plan k i args (inside task d) l l.outcomes) (asked m plan z i' args' (inside task d') l l.outcomes)) (sym h.0)
      (subst (λ z. TurnApart p (asked m plan k i args (inside task d) l l.outcomes) (asked m plan k z args' (inside task d') l l.outcomes)) (sym h.1)
      (subst (λ z. TurnApart p (asked m plan k i args (inside task d) l l.outcomes) (asked m plan k i z (inside task d') l l.outcomes)) (sym h.2)
      (asked_apart m plan k i args (inside task d) (inside task d') l l.outcomes off_ (a_inside h.3))))
  by_step_apart m plan task l (returns k vs s) (returns k' vs' s') off_ h =
      subst (λ z. TurnApart p (task_back k task vs s l) (task_back z task vs' s' l)) (sym h.0)
      (subst (λ z. TurnApart p (task_back k task vs s l) (task_back k task z s' l)) (sym h.1) (back_apart k task vs s s' l h.2))
  by_step_apart m plan task l (traps k t s) (traps k' t' s') off_ h =
      subst (λ z. TurnApart p (goes k (note (ended (Trapped t)) s ∷ []) (halts s)) (goes z (note (ended (Trapped t')) s' ∷ []) (halts s'))) (sym h.0)
      (subst (λ z. TurnApart p (goes k (note (ended (Trapped t)) s ∷ []) (halts s)) (goes k (note (ended (Trapped z)) s' ∷ []) (halts s'))) (sym h.1)
      (both_go (note_apart _ s s' h.2, tt) (s_halts h.2)))
  by_step_apart m plan task l stuck stuck off_ h = both_stop
  by_step_apart m plan task l (steps k d) (asks k' i' args' d') off_ h = absurd h
  by_step_apart m plan task l (steps k d) (returns k' vs' s') off_ h = absurd h
  by_step_apart m plan task l (steps k d) (traps k' t' s') off_ h = absurd h
  by_step_apart m plan task l (steps k d) stuck off_ h = absurd h
  by_step_apart m plan task l (asks k i args d) (steps k' d') off_ h = absurd h
  by_step_apart m plan task l (asks k i args d) (returns k' vs' s') off_ h = absurd h
  by_step_apart m plan task l (asks k i args d) (traps k' t' s') off_ h = absurd h
  by_step_apart m plan task l (asks k i args d) stuck off_ h = absurd h
  by_step_apart m plan task l (returns k vs s) (steps k' d') off_ h = absurd h
  by_step_apart m plan task l (returns k vs s) (asks k' i' args' d') off_ h = absurd h
  by_step_apart m plan task l (returns k vs s) (traps k' t' s') off_ h = absurd h
  by_step_apart m plan task l (returns k vs s) stuck off_ h = absurd h
  by_step_apart m plan task l (traps k t s) (steps k' d') off_ h = absurd h
  by_step_apart m plan task l (traps k t s) (asks k' i' args' d') off_ h = absurd h
  by_step_apart m plan task l (traps k t s) (returns k' vs' s') off_ h = absurd h
  by_step_apart m plan task l (traps k t s) stuck off_ h = absurd h
  by_step_apart m plan task l stuck (steps k' d') off_ h = absurd h
  by_step_apart m plan task l stuck (asks k' i' args' d') off_ h = absurd h
  by_step_apart m plan task l stuck (returns k' vs' s') off_ h = absurd h
  by_step_apart m plan task l stuck (traps k' t' s') off_ h = absurd h

  -- A MOVE THAT STAYS OFF THE AREA is the same whatever bytes are there, and leaves them in both.
  pub blocks_apart : (m : Module) (plan : Plan) (a a' : State) → StateApart p a a' → IsCalm p.area a → Guards plan p.area → TurnApart p (blocking m plan a) (blocking m plan a')
  blocks_apart m plan _ _ (s_between {s = s} {s' = s'} {l = l} h) calm off_ = by_entries l.entries
    where
      by_func : (e : Entry) (l2 : Left) (f : Option Func) → TurnApart p (enters e s l2 f) (enters e s' l2 f)
      by_func e l2 None = both_stop
      by_func e l2 (Some f) = both_go tt (s_runs (at_store s s' _ _ h))

      by_entries : (es : List Entry) → TurnApart p (enter_next m s l es) (enter_next m s' l es)
      by_entries [] = both_stop
      by_entries (e ∷ es) = by_func e (record { number = l.number; entries = es; outcomes = l.outcomes }) (defined_at m e.func)
  blocks_apart m plan _ _ (s_begins {s = s} {s' = s'} {l = l} {x = x} h) calm off_ = by_func (defined_at m x)
    where
      by_import : (t : Bool) → TurnApart p (if t then asked m plan 0 x [] (outermost s) l l.outcomes else stops) (if t then asked m plan 0 x [] (outermost s') l l.outcomes else stops)
      by_import true = asked_apart m plan 0 x [] (outermost s) (outermost s') l l.outcomes off_ (a_outermost h)
      by_import false = both_stop

      by_func : (f : Option Func) → TurnApart p (start_called m plan x s l f) (start_called m plan x s' l f)
      by_func None = by_import (nat_lt x (func_imports m))
      by_func (Some f) = both_go tt (s_runs (at_store s s' _ _ h))
  blocks_apart m plan _ _ (s_runs {c = c} {c' = c'} {l = l} {task = task} h) calm off_ = by_step_apart m plan task l (step m c) (step m c') off_ (reduces_apart m p c c' h calm)
  blocks_apart m plan _ _ (s_halts h) calm off_ = both_stop

  pub state_store : (a a' : State) → StateApart p a a' → Apart p (store_of a) (store_of a')
  state_store _ _ (s_between h) = h
  state_store _ _ (s_begins h) = h
  state_store _ _ (s_runs h) = h.store
  state_store _ _ (s_halts h) = h

-- ---- several areas

-- one area behind another
abbrev pub Middle : List Gap → State → State → Type 0
Middle [] a a' = a ≡ a'
Middle (p ∷ ps) a a' = (u : State) × StateApart p a u × Middle ps u a'

abbrev pub MiddleNotes : List Gap → List Note → List Note → Type 0
MiddleNotes [] es es' = es ≡ es'
MiddleNotes (p ∷ ps) es es' = (us : List Note) × NotesApart p es us × MiddleNotes ps us es'

-- each area is kept off, now and by the answers of a plan
abbrev pub AllOff : Plan → List Gap → State → Type 0
AllOff plan [] a = Unit {0}
AllOff plan (p ∷ ps) a = (IsCalm p.area a × Guards plan p.area) × AllOff plan ps a

pub calm_apart : (area : Area) (p : Gap) (a a' : State) → StateApart p a a' → IsCalm area a → IsCalm area a'
calm_apart area p _ _ (s_between h) g = tt
calm_apart area p _ _ (s_begins h) g = tt
calm_apart area p _ _ (s_runs {c = c} {c' = c'} h) g =
    subst (λ z. StaysOff area z (next_ranges c')) (sym (size_apart p c.store c'.store h.store))
    (subst (λ (z : Rattle.wa_model.specs.Configuration.Activation). StaysOff area (length c.store.memory) (ranges_in z.operands z.code)) (sym h.here) g)
calm_apart area p _ _ (s_halts h) g = tt

pub all_apart : (plan : Plan) (p : Gap) (qs : List Gap) (a a' : State) → StateApart p a a' → AllOff plan qs a → AllOff plan qs a'
all_apart plan p [] a a' h g = tt
all_apart plan p (q ∷ qs) a a' h g = ((calm_apart q.area p a a' h g.0.0, g.0.1), all_apart plan p qs a a' h g.1)

-- the same move, of that cost
pub record MovesSame (ps : List Gap) (m : Module) (plan : Plan) (k : ℕ) (es : List Note) (t a' : State) : Type 0 where
  pub events : List Note
  pub to : State
  pub goes_too : blocking m plan a' ≡ goes k events to
  pub notes : MiddleNotes ps es events
  pub on : Middle ps t to

pub apart_goes : (p : Gap) (o o' : Turn State Note) (k : ℕ) (es : List Note) (t : State) → TurnApart p o o' → o ≡ goes k es t
    → (us : List Note) × (u : State) × (o' ≡ goes k us u) × NotesApart p es us × StateApart p t u
apart_goes p _ _ k es t both_stop e = cc
apart_goes p _ _ k es t (both_go {k = k1} {es = es1} {es' = us} {t = t1} {t' = u} ns st) e =
    let e1 : es1 ≡ es = cc in
    let e2 : t1 ≡ t = cc in
    let e3 : k1 ≡ k = cc in
    (us, u, ap (λ z. goes z us u) e3, subst (λ z. NotesApart p z us) e1 ns, subst (λ z. StateApart p z u) e2 st)

apart_stops : (p : Gap) (o o' : Turn State Note) → TurnApart p o o' → o ≡ stops → o' ≡ stops
apart_stops p _ _ both_stop e = refl
apart_stops p _ _ (both_go ns st) e = cc

-- A MOVE OVER ANY BYTES OF THESE AREAS
pub moves_same : (ps : List Gap) (m : Module) (plan : Plan) (a a' t : State) (k : ℕ) (es : List Note) → Middle ps a a' → AllOff plan ps a
    → blocking m plan a ≡ goes k es t → MovesSame ps m plan k es t a'
moves_same [] m plan a a' t k es h off_ e = record { events = es; to = t; goes_too = ap (blocking m plan) (sym h) ∙ e; notes = refl; on = refl }
moves_same (p ∷ ps) m plan a a' t k es h off_ e =
    let g = apart_goes p (blocking m plan a) (blocking m plan h.0) k es t (blocks_apart p m plan a h.0 h.1 off_.0.0 off_.0.1) e in
    let r = moves_same ps m plan h.0 a' g.1 k g.0 h.2 (all_apart plan p ps a h.0 h.1 off_.1) g.2 in
    record { events = r.events; to = r.to; goes_too = r.goes_too; notes = (g.0, g.3, r.notes); on = (g.1, g.4, r.on) }

pub stops_same : (ps : List Gap) (m : Module) (plan : Plan) (a a' : State) → Middle ps a a' → AllOff plan ps a → blocking m plan a ≡ stops → blocking m plan a' ≡ stops
stops_same [] m plan a a' h off_ e = ap (blocking m plan) (sym h) ∙ e
stops_same (p ∷ ps) m plan a a' h off_ e =
    stops_same ps m plan h.0 a' h.2 (all_apart plan p ps a h.0 h.1 off_.1) (apart_stops p (blocking m plan a) (blocking m plan h.0) (blocks_apart p m plan a h.0 h.1 off_.0.0 off_.0.1) e)
