-- A module of which nothing may pause makes the same notes under the protocol, with the runtime's parts behind its own.
use Rattle.std.proofs.Common.{◌≡◌, ℕ, ◌+◌, ◌*◌, ◌<◌, ◌++◌, List, [], ◌∷◌, map, replicate, Option, Some, None, Bool, true, false, refl, sym, ap, ◌∙◌, subst, length, All}
use Rattle.std.specs.Prelude.{nat_lt, slice_get}
use Rattle.std.proofs.lemmas.List.{map-append}
use Rattle.std.proofs.lemmas.List.Elements.{All-head, All-tail}
use Rattle.std.specs.Option.{option_to_list}
use Rattle.wa_types.specs.declared.values.Value.{Value}
use Rattle.wa_types.specs.declared.values.Value.TheVariants as V
use Rattle.wa_types.specs.declared.syntax.Export.{Export}
use Rattle.wa_types.specs.Syntax.{FuncType, Func, GlobalDef, Module}
use Rattle.wa_types.specs.Base.{Base}
use Rattle.wa_types.specs.Memory.{page_size}
use Rattle.wa_types.specs.Modules.{imported, imported_global, all_memories, all_tables}
use Rattle.wa_types.specs.Pausing.{Settings, TellsMayPause}
use Rattle.wa_types.specs.Frames.{Suspended}
use Rattle.wa_types.specs.Runtime.{global_space, func_space, runtime_types, runtime_funcs, runtime_globals, runtime_exports, with_runtime}
use Rattle.wa_types.specs.Typing.{GlobalType}
use Rattle.wa_types.specs.Validity.{Valid}
use Rattle.wa_ops.specs.Operate.{are_of}
use Rattle.wa_model.specs.declared.events.End.TheVariants.{BytesOut, Done, ElementsOut, HostLimit, UnwindTrap}
use Rattle.wa_model.specs.Outside.{Event, ended}
use Rattle.wa_model.specs.Machine.{Ran, after, still, run}
use Rattle.wa_model.specs.Store.{Store}
use Rattle.wa_model.specs.Plan.{AreLawful, Entry, Plan, Outcome, OutcomeFits, EntryFits}
use Rattle.wa_model.specs.Instantiation.{all_values, least_of, Piece, elem_piece, byte_piece, first_out, Opening, fails_as, opens, bytes_checked, elems_checked, filled, opened_by, opening}
use Rattle.wa_model.specs.Blocking.{Note, note, Left, State, between, begins, runs, halts, done_notes, on_to, no_store, all_left, begun, continued, blocking, Blocking, store_of}
use Rattle.wa_model.specs.Protocol.{Held, over, exports_of, protocol, held_on, held_begun, held_continued, Protocol, store_held}
use Rattle.wa_model.specs.Behaves.{StandsNumbered, PauseNumbered, PausesNumbered, AtCalls, unless_pause}
use Rattle.run_theory.specs.Growth.{grown_module, spaces_of, Each, grown_store}
use Rattle.run_theory.specs.Quiet.{NeverPauses}
use Rattle.run_theory.proofs.Runs.{no_move}
use Rattle.run_theory.proofs.Follow.{Alike}
use Rattle.run_theory.proofs.GrownSteps.{ModuleNamed, front}
use Rattle.run_theory.proofs.NamedModules.{valid_named, InstanceNamed, valid_instance}
use Rattle.run_theory.proofs.GrownInstances.{each_append, each_split, more_values, OpeningStays, opening_stays}
use Rattle.run_theory.proofs.GrownRuns.{SuspendsNone, IsPlainNote, EntryThere, LeftNamed, StateNamed, grown_note, held_of, held_ran, end_plain, runs_together}

-- ---- notes that agree

-- The globals of the original and the memory are the same.
pub record StoreAgrees (count : ℕ) (s s' : Store) : Type 0 where
  pub globals : (x : ℕ) → x < count → slice_get s.globals x ≡ slice_get s'.globals x
  pub memory : s.memory ≡ s'.memory

-- A note of the original, which doesn't pause, and one under the protocol.
pub record NoteAgrees (count : ℕ) (x y : Note) : Type 0 where
  pub event : x.event ≡ y.event
  pub plain : unless_pause x.event ≡ Some x.event
  pub pause : x.pause ≡ None
  pub since : y.since ≡ None
  pub store : StoreAgrees count x.store y.store
  pub state : AtCalls y.event (slice_get y.store.globals count ≡ Some (V.I32 0))

abbrev pub AgreeOn : ℕ → Ran State Note → Ran Held Note → Type 0
AgreeOn count r r' = Alike (NoteAgrees count) r.events r'.events × StoreAgrees count (store_of r.last) (store_held r'.last)

grown_agrees : (more : List Value) (count : ℕ) (s : Store) → length s.globals ≡ count → StoreAgrees count s (grown_store more s)
grown_agrees more count s e = record { globals = λ x lt. sym (front s.globals more x (subst (λ k. x < k) (sym e) lt)); memory = refl }

-- what holds anyway holds at each call
pub at_calls : (e : Event) (T : Type 0) → T → AtCalls e T
at_calls (ended (ElementsOut n)) T t = tt
at_calls (ended (BytesOut n)) T t = tt
at_calls (ended (HostLimit entries found)) T t = tt
at_calls (ended (UnwindTrap trap used len)) T t = tt
at_calls _ T t = t

-- behind a list stands the first of what is appended
pub first_behind : (xs more : List Value) → slice_get (xs ++ more) (length xs) ≡ slice_get more 0
first_behind [] more = refl
first_behind (x ∷ xs) more = first_behind xs more

-- the first is the 0 of the state
abbrev BeginsQuiet : List Value → Type 0
BeginsQuiet more = slice_get more 0 ≡ Some (V.I32 0)

notes_agree : (more : List Value) (count : ℕ) (xs : List Note) → BeginsQuiet more → Each (IsPlainNote count) xs → Alike (NoteAgrees count) xs (map (grown_note more) xs)
notes_agree more count [] quiet h = tt
notes_agree more count (x ∷ xs) quiet h =
    let p = h.0 in
    let zs : List Value = x.store.globals ++ more in
    let now : slice_get zs count ≡ Some (V.I32 0) = subst (λ k. slice_get zs k ≡ Some (V.I32 0)) p.globals (first_behind x.store.globals more ∙ quiet) in (
      record {
        event = refl;
        plain = p.event;
        pause = p.pause;
        since = p.since;
        store = grown_agrees more count x.store p.globals;
        state = at_calls x.event (slice_get zs count ≡ Some (V.I32 0)) now;
      },
      notes_agree more count xs quiet h.1,
    )

state_agrees : (more : List Value) (m : Module) (s : State) → StateNamed m s → StoreAgrees (spaces_of m).globals (store_of s) (store_held (held_of more s))
state_agrees more m (between s l) h = grown_agrees more (spaces_of m).globals s (h.0).globals
state_agrees more m (begins x s l) h = grown_agrees more (spaces_of m).globals s (h.1).globals
state_agrees more m (runs task c l) h = grown_agrees more (spaces_of m).globals c.store ((h.0).store).globals
state_agrees more m (halts s) h = grown_agrees more (spaces_of m).globals s h.globals

-- ---- openings that fail

-- an opening fails by no end at which the module may be called
abbrev pub FailsOutside : Opening → Type 1
FailsOutside (fails_as e) = (T : Type 0) → AtCalls (ended e) T
FailsOutside (opens s) = Unit {1}

filled_fails : (globals : List Value) (memory : List ℕ) (table : List (Option ℕ)) (elems : List (Piece (Option ℕ))) (bytes : List (Piece ℕ))
    → FailsOutside (filled globals memory table elems bytes)
filled_fails globals memory table elems bytes = by_elems (first_out (length table) 0 elems)
  where
    by_bytes : (o : Option ℕ) → FailsOutside (bytes_checked globals memory table elems bytes o)
    by_bytes (Some i) = λ T. tt
    by_bytes None = tt

    by_elems : (o : Option ℕ) → FailsOutside (elems_checked globals memory table elems bytes o)
    by_elems (Some i) = λ T. tt
    by_elems None = by_bytes (first_out (length memory) 0 bytes)

opened_fails : (m : Module) (globals : List Value) (pages entries : ℕ) (a b : Bool) → FailsOutside (opened_by m globals pages entries a b)
opened_fails m globals pages entries true b = λ T. tt
opened_fails m globals pages entries false true = λ T. tt
opened_fails m globals pages entries false false =
    filled_fails globals (replicate (pages * page_size) 0) (replicate entries None) (map (elem_piece globals) m.elems) (map (byte_piece globals) m.segments)

pub opening_fails : (m : Module) (imports : List Value) → FailsOutside (opening m imports)
opening_fails m imports = opened_fails m (all_values imports m) (least_of (all_memories m)) (least_of (all_tables m)) (nat_lt 1024 (least_of (all_memories m))) (nat_lt 100000 (least_of (all_tables m)))

-- ---- whole runs

module _ (m : Module) (ts : List FuncType) (fs : List Func) (gs : List GlobalDef) (es : List Export) (ok : ModuleNamed m) (plan : Plan)
    (quiet : BeginsQuiet (more_values m ts fs gs es plan.globals)) where
  abbrev p : Module
  p = grown_module m ts fs gs es

  abbrev more : List Value
  more = more_values m ts fs gs es plan.globals

  abbrev count : ℕ
  count = (spaces_of m).globals

  from_start : (k : ℕ) (xs : List Note) (s : State) (r' : Ran Held Note) → r' ≡ after (map (grown_note more) xs) (run (protocol p (exports_of p) plan) k (held_of more s))
      → Each (IsPlainNote count) xs → StateNamed m s
      → Each SuspendsNone (xs ++ (run (blocking m plan) k s).events) → AgreeOn count (after xs (run (blocking m plan) k s)) r'
  from_start k xs s r' e h so idle =
      let r = run (blocking m plan) k s in
      let t = runs_together m ts fs gs es ok more plan (exports_of p) k k s so (each_split SuspendsNone xs r.events idle).1 in
      let whole : r' ≡ after (map (grown_note more) xs) (held_ran more r) = e ∙ ap (after (map (grown_note more) xs)) t.0 in
      subst (AgreeOn count (after xs r)) (sym (whole ∙ ap (λ ys. record { events = ys; last = held_of more r.last }) (sym (map-append (grown_note more) xs r.events))))
      (notes_agree more count (xs ++ r.events) quiet (each_append (IsPlainNote count) xs r.events h t.2), state_agrees more m r.last t.1)

  by_opening : (k : ℕ) (l : Left) (start : Option ℕ) (o o' : Opening) → OpeningStays more (spaces_of m) o o' → FailsOutside o → LeftNamed m l
      → Each (λ x. x < (spaces_of m).funcs) (option_to_list start)
      → Each SuspendsNone (continued m plan k (begun start l o)).events → AgreeOn count (continued m plan k (begun start l o)) (held_continued p plan k (held_begun start l o'))
  by_opening k l start (fails_as e) o' h out lo st idle =
      let x : Note = note (ended e) no_store in
      let ends : AgreeOn count (after (x ∷ []) (still (halts no_store))) (after (x ∷ []) (still (over no_store))) = (
        (record { event = refl; plain = end_plain e h.1; pause = refl; since = refl; store = record { globals = λ y lt. refl; memory = refl }; state = out (slice_get no_store.globals count ≡ Some (V.I32 0)) }, tt),
        record { globals = λ y lt. refl; memory = refl },
      ) in
      subst (λ y. AgreeOn count (continued m plan k (begun start l (fails_as e))) (held_continued p plan k (held_begun start l y))) (sym h.0)
      (subst (λ r. AgreeOn count (after (x ∷ []) r) (after (x ∷ []) (run (protocol p (exports_of p) plan) k (over no_store)))) (sym (no_move State Note (blocking m plan) k (halts no_store) refl))
      (subst (λ r'. AgreeOn count (after (x ∷ []) (still (halts no_store))) (after (x ∷ []) r')) (sym (no_move Held Note (protocol p (exports_of p) plan) k (over no_store) refl)) ends))
  by_opening k l None (opens s) o' h out lo st idle =
      subst (λ y. AgreeOn count (continued m plan k (begun None l (opens s))) (held_continued p plan k (held_begun None l y))) (sym h.0) (by_entries l.entries idle)
    where
      big : Store
      big = grown_store more s

      by_entries : (ens : List Entry) → Each SuspendsNone (done_notes s ens ++ (run (blocking m plan) k (on_to s l ens)).events)
          → AgreeOn count (after (done_notes s ens) (run (blocking m plan) k (on_to s l ens))) (after (done_notes big ens) (run (protocol p (exports_of p) plan) k (held_on big l ens)))
      by_entries [] idle' =
          let so = h.1 in
          from_start k (note (ended Done) s ∷ []) (halts s) _ refl (record { event = refl; pause = refl; since = refl; globals = so.globals }, tt) so idle'
      by_entries (e ∷ ens) idle' = from_start k [] (between s l) _ refl tt (h.1, lo) idle'
  by_opening k l (Some x) (opens s) o' h out lo st idle =
      subst (λ y. AgreeOn count (continued m plan k (begun (Some x) l (opens s))) (held_continued p plan k (held_begun (Some x) l y))) (sym h.0)
      (from_start k [] (begins x s l) _ refl tt (st.0, h.1, lo) idle)

each_of_all : {X : Type 0} (P : X → Type 0) (xs : List X) → All P xs → Each P xs
each_of_all P [] h = tt
each_of_all P (x ∷ xs) h = (All-head P x xs h, each_of_all P xs (All-tail P x xs h))

each_weaker : {X : Type 0} (P Q : X → Type 0) (xs : List X) → ((x : X) → P x → Q x) → Each P xs → Each Q xs
each_weaker P Q [] f h = tt
each_weaker P Q (x ∷ xs) f h = (f x h.0, each_weaker P Q xs f h.1)

-- ---- modules of which nothing may pause

base_named : (m : Module) → ModuleNamed m → ModuleNamed (Base m)
unfolding Base
base_named m h = record { sorts = h.sorts; bodies = h.bodies }

base_instance : (m : Module) → InstanceNamed m → InstanceNamed (Base m)
unfolding Base
base_instance m h = record { elem_offsets = h.elem_offsets; segment_offsets = h.segment_offsets; elem_funcs = h.elem_funcs; start = h.start }

pub is_grown : (m : Module) → with_runtime m ≡ grown_module (Base m) runtime_types (runtime_funcs (length m.types) (global_space m) (global_space m + 1)) runtime_globals
    (runtime_exports (func_space m))
unfolding Base with_runtime
is_grown m = refl

base_entry : (m : Module) (e : Entry) → EntryFits m e → EntryThere (Base m) e
unfolding Base
base_entry m e h = h.defined

base_globals : (m : Module) (values : List Value) → are_of (map (λ (g : GlobalType). g.ty) (imported imported_global m)) values ≡ true
    → are_of (map (λ (g : GlobalType). g.ty) (imported imported_global (Base m))) values ≡ true
unfolding Base
base_globals m values h = h

base_count : (m : Module) → (spaces_of (Base m)).globals ≡ global_space m
unfolding Base
base_count m = refl

module _ (m : Module) (s : Settings) (valid : Valid m) (never : NeverPauses m s) (which : List Bool) (tells : TellsMayPause m s which) (plan : Plan) (os : List Outcome) (n : ℕ)
    (globals : AreLawful (map (λ (g : GlobalType). g.ty) (imported imported_global m)) plan.globals) (lawful : All (EntryFits m) plan.entries) (outcomes : All OutcomeFits os)
    (pauses : PausesNumbered m s which (Blocking m plan os n).events) where
  abbrev q : Module
  q = with_runtime m

  suspends_none : (x : Note) → PauseNumbered m s which x.stack x.pause → SuspendsNone x
  suspends_none x h ticks e = by_stack x.stack (subst (PauseNumbered m s which x.stack) e h)
    where
      by_stack : (stack : List Suspended) → All (StandsNumbered m s which) stack → stack ≡ []
      by_stack [] g = refl
      by_stack (a ∷ stack) g =
          let stands = All-head (StandsNumbered m s which) a stack g in
          absurd (never a.func ((tells.each a.func).0 stands.instrumented))

  idle : Each SuspendsNone (Blocking m plan os n).events
  idle =
      let P : Note → Type 0 = λ (x : Note). PauseNumbered m s which x.stack x.pause in
      each_weaker P SuspendsNone (Blocking m plan os n).events suspends_none (each_of_all P (Blocking m plan os n).events pauses)

  pub agree : AgreeOn (global_space m) (Blocking m plan os n) (Protocol q plan os n)
  agree =
      let ts : List FuncType = runtime_types in
      let fs : List Func = runtime_funcs (length m.types) (global_space m) (global_space m + 1) in
      let gs : List GlobalDef = runtime_globals in
      let es : List Export = runtime_exports (func_space m) in
      let b : Module = Base m in
      let big : Module = grown_module b ts fs gs es in
      let named : InstanceNamed b = base_instance m (valid_instance m valid) in
      let entries : Each (EntryThere b) plan.entries = each_weaker (EntryFits m) (EntryThere b) plan.entries (base_entry m) (each_of_all (EntryFits m) plan.entries lawful) in
      let left : LeftNamed b (all_left plan os) = record { entries = entries; outcomes = each_of_all OutcomeFits os outcomes } in
      let opened = opening_stays b ts fs gs es plan.globals (base_globals m plan.globals globals.typed) named in
      let r : AgreeOn (spaces_of b).globals (Blocking m plan os n) (Protocol big plan os n) =
      by_opening b ts fs gs es (base_named m (valid_named m valid)) plan refl n (all_left plan os) b.start (opening b plan.globals) (opening big plan.globals) opened (opening_fails b plan.globals)
      left named.start idle in
      subst (λ x. AgreeOn (global_space m) (Blocking m plan os n) (Protocol x plan os n)) (sym (is_grown m))
      (subst (λ k. AgreeOn k (Blocking m plan os n) (Protocol big plan os n)) (base_count m) r)
