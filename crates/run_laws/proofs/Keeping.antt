-- Reductions that leave the original's store alone, and what runs show along them.
use Rattle.std.proofs.Common.{◌≡◌, ℕ, zero, suc, ◌+◌, ◌-◌, ◌<◌, ◌≤◌, List, [], ◌∷◌, ◌++◌, Option, Some, None, Result, Ok, Err, Bool, true, false, refl, sym, ap, ◌∙◌, subst, length, take, replicate}
use Rattle.std.proofs.Common.{drop, reverse, arith, ⊎_elim}
use Rattle.std.specs.Prelude.{◌%◌, ◌&&◌, nat_lt, nat_le, if◌then◌else◌, slice_get, slice_set, unwrap_or}
use Rattle.std.proofs.lemmas.List.{length-replicate}
use Rattle.std.proofs.lemmas.Bool.{cases_lt, and_parts}
use Rattle.wa_types.specs.declared.values.Value.{Value}
use Rattle.wa_types.specs.declared.values.Value.TheVariants as V
use Rattle.wa_types.specs.declared.values.Trap.{Trap}
use Rattle.wa_types.specs.declared.values.Trap.TheVariants.{StackExhausted, TypeMismatch}
use Rattle.wa_types.specs.Accesses.{AccessRow, load_row, store_row}
use Rattle.wa_types.specs.Encoding.{same_type}
use Rattle.wa_types.specs.Memory.{bytes_of, bytes_at, overwritten, number_at, with_piece, with_number as number_put, copied, filled_with}
use Rattle.wa_types.specs.Typing.{type_of}
use Rattle.wa_types.specs.Syntax.{Basic, nop, drop as a_drop, select, const, num, global_get, global_set, load, store, memory_size, memory_grow, memory_copy, memory_fill, basic, local_get, local_set, local_tee, br}
use Rattle.wa_types.specs.Syntax.{br_if, br_table, return, unreachable, call, call_indirect, a_block, a_loop, Code, done, plain, nest, branch, Func, Module}
use Rattle.wa_types.specs.Modules.{func_imports, func_type_at, type_at, defined_at}
use Rattle.wa_types.proofs.MemoryLemmas.{length-bytes_of, length-bytes_at, length-overwritten, bytes_at-overwritten_below, bytes_at-overwritten_behind}
use Rattle.wa_model.specs.Operate.{operate, number_of}
use Rattle.wa_model.specs.declared.answers.Area.{Area}
use Rattle.wa_model.specs.Machine.{Turn, goes, Ran, after, run, Leads, stays, moves}
use Rattle.wa_model.specs.Store.{choose, Store, Did, works, fails, lacks, takes, extra_cost, act, computed, load_at, loaded, store_at, stored, width_of, range_of}
use Rattle.wa_model.specs.Configuration.{Label, block_label, loop_label, Activation, Configuration, running, waiting}
use Rattle.wa_model.specs.Step.{Next, steps, asks, returns, traps, stuck, result_count, leave, jump, finish, did, with_top, with_number, arity_of, entered, invoke, param_count}
use Rattle.wa_model.specs.Step.{same_func_type, through, memory_max, step_at, step}
use Rattle.wa_model.specs.Plan.{Plan}
use Rattle.wa_model.specs.Blocking.{Note, Left, State, runs, by_step, blocking, store_of}
use Rattle.run_theory.specs.Keeping.{in_area, keeps_basic, keeps_code, keeps}
use Rattle.run_laws.specs.Stretches.{KeptWhileBusy, KeptAside, KeptBlocking}
use Rattle.wa_model.specs.Protocol.{Exports, Phase, is_running, unwinds, rewinds, busy, aside, busy_step, aside_step, Held, protocol, store_held}
use Rattle.run_theory.specs.Alone.{alone_next, alone}
use Rattle.wa_model.specs.Expected.{SameEnd}
use Rattle.run_theory.proofs.Runs.{one_move, too_dear}

-- ---- lists

abbrev head : List ℕ → Option ℕ
head [] = None
head (x ∷ xs) = Some x

got_of : (xs : List ℕ) (x : ℕ) → slice_get xs x ≡ head (bytes_at xs x 1)
got_of [] zero = refl
got_of [] (suc x) = refl
got_of (y ∷ ys) zero = refl
got_of (y ∷ ys) (suc x) = got_of ys x

set_other : (xs : List Value) (i j : ℕ) (v : Value) → j < i → slice_get xs j ≡ slice_get (slice_set xs i v) j
set_other [] i j v h = refl
set_other (x ∷ xs) zero j v h = absurd (omega arith)
set_other (x ∷ xs) (suc i) zero v h = refl
set_other (x ∷ xs) (suc i) (suc j) v h = set_other xs i j v (omega arith)

le_of : (a b : ℕ) → nat_le a b ≡ true → a ≤ b
le_of a b h = grind arith

-- ---- same ends

pub same_refl : (g : ℕ) (area : Area) (s : Store) → SameEnd g area s s
same_refl g area s = record { globals_same = λ x h. refl; size = refl; below = λ x h. refl; above = λ x h. refl }

pub same_on : (g : ℕ) (area : Area) (s t u : Store) → SameEnd g area s t → SameEnd g area t u → SameEnd g area s u
same_on g area s t u a b = record {
  globals_same = λ x h. a.globals_same x h ∙ b.globals_same x h;
  size = a.size ∙ b.size;
  below = λ x h. a.below x h ∙ b.below x h;
  above = λ x h. a.above x h ∙ b.above x h;
}

module _ (g : ℕ) (area : Area) where
  abbrev DidKeeps : Store → Did → Type 0
  DidKeeps s (works s' results) = SameEnd g area s s'
  DidKeeps s _ = Unit {0}

  abbrev pub NextKeeps : Store → Next → Type 0
  NextKeeps s (steps k d) = SameEnd g area s d.store
  NextKeeps s (asks k i args d) = SameEnd g area s d.store
  NextKeeps s (returns k vs t) = SameEnd g area s t
  NextKeeps s (traps k trap t) = SameEnd g area s t
  NextKeeps s stuck = Unit {0}

  computed_keeps : (s : Store) (o : Option (Result Value Trap)) → DidKeeps s (computed s o)
  computed_keeps s None = tt
  computed_keeps s (Some (Ok v)) = same_refl g area s
  computed_keeps s (Some (Err t)) = tt

  loaded_keeps : (s : Store) (row : AccessRow) (o : Option ℕ) → DidKeeps s (loaded s row o)
  loaded_keeps s row None = tt
  loaded_keeps s row (Some v) = same_refl g area s

  load_keeps : (s : Store) (place : ℕ) (o : Option AccessRow) → DidKeeps s (load_at s place o)
  load_keeps s place None = tt
  load_keeps s place (Some row) = loaded_keeps s row (number_at s.memory place (width_of row))

  piece_keeps : (s : Store) (place : ℕ) (piece : List ℕ) → area.at ≤ place → place + length piece ≤ area.at + area.len → DidKeeps s (stored s (with_piece s.memory place piece))
  piece_keeps s place piece lo hi = by_room (nat_le (place + length piece) (length s.memory)) refl
    where
      by_room : (b : Bool) → nat_le (place + length piece) (length s.memory) ≡ b → DidKeeps s (stored s (if b then Some (overwritten s.memory place piece) else None))
      by_room true e =
          let fits = le_of (place + length piece) (length s.memory) e in
          record {
            globals_same = λ x h. refl;
            size = sym (length-overwritten s.memory place piece fits);
            below =
                λ x h. got_of s.memory x
                ∙ ap head (sym (bytes_at-overwritten_below s.memory place piece x 1 (omega arith) fits))
                ∙ sym (got_of (overwritten s.memory place piece) x);
            above =
                λ x h. got_of s.memory x
                ∙ ap head (sym (bytes_at-overwritten_behind s.memory place piece x 1 (omega arith) fits))
                ∙ sym (got_of (overwritten s.memory place piece) x);
          }
      by_room false e = tt

  put_keeps : (s : Store) (place w n : ℕ) → area.at ≤ place → place + w ≤ area.at + area.len → DidKeeps s (stored s (number_put s.memory place w n))
  put_keeps s place w n lo hi = let len = length-bytes_of w n in piece_keeps s place (bytes_of w n) lo (omega (arith, len, hi))

  copy_keeps : (s : Store) (to from n : ℕ) → nat_le area.at to && nat_le (to + n) (area.at + area.len) ≡ true → DidKeeps s (stored s (copied s.memory to from n))
  copy_keeps s to from n h = by_source (nat_le (from + n) (length s.memory)) refl
    where
      by_source : (b : Bool) → nat_le (from + n) (length s.memory) ≡ b → DidKeeps s (stored s (if b then with_piece s.memory to (bytes_at s.memory from n) else None))
      by_source true e =
          let len = length-bytes_at s.memory from n (le_of (from + n) (length s.memory) e) in
          let q = and_parts (nat_le area.at to) (nat_le (to + n) (area.at + area.len)) h in
          let hi = le_of (to + n) (area.at + area.len) q.1 in
          piece_keeps s to (bytes_at s.memory from n) (le_of area.at to q.0) (omega (arith, len, hi))
      by_source false e = tt

  fill_keeps : (s : Store) (at byte n : ℕ) → nat_le area.at at && nat_le (at + n) (area.at + area.len) ≡ true → DidKeeps s (stored s (filled_with s.memory at byte n))
  fill_keeps s at byte n h =
      let len = length-replicate n byte in
      let q = and_parts (nat_le area.at at) (nat_le (at + n) (area.at + area.len)) h in
      let hi = le_of (at + n) (area.at + area.len) q.1 in
      piece_keeps s at (replicate n byte) (le_of area.at at q.0) (omega (arith, len, hi))

  store_keeps : (s : Store) (place : ℕ) (v : Value) (o : Option AccessRow) → in_area area (range_of place o) ≡ true → DidKeeps s (store_at s place v o)
  store_keeps s place v None h = tt
  store_keeps s place v (Some row) h = by_type (same_type row.ty (type_of v))
    where
      by_type : (b : Bool) → DidKeeps s (if b then stored s (number_put s.memory place (width_of row) (number_of v)) else lacks)
      by_type true =
          let q = and_parts (nat_le area.at place) (nat_le (place + width_of row) (area.at + area.len)) h in
          put_keeps s place (width_of row) (number_of v) (le_of area.at place q.0) (le_of (place + width_of row) (area.at + area.len) q.1)
      by_type false = tt

  act_keeps : (most : Option ℕ) (b : Basic) (s : Store) (ops : List Value) → keeps_basic g area b ops ≡ true → DidKeeps s (act most b s ops)
  act_keeps most nop s [] h = same_refl g area s
  act_keeps most a_drop s (v ∷ []) h = same_refl g area s
  act_keeps most select s (V.I32 k ∷ upper ∷ lower ∷ []) h = same_refl g area s
  act_keeps most (const v) s [] h = same_refl g area s
  act_keeps most (num op) s ops h = computed_keeps s (operate op ops)
  act_keeps most (global_get x) s [] h = same_refl g area s
  act_keeps most (global_set x) s (v ∷ []) h =
      let le = le_of g x h in
      record { globals_same = λ y lt. set_other s.globals x y v (omega arith); size = refl; below = λ y lt. refl; above = λ y le. refl }
  act_keeps most (load op align offset) s (V.I32 a ∷ []) h = load_keeps s (a + offset) (load_row op)
  act_keeps most (store op align offset) s (v ∷ V.I32 a ∷ []) h = store_keeps s (a + offset) v (store_row op) h
  act_keeps most memory_size s [] h = same_refl g area s
  act_keeps most memory_grow s (V.I32 k ∷ []) h = cc
  act_keeps most memory_copy s (V.I32 n ∷ V.I32 from ∷ V.I32 to ∷ []) h = copy_keeps s to from n h
  act_keeps most memory_fill s (V.I32 n ∷ V.I32 v ∷ V.I32 at ∷ []) h = fill_keeps s at (v % 256) n h
  act_keeps most _ s _ h = tt

  leaves_keep : (k : ℕ) (s : Store) (ops : List Value) (arity : ℕ) (under : List Activation) → NextKeeps s (leave k s ops arity under)
  leaves_keep k s ops arity [] = same_refl g area s
  leaves_keep k s ops arity (a ∷ under) = same_refl g area s

  did_keeps : (k fn : ℕ) (under : List Activation) (ls : List Value) (labels : List Label) (rest : Code) (ops : List Value) (s : Store) (d : Did)
      → DidKeeps s d → NextKeeps s (did k fn under ls labels rest s ops d)
  did_keeps k fn under ls labels rest ops s (works s' results) h = h
  did_keeps k fn under ls labels rest ops s (fails trap) h = same_refl g area s
  did_keeps k fn under ls labels rest ops s lacks h = tt

  top_keeps : (s : Store) (ops : List Value) (on : Value → List Value → Next) → ((v : Value) (below : List Value) → NextKeeps s (on v below)) → NextKeeps s (with_top ops on)
  top_keeps s [] on h = tt
  top_keeps s (v ∷ ops) on h = h v ops

  number_keeps : (s : Store) (ops : List Value) (on : ℕ → List Value → Next) → ((v : ℕ) (below : List Value) → NextKeeps s (on v below)) → NextKeeps s (with_number ops on)
  number_keeps s [] on h = tt
  number_keeps s (V.I32 v ∷ ops) on h = h v ops
  number_keeps s (V.I64 v ∷ ops) on h = tt

  choice_keeps : (s : Store) (v : ℕ) (x y : Next) → NextKeeps s x → NextKeeps s y → NextKeeps s (choose v x y)
  choice_keeps s zero x y a b = b
  choice_keeps s (suc v) x y a b = a

  module _ (p : Module) (s : Store) (fn : ℕ) (under : List Activation) where
    jumps_keep : (k : ℕ) (ls ops : List Value) (labels : List Label) (l : ℕ) → NextKeeps s (jump k p s fn under ls ops labels l)
    jumps_keep k ls ops [] l = leaves_keep k s ops (result_count p fn) under
    jumps_keep k ls ops (block_label h arity rest skipped ∷ labels) zero = same_refl g area s
    jumps_keep k ls ops (loop_label h body rest ∷ labels) zero = same_refl g area s
    jumps_keep k ls ops (block_label h arity rest skipped ∷ labels) (suc l) = jumps_keep k ls ops labels l
    jumps_keep k ls ops (loop_label h body rest ∷ labels) (suc l) = jumps_keep k ls ops labels l

    finishes_keep : (ls ops : List Value) (labels : List Label) → NextKeeps s (finish p s fn under ls ops labels)
    finishes_keep ls ops [] = leaves_keep 0 s ops (result_count p fn) under
    finishes_keep ls ops (block_label h arity rest skipped ∷ labels) = same_refl g area s
    finishes_keep ls ops (loop_label h body rest ∷ labels) = same_refl g area s

    invokes_keep : (ls own ops : List Value) (rest : Code) (labels : List Label) (params x : ℕ) (o : Option Func) → NextKeeps s (invoke p s fn under ls own ops rest labels params x o)
    invokes_keep ls own ops rest labels params x (Some f) = by_room (nat_lt (length under + 1) 4096)
      where
        to : Configuration
        to = entered s (waiting fn ls (drop params ops) (own ++ take params ops) rest labels ∷ under) (reverse (take params ops)) x f

        by_room : (b : Bool) → NextKeeps s (if b then steps params to else traps params StackExhausted s)
        by_room true = same_refl g area s
        by_room false = same_refl g area s
    invokes_keep ls own ops rest labels params x None = by_import (nat_lt x (func_imports p))
      where
        waits : Configuration
        waits = record { store = s; here = waiting fn ls (drop params ops) (own ++ take params ops) rest labels; under = under }

        by_import : (b : Bool) → NextKeeps s (if b then asks params x (reverse (take params ops)) waits else stuck)
        by_import true = same_refl g area s
        by_import false = tt

    through_keeps : (ls own ops : List Value) (rest : Code) (labels : List Label) (sort : ℕ) (o : Option (Option ℕ)) → NextKeeps s (through p s fn under ls own ops rest labels sort o)
    through_keeps ls own ops rest labels sort None = same_refl g area s
    through_keeps ls own ops rest labels sort (Some None) = same_refl g area s
    through_keeps ls own ops rest labels sort (Some (Some x)) = by_type (same_func_type (func_type_at p x) (type_at p sort))
      where
        by_type : (b : Bool) → NextKeeps s
            (if b then invoke p s fn under ls own ops rest labels (param_count (type_at p sort)) x (defined_at p x) else traps (param_count (type_at p sort)) TypeMismatch s)
        by_type true = invokes_keep ls own ops rest labels (param_count (type_at p sort)) x (defined_at p x)
        by_type false = same_refl g area s

    pub step_keeps : (ls ops : List Value) (labels : List Label) (code : Code) → keeps_code g area ops code ≡ true → NextKeeps s (step_at p s fn under ls ops labels code)
    step_keeps ls ops labels done h = finishes_keep ls ops labels
    step_keeps ls ops labels (plain (basic b) rest) h =
        did_keeps (extra_cost b (take (takes b) ops)) fn under ls labels rest (drop (takes b) ops) s (act (memory_max p) b s (take (takes b) ops)) (act_keeps (memory_max p) b s (take (takes b) ops) h)
    step_keeps ls ops labels (plain (local_get x) rest) h = same_refl g area s
    step_keeps ls ops labels (plain (local_set x) rest) h = top_keeps s ops _ (λ v below. same_refl g area s)
    step_keeps ls ops labels (plain (local_tee x) rest) h = top_keeps s ops _ (λ v below. same_refl g area s)
    step_keeps ls ops labels (plain (br l) rest) h = jumps_keep 0 ls ops labels l
    step_keeps ls ops labels (plain (br_if l) rest) h =
        number_keeps s ops _ (λ v below. choice_keeps s v (jump 0 p s fn under ls below labels l) (steps 0 (running s fn under ls below rest labels))
        (jumps_keep 0 ls below labels l) (same_refl g area s))
    step_keeps ls ops labels (plain (br_table targets last) rest) h =
        number_keeps s ops _ (λ v below. jumps_keep (length targets + 1) ls below labels (unwrap_or (slice_get targets v) last))
    step_keeps ls ops labels (plain return rest) h = leaves_keep 0 s ops (result_count p fn) under
    step_keeps ls ops labels (plain unreachable rest) h = same_refl g area s
    step_keeps ls ops labels (plain (call x) rest) h = invokes_keep ls [] ops rest labels (param_count (func_type_at p x)) x (defined_at p x)
    step_keeps ls ops labels (plain (call_indirect sort) rest) h =
        number_keeps s ops _ (λ v below. through_keeps ls (V.I32 v ∷ []) below rest labels sort (slice_get s.table v))
    step_keeps ls ops labels (nest a_block r body rest) h = same_refl g area s
    step_keeps ls ops labels (nest a_loop r body rest) h = same_refl g area s
    step_keeps ls ops labels (branch r a b rest) h = number_keeps s ops _ (λ v below. by_arm v below)
      where
        by_arm : (v : ℕ) (below : List Value)
            → SameEnd g area s (choose v (running s fn under ls below a (block_label (length below) (arity_of r) rest b ∷ labels))
            (running s fn under ls below b (block_label (length below) (arity_of r) rest done ∷ labels))).store
        by_arm zero below = same_refl g area s
        by_arm (suc v) below = same_refl g area s

  -- one move of the checked machine
  checked : (p : Module) (c : Configuration) (b : Bool) (o : Next) (k : ℕ) (es : List Note) (d : Configuration) → alone_next b o ≡ goes k es d
      → (b ≡ true → NextKeeps c.store o) → (o ≡ steps k d) × SameEnd g area c.store d.store
  checked p c true (steps j e) k es d q h =
      let k' : j ≡ k = cc in
      let d' : e ≡ d = cc in
      (cc, subst (λ (x : Configuration). SameEnd g area c.store x.store) d' (h refl))
  checked p c true (asks j import args e) k es d q h = cc
  checked p c true (returns j values s) k es d q h = cc
  checked p c true (traps j trap s) k es d q h = cc
  checked p c true stuck k es d q h = cc
  checked p c false o k es d q h = cc

  -- Reductions by which a machine goes on and that show their store: at each cost within them it has made nothing, and shows
  -- the first store but for the area.
  module _ (p : Module) (S : Type 0) (next : S → Turn S Note) (hold : Configuration → S) (seen : S → Store)
      (on_by : (c d : Configuration) (k : ℕ) → step p c ≡ steps k d → next (hold c) ≡ goes k [] (hold d)) (shows : (c : Configuration) → seen (hold c) ≡ c.store) where
    abbrev Kept : Configuration → ℕ → Type 0
    Kept c j = ((run next j (hold c)).events ≡ []) × SameEnd g area c.store (seen (run next j (hold c)).last)

    at_once : (c : Configuration) → SameEnd g area c.store (seen (hold c))
    at_once c = subst (SameEnd g area c.store) (sym (shows c)) (same_refl g area c.store)

    pub kept_inside : (c d : Configuration) (n : ℕ) (es : List Note) → Leads (alone (keeps g area) p) c n es d → (j : ℕ) → j ≤ n → Kept c j
    kept_inside c d _ _ stays j le =
        let z : j ≡ 0 = omega arith in
        subst (Kept c) (sym z) (refl, at_once c)
    kept_inside c d n _ (moves {t = t} {k = k} {n = n1} {es = es1} e rest em eg) j le =
        let q = checked p c (keeps g area c) (step p c) k es1 t e (λ b. step_keeps p c.store c.here.func c.under c.here.locals c.here.operands c.here.labels c.here.code b) in
        let mv : next (hold c) ≡ goes k [] (hold t) = on_by c t k q.0 in
        ⊎_elim
        (λ few.
        let z = too_dear S Note next k j [] (hold c) (hold t) mv (omega arith) in
        (ap (λ r. r.events) z, subst (λ (r : Ran S Note). SameEnd g area c.store (seen r.last)) (sym z) (at_once c)))
        (λ ge.
        let z : j ≡ suc (k + (j - suc k)) = omega arith in
        let once : run next j (hold c) ≡ after [] (run next (j - suc k) (hold t)) = ap (λ i. run next i (hold c)) z ∙ one_move S Note next k (j - suc k) [] (hold c) (hold t) mv in
        let ih = kept_inside t d n1 _ rest (j - suc k) (omega arith) in (
          ap (λ r. r.events) once ∙ ih.0,
          subst (λ (r : Ran S Note). SameEnd g area c.store (seen r.last))
              (sym once) (same_on g area c.store t.store (seen (run next (j - suc k) (hold t)).last) q.1 ih.1),
        ))
        (cases_lt j (suc k))

busy_moved : (m : Module) (x : Exports) (plan : Plan) (ph : Phase) (l : Left) (k : ℕ) (d : Configuration) → busy_step m x plan ph l (steps k d) ≡ goes k [] (busy ph d l)
busy_moved m x plan (is_running task) l k d = refl
busy_moved m x plan (unwinds e i a) l k d = refl
busy_moved m x plan (rewinds e i a sp) l k d = refl

pub kept_while_busy : KeptWhileBusy
kept_while_busy g area p x plan ph l c d n es leads j le =
    kept_inside g area p Held (protocol p x plan) (λ e. busy ph e l) store_held (λ e f k is. ap (busy_step p x plan ph l) is ∙ busy_moved p x plan ph l k f) (λ e. refl) c d n es leads j le

pub kept_aside : KeptAside
kept_aside g area p x plan ph th l c d n es leads j le =
    kept_inside g area p Held (protocol p x plan) (λ e. aside ph e th l) store_held (λ e f k is. ap (aside_step p x plan ph th l) is) (λ e. refl) c d n es leads j le

pub kept_blocking : KeptBlocking
kept_blocking g area m plan task l c d n es leads j le =
    kept_inside g area m State (blocking m plan) (λ e. runs task e l) store_of (λ e f k is. ap (by_step m plan task l) is) (λ e. refl) c d n es leads j le
