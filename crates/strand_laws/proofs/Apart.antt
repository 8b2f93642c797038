-- A reduction that stays off an area is the same whatever bytes are there, and leaves them.
use Rattle.std.proofs.Common.{◌≡◌, ℕ, zero, suc, ◌+◌, ◌-◌, ◌*◌, ◌^◌, ◌%◌, ◌/◌, ◌≤◌, ◌<◌, List, [], ◌∷◌, ◌++◌, length, take, drop, Option, Some, None, Result, Ok, Err, Bool, true, false, refl, sym, ap, ◌∙◌}
use Rattle.std.proofs.Common.{subst, ◌⊎◌, inl, inr, ⊎_elim, arith, append_assoc}
use Rattle.std.specs.Prelude.{nat_le, nat_lt, if◌then◌else◌, slice_get, slice_set, replicate, reverse, unwrap_or}
use Rattle.std.proofs.lemmas.Bool.{leb-true}
use Rattle.std.proofs.lemmas.List.{nil_from_length, length-replicate}
use Rattle.std.proofs.Math.Seq.{drop-append-add}
use Rattle.std.proofs.lemmas.Nat.{pow_pos}
use Rattle.wa_types.specs.declared.values.Value.{Value}
use Rattle.wa_types.specs.declared.values.Value.TheVariants as V
use Rattle.wa_types.specs.declared.values.Trap.{Trap}
use Rattle.wa_types.specs.declared.values.Trap.TheVariants.{StackExhausted, TypeMismatch}
use Rattle.wa_types.specs.Accesses.{AccessRow, load_row, store_row}
use Rattle.wa_types.specs.Encoding.{same_type}
use Rattle.wa_types.specs.Memory.{pages_of, bytes_of, number_of_bytes, bytes_at, number_at, overwritten, with_piece, copied, filled_with, grown, page_size, page_bound}
use Rattle.wa_types.specs.Modules.{func_imports, func_type_at, type_at, defined_at}
use Rattle.wa_types.specs.Typing.{type_of}
use Rattle.wa_types.specs.Syntax.{Basic, nop, drop as a_drop, select, const, num, global_get, global_set, load, store, memory_size, memory_grow, memory_copy, memory_fill}
use Rattle.wa_types.specs.Syntax.{Plain, basic, local_get, local_set, local_tee, br, br_if, br_table, return, unreachable, call, call_indirect, a_block, a_loop, Code, done, plain, nest, branch, Func, Module}
use Rattle.wa_types.proofs.MemoryLemmas.{length-bytes_of, length-bytes_at, bytes_at-append}
use Rattle.wa_model.specs.declared.answers.Area.{Area}
use Rattle.wa_model.specs.Operate.{operate, number_of}
use Rattle.wa_model.specs.Blocking.{overlap}
use Rattle.wa_model.specs.Store.{choose, Store, Did, works, fails, lacks, value_at, takes, extra_cost, act, computed, load_at, loaded, store_at, stored, width_of, grew, range_of, reached}
use Rattle.wa_model.specs.Configuration.{Label, block_label, loop_label, Activation, Configuration, running, waiting}
use Rattle.wa_model.specs.Step.{Next, steps, asks, returns, traps, stuck, leave, jump, finish, did, with_top, with_number, invoke, through, entered, param_count, result_count, memory_max, same_func_type, step_plain, step_at, step, arity_of}
use Rattle.wa_model.specs.Untouched.{StaysOff, next_ranges, ranges_in}
use Rattle.wa_model.proofs.StayingOff.{range, is_off, two_off}
use Rattle.guard_runs.proofs.Stores.{Wrote, long, neither, piece_too, wrote}

-- ---- bytes

-- an access of so many bytes that isn't empty overlaps no area, or lies below or behind it
pub off : (a n at len : ℕ) → 0 < n → overlap a n at len ≡ false → (len ≡ 0) ⊎ ((a + n ≤ at) ⊎ (at + len ≤ a))
off a n at len pos e = grind arith

le_leb : (a b : ℕ) → a ≤ b → nat_le a b ≡ true
le_leb a b h = grind arith

-- behind two lists
past_two : (low held high : List ℕ) (j : ℕ) → drop (length low + (length held + j)) (low ++ (held ++ high)) ≡ drop j high
past_two low held high j = drop-append-add low (held ++ high) (length held + j) ∙ drop-append-add held high j

-- two memories with other bytes in the area
module _ (low held held' high : List ℕ) (same : length held' ≡ length held) where
  abbrev m : List ℕ
  m = low ++ (held ++ high)

  abbrev m' : List ℕ
  m' = low ++ (held' ++ high)

  abbrev Off : ℕ → ℕ → Type 0
  Off a n = (length held ≡ 0) ⊎ ((a + n ≤ length low) ⊎ (length low + length held ≤ a))

  one_memory : length held ≡ 0 → m' ≡ m
  one_memory e = let z = nil_from_length held e in let z' = nil_from_length held' (same ∙ e) in ap (λ (x : List ℕ). low ++ (x ++ high)) (z' ∙ sym z)

  pub bytes_too : (a n : ℕ) → Off a n → bytes_at m' a n ≡ bytes_at m a n
  bytes_too a n (inl e) = ap (λ (x : List ℕ). bytes_at x a n) (one_memory e)
  bytes_too a n (inr (inl le)) = bytes_at-append low (held' ++ high) a n le ∙ sym (bytes_at-append low (held ++ high) a n le)
  bytes_too a n (inr (inr le)) =
      let j = a - length low - length held in
      let z : a ≡ length low + (length held + j) = omega arith in
      let z' : a ≡ length low + (length held' + j) = omega arith in
      ap (take n) ((ap (λ (x : ℕ). drop x m') z' ∙ past_two low held' high j) ∙ sym (ap (λ (x : ℕ). drop x m) z ∙ past_two low held high j))

  numbers_too : (a n : ℕ) → (a + n ≤ length m → Off a n) → number_at m' a n ≡ number_at m a n
  numbers_too a n h = ap (λ (k : ℕ). if nat_le (a + n) k then Some (number_of_bytes (bytes_at m' a n)) else None) (long low held held' high same) ∙ by (nat_le (a + n) (length m)) refl
    where
      by : (b : Bool) → nat_le (a + n) (length (low ++ (held ++ high))) ≡ b
          → (if b then Some (number_of_bytes (bytes_at (low ++ (held' ++ high)) a n)) else None) ≡ (if b then Some (number_of_bytes (bytes_at (low ++ (held ++ high)) a n)) else None)
      by true e = ap (λ (x : List ℕ). Some (number_of_bytes x)) (bytes_too a n (h (leb-true (a + n) (length (low ++ (held ++ high))) e)))
      by false e = refl

  -- a piece that has its room
  pub written_too : (a : ℕ) (piece : List ℕ) → a + length piece ≤ length m → (0 < length piece → Off a (length piece))
      → Wrote low held held' high same (Some (overwritten m a piece)) (Some (overwritten m' a piece))
  written_too a piece le h =
      let l = long low held held' high same in
      let le' : a + length piece ≤ length m' = omega arith in
      subst (λ o. Wrote low held held' high same o (Some (overwritten m' a piece))) (ap (λ b. if b then Some (overwritten m a piece) else None) (le_leb (a + length piece) (length m) le))
      (subst (λ o. Wrote low held held' high same (with_piece m a piece) o) (ap (λ b. if b then Some (overwritten m' a piece) else None) (le_leb (a + length piece) (length m') le'))
      (piece_too low held held' high same a piece (λ some in_. h some)))

-- ---- two stores

-- An area, and the bytes that both stores have there.
pub record Gap : Type 0 where
  pub area : Area
  pub held : List ℕ
  pub held' : List ℕ

-- Two stores that are the same but for the bytes of the area.
pub record Apart (p : Gap) (s s' : Store) : Type 0 where
  pub low : List ℕ
  pub high : List ℕ
  pub low_size : length low ≡ p.area.at
  pub held_size : length p.held ≡ p.area.len
  pub held_size' : length p.held' ≡ p.area.len
  pub memory : s.memory ≡ low ++ (p.held ++ high)
  pub memory' : s'.memory ≡ low ++ (p.held' ++ high)
  pub globals : s'.globals ≡ s.globals
  pub table : s'.table ≡ s.table

-- Two configurations that are the same but for that.
pub record ApartAt (p : Gap) (c c' : Configuration) : Type 0 where
  pub store : Apart p c.store c'.store
  pub here : c'.here ≡ c.here
  pub under : c'.under ≡ c.under

-- what comes next is
abbrev pub NextApart : Gap → Next → Next → Type 0
NextApart p (steps k d) (steps k' d') = (k' ≡ k) × ApartAt p d d'
NextApart p (asks k i args d) (asks k' i' args' d') = (k' ≡ k) × (i' ≡ i) × (args' ≡ args) × ApartAt p d d'
NextApart p (returns k vs s) (returns k' vs' s') = (k' ≡ k) × (vs' ≡ vs) × Apart p s s'
NextApart p (traps k t s) (traps k' t' s') = (k' ≡ k) × (t' ≡ t) × Apart p s s'
NextApart p stuck stuck = Unit {0}
NextApart p _ _ = ⊥

abbrev DidApart : Gap → Did → Did → Type 0
DidApart p (works s vs) (works s' vs') = (vs' ≡ vs) × Apart p s s'
DidApart p (fails t) (fails t') = t' ≡ t
DidApart p lacks lacks = Unit {0}
DidApart p _ _ = ⊥

module _ (p : Gap) (s s' : Store) (h : Apart p s s') where
  same_held : length p.held' ≡ length p.held
  same_held = h.held_size' ∙ sym h.held_size

  long_too : length s'.memory ≡ length s.memory
  long_too = ap length h.memory' ∙ long h.low p.held p.held' h.high same_held ∙ sym (ap length h.memory)

  -- ---- an instruction

  computed_too : (o : Option (Result Value Trap)) → DidApart p (computed s o) (computed s' o)
  computed_too None = tt
  computed_too (Some (Ok x)) = (refl, h)
  computed_too (Some (Err t)) = refl

  loaded_too : (row : AccessRow) (o : Option ℕ) → DidApart p (loaded s row o) (loaded s' row o)
  loaded_too row None = refl
  loaded_too row (Some n) = (refl, h)

  stays : (a n : ℕ) → 0 < n → (a + n ≤ length s.memory → overlap a n p.area.at p.area.len ≡ false)
      → a + n ≤ length (h.low ++ (p.held ++ h.high)) → (length p.held ≡ 0) ⊎ ((a + n ≤ length h.low) ⊎ (length h.low + length p.held ≤ a))
  stays a n pos off_ le =
      let lm : length s.memory ≡ length (h.low ++ (p.held ++ h.high)) = ap length h.memory in
      let e1 = h.low_size in
      let e2 = h.held_size in
      ⊎_elim (λ z. inl (e2 ∙ z)) (λ y. inr (⊎_elim (λ b. inl (omega arith)) (λ b. inr (omega arith)) y)) (off a n p.area.at p.area.len pos (off_ (omega arith)))

  load_too : (a : ℕ) (o : Option AccessRow) → StaysOff p.area (length s.memory) (range_of a o) → DidApart p (load_at s a o) (load_at s' a o)
  load_too a None so = tt
  load_too a (Some row) so =
      let e : number_at s'.memory a (width_of row) ≡ number_at s.memory a (width_of row) =
      ap (λ (x : List ℕ). number_at x a (width_of row)) h.memory' ∙ numbers_too h.low p.held p.held' h.high same_held a (width_of row)
      (stays a (width_of row) (pow_pos row.natural) (is_off p.area (length s.memory) a (width_of row) so)) ∙ sym (ap (λ (x : List ℕ). number_at x a (width_of row)) h.memory) in
      subst (λ o. DidApart p (loaded s row (number_at s.memory a (width_of row))) (loaded s' row o)) (sym e) (loaded_too row (number_at s.memory a (width_of row)))

  with_bytes : (o o' : Option (List ℕ)) → Wrote h.low p.held p.held' h.high same_held o o' → DidApart p (stored s o) (stored s' o')
  with_bytes _ _ neither = refl
  with_bytes _ _ (wrote low2 high2 e) = (
    refl,
    record {
      low = low2;
      high = high2;
      low_size = e ∙ h.low_size;
      held_size = h.held_size;
      held_size' = h.held_size';
      memory = refl;
      memory' = refl;
      globals = h.globals;
      table = h.table;
    },
  )

  -- one piece put into both, off the area
  put_both : (a : ℕ) (piece : List ℕ) → (a + length piece ≤ length s.memory → overlap a (length piece) p.area.at p.area.len ≡ false)
      → DidApart p (stored s (with_piece s.memory a piece)) (stored s' (with_piece s'.memory a piece))
  put_both a piece away = with_bytes (with_piece s.memory a piece) (with_piece s'.memory a piece) wrote_too
    where
      wrote_too : Wrote h.low p.held p.held' h.high same_held (with_piece s.memory a piece) (with_piece s'.memory a piece)
      wrote_too =
          subst (λ y. Wrote h.low p.held p.held' h.high same_held (with_piece y a piece) (with_piece s'.memory a piece)) (sym h.memory)
          (subst (λ y. Wrote h.low p.held p.held' h.high same_held (with_piece (h.low ++ (p.held ++ h.high)) a piece) (with_piece y a piece)) (sym h.memory')
          (piece_too h.low p.held p.held' h.high same_held a piece (λ some le. stays a (length piece) some away le)))

  store_too : (a : ℕ) (x : Value) (o : Option AccessRow) → StaysOff p.area (length s.memory) (range_of a o) → DidApart p (store_at s a x o) (store_at s' a x o)
  store_too a x None so = tt
  store_too a x (Some row) so = by_type (same_type row.ty (type_of x))
    where
      piece : List ℕ
      piece = bytes_of (2 ^ row.natural) (number_of x)

      away : a + length piece ≤ length s.memory → overlap a (length piece) p.area.at p.area.len ≡ false
      away =
          subst (λ n. a + n ≤ length s.memory → overlap a n p.area.at p.area.len ≡ false) (sym (length-bytes_of (2 ^ row.natural) (number_of x)))
          (is_off p.area (length s.memory) a (width_of row) so)

      by_type : (b : Bool) → DidApart p (if b then stored s (with_piece s.memory a piece) else lacks) (if b then stored s' (with_piece s'.memory a piece) else lacks)
      by_type true = put_both a piece away
      by_type false = tt

  -- the same bytes stand off the area
  piece_alike : (a n : ℕ) → a + n ≤ length s.memory → overlap a n p.area.at p.area.len ≡ false → bytes_at s'.memory a n ≡ bytes_at s.memory a n
  piece_alike a zero le away = refl
  piece_alike a (suc n) le away =
      let lm : length s.memory ≡ length (h.low ++ (p.held ++ h.high)) = ap length h.memory in
      let here = stays a (suc n) (omega arith) (λ _. away) (omega arith) in
      ap (λ (x : List ℕ). bytes_at x a (suc n)) h.memory' ∙ bytes_too h.low p.held p.held' h.high same_held a (suc n) here
      ∙ sym (ap (λ (x : List ℕ). bytes_at x a (suc n)) h.memory)

  copy_too : (to from n : ℕ) → StaysOff p.area (length s.memory) (range to n ∷ range from n ∷ []) → DidApart p (stored s (copied s.memory to from n)) (stored s' (copied s'.memory to from n))
  copy_too to from n so = by_source (nat_le (from + n) (length s.memory)) refl
    where
      outside : copied s.memory to from n ≡ None → copied s'.memory to from n ≡ None → DidApart p (stored s (copied s.memory to from n)) (stored s' (copied s'.memory to from n))
      outside e e' =
          subst (λ o. DidApart p (stored s o) (stored s' (copied s'.memory to from n))) (sym e) (subst (λ o. DidApart p (stored s None) (stored s' o)) (sym e') refl)

      -- no source
      no_bytes : (bytes : List ℕ) → nat_le (from + n) (length bytes) ≡ false → copied bytes to from n ≡ None
      no_bytes bytes e = ap (λ b. if b then with_piece bytes to (bytes_at bytes from n) else None) e

      -- a source
      some_bytes : (bytes : List ℕ) → nat_le (from + n) (length bytes) ≡ true → copied bytes to from n ≡ with_piece bytes to (bytes_at bytes from n)
      some_bytes bytes e = ap (λ b. if b then with_piece bytes to (bytes_at bytes from n) else None) e

      -- a source, and no room for it
      no_room : (bytes : List ℕ) → nat_le (from + n) (length bytes) ≡ true → nat_le (to + n) (length bytes) ≡ false → copied bytes to from n ≡ None
      no_room bytes e f =
          let len = length-bytes_at bytes from n (leb-true (from + n) (length bytes) e) in
          some_bytes bytes e ∙ ap (λ b. if b then Some (overwritten bytes to (bytes_at bytes from n)) else None) (ap (λ k. nat_le (to + k) (length bytes)) len ∙ f)

      as_long : (a : ℕ) (b : Bool) → nat_le (a + n) (length s.memory) ≡ b → nat_le (a + n) (length s'.memory) ≡ b
      as_long a b e = ap (λ k. nat_le (a + n) k) long_too ∙ e

      by_target : nat_le (from + n) (length s.memory) ≡ true → (b : Bool) → nat_le (to + n) (length s.memory) ≡ b
          → DidApart p (stored s (copied s.memory to from n)) (stored s' (copied s'.memory to from n))
      by_target e false f = outside (no_room s.memory e f) (no_room s'.memory (as_long from true e) (as_long to false f))
      by_target e true f =
          let in_from = leb-true (from + n) (length s.memory) e in
          let off_ = two_off p.area (length s.memory) (range to n) (range from n) so (leb-true (to + n) (length s.memory) f) in_from in
          let len = length-bytes_at s.memory from n in_from in
          let away = subst (λ k. to + k ≤ length s.memory → overlap to k p.area.at p.area.len ≡ false) (sym len) (λ _. off_.0) in
          subst (λ o. DidApart p (stored s o) (stored s' (copied s'.memory to from n))) (sym (some_bytes s.memory e))
          (subst (λ o. DidApart p (stored s (with_piece s.memory to (bytes_at s.memory from n))) (stored s' o))
          (sym (some_bytes s'.memory (as_long from true e) ∙ ap (λ x. with_piece s'.memory to x) (piece_alike from n in_from off_.1)))
          (put_both to (bytes_at s.memory from n) away))

      by_source : (b : Bool) → nat_le (from + n) (length s.memory) ≡ b → DidApart p (stored s (copied s.memory to from n)) (stored s' (copied s'.memory to from n))
      by_source false e = outside (no_bytes s.memory e) (no_bytes s'.memory (as_long from false e))
      by_source true e = by_target e (nat_le (to + n) (length s.memory)) refl

  fill_too : (at byte n : ℕ) → StaysOff p.area (length s.memory) (range at n ∷ []) → DidApart p (stored s (filled_with s.memory at byte n)) (stored s' (filled_with s'.memory at byte n))
  fill_too at byte n so =
      let away = subst (λ k. at + k ≤ length s.memory → overlap at k p.area.at p.area.len ≡ false) (sym (length-replicate n byte)) (is_off p.area (length s.memory) at n so) in
      put_both at (replicate n byte) away

  grew_too : (most : Option ℕ) (n : ℕ) → DidApart p (grew s (grown (record { bytes = s.memory; max = most }) n)) (grew s' (grown (record { bytes = s'.memory; max = most }) n))
  grew_too most n =
      subst (λ k. DidApart p (grew s (grown (record { bytes = s.memory; max = most }) n))
      (grew s' (if nat_le (k / page_size + n) (page_bound most) then Some (record { bytes = s'.memory ++ replicate (n * page_size) 0; max = most }) else None))) (sym long_too)
      (by (nat_le (pages_of s.memory + n) (page_bound most)))
    where
      zeros : List ℕ
      zeros = replicate (n * page_size) 0

      m2 : s.memory ++ zeros ≡ h.low ++ (p.held ++ (h.high ++ zeros))
      m2 = ap (λ (x : List ℕ). x ++ zeros) h.memory ∙ append_assoc h.low (p.held ++ h.high) zeros ∙ ap (λ (x : List ℕ). h.low ++ x) (append_assoc p.held h.high zeros)

      m2' : s'.memory ++ zeros ≡ h.low ++ (p.held' ++ (h.high ++ zeros))
      m2' = ap (λ (x : List ℕ). x ++ zeros) h.memory' ∙ append_assoc h.low (p.held' ++ h.high) zeros ∙ ap (λ (x : List ℕ). h.low ++ x) (append_assoc p.held' h.high zeros)

      by : (b : Bool) → DidApart p (grew s (if b then Some (record { bytes = s.memory ++ zeros; max = most }) else None))
          (grew s' (if b then Some (record { bytes = s'.memory ++ zeros; max = most }) else None))
      by true = (
        ap (λ (k : ℕ). V.I32 (k / page_size) ∷ []) long_too,
        record {
          low = h.low;
          high = h.high ++ zeros;
          low_size = h.low_size;
          held_size = h.held_size;
          held_size' = h.held_size';
          memory = m2;
          memory' = m2';
          globals = h.globals;
          table = h.table;
        },
      )
      by false = (refl, h)

  act_too : (most : Option ℕ) (b : Basic) (ops : List Value) → StaysOff p.area (length s.memory) (reached b ops) → DidApart p (act most b s ops) (act most b s' ops)
  act_too most nop [] so = (refl, h)
  act_too most a_drop (x ∷ []) so = (refl, h)
  act_too most select (V.I32 k ∷ upper ∷ lower ∷ []) so = (refl, h)
  act_too most (const x) [] so = (refl, h)
  act_too most (num op) ops so = computed_too (operate op ops)
  act_too most (global_get x) [] so = (ap (λ (g : List Value). value_at g x ∷ []) h.globals, h)
  act_too most (global_set x) (y ∷ []) so = (
    refl,
    record {
      low = h.low;
      high = h.high;
      low_size = h.low_size;
      held_size = h.held_size;
      held_size' = h.held_size';
      memory = h.memory;
      memory' = h.memory';
      globals = ap (λ (g : List Value). slice_set g x y) h.globals;
      table = h.table;
    },
  )
  act_too most (load op align offset) (V.I32 a ∷ []) so = load_too (a + offset) (load_row op) so
  act_too most (store op align offset) (x ∷ V.I32 a ∷ []) so = store_too (a + offset) x (store_row op) so
  act_too most memory_size [] so = (ap (λ (k : ℕ). V.I32 (k / page_size) ∷ []) long_too, h)
  act_too most memory_grow (V.I32 k ∷ []) so = grew_too most k
  act_too most memory_copy (V.I32 n ∷ V.I32 from ∷ V.I32 to ∷ []) so = copy_too to from n so
  act_too most memory_fill (V.I32 n ∷ V.I32 x ∷ V.I32 at ∷ []) so = fill_too at (x % 256) n so
  act_too most _ _ so = tt

  -- ---- a reduction

  at_store : (here : Activation) (under : List Activation) → ApartAt p (record { store = s; here = here; under = under }) (record { store = s'; here = here; under = under })
  at_store here under = record { store = h; here = refl; under = refl }

  did_too : (k fn : ℕ) (under : List Activation) (ls : List Value) (labels : List Label) (rest : Code) (ops : List Value) (d d' : Did) → DidApart p d d'
      → NextApart p (did k fn under ls labels rest s ops d) (did k fn under ls labels rest s' ops d')
  did_too k fn under ls labels rest ops (works t vs) (works t' vs') g = (
    refl,
    record {
      store = g.1;
      here = ap (λ (x : List Value). record { func = fn; locals = ls; operands = x ++ ops; taken = []; code = rest; labels = labels }) g.0;
      under = refl;
    },
  )
  did_too k fn under ls labels rest ops (fails t) (fails t') g = (refl, g, h)
  did_too k fn under ls labels rest ops lacks lacks g = tt
  did_too k fn under ls labels rest ops (works t vs) (fails t') g = absurd g
  did_too k fn under ls labels rest ops (works t vs) lacks g = absurd g
  did_too k fn under ls labels rest ops (fails t) (works t' vs') g = absurd g
  did_too k fn under ls labels rest ops (fails t) lacks g = absurd g
  did_too k fn under ls labels rest ops lacks (works t' vs') g = absurd g
  did_too k fn under ls labels rest ops lacks (fails t') g = absurd g

  leave_too : (k : ℕ) (ops : List Value) (arity : ℕ) (under : List Activation) → NextApart p (leave k s ops arity under) (leave k s' ops arity under)
  leave_too k ops arity [] = (refl, refl, h)
  leave_too k ops arity (a ∷ under) = (refl, at_store _ _)

  jump_too : (k : ℕ) (m : Module) (fn : ℕ) (under : List Activation) (ls ops : List Value) (labels : List Label) (l : ℕ)
      → NextApart p (jump k m s fn under ls ops labels l) (jump k m s' fn under ls ops labels l)
  jump_too k m fn under ls ops [] l = leave_too k ops (result_count m fn) under
  jump_too k m fn under ls ops (block_label ht arity rest skipped ∷ labels) zero = (refl, at_store _ _)
  jump_too k m fn under ls ops (loop_label ht body rest ∷ labels) zero = (refl, at_store _ _)
  jump_too k m fn under ls ops (block_label ht arity rest skipped ∷ labels) (suc l) = jump_too k m fn under ls ops labels l
  jump_too k m fn under ls ops (loop_label ht body rest ∷ labels) (suc l) = jump_too k m fn under ls ops labels l

  finish_too : (m : Module) (fn : ℕ) (under : List Activation) (ls ops : List Value) (labels : List Label) → NextApart p (finish m s fn under ls ops labels) (finish m s' fn under ls ops labels)
  finish_too m fn under ls ops [] = leave_too 0 ops (result_count m fn) under
  finish_too m fn under ls ops (block_label ht arity rest skipped ∷ labels) = (refl, at_store _ _)
  finish_too m fn under ls ops (loop_label ht body rest ∷ labels) = (refl, at_store _ _)

  top_too : (ops : List Value) (on on' : Value → List Value → Next) → ((v : Value) (below : List Value) → NextApart p (on v below) (on' v below)) → NextApart p (with_top ops on) (with_top ops on')
  top_too [] on on' g = tt
  top_too (v ∷ ops) on on' g = g v ops

  number_too : (ops : List Value) (on on' : ℕ → List Value → Next) → ((n : ℕ) (below : List Value) → NextApart p (on n below) (on' n below)) → NextApart p (with_number ops on) (with_number ops on')
  number_too [] on on' g = tt
  number_too (V.I32 n ∷ ops) on on' g = g n ops
  number_too (V.I64 n ∷ ops) on on' g = tt

  choose_too : (n : ℕ) (a b a' b' : Next) → NextApart p a a' → NextApart p b b' → NextApart p (choose n a b) (choose n a' b')
  choose_too zero a b a' b' g f = f
  choose_too (suc n) a b a' b' g f = g

  invoke_too : (m : Module) (fn : ℕ) (under : List Activation) (ls own ops : List Value) (rest : Code) (labels : List Label) (params x : ℕ) (o : Option Func)
      → NextApart p (invoke m s fn under ls own ops rest labels params x o) (invoke m s' fn under ls own ops rest labels params x o)
  invoke_too m fn under ls own ops rest labels params x (Some f) = by_room (nat_lt (length under + 1) 4096)
    where
      by_room : (b : Bool) → NextApart p
          (if b then steps params (entered s (waiting fn ls (drop params ops) (own ++ take params ops) rest labels ∷ under) (reverse (take params ops)) x f) else traps params StackExhausted s)
          (if b then steps params (entered s' (waiting fn ls (drop params ops) (own ++ take params ops) rest labels ∷ under) (reverse (take params ops)) x f) else traps params StackExhausted s')
      by_room true = (refl, at_store _ _)
      by_room false = (refl, refl, h)
  invoke_too m fn under ls own ops rest labels params x None = by_import (nat_lt x (func_imports m))
    where
      by_import : (b : Bool) → NextApart p
          (if b then asks params x (reverse (take params ops)) (record { store = s; here = waiting fn ls (drop params ops) (own ++ take params ops) rest labels; under = under }) else stuck)
          (if b then asks params x (reverse (take params ops)) (record { store = s'; here = waiting fn ls (drop params ops) (own ++ take params ops) rest labels; under = under }) else stuck)
      by_import true = (refl, refl, refl, at_store _ _)
      by_import false = tt

  through_too : (m : Module) (fn : ℕ) (under : List Activation) (ls own ops : List Value) (rest : Code) (labels : List Label) (sort : ℕ) (o : Option (Option ℕ))
      → NextApart p (through m s fn under ls own ops rest labels sort o) (through m s' fn under ls own ops rest labels sort o)
  through_too m fn under ls own ops rest labels sort None = (refl, refl, h)
  through_too m fn under ls own ops rest labels sort (Some None) = (refl, refl, h)
  through_too m fn under ls own ops rest labels sort (Some (Some x)) = by_type (same_func_type (func_type_at m x) (type_at m sort))
    where
      by_type : (b : Bool) → NextApart p
          (if b then invoke m s fn under ls own ops rest labels (param_count (type_at m sort)) x (defined_at m x) else traps (param_count (type_at m sort)) TypeMismatch s)
          (if b then invoke m s' fn under ls own ops rest labels (param_count (type_at m sort)) x (defined_at m x) else traps (param_count (type_at m sort)) TypeMismatch s')
      by_type true = invoke_too m fn under ls own ops rest labels (param_count (type_at m sort)) x (defined_at m x)
      by_type false = (refl, refl, h)

  -- what the instruction that stands next reaches
  abbrev Off_area : List Value → Plain → Type 0
  Off_area ops (basic b) = StaysOff p.area (length s.memory) (reached b (take (takes b) ops))
  Off_area ops _ = Unit {0}

  plain_too : (m : Module) (fn : ℕ) (under : List Activation) (ls ops : List Value) (labels : List Label) (rest : Code) (q : Plain) → Off_area ops q
      → NextApart p (step_plain m s fn under ls ops labels rest q) (step_plain m s' fn under ls ops labels rest q)
  plain_too m fn under ls ops labels rest (basic b) so =
      did_too (extra_cost b (take (takes b) ops)) fn under ls labels rest (drop (takes b) ops) (act (memory_max m) b s (take (takes b) ops)) (act (memory_max m) b s' (take (takes b) ops))
      (act_too (memory_max m) b (take (takes b) ops) so)
  plain_too m fn under ls ops labels rest (local_get x) so = (refl, at_store _ _)
  plain_too m fn under ls ops labels rest (local_set x) so =
      top_too ops (λ v below. steps 0 (running s fn under (slice_set ls x v) below rest labels)) (λ v below. steps 0 (running s' fn under (slice_set ls x v) below rest labels))
      (λ v below. (refl, at_store _ _))
  plain_too m fn under ls ops labels rest (local_tee x) so =
      top_too ops (λ v below. steps 0 (running s fn under (slice_set ls x v) (v ∷ below) rest labels)) (λ v below. steps 0 (running s' fn under (slice_set ls x v) (v ∷ below) rest labels))
      (λ v below. (refl, at_store _ _))
  plain_too m fn under ls ops labels rest (br l) so = jump_too 0 m fn under ls ops labels l
  plain_too m fn under ls ops labels rest (br_if l) so =
      number_too ops (λ n below. choose n (jump 0 m s fn under ls below labels l) (steps 0 (running s fn under ls below rest labels)))
      (λ n below. choose n (jump 0 m s' fn under ls below labels l) (steps 0 (running s' fn under ls below rest labels)))
      (λ n below. choose_too n _ _ _ _ (jump_too 0 m fn under ls below labels l) (refl, at_store _ _))
  plain_too m fn under ls ops labels rest (br_table targets last) so =
      number_too ops (λ n below. jump (length targets + 1) m s fn under ls below labels (unwrap_or (slice_get targets n) last))
      (λ n below. jump (length targets + 1) m s' fn under ls below labels (unwrap_or (slice_get targets n) last))
      (λ n below. jump_too (length targets + 1) m fn under ls below labels (unwrap_or (slice_get targets n) last))
  plain_too m fn under ls ops labels rest return so = leave_too 0 ops (result_count m fn) under
  plain_too m fn under ls ops labels rest unreachable so = (refl, refl, h)
  plain_too m fn under ls ops labels rest (call x) so = invoke_too m fn under ls [] ops rest labels (param_count (func_type_at m x)) x (defined_at m x)
  plain_too m fn under ls ops labels rest (call_indirect sort) so =
      number_too ops (λ n below. through m s fn under ls (V.I32 n ∷ []) below rest labels sort (slice_get s.table n))
      (λ n below. through m s' fn under ls (V.I32 n ∷ []) below rest labels sort (slice_get s'.table n))
      (λ n below. subst (λ t. NextApart p (through m s fn under ls (V.I32 n ∷ []) below rest labels sort (slice_get s.table n))
      (through m s' fn under ls (V.I32 n ∷ []) below rest labels sort (slice_get t n)))
      (sym h.table) (through_too m fn under ls (V.I32 n ∷ []) below rest labels sort (slice_get s.table n)))

  code_too : (m : Module) (here : Activation) (under : List Activation) → StaysOff p.area (length s.memory) (next_ranges (record { store = s; here = here; under = under }))
      → NextApart p (step m (record { store = s; here = here; under = under })) (step m (record { store = s'; here = here; under = under }))
  code_too m here under so = by_code here.code so
    where
      fn : ℕ
      fn = here.func

      ls : List Value
      ls = here.locals

      ops : List Value
      ops = here.operands

      labels : List Label
      labels = here.labels

      by_code : (code : Code) → StaysOff p.area (length s.memory) (ranges_in ops code)
          → NextApart p (step_at m s fn under ls ops labels code) (step_at m s' fn under ls ops labels code)
      by_code done g = finish_too m fn under ls ops labels
      by_code (plain (basic b) rest) g = plain_too m fn under ls ops labels rest (basic b) g
      by_code (plain (local_get x) rest) g = plain_too m fn under ls ops labels rest (local_get x) tt
      by_code (plain (local_set x) rest) g = plain_too m fn under ls ops labels rest (local_set x) tt
      by_code (plain (local_tee x) rest) g = plain_too m fn under ls ops labels rest (local_tee x) tt
      by_code (plain (br l) rest) g = plain_too m fn under ls ops labels rest (br l) tt
      by_code (plain (br_if l) rest) g = plain_too m fn under ls ops labels rest (br_if l) tt
      by_code (plain (br_table targets last) rest) g = plain_too m fn under ls ops labels rest (br_table targets last) tt
      by_code (plain return rest) g = plain_too m fn under ls ops labels rest return tt
      by_code (plain unreachable rest) g = plain_too m fn under ls ops labels rest unreachable tt
      by_code (plain (call x) rest) g = plain_too m fn under ls ops labels rest (call x) tt
      by_code (plain (call_indirect sort) rest) g = plain_too m fn under ls ops labels rest (call_indirect sort) tt
      by_code (nest a_block r body rest) g = (refl, at_store _ _)
      by_code (nest a_loop r body rest) g = (refl, at_store _ _)
      by_code (branch r a b rest) g =
          number_too ops
          (λ n below. steps 0 (choose n (running s fn under ls below a (block_label (length below) (arity_of r) rest b ∷ labels))
          (running s fn under ls below b (block_label (length below) (arity_of r) rest done ∷ labels))))
          (λ n below. steps 0 (choose n (running s' fn under ls below a (block_label (length below) (arity_of r) rest b ∷ labels))
          (running s' fn under ls below b (block_label (length below) (arity_of r) rest done ∷ labels))))
          (λ n below. (refl, chosen n below))
        where
          chosen : (n : ℕ) (below : List Value) → ApartAt p
              (choose n (running s fn under ls below a (block_label (length below) (arity_of r) rest b ∷ labels))
              (running s fn under ls below b (block_label (length below) (arity_of r) rest done ∷ labels)))
              (choose n (running s' fn under ls below a (block_label (length below) (arity_of r) rest b ∷ labels))
              (running s' fn under ls below b (block_label (length below) (arity_of r) rest done ∷ labels)))
          chosen zero below = at_store _ _
          chosen (suc n) below = at_store _ _

-- A reduction that stays off the area is the same whatever bytes are there.
pub reduces_apart : (m : Module) (p : Gap) (c c' : Configuration) → ApartAt p c c' → StaysOff p.area (length c.store.memory) (next_ranges c) → NextApart p (step m c) (step m c')
reduces_apart m p c c' h so =
    subst (λ (u : List Activation). NextApart p (step m c) (step m (record { store = c'.store; here = c'.here; under = u }))) (sym h.under)
    (subst (λ (a : Activation). NextApart p (step m c) (step m (record { store = c'.store; here = a; under = c.under }))) (sym h.here)
    (code_too p c.store c'.store h.store m c.here c.under so))
