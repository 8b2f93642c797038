-- Code that has a type has it where more stands around it; and the types of the runtime's functions.
use Rattle.std.proofs.Common.{◌≡◌, ℕ, List, [], ◌∷◌, ◌++◌, Option, Some, None, Bool, true, false, refl, sym, subst}
use Rattle.std.specs.Prelude.{slice_get}
use Rattle.wa_types.specs.declared.values.ValType.{ValType}
use Rattle.wa_types.specs.declared.values.ValType.TheVariants.{I32}
use Rattle.wa_types.specs.Accesses.{AccessRow, load_row, store_row}
use Rattle.wa_types.specs.Syntax.{global_get, global_set, load, store, memory_size, memory_grow, memory_copy, memory_fill, Plain, basic, local_get, local_set, local_tee, return, call, call_indirect, Code, done}
use Rattle.wa_types.specs.Syntax.{plain, nest, branch, FuncType}
use Rattle.wa_types.specs.Typing.{GlobalType, Around, listed, calls, calls_at, gets, sets, tees, gets_global, sets_global, loads, stores, with_memory, sig, leaves, Takes, label, Types}
use Rattle.wa_types.specs.Runtime.{test_code, start_code, stop_code, state_code}

-- More stands around the second body than around the first: all that the first finds is there under its index.
pub record Wider (c d : Around) : Type 0 where
  pub types : (x : ℕ) (t : FuncType) → slice_get c.types x ≡ Some t → slice_get d.types x ≡ Some t
  pub funcs : (x : ℕ) (t : FuncType) → slice_get c.funcs x ≡ Some t → slice_get d.funcs x ≡ Some t
  pub globals : (x : ℕ) (g : GlobalType) → slice_get c.globals x ≡ Some g → slice_get d.globals x ≡ Some g
  pub table : d.table ≡ c.table
  pub memory : c.memory ≡ true → d.memory ≡ true
  pub locals : d.locals ≡ c.locals
  pub result : d.result ≡ c.result

module _ (c d : Around) (w : Wider c d) (ins outs : List ValType) where
  calls_wider : (x : ℕ) (o : Option FuncType) → slice_get c.funcs x ≡ o → Takes (calls o) ins outs → Takes (calls (slice_get d.funcs x)) ins outs
  calls_wider x None e h = absurd h
  calls_wider x (Some t) e h = subst (λ o. Takes (calls o) ins outs) (sym (w.funcs x t e)) h

  through_wider : (x : ℕ) (o : Option FuncType) → slice_get c.types x ≡ o → Takes (calls_at c.table o) ins outs → Takes (calls_at d.table (slice_get d.types x)) ins outs
  through_wider x None e h = absurd h
  through_wider x (Some t) e h = subst (λ o. Takes (calls_at d.table o) ins outs) (sym (w.types x t e)) (subst (λ b. Takes (calls_at b (Some t)) ins outs) (sym w.table) h)

  gets_wider : (x : ℕ) (o : Option GlobalType) → slice_get c.globals x ≡ o → Takes (gets_global o) ins outs → Takes (gets_global (slice_get d.globals x)) ins outs
  gets_wider x None e h = absurd h
  gets_wider x (Some g) e h = subst (λ o. Takes (gets_global o) ins outs) (sym (w.globals x g e)) h

  sets_wider : (x : ℕ) (o : Option GlobalType) → slice_get c.globals x ≡ o → Takes (sets_global o) ins outs → Takes (sets_global (slice_get d.globals x)) ins outs
  sets_wider x None e h = absurd h
  sets_wider x (Some g) e h = subst (λ o. Takes (sets_global o) ins outs) (sym (w.globals x g e)) h

  loads_wider : (b : Bool) (align : ℕ) (row : Option AccessRow) → (b ≡ true → d.memory ≡ true) → Takes (loads b align row) ins outs → Takes (loads d.memory align row) ins outs
  loads_wider false align row m h = absurd h
  loads_wider true align row m h = subst (λ b. Takes (loads b align row) ins outs) (sym (m refl)) h

  stores_wider : (b : Bool) (align : ℕ) (row : Option AccessRow) → (b ≡ true → d.memory ≡ true) → Takes (stores b align row) ins outs → Takes (stores d.memory align row) ins outs
  stores_wider false align row m h = absurd h
  stores_wider true align row m h = subst (λ b. Takes (stores b align row) ins outs) (sym (m refl)) h

  memory_wider : (b : Bool) (ps rs : List ValType) → (b ≡ true → d.memory ≡ true) → Takes (with_memory b ps rs) ins outs → Takes (with_memory d.memory ps rs) ins outs
  memory_wider false ps rs m h = absurd h
  memory_wider true ps rs m h = subst (λ b. Takes (with_memory b ps rs) ins outs) (sym (m refl)) h

  pub takes_wider : (ls : List (Option ValType)) (p : Plain) → Takes (sig c ls p) ins outs → Takes (sig d ls p) ins outs
  takes_wider ls (basic (global_get x)) h = gets_wider x (slice_get c.globals x) refl h
  takes_wider ls (basic (global_set x)) h = sets_wider x (slice_get c.globals x) refl h
  takes_wider ls (basic (load op align offset)) h = loads_wider c.memory align (load_row op) w.memory h
  takes_wider ls (basic (store op align offset)) h = stores_wider c.memory align (store_row op) w.memory h
  takes_wider ls (basic memory_size) h = memory_wider c.memory [] (I32 ∷ []) w.memory h
  takes_wider ls (basic memory_grow) h = memory_wider c.memory (I32 ∷ []) (I32 ∷ []) w.memory h
  takes_wider ls (basic memory_copy) h = memory_wider c.memory (I32 ∷ I32 ∷ I32 ∷ []) [] w.memory h
  takes_wider ls (basic memory_fill) h = memory_wider c.memory (I32 ∷ I32 ∷ I32 ∷ []) [] w.memory h
  takes_wider ls (local_get x) h = subst (λ xs. Takes (gets (slice_get xs x)) ins outs) (sym w.locals) h
  takes_wider ls (local_set x) h = subst (λ xs. Takes (sets (slice_get xs x)) ins outs) (sym w.locals) h
  takes_wider ls (local_tee x) h = subst (λ xs. Takes (tees (slice_get xs x)) ins outs) (sym w.locals) h
  takes_wider ls return h = subst (λ r. Takes (leaves (listed r)) ins outs) (sym w.result) h
  takes_wider ls (call x) h = calls_wider x (slice_get c.funcs x) refl h
  takes_wider ls (call_indirect x) h = through_wider x (slice_get c.types x) refl h
  takes_wider ls _ h = h

pub types_wider : (c d : Around) → Wider c d → (ls : List (Option ValType)) (code : Code) (outs ins : List ValType) → Types c ls code outs ins → Types d ls code outs ins
unfolding Types
types_wider c d w ls done outs ins h = h
types_wider c d w ls (plain p rest) outs ins h = (h.0, takes_wider c d w ins h.0 ls p h.1, types_wider c d w ls rest outs h.0 h.2)
types_wider c d w ls (nest s r body rest) outs ins h = (types_wider c d w (label s r ∷ ls) body (listed r) [] h.0, types_wider c d w ls rest outs (listed r ++ ins) h.1)
types_wider c d w ls (branch r a b rest) outs ins h =
    (h.0, h.1, types_wider c d w (r ∷ ls) a (listed r) [] h.2, types_wider c d w (r ∷ ls) b (listed r) [] h.3, types_wider c d w ls rest outs (listed r ++ h.0) h.4)

-- ---- the runtime's functions

-- a mutable i32
abbrev pub state_type : GlobalType
state_type = record { ty = I32; mutable = true }

module _ (c : Around) (ls : List (Option ValType)) where
  one_more : (x : ℕ) (ins : List ValType) → slice_get c.globals x ≡ Some state_type → Takes (gets_global (slice_get c.globals x)) ins (I32 ∷ ins)
  one_more x ins e = subst (λ o. Takes (gets_global o) ins (I32 ∷ ins)) (sym e) (ins, refl, refl)

  one_less : (x : ℕ) (ins : List ValType) → slice_get c.globals x ≡ Some state_type → Takes (sets_global (slice_get c.globals x)) (I32 ∷ ins) ins
  one_less x ins e = subst (λ o. Takes (sets_global o) (I32 ∷ ins) ins) (sym e) (ins, refl, refl)

  one_word : (ins : List ValType) → c.memory ≡ true → Takes (loads c.memory 2 (load_row 0x28)) (I32 ∷ ins) (I32 ∷ ins)
  one_word ins e = subst (λ b. Takes (loads b 2 (load_row 0x28)) (I32 ∷ ins) (I32 ∷ ins)) (sym e) (ins, refl, refl)

  test_typed : (address : ℕ) → slice_get c.globals address ≡ Some state_type → c.memory ≡ true → Types c ls (test_code address) [] []
  unfolding Types
  test_typed address a m = (
    I32 ∷ [],
    one_more address [] a,
    (
      I32 ∷ [],
      one_word [] m,
      (
        I32 ∷ I32 ∷ [],
        one_more address (I32 ∷ []) a,
        (I32 ∷ I32 ∷ [], one_word (I32 ∷ []) m, (I32 ∷ [], ([], refl, refl), ([], refl, ([], ([], refl), refl), refl, refl))),
      ),
    ),
  )

  pub start_typed : (number state address : ℕ) → slice_get c.globals state ≡ Some state_type → slice_get c.globals address ≡ Some state_type → c.memory ≡ true
      → slice_get c.locals 0 ≡ Some I32 → Types c ls (start_code number state address) [] []
  unfolding Types
  start_typed number state address s a m l = (
    I32 ∷ [],
    ([], refl, refl),
    ([], one_less state [] s, (I32 ∷ [], subst (λ o. Takes (gets o) [] (I32 ∷ [])) (sym l) ([], refl, refl), ([], one_less address [] a, test_typed address a m))),
  )

  pub stop_typed : (state address : ℕ) → slice_get c.globals state ≡ Some state_type → slice_get c.globals address ≡ Some state_type → c.memory ≡ true → Types c ls (stop_code state address) [] []
  unfolding Types
  stop_typed state address s a m = (I32 ∷ [], ([], refl, refl), ([], one_less state [] s, test_typed address a m))

  pub state_typed : (state : ℕ) → slice_get c.globals state ≡ Some state_type → Types c ls (state_code state) (I32 ∷ []) []
  unfolding Types
  state_typed state s = (I32 ∷ [], one_more state [] s, refl)
