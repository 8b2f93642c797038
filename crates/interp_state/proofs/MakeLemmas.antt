-- What an instance is made of.
use Rattle.std.proofs.Common.{arith, ◌≡◌, ℕ, suc, ◌+◌, ◌<◌, ◌≤◌, List, [], ◌∷◌, ◌++◌, length, map, get_or, take, drop, Option, Some, None, Bool, true, false, nat_le, if◌then◌else◌, refl, ap, sym, ◌∙◌, drop-cons, add-one, subst, Result, Ok, Err, IsErrAnd}
use Rattle.std.specs.Prelude.{IfErr}
use Rattle.std.proofs.lemmas.List.{drop_all, nil_from_length, length-append, length-take-le, length-drop}
use Rattle.std.proofs.lemmas.Bool.{leb-true}
use Rattle.wa_types.specs.declared.values.Value.{Value}
use Rattle.wa_types.specs.declared.values.Value.TheVariants.{I32}
use Rattle.wa_types.specs.declared.instrs.Instr.{Instr}
use Rattle.wa_types.specs.declared.instrs.Instr.TheVariants.{Unreachable, Nop, Drop, Select, Return, MemorySize, MemoryGrow, MemoryCopy, MemoryFill, Const, Num, Br, BrIf, BrTable, Call, CallIndirect, LocalGet, LocalSet, LocalTee, GlobalGet, GlobalSet, Load, Store, Block', Loop', If'}
use Rattle.wa_types.specs.Syntax.{nop, drop as drop_operand, select, const, num, global_get, global_set, load, store, memory_size, memory_grow, memory_copy, memory_fill, Plain, basic, local_get, local_set, local_tee, br, br_if, br_table, return, unreachable, call, call_indirect, Code, done, plain, nest, branch}
use Rattle.wa_types.specs.View.{in_front, onto, code}
use Rattle.wa_types.proofs.ViewLemmas.{InstrKind, is_block, is_loop, is_if, is_plain, instr_kind, in_block, in_loop, in_if}
use Rattle.wa_model.specs.Store.{value_at}
use Rattle.wa_types.specs.Memory.{overwritten, with_piece}
use Rattle.std.specs.Bool.{OnTrue, OnFalse}
use Rattle.wa_model.specs.declared.events.End.TheVariants.{ElementsOut, BytesOut}
use Rattle.interp_state.specs.declared.make.MakeFault.{MakeFault}
use Rattle.interp_state.specs.declared.make.MakeFault.TheVariants.{Memory}
use Rattle.interp_state.specs.Faults.{FailsAs}
use Rattle.wa_model.specs.Instantiation.{Opening, Piece, constant_value, first_out, put_piece, put_pieces, filled, elems_checked, bytes_checked, fails_as, opens}

-- ---- constant expressions

pub single : (xs : List Instr) (x x' : Instr) (is : List Instr) → xs ≡ x ∷ is → length is ≡ 0 → x ≡ x' → code xs ≡ in_front x' done
unfolding code onto
single xs x x' is e n ex = ap code e ∙ ap (λ v. in_front x (code v)) (nil_from_length is n) ∙ ap (λ v. in_front v done) ex

pub several : (xs : List Instr) (x : Instr) (is : List Instr) → xs ≡ x ∷ is → code xs ≡ in_front x (code is)
unfolding code onto
several xs x is e = ap code e

pub constant_get : (globals : List Value) (x : ℕ) → constant_value globals (in_front (GlobalGet x) done) ≡ value_at globals x
unfolding in_front
constant_get globals x = refl

pub constant_none : (globals : List Value) (xs : List Instr) → xs ≡ [] → constant_value globals (code xs) ≡ I32 0
unfolding code onto
constant_none globals xs e = ap (λ v. constant_value globals (code v)) e

pub constant_const : (globals : List Value) (v : Value) → constant_value globals (in_front (Const v) done) ≡ v
unfolding in_front
constant_const globals v = refl

pub constant_other : (globals : List Value) (x : Instr) → ((v : Value) → x ≡ Const v → ⊥) → ((y : ℕ) → x ≡ GlobalGet y → ⊥) → constant_value globals (in_front x done) ≡ I32 0
unfolding in_front
constant_other globals Unreachable h k = refl
constant_other globals Nop h k = refl
constant_other globals Drop h k = refl
constant_other globals Select h k = refl
constant_other globals Return h k = refl
constant_other globals MemorySize h k = refl
constant_other globals MemoryGrow h k = refl
constant_other globals MemoryCopy h k = refl
constant_other globals MemoryFill h k = refl
constant_other globals (Const v) h k = absurd (h v refl)
constant_other globals (Num op) h k = refl
constant_other globals (Br l) h k = refl
constant_other globals (BrIf l) h k = refl
constant_other globals (BrTable ls l) h k = refl
constant_other globals (Call x) h k = refl
constant_other globals (CallIndirect x) h k = refl
constant_other globals (LocalGet x) h k = refl
constant_other globals (LocalSet x) h k = refl
constant_other globals (LocalTee x) h k = refl
constant_other globals (GlobalGet x) h k = absurd (k x refl)
constant_other globals (GlobalSet x) h k = refl
constant_other globals (Load op a o) h k = refl
constant_other globals (Store op a o) h k = refl
constant_other globals (Block' r s b) h k = refl
constant_other globals (Loop' r s b) h k = refl
constant_other globals (If' r s a t b) h k = refl

-- more than one instruction
long_plain : (globals : List Value) (p : Plain) (r : Code) → (r ≡ done → ⊥) → constant_value globals (plain p r) ≡ I32 0
long_plain globals p done h = absurd (h refl)
long_plain globals (basic (const v)) (plain q r) h = refl
long_plain globals (basic (const v)) (nest s t b r) h = refl
long_plain globals (basic (const v)) (branch t a b r) h = refl
long_plain globals (basic (global_get x)) (plain q r) h = refl
long_plain globals (basic (global_get x)) (nest s t b r) h = refl
long_plain globals (basic (global_get x)) (branch t a b r) h = refl
long_plain globals (basic nop) r h = refl
long_plain globals (basic drop_operand) r h = refl
long_plain globals (basic select) r h = refl
long_plain globals (basic (num op)) r h = refl
long_plain globals (basic (global_set x)) r h = refl
long_plain globals (basic (load op a o)) r h = refl
long_plain globals (basic (store op a o)) r h = refl
long_plain globals (basic memory_size) r h = refl
long_plain globals (basic memory_grow) r h = refl
long_plain globals (basic memory_copy) r h = refl
long_plain globals (basic memory_fill) r h = refl
long_plain globals (local_get x) r h = refl
long_plain globals (local_set x) r h = refl
long_plain globals (local_tee x) r h = refl
long_plain globals (br l) r h = refl
long_plain globals (br_if l) r h = refl
long_plain globals (br_table ls l) r h = refl
long_plain globals return r h = refl
long_plain globals unreachable r h = refl
long_plain globals (call x) r h = refl
long_plain globals (call_indirect x) r h = refl

not_done : (x : Instr) (r : Code) → in_front x r ≡ done → ⊥
not_done x r e = by_kind (instr_kind x)
  where
    by_kind : InstrKind x → ⊥
    by_kind (is_block t v h) = let f : nest _ t (code v.items) r ≡ done = sym (ap (λ i. in_front i r) h ∙ in_block t v r) ∙ e in cc
    by_kind (is_loop t v h) = let f : nest _ t (code v.items) r ≡ done = sym (ap (λ i. in_front i r) h ∙ in_loop t v r) ∙ e in cc
    by_kind (is_if t v w h) = let f : branch t (code v.items) (code w.items) r ≡ done = sym (ap (λ i. in_front i r) h ∙ in_if t v w r) ∙ e in cc
    by_kind (is_plain p h) = let f : plain p r ≡ done = sym (h r) ∙ e in cc

long_any : (globals : List Value) (x : Instr) (r : Code) → (r ≡ done → ⊥) → constant_value globals (in_front x r) ≡ I32 0
long_any globals x r h = by_kind (instr_kind x)
  where
    by_kind : InstrKind x → constant_value globals (in_front x r) ≡ I32 0
    by_kind (is_block t v e) = ap (constant_value globals) (ap (λ i. in_front i r) e ∙ in_block t v r)
    by_kind (is_loop t v e) = ap (constant_value globals) (ap (λ i. in_front i r) e ∙ in_loop t v r)
    by_kind (is_if t v w e) = ap (constant_value globals) (ap (λ i. in_front i r) e ∙ in_if t v w r)
    by_kind (is_plain p e) = ap (constant_value globals) (e r) ∙ long_plain globals p r h

pub constant_long : (globals : List Value) (x : Instr) (is : List Instr) → (is ≡ [] → ⊥) → constant_value globals (in_front x (code is)) ≡ I32 0
unfolding code onto
constant_long globals x [] h = absurd (h refl)
constant_long globals x (y ∷ is) h = long_any globals x (in_front y (code is)) (not_done y (code is))

-- ---- segments

module _ {X Y : Type 0} (piece : X → Piece Y) (size : ℕ) (xs : List X) (i : ℕ) (x : X) where
  pub at_both : i < length xs → x ≡ get_or xs i x → map piece (drop i xs) ≡ piece x ∷ map piece (drop (i + 1) xs)
  at_both h e =
      ap (map piece) (drop-cons xs i x h)
      ∙ ap (λ v. piece v ∷ map piece (drop (suc i) xs)) (sym e)
      ∙ ap (λ n. piece x ∷ map piece (drop n xs)) (sym (add-one i))

  pub out_step : i < length xs → x ≡ get_or xs i x → nat_le ((piece x).at + length (piece x).items) size ≡ true
      → first_out size i (map piece (drop i xs)) ≡ first_out size (i + 1) (map piece (drop (i + 1) xs))
  out_step h e t =
      ap (first_out size i) (at_both h e)
      ∙ ap (λ b. if b then first_out size (suc i) (map piece (drop (i + 1) xs)) else Some i) t
      ∙ ap (λ n. first_out size n (map piece (drop (i + 1) xs))) (sym (add-one i))

  pub out_here : i < length xs → x ≡ get_or xs i x → nat_le ((piece x).at + length (piece x).items) size ≡ false → first_out size i (map piece (drop i xs)) ≡ Some i
  out_here h e t = ap (first_out size i) (at_both h e) ∙ ap (λ b. if b then first_out size (suc i) (map piece (drop (i + 1) xs)) else Some i) t

pub out_end : {X Y : Type 0} (piece : X → Piece Y) (size : ℕ) (xs : List X) (i : ℕ) → length xs ≤ i → first_out size i (map piece (drop i xs)) ≡ None
out_end piece size xs i h = ap (λ v. first_out size i (map piece v)) (drop_all i xs h)

pub ruleset outing = (out_step, out_here, out_end)

-- where all fit, the next one does, and the rest
pub record FitsNext {X Y : Type 0} (piece : X → Piece Y) (size : ℕ) (xs : List X) (i : ℕ) (x : X) : Type 0 where
  pub here : (piece x).at + length (piece x).items ≤ size
  pub test : nat_le ((piece x).at + length (piece x).items) size ≡ true
  pub rest : first_out size (i + 1) (map piece (drop (i + 1) xs)) ≡ None

pub fits_next : {X Y : Type 0} (piece : X → Piece Y) (size : ℕ) (xs : List X) (i : ℕ) (x : X) → i < length xs → x ≡ get_or xs i x → first_out size i (map piece (drop i xs)) ≡ None
    → FitsNext piece size xs i x
fits_next piece size xs i x h e none = by_test (nat_le ((piece x).at + length (piece x).items) size) refl
  where
    by_test : (b : Bool) → nat_le ((piece x).at + length (piece x).items) size ≡ b → FitsNext piece size xs i x
    by_test true t = record { here = leb-true _ _ t; test = t; rest = sym (out_step piece size xs i x h e t) ∙ none }
    by_test false t = let some = out_here piece size xs i x h e t in absurd (let f : Some i ≡ None = sym some ∙ none in cc)

-- one more piece is put
pub puts_on : {X Y : Type 0} (piece : X → Piece Y) (xs : List X) (i : ℕ) (x : X) (ys ys' : List Y) → i < length xs → x ≡ get_or xs i x → ys' ≡ put_piece ys (piece x)
    → put_pieces ys' (map piece (drop (i + 1) xs)) ≡ put_pieces ys (map piece (drop i xs))
puts_on piece xs i x ys ys' h e ey =
    ap (λ v. put_pieces v (map piece (drop (i + 1) xs))) ey ∙ sym (ap (put_pieces ys) (at_both piece 0 xs i x h e))

pub puts_end : {X Y : Type 0} (piece : X → Piece Y) (xs : List X) (i : ℕ) (ys : List Y) → length xs ≤ i → put_pieces ys (map piece (drop i xs)) ≡ ys
puts_end piece xs i ys h = ap (λ v. put_pieces ys (map piece v)) (drop_all i xs h)

pub put_length : {Y : Type 0} (xs : List Y) (p : Piece Y) → p.at + length p.items ≤ length xs → length (put_piece xs p) ≡ length xs
put_length xs p h =
    let at : p.at ≤ length xs = omega arith in
    length-append (take p.at xs ++ p.items) (drop (p.at + length p.items) xs)
    ∙ omega (arith, length-append (take p.at xs) p.items, length-take-le p.at xs at, length-drop (p.at + length p.items) xs)

-- a write that fits
pub written_over : (old new piece : List ℕ) (at : ℕ) (done : Bool) → OnTrue done (with_piece old at piece ≡ Some new) → OnFalse done (with_piece old at piece ≡ None)
    → nat_le (at + length piece) (length old) ≡ true → new ≡ overwritten old at piece
written_over old new piece at true yes' no' t =
    let f : Some new ≡ Some (overwritten old at piece) = sym yes' ∙ ap (λ b. if b then Some (overwritten old at piece) else None) t in cc
written_over old new piece at false yes' no' t =
    let f : Some (overwritten old at piece) ≡ None = sym (ap (λ b. if b then Some (overwritten old at piece) else None) t) ∙ no' in cc

-- ---- how instantiation ends

module _ (globals : List Value) (memory : List ℕ) (table : List (Option ℕ)) (elems : List (Piece (Option ℕ))) (bytes : List (Piece ℕ)) where
  pub filled_elems : (i : ℕ) → first_out (length table) 0 elems ≡ Some i → filled globals memory table elems bytes ≡ fails_as (ElementsOut i)
  filled_elems i e = ap (elems_checked globals memory table elems bytes) e

  pub filled_bytes : (i : ℕ) → first_out (length table) 0 elems ≡ None → first_out (length memory) 0 bytes ≡ Some i → filled globals memory table elems bytes ≡ fails_as (BytesOut i)
  filled_bytes i e f = ap (elems_checked globals memory table elems bytes) e ∙ ap (bytes_checked globals memory table elems bytes) f

  pub filled_all : first_out (length table) 0 elems ≡ None → first_out (length memory) 0 bytes ≡ None
      → filled globals memory table elems bytes ≡ opens (record { globals = globals; memory = put_pieces memory bytes; table = put_pieces table elems })
  filled_all e f = ap (elems_checked globals memory table elems bytes) e ∙ ap (bytes_checked globals memory table elems bytes) f

-- want of memory may come always
pub fails_memory : {T : Type 0} (r : Result T MakeFault) (o : Opening) → IsErrAnd r (λ e. e ≡ Memory) → IfErr r (FailsAs o)
fails_memory (Ok x) o i = tt
fails_memory (Err e) o i = subst (FailsAs o) (sym i) tt
