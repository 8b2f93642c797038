-- Initialisers and offsets, which are lists of instructions.
use Rattle.std.proofs.Common.{arith, ◌≡◌, ℕ, List, [], ◌∷◌, length, get_or, false, refl, ap, sym, ◌∙◌, subst}
use Rattle.wa_types.specs.declared.values.ValType.{ValType}
use Rattle.wa_types.specs.declared.values.Value.{Value}
use Rattle.wa_types.specs.declared.instrs.Instr.{Instr}
use Rattle.wa_types.specs.declared.instrs.Instr.TheVariants.{Unreachable, Nop, Drop, Select, Return, MemorySize, MemoryGrow, MemoryCopy, MemoryFill, Const, Num, Br, BrIf, BrTable, Call, CallIndirect, LocalGet, LocalSet, LocalTee, GlobalGet, GlobalSet, Load, Store, Block', Loop', If'}
use Rattle.wa_types.specs.Syntax.{nop, drop, select, const, num, global_get, global_set, load, store, memory_size, memory_grow, memory_copy, memory_fill, Plain, basic, local_get, local_set, local_tee, br, br_if, br_table, return, unreachable, call, call_indirect, Code, done, plain, nest, branch}
use Rattle.wa_types.specs.View.{in_front, onto, code}
use Rattle.wa_types.specs.Typing.{GlobalType}
use Rattle.wa_types.specs.Validity.{got_global, is_constant}
use Rattle.wa_types.specs.FirstFault.{mid}
use Rattle.wa_types.proofs.ViewLemmas.{in_block, in_loop, in_if}
use Rattle.validate_bodies.proofs.InstrKinds.{is_block, is_loop, is_branch, is_plain, leaf_kind, code_cons, mid_front}

-- it names no global, and is no constant
pub record Other (k : Code) : Type 0 where
  pub got : got_global k ≡ []
  pub constant : (gs : List GlobalType) (t : ValType) → is_constant gs t k ≡ false

more_plain : (p : Plain) (rest : Code) → mid rest ≡ 1 → Other (plain p rest)
more_plain p done h = absurd (omega arith)
more_plain (basic nop) (plain q k) h = record { got = refl; constant = λ gs t. refl }
more_plain (basic drop) (plain q k) h = record { got = refl; constant = λ gs t. refl }
more_plain (basic select) (plain q k) h = record { got = refl; constant = λ gs t. refl }
more_plain (basic (const v)) (plain q k) h = record { got = refl; constant = λ gs t. refl }
more_plain (basic (num op)) (plain q k) h = record { got = refl; constant = λ gs t. refl }
more_plain (basic (global_get x)) (plain q k) h = record { got = refl; constant = λ gs t. refl }
more_plain (basic (global_set x)) (plain q k) h = record { got = refl; constant = λ gs t. refl }
more_plain (basic (load op a o)) (plain q k) h = record { got = refl; constant = λ gs t. refl }
more_plain (basic (store op a o)) (plain q k) h = record { got = refl; constant = λ gs t. refl }
more_plain (basic memory_size) (plain q k) h = record { got = refl; constant = λ gs t. refl }
more_plain (basic memory_grow) (plain q k) h = record { got = refl; constant = λ gs t. refl }
more_plain (basic memory_copy) (plain q k) h = record { got = refl; constant = λ gs t. refl }
more_plain (basic memory_fill) (plain q k) h = record { got = refl; constant = λ gs t. refl }
more_plain (local_get x) (plain q k) h = record { got = refl; constant = λ gs t. refl }
more_plain (local_set x) (plain q k) h = record { got = refl; constant = λ gs t. refl }
more_plain (local_tee x) (plain q k) h = record { got = refl; constant = λ gs t. refl }
more_plain (br l) (plain q k) h = record { got = refl; constant = λ gs t. refl }
more_plain (br_if l) (plain q k) h = record { got = refl; constant = λ gs t. refl }
more_plain (br_table ls l) (plain q k) h = record { got = refl; constant = λ gs t. refl }
more_plain return (plain q k) h = record { got = refl; constant = λ gs t. refl }
more_plain unreachable (plain q k) h = record { got = refl; constant = λ gs t. refl }
more_plain (call x) (plain q k) h = record { got = refl; constant = λ gs t. refl }
more_plain (call_indirect x) (plain q k) h = record { got = refl; constant = λ gs t. refl }
more_plain (basic nop) (nest s r b k) h = record { got = refl; constant = λ gs t. refl }
more_plain (basic drop) (nest s r b k) h = record { got = refl; constant = λ gs t. refl }
more_plain (basic select) (nest s r b k) h = record { got = refl; constant = λ gs t. refl }
more_plain (basic (const v)) (nest s r b k) h = record { got = refl; constant = λ gs t. refl }
more_plain (basic (num op)) (nest s r b k) h = record { got = refl; constant = λ gs t. refl }
more_plain (basic (global_get x)) (nest s r b k) h = record { got = refl; constant = λ gs t. refl }
more_plain (basic (global_set x)) (nest s r b k) h = record { got = refl; constant = λ gs t. refl }
more_plain (basic (load op a o)) (nest s r b k) h = record { got = refl; constant = λ gs t. refl }
more_plain (basic (store op a o)) (nest s r b k) h = record { got = refl; constant = λ gs t. refl }
more_plain (basic memory_size) (nest s r b k) h = record { got = refl; constant = λ gs t. refl }
more_plain (basic memory_grow) (nest s r b k) h = record { got = refl; constant = λ gs t. refl }
more_plain (basic memory_copy) (nest s r b k) h = record { got = refl; constant = λ gs t. refl }
more_plain (basic memory_fill) (nest s r b k) h = record { got = refl; constant = λ gs t. refl }
more_plain (local_get x) (nest s r b k) h = record { got = refl; constant = λ gs t. refl }
more_plain (local_set x) (nest s r b k) h = record { got = refl; constant = λ gs t. refl }
more_plain (local_tee x) (nest s r b k) h = record { got = refl; constant = λ gs t. refl }
more_plain (br l) (nest s r b k) h = record { got = refl; constant = λ gs t. refl }
more_plain (br_if l) (nest s r b k) h = record { got = refl; constant = λ gs t. refl }
more_plain (br_table ls l) (nest s r b k) h = record { got = refl; constant = λ gs t. refl }
more_plain return (nest s r b k) h = record { got = refl; constant = λ gs t. refl }
more_plain unreachable (nest s r b k) h = record { got = refl; constant = λ gs t. refl }
more_plain (call x) (nest s r b k) h = record { got = refl; constant = λ gs t. refl }
more_plain (call_indirect x) (nest s r b k) h = record { got = refl; constant = λ gs t. refl }
more_plain (basic nop) (branch r d b k) h = record { got = refl; constant = λ gs t. refl }
more_plain (basic drop) (branch r d b k) h = record { got = refl; constant = λ gs t. refl }
more_plain (basic select) (branch r d b k) h = record { got = refl; constant = λ gs t. refl }
more_plain (basic (const v)) (branch r d b k) h = record { got = refl; constant = λ gs t. refl }
more_plain (basic (num op)) (branch r d b k) h = record { got = refl; constant = λ gs t. refl }
more_plain (basic (global_get x)) (branch r d b k) h = record { got = refl; constant = λ gs t. refl }
more_plain (basic (global_set x)) (branch r d b k) h = record { got = refl; constant = λ gs t. refl }
more_plain (basic (load op a o)) (branch r d b k) h = record { got = refl; constant = λ gs t. refl }
more_plain (basic (store op a o)) (branch r d b k) h = record { got = refl; constant = λ gs t. refl }
more_plain (basic memory_size) (branch r d b k) h = record { got = refl; constant = λ gs t. refl }
more_plain (basic memory_grow) (branch r d b k) h = record { got = refl; constant = λ gs t. refl }
more_plain (basic memory_copy) (branch r d b k) h = record { got = refl; constant = λ gs t. refl }
more_plain (basic memory_fill) (branch r d b k) h = record { got = refl; constant = λ gs t. refl }
more_plain (local_get x) (branch r d b k) h = record { got = refl; constant = λ gs t. refl }
more_plain (local_set x) (branch r d b k) h = record { got = refl; constant = λ gs t. refl }
more_plain (local_tee x) (branch r d b k) h = record { got = refl; constant = λ gs t. refl }
more_plain (br l) (branch r d b k) h = record { got = refl; constant = λ gs t. refl }
more_plain (br_if l) (branch r d b k) h = record { got = refl; constant = λ gs t. refl }
more_plain (br_table ls l) (branch r d b k) h = record { got = refl; constant = λ gs t. refl }
more_plain return (branch r d b k) h = record { got = refl; constant = λ gs t. refl }
more_plain unreachable (branch r d b k) h = record { got = refl; constant = λ gs t. refl }
more_plain (call x) (branch r d b k) h = record { got = refl; constant = λ gs t. refl }
more_plain (call_indirect x) (branch r d b k) h = record { got = refl; constant = λ gs t. refl }

-- of two instructions and more
more : (x : Instr) (rest : Code) → mid rest ≡ 1 → Other (in_front x rest)
more x rest h = elim (leaf_kind x) [
  | is_block r v e ↦ subst Other (sym (ap (λ y. in_front y rest) e ∙ in_block r v rest)) (record { got = refl; constant = λ gs t. refl })
  | is_loop r v e ↦ subst Other (sym (ap (λ y. in_front y rest) e ∙ in_loop r v rest)) (record { got = refl; constant = λ gs t. refl })
  | is_branch r v w e ↦ subst Other (sym (ap (λ y. in_front y rest) e ∙ in_if r v w rest)) (record { got = refl; constant = λ gs t. refl })
  | is_plain p e f ↦ subst Other (sym (f rest)) (more_plain p rest h)
]

-- of one that is no constant and no `global.get`
alone : (x : Instr) → ((v : Value) → x ≡ Const v → ⊥) → ((n : ℕ) → x ≡ GlobalGet n → ⊥) → Other (in_front x done)
unfolding in_front
alone Unreachable not_const not_get = record { got = refl; constant = λ gs t. refl }
alone Nop not_const not_get = record { got = refl; constant = λ gs t. refl }
alone Drop not_const not_get = record { got = refl; constant = λ gs t. refl }
alone Select not_const not_get = record { got = refl; constant = λ gs t. refl }
alone Return not_const not_get = record { got = refl; constant = λ gs t. refl }
alone MemorySize not_const not_get = record { got = refl; constant = λ gs t. refl }
alone MemoryGrow not_const not_get = record { got = refl; constant = λ gs t. refl }
alone MemoryCopy not_const not_get = record { got = refl; constant = λ gs t. refl }
alone MemoryFill not_const not_get = record { got = refl; constant = λ gs t. refl }
alone (Const v) not_const not_get = absurd (not_const v refl)
alone (Num op) not_const not_get = record { got = refl; constant = λ gs t. refl }
alone (Br l) not_const not_get = record { got = refl; constant = λ gs t. refl }
alone (BrIf l) not_const not_get = record { got = refl; constant = λ gs t. refl }
alone (BrTable ls l) not_const not_get = record { got = refl; constant = λ gs t. refl }
alone (Call x) not_const not_get = record { got = refl; constant = λ gs t. refl }
alone (CallIndirect x) not_const not_get = record { got = refl; constant = λ gs t. refl }
alone (LocalGet x) not_const not_get = record { got = refl; constant = λ gs t. refl }
alone (LocalSet x) not_const not_get = record { got = refl; constant = λ gs t. refl }
alone (LocalTee x) not_const not_get = record { got = refl; constant = λ gs t. refl }
alone (GlobalGet x) not_const not_get = absurd (not_get x refl)
alone (GlobalSet x) not_const not_get = record { got = refl; constant = λ gs t. refl }
alone (Load op a o) not_const not_get = record { got = refl; constant = λ gs t. refl }
alone (Store op a o) not_const not_get = record { got = refl; constant = λ gs t. refl }
alone (Block' r s b) not_const not_get = record { got = refl; constant = λ gs t. refl }
alone (Loop' r s b) not_const not_get = record { got = refl; constant = λ gs t. refl }
alone (If' r s a t b) not_const not_get = record { got = refl; constant = λ gs t. refl }

alone_got : (x : Instr) → ((n : ℕ) → x ≡ GlobalGet n → ⊥) → got_global (in_front x done) ≡ []
unfolding in_front
alone_got Unreachable not_get = refl
alone_got Nop not_get = refl
alone_got Drop not_get = refl
alone_got Select not_get = refl
alone_got Return not_get = refl
alone_got MemorySize not_get = refl
alone_got MemoryGrow not_get = refl
alone_got MemoryCopy not_get = refl
alone_got MemoryFill not_get = refl
alone_got (Const v) not_get = refl
alone_got (Num op) not_get = refl
alone_got (Br l) not_get = refl
alone_got (BrIf l) not_get = refl
alone_got (BrTable ls l) not_get = refl
alone_got (Call x) not_get = refl
alone_got (CallIndirect x) not_get = refl
alone_got (LocalGet x) not_get = refl
alone_got (LocalSet x) not_get = refl
alone_got (LocalTee x) not_get = refl
alone_got (GlobalGet x) not_get = absurd (not_get x refl)
alone_got (GlobalSet x) not_get = refl
alone_got (Load op a o) not_get = refl
alone_got (Store op a o) not_get = refl
alone_got (Block' r s b) not_get = refl
alone_got (Loop' r s b) not_get = refl
alone_got (If' r s a t b) not_get = refl

nothing : Other done
nothing = record { got = refl; constant = λ gs t. refl }

code_one : (xs : List Instr) (x : Instr) → length xs ≡ 1 → x ≡ get_or xs 0 x → code xs ≡ in_front x done
unfolding code onto
code_one [] x h e = absurd (omega arith)
code_one (y ∷ []) x h e = ap (λ (z : Instr). in_front z done) (sym e)
code_one (y ∷ z ∷ zs) x h e = absurd (omega arith)

-- a list that isn't of one instruction
pub no_single : (xs : List Instr) → (length xs ≡ 1 → ⊥) → Other (code xs)
unfolding code onto
no_single [] h = nothing
no_single (y ∷ []) h = absurd (h (omega arith))
no_single (y ∷ z ∷ zs) h = more y (code (z ∷ zs)) (ap mid (code_cons z zs) ∙ mid_front z (code zs))

pub single_other : (xs : List Instr) (x : Instr) → length xs ≡ 1 → x ≡ get_or xs 0 x → ((v : Value) → x ≡ Const v → ⊥) → ((n : ℕ) → x ≡ GlobalGet n → ⊥) → Other (code xs)
single_other xs x h e not_const not_get = subst Other (sym (code_one xs x h e)) (alone x not_const not_get)

pub single_got : (xs : List Instr) (x : Instr) → length xs ≡ 1 → x ≡ get_or xs 0 x → ((n : ℕ) → x ≡ GlobalGet n → ⊥) → got_global (code xs) ≡ []
single_got xs x h e not_get = ap got_global (code_one xs x h e) ∙ alone_got x not_get

pub single_const : (xs : List Instr) (x : Instr) (v : Value) → length xs ≡ 1 → x ≡ get_or xs 0 x → x ≡ Const v → code xs ≡ plain (basic (const v)) done
unfolding in_front
single_const xs x v h e f = code_one xs x h e ∙ ap (λ y. in_front y done) f

pub single_get : (xs : List Instr) (x : Instr) (n : ℕ) → length xs ≡ 1 → x ≡ get_or xs 0 x → x ≡ GlobalGet n → code xs ≡ plain (basic (global_get n)) done
unfolding in_front
single_get xs x n h e f = code_one xs x h e ∙ ap (λ y. in_front y done) f

pub ruleset expressions = (single_const, single_get)
