-- Which instruction that holds no other has an opcode and what follows it.
use Rattle.std.proofs.Common.{◌≡◌, ℕ, ◌<◌, ◌≤◌, Some, refl, ap, sym, ◌∙◌, arith, cond, nat_eq}
use Rattle.wa_types.specs.declared.instrs.Instr.{Instr}
use Rattle.wa_types.specs.declared.instrs.Instr.TheVariants.{Num, Load, Store}
use Rattle.wa_types.specs.declared.values.Value.TheVariants.{I32 as value_32, I64 as value_64}
use Rattle.wa_types.specs.declared.operators.NumOp.{NumOp}
use Rattle.wa_types.specs.Operators.{opcode_of}
use Rattle.wa_types.specs.Binary.{nothing, zero_byte, index, access}
use Rattle.wa_types.specs.Syntax.{nop, drop, select, const, num, global_get, global_set, load, store, memory_size, memory_grow, memory_copy, memory_fill, Plain, basic, local_get, local_set, local_tee, br, br_if, br_table, return, unreachable, call, call_indirect, done, plain}
use Rattle.wa_types.specs.View.{in_front}
use Rattle.wa_types.specs.Reading.{HasKind}
use Rattle.wa_types.specs.Opcodes.{plain_immediates, plain_opcode}
use Rattle.wa_types.proofs.OperatorLemmas.{operator_low}
use Rattle.file_laws.proofs.CodeWriting.{load_range, store_range}
use Rattle.file_laws.proofs.PlainOf.{plain_of, num_again, plain_again}
use Rattle.wasm_build.specs.BuildsPlain.{code_of_one, NamesPlain}

-- the instructions that an index follows
abbrev pub index_at : ℕ → ℕ → Plain
index_at op x =
    cond (nat_eq op 0x0C) (br x) (cond (nat_eq op 0x0D) (br_if x) (cond (nat_eq op 0x10) (call x) (cond (nat_eq op 0x20) (local_get x) (cond (nat_eq op 0x21) (local_set x)
    (cond (nat_eq op 0x22) (local_tee x) (cond (nat_eq op 0x23) (basic (global_get x)) (basic (global_set x))))))))

index_same : (x y : ℕ) → index x ≡ index y → x ≡ y
index_same x y e = cc

index_again : (p : Plain) (x : ℕ) → plain_immediates p ≡ index x → index_at (plain_opcode p) x ≡ p
index_again (basic nop) x e = absurd (cc)
index_again (basic drop) x e = absurd (cc)
index_again (basic select) x e = absurd (cc)
index_again (basic (const (value_32 n))) x e = absurd (cc)
index_again (basic (const (value_64 n))) x e = absurd (cc)
index_again (basic (num op)) x e = absurd (cc)
index_again (basic (global_get y)) x e = ap (λ k. basic (global_get k)) (sym (index_same y x e))
index_again (basic (global_set y)) x e = ap (λ k. basic (global_set k)) (sym (index_same y x e))
index_again (basic (load op align offset)) x e = absurd (cc)
index_again (basic (store op align offset)) x e = absurd (cc)
index_again (basic memory_size) x e = absurd (cc)
index_again (basic memory_grow) x e = absurd (cc)
index_again (basic memory_copy) x e = absurd (cc)
index_again (basic memory_fill) x e = absurd (cc)
index_again (local_get y) x e = ap (λ k. local_get k) (sym (index_same y x e))
index_again (local_set y) x e = ap (λ k. local_set k) (sym (index_same y x e))
index_again (local_tee y) x e = ap (λ k. local_tee k) (sym (index_same y x e))
index_again (br y) x e = ap (λ k. br k) (sym (index_same y x e))
index_again (br_if y) x e = ap (λ k. br_if k) (sym (index_same y x e))
index_again (br_table targets l) x e = absurd (cc)
index_again return x e = absurd (cc)
index_again unreachable x e = absurd (cc)
index_again (call y) x e = ap (λ k. call k) (sym (index_same y x e))
index_again (call_indirect y) x e = absurd (cc)

pub named_index : (i : Instr) (op k x : ℕ) → op ≡ k → code_of_one i ≡ plain (index_at k x) done → NamesPlain op (index x) (Some i)
named_index i op k x a b = record {
  named = λ p h e f. b ∙ ap (λ q. plain q done) (ap (λ n. index_at n x) (sym a ∙ e) ∙ index_again p x f);
}

-- the instructions that nothing follows, operators apart
abbrev pub simple_at : ℕ → Plain
simple_at op = cond (nat_eq op 0x00) unreachable (cond (nat_eq op 0x01) (basic nop) (cond (nat_eq op 0x0F) return (cond (nat_eq op 0x1A) (basic drop) (basic select))))

simple_again : (p : Plain) → plain_opcode p < 0x45 → plain_immediates p ≡ nothing → simple_at (plain_opcode p) ≡ p
simple_again (basic nop) h e = refl
simple_again (basic drop) h e = refl
simple_again (basic select) h e = refl
simple_again (basic (const (value_32 n))) h e = absurd (cc)
simple_again (basic (const (value_64 n))) h e = absurd (cc)
simple_again (basic (num op)) h e = absurd (omega (arith, h, operator_low op))
simple_again (basic (global_get y)) h e = absurd (cc)
simple_again (basic (global_set y)) h e = absurd (cc)
simple_again (basic (load op align offset)) h e = absurd (cc)
simple_again (basic (store op align offset)) h e = absurd (cc)
simple_again (basic memory_size) h e = absurd (cc)
simple_again (basic memory_grow) h e = absurd (cc)
simple_again (basic memory_copy) h e = absurd (cc)
simple_again (basic memory_fill) h e = absurd (cc)
simple_again (local_get y) h e = absurd (cc)
simple_again (local_set y) h e = absurd (cc)
simple_again (local_tee y) h e = absurd (cc)
simple_again (br y) h e = absurd (cc)
simple_again (br_if y) h e = absurd (cc)
simple_again (br_table targets l) h e = absurd (cc)
simple_again return h e = refl
simple_again unreachable h e = refl
simple_again (call y) h e = absurd (cc)
simple_again (call_indirect y) h e = absurd (cc)

pub named_simple : (i : Instr) (op k : ℕ) → op ≡ k → k < 0x45 → code_of_one i ≡ plain (simple_at k) done → NamesPlain op nothing (Some i)
named_simple i op k a small b = record {
  named = λ p h e f. let n = sym a ∙ e in b ∙ ap (λ q. plain q done) (ap simple_at n ∙ simple_again p (omega (arith, n, small)) f);
}

named_operator : (n : NumOp) (op : ℕ) → op ≡ opcode_of n → (p : Plain) → HasKind p → op ≡ plain_opcode p → plain_immediates p ≡ nothing → basic (num n) ≡ p
named_operator n op a p h e f = sym (num_again n) ∙ (λ i. plain_of ((sym a ∙ e) i) (sym f i)) ∙ plain_again p h

pub names_operator : (n : NumOp) (op : ℕ) → op ≡ opcode_of n → NamesPlain op nothing (Some (Num n))
unfolding in_front
names_operator n op a = record { named = λ p h e f. ap (λ q. plain q done) (named_operator n op a p h e f) }

access_same : (a o c d : ℕ) → access a o ≡ access c d → (a ≡ c) × (o ≡ d)
access_same a o c d e = ((let p : a ≡ c = cc in p), (let p : o ≡ d = cc in p))

named_load : (op a o : ℕ) → op ≤ 0x35 → (p : Plain) → HasKind p → op ≡ plain_opcode p → plain_immediates p ≡ access a o → code_of_one (Load op a o) ≡ plain p done
unfolding in_front
named_load op a o small (basic nop) h e f = absurd (cc)
named_load op a o small (basic drop) h e f = absurd (cc)
named_load op a o small (basic select) h e f = absurd (cc)
named_load op a o small (basic (const (value_32 n))) h e f = absurd (cc)
named_load op a o small (basic (const (value_64 n))) h e f = absurd (cc)
named_load op a o small (basic (num m)) h e f = absurd (cc)
named_load op a o small (basic (global_get y)) h e f = absurd (cc)
named_load op a o small (basic (global_set y)) h e f = absurd (cc)
named_load op a o small (basic (load n align offset)) h e f = let g = access_same align offset a o f in λ i. plain (basic (load (e i) (sym g.0 i) (sym g.1 i))) done
named_load op a o small (basic (store n align offset)) h e f = absurd (omega (arith, small, e, (store_range n h).0))
named_load op a o small (basic memory_size) h e f = absurd (cc)
named_load op a o small (basic memory_grow) h e f = absurd (cc)
named_load op a o small (basic memory_copy) h e f = absurd (cc)
named_load op a o small (basic memory_fill) h e f = absurd (cc)
named_load op a o small (local_get y) h e f = absurd (cc)
named_load op a o small (local_set y) h e f = absurd (cc)
named_load op a o small (local_tee y) h e f = absurd (cc)
named_load op a o small (br y) h e f = absurd (cc)
named_load op a o small (br_if y) h e f = absurd (cc)
named_load op a o small (br_table targets l) h e f = absurd (cc)
named_load op a o small return h e f = absurd (cc)
named_load op a o small unreachable h e f = absurd (cc)
named_load op a o small (call y) h e f = absurd (cc)
named_load op a o small (call_indirect y) h e f = absurd (cc)

named_store : (op a o : ℕ) → 0x36 ≤ op → (p : Plain) → HasKind p → op ≡ plain_opcode p → plain_immediates p ≡ access a o → code_of_one (Store op a o) ≡ plain p done
unfolding in_front
named_store op a o big (basic nop) h e f = absurd (cc)
named_store op a o big (basic drop) h e f = absurd (cc)
named_store op a o big (basic select) h e f = absurd (cc)
named_store op a o big (basic (const (value_32 n))) h e f = absurd (cc)
named_store op a o big (basic (const (value_64 n))) h e f = absurd (cc)
named_store op a o big (basic (num m)) h e f = absurd (cc)
named_store op a o big (basic (global_get y)) h e f = absurd (cc)
named_store op a o big (basic (global_set y)) h e f = absurd (cc)
named_store op a o big (basic (load n align offset)) h e f = absurd (omega (arith, big, e, (load_range n h).1))
named_store op a o big (basic (store n align offset)) h e f = let g = access_same align offset a o f in λ i. plain (basic (store (e i) (sym g.0 i) (sym g.1 i))) done
named_store op a o big (basic memory_size) h e f = absurd (cc)
named_store op a o big (basic memory_grow) h e f = absurd (cc)
named_store op a o big (basic memory_copy) h e f = absurd (cc)
named_store op a o big (basic memory_fill) h e f = absurd (cc)
named_store op a o big (local_get y) h e f = absurd (cc)
named_store op a o big (local_set y) h e f = absurd (cc)
named_store op a o big (local_tee y) h e f = absurd (cc)
named_store op a o big (br y) h e f = absurd (cc)
named_store op a o big (br_if y) h e f = absurd (cc)
named_store op a o big (br_table targets l) h e f = absurd (cc)
named_store op a o big return h e f = absurd (cc)
named_store op a o big unreachable h e f = absurd (cc)
named_store op a o big (call y) h e f = absurd (cc)
named_store op a o big (call_indirect y) h e f = absurd (cc)

pub names_load : (op a o : ℕ) → op ≤ 0x35 → NamesPlain op (access a o) (Some (Load op a o))
names_load op a o small = record { named = λ p h e f. named_load op a o small p h e f }

pub names_store : (op a o : ℕ) → 0x36 ≤ op → NamesPlain op (access a o) (Some (Store op a o))
names_store op a o big = record { named = λ p h e f. named_store op a o big p h e f }

named_size : (op : ℕ) (p : Plain) → op ≡ 0x3F → op ≡ plain_opcode p → plain_immediates p ≡ zero_byte → basic memory_size ≡ p
named_size op (basic nop) a e f = absurd (cc)
named_size op (basic drop) a e f = absurd (cc)
named_size op (basic select) a e f = absurd (cc)
named_size op (basic (const (value_32 n))) a e f = absurd (cc)
named_size op (basic (const (value_64 n))) a e f = absurd (cc)
named_size op (basic (num m)) a e f = absurd (cc)
named_size op (basic (global_get y)) a e f = absurd (cc)
named_size op (basic (global_set y)) a e f = absurd (cc)
named_size op (basic (load n align offset)) a e f = absurd (cc)
named_size op (basic (store n align offset)) a e f = absurd (cc)
named_size op (basic memory_size) a e f = refl
named_size op (basic memory_grow) a e f = absurd (omega (arith, a, e))
named_size op (basic memory_copy) a e f = absurd (omega (arith, a, e))
named_size op (basic memory_fill) a e f = absurd (omega (arith, a, e))
named_size op (local_get y) a e f = absurd (cc)
named_size op (local_set y) a e f = absurd (cc)
named_size op (local_tee y) a e f = absurd (cc)
named_size op (br y) a e f = absurd (cc)
named_size op (br_if y) a e f = absurd (cc)
named_size op (br_table targets l) a e f = absurd (cc)
named_size op return a e f = absurd (cc)
named_size op unreachable a e f = absurd (cc)
named_size op (call y) a e f = absurd (cc)
named_size op (call_indirect y) a e f = absurd (cc)

named_grow : (op : ℕ) (p : Plain) → (op ≡ 0x3F → ⊥) → op ≡ plain_opcode p → plain_immediates p ≡ zero_byte → basic memory_grow ≡ p
named_grow op (basic nop) a e f = absurd (cc)
named_grow op (basic drop) a e f = absurd (cc)
named_grow op (basic select) a e f = absurd (cc)
named_grow op (basic (const (value_32 n))) a e f = absurd (cc)
named_grow op (basic (const (value_64 n))) a e f = absurd (cc)
named_grow op (basic (num m)) a e f = absurd (cc)
named_grow op (basic (global_get y)) a e f = absurd (cc)
named_grow op (basic (global_set y)) a e f = absurd (cc)
named_grow op (basic (load n align offset)) a e f = absurd (cc)
named_grow op (basic (store n align offset)) a e f = absurd (cc)
named_grow op (basic memory_size) a e f = absurd (a e)
named_grow op (basic memory_grow) a e f = refl
named_grow op (basic memory_copy) a e f = absurd (cc)
named_grow op (basic memory_fill) a e f = absurd (cc)
named_grow op (local_get y) a e f = absurd (cc)
named_grow op (local_set y) a e f = absurd (cc)
named_grow op (local_tee y) a e f = absurd (cc)
named_grow op (br y) a e f = absurd (cc)
named_grow op (br_if y) a e f = absurd (cc)
named_grow op (br_table targets l) a e f = absurd (cc)
named_grow op return a e f = absurd (cc)
named_grow op unreachable a e f = absurd (cc)
named_grow op (call y) a e f = absurd (cc)
named_grow op (call_indirect y) a e f = absurd (cc)

pub names_size : (i : Instr) (op : ℕ) → op ≡ 0x3F → code_of_one i ≡ plain (basic memory_size) done → NamesPlain op zero_byte (Some i)
names_size i op a b = record { named = λ p h e f. b ∙ ap (λ q. plain q done) (named_size op p a e f) }

pub names_grow : (i : Instr) (op : ℕ) → (op ≡ 0x3F → ⊥) → code_of_one i ≡ plain (basic memory_grow) done → NamesPlain op zero_byte (Some i)
names_grow i op a b = record { named = λ p h e f. b ∙ ap (λ q. plain q done) (named_grow op p a e f) }
