-- A valid module is valid with the memory that it is compared with.
use Rattle.std.proofs.Common.{◌≡◌, ℕ, ◌≤◌, ◌++◌, List, [], ◌∷◌, map, true, refl, sym, ap, ◌∙◌, subst, length, arith, append_assoc, length-append}
use Rattle.std.specs.Prelude.{nat_lt, nat_le, ◌^◌}
use Rattle.std.specs.List.{list_all}
use Rattle.std.proofs.lemmas.Bool.{ltb-true, lt-ltb, and_parts, and_from}
use Rattle.std.proofs.lemmas.List.{append-nil}
use Rattle.wa_types.specs.declared.syntax.Limits.{Limits}
use Rattle.wa_types.specs.Syntax.{Func, Segment, Module}
use Rattle.wa_types.specs.declared.syntax.Space.TheVariants.{Memory as a_memory}
use Rattle.wa_types.specs.Typing.{listed}
use Rattle.wa_types.specs.Base.{one_page, added_memories, Base}
use Rattle.wa_types.specs.Modules.{imported, imported_memory, all_tables, all_memories, around}
use Rattle.wa_types.specs.Validity.{all_below, exported, limits_fit, Valid}
use Rattle.run_theory.proofs.WiderTyping.{Wider, types_wider}

pub below_more : (n k : ℕ) (xs : List ℕ) → n ≤ k → all_below n xs ≡ true → all_below k xs ≡ true
below_more n k [] le h = refl
below_more n k (x ∷ xs) le h =
    let b = and_parts (nat_lt x n) (all_below n xs) h in
    let lt = ltb-true x n b.0 in and_from (nat_lt x k) (all_below k xs) (lt-ltb x k (omega arith)) (below_more n k xs le b.1)

module _ (m : Module) where
  -- the module with a memory
  abbrev b : Module
  b = record m { memories = m.memories ++ added_memories (all_memories m) }

  memories_are : all_memories b ≡ all_memories m ++ added_memories (all_memories m)
  memories_are = sym (append_assoc (imported imported_memory m) m.memories (added_memories (all_memories m)))

  -- it has the memories of the module, or the added one where the module has none
  by_memories : (P : List Limits → Type 0) → P (all_memories m) → P (one_page ∷ []) → P (all_memories b)
  by_memories P h one = subst P (sym memories_are) (by_list (all_memories m) h)
    where
      by_list : (ms : List Limits) → P ms → P (ms ++ added_memories ms)
      by_list [] g = one
      by_list (x ∷ xs) g = subst P (sym (append-nil (x ∷ xs))) g

  has_one : nat_lt 0 (length (all_memories b)) ≡ true
  has_one = ap (λ ms. nat_lt 0 (length ms)) memories_are ∙ by_list (all_memories m)
    where
      by_list : (ms : List Limits) → nat_lt 0 (length (ms ++ added_memories ms)) ≡ true
      by_list [] = refl
      by_list (x ∷ xs) = lt-ltb 0 (length (x ∷ (xs ++ []))) (omega arith)

  memories_count : length (all_memories m) ≤ length (all_memories b)
  memories_count = let e = ap length memories_are in let l = length-append (all_memories m) (added_memories (all_memories m)) in omega arith

  wider : (f : Func) → Wider (around m f) (around b f)
  wider f = record {
    types = λ x t e. e;
    funcs = λ x t e. e;
    globals = λ x g e. e;
    table = refl;
    memory = λ e. has_one;
    locals = refl;
    result = refl;
  }

  pub with_memory_valid : Valid m → Valid b
  with_memory_valid v =
      let limits = and_parts (list_all (limits_fit (2 ^ 32)) (all_tables m)) (list_all (limits_fit 65536) (all_memories m)) v.limits in
      let single = and_parts (nat_le (length (all_tables m)) 1) (nat_le (length (all_memories m)) 1) v.single in
      record {
        types = v.types;
        sorts = v.sorts;
        bodies = λ i f e. types_wider (around m f) (around b f) (wider f) ((around m f).result ∷ []) f.body (listed (around m f).result) [] (v.bodies i f e);
        limits = and_from (list_all (limits_fit (2 ^ 32)) (all_tables b)) (list_all (limits_fit 65536) (all_memories b)) limits.0
            (by_memories (λ ms. list_all (limits_fit 65536) ms ≡ true) limits.1 refl);
        single = and_from (nat_le (length (all_tables b)) 1) (nat_le (length (all_memories b)) 1) single.0 (by_memories (λ ms. nat_le (length ms) 1 ≡ true) single.1 refl);
        constants = v.constants;
        globals = v.globals;
        tables = v.tables;
        memories = below_more (length (all_memories m)) (length (all_memories b)) (exported a_memory m ++ map (λ (s : Segment). s.memory) m.segments) memories_count v.memories;
        funcs = v.funcs;
        start = v.start;
        names = v.names;
      }

pub base_valid : (m : Module) → Valid m → Valid (Base m)
unfolding Base
base_valid m v = with_memory_valid m v

pub base_has_memory : (m : Module) → nat_lt 0 (length (all_memories (Base m))) ≡ true
unfolding Base
base_has_memory m = has_one m

-- more stands around a body in the module with the memory
pub base_wider : (m : Module) (f : Func) → Wider (around m f) (around (Base m) f)
unfolding Base
base_wider m f = wider m f
