-- Slots are made by instructions, one by each at most: a list that has every pair of the points of typed code.
use Rattle.std.proofs.Common.{arith, ◌≡◌, ℕ, zero, suc, ◌≤◌, ◌⊎◌, inl, inr, ◌++◌, length, take, drop, reverse, List, [], ◌∷◌, Some, None, Option, Bool, true, false, refl, ap, sym, ◌∙◌}
use Rattle.std.proofs.Common.{subst, append_assoc}
use Rattle.std.specs.Prelude.{slice_get, nat_le, if◌then◌else◌}
use Rattle.std.specs.List.{list_any}
use Rattle.wa_types.specs.declared.values.ValType.{ValType}
use Rattle.wa_types.specs.declared.values.ValType.TheVariants.{I32}
use Rattle.wa_types.specs.Syntax.{Basic, nop, drop as drop_operand, select, const, num, global_get, global_set, load, store, memory_size, memory_grow, memory_copy, memory_fill, Plain, basic, local_get, local_set}
use Rattle.wa_types.specs.Syntax.{local_tee, br, br_if, br_table, return, unreachable, call, call_indirect, Code, done, plain, nest, branch, FuncType}
use Rattle.wa_types.specs.Pruned.{is_last}
use Rattle.wa_types.specs.Accesses.{AccessRow, load_row, store_row}
use Rattle.wa_types.specs.declared.rules.Rule.TheVariants.{UnknownLabel, StackTypes, Alignment, ConstantGlobal}
use Rattle.wa_types.specs.Typing.{GlobalType, Around, Sig, moves, leaves, drops, selects, lacks, late, listed, sig, basic_sig, all_there, all_alike, jump, may_jump, jumps, calls, calls_at}
use Rattle.wa_types.specs.Typing.{gets, sets, tees, gets_global, sets_global, accesses, loads, stores, with_memory, label, Types}
use Rattle.wa_types.specs.Points.{after, unless_last, points}
use Rattle.wa_types.specs.Frames.{Pair, stands_at, same_pair, pair_of}
use Rattle.wa_types.proofs.PointLemmas.{In, in_right, takes_after, passes}
use Rattle.wa_types.proofs.SlotLemmas.{stands_splits, splits_stands}
use Rattle.slot_laws.proofs.Results.{any_left, any_right, is_pair}

-- ---- what stands, and what is new

-- what stands below stands under more
stands_under : (h : ℕ) (t : ValType) (above ops : List ValType) → stands_at h t ops ≡ true → stands_at h t (above ++ ops) ≡ true
stands_under h t above ops s =
    let w = stands_splits h t ops s in
    splits_stands h t (above ++ ops) (above ++ w.0) w.1 (ap (λ xs. above ++ xs) w.2 ∙ sym (append_assoc above w.0 (t ∷ w.1))) w.3

-- the topmost operand, or one below
pub stands_top_or : (h : ℕ) (t u : ValType) (ops : List ValType) → stands_at h t (u ∷ ops) ≡ true → (stands_at h t ops ≡ true) ⊎ ((h ≡ length ops) × (u ≡ t))
stands_top_or h t u ops s = let w = stands_splits h t (u ∷ ops) s in by_above w.0 w.1 w.2 w.3
  where
    by_above : (above lower : List ValType) → u ∷ ops ≡ above ++ t ∷ lower → h ≡ length lower → (stands_at h t ops ≡ true) ⊎ ((h ≡ length ops) × (u ≡ t))
    by_above [] lower e f =
        let a : u ≡ t = cc in
        let b : ops ≡ lower = cc in inr (f ∙ ap length (sym b), a)
    by_above (x ∷ above) lower e f = let b : ops ≡ above ++ t ∷ lower = cc in inl (splits_stands h t ops above lower b f)

-- the pair of the topmost of these operands
abbrev pub top_pair : (next under : List ValType) → List Pair
top_pair [] under = []
top_pair (t ∷ below) under = (record { number = length (below ++ under); ty = t }) ∷ []

pub top_length : (next under : List ValType) → length (top_pair next under) ≤ 1
top_length [] under = omega arith
top_length (t ∷ below) under = omega arith

-- what stands at code now or later is there already or one of these pairs
abbrev pub Stands : (h : ℕ) (t : ValType) → List ValType → List Pair → Type 0
Stands h t ops pairs = (stands_at h t ops ≡ true) ⊎ (list_any (same_pair h t) pairs ≡ true)

pub stands_left : (h : ℕ) (t : ValType) (ops : List ValType) (ps qs : List Pair) → Stands h t ops ps → Stands h t ops (ps ++ qs)
stands_left h t ops ps qs (inl s) = inl s
stands_left h t ops ps qs (inr e) = inr (any_left (same_pair h t) ps qs e)

pub stands_right : (h : ℕ) (t : ValType) (ops : List ValType) (ps qs : List Pair) → Stands h t ops qs → Stands h t ops (ps ++ qs)
stands_right h t ops ps qs (inl s) = inl s
stands_right h t ops ps qs (inr e) = inr (any_right (same_pair h t) ps qs e)

dropped : (n : ℕ) (ops : List ValType) → take n ops ++ drop n ops ≡ ops
dropped zero ops = refl
dropped (suc n) [] = refl
dropped (suc n) (x ∷ ops) = ap (λ xs. x ∷ xs) (dropped n ops)

-- where the top is dropped nothing is new
pub stands_dropped : (h : ℕ) (t : ValType) (n : ℕ) (ops under : List ValType) → stands_at h t (drop n ops ++ under) ≡ true → stands_at h t (ops ++ under) ≡ true
stands_dropped h t n ops under s =
    let e : take n ops ++ (drop n ops ++ under) ≡ ops ++ under = sym (append_assoc (take n ops) (drop n ops) under) ∙ ap (λ xs. xs ++ under) (dropped n ops) in
    subst (λ xs. stands_at h t xs ≡ true) e (stands_under h t (take n ops) (drop n ops ++ under) s)

-- at most one operand is put on
abbrev pub PutsOne : Sig → Type 0
PutsOne (moves ps rs) = length rs ≤ 1
PutsOne _ = Unit {0}

by_results : (h : ℕ) (t : ValType) (n : ℕ) (rs ops under : List ValType) → length rs ≤ 1 → stands_at h t ((rs ++ drop n ops) ++ under) ≡ true
    → Stands h t (ops ++ under) (top_pair (rs ++ drop n ops) under)
by_results h t n [] ops under le s = inl (stands_dropped h t n ops under s)
by_results h t n (r ∷ []) ops under le s = elim (stands_top_or h t r (drop n ops ++ under) s) [
  | inl g ↦ inl (stands_dropped h t n ops under g)
  | inr (e, f) ↦ inr (is_pair (length (drop n ops ++ under)) h t (Some r) e (ap Some f))
]
by_results h t n (r ∷ q ∷ rs) ops under le s = absurd (omega (arith, le))

-- what stands behind an instruction
pub stands_after : (h : ℕ) (t : ValType) (g : Sig) (ops under : List ValType) → PutsOne g → stands_at h t (after g ops ++ under) ≡ true → Stands h t (ops ++ under) (top_pair (after g ops) under)
stands_after h t (moves ps rs) ops under le s = by_results h t (length ps) rs ops under le s
stands_after h t (leaves ps) ops under le s = inl s
stands_after h t drops ops under le s = inl (stands_dropped h t 1 ops under s)
stands_after h t selects ops under le s = inl (stands_dropped h t 2 ops under s)
stands_after h t (lacks r) ops under le s = inl s
stands_after h t (late r ps rs) ops under le s = inl s

-- ---- instructions put one operand on at most

-- the functions and types around have one result at most
pub record FewResults (c : Around) : Type 0 where
  pub funcs : (x : ℕ) (t : FuncType) → slice_get c.funcs x ≡ Some t → length t.results ≤ 1
  pub types : (x : ℕ) (t : FuncType) → slice_get c.types x ≡ Some t → length t.results ≤ 1

reversed_few : (rs : List ValType) → length rs ≤ 1 → length (reverse rs) ≤ 1
reversed_few [] le = omega arith
reversed_few (r ∷ []) le = omega arith
reversed_few (r ∷ q ∷ rs) le = absurd (omega (arith, le))

puts_if : (b : Bool) (g k : Sig) → PutsOne g → PutsOne k → PutsOne (if b then g else k)
puts_if true g k p q = p
puts_if false g k p q = q

puts_calls : (o : Option FuncType) → ((t : FuncType) → o ≡ Some t → length t.results ≤ 1) → PutsOne (calls o)
puts_calls None h = tt
puts_calls (Some t) h = reversed_few t.results (h t refl)

puts_calls_at : (b : Bool) (o : Option FuncType) → ((t : FuncType) → o ≡ Some t → length t.results ≤ 1) → PutsOne (calls_at b o)
puts_calls_at b None h = tt
puts_calls_at false (Some t) h = tt
puts_calls_at true (Some t) h = reversed_few t.results (h t refl)

listed_few : (r : Option ValType) → length (listed r) ≤ 1
listed_few None = omega arith
listed_few (Some t) = omega arith

puts_may_jump : (o : Option (Option ValType)) → PutsOne (may_jump o)
puts_may_jump None = tt
puts_may_jump (Some r) = listed_few r

puts_jump : (o : Option (Option ValType)) → PutsOne (jump o)
puts_jump None = tt
puts_jump (Some r) = tt

puts_jumps : (ls : List (Option ValType)) (labels : List ℕ) (o : Option (Option ValType)) → PutsOne (jumps ls labels o)
puts_jumps ls labels None = tt
puts_jumps ls labels (Some r) =
    puts_if (all_there ls labels) (if all_alike ls r labels then leaves (I32 ∷ listed r) else lacks StackTypes) (lacks UnknownLabel)
    (puts_if (all_alike ls r labels) (leaves (I32 ∷ listed r)) (lacks StackTypes) tt tt) tt

puts_gets : (o : Option ValType) → PutsOne (gets o)
puts_gets None = tt
puts_gets (Some t) = omega arith

puts_sets : (o : Option ValType) → PutsOne (sets o)
puts_sets None = tt
puts_sets (Some t) = omega arith

puts_tees : (o : Option ValType) → PutsOne (tees o)
puts_tees None = tt
puts_tees (Some t) = omega arith

puts_gets_global : (o : Option GlobalType) → PutsOne (gets_global o)
puts_gets_global None = tt
puts_gets_global (Some g) = omega arith

puts_sets_global : (o : Option GlobalType) → PutsOne (sets_global o)
puts_sets_global None = tt
puts_sets_global (Some g) = puts_if g.mutable (moves (g.ty ∷ []) []) (late ConstantGlobal (g.ty ∷ []) []) (omega arith) tt

puts_accesses : (align : ℕ) (row : AccessRow) (ins outs : List ValType) → length outs ≤ 1 → PutsOne (accesses align row ins outs)
puts_accesses align row ins outs le = puts_if (nat_le align row.natural) (moves ins outs) (late Alignment ins outs) le tt

puts_loads : (b : Bool) (align : ℕ) (o : Option AccessRow) → PutsOne (loads b align o)
puts_loads false align o = tt
puts_loads true align None = tt
puts_loads true align (Some row) = puts_accesses align row (I32 ∷ []) (row.ty ∷ []) (omega arith)

puts_stores : (b : Bool) (align : ℕ) (o : Option AccessRow) → PutsOne (stores b align o)
puts_stores false align o = tt
puts_stores true align None = tt
puts_stores true align (Some row) = puts_accesses align row (row.ty ∷ I32 ∷ []) [] (omega arith)

puts_with_memory : (b : Bool) (ins outs : List ValType) → length outs ≤ 1 → PutsOne (with_memory b ins outs)
puts_with_memory false ins outs le = tt
puts_with_memory true ins outs le = le

puts_basic : (c : Around) (b : Basic) → PutsOne (basic_sig c b)
puts_basic c nop = omega arith
puts_basic c drop_operand = tt
puts_basic c select = tt
puts_basic c (const v) = omega arith
puts_basic c (num op) = omega arith
puts_basic c (global_get x) = puts_gets_global (slice_get c.globals x)
puts_basic c (global_set x) = puts_sets_global (slice_get c.globals x)
puts_basic c (load op align offset) = puts_loads c.memory align (load_row op)
puts_basic c (store op align offset) = puts_stores c.memory align (store_row op)
puts_basic c memory_size = puts_with_memory c.memory [] (I32 ∷ []) (omega arith)
puts_basic c memory_grow = puts_with_memory c.memory (I32 ∷ []) (I32 ∷ []) (omega arith)
puts_basic c memory_copy = puts_with_memory c.memory (I32 ∷ I32 ∷ I32 ∷ []) [] (omega arith)
puts_basic c memory_fill = puts_with_memory c.memory (I32 ∷ I32 ∷ I32 ∷ []) [] (omega arith)

pub puts_one : (c : Around) → FewResults c → (ls : List (Option ValType)) (p : Plain) → PutsOne (sig c ls p)
puts_one c few ls (basic b) = puts_basic c b
puts_one c few ls (local_get x) = puts_gets (slice_get c.locals x)
puts_one c few ls (local_set x) = puts_sets (slice_get c.locals x)
puts_one c few ls (local_tee x) = puts_tees (slice_get c.locals x)
puts_one c few ls (br l) = puts_jump (slice_get ls l)
puts_one c few ls (br_if l) = puts_may_jump (slice_get ls l)
puts_one c few ls (br_table labels l) = puts_jumps ls labels (slice_get ls l)
puts_one c few ls return = tt
puts_one c few ls unreachable = tt
puts_one c few ls (call x) = puts_calls (slice_get c.funcs x) (few.funcs x)
puts_one c few ls (call_indirect x) = puts_calls_at c.table (slice_get c.types x) (few.types x)

-- ---- the pairs that code makes

-- control may reach the end of the code
abbrev pub ends : Code → Bool
ends done = true
ends (plain p rest) = if is_last p then false else ends rest
ends (nest s r body rest) = ends rest
ends (branch r a b rest) = ends rest

-- the result of a construct whose end is never reached
abbrev pub pair_unless : Bool → ℕ → Option ValType → List Pair
pair_unless true h r = []
pair_unless false h r = pair_of h r

abbrev pub unless_last_pairs : Bool → List Pair → List Pair
unless_last_pairs true ps = []
unless_last_pairs false ps = ps

-- The pairs that the code's instructions make: each the topmost operand that it leaves. A construct's result is made in its
-- body, or else by the construct.
unfoldable pub made : Around → List (Option ValType) → Code → (under ops : List ValType) → List Pair
made c ls done under ops = []
made c ls (plain p rest) under ops = unless_last_pairs (is_last p) (top_pair (after (sig c ls p) ops) under ++ made c ls rest under (after (sig c ls p) ops))
made c ls (nest s r body rest) under ops =
    pair_unless (ends body) (length (ops ++ under)) r ++ (made c (label s r ∷ ls) body (ops ++ under) [] ++ made c ls rest under (listed r ++ ops))
made c ls (branch r a b rest) under ops =
    pair_unless (ends a) (length (drop 1 ops ++ under)) r
    ++ (made c (r ∷ ls) a (drop 1 ops ++ under) [] ++ (made c (r ∷ ls) b (drop 1 ops ++ under) [] ++ made c ls rest under (listed r ++ drop 1 ops)))

-- the operands at the end are those of a point
pub end_is_point : (c : Around) (ls : List (Option ValType)) (k : Code) (outs under ops : List ValType) → Types c ls k outs ops → ends k ≡ true → In (outs ++ under) (points c ls k under ops)
unfolding points Types
end_is_point c ls done outs under ops t e = inl (ap (λ xs. xs ++ under) (sym t))
end_is_point c ls (plain p rest) outs under ops t e = by_last (λ h. end_is_point c ls rest outs under t.0 t.2 h) (is_last p) refl e
  where
    by_last : (ends rest ≡ true → In (outs ++ under) (points c ls rest under t.0)) → (b : Bool) → is_last p ≡ b → (if b then false else ends rest) ≡ true
        → In (outs ++ under) ((ops ++ under) ∷ unless_last b (points c ls rest under (after (sig c ls p) ops)))
    by_last go true f h = cc
    by_last go false f h =
        inr (subst (λ xs. In (outs ++ under) (points c ls rest under xs)) (takes_after (sig c ls p) ops t.0 (passes c ls p f) t.1) (go h))
end_is_point c ls (nest s r body rest) outs under ops t e =
    inr (in_right (outs ++ under) (points c (label s r ∷ ls) body (ops ++ under) []) (points c ls rest under (listed r ++ ops)) (end_is_point c ls rest outs under (listed r ++ ops) t.1 e))
end_is_point c ls (branch r a b rest) outs under ops t e =
    let below : drop 1 ops ≡ t.0 = ap (drop 1) t.1 in
    let behind = end_is_point c ls rest outs under (listed r ++ t.0) t.4 e in
    let there = subst (λ xs. In (outs ++ under) (points c ls rest under (listed r ++ xs))) (sym below) behind in
    inr (in_right (outs ++ under) (points c (r ∷ ls) a (drop 1 ops ++ under) []) (points c (r ∷ ls) b (drop 1 ops ++ under) [] ++ points c ls rest under (listed r ++ drop 1 ops))
    (in_right (outs ++ under) (points c (r ∷ ls) b (drop 1 ops ++ under) []) (points c ls rest under (listed r ++ drop 1 ops)) there))
