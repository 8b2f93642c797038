-- The points of typed code, computed, and the slots that they need.
use Rattle.std.proofs.Common.{◌≡◌, ℕ, ◌⊎◌, inl, inr, ◌++◌, length, drop, nat_le, slice_get, List, [], ◌∷◌, Option, Some, None, Bool, true, false, if◌then◌else◌, refl, ap, sym, ◌∙◌, subst}
use Rattle.std.proofs.Math.Seq.{drop-append_seam}
use Rattle.wa_types.specs.declared.values.ValType.{ValType}
use Rattle.wa_types.specs.declared.values.ValType.TheVariants.{I32}
use Rattle.wa_types.specs.Accesses.{AccessRow, load_row, store_row}
use Rattle.wa_types.specs.Syntax.{Basic, nop, drop as drop_operand, select, const, num, global_get, global_set, load, store, memory_size, memory_grow, memory_copy, memory_fill, Plain, basic, local_get, local_set}
use Rattle.wa_types.specs.Syntax.{local_tee, br, br_if, br_table, return, unreachable, call, call_indirect, Code, done, plain, nest, branch, FuncType}
use Rattle.wa_types.specs.Pruned.{is_last}
use Rattle.wa_types.specs.declared.rules.Rule.TheVariants.{Alignment, ConstantGlobal}
use Rattle.wa_types.specs.Typing.{GlobalType, Around, Sig, moves, leaves, drops, selects, lacks, late, listed, sig, basic_sig, may_jump, calls, calls_at, gets, sets, tees, gets_global}
use Rattle.wa_types.specs.Typing.{sets_global, accesses, loads, stores, with_memory, Takes, label, Types}
use Rattle.wa_types.specs.Points.{Unless, AtPoint, after, unless_last, points}

-- a member of a list
abbrev pub In : List ValType → List (List ValType) → Type 0
In x [] = ⊥
In x (y ∷ ys) = (x ≡ y) ⊎ In x ys

pub in_left : (x : List ValType) (xs ys : List (List ValType)) → In x xs → In x (xs ++ ys)
in_left x [] ys h = absurd h
in_left x (z ∷ xs) ys (inl e) = inl e
in_left x (z ∷ xs) ys (inr h) = inr (in_left x xs ys h)

pub in_right : (x : List ValType) (xs ys : List (List ValType)) → In x ys → In x (xs ++ ys)
in_right x [] ys h = h
in_right x (z ∷ xs) ys h = inr (in_right x xs ys h)

pub in_either : (x : List ValType) (xs ys : List (List ValType)) → In x (xs ++ ys) → In x xs ⊎ In x ys
in_either x [] ys h = inr h
in_either x (z ∷ xs) ys (inl e) = inl (inl e)
in_either x (z ∷ xs) ys (inr h) = elim (in_either x xs ys h) [ inl k ↦ inl (inr k) | inr k ↦ inr k ]

-- control goes on behind the instruction
abbrev pub Passes : Sig → Type 0
Passes (leaves ps) = ⊥
Passes _ = Unit {0}

pub takes_after : (s : Sig) (ins mids : List ValType) → Passes s → Takes s ins mids → mids ≡ after s ins
takes_after (moves ps rs) ins mids p h = h.2 ∙ ap (λ z. rs ++ z) (sym (ap (drop (length ps)) h.1 ∙ drop-append_seam ps h.0))
takes_after (leaves ps) ins mids p h = absurd p
takes_after drops ins mids p h = sym (ap (drop 1) h.1)
takes_after selects ins mids p h = h.3 ∙ sym (ap (drop 2) h.2)
takes_after (lacks r) ins mids p h = absurd h
takes_after (late r ps rs) ins mids p h = absurd h

passes_if : (b : Bool) (s t : Sig) → Passes s → Passes t → Passes (if b then s else t)
passes_if true s t h k = h
passes_if false s t h k = k

passes_may_jump : (o : Option (Option ValType)) → Passes (may_jump o)
passes_may_jump None = tt
passes_may_jump (Some r) = tt

passes_calls : (o : Option FuncType) → Passes (calls o)
passes_calls None = tt
passes_calls (Some t) = tt

passes_calls_at : (b : Bool) (o : Option FuncType) → Passes (calls_at b o)
passes_calls_at b None = tt
passes_calls_at false (Some t) = tt
passes_calls_at true (Some t) = tt

passes_gets : (o : Option ValType) → Passes (gets o)
passes_gets None = tt
passes_gets (Some t) = tt

passes_sets : (o : Option ValType) → Passes (sets o)
passes_sets None = tt
passes_sets (Some t) = tt

passes_tees : (o : Option ValType) → Passes (tees o)
passes_tees None = tt
passes_tees (Some t) = tt

passes_gets_global : (o : Option GlobalType) → Passes (gets_global o)
passes_gets_global None = tt
passes_gets_global (Some g) = tt

passes_sets_global : (o : Option GlobalType) → Passes (sets_global o)
passes_sets_global None = tt
passes_sets_global (Some g) = passes_if g.mutable (moves (g.ty ∷ []) []) (late ConstantGlobal (g.ty ∷ []) []) tt tt

passes_accesses : (align : ℕ) (row : AccessRow) (ins outs : List ValType) → Passes (accesses align row ins outs)
passes_accesses align row ins outs = passes_if (nat_le align row.natural) (moves ins outs) (late Alignment ins outs) tt tt

passes_loads : (b : Bool) (align : ℕ) (o : Option AccessRow) → Passes (loads b align o)
passes_loads false align o = tt
passes_loads true align None = tt
passes_loads true align (Some row) = passes_accesses align row (I32 ∷ []) (row.ty ∷ [])

passes_stores : (b : Bool) (align : ℕ) (o : Option AccessRow) → Passes (stores b align o)
passes_stores false align o = tt
passes_stores true align None = tt
passes_stores true align (Some row) = passes_accesses align row (row.ty ∷ I32 ∷ []) []

passes_with_memory : (b : Bool) (ins outs : List ValType) → Passes (with_memory b ins outs)
passes_with_memory false ins outs = tt
passes_with_memory true ins outs = tt

passes_basic : (c : Around) (b : Basic) → Passes (basic_sig c b)
passes_basic c nop = tt
passes_basic c drop_operand = tt
passes_basic c select = tt
passes_basic c (const v) = tt
passes_basic c (num op) = tt
passes_basic c (global_get x) = passes_gets_global (slice_get c.globals x)
passes_basic c (global_set x) = passes_sets_global (slice_get c.globals x)
passes_basic c (load op align offset) = passes_loads c.memory align (load_row op)
passes_basic c (store op align offset) = passes_stores c.memory align (store_row op)
passes_basic c memory_size = passes_with_memory c.memory [] (I32 ∷ [])
passes_basic c memory_grow = passes_with_memory c.memory (I32 ∷ []) (I32 ∷ [])
passes_basic c memory_copy = passes_with_memory c.memory (I32 ∷ I32 ∷ I32 ∷ []) []
passes_basic c memory_fill = passes_with_memory c.memory (I32 ∷ I32 ∷ I32 ∷ []) []

pub passes : (c : Around) (ls : List (Option ValType)) (p : Plain) → is_last p ≡ false → Passes (sig c ls p)
passes c ls (basic b) e = passes_basic c b
passes c ls (local_get x) e = passes_gets (slice_get c.locals x)
passes c ls (local_set x) e = passes_sets (slice_get c.locals x)
passes c ls (local_tee x) e = passes_tees (slice_get c.locals x)
passes c ls (br l) e = cc
passes c ls (br_if l) e = passes_may_jump (slice_get ls l)
passes c ls (br_table labels l) e = cc
passes c ls return e = cc
passes c ls unreachable e = cc
passes c ls (call x) e = passes_calls (slice_get c.funcs x)
passes c ls (call_indirect x) e = passes_calls_at c.table (slice_get c.types x)

-- behind an instruction
behind : (c : Around) (ls : List (Option ValType)) (p : Plain) (rest : Code) (under ops mids all : List ValType) → Takes (sig c ls p) ops mids → (b : Bool) → b ≡ is_last p
    → (AtPoint c ls rest under mids all → In all (points c ls rest under mids)) → Unless b (AtPoint c ls rest under mids all)
    → In all (unless_last b (points c ls rest under (after (sig c ls p) ops)))
behind c ls p rest under ops mids all t true e go h = absurd h
behind c ls p rest under ops mids all t false e go h = subst (λ (z : List ValType). In all (points c ls rest under z)) (takes_after (sig c ls p) ops mids (passes c ls p (sym e)) t) (go h)

behind_back : (c : Around) (ls : List (Option ValType)) (p : Plain) (rest : Code) (under ops mids all : List ValType) → Takes (sig c ls p) ops mids → (b : Bool) → b ≡ is_last p
    → (In all (points c ls rest under mids) → AtPoint c ls rest under mids all) → In all (unless_last b (points c ls rest under (after (sig c ls p) ops)))
    → Unless b (AtPoint c ls rest under mids all)
behind_back c ls p rest under ops mids all t true e go h = absurd h
behind_back c ls p rest under ops mids all t false e go h = go (subst (λ (z : List ValType). In all (points c ls rest under z)) (sym (takes_after (sig c ls p) ops mids (passes c ls p (sym e)) t)) h)

pub visited : (c : Around) (ls : List (Option ValType)) (k : Code) (outs under ops all : List ValType) → AtPoint c ls k under ops all → In all (points c ls k under ops)
unfolding AtPoint points
visited c ls done outs under ops all h = inl h
visited c ls (plain p rest) outs under ops all (inl e) = inl e
visited c ls (plain p rest) outs under ops all (inr h) = inr (behind c ls p rest under ops h.0 all h.1 (is_last p) refl (λ w. visited c ls rest outs under h.0 all w) h.2)
visited c ls (nest s r body rest) outs under ops all (inl e) = inl e
visited c ls (nest s r body rest) outs under ops all (inr (inl h)) = inr (in_left all _ _ (visited c (label s r ∷ ls) body outs (ops ++ under) [] all h))
visited c ls (nest s r body rest) outs under ops all (inr (inr h)) = inr (in_right all (points c (label s r ∷ ls) body (ops ++ under) []) _ (visited c ls rest outs under (listed r ++ ops) all h))
visited c ls (branch r a b rest) outs under ops all (inl e) = inl e
visited c ls (branch r a b rest) outs under ops all (inr h) = inr (
    let e : h.0 ≡ drop 1 ops = sym (ap (drop 1) h.1) in
    subst (λ (z : List ValType). In all (points c (r ∷ ls) a (z ++ under) [] ++ (points c (r ∷ ls) b (z ++ under) [] ++ points c ls rest under (listed r ++ z)))) e
    (elim h.2 [
      | inl w ↦ in_left all _ _ (visited c (r ∷ ls) a outs (h.0 ++ under) [] all w)
      | inr w ↦ in_right all (points c (r ∷ ls) a (h.0 ++ under) []) _ (elim w [
        | inl v ↦ in_left all _ _ (visited c (r ∷ ls) b outs (h.0 ++ under) [] all v)
        | inr v ↦ in_right all (points c (r ∷ ls) b (h.0 ++ under) []) _ (visited c ls rest outs under (listed r ++ h.0) all v)
      ])
    ]))

pub is_visited : (c : Around) (ls : List (Option ValType)) (k : Code) (outs under ops all : List ValType) → Types c ls k outs ops → In all (points c ls k under ops) → AtPoint c ls k under ops all
unfolding AtPoint points Types
is_visited c ls done outs under ops all t (inl e) = e
is_visited c ls done outs under ops all t (inr h) = absurd h
is_visited c ls (plain p rest) outs under ops all t (inl e) = inl e
is_visited c ls (plain p rest) outs under ops all t (inr h) = inr (t.0, t.1, behind_back c ls p rest under ops t.0 all t.1 (is_last p) refl (λ w. is_visited c ls rest outs under t.0 all t.2 w) h)
is_visited c ls (nest s r body rest) outs under ops all t (inl e) = inl e
is_visited c ls (nest s r body rest) outs under ops all t (inr h) = inr (elim (in_either all (points c (label s r ∷ ls) body (ops ++ under) []) _ h) [
  | inl w ↦ inl (is_visited c (label s r ∷ ls) body (listed r) (ops ++ under) [] all t.0 w)
  | inr w ↦ inr (is_visited c ls rest outs under (listed r ++ ops) all t.1 w)
])
is_visited c ls (branch r a b rest) outs under ops all t (inl e) = inl e
is_visited c ls (branch r a b rest) outs under ops all t (inr h) =
    let e : drop 1 ops ≡ t.0 = ap (drop 1) t.1 in
    let g = subst (λ (z : List ValType). In all (points c (r ∷ ls) a (z ++ under) [] ++ (points c (r ∷ ls) b (z ++ under) [] ++ points c ls rest under (listed r ++ z)))) e h in
    inr (
      t.0,
      t.1,
      elim (in_either all (points c (r ∷ ls) a (t.0 ++ under) []) _ g) [
        | inl w ↦ inl (is_visited c (r ∷ ls) a (listed r) (t.0 ++ under) [] all t.2 w)
        | inr w ↦ inr (elim (in_either all (points c (r ∷ ls) b (t.0 ++ under) []) _ w) [
          | inl v ↦ inl (is_visited c (r ∷ ls) b (listed r) (t.0 ++ under) [] all t.3 v)
          | inr v ↦ inr (is_visited c ls rest outs under (listed r ++ t.0) all t.4 v)
        ])
      ],
    )
