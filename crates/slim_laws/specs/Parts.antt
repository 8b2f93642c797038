-- Flat code in pieces and units, with slim pieces. A unit is a numbered call, or a construct with one inside; a piece is what stands between two of them.
use Rattle.std.specs.Prelude.{◌≡◌, ℕ, ◌+◌, ◌<◌, List, [], ◌∷◌, ◌++◌, length, map, Option, Some, None, Bool, true, false, ◌&&◌}
use Rattle.wa_types.specs.Syntax.{Plain, br, br_table, return, unreachable, local_get, call, call_indirect, Shape, a_block, a_loop, Code, done, plain, nest, branch}
use Rattle.wa_types.specs.Pausing.{Callee, direct, indirect, calls_of}
use Rattle.run_theory.specs.Flat.{Stmts, FlatFunc, followed_by, set_to, slots_got, code_of, result_got, body_of}
use Rattle.slim_laws.specs.Slim.{Terms, Slims}
use Rattle.slim_laws.specs.Emit.{elem, all_in, without, free_by, free_behind, can_keep, in_front, end_of, Told, emit}

-- What stands in a sequence behind its first piece; each unit has the piece behind it.
pub data Units (P : Type 0) : Type 0 where
  no_unit : Units P
  call_unit : (slots : List ℕ) → (to_call : Callee) → (to : Option ℕ) → (behind : P) → (rest : Units P) → Units P
  nest_unit : Shape → (first : P) → (body : Units P) → (behind : P) → (rest : Units P) → Units P
  if_unit : (condition : ℕ) → (first_then : P) → (then_arm : Units P) → (first_else : P) → (else_arm : Units P) → (behind : P) → (rest : Units P) → Units P

-- the call that goes there
abbrev pub call_to : Callee → Plain
call_to (direct x) = call x
call_to (indirect sort) = call_indirect sort

-- the code of units
abbrev pub flat_units : Units Code → Code
flat_units no_unit = done
flat_units (call_unit slots x to behind rest) = slots_got slots (plain (call_to x) (set_to to (followed_by behind (flat_units rest))))
flat_units (nest_unit s first body behind rest) = nest s None (followed_by first (flat_units body)) (followed_by behind (flat_units rest))
flat_units (if_unit x fa a fb b behind rest) = plain (local_get x) (branch None (followed_by fa (flat_units a)) (followed_by fb (flat_units b)) (followed_by behind (flat_units rest)))

-- units with the code of their pieces
abbrev pub codes : Units Stmts → Units Code
codes no_unit = no_unit
codes (call_unit slots x to behind rest) = call_unit slots x to (code_of behind) (codes rest)
codes (nest_unit s first body behind rest) = nest_unit s (code_of first) (codes body) (code_of behind) (codes rest)
codes (if_unit x fa a fb b behind rest) = if_unit x (code_of fa) (codes a) (code_of fb) (codes b) (code_of behind) (codes rest)

-- the code of a piece and the units behind it
abbrev pub whole : Stmts → Units Stmts → Code
whole first us = followed_by (code_of first) (flat_units (codes us))

-- the slots of the operands behind a piece and units, from those before
abbrev pub end_units : Terms → Stmts → Units Stmts → List ℕ → List ℕ
end_units t first no_unit base = end_of t first base
end_units t first (call_unit slots x to behind rest) base = end_units t behind rest (in_front to (without slots (end_of t first base)))
end_units t first (nest_unit a_block inner body behind rest) base = end_units t behind rest (end_of t first base)
end_units t first (nest_unit a_loop inner body behind rest) base = end_units t behind rest (end_units t inner body (end_of t first base))
end_units t first (if_unit x fa a fb b behind rest) base = end_units t behind rest (without (x ∷ []) (end_of t first base))

-- the slots of the operands behind a construct, from those before
abbrev pub behind_units : Terms → Shape → Stmts → Units Stmts → List ℕ → List ℕ
behind_units t a_block inner body base = base
behind_units t a_loop inner body base = end_units t inner body base

-- slim pieces
pub record Pieces : Type 0 where
  pub first : Code
  pub units : Units Code

-- pieces, where told
abbrev pub when : Bool → Option Pieces → Option Pieces
when true o = o
when false o = None

-- one piece and no unit, where its code is there
abbrev pub lone_piece : Option Code → Option Pieces
lone_piece None = None
lone_piece (Some c) = Some (record { first = c; units = no_unit })

-- a first piece, and a unit made with the pieces behind it, where all are there
abbrev pub with_rest : (Pieces → Units Code) → Option Code → Option Pieces → Option Pieces
with_rest make (Some c) (Some p) = Some (record { first = c; units = make p })
with_rest make _ _ = None

-- the same of a unit made of two
abbrev pub with_two : (Pieces → Pieces → Units Code) → Option Code → Option Pieces → Option Pieces → Option Pieces
with_two make (Some c) (Some p) (Some q) = Some (record { first = c; units = make p q })
with_two make _ _ _ = None

-- the same of a unit made of three
abbrev pub with_three : (Pieces → Pieces → Pieces → Units Code) → Option Code → Option Pieces → Option Pieces → Option Pieces → Option Pieces
with_three make (Some c) (Some p) (Some q) (Some r) = Some (record { first = c; units = make p q r })
with_three make _ _ _ _ = None

-- behind a numbered call its result stays on the operand stack
abbrev pub result_pends : Terms → Option ℕ → (base : List ℕ) → ((pend base : List ℕ) → Option Pieces) → Option Pieces
result_pends t None base next = next [] base
result_pends t (Some x) base next = when (can_keep t x []) (next (x ∷ []) (without (x ∷ []) base))

-- The slim pieces of a piece and units, with so many calls behind; units take their operands from slots.
abbrev pub emit_units : Terms → (n : ℕ) → (targets : List (List ℕ)) → (out : Option (List ℕ)) → Stmts → Units Stmts → (pend base : List ℕ) → Option Pieces
emit_units t n ts out first no_unit pend base = lone_piece (emit t ts out first pend base)
emit_units t n ts out first (call_unit slots x to behind rest) pend base =
    when (all_in (t.fixed (length (calls_of (set_to to (whole behind rest))) + n)) (end_of t first (pend ++ base)) && all_in slots (end_of t first (pend ++ base)))
    (with_rest (λ p. call_unit slots x None p.first p.units) (emit t ts (Some (end_of t first (pend ++ base))) first pend base)
    (result_pends t to (without slots (end_of t first (pend ++ base))) (emit_units t n ts out behind rest)))
emit_units t n ts out first (nest_unit s inner body behind rest) pend base =
    with_two (λ p q. nest_unit s p.first p.units q.first q.units) (emit t ts (Some (end_of t first (pend ++ base))) first pend base)
    (emit_units t (length (calls_of (whole behind rest)) + n) (end_of t first (pend ++ base) ∷ ts)
    (Some (behind_units t s inner body (end_of t first (pend ++ base)))) inner body [] (end_of t first (pend ++ base)))
    (emit_units t n ts out behind rest [] (behind_units t s inner body (end_of t first (pend ++ base))))
emit_units t n ts out first (if_unit x fa a fb b behind rest) pend base =
    when (elem x (end_of t first (pend ++ base)))
    (with_three (λ p q r. if_unit x p.first p.units q.first q.units r.first r.units) (emit t ts (Some (end_of t first (pend ++ base))) first pend base)
    (emit_units t (length (calls_of (whole fb b)) + (length (calls_of (whole behind rest)) + n)) (without (x ∷ []) (end_of t first (pend ++ base)) ∷ ts)
    (Some (without (x ∷ []) (end_of t first (pend ++ base)))) fa a [] (without (x ∷ []) (end_of t first (pend ++ base))))
    (emit_units t (length (calls_of (whole behind rest)) + n) (without (x ∷ []) (end_of t first (pend ++ base)) ∷ ts)
    (Some (without (x ∷ []) (end_of t first (pend ++ base)))) fb b [] (without (x ∷ []) (end_of t first (pend ++ base))))
    (emit_units t n ts out behind rest [] (without (x ∷ []) (end_of t first (pend ++ base)))))

-- code comes to its end: no branch, return or trap ends its sequence
abbrev pub goes_on : Code → Bool
goes_on done = true
goes_on (plain (br l) rest) = false
goes_on (plain (br_table ls l) rest) = false
goes_on (plain return rest) = false
goes_on (plain unreachable rest) = false
goes_on (plain p rest) = goes_on rest
goes_on (nest s r body rest) = goes_on rest
goes_on (branch r a b rest) = goes_on rest

-- No local is fixed at a call in a piece, and each piece in front of a unit comes to its end.
abbrev pub PiecesTold : Terms → (n : ℕ) → Stmts → Units Stmts → Type 0
PiecesTold t n first no_unit = Told t n first
PiecesTold t n first (call_unit slots x to behind rest) =
    (goes_on (code_of first) ≡ true) × Told t (length (calls_of (flat_units (codes (call_unit slots x to behind rest)))) + n) first × PiecesTold t n behind rest
PiecesTold t n first (nest_unit s inner body behind rest) =
    (goes_on (code_of first) ≡ true) × Told t (length (calls_of (flat_units (codes (nest_unit s inner body behind rest)))) + n) first
    × PiecesTold t (length (calls_of (whole behind rest)) + n) inner body × PiecesTold t n behind rest
PiecesTold t n first (if_unit x fa a fb b behind rest) =
    (goes_on (code_of first) ≡ true) × Told t (length (calls_of (flat_units (codes (if_unit x fa a fb b behind rest)))) + n) first
    × PiecesTold t (length (calls_of (whole fb b)) + (length (calls_of (whole behind rest)) + n)) fa a
    × PiecesTold t (length (calls_of (whole behind rest)) + n) fb b × PiecesTold t n behind rest

-- The code of slim pieces with the same units is slim.
abbrev pub PiecesAreSlim : Type 0
PiecesAreSlim =
    (t : Terms) (n : ℕ) (targets : List (List ℕ)) (out : Option (List ℕ)) (first : Stmts) (us : Units Stmts) (base : List ℕ) (p : Pieces)
    → ((x : ℕ) → t.slot x ≡ true → x < t.size) → PiecesTold t n first us → emit_units t n targets out first us [] base ≡ Some p
    → Slims t n (map (free_by t.slot) targets) (free_behind t.slot out) (free_by t.slot base) [] (whole first us) (followed_by p.first (flat_units p.units))

-- the body that a flat function stands for, with slim code in its block
abbrev pub slim_body : Pieces → Option ℕ → Code
slim_body p result = nest a_block None (followed_by p.first (flat_units p.units)) (result_got result)

-- a result's local is no slot
abbrev pub IsNoSlot : Terms → Option ℕ → Type 0
IsNoSlot t None = Unit {0}
IsNoSlot t (Some x) = t.slot x ≡ false

-- With the slim pieces of its statements a function has a slim body.
abbrev pub BodiesAreSlim : Type 0
BodiesAreSlim =
    (t : Terms) (f : FlatFunc) (first : Stmts) (us : Units Stmts) (p : Pieces) → ((x : ℕ) → t.slot x ≡ true → x < t.size) → code_of f.body ≡ whole first us
    → PiecesTold t 0 first us → IsNoSlot t f.result
    → emit_units t 0 ([] ∷ []) (Some []) first us [] [] ≡ Some p → Slims t 0 [] (λ y. true) (free_by t.slot []) [] (body_of f) (slim_body p f.result)
