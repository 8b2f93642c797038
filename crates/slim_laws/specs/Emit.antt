-- The slim code of flat statements: the topmost operands stay on the operand stack along plain statements, and are set to their
-- slots in front of each call, branch and construct.
use Rattle.std.specs.Prelude.{◌≡◌, ℕ, zero, suc, ◌+◌, ◌<◌, List, [], ◌∷◌, ◌++◌, length, map, Option, Some, None, Bool, true, false, not, ◌&&◌, ◌||◌, nat_eq, if◌then◌else◌}
use Rattle.wa_types.specs.Syntax.{basic, local_get, local_set, local_tee, br, br_if, br_table, unreachable, call, call_indirect, a_block, a_loop, Shape, Code, done, plain, nest, branch}
use Rattle.wa_types.specs.Pausing.{calls_of}
use Rattle.wa_model.specs.declared.flat.Operand.{Operand}
use Rattle.wa_model.specs.declared.flat.Operand.TheVariants.{Local, Const}
use Rattle.wa_model.specs.Store.{takes, gives}
use Rattle.run_theory.specs.Flat.{Stmts, no_more, computes, copies, calls, leaps, leaps_if, leaps_by, nests, decides, halts, set_to, slots_got, last_of, followed_by, code_of}
use Rattle.slim_laws.specs.Slim.{Free, Terms, Slims}

-- a number is among these
abbrev pub elem : ℕ → List ℕ → Bool
elem x [] = false
elem x (y ∷ ys) = nat_eq x y || elem x ys

-- each of the first is among the second
abbrev pub all_in : List ℕ → List ℕ → Bool
all_in [] ys = true
all_in (x ∷ xs) ys = elem x ys && all_in xs ys

-- a number in front of others, unless told
abbrev pub without_if : Bool → ℕ → List ℕ → List ℕ
without_if true y ys = ys
without_if false y ys = y ∷ ys

-- the second list without the first
abbrev pub without : List ℕ → List ℕ → List ℕ
without xs [] = []
without xs (y ∷ ys) = without_if (elem y xs) y (without xs ys)

-- the slots that aren't among these
abbrev pub free_by : (slot : ℕ → Bool) → List ℕ → Free
free_by slot base y = slot y && not (elem y base)

-- the list behind these, where they are its first
abbrev pub strip : List ℕ → List ℕ → Option (List ℕ)
strip [] ys = Some ys
strip (x ∷ xs) [] = None
strip (x ∷ xs) (y ∷ ys) = if nat_eq x y then strip xs ys else None

-- the first list backwards, in front of the second
abbrev pub rev_onto : List ℕ → List ℕ → List ℕ
rev_onto [] ys = ys
rev_onto (x ∷ xs) ys = rev_onto xs (x ∷ ys)

-- the local of an operand in front of others, where it is no constant
abbrev pub name_onto : Operand → Option (List ℕ) → Option (List ℕ)
name_onto (Const v) o = None
name_onto (Local x) None = None
name_onto (Local x) (Some xs) = Some (x ∷ xs)

-- the locals of operands, where none is a constant
abbrev pub names : List Operand → Option (List ℕ)
names [] = Some []
names (a ∷ args) = name_onto a (names args)

-- slots set, the topmost operand's first
abbrev pub flushed : List ℕ → Code → Code
flushed [] c = c
flushed (x ∷ xs) c = plain (local_set x) (flushed xs c)

-- The slots whose values are kept on the operand stack, the topmost first; those that hold their operands; and the code in front.
pub record Part : Type 0 where
  pub pend : List ℕ
  pub base : List ℕ
  pub front : Code → Code

-- code with something in front, where it is there
abbrev pub then_code : (Code → Code) → Option Code → Option Code
then_code wrap None = None
then_code wrap (Some c) = Some (wrap c)

-- code, where told
abbrev pub only_if : Bool → Option Code → Option Code
only_if true o = o
only_if false o = None

-- all slots set, and these got
abbrev pub got_all : List ℕ → (pend base : List ℕ) → Option Part
got_all xs pend base =
    if all_in xs (pend ++ base) then Some (record { pend = []; base = without xs (pend ++ base); front = λ c. flushed pend (slots_got xs c) }) else None

-- operands are taken: those on the operand stack, or all from their slots
abbrev pub by_strip : List ℕ → (pend base : List ℕ) → Option (List ℕ) → Option Part
by_strip xs pend base None = got_all xs pend base
by_strip xs pend base (Some left) = Some (record { pend = left; base = base; front = λ c. c })

-- operands of these slots are taken
abbrev pub taken : List ℕ → (pend base : List ℕ) → Option Part
taken xs pend base = by_strip xs pend base (strip (rev_onto xs []) pend)

-- the same, where nothing may be left on the operand stack
abbrev pub by_strip_alone : List ℕ → (pend base : List ℕ) → Option (List ℕ) → Option Part
by_strip_alone xs pend base (Some []) = Some (record { pend = []; base = base; front = λ c. c })
by_strip_alone xs pend base _ = got_all xs pend base

-- operands of these slots are taken, and none is left
abbrev pub taken_alone : List ℕ → (pend base : List ℕ) → Option Part
taken_alone xs pend base = by_strip_alone xs pend base (strip (rev_onto xs []) pend)

-- a result is kept on the operand stack
abbrev pub can_keep : Terms → ℕ → (pend : List ℕ) → Bool
can_keep t x pend = t.slot x && not (elem x pend)

-- The code behind, by the slots kept on the operand stack and those that hold their operands.
abbrev pub Emission : Type 0
Emission = (pend base : List ℕ) → Option Code

-- a result, where there is one, is kept on the operand stack in front of the code behind
abbrev pub result_kept : Terms → Option ℕ → (pend base : List ℕ) → Emission → Option Code
result_kept t None pend base next = next pend base
result_kept t (Some x) pend base next = only_if (can_keep t x pend) (next (x ∷ pend) (without (x ∷ []) base))

-- how many results are told: one or none
abbrev pub count : Option ℕ → ℕ
count None = 0
count (Some x) = 1

-- an instruction with so many operands
abbrev pub op_code : Terms → Code → Option ℕ → ℕ → (pend base : List ℕ) → Emission → Option Code
op_code t (plain (basic b) done) to n pend base next = only_if (nat_eq (takes b) n && nat_eq (gives b) (count to)) (then_code (plain (basic b)) (result_kept t to pend base next))
op_code t (plain (local_get y) done) (Some x) zero pend base next = only_if (not (t.slot y)) (then_code (plain (local_get y)) (result_kept t (Some x) pend base next))
op_code t (plain (local_set y) done) None (suc zero) pend base next = only_if (not (t.slot y) && not (elem y pend)) (then_code (plain (local_set y)) (next pend base))
op_code t (plain (local_tee y) done) (Some x) (suc zero) pend base next = only_if (not (t.slot y) && not (elem y pend)) (then_code (plain (local_tee y)) (result_kept t (Some x) pend base next))
op_code t _ to n pend base next = None

-- the same behind the code that takes its operands
abbrev pub op_on : Terms → Code → Option ℕ → ℕ → Emission → Option Part → Option Code
op_on t op to n next None = None
op_on t op to n next (Some p) = then_code p.front (op_code t op to n p.pend p.base next)

-- a computation of these operands, where none is a constant
abbrev pub computed_by : Terms → Code → Option ℕ → Option (List ℕ) → (pend base : List ℕ) → Emission → Option Code
computed_by t op to None pend base next = None
computed_by t op to (Some xs) pend base next = op_on t op to (length xs) next (taken xs pend base)

-- a local set from the one operand
abbrev pub put : Terms → ℕ → (pend base : List ℕ) → Emission → Option Code
put t to pend base next = if t.slot to then only_if (can_keep t to pend) (next (to ∷ pend) (without (to ∷ []) base)) else only_if (not (elem to pend))
    (then_code (plain (local_set to)) (next pend base))

-- the same behind the code that takes the operand
abbrev pub put_on : Terms → ℕ → Emission → Option Part → Option Code
put_on t to next None = None
put_on t to next (Some p) = then_code p.front (put t to p.pend p.base next)

-- the statement behind reads the same operand again
abbrev pub reads_again : Stmts → Bool
reads_again (leaps_if c l rest) = true
reads_again (copies to from rest) = true
reads_again _ = false

-- It is got from its slot, or stays where it is, with the other local set.
abbrev pub got_again : Terms → (to from : ℕ) → (pend base : List ℕ) → Emission → Option Code
got_again t to x pend base next = only_if (elem x (pend ++ base)) (then_code (λ c. flushed pend (plain (local_get x) c)) (put t to [] (pend ++ base) next))

-- the operand is used again behind: where it is on top and the other local is no slot, it stays
abbrev pub copied_again : Terms → (to from : ℕ) → (pend base : List ℕ) → Emission → Option Code
copied_again t to x [] base next = got_again t to x [] base next
copied_again t to x (y ∷ pend) base next =
    if nat_eq x y && (not (t.slot to) && not (elem to (y ∷ pend))) then then_code (plain (local_tee to)) (next (y ∷ pend) base) else got_again t to x (y ∷ pend) base next

-- a local is copied
abbrev pub copied_by : Terms → ℕ → Operand → (again : Bool) → (pend base : List ℕ) → Emission → Option Code
copied_by t to (Const v) again pend base next = None
copied_by t to (Local x) again pend base next =
    if t.slot x
    then (if again then copied_again t to x pend base next else put_on t to next (taken (x ∷ []) pend base))
    else then_code (plain (local_get x)) (put t to pend base next)

-- the target's slots hold their operands
abbrev pub reaches : List (List ℕ) → ℕ → List ℕ → Bool
reaches [] l base = true
reaches (b ∷ ts) zero base = all_in b base
reaches (b ∷ ts) (suc l) base = reaches ts l base

-- the slots of all targets hold their operands
abbrev pub reaches_all : List (List ℕ) → List ℕ → Bool
reaches_all [] base = true
reaches_all (b ∷ ts) base = all_in b base && reaches_all ts base

-- the code behind operands that were taken
abbrev pub part_then : (List ℕ → Option Code) → Option Part → Option Code
part_then next None = None
part_then next (Some p) = then_code p.front (next p.base)

-- with one operand alone
abbrev pub with_operand : Operand → (pend base : List ℕ) → (List ℕ → Option Code) → Option Code
with_operand (Const v) pend base next = None
with_operand (Local x) pend base next = part_then next (taken_alone (x ∷ []) pend base)

-- the code is one call
abbrev pub is_call : Code → Bool
is_call (plain (call x) done) = true
is_call (plain (call_indirect s) done) = true
is_call _ = false

-- a call behind the code that takes its operands
abbrev pub call_on : Terms → Code → Option ℕ → Emission → Option Part → Option Code
call_on t op to next None = None
call_on t op to next (Some p) = then_code p.front (then_code (followed_by op) (result_kept t to [] p.base next))

-- two codes made one, where both are there
abbrev pub both_codes : (Code → Code → Code) → Option Code → Option Code → Option Code
both_codes make (Some a) (Some b) = Some (make a b)
both_codes make _ _ = None

-- three codes made one, where all are there
abbrev pub three_codes : (Code → Code → Code → Code) → Option Code → Option Code → Option Code → Option Code
three_codes make (Some a) (Some b) (Some c) = Some (make a b c)
three_codes make _ _ _ = None

-- the names of operands, or none
abbrev pub named : Option (List ℕ) → List ℕ
named None = []
named (Some xs) = xs

-- a local in front of others, where it is told
abbrev pub in_front : Option ℕ → List ℕ → List ℕ
in_front None base = base
in_front (Some x) base = x ∷ base

-- the slots of the operands behind statements, from those before
abbrev pub end_of : Terms → Stmts → List ℕ → List ℕ
end_of t no_more base = base
end_of t (computes op args to rest) base = end_of t rest (in_front to (without (named (names args)) base))
end_of t (copies to from rest) base = end_of t rest (if t.slot to then to ∷ base else base)
end_of t (calls op stack args to rest) base = end_of t rest (in_front to (without (last_of args stack) base))
end_of t (leaps l rest) base = base
end_of t (leaps_if c l rest) base = end_of t rest (without (named (names (c ∷ []))) base)
end_of t (leaps_by c ls l rest) base = base
end_of t (nests a_block body rest) base = end_of t rest base
end_of t (nests a_loop body rest) base = end_of t rest (end_of t body base)
end_of t (decides c a b rest) base = end_of t rest (without (named (names (c ∷ []))) base)
end_of t (halts rest) base = base

-- behind a construct: a block's result is copied from a local, and a loop's stands in its slot
abbrev pub behind_of : Terms → Shape → Stmts → List ℕ → List ℕ
behind_of t a_block body base = base
behind_of t a_loop body base = end_of t body base

-- their end may be reached
abbrev pub falls : Stmts → Bool
falls no_more = true
falls (computes op args to rest) = falls rest
falls (copies to from rest) = falls rest
falls (calls op stack args to rest) = falls rest
falls (leaps l rest) = false
falls (leaps_if c l rest) = falls rest
falls (leaps_by c ls l rest) = false
falls (nests a_block body rest) = falls rest
falls (nests a_loop body rest) = falls body && falls rest
falls (decides c a b rest) = falls rest
falls (halts rest) = false

-- what stands behind a construct may be reached
abbrev pub goes_behind : Shape → Stmts → Bool
goes_behind a_block body = true
goes_behind a_loop body = falls body

-- the slots that the end of code wants hold their operands; where it isn't to be reached, none will do
abbrev pub right_behind : Option (List ℕ) → List ℕ → Bool
right_behind None base = false
right_behind (Some out) base = all_in out base

-- by whether what stands behind may be reached
abbrev pub if_behind : Bool → (reached never : Option Code) → Option Code
if_behind true a b = a
if_behind false a b = b

-- The slim code of statements, inside labels at whose targets these slots hold their operands, and those of `out` behind the end,
-- where that can be reached; with slots kept on the operand stack, the topmost first, and those that hold their operands. Code
-- that can't be reached stays as it is. None where the statements use slots in another way than operands on a stack do.
abbrev pub emit : Terms → (targets : List (List ℕ)) → (out : Option (List ℕ)) → Stmts → Emission
emit t ts out no_more pend base = only_if (right_behind out (pend ++ base)) (Some (flushed pend done))
emit t ts out (computes op args to rest) pend base = computed_by t op to (names args) pend base (emit t ts out rest)
emit t ts out (copies to from rest) pend base = copied_by t to from (reads_again rest) pend base (emit t ts out rest)
emit t ts out (calls op stack args to rest) pend base = only_if (is_call op) (call_on t op to (emit t ts out rest) (taken_alone (last_of args stack) pend base))
emit t ts out (leaps l rest) pend base = only_if (reaches ts l (pend ++ base)) (Some (flushed pend (plain (br l) (code_of rest))))
emit t ts out (leaps_if c l rest) pend base = with_operand c pend base (λ b. only_if (reaches ts l b) (then_code (plain (br_if l)) (emit t ts out rest [] b)))
emit t ts out (leaps_by c ls l rest) pend base = with_operand c pend base (λ b. only_if (reaches_all ts b) (Some (plain (br_table ls l) (code_of rest))))
emit t ts out (nests s body rest) pend base =
    then_code (flushed pend)
    (if_behind (goes_behind s body) (both_codes (nest s None) (emit t ((pend ++ base) ∷ ts) (Some (behind_of t s body (pend ++ base))) body [] (pend ++ base))
    (emit t ts out rest [] (behind_of t s body (pend ++ base))))
    (then_code (λ k. nest s None k (code_of rest)) (emit t ((pend ++ base) ∷ ts) None body [] (pend ++ base))))
emit t ts out (decides c a b rest) pend base = with_operand c pend base (λ k. three_codes (branch None) (emit t (k ∷ ts) (Some k) a [] k) (emit t (k ∷ ts) (Some k) b [] k) (emit t ts out rest [] k))
emit t ts out (halts rest) pend base = Some (plain unreachable (code_of rest))

-- No local is fixed at a call.
abbrev pub Told : Terms → (n : ℕ) → Stmts → Type 0
Told t n no_more = Unit {0}
Told t n (computes op args to rest) = Told t n rest
Told t n (copies to from rest) = Told t n rest
Told t n (calls op stack args to rest) = (t.fixed (length (calls_of (set_to to (code_of rest))) + n) ≡ []) × Told t n rest
Told t n (leaps l rest) = Told t n rest
Told t n (leaps_if c l rest) = Told t n rest
Told t n (leaps_by c ls l rest) = Told t n rest
Told t n (nests s body rest) = Told t (length (calls_of (code_of rest)) + n) body × Told t n rest
Told t n (decides c a b rest) = Told t (length (calls_of (code_of b)) + (length (calls_of (code_of rest)) + n)) a × Told t (length (calls_of (code_of rest)) + n) b × Told t n rest
Told t n (halts rest) = Told t n rest

-- what is free behind an end
abbrev pub free_behind : (slot : ℕ → Bool) → Option (List ℕ) → Free
free_behind slot None = λ y. false
free_behind slot (Some out) = free_by slot out

-- What is emitted is slim.
abbrev pub EmitsSlim : Type 0
EmitsSlim =
    (t : Terms) (n : ℕ) (targets : List (List ℕ)) (out : Option (List ℕ)) (s : Stmts) (base : List ℕ) (c : Code)
    → ((x : ℕ) → t.slot x ≡ true → x < t.size) → Told t n s → emit t targets out s [] base ≡ Some c
    → Slims t n (map (free_by t.slot) targets) (free_behind t.slot out) (free_by t.slot base) [] (code_of s) c

-- Each code is slim beside itself, where nothing is free.
abbrev pub SlimBesideItself : Type 0
SlimBesideItself = (t : Terms) (n : ℕ) (ts : List Free) (out : Free) (c : Code) → Slims t n ts out (λ y. false) [] c c
