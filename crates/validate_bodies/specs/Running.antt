-- The verdict on a body, computed from front to back over a stack of types, some of them unknown.
use Rattle.std.specs.Prelude.{ℕ, suc, ◌+◌, ◌++◌, List, [], ◌∷◌, Option, Some, None, Bool, true, false, if◌then◌else◌}
use Rattle.wa_types.specs.declared.rules.Rule.{Rule}
use Rattle.wa_types.specs.declared.rules.Rule.TheVariants.{StackTypes}
use Rattle.wa_types.specs.declared.values.ValType.{ValType}
use Rattle.wa_types.specs.declared.values.ValType.TheVariants.{I32}
use Rattle.wa_types.specs.Rules.{number}
use Rattle.wa_types.specs.Encoding.{same_type}
use Rattle.wa_types.specs.Syntax.{Code, done, plain, nest, branch, Func, Module}
use Rattle.wa_types.specs.Typing.{Around, Sig, moves, leaves, drops, selects, lacks, late, listed, sig, label}
use Rattle.wa_types.specs.Modules.{func_imports, around}
use Rattle.wa_types.specs.Validity.{broken_outside}
use Rattle.wa_types.specs.FirstFault.{mid, size}

-- an operand may be of this type; one that isn't known may be of any
abbrev pub may_be : Option ValType → ValType → Bool
may_be None t = true
may_be (Some u) t = same_type u t

-- what is left behind an operand of this type; where `free`, more of any type lie below
abbrev pub pop1 : ValType → List (Option ValType) → Bool → Option (List (Option ValType))
pop1 p [] free = if free then Some [] else None
pop1 p (o ∷ os) free = if may_be o p then Some os else None

-- what is left goes on, where an operand was there
abbrev pub chain : Option (List (Option ValType)) → (List (Option ValType) → Option (List (Option ValType))) → Option (List (Option ValType))
chain None go = None
chain (Some os) go = go os

-- what is left behind operands of these types, the topmost first
abbrev pub pops : List ValType → List (Option ValType) → Bool → Option (List (Option ValType))
pops [] os free = Some os
pops (p ∷ ps) os free = chain (pop1 p os free) (λ os'. pops ps os' free)

-- operands of known types
abbrev pub knows : List ValType → List (Option ValType)
knows [] = []
knows (t ∷ ts) = Some t ∷ knows ts

-- What comes of an instruction: the operands left and whether more may lie below, or a rule that fails.
pub data StackAfter : Type 0 where
  goes : List (Option ValType) → Bool → StackAfter
  stops : Rule → StackAfter

-- results go on what is left; where an operand is wanting, the rule on operands fails
abbrev pub pushed : List ValType → Bool → Option (List (Option ValType)) → StackAfter
pushed rs free None = stops StackTypes
pushed rs free (Some os) = goes (knows rs ++ os) free

-- control never goes on: no operand is left, and any may be there
abbrev pub gone : Option (List (Option ValType)) → StackAfter
gone None = stops StackTypes
gone (Some os) = goes [] true

-- a rule above that on operands fails, where they are there
abbrev pub too_late : Rule → Option (List (Option ValType)) → StackAfter
too_late r None = stops StackTypes
too_late r (Some os) = stops r

-- one operand of any type is taken
abbrev pub dropped : List (Option ValType) → Bool → StackAfter
dropped [] free = if free then goes [] true else stops StackTypes
dropped (o ∷ os) free = goes os free

-- the better known of two that are alike
abbrev pub joined : Option ValType → Option ValType → StackAfter → (Option ValType → StackAfter) → StackAfter
joined None p bad go = go p
joined (Some t) None bad go = go (Some t)
joined (Some t) (Some u) bad go = if same_type t u then go (Some t) else bad

-- two operands of one type are taken, and one of it is given
abbrev pub two : List (Option ValType) → Bool → StackAfter
two [] free = if free then goes (None ∷ []) free else stops StackTypes
two (o ∷ []) free = if free then goes (o ∷ []) free else stops StackTypes
two (o ∷ p ∷ os) free = joined o p (stops StackTypes) (λ q. goes (q ∷ os) free)

-- what is left behind the number of a select
abbrev pub selected : Bool → Option (List (Option ValType)) → StackAfter
selected free None = stops StackTypes
selected free (Some os) = two os free

-- what an instruction makes of the operands (3.3)
abbrev pub next : Sig → List (Option ValType) → Bool → StackAfter
next (moves ps rs) os free = pushed rs free (pops ps os free)
next (leaves ps) os free = gone (pops ps os free)
next drops os free = dropped os free
next selects os free = selected free (pops (I32 ∷ []) os free)
next (lacks r) os free = stops r
next (late r ps rs) os free = too_late r (pops ps os free)

-- What is said of code: it is typed, or the rule of this number fails at this place.
pub data Verdict : Type 0 where
  fine : Verdict
  fault : (rule at : ℕ) → Verdict

-- the first fault of two parts
abbrev pub both : Verdict → Verdict → Verdict
both fine v = v
both (fault r k) v = fault r k

-- what comes behind an instruction, where no rule fails
abbrev pub onward : StackAfter → ℕ → (List (Option ValType) → Bool → Verdict) → Verdict
onward (goes os free) k go = go os free
onward (stops r) k go = fault (number r) k

-- exactly these operands at an end
abbrev pub ended : List ValType → List (Option ValType) → Bool → Bool
ended [] [] free = true
ended [] (o ∷ os) free = false
ended (t ∷ ts) [] free = free
ended (t ∷ ts) (o ∷ os) free = if may_be o t then ended ts os free else false

-- the verdict on code, whose first instruction has number k (3.3.5, 3.3.6)
unfoldable pub checks : Around → List (Option ValType) → Code → List ValType → List (Option ValType) → Bool → ℕ → Verdict
checks c ls done outs os free k = if ended outs os free then fine else fault (number StackTypes) k
checks c ls (plain p rest) outs os free k = onward (next (sig c ls p) os free) k (λ os' free'. checks c ls rest outs os' free' (suc k))
checks c ls (nest s r body rest) outs os free k =
    both (checks c (label s r ∷ ls) body (listed r) [] false (suc k)) (checks c ls rest outs (knows (listed r) ++ os) free (suc k + (size body + 1)))
checks c ls (branch r a b rest) outs os free k =
    onward (next (moves (I32 ∷ []) []) os free) k (λ os' free'.
    both (checks c (r ∷ ls) a (listed r) [] false (suc k))
    (both (checks c (r ∷ ls) b (listed r) [] false (suc k + (size a + mid b)))
    (checks c ls rest outs (knows (listed r) ++ os') free' (suc k + (size a + mid b + size b + 1)))))

-- the verdict on a whole body
abbrev pub body_verdict : Around → Code → Verdict
body_verdict c body = checks c (c.result ∷ []) body (listed c.result) [] false 0

-- What is said of a module: it is valid, or this is its first fault.
pub data Answer : Type 0 where
  valid : Answer
  invalid : (func : Option ℕ) → (rule at : ℕ) → Answer

-- what is said by a function's verdict, in front of what is said of the others
abbrev pub func_answer : ℕ → Verdict → Answer → Answer
func_answer x fine rest = rest
func_answer x (fault rule at) rest = invalid (Some x) rule at

-- of functions, the first of which has this number
abbrev pub funcs_answer : Module → ℕ → List Func → Answer
funcs_answer m x [] = valid
funcs_answer m x (f ∷ fs) = func_answer x (body_verdict (around m f) f.body) (funcs_answer m (suc x) fs)

-- what is said by the rules that fail outside the bodies, in front of what is said of the bodies
abbrev pub outside_answer : List ℕ → Answer → Answer
outside_answer [] rest = rest
outside_answer (rule ∷ more) rest = invalid None rule 0

-- of a module
abbrev pub module_answer : Module → Answer
module_answer m = outside_answer (broken_outside m) (funcs_answer m (func_imports m) m.funcs)
