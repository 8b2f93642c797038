-- Where a module isn't valid: the first place such that the code up to there has no type, and the smallest
-- rule that fails there (standard, section 3.3; the rules' numbers stand in `Rules`).
use Rattle.std.specs.Prelude.{◌≡◌, ℕ, zero, suc, ◌+◌, ◌-◌, ◌<◌, ◌≤◌, ◌⊎◌, ◌++◌, List, [], ◌∷◌, Option, Some, None, slice_get}
use Rattle.wa_types.specs.declared.values.ValType.{ValType}
use Rattle.wa_types.specs.declared.values.ValType.TheVariants.{I32}
use Rattle.wa_types.specs.declared.rules.Rule.TheVariants.{StackTypes}
use Rattle.wa_types.specs.Rules.{number}
use Rattle.wa_types.specs.Syntax.{unreachable, Code, done, plain, nest, branch, Func, Module}
use Rattle.wa_types.specs.Typing.{Around, Sig, moves, lacks, late, listed, sig, Takes, label, Typed}
use Rattle.wa_types.specs.Modules.{func_imports, around}
use Rattle.wa_types.specs.Validity.{broken_outside}

-- an `else` is counted where its arm isn't empty
abbrev pub mid : Code → ℕ
mid done = 0
mid _ = 1

-- the number of instructions, elses and ends, but for the end of the sequence itself
unfoldable pub size : Code → ℕ
size done = 0
size (plain p rest) = 1 + size rest
size (nest s r body rest) = 2 + size body + size rest
size (branch r a b rest) = 2 + size a + mid b + size b + size rest

-- The rules of numbers below q hold of an instruction at these operands.
abbrev pub Meets : ℕ → Sig → List ValType → Type 0
Meets q (lacks r) ins = q ≤ number r
Meets q (late r ps rs) ins = (q ≤ number StackTypes) ⊎ ((q ≤ number r) × ((below : List ValType) × (ins ≡ ps ++ below)))
Meets q s ins = (q ≤ number StackTypes) ⊎ ((outs : List ValType) × Takes s ins outs)

-- nothing is asked of what lies behind the first n
abbrev pub Within : ℕ → (ℕ → Type 0) → Type 0
Within zero P = Unit {0}
Within (suc n) P = P n

-- The first n instructions, elses and ends of the code, and its own end, have a type that begins with these
-- operands, where of the last of them only the rules below q are asked. It is `Types` with a count: each
-- construct passes all n to its first part and what is left to the next.
unfoldable pub UpTo : ℕ → Around → List (Option ValType) → Code → (outs ins : List ValType) → ℕ → Type 0
UpTo q c ls done outs ins n = Within n (λ m. ((m ≡ 0) × (q ≤ number StackTypes)) ⊎ (ins ≡ outs))
UpTo q c ls (plain p rest) outs ins n =
    Within n (λ m. ((m ≡ 0) × Meets q (sig c ls p) ins) ⊎ ((mids : List ValType) × Takes (sig c ls p) ins mids × UpTo q c ls rest outs mids m))
UpTo q c ls (nest s r body rest) outs ins n =
    Within n (λ m. UpTo q c (label s r ∷ ls) body (listed r) [] m × UpTo q c ls rest outs (listed r ++ ins) (m - (size body + 1)))
UpTo q c ls (branch r a b rest) outs ins n =
    Within n (λ m. ((m ≡ 0) × Meets q (moves (I32 ∷ []) []) ins) ⊎ ((below : List ValType) × (ins ≡ I32 ∷ below)
    × UpTo q c (r ∷ ls) a (listed r) [] m
    × UpTo q c (r ∷ ls) b (listed r) [] (m - (size a + mid b))
    × UpTo q c ls rest outs (listed r ++ below) (m - (size a + mid b + size b + 1))))

-- the same of a whole body
abbrev pub TypedUpTo : ℕ → Around → Code → ℕ → Type 0
TypedUpTo q c body n = UpTo q c (c.result ∷ []) body (listed c.result) [] n

-- The first place such that the body up to there has no type, and the smallest rule that fails there: up to
-- it all rules below this one hold, and this one doesn't.
pub record BodyFault (c : Around) (body : Code) (rule at : ℕ) : Type 0 where
  pub before : TypedUpTo rule c body (suc at)
  pub fails : TypedUpTo (suc rule) c body (suc at) → ⊥

-- The first n instructions, elses and ends of the code, then `unreachable`, and the ends that are owed.
unfoldable pub cut : ℕ → Code → Code
cut zero k = plain unreachable done
cut (suc n) done = done
cut (suc n) (plain p rest) = plain p (cut n rest)
cut (suc n) (nest s r body rest) = nest s r (cut n body) (cut (n - (size body + 1)) rest)
cut (suc n) (branch r a b rest) = branch r (cut n a) (cut (n - (size a + mid b)) b) (cut (n - (size a + mid b + size b + 1)) rest)

-- The body of the defined function number i is the first without a type.
pub record FuncFault (m : Module) (i rule at : ℕ) : Type 0 where
  pub func : Func
  pub found : slice_get m.funcs i ≡ Some func
  pub before : (j : ℕ) → (f : Func) → j < i → slice_get m.funcs j ≡ Some f → Typed (around m f) f.body
  pub fault : BodyFault (around m func) func.body rule at

-- The first fault of a module: a rule outside the bodies, of which the smallest counts, or one in the body of
-- a function, whose number counts imported functions.
abbrev pub FirstFault : Module → Option ℕ → ℕ → ℕ → Type 0
FirstFault m None rule at = (slice_get (broken_outside m) 0 ≡ Some rule) × (at ≡ 0)
FirstFault m (Some x) rule at =
    (i : ℕ) × (x ≡ func_imports m + i) × (broken_outside m ≡ []) × FuncFault m i rule at
