-- The points of code and the operands at them (standard, section 3.3).
use Rattle.std.specs.Prelude.{◌≡◌, ℕ, ◌⊎◌, ◌++◌, length, drop, List, [], ◌∷◌, Option, Some, None, Bool, true, false}
use Rattle.wa_types.specs.declared.values.ValType.{ValType}
use Rattle.wa_types.specs.declared.values.ValType.TheVariants.{I32}
use Rattle.wa_types.specs.Syntax.{Code, done, plain, nest, branch, Func, Module}
use Rattle.wa_types.specs.Pruned.{is_last, pruned}
use Rattle.wa_types.specs.Typing.{Around, Sig, moves, leaves, drops, selects, lacks, late, listed, sig, Takes, label}
use Rattle.wa_types.specs.Modules.{around}
use Rattle.wa_types.specs.Pausing.{Callee, callee}

-- this holds, and it isn't told otherwise
abbrev pub Unless : Bool → Type 0 → Type 0
Unless true P = ⊥
Unless false P = P

-- At some point of the code the function's operands are `all`, the topmost first. `ops` are those of the
-- innermost construct where the code begins, `under` those below. A point stands before each instruction and
-- at each end, but not behind an instruction after which control never goes on.
unfoldable pub AtPoint : Around → List (Option ValType) → Code → (under ops all : List ValType) → Type 0
AtPoint c ls done under ops all = all ≡ ops ++ under
AtPoint c ls (plain p rest) under ops all =
    (all ≡ ops ++ under) ⊎ ((mids : List ValType) × Takes (sig c ls p) ops mids × Unless (is_last p) (AtPoint c ls rest under mids all))
AtPoint c ls (nest s r body rest) under ops all =
    (all ≡ ops ++ under) ⊎ (AtPoint c (label s r ∷ ls) body (ops ++ under) [] all ⊎ AtPoint c ls rest under (listed r ++ ops) all)
AtPoint c ls (branch r a b rest) under ops all =
    (all ≡ ops ++ under) ⊎ ((below : List ValType) × (ops ≡ I32 ∷ below)
    × (AtPoint c (r ∷ ls) a (below ++ under) [] all ⊎ (AtPoint c (r ∷ ls) b (below ++ under) [] all ⊎ AtPoint c ls rest under (listed r ++ below) all)))

-- what an instruction of a typed body leaves of these operands
abbrev pub after : Sig → List ValType → List ValType
after (moves ps rs) ops = rs ++ drop (length ps) ops
after (leaves ps) ops = ops
after drops ops = drop 1 ops
after selects ops = drop 2 ops
after (lacks r) ops = ops
after (late r ps rs) ops = ops

-- a list, and none where told
abbrev pub unless_last : {X : Type 0} → Bool → List X → List X
unless_last true xs = []
unless_last false xs = xs

-- the operands at each point of a typed body, computed
unfoldable pub points : Around → List (Option ValType) → Code → (under ops : List ValType) → List (List ValType)
points c ls done under ops = (ops ++ under) ∷ []
points c ls (plain p rest) under ops = (ops ++ under) ∷ unless_last (is_last p) (points c ls rest under (after (sig c ls p) ops))
points c ls (nest s r body rest) under ops = (ops ++ under) ∷ (points c (label s r ∷ ls) body (ops ++ under) [] ++ points c ls rest under (listed r ++ ops))
points c ls (branch r a b rest) under ops =
    (ops ++ under) ∷ (points c (r ∷ ls) a (drop 1 ops ++ under) [] ++ (points c (r ∷ ls) b (drop 1 ops ++ under) [] ++ points c ls rest under (listed r ++ drop 1 ops)))

-- the operands just before an instruction, where it is a call
abbrev pub if_call : Option Callee → List ValType → List (List ValType)
if_call None ops = []
if_call (Some x) ops = ops ∷ []

-- the operands just before each call of a typed body, in order of code
unfoldable pub call_points : Around → List (Option ValType) → Code → (under ops : List ValType) → List (List ValType)
call_points c ls done under ops = []
call_points c ls (plain p rest) under ops = if_call (callee p) (ops ++ under) ++ unless_last (is_last p) (call_points c ls rest under (after (sig c ls p) ops))
call_points c ls (nest s r body rest) under ops = call_points c (label s r ∷ ls) body (ops ++ under) [] ++ call_points c ls rest under (listed r ++ ops)
call_points c ls (branch r a b rest) under ops =
    call_points c (r ∷ ls) a (drop 1 ops ++ under) [] ++ (call_points c (r ∷ ls) b (drop 1 ops ++ under) [] ++ call_points c ls rest under (listed r ++ drop 1 ops))

-- An operand of type t stands at height h at some point of the function's pruned body. The height counts all
-- operands below it in the function.
abbrev pub SlotPair : Module → Func → ℕ → ValType → Type 0
SlotPair m f h t =
    (all : List ValType) × (above : List ValType) × (lower : List ValType)
    × AtPoint (around m f) ((around m f).result ∷ []) (pruned f.body) [] [] all × (all ≡ above ++ t ∷ lower) × (h ≡ length lower)

-- the operands at each point of a function's pruned body
abbrev pub func_points : Module → Func → List (List ValType)
func_points m f = points (around m f) ((around m f).result ∷ []) (pruned f.body) [] []

-- the operands just before each call of a function, by the call's place
abbrev pub func_call_points : Module → Func → List (List ValType)
func_call_points m f = call_points (around m f) ((around m f).result ∷ []) (pruned f.body) [] []
