-- The calls of a body, each with what stands behind it and the operands before it, in order of code.
use Rattle.std.specs.Prelude.{◌++◌, List, [], ◌∷◌, drop, Option, Some, None}
use Rattle.wa_types.specs.declared.values.ValType.{ValType}
use Rattle.wa_types.specs.Syntax.{Code, done, plain, nest, branch}
use Rattle.wa_types.specs.Pruned.{is_last, pruned}
use Rattle.wa_types.specs.Typing.{Around, listed, label, sig}
use Rattle.wa_types.specs.Pausing.{Callee, callee}
use Rattle.wa_types.specs.Points.{after, unless_last}
use Rattle.wa_types.specs.Liveness.{Label as Continuation, goes_behind, goes_again, label_of, Position, position}
use Rattle.wa_model.specs.Configuration.{Label, block_label, loop_label}

-- A call: what it goes to, the place just behind it in the pruned body, and the types of all operands of the function just
-- before it.
pub record Site : Type 0 where
  pub callee : Callee
  pub behind : Position
  pub operands : List ValType

-- the site of a call, where an instruction is one
abbrev pub site_of : Option Callee → Position → List ValType → List Site
site_of None at ops = []
site_of (Some x) at ops = (record { callee = x; behind = at; operands = ops }) ∷ []

-- those of code inside labels, in its order; what can't be reached is left out
unfoldable pub sites : Around → List (Option ValType) → List Continuation → Code → (under ops : List ValType) → List Site
sites c ls labels done under ops = []
sites c ls labels (plain p rest) under ops =
    site_of (callee p) (position (pruned rest) labels) (ops ++ under) ++ unless_last (is_last p) (sites c ls labels rest under (after (sig c ls p) ops))
sites c ls labels (nest s r body rest) under ops =
    sites c (label s r ∷ ls) (label_of s (pruned body) (pruned rest) ∷ labels) body (ops ++ under) [] ++ sites c ls labels rest under (listed r ++ ops)
sites c ls labels (branch r a b rest) under ops =
    sites c (r ∷ ls) (goes_behind (pruned rest) ∷ labels) a (drop 1 ops ++ under) []
    ++ (sites c (r ∷ ls) (goes_behind (pruned rest) ∷ labels) b (drop 1 ops ++ under) [] ++ sites c ls labels rest under (listed r ++ drop 1 ops))

-- A label of a run, its height and the arm that was skipped left out, in the pruned body.
abbrev pub continuation : Label → Continuation
continuation (block_label height arity rest skipped) = goes_behind (pruned rest)
continuation (loop_label height body rest) = goes_again (pruned body) (pruned rest)
