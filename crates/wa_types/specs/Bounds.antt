-- How much a rewritten program may cost beside its original.
use Rattle.std.specs.Prelude.{ℕ, ◌+◌, ◌*◌, List, length, Option, Some, None}
use Rattle.std.specs.List.{sum_by}
use Rattle.wa_types.specs.Syntax.{Plain, br_table, call, call_indirect, Code, done, plain, nest, branch, Func, Module}
use Rattle.wa_types.specs.Pruned.{pruned}
use Rattle.wa_types.specs.Modules.{type_at, func_type_at, locals_of, defined_at}
use Rattle.wa_types.specs.Frames.{Suspended}

-- an instruction, the labels of a `br_table`, the last one included, and the parameters of a call
abbrev pub plain_weight : Module → Plain → ℕ
plain_weight m (br_table labels l) = 1 + length labels + 1
plain_weight m (call x) = 1 + length (func_type_at m x).params
plain_weight m (call_indirect t) = 1 + length (type_at m t).params
plain_weight m _ = 1

-- the instructions, labels of `br_table` and call parameters of code
unfoldable pub code_weight : Module → Code → ℕ
code_weight m done = 0
code_weight m (plain p rest) = plain_weight m p + code_weight m rest
code_weight m (nest s r body rest) = 1 + code_weight m body + code_weight m rest
code_weight m (branch r a b rest) = 1 + code_weight m a + code_weight m b + code_weight m rest

-- The weight of a function: instructions, labels of `br_table` and call parameters of its pruned body, and its parameters and locals.
abbrev pub Weight : Module → Func → ℕ
Weight m f = code_weight m (pruned f.body) + length (locals_of m f)

-- the weight of a function that is there, else 0
abbrev pub weight_of_found : Module → Option Func → ℕ
weight_of_found m None = 0
weight_of_found m (Some f) = Weight m f

-- what unwinding and rewinding an activation may cost
abbrev pub activation_bound : Module → Suspended → ℕ
activation_bound m a = 128 * (weight_of_found m (defined_at m a.func) + 4)

-- The bound on the cost of the rewritten program, for a run of the original of cost n whose pauses suspend these stacks.
abbrev pub Bound : Module → ℕ → List (List Suspended) → ℕ
Bound m n pauses = 256 * (n + 1) + sum_by (λ stack. 256 + sum_by (activation_bound m) stack) pauses
