-- How high operands stand in code, counted from its first instruction on, and how deep labels.
use Rattle.std.specs.Prelude.{ℕ, ◌+◌, ◌-◌, ◌≤◌, max, min, if◌then◌else◌, length}
use Rattle.wa_types.specs.Counts.{depth_of}
use Rattle.wa_types.specs.Modules.{type_at, func_type_at}
use Rattle.wa_types.specs.Pruned.{is_last}
use Rattle.wa_types.specs.Syntax.{Plain, basic, local_get, local_set, local_tee, br, br_if, br_table, return, unreachable, call, call_indirect, Code, done, plain, nest, branch, FuncType, Module}
use Rattle.wa_model.specs.Store.{takes, gives}
use Rattle.wa_model.specs.Step.{arity_of}

-- How high operands stand behind a call of a function of this type. One of a valid module has one result at most.
abbrev pub behind_call : FuncType → ℕ → ℕ
behind_call t h = h - length t.params + min (length t.results) 1

-- How high they stand behind an instruction that holds no other, of so many before it. Where control never goes on behind
-- it, no height counts there.
abbrev pub behind_plain : Module → Plain → ℕ → ℕ
behind_plain m (basic b) h = h - takes b + gives b
behind_plain m (local_get x) h = h + 1
behind_plain m (local_set x) h = h - 1
behind_plain m (local_tee x) h = h
behind_plain m (br l) h = h
behind_plain m (br_if l) h = h - 1
behind_plain m (br_table targets last) h = h
behind_plain m return h = h
behind_plain m unreachable h = h
behind_plain m (call x) h = behind_call (func_type_at m x) h
behind_plain m (call_indirect sort) h = behind_call (type_at m sort) (h - 1)

-- behind the first instruction of code
unfoldable pub behind : Module → Code → ℕ → ℕ
behind m done h = h
behind m (plain p rest) h = behind_plain m p h
behind m (nest s r body rest) h = h + arity_of r
behind m (branch r a b rest) h = h - 1 + arity_of r

-- How high they stand at most in code that begins with so many. What follows a `br`, `br_table`, `return` or `unreachable`
-- is never run, and isn't looked at.
unfoldable pub most_operands : Module → Code → ℕ → ℕ
most_operands m done h = h
most_operands m (plain p rest) h = if is_last p then h else max h (most_operands m rest (behind_plain m p h))
most_operands m (nest s r body rest) h = max (most_operands m body h) (most_operands m rest (h + arity_of r))
most_operands m (branch r a b rest) h =
    max h (max (max (most_operands m a (h - 1)) (most_operands m b (h - 1))) (most_operands m rest (h - 1 + arity_of r)))

-- Code that stands over so many operands and inside so many labels goes no higher and no deeper than this.
pub record Within (m : Module) (top deep : ℕ) (code : Code) (height depth : ℕ) : Type 0 where
  pub operands : most_operands m code height ≤ top
  pub labels : depth + depth_of code ≤ deep
