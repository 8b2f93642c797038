-- Code without what can't be reached in each sequence (standard, section 3.3.5: what lies behind an
-- instruction after which control never goes on is typed with a polymorphic stack).
use Rattle.std.specs.Prelude.{Bool, true, false, if◌then◌else◌}
use Rattle.wa_types.specs.declared.instrs.Instr.{Instr}
use Rattle.wa_types.specs.declared.instrs.Instr.TheVariants.{Unreachable, Return, Br, BrTable}
use Rattle.wa_types.specs.Syntax.{Plain, unreachable, return, br, br_table, Code, done, plain, nest, branch}

-- control never goes on behind it (3.3.5)
abbrev pub is_last : Plain → Bool
is_last (br l) = true
is_last (br_table ls l) = true
is_last return = true
is_last unreachable = true
is_last _ = false

-- the code without what follows a `br`, `br_table`, `return` or `unreachable`, in each sequence
unfoldable pub pruned : Code → Code
pruned done = done
pruned (plain p rest) = plain p (if is_last p then done else pruned rest)
pruned (nest s r body rest) = nest s r (pruned body) (pruned rest)
pruned (branch r a b rest) = branch r (pruned a) (pruned b) (pruned rest)

-- the same of a value of the program
unfoldable pub is_last_instr : Instr → Bool
is_last_instr Unreachable = true
is_last_instr Return = true
is_last_instr (Br l) = true
is_last_instr (BrTable ls l) = true
is_last_instr _ = false
