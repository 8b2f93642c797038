-- Counts of code: how many instructions it has, and how deep its constructs nest.
use Rattle.std.specs.Prelude.{ℕ, ◌+◌, max}
use Rattle.wa_types.specs.Syntax.{Code, done, plain, nest, branch}

-- the number of instructions, those inside others included
unfoldable pub count_of : Code → ℕ
count_of done = 0
count_of (plain p rest) = 1 + count_of rest
count_of (nest s r body rest) = 1 + count_of body + count_of rest
count_of (branch r a b rest) = 1 + count_of a + count_of b + count_of rest

-- the number of constructs that stand inside one another, at most; 0 where there is none
unfoldable pub depth_of : Code → ℕ
depth_of done = 0
depth_of (plain p rest) = depth_of rest
depth_of (nest s r body rest) = max (1 + depth_of body) (depth_of rest)
depth_of (branch r a b rest) = max (1 + max (depth_of a) (depth_of b)) (depth_of rest)
