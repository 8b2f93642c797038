-- Whether a local is read before it is written, from just after each call of code on.
use Rattle.std.specs.Prelude.{ℕ, List, [], ◌∷◌, ◌++◌, ◌||◌, Option, Some, None, Bool, false}
use Rattle.wa_types.specs.Syntax.{Shape, a_block, a_loop, Code, done, plain, nest, branch}
use Rattle.wa_types.specs.Pausing.{Callee, callee}
use Rattle.wa_types.specs.Liveness.{live, live_plain, shape_live}

-- from the first instruction on, given what is told behind it
abbrev pub live_first : ℕ → (tos : List Bool) → (behind : Bool) → Code → Bool
live_first x tos k done = k
live_first x tos k (plain p rest) = live_plain x tos p k
live_first x tos k (nest s r body rest) = live x (shape_live s k ∷ tos) k body
live_first x tos k (branch r a b rest) = live x (k ∷ tos) k a || live x (k ∷ tos) k b

-- what is told of a construct's label
abbrev pub label_live : ℕ → Shape → List Bool → (behind : Bool) → Code → Bool
label_live x a_block tos k body = k
label_live x a_loop tos k body = live x (false ∷ tos) k body

-- what is told behind an instruction, in front of others, where it is a call
abbrev pub if_called : Option Callee → Bool → List Bool → List Bool
if_called None b rest = rest
if_called (Some c) b rest = b ∷ rest

-- at each call, in order of code
unfoldable pub lives : ℕ → (tos : List Bool) → (out : Bool) → Code → List Bool
lives x tos out done = []
lives x tos out (plain p rest) = if_called (callee p) (live x tos out rest) (lives x tos out rest)
lives x tos out (nest s r body rest) = lives x (label_live x s tos (live x tos out rest) body ∷ tos) (live x tos out rest) body ++ lives x tos out rest
lives x tos out (branch r a b rest) =
    lives x (live x tos out rest ∷ tos) (live x tos out rest) a ++ (lives x (live x tos out rest ∷ tos) (live x tos out rest) b ++ lives x tos out rest)

-- at those of the first instruction
abbrev pub lives_first : ℕ → (tos : List Bool) → (behind : Bool) → Code → List Bool
lives_first x tos k done = []
lives_first x tos k (plain p rest) = if_called (callee p) k []
lives_first x tos k (nest s r body rest) = lives x (label_live x s tos k body ∷ tos) k body
lives_first x tos k (branch r a b rest) = lives x (k ∷ tos) k a ++ lives x (k ∷ tos) k b
