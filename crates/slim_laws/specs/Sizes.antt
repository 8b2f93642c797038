-- Slim code is no larger and nests no deeper.
use Rattle.std.specs.Prelude.{◌≡◌, ℕ, ◌+◌, ◌≤◌, ◌<◌, List, Bool, true}
use Rattle.wa_types.specs.Syntax.{Plain, local_set, local_tee, Code, done, plain, nest, branch}
use Rattle.wa_types.specs.Pausing.{calls_of}
use Rattle.wa_types.specs.Counts.{count_of, depth_of}
use Rattle.slim_laws.specs.Slim.{Free, StackShape, kept, Terms, Slims}

-- Slim code has no more instructions, but for the values that its side has alone.
abbrev pub NoLarger : Type 0
NoLarger = (t : Terms) (n : ℕ) (ts : List Free) (out f : Free) (sh : StackShape) (code code' : Code) → Slims t n ts out f sh code code' → count_of code' ≤ count_of code + kept sh

-- It nests no deeper.
abbrev pub NoDeeper : Type 0
NoDeeper = (t : Terms) (n : ℕ) (ts : List Free) (out f : Free) (sh : StackShape) (code code' : Code) → Slims t n ts out f sh code code' → depth_of code' ≤ depth_of code

-- each instruction that holds no other passes a test
abbrev pub EachPlain : (Plain → Bool) → Code → Type 0
EachPlain P done = Unit {0}
EachPlain P (plain p rest) = (P p ≡ true) × EachPlain P rest
EachPlain P (nest s r body rest) = EachPlain P body × EachPlain P rest
EachPlain P (branch r a b rest) = EachPlain P a × EachPlain P b × EachPlain P rest

-- Slim code has no other instructions than the code beside it, but for local.set of its locals, and local.tee where that sets.
abbrev pub NoOthers : Type 0
NoOthers =
    (P : Plain → Bool) (t : Terms) (n : ℕ) (ts : List Free) (out f : Free) (sh : StackShape) (code code' : Code)
    → ((x : ℕ) → x < t.size → P (local_set x) ≡ true) → ((x : ℕ) → P (local_set x) ≡ true → P (local_tee x) ≡ true)
    → Slims t n ts out f sh code code' → EachPlain P code → EachPlain P code'

-- It has the same calls, in the same order.
abbrev pub SameCalls : Type 0
SameCalls = (t : Terms) (n : ℕ) (ts : List Free) (out f : Free) (sh : StackShape) (code code' : Code) → Slims t n ts out f sh code code' → calls_of code' ≡ calls_of code
