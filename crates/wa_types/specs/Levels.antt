-- A body whose copy is being made.
use Rattle.std.specs.Prelude.{◌≡◌, ◌<◌, ℕ, List, [], ◌∷◌, ◌++◌, ◌+◌, ◌*◌, Option}
use Rattle.wa_types.specs.declared.values.ValType.{ValType}
use Rattle.wa_types.specs.declared.instrs.Instr.{Instr}
use Rattle.wa_types.specs.Counts.{count_of}
use Rattle.wa_types.specs.Syntax.{a_block, a_loop, Code, nest, branch}
use Rattle.wa_types.specs.View.{code, onto}
use Rattle.wa_types.specs.declared.levels.Opened.{Opened}
use Rattle.wa_types.specs.declared.levels.Opened.TheVariants.{Block, Loop, Then, Else}
use Rattle.wa_types.specs.declared.levels.Level.{Level}
use Rattle.wa_types.specs.declared.levels.Copying.{Copying}

-- the construct before the rest, where this is the body that is being copied
abbrev pub closed : Opened → Option ValType → (body rest : Code) → Code
closed Block ty body rest = nest a_block ty body rest
closed Loop ty body rest = nest a_loop ty body rest
closed (Then arm) ty body rest = branch ty body (code arm.now) rest
closed (Else arm) ty body rest = branch ty (code arm.items) body rest

-- the whole body, where this is the innermost one; the outermost construct comes first
unfoldable pub enclosed : List Level → Code → Code
enclosed [] c = c
enclosed (l ∷ ls) c = onto l.before.items (closed l.opened l.ty (enclosed ls c) (code l.behind.now))

-- how much is left to do for a construct, and for all that are open
abbrev pub to_close : Opened → ℕ
to_close (Then arm) = 3 * count_of (code arm.now) + 2
to_close _ = 1

unfoldable pub owed : List Level → ℕ
owed [] = 0
owed (l ∷ ls) = to_close l.opened + 3 * count_of (code l.behind.now) + owed ls

-- the body that is copied
abbrev pub whole : Copying → Code
whole c = enclosed c.levels.items (onto c.made.items (code c.left.now))

-- how much is left to do of it
abbrev pub to_do : Copying → ℕ
to_do c = owed c.levels.items + 3 * count_of (code c.left.now)

-- a construct was opened behind these, with this body
pub record IsEntered (levels : List Level) (level : Level) (body : List Instr) (new : Copying) : Type 0 where
  pub opens : new.levels.items ≡ levels ++ level ∷ []
  pub none_made : new.made.items ≡ []
  pub comes : new.left.now ≡ body

-- the body that is copied stays the same, and less is left to do
pub record GoesOn (body : Code) (before : ℕ) (new : Copying) : Type 0 where
  pub same : whole new ≡ body
  pub less : to_do new < before
