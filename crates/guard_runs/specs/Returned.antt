-- A written stack that came back has a flat stack beside it again.
use Rattle.std.specs.Prelude.{◌≡◌, ℕ, List, [], ◌∷◌, length}
use Rattle.wa_model.specs.Configuration.{Activation}
use Rattle.wa_model.specs.Store.{value_at}
use Rattle.frame_laws.specs.FrameMemory.{IsKept}
use Rattle.frame_laws.specs.Layout.{Layout}
use Rattle.frame_laws.specs.Stack.{AllCameBack}
use Rattle.guard_runs.specs.Joined.{CallFrame}
use Rattle.guard_runs.specs.Levels.{levels_of, MayStand}
use Rattle.guard_runs.specs.Alike.{Setting}
use Rattle.guard_runs.specs.Stopped.{Stopped}

-- the same call of the same function, with the kept locals as they were
pub record SameFlat (l : Layout) (a b : Activation) : Type 0 where
  pub func : b.func ≡ a.func
  pub taken : b.taken ≡ a.taken
  pub code : b.code ≡ a.code
  pub labels : b.labels ≡ a.labels
  pub operands : b.operands ≡ []
  pub size : length b.locals ≡ length a.locals
  pub kept_same : (x : ℕ) → IsKept x l.fields → value_at b.locals x ≡ value_at a.locals x

-- so is each of two stacks
abbrev pub AllSameFlat : (lay : Activation → CallFrame) → List Activation → List Activation → Type 0
AllSameFlat lay [] [] = Unit {0}
AllSameFlat lay (a ∷ us) (b ∷ vs) = SameFlat (lay a).layout a b × AllSameFlat lay us vs
AllSameFlat lay _ _ = ⊥

-- There is such a flat stack, which stops at the same calls.
pub record FlatAgain (v : Setting) (lay : Activation → CallFrame) (callee : ℕ) (us new' : List Activation) : Type 0 where
  pub new : List Activation
  pub stopped : Stopped v callee new new'
  pub same : AllSameFlat lay us new
  pub count : length new ≡ length us

-- Beside a written stack that came back, in which what is kept is as it was, such a flat stack stands.
abbrev pub StacksReturn : Type 0
StacksReturn = (v : Setting) (lay : Activation → CallFrame) (callee : ℕ) (us us' new' : List Activation) (d : Stopped v callee us us') → MayStand v lay d
    → AllCameBack (levels_of v lay d) new' → FlatAgain v lay callee us new'
