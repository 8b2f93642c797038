-- Constructs whose bodies are being read.
use Rattle.std.specs.Prelude.{◌≡◌, ℕ, List, [], ◌∷◌, ◌++◌, reverse, Option, Bool, true, false, Result, Ok, Err}
use Rattle.std.specs.declared.vec.Vec.{Vec}
use Rattle.std.specs.declared.alloc.Global.{Global}
use Rattle.wa_types.specs.declared.values.ValType.{ValType}
use Rattle.wa_types.specs.declared.instrs.Instr.{Instr}
use Rattle.wa_types.specs.Syntax.{a_block, a_loop, Code, done, nest, branch}
use Rattle.wa_types.specs.View.{code, onto}
use Rattle.wasm_build.specs.declared.build_types.BuildFault.{BuildFault}
use Rattle.wasm_build.specs.declared.build_types.BuildFault.TheVariants.{Memory, NotSpelled}
use Rattle.wasm_build.specs.declared.levels.Opened.{Opened}
use Rattle.wasm_build.specs.declared.levels.Opened.TheVariants.{Block, Loop, Then, Else}
use Rattle.wasm_build.specs.declared.levels.Level.{Level}
use Rattle.wasm_grammar.specs.Places.{Place, with_more}
use Rattle.wasm_build.specs.Builds.{Between, Builds}
use Rattle.wasm_build.specs.BuildsCode.{CodeItem, SpelledCode, SpelledExpression, BuildsNext}

-- the construct before the rest, where this is its body
abbrev pub closed : Opened → Option ValType → (body rest : Code) → Code
closed Block ty body rest = nest a_block ty body rest
closed Loop ty body rest = nest a_loop ty body rest
closed Then ty body rest = branch ty body done rest
closed (Else arm) ty body rest = branch ty (code arm.items) body rest

-- its first arm, which is this body, gives way to its second
pub record IsTurned (level : Level) (old : List Level) (body : Vec Instr Global) (new : List Level) : Type 0 where
  pub first : level.opened ≡ Then
  pub turned : new ≡ old ++ (record level { opened = Else body }) ∷ []

-- there is no memory, or the construct has no first arm
abbrev pub IsLost : Level → BuildFault → Type 0
IsLost level NotSpelled = level.opened ≡ Then → ⊥
IsLost level Memory = Unit {0}

-- What is spelled from here on, inside a construct: the rest of its body up to a place, and from there on what is spelled outside,
-- behind what stands there, the construct itself last.
abbrev pub Inside : Opened → Option ValType → (before : List Instr) → (Outside : (Code → Code) → Place → Type 0) → (Code → Code) → Place → Type 0
Inside Then ty before Outside f here =
    (rest other : Code) × (middle : Place) × Between (SpelledCode true rest other) here middle × Outside (λ more. onto before (branch ty (f rest) other more)) middle
Inside Block ty before Outside f here =
    (rest : Code) × (middle : Place) × Between (SpelledExpression rest) here middle × Outside (λ more. onto before (nest a_block ty (f rest) more)) middle
Inside Loop ty before Outside f here =
    (rest : Code) × (middle : Place) × Between (SpelledExpression rest) here middle × Outside (λ more. onto before (nest a_loop ty (f rest) more)) middle
Inside (Else arm) ty before Outside f here =
    (rest : Code) × (middle : Place) × Between (SpelledExpression rest) here middle × Outside (λ more. onto before (branch ty (code arm.items) (f rest) more)) middle

-- The same inside these constructs, the innermost first, where the whole is this code up to this place.
abbrev pub Ahead : List Level → (c : Code) → (end : Place) → (Code → Code) → Place → Type 0
Ahead [] c end f here = (rest : Code) × (f rest ≡ c) × Between (SpelledExpression rest) here end
Ahead (l ∷ ls) c end f here = Inside l.opened l.ty l.before.items (Ahead ls c end) f here

-- For whatever expression is spelled from the old place, whatever follows the bytes, this is ahead.
pub record Running (old : Place) (levels : List Level) (got : List Instr) (here : Place) : Type 0 where
  pub going : (more : List ℕ) (c : Code) (end : Place) → Between (SpelledExpression c) (with_more old more) end → Ahead (reverse levels) c end (onto got) (with_more here more)

-- what a turn answers: that more is ahead, or that the expression is this body, or that none is built
abbrev pub Turned : Result Bool BuildFault → (old : Place) → (levels : List Level) → (body : Vec Instr Global) → (new : Place) → Type 0
Turned (Ok false) old levels body new = Running old levels body.items new
Turned (Ok true) old levels body new = Builds (λ (v : Vec Instr Global). code v.items) SpelledExpression (Ok body) old new
Turned (Err d) old levels body new = Builds (λ (v : Vec Instr Global). code v.items) SpelledExpression (Err d) old new

-- one turn, by what stands next
abbrev pub Turns : CodeItem → (levels : List Level) → (body : Vec Instr Global) → Result Bool BuildFault → (new_levels : List Level) → (new_body : Vec Instr Global) → Type 0
Turns next levels body result new_levels new_body =
    (old here new : Place) → Running old levels body.items here → BuildsNext (Ok next) here new → Turned result old new_levels new_body new
