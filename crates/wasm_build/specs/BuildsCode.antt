-- What the builder gives for bytes that spell code.
use Rattle.std.specs.Prelude.{◌≡◌, ℕ, List, Bool, true, false, Option, Result, Ok, Err}
use Rattle.wa_types.specs.declared.values.ValType.{ValType}
use Rattle.wa_types.specs.declared.instrs.Instr.{Instr}
use Rattle.wa_types.specs.Syntax.{Shape, a_block, a_loop, Code, done, nest, branch}
use Rattle.wa_types.specs.View.{in_front}
use Rattle.wa_types.specs.Spells.{◌▸◌, BlockType, CodeOf}
use Rattle.wa_types.specs.Reading.{IsCode}
use Rattle.wasm_build.specs.declared.build_types.BuildFault.{BuildFault}
use Rattle.wasm_grammar.specs.Places.{Place, with_more}
use Rattle.wasm_build.specs.Builds.{Between, IsWant, SpelledAs, IsResult}

-- code up to its end, or up to an else and the other arm behind it
abbrev pub SpelledCode : (first_arm : Bool) → (body else_arm : Code) → ℕ → List ℕ → Type 0
SpelledCode first_arm body else_arm = SpelledAs (CodeOf first_arm) (λ raw c. IsCode raw c else_arm) body

abbrev pub SpelledExpression : Code → ℕ → List ℕ → Type 0
SpelledExpression c = SpelledCode false c done

abbrev pub SpelledResult : Option ValType → ℕ → List ℕ → Type 0
SpelledResult = SpelledAs BlockType IsResult

-- the result and the body of a block or a loop
abbrev pub SpelledConstruct : Option ValType × Code → ℕ → List ℕ → Type 0
SpelledConstruct x = SpelledResult x.0 ▸ SpelledExpression x.1

-- the result and the arms of an if
abbrev pub SpelledArms : Option ValType × Code × Code → ℕ → List ℕ → Type 0
SpelledArms x = SpelledResult x.0 ▸ SpelledCode true x.1 x.2

-- What stands next in a sequence: an instruction that holds no other, the head of a construct with its result, an else or an end.
pub data CodeItem : Type 0 where
  an_instr : Instr → CodeItem
  open_block open_loop open_if : (ty : Option ValType) → CodeItem
  an_else an_end : CodeItem

-- a block or a loop before the rest: its body is spelled from here to a place, and from there on the rest
abbrev pub GivesNest : Shape → Option ValType → (first_arm : Bool) → (body else_arm : Code) → (new end : Place) → Type 0
GivesNest s r first_arm body else_arm new end =
    (inner rest : Code) × (middle : Place) × (body ≡ nest s r inner rest) × Between (SpelledExpression inner) new middle × Between (SpelledCode first_arm rest else_arm) middle end

-- an if before the rest
abbrev pub GivesBranch : Option ValType → (first_arm : Bool) → (body else_arm : Code) → (new end : Place) → Type 0
GivesBranch r first_arm body else_arm new end =
    (arm other rest : Code) × (middle : Place) × (body ≡ branch r arm other rest) × Between (SpelledCode true arm other) new middle × Between (SpelledCode first_arm rest else_arm) middle end

-- the next instruction before the rest, or the head of a construct, or the end, or the else before the other arm; or a want
abbrev pub GivesNext : (more : List ℕ) → Result CodeItem BuildFault → (first_arm : Bool) → (body else_arm : Code) → (new end : Place) → Type 0
GivesNext more (Ok (an_instr i)) first_arm body else_arm new end =
    (rest : Code) × (body ≡ in_front i rest) × Between (SpelledCode first_arm rest else_arm) new end
GivesNext more (Ok (open_block r)) first_arm body else_arm new end = GivesNest a_block r first_arm body else_arm new end
GivesNext more (Ok (open_loop r)) first_arm body else_arm new end = GivesNest a_loop r first_arm body else_arm new end
GivesNext more (Ok (open_if r)) first_arm body else_arm new end = GivesBranch r first_arm body else_arm new end
GivesNext more (Ok an_end) first_arm body else_arm new end = (body ≡ done) × (else_arm ≡ done) × (new ≡ end)
GivesNext more (Ok an_else) first_arm body else_arm new end =
    (body ≡ done) × (first_arm ≡ true) × Between (SpelledExpression else_arm) new end
GivesNext more (Err e) first_arm body else_arm new end = IsWant more e

-- for whatever code stands next, whatever follows the bytes
pub record BuildsNext (result : Result CodeItem BuildFault) (old new : Place) : Type 0 where
  pub built : (more : List ℕ) (first_arm : Bool) (body else_arm : Code) (end : Place) → Between (SpelledCode first_arm body else_arm) (with_more old more) end
      → GivesNext more result first_arm body else_arm (with_more new more) end
