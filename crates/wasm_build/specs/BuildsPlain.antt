-- What the builder gives for bytes that spell an instruction that holds no other.
use Rattle.std.specs.Prelude.{◌≡◌, ℕ, List, [], ◌∷◌, ◌++◌, Bool, false, Option, Some, None, Result, Ok, Err}
use Rattle.wa_types.specs.declared.instrs.Instr.{Instr}
use Rattle.wa_types.specs.declared.operators.NumOp.{NumOp}
use Rattle.wa_types.specs.Syntax.{Plain, Code, done, plain}
use Rattle.wa_types.specs.View.{in_front}
use Rattle.wa_types.specs.Binary.{Immediates}
use Rattle.wa_types.specs.Operators.{opcode_of}
use Rattle.wa_types.specs.Opcodes.{follows, form, plain_immediates, plain_opcode}
use Rattle.wa_types.specs.Spells.{ImmediatesOf}
use Rattle.wa_types.specs.Reading.{HasKind}
use Rattle.wasm_build.specs.declared.build_types.BuildFault.{BuildFault}
use Rattle.wasm_build.specs.declared.build_types.BuildFault.TheVariants.{NotSpelled}
use Rattle.wasm_grammar.specs.Places.{Place}
use Rattle.wasm_build.specs.Builds.{Builds}

-- an instruction of this opcode that holds no other, by what follows the opcode
pub record IsOfOpcode (op : ℕ) (p : Plain) : Type 0 where
  pub opcode : op ≡ plain_opcode p
  pub operands : follows op ≡ Some (form (plain_immediates p))
  pub kind : HasKind p

abbrev pub SpelledPlain : (op : ℕ) → Code → ℕ → List ℕ → Type 0
SpelledPlain op c at bytes = (p : Plain) × (c ≡ plain p done) × IsOfOpcode op p × ImmediatesOf (plain_immediates p) at bytes

-- the instruction alone
abbrev pub code_of_one : Instr → Code
code_of_one i = in_front i done

abbrev pub IsNamed : Option Instr → Plain → Type 0
IsNamed (Some i) p = code_of_one i ≡ plain p done
IsNamed None p = ⊥

-- whatever instruction has this opcode and these operands is the result
pub record NamesPlain (op : ℕ) (operands : Immediates) (result : Option Instr) : Type 0 where
  pub named : (p : Plain) → HasKind p → op ≡ plain_opcode p → plain_immediates p ≡ operands → IsNamed result p

-- that instruction, where there is one
abbrev pub FoundIn : Option Instr → Result Instr BuildFault → Type 0
FoundIn (Some i) result = result ≡ Ok i
FoundIn None result = result ≡ Err NotSpelled

-- the instruction of this opcode stands behind those before it, and the expression goes on; or there is none
abbrev pub Puts : (op : ℕ) → Result Bool BuildFault → (old new : List Instr) → (here there : Place) → Type 0
Puts op (Ok ended) old new here there = (instr : Instr) × (ended ≡ false) × (new ≡ old ++ instr ∷ []) × Builds code_of_one (SpelledPlain op) (Ok instr) here there
Puts op (Err e) old new here there = Builds code_of_one (SpelledPlain op) (Err e) here there

-- the same of the instruction of a numeric operator
abbrev pub PutsNumber : NumOp → Result Bool BuildFault → (old new : List Instr) → Type 0
PutsNumber n result old new = (op : ℕ) (here : Place) → op ≡ opcode_of n → Puts op result old new here here
