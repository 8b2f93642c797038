-- The bytes of one instruction.
use Rattle.std.specs.Prelude.{◌≡◌, ℕ, List, [], ◌∷◌, ◌++◌, Option}
use Rattle.std.specs.declared.vec.Vec.{Vec}
use Rattle.std.specs.declared.alloc.Global.{Global}
use Rattle.wa_types.specs.declared.values.ValType.{ValType}
use Rattle.wa_types.specs.declared.instrs.Instr.{Instr}
use Rattle.wa_types.specs.declared.instrs.Instr.TheVariants.{BrTable, Block, Loop, If}
use Rattle.wa_types.specs.Binary.{Immediates as PlainImmediates, nothing, zero_byte, index, index_and_zero, access, constant, bulk}
use Rattle.wa_types.specs.Syntax.{Code, done, plain, nest, branch}
use Rattle.wa_types.specs.View.{in_front}
use Rattle.wa_types.specs.Encoding.{immediate_bytes as bytes_behind, plain_bytes, shape_byte, block_type_byte, code_bytes, else_bytes}
use Rattle.wasm_encode.specs.declared.code.Immediates.{Immediates}
use Rattle.wasm_encode.specs.declared.code.Immediates.TheVariants.{Nothing, Zero, Index, IndexAndZero, Memory, Signed32, Signed64, Copy, Fill}

-- the first instruction of a sequence
unfoldable pub first_bytes : Code → List ℕ
first_bytes done = []
first_bytes (plain p rest) = plain_bytes p
first_bytes (nest s r body rest) = shape_byte s ∷ block_type_byte r ∷ (code_bytes body ++ 0x0B ∷ [])
first_bytes (branch r a b rest) = 0x04 ∷ block_type_byte r ∷ (code_bytes a ++ else_bytes b (code_bytes b) ++ 0x0B ∷ [])

-- an instruction (standard, section 5.4)
unfoldable pub instr_bytes : Instr → List ℕ
instr_bytes i = first_bytes (in_front i done)

-- what follows an opcode, in the terms of the format
abbrev pub immediates_of : Immediates → PlainImmediates
immediates_of Nothing = nothing
immediates_of Zero = zero_byte
immediates_of (Index x) = index x
immediates_of (IndexAndZero x) = index_and_zero x
immediates_of (Memory align offset) = access align offset
immediates_of (Signed32 n) = constant 32 n
immediates_of (Signed64 n) = constant 64 n
immediates_of Copy = bulk 10
immediates_of Fill = bulk 11

-- the same as it is written
abbrev pub immediate_bytes : Immediates → List ℕ
immediate_bytes immediates = bytes_behind (immediates_of immediates)

-- behind the opcode stand two numbers at most: the instruction is no br_table, block, loop or if
pub record IsSimple (i : Instr) : Type 0 where
  pub not_table : (ls : Vec ℕ Global) (l : ℕ) → i ≡ BrTable ls l → ⊥
  pub not_block : (r : Option ValType) (body : Vec Instr Global) → i ≡ Block r body → ⊥
  pub not_loop : (r : Option ValType) (body : Vec Instr Global) → i ≡ Loop r body → ⊥
  pub not_if : (r : Option ValType) (a b : Vec Instr Global) → i ≡ If r a b → ⊥
