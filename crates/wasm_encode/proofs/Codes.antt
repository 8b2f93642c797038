-- Sequences of instructions, one by one.
use Rattle.std.proofs.Common.{◌≡◌, ◌≢◌, ℕ, zero, suc, ◌+◌, ◌<◌, ◌≤◌, List, [], ◌∷◌, ◌++◌, inl, inr, Option, refl, ap, sym, ◌∙◌, arith, append_assoc, append-nil, length, length-append, get_or, drop}
use Rattle.std.proofs.lemmas.Bool.{cases_eq}
use Rattle.std.specs.declared.vec.Vec.{Vec}
use Rattle.std.specs.declared.alloc.Global.{Global}
use Rattle.wa_types.specs.declared.values.ValType.{ValType}
use Rattle.wa_types.specs.declared.instrs.Instr.{Instr}
use Rattle.wa_types.specs.declared.instrs.Instr.TheVariants.{BrTable, Block, Loop, If}
use Rattle.leb_numbers.specs.Leb.{shortest, spelled}
use Rattle.wa_types.specs.Syntax.{Code, Shape, done, nest, branch, a_block, a_loop}
use Rattle.wa_types.specs.View.{in_front, onto, code}
use Rattle.wa_types.specs.Encoding.{vector, shape_byte, block_type_byte, code_bytes, else_bytes}
use Rattle.wa_types.proofs.ViewLemmas.{instr_kind, is_block, is_loop, is_if, is_plain, in_block, in_loop, in_if, in_br_table, code_step, code_empty}
use Rattle.wasm_encode.specs.declared.code.Immediates.TheVariants.{Copy, Fill}
use Rattle.wasm_encode.specs.Instrs.{first_bytes, instr_bytes, immediate_bytes}

-- the number of a copy and its zero bytes
pub copy_bytes : immediate_bytes Copy ≡ 0x0A ∷ 0x00 ∷ 0x00 ∷ []
unfolding spelled
copy_bytes = refl

-- the number of a fill and its zero byte
pub fill_bytes : immediate_bytes Fill ≡ 0x0B ∷ 0x00 ∷ []
unfolding spelled
fill_bytes = refl

nest_front : (s : Shape) (r : Option ValType) (body rest : Code) → code_bytes (nest s r body rest) ≡ first_bytes (nest s r body done) ++ code_bytes rest
unfolding code_bytes first_bytes
nest_front s r body rest = ap (λ bs. shape_byte s ∷ block_type_byte r ∷ bs) (sym (append_assoc (code_bytes body) (0x0B ∷ []) (code_bytes rest)))

branch_front : (r : Option ValType) (a b rest : Code) → code_bytes (branch r a b rest) ≡ first_bytes (branch r a b done) ++ code_bytes rest
unfolding code_bytes first_bytes
branch_front r a b rest = ap (λ bs. 0x04 ∷ block_type_byte r ∷ bs) (sym (append_assoc (code_bytes a ++ else_bytes b (code_bytes b)) (0x0B ∷ []) (code_bytes rest)))

pub table_bytes : (ls : Vec ℕ Global) (l : ℕ) → instr_bytes (BrTable ls l) ≡ 0x0E ∷ (vector shortest ls.items ++ shortest l)
unfolding instr_bytes first_bytes
table_bytes ls l = ap first_bytes (in_br_table ls l done)

pub block_bytes : (r : Option ValType) (v : Vec Instr Global) → instr_bytes (Block r v) ≡ 0x02 ∷ block_type_byte r ∷ (code_bytes (code v.items) ++ 0x0B ∷ [])
unfolding instr_bytes first_bytes
block_bytes r v = ap first_bytes (in_block r v done)

pub loop_bytes : (r : Option ValType) (v : Vec Instr Global) → instr_bytes (Loop r v) ≡ 0x03 ∷ block_type_byte r ∷ (code_bytes (code v.items) ++ 0x0B ∷ [])
unfolding instr_bytes first_bytes
loop_bytes r v = ap first_bytes (in_loop r v done)

pub branch_bytes : (r : Option ValType) (v w : Vec Instr Global) → instr_bytes (If r v w) ≡ 0x04 ∷ block_type_byte r
    ∷ (code_bytes (code v.items) ++ else_bytes (code w.items) (code_bytes (code w.items)) ++ 0x0B ∷ [])
unfolding instr_bytes first_bytes
branch_bytes r v w = ap first_bytes (in_if r v w done)

-- an instruction's bytes stand in front of those of the rest
front_bytes : (i : Instr) (rest : Code) → code_bytes (in_front i rest) ≡ instr_bytes i ++ code_bytes rest
unfolding instr_bytes
front_bytes i rest =
    elim (instr_kind i) [
      | is_block r v e ↦ rw e (rw (in_block r v rest, in_block r v done) (nest_front a_block r (code v.items) rest))
      | is_loop r v e ↦ rw e (rw (in_loop r v rest, in_loop r v done) (nest_front a_loop r (code v.items) rest))
      | is_if r v w e ↦ rw e (rw (in_if r v w rest, in_if r v w done) (branch_front r (code v.items) (code w.items) rest))
      | is_plain p e ↦ rw (e rest, e done) (unfold code_bytes in unfold first_bytes in refl)
    ]

-- the instruction at i, in front of those after it
pub instr_step : (xs : List Instr) (i : ℕ) (x : Instr) → i < length xs → x ≡ get_or xs i x → code_bytes (code (drop i xs)) ≡ instr_bytes x ++ code_bytes (code (drop (i + 1) xs))
instr_step xs i x h e = ap code_bytes (code_step xs i x h e) ∙ front_bytes x (code (drop (i + 1) xs))

pub instr_none : (xs : List Instr) (i : ℕ) → length xs ≤ i → code_bytes (code (drop i xs)) ≡ []
unfolding code_bytes
instr_none xs i h = ap code_bytes (code_empty xs i h)

pub instr_length : (xs : List Instr) (i : ℕ) (x : Instr) → i < length xs → x ≡ get_or xs i x
    → length (code_bytes (code (drop i xs))) ≡ length (instr_bytes x) + length (code_bytes (code (drop (i + 1) xs)))
instr_length xs i x h e = ap length (instr_step xs i x h e) ∙ length-append (instr_bytes x) _

pub instr_none_length : (xs : List Instr) (i : ℕ) → length xs ≤ i → length (code_bytes (code (drop i xs))) ≡ 0
instr_none_length xs i h = ap length (instr_none xs i h)

pub ruleset measuring = (instr_length, instr_none_length)

-- what was written, with an instruction more
pub put_step : (xs : List Instr) (i : ℕ) (x : Instr) (old new whole : List ℕ) → i < length xs → x ≡ get_or xs i x → new ≡ old ++ instr_bytes x → old ++ code_bytes (code (drop i xs)) ≡ whole
    → new ++ code_bytes (code (drop (i + 1) xs)) ≡ whole
put_step xs i x old new whole h e put before =
    ap (λ s. s ++ code_bytes (code (drop (i + 1) xs))) put ∙ append_assoc old (instr_bytes x) _ ∙ ap (λ s. old ++ s) (sym (instr_step xs i x h e)) ∙ before

pub put_end : (xs : List Instr) (i : ℕ) (close : ℕ) (old new whole : List ℕ) → length xs ≤ i → new ≡ old ++ close ∷ [] → old ++ code_bytes (code (drop i xs)) ≡ whole → new ≡ whole ++ close ∷ []
put_end xs i close old new whole h put before =
    put ∙ ap (λ s. s ++ close ∷ []) (sym (append-nil old) ∙ ap (λ s. old ++ s) (sym (instr_none xs i h)) ∙ before)

pub ruleset putting = (put_step, put_end)

-- what was written, with three parts more
pub put_parts : (out head a b first new whole : List ℕ) → first ≡ out ++ head → new ≡ first ++ a ++ b → whole ≡ head ++ (a ++ b) → new ≡ out ++ whole
put_parts out head a b first new whole begun put e =
    put ∙ ap (λ s. s ++ a ++ b) begun ∙ append_assoc (out ++ head) a b ∙ append_assoc out head (a ++ b) ∙ ap (λ s. out ++ s) (sym e)

-- an else arm is left out exactly where it is empty
pub else_none : (xs : List Instr) (bytes : List ℕ) → length xs ≡ 0 → else_bytes (code xs) bytes ≡ []
unfolding code onto
else_none [] bytes h = refl
else_none (x ∷ xs) bytes h = absurd (omega arith)

else_front : (x : Instr) (rest : Code) (bytes : List ℕ) → else_bytes (in_front x rest) bytes ≡ 0x05 ∷ bytes
else_front x rest bytes =
    elim (instr_kind x) [
      | is_block r v e ↦ rw e (rw (in_block r v rest) refl)
      | is_loop r v e ↦ rw e (rw (in_loop r v rest) refl)
      | is_if r v w e ↦ rw e (rw (in_if r v w rest) refl)
      | is_plain p e ↦ rw (e rest) refl
    ]

pub else_some : (xs : List Instr) (bytes : List ℕ) → length xs ≢ 0 → else_bytes (code xs) bytes ≡ 0x05 ∷ bytes
unfolding code onto
else_some [] bytes h = absurd (h refl)
else_some (x ∷ xs) bytes h = else_front x (onto xs done) bytes

-- an empty sequence has no byte
pub code_none : (xs : List Instr) → length xs ≡ 0 → code_bytes (code xs) ≡ []
unfolding code onto code_bytes
code_none [] h = refl
code_none (x ∷ xs) h = absurd (omega arith)

pub table_length : (ls : Vec ℕ Global) (l : ℕ) → length (instr_bytes (BrTable ls l)) ≡ 1 + length (vector shortest ls.items) + length (shortest l)
table_length ls l = ap length (table_bytes ls l) ∙ omega (arith, length-append (vector shortest ls.items) (shortest l))

pub block_length : (r : Option ValType) (v : Vec Instr Global) → length (instr_bytes (Block r v)) ≡ 3 + length (code_bytes (code v.items))
block_length r v = ap length (block_bytes r v) ∙ omega (arith, length-append (code_bytes (code v.items)) (0x0B ∷ []))

pub loop_length : (r : Option ValType) (v : Vec Instr Global) → length (instr_bytes (Loop r v)) ≡ 3 + length (code_bytes (code v.items))
loop_length r v = ap length (loop_bytes r v) ∙ omega (arith, length-append (code_bytes (code v.items)) (0x0B ∷ []))

branch_length : (r : Option ValType) (v w : Vec Instr Global) → length (instr_bytes (If r v w)) ≡ 3 + length (code_bytes (code v.items))
    + length (else_bytes (code w.items) (code_bytes (code w.items)))
branch_length r v w =
    let arms : List ℕ = code_bytes (code v.items) ++ else_bytes (code w.items) (code_bytes (code w.items)) in
    ap length (branch_bytes r v w) ∙ omega (arith, length-append arms (0x0B ∷ []), length-append (code_bytes (code v.items)) (else_bytes (code w.items) (code_bytes (code w.items))))

pub branch_length_none : (r : Option ValType) (v w : Vec Instr Global) → length w.items ≡ 0
    → length (instr_bytes (If r v w)) ≡ 3 + length (code_bytes (code v.items)) + length (code_bytes (code w.items))
branch_length_none r v w h =
    branch_length r v w ∙ omega (arith, ap length (else_none w.items (code_bytes (code w.items)) h), ap length (code_none w.items h))

pub branch_length_some : (r : Option ValType) (v w : Vec Instr Global) → length w.items ≢ 0
    → length (instr_bytes (If r v w)) ≡ 4 + length (code_bytes (code v.items)) + length (code_bytes (code w.items))
branch_length_some r v w h = branch_length r v w ∙ omega (arith, ap length (else_some w.items (code_bytes (code w.items)) h))

pub branch_length_le : (r : Option ValType) (v w : Vec Instr Global) → 3 + length (code_bytes (code v.items)) + length (code_bytes (code w.items)) ≤ length (instr_bytes (If r v w))
branch_length_le r v w = elim (cases_eq (length w.items) 0) [
  | inl none ↦ let e = branch_length_none r v w none in omega (arith, e)
  | inr some ↦ let e = branch_length_some r v w some in omega (arith, e)
]

pub ruleset measuring_one = (table_length, block_length, loop_length, branch_length_none, branch_length_some, branch_length_le)

pub ruleset putting_one = (table_bytes, block_bytes, loop_bytes, branch_bytes, else_none, else_some, append_assoc)
