-- How high operands stand, instruction by instruction.
use Rattle.std.proofs.Common.{◌≡◌, ℕ, ◌+◌, ◌-◌, ◌^◌, ◌<◌, ◌≤◌, max, min, nat_lt, if◌then◌else◌, Bool, true, false, List, [], ◌∷◌, map, All, ap, sym, ◌∙◌, arith, refl, Option, Some, None, slice_get, length, get_or, drop}
use Rattle.std.specs.Option.{option_map}
use Rattle.std.proofs.lemmas.List.Elements.{All-nil, All-cons, All-head, All-tail}
use Rattle.std.proofs.lemmas.Option.{slice_get-map, get_or_from_slice_get}
use Rattle.std.specs.declared.vec.Vec.{Vec}
use Rattle.std.specs.declared.alloc.Global.{Global}
use Rattle.wa_types.specs.declared.syntax.Func.{Func as FuncValue}
use Rattle.wa_types.specs.declared.values.ValType.{ValType}
use Rattle.wa_types.specs.declared.values.Value.{Value}
use Rattle.wa_types.specs.declared.operators.NumOp.{NumOp}
use Rattle.wa_types.specs.declared.instrs.Instr.{Instr}
use Rattle.wa_types.specs.declared.instrs.Instr.TheVariants.{Unreachable, Nop, Drop, Select, Return, MemorySize, MemoryGrow, MemoryCopy, MemoryFill, Const, Num, Br, BrIf, BrTable, Call, CallIndirect, LocalGet, LocalSet, LocalTee, GlobalGet, GlobalSet, Load, Store, Block, Loop, If, Block', Loop', If'}
use Rattle.wa_types.specs.Counts.{count_of}
use Rattle.wa_types.specs.Modules.{type_at, func_type_at, func_imports, defined_at}
use Rattle.wa_types.specs.Operators.{operand_types}
use Rattle.wa_types.specs.Pruned.{is_last, is_last_instr}
use Rattle.wa_types.specs.Syntax.{Module, Basic, nop, drop as drop_operand, select, const, num, global_get, global_set, load, store, memory_size, memory_grow, memory_copy, memory_fill, Plain, basic, local_get, local_set, local_tee, br, br_if, br_table, return, unreachable, call, call_indirect, Code, done, plain, Func}
use Rattle.wa_types.specs.Sizes.{FuncSizes}
use Rattle.wa_types.specs.View.{code, in_front, func_of}
use Rattle.wa_types.proofs.SizeBounds.{count_fits}
use Rattle.wa_types.proofs.ViewLemmas.{is_block, is_loop, is_if, is_plain, instr_kind, in_block, in_loop, in_if, code_step, code_empty}
use Rattle.wa_types.proofs.MeasureLemmas.{count_step, count_empty, count_block, count_loop, count_if}
use Rattle.wa_model.specs.Store.{gives}
use Rattle.wa_model.specs.Step.{arity_of}
use Rattle.run_theory.proofs.HeightLemmas.{most_least}
use Rattle.interp_state.specs.declared.rooms.Room.{Room}
use Rattle.run_theory.specs.Heights.{behind, behind_plain, most_operands}
use Rattle.interp_state.specs.Rooms.{room_of, room_at, HasFewInstrs}
use Rattle.interp_state.proofs.MapLemmas.{map_map}

-- whether control never goes on behind the first instruction of code
abbrev ends : Code → Bool
ends (plain p rest) = is_last p
ends _ = false

last_front : (x : Instr) → is_last_instr x ≡ ends (in_front x done)
unfolding in_front is_last_instr
last_front Unreachable = refl
last_front Nop = refl
last_front Drop = refl
last_front Select = refl
last_front Return = refl
last_front MemorySize = refl
last_front MemoryGrow = refl
last_front MemoryCopy = refl
last_front MemoryFill = refl
last_front (Const v) = refl
last_front (Num op) = refl
last_front (Br l) = refl
last_front (BrIf l) = refl
last_front (BrTable ls l) = refl
last_front (Call x) = refl
last_front (CallIndirect x) = refl
last_front (LocalGet x) = refl
last_front (LocalSet x) = refl
last_front (LocalTee x) = refl
last_front (GlobalGet x) = refl
last_front (GlobalSet x) = refl
last_front (Load op a o) = refl
last_front (Store op a o) = refl
last_front (Block' r s k) = refl
last_front (Loop' r s k) = refl
last_front (If' r s k t l) = refl

last_plain : (x : Instr) (p : Plain) → ((rest : Code) → in_front x rest ≡ plain p rest) → is_last_instr x ≡ is_last p
last_plain x p e = last_front x ∙ ap ends (e done)

-- those of an instruction, where control never goes on behind it
most_ending : (m : Module) (x : Instr) (rest : Code) (h : ℕ) → is_last_instr x ≡ true → most_operands m (in_front x rest) h ≡ h
unfolding most_operands is_last_instr
most_ending m x rest h l = elim (instr_kind x) [
  | is_block r v e ↦ absurd (let f : false ≡ true = sym (ap is_last_instr e) ∙ l in cc)
  | is_loop r v e ↦ absurd (let f : false ≡ true = sym (ap is_last_instr e) ∙ l in cc)
  | is_if r v w e ↦ absurd (let f : false ≡ true = sym (ap is_last_instr e) ∙ l in cc)
  | is_plain p e ↦ ap (λ c. most_operands m c h) (e rest) ∙ ap (λ b. if b then h else max h (most_operands m rest (behind_plain m p h))) (sym (last_plain x p e) ∙ l)
]

-- and of one and of the code behind it, where control goes on
most_behind : (m : Module) (x : Instr) (rest : Code) (h : ℕ) → is_last_instr x ≡ false
    → most_operands m (in_front x rest) h ≡ max (most_operands m (in_front x done) h) (most_operands m rest (behind m (in_front x done) h))
unfolding most_operands behind
most_behind m x rest h l = elim (instr_kind x) [
  | is_block r v e ↦
      ap (λ y. most_operands m (in_front y rest) h) e ∙ ap (λ c. most_operands m c h) (in_block r v rest)
      ∙ omega (
        arith,
        most_least m rest (h + arity_of r),
        ap (λ y. most_operands m (in_front y done) h) e
            ∙ ap (λ c. most_operands m c h) (in_block r v done),
        ap (λ y. most_operands m rest (behind m (in_front y done) h)) e
            ∙ ap (λ c. most_operands m rest (behind m c h)) (in_block r v done),
      )
  | is_loop r v e ↦
      ap (λ y. most_operands m (in_front y rest) h) e ∙ ap (λ c. most_operands m c h) (in_loop r v rest)
      ∙ omega (
        arith,
        most_least m rest (h + arity_of r),
        ap (λ y. most_operands m (in_front y done) h) e
            ∙ ap (λ c. most_operands m c h) (in_loop r v done),
        ap (λ y. most_operands m rest (behind m (in_front y done) h)) e
            ∙ ap (λ c. most_operands m rest (behind m c h)) (in_loop r v done),
      )
  | is_if r v w e ↦
      ap (λ y. most_operands m (in_front y rest) h) e ∙ ap (λ c. most_operands m c h) (in_if r v w rest)
      ∙ omega (
        arith,
        most_least m rest (h - 1 + arity_of r),
        ap (λ y. most_operands m (in_front y done) h) e
            ∙ ap (λ c. most_operands m c h) (in_if r v w done),
        ap (λ y. most_operands m rest (behind m (in_front y done) h)) e
            ∙ ap (λ c. most_operands m rest (behind m c h)) (in_if r v w done),
      )
  | is_plain p e ↦
      let goes : is_last p ≡ false = sym (last_plain x p e) ∙ l in
      let whole : most_operands m (in_front x rest) h ≡ max h (most_operands m rest (behind_plain m p h)) =
      ap (λ c. most_operands m c h) (e rest) ∙ ap (λ b. if b then h else max h (most_operands m rest (behind_plain m p h))) goes in
      let first : most_operands m (in_front x done) h ≡ max h (behind_plain m p h) =
      ap (λ c. most_operands m c h) (e done) ∙ ap (λ b. if b then h else max h (behind_plain m p h)) goes in
      whole ∙ omega (arith, most_least m rest (behind_plain m p h), first, ap (λ c. most_operands m rest (behind m c h)) (e done))
]

-- nor than stand behind its first instruction
pub most_reached : (m : Module) (x : Instr) (h : ℕ) → is_last_instr x ≡ false → behind m (in_front x done) h ≤ most_operands m (in_front x done) h
unfolding most_operands
most_reached m x h l = omega (arith, most_behind m x done h l)

-- a basic instruction gives one operand at most
gives_few : (b : Basic) → gives b ≤ 1
gives_few nop = omega arith
gives_few drop_operand = omega arith
gives_few select = omega arith
gives_few (const v) = omega arith
gives_few (num op) = omega arith
gives_few (global_get x) = omega arith
gives_few (global_set x) = omega arith
gives_few (load op align offset) = omega arith
gives_few (store op align offset) = omega arith
gives_few memory_size = omega arith
gives_few memory_grow = omega arith
gives_few memory_copy = omega arith
gives_few memory_fill = omega arith

arity_few : (r : Option ValType) → arity_of r ≤ 1
arity_few None = omega arith
arity_few (Some t) = omega arith

-- one more operand at most stands behind an instruction
behind_basic : (m : Module) (p : Plain) (h : ℕ) → behind_plain m p h ≤ h + 1
behind_basic m (basic b) h = omega (arith, gives_few b)
behind_basic m (local_get x) h = omega arith
behind_basic m (local_set x) h = omega arith
behind_basic m (local_tee x) h = omega arith
behind_basic m (br l) h = omega arith
behind_basic m (br_if l) h = omega arith
behind_basic m (br_table targets last) h = omega arith
behind_basic m return h = omega arith
behind_basic m unreachable h = omega arith
behind_basic m (call x) h = omega arith
behind_basic m (call_indirect sort) h = omega arith

pub behind_few : (m : Module) (x : Instr) (h : ℕ) → behind m (in_front x done) h ≤ h + 1
unfolding behind
behind_few m x h = elim (instr_kind x) [
  | is_block r v e ↦ omega (arith, arity_few r, ap (λ y. behind m (in_front y done) h) e ∙ ap (λ c. behind m c h) (in_block r v done))
  | is_loop r v e ↦ omega (arith, arity_few r, ap (λ y. behind m (in_front y done) h) e ∙ ap (λ c. behind m c h) (in_loop r v done))
  | is_if r v w e ↦ omega (arith, arity_few r, ap (λ y. behind m (in_front y done) h) e ∙ ap (λ c. behind m c h) (in_if r v w done))
  | is_plain p e ↦ omega (arith, behind_basic m p h, ap (λ c. behind m c h) (e done))
]

-- code with the element at i in front of those after it
pub most_step : (m : Module) (xs : List Instr) (i : ℕ) (x : Instr) (h : ℕ) → i < length xs → x ≡ get_or xs i x → is_last_instr x ≡ false
    → most_operands m (code (drop i xs)) h ≡ max (most_operands m (in_front x done) h) (most_operands m (code (drop (i + 1) xs)) (behind m (in_front x done) h))
most_step m xs i x h n e l = ap (λ c. most_operands m c h) (code_step xs i x n e) ∙ most_behind m x (code (drop (i + 1) xs)) h l

pub most_last : (m : Module) (xs : List Instr) (i : ℕ) (x : Instr) (h : ℕ) → i < length xs → x ≡ get_or xs i x → is_last_instr x ≡ true → most_operands m (code (drop i xs)) h ≡ h
most_last m xs i x h n e l = ap (λ c. most_operands m c h) (code_step xs i x n e) ∙ most_ending m x (code (drop (i + 1) xs)) h l

pub most_empty : (m : Module) (xs : List Instr) (i : ℕ) (h : ℕ) → length xs ≤ i → most_operands m (code (drop i xs)) h ≡ h
unfolding most_operands
most_empty m xs i h l = ap (λ c. most_operands m c h) (code_empty xs i l)

pub most_block : (m : Module) (r : Option ValType) (v : Vec Instr Global) (h : ℕ) → most_operands m (in_front (Block r v) done) h
    ≡ max (most_operands m (code v.items) h) (behind m (in_front (Block r v) done) h)
unfolding most_operands behind
most_block m r v h = ap (λ c. most_operands m c h) (in_block r v done) ∙ ap (max (most_operands m (code v.items) h)) (sym (ap (λ c. behind m c h) (in_block r v done)))

pub most_loop : (m : Module) (r : Option ValType) (v : Vec Instr Global) (h : ℕ) → most_operands m (in_front (Loop r v) done) h
    ≡ max (most_operands m (code v.items) h) (behind m (in_front (Loop r v) done) h)
unfolding most_operands behind
most_loop m r v h = ap (λ c. most_operands m c h) (in_loop r v done) ∙ ap (max (most_operands m (code v.items) h)) (sym (ap (λ c. behind m c h) (in_loop r v done)))

pub most_if : (m : Module) (r : Option ValType) (v w : Vec Instr Global) (h : ℕ) → most_operands m (in_front (If r v w) done) h
    ≡ max h (max (max (most_operands m (code v.items) (h - 1)) (most_operands m (code w.items) (h - 1))) (behind m (in_front (If r v w) done) h))
unfolding most_operands behind
most_if m r v w h = ap (λ c. most_operands m c h) (in_if r v w done) ∙ ap (λ n. max h (max (max (most_operands m (code v.items) (h - 1)) (most_operands m (code w.items) (h - 1))) n))
    (sym (ap (λ c. behind m c h) (in_if r v w done)))

-- one that holds no other, alone: where control never goes on the height is as it was
most_plain : (m : Module) (p : Plain) (h : ℕ) → (if is_last p then h else max h (behind_plain m p h)) ≡ max h (behind_plain m p h)
most_plain m (basic b) h = refl
most_plain m (local_get x) h = refl
most_plain m (local_set x) h = refl
most_plain m (local_tee x) h = refl
most_plain m (br l) h = omega arith
most_plain m (br_if l) h = refl
most_plain m (br_table targets last) h = omega arith
most_plain m return h = omega arith
most_plain m unreachable h = omega arith
most_plain m (call x) h = refl
most_plain m (call_indirect sort) h = refl

pub most_other : (m : Module) (x : Instr) (h : ℕ) → ((r : Option ValType) (v : Vec Instr Global) → x ≡ Block r v → ⊥) → ((r : Option ValType) (v : Vec Instr Global) → x ≡ Loop r v → ⊥)
    → ((r : Option ValType) (v w : Vec Instr Global) → x ≡ If r v w → ⊥) → most_operands m (in_front x done) h ≡ max h (behind m (in_front x done) h)
unfolding most_operands behind
most_other m x h not_block not_loop not_if = elim (instr_kind x) [
  | is_block r v e ↦ absurd (not_block r v e)
  | is_loop r v e ↦ absurd (not_loop r v e)
  | is_if r v w e ↦ absurd (not_if r v w e)
  | is_plain p e ↦ ap (λ c. most_operands m c h) (e done) ∙ most_plain m p h ∙ ap (max h) (sym (ap (λ c. behind m c h) (e done)))
]

-- how high operands stand behind each instruction
pub after_get : (m : Module) (h : ℕ) (x : ℕ) → behind m (in_front (LocalGet x) done) h ≡ h + 1
unfolding behind in_front
after_get m h x = refl

pub after_global_get : (m : Module) (h : ℕ) (x : ℕ) → behind m (in_front (GlobalGet x) done) h ≡ h + 1
unfolding behind in_front
after_global_get m h x = let e : h - 0 + 1 ≡ h + 1 = omega arith in e

pub after_const : (m : Module) (h : ℕ) (v : Value) → behind m (in_front (Const v) done) h ≡ h + 1
unfolding behind in_front
after_const m h v = let e : h - 0 + 1 ≡ h + 1 = omega arith in e

pub after_size : (m : Module) (h : ℕ) → behind m (in_front MemorySize done) h ≡ h + 1
unfolding behind in_front
after_size m h = let e : h - 0 + 1 ≡ h + 1 = omega arith in e

pub after_num : (m : Module) (h : ℕ) (op : NumOp) → behind m (in_front (Num op) done) h ≡ h - length (operand_types op) + 1
unfolding behind in_front
after_num m h op = refl

pub after_select : (m : Module) (h : ℕ) → behind m (in_front Select done) h ≡ h - 3 + 1
unfolding behind in_front
after_select m h = refl

pub after_load : (m : Module) (h : ℕ) (op a o : ℕ) → behind m (in_front (Load op a o) done) h ≡ h - 1 + 1
unfolding behind in_front
after_load m h op a o = refl

pub after_grow : (m : Module) (h : ℕ) → behind m (in_front MemoryGrow done) h ≡ h - 1 + 1
unfolding behind in_front
after_grow m h = refl

pub after_copy : (m : Module) (h : ℕ) → behind m (in_front MemoryCopy done) h ≡ h - 3
unfolding behind in_front
after_copy m h = let e : h - 3 + 0 ≡ h - 3 = omega arith in e

pub after_fill : (m : Module) (h : ℕ) → behind m (in_front MemoryFill done) h ≡ h - 3
unfolding behind in_front
after_fill m h = let e : h - 3 + 0 ≡ h - 3 = omega arith in e

pub after_set : (m : Module) (h : ℕ) (x : ℕ) → behind m (in_front (LocalSet x) done) h ≡ h - 1
unfolding behind in_front
after_set m h x = refl

pub after_global_set : (m : Module) (h : ℕ) (x : ℕ) → behind m (in_front (GlobalSet x) done) h ≡ h - 1
unfolding behind in_front
after_global_set m h x = let e : h - 1 + 0 ≡ h - 1 = omega arith in e

pub after_drop : (m : Module) (h : ℕ) → behind m (in_front Drop done) h ≡ h - 1
unfolding behind in_front
after_drop m h = let e : h - 1 + 0 ≡ h - 1 = omega arith in e

pub after_br_if : (m : Module) (h : ℕ) (l : ℕ) → behind m (in_front (BrIf l) done) h ≡ h - 1
unfolding behind in_front
after_br_if m h l = refl

pub after_store : (m : Module) (h : ℕ) (op a o : ℕ) → behind m (in_front (Store op a o) done) h ≡ h - 2
unfolding behind in_front
after_store m h op a o = let e : h - 2 + 0 ≡ h - 2 = omega arith in e

pub after_call : (m : Module) (h : ℕ) (x : ℕ) → behind m (in_front (Call x) done) h ≡ h - length (func_type_at m x).params + min (length (func_type_at m x).results) 1
unfolding behind in_front
after_call m h x = refl

pub after_indirect : (m : Module) (h : ℕ) (x : ℕ) → behind m (in_front (CallIndirect x) done) h ≡ h - 1 - length (type_at m x).params + min (length (type_at m x).results) 1
unfolding behind in_front
after_indirect m h x = refl

pub after_tee : (m : Module) (h : ℕ) (x : ℕ) → behind m (in_front (LocalTee x) done) h ≡ h
unfolding behind in_front
after_tee m h x = refl

pub after_nop : (m : Module) (h : ℕ) → behind m (in_front Nop done) h ≡ h
unfolding behind in_front
after_nop m h = let e : h - 0 + 0 ≡ h = omega arith in e

pub after_br : (m : Module) (h : ℕ) (l : ℕ) → behind m (in_front (Br l) done) h ≡ h
unfolding behind in_front
after_br m h l = refl

pub after_br_table : (m : Module) (h : ℕ) (v : Vec ℕ Global) (l : ℕ) → behind m (in_front (BrTable v l) done) h ≡ h
unfolding behind in_front
after_br_table m h v l = refl

pub after_return : (m : Module) (h : ℕ) → behind m (in_front Return done) h ≡ h
unfolding behind in_front
after_return m h = refl

pub after_unreachable : (m : Module) (h : ℕ) → behind m (in_front Unreachable done) h ≡ h
unfolding behind in_front
after_unreachable m h = refl

pub after_block : (m : Module) (h : ℕ) (r : Option ValType) (v : Vec Instr Global) → behind m (in_front (Block r v) done) h ≡ h + arity_of r
unfolding behind
after_block m h r v = ap (λ c. behind m c h) (in_block r v done)

pub after_loop : (m : Module) (h : ℕ) (r : Option ValType) (v : Vec Instr Global) → behind m (in_front (Loop r v) done) h ≡ h + arity_of r
unfolding behind
after_loop m h r v = ap (λ c. behind m c h) (in_loop r v done)

pub after_if : (m : Module) (h : ℕ) (r : Option ValType) (v w : Vec Instr Global) → behind m (in_front (If r v w) done) h ≡ h - 1 + arity_of r
unfolding behind
after_if m h r v w = ap (λ c. behind m c h) (in_if r v w done)

-- an instruction counts as one at least
pub count_some : (x : Instr) → 1 ≤ count_of (in_front x done)
unfolding count_of
count_some x = elim (instr_kind x) [
  | is_block r v e ↦ omega (arith, ap (λ y. count_of (in_front y done)) e ∙ ap count_of (in_block r v done))
  | is_loop r v e ↦ omega (arith, ap (λ y. count_of (in_front y done)) e ∙ ap count_of (in_loop r v done))
  | is_if r v w e ↦ omega (arith, ap (λ y. count_of (in_front y done)) e ∙ ap count_of (in_if r v w done))
  | is_plain p e ↦ omega (arith, ap count_of (e done))
]

-- a function that is defined stands behind the imported ones
defined_there : (m : Module) (x : ℕ) (f : Func) → defined_at m x ≡ Some f → slice_get m.funcs (x - func_imports m) ≡ Some f
defined_there m x f =
    elim (nat_lt x (func_imports m)) as (λ b. (if b then None else slice_get m.funcs (x - func_imports m)) ≡ Some f
    → slice_get m.funcs (x - func_imports m) ≡ Some f) [ true ↦ λ e. cc | false ↦ λ e. e ]

-- what a defined function's activations reserve, read from those of all
pub room_found : (m : Module) (funcs : List FuncValue) (rooms : List Room) (n x : ℕ) (r : Room) (f : Func) → m.funcs ≡ map func_of funcs → rooms ≡ map (room_at m) funcs → n ≡ func_imports m
    → defined_at m x ≡ Some f → r ≡ get_or rooms (x - n) r → r ≡ room_of m f
room_found m funcs rooms n x r f each all behind_imports here read =
    let k = x - func_imports m in
    let of_all : rooms ≡ map (room_of m) m.funcs = all ∙ sym (map_map (room_of m) func_of funcs) ∙ ap (map (room_of m)) (sym each) in
    let found : slice_get rooms k ≡ Some (room_of m f) = ap (λ v. slice_get v k) of_all ∙ slice_get-map (room_of m) m.funcs k ∙ ap (option_map (room_of m)) (defined_there m x f here) in
    read ∙ ap (λ i. get_or rooms (x - i) r) behind_imports ∙ get_or_from_slice_get rooms k (room_of m f) r found

-- the size rule bounds the instructions of a body
few_instrs : (m : Module) (f : FuncValue) → FuncSizes (2 ^ 32) (2 ^ 56) m (func_of f) → HasFewInstrs f
few_instrs m f s =
    let few : count_of (func_of f).body < 2 ^ 56 = count_fits (2 ^ 32) (2 ^ 56) (func_of f).body (record { labels = s.labels; total = omega (arith, s.total) }) in
    omega (arith, few)

pub all_few : (m : Module) (funcs : List FuncValue) → All (FuncSizes (2 ^ 32) (2 ^ 56) m) (map func_of funcs) → All HasFewInstrs funcs
all_few m [] h = All-nil HasFewInstrs
all_few m (f ∷ fs) h =
    All-cons HasFewInstrs f fs (few_instrs m f (All-head (FuncSizes (2 ^ 32) (2 ^ 56) m) (func_of f) (map func_of fs) h))
    (all_few m fs (All-tail (FuncSizes (2 ^ 32) (2 ^ 56) m) (func_of f) (map func_of fs) h))

pub ruleset passing = (
  after_get,
  after_global_get,
  after_const,
  after_size,
  after_num,
  after_select,
  after_load,
  after_grow,
  after_set,
  after_global_set,
  after_drop,
  after_br_if,
  after_store,
  after_call,
  after_indirect,
  after_tee,
  after_nop,
  after_br,
  after_br_table,
  after_return,
  after_unreachable,
  after_block,
  after_loop,
  after_if,
)

pub ruleset walking = (most_least, most_step, most_last, most_empty, most_block, most_loop, most_if, most_other, behind_few, count_some, count_step, count_empty, count_block, count_loop, count_if)
