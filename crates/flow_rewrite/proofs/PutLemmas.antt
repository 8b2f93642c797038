-- What is put behind a list of instructions.
use Rattle.std.proofs.Common.{◌≡◌, ◌&&◌, ℕ, zero, suc, ◌+◌, ◌<◌, ◌≤◌, ◌∷◌, ◌++◌, List, [], length, get_or, take, Option, Some, Bool, true, false, refl, sym, ap, subst, ◌∙◌, arith, eqb-true}
use Rattle.std.specs.Prelude.{nat_eq}
use Rattle.std.proofs.lemmas.List.{take_more, take_all}
use Rattle.wa_types.specs.declared.values.Value.{Value}
use Rattle.wa_types.specs.declared.values.Value.TheVariants as V
use Rattle.wa_types.specs.declared.instrs.Instr.{Instr}
use Rattle.wa_types.specs.declared.operators.NumOp.{NumOp}
use Rattle.wa_types.specs.declared.instrs.Instr.TheVariants.{Unreachable, Const as ConstInstr, Num, Br, BrIf, LocalGet, LocalSet, GlobalGet}
use Rattle.wa_types.specs.Syntax.{const, num, global_get, basic, local_get, local_set, br, br_if, unreachable, Code, done, plain}
use Rattle.wa_types.specs.View.{in_front, onto, code}
use Rattle.wa_types.proofs.ViewLemmas.{is_block, is_loop, is_if, is_plain, instr_kind, in_block, in_loop, in_if, onto_append, onto_done}
use Rattle.wa_model.specs.declared.flat.Operand.{Operand}
use Rattle.wa_model.specs.declared.flat.Operand.TheVariants.{Local, Const}
use Rattle.run_theory.specs.Flat.{followed_by, got, all_got, set_to, slots_got}
use Rattle.guard_form.specs.Guarded.{index_noted}
use Rattle.flow_rewrite.specs.Putting.{Puts}

-- one instruction
pub put_one : (old new : List Instr) (x : Instr) (f : Code → Code) → new ≡ old ++ x ∷ [] → ((rest : Code) → in_front x rest ≡ f rest) → Puts old new f
put_one old new x f e is rest = ap (λ s. onto s rest) e ∙ onto_append old x rest ∙ ap (onto old) (is rest)

pub put_on : (old mid new : List Instr) (f g : Code → Code) → Puts old mid f → Puts mid new g → Puts old new (λ c. f (g c))
put_on old mid new f g h k rest = k rest ∙ h (g rest)

false_true : false ≡ true → ⊥
false_true e = cc

-- the index of call 0 stands, where that goes unnoted
pub noted_alone : (unnoted : Bool) (x k : ℕ) (old new : List Instr) (f : Code → Code) → (unnoted && nat_eq k 0) ≡ true → Puts old new f → Puts old new (λ c. index_noted unnoted x k (f c))
noted_alone true x zero old new f e h = h
noted_alone true x (suc k) old new f e h = absurd (omega (arith, eqb-true (suc k) 0 e))
noted_alone false x k old new f e h = absurd (false_true e)

-- else it is set
pub noted_set : (unnoted : Bool) (x k : ℕ) (old new : List Instr) (f : Code → Code) → (unnoted && nat_eq k 0) ≡ false
    → Puts old new (λ c. plain (basic (const (V.I32 k))) (plain (local_set x) (f c))) → Puts old new (λ c. index_noted unnoted x k (f c))
noted_set true x zero old new f e h = absurd (false_true (sym e))
noted_set true x (suc k) old new f e h = h
noted_set false x k old new f e h = h

-- one behind another: an instruction in front of code
pub front_then : (x y : Instr) (rest : Code) → ((c : Code) → in_front y c ≡ in_front x c) → in_front y rest ≡ followed_by (in_front x done) rest
unfolding followed_by
front_then x y rest same = same rest ∙ elim (instr_kind x) [
  | is_block r v e ↦ ap (λ z. in_front z rest) e ∙ in_block r v rest ∙ sym (ap (λ z. followed_by (in_front z done) rest) e ∙ ap (λ c. followed_by c rest) (in_block r v done))
  | is_loop r v e ↦ ap (λ z. in_front z rest) e ∙ in_loop r v rest ∙ sym (ap (λ z. followed_by (in_front z done) rest) e ∙ ap (λ c. followed_by c rest) (in_loop r v done))
  | is_if r v w e ↦ ap (λ z. in_front z rest) e ∙ in_if r v w rest ∙ sym (ap (λ z. followed_by (in_front z done) rest) e ∙ ap (λ c. followed_by c rest) (in_if r v w done))
  | is_plain p e ↦ e rest ∙ sym (ap (λ c. followed_by c rest) (e done))
]

-- ---- loops

all_append : (xs : List Operand) (x : Operand) (c : Code) → all_got (xs ++ x ∷ []) c ≡ all_got xs (got x c)
all_append [] x c = refl
all_append (y ∷ xs) x c = ap (got y) (all_append xs x c)

pub operands_step : (old mid new : List Instr) (xs : List Operand) (i : ℕ) (d : Operand) → i < length xs → Puts old mid (all_got (take i xs)) → Puts mid new (got (get_or xs i d))
    → Puts old new (all_got (take (i + 1) xs))
operands_step old mid new xs i d lt h k rest =
    k rest ∙ h (got (get_or xs i d) rest) ∙ ap (onto old) (sym (all_append (take i xs) (get_or xs i d) rest)) ∙ ap (λ z. onto old (all_got z rest)) (sym (take_more xs i d lt))

pub operands_end : (old new : List Instr) (xs : List Operand) (i : ℕ) → length xs ≤ i → Puts old new (all_got (take i xs)) → Puts old new (all_got xs)
operands_end old new xs i le h rest = h rest ∙ ap (λ z. onto old (all_got z rest)) (take_all i xs le)

slots_append : (xs : List ℕ) (x : ℕ) (c : Code) → slots_got (xs ++ x ∷ []) c ≡ slots_got xs (plain (local_get x) c)
slots_append [] x c = refl
slots_append (y ∷ xs) x c = ap (plain (local_get y)) (slots_append xs x c)

pub slots_step : (old mid new : List Instr) (xs : List ℕ) (i d : ℕ) → i < length xs → Puts old mid (slots_got (take i xs)) → Puts mid new (plain (local_get (get_or xs i d)))
    → Puts old new (slots_got (take (i + 1) xs))
slots_step old mid new xs i d lt h k rest =
    k rest ∙ h (plain (local_get (get_or xs i d)) rest) ∙ ap (onto old) (sym (slots_append (take i xs) (get_or xs i d) rest)) ∙ ap (λ z. onto old (slots_got z rest)) (sym (take_more xs i d lt))

pub slots_end : (old new : List Instr) (xs : List ℕ) (i : ℕ) → length xs ≤ i → Puts old new (slots_got (take i xs)) → Puts old new (slots_got xs)
slots_end old new xs i le h rest = h rest ∙ ap (λ z. onto old (slots_got z rest)) (take_all i xs le)

-- ---- single instructions

pub get_is : (x : ℕ) (rest : Code) → in_front (LocalGet x) rest ≡ plain (local_get x) rest
unfolding in_front
get_is x rest = refl

pub set_is : (x : ℕ) (rest : Code) → in_front (LocalSet x) rest ≡ plain (local_set x) rest
unfolding in_front
set_is x rest = refl

pub const_is : (v : Value) (rest : Code) → in_front (ConstInstr v) rest ≡ plain (basic (const v)) rest
unfolding in_front
const_is v rest = refl

pub num_is : (op : NumOp) (rest : Code) → in_front (Num op) rest ≡ plain (basic (num op)) rest
unfolding in_front
num_is op rest = refl

pub global_is : (x : ℕ) (rest : Code) → in_front (GlobalGet x) rest ≡ plain (basic (global_get x)) rest
unfolding in_front
global_is x rest = refl

pub br_is : (l : ℕ) (rest : Code) → in_front (Br l) rest ≡ plain (br l) rest
unfolding in_front
br_is l rest = refl

pub br_if_is : (l : ℕ) (rest : Code) → in_front (BrIf l) rest ≡ plain (br_if l) rest
unfolding in_front
br_if_is l rest = refl

pub unreachable_is : (rest : Code) → in_front Unreachable rest ≡ plain unreachable rest
unfolding in_front
unreachable_is rest = refl

pub got_local : (o : Operand) (x : ℕ) → o ≡ Local x → (rest : Code) → in_front (LocalGet x) rest ≡ got o rest
got_local o x e rest = get_is x rest ∙ ap (λ z. got z rest) (sym e)

pub got_const : (o : Operand) (v : Value) → o ≡ Const v → (rest : Code) → in_front (ConstInstr v) rest ≡ got o rest
got_const o v e rest = const_is v rest ∙ ap (λ z. got z rest) (sym e)

pub set_told : (to : Option ℕ) (x : ℕ) → to ≡ Some x → (rest : Code) → in_front (LocalSet x) rest ≡ set_to to rest
set_told to x e rest = set_is x rest ∙ ap (λ z. set_to z rest) (sym e)

pub const_put : (old new : List Instr) (n : ℕ) → new ≡ old ++ ConstInstr (V.I32 n) ∷ [] → code new ≡ onto old (plain (basic (const (V.I32 n))) done)
const_put old new n e = sym (onto_done new) ∙ put_one old new (ConstInstr (V.I32 n)) (plain (basic (const (V.I32 n)))) e (const_is (V.I32 n)) done
