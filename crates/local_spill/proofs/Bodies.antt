-- The code of a list of instructions, one instruction at a time.
use Rattle.std.proofs.Common.{◌≡◌, ℕ, List, [], ◌∷◌, ◌++◌, map, append_assoc, refl, ap, ◌∙◌}
use Rattle.std.proofs.lemmas.List.{map-append}
use Rattle.wa_types.specs.declared.values.Value.{Value}
use Rattle.wa_types.specs.declared.operators.NumOp.{NumOp}
use Rattle.wa_types.specs.declared.instrs.Instr.{Instr}
use Rattle.wa_types.specs.declared.instrs.Instr.TheVariants.{Unreachable, Const, Num, LocalGet, GlobalGet, GlobalSet, Load}
use Rattle.wa_types.specs.Syntax.{Code, done, plain, basic, const, num, local_get, global_get, global_set, load, unreachable}
use Rattle.wa_types.specs.Runtime.{state_code}
use Rattle.wa_types.specs.declared.values.Value.TheVariants as V
use Rattle.wa_types.specs.View.{code, onto, in_front}
use Rattle.wa_types.proofs.ViewLemmas.{in_if, onto_append}

pub onto_cons : (x : Instr) (xs : List Instr) (rest : Code) → onto (x ∷ xs) rest ≡ in_front x (onto xs rest)
unfolding onto
onto_cons x xs rest = refl

pub onto_nil : (rest : Code) → onto [] rest ≡ rest
unfolding onto
onto_nil rest = refl

pub code_is : (xs : List Instr) → code xs ≡ onto xs done
unfolding code
code_is xs = refl

pub code_cons : (x : Instr) (xs : List Instr) → code (x ∷ xs) ≡ in_front x (code xs)
unfolding code onto
code_cons x xs = refl

pub code_nil : code [] ≡ done
unfolding code onto
code_nil = refl

pub of_const : (v : Value) (rest : Code) → in_front (Const v) rest ≡ plain (basic (const v)) rest
unfolding in_front
of_const v rest = refl

pub of_num : (op : NumOp) (rest : Code) → in_front (Num op) rest ≡ plain (basic (num op)) rest
unfolding in_front
of_num op rest = refl

pub of_local_get : (x : ℕ) (rest : Code) → in_front (LocalGet x) rest ≡ plain (local_get x) rest
unfolding in_front
of_local_get x rest = refl

pub of_global_get : (x : ℕ) (rest : Code) → in_front (GlobalGet x) rest ≡ plain (basic (global_get x)) rest
unfolding in_front
of_global_get x rest = refl

pub of_global_set : (x : ℕ) (rest : Code) → in_front (GlobalSet x) rest ≡ plain (basic (global_set x)) rest
unfolding in_front
of_global_set x rest = refl

pub of_load : (op align offset : ℕ) (rest : Code) → in_front (Load op align offset) rest ≡ plain (basic (load op align offset)) rest
unfolding in_front
of_load op align offset rest = refl

pub of_unreachable : (rest : Code) → in_front Unreachable rest ≡ plain unreachable rest
unfolding in_front
of_unreachable rest = refl

-- what traps
pub trap_code : (xs : List Instr) → xs ≡ Unreachable ∷ [] → code xs ≡ plain unreachable done
unfolding code onto in_front
trap_code xs e = ap code e

pub state_code_is : (xs : List Instr) (state : ℕ) → xs ≡ GlobalGet state ∷ [] → code xs ≡ state_code state
unfolding code onto in_front
state_code_is xs state e = ap code e

pub zero_code : (xs : List Instr) → xs ≡ Const (V.I32 0) ∷ [] → code xs ≡ plain (basic (const (V.I32 0))) done
unfolding code onto in_front
zero_code xs e = ap code e

-- one more behind a list
pub map_one : {A B : Type 0} → (f : A → B) → (old new : List A) (x : A) (y : B) → new ≡ old ++ x ∷ [] → f x ≡ y → map f new ≡ map f old ++ y ∷ []
map_one f old new x y e h = ap (map f) e ∙ map-append f old (x ∷ []) ∙ ap (λ z. map f old ++ z ∷ []) h

pub two_behind : {A : Type 0} → (a b c : List A) (x y : A) → b ≡ a ++ x ∷ [] → c ≡ b ++ y ∷ [] → c ≡ a ++ x ∷ y ∷ []
two_behind a b c x y e f = simp (f, e, append_assoc)

pub five_behind : {A : Type 0} → (l a b c d e : List A) (v w x y z : A) → a ≡ l ++ v ∷ [] → b ≡ a ++ w ∷ [] → c ≡ b ++ x ∷ [] → d ≡ c ++ y ∷ [] → e ≡ d ++ z ∷ []
    → e ≡ l ++ v ∷ w ∷ x ∷ y ∷ z ∷ []
five_behind l a b c d e v w x y z f g h i j = simp (j, i, h, g, f, append_assoc)

pub ruleset bodies = (code_cons, code_nil, of_const, of_num, of_local_get, of_global_get, of_global_set, of_load, of_unreachable, in_if)

pub ruleset appended = (code_is, onto_append, onto_cons, onto_nil, of_const, of_num, of_local_get, of_global_get, of_global_set, of_load, of_unreachable, in_if)
