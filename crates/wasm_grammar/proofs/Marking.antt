-- What an item's notes mark.
use Rattle.std.proofs.Common.{◌≡◌, ℕ, List, [], ◌∷◌, Option, Some, None, IfNone, IfSome, drop, ap, sym, subst, append-nil, Bool, true, false, cond, nat_le, ◌&&◌}
use Rattle.wa_types.specs.Begun.{Goal, some_value_types}
use Rattle.wa_types.specs.Marks.{place_if}
use Rattle.wa_types.specs.ModuleBounds.{ModuleBounds}
use Rattle.wa_types.specs.Opcodes.{is_float_op}
use Rattle.wasm_grammar.specs.declared.goals.Goal.{Goal as Wanted}
use Rattle.wasm_grammar.specs.Goals.{goal_of, list_of}
use Rattle.file_laws.specs.declared.marks.Marks.{Marks}
use Rattle.file_laws.specs.Showing.{nothing_seen, floats_seen, opens_seen, parameters_seen, both, opens_level, await_results, op_shown, count_shown, Noted}
use Rattle.file_laws.proofs.Noting.{noted_none, noted_both}

pub code_noted : (b : ModuleBounds) (op at level : ℕ) (l m n : Marks) (opens : Bool) → Noted b (floats_seen (place_if (is_float_op op) at)) l m → opens ≡ opens_level op
    → Noted b (opens_seen (place_if (opens && nat_le b.nesting level) at)) m n → Noted b (op_shown b level op at) l n
code_noted b op at level l m n opens floating e noted =
    let here = place_if (is_float_op op) at in
    let s : both (floats_seen here) (opens_seen (place_if (opens && nat_le b.nesting level) at)) ≡ op_shown b level op at =
    λ i. record { floats_at = append-nil here i; opens_at = place_if (e i && nat_le b.nesting level) at; counts = []; params = []; sizes = [] } in
    subst (λ z. Noted b z l n) s (noted_both b (floats_seen here) (opens_seen (place_if (opens && nat_le b.nesting level) at)) l m n floating noted)

pub flat_noted : (b : ModuleBounds) (op at level : ℕ) (l m : Marks) → Noted b (floats_seen (place_if (is_float_op op) at)) l m → false ≡ opens_level op → Noted b (op_shown b level op at) l m
flat_noted b op at level l m floating e = code_noted b op at level l m m false floating e (noted_none b m)

pub at_level : (b : ModuleBounds) (op at level outer : ℕ) (l n : Marks) → level ≡ outer → Noted b (op_shown b level op at) l n → Noted b (op_shown b outer op at) l n
at_level b op at level outer l n e h = subst (λ z. Noted b (op_shown b z op at) l n) e h

-- the goal behind the first tells whether results are awaited
pub awaits_second : (gs : List Goal) (o : Option Wanted) → IfNone o (drop 1 gs ≡ []) → IfSome o (λ g. drop 1 gs ≡ goal_of g ∷ drop 2 gs) → await_results (list_of o) ≡ await_results (drop 1 gs)
awaits_second gs None h k = sym (ap await_results h)
awaits_second gs (Some g) h k = sym (ap await_results k)

pub types_noted : (b : ModuleBounds) (gs : List Goal) (v : ℕ) (m n : Marks) → true ≡ await_results gs → Noted b (parameters_seen v) m n → Noted b (count_shown some_value_types gs v) m n
types_noted b gs v m n e h = subst (λ z. Noted b (cond z (parameters_seen v) nothing_seen) m n) e h
