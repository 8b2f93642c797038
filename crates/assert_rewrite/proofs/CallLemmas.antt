-- Which instructions are calls that get a test.
use Rattle.std.proofs.Common.{◌≡◌, ◌∙◌, ℕ, List, Bool, true, false, refl, sym, ap}
use Rattle.std.specs.Prelude.{not, ◌||◌, slice_get}
use Rattle.wa_types.specs.declared.instrs.Instr.{Instr}
use Rattle.wa_types.specs.declared.instrs.Instr.TheVariants.{Call, CallIndirect}
use Rattle.wa_types.specs.Pausing.{is_told}
use Rattle.wa_types.specs.Syntax.{done}
use Rattle.wa_types.specs.View.{in_front}
use Rattle.flow_rewrite.proofs.NumberingLemmas.{call_callee, indirect_callee, no_callee}
use Rattle.guard_form.specs.Asserts.{any_callee}
use Rattle.guard_form.specs.Pieces.{sole_callee}
use Rattle.assert_rewrite.specs.Testing.{is_tested, without_number}

-- ---- calls without a number

pub free_listed : (which listed : List Bool) (ignored : Bool) (x : Instr) (f : ℕ) → x ≡ Call f → is_told (slice_get listed f) ≡ true
    → false ≡ is_tested (without_number which listed ignored) (sole_callee (in_front x done))
free_listed which listed ignored x f e h =
    sym (ap (is_tested (without_number which listed ignored)) (call_callee x f e) ∙ ap (λ b. not (b || is_told (slice_get which f))) h)

pub free_call : (which listed : List Bool) (ignored r : Bool) (x : Instr) (f : ℕ) → x ≡ Call f → is_told (slice_get listed f) ≡ false → r ≡ is_told (slice_get which f)
    → not r ≡ is_tested (without_number which listed ignored) (sole_callee (in_front x done))
free_call which listed ignored r x f e h k =
    ap not k ∙ sym (ap (is_tested (without_number which listed ignored)) (call_callee x f e) ∙ ap (λ b. not (b || is_told (slice_get which f))) h)

twice : (b : Bool) → b ≡ not (not b)
twice true = refl
twice false = refl

pub free_indirect : (which listed : List Bool) (ignored : Bool) (x : Instr) (f : ℕ) → x ≡ CallIndirect f → ignored ≡ is_tested (without_number which listed ignored) (sole_callee (in_front x done))
free_indirect which listed ignored x f e = twice ignored ∙ sym (ap (is_tested (without_number which listed ignored)) (indirect_callee x f e))

pub free_none : (which listed : List Bool) (ignored : Bool) (x : Instr) → ((f : ℕ) → x ≡ Call f → ⊥) → ((f : ℕ) → x ≡ CallIndirect f → ⊥)
    → false ≡ is_tested (without_number which listed ignored) (sole_callee (in_front x done))
free_none which listed ignored x nc ni = sym (ap (is_tested (without_number which listed ignored)) (no_callee x nc ni))

-- ---- calls

pub any_call : (x : Instr) (f : ℕ) → x ≡ Call f → true ≡ is_tested any_callee (sole_callee (in_front x done))
any_call x f e = sym (ap (is_tested any_callee) (call_callee x f e))

pub any_indirect : (x : Instr) (f : ℕ) → x ≡ CallIndirect f → true ≡ is_tested any_callee (sole_callee (in_front x done))
any_indirect x f e = sym (ap (is_tested any_callee) (indirect_callee x f e))

pub any_none : (x : Instr) → ((f : ℕ) → x ≡ Call f → ⊥) → ((f : ℕ) → x ≡ CallIndirect f → ⊥) → false ≡ is_tested any_callee (sole_callee (in_front x done))
any_none x nc ni = sym (ap (is_tested any_callee) (no_callee x nc ni))

pub ruleset freeing = (free_listed, free_call, free_indirect, free_none)

pub ruleset calling = (any_call, any_indirect, any_none)
