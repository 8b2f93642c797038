-- Pieces of the codes that stand between the parts.
use Rattle.std.specs.Prelude.{ℕ, None}
use Rattle.wa_types.specs.declared.operators.NumOp.{NumOp}
use Rattle.wa_types.specs.declared.operators.NumOp.TheVariants.{I32Sub, I32GtU}
use Rattle.wa_types.specs.declared.values.Value.TheVariants as V
use Rattle.wa_types.specs.Syntax.{const, num, global_get, load, basic, local_get, local_set, local_tee, unreachable, Code, done, plain, branch}
use Rattle.local_spill.specs.Spilling.{location_of}

-- the scratch local is moved by so many bytes
abbrev pub scratch_moved : (scratch n : ℕ) → NumOp → Code → Code
scratch_moved sp n op next = plain (local_get sp) (plain (basic (const (V.I32 n))) (plain (basic (num op)) (plain (local_set sp) next)))

-- The code traps where the area has fewer bytes from the location on than the number on top; else the scratch local becomes the location.
abbrev pub room_tested : (address scratch : ℕ) → Code → Code
room_tested adr sp next =
    plain (basic (global_get adr)) (plain (basic (load 0x28 2 4)) (location_of adr (plain (local_tee sp) (plain (basic (num I32Sub))
    (plain (basic (num I32GtU)) (branch None (plain unreachable done) done next))))))

-- the scratch local becomes the location, lowered by so many bytes
abbrev pub location_noted : (address scratch n : ℕ) → Code → Code
location_noted adr sp n next = location_of adr (plain (basic (const (V.I32 n))) (plain (basic (num I32Sub)) (plain (local_tee sp) next)))
