-- How much is left to drop: more than the steps that it takes.
use Rattle.std.specs.Prelude.{ℕ, List, [], ◌∷◌, ◌+◌, ◌*◌}
use Rattle.std.specs.declared.vec.Vec.{Vec}
use Rattle.std.specs.declared.alloc.Global.{Global}
use Rattle.wa_types.specs.declared.instrs.Instr.{Instr}
use Rattle.wa_types.specs.Counts.{count_of}
use Rattle.wa_types.specs.View.{code}

-- of the bodies that wait
unfoldable pub waiting : List (Vec Instr Global) → ℕ
waiting [] = 0
waiting (v ∷ vs) = 3 * count_of (code v.items) + 1 + waiting vs

-- of them and the body at hand
abbrev pub to_drop : List (Vec Instr Global) → List Instr → ℕ
to_drop begun body = 3 * count_of (code body) + waiting begun
