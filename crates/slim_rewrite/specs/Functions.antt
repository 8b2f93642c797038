-- What is asked of the slim pieces of a function.
use Rattle.std.specs.Prelude.{◌≡◌, ◌≤◌, ◌+◌, ◌-◌, ℕ, List, [], ◌∷◌, Bool, not, ◌&&◌, nat_lt}
use Rattle.run_theory.specs.Flat.{FlatFunc}
use Rattle.guard_form.specs.Pieces.{first_piece, units}
use Rattle.slim_laws.specs.Emit.{free_by}
use Rattle.slim_laws.specs.Slim.{Terms}
use Rattle.slim_laws.specs.SlimUnits.{SlimUnits}
use Rattle.flow_rewrite.specs.declared.pieces.Pieces.{Pieces}
use Rattle.slim_rewrite.specs.Coming.{CallsFixed}
use Rattle.slim_rewrite.specs.Inside.{first_code, units_in}

-- so many locals from this one on
abbrev pub is_between : (low count : ℕ) → ℕ → Bool
is_between low count x = not (nat_lt x low) && nat_lt (x - low) count

-- Where these locals are the slots, and calls fix what they may, the pieces are slim: all slots may differ at both ends.
abbrev pub AreSlim : (places : List ℕ) → (low count : ℕ) → FlatFunc → Pieces → Type 0
AreSlim ps low count f p =
    (t : Terms) → ((x : ℕ) → t.slot x ≡ is_between low count x) → low + count ≤ t.size → CallsFixed t ps 0 0 f.body
    → SlimUnits t 0 (free_by t.slot [] ∷ []) (free_by t.slot []) (free_by t.slot []) [] (first_piece ps 0 f.body) (units ps 0 f.body) (first_code p) (units_in p)

-- These are the pieces and units of the statements, as they are.
pub record ArePlain (ps : List ℕ) (f : FlatFunc) (p : Pieces) : Type 0 where
  pub first : first_code p ≡ first_piece ps 0 f.body
  pub units : units_in p ≡ units ps 0 f.body

-- The pieces are slim, or the plain ones.
pub data SlimOrPlain (ps : List ℕ) (low count : ℕ) (f : FlatFunc) (p : Pieces) : Type 0 where
  are_slim : AreSlim ps low count f p → SlimOrPlain ps low count f p
  are_plain : ArePlain ps f p → SlimOrPlain ps low count f p
