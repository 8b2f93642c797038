-- The flat module with slim code in place: each function that is told has its pieces, as they stand between its units.
use Rattle.std.specs.Prelude.{◌≡◌, ℕ, zero, suc, ◌+◌, ◌-◌, ◌++◌, List, [], ◌∷◌, length, Option, Some, None, Bool, true, false, not, ◌&&◌, nat_lt, slice_get}
use Rattle.wa_types.specs.Modules.{defined_at, func_imports, locals_of}
use Rattle.wa_types.specs.Pausing.{is_told}
use Rattle.wa_types.specs.Syntax.{a_block, Code, done, Func, Module, nest}
use Rattle.run_theory.specs.Flat.{FlatFunc, followed_by, result_got}
use Rattle.flat_laws.specs.FlatModule.{flat_module, stacks_in}
use Rattle.flat_laws.specs.Flatten.{Names, flattened, names}
use Rattle.guard_form.specs.Grouping.{is_place}
use Rattle.guard_form.specs.Pieces.{Units, first_piece, flat_units, units}
use Rattle.slim_laws.specs.Slim.{Free, Terms}
use Rattle.slim_laws.specs.SlimUnitLaws.{ToHeld}
use Rattle.slim_laws.specs.SlimUnits.{SlimUnits}

-- a function's first piece, and the units behind it; and whether its call 0 may go unnoted
pub record Pieces : Type 0 where
  pub exits : Bool
  pub first : Code
  pub units : Units

-- those of flat statements, of which the calls at these places are numbered
abbrev pub plain_pieces : (places : List ℕ) → FlatFunc → Pieces
plain_pieces places f = record { exits = false; first = first_piece places 0 f.body; units = units places 0 f.body }

-- the body that they make
abbrev pub body_with : Pieces → (result : Option ℕ) → Code
body_with p result = nest a_block None (followed_by p.first (flat_units p.units)) (result_got result)

-- ---- the terms of slim code

-- a local that holds operands
abbrev pub is_slot : Names → ℕ → Bool
is_slot n x = not (nat_lt x n.first) && nat_lt x (n.first + length n.slots)

-- all locals below
abbrev pub locals_below : ℕ → List ℕ
locals_below zero = []
locals_below (suc n) = n ∷ locals_below n

-- at a numbered call all parameters and declared locals, and the slots of its stack
abbrev pub fixed_where : (numbered : Bool) → (own : ℕ) → (stack : Option (List ℕ)) → List ℕ
fixed_where true own (Some stack) = locals_below own ++ stack
fixed_where _ own _ = []

-- the same of the call with so many behind it
abbrev pub fixed_at : (places : List ℕ) → (own : ℕ) → (stacks : List (List ℕ)) → (behind : ℕ) → List ℕ
fixed_at places own stacks behind = fixed_where (is_place places (length stacks - suc behind)) own (slice_get stacks (length stacks - suc behind))

-- Slots may be left out; at a numbered call parameters, declared locals and the call's stack may not differ.
abbrev pub flat_terms : Module → (places : List ℕ) → (index : ℕ) → Func → Terms
flat_terms m places x f = record {
  slot = is_slot (names m f);
  size = length (flattened m x f).locals;
  fixed = fixed_at places (length (locals_of m f)) (stacks_in (flattened m x f).body);
}

-- no local is a slot
abbrev pub plain_terms : (size : ℕ) → Terms
plain_terms n = record { slot = λ x. false; size = n; fixed = λ k. [] }

-- ---- slim pieces

-- These are the pieces of a function with its units, slim.
pub record SlimPieces (m : Module) (places : List ℕ) (x : ℕ) (f : Func) (p : Pieces) : Type 0 where
  pub out : Free
  pub here : Free
  pub slim : SlimUnits (flat_terms m places x f) 0 (out ∷ []) out here [] (first_piece places 0 (flattened m x f).body) (units places 0 (flattened m x f).body) p.first p.units
  pub result : ToHeld out (flattened m x f).result

-- ---- the module

-- a function with this body where it is told
abbrev pub with_body : (told : Bool) → Code → Func → Func
with_body true body f = record f { body = body }
with_body false body f = f

-- functions from index x on
abbrev pub with_bodies : (which : List Bool) → (bodies : (index : ℕ) → Code) → (x : ℕ) → List Func → List Func
with_bodies which bodies x [] = []
with_bodies which bodies x (f ∷ fs) = with_body (is_told (slice_get which x)) (bodies x) f ∷ with_bodies which bodies (suc x) fs

module _ (m : Module) (which : List Bool) (places : (index : ℕ) → Func → List ℕ) (pieces : (index : ℕ) → Pieces) where
  -- the body of a function in flat code with slim pieces
  abbrev pub body_of_func : (index : ℕ) → Option Func → Code
  body_of_func x None = done
  body_of_func x (Some f) = body_with (pieces x) (flattened m x f).result

  abbrev pub slim_module : Module
  slim_module = record (flat_module m which) { funcs = with_bodies which (λ x. body_of_func x (defined_at m x)) (func_imports m) (flat_module m which).funcs }

  abbrev pub terms_where : (told : Bool) → (index : ℕ) → Option Func → Terms
  terms_where told x None = plain_terms 0
  terms_where true x (Some f) = flat_terms m (places x f) x f
  terms_where false x (Some f) = plain_terms (length (locals_of m f))

  -- the terms of each function
  abbrev pub module_terms : (index : ℕ) → Terms
  module_terms x = terms_where (is_told (slice_get which x)) x (defined_at m x)

  -- each told function has slim pieces
  abbrev pub AllSlimPieces : Type 0
  AllSlimPieces = (x : ℕ) (f : Func) → defined_at m x ≡ Some f → is_told (slice_get which x) ≡ true → SlimPieces m (places x f) x f (pieces x)
