-- Which calls of a flat function get a number.
use Rattle.std.specs.Prelude.{◌≡◌, ℕ, ◌++◌, ◌||◌, List, [], ◌∷◌, Option, Some, None, Bool, false, not, slice_get}
use Rattle.wa_types.specs.Pausing.{Callee, direct, indirect, Settings, Listed, calls_of, calls_in, is_told, places_from, Numbered}
use Rattle.wa_types.specs.Syntax.{Func, Module}
use Rattle.run_theory.specs.Flat.{Stmts, no_more, computes, copies, calls, leaps, leaps_if, leaps_by, nests, decides, halts, code_of}
use Rattle.run_theory.specs.FlatFits.{StmtsFit}
use Rattle.guard_form.specs.Pieces.{sole_callee}

-- what the calls go to, in order of code
abbrev pub callees : Stmts → List (Option Callee)
callees no_more = []
callees (computes op args to rest) = callees rest
callees (copies to from rest) = callees rest
callees (calls op stack args to rest) = sole_callee op ∷ callees rest
callees (leaps l rest) = callees rest
callees (leaps_if c l rest) = callees rest
callees (leaps_by o labels last rest) = callees rest
callees (nests y body rest) = callees body ++ callees rest
callees (decides c a b rest) = callees a ++ callees b ++ callees rest
callees (halts rest) = callees rest

-- a call gets a number: it goes to a listed import or to a function that may pause, or is a `call_indirect` that isn't ignored
abbrev pub gets_number : (which listed : List Bool) → (ignore_indirect : Bool) → Option Callee → Bool
gets_number which listed ignored None = false
gets_number which listed ignored (Some (direct x)) = is_told (slice_get listed x) || is_told (slice_get which x)
gets_number which listed ignored (Some (indirect sort)) = not ignored

-- ---- laws

-- A flat function whose calls are those of a function's pruned body, in order of code, has that function's numbers.
abbrev pub FlatNumbers : Type 0
FlatNumbers =
    (m : Module) (s : Settings) (which : List Bool) (f : Func) (locals labels : ℕ) (body : Stmts)
    → StmtsFit locals labels body → calls_of (code_of body) ≡ calls_in f → places_from (gets_number which (Listed m s) s.ignore_indirect) 0 (callees body) ≡ Numbered m s which f
