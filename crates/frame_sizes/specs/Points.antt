-- What a walk over a body visits: the operands at points and just before calls.
use Rattle.std.specs.Prelude.{◌≡◌, ◌++◌, List, [], ◌∷◌, Vec, map, reverse, drop}
use Rattle.std.specs.declared.alloc.Global.{Global}
use Rattle.wa_types.specs.declared.values.ValType.{ValType}
use Rattle.wa_types.specs.Syntax.{Code, done, plain, nest, branch}
use Rattle.wa_types.specs.Pausing.{callee}
use Rattle.wa_types.specs.Points.{points, call_points, if_call}
use Rattle.wa_types.specs.Typing.{label}
use Rattle.wasm_validate.specs.Walk.{Walk}
use Rattle.frame_sizes.specs.declared.points.Visits.{Visits}

-- lists of operands, the topmost first
abbrev pub lists_of : List (Vec ValType Global) → List (List ValType)
lists_of vs = map (λ (v : Vec ValType Global). reverse v.items) vs

-- all operands where a walk stands
abbrev pub all_of : Walk → List ValType
all_of w = w.own ++ w.under

-- those at the points of code from there on
abbrev pub points_at : Walk → Code → List (List ValType)
points_at w k = points w.around w.labels k w.under w.own

-- those just before its calls
abbrev pub calls_at : Walk → Code → List (List ValType)
calls_at w k = call_points w.around w.labels k w.under w.own

-- those inside the first instruction
abbrev pub points_inside : Walk → Code → List (List ValType)
points_inside w done = []
points_inside w (plain p rest) = []
points_inside w (nest s r body rest) = points w.around (label s r ∷ w.labels) body (all_of w) []
points_inside w (branch r a b rest) =
    points w.around (r ∷ w.labels) a (drop 1 w.own ++ w.under) [] ++ points w.around (r ∷ w.labels) b (drop 1 w.own ++ w.under) []

-- those just before the calls inside the first instruction, or before it where it is one
abbrev pub calls_inside : Walk → Code → List (List ValType)
calls_inside w done = []
calls_inside w (plain p rest) = if_call (callee p) (all_of w)
calls_inside w (nest s r body rest) = call_points w.around (label s r ∷ w.labels) body (all_of w) []
calls_inside w (branch r a b rest) =
    call_points w.around (r ∷ w.labels) a (drop 1 w.own ++ w.under) [] ++ call_points w.around (r ∷ w.labels) b (drop 1 w.own ++ w.under) []

-- all of code is visited from where a walk stands
pub record Visited (w : Walk) (k : Code) (a b : Visits) : Type 0 where
  pub points : lists_of b.points.items ≡ lists_of a.points.items ++ points_at w k
  pub calls : lists_of b.calls.items ≡ lists_of a.calls.items ++ calls_at w k

-- what is inside the first instruction
pub record VisitedInside (w : Walk) (k : Code) (a b : Visits) : Type 0 where
  pub points : lists_of b.points.items ≡ lists_of a.points.items ++ points_inside w k
  pub calls : lists_of b.calls.items ≡ lists_of a.calls.items ++ calls_inside w k
