-- Where a walk over code stands, and what lies ahead.
use Rattle.std.specs.Prelude.{◌≡◌, ℕ, ◌-◌, List, [], ◌∷◌, ◌++◌, length, reverse, take, drop, Option, Some, None, false, slice_get}
use Rattle.wa_types.specs.declared.values.ValType.{ValType}
use Rattle.wa_types.specs.declared.syntax.Module.{Module as ModuleValue}
use Rattle.wa_types.specs.View.{module_of}
use Rattle.wa_types.specs.Syntax.{Code, nest, branch, Func, Module}
use Rattle.wa_types.specs.Typing.{Around, Sig, Takes, Types, label, listed}
use Rattle.wa_types.specs.Modules.{around}

-- What stands around the function's body; the labels, the innermost first; the operands of the innermost
-- construct, and those below them, each the topmost first.
pub record Walk : Type 0 where
  pub around : Around
  pub labels : List (Option ValType)
  pub own : List ValType
  pub under : List ValType

-- where a function's body begins
abbrev pub outset : Around → Walk
outset c = record { around = c; labels = c.result ∷ []; own = []; under = [] }

-- The code is typed at the operands and labels where the walk stands.
abbrev pub TypedAt : Walk → Code → Type 0
TypedAt w k = (outs : List ValType) × Types w.around w.labels k outs w.own

-- all but the operands of the innermost construct stay
pub record Stays (v w : Walk) : Type 0 where
  pub around : w.around ≡ v.around
  pub labels : w.labels ≡ v.labels
  pub under : w.under ≡ v.under

-- The walk w stands where the body of the construct, or each of its arms, begins; v stands before the construct.
abbrev pub Inside : Walk → Code → Walk → Type 0
Inside v (nest s r body rest) w = w ≡ record { around = v.around; labels = label s r ∷ v.labels; own = []; under = v.own ++ v.under }
Inside v (branch r a b rest) w = w ≡ record { around = v.around; labels = r ∷ v.labels; own = []; under = drop 1 v.own ++ v.under }
Inside v _ w = Unit {0}

-- an instruction has its operands there
abbrev pub CanTake : Sig → List ValType → Type 0
CanTake s ins = (outs : List ValType) × Takes s ins outs

-- of types, the deepest first, those from `base` on, the topmost first
unfoldable pub own_at : ℕ → List ValType → List ValType
own_at base xs = reverse (drop base xs)

-- those before, the topmost first
unfoldable pub under_at : ℕ → List ValType → List ValType
under_at base xs = reverse (take base xs)

-- what stands around the body of a function that is there
abbrev pub around_or : Module → Option Func → Around
around_or m None = record { types = []; funcs = []; table = false; memory = false; globals = []; locals = []; result = None }
around_or m (Some f) = around m f

-- where a walk stands that has these fields
abbrev pub standing : ModuleValue → (func : ℕ) → List (Option ValType) → List ValType → (base : ℕ) → Walk
standing m func labels types base = record {
  around = around_or (module_of m) (slice_get (module_of m).funcs func);
  labels = reverse labels;
  own = own_at base types;
  under = under_at base types;
}

-- Behind the innermost construct, which has this result, where so many operands lie below those of the construct around it.
abbrev pub left_at : Option ValType → (base : ℕ) → Walk → Walk
left_at r base w = record {
  around = w.around;
  labels = drop 1 w.labels;
  own = listed r ++ take (length w.under - base) w.under;
  under = drop (length w.under - base) w.under;
}
