-- The calls of functions, of the program's values.
use Rattle.std.specs.Prelude.{ℕ, ◌<◌, List, [], Option, Some, None, Bool, not, slice_get}
use Rattle.std.specs.List.{list_any}
use Rattle.wa_types.specs.Syntax.{Func, Module}
use Rattle.wa_types.specs.Modules.{defined_at}
use Rattle.wa_types.specs.Pausing.{Callee as PlainCallee, direct, indirect, calls_in, is_told}
use Rattle.call_graph.specs.declared.calls.Callee.{Callee}
use Rattle.call_graph.specs.declared.calls.Callee.TheVariants.{Direct, Indirect}

-- what a call goes to
abbrev pub callee_of : Callee → PlainCallee
callee_of (Direct x) = direct x
callee_of (Indirect sort) = indirect sort

-- the call pauses by itself: it goes to a listed import, or to the table, which isn't ignored
abbrev pub pauses_alone : List Bool → Bool → PlainCallee → Bool
pauses_alone listed ignore (direct x) = is_told (slice_get listed x)
pauses_alone listed ignore (indirect sort) = not ignore

-- a function has a call that pauses by itself
abbrev pub pauses : List Bool → Bool → Func → Bool
pauses listed ignore f = list_any (pauses_alone listed ignore) (calls_in f)

-- the calls of a function that is there
abbrev pub calls_or_none : Option Func → List PlainCallee
calls_or_none None = []
calls_or_none (Some f) = calls_in f

-- the calls of the defined function of this index
abbrev pub calls_at : Module → ℕ → List PlainCallee
calls_at m x = calls_or_none (defined_at m x)

-- the call goes to a function that is there
abbrev pub IsThere : ℕ → PlainCallee → Type 0
IsThere count (direct x) = x < count
IsThere count (indirect sort) = Unit {0}
