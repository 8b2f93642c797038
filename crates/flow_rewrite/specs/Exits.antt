-- The exits of `guard_form` that are written.
use Rattle.std.specs.Prelude.{◌<◌, ℕ, Bool, if◌then◌else◌}
use Rattle.guard_form.specs.Guarded.{Exit, its_end, by_label, nowhere, function_end}
use Rattle.flow_rewrite.specs.declared.exits.ExitTo.{ExitTo}
use Rattle.flow_rewrite.specs.declared.exits.ExitTo.TheVariants.{End, Label, Nowhere, FunctionEnd}

-- where a run leaves to
abbrev pub exit_of : ExitTo → Exit
exit_of End = its_end
exit_of (Label l) = by_label l
exit_of Nowhere = nowhere
exit_of FunctionEnd = function_end

-- The exit at a unit: with more units behind it to its end, else that of its sequence.
abbrev pub exit_at : Exit → (more : Bool) → Exit
exit_at e more = if more then its_end else e

-- the label of an exit is below this
abbrev pub LabelBelow : ℕ → Exit → Type 0
LabelBelow d its_end = Prim.Unit {0}
LabelBelow d (by_label l) = l < d
LabelBelow d nowhere = Prim.Unit {0}
LabelBelow d function_end = Prim.Unit {0}
