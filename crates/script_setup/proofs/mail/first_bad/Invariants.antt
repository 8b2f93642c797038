use Rattle.std.proofs.Common.{◌≡◌, ◌≤◌, ℕ, List, map, drop, length}
use Rattle.script_reader.specs.Views.{bind_of}
use Rattle.script_setup.specs.MailNames.{has_name, is_found_bad}
use Rattle.script_setup.specs.SetUpRules.{is_bound, winning_line}
use Rattle.script_setup.proofs.mail.first_bad.Given as goal

-- of the lines behind, these are the names that are bound, and this is the line
abbrev pub invariant-loop-left : goal.invariant-loop-left
invariant-loop-left l = record {
  within : l.left ≤ length l.binds;
  bound : (name : List ℕ) → has_name l.bound name ≡ is_bound name (map bind_of (drop l.left l.binds));
  line : l.line ≡ winning_line (is_found_bad l.boxes l.unfit) (map bind_of (drop l.left l.binds));
}

abbrev pub decreases-loop-left : goal.decreases-loop-left
decreases-loop-left l = l.left
