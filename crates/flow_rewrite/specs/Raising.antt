-- Code of which the labels can be raised.
use Rattle.std.specs.Prelude.{◌≡◌, ◌≤◌, ◌<◌, ◌^◌, ◌+◌, ℕ, List, All}
use Rattle.wa_types.specs.declared.instrs.Instr.{Instr}
use Rattle.wa_types.specs.Syntax.{br, br_if, br_table, Plain, Code, done, plain, nest, branch}
use Rattle.wa_types.specs.Counts.{depth_of}
use Rattle.wa_types.specs.View.{in_front, onto}
use Rattle.guard_form.specs.Guarded.{raised}

-- each label of an instruction is below this
abbrev pub PlainBelow : ℕ → Plain → Type 0
PlainBelow m (br l) = l < m
PlainBelow m (br_if l) = l < m
PlainBelow m (br_table labels last) = All (λ l. l < m) labels × (last < m)
PlainBelow m p = Unit {0}

-- each label of code is below this
abbrev pub LabelsBelow : ℕ → Code → Type 0
LabelsBelow m done = Unit {0}
LabelsBelow m (plain p rest) = PlainBelow m p × LabelsBelow m rest
LabelsBelow m (nest s r body rest) = LabelsBelow m body × LabelsBelow m rest
LabelsBelow m (branch r a b rest) = LabelsBelow m a × LabelsBelow m b × LabelsBelow m rest

-- Labels of code that stands inside so many constructs can be raised by so much: they are small, and so is its depth.
pub record Raisable (inside by : ℕ) (c : Code) : Type 0 where
  pub few : by ≤ 2
  pub labels : LabelsBelow (2 ^ 31) c
  pub shallow : inside + depth_of c < 2 ^ 31

-- With whatever behind it, raised too, the new list stands for this instruction, raised, behind the old one.
abbrev pub PutsRaised : (inside by : ℕ) → Instr → (old new : List Instr) → Type 0
PutsRaised d n x old new = (rest : Code) → onto new (raised d n rest) ≡ onto old (raised d n (in_front x rest))
