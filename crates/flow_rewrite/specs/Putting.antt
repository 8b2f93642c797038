-- What instructions are put behind others.
use Rattle.std.specs.Prelude.{◌≡◌, List}
use Rattle.wa_types.specs.declared.instrs.Instr.{Instr}
use Rattle.wa_types.specs.Syntax.{Code}
use Rattle.wa_types.specs.View.{onto}

-- With whatever behind it, the new list stands for this code behind the old one.
abbrev pub Puts : (old new : List Instr) → (Code → Code) → Type 0
Puts old new f = (rest : Code) → onto new rest ≡ onto old (f rest)
