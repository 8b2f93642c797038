-- What holds of generated modules.
use Rattle.std.specs.Prelude.{◌≤◌, ℕ}
use Rattle.wa_types.specs.Sizes.{StrictSizeRule}
use Rattle.wa_types.specs.Validity.{Valid}
use Rattle.gen_module.specs.Generated.{generated}

-- They are valid.
abbrev pub GeneratedIsValid : Type 0
GeneratedIsValid = (n : ℕ) → Valid (generated n)

-- They keep the stricter size rule.
abbrev pub GeneratedIsSmall : Type 0
GeneratedIsSmall = (n : ℕ) → n ≤ 4000 → StrictSizeRule (generated n)
