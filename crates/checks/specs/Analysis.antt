-- A small program of which one function may pause.
use Rattle.std.specs.Prelude.{ℕ, List, [], ◌∷◌, true, false, codes}
use Rattle.wa_types.specs.declared.syntax.Import.{Import}
use Rattle.wa_types.specs.declared.syntax.ImportKind.TheVariants.{Func as a_func_import}
use Rattle.wa_types.specs.Syntax.{local_get, call, done, Func, Module}
use Rattle.wa_types.specs.Pausing.{beginning, of_list, save_all, Settings, TellsMayPause}
use Rattle.checks.specs.Rows.{then, of_funcs}

-- a function import of this name from `env`, of the first type
abbrev pub import_of : List ℕ → Import
import_of name = record { «module» = codes "env"; base = name; kind = a_func_import 0 }

-- a function that calls another with its parameter
abbrev pub calling : ℕ → Func
calling x = record { sort = 0; locals = []; body = then (local_get 0 ∷ call x ∷ []) done }

-- Function 2 calls `env.log`, function 3 calls `env.sleep`.
abbrev pub sleeps_and_logs : Module
sleeps_and_logs = record (of_funcs (calling 1 ∷ calling 0 ∷ [])) { imports = import_of (codes "sleep") ∷ import_of (codes "log") ∷ [] }

-- `--imports env.sl*`
abbrev pub sleep_listed : Settings
sleep_listed = record { choice = of_list (beginning (codes "env.sl") ∷ []); ignore_indirect = false; policy = save_all }

-- Function 3 alone may pause.
abbrev pub OnlySleeperPauses : Type 0
OnlySleeperPauses = TellsMayPause sleeps_and_logs sleep_listed (false ∷ false ∷ false ∷ true ∷ [])
