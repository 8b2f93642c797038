use Rattle.std.proofs.Common.{◌≡◌, ℕ, List, take}
use Rattle.std.specs.List.{list_any}
use Rattle.std.specs.BTreeSet.{contains_text}
use Rattle.wa_types.specs.View.{module_of}
use Rattle.script_setup.specs.SetUpRules.{is_unfit_import}
use Rattle.script_setup.proofs.mail.unfit_imports.Given as goal

abbrev pub invariant-loop-import : goal.invariant-loop-import
invariant-loop-import l = (name : List ℕ) → contains_text l.names name ≡ list_any (is_unfit_import (module_of l.«module») name) (take l.import-index l.«module».imports.items)
