-- What the slim module is to the flat one and to the original.
use Rattle.std.specs.Prelude.{◌≡◌, ℕ, ◌≤◌, List, Bool, true}
use Rattle.wa_types.specs.Modules.{func_sorts}
use Rattle.wa_types.specs.Syntax.{Func, Module}
use Rattle.wa_types.specs.Validity.{Valid}
use Rattle.flat_laws.specs.FlatModule.{flat_module}
use Rattle.flat_laws.specs.Flatten.{flattened}
use Rattle.flat_runs.specs.Beside.{first_of}
use Rattle.slim_laws.specs.Beside.{Together}
use Rattle.slim_laws.specs.SlimModule.{AllSlimPieces, Pieces, SlimPieces, module_terms, plain_pieces, slim_module}

-- It is valid, its functions have their types, its code is slim beside the flat one, and slots stand behind the original's own locals.
pub record SlimModuleFits (m : Module) (which : List Bool) (places : (index : ℕ) → Func → List ℕ) (pieces : (index : ℕ) → Pieces) : Type 0 where
  pub valid : Valid (slim_module m which places pieces)
  pub sorts : func_sorts (slim_module m which places pieces) ≡ func_sorts m
  pub together : Together (record { flat = flat_module m which; slim = slim_module m which places pieces; terms = module_terms m which places pieces })
  pub behind : (x y : ℕ) → (module_terms m which places pieces x).slot y ≡ true → first_of m x ≤ y

-- So it is where each told function has slim pieces.
abbrev pub SlimModulesFit : Type 0
SlimModulesFit =
    (m : Module) (which : List Bool) (places : (index : ℕ) → Func → List ℕ) (pieces : (index : ℕ) → Pieces) → Valid m → AllSlimPieces m which places pieces
    → SlimModuleFits m which places pieces

-- Pieces as flattening gives them are slim, with nothing left out.
abbrev pub PlainPiecesAreSlim : Type 0
PlainPiecesAreSlim = (m : Module) (places : List ℕ) (x : ℕ) (f : Func) → SlimPieces m places x f (plain_pieces places (flattened m x f))
