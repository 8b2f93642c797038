-- How many functions and globals a module has: the counts of the size rule are those of its index spaces.
use Rattle.std.proofs.Common.{◌≡◌, ◌+◌, List, ◌∷◌, refl, arith, length, map, cond, length-append}
use Rattle.std.proofs.lemmas.List.{length-map}
use Rattle.std.proofs.lemmas.List.Recursion.{is_count_by}
use Rattle.std.specs.List.{filter_map}
use Rattle.wa_types.specs.declared.syntax.Import.{Import}
use Rattle.wa_types.specs.declared.syntax.ImportKind.{ImportKind}
use Rattle.wa_types.specs.declared.syntax.ImportKind.TheVariants.{Func as a_func_import, Table as a_table_import, Memory as a_memory_import, Global as a_global_import}
use Rattle.wa_types.specs.Syntax.{Func, Module}
use Rattle.wa_types.specs.Sizes.{is_func, is_global, imported as counted}
use Rattle.wa_types.specs.Modules.{imported, imported_func, imported_global, global_type}
use Rattle.wa_types.specs.Runtime.{func_space, global_space}

func_step : (i : Import) (is : List Import) (kind : ImportKind) → i.kind ≡ kind
    → length (filter_map (λ (x : Import). imported_func x.kind) (i ∷ is))
    ≡ cond (is_func i.kind) (1 + length (filter_map (λ (x : Import). imported_func x.kind) is)) (length (filter_map (λ (x : Import). imported_func x.kind) is))
func_step i is (a_func_import sort) e = rw e (omega arith)
func_step i is (a_table_import l) e = rw e refl
func_step i is (a_memory_import l) e = rw e refl
func_step i is (a_global_import t mutable) e = rw e refl

global_step : (i : Import) (is : List Import) (kind : ImportKind) → i.kind ≡ kind
    → length (filter_map (λ (x : Import). imported_global x.kind) (i ∷ is))
    ≡ cond (is_global i.kind) (1 + length (filter_map (λ (x : Import). imported_global x.kind) is)) (length (filter_map (λ (x : Import). imported_global x.kind) is))
global_step i is (a_func_import sort) e = rw e refl
global_step i is (a_table_import l) e = rw e refl
global_step i is (a_memory_import l) e = rw e refl
global_step i is (a_global_import t mutable) e = rw e (omega arith)

pub funcs_counted : (m : Module) → func_space m ≡ counted is_func m + length m.funcs
funcs_counted m =
    let a = is_count_by (λ is. length (filter_map (λ (x : Import). imported_func x.kind) is)) (λ (i : Import). is_func i.kind) refl (λ i is. func_step i is i.kind refl) m.imports in
    omega (arith, a, length-append (imported imported_func m) (map (λ (f : Func). f.sort) m.funcs), length-map m.funcs (λ (f : Func). f.sort))

pub globals_counted : (m : Module) → global_space m ≡ counted is_global m + length m.globals
globals_counted m =
    let a = is_count_by (λ is. length (filter_map (λ (x : Import). imported_global x.kind) is)) (λ (i : Import). is_global i.kind) refl (λ i is. global_step i is i.kind refl) m.imports in
    omega (arith, a, length-append (imported imported_global m) (map global_type m.globals), length-map m.globals global_type)
