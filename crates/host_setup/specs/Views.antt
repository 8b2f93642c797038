-- Entries and faults as the program has them.
use Rattle.std.specs.Prelude.{◌≡◌, ℕ, List, Option, Result, Ok, Err}
use Rattle.std.specs.List.{find}
use Rattle.std.specs.Option.{option_map}
use Rattle.std.specs.Borrow.{Bor}
use Rattle.std.specs.BTreeMap.{BTreeMap, get_by}
use Rattle.std.specs.Cmp.Lexicographic.{slice_cmp}
use Rattle.std.specs.Ordering.{nat_cmp}
use Rattle.wa_types.specs.declared.syntax.Export.{Export}
use Rattle.wa_types.specs.Validity.{same_name}
use Rattle.host_setup.specs.declared.entries.Entry.{Entry}
use Rattle.host_setup.specs.declared.faults.SetupFault.{SetupFault}
use Rattle.host_setup.specs.declared.faults.SetupFault.TheVariants.{Memory, AreaBad, NoExports, EntryMissing, EntryIsImport, ArgTypes}
use Rattle.host_setup.specs.SetUp.{func_of, NamedEntry, Fault, area_bad, no_export, entry_missing, entry_is_import, arg_types}

-- an entry
abbrev pub entry_of : Entry → NamedEntry
entry_of e = record { name = e.name; args = e.args.items }

-- The fault says why, or that memory is wanting.
abbrev pub Blames : {Y : Type 0} → SetupFault → Result Y Fault → Type 0
Blames Memory told = Unit {0}
Blames AreaBad told = told ≡ Err area_bad
Blames (NoExports name) told = told ≡ Err (no_export name)
Blames (EntryMissing entry) told = told ≡ Err (entry_missing entry)
Blames (EntryIsImport entry) told = told ≡ Err (entry_is_import entry)
Blames (ArgTypes entry) told = told ≡ Err (arg_types entry)

-- What was made is what is told, or the fault tells why there is none.
abbrev pub Reads : {X Y : Type 0} → (X → Y) → Result X SetupFault → Result Y Fault → Type 0
Reads view (Ok x) told = told ≡ Ok (view x)
Reads view (Err fault) told = Blames fault told

-- what is found in order under a name
abbrev pub named_in : BTreeMap (Bor (List ℕ)) (Option ℕ) → List ℕ → Option (Option ℕ)
named_in names name = get_by (λ (k : Bor (List ℕ)). slice_cmp nat_cmp name k.now) names

-- they are the exports by their names, the first of a name
abbrev pub IsTableOf : BTreeMap (Bor (List ℕ)) (Option ℕ) → List Export → Type 0
IsTableOf names exports = (name : List ℕ) → named_in names name ≡ option_map func_of (find (λ (e : Export). same_name e.name name) exports)
