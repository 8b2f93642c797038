-- What a program is given over a module, or which rule a line of it breaks, doesn't depend on the module's code.
use Rattle.std.proofs.Common.{◌≡◌, ◌∙◌, ℕ, List, [], ◌∷◌, map, Option, Some, None, Bool, Result, refl, sym, ap}
use Rattle.std.specs.Prelude.{nat_le, ◌&&◌, ◌++◌, if◌then◌else◌, slice_get}
use Rattle.std.specs.Option.{option_or}
use Rattle.wa_types.specs.declared.values.Value.{Value}
use Rattle.wa_types.specs.Modules.{func_imports, func_type_at, imported, imported_func, or_empty, type_at}
use Rattle.wa_types.specs.Syntax.{FuncType, Func, Module}
use Rattle.wa_ops.specs.Operate.{are_of}
use Rattle.wa_model.specs.declared.answers.Area.{Area}
use Rattle.script_model.specs.Script.{ProgramText}
use Rattle.wa_model.specs.Step.{same_func_type}
use Rattle.host_setup.specs.SetUp.{NamedEntry, Fault, all_told, area_bad, are_args, entries_fault, entry_func, entry_funcs, fault_at, first_false, func_named, have_args, is_area_in, is_defined_as, is_there, least_pages, needed, no_export, set_up, unless_fault}
use Rattle.script_setup.specs.SetUpRules.{asked_area, entries_in, named_entry, set_up_rules, told_funcs, with_lines}
use Rattle.transform_command.proofs.Outlines.{outline}

-- a module without the locals and the code of its functions, for crates above
abbrev pub without_code : Module → Module
without_code m = outline m

abbrev sort_of : Func → ℕ
sort_of f = f.sort

map_same : {A B : Type 0} (f g : A → B) → ((x : A) → f x ≡ g x) → (xs : List A) → map f xs ≡ map g xs
map_same f g same [] = refl
map_same f g same (x ∷ xs) = ap (λ y. y ∷ map f xs) (same x) ∙ ap (λ ys. g x ∷ ys) (map_same f g same xs)

module _ (p : Module) where
  sorts_same : (fs : List Func) → map sort_of fs ≡ map sort_of (outline (record p { funcs = fs })).funcs
  sorts_same [] = refl
  sorts_same (f ∷ fs) = ap (λ ns. f.sort ∷ ns) (sorts_same fs)

  pub type_same : (x : ℕ) → func_type_at p x ≡ func_type_at (outline p) x
  type_same x = ap (λ sorts. or_empty (slice_get (map (type_at p) (imported imported_func p ++ sorts)) x)) (sorts_same p.funcs)

  defined_same : (ty : FuncType) (o : Option ℕ) → is_defined_as p ty o ≡ is_defined_as (outline p) ty o
  defined_same ty None = refl
  defined_same ty (Some x) = ap (λ t. nat_le (func_imports p) x && same_func_type t ty) (type_same x)

  args_same : (args : List Value) (o : Option ℕ) → are_args p args o ≡ are_args (outline p) args o
  args_same args None = refl
  args_same args (Some x) = ap (λ (t : FuncType). are_of t.params args) (type_same x)

  -- a set-up by its tests of exports and of arguments
  abbrev by_tests : Area → List NamedEntry → (there have : List Bool) → Result (List ℕ) Fault
  by_tests area entries there have =
      unless_fault
      (option_or (if is_area_in (least_pages p) area then None else Some area_bad)
      (option_or (fault_at no_export (first_false there)) (entries_fault (func_imports p) (entry_funcs p entries) have)))
      (all_told (entry_funcs p entries))

  set_up_same : (area : Area) (entries : List NamedEntry) → set_up p area entries ≡ set_up (outline p) area entries
  set_up_same area entries =
      ap (λ there. by_tests area entries there (have_args p entries))
      (map_same (is_there p) (is_there (outline p)) (λ n. defined_same n.ty (func_named p n.name)) needed)
      ∙ ap (λ have. by_tests area entries (map (is_there (outline p)) needed) have)
      (map_same (λ (e : NamedEntry). are_args p e.args (entry_func p e.name)) (λ (e : NamedEntry). are_args (outline p) e.args (entry_func p e.name))
      (λ (e : NamedEntry). args_same e.args (entry_func p e.name)) entries)

  rules_same : (runs : Bool) (boxes : List (List ℕ)) (t : ProgramText) → set_up_rules runs boxes p t ≡ set_up_rules runs boxes (outline p) t
  rules_same runs boxes t =
      ap (λ funcs. with_lines runs boxes p t (told_funcs (asked_area p t) t funcs)) (set_up_same (asked_area p t).area (map named_entry (entries_in t)))

-- Modules that have one outline have one set-up.
pub same_rules : (runs : Bool) (boxes : List (List ℕ)) (p q : Module) (t : ProgramText) → outline p ≡ outline q → set_up_rules runs boxes p t ≡ set_up_rules runs boxes q t
same_rules runs boxes p q t e = rules_same p runs boxes t ∙ ap (λ (m : Module). set_up_rules runs boxes m t) e ∙ sym (rules_same q runs boxes t)
