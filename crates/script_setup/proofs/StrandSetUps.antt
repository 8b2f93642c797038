-- A program is set up strand by strand, and what it shows lies off the areas of all its strands.
use Rattle.std.proofs.Common.{◌≡◌, ℕ, suc, List, [], ◌∷◌, ◌++◌, length, map, take, drop, Option, Some, None, Bool, true, false, ◌||◌, not, All, ap, sym, ◌∙◌, refl, subst, if◌then◌else◌}
use Rattle.std.proofs.Common.{position, Ok}
use Rattle.std.specs.Prelude.{nat_le}
use Rattle.std.proofs.Math.Seq.{drop-append_seam, take-append_seam}
use Rattle.std.specs.List.{list_any}
use Rattle.std.specs.Option.{is_none, option_or, unwrap_or}
use Rattle.std.proofs.lemmas.List.{map-append}
use Rattle.std.proofs.lemmas.List.Elements.{All-nil, All-cons, All-head, All-tail}
use Rattle.std.proofs.lemmas.List.Folds.{list_any-append}
use Rattle.wa_types.specs.Syntax.{Module}
use Rattle.wa_types.specs.Modules.{func_imports}
use Rattle.wa_model.specs.declared.answers.Area.{Area}
use Rattle.script_model.specs.Script.{EntryText, ShowText, StrandText}
use Rattle.script_model.specs.ScriptText.{AreaText}
use Rattle.host_setup.specs.SetUp.{Fault, NamedEntry, all_told, are_args, area_bad, arg_types, args_fault, calls_fault, entries_fault, entry_func, entry_funcs, entry_is_import, entry_missing, fault_at, first_false, first_fault, have_args}
use Rattle.host_setup.specs.SetUp.{is_area_in, is_imported, is_there, least_pages, module_fault, needed, no_export, set_up, unless_fault}
use Rattle.script_setup.specs.SetUpRules.{asked_area, asked_from, entries_then, named_entry, overlaps, overlaps_one, own_area, strand_area, worse}
use Rattle.script_setup.specs.StrandSetUps.{EachSetUp, StrandsAreSetUp}
use Rattle.script_setup.proofs.FirstPlaces.{none_first, none_found, none_passes}
use Rattle.script_setup.proofs.GlobalTypes.{left_false, right_false}

-- ---- what a set-up says, in parts

no_place : (fault : ℕ → Fault) (o : Option ℕ) → fault_at fault o ≡ None → o ≡ None
no_place fault None e = refl
no_place fault (Some i) e = cc

both_none : (a b : Option Fault) → option_or a b ≡ None → (a ≡ None) × (b ≡ None)
both_none None b e = (refl, e)
both_none (Some f) b e = cc

or_none : (a b : Option Fault) → a ≡ None → b ≡ None → option_or a b ≡ None
or_none a b e f = ap (λ (o : Option Fault). option_or o b) e ∙ f

area_good : (b : Bool) → (if b then None else Some area_bad) ≡ None → b ≡ true
area_good true e = refl
area_good false e = cc

no_fault : (o : Option Fault) (told funcs : List ℕ) → unless_fault o told ≡ Ok funcs → (o ≡ None) × (told ≡ funcs)
no_fault None told funcs e = (refl, cc)
no_fault (Some f) told funcs e = cc

module _ (p : Module) where
  -- Each entry names an exported function that isn't imported, and has arguments of its types.
  record AllCalled (es : List NamedEntry) : Type 0 where
    found : list_any is_none (entry_funcs p es) ≡ false
    defined : list_any (is_imported (func_imports p)) (entry_funcs p es) ≡ false
    args : list_any not (have_args p es) ≡ false

  -- .. the area is good, and the five exports are there.
  record IsSetUp (a : Area) (es : List NamedEntry) (funcs : List ℕ) : Type 0 where
    area : is_area_in (least_pages p) a ≡ true
    exports : first_false (map (is_there p) needed) ≡ None
    called : AllCalled es
    funcs_are : all_told (entry_funcs p es) ≡ funcs

  parts_of_set_up : (area : Area) (es : List NamedEntry) (funcs : List ℕ) → set_up p area es ≡ Ok funcs → IsSetUp area es funcs
  parts_of_set_up area es funcs e =
      let whole = no_fault (first_fault p area es) (all_told (entry_funcs p es)) funcs e in
      let one = both_none (if is_area_in (least_pages p) area then None else Some area_bad) (module_fault p es) whole.0 in
      let two = both_none (fault_at no_export (first_false (map (is_there p) needed))) (entries_fault (func_imports p) (entry_funcs p es) (have_args p es)) one.1 in
      let three = both_none (fault_at entry_missing (position is_none (entry_funcs p es))) (calls_fault (func_imports p) (entry_funcs p es) (have_args p es)) two.1 in
      let four = both_none (fault_at entry_is_import (position (is_imported (func_imports p)) (entry_funcs p es))) (args_fault (have_args p es)) three.1 in
      record {
        area = area_good (is_area_in (least_pages p) area) one.0;
        exports = no_place no_export (first_false (map (is_there p) needed)) two.0;
        called = record {
          found = none_found is_none (entry_funcs p es) (no_place entry_missing (position is_none (entry_funcs p es)) three.0);
          defined = none_found (is_imported (func_imports p)) (entry_funcs p es) (no_place entry_is_import (position (is_imported (func_imports p)) (entry_funcs p es)) four.0);
          args = none_found not (have_args p es) (no_place arg_types (first_false (have_args p es)) four.1);
        };
        funcs_are = whole.1;
      }

  set_up_of_parts : (area : Area) (es : List NamedEntry) (funcs : List ℕ) → IsSetUp area es funcs → set_up p area es ≡ Ok funcs
  set_up_of_parts area es funcs is =
      ap (λ (o : Option Fault). unless_fault o (all_told (entry_funcs p es)))
      (or_none (if is_area_in (least_pages p) area then None else Some area_bad) (module_fault p es) (ap (λ (b : Bool). if b then None else Some area_bad) is.area)
      (or_none (fault_at no_export (first_false (map (is_there p) needed))) (entries_fault (func_imports p) (entry_funcs p es) (have_args p es)) (ap (fault_at no_export) is.exports)
      (or_none (fault_at entry_missing (position is_none (entry_funcs p es))) (calls_fault (func_imports p) (entry_funcs p es) (have_args p es))
      (ap (fault_at entry_missing) (none_first is_none (entry_funcs p es) is.called.found))
      (or_none (fault_at entry_is_import (position (is_imported (func_imports p)) (entry_funcs p es))) (args_fault (have_args p es))
      (ap (fault_at entry_is_import) (none_first (is_imported (func_imports p)) (entry_funcs p es) is.called.defined))
      (ap (fault_at arg_types) (none_first not (have_args p es) is.called.args))))))
      ∙ ap (λ (fs : List ℕ). Ok fs) is.funcs_are

  -- ---- entries of several strands

  none_of_two : {X : Type 0} (test : X → Bool) (f : NamedEntry → X) (es more : List NamedEntry) → list_any test (map f (es ++ more)) ≡ false
      → (list_any test (map f es) ≡ false) × (list_any test (map f more) ≡ false)
  none_of_two test f es more e =
      let parted : (list_any test (map f es) || list_any test (map f more)) ≡ false = sym (ap (list_any test) (map-append f es more) ∙ list_any-append test (map f es) (map f more)) ∙ e in
      (left_false (list_any test (map f es)) (list_any test (map f more)) parted, right_false (list_any test (map f es)) (list_any test (map f more)) parted)

  called_parted : (es more : List NamedEntry) → AllCalled (es ++ more) → AllCalled es × AllCalled more
  called_parted es more all =
      let found = none_of_two is_none (λ (e : NamedEntry). entry_func p e.name) es more all.found in
      let defined = none_of_two (is_imported (func_imports p)) (λ (e : NamedEntry). entry_func p e.name) es more all.defined in
      let args = none_of_two not (λ (e : NamedEntry). are_args p e.args (entry_func p e.name)) es more all.args in
      (record { found = found.0; defined = defined.0; args = args.0 }, record { found = found.1; defined = defined.1; args = args.1 })

  abbrev told : List EntryText → List ℕ
  told es = all_told (entry_funcs p (map named_entry es))

  told_parted : (es more : List EntryText) → told (es ++ more) ≡ told es ++ told more
  told_parted [] more = refl
  told_parted (e ∷ es) more = ap (λ (fs : List ℕ). unwrap_or (entry_func p e.name) 0 ∷ fs) (told_parted es more)

  told_many : (es : List EntryText) → length (told es) ≡ length es
  told_many [] = refl
  told_many (e ∷ es) = ap suc (told_many es)

  -- the first so many are those of the first strand
  told_first : (es more : List EntryText) (funcs : List ℕ) → told (es ++ more) ≡ funcs → (told es ≡ take (length es) funcs) × (told more ≡ drop (length es) funcs)
  told_first es more funcs e =
      let whole : told es ++ told more ≡ funcs = sym (told_parted es more) ∙ e in (
        sym (take-append_seam (told es) (told more)) ∙ ap (λ n. take n (told es ++ told more)) (told_many es) ∙ ap (take (length es)) whole,
        sym (drop-append_seam (told es) (told more)) ∙ ap (λ n. drop n (told es ++ told more)) (told_many es) ∙ ap (drop (length es)) whole,
      )

  -- ---- strand by strand

  -- where the worse of two is fine, both are
  both_good : (a b : AreaText) → is_area_in (least_pages p) (worse (least_pages p) a b).area ≡ true → (is_area_in (least_pages p) a.area ≡ true) × (is_area_in (least_pages p) b.area ≡ true)
  both_good a b good = by (is_area_in (least_pages p) a.area) refl (is_area_in (least_pages p) b.area) refl (nat_le a.line b.line) good where
    by : (s : Bool) → is_area_in (least_pages p) a.area ≡ s → (t : Bool) → is_area_in (least_pages p) b.area ≡ t → (u : Bool)
        → is_area_in (least_pages p) (if s then b else (if t || u then a else b)).area ≡ true → (is_area_in (least_pages p) a.area ≡ true) × (is_area_in (least_pages p) b.area ≡ true)
    by true f t g u h = (f, h)
    by false f true g u h = (h, g)
    by false f false g true h = let no : true ≡ false = sym h ∙ f in cc
    by false f false g false h = let no : true ≡ false = sym h ∙ g in cc

  asked_good : (a : AreaText) (ss : List StrandText) → is_area_in (least_pages p) (asked_from (least_pages p) a ss).area ≡ true → is_area_in (least_pages p) a.area ≡ true
  asked_good a [] good = good
  asked_good a (s ∷ ss) good = (both_good a (strand_area s) (asked_good (worse (least_pages p) a (strand_area s)) ss good)).0

  asked_more : (a : AreaText) (s : StrandText) (ss : List StrandText) → is_area_in (least_pages p) (asked_from (least_pages p) a (s ∷ ss)).area ≡ true
      → is_area_in (least_pages p) (asked_from (least_pages p) (strand_area s) ss).area ≡ true
  asked_more a s ss good =
      subst (λ (b : Bool). is_area_in (least_pages p) (asked_from (least_pages p)
      (if b then strand_area s else (if is_area_in (least_pages p) (strand_area s).area || nat_le a.line (strand_area s).line then a else strand_area s)) ss).area ≡ true)
      (asked_good a (s ∷ ss) good) good

  module _ (exports : first_false (map (is_there p) needed) ≡ None) where
    each : (a : AreaText) (es : List EntryText) (ss : List StrandText) (funcs : List ℕ) → is_area_in (least_pages p) (asked_from (least_pages p) a ss).area ≡ true
        → AllCalled (map named_entry (entries_then es ss)) → told (entries_then es ss) ≡ funcs → EachSetUp p a.area es ss funcs
    each a es [] funcs good all are = set_up_of_parts a.area (map named_entry es) funcs (record { area = good; exports = exports; called = all; funcs_are = are })
    each a es (s ∷ ss) funcs good all are =
        let parted = called_parted (map named_entry es) (map named_entry (entries_then s.entries ss)) (subst AllCalled (map-append named_entry es (entries_then s.entries ss)) all) in
        let first = told_first es (entries_then s.entries ss) funcs are in (
          set_up_of_parts a.area (map named_entry es) (take (length es) funcs) (record { area = asked_good a (s ∷ ss) good; exports = exports; called = parted.0; funcs_are = first.0 }),
          each (strand_area s) s.entries ss (drop (length es) funcs) (asked_more a s ss good) parted.1 first.1,
        )

pub each_set_up : StrandsAreSetUp
each_set_up p t funcs e =
    let parts = parts_of_set_up p (asked_area p t).area (map named_entry (entries_then t.entries t.strands)) funcs e in
    each p parts.exports (own_area t) t.entries t.strands funcs parts.area parts.called parts.funcs_are

-- ---- what is shown

-- a range of memory that is shown lies off each of the areas
abbrev pub OffAreas : Area → List StrandText → ShowText → Type 0
OffAreas area ss s = All (λ (a : Area). overlaps a s ≡ false) (area ∷ map (λ (x : StrandText). x.area) ss)

off_areas : (area : Area) (ss : List StrandText) (s : ShowText) → overlaps_one area ss s ≡ false → OffAreas area ss s
off_areas area [] s e = All-cons (λ (a : Area). overlaps a s ≡ false) area [] e (All-nil (λ (a : Area). overlaps a s ≡ false))
off_areas area (x ∷ xs) s e =
    All-cons (λ (a : Area). overlaps a s ≡ false) area (x.area ∷ map (λ (y : StrandText). y.area) xs) (left_false (overlaps area s) (overlaps_one x.area xs s) e)
    (off_areas x.area xs s (right_false (overlaps area s) (overlaps_one x.area xs s) e))

pub shown_off : (area : Area) (ss : List StrandText) (shows : List ShowText) → position (overlaps_one area ss) shows ≡ None → All (OffAreas area ss) shows
shown_off area ss shows e = by shows (none_passes (overlaps_one area ss) shows e) where
  by : (xs : List ShowText) → All (λ (s : ShowText). overlaps_one area ss s ≡ false) xs → All (OffAreas area ss) xs
  by [] h = All-nil (OffAreas area ss)
  by (x ∷ xs) h =
      All-cons (OffAreas area ss) x xs (off_areas area ss x (All-head (λ (s : ShowText). overlaps_one area ss s ≡ false) x xs h))
      (by xs (All-tail (λ (s : ShowText). overlaps_one area ss s ≡ false) x xs h))
