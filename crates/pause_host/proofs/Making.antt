-- What a plan that is set up says of its module: the five exports and the entries are functions that can be called.
use Rattle.std.proofs.Common.{◌≡◌, ◌≤◌, ◌<◌, ℕ, zero, suc, ◌+◌, ◌++◌, List, [], ◌∷◌, length, map, Option, Some, None, Ok, Bool, true, false, cond, not, All, nat_le, refl, sym, ap, ◌∙◌, subst, arith}
use Rattle.std.specs.Prelude.{◌&&◌, nat_lt, slice_get, codes, position}
use Rattle.std.specs.List.{find, filter_map, cons_option, list_all, prefix_len, position_or_len}
use Rattle.std.specs.Option.{is_none, option_or, unwrap_or}
use Rattle.std.proofs.lemmas.Bool.{leb-true, ltb-false, ltb-true}
use Rattle.std.proofs.lemmas.List.{length-map}
use Rattle.std.proofs.lemmas.List.Elements.{All-nil, All-cons}
use Rattle.std.proofs.lemmas.List.Folds.{list_all-append}
use Rattle.std.specs.Option.{option_to_list}
use Rattle.wa_types.specs.declared.values.ValType.{ValType}
use Rattle.wa_types.specs.declared.values.ValType.TheVariants.{I32}
use Rattle.wa_types.specs.declared.values.Value.{Value}
use Rattle.wa_types.specs.declared.syntax.Export.{Export}
use Rattle.wa_types.specs.declared.syntax.Space.{Space}
use Rattle.wa_types.specs.declared.syntax.Space.TheVariants as Sp
use Rattle.wa_types.specs.Syntax.{FuncType, Func, Module}
use Rattle.wa_types.specs.Encoding.{same_type}
use Rattle.wa_types.specs.Typing.{type_of}
use Rattle.wa_types.specs.Modules.{func_imports, func_sorts, func_type_at, defined_at}
use Rattle.wa_types.specs.Validity.{Valid, all_below, exported, same_space, same_name}
use Rattle.wa_ops.specs.Operate.{are_of}
use Rattle.wa_model.specs.declared.answers.Area.{Area}
use Rattle.wa_model.specs.Step.{same_func_type}
use Rattle.run_theory.specs.Fitting.{types_of}
use Rattle.wa_model.specs.Protocol.{exported_as, index_of}
use Rattle.run_theory.proofs.FittingNames.{same_true, func_types_true, not_defined}
use Rattle.run_laws.specs.FittingStates.{Callable, EntryTyped, ExportsTyped}
use Rattle.host_setup.specs.SetUp.{NamedEntry, Fault, no_export, entry_missing, entry_is_import, arg_types, Needed, module_fault, first_fault, func_in, func_named, is_func, is_defined_as, is_there, needed, is_five, entry_func, is_imported, are_args, fault_at, first_false, entry_funcs, have_args, all_told, unless_fault, set_up, area_bad, is_area_in, least_pages}
use Rattle.pause_host.specs.Settings.{calls_of}

both : (a b : Bool) → (a && b) ≡ true → (a ≡ true) × (b ≡ true)
both true true h = (refl, refl)
both true false h = cc
both false b h = cc

-- ---- exported functions

in_space : (s : Space) → is_func s ≡ same_space s Sp.Func
in_space Sp.Func = refl
in_space Sp.Table = refl
in_space Sp.Memory = refl
in_space Sp.Global = refl

abbrev index_in : Export → Option ℕ
index_in e = cond (same_space e.space Sp.Func) (Some e.index) None

first_below : (n i : ℕ) (b : Bool) (r : List ℕ) → all_below n (cons_option (cond b (Some i) None) r) ≡ true → (all_below n r ≡ true) × (b ≡ true → i < n)
first_below n i true r h = let p = both (nat_lt i n) (all_below n r) h in (p.1, λ z. ltb-true i n p.0)
first_below n i false r h = (h, λ z. cc)

found_index : (b : Bool) (i x : ℕ) → cond b (Some i) None ≡ Some x → (b ≡ true) × (i ≡ x)
found_index true i x e = (refl, cc)
found_index false i x e = cc

named_below : (n : ℕ) (name : List ℕ) (es : List Export) (x : ℕ) → all_below n (filter_map index_in es) ≡ true → func_in (find (λ (e : Export). same_name e.name name) es) ≡ Some x → x < n
named_below n name [] x h e = cc
named_below n name (y ∷ es) x h e =
    let f = first_below n y.index (same_space y.space Sp.Func) (filter_map index_in es) h in
    by_name (same_name y.name name) e f.1 (λ z. named_below n name es x f.0 z)
  where
    by_name : (b : Bool) → func_in (cond b (Some y) (find (λ (e : Export). same_name e.name name) es)) ≡ Some x → (same_space y.space Sp.Func ≡ true → y.index < n)
        → (func_in (find (λ (e : Export). same_name e.name name) es) ≡ Some x → x < n) → x < n
    by_name true z low on = let f = found_index (is_func y.space) y.index x z in subst (λ k. k < n) f.1 (low (sym (in_space y.space) ∙ f.0))
    by_name false z low on = on z

indexed : (o : Option Export) (x : ℕ) → func_in o ≡ Some x → index_of o ≡ x
indexed None x e = cc
indexed (Some y) x e = (found_index (is_func y.space) y.index x e).1

module _ (p : Module) (v : Valid p) where
  exported_below : (name : List ℕ) (x : ℕ) → func_named p name ≡ Some x → x < length (func_sorts p)
  exported_below name x e =
      let n : ℕ = length (func_sorts p) in
      let low : ℕ → Bool = λ k. nat_lt k n in
      let all = v.funcs in
      named_below n name p.exports x (fronts (exported Sp.Func p) (option_to_list p.start) _ all) e
    where
      fronts : (a b c : List ℕ) → all_below (length (func_sorts p)) (a ++ b ++ c) ≡ true → all_below (length (func_sorts p)) a ≡ true
      fronts a b c h =
          let low : ℕ → Bool = λ k. nat_lt k (length (func_sorts p)) in
          let one = both (list_all low (a ++ b)) (list_all low c) (sym (list_all-append low (a ++ b) c) ∙ h) in
          (both (list_all low a) (list_all low b) (sym (list_all-append low a b) ∙ one.0)).0

  defined_there : (x : ℕ) → x < length (func_sorts p) → func_imports p ≤ x → (f : Func) × (defined_at p x ≡ Some f)
  defined_there x lt le = by_option (defined_at p x) refl
    where
      by_option : (o : Option Func) → defined_at p x ≡ o → (f : Func) × (defined_at p x ≡ Some f)
      by_option (Some f) e = (f, e)
      by_option None e = let no : x < func_imports p = not_defined p x lt e in let z : ⊥ = omega arith in absurd z

  -- one of the five
  callable : (name : List ℕ) (ty : FuncType) → is_defined_as p ty (func_named p name) ≡ true → Callable p (exported_as p name) ty.params
  callable name ty h = by_option (func_named p name) refl h
    where
      by_option : (o : Option ℕ) → func_named p name ≡ o → is_defined_as p ty o ≡ true → Callable p (exported_as p name) ty.params
      by_option None e z = cc
      by_option (Some x) e z =
          let parts = both (nat_le (func_imports p) x) (same_func_type (func_type_at p x) ty) z in
          let same : exported_as p name ≡ x = indexed (find (λ (y : Export). same_name y.name name) p.exports) x e in
          subst (λ k. Callable p k ty.params) (sym same)
          (defined_there x (exported_below name x e) (leb-true _ _ parts.0), ap (λ (t : FuncType). t.params) (func_types_true (func_type_at p x) ty parts.1))

  -- ---- the first that fails is none

  pass_all : {X : Type 0} (q : X → Bool) (xs : List X) → length xs ≤ prefix_len q xs → list_all q xs ≡ true
  pass_all q [] h = refl
  pass_all q (y ∷ ys) h = by_test (q y) h (λ k. pass_all q ys k)
    where
      by_test : (b : Bool) → length (y ∷ ys) ≤ cond b (1 + prefix_len q ys) 0 → (length ys ≤ prefix_len q ys → list_all q ys ≡ true) → (b && list_all q ys) ≡ true
      by_test true k on = on (omega arith)
      by_test false k on = absurd (omega arith)

  none_passes : {X : Type 0} (test : X → Bool) (xs : List X) → position test xs ≡ None → list_all (λ y. not (test y)) xs ≡ true
  none_passes test xs e = by_test (nat_lt (position_or_len test xs) (length xs)) refl e
    where
      by_test : (b : Bool) → nat_lt (position_or_len test xs) (length xs) ≡ b → cond b (Some (position_or_len test xs)) None ≡ None → list_all (λ y. not (test y)) xs ≡ true
      by_test true z k = cc
      by_test false z k = pass_all (λ y. not (test y)) xs (ltb-false (position_or_len test xs) (length xs) z)

  no_fault_at : (fault : ℕ → Fault) (o : Option ℕ) → fault_at fault o ≡ None → o ≡ None
  no_fault_at fault None e = refl
  no_fault_at fault (Some i) e = cc

  neither : (a b : Option Fault) → option_or a b ≡ None → (a ≡ None) × (b ≡ None)
  neither None b e = (refl, e)
  neither (Some f) b e = cc

  not_not : (b : Bool) → not (not b) ≡ b
  not_not true = refl
  not_not false = refl

  -- ---- the five exports

  there_at : (ns : List Needed) → list_all (λ (t : Bool). not (not t)) (map (is_there p) ns) ≡ true → (k : ℕ) (n : Needed) → slice_get ns k ≡ Some n → is_there p n ≡ true
  there_at [] h k n e = cc
  there_at (m ∷ ns) h zero n e =
      let one = both (not (not (is_there p m))) (list_all (λ (t : Bool). not (not t)) (map (is_there p) ns)) h in
      let same : m ≡ n = cc in
      subst (λ (z : Needed). is_there p z ≡ true) same (sym (not_not (is_there p m)) ∙ one.0)
  there_at (m ∷ ns) h (suc k) n e =
      there_at ns (both (not (not (is_there p m))) (list_all (λ (t : Bool). not (not t)) (map (is_there p) ns)) h).1 k n e

  pub exports_typed : first_false (map (is_there p) needed) ≡ None → ExportsTyped p
  exports_typed e =
      let all : list_all (λ (t : Bool). not (not t)) (map (is_there p) needed) ≡ true = none_passes (λ (t : Bool). not t) (map (is_there p) needed) e in
      record {
        start_unwind = callable (codes "asyncify_start_unwind") (record { params = I32 ∷ []; results = [] }) (there_at needed all 0 _ refl);
        stop_unwind = callable (codes "asyncify_stop_unwind") (record { params = []; results = [] }) (there_at needed all 1 _ refl);
        start_rewind = callable (codes "asyncify_start_rewind") (record { params = I32 ∷ []; results = [] }) (there_at needed all 2 _ refl);
        stop_rewind = callable (codes "asyncify_stop_rewind") (record { params = []; results = [] }) (there_at needed all 3 _ refl);
        get_state = callable (codes "asyncify_get_state") (record { params = []; results = I32 ∷ [] }) (there_at needed all 4 _ refl);
      }

  -- ---- entries

  pub types_are : (ts : List ValType) (vs : List Value) → are_of ts vs ≡ true → types_of vs ≡ ts
  types_are [] [] h = refl
  types_are [] (x ∷ vs) h = cc
  types_are (t ∷ ts) [] h = cc
  types_are (t ∷ ts) (x ∷ vs) h =
      let two = both (same_type t (type_of x)) (are_of ts vs) h in
      ap (λ u. u ∷ types_of vs) (sym (same_true t (type_of x) two.0)) ∙ ap (λ us. t ∷ us) (types_are ts vs two.1)

  entry_named : (name : List ℕ) (x : ℕ) → entry_func p name ≡ Some x → func_named p name ≡ Some x
  entry_named name x e = by_five (is_five name) e
    where
      by_five : (b : Bool) → cond b None (func_named p name) ≡ Some x → func_named p name ≡ Some x
      by_five true z = cc
      by_five false z = z

  one_entry : (e : NamedEntry) (x : ℕ) → entry_func p e.name ≡ Some x → not (is_imported (func_imports p) (Some x)) ≡ true → are_args p e.args (Some x) ≡ true
      → EntryTyped p (record { func = x; args = e.args })
  one_entry e x there own args =
      let no : nat_lt x (func_imports p) ≡ false = by_bool (nat_lt x (func_imports p)) own in
      (defined_there x (exported_below e.name x (entry_named e.name x there)) (ltb-false x (func_imports p) no), types_are (func_type_at p x).params e.args args)
    where
      by_bool : (b : Bool) → not b ≡ true → b ≡ false
      by_bool true z = cc
      by_bool false z = refl

  entries_all : (es : List NamedEntry) → list_all (λ (o : Option ℕ). not (is_none o)) (entry_funcs p es) ≡ true
      → list_all (λ (o : Option ℕ). not (is_imported (func_imports p) o)) (entry_funcs p es) ≡ true
      → list_all (λ (t : Bool). not (not t)) (have_args p es) ≡ true → All (EntryTyped p) (calls_of es (all_told (entry_funcs p es)))
  entries_all [] a b c = All-nil (EntryTyped p)
  entries_all (e ∷ es) a b c = by_func (entry_func p e.name) refl a b c (λ a' b' c'. entries_all es a' b' c')
    where
      by_func : (o : Option ℕ) → entry_func p e.name ≡ o → (not (is_none o) && list_all (λ (o : Option ℕ). not (is_none o)) (entry_funcs p es)) ≡ true
          → (not (is_imported (func_imports p) o) && list_all (λ (o : Option ℕ). not (is_imported (func_imports p) o)) (entry_funcs p es)) ≡ true
          → (not (not (are_args p e.args o)) && list_all (λ (t : Bool). not (not t)) (have_args p es)) ≡ true
          → (list_all (λ (o : Option ℕ). not (is_none o)) (entry_funcs p es) ≡ true → list_all (λ (o : Option ℕ). not (is_imported (func_imports p) o)) (entry_funcs p es) ≡ true
          → list_all (λ (t : Bool). not (not t)) (have_args p es) ≡ true → All (EntryTyped p) (calls_of es (all_told (entry_funcs p es))))
          → All (EntryTyped p) (record { func = unwrap_or o 0; args = e.args } ∷ calls_of es (all_told (entry_funcs p es)))
      by_func None there x y z on = cc
      by_func (Some f) there x y z on =
          let bs = both (not (is_imported (func_imports p) (Some f))) _ y in
          let cs = both (not (not (are_args p e.args (Some f)))) _ z in
          All-cons (EntryTyped p) (record { func = f; args = e.args }) (calls_of es (all_told (entry_funcs p es)))
          (one_entry e f there bs.0 (sym (not_not (are_args p e.args (Some f))) ∙ cs.0)) (on x bs.1 cs.1)

  -- ---- a plan without faults

  pub record SetUpFine (area : Area) (es : List NamedEntry) (funcs : List ℕ) : Type 0 where
    pub area_fits : is_area_in (least_pages p) area ≡ true
    pub exports : ExportsTyped p
    pub funcs_are : funcs ≡ all_told (entry_funcs p es)
    pub entries : All (EntryTyped p) (calls_of es funcs)

  pub set_up_fine : (area : Area) (es : List NamedEntry) (funcs : List ℕ) → set_up p area es ≡ Ok funcs → SetUpFine area es funcs
  set_up_fine area es funcs e = by_fault (first_fault p area es) refl e
    where
      area_by : (b : Bool) → cond b None (Some area_bad) ≡ None → b ≡ true
      area_by true z = refl
      area_by false z = cc

      by_fault : (o : Option Fault) → first_fault p area es ≡ o → unless_fault o (all_told (entry_funcs p es)) ≡ Ok funcs → SetUpFine area es funcs
      by_fault (Some f) is z = cc
      by_fault None is z =
          let same : all_told (entry_funcs p es) ≡ funcs = cc in
          let one = neither (cond (is_area_in (least_pages p) area) None (Some area_bad)) (module_fault p es) is in
          let two = neither (fault_at no_export (first_false (map (is_there p) needed))) _ one.1 in
          let three = neither (fault_at entry_missing (position is_none (entry_funcs p es))) _ two.1 in
          let four = neither (fault_at entry_is_import (position (is_imported (func_imports p)) (entry_funcs p es))) _ three.1 in
          record {
            area_fits = area_by (is_area_in (least_pages p) area) one.0;
            exports = exports_typed (no_fault_at no_export (first_false (map (is_there p) needed)) two.0);
            funcs_are = sym same;
            entries = subst (λ fs. All (EntryTyped p) (calls_of es fs)) same
                (entries_all es (none_passes is_none (entry_funcs p es) (no_fault_at entry_missing (position is_none (entry_funcs p es)) three.0))
                (none_passes (is_imported (func_imports p)) (entry_funcs p es) (no_fault_at entry_is_import (position (is_imported (func_imports p)) (entry_funcs p es)) four.0))
                (none_passes (λ (t : Bool). not t) (have_args p es) (no_fault_at arg_types (first_false (have_args p es)) four.1)));
          }

  -- one function for each entry
  pub funcs_many : (area : Area) (es : List NamedEntry) (funcs : List ℕ) → set_up p area es ≡ Ok funcs → length funcs ≡ length es
  funcs_many area es funcs e =
      ap (λ (fs : List ℕ). length fs) (set_up_fine area es funcs e).funcs_are ∙ length-map (entry_funcs p es) (λ (f : Option ℕ). unwrap_or f 0)
      ∙ length-map es (λ (y : NamedEntry). entry_func p y.name)
