-- Entries of a program over a rewritten module fit the original.
use Rattle.std.proofs.Common.{◌≡◌, ℕ, zero, suc, ◌+◌, ◌-◌, ◌*◌, ◌%◌, ◌<◌, ◌≤◌, ◌==◌, List, [], ◌∷◌, ◌++◌, length, map, nat_lt, nat_le, Option, Some, None, Bool, true, false, ◌&&◌, is_none, refl, sym, ap, ◌∙◌, subst, append_assoc, arith, All, Contains, slice_get, if◌then◌else◌, ltb-false, leb-true, eqb-true}
use Rattle.std.specs.List.{filter_map, find, flat_map}
use Rattle.std.specs.Option.{unwrap_or}
use Rattle.std.proofs.lemmas.List.Elements.{All-nil, All-cons, All-head, All-tail, All-contains}
use Rattle.std.specs.Option.{option_to_list}
use Rattle.wa_types.specs.declared.syntax.Export.{Export}
use Rattle.wa_types.specs.declared.syntax.Import.{Import}
use Rattle.wa_types.specs.declared.syntax.Limits.{Limits}
use Rattle.wa_types.specs.declared.syntax.Space.TheVariants as Sp
use Rattle.wa_types.specs.declared.values.Value.{Value}
use Rattle.wa_types.specs.Base.{Base}
use Rattle.wa_types.specs.Memory.{page_size}
use Rattle.wa_types.specs.Modules.{all_memories, defined_at, func_imports, func_sorts, func_type_at, imported, imported_func, imported_memory, or_empty, type_at}
use Rattle.wa_types.specs.Pausing.{Settings, TellsMayPause}
use Rattle.wa_types.specs.Runtime.{func_space, runtime_exports, runtime_names, runtime_types, with_runtime}
use Rattle.wa_types.specs.Sizes.{value_fits}
use Rattle.wa_types.specs.Syntax.{Elem, Func, FuncType, Module}
use Rattle.wa_types.specs.Validity.{exported}
use Rattle.wa_model.specs.declared.answers.Area.{Area}
use Rattle.run_theory.specs.Growth.{Each}
use Rattle.wa_model.specs.Instantiation.{least_of}
use Rattle.wa_model.specs.Plan.{AreaFits, Entry, EntryFits}
use Rattle.wa_model.specs.Rewrites.{Rewrites}
use Rattle.run_theory.proofs.FittingNames.{defined_type, not_defined}
use Rattle.run_theory.proofs.GrownSteps.{front}
use Rattle.run_theory.proofs.NamedModules.{each_below}
use Rattle.run_laws.specs.FittingStates.{EntryTyped}
use Rattle.run_laws.proofs.Exported.{exports_free}
use Rattle.host_setup.specs.SetUp.{NamedEntry, all_told, entry_func, entry_funcs, func_in, is_area_in, is_five, least_pages}
use Rattle.pause_host.specs.Settings.{calls_of}
use Rattle.world_hosting.proofs.Exports.{Found, below_found, contains_found, found_original, named}
use Rattle.world_hosting.proofs.Values.{are_typed}

-- ---- lists

each_behind : (n : ℕ) (xs ys : List ℕ) → Each (λ x. x < n) (xs ++ ys) → Each (λ x. x < n) ys
each_behind n [] ys h = h
each_behind n (x ∷ xs) ys h = each_behind n xs ys h.1

sort_below : (n : ℕ) (fs : List Func) (i : ℕ) (f : Func) → Each (λ x. x < n) (map (λ (g : Func). g.sort) fs) → slice_get fs i ≡ Some f → f.sort < n
sort_below n [] i f h e = cc
sort_below n (g ∷ fs) zero f h e =
    let same : g ≡ f = cc in
    subst (λ (k : Func). k.sort < n) same h.0
sort_below n (g ∷ fs) (suc i) f h e = sort_below n fs i f h.1 e

inner_at : (q : Module) (x : ℕ) (f : Func) → defined_at q x ≡ Some f → slice_get q.funcs (x - func_imports q) ≡ Some f
inner_at q x f e = by (nat_lt x (func_imports q)) e where
  by : (b : Bool) → (if b then None else slice_get q.funcs (x - func_imports q)) ≡ Some f → slice_get q.funcs (x - func_imports q) ≡ Some f
  by true k = cc
  by false k = k

behind_imports : (q : Module) (x : ℕ) (f : Func) → defined_at q x ≡ Some f → func_imports q ≤ x
behind_imports q x f e = by (nat_lt x (func_imports q)) refl e where
  by : (b : Bool) → nat_lt x (func_imports q) ≡ b → (if b then None else slice_get q.funcs (x - func_imports q)) ≡ Some f → func_imports q ≤ x
  by true z k = cc
  by false z k = ltb-false x (func_imports q) z

-- ---- the rewritten module beside its original

module _ (m p : Module) (settings : Settings) (rw : Rewrites m settings p) (which : List Bool) (tells : TellsMayPause m settings which) where
  count_same : func_imports p ≡ func_imports m
  count_same = ap (λ (is : List Import). length (filter_map (λ (i : Import). imported_func i.kind) is)) rw.parts.imports

  types_grow : p.types ≡ m.types ++ runtime_types
  unfolding with_runtime
  types_grow = rw.parts.types

  exports_grow : p.exports ≡ m.exports ++ runtime_exports (func_space m)
  unfolding with_runtime
  exports_grow = rw.parts.exports

  memories_same : all_memories p ≡ all_memories (Base m)
  unfolding Base with_runtime
  memories_same =
      ap (λ (is : List Import). filter_map (λ (i : Import). imported_memory i.kind) is ++ p.memories) rw.parts.imports
      ∙ ap (λ (ms : List Limits). filter_map (λ (i : Import). imported_memory i.kind) m.imports ++ ms) rw.parts.memories

  same_sort : (i : ℕ) (f g : Func) → slice_get m.funcs i ≡ Some f → slice_get p.funcs i ≡ Some g → g.sort ≡ f.sort
  same_sort i f g fe ge = by (slice_get which (func_imports m + i)) refl where
    by : (o : Option Bool) → slice_get which (func_imports m + i) ≡ o → g.sort ≡ f.sort
    by (Some true) e = (rw.parts.rewritten i f g which fe ge tells ((tells.each (func_imports m + i)).0 e)).sort
    by (Some false) e = (rw.parts.unchanged i f g fe ge (λ may. let z : ◌≡◌ {A = Option Bool} (Some false) (Some true) = sym e ∙ (tells.each (func_imports m + i)).1 may in cc)).sort
    by None e = (rw.parts.unchanged i f g fe ge (λ may. let z : ◌≡◌ {A = Option Bool} None (Some true) = sym e ∙ (tells.each (func_imports m + i)).1 may in cc)).sort

  same_type_at : (x : ℕ) (f g : Func) → defined_at m x ≡ Some f → defined_at p x ≡ Some g → func_type_at p x ≡ func_type_at m x
  same_type_at x f g fe ge =
      let f_at : slice_get m.funcs (x - func_imports m) ≡ Some f = inner_at m x f fe in
      let g_at : slice_get p.funcs (x - func_imports m) ≡ Some g = ap (λ (k : ℕ). slice_get p.funcs (x - k)) (sym count_same) ∙ inner_at p x g ge in
      let sorts : Each (λ x. x < length m.types) (func_sorts m) = each_below (length m.types) (func_sorts m) rw.parts.valid.sorts in
      let own : Each (λ x. x < length m.types) (map (λ (h : Func). h.sort) m.funcs) =
      each_behind (length m.types) (imported imported_func m) (map (λ (h : Func). h.sort) m.funcs) sorts in
      let there : f.sort < length m.types = sort_below (length m.types) m.funcs (x - func_imports m) f own f_at in
      defined_type p x g ge
      ∙ ap (type_at p) (same_sort (x - func_imports m) f g f_at g_at)
      ∙ ap (λ (ts : List FuncType). or_empty (slice_get ts f.sort)) types_grow
      ∙ ap or_empty (front m.types runtime_types f.sort there)
      ∙ sym (defined_type m x f fe)

  -- ---- one entry

  below_space : (name : List ℕ) (x : ℕ) → Found name m.exports x → x < length (func_sorts m)
  below_space name x found =
      let n : ℕ = length (func_sorts m) in
      let all : Each (λ x. x < n) (exported Sp.Func m ++ option_to_list m.start ++ flat_map (λ (e : Elem). e.funcs) m.elems) = each_below n _ rw.parts.valid.funcs in
      let split = append_assoc (exported Sp.Func m) (option_to_list m.start) (flat_map (λ (e : Elem). e.funcs) m.elems) in
      subst (λ (k : ℕ). k < n) found.index
      (below_found (named name) n m.exports (option_to_list m.start ++ flat_map (λ (e : Elem). e.funcs) m.elems) found.export (subst (Each (λ x. x < n)) split all) found.found found.space)

  abbrev entry : ℕ → List Value → Entry
  entry x args = record { func = x; args = args }

  entry_fits : (name : List ℕ) (args : List Value) (x : ℕ) → entry_func p name ≡ Some x → EntryTyped p (entry x args) → All value_fits args → EntryFits m (entry x args)
  entry_fits name args x e typed ranges = by (is_five name) refl e where
    defined : Found name m.exports x → (f : Func) × (defined_at m x ≡ Some f)
    defined found = by_option (defined_at m x) refl where
      by_option : (o : Option Func) → defined_at m x ≡ o → (f : Func) × (defined_at m x ≡ Some f)
      by_option (Some f) k = (f, k)
      by_option None k =
          let in_space = below_space name x found in
          let low = not_defined m x in_space k in
          let high = behind_imports p x typed.0.0 typed.0.1 in
          let same = count_same in
          absurd (omega (arith, low, high, same))

    fits : Found name m.exports x → EntryFits m (entry x args)
    fits found =
        let there : Contains m.exports found.export = contains_found (named name) m.exports found.export found.found in
        let f = defined found in
        let free : Contains runtime_names found.export.name → ⊥ =
        All-contains (λ (y : Export). Contains runtime_names y.name → ⊥) m.exports found.export (exports_free m p rw.parts.exports rw.parts.valid_rewritten) there in
        record {
          defined = f;
          exported = (found.export, there, record { space = found.space; index = found.index; name = free });
          args = record { typed = are_typed (func_type_at m x).params args (typed.1 ∙ ap (λ (t : FuncType). t.params) (same_type_at x f.0 typed.0.0 f.1 typed.0.1)); ranges = ranges };
        }

    by : (b : Bool) → is_five name ≡ b → (if b then None else func_in (find (named name) p.exports)) ≡ Some x → EntryFits m (entry x args)
    by true other k = cc
    by false other k =
        fits (found_original name m.exports (func_space m) x other (ap (λ (es : List Export). func_in (find (named name) es)) (sym exports_grow) ∙ k))

  -- ---- all entries

  abbrev InRange : NamedEntry → Type 0
  InRange e = All value_fits e.args

  pub entries_fit : (es : List NamedEntry) → All (λ o. is_none o ≡ false) (entry_funcs p es) → All (EntryTyped p) (calls_of es (all_told (entry_funcs p es))) → All InRange es
      → All (EntryFits m) (calls_of es (all_told (entry_funcs p es)))
  entries_fit [] some typed ranges = All-nil (EntryFits m)
  entries_fit (e ∷ es) some typed ranges =
      by (entry_func p e.name) refl (All-head (λ o. is_none o ≡ false) (entry_func p e.name) (entry_funcs p es) some)
      (entries_fit es (All-tail (λ o. is_none o ≡ false) (entry_func p e.name) (entry_funcs p es) some) (All-tail (EntryTyped p) _ _ typed) (All-tail InRange e es ranges))
      (All-head (EntryTyped p) _ _ typed)
    where
      by : (o : Option ℕ) → entry_func p e.name ≡ o → is_none o ≡ false → All (EntryFits m) (calls_of es (all_told (entry_funcs p es))) → EntryTyped p (entry (unwrap_or o 0) e.args)
          → All (EntryFits m) (entry (unwrap_or o 0) e.args ∷ calls_of es (all_told (entry_funcs p es)))
      by None is some rest t = cc
      by (Some x) is some rest t = All-cons (EntryFits m) (entry x e.args) (calls_of es (all_told (entry_funcs p es))) (entry_fits e.name e.args x is t (All-head InRange e es ranges)) rest

  -- ---- the area

  both : (a b : Bool) → (a && b) ≡ true → (a ≡ true) × (b ≡ true)
  both true true h = (refl, refl)
  both true false h = cc
  both false b h = cc

  pub area_fits : (area : Area) → is_area_in (least_pages p) area ≡ true → AreaFits (Base m) area
  area_fits area h =
      let outer = both ((area.at % 4 == 0) && nat_le 8 area.len) (nat_le (area.at + area.len) (least_pages p * page_size)) h in
      let inner = both (area.at % 4 == 0) (nat_le 8 area.len) outer.0 in
      record {
        aligned = eqb-true (area.at % 4) 0 inner.0;
        least = leb-true 8 area.len inner.1;
        inside = subst (λ (ms : List Limits). area.at + area.len ≤ least_of ms * page_size) memories_same (leb-true (area.at + area.len) (least_pages p * page_size) outer.1);
      }
