-- A plan that fits a module fits one with the runtime's parts behind it.
use Rattle.std.proofs.Common.{arith, ◌≡◌, ◌≤◌, ◌<◌, ℕ, zero, suc, ◌+◌, ◌-◌, ◌*◌, List, [], ◌∷◌, ◌++◌, length, map, Some, None, Bool, true, false, Contains, refl, sym, ap, ◌∙◌, subst}
use Rattle.std.proofs.Common.{append_assoc, append-nil, ltb-true}
use Rattle.std.specs.Prelude.{slice_get, nat_lt, if◌then◌else◌}
use Rattle.std.specs.List.{filter_map}
use Rattle.std.specs.Option.{option_map}
use Rattle.std.proofs.lemmas.Bool.{and_parts}
use Rattle.std.proofs.lemmas.List.{map-append}
use Rattle.std.proofs.lemmas.Option.{slice_get-map}
use Rattle.std.proofs.lemmas.List.Elements.{All-weaker, Contains-append_left}
use Rattle.wa_types.specs.declared.syntax.Import.{Import}
use Rattle.wa_types.specs.declared.syntax.Limits.{Limits}
use Rattle.wa_types.specs.Base.{added_memories, Base}
use Rattle.wa_types.specs.Memory.{page_size}
use Rattle.wa_types.specs.Syntax.{FuncType, Func, Module}
use Rattle.wa_types.specs.Typing.{GlobalType}
use Rattle.wa_types.specs.Modules.{imported, imported_func, imported_memory, imported_global, all_memories, func_imports, func_sorts, or_empty, type_at, func_type_at, defined_at}
use Rattle.wa_types.specs.Runtime.{func_space, global_space, runtime_types, runtime_funcs, runtime_exports, with_runtime}
use Rattle.wa_types.specs.Validity.{all_below, Valid}
use Rattle.wa_model.specs.Plan.{Entry, AreLawful, EntryFits}
use Rattle.wa_model.specs.Instantiation.{least_of}
use Rattle.run_theory.proofs.FittingNames.{defined_type}
use Rattle.run_laws.specs.RuntimeParts.{ShowsParts, PlansFitParts}

got_first : {X : Type 0} (xs ys : List X) (i : ℕ) (x : X) → slice_get xs i ≡ Some x → slice_get (xs ++ ys) i ≡ Some x
got_first [] ys i x e = cc
got_first (z ∷ xs) ys zero x e = e
got_first (z ∷ xs) ys (suc i) x e = got_first xs ys i x e

-- where a mapped list has an item, the list has one
from_map : (fs : List Func) (i sort : ℕ) → slice_get (map (λ (f : Func). f.sort) fs) i ≡ Some sort → (g : Func) × (slice_get fs i ≡ Some g) × (g.sort ≡ sort)
from_map [] i sort e = cc
from_map (f ∷ fs) zero sort e = (f, refl, same e)
  where
    same : Some f.sort ≡ Some sort → f.sort ≡ sort
    same e = cc
from_map (f ∷ fs) (suc i) sort e = from_map fs i sort e

below_at : (n : ℕ) (xs : List ℕ) (i y : ℕ) → all_below n xs ≡ true → slice_get xs i ≡ Some y → y < n
below_at n [] i y h e = cc
below_at n (x ∷ xs) zero y h e = subst (λ z. z < n) (same e) (ltb-true x n (and_parts (nat_lt x n) (all_below n xs) h).0)
  where
    same : Some x ≡ Some y → x ≡ y
    same e = cc
below_at n (x ∷ xs) (suc i) y h e = below_at n xs i y (and_parts (nat_lt x n) (all_below n xs) h).1 e

got_below : (xs ys : List FuncType) (i : ℕ) → i < length xs → slice_get (xs ++ ys) i ≡ slice_get xs i
got_below [] ys i h = absurd (omega (arith, h))
got_below (x ∷ xs) ys zero h = refl
got_below (x ∷ xs) ys (suc i) h = got_below xs ys i (omega (arith, h))

got_behind : (xs ys : List ℕ) (i y : ℕ) → slice_get ys i ≡ Some y → slice_get (xs ++ ys) (length xs + i) ≡ Some y
got_behind [] ys i y e = let z : 0 + i ≡ i = omega arith in ap (slice_get ys) z ∙ e
got_behind (x ∷ xs) ys i y e = let z : suc (length xs) + i ≡ suc (length xs + i) = omega arith in ap (slice_get (x ∷ (xs ++ ys))) z ∙ got_behind xs ys i y e

grown_types : (m : Module) → (with_runtime m).types ≡ m.types ++ runtime_types
unfolding with_runtime
grown_types m = refl

grown_exports : (m : Module) → (with_runtime m).exports ≡ m.exports ++ runtime_exports (func_space m)
unfolding with_runtime
grown_exports m = refl

grown_memories : (m : Module) → (with_runtime m).memories ≡ m.memories ++ added_memories (all_memories m)
unfolding with_runtime
grown_memories m = refl

grown_sorts : (m : Module) → map (λ (f : Func). f.sort) (with_runtime m).funcs ≡ map (λ (f : Func). f.sort) m.funcs ++ map (λ (f : Func). f.sort)
    (runtime_funcs (length m.types) (global_space m) (global_space m + 1))
unfolding with_runtime
grown_sorts m = map-append (λ (f : Func). f.sort) m.funcs (runtime_funcs (length m.types) (global_space m) (global_space m + 1))

module _ (m p : Module) (v : Valid m) (h : ShowsParts m p) where
  same_imports : func_imports p ≡ func_imports m
  same_imports = ap (λ (is : List Import). length (filter_map (λ (i : Import). imported_func i.kind) is)) h.imports

  -- a function of the original stands in the other at the same index, with the same type
  there : (x : ℕ) (f : Func) → defined_at m x ≡ Some f → (g : Func) × (defined_at p x ≡ Some g) × (g.sort ≡ f.sort)
  there x f e = by_import (nat_lt x (func_imports m)) refl e
    where
      by_import : (b : Bool) → nat_lt x (func_imports m) ≡ b → (if b then None else slice_get m.funcs (x - func_imports m)) ≡ Some f → (g : Func) × (defined_at p x ≡ Some g) × (g.sort ≡ f.sort)
      by_import true z e = cc
      by_import false z e =
          let i : ℕ = x - func_imports m in
          let sort : slice_get (map (λ (f : Func). f.sort) m.funcs) i ≡ Some f.sort = slice_get-map (λ (f : Func). f.sort) m.funcs i ∙ ap (option_map (λ (f : Func). f.sort)) e in
          let in_p = ap (λ xs. slice_get xs i) (h.sorts ∙ grown_sorts m) ∙ got_first (map (λ (f : Func). f.sort) m.funcs) _ i f.sort sort in
          let k = from_map p.funcs i f.sort in_p in (
            k.0,
            ap (λ n. if nat_lt x n then None else slice_get p.funcs (x - n)) same_imports ∙ ap (λ b. if b then None else slice_get p.funcs (x - func_imports m)) z ∙ k.1,
            k.2,
          )

  sort_there : (x : ℕ) (f : Func) → defined_at m x ≡ Some f → f.sort < length m.types
  sort_there x f e = by_import (nat_lt x (func_imports m)) e
    where
      by_import : (b : Bool) → (if b then None else slice_get m.funcs (x - func_imports m)) ≡ Some f → f.sort < length m.types
      by_import true e = cc
      by_import false e =
          let sort : slice_get (map (λ (f : Func). f.sort) m.funcs) (x - func_imports m) ≡ Some f.sort = slice_get-map (λ (f : Func). f.sort) m.funcs _ ∙ ap (option_map (λ (f : Func). f.sort)) e in
          below_at (length m.types) (func_sorts m) (func_imports m + (x - func_imports m)) f.sort v.sorts (got_behind (imported imported_func m) (map (λ (f : Func). f.sort) m.funcs) _ f.sort sort)

  same_type : (x : ℕ) (f : Func) → defined_at m x ≡ Some f → func_type_at p x ≡ func_type_at m x
  same_type x f e =
      let k = there x f e in
      defined_type p x k.0 k.1
      ∙ ap (type_at p) k.2
      ∙ ap (λ ts. or_empty (slice_get ts f.sort)) (h.types ∙ grown_types m)
      ∙ ap or_empty (got_below m.types runtime_types f.sort (sort_there x f e))
      ∙ sym (defined_type m x f e)

  entry_fits : (e : Entry) → EntryFits m e → EntryFits p e
  entry_fits e k =
      let f = k.defined.0 in
      let is = k.defined.1 in
      let at = there e.func f is in
      record {
        defined = (at.0, at.1);
        exported = (
          k.exported.0,
          subst (λ es. Contains es k.exported.0) (sym (h.exports ∙ grown_exports m))
              (Contains-append_left m.exports (runtime_exports (func_space m)) k.exported.0 k.exported.1),
          k.exported.2,
        );
        args = subst (λ (t : FuncType). AreLawful t.params e.args) (sym (same_type e.func f is)) k.args;
      }

  -- the memory that is there
  no_more : (xs : List Limits) → added_memories (xs ++ added_memories xs) ≡ []
  no_more [] = refl
  no_more (l ∷ xs) = refl

  same_memories : all_memories (Base p) ≡ all_memories (Base m)
  unfolding Base
  same_memories =
      let imports : imported imported_memory p ≡ imported imported_memory m = ap (λ (is : List Import). filter_map (λ (i : Import). imported_memory i.kind) is) h.imports in
      let mine : all_memories p ≡ all_memories m ++ added_memories (all_memories m) =
      ap (λ ls. imported imported_memory p ++ ls) (h.memories ∙ grown_memories m)
      ∙ ap (λ ls. ls ++ (m.memories ++ added_memories (all_memories m))) imports
      ∙ sym (append_assoc (imported imported_memory m) m.memories (added_memories (all_memories m))) in
      let none : added_memories (all_memories p) ≡ [] = ap added_memories mine ∙ no_more (all_memories m) in
      ap (λ ls. imported imported_memory p ++ (p.memories ++ ls)) none
      ∙ ap (λ ls. imported imported_memory p ++ ls) (append-nil p.memories)
      ∙ mine
      ∙ append_assoc (imported imported_memory m) m.memories (added_memories (all_memories m))

pub plans_fit_parts : PlansFitParts
plans_fit_parts m p plan v h fits = record {
  globals =
      subst (λ (is : List Import). AreLawful (map (λ (g : GlobalType). g.ty) (filter_map (λ (i : Import). imported_global i.kind) is)) plan.globals) (sym h.imports) fits.globals;
  entries = All-weaker (EntryFits m) (EntryFits p) (entry_fits m p v h) plan.entries fits.entries;
  area = record {
    aligned = fits.area.aligned;
    least = fits.area.least;
    inside = subst (λ (ls : List Limits). plan.area.at + plan.area.len ≤ least_of ls * page_size) (sym (same_memories m p v h)) fits.area.inside;
  };
}
