-- The emitted module is the original with the runtime's parts, but for the bodies of its functions.
use Rattle.std.proofs.Common.{◌≡◌, ◌∙◌, ℕ, suc, ◌+◌, ◌<◌, ◌≤◌, ◌^◌, List, [], ◌∷◌, ◌++◌, length, map, drop, Bool, true, false, All, Err, refl, sym, ap, subst, arith, length-append}
use Rattle.std.specs.Prelude.{slice_get}
use Rattle.std.specs.List.{flat_map}
use Rattle.std.proofs.lemmas.List.{drop-map, get_or-map, map-append, length-map}
use Rattle.std.proofs.lemmas.List.Concat.{flat_map-append}
use Rattle.std.proofs.Math.Seq.{drop-append_seam}
use Rattle.wa_types.specs.declared.syntax.Func.{Func as FuncValue}
use Rattle.wa_types.specs.Encoding.{Enc}
use Rattle.wa_types.specs.Modules.{func_imports, imported, imported_func}
use Rattle.wa_types.specs.Pausing.{Policy, Settings, TellsMayPause, is_told, save_all, save_live}
use Rattle.wa_types.specs.Runtime.{func_space, global_space, runtime_exports, runtime_funcs, with_runtime}
use Rattle.wa_types.specs.Sizes.{StrictSizeRule}
use Rattle.wa_types.specs.Syntax.{Func, Module}
use Rattle.wa_types.specs.Validity.{Valid}
use Rattle.wa_types.specs.View.{func_of, module_of}
use Rattle.wa_types.specs.declared.syntax.Module.{Module as ModuleValue}
use Rattle.wa_model.specs.Rewrites.{Rewrites}
use Rattle.flatten.specs.Whole.{NonePasses}
use Rattle.emitted_form.proofs.BytesByPolicy.{short_as}
use Rattle.emitted_form.specs.EmittedAs.{AreEmitted, EmittedAs, IsEmittedWhere, IsWrittenUnder}
use Rattle.emitted_form.proofs.PolicyCases.{functions_law}
use Rattle.wasm_encode.specs.Locals.{local_count}
use Rattle.wasm_encode.specs.Around.{code_entry, code_entries, HoldsEntries, IsAround, IsUnwritten}
use Rattle.wasm_encode.specs.declared.held.CodeEntries.{CodeEntries}
use Rattle.wasm_encode.proofs.AroundLemmas.{entries_within}
use Rattle.wasm_encode.specs.Modules.{FewLocals}
use Rattle.wasm_encode.specs.declared.EncodeFault.{EncodeFault}
use Rattle.wasm_encode.specs.declared.EncodeFault.TheVariants.{Memory, TooLong}
use Rattle.emitted_form.proofs.GrownFits.{grown_locals}
use Rattle.module_rewrite.proofs.WholeLemmas.{few_written}
use Rattle.module_rewrite.specs.Entries.{value_entries, PutsEntries}
use Rattle.module_rewrite.specs.ByteFaults.{of_encode}
use Rattle.module_rewrite.specs.WholeBytes.{CanBeWritten, EmitsModule}

-- ---- a list of functions, as they are seen

seen_entries : (fs : List FuncValue) → value_entries fs ≡ flat_map code_entry (map func_of fs)
seen_entries [] = refl
seen_entries (f ∷ fs) = ap (λ bs. code_entry (func_of f) ++ bs) (seen_entries fs)

seen_locals : (fs : List FuncValue) → All (λ (f : Func). local_count f.locals < 2 ^ 32) (map func_of fs) → All (λ (f : FuncValue). local_count f.locals.items < 2 ^ 32) fs
seen_locals fs h k d lt =
    subst (λ (f : Func). local_count f.locals < 2 ^ 32) (get_or-map func_of fs k d (func_of d) lt) (h k (func_of d) (let count = length-map fs func_of in omega (arith, count)))

-- ---- functions as they are emitted

abbrev sort_of : Func → ℕ
sort_of f = f.sort

module _ (m : Module) (s : Settings) (which : List Bool) where
  sort_written : (p : Policy) (x : ℕ) (f g : Func) → IsWrittenUnder p m s which x f g → g.sort ≡ f.sort
  sort_written save_all x f g h = ap sort_of h.is
  sort_written save_live x f g h = ap sort_of h.is

  sort_emitted : (told : Bool) (x : ℕ) (f g : Func) → IsEmittedWhere told m s which x f g → g.sort ≡ f.sort
  sort_emitted true x f g h = sort_written s.policy x f g h
  sort_emitted false x f g h = ap sort_of h

  sorts_from : (x : ℕ) (fs gs : List Func) → AreEmitted m s which x fs gs → map sort_of gs ≡ map sort_of fs
  sorts_from x [] [] h = refl
  sorts_from x [] (g ∷ gs) h = absurd h
  sorts_from x (f ∷ fs) [] h = absurd h
  sorts_from x (f ∷ fs) (g ∷ gs) h =
      ap (λ k. k ∷ map sort_of gs) (sort_emitted (is_told (slice_get which x)) x f g h.0) ∙ ap (λ ks. f.sort ∷ ks) (sorts_from (suc x) fs gs h.1)

-- ---- the two modules

module _ (m : Module) (s : Settings) (which : List Bool) (gs : List Func) (are : AreEmitted m s which (func_imports m) m.funcs gs) where
  abbrev inner : Module
  inner = record m { funcs = gs }

  abbrev runtime : List Func
  runtime = runtime_funcs (length m.types) (global_space m) (global_space m + 1)

  same_sorts : map sort_of gs ≡ map sort_of m.funcs
  same_sorts = sorts_from m s which (func_imports m) m.funcs gs are

  same_space : func_space inner ≡ func_space m
  same_space = ap (λ ks. length (imported imported_func m ++ ks)) same_sorts

  other_funcs : record (with_runtime m) { funcs = (with_runtime inner).funcs } ≡ with_runtime inner
  unfolding with_runtime
  other_funcs = ap (λ k. record (with_runtime inner) { exports = m.exports ++ runtime_exports k }) (sym same_space)

  sorts : map sort_of (with_runtime inner).funcs ≡ map sort_of (with_runtime m).funcs
  unfolding with_runtime
  sorts = map-append sort_of gs runtime ∙ ap (λ ks. ks ++ map sort_of runtime) same_sorts ∙ sym (map-append sort_of m.funcs runtime)

  -- the runtime's functions behind the module's own
  behind : drop (length m.funcs) (with_runtime m).funcs ≡ runtime
  unfolding with_runtime
  behind = drop-append_seam m.funcs runtime

  all_entries : flat_map code_entry (with_runtime inner).funcs ≡ flat_map code_entry gs ++ flat_map code_entry runtime
  unfolding with_runtime
  all_entries = flat_map-append code_entry gs runtime

  module _ (v : Valid m) (strict : StrictSizeRule m) (tells : TellsMayPause m s which) (few : NonePasses m (drop (func_imports m) which) m.funcs)
      (n : length m.funcs ≤ 100000) (l : length (Enc m) ≤ 2 ^ 36) where
    counted : length (Enc (with_runtime inner)) < 2 ^ 64
    counted = short_as m s which (with_runtime inner) (record { valid = v; sizes = strict; few = few_written m which few; tells = tells }) (functions_law m s which gs are) n l

    grown_few : FewLocals (with_runtime m)
    grown_few = grown_locals m (λ k d lt. let z = strict.each_func k d lt in let t = z.total in omega (arith, t))

    -- the module with the runtime's parts, in memory
    module _ (q : ModuleValue) (e : module_of q ≡ with_runtime m) (own : ℕ) (eo : own ≡ length m.funcs) (fs : List FuncValue) (ef : fs ≡ q.funcs.items) where
      seen : map func_of fs ≡ (with_runtime m).funcs
      seen = ap (map func_of) ef ∙ ap (λ (p : Module). p.funcs) e

      pub parts_locals : All (λ (f : FuncValue). local_count f.locals.items < 2 ^ 32) fs
      parts_locals = seen_locals fs (subst (All (λ (f : Func). local_count f.locals < 2 ^ 32)) (sym seen) grown_few)

      parts_entries : value_entries (drop own fs) ≡ flat_map code_entry runtime
      parts_entries = seen_entries (drop own fs) ∙ ap (flat_map code_entry) (sym (drop-map func_of own fs) ∙ ap (drop own) seen ∙ ap (λ k. drop k (with_runtime m).funcs) eo ∙ behind)

      pub parts_short : length (value_entries (drop own fs)) < 2 ^ 64
      parts_short =
          let whole = ap length all_entries in
          let part = ap length parts_entries in
          let more = length-append (flat_map code_entry gs) (flat_map code_entry runtime) in
          omega (arith, whole, part, more, entries_within (with_runtime inner), counted)

      pub parts_around : IsAround (module_of q) (with_runtime inner)
      parts_around = subst (λ (p : Module). IsAround p (with_runtime inner)) (sym e) (record {
        other_funcs = other_funcs;
        sorts = sorts;
        locals = grown_few;
        fits = counted;
      })

      pub parts_held : (old new : CodeEntries) → HoldsEntries old (flat_map code_entry gs) → PutsEntries (value_entries (drop own fs)) old new
          → HoldsEntries new (code_entries (with_runtime inner))
      parts_held old new held put =
          subst (HoldsEntries new) (ap (λ bs. flat_map code_entry gs ++ bs) parts_entries ∙ sym all_entries) (put (flat_map code_entry gs) held)

-- a module that isn't written
pub text_fault : (m : Module) (s : Settings) (which : List Bool) (written : Module) (fault : EncodeFault) → CanBeWritten m s which → EmittedAs m s which written → Rewrites m s written
    → IsUnwritten written fault → EmitsModule m s (Err (of_encode fault))
text_fault m s which written Memory can as_ same h = tt
text_fault m s which written (TooLong len) can as_ same h = record { which = which; can = can; written = written; emitted = as_; rewrites = same; is = h.0; over = h.1 }
