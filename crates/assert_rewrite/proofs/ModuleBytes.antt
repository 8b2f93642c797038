-- The module with asserts stands around its entries, and its bytes are its own.
use Rattle.std.proofs.Common.{◌≡◌, ◌∙◌, ℕ, ◌-◌, ◌<◌, ◌≤◌, ◌^◌, List, [], ◌++◌, length, map, Bool, None, Err, refl, sym, ap, subst, arith}
use Rattle.std.specs.Vec.{vec_len}
use Rattle.std.proofs.lemmas.List.{length-map}
use Rattle.wa_types.specs.declared.syntax.Import.{Import}
use Rattle.wa_types.specs.Encoding.{Enc}
use Rattle.wa_types.specs.Modules.{func_imports}
use Rattle.wa_types.specs.Pausing.{Listed, Settings}
use Rattle.wa_types.specs.Runtime.{global_space}
use Rattle.wa_types.specs.Sizes.{StrictSizeRule}
use Rattle.wa_types.specs.Syntax.{Module}
use Rattle.wa_types.specs.View.{func_of, module_of}
use Rattle.wa_types.specs.declared.syntax.Func.{Func as FuncValue}
use Rattle.wa_types.specs.declared.syntax.Module.{Module as ModuleValue}
use Rattle.call_graph.specs.Settings.{settings_of}
use Rattle.call_graph.specs.declared.settings.Settings.{Settings as SettingsValue}
use Rattle.local_spill.specs.Reserved.{reserved_at}
use Rattle.wasm_encode.specs.Around.{code_entries, HoldsEntries, IsAround, IsUnwritten}
use Rattle.wasm_encode.specs.declared.held.CodeEntries.{CodeEntries}
use Rattle.wasm_encode.proofs.AroundLemmas.{entries_within}
use Rattle.wasm_encode.specs.declared.EncodeFault.{EncodeFault}
use Rattle.wasm_encode.specs.declared.EncodeFault.TheVariants.{Memory, TooLong}
use Rattle.emitted_form.proofs.BytesByPolicy.{few_as}
use Rattle.emitted_form.specs.PolicyLaws.{CanBeEmitted}
use Rattle.module_rewrite.proofs.FreeNames.{unreserved_is_free}
use Rattle.module_rewrite.proofs.WholeLemmas.{few_written, which_long}
use Rattle.module_rewrite.specs.ByteFaults.{of_encode}
use Rattle.module_rewrite.specs.Whole.{IsInstrumented}
use Rattle.module_rewrite.specs.declared.whole.Instrumented.{Instrumented}
use Rattle.guard_form.specs.AssertedRuns.{RewritesWithAsserts}
use Rattle.assert_laws.proofs.EmittedAsserts.{rewrites_law}
use Rattle.assert_laws.proofs.LengthWithAsserts.{short_law}
use Rattle.assert_laws.proofs.ModuleWithAsserts.{sorts_from}
use Rattle.assert_laws.specs.EmittedWithAsserts.{EmittedWithAsserts, module_with_asserts}
use Rattle.assert_rewrite.specs.Asserting.{are_short, entries_with}
use Rattle.assert_rewrite.specs.declared.asserting.Numbers.{Numbers}
use Rattle.assert_rewrite.specs.Emitting.{EmitsWithAsserts}
use Rattle.assert_rewrite.proofs.EntriesWith.{all_short, same_entries}

-- ---- imports come first

abbrev with_imports : Module → List Import → ℕ
with_imports m is = func_imports (record m { imports = is })

-- how many functions the module has
own_count : (v z : ModuleValue) (own : ℕ) → z ≡ v → own ≡ vec_len z.funcs → own ≡ length (module_of v).funcs
own_count v z own same e =
    let ok = z.funcs.ok in
    let count = ap (λ (y : ModuleValue). length y.funcs.items) same in
    let len = length-map v.funcs.items func_of in omega (arith, e, ok, count, len)

-- ---- what is written

-- The module q stands around the entries that are put, of these functions of the module in memory from this one on.
pub record EmitsAround (q : Module) (n : Numbers) (w : ModuleValue) (first : ℕ) (fs : List FuncValue) : Type 0 where
  pub short : are_short n first (map func_of fs)
  pub around : IsAround (module_of w) q
  pub held : (old new : CodeEntries) → HoldsEntries old []
      → ((entries : List ℕ) → HoldsEntries old entries → HoldsEntries new (entries ++ entries_with n first (map func_of fs))) → HoldsEntries new (code_entries q)

module _ (m : Module) (s : Settings) (r : Instrumented) (strict : StrictSizeRule m) (a : IsInstrumented m s r) (few : length m.funcs ≤ 100000) (short : length (Enc m) ≤ 2 ^ 36) where
  abbrev which : List Bool
  which = r.instrumented.items

  abbrev p : Module
  p = module_of r.«module»

  abbrev q : Module
  q = module_with_asserts m s which p

  pub can : CanBeEmitted m s which
  can = record { valid = a.rewrites.parts.valid; sizes = strict; few = few_written m which a.few; tells = a.tells }

  pub emitted : EmittedWithAsserts m s which q
  emitted = record { without = p; emitted = a.emitted; is = refl }

  same_imports : func_imports p ≡ func_imports m
  same_imports = ap (with_imports m) a.rewrites.parts.imports

  first_from : (all own : ℕ) → all ≡ vec_len r.instrumented → own ≡ length m.funcs → all - own ≡ func_imports p
  first_from all own ea eo =
      let k = which_long m s which a.tells in
      let z = same_imports in
      let ok = r.instrumented.ok in omega (arith, ea, eo, k, z, ok)

  fits : length (Enc q) < 2 ^ 64
  fits = short_law m s which q can emitted few short

  around : IsAround p q
  around = record { other_funcs = refl; sorts = sorts_from m s which (func_imports p) p.funcs; locals = few_as m s which p can a.emitted; fits = fits }

  module _ (n : Numbers) (ew : n.which.items ≡ which) (el : n.listed.items ≡ Listed m s) (ei : n.ignore_indirect ≡ s.ignore_indirect) (es : n.state ≡ global_space m) where
    entries_are : entries_with n (func_imports p) p.funcs ≡ code_entries q
    entries_are = same_entries m s which n ew el ei es (func_imports p) p.funcs

    entries_short : are_short n (func_imports p) p.funcs
    entries_short = all_short m s which n ew el ei es (func_imports p) p.funcs (few_as m s which p can a.emitted) (omega (arith, entries_within q, fits))

    -- .. of the module in memory, from its first function on
    pub emitted_around : (w : ModuleValue) (first : ℕ) (fs : List FuncValue) → w ≡ r.«module» → first ≡ func_imports p → fs ≡ w.funcs.items → EmitsAround q n w first fs
    emitted_around w first fs is ef efs =
        let seen : map func_of fs ≡ p.funcs = ap (map func_of) efs ∙ ap (λ (z : ModuleValue). (module_of z).funcs) is in
        record {
          short = subst (λ k. are_short n k (map func_of fs)) (sym ef) (subst (are_short n (func_imports p)) (sym seen) entries_short);
          around = subst (λ (z : ModuleValue). IsAround (module_of z) q) (sym is) around;
          held = λ old new empty put.
              subst (HoldsEntries new) (ap (λ k. entries_with n k (map func_of fs)) ef ∙ ap (entries_with n (func_imports p)) seen ∙ entries_are) (put [] empty);
        }

  module _ (free : reserved_at m ≡ None) where
    pub rewrites : RewritesWithAsserts m s q
    rewrites = rewrites_law m s which q can (unreserved_is_free m free) emitted

    -- a module that isn't written
    pub text_fault : (fault : EncodeFault) → IsUnwritten q fault → EmitsWithAsserts m s (Err (of_encode fault))
    text_fault Memory h = tt
    text_fault (TooLong len) h = record {
      which = which;
      can = record { tells = a.tells; few = a.few };
      written = q;
      emitted = emitted;
      rewrites = rewrites;
      is = h.0;
      over = h.1;
    }

-- ---- in the call's own values

-- what tells which callees have a number
abbrev pub numbers_by : Instrumented → SettingsValue → (state : ℕ) → Numbers
numbers_by r x state = record { which = r.instrumented; listed = r.listed; ignore_indirect = x.ignore_indirect; state = state }

-- `z` is the module of `v` at hand, and `w` the rewritten one.
pub emitting : (v z w : ModuleValue) (x : SettingsValue) (r : Instrumented) (all own state : ℕ) (fs : List FuncValue) → StrictSizeRule (module_of v) → IsInstrumented (module_of v) (settings_of x) r
    → length (module_of v).funcs ≤ 100000 → length (Enc (module_of v)) ≤ 2 ^ 36 → z ≡ v → all ≡ vec_len r.instrumented → own ≡ vec_len z.funcs → state ≡ global_space (module_of z)
    → w ≡ r.«module» → fs ≡ w.funcs.items
    → EmitsAround (module_with_asserts (module_of v) (settings_of x) r.instrumented.items (module_of r.«module»)) (numbers_by r x state) w (all - own) fs
emitting v z w x r all own state fs strict a few short same ea eo es is efs =
    emitted_around (module_of v) (settings_of x) r strict a few short (numbers_by r x state) refl a.listed refl (es ∙ ap (λ (y : ModuleValue). global_space (module_of y)) same)
    w (all - own) fs is (first_from (module_of v) (settings_of x) r strict a few short all own ea (own_count v z own same eo)) efs
