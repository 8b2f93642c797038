-- Functions that are emitted with asserts one by one are those of a module that is.
use Rattle.std.proofs.Common.{◌≡◌, ◌∙◌, ℕ, suc, ◌+◌, List, [], ◌∷◌, ◌++◌, length, Bool, refl, sym, ap, arith}
use Rattle.wa_types.specs.Modules.{all_memories, func_imports, imported, imported_func}
use Rattle.wa_types.specs.Pausing.{Settings}
use Rattle.wa_types.specs.Base.{added_memories}
use Rattle.wa_types.specs.Runtime.{func_space, global_space, runtime_exports, runtime_funcs, runtime_globals, runtime_types, with_runtime}
use Rattle.wa_types.specs.Syntax.{Func, Module}
use Rattle.emitted_form.specs.EmittedAs.{AreEmitted}
use Rattle.emitted_form.proofs.PolicyCases as Policies
use Rattle.assert_laws.specs.EmittedWithAsserts.{AreEmittedWithAsserts, FunctionsHaveAsserts, func_with_asserts, funcs_with_asserts, module_with_asserts}
use Rattle.assert_laws.proofs.ModuleWithAsserts.{runtime_stays, sorts_from}

module _ (m : Module) (s : Settings) (which : List Bool) where
  -- what they are without asserts
  abbrev without : (x : ℕ) (fs hs : List Func) → AreEmittedWithAsserts m s which x fs hs → List Func
  without x [] [] e = []
  without x [] (h ∷ hs) e = []
  without x (f ∷ fs) [] e = []
  without x (f ∷ fs) (h ∷ hs) e = (e.0).without ∷ without (suc x) fs hs e.1

  are_emitted : (x : ℕ) (fs hs : List Func) (e : AreEmittedWithAsserts m s which x fs hs) → AreEmitted m s which x fs (without x fs hs e)
  are_emitted x [] [] e = tt
  are_emitted x [] (h ∷ hs) e = absurd e
  are_emitted x (f ∷ fs) [] e = absurd e
  are_emitted x (f ∷ fs) (h ∷ hs) e = ((e.0).emitted, are_emitted (suc x) fs hs e.1)

  have_tests : (x : ℕ) (fs hs : List Func) (e : AreEmittedWithAsserts m s which x fs hs) → hs ≡ funcs_with_asserts m s which x (without x fs hs e)
  have_tests x [] [] e = refl
  have_tests x [] (h ∷ hs) e = absurd e
  have_tests x (f ∷ fs) [] e = absurd e
  have_tests x (f ∷ fs) (h ∷ hs) e =
      ap (λ k. k ∷ hs) (e.0).is ∙ ap (λ ks. func_with_asserts m s which x (e.0).without ∷ ks) (have_tests (suc x) fs hs e.1)

  both : (x : ℕ) (gs rs : List Func) → funcs_with_asserts m s which x (gs ++ rs) ≡ funcs_with_asserts m s which x gs ++ funcs_with_asserts m s which (x + length gs) rs
  both x [] rs = let z : x ≡ x + 0 = omega arith in ap (λ j. funcs_with_asserts m s which j rs) z
  both x (g ∷ gs) rs =
      let z : suc x + length gs ≡ x + suc (length gs) = omega arith in
      ap (λ ks. func_with_asserts m s which x g ∷ ks)
      (both (suc x) gs rs ∙ ap (λ j. funcs_with_asserts m s which (suc x) gs ++ funcs_with_asserts m s which j rs) z)

  abbrev behind : List Func
  behind = runtime_funcs (length m.types) (global_space m) (global_space m + 1)

  -- the original with these functions and the runtime's parts, whose exports begin at this index
  abbrev built : List Func → ℕ → Module
  built fs n = record {
    types = m.types ++ runtime_types;
    imports = m.imports;
    funcs = fs;
    tables = m.tables;
    memories = m.memories ++ added_memories (all_memories m);
    globals = m.globals ++ runtime_globals;
    exports = m.exports ++ runtime_exports n;
    start = m.start;
    elems = m.elems;
    segments = m.segments;
    customs = m.customs;
  }

  spaces_same : (gs : List Func) → func_space (record m { funcs = funcs_with_asserts m s which (func_imports m) gs }) ≡ func_space (record m { funcs = gs })
  spaces_same gs = ap (λ ks. length (imported imported_func m ++ ks)) (sorts_from m s which (func_imports m) gs)

  pub built_same : (gs : List Func) → with_runtime (record m { funcs = funcs_with_asserts m s which (func_imports m) gs }) ≡ module_with_asserts m s which (with_runtime (record m { funcs = gs }))
  unfolding with_runtime
  built_same gs =
      ap (built (funcs_with_asserts m s which (func_imports m) gs ++ behind)) (spaces_same gs)
      ∙ ap (λ rs. built (funcs_with_asserts m s which (func_imports m) gs ++ rs) (func_space (record m { funcs = gs })))
      (sym (runtime_stays m s which (func_imports m + length gs) (length m.types) (global_space m) (global_space m + 1)))
      ∙ ap (λ fs. built fs (func_space (record m { funcs = gs }))) (sym (both (func_imports m) gs behind))

pub functions_law : FunctionsHaveAsserts
functions_law m s which hs e =
    record {
      without = with_runtime (record m { funcs = without m s which (func_imports m) m.funcs hs e });
      emitted = Policies.functions_law m s which (without m s which (func_imports m) m.funcs hs e) (are_emitted m s which (func_imports m) m.funcs hs e);
      is = ap (λ fs. with_runtime (record m { funcs = fs })) (have_tests m s which (func_imports m) m.funcs hs e)
          ∙ built_same m s which (without m s which (func_imports m) m.funcs hs e);
    }
