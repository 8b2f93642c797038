-- Code has its types among more locals, and in the module with the runtime's parts; so have statements.
use Rattle.std.proofs.Common.{◌≡◌, ◌∙◌, ℕ, ◌+◌, ◌<◌, List, [], ◌∷◌, ◌++◌, length, map, Option, Some, None, refl, sym, ap, subst, arith}
use Rattle.std.specs.Prelude.{slice_get}
use Rattle.std.specs.Option.{option_map}
use Rattle.std.proofs.lemmas.List.{append_assoc, map-append, length-map}
use Rattle.std.proofs.lemmas.Option.{slice_get-map, slice_get_within}
use Rattle.wa_types.specs.declared.syntax.Export.{Export}
use Rattle.wa_types.specs.declared.values.ValType.{ValType}
use Rattle.wa_types.specs.declared.values.ValType.TheVariants.{I32}
use Rattle.wa_types.specs.Base.{Base}
use Rattle.wa_types.specs.Modules.{imported, imported_global, global_type, func_sorts, func_types, type_at, all_globals, declared_locals, around}
use Rattle.wa_types.specs.Runtime.{func_space, global_space, runtime_types, runtime_globals, runtime_funcs, runtime_exports, with_runtime}
use Rattle.wa_types.specs.Syntax.{Plain, local_get, local_set, local_tee, Code, done, plain, nest, branch, br, br_if, br_table, FuncType, Func, Module}
use Rattle.wa_types.specs.Typing.{Around, Sig, listed, gets, sets, tees, sig, Takes, label, Types}
use Rattle.wa_types.specs.Validity.{Valid}
use Rattle.run_theory.specs.Flat.{Stmts, no_more, computes, copies, calls, leaps, leaps_if, leaps_by, nests, decides, halts, followed_by, got, all_got, set_to, slots_got, last_of}
use Rattle.run_theory.specs.FlatTyped.{StmtsTyped}
use Rattle.run_theory.specs.Growth.{grown_module}
use Rattle.run_theory.proofs.BaseValid.{base_valid, base_wider}
use Rattle.run_theory.proofs.GrownSteps.{ModuleNamed, front, sort_stays, type_stays}
use Rattle.run_theory.proofs.NamedModules.{valid_named}
use Rattle.run_theory.proofs.RuntimeValid.{behind}
use Rattle.run_theory.proofs.WiderTyping.{Wider, types_wider, state_type}

-- ---- more locals

module _ (c : Around) (extra : List ValType) where
  abbrev pub longer : Around
  longer = record { types = c.types; funcs = c.funcs; table = c.table; memory = c.memory; globals = c.globals; locals = c.locals ++ extra; result = c.result }

  pub found_longer : (x : ℕ) (t : ValType) → slice_get c.locals x ≡ Some t → slice_get (c.locals ++ extra) x ≡ Some t
  found_longer x t e = front c.locals extra x (slice_get_within c.locals x t e) ∙ e

  module _ (sort : Option ValType → Sig) (none : (ins outs : List ValType) → Takes (sort None) ins outs → ⊥) where
    local_longer : (x : ℕ) (o : Option ValType) (ins outs : List ValType) → slice_get c.locals x ≡ o → Takes (sort o) ins outs → Takes (sort (slice_get (c.locals ++ extra) x)) ins outs
    local_longer x None ins outs e h = absurd (none ins outs h)
    local_longer x (Some t) ins outs e h = subst (λ o. Takes (sort o) ins outs) (sym (found_longer x t e)) h

  takes_longer : (ls : List (Option ValType)) (p : Plain) (ins outs : List ValType) → Takes (sig c ls p) ins outs → Takes (sig longer ls p) ins outs
  takes_longer ls (local_get x) ins outs h = local_longer gets (λ i o k. k) x (slice_get c.locals x) ins outs refl h
  takes_longer ls (local_set x) ins outs h = local_longer sets (λ i o k. k) x (slice_get c.locals x) ins outs refl h
  takes_longer ls (local_tee x) ins outs h = local_longer tees (λ i o k. k) x (slice_get c.locals x) ins outs refl h
  takes_longer ls _ ins outs h = h

  pub types_longer : (ls : List (Option ValType)) (code : Code) (outs ins : List ValType) → Types c ls code outs ins → Types longer ls code outs ins
  unfolding Types
  types_longer ls done outs ins h = h
  types_longer ls (plain p rest) outs ins h = (h.0, takes_longer ls p ins h.0 h.1, types_longer ls rest outs h.0 h.2)
  types_longer ls (nest s r body rest) outs ins h = (types_longer (label s r ∷ ls) body (listed r) [] h.0, types_longer ls rest outs (listed r ++ ins) h.1)
  types_longer ls (branch r a b rest) outs ins h =
      (h.0, h.1, types_longer (r ∷ ls) a (listed r) [] h.2, types_longer (r ∷ ls) b (listed r) [] h.3, types_longer ls rest outs (listed r ++ h.0) h.4)

-- ---- the runtime's parts behind

module _ (m : Module) (v : Valid m) where
  abbrev fs : List Func
  fs = runtime_funcs (length m.types) (global_space m) (global_space m + 1)

  abbrev es : List Export
  es = runtime_exports (func_space m)

  abbrev p : Module
  p = grown_module m runtime_types fs runtime_globals es

  named : ModuleNamed m
  named = valid_named m v

  type_there : (x : ℕ) → x < func_space m → slice_get (func_types p) x ≡ slice_get (func_types m) x
  type_there x h =
      slice_get-map (type_at p) (func_sorts p) x
      ∙ ap (option_map (type_at p)) (sort_stays m runtime_types fs runtime_globals es x h)
      ∙ by_sort (slice_get (func_sorts m) x) refl
      ∙ sym (slice_get-map (type_at m) (func_sorts m) x)
    where
      by_sort : (o : Option ℕ) → slice_get (func_sorts m) x ≡ o → option_map (type_at p) o ≡ option_map (type_at m) o
      by_sort None e = refl
      by_sort (Some sort) e = ap Some (type_stays m runtime_types fs runtime_globals es sort (named.sorts x sort e))

  globals_are : all_globals p ≡ all_globals m ++ map global_type runtime_globals
  globals_are =
      ap (λ gs. imported imported_global m ++ gs) (map-append global_type m.globals runtime_globals)
      ∙ sym (append_assoc (imported imported_global m) (map global_type m.globals) (map global_type runtime_globals))

  global_there : (x : ℕ) → x < global_space m → slice_get (all_globals p) x ≡ slice_get (all_globals m) x
  global_there x h = ap (λ gs. slice_get gs x) globals_are ∙ front (all_globals m) (map global_type runtime_globals) x h

  grown_wider : (f : Func) → f.sort < length m.types → Wider (around m f) (around p f)
  grown_wider f h =
      let same : type_at p f.sort ≡ type_at m f.sort = type_stays m runtime_types fs runtime_globals es f.sort h in
      record {
        types = λ x t e. front m.types runtime_types x (slice_get_within m.types x t e) ∙ e;
        funcs = λ x t e. let l = slice_get_within (func_types m) x t e in let c = length-map (func_sorts m) (type_at m) in type_there x (omega arith) ∙ e;
        globals = λ x g e. global_there x (slice_get_within (all_globals m) x g e) ∙ e;
        table = refl;
        memory = λ e. e;
        locals = ap (λ (t : FuncType). t.params ++ declared_locals f.locals) same;
        result = ap (λ (t : FuncType). slice_get t.results 0) same;
      }

  -- the state stands behind the module's globals, and the address behind it
  state_in : slice_get (all_globals p) (global_space m) ≡ Some state_type
  state_in = ap (λ gs. slice_get gs (global_space m)) globals_are ∙ behind (all_globals m) (map global_type runtime_globals) (global_space m) 0 (omega arith)

  address_in : slice_get (all_globals p) (global_space m + 1) ≡ Some state_type
  address_in = ap (λ gs. slice_get gs (global_space m + 1)) globals_are ∙ behind (all_globals m) (map global_type runtime_globals) (global_space m + 1) 1 (omega arith)

module _ (m : Module) (v : Valid m) where
  pub state_there : slice_get (all_globals (with_runtime m)) (global_space m) ≡ Some state_type
  unfolding Base with_runtime
  state_there = state_in (Base m) (base_valid m v)

  pub address_there : slice_get (all_globals (with_runtime m)) (global_space m + 1) ≡ Some state_type
  unfolding Base with_runtime
  address_there = address_in (Base m) (base_valid m v)

  pub types_with_runtime : (f : Func) → f.sort < length m.types → (ls : List (Option ValType)) (code : Code) (outs ins : List ValType) → Types (around m f) ls code outs ins
      → Types (around (with_runtime m) f) ls code outs ins
  unfolding Base with_runtime
  types_with_runtime f lt ls code outs ins h =
      types_wider (around (Base m) f) (around (with_runtime m) f) (grown_wider (Base m) (base_valid m v) f lt) ls code outs ins
      (types_wider (around m f) (around (Base m) f) (base_wider m f) ls code outs ins h)

  pub same_result : (f : Func) → f.sort < length m.types → (around (with_runtime m) f).result ≡ (around m f).result
  unfolding Base with_runtime
  same_result f lt = (grown_wider (Base m) (base_valid m v) f lt).result

  pub same_locals : (f : Func) → f.sort < length m.types → (around (with_runtime m) f).locals ≡ (around m f).locals
  unfolding Base with_runtime
  same_locals f lt = (grown_wider (Base m) (base_valid m v) f lt).locals

-- ---- statements

-- what holds of code holds of statements
module _ (c d : Around) (wider : (ls : List (Option ValType)) (code : Code) (outs ins : List ValType) → Types c ls code outs ins → Types d ls code outs ins) where
  pub stmts_wider : (ls : List (Option ValType)) (s : Stmts) → StmtsTyped c ls s → StmtsTyped d ls s
  stmts_wider ls no_more h = h
  stmts_wider ls (computes op args to rest) h = (wider ls (all_got args (followed_by op (set_to to done))) [] [] h.0, stmts_wider ls rest h.1)
  stmts_wider ls (copies to from rest) h = (wider ls (got from (plain (local_set to) done)) [] [] h.0, stmts_wider ls rest h.1)
  stmts_wider ls (calls op stack args to rest) h = (wider ls (slots_got (last_of args stack) (followed_by op (set_to to done))) [] [] h.0, stmts_wider ls rest h.1)
  stmts_wider ls (leaps l rest) h = (wider ls (plain (br l) done) [] [] h.0, stmts_wider ls rest h.1)
  stmts_wider ls (leaps_if o l rest) h = (wider ls (got o (plain (br_if l) done)) [] [] h.0, stmts_wider ls rest h.1)
  stmts_wider ls (leaps_by o labels last rest) h = (wider ls (got o (plain (br_table labels last) done)) [] [] h.0, stmts_wider ls rest h.1)
  stmts_wider ls (nests s body rest) h = (stmts_wider (None ∷ ls) body h.0, stmts_wider ls rest h.1)
  stmts_wider ls (decides o a b rest) h = (wider ls (got o done) (I32 ∷ []) [] h.0, stmts_wider (None ∷ ls) a h.1, stmts_wider (None ∷ ls) b h.2, stmts_wider ls rest h.3)
  stmts_wider ls (halts rest) h = stmts_wider ls rest h
