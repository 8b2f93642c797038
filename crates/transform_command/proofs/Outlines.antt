-- Modules that are one original, rewritten, differ in the locals and the code of their functions and in custom sections alone.
use Rattle.std.proofs.Common.{◌≡◌, ◌∙◌, ℕ, suc, ◌+◌, List, [], ◌∷◌, ◌++◌, length, drop, map, Option, Some, None, Bool, true, false, refl, sym, ap}
use Rattle.std.specs.Prelude.{slice_get}
use Rattle.std.proofs.Math.Seq.{drop-append_seam}
use Rattle.wa_types.specs.declared.syntax.Export.{Export}
use Rattle.wa_types.specs.declared.syntax.Import.{Import}
use Rattle.wa_types.specs.declared.syntax.Limits.{Limits}
use Rattle.wa_types.specs.Modules.{func_imports}
use Rattle.wa_types.specs.Pausing.{Settings, TellsMayPause}
use Rattle.wa_types.specs.Runtime.{global_space, runtime_funcs, with_runtime}
use Rattle.wa_types.specs.Syntax.{done, Elem, Func, FuncType, GlobalDef, Module, Segment}
use Rattle.wa_model.specs.Rewrites.{RewritesButRuns, SameFunc}

-- a function without locals and code
abbrev pub bare : Func → Func
bare f = record f { locals = []; body = done }

-- a module without those of its functions, and without custom sections
abbrev pub outline : Module → Module
outline m = record m { funcs = map bare m.funcs; customs = [] }

-- functions of these sorts with others behind them
sorts_alike : (fs gs rest : List Func) (r : Func) → ((i : ℕ) (f g : Func) → slice_get fs i ≡ Some f → slice_get gs i ≡ Some g → g.sort ≡ f.sort) → drop (length fs) gs ≡ r ∷ rest
    → map bare gs ≡ map bare (fs ++ r ∷ rest)
sorts_alike [] gs rest r same behind = ap (map bare) behind
sorts_alike (f ∷ fs) [] rest r same behind = cc
sorts_alike (f ∷ fs) (g ∷ gs) rest r same behind =
    ap (λ n. record { sort = n; locals = []; body = done } ∷ map bare gs) (same 0 f g refl refl)
    ∙ ap (λ hs. bare f ∷ hs) (sorts_alike fs gs rest r (λ i. same (suc i)) behind)

module _ (m : Module) (s : Settings) (p : Module) (rw : RewritesButRuns SameFunc m s p) (which : List Bool) (tells : TellsMayPause m s which) where
  same_sort : (i : ℕ) (f g : Func) → slice_get m.funcs i ≡ Some f → slice_get p.funcs i ≡ Some g → g.sort ≡ f.sort
  same_sort i f g fe ge = by (slice_get which (func_imports m + i)) refl
    where
      by : (o : Option Bool) → slice_get which (func_imports m + i) ≡ o → g.sort ≡ f.sort
      by (Some true) e = (rw.rewritten i f g which fe ge tells ((tells.each (func_imports m + i)).0 e)).sort
      by (Some false) e = (rw.unchanged i f g fe ge (λ may. let z : ◌≡◌ {A = Option Bool} (Some false) (Some true) = sym e ∙ (tells.each (func_imports m + i)).1 may in cc)).sort
      by None e = (rw.unchanged i f g fe ge (λ may. let z : ◌≡◌ {A = Option Bool} None (Some true) = sym e ∙ (tells.each (func_imports m + i)).1 may in cc)).sort

  same_funcs : map bare p.funcs ≡ map bare (with_runtime m).funcs
  unfolding with_runtime
  same_funcs =
      let parts : List Func = runtime_funcs (length m.types) (global_space m) (global_space m + 1) in
      sorts_alike m.funcs p.funcs (drop 1 parts) _ same_sort (rw.runtime ∙ drop-append_seam m.funcs parts)

  -- the module of these parts
  abbrev made : List FuncType → List Limits → List GlobalDef → List Export → List Func → Module
  made types memories globals exports funcs = record m { types = types; memories = memories; globals = globals; exports = exports; funcs = funcs; customs = [] }

  -- what it was rewritten to has the outline of the module with the runtime's parts
  pub outlined : outline p ≡ outline (with_runtime m)
  unfolding with_runtime
  outlined =
      ap (λ (is : List Import). record (outline p) { imports = is }) rw.imports
      ∙ ap (λ (ts : List Limits). record (outline p) { imports = m.imports; tables = ts }) rw.tables
      ∙ ap (λ (st : Option ℕ). record (outline p) { imports = m.imports; tables = m.tables; start = st }) rw.start
      ∙ ap (λ (es : List Elem). record (outline p) { imports = m.imports; tables = m.tables; start = m.start; elems = es }) rw.elems
      ∙ ap (λ (ss : List Segment). record (outline p) { imports = m.imports; tables = m.tables; start = m.start; elems = m.elems; segments = ss }) rw.segments
      ∙ ap (λ ts. made ts p.memories p.globals p.exports (map bare p.funcs)) rw.types
      ∙ ap (λ ms. made (with_runtime m).types ms p.globals p.exports (map bare p.funcs)) rw.memories
      ∙ ap (λ gs. made (with_runtime m).types (with_runtime m).memories gs p.exports (map bare p.funcs)) rw.globals
      ∙ ap (λ es. made (with_runtime m).types (with_runtime m).memories (with_runtime m).globals es (map bare p.funcs)) rw.exports
      ∙ ap (made (with_runtime m).types (with_runtime m).memories (with_runtime m).globals (with_runtime m).exports) same_funcs
