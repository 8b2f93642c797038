-- The module that has got its parts, list by list.
use Rattle.std.proofs.Common.{◌≡◌, ℕ, ◌++◌, List, refl, ◌∙◌, ap, length}
use Rattle.wa_types.specs.declared.syntax.Limits.{Limits}
use Rattle.wa_types.specs.declared.syntax.Export.{Export}
use Rattle.local_spill.specs.declared.RuntimeIds.{RuntimeIds}
use Rattle.wa_types.specs.Syntax.{FuncType, Func, GlobalDef, Module}
use Rattle.wa_types.specs.Modules.{all_memories}
use Rattle.wa_types.specs.Runtime.{with_runtime, runtime_types, runtime_funcs, runtime_globals, runtime_exports}
use Rattle.wa_types.specs.Base.{added_memories}
use Rattle.local_spill.specs.Ids.{ids_behind}

pub grown : (m : Module) (types : List FuncType) (funcs : List Func) (memories : List Limits) (globals : List GlobalDef) (exports : List Export) (ids : RuntimeIds) (first_type : ℕ) →
    ids ≡ ids_behind m → first_type ≡ length m.types
    → types ≡ m.types ++ runtime_types
    → funcs ≡ m.funcs ++ runtime_funcs first_type ids.state ids.address
    → memories ≡ m.memories ++ added_memories (all_memories m)
    → globals ≡ m.globals ++ runtime_globals
    → exports ≡ m.exports ++ runtime_exports ids.first
    → (let new : Module = record {
      types = types;
      imports = m.imports;
      funcs = funcs;
      tables = m.tables;
      memories = memories;
      globals = globals;
      exports = exports;
      start = m.start;
      elems =
          m.elems;
      segments = m.segments;
      customs = m.customs;
    } in new) ≡ with_runtime m
unfolding with_runtime
grown m types funcs memories globals exports ids first_type i f a b c d e =
    let here : funcs ≡ m.funcs ++ runtime_funcs (length m.types) (ids_behind m).state (ids_behind m).address = b ∙ ap (λ (n : ℕ). m.funcs ++ runtime_funcs n ids.state ids.address) f
    ∙ ap (λ (n : RuntimeIds). m.funcs ++ runtime_funcs (length m.types) n.state n.address) i in
    let there : exports ≡ m.exports ++ runtime_exports (ids_behind m).first = e ∙ ap (λ (n : RuntimeIds). m.exports ++ runtime_exports n.first) i in
    rw (a, here, c, d, there) refl
