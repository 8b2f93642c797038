use Rattle.std.proofs.Common.{[], ◌∷◌, ◌++◌, refl, ap, sym}
use Rattle.wa_types.specs.View.{func_type_of, global_of, elem_of, segment_of}
use Rattle.wasm_build.specs.declared.sections.Entries.TheVariants.{Types, Imports, Functions, Tables, Memories, Globals, Exports, Elements, Segments}
use Rattle.wasm_build.specs.BuildsModule.{state_of}
use Rattle.wasm_build.proofs.Betweens.{map_same}
use Rattle.wasm_build.proofs.SectionArms.{entry_put, kept_all, kept_same, put_all}
use Rattle.wasm_build.proofs.sections.Sections.entry.Goals as goal

pub returns-in-Types-clause-built : goal.returns-in-Types-clause-built
returns-in-Types-clause-built c = entry_put Types func_type_of _ _ (state_of c.args.self.now) _ c.in-Types.is c.put.ensures.built refl (λ x. refl)

pub returns-in-Types-clause-kept : goal.returns-in-Types-clause-kept
returns-in-Types-clause-kept c =
    kept_all Types func_type_of (state_of c.args.self.now) c.args.self.now.module.types.items c.put.new.items.items c.put.result c.put.ensures.kept

pub returns-in-Imports-clause-built : goal.returns-in-Imports-clause-built
returns-in-Imports-clause-built c =
    entry_put Imports (λ x. x) _ _ (state_of c.args.self.now) _ c.in-Imports.is c.put-in-Imports.ensures.built (ap (put_all Imports (state_of c.args.self.now)) (sym (map_same _)))
    (λ x. ap (λ z. put_all Imports (state_of c.args.self.now) (z ++ x ∷ [])) (sym (map_same _)))

pub returns-in-Imports-clause-kept : goal.returns-in-Imports-clause-kept
returns-in-Imports-clause-kept c =
    kept_same Imports (state_of c.args.self.now) c.args.self.now.module.imports.items c.put-in-Imports.new.items.items c.put-in-Imports.result c.put-in-Imports.ensures.kept

pub returns-in-Functions-clause-built : goal.returns-in-Functions-clause-built
returns-in-Functions-clause-built c =
    entry_put Functions (λ x. x) _ _ (state_of c.args.self.now) _ c.in-Functions.is c.put-in-Functions.ensures.built (ap (put_all Functions (state_of c.args.self.now)) (sym (map_same _)))
    (λ x. ap (λ z. put_all Functions (state_of c.args.self.now) (z ++ x ∷ [])) (sym (map_same _)))

pub returns-in-Functions-clause-kept : goal.returns-in-Functions-clause-kept
returns-in-Functions-clause-kept c =
    kept_same Functions (state_of c.args.self.now) c.args.self.now.sorts.items c.put-in-Functions.new.items.items c.put-in-Functions.result c.put-in-Functions.ensures.kept

pub returns-in-Tables-clause-built : goal.returns-in-Tables-clause-built
returns-in-Tables-clause-built c =
    entry_put Tables (λ x. x) _ _ (state_of c.args.self.now) _ c.in-Tables.is c.put-in-Tables.ensures.built (ap (put_all Tables (state_of c.args.self.now)) (sym (map_same _)))
    (λ x. ap (λ z. put_all Tables (state_of c.args.self.now) (z ++ x ∷ [])) (sym (map_same _)))

pub returns-in-Tables-clause-kept : goal.returns-in-Tables-clause-kept
returns-in-Tables-clause-kept c =
    kept_same Tables (state_of c.args.self.now) c.args.self.now.module.tables.items c.put-in-Tables.new.items.items c.put-in-Tables.result c.put-in-Tables.ensures.kept

pub returns-in-Memories-clause-built : goal.returns-in-Memories-clause-built
returns-in-Memories-clause-built c =
    entry_put Memories (λ x. x) _ _ (state_of c.args.self.now) _ c.in-Memories.is c.put-in-Memories.ensures.built (ap (put_all Memories (state_of c.args.self.now)) (sym (map_same _)))
    (λ x. ap (λ z. put_all Memories (state_of c.args.self.now) (z ++ x ∷ [])) (sym (map_same _)))

pub returns-in-Memories-clause-kept : goal.returns-in-Memories-clause-kept
returns-in-Memories-clause-kept c =
    kept_same Memories (state_of c.args.self.now) c.args.self.now.module.memories.items c.put-in-Memories.new.items.items c.put-in-Memories.result c.put-in-Memories.ensures.kept

pub returns-in-Globals-clause-built : goal.returns-in-Globals-clause-built
returns-in-Globals-clause-built c = entry_put Globals global_of _ _ (state_of c.args.self.now) _ c.in-Globals.is c.put-in-Globals.ensures.built refl (λ x. refl)

pub returns-in-Globals-clause-kept : goal.returns-in-Globals-clause-kept
returns-in-Globals-clause-kept c =
    kept_all Globals global_of (state_of c.args.self.now) c.args.self.now.module.globals.items c.put-in-Globals.new.items.items c.put-in-Globals.result c.put-in-Globals.ensures.kept

pub returns-in-Exports-clause-built : goal.returns-in-Exports-clause-built
returns-in-Exports-clause-built c =
    entry_put Exports (λ x. x) _ _ (state_of c.args.self.now) _ c.in-Exports.is c.put-in-Exports.ensures.built (ap (put_all Exports (state_of c.args.self.now)) (sym (map_same _)))
    (λ x. ap (λ z. put_all Exports (state_of c.args.self.now) (z ++ x ∷ [])) (sym (map_same _)))

pub returns-in-Exports-clause-kept : goal.returns-in-Exports-clause-kept
returns-in-Exports-clause-kept c =
    kept_same Exports (state_of c.args.self.now) c.args.self.now.module.exports.items c.put-in-Exports.new.items.items c.put-in-Exports.result c.put-in-Exports.ensures.kept

pub returns-in-Elements-clause-built : goal.returns-in-Elements-clause-built
returns-in-Elements-clause-built c = entry_put Elements elem_of _ _ (state_of c.args.self.now) _ c.in-Elements.is c.put-in-Elements.ensures.built refl (λ x. refl)

pub returns-in-Elements-clause-kept : goal.returns-in-Elements-clause-kept
returns-in-Elements-clause-kept c =
    kept_all Elements elem_of (state_of c.args.self.now) c.args.self.now.module.elems.items c.put-in-Elements.new.items.items c.put-in-Elements.result c.put-in-Elements.ensures.kept

pub returns-in-Segments-clause-built : goal.returns-in-Segments-clause-built
returns-in-Segments-clause-built c = entry_put Segments segment_of _ _ (state_of c.args.self.now) _ c.in-Segments.is c.put-in-Segments.ensures.built refl (λ x. refl)

pub returns-in-Segments-clause-kept : goal.returns-in-Segments-clause-kept
returns-in-Segments-clause-kept c =
    kept_all Segments segment_of (state_of c.args.self.now) c.args.self.now.module.segments.items c.put-in-Segments.new.items.items c.put-in-Segments.result c.put-in-Segments.ensures.kept
