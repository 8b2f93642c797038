use Rattle.std.proofs.Common.{ap, sym, ◌∙◌, ◌^◌, ◌&&◌}
use Rattle.std.specs.List.{filter_map, list_all}
use Rattle.wa_types.specs.declared.syntax.Import.{Import}
use Rattle.wa_types.specs.Modules.{imported_memory, imported_table}
use Rattle.wa_types.specs.Validity.{limits_fit}
use Rattle.wasm_validate.proofs.OutsideLemmas.{first_parts}
use Rattle.wasm_validate.proofs.outside.all_limits_fit.Goals as goal

pub returns-then-not-imports_fit : goal.returns-then-not-imports_fit
returns-then-not-imports_fit c =
    ap (λ b. b && (list_all (limits_fit (2 ^ 32)) c.args.tables.now && list_all (limits_fit 65536) c.args.memories.now)) c.if-not-imports_fit.ensures
    ∙ sym (first_parts (limits_fit (2 ^ 32)) (limits_fit 65536) (filter_map (λ (i : Import). imported_table i.kind) c.args.imports.now) c.args.tables.now
    (filter_map (λ (i : Import). imported_memory i.kind) c.args.imports.now) c.args.memories.now)

pub returns-then-not-all_fit : goal.returns-then-not-all_fit
returns-then-not-all_fit c =
    ap (λ b. b && list_all (limits_fit 65536) c.args.memories.now) c.if-not-all_fit.ensures
    ∙ ap (λ b. b && (list_all (limits_fit (2 ^ 32)) c.args.tables.now && list_all (limits_fit 65536) c.args.memories.now)) c.if-not-imports_fit.ensures
    ∙ sym (first_parts (limits_fit (2 ^ 32)) (limits_fit 65536) (filter_map (λ (i : Import). imported_table i.kind) c.args.imports.now) c.args.tables.now
    (filter_map (λ (i : Import). imported_memory i.kind) c.args.imports.now) c.args.memories.now)

pub returns : goal.returns
returns c =
    c.all_fit-2.ensures ∙ ap (λ b. b && list_all (limits_fit 65536) c.args.memories.now) c.if-not-all_fit.ensures
    ∙ ap (λ b. b && (list_all (limits_fit (2 ^ 32)) c.args.tables.now && list_all (limits_fit 65536) c.args.memories.now)) c.if-not-imports_fit.ensures
    ∙ sym (first_parts (limits_fit (2 ^ 32)) (limits_fit 65536) (filter_map (λ (i : Import). imported_table i.kind) c.args.imports.now) c.args.tables.now
    (filter_map (λ (i : Import). imported_memory i.kind) c.args.imports.now) c.args.memories.now)
