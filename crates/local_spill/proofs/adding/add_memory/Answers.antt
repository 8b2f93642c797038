-- What is added, by what is there.
use Rattle.std.proofs.Common.{◌≡◌, ◌∙◌, sym, length, arith, ◌<◌}
use Rattle.std.proofs.lemmas.Grind.{common_steps}
use Rattle.wa_types.specs.declared.syntax.Import.{Import}
use Rattle.wa_types.specs.Modules.{imported_memory}
use Rattle.local_spill.proofs.Counts.{kept_defined, kept_imported, got_one}
use Rattle.local_spill.proofs.adding.add_memory.Goals as goal

pub returns-then-not-is_empty : goal.returns-then-not-is_empty
returns-then-not-is_empty c =
    let some : 0 < length c.args.memories.now.items = grind (arith, common_steps) in kept_defined _ c.args.memories.now.items some

pub returns-then-has_imported_memory : goal.returns-then-has_imported_memory
returns-then-has_imported_memory c =
    kept_imported (λ (i : Import). imported_memory i.kind) c.args.imports.now c.args.memories.now.items (sym c.has_imported_memory.ensures ∙ c.if-has_imported_memory.true)

pub returns : goal.returns
returns c =
    let none : length c.args.memories.now.items ≡ 0 = grind (arith, common_steps) in
    c.in_ok-push.ensures.items ∙ sym (got_one (λ (i : Import). imported_memory i.kind) c.args.imports.now c.args.memories.now.items (sym c.has_imported_memory.ensures
    ∙ c.if-has_imported_memory.false) none)
