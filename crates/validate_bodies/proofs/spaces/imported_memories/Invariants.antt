use Rattle.std.proofs.Common.{◌≡◌, ◌≤◌, take, length}
use Rattle.std.specs.List.{filter_map}
use Rattle.wa_types.specs.declared.syntax.Import.{Import}
use Rattle.wa_types.specs.Modules.{imported_memory}
use Rattle.validate_bodies.proofs.spaces.imported_memories.Given as goal

abbrev pub invariant-loop-import : goal.invariant-loop-import
invariant-loop-import l = record {
  counted : l.count ≡ length (filter_map (λ (i : Import). imported_memory i.kind) (take l.import-index l.imports));
  few : l.count ≤ l.import-index;
}
