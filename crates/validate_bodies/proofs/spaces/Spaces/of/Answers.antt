use Rattle.std.proofs.Common.{arith, rules, sym, ◌≡◌, length, ◌∙◌, map}
use Rattle.std.specs.List.{filter_map}
use Rattle.std.proofs.lemmas.List.{length-map}
use Rattle.wa_types.specs.declared.syntax.Import.{Import}
use Rattle.wa_types.specs.Modules.{imported_func, imported_table, imported_memory, imported_global, global_type}
use Rattle.wa_types.specs.Syntax.{Func}
use Rattle.wa_types.specs.View.{module_of, func_of, global_of}
use Rattle.validate_bodies.specs.Spaces.{global_type_of}
use Rattle.validate_bodies.proofs.SpaceLemmas.{front_length, both_length, each_total, few_locals}
use Rattle.validate_bodies.proofs.spaces.Spaces.of.Goals as goal

pub overflow_add-tables : goal.overflow_add-tables
overflow_add-tables c = omega (arith, c.imported_tables.ensures.few, c.requires.imports, c.requires.tables)

pub overflow_add-memories : goal.overflow_add-memories
overflow_add-memories c = omega (arith, c.imported_memories.ensures.few, c.requires.imports, c.requires.memories)

pub all_ends-requires : goal.all_ends-requires
all_ends-requires c = rw c.deref-7.ensures.value (each_total c.args.module.now.funcs.items (few_locals (module_of c.args.module.now) c.requires))

pub returns : goal.returns
returns c = record {
  sorts = rw (c.deref.ensures.value, c.deref-2.ensures.value) at c.in_ok-sorts.ensures;
  func_imports = front_length c.in_ok-sorts.sorts.items (filter_map (λ (i : Import). imported_func i.kind) c.args.module.now.imports.items)
      (map (λ (f : Func). f.sort) (map func_of c.args.module.now.funcs.items)) c.len.result c.len-2.result (rw (c.deref.ensures.value, c.deref-2.ensures.value) at c.in_ok-sorts.ensures)
      (search rules) (let n : c.len-2.result ≡ length c.args.module.now.funcs.items = search rules in n
      ∙ sym (length-map (map func_of c.args.module.now.funcs.items) (λ (f : Func). f.sort) ∙ length-map c.args.module.now.funcs.items func_of));
  globals = rw (c.deref-3.ensures.value, c.deref-4.ensures.value) at c.in_ok-globals.ensures;
  global_imports = front_length (map global_type_of c.in_ok-globals.globals.items) (filter_map (λ (i : Import). imported_global i.kind) c.args.module.now.imports.items)
      (map global_type (map global_of c.args.module.now.globals.items)) c.len-3.result c.len-4.result (rw (c.deref-3.ensures.value, c.deref-4.ensures.value) at c.in_ok-globals.ensures)
      (let n : c.len-3.result ≡ length c.in_ok-globals.globals.items = search rules in n ∙ sym (length-map c.in_ok-globals.globals.items global_type_of))
      (let n : c.len-4.result ≡ length c.args.module.now.globals.items = search rules in n
      ∙ sym (length-map (map global_of c.args.module.now.globals.items) global_type ∙ length-map c.args.module.now.globals.items global_of));
  tables = both_length (filter_map (λ (i : Import). imported_table i.kind) c.args.module.now.imports.items) c.args.module.now.tables.items c.imported_tables.result c.len-5.result
      (rw c.deref-5.ensures.value at c.imported_tables.ensures.counted) (search rules);
  memories = both_length (filter_map (λ (i : Import). imported_memory i.kind) c.args.module.now.imports.items) c.args.module.now.memories.items c.imported_memories.result c.len-6.result
      (rw c.deref-6.ensures.value at c.imported_memories.ensures.counted) (search rules);
  ends = rw c.deref-7.ensures.value at c.in_ok-ends.ensures;
}
