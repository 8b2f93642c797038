-- A source keeps the size rule, reserves nothing, and is so short that what is written of it can be counted.
use Rattle.std.proofs.Common.{◌≡◌, None, drop, length, rules}
use Rattle.std.specs.Prelude.{count_by}
use Rattle.std.proofs.lemmas.List.{length-map}
use Rattle.wa_types.specs.Marks.{first_above}
use Rattle.wa_types.specs.Modules.{func_imports}
use Rattle.wa_types.specs.Syntax.{Module}
use Rattle.wa_types.specs.View.{module_of}
use Rattle.transform_command.specs.Manners.{manner_of}
use Rattle.transform_command.specs.Sources.{rewritten_counts}
use Rattle.module_files.proofs.Told.{told_fault, told_so}
use Rattle.transform_command.specs.SourceRefusals.{IsRefusedAs, IsRefusedUnwritten}
use Rattle.transform_command.proofs.Accepted.{strict, few_bytes, few_functions, none_passes, emit_refused, refused_as, well, written_so}
use Rattle.transform_command.proofs.source.rewrite.Goals as goal

pub emit-requires-clause-sizes : goal.emit-requires-clause-sizes
emit-requires-clause-sizes g c = let h = c.in-Ok.ensures.source in strict h.bytes (module_of c.in-Ok.valid) h.source

pub emit-requires-clause-free : goal.emit-requires-clause-free
emit-requires-clause-free g c = c.in-Ok.ensures.source.source.unreserved.free

pub emit-requires-clause-few : goal.emit-requires-clause-few
emit-requires-clause-few g c = let h = c.in-Ok.ensures.source in few_functions h.bytes (module_of c.in-Ok.valid) h.source

pub emit-requires-clause-short : goal.emit-requires-clause-short
emit-requires-clause-short g c = let h = c.in-Ok.ensures.source in few_bytes h.bytes (module_of c.in-Ok.valid) h.source

pub returns-in-Err-emit-clause-refused : goal.returns-in-Err-emit-clause-refused
returns-in-Err-emit-clause-refused g c =
    let h = c.in-Ok.ensures.source in
    told_fault (IsRefusedAs (manner_of c.args.settings.now)) (g.V.Vault.files c.args.vault.now) c.args.name.now h.bytes c.emit_fault.result h.holds
    (emit_refused (manner_of c.args.settings.now) h.bytes (module_of c.in-Ok.valid) c.in-Err-emit.fault c.emit_fault.result h.source c.in-Err-emit.ensures c.emit_fault.ensures)

pub returns-clause-done : goal.returns-clause-done
returns-clause-done g c =
    let h = c.in-Ok.ensures.source in
    let m : Module = module_of c.in-Ok.valid in
    let which = c.in-Ok-emit.emitted.instrumented.items in
    let how = manner_of c.args.settings.now in
    let e = written_so how h.bytes m c.in-Ok-emit.emitted h.source h.are_bytes c.in-Ok-emit.ensures in
    let few : first_above 50000 (rewritten_counts m which) ≡ None = none_passes m (drop (func_imports m) which) m.funcs e.can.few in
    let functions : c.len-functions.result ≡ length m.funcs = search (rules, length-map) in
    let count : c.told_count-instrumented.result ≡ count_by (λ b. b) which = rw c.deref.ensures.value at c.told_count-instrumented.ensures in (
      h.bytes,
      h.holds,
      (
        m,
        which,
        e.written,
        record { rewritable = record { accepted = h.source; tells = e.can.tells; few = few }; well_formed = well h.bytes m h.source h.are_bytes; rewrites = e.rewrites; short = e.short },
        functions,
        count,
        e.text,
        e.prepared,
        e.normed,
      ),
    )

pub returns-in-Err-clause-refused : goal.returns-in-Err-clause-refused
returns-in-Err-clause-refused g c =
    told_so (IsRefusedUnwritten (manner_of c.args.settings.now)) (IsRefusedAs (manner_of c.args.settings.now)) (g.V.Vault.files c.args.vault.now) c.args.name.now c.in-Err.fault
    (refused_as (manner_of c.args.settings.now)) (c.in-Err.ensures.refused (manner_of c.args.settings.now))
