-- A source keeps the size rule and reserves nothing; rewritten, it behaves like itself.
use Rattle.std.proofs.Common.{◌≡◌, None, drop}
use Rattle.wa_types.specs.Marks.{first_above}
use Rattle.wa_types.specs.Modules.{func_imports}
use Rattle.wa_types.specs.Syntax.{Module}
use Rattle.wa_types.specs.View.{module_of}
use Rattle.call_graph.specs.Settings.{settings_of}
use Rattle.transform_command.specs.Manners.{plainly}
use Rattle.transform_command.specs.Sources.{rewritten_counts}
use Rattle.transform_command.proofs.Accepted.{strict, none_passes, none_reserved, rewrite_refused, well}
use Rattle.transform_command.specs.SourceRefusals.{IsRefusedUnwritten}
use Rattle.module_files.proofs.Told.{told_fault}
use Rattle.transform_command.proofs.running.rewritten.Goals as goal

pub rewrite_module-requires : goal.rewrite_module-requires
rewrite_module-requires g c = let h = c.in-Ok.ensures.source in record { sizes = strict h.bytes (module_of c.in-Ok.valid) h.source }

pub rewrite_fault-requires : goal.rewrite_fault-requires
rewrite_fault-requires g c =
    let h = c.in-Ok.ensures.source in
    none_reserved (settings_of c.args.settings.now) h.bytes (module_of c.in-Ok.valid) c.in-Err-rewrite_module.fault h.source c.in-Err-rewrite_module.ensures

pub returns-clause-refused : goal.returns-clause-refused
returns-clause-refused g c =
    let h = c.in-Ok.ensures.source in
    told_fault (IsRefusedUnwritten (plainly (settings_of c.args.settings.now))) (g.V.Vault.files c.args.vault.now) c.args.name.now h.bytes c.rewrite_fault.result h.holds
    (rewrite_refused (settings_of c.args.settings.now) h.bytes (module_of c.in-Ok.valid) c.in-Err-rewrite_module.fault c.rewrite_fault.result h.source c.in-Err-rewrite_module.ensures
    c.rewrite_fault.ensures)

pub returns-in-Ok-rewrite_module-clause-done : goal.returns-in-Ok-rewrite_module-clause-done
returns-in-Ok-rewrite_module-clause-done g c =
    let h = c.in-Ok.ensures.source in
    let m : Module = module_of c.in-Ok.valid in
    let e = c.in-Ok-rewrite_module.ensures in
    let which = c.in-Ok-rewrite_module.made.instrumented.items in
    let few : first_above 50000 (rewritten_counts m which) ≡ None = none_passes m (drop (func_imports m) which) m.funcs e.few in (
      h.bytes,
      h.holds,
      record {
        source = m;
        which = which;
        rewritable = record { accepted = h.source; tells = e.tells; few = few };
        well_formed = well h.bytes m h.source h.are_bytes;
        listed_is = e.listed;
        emitted = e.emitted;
        rewrites = e.rewrites;
      },
    )

pub returns-in-Err-clause-refused : goal.returns-in-Err-clause-refused
returns-in-Err-clause-refused g c = c.in-Err.ensures.refused (plainly (settings_of c.args.settings.now))
