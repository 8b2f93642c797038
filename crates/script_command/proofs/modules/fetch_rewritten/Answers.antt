-- What runs is the original in the file, rewritten.
use Rattle.std.proofs.Common.{refl}
use Rattle.call_graph.specs.Settings.{settings_of}
use Rattle.script_reader.specs.Views.{program_of}
use Rattle.script_command.proofs.Originals.{bad_rewritten, loads_rewritten}
use Rattle.script_command.proofs.modules.fetch_rewritten.Goals as goal

pub returns-in-Ok-rewritten-clause-loaded : goal.returns-in-Ok-rewritten-clause-loaded
returns-in-Ok-rewritten-clause-loaded g c =
    let w = rw c.as_str.ensures at c.in-Ok-rewritten.ensures.done in
    loads_rewritten (program_of c.args.text.now) (settings_of c.in-Ok.settings) (g.V.Vault.files c.args.vault.now) c.in-Ok.ensures.settings w.0 _ _ refl w.1 w.2

pub returns-clause-refused : goal.returns-clause-refused
returns-clause-refused g c =
    bad_rewritten (program_of c.args.text.now) (settings_of c.in-Ok.settings) (g.V.Vault.files c.args.vault.now) c.in-Ok.ensures.settings c.in-Err.fault
    (rw c.as_str.ensures at c.in-Err.ensures.refused)

pub settings_for-requires : goal.settings_for-requires
settings_for-requires g c = c.requires
