use Rattle.std.proofs.Common.{◌≡◌}
use Rattle.std.specs.String.{string_bytes}
use Rattle.script_setup.specs.Tables.{types_in, with_type}
use Rattle.script_setup.proofs.GlobalTables.{put_found}
use Rattle.script_setup.proofs.globals.put_type.Goals as goal

pub returns : goal.returns
returns c =
    let types : c.with_type-types.result ≡ with_type c.args.ty (types_in c.args.found.now (string_bytes c.args.joined)) = cc in
    put_found c.args.found.now c.insert.new.self (string_bytes c.args.joined) c.with_type-types.result c.args.ty types c.in_ok-insert.ensures.updates
