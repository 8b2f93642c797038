use Rattle.std.proofs.Common.{map, sym, ap, ◌∙◌}
use Rattle.wa_model.specs.Step.{zero_of}
use Rattle.pause_host.proofs.Tables.{stands_at}
use Rattle.pause_host.proofs.unwinding.zero_of_result.Goals as goal

pub returns : goal.returns
returns c = λ w is.
    let x = c.args.setting.now in
    let at = stands_at x.imports.items c.args.import c.index-import.result.now c.requires c.index-import.ensures in
    c.zero_where.ensures ∙ ap (map zero_of) (sym (is.results c.args.import c.index-import.result.now at))
