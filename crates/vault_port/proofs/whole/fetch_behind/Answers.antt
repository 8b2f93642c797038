use Rattle.std.proofs.Common.{length, ap, arith}
use Rattle.std.proofs.lemmas.List.{take_rest, length-drop}
use Rattle.vault_port.specs.Files.{bytes_of}
use Rattle.vault_port.proofs.Telling.{told_weaker}
use Rattle.vault_port.proofs.Pieces.{FetchesMore_by}
use Rattle.vault_port.proofs.whole.fetch_behind.Goals as goal

pub returns-in-Ok-clause-fetched : goal.returns-in-Ok-clause-fetched
returns-in-Ok-clause-fetched g c =
    let buffer = c.args.buffer.now in
    let done = c.args.done in
    let long = ap length (take_rest buffer done) in
    told_weaker _ _ (λ all fetched. FetchesMore_by (bytes_of all c.args.name.now) buffer _ c.fetch.new.buf done c.in-Ok.count _ c.requires
    (omega (arith, long, length-drop done buffer)) fetched) _ c.in-Ok.ensures.fetched
