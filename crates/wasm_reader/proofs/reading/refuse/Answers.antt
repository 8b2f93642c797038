-- No more comes behind a front that met a fault, or more than a file may have.
use Rattle.std.proofs.Common.{arith, subst}
use Rattle.vault_port.specs.Files.{bytes_of}
use Rattle.vault_port.specs.Told.{WhereTold}
use Rattle.wasm_reader.specs.FilePieces.{IsPiece}
use Rattle.wasm_reader.proofs.Fronts.{refused_whole, refused_long}
use Rattle.wasm_reader.proofs.reading.refuse.Goals as goal

pub returns-in-Ok-eq0-clause-refused : goal.returns-in-Ok-eq0-clause-refused
returns-in-Ok-eq0-clause-refused g c = λ b same.
    let met = c.requires.fault in
    refused_whole b c.args.most (g.V.Vault.files c.args.vault.now) c.args.name.now met.0 c.fetch_piece.new.buffer c.fetching.done c.in-Ok-eq0.field-0 c.args.fault same met.2 met.3
    (omega (arith, met.1, c.fetching.invariant.since)) c.fetching-test.true c.in-Ok-eq0.field-0-test
    (subst (λ files. WhereTold files (λ all. IsPiece (bytes_of all c.args.name.now) c.fetching.done c.in-Ok-eq0.field-0 c.fetch_piece.new.buffer)) c.fetching.invariant.kept
    c.in-Ok-eq0.ensures.fetched)

pub returns-clause-refused : goal.returns-clause-refused
returns-clause-refused g c = λ b same.
    refused_long b c.args.most (g.V.Vault.files c.args.vault.now) c.args.name.now c.fetching.done same c.requires.fault.2.0 c.fetching.invariant.far c.fetching-test.false
