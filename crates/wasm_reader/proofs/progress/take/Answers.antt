use Rattle.wasm_reader.proofs.progress.take.Goals as goal

pub go_on-requires-clause-more : goal.go_on-requires-clause-more
go_on-requires-clause-more c =
    let g = c.requires.going in
    (c.args.progress.now.window.items, c.args.piece.now, c.in_ok-extend_from_slice.ensures.items, record { held = g.held; going = g.going; awaits = g.awaits })
