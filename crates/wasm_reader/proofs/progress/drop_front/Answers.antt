use Rattle.std.proofs.Common.{◌∙◌, arith}
use Rattle.wasm_reader.proofs.GoingOn.{kept}
use Rattle.wasm_reader.proofs.progress.drop_front.Goals as goal

pub returns-clause-window : goal.returns-clause-window
returns-clause-window c =
    let whole = c.args.progress.now.window.ok.0 in
    let long = c.len.ensures in
    c.truncate.ensures.items
    ∙ kept c.args.progress.now.window.items c.copy_within.new.self.items c.len.result c.args.used _ (omega (arith, whole, long)) (omega (arith, whole)) c.requires.within c.copy_within.ensures.items
