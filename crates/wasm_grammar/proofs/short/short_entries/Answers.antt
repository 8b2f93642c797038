use Rattle.std.proofs.Common.{◌≡◌, subst, arith}
use Rattle.wasm_grammar.specs.Goals.{kind_of}
use Rattle.wasm_grammar.specs.Passing.{IsEntryByte, PassesEntries}
use Rattle.wasm_grammar.proofs.ShortItems.{passes_more}
use Rattle.wasm_grammar.proofs.short.short_entries.Goals as goal

pub loop-index-preserved : goal.loop-index-preserved
loop-index-preserved c =
    let test = c.loop-index-test.true in
    let most = c.min-most.ensures in
    let room = c.saturating_sub-room.ensures in
    let all = c.saturating_sub.ensures in
    let some = c.saturating_sub-2.ensures in
    passes_more c.args.bytes.now.all (kind_of c.args.kind) c.args.n c.args.at c.loop-index.index c.args.stop (omega (arith, test, most, room, all)) c.requires.stop
    (omega (arith, test, most, some)) (subst (IsEntryByte (kind_of c.args.kind)) c.at-byte.ensures c.if-not-is_entry_byte.ensures) c.loop-index.invariant

pub returns-clause-passes : goal.returns-clause-passes
returns-clause-passes c =
    let test = c.loop-index-test.false in
    let most = c.loop-index.auto.index-end in
    let e : c.loop-index.index ≡ c.min-most.result = omega (arith, test, most) in
    subst (λ i. PassesEntries c.args.bytes.now.all (kind_of c.args.kind) c.args.n c.args.at i c.args.stop) e c.loop-index.invariant
