use Rattle.std.proofs.Common.{◌∙◌, ◌+◌, arith, drop, sym, length-drop}
use Rattle.snapshot_store.proofs.Nothing.{no_short_32, no_short_64}
use Rattle.snapshot_store.proofs.Words.{byte_here}
use Rattle.snapshot_store.proofs.reading.global_at.Goals as goal

pub returns-in-None-clause-none : goal.returns-in-None-clause-none
returns-in-None-clause-none c = λ x rest f e.
    no_short_32 (drop (c.args.at.now + 1) c.args.bytes.now) (omega (arith, length-drop (c.args.at.now + 1) c.args.bytes.now, c.in-None.ensures.short)) x rest f
    (sym (byte_here c.args.bytes.now c.args.at.now 127 (omega (arith, c.if-at-bytes.false)) c.in-127.is) ∙ e)

pub returns-in-None-u64_at-clause-none : goal.returns-in-None-u64_at-clause-none
returns-in-None-u64_at-clause-none c = λ x rest f e.
    no_short_64 (drop (c.args.at.now + 1) c.args.bytes.now) (omega (arith, length-drop (c.args.at.now + 1) c.args.bytes.now, c.in-None-u64_at.ensures.short)) x rest f
    (sym (byte_here c.args.bytes.now c.args.at.now 126 (omega (arith, c.if-at-bytes.false)) c.in-126.is) ∙ e)
