use Rattle.std.proofs.Common.{List, ℕ, sym, subst}
use Rattle.std.specs.Prelude.{OnOk, OnErr}
use Rattle.vault_port.specs.Told.{Becomes}
use Rattle.vault_port.specs.Taken.{Appends, AppendsLess}
use Rattle.vault_port.proofs.Telling.{put_once}
use Rattle.transcript.proofs.Printed.{memory_text, told_memory}
use Rattle.transcript.proofs.refused.out_of_memory.Goals as goal

pub returns-clause-printed : goal.returns-clause-printed
returns-clause-printed g c =
    told_memory c.put_whole.result _ _ _ _ c.put_whole.ensures.fault c.put_whole.ensures.stays
    (subst (λ (line : List ℕ). OnOk c.put_whole.result (Becomes (g.S.Sink.taken c.args.out.now) (g.S.Sink.taken c.put_whole.new.out) (Appends line))) (sym memory_text) c.put_whole.ensures.taken)
    (subst (λ (line : List ℕ). OnErr c.put_whole.result (Becomes (g.S.Sink.taken c.args.out.now) (g.S.Sink.taken c.put_whole.new.out) (AppendsLess line))) (sym memory_text) c.put_whole.ensures.less)

pub returns-clause-once : goal.returns-clause-once
returns-clause-once g c = put_once _ _ c.put_whole.result c.put_whole.ensures.fault c.put_whole.ensures.stays
