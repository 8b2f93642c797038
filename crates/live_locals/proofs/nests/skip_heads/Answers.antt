use Rattle.std.proofs.Common.{◌∙◌, ap, reverse}
use Rattle.live_locals.proofs.NestLemmas.{skipped}
use Rattle.live_locals.proofs.nests.skip_heads.Goals as goal

pub returns : goal.returns
returns c = ap reverse c.truncate.ensures.items ∙ skipped c.args.heads.now.items c.len.result c.args.count c.saturating_sub.result (c.len.ensures ∙ c.args.heads.now.ok.0) c.saturating_sub.ensures
