use Rattle.std.proofs.Common.{ap, map, ◌∙◌}
use Rattle.wa_types.specs.View.{func_of, module_of}
use Rattle.module_rewrite.specs.Bare.{bare}
use Rattle.module_rewrite.proofs.bare.drop_bodies.Goals as goal

pub returns : goal.returns
returns c =
    ap (λ fs. record (module_of c.args.«module».now) { funcs = fs })
    (c.in_ok-funcs.ensures ∙ ap (λ fs. map bare (map func_of fs)) c.deref.ensures.value)
