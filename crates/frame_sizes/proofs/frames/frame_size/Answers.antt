use Rattle.std.proofs.Common.{◌≡◌, ◌+◌, ◌<◌, length, slice_get, ap, subst, ◌∙◌}
use Rattle.wa_types.specs.declared.syntax.Module.{Module as ModuleValue}
use Rattle.wa_types.specs.Modules.{defined_at}
use Rattle.wa_types.specs.View.{module_of}
use Rattle.call_graph.specs.Settings.{policy_of}
use Rattle.frame_sizes.specs.Frames.{places_of}
use Rattle.frame_sizes.proofs.FrameLemmas.{frame_some}
use Rattle.frame_sizes.proofs.SavedLemmas.{there}
use Rattle.frame_sizes.proofs.frames.frame_size.Goals as goal

pub returns-in_ok-places-in-Some-clause-value : goal.returns-in_ok-places-in-Some-clause-value
returns-in_ok-places-in-Some-clause-value c =
    let i = c.in-Some.index in
    let within = subst (λ (z : ModuleValue). i < length z.funcs.items) c.module.ensures.same c.in-Some.ensures.within in
    let same = subst (λ (z : ModuleValue). defined_at (module_of z) c.args.activation.func ≡ slice_get (module_of z).funcs i) c.module.ensures.same c.in-Some.ensures.same in
    let at = there c.args.valid.now i within in
    ap (λ n. 4 + n) c.widths.ensures.value
    ∙ frame_some (module_of c.args.valid.now) (policy_of c.args.policy) c.args.activation at.0 (places_of c.deref.result.now) (same ∙ at.1)
    (ap places_of c.deref.ensures.value ∙ c.in_ok-places-in-Some.ensures at.0 at.1)
