use Rattle.std.proofs.Common.{All, ◌≤◌, subst, sym, None, ◌≡◌}
use Rattle.std.proofs.lemmas.Result.{IfOk-weaker}
use Rattle.wa_types.specs.Frames.{Count}
use Rattle.wa_types.specs.Sizes.{StrictSizeRule}
use Rattle.wa_types.specs.Syntax.{Func, Module}
use Rattle.wa_types.specs.Validity.{Valid}
use Rattle.wa_types.specs.View.{module_of}
use Rattle.wa_model.specs.Rewrites.{Rewrites}
use Rattle.local_spill.specs.Reserved.{reserved_at}
use Rattle.gen_module.proofs.GeneratedModules.{is_small, is_valid}
use Rattle.gen_module.specs.GeneratedRuns.{all_listed}
use Rattle.asyncify_app.proofs.GeneratedLocals.{few_locals, none_reserved}
use Rattle.asyncify_app.proofs.generated_runs.play_generated.Goals as goal

pub rewritten-requires-clause-valid : goal.rewritten-requires-clause-valid
rewritten-requires-clause-valid c = subst Valid (sym c.requires.3) (is_valid c.requires.0)

pub rewritten-requires-clause-sizes : goal.rewritten-requires-clause-sizes
rewritten-requires-clause-sizes c = subst StrictSizeRule (sym c.requires.3) (is_small c.requires.0 c.requires.2)

pub rewritten-requires-clause-free : goal.rewritten-requires-clause-free
rewritten-requires-clause-free c = subst (λ (m : Module). reserved_at m ≡ None) (sym c.requires.3) (none_reserved c.requires.0)

pub rewritten-requires-clause-few : goal.rewritten-requires-clause-few
rewritten-requires-clause-few c = subst (λ (m : Module). All (λ (f : Func). Count m f ≤ 50000) m.funcs) (sym c.requires.3) (few_locals c.requires.0)

pub play-requires : goal.play-requires
play-requires c =
    let h = c.requires in (h.0, h.1, h.2, subst (λ (m : Module). Rewrites m all_listed (module_of c.in_ok-rewritten.rewritten)) h.3 c.in_ok-rewritten.ensures)

pub returns : goal.returns
returns c = λ n least most e.
    let same = subst (λ (m : Module). Rewrites m all_listed (module_of c.in_ok-rewritten.rewritten)) e c.in_ok-rewritten.ensures in
    IfOk-weaker c.play.result _ _ (λ p h. record { rewritten = module_of c.in_ok-rewritten.rewritten; rewrites = same; run = h.0; used_is = h.1; value_is = h.2 })
    (c.play.ensures n least most same)
