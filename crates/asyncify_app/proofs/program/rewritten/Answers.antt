use Rattle.std.proofs.Common.{Err, ap, subst, sym, ◌∙◌}
use Rattle.wa_types.specs.declared.syntax.Module.{Module as ModuleValue}
use Rattle.wa_types.specs.View.{module_of}
use Rattle.local_spill.specs.Reserved.{reserved_at}
use Rattle.module_rewrite.specs.Whole.{FirstTooMany, Instruments, IsInstrumented}
use Rattle.gen_module.specs.GeneratedRuns.{all_listed}
use Rattle.asyncify_app.proofs.Rewritten.{none_too_many, strict_is_wide}
use Rattle.asyncify_app.proofs.program.rewritten.Goals as goal

pub proved-requires-clause-sizes : goal.proved-requires-clause-sizes
proved-requires-clause-sizes c = strict_is_wide (module_of c.args.module) c.requires.sizes

pub returns-in-Ok : goal.returns-in-Ok
returns-in-Ok c = (subst (λ (z : ModuleValue). IsInstrumented (module_of z) all_listed c.in-Ok.rewritten) c.in_ok-valid.ensures c.in-Ok.ensures).rewrites

pub unreachable-requires : goal.unreachable-requires
unreachable-requires c =
    let told = subst (λ e. Instruments (module_of c.in_ok-valid.valid) all_listed (Err e)) c.in-Err-Reserved.field-0-is c.in-Err-Reserved.ensures in
    let bad = sym c.requires.free ∙ ap (λ (z : ModuleValue). reserved_at (module_of z)) (sym c.in_ok-valid.ensures) ∙ told in absurd (cc)

pub unreachable-requires-in-Err-Locals : goal.unreachable-requires-in-Err-Locals
unreachable-requires-in-Err-Locals c =
    let told = subst (λ e. Instruments (module_of c.in_ok-valid.valid) all_listed (Err e)) c.in-Err-Locals.field-0-is c.in-Err-Locals.ensures in
    none_too_many (module_of c.args.module) c.in-Err-Locals.field-0-0 c.in-Err-Locals.field-0-1 c.requires.few
    (subst (λ (z : ModuleValue). FirstTooMany (module_of z) all_listed c.in-Err-Locals.field-0-0 c.in-Err-Locals.field-0-1) c.in_ok-valid.ensures told)
