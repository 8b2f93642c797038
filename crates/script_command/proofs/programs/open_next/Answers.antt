-- A program more, or why it isn't set up.
use Rattle.std.proofs.Common.{◌≡◌, Err, ap, inl, length, refl, rules, subst}
use Rattle.std.proofs.lemmas.Result.{IfErr-weaker}
use Rattle.wa_types.specs.View.{module_of}
use Rattle.module_files.specs.declared.fault.FileFault.{FileFault}
use Rattle.script_reader.specs.Views.{program_of}
use Rattle.world_hosting.specs.Views.{listing}
use Rattle.script_command.specs.SnapshotViews.{refused_module}
use Rattle.script_command.specs.Views.{IsBadModuleFor}
use Rattle.script_command.proofs.Openings.{line_stops, module_stops, stays_any, stops_unread}
use Rattle.script_command.proofs.programs.open_next.Goals as goal

pub returns-in-Ok-clause-opened : goal.returns-in-Ok-clause-opened
returns-in-Ok-clause-opened g c = c.plan_program.ensures.opened _ c.in-Ok.ensures.loaded.module_is

pub returns-in-Ok-clause-refused : goal.returns-in-Ok-clause-refused
returns-in-Ok-clause-refused g c =
    IfErr-weaker c.plan_program.result _ _
    (λ stop b. line_stops _ _ _ c.args.way _ _ (program_of c.args.text) _ stop (c.in-Ok.ensures.stays (λ e. cc))
    (λ line rule e. (module_of c.in-Ok.loaded.valid, listing c.in-Ok.loaded.listed, c.in-Ok.ensures.loaded.module_is, e)) b) c.plan_program.ensures.refused

pub fetch_module-requires : goal.fetch_module-requires
fetch_module-requires g c = c.requires.choice

pub returns-in-Ok-clause-stays : goal.returns-in-Ok-clause-stays
returns-in-Ok-clause-stays g c = stays_any c.plan_program.result (c.in-Ok.ensures.stays (λ e. cc))

pub returns-in-Err-Memory-clause-refused : goal.returns-in-Err-Memory-clause-refused
returns-in-Err-Memory-clause-refused g c = inl (c.in-Err-Memory.ensures.stays (λ e. let f = c.in-Err-Memory.field-0-is in cc))

pub returns-in-Err-Read-clause-refused : goal.returns-in-Err-Read-clause-refused
returns-in-Err-Read-clause-refused g c =
    stops_unread _ _ _ _ _ (program_of c.args.text).path c.unread.result refl (c.in-Err-Read.ensures.read (ap (λ (x : FileFault). Err x) c.in-Err-Read.field-0-is)) (rw c.as_str.ensures at c.unread.ensures)

pub returns-clause-refused : goal.returns-clause-refused
returns-clause-refused g c =
    let h = subst (IsBadModuleFor c.args.way (g.V.Vault.files c.args.vault.now) (program_of c.args.text)) c.in-Err-Refused.field-0-is c.in-Err-Refused.ensures.refused in
    let number : c.len-number.result ≡ length c.args.programs.now.planned.items = search rules in
    let moved = c.in-Err-Refused.kind-is in
    let made = c.refused_module.ensures in
    let is : c.refused_module.result ≡ refused_module c.len-number.result c.in-Err-Refused.kind = cc in
    module_stops _ _ _ c.args.way _ _ _ (program_of c.args.text) c.in-Err-Refused.kind c.refused_module.result number
    (c.in-Err-Refused.ensures.stays (λ e. let f = c.in-Err-Refused.field-0-is in cc)) h is
