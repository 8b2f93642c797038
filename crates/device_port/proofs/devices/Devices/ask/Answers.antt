use Rattle.std.proofs.Common.{◌≡◌, ◌≤◌}
use Rattle.std.proofs.lemmas.Result.{IfOk-weaker, on_err_weaker}
use Rattle.vault_port.specs.Counts.{HasRisen}
use Rattle.device_port.specs.Journals.{entry, with_entry}
use Rattle.device_port.proofs.Places.{changed, unchanged, inside, journaled_by, meets_reply, meets_fault, of_err}
use Rattle.device_port.proofs.devices.Devices.ask.Goals as goal

pub returns-clause-answered : goal.returns-clause-answered
returns-clause-answered g c =
    IfOk-weaker c.ask_box.result _ _
    (λ reply so. changed _ (λ old new. new ≡ with_entry (entry c.args.base.now c.args.args.now reply) old) _ _
    c.index_mut-device.result.now _ (inside _ _ _ c.requires) c.index_mut-device.ensures.value so.0)
    c.ask_box.ensures.answered

pub returns-clause-journaled : goal.returns-clause-journaled
returns-clause-journaled g c =
    IfOk-weaker c.ask_box.result _ _
    (λ reply so name first. journaled_by name (entry c.args.base.now c.args.args.now reply) _ _ _ first
    (changed _ (λ old new. new ≡ with_entry (entry c.args.base.now c.args.args.now reply) old) _ _
    c.index_mut-device.result.now _ (inside _ _ _ c.requires) c.index_mut-device.ensures.value so.0))
    c.ask_box.ensures.answered

pub returns-clause-kept : goal.returns-clause-kept
returns-clause-kept g c =
    on_err_weaker c.ask_box.result (λ same. unchanged _ _ _ c.index_mut-device.result.now _ c.index_mut-device.ensures.value same)
    c.ask_box.ensures.kept

pub returns-clause-fault : goal.returns-clause-fault
returns-clause-fault g c = λ failed.
    changed _ HasRisen _ _ c.index_mut-device.result.now _ (inside _ _ _ c.requires) c.index_mut-device.ensures.value (c.ask_box.ensures.fault failed)

pub returns-clause-rising : goal.returns-clause-rising
returns-clause-rising g c =
    changed _ (λ old new. old ≤ new) _ _ c.index_mut-device.result.now _ (inside _ _ _ c.requires) c.index_mut-device.ensures.value c.ask_box.ensures.rising

pub returns-clause-meets : goal.returns-clause-meets
returns-clause-meets g c =
    IfOk-weaker c.ask_box.result _ _
    (λ reply so import name first. meets_reply import c.args.base.now name c.args.args.now reply _ _ c.args.place first so.1 so.2
    (journaled_by name (entry c.args.base.now c.args.args.now reply) _ _ _ first
    (changed _ (λ old new. new ≡ with_entry (entry c.args.base.now c.args.args.now reply) old) _ _
    c.index_mut-device.result.now _ (inside _ _ _ c.requires) c.index_mut-device.ensures.value so.0)))
    c.ask_box.ensures.answered

pub returns-clause-meets_fault : goal.returns-clause-meets_fault
returns-clause-meets_fault g c = λ failed import name first.
    meets_fault import c.args.base.now name c.args.args.now _ _ c.args.place first
    (unchanged _ _ _ c.index_mut-device.result.now _ c.index_mut-device.ensures.value (of_err c.ask_box.result _ failed c.ask_box.ensures.kept))

pub returns-clause-steady : goal.returns-clause-steady
returns-clause-steady g c =
    IfOk-weaker c.ask_box.result _ _ (λ reply same. unchanged _ _ _ c.index_mut-device.result.now _ c.index_mut-device.ensures.value same) c.ask_box.ensures.steady
