-- What the end of a command on snapshots leaves, and which devices it is told of.
use Rattle.std.proofs.Common.{◌≡◌, ℕ, List, Option, arith, subst}
use Rattle.vault_port.specs.Counts.{FailsOnce}
use Rattle.vault_port.specs.Files.{Files}
use Rattle.event_order.specs.Left.{Counted}
use Rattle.script_command.specs.SnapshotAnswers.{HasOneEnd}
use Rattle.script_command.specs.SnapshotCalls.{Call, Deed, Output, call, continues, saves}
use Rattle.script_command.specs.SnapshotEnds.{End, IsWhy, done, memory, refused, sink_fault, status_of_end}
use Rattle.script_command.specs.PlainScripts as K
use Rattle.script_command.specs.PlainScripts.{IsUnplayed}
use Rattle.script_command.specs.SnapshotTelling.{Cause, IsCause, unplayed, unread, long, unwritten, unfit}
use Rattle.asyncify_app.proofs.SmallStatuses.{unplayed_small}

pub unplayed_by : (deed : Deed) (c : Call) (cause : K.Cause) (text : List ℕ) → IsCause deed c (unplayed cause) text → IsUnplayed c.files c.script cause
unplayed_by (saves most) c cause text h = h.0
unplayed_by continues c cause text h = h.0

-- ---- of any command

-- the sink failed
sink_once : (deed : Deed) (c : Call) (o : Output) (status : ℕ) (which : End) → status ≡ status_of_end c which → IsWhy deed c o which → status ≡ 12 → FailsOnce o.faults o.faults'
sink_once deed c o status sink_fault by why twelve = why.3
sink_once deed c o status done by why twelve = absurd (omega (arith, by, twelve))
sink_once deed c o status memory by why twelve = absurd (omega (arith, by, twelve))
sink_once deed c o status (refused (unplayed cause)) by why twelve =
    let small = unplayed_small c.files c.script cause (unplayed_by deed c cause why.0 why.1) in absurd (omega (arith, by, twelve, small))
sink_once deed c o status (refused (unread name)) by why twelve = absurd (omega (arith, by, twelve))
sink_once deed c o status (refused (long found)) by why twelve = absurd (omega (arith, by, twelve))
sink_once deed c o status (refused unwritten) by why twelve = absurd (omega (arith, by, twelve))
sink_once deed c o status (refused unfit) by why twelve = absurd (omega (arith, by, twelve))

-- ---- of a save

-- no file changes but where it is done, couldn't be written, or memory was wanting
save_keeps : (most : ℕ) (c : Call) (o : Output) (status : ℕ) (which : End) → status ≡ status_of_end c which → IsWhy (saves most) c o which
    → (status ≡ 0 → ⊥) → (status ≡ 9 → ⊥) → (status ≡ 11 → ⊥) → c.files' ≡ c.files
save_keeps most c o status done by why zero nine eleven = absurd (zero by)
save_keeps most c o status memory by why zero nine eleven = absurd (nine by)
save_keeps most c o status sink_fault by why zero nine eleven = why.2.1
save_keeps most c o status (refused (unplayed cause)) by why zero nine eleven = why.1.1.files
save_keeps most c o status (refused (unread name)) by why zero nine eleven = why.1.2.files
save_keeps most c o status (refused (long found)) by why zero nine eleven = why.1.4
save_keeps most c o status (refused unwritten) by why zero nine eleven = absurd (eleven by)
save_keeps most c o status (refused unfit) by why zero nine eleven = absurd why.1.0

-- a save failed
save_once : (most : ℕ) (c : Call) (o : Output) (status : ℕ) (which : End) → status ≡ status_of_end c which → IsWhy (saves most) c o which → status ≡ 11 → FailsOnce c.save_faults c.save_faults'
save_once most c o status sink_fault by why eleven = absurd (omega (arith, by, eleven))
save_once most c o status done by why eleven = absurd (omega (arith, by, eleven))
save_once most c o status memory by why eleven = absurd (omega (arith, by, eleven))
save_once most c o status (refused (unplayed cause)) by why eleven =
    let small = unplayed_small c.files c.script cause (unplayed_by (saves most) c cause why.0 why.1) in absurd (omega (arith, by, eleven, small))
save_once most c o status (refused (unread name)) by why eleven = absurd (omega (arith, by, eleven))
save_once most c o status (refused (long found)) by why eleven = absurd (omega (arith, by, eleven))
save_once most c o status (refused unwritten) by why eleven = why.1.1
save_once most c o status (refused unfit) by why eleven = absurd (omega (arith, by, eleven))

-- ---- of going on

cause_keeps : (c : Call) (cause : Cause) (text : List ℕ) → IsCause continues c cause text → c.devices' ≡ c.devices
cause_keeps c (unplayed cause) text h = h.1.devices
cause_keeps c (unread name) text h = h.2.devices
cause_keeps c (long found) text h = h.1.devices
cause_keeps c unwritten text h = absurd h.0
cause_keeps c unfit text h = h.1.devices

end_keeps : (c : Call) (o : Output) (status : ℕ) (which : End) → status ≡ status_of_end c which → IsWhy continues c o which → (status ≡ 0 → ⊥) → (status ≡ 9 → ⊥)
    → (status ≡ 12 → ⊥) → c.devices' ≡ c.devices
end_keeps c o status done by why zero nine twelve = absurd (zero by)
end_keeps c o status memory by why zero nine twelve = absurd (nine by)
end_keeps c o status sink_fault by why zero nine twelve = absurd (twelve by)
end_keeps c o status (refused cause) by why zero nine twelve = cause_keeps c cause why.0 why.1

-- ---- with devices that are lent

module _ (deed : Deed) (spelled snap : List ℕ) (all all' : Option Files) (f f' s s' : ℕ) (o : Output) (mid ds last ds' : List Counted) (status : ℕ) (same : mid ≡ ds)
    (left : last ≡ ds') (h : HasOneEnd deed (call spelled snap all all' f f' s s' mid last) o status) where
  pub ends_lent : HasOneEnd deed (call spelled snap all all' f f' s s' ds ds') o status
  ends_lent = subst (λ (cs : List Counted). HasOneEnd deed (call spelled snap all all' f f' s s' ds cs) o status) left
      (subst (λ (cs : List Counted). HasOneEnd deed (call spelled snap all all' f f' s s' cs last) o status) same h)

pub sink_failed : (deed : Deed) (c : Call) (o : Output) (status : ℕ) → HasOneEnd deed c o status → status ≡ 12 → FailsOnce o.faults o.faults'
sink_failed deed c o status h = sink_once deed c o status h.end.which h.end.by_status h.end.why

pub save_failed : (most : ℕ) (c : Call) (o : Output) (status : ℕ) → HasOneEnd (saves most) c o status → status ≡ 11 → FailsOnce c.save_faults c.save_faults'
save_failed most c o status h = save_once most c o status h.end.which h.end.by_status h.end.why

pub files_kept : (most : ℕ) (c : Call) (o : Output) (status : ℕ) → HasOneEnd (saves most) c o status → (status ≡ 0 → ⊥) → (status ≡ 9 → ⊥) → (status ≡ 11 → ⊥) → c.files' ≡ c.files
files_kept most c o status h = save_keeps most c o status h.end.which h.end.by_status h.end.why

-- going on keeps the devices, unless it is done, or ends while lines are printed
pub devices_kept : (c : Call) (o : Output) (status : ℕ) → HasOneEnd continues c o status → (status ≡ 0 → ⊥) → (status ≡ 9 → ⊥) → (status ≡ 12 → ⊥) → c.devices' ≡ c.devices
devices_kept c o status h = end_keeps c o status h.end.which h.end.by_status h.end.why
