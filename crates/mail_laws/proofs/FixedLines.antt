-- What fixes the lines of worlds with mailboxes: journals and told faults, or that nothing is bound to a device.
use Rattle.std.proofs.Common.{arith, ◌≡◌, ℕ, List, map, Some, None, slice_get, refl, sym, ap, ◌∙◌}
use Rattle.std.specs.Option.{unwrap_or}
use Rattle.wa_model.specs.declared.answers.Detach.{Detach}
use Rattle.wa_model.specs.Outside.{Line}
use Rattle.world_model.specs.World.{Device, Program}
use Rattle.world_laws.specs.AloneLines.{Unbound}
use Rattle.world_laws.specs.Replays.{SameFaults}
use Rattle.world_laws.proofs.Places.{all_at}
use Rattle.mail_laws.specs.MailWorld.{ProtocolWorldFrom}
use Rattle.mail_laws.specs.Replays.{AsksDevice, JournalsFixLines, LastingDevices, MailboxesFixLines, SameWrongs, UnboundFixLines}
use Rattle.mail_laws.specs.Told.{begun_amid}
use Rattle.mail_laws.proofs.PlayedAreTold.{whole_from}
use Rattle.mail_laws.proofs.SameTold.{told_twice}
use Rattle.mail_laws.proofs.SameTurns.{open_receive}
use Rattle.mail_laws.proofs.SameWorlds.{Decides, runs_same}
use Rattle.mail_laws.proofs.ToldAreWorlds.{Whole}

-- some import is bound
abbrev SomeBound : List Program → Type 0
SomeBound programs = (i : ℕ) × (w : Program) × (import : ℕ) × (name : List ℕ) × (slice_get programs i ≡ Some w) × (unwrap_or (slice_get w.binds import) None ≡ Some name)

-- journals, faults and values of a wrong type decide a turn
journals_decide : (programs : List Program) (detaches : List Detach) (boxes : List (List ℕ)) (ds' : List Device) (wholes1 wholes2 : List Whole) → LastingDevices programs detaches boxes
    → Decides programs detaches boxes ds' (AsksDevice programs boxes) (SomeBound programs) wholes1 wholes2
journals_decide programs detaches boxes ds' wholes1 wholes2 lasting number tellers c i w t size a b more1 more2 there count awake named grow1 grow2 agree part1 part2 =
    let none : open_receive t.receive ≡ 0 = ap open_receive awake in
    told_twice w i t tellers (begun_amid number detaches c) size a b ds' t.due more1 more2 (AsksDevice programs boxes) (SomeBound programs) boxes (omega (arith, count, none)) named
    (λ call name bound no_box. record { i = i; w = w; import = call.import; name = name; program = there; bound = bound; no_box = no_box })
    (λ call name bound. (i, w, call.import, name, there, bound)) (grow1 lasting) (grow2 lasting) agree

by_journals : (begun : ℕ) (programs : List Program) (detaches : List Detach) (boxes : List (List ℕ)) (ds ds1 ds2 ds' : List Device) (lines1 lines2 : List Line) → LastingDevices programs detaches boxes
    → ProtocolWorldFrom begun programs detaches boxes ds lines1 ds1 → ProtocolWorldFrom begun programs detaches boxes ds lines2 ds2 → (AsksDevice programs boxes → (ds1 ≡ ds') × (ds2 ≡ ds'))
    → (AsksDevice programs boxes → SameFaults lines1 lines2) → (SomeBound programs → SameWrongs lines1 lines2) → (lines1 ≡ lines2) × (ds1 ≡ ds2)
by_journals begun programs detaches boxes ds ds1 ds2 ds' lines1 lines2 lasting first second same faults wrongs =
    runs_same begun programs detaches boxes ds ds1 ds2 ds' lines1 lines2 (AsksDevice programs boxes) (SomeBound programs) first second
    (journals_decide programs detaches boxes ds' (map whole_from first.actors) (map whole_from second.actors) lasting) same
    (λ i x y e f. (λ asks. faults asks i x y e f, λ some. wrongs some i x y e f))

pub journals_fix_lines : JournalsFixLines
journals_fix_lines begun programs detaches boxes ds ds' lines1 lines2 lasting first second faults wrongs =
    (by_journals begun programs detaches boxes ds ds' ds' ds' lines1 lines2 lasting first second (λ asks. (refl, refl)) (λ asks. faults) (λ some. wrongs)).0

pub mailboxes_fix_lines : MailboxesFixLines
mailboxes_fix_lines begun programs detaches boxes ds ds1 ds2 lines1 lines2 none first second wrongs =
    by_journals begun programs detaches boxes ds ds1 ds2 ds lines1 lines2 (λ asks. absurd (none asks)) first second (λ asks. absurd (none asks)) (λ asks. absurd (none asks)) (λ some. wrongs)

pub unbound_fix_lines : UnboundFixLines
unbound_fix_lines begun programs detaches boxes ds ds1 ds2 lines1 lines2 none first second =
    by_journals begun programs detaches boxes ds ds1 ds2 ds lines1 lines2 (λ asks. absurd (free asks)) first second (λ asks. absurd (free asks)) (λ asks. absurd (free asks))
    (λ some. absurd (unbound some.0 some.1 some.2 some.3 some.4 some.5))
  where
    unbound : (i : ℕ) (w : Program) (import : ℕ) (name : List ℕ) → slice_get programs i ≡ Some w → unwrap_or (slice_get w.binds import) None ≡ Some name → ⊥
    unbound i w import name there bound = let free = all_at Unbound programs i w none there in let bad : None ≡ Some name = sym (free import) ∙ bound in cc

    free : AsksDevice programs boxes → ⊥
    free asks = unbound asks.i asks.w asks.import asks.name asks.program asks.bound
