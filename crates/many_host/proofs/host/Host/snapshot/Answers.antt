use Rattle.std.proofs.Common.{◌≡◌, ◌∙◌, All, List, arith, ap, length, map, subst, sym}
use Rattle.std.proofs.lemmas.List.{length-map}
use Rattle.snapshot_store.specs.Parts.{CountsFit}
use Rattle.snapshot_store.specs.Snapshots.{ProgramRecord}
use Rattle.snapshot_store.specs.Views.{record_of, snapshot_of}
use Rattle.many_host.specs.Saving.{HasItsPages, IsSaved, records_for, saved_of}
use Rattle.many_host.specs.Standing.{held_of}
use Rattle.many_host.proofs.SavedRecords.{records_many}
use Rattle.many_host.proofs.SavedWorlds.{counts_fit, is_saved}
use Rattle.many_host.proofs.host.Host.snapshot.Goals as goal

pub returns-clause-saved : goal.returns-clause-saved
returns-clause-saved c = λ begun programs detaches ds ds' lines told can.
    let h = c.args.self.now in
    let are : map record_of c.in_ok-programs.programs.items ≡ records_for h.turns.dues.items h.turns.programs.items =
    c.in_ok-programs.ensures.is ∙ (λ k. records_for (c.dues.ensures k) (c.programs.ensures k)) in
    let is : saved_of h.turns ≡ snapshot_of (record { events = c.events-events.result; programs = c.in_ok-programs.programs }) =
    λ k. record { events = sym c.events-events.ensures k; programs = sym are k } in
    subst (IsSaved begun programs detaches ds lines ds' told.tellers) is
    (is_saved begun programs detaches ds ds' lines h told c.requires.between can (subst (All HasItsPages) are c.in_ok-programs.ensures.pages))

pub returns-clause-few : goal.returns-clause-few
returns-clause-few c =
    let h = c.args.self.now in
    let are : map record_of c.in_ok-programs.programs.items ≡ records_for h.turns.dues.items h.turns.programs.items =
    c.in_ok-programs.ensures.is ∙ (λ k. records_for (c.dues.ensures k) (c.programs.ensures k)) in
    omega (
      arith,
      length-map c.in_ok-programs.programs.items record_of,
      ap (λ (rs : List ProgramRecord). length rs) are,
      records_many h.turns.dues.items h.turns.programs.items c.requires.range.wide,
      c.requires.range.few,
    )

pub returns-clause-counts : goal.returns-clause-counts
returns-clause-counts c =
    let h = c.args.self.now in
    let are : map record_of c.in_ok-programs.programs.items ≡ records_for h.turns.dues.items h.turns.programs.items =
    c.in_ok-programs.ensures.is ∙ (λ k. records_for (c.dues.ensures k) (c.programs.ensures k)) in
    subst (All CountsFit) (sym are) (counts_fit (held_of h.turns) c.requires.tells.0 h.turns.stage c.requires.tells.1 (subst (All HasItsPages) are c.in_ok-programs.ensures.pages))
