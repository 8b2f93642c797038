-- A call's end is its answer.
use Rattle.std.proofs.Common.{◌≡◌, ◌⊎◌, ◌≤◌, inl, inr, ℕ, List, length, Option, Some, None, refl, sym, ap, ◌∙◌, subst, arith}
use Rattle.vault_port.specs.Counts.{FailsOnce}
use Rattle.vault_port.specs.Files.{Files, IsMissing}
use Rattle.script_model.specs.Script.{Script, unsaved_line}
use Rattle.snapshot_store.specs.Snapshots.{Snapshot, SnapText}
use Rattle.script_command.specs.declared.way.Way.TheVariants.{Run}
use Rattle.script_command.specs.Playing as P
use Rattle.script_command.specs.Playing.{bad_line, bad_module, bad_script}
use Rattle.script_command.proofs.WholeScripts.{IsThere, no_script_passes, one_cause, one_script, played_not_refused, played_reads, refused_reads}
use Rattle.script_command.specs.SnapshotCalls.{Call, Deed, Output, continues, saves}
use Rattle.script_command.specs.PlainScripts as S
use Rattle.script_command.specs.PlainScripts.{IsRead, IsUnplayed, Play, has_unsaved, not_run}
use Rattle.script_command.specs.SnapshotTelling.{Cause, HoldsMore, HoldsNone, HoldsSnapshot, IsReadBy, IsRefused, long, most_bytes, programs_of, unfit, unplayed, unread, unwritten}
use Rattle.script_command.specs.SnapshotEnds.{End, HasEnd, IsWhy, done, memory, refused, sink_fault}
use Rattle.script_command.specs.SnapshotAnswers.{CanBeDone, HasOneEnd, IsLong, IsReadFault, NothingFails}
use Rattle.script_command.proofs.SnapshotStatuses.{run_refused}
use Rattle.script_command.proofs.SamePrograms.{same_suits}

-- ---- scripts that are told

module _ (all : Files) (name : List ℕ) where
  -- one that has such a line, and one that has none
  never_both : (a b : Script) (line : ℕ) → P.HasScript (Some all) name a → P.HasScript (Some all) name b → unsaved_line a ≡ Some line → unsaved_line b ≡ None → ⊥
  never_both a b line h k some none =
      let bad = sym some ∙ ap unsaved_line (one_script all name a b h k) ∙ none in
      cc

  named_once : (c : P.Cause) (line : ℕ) → S.HasUnsavedAt (Some all) name line → IsUnplayed (Some all) name (not_run c) → ⊥
  named_once (bad_script r) line named h = no_script_passes all name named.whole r named.of_script h
  named_once (bad_module number r) line named h = never_both named.whole h.1.whole line named.of_script h.1.of_script named.first h.1.none
  named_once (bad_line at rule) line named h = never_both named.whole h.1.whole line named.of_script h.1.of_script named.first h.1.none

  -- two causes are one
  one_unplayed : (c d : S.Cause) → IsUnplayed (Some all) name c → IsUnplayed (Some all) name d → c ≡ d
  one_unplayed (has_unsaved i) (has_unsaved j) h k =
      let same = sym h.first ∙ ap unsaved_line (one_script all name h.whole k.whole h.of_script k.of_script) ∙ k.first in
      let number : i ≡ j = cc in
      ap has_unsaved number
  one_unplayed (has_unsaved i) (not_run d) h k = absurd (named_once d i h k)
  one_unplayed (not_run c) (has_unsaved j) h k = absurd (named_once c j k h)
  one_unplayed (not_run c) (not_run d) h k = ap not_run (one_cause Run all name c d (run_refused (Some all) name c h) (run_refused (Some all) name d k))

  -- what can be played isn't refused
  played_passes : (c : S.Cause) → Play (Some all) name → IsUnplayed (Some all) name c → ⊥
  played_passes (has_unsaved line) play h = never_both h.whole play.run.whole line h.of_script play.run.of_script h.first play.none
  played_passes (not_run c) play h = played_not_refused Run all name c play.run (run_refused (Some all) name c h)

  own_there : (whole : Script) → P.HasScript (Some all) name whole → IsThere all name
  own_there whole has = (has.bytes, has.holds)

  -- what is read of either is there
  unplayed_there : (c : S.Cause) (read : List ℕ) → IsUnplayed (Some all) name c → IsRead (Some all) name read → IsThere all read
  unplayed_there (has_unsaved line) read h is = elim is [
    | inl same ↦ subst (IsThere all) (sym same) (own_there h.whole h.of_script)
    | inr r ↦ absurd (never_both h.whole r.1.whole line h.of_script r.1.of_script h.first r.1.none)
  ]
  unplayed_there (not_run c) read h is = elim is [
    | inl same ↦ refused_reads Run all name c (run_refused (Some all) name c h) read (inl same)
    | inr r ↦ refused_reads Run all name c (run_refused (Some all) name c h) read r.0
  ]

  played_there : (read : List ℕ) → Play (Some all) name → IsRead (Some all) name read → IsThere all read
  played_there read play is = elim is [
    | inl same ↦ played_reads Run all name play.run read (inl same)
    | inr r ↦ played_reads Run all name play.run read r.0
  ]

-- ---- snapshots that are told

module _ (all : Files) (name snap : List ℕ) where
  same_bytes : (a b : List ℕ) → all snap ≡ Some a → all snap ≡ Some b → a ≡ b
  same_bytes a b e f = let both = sym e ∙ f in cc

  -- too many bytes aren't few
  more_few : (a : List ℕ) → all snap ≡ Some a → length a ≤ most_bytes → HoldsMore (Some all) snap → ⊥
  more_few a e few more =
      let same = ap (λ (bs : List ℕ). length bs) (same_bytes a more.bytes e more.holds) in
      let most = more.more in
      omega (arith, same, few, most)

  -- a snapshot that fits a script's programs, however these were rewritten, isn't refused
  fits_passes : (p q : Play (Some all) name) (s : Snapshot) → HoldsSnapshot (Some all) snap (programs_of p) s → HoldsNone (Some all) snap (programs_of q) → ⊥
  fits_passes p q s held none =
      none.none s (subst (λ (bs : List ℕ). SnapText bs s) (same_bytes held.bytes none.bytes held.holds none.holds) held.spells) (same_suits all name p q s held.suits)

  -- so what can be gone on with isn't
  pub continue_passes : (cause : Cause) (play : Play (Some all) name) (s : Snapshot) → HoldsSnapshot (Some all) snap (programs_of play) s → IsRefused continues (Some all) name snap cause → ⊥
  continue_passes (unplayed cause) play s held h = played_passes all name cause play h
  continue_passes (long found) play s held h = more_few held.bytes held.holds held.few h.1
  continue_passes unfit play s held h = fits_passes play h.0 s held h.1
  continue_passes (unread read) play s held h = h
  continue_passes unwritten play s held h = h

  snap_there : (cause : Cause) → IsRefused continues (Some all) name snap cause → (Play (Some all) name → ⊥) ⊎ IsThere all snap
  snap_there (unplayed cause) h = inl (λ play. played_passes all name cause play h)
  snap_there (long found) h = inr (h.1.bytes, h.1.holds)
  snap_there unfit h = inr (h.1.bytes, h.1.holds)
  snap_there (unread read) h = absurd h
  snap_there unwritten h = absurd h

  refused_there : (deed : Deed) (cause : Cause) (read : List ℕ) → IsRefused deed (Some all) name snap cause → IsRead (Some all) name read → IsThere all read
  refused_there (saves most) (unplayed cause) read h is = unplayed_there all name cause read h is
  refused_there continues (unplayed cause) read h is = unplayed_there all name cause read h is
  refused_there continues (long found) read h is = played_there all name read h.0 is
  refused_there continues unfit read h is = played_there all name read h.0 is
  refused_there continues (unread other) read h is = absurd h
  refused_there continues unwritten read h is = absurd h
  refused_there (saves most) (long found) read h is = absurd h
  refused_there (saves most) unfit read h is = absurd h
  refused_there (saves most) (unread other) read h is = absurd h
  refused_there (saves most) unwritten read h is = absurd h

  -- two causes are one
  one_refused : (deed : Deed) (c d : Cause) → IsRefused deed (Some all) name snap c → IsRefused deed (Some all) name snap d → c ≡ d
  one_refused (saves most) (unplayed c) (unplayed d) h k = ap unplayed (one_unplayed all name c d h k)
  one_refused continues (unplayed c) (unplayed d) h k = ap unplayed (one_unplayed all name c d h k)
  one_refused continues (unplayed c) (long found) h k = absurd (played_passes all name c k.0 h)
  one_refused continues (unplayed c) unfit h k = absurd (played_passes all name c k.0 h)
  one_refused continues (long found) (unplayed d) h k = absurd (played_passes all name d h.0 k)
  one_refused continues (long found) (long other) h k = ap long (h.2 ∙ sym k.2)
  one_refused continues (long found) unfit h k = absurd (more_few k.1.bytes k.1.holds k.1.few h.1)
  one_refused continues unfit (unplayed d) h k = absurd (played_passes all name d h.0 k)
  one_refused continues unfit (long other) h k = absurd (more_few h.1.bytes h.1.holds h.1.few k.1)
  one_refused continues unfit unfit h k = refl
  one_refused (saves most) (long found) d h k = absurd h
  one_refused (saves most) unfit d h k = absurd h
  one_refused (saves most) (unread other) d h k = absurd h
  one_refused (saves most) unwritten d h k = absurd h
  one_refused (saves most) (unplayed c) (long found) h k = absurd k
  one_refused (saves most) (unplayed c) unfit h k = absurd k
  one_refused (saves most) (unplayed c) (unread other) h k = absurd k
  one_refused (saves most) (unplayed c) unwritten h k = absurd k
  one_refused continues (unread other) d h k = absurd h
  one_refused continues unwritten d h k = absurd h
  one_refused continues (unplayed c) (unread other) h k = absurd k
  one_refused continues (unplayed c) unwritten h k = absurd k
  one_refused continues (long found) (unread other) h k = absurd k
  one_refused continues (long found) unwritten h k = absurd k
  one_refused continues unfit (unread other) h k = absurd k
  one_refused continues unfit unwritten h k = absurd k

not_missing : (o : Option (List ℕ)) (bytes : List ℕ) → o ≡ Some bytes → o ≡ None → ⊥
not_missing o bytes e f = let bad = sym e ∙ f in cc

-- ---- ends

module _ (c : Call) (o : Output) (all : Files) where
  -- the call, of these files
  abbrev here : Call
  here = record c { files = Some all }

  -- what is told of a script that is played, and what it is refused for
  save_passes : (most : ℕ) (cause : Cause) → Play (Some all) c.script → IsRefused (saves most) (Some all) c.script c.snap cause → ⊥
  save_passes most (unplayed cause) play h = played_passes all c.script cause play h
  save_passes most (long found) play h = h
  save_passes most unfit play h = h
  save_passes most (unread name) play h = h
  save_passes most unwritten play h = h

  -- a file that is read for what is refused is there
  read_there : (deed : Deed) (cause : Cause) (read : List ℕ) → IsRefused deed (Some all) c.script c.snap cause → IsReadBy deed here read → IsThere all read
  read_there (saves most) cause read h is = refused_there all c.script c.snap (saves most) cause read h is
  read_there continues cause read h is = elim is [
    | inl own ↦ refused_there all c.script c.snap continues cause read h own
    | inr snap ↦ elim (snap_there all c.script c.snap cause h) [
      | inl never ↦ absurd (never snap.0)
      | inr there ↦ subst (IsThere all) (sym snap.1) there
    ]
  ]

  abbrev Refuses : End → Cause → Type 0
  Refuses which cause = (which ≡ refused cause) ⊎ (which ≡ memory) ⊎ (IsReadFault which × FailsOnce c.fetch_faults c.fetch_faults')

  cannot_read : (deed : Deed) (cause : Cause) (name : List ℕ) → IsRefused deed (Some all) c.script c.snap cause → IsReadBy deed here name
      → FailsOnce c.fetch_faults c.fetch_faults' ⊎ (IsMissing (Some all) name × (c.fetch_faults' ≡ c.fetch_faults)) → Refuses (refused (unread name)) cause
  cannot_read deed cause name h is cannot = elim cannot [
    | inl failed ↦ inr (inr (tt, failed))
    | inr missing ↦ let there = read_there deed cause name h is in absurd (not_missing (all name) there.0 there.1 missing.0)
  ]

  same_cause : (deed : Deed) (d cause : Cause) → IsRefused deed (Some all) c.script c.snap d → IsRefused deed (Some all) c.script c.snap cause → Refuses (refused d) cause
  same_cause deed d cause k h = inl (ap (λ (x : Cause). refused x) (one_refused all c.script c.snap deed d cause k h))

  refusals : (deed : Deed) (cause : Cause) (which : End) → IsWhy deed here o which → IsRefused deed (Some all) c.script c.snap cause → Refuses which cause
  refusals deed cause memory why h = inr (inl refl)
  refusals (saves most) cause done why h = absurd (save_passes most cause why.1.1.play h)
  refusals continues cause done why h = absurd (continue_passes all c.script c.snap cause why.1.0.play why.1.0.snapshot why.1.0.holds h)
  refusals (saves most) cause sink_fault why h = absurd (save_passes most cause why.2.0.play h)
  refusals continues cause sink_fault why h = absurd (continue_passes all c.script c.snap cause why.2.0.play why.2.0.snapshot why.2.0.holds h)
  refusals (saves most) cause (refused (unread name)) why h = cannot_read (saves most) cause name h why.1.0 why.1.1
  refusals continues cause (refused (unread name)) why h = cannot_read continues cause name h why.1.0 why.1.1
  refusals (saves most) cause (refused (unplayed d)) why h = same_cause (saves most) (unplayed d) cause why.1.0 h
  refusals continues cause (refused (unplayed d)) why h = same_cause continues (unplayed d) cause why.1.0 h
  refusals (saves most) cause (refused (long found)) why h = absurd (save_passes most cause why.1.1.play h)
  refusals continues cause (refused (long found)) why h = same_cause continues (long found) cause why.1.0 h
  refusals (saves most) cause (refused unwritten) why h = absurd (save_passes most cause why.1.0.1.play h)
  refusals continues cause (refused unwritten) why h = absurd why.1.0
  refusals (saves most) cause (refused unfit) why h = absurd why.1.0
  refusals continues cause (refused unfit) why h = same_cause continues unfit cause why.1.0 h

  abbrev Accepts : Deed → End → Type 0
  Accepts deed which = (which ≡ done) ⊎ (which ≡ memory) ⊎ IsLong deed which

  never_read : (name : List ℕ) (P : Type 0) → NothingFails here o → IsThere all name → FailsOnce c.fetch_faults c.fetch_faults' ⊎ (IsMissing (Some all) name × (c.fetch_faults' ≡ c.fetch_faults)) → P
  never_read name P n there cannot = elim cannot [
    | inl failed ↦ absurd (n.fetches failed)
    | inr missing ↦ absurd (not_missing (all name) there.0 there.1 missing.0)
  ]

  accepted : (deed : Deed) (which : End) → IsWhy deed here o which → CanBeDone deed here all → NothingFails here o → Accepts deed which
  accepted deed done why can n = inl refl
  accepted deed memory why can n = inr (inl refl)
  accepted deed sink_fault why can n = absurd (n.puts why.3)
  accepted (saves most) (refused (unread name)) why can n = never_read name _ n (played_there all c.script name can why.1.0) why.1.1
  accepted continues (refused (unread name)) why can n = elim why.1.0 [
    | inl own ↦ never_read name _ n (played_there all c.script name can.0 own) why.1.1
    | inr snap ↦ never_read name _ n (subst (IsThere all) (sym snap.1) (can.2.bytes, can.2.holds)) why.1.1
  ]
  accepted (saves most) (refused (unplayed d)) why can n = absurd (played_passes all c.script d can why.1.0)
  accepted continues (refused (unplayed d)) why can n = absurd (played_passes all c.script d can.0 why.1.0)
  accepted (saves most) (refused (long found)) why can n = inr (inr tt)
  accepted continues (refused (long found)) why can n = absurd (continue_passes all c.script c.snap (long found) can.0 can.1 can.2 why.1.0)
  accepted (saves most) (refused unwritten) why can n = absurd (n.saves why.1.1)
  accepted continues (refused unwritten) why can n = absurd why.1.0
  accepted (saves most) (refused unfit) why can n = absurd why.1.0
  accepted continues (refused unfit) why can n = absurd (continue_passes all c.script c.snap unfit can.0 can.1 can.2 why.1.0)

-- the end, of the files that are told
why_told : (deed : Deed) (c : Call) (o : Output) (all : Files) (which : End) → c.files ≡ Some all → IsWhy deed c o which → IsWhy deed (record c { files = Some all }) o which
why_told deed c o all which told why = subst (λ (f : Option Files). IsWhy deed (record c { files = f }) o which) told why

-- what nothing fails of doesn't depend on the files
none_fails : (c : Call) (o : Output) (all : Files) → NothingFails c o → NothingFails (record c { files = Some all }) o
none_fails c o all n = record { fetches = n.fetches; saves = n.saves; puts = n.puts }

can_be : (deed : Deed) (c : Call) (all : Files) → CanBeDone deed c all → CanBeDone deed (record c { files = Some all }) all
can_be (saves most) c all can = can
can_be continues c all can = can

pub one_end : (deed : Deed) (c : Call) (o : Output) (status : ℕ) → HasEnd deed c o status → HasOneEnd deed c o status
one_end deed c o status h = record {
  end = h;
  answer = record {
    refusals = λ all cause told r. refusals c o all deed cause h.which (why_told deed c o all h.which told h.why) r;
    accepted = λ all told can n. accepted c o all deed h.which (why_told deed c o all h.which told h.why) (can_be deed c all can) (none_fails c o all n);
  };
}
