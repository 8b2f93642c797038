-- What the steps of a call make of it.
use Rattle.std.proofs.Common.{◌≡◌, ◌≢◌, ◌≤◌, inl, inr, ℕ, suc, List, [], ◌∷◌, ◌++◌, length, Option, Some, None, Result, Ok, Err, refl, sym, ap, ◌∙◌, subst, arith}
use Rattle.std.specs.Prelude.{All, IfOk, IsErrOf}
use Rattle.std.specs.List.{AllZip}
use Rattle.std.specs.Result.{IfErr}
use Rattle.std.proofs.lemmas.List.{append-nil, take_all}
use Rattle.std.proofs.lemmas.List.Elements.{All-weaker}
use Rattle.vault_port.specs.Counts.{FailsAtMostOnce, FailsOnce}
use Rattle.vault_port.specs.Files.{CannotRead, Files}
use Rattle.vault_port.specs.Taken.{Appends}
use Rattle.vault_port.specs.Told.{Becomes}
use Rattle.vault_port.proofs.Telling.{Becomes_same}
use Rattle.vault_port.specs.declared.whole.PutFault.{PutFault}
use Rattle.vault_port.specs.declared.whole.PutFault.TheVariants as F
use Rattle.event_order.specs.Left.{Counted}
use Rattle.wa_model.specs.declared.answers.Detach.{Detach}
use Rattle.script_model.specs.Transcript.{Refusal}
use Rattle.transcript.specs.Printing.{refusal_of}
use Rattle.transcript.specs.Refused.{CountsBy, status_of}
use Rattle.transcript.proofs.Counts.{put_alone, refused_counts, unread_counts, unsaved_counts, wanting_counts}
use Rattle.transcript.specs.declared.refusals.RefusalKind.TheVariants as K
use Rattle.snapshot_store.specs.Snapshots.{ProgramRecord, RecordFits, Snapshot, SnapText, fresh, over, paused, snapshot_bytes}
use Rattle.snapshot_store.specs.declared.snapshot.Snapshot.{Snapshot as SnapshotValue}
use Rattle.snapshot_store.specs.Views.{snapshot_of}
use Rattle.snapshot_store.proofs.Splits.{one_snapshot}
use Rattle.script_command.specs.Views.{CanStage, parts_of}
use Rattle.script_command.specs.declared.opening.Opened.{Opened}
use Rattle.script_command.specs.Playing.{detaches_in}
use Rattle.world_hosting.specs.Continued.{AreResumedAt, Continues, ContinuesPart, IsWhole}
use Rattle.world_hosting.specs.Saved.{Saves, SavesPart}
use Rattle.world_hosting.specs.Suiting.{SnapshotSuits}
use Rattle.world_hosting.specs.Worlds.{Part, PrintsPart, world_programs}
use Rattle.script_command.specs.declared.programs.Planned.{Planned}
use Rattle.world_hosting.specs.declared.resuming.Resumed.{Resumed}
use Rattle.wa_types.specs.declared.syntax.Module.{Module}
use Rattle.script_command.proofs.PutBack.{parts_long}
use Rattle.pause_host.specs.declared.faults.ThawFault.{ThawFault}
use Rattle.pause_host.specs.declared.faults.ThawFault.TheVariants as W
use Rattle.script_command.specs.declared.stop.Stop.{Stop}
use Rattle.script_command.specs.declared.stop.Stop.TheVariants as T
use Rattle.script_command.specs.SnapshotCalls.{Call, Deed, Output, call, continues, output, saves}
use Rattle.script_command.specs.PlainScripts as S
use Rattle.script_command.specs.PlainScripts.{IsRead, IsUnplayed, Play}
use Rattle.script_command.specs.SnapshotTelling.{HoldsNone, HoldsSnapshot, IsCause, IsReadBy, LeavesAll, long, programs_of, unfit, unplayed, unread, unwritten}
use Rattle.script_command.specs.SnapshotViews.{Blames, Does, Holding, IsPutStop, IsToldStop, NoSnapshot, Opens, StandFor, Stops, status_by, status_of_stop, Writes, refused_for, stop_by, thaw_stop}

-- ---- what is printed

no_text : (taken : Option (List ℕ)) → Becomes taken taken (Appends [])
no_text taken = Becomes_same (Appends []) (λ x. sym (append-nil x)) taken

no_part : (taken : Option (List ℕ)) → Becomes taken taken (PrintsPart F.Memory 0 [])
no_part taken = Becomes_same (PrintsPart F.Memory 0 []) (λ x. (0, omega arith, sym (append-nil x))) taken

whole_part : (text : List ℕ) (old new : Option (List ℕ)) → Becomes old new (Appends text) → Becomes old new (PrintsPart F.Memory (length text) text)
whole_part text None None h = tt
whole_part text (Some x) (Some y) h = (length text, omega arith, h ∙ ap (λ s. x ++ s) (sym (take_all (length text) text (omega arith))))
whole_part text None (Some y) h = h
whole_part text (Some x) None h = h

-- ---- scripts that aren't opened

unplayed_cause : (deed : Deed) (c : Call) (cause : S.Cause) (text : List ℕ) → IsUnplayed c.files c.script cause → LeavesAll c text → IsCause deed c (unplayed cause) text
unplayed_cause (saves most) c cause text h l = (h, l)
unplayed_cause continues c cause text h l = (h, l)

read_by : (deed : Deed) (c : Call) (read : List ℕ) → IsRead c.files c.script read → IsReadBy deed c read
read_by (saves most) c read h = h
read_by continues c read h = inl h

module _ (deed : Deed) (name snap : List ℕ) (files files' : Option Files) (f f' s s' : ℕ) (ds : List Counted) (taken : Option (List ℕ)) (p : ℕ) (same : files' ≡ files) where
  abbrev here : Call
  here = call name snap files files' f f' s s' ds ds

  leaves : LeavesAll here []
  leaves = record { none = refl; devices = refl; files = same }

  -- memory is wanting before anything is told
  pub nothing_told : Stops deed here (output taken taken p p) T.Memory
  nothing_told = (0, [], inl (leaves, refl), no_part taken, refl)

  pub opening_stops : (stop : Stop) → Blames files f f' name stop → Stops deed here (output taken taken p p) stop
  opening_stops T.Memory b = nothing_told
  opening_stops T.Sink b = absurd b
  opening_stops (T.Refused r) b = elim b [
    | inl own ↦ let told = own.0 in (unplayed told.0, [], unplayed_cause deed here told.0 [] told.1 leaves, told.2, told.3, no_text taken, refl)
    | inr read ↦ (unread read.0, [], read_cause deed read.0 read.1 read.2, read.3.0, read.3.1, no_text taken, refl)
  ]
    where
      read_cause : (deed : Deed) (read : List ℕ) → IsRead files name read → CannotRead files read f f' → IsCause deed here (unread read) []
      read_cause (saves most) read is why = (is, why, leaves)
      read_cause continues read is why = (inl is, why, leaves)

-- ---- what is saved

module _ (most : ℕ) (name snap : List ℕ) (files : Option Files) (f f' s s' : ℕ) (ds ds' : List Counted) (taken taken' : Option (List ℕ)) (p p' : ℕ) (play : Play files name)
    (detaches : List Detach) (taken_out : detaches_in play.run.whole ≡ detaches) where
  -- the sink failed, or memory was wanting, while lines were printed
  pub part_stops : {T : Type 0} (fault : PutFault) (stop : Stop) → stop ≡ stop_by fault → (IsErrOf {T = T} (Err fault) F.Fault → FailsOnce p p') → ((IsErrOf {T = T} (Err fault) F.Fault → ⊥) → p' ≡ p)
      → SavesPart fault play.run.parts detaches most ds ds' taken taken' → Stops (saves most) (call name snap files files f f' s s' ds ds') (output taken taken' p p') stop
  part_stops {T = T} fault stop is failed stays h =
      subst (Stops (saves most) (call name snap files files f f' s s' ds ds') (output taken taken' p p')) (sym is)
      (by fault failed stays (subst (λ (out : List Detach). SavesPart fault play.run.parts out most ds ds' taken taken') (sym taken_out) h))
    where
      by : (fault : PutFault) → (IsErrOf {T = T} (Err fault) F.Fault → FailsOnce p p') → ((IsErrOf {T = T} (Err fault) F.Fault → ⊥) → p' ≡ p)
          → SavesPart fault play.run.parts (detaches_in play.run.whole) most ds ds' taken taken'
          → Stops (saves most) (call name snap files files f f' s s' ds ds') (output taken taken' p p') (stop_by fault)
      by F.Fault failed stays h = (h.0, h.1, (record { play = play; told = h.2; few = h.3 }, refl), failed refl, h.4)
      by F.Memory failed stays h = (h.0, h.1, inr (inl (record { play = play; told = h.2; few = h.3 }, refl)), h.4, stays (λ e. cc))

-- what was played is written, or not
pub played_written : (most : ℕ) (name snap : List ℕ) (files files' : Option Files) (f f' s s' : ℕ) (ds ds' : List Counted) (taken taken' : Option (List ℕ)) (p p' : ℕ) (play : Play files name) (shot : Snapshot)
    → Saves play.run.parts (detaches_in play.run.whole) most ds ds' taken taken' shot → p' ≡ p → (r : Result (Unit {0}) Stop) → Writes shot snap files files' s s' r
    → Does (saves most) (call name snap files files' f f' s s' ds ds') (output taken taken' p p') r
played_written most name snap files files' f f' s s' ds ds' taken taken' p p' play shot told still (Ok done) w =
    (told.0, (shot, record { play = play; told = told.1 }, w.0, w.1, w.2), told.2, still)
played_written most name snap files files' f f' s s' ds ds' taken taken' p p' play shot told still (Err T.Memory) w =
    (length told.0, told.0, inr (inr (inl ((shot, record { play = play; told = told.1 }, w.0, w.1), refl))), whole_part told.0 taken taken' told.2, still)
played_written most name snap files files' f f' s s' ds ds' taken taken' p p' play shot told still (Err T.Sink) w = absurd w
played_written most name snap files files' f f' s s' ds ds' taken taken' p p' play shot told still (Err (T.Refused r)) w = elim w.1 [
  | inl more ↦ (long (length (snapshot_bytes shot)), told.0, (shot, record { play = play; told = told.1 }, refl, more.1, more.2), w.0, more.0, told.2, still)
  | inr failed ↦ (unwritten, told.0, ((shot, record { play = play; told = told.1 }, failed.1, failed.2), failed.3), w.0, failed.0, told.2, still)
]

-- ---- what goes on

module _ (name snap : List ℕ) (files : Option Files) (f f' s s' : ℕ) (taken : Option (List ℕ)) (p : ℕ) (play : Play files name) where
  -- no snapshot is there
  pub no_snapshot_stops : (files' : Option Files) (ds : List Counted) → files' ≡ files → (stop : Stop) → NoSnapshot files f f' snap stop
      → Stops continues (call name snap files files' f f' s s' ds ds) (output taken taken p p) stop
  no_snapshot_stops files' ds same T.Memory h = nothing_told continues name snap files files' f f' s s' ds taken p same
  no_snapshot_stops files' ds same T.Sink h = absurd h
  no_snapshot_stops files' ds same (T.Refused r) h = elim h.1 [
    | inl read ↦ (unread snap, [], (inr (play, refl), read.1, leaves continues name snap files files' f f' s s' ds taken p same), h.0, read.0, no_text taken, refl)
    | inr other ↦ elim other [
      | inl more ↦ (long 268435457, [], ((play, more.1, refl), leaves continues name snap files files' f f' s s' ds taken p same), h.0, more.0, no_text taken, refl)
      | inr none ↦
          let bytes = none.1 in
          let held : HoldsNone files snap (programs_of play) =
          record { bytes = bytes.bytes; holds = bytes.holds; few = bytes.few; none = λ shot text suits. bytes.none shot text } in
          (unfit, [], ((play, held), leaves continues name snap files files' f f' s s' ds taken p same), h.0, none.0, no_text taken, refl)
    ]
  ]

  -- one is there that doesn't suit the programs
  unfit_stops : (ds : List Counted) (shot : Snapshot) → Holding files snap shot → (SnapshotSuits (programs_of play) shot → ⊥)
      → Stops continues (call name snap files files f f' s s' ds ds) (output taken taken p p) (refused_for K.SnapshotRefused)
  unfit_stops ds shot held never =
      let none : (t : Snapshot) → SnapText held.bytes t → SnapshotSuits (programs_of play) t → ⊥ =
      λ t text suits. never (subst (SnapshotSuits (programs_of play)) (one_snapshot held.bytes t shot text held.spells) suits) in (
        unfit,
        [],
        ((play, record { bytes = held.bytes; holds = held.holds; few = held.few; none = none }), leaves continues name snap files files f f' s s' ds taken p refl),
        refl,
        refl,
        no_text taken,
        refl,
      )

  -- programs aren't put back
  pub thaw_stops : {T : Type 0} (fault : ThawFault) (stop : Stop) → stop ≡ thaw_stop fault → (ds : List Counted) (shot : Snapshot) → Holding files snap shot
      → (◌≡◌ {A = Result T ThawFault} (Err fault) (Err W.Unfit) → SnapshotSuits (programs_of play) shot → ⊥)
      → Stops continues (call name snap files files f f' s s' ds ds) (output taken taken p p) stop
  thaw_stops {T = T} fault stop is ds shot held never = subst (Stops continues (call name snap files files f f' s s' ds ds) (output taken taken p p)) (sym is) (by fault never) where
    by : (fault : ThawFault) → (◌≡◌ {A = Result T ThawFault} (Err fault) (Err W.Unfit) → SnapshotSuits (programs_of play) shot → ⊥)
        → Stops continues (call name snap files files f f' s s' ds ds) (output taken taken p p) (thaw_stop fault)
    by W.Memory never = nothing_told continues name snap files files f f' s s' ds taken p refl
    by W.Unfit never = unfit_stops ds shot held (never refl)

module _ (name snap : List ℕ) (files : Option Files) (f f' s s' : ℕ) (taken taken' : Option (List ℕ)) (p p' : ℕ) (play : Play files name) where
  module _ (ds ds' : List Counted) (shot : Snapshot) (holds : HoldsSnapshot files snap (programs_of play) shot) (detaches : List Detach) (taken_out : detaches_in play.run.whole ≡ detaches) where
    -- all is told
    pub continued : Continues play.run.parts shot detaches ds ds' taken taken' → p' ≡ p
        → Does continues (call name snap files files f f' s s' ds ds') (output taken taken' p p') (Ok tt)
    continued h still =
        let told = subst (λ (out : List Detach). Continues play.run.parts shot out ds ds' taken taken') (sym taken_out) h in
        (told.0, (record { play = play; snapshot = shot; holds = holds; told = told.1 }, refl), told.2, still)

    -- or some first lines
    pub rest_stops : {T : Type 0} (fault : PutFault) (stop : Stop) → stop ≡ stop_by fault → (IsErrOf {T = T} (Err fault) F.Fault → FailsOnce p p')
        → ((IsErrOf {T = T} (Err fault) F.Fault → ⊥) → p' ≡ p) → ContinuesPart fault play.run.parts shot detaches ds ds' taken taken'
        → Stops continues (call name snap files files f f' s s' ds ds') (output taken taken' p p') stop
    rest_stops {T = T} fault stop is failed stays h =
        subst (Stops continues (call name snap files files f f' s s' ds ds') (output taken taken' p p')) (sym is)
        (by fault failed stays (subst (λ (out : List Detach). ContinuesPart fault play.run.parts shot out ds ds' taken taken') (sym taken_out) h))
      where
        by : (fault : PutFault) → (IsErrOf {T = T} (Err fault) F.Fault → FailsOnce p p') → ((IsErrOf {T = T} (Err fault) F.Fault → ⊥) → p' ≡ p)
            → ContinuesPart fault play.run.parts shot (detaches_in play.run.whole) ds ds' taken taken'
            → Stops continues (call name snap files files f f' s s' ds ds') (output taken taken' p p') (stop_by fault)
        by F.Fault failed stays h = (h.0, h.1, (record { play = play; snapshot = shot; holds = holds; told = h.2 }, refl), failed refl, h.3)
        by F.Memory failed stays h = (h.0, h.1, inr (inl (record { play = play; snapshot = shot; holds = holds; told = h.2 }, refl)), h.3, stays (λ e. cc))

-- ---- records that were read

record_whole : (r : ProgramRecord) → RecordFits r → IsWhole r
record_whole fresh h = tt
record_whole (paused due x memory) h = h.1.whole
record_whole over h = tt

pub records_whole : (rs : List ProgramRecord) → All RecordFits rs → All IsWhole rs
records_whole rs h = All-weaker RecordFits IsWhole record_whole rs h

-- ---- what is told of a stop, and what has failed

-- one that comes while lines are printed
pub put_stop : (fault : PutFault) (stop : Stop) → stop ≡ stop_by fault → IsPutStop stop
put_stop F.Fault stop is = subst IsPutStop (sym is) tt
put_stop F.Memory stop is = subst IsPutStop (sym is) tt

pub put_told : (stop : Stop) → IsPutStop stop → IsToldStop stop
put_told T.Memory h = tt
put_told T.Sink h = tt
put_told (T.Refused r) h = absurd h

module _ (f f' s s' p p' : ℕ) where
  pub put_counts : (stop : Stop) → IsPutStop stop → f' ≡ f → s' ≡ s → FailsAtMostOnce p p' → CountsBy (status_of_stop stop) f f' s s' p p'
  put_counts T.Memory h fetched saved once = put_alone 9 f f' s s' p p' fetched saved once (λ e. absurd (omega (arith, e)))
  put_counts T.Sink h fetched saved once = put_alone 12 f f' s s' p p' fetched saved once (λ e. absurd (omega (arith, e)))
  put_counts (T.Refused r) h fetched saved once = absurd h

  pub rest_counts : (r : Result (Unit {0}) Stop) → IfErr r IsPutStop → f' ≡ f → s' ≡ s → FailsAtMostOnce p p' → (r ≡ Ok tt → p' ≡ p) → CountsBy (status_by r) f f' s s' p p'
  rest_counts (Ok done) h fetched saved once stays = put_alone 0 f f' s s' p p' fetched saved once (λ e. stays refl)
  rest_counts (Err stop) h fetched saved once stays = put_counts stop h fetched saved once

  pub written_counts : (shot : Snapshot) (name : List ℕ) (files files' : Option Files) (r : Result (Unit {0}) Stop) → Writes shot name files files' s s' r → f' ≡ f → p' ≡ p
      → CountsBy (status_by r) f f' s s' p p'
  written_counts shot name files files' (Ok done) w fetched still = put_alone 0 f f' s s' p p' fetched w.3 (inl still) (λ e. still)
  written_counts shot name files files' (Err T.Memory) w fetched still = record {
    fetch_once = inl fetched;
    save_once = w.2;
    put_once = inl still;
    fetches = inl refl;
    saves = inl refl;
    puts = λ e. still;
  }
  written_counts shot name files files' (Err T.Sink) w fetched still = absurd w
  written_counts shot name files files' (Err (T.Refused r)) w fetched still = elim w.1 [
    | inl more ↦ refused_counts (status_of (refusal_of r.kind)) f f' s s' p p' (refusal_of r.kind) fetched more.3 (inl refl) (inl still)
    | inr failed ↦ unsaved_counts (status_of (refusal_of r.kind)) f f' s s' p p' fetched failed.3 (inl (ap status_of failed.0)) (inl still)
  ]

  pub no_snapshot_counts : (files : Option Files) (name : List ℕ) (stop : Stop) → NoSnapshot files f f' name stop → FailsAtMostOnce f f' → s' ≡ s → p' ≡ p → CountsBy (status_of_stop stop) f f' s s' p p'
  no_snapshot_counts files name T.Memory h once saved still = wanting_counts 9 f f' s s' p p' once saved refl (inl still)
  no_snapshot_counts files name T.Sink h once saved still = absurd h
  no_snapshot_counts files name (T.Refused r) h once saved still = elim h.1 [
    | inl read ↦ unread_counts (status_of (refusal_of r.kind)) f f' s s' p p' once saved (inl (ap status_of read.0)) (inl still)
    | inr other ↦ elim other [
      | inl more ↦ refused_counts (status_of (refusal_of r.kind)) f f' s s' p p' (refusal_of r.kind) more.2 saved (inl refl) (inl still)
      | inr none ↦ refused_counts (status_of (refusal_of r.kind)) f f' s s' p p' (refusal_of r.kind) none.2 saved (inl refl) (inl still)
    ]
  ]

not_nine : (r : Refusal) (n : ℕ) → n ≢ 9 → status_of r ≡ n → status_of r ≢ 9
not_nine r n other is e = other (sym is ∙ e)

pub written_told : (shot : Snapshot) (name : List ℕ) (files files' : Option Files) (s s' : ℕ) (r : Result (Unit {0}) Stop) → Writes shot name files files' s s' r → IfErr r IsToldStop
written_told shot name files files' s s' (Ok done) w = tt
written_told shot name files files' s s' (Err T.Memory) w = tt
written_told shot name files files' s s' (Err T.Sink) w = tt
written_told shot name files files' s s' (Err (T.Refused r)) w = elim w.1 [
  | inl more ↦ not_nine (refusal_of r.kind) 6 (λ e. absurd (omega (arith, e))) (ap status_of more.0)
  | inr failed ↦ not_nine (refusal_of r.kind) 11 (λ e. absurd (omega (arith, e))) (ap status_of failed.0)
]

pub no_snapshot_told : (files : Option Files) (f f' : ℕ) (name : List ℕ) (stop : Stop) → NoSnapshot files f f' name stop → IsToldStop stop
no_snapshot_told files f f' name T.Memory h = tt
no_snapshot_told files f f' name T.Sink h = tt
no_snapshot_told files f f' name (T.Refused r) h = elim h.1 [
  | inl read ↦ not_nine (refusal_of r.kind) 10 (λ e. absurd (omega (arith, e))) (ap status_of read.0)
  | inr other ↦ elim other [
    | inl more ↦ not_nine (refusal_of r.kind) 6 (λ e. absurd (omega (arith, e))) (ap status_of more.0)
    | inr none ↦ not_nine (refusal_of r.kind) 13 (λ e. absurd (omega (arith, e))) (ap status_of none.0)
  ]
]

-- ---- over files and counts that haven't changed since

pub does_since : (deed : Deed) (name snap : List ℕ) (files mid files' : Option Files) (f g f' s t s' : ℕ) (ds ds' : List Counted) (o : Output) (r : Result (Unit {0}) Stop) → mid ≡ files → g ≡ f → t ≡ s
    → Does deed (call name snap mid files' g f' t s' ds ds') o r → Does deed (call name snap files files' f f' s s' ds ds') o r
does_since deed name snap files mid files' f g f' s t s' ds ds' o r same fetched saved h =
    subst (λ (x : Option Files). Does deed (call name snap x files' f f' s s' ds ds') o r) same
    (subst (λ (n : ℕ). Does deed (call name snap mid files' n f' s s' ds ds') o r) fetched
    (subst (λ (n : ℕ). Does deed (call name snap mid files' g f' n s' ds ds') o r) saved h))

pub counts_since : (status f g f' s t s' p p' : ℕ) → g ≡ f → t ≡ s → CountsBy status g f' t s' p p' → CountsBy status f f' s s' p p'
counts_since status f g f' s t s' p p' fetched saved h =
    subst (λ (n : ℕ). CountsBy status n f' s s' p p') fetched (subst (λ (n : ℕ). CountsBy status g f' n s' p p') saved h)

pub opens_since : (files mid : Option Files) (name : List ℕ) (o : Opened) → mid ≡ files → Opens files name o → Opens mid name o
opens_since files mid name o same h = subst (λ (x : Option Files). Opens x name o) (sym same) h

-- what is saved with the devices that are taken out
pub saved_out : {E : Type 0} (r : Result SnapshotValue E) (parts : List Part) (out detaches : List Detach) → out ≡ detaches → (most : ℕ) (ds ds' : List Counted) (taken taken' : Option (List ℕ))
    → IfOk r (λ s. Saves parts detaches most ds ds' taken taken' (snapshot_of s)) → IfOk r (λ s. Saves parts out most ds ds' taken taken' (snapshot_of s))
saved_out r parts out detaches same most ds ds' taken taken' h =
    subst (λ (x : List Detach). IfOk r (λ s. Saves parts x most ds ds' taken taken' (snapshot_of s))) (sym same) h

pub does_kept : (deed : Deed) (name snap : List ℕ) (files files' : Option Files) (f f' s s' : ℕ) (ds ds' : List Counted) (o : Output) (r : Result (Unit {0}) Stop) → files' ≡ files
    → Does deed (call name snap files files f f' s s' ds ds') o r → Does deed (call name snap files files' f f' s s' ds ds') o r
does_kept deed name snap files files' f f' s s' ds ds' o r same h = subst (λ (x : Option Files). Does deed (call name snap files x f f' s s' ds ds') o r) (sym same) h

-- ---- programs that stand for their records

pub resumed_parts : (planned : List Planned) (lent modules : List Module) (parts : List Part) (shot : Snapshot) (resumed : List Resumed) → parts ≡ parts_of modules planned → lent ≡ modules
    → StandFor (parts_of lent planned) shot resumed → StandFor parts shot resumed
resumed_parts planned lent modules parts shot resumed e same h =
    subst (λ (ps : List Part). StandFor ps shot resumed) (sym e) (subst (λ (ms : List Module). StandFor (parts_of ms planned) shot resumed) same h)

pub suited_parts : (planned : List Planned) (lent modules : List Module) (parts : List Part) (shot : Snapshot) → parts ≡ parts_of modules planned → lent ≡ modules
    → SnapshotSuits (world_programs parts) shot → SnapshotSuits (world_programs (parts_of lent planned)) shot
suited_parts planned lent modules parts shot e same h =
    subst (λ (ms : List Module). SnapshotSuits (world_programs (parts_of ms planned)) shot) (sym same) (subst (λ (ps : List Part). SnapshotSuits (world_programs ps) shot) e h)

resumed_long : (parts : List Part) (records : List ProgramRecord) (resumed : List Resumed) → AreResumedAt parts records resumed → length resumed ≡ length parts
resumed_long [] [] [] h = refl
resumed_long (x ∷ xs) (r ∷ rs) (z ∷ zs) h = ap suc (resumed_long xs rs zs h.1)
resumed_long [] [] (z ∷ zs) h = absurd h
resumed_long [] (r ∷ rs) zs h = absurd h
resumed_long (x ∷ xs) [] zs h = absurd h
resumed_long (x ∷ xs) (r ∷ rs) [] h = absurd h

pub few_resumed : (modules : List Module) (planned : List Planned) (shot : Snapshot) (resumed : List Resumed) → AllZip CanStage modules planned → length planned ≤ 16
    → StandFor (parts_of modules planned) shot resumed → length resumed ≤ 16
few_resumed modules planned shot resumed can few h =
    let long = resumed_long (parts_of modules planned) shot.programs resumed h.are in
    let parts = parts_long modules planned can in
    omega (arith, few, long, parts)

-- the file's snapshot fits the programs that stand for it
pub held_fits : (files : Option Files) (snap : List ℕ) (parts : List Part) (shot : Snapshot) (resumed : List Resumed) → Holding files snap shot → StandFor parts shot resumed
    → HoldsSnapshot files snap (world_programs parts) shot
held_fits files snap parts shot resumed held h = record { bytes = held.bytes; holds = held.holds; few = held.few; spells = held.spells; suits = h.suits }

-- the stop of programs that aren't put back is told, and counts nothing
pub thaw_told : (fault : ThawFault) (stop : Stop) → stop ≡ thaw_stop fault → IsToldStop stop
thaw_told W.Memory stop is = subst IsToldStop (sym is) tt
thaw_told W.Unfit stop is = subst IsToldStop (sym is) (λ e. absurd (omega (arith, e)))

pub thaw_counts : (fault : ThawFault) (stop : Stop) → stop ≡ thaw_stop fault → (f f' s s' p : ℕ) → f' ≡ f → s' ≡ s → CountsBy (status_of_stop stop) f f' s s' p p
thaw_counts fault stop is f f' s s' p fetched saved = subst (λ (x : Stop). CountsBy (status_of_stop x) f f' s s' p p) (sym is) (by fault) where
  by : (fault : ThawFault) → CountsBy (status_of_stop (thaw_stop fault)) f f' s s' p p
  by W.Memory = put_alone 9 f f' s s' p p fetched saved (inl refl) (λ e. refl)
  by W.Unfit = put_alone 13 f f' s s' p p fetched saved (inl refl) (λ e. refl)
