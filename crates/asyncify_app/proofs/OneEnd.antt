-- A call's end, from that of its command.
use Rattle.std.proofs.Common.{◌≡◌, ◌⊎◌, inl, inr, ℕ, List, [], Option, Some, None, arith, refl, sym, subst}
use Rattle.vault_port.specs.Counts.{FailsOnce}
use Rattle.vault_port.specs.Files.{Files, ChangesOnly, HoldsFrontAtMost}
use Rattle.vault_port.specs.Told.{Becomes}
use Rattle.wa_types.specs.Encoding.{Enc}
use Rattle.script_model.specs.Command.{Command, Manner, transform, OnTransform}
use Rattle.script_model.specs.Spelled.{Spelled, rewriting, rewrites, hosts, runs, generates, saves, continues}
use Rattle.script_model.specs.Transcript.{refusal_line, write_fault}
use Rattle.transcript.specs.Refused.{EndsInMemory, Prints, PrintsMemory, PrintsMemoryPast}
use Rattle.transcript.proofs.Printed.{memory_alone}
use Rattle.gen_module.specs.Generated.{generated}
use Rattle.asyncify_app.specs.Printed as G
use Rattle.script_command.specs.declared.way.Way.TheVariants.{Host, Run}
use Rattle.script_command.proofs.Answering.{one_end}
use Rattle.script_command.proofs.Ending.{out_of_memory_alone}
use Rattle.script_command.specs.SnapshotAnswers as N
use Rattle.script_command.specs.SnapshotCalls as S
use Rattle.script_command.specs.SnapshotEnds.{memory}
use Rattle.transform_command.specs.Transforms.{RunsOutOfMemory}
use Rattle.transform_command.proofs.OneEnd as TransformEnds
use Rattle.transform_command.proofs.Printed.{memory_any}
use Rattle.asyncify_app.specs.Ends.{Call, EndsBy, GeneratesOnce, HasOneEnd, output_of, snapshot_call, transform_call, script_call}

-- The words spell this.
pub spelled_ends : (c : Call) (status : ℕ) (o : Option Spelled) → c.spelled ≡ o → EndsBy c o status → HasOneEnd c status
spelled_ends c status o e h = subst (λ (x : Option Spelled). EndsBy c x status) (sym e) h

becomes_by : (P Q : List ℕ → List ℕ → Type 0) → ((x y : List ℕ) → P x y → Q x y) → (old new : Option (List ℕ)) → Becomes old new P → Becomes old new Q
becomes_by P Q f None None h = tt
becomes_by P Q f (Some x) (Some y) h = f x y h
becomes_by P Q f None (Some y) h = h
becomes_by P Q f (Some x) None h = h

same_files : (R : Files → Files → Type 0) → ((a : Files) → R a a) → (old : Option Files) → Becomes old old R
same_files R r None = tt
same_files R r (Some a) = r a

module _ (c : Call) (status : ℕ) (nine : status ≡ 9) (kept : c.files' ≡ c.files) (same : c.devices' ≡ c.devices) (printed : Becomes c.taken c.taken' (EndsInMemory c.sink_faults c.sink_faults')) where
  none_saved : (output bytes : List ℕ) → Becomes c.files c.files' (HoldsFrontAtMost output bytes)
  none_saved output bytes =
      subst (λ (new : Option Files). Becomes c.files new (HoldsFrontAtMost output bytes)) (sym kept)
      (same_files (HoldsFrontAtMost output bytes) (λ a. record { changed = inr refl; others = λ other differs. refl }) c.files)

  no_line : (n : ℕ) (output : List ℕ) → Becomes c.taken c.taken' (G.RunsOutOfMemory n output c.sink_faults c.sink_faults')
  no_line n output =
      let line = refusal_line None (write_fault output) in
      becomes_by (PrintsMemory line c.sink_faults c.sink_faults') (G.RunsOutOfMemory n output c.sink_faults c.sink_faults') (λ x y h. (line, inr refl, h)) c.taken c.taken' (memory_alone line _ _ c.taken c.taken' printed)

  no_event : Becomes c.taken c.taken' (PrintsMemoryPast 0 [] c.sink_faults c.sink_faults')
  no_event =
      becomes_by (PrintsMemory [] c.sink_faults c.sink_faults') (PrintsMemoryPast 0 [] c.sink_faults c.sink_faults') (λ x y h. (h.0, h.1, h.2, omega arith, h.3)) c.taken c.taken'
      (memory_alone [] _ _ c.taken c.taken' printed)

  no_snapshot : (deed : S.Deed) (script snap : List ℕ) → N.HasOneEnd deed (snapshot_call c script snap) (output_of c) status
  no_snapshot deed script snap = record {
    end = record { which = memory; by_status = nine; why = (0, [], inl (record { none = refl; devices = same; files = kept }, refl), no_event) };
    answer = record { refusals = λ all cause told refused. inr (inl refl); accepted = λ all told can nothing. inr (inl refl) };
  }

  by_memory : (o : Option Spelled) → EndsBy c o status
  by_memory None = inr nine
  by_memory (Some (rewrites (transform s input output))) = TransformEnds.memory_ends (transform_call c s input output) status nine
  by_memory (Some (hosts script)) = one_end (script_call c Host script) status (out_of_memory_alone (script_call c Host script) status same nine printed)
  by_memory (Some (runs script)) = one_end (script_call c Run script) status (out_of_memory_alone (script_call c Run script) status same nine printed)
  by_memory (Some (saves script events snap)) = no_snapshot (S.saves events) script snap
  by_memory (Some (continues script snap)) = no_snapshot S.continues script snap
  by_memory (Some (generates n output)) = inr (inl (nine, none_saved output (Enc (generated n)), no_line n output))

  -- Memory is wanting before the words are read.
  pub memory_ends : HasOneEnd c status
  memory_ends = by_memory c.spelled

-- A module was generated.
pub generated_ends : (c : Call) (n : ℕ) (output : List ℕ) (status : ℕ) → (status ≡ 0) ⊎ (status ≡ 9) ⊎ (status ≡ 11) ⊎ (status ≡ 12)
    → (status ≡ 11 → FailsOnce c.save_faults c.save_faults') → (status ≡ 12 → FailsOnce c.sink_faults c.sink_faults')
    → ((status ≡ 0) ⊎ (status ≡ 12) → Becomes c.files c.files' (ChangesOnly output (Enc (generated n))))
    → ((status ≡ 9) ⊎ (status ≡ 11) → Becomes c.files c.files' (HoldsFrontAtMost output (Enc (generated n))))
    → (status ≡ 0 → Becomes c.taken c.taken' (G.PrintsGenerated n)) → (status ≡ 12 → Becomes c.taken c.taken' (G.PrintsLess n))
    → (status ≡ 9 → Becomes c.taken c.taken' (G.RunsOutOfMemory n output c.sink_faults c.sink_faults'))
    → (status ≡ 11 → Becomes c.taken c.taken' (Prints (refusal_line None (write_fault output)) c.sink_faults c.sink_faults'))
    → GeneratesOnce c n output status
generated_ends c n output status by write sink done cut all less wanting refused = elim by [
  | inl zero ↦ inl (zero, done (inl zero), all zero)
  | inr x ↦ elim x [
    | inl nine ↦ inr (inl (nine, cut (inl nine), wanting nine))
    | inr y ↦ elim y [
      | inl eleven ↦ inr (inr (inl (eleven, write eleven, cut (inr eleven), refused eleven)))
      | inr twelve ↦ inr (inr (inr (twelve, sink twelve, done (inr twelve), less twelve)))
    ]
  ]
]

-- the line on memory alone, whatever the words spell
memory_unread : (o : Option Command) (files files' : Option Files) (status f f' : ℕ) (old new : Option (List ℕ)) → Becomes old new (EndsInMemory f f')
    → OnTransform o (λ s input output. status ≡ 9 → Becomes old new (RunsOutOfMemory s files files' input output f f'))
memory_unread None files files' status f f' old new h = tt
memory_unread (Some (transform s input output)) files files' status f f' old new h = λ n. memory_any s files files' input output f f' old new h

pub memory_unread_words : (o : Option Spelled) (files files' : Option Files) (status f f' : ℕ) (old new : Option (List ℕ)) → Becomes old new (EndsInMemory f f')
    → OnTransform (rewriting o) (λ s input output. status ≡ 9 → Becomes old new (RunsOutOfMemory s files files' input output f f'))
memory_unread_words o files files' status f f' old new h = memory_unread (rewriting o) files files' status f f' old new h

-- the words are no `transform`
pub no_transform : (o : Option Spelled) (P : Manner → List ℕ → List ℕ → Type 0) → rewriting o ≡ None → OnTransform (rewriting o) P
no_transform o P e = subst (λ (x : Option Command). OnTransform x P) (sym e) tt
