-- A call's end, from what was played or refused.
use Rattle.std.proofs.Common.{◌≡◌, ◌⊎◌, inl, inr, ℕ, List, [], ◌∷◌, ◌++◌, take, Option, Some, None, refl, sym, ap, ◌∙◌, subst, arith}
use Rattle.vault_port.specs.Counts.{FailsOnce}
use Rattle.vault_port.specs.Files.{Files, CannotRead}
use Rattle.vault_port.specs.Told.{Becomes}
use Rattle.vault_port.proofs.Telling.{Becomes_then}
use Rattle.vault_port.specs.declared.whole.PutFault.{PutFault}
use Rattle.vault_port.specs.declared.whole.PutFault.TheVariants.{Fault, Memory}
use Rattle.wa_model.specs.declared.answers.Detach.{Detach}
use Rattle.vault_port.specs.Taken.{Appends, AppendsPast}
use Rattle.script_model.specs.Script.{MailboxText, strand_line}
use Rattle.script_model.specs.Transcript.{Refusal, refusal_line, read_fault}
use Rattle.transcript.specs.Printing.{refusal_of}
use Rattle.event_order.specs.Left.{Counted}
use Rattle.transcript.specs.Refused.{EndsInMemory, FailsLast, PrintsMemory, PrintsMemoryPast, memory_line}
use Rattle.transcript.proofs.Printed.{memory_alone}
use Rattle.script_command.specs.declared.way.Way.{Way}
use Rattle.script_command.specs.Playing.{Play, Cause, IsRefused, IsRead, detaches_in, refusal_of_cause}
use Rattle.world_hosting.specs.MailWorlds.{AreMailBegun, AreMailEnded, AreMailTold, TellsMail, TellsMailPart}
use Rattle.world_hosting.specs.Worlds.{AreBegun, AreEnded, AreTold, Part, PrintsPart, Tells, TellsPart}
use Rattle.script_command.specs.Ends.{Call, call, done, memory, sink_fault, refused, read_fault_of, cause_line, HasEnd, IsLine, program_of_cause}
use Rattle.script_command.specs.declared.stop.Stop.{Stop}
use Rattle.script_command.specs.declared.stop.Stop.TheVariants as S
use Rattle.script_command.specs.SnapshotCalls.{output}
use Rattle.script_command.specs.SnapshotViews as T
use Rattle.script_command.specs.SnapshotViews.{TellsLine}
use Rattle.script_command.specs.Views.{Blames}
use Rattle.script_command.specs.MailTold.{boxes_of}
use Rattle.script_command.specs.Told.{ByMail, ByStrands, IsBegun, IsTold}
use Rattle.world_hosting.proofs.DeviceLogs.{devices_logged}
use Rattle.script_command.proofs.MailToldOf.{mail_told_of}
use Rattle.script_command.proofs.OfOriginals.{of_originals}
use Rattle.script_command.proofs.Played.{played_faults}

-- ---- ends

out_of_memory_behind : (c : Call) (status : ℕ) → status ≡ 9 → (least : ℕ) (line : List ℕ) → IsLine c least line → Becomes c.taken c.taken' (PrintsMemoryPast least line c.sink_faults c.sink_faults') → HasEnd c status
out_of_memory_behind c status nine least line is h = record { which = memory; by_status = nine; why = (least, line, is, h) }

-- behind one line, of which anything may have been printed
past_none : (line : List ℕ) (p p' : ℕ) (old new : Option (List ℕ)) → Becomes old new (PrintsMemory line p p') → Becomes old new (PrintsMemoryPast 0 line p p')
past_none line p p' None None h = tt
past_none line p p' (Some x) (Some y) h = (h.0, h.1, h.2, omega arith, h.3)
past_none line p p' None (Some y) h = h
past_none line p p' (Some x) None h = h

-- the line of a script that couldn't be read might have been begun at any time
pub out_of_memory_alone : (c : Call) (status : ℕ) → c.devices' ≡ c.devices → status ≡ 9 → Becomes c.taken c.taken' (EndsInMemory c.sink_faults c.sink_faults') → HasEnd c status
out_of_memory_alone c status same nine h =
    let line = refusal_line None (read_fault c.name) in
    out_of_memory_behind c status nine 0 line (inr (inr (c.name, inl refl, refl, refl, same))) (past_none line _ _ c.taken c.taken' (memory_alone line _ _ c.taken c.taken' h))

-- what is printed of a refusal
abbrev Printed : Call → (status : ℕ) → Option ℕ → Refusal → Type 0
Printed c status program r = TellsLine program r status (output c.taken c.taken' c.sink_faults c.sink_faults')

refused_so : (c : Call) (status : ℕ) (cause : Cause) → c.devices' ≡ c.devices → IsRefused c.way c.files c.name cause → Printed c status (program_of_cause cause) (refusal_of_cause cause)
    → HasEnd c status
refused_so c status cause same why h = elim h [
  | inl told ↦ record { which = refused cause; by_status = told.0; why = (why, told.1, same) }
  | inr nine ↦ out_of_memory_behind c status nine.0 0 (cause_line cause) (inr (inl (cause, why, refl, refl, same))) (past_none (cause_line cause) _ _ c.taken c.taken' nine.1)
]

unread : (c : Call) (status : ℕ) (name : List ℕ) → c.devices' ≡ c.devices → IsRead c.way c.files c.name name → CannotRead c.files name c.fetch_faults c.fetch_faults' → Printed c status None (read_fault name)
    → HasEnd c status
unread c status name same is why h = elim h [
  | inl told ↦ record { which = read_fault_of name; by_status = told.0; why = (is, why, told.1, same) }
  | inr nine ↦
      out_of_memory_behind c status nine.0 0 (refusal_line None (read_fault name)) (inr (inr (name, is, refl, refl, same)))
      (past_none (refusal_line None (read_fault name)) _ _ c.taken c.taken' nine.1)
]

printed_so : (c : Call) (status : ℕ) (program named : Option ℕ) (r told : Refusal) → program ≡ named → r ≡ told → Printed c status program r → Printed c status named told
printed_so c status program named r told e is h = subst (Printed c status named) is (subst (λ (n : Option ℕ). Printed c status n r) e h)

-- why a script isn't played
pub stopped : (c : Call) (status : ℕ) (stop : Stop) → c.devices' ≡ c.devices → Blames c.way c.files c.fetch_faults c.fetch_faults' c.name stop
    → T.Tells stop status (output c.taken c.taken' c.sink_faults c.sink_faults') → HasEnd c status
stopped c status S.Memory same b t = out_of_memory_alone c status same t.0 t.1
stopped c status S.Sink same b t = absurd b
stopped c status (S.Refused r) same b t = elim b [
  | inl own ↦
      let told = own.0 in
      refused_so c status told.0 same told.1 (printed_so c status r.program (program_of_cause told.0) (refusal_of r.kind) (refusal_of_cause told.0) told.2.0 told.2.1 t)
  | inr read ↦ unread c status read.0 same read.1 read.2 (printed_so c status r.program None (refusal_of r.kind) (read_fault read.0) read.3.0 read.3.1 t)
]

-- ---- what programs tell

-- the part that is told, by the fault
pub part_of_fault : (parts : List Part) (detaches : List Detach) (ds ds' : List Counted) (old new : Option (List ℕ)) (x y : PutFault) → x ≡ y → TellsPart x parts detaches ds ds' old new
    → TellsPart y parts detaches ds ds' old new
part_of_fault parts detaches ds ds' old new x y e h = subst (λ (z : PutFault). TellsPart z parts detaches ds ds' old new) e h

-- the same with mailboxes
pub mail_part_of_fault : (parts : List Part) (detaches : List Detach) (boxes : List (List ℕ)) (ds ds' : List Counted) (old new : Option (List ℕ)) (x y : PutFault) → x ≡ y
    → TellsMailPart x parts detaches boxes ds ds' old new → TellsMailPart y parts detaches boxes ds ds' old new
mail_part_of_fault parts detaches boxes ds ds' old new x y e h = subst (λ (z : PutFault). TellsMailPart z parts detaches boxes ds ds' old new) e h

-- by the mailboxes that there are
by_none : (ms : List MailboxText) (without with : Type 0) → ms ≡ [] → without → ByMail ms without with
by_none ms without with e h = subst (λ (l : List MailboxText). ByMail l without with) (sym e) h

by_some : (ms : List MailboxText) (without with : Type 0) → (ms ≡ [] → ⊥) → with → ByMail ms without with
by_some [] without with some h = absurd (some refl)
by_some (m ∷ ms) without with some h = h

-- and by the strands
alone : (o : Option ℕ) (without with : Type 0) → o ≡ None → without → ByStrands o without with
alone o without with e h = subst (λ (l : Option ℕ). ByStrands l without with) (sym e) h

pub by_strands : (o : Option ℕ) (line : ℕ) (without with : Type 0) → o ≡ Some line → with → ByStrands o without with
by_strands o line without with e h = subst (λ (l : Option ℕ). ByStrands l without with) (sym e) h

module _ (way : Way) (name : List ℕ) (files : Option Files) (fetched fetched' put put' : ℕ) (ds ds' : List Counted) (play : Play way files name) where
  -- the end of a call that was told so
  abbrev pub Told : (status : ℕ) → (old new : Option (List ℕ)) → Type 0
  Told status old new = HasEnd (call way name files fetched fetched' put put' old new ds ds') status

  pub all_told : (text : List ℕ) → IsTold play ds ds' text → (old new : Option (List ℕ)) → Becomes old new (Appends text) → Told 0 old new
  all_told text told old new h = record { which = done; by_status = refl; why = (play, text, told, h) }

  -- the sink failed
  pub cut : (least : ℕ) (text : List ℕ) → IsBegun Fault play ds ds' least text → FailsOnce put put' → (old new : Option (List ℕ)) → Becomes old new (AppendsPast least text) → Told 12 old new
  cut least text begun failed old new h = record { which = sink_fault; by_status = refl; why = (play, failed, least, text, begun, h) }

  -- memory is wanting behind what was told
  pub wanting : (least : ℕ) (text : List ℕ) → IsBegun Memory play ds ds' least text → (old mid new : Option (List ℕ)) (status q : ℕ) → status ≡ 9 → q ≡ put
      → Becomes old mid (PrintsPart Memory least text) → Becomes mid new (EndsInMemory q put') → Told status old new
  wanting least text begun old mid new status q nine still part h =
      out_of_memory_behind (call way name files fetched fetched' put put' old new ds ds') status nine least text (inl (play, begun))
      (Becomes_then (PrintsPart Memory least text) (EndsInMemory q put') (PrintsMemoryPast least text put put') (λ x y z p k. (p.0, k.0, subst (λ (n : ℕ). FailsLast k.0 n put') still k.1, p.1, k.2 ∙ ap (λ s. s ++ take k.0 memory_line) p.2)) old mid new part h)

  module _ (detaches : List Detach) (same : detaches_in play.whole ≡ detaches) (unstranded : strand_line play.whole ≡ None) where
    -- ---- without mailboxes

    module _ (none : play.whole.mailboxes ≡ []) where
      told_so : (text : List ℕ) → AreTold play.parts detaches ds ds' text → IsTold play ds ds' text
      told_so text h =
          let told = subst (λ (l : List Detach). AreTold play.parts l ds ds' text) (sym same) h in
          alone (strand_line play.whole) _ _ unstranded (by_none play.whole.mailboxes _ _ none (record {
            told = told;
            originals = of_originals way files name play unstranded ds ds' text told;
            logs = devices_logged play.parts (detaches_in play.whole) ds ds' text told;
            faults = played_faults way files name play ds ds' text told;
          }))

      begun_so : (fault : PutFault) (least : ℕ) (text : List ℕ) → AreBegun fault play.parts detaches ds ds' least text ⊎ AreEnded play.parts detaches ds ds' least text
          → IsBegun fault play ds ds' least text
      begun_so fault least text h = alone (strand_line play.whole) _ _ unstranded (by_none play.whole.mailboxes _ _ none (elim h [
        | inl begun ↦ inl (subst (λ (l : List Detach). AreBegun fault play.parts l ds ds' least text) (sym same) begun)
        | inr ended ↦ inr (subst (λ (l : List Detach). AreEnded play.parts l ds ds' least text) (sym same) ended)
      ]))

      pub programs_told : (old new : Option (List ℕ)) → Tells play.parts detaches ds ds' old new → Told 0 old new
      programs_told old new h = all_told h.0 (told_so h.0 h.1) old new h.2

      pub programs_cut : (old new : Option (List ℕ)) → FailsOnce put put' → TellsPart Fault play.parts detaches ds ds' old new → Told 12 old new
      programs_cut old new failed h = cut h.0 h.1 (begun_so Fault h.0 h.1 h.2) failed old new h.3

      pub programs_wanting : (old mid new : Option (List ℕ)) (status q : ℕ) → status ≡ 9 → q ≡ put → TellsPart Memory play.parts detaches ds ds' old mid → Becomes mid new (EndsInMemory q put')
          → Told status old new
      programs_wanting old mid new status q nine still part h = wanting part.0 part.1 (begun_so Memory part.0 part.1 part.2) old mid new status q nine still part.3 h

    -- ---- with mailboxes

    module _ (some : play.whole.mailboxes ≡ [] → ⊥) (boxes : List (List ℕ)) (named : boxes_of play ≡ boxes) where
      mail_told_so : (text : List ℕ) → AreMailTold play.parts detaches boxes ds ds' text → IsTold play ds ds' text
      mail_told_so text h =
          alone (strand_line play.whole) _ _ unstranded
          (by_some play.whole.mailboxes _ _ some
          (mail_told_of way files name play unstranded ds ds' text
          (subst (λ (l : List Detach). AreMailTold play.parts l (boxes_of play) ds ds' text) (sym same) (subst (λ (b : List (List ℕ)). AreMailTold play.parts detaches b ds ds' text) (sym named) h))))

      mail_begun_so : (fault : PutFault) (least : ℕ) (text : List ℕ) → AreMailBegun fault play.parts detaches boxes ds ds' least text ⊎ AreMailEnded play.parts detaches boxes ds ds' least text
          → IsBegun fault play ds ds' least text
      mail_begun_so fault least text h = alone (strand_line play.whole) _ _ unstranded (by_some play.whole.mailboxes _ _ some (elim h [
        | inl begun ↦ inl (subst (λ (l : List Detach). AreMailBegun fault play.parts l (boxes_of play) ds ds' least text) (sym same) (subst (λ (b : List (List ℕ)). AreMailBegun fault play.parts detaches b ds ds' least text) (sym named) begun))
        | inr ended ↦ inr (subst (λ (l : List Detach). AreMailEnded play.parts l (boxes_of play) ds ds' least text) (sym same) (subst (λ (b : List (List ℕ)). AreMailEnded play.parts detaches b ds ds' least text) (sym named) ended))
      ]))

      pub mail_told : (old new : Option (List ℕ)) → TellsMail play.parts detaches boxes ds ds' old new → Told 0 old new
      mail_told old new h = all_told h.0 (mail_told_so h.0 h.1) old new h.2

      pub mail_cut : (old new : Option (List ℕ)) → FailsOnce put put' → TellsMailPart Fault play.parts detaches boxes ds ds' old new → Told 12 old new
      mail_cut old new failed h = cut h.0 h.1 (mail_begun_so Fault h.0 h.1 h.2) failed old new h.3

      pub mail_wanting : (old mid new : Option (List ℕ)) (status q : ℕ) → status ≡ 9 → q ≡ put → TellsMailPart Memory play.parts detaches boxes ds ds' old mid → Becomes mid new (EndsInMemory q put')
          → Told status old new
      mail_wanting old mid new status q nine still part h = wanting part.0 part.1 (mail_begun_so Memory part.0 part.1 part.2) old mid new status q nine still part.3 h
