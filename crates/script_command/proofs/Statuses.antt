-- Which statuses ends have.
use Rattle.std.proofs.Common.{◌≡◌, ◌≢◌, inl, inr, ℕ, List, Option, refl, sym, ◌∙◌, ap, subst, arith}
use Rattle.vault_port.specs.Files.{Files}
use Rattle.script_model.specs.Script.{ProgramText, ScriptFault, breaks, too_many}
use Rattle.script_model.specs.Transcript.{Refusal, usage, out_of_memory, malformed, float, nesting, invalid, limit, reserved, script, read_fault, write_fault, snapshot_limit, snapshot_refused}
use Rattle.script_setup.specs.Prepared.{IsOfContent, IsUnprepared}
use Rattle.script_setup.specs.Scripts as H
use Rattle.script_setup.specs.Scripts.{IsNoScript}
use Rattle.transcript.specs.Printing.{refusal_of}
use Rattle.transcript.specs.Refused.{CountsBy, status_of}
use Rattle.transcript.specs.declared.refusals.Refusal.{Refusal as RefusalValue}
use Rattle.transcript.proofs.Counts.{refused_counts, unread_counts, wanting_counts}
use Rattle.vault_port.proofs.Fetching.{read_once}
use Rattle.transform_command.specs.Sources as S
use Rattle.transform_command.specs.Sources.{refusal_for}
use Rattle.script_command.specs.declared.way.Way.{Way}
use Rattle.script_command.specs.declared.way.Way.TheVariants.{Host, Run}
use Rattle.script_command.specs.declared.stop.Stop.{Stop}
use Rattle.script_command.specs.declared.stop.Stop.TheVariants.{Memory, Refused, Sink}
use Rattle.script_command.specs.Ends.{Call, End, done, memory, sink_fault, refused, read_fault_of, status_of_end, HasEnd, IsWhy, IsStatus}
use Rattle.script_command.specs.Playing.{Cause, bad_script, bad_module, bad_line, IsBadModule, IsRefused, refusal_of_cause}
use Rattle.script_command.specs.Views.{Blames, StopsFor}
use Rattle.script_command.specs.SnapshotViews.{IsToldStop, status_of_stop}

-- ---- refusals of contents

unprepared_content : (bytes : List ℕ) (r : Refusal) → IsUnprepared bytes r → IsOfContent r
unprepared_content bytes (malformed at) h = tt
unprepared_content bytes (float at) h = tt
unprepared_content bytes (nesting at) h = tt
unprepared_content bytes (limit what found) h = tt
unprepared_content bytes (invalid func rule at) h = tt
unprepared_content bytes (reserved name) h = tt
unprepared_content bytes (script line rule) h = tt
unprepared_content bytes usage h = h
unprepared_content bytes out_of_memory h = h
unprepared_content bytes (read_fault name) h = h
unprepared_content bytes (write_fault name) h = h
unprepared_content bytes (snapshot_limit found) h = h
unprepared_content bytes snapshot_refused h = h

cause_content : (c : S.Cause) → IsOfContent (refusal_for c)
cause_content (S.malformed at) = tt
cause_content (S.float at) = tt
cause_content (S.deep at) = tt
cause_content (S.limit what found) = tt
cause_content (S.reserved name) = tt
cause_content (S.invalid func rule at) = tt
cause_content (S.rewritten_locals found) = tt
cause_content (S.long_output found) = tt

fault_content : (f : ScriptFault) → IsOfContent (H.refusal_for f)
fault_content (breaks line rule) = tt
fault_content (too_many found) = tt

content_of : (r s : Refusal) → r ≡ s → IsOfContent s → IsOfContent r
content_of r s e h = subst IsOfContent (sym e) h

pub script_content : (bytes : List ℕ) (r : Refusal) → IsNoScript bytes r → IsOfContent r
script_content bytes r h = elim h [
  | inl long ↦ content_of r _ long.1 tt
  | inr f ↦ content_of r (H.refusal_for f.0) f.2 (fault_content f.0)
]

pub module_content : (way : Way) (files : Option Files) (t : ProgramText) (r : Refusal) → IsBadModule way files t r → IsOfContent r
module_content Host files t r h = unprepared_content h.0 r h.2
module_content Run files t r h = content_of r (refusal_for h.2.2.0) h.2.2.3 (cause_content h.2.2.0)

pub refused_content : (way : Way) (files : Option Files) (name : List ℕ) (cause : Cause) → IsRefused way files name cause → IsOfContent (refusal_of_cause cause)
refused_content way files name (bad_script r) h = script_content h.0 r h.2
refused_content way files name (bad_module number r) h = module_content way files h.0 r h.2
refused_content way files name (bad_line line rule) h = tt

-- want of memory has a status of its own
pub never_nine : (r : Refusal) → IsOfContent r → status_of r ≢ 9
never_nine (malformed at) h e = absurd (omega (arith, e))
never_nine (float at) h e = absurd (omega (arith, e))
never_nine (nesting at) h e = absurd (omega (arith, e))
never_nine (limit what found) h e = absurd (omega (arith, e))
never_nine (invalid func rule at) h e = absurd (omega (arith, e))
never_nine (reserved name) h e = absurd (omega (arith, e))
never_nine (script line rule) h e = absurd (omega (arith, e))
never_nine usage h e = absurd h
never_nine out_of_memory h e = absurd h
never_nine (read_fault name) h e = absurd h
never_nine (write_fault name) h e = absurd h
never_nine (snapshot_limit found) h e = absurd h
never_nine snapshot_refused h e = absurd h

-- ---- stops

pub stop_told : (R : RefusalValue → Type 0) (I : List ℕ → Type 0) (files : Option Files) (f f' : ℕ) (stop : Stop) → ((r : RefusalValue) → R r → IsOfContent (refusal_of r.kind))
    → StopsFor R I files f f' stop → IsToldStop stop
stop_told R I files f f' Memory content h = tt
stop_told R I files f f' Sink content h = tt
stop_told R I files f f' (Refused r) content h = elim h [
  | inl own ↦ never_nine (refusal_of r.kind) (content r own.0)
  | inr read ↦ λ nine. let ten = ap status_of read.3.1 in absurd (omega (arith, nine, ten))
]

pub told_stop : (way : Way) (files : Option Files) (f f' : ℕ) (name : List ℕ) (stop : Stop) → Blames way files f f' name stop → IsToldStop stop
told_stop way files f f' name stop b = stop_told _ _ files f f' stop (λ r told. subst IsOfContent (sym told.2.1) (refused_content way files name told.0 told.1)) b

-- what has failed of the fetches
pub stop_counts : (R : RefusalValue → Type 0) (I : List ℕ → Type 0) (files : Option Files) (f f' s s' p p' : ℕ) (stop : Stop) → s' ≡ s → p' ≡ p → StopsFor R I files f f' stop
    → CountsBy (status_of_stop stop) f f' s s' p p'
stop_counts R I files f f' s s' p p' Memory saved still h = wanting_counts 9 f f' s s' p p' h saved refl (inl still)
stop_counts R I files f f' s s' p p' Sink saved still h = absurd h
stop_counts R I files f f' s s' p p' (Refused r) saved still h = elim h [
  | inl own ↦ refused_counts (status_of (refusal_of r.kind)) f f' s s' p p' (refusal_of r.kind) own.1 saved (inl refl) (inl still)
  | inr read ↦ unread_counts (status_of (refusal_of r.kind)) f f' s s' p p' (read_once files read.0 f f' read.2) saved (inl (ap status_of read.3.1)) (inl still)
]

-- ---- statuses

-- a reserved name isn't asked of prepared modules
prepared_status : (n : ℕ) (bytes : List ℕ) (r : Refusal) → n ≡ status_of r → IsUnprepared bytes r → IsStatus Host n
prepared_status n bytes (malformed at) e h = inr (inl e)
prepared_status n bytes (float at) e h = inr (inr (inl e))
prepared_status n bytes (invalid func rule at) e h = inr (inr (inr (inl e)))
prepared_status n bytes (limit what found) e h = inr (inr (inr (inr (inl e))))
prepared_status n bytes (nesting at) e h = inr (inr (inr (inr (inl e))))
prepared_status n bytes (reserved name) e h = absurd h
prepared_status n bytes (script line rule) e h = absurd h
prepared_status n bytes usage e h = absurd h
prepared_status n bytes out_of_memory e h = absurd h
prepared_status n bytes (read_fault name) e h = absurd h
prepared_status n bytes (write_fault name) e h = absurd h
prepared_status n bytes (snapshot_limit found) e h = absurd h
prepared_status n bytes snapshot_refused e h = absurd h

content_status : (n : ℕ) (r : Refusal) → n ≡ status_of r → IsOfContent r → IsStatus Run n
content_status n (malformed at) e h = inr (inl e)
content_status n (float at) e h = inr (inr (inl e))
content_status n (invalid func rule at) e h = inr (inr (inr (inl e)))
content_status n (limit what found) e h = inr (inr (inr (inr (inl e))))
content_status n (nesting at) e h = inr (inr (inr (inr (inl e))))
content_status n (reserved name) e h = inr (inr (inr (inr (inr (inl (e, refl))))))
content_status n (script line rule) e h = inr (inr (inr (inr (inr (inr (inl e))))))
content_status n usage e h = absurd h
content_status n out_of_memory e h = absurd h
content_status n (read_fault name) e h = absurd h
content_status n (write_fault name) e h = absurd h
content_status n (snapshot_limit found) e h = absurd h
content_status n snapshot_refused e h = absurd h

six : (way : Way) (n : ℕ) → n ≡ 6 → IsStatus way n
six way n e = inr (inr (inr (inr (inl e))))

eight : (way : Way) (n : ℕ) → n ≡ 8 → IsStatus way n
eight way n e = inr (inr (inr (inr (inr (inr (inl e))))))

fault_status : (way : Way) (n : ℕ) (f : ScriptFault) → n ≡ status_of (H.refusal_for f) → IsStatus way n
fault_status way n (breaks line rule) e = eight way n e
fault_status way n (too_many found) e = six way n e

script_status : (way : Way) (n : ℕ) (bytes : List ℕ) (r : Refusal) → n ≡ status_of r → IsNoScript bytes r → IsStatus way n
script_status way n bytes r e h = elim h [
  | inl long ↦ six way n (e ∙ ap status_of long.1)
  | inr f ↦ fault_status way n f.0 (e ∙ ap status_of f.2)
]

module_status : (way : Way) (n : ℕ) (files : Option Files) (t : ProgramText) (r : Refusal) → n ≡ status_of r → IsBadModule way files t r → IsStatus way n
module_status Host n files t r e h = prepared_status n h.0 r e h.2
module_status Run n files t r e h = content_status n r e (module_content Run files t r h)

refused_status : (way : Way) (n : ℕ) (files : Option Files) (name : List ℕ) (c : Cause) → n ≡ status_of (refusal_of_cause c) → IsRefused way files name c → IsStatus way n
refused_status way n files name (bad_script r) e h = script_status way n h.0 r e h.2
refused_status way n files name (bad_module number r) e h = module_status way n files h.0 r e h.2
refused_status way n files name (bad_line line rule) e h = eight way n e

by_end : (c : Call) (n : ℕ) (which : End) → n ≡ status_of_end which → IsWhy c which → IsStatus c.way n
by_end c n done e h = inl e
by_end c n (refused cause) e h = refused_status c.way n c.files c.name cause e h.0
by_end c n memory e h = inr (inr (inr (inr (inr (inr (inr (inl e)))))))
by_end c n (read_fault_of name) e h = inr (inr (inr (inr (inr (inr (inr (inr (inl e))))))))
by_end c n sink_fault e h = inr (inr (inr (inr (inr (inr (inr (inr (inr e))))))))

-- an end has one of the statuses
pub end_status : (c : Call) (n : ℕ) → HasEnd c n → IsStatus c.way n
end_status c n h = by_end c n h.which h.by_status h.why
