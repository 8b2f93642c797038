-- The line on memory alone, where the words weren't read; and the one end of a call.
use Rattle.std.proofs.Common.{◌≡◌, ◌∙◌, ◌⊎◌, ℕ, List, Err, None, Option, Some, ap, inr, map, refl, subst, sym}
use Rattle.std.specs.String.{string_bytes}
use Rattle.transform_command.specs.Manners.{manner_of}
use Rattle.transform_command.specs.Sources.{IsTransformed}
use Rattle.transform_command.specs.Transforms.{IsCutShort}
use Rattle.vault_port.specs.Told.{Becomes}
use Rattle.script_model.specs.Command.{Manner, OnTransform, transform}
use Rattle.script_model.specs.Spelled.{Spelled, rewrites, rewriting, spelled}
use Rattle.script_model.specs.Transcript.{out_of_memory, refusal_line, usage}
use Rattle.command_words.specs.declared.words.WordsFault.{WordsFault}
use Rattle.command_words.specs.declared.words.Command.{Command}
use Rattle.command_words.specs.Words.{Reads, spelled_of}
use Rattle.transcript.proofs.Printed.{memory_alone}
use Rattle.transcript.proofs.Counts.{refused_counts}
use Rattle.asyncify_app.proofs.OneEnd.{memory_ends, memory_unread_words, spelled_ends}
use Rattle.asyncify_app.proofs.Rewriting.{no_command, on_command, unwritten}
use Rattle.asyncify_app.proofs.Statuses.{script_status, snapshot_status, transform_status}
use Rattle.script_command.specs.SnapshotCalls.{continues, saves}
use Rattle.script_command.specs.declared.way.Way.TheVariants.{Host, Run}
use Rattle.transform_command.proofs.OneEnd.{transform_ends}
use Rattle.asyncify_app.proofs.command.asyncify.Goals as goal

-- what holds of the manner and the files of a `transform` that the words spell
on_spelled : (o : Option Spelled) (how : Manner) (input output : List ℕ) (P : Manner → List ℕ → List ℕ → Type 0) → o ≡ Some (rewrites (transform how input output)) → P how input output
    → OnTransform (rewriting o) P
on_spelled o how input output P e h = subst (λ (q : Option Spelled). OnTransform (rewriting q) P) (sym e) h

pub returns-in-Ok-Transform-clause-done : goal.returns-in-Ok-Transform-clause-done
returns-in-Ok-Transform-clause-done g c =
    on_command (map string_bytes c.args.words.now) _ (on_spelled (spelled (map string_bytes c.args.words.now)) (manner_of c.in-Ok-Transform.settings) c.in-Ok-Transform.input.now c.in-Ok-Transform.output.now
    (λ how input output. (c.run_transform.result ≡ 0) ⊎ (c.run_transform.result ≡ 12)
    → Becomes (g.V.Vault.files c.args.vault.now) (g.V.Vault.files c.run_transform.new.vault) (IsTransformed how input output))
    (c.in-Ok-Transform.ensures.command ∙ ap (λ (x : Command). Some (spelled_of x)) c.in-Ok-Transform.field-0-is) c.run_transform.ensures.done)

pub returns-in-Ok-Host-clause-done : goal.returns-in-Ok-Host-clause-done
returns-in-Ok-Host-clause-done g c =
    no_command (map string_bytes c.args.words.now) _ (ap rewriting (c.in-Ok-Host.ensures.command ∙ ap (λ (x : Command). Some (spelled_of x)) c.in-Ok-Host.field-0-is))

pub returns-in-Ok-Run-clause-done : goal.returns-in-Ok-Run-clause-done
returns-in-Ok-Run-clause-done g c =
    no_command (map string_bytes c.args.words.now) _ (ap rewriting (c.in-Ok-Run.ensures.command ∙ ap (λ (x : Command). Some (spelled_of x)) c.in-Ok-Run.field-0-is))

pub returns-in-Ok-Gen-clause-done : goal.returns-in-Ok-Gen-clause-done
returns-in-Ok-Gen-clause-done g c =
    no_command (map string_bytes c.args.words.now) _ (ap rewriting (c.in-Ok-Gen.ensures.command ∙ ap (λ (x : Command). Some (spelled_of x)) c.in-Ok-Gen.field-0-is))

pub returns-in-Ok-Save-clause-done : goal.returns-in-Ok-Save-clause-done
returns-in-Ok-Save-clause-done g c =
    no_command (map string_bytes c.args.words.now) _ (ap rewriting (c.in-Ok-Save.ensures.command ∙ ap (λ (x : Command). Some (spelled_of x)) c.in-Ok-Save.field-0-is))

pub returns-in-Ok-Continue-clause-done : goal.returns-in-Ok-Continue-clause-done
returns-in-Ok-Continue-clause-done g c =
    no_command (map string_bytes c.args.words.now) _ (ap rewriting (c.in-Ok-Continue.ensures.command ∙ ap (λ (x : Command). Some (spelled_of x)) c.in-Ok-Continue.field-0-is))

pub returns-in-Err-Usage-clause-done : goal.returns-in-Err-Usage-clause-done
returns-in-Err-Usage-clause-done g c =
    no_command (map string_bytes c.args.words.now) _
    (ap rewriting (subst (λ (f : WordsFault). Reads spelled_of (Err f) (spelled (map string_bytes c.args.words.now))) c.in-Err-Usage.field-0-is c.in-Err-Usage.ensures.command))

pub returns-in-Err-Memory-clause-done : goal.returns-in-Err-Memory-clause-done
returns-in-Err-Memory-clause-done g c = unwritten _ c.out_of_memory.result _ c.out_of_memory.ensures.status

pub returns-in-Ok-Transform-clause-cut : goal.returns-in-Ok-Transform-clause-cut
returns-in-Ok-Transform-clause-cut g c =
    on_spelled (spelled (map string_bytes c.args.words.now)) (manner_of c.in-Ok-Transform.settings) c.in-Ok-Transform.input.now c.in-Ok-Transform.output.now
    (λ how input output. (c.run_transform.result ≡ 9) ⊎ (c.run_transform.result ≡ 11)
    → Becomes (g.V.Vault.files c.args.vault.now) (g.V.Vault.files c.run_transform.new.vault) (IsCutShort how input output))
    (c.in-Ok-Transform.ensures.command ∙ ap (λ (x : Command). Some (spelled_of x)) c.in-Ok-Transform.field-0-is) c.run_transform.ensures.cut

pub returns-in-Err-Memory-clause-prints_usage_memory : goal.returns-in-Err-Memory-clause-prints_usage_memory
returns-in-Err-Memory-clause-prints_usage_memory g c = λ e n. memory_alone (refusal_line None usage) _ _ _ _ c.out_of_memory.ensures.printed

pub returns-in-Err-Memory-clause-prints_memory : goal.returns-in-Err-Memory-clause-prints_memory
returns-in-Err-Memory-clause-prints_memory g c = memory_unread_words (spelled (map string_bytes c.args.words.now)) _ _ _ _ _ _ _ c.out_of_memory.ensures.printed

pub returns-in-Err-Usage-clause-one_end : goal.returns-in-Err-Usage-clause-one_end
returns-in-Err-Usage-clause-one_end g c =
    spelled_ends _ c.refuse.result None
    (subst (λ (f : WordsFault). Reads spelled_of (Err f) (spelled (map string_bytes c.args.words.now))) c.in-Err-Usage.field-0-is c.in-Err-Usage.ensures.command) c.refuse.ensures.status

pub returns-in-Err-Memory-clause-one_end : goal.returns-in-Err-Memory-clause-one_end
returns-in-Err-Memory-clause-one_end g c = memory_ends _ c.out_of_memory.result c.out_of_memory.ensures.status refl refl c.out_of_memory.ensures.printed

pub returns-in-Ok-Transform-clause-one_end : goal.returns-in-Ok-Transform-clause-one_end
returns-in-Ok-Transform-clause-one_end g c =
    let e = c.run_transform.ensures in
    spelled_ends _ c.run_transform.result (Some (rewrites (transform (manner_of c.in-Ok-Transform.settings) c.in-Ok-Transform.input.now c.in-Ok-Transform.output.now)))
    (c.in-Ok-Transform.ensures.command ∙ ap (λ (x : Command). Some (spelled_of x)) c.in-Ok-Transform.field-0-is)
    (transform_ends _ c.run_transform.result
    (record { statuses = e.status; done = e.done; read = e.read_fault; refused = e.refused; held = e.built; write = e.write_fault; sink = e.sink_fault }))

pub returns-in-Ok-Transform-clause-status : goal.returns-in-Ok-Transform-clause-status
returns-in-Ok-Transform-clause-status g c = transform_status c.run_transform.result c.run_transform.ensures.status

pub returns-in-Ok-Host-clause-status : goal.returns-in-Ok-Host-clause-status
returns-in-Ok-Host-clause-status g c = script_status Host c.play_with.result c.play_with.ensures.status

pub returns-in-Ok-Run-clause-status : goal.returns-in-Ok-Run-clause-status
returns-in-Ok-Run-clause-status g c = script_status Run c.play_with-in-Ok-Run.result c.play_with-in-Ok-Run.ensures.status

pub returns-in-Ok-Save-clause-status : goal.returns-in-Ok-Save-clause-status
returns-in-Ok-Save-clause-status g c = snapshot_status (saves c.in-Ok-Save.events) c.save_with.result c.save_with.ensures.status

pub returns-in-Ok-Continue-clause-status : goal.returns-in-Ok-Continue-clause-status
returns-in-Ok-Continue-clause-status g c = snapshot_status continues c.continue_with.result c.continue_with.ensures.status

pub returns-in-Err-Usage-clause-counts : goal.returns-in-Err-Usage-clause-counts
returns-in-Err-Usage-clause-counts g c = refused_counts c.refuse.result _ _ _ _ _ _ usage refl refl c.refuse.ensures.status c.refuse.ensures.once

pub returns-in-Err-Memory-clause-counts : goal.returns-in-Err-Memory-clause-counts
returns-in-Err-Memory-clause-counts g c = refused_counts c.out_of_memory.result _ _ _ _ _ _ out_of_memory refl refl (inr c.out_of_memory.ensures.status) c.out_of_memory.ensures.once
