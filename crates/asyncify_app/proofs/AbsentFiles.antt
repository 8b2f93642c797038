-- Where no count of faults can rise, no end tells of a fault.
use Rattle.std.proofs.Common.{◌≡◌, ◌≢◌, ◌∙◌, ℕ, List, Option, Some, None, arith, refl, subst, sym, ◌⊎◌, inl, inr}
use Rattle.vault_port.specs.Counts.{FailsOnce}
use Rattle.vault_port.specs.Files.{Files, CannotRead}
use Rattle.script_model.specs.Command.{transform}
use Rattle.script_model.specs.Spelled.{Spelled, rewrites, hosts, runs, generates, saves, continues}
use Rattle.transcript.specs.Refused.{status_of}
use Rattle.script_command.specs.declared.way.Way.TheVariants.{Host, Run}
use Rattle.script_command.specs.Playing.{IsRead}
use Rattle.script_command.specs.Ends as P
use Rattle.script_command.specs.SnapshotCalls as D
use Rattle.script_command.specs.SnapshotEnds as E
use Rattle.script_command.specs.PlainScripts as K
use Rattle.script_command.specs.SnapshotTelling as W
use Rattle.transform_command.specs.Ends as T
use Rattle.transform_command.specs.Sources as S
use Rattle.asyncify_app.specs.Ends.{Call, EndsBy, HasOneEnd, output_of, script_call, snapshot_call, transform_call}
use Rattle.asyncify_app.specs.ReadFiles.{ReadsAbsent}
use Rattle.asyncify_app.proofs.SmallStatuses.{refused_small, unplayed_small}
use Rattle.asyncify_app.proofs.SnapshotEnds.{unplayed_by}

pub none_failed : FailsOnce 0 0 → ⊥
none_failed e = omega (arith, e)

source_not_ten : (cause : S.Cause) → status_of (S.refusal_for cause) ≢ 10
source_not_ten (S.malformed at) e = absurd (omega (arith, e))
source_not_ten (S.float at) e = absurd (omega (arith, e))
source_not_ten (S.deep at) e = absurd (omega (arith, e))
source_not_ten (S.limit what found) e = absurd (omega (arith, e))
source_not_ten (S.reserved name) e = absurd (omega (arith, e))
source_not_ten (S.invalid func rule at) e = absurd (omega (arith, e))
source_not_ten (S.rewritten_locals found) e = absurd (omega (arith, e))
source_not_ten (S.long_output found) e = absurd (omega (arith, e))

-- ---- by the end

-- a fault of reading, where no fetch fails, is a file that isn't there
absent_only : (n n' : ℕ) (files : Files) (name : List ℕ) → n ≡ 0 → n' ≡ 0 → CannotRead (Some files) name n n' → files name ≡ None
absent_only n n' files name e e' (inl failed) = absurd (none_failed (subst (λ k. FailsOnce 0 k) e' (subst (λ k. FailsOnce k n') e failed)))
absent_only n n' files name e e' (inr missing) = missing.0

transform_absent : (c : T.Call) (files : Files) → c.files ≡ Some files → c.fetch_faults ≡ 0 → c.fetch_faults' ≡ 0 → (which : T.End) → 10 ≡ T.status_of_end which → T.IsWhy c which → files c.input ≡ None
transform_absent c files is e e' T.read_fault s why = absent_only c.fetch_faults c.fetch_faults' files c.input e e' (subst (λ o. CannotRead o c.input c.fetch_faults c.fetch_faults') is why)
transform_absent c files is e e' (T.refused cause) s why = absurd (source_not_ten cause (sym s))
transform_absent c files is e e' T.done s why = absurd (omega (arith, s))
transform_absent c files is e e' T.memory s why = absurd (omega (arith, s))
transform_absent c files is e e' T.write_fault s why = absurd (omega (arith, s))
transform_absent c files is e e' T.sink_fault s why = absurd (omega (arith, s))

script_absent : (c : P.Call) (files : Files) → c.files ≡ Some files → c.fetch_faults ≡ 0 → c.fetch_faults' ≡ 0 → (which : P.End) → 10 ≡ P.status_of_end which → P.IsWhy c which
    → (name : List ℕ) × IsRead c.way c.files c.name name × (files name ≡ None)
script_absent c files is e e' (P.read_fault_of name) s why =
    (name, why.0, absent_only c.fetch_faults c.fetch_faults' files name e e' (subst (λ o. CannotRead o name c.fetch_faults c.fetch_faults') is why.1))
script_absent c files is e e' (P.refused cause) s why = let small = refused_small c.way c.files c.name cause why.0 in absurd (omega (arith, s, small))
script_absent c files is e e' P.done s why = absurd (omega (arith, s))
script_absent c files is e e' P.memory s why = absurd (omega (arith, s))
script_absent c files is e e' P.sink_fault s why = absurd (omega (arith, s))

snapshot_absent : (deed : D.Deed) (c : D.Call) (o : D.Output) (files : Files) → c.files ≡ Some files → c.fetch_faults ≡ 0 → c.fetch_faults' ≡ 0 → (which : E.End) → 10 ≡ E.status_of_end c which
    → E.IsWhy deed c o which → (name : List ℕ) × W.IsReadBy deed c name × (files name ≡ None)
snapshot_absent deed c o files is e e' (E.refused (W.unread name)) s why =
    (name, why.1.0, absent_only c.fetch_faults c.fetch_faults' files name e e' (subst (λ z. CannotRead z name c.fetch_faults c.fetch_faults') is why.1.1))
snapshot_absent deed c o files is e e' (E.refused (W.unplayed cause)) s why =
    let small = unplayed_small c.files c.script cause (unplayed_by deed c cause why.0 why.1) in absurd (omega (arith, s, small))
snapshot_absent deed c o files is e e' (E.refused (W.long found)) s why = absurd (omega (arith, s))
snapshot_absent deed c o files is e e' (E.refused W.unwritten) s why = absurd (omega (arith, s))
snapshot_absent deed c o files is e e' (E.refused W.unfit) s why = absurd (omega (arith, s))
snapshot_absent deed c o files is e e' E.done s why = absurd (omega (arith, s))
snapshot_absent deed c o files is e e' E.memory s why = absurd (omega (arith, s))
snapshot_absent deed c o files is e e' E.sink_fault s why = absurd (omega (arith, s))

absent_by : (c : Call) (files : Files) → c.files ≡ Some files → c.fetch_faults ≡ 0 → c.fetch_faults' ≡ 0 → (words : Option Spelled) → (status : ℕ) → status ≡ 10 → EndsBy c words status → ReadsAbsent words files
absent_by c files is e e' None status ten h = absurd (elim h [
  | inl two ↦ omega (arith, ten, two)
  | inr nine ↦ omega (arith, ten, nine)
])
absent_by c files is e e' (Some (rewrites (transform s input output))) status ten h =
    (input, refl, transform_absent (transform_call c s input output) files is e e' h.which (sym ten ∙ h.by_status) h.why)
absent_by c files is e e' (Some (hosts name)) status ten h =
    let x = script_absent (script_call c Host name) files is e e' (h.end).which (sym ten ∙ (h.end).by_status) (h.end).why in
    (x.0, subst (λ o. IsRead Host o name x.0) is x.1, x.2)
absent_by c files is e e' (Some (runs name)) status ten h =
    let x = script_absent (script_call c Run name) files is e e' (h.end).which (sym ten ∙ (h.end).by_status) (h.end).why in
    (x.0, subst (λ o. IsRead Run o name x.0) is x.1, x.2)
absent_by c files is e e' (Some (saves script events snap)) status ten h =
    let x = snapshot_absent (D.saves events) (snapshot_call c script snap) (output_of c) files is e e' (h.end).which (sym ten ∙ (h.end).by_status) (h.end).why in
    (x.0, subst (λ o. K.IsRead o script x.0) is x.1, x.2)
absent_by c files is e e' (Some (continues script snap)) status ten h =
    let x = snapshot_absent D.continues (snapshot_call c script snap) (output_of c) files is e e' (h.end).which (sym ten ∙ (h.end).by_status) (h.end).why in
    (x.0, subst (λ o. K.IsRead o script x.0 ⊎ (K.Play o script × (x.0 ≡ snap))) is x.1, x.2)
absent_by c files is e e' (Some (generates n output)) status ten h = absurd (elim h [
  | inl a ↦ omega (arith, ten, a.0)
  | inr g ↦ elim g [
    | inl a ↦ omega (arith, ten, a.0)
    | inr k ↦ elim k [
      | inl a ↦ omega (arith, ten, a.0)
      | inr a ↦ omega (arith, ten, a.0)
    ]
  ]
])

-- a call whose files are told, and no fetch of which fails
pub absent_only_where_missing : (c : Call) (files : Files) → c.files ≡ Some files → c.fetch_faults ≡ 0 → c.fetch_faults' ≡ 0 → (status : ℕ) → status ≡ 10 → HasOneEnd c status → ReadsAbsent c.spelled files
absent_only_where_missing c files is e e' status ten h = absent_by c files is e e' c.spelled status ten h
