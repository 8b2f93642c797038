-- A call's end, from what is known of its status.
use Rattle.std.proofs.Common.{◌≡◌, ◌⊎◌, inl, inr, ℕ, List, Option, Some, None, refl, ◌∙◌, subst}
use Rattle.std.specs.Prelude.{IsSome}
use Rattle.vault_port.specs.Counts.{FailsOnce}
use Rattle.vault_port.specs.Files.{Files, bytes_of, CannotRead, IsMissing}
use Rattle.vault_port.specs.Told.{WhereTold, Becomes}
use Rattle.script_model.specs.Command.{Manner}
use Rattle.transform_command.specs.Sources.{Cause, malformed, float, deep, limit, reserved, invalid, rewritten_locals, long_output, IsRefusedIn, refusal_for, IsTransformed}
use Rattle.transcript.specs.Refused.{status_of}
use Rattle.transform_command.specs.Transforms.{HasCause, HoldsRewritable, HoldsSource}
use Rattle.transform_command.specs.Ends.{End, done, memory, read_fault, write_fault, sink_fault, refused, Call, CanBeLong, IsLong, IsWhy, ToldThat, NothingFails, HasOneEnd, status_of_end, IsRefusal}
use Rattle.transform_command.proofs.Verdicts.{one_status, source_passes}

-- what is known of a `transform`'s status
pub record Known (how : Manner) (input output : List ℕ) (c : Call) (status : ℕ) : Type 0 where
  pub statuses : (status ≡ 0) ⊎ IsRefusal status ⊎ (status ≡ 9) ⊎ (status ≡ 10) ⊎ (status ≡ 11) ⊎ (status ≡ 12)
  pub done : (status ≡ 0) ⊎ (status ≡ 12) → Becomes c.files c.files' (IsTransformed how input output)
  pub read : status ≡ 10 → CannotRead c.files input c.fetch_faults c.fetch_faults'
  pub refused : IsRefusal status → HasCause how c.files input status
  pub held : status ≡ 11 → WhereTold c.files (λ all. HoldsSource how (bytes_of all input))
  pub write : status ≡ 11 → FailsOnce c.save_faults c.save_faults'
  pub sink : status ≡ 12 → FailsOnce c.sink_faults c.sink_faults'

-- the source that a written module has
source_held : (how : Manner) (input output : List ℕ) (old new : Option Files) → Becomes old new (IsTransformed how input output) → WhereTold old (λ all. HoldsSource how (bytes_of all input))
unfolding HoldsSource
source_held how input output None None h = tt
source_held how input output None (Some b) h = tt
source_held how input output (Some a) None h = absurd h
source_held how input output (Some a) (Some b) h = (h.«module», h.which, h.emitted, h.source)

-- a source that is written or run isn't refused, but for the length of what is emitted
refused_not_held : (how : Manner) (input : List ℕ) (files : Option Files) (cause : Cause)
    → WhereTold files (λ all. HoldsSource how (bytes_of all input)) → ToldThat files (λ all. IsRefusedIn how (bytes_of all input) cause) → (IsLong cause → ⊥) → ⊥
unfolding HoldsSource
refused_not_held how input None cause h r short = r
refused_not_held how input (Some a) cause h r short = source_passes how (bytes_of a input) h.0 h.1 cause h.3.rewritable short r

one_cause : (how : Manner) (input : List ℕ) (files : Option Files) (c d : Cause) → WhereTold files (λ all. IsRefusedIn how (bytes_of all input) c)
    → ToldThat files (λ all. IsRefusedIn how (bytes_of all input) d) → status_of (refusal_for c) ≡ status_of (refusal_for d)
one_cause how input None c d h k = absurd k
one_cause how input (Some a) c d h k = one_status how (bytes_of a input) c d h k

-- .. so that it is refused for that alone
held_is_long : (how : Manner) (input : List ℕ) (all : Files) (cause : Cause) → HoldsRewritable how (bytes_of all input) → IsRefusedIn how (bytes_of all input) cause
    → (status_of (refusal_for cause) ≡ 6) × (found : ℕ) × IsRefusedIn how (bytes_of all input) (long_output found)
unfolding HoldsRewritable
held_is_long how input all (malformed at) h r = absurd (source_passes how (bytes_of all input) h.0 h.1 (malformed at) h.2 (λ l. l) r)
held_is_long how input all (float at) h r = absurd (source_passes how (bytes_of all input) h.0 h.1 (float at) h.2 (λ l. l) r)
held_is_long how input all (deep at) h r = absurd (source_passes how (bytes_of all input) h.0 h.1 (deep at) h.2 (λ l. l) r)
held_is_long how input all (limit what found) h r = absurd (source_passes how (bytes_of all input) h.0 h.1 (limit what found) h.2 (λ l. l) r)
held_is_long how input all (reserved name) h r = absurd (source_passes how (bytes_of all input) h.0 h.1 (reserved name) h.2 (λ l. l) r)
held_is_long how input all (invalid func rule at) h r = absurd (source_passes how (bytes_of all input) h.0 h.1 (invalid func rule at) h.2 (λ l. l) r)
held_is_long how input all (rewritten_locals found) h r = absurd (source_passes how (bytes_of all input) h.0 h.1 (rewritten_locals found) h.2 (λ l. l) r)
held_is_long how input all (long_output found) h r = (refl, found, r)

-- the status of a call that is refused, where IN can be rewritten
long_refused : (c : Call) (status : ℕ) (files : Option Files) (cause : Cause) → files ≡ c.files → status ≡ status_of (refusal_for cause)
    → ToldThat files (λ all. IsSome (all c.input) × HoldsRewritable c.manner (bytes_of all c.input))
    → WhereTold files (λ all. IsRefusedIn c.manner (bytes_of all c.input) cause) → (status ≡ 6) × CanBeLong c
long_refused c status None cause is e h r = absurd h
long_refused c status (Some a) cause is e h r =
    let l = held_is_long c.manner c.input a cause h.1 r in
    (e ∙ l.0, subst (λ files. ToldThat files (λ all. (found : ℕ) × IsRefusedIn c.manner (bytes_of all c.input) (long_output found))) is (l.1, l.2))

some_not_none : {X : Type 0} (o : Option X) → IsSome o → o ≡ None → ⊥
some_not_none None h e = cc
some_not_none (Some x) h e = cc

held_not_missing : (how : Manner) (input : List ℕ) (files : Option Files) → ToldThat files (λ all. IsSome (all input) × HoldsRewritable how (bytes_of all input)) → IsMissing files input → ⊥
held_not_missing how input None h m = h
held_not_missing how input (Some a) h m = some_not_none (a input) h.0 m

abbrev IsRefusedSo : (cause : Cause) → (status : ℕ) → Type 0
IsRefusedSo cause status = (status ≡ status_of (refusal_for cause)) ⊎ (status ≡ 9) ⊎ (status ≡ 10) ⊎ (IsLong cause × ((status ≡ 0) ⊎ (status ≡ 11) ⊎ (status ≡ 12)))

-- a status of an accepted source, beside a cause
beside : (status : ℕ) (cause : Cause) → (status ≡ 0) ⊎ (status ≡ 11) ⊎ (status ≡ 12) → ((IsLong cause → ⊥) → ⊥) → IsRefusedSo cause status
beside status (malformed at) taken h = absurd (h (λ l. l))
beside status (float at) taken h = absurd (h (λ l. l))
beside status (deep at) taken h = absurd (h (λ l. l))
beside status (limit what found) taken h = absurd (h (λ l. l))
beside status (reserved name) taken h = absurd (h (λ l. l))
beside status (invalid func rule at) taken h = absurd (h (λ l. l))
beside status (rewritten_locals found) taken h = absurd (h (λ l. l))
beside status (long_output found) taken h = inr (inr (inr (tt, taken)))

-- the refusals of a `transform`
refusals_of : (how : Manner) (input output : List ℕ) (c : Call) (status : ℕ) → Known how input output c status → (cause : Cause)
    → ToldThat c.files (λ all. IsRefusedIn how (bytes_of all input) cause) → IsRefusedSo cause status
refusals_of how input output c status k cause r = elim k.statuses [
  | inl zero ↦ beside status cause (inl zero) (refused_not_held how input c.files cause (source_held how input output c.files c.files' (k.done (inl zero))) r)
  | inr x ↦ elim x [
    | inl h ↦ let why = k.refused h in inl (why.1 ∙ one_cause how input c.files why.0 cause why.2 r)
    | inr y ↦ elim y [
      | inl nine ↦ inr (inl nine)
      | inr z ↦ elim z [
        | inl ten ↦ inr (inr (inl ten))
        | inr w ↦ elim w [
          | inl eleven ↦ beside status cause (inr (inl eleven)) (refused_not_held how input c.files cause (k.held eleven) r)
          | inr twelve ↦
              beside status cause (inr (inr twelve)) (refused_not_held how input c.files cause (source_held how input output c.files c.files' (k.done (inr twelve))) r)
        ]
      ]
    ]
  ]
]

accepted_of : (c : Call) (status : ℕ) → Known c.manner c.input c.output c status
    → ToldThat c.files (λ all. IsSome (all c.input) × HoldsRewritable c.manner (bytes_of all c.input)) → NothingFails c → (status ≡ 0) ⊎ (status ≡ 9) ⊎ ((status ≡ 6) × CanBeLong c)
accepted_of c status k h n = elim k.statuses [
  | inl zero ↦ inl zero
  | inr x ↦ elim x [
    | inl r ↦ let why = k.refused r in inr (inr (long_refused c status c.files why.0 refl why.1 h why.2))
    | inr y ↦ elim y [
      | inl nine ↦ inr (inl nine)
      | inr z ↦ elim z [
        | inl ten ↦ elim (k.read ten) [
          | inl failed ↦ absurd (n.fetches failed)
          | inr missing ↦ absurd (held_not_missing c.manner c.input c.files h missing.0)
        ]
        | inr w ↦ elim w [
          | inl eleven ↦ absurd (n.saves (k.write eleven))
          | inr twelve ↦ absurd (n.puts (k.sink twelve))
        ]
      ]
    ]
  ]
]

-- the end of a `transform` and its reason
pub record Which (c : Call) (status : ℕ) : Type 0 where
  pub which : End
  pub by_status : status ≡ status_of_end which
  pub why : IsWhy c which

which_end : (c : Call) (status : ℕ) → Known c.manner c.input c.output c status → Which c status
which_end c status k = elim k.statuses [
  | inl zero ↦ record { which = done; by_status = zero; why = k.done (inl zero) }
  | inr x ↦ elim x [
    | inl h ↦ let why = k.refused h in record { which = refused why.0; by_status = why.1; why = why.2 }
    | inr y ↦ elim y [
      | inl nine ↦ record { which = memory; by_status = nine; why = tt }
      | inr z ↦ elim z [
        | inl ten ↦ record { which = read_fault; by_status = ten; why = k.read ten }
        | inr w ↦ elim w [
          | inl eleven ↦ record { which = write_fault; by_status = eleven; why = (k.write eleven, k.held eleven) }
          | inr twelve ↦ record { which = sink_fault; by_status = twelve; why = (k.sink twelve, k.done (inr twelve)) }
        ]
      ]
    ]
  ]
]

pub transform_ends : (c : Call) (status : ℕ) → Known c.manner c.input c.output c status → HasOneEnd c status
transform_ends c status k =
    let w = which_end c status k in
    record {
      which = w.which;
      by_status = w.by_status;
      why = w.why;
      refusals = λ cause r. refusals_of c.manner c.input c.output c status k cause r;
      accepted = λ h n. accepted_of c status k h n;
    }

-- Memory is wanting.
pub memory_ends : (c : Call) (status : ℕ) → status ≡ 9 → HasOneEnd c status
memory_ends c status nine = record { which = memory; by_status = nine; why = tt; refusals = λ cause r. inr (inl nine); accepted = λ r n. inr (inl nine) }
