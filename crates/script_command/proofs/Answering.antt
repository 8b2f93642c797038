-- A call's end is its answer.
use Rattle.std.proofs.Common.{◌≡◌, ◌⊎◌, inl, inr, ℕ, List, Option, Some, None, refl, sym, ap, ◌∙◌, subst}
use Rattle.vault_port.specs.Counts.{FailsOnce}
use Rattle.vault_port.specs.Files.{Files, IsMissing}
use Rattle.script_command.specs.Playing.{Cause, IsRead, IsRefused, Play}
use Rattle.script_command.proofs.WholeScripts.{IsThere, one_cause, played_not_refused, played_reads, refused_reads}
use Rattle.script_command.specs.Ends.{Call, End, done, memory, sink_fault, refused, read_fault_of, HasEnd, IsWhy, status_of_end}
use Rattle.script_command.specs.Answers.{HasOneEnd, IsReadFault, NothingFails}

not_missing : (o : Option (List ℕ)) (bytes : List ℕ) → o ≡ Some bytes → o ≡ None → ⊥
not_missing o bytes e f = let bad = sym e ∙ f in cc

module _ (c : Call) (all : Files) (told : c.files ≡ Some all) where
  play_told : Play c.way c.files c.name → Play c.way (Some all) c.name
  play_told play = subst (λ (files : Option Files). Play c.way files c.name) told play

  refused_told : (cause : Cause) → IsRefused c.way c.files c.name cause → IsRefused c.way (Some all) c.name cause
  refused_told cause h = subst (λ (files : Option Files). IsRefused c.way files c.name cause) told h

  -- a file that is read isn't missing, where it is there
  never_missing : (read : List ℕ) → (IsRead c.way (Some all) c.name read → IsThere all read) → IsRead c.way c.files c.name read → IsMissing c.files read → ⊥
  never_missing read reads is missing =
      let there = reads (subst (λ (files : Option Files). IsRead c.way files c.name read) told is) in
      not_missing (all read) there.0 there.1 (subst (λ (files : Option Files). IsMissing files read) told missing)

  refusals : (cause : Cause) (which : End) → IsWhy c which → IsRefused c.way (Some all) c.name cause
      → (which ≡ refused cause) ⊎ (which ≡ memory) ⊎ (IsReadFault which × FailsOnce c.fetch_faults c.fetch_faults')
  refusals cause done why h = absurd (played_not_refused c.way all c.name cause (play_told why.0) h)
  refusals cause sink_fault why h = absurd (played_not_refused c.way all c.name cause (play_told why.0) h)
  refusals cause memory why h = inr (inl refl)
  refusals cause (read_fault_of read) why h = elim why.1 [
    | inl failed ↦ inr (inr (tt, failed))
    | inr missing ↦ absurd (never_missing read (refused_reads c.way all c.name cause h read) why.0 missing.0)
  ]
  refusals cause (refused other) why h = inl (ap (λ (x : Cause). refused x) (one_cause c.way all c.name other cause (refused_told other why.0) h))

  accepted : (which : End) → IsWhy c which → Play c.way (Some all) c.name → NothingFails c → (which ≡ done) ⊎ (which ≡ memory)
  accepted done why p n = inl refl
  accepted sink_fault why p n = absurd (n.puts why.1)
  accepted memory why p n = inr refl
  accepted (refused cause) why p n = absurd (played_not_refused c.way all c.name cause p (refused_told cause why.0))
  accepted (read_fault_of read) why p n = elim why.1 [
    | inl failed ↦ absurd (n.fetches failed)
    | inr missing ↦ absurd (never_missing read (played_reads c.way all c.name p read) why.0 missing.0)
  ]

-- a refusal leaves the devices
kept_by : (c : Call) (status : ℕ) (which : End) → status ≡ status_of_end which → IsWhy c which → (status ≡ 0 → ⊥) → (status ≡ 9 → ⊥) → (status ≡ 12 → ⊥) → c.devices' ≡ c.devices
kept_by c status done is why zero nine twelve = absurd (zero is)
kept_by c status memory is why zero nine twelve = absurd (nine is)
kept_by c status sink_fault is why zero nine twelve = absurd (twelve is)
kept_by c status (refused cause) is why zero nine twelve = why.2
kept_by c status (read_fault_of name) is why zero nine twelve = why.3

pub kept_devices : (c : Call) (status : ℕ) → HasEnd c status → (status ≡ 0 → ⊥) → (status ≡ 9 → ⊥) → (status ≡ 12 → ⊥) → c.devices' ≡ c.devices
kept_devices c status h zero nine twelve = kept_by c status h.which h.by_status h.why zero nine twelve

pub one_end : (c : Call) (status : ℕ) → HasEnd c status → HasOneEnd c status
one_end c status h = record {
  end = h;
  answer = record {
    refusals = λ all cause told r. refusals c all told cause h.which h.why r;
    accepted = λ all told p n. accepted c all told h.which h.why p n;
  };
}
