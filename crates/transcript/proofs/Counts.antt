-- What has failed in a call, by its status.
use Rattle.std.proofs.Common.{◌≡◌, ◌⊎◌, ℕ, inl, inr, sym, ◌∙◌, arith}
use Rattle.vault_port.specs.Counts.{FailsOnce, FailsAtMostOnce}
use Rattle.script_model.specs.Transcript.{Refusal, usage, out_of_memory, malformed, float, nesting, invalid, limit, reserved, script, read_fault, write_fault, snapshot_limit, snapshot_refused}
use Rattle.transcript.specs.Refused.{CountsBy, status_of}

never_zero : (r : Refusal) → status_of r ≡ 0 → ⊥
never_zero usage e = omega (arith, e)
never_zero (malformed at) e = omega (arith, e)
never_zero (float at) e = omega (arith, e)
never_zero (invalid func rule at) e = omega (arith, e)
never_zero (limit what found) e = omega (arith, e)
never_zero (nesting at) e = omega (arith, e)
never_zero (reserved name) e = omega (arith, e)
never_zero (script line rule) e = omega (arith, e)
never_zero out_of_memory e = omega (arith, e)
never_zero (read_fault name) e = omega (arith, e)
never_zero (write_fault name) e = omega (arith, e)
never_zero (snapshot_limit found) e = omega (arith, e)
never_zero snapshot_refused e = omega (arith, e)

-- behind the line of a refusal the status isn't 0
refused_some : (status : ℕ) (r : Refusal) → (status ≡ status_of r) ⊎ (status ≡ 9) → status ≡ 0 → ⊥
refused_some status r by zero = elim by [ inl is ↦ never_zero r (sym is ∙ zero) | inr nine ↦ omega (arith, nine, zero) ]

module _ (status f f' s s' p p' : ℕ) where
  -- no fetch and no save has failed
  pub put_alone : f' ≡ f → s' ≡ s → FailsAtMostOnce p p' → (status ≡ 0 → p' ≡ p) → CountsBy status f f' s s' p p'
  put_alone fetched saved once none = record {
    fetch_once = inl fetched;
    save_once = inl saved;
    put_once = once;
    fetches = inr (inr fetched);
    saves = inr (inr saved);
    puts = none;
  }

  -- .. and a refusal was told, or that memory is wanting
  pub refused_counts : (r : Refusal) → f' ≡ f → s' ≡ s → (status ≡ status_of r) ⊎ (status ≡ 9) → FailsAtMostOnce p p' → CountsBy status f f' s s' p p'
  refused_counts r fetched saved by once = put_alone fetched saved once (λ zero. absurd (refused_some status r by zero))

  -- memory was wanting, and no save has failed
  pub wanting_counts : FailsAtMostOnce f f' → s' ≡ s → status ≡ 9 → FailsAtMostOnce p p' → CountsBy status f f' s s' p p'
  wanting_counts fetched saved nine once = record {
    fetch_once = fetched;
    save_once = inl saved;
    put_once = once;
    fetches = inl nine;
    saves = inr (inr saved);
    puts = λ zero. absurd (omega (arith, nine, zero));
  }

  -- a file couldn't be read
  pub unread_counts : FailsAtMostOnce f f' → s' ≡ s → (status ≡ 10) ⊎ (status ≡ 9) → FailsAtMostOnce p p' → CountsBy status f f' s s' p p'
  unread_counts fetched saved by once = record {
    fetch_once = fetched;
    save_once = inl saved;
    put_once = once;
    fetches = elim by [ inl ten ↦ inr (inl ten) | inr nine ↦ inl nine ];
    saves = inr (inr saved);
    puts = λ zero. absurd (elim by [ inl ten ↦ omega (arith, ten, zero) | inr nine ↦ omega (arith, nine, zero) ]);
  }

  -- a file couldn't be written
  pub unsaved_counts : f' ≡ f → FailsOnce s s' → (status ≡ 11) ⊎ (status ≡ 9) → FailsAtMostOnce p p' → CountsBy status f f' s s' p p'
  unsaved_counts fetched failed by once = record {
    fetch_once = inl fetched;
    save_once = inr failed;
    put_once = once;
    fetches = inr (inr fetched);
    saves = elim by [ inl eleven ↦ inr (inl eleven) | inr nine ↦ inl nine ];
    puts = λ zero. absurd (elim by [ inl eleven ↦ omega (arith, eleven, zero) | inr nine ↦ omega (arith, nine, zero) ]);
  }
