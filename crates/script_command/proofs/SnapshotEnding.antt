-- A call's end, from what it did or why it stopped, and what was then printed.
use Rattle.std.proofs.Common.{◌≡◌, ◌⊎◌, ◌+◌, inl, inr, ℕ, List, ◌++◌, length, take, Option, refl, sym, ap, ◌∙◌, subst, arith, append_assoc}
use Rattle.std.specs.Prelude.{Ok}
use Rattle.std.proofs.Math.Seq.{take-append-add}
use Rattle.vault_port.specs.Counts.{FailsAtMostOnce}
use Rattle.vault_port.specs.Taken.{Appends}
use Rattle.vault_port.specs.Told.{Becomes}
use Rattle.vault_port.proofs.Telling.{Becomes_then}
use Rattle.vault_port.specs.declared.whole.PutFault.TheVariants as F
use Rattle.script_model.specs.Transcript.{Refusal, refusal_line}
use Rattle.transcript.specs.Printing.{refusal_of}
use Rattle.transcript.specs.Refused.{CountsBy, EndsInMemory, FailsLast, Prints, PrintsMemory, PrintsMemoryPast, memory_line, status_of}
use Rattle.transcript.proofs.Counts.{refused_counts}
use Rattle.world_hosting.specs.Worlds.{PrintsPart}
use Rattle.script_command.specs.declared.stop.Stop.{Stop}
use Rattle.script_command.specs.declared.stop.Stop.TheVariants as T
use Rattle.script_command.specs.SnapshotCalls.{Call, Deed, output}
use Rattle.script_command.specs.SnapshotTelling.{cause_line, program_in}
use Rattle.script_command.specs.SnapshotEnds.{HasEnd, PrintsBehind, done, memory, refused, sink_fault, IsWhy}
use Rattle.script_command.specs.SnapshotViews.{Does, Stops, Tells, status_of_stop}

-- ---- what is printed behind what was printed

module _ (p q p' : ℕ) (same : q ≡ p) where
  -- the line on memory, behind a part of a line
  memory_then : (least : ℕ) (line x y z : List ℕ) → PrintsPart F.Memory least line x y → EndsInMemory q p' y z → PrintsMemoryPast least line p p' x z
  memory_then least line x y z a b = (a.0, b.0, subst (λ (n : ℕ). FailsLast b.0 n p') same b.1, a.1, b.2 ∙ ap (λ s. s ++ take b.0 memory_line) a.2)

  -- a refusal's line, behind a text
  line_then : (text line x y z : List ℕ) → Appends text x y → Prints line q p' y z → PrintsBehind text line p p' x z
  line_then text line x y z a b = subst (λ (s : List ℕ). Prints line p p' s z) a (subst (λ (n : ℕ). Prints line n p' y z) same b)

  -- .. and the line on memory behind a part of that
  line_cut : (text line x y z : List ℕ) → Appends text x y → PrintsMemory line q p' y z → PrintsMemoryPast (length text) (text ++ line) p p' x z
  line_cut text line x y z a b = (
    length text + b.0,
    b.1,
    subst (λ (n : ℕ). FailsLast b.1 n p') same b.2,
    omega arith,
    b.3 ∙ ap (λ s. s ++ take b.0 line ++ take b.1 memory_line) a ∙ ap (λ s. s ++ take b.1 memory_line) (append_assoc x text (take b.0 line))
        ∙ ap (λ s. x ++ s ++ take b.1 memory_line) (sym (take-append-add text line b.0)),
  )

-- ---- ends

module _ (deed : Deed) (c : Call) (old mid new : Option (List ℕ)) (p q p' status : ℕ) where
  pub told_end : (stop : Stop) → Stops deed c (output old mid p q) stop → Tells stop status (output mid new q p') → HasEnd deed c (output old new p p') status
  told_end T.Memory s t = record {
    which = memory;
    by_status = t.0;
    why = (
      s.0,
      s.1,
      s.2,
      Becomes_then (PrintsPart F.Memory s.0 s.1) (EndsInMemory q p') (PrintsMemoryPast s.0 s.1 p p') (memory_then p q p' s.4 s.0 s.1) old mid new s.3 t.1,
    );
  }
  told_end T.Sink s t = record {
    which = sink_fault;
    by_status = t.0;
    why = subst (λ (taken : Option (List ℕ)). IsWhy deed c (output old taken p p') sink_fault) (sym t.1)
        (subst (λ (n : ℕ). IsWhy deed c (output old mid p n) sink_fault) (sym t.2) s);
  }
  told_end (T.Refused r) s t =
      let line_is : refusal_line r.program (refusal_of r.kind) ≡ cause_line c s.0 =
      ap (λ (n : Option ℕ). refusal_line n (refusal_of r.kind)) s.3 ∙ ap (λ (x : Refusal). refusal_line (program_in s.0) x) s.4 in
      let line = refusal_line r.program (refusal_of r.kind) in
      elim t [
        | inl told ↦ record {
          which = refused s.0;
          by_status = told.0 ∙ ap status_of s.4;
          why = (
            s.1,
            s.2,
            subst (λ (l : List ℕ). Becomes old new (PrintsBehind s.1 l p p')) line_is
                (Becomes_then (Appends s.1) (Prints line q p') (PrintsBehind s.1 line p p') (line_then p q p' s.6 s.1 line) old mid new s.5 told.1),
          );
        }
        | inr wanting ↦ record {
          which = memory;
          by_status = wanting.0;
          why = (
            length s.1,
            s.1 ++ cause_line c s.0,
            inr (inr (inr (s.0, s.1, s.2, refl, refl))),
            subst (λ (l : List ℕ). Becomes old new (PrintsMemoryPast (length s.1) (s.1 ++ l) p p')) line_is
                (Becomes_then (Appends s.1) (PrintsMemory line q p') (PrintsMemoryPast (length s.1) (s.1 ++ line) p p') (line_cut p q p' s.6 s.1 line) old mid new s.5 wanting.1),
          );
        }
      ]

pub done_end : (deed : Deed) (c : Call) (old new : Option (List ℕ)) (p p' : ℕ) → Does deed c (output old new p p') (Ok tt) → HasEnd deed c (output old new p p') 0
done_end deed c old new p p' d = record { which = done; by_status = refl; why = (d.0, d.1, d.2) }

-- ---- counts

by_stop : (status n : ℕ) (P : Type 0) (k : ℕ) → (status ≡ n) ⊎ (status ≡ 9) → (n ≡ 9) ⊎ (n ≡ k) ⊎ P → (status ≡ 9) ⊎ (status ≡ k) ⊎ P
by_stop status n P k by h = elim by [
  | inl is ↦ elim h [ inl nine ↦ inl (is ∙ nine) | inr other ↦ elim other [ inl at ↦ inr (inl (is ∙ at)) | inr none ↦ inr (inr none) ] ]
  | inr nine ↦ inl nine
]

module _ (status f f' s s' p q p' : ℕ) where
  -- behind one that stopped before its line was put
  line_counts : (n : ℕ) → (status ≡ n) ⊎ (status ≡ 9) → (status ≡ 0 → p' ≡ p) → CountsBy n f f' s s' p q → q ≡ p → FailsAtMostOnce q p' → CountsBy status f f' s s' p p'
  line_counts n by none c same once = record {
    fetch_once = c.fetch_once;
    save_once = c.save_once;
    put_once = subst (λ (k : ℕ). FailsAtMostOnce k p') same once;
    fetches = by_stop status n (f' ≡ f) 10 by c.fetches;
    saves = by_stop status n (s' ≡ s) 11 by c.saves;
    puts = none;
  }

  pub told_counts : (deed : Deed) (call : Call) (old mid new : Option (List ℕ)) (stop : Stop) → Stops deed call (output old mid p q) stop → Tells stop status (output mid new q p')
      → CountsBy (status_of_stop stop) f f' s s' p q → FailsAtMostOnce q p' → CountsBy status f f' s s' p p'
  told_counts deed call old mid new T.Memory st t c once = line_counts 9 (inl t.0) (λ zero. let nine = t.0 in absurd (omega (arith, nine, zero))) c st.4 once
  told_counts deed call old mid new T.Sink st t c once =
      subst (λ (n : ℕ). CountsBy n f f' s s' p p') (sym t.0) (subst (λ (n : ℕ). CountsBy 12 f f' s s' p n) (sym t.2) c)
  told_counts deed call old mid new (T.Refused r) st t c once =
      let by : (status ≡ status_of (refusal_of r.kind)) ⊎ (status ≡ 9) = elim t [ inl told ↦ inl told.0 | inr wanting ↦ inr wanting.0 ] in
      let still : FailsAtMostOnce p p' = subst (λ (k : ℕ). FailsAtMostOnce k p') st.6 once in
      line_counts (status_of (refusal_of r.kind)) by (refused_counts status f f s s p p' (refusal_of r.kind) refl refl by still).puts c st.6 once

module _ (status f f' s s' p p' : ℕ) where
  -- .. before anything was told
  pub stopped_counts : (old new : Option (List ℕ)) (stop : Stop) → Tells stop status (output old new p p') → CountsBy (status_of_stop stop) f f' s s' p p → FailsAtMostOnce p p'
      → CountsBy status f f' s s' p p'
  stopped_counts old new T.Memory t c once = line_counts status f f' s s' p p p' 9 (inl t.0) (λ zero. let nine = t.0 in absurd (omega (arith, nine, zero))) c refl once
  stopped_counts old new T.Sink t c once = subst (λ (n : ℕ). CountsBy n f f' s s' p p') (sym t.0) (subst (λ (n : ℕ). CountsBy 12 f f' s s' p n) (sym t.2) c)
  stopped_counts old new (T.Refused r) t c once =
      let by : (status ≡ status_of (refusal_of r.kind)) ⊎ (status ≡ 9) = elim t [ inl told ↦ inl told.0 | inr wanting ↦ inr wanting.0 ] in
      line_counts status f f' s s' p p p' (status_of (refusal_of r.kind)) by (refused_counts status f f s s p p' (refusal_of r.kind) refl refl by once).puts c refl once
