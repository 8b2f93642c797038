-- What each move of a machine keeps, its runs keep.
use Rattle.std.proofs.Common.{◌≡◌, ℕ, zero, suc, ◌+◌, ◌-◌, ◌≤◌, Bool, true, false, cond, ltb, List, ◌++◌, All, sym, ap, ◌∙◌, subst, arith}
use Rattle.std.proofs.lemmas.List.{append_assoc}
use Rattle.run_theory.proofs.Runs.{run_is_run, leads_run}
use Rattle.std.proofs.lemmas.List.Elements.{All-nil, All-append}
use Rattle.wa_model.specs.Machine.{Turn, stops, goes, Ran, after, still, pay, run_with, run, Leads, stays, moves}

module _ {S E : Type 0} (next : S → Turn S E) (Inv : S → Type 0) (P : E → Type 0) where
  abbrev pub TurnKeeps : Turn S E → Type 0
  TurnKeeps stops = Unit {0}
  TurnKeeps (goes k es t) = All P es × Inv t

  abbrev pub RanKeeps : Ran S E → Type 0
  RanKeeps r = All P r.events × Inv r.last

  pay_keeps : (on : ℕ → S → Ran S E) (n : ℕ) (s : S) (t : Turn S E) → ((k : ℕ) (u : S) → Inv u → RanKeeps (on k u)) → Inv s → TurnKeeps t → RanKeeps (pay on n s t)
  pay_keeps on n s stops each h k = (All-nil P, h)
  pay_keeps on n s (goes j es t) each h k = by_cost (ltb j n)
    where
      by_cost : (b : Bool) → RanKeeps (cond b (after es (on (n - suc j) t)) (still s))
      by_cost true = let r = each (n - suc j) t k.1 in (All-append P es (on (n - suc j) t).events k.0 r.0, r.1)
      by_cost false = (All-nil P, h)

  pub run_with_keeps : ((s : S) → Inv s → TurnKeeps (next s)) → (count n : ℕ) (s : S) → Inv s → RanKeeps (run_with next count n s)
  run_with_keeps each zero n s h = (All-nil P, h)
  run_with_keeps each (suc count) n s h = pay_keeps (run_with next count) n s (next s) (run_with_keeps each count) h (each s h)

  pub run_keeps : ((s : S) → Inv s → TurnKeeps (next s)) → (n : ℕ) (s : S) → Inv s → RanKeeps (run next n s)
  run_keeps each n s h = run_with_keeps each n n s h

  -- a run with events before it
  pub after_keeps : ((s : S) → Inv s → TurnKeeps (next s)) → (n : ℕ) (r : Ran S E) → RanKeeps r → RanKeeps (after r.events (run next n r.last))
  after_keeps each n r h = let k = run_keeps each n r.last h.1 in (All-append P r.events (run next n r.last).events h.0 k.0, k.1)

  pub leads_keeps : ((s : S) → Inv s → TurnKeeps (next s)) → (s t : S) (n : ℕ) (es : List E) → Inv s → Leads next s n es t → All P es × Inv t
  leads_keeps each s t n es h stays = (All-nil P, h)
  leads_keeps each s u n gs h (moves {t = t} {k = k} {es = es} {fs = fs} e rest em eg) =
      let there = subst TurnKeeps e (each s h) in
      let more = leads_keeps each t u _ fs there.1 rest in
      (subst (All P) (sym eg) (All-append P es fs there.0 more.0), more.1)

  -- what a longer run makes behind a shorter one
  pub later_keeps : ((s : S) → Inv s → TurnKeeps (next s)) → (n more : ℕ) (r : Ran S E) → Inv (run next n r.last).last
      → (later : List E) × ((after r.events (run next (n + more) r.last)).events ≡ (after r.events (run next n r.last)).events ++ later) × All P later × Inv (run next (n + more) r.last).last
  later_keeps each n more r h =
      let le : n ≤ n = omega arith in
      let i = run_is_run S E next n n r.last le in
      let c = i.cost in
      let within = i.within in
      let left = n - c + more in
      let t = (run next n r.last).last in
      let split : n + more ≡ c + left = omega arith in
      let same : run next (n + more) r.last ≡ after (run next n r.last).events (run next left t) =
      ap (λ (k : ℕ). run next k r.last) split ∙ leads_run S E next r.last t c left (run next n r.last).events i.leads in
      let k = run_keeps each left t h in (
        (run next left t).events,
        ap (λ (q : Ran S E). r.events ++ q.events) same ∙ sym (append_assoc r.events (run next n r.last).events (run next left t).events),
        k.0,
        subst (λ (q : Ran S E). Inv q.last) (sym same) k.1,
      )
