-- Runs of the woven machine while one strand goes on.
use Rattle.std.proofs.Common.{arith, ◌≡◌, ◌<◌, ◌≤◌, ℕ, zero, suc, ◌+◌, ◌-◌, List, [], ◌∷◌, ◌++◌, length, Option, Some, None, Bool, false, refl, sym, ap, ◌∙◌, subst, append-nil}
use Rattle.std.specs.Prelude.{slice_get, if◌then◌else◌}
use Rattle.run_theory.proofs.Runs.{leads_run, no_move, prefix_of_longer, run_is_run, too_dear}
use Rattle.wa_model.specs.Behaves.{IsPrefix}
use Rattle.wa_model.specs.Machine.{CostsMore, IsRun, Turn, stops, goes, Ran, after, still, run, Leads, stays, moves}
use Rattle.wa_model.specs.Outside.{ended, paused}
use Rattle.wa_model.specs.Blocking.{Note}
use Rattle.world_model.specs.World.{ends_turn}
use Rattle.wa_model.specs.declared.events.End.{End}
use Rattle.strand_laws.proofs.Weaving.{GoesOn, got, told_both, woven_move}
use Rattle.strand_laws.specs.Woven.{Thread, Woven, Told, Loom, told_by, ends_strand, finished, put, going, last_event, standing, standing_now, woven_by, woven, moved, move_of, weave, weave_on}

-- none of these ends a turn
abbrev pub NoEnds : List Note → Type 0
NoEnds [] = Unit {0}
NoEnds (x ∷ xs) = (ends_turn x.event ≡ false) × NoEnds xs

pub no_ends_last : (es : List Note) → NoEnds es → GoesOn (last_event es)
no_ends_last [] h = tt
no_ends_last (x ∷ []) h = h.0
no_ends_last (x ∷ y ∷ ys) h = no_ends_last (y ∷ ys) h.1

pub no_ends_left : (xs ys : List Note) → NoEnds (xs ++ ys) → NoEnds xs
no_ends_left [] ys h = tt
no_ends_left (x ∷ xs) ys h = (h.0, no_ends_left xs ys h.1)

pub no_ends_right : (xs ys : List Note) → NoEnds (xs ++ ys) → NoEnds ys
no_ends_right [] ys h = h
no_ends_right (x ∷ xs) ys h = no_ends_right xs ys h.1

pub last_of : (es : List Note) (x : Note) → last_event (es ++ x ∷ []) ≡ Some x.event
last_of [] x = refl
last_of (y ∷ []) x = refl
last_of (y ∷ z ∷ es) x = last_of (z ∷ es) x

module _ {S : Type 0} (loom : Loom S) where
  pub woven_at : (i due : ℕ) (s : S) (ts : List (Thread S)) → i < length ts
      → weave loom (going i due s ts) ≡ moved loom (loom.starts s) i due (put i due (Some s) ts) (loom.next i s)
  woven_at i due s ts lt = ap (λ (o : Option (Thread S)). move_of loom i (put i due (Some s) ts) (standing i o)) (got loom i ts (record { due = due; at = Some s }) lt)

  pub stands : (i due : ℕ) (s : S) (ts : List (Thread S)) → i < length ts → standing_now (going i due s ts) ≡ Some (record { strand = i; due = due; at = s })
  stands i due s ts lt = ap (standing i) (got loom i ts (record { due = due; at = Some s }) lt)

  none_behind : (ts : List (Thread S)) → slice_get ts (length ts) ≡ None
  none_behind [] = refl
  none_behind (t ∷ ts) = none_behind ts

  pub stands_none : (ts : List (Thread S)) → standing_now (finished ts) ≡ None
  stands_none ts = ap (standing (length ts)) (none_behind ts)

  pub finished_stops : (ts : List (Thread S)) → weave loom (finished ts) ≡ stops
  finished_stops ts = ap (λ (o : Option (Thread S)). move_of loom (length ts) ts (standing (length ts) o)) (none_behind ts)

  pub length_put : (i due : ℕ) (at : Option S) (ts : List (Thread S)) → length (put i due at ts) ≡ length ts
  length_put i due at [] = refl
  length_put zero due at (t ∷ ts) = refl
  length_put (suc i) due at (t ∷ ts) = ap suc (length_put i due at ts)

  -- a stretch of the strand is one of the woven machine
  pub woven_leads : (i due : ℕ) (s t : S) (ts : List (Thread S)) (n : ℕ) (es : List Note) → i < length ts → Leads (loom.next i) s n es t → NoEnds es
      → Leads (weave loom) (going i due s ts) n (told_by i es) (going i due t ts)
  woven_leads i due s _ ts _ _ lt stays h = stays
  woven_leads i due s t ts n es lt (moves {t = v} {k = k} {n = m} {es = xs} {fs = ys} e rest c q) h =
      let h2 : NoEnds (xs ++ ys) = subst NoEnds q h in
      moves (woven_move loom i due s v ts k xs lt e (no_ends_last xs (no_ends_left xs ys h2))) (woven_leads i due v t ts m ys lt rest (no_ends_right xs ys h2)) c
      (ap (told_by i) q ∙ told_both loom i xs ys)

  -- what the strand made within a cost the woven machine does
  pub woven_run_at : (i due : ℕ) (s : S) (ts : List (Thread S)) (m : ℕ) → i < length ts → NoEnds (run (loom.next i) m s).events
      → run (weave loom) m (going i due s ts) ≡ record { events = told_by i (run (loom.next i) m s).events; last = going i due (run (loom.next i) m s).last ts }
  woven_run_at i due s ts m lt h =
      let ir : IsRun (loom.next i) m s (run (loom.next i) m s) = run_is_run S Note (loom.next i) m m s (omega arith) in
      let in_ = ir.within in
      let z : m ≡ ir.cost + (m - ir.cost) = omega arith in
      ap (λ j. run (weave loom) j (going i due s ts)) z
      ∙ leads_run (Woven S) Told (weave loom) (going i due s ts) w1 ir.cost (m - ir.cost) (told_by i r.events) (woven_leads i due s r.last ts ir.cost r.events lt ir.leads h)
      ∙ ap (after (told_by i r.events)) (dear (m - ir.cost) (loom.next i r.last) refl ir.dearer)
      ∙ ap (λ (es : List Told). record { events = es; last = w1 }) (append-nil (told_by i r.events))
    where
      r : Ran S Note
      r = run (loom.next i) m s

      w1 : Woven S
      w1 = going i due r.last ts

      dear : (j : ℕ) (o : Turn S Note) → loom.next i r.last ≡ o → CostsMore j o → run (weave loom) j w1 ≡ still w1
      dear j stops e h = no_move (Woven S) Told (weave loom) j w1 (woven_at i due r.last ts lt ∙ ap (moved loom (loom.starts r.last) i due (put i due (Some r.last) ts)) e)
      dear j (goes k es t) e h =
          too_dear (Woven S) Told (weave loom) k j _ w1 _ (woven_at i due r.last ts lt ∙ ap (moved loom (loom.starts r.last) i due (put i due (Some r.last) ts)) e) h

  pub no_ends_within : (i m n : ℕ) (s : S) → m ≤ n → NoEnds (run (loom.next i) n s).events → NoEnds (run (loom.next i) m s).events
  no_ends_within i m n s le h =
      let p : IsPrefix (run (loom.next i) m s).events (run (loom.next i) (m + (n - m)) s).events = prefix_of_longer S Note (loom.next i) m m (n - m) s (omega arith) in
      let z : m + (n - m) ≡ n = omega arith in
      let q : (run (loom.next i) n s).events ≡ (run (loom.next i) m s).events ++ p.0 = sym (ap (λ j. (run (loom.next i) j s).events) z) ∙ p.1 in
      no_ends_left (run (loom.next i) m s).events p.0 (subst NoEnds q h)

  -- a turn ends, and the machine weaves on
  pub pause_woven : (st : Bool) (i due : ℕ) (es : List Note) (s : S) (ts : List (Thread S)) (ticks used : ℕ) → last_event es ≡ Some (paused ticks used)
      → woven loom st i due es s ts ≡ after (told_by i es) (weave_on loom (suc (length ts)) (loom.store s) (put i (due + ticks) (Some s) ts))
  pause_woven st i due es s ts ticks used e = ap (woven_by loom (weave_on loom (suc (length ts))) st i due es s ts) e

  pub end_woven : (st : Bool) (i due : ℕ) (es : List Note) (s : S) (ts : List (Thread S)) (how : End) → last_event es ≡ Some (ended how)
      → woven loom st i due es s ts ≡ after (told_by i es) (if ends_strand st how then weave_on loom (suc (length ts)) (loom.store s) (put i due None ts) else still (finished (put i due None ts)))
  end_woven st i due es s ts how e = ap (woven_by loom (weave_on loom (suc (length ts))) st i due es s ts) e
