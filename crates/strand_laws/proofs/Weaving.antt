-- A stretch of the strand that goes on is one of the woven machine.
use Rattle.std.proofs.Common.{arith, ◌≡◌, ◌<◌, ℕ, zero, suc, List, [], ◌∷◌, ◌++◌, length, Option, Some, None, Bool, false, refl, ap, ◌∙◌}
use Rattle.std.specs.Prelude.{slice_get, slice_set}
use Rattle.wa_model.specs.Machine.{Turn, goes, Ran}
use Rattle.wa_model.specs.Outside.{Event, called, answered, parked, paused, returned, ended, shown}
use Rattle.wa_model.specs.Blocking.{Note}
use Rattle.world_model.specs.World.{ends_turn}
use Rattle.strand_laws.specs.Woven.{Thread, Woven, Told, Loom, told_by, put, going, last_event, standing, woven_by, moved, move_of, weave, weave_on}

-- the last event of these ends no turn
abbrev pub GoesOn : Option Event → Type 0
GoesOn None = Unit {0}
GoesOn (Some e) = ends_turn e ≡ false

module _ {S : Type 0} (loom : Loom S) where
  pub got : (i : ℕ) (ts : List (Thread S)) (t : Thread S) → i < length ts → slice_get (slice_set ts i t) i ≡ Some t
  got i [] t lt = let no_way : ⊥ = omega arith in absurd no_way
  got zero (x ∷ ts) t lt = refl
  got (suc i) (x ∷ ts) t lt = got i ts t (omega arith)

  pub twice : (i : ℕ) (ts : List (Thread S)) (t u : Thread S) → slice_set (slice_set ts i t) i u ≡ slice_set ts i u
  twice i [] t u = refl
  twice zero (x ∷ ts) t u = refl
  twice (suc i) (x ∷ ts) t u = ap (λ (z : List (Thread S)). x ∷ z) (twice i ts t u)

  pub stays_on : (again : _) (start : Bool) (i due : ℕ) (es : List Note) (s : S) (ts : List (Thread S)) (e : Option Event) → GoesOn e
      → woven_by loom again start i due es s ts e ≡ record { events = told_by i es; last = going i due s ts }
  stays_on again start i due es s ts None g = refl
  stays_on again start i due es s ts (Some (called c)) g = refl
  stays_on again start i due es s ts (Some (answered said)) g = refl
  stays_on again start i due es s ts (Some (parked used)) g = refl
  stays_on again start i due es s ts (Some (returned n v)) g = refl
  stays_on again start i due es s ts (Some (shown a b)) g = refl
  stays_on again start i due es s ts (Some (paused t u)) g = cc
  stays_on again start i due es s ts (Some (ended h)) g = cc

  -- it moves as the strand does
  pub woven_move : (i due : ℕ) (s t : S) (ts : List (Thread S)) (k : ℕ) (es : List Note) → i < length ts → loom.next i s ≡ goes k es t → GoesOn (last_event es)
      → weave loom (going i due s ts) ≡ goes k (told_by i es) (going i due t ts)
  woven_move i due s t ts k es lt e g =
      ap (λ (o : Option (Thread S)). move_of loom i (put i due (Some s) ts) (standing i o)) (got i ts (record { due = due; at = Some s }) lt)
      ∙ ap (λ (o : Turn S Note). moved loom (loom.starts s) i due (put i due (Some s) ts) o) e
      ∙ ap (λ (r : Ran (Woven S) Told). goes k r.events r.last) (stays_on (weave_on loom (suc (length (put i due (Some s) ts)))) (loom.starts s) i due es t (put i due (Some s) ts) (last_event es) g)
      ∙ ap (λ (us : List (Thread S)). goes k (told_by i es) (record { now = i; threads = us })) (twice i ts (record { due = due; at = Some s }) (record { due = due; at = Some t }))

  pub told_both : (i : ℕ) (es fs : List Note) → told_by i (es ++ fs) ≡ told_by i es ++ told_by i fs
  told_both i [] fs = refl
  told_both i (x ∷ es) fs = ap (λ (z : List Told). record { strand = i; note = x } ∷ z) (told_both i es fs)
