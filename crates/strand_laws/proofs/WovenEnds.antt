-- A woven machine goes on as long as it tells nothing.
use Rattle.std.proofs.Common.{◌≡◌, ℕ, suc, List, [], ◌∷◌, length, Option, Some, None, Bool, true, false, refl, sym, ap, ◌∙◌}
use Rattle.wa_model.specs.Blocking.{Note}
use Rattle.wa_model.specs.Machine.{Turn, stops, goes, Ran}
use Rattle.wa_model.specs.Outside.{Event, answered, called, ended, parked, paused, returned, shown}
use Rattle.wa_model.specs.Store.{Store}
use Rattle.strand_laws.proofs.ByTurns.{standing_there}
use Rattle.strand_laws.proofs.EndTogether.{EndsTold}
use Rattle.strand_laws.proofs.WovenRuns.{stands}
use Rattle.strand_laws.specs.Weaving.{is_there}
use Rattle.strand_laws.specs.Woven.{Loom, Ready, Thread, Told, Woven, last_event, move_of, moved, standing_now, weave, weave_on, woven, woven_by}

-- a strand goes on
abbrev pub goes_now : {S : Type 0} → Woven S → Bool
goes_now w = is_there (standing_now w)

pub none_now : {S : Type 0} (o : Option (Ready S)) → is_there o ≡ false → o ≡ None
none_now None e = refl
none_now (Some r) e = let no_way : ⊥ = cc in absurd no_way

module _ {S : Type 0} (loom : Loom S) where
  -- what a strand made is told
  something_told : {C : Type 0} (again : Store → List (Thread S) → Ran (Woven S) Told) (st : Bool) (i due : ℕ) (x : Note) (es : List Note) (s : S) (ts : List (Thread S)) (e : Option Event)
      → (woven_by loom again st i due (x ∷ es) s ts e).events ≡ [] → C
  something_told again st i due x es s ts None h = let no_way : ⊥ = cc in absurd no_way
  something_told again st i due x es s ts (Some (called c)) h = let no_way : ⊥ = cc in absurd no_way
  something_told again st i due x es s ts (Some (answered v)) h = let no_way : ⊥ = cc in absurd no_way
  something_told again st i due x es s ts (Some (parked u)) h = let no_way : ⊥ = cc in absurd no_way
  something_told again st i due x es s ts (Some (returned n v)) h = let no_way : ⊥ = cc in absurd no_way
  something_told again st i due x es s ts (Some (shown a b)) h = let no_way : ⊥ = cc in absurd no_way
  something_told again st i due x es s ts (Some (paused t u)) h = let no_way : ⊥ = cc in absurd no_way
  something_told again st i due x es s ts (Some (ended how)) h = let no_way : ⊥ = cc in absurd no_way

  still_goes : (w v : Woven S) (k : ℕ) (r : Ready S) → standing_now w ≡ Some r → weave loom w ≡ goes k [] v → goes_now v ≡ true
  still_goes w v k r at e = by_turn (loom.next w.now r.at) (sym (ap (move_of loom w.now w.threads) at) ∙ e)
    where
      made : (es : List Note) (s : S) → (woven loom (loom.starts r.at) w.now r.due es s w.threads).events ≡ [] → (woven loom (loom.starts r.at) w.now r.due es s w.threads).last ≡ v → goes_now v ≡ true
      made [] s none is =
          let h = standing_there w.threads w.now w.now r at in
          sym (ap goes_now is) ∙ ap is_there (stands loom w.now r.due s w.threads h.0)
      made (x ∷ es) s none is = something_told (weave_on loom (suc (length w.threads))) (loom.starts r.at) w.now r.due x es s w.threads (last_event (x ∷ es)) none

      events_of : Turn (Woven S) Told → List Told
      events_of stops = []
      events_of (goes j es t) = es

      last_of : Turn (Woven S) Told → Woven S
      last_of stops = v
      last_of (goes j es t) = t

      by_turn : (o : Turn S Note) → moved loom (loom.starts r.at) w.now r.due w.threads o ≡ goes k [] v → goes_now v ≡ true
      by_turn stops q = let no_way : ⊥ = cc in absurd no_way
      by_turn (goes j es s) q = made es s (ap events_of q) (ap last_of q)

  pub ends_are_told : EndsTold (Woven S) Told (weave loom) goes_now
  ends_are_told = record {
    over_stops = λ w h. ap (move_of loom w.now w.threads) (none_now (standing_now w) h);
    quiet = λ w v k h e. by_ready w v k e (standing_now w) refl h;
  }
    where
      by_ready : (w v : Woven S) (k : ℕ) → weave loom w ≡ goes k [] v → (o : Option (Ready S)) → standing_now w ≡ o → is_there o ≡ true → goes_now v ≡ true
      by_ready w v k e None at h = let no_way : ⊥ = cc in absurd no_way
      by_ready w v k e (Some r) at h = still_goes w v k r at e
