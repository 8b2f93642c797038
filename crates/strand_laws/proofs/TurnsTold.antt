-- A turn of one strand, out of what all strands told.
use Rattle.std.proofs.Common.{arith, ◌≡◌, ◌<◌, ℕ, zero, suc, ◌+◌, List, [], ◌∷◌, ◌++◌, length, Option, Some, None, Bool, true, false, refl, sym, ap, ◌∙◌, subst, append_assoc, append-nil, eq-eqb}
use Rattle.std.proofs.Common.{eqb-true, ne_eqb}
use Rattle.std.specs.Prelude.{map, nat_eq, slice_get, if◌then◌else◌}
use Rattle.wa_model.specs.Blocking.{Note}
use Rattle.wa_model.specs.Outside.{Event, answered, called, ended, parked, paused, returned, shown}
use Rattle.world_model.specs.World.{Look, behind_turn, ends_turn, events_with_looks, looks_after, put_off, ticks_in, turn_of}
use Rattle.strand_laws.specs.StrandWorld.{looks_if, notes_of, strand_in}
use Rattle.strand_laws.specs.Strands.{StrandEvent}
use Rattle.strand_laws.specs.Weaving.{Dues, GoesByTurns, HasTurn, due_in, dues_behind, events_shown, is_ready, now_behind}
use Rattle.strand_laws.specs.Woven.{Told, put}

pub other_get : (v : Dues) (i j d : ℕ) (o : Option (Unit {0})) → (j ≡ i → ⊥) → slice_get (put i d o v) j ≡ slice_get v j
other_get [] i j d o ne = refl
other_get (t ∷ v) zero zero d o ne = absurd (ne refl)
other_get (t ∷ v) zero (suc j) d o ne = refl
other_get (t ∷ v) (suc i) zero d o ne = refl
other_get (t ∷ v) (suc i) (suc j) d o ne = other_get v i j d o (λ e. ne (ap suc e))

put_length : (v : Dues) (i d : ℕ) (o : Option (Unit {0})) → length (put i d o v) ≡ length v
put_length [] i d o = refl
put_length (t ∷ v) zero d o = refl
put_length (t ∷ v) (suc i) d o = ap suc (put_length v i d o)

put_due : (v : Dues) (i d : ℕ) (o : Option (Unit {0})) → i < length v → due_in (slice_get (put i d o v) i) ≡ d
put_due [] i d o lt = let no_way : ⊥ = omega arith in absurd no_way
put_due (t ∷ v) zero d o lt = refl
put_due (t ∷ v) (suc i) d o lt = put_due v i d o (omega (arith, lt))

-- what an event does to the dues
pub data EventKind (k : ℕ) (v : Dues) (e : Event) : Type 0 where
  goes_on : ends_turn e ≡ false → now_behind k e ≡ Some k → dues_behind k e v ≡ v → ticks_in e ≡ 0 → EventKind k v e
  turns : ends_turn e ≡ true → now_behind k e ≡ None → due_in (slice_get (dues_behind k e v) k) ≡ due_in (slice_get v k) + ticks_in e
      → ((j : ℕ) → (j ≡ k → ⊥) → slice_get (dues_behind k e v) j ≡ slice_get v j) → length (dues_behind k e v) ≡ length v → EventKind k v e

pub kind_there : (k : ℕ) (v : Dues) (e : Event) → k < length v → EventKind k v e
kind_there k v (called c) lt = goes_on refl refl refl refl
kind_there k v (answered s) lt = goes_on refl refl refl refl
kind_there k v (parked u) lt = goes_on refl refl refl refl
kind_there k v (returned n x) lt = goes_on refl refl refl refl
kind_there k v (shown a b) lt = goes_on refl refl refl refl
kind_there k v (paused t u) lt = turns refl refl (put_due v k _ (Some tt) lt) (λ j ne. other_get v k j _ (Some tt) ne) (put_length v k _ (Some tt))
kind_there k v (ended h) lt =
    turns refl refl (put_due v k (due_in (slice_get v k)) None lt ∙ (let z : due_in (slice_get v k) ≡ due_in (slice_get v k) + 0 = omega arith in z)) (λ j ne. other_get v k j _ None ne)
    (put_length v k _ None)

pub notes_mine : (k : ℕ) (x : Note) (ts : List Told) → notes_of k (record { strand = k; note = x } ∷ ts) ≡ x ∷ notes_of k ts
notes_mine k x ts = rw (eq-eqb k k refl) refl

pub notes_other : (j k : ℕ) (x : Note) (ts : List Told) → (k ≡ j → ⊥) → notes_of j (record { strand = k; note = x } ∷ ts) ≡ notes_of j ts
notes_other j k x ts ne = rw (ne_eqb k j ne) refl

-- the events of a strand
abbrev pub by_strand : ℕ → Event → StrandEvent
by_strand k e = record { strand = strand_in k e; event = e }

both_mapped : (k : ℕ) (xs ys : List Event) → map (by_strand k) (xs ++ ys) ≡ map (by_strand k) xs ++ map (by_strand k) ys
both_mapped k [] ys = refl
both_mapped k (x ∷ xs) ys = ap (λ (z : List StrandEvent). by_strand k x ∷ z) (both_mapped k xs ys)

-- what a turn tells, and what is told behind it
pub record Split (last : ℕ) (looks : List Look) (k : ℕ) (v : Dues) (ts : List Told) (ns : List Note) : Type 0 where
  pub rest : List Told
  pub then_due : Dues
  pub goes : GoesByTurns None then_due rest
  pub events : events_shown last looks ts ≡ map (by_strand k) (events_with_looks (looks_if (nat_eq last k) looks) (turn_of ns)) ++ events_shown last looks rest
  pub behind : behind_turn ns ≡ notes_of k rest
  pub others : (j : ℕ) → (j ≡ k → ⊥) → notes_of j ts ≡ notes_of j rest
  pub due : due_in (slice_get then_due k) ≡ due_in (slice_get v k) + put_off (turn_of ns)
  pub due_others : (j : ℕ) → (j ≡ k → ⊥) → slice_get then_due j ≡ slice_get v j
  pub size : length then_due ≡ length v

module _ (last : ℕ) (looks : List Look) (k : ℕ) where
  abbrev shows : List Note → List Event
  shows ns = events_with_looks (looks_if (nat_eq last k) looks) ns

  at_end : (v : Dues) (x : Note) (ts : List Told) → EventKind k v x.event → GoesByTurns (now_behind k x.event) (dues_behind k x.event v) ts
      → (GoesByTurns (Some k) v ts → Split last looks k v ts (notes_of k ts)) → Split last looks k v (record { strand = k; note = x } ∷ ts) (x ∷ notes_of k ts)
  at_end v x ts (turns e n d o z) g more = record {
    rest = ts;
    then_due = dues_behind k x.event v;
    goes = subst (λ q. GoesByTurns q (dues_behind k x.event v) ts) n g;
    events = ap (λ (ys : List StrandEvent). ys ++ events_shown last looks ts)
        (ap (map (by_strand k)) (sym (append-nil (x.event ∷ looks_after (looks_if (nat_eq last k) looks) x x.event)) ∙ ap shows (sym turn)));
    behind = ap (λ (b : Bool). if b then notes_of k ts else behind_turn (notes_of k ts)) e;
    others = λ j ne. notes_other j k x ts (λ q. ne (sym q));
    due = d ∙ (let q : ticks_in x.event ≡ put_off (turn_of (x ∷ notes_of k ts)) = one ∙ ap put_off (sym turn) in ap (λ u. due_in (slice_get v k) + u) q);
    due_others = o;
    size = z;
  }
    where
      turn : turn_of (x ∷ notes_of k ts) ≡ x ∷ []
      turn = ap (λ (b : Bool). if b then x ∷ [] else x ∷ turn_of (notes_of k ts)) e

      one : ticks_in x.event ≡ put_off (x ∷ [])
      one = let q : ticks_in x.event ≡ ticks_in x.event + 0 = omega arith in q
  at_end v x ts (goes_on e n same none) g more =
      let s = more (subst (λ q. GoesByTurns (Some k) q ts) same (subst (λ q. GoesByTurns q (dues_behind k x.event v) ts) n g)) in record {
        rest = s.rest;
        then_due = s.then_due;
        goes = s.goes;
        events = ap (λ (ys : List StrandEvent). map (by_strand k) (x.event ∷ looks_after (looks_if (nat_eq last k) looks) x x.event) ++ ys) s.events
            ∙ sym (append_assoc (map (by_strand k) (x.event ∷ looks_after (looks_if (nat_eq last k) looks) x x.event)) (map (by_strand k) (shows (turn_of (notes_of k ts))))
            (events_shown last looks s.rest))
            ∙ ap (λ (ys : List StrandEvent). ys ++ events_shown last looks s.rest)
            (sym (both_mapped k (x.event ∷ looks_after (looks_if (nat_eq last k) looks) x x.event) (shows (turn_of (notes_of k ts))))
            ∙ ap (λ (ns : List Note). map (by_strand k) (shows ns)) (sym turn));
        behind = ap (λ (b : Bool). if b then notes_of k ts else behind_turn (notes_of k ts)) e ∙ s.behind;
        others = λ j ne. notes_other j k x ts (λ q. ne (sym q)) ∙ s.others j ne;
        due = s.due ∙ ap (λ u. due_in (slice_get v k) + u) same_off;
        due_others = s.due_others;
        size = s.size;
      }
    where
      turn : turn_of (x ∷ notes_of k ts) ≡ x ∷ turn_of (notes_of k ts)
      turn = ap (λ (b : Bool). if b then x ∷ [] else x ∷ turn_of (notes_of k ts)) e

      same_off : put_off (turn_of (notes_of k ts)) ≡ put_off (turn_of (x ∷ notes_of k ts))
      same_off = let a : put_off (turn_of (x ∷ notes_of k ts)) ≡ ticks_in x.event + put_off (turn_of (notes_of k ts)) = ap put_off turn in omega (arith, a, none)

  pub turn_split : (v : Dues) (ts : List Told) → k < length v → GoesByTurns (Some k) v ts → Split last looks k v ts (notes_of k ts)
  turn_split v [] lt g =
      record {
        rest = [];
        then_due = v;
        goes = tt;
        events = refl;
        behind = refl;
        others = λ j ne. refl;
        due = (let z : due_in (slice_get v k) ≡ due_in (slice_get v k) + 0 = omega arith in z);
        due_others = λ j ne. refl;
        size = refl;
      }
  turn_split v (t ∷ ts) lt g =
      subst (λ z. Split last looks k v (record { strand = z; note = t.note } ∷ ts) (notes_of k (record { strand = z; note = t.note } ∷ ts))) g.0
      (subst (Split last looks k v (record { strand = k; note = t.note } ∷ ts)) (sym (notes_mine k t.note ts))
      (at_end v t.note ts (kind_there k v t.note.event lt) (subst (λ z. GoesByTurns (now_behind z t.note.event) (dues_behind z t.note.event v) ts) (sym g.0) g.1) (λ h. turn_split v ts lt h)))

-- ---- one that has told something still is ready

ready_behind : (i k : ℕ) (e : Event) (v : Dues) → (k ≡ i → ⊥) → is_ready (slice_get (dues_behind i e v) k) ≡ true → is_ready (slice_get v k) ≡ true
ready_behind i k (called c) v ne h = h
ready_behind i k (answered s) v ne h = h
ready_behind i k (parked u) v ne h = h
ready_behind i k (returned n x) v ne h = h
ready_behind i k (shown a b) v ne h = h
ready_behind i k (paused t u) v ne h = subst (λ o. is_ready o ≡ true) (other_get v i k _ (Some tt) ne) h
ready_behind i k (ended w) v ne h = subst (λ o. is_ready o ≡ true) (other_get v i k _ None ne) h

abbrev ReadyNow : Option ℕ → Dues → Type 0
ReadyNow None v = Unit {0}
ReadyNow (Some i) v = is_ready (slice_get v i) ≡ true

ready_on : (i : ℕ) (e : Event) (v : Dues) → is_ready (slice_get v i) ≡ true → ReadyNow (now_behind i e) (dues_behind i e v)
ready_on i (called c) v h = h
ready_on i (answered s) v h = h
ready_on i (parked u) v h = h
ready_on i (returned n x) v h = h
ready_on i (shown a b) v h = h
ready_on i (paused t u) v h = tt
ready_on i (ended w) v h = tt

ready_first : (o : Option ℕ) (v : Dues) (k : ℕ) → ReadyNow o v → HasTurn o v k → is_ready (slice_get v k) ≡ true
ready_first None v k q h = h.ready
ready_first (Some i) v k q h = subst (λ j. is_ready (slice_get v j) ≡ true) h q

true_false : true ≡ false → ⊥
true_false e = cc

ready_step : (v : Dues) (t : Told) (ts : List Told) (k : ℕ) → is_ready (slice_get v t.strand) ≡ true
    → (0 < length (notes_of k ts) → is_ready (slice_get (dues_behind t.strand t.note.event v) k) ≡ true) → 0 < length (notes_of k (t ∷ ts)) → (b : Bool) → nat_eq t.strand k ≡ b
    → is_ready (slice_get v k) ≡ true
ready_step v t ts k here more lt true e = subst (λ j. is_ready (slice_get v j) ≡ true) (eqb-true t.strand k e) here
ready_step v t ts k here more lt false e =
    let ne : (t.strand ≡ k → ⊥) = λ q. true_false (sym (eq-eqb t.strand k q) ∙ e) in
    ready_behind t.strand k t.note.event v (λ q. ne (sym q)) (more (subst (λ (ns : List Note). 0 < length ns) (notes_other k t.strand t.note ts ne) lt))

pub told_ready : (now : Option ℕ) (v : Dues) (ts : List Told) (k : ℕ) → ReadyNow now v → GoesByTurns now v ts → 0 < length (notes_of k ts) → is_ready (slice_get v k) ≡ true
told_ready now v [] k r g lt = let no_way : ⊥ = omega (arith, lt) in absurd no_way
told_ready now v (t ∷ ts) k r g lt =
    let here = ready_first now v t.strand r g.0 in
    ready_step v t ts k here
    (λ lt2. told_ready (now_behind t.strand t.note.event) (dues_behind t.strand t.note.event v) ts k (ready_on t.strand t.note.event v here) g.1 lt2) lt (nat_eq t.strand k) refl
