-- What a strand of a program tells: to a pause or an end, no fault but behind a call that was refused so, and nothing of parking.
use Rattle.std.proofs.Common.{arith, ◌≡◌, ◌<◌, ◌+◌, ◌-◌, ◌⊎◌, inl, inr, ℕ, zero, suc, List, [], ◌∷◌, ◌++◌, length, map, Option, Some, None, Bool, true, false, refl, sym, ap, ◌∙◌, subst}
use Rattle.std.proofs.Common.{append_assoc, append-nil, eqb-true, eq-eqb}
use Rattle.std.specs.Prelude.{drop, nat_eq, not, nat_lt, if◌then◌else◌, slice_get}
use Rattle.std.proofs.lemmas.Option.{same_Some, slice_get_within}
use Rattle.wa_model.specs.declared.events.End.{End}
use Rattle.wa_model.specs.Outside.{Call, Event, answered, called, ended, parked, paused, returned, shown}
use Rattle.wa_model.specs.Machine.{Ran, Turn, after, goes, pay, run, run_with, still, stops}
use Rattle.wa_model.specs.Store.{Store}
use Rattle.wa_model.specs.Plan.{Outcome, Plan, given, refused}
use Rattle.wa_model.specs.Blocking.{Note, all_left, done_notes, no_store}
use Rattle.wa_model.specs.Instantiation.{opening}
use Rattle.wa_model.specs.Protocol.{Held, aside, busy, calling, entering, exports_of, free, held_begun, held_on, is_running, over, protocol, rewinds, starting, unwinds}
use Rattle.world_model.specs.World.{call_in, ends_turn}
use Rattle.world_laws.specs.Originals.{new_calls, one_if}
use Rattle.world_laws.specs.Replays.{is_fault}
use Rattle.world_laws.proofs.Faults.{AtCall, FaultIs, Fine, Inner, Opens, OpensAs, OpensIf}
use Rattle.strand_laws.proofs.AllByTurns.{held_go}
use Rattle.strand_laws.proofs.ByTurns.{first_there, standing_there}
use Rattle.strand_laws.proofs.Closing.{Closes, story_closes}
use Rattle.strand_laws.proofs.StrandTails.{at_of, is_mine, no_notes, notes_both, notes_same, own_notes, stands_at}
use Rattle.strand_laws.proofs.TurnsTold.{notes_other}
use Rattle.strand_laws.proofs.Weaving.{got}
use Rattle.strand_laws.specs.StrandWorld.{HeldStrands, StrandsInWorld, notes_of, strand_unless_over}
use Rattle.strand_laws.specs.Strands.{ProtocolStrands, Strand, StrandProgram, beginnings, first_outcomes, held_loom, held_wakes, plan_of, strand_at}
use Rattle.strand_laws.specs.Weaving.{Dues, GoesByTurns, HasTurn, all_due, dues_behind, now_behind}
use Rattle.strand_laws.specs.Woven.{Loom, Ready, Thread, Told, Woven, awake, ends_strand, finished, first_ready, going, last_event, move_of, moved, put, ready_if, sooner, standing_now}
use Rattle.strand_laws.specs.Woven.{told_by, weave, weave_on, woven, woven_by}
use Rattle.world_hosting.proofs.CountedNotes.{Goes, Halts}
use Rattle.world_hosting.proofs.NoneParked.{Unparked, unparked_on}
use Rattle.script_command.proofs.StrandTurns.{LeadsTo, Takes, TakesTo, TurnFine, begun_fine, left_in, on_fine, turn_fine}

-- ---- notes behind notes

opens_on : (xs ys : List Note) → Opens xs → Opens ys → Opens (xs ++ ys)
opens_on [] ys h k = k
opens_on (x ∷ xs) ys h k = h

no_fault_is : (e : End) (v : Event) → is_fault v ≡ false → FaultIs e v
no_fault_is e (ended how) h = λ k. let bad : true ≡ false = sym k ∙ h in absurd cc
no_fault_is e (called c) h = tt
no_fault_is e (answered v) h = tt
no_fault_is e (paused t u) h = tt
no_fault_is e (returned i v) h = tt
no_fault_is e (parked used) h = tt
no_fault_is e (shown a b) h = tt

opens_as : (e : End) (xs : List Note) → Opens xs → OpensAs e xs
opens_as e [] h = tt
opens_as e (x ∷ xs) h = no_fault_is e x.event h

opens_if_on : (o : Outcome) (xs ys : List Note) → OpensIf o xs → Opens ys → OpensIf o (xs ++ ys)
opens_if_on (given a) xs ys h k = opens_on xs ys h k
opens_if_on (refused e) [] ys h k = opens_as e ys k
opens_if_on (refused e) (x ∷ xs) ys h k = h

-- Of two lists of notes, told with these outcomes, the first with the others behind it: that is so, where the second is told with those that are left.
inner_on : (used os : List Outcome) (xs ys : List Note) → length used ≡ new_calls xs → Inner (used ++ os) xs → Fine os ys → Inner (used ++ os) (xs ++ ys)
inner_on [] os [] ys e h k = k.1
inner_on (u ∷ used) os [] ys e h k = let no_way : ⊥ = omega arith in absurd no_way
inner_on used os (x ∷ xs) ys e h k = by_call (λ vs f g. inner_on vs os xs ys f g k) (call_in x.event) used refl e h
  where
    by_call : ((vs : List Outcome) → length vs ≡ new_calls xs → Inner (vs ++ os) xs → Inner (vs ++ os) (xs ++ ys)) → (c : Option Call) (vs : List Outcome) → call_in x.event ≡ c
        → length vs ≡ new_calls (x ∷ xs) → AtCall c (vs ++ os) xs (λ us. Inner us xs) → AtCall c (vs ++ os) (xs ++ ys) (λ us. Inner us (xs ++ ys))
    by_call on None vs z f g = (opens_on xs ys g.0 k.0, on vs (f ∙ ap (λ (c : Option Call). one_if c + new_calls xs) z ∙ nothing) g.1)
      where
        nothing : 0 + new_calls xs ≡ new_calls xs
        nothing = omega arith
    by_call on (Some c) [] z f g =
        let one : new_calls (x ∷ xs) ≡ 1 + new_calls xs = ap (λ (c : Option Call). one_if c + new_calls xs) z in
        let no_way : ⊥ = omega arith in absurd no_way
    by_call on (Some c) (v ∷ vs) z f g =
        let one : new_calls (x ∷ xs) ≡ 1 + new_calls xs = ap (λ (c : Option Call). one_if c + new_calls xs) z in
        (opens_if_on v xs ys g.0 k.0, on vs (omega arith) g.1)

takes_on : (os left : List Outcome) (xs ys : List Note) → Takes os xs left → Fine os xs → Fine left ys → Fine os (xs ++ ys)
takes_on os left xs ys t h k =
    let f : Fine (t.0 ++ left) xs = subst (λ (us : List Outcome). Fine us xs) t.1 h in
    subst (λ (us : List Outcome). Fine us (xs ++ ys)) (sym t.1) (opens_on xs ys f.0 k.0, inner_on t.0 left xs ys t.2 f.1 k)

-- notes without calls and faults
abbrev Calm : List Note → Type 0
Calm [] = Unit {0}
Calm (x ∷ xs) = (is_fault x.event ≡ false) × (call_in x.event ≡ None) × Calm xs

calm_opens : (xs : List Note) → Calm xs → Opens xs
calm_opens [] h = tt
calm_opens (x ∷ xs) h = h.0

calm_inner : (os : List Outcome) (xs : List Note) → Calm xs → Inner os xs
calm_inner os [] h = tt
calm_inner os (x ∷ xs) h = subst (λ (c : Option Call). AtCall c os xs (λ us. Inner us xs)) (sym h.1) (calm_opens xs h.2, calm_inner os xs h.2)

calm_behind : (os : List Outcome) (xs ys : List Note) → Inner os xs → Calm ys → Inner os (xs ++ ys)
calm_behind os [] ys h k = calm_inner os ys k
calm_behind os (x ∷ xs) ys h k = by_call (λ us g. calm_behind us xs ys g k) (call_in x.event) os h
  where
    by_call : ((us : List Outcome) → Inner us xs → Inner us (xs ++ ys)) → (c : Option Call) (us : List Outcome) → AtCall c us xs (λ vs. Inner vs xs)
        → AtCall c us (xs ++ ys) (λ vs. Inner vs (xs ++ ys))
    by_call on None us g = (opens_on xs ys g.0 (calm_opens ys k), on us g.1)
    by_call on (Some c) [] g = on [] g
    by_call on (Some c) (u ∷ us) g = (opens_if_on u xs ys g.0 (calm_opens ys k), on us g.1)

-- ---- what a strand still tells

-- the notes that a strand may still tell from where it stands
abbrev OwesAt : Held → List Note → Type 0
OwesAt (free s l) xs = Fine l.outcomes xs
OwesAt (starting f s l) xs = Fine l.outcomes xs
OwesAt (busy ph c l) xs = Fine l.outcomes xs
OwesAt (calling ph s f args th l) xs = Fine l.outcomes xs
OwesAt (aside ph c th l) xs = Fine l.outcomes xs
OwesAt (entering ph e s l) xs = Fine l.outcomes xs
OwesAt (over s) xs = Calm xs

-- .. none once it has ended
abbrev Owes : Option Held → List Note → Type 0
Owes None xs = xs ≡ []
Owes (Some h) xs = Unparked xs × OwesAt h xs

-- what is told with these outcomes
abbrev Lawful : List Outcome → List Note → Type 0
Lawful os xs = Unparked xs × Fine os xs

lead_on : (os : List Outcome) (es : List Note) (h : Held) → LeadsTo os es h → (xs : List Note) → Owes (Some h) xs → Lawful os (es ++ xs)
lead_on os es h t xs o = (unparked_on es xs t.unparked o.0, by h t.takes o.1)
  where
    by : (h : Held) → TakesTo os es h → OwesAt h xs → Fine os (es ++ xs)
    by (free s l) k w = takes_on os l.outcomes es xs k t.fine w
    by (starting f s l) k w = takes_on os l.outcomes es xs k t.fine w
    by (busy ph c l) k w = takes_on os l.outcomes es xs k t.fine w
    by (calling ph s f args th l) k w = takes_on os l.outcomes es xs k t.fine w
    by (aside ph c th l) k w = takes_on os l.outcomes es xs k t.fine w
    by (entering ph e s l) k w = takes_on os l.outcomes es xs k t.fine w
    by (over s) k w = (opens_on es xs t.fine.0 (calm_opens xs w), calm_behind os es xs t.fine.1 w)

-- From one state to the other with these notes: what may be told from there may be told behind them from here, and so may they alone.
record Steps (P : List Note → Type 0) (es : List Note) (h : Held) : Type 0 where
  on : (xs : List Note) → Owes (Some h) xs → P (es ++ xs)
  ends : P es

told_steps : (os : List Outcome) (es : List Note) (h : Held) → LeadsTo os es h → Steps (Lawful os) es h
told_steps os es h t = record { on = lead_on os es h t; ends = (t.unparked, t.fine) }

abbrev TurnSteps : Held → Turn Held Note → Type 0
TurnSteps h stops = Unit {0}
TurnSteps h (goes k es u) = Steps (Owes (Some h)) es u

turn_steps : (g : StrandProgram) (i : ℕ) (h : Held) → TurnSteps h (protocol g.source (exports_of g.source) (plan_of g (strand_at g i)) h)
turn_steps g i h = by h (protocol g.source (exports_of g.source) (plan_of g (strand_at g i)) h) refl (turn_fine g.source (exports_of g.source) (plan_of g (strand_at g i)) h)
  where
    step : Held → Turn Held Note
    step h = protocol g.source (exports_of g.source) (plan_of g (strand_at g i)) h

    by : (h : Held) (o : Turn Held Note) → step h ≡ o → TurnFine (left_in h) o → TurnSteps h o
    by h stops e t = tt
    by (free s l) (goes k es u) e t = told_steps l.outcomes es u t
    by (starting f s l) (goes k es u) e t = told_steps l.outcomes es u t
    by (busy ph c l) (goes k es u) e t = told_steps l.outcomes es u t
    by (calling ph s f args th l) (goes k es u) e t = told_steps l.outcomes es u t
    by (aside ph c th l) (goes k es u) e t = told_steps l.outcomes es u t
    by (entering ph x s l) (goes k es u) e t = told_steps l.outcomes es u t
    by (over s) (goes k es u) e t = let bad : stops ≡ goes k es u = e in absurd (never bad)
      where
        is_stop : Turn Held Note → Bool
        is_stop stops = true
        is_stop (goes k es u) = false

        never : stops ≡ goes k es u → ⊥
        never q = let z : true ≡ false = ap is_stop q in cc

none_told : (h : Held) → Owes (Some h) []
none_told h = (tt, by h)
  where
    by : (h : Held) → OwesAt h []
    by (free s l) = (tt, tt)
    by (starting f s l) = (tt, tt)
    by (busy ph c l) = (tt, tt)
    by (calling ph s f args th l) = (tt, tt)
    by (aside ph c th l) = (tt, tt)
    by (entering ph e s l) = (tt, tt)
    by (over s) = tt

same_steps : (h : Held) → Steps (Owes (Some h)) [] h
same_steps h = record { on = λ xs o. o; ends = none_told h }

wake_steps : (s : Store) (h : Held) → Steps (Owes (Some h)) (held_wakes s h).events (held_wakes s h).last
wake_steps s (free old l) = told_steps l.outcomes (done_notes s l.entries) (held_on s l l.entries) (on_fine s l l.entries)
wake_steps s (starting f t l) = same_steps (starting f t l)
wake_steps s (busy ph c l) = same_steps (busy ph c l)
wake_steps s (calling (is_running task) t f args th l) = same_steps (calling (is_running task) t f args th l)
wake_steps s (calling (unwinds e i a) t f args th l) = same_steps (calling (unwinds e i a) t f args th l)
wake_steps s (calling (rewinds e i a sp) t f args th l) = record { on = λ xs o. o; ends = none_told (calling (rewinds e i a sp) t f args th l) }
wake_steps s (aside ph c th l) = same_steps (aside ph c th l)
wake_steps s (entering ph e t l) = same_steps (entering ph e t l)
wake_steps s (over t) = same_steps (over t)

-- a strand that goes on where the steps don't reach
spent_told : (steps : ℕ) (r : Ready Held) (h : Held) → Owes (Some h) (map (λ (t : Told). t.note) (strand_unless_over steps (Some r)))
spent_told steps r h = ((refl, tt), by h)
  where
    by : (h : Held) → OwesAt h (map (λ (t : Told). t.note) (strand_unless_over steps (Some r)))
    by (free s l) = (refl, (tt, tt))
    by (starting f s l) = (refl, (tt, tt))
    by (busy ph c l) = (refl, (tt, tt))
    by (calling ph s f args th l) = (refl, (tt, tt))
    by (aside ph c th l) = (refl, (tt, tt))
    by (entering ph e s l) = (refl, (tt, tt))
    by (over s) = (refl, refl, tt)

-- ---- woven strands

none_some : {A : Type 0} {B : Type 0} (x : A) → None ≡ Some x → B
none_some x e = let no_way : ⊥ = cc in absurd no_way

put_other : (i d : ℕ) (o : Option Held) (ts : List (Thread Held)) (k : ℕ) → (i ≡ k → ⊥) → slice_get (put i d o ts) k ≡ slice_get ts k
put_other i d o [] k ne = refl
put_other zero d o (t ∷ ts) zero ne = absurd (ne refl)
put_other zero d o (t ∷ ts) (suc k) ne = refl
put_other (suc i) d o (t ∷ ts) zero ne = refl
put_other (suc i) d o (t ∷ ts) (suc k) ne = put_other i d o ts k (λ e. ne (ap suc e))

same_or_not : (j i : ℕ) → (j ≡ i) ⊎ (j ≡ i → ⊥)
same_or_not j i = by (nat_eq j i) refl
  where
    differs : true ≡ false → ⊥
    differs e = cc

    by : (b : Bool) → nat_eq j i ≡ b → (j ≡ i) ⊎ (j ≡ i → ⊥)
    by true e = inl (eqb-true j i e)
    by false e = inr (λ q. differs (sym (eq-eqb j i q) ∙ e))

first_stands : (k : ℕ) (ts : List (Thread Held)) (r : Ready Held) → first_ready k ts ≡ Some r → (j : ℕ) × (r.strand ≡ k + j) × (at_of (slice_get ts j) ≡ Some r.at)
first_stands k [] r e = none_some r e
first_stands k (t ∷ ts) r e = by_both (λ q. let m = first_stands (suc k) ts r q in let z = m.1 in (suc m.0, omega (arith, z), m.2)) t.at (first_ready (suc k) ts) refl refl e
  where
    Found : Type 0
    Found = (j : ℕ) × (r.strand ≡ k + j) × (at_of (slice_get (t ∷ ts) j) ≡ Some r.at)

    here : (h : Held) → t.at ≡ Some h → Some (record { strand = k; due = t.due; at = h }) ≡ Some r → Found
    here h a q =
        let z : record { strand = k; due = t.due; at = h } ≡ r = same_Some _ _ q in
        let y : k ≡ k + 0 = omega arith in
        (0, sym (ap (λ (x : Ready Held). x.strand) z) ∙ y, a ∙ ap (λ (x : Ready Held). Some x.at) z)

    by_both : (first_ready (suc k) ts ≡ Some r → Found) → (a : Option Held) (b : Option (Ready Held)) → t.at ≡ a → first_ready (suc k) ts ≡ b → sooner (ready_if k t.due a) b ≡ Some r → Found
    by_both later None b ea eb q = later (eb ∙ q)
    by_both later (Some h) None ea eb q = here h ea q
    by_both later (Some h) (Some x) ea eb q = by_less (nat_lt x.due t.due) q
      where
        by_less : (c : Bool) → (if c then Some x else Some (record { strand = k; due = t.due; at = h })) ≡ Some r → Found
        by_less true q2 = later (eb ∙ q2)
        by_less false q2 = here h ea q2

module _ (g : StrandProgram) (i : ℕ) where
  abbrev loom : Loom Held
  loom = held_loom g

  -- where the strand stands
  abbrev at : List (Thread Held) → Option Held
  at ts = at_of (slice_get ts i)

  -- what these strands make is told so of this one, with what it still tells behind it
  abbrev Carries : (List Note → Type 0) → Ran (Woven Held) Told → Type 0
  Carries P r = (xs : List Note) → Owes (at r.last.threads) xs → P (notes_of i r.events ++ xs)

  abbrev AgainCarries : (Store → List (Thread Held) → Ran (Woven Held) Told) → Type 0
  AgainCarries again = (s : Store) (ts : List (Thread Held)) → Carries (Owes (at ts)) (again s ts)

  -- behind notes of a strand
  behind_notes : (P : List Note → Type 0) (j : ℕ) (es : List Note) (events : List Told) (xs : List Note)
      → P (notes_of i (told_by j es) ++ (notes_of i events ++ xs)) → P (notes_of i (told_by j es ++ events) ++ xs)
  behind_notes P j es events xs h =
      subst P (sym (ap (λ (ns : List Note). ns ++ xs) (notes_both i (told_by j es) events) ∙ append_assoc (notes_of i (told_by j es)) (notes_of i events) xs)) h

  module _ (again : Store → List (Thread Held) → Ran (Woven Held) Told) (ok : AgainCarries again) where
    -- a move of the strand
    mine : (P : List Note → Type 0) (st : Bool) (due : ℕ) (es : List Note) (s : Held) (ts : List (Thread Held)) (e : Option Event) → i < length ts → Steps P es s
        → Carries P (woven_by loom again st i due es s ts e)
    mine P st due es s ts e lt t = by_case e
      where
        own : notes_of i (told_by i es) ≡ es
        own = own_notes i es

        here : (d : ℕ) (o : Option Held) → at (put i d o ts) ≡ o
        here d o = ap at_of (got loom i ts (record { due = d; at = o }) lt)

        on_from : (d : ℕ) (o : Option Held) → ((ys : List Note) → Owes o ys → P (es ++ ys)) → (r : Ran (Woven Held) Told) → Carries (Owes (at (put i d o ts))) r
            → Carries P (after (told_by i es) r)
        on_from d o steps r k xs h =
            let y : Owes o (notes_of i r.events ++ xs) = subst (λ (z : Option Held). Owes z (notes_of i r.events ++ xs)) (here d o) (k xs h) in
            behind_notes P i es r.events xs (subst (λ (ns : List Note). P (ns ++ (notes_of i r.events ++ xs))) (sym own) (steps (notes_of i r.events ++ xs) y))

        gone : (ys : List Note) → Owes None ys → P (es ++ ys)
        gone ys z = subst P (sym (ap (λ (us : List Note). es ++ us) z ∙ append-nil es)) t.ends

        stays : Carries P (record { events = told_by i es; last = going i due s ts })
        stays xs h = subst (λ (ns : List Note). P (ns ++ xs)) (sym own) (t.on xs (subst (λ (z : Option Held). Owes z xs) (here due (Some s)) h))

        by_end : (b : Bool) → Carries P (after (told_by i es) (if b then again (loom.store s) (put i due None ts) else still (finished (put i due None ts))))
        by_end true = on_from due None gone (again (loom.store s) (put i due None ts)) (ok (loom.store s) (put i due None ts))
        by_end false = on_from due None gone (still (finished (put i due None ts))) (λ xs h. h)

        by_case : (e : Option Event) → Carries P (woven_by loom again st i due es s ts e)
        by_case None = stays
        by_case (Some (called c)) = stays
        by_case (Some (answered v)) = stays
        by_case (Some (parked u)) = stays
        by_case (Some (returned n v)) = stays
        by_case (Some (shown a b)) = stays
        by_case (Some (paused ticks used)) =
            on_from (due + ticks) (Some s) t.on (again (loom.store s) (put i (due + ticks) (Some s) ts)) (ok (loom.store s) (put i (due + ticks) (Some s) ts))
        by_case (Some (ended how)) = by_end (ends_strand st how)

    -- .. of another
    others : (j : ℕ) (st : Bool) (due : ℕ) (es : List Note) (s : Held) (ts : List (Thread Held)) (e : Option Event) → (j ≡ i → ⊥) → Carries (Owes (at ts)) (woven_by loom again st j due es s ts e)
    others j st due es s ts e ne = by_case e
      where
        none : notes_of i (told_by j es) ≡ []
        none = no_notes i j es ne

        there : (d : ℕ) (o : Option Held) → at (put j d o ts) ≡ at ts
        there d o = ap at_of (put_other j d o ts i ne)

        on_from : (d : ℕ) (o : Option Held) (r : Ran (Woven Held) Told) → Carries (Owes (at (put j d o ts))) r → Carries (Owes (at ts)) (after (told_by j es) r)
        on_from d o r k xs h =
            behind_notes (Owes (at ts)) j es r.events xs
            (subst (λ (ns : List Note). Owes (at ts) (ns ++ (notes_of i r.events ++ xs))) (sym none)
            (subst (λ (z : Option Held). Owes z (notes_of i r.events ++ xs)) (there d o) (k xs h)))

        stays : Carries (Owes (at ts)) (record { events = told_by j es; last = going j due s ts })
        stays xs h = subst (λ (ns : List Note). Owes (at ts) (ns ++ xs)) (sym none) (subst (λ (z : Option Held). Owes z xs) (there due (Some s)) h)

        by_end : (b : Bool) → Carries (Owes (at ts)) (after (told_by j es) (if b then again (loom.store s) (put j due None ts) else still (finished (put j due None ts))))
        by_end true = on_from due None (again (loom.store s) (put j due None ts)) (ok (loom.store s) (put j due None ts))
        by_end false = on_from due None (still (finished (put j due None ts))) (λ xs h. h)

        by_case : (e : Option Event) → Carries (Owes (at ts)) (woven_by loom again st j due es s ts e)
        by_case None = stays
        by_case (Some (called c)) = stays
        by_case (Some (answered v)) = stays
        by_case (Some (parked u)) = stays
        by_case (Some (returned n v)) = stays
        by_case (Some (shown a b)) = stays
        by_case (Some (paused ticks used)) =
            on_from (due + ticks) (Some s) (again (loom.store s) (put j (due + ticks) (Some s) ts)) (ok (loom.store s) (put j (due + ticks) (Some s) ts))
        by_case (Some (ended how)) = by_end (ends_strand st how)

    -- .. of any
    anyone : (j : ℕ) (st : Bool) (due : ℕ) (es : List Note) (h s : Held) (ts : List (Thread Held)) (e : Option Event) → j < length ts → at_of (slice_get ts j) ≡ Some h
        → Steps (Owes (Some h)) es s → Carries (Owes (at ts)) (woven_by loom again st j due es s ts e)
    anyone j st due es h s ts e lt is t = by (same_or_not j i)
      where
        by : (j ≡ i) ⊎ (j ≡ i → ⊥) → Carries (Owes (at ts)) (woven_by loom again st j due es s ts e)
        by (inr ne) = others j st due es s ts e ne
        by (inl same) =
            let here : at ts ≡ Some h = ap (λ (k : ℕ). at_of (slice_get ts k)) (sym same) ∙ is in
            subst (λ (k : ℕ). Carries (Owes (at ts)) (woven_by loom again st k due es s ts e)) (sym same)
            (mine (Owes (at ts)) st due es s ts e (subst (λ (k : ℕ). k < length ts) same lt) (subst (λ (o : Option Held). Steps (Owes o) es s) (sym here) t))

  weaves : (most : ℕ) → AgainCarries (weave_on loom most)
  weaves zero s ts = λ xs h. h
  weaves (suc most) s ts = by_first (weaves most) (first_ready 0 ts) refl
    where
      by_first : AgainCarries (weave_on loom most) → (o : Option (Ready Held)) → first_ready 0 ts ≡ o → Carries (Owes (at ts)) (awake loom (weave_on loom most) s ts o)
      by_first on None e = λ xs h. h
      by_first on (Some r) e =
          let f = first_stands 0 ts r e in
          let z = f.1 in
          let y : f.0 ≡ r.strand = omega (arith, z) in
          let there : at_of (slice_get ts r.strand) ≡ Some r.at = subst (λ (k : ℕ). at_of (slice_get ts k) ≡ Some r.at) y f.2 in
          let w : Ran Held Note = held_wakes s r.at in
          anyone (weave_on loom most) on r.strand false r.due w.events r.at w.last ts (last_event w.events) (first_there ts r e).0 there (wake_steps s r.at)

  -- from a run to one that goes on from it
  behind_run : (P : List Note → Type 0) (a b : Ran (Woven Held) Told) → Carries P a → Carries (Owes (at a.last.threads)) b → Carries P (after a.events b)
  behind_run P a b h k xs o =
      subst P (sym (ap (λ (ns : List Note). ns ++ xs) (notes_both i a.events b.events) ∙ append_assoc (notes_of i a.events) (notes_of i b.events) xs)) (h (notes_of i b.events ++ xs) (k xs o))

  runs : (count n : ℕ) (w : Woven Held) → Carries (Owes (at w.threads)) (run_with (weave loom) count n w)
  runs zero n w = λ xs h. h
  runs (suc count) n w = by_standing (runs count) (standing_now w) refl
    where
      Runs : Type 0
      Runs = (m : ℕ) (v : Woven Held) → Carries (Owes (at v.threads)) (run_with (weave loom) count m v)

      by_cost : Runs → (a : Ran (Woven Held) Told) → Carries (Owes (at w.threads)) a → (k : ℕ) (b : Bool)
          → Carries (Owes (at w.threads)) (if b then after a.events (run_with (weave loom) count (n - suc k) a.last) else still w)
      by_cost on a h k true = behind_run (Owes (at w.threads)) a (run_with (weave loom) count (n - suc k) a.last) h (on (n - suc k) a.last)
      by_cost on a h k false = λ xs o. o

      by_turn : Runs → (r : Ready Held) → standing_now w ≡ Some r → (o : Turn Held Note) → TurnSteps r.at o
          → Carries (Owes (at w.threads)) (pay (run_with (weave loom) count) n w (moved loom (loom.starts r.at) w.now r.due w.threads o))
      by_turn on r e stops t = λ xs h. h
      by_turn on r e (goes k es s) t =
          by_cost on (woven loom (loom.starts r.at) w.now r.due es s w.threads)
          (anyone (weave_on loom (suc (length w.threads))) (weaves (suc (length w.threads))) w.now (loom.starts r.at) r.due es r.at s w.threads (last_event es)
          (standing_there w.threads w.now w.now r e).0 (stands_at w.now (slice_get w.threads w.now) r e) t) k (nat_lt k n)

      by_standing : Runs → (o : Option (Ready Held)) → standing_now w ≡ o → Carries (Owes (at w.threads)) (pay (run_with (weave loom) count) n w (move_of loom w.now w.threads o))
      by_standing on None e = λ xs h. h
      by_standing on (Some r) e = by_turn on r e (loom.next w.now r.at) (turn_steps g w.now r.at)

  -- where the steps don't reach for the next move
  spent : (steps : ℕ) (w : Woven Held) → Owes (at w.threads) (notes_of i (strand_unless_over steps (standing_now w)))
  spent steps w = by (standing_now w) refl
    where
      none_owed : (o : Option Held) → Owes o []
      none_owed None = refl
      none_owed (Some h) = none_told h

      by : (o : Option (Ready Held)) → standing_now w ≡ o → Owes (at w.threads) (notes_of i (strand_unless_over steps o))
      by None e = none_owed (at w.threads)
      by (Some r) e = by_strand (same_or_not r.strand i)
        where
          is_now : r.strand ≡ w.now
          is_now = (standing_there w.threads w.now w.now r e).2

          by_strand : (r.strand ≡ i) ⊎ (r.strand ≡ i → ⊥) → Owes (at w.threads) (notes_of i (strand_unless_over steps (Some r)))
          by_strand (inr ne) = subst (Owes (at w.threads)) (sym (notes_other i r.strand _ [] ne)) (none_owed (at w.threads))
          by_strand (inl same) =
              let here : at w.threads ≡ Some r.at = ap (λ (k : ℕ). at_of (slice_get w.threads k)) (sym same ∙ is_now) ∙ stands_at w.now (slice_get w.threads w.now) r e in
              subst (Owes (at w.threads)) (sym (notes_same i _ [] same)) (subst (λ (o : Option Held). Owes o (map (λ (t : Told). t.note) (strand_unless_over steps (Some r)))) (sym here)
              (spent_told steps r r.at))

-- ---- from the start

abbrev thread_of : Held → Thread Held
thread_of h = record { due = 0; at = Some h }

-- where the strands behind the first begin
begun_at : (g : StrandProgram) (ss : List Strand) (oss : List (List Outcome)) → length oss ≡ length ss → (k : ℕ) (os : List Outcome) → slice_get oss k ≡ Some os
    → (plan : Plan) × (at_of (slice_get (map thread_of (beginnings (free no_store) g ss oss)) k) ≡ Some (free no_store (all_left plan os)))
begun_at g [] [] wide k os is = none_some os is
begun_at g [] (us ∷ oss) wide k os is = let no_way : ⊥ = omega (arith, wide) in absurd no_way
begun_at g (s ∷ ss) [] wide k os is = none_some os is
begun_at g (s ∷ ss) (us ∷ oss) wide zero os is = (plan_of g s, ap (λ (vs : List Outcome). Some (free no_store (all_left (plan_of g s) vs))) (same_Some us os is))
begun_at g (s ∷ ss) (us ∷ oss) wide (suc k) os is = begun_at g ss oss (omega (arith, wide)) k os is

less_one : {A : Type 0} {B : Type 0} (xs : List A) (ys : List B) → length xs ≡ length ys → length (drop 1 xs) ≡ length (drop 1 ys)
less_one [] [] e = refl
less_one [] (y ∷ ys) e = let no_way : ⊥ = omega (arith, e) in absurd no_way
less_one (x ∷ xs) [] e = let no_way : ⊥ = omega (arith, e) in absurd no_way
less_one (x ∷ xs) (y ∷ ys) e = omega (arith, e)

first_of : (oss : List (List Outcome)) (os : List Outcome) → slice_get oss 0 ≡ Some os → first_outcomes oss ≡ os
first_of [] os is = none_some os is
first_of (us ∷ oss) os is = same_Some us os is

behind_first : (oss : List (List Outcome)) (k : ℕ) → slice_get oss (suc k) ≡ slice_get (drop 1 oss) k
behind_first [] k = refl
behind_first (us ∷ oss) k = refl

module _ (g : StrandsInWorld) (oss : List (List Outcome)) where
  abbrev begun : Ran Held Note
  begun = held_begun g.program.source.start (all_left (plan_of g.program (strand_at g.program 0)) (first_outcomes oss)) (opening g.program.source g.program.globals)

  abbrev threads : List (Thread Held)
  threads = map thread_of (begun.last ∷ beginnings (free no_store) g.program (drop 1 g.program.strands) (drop 1 oss))

  abbrev woven_first : Ran (Woven Held) Told
  woven_first = woven (held_loom g.program) true 0 0 begun.events begun.last threads

  -- what the first strand makes before the first move is told so of each
  first_carries : length oss ≡ length g.program.strands → (i : ℕ) (os : List Outcome) → slice_get oss i ≡ Some os → Carries g.program i (Lawful os) woven_first
  first_carries wide zero os is =
      mine g.program 0 (weave_on (held_loom g.program) (suc (length threads))) (weaves g.program 0 (suc (length threads))) (Lawful os) true 0 begun.events begun.last threads (last_event begun.events)
      (omega arith) (told_steps os begun.events begun.last (subst (λ (us : List Outcome). LeadsTo us begun.events begun.last) (first_of oss os is)
      (begun_fine g.program.source g.program.globals (all_left (plan_of g.program (strand_at g.program 0)) (first_outcomes oss)))))
  first_carries wide (suc k) os is =
      let there = begun_at g.program (drop 1 g.program.strands) (drop 1 oss) (less_one oss g.program.strands wide) k os (sym (behind_first oss k) ∙ is) in
      subst (λ (o : Option Held). Carries g.program (suc k) (Owes o) woven_first) there.1
      (others g.program (suc k) (weave_on (held_loom g.program) (suc (length threads))) (weaves g.program (suc k) (suc (length threads))) 0 true 0 begun.events begun.last threads
      (last_event begun.events) (λ e. omega (arith, e)))

  -- so is all that they tell
  told_lawful : (ts : List Told) → length oss ≡ length g.program.strands → HeldStrands g oss ts → (i : ℕ) (os : List Outcome) → slice_get oss i ≡ Some os → Lawful os (notes_of i ts)
  told_lawful ts wide e i os is =
      let rest : Ran (Woven Held) Told = run (weave (held_loom g.program)) g.steps woven_first.last in
      let all = behind_run g.program i (Lawful os) woven_first rest (first_carries wide i os is) (runs g.program i g.steps g.steps woven_first.last) in
      subst (Lawful os) (sym (ap (notes_of i) e ∙ notes_both i (ProtocolStrands g.program oss g.steps).events (strand_unless_over g.steps (standing_now rest.last))))
      (all (notes_of i (strand_unless_over g.steps (standing_now rest.last))) (spent g.program i g.steps rest.last))

-- ---- turns

-- where no turn of the strand is open it has told none since, else it tells the rest
abbrev Halted : (opened : Bool) → List Note → Type 0
Halted true xs = Halts xs
Halted false xs = (xs ≡ []) ⊎ Halts xs

halts_front : (x : Note) (xs : List Note) (b : Bool) → ends_turn x.event ≡ b → Halted (not b) xs → Halts (x ∷ xs)
halts_front x [] true e h = e
halts_front x [] false e h = absurd h
halts_front x (y ∷ ys) true e (inl none) = let no_way : ⊥ = cc in absurd no_way
halts_front x (y ∷ ys) true e (inr h) = h
halts_front x (y ∷ ys) false e h = h

turn_open : (i : ℕ) (e : Event) → ends_turn e ≡ false → now_behind i e ≡ Some i
turn_open i (called c) h = refl
turn_open i (answered v) h = refl
turn_open i (parked u) h = refl
turn_open i (returned n v) h = refl
turn_open i (shown a b) h = refl
turn_open i (paused t u) h = let bad : true ≡ false = h in cc
turn_open i (ended how) h = let bad : true ≡ false = h in cc

-- Each strand's notes go to the end of its last turn.
record AllHalt (i : ℕ) (now : Option ℕ) (xs : List Note) : Type 0 where
  told : (xs ≡ []) ⊎ Halts xs
  opened : now ≡ Some i → Halts xs

all_halt : (i : ℕ) (now : Option ℕ) (v : Dues) (ts : List Told) → Closes now ts → GoesByTurns now v ts → AllHalt i now (notes_of i ts)
all_halt i None v [] c g = record { told = inl refl; opened = λ e. none_some i e }
all_halt i (Some k) v [] c g = absurd c
all_halt i now v (t ∷ ts) c g = by now g.0 (all_halt i (now_behind t.strand t.note.event) (dues_behind t.strand t.note.event v) ts (closes now c) g.1) (is_mine i t)
  where
    closes : (now : Option ℕ) → Closes now (t ∷ ts) → Closes (now_behind t.strand t.note.event) ts
    closes None c = c
    closes (Some k) c = c

    own : AllHalt i (now_behind t.strand t.note.event) (notes_of i ts) → t.strand ≡ i → Halts (notes_of i (t ∷ ts))
    own h same =
        subst Halts (sym (notes_same i t ts same)) (by_end (ends_turn t.note.event) refl)
      where
        by_end : (b : Bool) → ends_turn t.note.event ≡ b → Halts (t.note ∷ notes_of i ts)
        by_end true e = halts_front t.note (notes_of i ts) true e h.told
        by_end false e = halts_front t.note (notes_of i ts) false e (h.opened (turn_open t.strand t.note.event e ∙ ap (λ (k : ℕ). Some k) same))

    by : (now : Option ℕ) → HasTurn now v t.strand → AllHalt i (now_behind t.strand t.note.event) (notes_of i ts)
        → (t.strand ≡ i) ⊎ (t.strand ≡ i → ⊥) → AllHalt i now (notes_of i (t ∷ ts))
    by now turn h (inl same) = record { told = inr (own h same); opened = λ e. own h same }
    by None turn h (inr ne) = subst (AllHalt i None) (sym (notes_other i t.strand t.note ts ne)) (record { told = h.told; opened = λ e. none_some i e })
    by (Some k) turn h (inr ne) =
        subst (AllHalt i (Some k)) (sym (notes_other i t.strand t.note ts ne)) (record { told = h.told; opened = λ e. absurd (ne (sym turn ∙ same_Some k i e)) })

-- ---- the law

-- What each strand tells goes to a pause or an end, with no fault but behind a call that was refused so, and with nothing of parking.
pub strand_goes : (g : StrandsInWorld) (oss : List (List Outcome)) (ts : List Told) → length oss ≡ length g.program.strands → HeldStrands g oss ts
    → (i : ℕ) (os : List Outcome) → slice_get oss i ≡ Some os → Goes os (notes_of i ts)
strand_goes g oss ts wide e i os is =
    let all = told_lawful g oss ts wide e i os is in
    let lt = slice_get_within oss i os is in
    let halts = all_halt i None (all_due (length g.program.strands)) ts (story_closes g oss ts e) (held_go g oss ts (omega (arith, lt, wide)) wide e) in
    record { fine = all.1; halts = halts.told; unparked = all.0 }
