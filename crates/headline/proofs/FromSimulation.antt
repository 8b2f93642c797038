-- From a simulation by moves to all that a rewritten module owes its original.
use Rattle.headline.proofs.ToldMoves.{Sees, Sees_at, dear_of}
use Rattle.std.proofs.Common.{All, Bool, List, None, Option, Some, [], ap, arith, false, refl, subst, sym, true, ℕ, ◌*◌, ◌++◌, ◌+◌, ◌∙◌, ◌∷◌, ◌≡◌, ◌≤◌}
use Rattle.std.proofs.lemmas.List.Sums.{sum_by-cons}
use Rattle.std.specs.List.{cons_option, sum_by}
use Rattle.std.specs.Prelude.{if◌then◌else◌, nat_lt}
use Rattle.run_theory.proofs.Follow.{Alike, Begins, Follows, alike_on, back, begins_on, forth}
use Rattle.run_theory.proofs.FromMoves.{begins_right, events_of_alike, events_on, prefix_of_begins, prefix_of_leads}
use Rattle.run_theory.proofs.Moments.{Moment, at_event, at_state, moment}
use Rattle.run_theory.proofs.Rewound.{last_on, rewinds_too}
use Rattle.run_theory.proofs.ShownMoments.{Honest, Lawful, event_moment, state_moment}
use Rattle.run_theory.proofs.ShownRuns.{Plain_notes, blocking_shown, shown_run}
use Rattle.run_theory.proofs.TestedEnds.{OpeningIs}
use Rattle.wa_model.specs.Behaves.{BehavesOn, IsMoment, RewindsTo, SameNote, IsPrefix, last_called, pause_stacks, protocol_notes, stack_if, without_pauses, unless_pause}
use Rattle.wa_model.specs.Blocking.{Blocking, Left, Note, State, all_left, begun, blocking, done_notes, events_of, on_to, store_of}
use Rattle.wa_model.specs.Expected.{SameEnd, pause_note, trap_note}
use Rattle.run_theory.specs.Shown.{shown_within as shown, shown_within_at as shown_at}
use Rattle.wa_model.specs.Instantiation.{Opening, fails_as, opening, opens}
use Rattle.run_theory.specs.DeterminedRuns.{held_start_of, start_of}
use Rattle.wa_model.specs.Machine.{Ran, Turn, run}
use Rattle.wa_model.specs.Outside.{Call, Event, ended}
use Rattle.wa_model.specs.Plan.{Entry, Outcome, OutcomeFits, Plan}
use Rattle.wa_model.specs.Protocol.{Held, Protocol, exports_of, protocol, store_held}
use Rattle.wa_model.specs.Store.{Store}
use Rattle.wa_types.specs.Base.{Base}
use Rattle.wa_types.specs.Bounds.{Bound, activation_bound}
use Rattle.wa_types.specs.Frames.{Suspended}
use Rattle.wa_types.specs.Pausing.{Settings}
use Rattle.wa_types.specs.Runtime.{global_space}
use Rattle.wa_types.specs.Syntax.{Module}

zero_plus : (k : ℕ) → k ≡ 0 + k
zero_plus k = omega arith

-- ---- what pauses may cost

module _ (m : Module) where
  abbrev pub cost_if : List Suspended → Option ℕ → ℕ
  cost_if stack None = 0
  cost_if stack (Some t) = 256 + sum_by (activation_bound m) stack

  abbrev one_stack : List Suspended → ℕ
  one_stack stack = 256 + sum_by (activation_bound m) stack

  pub dear_cons : (x : Note) (xs : List Note) → dear_of m (x ∷ xs) ≡ cost_if x.stack x.pause + dear_of m xs
  dear_cons x xs = by_pause x.pause
    where
      by_pause : (o : Option ℕ) → sum_by one_stack (cons_option (stack_if x.stack o) (pause_stacks xs)) ≡ cost_if x.stack o + dear_of m xs
      by_pause None = zero_plus (dear_of m xs)
      by_pause (Some t) = sum_by-cons one_stack x.stack (pause_stacks xs)

  pub dear_on : (xs ys : List Note) → dear_of m (xs ++ ys) ≡ dear_of m xs + dear_of m ys
  dear_on [] ys = let z : dear_of m [] ≡ 0 = refl in omega arith
  dear_on (x ∷ xs) ys = let h = dear_on xs ys in let a = dear_cons x (xs ++ ys) in let b = dear_cons x xs in omega arith

  dear_plain : (x : Note) (xs : List Note) → x.pause ≡ None → dear_of m (x ∷ xs) ≡ dear_of m xs
  dear_plain x xs e = dear_cons x xs ∙ ap (λ o. cost_if x.stack o + dear_of m xs) e ∙ sym (zero_plus (dear_of m xs))

  module _ (room fit : List Suspended → ℕ) (len : ℕ) where
    dear_at : (x : Note) (o : Option ℕ) (xs rest : List Note) → dear_of m rest ≤ dear_of m xs → x.pause ≡ o → dear_of m (shown_at room fit len x o rest) ≤ dear_of m (x ∷ xs)
    dear_at x None xs rest le e = let a = dear_plain x rest e in let b = dear_plain x xs e in omega arith
    dear_at x (Some ticks) xs rest le e = by_room (nat_lt len (room x.stack))
      where
        by_room : (b : Bool) → dear_of m (x ∷ (if b then trap_note (fit x.stack) len x.store ∷ [] else pause_note ticks (room x.stack) x.store x.stack ∷ rest)) ≤ dear_of m (x ∷ xs)
        by_room true =
            let a = dear_cons x (trap_note (fit x.stack) len x.store ∷ []) in
            let b = dear_cons x xs in
            let c : dear_of m (trap_note (fit x.stack) len x.store ∷ []) ≡ 0 = refl in
            omega arith
        by_room false =
            let a = dear_cons x (pause_note ticks (room x.stack) x.store x.stack ∷ rest) in
            let b = dear_cons x xs in
            let c = dear_plain (pause_note ticks (room x.stack) x.store x.stack) rest refl in
            omega arith

    pub dear_shown : (xs : List Note) → dear_of m (shown room fit len xs) ≤ dear_of m xs
    dear_shown [] = omega arith
    dear_shown (x ∷ xs) = dear_at x x.pause xs (shown room fit len xs) (dear_shown xs) refl

-- ---- notes

shown_plain : (room fit : List Suspended → ℕ) (len : ℕ) (xs ys : List Note) → Plain_notes xs → shown room fit len (xs ++ ys) ≡ xs ++ shown room fit len ys
shown_plain room fit len [] ys h = refl
shown_plain room fit len (x ∷ xs) ys h = ap (λ o. shown_at room fit len x o (shown room fit len (xs ++ ys))) h.0 ∙ ap (λ r. x ∷ r) (shown_plain room fit len xs ys h.1)

honest_on : (xs ys : List Note) → Honest xs → without_pauses (events_of (xs ++ ys)) ≡ events_of xs ++ without_pauses (events_of ys)
honest_on [] ys h = refl
honest_on (x ∷ xs) ys h = ap (λ o. cons_option o (without_pauses (events_of (xs ++ ys)))) h.0 ∙ ap (λ es. x.event ∷ es) (honest_on xs ys h.1)

-- ---- before the first move

-- What a run has made before its first move shows no pause.
pub record Opens (xs : List Note) (t : State) : Type 0 where
  pub plain : Plain_notes xs
  pub honest : Honest xs
  pub lawful : Lawful t

done_opens : (s : Store) (es : List Entry) (t : State) → Lawful t → Opens (done_notes s es) t
done_opens s [] t h = record { plain = (refl, tt); honest = (refl, tt); lawful = h }
done_opens s (e ∷ es) t h = record { plain = tt; honest = tt; lawful = h }

on_lawful : (s : Store) (l : Left) (es : List Entry) → All OutcomeFits l.outcomes → Lawful (on_to s l es)
on_lawful s l [] h = tt
on_lawful s l (e ∷ es) h = h

-- the ends of a failed instantiation are no ends of a pause
abbrev pub OpensHonestly : Opening → Type 0
OpensHonestly = OpeningIs (λ e. unless_pause (ended e) ≡ Some (ended e))

begun_opens : (start : Option ℕ) (l : Left) (o : Opening) → OpensHonestly o → All OutcomeFits l.outcomes → Opens (begun start l o).events (begun start l o).last
begun_opens start l (fails_as e) h os = record { plain = (refl, tt); honest = (h, tt); lawful = tt }
begun_opens None l (opens s) h os = done_opens s l.entries (on_to s l l.entries) (on_lawful s l l.entries os)
begun_opens (Some x) l (opens s) h os = record { plain = tt; honest = tt; lawful = os }

-- with the room that a stack is taken to need, and the bytes in use where it isn't there
module _ (room fit : List Suspended → ℕ) (m : Module) (s : Settings) (which : List Bool) (p : Module) (plan : Plan) where
  abbrev pub expected : (os : List Outcome) (n : ℕ) → List Note
  expected os n = shown room fit plan.area.len (Blocking m plan os n).events

  -- the blocking machine whose moves show their pauses
  abbrev pub na : State → Turn State Note
  na = blocking_shown room fit plan.area.len (Base m) plan

  abbrev pr : Held → Turn Held Note
  pr = protocol p (exports_of p) plan

  abbrev Q : Note → Note → Type 0
  Q = SameNote m s which plan.area

  abbrev pub Simulates : (R : (n spare : ℕ) → State → Held → Type 0) → Type 0
  Simulates R = Follows State Held Note Note na pr R Q (dear_of m) (Sees m s which p (exports_of p) plan) (Sees_at m s which p (exports_of p) plan)

  -- at a moment a rewound entry calls the import that was told last, whatever was told before
  pub moment_calls : (R : (n spare : ℕ) → State → Held → Type 0) (n : ℕ) (a : State) (r : Ran Held Note) (before : Option Call)
      → Moment State Held Note Note (blocking_shown room fit plan.area.len (Base m) plan) (protocol p (exports_of p) plan) R (SameNote m s which plan.area) (dear_of m)
      (Sees m s which p (exports_of p) plan) (Sees_at m s which p (exports_of p) plan) n a r
      → RewindsTo p (last_called before (events_of r.events)) r.last
  moment_calls R n a r before (at_state cost es at l le al sees) = rewinds_too p (last_called before (events_of r.events)) [] r.last sees.1
  moment_calls R n a r before (at_event cost k es es1 es2 y at a' l e le al sees) =
      let back : List Note = es1 ++ y ∷ [] in
      let told : events_of (es ++ back) ≡ events_of r.events = events_of_alike Q (λ x y h. h.event) (es ++ back) r.events al in
      let last : last_called (last_called before (events_of es)) (events_of back) ≡ last_called before (events_of r.events) =
      sym (last_on before (events_of es) (events_of back)) ∙ ap (last_called before) (sym (events_on es back) ∙ told) in
      subst (λ (c : Option Call). RewindsTo p c r.last) last (rewinds_too p (last_called before (events_of es)) (events_of back) r.last sees.1)

  -- both runs begin related
  pub record Begin (R : (n spare : ℕ) → State → Held → Type 0) (os : List Outcome) (n : ℕ) : Type 0 where
    pub alike : Alike Q (start_of m plan os).events (held_start_of p plan os).events
    pub rel : R n 0 (start_of m plan os).last (held_start_of p plan os).last
    pub honest : OpensHonestly (opening (Base m) plan.globals)

  module _ (R : (n spare : ℕ) → State → Held → Type 0) (sim : Simulates R) (os : List Outcome) (n : ℕ) (outcomes : All OutcomeFits os) (bg : Begin R os n) where
    abbrev e0 : List Note
    e0 = (start_of m plan os).events

    abbrev a0 : State
    a0 = (start_of m plan os).last

    abbrev h0 : List Note
    h0 = (held_start_of p plan os).events

    abbrev b0 : Held
    b0 = (held_start_of p plan os).last

    opened : Opens e0 a0
    opened = begun_opens (Base m).start (all_left plan os) (opening (Base m) plan.globals) bg.honest outcomes

    abbrev shown_now : List Note
    shown_now = (run na n a0).events

    abbrev made : List Note
    made = (run pr n b0).events

    expected_are : expected os n ≡ e0 ++ shown_now
    expected_are =
        let o = opened in
        shown_plain room fit plan.area.len e0 (run (blocking (Base m) plan) n a0).events o.plain
        ∙ ap (λ zs. e0 ++ zs) (sym (shown_run room fit plan.area.len (Base m) plan n n a0 (omega arith)))

    begun_so : Begins Q (e0 ++ shown_now) (h0 ++ made)
    begun_so = begins_on Q e0 shown_now h0 made bg.alike (back State Held Note Note na pr R Q (dear_of m) (Sees m s which p (exports_of p) plan)
        (Sees_at m s which p (exports_of p) plan) sim (dear_on m) refl n n n 0 a0 b0 bg.rel (omega arith) (omega arith))

    begins_expected : Begins Q (expected os n) (protocol_notes p plan os n)
    begins_expected = subst (λ zs. Begins Q zs (h0 ++ made)) (sym expected_are) begun_so

    abbrev same_event : (x y : Note) → Q x y → x.event ≡ y.event
    same_event x y h = h.event

    start_events : events_of e0 ≡ events_of h0
    start_events = events_of_alike Q same_event e0 h0 bg.alike

    reaches : IsPrefix (events_of (expected os n)) (events_of (protocol_notes p plan os (Bound m n (pause_stacks (Blocking m plan os n).events))))
    reaches =
        let f = forth State Held Note Note na pr R Q (dear_of m) (Sees m s which p (exports_of p) plan) (Sees_at m s which p (exports_of p) plan) sim (dear_on m) refl n n 0 a0 b0 bg.rel
        (omega arith) in
        let bound : ℕ = Bound m n (pause_stacks (Blocking m plan os n).events) in
        let blocked : List Note = (run (blocking (Base m) plan) n a0).events in
        let d1 : dear_of m shown_now ≤ dear_of m blocked = subst (λ zs. dear_of m zs ≤ dear_of m blocked) (sym (shown_run room fit plan.area.len (Base m) plan n n a0 (omega arith)))
        (dear_shown m room fit plan.area.len blocked) in
        let d2 : dear_of m (e0 ++ blocked) ≡ dear_of m e0 + dear_of m blocked = dear_on m e0 blocked in
        let enough : f.0 ≤ 256 * (n + 1) + dear_of m (e0 ++ blocked) = omega (arith, f.4) in
        let pre : IsPrefix (events_of f.1) (events_of (run pr bound b0).events) = prefix_of_leads Held pr b0 f.2 f.0 bound f.1 f.3 enough in
        let same : events_of shown_now ≡ events_of f.1 = events_of_alike Q same_event shown_now f.1 f.5 in
        let left : events_of (expected os n) ≡ events_of h0 ++ events_of f.1 = ap events_of expected_are ∙ events_on e0 shown_now
        ∙ ap (λ zs. zs ++ events_of shown_now) start_events ∙ ap (λ zs. events_of h0 ++ zs) same in
        subst (λ es. IsPrefix es (events_of (protocol_notes p plan os bound))) (sym left)
        (subst (λ es. IsPrefix (events_of h0 ++ events_of f.1) es) (sym (events_on h0 (run pr bound b0).events))
        (prefix_front (events_of h0) (events_of f.1) (events_of (run pr bound b0).events) pre))
      where
        prefix_front : (xs ys zs : List Event) → IsPrefix ys zs → IsPrefix (xs ++ ys) (xs ++ zs)
        prefix_front [] ys zs h = h
        prefix_front (w ∷ xs) ys zs h = let r = prefix_front xs ys zs h in (r.0, ap (λ es. w ∷ es) r.1)

    moments : (events : List Event) × (at : Store) × IsMoment m plan os n events at × (events ≡ without_pauses (events_of (protocol_notes p plan os n)))
        × SameEnd (global_space m) plan.area at (store_held (Protocol p plan os n).last)
    moments = by_moment (moment State Held Note Note na pr R Q (dear_of m) (Sees m s which p (exports_of p) plan) (Sees_at m s which p (exports_of p) plan) sim n n 0 a0 b0 bg.rel (omega arith))
      where
        told : (es : List Note) → Alike Q es made → events_of e0 ++ without_pauses (events_of es) ≡ without_pauses (events_of (h0 ++ made))
        told es al =
            let o = opened in
            sym (honest_on e0 es o.honest)
            ∙ ap without_pauses (events_of_alike Q same_event (e0 ++ es) (h0 ++ made) (alike_on Q e0 es h0 made bg.alike al))

        by_moment : Moment State Held Note Note na pr R Q (dear_of m) (Sees m s which p (exports_of p) plan) (Sees_at m s which p (exports_of p) plan) n a0 (run pr n b0)
            → (events : List Event) × (at : Store) × IsMoment m plan os n events at × (events ≡ without_pauses (events_of (protocol_notes p plan os n)))
            × SameEnd (global_space m) plan.area at (store_held (Protocol p plan os n).last)
        by_moment (at_state cost es at l le al sees) =
            let o = opened in
            (events_of e0 ++ without_pauses (events_of es), store_of at, state_moment room fit plan.area.len (Base m) plan e0 a0 at n cost es o.lawful l le, told es al, sees.0)
        by_moment (at_event cost k es es1 es2 y at a' l e le al sees) =
            let o = opened in (
              events_of e0 ++ without_pauses (events_of (es ++ (es1 ++ y ∷ []))),
              y.store,
              event_moment room fit plan.area.len (Base m) plan e0 a0 at a' n cost k es es1 es2 y o.lawful l e le,
              told (es ++ (es1 ++ y ∷ [])) al,
              sees.0,
            )

    -- a rewound entry calls the import that was told last
    again : RewindsTo p (last_called None (events_of (protocol_notes p plan os n))) (Protocol p plan os n).last
    again =
        let last : last_called (last_called None (events_of h0)) (events_of made) ≡ last_called None (events_of (h0 ++ made)) =
        sym (last_on None (events_of h0) (events_of made)) ∙ ap (last_called None) (sym (events_on h0 made)) in
        subst (λ (c : Option Call). RewindsTo p c (run pr n b0).last) last
        (moment_calls R n a0 (run pr n b0) (last_called None (events_of h0))
        (moment State Held Note Note na pr R Q (dear_of m) (Sees m s which p (exports_of p) plan) (Sees_at m s which p (exports_of p) plan) sim n n 0 a0 b0 bg.rel (omega arith)))

    -- THE LAST STEP: a simulation that begins gives all five
    pub behaves_on : BehavesOn m s p plan os n which (expected os n)
    behaves_on = record {
      reaches = reaches;
      follows = prefix_of_begins Q same_event (expected os n) (protocol_notes p plan os n) begins_expected;
      notes = begins_right Q (expected os n) (protocol_notes p plan os n) begins_expected;
      moments = moments;
      again = again;
    }
