-- A module of which nothing may pause behaves like itself with the runtime's parts behind its own.
use Rattle.std.proofs.Common.{◌≡◌, ℕ, zero, suc, ◌+◌, ◌-◌, ◌*◌, ◌≤◌, inl, List, [], ◌∷◌, Option, Some, None, Bool, All, refl, sym, ap, ◌∙◌, subst, length, map, arith}
use Rattle.std.specs.Prelude.{slice_get}
use Rattle.std.specs.List.{filter_map, sum_by}
use Rattle.std.proofs.lemmas.List.{append-nil, map-append}
use Rattle.wa_types.specs.Syntax.{Module}
use Rattle.wa_types.specs.Modules.{imported, imported_global}
use Rattle.wa_types.specs.Typing.{GlobalType}
use Rattle.wa_types.specs.Pausing.{Settings, TellsMayPause}
use Rattle.wa_types.specs.Frames.{Suspended, Room, Fit, Image}
use Rattle.wa_types.specs.Bounds.{Bound, activation_bound}
use Rattle.wa_types.specs.Runtime.{global_space, with_runtime}
use Rattle.wa_types.specs.Validity.{Valid}
use Rattle.wa_model.specs.declared.answers.Area.{Area}
use Rattle.wa_model.specs.Outside.{Event, called, answered, paused, parked, returned, ended, shown as was_shown}
use Rattle.wa_model.specs.Store.{Store}
use Rattle.wa_model.specs.Plan.{AreLawful, EntryFits, Plan, Outcome, OutcomeFits}
use Rattle.wa_model.specs.Blocking.{Note, events_of, Blocking, store_of}
use Rattle.wa_model.specs.Protocol.{Held, exports_of, protocol, Protocol, store_held}
use Rattle.wa_model.specs.Expected.{SameEnd}
use Rattle.run_theory.specs.Shown.{shown_within_at as shown_at, shown_within as shown}
use Rattle.wa_model.specs.Behaves.{IsPrefix, pause_stacks, PausesNumbered, expected_notes, protocol_notes, AtPaused, AreaKept, SameNote, last_called, unless_pause, without_pauses, BehavesOn, Behaves}
use Rattle.run_theory.specs.DeterminedRuns.{held_start_of}
use Rattle.run_theory.specs.Quiet.{NeverPauses}
use Rattle.run_theory.proofs.Runs.{prefix_of_longer, prefix_on}
use Rattle.run_theory.proofs.Follow.{Alike}
use Rattle.run_theory.proofs.FromMoves.{events_of_alike}
use Rattle.run_theory.proofs.QuietRuns.{StoreAgrees, NoteAgrees, agree}
use Rattle.run_theory.proofs.Rewound.{NoPause, NonePaused, forwards_asks, protocol_forwards}

-- ---- notes that agree

-- each on the right has its own on the left, at the same place
alike_right : {A B : Type 0} (Q : A → B → Type 0) (xs : List A) (ys : List B) → Alike Q xs ys → (i : ℕ) (y : B) → slice_get ys i ≡ Some y → (x : A) × (slice_get xs i ≡ Some x) × Q x y
alike_right Q [] [] h i y e = cc
alike_right Q [] (b ∷ ys) h i y e = absurd h
alike_right Q (a ∷ xs) [] h i y e = absurd h
alike_right Q (a ∷ xs) (b ∷ ys) h zero y e = let f : b ≡ y = cc in (a, refl, subst (Q a) f h.0)
alike_right Q (a ∷ xs) (b ∷ ys) h (suc i) y e = alike_right Q xs ys h.1 i y e

filter_kept : {X Y : Type 0} (f : X → Option Y) (x : X) (xs : List X) (y : Y) → f x ≡ Some y → filter_map f (x ∷ xs) ≡ y ∷ filter_map f xs
filter_kept f x xs y e = rw e refl

-- no note is shown besides
shown_plain : (g : ℕ) (room fit : List Suspended → ℕ) (len : ℕ) (xs ys : List Note) → Alike (NoteAgrees g) xs ys → shown room fit len xs ≡ xs
shown_plain g room fit len [] [] h = refl
shown_plain g room fit len [] (y ∷ ys) h = absurd h
shown_plain g room fit len (x ∷ xs) [] h = absurd h
shown_plain g room fit len (x ∷ xs) (y ∷ ys) h =
    let q = h.0 in
    ap (λ o. shown_at room fit len x o (shown room fit len xs)) q.pause ∙ ap (λ zs. x ∷ zs) (shown_plain g room fit len xs ys h.1)

none_left_out : (g : ℕ) (xs ys : List Note) → Alike (NoteAgrees g) xs ys → events_of xs ≡ without_pauses (events_of ys)
none_left_out g [] [] h = refl
none_left_out g [] (y ∷ ys) h = absurd h
none_left_out g (x ∷ xs) [] h = absurd h
none_left_out g (x ∷ xs) (y ∷ ys) h =
    let q = h.0 in
    ap (λ es. x.event ∷ es) (none_left_out g xs ys h.1)
    ∙ sym (filter_kept unless_pause y.event (events_of ys) x.event (ap unless_pause (sym q.event) ∙ q.plain))

not_paused : (e : Event) (T : Type 0) → unless_pause e ≡ Some e → AtPaused e T
not_paused (paused ticks used) T h = cc
not_paused (called c) T h = tt
not_paused (answered v) T h = tt
not_paused (returned i v) T h = tt
not_paused (ended how) T h = tt
not_paused (parked used) T h = tt
not_paused (was_shown at bytes) T h = tt

no_pause : (e : Event) → unless_pause e ≡ Some e → NoPause e
no_pause (paused ticks used) h = cc
no_pause (called c) h = tt
no_pause (answered v) h = tt
no_pause (returned i v) h = tt
no_pause (ended how) h = tt
no_pause (parked used) h = tt
no_pause (was_shown at bytes) h = tt

none_paused : (g : ℕ) (xs ys : List Note) → Alike (NoteAgrees g) xs ys → NonePaused ys
none_paused g [] [] h = tt
none_paused g [] (y ∷ ys) h = absurd h
none_paused g (x ∷ xs) [] h = absurd h
none_paused g (x ∷ xs) (y ∷ ys) h = let q = h.0 in (no_pause y.event (subst (λ e. unless_pause e ≡ Some e) q.event q.plain), none_paused g xs ys h.1)

same_end : (g : ℕ) (area : Area) (s s' : Store) → StoreAgrees g s s' → SameEnd g area s s'
same_end g area s s' h = record {
  globals_same = h.globals;
  size = ap length h.memory;
  below = λ x lt. ap (λ xs. slice_get xs x) h.memory;
  above = λ x le. ap (λ xs. slice_get xs x) h.memory;
}

prefix_events : (xs ys : List Note) → IsPrefix xs ys → IsPrefix (events_of xs) (events_of ys)
prefix_events xs ys h = (events_of h.0, ap events_of h.1 ∙ map-append (λ (x : Note). x.event) xs h.0)

enough : (n k : ℕ) → n + (256 * (n + 1) + k - n) ≡ 256 * (n + 1) + k
enough n k = omega arith

protocol_grows : (p : Module) (plan : Plan) (os : List Outcome) (n more : ℕ) → IsPrefix (Protocol p plan os n).events (Protocol p plan os (n + more)).events
protocol_grows p plan os n more =
    let le : n ≤ n = omega arith in
    prefix_on Held Note (protocol p (exports_of p) plan) (held_start_of p plan os).events _ _ (prefix_of_longer Held Note (protocol p (exports_of p) plan) n n more (held_start_of p plan os).last le)

module _ (m : Module) (s : Settings) (valid : Valid m) (never : NeverPauses m s) (which : List Bool) (tells : TellsMayPause m s which) (plan : Plan) (os : List Outcome) (n : ℕ)
    (globals : AreLawful (map (λ (g : GlobalType). g.ty) (imported imported_global m)) plan.globals) (lawful : All (EntryFits m) plan.entries) (outcomes : All OutcomeFits os)
    (pauses : PausesNumbered m s which (Blocking m plan os n).events) where
  abbrev p : Module
  p = with_runtime m

  abbrev g : ℕ
  g = global_space m

  abbrev xs : List Note
  xs = (Blocking m plan os n).events

  abbrev ys : List Note
  ys = (Protocol p plan os n).events

  alike : Alike (NoteAgrees g) xs ys
  alike = (agree m s valid never which tells plan os n globals lawful outcomes pauses).0

  expected_are : expected_notes m s plan os n ≡ xs
  expected_are = shown_plain g (Room m s.policy) (λ stack. Fit m s.policy stack plan.area.len) plan.area.len xs ys alike

  same_events : events_of xs ≡ events_of ys
  same_events = events_of_alike (NoteAgrees g) (λ x y h. h.event) xs ys alike

  expected_events : events_of (expected_notes m s plan os n) ≡ events_of ys
  expected_events = ap events_of expected_are ∙ same_events

  reaches : IsPrefix (events_of (expected_notes m s plan os n)) (events_of (protocol_notes p plan os (Bound m n (pause_stacks xs))))
  reaches =
      let k : ℕ = sum_by (λ stack. 256 + sum_by (activation_bound m) stack) (pause_stacks xs) in
      let grows = prefix_events ys (Protocol p plan os (n + (256 * (n + 1) + k - n))).events (protocol_grows p plan os n (256 * (n + 1) + k - n)) in
      let up : IsPrefix (events_of ys) (events_of (protocol_notes p plan os (256 * (n + 1) + k))) = subst (λ j. IsPrefix (events_of ys) (events_of (Protocol p plan os j).events)) (enough n k) grows in
      subst (λ es. IsPrefix es (events_of (protocol_notes p plan os (Bound m n (pause_stacks xs))))) (sym expected_events) up

  never_since : (y : Note) (at : Store) → y.since ≡ None → y.since ≡ Some at → AreaKept plan.area at y.store
  never_since y at none e = absurd (let z : None ≡ Some at = sym none ∙ e in cc)

  same_note : (x y : Note) → NoteAgrees g x y → SameNote m s which plan.area x y
  same_note x y q = record {
    event = q.event;
    ends = same_end g plan.area x.store y.store q.store;
    image = not_paused y.event (Image m s which x.stack plan.area.at plan.area.len y.store.memory) (subst (λ e. unless_pause e ≡ Some e) q.event q.plain);
    kept = λ at e. never_since y at q.since e;
    state = q.state;
  }

  each_note : (i : ℕ) (y : Note) → slice_get ys i ≡ Some y → (x : Note) × (slice_get (expected_notes m s plan os n) i ≡ Some x) × SameNote m s which plan.area x y
  each_note i y e =
      let there = alike_right (NoteAgrees g) xs ys alike i y e in
      (there.0, ap (λ zs. slice_get zs i) expected_are ∙ there.1, same_note there.0 y there.2)

  pub behaves_on : BehavesOn m s p plan os n which (expected_notes m s plan os n)
  behaves_on = record {
    reaches = reaches;
    follows = ([], expected_events ∙ sym (append-nil (events_of ys)));
    notes = each_note;
    moments = (
      events_of xs,
      store_of (Blocking m plan os n).last,
      inl (n, omega arith, refl, refl),
      none_left_out g xs ys alike,
      same_end g plan.area (store_of (Blocking m plan os n).last) (store_held (Protocol p plan os n).last) (agree m s valid never which tells plan os n globals lawful outcomes pauses).1,
    );
    again = forwards_asks p (last_called None (events_of ys)) (Protocol p plan os n).last (protocol_forwards p plan os n (none_paused g xs ys alike));
  }

pub quiet_behaves : (m : Module) (s : Settings) → Valid m → NeverPauses m s → Behaves m s (with_runtime m)
quiet_behaves m s valid never = λ sizes which tells plan os n c pauses. let f = c.fits in behaves_on m s valid never which tells plan os n f.globals f.entries c.outcomes pauses
