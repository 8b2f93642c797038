-- Notes of one rewritten module up to a pause, and of another one from there on, stand beside those that are expected of their original.
use Rattle.std.proofs.Common.{arith, ◌≡◌, ◌≤◌, ◌+◌, ◌*◌, ◌-◌, inl, inr, ℕ, zero, suc, List, [], ◌∷◌, ◌++◌, length, take, Some, All, refl, sym, ap, ◌∙◌, subst, append_assoc, append-nil, length-append}
use Rattle.std.specs.Prelude.{slice_get}
use Rattle.std.specs.List.{sum_by}
use Rattle.std.proofs.lemmas.List.Elements.{All-nil, All-cons, All-head, All-tail, All-append, filter_map-append}
use Rattle.wa_types.specs.Base.{Base}
use Rattle.wa_types.specs.Bounds.{Bound, activation_bound}
use Rattle.wa_types.specs.Frames.{Fit, Room, Suspended}
use Rattle.wa_types.specs.Pausing.{Settings}
use Rattle.wa_types.specs.Syntax.{Module}
use Rattle.wa_model.specs.declared.answers.Said.{Said}
use Rattle.wa_model.specs.declared.answers.Said.TheVariants as S
use Rattle.wa_model.specs.Behaves.{IsMoment, IsPrefix, expected_notes, pause_stacks, stack_if, unless_pause, without_pauses}
use Rattle.wa_model.specs.Blocking.{Blocking, Left, Note, State, an_entry, asked, blocking, by_step, call_note, events_of, go_on, inside, poked, runs, store_of, tested}
use Rattle.wa_model.specs.Configuration.{Configuration}
use Rattle.wa_model.specs.Expected.{Expected, pause_note}
use Rattle.run_theory.specs.Shown.{shown_within as shown}
use Rattle.wa_model.specs.Machine.{Ran, Turn, after, goes, run}
use Rattle.wa_model.specs.Outside.{Event}
use Rattle.wa_model.specs.Plan.{Entry, Outcome, Plan}
use Rattle.wa_model.specs.Store.{Store}
use Rattle.run_theory.specs.DeterminedRuns.{start_of}
use Rattle.run_theory.proofs.Runs.{leads_run, one_move, too_dear}
use Rattle.run_laws.proofs.Growing.{runs_grow}
use Rattle.run_laws.proofs.OwnEnds.{Own}
use Rattle.image_laws.specs.Image.{ComesThere, IsMomentFrom, Pause, answer_there, expected_from, goes_on_there, left_there, rest_of, rest_of_cost, stack_there}
use Rattle.headline.specs.Told.{answer_notes, goes_on_told}
use Rattle.joined_worlds.proofs.ShownRuns.{Roomy, fits_shown, shown_on, shown_without}

-- ---- lists

pub got_first : (xs ys : List Note) (i : ℕ) (x : Note) → slice_get xs i ≡ Some x → slice_get (xs ++ ys) i ≡ Some x
got_first [] ys i x e = cc
got_first (y ∷ xs) ys zero x e = e
got_first (y ∷ xs) ys (suc i) x e = got_first xs ys i x e

pub got_behind : (xs ys : List Note) (i : ℕ) (x : Note) → slice_get ys i ≡ Some x → slice_get (xs ++ ys) (length xs + i) ≡ Some x
got_behind [] ys i x e = let z : i ≡ 0 + i = omega arith in subst (λ (k : ℕ). slice_get ys k ≡ Some x) z e
got_behind (y ∷ xs) ys i x e =
    let z : suc (length xs + i) ≡ suc (length xs) + i = omega arith in
    subst (λ (k : ℕ). slice_get (y ∷ (xs ++ ys)) k ≡ Some x) z (got_behind xs ys i x e)

take_found : (xs ys : List Note) (i : ℕ) (x : Note) → slice_get xs i ≡ Some x → take (suc i) (xs ++ ys) ≡ take (suc i) xs
take_found [] ys i x e = cc
take_found (y ∷ xs) ys zero x e = refl
take_found (y ∷ xs) ys (suc i) x e = ap (λ (zs : List Note). y ∷ zs) (take_found xs ys i x e)

take_behind : (xs ys : List Note) (i : ℕ) → take (length xs + i) (xs ++ ys) ≡ xs ++ take i ys
take_behind [] ys i = let z : 0 + i ≡ i = omega arith in ap (λ (k : ℕ). take k ys) z
take_behind (x ∷ xs) ys i =
    let z : suc (length xs) + i ≡ suc (length xs + i) = omega arith in
    ap (λ (k : ℕ). take k (x ∷ (xs ++ ys))) z ∙ ap (λ (zs : List Note). x ∷ zs) (take_behind xs ys i)

pub events_append : (xs ys : List Note) → events_of (xs ++ ys) ≡ events_of xs ++ events_of ys
events_append [] ys = refl
events_append (x ∷ xs) ys = ap (λ (es : List Event). x.event ∷ es) (events_append xs ys)

pub without_append : (xs ys : List Note) → without_pauses (events_of (xs ++ ys)) ≡ without_pauses (events_of xs) ++ without_pauses (events_of ys)
without_append xs ys = ap without_pauses (events_append xs ys) ∙ filter_map-append unless_pause (events_of xs) (events_of ys)

all_front : (P : Note → Type 0) (xs ys : List Note) → All P (xs ++ ys) → All P xs
all_front P [] ys h = All-nil P
all_front P (x ∷ xs) ys h = All-cons P x xs (All-head P x (xs ++ ys) h) (all_front P xs ys (All-tail P x (xs ++ ys) h))

pub prefix_length : {X : Type 0} (xs ys : List X) → IsPrefix xs ys → length xs ≤ length ys
prefix_length xs ys h =
    let e : length ys ≡ length (xs ++ h.0) = ap length h.1 in
    let l = length-append xs h.0 in
    omega arith

-- a run's bound is at least its cost
pub bound_above : (m : Module) (c n : ℕ) (pauses : List (List Suspended)) → Bound m c pauses ≤ n → c ≤ n
bound_above m c n pauses le = above (sum_by (λ (stack : List Suspended). 256 + sum_by (activation_bound m) stack) pauses) le
  where
    above : (more : ℕ) → 256 * (c + 1) + more ≤ n → c ≤ n
    above more h = omega arith

-- a moment of a run is one of a longer one
pub moment_on : (m : Module) (plan : Plan) (os : List Outcome) (n k : ℕ) (events : List Event) (at : Store) → n ≤ k → IsMoment m plan os n events at → IsMoment m plan os k events at
moment_on m plan os n k events at le (inl w) = inl (w.0, omega (arith, w.1), w.2, w.3)
moment_on m plan os n k events at le (inr w) =
    let g = runs_grow m plan os n (k - n) in
    let z : n + (k - n) ≡ k = omega arith in
    let all : (Blocking m plan os k).events ≡ (Blocking m plan os n).events ++ g.0 = ap (λ (j : ℕ). (Blocking m plan os j).events) (sym z) ∙ g.1 in
    inr (
      w.0,
      w.1,
      ap (λ (es : List Note). slice_get es w.0) all ∙ got_first (Blocking m plan os n).events g.0 w.0 w.1 w.2,
      w.3 ∙ ap events_of (sym (take_found (Blocking m plan os n).events g.0 w.0 w.1 w.2) ∙ ap (λ (es : List Note). take (suc w.0) es) (sym all)),
      w.4,
    )

-- the move of an answer that is accepted
told_moves : (k : ℕ) (x : Note) (said : Said) (s : Store) (l : Left) (e : Entry) (c : Configuration) → go_on k x said s l (inside (an_entry e) c) ≡ goes k (x ∷ answer_notes said s) (goes_on_told said e c s l)
told_moves k x (S.Value v) s l e c = refl
told_moves k x S.Trap s l e c = refl

-- ---- behind a pause

module _ (m : Module) (s : Settings) (plan : Plan) (os : List Outcome) (x : Pause) (there : ComesThere m s plan os x) (none : (start_of m plan os).events ≡ []) where
  abbrev room : List Suspended → ℕ
  room = Room m s.policy

  abbrev fit : List Suspended → ℕ
  fit = λ stack. Fit m s.policy stack plan.area.len

  abbrev bl : State → Turn State Note
  bl = blocking (Base m) plan

  abbrev a0 : Ran State Note
  a0 = start_of m plan os

  -- the call, and the pause behind it
  abbrev pub call_at : Note
  call_at = call_note x.import x.args x.waits.store (stack_there m x) (Some x.ticks)

  abbrev pub pause_at : Note
  pause_at = pause_note x.ticks (Room m s.policy (stack_there m x)) x.waits.store (stack_there m x)

  -- what is expected up to there
  abbrev pub front : List Note
  front = Expected m s.policy plan.area x.notes ++ call_at ∷ pause_at ∷ []

  abbrev own_move : ℕ
  own_move = x.cost + suc x.own_cost

  moves_so : bl (runs (an_entry x.entry) x.calls x.left) ≡ goes x.own_cost (call_at ∷ answer_there x) (goes_on_there x)
  moves_so =
      ap (by_step (Base m) plan (an_entry x.entry) x.left) there.asks_there
      ∙ ap (asked (Base m) plan x.own_cost x.import x.args (inside (an_entry x.entry) x.waits) x.left) there.outcome
      ∙ ap (tested (Base m) x.own_cost x.import x.args (inside (an_entry x.entry) x.waits) (left_there x) x.answer) there.passes
      ∙ ap (λ z. go_on x.own_cost (call_note x.import x.args x.waits.store (stack_there m x) z) x.answer.said (poked x.waits.store x.answer.pokes) (left_there x) (inside (an_entry x.entry) x.waits)) there.pauses
      ∙ told_moves x.own_cost call_at x.answer.said (poked x.waits.store x.answer.pokes) (left_there x) x.entry x.waits

  -- the run goes on there
  blocking_so : (n : ℕ) → own_move ≤ n → Blocking m plan os n ≡ after x.notes (after (call_at ∷ []) (rest_of m plan (answer_there x) (goes_on_there x) (rest_of_cost n x)))
  blocking_so n le =
      let z : n ≡ x.cost + suc (x.own_cost + (n - x.cost - suc x.own_cost)) = omega arith in
      ap (λ (k : ℕ). Blocking m plan os k) z
      ∙ ap (after a0.events) (leads_run State Note bl a0.last (runs (an_entry x.entry) x.calls x.left) x.cost (suc (x.own_cost + rest_of_cost n x)) x.notes there.leads)
      ∙ ap (λ (r : Ran State Note). after a0.events (after x.notes r))
      (one_move State Note bl x.own_cost (rest_of_cost n x) (call_at ∷ answer_there x) (runs (an_entry x.entry) x.calls x.left) (goes_on_there x) moves_so)
      ∙ ap (λ (es : List Note). after es (after x.notes (after (call_at ∷ answer_there x) (run bl (rest_of_cost n x) (goes_on_there x))))) none

  -- before the call's own move is paid the run stands at it
  blocking_before : (Blocking m plan os (x.cost + x.own_cost)).events ≡ x.notes
  blocking_before =
      let le : x.own_cost ≤ x.own_cost = omega arith in
      ap (λ (r : Ran State Note). a0.events ++ r.events) (leads_run State Note bl a0.last (runs (an_entry x.entry) x.calls x.left) x.cost x.own_cost x.notes there.leads)
      ∙ ap (λ (r : Ran State Note). a0.events ++ (x.notes ++ r.events))
      (too_dear State Note bl x.own_cost x.own_cost (call_at ∷ answer_there x) (runs (an_entry x.entry) x.calls x.left) (goes_on_there x) moves_so le)
      ∙ ap (λ (es : List Note). es ++ (x.notes ++ [])) none
      ∙ append-nil x.notes

  roomy_call : Roomy room fit plan.area.len (x.notes ++ call_at ∷ [])
  roomy_call =
      subst (All (λ (stack : List Suspended). room stack ≤ plan.area.len)) (sym (filter_map-append (λ (y : Note). stack_if y.stack y.pause) x.notes (call_at ∷ [])))
      (All-append (λ (stack : List Suspended). room stack ≤ plan.area.len) (pause_stacks x.notes) (stack_there m x ∷ []) there.roomy
      (All-cons (λ (stack : List Suspended). room stack ≤ plan.area.len) (stack_there m x) [] there.room (All-nil (λ (stack : List Suspended). room stack ≤ plan.area.len))))

  -- with the pause shown
  front_so : shown room fit plan.area.len (x.notes ++ call_at ∷ []) ≡ front
  front_so =
      shown_on room fit plan.area.len x.notes (call_at ∷ []) there.roomy
      ∙ ap (λ (es : List Note). Expected m s.policy plan.area x.notes ++ es) (fits_shown room fit plan.area.len call_at x.ticks [] there.room)

  answer_shown : (said : Said) (t : Store) (rest : List Note) → shown room fit plan.area.len (answer_notes said t ++ rest) ≡ answer_notes said t ++ shown room fit plan.area.len rest
  answer_shown (S.Value v) t rest = refl
  answer_shown S.Trap t rest = refl

  pub expected_so : (n : ℕ) → own_move ≤ n → expected_notes m s plan os n ≡ front ++ expected_from m s plan (answer_there x) (goes_on_there x) (rest_of_cost n x)
  expected_so n le =
      let rest : List Note = (run bl (rest_of_cost n x) (goes_on_there x)).events in
      ap (λ (r : Ran State Note). shown room fit plan.area.len r.events) (blocking_so n le)
      ∙ ap (shown room fit plan.area.len) (sym (append_assoc x.notes (call_at ∷ []) (answer_there x ++ rest)))
      ∙ shown_on room fit plan.area.len (x.notes ++ call_at ∷ []) (answer_there x ++ rest) roomy_call
      ∙ ap (λ (es : List Note). es ++ shown room fit plan.area.len (answer_there x ++ rest)) front_so
      ∙ ap (λ (es : List Note). front ++ es) (answer_shown x.answer.said (poked x.waits.store x.answer.pokes) rest)

  pub expected_before : expected_notes m s plan os (x.cost + x.own_cost) ≡ Expected m s.policy plan.area x.notes
  expected_before = ap (shown room fit plan.area.len) blocking_before

  -- without its pauses
  pub front_without : (n : ℕ) → own_move ≤ n → All Own (Blocking m plan os n).events → without_pauses (events_of front) ≡ events_of (x.notes ++ call_at ∷ [])
  front_without n le own =
      let rest = rest_of m plan (answer_there x) (goes_on_there x) (rest_of_cost n x) in
      let all : All Own (x.notes ++ (call_at ∷ rest.events)) = subst (All Own) (ap (λ (r : Ran State Note). r.events) (blocking_so n le)) own in
      ap (λ (es : List Note). without_pauses (events_of es)) (sym front_so)
      ∙ shown_without room fit plan.area.len (x.notes ++ call_at ∷ []) roomy_call
      (All-append Own x.notes (call_at ∷ []) (all_front Own x.notes (call_at ∷ rest.events) all) (All-cons Own call_at [] refl (All-nil Own)))

  -- a moment of the rest is one of the run
  pub moment_behind : (n : ℕ) → own_move ≤ n → (events : List Event) (at : Store) → IsMomentFrom m plan (answer_there x) (goes_on_there x) (rest_of_cost n x) events at
      → IsMoment m plan os n (events_of (x.notes ++ call_at ∷ []) ++ events) at
  moment_behind n le events at (inl w) =
      let z : x.cost + suc x.own_cost + w.0 - x.cost - suc x.own_cost ≡ w.0 = omega arith in
      let few : own_move ≤ own_move + w.0 = omega arith in
      let r : Blocking m plan os (own_move + w.0) ≡ after x.notes (after (call_at ∷ []) (rest_of m plan (answer_there x) (goes_on_there x) w.0)) =
      blocking_so (own_move + w.0) few ∙ ap (λ (j : ℕ). after x.notes (after (call_at ∷ []) (rest_of m plan (answer_there x) (goes_on_there x) j))) z in
      inl (
        own_move + w.0,
        omega (arith, w.1),
        ap (λ (es : List Event). events_of (x.notes ++ call_at ∷ []) ++ es) w.2
            ∙ sym (events_append (x.notes ++ call_at ∷ []) (rest_of m plan (answer_there x) (goes_on_there x) w.0).events)
            ∙ ap events_of (append_assoc x.notes (call_at ∷ []) (rest_of m plan (answer_there x) (goes_on_there x) w.0).events)
            ∙ ap (λ (q : Ran State Note). events_of q.events) (sym r),
        w.3 ∙ ap (λ (q : Ran State Note). store_of q.last) (sym r),
      )
  moment_behind n le events at (inr w) =
      let rest : List Note = (rest_of m plan (answer_there x) (goes_on_there x) (rest_of_cost n x)).events in
      let all : (Blocking m plan os n).events ≡ (x.notes ++ call_at ∷ []) ++ rest =
      ap (λ (q : Ran State Note). q.events) (blocking_so n le) ∙ sym (append_assoc x.notes (call_at ∷ []) rest) in
      let z : suc (length (x.notes ++ call_at ∷ []) + w.0) ≡ length (x.notes ++ call_at ∷ []) + suc w.0 = omega arith in
      inr (
        length (x.notes ++ call_at ∷ []) + w.0,
        w.1,
        ap (λ (es : List Note). slice_get es (length (x.notes ++ call_at ∷ []) + w.0)) all ∙ got_behind (x.notes ++ call_at ∷ []) rest w.0 w.1 w.2,
        ap (λ (es : List Event). events_of (x.notes ++ call_at ∷ []) ++ es) w.3
            ∙ sym (events_append (x.notes ++ call_at ∷ []) (take (suc w.0) rest))
            ∙ ap events_of (sym (take_behind (x.notes ++ call_at ∷ []) rest (suc w.0)) ∙ ap (λ (k : ℕ). take k ((x.notes ++ call_at ∷ []) ++ rest)) (sym z))
            ∙ ap (λ (es : List Note). events_of (take (suc (length (x.notes ++ call_at ∷ []) + w.0)) es)) (sym all),
        w.4,
      )
