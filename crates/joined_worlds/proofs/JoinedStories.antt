-- Up to a pause by one rewritten module, and from its store on by another one: a story of their original.
use Rattle.std.proofs.Common.{arith, ◌≡◌, ◌≤◌, ◌<◌, ◌+◌, ◌-◌, inl, inr, ℕ, suc, List, [], ◌++◌, length, Some, Bool, All, refl, sym, ap, ◌∙◌, subst, ⊎_elim, append_assoc, append-nil, length-append}
use Rattle.std.specs.Prelude.{slice_get}
use Rattle.std.proofs.lemmas.Bool.{cases_lt}
use Rattle.std.proofs.lemmas.List.{length-map}
use Rattle.wa_types.specs.Base.{Base}
use Rattle.wa_types.specs.Bounds.{Bound}
use Rattle.wa_types.specs.Pausing.{Settings}
use Rattle.wa_types.specs.Runtime.{global_space}
use Rattle.wa_types.specs.Syntax.{Module}
use Rattle.wa_model.specs.declared.answers.Area.{Area}
use Rattle.wa_model.specs.Behaves.{BehavesOn, IsMoment, expected_notes, pause_stacks, without_pauses}
use Rattle.wa_model.specs.Blocking.{Blocking, Left, Note, blocking, events_of}
use Rattle.wa_model.specs.Expected.{SameEnd}
use Rattle.wa_model.specs.Machine.{Leads, Ran, Turn, run, still}
use Rattle.wa_model.specs.Outside.{Answer, Event}
use Rattle.wa_model.specs.Plan.{Entry, Outcome, Plan}
use Rattle.wa_model.specs.Protocol.{Held, exports_of, protocol, store_held}
use Rattle.wa_model.specs.Store.{Store}
use Rattle.world_model.specs.World.{Original, unless_over}
use Rattle.run_theory.specs.DeterminedRuns.{held_start_of}
use Rattle.run_theory.proofs.Runs.{prefix_of_longer}
use Rattle.run_laws.proofs.Growing.{expected_grow}
use Rattle.run_laws.proofs.Keeping.{same_on}
use Rattle.run_laws.proofs.OwnEnds.{Own}
use Rattle.world_laws.specs.Originals.{SameMoment, new_calls}
use Rattle.world_laws.proofs.Counting.{Live, Tells, after_tells, behind_live, protocol_tells}
use Rattle.world_laws.proofs.Stories.{IsStory, told_so}
use Rattle.image_laws.specs.Image.{BehavesFrom, ComesThere, ComesToPause, GoesOnFrom, HoldsPause, IsMomentFrom, Pause, RestBound, UntilBound, answer_there, call_there, expected_from, goes_on_there, held_at_pause, held_rest, held_there, left_there, rest_of_cost, stack_there}
use Rattle.joined_worlds.proofs.FoundPauses.{In, in_two}
use Rattle.joined_worlds.proofs.JoinedNotes.{bound_above, expected_before, expected_so, front, front_without, got_behind, got_first, moment_behind, moment_on, prefix_length, without_append}
use Rattle.joined_worlds.proofs.Matches.{Matched, matched, runs_so}

same_back : (g : ℕ) (area : Area) (s t : Store) → SameEnd g area s t → SameEnd g area t s
same_back g area s t h = record {
  globals_same = λ x lt. sym (h.globals_same x lt);
  size = sym h.size;
  below = λ x lt. sym (h.below x lt);
  above = λ x le. sym (h.above x le);
}

-- what is known of the runs of the original and of both modules
pub record RunsKnown (o : Original) (p q : Module) (which : List Bool) (os : List Outcome) : Type 0 where
  -- the first module behaves as its original
  pub behaves : (n : ℕ) → n ≤ o.program.steps → BehavesOn o.program.source o.settings p o.program.plan os n which (expected_notes o.program.source o.settings o.program.plan os n)
  pub own : (n : ℕ) → All Own (Blocking o.program.source o.program.plan os n).events
  -- it comes to each pause of the original
  pub comes : (n : ℕ) → n ≤ o.program.steps → (x : Pause) → ComesThere o.program.source o.settings o.program.plan os x → x.cost + suc x.own_cost ≤ n
      → ComesToPause o.program.source o.settings p o.program.plan which os x
  -- from such a store the second one does what the original does
  pub goes_on : (n : ℕ) → n ≤ o.program.steps → (x : Pause) → ComesThere o.program.source o.settings o.program.plan os x → x.cost + suc x.own_cost ≤ n → (t : Store)
      → HoldsPause o.program.source p o.settings which o.program.plan x.waits t
      → GoesOnFrom o.program.source o.settings q o.program.plan which (rest_of_cost n x) x t
  pub bounds : (n : ℕ) → n ≤ o.program.steps → (x : Pause) → ComesThere o.program.source o.settings o.program.plan os x → x.cost + suc x.own_cost ≤ n
      → UntilBound o.program.source (x.cost + x.own_cost) (stack_there o.program.source x) (pause_stacks x.notes)
      + RestBound o.program.source (rest_of_cost n x) (stack_there o.program.source x)
      (pause_stacks (run (blocking (Base o.program.source) o.program.plan) (rest_of_cost n x) (goes_on_there x)).events)
      ≡ Bound o.program.source n (pause_stacks (Blocking o.program.source o.program.plan os n).events)

module _ (o : Original) (p q : Module) (which : List Bool) (os : List Outcome) (known : RunsKnown o p q which os) (used : ℕ) (le : used ≤ o.program.steps) (made : List Note) (e : Entry)
    (import : ℕ) (a : Answer) (t : Store) (l : Left)
    (leads : Leads (protocol p (exports_of p) o.program.plan) (held_start_of p o.program.plan os).last used made (held_at_pause p o.program.plan e import a t l)) where
  abbrev m : Module
  m = o.program.source

  abbrev s : Settings
  s = o.settings

  abbrev plan : Plan
  plan = o.program.plan

  abbrev N : ℕ
  N = o.program.steps

  abbrev E : ℕ → List Note
  E n = expected_notes m s plan os n

  abbrev prq : Held → Turn Held Note
  prq = protocol q (exports_of q) plan

  abbrev Same : Note → Note → Type 0
  Same = SameMoment (global_space m) plan.area

  -- where the second one begins, and what it makes by the steps that are left
  abbrev pub halt : Held
  halt = held_at_pause q plan e import a t l

  abbrev pub ran : Ran Held Note
  ran = run prq (N - used) halt

  it : Matched m s p plan which os used made e import a t l
  it = matched m s p plan which os used made e import a t l leads (known.behaves used le) (known.own used) (λ x there within. known.comes used le x there within)

  abbrev x : Pause
  x = it.pause

  abbrev own_move : ℕ
  own_move = it.pause.cost + suc it.pause.own_cost

  -- the cost at which the original has as much left as the second module has steps
  abbrev long : ℕ
  long = it.pause.cost + suc it.pause.own_cost + (N - used)

  long_least : own_move ≤ long
  long_least = omega arith

  long_most : long ≤ N
  long_most = omega (arith, it.within, le)

  rest_is : rest_of_cost long x ≡ N - used
  rest_is = omega arith

  holds : HoldsPause m p s which plan x.waits t
  holds = let c = it.comes in subst (HoldsPause m p s which plan x.waits) it.store_is c.holds

  there_is : held_there q plan x t ≡ halt
  there_is =
      ap (λ (z : Entry). held_at_pause q plan z x.import x.answer t (left_there x)) it.entry_is
      ∙ ap (λ (z : ℕ). held_at_pause q plan e z x.answer t (left_there x)) it.import_is
      ∙ ap (λ (z : Answer). held_at_pause q plan e import z t (left_there x)) it.answer_is
      ∙ ap (held_at_pause q plan e import a t) it.left_is

  abbrev Goes : ℕ → Held → Type 0
  Goes n b = BehavesFrom m s q plan which n x.waits.store (call_there x) (stack_there m x) (answer_there x) (goes_on_there x) b

  goes_so : Goes (N - used) halt
  goes_so = subst (Goes (N - used)) there_is (subst (λ (n : ℕ). Goes n (held_there q plan x t)) rest_is (known.goes_on long long_most x it.there long_least t holds))

  abbrev F : List Note
  F = front m s plan os x it.there it.begins_none

  expected_long : E long ≡ F ++ expected_from m s plan (answer_there x) (goes_on_there x) (N - used)
  expected_long =
      expected_so m s plan os x it.there it.begins_none long long_least
      ∙ ap (λ (n : ℕ). front m s plan os x it.there it.begins_none ++ expected_from m s plan (answer_there x) (goes_on_there x) n) rest_is

  events_made : events_of made ≡ events_of F
  events_made = let c = it.comes in ap events_of (sym it.made_is) ∙ c.events

  front_long : length F ≡ length made
  front_long =
      let a = length-map made (λ (y : Note). y.event) in
      let b = length-map (front m s plan os x it.there it.begins_none) (λ (y : Note). y.event) in
      let c = ap length events_made in
      omega (arith, a, b, c)

  -- what is expected within less begins what is expected of the whole
  grows : (n : ℕ) → n ≤ N → (i : ℕ) (y : Note) → slice_get (E n) i ≡ Some y → slice_get (E N) i ≡ Some y
  grows n few i y at =
      let g = expected_grow m s plan os n (N - n) in
      let z : n + (N - n) ≡ N = omega arith in
      ap (λ (k : ℕ). slice_get (E k) i) (sym z) ∙ ap (λ (es : List Note). slice_get es i) g.1 ∙ got_first (E n) g.0 i y at

  -- ---- notes beside notes

  first_beside : (i : ℕ) (y : Note) → slice_get made i ≡ Some y → (w : Note) × (slice_get (E N) i ≡ Some w) × Same w y
  first_beside i y at =
      let b = known.behaves used le in
      let runs = runs_so m s p plan which os used made e import a t l leads (known.behaves used le) (known.own used) (λ x there within. known.comes used le x there within) in
      let h = b.notes i y (ap (λ (r : Ran Held Note). slice_get r.events i) runs ∙ at) in
      (h.0, grows used le i h.0 h.1, record { event = h.2.event; ends = h.2.ends })

  rest_beside : (j : ℕ) (y : Note) → slice_get ran.events j ≡ Some y → (w : Note) × (slice_get (E N) (length made + j) ≡ Some w) × Same w y
  rest_beside j y at =
      let g = goes_so in
      let h = g.notes j y at in
      let there : slice_get (E long) (length F + j) ≡ Some h.0 =
      ap (λ (es : List Note). slice_get es (length (front m s plan os x it.there it.begins_none) + j)) expected_long
      ∙ got_behind (front m s plan os x it.there it.begins_none) (expected_from m s plan (answer_there x) (goes_on_there x) (N - used)) j h.0 h.1 in (
        h.0,
        subst (λ (n : ℕ). slice_get (E N) (n + j) ≡ Some h.0) front_long (grows long long_most (length (front m s plan os x it.there it.begins_none) + j) h.0 there),
        record { event = h.2.event; ends = h.2.ends },
      )

  notes_beside : (i : ℕ) (y : Note) → slice_get (made ++ ran.events) i ≡ Some y → (w : Note) × (slice_get (E N) i ≡ Some w) × Same w y
  notes_beside i y at = by (in_two made ran.events i y at)
    where
      by : In made ran.events i y → (w : Note) × (slice_get (E N) i ≡ Some w) × Same w y
      by (inl h) = first_beside i y h
      by (inr h) = let r = rest_beside h.0 y h.2 in (r.0, ap (slice_get (E N)) h.1 ∙ r.1, r.2)

  -- ---- moments

  abbrev Moment : Type 0
  Moment = (events : List Event) × (at : Store) × IsMoment m plan os N events at × (events ≡ without_pauses (events_of (made ++ ran.events))) × SameEnd (global_space m) plan.area at (store_held ran.last)

  -- nothing was told since: a moment of the first module's run
  quiet_moment : ran.events ≡ [] → SameEnd (global_space m) plan.area x.waits.store (store_held ran.last) → Moment
  quiet_moment none same =
      let b = known.behaves used le in
      let mo = b.moments in
      let hp = holds in
      let runs = runs_so m s p plan which os used made e import a t l leads (known.behaves used le) (known.own used) (λ x there within. known.comes used le x there within) in
      let at_halt : SameEnd (global_space m) plan.area mo.1 t = subst (λ (r : Ran Held Note). SameEnd (global_space m) plan.area mo.1 (store_held r.last)) runs mo.4 in (
        mo.0,
        mo.1,
        moment_on m plan os used N mo.0 mo.1 le mo.2,
        mo.3 ∙ ap (λ (r : Ran Held Note). without_pauses (events_of r.events)) runs ∙ ap (λ (es : List Note). without_pauses (events_of es)) (sym (append-nil made) ∙ ap (λ (es : List Note). made ++ es) (sym none)),
        same_on (global_space m) plan.area mo.1 x.waits.store (store_held ran.last) (same_on (global_space m) plan.area mo.1 t x.waits.store at_halt (same_back (global_space m) plan.area x.waits.store t hp.same)) same,
      )

  told_moment : (events : List Event) (at : Store) → IsMomentFrom m plan (answer_there x) (goes_on_there x) (N - used) events at → events ≡ without_pauses (events_of ran.events)
      → SameEnd (global_space m) plan.area at (store_held ran.last) → Moment
  told_moment events at mo is same =
      let here : IsMomentFrom m plan (answer_there x) (goes_on_there x) (rest_of_cost long x) events at =
      subst (λ (n : ℕ). IsMomentFrom m plan (answer_there x) (goes_on_there x) n events at) (sym rest_is) mo in
      let there = moment_behind m s plan os x it.there it.begins_none long long_least events at here in
      let shown = front_without m s plan os x it.there it.begins_none long long_least (known.own long) in (
        _,
        at,
        moment_on m plan os long N _ at long_most there,
        ap (λ (es : List Event). es ++ events) (sym shown ∙ ap without_pauses (sym events_made)) ∙ ap (λ (es : List Event). without_pauses (events_of made) ++ es) is ∙ sym (without_append made ran.events),
        same,
      )

  moments_so : Moment
  moments_so = let g = goes_so in ⊎_elim (λ w. quiet_moment w.0 w.1) (λ w. told_moment w.0 w.1 w.2 w.3 w.4) g.moments

  -- ---- what is certain

  expected_few : (c : ℕ) → c < own_move → length (E c) ≤ length made
  expected_few c lt =
      let g = expected_grow m s plan os c (it.pause.cost + it.pause.own_cost - c) in
      let z : c + (it.pause.cost + it.pause.own_cost - c) ≡ it.pause.cost + it.pause.own_cost = omega arith in
      let all : E (it.pause.cost + it.pause.own_cost) ≡ E c ++ g.0 = ap E (sym z) ∙ g.1 in
      let n = prefix_length (E c) (E (it.pause.cost + it.pause.own_cost)) (g.0, all) in
      let r = ap length (expected_before m s plan os x it.there it.begins_none) in
      let f = it.notes_made in
      omega (arith, n, r, f)

  expected_reached : (c : ℕ) → own_move ≤ c → Bound m c (pause_stacks (Blocking m plan os c).events) ≤ N → length (E c) ≤ length (made ++ ran.events)
  expected_reached c more bound =
      let few : c ≤ N = bound_above m c N (pause_stacks (Blocking m plan os c).events) bound in
      let limit : ℕ = RestBound m (rest_of_cost c x) (stack_there m x) (pause_stacks (run (blocking (Base m) plan) (rest_of_cost c x) (goes_on_there x)).events) in
      let g : Goes (rest_of_cost c x) halt = subst (Goes (rest_of_cost c x)) there_is (known.goes_on c few x it.there more t holds) in
      let reach = prefix_length (events_of (expected_from m s plan (answer_there x) (goes_on_there x) (rest_of_cost c x))) (events_of (held_rest q plan halt limit).events) g.reaches in
      let l1 = length-map (expected_from m s plan (answer_there x) (goes_on_there x) (rest_of_cost c x)) (λ (y : Note). y.event) in
      let l2 = length-map (held_rest q plan halt limit).events (λ (y : Note). y.event) in
      let joined = known.bounds c few x it.there more in
      let cm = it.comes in
      let within = cm.within in
      let enough : limit ≤ N - used = omega (arith, joined, bound, within, it.cost_is) in
      let z : limit + (N - used - limit) ≡ N - used = omega arith in
      let refl_le : limit ≤ limit = omega arith in
      let grown = prefix_of_longer Held Note prq limit limit (N - used - limit) halt refl_le in
      let longer = prefix_length (run prq limit halt).events (run prq (limit + (N - used - limit)) halt).events grown in
      let same : length (run prq (limit + (N - used - limit)) halt).events ≡ length ran.events = ap (λ (n : ℕ). length (run prq n halt).events) z in
      let split = ap length (expected_so m s plan os x it.there it.begins_none c more) ∙ length-append (front m s plan os x it.there it.begins_none) (expected_from m s plan (answer_there x) (goes_on_there x) (rest_of_cost c x)) in
      let whole = length-append made ran.events in
      let f = front_long in
      omega (arith, reach, l1, l2, longer, same, split, whole, f)

  certain : (c : ℕ) → Bound m c (pause_stacks (Blocking m plan os c).events) ≤ N → length (E c) ≤ length (made ++ ran.events)
  certain c bound =
      ⊎_elim (λ lt. let n = expected_few c lt in let w = length-append made ran.events in omega (arith, n, w)) (λ ge. expected_reached c ge bound) (cases_lt c own_move)

  -- ---- the story

  tells_so : Tells (length os) (made ++ ran.events) ran.last
  tells_so =
      let runs = runs_so m s p plan which os used made e import a t l leads (known.behaves used le) (known.own used) (λ x there within. known.comes used le x there within) in
      let first : Live made × (new_calls made + length l.outcomes ≡ length os) = subst (λ (r : Ran Held Note). Tells (length os) r.events r.last) runs (protocol_tells p plan os used) in
      let none : new_calls [] + length l.outcomes ≡ length l.outcomes = omega arith in
      let rest : Tells (length l.outcomes) ran.events ran.last = after_tells q (exports_of q) plan (length l.outcomes) (N - used) (still halt) (tt, none) in
      behind_live q (exports_of q) plan (length os) made ran.events halt ran.last first.0 first.1 rest

  -- nothing is told before the first move
  pub none_before : (held_start_of p plan os).events ≡ []
  none_before = it.opens_none

  -- THE STORY OF THE ORIGINAL
  pub joined_story : new_calls (made ++ ran.events) ≤ length os → IsStory o os (made ++ (ran.events ++ unless_over N ran.last))
  joined_story few =
      subst (IsStory o os) (append_assoc made ran.events (unless_over N ran.last))
      (told_so o os (made ++ ran.events) ran.last notes_beside moments_so certain ran.last refl tells_so few)
