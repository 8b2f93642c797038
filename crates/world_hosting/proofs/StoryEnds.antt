-- How the stories of originals end, and what lines tell of them.
use Rattle.std.proofs.Common.{arith, ◌≡◌, ◌<◌, ◌+◌, ℕ, zero, suc, List, [], ◌∷◌, ◌++◌, take, map, Option, Some, None, Bool, true, false, eqb-true, All, refl, sym, ap, ◌∙◌, subst}
use Rattle.std.specs.Prelude.{nat_lt, nat_eq, if◌then◌else◌, slice_get, ◌||◌, ◌&&◌}
use Rattle.std.specs.List.{AllZip, list_any}
use Rattle.std.proofs.lemmas.Bool.{ltb-true, lt-ltb}
use Rattle.std.proofs.lemmas.List.Elements.{All-nil, All-cons, All-head, All-tail, All-append, All-take}
use Rattle.std.proofs.lemmas.List.Folds.{list_any-append, list_any_none}
use Rattle.wa_types.specs.Syntax.{Module}
use Rattle.wa_types.specs.Frames.{Suspended, Room, Fit}
use Rattle.wa_model.specs.declared.answers.Area.{Area}
use Rattle.wa_model.specs.declared.answers.Detach.{Detach}
use Rattle.wa_model.specs.declared.events.End.{End}
use Rattle.wa_model.specs.declared.events.End.TheVariants.{UnwindTrap, RewindTrap, StepsSpent, Broken}
use Rattle.wa_types.specs.declared.values.Trap.TheVariants.{Unreachable}
use Rattle.wa_model.specs.Outside.{Event, called, answered, paused, parked, returned, ended, shown, Line}
use Rattle.wa_model.specs.Store.{Store}
use Rattle.wa_model.specs.Plan.{Outcome, OutcomeFits}
use Rattle.wa_model.specs.Blocking.{Note, note, Blocking}
use Rattle.wa_model.specs.Expected.{pause_note, trap_note}
use Rattle.run_theory.specs.Shown.{shown_within as expected_of, shown_within_at as shown_at}
use Rattle.wa_model.specs.Behaves.{expected_notes}
use Rattle.world_model.specs.World.{Actor, BlockingStory, Device, Events, IsOver, Look, Original, Program, an_event, behind_turn, bytes_shown, events_with_looks, line_at, look_events, looks_after, no_event, put_off, spent, turn_of, whole}
use Rattle.world_laws.specs.Bounded.{ends_astray, is_astray}
use Rattle.world_laws.specs.Originals.{SameMoment}
use Rattle.world_laws.proofs.Bounded.{bounded_are_whole}
use Rattle.world_laws.proofs.Places.{all_at, set_here, set_there}
use Rattle.world_laws.proofs.Turns.{turn_parts}
use Rattle.world_hosting.specs.Endings.{IsBounded, PassesArea, ends_spent, ends_unwound, is_spent, is_unwound, tells_any}
use Rattle.run_laws.proofs.OwnEnds.{Own, blocking_own, ends_hosts, is_hosts}

or_false : (b : Bool) → b || false ≡ b
or_false true = refl
or_false false = refl

or_true : (b : Bool) → b || true ≡ true
or_true true = refl
or_true false = refl

pub same_number : (i : ℕ) → nat_eq i i ≡ true
same_number i = grind arith

-- a note of these tells such an event
abbrev pub any_note : (Event → Bool) → List Note → Bool
any_note test xs = list_any (λ (x : Note). test x.event) xs

abbrev Fails : (Event → Bool) → Note → Type 0
Fails test x = test x.event ≡ false

-- notes beside one another tell the same
pub same_events : (test : Event → Bool) (globals : ℕ) (area : Area) (xs ys : List Note) → AllZip (SameMoment globals area) xs ys → any_note test ys ≡ any_note test xs
same_events test globals area [] [] h = refl
same_events test globals area [] (y ∷ ys) h = absurd h
same_events test globals area (x ∷ xs) [] h = absurd h
same_events test globals area (x ∷ xs) (y ∷ ys) h =
    let e : SameMoment globals area x y = h.0 in
    ap (λ (v : Event). test v || any_note test ys) (sym e.event) ∙ ap (λ (b : Bool). test x.event || b) (same_events test globals area xs ys h.1)

-- ---- the lines of one program

module _ (test : Event → Bool) (plain : (at : ℕ) (bytes : Option (List ℕ)) → test (shown at bytes) ≡ false) where
  pub looks_none : (s : Store) (looks : List Look) → list_any test (look_events s looks) ≡ false
  looks_none s [] = refl
  looks_none s (k ∷ ks) = ap (λ (b : Bool). b || list_any test (look_events s ks)) (plain k.at (bytes_shown s.memory k)) ∙ looks_none s ks

  after_none : (looks : List Look) (x : Note) (e : Event) → list_any test (looks_after looks x e) ≡ false
  after_none looks x (called c) = refl
  after_none looks x (answered v) = refl
  after_none looks x (paused t u) = refl
  after_none looks x (returned i v) = refl
  after_none looks x (ended how) = looks_none x.store looks
  after_none looks x (parked used) = refl
  after_none looks x (shown at bytes) = refl

  pub notes_any : (looks : List Look) (xs : List Note) → list_any test (events_with_looks looks xs) ≡ any_note test xs
  notes_any looks [] = refl
  notes_any looks (x ∷ xs) =
      list_any-append test (x.event ∷ looks_after looks x x.event) (events_with_looks looks xs)
      ∙ ap (λ (b : Bool). (test x.event || b) || list_any test (events_with_looks looks xs)) (after_none looks x x.event)
      ∙ ap (λ (b : Bool). b || list_any test (events_with_looks looks xs)) (or_false (test x.event))
      ∙ ap (λ (b : Bool). test x.event || b) (notes_any looks xs)

  own_any : (i due : ℕ) (es : List Event) → tells_any i test (map (line_at due i) es) ≡ list_any test es
  own_any i due [] = refl
  own_any i due (e ∷ es) = ap (λ (b : Bool). (b && test e) || tells_any i test (map (line_at due i) es)) (same_number i) ∙ ap (λ (b : Bool). test e || b) (own_any i due es)

  other_any : (i j due : ℕ) (es : List Event) → nat_eq j i ≡ false → tells_any i test (map (line_at due j) es) ≡ false
  other_any i j due [] h = refl
  other_any i j due (e ∷ es) h = ap (λ (b : Bool). (b && test e) || tells_any i test (map (line_at due j) es)) h ∙ other_any i j due es h

  module _ (programs : List Program) (detaches : List Detach) (i : ℕ) where
    pub events_any : (number : ℕ) (acts last : List Actor) (ds ds' : List Device) (lines : List Line) → Events programs detaches number acts ds lines last ds' → IsOver last → (a : Actor)
        → slice_get acts i ≡ Some a → tells_any i test lines ≡ any_note test a.notes
    events_any number acts last ds ds' lines no_event over a at = sym (ap (any_note test) (all_at (λ (b : Actor). b.notes ≡ []) acts i a over at))
    events_any number acts last ds ds' lines (an_event {actors' = mid} {ds' = es} {lines = first} {more = more} play rest split) over a at =
        parts ∙ by (nat_eq play.i i) refl (λ b e. events_any (suc number) mid last es ds' more rest over b e)
      where
        moved : Actor
        moved = record { due = play.a.due + put_off (turn_of play.a.notes); notes = behind_turn play.a.notes; outcomes = play.outcomes; answers = play.answers }

        turn : List Event
        turn = events_with_looks play.w.looks (turn_of play.a.notes)

        parts : tells_any i test lines ≡ tells_any i test (map (line_at play.a.due play.i) turn) || tells_any i test more
        parts =
            ap (tells_any i test) (split ∙ ap (λ (ls : List Line). ls ++ more) play.made)
            ∙ list_any-append (λ (l : Line). nat_eq l.program i && test l.event) (map (line_at play.a.due play.i) turn) more

        one_actor : (x y : Actor) → Some x ≡ Some y → x ≡ y
        one_actor x y e = cc

        by : (b : Bool) → nat_eq play.i i ≡ b → ((b : Actor) → slice_get mid i ≡ Some b → tells_any i test more ≡ any_note test b.notes)
            → tells_any i test (map (line_at play.a.due play.i) turn) || tells_any i test more ≡ any_note test a.notes
        by true e on =
            let z : play.i ≡ i = eqb-true play.i i e in
            let is_a : play.a ≡ a = one_actor play.a a (sym play.next.there ∙ ap (slice_get acts) z ∙ at) in
            let here : slice_get mid i ≡ Some moved =
            ap (slice_get mid) (sym z) ∙ ap (λ (xs : List Actor). slice_get xs play.i) play.after ∙ set_here acts play.i moved play.a play.next.there in
            let first_any : tells_any i test (map (line_at play.a.due play.i) turn) ≡ any_note test (turn_of play.a.notes) =
            ap (λ (k : ℕ). tells_any k test (map (line_at play.a.due play.i) turn)) (sym z) ∙ own_any play.i play.a.due turn ∙ notes_any play.w.looks (turn_of play.a.notes) in
            ap (λ (b : Bool). b || tells_any i test more) first_any
            ∙ ap (λ (b : Bool). any_note test (turn_of play.a.notes) || b) (on moved here)
            ∙ sym (list_any-append (λ (x : Note). test x.event) (turn_of play.a.notes) (behind_turn play.a.notes))
            ∙ ap (any_note test) (turn_parts play.a.notes)
            ∙ ap (λ (b : Actor). any_note test b.notes) is_a
        by false e on =
            let apart : i ≡ play.i → ⊥ = λ f. never (ap (λ (k : ℕ). nat_eq k i) f ∙ e) in
            let here : slice_get mid i ≡ Some a = ap (λ (xs : List Actor). slice_get xs i) play.after ∙ set_there acts play.i i moved apart ∙ at in
            ap (λ (b : Bool). b || tells_any i test more) (other_any i play.i play.a.due turn e) ∙ on a here
          where
            never : nat_eq i i ≡ false → ⊥
            never f = let bad : true ≡ false = sym (same_number i) ∙ f in cc

-- ---- expected notes

-- such an event is no pause, and of ends only one that a host makes
pub record HostsAlone (test : Event → Bool) : Type 0 where
  pub own : (e : Event) → ends_hosts e ≡ false → test e ≡ false
  pub pause : (ticks used : ℕ) → test (paused ticks used) ≡ false

pub astray_alone : HostsAlone ends_astray
astray_alone = record { own = own; pause = λ t u. refl }
  where
    ends : (how : End) → is_hosts how ≡ false → is_astray how ≡ false
    ends (RewindTrap trap) h = absurd cc
    ends (Broken rule) h = absurd cc
    ends _ h = refl

    own : (e : Event) → ends_hosts e ≡ false → ends_astray e ≡ false
    own (ended how) h = ends how h
    own _ h = refl

pub spent_alone : HostsAlone ends_spent
spent_alone = record { own = own; pause = λ t u. refl }
  where
    ends : (how : End) → is_hosts how ≡ false → is_spent how ≡ false
    ends (StepsSpent n) h = absurd cc
    ends _ h = refl

    own : (e : Event) → ends_hosts e ≡ false → ends_spent e ≡ false
    own (ended how) h = ends how h
    own _ h = refl

pub unwound_alone : HostsAlone ends_unwound
unwound_alone = record { own = own; pause = λ t u. refl }
  where
    ends : (how : End) → is_hosts how ≡ false → is_unwound how ≡ false
    ends (UnwindTrap trap used len) h = absurd cc
    ends _ h = refl

    own : (e : Event) → ends_hosts e ≡ false → ends_unwound e ≡ false
    own (ended how) h = ends how h
    own _ h = refl

module _ (room fit : List Suspended → ℕ) (len : ℕ) where
  -- a test that a trapped unwind doesn't pass either
  none_shown : (test : Event → Bool) → HostsAlone test → ((used len : ℕ) → test (ended (UnwindTrap Unreachable used len)) ≡ false) → (es : List Note) → All Own es
      → All (Fails test) (expected_of room fit len es)
  none_shown test alone trap [] h = All-nil (Fails test)
  none_shown test alone trap (x ∷ es) h = by_pause x.pause (none_shown test alone trap es (All-tail Own x es h))
    where
      here : Fails test x
      here = alone.own x.event (All-head Own x es h)

      by_room : (ticks : ℕ) (b : Bool) → All (Fails test) (expected_of room fit len es)
          → All (Fails test) (x ∷ (if b then trap_note (fit x.stack) len x.store ∷ [] else pause_note ticks (room x.stack) x.store x.stack ∷ expected_of room fit len es))
      by_room ticks true g =
          All-cons (Fails test) x (trap_note (fit x.stack) len x.store ∷ []) here
          (All-cons (Fails test) (trap_note (fit x.stack) len x.store) [] (trap (fit x.stack) len) (All-nil (Fails test)))
      by_room ticks false g =
          All-cons (Fails test) x (pause_note ticks (room x.stack) x.store x.stack ∷ expected_of room fit len es) here
          (All-cons (Fails test) (pause_note ticks (room x.stack) x.store x.stack) (expected_of room fit len es) (alone.pause ticks (room x.stack)) g)

      by_pause : (o : Option ℕ) → All (Fails test) (expected_of room fit len es) → All (Fails test) (shown_at room fit len x o (expected_of room fit len es))
      by_pause None g = All-cons (Fails test) x (expected_of room fit len es) here g
      by_pause (Some ticks) g = by_room ticks (nat_lt len (room x.stack)) g

  -- one of these pauses where the stack takes more room
  abbrev Passing : List Note → Type 0
  Passing es = (place : ℕ) × (x : Note) × (ticks : ℕ) × (slice_get es place ≡ Some x) × (x.pause ≡ Some ticks) × (len < room x.stack)

  later : (x : Note) (es : List Note) → Passing es → Passing (x ∷ es)
  later x es h = (suc h.0, h.1, h.2, h.3, h.4, h.5)

  passing : (es : List Note) → All Own es → any_note ends_unwound (expected_of room fit len es) ≡ true → Passing es
  passing [] h e = absurd cc
  passing (x ∷ es) h e = by_pause x.pause refl e (λ f. later x es (passing es (All-tail Own x es h) f))
    where
      rest : List Note
      rest = expected_of room fit len es

      behind : (b : Bool) → (ends_unwound x.event || b) ≡ true → b ≡ true
      behind b f = by (ends_unwound x.event) (unwound_alone.own x.event (All-head Own x es h)) f
        where
          by : (a : Bool) → a ≡ false → (a || b) ≡ true → b ≡ true
          by true g k = absurd cc
          by false g k = k

      by_room : (ticks : ℕ) → x.pause ≡ Some ticks → (b : Bool) → nat_lt len (room x.stack) ≡ b
          → any_note ends_unwound (x ∷ (if b then trap_note (fit x.stack) len x.store ∷ [] else pause_note ticks (room x.stack) x.store x.stack ∷ rest)) ≡ true
          → (any_note ends_unwound rest ≡ true → Passing (x ∷ es)) → Passing (x ∷ es)
      by_room ticks p true f k on = (0, x, ticks, refl, p, ltb-true len (room x.stack) f)
      by_room ticks p false f k on = on (behind (any_note ends_unwound rest) k)

      by_pause : (o : Option ℕ) → x.pause ≡ o → any_note ends_unwound (shown_at room fit len x o rest) ≡ true → (any_note ends_unwound rest ≡ true → Passing (x ∷ es)) → Passing (x ∷ es)
      by_pause None p k on = on (behind (any_note ends_unwound rest) k)
      by_pause (Some ticks) p k on = by_room ticks p (nat_lt len (room x.stack)) refl k on

  unwound_there : (es : List Note) → Passing es → any_note ends_unwound (expected_of room fit len es) ≡ true
  unwound_there [] h = absurd (never h.3)
    where
      never : None ≡ Some h.1 → ⊥
      never e = cc
  unwound_there (x ∷ es) h = by_pause h.0 h.3 x.pause refl (λ g. unwound_there es g)
    where
      rest : List Note
      rest = expected_of room fit len es

      one_note : (a b : Note) → Some a ≡ Some b → a ≡ b
      one_note a b e = cc

      behind : any_note ends_unwound rest ≡ true → (ends_unwound x.event || any_note ends_unwound rest) ≡ true
      behind e = ap (λ (b : Bool). ends_unwound x.event || b) e ∙ or_true (ends_unwound x.event)

      by_room : (place : ℕ) → slice_get (x ∷ es) place ≡ Some h.1 → (ticks : ℕ) (b : Bool) → nat_lt len (room x.stack) ≡ b → (Passing es → any_note ends_unwound rest ≡ true)
          → any_note ends_unwound (x ∷ (if b then trap_note (fit x.stack) len x.store ∷ [] else pause_note ticks (room x.stack) x.store x.stack ∷ rest)) ≡ true
      by_room place e ticks true f on = or_true (ends_unwound x.event)
      by_room zero e ticks false f on =
          let passes : nat_lt len (room x.stack) ≡ true = ap (λ (y : Note). nat_lt len (room y.stack)) (one_note x h.1 e) ∙ lt-ltb len (room h.1.stack) h.5 in
          let bad : true ≡ false = sym passes ∙ f in absurd cc
      by_room (suc place) e ticks false f on = behind (on (place, h.1, h.2, e, h.4, h.5))

      by_pause : (place : ℕ) → slice_get (x ∷ es) place ≡ Some h.1 → (o : Option ℕ) → x.pause ≡ o → (Passing es → any_note ends_unwound rest ≡ true)
          → any_note ends_unwound (shown_at room fit len x o rest) ≡ true
      by_pause zero e None p on =
          let bad : None ≡ Some h.2 = sym p ∙ ap (λ (y : Note). y.pause) (one_note x h.1 e) ∙ h.4 in absurd cc
      by_pause (suc place) e None p on = behind (on (place, h.1, h.2, e, h.4, h.5))
      by_pause place e (Some ticks) p on = by_room place e ticks (nat_lt len (room x.stack)) refl on

-- ---- stories

any_taken : (test : Event → Bool) (j : ℕ) (xs : List Note) → any_note test (take j xs) ≡ true → any_note test xs ≡ true
any_taken test zero [] e = e
any_taken test (suc j) [] e = e
any_taken test zero (x ∷ xs) e = absurd cc
any_taken test (suc j) (x ∷ xs) e = by (test x.event) e (λ f. any_taken test j xs f)
  where
    by : (b : Bool) → (b || any_note test (take j xs)) ≡ true → (any_note test (take j xs) ≡ true → any_note test xs ≡ true) → (b || any_note test xs) ≡ true
    by true f on = refl
    by false f on = on f

module _ (o : Original) (os : List Outcome) (fits : All OutcomeFits os) where
  abbrev m : Module
  m = o.program.source

  abbrev expected : ℕ → List Note
  expected n = expected_notes m o.settings o.program.plan os n

  abbrev room : List Suspended → ℕ
  room stack = Room m o.settings.policy stack

  abbrev fit : List Suspended → ℕ
  fit stack = Fit m o.settings.policy stack o.program.plan.area.len

  pub own : (n : ℕ) → All Own (Blocking m o.program.plan os n).events
  own n = blocking_own m o.program.plan os n fits

  none_expected : (test : Event → Bool) → HostsAlone test → ((used len : ℕ) → test (ended (UnwindTrap Unreachable used len)) ≡ false) → (n : ℕ) → All (Fails test) (expected n)
  none_expected test alone trap n = none_shown room fit o.program.plan.area.len test alone trap (Blocking m o.program.plan os n).events (own n)

  passes : (n : ℕ) → any_note ends_unwound (expected n) ≡ true → PassesArea o os n
  passes n e =
      let h = passing room fit o.program.plan.area.len (Blocking m o.program.plan os n).events (own n) e in
      record { place = h.0; call = h.1; ticks = h.2; there = h.3; pauses = h.4; passes = h.5 }

  pub orderly_story : (notes : List Note) → BlockingStory o.settings o.program os notes → any_note ends_astray notes ≡ false
  orderly_story notes (whole x before ns e f g) =
      ap (any_note ends_astray) e ∙ list_any_none (λ (x : Note). ends_astray x.event) (expected o.program.steps) (none_expected ends_astray astray_alone (λ u l. refl) o.program.steps)
  orderly_story notes (spent j before ns at e f lives uncertain moment g) =
      let last : Note = note (ended (StepsSpent o.program.steps)) at in
      ap (any_note ends_astray) g
      ∙ list_any_none (λ (x : Note). ends_astray x.event) (before ++ last ∷ [])
      (All-append (Fails ends_astray) before (last ∷ [])
      (subst (All (Fails ends_astray)) (sym e)
      (All-take (Fails ends_astray) j (expected o.program.steps) (none_expected ends_astray astray_alone (λ u l. refl) o.program.steps)))
      (All-cons (Fails ends_astray) last [] refl (All-nil (Fails ends_astray))))

  pub unwound_story : (notes : List Note) → BlockingStory o.settings o.program os notes → any_note ends_unwound notes ≡ true → PassesArea o os o.program.steps
  unwound_story notes (whole x before ns e f g) h = passes o.program.steps (ap (any_note ends_unwound) (sym e) ∙ h)
  unwound_story notes (spent j before ns at e f lives uncertain moment g) h =
      let last : Note = note (ended (StepsSpent o.program.steps)) at in
      let all : any_note ends_unwound before ≡ true =
      sym (or_false (any_note ends_unwound before)) ∙ sym (list_any-append (λ (x : Note). ends_unwound x.event) before (last ∷ [])) ∙ ap (any_note ends_unwound) (sym g) ∙ h in
      passes o.program.steps (any_taken ends_unwound j (expected o.program.steps) (ap (any_note ends_unwound) (sym e) ∙ all))

  is_whole : (notes : List Note) → BlockingStory o.settings o.program os notes → (b : IsBounded o os) → notes ≡ expected b.cost
  is_whole notes story b = bounded_are_whole o.settings o.program os notes b.cost b.place b.last story b.there b.is_last b.bound

  pub whole_story : (notes : List Note) → BlockingStory o.settings o.program os notes → IsBounded o os → any_note ends_spent notes ≡ false
  whole_story notes story b =
      ap (any_note ends_spent) (is_whole notes story b) ∙ list_any_none (λ (x : Note). ends_spent x.event) (expected b.cost) (none_expected ends_spent spent_alone (λ u l. refl) b.cost)

  pub unwinds_story : (notes : List Note) → BlockingStory o.settings o.program os notes → (b : IsBounded o os) → PassesArea o os b.cost → any_note ends_unwound notes ≡ true
  unwinds_story notes story b h =
      ap (any_note ends_unwound) (is_whole notes story b)
      ∙ unwound_there room fit o.program.plan.area.len (Blocking m o.program.plan os b.cost).events (h.place, h.call, h.ticks, h.there, h.pauses, h.passes)
