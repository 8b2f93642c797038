-- A run without pauses is the original's even where an outcome pokes the area: both end at the call that meets it.
use Rattle.std.proofs.Common.{◌≡◌, ℕ, zero, suc, ◌+◌, ◌-◌, ◌*◌, ◌<◌, ◌≤◌, List, [], ◌∷◌, ◌++◌, length, take, Option, Some, None, All, refl, sym, ap, ◌∙◌, subst, arith, append_assoc, append-nil, length-append, ◌⊎◌, ⊎_elim, inl, inr}
use Rattle.std.specs.Prelude.{slice_get}
use Rattle.std.proofs.lemmas.Bool.{cases_lt}
use Rattle.std.proofs.lemmas.List.{length-map}
use Rattle.wa_types.specs.declared.values.Value.TheVariants as V
use Rattle.wa_types.specs.Base.{Base}
use Rattle.wa_types.specs.Bounds.{Bound}
use Rattle.wa_types.specs.Runtime.{global_space}
use Rattle.wa_types.specs.Syntax.{Module}
use Rattle.wa_model.specs.declared.events.End.{End}
use Rattle.wa_model.specs.Outside.{Answer, Event, ended}
use Rattle.wa_model.specs.Machine.{Ran}
use Rattle.wa_model.specs.Store.{Store}
use Rattle.wa_model.specs.Plan.{Plan, Outcome, given}
use Rattle.wa_model.specs.Instantiation.{opening}
use Rattle.wa_model.specs.Blocking.{Note, State, note, all_left, bad_poke, begun, blocking, events_of, store_of, Blocking}
use Rattle.wa_model.specs.Protocol.{Held, Protocol, store_held}
use Rattle.wa_model.specs.Behaves.{AtCalls, IsMoment, IsPrefix, RunsAlike, SameAt, SameWhole}
use Rattle.run_theory.proofs.GrownSteps.{front}
use Rattle.run_theory.proofs.QuietRuns.{at_calls}
use Rattle.run_theory.proofs.Runs.{prefix_of_longer, prefix_on}
use Rattle.headline.proofs.EmptyAreas.{emptied}
use Rattle.headline.proofs.SamePlans.{Calm}
use Rattle.headline.proofs.ReachedCall.{Fork, calls, calls_of_events, one_call}
use Rattle.headline.proofs.PokedAreas.{blocking_at, protocol_at, why}

-- ---- lists of events, and the calls in them

abbrev ce : List Event → ℕ
ce = calls_of_events

calls_in_events : (xs : List Note) → ce (events_of xs) ≡ calls xs
calls_in_events [] = refl
calls_in_events (x ∷ xs) = ap (λ n. one_call x.event + n) (calls_in_events xs)

ce_on : (xs ys : List Event) → ce (xs ++ ys) ≡ ce xs + ce ys
ce_on [] ys = omega arith
ce_on (x ∷ xs) ys = let ih = ce_on xs ys in omega arith

events_on : (xs ys : List Note) → events_of (xs ++ ys) ≡ events_of xs ++ events_of ys
events_on [] ys = refl
events_on (x ∷ xs) ys = ap (λ es. x.event ∷ es) (events_on xs ys)

split_same : (bs bs' : List Event) (c c' : Event) (r r' : List Event) → one_call c ≡ 1 → one_call c' ≡ 1 → ce bs ≡ ce bs' → bs ++ (c ∷ r) ≡ bs' ++ (c' ∷ r') → (bs ≡ bs') × (c ≡ c') × (r ≡ r')
split_same [] [] c c' r r' h h' n e = let q : c ≡ c' = cc in let t : r ≡ r' = cc in (refl, q, t)
split_same [] (b ∷ bs') c c' r r' h h' n e = let q : c ≡ b = cc in let z = ap one_call q in absurd (omega arith)
split_same (b ∷ bs) [] c c' r r' h h' n e = let q : b ≡ c' = cc in let z = ap one_call q in absurd (omega arith)
split_same (b ∷ bs) (b' ∷ bs') c c' r r' h h' n e =
    let q : b ≡ b' = cc in
    let t : bs ++ (c ∷ r) ≡ bs' ++ (c' ∷ r') = cc in
    let z = ap one_call q in
    let on = split_same bs bs' c c' r r' h h' (omega arith) t in
    (ap (λ d. d ∷ bs) q ∙ ap (λ es. b' ∷ es) on.0, on.1, on.2)

-- what has no more calls stands before the next one
prefix_short : (ps bs : List Event) (c : Event) (r more : List Event) → one_call c ≡ 1 → ce ps ≤ ce bs → ps ++ more ≡ bs ++ (c ∷ r) → (mid : List Event) × (bs ≡ ps ++ mid)
prefix_short [] bs c r more h n e = (bs, refl)
prefix_short (p ∷ ps) [] c r more h n e = let q : p ≡ c = cc in let z = ap one_call q in absurd (omega arith)
prefix_short (p ∷ ps) (b ∷ bs) c r more h n e =
    let q : p ≡ b = cc in
    let t : ps ++ more ≡ bs ++ (c ∷ r) = cc in
    let z = ap one_call q in
    let on = prefix_short ps bs c r more h (omega arith) t in
    (on.0, ap (λ d. d ∷ bs) (sym q) ∙ ap (λ es. p ∷ es) on.1)

-- ---- places

got_at : (bs : List Note) (x : Note) (r : List Note) → slice_get (bs ++ (x ∷ r)) (length bs) ≡ Some x
got_at [] x r = refl
got_at (b ∷ bs) x r = got_at bs x r

got_behind : (bs : List Note) (x y : Note) (r : List Note) → slice_get (bs ++ (x ∷ y ∷ r)) (suc (length bs)) ≡ Some y
got_behind [] x y r = refl
got_behind (b ∷ bs) x y r = got_behind bs x y r

got_below : (xs : List Note) (i : ℕ) (y : Note) → slice_get xs i ≡ Some y → i < length xs
got_below [] i y e = cc
got_below (x ∷ xs) zero y e = omega arith
got_below (x ∷ xs) (suc i) y e = let on = got_below xs i y e in omega arith

-- up to a call the rest doesn't matter
up_to : (bs : List Note) (x : Note) (r r' : List Note) (i : ℕ) → i ≤ length bs → slice_get (bs ++ (x ∷ r)) i ≡ slice_get (bs ++ (x ∷ r')) i
up_to [] x r r' zero le = refl
up_to [] x r r' (suc i) le = absurd (omega arith)
up_to (b ∷ bs) x r r' zero le = refl
up_to (b ∷ bs) x r r' (suc i) le = up_to bs x r r' i (omega arith)

take_below : (bs r r' : List Note) (i : ℕ) → i < length bs → take (suc i) (bs ++ r) ≡ take (suc i) (bs ++ r')
take_below [] r r' i lt = absurd (omega arith)
take_below (b ∷ bs) r r' zero lt = refl
take_below (b ∷ bs) r r' (suc i) lt = ap (λ es. b ∷ es) (take_below bs r r' i (omega arith))

-- what is taken beyond a call has it
take_beyond : (bs : List Note) (x : Note) (r : List Note) (i : ℕ) → one_call x.event ≡ 1 → length bs ≤ i → suc (calls bs) ≤ calls (take (suc i) (bs ++ (x ∷ r)))
take_beyond [] x r i h le = omega arith
take_beyond (b ∷ bs) x r zero h le = absurd (omega arith)
take_beyond (b ∷ bs) x r (suc i) h le = let on = take_beyond bs x r i h (omega arith) in omega arith

-- a note up to a call, or the one behind it
two_ways : (bs : List Note) (x z : Note) (i : ℕ) (y : Note) → slice_get (bs ++ (x ∷ z ∷ [])) i ≡ Some y → (i ≤ length bs) ⊎ ((i ≡ suc (length bs)) × (z ≡ y))
two_ways [] x z zero y e = inl (omega arith)
two_ways [] x z (suc zero) y e = let q : z ≡ y = cc in inr (refl, q)
two_ways [] x z (suc (suc i)) y e = cc
two_ways (b ∷ bs) x z zero y e = inl (omega arith)
two_ways (b ∷ bs) x z (suc i) y e = by (two_ways bs x z i y e)
  where
    by : ((i ≤ length bs) ⊎ ((i ≡ suc (length bs)) × (z ≡ y))) → (suc i ≤ suc (length bs)) ⊎ ((suc i ≡ suc (suc (length bs))) × (z ≡ y))
    by (inl le) = inl (omega arith)
    by (inr h) = inr (ap suc h.0, h.1)

some_is : {X : Type 0} (x y : X) → Some x ≡ Some y → x ≡ y
some_is x y q = cc

-- ---- runs that end at such a call

module _ (why : Event → (size : ℕ) → Option End) (k : ℕ) where
  module _ (xs ys : List Note) (at : Store) (f : Fork why k xs ys at) where
    pub tells : one_call (f.x).event ≡ 1
    tells = ap one_call f.is

    pub count_events : ce (events_of f.before) ≡ k
    count_events = calls_in_events f.before ∙ f.count

    pub first_events : events_of xs ≡ events_of f.before ++ ((f.x).event ∷ ended f.e ∷ [])
    first_events = ap events_of f.first ∙ events_on f.before (f.x ∷ note (ended f.e) (f.x).store ∷ [])

    pub second_events : events_of ys ≡ events_of f.before ++ ((f.x).event ∷ (f.next).event ∷ events_of f.rest)
    second_events = ap events_of f.second ∙ events_on f.before (f.x ∷ f.next ∷ f.rest)

    -- the second tells a call more
    pub many : suc k ≤ ce (events_of ys)
    many =
        let e = ap ce second_events in
        let on = ce_on (events_of f.before) ((f.x).event ∷ (f.next).event ∷ events_of f.rest) in
        let c = count_events in let t = tells in
        omega arith

    -- what has few calls begins both
    pub short : (ps : List Event) → ce ps ≤ k → IsPrefix ps (events_of ys) → (mid : List Event) × (events_of f.before ≡ ps ++ mid)
    short ps few h =
        let c = count_events in
        prefix_short ps (events_of f.before) (f.x).event ((f.next).event ∷ events_of f.rest) h.0 tells (omega arith) (sym h.1 ∙ second_events)

    pub short_first : (ps : List Event) → ce ps ≤ k → IsPrefix ps (events_of ys) → IsPrefix ps (events_of xs)
    short_first ps few h =
        let s = short ps few h in
        (s.0 ++ ((f.x).event ∷ ended f.e ∷ []), first_events ∙ ap (λ es. es ++ ((f.x).event ∷ ended f.e ∷ [])) s.1 ∙ append_assoc ps s.0 ((f.x).event ∷ ended f.e ∷ []))

  -- two such, of which the second's events begin the other's or go on from them, end at one call
  pub record Meet (xs ys us vs : List Note) (at at' : Store) (f : Fork why k xs ys at) (g : Fork why k us vs at') : Type 0 where
    pub before : events_of f.before ≡ events_of g.before
    pub call : (f.x).event ≡ (g.x).event
    pub next : (f.next).event ≡ (g.next).event

  pub meet : (xs ys us vs : List Note) (at at' : Store) (f : Fork why k xs ys at) (g : Fork why k us vs at') (more more' : List Event)
      → events_of ys ++ more ≡ events_of vs ++ more' → Meet xs ys us vs at at' f g
  meet xs ys us vs at at' f g more more' e =
      let whole : events_of f.before ++ ((f.x).event ∷ ((f.next).event ∷ (events_of f.rest ++ more))) ≡ events_of g.before ++ ((g.x).event ∷ ((g.next).event ∷ (events_of g.rest ++ more'))) =
      sym (append_assoc (events_of f.before) ((f.x).event ∷ (f.next).event ∷ events_of f.rest) more)
      ∙ ap (λ es. es ++ more) (sym (second_events xs ys at f)) ∙ e ∙ ap (λ es. es ++ more') (second_events us vs at' g)
      ∙ append_assoc (events_of g.before) ((g.x).event ∷ (g.next).event ∷ events_of g.rest) more' in
      let s = split_same (events_of f.before) (events_of g.before) (f.x).event (g.x).event ((f.next).event ∷ (events_of f.rest ++ more)) ((g.next).event ∷ (events_of g.rest ++ more'))
      (tells xs ys at f) (tells us vs at' g) (count_events xs ys at f ∙ sym (count_events us vs at' g)) whole in
      record { before = s.0; call = s.1; next = head_is (f.next).event (g.next).event (events_of f.rest ++ more) (events_of g.rest ++ more') s.2 }
    where
      head_is : (a b : Event) (ys zs : List Event) → a ∷ ys ≡ b ∷ zs → a ≡ b
      head_is a b ys zs e = cc

  -- so where their memories are the same they make the same
  pub same_ends : (xs ys us vs : List Note) (at at' : Store) (f : Fork why k xs ys at) (g : Fork why k us vs at') → Meet xs ys us vs at at' f g
      → (f.x).store.memory ≡ (g.x).store.memory → f.e ≡ g.e
  same_ends xs ys us vs at at' f g h mem =
      some_is f.e g.e
      (sym f.cause ∙ ap (λ z. why z (length (f.x).store.memory)) h.next ∙ ap (λ z. why (g.next).event (length z)) mem ∙ g.cause)

  pub same_made : (xs ys us vs : List Note) (at at' : Store) (f : Fork why k xs ys at) (g : Fork why k us vs at') → Meet xs ys us vs at at' f g
      → (f.x).store.memory ≡ (g.x).store.memory → events_of xs ≡ events_of us
  same_made xs ys us vs at at' f g h mem =
      first_events xs ys at f ∙ ap (λ es. es ++ ((f.x).event ∷ ended f.e ∷ [])) h.before
      ∙ ap (λ z. events_of g.before ++ (z ∷ ended f.e ∷ [])) h.call
      ∙ ap (λ z. events_of g.before ++ ((g.x).event ∷ ended z ∷ [])) (same_ends xs ys us vs at at' f g h mem) ∙ sym (first_events us vs at' g)

  pub same_place : (xs ys us vs : List Note) (at at' : Store) (f : Fork why k xs ys at) (g : Fork why k us vs at') → Meet xs ys us vs at at' f g → length f.before ≡ length g.before
  same_place xs ys us vs at at' f g h =
      sym (length-map f.before (λ (x : Note). x.event)) ∙ ap length h.before ∙ length-map g.before (λ (x : Note). x.event)

-- a longer run's notes go on from a shorter one's
blocking_grows : (m : Module) (plan : Plan) (os : List Outcome) (n b : ℕ) → n ≤ b → IsPrefix (Blocking m plan os n).events (Blocking m plan os b).events
blocking_grows m plan os n b le =
    let z : n + (b - n) ≡ b = omega arith in
    let r = begun (Base m).start (all_left plan os) (opening (Base m) plan.globals) in
    subst (λ j. IsPrefix (Blocking m plan os n).events (Blocking m plan os j).events) z
    (prefix_on State Note (blocking (Base m) plan) r.events _ _ (prefix_of_longer State Note (blocking (Base m) plan) n n (b - n) r.last (omega arith)))

bound_above : (m : Module) (n : ℕ) → n ≤ Bound m n []
bound_above m n = by 0
  where
    by : (x : ℕ) → n ≤ 256 * (n + 1) + x
    by x = omega arith

module _ (m p : Module) (plan : Plan) (bad : Answer) (rest us os : List Outcome) (unpaused : bad.ticks ≡ 0) (poking : (size : ℕ) → bad_poke size (plan.area ∷ plan.others) bad.pokes ≡ None → ⊥)
    (is : os ≡ us ++ (given bad ∷ rest)) (calm : All (Calm plan) us) (alike : (j : ℕ) → RunsAlike m p (emptied plan) os j) (n : ℕ) where
  abbrev w : Event → (size : ℕ) → Option End
  w = why plan bad rest unpaused poking

  abbrev k : ℕ
  k = length us

  abbrev B : ℕ → Ran State Note
  B j = Blocking m plan os j

  abbrev B' : ℕ → Ran State Note
  B' j = Blocking m (emptied plan) os j

  abbrev P : ℕ → Ran Held Note
  P j = Protocol p plan os j

  abbrev P' : ℕ → Ran Held Note
  P' j = Protocol p (emptied plan) os j

  abbrev FB : ℕ → Type 0
  FB j = Fork w k (B j).events (B' j).events (store_of (B j).last)

  abbrev FP : ℕ → Type 0
  FP j = Fork w k (P j).events (P' j).events (store_held (P j).last)

  abbrev CB : ℕ → Type 0
  CB j = ((B j ≡ B' j) × (calls (B' j).events ≤ k)) ⊎ FB j

  abbrev CP : ℕ → Type 0
  CP j = ((P j ≡ P' j) × (calls (P' j).events ≤ k)) ⊎ FP j

  cb : (j : ℕ) → CB j
  cb j = blocking_at plan bad rest unpaused poking m us os j is calm

  cp : (j : ℕ) → CP j
  cp j = protocol_at plan bad rest unpaused poking p us os j is calm

  few : (xs : List Note) → calls xs ≤ k → ce (events_of xs) ≤ k
  few xs h = let e = calls_in_events xs in omega arith

  abbrev Meets : (i j : ℕ) → FB i → FP j → Type 0
  Meets i j f g = Meet w k (B i).events (B' i).events (P j).events (P' j).events (store_of (B i).last) (store_held (P j).last) f g

  -- the notes of the call are the same, but for what the rewritten module has of its own
  same_call : (i j : ℕ) → i ≤ j → (f : FB i) (g : FP j) → Meets i j f g → SameAt (global_space m) f.x g.x
  same_call i j le f g h =
      let place = same_place w k _ _ _ _ _ _ f g h in
      let there : slice_get (P' j).events (length g.before) ≡ Some g.x = ap (λ xs. slice_get xs (length g.before)) g.second ∙ got_at g.before g.x (g.next ∷ g.rest) in
      let a = alike j in
      let x = a.notes (length g.before) g.x there in
      let grows = blocking_grows m (emptied plan) os i j le in
      let here : slice_get (B' i).events (length f.before) ≡ Some f.x = ap (λ xs. slice_get xs (length f.before)) f.second ∙ got_at f.before f.x (f.next ∷ f.rest) in
      let on : slice_get (B' j).events (length f.before) ≡ Some f.x =
      ap (λ xs. slice_get xs (length f.before)) grows.1 ∙ front (B' i).events grows.0 (length f.before) (got_below (B' i).events (length f.before) f.x here) ∙ here in
      let same : x.0 ≡ f.x = some_is x.0 f.x (sym x.1 ∙ ap (slice_get (B' j).events) (sym place) ∙ on) in
      subst (λ z. SameAt (global_space m) z g.x) same x.2

  same_memory : (i j : ℕ) → i ≤ j → (f : FB i) (g : FP j) → Meets i j f g → (f.x).store.memory ≡ (g.x).store.memory
  same_memory i j le f g h = let s = same_call i j le f g h in let st = s.stores in st.memory

  -- ---- it gets as far

  reach : CB n → CP (Bound m n []) → IsPrefix (events_of (B n).events) (events_of (P (Bound m n [])).events)
  reach (inl hb) (inl hp) =
      let a = alike n in
      subst (λ (r : Ran State Note). IsPrefix (events_of r.events) (events_of (P (Bound m n [])).events)) (sym hb.0)
      (subst (λ (r : Ran Held Note). IsPrefix (events_of (B' n).events) (events_of r.events)) (sym hp.0) a.reaches)
  reach (inl hb) (inr g) =
      let a = alike n in
      subst (λ (r : Ran State Note). IsPrefix (events_of r.events) (events_of (P (Bound m n [])).events)) (sym hb.0)
      (short_first w k _ _ _ g (events_of (B' n).events) (few (B' n).events hb.1) a.reaches)
  reach (inr f) (inl hp) =
      let a = alike n in
      let h = a.reaches in
      let c = few (P' (Bound m n [])).events hp.1 in
      let e = ap ce h.1 in
      let on = ce_on (events_of (B' n).events) h.0 in
      let mo = many w k _ _ _ f in
      absurd (omega arith)
  reach (inr f) (inr g) =
      let a = alike n in
      let h = a.reaches in
      let me = meet w k _ _ _ _ _ _ f g h.0 [] (sym h.1 ∙ sym (append-nil (events_of (P' (Bound m n [])).events))) in
      let same = same_made w k _ _ _ _ _ _ f g me (same_memory n (Bound m n []) (bound_above m n) f g me) in
      ([], sym same ∙ sym (append-nil (events_of (B n).events)))

  -- ---- it does nothing else

  meet_here : (f : FB n) (g : FP n) → Meets n n f g
  meet_here f g = let a = alike n in let h = a.follows in meet w k _ _ _ _ _ _ f g [] h.0 (append-nil (events_of (B' n).events) ∙ h.1)

  never : (CB n → CP n → Type 0) → ((B n ≡ B' n) × (calls (B' n).events ≤ k)) → FP n → ⊥
  never Q hb g =
      let a = alike n in
      let h = a.follows in
      let c = few (B' n).events hb.1 in
      let e = ap ce h.1 in
      let on = ce_on (events_of (P' n).events) h.0 in
      let mo = many w k _ _ _ g in
      omega arith

  follow : CB n → CP n → IsPrefix (events_of (P n).events) (events_of (B n).events)
  follow (inl hb) (inl hp) =
      let a = alike n in
      subst (λ (r : Ran State Note). IsPrefix (events_of (P n).events) (events_of r.events)) (sym hb.0)
      (subst (λ (r : Ran Held Note). IsPrefix (events_of r.events) (events_of (B' n).events)) (sym hp.0) a.follows)
  follow (inr f) (inl hp) =
      let a = alike n in
      subst (λ (r : Ran Held Note). IsPrefix (events_of r.events) (events_of (B n).events)) (sym hp.0)
      (short_first w k _ _ _ f (events_of (P' n).events) (few (P' n).events hp.1) a.follows)
  follow (inl hb) (inr g) = absurd (never (λ x y. Unit {0}) hb g)
  follow (inr f) (inr g) =
      let me = meet_here f g in
      let same = same_made w k _ _ _ _ _ _ f g me (same_memory n n (omega arith) f g me) in
      ([], same ∙ sym (append-nil (events_of (P n).events)))

  -- ---- at each event

  abbrev Beside : ℕ → Note → Type 0
  Beside i y = (x : Note) × (slice_get (B n).events i ≡ Some x) × SameAt (global_space m) x y

  -- up to the call the original's notes are those of the emptied plan
  note_up_to : (f : FB n) (i : ℕ) (y : Note) → i ≤ length f.before → slice_get (P' n).events i ≡ Some y → Beside i y
  note_up_to f i y le at =
      let a = alike n in
      let x = a.notes i y at in (
        x.0,
        ap (λ xs. slice_get xs i) f.first ∙ up_to f.before f.x (note (ended f.e) (f.x).store ∷ []) (f.next ∷ f.rest) i le ∙ ap (λ xs. slice_get xs i) (sym f.second) ∙ x.1,
        x.2,
      )

  short_of : (f : FB n) → calls (P' n).events ≤ k → length (P' n).events ≤ length f.before
  short_of f h =
      let a = alike n in
      let s = short w k _ _ _ f (events_of (P' n).events) (few (P' n).events h) a.follows in
      let e = ap length s.1 in
      let l1 = length-map f.before (λ (x : Note). x.event) in
      let l2 = length-map (P' n).events (λ (x : Note). x.event) in
      let l3 = length-append (events_of (P' n).events) s.0 in
      omega arith

  note_at : CB n → CP n → (i : ℕ) (y : Note) → slice_get (P n).events i ≡ Some y → Beside i y
  note_at (inl hb) (inl hp) i y at =
      let a = alike n in
      let x = a.notes i y (ap (λ (r : Ran Held Note). slice_get r.events i) (sym hp.0) ∙ at) in
      (x.0, ap (λ (r : Ran State Note). slice_get r.events i) hb.0 ∙ x.1, x.2)
  note_at (inr f) (inl hp) i y at =
      let at' : slice_get (P' n).events i ≡ Some y = ap (λ (r : Ran Held Note). slice_get r.events i) (sym hp.0) ∙ at in
      let lt = got_below (P' n).events i y at' in
      let le = short_of f hp.1 in
      note_up_to f i y (omega arith) at'
  note_at (inl hb) (inr g) i y at = absurd (never (λ x y. Unit {0}) hb g)
  note_at (inr f) (inr g) i y at = by (two_ways g.before g.x (note (ended g.e) (g.x).store) i y (ap (λ xs. slice_get xs i) (sym g.first) ∙ at))
    where
      by : ((i ≤ length g.before) ⊎ ((i ≡ suc (length g.before)) × (note (ended g.e) (g.x).store ≡ y))) → Beside i y
      by (inl le) =
          let me = meet_here f g in
          let place = same_place w k _ _ _ _ _ _ f g me in
          note_up_to f i y (omega arith)
          (ap (λ xs. slice_get xs i) g.second ∙ up_to g.before g.x (g.next ∷ g.rest) (note (ended g.e) (g.x).store ∷ []) i le ∙ ap (λ xs. slice_get xs i) (sym g.first) ∙ at)
      by (inr h) =
          let me = meet_here f g in
          let place = same_place w k _ _ _ _ _ _ f g me in
          let call = same_call n n (omega arith) f g me in
          let same = same_ends w k _ _ _ _ _ _ f g me (same_memory n n (omega arith) f g me) in
          let z : i ≡ suc (length f.before) = omega (arith, h.0, place) in (
            note (ended f.e) (f.x).store,
            ap (λ xs. slice_get xs i) f.first ∙ ap (slice_get (f.before ++ (f.x ∷ note (ended f.e) (f.x).store ∷ []))) z ∙ got_behind f.before f.x (note (ended f.e) (f.x).store) [],
            subst (λ q. SameAt (global_space m) (note (ended f.e) (f.x).store) q) h.1 (record {
              event = ap (λ q. ended q) same;
              stores = call.stores;
              state = at_calls (ended g.e) (slice_get (g.x).store.globals (global_space m) ≡ Some (V.I32 0))
                  (subst (λ e. AtCalls e (slice_get (g.x).store.globals (global_space m) ≡ Some (V.I32 0))) g.is call.state);
            }),
          )

  -- ---- between events

  abbrev Moment : Type 0
  Moment = (events : List Event) × (at : Store) × IsMoment m plan os n events at × (events ≡ events_of (P n).events) × SameWhole (global_space m) at (store_held (P n).last)

  moment_too : (events : List Event) (at : Store) → ce events ≤ k → CB n → IsMoment m (emptied plan) os n events at → IsMoment m plan os n events at
  moment_too events at le c (inl h) = by (cb h.0)
    where
      by : CB h.0 → IsMoment m plan os n events at
      by (inl hb) = inl (h.0, h.1, h.2 ∙ ap (λ (r : Ran State Note). events_of r.events) (sym hb.0), h.3 ∙ ap (λ (r : Ran State Note). store_of r.last) (sym hb.0))
      by (inr f) = let e = ap ce h.2 in let mo = many w k _ _ _ f in absurd (omega arith)
  moment_too events at le (inl hb) (inr h) =
      inr (h.0, h.1, ap (λ (r : Ran State Note). slice_get r.events h.0) hb.0 ∙ h.2, h.3 ∙ ap (λ (r : Ran State Note). events_of (take (suc h.0) r.events)) (sym hb.0), h.4)
  moment_too events at le (inr f) (inr h) =
      ⊎_elim
      (λ lt.
      inr (
        h.0,
        h.1,
        ap (λ xs. slice_get xs h.0) f.first ∙ up_to f.before f.x (note (ended f.e) (f.x).store ∷ []) (f.next ∷ f.rest) h.0 (omega arith) ∙ ap (λ xs. slice_get xs h.0) (sym f.second) ∙ h.2,
        h.3 ∙ ap (λ xs. events_of (take (suc h.0) xs)) f.second
            ∙ ap events_of (take_below f.before (f.x ∷ f.next ∷ f.rest) (f.x ∷ note (ended f.e) (f.x).store ∷ []) h.0 lt) ∙ ap (λ xs. events_of (take (suc h.0) xs)) (sym f.first),
        h.4,
      ))
      (λ ge.
      let more = take_beyond f.before f.x (f.next ∷ f.rest) h.0 (tells w k _ _ _ f) ge in
      let e = ap ce h.3 in
      let e2 = calls_in_events (take (suc h.0) (B' n).events) in
      let e3 = ap (λ xs. calls (take (suc h.0) xs)) f.second in
      let c = f.count in
      absurd (omega arith))
      (cases_lt h.0 (length f.before))

  moment : CB n → CP n → Moment
  moment c (inl hp) =
      let a = alike n in
      let mo = a.moments in
      let le = few (P' n).events hp.1 in
      let e = ap ce mo.3 in (
        mo.0,
        mo.1,
        moment_too mo.0 mo.1 (omega arith) c mo.2,
        mo.3 ∙ ap (λ (r : Ran Held Note). events_of r.events) (sym hp.0),
        subst (λ (r : Ran Held Note). SameWhole (global_space m) mo.1 (store_held r.last)) (sym hp.0) mo.4,
      )
  moment (inl hb) (inr g) = absurd (never (λ x y. Unit {0}) hb g)
  moment (inr f) (inr g) =
      let me = meet_here f g in
      let same = same_made w k _ _ _ _ _ _ f g me (same_memory n n (omega arith) f g me) in
      let call = same_call n n (omega arith) f g me in (
        events_of (B n).events,
        store_of (B n).last,
        inl (n, omega arith, refl, refl),
        same,
        subst (λ s. SameWhole (global_space m) (store_of (B n).last) s) (sym g.there) (subst (λ s. SameWhole (global_space m) s (g.x).store) (sym f.there) call.stores),
      )

  -- THE RUN, whatever it pokes
  pub poked_alike : RunsAlike m p plan os n
  poked_alike = record { reaches = reach (cb n) (cp (Bound m n [])); follows = follow (cb n) (cp n); notes = note_at (cb n) (cp n); moments = moment (cb n) (cp n) }
