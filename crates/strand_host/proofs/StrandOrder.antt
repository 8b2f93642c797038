-- Whose turn it is: the strand of a program, and the program.
use Rattle.std.proofs.Common.{arith, ◌≡◌, ◌<◌, ◌≤◌, ◌⊎◌, inl, inr, ℕ, zero, suc, List, [], ◌∷◌, ◌++◌, length, map, Option, Some, None, Bool, true, false, slice_get, refl, sym, ap, ◌∙◌, subst}
use Rattle.std.specs.Prelude.{MatchBool}
use Rattle.std.specs.Option.{option_map}
use Rattle.std.proofs.lemmas.Bool.{cases_eq, cases_lt}
use Rattle.std.proofs.lemmas.Option.{same_Some, slice_get-map, slice_get_within}
use Rattle.wa_model.specs.declared.answers.Detach.{Detach}
use Rattle.wa_model.specs.Blocking.{Note}
use Rattle.wa_model.specs.Outside.{Event, answered, called, ended, parked, paused, returned, shown}
use Rattle.world_model.specs.World.{Device, ends_turn}
use Rattle.world_laws.proofs.Places.{item, set_here, set_there}
use Rattle.event_order.specs.Dues.{IsLeast}
use Rattle.strand_laws.specs.StrandWorld.{StrandLine, StrandsInWorld}
use Rattle.strand_laws.specs.ToldStrands.{EndsOnce, IsDue, IsDueNext, ProgramTeller, StrandTeller, TellsStrandTurn, TellsStrands, having_told, starting, told_on}
use Rattle.strand_laws.specs.Weaving.{EndNoTurn, HasTurn, IsDueFirst, due_in, is_ready, now_behind}
use Rattle.strand_laws.specs.Woven.{Told, told_by}
use Rattle.strand_host.specs.Standing.{as_due, dues_of_strands, now_told, unless_over}
use Rattle.strand_host.specs.StrandTelling.{HasDueTurn, IsDueThen}

-- ---- the strand that goes on

-- what was told before makes no difference
pub now_front : (ts : List Told) (u : Told) (us : List Told) → now_told (ts ++ u ∷ us) ≡ now_told (u ∷ us)
now_front [] u us = refl
now_front (t ∷ []) u us = refl
now_front (t ∷ v ∷ ts) u us = now_front (v ∷ ts) u us

abbrev no_notes : List Note
no_notes = []

-- behind a whole turn none does
ended_none : (k : ℕ) (xs : List Note) → EndsOnce xs → now_told (told_by k xs) ≡ None
ended_none k [] h = absurd h
ended_none k (x ∷ []) h = by x.event h
  where
    by : (e : Event) → MatchBool (ends_turn e) (no_notes ≡ []) ⊥ → now_behind k e ≡ None
    by (paused t u) h = refl
    by (ended how) h = refl
    by (called c) h = absurd h
    by (answered c) h = absurd h
    by (parked c) h = absurd h
    by (returned c d) h = absurd h
    by (shown c d) h = absurd h
ended_none k (x ∷ y ∷ ys) h = by (ends_turn x.event) h (ended_none k (y ∷ ys))
  where
    by : (b : Bool) → MatchBool b (y ∷ ys ≡ []) (EndsOnce (y ∷ ys)) → (EndsOnce (y ∷ ys) → now_told (told_by k (y ∷ ys)) ≡ None) → now_told (told_by k (y ∷ ys)) ≡ None
    by true e on = cc
    by false g on = on g

pub turn_none : (ts : List Told) (k : ℕ) (xs : List Note) → EndsOnce xs → now_told (ts ++ told_by k xs) ≡ None
turn_none ts k [] h = absurd h
turn_none ts k (x ∷ xs) h = now_front ts (record { strand = k; note = x }) (told_by k xs) ∙ ended_none k (x ∷ xs) h

-- in the midst of a turn its strand does
open_some : (k : ℕ) (x : Note) (xs : List Note) → EndNoTurn (x ∷ xs) → now_told (told_by k (x ∷ xs)) ≡ Some k
open_some k x [] h = by x.event h.0
  where
    by : (e : Event) → ends_turn e ≡ false → now_behind k e ≡ Some k
    by (paused t u) h = cc
    by (ended how) h = cc
    by (called c) h = refl
    by (answered c) h = refl
    by (parked c) h = refl
    by (returned c d) h = refl
    by (shown c d) h = refl
open_some k x (y ∷ ys) h = open_some k y ys h.1

pub turn_some : (ts : List Told) (k : ℕ) (x : Note) (xs : List Note) → EndNoTurn (x ∷ xs) → now_told (ts ++ told_by k (x ∷ xs)) ≡ Some k
turn_some ts k x xs h = now_front ts (record { strand = k; note = x }) (told_by k xs) ∙ open_some k x xs h

-- .. so behind whole turns none goes on
pub none_goes_on : (gs : List StrandsInWorld) (detaches : List Detach) (ds : List Device) (count : ℕ) (lines : List StrandLine) (tellers : List ProgramTeller) (ds' : List Device)
    → TellsStrands gs detaches ds count lines tellers ds' → (i : ℕ) (t : ProgramTeller) → slice_get tellers i ≡ Some t → now_told t.told ≡ None
none_goes_on gs detaches ds zero lines tellers ds' h i t e = by (slice_get gs i) refl
  where
    at : slice_get (map starting gs) i ≡ Some t
    at = ap (λ (ts : List ProgramTeller). slice_get ts i) (sym h.1) ∙ e

    by : (o : Option StrandsInWorld) → slice_get gs i ≡ o → now_told t.told ≡ None
    by None q =
        let none : None ≡ Some t = sym (slice_get-map starting gs i ∙ ap (option_map starting) q) ∙ at in
        absurd cc
    by (Some g) q = ap (λ (u : ProgramTeller). now_told u.told) (sym (same_Some (starting g) t (sym (slice_get-map starting gs i ∙ ap (option_map starting) q) ∙ at)))
none_goes_on gs detaches ds (suc count) lines tellers ds' h i t e = by (cases_eq i x.program) (none_goes_on gs detaches ds count h.0 h.2 h.3 h.4 i t)
  where
    mid : List ProgramTeller
    mid = h.2

    x : TellsStrandTurn gs detaches (suc count) mid h.3 h.1 tellers ds'
    x = h.5

    after : ProgramTeller
    after = told_on x.t x.strand (having_told x.s x.turn x.met x.answers) x.turn x.is_last

    by : (i ≡ x.program) ⊎ (i ≡ x.program → ⊥) → (slice_get mid i ≡ Some t → now_told t.told ≡ None) → now_told t.told ≡ None
    by (inl is) before =
        let same : after ≡ t = same_Some after t (sym (ap (λ (ts : List ProgramTeller). slice_get ts x.program) x.after ∙ set_here mid x.program after x.t x.there) ∙ ap (slice_get tellers) (sym is) ∙ e) in
        ap (λ (u : ProgramTeller). now_told u.told) (sym same) ∙ turn_none x.t.told x.strand x.turn x.whole
    by (inr other) before = before (sym (set_there mid x.program i after other) ∙ ap (λ (ts : List ProgramTeller). slice_get ts i) (sym x.after) ∙ e)

-- ---- the strand that is due first

ready_is : (b : Bool) (due : ℕ) → is_ready (Some (record { due = due; at = unless_over b })) ≡ true → b ≡ false
ready_is true due e = cc
ready_is false due e = refl

is_it_ready : (b : Bool) (due : ℕ) → b ≡ false → is_ready (Some (record { due = due; at = unless_over b })) ≡ true
is_it_ready true due e = cc
is_it_ready false due e = refl

module _ (ss : List StrandTeller) (k : ℕ) where
  dues_there : (s : StrandTeller) → slice_get ss k ≡ Some s → slice_get (dues_of_strands ss) k ≡ Some (as_due s)
  dues_there s e = slice_get-map as_due ss k ∙ ap (option_map as_due) e

  -- a strand that hasn't ended
  pub strand_ready : (s : StrandTeller) → slice_get ss k ≡ Some s → s.has_ended ≡ false → (is_ready (slice_get (dues_of_strands ss) k) ≡ true) × (due_in (slice_get (dues_of_strands ss) k) ≡ s.due)
  strand_ready s e live = (ap is_ready (dues_there s e) ∙ is_it_ready s.has_ended s.due live, ap due_in (dues_there s e))

  pub ready_strand : is_ready (slice_get (dues_of_strands ss) k) ≡ true
      → (s : StrandTeller) × (slice_get ss k ≡ Some s) × (s.has_ended ≡ false) × (due_in (slice_get (dues_of_strands ss) k) ≡ s.due)
  ready_strand ready = by (slice_get ss k) refl
    where
      by : (o : Option StrandTeller) → slice_get ss k ≡ o → (s : StrandTeller) × (slice_get ss k ≡ Some s) × (s.has_ended ≡ false) × (due_in (slice_get (dues_of_strands ss) k) ≡ s.due)
      by None e =
          let none : is_ready (option_map as_due None) ≡ true = sym (ap is_ready (slice_get-map as_due ss k ∙ ap (option_map as_due) e)) ∙ ready in
          absurd cc
      by (Some s) e = (s, e, ready_is s.has_ended s.due (sym (ap is_ready (dues_there s e)) ∙ ready), ap due_in (dues_there s e))

-- who is due next among all is the strand of its program that is due first
pub first_is : (tellers : List ProgramTeller) (program strand due : ℕ) (t : ProgramTeller) → IsDueNext tellers program strand due → slice_get tellers program ≡ Some t → (k : ℕ)
    → IsDueFirst (dues_of_strands t.strands) k → k ≡ strand
first_is tellers program strand due t next there k first =
    let d = next.is_due in
    let same : d.t ≡ t = same_Some d.t t (sym d.there ∙ there) in
    let here : slice_get t.strands strand ≡ Some d.s = ap (λ (u : ProgramTeller). slice_get u.strands strand) (sym same) ∙ d.strand_there in
    let own = strand_ready t.strands strand d.s here d.unfinished in
    let other = ready_strand t.strands k first.ready in
    let behind = next.least program k other.0.due (record {
      t = t;
      s = other.0;
      there = there;
      strand_there = other.1;
      goes_on = ap (λ (u : ProgramTeller). u.has_ended) (sym same) ∙ d.goes_on;
      unfinished = other.2;
      due = refl;
    }) in
    by (first.least strand own.0) behind other.3 own.1 d.due
  where
    by : {a b n : ℕ} {s : ℕ} → (a < b) ⊎ ((a ≡ b) × (k ≤ strand)) → (due < n) ⊎ ((due ≡ n) × ((program < program) ⊎ ((program ≡ program) × (strand ≤ k)))) → a ≡ n → b ≡ s → s ≡ due → k ≡ strand
    by (inl lt) (inl gt) e f z = omega (arith, lt, gt, e, f, z)
    by (inl lt) (inr q) e f z = let d = q.0 in omega (arith, lt, d, e, f, z)
    by (inr p) (inl gt) e f z = let d = p.0 in omega (arith, d, gt, e, f, z)
    by (inr p) (inr (q, inl lt)) e f z = omega (arith, lt)
    by (inr p) (inr (q, inr r)) e f z = let a = p.1 in let b = r.1 in omega (arith, a, b)

-- ---- the program that is due first

-- a program that hasn't ended, whose turns are whole, is due as its first strand
first_turn : (t : ProgramTeller) (due : ℕ) (d : HasDueTurn t due) → now_told t.told ≡ None → IsDueFirst (dues_of_strands t.strands) d.strand
first_turn t due d none = subst (λ (o : Option ℕ). HasTurn o (dues_of_strands t.strands) d.strand) none d.turn

not_over : (t : ProgramTeller) (o : Option ℕ) → IsDueThen t o → t.has_ended ≡ false → (due : ℕ) × (o ≡ Some due) × HasDueTurn t due
not_over t None d live = let both : true ≡ false = sym d ∙ live in absurd cc
not_over t (Some due) d live = (due, refl, d)

-- of two strands of one program
first_within : (t : ProgramTeller) (d : ℕ) (v : HasDueTurn t d) → now_told t.told ≡ None → (k : ℕ) (s : StrandTeller) (n : ℕ) → slice_get t.strands k ≡ Some s → s.has_ended ≡ false → s.due ≡ n
    → (d < n) ⊎ ((d ≡ n) × (v.strand ≤ k))
first_within t d v none k s n there live due_is =
    let other = strand_ready t.strands k s there live in
    let mine = (strand_ready t.strands v.strand v.s v.there v.unfinished).1 ∙ v.due_is in
    by ((first_turn t d v none).least k other.0) other.1 mine
  where
    by : {a b : ℕ} → (a < b) ⊎ ((a ≡ b) × (v.strand ≤ k)) → b ≡ s.due → a ≡ d → (d < n) ⊎ ((d ≡ n) × (v.strand ≤ k))
    by (inl lt) e f = inl (omega (arith, lt, e, f, due_is))
    by (inr q) e f = let x = q.0 in (inr (omega (arith, x, e, f, due_is), q.1))

-- the triple of a strand, which is no less
abbrev Behind : (program due strand p k n : ℕ) → Type 0
Behind program due strand p k n = (due < n) ⊎ ((due ≡ n) × ((program < p) ⊎ ((program ≡ p) × (strand ≤ k))))

module _ {X : Type 0} (due_at : X → Option ℕ) (xs : List X) (tellers : List ProgramTeller) (wide : length xs ≡ length tellers)
    (each : (i : ℕ) (t : ProgramTeller) (x : X) → slice_get tellers i ≡ Some t → slice_get xs i ≡ Some x → IsDueThen t (due_at x) × (now_told t.told ≡ None))
    (program due : ℕ) (least : IsLeast (map due_at xs) program due) where
  due_there : (i : ℕ) (x : X) → slice_get xs i ≡ Some x → slice_get (map due_at xs) i ≡ Some (due_at x)
  due_there i x e = slice_get-map due_at xs i ∙ ap (option_map due_at) e

  record Chosen : Type 0 where
    pub t : ProgramTeller
    pub there : slice_get tellers program ≡ Some t
    pub turn : HasDueTurn t due
    pub none : now_told t.told ≡ None

  chosen : Chosen
  chosen = by (slice_get xs program) refl
    where
      by : (o : Option X) → slice_get xs program ≡ o → Chosen
      by None e =
          let none : None ≡ Some (Some due) = sym (slice_get-map due_at xs program ∙ ap (option_map due_at) e) ∙ least.there in
          absurd cc
      by (Some x) e =
          let t = item tellers program (omega (arith, slice_get_within xs program x e, wide)) in
          let so = each program t.0 x t.1 e in
          let is : due_at x ≡ Some due = same_Some (due_at x) (Some due) (sym (due_there program x e) ∙ least.there) in
          record { t = t.0; there = t.1; turn = subst (IsDueThen t.0) is so.0; none = so.1 }

  -- so its strand that is due first is due next among all
  next_of : (c : Chosen) → IsDueNext tellers program c.turn.strand due
  next_of c =
      record {
        is_due = record {
          t = c.t;
          s = c.turn.s;
          there = c.there;
          strand_there = c.turn.there;
          goes_on = c.turn.goes_on;
          unfinished = c.turn.unfinished;
          due = c.turn.due_is;
        };
        least = least_of;
      }
    where
      own : (p k n : ℕ) → p ≡ program → IsDue tellers p k n → Behind program due c.turn.strand p k n
      own p k n same d =
          let t_is : d.t ≡ c.t = same_Some d.t c.t (sym d.there ∙ ap (slice_get tellers) same ∙ c.there) in
          let there : slice_get c.t.strands k ≡ Some d.s = ap (λ (u : ProgramTeller). slice_get u.strands k) (sym t_is) ∙ d.strand_there in
          by (first_within c.t due c.turn c.none k d.s n there d.unfinished d.due)
        where
          by : (due < n) ⊎ ((due ≡ n) × (c.turn.strand ≤ k)) → Behind program due c.turn.strand p k n
          by (inl lt) = inl lt
          by (inr q) = inr (q.0, inr (sym same, q.1))

      both : (p k n m f : ℕ) → (p ≡ program → ⊥) → (due < m) ⊎ ((due ≡ m) × (program ≤ p)) → (m < n) ⊎ ((m ≡ n) × (f ≤ k)) → Behind program due c.turn.strand p k n
      both p k n m f other (inl a) (inl b) = inl (omega (arith, a, b))
      both p k n m f other (inl a) (inr b) = let e = b.0 in inl (omega (arith, a, e))
      both p k n m f other (inr a) (inl b) = let e = a.0 in inl (omega (arith, e, b))
      both p k n m f other (inr a) (inr b) = inr (a.0 ∙ b.0, inl (apart a.1 (cases_lt program p)))
        where
          apart : program ≤ p → (program < p) ⊎ (p ≤ program) → program < p
          apart le (inl lt) = lt
          apart le (inr ge) = absurd (other (omega (arith, le, ge)))

      others : (p k n : ℕ) → (p ≡ program → ⊥) → IsDue tellers p k n → Behind program due c.turn.strand p k n
      others p k n other d =
          let x = item xs p (omega (arith, slice_get_within tellers p d.t d.there, wide)) in
          let so = each p d.t x.0 d.there x.1 in
          let v = not_over d.t (due_at x.0) so.0 d.goes_on in
          both p k n v.0 v.2.strand other (least.least p v.0 (due_there p x.0 x.1 ∙ ap (λ (o : Option ℕ). Some o) v.1))
          (first_within d.t v.0 v.2 so.1 k d.s n d.strand_there d.unfinished d.due)

      least_of : (p k n : ℕ) → IsDue tellers p k n → Behind program due c.turn.strand p k n
      least_of p k n d = elim (cases_eq p program) [ inl same ↦ own p k n same d | inr other ↦ others p k n other d ]

  pub chosen_next : (strand : ℕ) × IsDueNext tellers program strand due
  chosen_next = (chosen.turn.strand, next_of chosen)
