-- The beginning of a strand's turn goes on to its end, and the world to its own.
use Rattle.std.proofs.Common.{arith, ◌≡◌, ◌<◌, ◌≤◌, ◌⊎◌, inl, inr, ℕ, zero, suc, ◌+◌, List, [], ◌∷◌, ◌++◌, length, Some, Bool, true, false, refl, sym, ap, ◌∙◌, subst, append_assoc, append-nil}
use Rattle.std.proofs.Common.{eq-eqb, ne_eqb}
use Rattle.std.specs.Prelude.{map, nat_eq, slice_get, slice_set, if◌then◌else◌}
use Rattle.std.specs.List.{AllZip}
use Rattle.std.proofs.lemmas.List.Elements.{All-head, All-tail}
use Rattle.wa_model.specs.declared.answers.Detach.{Detach}
use Rattle.wa_model.specs.Behaves.{IsPrefix}
use Rattle.wa_model.specs.Blocking.{Note, events_of}
use Rattle.wa_model.specs.Outside.{Event, answered, called, ended, parked, paused, returned, shown}
use Rattle.wa_model.specs.Plan.{Outcome}
use Rattle.world_model.specs.World.{CallsMeet, Device, Look, Program, detached, ends_turn, events_with_looks, looks_after}
use Rattle.world_laws.specs.Originals.{new_calls}
use Rattle.world_laws.proofs.Meeting.{calls_take}
use Rattle.strand_laws.proofs.Blocks.{lies_within, none_is, set_get, the_same}
use Rattle.strand_laws.proofs.KnownTellers.{Known, known_told}
use Rattle.strand_laws.proofs.NextTurn.{Next, outcomes_with, turn_on}
use Rattle.strand_laws.proofs.StrandNotes.{map_both, stories_of}
use Rattle.strand_laws.proofs.ToldGoesOn.{is_none, met_back, met_with, rest_is, told_goes_on_met}
use Rattle.strand_laws.proofs.ToldStrands.{calls_longer, zip_get, zip_set, zip_unset}
use Rattle.strand_laws.proofs.ToldWorlds.{HaveMet}
use Rattle.strand_laws.proofs.TurnTaken.{dues_back, dues_get, dues_of}
use Rattle.strand_laws.specs.StrandNotes.{BegunStrandsBegin, OnStory, TellsOnStrands}
use Rattle.strand_laws.specs.StrandWorld.{HeldStrands, ProtocolStrandWorld, Staged, StrandLine, StrandsInWorld, looks_if, strand_program}
use Rattle.strand_laws.specs.Strands.{strand_at}
use Rattle.strand_laws.specs.ToldStrands.{HasStory, IsDue, IsDueNext, IsRest, ProgramTeller, StrandTeller, TellsStrandTurn, TellsStrands}
use Rattle.strand_laws.specs.ToldStrands.{having_told, line_of, met_and, told_on}
use Rattle.strand_laws.specs.Weaving.{EndNoTurn, HaveStrands, IsDueFirst, due_in, is_ready}
use Rattle.strand_laws.specs.Woven.{Told, told_by}

-- ---- the strand is due first in its program

first_of : (tellers : List ProgramTeller) (p k due : ℕ) (t : ProgramTeller) (s : StrandTeller) → slice_get tellers p ≡ Some t → slice_get t.strands k ≡ Some s → s.due ≡ due
    → IsDueNext tellers p k due → IsDueFirst (dues_of t.strands) k
first_of tellers p k due t s there strand_there is next = record { ready = ap is_ready (dues_get t.strands k s strand_there) ∙ live s.has_ended unfinished; least = least }
  where
    d : IsDue tellers p k due
    d = next.is_due

    same_t : d.t ≡ t
    same_t = the_same d.t t (sym d.there ∙ there)

    same_s : d.s ≡ s
    same_s = the_same d.s s (sym d.strand_there ∙ ap (λ (u : ProgramTeller). slice_get u.strands k) same_t ∙ strand_there)

    unfinished : s.has_ended ≡ false
    unfinished = ap (λ (v : StrandTeller). v.has_ended) (sym same_s) ∙ d.unfinished

    live : (b : Bool) → b ≡ false → is_ready (slice_get (dues_of (record s { has_ended = b } ∷ [])) 0) ≡ true
    live false e = refl
    live true e = let no_way : ⊥ = cc in absurd no_way

    least : (j : ℕ) → is_ready (slice_get (dues_of t.strands) j) ≡ true
        → (due_in (slice_get (dues_of t.strands) k) < due_in (slice_get (dues_of t.strands) j)) ⊎ ((due_in (slice_get (dues_of t.strands) k) ≡ due_in (slice_get (dues_of t.strands) j)) × (k ≤ j))
    least j e =
        let f = dues_back t.strands j e in
        let mine = ap due_in (dues_get t.strands k s strand_there) ∙ is in
        let other = ap due_in (dues_get t.strands j f.0 f.1) in
        by mine other
        (next.least p j f.0.due (record { t = t; s = f.0; there = there; strand_there = f.1; goes_on = ap (λ (u : ProgramTeller). u.has_ended) (sym same_t) ∙ d.goes_on; unfinished = f.2; due = refl }))
      where
        by : {a b c : ℕ} → a ≡ due → b ≡ c → (due < c) ⊎ ((due ≡ c) × ((p < p) ⊎ ((p ≡ p) × (k ≤ j)))) → (a < b) ⊎ ((a ≡ b) × (k ≤ j))
        by e1 e2 (inl q) = inl (omega (arith, e1, e2, q))
        by e1 e2 (inr (q, inl lt)) = let no_way : ⊥ = omega (arith, lt) in absurd no_way
        by e1 e2 (inr (q, inr z)) = inr (omega (arith, e1, e2, q), z.1)

-- ---- lists

-- these behind what the strand of this number met
abbrev singles : (strand : ℕ) → List Outcome → List (List Outcome)
singles zero os = os ∷ []
singles (suc k) os = [] ∷ singles k os

singles_met : (ss : List StrandTeller) (k : ℕ) (s : StrandTeller) (turn : List Note) (os : List Outcome) (answers : _) → slice_get ss k ≡ Some s
    → met_and ss (singles k os) ≡ met_and (slice_set ss k (having_told s turn os answers)) []
singles_met [] k s turn os answers e = none_is s e
singles_met (t ∷ ss) zero s turn os answers e = ap (λ (u : StrandTeller). (u.met ++ os) ∷ met_and ss []) (the_same t s e)
singles_met (t ∷ ss) (suc k) s turn os answers e =
    ap (λ (xs : List Outcome). xs ∷ met_and ss (singles k os)) (append-nil t.met) ∙ ap (λ (xss : List (List Outcome)). t.met ∷ xss) (singles_met ss k s turn os answers e)

-- the events of a turn's beginning have nothing shown behind them
open_shows : (looks : List Look) (xs ms : List Note) → EndNoTurn xs → events_with_looks looks (xs ++ ms) ≡ events_of xs ++ events_with_looks looks ms
open_shows looks [] ms h = refl
open_shows looks (x ∷ xs) ms h = by x.event h.0 (open_shows looks xs ms h.1)
  where
    no : {A : Type 0} → true ≡ false → A
    no e = let no_way : ⊥ = cc in absurd no_way

    by : (e : Event) → ends_turn e ≡ false → events_with_looks looks (xs ++ ms) ≡ events_of xs ++ events_with_looks looks ms
        → (x.event ∷ looks_after looks x e) ++ events_with_looks looks (xs ++ ms) ≡ x.event ∷ (events_of xs ++ events_with_looks looks ms)
    by (called c) q r = ap (λ (es : List Event). x.event ∷ es) r
    by (answered c) q r = ap (λ (es : List Event). x.event ∷ es) r
    by (parked c) q r = ap (λ (es : List Event). x.event ∷ es) r
    by (returned c d) q r = ap (λ (es : List Event). x.event ∷ es) r
    by (shown c d) q r = ap (λ (es : List Event). x.event ∷ es) r
    by (paused c d) q r = no q
    by (ended c) q r = no q

some_strand : (qs : List StrandsInWorld) (p : ℕ) (q : StrandsInWorld) → HaveStrands qs → slice_get qs p ≡ Some q → 0 < length q.program.strands
some_strand [] p q h e = none_is q e
some_strand (u ∷ qs) zero q h e = subst (λ (v : StrandsInWorld). 0 < length v.program.strands) (the_same u q e) (All-head (λ (v : StrandsInWorld). 0 < length v.program.strands) u qs h)
some_strand (u ∷ qs) (suc p) q h e = some_strand qs p q (All-tail (λ (v : StrandsInWorld). 0 < length v.program.strands) u qs h) e

more_behind : (xs ys : List Told) → 0 < length ys → 0 < length (xs ++ ys)
more_behind [] ys lt = lt
more_behind (x ∷ xs) ys lt = omega arith

-- ---- the turn goes on

module _ (gs : List StrandsInWorld) (detaches : List Detach) (ds ds' : List Device) (number p k due : ℕ) (lines : List StrandLine) (tellers : List ProgramTeller) (some : HaveStrands gs)
    (h : TellsOnStrands gs detaches ds number p k due lines tellers ds') (on : AllZip OnStory gs tellers) where
  abbrev g : StrandsInWorld
  g = h.g

  abbrev t : ProgramTeller
  t = h.t

  abbrev s : StrandTeller
  s = h.s

  abbrev es : List Device
  es = detached (suc number) detaches h.es

  abbrev s1 : StrandTeller
  s1 = having_told s h.turn h.met h.answers

  abbrev t1 : ProgramTeller
  t1 = told_on t k s1 h.turn false

  on_here : OnStory g t1
  on_here = zip_get OnStory gs tellers p g t1 on h.is_program (ap (λ (ts : List ProgramTeller). slice_get ts p) h.after ∙ set_get h.mid p t1 t h.there)

  abbrev rest : List Told
  rest = (on_here.begins []).0

  story : HeldStrands g (met_and t1.strands []) ((t.told ++ told_by k h.turn) ++ rest)
  story = (on_here.begins []).1

  some_rest : 0 < length rest
  some_rest = (on_here.begins []).2

  goes_on : t.has_ended ≡ false
  goes_on = let d = h.next.is_due in ap (λ (u : ProgramTeller). u.has_ended) (sym (the_same d.t t (sym d.there ∙ h.there))) ∙ d.goes_on

  singles_are : met_and t.strands (singles k h.met) ≡ met_and t1.strands []
  singles_are = singles_met t.strands k s h.turn h.met h.answers h.strand_there

  story_before : HasStory g t
  story_before = record {
    rest = told_by k h.turn ++ rest;
    more = singles k h.met;
    story = subst (λ (oss : List (List Outcome)). HeldStrands g oss (t.told ++ (told_by k h.turn ++ rest))) (sym singles_are) (sym (append_assoc t.told (told_by k h.turn) rest) ∙ story);
    is_rest = subst (λ b. IsRest b (told_by k h.turn ++ rest)) (sym goes_on) (more_behind (told_by k h.turn) rest some_rest);
  }

  stories_mid : AllZip HasStory gs h.mid
  stories_mid = zip_unset HasStory gs h.mid p g t t1 (subst (AllZip HasStory gs) h.after (stories_of gs tellers on)) h.is_program h.there story_before

  known : Known g t
  known = zip_get Known gs h.mid p g t (known_told gs detaches ds number h.before h.mid h.es h.whole) h.is_program h.there

  first : IsDueFirst (dues_of t.strands) k
  first = first_of h.mid p k due t s h.there h.strand_there h.due_is h.next

  inside : k < length t.strands
  inside = lies_within t.strands k s h.strand_there

  abbrev asks : Program
  asks = strand_program g [] k (strand_at g.program k)

  with_is : (os : List Outcome) (turn : List Note) (answers : _)
      → met_and (slice_set t.strands k (having_told s turn os answers)) [] ≡ outcomes_with g t known (some_strand gs p g some h.is_program) k first inside asks s.answers h.turn es ds' os
  with_is os turn answers =
      met_with (λ j. if nat_eq j k then os else []) os 0 k k t.strands s turn answers (let z : k ≡ 0 + k = omega arith in z)
      (ap (λ b. if b then os else []) (eq-eqb k k refl)) (λ j ne. ap (λ b. if b then os else []) (ne_eqb j k ne)) h.strand_there

  counted : new_calls h.turn ≡ length h.met
  counted =
      let c = calls_take asks h.turn h.met s.answers es [] h.answers ds' h.calls in
      let a = ap length (c.1 ∙ append-nil c.0) in
      let b = c.2 in omega (arith, a, b)

  from : (n : Next g t known (some_strand gs p g some h.is_program) k first inside asks s.answers h.turn es ds') × IsPrefix h.met n.outcomes
  from =
      turn_on g t known (some_strand gs p g some h.is_program) k first inside asks s.answers h.turn es ds' h.met h.answers rest
      (subst (λ (oss : List (List Outcome)). HeldStrands g oss ((t.told ++ told_by k h.turn) ++ rest)) (with_is h.met h.turn h.answers) story) h.calls counted h.goes_on
      (more_behind (told_by k h.turn) rest some_rest)

  abbrev n : Next g t known (some_strand gs p g some h.is_program) k first inside asks s.answers h.turn es ds'
  n = from.0

  abbrev is_last : Bool
  is_last = is_none n.rest

  abbrev s' : StrandTeller
  s' = having_told s n.turn n.outcomes n.left

  abbrev t' : ProgramTeller
  t' = told_on t k s' n.turn is_last

  story_then : HasStory g t'
  story_then = record {
    rest = n.rest;
    more = [];
    story = subst (λ (oss : List (List Outcome)). HeldStrands g oss (t'.told ++ n.rest)) (sym (with_is n.outcomes n.turn n.left)) n.story;
    is_rest = rest_is n.rest;
  }

  abbrev looks : List Look
  looks = looks_if is_last g.looks

  abbrev told_lines : List StrandLine
  told_lines = map (line_of s.due p k) (events_with_looks looks n.turn)

  turn : TellsStrandTurn gs detaches (suc number) h.mid h.es told_lines (slice_set h.mid p t') ds'
  turn = record {
    program = p;
    strand = k;
    g = g;
    t = t;
    s = s;
    is_program = h.is_program;
    there = h.there;
    strand_there = h.strand_there;
    next = subst (λ d. IsDueNext h.mid p k d) (sym h.due_is) h.next;
    turn = n.turn;
    whole = n.whole;
    is_last = is_last;
    met = n.outcomes;
    answers = n.left;
    calls = subst (λ (os : List Outcome). CallsMeet (strand_program g looks k (strand_at g.program k)) n.turn os s.answers es [] n.left ds') (append-nil n.outcomes)
        (calls_longer asks (strand_program g looks k (strand_at g.program k)) (record { imports = refl; binds = refl }) [] n.turn n.outcomes s.answers es [] n.left ds' n.calls);
    made = refl;
    after = refl;
  }

  -- what is told behind the beginning
  abbrev behind : List StrandLine
  behind = map (line_of due p k) (events_with_looks looks n.begun.0)

  lines_are : h.before ++ told_lines ≡ lines ++ behind
  lines_are =
      ap (λ d. h.before ++ map (line_of d p k) (events_with_looks looks n.turn)) h.due_is
      ∙ ap (λ (ns : List Note). h.before ++ map (line_of due p k) (events_with_looks looks ns)) n.begun.1
      ∙ ap (λ (xs : List Event). h.before ++ map (line_of due p k) xs) (open_shows looks h.turn n.begun.0 h.goes_on)
      ∙ ap (λ (ls : List StrandLine). h.before ++ ls) (map_both (line_of due p k) (events_of h.turn) (events_with_looks looks n.begun.0))
      ∙ sym (append_assoc h.before (map (line_of due p k) (events_of h.turn)) behind)
      ∙ ap (λ (ls : List StrandLine). ls ++ behind) (sym h.made)

  -- what the turn's calls have met begins what they meet
  met_before : (staged : List Staged) → HaveMet (slice_set h.mid p t') staged → HaveMet tellers staged
  met_before staged m =
      subst (λ (ts : List ProgramTeller). HaveMet ts staged) (sym h.after)
      (met_back h.mid p k t t1 t' s s1 s' h.there h.strand_there refl refl
      (from.1.0, ap (λ (l : List Outcome). s.met ++ l) from.1.1 ∙ sym (append_assoc s.met h.met from.1.0)) staged m)

  ends : (more : List StrandLine) × (last : List Device) × (w : ProtocolStrandWorld gs detaches ds (lines ++ more) last) × HaveMet tellers w.staged
  ends =
      let now : TellsStrands gs detaches ds (suc number) (h.before ++ told_lines) (slice_set h.mid p t') ds' = (h.before, told_lines, h.mid, h.es, h.whole, turn, refl) in
      let r = told_goes_on_met gs detaches ds (suc number) (h.before ++ told_lines) (slice_set h.mid p t') ds' some now (zip_set HasStory gs h.mid p g t' stories_mid h.is_program story_then) in
      let whole =
      subst (λ (ls : List StrandLine). (w : ProtocolStrandWorld gs detaches ds ls r.1) × HaveMet (slice_set h.mid p t') w.staged)
      (ap (λ (ls : List StrandLine). ls ++ r.0) lines_are ∙ append_assoc lines behind r.0) (r.2, r.3) in
      (behind ++ r.0, r.1, whole.0, met_before whole.0.staged whole.1)

-- the beginning of a turn goes on to an end, in which calls meet what they met
pub begun_begin_met : (gs : List StrandsInWorld) (detaches : List Detach) (ds ds' : List Device) (number p k due : ℕ) (lines : List StrandLine) (tellers : List ProgramTeller) → HaveStrands gs
    → TellsOnStrands gs detaches ds number p k due lines tellers ds' → AllZip OnStory gs tellers
    → (more : List StrandLine) × (last : List Device) × (w : ProtocolStrandWorld gs detaches ds (lines ++ more) last) × HaveMet tellers w.staged
begun_begin_met gs detaches ds ds' number p k due lines tellers some h on = ends gs detaches ds ds' number p k due lines tellers some h on

pub begun_begin : BegunStrandsBegin
begun_begin gs detaches ds ds' number p k due lines tellers some h on =
    let r = begun_begin_met gs detaches ds ds' number p k due lines tellers some h on in (r.0, r.1, r.2)
