-- Where a program with strands stands, its strands are on their story, and it is due as they are.
use Rattle.std.proofs.Common.{arith, ◌≡◌, ◌<◌, ◌≤◌, ◌⊎◌, inl, inr, ℕ, List, length, Option, Some, None, Bool, true, false, slice_get, refl, sym, ap, ◌∙◌, subst}
use Rattle.std.specs.Option.{unwrap_or}
use Rattle.std.proofs.lemmas.Option.{same_Some, slice_get_within}
use Rattle.wa_model.specs.Protocol.{Held}
use Rattle.event_order.specs.Dues.{IsLeast}
use Rattle.host_laws.specs.Places.{Place}
use Rattle.interp.specs.declared.instance.Instance.{Instance}
use Rattle.strand_laws.specs.StrandNotes.{OnStory}
use Rattle.strand_laws.specs.StrandWorld.{StrandsInWorld}
use Rattle.strand_laws.specs.ToldStrands.{ProgramTeller, StrandTeller, starting}
use Rattle.strand_laws.specs.Weaving.{HasTurn, IsDueFirst, due_in}
use Rattle.strand_laws.specs.Woven.{Thread}
use Rattle.strand_host.specs.declared.program.State.{State}
use Rattle.strand_host.specs.declared.program.State.TheVariants.{Between, Failed, Fresh, Lost, Over, Runs}
use Rattle.strand_host.specs.declared.program.StrandProgram.{StrandProgram}
use Rattle.strand_host.specs.declared.strands.Strand.{Strand}
use Rattle.strand_host.specs.Standing.{all_at_start, dues_of_strands, now_told}
use Rattle.strand_host.specs.StrandPrograms.{AtPlace, BetweenAt, EndedAt, FollowsStrands, FreshAt, IsDueThen, IsFirstDue, Row, RowIs, StandsSo, Stock, due_at, stock_of}
use Rattle.strand_host.specs.StrandTelling.{HasDueTurn, IsDueThen as IsDueSo, IsToldSo}
use Rattle.strand_host.proofs.StandingStories.{between_is_on_story, turn_is_on_story, whole_is_on_story}
use Rattle.strand_host.proofs.StandingStart.{first_turn_begins}
use Rattle.strand_host.proofs.StrandOrder.{ready_strand, strand_ready}

-- ---- the strand that is due first

-- when a strand is due, as it is known
abbrev due_if : Bool → ℕ → Option ℕ
due_if true due = None
due_if false due = Some due

due_if_is : (b : Bool) (n due : ℕ) → due_if b n ≡ Some due → (b ≡ false) × (n ≡ due)
due_if_is true n due e = let no_way : ⊥ = cc in absurd no_way
due_if_is false n due e = (refl, same_Some n due e)

-- all strands are due as they are known
abbrev DueSo : (count : ℕ) → List StrandTeller → List (Option ℕ) → Type 0
DueSo count ss dues = (i : ℕ) → i < count → (s : StrandTeller) × (slice_get ss i ≡ Some s) × (slice_get dues i ≡ Some (due_if s.has_ended s.due))

module _ (count : ℕ) (ss : List StrandTeller) (dues : List (Option ℕ)) (many : length ss ≡ count) (as_many : length dues ≡ count) (so : DueSo count ss dues) (k due : ℕ) (least : IsLeast dues k due) where
  due_strand : (s : StrandTeller) × (slice_get ss k ≡ Some s) × (s.has_ended ≡ false) × (s.due ≡ due)
  due_strand =
      let h = so k (omega (arith, slice_get_within dues k (Some due) least.there, as_many)) in
      let is = due_if_is h.0.has_ended h.0.due due (same_Some _ _ (sym h.2 ∙ least.there)) in
      (h.0, h.1, is.0, is.1)

  due_first : IsDueFirst (dues_of_strands ss) k
  due_first =
      let s = due_strand in
      let own = strand_ready ss k s.0 s.1 s.2 in
      record { ready = own.0; least = λ j ready. later own.1 s.3 j (ready_strand ss j ready) }
    where
      later : due_in (slice_get (dues_of_strands ss) k) ≡ due_strand.0.due → due_strand.0.due ≡ due → (j : ℕ)
          → (s : StrandTeller) × (slice_get ss j ≡ Some s) × (s.has_ended ≡ false) × (due_in (slice_get (dues_of_strands ss) j) ≡ s.due)
          → (due_in (slice_get (dues_of_strands ss) k) < due_in (slice_get (dues_of_strands ss) j)) ⊎ ((due_in (slice_get (dues_of_strands ss) k) ≡ due_in (slice_get (dues_of_strands ss) j)) × (k ≤ j))
      later own is j s =
          let h = so j (omega (arith, slice_get_within ss j s.0 s.1, many)) in
          let same : h.0 ≡ s.0 = same_Some h.0 s.0 (sym h.1 ∙ s.1) in
          let there : slice_get dues j ≡ Some (Some s.0.due) = h.2 ∙ ap (λ (u : StrandTeller). Some (due_if u.has_ended u.due)) same ∙ ap (λ (b : Bool). Some (due_if b s.0.due)) s.2 in
          elim (least.least j s.0.due there) [
            | inl lt ↦ inl (let e = own ∙ is in let f = s.3 in omega (arith, lt, e, f))
            | inr q ↦ inr (own ∙ is ∙ q.0 ∙ sym s.3, q.1)
          ]

-- by the rows of a program
rows_due : (g : StrandsInWorld) (t : ProgramTeller) (x : Stock) (ts : List (Thread Held)) (low count : ℕ) → ((i : ℕ) → i < count → Row g t x ts low i) → DueSo count t.strands x.dues
rows_due g t x ts low count rows i lt =
    let r = rows i lt in
    (r.teller, r.teller_is, r.due_is ∙ ap (λ (o : Option ℕ). Some o) (by r.slot r.due r.teller r.thread r.row))
  where
    by : (slot : Option Strand) (due : Option ℕ) (s : StrandTeller) (th : Thread Held) → RowIs g i x.setting low slot due s th → due ≡ due_if s.has_ended s.due
    by None due s th w = w.1 ∙ ap (λ (b : Bool). due_if b s.due) (sym w.0)
    by (Some z) due s th w = w.1 ∙ ap (λ (b : Bool). due_if b s.due) (sym w.0.unfinished)

-- whose turn it is between turns
turn_then : (t : ProgramTeller) (due k : ℕ) → t.has_ended ≡ false → now_told t.told ≡ None → (s : StrandTeller) × (slice_get t.strands k ≡ Some s) × (s.has_ended ≡ false) × (s.due ≡ due)
    → IsDueFirst (dues_of_strands t.strands) k → HasDueTurn t due
turn_then t due k live none s first = record {
  goes_on = live;
  strand = k;
  s = s.0;
  there = s.1;
  unfinished = s.2;
  turn = subst (λ (o : Option ℕ). HasTurn o (dues_of_strands t.strands) k) (sym none) first;
  due_is = s.3;
}

-- ---- where a program stands

fresh_so : (g : StrandsInWorld) (t : ProgramTeller) (x : Stock) (due : Option ℕ) → FreshAt g t x → t.has_ended ≡ false → IsFirstDue x.dues due → IsToldSo g t due
fresh_so g t x due f live first = record {
  story = subst (λ (u : ProgramTeller). OnStory g u) (sym f.told)
      (turn_is_on_story g (starting g) g.steps 0 0 true _ _ (all_at_start g.program) (first_turn_begins g f.is.some) refl);
  some = f.is.some;
  few = f.is.few;
  few_steps = f.is.few_steps;
  due_is = by due first;
}
  where
    so : DueSo (length g.program.strands) t.strands x.dues
    so = rows_due g t x (all_at_start g.program) f.low (length g.program.strands) f.rows

    none : now_told t.told ≡ None
    none = ap (λ (u : ProgramTeller). now_told u.told) f.told

    -- the first strand is due
    some_due : (r : Row g t x (all_at_start g.program) f.low 0) → (slot : Option Strand) → slot ≡ Some f.first → RowIs g 0 x.setting f.low slot r.due r.teller r.thread
        → ((i due : ℕ) → slice_get x.dues i ≡ Some (Some due) → ⊥) → ⊥
    some_due r None e w never = cc
    some_due r (Some z) e w never = never 0 r.teller.due (r.due_is ∙ ap (λ (o : Option ℕ). Some o) w.1)

    by : (due : Option ℕ) → IsFirstDue x.dues due → IsDueSo t due
    by None never = let r = f.rows 0 f.is.some in absurd (some_due r r.slot (same_Some r.slot (Some f.first) (sym r.slot_is ∙ f.first_is)) r.row never)
    by (Some d) h =
        turn_then t d h.0 live none (due_strand (length g.program.strands) t.strands x.dues f.is.tellers f.is.dues so h.0 d h.1)
        (due_first (length g.program.strands) t.strands x.dues f.is.tellers f.is.dues so h.0 d h.1)

between_so : (g : StrandsInWorld) (t : ProgramTeller) (x : Stock) (instance : Instance) (due : Option ℕ) → BetweenAt g t x instance → t.has_ended ≡ false → IsFirstDue x.dues due → IsToldSo g t due
between_so g t x instance None b live first = absurd (b.some_due first)
between_so g t x instance (Some d) b live first = record {
  story = between_is_on_story g t x.steps_left _ b.ts first.0 b.between ahead live;
  some = b.is.some;
  few = b.is.few;
  few_steps = b.is.few_steps;
  due_is = turn_then t d first.0 live b.between.no_turn (due_strand (length g.program.strands) t.strands x.dues b.is.tellers b.is.dues so first.0 d first.1) ahead;
}
  where
    so : DueSo (length g.program.strands) t.strands x.dues
    so = rows_due g t x b.ts b.low (length g.program.strands) b.rows

    ahead : IsDueFirst (dues_of_strands t.strands) first.0
    ahead = due_first (length g.program.strands) t.strands x.dues b.is.tellers b.is.dues so first.0 d first.1

turn_so : (g : StrandsInWorld) (t : ProgramTeller) (x : Stock) (k : ℕ) (s : Strand) (starts : Bool) (place : Place) (due : Option ℕ) → AtPlace g t x k s starts place → t.has_ended ≡ false
    → due ≡ due_at k x.dues → IsToldSo g t due
turn_so g t x k s starts place due a live is =
    subst (λ (o : Option ℕ). IsToldSo g t o) (sym (is ∙ ap (λ (o : Option (Option ℕ)). unwrap_or o None) a.due)) (record {
      story = turn_is_on_story g t x.steps_left k a.teller.due starts a.ready a.held a.ts a.turn live;
      some = a.is.some;
      few = a.is.few;
      few_steps = a.is.few_steps;
      due_is = record { goes_on = live; strand = k; s = a.turn.s; there = a.turn.there; unfinished = a.turn.unfinished; turn = a.turn.turn; due_is = a.turn.due_is };
    })

ended_so : (g : StrandsInWorld) (t : ProgramTeller) (due : Option ℕ) → EndedAt g t → due ≡ None → IsToldSo g t due
ended_so g t due e is =
    subst (λ (o : Option ℕ). IsToldSo g t o) (sym is)
    (record { story = whole_is_on_story g t e.whole e.ended; some = e.some; few = e.few; few_steps = e.few_steps; due_is = e.ended })

pub follows_told_so : (g : StrandsInWorld) (t : ProgramTeller) (x : StrandProgram) (due : Option ℕ) → FollowsStrands g t x → IsDueThen x.dues.items x.state due → IsToldSo g t due
follows_told_so g t x due f d = by x.state f d
  where
    by : (state : State) → StandsSo g t (stock_of x) state → IsDueThen x.dues.items state due → IsToldSo g t due
    by Fresh f d = fresh_so g t (stock_of x) due f.0 f.1 d
    by (Runs instance going) f d = turn_so g t (stock_of x) going.number going.strand going.starts _ due f.0.0.at f.1 d
    by (Between instance) f d = between_so g t (stock_of x) instance due f.0 f.1 d
    by (Over instance) f d = ended_so g t due f d
    by Failed f d = ended_so g t due f d
    by Lost f d = absurd f
