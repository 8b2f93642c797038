-- Told worlds of strands go on, turn by turn, as long as stories are.
use Rattle.std.proofs.Common.{arith, ◌≡◌, ◌<◌, ◌≤◌, ◌⊎◌, inl, inr, ℕ, zero, suc, ◌+◌, List, [], ◌∷◌, ◌++◌, length, Some, Bool, true, false, refl, sym, ap, ◌∙◌, subst, append_assoc, append-nil}
use Rattle.std.proofs.Common.{length-append, eq-eqb, ne_eqb}
use Rattle.std.specs.Prelude.{map, nat_eq, slice_get, slice_set, if◌then◌else◌}
use Rattle.std.specs.List.{AllZip}
use Rattle.std.proofs.lemmas.List.Elements.{All-head, All-tail}
use Rattle.wa_model.specs.declared.answers.Detach.{Detach}
use Rattle.wa_model.specs.Behaves.{IsPrefix}
use Rattle.wa_model.specs.Blocking.{Note}
use Rattle.wa_model.specs.Plan.{Outcome}
use Rattle.world_model.specs.World.{CallsMeet, Device, IsOver, Program, detached, events_with_looks}
use Rattle.world_laws.proofs.Nexts.{SomeNext, some_next}
use Rattle.world_laws.proofs.Places.{set_here, set_same, set_there}
use Rattle.strand_laws.proofs.Blocks.{lies_within, none_is, the_same}
use Rattle.strand_laws.proofs.GoingOn.{Facts, Found, ended_all, facts, next_there}
use Rattle.strand_laws.proofs.KnownTellers.{Known, known_told, same_or}
use Rattle.strand_laws.proofs.NextTurn.{Next, next_turn, outcomes_with, story_of}
use Rattle.strand_laws.proofs.Closing.{story_some}
use Rattle.strand_laws.proofs.StoryLengths.{most_told, story_length}
use Rattle.strand_laws.proofs.StrandForks.{longer_each}
use Rattle.strand_laws.proofs.ToldStrands.{Whole, calls_longer, mapped_get, rows, worlds_of, zip_get, zip_set}
use Rattle.strand_laws.proofs.ToldWorlds.{HaveMet, Wholes, all_told_met, wholes, wide_told}
use Rattle.strand_laws.proofs.TurnTaken.{some_told}
use Rattle.strand_laws.specs.StrandWorld.{HeldStrands, ProtocolStrandWorld, Staged, StrandLine, StrandsInWorld, joined, looks_if, strand_program}
use Rattle.strand_laws.specs.Strands.{strand_at}
use Rattle.strand_laws.specs.ToldStrands.{HasStory, HaveEnded, IsRest, ProgramTeller, StrandTeller, StrandWorldsEnd, TellsStrandTurn, TellsStrands, ToldStrandsGoOn}
use Rattle.strand_laws.specs.ToldStrands.{having_told, line_of, met_and, starting, starting_strands, told_on}
use Rattle.strand_laws.specs.Weaving.{HaveStrands}
use Rattle.strand_laws.specs.Woven.{Told, told_by}

-- ---- what is told so far is bounded

-- so many notes have been told
abbrev told_in : List ProgramTeller → ℕ
told_in [] = 0
told_in (t ∷ ts) = length t.told + told_in ts

told_set : (ts : List ProgramTeller) (p : ℕ) (t u : ProgramTeller) → slice_get ts p ≡ Some t → told_in (slice_set ts p u) + length t.told ≡ told_in ts + length u.told
told_set [] p t u e = none_is t e
told_set (v ∷ ts) zero t u e = let z = ap (λ (q : ProgramTeller). length q.told) (the_same v t e) in omega (arith, z)
told_set (v ∷ ts) (suc p) t u e = let h = told_set ts p t u e in omega (arith, h)

told_long : (i : ℕ) (es : List Note) → length (told_by i es) ≡ length es
told_long i [] = refl
told_long i (x ∷ es) = ap suc (told_long i es)

-- each turn tells something
counted : (gs : List StrandsInWorld) (detaches : List Detach) (ds : List Device) (count : ℕ) (lines : List StrandLine) (tellers : List ProgramTeller) (ds' : List Device)
    → TellsStrands gs detaches ds count lines tellers ds' → count ≤ told_in tellers
counted gs detaches ds zero lines tellers ds' h = omega arith
counted gs detaches ds (suc count) lines tellers ds' h =
    let on = counted gs detaches ds count h.0 h.2 h.3 h.4 in
    let turn = h.5 in
    let behind = told_on turn.t turn.strand (having_told turn.s turn.turn turn.met turn.answers) turn.turn turn.is_last in
    let set = told_set h.2 turn.program turn.t behind turn.there in
    let a = length-append turn.t.told (told_by turn.strand turn.turn) in
    let b = told_long turn.strand turn.turn in
    let c = some_told turn.turn turn.whole in
    let e = ap told_in turn.after in
    omega (arith, on, set, a, b, c, e)

abbrev most_in : List StrandsInWorld → ℕ
most_in [] = 0
most_in (g ∷ gs) = most_told g + most_in gs

bounded : (gs : List StrandsInWorld) (ts : List ProgramTeller) → AllZip HasStory gs ts → told_in ts ≤ most_in gs
bounded [] [] h = omega arith
bounded [] (t ∷ ts) h = absurd h
bounded (g ∷ gs) [] h = absurd h
bounded (g ∷ gs) (t ∷ ts) h =
    let s = h.0 in
    let a = story_length g (met_and t.strands s.more) (t.told ++ s.rest) s.story in
    let b = length-append t.told s.rest in
    let on = bounded gs ts h.1 in
    omega (arith, a, b, on)

-- ---- the outcomes of a strand that has told a turn

none_longer : (f : ℕ → List Outcome) (i : ℕ) (oss : List (List Outcome)) → ((j : ℕ) → i ≤ j → f j ≡ []) → longer_each f i oss ≡ oss
none_longer f i [] h = refl
none_longer f i (os ∷ oss) h =
    ap (λ (xs : List Outcome). (os ++ xs) ∷ longer_each f (suc i) oss) (h i (omega arith)) ∙ ap (λ (xs : List Outcome). xs ∷ longer_each f (suc i) oss) (append-nil os)
    ∙ ap (λ (xss : List (List Outcome)). os ∷ xss) (none_longer f (suc i) oss (λ j le. h j (omega (arith, le))))

pub met_with : (f : ℕ → List Outcome) (os : List Outcome) (i k n : ℕ) (ss : List StrandTeller) (s : StrandTeller) (turn : List Note) (answers : _) → n ≡ i + k → f n ≡ os
    → ((j : ℕ) → (j ≡ n → ⊥) → f j ≡ []) → slice_get ss k ≡ Some s → met_and (slice_set ss k (having_told s turn os answers)) [] ≡ longer_each f i (met_and ss [])
met_with f os i k n [] s turn answers e is others h = none_is s h
met_with f os i zero n (u ∷ ss) s turn answers e is others h =
    let z : n ≡ i = omega (arith, e) in
    ap (λ (q : StrandTeller). (q.met ++ os) ∷ met_and ss []) (sym (the_same u s h))
    ∙ ap (λ (xs : List Outcome). (u.met ++ xs) ∷ met_and ss []) (sym is ∙ ap f z)
    ∙ ap (λ (xss : List (List Outcome)). (u.met ++ f i) ∷ xss) (sym (none_longer f (suc i) (met_and ss []) (λ j le. others j (λ q. let no_way : ⊥ = omega (arith, le, e, q) in no_way))))
met_with f os i (suc k) n (u ∷ ss) s turn answers e is others h =
    ap (λ (xs : List Outcome). xs ∷ met_and (slice_set ss k (having_told s turn os answers)) []) (sym (append-nil u.met) ∙ ap (λ (xs : List Outcome). u.met ++ xs) (sym (others i (λ q. let no_way : ⊥ = omega (arith, e, q) in no_way))))
    ∙ ap (λ (xss : List (List Outcome)). (u.met ++ f i) ∷ xss) (met_with f os (suc i) k n ss s turn answers (omega (arith, e)) is others h)

-- nothing is left
abbrev pub is_none : List Told → Bool
is_none [] = true
is_none (t ∷ ts) = false

pub rest_is : (ts : List Told) → IsRest (is_none ts) ts
rest_is [] = refl
rest_is (t ∷ ts) = omega arith

-- ---- what calls met

-- what was met with more behind it begins all
pub met_back : (mid : List ProgramTeller) (p k : ℕ) (t u v : ProgramTeller) (s su sv : StrandTeller) → slice_get mid p ≡ Some t → slice_get t.strands k ≡ Some s → u.strands ≡ slice_set t.strands k su
    → v.strands ≡ slice_set t.strands k sv → IsPrefix su.met sv.met → (staged : List Staged) → HaveMet (slice_set mid p v) staged → HaveMet (slice_set mid p u) staged
met_back mid p k t u v s su sv there strand_there us vs more staged h q j t' s' x a et es ex ea = by (same_or q p) (same_or j k)
  where
    same_u : q ≡ p → t' ≡ u
    same_u e = the_same t' u (sym et ∙ ap (slice_get (slice_set mid p u)) e ∙ set_here mid p u t there)

    own : q ≡ p → (w : StrandTeller) → slice_get v.strands j ≡ Some w → IsPrefix w.met a.outcomes
    own e w ew = h p j v w x a (set_here mid p v t there) ew (ap (slice_get staged) (sym e) ∙ ex) ea

    by : (q ≡ p) ⊎ (q ≡ p → ⊥) → (j ≡ k) ⊎ (j ≡ k → ⊥) → IsPrefix s'.met a.outcomes
    by (inr other) o = h q j t' s' x a (set_there mid p q v other ∙ sym (set_there mid p q u other) ∙ et) es ex ea
    by (inl e) (inr other) =
        own e s'
        (ap (λ (l : List StrandTeller). slice_get l j) vs ∙ set_there t.strands k j sv other ∙ sym (set_there t.strands k j su other) ∙ ap (λ (l : List StrandTeller). slice_get l j) (sym us)
        ∙ ap (λ (w : ProgramTeller). slice_get w.strands j) (sym (same_u e)) ∙ es)
    by (inl e) (inl f) =
        let is : s' ≡ su = the_same s' su (sym es ∙ ap (λ (w : ProgramTeller). slice_get w.strands j) (same_u e) ∙ ap (λ (l : List StrandTeller). slice_get l j) us ∙ ap (slice_get (slice_set t.strands k su)) f
        ∙ set_here t.strands k su s strand_there) in
        let r = own e sv (ap (λ (l : List StrandTeller). slice_get l j) vs ∙ ap (slice_get (slice_set t.strands k sv)) f ∙ set_here t.strands k sv s strand_there) in (
          more.0 ++ r.0,
          r.1 ∙ ap (λ (l : List Outcome). l ++ r.0) more.1 ∙ append_assoc su.met more.0 r.0 ∙ ap (λ (w : StrandTeller). w.met ++ (more.0 ++ r.0)) (sym is),
        )

-- ---- one more turn

module _ (gs : List StrandsInWorld) (detaches : List Detach) (some : HaveStrands gs) where
  -- A turn that is told next, behind which each program still has a story.
  record Goes (number : ℕ) (tellers : List ProgramTeller) (ds : List Device) : Type 0 where
    lines : List StrandLine
    tellers' : List ProgramTeller
    devices : List Device
    turn : TellsStrandTurn gs detaches number tellers ds lines tellers' devices
    stories : AllZip HasStory gs tellers'

  module _ (number : ℕ) (tellers : List ProgramTeller) (ds : List Device) (stories : AllZip HasStory gs tellers) (known : AllZip Known gs tellers) (xs : List Whole) (is : worlds_of xs ≡ gs)
      (f : Found xs tellers) where
    abbrev g : StrandsInWorld
    g = f.x.g

    is_program : slice_get gs f.p ≡ Some g
    is_program = subst (λ (qs : List StrandsInWorld). slice_get qs f.p ≡ Some g) is (mapped_get (λ (x : Whole). x.g) xs f.p f.x f.is_x)

    here : HasStory g f.t
    here = zip_get HasStory gs tellers f.p g f.t stories is_program f.there

    known_here : Known g f.t
    known_here = zip_get Known gs tellers f.p g f.t known is_program f.there

    some_strand : (qs : List StrandsInWorld) (p : ℕ) (q : StrandsInWorld) → HaveStrands qs → slice_get qs p ≡ Some q → 0 < length q.program.strands
    some_strand [] p q h e = none_is q e
    some_strand (u ∷ qs) zero q h e = subst (λ (v : StrandsInWorld). 0 < length v.program.strands) (the_same u q e) (All-head (λ (v : StrandsInWorld). 0 < length v.program.strands) u qs h)
    some_strand (u ∷ qs) (suc p) q h e = some_strand qs p q (All-tail (λ (v : StrandsInWorld). 0 < length v.program.strands) u qs h) e

    abbrev es : List Device
    es = detached number detaches ds

    -- the strand, whose looks don't matter to its calls
    abbrev asks : Program
    asks = strand_program g [] f.k (strand_at g.program f.k)

    inside : f.k < length f.t.strands
    inside = lies_within f.t.strands f.k f.s f.strand_there

    n : Next g f.t known_here (some_strand gs f.p g some is_program) f.k f.first inside asks f.s.answers [] es es
    n = next_turn g f.t known_here (some_strand gs f.p g some is_program) f.k f.first inside asks f.s.answers [] es es refl refl here.more here.rest here.story (subst (λ b. IsRest b here.rest) f.live_there here.is_rest)

    abbrev is_last : Bool
    is_last = is_none n.rest

    abbrev s' : StrandTeller
    s' = having_told f.s n.turn n.outcomes n.left

    abbrev t' : ProgramTeller
    t' = told_on f.t f.k s' n.turn is_last

    met_is : met_and t'.strands [] ≡ outcomes_with g f.t known_here (some_strand gs f.p g some is_program) f.k f.first inside asks f.s.answers [] es es n.outcomes
    met_is =
        met_with (λ j. if nat_eq j f.k then n.outcomes else []) n.outcomes 0 f.k f.k f.t.strands f.s n.turn n.left (let z : f.k ≡ 0 + f.k = omega arith in z)
        (ap (λ b. if b then n.outcomes else []) (eq-eqb f.k f.k refl)) (λ j ne. ap (λ b. if b then n.outcomes else []) (ne_eqb j f.k ne)) f.strand_there

    story_then : HasStory g t'
    story_then = record {
      rest = n.rest;
      more = [];
      story = subst (λ (oss : List (List Outcome)). HeldStrands g oss (t'.told ++ n.rest)) (sym met_is) n.story;
      is_rest = rest_is n.rest;
    }

    calls_there : CallsMeet (strand_program g (looks_if is_last g.looks) f.k (strand_at g.program f.k)) n.turn n.outcomes f.s.answers es [] n.left es
    calls_there =
        subst (λ (os : List Outcome). CallsMeet (strand_program g (looks_if is_last g.looks) f.k (strand_at g.program f.k)) n.turn os f.s.answers es [] n.left es) (append-nil n.outcomes)
        (calls_longer asks (strand_program g (looks_if is_last g.looks) f.k (strand_at g.program f.k)) (record { imports = refl; binds = refl }) [] n.turn n.outcomes f.s.answers es [] n.left es n.calls)

    goes_there : Goes number tellers ds
    goes_there = record {
      lines = map (line_of f.s.due f.p f.k) (events_with_looks (looks_if is_last g.looks) n.turn);
      tellers' = slice_set tellers f.p t';
      devices = es;
      turn = record {
        program = f.p;
        strand = f.k;
        g = g;
        t = f.t;
        s = f.s;
        is_program = is_program;
        there = f.there;
        strand_there = f.strand_there;
        next = f.next;
        turn = n.turn;
        whole = n.whole;
        is_last = is_last;
        met = n.outcomes;
        answers = n.left;
        calls = calls_there;
        made = refl;
        after = refl;
      };
      stories = zip_set HasStory gs tellers f.p g t' stories is_program story_then;
    }

  -- all have ended, or another turn is told
  step : (number : ℕ) (tellers : List ProgramTeller) (ds : List Device) → AllZip (λ (g : StrandsInWorld) (t : ProgramTeller). length t.strands ≡ length g.program.strands) gs tellers
      → AllZip Known gs tellers → AllZip HasStory gs tellers → HaveEnded tellers ⊎ Goes number tellers ds
  step number tellers ds wide known stories = by (some_next (joined (rows w.all tellers)))
    where
      w : Wholes gs tellers
      w = wholes gs tellers some wide stories

      all : AllZip Facts w.all tellers
      all = facts w.all tellers w.each w.fits (subst (λ (qs : List StrandsInWorld). AllZip Known qs tellers) (sym w.worlds) known)

      by : IsOver (joined (rows w.all tellers)) ⊎ SomeNext (joined (rows w.all tellers)) → HaveEnded tellers ⊎ Goes number tellers ds
      by (inl over) = inl (ended_all w.all tellers all over)
      by (inr n) = inr (goes_there number tellers ds stories known w.all w.worlds (next_there w.all tellers all n))

  module _ (ds0 : List Device) where
    -- the world goes on from these lines to an end, and its calls meet what they met
    abbrev Ends : List StrandLine → List ProgramTeller → Type 0
    Ends lines tellers = (more : List StrandLine) × (last : List Device) × (w : ProtocolStrandWorld gs detaches ds0 (lines ++ more) last) × HaveMet tellers w.staged

    from_step : (fuel count : ℕ) (lines : List StrandLine) (tellers : List ProgramTeller) (ds : List Device) → TellsStrands gs detaches ds0 count lines tellers ds
        → ((ls : List StrandLine) (ts : List ProgramTeller) (d : List Device) → TellsStrands gs detaches ds0 (suc count) ls ts d → AllZip HasStory gs ts → Ends ls ts) → AllZip HasStory gs tellers
        → Ends lines tellers
    from_step fuel count lines tellers ds told again stories =
        by (step (suc count) tellers ds (wide_told gs detaches ds0 count lines tellers ds told) (known_told gs detaches ds0 count lines tellers ds told) stories)
      where
        before : (q : Goes (suc count) tellers ds) (staged : List Staged) → HaveMet q.tellers' staged → HaveMet tellers staged
        before q staged m =
            let x = q.turn in
            let s' = having_told x.s x.turn x.met x.answers in
            let t' = told_on x.t x.strand s' x.turn x.is_last in
            subst (λ (ts : List ProgramTeller). HaveMet ts staged) (set_same tellers x.program x.t x.there)
            (met_back tellers x.program x.strand x.t x.t t' x.s x.s s' x.there x.strand_there (sym (set_same x.t.strands x.strand x.s x.strand_there)) refl (x.met, refl) staged
            (subst (λ (ts : List ProgramTeller). HaveMet ts staged) x.after m))

        by : HaveEnded tellers ⊎ Goes (suc count) tellers ds → Ends lines tellers
        by (inl ended) =
            let whole =
            subst (λ (ls : List StrandLine). (w : ProtocolStrandWorld gs detaches ds0 ls ds) × HaveMet tellers w.staged) (sym (append-nil lines))
            (all_told_met gs detaches ds0 count lines tellers ds some told stories ended) in
            ([], ds, whole.0, whole.1)
        by (inr q) =
            let r = again (lines ++ q.lines) q.tellers' q.devices (lines, q.lines, tellers, ds, told, q.turn, refl) q.stories in
            let whole =
            subst (λ (ls : List StrandLine). (w : ProtocolStrandWorld gs detaches ds0 ls r.1) × HaveMet q.tellers' w.staged) (append_assoc lines q.lines r.0) (r.2, r.3) in
            (q.lines ++ r.0, r.1, whole.0, before q whole.0.staged whole.1)

    go_on : (fuel count : ℕ) (lines : List StrandLine) (tellers : List ProgramTeller) (ds : List Device) → TellsStrands gs detaches ds0 count lines tellers ds → AllZip HasStory gs tellers
        → most_in gs ≤ count + fuel → Ends lines tellers
    go_on zero count lines tellers ds told stories le = from_step 0 count lines tellers ds told (λ ls ts d h st. full ls ts d h st) stories
      where
        full : (ls : List StrandLine) (ts : List ProgramTeller) (d : List Device) → TellsStrands gs detaches ds0 (suc count) ls ts d → AllZip HasStory gs ts → Ends ls ts
        full ls ts d h st =
            let a = counted gs detaches ds0 (suc count) ls ts d h in
            let b = bounded gs ts st in
            let no_way : ⊥ = omega (arith, a, b, le) in absurd no_way
    go_on (suc fuel) count lines tellers ds told stories le =
        from_step (suc fuel) count lines tellers ds told (λ ls ts d h st. go_on fuel (suc count) ls ts d h st (omega (arith, le))) stories

-- what was told goes on to an end, in which calls meet what they met
pub told_goes_on_met : (gs : List StrandsInWorld) (detaches : List Detach) (ds : List Device) (count : ℕ) (lines : List StrandLine) (tellers : List ProgramTeller) (ds' : List Device) → HaveStrands gs
    → TellsStrands gs detaches ds count lines tellers ds' → AllZip HasStory gs tellers
    → (more : List StrandLine) × (last : List Device) × (w : ProtocolStrandWorld gs detaches ds (lines ++ more) last) × HaveMet tellers w.staged
told_goes_on_met gs detaches ds count lines tellers ds' some told stories = go_on gs detaches some ds (most_in gs) count lines tellers ds' told stories (omega arith)

pub told_goes_on : ToldStrandsGoOn
told_goes_on gs detaches ds count lines tellers ds' some told stories =
    let r = told_goes_on_met gs detaches ds count lines tellers ds' some told stories in (r.0, r.1, r.2)

-- ---- from the start

stories_start : (gs : List StrandsInWorld) → AllZip HasStory gs (map starting gs)
stories_start [] = tt
stories_start (g ∷ gs) =
    let oss : List (List Outcome) = met_and (starting_strands g 0 g.program.strands) [] in (
      record {
        rest = story_of g oss;
        more = [];
        story = refl;
        is_rest = story_some g oss (story_of g oss) refl;
      },
      stories_start gs,
    )

pub worlds_end : StrandWorldsEnd
worlds_end gs detaches ds some = told_goes_on gs detaches ds 0 [] (map starting gs) ds some (refl, refl, refl) (stories_start gs)
