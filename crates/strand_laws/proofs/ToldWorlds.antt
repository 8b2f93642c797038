-- All turns of strands that were told are a world played up to there, or a whole run.
use Rattle.std.proofs.Common.{arith, ◌≡◌, ◌<◌, ℕ, zero, suc, ◌+◌, List, [], ◌∷◌, ◌++◌, length, drop, All, Some, None, true, refl, sym, ap, ◌∙◌, subst}
use Rattle.std.specs.Prelude.{map, slice_get}
use Rattle.std.specs.List.{AllZip}
use Rattle.std.proofs.lemmas.List.Elements.{All-append, All-cons, All-head, All-nil, All-tail}
use Rattle.wa_model.specs.declared.answers.Detach.{Detach}
use Rattle.wa_model.specs.Behaves.{IsPrefix}
use Rattle.wa_model.specs.Outside.{Line}
use Rattle.wa_model.specs.Plan.{Outcome}
use Rattle.world_model.specs.World.{Actor, Device, IsOver}
use Rattle.world_laws.specs.Played.{Played}
use Rattle.world_laws.proofs.Played.{as_events, one_more}
use Rattle.strand_laws.proofs.AllByTurns.{held_go}
use Rattle.strand_laws.proofs.Blocks.{none_is, set_length, the_same}
use Rattle.strand_laws.proofs.ToldStrands.{Fits, Goes, Whole, drop_told, fits_before, goes_then, lines_are, mapped_back, plays, programs_in, row, row_of, rows, staged_of, still_told, strands_of, then_there, worlds_of}
use Rattle.strand_laws.proofs.ToldStrands.{zip_get, zip_set, zip_unset}
use Rattle.strand_laws.proofs.TurnTaken.{dues_of}
use Rattle.strand_laws.specs.StrandWorld.{HeldStrands, ProtocolStrandWorld, Staged, StartsStrands, StrandLine, StrandsInWorld, answers_of, joined, notes_of, strand_actors, strand_line, strand_lines}
use Rattle.strand_laws.specs.Strands.{Strand, StrandProgram, outcomes_at}
use Rattle.strand_laws.specs.ToldStrands.{AllToldStrandsAreWorld, HasStory, HaveEnded, IsRest, ProgramTeller, ProtocolStrandWorldUpTo, StrandTeller, TellsStrandTurn, TellsStrands, ToldStrandsAreWorld}
use Rattle.strand_laws.specs.ToldStrands.{having_told, met_and, starting, starting_strands, told_on}
use Rattle.strand_laws.specs.Weaving.{Dues, GoesByTurns, HaveStrands, all_due}
use Rattle.strand_laws.specs.Woven.{Told}

-- ---- the start

-- A program's strands tell this in the protocol world.
pub record TellsAll (x : Whole) : Type 0 where
  pub some : 0 < length x.g.program.strands
  pub wide : length x.outcomes ≡ length x.g.program.strands
  pub story : HeldStrands x.g x.outcomes x.all

starting_row : (x : Whole) (rest : List Told) (i : ℕ) (ss : List Strand) (oss : List (List Outcome)) → length oss ≡ length ss
    → ((m j : ℕ) → j ≡ i + m → outcomes_at x.outcomes j ≡ outcomes_at oss m) → row x rest i (starting_strands x.g i ss) ≡ strand_actors x.g rest i oss
starting_row x rest i [] [] e h = refl
starting_row x rest i [] (os ∷ oss) e h = let no_way : ⊥ = omega (arith, e) in absurd no_way
starting_row x rest i (s ∷ ss) [] e h = let no_way : ⊥ = omega (arith, e) in absurd no_way
starting_row x rest i (s ∷ ss) (os ∷ oss) e h =
    ap (λ (qs : List Outcome). record { due = 0; notes = notes_of i rest; outcomes = qs; answers = answers_of x.g i } ∷ row x rest (suc i) (starting_strands x.g (suc i) ss))
    (h 0 i (let z : i ≡ i + 0 = omega arith in z))
    ∙ ap (λ (acts : List Actor). record { due = 0; notes = notes_of i rest; outcomes = os; answers = answers_of x.g i } ∷ acts)
    (starting_row x rest (suc i) ss oss (omega (arith, e)) (λ m j z. h (suc m) j (omega (arith, z))))

pub starting_dues : (g : StrandsInWorld) (i : ℕ) (ss : List Strand) → dues_of (starting_strands g i ss) ≡ all_due (length ss)
starting_dues g i [] = refl
starting_dues g i (s ∷ ss) = ap (λ (v : Dues). record { due = 0; at = Some tt } ∷ v) (starting_dues g (suc i) ss)

pub starting_wide : (g : StrandsInWorld) (i : ℕ) (ss : List Strand) → length (starting_strands g i ss) ≡ length ss
starting_wide g i [] = refl
starting_wide g i (s ∷ ss) = ap suc (starting_wide g (suc i) ss)

abbrev pub Each : List Whole → Type 0
Each [] = Unit {0}
Each (x ∷ xs) = TellsAll x × Each xs

abbrev at_start : List Whole → List ProgramTeller
at_start xs = map starting (worlds_of xs)

rows_start : (xs : List Whole) → Each xs → joined (rows xs (at_start xs)) ≡ joined (map (λ (y : Staged). y.actors) (map staged_of xs))
rows_start [] h = refl
rows_start (x ∷ xs) h =
    let wide = h.0.wide in
    ap (λ (acts : List Actor). acts ++ joined (rows xs (at_start xs)))
    (starting_row x x.all 0 x.g.program.strands x.outcomes wide (λ m j z. let y : j ≡ m = omega (arith, z) in ap (outcomes_at x.outcomes) y))
    ∙ ap (λ (acts : List Actor). strand_actors x.g x.all 0 x.outcomes ++ acts) (rows_start xs h.1)

goes_start : (xs : List Whole) → Each xs → AllZip Goes xs (at_start xs)
goes_start [] h = tt
goes_start (x ∷ xs) h =
    let t = h.0 in (
      record {
        size = starting_wide x.g 0 x.g.program.strands;
        turns = subst (λ (v : Dues). GoesByTurns None v x.all) (sym (starting_dues x.g 0 x.g.program.strands)) (held_go x.g x.outcomes x.all t.some t.wide t.story);
      },
      goes_start xs h.1,
    )

starts_all : (xs : List Whole) → Each xs → AllZip (StartsStrands HeldStrands) (worlds_of xs) (map staged_of xs)
starts_all [] h = tt
starts_all (x ∷ xs) h =
    let t = h.0 in
    (record { outcomes = x.outcomes; told = x.all; wide = t.wide; tells = t.story; programs_are = refl; actors_are = refl }, starts_all xs h.1)

-- ---- turn by turn

lines_both : (qs : List StrandProgram) (xs ys : List Line) → strand_lines qs (xs ++ ys) ≡ strand_lines qs xs ++ strand_lines qs ys
lines_both qs [] ys = refl
lines_both qs (l ∷ xs) ys = ap (λ (ls : List StrandLine). strand_line 0 qs l.program l.tick l.event ∷ ls) (lines_both qs xs ys)

module _ (xs : List Whole) (each : Each xs) (detaches : List Detach) (ds : List Device) where
  record Reached (count : ℕ) (lines : List StrandLine) (tellers : List ProgramTeller) (ds' : List Device) : Type 0 where
    flat : List Line
    played : Played (joined (programs_in xs)) detaches 1 count (joined (rows xs (at_start xs))) ds flat (joined (rows xs tellers)) ds'
    made : lines ≡ strand_lines (strands_of xs) flat
    goes : AllZip Goes xs tellers

  reached : (count : ℕ) (lines : List StrandLine) (tellers : List ProgramTeller) (ds' : List Device) → TellsStrands (worlds_of xs) detaches ds count lines tellers ds' → AllZip Fits xs tellers
      → Reached count lines tellers ds'
  reached zero lines tellers ds' h fits = record {
    flat = [];
    played = (refl, ap (λ (ts : List ProgramTeller). joined (rows xs ts)) h.1, h.2);
    made = h.0;
    goes = subst (AllZip Goes xs) (sym h.1) (goes_start xs each);
  }
  reached (suc count) lines tellers ds' h fits = by (reached count before mid es h.4 fits_mid)
    where
      before : List StrandLine
      before = h.0

      more : List StrandLine
      more = h.1

      mid : List ProgramTeller
      mid = h.2

      es : List Device
      es = h.3

      turn : TellsStrandTurn (worlds_of xs) detaches (suc count) mid es more tellers ds'
      turn = h.5

      found : (x : Whole) × (slice_get xs turn.program ≡ Some x) × (x.g ≡ turn.g)
      found = mapped_back (λ (x : Whole). x.g) xs turn.program turn.g turn.is_program

      then : ProgramTeller
      then = told_on turn.t turn.strand (having_told turn.s turn.turn turn.met turn.answers) turn.turn turn.is_last

      fit : Fits found.0 then
      fit = zip_get Fits xs tellers turn.program found.0 then fits found.1 (then_there xs detaches (suc count) mid es ds' more tellers turn found.0 found.1 found.2)

      fits_mid : AllZip Fits xs mid
      fits_mid =
          zip_unset Fits xs mid turn.program found.0 turn.t then (subst (AllZip Fits xs) turn.after fits) found.1 turn.there
          (fits_before xs detaches (suc count) mid es ds' more tellers turn found.0 found.1 found.2 fit)

      by : Reached count before mid es → Reached (suc count) lines tellers ds'
      by r =
          let g0 : Goes found.0 turn.t = zip_get Goes xs mid turn.program found.0 turn.t r.goes found.1 turn.there in
          let then_goes : Goes found.0 then = goes_then xs detaches (suc count) mid es ds' more tellers turn found.0 found.1 found.2 fit g0 in
          let play = plays xs detaches (suc count) mid es ds' more tellers turn found.0 found.1 found.2 fit g0 r.goes fits_mid in
          let made = lines_are xs detaches (suc count) mid es ds' more tellers turn found.0 found.1 found.2 fit g0 r.goes fits_mid in record {
            flat = _;
            played = one_more (joined (programs_in xs)) detaches count 1 (suc count) (joined (rows xs (at_start xs))) (joined (rows xs mid)) (joined (rows xs tellers)) ds es ds' r.flat _
                (let z : suc count ≡ 1 + count = omega arith in z) r.played play;
            made = h.6 ∙ ap (λ (ls : List StrandLine). ls ++ more) r.made ∙ ap (λ (ls : List StrandLine). strand_lines (strands_of xs) r.flat ++ ls) made ∙ sym (lines_both (strands_of xs) r.flat _);
            goes = subst (AllZip Goes xs) (sym turn.after) (zip_set Goes xs mid turn.program found.0 then r.goes found.1 then_goes);
          }

  -- a world played up to there
  abbrev UpTo : ℕ → List StrandLine → List ProgramTeller → List Device → Type 0
  UpTo count lines tellers ds' = (u : ProtocolStrandWorldUpTo (worlds_of xs) detaches ds count lines ds') × (u.now ≡ joined (rows xs tellers))

  abbrev up_to : (count : ℕ) (lines : List StrandLine) (tellers : List ProgramTeller) (ds' : List Device) → TellsStrands (worlds_of xs) detaches ds count lines tellers ds' → AllZip Fits xs tellers
      → UpTo count lines tellers ds'
  up_to count lines tellers ds' h fits =
      let r = reached count lines tellers ds' h fits in (
        record {
          staged = map staged_of xs;
          starts = starts_all xs each;
          flat = r.flat;
          now = joined (rows xs tellers);
          played = subst (λ (acts : List Actor). Played (joined (programs_in xs)) detaches 1 count acts ds r.flat (joined (rows xs tellers)) ds') (rows_start xs each) r.played;
          made = r.made;
        },
        refl,
      )

abbrev whole_run : (gs : List StrandsInWorld) (detaches : List Detach) (ds : List Device) (count : ℕ) (lines : List StrandLine) (ds' : List Device)
    (u : ProtocolStrandWorldUpTo gs detaches ds count lines ds') → IsOver u.now → ProtocolStrandWorld gs detaches ds lines ds'
whole_run gs detaches ds count lines ds' u over = record {
  staged = u.staged;
  starts = u.starts;
  runs = record {
    flat = u.flat;
    last = u.now;
    events = as_events (joined (map (λ (x : Staged). x.programs) u.staged)) detaches count 1 (joined (map (λ (x : Staged). x.actors) u.staged)) u.now ds ds' u.flat u.played;
    over = over;
    made = u.made;
  };
}

-- where all have ended no strand has notes left
abbrev HasNone : Actor → Type 0
HasNone a = a.notes ≡ []

row_over : (x : Whole) (rest : List Told) (i : ℕ) (ss : List StrandTeller) → rest ≡ [] → All HasNone (row x rest i ss)
row_over x rest i [] e = All-nil HasNone
row_over x rest i (s ∷ ss) e = All-cons HasNone _ (row x rest (suc i) ss) (ap (notes_of i) e) (row_over x rest (suc i) ss e)

rows_over : (xs : List Whole) (ts : List ProgramTeller) → AllZip Fits xs ts → HaveEnded ts → IsOver (joined (rows xs ts))
rows_over [] ts h e = All-nil HasNone
rows_over (x ∷ xs) [] h e = All-nil HasNone
rows_over (x ∷ xs) (t ∷ ts) h e =
    let f = h.0 in
    let none : f.rest ≡ [] = subst (λ b. IsRest b f.rest) (All-head (λ (u : ProgramTeller). u.has_ended ≡ true) t ts e) f.is_rest in
    All-append HasNone (row_of x t) (joined (rows xs ts)) (row_over x (still_told x t) 0 t.strands (ap (drop (length t.told)) f.whole ∙ drop_told t.told f.rest ∙ none))
    (rows_over xs ts h.1 (All-tail (λ (u : ProgramTeller). u.has_ended ≡ true) t ts e))

-- ---- from what has been told

abbrev SameWide : StrandsInWorld → ProgramTeller → Type 0
SameWide g t = length t.strands ≡ length g.program.strands

wide_start : (gs : List StrandsInWorld) → AllZip SameWide gs (map starting gs)
wide_start [] = tt
wide_start (g ∷ gs) = (starting_wide g 0 g.program.strands, wide_start gs)

pub wide_told : (gs : List StrandsInWorld) (detaches : List Detach) (ds : List Device) (count : ℕ) (lines : List StrandLine) (tellers : List ProgramTeller) (ds' : List Device)
    → TellsStrands gs detaches ds count lines tellers ds' → AllZip SameWide gs tellers
wide_told gs detaches ds zero lines tellers ds' h = subst (AllZip SameWide gs) (sym h.1) (wide_start gs)
wide_told gs detaches ds (suc count) lines tellers ds' h =
    let on = wide_told gs detaches ds count h.0 h.2 h.3 h.4 in
    let turn = h.5 in
    let wide = zip_get SameWide gs h.2 turn.program turn.g turn.t on turn.is_program turn.there in
    let s = having_told turn.s turn.turn turn.met turn.answers in
    subst (AllZip SameWide gs) (sym turn.after)
    (zip_set SameWide gs h.2 turn.program turn.g (told_on turn.t turn.strand s turn.turn turn.is_last) on turn.is_program (set_length turn.t.strands turn.strand s ∙ wide))

met_wide : (ss : List StrandTeller) (more : List (List Outcome)) → length (met_and ss more) ≡ length ss
met_wide [] more = refl
met_wide (s ∷ ss) [] = ap suc (met_wide ss [])
met_wide (s ∷ ss) (os ∷ oss) = ap suc (met_wide ss oss)

met_first : (ss : List StrandTeller) (more : List (List Outcome)) (k : ℕ) (s : StrandTeller) → slice_get ss k ≡ Some s → (os : List Outcome) × (outcomes_at (met_and ss more) k ≡ s.met ++ os)
met_first [] more k s e = none_is s e
met_first (t ∷ ss) [] zero s e = ([], ap (λ (u : StrandTeller). u.met) (the_same t s e) ∙ none_more s.met)
  where
    none_more : (xs : List Outcome) → xs ≡ xs ++ []
    none_more [] = refl
    none_more (x ∷ xs) = ap (λ (ys : List Outcome). x ∷ ys) (none_more xs)
met_first (t ∷ ss) [] (suc k) s e = met_first ss [] k s e
met_first (t ∷ ss) (os ∷ oss) zero s e = (os, ap (λ (u : StrandTeller). u.met ++ os) (the_same t s e))
met_first (t ∷ ss) (os ∷ oss) (suc k) s e = met_first ss oss k s e

-- The wholes of programs, from their stories.
pub record Wholes (gs : List StrandsInWorld) (ts : List ProgramTeller) : Type 0 where
  pub all : List Whole
  pub worlds : worlds_of all ≡ gs
  pub each : Each all
  pub fits : AllZip Fits all ts

pub wholes : (gs : List StrandsInWorld) (ts : List ProgramTeller) → HaveStrands gs → AllZip SameWide gs ts → AllZip HasStory gs ts → Wholes gs ts
wholes [] [] some wide h = record { all = []; worlds = refl; each = tt; fits = tt }
wholes [] (t ∷ ts) some wide h = absurd h
wholes (g ∷ gs) [] some wide h = absurd h
wholes (g ∷ gs) (t ∷ ts) some wide h =
    let on = wholes gs ts (All-tail (λ (q : StrandsInWorld). 0 < length q.program.strands) g gs some) wide.1 h.1 in
    let s = h.0 in
    let x : Whole = record { g = g; all = t.told ++ s.rest; outcomes = met_and t.strands s.more } in record {
      all = x ∷ on.all;
      worlds = ap (λ (qs : List StrandsInWorld). g ∷ qs) on.worlds;
      each = (
        record {
          some = All-head (λ (q : StrandsInWorld). 0 < length q.program.strands) g gs some;
          wide = met_wide t.strands s.more ∙ wide.0;
          story = s.story;
        },
        on.each,
      );
      fits = (record { rest = s.rest; whole = refl; is_rest = s.is_rest; more = met_first t.strands s.more }, on.fits);
    }

pub told_is_world : ToldStrandsAreWorld
told_is_world gs detaches ds count lines tellers ds' some h stories =
    let w = wholes gs tellers some (wide_told gs detaches ds count lines tellers ds' h) stories in
    subst (λ qs. ProtocolStrandWorldUpTo qs detaches ds count lines ds') w.worlds
    (up_to w.all w.each detaches ds count lines tellers ds' (subst (λ qs. TellsStrands qs detaches ds count lines tellers ds') (sym w.worlds) h) w.fits).0

-- ---- what calls met

-- The outcomes of each strand's actor begin with those that its calls met.
abbrev pub HaveMet : List ProgramTeller → List Staged → Type 0
HaveMet tellers staged =
    (p k : ℕ) (t : ProgramTeller) (s : StrandTeller) (x : Staged) (a : Actor) → slice_get tellers p ≡ Some t → slice_get t.strands k ≡ Some s → slice_get staged p ≡ Some x
    → slice_get x.actors k ≡ Some a → IsPrefix s.met a.outcomes

actor_outcomes : (g : StrandsInWorld) (ts : List Told) (i : ℕ) (oss : List (List Outcome)) (k : ℕ) (a : Actor) → slice_get (strand_actors g ts i oss) k ≡ Some a → a.outcomes ≡ outcomes_at oss k
actor_outcomes g ts i [] k a e = none_is a e
actor_outcomes g ts i (os ∷ oss) zero a e =
    ap (λ (b : Actor). b.outcomes) (sym (the_same (record { due = 0; notes = notes_of i ts; outcomes = os; answers = answers_of g i }) a e))
actor_outcomes g ts i (os ∷ oss) (suc k) a e = actor_outcomes g ts (suc i) oss k a e

have_met : (xs : List Whole) (ts : List ProgramTeller) → AllZip Fits xs ts → HaveMet ts (map staged_of xs)
have_met [] ts h p k t s y a et es ey ea = none_is y ey
have_met (x ∷ xs) [] h p k t s y a et es ey ea = none_is t et
have_met (x ∷ xs) (u ∷ ts) h zero k t s y a et es ey ea =
    let m = h.0.more k s (ap (λ (v : ProgramTeller). slice_get v.strands k) (the_same u t et) ∙ es) in
    (m.0, actor_outcomes x.g x.all 0 x.outcomes k a (ap (λ (v : Staged). slice_get v.actors k) (the_same (staged_of x) y ey) ∙ ea) ∙ m.1)
have_met (x ∷ xs) (u ∷ ts) h (suc p) k t s y a et es ey ea = have_met xs ts h.1 p k t s y a et es ey ea

-- where all have ended, a whole run, in which calls meet what they met
pub all_told_met : (gs : List StrandsInWorld) (detaches : List Detach) (ds : List Device) (count : ℕ) (lines : List StrandLine) (tellers : List ProgramTeller) (ds' : List Device) → HaveStrands gs
    → TellsStrands gs detaches ds count lines tellers ds' → AllZip HasStory gs tellers → HaveEnded tellers → (w : ProtocolStrandWorld gs detaches ds lines ds') × HaveMet tellers w.staged
all_told_met gs detaches ds count lines tellers ds' some h stories ended =
    let w = wholes gs tellers some (wide_told gs detaches ds count lines tellers ds' h) stories in
    let u = up_to w.all w.each detaches ds count lines tellers ds' (subst (λ qs. TellsStrands qs detaches ds count lines tellers ds') (sym w.worlds) h) w.fits in
    subst (λ (qs : List StrandsInWorld). (v : ProtocolStrandWorld qs detaches ds lines ds') × HaveMet tellers v.staged) w.worlds
    (whole_run (worlds_of w.all) detaches ds count lines ds' u.0 (subst IsOver (sym u.1) (rows_over w.all tellers w.fits ended)), have_met w.all tellers w.fits)

pub all_told_is_world : AllToldStrandsAreWorld
all_told_is_world gs detaches ds count lines tellers ds' some h stories ended = (all_told_met gs detaches ds count lines tellers ds' some h stories ended).0
