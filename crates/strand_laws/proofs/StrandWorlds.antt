-- A run of the protocol world of strands over rewritten modules is one of the blocking world of strands over their originals.
use Rattle.std.proofs.Common.{arith, ◌≡◌, ◌-◌, ℕ, suc, List, [], ◌∷◌, ◌++◌, length, drop, All, refl, sym, ap, ◌∙◌, subst}
use Rattle.std.proofs.Common.{append-nil, length-take, take-append-drop}
use Rattle.std.specs.Prelude.{if◌then◌else◌, map, nat_eq, nat_lt, slice_get}
use Rattle.std.specs.List.{AllZip}
use Rattle.std.specs.Option.{unwrap_or}
use Rattle.std.proofs.lemmas.List.Elements.{All-head, All-tail}
use Rattle.wa_model.specs.Outside.{AnswerLine, Event, Line}
use Rattle.wa_model.specs.Plan.{Outcome}
use Rattle.world_model.specs.World.{Actor, Look, Program}
use Rattle.world_laws.specs.Originals.{met}
use Rattle.world_laws.proofs.Meeting.{EachMet, events_met}
use Rattle.world_laws.proofs.Shows.{Alike}
use Rattle.emitted_form.proofs.PolicyCases.{rewritten_as}
use Rattle.strand_laws.proofs.ActorRows.{Rows, alike_back, events_beside, over_beside, rows_on}
use Rattle.strand_laws.proofs.Emitted.{strands_of_emitted}
use Rattle.strand_laws.proofs.Numbered.{pauses_at_numbers}
use Rattle.strand_laws.proofs.StrandShows.{last_same, notes_print}
use Rattle.strand_laws.proofs.StrandsMet.{actors_have, actors_met, met_wide, stories_of_met}
use Rattle.strand_laws.proofs.StrandTails.{calls_by}
use Rattle.strand_laws.specs.StrandsMet.{HaveOutcomes, met_in, met_of}
use Rattle.strand_laws.proofs.StrandStories.{stories_of_originals, story_held}
use Rattle.strand_laws.specs.StrandOriginals.{BoundedWorldsAreHeld, ComparedAreOrderly, EmittedAreRewritten, SameStrandMoment, StrandWorldsOfOriginals, StrandsBounded, StrandsMayRun, StrandsOrderly, StrandsStandIn, outcomes_in}
use Rattle.strand_laws.specs.StrandWorld.{HeldStrands, Staged, StartsStrands, StartsStrung, StrandLine, StrandOriginal, StrandsInWorld, joined, last_strand, looks_if, notes_of}
use Rattle.strand_laws.specs.StrandWorld.{strand_actors, strand_in, strand_line, strand_lines, strand_programs}
use Rattle.strand_laws.specs.Strands.{Strand, StrandProgram}
use Rattle.strand_laws.specs.Woven.{Told}

-- ---- the rows of one program

outcomes_are : (w : StrandsInWorld) (ts : List Told) (i : ℕ) (oss : List (List Outcome)) → map (λ (a : Actor). a.outcomes) (strand_actors w ts i oss) ≡ oss
outcomes_are w ts i [] = refl
outcomes_are w ts i (os ∷ oss) = ap (λ (z : List (List Outcome)). os ∷ z) (outcomes_are w ts (suc i) oss)

-- the original's strands at their start, beside those of the program in its place
abbrev Starting : StrandOriginal → Staged → Type 0
Starting o x = (y : Staged) × StartsStrung o y × Rows x.programs y.programs x.actors y.actors

-- and the other way
abbrev Held : StrandOriginal → StrandsInWorld → Staged → Type 0
Held o w y = (x : Staged) × StartsStrands HeldStrands w x × Rows y.programs x.programs y.actors x.actors

module _ (o : StrandOriginal) (w : StrandsInWorld) (st : StrandsStandIn o w) (may : StrandsMayRun o) where
  abbrev Same : Told → Told → Type 0
  Same = SameStrandMoment o.program.program

  module _ (us ts : List Told) (beside : AllZip Same us ts) where
    rows_of : (last i : ℕ) (ss : List Strand) (oss : List (List Outcome)) → length oss ≡ length ss → HaveOutcomes ts i oss
        → Rows (strand_programs w last i ss) (strand_programs o.program last i ss) (strand_actors w ts i oss) (strand_actors o.program us i (met_of ts i oss))
    rows_of last i [] [] e have = tt
    rows_of last i [] (os ∷ oss) e have = let no_way : ⊥ = omega (arith, e) in absurd no_way
    rows_of last i (s ∷ ss) [] e have = let no_way : ⊥ = omega (arith, e) in absurd no_way
    rows_of last i (s ∷ ss) (os ∷ oss) e have = (
      record {
        calls = record { imports = st.rewritten.imports; binds = st.binds };
        looks = ap (looks_if (nat_eq last i)) st.looks;
        due = refl;
        answers = ap (λ (xs : List (List AnswerLine)). unwrap_or (slice_get xs i) []) (sym st.answers);
        notes = subst (λ (ls : List Look). Alike (looks_if (nat_eq last i) ls) (notes_of i us) (notes_of i ts)) (sym st.looks)
            (notes_print o.program.program i o.program.looks may.looks (nat_eq last i) us ts beside);
        rest = drop (calls_by i ts) os;
        outcomes = sym (take-append-drop (calls_by i ts) os);
        enough = let few = have.0 in omega (arith, length-take (calls_by i ts) os, few);
      },
      rows_of last (suc i) ss oss (omega (arith, e)) have.1,
    )

    -- and the other way, with the same outcomes
    rows_back : (last i : ℕ) (ss : List Strand) (oss : List (List Outcome)) → length oss ≡ length ss → HaveOutcomes us i oss
        → Rows (strand_programs o.program last i ss) (strand_programs w last i ss) (strand_actors o.program us i oss) (strand_actors w ts i oss)
    rows_back last i [] [] e have = tt
    rows_back last i [] (os ∷ oss) e have = let no_way : ⊥ = omega (arith, e) in absurd no_way
    rows_back last i (s ∷ ss) [] e have = let no_way : ⊥ = omega (arith, e) in absurd no_way
    rows_back last i (s ∷ ss) (os ∷ oss) e have = (
      record {
        calls = record { imports = sym st.rewritten.imports; binds = sym st.binds };
        looks = ap (looks_if (nat_eq last i)) (sym st.looks);
        due = refl;
        answers = ap (λ (xs : List (List AnswerLine)). unwrap_or (slice_get xs i) []) st.answers;
        notes = alike_back (looks_if (nat_eq last i) o.program.looks) (notes_of i us) (notes_of i ts)
            (notes_print o.program.program i o.program.looks may.looks (nat_eq last i) us ts beside);
        rest = [];
        outcomes = sym (append-nil os);
        enough = have.0;
      },
      rows_back last (suc i) ss oss (omega (arith, e)) have.1,
    )

  starting : (x : Staged) → StartsStrands HeldStrands w x → EachMet x.actors → StrandsOrderly o (met_in x) → Starting o x
  starting x h meets ord =
      let ts : List Told = h.told in
      let oss : List (List Outcome) = met_of ts 0 h.outcomes in
      let have : HaveOutcomes ts 0 h.outcomes = actors_have w ts 0 h.outcomes (subst EachMet h.actors_are meets) in
      let is_met : met_in x ≡ oss = ap (λ (xs : List Actor). map met xs) h.actors_are ∙ actors_met w ts 0 h.outcomes in
      let orderly : StrandsOrderly o oss = subst (StrandsOrderly o) is_met ord in
      let story = stories_of_originals o w oss ts st may orderly (stories_of_met w h.outcomes ts h.wide h.tells have) in
      let us : List Told = story.0 in
      let strands : w.program.strands ≡ o.program.program.strands = ap (λ (q : StrandProgram). q.strands) st.program in
      let wide : length h.outcomes ≡ length o.program.program.strands = h.wide ∙ ap length strands in
      let last : last_strand us ≡ last_strand ts = last_same o.program.program us ts story.2 in
      let y : Staged = record { programs = strand_programs o.program (last_strand us) 0 o.program.program.strands; actors = strand_actors o.program us 0 oss } in
      let programs : x.programs ≡ strand_programs w (last_strand us) 0 o.program.program.strands =
      h.programs_are ∙ ap (λ n. strand_programs w n 0 w.program.strands) (sym last) ∙ ap (strand_programs w (last_strand us) 0) strands in (
        y,
        record {
          outcomes = oss;
          told = us;
          wide = met_wide ts 0 h.outcomes ∙ wide;
          tells = story.1;
          programs_are = refl;
          actors_are = refl;
        },
        subst (λ (ps : List Program). Rows ps y.programs x.actors y.actors) (sym programs)
            (subst (λ (acts : List Actor). Rows (strand_programs w (last_strand us) 0 o.program.program.strands) y.programs acts y.actors) (sym h.actors_are)
            (rows_of us ts story.2 (last_strand us) 0 o.program.program.strands h.outcomes wide have)),
      )

  -- the strands of the program in its place, where the original's are bounded
  starting_held : (y : Staged) → StartsStrung o y → EachMet y.actors → StrandsOrderly o (outcomes_in y) → StrandsBounded o (outcomes_in y) → Held o w y
  starting_held y h meets ord bounded =
      let oss : List (List Outcome) = h.outcomes in
      let us : List Told = h.told in
      let have : HaveOutcomes us 0 oss = actors_have o.program us 0 oss (subst EachMet h.actors_are meets) in
      let same : outcomes_in y ≡ oss = ap (λ (xs : List Actor). map (λ (a : Actor). a.outcomes) xs) h.actors_are ∙ outcomes_are o.program us 0 oss in
      let story = story_held o w oss st may (subst (StrandsOrderly o) same ord) (subst (StrandsBounded o) same bounded) us h.tells in
      let ts : List Told = story.0 in
      let strands : w.program.strands ≡ o.program.program.strands = ap (λ (q : StrandProgram). q.strands) st.program in
      let last : last_strand us ≡ last_strand ts = last_same o.program.program us ts story.2 in
      let x : Staged = record { programs = strand_programs w (last_strand us) 0 o.program.program.strands; actors = strand_actors w ts 0 oss } in (
        x,
        record {
          outcomes = oss;
          told = ts;
          wide = h.wide ∙ ap length (sym strands);
          tells = story.1;
          programs_are = ap (λ n. strand_programs w n 0 o.program.program.strands) last ∙ ap (strand_programs w (last_strand ts) 0) (sym strands);
          actors_are = refl;
        },
        subst (λ (ps : List Program). Rows ps x.programs y.actors x.actors) (sym h.programs_are)
            (subst (λ (acts : List Actor). Rows (strand_programs o.program (last_strand us) 0 o.program.program.strands) x.programs acts x.actors) (sym h.actors_are)
            (rows_back us ts story.2 (last_strand us) 0 o.program.program.strands oss h.wide have)),
      )

-- ---- of all programs

abbrev programs_in : List Staged → List Program
programs_in xs = joined (map (λ (x : Staged). x.programs) xs)

abbrev actors_in : List Staged → List Actor
actors_in xs = joined (map (λ (x : Staged). x.actors) xs)

met_front : (xs ys : List Actor) → EachMet (xs ++ ys) → EachMet xs
met_front [] ys h = tt
met_front (x ∷ xs) ys h = (h.0, met_front xs ys h.1)

met_behind : (xs ys : List Actor) → EachMet (xs ++ ys) → EachMet ys
met_behind [] ys h = h
met_behind (x ∷ xs) ys h = met_behind xs ys h.1

all_starting : (os : List StrandOriginal) (ws : List StrandsInWorld) (xs : List Staged) → AllZip StrandsStandIn os ws → All StrandsMayRun os → AllZip (StartsStrands HeldStrands) ws xs
    → EachMet (actors_in xs) → AllZip (λ (o : StrandOriginal) (x : Staged). StrandsOrderly o (met_in x)) os xs
    → (ys : List Staged) × AllZip StartsStrung os ys × Rows (programs_in xs) (programs_in ys) (actors_in xs) (actors_in ys)
all_starting [] [] [] st may h meets ord = ([], tt, tt)
all_starting (o ∷ os) (w ∷ ws) (x ∷ xs) st may h meets ord =
    let one = starting o w st.0 (All-head StrandsMayRun o os may) x h.0 (met_front x.actors (actors_in xs) meets) ord.0 in
    let on = all_starting os ws xs st.1 (All-tail StrandsMayRun o os may) h.1 (met_behind x.actors (actors_in xs) meets) ord.1 in (
      one.0 ∷ on.0,
      (one.1, on.1),
      rows_on x.programs (programs_in xs) one.0.programs (programs_in on.0) x.actors (actors_in xs) one.0.actors (actors_in on.0) one.2 on.2,
    )
all_starting [] (w ∷ ws) xs st may h meets ord = absurd st
all_starting (o ∷ os) [] xs st may h meets ord = absurd st
all_starting [] [] (x ∷ xs) st may h meets ord = absurd h
all_starting (o ∷ os) (w ∷ ws) [] st may h meets ord = absurd h

abbrev Bounded : StrandOriginal → Staged → Type 0
Bounded o y = StrandsOrderly o (outcomes_in y) × StrandsBounded o (outcomes_in y)

all_held : (os : List StrandOriginal) (ws : List StrandsInWorld) (ys : List Staged) → AllZip StrandsStandIn os ws → All StrandsMayRun os → AllZip StartsStrung os ys → EachMet (actors_in ys) → AllZip Bounded os ys
    → (xs : List Staged) × AllZip (StartsStrands HeldStrands) ws xs × Rows (programs_in ys) (programs_in xs) (actors_in ys) (actors_in xs)
all_held [] [] [] st may h meets ord = ([], tt, tt)
all_held (o ∷ os) (w ∷ ws) (y ∷ ys) st may h meets ord =
    let one = starting_held o w st.0 (All-head StrandsMayRun o os may) y h.0 (met_front y.actors (actors_in ys) meets) ord.0.0 ord.0.1 in
    let on = all_held os ws ys st.1 (All-tail StrandsMayRun o os may) h.1 (met_behind y.actors (actors_in ys) meets) ord.1 in (
      one.0 ∷ on.0,
      (one.1, on.1),
      rows_on y.programs (programs_in ys) one.0.programs (programs_in on.0) y.actors (actors_in ys) one.0.actors (actors_in on.0) one.2 on.2,
    )
all_held [] (w ∷ ws) ys st may h meets ord = absurd st
all_held (o ∷ os) [] ys st may h meets ord = absurd st
all_held [] [] (y ∷ ys) st may h meets ord = absurd h
all_held (o ∷ os) (w ∷ ws) [] st may h meets ord = absurd h

-- ---- lines

abbrev SameSizes : List StrandProgram → List StrandProgram → Type 0
SameSizes = AllZip (λ (p q : StrandProgram). length p.strands ≡ length q.strands)

line_same : (n : ℕ) (ps qs : List StrandProgram) (i tick : ℕ) (e : Event) → SameSizes ps qs → strand_line n ps i tick e ≡ strand_line n qs i tick e
line_same n [] [] i tick e h = refl
line_same n [] (q ∷ qs) i tick e h = absurd h
line_same n (p ∷ ps) [] i tick e h = absurd h
line_same n (p ∷ ps) (q ∷ qs) i tick e h =
    ap (λ k. if nat_lt i k then record { tick = tick; program = n; strand = strand_in i e; event = e } else strand_line (suc n) ps (i - k) tick e) h.0
    ∙ ap (λ (z : StrandLine). if nat_lt i (length q.strands) then record { tick = tick; program = n; strand = strand_in i e; event = e } else z)
    (line_same (suc n) ps qs (i - length q.strands) tick e h.1)

lines_same : (ps qs : List StrandProgram) (lines : List Line) → SameSizes ps qs → strand_lines ps lines ≡ strand_lines qs lines
lines_same ps qs [] h = refl
lines_same ps qs (l ∷ ls) h =
    ap (λ (z : StrandLine). z ∷ strand_lines ps ls) (line_same 0 ps qs l.program l.tick l.event h)
    ∙ ap (λ (zs : List StrandLine). strand_line 0 qs l.program l.tick l.event ∷ zs) (lines_same ps qs ls h)

abbrev programs_of : List StrandsInWorld → List StrandProgram
programs_of gs = map (λ (g : StrandsInWorld). g.program) gs

abbrev of_originals : List StrandOriginal → List StrandsInWorld
of_originals os = map (λ (o : StrandOriginal). o.program) os

sizes_same : (os : List StrandOriginal) (ws : List StrandsInWorld) → AllZip StrandsStandIn os ws → SameSizes (programs_of ws) (programs_of (of_originals os))
sizes_same [] [] st = tt
sizes_same [] (w ∷ ws) st = absurd st
sizes_same (o ∷ os) [] st = absurd st
sizes_same (o ∷ os) (w ∷ ws) st = (ap (λ (q : StrandProgram). length q.strands) st.0.program, sizes_same os ws st.1)

-- ---- the laws

pub worlds_of_originals : StrandWorldsOfOriginals
worlds_of_originals os ws detaches ds ds' lines st may world ord =
    let r = world.runs in
    let meets = events_met (programs_in world.staged) detaches 1 (actors_in world.staged) ds r.flat r.last ds' r.events r.over in
    let s = all_starting os ws world.staged st may world.starts meets ord in
    let e = events_beside (programs_in world.staged) (programs_in s.0) detaches 1 (actors_in world.staged) (actors_in s.0) ds r.flat r.last ds' s.2 r.events in
    record {
      staged = s.0;
      starts = s.1;
      runs = record {
        flat = r.flat;
        last = e.0;
        events = e.1;
        over = over_beside (programs_in world.staged) (programs_in s.0) r.last e.0 e.2 r.over;
        made = r.made ∙ lines_same (programs_of ws) (programs_of (of_originals os)) r.flat (sizes_same os ws st);
      };
    }

pub bounded_worlds_held : BoundedWorldsAreHeld
bounded_worlds_held os ws detaches ds ds' lines st may world ord =
    let r = world.runs in
    let meets = events_met (programs_in world.staged) detaches 1 (actors_in world.staged) ds r.flat r.last ds' r.events r.over in
    let s = all_held os ws world.staged st may world.starts meets ord in
    let e = events_beside (programs_in world.staged) (programs_in s.0) detaches 1 (actors_in world.staged) (actors_in s.0) ds r.flat r.last ds' s.2 r.events in
    record {
      staged = s.0;
      starts = s.1;
      runs = record {
        flat = r.flat;
        last = e.0;
        events = e.1;
        over = over_beside (programs_in world.staged) (programs_in s.0) r.last e.0 e.2 r.over;
        made = r.made ∙ sym (lines_same (programs_of ws) (programs_of (of_originals os)) r.flat (sizes_same os ws st));
      };
    }

pub emitted_are_rewritten : EmittedAreRewritten
emitted_are_rewritten m s told q can free em = let parts = rewritten_as m s told q can free em in record { imports = parts.imports; behave = strands_of_emitted m s told q can free em }

pub compared_are_orderly : ComparedAreOrderly
compared_are_orderly o oss which tells none cmp = record {
  compared = cmp;
  which = which;
  tells = tells;
  numbered = pauses_at_numbers o.settings which o.program.program oss o.program.steps tells none cmp.listed;
}
