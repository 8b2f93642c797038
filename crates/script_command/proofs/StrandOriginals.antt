-- What is told of programs with strands over rewritten modules is told of their originals.
use Rattle.std.proofs.Common.{arith, ◌≡◌, ◌<◌, ℕ, zero, suc, List, [], ◌∷◌, ◌++◌, length, map, take, drop, Option, Some, Bool, true, false, All, Ok, refl, sym, ap, ◌∙◌, subst}
use Rattle.std.specs.Prelude.{◌+◌, nat_lt, slice_get}
use Rattle.std.specs.Option.{option_map, unwrap_or}
use Rattle.std.specs.List.{AllZip}
use Rattle.std.proofs.lemmas.List.Elements.{All-nil, All-cons, All-head, All-tail}
use Rattle.std.proofs.lemmas.Option.{slice_get-map}
use Rattle.wa_types.specs.declared.syntax.Import.{Import}
use Rattle.wa_types.specs.Modules.{imported, imported_global}
use Rattle.wa_types.specs.Sizes.{value_fits}
use Rattle.wa_types.specs.Syntax.{Module}
use Rattle.wa_types.specs.Typing.{GlobalType}
use Rattle.wa_model.specs.declared.answers.Area.{Area}
use Rattle.wa_model.specs.Blocking.{overlap}
use Rattle.wa_model.specs.Outside.{AnswerLine}
use Rattle.wa_model.specs.Plan.{AnswerFits, AreLawful, Entry, EntryFits, Fits, Outcome, OutcomeFits}
use Rattle.world_model.specs.World.{Actor}
use Rattle.world_laws.specs.Originals.{met, new_calls}
use Rattle.world_laws.proofs.Meeting.{AnswersFit, EachMet, Met, events_met}
use Rattle.world_laws.proofs.Worlds.{take_first}
use Rattle.strand_laws.specs.StrandOriginals.{LooksOff, StrandsMayRun, StrandsOrderly, StrandsStandIn}
use Rattle.strand_laws.specs.Strands as S
use Rattle.strand_laws.specs.Strands.{AreApart, Strand, StrandProgram, StrandsCompared, no_strand, plan_of, strand_at}
use Rattle.strand_laws.specs.StrandsMet.{met_in}
use Rattle.strand_laws.specs.StrandWorld.{HeldStrands, Staged, StartsStrands, StrandOriginal, StrandsInWorld, answers_of, joined, notes_of, strand_actors}
use Rattle.strand_laws.specs.Woven.{Told}
use Rattle.strand_laws.proofs.StrandsMet.{actors_met, met_wide}
use Rattle.strand_laws.proofs.StrandWorlds.{compared_are_orderly, emitted_are_rewritten, worlds_of_originals}
use Rattle.pause_host.specs.Settings.{calls_of}
use Rattle.host_setup.specs.SetUp.{set_up}
use Rattle.script_model.specs.Script.{EntryText, ProgramText, ShowText, StrandText}
use Rattle.script_setup.specs.Bindings.{bound_imports}
use Rattle.script_setup.specs.SetUpRules.{named_entry, overlaps}
use Rattle.script_setup.specs.StrandSetUps.{EachSetUp}
use Rattle.script_setup.proofs.GlobalTypes.{Given, given_by_rules}
use Rattle.script_setup.proofs.StrandSetUps.{OffAreas, each_set_up, shown_off}
use Rattle.world_hosting.specs.OriginalRuns.{Source}
use Rattle.world_hosting.specs.Worlds.{HasStrandRanges, Part, look_at}
use Rattle.world_hosting.proofs.Originals.{set_up_fits, values_lawful}
use Rattle.world_hosting.proofs.Values.{off}
use Rattle.script_command.specs.StrandOriginals.{IsStrandsRewritten, StrandsStayOff, StrandsToldOfOriginals, strand_original_for, strand_originals_for}
use Rattle.script_command.specs.StrandWorlds.{part_strands, strand_of, strands_from}
use Rattle.script_command.proofs.StrandAreas.{areas_of, two_apart}

-- ---- the strands of a program

some_strand : (area : Area) (es : List EntryText) (ss : List StrandText) (funcs : List ℕ) → 0 < length (strands_from area es ss funcs)
some_strand area es [] funcs = omega arith
some_strand area es (s ∷ ss) funcs = omega arith

areas_are : (area : Area) (es : List EntryText) (ss : List StrandText) (funcs : List ℕ) → map (λ (x : Strand). x.area) (strands_from area es ss funcs) ≡ area ∷ areas_of ss
areas_are area es [] funcs = refl
areas_are area es (s ∷ ss) funcs = ap (λ (areas : List Area). area ∷ areas) (areas_are s.area s.entries ss (drop (length es) funcs))

-- the entries take the first so many functions
calls_taken : (es : List EntryText) (funcs : List ℕ) → calls_of (map named_entry es) (take (length es) funcs) ≡ calls_of (map named_entry es) funcs
calls_taken [] funcs = refl
calls_taken (e ∷ es) [] = refl
calls_taken (e ∷ es) (f ∷ fs) = ap (λ (cs : List Entry). record { func = f; args = e.args } ∷ cs) (calls_taken es fs)

got : {X : Type 0} (xs : List X) (i : ℕ) → i < length xs → (x : X) × (slice_get xs i ≡ Some x)
got [] i lt = absurd (omega (arith, lt))
got (x ∷ xs) zero lt = (x, refl)
got (x ∷ xs) (suc i) lt = got xs i (omega (arith, lt))

-- ---- the outcomes that calls met

one_fits : (a : Actor) → AnswersFit a.answers → Met a → All OutcomeFits (met a)
one_fits a fit meets =
    let t = meets.2 in
    let is_met : met a ≡ t.0 = ap (take (new_calls a.notes)) t.1 ∙ take_first t.0 meets.0 (new_calls a.notes) t.2 in
    subst (All OutcomeFits) (sym is_met) (t.3 fit).0

abbrev EachFits : List (List Outcome) → Type 0
EachFits oss = All (λ (os : List Outcome). All OutcomeFits os) oss

each_fits : (w : StrandsInWorld) (ts : List Told) (i : ℕ) (oss : List (List Outcome)) → ((k : ℕ) → AnswersFit (answers_of w k)) → EachMet (strand_actors w ts i oss)
    → EachFits (map met (strand_actors w ts i oss))
each_fits w ts i [] fit meets = All-nil (λ (os : List Outcome). All OutcomeFits os)
each_fits w ts i (os ∷ oss) fit meets =
    let a : Actor = record { due = 0; notes = notes_of i ts; outcomes = os; answers = answers_of w i } in
    All-cons (λ (us : List Outcome). All OutcomeFits us) (met a) (map met (strand_actors w ts (suc i) oss)) (one_fits a (fit i) meets.0) (each_fits w ts (suc i) oss fit meets.1)

met_front : (xs ys : List Actor) → EachMet (xs ++ ys) → EachMet xs
met_front [] ys h = tt
met_front (x ∷ xs) ys h = (h.0, met_front xs ys h.1)

met_behind : (xs ys : List Actor) → EachMet (xs ++ ys) → EachMet ys
met_behind [] ys h = h
met_behind (x ∷ xs) ys h = met_behind xs ys h.1

-- ---- one program

module _ (x : Source) (y : Part) (is : IsStrandsRewritten x y) where
  abbrev m : Module
  m = x.original

  abbrev p : Module
  p = y.source

  abbrev t : ProgramText
  t = y.text

  abbrev o : StrandOriginal
  o = strand_original_for x y

  abbrev g : StrandProgram
  g = o.program.program

  given : Given true is.boxes p t y.given
  given = given_by_rules true is.boxes p t y.given is.set_up

  areas_same : S.areas_of g ≡ t.area ∷ areas_of t.strands
  areas_same = areas_are t.area t.entries t.strands y.given.funcs

  -- ---- each strand's plan fits the original

  lawful : AreLawful (map (λ (v : GlobalType). v.ty) (imported imported_global m)) y.given.globals
  lawful = values_lawful m p x.settings is.rewrites is.which is.can.tells is.boxes t y.given is.set_up is.ranges.globals

  abbrev FitsOne : Strand → Type 0
  FitsOne s = Fits m (plan_of g s)

  one_plan : (area : Area) (es : List EntryText) (funcs fs : List ℕ) → calls_of (map named_entry es) fs ≡ calls_of (map named_entry es) funcs → set_up p area (map named_entry es) ≡ Ok fs
      → All (λ (e : EntryText). All value_fits e.args) es → FitsOne (strand_of area es funcs)
  one_plan area es funcs fs same set ranges =
      let fits = set_up_fits m p x.settings is.rewrites is.which is.can.tells area es fs set ranges in
      record { globals = lawful; entries = subst (λ (cs : List Entry). All (EntryFits m) cs) same fits.0; area = fits.1 }

  all_plans : (area : Area) (es : List EntryText) (ss : List StrandText) (funcs : List ℕ) → EachSetUp p area es ss funcs → All (λ (e : EntryText). All value_fits e.args) es
      → All HasStrandRanges ss → All FitsOne (strands_from area es ss funcs)
  all_plans area es [] funcs set ranges more = All-cons FitsOne (strand_of area es funcs) [] (one_plan area es funcs funcs refl set ranges) (All-nil FitsOne)
  all_plans area es (s ∷ ss) funcs set ranges more =
      All-cons FitsOne (strand_of area es funcs) (strands_from s.area s.entries ss (drop (length es) funcs))
      (one_plan area es funcs (take (length es) funcs) (calls_taken es funcs) set.0 ranges)
      (all_plans s.area s.entries ss (drop (length es) funcs) set.1 (All-head HasStrandRanges s ss more).entries (All-tail HasStrandRanges s ss more))

  fits : All FitsOne g.strands
  fits = all_plans t.area t.entries t.strands y.given.funcs (each_set_up p t y.given.funcs given.funcs) is.ranges.entries is.ranges.strands

  -- ---- areas

  area_at : (i : ℕ) → i < length g.strands → slice_get (t.area ∷ areas_of t.strands) i ≡ Some (strand_at g i).area
  area_at i lt =
      let s = got g.strands i lt in
      ap (λ (areas : List Area). slice_get areas i) (sym areas_same) ∙ slice_get-map (λ (z : Strand). z.area) g.strands i ∙ ap (option_map (λ (z : Strand). z.area)) s.1
      ∙ sym (ap (λ (q : Option Strand). Some (unwrap_or q no_strand).area) s.1)

  apart : (i j : ℕ) → i < length g.strands → j < length g.strands → (i ≡ j → ⊥) → AreApart (strand_at g i).area (strand_at g j).area
  apart i j li lj differ = two_apart t.area t.strands given.apart i j (strand_at g i).area (strand_at g j).area (area_at i li) (area_at j lj) differ

  -- ---- what is shown

  look_off : (s : ShowText) (areas : List Area) → All (λ (a : Area). overlaps a s ≡ false) areas → LooksOff areas (look_at s)
  look_off s [] h = All-nil (λ (a : Area). overlap s.at s.len a.at a.len ≡ false)
  look_off s (a ∷ areas) h =
      All-cons (λ (b : Area). overlap s.at s.len b.at b.len ≡ false) a areas
      (off (nat_lt 0 s.len) (nat_lt 0 a.len) (nat_lt s.at (a.at + a.len)) (nat_lt a.at (s.at + s.len)) (All-head (λ (b : Area). overlaps b s ≡ false) a areas h))
      (look_off s areas (All-tail (λ (b : Area). overlaps b s ≡ false) a areas h))

  looks_off : (shows : List ShowText) → All (OffAreas t.area t.strands) shows → All (LooksOff (t.area ∷ areas_of t.strands)) (map look_at shows)
  looks_off [] h = All-nil (LooksOff (t.area ∷ areas_of t.strands))
  looks_off (s ∷ shows) h =
      All-cons (LooksOff (t.area ∷ areas_of t.strands)) (look_at s) (map look_at shows) (look_off s (t.area ∷ areas_of t.strands) (All-head (OffAreas t.area t.strands) s shows h))
      (looks_off shows (All-tail (OffAreas t.area t.strands) s shows h))

  -- ---- the original, and the program in its place

  abbrev planned : Option (List Bool) → StrandProgram
  planned listed = record { source = p; globals = y.given.globals; listed = listed; strands = g.strands }

  pub strands_stand_in : StrandsStandIn o (part_strands y)
  strands_stand_in = record {
    rewritten = emitted_are_rewritten m x.settings is.which p is.can is.free is.emitted;
    program = ap planned is.listed;
    steps = refl;
    answers = refl;
    binds = ap (λ (imports : List Import). bound_imports imports t.binds) is.rewrites.parts.imports;
    looks = refl;
  }

  pub strands_may_run : StrandsMayRun o
  strands_may_run = record {
    well_formed = is.well_formed;
    looks = subst (λ (areas : List Area). All (LooksOff areas) o.program.looks) (sym areas_same) (looks_off t.shows (shown_off t.area t.strands t.shows given.shows));
  }

  -- ---- its outcomes

  fit_of : (ss : List StrandText) → All HasStrandRanges ss → (k : ℕ) → AnswersFit (unwrap_or (slice_get (map (λ (s : StrandText). s.answers) ss) k) [])
  fit_of [] h k = All-nil (λ (l : AnswerLine). AnswerFits l.answer)
  fit_of (s ∷ ss) h zero = (All-head HasStrandRanges s ss h).answers
  fit_of (s ∷ ss) h (suc k) = fit_of ss (All-tail HasStrandRanges s ss h) k

  answers_fit : (k : ℕ) → AnswersFit (answers_of (part_strands y) k)
  answers_fit zero = is.ranges.answers
  answers_fit (suc k) = fit_of t.strands is.ranges.strands k

  module _ (z : Staged) (starts : StartsStrands HeldStrands (part_strands y) z) (meets : EachMet z.actors) where
    wide : length (met_in z) ≡ length g.strands
    wide =
        ap (λ (acts : List Actor). length (map met acts)) starts.actors_are ∙ ap (λ (oss : List (List Outcome)). length oss) (actors_met (part_strands y) starts.told 0 starts.outcomes)
        ∙ met_wide starts.told 0 starts.outcomes ∙ starts.wide

    outcomes : EachFits (met_in z)
    outcomes =
        subst (λ (acts : List Actor). EachFits (map met acts)) (sym starts.actors_are)
        (each_fits (part_strands y) starts.told 0 starts.outcomes answers_fit (subst EachMet starts.actors_are meets))

    pub strands_orderly : StrandsStayOff o z → StrandsOrderly o (met_in z)
    strands_orderly calm =
        compared_are_orderly o (met_in z) is.which is.can.tells is.heeds
        (record {
          some = some_strand t.area t.entries t.strands y.given.funcs;
          fits = fits;
          listed = refl;
          apart = apart;
          wide = wide;
          outcomes = outcomes;
          untouched = calm;
        })

-- ---- all of them

abbrev actors_in : List Staged → List Actor
actors_in zs = joined (map (λ (z : Staged). z.actors) zs)

all_stand_in : (xs : List Source) (ys : List Part) → AllZip IsStrandsRewritten xs ys → AllZip StrandsStandIn (strand_originals_for xs ys) (map part_strands ys)
all_stand_in [] [] h = tt
all_stand_in [] (y ∷ ys) h = absurd h
all_stand_in (x ∷ xs) [] h = absurd h
all_stand_in (x ∷ xs) (y ∷ ys) h = (strands_stand_in x y h.0, all_stand_in xs ys h.1)

all_may_run : (xs : List Source) (ys : List Part) → AllZip IsStrandsRewritten xs ys → All StrandsMayRun (strand_originals_for xs ys)
all_may_run [] ys h = All-nil StrandsMayRun
all_may_run (x ∷ xs) [] h = All-nil StrandsMayRun
all_may_run (x ∷ xs) (y ∷ ys) h = All-cons StrandsMayRun (strand_original_for x y) (strand_originals_for xs ys) (strands_may_run x y h.0) (all_may_run xs ys h.1)

abbrev MetOrderly : StrandOriginal → Staged → Type 0
MetOrderly o z = StrandsOrderly o (met_in z)

all_orderly : (xs : List Source) (ys : List Part) (zs : List Staged) → AllZip IsStrandsRewritten xs ys → AllZip (StartsStrands HeldStrands) (map part_strands ys) zs → EachMet (actors_in zs)
    → AllZip StrandsStayOff (strand_originals_for xs ys) zs → AllZip MetOrderly (strand_originals_for xs ys) zs
all_orderly [] ys [] h starts meets calm = tt
all_orderly [] ys (z ∷ zs) h starts meets calm = absurd calm
all_orderly (x ∷ xs) [] zs h starts meets calm = absurd h
all_orderly (x ∷ xs) (y ∷ ys) [] h starts meets calm = absurd calm
all_orderly (x ∷ xs) (y ∷ ys) (z ∷ zs) h starts meets calm = (
  strands_orderly x y h.0 z starts.0 (met_front z.actors (actors_in zs) meets) calm.0,
  all_orderly xs ys zs h.1 starts.1 (met_behind z.actors (actors_in zs) meets) calm.1,
)

pub strands_of_originals : StrandsToldOfOriginals
strands_of_originals xs ys detaches ds ds' lines h world calm =
    let r = world.runs in
    let meets = events_met (joined (map (λ (z : Staged). z.programs) world.staged)) detaches 1 (actors_in world.staged) ds r.flat r.last ds' r.events r.over in
    worlds_of_originals (strand_originals_for xs ys) (map part_strands ys) detaches ds ds' lines (all_stand_in xs ys h) (all_may_run xs ys h) world
    (all_orderly xs ys world.staged h world.starts meets calm)
