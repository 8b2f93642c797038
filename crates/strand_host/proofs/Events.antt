-- What a program with strands has told once a strand has told one event more.
use Rattle.std.proofs.Common.{◌≡◌, ℕ, zero, suc, ◌+◌, ◌-◌, ◌≤◌, ◌<◌, ◌⊎◌, inl, inr, Bool, true, false, cond, List, [], ◌∷◌, ◌++◌, length, Option, Some, None, All, refl, sym, ap, ◌∙◌, subst, arith, ◌||◌}
use Rattle.std.specs.Prelude.{slice_get, slice_set, nat_eq, nat_lt}
use Rattle.std.specs.Option.{option_map, unwrap_or}
use Rattle.std.proofs.Math.ListN.{length-set}
use Rattle.std.proofs.lemmas.Bool.{ltb-true, ltb-false}
use Rattle.std.proofs.Common.{eqb-true, eq-eqb}
use Rattle.wa_types.specs.Modules.{all_memories, imported, imported_global}
use Rattle.wa_types.specs.Syntax.{Module}
use Rattle.wa_types.specs.Validity.{Valid}
use Rattle.wa_model.specs.declared.events.End.{End}
use Rattle.wa_model.specs.declared.events.End.TheVariants as E
use Rattle.wa_model.specs.Outside.{AnswerLine, Event, called, answered, paused, parked, returned, ended, shown}
use Rattle.wa_model.specs.Blocking as B
use Rattle.wa_model.specs.Blocking.{Note}
use Rattle.wa_model.specs.Plan.{Outcome, Plan}
use Rattle.wa_model.specs.Protocol.{Held, calling, call_again, exports_of, over, rewinds, store_held}
use Rattle.wa_model.specs.Store.{Store}
use Rattle.world_model.specs.World.{ends_turn, is_end, ticks_in}
use Rattle.run_theory.specs.Fitting.{StoreFits, global_types, types_of}
use Rattle.run_laws.specs.FittingStates.{HeldFits}
use Rattle.world_laws.proofs.Places.{item, set_here, set_there}
use Rattle.interp.specs.declared.instance.Instance.{Instance}
use Rattle.interp.specs.Host.{code_in, store_in, waits_in, memory_in}
use Rattle.host_laws.specs.Places.{Place, has_ended, stands}
use Rattle.host_laws.specs.Stretch.{IsSpent, Stretch}
use Rattle.pause_host.specs.Holding.{HeldHolds}
use Rattle.pause_host.specs.Moves.{HasShortPokes, IsSetting}
use Rattle.wa_types.specs.declared.values.Value.TheVariants as V
use Rattle.wa_model.specs.View.{answer_of}
use Rattle.pause_host.specs.declared.stages.Pause.{Pause}
use Rattle.pause_host.specs.declared.stages.Stage.{Stage}
use Rattle.pause_host.specs.declared.stages.Stage.TheVariants as S
use Rattle.pause_host.specs.Views.{entry_of, is_pause, is_paused, left_of, lines_in, place_in}
use Rattle.pause_host.proofs.Comings.{fits_on}
use Rattle.pause_host.proofs.Holding.{area_longer, holds_on, phase_longer}
use Rattle.strand_laws.specs.StrandWorld.{StrandsInWorld}
use Rattle.strand_laws.specs.Strands.{plan_of, strand_at}
use Rattle.strand_laws.specs.ToldStrands.{ProgramTeller, StrandTeller, having_told, told_on}
use Rattle.strand_laws.specs.Weaving.{is_ready}
use Rattle.strand_laws.specs.Woven.{Thread, ends_strand, put}
use Rattle.strand_host.specs.declared.strands.Going.{Going}
use Rattle.strand_host.specs.declared.strands.Strand.{Strand}
use Rattle.strand_host.specs.declared.strands.Then.TheVariants.{GoesOn}
use Rattle.strand_host.specs.declared.program.StrandProgram.{StrandProgram}
use Rattle.strand_host.specs.declared.program.State.TheVariants.{Between, Over, Runs}
use Rattle.strand_host.specs.Standing.{AllOver, BetweenTurns, GoesSo, InTurn, LastMoveLeads, NoTurnIsLeft, ProgramEnds, StepsRunOut, StrandEnds, TurnPauses, TurnTells, as_before, as_due, behind_start, by_last_move, dues_of_strands, either_way, is_in_start, longest_pause, AreWaiting}
use Rattle.strand_host.specs.StrandPrograms.{AllEnded, AtPlace, BetweenAt, EndedAt, FollowsStrands, InStart, InTurnAt, IsProgram, IsStrand, NotesFit, Row, RowIs, Settles, StandsSo, Stock, TurnAt, due_at, leads_to, end_leads_to, memory_at, memory_of, place_of, set_to, stock_of, world_strand}
use Rattle.strand_host.proofs.Rows.{row_stays}
use Rattle.strand_host.proofs.StoresKept.{NotesGood, ready_good, stretch_good}

-- A strand that stands here tells this note next, by so many steps, and is there then.
pub data LandsSo (p : Module) (plan : Plan) (steps : ℕ) (starts : Bool) (ready : List Note) (h : Held) (os : List Outcome) (left : ℕ) (y : Note) (used : ℕ) (starts' : Bool) : Place → Type 0 where
  tells : (made behind : List Note) → (h' : Held) → GoesSo p plan starts ready h os made used h' starts' → ready ++ made ≡ y ∷ behind → is_end y.event ≡ false
      → LandsSo p plan steps starts ready h os left y used starts' (stands behind h')
  ends : (how : End) → (made : List Note) → (at : Store) → GoesSo p plan starts ready h os made used (over at) starts' → ready ++ made ≡ y ∷ [] → y.event ≡ ended how
      → LandsSo p plan steps starts ready h os left y used starts' (has_ended how)
  spends : (h' : Held) → Stretch p plan h os [] used h' → ready ≡ [] → IsSpent p plan (left - used) h' → y ≡ B.note (ended (E.StepsSpent steps)) (store_held h')
      → LandsSo p plan steps starts ready h os left y used starts' (has_ended (E.StepsSpent steps))

-- The laws of where a host stands.
pub record Laws : Type 0 where
  pub last_move : LastMoveLeads
  pub turn_tells : TurnTells
  pub turn_pauses : TurnPauses
  pub strand_ends : StrandEnds
  pub program_ends : ProgramEnds
  pub steps_run_out : StepsRunOut
  pub no_turn_is_left : NoTurnIsLeft

some_same : {A : Type 0} (o : Option A) (a b : A) → o ≡ Some a → o ≡ Some b → a ≡ b
some_same o a b x y = let e : Some a ≡ Some b = sym x ∙ y in cc

-- no strand is left
all_over : (g : StrandsInWorld) (t : ProgramTeller) (x : Stock) (ts : List (Thread Held)) (low : ℕ) → length t.strands ≡ length g.program.strands
    → ((i : ℕ) → i < length g.program.strands → Row g t x ts low i) → AllEnded x.dues → AllOver (dues_of_strands t.strands)
all_over g t x ts low wide rows none k = by_row k
  where
    past : (ss : List StrandTeller) (i : ℕ) → length ss ≤ i → is_ready (slice_get (dues_of_strands ss) i) ≡ false
    past [] i le = refl
    past (s ∷ ss) zero le = let no : ⊥ = omega arith in absurd no
    past (s ∷ ss) (suc i) le = past ss i (omega arith)

    here : (ss : List StrandTeller) (i : ℕ) (s : StrandTeller) → slice_get ss i ≡ Some s → s.has_ended ≡ true → is_ready (slice_get (dues_of_strands ss) i) ≡ false
    here [] i s e gone = refl
    here (z ∷ ss) zero s e gone =
        let same : z ≡ s = cc in
        ap (λ (b : Bool). is_ready (Some (as_due (record z { has_ended = b })))) (ap (λ (y : StrandTeller). y.has_ended) same ∙ gone)
    here (z ∷ ss) (suc i) s e gone = here ss i s e gone

    ended_row : (i : ℕ) (r : Row g t x ts low i) → (slot : Option Strand) (due : Option ℕ) → r.slot ≡ slot → r.due ≡ due → r.teller.has_ended ≡ true
    ended_row i r (Some s) (Some d) e f = absurd (none i d (r.due_is ∙ ap Some f))
    ended_row i r (Some s) None e f =
        let row = subst (λ o. RowIs g i x.setting low o r.due r.teller r.thread) e r.row in
        let no : None ≡ Some r.teller.due = sym f ∙ row.1 in cc
    ended_row i r None due e f = (subst (λ o. RowIs g i x.setting low o r.due r.teller r.thread) e r.row).0

    by_row : (i : ℕ) → is_ready (slice_get (dues_of_strands t.strands) i) ≡ false
    by_row i = by_place (nat_lt i (length g.program.strands)) refl
      where
        by_place : (b : Bool) → nat_lt i (length g.program.strands) ≡ b → is_ready (slice_get (dues_of_strands t.strands) i) ≡ false
        by_place true e =
            let lt : i < length g.program.strands = ltb-true i (length g.program.strands) e in
            let r = rows i lt in
            here t.strands i r.teller r.teller_is (ended_row i r r.slot r.due refl refl)
        by_place false e =
            let le : length g.program.strands ≤ i = ltb-false i (length g.program.strands) e in
            past t.strands i (subst (λ n. n ≤ i) (sym wide) le)

-- ---- what a strand does is a stretch

module _ (laws : Laws) (p : Module) (plan : Plan) where
  pub so_stretch : (starts : Bool) (ready : List Note) (h : Held) (os : List Outcome) (made : List Note) (used : ℕ) (h' : Held) (starts' : Bool) → GoesSo p plan starts ready h os made used h' starts'
      → Stretch p plan h os made used h'
  so_stretch starts ready h os made used h' starts' (as_before none stretch) = stretch
  so_stretch starts ready h os made used h' starts' (behind_start e out stretch) = stretch
  so_stretch starts ready h os made used h' starts' (by_last_move b last) = laws.last_move p plan h h' os made used b last
  so_stretch starts ready h os made used h' starts' (either_way b tame stretch) = stretch

-- ---- notes

-- those of a machine's moves are those of a program
pub fit_of : (g : StrandsInWorld) (v : Valid g.program.source) (plan : Plan) (low : ℕ) (ys : List Note) (h : Held) → NotesGood g.program.source v plan low ys h → NotesFit g low ys h
fit_of g v plan low [] h n = tt
fit_of g v plan low (y ∷ ys) h n = (n.0.0, n.0.1, n.1, fit_of g v plan low ys h n.2)

good_of : (g : StrandsInWorld) (v : Valid g.program.source) (plan : Plan) (low : ℕ) (ys : List Note) (h : Held) → NotesFit g low ys h → NotesGood g.program.source v plan low ys h
good_of g v plan low [] h n = tt
good_of g v plan low (y ∷ ys) h n = ((n.0, n.1), n.2, good_of g v plan low ys h n.3)

fit_both : (g : StrandsInWorld) (low : ℕ) (xs ys : List Note) (h : Held) → NotesFit g low xs h → NotesFit g low ys h → NotesFit g low (xs ++ ys) h
fit_both g low [] ys h a b = b
fit_both g low (x ∷ xs) ys h a b = (a.0, a.1, a.2, fit_both g low xs ys h a.3 b)

-- the memory of an instance of the program's module
pub memory_told : (g : StrandsInWorld) (i : Instance) → nat_lt 0 (length (all_memories g.program.source)) ≡ true → code_in i ≡ g.program.source → memory_in i ≡ (store_in i).memory
memory_told g i some code = by_test (nat_lt 0 (length (all_memories (code_in i)))) (ap (λ m. nat_lt 0 (length (all_memories m))) code ∙ some)
  where
    by_test : (b : Bool) → b ≡ true → unwrap_or (cond b (Some (store_in i).memory) None) [] ≡ (store_in i).memory
    by_test true e = refl
    by_test false e = cc

-- a stage that is a pause is one
pub paused_at : (stage : Stage) → is_paused stage ≡ true → (pause : Pause) × (stage ≡ S.Paused pause)
paused_at (S.Paused pause) e = (pause, refl)
paused_at S.Free e = cc
paused_at (S.Answering task answer) e = cc
paused_at (S.Giving task value) e = cc
paused_at (S.Pausing pause) e = cc
paused_at (S.Ending end) e = cc
paused_at (S.Ended end) e = cc

-- ---- where the program then stands

module _ (laws : Laws) (g : StrandsInWorld) (t : ProgramTeller) (x : Stock) (k : ℕ) (s : Strand) (starts : Bool) (place : Place) (a : AtPlace g t x k s starts place)
    (i' : Instance) (going : Going) (number : going.number ≡ k) (area : going.strand.area ≡ s.area) (note : Note) (used : ℕ) (within : used ≤ x.steps_left) (os : List Outcome)
    (code : code_in i' ≡ g.program.source) (store_is : note.store ≡ store_in i') (pokes : All HasShortPokes (lines_in going.strand.left.answers.items)) where
  abbrev p : Module
  p = g.program.source

  abbrev plan : Plan
  plan = plan_of g.program (strand_at g.program k)

  abbrev answers : List AnswerLine
  answers = lines_in going.strand.left.answers.items

  abbrev teller' : StrandTeller
  teller' = having_told a.teller (note ∷ []) os answers

  abbrev t' : Bool → ProgramTeller
  t' last = told_on t k teller' (note ∷ []) last

  setting : IsSetting (world_strand g k) (set_to x.setting s.area)
  setting = a.strand.is_set

  -- where the stretch leads, all fits
  stretch_fits : (h' : Held) (made : List Note) → Stretch p plan a.held os made used h' → HeldFits p h'
  stretch_fits h' made stretch = fits_on p plan a.held h' os made used setting.valid setting.typed stretch a.fits

  plan_area : plan.area ≡ s.area
  plan_area = setting.area

  stretch_holds : (h' : Held) (made : List Note) → Stretch p plan a.held os made used h' → HeldHolds s.area h'
  stretch_holds h' made stretch =
      subst (λ z. HeldHolds z h') plan_area (holds_on p plan a.held h' os made used stretch (subst (λ z. HeldHolds z a.held) (sym plan_area) a.holds))

  stretch_notes : (h' : Held) (made : List Note) → Stretch p plan a.held os made used h' → NotesFit g a.low (a.ready ++ made) h'
  stretch_notes h' made stretch =
      fit_both g a.low a.ready made h'
      (fit_of g setting.valid plan a.low a.ready h' (ready_good p setting.valid plan a.low a.held h' os used a.ready made stretch (good_of g setting.valid plan a.low a.ready a.held a.notes)))
      (fit_of g setting.valid plan a.low made h' (stretch_good p setting.valid plan a.low setting.typed a.held h' os used made a.fits a.long stretch).1)

  stretch_long : (h' : Held) (made : List Note) → Stretch p plan a.held os made used h' → a.low ≤ length (store_held h').memory
  stretch_long h' made stretch = (stretch_good p setting.valid plan a.low setting.typed a.held h' os used made a.fits a.long stretch).0

  -- the others don't change
  others : (last : Bool) (x' : Stock) (ts' : List (Thread Held)) (low' : ℕ) → a.low ≤ low' → x'.setting ≡ x.setting
      → ((i : ℕ) → (i ≡ k → ⊥) → slice_get x'.strands i ≡ slice_get x.strands i) → ((i : ℕ) → (i ≡ k → ⊥) → slice_get x'.dues i ≡ slice_get x.dues i)
      → ((i : ℕ) → (i ≡ k → ⊥) → slice_get ts' i ≡ slice_get a.ts i)
      → (i : ℕ) → i < length g.program.strands → (i ≡ k → ⊥) → Row g (t' last) x' ts' low' i
  others last x' ts' low' le same slots dues threads i lt other =
      row_stays g t (t' last) x x' a.ts ts' a.low low' i le same (slots i other) (dues i other) (set_there t.strands k i teller' other) (threads i other) (a.rows i lt other)

  teller_there : (last : Bool) → slice_get (t' last).strands k ≡ Some teller'
  teller_there last = set_here t.strands k teller' a.teller a.teller_is

  program_is : (last : Bool) (x' : Stock) (ts' : List (Thread Held)) → x'.source ≡ x.source → x'.globals ≡ x.globals → length x'.strands ≡ length x.strands → length x'.dues ≡ length x.dues
      → length ts' ≡ length a.ts → IsProgram g (t' last) x' ts'
  program_is last x' ts' source globals slots dues threads =
      let is = a.is in
      record {
        source = is.source ∙ sym source;
        globals = globals ∙ is.globals;
        globals_fit = subst (λ z. types_of z ≡ global_types (imported imported_global g.program.source)) (sym globals) is.globals_fit;
        few_steps = is.few_steps;
        some = is.some;
        few = is.few;
        slots = slots ∙ is.slots;
        dues = dues ∙ is.dues;
        threads = threads ∙ is.threads;
        tellers = length-set t.strands k teller' ∙ is.tellers;
      }

  -- the strand of this number, with what is left of it
  strand_is : (teller : StrandTeller) → teller.answers ≡ answers → teller.has_ended ≡ false → IsStrand g k x.setting going.strand teller
  strand_is teller lines unfinished = record {
    is_set = subst (λ z. IsSetting (world_strand g k) (set_to x.setting z)) (sym area) setting;
    pokes = pokes;
    answers = lines;
    unfinished = unfinished;
  }

  abbrev paid : Stock
  paid = record x { steps_left = x.steps_left - used }

  -- its turn goes on
  pub goes_on : (made behind : List Note) (h' : Held) → GoesSo p plan starts a.ready a.held os made used h' going.starts → a.ready ++ made ≡ note ∷ behind → ends_turn note.event ≡ false
      → place_of g i' going.strand ≡ stands behind h' → (going.starts ≡ false → is_in_start h' ≡ false) → AreWaiting behind h' → TurnAt g (t' false) paid i' going.number going.strand going.starts
  goes_on made behind h' so made_is on place' out waiting =
      let stretch : Stretch p plan a.held os made used h' = so_stretch laws p plan starts a.ready a.held os made used h' going.starts so in
      let turn : InTurn g (t' false) (x.steps_left - used) k a.teller.due going.starts behind h' a.ts =
      laws.turn_tells g t x.steps_left k a.teller.due starts going.starts a.ready a.held h' a.ts a.teller os answers made behind note used a.turn a.teller_is so within made_is on waiting in
      let notes : NotesFit g a.low (note ∷ behind) h' = subst (λ ys. NotesFit g a.low ys h') made_is (stretch_notes h' made stretch) in
      let same : turn.s ≡ teller' = some_same (slice_get (t' false).strands k) turn.s teller' turn.there (teller_there false) in
      let due : teller'.due ≡ a.teller.due = ap (λ (z : StrandTeller). z.due) (sym same) ∙ turn.due_is in
      record {
        at = subst (λ n. AtPlace g (t' false) paid n going.strand going.starts (place_of g i' going.strand)) (sym number) (record {
          ts = a.ts;
          low = a.low;
          is = program_is false paid a.ts refl refl refl refl refl;
          there = a.there;
          rows = others false paid a.ts a.low (omega arith) refl (λ i e. refl) (λ i e. refl) (λ i e. refl);
          slot = a.slot;
          teller = teller';
          teller_is = teller_there false;
          due = a.due ∙ ap (λ d. Some (Some d)) (sym due);
          strand = strand_is teller' refl (ap (λ (z : StrandTeller). z.has_ended) (sym same) ∙ turn.unfinished);
          ready = behind;
          held = h';
          place_is = place';
          turn = subst (λ d. InTurn g (t' false) (x.steps_left - used) k d going.starts behind h' a.ts) (sym due) turn;
          fits = stretch_fits h' made stretch;
          holds = subst (λ z. HeldHolds z h') (sym area) (stretch_holds h' made stretch);
          notes = notes.3;
          long = stretch_long h' made stretch;
          behind_start = out;
        });
        code = code;
        fits = subst (StoreFits p) store_is notes.0;
      }

  -- it pauses
  pub pauses : (pause : Pause) (made : List Note) (h' : Held) (ticks taken : ℕ) → going.strand.stage ≡ S.Paused pause → Stretch p plan a.held os made used h' → a.ready ++ made ≡ note ∷ []
      → note.event ≡ paused ticks taken → ticks ≤ longest_pause → place_of g i' going.strand ≡ stands [] h'
      → BetweenAt g (t' false) (record paid { dues = slice_set x.dues k (Some (a.teller.due + ticks)); strands = slice_set x.strands k (Some going.strand) }) i'
  pauses pause made h' ticks taken stage stretch made_is event few place' =
      let e = entry_of pause.entry in
      let an = answer_of pause.answer in
      let sp = store_in i' in
      let l = left_of going.strand.left in
      let ar = going.strand.area in
      let y = exports_of p in
      let again : Store → Held = λ st. calling (rewinds e pause.import an st) st y.start_rewind (V.I32 ar.at ∷ []) call_again l in
      let there : stands [] h' ≡ stands [] (again sp) = sym place' ∙ ap (place_in y ar l sp (waits_in i')) stage in
      let held : h' ≡ again sp = cc in
      let stretch' : Stretch p plan a.held os made used (again sp) = subst (λ z. Stretch p plan a.held os made used z) held stretch in
      let ts' : List (Thread Held) = put k (a.teller.due + ticks) (Some (again sp)) a.ts in
      let between : BetweenTurns g (t' false) (x.steps_left - used) sp ts' =
      laws.turn_pauses g t x.steps_left k a.teller.due starts a.ready a.held (again sp) a.ts a.teller os answers made note used ticks taken a.turn a.teller_is stretch' within made_is event few refl in
      let notes : NotesFit g a.low (note ∷ []) h' = subst (λ ys. NotesFit g a.low ys h') made_is (stretch_notes h' made stretch) in
      let low : a.low ≤ length sp.memory = subst (λ (z : Store). a.low ≤ length z.memory) store_is notes.1 in
      let fits : HeldFits p (again sp) = subst (HeldFits p) held (stretch_fits h' made stretch) in
      let holds : HeldHolds ar (again sp) = subst (HeldHolds ar) held (subst (λ z. HeldHolds z h') (sym area) (stretch_holds h' made stretch)) in
      let x2 : Stock = record paid { dues = slice_set x.dues k (Some (a.teller.due + ticks)); strands = slice_set x.strands k (Some going.strand) } in
      let due : teller'.due ≡ a.teller.due + ticks = ap (λ z. a.teller.due + (ticks_in z + 0)) event ∙ omega arith in
      let thread : slice_get ts' k ≡ Some (record { due = a.teller.due + ticks; at = Some (again sp) }) = thread_there (a.teller.due + ticks) (Some (again sp)) in
      let dues_there : slice_get x2.dues k ≡ Some (Some (a.teller.due + ticks)) = set_here x.dues k (Some (a.teller.due + ticks)) (Some a.teller.due) a.due in
      let mine : Row g (t' false) x2 ts' (length sp.memory) k = record {
        slot = Some going.strand;
        slot_is = set_here x.strands k (Some going.strand) None a.slot;
        due = Some (a.teller.due + ticks);
        due_is = dues_there;
        teller = teller';
        teller_is = teller_there false;
        thread = record { due = a.teller.due + ticks; at = Some (again sp) };
        thread_is = thread;
        row = (
          strand_is teller' refl (ap (λ z. is_end z || false) event),
          ap Some (sym due),
          again sp,
          ap (λ d. record { due = d; at = Some (again sp) }) (sym due),
          record {
            place = λ waits st. ap (place_in y ar l st waits) stage;
            fits = λ st f le. (f, fits.1, fits.2, tt, fits.4);
            holds = λ st le. (area_longer ar sp st le holds.0, phase_longer (length sp.memory) (length st.memory) l (rewinds e pause.import an sp) le holds.1);
            behind_start = λ st. refl;
          },
        );
      } in
      record {
        ts = ts';
        low = length sp.memory;
        is = program_is false x2 ts' refl refl (length-set x.strands k (Some going.strand)) (length-set x.dues k (Some (a.teller.due + ticks))) (length-set a.ts k (record { due = a.teller.due + ticks; at = Some (again sp) }));
        rows = λ i lt. by_number i lt (nat_eq i k) refl x2 ts' (length sp.memory) mine
            (others false x2 ts' (length sp.memory) low refl (λ j e. set_there x.strands k j (Some going.strand) e) (λ j e. set_there x.dues k j (Some (a.teller.due + ticks)) e)
            (λ j e. set_there a.ts k j (record { due = a.teller.due + ticks; at = Some (again sp) }) e) i lt);
        between = between;
        code = code;
        fits = subst (StoreFits p) store_is notes.0;
        long = omega arith;
        some_due = λ none. none k (a.teller.due + ticks) dues_there;
      }
    where
      thread_there : (d : ℕ) (o : Option Held) → slice_get (put k d o a.ts) k ≡ Some (record { due = d; at = o })
      thread_there d o =
          let lt : k < length a.ts = subst (λ n. k < n) (sym (a.is.threads)) a.there in
          let z = item a.ts k lt in set_here a.ts k (record { due = d; at = o }) z.0 z.1

      by_number : (i : ℕ) → i < length g.program.strands → (b : Bool) → nat_eq i k ≡ b → (x2 : Stock) (ts' : List (Thread Held)) (low : ℕ) → Row g (t' false) x2 ts' low k
          → ((i ≡ k → ⊥) → Row g (t' false) x2 ts' low i) → Row g (t' false) x2 ts' low i
      by_number i lt true e x2 ts' low mine other = subst (Row g (t' false) x2 ts' low) (sym (eqb-true i k e)) mine
      by_number i lt false e x2 ts' low mine other = other (λ same. let z : true ≡ false = sym (eq-eqb i k same) ∙ e in cc)

  abbrev without : Stock
  without = record paid { dues = slice_set x.dues k None }

  -- its own end: the others stand so
  module _ (how : End) (made : List Note) (at : Store) (so : GoesSo p plan starts a.ready a.held os made used (over at) going.starts) (made_is : a.ready ++ made ≡ note ∷ [])
      (event : note.event ≡ ended how) where
    abbrev left_threads : List (Thread Held)
    left_threads = put k a.teller.due None a.ts

    end_notes : NotesFit g a.low (note ∷ []) (over at)
    end_notes = subst (λ ys. NotesFit g a.low ys (over at)) made_is (stretch_notes (over at) made (so_stretch laws p plan starts a.ready a.held os made used (over at) going.starts so))

    end_between : ends_strand going.starts how ≡ true → BetweenTurns g (t' false) (x.steps_left - used) note.store left_threads
    end_between alone = laws.strand_ends g t x.steps_left k a.teller.due starts going.starts a.ready a.held a.ts a.teller os answers made note used how at a.turn a.teller_is so within made_is event alone

    end_rows : (i : ℕ) → i < length g.program.strands → Row g (t' false) without left_threads a.low i
    end_rows i lt = by_number (nat_eq i k) refl
      where
        mine : Row g (t' false) without left_threads a.low k
        mine =
            let some : k < length a.ts = subst (λ n. k < n) (sym a.is.threads) a.there in
            let z = item a.ts k some in
            record {
              slot = None;
              slot_is = a.slot;
              due = None;
              due_is = set_here x.dues k None (Some a.teller.due) a.due;
              teller = teller';
              teller_is = teller_there false;
              thread = record { due = a.teller.due; at = None };
              thread_is = set_here a.ts k (record { due = a.teller.due; at = None }) z.0 z.1;
              row = (ap (λ e. is_end e || false) event, refl, refl);
            }

        by_number : (b : Bool) → nat_eq i k ≡ b → Row g (t' false) without left_threads a.low i
        by_number true e = subst (Row g (t' false) without left_threads a.low) (sym (eqb-true i k e)) mine
        by_number false e =
            others false without left_threads a.low (omega arith) refl (λ j z. refl) (λ j z. set_there x.dues k j None z) (λ j z. set_there a.ts k j (record { due = a.teller.due; at = None }) z) i lt
            (λ same. let z : true ≡ false = sym (eq-eqb i k same) ∙ e in cc)

    pub ends_alone : ends_strand going.starts how ≡ true → (AllEnded without.dues → ⊥) → BetweenAt g (t' false) without i'
    ends_alone alone some = record {
      ts = left_threads;
      low = a.low;
      is = program_is false without left_threads refl refl refl (length-set x.dues k None) (length-set a.ts k (record { due = a.teller.due; at = None }));
      rows = end_rows;
      between = subst (λ st. BetweenTurns g (t' false) (x.steps_left - used) st left_threads) store_is (end_between alone);
      code = code;
      fits = subst (StoreFits p) store_is end_notes.0;
      long = subst (λ (st : Store). a.low ≤ length st.memory) store_is end_notes.1;
      some_due = some;
    }

    pub ends_last : ends_strand going.starts how ≡ true → AllEnded without.dues → EndedAt g (t' true)
    ends_last alone none = record {
      whole = laws.no_turn_is_left g (t' false) (x.steps_left - used) note.store left_threads (end_between alone)
          (all_over g (t' false) without left_threads a.low (length-set t.strands k teller' ∙ a.is.tellers) end_rows none);
      ended = refl;
      few_steps = a.is.few_steps;
      some = a.is.some;
      few = a.is.few;
    }

    pub ends_all : ends_strand going.starts how ≡ false → EndedAt g (t' true)
    ends_all all = record {
      whole = laws.program_ends g t x.steps_left k a.teller.due starts going.starts a.ready a.held a.ts a.teller os answers made note used how at a.turn a.teller_is so within made_is event all;
      ended = refl;
      few_steps = a.is.few_steps;
      some = a.is.some;
      few = a.is.few;
    }

  -- by steps spent
  pub spends_all : (h' : Held) → Stretch p plan a.held os [] used h' → a.ready ≡ [] → IsSpent p plan (x.steps_left - used) h' → note ≡ B.note (ended (E.StepsSpent g.steps)) (store_held h')
      → EndedAt g (t' true)
  spends_all h' stretch none spent is = record {
    whole = laws.steps_run_out g t x.steps_left k a.teller.due starts a.held h' a.ts a.teller os answers note used
        (subst (λ ys. InTurn g t x.steps_left k a.teller.due starts ys a.held a.ts) none a.turn) a.teller_is stretch within spent is;
    ended = refl;
    few_steps = a.is.few_steps;
    some = a.is.some;
    few = a.is.few;
  }

  -- ---- all that is told

  memory_kept : memory_in i' ≡ note.store.memory
  memory_kept = memory_told g i' setting.memory code ∙ ap (λ (z : Store). z.memory) (sym store_is)

  -- what the event leads to
  pub record Told (x' : StrandProgram) : Type 0 where
    pub is_last : Bool
    pub follows : FollowsStrands g (t' is_last) x'
    pub memory : note.store.memory ≡ memory_of x'

  module _ (x' : StrandProgram) where
    runs : stock_of x' ≡ paid → x'.state ≡ Runs i' going → TurnAt g (t' false) paid i' going.number going.strand going.starts → InStart going.starts going → Told x'
    runs same state turn start = record {
      is_last = false;
      follows = subst (StandsSo g (t' false) (stock_of x')) (sym state) (subst (λ z. InTurnAt g (t' false) z i' going) (sym same) (turn, start), refl);
      memory = sym (ap memory_at state ∙ memory_kept);
    }

    between : (x2 : Stock) → stock_of x' ≡ x2 → x'.state ≡ Between i' → BetweenAt g (t' false) x2 i' → Told x'
    between x2 same state at = record {
      is_last = false;
      follows = subst (StandsSo g (t' false) (stock_of x')) (sym state) (subst (λ z. BetweenAt g (t' false) z i') (sym same) at, refl);
      memory = sym (ap memory_at state ∙ memory_kept);
    }

    all_told : x'.state ≡ Over i' → EndedAt g (t' true) → Told x'
    all_told state at = record {
      is_last = true;
      follows = subst (StandsSo g (t' true) (stock_of x')) (sym state) at;
      memory = sym (ap memory_at state ∙ memory_kept);
    }

  abbrev put_off_in : Stock → (number ticks : ℕ) → Stock
  put_off_in z n ticks = record z {
    dues = slice_set z.dues n (option_map (λ due. due + ticks) (due_at n z.dues));
    strands = slice_set z.strands n (Some going.strand);
  }

  abbrev ended_in : Stock → (number : ℕ) → Stock
  ended_in z n = record z { dues = slice_set z.dues n None }

  module _ (old x' : StrandProgram) (same : stock_of old ≡ paid) (settles : Settles old i' going (leads_to going.starts note.event) x')
      (pause_so : is_paused going.strand.stage ≡ is_pause note.event) (few : (ticks taken : ℕ) → note.event ≡ paused ticks taken → ticks ≤ longest_pause)
      (out : (made behind : List Note) (h' : Held) → Stretch p plan a.held os made used h' → going.starts ≡ false → place_of g i' going.strand ≡ stands behind h' → is_in_start h' ≡ false)
      (waiting : (behind : List Note) (h' : Held) → place_of g i' going.strand ≡ stands behind h' → AreWaiting behind h')
      (start : is_end note.event ≡ false → InStart going.starts going) where
    settled : (e : Event) → note.event ≡ e → Settles old i' going (leads_to going.starts e) x'
    settled e is = subst (λ z. Settles old i' going (leads_to going.starts z) x') is settles

    tells_on : (made behind : List Note) (h' : Held) → GoesSo p plan starts a.ready a.held os made used h' going.starts → a.ready ++ made ≡ note ∷ behind → is_end note.event ≡ false
        → place_of g i' going.strand ≡ stands behind h' → Told x'
    tells_on made behind h' so made_is more place' = by_event note.event refl
      where
        on : (e : Event) → note.event ≡ e → ends_turn e ≡ false → Settles old i' going GoesOn x' → Told x'
        on e is stays z =
            runs x' (z.0 ∙ same) z.1 (goes_on made behind h' so made_is (ap ends_turn is ∙ stays) place' (λ no_start. out made behind h' (so_stretch laws p plan starts a.ready a.held os made used h' going.starts so) no_start place') (waiting behind h' place')) (start more)

        stops : (ticks taken : ℕ) → note.event ≡ paused ticks taken → Told x'
        stops ticks taken is =
            let stage = paused_at going.strand.stage (pause_so ∙ ap is_pause is) in
            let z = settled (paused ticks taken) is in
            let there : stands behind h' ≡ stands [] (calling (rewinds (entry_of stage.0.entry) stage.0.import (answer_of stage.0.answer) (store_in i')) (store_in i') (exports_of p).start_rewind
            (V.I32 going.strand.area.at ∷ []) call_again (left_of going.strand.left)) =
            sym place' ∙ ap (place_in (exports_of p) going.strand.area (left_of going.strand.left) (store_in i') (waits_in i')) stage.1 in
            let none : behind ≡ [] = cc in
            let at = pauses stage.0 made h' ticks taken stage.1 (so_stretch laws p plan starts a.ready a.held os made used h' going.starts so) (made_is ∙ ap (λ ys. note ∷ ys) none) is (few ticks taken is)
            (place' ∙ ap (λ ys. stands ys h') none) in
            let due : due_at k x.dues ≡ Some a.teller.due = ap (λ o. unwrap_or o None) a.due in
            between x' (record paid { dues = slice_set x.dues k (Some (a.teller.due + ticks)); strands = slice_set x.strands k (Some going.strand) })
            (z.0 ∙ ap (λ w. put_off_in w going.number ticks) same ∙ ap (λ n. put_off_in paid n ticks) number
            ∙ ap (λ o. record paid { dues = slice_set x.dues k (option_map (λ d. d + ticks) o); strands = slice_set x.strands k (Some going.strand) }) due) z.1 at

        by_event : (e : Event) → note.event ≡ e → Told x'
        by_event (called c) is = on (called c) is refl (settled (called c) is)
        by_event (answered v) is = on (answered v) is refl (settled (answered v) is)
        by_event (returned n v) is = on (returned n v) is refl (settled (returned n v) is)
        by_event (parked n) is = on (parked n) is refl (settled (parked n) is)
        by_event (shown n v) is = on (shown n v) is refl (settled (shown n v) is)
        by_event (paused ticks taken) is = stops ticks taken is
        by_event (ended how) is = let z : true ≡ false = ap is_end (sym is) ∙ more in cc

    ends_so : (how : End) (made : List Note) (at : Store) → GoesSo p plan starts a.ready a.held os made used (over at) going.starts → a.ready ++ made ≡ note ∷ [] → note.event ≡ ended how → Told x'
    ends_so how made at so made_is event = by_alone (ends_strand going.starts how) refl (settled (ended how) event)
      where
        by_alone : (b : Bool) → ends_strand going.starts how ≡ b → Settles old i' going (end_leads_to b) x' → Told x'
        by_alone false e z = all_told x' z (ends_all how made at so made_is event e)
        by_alone true e z = by_left z.1
          where
            stock : stock_of x' ≡ without
            stock = z.0 ∙ ap (λ w. ended_in w going.number) same ∙ ap (λ n. ended_in paid n) number

            by_left : ((x'.state ≡ Between i') × (AllEnded x'.dues.items → ⊥)) ⊎ ((x'.state ≡ Over i') × AllEnded x'.dues.items) → Told x'
            by_left (inl q) = between x' without stock q.0 (ends_alone how made at so made_is event e (λ none. q.1 (subst AllEnded (ap (λ (w : Stock). w.dues) (sym stock)) none)))
            by_left (inr q) = all_told x' q.0 (ends_last how made at so made_is event e (subst AllEnded (ap (λ (w : Stock). w.dues) stock) q.1))

    pub lands_told : (place' : Place) → LandsSo p plan g.steps starts a.ready a.held os x.steps_left note used going.starts place' → place_of g i' going.strand ≡ place' → Told x'
    lands_told place' (tells made behind h' so made_is more) there = tells_on made behind h' so made_is more there
    lands_told place' (ends how made at so made_is event) there = ends_so how made at so made_is event
    lands_told place' (spends h' stretch none spent is) there =
        all_told x' (settled (ended (E.StepsSpent g.steps)) (ap (λ (n : Note). n.event) is)) (spends_all h' stretch none spent is)
