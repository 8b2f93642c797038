-- A program that tells one event more.
use Rattle.std.proofs.Common.{◌≡◌, ℕ, ◌-◌, ◌++◌, List, [], ◌∷◌, length, Option, Some, None, Bool, true, false, cond, All, refl, sym, ap, ◌∙◌, subst, arith}
use Rattle.std.specs.Prelude.{MatchBool, nat_lt}
use Rattle.std.specs.Option.{unwrap_or}
use Rattle.std.proofs.lemmas.List.Elements.{All-nil, All-tail}
use Rattle.wa_types.specs.Validity.{Valid, same_name}
use Rattle.wa_types.specs.View.{module_of}
use Rattle.wa_model.specs.declared.events.End.{End}
use Rattle.wa_model.specs.declared.events.End.TheVariants as E
use Rattle.wa_model.specs.declared.events.Event.{Event as EventValue}
use Rattle.wa_model.specs.declared.events.Event.TheVariants as EV
use Rattle.wa_model.specs.Outside.{Call, AnswerLine, Event, called, answered, paused, parked, returned, ended, shown}
use Rattle.wa_model.specs.View.{answer_of, event_of}
use Rattle.wa_model.specs.Store.{Store}
use Rattle.wa_model.specs.Plan.{Outcome, given, refused}
use Rattle.run_theory.specs.Fitting.{types_of, global_types}
use Rattle.wa_types.specs.Modules.{imported, imported_global, all_memories}
use Rattle.wa_types.specs.declared.values.Value.{Value}
use Rattle.wa_types.specs.declared.values.Value.TheVariants as V
use Rattle.wa_model.specs.Configuration.{Activation}
use Rattle.wa_model.specs.declared.answers.Area.{Area}
use Rattle.wa_model.specs.declared.answers.Said.{Said}
use Rattle.wa_model.specs.declared.answers.Said.TheVariants as SV
use Rattle.wa_model.specs.Blocking.{Note, note, no_store, Left, Asker, inside, outermost, the_start, an_entry, poked}
use Rattle.wa_model.specs.Protocol as P
use Rattle.interp.specs.declared.instance.Instance.{Instance}
use Rattle.interp.specs.Host.{code_in, store_in}
use Rattle.interp.specs.Instance as I
use Rattle.interp.specs.Instance.{Waits}
use Rattle.wa_model.specs.Protocol.{Held, exports_of, over, store_held}
use Rattle.world_model.specs.World as W
use Rattle.world_model.specs.World.{CallsMeet, answers_from, MeetsLine, name_at, import_names, call_in, is_end, protocol_story}
use Rattle.wa_model.specs.Behaves.{IsPrefix}
use Rattle.run_laws.specs.FittingStates.{HeldFits, ExportsTyped}
use Rattle.host_laws.specs.Places.{Place, stands, has_ended, nowhere, Lands, goes_on, ends, spends}
use Rattle.host_laws.specs.Stories.{IsAt, BeginsStory, IsStory}
use Rattle.host_laws.specs.Supplies.{Supply, bound_to}
use Rattle.mail_laws.specs.MailWorld.{told_pause}
use Rattle.mail_laws.specs.Told.{Amid, Await}
use Rattle.host_laws.proofs.Stretches.{nowhere_on}
use Rattle.host_laws.proofs.Tellings.{landed, one_more_met, place_begins, place_whole, still_none}
use Rattle.pause_host.specs.Mailing.{AsksBound, MailSupply, TakesMail, without_mail}
use Rattle.pause_host.specs.Moves.{Moves, IsSetting, PlaceFits, HasShortPokes}
use Rattle.pause_host.specs.Holding.{PlaceHolds, are_inside, is_held}
use Rattle.pause_host.proofs.Holding.{holds_then}
use Rattle.pause_host.specs.declared.stages.Pause.{Pause}
use Rattle.pause_host.specs.declared.stages.Stage.{Stage}
use Rattle.pause_host.specs.declared.stages.Stage.TheVariants as S
use Rattle.pause_host.specs.declared.stages.Task.{Task}
use Rattle.pause_host.specs.declared.stages.Task.TheVariants as T
use Rattle.pause_host.specs.Views.{exports_in, entry_of, with_asker, answering, giving, is_pause, place_in, end_of}
use Rattle.pause_host.proofs.Comings.{fits_on}
use Rattle.pause_host.proofs.Mailings.{plain_takes}
use Rattle.pause_host.specs.declared.program.Program.{Program}
use Rattle.pause_host.specs.declared.program.State.{State}
use Rattle.pause_host.specs.declared.program.State.TheVariants.{Live}
use Rattle.pause_host.specs.Programs.{place_of, store_of, memory_at, memory_in, begins_paused, end_at, end_due, end_in, ended_as, ends_in_pause, is_at_pause, RunsCode, lines_left, FollowsAt, Follows, MailAdvances, OnItsWay, IsOnItsWay, Advances, FollowsAlone, AdvancesAlone}

no_end : (e : Event) → is_end e ≡ false → end_in e ≡ None
no_end (called c) h = refl
no_end (answered v) h = refl
no_end (paused ticks used) h = refl
no_end (returned entry v) h = refl
no_end (ended how) h = cc
no_end (parked used) h = refl
no_end (shown at bytes) h = refl

-- a stage that is no end stands at none
pub runs_on : (stage : Stage) → ((e : End) → stage ≡ S.Ended e → ⊥) → ((e : End) → stage ≡ S.Ending e → ⊥) → end_due stage ≡ None
runs_on S.Free told waits = refl
runs_on (S.Answering task a) told waits = refl
runs_on (S.Giving task v) told waits = refl
runs_on (S.Pausing pause) told waits = refl
runs_on (S.Paused pause) told waits = refl
runs_on (S.Ending e) told waits = absurd (waits e refl)
runs_on (S.Ended e) told waits = absurd (told e refl)

-- an end is told as it is
pub told_end : (r : Option Await) (how : End) → told_pause r (ended how) ≡ ended how
told_end None how = refl
told_end (Some r) how = refl

-- the last note of all
pause_told : (b : Bool) (notes : List Note) (x : Note) → ends_in_pause b (notes ++ x ∷ []) ≡ is_pause x.event
pause_told b [] x = refl
pause_told b (y ∷ ys) x = pause_told (is_pause y.event) ys x

module _ (w : W.Program) where
  end_told : (ready : List Note) (h : Held) (os : List Outcome) (left : ℕ) (x : Note) (used : ℕ) (to : Place) → Lands w.source w.plan w.steps ready h os left x used to → end_at to ≡ end_in x.event
  end_told ready h os left x used to (goes_on made tail h' stretch is_x more to_is) = ap end_at to_is ∙ sym (no_end x.event more)
  end_told ready h os left x used to (ends how made s stretch is_x end_is to_is) = ap end_at to_is ∙ sym (ap end_in end_is)
  end_told ready h os left x used to (spends h' stretch none spent is_x to_is) = ap end_at to_is ∙ sym (ap (λ (y : Note). end_in y.event) is_x)

  fits_then : (ready : List Note) (h : Held) (os : List Outcome) (left : ℕ) (x : Note) (used : ℕ) (to : Place) → Valid w.source → ExportsTyped w.source → HeldFits w.source h
      → Lands w.source w.plan w.steps ready h os left x used to → PlaceFits w to
  fits_then ready h os left x used to v ex f (goes_on made tail h' stretch is_x more to_is) = subst (PlaceFits w) (sym to_is) (fits_on w.source w.plan h h' os made used v ex stretch f)
  fits_then ready h os left x used to v ex f (ends how made s stretch is_x end_is to_is) = subst (PlaceFits w) (sym to_is) tt
  fits_then ready h os left x used to v ex f (spends h' stretch none spent is_x to_is) = subst (PlaceFits w) (sym to_is) tt

  line_taken : (import : ℕ) (name : List ℕ) (lines : List AnswerLine) (o : Outcome) (lines' : List AnswerLine) → MeetsLine import name lines o lines' → All HasShortPokes lines
      → All HasShortPokes lines'
  line_taken import name [] o lines' h k = subst (All HasShortPokes) (sym h.1) (All-nil HasShortPokes)
  line_taken import name (l ∷ ls) o lines' h k = by_name (same_name l.import name) h
    where
      by_name : (b : Bool) → MatchBool b ((o ≡ given l.answer) × (lines' ≡ ls)) ((o ≡ refused (E.OtherImport import l.import)) × (lines' ≡ l ∷ ls)) → All HasShortPokes lines'
      by_name true m = subst (All HasShortPokes) (sym m.1) (All-tail HasShortPokes l ls k)
      by_name false m = subst (All HasShortPokes) (sym m.1) k

  bound_taken : (import : ℕ) (args : List Value) (bound : Option (List ℕ)) (lines lines' : List AnswerLine) (m m' : Amid) (o : Outcome)
      → AsksBound w.source import args bound lines m o lines' m' → All HasShortPokes lines → All HasShortPokes lines'
  bound_taken import args (Some name) lines lines' m m' o h k = subst (All HasShortPokes) (sym h.1) k
  bound_taken import args None lines lines' m m' o h k = line_taken import (name_at (import_names w.source) import) lines o lines' h.0 k

  pub pokes_then : (c : Option Call) (old : MailSupply) (os : List Outcome) (new : MailSupply) → TakesMail w c old os new → All HasShortPokes old.lines → All HasShortPokes new.lines
  pokes_then None old os new t k = subst (λ (z : MailSupply). All HasShortPokes z.lines) (sym t.1) k
  pokes_then (Some c) old os new t k = bound_taken c.import c.args (bound_to w c.import) old.lines new.lines old.amid new.amid t.0 t.2.meets k

  -- The program x' is the program x with one note more.
  pub advanced : (notes : List Note) (os : List Outcome) (x x' : Program) (from to : Place) (event : EventValue) (s : Store) (used : ℕ) (old new : MailSupply) → FollowsAt w notes os x from
      → Moves w from x.steps_left old event s used new to
      → old.lines ≡ lines_left x → module_of x'.valid.now ≡ module_of x.valid.now → x'.setting ≡ x.setting → x'.globals ≡ x.globals → x'.given ≡ x.given → lines_left x' ≡ new.lines → x'.steps_left ≡ x.steps_left - used
      → place_of x' x'.state ≡ to → store_of x'.state ≡ s → memory_in x' ≡ s.memory → RunsCode w.source x'.state
      → is_at_pause x'.state ≡ is_pause (event_of event) → MailAdvances w notes os event old new x'
  advanced notes os x x' (stands ready h) to event s used old new f m old_lines same_code same_setting same_globals same_given same_lines same_steps same_place same_store same_memory code pauses =
      let t = m.tells in
      let at = landed w notes ready os t.outcomes x.steps_left used h m.note to f.told t.within t.lands in
      record {
        note = m.note;
        met = t.outcomes;
        event_is = m.event_is;
        store_is = m.store_is ∙ sym same_store;
        memory_is = same_memory ∙ ap (λ (z : Store). z.memory) (sym m.store_is);
        ended_is = ap end_at same_place ∙ end_told ready h t.outcomes x.steps_left m.note used to t.lands;
        takes = t.takes;
        follows = record {
          at = record {
            source = f.source ∙ sym same_code;
            sizes = f.sizes;
            setting = subst (IsSetting w) (sym same_setting) f.setting;
            globals = subst (λ g. types_of g.items ≡ global_types (imported imported_global w.source)) (sym same_globals) f.globals;
            pokes = subst (All HasShortPokes) (sym same_lines) (pokes_then (call_in m.note.event) old t.outcomes new t.takes (subst (All HasShortPokes) (sym old_lines) f.pokes));
            given = same_given ∙ f.given;
            fits = subst (PlaceFits w) (sym same_place) (fits_then ready h t.outcomes x.steps_left m.note used to f.setting.valid f.setting.typed f.fits t.lands);
            holds = subst (PlaceHolds w) (sym same_place) (holds_then w ready h t.outcomes x.steps_left m.note used to f.holds t.lands);
            few_steps = f.few_steps;
            told = subst (IsAt w (notes ++ m.note ∷ []) (os ++ t.outcomes) x'.steps_left) (sym same_place)
                (subst (λ n. IsAt w (notes ++ m.note ∷ []) (os ++ t.outcomes) n to) (sym same_steps) at);
          };
          code = code;
          paused = pauses ∙ ap is_pause (sym m.event_is) ∙ sym (pause_told (begins_paused w.origin) notes m.note);
        };
      }
  advanced notes os x x' (has_ended how) to event s used old new f m old_lines same_code same_setting same_globals same_given same_lines same_steps same_place same_store same_memory code pauses = absurd m.tells
  advanced notes os x x' nowhere to event s used old new f m old_lines same_code same_setting same_globals same_given same_lines same_steps same_place same_store same_memory code pauses = absurd m.tells

  -- the same without mailboxes
  pub advanced_plain : (notes : List Note) (os : List Outcome) (x : Program) (event : EventValue) (old new : MailSupply) → old.amid.boxes ≡ [] → MailAdvances w notes os event old new x
      → Advances w notes os event (without_mail old) (without_mail new) x
  advanced_plain notes os x event old new none a = record {
    note = a.note;
    met = a.met;
    event_is = a.event_is;
    store_is = a.store_is;
    memory_is = a.memory_is;
    ended_is = a.ended_is;
    takes = plain_takes w (call_in a.note.event) old a.met new none a.takes;
    follows = a.follows;
  }

-- ---- for those above

-- once the end was told, the notes are a whole story,
pub whole_of_follows : (w : W.Program) (notes : List Note) (os : List Outcome) (x : Program) (how : End) → Follows w notes os x → ended_as x ≡ Some how → notes ≡ protocol_story w os
whole_of_follows w notes os x how f e = by_place (place_of x x.state) f.at.told e
  where
    by_place : (at : Place) → IsAt w notes os x.steps_left at → end_at at ≡ Some how → notes ≡ protocol_story w os
    by_place (stands ready h) t z = cc
    by_place (has_ended end) t z = place_whole w notes os x.steps_left end t
    by_place nowhere t z = cc

-- and before a beginning of one, whatever later calls meet
pub begins_of_follows : (w : W.Program) (notes : List Note) (os : List Outcome) (x : Program) → Follows w notes os x → (more : List Outcome) → IsPrefix notes (protocol_story w (os ++ more))
begins_of_follows w notes os x f more = place_begins w notes os x.steps_left (place_of x x.state) f.at.told more

-- who has told nothing hasn't told its end
pub runs_first : (w : W.Program) (os : List Outcome) (x : Program) → Follows w [] os x → ended_as x ≡ None
runs_first w os x f = by_place (place_of x x.state) f.at.told
  where
    no_last : (before : List Note) (last : Note) → [] ≡ before ++ last ∷ [] → ⊥
    no_last [] last e = cc
    no_last (y ∷ ys) last e = cc

    by_place : (at : Place) → IsAt w [] os x.steps_left at → end_at at ≡ None
    by_place (stands ready h) t = refl
    by_place nowhere t = refl
    by_place (has_ended how) t = absurd (no_last t.before t.last t.last_is)

-- ---- alone

pub starts_alone : (w : W.Program) (x : Program) → Follows w [] [] x → lines_left x ≡ answers_from w.answers w.origin → FollowsAlone w [] x
starts_alone w x f e = record { outcomes = []; meets = (refl, e, refl); follows = f }

pub advances_alone : (w : W.Program) (notes : List Note) (x x' : Program) (event : EventValue) (old new : Supply) (f : FollowsAlone w notes x) → old.lines ≡ lines_left x → old.devices ≡ []
    → new.lines ≡ lines_left x'
    → Advances w notes f.outcomes event old new x' → AdvancesAlone w notes event x'
advances_alone w notes x x' event old new f old_lines none new_lines a =
    let left_none : new.devices ≡ [] = still_none w (call_in a.note.event) a.met old new a.takes none in
    let chain : CallsMeet w notes f.outcomes (answers_from w.answers w.origin) [] [] old.lines old.devices =
    subst (λ ds. CallsMeet w notes f.outcomes (answers_from w.answers w.origin) [] [] old.lines ds) (sym none) (subst (λ ls. CallsMeet w notes f.outcomes (answers_from w.answers w.origin) [] [] ls []) (sym old_lines) f.meets) in
    let meets = one_more_met w notes f.outcomes a.met (answers_from w.answers w.origin) [] a.note old new chain a.takes in
    record {
      note = a.note;
      event_is = a.event_is;
      store_is = a.store_is;
      memory_is = a.memory_is;
      ended_is = a.ended_is;
      follows = record {
        outcomes = f.outcomes ++ a.met;
        meets = subst (λ ls. CallsMeet w (notes ++ a.note ∷ []) (f.outcomes ++ a.met) (answers_from w.answers w.origin) [] [] ls []) new_lines
            (subst (λ ds. CallsMeet w (notes ++ a.note ∷ []) (f.outcomes ++ a.met) (answers_from w.answers w.origin) [] [] new.lines ds) left_none meets);
        follows = a.follows;
      };
    }

-- what it has told begins a story, and is a whole one once the end was told
pub story_begun : (w : W.Program) (notes : List Note) (x : Program) → FollowsAlone w notes x → BeginsStory w notes
story_begun w notes x f = record { outcomes = f.outcomes; lines = lines_left x; meets = f.meets; begins = begins_of_follows w notes f.outcomes x f.follows }

pub story_told : (w : W.Program) (notes : List Note) (x : Program) (how : End) → FollowsAlone w notes x → ended_as x ≡ Some how → IsStory w notes
story_told w notes x how f e = record { outcomes = f.outcomes; lines = lines_left x; meets = f.meets; story = whole_of_follows w notes f.outcomes x how f.follows e }

-- ---- stages and places

ended_asker : (s : Store) (task : Task) (waits : Waits) (then : Asker → Place) → ((who : Asker) → end_at (then who) ≡ None) → end_at (with_asker nowhere s task waits then) ≡ None
ended_asker s T.Outermost I.outermost then h = h (outermost s)
ended_asker s T.Outermost I.nothing then h = refl
ended_asker s T.Outermost (I.inside here under) then h = refl
ended_asker s T.Start (I.inside here under) then h = h (inside the_start (record { store = s; here = here; under = under }))
ended_asker s T.Start I.nothing then h = refl
ended_asker s T.Start I.outermost then h = refl
ended_asker s (T.Entry e) (I.inside here under) then h = h (inside (an_entry (entry_of e)) (record { store = s; here = here; under = under }))
ended_asker s (T.Entry e) I.nothing then h = refl
ended_asker s (T.Entry e) I.outermost then h = refl

told_asker : (l : Left) (said : Said) (s : Store) (who : Asker) → end_at (answering l said s who) ≡ None
told_asker l (SV.Value v) s (inside task c) = refl
told_asker l (SV.Value v) s (outermost old) = refl
told_asker l SV.Trap s who = refl

given_asker : (l : Left) (v : Option Value) (s : Store) (who : Asker) → end_at (giving l v s who) ≡ None
given_asker l v s (inside task c) = refl
given_asker l v s (outermost old) = refl

ended_test : (b : Bool) (at : Place) → end_at at ≡ None → end_at (cond b at nowhere) ≡ None
ended_test true at e = e
ended_test false at e = refl

abbrev pausing_place : P.Exports → Area → Left → Store → Activation → List Activation → Pause → Place
pausing_place x area l s here under pause =
    stands [] (P.calling (P.unwinds (entry_of pause.entry) pause.import (answer_of pause.answer)) (P.with_words s area) x.start_unwind (V.I32 area.at ∷ [])
    (P.give_zero (record { store = s; here = here; under = under })) l)

pub ended_stage : (x : P.Exports) (area : Area) (l : Left) (s : Store) (waits : Waits) (stage : Stage) → end_at (place_in x area l s waits stage) ≡ end_of stage
ended_stage x area l s waits S.Free = refl
ended_stage x area l s waits (S.Answering task a) =
    ended_test (are_inside (length s.memory) (answer_of a).pokes) (with_asker nowhere s task waits (answering l a.said (poked s (answer_of a).pokes)))
    (ended_asker s task waits (answering l a.said (poked s (answer_of a).pokes)) (told_asker l a.said (poked s (answer_of a).pokes)))
ended_stage x area l s waits (S.Giving task v) = ended_asker s task waits (giving l v s) (given_asker l v s)
ended_stage x area l s (I.inside here under) (S.Pausing pause) =
    ended_test (is_held area s) (pausing_place x area l s here under pause) refl
ended_stage x area l s I.nothing (S.Pausing pause) = refl
ended_stage x area l s I.outermost (S.Pausing pause) = refl
ended_stage x area l s waits (S.Paused pause) = refl
ended_stage x area l s waits (S.Ending end) = refl
ended_stage x area l s waits (S.Ended end) = refl

-- the place is told by the program's own numbers and by the world's
pub same_place : (w : W.Program) (x : Program) (l : Left) (s : Store) (waits : Waits) (stage : Stage) → IsSetting w x.setting
    → place_in (exports_in x.setting.exports) x.setting.area l s waits stage ≡ place_in (exports_of w.source) w.plan.area l s waits stage
same_place w x l s waits stage is =
    ap (λ e. place_in e x.setting.area l s waits stage) is.exports ∙ ap (λ a. place_in (exports_of w.source) a l s waits stage) (sym is.area)

-- the memory of an instance of the module
pub memory_told : (w : W.Program) (x : Program) (instance : Instance) (stage : Stage) → IsSetting w x.setting → code_in instance ≡ w.source
    → memory_at (Live instance stage) ≡ (store_in instance).memory
memory_told w x instance stage is code = by_test (nat_lt 0 (length (all_memories (code_in instance)))) (ap (λ m. nat_lt 0 (length (all_memories m))) code ∙ is.memory)
  where
    by_test : (b : Bool) → b ≡ true → unwrap_or (cond b (Some (store_in instance).memory) None) [] ≡ (store_in instance).memory
    by_test true e = refl
    by_test false e = cc

-- the same of a program in another state
pub in_state : (w : W.Program) (notes : List Note) (os : List Outcome) (x : Program) (st : State) (place : Place) → FollowsAt w notes os x place → FollowsAt w notes os (record x { state = st }) place
in_state w notes os x st place f = record { source = f.source; sizes = f.sizes; setting = f.setting; globals = f.globals; pokes = f.pokes; given = f.given; fits = f.fits; holds = f.holds; few_steps = f.few_steps; told = f.told }

-- who follows a program is on its way
pub on_its_way_by : (w : W.Program) (notes : List Note) (os : List Outcome) (x : Program) → Follows w notes os x → IsOnItsWay x
on_its_way_by w notes os x f = record { program = w; notes = notes; outcomes = os; at = f.at; code = f.code }

pub alone_on_its_way : (w : W.Program) (notes : List Note) (x : Program) → FollowsAlone w notes x → IsOnItsWay x
alone_on_its_way w notes x f = on_its_way_by w notes f.outcomes x f.follows

-- so it is on its way in another state
pub on_its_way : (x : Program) (dest st : State) → x.state ≡ st → IsOnItsWay x → OnItsWay (record x { state = dest }) (place_of x st) st
on_its_way x dest st is h = record {
  program = h.program;
  notes = h.notes;
  outcomes = h.outcomes;
  at = in_state h.program h.notes h.outcomes x dest (place_of x st) (subst (λ z. FollowsAt h.program h.notes h.outcomes x (place_of x z)) is h.at);
  code = subst (RunsCode h.program.source) is h.code;
}

-- an end that is told without an instance
pub failed_moves : (w : W.Program) (left : ℕ) (supply : MailSupply) (end told : End) → told ≡ end
    → Moves w (stands (note (ended end) no_store ∷ []) (over no_store)) left supply (EV.Ended told) no_store 0 supply (has_ended end)
failed_moves w left supply end told e = record {
  note = note (ended end) no_store;
  event_is = ap ended (sym e);
  store_is = refl;
  tells = record { outcomes = []; takes = (refl, refl); within = omega arith; lands = ends end [] no_store (nowhere_on w.source w.plan (over no_store)) refl refl refl };
}
