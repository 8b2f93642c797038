-- Where stages stand: what waits there to be told, and over what store.
use Rattle.std.proofs.Common.{arith, ◌≡◌, ◌≤◌, ℕ, Bool, true, false, List, [], ◌∷◌, length, Option, refl, subst}
use Rattle.std.specs.Prelude.{if◌then◌else◌}
use Rattle.wa_types.specs.Syntax.{Module}
use Rattle.wa_types.specs.declared.values.Value.{Value}
use Rattle.wa_model.specs.declared.answers.Area.{Area}
use Rattle.wa_model.specs.declared.answers.Said.{Said}
use Rattle.wa_model.specs.declared.answers.Said.TheVariants as SV
use Rattle.wa_model.specs.Blocking as B
use Rattle.wa_model.specs.Blocking.{Asker, Note, done_notes, inside, note, outermost, poked}
use Rattle.wa_model.specs.Outside.{Answer, Poke, answered}
use Rattle.wa_model.specs.Plan.{Entry}
use Rattle.wa_model.specs.Protocol as P
use Rattle.wa_model.specs.Protocol.{Held, held_on, store_held}
use Rattle.wa_model.specs.Store.{Store}
use Rattle.wa_model.specs.View.{answer_of}
use Rattle.world_model.specs.World.{is_end}
use Rattle.run_theory.specs.Fitting.{StoreFits}
use Rattle.interp.specs.Instance as I
use Rattle.interp.specs.Instance.{Waits}
use Rattle.host_laws.specs.Places.{Place, has_ended, nowhere, stands}
use Rattle.host_laws.specs.Stretch.{is_over}
use Rattle.pause_host.specs.Holding.{are_inside, is_held}
use Rattle.pause_host.specs.Views.{answering, entry_of, giving, pausing, place_in, with_asker}
use Rattle.pause_host.proofs.Holding.{poked_longer, words_longer}
use Rattle.pause_host.specs.declared.stages.Task.{Task}
use Rattle.pause_host.specs.declared.stages.Task.TheVariants as T
use Rattle.pause_host.specs.declared.stages.Stage.{Stage}
use Rattle.pause_host.specs.declared.stages.Stage.TheVariants.{Free, Answering, Giving, Pausing, Paused, Ending, Ended}
use Rattle.strand_host.specs.Standing.{AreWaiting}

-- what holds of the notes and the state of a place
abbrev pub PlaceSo : (List Note → Held → Type 0) → Place → Type 0
PlaceSo Q (stands ready h) = Q ready h
PlaceSo Q (has_ended how) = Unit {0}
PlaceSo Q nowhere = Unit {0}

-- ---- what waits

done_waits : (s : Store) (l : B.Left) (es : List Entry) → AreWaiting (done_notes s es) (held_on s l es)
done_waits s l [] = (refl, refl, refl, refl)
done_waits s l (e ∷ es) = tt

answering_waits : (l : B.Left) (said : Said) (s : Store) (w : Asker) → PlaceSo AreWaiting (answering l said s w)
answering_waits l (SV.Value v) s (inside task c) = tt
answering_waits l (SV.Value v) s (outermost old) = done_waits s l l.entries
answering_waits l SV.Trap s w = (refl, refl, refl, refl)

giving_waits : (l : B.Left) (v : Option Value) (s : Store) (w : Asker) → PlaceSo AreWaiting (giving l v s w)
giving_waits l v s (inside task c) = tt
giving_waits l v s (outermost old) = tt

pub asker_so : (Q : List Note → Held → Type 0) (s : Store) (task : Task) (w : Waits) (on : Asker → Place) → ((a : Asker) → PlaceSo Q (on a)) → PlaceSo Q (with_asker nowhere s task w on)
asker_so Q s T.Outermost I.outermost on h = h (outermost s)
asker_so Q s T.Outermost (I.inside here under) on h = tt
asker_so Q s T.Outermost I.nothing on h = tt
asker_so Q s T.Start I.nothing on h = tt
asker_so Q s T.Start I.outermost on h = tt
asker_so Q s (T.Entry e) I.nothing on h = tt
asker_so Q s T.Start (I.inside here under) on h = h _
asker_so Q s (T.Entry e) I.outermost on h = tt
asker_so Q s (T.Entry e) (I.inside here under) on h = h _

pub either_so : (Q : List Note → Held → Type 0) (b : Bool) (place : Place) → PlaceSo Q place → PlaceSo Q (if b then place else nowhere)
either_so Q true place h = h
either_so Q false place h = tt

pausing_waits : (x : P.Exports) (area : Area) (l : B.Left) (e : Entry) (import : ℕ) (a : Answer) (s : Store) (w : Waits) → PlaceSo AreWaiting (pausing x area l e import a s w)
pausing_waits x area l e import a s I.nothing = tt
pausing_waits x area l e import a s I.outermost = tt
pausing_waits x area l e import a s (I.inside here under) = either_so AreWaiting (is_held area s) _ tt

-- None of the notes that wait where a stage stands ends a turn, but that the last may be the end.
pub places_wait : (x : P.Exports) (area : Area) (l : B.Left) (s : Store) (w : Waits) (stage : Stage) → PlaceSo AreWaiting (place_in x area l s w stage)
places_wait x area l s w Free = done_waits s l l.entries
places_wait x area l s w (Answering task answer) =
    either_so AreWaiting (are_inside (length s.memory) (answer_of answer).pokes) _
    (asker_so AreWaiting s task w (answering l (answer_of answer).said (poked s (answer_of answer).pokes)) (answering_waits l (answer_of answer).said (poked s (answer_of answer).pokes)))
places_wait x area l s w (Giving task value) = asker_so AreWaiting s task w (giving l value s) (giving_waits l value s)
places_wait x area l s w (Pausing pause) = pausing_waits x area l (entry_of pause.entry) pause.import (answer_of pause.answer) s w
places_wait x area l s w (Paused pause) = tt
places_wait x area l s w (Ending end) = (refl, refl, refl, refl)
places_wait x area l s w (Ended end) = tt

pub place_waits : (x : P.Exports) (area : Area) (l : B.Left) (s : Store) (w : Waits) (stage : Stage) (ready : List Note) (h : Held) → place_in x area l s w stage ≡ stands ready h → AreWaiting ready h
place_waits x area l s w stage ready h e = subst (PlaceSo AreWaiting) e (places_wait x area l s w stage)

-- ---- over what store

module _ (p : Module) (low : ℕ) where
  -- notes over stores that fit, with so many bytes at least, and an end over the one where all is over; so is the state
  abbrev pub NotesOver : List Note → Held → Type 0
  NotesOver [] h = Unit {0}
  NotesOver (y ∷ ys) h = StoreFits p y.store × (low ≤ length y.store.memory) × (is_end y.event ≡ true → (is_over h ≡ true) × (store_held h ≡ y.store)) × NotesOver ys h

  abbrev pub Over : List Note → Held → Type 0
  Over ready h = NotesOver ready h × (low ≤ length (store_held h).memory)

  Good : Store → Type 0
  Good s = StoreFits p s × (low ≤ length s.memory)

  never : {A : Type 0} → false ≡ true → A
  never e = let no_way : ⊥ = cc in absurd no_way

  done_over : (s : Store) (l : B.Left) (es : List Entry) → StoreFits p s → low ≤ length s.memory → Over (done_notes s es) (held_on s l es)
  done_over s l [] f le = ((f, le, (λ e. (refl, refl)), tt), le)
  done_over s l (e ∷ es) f le = (tt, le)

  answered_over : (v : Said) (s : Store) (l : B.Left) (es : List Entry) → StoreFits p s → low ≤ length s.memory → Over (note (answered v) s ∷ done_notes s es) (held_on s l es)
  answered_over v s l es f le = let d = done_over s l es f le in ((f, le, (λ e. never e), d.0), d.1)

  poked_fits : (s : Store) (ps : List Poke) → StoreFits p s → StoreFits p (poked s ps)
  poked_fits s ps f = record { globals = f.globals; table = f.table }

  answering_over : (l : B.Left) (said : Said) (s : Store) (w : Asker) → StoreFits p s → low ≤ length s.memory → PlaceSo Over (answering l said s w)
  answering_over l (SV.Value v) s (inside task c) f le = ((f, le, (λ e. never e), tt), le)
  answering_over l (SV.Value v) s (outermost old) f le = answered_over (SV.Value v) s l l.entries f le
  answering_over l SV.Trap s w f le = ((f, le, (λ e. never e), (f, le, (λ e. (refl, refl)), tt)), le)

  giving_over : (l : B.Left) (v : Option Value) (s : Store) (w : Asker) → low ≤ length s.memory → PlaceSo Over (giving l v s w)
  giving_over l v s (inside task c) le = (tt, le)
  giving_over l v s (outermost old) le = tt

  pausing_over : (x : P.Exports) (area : Area) (l : B.Left) (e : Entry) (import : ℕ) (a : Answer) (s : Store) (w : Waits) → low ≤ length s.memory → PlaceSo Over (pausing x area l e import a s w)
  pausing_over x area l e import a s I.nothing le = tt
  pausing_over x area l e import a s I.outermost le = tt
  pausing_over x area l e import a s (I.inside here under) le = either_so Over (is_held area s) _ (tt, let more = words_longer s area in omega (arith, more, le))

  -- Where a stage stands the memory is no shorter, and what waits is told over stores that fit.
  pub places_over : (x : P.Exports) (area : Area) (l : B.Left) (s : Store) (w : Waits) (stage : Stage) → StoreFits p s → low ≤ length s.memory → PlaceSo Over (place_in x area l s w stage)
  places_over x area l s w Free f le = done_over s l l.entries f le
  places_over x area l s w (Answering task answer) f le =
      let more = poked_longer s (answer_of answer).pokes in
      either_so Over (are_inside (length s.memory) (answer_of answer).pokes) _
      (asker_so Over s task w (answering l (answer_of answer).said (poked s (answer_of answer).pokes))
      (λ a. answering_over l (answer_of answer).said (poked s (answer_of answer).pokes) a (poked_fits s (answer_of answer).pokes f) (omega (arith, more, le))))
  places_over x area l s w (Giving task value) f le = asker_so Over s task w (giving l value s) (λ a. giving_over l value s a le)
  places_over x area l s w (Pausing pause) f le = pausing_over x area l (entry_of pause.entry) pause.import (answer_of pause.answer) s w le
  places_over x area l s w (Paused pause) f le = (tt, le)
  places_over x area l s w (Ending end) f le = ((f, le, (λ e. (refl, refl)), tt), le)
  places_over x area l s w (Ended end) f le = tt

  pub place_over : (x : P.Exports) (area : Area) (l : B.Left) (s : Store) (w : Waits) (stage : Stage) (ready : List Note) (h : Held) → place_in x area l s w stage ≡ stands ready h → StoreFits p s
      → low ≤ length s.memory → Over ready h
  place_over x area l s w stage ready h e f le = subst (PlaceSo Over) e (places_over x area l s w stage f le)
