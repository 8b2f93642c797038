-- What was told by whole turns: of each program nothing, or up to a pause, or its end; with the answer lines that its calls met.
use Rattle.std.proofs.Common.{◌≡◌, ◌⊎◌, inl, inr, ℕ, zero, suc, List, [], ◌∷◌, ◌++◌, Some, Bool, true, false, MatchBool, ◌||◌, slice_get, slice_set, refl, sym, ap, ◌∙◌, subst}
use Rattle.std.specs.Option.{option_map}
use Rattle.std.proofs.lemmas.Bool.{cases_eq}
use Rattle.std.proofs.lemmas.Option.{slice_get-map, same_Some}
use Rattle.wa_model.specs.declared.answers.Detach.{Detach}
use Rattle.wa_model.specs.Outside.{AnswerLine, Event, Line, answered, called, ended, paused, parked, returned, shown}
use Rattle.wa_model.specs.Plan.{Outcome}
use Rattle.wa_model.specs.Blocking.{Note}
use Rattle.world_model.specs.World.{CallsMeet, Device, Program, answers_from, ends_turn, is_end}
use Rattle.world_laws.specs.AloneLines.{Unbound}
use Rattle.pause_host.specs.Programs.{begins_paused, ends_in_pause}
use Rattle.pause_host.specs.Views.{is_pause}
use Rattle.many_host.specs.Turns.{EndsOnce, Teller, TellsFrom, ends_program, having_told, starting}
use Rattle.world_laws.proofs.Places.{set_here, set_there}
use Rattle.many_host.proofs.MetLines.{LinesMet, calls_met, met_on}

-- ---- of each program

-- what holds at the start and with each whole turn holds of each
module _ (P : Program → Teller → Type 0) (begun : ℕ) (programs : List Program) (detaches : List Detach) (ds : List Device)
    (first : (j : ℕ) (w : Program) → slice_get programs j ≡ Some w → P w (starting w))
    (more : (j : ℕ) (w : Program) (t : Teller) (turn : List Note) (met : List Outcome) (answers : List AnswerLine) (es es' : List Device) → slice_get programs j ≡ Some w → EndsOnce turn
    → CallsMeet w turn met t.answers es [] answers es' → P w t → P w (having_told t turn met answers)) where
  set_told : (mid tellers : List Teller) (i j : ℕ) (w : Program) (t : Teller) (v : Program) (u now : Teller) → slice_get programs j ≡ Some w → slice_get tellers j ≡ Some t
      → slice_get programs i ≡ Some v → slice_get mid i ≡ Some u → tellers ≡ slice_set mid i now → P v now → (slice_get mid j ≡ Some t → P w t) → P w t
  set_told mid tellers i j w t v u now program at its there after h was = by (cases_eq j i)
    where
      by : (j ≡ i) ⊎ (j ≡ i → ⊥) → P w t
      by (inr other) = was (sym (set_there mid i j now other) ∙ ap (λ (l : List Teller). slice_get l j) (sym after) ∙ at)
      by (inl same) =
          subst (P w) (same_Some now t (sym (set_here mid i now u there) ∙ ap (λ (l : List Teller). slice_get l i) (sym after) ∙ ap (slice_get tellers) (sym same) ∙ at))
          (subst (λ (z : Program). P z now) (same_Some v w (sym its ∙ ap (slice_get programs) (sym same) ∙ program)) h)

  pub each_told : (number : ℕ) (lines : List Line) (tellers : List Teller) (ds' : List Device) → TellsFrom begun programs detaches ds number lines tellers ds'
      → (j : ℕ) (w : Program) (t : Teller) → slice_get programs j ≡ Some w → slice_get tellers j ≡ Some t → P w t
  each_told zero lines tellers ds' h j w t program at =
      let here : slice_get tellers j ≡ Some (starting w) = ap (λ (l : List Teller). slice_get l j) h.1 ∙ slice_get-map starting programs j ∙ ap (option_map starting) program in
      subst (P w) (same_Some (starting w) t (sym here ∙ at)) (first j w program)
  each_told (suc number) lines tellers ds' h j w t program at =
      set_told h.2 tellers h.5.i j w t h.5.w h.5.t (having_told h.5.t h.5.turn h.5.met h.5.answers) program at h.5.program h.5.there h.5.after
      (more h.5.i h.5.w h.5.t h.5.turn h.5.met h.5.answers _ _ h.5.program h.5.whole h.5.calls (each_told number h.0 h.2 h.3 h.4 h.5.i h.5.w h.5.t h.5.program h.5.there))
      (each_told number h.0 h.2 h.3 h.4 j w t program)

-- ---- how it stands

-- It has told nothing; or the last that it has told is a pause; or it has ended.
abbrev pub Rests : Program → Teller → Type 0
Rests w t = (t ≡ starting w) ⊎ ((ends_in_pause (begins_paused w.origin) t.told ≡ true) ⊎ (t.has_ended ≡ true))

pause_or_end : (e : Event) → ends_turn e ≡ true → (is_pause e ≡ true) ⊎ (is_end e ≡ true)
pause_or_end (called c) h = cc
pause_or_end (answered said) h = cc
pause_or_end (paused ticks used) h = inl refl
pause_or_end (returned entry v) h = cc
pause_or_end (ended how) h = inr refl
pause_or_end (parked used) h = cc
pause_or_end (shown at bytes) h = cc

or_true : (a b : Bool) → b ≡ true → (a || b) ≡ true
or_true true b e = refl
or_true false b e = e

is_or : (a b : Bool) → a ≡ true → (a || b) ≡ true
is_or true b e = refl
is_or false b e = cc

turn_rests : (b : Bool) (turn : List Note) → EndsOnce turn → (ends_in_pause b turn ≡ true) ⊎ (ends_program turn ≡ true)
turn_rests b [] h = absurd h
turn_rests b (x ∷ xs) h = by (ends_turn x.event) refl h (λ rest. turn_rests (is_pause x.event) xs rest)
  where
    behind : (ends_in_pause (is_pause x.event) xs ≡ true) ⊎ (ends_program xs ≡ true) → (ends_in_pause (is_pause x.event) xs ≡ true) ⊎ (ends_program (x ∷ xs) ≡ true)
    behind (inl e) = inl e
    behind (inr e) = inr (or_true (is_end x.event) (ends_program xs) e)

    last : xs ≡ [] → (is_pause x.event ≡ true) ⊎ (is_end x.event ≡ true) → (ends_in_pause (is_pause x.event) xs ≡ true) ⊎ (ends_program (x ∷ xs) ≡ true)
    last none (inl e) = inl (ap (ends_in_pause (is_pause x.event)) none ∙ e)
    last none (inr e) = inr (is_or (is_end x.event) (ends_program xs) e)

    by : (c : Bool) → ends_turn x.event ≡ c → MatchBool c (xs ≡ []) (EndsOnce xs) → (EndsOnce xs → (ends_in_pause (is_pause x.event) xs ≡ true) ⊎ (ends_program xs ≡ true)) → (ends_in_pause (is_pause x.event) xs ≡ true) ⊎ (ends_program (x ∷ xs) ≡ true)
    by true e none on = last none (pause_or_end x.event e)
    by false e rest on = behind (on rest)

pause_on : (b : Bool) (xs ys : List Note) → ends_in_pause b (xs ++ ys) ≡ ends_in_pause (ends_in_pause b xs) ys
pause_on b [] ys = refl
pause_on b (x ∷ xs) ys = pause_on (is_pause x.event) xs ys

rests_on : (w : Program) (t : Teller) (turn : List Note) (met : List Outcome) (answers : List AnswerLine) → EndsOnce turn → Rests w (having_told t turn met answers)
rests_on w t turn met answers whole = by (turn_rests (ends_in_pause (begins_paused w.origin) t.told) turn whole)
  where
    by : (ends_in_pause (ends_in_pause (begins_paused w.origin) t.told) turn ≡ true) ⊎ (ends_program turn ≡ true) → Rests w (having_told t turn met answers)
    by (inl e) = inr (inl (pause_on (begins_paused w.origin) t.told turn ∙ e))
    by (inr e) = inr (inr e)

-- ---- all of it

-- how a program rests, and of which lines its answers are
pub record IsTurned (w : Program) (t : Teller) : Type 0 where
  pub rests : Rests w t
  pub lines : LinesMet (answers_from w.answers w.origin) t.met t.answers

pub all_turned : (begun : ℕ) (programs : List Program) (detaches : List Detach) (ds ds' : List Device) (number : ℕ) (lines : List Line) (tellers : List Teller)
    → ((i : ℕ) (w : Program) → slice_get programs i ≡ Some w → Unbound w) → TellsFrom begun programs detaches ds number lines tellers ds'
    → (i : ℕ) (w : Program) (t : Teller) → slice_get programs i ≡ Some w → slice_get tellers i ≡ Some t → IsTurned w t
all_turned begun programs detaches ds ds' number lines tellers none tells =
    each_told IsTurned begun programs detaches ds
    (λ j w at. record { rests = inl refl; lines = refl })
    (λ j w t turn met answers es es' at whole calls was.
    record {
      rests = rests_on w t turn met answers whole;
      lines = met_on (answers_from w.answers w.origin) t.answers answers t.met met was.lines (calls_met w (none j w at) turn met t.answers answers es es' calls);
    })
    number lines tellers ds' tells
