-- Notes of a turn, with one more.
use Rattle.std.proofs.Common.{arith, ◌≡◌, ◌+◌, List, [], ◌∷◌, ◌++◌, Bool, true, false, ◌||◌, refl, sym, ap, ◌∙◌, subst, append_assoc, append-nil}
use Rattle.std.specs.Prelude.{MatchBool}
use Rattle.wa_model.specs.Outside.{AnswerLine, Event, called, answered, paused, parked, returned, ended, shown}
use Rattle.wa_model.specs.Plan.{Outcome}
use Rattle.wa_model.specs.Blocking.{Note, events_of}
use Rattle.world_model.specs.World.{Look, ends_turn, is_end, put_off, ticks_in, looks_after, events_with_looks}
use Rattle.many_host.specs.Turns.{Teller, having_told, ends_program, EndsOnce}
use Rattle.many_host.specs.Notes.{GoesOn}

pub no_ticks : (e : Event) → ends_turn e ≡ false → ticks_in e ≡ 0
no_ticks (called c) h = refl
no_ticks (answered v) h = refl
no_ticks (paused ticks used) h = cc
no_ticks (returned entry v) h = refl
no_ticks (ended how) h = cc
no_ticks (parked used) h = refl
no_ticks (shown at bytes) h = refl

pub no_end : (e : Event) → ends_turn e ≡ false → is_end e ≡ false
no_end (called c) h = refl
no_end (answered v) h = refl
no_end (paused ticks used) h = cc
no_end (returned entry v) h = refl
no_end (ended how) h = cc
no_end (parked used) h = refl
no_end (shown at bytes) h = refl

pub no_looks : (looks : List Look) (x : Note) (e : Event) → ends_turn e ≡ false → looks_after looks x e ≡ []
no_looks looks x (called c) h = refl
no_looks looks x (answered v) h = refl
no_looks looks x (paused ticks used) h = cc
no_looks looks x (returned entry v) h = refl
no_looks looks x (ended how) h = cc
no_looks looks x (parked used) h = refl
no_looks looks x (shown at bytes) h = refl

pub goes_on_more : (xs : List Note) (x : Note) → GoesOn xs → ends_turn x.event ≡ false → GoesOn (xs ++ x ∷ [])
goes_on_more [] x g e = (e, tt)
goes_on_more (y ∷ ys) x g e = (g.0, goes_on_more ys x g.1 e)

abbrev no_more : List Note
no_more = []

pub ends_once : (xs : List Note) (x : Note) → GoesOn xs → ends_turn x.event ≡ true → EndsOnce (xs ++ x ∷ [])
ends_once [] x g e = by (ends_turn x.event) e where
  by : (b : Bool) → b ≡ true → MatchBool b (no_more ≡ no_more) ⊥
  by true e = refl
  by false e = cc
ends_once (y ∷ ys) x g e = subst (λ (b : Bool). MatchBool b (ys ++ x ∷ [] ≡ []) (EndsOnce (ys ++ x ∷ []))) (sym g.0) (ends_once ys x g.1 e)

-- notes that don't end a turn put nothing off
pub off_more : (xs : List Note) (x : Note) → GoesOn xs → put_off (xs ++ x ∷ []) ≡ put_off (x ∷ [])
off_more [] x g = refl
off_more (y ∷ ys) x g = omega (arith, no_ticks y.event g.0, off_more ys x g.1)

pub off_none : (xs : List Note) → GoesOn xs → put_off xs ≡ 0
off_none [] g = refl
off_none (y ∷ ys) g = omega (arith, no_ticks y.event g.0, off_none ys g.1)

pub ends_more : (xs : List Note) (x : Note) → GoesOn xs → ends_program (xs ++ x ∷ []) ≡ ends_program (x ∷ [])
ends_more [] x g = refl
ends_more (y ∷ ys) x g = ap (λ (b : Bool). b || ends_program (ys ++ x ∷ [])) (no_end y.event g.0) ∙ ends_more ys x g.1

pub ends_none : (xs : List Note) → GoesOn xs → ends_program xs ≡ false
ends_none [] g = refl
ends_none (y ∷ ys) g = ap (λ (b : Bool). b || ends_program ys) (no_end y.event g.0) ∙ ends_none ys g.1

-- nothing is shown before an end
pub looks_more : (looks : List Look) (xs : List Note) (x : Note) → GoesOn xs → events_with_looks looks (xs ++ x ∷ []) ≡ events_of xs ++ x.event ∷ looks_after looks x x.event
looks_more looks [] x g = append-nil (x.event ∷ looks_after looks x x.event)
looks_more looks (y ∷ ys) x g =
    ap (λ (l : List Event). (y.event ∷ l) ++ events_with_looks looks (ys ++ x ∷ [])) (no_looks looks y y.event g.0)
    ∙ ap (λ (l : List Event). y.event ∷ l) (looks_more looks ys x g.1)

-- what a program has told, with one note more
pub told_more : (t : Teller) (turn : List Note) (met more : List Outcome) (answers last : List AnswerLine) (x : Note) → GoesOn turn
    → having_told (having_told t turn met answers) (x ∷ []) more last ≡ having_told t (turn ++ x ∷ []) (met ++ more) last
told_more t turn met more answers last x g =
    λ k. record {
      due = due k;
      has_ended = sym (ends_more turn x g) k;
      answers = last;
      told = append_assoc t.told turn (x ∷ []) k;
      met = append_assoc t.met met more k;
    }
  where
    due : (t.due + put_off turn) + put_off (x ∷ []) ≡ t.due + put_off (turn ++ x ∷ [])
    due = omega (arith, off_none turn g, off_more turn x g)

pub told_nothing : (t : Teller) → t.has_ended ≡ false → having_told t [] [] t.answers ≡ t
told_nothing t unfinished =
    λ k. record {
      due = due k;
      has_ended = sym unfinished k;
      answers = t.answers;
      told = append-nil t.told k;
      met = append-nil t.met k;
    }
  where
    due : t.due + 0 ≡ t.due
    due = omega arith
