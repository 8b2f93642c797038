-- One note more of a turn.
use Rattle.std.proofs.Common.{◌≡◌, ℕ, suc, List, [], ◌∷◌, ◌++◌, map, Some, true, false, slice_get, slice_set, sym, ap, ◌∙◌, subst, append_assoc}
use Rattle.std.proofs.lemmas.List.{map-append, set-set}
use Rattle.std.proofs.lemmas.Option.{same_Some}
use Rattle.wa_model.specs.declared.answers.Detach.{Detach}
use Rattle.wa_model.specs.Outside.{AnswerLine, Event, Line}
use Rattle.wa_model.specs.Plan.{Outcome}
use Rattle.wa_model.specs.Blocking.{Note, events_of}
use Rattle.world_model.specs.World.{Device, Program, detached, CallsMeet, ends_turn, line_at, looks_after, events_with_looks}
use Rattle.event_order.specs.Dues.{IsLeast}
use Rattle.many_host.specs.Turns.{Teller, due_of, having_told, behind, TellsFrom}
use Rattle.world_laws.proofs.Places.{set_here}
use Rattle.many_host.specs.Notes.{TellsOnFrom}
use Rattle.many_host.specs.ToldNotes.{TurnGoesOn, TurnEnds}
use Rattle.world_laws.proofs.Rests.{calls_more}
use Rattle.many_host.proofs.Notes.{goes_on_more, ends_once, looks_more, told_more}

module _ (begun : ℕ) (programs : List Program) (detaches : List Detach) (ds ds' es : List Device) (number i due : ℕ) (lines : List Line) (tellers : List Teller)
    (w : Program) (t : Teller) (x : Note) (met : List Outcome) (answers : List AnswerLine)
    (on : TellsOnFrom begun programs detaches ds number i due lines tellers ds') (program : slice_get programs i ≡ Some w) (there : slice_get tellers i ≡ Some t)
    (calls : CallsMeet w (x ∷ []) met t.answers ds' [] answers es) where
  abbrev so_far : Teller
  so_far = having_told on.t on.turn on.met on.answers

  abbrev turn : List Note
  turn = on.turn ++ x ∷ []

  same_program : w ≡ on.w
  same_program = same_Some w on.w (sym program ∙ on.program)

  same_teller : t ≡ so_far
  same_teller = same_Some t so_far (sym there ∙ ap (λ (l : List Teller). slice_get l i) on.after ∙ set_here on.mid i so_far on.t on.there)

  one_met : CallsMeet on.w (x ∷ []) met on.answers ds' [] answers es
  one_met =
      subst (λ (v : Program). CallsMeet v (x ∷ []) met on.answers ds' [] answers es) same_program
      (subst (λ (v : Teller). CallsMeet w (x ∷ []) met v.answers ds' [] answers es) same_teller calls)

  all_met : CallsMeet on.w turn (on.met ++ met) on.t.answers (detached (suc (behind begun number)) detaches on.es) [] answers es
  all_met = calls_more on.w on.turn (x ∷ []) on.met met on.t.answers on.answers answers (detached (suc (behind begun number)) detaches on.es) ds' es on.calls one_met

  after : slice_set tellers i (having_told t (x ∷ []) met answers) ≡ slice_set on.mid i (having_told on.t turn (on.met ++ met) answers)
  after =
      (λ k. slice_set (on.after k) i (having_told (same_teller k) (x ∷ []) met answers))
      ∙ set-set on.mid i so_far (having_told so_far (x ∷ []) met answers)
      ∙ ap (slice_set on.mid i) (told_more on.t on.turn on.met met on.answers answers x on.goes_on)

  pub goes_on_by : ends_turn x.event ≡ false
      → TellsOnFrom begun programs detaches ds number i due (lines ++ line_at due i x.event ∷ []) (slice_set tellers i (having_told t (x ∷ []) met answers)) es
  goes_on_by e =
      record {
        before = on.before;
        mid = on.mid;
        es = on.es;
        whole = on.whole;
        w = on.w;
        t = on.t;
        program = on.program;
        there = on.there;
        unfinished = on.unfinished;
        due_is = on.due_is;
        next = on.next;
        turn = turn;
        goes_on = goes_on_more on.turn x on.goes_on e;
        met = on.met ++ met;
        answers = answers;
        calls = all_met;
        made =
            ap (λ (l : List Line). l ++ line_at due i x.event ∷ []) on.made
            ∙ append_assoc on.before (map (line_at due i) (events_of on.turn)) (line_at due i x.event ∷ [])
            ∙ ap (λ (l : List Line). on.before ++ l)
            (sym (ap (map (line_at due i)) (map-append (λ (y : Note). y.event) on.turn (x ∷ [])) ∙ map-append (line_at due i) (events_of on.turn) (x.event ∷ [])));
        after = after;
      }

  abbrev last : List Event
  last = x.event ∷ looks_after w.looks x x.event

  abbrev turn_lines : List Line
  turn_lines = map (line_at due i) (events_of on.turn) ++ map (line_at due i) last

  made_is : turn_lines ≡ map (line_at on.t.due i) (events_with_looks on.w.looks turn)
  made_is =
      sym (map-append (line_at due i) (events_of on.turn) last)
      ∙ ap (map (line_at due i)) (sym (looks_more w.looks on.turn x on.goes_on))
      ∙ (λ k. map (line_at (sym on.due_is k) i) (events_with_looks (same_program k).looks turn))

  pub ends_by : ends_turn x.event ≡ true
      → TellsFrom begun programs detaches ds (suc number) (lines ++ line_at due i x.event ∷ map (line_at due i) (looks_after w.looks x x.event)) (slice_set tellers i (having_told t (x ∷ []) met answers)) es
  ends_by e = (
    on.before,
    turn_lines,
    on.mid,
    on.es,
    on.whole,
    record {
      i = i;
      w = on.w;
      t = on.t;
      program = on.program;
      there = on.there;
      unfinished = on.unfinished;
      next = subst (λ (n : ℕ). IsLeast (map due_of on.mid) i n) (sym on.due_is) on.next;
      turn = turn;
      whole = ends_once on.turn x on.goes_on e;
      met = on.met ++ met;
      answers = answers;
      calls = all_met;
      made = made_is;
      after = after;
    },
    ap (λ (l : List Line). l ++ map (line_at due i) last) on.made ∙ append_assoc on.before (map (line_at due i) (events_of on.turn)) (map (line_at due i) last),
  )

pub turn_goes_on : TurnGoesOn
turn_goes_on begun programs detaches ds ds' es number i due lines tellers w t x met answers on program there calls e =
    goes_on_by begun programs detaches ds ds' es number i due lines tellers w t x met answers on program there calls e

pub turn_ends : TurnEnds
turn_ends begun programs detaches ds ds' es number i due lines tellers w t x met answers on program there calls e =
    ends_by begun programs detaches ds ds' es number i due lines tellers w t x met answers on program there calls e
