-- What is shown behind a program's end.
use Rattle.std.proofs.Common.{arith, ◌≡◌, ◌+◌, ℕ, suc, List, [], ◌∷◌, ◌++◌, map, drop, Option, Some, None, Bool, Result, Ok, Err, slice_get, sym, ap, ◌∙◌, subst, append_assoc, append-nil}
use Rattle.std.specs.Prelude.{IfOk, MatchOption}
use Rattle.std.proofs.lemmas.Option.{same_Some}
use Rattle.wa_model.specs.declared.answers.Detach.{Detach}
use Rattle.wa_model.specs.Outside.{AnswerLine, Event, Line, shown}
use Rattle.wa_model.specs.Plan.{Outcome}
use Rattle.wa_model.specs.Blocking.{Note}
use Rattle.world_model.specs.World.{Device, Look, Program, bytes_shown, line_at}
use Rattle.event_order.specs.declared.shows.Show.{Show}
use Rattle.event_order.specs.declared.turns.Turn.{Turn}
use Rattle.event_order.specs.Looks.{look_of, looks_of, IsNextShow}
use Rattle.many_host.specs.Turns.{TellsFrom, since}
use Rattle.many_host.specs.declared.turn_taking.Stage.TheVariants.{Between, Showing}
use Rattle.many_host.specs.Standing.{Held, StandingFrom, TellsLineFrom, looks_at}
use Rattle.many_host.proofs.Counts.{meets_none, shown_takes, taken_by}
use Rattle.event_order.specs.Left.{Counted}

module _ {X : Type 0} (follows : X → Program → List Note → List Outcome → List AnswerLine → Type 0) (over : X → Bool) (memory : X → List ℕ)
    (begun : ℕ) (programs : List Program) (detaches : List Detach) (ds : List Device) (lines : List Line) (h : Held X) (ds' : List Device) (turn : Turn) (from : ℕ)
    (s : StandingFrom begun follows over memory programs detaches ds lines h ds' (Showing turn from)) where
  abbrev line : Event → Line
  line e = line_at turn.due turn.program e

  -- once all looks are out the turn is whole
  abbrev pub all_shown : looks_of turn.program (drop from h.shows) ≡ [] → StandingFrom begun follows over memory programs detaches ds lines h ds' Between
  all_shown none =
      record {
        tellers = s.tellers;
        wide = s.wide;
        as_many = s.as_many;
        each = s.each;
        dues = s.dues;
        detaches_are = s.detaches_are;
        earlier_is = s.earlier_is;
        begun_is = s.begun_is;
        at = subst (λ (ls : List Line). TellsFrom begun programs detaches ds (since begun h.begun) ls s.tellers ds')
            (ap (λ (l : List Look). lines ++ map line (looks_at (memory s.at.0) l)) none ∙ append-nil lines) s.at.2;
      }

  -- one look more
  shown_on : (x : X) (place next : ℕ) (look : Show) (e : Event) → slice_get h.programs turn.program ≡ Some x → next ≡ place + 1
      → IsNextShow turn.program h.shows from place → slice_get h.shows place ≡ Some look → e ≡ shown look.at (bytes_shown (memory x) (record { at = look.at; len = look.len }))
      → TellsFrom begun programs detaches ds (since begun h.begun) ((lines ++ line e ∷ []) ++ map line (looks_at (memory x) (looks_of turn.program (drop next h.shows)))) s.tellers ds'
  shown_on x place next look e there next_is is look_there e_is =
      let look_is : look ≡ is.show = same_Some look is.show (sym look_there ∙ is.there) in
      let x_is : s.at.0 ≡ x = same_Some s.at.0 x (sym s.at.1 ∙ there) in
      let next_suc : suc place ≡ next = omega (arith, next_is) in
      let first : map line (looks_at (memory s.at.0) (looks_of turn.program (drop from h.shows))) ≡ line e ∷ map line (looks_at (memory x) (looks_of turn.program (drop next h.shows))) =
      ap (λ (l : List Look). map line (looks_at (memory s.at.0) l)) is.first
      ∙ (λ k. line (shown (sym look_is k).at (bytes_shown (memory (x_is k)) (look_of (sym look_is k)))) ∷ map line (looks_at (memory (x_is k)) (looks_of turn.program (drop (next_suc k) h.shows))))
      ∙ ap (λ (v : Event). line v ∷ map line (looks_at (memory x) (looks_of turn.program (drop next h.shows)))) (sym e_is) in
      subst (λ (ls : List Line). TellsFrom begun programs detaches ds (since begun h.begun) ls s.tellers ds')
      (ap (λ (ls : List Line). lines ++ ls) first ∙ sym (append_assoc lines (line e ∷ []) (map line (looks_at (memory x) (looks_of turn.program (drop next h.shows)))))) s.at.2

  pub shown_line : (x : X) (place next : ℕ) (look : Show) (e : Event) (cs : List Counted) → slice_get h.programs turn.program ≡ Some x → next ≡ place + 1
      → IsNextShow turn.program h.shows from place → slice_get h.shows place ≡ Some look → e ≡ shown look.at (bytes_shown (memory x) (record { at = look.at; len = look.len }))
      → TellsLineFrom begun follows over memory programs detaches ds lines s.tellers cs cs (line_at turn.due turn.program e) h ds' (Showing turn next)
  shown_line x place next look e cs there next_is is look_there e_is =
      record {
        stands = record {
          tellers = s.tellers;
          wide = s.wide;
          as_many = s.as_many;
          each = s.each;
          dues = s.dues;
          detaches_are = s.detaches_are;
          earlier_is = s.earlier_is;
          begun_is = s.begun_is;
          at = (x, there, shown_on x place next look e there next_is is look_there e_is);
        };
        met = [];
        meets = meets_none turn.program s.tellers;
        takes = taken_by programs turn.due turn.program _ e [] cs cs e_is (shown_takes programs h.programs x turn.due turn.program look.at _ cs s.as_many there);
      }

-- ---- whether there is one

pub looks_left : (program : ℕ) (shows : List Show) (from place : ℕ) → IsNextShow program shows from place → looks_of program (drop from shows) ≡ [] → ⊥
looks_left program shows from place is out = let bad : [] ≡ look_of is.show ∷ looks_of program (drop (suc place) shows) = sym out ∙ is.first in cc

pub none_out : {L E : Type 0} (A B : Type 0) (r : Result (Option L) E) → B → IfOk r (λ o. MatchOption o A (λ l. A → ⊥)) → IfOk r (λ o. MatchOption o (A × B) (λ l. A → B → ⊥))
none_out A B (Ok (Some l)) b h = λ x y. h x
none_out A B (Ok None) b h = (h, b)
none_out A B (Err e) b h = tt
