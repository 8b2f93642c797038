-- The next turn begins.
use Rattle.std.proofs.Common.{arith, ◌≡◌, ◌<◌, ◌+◌, ℕ, suc, List, length, map, Option, Some, Bool, slice_get, sym, ap, ◌∙◌, subst}
use Rattle.std.proofs.lemmas.List.{length-map}
use Rattle.std.proofs.lemmas.Option.{slice_get_within}
use Rattle.wa_model.specs.declared.answers.Detach.{Detach}
use Rattle.wa_model.specs.Outside.{AnswerLine, Line}
use Rattle.wa_model.specs.Plan.{Outcome}
use Rattle.wa_model.specs.Blocking.{Note}
use Rattle.world_model.specs.World.{Device, Program, detached}
use Rattle.event_order.specs.declared.turns.Turn.{Turn}
use Rattle.event_order.specs.Dues.{IsLeast}
use Rattle.many_host.specs.Turns.{due_of, behind, since}
use Rattle.world_laws.proofs.Places.{item}
use Rattle.many_host.specs.Notes.{TellsOnFrom}
use Rattle.many_host.proofs.Begun.{turn_begins}
use Rattle.many_host.proofs.Numbers.{begun_next, next_since}
use Rattle.many_host.specs.declared.turn_taking.Stage.{Stage}
use Rattle.many_host.specs.declared.turn_taking.Stage.TheVariants.{Between, Telling}
use Rattle.many_host.specs.Standing.{Held, StandingFrom, StandsAtFrom}

-- who is due is there
pub due_within : (dues : List (Option ℕ)) (count i due : ℕ) → length dues ≡ count → IsLeast dues i due → i < count
due_within dues count i due wide least = omega (arith, slice_get_within dues i (Some due) least.there, wide)

module _ {X : Type 0} (follows : X → Program → List Note → List Outcome → List AnswerLine → Type 0) (over : X → Bool) (memory : X → List ℕ)
    (begun : ℕ) (programs : List Program) (detaches : List Detach) (ds : List Device) (lines : List Line) (h : Held X) (ds' : List Device) (turn : Turn)
    (s : StandingFrom begun follows over memory programs detaches ds lines h ds' Between) (least : IsLeast h.dues turn.program turn.due) where
  least_is : IsLeast (map due_of s.tellers) turn.program turn.due
  least_is = subst (λ (l : List (Option ℕ)). IsLeast l turn.program turn.due) s.dues least

  within : turn.program < length programs
  within = omega (arith, slice_get_within (map due_of s.tellers) turn.program (Some turn.due) least_is.there, length-map s.tellers due_of, s.wide)

  abbrev w : (w : Program) × (slice_get programs turn.program ≡ Some w)
  w = item programs turn.program within

  abbrev begun_now : ℕ → Held X
  begun_now next = record { programs = h.programs; dues = h.dues; detaches = h.detaches; shows = h.shows; begun = next; earlier = h.earlier }

  pub next_is : (next : ℕ) → next ≡ h.begun + 1 → next ≡ suc h.begun
  next_is next is = omega (arith, is)

  pub begun_on : (next : ℕ) (own : List Detach) (es : List Device) → next ≡ h.begun + 1 → own ≡ h.detaches → es ≡ detached next own ds'
      → (since begun next ≡ suc (since begun h.begun)) × TellsOnFrom begun programs detaches ds (since begun h.begun) turn.program turn.due lines s.tellers es
  begun_on next own es is own_is out =
      let number : suc (behind begun (since begun h.begun)) ≡ next = ap suc s.begun_is ∙ sym (next_is next is) in
      let out_is : detached (suc (behind begun (since begun h.begun))) detaches ds' ≡ es = (λ k. detached (number k) (sym (own_is ∙ s.detaches_are) k) ds') ∙ sym out in (
        next_since begun h.begun next s.begun_is (next_is next is),
        subst (λ (d : List Device). TellsOnFrom begun programs detaches ds (since begun h.begun) turn.program turn.due lines s.tellers d) out_is
            (turn_begins begun programs detaches ds ds' (since begun h.begun) turn.program turn.due lines s.tellers w.0 s.at w.1 least_is),
      )

  abbrev pub begun_at : (next : ℕ) (own : List Detach) (es : List Device) → next ≡ h.begun + 1 → own ≡ h.detaches → es ≡ detached next own ds'
      → StandingFrom begun follows over memory programs detaches ds lines (begun_now next) es (Telling turn)
  begun_at next own es is own_is out =
      record {
        tellers = s.tellers;
        wide = s.wide;
        as_many = s.as_many;
        each = s.each;
        dues = s.dues;
        detaches_are = s.detaches_are;
        earlier_is = s.earlier_is;
        begun_is = begun_next begun h.begun next s.begun_is (next_is next is);
        at = (since begun h.begun, (begun_on next own es is own_is out).0, (begun_on next own es is own_is out).1);
      }

-- where it is known to stand
abbrev pub standing : {X : Type 0} (follows : X → Program → List Note → List Outcome → List AnswerLine → Type 0) (over : X → Bool) (memory : X → List ℕ) (begun : ℕ) (programs : List Program)
    (detaches : List Detach) (ds : List Device) (lines : List Line) (h : Held X) (ds' : List Device) (stage stage' : Stage) → stage ≡ stage'
    → StandingFrom begun follows over memory programs detaches ds lines h ds' stage → StandingFrom begun follows over memory programs detaches ds lines h ds' stage'
standing follows over memory begun programs detaches ds lines h ds' stage stage' is s =
    record {
      tellers = s.tellers;
      wide = s.wide;
      as_many = s.as_many;
      each = s.each;
      dues = s.dues;
      detaches_are = s.detaches_are;
      earlier_is = s.earlier_is;
      begun_is = s.begun_is;
      at = subst (λ (g : Stage). StandsAtFrom begun memory programs detaches ds lines s.tellers h ds' g) is s.at;
    }
