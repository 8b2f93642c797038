-- The next turn begins, and where a host is known to stand.
use Rattle.std.proofs.Common.{arith, ◌≡◌, ◌<◌, ◌+◌, ℕ, suc, List, [], length, map, Option, Some, None, slice_get, refl, sym, ap, ◌∙◌, subst}
use Rattle.std.specs.Option.{option_map}
use Rattle.std.proofs.lemmas.List.{length-map}
use Rattle.std.proofs.lemmas.Option.{same_Some, slice_get-map, slice_get_within}
use Rattle.wa_model.specs.declared.answers.Detach.{Detach}
use Rattle.world_model.specs.World.{Device, detached}
use Rattle.world_laws.proofs.Places.{item}
use Rattle.event_order.specs.declared.turns.Turn.{Turn}
use Rattle.event_order.specs.Dues.{IsLeast}
use Rattle.strand_laws.specs.StrandNotes.{TellsOnStrands}
use Rattle.strand_laws.specs.StrandWorld.{StrandLine, StrandsInWorld}
use Rattle.strand_laws.specs.ToldStrands.{IsDueNext, ProgramTeller, starting}
use Rattle.strand_laws.proofs.StrandNotes.{turn_begins}
use Rattle.strand_host.specs.declared.turn_taking.Stage.{Stage}
use Rattle.strand_host.specs.declared.turn_taking.Stage.TheVariants.{Between, Telling}
use Rattle.strand_host.specs.StrandStanding.{AllStrandsStart, Hosted, IsHosted, StrandsStandAt, StrandsStanding}
use Rattle.strand_host.specs.Standing.{now_told}
use Rattle.strand_host.specs.StrandTelling.{IsDueThen, IsToldSo}
use Rattle.strand_host.proofs.StrandOrder.{chosen_next, none_goes_on}

-- who is due is there
pub due_within : (dues : List (Option ℕ)) (count i due : ℕ) → length dues ≡ count → IsLeast dues i due → i < count
due_within dues count i due wide least = omega (arith, slice_get_within dues i (Some due) least.there, wide)

module _ {X : Type 0} (follows : X → StrandsInWorld → ProgramTeller → Type 0) (due_at : X → Option ℕ) (memory : X → List ℕ)
    (so : (x : X) (g : StrandsInWorld) (t : ProgramTeller) → follows x g t → IsToldSo g t (due_at x))
    (programs : List StrandsInWorld) (detaches : List Detach) (ds : List Device) (lines : List StrandLine) (h : Hosted X) (ds' : List Device) (turn : Turn)
    (s : StrandsStanding follows due_at memory programs detaches ds lines h ds' Between) (least : IsLeast h.dues turn.program turn.due) where
  least_is : IsLeast (map due_at h.programs) turn.program turn.due
  least_is = subst (λ (l : List (Option ℕ)). IsLeast l turn.program turn.due) s.dues least

  within : turn.program < length programs
  within = omega (arith, slice_get_within (map due_at h.programs) turn.program (Some turn.due) least_is.there, length-map h.programs due_at, s.as_many)

  each_due : (i : ℕ) (t : ProgramTeller) (x : X) → slice_get s.tellers i ≡ Some t → slice_get h.programs i ≡ Some x → IsDueThen t (due_at x) × (now_told t.told ≡ None)
  each_due i t x et ex =
      let g = item programs i (omega (arith, slice_get_within s.tellers i t et, s.wide)) in
      ((so x g.0 t (s.each i g.0 t x g.1 et ex).follow).due_is, none_goes_on programs detaches ds h.begun lines s.tellers ds' s.at i t et)

  pub next : (strand : ℕ) × IsDueNext s.tellers turn.program strand turn.due
  next = chosen_next due_at h.programs s.tellers (s.as_many ∙ sym s.wide) each_due turn.program turn.due least_is

  abbrev begun_now : ℕ → Hosted X
  begun_now n = record { programs = h.programs; dues = h.dues; detaches = h.detaches; shows = h.shows; begun = n }

  pub begun_on : (n : ℕ) (own : List Detach) (es : List Device) → n ≡ h.begun + 1 → own ≡ h.detaches → es ≡ detached n own ds'
      → TellsOnStrands programs detaches ds h.begun turn.program next.0 turn.due lines s.tellers es
  begun_on n own es is own_is out =
      let number : suc h.begun ≡ n = omega (arith, is) in
      let g = item programs turn.program within in
      let out_is : detached (suc h.begun) detaches ds' ≡ es = (λ k. detached (number k) (sym (own_is ∙ s.detaches_are) k) ds') ∙ sym out in
      subst (λ (d : List Device). TellsOnStrands programs detaches ds h.begun turn.program next.0 turn.due lines s.tellers d) out_is
      (turn_begins programs detaches ds ds' h.begun turn.program next.0 turn.due lines s.tellers g.0 s.at g.1 next.1)

  abbrev pub begun_at : (n : ℕ) (own : List Detach) (es : List Device) → n ≡ h.begun + 1 → own ≡ h.detaches → es ≡ detached n own ds'
      → StrandsStanding follows due_at memory programs detaches ds lines (begun_now n) es (Telling turn)
  begun_at n own es is own_is out =
      record {
        tellers = s.tellers;
        wide = s.wide;
        as_many = s.as_many;
        each = s.each;
        dues = s.dues;
        detaches_are = s.detaches_are;
        at = (h.begun, next.0, omega (arith, is), begun_on n own es is own_is out);
      }

-- where it is known to stand
abbrev pub standing : {X : Type 0} (follows : X → StrandsInWorld → ProgramTeller → Type 0) (due_at : X → Option ℕ) (memory : X → List ℕ) (programs : List StrandsInWorld) (detaches : List Detach)
    (ds : List Device) (lines : List StrandLine) (h : Hosted X) (ds' : List Device) (stage stage' : Stage) → stage ≡ stage'
    → StrandsStanding follows due_at memory programs detaches ds lines h ds' stage → StrandsStanding follows due_at memory programs detaches ds lines h ds' stage'
standing follows due_at memory programs detaches ds lines h ds' stage stage' is s =
    record {
      tellers = s.tellers;
      wide = s.wide;
      as_many = s.as_many;
      each = s.each;
      dues = s.dues;
      detaches_are = s.detaches_are;
      at = subst (λ (g : Stage). StrandsStandAt memory programs detaches ds lines s.tellers h ds' g) is s.at;
    }

-- ---- before the first line

teller_is : (gs : List StrandsInWorld) (i : ℕ) (g : StrandsInWorld) (t : ProgramTeller) → slice_get gs i ≡ Some g → slice_get (map starting gs) i ≡ Some t → starting g ≡ t
teller_is gs i g t eg et = same_Some (starting g) t (sym (slice_get-map starting gs i ∙ ap (option_map starting) eg) ∙ et)

pub stands_first : {X : Type 0} (follows : X → StrandsInWorld → ProgramTeller → Type 0) (due_at : X → Option ℕ) (memory : X → List ℕ) (gs : List StrandsInWorld) (ds : List Device) (h : Hosted X)
    → h.begun ≡ 0 → h.dues ≡ map due_at h.programs → AllStrandsStart follows h.shows gs h.programs → StrandsStanding follows due_at memory gs h.detaches ds [] h ds Between
stands_first follows due_at memory gs ds h none dues s =
    record {
      tellers = map starting gs;
      wide = length-map gs starting;
      as_many = s.wide;
      each = λ i g t x eg et ex. subst (λ (u : ProgramTeller). IsHosted follows h.shows i g u x) (teller_is gs i g t eg et) (s.each i g x eg ex);
      dues = dues;
      detaches_are = refl;
      at = subst (λ (n : ℕ). StrandsStandAt memory gs h.detaches ds [] (map starting gs) (record { programs = h.programs; dues = h.dues; detaches = h.detaches; shows = h.shows; begun = n }) ds Between) (sym none) (refl, refl, refl);
    }
