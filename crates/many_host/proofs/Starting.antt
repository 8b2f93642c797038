-- Before the first line.
use Rattle.std.proofs.Common.{◌≡◌, ℕ, List, [], map, Some, Bool, slice_get, refl, sym, ap, ◌∙◌, subst}
use Rattle.std.specs.Option.{option_map}
use Rattle.std.proofs.lemmas.List.{length-map}
use Rattle.std.proofs.lemmas.Option.{slice_get-map, same_Some}
use Rattle.wa_model.specs.Outside.{AnswerLine}
use Rattle.wa_model.specs.Plan.{Outcome}
use Rattle.wa_model.specs.Blocking.{Note}
use Rattle.world_model.specs.World.{Device, Program}
use Rattle.many_host.specs.Turns.{Teller, TellsFrom, behind, since, starting}
use Rattle.many_host.specs.declared.turn_taking.Stage.TheVariants.{Between}
use Rattle.many_host.specs.Standing.{AllStart, Held, Holds, StandingFrom}
use Rattle.many_host.proofs.Numbers.{none_behind, none_since}

teller_is : (ws : List Program) (i : ℕ) (w : Program) (t : Teller) → slice_get ws i ≡ Some w → slice_get (map starting ws) i ≡ Some t → starting w ≡ t
teller_is ws i w t ew et = same_Some (starting w) t (sym (slice_get-map starting ws i ∙ ap (option_map starting) ew) ∙ et)

pub stands_first : {X : Type 0} (begun : ℕ) (follows : X → Program → List Note → List Outcome → List AnswerLine → Type 0) (over : X → Bool) (memory : X → List ℕ) (ws : List Program)
    (ds : List Device) (h : Held X) → h.begun ≡ begun → h.earlier ≡ begun → AllStart follows over h.shows ws h.programs h.dues
    → StandingFrom begun follows over memory ws h.detaches ds [] h ds Between
stands_first begun follows over memory ws ds h is earlier s =
    record {
      tellers = map starting ws;
      wide = length-map ws starting;
      as_many = s.wide;
      each = λ i w t x ew et ex. subst (λ (u : Teller). Holds follows over h.shows i w u x) (teller_is ws i w t ew et) (s.each i w x ew ex);
      dues = s.dues_are;
      detaches_are = refl;
      earlier_is = earlier;
      begun_is = subst (λ (n : ℕ). behind begun (since begun n) ≡ n) (sym is) (ap (behind begun) (none_since begun) ∙ none_behind begun);
      at = subst (λ (k : ℕ). TellsFrom begun ws h.detaches ds k [] (map starting ws) ds) (sym (ap (since begun) is ∙ none_since begun)) (refl, refl, refl);
    }
