-- Each call of what was told met an outcome.
use Rattle.std.proofs.Common.{arith, ◌≡◌, ◌+◌, ◌⊎◌, inl, inr, ℕ, zero, suc, List, [], ◌∷◌, length, map, Option, Some, None, slice_get, slice_set, sym, ap, ◌∙◌, length-append}
use Rattle.std.specs.Option.{option_map}
use Rattle.std.proofs.lemmas.Bool.{cases_eq}
use Rattle.std.proofs.lemmas.Option.{slice_get-map, same_Some}
use Rattle.wa_model.specs.declared.answers.Detach.{Detach}
use Rattle.wa_model.specs.Outside.{AnswerLine, Call, Line}
use Rattle.wa_model.specs.Plan.{Outcome}
use Rattle.wa_model.specs.Blocking.{Note}
use Rattle.world_model.specs.World.{Device, Program, CallsMeet, NoteMeets, call_in}
use Rattle.world_laws.specs.Originals.{one_if, new_calls}
use Rattle.world_laws.proofs.Counting.{calls_on}
use Rattle.many_host.specs.Turns.{Teller, starting, having_told, TellsFrom}
use Rattle.world_laws.proofs.Places.{set_here, set_there}
use Rattle.many_host.specs.Notes.{TellsOnFrom}

calls_count : (w : Program) (xs : List Note) (os : List Outcome) (lines lines' : List AnswerLine) (ds ds' : List Device) → CallsMeet w xs os lines ds [] lines' ds' → new_calls xs ≡ length os
calls_count w [] os lines lines' ds ds' h = ap length h.0
calls_count w (x ∷ xs) os lines lines' ds ds' h = by (call_in x.event) h (λ o l d m. calls_count w xs o l lines' d ds' m) where
  by : (c : Option Call) → NoteMeets w c os lines ds (λ o l d. CallsMeet w xs o l d [] lines' ds')
      → ((o : List Outcome) (l : List AnswerLine) (d : List Device) → CallsMeet w xs o l d [] lines' ds' → new_calls xs ≡ length o) → one_if c + new_calls xs ≡ length os
  by None m on = let e = on os lines ds m in omega (arith, e)
  by (Some call) m on = let e = on m.1 m.2 m.3 m.6 in let l : length os ≡ suc (length m.1) = ap length m.4 in omega (arith, e, l)

abbrev pub Counted : Teller → Type 0
Counted t = new_calls t.told ≡ length t.met

told_counted : (w : Program) (t : Teller) (turn : List Note) (met : List Outcome) (answers lines : List AnswerLine) (ds ds' : List Device) → Counted t → CallsMeet w turn met lines ds [] answers ds'
    → Counted (having_told t turn met answers)
told_counted w t turn met answers lines ds ds' c calls =
    let n = calls_count w turn met lines answers ds ds' calls in
    omega (arith, c, n, calls_on t.told turn, length-append t.met met)

set_counted : (tellers : List Teller) (i j : ℕ) (t u v : Teller) → slice_get tellers i ≡ Some t → slice_get (slice_set tellers i u) j ≡ Some v → Counted u
    → ((x : Teller) → slice_get tellers j ≡ Some x → Counted x) → Counted v
set_counted tellers i j t u v there at c on = by (cases_eq j i) where
  by : (j ≡ i) ⊎ (j ≡ i → ⊥) → Counted v
  by (inr other) = on v (sym (set_there tellers i j u other) ∙ at)
  by (inl same) =
      let is : u ≡ v = same_Some u v (sym (set_here tellers i u t there) ∙ ap (slice_get (slice_set tellers i u)) (sym same) ∙ at) in
      sym (ap (λ (x : Teller). new_calls x.told) is) ∙ c ∙ ap (λ (x : Teller). length x.met) is

first_counted : (programs : List Program) (j : ℕ) (t : Teller) → slice_get (map starting programs) j ≡ Some t → Counted t
first_counted programs j t at = by (slice_get programs j) (sym (slice_get-map starting programs j) ∙ at) where
  by : (o : Option Program) → option_map starting o ≡ Some t → Counted t
  by None e = cc
  by (Some w) e = let is : starting w ≡ t = same_Some (starting w) t e in sym (ap (λ (x : Teller). new_calls x.told) is) ∙ ap (λ (x : Teller). length x.met) is

module _ (begun : ℕ) (programs : List Program) (detaches : List Detach) (ds : List Device) where
  pub counted : (number : ℕ) (lines : List Line) (tellers : List Teller) (ds' : List Device) → TellsFrom begun programs detaches ds number lines tellers ds' → (j : ℕ) (t : Teller)
      → slice_get tellers j ≡ Some t → Counted t
  counted zero lines tellers ds' h j t at = first_counted programs j t (ap (λ (l : List Teller). slice_get l j) (sym h.1) ∙ at)
  counted (suc number) lines tellers ds' h j t at =
      let play = h.5 in
      set_counted h.2 play.i j play.t (having_told play.t play.turn play.met play.answers) t play.there (ap (λ (l : List Teller). slice_get l j) (sym play.after) ∙ at)
      (told_counted play.w play.t play.turn play.met play.answers play.t.answers _ _ (counted number h.0 h.2 h.3 h.4 play.i play.t play.there) play.calls)
      (counted number h.0 h.2 h.3 h.4 j)

  pub counted_on : (number i due : ℕ) (lines : List Line) (tellers : List Teller) (ds' : List Device) → TellsOnFrom begun programs detaches ds number i due lines tellers ds' → (j : ℕ) (t : Teller)
      → slice_get tellers j ≡ Some t
      → Counted t
  counted_on number i due lines tellers ds' on j t at =
      set_counted on.mid i j on.t (having_told on.t on.turn on.met on.answers) t on.there (ap (λ (l : List Teller). slice_get l j) (sym on.after) ∙ at)
      (told_counted on.w on.t on.turn on.met on.answers on.t.answers _ _ (counted number on.before on.mid on.es on.whole i on.t on.there) on.calls)
      (counted number on.before on.mid on.es on.whole j)
