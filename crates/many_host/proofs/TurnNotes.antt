-- A program tells one note more of its turn.
use Rattle.std.proofs.Common.{arith, ◌≡◌, ◌⊎◌, inl, inr, ℕ, suc, List, [], ◌∷◌, ◌++◌, map, Option, Some, Bool, true, false, if◌then◌else◌, nat_eq, slice_get, slice_set, refl, sym, ap, ◌∙◌, subst, length-set, append_assoc, append-nil}
use Rattle.std.proofs.lemmas.Bool.{cases_eq, eq-eqb, ne_eqb}
use Rattle.std.proofs.lemmas.Option.{same_Some}
use Rattle.wa_model.specs.declared.answers.Detach.{Detach}
use Rattle.wa_model.specs.Outside.{AnswerLine, Event, called, answered, paused, parked, returned, ended, shown, Line}
use Rattle.wa_model.specs.Plan.{Outcome}
use Rattle.wa_model.specs.Blocking.{Note}
use Rattle.world_model.specs.World.{Device, Program, CallsMeet, call_in, ends_turn, is_end, line_at, looks_after}
use Rattle.event_order.specs.declared.turns.Turn.{Turn}
use Rattle.event_order.specs.Left.{Counted}
use Rattle.event_order.specs.Looks.{looks_of}
use Rattle.many_host.specs.Turns.{MeetMore, Teller, unless, due_of, having_told, since, TellsFrom}
use Rattle.world_laws.proofs.Places.{set_here, set_there}
use Rattle.many_host.specs.Notes.{TellsOnFrom}
use Rattle.many_host.proofs.Notes.{ends_none, off_none}
use Rattle.many_host.proofs.Further.{turn_goes_on, turn_ends}
use Rattle.host_laws.specs.Supplies.{Takes}
use Rattle.host_laws.proofs.Tellings.{one_more_met}
use Rattle.many_host.specs.declared.turn_taking.Stage.{Stage}
use Rattle.many_host.specs.declared.turn_taking.Stage.TheVariants.{Telling}
use Rattle.many_host.specs.Telling.{TellsNote, supply}
use Rattle.many_host.specs.Calls.{TakesCall, devices_of, faults_of}
use Rattle.many_host.specs.Standing.{Held, Holds, IsHeld, StandingFrom, StandsAtFrom, TellsLineFrom, due_behind, has_gone, looks_at, on_its_way, stage_behind}
use Rattle.many_host.proofs.TurnPlaces.{or_false, ends_on, dues_set}

module _ {X : Type 0} (follows : X → Program → List Note → List Outcome → List AnswerLine → Type 0) (over : X → Bool) (memory : X → List ℕ)
    (begun : ℕ) (programs : List Program) (detaches : List Detach) (ds : List Device) (lines : List Line) (h : Held X) (ds' : List Device) (turn : Turn)
    (s : StandingFrom begun follows over memory programs detaches ds lines h ds' (Telling turn)) (x : X) (there : slice_get h.programs turn.program ≡ Some x) where
  abbrev i : ℕ
  i = turn.program

  abbrev on : TellsOnFrom begun programs detaches ds s.at.0 turn.program turn.due lines s.tellers ds'
  on = s.at.2

  abbrev now : Teller
  now = having_told on.t on.turn on.met on.answers

  teller_there : slice_get s.tellers i ≡ Some now
  teller_there = ap (λ (l : List Teller). slice_get l i) on.after ∙ set_here on.mid i now on.t on.there

  -- who goes on hasn't ended before
  held : IsHeld follows over h.shows i on.w now x
  held = by (s.each i on.w now x on.program teller_there there)
    where
      by : Holds follows over h.shows i on.w now x → IsHeld follows over h.shows i on.w now x
      by (on_its_way held) = held
      by (has_gone is told looks) =
          let both : false ≡ true = sym (ends_none on.turn on.goes_on) ∙ ap (λ (t : Teller). t.has_ended) told ∙ is in
          absurd cc

  -- what it has told so far
  pub follows_now : (w : Program) × (notes : List Note) × (os : List Outcome) × (answers : List AnswerLine) × follows x w notes os answers
  follows_now = (on.w, now.told, now.met, now.answers, held.follow)

  pub runs : over x ≡ false
  runs = held.ended_is ∙ ends_none on.turn on.goes_on

  due_now : now.due ≡ turn.due
  due_now = omega (arith, off_none on.turn on.goes_on, on.due_is)

  module _ (x' : X) (e : Event) (faults faults' : List ℕ) (ds'' : List Device)
      (tells : (w : Program) (notes : List Note) (os : List Outcome) (answers : List AnswerLine) → follows x w notes os answers → over x ≡ false
      → TellsNote (follows x' w) (over x') (memory x') w notes os (supply answers ds' faults) e ds'' faults') where
    abbrev n : TellsNote (follows x' on.w) (over x') (memory x') on.w now.told now.met (supply now.answers ds' faults) e ds'' faults'
    n = tells on.w now.told now.met now.answers held.follow runs

    abbrev next : Teller
    next = having_told now (n.note ∷ []) n.met n.answers

    calls : CallsMeet on.w (n.note ∷ []) n.met now.answers ds' [] n.answers ds''
    calls = one_more_met on.w [] [] n.met now.answers ds' n.note (supply now.answers ds' faults) (supply n.answers ds'' faults') (refl, refl, refl) n.takes

    abbrev after : List Teller
    after = slice_set s.tellers i next

    next_held : IsHeld follows over h.shows i on.w next x'
    next_held =
        record {
          follow = n.follow;
          ended_is = n.ended_is ∙ sym (or_false (is_end n.note.event));
          told_end = ends_on now.told (n.note ∷ []) (held.told_end ∙ ends_none on.turn on.goes_on);
          looks = held.looks;
          live = held.live;
        }

    abbrev held_now : (due : Option ℕ) → Held X
    held_now due = record { programs = slice_set h.programs i x'; dues = slice_set h.dues i due; detaches = h.detaches; shows = h.shows; begun = h.begun; earlier = h.earlier }

    each : (j : ℕ) (w : Program) (t : Teller) (y : X) → slice_get programs j ≡ Some w → slice_get after j ≡ Some t → slice_get (slice_set h.programs i x') j ≡ Some y
        → Holds follows over h.shows j w t y
    each j w t y ew et ey = by (cases_eq j i) where
      by : (j ≡ i) ⊎ (j ≡ i → ⊥) → Holds follows over h.shows j w t y
      by (inr other) = s.each j w t y ew (sym (set_there s.tellers i j next other) ∙ et) (sym (set_there h.programs i j x' other) ∙ ey)
      by (inl same) =
          let w_is : on.w ≡ w = same_Some on.w w (sym on.program ∙ ap (slice_get programs) (sym same) ∙ ew) in
          let t_is : next ≡ t = same_Some next t (sym (set_here s.tellers i next now teller_there) ∙ ap (slice_get after) (sym same) ∙ et) in
          let y_is : x' ≡ y = same_Some x' y (sym (set_here h.programs i x' x there) ∙ ap (slice_get (slice_set h.programs i x')) (sym same) ∙ ey) in
          subst (λ (k : ℕ). Holds follows over h.shows k w t y) (sym same)
          (subst (λ (v : Program). Holds follows over h.shows i v t y) w_is
          (subst (λ (v : Teller). Holds follows over h.shows i on.w v y) t_is (subst (λ (v : X). Holds follows over h.shows i on.w next v) y_is (on_its_way next_held))))

    due_next : due_behind turn.due e ≡ due_of next
    due_next =
        ap (due_behind turn.due) (sym n.event_is)
        ∙ ap (λ (k : ℕ). unless (is_end n.note.event) k) (let z = due_now in omega arith)
        ∙ ap (λ (b : Bool). unless b next.due) (sym (or_false (is_end n.note.event)))

    dues : (due : Option ℕ) → due ≡ due_behind turn.due e → slice_set h.dues i due ≡ map due_of after
    dues due is = (λ k. slice_set (s.dues k) i ((is ∙ due_next) k)) ∙ sym (dues_set s.tellers i next)

    -- ---- where it stands

    abbrev line : Event → Line
    line v = line_at turn.due i v

    goes : ends_turn e ≡ false → TellsOnFrom begun programs detaches ds s.at.0 i turn.due (lines ++ line e ∷ []) after ds''
    goes quiet =
        subst (λ (v : Event). TellsOnFrom begun programs detaches ds s.at.0 i turn.due (lines ++ line v ∷ []) after ds'') n.event_is
        (turn_goes_on begun programs detaches ds ds' ds'' s.at.0 i turn.due lines s.tellers on.w now n.note n.met n.answers on on.program teller_there calls (ap ends_turn n.event_is ∙ quiet))

    abbrev Whole : List Line → Type 0
    Whole ls = TellsFrom begun programs detaches ds (since begun h.begun) ls after ds''

    ends : ends_turn e ≡ true → Whole (lines ++ line e ∷ map line (looks_after on.w.looks n.note e))
    ends quiet =
        subst (λ (k : ℕ). TellsFrom begun programs detaches ds k (lines ++ line e ∷ map line (looks_after on.w.looks n.note e)) after ds'') (sym s.at.1)
        (subst (λ (v : Event). TellsFrom begun programs detaches ds (suc s.at.0) (lines ++ line v ∷ map line (looks_after on.w.looks n.note v)) after ds'') n.event_is
        (turn_ends begun programs detaches ds ds' ds'' s.at.0 i turn.due lines s.tellers on.w now n.note n.met n.answers on on.program teller_there calls (ap ends_turn n.event_is ∙ quiet)))

    abbrev Stands : (due : Option ℕ) → Event → Type 0
    Stands due v = StandsAtFrom begun memory programs detaches ds (lines ++ line v ∷ []) after (held_now due) ds'' (stage_behind turn v)

    stands : (due : Option ℕ) (v : Event) → e ≡ v → Stands due v
    stands due (called c) is = (s.at.0, s.at.1, subst (λ (v : Event). TellsOnFrom begun programs detaches ds s.at.0 i turn.due (lines ++ line v ∷ []) after ds'') is (goes (ap ends_turn is)))
    stands due (answered v) is = (s.at.0, s.at.1, subst (λ (v : Event). TellsOnFrom begun programs detaches ds s.at.0 i turn.due (lines ++ line v ∷ []) after ds'') is (goes (ap ends_turn is)))
    stands due (returned entry v) is = (s.at.0, s.at.1, subst (λ (v : Event). TellsOnFrom begun programs detaches ds s.at.0 i turn.due (lines ++ line v ∷ []) after ds'') is (goes (ap ends_turn is)))
    stands due (parked used) is = (s.at.0, s.at.1, subst (λ (v : Event). TellsOnFrom begun programs detaches ds s.at.0 i turn.due (lines ++ line v ∷ []) after ds'') is (goes (ap ends_turn is)))
    stands due (shown at bytes) is = (s.at.0, s.at.1, subst (λ (v : Event). TellsOnFrom begun programs detaches ds s.at.0 i turn.due (lines ++ line v ∷ []) after ds'') is (goes (ap ends_turn is)))
    stands due (paused ticks used) is = subst (λ (v : Event). Whole (lines ++ line v ∷ map line (looks_after on.w.looks n.note v))) is (ends (ap ends_turn is))
    stands due (ended how) is = (
      x',
      set_here h.programs i x' x there,
      subst Whole lines_are (subst (λ (v : Event). Whole (lines ++ line v ∷ map line (looks_after on.w.looks n.note v))) is (ends (ap ends_turn is))),
    )
      where
        lines_are : lines ++ line (ended how) ∷ map line (looks_at n.note.store.memory on.w.looks) ≡ (lines ++ line (ended how) ∷ []) ++ map line (looks_at (memory x') (looks_of i h.shows))
        lines_are =
            (λ k. lines ++ line (ended how) ∷ map line (looks_at (n.memory_is k) (held.looks k)))
            ∙ sym (append_assoc lines (line (ended how) ∷ []) (map line (looks_at (memory x') (looks_of i h.shows))))

    abbrev told_on : (due : Option ℕ) (stage : Stage) → due ≡ due_behind turn.due e → stage ≡ stage_behind turn e
        → StandingFrom begun follows over memory programs detaches ds (lines ++ line_at turn.due i e ∷ []) (held_now due) ds'' stage
    told_on due stage due_is stage_is =
        record {
          tellers = after;
          wide = length-set s.tellers i next ∙ s.wide;
          as_many = length-set h.programs i x' ∙ s.as_many;
          each = each;
          dues = dues due due_is;
          detaches_are = s.detaches_are;
          earlier_is = s.earlier_is;
          begun_is = s.begun_is;
          at = subst (λ (g : Stage). StandsAtFrom begun memory programs detaches ds (lines ++ line e ∷ []) after (held_now due) ds'' g) (sym stage_is) (stands due e refl);
        }

    -- what the call met
    meets : MeetMore i n.met s.tellers after
    meets j t t' et et' = by (cases_eq j i) where
      by : (j ≡ i) ⊎ (j ≡ i → ⊥) → t'.met ≡ t.met ++ (if nat_eq j i then n.met else [])
      by (inr other) =
          let same : t' ≡ t = same_Some t' t (sym et' ∙ set_there s.tellers i j next other ∙ et) in
          ap (λ (x : Teller). x.met) same ∙ sym (append-nil t.met) ∙ ap (λ (b : Bool). t.met ++ (if b then n.met else [])) (sym (ne_eqb j i other))
      by (inl is) =
          let was : t ≡ now = same_Some t now (sym et ∙ ap (slice_get s.tellers) is ∙ teller_there) in
          let then_is : t' ≡ next = same_Some t' next (sym et' ∙ ap (slice_get after) is ∙ set_here s.tellers i next now teller_there) in
          ap (λ (x : Teller). x.met) then_is ∙ ap (λ (x : Teller). x.met ++ n.met) (sym was) ∙ ap (λ (b : Bool). t.met ++ (if b then n.met else [])) (sym (eq-eqb j i is))

    -- what the call took
    call_on : (old new : List Counted) → devices_of old ≡ ds' → faults_of old ≡ faults → devices_of new ≡ ds'' → faults_of new ≡ faults' → TakesCall programs (line_at turn.due i e) n.met old new
    call_on old new d f d' f' =
        record {
          w = on.w;
          program = on.program;
          answers = now.answers;
          left = n.answers;
          takes =
              subst (λ (v : Event). Takes on.w (call_in v) (supply now.answers (devices_of old) (faults_of old)) n.met (supply n.answers (devices_of new) (faults_of new))) n.event_is
              (subst (λ (l : List Device). Takes on.w (call_in n.note.event) (supply now.answers l (faults_of old)) n.met (supply n.answers (devices_of new) (faults_of new))) (sym d)
              (subst (λ (l : List ℕ). Takes on.w (call_in n.note.event) (supply now.answers ds' l) n.met (supply n.answers (devices_of new) (faults_of new))) (sym f)
              (subst (λ (l : List Device). Takes on.w (call_in n.note.event) (supply now.answers ds' faults) n.met (supply n.answers l (faults_of new))) (sym d')
              (subst (λ (l : List ℕ). Takes on.w (call_in n.note.event) (supply now.answers ds' faults) n.met (supply n.answers ds'' l)) (sym f') n.takes))));
        }

    pub line_told : (due : Option ℕ) (stage : Stage) → due ≡ due_behind turn.due e → stage ≡ stage_behind turn e → (old new : List Counted) → devices_of old ≡ ds' → faults_of old ≡ faults
        → devices_of new ≡ ds'' → faults_of new ≡ faults' → TellsLineFrom begun follows over memory programs detaches ds lines s.tellers old new (line_at turn.due i e) (held_now due) ds'' stage
    line_told due stage due_is stage_is old new d f d' f' =
        record { stands = told_on due stage due_is stage_is; met = n.met; meets = meets; takes = call_on old new d f d' f' }
