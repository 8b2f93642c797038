-- A program's strand tells one note more of its turn.
use Rattle.std.proofs.Common.{arith, ◌≡◌, ◌⊎◌, inl, inr, ℕ, suc, ◌+◌, List, [], ◌∷◌, ◌++◌, map, Option, Some, None, Bool, true, false, if◌then◌else◌, nat_eq, slice_get, slice_set, refl, sym, ap, ◌∙◌, subst, length-set, append_assoc, append-nil}
use Rattle.std.specs.Prelude.{is_none, not}
use Rattle.std.specs.Option.{is_some}
use Rattle.std.proofs.lemmas.Bool.{cases_eq, eq-eqb, ne_eqb}
use Rattle.std.proofs.lemmas.List.{map-set}
use Rattle.std.proofs.lemmas.Option.{same_Some}
use Rattle.wa_model.specs.declared.answers.Detach.{Detach}
use Rattle.wa_model.specs.Outside.{AnswerLine, Event, answered, called, ended, parked, paused, returned, shown}
use Rattle.wa_model.specs.Plan.{Outcome}
use Rattle.wa_model.specs.Blocking.{Note}
use Rattle.world_model.specs.World.{Device, Look, Program, bytes_shown, call_in, ends_turn, look_events, looks_after}
use Rattle.world_laws.proofs.Places.{set_here, set_same, set_there}
use Rattle.event_order.specs.declared.turns.Turn.{Turn}
use Rattle.event_order.specs.Left.{Counted}
use Rattle.event_order.specs.Looks.{looks_of}
use Rattle.host_laws.specs.Supplies.{Supply, Takes}
use Rattle.host_laws.proofs.Tellings.{one_more_met}
use Rattle.many_host.specs.Calls.{devices_of, faults_of}
use Rattle.many_host.specs.Standing.{looks_at}
use Rattle.many_host.specs.Telling.{supply}
use Rattle.strand_laws.specs.StrandNotes.{StrandCalls, TellsOnStrands}
use Rattle.strand_laws.specs.StrandWorld.{StrandLine, StrandsInWorld, looks_if, strand_in, strand_program}
use Rattle.strand_laws.specs.Strands.{strand_at}
use Rattle.strand_laws.specs.ToldStrands.{IsRest, ProgramTeller, StrandTeller, TellsStrands, having_told, line_of, met_and, told_on}
use Rattle.strand_laws.specs.Weaving.{Dues, EndNoTurn, HasTurn, IsDueFirst, now_behind}
use Rattle.strand_laws.specs.Woven.{Told, told_by}
use Rattle.strand_laws.proofs.Closing.{Closes, story_closes}
use Rattle.strand_laws.proofs.StrandNotes.{turn_ends, turn_goes_on}
use Rattle.strand_host.specs.declared.turn_taking.Stage.{Stage}
use Rattle.strand_host.specs.declared.turn_taking.Stage.TheVariants.{Telling}
use Rattle.strand_host.specs.StrandCalls.{TakesStrandCall}
use Rattle.strand_host.specs.StrandStanding.{Hosted, IsHosted, StrandsMeetMore, StrandsStandAt, StrandsStanding, TellsStrandLine, shown_lines, stage_behind}
use Rattle.strand_host.specs.Standing.{as_due, dues_of_strands, now_told, unless_over}
use Rattle.strand_host.specs.StrandTelling.{IsDueThen, IsToldSo, TellsStrandNote}
use Rattle.strand_host.proofs.StrandOrder.{first_is, none_goes_on, turn_some}

-- ---- small facts

true_false : {A : Type 0} → true ≡ false → A
true_false e = let no_way : ⊥ = cc in absurd no_way

-- what is told to the end ends with the end of a turn
last_closes : (o : Option ℕ) (ts : List Told) (u : Told) → Closes o (ts ++ u ∷ []) → ends_turn u.note.event ≡ true
last_closes o [] u h = by o u.note.event h
  where
    by : (o : Option ℕ) (e : Event) → Closes (now_behind u.strand e) [] → ends_turn e ≡ true
    by o (paused t v) h = refl
    by o (ended how) h = refl
    by o (called c) h = absurd h
    by o (answered c) h = absurd h
    by o (parked c) h = absurd h
    by o (returned c d) h = absurd h
    by o (shown c d) h = absurd h
last_closes None (t ∷ ts) u h = last_closes (now_behind t.strand t.note.event) ts u h
last_closes (Some i) (t ∷ ts) u h = last_closes (now_behind t.strand t.note.event) ts u h

rest_none : (b : Bool) (rest : List Told) → b ≡ true → IsRest b rest → rest ≡ []
rest_none true rest e h = h
rest_none false rest e h = cc

-- whether a program has ended, by when it is due
over_is : (t : ProgramTeller) (o : Option ℕ) → IsDueThen t o → is_none o ≡ t.has_ended
over_is t None d = sym d
over_is t (Some due) d = sym d.goes_on

pub none_of : (o : Option ℕ) (b : Bool) → is_some o ≡ not b → b ≡ is_none o
none_of None true e = refl
none_of None false e = cc
none_of (Some n) true e = cc
none_of (Some n) false e = refl

-- what is shown counts as told by the first strand
shown_first : (due i strand : ℕ) (memory : List ℕ) (looks : List Look) → map (line_of due i strand) (looks_at memory looks) ≡ map (line_of due i 0) (looks_at memory looks)
shown_first due i strand memory [] = refl
shown_first due i strand memory (k ∷ looks) = ap (λ (ls : List StrandLine). line_of due i 0 (shown k.at (bytes_shown memory k)) ∷ ls) (shown_first due i strand memory looks)

-- the call of a line is that of its strand
call_of : (g : StrandsInWorld) (k : ℕ) (e : Event) (old new : _) (met : List Outcome) → Takes (strand_program g [] k (strand_at g.program k)) (call_in e) old met new
    → Takes (strand_program g [] (strand_in k e) (strand_at g.program (strand_in k e))) (call_in e) old met new
call_of g k (called c) old new met t = t
call_of g k (answered c) old new met t = t
call_of g k (parked c) old new met t = t
call_of g k (returned c d) old new met t = t
call_of g k (paused c d) old new met t = t
call_of g k (ended how) old new met t = t
call_of g k (shown c d) old new met t = t

-- what its calls met counts for that strand
meets_line : (i k : ℕ) (e : Event) (met : List Outcome) (ts ts' : List ProgramTeller) (old new : Supply) (w : Program) → Takes w (call_in e) old met new → StrandsMeetMore i k met ts ts'
    → StrandsMeetMore i (strand_in k e) met ts ts'
meets_line i k (called c) met ts ts' old new w t m = m
meets_line i k (answered c) met ts ts' old new w t m = m
meets_line i k (parked c) met ts ts' old new w t m = m
meets_line i k (returned c d) met ts ts' old new w t m = m
meets_line i k (paused c d) met ts ts' old new w t m = m
meets_line i k (ended how) met ts ts' old new w t m = m
meets_line i k (shown c d) met ts ts' old new w tk m = λ j n t t' u u' et et' eu eu'.
    m j n t t' u u' et et' eu eu' ∙ ap (λ (l : List Outcome). u.met ++ l) (any_strand (nat_eq j i) (nat_eq n k) (nat_eq n 0) met tk.0)
  where
    any_strand : (b c d : Bool) (os : List Outcome) → os ≡ [] → (if b then (if c then os else []) else []) ≡ (if b then (if d then os else []) else [])
    any_strand false c d os is = refl
    any_strand true true true os is = refl
    any_strand true true false os is = is
    any_strand true false true os is = sym is
    any_strand true false false os is = refl

-- of the one strand, and of none other
both : (b c : Bool) (os : List Outcome) → b ≡ true → c ≡ true → (if b then (if c then os else []) else []) ≡ os
both true true os e f = refl
both true false os e f = cc
both false c os e f = cc

apart : (b c : Bool) (os : List Outcome) → (b ≡ false) ⊎ (c ≡ false) → (if b then (if c then os else []) else []) ≡ []
apart false c os e = refl
apart true false os e = refl
apart true true os (inl e) = cc
apart true true os (inr e) = cc

-- a strand that has told nothing of its turn is due as it was
nothing_due : (ss : List StrandTeller) (k : ℕ) (s : StrandTeller) (met : List Outcome) (answers : List AnswerLine) → slice_get ss k ≡ Some s → s.has_ended ≡ false
    → dues_of_strands (slice_set ss k (having_told s [] met answers)) ≡ dues_of_strands ss
nothing_due ss k s met answers there live =
    map-set as_due ss k (having_told s [] met answers)
    ∙ ap (slice_set (dues_of_strands ss) k) same
    ∙ sym (map-set as_due ss k s)
    ∙ ap dues_of_strands (set_same ss k s there)
  where
    same : as_due (having_told s [] met answers) ≡ as_due s
    same = let z : s.due + 0 ≡ s.due = omega arith in λ i. record { due = z i; at = unless_over (sym live i) }

-- ---- a note more

module _ {X : Type 0} (follows : X → StrandsInWorld → ProgramTeller → Type 0) (due_at : X → Option ℕ) (memory : X → List ℕ)
    (so : (x : X) (g : StrandsInWorld) (t : ProgramTeller) → follows x g t → IsToldSo g t (due_at x))
    (programs : List StrandsInWorld) (detaches : List Detach) (ds : List Device) (lines : List StrandLine) (h : Hosted X) (ds' : List Device) (turn : Turn)
    (s : StrandsStanding follows due_at memory programs detaches ds lines h ds' (Telling turn)) (x : X) (there : slice_get h.programs turn.program ≡ Some x) where
  abbrev i : ℕ
  i = turn.program

  abbrev strand : ℕ
  strand = s.at.1

  abbrev on : TellsOnStrands programs detaches ds s.at.0 i strand turn.due lines s.tellers ds'
  on = s.at.3

  abbrev own : StrandTeller
  own = having_told on.s on.turn on.met on.answers

  abbrev now : ProgramTeller
  now = told_on on.t strand own on.turn false

  teller_there : slice_get s.tellers i ≡ Some now
  teller_there = ap (λ (l : List ProgramTeller). slice_get l i) on.after ∙ set_here on.mid i now on.t on.there

  own_there : slice_get now.strands strand ≡ Some own
  own_there = set_here on.t.strands strand own on.s on.strand_there

  held : IsHosted follows h.shows i on.g now x
  held = s.each i on.g now x on.is_program teller_there there

  -- what it has told so far
  pub follows_now : (g : StrandsInWorld) × (t : ProgramTeller) × follows x g t × (t.has_ended ≡ false)
  follows_now = (on.g, now, held.follow, refl)

  -- whose turn it is has it still
  same_strand : (k : ℕ) → HasTurn (now_told now.told) (dues_of_strands now.strands) k → k ≡ strand
  same_strand k turns = by on.turn on.goes_on turns
    where
      d_is : on.next.is_due.t ≡ on.t
      d_is = same_Some on.next.is_due.t on.t (sym on.next.is_due.there ∙ on.there)

      s_is : on.next.is_due.s ≡ on.s
      s_is = same_Some on.next.is_due.s on.s (sym on.next.is_due.strand_there ∙ ap (λ (u : ProgramTeller). slice_get u.strands strand) d_is ∙ on.strand_there)

      live : on.s.has_ended ≡ false
      live = ap (λ (u : StrandTeller). u.has_ended) (sym s_is) ∙ on.next.is_due.unfinished

      by : (xs : List Note) → EndNoTurn xs
          → HasTurn (now_told (on.t.told ++ told_by strand xs)) (dues_of_strands (slice_set on.t.strands strand (having_told on.s xs on.met on.answers))) k → k ≡ strand
      by [] quiet h =
          let none : now_told (on.t.told ++ []) ≡ None = ap now_told (append-nil on.t.told) ∙ none_goes_on programs detaches ds s.at.0 on.before on.mid on.es on.whole i on.t on.there in
          first_is on.mid i strand turn.due on.t on.next on.there k
          (subst (λ (v : Dues). IsDueFirst v k) (nothing_due on.t.strands strand on.s on.met on.answers on.strand_there live)
          (subst (λ (o : Option ℕ). HasTurn o (dues_of_strands (slice_set on.t.strands strand (having_told on.s [] on.met on.answers))) k) none h))
      by (y ∷ ys) quiet h =
          sym (subst (λ (o : Option ℕ). HasTurn o (dues_of_strands (slice_set on.t.strands strand (having_told on.s (y ∷ ys) on.met on.answers))) k) (turn_some on.t.told strand y ys quiet) h)

  module _ (x' : X) (e : Event) (faults faults' : List ℕ) (ds'' : List Device) (n : TellsStrandNote (follows x' on.g) (memory x') on.g now strand e ds' faults ds'' faults') where
    abbrev mine : StrandTeller
    mine = having_told n.s (n.note ∷ []) n.met n.answers

    abbrev next : ProgramTeller
    next = told_on now strand mine (n.note ∷ []) n.is_last

    abbrev after : List ProgramTeller
    after = slice_set s.tellers i next

    calls : StrandCalls on.g strand (n.note ∷ []) n.met n.s.answers ds' n.answers ds''
    calls = one_more_met (strand_program on.g [] strand (strand_at on.g.program strand)) [] [] n.met n.s.answers ds' n.note (supply n.s.answers ds' faults) (supply n.answers ds'' faults') (refl, refl, refl) n.takes

    told_so : IsToldSo on.g next (due_at x')
    told_so = so x' on.g next n.follow

    -- with the last note a turn ends
    last_ends : n.is_last ≡ true → ends_turn e ≡ true
    last_ends last =
        let r = told_so.story.begins [] in
        let none : next.told ++ r.0 ≡ now.told ++ record { strand = strand; note = n.note } ∷ [] = ap (λ (us : List Told). next.told ++ us) (rest_none n.is_last r.0 last r.2) ∙ append-nil next.told in
        let closed : Closes None (next.told ++ r.0) = story_closes on.g (met_and next.strands []) (next.told ++ r.0) r.1 in
        ap ends_turn (sym n.event_is) ∙ last_closes None now.told (record { strand = strand; note = n.note }) (subst (Closes None) none closed)

    goes_on : (b : Bool) → n.is_last ≡ b → ends_turn e ≡ false → n.is_last ≡ false
    goes_on true is quiet = true_false (sym (last_ends is) ∙ quiet)
    goes_on false is quiet = is

    next_held : IsHosted follows h.shows i on.g next x'
    next_held = record { follow = n.follow; looks = held.looks }

    abbrev held_now : (due : Option ℕ) → Hosted X
    held_now due = record { programs = slice_set h.programs i x'; dues = slice_set h.dues i due; detaches = h.detaches; shows = h.shows; begun = h.begun }

    each : (j : ℕ) (g : StrandsInWorld) (t : ProgramTeller) (y : X) → slice_get programs j ≡ Some g → slice_get after j ≡ Some t → slice_get (slice_set h.programs i x') j ≡ Some y
        → IsHosted follows h.shows j g t y
    each j g t y eg et ey = by (cases_eq j i) where
      by : (j ≡ i) ⊎ (j ≡ i → ⊥) → IsHosted follows h.shows j g t y
      by (inr other) = s.each j g t y eg (sym (set_there s.tellers i j next other) ∙ et) (sym (set_there h.programs i j x' other) ∙ ey)
      by (inl same) =
          let g_is : on.g ≡ g = same_Some on.g g (sym on.is_program ∙ ap (slice_get programs) (sym same) ∙ eg) in
          let t_is : next ≡ t = same_Some next t (sym (set_here s.tellers i next now teller_there) ∙ ap (slice_get after) (sym same) ∙ et) in
          let y_is : x' ≡ y = same_Some x' y (sym (set_here h.programs i x' x there) ∙ ap (slice_get (slice_set h.programs i x')) (sym same) ∙ ey) in
          subst (λ (k : ℕ). IsHosted follows h.shows k g t y) (sym same)
          (subst (λ (v : StrandsInWorld). IsHosted follows h.shows i v t y) g_is
          (subst (λ (v : ProgramTeller). IsHosted follows h.shows i on.g v y) t_is (subst (λ (v : X). IsHosted follows h.shows i on.g next v) y_is next_held)))

    -- ---- where it stands

    abbrev line : Event → StrandLine
    line v = line_of turn.due i strand v

    goes : ends_turn e ≡ false → TellsOnStrands programs detaches ds s.at.0 i strand turn.due (lines ++ line e ∷ []) after ds''
    goes quiet =
        subst (λ (v : Event). TellsOnStrands programs detaches ds s.at.0 i strand turn.due (lines ++ line v ∷ []) after ds'') n.event_is
        (subst (λ (b : Bool). TellsOnStrands programs detaches ds s.at.0 i strand turn.due (lines ++ line n.note.event ∷ [])
        (slice_set s.tellers i (told_on now strand (having_told n.s (n.note ∷ []) n.met n.answers) (n.note ∷ []) b)) ds'') (sym (goes_on n.is_last refl quiet))
        (turn_goes_on programs detaches ds ds' ds'' s.at.0 i strand turn.due lines s.tellers on.g now n.s n.note n.met n.answers on on.is_program teller_there n.there calls (ap ends_turn n.event_is ∙ quiet)))

    abbrev looks_now : Bool → List Look
    looks_now b = looks_if b on.g.looks

    ends : ends_turn e ≡ true → TellsStrands programs detaches ds h.begun (lines ++ line e ∷ map line (looks_after (looks_now n.is_last) n.note e)) after ds''
    ends quiet =
        subst (λ (k : ℕ). TellsStrands programs detaches ds k (lines ++ line e ∷ map line (looks_after (looks_now n.is_last) n.note e)) after ds'') (sym s.at.2)
        (subst (λ (v : Event). TellsStrands programs detaches ds (suc s.at.0) (lines ++ line v ∷ map line (looks_after (looks_now n.is_last) n.note v)) after ds'') n.event_is
        (turn_ends programs detaches ds ds' ds'' s.at.0 i strand turn.due lines s.tellers on.g now n.s n.note n.is_last n.met n.answers on on.is_program teller_there n.there calls (ap ends_turn n.event_is ∙ quiet)))

    abbrev Stands : (due : Option ℕ) (b : Bool) → Event → Type 0
    Stands due b v = StrandsStandAt memory programs detaches ds (lines ++ line v ∷ []) after (held_now due) ds'' (stage_behind turn b v)

    open_at : (v : Event) → e ≡ v → ends_turn v ≡ false → TellsOnStrands programs detaches ds s.at.0 i strand turn.due (lines ++ line v ∷ []) after ds''
    open_at v is quiet = subst (λ (w : Event). TellsOnStrands programs detaches ds s.at.0 i strand turn.due (lines ++ line w ∷ []) after ds'') is (goes (ap ends_turn is ∙ quiet))

    whole : (v : Event) (b : Bool) → e ≡ v → n.is_last ≡ b → ends_turn v ≡ true → TellsStrands programs detaches ds h.begun (lines ++ line v ∷ map line (looks_after (looks_now b) n.note v)) after ds''
    whole v b is last quiet =
        subst (λ (c : Bool). TellsStrands programs detaches ds h.begun (lines ++ line v ∷ map line (looks_after (looks_now c) n.note v)) after ds'') last
        (subst (λ (w : Event). TellsStrands programs detaches ds h.begun (lines ++ line w ∷ map line (looks_after (looks_now n.is_last) n.note w)) after ds'') is (ends (ap ends_turn is ∙ quiet)))

    -- what is to be shown behind the last end
    shows_are : map line (look_events n.note.store (looks_now true)) ≡ shown_lines turn.due i (memory x') 0 h.shows
    shows_are =
        ap (λ (ns : List ℕ). map line (looks_at ns on.g.looks)) n.memory_is ∙ ap (λ (l : List Look). map line (looks_at (memory x') l)) held.looks
        ∙ shown_first turn.due i strand (memory x') (looks_of i h.shows)

    stands : (due : Option ℕ) (b : Bool) (v : Event) → n.is_last ≡ b → e ≡ v → Stands due b v
    stands due b (called c) last is = (s.at.0, strand, s.at.2, open_at (called c) is refl)
    stands due b (answered c) last is = (s.at.0, strand, s.at.2, open_at (answered c) is refl)
    stands due b (parked c) last is = (s.at.0, strand, s.at.2, open_at (parked c) is refl)
    stands due b (returned c d) last is = (s.at.0, strand, s.at.2, open_at (returned c d) is refl)
    stands due b (shown c d) last is = (s.at.0, strand, s.at.2, open_at (shown c d) is refl)
    stands due b (paused c d) last is = whole (paused c d) b is last refl
    stands due false (ended how) last is = whole (ended how) false is last refl
    stands due true (ended how) last is = (
      x',
      set_here h.programs i x' x there,
      subst (λ (ls : List StrandLine). TellsStrands programs detaches ds h.begun ls after ds'')
          (ap (λ (ls : List StrandLine). lines ++ line (ended how) ∷ ls) shows_are ∙ sym (append_assoc lines (line (ended how) ∷ []) (shown_lines turn.due i (memory x') 0 h.shows)))
          (whole (ended how) true is last refl),
    )

    abbrev told_more : (due : Option ℕ) (b : Bool) (stage : Stage) → due ≡ due_at x' → b ≡ is_none due → stage ≡ stage_behind turn b e
        → StrandsStanding follows due_at memory programs detaches ds (lines ++ line e ∷ []) (held_now due) ds'' stage
    told_more due b stage due_is b_is stage_is =
        record {
          tellers = after;
          wide = length-set s.tellers i next ∙ s.wide;
          as_many = length-set h.programs i x' ∙ s.as_many;
          each = each;
          dues = (λ k. slice_set (s.dues k) i (due_is k)) ∙ sym (map-set due_at h.programs i x');
          detaches_are = s.detaches_are;
          at = subst (λ (g : Stage). StrandsStandAt memory programs detaches ds (lines ++ line e ∷ []) after (held_now due) ds'' g) (sym stage_is)
              (stands due b e (sym (b_is ∙ ap is_none due_is ∙ over_is next (due_at x') told_so.due_is)) refl);
        }

    -- what the calls met
    meets : StrandsMeetMore i strand n.met s.tellers after
    meets j k t t' u u' et et' eu eu' = by (cases_eq j i) (cases_eq k strand)
      where
        kept : u' ≡ u → (j ≡ i → ⊥) ⊎ (k ≡ strand → ⊥) → u'.met ≡ u.met ++ (if nat_eq j i then (if nat_eq k strand then n.met else []) else [])
        kept is other =
            ap (λ (v : StrandTeller). v.met) is ∙ sym (append-nil u.met)
            ∙ ap (λ (l : List Outcome). u.met ++ l) (sym (apart (nat_eq j i) (nat_eq k strand) n.met (elim other [ inl ne ↦ inl (ne_eqb j i ne) | inr ne ↦ inr (ne_eqb k strand ne) ])))

        same_t : (j ≡ i → ⊥) → t' ≡ t
        same_t other = same_Some t' t (sym et' ∙ set_there s.tellers i j next other ∙ et)

        was : j ≡ i → t ≡ now
        was is = same_Some t now (sym et ∙ ap (slice_get s.tellers) is ∙ teller_there)

        goes_to : j ≡ i → t' ≡ next
        goes_to is = same_Some t' next (sym et' ∙ ap (slice_get after) is ∙ set_here s.tellers i next now teller_there)

        by : (j ≡ i) ⊎ (j ≡ i → ⊥) → (k ≡ strand) ⊎ (k ≡ strand → ⊥) → u'.met ≡ u.met ++ (if nat_eq j i then (if nat_eq k strand then n.met else []) else [])
        by (inr other) o = kept (same_Some u' u (sym eu' ∙ ap (λ (v : ProgramTeller). slice_get v.strands k) (same_t other) ∙ eu)) (inl other)
        by (inl is) (inr other) =
            kept
            (same_Some u' u (
            sym eu' ∙ ap (λ (v : ProgramTeller). slice_get v.strands k) (goes_to is) ∙ set_there now.strands strand k mine other
            ∙ ap (λ (v : ProgramTeller). slice_get v.strands k) (sym (was is)) ∙ eu
            )) (inr other)
        by (inl is) (inl same) =
            let u_is : u ≡ n.s = same_Some u n.s (sym eu ∙ ap (λ (v : ProgramTeller). slice_get v.strands k) (was is) ∙ ap (slice_get now.strands) same ∙ n.there) in
            let u'_is : u' ≡ mine = same_Some u' mine (sym eu' ∙ ap (λ (v : ProgramTeller). slice_get v.strands k) (goes_to is) ∙ ap (slice_get next.strands) same ∙ set_here now.strands strand mine n.s n.there) in
            ap (λ (v : StrandTeller). v.met) u'_is ∙ ap (λ (v : StrandTeller). v.met ++ n.met) (sym u_is)
            ∙ ap (λ (l : List Outcome). u.met ++ l) (sym (both (nat_eq j i) (nat_eq k strand) n.met (eq-eqb j i is) (eq-eqb k strand same)))

    -- what the call took
    call_on : (old new : List Counted) → devices_of old ≡ ds' → faults_of old ≡ faults → devices_of new ≡ ds'' → faults_of new ≡ faults' → TakesStrandCall programs (line e) n.met old new
    call_on old new d f d' f' =
        record {
          g = on.g;
          program = on.is_program;
          answers = n.s.answers;
          left = n.answers;
          takes = call_of on.g strand e (supply n.s.answers (devices_of old) (faults_of old)) (supply n.answers (devices_of new) (faults_of new)) n.met
              (subst (λ (v : Event). Takes w (call_in v) (supply n.s.answers (devices_of old) (faults_of old)) n.met (supply n.answers (devices_of new) (faults_of new))) n.event_is
              (subst (λ (l : List Device). Takes w (call_in n.note.event) (supply n.s.answers l (faults_of old)) n.met (supply n.answers (devices_of new) (faults_of new))) (sym d)
              (subst (λ (l : List ℕ). Takes w (call_in n.note.event) (supply n.s.answers ds' l) n.met (supply n.answers (devices_of new) (faults_of new))) (sym f)
              (subst (λ (l : List Device). Takes w (call_in n.note.event) (supply n.s.answers ds' faults) n.met (supply n.answers l (faults_of new))) (sym d')
              (subst (λ (l : List ℕ). Takes w (call_in n.note.event) (supply n.s.answers ds' faults) n.met (supply n.answers ds'' l)) (sym f') n.takes)))));
        }
      where
        w : Program
        w = strand_program on.g [] strand (strand_at on.g.program strand)

    line_more : (due : Option ℕ) (b : Bool) (stage : Stage) → due ≡ due_at x' → b ≡ is_none due → stage ≡ stage_behind turn b e → (old new : List Counted) → devices_of old ≡ ds' → faults_of old ≡ faults
        → devices_of new ≡ ds'' → faults_of new ≡ faults' → TellsStrandLine follows due_at memory programs detaches ds lines s.tellers old new (line e) (held_now due) ds'' stage
    line_more due b stage due_is b_is stage_is old new d f d' f' = record { stands = told_more due b stage due_is b_is stage_is; met = n.met; meets = meets_line i strand e n.met s.tellers after (supply n.s.answers ds' faults) (supply n.answers ds'' faults') (strand_program on.g [] strand (strand_at on.g.program strand)) (subst (λ (v : Event). Takes (strand_program on.g [] strand (strand_at on.g.program strand)) (call_in v) (supply n.s.answers ds' faults) n.met (supply n.answers ds'' faults')) n.event_is n.takes) meets; takes = call_on old new d f d' f' }

  pub line_told : (x' : X) (k : ℕ) (e : Event) (faults faults' : List ℕ) (ds'' : List Device)
      → ((g : StrandsInWorld) (t : ProgramTeller) → follows x g t → t.has_ended ≡ false → TellsStrandNote (follows x' g) (memory x') g t k e ds' faults ds'' faults')
      → (due : Option ℕ) (b : Bool) (stage : Stage) (told : ℕ) → due ≡ due_at x' → b ≡ is_none due → stage ≡ stage_behind turn b e → told ≡ strand_in k e → (old new : List Counted)
      → devices_of old ≡ ds' → faults_of old ≡ faults → devices_of new ≡ ds'' → faults_of new ≡ faults'
      → TellsStrandLine follows due_at memory programs detaches ds lines s.tellers old new (record { tick = turn.due; program = i; strand = told; event = e })
      (record { programs = slice_set h.programs i x'; dues = slice_set h.dues i due; detaches = h.detaches; shows = h.shows; begun = h.begun }) ds'' stage
  line_told x' k e faults faults' ds'' tells due b stage told due_is b_is stage_is told_is old new d f d' f' =
      let n = tells on.g now held.follow refl in
      let same : k ≡ strand = same_strand k n.turn in
      subst (λ (j : ℕ). TellsStrandLine follows due_at memory programs detaches ds lines s.tellers old new (record { tick = turn.due; program = i; strand = j; event = e })
      (record { programs = slice_set h.programs i x'; dues = slice_set h.dues i due; detaches = h.detaches; shows = h.shows; begun = h.begun }) ds'' stage)
      (sym (told_is ∙ ap (λ (j : ℕ). strand_in j e) same))
      (line_more x' e faults faults' ds'' (subst (λ (j : ℕ). TellsStrandNote (follows x' on.g) (memory x') on.g now j e ds' faults ds'' faults') same n) due b stage due_is b_is stage_is old new d f d' f')

-- by what is known of the devices
pub line_from : {X : Type 0} {follows : X → StrandsInWorld → ProgramTeller → Type 0} {due_at : X → Option ℕ} {memory : X → List ℕ} {programs : List StrandsInWorld} {detaches : List Detach}
    {ds : List Device} {lines : List StrandLine} {tellers : List ProgramTeller} {old old' new : List Counted} {line : StrandLine} {h : Hosted X} {ds' : List Device} {stage : Stage}
    → old ≡ old' → TellsStrandLine follows due_at memory programs detaches ds lines tellers old new line h ds' stage
    → TellsStrandLine follows due_at memory programs detaches ds lines tellers old' new line h ds' stage
line_from {programs = programs} {new = new} {line = line} is t = record { stands = t.stands; met = t.met; meets = t.meets; takes = subst (λ (l : List Counted). TakesStrandCall programs line t.met l new) is t.takes }
