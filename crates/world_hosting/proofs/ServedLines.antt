-- What a program whose imports are bound to no device has come to in a world: which answer lines its calls took, and when it is due.
use Rattle.std.proofs.Common.{◌≡◌, ◌≤◌, ◌⊎◌, inl, inr, ℕ, zero, suc, ◌+◌, ◌*◌, ◌<◌, Bool, true, false, MatchBool, List, [], ◌∷◌, ◌++◌, length, Option, Some, None, All, refl, sym, ap, ◌∙◌, subst, append-nil, length-append, arith}
use Rattle.std.specs.Prelude.{slice_get, slice_set}
use Rattle.std.proofs.lemmas.Bool.{cases_eq}
use Rattle.std.proofs.lemmas.List.{append_assoc}
use Rattle.std.proofs.lemmas.List.Elements.{All-head, All-tail}
use Rattle.std.proofs.lemmas.Option.{same_Some}
use Rattle.wa_types.specs.Validity.{same_name}
use Rattle.wa_model.specs.declared.answers.Detach.{Detach}
use Rattle.wa_model.specs.declared.events.End.TheVariants.{NoAnswer, OtherImport}
use Rattle.wa_model.specs.Blocking.{Note}
use Rattle.wa_model.specs.Outside.{Answer, AnswerLine, Call, Event, Line, answered, called, ended, parked, paused, returned, shown}
use Rattle.wa_model.specs.Plan.{AnswerFits, Outcome, given, refused}
use Rattle.world_model.specs.World.{Actor, CallsMeet, Device, MeetsBound, MeetsLine, NoteMeets, Plays, Program, behind_turn, call_in, detached, import_names, name_at, put_off, ticks_in, turn_of}
use Rattle.world_laws.specs.AloneLines.{Unbound}
use Rattle.world_laws.specs.Played.{Played}
use Rattle.world_laws.proofs.Places.{set_here, set_there}
use Rattle.world_laws.proofs.Turns.{turn_parts}
use Rattle.world_hosting.proofs.PausedRuns.{Account, accounted, accounted_on, nothing_told, ticks_met, ticks_on, one_told}

-- ---- due ticks

event_ticks : (e : Event) (a : Account) → (one_told e a).ticks ≡ a.ticks + ticks_in e
event_ticks (called c) a = omega arith
event_ticks (answered said) a = omega arith
event_ticks (paused ticks used) a = refl
event_ticks (parked used) a = omega arith
event_ticks (returned entry value) a = omega arith
event_ticks (ended how) a = omega arith
event_ticks (shown at bytes) a = omega arith

pub ticks_told : (xs : List Note) (a : Account) → (accounted xs a).ticks ≡ a.ticks + put_off xs
ticks_told [] a = omega arith
ticks_told (x ∷ xs) a = let one = event_ticks x.event a in let rest = ticks_told xs (one_told x.event a) in omega (arith, one, rest)

-- ---- one program

-- the ticks of an answer line are in range
abbrev pub LineFits : AnswerLine → Type 0
LineFits l = AnswerFits l.answer

module _ (w : Program) where
  -- The last line taken gave this answer, and its name is that of the import of the call told last.
  pub record LastLine (told : Account) (left : List AnswerLine) (a : Answer) : Type 0 where
    pub before : List AnswerLine
    pub line : AnswerLine
    pub is : w.answers ≡ before ++ line ∷ left
    pub answer : line.answer ≡ a
    pub call : Call
    pub told_is : told.last ≡ Some call
    pub named : same_name line.import (name_at (import_names w.source) call.import) ≡ true

  -- The calls that were told met these outcomes, by answer lines of which these are left.
  pub record Served (told : Account) (met : List Outcome) (left : List AnswerLine) : Type 0 where
    pub taken : List AnswerLine
    pub is : w.answers ≡ taken ++ left
    pub ticks : ticks_met met ≤ length met * 4294967295
    pub last : (done : List Outcome) (a : Answer) → met ≡ done ++ given a ∷ [] → LastLine told left a

  no_last : {X : Type 0} (xs : List X) (x : X) → [] ≡ xs ++ x ∷ [] → ⊥
  no_last [] x e = cc
  no_last (y ∷ ys) x e = cc

  pub none_served : Served nothing_told [] w.answers
  none_served = record { taken = []; is = refl; ticks = omega arith; last = λ done a e. absurd (no_last done (given a) e) }

  -- what tells no call
  event_served : (e : Event) (told : Account) (met : List Outcome) (left : List AnswerLine) → call_in e ≡ None → Served told met left → Served (one_told e told) met left
  event_served (called c) told met left none h = cc
  event_served (answered said) told met left none h = h
  event_served (paused ticks used) told met left none h = record {
    taken = h.taken;
    is = h.is;
    ticks = h.ticks;
    last = λ done a e. let l = h.last done a e in record { before = l.before; line = l.line; is = l.is; answer = l.answer; call = l.call; told_is = l.told_is; named = l.named };
  }
  event_served (parked used) told met left none h = h
  event_served (returned entry value) told met left none h = h
  event_served (ended how) told met left none h = h
  event_served (shown at bytes) told met left none h = h

  same_last : (xs ys : List Outcome) (o : Outcome) (a : Answer) → xs ++ o ∷ [] ≡ ys ++ given a ∷ [] → o ≡ given a
  same_last [] [] o a e = cc
  same_last [] (y ∷ ys) o a e = let none : [] ≡ ys ++ given a ∷ [] = cc in absurd (no_last ys (given a) none)
  same_last (x ∷ xs) [] o a e = let none : [] ≡ xs ++ o ∷ [] = cc in absurd (no_last xs o none)
  same_last (x ∷ xs) (y ∷ ys) o a e = let rest : xs ++ o ∷ [] ≡ ys ++ given a ∷ [] = cc in same_last xs ys o a rest

  refused_is : (met done : List Outcome) (how : _) (a : Answer) → met ++ refused how ∷ [] ≡ done ++ given a ∷ [] → ⊥
  refused_is met done how a e = let same : refused how ≡ given a = same_last met done (refused how) a e in cc

  one_more : (met : List Outcome) (o : Outcome) → ticks_met (met ++ o ∷ []) ≡ ticks_met met + ticks_met (o ∷ [])
  one_more met o = ticks_on met (o ∷ [])

  module _ (fit : All LineFits w.answers) where
    -- a call that no line answers
    unserved : (told : Account) (met : List Outcome) (lines : List AnswerLine) (c : Call) (how : _) → Served told met lines
        → Served (record { last = Some c; ticks = told.ticks }) (met ++ refused how ∷ []) lines
    unserved told met lines c how h =
        let ticks = h.ticks in
        let sum = one_more met (refused how) in
        let long = length-append met (refused how ∷ []) in
        record { taken = h.taken; is = h.is; ticks = omega (arith, ticks, sum, long); last = λ done a e. absurd (refused_is met done how a e) }

    line_fits : (taken : List AnswerLine) (l : AnswerLine) (ls : List AnswerLine) → w.answers ≡ taken ++ l ∷ ls → l.answer.ticks < 4294967296
    line_fits taken l ls e = (from taken (subst (All LineFits) e fit)).ticks
      where
        from : (xs : List AnswerLine) → All LineFits (xs ++ l ∷ ls) → AnswerFits l.answer
        from [] h = All-head LineFits l ls h
        from (x ∷ xs) h = from xs (All-tail LineFits x (xs ++ l ∷ ls) h)

    line_served : (told : Account) (met : List Outcome) (l : AnswerLine) (ls : List AnswerLine) (c : Call) → same_name l.import (name_at (import_names w.source) c.import) ≡ true → Served told met (l ∷ ls)
        → Served (record { last = Some c; ticks = told.ticks }) (met ++ given l.answer ∷ []) ls
    line_served told met l ls c named h =
        let ticks = h.ticks in
        let sum = one_more met (given l.answer) in
        let long = length-append met (given l.answer ∷ []) in
        let few = line_fits h.taken l ls h.is in
        record {
          taken = h.taken ++ l ∷ [];
          is = h.is ∙ sym (append_assoc h.taken (l ∷ []) ls);
          ticks = omega (arith, ticks, sum, long, few);
          last = λ done a e.
              let same : given l.answer ≡ given a = same_last met done (given l.answer) a e in
              let is : l.answer ≡ a = cc in
              record { before = h.taken; line = l; is = h.is; answer = is; call = c; told_is = refl; named = named };
        }

    call_served : (told : Account) (met : List Outcome) (lines : List AnswerLine) (c : Call) (o : Outcome) (lines' : List AnswerLine)
        → MeetsLine c.import (name_at (import_names w.source) c.import) lines o lines' → Served told met lines
        → Served (record { last = Some c; ticks = told.ticks }) (met ++ o ∷ []) lines'
    call_served told met [] c o lines' m h =
        let r = unserved told met [] c (NoAnswer c.import) h in
        subst (λ (z : Outcome). Served (record { last = Some c; ticks = told.ticks }) (met ++ z ∷ []) lines') (sym m.0)
        (subst (λ (ls : List AnswerLine). Served (record { last = Some c; ticks = told.ticks }) (met ++ refused (NoAnswer c.import) ∷ []) ls) (sym m.1) r)
    call_served told met (l ∷ ls) c o lines' m h = by (same_name l.import (name_at (import_names w.source) c.import)) refl m
      where
        by : (b : Bool) → same_name l.import (name_at (import_names w.source) c.import) ≡ b
            → MatchBool b ((o ≡ given l.answer) × (lines' ≡ ls)) ((o ≡ refused (OtherImport c.import l.import)) × (lines' ≡ l ∷ ls))
            → Served (record { last = Some c; ticks = told.ticks }) (met ++ o ∷ []) lines'
        by true e k =
            subst (λ (z : Outcome). Served (record { last = Some c; ticks = told.ticks }) (met ++ z ∷ []) lines') (sym k.0)
            (subst (λ (xs : List AnswerLine). Served (record { last = Some c; ticks = told.ticks }) (met ++ given l.answer ∷ []) xs) (sym k.1) (line_served told met l ls c e h))
        by false e k =
            subst (λ (z : Outcome). Served (record { last = Some c; ticks = told.ticks }) (met ++ z ∷ []) lines') (sym k.0)
            (subst (λ (xs : List AnswerLine). Served (record { last = Some c; ticks = told.ticks }) (met ++ refused (OtherImport c.import l.import) ∷ []) xs) (sym k.1)
            (unserved told met (l ∷ ls) c (OtherImport c.import l.import) h))

    module _ (unbound : Unbound w) where
      -- what notes' calls took
      pub record ServedOn (told : Account) (met os os' : List Outcome) (lines' : List AnswerLine) : Type 0 where
        pub more : List Outcome
        pub is : os ≡ more ++ os'
        pub served : Served told (met ++ more) lines'

      pub notes_served : (xs : List Note) (told : Account) (met os : List Outcome) (lines : List AnswerLine) (ds : List Device) (os' : List Outcome) (lines' : List AnswerLine) (ds' : List Device)
          → CallsMeet w xs os lines ds os' lines' ds' → Served told met lines → ServedOn (accounted xs told) met os os' lines'
      notes_served [] told met os lines ds os' lines' ds' h s = record {
        more = [];
        is = sym h.0;
        served = subst (λ (ls : List AnswerLine). Served told (met ++ []) ls) (sym h.1) (subst (λ (ms : List Outcome). Served told ms lines) (sym (append-nil met)) s);
      }
      notes_served (x ∷ xs) told met os lines ds os' lines' ds' h s =
          by_event x.event h (λ told' met' o l d. notes_served xs told' met' o l d os' lines' ds')
        where
          Rest : Type 0
          Rest = (told' : Account) (met' : List Outcome) (o : List Outcome) (l : List AnswerLine) (d : List Device) → CallsMeet w xs o l d os' lines' ds' → Served told' met' l
              → ServedOn (accounted xs told') met' o os' lines'

          by_event : (e : Event) → NoteMeets w (call_in e) os lines ds (λ o l d. CallsMeet w xs o l d os' lines' ds')
              → ((told' : Account) (met' : List Outcome) (o : List Outcome) (l : List AnswerLine) (d : List Device) → CallsMeet w xs o l d os' lines' ds' → Served told' met' l
              → ServedOn (accounted xs told') met' o os' lines')
              → ServedOn (accounted xs (one_told e told)) met os os' lines'
          by_event (called c) m on =
              let bound : MeetsBound w.source c.import c.args None lines ds m.0 m.2 m.3 =
              subst (λ (b : Option (List ℕ)). MeetsBound w.source c.import c.args b lines ds m.0 m.2 m.3) (unbound c.import) m.5 in
              let r = on (record { last = Some c; ticks = told.ticks }) (met ++ m.0 ∷ []) m.1 m.2 m.3 m.6 (call_served told met lines c m.0 m.2 bound.0 s) in
              record {
                more = m.0 ∷ r.more;
                is = m.4 ∙ ap (λ (z : List Outcome). m.0 ∷ z) r.is;
                served = subst (λ (z : List Outcome). Served (accounted xs (record { last = Some c; ticks = told.ticks })) z lines') (append_assoc met (m.0 ∷ []) r.more) r.served;
              }
          by_event (answered said) m on = on (one_told (answered said) told) met os lines ds m (event_served (answered said) told met lines refl s)
          by_event (paused ticks used) m on = on (one_told (paused ticks used) told) met os lines ds m (event_served (paused ticks used) told met lines refl s)
          by_event (parked used) m on = on (one_told (parked used) told) met os lines ds m (event_served (parked used) told met lines refl s)
          by_event (returned entry value) m on = on (one_told (returned entry value) told) met os lines ds m (event_served (returned entry value) told met lines refl s)
          by_event (ended how) m on = on (one_told (ended how) told) met os lines ds m (event_served (ended how) told met lines refl s)
          by_event (shown at bytes) m on = on (one_told (shown at bytes) told) met os lines ds m (event_served (shown at bytes) told met lines refl s)

      -- ---- an actor of a world

      -- Since the first place the actor has made notes, its calls have met outcomes, and it is due by the ticks of its pauses.
      pub record HasGone (a b : Actor) : Type 0 where
        pub made : List Note
        pub met : List Outcome
        pub notes : a.notes ≡ made ++ b.notes
        pub outcomes : a.outcomes ≡ met ++ b.outcomes
        pub due : b.due ≡ a.due + (accounted made nothing_told).ticks
        pub served : Served (accounted made nothing_told) met b.answers

      pub not_gone : (a : Actor) → a.answers ≡ w.answers → HasGone a a
      not_gone a e = record {
        made = [];
        met = [];
        notes = refl;
        outcomes = refl;
        due = omega arith;
        served = subst (λ (ls : List AnswerLine). Served nothing_told [] ls) (sym e) none_served;
      }

      -- a turn
      turn_gone : (a b : Actor) (ds ds' : List Device) (os : List Outcome) (lines : List AnswerLine) → HasGone a b → CallsMeet w (turn_of b.notes) b.outcomes b.answers ds os lines ds'
          → HasGone a (record { due = b.due + put_off (turn_of b.notes); notes = behind_turn b.notes; outcomes = os; answers = lines })
      turn_gone a b ds ds' os lines h calls =
          let turn : List Note = turn_of b.notes in
          let r = notes_served turn (accounted h.made nothing_told) h.met b.outcomes b.answers ds os lines ds' calls h.served in
          let told : accounted turn (accounted h.made nothing_told) ≡ accounted (h.made ++ turn) nothing_told = sym (accounted_on h.made turn nothing_told) in
          let ticks = ticks_told turn (accounted h.made nothing_told) in
          let same = ap (λ (z : Account). z.ticks) told in
          let due = h.due in
          record {
            made = h.made ++ turn;
            met = h.met ++ r.more;
            notes = h.notes ∙ ap (λ (ns : List Note). h.made ++ ns) (sym (turn_parts b.notes)) ∙ sym (append_assoc h.made turn (behind_turn b.notes));
            outcomes = h.outcomes ∙ ap (λ (z : List Outcome). h.met ++ z) r.is ∙ sym (append_assoc h.met r.more os);
            due = omega (arith, due, ticks, same);
            served = subst (λ (z : Account). Served z (h.met ++ r.more) lines) told r.served;
          }

      pub played_gone : (programs : List Program) (detaches : List Detach) (number count : ℕ) (actors : List Actor) (ds : List Device) (lines : List Line) (now : List Actor) (ds' : List Device)
          → Played programs detaches number count actors ds lines now ds' → (i : ℕ) (first b c : Actor) → slice_get programs i ≡ Some w → slice_get actors i ≡ Some b → slice_get now i ≡ Some c
          → HasGone first b → HasGone first c
      played_gone programs detaches number zero actors ds lines now ds' h i first b c program at there g =
          subst (HasGone first) (same_Some b c (sym at ∙ ap (λ (as' : List Actor). slice_get as' i) (sym h.1) ∙ there)) g
      played_gone programs detaches number (suc count) actors ds lines now ds' h i first b c program at there g =
          by (cases_eq i p.i) (λ d at' g'. played_gone programs detaches (suc number) count h.2 h.3 h.1 now ds' h.5 i first d c program at' there g')
        where
          p : Plays programs detaches number actors ds h.0 h.2 h.3
          p = h.4

          turned : Actor
          turned = record { due = p.a.due + put_off (turn_of p.a.notes); notes = behind_turn p.a.notes; outcomes = p.outcomes; answers = p.answers }

          by : (i ≡ p.i) ⊎ (i ≡ p.i → ⊥) → ((d : Actor) → slice_get h.2 i ≡ Some d → HasGone first d → HasGone first c) → HasGone first c
          by (inr other) on = on b (ap (λ (l : List Actor). slice_get l i) p.after ∙ set_there actors p.i i turned other ∙ at) g
          by (inl same) on =
              let own : p.w ≡ w = same_Some p.w w (sym p.program ∙ ap (λ (k : ℕ). slice_get programs k) (sym same) ∙ program) in
              let it : b ≡ p.a = same_Some b p.a (sym at ∙ ap (λ (k : ℕ). slice_get actors k) same ∙ p.next.there) in
              let calls : CallsMeet w (turn_of p.a.notes) p.a.outcomes p.a.answers (detached number detaches ds) p.outcomes p.answers h.3 =
              subst (λ (v : Program). CallsMeet v (turn_of p.a.notes) p.a.outcomes p.a.answers (detached number detaches ds) p.outcomes p.answers h.3) own p.calls in
              let stands : slice_get h.2 i ≡ Some turned =
              ap (λ (l : List Actor). slice_get l i) p.after ∙ ap (λ (k : ℕ). slice_get (slice_set actors p.i turned) k) same ∙ set_here actors p.i turned p.a p.next.there in
              on turned stands (turn_gone first p.a (detached number detaches ds) h.3 p.outcomes p.answers (subst (HasGone first) it g) calls)
