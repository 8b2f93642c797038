-- A strand's turn goes on, note by note, up to its pause or an end.
use Rattle.std.proofs.Common.{arith, ◌≡◌, ◌≤◌, ℕ, zero, suc, ◌+◌, ◌-◌, List, [], ◌∷◌, ◌++◌, Some, Bool, true, false, refl, sym, ap, ◌∙◌, subst, append-nil}
use Rattle.std.specs.Prelude.{◌||◌, slice_get, slice_set}
use Rattle.wa_model.specs.Machine.{Leads, after, moves, stays}
use Rattle.wa_model.specs.Outside.{AnswerLine, Event, ended, paused}
use Rattle.wa_model.specs.Plan.{Outcome}
use Rattle.wa_model.specs.Blocking.{Note}
use Rattle.wa_model.specs.Protocol.{Held}
use Rattle.wa_model.specs.declared.events.End.{End}
use Rattle.world_model.specs.World.{ends_turn, is_end, ticks_in}
use Rattle.host_laws.specs.Stretch.{meeting}
use Rattle.strand_laws.proofs.Blocks.{set_get, set_length, the_same}
use Rattle.strand_laws.specs.StrandWorld.{StrandsInWorld}
use Rattle.strand_laws.specs.Strands.{StrandProgram, held_loom, outcomes_at}
use Rattle.strand_laws.specs.ToldStrands.{ProgramTeller, StrandTeller, having_told, met_and}
use Rattle.strand_laws.specs.Weaving.{HasTurn}
use Rattle.strand_laws.specs.Woven.{Loom, Thread, put, told_by}
use Rattle.strand_host.proofs.StandingGoes as G
use Rattle.strand_host.proofs.StandingLed.{ending_front, led_same, led_so, led_tell, standing_so, waiting_ending}
use Rattle.strand_host.proofs.StandingTellers.{dues_told, now_last, quiet_note, within_at, within_more, within_set}
use Rattle.strand_host.proofs.StandingWoven.{Ending, woven_front}
use Rattle.strand_host.specs.Standing.{InTurn, LedTo, TurnMoves, TurnTells}
use Rattle.strand_host.specs.Standing.{dues_of_strands, dues_of_threads, threads_meeting, unless_over}

-- ---- a note told

module _ (s : StrandTeller) (x : Note) (os : List Outcome) (answers : List AnswerLine) where
  abbrev s1 : StrandTeller
  s1 = having_told s (x ∷ []) os answers

  pub quiet_due : (due : ℕ) → s.due ≡ due → ends_turn x.event ≡ false → s1.due ≡ due
  quiet_due due e q = let z = (quiet_note 0 x.event q).1 in omega (arith, e, z)

  pub quiet_end : ends_turn x.event ≡ false → s1.has_ended ≡ false
  quiet_end q = ap (λ b. b || false) (quiet_note 0 x.event q).2

  pub pause_due : (due ticks taken : ℕ) → s.due ≡ due → x.event ≡ paused ticks taken → s1.due ≡ due + ticks
  pause_due due ticks taken e q = let z = ap ticks_in q in omega (arith, e, z)

  pub pause_end : (ticks taken : ℕ) → x.event ≡ paused ticks taken → s1.has_ended ≡ false
  pause_end ticks taken q = ap (λ (e : Event). is_end e || false) q

  pub end_due : (due : ℕ) (how : End) → s.due ≡ due → x.event ≡ ended how → s1.due ≡ due
  end_due due how e q = let z = ap ticks_in q in omega (arith, e, z)

  pub end_end : (how : End) → x.event ≡ ended how → s1.has_ended ≡ true
  end_end how q = ap (λ (e : Event). is_end e || false) q

pub nil_cons : {A : Type 0} (x : Note) (xs : List Note) → [] ≡ x ∷ xs → A
nil_cons x xs e = let no_way : ⊥ = cc in absurd no_way

-- notes are made at a cost
pub made_costs : (g : StrandProgram) (k : ℕ) (h h' : Held) (n : ℕ) (es : List Note) (x : Note) → Leads (G.next g k) h n es h' → es ≡ x ∷ [] → 1 ≤ n
made_costs g k h _ _ _ x stays e = nil_cons x [] e
made_costs g k h h' n es x (moves {k = j} {n = m} q rest c d) e = omega (arith, c)

-- ---- in the midst of a turn

module _ (g : StrandsInWorld) (t : ProgramTeller) (left k due : ℕ) (st : Bool) (ready : List Note) (h : Held) (ts : List (Thread Held)) (m : InTurn g t left k due st ready h ts) where
  abbrev loom : Loom Held
  loom = held_loom g.program

  pub same_s : (s : StrandTeller) → slice_get t.strands k ≡ Some s → s.due ≡ due
  same_s s e = ap (λ (u : StrandTeller). u.due) (the_same s m.s (sym e ∙ m.there)) ∙ m.due_is

  pub steps_left : (used : ℕ) → used ≤ left → (m.used + used) + (left - used) ≡ g.steps
  steps_left used le = let z = m.steps in omega (arith, z, le)

pub turn_moves : TurnMoves
turn_moves g t left k due st st' ready made h h' ts used m so le wait = record {
  used = m.used + used;
  steps = steps_left g t left k due st ready h ts m used le;
  led = λ more.
      subst (λ (ss : List StrandTeller). LedTo g.program (met_and ss more) (m.used + used) t.told (standing_so g t left k due st st' ready h ts m more st' (ready ++ made) h'))
      (set_same t.strands k m.s m.there)
      (led_so g t left k due st st' ready h ts m m.s m.s [] made used h' m.there (sym (append-nil m.s.met)) so (waiting_ending (ready ++ made) h' wait) more);
  waiting = wait;
  s = m.s;
  there = m.there;
  unfinished = m.unfinished;
  due_is = m.due_is;
  dues = still_due;
  turn = m.turn;
  wide = m.wide;
  within = within_more m.used used t.strands m.within;
}
  where
    set_same : (ss : List StrandTeller) (i : ℕ) (s : StrandTeller) → slice_get ss i ≡ Some s → slice_set ss i s ≡ ss
    set_same [] i s e = refl
    set_same (u ∷ ss) zero s e = ap (λ (v : StrandTeller). v ∷ ss) (sym (the_same u s e))
    set_same (u ∷ ss) (suc i) s e = ap (λ (us : List StrandTeller). u ∷ us) (set_same ss i s e)

    still_due : dues_of_threads (put k due (Some h') ts) ≡ dues_of_strands t.strands
    still_due =
        dues_told ts t.strands k due due (Some h) (Some h') m.s m.dues m.due_is (ap unless_over m.unfinished) ∙ ap dues_of_strands (set_same t.strands k m.s m.there)

pub turn_tells : TurnTells
turn_tells g t left k due st st' ready h h' ts s os answers made behind x used m there so le split quiet wait = record {
  used = m.used + used;
  steps = steps_left g t left k due st ready h ts m used le;
  led = λ more.
      led_tell g.program (met_and (slice_set t.strands k s') more) (m.used + used) t.told (told_by k (x ∷ [])) (standing_so g t left k due st st' ready h ts m more st' behind h')
      (led_same g.program (met_and (slice_set t.strands k s') more) (m.used + used) t.told _ _ (front more)
      (led_so g t left k due st st' ready h ts m s s' os made used h' there refl so (subst (λ (us : List Note). Ending us h') (sym split) (ending_front x behind h' quiet (waiting_ending behind h' wait))) more));
  waiting = wait;
  s = s';
  there = set_get t.strands k s' s there;
  unfinished = quiet_end s x os answers quiet;
  due_is = due_is;
  dues = dues_told ts t.strands k due due (Some h) (Some h') s' m.dues due_is (ap unless_over (quiet_end s x os answers quiet));
  turn = subst (λ o. HasTurn o (dues_of_strands (slice_set t.strands k s')) k) (sym (now_last t.told (record { strand = k; note = x }) ∙ (quiet_note k x.event quiet).0)) refl;
  wide = set_length t.strands k s' ∙ m.wide;
  within = within_set (m.used + used) k s' t.strands (within_more m.used used t.strands m.within) (let z = within_at m.used k s t.strands m.within there in let y = (quiet_note 0 x.event quiet).1 in omega (arith, z, y));
}
  where
    s' : StrandTeller
    s' = having_told s (x ∷ []) os answers

    due_is : s'.due ≡ due
    due_is = quiet_due s x os answers due (same_s g t left k due st ready h ts m s there) quiet

    front : (more : List (List Outcome)) → standing_so g t left k due st st' ready h ts m more st' (ready ++ made) h'
        ≡ after (told_by k (x ∷ [])) (standing_so g t left k due st st' ready h ts m more st' behind h')
    front more =
        ap (λ (us : List Note). standing_so g t left k due st st' ready h ts m more st' us h') split
        ∙ woven_front (held_loom g.program) st' k due (x ∷ []) behind (meeting (outcomes_at more k) h') (threads_meeting more ts) (quiet, tt)
