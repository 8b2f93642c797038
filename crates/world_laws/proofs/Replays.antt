-- Two runs of a world that end with the same journals and tell faults at the same places are one.
use Rattle.std.proofs.Common.{All, false, arith, ◌≡◌, ◌≤◌, ◌+◌, ℕ, zero, suc, List, [], ◌∷◌, ◌++◌, length, map, Some, None, refl, sym, ap, ◌∙◌, subst, length-append}
use Rattle.std.specs.Prelude.{slice_get, slice_set}
use Rattle.std.specs.List.{AllZip}
use Rattle.std.specs.Option.{unwrap_or}
use Rattle.wa_model.specs.declared.answers.Detach.{Detach}
use Rattle.wa_model.specs.Outside.{AnswerLine, Event, Line}
use Rattle.wa_model.specs.Plan.{Outcome}
use Rattle.wa_model.specs.Blocking.{Note}
use Rattle.world_model.specs.World.{Device, detached, Program, turn_of, behind_turn, put_off, CallsMeet, line_at, events_with_looks, turn_lines, protocol_story, Actor, HasNotes, IsNext, Plays, Events, no_event, an_event, IsOver, StartsHeld, ProtocolWorldFrom}
use Rattle.world_laws.specs.Originals.{new_calls}
use Rattle.world_laws.proofs.Shows.{turn_calls}
use Rattle.world_laws.proofs.Meeting.{Met, EachMet, events_met, calls_take}
use Rattle.world_laws.proofs.GoingOn.{some_to_come}
use Rattle.world_laws.proofs.Nexts.{IsDueAt, none_due, one_next}
use Rattle.world_laws.proofs.Places.{all_at}
use Rattle.std.proofs.lemmas.Option.{same_Some}
use Rattle.wa_types.specs.Validity.{same_name}
use Rattle.world_laws.specs.AloneLines.{Unbound}
use Rattle.world_laws.specs.Replays.{Lasting, SameFaults, JournalsFixLines, UnboundFixLines}
use Rattle.world_laws.proofs.Journals.{Grows, events_grow}
use Rattle.world_laws.proofs.Locksteps.{Same, turn_same}

-- ---- actors

-- Actors of one program in two runs, whose calls have met the same outcomes so far.
record Parallel (w : Program) (a b : Actor) : Type 0 where
  due : a.due ≡ b.due
  answers : a.answers ≡ b.answers
  pre : List Outcome
  done : List Note
  count : new_calls done ≡ length pre
  first : protocol_story w (pre ++ a.outcomes) ≡ done ++ a.notes
  second : protocol_story w (pre ++ b.outcomes) ≡ done ++ b.notes
  few1 : new_calls a.notes ≤ length a.outcomes
  few2 : new_calls b.notes ≤ length b.outcomes

abbrev Trios : List Program → List Actor → List Actor → Type 0
Trios [] [] [] = Unit {0}
Trios (w ∷ ws) (a ∷ p) (b ∷ q) = Parallel w a b × Trios ws p q
Trios _ _ _ = ⊥

on_has : (w : Program) (a b : Actor) → Parallel w a b → HasNotes a → HasNotes b
on_has w a b t h = some_to_come w t.pre a.outcomes b.outcomes t.done a.notes b.notes t.count t.first t.second h

back_has : (w : Program) (a b : Actor) → Parallel w a b → HasNotes b → HasNotes a
back_has w a b t h = some_to_come w t.pre b.outcomes a.outcomes t.done b.notes a.notes t.count t.second t.first h

trio_at : (ws : List Program) (p q : List Actor) → Trios ws p q → (i : ℕ) (a : Actor) → slice_get p i ≡ Some a
    → (w : Program) × (b : Actor) × (slice_get ws i ≡ Some w) × (slice_get q i ≡ Some b) × Parallel w a b
trio_at [] [] [] h i a e = cc
trio_at (w ∷ ws) (c ∷ p) (d ∷ q) h zero a e = (w, d, refl, refl, subst (λ (z : Actor). Parallel w z d) (same_Some c a e) h.0)
trio_at (w ∷ ws) (c ∷ p) (d ∷ q) h (suc i) a e = trio_at ws p q h.1 i a e
trio_at _ _ _ h i a e = absurd h

trio_back : (ws : List Program) (p q : List Actor) → Trios ws p q → (i : ℕ) (b : Actor) → slice_get q i ≡ Some b → (w : Program) × (a : Actor) × (slice_get p i ≡ Some a) × Parallel w a b
trio_back [] [] [] h i b e = cc
trio_back (w ∷ ws) (c ∷ p) (d ∷ q) h zero b e = (w, c, refl, subst (λ (z : Actor). Parallel w c z) (same_Some d b e) h.0)
trio_back (w ∷ ws) (c ∷ p) (d ∷ q) h (suc i) b e = trio_back ws p q h.1 i b e
trio_back _ _ _ h i b e = absurd h

trio_set : (ws : List Program) (p q : List Actor) → Trios ws p q → (i : ℕ) (w : Program) (a b : Actor) → slice_get ws i ≡ Some w → Parallel w a b → Trios ws (slice_set p i a) (slice_set q i b)
trio_set [] [] [] h i w a b e t = tt
trio_set (v ∷ ws) (c ∷ p) (d ∷ q) h zero w a b e t = (subst (λ (z : Program). Parallel z a b) (sym (same_Some v w e)) t, h.1)
trio_set (v ∷ ws) (c ∷ p) (d ∷ q) h (suc i) w a b e t = (h.0, trio_set ws p q h.1 i w a b e t)
trio_set _ _ _ h i w a b e t = absurd h

left_has : (ws : List Program) (p q : List Actor) → Trios ws p q → (i : ℕ) (b : Actor) → slice_get q i ≡ Some b → HasNotes b → IsDueAt p i b.due
left_has ws p q tw i b e has = let x = trio_back ws p q tw i b e in (x.1, x.2, x.3.due, back_has x.0 x.1 b x.3 has)

right_has : (ws : List Program) (p q : List Actor) → Trios ws p q → (i : ℕ) (a : Actor) → slice_get p i ≡ Some a → HasNotes a → IsDueAt q i a.due
right_has ws p q tw i a e has = let y = trio_at ws p q tw i a e in (y.1, y.3, sym y.4.due, on_has y.0 a y.1 y.4 has)

next_one : (ws : List Program) (p q : List Actor) → Trios ws p q → (i j : ℕ) (a b : Actor) → IsNext p i a → IsNext q j b → i ≡ j
next_one ws p q tw i j a b n k = one_next p q i j a b n k (left_has ws p q tw j b k.there k.unfinished) (right_has ws p q tw i a n.there n.unfinished)

-- ---- events

faults_behind : (ls xs ys : List Line) → SameFaults (ls ++ xs) (ls ++ ys) → SameFaults xs ys
faults_behind [] xs ys h = h
faults_behind (l ∷ ls) xs ys h = faults_behind ls xs ys (λ i x y a b. h (suc i) x y a b)

fewer_left : (w : Program) (a : Actor) (lines : List AnswerLine) (ds : List Device) (os : List Outcome) (left : List AnswerLine) (es : List Device) → new_calls a.notes ≤ length a.outcomes
    → CallsMeet w (turn_of a.notes) a.outcomes lines ds os left es → new_calls (behind_turn a.notes) ≤ length os
fewer_left w a lines ds os left es few h =
    let t = calls_take w (turn_of a.notes) a.outcomes lines ds os left es h in
    let len = ap length t.1 ∙ length-append t.0 os in
    omega (arith, few, len, t.2, turn_calls a.notes)

-- where an import of a program is bound
abbrev IfBound : List Program → Type 0 → Type 0
IfBound ws T = (i import : ℕ) (w : Program) (name : List ℕ) → slice_get ws i ≡ Some w → unwrap_or (slice_get w.binds import) None ≡ Some name → T

module _ (ws : List Program) (detaches : List Detach) (ds' : List Device) (lasting : Lasting ws detaches) where
  -- one event
  abbrev Both : List Line → List Line → List Line → List Line → List Device → List Device → List Actor → List Actor → Type 0
  Both f1 f2 m1 m2 d1 d2 p' q' = (f1 ≡ f2) × (d1 ≡ d2) × IfBound ws (SameFaults m1 m2) × Trios ws p' q'

  plays_same : (number : ℕ) (p q p' q' : List Actor) (ds d1 d2 : List Device) (f1 f2 m1 m2 : List Line) → Trios ws p q → Plays ws detaches number p ds f1 p' d1
      → Plays ws detaches number q ds f2 q' d2
      → ((name : List ℕ) (i import : ℕ) (w : Program) → slice_get ws i ≡ Some w → unwrap_or (slice_get w.binds import) None ≡ Some name → Grows name d1 ds' × Grows name d2 ds')
      → IfBound ws (SameFaults (f1 ++ m1) (f2 ++ m2)) → Both f1 f2 m1 m2 d1 d2 p' q'
  plays_same number p q p' q' ds d1 d2 f1 f2 m1 m2 tw h g grows faults =
      let same_i : h.i ≡ g.i = next_one ws p q tw h.i g.i h.a g.a h.next g.next in
      let w : Program = h.w in
      let a : Actor = h.a in
      let y = trio_at ws p q tw h.i a h.next.there in
      let w_y : y.0 ≡ w = same_Some y.0 w (sym y.2 ∙ h.program) in
      let w_g : g.w ≡ w = same_Some g.w w (sym g.program ∙ ap (slice_get ws) (sym same_i) ∙ h.program) in
      let b : Actor = y.1 in
      let b_g : g.a ≡ b = same_Some g.a b (sym g.next.there ∙ ap (slice_get q) (sym same_i) ∙ y.3) in
      let t : Parallel w a b = subst (λ (z : Program). Parallel z a b) w_y y.4 in
      let es : List Device = detached number detaches ds in
      let c2 : CallsMeet w (turn_of b.notes) b.outcomes a.answers es g.outcomes g.answers d2 =
      subst (λ (l : List AnswerLine). CallsMeet w (turn_of b.notes) b.outcomes l es g.outcomes g.answers d2) (sym t.answers)
      (subst (λ (z : Actor). CallsMeet w (turn_of z.notes) z.outcomes z.answers es g.outcomes g.answers d2) b_g
      (subst (λ (z : Program). CallsMeet z (turn_of g.a.notes) g.a.outcomes g.a.answers es g.outcomes g.answers d2) w_g g.calls)) in
      let l1 : f1 ≡ turn_lines h.i w a = h.made in
      let l2 : f2 ≡ map (line_at a.due h.i) (events_with_looks w.looks (turn_of b.notes)) =
      g.made
      ∙ ap (λ (z : Program). turn_lines g.i z g.a) w_g
      ∙ ap (λ (z : Actor). turn_lines g.i w z) b_g
      ∙ ap (λ (k : ℕ). turn_lines k w b) (sym same_i)
      ∙ ap (λ (k : ℕ). map (line_at k h.i) (events_with_looks w.looks (turn_of b.notes))) (sym t.due) in
      let told : (import : ℕ) (name : List ℕ) → unwrap_or (slice_get w.binds import) None ≡ Some name
      → SameFaults (turn_lines h.i w a ++ m1) (map (line_at a.due h.i) (events_with_looks w.looks (turn_of b.notes)) ++ m2) =
      λ import name bound.
      subst (λ (ls : List Line). SameFaults (turn_lines h.i w a ++ m1) (ls ++ m2)) l2
      (subst (λ (ls : List Line). SameFaults (ls ++ m1) (f2 ++ m2)) l1 (faults h.i import w name h.program bound)) in
      let r : Same w a.due h.i ds' m1 m2 h.outcomes g.outcomes h.answers g.answers d1 d2 (λ import name bound. (grows name h.i import w h.program bound).0)
      (λ import name bound. (grows name h.i import w h.program bound).1) a.notes b.notes =
      turn_same w a.due h.i ds' m1 m2 h.outcomes g.outcomes h.answers g.answers d1 d2 (λ import name bound. (grows name h.i import w h.program bound).0)
      (λ import name bound. (grows name h.i import w h.program bound).1)
      a.notes b.notes t.pre t.done a.outcomes b.outcomes a.answers es t.count t.first t.second t.few1 t.few2 h.calls c2 told in
      let lines : f1 ≡ f2 = l1 ∙ ap (λ (evs : List Event). map (line_at a.due h.i) evs) r.events ∙ sym l2 in
      let a' : Actor = record { due = a.due + put_off (turn_of a.notes); notes = behind_turn a.notes; outcomes = h.outcomes; answers = h.answers } in
      let b' : Actor = record { due = b.due + put_off (turn_of b.notes); notes = behind_turn b.notes; outcomes = g.outcomes; answers = g.answers } in
      let t' : Parallel w a' b' = record {
        due = ap (λ (k : ℕ). k + put_off (turn_of a.notes)) t.due ∙ ap (λ (k : ℕ). b.due + k) r.off;
        answers = r.answers;
        pre = r.pre;
        done = r.done;
        count = r.count;
        first = r.first;
        second = r.second;
        few1 = fewer_left w a a.answers es h.outcomes h.answers d1 t.few1 h.calls;
        few2 = fewer_left w b a.answers es g.outcomes g.answers d2 t.few2 c2;
      } in
      let moved : q' ≡ slice_set q h.i b' =
      g.after
      ∙ ap (λ (z : Actor). slice_set q g.i (record { due = z.due + put_off (turn_of z.notes); notes = behind_turn z.notes; outcomes = g.outcomes; answers = g.answers })) b_g
      ∙ ap (λ (k : ℕ). slice_set q k b') (sym same_i) in
      let after : Trios ws p' q' =
      subst (λ (xs : List Actor). Trios ws xs q') (sym h.after)
      (subst (λ (ys : List Actor). Trios ws (slice_set p h.i a') ys) (sym moved) (trio_set ws p q tw h.i w a' b' h.program t')) in
      (lines, r.devices, (λ i import v name there bound. faults_behind f2 m1 m2 (subst (λ (ls : List Line). SameFaults (ls ++ m1) (f2 ++ m2)) lines (faults i import v name there bound))), after)

  events_same : (number : ℕ) (p q last last' : List Actor) (ds d e1 e2 : List Device) (lines1 lines2 : List Line) → Trios ws p q → ds ≡ d → IfBound ws ((e1 ≡ ds') × (e2 ≡ ds'))
      → Events ws detaches number p ds lines1 last e1 → IsOver last → Events ws detaches number q d lines2 last' e2 → IsOver last' → IfBound ws (SameFaults lines1 lines2)
      → (lines1 ≡ lines2) × (e1 ≡ e2)
  events_same number p q last last' ds d e1 e2 lines1 lines2 tw same z no_event o no_event o' f = (refl, same)
  events_same number p q last last' ds d e1 e2 lines1 lines2 tw same z no_event o (an_event {actors' = q1} {ds' = x} {lines = l} play rest e) o' f =
      absurd (none_due p o play.i play.a.due (left_has ws p q tw play.i play.a play.next.there play.next.unfinished))
  events_same number p q last last' ds d e1 e2 lines1 lines2 tw same z (an_event {actors' = p1} {ds' = x} {lines = l} play rest e) o no_event o' f =
      absurd (none_due q o' play.i play.a.due (right_has ws p q tw play.i play.a play.next.there play.next.unfinished))
  events_same number p q last last' ds d e1 e2 lines1 lines2 tw same z
      (an_event {actors' = p1} {ds' = x1} {lines = f1} {more = m1} play1 rest1 s1) o (an_event {actors' = q1} {ds' = x2} {lines = f2} {more = m2} play2 rest2 s2) o' f =
      let play2' : Plays ws detaches number q ds f2 q1 x2 = subst (λ (z : List Device). Plays ws detaches number q z f2 q1 x2) (sym same) play2 in
      let faults : IfBound ws (SameFaults (f1 ++ m1) (f2 ++ m2)) =
      λ i import w name there bound.
      subst (λ (ls : List Line). SameFaults (f1 ++ m1) ls) s2 (subst (λ (ls : List Line). SameFaults ls lines2) s1 (f i import w name there bound)) in
      let one = plays_same number p q p1 q1 ds x1 x2 f1 f2 m1 m2 tw play1 play2'
      (λ name i import w there bound.
      let e = z i import w name there bound in (
        subst (Grows name x1) e.0 (events_grow ws detaches name (lasting i import w name there bound) (suc number) p1 last x1 e1 m1 rest1),
        subst (Grows name x2) e.1 (events_grow ws detaches name (lasting i import w name there bound) (suc number) q1 last' x2 e2 m2 rest2),
      ))
      faults in
      let on = events_same (suc number) p1 q1 last last' x1 x2 e1 e2 m1 m2 one.3 one.1 z rest1 o rest2 o' one.2 in
      (s1 ∙ ap (λ (ls : List Line). ls ++ m1) one.0 ∙ ap (λ (ls : List Line). f2 ++ ls) on.0 ∙ sym s2, on.1)

-- ---- from the start

enough : (a : Actor) → Met a → new_calls a.notes ≤ length a.outcomes
enough a m =
    let t = m.2 in
    let len = ap length t.1 ∙ length-append t.0 m.0 in
    omega (arith, len, t.2)

start_same : (ws : List Program) (p q : List Actor) → AllZip StartsHeld ws p → AllZip StartsHeld ws q → EachMet p → EachMet q → Trios ws p q
start_same [] [] [] sp sq mp mq = tt
start_same (w ∷ ws) (a ∷ p) (b ∷ q) sp sq mp mq =
    let x : StartsHeld w a = sp.0 in
    let y : StartsHeld w b = sq.0 in (
      record {
        due = x.starts.due ∙ sym y.starts.due;
        answers = x.starts.answers ∙ sym y.starts.answers;
        pre = [];
        done = [];
        count = refl;
        first = sym x.story;
        second = sym y.story;
        few1 = enough a mp.0;
        few2 = enough b mq.0;
      },
      start_same ws p q sp.1 sq.1 mp.1 mq.1,
    )
start_same [] (a ∷ p) q sp sq mp mq = absurd sp
start_same [] [] (b ∷ q) sp sq mp mq = absurd sq
start_same (w ∷ ws) [] q sp sq mp mq = absurd sp
start_same (w ∷ ws) (a ∷ p) [] sp sq mp mq = absurd sq

both_same : (begun : ℕ) (ws : List Program) (detaches : List Detach) (ds ds1 ds2 ds' : List Device) (lines1 lines2 : List Line) → Lasting ws detaches → (one : ProtocolWorldFrom begun ws detaches ds lines1 ds1)
    → (other : ProtocolWorldFrom begun ws detaches ds lines2 ds2) → IfBound ws ((ds1 ≡ ds') × (ds2 ≡ ds')) → IfBound ws (SameFaults lines1 lines2) → (lines1 ≡ lines2) × (ds1 ≡ ds2)
both_same begun ws detaches ds ds1 ds2 ds' lines1 lines2 lasting one other z faults =
    let m1 = events_met ws detaches (suc begun) one.actors ds lines1 one.last ds1 one.events one.over in
    let m2 = events_met ws detaches (suc begun) other.actors ds lines2 other.last ds2 other.events other.over in
    let tw = start_same ws one.actors other.actors one.starts other.starts m1 m2 in
    events_same ws detaches ds' lasting (suc begun) one.actors other.actors one.last other.last ds ds ds1 ds2 lines1 lines2 tw refl z one.events one.over other.events other.over faults

pub journals_fix_lines : JournalsFixLines
journals_fix_lines begun ws detaches ds ds' lines1 lines2 lasting one other faults =
    (both_same begun ws detaches ds ds' ds' ds' lines1 lines2 lasting one other (λ i import w name there bound. (refl, refl)) (λ i import w name there bound. faults)).0

none_bound : (ws : List Program) (T : Type 0) → All Unbound ws → IfBound ws T
none_bound ws T h i import w name there bound =
    let none = all_at Unbound ws i w h there import in
    absurd (apart none bound)
  where
    apart : unwrap_or (slice_get w.binds import) None ≡ None → unwrap_or (slice_get w.binds import) None ≡ Some name → ⊥
    apart e f = let bad : None ≡ Some name = sym e ∙ f in cc

pub unbound_fix_lines : UnboundFixLines
unbound_fix_lines begun ws detaches ds ds1 ds2 lines1 lines2 none one other =
    both_same begun ws detaches ds ds1 ds2 ds1 lines1 lines2 (λ i import w name there bound. none_bound ws
    (All (λ (x : Detach). same_name x.device name ≡ false) detaches) none i import w name there bound) one other
    (none_bound ws ((ds1 ≡ ds1) × (ds2 ≡ ds1)) none) (none_bound ws (SameFaults lines1 lines2) none)
