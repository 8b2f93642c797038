-- Two runs of the blocking world with mailboxes in which the programs make the same notes, and their calls meet the same outcomes, are one.
use Rattle.std.proofs.Common.{arith, ◌≡◌, ◌+◌, ◌≤◌, ◌<◌, ◌⊎◌, inl, inr, ℕ, zero, suc, List, [], ◌∷◌, ◌++◌, length, map, take, Option, Some, None, slice_get, slice_set, refl, sym, ap, ◌∙◌, subst, length-set}
use Rattle.std.specs.List.{AllZip, find}
use Rattle.std.specs.Option.{unwrap_or}
use Rattle.std.proofs.lemmas.Bool.{cases_eq}
use Rattle.std.proofs.lemmas.Option.{same_Some, slice_get_within}
use Rattle.wa_types.specs.declared.values.Value.{Value}
use Rattle.wa_types.specs.declared.values.Value.TheVariants as V
use Rattle.wa_model.specs.declared.answers.Detach.{Detach}
use Rattle.wa_model.specs.declared.events.End.TheVariants.{Stalled}
use Rattle.wa_model.specs.Outside.{AnswerLine, Call, Event, Line, ended}
use Rattle.wa_model.specs.Plan.{Outcome, given, refused}
use Rattle.wa_model.specs.declared.answers.Said.{Said}
use Rattle.wa_model.specs.declared.answers.Said.TheVariants as S
use Rattle.wa_model.specs.Blocking.{Note}
use Rattle.world_model.specs.World.{Device, Original, Program, base_names, behind_turn, call_in, events_with_looks, import_names, line_at, look_events, name_at, put_off, turn_of}
use Rattle.world_laws.specs.Originals.{new_calls, one_if}
use Rattle.world_laws.proofs.Determined.{device_fixes, line_fixes}
use Rattle.world_laws.proofs.Places.{all_at, item, set_here, set_there, zip_both}
use Rattle.world_laws.proofs.Shows.{turn_calls}
use Rattle.world_laws.proofs.Worlds.{take_first}
use Rattle.mail_laws.specs.Determined.{SameStories, StoriesFixLines}
use Rattle.mail_laws.specs.MailOriginals.{met}
use Rattle.mail_laws.specs.Mailboxes.{CallsMeet, Mailbox, Meets, MeetsBound, MeetsBox, MeetsNamed, MeetsValues, Midst, NoteMeets, Shared, is_box, mailed}
use Rattle.mail_laws.specs.MailWorld.{Actor, Events, HasEnded, IsNext, IsOver, IsReady, Parked, Plays, Stalls, StartsOriginal, TakesTurn, a_stall, a_turn, an_event, begun_event, no_event, nobody, parked_at, parks, sharing, store_behind, told_pause, wake, with_waiting, woken}
use Rattle.mail_laws.proofs.CallsInRange.{EachMet, Met, events_met}

-- ---- calls that meet the same outcomes

abbrev value_in : Said → ℕ
value_in (S.Value (Some (V.I32 v))) = v
value_in _ = 0

abbrev value_of : Outcome → ℕ
value_of (given a) = value_in a.said
value_of (refused e) = 0

values_fix : (import : ℕ) (name vs : List ℕ) (z z1 z2 : Midst) (o : Outcome) → MeetsValues import name vs z o z1 → MeetsValues import name vs z o z2 → z1 ≡ z2
values_fix import name [] z z1 z2 o h k =
    h.3 ∙ ap (λ (v : ℕ). record { devices = z.devices; boxes = z.boxes; settled = z.settled; receive = Some (record { import = import; box = name; value = v }) }) (number h.0 k.0 (sym h.2 ∙ k.2)) ∙ sym k.3
  where
    number : (v u : ℕ) → mailed (Some (V.I32 v)) 1 ≡ mailed (Some (V.I32 u)) 1 → v ≡ u
    number v u e = ap value_of e
values_fix import name (v ∷ vs) z z1 z2 o h k = h.1 ∙ sym k.1

box_fixes : (import : ℕ) (name : List ℕ) (args : List Value) (b : Mailbox) (z z1 z2 : Midst) (o : Outcome) → MeetsBox import name args b z o z1 → MeetsBox import name args b z o z2 → z1 ≡ z2
box_fixes import name [] b z z1 z2 o h k = values_fix import name b.values z z1 z2 o h k
box_fixes import name (V.I32 v ∷ []) b z z1 z2 o h k = h.2 ∙ sym k.2
box_fixes import name (V.I32 v ∷ y ∷ ys) b z z1 z2 o h k = h.1 ∙ sym k.1
box_fixes import name (V.I64 v ∷ ys) b z z1 z2 o h k = h.1 ∙ sym k.1

meets_fix : (w : Program) (import : ℕ) (args : List Value) (lines l1 l2 : List AnswerLine) (z z1 z2 : Midst) (o : Outcome) → Meets w import args lines z o l1 z1 → Meets w import args lines z o l2 z2
    → (l1 ≡ l2) × (z1 ≡ z2)
meets_fix w import args lines l1 l2 z z1 z2 o h k = by_bound (unwrap_or (slice_get w.binds import) None) h k
  where
    by_found : (name : List ℕ) (found : Option Mailbox) → MeetsNamed import (name_at (base_names w.source) import) name args found z o z1
        → MeetsNamed import (name_at (base_names w.source) import) name args found z o z2 → z1 ≡ z2
    by_found name None f g =
        f.2
        ∙ ap (λ (ds : List Device). record { devices = ds; boxes = z.boxes; settled = z.settled; receive = z.receive })
        (device_fixes import (name_at (base_names w.source) import) name args z.devices o f.0 g.0 f.1 g.1)
        ∙ sym g.2
    by_found name (Some b) f g = box_fixes import name args b z z1 z2 o f g

    by_bound : (b : Option (List ℕ)) → MeetsBound w.source import args b lines z o l1 z1 → MeetsBound w.source import args b lines z o l2 z2 → (l1 ≡ l2) × (z1 ≡ z2)
    by_bound None f g = ((line_fixes import (name_at (import_names w.source) import) lines o o l1 l2 f.0 g.0).0, f.1 ∙ sym g.1)
    by_bound (Some name) f g = (f.1 ∙ sym g.1, by_found name (find (is_box name) z.boxes) f.0 g.0)

-- the first outcomes of both, so many
abbrev SameFirst : ℕ → List Outcome → List Outcome → Type 0
SameFirst zero os us = Unit {0}
SameFirst (suc n) os us = (o : Outcome) × (vs : List Outcome) × (ws : List Outcome) × (os ≡ o ∷ vs) × (us ≡ o ∷ ws) × SameFirst n vs ws

same_first : (used x y : List Outcome) (n : ℕ) → length used ≡ n → SameFirst n (used ++ x) (used ++ y)
same_first used x y zero e = tt
same_first [] x y (suc n) e = let no_way : ⊥ = omega arith in absurd no_way
same_first (o ∷ used) x y (suc n) e = (o, used ++ x, used ++ y, refl, refl, same_first used x y n (omega arith))

outcome_head : (o q : Outcome) (xs ys : List Outcome) → o ∷ xs ≡ q ∷ ys → o ≡ q
outcome_head o q xs ys e = cc

outcome_tail : (o q : Outcome) (xs ys : List Outcome) → o ∷ xs ≡ q ∷ ys → xs ≡ ys
outcome_tail o q xs ys e = cc

record Fixed (k : ℕ) (o1 o2 : List Outcome) (l1 l2 : List AnswerLine) (z1 z2 : Midst) : Type 0 where
  outcomes : SameFirst k o1 o2
  answers : l1 ≡ l2
  behind : z1 ≡ z2

calls_fix : (w : Program) (xs : List Note) (k n : ℕ) (os us : List Outcome) (lines : List AnswerLine) (z : Midst) (o1 o2 : List Outcome) (l1 l2 : List AnswerLine) (z1 z2 : Midst) → n ≡ new_calls xs + k
    → SameFirst n os us → CallsMeet w xs os lines z o1 l1 z1 → CallsMeet w xs us lines z o2 l2 z2 → Fixed k o1 o2 l1 l2 z1 z2
calls_fix w [] k n os us lines z o1 o2 l1 l2 z1 z2 e same h g =
    let none : n ≡ k = omega (arith, e) in
    record {
      outcomes = subst (λ (vs : List Outcome). SameFirst k vs o2) (sym h.0) (subst (λ (vs : List Outcome). SameFirst k os vs) (sym g.0) (subst (λ (m : ℕ). SameFirst m os us) none same));
      answers = h.1 ∙ sym g.1;
      behind = h.2 ∙ sym g.2;
    }
calls_fix w (x ∷ xs) k n os us lines z o1 o2 l1 l2 z1 z2 e same h g = by_call (λ n2 vs ws l y e2 s f i. calls_fix w xs k n2 vs ws l y o1 o2 l1 l2 z1 z2 e2 s f i) (call_in x.event) n e same h g
  where
    by_call : ((n2 : ℕ) (vs ws : List Outcome) (l : List AnswerLine) (y : Midst) → n2 ≡ new_calls xs + k → SameFirst n2 vs ws → CallsMeet w xs vs l y o1 l1 z1 → CallsMeet w xs ws l y o2 l2 z2
        → Fixed k o1 o2 l1 l2 z1 z2)
        → (c : Option Call) (m : ℕ) → m ≡ (one_if c + new_calls xs) + k → SameFirst m os us → NoteMeets w c os lines z (λ o l y. CallsMeet w xs o l y o1 l1 z1)
        → NoteMeets w c us lines z (λ o l y. CallsMeet w xs o l y o2 l2 z2) → Fixed k o1 o2 l1 l2 z1 z2
    by_call on None m e s f i = on m os us lines z (omega (arith, e)) s f i
    by_call on (Some c) zero e s f i = let no_way : ⊥ = omega (arith, e) in absurd no_way
    by_call on (Some c) (suc m) e s f i =
        let of : f.0 ≡ s.0 = outcome_head f.0 s.0 f.1 s.1 (sym f.4 ∙ s.3) in
        let oi : i.0 ≡ s.0 = outcome_head i.0 s.0 i.1 s.2 (sym i.4 ∙ s.4) in
        let tf : s.1 ≡ f.1 = outcome_tail s.0 f.0 s.1 f.1 (sym s.3 ∙ f.4) in
        let ti : s.2 ≡ i.1 = outcome_tail s.0 i.0 s.2 i.1 (sym s.4 ∙ i.4) in
        let one : Meets w c.import c.args lines z s.0 f.2 f.3 = subst (λ (o : Outcome). Meets w c.import c.args lines z o f.2 f.3) of f.5 in
        let two : Meets w c.import c.args lines z s.0 i.2 i.3 = subst (λ (o : Outcome). Meets w c.import c.args lines z o i.2 i.3) oi i.5 in
        let r = meets_fix w c.import c.args lines f.2 i.2 z f.3 i.3 s.0 one two in
        on m f.1 i.1 f.2 f.3 (omega (arith, e)) (subst (λ (vs : List Outcome). SameFirst m vs i.1) tf (subst (λ (vs : List Outcome). SameFirst m s.1 vs) ti s.5)) f.6
        (subst (λ (y : Midst). CallsMeet w xs i.1 f.2 y o2 l2 z2) (sym r.1) (subst (λ (l : List AnswerLine). CallsMeet w xs i.1 l i.3 o2 l2 z2) (sym r.0) i.6))

-- ---- actors side by side

record Side (a b : Actor) : Type 0 where
  due : a.due ≡ b.due
  notes : a.notes ≡ b.notes
  answers : a.answers ≡ b.answers
  parked : a.parked ≡ b.parked
  outcomes : SameFirst (new_calls a.notes) a.outcomes b.outcomes

record Sides (p q : List Actor) : Type 0 where
  long : length p ≡ length q
  each : (i : ℕ) (a b : Actor) → slice_get p i ≡ Some a → slice_get q i ≡ Some b → Side a b

other_side : (p q : List Actor) → Sides p q → (i : ℕ) (a : Actor) → slice_get p i ≡ Some a → (b : Actor) × (slice_get q i ≡ Some b) × Side a b
other_side p q s i a e = let b = item q i (omega (arith, slice_get_within p i a e, s.long)) in (b.0, b.1, s.each i a b.0 e b.1)

this_side : (p q : List Actor) → Sides p q → (i : ℕ) (b : Actor) → slice_get q i ≡ Some b → (a : Actor) × (slice_get p i ≡ Some a) × Side a b
this_side p q s i b e = let a = item p i (omega (arith, slice_get_within q i b e, s.long)) in (a.0, a.1, s.each i a.0 b a.1 e)

set_sides : (p q : List Actor) (i : ℕ) (a b : Actor) → Sides p q → Side a b → Sides (slice_set p i a) (slice_set q i b)
set_sides p q i a b s one = record { long = length-set p i a ∙ s.long ∙ sym (length-set q i b); each = λ j c d ec ed. by j c d ec ed (cases_eq j i) }
  where
    by : (j : ℕ) (c d : Actor) → slice_get (slice_set p i a) j ≡ Some c → slice_get (slice_set q i b) j ≡ Some d → (j ≡ i) ⊎ (j ≡ i → ⊥) → Side c d
    by j c d ec ed (inl same) =
        let x = item p i (subst (λ (k : ℕ). k < length p) same (omega (arith, slice_get_within (slice_set p i a) j c ec, length-set p i a))) in
        let y = item q i (subst (λ (k : ℕ). k < length q) same (omega (arith, slice_get_within (slice_set q i b) j d ed, length-set q i b))) in
        let e1 : a ≡ c = same_Some a c (sym (set_here p i a x.0 x.1) ∙ ap (slice_get (slice_set p i a)) (sym same) ∙ ec) in
        let e2 : b ≡ d = same_Some b d (sym (set_here q i b y.0 y.1) ∙ ap (slice_get (slice_set q i b)) (sym same) ∙ ed) in
        subst (λ (v : Actor). Side v d) e1 (subst (λ (v : Actor). Side a v) e2 one)
    by j c d ec ed (inr other) = s.each j c d (sym (set_there p i j a other) ∙ ec) (sym (set_there q i j b other) ∙ ed)

woken_sides : (due : ℕ) (is : List ℕ) (p q : List Actor) → Sides p q → Sides (wake due is p) (wake due is q)
woken_sides due [] p q s = s
woken_sides due (i ∷ is) p q s =
    woken_sides due is (slice_set p i (woken due (unwrap_or (slice_get p i) nobody))) (slice_set q i (woken due (unwrap_or (slice_get q i) nobody)))
    (set_sides p q i (woken due (unwrap_or (slice_get p i) nobody)) (woken due (unwrap_or (slice_get q i) nobody)) s (by (slice_get p i) (slice_get q i) refl refl))
  where
    no_one : (a : Actor) → None ≡ Some a → ⊥
    no_one a e = cc

    by : (x y : Option Actor) → slice_get p i ≡ x → slice_get q i ≡ y → Side (woken due (unwrap_or x nobody)) (woken due (unwrap_or y nobody))
    by None None e f = record { due = refl; notes = refl; answers = refl; parked = refl; outcomes = tt }
    by None (Some b) e f = let a = this_side p q s i b f in absurd (no_one a.0 (sym e ∙ a.1))
    by (Some a) None e f = let b = other_side p q s i a e in absurd (no_one b.0 (sym f ∙ b.1))
    by (Some a) (Some b) e f = let h = s.each i a b e f in record { due = refl; notes = h.notes; answers = h.answers; parked = refl; outcomes = h.outcomes }

ready_on : (a b : Actor) → Side a b → IsReady a → IsReady b
ready_on a b s r = record { unfinished = subst (λ (ns : List Note). 0 < length ns) s.notes r.unfinished; awake = sym s.parked ∙ r.awake }

ready_back : (a b : Actor) → Side a b → IsReady b → IsReady a
ready_back a b s r = record { unfinished = subst (λ (ns : List Note). 0 < length ns) (sym s.notes) r.unfinished; awake = s.parked ∙ r.awake }

one_next : (p q : List Actor) → Sides p q → (i j : ℕ) (a b : Actor) → IsNext p i a → IsNext q j b → i ≡ j
one_next p q s i j a b n k =
    let x = this_side p q s j b k.there in
    let y = other_side p q s i a n.there in
    by (n.least j x.0 x.1 (ready_back x.0 b x.2 k.ready)) (k.least i y.0 y.1 (ready_on a y.0 y.2 n.ready)) x.2.due y.2.due
  where
    by : {xd yd : ℕ} → (a.due < xd) ⊎ ((a.due ≡ xd) × (i ≤ j)) → (b.due < yd) ⊎ ((b.due ≡ yd) × (j ≤ i)) → xd ≡ b.due → a.due ≡ yd → i ≡ j
    by (inl l) (inl m) e f = let no_way : ⊥ = omega (arith, l, m, e, f) in absurd no_way
    by (inl l) (inr m) e f = let no_way : ⊥ = omega (arith, l, m.0, e, f) in absurd no_way
    by (inr l) (inl m) e f = let no_way : ⊥ = omega (arith, l.0, m, e, f) in absurd no_way
    by (inr l) (inr m) e f = omega (arith, l.1, m.1)

-- ---- events

module _ (programs : List Program) (detaches : List Detach) where
  record Both (lines1 lines2 : List Line) (p q : List Actor) (s1 s2 : Shared) : Type 0 where
    lines : lines1 ≡ lines2
    sides : Sides p q
    shared : s1 ≡ s2

  both_turn : (number : ℕ) (p q p' q' : List Actor) (sh s1 s2 : Shared) (lines1 lines2 : List Line) → Sides p q → TakesTurn programs detaches number p sh lines1 p' s1
      → TakesTurn programs detaches number q sh lines2 q' s2 → Both lines1 lines2 p' q' s1 s2
  both_turn number p q p' q' sh s1 s2 lines1 lines2 s h g =
      let i : h.i ≡ g.i = one_next p q s h.i g.i h.a g.a h.next g.next in
      let w : h.w ≡ g.w = same_Some h.w g.w (sym h.program ∙ ap (slice_get programs) i ∙ g.program) in
      let x : Side h.a g.a = s.each h.i h.a g.a h.next.there (ap (slice_get q) i ∙ g.next.there) in
      let begun : Midst = begun_event number detaches sh in
      let c2 : CallsMeet h.w (turn_of h.a.notes) g.a.outcomes h.a.answers begun g.outcomes g.answers g.behind =
      subst (λ (v : Program). CallsMeet v (turn_of h.a.notes) g.a.outcomes h.a.answers begun g.outcomes g.answers g.behind) (sym w)
      (subst (λ (ns : List Note). CallsMeet g.w (turn_of ns) g.a.outcomes h.a.answers begun g.outcomes g.answers g.behind) (sym x.notes)
      (subst (λ (l : List AnswerLine). CallsMeet g.w (turn_of g.a.notes) g.a.outcomes l begun g.outcomes g.answers g.behind) (sym x.answers) g.calls)) in
      let r = calls_fix h.w (turn_of h.a.notes) (new_calls (behind_turn h.a.notes)) (new_calls h.a.notes) h.a.outcomes g.a.outcomes h.a.answers begun h.outcomes g.outcomes h.answers g.answers h.behind g.behind
      (omega (arith, turn_calls h.a.notes)) x.outcomes h.calls c2 in
      let receive : h.behind.receive ≡ g.behind.receive = ap (λ (z : Midst). z.receive) r.behind in
      let one : Actor = record {
        due = h.a.due + put_off (turn_of h.a.notes);
        notes = behind_turn h.a.notes;
        outcomes = h.outcomes;
        answers = h.answers;
        parked = parked_at (store_behind (turn_of h.a.notes)) (parks (turn_of h.a.notes) h.behind.receive);
      } in
      let two : Actor = record {
        due = g.a.due + put_off (turn_of g.a.notes);
        notes = behind_turn g.a.notes;
        outcomes = g.outcomes;
        answers = g.answers;
        parked = parked_at (store_behind (turn_of g.a.notes)) (parks (turn_of g.a.notes) g.behind.receive);
      } in
      let moved : Side one two = record {
        due = λ k. x.due k + put_off (turn_of (x.notes k));
        notes = ap behind_turn x.notes;
        answers = r.answers;
        parked = λ k. parked_at (store_behind (turn_of (x.notes k))) (parks (turn_of (x.notes k)) (receive k));
        outcomes = r.outcomes;
      } in
      let there : q' ≡ wake (suc h.a.due) h.behind.settled (slice_set q h.i two) =
      g.after ∙ (λ k. wake (suc (sym x.due k)) (ap (λ (z : Midst). z.settled) (sym r.behind) k) (slice_set q (sym i k) two)) in
      record {
        lines = h.made ∙ (λ k. map (λ (e : Event). line_at (x.due k) (i k) (told_pause (parks (turn_of (x.notes k)) (receive k)) e)) (events_with_looks (w k).looks (turn_of (x.notes k)))) ∙ sym g.made;
        sides = subst (λ (l : List Actor). Sides l q') (sym h.after)
            (subst (λ (l : List Actor). Sides (wake (suc h.a.due) h.behind.settled (slice_set p h.i one)) l) (sym there)
            (woken_sides (suc h.a.due) h.behind.settled (slice_set p h.i one) (slice_set q h.i two) (set_sides p q h.i one two s moved)));
        shared = h.shared
            ∙ (λ k. record { devices = (r.behind k).devices; boxes = with_waiting (i k) (parks (turn_of (x.notes k)) (receive k)) (r.behind k).boxes; tick = x.due k })
            ∙ sym g.shared;
      }

  both_stall : (number : ℕ) (p q p' q' : List Actor) (sh s1 s2 : Shared) (lines1 lines2 : List Line) → Sides p q → Stalls programs detaches number p sh lines1 p' s1
      → Stalls programs detaches number q sh lines2 q' s2 → Both lines1 lines2 p' q' s1 s2
  both_stall number p q p' q' sh s1 s2 lines1 lines2 s h g =
      let b = other_side p q s h.i h.a h.there in
      let a = this_side p q s g.i g.a g.there in
      let le1 = h.first g.i a.0 g.at a.1 (a.2.parked ∙ g.waits) in
      let le2 = g.first h.i b.0 h.at b.1 (sym b.2.parked ∙ h.waits) in
      let i : h.i ≡ g.i = omega (arith, le1, le2) in
      let x : Side h.a g.a = s.each h.i h.a g.a h.there (ap (slice_get q) i ∙ g.there) in
      let w : h.w ≡ g.w = same_Some h.w g.w (sym h.program ∙ ap (slice_get programs) i ∙ g.program) in
      let at : h.at ≡ g.at = same_Some h.at g.at (sym h.waits ∙ x.parked ∙ g.waits) in
      let moved : Side (record h.a { parked = None }) (record g.a { parked = None }) =
      record { due = x.due; notes = x.notes; answers = x.answers; parked = refl; outcomes = x.outcomes } in
      record {
        lines = h.made ∙ (λ k. map (line_at sh.tick (i k)) (ended (Stalled (at k).import) ∷ look_events (at k).store (w k).looks)) ∙ sym g.made;
        sides = subst (λ (l : List Actor). Sides l q') (sym h.after)
            (subst (λ (l : List Actor). Sides (slice_set p h.i (record h.a { parked = None })) l) (sym (g.after ∙ (λ k. slice_set q (sym i k) (record g.a { parked = None }))))
            (set_sides p q h.i (record h.a { parked = None }) (record g.a { parked = None }) s moved));
        shared = h.shared ∙ sym g.shared;
      }

  both_play : (number : ℕ) (p q p' q' : List Actor) (sh s1 s2 : Shared) (lines1 lines2 : List Line) → Sides p q → Plays programs detaches number p sh lines1 p' s1
      → Plays programs detaches number q sh lines2 q' s2 → Both lines1 lines2 p' q' s1 s2
  both_play number p q p' q' sh s1 s2 lines1 lines2 s (a_turn h) (a_turn g) = both_turn number p q p' q' sh s1 s2 lines1 lines2 s h g
  both_play number p q p' q' sh s1 s2 lines1 lines2 s (a_turn h) (a_stall g) =
      let b = other_side p q s h.i h.a h.next.there in absurd (g.none_ready h.i b.0 b.1 (ready_on h.a b.0 b.2 h.next.ready))
  both_play number p q p' q' sh s1 s2 lines1 lines2 s (a_stall h) (a_turn g) =
      let a = this_side p q s g.i g.a g.next.there in absurd (h.none_ready g.i a.0 a.1 (ready_back a.0 g.a a.2 g.next.ready))
  both_play number p q p' q' sh s1 s2 lines1 lines2 s (a_stall h) (a_stall g) = both_stall number p q p' q' sh s1 s2 lines1 lines2 s h g

  no_parked : (x : Parked) → None ≡ Some x → ⊥
  no_parked x e = cc

  none_left : (number : ℕ) (p q q' : List Actor) (sh sh' : Shared) (lines : List Line) → Sides p q → IsOver p → Plays programs detaches number q sh lines q' sh' → ⊥
  none_left number p q q' sh sh' lines s over (a_turn g) =
      let a = this_side p q s g.i g.a g.next.there in
      let done = all_at HasEnded p g.i a.0 over a.1 in
      let some = (ready_back a.0 g.a a.2 g.next.ready).unfinished in
      let none = ap length done.no_notes in omega (arith, some, none)
  none_left number p q q' sh sh' lines s over (a_stall g) =
      let a = this_side p q s g.i g.a g.there in
      let done = all_at HasEnded p g.i a.0 over a.1 in no_parked g.at (sym done.awake ∙ a.2.parked ∙ g.waits)

  turned : (p q : List Actor) → Sides p q → IsOver q → (i : ℕ) (a : Actor) → slice_get p i ≡ Some a → HasEnded a
  turned p q s over i a e =
      let b = other_side p q s i a e in
      let done = all_at HasEnded q i b.0 over b.1 in record { no_notes = b.2.notes ∙ done.no_notes; awake = b.2.parked ∙ done.awake }

  still_over : (number : ℕ) (p q p' : List Actor) (sh sh' : Shared) (lines : List Line) → Sides p q → IsOver q → Plays programs detaches number p sh lines p' sh' → ⊥
  still_over number p q p' sh sh' lines s over (a_turn h) =
      let done = turned p q s over h.i h.a h.next.there in
      let some = h.next.ready.unfinished in
      let none = ap length done.no_notes in omega (arith, some, none)
  still_over number p q p' sh sh' lines s over (a_stall h) = let done = turned p q s over h.i h.a h.there in no_parked h.at (sym done.awake ∙ h.waits)

  both_events : (number : ℕ) (p q last1 last2 : List Actor) (sh sq e1 e2 : Shared) (lines1 lines2 : List Line) → Sides p q → sq ≡ sh → Events programs detaches number p sh lines1 last1 e1 → IsOver last1
      → Events programs detaches number q sq lines2 last2 e2 → IsOver last2 → (lines1 ≡ lines2) × (e1 ≡ e2)
  both_events number p q last1 last2 sh sq e1 e2 lines1 lines2 s same no_event o1 no_event o2 = (refl, sym same)
  both_events number p q last1 last2 sh sq e1 e2 lines1 lines2 s same no_event o1 (an_event {actors' = q1} {sh' = y} {lines = l} play rest e) o2 =
      absurd (none_left number p q q1 sq y l s o1 play)
  both_events number p q last1 last2 sh sq e1 e2 lines1 lines2 s same (an_event {actors' = p1} {sh' = x} {lines = l} play rest e) o1 no_event o2 =
      absurd (still_over number p q p1 sh x l s o2 play)
  both_events number p q last1 last2 sh sq e1 e2 lines1 lines2 s same
      (an_event {actors' = p1} {sh' = x1} {lines = f1} {more = m1} play1 rest1 split1) o1 (an_event {actors' = q1} {sh' = x2} {lines = f2} {more = m2} play2 rest2 split2) o2 =
      let one = both_play number p q p1 q1 sh x1 x2 f1 f2 s play1 (subst (λ (y : Shared). Plays programs detaches number q y f2 q1 x2) same play2) in
      let on = both_events (suc number) p1 q1 last1 last2 x1 x2 e1 e2 m1 m2 one.sides (sym one.shared) rest1 o1 rest2 o2 in
      (split1 ∙ (λ k. one.lines k ++ on.0 k) ∙ sym split2, on.1)

-- ---- from where programs begin

abbrev programs_of : List Original → List Program
programs_of originals = map (λ (o : Original). o.program) originals

as_long : (os : List Original) (acts : List Actor) → AllZip StartsOriginal os acts → length acts ≡ length os
as_long [] [] z = refl
as_long [] (a ∷ acts) z = absurd z
as_long (o ∷ os) [] z = absurd z
as_long (o ∷ os) (a ∷ acts) z = ap suc (as_long os acts z.1)

pub stories_fix_lines : StoriesFixLines
stories_fix_lines originals detaches boxes ds ds1 ds2 lines1 lines2 one other same =
    let r = both_events (programs_of originals) detaches 1 one.actors other.actors one.runs.last other.runs.last (sharing boxes ds) (sharing boxes ds) one.runs.shared other.runs.shared lines1 lines2 sides refl
    one.runs.events one.runs.over other.runs.events other.runs.over in
    (r.0, one.runs.devices ∙ ap (λ (y : Shared). y.devices) r.1 ∙ sym other.runs.devices)
  where
    met1 : EachMet one.actors
    met1 = events_met (programs_of originals) detaches 1 one.actors (sharing boxes ds) lines1 one.runs.last one.runs.shared one.runs.events one.runs.over

    met2 : EachMet other.actors
    met2 = events_met (programs_of originals) detaches 1 other.actors (sharing boxes ds) lines2 other.runs.last other.runs.shared other.runs.events other.runs.over

    side : (o : Original) (a b : Actor) → StartsOriginal o a → StartsOriginal o b → Met a → Met b → (a.notes ≡ b.notes) × (met a ≡ met b) → Side a b
    side o a b st su m1 m2 h =
        let t1 = m1.2 in
        let t2 = m2.2 in
        let is1 : met a ≡ t1.0 = ap (take (new_calls a.notes)) t1.1 ∙ take_first t1.0 m1.0 (new_calls a.notes) t1.2 in
        let is2 : met b ≡ t2.0 = ap (take (new_calls b.notes)) t2.1 ∙ take_first t2.0 m2.0 (new_calls b.notes) t2.2 in
        let used : t2.0 ≡ t1.0 = sym is2 ∙ sym h.1 ∙ is1 in
        record {
          due = st.starts.due ∙ sym su.starts.due;
          notes = h.0;
          answers = st.starts.answers ∙ sym su.starts.answers;
          parked = st.starts.parked ∙ sym su.starts.parked;
          outcomes = subst (λ (os : List Outcome). SameFirst (new_calls a.notes) os b.outcomes) (sym t1.1)
              (subst (λ (os : List Outcome). SameFirst (new_calls a.notes) (t1.0 ++ m1.0) os) (sym (t2.1 ∙ ap (λ (os : List Outcome). os ++ m2.0) used))
              (same_first t1.0 m1.0 m2.0 (new_calls a.notes) t1.2));
        }

    sides : Sides one.actors other.actors
    sides = record {
      long = as_long originals one.actors one.starts ∙ sym (as_long originals other.actors other.starts);
      each = λ i a b ea eb.
          let o = item originals i (omega (arith, slice_get_within one.actors i a ea, as_long originals one.actors one.starts)) in
          side o.0 a b (zip_both StartsOriginal originals one.actors one.starts i o.0 a o.1 ea) (zip_both StartsOriginal originals other.actors other.starts i o.0 b o.1 eb) (met1 i a ea) (met2 i b eb)
          (zip_both SameStories one.actors other.actors same i a b ea eb);
    }
