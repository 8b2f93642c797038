-- Two runs of a world with mailboxes in which the programs' calls meet the same outcomes are one.
use Rattle.std.proofs.Common.{arith, ◌≡◌, ◌≤◌, inl, inr, ℕ, suc, List, [], ◌∷◌, ◌++◌, length, map, take, Option, Some, None, slice_get, refl, sym, ap, ◌∙◌, subst, append_assoc, append-nil, length-append}
use Rattle.std.specs.List.{find}
use Rattle.std.proofs.lemmas.List.{append_cancel_left}
use Rattle.wa_types.specs.declared.values.Value.{Value}
use Rattle.wa_types.specs.declared.values.Value.TheVariants as V
use Rattle.wa_model.specs.declared.answers.Detach.{Detach}
use Rattle.wa_model.specs.Outside.{AnswerLine, Call}
use Rattle.wa_model.specs.Plan.{Outcome}
use Rattle.wa_model.specs.Blocking.{Note}
use Rattle.world_model.specs.World.{Device, Program, base_names, call_in, import_names, name_at, protocol_story}
use Rattle.world_laws.specs.Originals.{new_calls}
use Rattle.world_laws.proofs.Counting.{calls_on}
use Rattle.world_laws.proofs.Determined.{device_fixes, line_fixes}
use Rattle.world_laws.proofs.Places.{of_map, zip_both}
use Rattle.world_laws.proofs.StoryParts.{begins_any}
use Rattle.world_laws.proofs.Worlds.{take_first}
use Rattle.mailbox_device.specs.Mail.{Box, is_box as has_name}
use Rattle.mail_laws.specs.Determined.{MetFixLines}
use Rattle.mail_laws.specs.MailOriginals.{met}
use Rattle.mail_laws.specs.MailWorld.{Actor, HeldStory, StartsHeld, sharing, to_end, to_wait}
use Rattle.mail_laws.specs.Told.{Amid, Await, begun_amid}
use Rattle.mail_laws.proofs.CallsInRange.{EachMet, Met, events_met}
use Rattle.mail_laws.proofs.KnownCalls.{Known, KnownBound, KnownBox, KnownCalls, KnownNamed, KnownNote, KnownValues, OneQuiet, bound_to}
use Rattle.mail_laws.proofs.PlayedAreTold.{whole_from}
use Rattle.mail_laws.proofs.SameTold.{once_front}
use Rattle.mail_laws.proofs.SameTurns.{calls_count, known_apart, one_await, open_receive}
use Rattle.mail_laws.proofs.SameWorlds.{Decides, runs_same}
use Rattle.mail_laws.proofs.ToldAreWorlds.{Whole}

-- ---- calls

known_fixes : (w : Program) (c : Call) (lines l1 l2 : List AnswerLine) (m m1 m2 : Amid) (o : Outcome) → Known w c lines m o l1 m1 → Known w c lines m o l2 m2 → (l1 ≡ l2) × (m1 ≡ m2)
known_fixes w c lines l1 l2 m m1 m2 o h k = by_bound (bound_to w c) h k
  where
    by_values : (name vs : List ℕ) → KnownValues name vs m o m1 → KnownValues name vs m o m2 → m1 ≡ m2
    by_values name [] f g = absurd f
    by_values name (v ∷ vs) f g = f.1 ∙ sym g.1

    by_args : (name : List ℕ) (x : Box) (args : List Value) → KnownBox c.import name args x m o m1 → KnownBox c.import name args x m o m2 → m1 ≡ m2
    by_args name x [] f g = by_values name x.values f g
    by_args name x (V.I32 v ∷ []) f g = f.1 ∙ sym g.1
    by_args name x (V.I32 v ∷ y ∷ ys) f g = f.1 ∙ sym g.1
    by_args name x (V.I64 v ∷ ys) f g = f.1 ∙ sym g.1

    by_found : (name : List ℕ) (found : Option Box) → KnownNamed c.import (name_at (base_names w.source) c.import) name c.args found m o m1
        → KnownNamed c.import (name_at (base_names w.source) c.import) name c.args found m o m2 → m1 ≡ m2
    by_found name None f g =
        f.2
        ∙ ap (λ (ds : List Device). record { devices = ds; boxes = m.boxes; settled = m.settled; receive = m.receive })
        (device_fixes c.import (name_at (base_names w.source) c.import) name c.args m.devices o f.0 g.0 f.1 g.1)
        ∙ sym g.2
    by_found name (Some x) f g = by_args name x c.args f g

    by_bound : (d : Option (List ℕ)) → KnownBound w.source c.import c.args d lines m o l1 m1 → KnownBound w.source c.import c.args d lines m o l2 m2 → (l1 ≡ l2) × (m1 ≡ m2)
    by_bound None f g = ((line_fixes c.import (name_at (import_names w.source) c.import) lines o o l1 l2 f.0 g.0).0, f.1 ∙ sym g.1)
    by_bound (Some name) f g = (f.1 ∙ sym g.1, by_found name (find (has_name name) m.boxes) f.0 g.0)

outcome_head : (o q : Outcome) (xs ys : List Outcome) → o ∷ xs ≡ q ∷ ys → o ≡ q
outcome_head o q xs ys e = cc

outcome_tail : (o q : Outcome) (xs ys : List Outcome) → o ∷ xs ≡ q ∷ ys → xs ≡ ys
outcome_tail o q xs ys e = cc

calls_fix : (w : Program) (xs : List Note) (os us y1 y2 : List Outcome) (lines l1 l2 : List AnswerLine) (m m1 m2 : Amid) → os ++ y1 ≡ us ++ y2 → KnownCalls w xs os lines m [] l1 m1
    → KnownCalls w xs us lines m [] l2 m2 → (os ≡ us) × (l1 ≡ l2) × (m1 ≡ m2)
calls_fix w [] os us y1 y2 lines l1 l2 m m1 m2 e h k = (sym h.0 ∙ k.0, h.1 ∙ sym k.1, h.2 ∙ sym k.2)
calls_fix w (x ∷ xs) os us y1 y2 lines l1 l2 m m1 m2 e h k = by_call (λ o v l z f g i. calls_fix w xs o v y1 y2 l l1 l2 z m1 m2 f g i) (call_in x.event) h k
  where
    by_call : ((o v : List Outcome) (l : List AnswerLine) (z : Amid) → o ++ y1 ≡ v ++ y2 → KnownCalls w xs o l z [] l1 m1 → KnownCalls w xs v l z [] l2 m2 → (o ≡ v) × (l1 ≡ l2) × (m1 ≡ m2))
        → (c : Option Call) → KnownNote w (OneQuiet xs) c os lines m [] l1 m1 (λ o l z. KnownCalls w xs o l z [] l1 m1)
        → KnownNote w (OneQuiet xs) c us lines m [] l2 m2 (λ o l z. KnownCalls w xs o l z [] l2 m2) → (os ≡ us) × (l1 ≡ l2) × (m1 ≡ m2)
    by_call on None f g = on os us lines m e f g
    by_call on (Some c) (inl f) (inl g) =
        let both : f.0 ∷ (f.1 ++ y1) ≡ g.0 ∷ (g.1 ++ y2) = ap (λ (vs : List Outcome). vs ++ y1) (sym f.4) ∙ e ∙ ap (λ (vs : List Outcome). vs ++ y2) g.4 in
        let same : f.0 ≡ g.0 = outcome_head f.0 g.0 (f.1 ++ y1) (g.1 ++ y2) both in
        let fixed = known_fixes w c lines f.2 g.2 m f.3 g.3 f.0 f.5 (subst (λ (o : Outcome). Known w c lines m o g.2 g.3) (sym same) g.5) in
        let r = on f.1 g.1 f.2 f.3 (outcome_tail f.0 g.0 (f.1 ++ y1) (g.1 ++ y2) both) f.6
        (subst (λ (z : Amid). KnownCalls w xs g.1 f.2 z [] l2 m2) (sym fixed.1) (subst (λ (l : List AnswerLine). KnownCalls w xs g.1 l g.3 [] l2 m2) (sym fixed.0) g.6)) in
        (f.4 ∙ (λ k. same k ∷ r.0 k) ∙ sym g.4, r.1, r.2)
    by_call on (Some c) (inl f) (inr g) = absurd (known_apart w c lines f.2 m f.3 f.0 g.0 f.5 g.1)
    by_call on (Some c) (inr f) (inl g) = absurd (known_apart w c lines g.2 m g.3 g.0 f.0 g.5 f.1)
    by_call on (Some c) (inr f) (inr g) = (
      sym f.3 ∙ g.3,
      f.4 ∙ sym g.4,
      f.5 ∙ ap (λ (r : Await). record { devices = m.devices; boxes = m.boxes; settled = m.settled; receive = Some r }) (one_await w c m f.0 g.0 f.1 g.1) ∙ sym g.5,
    )

-- ---- whole stories of one program

-- they meet the same outcomes, one for each call, and begin one story
record Alike (a b : Whole) : Type 0 where
  met : List Outcome
  more1 : List Outcome
  more2 : List Outcome
  rest1 : List Note
  rest2 : List Note
  first : a.outcomes ≡ met ++ more1
  second : b.outcomes ≡ met ++ more2
  count1 : new_calls a.notes ≡ length met
  count2 : new_calls b.notes ≡ length met
  notes : a.notes ++ rest1 ≡ b.notes ++ rest2

front : (xs ys ls zs : List Outcome) → xs ++ ys ≡ ls ++ zs → length xs ≤ length ls → (r : List Outcome) × (ls ≡ xs ++ r)
front [] ys ls zs e le = (ls, refl)
front (x ∷ xs) ys [] zs e le = let no_way : ⊥ = omega (arith, le) in absurd no_way
front (x ∷ xs) ys (l ∷ ls) zs e le =
    let r = front xs ys ls zs (outcome_tail x l (xs ++ ys) (ls ++ zs) e) (omega (arith, le)) in
    (r.0, λ k. sym (outcome_head x l (xs ++ ys) (ls ++ zs) e) k ∷ r.1 k)

outcomes_decide : (programs : List Program) (detaches : List Detach) (boxes : List (List ℕ)) (ds' : List Device) (wholes1 wholes2 : List Whole)
    → ((i : ℕ) (w : Program) (a b : Whole) → slice_get programs i ≡ Some w → slice_get wholes1 i ≡ Some a → slice_get wholes2 i ≡ Some b → Alike a b)
    → Decides programs detaches boxes ds' ⊥ ⊥ wholes1 wholes2
outcomes_decide programs detaches boxes ds' wholes1 wholes2 alike number tellers c i w t size a b more1 more2 there count awake named grow1 grow2 agree part1 part2 =
    let same = alike i w part1.h part2.h there part1.there part2.there in
    let none : open_receive t.receive ≡ 0 = ap open_receive awake in
    let made1 = calls_count w a.turn a.met [] t.answers a.answers (begun_amid number detaches c) a.behind a.known refl in
    let made2 = calls_count w b.turn b.met [] t.answers b.answers (begun_amid number detaches c) b.behind b.known refl in
    let all1 = ap new_calls part1.notes ∙ calls_on (t.told ++ a.turn) part1.rest in
    let all2 = ap new_calls part2.notes ∙ calls_on (t.told ++ b.turn) part2.rest in
    let front1 = front (t.met ++ a.met) part1.more same.met same.more1 (sym part1.outcomes ∙ same.first)
    (omega (arith, count, none, made1, all1, same.count1, calls_on t.told a.turn, length-append t.met a.met)) in
    let front2 = front (t.met ++ b.met) part2.more same.met same.more2 (sym part2.outcomes ∙ same.second)
    (omega (arith, count, none, made2, all2, same.count2, calls_on t.told b.turn, length-append t.met b.met)) in
    let mets : a.met ++ front1.0 ≡ b.met ++ front2.0 =
    append_cancel_left t.met (a.met ++ front1.0) (b.met ++ front2.0) (sym (append_assoc t.met a.met front1.0) ∙ sym front1.1 ∙ front2.1 ∙ append_assoc t.met b.met front2.0) in
    let notes1 : t.told ++ (a.turn ++ (part1.rest ++ same.rest1)) ≡ part1.h.notes ++ same.rest1 =
    sym (append_assoc t.told a.turn (part1.rest ++ same.rest1)) ∙ sym (append_assoc (t.told ++ a.turn) part1.rest same.rest1) ∙ ap (λ (ns : List Note). ns ++ same.rest1) (sym part1.notes) in
    let notes2 : t.told ++ (b.turn ++ (part2.rest ++ same.rest2)) ≡ part2.h.notes ++ same.rest2 =
    sym (append_assoc t.told b.turn (part2.rest ++ same.rest2)) ∙ sym (append_assoc (t.told ++ b.turn) part2.rest same.rest2) ∙ ap (λ (ns : List Note). ns ++ same.rest2) (sym part2.notes) in
    let turns : a.turn ≡ b.turn =
    once_front a.turn b.turn (part1.rest ++ same.rest1) (part2.rest ++ same.rest2) a.whole b.whole
    (append_cancel_left t.told (a.turn ++ (part1.rest ++ same.rest1)) (b.turn ++ (part2.rest ++ same.rest2)) (notes1 ∙ same.notes ∙ sym notes2)) in
    let r = calls_fix w a.turn a.met b.met front1.0 front2.0 t.answers a.answers b.answers (begun_amid number detaches c) a.behind b.behind mets a.known
    (subst (λ (ns : List Note). KnownCalls w ns b.met t.answers (begun_amid number detaches c) [] b.answers b.behind) (sym turns) b.known) in
    record { turn = turns; met = r.0; answers = r.1; behind = r.2 }

-- ---- from where programs begin

abbrev Begun : Program → List Outcome → List Note → Type 0
Begun w os notes = (rest : List Note) × (protocol_story w os ≡ notes ++ rest)

held_begins : (w : Program) (os : List Outcome) (notes : List Note) → HeldStory w os notes → Begun w os notes
held_begins w os notes (to_end e) = ([], sym e ∙ sym (append-nil notes))
held_begins w os notes (to_wait rest e p) = (rest, e)

alike_actors : (w : Program) (a b : Actor) → HeldStory w a.outcomes a.notes → HeldStory w b.outcomes b.notes → Met a → Met b → met a ≡ met b → Alike (whole_from a) (whole_from b)
alike_actors w a b held1 held2 m1 m2 same =
    let t1 = m1.2 in
    let t2 = m2.2 in
    let met1 : met a ≡ t1.0 = ap (take (new_calls a.notes)) t1.1 ∙ take_first t1.0 m1.0 (new_calls a.notes) t1.2 in
    let met2 : met b ≡ t2.0 = ap (take (new_calls b.notes)) t2.1 ∙ take_first t2.0 m2.0 (new_calls b.notes) t2.2 in
    let used : t2.0 ≡ t1.0 = sym met2 ∙ sym same ∙ met1 in
    let outcomes2 : b.outcomes ≡ t1.0 ++ m2.0 = t2.1 ∙ ap (λ (os : List Outcome). os ++ m2.0) used in
    let len2 = ap length used in
    let h1 = held_begins w a.outcomes a.notes held1 in
    let h2 = held_begins w b.outcomes b.notes held2 in
    let g = begins_any w t1.0 m1.0 m2.0 a.notes (sym t1.2) (h1.0, ap (protocol_story w) (sym t1.1) ∙ h1.1) in
    record {
      met = t1.0;
      more1 = m1.0;
      more2 = m2.0;
      rest1 = g.0;
      rest2 = h2.0;
      first = t1.1;
      second = outcomes2;
      count1 = sym t1.2;
      count2 = sym t2.2 ∙ len2;
      notes = sym g.1 ∙ ap (protocol_story w) (sym outcomes2) ∙ h2.1;
    }

pub met_fix_lines : MetFixLines
met_fix_lines begun programs detaches boxes ds ds1 ds2 lines1 lines2 one other mets =
    runs_same begun programs detaches boxes ds ds1 ds2 ds lines1 lines2 ⊥ ⊥ one other
    (outcomes_decide programs detaches boxes ds (map whole_from one.actors) (map whole_from other.actors) alike) (λ never. absurd never) (λ i x y e f. (λ never. absurd never, λ never. absurd never))
  where
    met1 : EachMet one.actors
    met1 = events_met programs detaches (suc begun) one.actors (sharing boxes ds) lines1 one.runs.last one.runs.shared one.runs.events one.runs.over

    met2 : EachMet other.actors
    met2 = events_met programs detaches (suc begun) other.actors (sharing boxes ds) lines2 other.runs.last other.runs.shared other.runs.events other.runs.over

    alike : (i : ℕ) (w : Program) (a b : Whole) → slice_get programs i ≡ Some w → slice_get (map whole_from one.actors) i ≡ Some a → slice_get (map whole_from other.actors) i ≡ Some b → Alike a b
    alike i w a b there ea eb =
        let x = of_map whole_from one.actors i a ea in
        let y = of_map whole_from other.actors i b eb in
        subst (λ (h : Whole). Alike h b) x.2
        (subst (λ (h : Whole). Alike (whole_from x.0) h) y.2
        (alike_actors w x.0 y.0 (zip_both StartsHeld programs one.actors one.starts i w x.0 there x.1).story (zip_both StartsHeld programs other.actors other.starts i w y.0 there y.1).story
        (met1 i x.0 x.1) (met2 i y.0 y.1) (zip_both (λ (c d : Actor). met c ≡ met d) one.actors other.actors mets i x.0 y.0 x.1 y.1)))
