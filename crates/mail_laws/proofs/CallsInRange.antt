-- What calls of a world with mailboxes meet: outcomes in range, one for each call.
use Rattle.std.proofs.Common.{arith, ◌≡◌, ◌+◌, ◌⊎◌, inl, inr, ℕ, suc, List, [], ◌∷◌, ◌++◌, Option, Some, None, All, slice_get, slice_set, refl, sym, ap, ◌∙◌, subst}
use Rattle.std.proofs.Common.{append_assoc, append-nil, length-append}
use Rattle.std.specs.List.{find}
use Rattle.std.specs.Option.{unwrap_or}
use Rattle.std.proofs.lemmas.Bool.{cases_eq}
use Rattle.std.proofs.lemmas.List.Elements.{All-nil, All-cons, All-head, All-append}
use Rattle.std.proofs.lemmas.Option.{same_Some}
use Rattle.wa_types.specs.declared.values.Value.{Value}
use Rattle.wa_types.specs.declared.values.Value.TheVariants as V
use Rattle.wa_model.specs.declared.answers.Detach.{Detach}
use Rattle.wa_model.specs.Outside.{AnswerLine, Call, Line, called}
use Rattle.wa_model.specs.Plan.{Outcome, OutcomeFits, PokeFits}
use Rattle.wa_model.specs.Blocking.{Note, no_store, note}
use Rattle.world_model.specs.World.{Device, Meets as UnboxedMeets, MeetsBound as UnboxedBound, Program, base_names, behind_turn, call_in, name_at, put_off, turn_of}
use Rattle.world_laws.specs.Originals.{new_calls, one_if}
use Rattle.world_laws.proofs.Meeting.{AnswersFit, Takes, calls_take}
use Rattle.world_laws.proofs.Places.{all_at, set_here, set_there}
use Rattle.world_laws.proofs.Shows.{turn_calls}
use Rattle.mail_laws.specs.Mailboxes.{CallsMeet, Mailbox, Meets, MeetsBound, MeetsBox, MeetsNamed, MeetsValues, Midst, NoteMeets, Shared, is_box}
use Rattle.mail_laws.specs.MailWorld.{Actor, Events, HasEnded, IsOver, Plays, a_stall, a_turn, an_event, begun_event, no_event, nobody, parked_at, parks, store_behind, wake, woken}
use Rattle.mail_laws.proofs.CallsTold.{mod_small}

-- ---- one call

values_fit : (import : ℕ) (name : List ℕ) (vs : List ℕ) (z : Midst) (o : Outcome) (z' : Midst) → MeetsValues import name vs z o z' → OutcomeFits o
values_fit import name [] z o z' h = subst OutcomeFits (sym h.2) (record { said = h.1; pokes = All-nil PokeFits; ticks = omega arith })
values_fit import name (v ∷ vs) z o z' h = subst OutcomeFits (sym h.0) (record { said = mod_small v; pokes = All-nil PokeFits; ticks = omega arith })

pub box_fits : (import : ℕ) (name : List ℕ) (args : List Value) (b : Mailbox) (z : Midst) (o : Outcome) (z' : Midst) → MeetsBox import name args b z o z' → OutcomeFits o
box_fits import name [] b z o z' h = values_fit import name b.values z o z' h
box_fits import name (V.I32 v ∷ []) b z o z' h = subst OutcomeFits (sym h.1) (record { said = tt; pokes = All-nil PokeFits; ticks = omega arith })
box_fits import name (V.I32 v ∷ y ∷ ys) b z o z' h = subst OutcomeFits (sym h.0) tt
box_fits import name (V.I64 v ∷ ys) b z o z' h = subst OutcomeFits (sym h.0) tt

pub unboxed_fits : (w : Program) (import : ℕ) (args : List Value) (lines : List AnswerLine) (ds : List Device) (o : Outcome) (lines' : List AnswerLine) (ds' : List Device)
    → UnboxedMeets w import args lines ds o lines' ds' → AnswersFit lines → OutcomeFits o × AnswersFit lines'
unboxed_fits w import args lines ds o lines' ds' h fit =
    let x : Note = note (called (record { import = import; args = args })) no_store in
    let t = calls_take w (x ∷ []) (o ∷ []) lines ds [] lines' ds' (o, [], lines', ds', refl, h, (refl, refl, refl)) in
    let f = t.3 fit in
    let used : t.0 ≡ o ∷ [] = sym (append-nil t.0) ∙ sym t.1 in
    (All-head OutcomeFits o [] (subst (All OutcomeFits) used f.0), f.1)

meets_fit : (w : Program) (import : ℕ) (args : List Value) (lines : List AnswerLine) (z : Midst) (o : Outcome) (lines' : List AnswerLine) (z' : Midst)
    → Meets w import args lines z o lines' z' → AnswersFit lines → OutcomeFits o × AnswersFit lines'
meets_fit w import args lines z o lines' z' h fit = by_bound (unwrap_or (slice_get w.binds import) None) refl h
  where
    by_found : (name : List ℕ) → unwrap_or (slice_get w.binds import) None ≡ Some name → lines' ≡ lines → (found : Option Mailbox)
        → MeetsNamed import (name_at (base_names w.source) import) name args found z o z' → OutcomeFits o × AnswersFit lines'
    by_found name e same None g =
        unboxed_fits w import args lines z.devices o lines' g.0
        (subst (λ (b : Option (List ℕ)). UnboxedBound w.source import args b lines z.devices o lines' g.0) (sym e) (g.1, same)) fit
    by_found name e same (Some b) g = (box_fits import name args b z o z' g, subst AnswersFit (sym same) fit)

    by_bound : (b : Option (List ℕ)) → unwrap_or (slice_get w.binds import) None ≡ b → MeetsBound w.source import args b lines z o lines' z' → OutcomeFits o × AnswersFit lines'
    by_bound None e g =
        unboxed_fits w import args lines [] o lines' []
        (subst (λ (b : Option (List ℕ)). UnboxedBound w.source import args b lines [] o lines' []) (sym e) (g.0, refl)) fit
    by_bound (Some name) e g = by_found name e g.1 (find (is_box name) z.boxes) g.0

-- ---- the calls of a turn

takes_on : (i j n : ℕ) (os mid rest : List Outcome) (lines between left : List AnswerLine) → n ≡ i + j → Takes lines i os mid between → Takes between j mid rest left → Takes lines n os rest left
takes_on i j n os mid rest lines between left e a b = (
  a.0 ++ b.0,
  a.1 ∙ ap (λ (xs : List Outcome). a.0 ++ xs) b.1 ∙ sym (append_assoc a.0 b.0 rest),
  omega (arith, e, length-append a.0 b.0, a.2, b.2),
  λ fit. let f = a.3 fit in let g = b.3 f.1 in (All-append OutcomeFits a.0 b.0 f.0 g.0, g.1),
)

pub turn_takes : (w : Program) (xs : List Note) (os : List Outcome) (lines : List AnswerLine) (z : Midst) (os' : List Outcome) (lines' : List AnswerLine) (z' : Midst)
    → CallsMeet w xs os lines z os' lines' z' → Takes lines (new_calls xs) os os' lines'
turn_takes w [] os lines z os' lines' z' h = ([], sym h.0, refl, λ fit. (All-nil OutcomeFits, subst AnswersFit (sym h.1) fit))
turn_takes w (x ∷ xs) os lines z os' lines' z' h = by_call (λ os lines z h. turn_takes w xs os lines z os' lines' z' h) (call_in x.event) h
  where
    by_call : ((os : List Outcome) (lines : List AnswerLine) (z : Midst) → CallsMeet w xs os lines z os' lines' z' → Takes lines (new_calls xs) os os' lines')
        → (c : Option Call) → NoteMeets w c os lines z (λ o l d. CallsMeet w xs o l d os' lines' z') → Takes lines (one_if c + new_calls xs) os os' lines'
    by_call on None h =
        let e : new_calls xs ≡ 0 + new_calls xs = omega arith in
        subst (λ (n : ℕ). Takes lines n os os' lines') e (on os lines z h)
    by_call on (Some call) h =
        let one : Takes lines 1 os h.1 h.2 =
        (h.0 ∷ [], h.4, refl, λ fit. let f = meets_fit w call.import call.args lines z h.0 h.2 h.3 h.5 fit in (All-cons OutcomeFits h.0 [] f.0 (All-nil OutcomeFits), f.1)) in
        takes_on 1 (new_calls xs) (1 + new_calls xs) os h.1 os' lines h.2 lines' refl one (on h.1 h.2 h.3 h.6)

-- ---- all calls of all programs

abbrev pub Met : Actor → Type 0
Met a = (rest : List Outcome) × (left : List AnswerLine) × Takes a.answers (new_calls a.notes) a.outcomes rest left

abbrev pub EachMet : List Actor → Type 0
EachMet acts = (i : ℕ) (a : Actor) → slice_get acts i ≡ Some a → Met a

-- who is woken has the story that it had
wake_at : (due : ℕ) (is : List ℕ) (actors : List Actor) (j : ℕ) (a : Actor) → slice_get actors j ≡ Some a
    → (b : Actor) × (slice_get (wake due is actors) j ≡ Some b) × ((b ≡ a) ⊎ (b ≡ woken due a))
wake_at due [] actors j a e = (a, e, inl refl)
wake_at due (i ∷ is) actors j a e = by (cases_eq j i) (λ acts c f. wake_at due is acts j c f)
  where
    by : (j ≡ i) ⊎ (j ≡ i → ⊥) → ((acts : List Actor) (c : Actor) → slice_get acts j ≡ Some c → (b : Actor) × (slice_get (wake due is acts) j ≡ Some b) × ((b ≡ c) ⊎ (b ≡ woken due c)))
        → (b : Actor) × (slice_get (wake due is (slice_set actors i (woken due (unwrap_or (slice_get actors i) nobody)))) j ≡ Some b) × ((b ≡ a) ⊎ (b ≡ woken due a))
    by (inl same) on =
        let there : slice_get actors i ≡ Some a = ap (slice_get actors) (sym same) ∙ e in
        let now : slice_get (slice_set actors i (woken due (unwrap_or (slice_get actors i) nobody))) j ≡ Some (woken due a) =
        ap (slice_get (slice_set actors i (woken due (unwrap_or (slice_get actors i) nobody)))) same
        ∙ set_here actors i (woken due (unwrap_or (slice_get actors i) nobody)) a there
        ∙ ap (λ (o : Option Actor). Some (woken due (unwrap_or o nobody))) there in
        let r = on (slice_set actors i (woken due (unwrap_or (slice_get actors i) nobody))) (woken due a) now in
        (r.0, r.1, inr (either r.0 r.2))
      where
        either : (b : Actor) → (b ≡ woken due a) ⊎ (b ≡ woken due (woken due a)) → b ≡ woken due a
        either b (inl h) = h
        either b (inr h) = h
    by (inr other) on =
        on (slice_set actors i (woken due (unwrap_or (slice_get actors i) nobody))) a (set_there actors i j (woken due (unwrap_or (slice_get actors i) nobody)) other ∙ e)

woken_met : (due : ℕ) (is : List ℕ) (actors : List Actor) → EachMet (wake due is actors) → EachMet actors
woken_met due is actors each j a e =
    let r = wake_at due is actors j a e in by r.0 (each j r.0 r.1) r.2
  where
    by : (b : Actor) → Met b → (b ≡ a) ⊎ (b ≡ woken due a) → Met a
    by b m (inl h) = subst Met h m
    by b m (inr h) = subst Met h m

set_met : (acts : List Actor) (i : ℕ) (a b : Actor) → slice_get acts i ≡ Some a → (Met b → Met a) → EachMet (slice_set acts i b) → EachMet acts
set_met acts i a b there back each j c e = by (cases_eq j i)
  where
    by : (j ≡ i) ⊎ (j ≡ i → ⊥) → Met c
    by (inl same) =
        let is : a ≡ c = same_Some a c (sym there ∙ ap (slice_get acts) (sym same) ∙ e) in
        subst Met is (back (each i b (set_here acts i b a there)))
    by (inr other) = each j c (set_there acts i j b other ∙ e)

over_met : (acts : List Actor) → IsOver acts → EachMet acts
over_met acts over i a e =
    let h = all_at HasEnded acts i a over e in
    (a.outcomes, a.answers, ([], refl, sym (ap new_calls h.no_notes), λ fit. (All-nil OutcomeFits, fit)))

-- Where a world's run is over, each program's calls have met outcomes in range.
pub events_met : (programs : List Program) (detaches : List Detach) (number : ℕ) (acts : List Actor) (sh : Shared) (lines : List Line) (last : List Actor) (end : Shared)
    → Events programs detaches number acts sh lines last end → IsOver last → EachMet acts
events_met programs detaches number acts sh lines last end no_event over = over_met acts over
events_met programs detaches number acts sh lines last end (an_event {actors' = next} {sh' = z} {lines = first} {more = more} play rest e) over =
    before next z first play (events_met programs detaches (suc number) next z more last end rest over)
  where
    before : (next : List Actor) (z : Shared) (first : List Line) → Plays programs detaches number acts sh first next z → EachMet next → EachMet acts
    before next z first (a_turn t) each =
        let b : Actor = record {
          due = t.a.due + put_off (turn_of t.a.notes);
          notes = behind_turn t.a.notes;
          outcomes = t.outcomes;
          answers = t.answers;
          parked = parked_at (store_behind (turn_of t.a.notes)) (parks (turn_of t.a.notes) t.behind.receive);
        } in
        let turn = turn_takes t.w (turn_of t.a.notes) t.a.outcomes t.a.answers (begun_event number detaches sh) t.outcomes t.answers t.behind t.calls in
        set_met acts t.i t.a b t.next.there
        (λ on. (
          on.0,
          on.1,
          takes_on (new_calls (turn_of t.a.notes)) (new_calls (behind_turn t.a.notes)) (new_calls t.a.notes) t.a.outcomes t.outcomes on.0 t.a.answers t.answers on.1 (turn_calls t.a.notes) turn on.2,
        ))
        (woken_met (suc t.a.due) t.behind.settled (slice_set acts t.i b) (subst EachMet t.after each))
    before next z first (a_stall s) each = set_met acts s.i s.a (record s.a { parked = None }) s.there (λ m. m) (subst EachMet s.after each)
