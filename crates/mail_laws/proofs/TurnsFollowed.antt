-- A turn of a world is one that its program tells, whatever the others are promised.
use Rattle.std.proofs.Common.{arith, ◌≡◌, ◌<◌, ◌≤◌, ◌-◌, ◌^◌, ◌⊎◌, inl, inr, ℕ, zero, suc, List, [], ◌∷◌, ◌++◌, map, Option, Some, None, Bool, true, false, if◌then◌else◌, refl, sym, ap, ◌∙◌, subst}
use Rattle.std.proofs.Common.{append_assoc, append-nil}
use Rattle.std.specs.Prelude.{nat_lt}
use Rattle.std.specs.Option.{option_map}
use Rattle.wa_types.specs.declared.values.Value.TheVariants as V
use Rattle.wa_model.specs.Machine.{Turn, stops, goes}
use Rattle.wa_model.specs.declared.events.End.TheVariants.{StepsSpent}
use Rattle.wa_model.specs.Outside.{Call, AnswerLine, Event, called, answered, paused, parked, returned, ended, shown}
use Rattle.wa_model.specs.Plan.{Outcome, given, refused}
use Rattle.wa_model.specs.declared.events.End.{End}
use Rattle.wa_model.specs.Blocking.{Note, note}
use Rattle.wa_model.specs.Protocol.{Exports, exports_of, Held, over, protocol, held_asked, store_held}
use Rattle.run_theory.proofs.Runs.{turned}
use Rattle.world_model.specs.World.{Program, call_in, ends_turn, is_end, turn_of, behind_turn, unless_over, protocol_story}
use Rattle.host_laws.specs.Stretch.{meeting as with_more}
use Rattle.mail_laws.specs.Mailboxes.{Midst, CallsMeet, NoteMeets, Meets, mailed}
use Rattle.mail_laws.specs.MailWorld.{is_pause, pauses}
use Rattle.mail_laws.specs.Told.{Await, Amid, Teller, promised, receive_of, number_of, midst_by, pending, KeepsPromises, ends_program, Unended}
use Rattle.mail_laws.specs.Stalling.{stalls, is_stalled}
use Rattle.mail_laws.proofs.OpenMoves.{IsTame, Tame, NotOver, Plain, Leaves, on_it_goes, it_pauses, it_ends, Fine, CallFine, spent_is, Asks, Kind, kind, asked_with}
use Rattle.mail_laws.proofs.Tales.{tale_stops, tale_dear, tale_goes, tale_over, unwound, Unread, then_ends, then_pauses, unread, Receives, r_stops, r_ends, r_unwinds, receives}
use Rattle.mail_laws.proofs.CallsTold.{Awaits, Mirrors, is_chosen, is_awaited, mirror}
use Rattle.mail_laws.specs.Replays.{wrong_in}
use Rattle.mail_laws.proofs.KnownCalls.{CallFree}
use Rattle.mail_laws.proofs.TurnsTold.{pause_calm, unended_on, plain_unended, free_last, plain_free, end_ends, pause_ends, call_goes_on, last_tells, still_tells, Behind, is_over, is_parked}
use Rattle.mail_laws.proofs.TurnsTold.{Turned, ends_for_any, Sofar, Story, end_turn, pause_turn, with_plain, with_call, receive_turn}

-- ---- notes to come, which may be cut at a pause

abbrev pub Cut : List Note → List Note → Type 0
Cut ms rest = (rest ≡ []) ⊎ (pauses ms ≡ true)

pub note_head : (x y : Note) (xs ys : List Note) → x ∷ xs ≡ y ∷ ys → x ≡ y
note_head x y xs ys e = cc

pub note_tail : (x y : Note) (xs ys : List Note) → x ∷ xs ≡ y ∷ ys → xs ≡ ys
note_tail x y xs ys e = cc

pub no_notes : (x : Note) (xs : List Note) → [] ≡ x ∷ xs → ⊥
no_notes x xs e = cc

pub not_both : false ≡ true → ⊥
not_both e = cc

pauses_tail : (x : Note) (xs : List Note) → is_pause x.event ≡ false → pauses (x ∷ xs) ≡ true → pauses xs ≡ true
pauses_tail x [] no_pause e = absurd (not_both (sym no_pause ∙ e))
pauses_tail x (y ∷ ys) no_pause e = e

goes_no_pause : (e : Event) → ends_turn e ≡ false → is_pause e ≡ false
goes_no_pause (paused t u) h = absurd cc
goes_no_pause (ended how) h = absurd cc
goes_no_pause (called c) h = refl
goes_no_pause (answered c) h = refl
goes_no_pause (parked u) h = refl
goes_no_pause (returned i v) h = refl
goes_no_pause (shown i v) h = refl

end_pauses_not : (e : Event) → is_end e ≡ true → is_pause e ≡ false
end_pauses_not (paused t u) h = absurd cc
end_pauses_not (ended how) h = refl
end_pauses_not (called c) h = absurd cc
end_pauses_not (answered c) h = absurd cc
end_pauses_not (parked u) h = absurd cc
end_pauses_not (returned i v) h = absurd cc
end_pauses_not (shown i v) h = absurd cc

-- a note comes first
record First (ms rest : List Note) (x : Note) (ys : List Note) : Type 0 where
  pub more : List Note
  pub is : ms ≡ x ∷ more
  pub behind : more ++ rest ≡ ys

first_note : (ms rest : List Note) (x : Note) (ys : List Note) → ms ++ rest ≡ x ∷ ys → Cut ms rest → First ms rest x ys
first_note [] rest x ys e (inl none) = absurd (no_notes x ys (sym none ∙ e))
first_note [] rest x ys e (inr p) = absurd (not_both p)
first_note (m ∷ ms) rest x ys e cut = record { more = ms; is = ap (λ (y : Note). y ∷ ms) (note_head m x (ms ++ rest) ys e); behind = note_tail m x (ms ++ rest) ys e }

cut_behind : (ms rest : List Note) (x : Note) (more : List Note) → ms ≡ x ∷ more → is_pause x.event ≡ false → Cut ms rest → Cut more rest
cut_behind ms rest x more e no_pause (inl none) = inl none
cut_behind ms rest x more e no_pause (inr p) = inr (pauses_tail x more no_pause (sym (ap pauses e) ∙ p))

-- plain notes come first
record Split (ms rest es ys : List Note) : Type 0 where
  pub more : List Note
  pub is : ms ≡ es ++ more
  pub behind : more ++ rest ≡ ys
  pub cut : Cut more rest

split_plain : (es ms rest ys : List Note) → ms ++ rest ≡ es ++ ys → Unended es → Cut ms rest → Split ms rest es ys
split_plain [] ms rest ys e pl cut = record { more = ms; is = refl; behind = e; cut = cut }
split_plain (x ∷ es) ms rest ys e pl cut =
    let f = first_note ms rest x (es ++ ys) e cut in
    let on = split_plain es f.more rest ys f.behind pl.1 (cut_behind ms rest x f.more f.is (goes_no_pause x.event pl.0) cut) in
    record { more = on.more; is = f.is ∙ ap (λ (l : List Note). x ∷ l) on.is; behind = on.behind; cut = on.cut }

-- and an end
split_end : (xs ms rest : List Note) (x : Note) → ms ++ rest ≡ xs ++ x ∷ [] → Unended xs → is_end x.event ≡ true → Cut ms rest → ms ≡ xs ++ x ∷ []
split_end xs ms rest x e pl ie cut = by (split_plain xs ms rest (x ∷ []) e pl cut)
  where
    by : Split ms rest xs (x ∷ []) → ms ≡ xs ++ x ∷ []
    by s = at (first_note s.more rest x [] s.behind s.cut)
      where
        none : (ys : List Note) → ys ++ rest ≡ [] → ys ≡ []
        none [] q = refl
        none (y ∷ ys) q = absurd (no_notes y (ys ++ rest) (sym q))

        at : First s.more rest x [] → ms ≡ xs ++ x ∷ []
        at f = s.is ∙ ap (λ (l : List Note). xs ++ l) (f.is ∙ ap (λ (l : List Note). x ∷ l) (none f.more f.behind))

turn_past : (es more : List Note) → Unended es → turn_of (es ++ more) ≡ es ++ turn_of more
turn_past [] more h = refl
turn_past (x ∷ es) more h = ap (λ (b : Bool). if b then x ∷ [] else x ∷ turn_of (es ++ more)) h.0 ∙ ap (λ (l : List Note). x ∷ l) (turn_past es more h.1)

behind_past : (es more : List Note) → Unended es → behind_turn (es ++ more) ≡ behind_turn more
behind_past [] more h = refl
behind_past (x ∷ es) more h = ap (λ (b : Bool). if b then es ++ more else behind_turn (es ++ more)) h.0 ∙ behind_past es more h.1

turn_ends : (x : Note) (more : List Note) → ends_turn x.event ≡ true → turn_of (x ∷ more) ≡ x ∷ []
turn_ends x more h = ap (λ (b : Bool). if b then x ∷ [] else x ∷ turn_of more) h

behind_ends : (x : Note) (more : List Note) → ends_turn x.event ≡ true → behind_turn (x ∷ more) ≡ more
behind_ends x more h = ap (λ (b : Bool). if b then more else behind_turn more) h

turn_call : (y : Note) (more : List Note) → ends_turn y.event ≡ false → turn_of (y ∷ more) ≡ y ∷ turn_of more
turn_call y more h = ap (λ (b : Bool). if b then y ∷ [] else y ∷ turn_of more) h

behind_call : (y : Note) (more : List Note) → ends_turn y.event ≡ false → behind_turn (y ∷ more) ≡ behind_turn more
behind_call y more h = ap (λ (b : Bool). if b then more else behind_turn more) h

-- what notes without a call leave
free_same : (w : Program) (es : List Note) (us : List Outcome) (lines : List AnswerLine) (z : Midst) (us' : List Outcome) (lines' : List AnswerLine) (z' : Midst) → CallFree es
    → CallsMeet w es us lines z us' lines' z' → (us' ≡ us) × (lines' ≡ lines) × (z' ≡ z)
free_same w [] us lines z us' lines' z' free h = h
free_same w (e ∷ es) us lines z us' lines' z' free h =
    free_same w es us lines z us' lines' z' free.1 (subst (λ (c : Option Call). NoteMeets w c us lines z (λ o l y. CallsMeet w es o l y us' lines' z')) free.0 h)

pub free_past : (w : Program) (es more : List Note) (us : List Outcome) (lines : List AnswerLine) (z : Midst) (us' : List Outcome) (lines' : List AnswerLine) (z' : Midst) → CallFree es
    → CallsMeet w (es ++ more) us lines z us' lines' z' → CallsMeet w more us lines z us' lines' z'
free_past w [] more us lines z us' lines' z' free h = h
free_past w (e ∷ es) more us lines z us' lines' z' free h =
    free_past w es more us lines z us' lines' z' free.1 (subst (λ (c : Option Call). NoteMeets w c us lines z (λ o l y. CallsMeet w (es ++ more) o l y us' lines' z')) free.0 h)

pub outcome_head : (x y : Outcome) (xs ys : List Outcome) → x ∷ xs ≡ y ∷ ys → x ≡ y
outcome_head x y xs ys e = cc

pub outcome_tail : (x y : Outcome) (xs ys : List Outcome) → x ∷ xs ≡ y ∷ ys → xs ≡ ys
outcome_tail x y xs ys e = cc

pub no_outcome : (x : Outcome) (xs : List Outcome) → [] ≡ x ∷ xs → ⊥
no_outcome x xs e = cc

-- ---- following a turn

module _ (w : Program) (i : ℕ) (t : Teller) (tellers : List Teller) (begin : Amid) (limit : ℕ) (will : ℕ → ℕ) (outs : List Outcome) (left : List AnswerLine) (zb : Midst) where
  -- a turn that is told is this one of the world
  pub record Followed (part : List Note) (os : List Outcome) (ms : List Note) (us : List Outcome) : Type 0 where
    pub tu : Turned w i t tellers begin limit
    pub turn_is : tu.turn ≡ part ++ turn_of ms
    pub value : ℕ
    pub small : value < 2 ^ 32
    pub met_is : os ++ us ≡ tu.met ++ pending value tu.behind.receive ++ outs
    pub answers_is : tu.answers ≡ left
    pub behind_is : zb ≡ record { devices = tu.behind.devices; boxes = map (promised will) tu.behind.boxes; settled = map number_of tu.behind.settled; receive = option_map (receive_of value) tu.behind.receive }
    pub keeps : KeepsPromises will tu.behind.settled
    pub over_is : ends_program tu.turn ≡ true → behind_turn ms ≡ []

  abbrev pub Now : List Note → List Outcome → List AnswerLine → Amid → Type 0
  Now part os lines m = Sofar w i t tellers begin limit part os lines m

  abbrev pub Tells_so : List Note → List Outcome → (List Outcome → List Note) → Type 0
  Tells_so part os f = Story w i t tellers begin limit part os f

  abbrev pub Here : List Note → List Outcome → List AnswerLine → Amid → Type 0
  Here ms us lines m = CallsMeet w (turn_of ms) us lines (midst_by will i m) outs left zb

  none_now : (m : Amid) (z : Midst) → m.receive ≡ None → z ≡ midst_by will i m
      → z ≡ record { devices = m.devices; boxes = map (promised will) m.boxes; settled = map number_of m.settled; receive = option_map (receive_of 0) m.receive }
  none_now m z none e =
      e ∙ (λ k. record {
        devices = m.devices;
        boxes = map (promised will) m.boxes;
        settled = map number_of m.settled;
        receive = (ap (option_map (receive_of (will i))) none ∙ sym (ap (option_map (receive_of 0)) none)) k;
      })

  none_met : (os us : List Outcome) (m : Amid) → m.receive ≡ None → outs ≡ us → os ++ us ≡ os ++ pending 0 m.receive ++ outs
  none_met os us m none e =
      ap (λ (l : List Outcome). os ++ l) (sym e) ∙ ap (λ (l : List Outcome). l ++ outs) (sym (append-nil os)) ∙ ap (λ (r : Option Await). os ++ pending 0 r ++ outs) (sym none)

  pub f_end : (part : List Note) (os : List Outcome) (lines : List AnswerLine) (m : Amid) → Now part os lines m → KeepsPromises will m.settled → (xs : List Note) (x : Note) → Plain xs → IsTame x.event
      → (us : List Outcome) → protocol_story w (t.met ++ (os ++ us)) ≡ t.told ++ (part ++ (xs ++ x ∷ [])) → (ms rest : List Note) → ms ++ rest ≡ xs ++ x ∷ [] → Cut ms rest → Here ms us lines m
      → Followed part os ms us
  f_end part os lines m so keeps xs x pl e us story ms rest is cut here =
      let ends = end_ends x.event e.0 in
      let all : ms ≡ xs ++ x ∷ [] = split_end xs ms rest x is (plain_unended xs pl) e.0 cut in
      let turn : turn_of ms ≡ xs ++ x ∷ [] = ap turn_of all ∙ turn_past xs (x ∷ []) (plain_unended xs pl) ∙ ap (λ (l : List Note). xs ++ l) (turn_ends x [] ends.0) in
      let same = free_same w (xs ++ x ∷ []) us lines (midst_by will i m) outs left zb (free_last xs x pl ends.1) (subst (λ (l : List Note). CallsMeet w l us lines (midst_by will i m) outs left zb) turn here) in
      record {
        tu = end_turn w i t tellers begin limit part os lines m so xs x pl e us story;
        turn_is = ap (λ (l : List Note). part ++ l) (sym turn);
        value = 0;
        small = omega arith;
        met_is = none_met os us m so.none same.0;
        answers_is = sym same.1;
        behind_is = none_now m zb so.none same.2;
        keeps = keeps;
        over_is = λ o. ap behind_turn all ∙ behind_past xs (x ∷ []) (plain_unended xs pl) ∙ behind_ends x [] ends.0;
      }

  f_pause : (part : List Note) (os : List Outcome) (lines : List AnswerLine) (m : Amid) → (so : Now part os lines m) → KeepsPromises will m.settled → (x : Note) → is_pause x.event ≡ true
      → (size n : ℕ) (u : Held) → NotOver u → size < limit → Tells_so part os (λ (more : List Outcome). x ∷ still_tells w size n (with_more more u)) → (us : List Outcome)
      → (ms more : List Note) → ms ≡ x ∷ more → Here ms us lines m → Followed part os ms us
  f_pause part os lines m so keeps x e size n u no_u lt story us ms more is here =
      let ends = pause_ends x.event e in
      let turn : turn_of ms ≡ x ∷ [] = ap turn_of is ∙ turn_ends x more ends.0 in
      let same = free_same w (x ∷ []) us lines (midst_by will i m) outs left zb (ends.1, tt) (subst (λ (l : List Note). CallsMeet w l us lines (midst_by will i m) outs left zb) turn here) in
      record {
        tu = pause_turn w i t tellers begin limit part os lines m so x e size n u no_u lt story;
        turn_is = ap (λ (l : List Note). part ++ l) (sym turn);
        value = 0;
        small = omega arith;
        met_is = none_met os us m so.none same.0;
        answers_is = sym same.1;
        behind_is = none_now m zb so.none same.2;
        keeps = keeps;
        over_is = λ o. absurd (not_both (sym (last_tells part x so.plain ∙ ends.2) ∙ o));
      }

  -- behind plain notes
  f_behind : (part es : List Note) (os : List Outcome) (ms more : List Note) (us : List Outcome) → Unended es → ms ≡ es ++ more → Followed (part ++ es) os more us → Followed part os ms us
  f_behind part es os ms more us pl is f = record {
    tu = f.tu;
    turn_is = f.turn_is ∙ append_assoc part es (turn_of more) ∙ ap (λ (l : List Note). part ++ l) (sym (ap turn_of is ∙ turn_past es more pl));
    value = f.value;
    small = f.small;
    met_is = f.met_is;
    answers_is = f.answers_is;
    behind_is = f.behind_is;
    keeps = f.keeps;
    over_is = λ o. ap behind_turn is ∙ behind_past es more pl ∙ f.over_is o;
  }

  -- behind a call
  f_call : (part : List Note) (y : Note) (os : List Outcome) (o : Outcome) (ms more : List Note) (us us' : List Outcome) → ends_turn y.event ≡ false → ms ≡ y ∷ more → us ≡ o ∷ us'
      → Followed (part ++ y ∷ []) (os ++ o ∷ []) more us' → Followed part os ms us
  f_call part y os o ms more us us' goes_on is eu f = record {
    tu = f.tu;
    turn_is = f.turn_is ∙ append_assoc part (y ∷ []) (turn_of more) ∙ ap (λ (l : List Note). part ++ l) (sym (ap turn_of is ∙ turn_call y more goes_on));
    value = f.value;
    small = f.small;
    met_is = ap (λ (l : List Outcome). os ++ l) eu ∙ sym (append_assoc os (o ∷ []) us') ∙ f.met_is;
    answers_is = f.answers_is;
    behind_is = f.behind_is;
    keeps = f.keeps;
    over_is = λ e. ap behind_turn is ∙ behind_call y more goes_on ∙ f.over_is e;
  }

  abbrev p : Rattle.wa_types.specs.Syntax.Module
  p = w.source

  abbrev ex : Exports
  ex = exports_of w.source

  abbrev pub On : ℕ → Type 0
  On count = (n : ℕ) (u : Held) → NotOver u → (part : List Note) (os : List Outcome) (lines : List AnswerLine) (m : Amid) → Now part os lines m → KeepsPromises will m.settled → count ≤ limit
      → Tells_so part os (λ (more : List Outcome). still_tells w count n (with_more more u)) → (us : List Outcome) (ms rest : List Note) → ms ++ rest ≡ still_tells w count n (with_more us u) → Cut ms rest
      → Here ms us lines m → Followed part os ms us

  f_move : (count n : ℕ) → suc count ≤ limit → On count → (part : List Note) (os : List Outcome) (lines : List AnswerLine) (m : Amid) → Now part os lines m → KeepsPromises will m.settled
      → (es : List Note) (u : Held) → Leaves es u → Tells_so part os (λ (more : List Outcome). es ++ still_tells w count n (with_more more u))
      → (us : List Outcome) (ms rest : List Note) → ms ++ rest ≡ es ++ still_tells w count n (with_more us u) → Cut ms rest → Here ms us lines m → Followed part os ms us
  f_move count n le on part os lines m so keeps es u (on_it_goes pl no_u) st us ms rest is cut here =
      let s = split_plain es ms rest (still_tells w count n (with_more us u)) is (plain_unended es pl) cut in
      f_behind part es os ms s.more us (plain_unended es pl) s.is
      (on n u no_u (part ++ es) os lines m (with_plain w i t tellers begin limit part os lines m so es pl) keeps (omega (arith, le))
      (λ more. st more ∙ ap (λ (l : List Note). t.told ++ l) (sym (append_assoc part es (still_tells w count n (with_more more u)))))
      us s.more rest s.behind s.cut
      (free_past w es (turn_of s.more) us lines (midst_by will i m) outs left zb (plain_free es pl)
      (subst (λ (l : List Note). CallsMeet w l us lines (midst_by will i m) outs left zb) (ap turn_of s.is ∙ turn_past es s.more (plain_unended es pl)) here)))
  f_move count n le on part os lines m so keeps es u (it_pauses x e isp no_u) st us ms rest is cut here =
      let f = first_note ms rest x (still_tells w count n (with_more us u)) (is ∙ ap (λ (l : List Note). l ++ still_tells w count n (with_more us u)) e) cut in
      f_pause part os lines m so keeps x isp count n u no_u (omega (arith, le))
      (λ more. st more ∙ ap (λ (l : List Note). t.told ++ (part ++ (l ++ still_tells w count n (with_more more u)))) e) us ms f.more f.is here
  f_move count n le on part os lines m so keeps es u (it_ends xs x s e pl ie eu) st us ms rest is cut here =
      let none : es ++ still_tells w count n (with_more us u) ≡ xs ++ x ∷ [] =
      ap (λ (l : List Note). es ++ l) (ap (λ (h : Held). still_tells w count n (with_more us h)) eu ∙ tale_over p ex w.plan w.steps count n s) ∙ append-nil es ∙ e in
      f_end part os lines m so keeps xs x pl ie us (st us ∙ ap (λ (l : List Note). t.told ++ (part ++ l)) none) ms rest (is ∙ none) cut here

  f_spent : (part : List Note) (os : List Outcome) (lines : List AnswerLine) (m : Amid) → Now part os lines m → KeepsPromises will m.settled → (h : Held) → NotOver h → (us : List Outcome) (l : List Note)
      → protocol_story w (t.met ++ (os ++ us)) ≡ t.told ++ (part ++ l) → l ≡ unless_over w.steps (with_more us h) → (ms rest : List Note) → ms ++ rest ≡ l → Cut ms rest → Here ms us lines m
      → Followed part os ms us
  f_spent part os lines m so keeps h no_h us l st is ms rest e cut here =
      let one = is ∙ spent_is w.steps us h no_h in
      f_end part os lines m so keeps [] (note (ended (StepsSpent w.steps)) (store_held h)) tt (refl, refl) us (st ∙ ap (λ (k : List Note). t.told ++ (part ++ k)) one) ms rest (e ∙ one) cut here

  module _ (count n : ℕ) (h : Held) (no_h : NotOver h) (part : List Note) (os : List Outcome) (lines : List AnswerLine) (m : Amid) (so : Now part os lines m) (keeps : KeepsPromises will m.settled)
      (le : suc count ≤ limit) (st : Tells_so part os (λ (more : List Outcome). still_tells w (suc count) n (with_more more h))) (us : List Outcome) (ms rest : List Note)
      (is : ms ++ rest ≡ still_tells w (suc count) n (with_more us h)) (cut : Cut ms rest) (here : Here ms us lines m) (on : On count) where
    spent_by : still_tells w (suc count) n (with_more us h) ≡ unless_over w.steps (with_more us h) → Followed part os ms us
    spent_by e = f_spent part os lines m so keeps h no_h us (still_tells w (suc count) n (with_more us h)) (st us) e ms rest is cut here

    f_goes : (o : Turn Held Note) → Fine o → ((more : List Outcome) → protocol p ex w.plan (with_more more h) ≡ turned (with_more more) o) → Followed part os ms us
    f_goes stops fine same = spent_by (tale_stops p ex w.plan w.steps count n (with_more us h) (same us))
    f_goes (goes k es u) fine same = by_cost (nat_lt k n) refl
      where
        by_cost : (b : Bool) → nat_lt k n ≡ b → Followed part os ms us
        by_cost true paid =
            f_move count (n - suc k) le on part os lines m so keeps es u fine
            (λ more. st more ∙ ap (λ (l : List Note). t.told ++ (part ++ l)) (tale_goes p ex w.plan w.steps count n (with_more more h) k es (with_more more u) (same more) paid))
            us ms rest (is ∙ tale_goes p ex w.plan w.steps count n (with_more us h) k es (with_more us u) (same us) paid) cut here
        by_cost false dear = spent_by (tale_dear p ex w.plan w.steps count n (with_more us h) k es (with_more us u) (same us) dear)

    module _ (a : Asks p ex w.plan (λ (more : List Outcome). protocol p ex w.plan (with_more more h))) where
      abbrev call : Call
      call = record { import = a.import; args = a.args }

      -- the call is the first of the notes to come, and met an outcome
      abbrev Met : Note → List Note → Type 0
      Met y more =
          (o : Outcome) × (us' : List Outcome) × (lines' : List AnswerLine) × (z' : Midst)
          × (us ≡ o ∷ us') × Meets w a.import a.args lines (midst_by will i m) o lines' z' × CallsMeet w (turn_of more) us' lines' z' outs left zb

      met_by : (y : Note) (more : List Note) → y.event ≡ called call → ms ≡ y ∷ more → Met y more
      met_by y more called_y e =
          let goes_on = call_goes_on y.event call called_y in
          subst (λ (c : Option Call). NoteMeets w c us lines (midst_by will i m) (λ o l q. CallsMeet w (turn_of more) o l q outs left zb)) goes_on.1
          (subst (λ (l : List Note). CallsMeet w l us lines (midst_by will i m) outs left zb) (ap turn_of e ∙ turn_call y more goes_on.0) here)

      -- no outcome was left for it
      f_none : us ≡ [] → Followed part os ms us
      f_none none = by_cost (nat_lt a.k n) refl
        where
          turn : protocol p ex w.plan (with_more us h) ≡ held_asked p ex w.plan a.k a.import a.args a.who a.l []
          turn = a.same us ∙ ap (λ (l : List Outcome). held_asked p ex w.plan a.k a.import a.args a.who a.l l) none

          by_cost : (b : Bool) → nat_lt a.k n ≡ b → Followed part os ms us
          by_cost false dear = spent_by (tale_dear p ex w.plan w.steps count n (with_more us h) a.k _ _ turn dear)
          by_cost true paid =
              let tells = tale_goes p ex w.plan w.steps count n (with_more us h) a.k _ _ turn paid in
              let f = first_note ms rest _ _ (is ∙ tells) cut in
              let met = met_by _ f.more refl f.is in
              absurd (no_outcome met.0 met.1 (sym none ∙ met.4))

      abbrev Awaiting : (value : ℕ) → Await → Midst
      Awaiting value r = record { devices = m.devices; boxes = map (promised will) m.boxes; settled = map number_of m.settled; receive = Some (receive_of value r) }

      module _ (aw : Awaits w i call lines m) (value : ℕ) (small : value < 2 ^ 32) (us' : List Outcome) (eu : us ≡ mailed (Some (V.I32 value)) 1 ∷ us')
          (later : (y : Note) (more : List Note) → y.event ≡ called call → ms ≡ y ∷ more → CallsMeet w (turn_of more) us' lines (Awaiting value aw.r) outs left zb) where
        abbrev answer : Outcome
        answer = mailed (Some (V.I32 value)) 1

        f_recv : (y z : Note) (more : List Note) → (called_y : y.event ≡ called call) → ends_turn z.event ≡ true → call_in z.event ≡ None → stalls z.event ≡ false → ms ≡ y ∷ z ∷ more
            → Behind w i t tellers begin limit ((part ++ y ∷ []) ++ z ∷ []) os (Some aw.r) → (ends_program ((part ++ y ∷ []) ++ z ∷ []) ≡ true → more ≡ []) → Followed part os ms us
        f_recv y z more called_y ends none calm all after over_more =
            let goes_on = call_goes_on y.event call called_y in
            let same = free_same w (z ∷ []) us' lines (Awaiting value aw.r) outs left zb (none, tt)
            (subst (λ (l : List Note). CallsMeet w l us' lines (Awaiting value aw.r) outs left zb) (turn_ends z more ends) (later y (z ∷ more) called_y all)) in
            record {
              tu = receive_turn w i t tellers begin limit part os lines m so y z call called_y aw ends none calm after;
              turn_is =
                  append_assoc part (y ∷ []) (z ∷ [])
                  ∙ ap (λ (l : List Note). part ++ l) (sym (ap turn_of all ∙ turn_call y (z ∷ more) goes_on.0 ∙ ap (λ (l : List Note). y ∷ l) (turn_ends z more ends)));
              value = value;
              small = small;
              met_is = ap (λ (l : List Outcome). os ++ l) eu ∙ sym (append_assoc os (answer ∷ []) us') ∙ ap (λ (l : List Outcome). (os ++ answer ∷ []) ++ l) (sym same.0);
              answers_is = sym same.1;
              behind_is = same.2;
              keeps = keeps;
              over_is = λ o. ap behind_turn all ∙ behind_call y (z ∷ more) goes_on.0 ∙ behind_ends z more ends ∙ over_more o;
            }

        f_last : (y z : Note) → y.event ≡ called call → IsTame z.event → still_tells w (suc count) n (with_more us h) ≡ y ∷ z ∷ []
            → ((v : ℕ) (more : List Outcome) → (other : Note) × (still_tells w (suc count) n (with_more (mailed (Some (V.I32 v)) 1 ∷ more) h) ≡ y ∷ other ∷ [])
            × (wrong_in other.event ≡ wrong_in z.event → other ≡ z)) → Followed part os ms us
        f_last y z called_y end_z tells others =
            let goes_on = call_goes_on y.event call called_y in
            let ends = end_ends z.event end_z.0 in
            let all : ms ≡ y ∷ z ∷ [] = split_end (y ∷ []) ms rest z (is ∙ tells) (goes_on.0, tt) end_z.0 cut in
            f_recv y z [] called_y ends.0 ends.1 end_z.1 all
            (is_over (last_tells (part ++ y ∷ []) z (unended_on part (y ∷ []) so.plain (goes_on.0, tt)) ∙ end_z.0) value small us'
            (ap (protocol_story w) (append_assoc (t.met ++ os) (answer ∷ []) us' ∙ append_assoc t.met os (answer ∷ us'))
            ∙ ap (λ (l : List Outcome). protocol_story w (t.met ++ (os ++ l))) (sym eu)
            ∙ st us
            ∙ ap (λ (l : List Note). t.told ++ (part ++ l)) tells
            ∙ ap (λ (l : List Note). t.told ++ l) (sym (append_assoc part (y ∷ []) (z ∷ []))))
            (ends_for_any w i t tellers begin limit part os (λ (more : List Outcome). still_tells w (suc count) n (with_more more h)) st y z aw.r others))
            (λ o. refl)

        f_received : Receives p ex w.plan w.steps value call (λ (v : ℕ) (more : List Outcome). held_asked p ex w.plan a.k a.import a.args a.who a.l (mailed (Some (V.I32 v)) 1 ∷ more)) → Followed part os ms us
        f_received (r_stops f) =
            spent_by (tale_stops p ex w.plan w.steps count n (with_more us h) (ap (λ (l : List Outcome). protocol p ex w.plan (with_more l h)) eu ∙ a.same (answer ∷ us') ∙ f us'))
        f_received (r_ends k y z s called_y end_z f too) = by_cost (nat_lt k n) refl
          where
            turn : protocol p ex w.plan (with_more us h) ≡ goes k (y ∷ z ∷ []) (over s)
            turn = ap (λ (l : List Outcome). protocol p ex w.plan (with_more l h)) eu ∙ a.same (answer ∷ us') ∙ f us'

            by_cost : (b : Bool) → nat_lt k n ≡ b → Followed part os ms us
            by_cost false dear = spent_by (tale_dear p ex w.plan w.steps count n (with_more us h) k (y ∷ z ∷ []) (over s) turn dear)
            by_cost true paid =
                f_last y z called_y end_z
                (tale_goes p ex w.plan w.steps count n (with_more us h) k (y ∷ z ∷ []) (over s) turn paid ∙ ap (λ (l : List Note). y ∷ z ∷ l) (tale_over p ex w.plan w.steps count (n - suc k) s))
                (λ v more.
                let d = too v in (
                  d.other,
                  tale_goes p ex w.plan w.steps count n (with_more (mailed (Some (V.I32 v)) 1 ∷ more) h) k (y ∷ d.other ∷ []) (over s) (a.same (mailed (Some (V.I32 v)) 1 ∷ more) ∙ d.made more) paid
                      ∙ ap (λ (l : List Note). y ∷ d.other ∷ l) (tale_over p ex w.plan w.steps count (n - suc k) s),
                  d.same,
                ))
        f_received (r_unwinds k y u called_y f) = by_cost (nat_lt k n) refl
          where
            turn : protocol p ex w.plan (with_more us h) ≡ goes k (y ∷ []) (with_more us' (unwound u value))
            turn = ap (λ (l : List Outcome). protocol p ex w.plan (with_more l h)) eu ∙ a.same (answer ∷ us') ∙ f value us'

            goes_so : nat_lt k n ≡ true → (v : ℕ) (more : List Outcome)
                → still_tells w (suc count) n (with_more (mailed (Some (V.I32 v)) 1 ∷ more) h) ≡ y ∷ still_tells w count (n - suc k) (with_more more (unwound u v))
            goes_so paid v more =
                tale_goes p ex w.plan w.steps count n (with_more (mailed (Some (V.I32 v)) 1 ∷ more) h) k (y ∷ []) (with_more more (unwound u v)) (a.same (mailed (Some (V.I32 v)) 1 ∷ more) ∙ f v more) paid

            here_so : nat_lt k n ≡ true → still_tells w (suc count) n (with_more us h) ≡ y ∷ still_tells w count (n - suc k) (with_more us' (unwound u value))
            here_so paid = ap (λ (l : List Outcome). still_tells w (suc count) n (with_more l h)) eu ∙ goes_so paid value us'

            by_unread : nat_lt k n ≡ true → Unread p ex w.plan w.steps (λ (v : ℕ) (more : List Outcome). still_tells w count (n - suc k) (with_more more (unwound u v))) count → Followed part os ms us
            by_unread paid (then_ends z e g) =
                f_last y z called_y e (here_so paid ∙ ap (λ (l : List Note). y ∷ l) (g value us')) (λ v more. (z, goes_so paid v more ∙ ap (λ (l : List Note). y ∷ l) (g v more), λ q. refl))
            by_unread paid (then_pauses z r c2 n2 e no_r less g) =
                let goes_on = call_goes_on y.event call called_y in
                let ends = pause_ends z.event e in
                let f1 = first_note ms rest y (z ∷ still_tells w c2 n2 (with_more us' (r value))) (is ∙ here_so paid ∙ ap (λ (l : List Note). y ∷ l) (g value us')) cut in
                let f2 = first_note f1.more rest z (still_tells w c2 n2 (with_more us' (r value))) f1.behind (cut_behind ms rest y f1.more f1.is (goes_no_pause y.event goes_on.0) cut) in
                let tells : ends_program ((part ++ y ∷ []) ++ z ∷ []) ≡ false = last_tells (part ++ y ∷ []) z (unended_on part (y ∷ []) so.plain (goes_on.0, tt)) ∙ ends.2 in
                f_recv y z f2.more called_y ends.0 ends.1 (pause_calm z.event e) (f1.is ∙ ap (λ (l : List Note). y ∷ l) f2.is)
                (is_parked tells aw.r refl c2 (omega (arith, less, le))
                (λ v. record {
                  h = r v;
                  n = n2;
                  not_over = no_r v;
                  story = λ more.
                      ap (protocol_story w) (append_assoc (t.met ++ os) (mailed (Some (V.I32 v)) 1 ∷ []) more ∙ append_assoc t.met os (mailed (Some (V.I32 v)) 1 ∷ more))
                      ∙ st (mailed (Some (V.I32 v)) 1 ∷ more)
                      ∙ ap (λ (l : List Note). t.told ++ (part ++ l)) (goes_so paid v more ∙ ap (λ (l : List Note). y ∷ l) (g v more))
                      ∙ ap (λ (l : List Note). t.told ++ l)
                      (sym (append_assoc (part ++ y ∷ []) (z ∷ []) (still_tells w c2 n2 (with_more more (r v))) ∙ append_assoc part (y ∷ []) (z ∷ still_tells w c2 n2 (with_more more (r v)))))
                      ∙ sym (append_assoc t.told ((part ++ y ∷ []) ++ z ∷ []) (still_tells w c2 n2 (with_more more (r v))));
                }))
                (λ o. absurd (not_both (sym tells ∙ o)))

            by_cost : (b : Bool) → nat_lt k n ≡ b → Followed part os ms us
            by_cost true paid = by_unread paid (unread p ex w.plan w.steps count (n - suc k) u)
            by_cost false dear = spent_by (tale_dear p ex w.plan w.steps count n (with_more us h) k (y ∷ []) (with_more us' (unwound u value)) turn dear)

      -- an outcome was left
      f_answer : (o : Outcome) (us' : List Outcome) → us ≡ o ∷ us' → (q : Turn Held Note) → CallFine call q
          → ((more : List Outcome) → protocol p ex w.plan (with_more (o ∷ more) h) ≡ turned (with_more more) q) → Followed part os ms us
      f_answer o us' eu stops fine same =
          spent_by (tale_stops p ex w.plan w.steps count n (with_more us h) (ap (λ (l : List Outcome). protocol p ex w.plan (with_more l h)) eu ∙ same us'))
      f_answer o us' eu (goes k fs u) fine same = by_cost (nat_lt k n) refl
        where
          turn : protocol p ex w.plan (with_more us h) ≡ goes k fs (with_more us' u)
          turn = ap (λ (l : List Outcome). protocol p ex w.plan (with_more l h)) eu ∙ same us'

          y : Note
          y = fine.0

          by_mirror : nat_lt k n ≡ true → (f : First ms rest fine.0 (fine.1 ++ still_tells w count (n - suc k) (with_more us' u))) → (met : Met fine.0 f.more)
              → Mirrors w i call lines m will met.0 met.2 met.3 → Followed part os ms us
          by_mirror paid f met (is_chosen ch eo el ez kept) =
              let goes_on = call_goes_on fine.0.event call fine.3 in
              let o_is : ch.o ≡ o = eo ∙ outcome_head met.0 o met.1 us' (sym met.4 ∙ eu) in
              let us_is : us' ≡ met.1 = sym (outcome_tail met.0 o met.1 us' (sym met.4 ∙ eu)) in
              f_call part fine.0 os ch.o ms f.more us met.1 goes_on.0 f.is (met.4 ∙ ap (λ (q : Outcome). q ∷ met.1) (sym eo))
              (f_move count (n - suc k) le on (part ++ fine.0 ∷ []) (os ++ ch.o ∷ []) ch.lines' ch.m' (with_call w i t tellers begin limit part os lines m so fine.0 call fine.3 ch) kept fine.1 u fine.4
              (λ more.
              ap (λ (l : List Outcome). protocol_story w (t.met ++ l)) (append_assoc os (ch.o ∷ []) more)
              ∙ st (ch.o ∷ more)
              ∙ ap (λ (l : List Note). t.told ++ (part ++ l))
              (tale_goes p ex w.plan w.steps count n (with_more (ch.o ∷ more) h) k fs (with_more more u) (ap (λ (q : Outcome). protocol p ex w.plan (with_more (q ∷ more) h)) o_is ∙ same more) paid)
              ∙ ap (λ (l : List Note). t.told ++ (part ++ (l ++ still_tells w count (n - suc k) (with_more more u)))) fine.2
              ∙ ap (λ (l : List Note). t.told ++ l) (sym (append_assoc part (fine.0 ∷ []) (fine.1 ++ still_tells w count (n - suc k) (with_more more u)))))
              met.1 f.more rest
              (f.behind ∙ ap (λ (l : List Outcome). fine.1 ++ still_tells w count (n - suc k) (with_more l u)) us_is)
              (cut_behind ms rest fine.0 f.more f.is (goes_no_pause fine.0.event goes_on.0) cut)
              (subst (λ (l : List AnswerLine). CallsMeet w (turn_of f.more) met.1 l (midst_by will i ch.m') outs left zb) (sym el)
              (subst (λ (q : Midst). CallsMeet w (turn_of f.more) met.1 met.2 q outs left zb) ez met.6)))
          by_mirror paid f met (is_awaited aw value small eo el ez) =
              f_received aw value small met.1 (met.4 ∙ ap (λ (q : Outcome). q ∷ met.1) eo)
              (λ y2 more2 called_y2 all.
              subst (λ (l : List Note). CallsMeet w (turn_of l) met.1 lines (Awaiting value aw.r) outs left zb) (note_tail fine.0 y2 f.more more2 (sym f.is ∙ all))
              (subst (λ (l : List AnswerLine). CallsMeet w (turn_of f.more) met.1 l (Awaiting value aw.r) outs left zb) el
              (subst (λ (q : Midst). CallsMeet w (turn_of f.more) met.1 met.2 q outs left zb) ez met.6)))
              (receives p ex w.plan w.steps value a.k a.import a.args a.who a.l)

          by_cost : (b : Bool) → nat_lt k n ≡ b → Followed part os ms us
          by_cost false dear = spent_by (tale_dear p ex w.plan w.steps count n (with_more us h) k fs (with_more us' u) turn dear)
          by_cost true paid =
              let tells = tale_goes p ex w.plan w.steps count n (with_more us h) k fs (with_more us' u) turn paid in
              let f = first_note ms rest fine.0 (fine.1 ++ still_tells w count (n - suc k) (with_more us' u))
              (is ∙ tells ∙ ap (λ (l : List Note). l ++ still_tells w count (n - suc k) (with_more us' u)) fine.2) cut in
              let met = met_by fine.0 f.more fine.3 f.is in
              by_mirror paid f met (mirror w i call lines m will keeps met.0 met.2 met.3 met.5)

      -- an outcome that no call meets
      f_wild : (us' : List Outcome) (e : End) → us ≡ refused e ∷ us' → is_stalled e ≡ true → Followed part os ms us
      f_wild us' e eu wild = by_cost (nat_lt a.k n) refl
        where
          turn : protocol p ex w.plan (with_more us h) ≡ held_asked p ex w.plan a.k a.import a.args a.who a.l (refused e ∷ us')
          turn = a.same us ∙ ap (λ (l : List Outcome). held_asked p ex w.plan a.k a.import a.args a.who a.l l) eu

          by_cost : (b : Bool) → nat_lt a.k n ≡ b → Followed part os ms us
          by_cost false dear = spent_by (tale_dear p ex w.plan w.steps count n (with_more us h) a.k _ _ turn dear)
          by_cost true paid =
              let tells = tale_goes p ex w.plan w.steps count n (with_more us h) a.k _ _ turn paid in
              let f = first_note ms rest _ _ (is ∙ tells) cut in
              let met = met_by _ f.more refl f.is in
              let tame : Tame met.0 = tame_of met.0 met.2 met.3 (mirror w i call lines m will keeps met.0 met.2 met.3 met.5) in
              let same : met.0 ≡ refused e = outcome_head met.0 (refused e) met.1 us' (sym met.4 ∙ eu) in
              absurd (not_both (sym (subst Tame same tame) ∙ wild))
            where
              tame_of : (o : Outcome) (lines' : List AnswerLine) (z' : Midst) → Mirrors w i call lines m will o lines' z' → Tame o
              tame_of o lines' z' (is_chosen ch eo el ez kept) = subst Tame eo ch.tame
              tame_of o lines' z' (is_awaited aw value small eo el ez) = subst Tame (sym eo) tt

      f_asks : Followed part os ms us
      f_asks = by_us us refl
        where
          by_outcome : (o : Outcome) (us' : List Outcome) → us ≡ o ∷ us' → Tame o → Followed part os ms us
          by_outcome o us' eu tame =
              let r = asked_with p ex w.plan a.k a.import a.args a.who a.l o tame in f_answer o us' eu r.turn r.fine (λ more. a.same (o ∷ more) ∙ r.same more)

          by_end : (e : End) (us' : List Outcome) → us ≡ refused e ∷ us' → (b : Bool) → is_stalled e ≡ b → Followed part os ms us
          by_end e us' eu true wild = f_wild us' e eu wild
          by_end e us' eu false tame = by_outcome (refused e) us' eu tame

          by_us : (us0 : List Outcome) → us ≡ us0 → Followed part os ms us
          by_us [] eu = f_none eu
          by_us (given b ∷ us') eu = by_outcome (given b) us' eu tt
          by_us (refused e ∷ us') eu = by_end e us' eu (is_stalled e) refl

    f_any : Kind p ex w.plan (λ (more : List Outcome). protocol p ex w.plan (with_more more h)) → Followed part os ms us
    f_any (inl g) = f_goes g.turn g.fine g.same
    f_any (inr a) = f_asks a

  pub follow : (count : ℕ) → On count
  follow zero n h no_h part os lines m so keeps le st us ms rest is cut here =
      f_spent part os lines m so keeps h no_h us (still_tells w zero n (with_more us h)) (st us) refl ms rest is cut here
  follow (suc count) n h no_h part os lines m so keeps le st us ms rest is cut here =
      f_any count n h no_h part os lines m so keeps le st us ms rest is cut here (follow count) (kind p ex w.plan h)
