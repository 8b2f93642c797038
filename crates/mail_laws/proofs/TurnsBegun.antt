-- A turn that has begun goes on to its end, behind the notes that were told of it.
use Rattle.std.proofs.Common.{arith, ◌≡◌, ◌<◌, ◌≤◌, ◌-◌, ◌^◌, inl, inr, ℕ, zero, suc, List, [], ◌∷◌, ◌++◌, map, Option, Some, None, Bool, true, false, refl, sym, ap, ◌∙◌, subst}
use Rattle.std.proofs.Common.{append_assoc, append-nil}
use Rattle.std.specs.Prelude.{nat_lt}
use Rattle.std.proofs.lemmas.List.{append_cancel_left}
use Rattle.wa_types.specs.declared.values.Value.TheVariants as V
use Rattle.wa_model.specs.Machine.{Turn, stops, goes}
use Rattle.wa_model.specs.declared.events.End.TheVariants.{StepsSpent}
use Rattle.wa_model.specs.Outside.{Call, AnswerLine, called, ended}
use Rattle.wa_model.specs.Plan.{Outcome, given, refused}
use Rattle.wa_model.specs.declared.events.End.{End}
use Rattle.wa_model.specs.Blocking.{Note, note}
use Rattle.wa_model.specs.Protocol.{Exports, exports_of, Held, over, protocol, held_asked, store_held}
use Rattle.run_theory.proofs.Runs.{turned}
use Rattle.world_model.specs.World.{Program, call_in, ends_turn, unless_over, protocol_story}
use Rattle.mailbox_device.specs.declared.mailbox.Settled.{Settled}
use Rattle.mail_laws.proofs.KnownCalls.{CallFree}
use Rattle.host_laws.specs.Stretch.{meeting as with_more}
use Rattle.mail_laws.specs.Mailboxes.{Receive, Midst, CallsMeet, NoteMeets, Meets, mailed}
use Rattle.mail_laws.specs.Told.{Amid, Await, Teller, number_of, receive_of, midst_by, KeepsPromises, Unended, ends_program}
use Rattle.mail_laws.specs.Stalling.{is_stalled}
use Rattle.mail_laws.specs.Replays.{wrong_in}
use Rattle.mail_laws.proofs.OpenMoves.{Plain, IsTame, Tame, NotOver, Leaves, on_it_goes, it_pauses, it_ends, Fine, CallFine, spent_is, Asks, Kind, kind, asked_with}
use Rattle.mail_laws.proofs.Tales.{tale_stops, tale_dear, tale_goes, tale_over, unwound, Unread, then_ends, then_pauses, unread, Receives, r_stops, r_ends, r_unwinds, receives}
use Rattle.mail_laws.proofs.CallsTold.{Posted, Awaits, Mirrors, is_chosen, is_awaited, mirror}
use Rattle.mail_laws.proofs.TurnsFollowed.{free_past, no_outcome, not_both, note_head, note_tail, outcome_head, outcome_tail}
use Rattle.mail_laws.proofs.TurnsTold.{pause_calm, unended_on, plain_free, end_ends, pause_ends, call_goes_on, last_tells, still_tells, is_over, is_parked}
use Rattle.mail_laws.proofs.TurnsTold.{Knows, it_stands, only_ends, From, Turned, ends_for_any, Sofar, Story, end_from, loop, pause_from, receive_from, with_plain, with_call}

-- ---- notes that were told, and those that are made

-- the notes that were told reach further, or those that are made do
data Compared (ms es : List Note) : Type 0 where
  inside : (more : List Note) → ms ≡ es ++ more → Compared ms es
  past : (more : List Note) → es ≡ ms ++ more → Compared ms es

compare : (ms es rest ys : List Note) → ms ++ rest ≡ es ++ ys → Compared ms es
compare [] es rest ys e = past es refl
compare (m ∷ ms) [] rest ys e = inside (m ∷ ms) refl
compare (m ∷ ms) (x ∷ es) rest ys e = by (compare ms es rest ys (note_tail m x (ms ++ rest) (es ++ ys) e))
  where
    head : m ≡ x
    head = note_head m x (ms ++ rest) (es ++ ys) e

    by : Compared ms es → Compared (m ∷ ms) (x ∷ es)
    by (inside more is) = inside more (λ k. head k ∷ is k)
    by (past more is) = past more (λ k. sym head k ∷ is k)

unended_last : (es ms : List Note) → Unended (es ++ ms) → Unended ms
unended_last [] ms h = h
unended_last (e ∷ es) ms h = unended_last es ms h.1

-- of notes that end with a turn's end only those before were told
before_end : (ms rest : List Note) (x : Note) (ys : List Note) → Unended ms → ends_turn x.event ≡ true → ms ++ rest ≡ x ∷ ys → ms ≡ []
before_end [] rest x ys un e is = refl
before_end (m ∷ ms) rest x ys un e is = absurd (not_both (sym un.0 ∙ ap (λ (y : Note). ends_turn y.event) (note_head m x (ms ++ rest) ys is) ∙ e))

-- of a call and a turn's end
before_two : (ms rest : List Note) (y z : Note) (ys : List Note) → Unended ms → ends_turn z.event ≡ true → ms ++ rest ≡ y ∷ z ∷ ys → (more : List Note) × (y ∷ z ∷ [] ≡ ms ++ more)
before_two [] rest y z ys un e is = (y ∷ z ∷ [], refl)
before_two (m ∷ ms) rest y z ys un e is =
    let none = before_end ms rest z ys un.1 e (note_tail m y (ms ++ rest) (z ∷ ys) is) in
    (z ∷ [], λ k. sym (note_head m y (ms ++ rest) (z ∷ ys) is) k ∷ (sym none k ++ z ∷ []))

-- notes without calls that begin others
free_first : (ms more : List Note) → CallFree (ms ++ more) → CallFree ms
free_first [] more h = tt
free_first (m ∷ ms) more h = (h.0, free_first ms more h.1)

free_none : (ms : List Note) → ms ≡ [] → CallFree ms
free_none ms e = subst CallFree (sym e) tt

-- of plain notes and a turn's end those before the end have no calls
free_before : (ms rest xs : List Note) (x : Note) → Unended ms → Plain xs → ends_turn x.event ≡ true → ms ++ rest ≡ xs ++ x ∷ [] → CallFree ms
free_before [] rest xs x un pl e is = tt
free_before (m ∷ ms) rest [] x un pl e is = free_none (m ∷ ms) (before_end (m ∷ ms) rest x [] un e is)
free_before (m ∷ ms) rest (y ∷ xs) x un pl e is =
    (ap (λ (z : Note). call_in z.event) (note_head m y (ms ++ rest) (xs ++ x ∷ []) is) ∙ pl.1, free_before ms rest xs x un.1 pl.2 e (note_tail m y (ms ++ rest) (xs ++ x ∷ []) is))

-- these programs are promised the same
abbrev pub Agrees : (will other : ℕ → ℕ) → List ℕ → Type 0
Agrees will other [] = Unit {0}
Agrees will other (j ∷ js) = (other j ≡ will j) × Agrees will other js

agrees : (will other : ℕ → ℕ) (ss : List Settled) → KeepsPromises will ss → KeepsPromises other ss → Agrees will other (map number_of ss)
agrees will other [] h k = tt
agrees will other (s ∷ ss) h k = (k.0 ∙ sym h.0, agrees will other ss h.1 k.1)

module _ (w : Program) (i : ℕ) (t : Teller) (tellers : List Teller) (begin : Amid) (limit : ℕ) (will : ℕ → ℕ) (left : List AnswerLine) (zb : Midst) (total : List Outcome) where
  -- The calls of a turn met first all these outcomes, or all but the last, at whose receive it ends.
  pub data Meeting (met : List Outcome) (receive : Option Await) : Type 0 where
    goes_past : (later : List Outcome) → met ≡ total ++ later → Meeting met receive
    at_receive : (value : ℕ) → value < 2 ^ 32 → total ≡ met ++ mailed (Some (V.I32 value)) 1 ∷ [] → (r : Await) → receive ≡ Some r → (q : Receive) → zb.receive ≡ Some q → Meeting met receive

  -- a turn that begins with what was told of it, of which these notes are still to be made
  pub record Begun (part ms : List Note) : Type 0 where
    pub tu : Turned w i t tellers begin limit
    pub more : List Note
    pub is : tu.turn ≡ part ++ (ms ++ more)
    pub meeting : Meeting tu.met tu.behind.receive
    pub sent : (other : ℕ → ℕ) → KeepsPromises other tu.behind.settled → Agrees will other zb.settled

  abbrev Fr : List Note → List Outcome → Amid → Type 0
  Fr part os m = From w i t tellers begin limit part os m

  -- what is left where all that was told is made: these outcomes and what is shared
  abbrev Quiet : List Outcome → List Outcome → Amid → Type 0
  Quiet os us m = (total ≡ os ++ us) × (us ≡ []) × (zb ≡ midst_by will i m) × KeepsPromises will m.settled

  abbrev past_all : (os us : List Outcome) (m : Amid) (met later : List Outcome) (receive : Option Await) → Quiet os us m → met ≡ os ++ later → Meeting met receive
  past_all os us m met later receive q e =
      goes_past later (e ∙ ap (λ (l : List Outcome). l ++ later) (sym (q.0 ∙ ap (λ (l : List Outcome). os ++ l) q.1 ∙ append-nil os)))

  sent_all : (os us : List Outcome) (m : Amid) → Quiet os us m → (other : ℕ → ℕ) → KeepsPromises other m.settled → Agrees will other zb.settled
  sent_all os us m q other k = subst (λ (z : Midst). Agrees will other z.settled) (sym q.2) (agrees will other m.settled q.3 k)

  whole : (part ms rest : List Note) (os us : List Outcome) (m : Amid) → Quiet os us m → (f : Fr part os m) → f.more ≡ ms ++ rest → Begun part ms
  whole part ms rest os us m q f e = record {
    tu = f.tu;
    more = rest;
    is = f.is ∙ ap (λ (l : List Note). part ++ l) e;
    meeting = past_all os us m f.tu.met f.later f.tu.behind.receive q f.met_is;
    sent = λ other k. sent_all os us m q other (f.sent other k);
  }

  none_left : (part ms : List Note) (os us : List Outcome) (m : Amid) → Quiet os us m → ms ≡ [] → Fr part os m → Begun part ms
  none_left part ms os us m q none f = whole part ms f.more os us m q f (ap (λ (l : List Note). l ++ f.more) (sym none))

  within : (part es ms more : List Note) → ms ≡ es ++ more → Begun (part ++ es) more → Begun part ms
  within part es ms more e b = record {
    tu = b.tu;
    more = b.more;
    is = b.is ∙ append_assoc part es (more ++ b.more) ∙ ap (λ (l : List Note). part ++ l) (sym (append_assoc es more b.more) ∙ ap (λ (l : List Note). l ++ b.more) (sym e));
    meeting = b.meeting;
    sent = b.sent;
  }

  beyond : (part es ms more : List Note) (os us : List Outcome) (m : Amid) → Quiet os us m → es ≡ ms ++ more → Fr (part ++ es) os m → Begun part ms
  beyond part es ms more os us m q e f = record {
    tu = f.tu;
    more = more ++ f.more;
    is = f.is ∙ append_assoc part es f.more ∙ ap (λ (l : List Note). part ++ l) (ap (λ (l : List Note). l ++ f.more) e ∙ append_assoc ms more f.more);
    meeting = past_all os us m f.tu.met f.later f.tu.behind.receive q f.met_is;
    sent = λ other k. sent_all os us m q other (f.sent other k);
  }

  abbrev Now : List Note → List Outcome → List AnswerLine → Amid → Type 0
  Now part os lines m = Sofar w i t tellers begin limit part os lines m

  abbrev Tells_so : List Note → List Outcome → (List Outcome → List Note) → Type 0
  Tells_so part os f = Story w i t tellers begin limit part os f

  abbrev Here : List Note → List Outcome → List AnswerLine → Amid → Type 0
  Here ms us lines m = CallsMeet w ms us lines (midst_by will i m) [] left zb

  quiet : (ms : List Note) (os us : List Outcome) (lines : List AnswerLine) (m : Amid) → CallFree ms → Here ms us lines m → total ≡ os ++ us → KeepsPromises will m.settled → Quiet os us m
  quiet ms os us lines m free here tot keeps =
      let h = free_past w ms [] us lines (midst_by will i m) [] left zb free (subst (λ (l : List Note). Here l us lines m) (sym (append-nil ms)) here) in (tot, sym h.0, h.2, keeps)

  -- the notes that were told begin what is told whatever later calls meet
  abbrev Fits : List Note → List Outcome → (List Outcome → List Note) → Type 0
  Fits ms us f = (more : List Outcome) → (rest : List Note) × (f (us ++ more) ≡ ms ++ rest)

  abbrev p : Rattle.wa_types.specs.Syntax.Module
  p = w.source

  abbrev ex : Exports
  ex = exports_of w.source

  abbrev pub On : ℕ → Type 0
  On count = (n : ℕ) (u : Held) → NotOver u → (part : List Note) (os : List Outcome) (lines : List AnswerLine) (m : Amid) → Now part os lines m → KeepsPromises will m.settled → count ≤ limit
      → Tells_so part os (λ (more : List Outcome). still_tells w count n (with_more more u)) → (us : List Outcome) (ms : List Note) → Fits ms us (λ (more : List Outcome). still_tells w count n (with_more more u))
      → Unended ms → Here ms us lines m → total ≡ os ++ us → Begun part ms

  b_spent : (part : List Note) (os : List Outcome) (lines : List AnswerLine) (m : Amid) → Now part os lines m → (h : Held) → NotOver h → (us : List Outcome) (l : List Note)
      → protocol_story w (t.met ++ (os ++ us)) ≡ t.told ++ (part ++ l) → l ≡ unless_over w.steps (with_more us h) → (ms rest : List Note) → l ≡ ms ++ rest
      → Unended ms → (us0 : List Outcome) → Here ms us0 lines m → total ≡ os ++ us0 → KeepsPromises will m.settled → Begun part ms
  b_spent part os lines m so h no_h us l st is ms rest e un us0 here tot keeps =
      let one = is ∙ spent_is w.steps us h no_h in
      let none = before_end ms rest (note (ended (StepsSpent w.steps)) (store_held h)) [] un refl (sym e ∙ one) in
      whole part ms rest os us0 m (quiet ms os us0 lines m (free_none ms none) here tot keeps)
      (end_from w i t tellers begin limit part os lines m so [] (note (ended (StepsSpent w.steps)) (store_held h)) tt (refl, refl) us (st ∙ ap (λ (k : List Note). t.told ++ (part ++ k)) one))
      (sym one ∙ e)

  b_move : (count n : ℕ) → suc count ≤ limit → On count → (part : List Note) (os : List Outcome) (lines : List AnswerLine) (m : Amid) → Now part os lines m → KeepsPromises will m.settled
      → (es : List Note) (u : Held) → Leaves es u → Tells_so part os (λ (more : List Outcome). es ++ still_tells w count n (with_more more u))
      → (us : List Outcome) (ms : List Note) → Fits ms us (λ (more : List Outcome). es ++ still_tells w count n (with_more more u)) → Unended ms → Here ms us lines m → total ≡ os ++ us → Begun part ms
  b_move count n le on part os lines m so keeps es u (on_it_goes pl no_u) st us ms fits un here tot =
      by (compare ms es (fits []).0 (still_tells w count n (with_more (us ++ []) u)) (sym (fits []).1))
    where
      so2 : Now (part ++ es) os lines m
      so2 = with_plain w i t tellers begin limit part os lines m so es pl

      st2 : Tells_so (part ++ es) os (λ (more : List Outcome). still_tells w count n (with_more more u))
      st2 more = st more ∙ ap (λ (l : List Note). t.told ++ l) (sym (append_assoc part es (still_tells w count n (with_more more u))))

      by : Compared ms es → Begun part ms
      by (past more e) = beyond part es ms more os us m (quiet ms os us lines m (free_first ms more (subst CallFree e (plain_free es pl))) here tot keeps) e (loop w i t tellers begin limit count n u no_u (part ++ es) os lines m so2 (omega (arith, le)) st2)
      by (inside more e) =
          within part es ms more e
          (on n u no_u (part ++ es) os lines m so2 keeps (omega (arith, le)) st2 us more
          (λ later. (
            (fits later).0,
            append_cancel_left es (still_tells w count n (with_more (us ++ later) u)) (more ++ (fits later).0)
                ((fits later).1 ∙ ap (λ (l : List Note). l ++ (fits later).0) e ∙ append_assoc es more (fits later).0),
          ))
          (unended_last es more (subst Unended e un))
          (free_past w es more us lines (midst_by will i m) [] left zb (plain_free es pl) (subst (λ (l : List Note). CallsMeet w l us lines (midst_by will i m) [] left zb) e here)) tot)
  b_move count n le on part os lines m so keeps es u (it_pauses x e isp no_u) st us ms fits un here tot =
      let ends = pause_ends x.event isp in
      let no_more = before_end ms (fits []).0 x (still_tells w count n (with_more (us ++ []) u)) un ends.0 (sym (fits []).1 ∙ ap (λ (l : List Note). l ++ still_tells w count n (with_more (us ++ []) u)) e) in
      none_left part ms os us m (quiet ms os us lines m (free_none ms no_more) here tot keeps) no_more
      (pause_from w i t tellers begin limit part os lines m so x isp count n u no_u (omega (arith, le))
      (λ more. st more ∙ ap (λ (l : List Note). t.told ++ (part ++ (l ++ still_tells w count n (with_more more u)))) e))
  b_move count n le on part os lines m so keeps es u (it_ends xs x s e pl ie eu) st us ms fits un here tot =
      let none : es ++ still_tells w count n (with_more (us ++ []) u) ≡ xs ++ x ∷ [] =
      ap (λ (l : List Note). es ++ l) (ap (λ (h : Held). still_tells w count n (with_more (us ++ []) h)) eu ∙ tale_over p ex w.plan w.steps count n s) ∙ append-nil es ∙ e in
      whole part ms (fits []).0 os us m (quiet ms os us lines m (free_before ms (fits []).0 xs x un pl (end_ends x.event ie.0).0 (sym (fits []).1 ∙ none)) here tot keeps)
      (end_from w i t tellers begin limit part os lines m so xs x pl ie (us ++ []) (st (us ++ []) ∙ ap (λ (l : List Note). t.told ++ (part ++ l)) none)) (sym none ∙ (fits []).1)

  module _ (count n : ℕ) (h : Held) (no_h : NotOver h) (part : List Note) (os : List Outcome) (lines : List AnswerLine) (m : Amid) (so : Now part os lines m) (keeps : KeepsPromises will m.settled)
      (le : suc count ≤ limit) (st : Tells_so part os (λ (more : List Outcome). still_tells w (suc count) n (with_more more h))) (us : List Outcome) (ms : List Note)
      (fits : Fits ms us (λ (more : List Outcome). still_tells w (suc count) n (with_more more h))) (un : Unended ms) (here : Here ms us lines m) (tot : total ≡ os ++ us) (on : On count) where
    spent_by : (more : List Outcome) → still_tells w (suc count) n (with_more (us ++ more) h) ≡ unless_over w.steps (with_more (us ++ more) h) → Begun part ms
    spent_by more e = b_spent part os lines m so h no_h (us ++ more) (still_tells w (suc count) n (with_more (us ++ more) h)) (st (us ++ more)) e ms (fits more).0 (fits more).1 un us here tot keeps

    b_goes : (o : Turn Held Note) → Fine o → ((more : List Outcome) → protocol p ex w.plan (with_more more h) ≡ turned (with_more more) o) → Begun part ms
    b_goes stops fine same = spent_by [] (tale_stops p ex w.plan w.steps count n (with_more (us ++ []) h) (same (us ++ [])))
    b_goes (goes k es u) fine same = by_cost (nat_lt k n) refl
      where
        by_cost : (b : Bool) → nat_lt k n ≡ b → Begun part ms
        by_cost true paid =
            let tells : (more : List Outcome) → still_tells w (suc count) n (with_more more h) ≡ es ++ still_tells w count (n - suc k) (with_more more u) =
            λ more. tale_goes p ex w.plan w.steps count n (with_more more h) k es (with_more more u) (same more) paid in
            b_move count (n - suc k) le on part os lines m so keeps es u fine (λ more. st more ∙ ap (λ (l : List Note). t.told ++ (part ++ l)) (tells more))
            us ms (λ more. ((fits more).0, sym (tells (us ++ more)) ∙ (fits more).1)) un here tot
        by_cost false dear = spent_by [] (tale_dear p ex w.plan w.steps count n (with_more (us ++ []) h) k es (with_more (us ++ []) u) (same (us ++ [])) dear)

    module _ (a : Asks p ex w.plan (λ (more : List Outcome). protocol p ex w.plan (with_more more h))) where
      abbrev call : Call
      call = record { import = a.import; args = a.args }

      -- the call is the first of the notes that were told, and met an outcome
      abbrev Met : List Note → Type 0
      Met later =
          (o : Outcome) × (us' : List Outcome) × (lines' : List AnswerLine) × (z' : Midst)
          × (us ≡ o ∷ us') × Meets w a.import a.args lines (midst_by will i m) o lines' z' × CallsMeet w later us' lines' z' [] left zb

      met_by : (y : Note) (later : List Note) → y.event ≡ called call → ms ≡ y ∷ later → Met later
      met_by y later called_y e =
          subst (λ (c : Option Call). NoteMeets w c us lines (midst_by will i m) (λ o l q. CallsMeet w later o l q [] left zb)) (call_goes_on y.event call called_y).1
          (subst (λ (l : List Note). CallsMeet w l us lines (midst_by will i m) [] left zb) e here)

      module _ (aw : Awaits w i call lines m) (value : ℕ) (small : value < 2 ^ 32) (us' : List Outcome) (eu : us ≡ mailed (Some (V.I32 value)) 1 ∷ us') (y0 : Note)
          (ms0 : List Note) (told : ms ≡ y0 ∷ ms0) (calm : ms0 ≡ [] → (us' ≡ []) × (zb.settled ≡ map number_of m.settled) × (q : Receive) × (zb.receive ≡ Some q)) where
        abbrev answer : Outcome
        answer = mailed (Some (V.I32 value)) 1

        with_answer : (more : List Outcome) → us ++ more ≡ answer ∷ (us' ++ more)
        with_answer more = ap (λ (l : List Outcome). l ++ more) eu

        -- it ends there
        parks_here : (y z : Note) (ys : List Note) → ends_turn z.event ≡ true → (f : Fr part os m) → f.tu.met ≡ os → (r : Await) → f.tu.behind.receive ≡ Some r
            → (rest : List Note) → ms ++ rest ≡ y ∷ z ∷ ys → (more : List Note) → f.more ≡ ms ++ more → Begun part ms
        parks_here y z ys ends f met_is r received rest tells more e =
            let none : ms0 ≡ [] =
            before_end ms0 rest z ys (subst Unended told un).1 ends (note_tail y0 y (ms0 ++ rest) (z ∷ ys) (ap (λ (l : List Note). l ++ rest) (sym told) ∙ tells)) in
            let c = calm none in
            record {
              tu = f.tu;
              more = more;
              is = f.is ∙ ap (λ (l : List Note). part ++ l) e;
              meeting = at_receive value small
                  (tot ∙ ap (λ (l : List Outcome). os ++ l) (eu ∙ ap (λ (l : List Outcome). answer ∷ l) c.0) ∙ ap (λ (l : List Outcome). l ++ answer ∷ []) (sym met_is)) r received c.2 c.3;
              sent = λ other k. subst (Agrees will other) (sym c.1) (agrees will other m.settled keeps (f.sent other k));
            }

        b_last : (y z : Note) → y.event ≡ called call → IsTame z.event → still_tells w (suc count) n (with_more (us ++ []) h) ≡ y ∷ z ∷ []
            → ((v : ℕ) (more : List Outcome) → (other : Note) × (still_tells w (suc count) n (with_more (mailed (Some (V.I32 v)) 1 ∷ more) h) ≡ y ∷ other ∷ [])
            × (wrong_in other.event ≡ wrong_in z.event → other ≡ z)) → Begun part ms
        b_last y z called_y end_z tells others =
            let goes_on = call_goes_on y.event call called_y in
            let ends = end_ends z.event end_z.0 in
            parks_here y z [] ends.0
            (receive_from w i t tellers begin limit part os lines m so y z call called_y aw ends.0 ends.1 end_z.1
            (is_over (last_tells (part ++ y ∷ []) z (unended_on part (y ∷ []) so.plain (goes_on.0, tt)) ∙ end_z.0) value small (us' ++ [])
            (ap (protocol_story w) (append_assoc (t.met ++ os) (answer ∷ []) (us' ++ []) ∙ append_assoc t.met os (answer ∷ (us' ++ [])))
            ∙ ap (λ (l : List Outcome). protocol_story w (t.met ++ (os ++ l))) (sym (with_answer []))
            ∙ st (us ++ [])
            ∙ ap (λ (l : List Note). t.told ++ (part ++ l)) tells
            ∙ ap (λ (l : List Note). t.told ++ l) (sym (append_assoc part (y ∷ []) (z ∷ []))))
            (ends_for_any w i t tellers begin limit part os (λ (more : List Outcome). still_tells w (suc count) n (with_more more h)) st y z aw.r others)))
            refl aw.r refl (fits []).0 (sym (fits []).1 ∙ tells) (fits []).0 (sym tells ∙ (fits []).1)

        b_received : Receives p ex w.plan w.steps value call (λ (v : ℕ) (more : List Outcome). held_asked p ex w.plan a.k a.import a.args a.who a.l (mailed (Some (V.I32 v)) 1 ∷ more)) → Begun part ms
        b_received (r_stops f) =
            spent_by [] (tale_stops p ex w.plan w.steps count n (with_more (us ++ []) h)
            (ap (λ (l : List Outcome). protocol p ex w.plan (with_more l h)) (with_answer []) ∙ a.same (answer ∷ (us' ++ [])) ∙ f (us' ++ [])))
        b_received (r_ends k y z s called_y end_z f too) = by_cost (nat_lt k n) refl
          where
            turn : protocol p ex w.plan (with_more (us ++ []) h) ≡ goes k (y ∷ z ∷ []) (over s)
            turn = ap (λ (l : List Outcome). protocol p ex w.plan (with_more l h)) (with_answer []) ∙ a.same (answer ∷ (us' ++ [])) ∙ f (us' ++ [])

            by_cost : (b : Bool) → nat_lt k n ≡ b → Begun part ms
            by_cost false dear = spent_by [] (tale_dear p ex w.plan w.steps count n (with_more (us ++ []) h) k (y ∷ z ∷ []) (over s) turn dear)
            by_cost true paid =
                b_last y z called_y end_z
                (tale_goes p ex w.plan w.steps count n (with_more (us ++ []) h) k (y ∷ z ∷ []) (over s) turn paid ∙ ap (λ (l : List Note). y ∷ z ∷ l) (tale_over p ex w.plan w.steps count (n - suc k) s))
                (λ v more.
                let d = too v in (
                  d.other,
                  tale_goes p ex w.plan w.steps count n (with_more (mailed (Some (V.I32 v)) 1 ∷ more) h) k (y ∷ d.other ∷ []) (over s) (a.same (mailed (Some (V.I32 v)) 1 ∷ more) ∙ d.made more) paid
                      ∙ ap (λ (l : List Note). y ∷ d.other ∷ l) (tale_over p ex w.plan w.steps count (n - suc k) s),
                  d.same,
                ))
        b_received (r_unwinds k y u called_y f) = by_cost (nat_lt k n) refl
          where
            turn : protocol p ex w.plan (with_more (us ++ []) h) ≡ goes k (y ∷ []) (with_more (us' ++ []) (unwound u value))
            turn = ap (λ (l : List Outcome). protocol p ex w.plan (with_more l h)) (with_answer []) ∙ a.same (answer ∷ (us' ++ [])) ∙ f value (us' ++ [])

            goes_so : nat_lt k n ≡ true → (v : ℕ) (more : List Outcome)
                → still_tells w (suc count) n (with_more (mailed (Some (V.I32 v)) 1 ∷ more) h) ≡ y ∷ still_tells w count (n - suc k) (with_more more (unwound u v))
            goes_so paid v more =
                tale_goes p ex w.plan w.steps count n (with_more (mailed (Some (V.I32 v)) 1 ∷ more) h) k (y ∷ []) (with_more more (unwound u v)) (a.same (mailed (Some (V.I32 v)) 1 ∷ more) ∙ f v more) paid

            here_so : nat_lt k n ≡ true → still_tells w (suc count) n (with_more (us ++ []) h) ≡ y ∷ still_tells w count (n - suc k) (with_more (us' ++ []) (unwound u value))
            here_so paid = ap (λ (l : List Outcome). still_tells w (suc count) n (with_more l h)) (with_answer []) ∙ goes_so paid value (us' ++ [])

            by_unread : nat_lt k n ≡ true → Unread p ex w.plan w.steps (λ (v : ℕ) (more : List Outcome). still_tells w count (n - suc k) (with_more more (unwound u v))) count → Begun part ms
            by_unread paid (then_ends z e g) =
                b_last y z called_y e (here_so paid ∙ ap (λ (l : List Note). y ∷ l) (g value (us' ++ []))) (λ v more. (z, goes_so paid v more ∙ ap (λ (l : List Note). y ∷ l) (g v more), λ q. refl))
            by_unread paid (then_pauses z r c2 n2 e no_r less g) =
                let goes_on = call_goes_on y.event call called_y in
                let ends = pause_ends z.event e in
                let two = before_two ms (fits []).0 y z (still_tells w c2 n2 (with_more (us' ++ []) (r value))) un ends.0 (sym (fits []).1 ∙ here_so paid ∙ ap (λ (l : List Note). y ∷ l) (g value (us' ++ []))) in
                let tells : ends_program ((part ++ y ∷ []) ++ z ∷ []) ≡ false = last_tells (part ++ y ∷ []) z (unended_on part (y ∷ []) so.plain (goes_on.0, tt)) ∙ ends.2 in
                parks_here y z (still_tells w c2 n2 (with_more (us' ++ []) (r value))) ends.0
                (receive_from w i t tellers begin limit part os lines m so y z call called_y aw ends.0 ends.1 (pause_calm z.event e)
                (is_parked tells aw.r refl c2 (omega (arith, less, le))
                (λ v. record {
                  h = r v;
                  n = n2;
                  not_over = no_r v;
                  story = λ more.
                      ap (protocol_story w) (append_assoc (t.met ++ os) (mailed (Some (V.I32 v)) 1 ∷ []) more ∙ append_assoc t.met os (mailed (Some (V.I32 v)) 1 ∷ more))
                      ∙ st (mailed (Some (V.I32 v)) 1 ∷ more)
                      ∙ ap (λ (l : List Note). t.told ++ (part ++ l)) (goes_so paid v more ∙ ap (λ (l : List Note). y ∷ l) (g v more))
                      ∙ ap (λ (l : List Note). t.told ++ l)
                      (sym (append_assoc (part ++ y ∷ []) (z ∷ []) (still_tells w c2 n2 (with_more more (r v))) ∙ append_assoc part (y ∷ []) (z ∷ still_tells w c2 n2 (with_more more (r v)))))
                      ∙ sym (append_assoc t.told ((part ++ y ∷ []) ++ z ∷ []) (still_tells w c2 n2 (with_more more (r v))));
                })))
                refl aw.r refl (fits []).0 (sym (fits []).1 ∙ here_so paid ∙ ap (λ (l : List Note). y ∷ l) (g value (us' ++ []))) two.0 two.1

            by_cost : (b : Bool) → nat_lt k n ≡ b → Begun part ms
            by_cost true paid = by_unread paid (unread p ex w.plan w.steps count (n - suc k) u)
            by_cost false dear = spent_by [] (tale_dear p ex w.plan w.steps count n (with_more (us ++ []) h) k (y ∷ []) (with_more (us' ++ []) (unwound u value)) turn dear)

      module _ (y0 : Note) (ms0 : List Note) (told : ms ≡ y0 ∷ ms0) where
        -- no outcome was left for it
        b_none : us ≡ [] → Begun part ms
        b_none none = by_cost (nat_lt a.k n) refl
          where
            turn : protocol p ex w.plan (with_more (us ++ []) h) ≡ held_asked p ex w.plan a.k a.import a.args a.who a.l []
            turn = a.same (us ++ []) ∙ ap (λ (l : List Outcome). held_asked p ex w.plan a.k a.import a.args a.who a.l (l ++ [])) none

            by_cost : (b : Bool) → nat_lt a.k n ≡ b → Begun part ms
            by_cost false dear = spent_by [] (tale_dear p ex w.plan w.steps count n (with_more (us ++ []) h) a.k _ _ turn dear)
            by_cost true paid =
                let tells = tale_goes p ex w.plan w.steps count n (with_more (us ++ []) h) a.k _ _ turn paid in
                let first = note_head y0 _ (ms0 ++ (fits []).0) _ (ap (λ (l : List Note). l ++ (fits []).0) (sym told) ∙ sym (fits []).1 ∙ tells) in
                let met = met_by y0 ms0 (ap (λ (y : Note). y.event) first) told in
                absurd (no_outcome met.0 met.1 (sym none ∙ met.4))

        -- an outcome was left
        b_answer : (o : Outcome) (us' : List Outcome) → us ≡ o ∷ us' → (q : Turn Held Note) → CallFine call q
            → ((more : List Outcome) → protocol p ex w.plan (with_more (o ∷ more) h) ≡ turned (with_more more) q) → Begun part ms
        b_answer o us' eu stops fine same =
            spent_by [] (tale_stops p ex w.plan w.steps count n (with_more (us ++ []) h) (ap (λ (l : List Outcome). protocol p ex w.plan (with_more (l ++ []) h)) eu ∙ same (us' ++ [])))
        b_answer o us' eu (goes k fs u) fine same = by_cost (nat_lt k n) refl
          where
            turn : (more : List Outcome) → protocol p ex w.plan (with_more (us ++ more) h) ≡ goes k fs (with_more (us' ++ more) u)
            turn more = ap (λ (l : List Outcome). protocol p ex w.plan (with_more (l ++ more) h)) eu ∙ same (us' ++ more)

            by_mirror : nat_lt k n ≡ true → ((more : List Outcome) → (fine.1 ++ still_tells w count (n - suc k) (with_more (us' ++ more) u)) ≡ ms0 ++ (fits more).0) → y0 ≡ fine.0 → (met : Met ms0)
                → Mirrors w i call lines m will met.0 met.2 met.3 → Begun part ms
            by_mirror paid later first met (is_chosen ch eo el ez kept) =
                let o_is : ch.o ≡ o = eo ∙ outcome_head met.0 o met.1 us' (sym met.4 ∙ eu) in
                let us_is : us' ≡ met.1 = sym (outcome_tail met.0 o met.1 us' (sym met.4 ∙ eu)) in
                within part (fine.0 ∷ []) ms ms0 (told ∙ ap (λ (y : Note). y ∷ ms0) first)
                (b_move count (n - suc k) le on (part ++ fine.0 ∷ []) (os ++ ch.o ∷ []) ch.lines' ch.m' (with_call w i t tellers begin limit part os lines m so fine.0 call fine.3 ch) kept fine.1 u fine.4
                (λ more.
                ap (λ (l : List Outcome). protocol_story w (t.met ++ l)) (append_assoc os (ch.o ∷ []) more)
                ∙ st (ch.o ∷ more)
                ∙ ap (λ (l : List Note). t.told ++ (part ++ l))
                (tale_goes p ex w.plan w.steps count n (with_more (ch.o ∷ more) h) k fs (with_more more u) (ap (λ (q : Outcome). protocol p ex w.plan (with_more (q ∷ more) h)) o_is ∙ same more) paid)
                ∙ ap (λ (l : List Note). t.told ++ (part ++ (l ++ still_tells w count (n - suc k) (with_more more u)))) fine.2
                ∙ ap (λ (l : List Note). t.told ++ l) (sym (append_assoc part (fine.0 ∷ []) (fine.1 ++ still_tells w count (n - suc k) (with_more more u)))))
                met.1 ms0
                (λ more. ((fits more).0, ap (λ (l : List Outcome). fine.1 ++ still_tells w count (n - suc k) (with_more (l ++ more) u)) (sym us_is) ∙ later more))
                (subst Unended told un).1
                (subst (λ (l : List AnswerLine). CallsMeet w ms0 met.1 l (midst_by will i ch.m') [] left zb) (sym el)
                (subst (λ (q : Midst). CallsMeet w ms0 met.1 met.2 q [] left zb) ez met.6))
                (tot ∙ ap (λ (l : List Outcome). os ++ l) met.4 ∙ ap (λ (q : Outcome). os ++ q ∷ met.1) (sym eo) ∙ sym (append_assoc os (ch.o ∷ []) met.1)))
            by_mirror paid later first met (is_awaited aw value small eo el ez) =
                b_received aw value small met.1 (met.4 ∙ ap (λ (q : Outcome). q ∷ met.1) eo) y0 ms0 told
                (λ none.
                let h = subst (λ (l : List Note). CallsMeet w l met.1 met.2 met.3 [] left zb) none met.6 in (
                  sym h.0,
                  ap (λ (z : Midst). z.settled) (h.2 ∙ ez),
                  receive_of value aw.r,
                  ap (λ (z : Midst). z.receive) (h.2 ∙ ez),
                ))
                (receives p ex w.plan w.steps value a.k a.import a.args a.who a.l)

            by_cost : (b : Bool) → nat_lt k n ≡ b → Begun part ms
            by_cost false dear = spent_by [] (tale_dear p ex w.plan w.steps count n (with_more (us ++ []) h) k fs (with_more (us' ++ []) u) (turn []) dear)
            by_cost true paid =
                let tells : (more : List Outcome) → y0 ∷ (ms0 ++ (fits more).0) ≡ fine.0 ∷ (fine.1 ++ still_tells w count (n - suc k) (with_more (us' ++ more) u)) =
                λ more.
                ap (λ (l : List Note). l ++ (fits more).0) (sym told)
                ∙ sym (fits more).1
                ∙ tale_goes p ex w.plan w.steps count n (with_more (us ++ more) h) k fs (with_more (us' ++ more) u) (turn more) paid
                ∙ ap (λ (l : List Note). l ++ still_tells w count (n - suc k) (with_more (us' ++ more) u)) fine.2 in
                let first = note_head y0 fine.0 (ms0 ++ (fits []).0) (fine.1 ++ still_tells w count (n - suc k) (with_more (us' ++ []) u)) (tells []) in
                let met = met_by y0 ms0 (ap (λ (y : Note). y.event) first ∙ fine.3) told in
                by_mirror paid
                (λ more. sym (note_tail y0 fine.0 (ms0 ++ (fits more).0) (fine.1 ++ still_tells w count (n - suc k) (with_more (us' ++ more) u)) (tells more)))
                first met (mirror w i call lines m will keeps met.0 met.2 met.3 met.5)

        -- an outcome that no call meets
        b_wild : (us' : List Outcome) (e : End) → us ≡ refused e ∷ us' → is_stalled e ≡ true → Begun part ms
        b_wild us' e eu wild = by_cost (nat_lt a.k n) refl
          where
            turn : protocol p ex w.plan (with_more (us ++ []) h) ≡ held_asked p ex w.plan a.k a.import a.args a.who a.l (refused e ∷ (us' ++ []))
            turn = a.same (us ++ []) ∙ ap (λ (l : List Outcome). held_asked p ex w.plan a.k a.import a.args a.who a.l (l ++ [])) eu

            tame_of : (o : Outcome) (lines' : List AnswerLine) (z' : Midst) → Mirrors w i call lines m will o lines' z' → Tame o
            tame_of o lines' z' (is_chosen ch eo el ez kept) = subst Tame eo ch.tame
            tame_of o lines' z' (is_awaited aw value small eo el ez) = subst Tame (sym eo) tt

            by_cost : (b : Bool) → nat_lt a.k n ≡ b → Begun part ms
            by_cost false dear = spent_by [] (tale_dear p ex w.plan w.steps count n (with_more (us ++ []) h) a.k _ _ turn dear)
            by_cost true paid =
                let tells = tale_goes p ex w.plan w.steps count n (with_more (us ++ []) h) a.k _ _ turn paid in
                let first = note_head y0 _ (ms0 ++ (fits []).0) _ (ap (λ (l : List Note). l ++ (fits []).0) (sym told) ∙ sym (fits []).1 ∙ tells) in
                let met = met_by y0 ms0 (ap (λ (y : Note). y.event) first) told in
                let tame : Tame met.0 = tame_of met.0 met.2 met.3 (mirror w i call lines m will keeps met.0 met.2 met.3 met.5) in
                let same : met.0 ≡ refused e = outcome_head met.0 (refused e) met.1 us' (sym met.4 ∙ eu) in
                absurd (not_both (sym (subst Tame same tame) ∙ wild))

        b_asks : Begun part ms
        b_asks = by_us us refl
          where
            by_outcome : (o : Outcome) (us' : List Outcome) → us ≡ o ∷ us' → Tame o → Begun part ms
            by_outcome o us' eu tame =
                let r = asked_with p ex w.plan a.k a.import a.args a.who a.l o tame in b_answer o us' eu r.turn r.fine (λ more. a.same (o ∷ more) ∙ r.same more)

            by_end : (e : End) (us' : List Outcome) → us ≡ refused e ∷ us' → (b : Bool) → is_stalled e ≡ b → Begun part ms
            by_end e us' eu true wild = b_wild us' e eu wild
            by_end e us' eu false tame = by_outcome (refused e) us' eu tame

            by_us : (us0 : List Outcome) → us ≡ us0 → Begun part ms
            by_us [] eu = b_none eu
            by_us (given b ∷ us') eu = by_outcome (given b) us' eu tt
            by_us (refused e ∷ us') eu = by_end e us' eu (is_stalled e) refl

    b_any : (y0 : Note) (ms0 : List Note) → ms ≡ y0 ∷ ms0 → Kind p ex w.plan (λ (more : List Outcome). protocol p ex w.plan (with_more more h)) → Begun part ms
    b_any y0 ms0 told (inl g) = b_goes g.turn g.fine g.same
    b_any y0 ms0 told (inr a) = b_asks a y0 ms0 told

  -- from where a turn stands that was told so far it comes to an end behind what was told of it
  pub begun_ends : (count : ℕ) → On count
  begun_ends zero n h no_h part os lines m so keeps le st us ms fits un here tot =
      b_spent part os lines m so h no_h (us ++ []) (still_tells w zero n (with_more (us ++ []) h)) (st (us ++ [])) refl ms (fits []).0 (fits []).1 un us here tot keeps
  begun_ends (suc count) n h no_h part os lines m so keeps le st us [] fits un here tot =
      none_left part [] os us m (quiet [] os us lines m tt here tot keeps) refl (loop w i t tellers begin limit (suc count) n h no_h part os lines m so le st)
  begun_ends (suc count) n h no_h part os lines m so keeps le st us (y ∷ ms) fits un here tot =
      b_any count n h no_h part os lines m so keeps le st us (y ∷ ms) fits un here tot (begun_ends count) y ms refl (kind p ex w.plan h)

  -- from where a program stands that is due its turn comes to an end behind what was told of it
  pub begins_whole : begin.receive ≡ None → Posted tellers begin → KeepsPromises will begin.settled → Knows w t.met t.told limit → (us : List Outcome) (ms : List Note)
      → ((more : List Outcome) → (rest : List Note) × (protocol_story w (t.met ++ (us ++ more)) ≡ t.told ++ (ms ++ rest))) → Unended ms → Here ms us t.answers begin → total ≡ us → Begun [] ms
  begins_whole none posted keeps (it_stands s) us ms tells un here tot =
      begun_ends limit s.n s.h s.not_over [] [] t.answers begin (record { plain = tt; calls = λ will small keeps. (refl, refl, refl); none = none; known = (refl, refl, refl); posted = posted }) keeps
      (omega arith) s.story us ms
      (λ more. ((tells more).0, append_cancel_left t.told (still_tells w limit s.n (with_more (us ++ more) s.h)) (ms ++ (tells more).0) (sym (s.story (us ++ more)) ∙ (tells more).1))) un here tot
  begins_whole none posted keeps (only_ends xs x pl e story) us ms tells un here tot =
      let is = append_cancel_left t.told (xs ++ x ∷ []) (ms ++ (tells []).0) (sym (story (us ++ [])) ∙ (tells []).1) in
      whole [] ms (tells []).0 [] us begin (quiet ms [] us t.answers begin (free_before ms (tells []).0 xs x un pl (end_ends x.event e.0).0 (sym is)) here tot keeps)
      (end_from w i t tellers begin limit [] [] t.answers begin
      (record { plain = tt; calls = λ will small keeps. (refl, refl, refl); none = none; known = (refl, refl, refl); posted = posted }) xs x pl e (us ++ []) (story (us ++ [])))
      is
