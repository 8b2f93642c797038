-- Notes that are told one after another where there are mailboxes.
use Rattle.std.proofs.Common.{arith, ◌≡◌, ◌<◌, ◌≤◌, ◌+◌, ◌^◌, ◌⊎◌, inl, inr, ℕ, suc, List, [], ◌∷◌, ◌++◌, map, Option, Some, None, Bool, true, false, ◌||◌, if◌then◌else◌, nat_eq, All, slice_get, slice_set, refl, sym, ap, ◌∙◌, subst, append_assoc, append-nil}
use Rattle.std.proofs.lemmas.List.{append_cancel_right, map-append, same_from_push, set-set}
use Rattle.std.proofs.lemmas.List.Elements.{All-cons, All-nil}
use Rattle.std.proofs.lemmas.Bool.{cases_eq, eq-eqb, ne_eqb}
use Rattle.std.proofs.lemmas.Option.{same_Some}
use Rattle.wa_model.specs.declared.answers.Detach.{Detach}
use Rattle.wa_model.specs.declared.events.End.TheVariants.{Stalled}
use Rattle.wa_model.specs.Outside.{AnswerLine, Call, Event, Line, called, answered, paused, parked, returned, ended, shown}
use Rattle.wa_model.specs.Plan.{Outcome}
use Rattle.wa_model.specs.Blocking.{Note, events_of}
use Rattle.world_model.specs.World.{Device, Look, Program, call_in, detached, ends_turn, events_with_looks, is_end, line_at, look_events, looks_after, put_off, bytes_shown}
use Rattle.world_laws.proofs.Places.{of_map, set_here, set_same, set_there}
use Rattle.mailbox_device.specs.declared.mailbox.Settled.{Settled}
use Rattle.mailbox_device.specs.Mail.{Box, empty_box, names_of}
use Rattle.mailbox_device.proofs.Orderly.{empty_waits, orderly_empty}
use Rattle.mail_laws.specs.Mailboxes.{CallsMeet}
use Rattle.mail_laws.specs.MailWorld.{is_pause, parks, pauses, store_behind, told_pause}
use Rattle.mail_laws.specs.Told.{Amid, AreSent, Await, IsLeast, IsWaiting, NotAmong, Teller, Tells, TellsTurn, Unended, begun_amid, due_of, ends_program, having_told, if_going, midst_by, parked_in, pending, settle_all, starting, tells_stall, tells_turn, waits_at}
use Rattle.mail_laws.proofs.Grown.{HasGot, got_at, settle_out}
use Rattle.mail_laws.proofs.GoingOn.{due_is, over_says}
use Rattle.mail_laws.proofs.CallsTold.{AreSmall, are_sent, not_among, one_here, times_settled}
use Rattle.mail_laws.proofs.Promises.{not_sent, still_sent}
use Rattle.mail_laws.proofs.TurnsTold.{calls_free, ends_once, last_tells}
use Rattle.pause_host.specs.Mailing.{MailSupply, MetSoFar, TakesMail, amid_of}
use Rattle.pause_host.proofs.MetSoFar.{one_more_met}
use Rattle.many_host.specs.Notes.{GoesOn}
use Rattle.many_host.specs.MailStanding.{MailStands, MeetMore, common_of, met_so_far, met_with}
use Rattle.many_host.specs.MailTurns.{AllWaitThere, TellsOnFrom, WaitsThere}
use Rattle.many_host.specs.ToldMail.{AllPaused, MailStalls, MailTurnAwake, MailTurnBegins, MailTurnEnds, MailTurnGoesOn, NothingMailTold, mail_behind}
use Rattle.many_host.proofs.Notes.{goes_on_more, looks_more, off_more, off_none}
use Rattle.many_host.proofs.MailBoxes.{settled_on, waits_is}
use Rattle.many_host.proofs.MailKept.{Kept, at_once, begins_amid, kept_on, sent_small, sent_waits, settled_first, still_of, takes_behind, takes_moves}
use Rattle.many_host.proofs.MailSettled.{ends_stand, nowhere, settle_on, settle_past, stall_stands}

-- ---- before the first event

no_start_waits : (programs : List Program) (i : ℕ) (t : Teller) → slice_get (map starting programs) i ≡ Some t → t.receive ≡ None
no_start_waits programs i t e = let x = of_map starting programs i t e in ap (λ (y : Teller). y.receive) (sym x.2)

names_empty : (names : List (List ℕ)) → names_of (map empty_box names) ≡ names
names_empty [] = refl
names_empty (n ∷ ns) = ap (λ (l : List (List ℕ)). n ∷ l) (names_empty ns)

nobody_waits : (tellers : List Teller) (names : List (List ℕ)) → AllWaitThere tellers (map empty_box names)
nobody_waits tellers [] = All-nil (λ (b : Box). All (WaitsThere tellers b.name) b.waits)
nobody_waits tellers (n ∷ ns) =
    All-cons (λ (b : Box). All (WaitsThere tellers b.name) b.waits) (empty_box n) (map empty_box ns) (All-nil (WaitsThere tellers n)) (nobody_waits tellers ns)

no_await : (t : Teller) (r : Await) → t.receive ≡ None → waits_at t ≡ Some r → ⊥
no_await t r none waits = let no : None ≡ Some r = sym none ∙ (over_says t.has_ended t.receive r waits).1 in cc

pub nothing_mail_told : NothingMailTold
nothing_mail_told begun programs detaches boxes ds = (
  (refl, refl, refl),
  record {
    names_are = names_empty boxes;
    unsettled = refl;
    waiting = nobody_waits (map starting programs) boxes;
    once = orderly_empty boxes;
    each = λ i t r there waits. absurd (no_await t r (no_start_waits programs i t there) waits);
    stalled = λ i t r there some behind. absurd (let no : None ≡ Some r = sym (no_start_waits programs i t there) ∙ some in cc);
    live = λ due i t there some. let e = empty_waits i boxes in let never : ⊥ = omega (arith, e, some) in absurd never;
  },
)

-- ---- a turn begins

-- who is due at a tick is awake
pub teller_due : (tellers : List Teller) (i due : ℕ) → slice_get (map due_of tellers) i ≡ Some (Some due)
    → (t : Teller) × (slice_get tellers i ≡ Some t) × (t.has_ended ≡ false) × (t.receive ≡ None) × (t.due ≡ due)
teller_due tellers i due there =
    let x = of_map due_of tellers i (Some due) there in
    let is = due_is x.0.has_ended x.0.receive x.0.due due x.2 in
    (x.0, x.1, is.0, is.1, sym is.2)

-- the program of the least due tick
pub awake_there : (tellers : List Teller) (i due : ℕ) (t : Teller) → IsLeast (map due_of tellers) i due → slice_get tellers i ≡ Some t → t.receive ≡ None
awake_there tellers i due t least there =
    let d = teller_due tellers i due least.there in
    let same : d.0 ≡ t = same_Some d.0 t (sym d.1 ∙ there) in
    ap (λ (y : Teller). y.receive) (sym same) ∙ d.3

-- who is due hasn't ended
pub live_there : (tellers : List Teller) (i due : ℕ) (t : Teller) → IsLeast (map due_of tellers) i due → slice_get tellers i ≡ Some t → t.has_ended ≡ false
live_there tellers i due t least there =
    let d = teller_due tellers i due least.there in
    let same : d.0 ≡ t = same_Some d.0 t (sym d.1 ∙ there) in
    ap (λ (y : Teller). y.has_ended) (sym same) ∙ d.2

pub mail_turn_awake : MailTurnAwake
mail_turn_awake begun programs detaches boxes ds count i due lines tellers now on =
    waits_is i now.boxes ∙ nowhere boxes on.mid i on.t on.there (awake_there on.mid i due on.t on.next on.there) now on.stands

told_nothing : (t : Teller) → t.has_ended ≡ false → t.receive ≡ None → having_told t [] [] t.answers None ≡ t
told_nothing t unfinished awake =
    λ k. record {
      due = due k;
      has_ended = sym unfinished k;
      answers = t.answers;
      told = append-nil t.told k;
      met = append-nil t.met k;
      receive = sym awake k;
    }
  where
    due : t.due + 0 ≡ t.due
    due = omega arith

pub mail_turn_begins : MailTurnBegins
mail_turn_begins begun programs detaches boxes ds es mail count last i due lines tellers w tells stands program least =
    let d = teller_due tellers i due least.there in
    let amid = begins_amid boxes tellers mail (detached (suc (begun + count)) detaches es) stands (i, due, least.there) in (
      d.0,
      d.1,
      d.2,
      d.3,
      record {
        before = lines;
        mid = tellers;
        c = common_of es mail last;
        whole = tells;
        w = w;
        t = d.0;
        program = program;
        there = d.1;
        due_is = d.4;
        next = least;
        turn = [];
        goes_on = tt;
        met = [];
        answers = d.0.answers;
        calls = λ will small keeps. (refl, refl, refl);
        sent = tt;
        still = still_of boxes tellers (record (amid_of (detached (suc (begun + count)) detaches es) mail None) { settled = [] }) amid;
        stands = amid;
        made = sym (append-nil lines);
        after = sym (ap (slice_set tellers i) (told_nothing d.0 d.2 d.3) ∙ set_same tellers i d.0 d.1);
      },
    )

-- ---- notes

goes_unended : (xs : List Note) → GoesOn xs → Unended xs
goes_unended [] g = tt
goes_unended (x ∷ xs) g = (g.0, goes_unended xs g.1)

quiet_ends : (x : Note) → ends_turn x.event ≡ false → is_end x.event ≡ false
quiet_ends x e = by x.event e
  where
    by : (v : Event) → ends_turn v ≡ false → is_end v ≡ false
    by (paused t u) h = absurd cc
    by (ended how) h = absurd cc
    by (called c) h = refl
    by (answered c) h = refl
    by (parked u) h = refl
    by (returned i v) h = refl
    by (shown i v) h = refl

pub ends_none : (xs : List Note) → GoesOn xs → ends_program xs ≡ false
ends_none [] g = refl
ends_none (y ∷ ys) g = ap (λ (b : Bool). b || ends_program ys) (quiet_ends y g.0) ∙ ends_none ys g.1

or_nothing : (b : Bool) → (b || false) ≡ b
or_nothing true = refl
or_nothing false = refl

no_call : (e : Event) → ends_turn e ≡ true → call_in e ≡ None
no_call (paused t u) h = refl
no_call (ended how) h = refl
no_call (called c) h = absurd cc
no_call (answered c) h = absurd cc
no_call (parked u) h = absurd cc
no_call (returned i v) h = absurd cc
no_call (shown i v) h = absurd cc

pauses_more : (xs : List Note) (x : Note) → pauses (xs ++ x ∷ []) ≡ is_pause x.event
pauses_more [] x = refl
pauses_more (y ∷ []) x = refl
pauses_more (y ∷ z ∷ xs) x = pauses_more (z ∷ xs) x

-- what a program has told, with one note more
told_more : (t : Teller) (turn : List Note) (met more : List Outcome) (answers last : List AnswerLine) (r r' : Option Await) (x : Note) → GoesOn turn
    → having_told (having_told t turn met answers r) (x ∷ []) more last r' ≡ having_told t (turn ++ x ∷ []) (met ++ more) last r'
told_more t turn met more answers last r r' x g =
    λ k. record {
      due = due k;
      has_ended = ended k;
      answers = last;
      told = append_assoc t.told turn (x ∷ []) k;
      met = append_assoc t.met met more k;
      receive = r';
    }
  where
    due : (t.due + put_off turn) + put_off (x ∷ []) ≡ t.due + put_off (turn ++ x ∷ [])
    due = omega (arith, off_none turn g, off_more turn x g)

    ended : ends_program (x ∷ []) ≡ ends_program (turn ++ x ∷ [])
    ended = or_nothing (is_end x.event) ∙ sym (last_tells turn x (goes_unended turn g))

not_last : (i : ℕ) (xs ys : List Settled) → NotAmong i (xs ++ ys) → NotAmong i ys
not_last i [] ys h = h
not_last i (x ∷ xs) ys h = not_last i xs ys h.1

small_last : (xs ys : List Settled) → AreSmall (xs ++ ys) → AreSmall ys
small_last [] ys h = h
small_last (x ∷ xs) ys h = small_last xs ys h.1

all_paused : (tellers : List Teller) (ss : List Settled) → ((j : ℕ) → 0 < times_settled j ss → (t : Teller) → slice_get tellers j ≡ Some t → pauses t.told ≡ true) → AllPaused tellers ss
all_paused tellers [] each = tt
all_paused tellers (s ∷ ss) each = (each s.program (let o = one_here s.program in omega (arith, o)), all_paused tellers ss (λ j some. each j (omega (arith, some))))

-- what is known once a call more is
known_more : (met : List Outcome) (r r' : Option Await) (more known : List Outcome) → (more ≡ [] → r' ≡ r) → ((more ≡ []) ⊎ ((r ≡ None) × (o : Outcome) × (more ≡ o ∷ [])))
    → (met ++ pending 0 r) ++ more ≡ known ++ pending 0 r' → (new : List Outcome) × (known ≡ met ++ new)
known_more met r r' more known same (inl none) e =
    let all : met ++ pending 0 r ≡ known ++ pending 0 r = sym (append-nil (met ++ pending 0 r)) ∙ (λ k. (met ++ pending 0 r) ++ sym none k) ∙ e ∙ (λ k. known ++ pending 0 (same none k)) in
    ([], append_cancel_right known met (pending 0 r) (sym all) ∙ sym (append-nil met))
known_more met r None more known same (inr one) e =
    (more, sym (append-nil known) ∙ sym e ∙ ap (λ (q : Option Await). (met ++ pending 0 q) ++ more) one.0 ∙ ap (λ (l : List Outcome). l ++ more) (append-nil met))
known_more met r (Some q) more known same (inr one) e =
    let all : met ++ one.1 ∷ [] ≡ known ++ pending 0 (Some q) =
    ap (λ (l : List Outcome). l ++ one.1 ∷ []) (sym (append-nil met)) ∙ (λ k. (met ++ pending 0 (sym one.0 k)) ++ sym one.2 k) ∙ e in
    ([], sym (same_from_push met known one.1 _ all).0 ∙ sym (append-nil met))

module _ (begun : ℕ) (programs : List Program) (detaches : List Detach) (boxes : List (List ℕ)) (ds : List Device) (count i due : ℕ) (lines : List Line) (tellers : List Teller)
    (w : Program) (t : Teller) (x : Note) (now : Amid) (on : TellsOnFrom begun programs detaches boxes ds count i due lines tellers now)
    (program : slice_get programs i ≡ Some w) (there : slice_get tellers i ≡ Some t) where
  abbrev so_far : Teller
  so_far = having_told on.t on.turn on.met on.answers now.receive

  abbrev turn : List Note
  turn = on.turn ++ x ∷ []

  abbrev begin : Amid
  begin = begun_amid (suc (begun + count)) detaches on.c

  pub same_program : w ≡ on.w
  same_program = same_Some w on.w (sym program ∙ on.program)

  awake : on.t.receive ≡ None
  awake = awake_there on.mid i due on.t on.next on.there

  out : NotAmong i now.settled
  out = not_sent on.mid now.settled i on.t on.there awake on.sent

  pub same_teller : t ≡ so_far
  same_teller =
      same_Some t so_far
      (sym there
      ∙ ap (λ (l : List Teller). slice_get l i) on.after
      ∙ settle_out (suc due) now.settled (slice_set on.mid i so_far) i out
      ∙ set_here on.mid i so_far on.t on.there)

  -- the others are told as before the turn, but for those that were sent a value
  stays : (j : ℕ) → (j ≡ i → ⊥) → NotAmong j now.settled → slice_get tellers j ≡ slice_get on.mid j
  stays j other apart =
      ap (λ (l : List Teller). slice_get l j) on.after ∙ settle_out (suc due) now.settled (slice_set on.mid i so_far) j apart ∙ set_there on.mid i j so_far other

  kept : Kept boxes on.mid now
  kept = record { stands = on.stands; sent = on.sent }

  after : (more : List Outcome) (last : List AnswerLine) (r : Option Await)
      → slice_set tellers i (having_told t (x ∷ []) more last r) ≡ settle_all (suc due) now.settled (slice_set on.mid i (having_told on.t turn (on.met ++ more) last r))
  after more last r =
      (λ k. slice_set (on.after k) i (having_told (same_teller k) (x ∷ []) more last r))
      ∙ settle_past (suc due) now.settled (slice_set on.mid i so_far) i (having_told so_far (x ∷ []) more last r) out
      ∙ ap (settle_all (suc due) now.settled)
      (set-set on.mid i so_far (having_told so_far (x ∷ []) more last r) ∙ ap (slice_set on.mid i) (told_more on.t on.turn on.met more on.answers last now.receive r x on.goes_on))

  made_more : (e : Event) → lines ++ line_at due i e ∷ [] ≡ on.before ++ (map (line_at due i) (events_of on.turn) ++ line_at due i e ∷ [])
  made_more e = ap (λ (l : List Line). l ++ line_at due i e ∷ []) on.made ∙ append_assoc on.before (map (line_at due i) (events_of on.turn)) (line_at due i e ∷ [])

  -- ---- a note that goes on

  module _ (met : List Outcome) (old new : MailSupply) (ss : List Settled) (amid : old.amid ≡ now) (same_lines : old.lines ≡ t.answers)
      (settled_is : new.amid.settled ≡ now.settled ++ ss) (takes : TakesMail w (call_in x.event) old met new)
      (free : (call_in x.event ≡ None) ⊎ (t.receive ≡ None)) (quiet : ends_turn x.event ≡ false) where
    takes_now : TakesMail on.w (call_in x.event) (record { lines = on.answers; amid = now; faults = old.faults }) met new
    takes_now =
        subst (λ (v : Program). TakesMail v (call_in x.event) (record { lines = on.answers; amid = now; faults = old.faults }) met new) same_program
        (subst (λ (z : MailSupply). TakesMail w (call_in x.event) z met new)
        (λ k. record { lines = (same_lines ∙ ap (λ (y : Teller). y.answers) same_teller) k; amid = amid k; faults = old.faults }) takes)

    abbrev begin_supply : MailSupply
    begin_supply = record { lines = on.t.answers; amid = begin; faults = old.faults }

    abbrev now_supply : MailSupply
    now_supply = record { lines = on.answers; amid = now; faults = old.faults }

    free_now : (call_in x.event ≡ None) ⊎ (now.receive ≡ None)
    free_now = by free
      where
        by : (call_in x.event ≡ None) ⊎ (t.receive ≡ None) → (call_in x.event ≡ None) ⊎ (now.receive ≡ None)
        by (inl none) = inl none
        by (inr awake) = inr (ap (λ (y : Teller). y.receive) (sym same_teller) ∙ awake)

    so : MetSoFar on.w i on.turn begin_supply (on.met ++ pending 0 now.receive) now_supply
    so = record { known = on.met; outcomes = refl; calls = on.calls }

    pub more : MetSoFar on.w i turn begin_supply ((on.met ++ pending 0 now.receive) ++ met) new
    more = one_more_met on.w i on.turn begin_supply (on.met ++ pending 0 now.receive) now_supply x met new so takes_now free_now

    how_many : (c : Option Call) → TakesMail on.w c now_supply met new → (c ≡ None) ⊎ (now.receive ≡ None)
        → ((met ≡ []) ⊎ ((now.receive ≡ None) × (o : Outcome) × (met ≡ o ∷ []))) × (met ≡ [] → new.amid.receive ≡ now.receive)
    how_many None h f = (inl h.0, λ none. ap (λ (z : MailSupply). z.amid.receive) h.1)
    how_many (Some c) h (inl never) = absurd (let z : Some c ≡ None = never in cc)
    how_many (Some c) h (inr awake) = (inr (awake, h.0, h.1), λ none. absurd (let z : [] ≡ h.0 ∷ [] = sym none ∙ h.1 in cc))

    pub news : (known : List Outcome) × (more.known ≡ on.met ++ known)
    news = let h = how_many (call_in x.event) takes_now free_now in known_more on.met now.receive new.amid.receive met more.known h.1 h.0 more.outcomes

    abbrev next : Teller
    next = having_told t (x ∷ []) news.0 new.lines new.amid.receive

    kept_new : (c : Option Call) → TakesMail on.w c now_supply met new → (c ≡ None) ⊎ (now.receive ≡ None) → Kept boxes on.mid new.amid
    kept_new c h (inr awake) = kept_on boxes on.mid now kept new.amid awake (takes_moves on.w c now_supply met new h)
    kept_new None h (inl none) = subst (λ (z : MailSupply). Kept boxes on.mid z.amid) (sym h.1) kept
    kept_new (Some c) h (inl never) = absurd (let z : Some c ≡ None = never in cc)

    k : Kept boxes on.mid new.amid
    k = kept_new (call_in x.event) takes_now free_now

    pub is_known : met_so_far t ++ met ≡ met_so_far next
    is_known =
        (λ l. ((same_teller l).met ++ pending 0 (same_teller l).receive) ++ met)
        ∙ append_assoc (on.t.met ++ on.met) (pending 0 now.receive) met
        ∙ append_assoc on.t.met on.met (pending 0 now.receive ++ met)
        ∙ ap (λ (l : List Outcome). on.t.met ++ l) (sym (append_assoc on.met (pending 0 now.receive) met) ∙ more.outcomes ∙ ap (λ (l : List Outcome). l ++ pending 0 new.amid.receive) news.1)
        ∙ sym (append_assoc on.t.met (on.met ++ news.0) (pending 0 new.amid.receive))
        ∙ ap (λ (l : List Outcome). l ++ pending 0 new.amid.receive) (sym (append_assoc on.t.met on.met news.0))
        ∙ (λ l. ((sym same_teller l).met ++ news.0) ++ pending 0 new.amid.receive)

    pub goes_on_by : TellsOnFrom begun programs detaches boxes ds count i due (lines ++ line_at due i x.event ∷ []) (settle_all (suc due) ss (slice_set tellers i next)) new.amid
    goes_on_by =
        record {
          before = on.before;
          mid = on.mid;
          c = on.c;
          whole = on.whole;
          w = on.w;
          t = on.t;
          program = on.program;
          there = on.there;
          due_is = on.due_is;
          next = on.next;
          turn = turn;
          goes_on = goes_on_more on.turn x on.goes_on quiet;
          met = on.met ++ news.0;
          answers = new.lines;
          calls = λ will small keeps.
              subst (λ (l : List Outcome). CallsMeet on.w turn (l ++ pending (will i) new.amid.receive) on.t.answers (midst_by will i begin) [] new.lines (midst_by will i new.amid)) news.1
              (more.calls will small keeps);
          sent = k.sent;
          still = still_of boxes on.mid new.amid k.stands;
          stands = k.stands;
          made =
              made_more x.event
              ∙ ap (λ (l : List Line). on.before ++ l)
              (sym (ap (map (line_at due i)) (map-append (λ (y : Note). y.event) on.turn (x ∷ [])) ∙ map-append (line_at due i) (events_of on.turn) (x.event ∷ [])));
          after =
              ap (settle_all (suc due) ss) (after news.0 new.lines new.amid.receive)
              ∙ sym (settle_on (suc due) now.settled ss (slice_set on.mid i (having_told on.t turn (on.met ++ news.0) new.lines new.amid.receive)))
              ∙ ap (λ (l : List Settled). settle_all (suc due) l (slice_set on.mid i (having_told on.t turn (on.met ++ news.0) new.lines new.amid.receive))) (sym settled_is);
        }

    -- ---- those that it sends a value

    all_sent : AreSent on.mid (now.settled ++ ss)
    all_sent = subst (AreSent on.mid) settled_is k.sent

    once : (j : ℕ) → times_settled j now.settled + times_settled j ss ≤ 1
    once j = let o = at_once boxes on.mid new.amid k.stands j in let e = ap (times_settled j) settled_is in let s = settled_on j now.settled ss in omega (arith, o, e, s)

    waited : (j : ℕ) → 0 < times_settled j ss → IsWaiting on.mid j
    waited j some = sent_waits on.mid (now.settled ++ ss) j all_sent (let s = settled_on j now.settled ss in omega (arith, s, some))

    pub apart : NotAmong i ss
    apart = not_last i now.settled ss (not_sent on.mid (now.settled ++ ss) i on.t on.there awake all_sent)

    -- they are told as before the turn
    stays_sent : (j : ℕ) → 0 < times_settled j ss → slice_get tellers j ≡ slice_get on.mid j
    stays_sent j some = stays j other (not_among j now.settled (let o = once j in omega (arith, o, some)))
      where
        other : j ≡ i → ⊥
        other same =
            let q = waited j some in
            let is : on.t ≡ q.t = same_Some on.t q.t (sym on.there ∙ ap (slice_get on.mid) (sym same) ∙ q.there) in
            let no : None ≡ Some q.r = sym awake ∙ ap (λ (y : Teller). y.receive) is ∙ q.waits in
            cc

    pub are_sent_now : AreSent tellers ss
    are_sent_now =
        are_sent tellers ss (λ j. let o = once j in omega (arith, o))
        (λ j some. let q = waited j some in record { t = q.t; r = q.r; there = stays_sent j some ∙ q.there; unfinished = q.unfinished; waits = q.waits })
        (small_last now.settled ss (sent_small on.mid (now.settled ++ ss) all_sent))

    pub paused_now : AllPaused tellers ss
    paused_now =
        all_paused tellers ss
        (λ j some u eu. let q = waited j some in
        let is : u ≡ q.t = same_Some u q.t (sym eu ∙ stays_sent j some ∙ q.there) in
        ap (λ (y : Teller). pauses y.told) is ∙ on.stands.paused j q.t q.r q.there (λ l. if_going (q.unfinished l) (q.waits l)))

    base_sent : AreSent (slice_set tellers i next) ss
    base_sent = still_sent tellers ss i next apart are_sent_now

    pub meets_now : MeetMore i met tellers (settle_all (suc due) ss (slice_set tellers i next))
    meets_now j u u' eu eu' = by (cases_eq j i)
      where
        by : (j ≡ i) ⊎ (j ≡ i → ⊥) → (value : ℕ) × (value < 2 ^ 32) × (met_so_far u' ≡ met_with value u ++ (if nat_eq j i then met else []))
        by (inl same) =
            let was : u ≡ t = same_Some u t (sym eu ∙ ap (slice_get tellers) same ∙ there) in
            let is : u' ≡ next =
            same_Some u' next (sym eu' ∙ ap (slice_get (settle_all (suc due) ss (slice_set tellers i next))) same ∙ settle_out (suc due) ss (slice_set tellers i next) i apart ∙ set_here tellers i next t there) in (
              0,
              omega arith,
              ap met_so_far is ∙ sym is_known ∙ (λ l. met_so_far (sym was l) ++ (if sym (eq-eqb j i same) l then met else [])),
            )
        by (inr other) = by_got (got_at (suc due) ss (slice_set tellers i next) j u u' base_sent (set_there tellers i j next other ∙ eu) eu')
          where
            none_more : (value : ℕ) → met_with value u ≡ met_with value u ++ (if nat_eq j i then met else [])
            none_more value = sym (append-nil (met_with value u)) ∙ (λ l. met_with value u ++ (if sym (ne_eqb j i other) l then met else []))

            by_got : (u' ≡ u) ⊎ HasGot (suc due) u u' → (value : ℕ) × (value < 2 ^ 32) × (met_so_far u' ≡ met_with value u ++ (if nat_eq j i then met else []))
            by_got (inl is) = (0, omega arith, ap met_so_far is ∙ none_more 0)
            by_got (inr g) = (g.value, g.small, ap met_so_far g.is ∙ append-nil (u.met ++ pending g.value (Some g.r)) ∙ ap (λ (o : Option Await). u.met ++ pending g.value o) (sym g.receive) ∙ none_more g.value)

  -- ---- the last note

  abbrev last : Teller
  last = having_told t (x ∷ []) [] t.answers now.receive

  abbrev last_here : Teller
  last_here = having_told on.t turn (on.met ++ []) on.answers now.receive

  after_last : slice_set tellers i last ≡ settle_all (suc due) now.settled (slice_set on.mid i last_here)
  after_last = ap (λ (l : List AnswerLine). slice_set tellers i (having_told t (x ∷ []) [] l now.receive)) (ap (λ (y : Teller). y.answers) same_teller) ∙ after [] on.answers now.receive

  abbrev parking : Option Await
  parking = parks (x ∷ []) now.receive

  parks_so : parks turn now.receive ≡ parking
  parks_so = ap (λ (b : Bool). if b then now.receive else None) (pauses_more on.turn x)

  told_plain : (p : Option Await) (e : Event) → ends_turn e ≡ false → told_pause p e ≡ e
  told_plain None e h = refl
  told_plain (Some r) (paused ticks used) h = absurd cc
  told_plain (Some r) (ended how) h = refl
  told_plain (Some r) (called c) h = refl
  told_plain (Some r) (answered c) h = refl
  told_plain (Some r) (parked u) h = refl
  told_plain (Some r) (returned j v) h = refl
  told_plain (Some r) (shown j v) h = refl

  abbrev told : Option Await → Event → Line
  told p e = line_at due i (told_pause p e)

  told_turn : (p : Option Await) (xs : List Note) → GoesOn xs → map (told p) (events_of xs) ≡ map (line_at due i) (events_of xs)
  told_turn p [] g = refl
  told_turn p (y ∷ ys) g = λ l. line_at due i (told_plain p y.event g.0 l) ∷ told_turn p ys g.1 l

  told_looks : (p : Option Await) (looks : List Look) (e : Event) → map (told p) (looks_after looks x e) ≡ map (line_at due i) (looks_after looks x e)
  told_looks None looks e = refl
  told_looks (Some r) looks (paused ticks used) = refl
  told_looks (Some r) looks (called c) = refl
  told_looks (Some r) looks (answered c) = refl
  told_looks (Some r) looks (parked u) = refl
  told_looks (Some r) looks (returned j v) = refl
  told_looks (Some r) looks (shown j v) = refl
  told_looks (Some r) looks (ended how) = each looks
    where
      each : (ks : List Look) → map (told (Some r)) (look_events x.store ks) ≡ map (line_at due i) (look_events x.store ks)
      each [] = refl
      each (k ∷ ks) = ap (λ (l : List Line). line_at due i (shown k.at (bytes_shown x.store.memory k)) ∷ l) (each ks)

  abbrev last_lines : List Line
  last_lines = told parking x.event ∷ map (line_at due i) (looks_after w.looks x x.event)

  made_is : map (line_at due i) (events_of on.turn) ++ last_lines ≡ map (λ (e : Event). line_at on.t.due i (told_pause (parks turn now.receive) e)) (events_with_looks on.w.looks turn)
  made_is =
      (λ l. sym (told_turn parking on.turn on.goes_on) l ++ told parking x.event ∷ sym (told_looks parking w.looks x.event) l)
      ∙ sym (map-append (told parking) (events_of on.turn) (x.event ∷ looks_after w.looks x x.event))
      ∙ ap (map (told parking)) (sym (looks_more w.looks on.turn x on.goes_on))
      ∙ (λ l. map (λ (e : Event). line_at (sym on.due_is l) i (told_pause (sym parks_so l) e)) (events_with_looks (same_program l).looks turn))

  module _ (ends : ends_turn x.event ≡ true) where
    told_now : TellsTurn programs detaches (suc (begun + count)) on.mid on.c (map (line_at due i) (events_of on.turn) ++ last_lines) (slice_set tellers i last)
        (common_of now.devices (mail_behind i parking now) due)
    told_now =
        record {
          i = i;
          w = on.w;
          t = on.t;
          program = on.program;
          there = on.there;
          next = subst (λ (n : ℕ). IsLeast (map due_of on.mid) i n) (sym on.due_is) on.next;
          turn = turn;
          whole = ends_once on.turn x (goes_unended on.turn on.goes_on) ends;
          met = on.met;
          answers = on.answers;
          behind = now;
          calls = λ will small keeps.
              calls_free on.w on.turn (x ∷ []) (on.met ++ pending (will i) now.receive) on.t.answers (midst_by will i begin) [] on.answers (midst_by will i now) (no_call x.event ends, tt)
              (on.calls will small keeps);
          sent = on.sent;
          still = on.still;
          made = made_is;
          after =
              after_last
              ∙ ap (λ (l : List Outcome). settle_all (suc due) now.settled (slice_set on.mid i (having_told on.t turn l on.answers now.receive))) (append-nil on.met)
              ∙ ap (λ (n : ℕ). settle_all (suc n) now.settled (slice_set on.mid i (having_told on.t turn on.met on.answers now.receive))) (sym on.due_is);
          common = λ l. record { devices = now.devices; boxes = parked_in i (sym parks_so l) now.boxes; tick = sym on.due_is l };
        }

    pub ends_by : Tells begun programs detaches boxes ds (suc count) (lines ++ last_lines) (slice_set tellers i last) (common_of now.devices (mail_behind i parking now) due)
    ends_by = (
      on.before,
      map (line_at due i) (events_of on.turn) ++ last_lines,
      on.mid,
      on.c,
      on.whole,
      tells_turn told_now,
      ap (λ (l : List Line). l ++ last_lines) on.made ∙ append_assoc on.before (map (line_at due i) (events_of on.turn)) last_lines,
    )

    pub stands_by : MailStands boxes (slice_set tellers i last) (mail_behind i parking now)
    stands_by =
        subst (λ (l : List Teller). MailStands boxes l (mail_behind i parking now)) (sym after_last)
        (ends_stand boxes on.mid i on.t on.there awake now on.stands on.sent (suc due) last_here x.event ends refl (last_tells on.turn x (goes_unended on.turn on.goes_on))
        (ap pauses (sym (append_assoc on.t.told on.turn (x ∷ []))) ∙ pauses_more (on.t.told ++ on.turn) x))

  pub last_meets : MeetMore i [] tellers (slice_set tellers i last)
  last_meets j u u' eu eu' = (0, omega arith, by (cases_eq j i) ∙ sym (none (nat_eq j i)))
    where
      none : (b : Bool) → met_so_far u ++ (if b then [] else []) ≡ met_so_far u
      none true = append-nil (met_so_far u)
      none false = append-nil (met_so_far u)

      by : (j ≡ i) ⊎ (j ≡ i → ⊥) → met_so_far u' ≡ met_so_far u
      by (inl same) =
          let was : u ≡ t = same_Some u t (sym eu ∙ ap (slice_get tellers) same ∙ there) in
          let is : u' ≡ last = same_Some u' last (sym eu' ∙ ap (slice_get (slice_set tellers i last)) same ∙ set_here tellers i last t there) in
          ap met_so_far is
          ∙ (λ l. append-nil t.met l ++ pending 0 now.receive)
          ∙ ap (λ (o : Option Await). t.met ++ pending 0 o) (ap (λ (y : Teller). y.receive) (sym same_teller))
          ∙ ap met_so_far (sym was)
      by (inr other) = ap met_so_far (same_Some u' u (sym eu' ∙ set_there tellers i j last other ∙ eu))

pub mail_turn_goes_on : MailTurnGoesOn
mail_turn_goes_on begun programs detaches boxes ds count i due lines tellers sent w t x met old new on program there same none takes free quiet =
    record {
      known = (news begun programs detaches boxes ds count i due lines tellers w t x now on program there met old' new' new.amid.settled first same refl behind free quiet).0;
      is_known = is_known begun programs detaches boxes ds count i due lines tellers w t x now on program there met old' new' new.amid.settled first same refl behind free quiet;
      on = goes_on_by begun programs detaches boxes ds count i due lines tellers w t x now on program there met old' new' new.amid.settled first same refl behind free quiet;
      are_sent = are_sent_now begun programs detaches boxes ds count i due lines tellers w t x now on program there met old' new' new.amid.settled first same refl behind free quiet;
      paused = paused_now begun programs detaches boxes ds count i due lines tellers w t x now on program there met old' new' new.amid.settled first same refl behind free quiet;
      apart = apart begun programs detaches boxes ds count i due lines tellers w t x now on program there met old' new' new.amid.settled first same refl behind free quiet;
      meets = meets_now begun programs detaches boxes ds count i due lines tellers w t x now on program there met old' new' new.amid.settled first same refl behind free quiet;
    }
  where
    now : Amid
    now = record old.amid { settled = sent }

    old' : MailSupply
    old' = record old { amid = settled_first sent old.amid }

    new' : MailSupply
    new' = record new { amid = settled_first sent new.amid }

    first : old'.amid ≡ now
    first = λ k. record old.amid { settled = (ap (λ (l : List Settled). sent ++ l) none ∙ append-nil sent) k }

    behind : TakesMail w (call_in x.event) old' met new'
    behind = takes_behind sent w (call_in x.event) old met new takes

pub mail_turn_ends : MailTurnEnds
mail_turn_ends begun programs detaches boxes ds count i due lines tellers w t x now on program there ends = (
  ends_by begun programs detaches boxes ds count i due lines tellers w t x now on program there ends,
  stands_by begun programs detaches boxes ds count i due lines tellers w t x now on program there ends,
  last_meets begun programs detaches boxes ds count i due lines tellers w t x now on program there,
)

-- ---- none is due

pub mail_stalls : MailStalls
mail_stalls begun programs detaches boxes ds es mail count last i lines tellers w t r tells stands program there waits none_due first = (
  (
    lines,
    map (line_at last i) (ended (Stalled r.import) ∷ look_events (store_behind t.told) w.looks),
    tellers,
    common_of es mail last,
    tells,
    tells_stall (record {
      i = i;
      w = w;
      t = t;
      r = r;
      program = program;
      there = there;
      waits = waits;
      none_due = none_due;
      first = first;
      made = refl;
      after = refl;
      common = refl;
    }),
    refl,
  ),
  stall_stands boxes tellers mail stands i t there none_due,
)
