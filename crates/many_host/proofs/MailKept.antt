-- What is known of mailboxes stays so from note to note of a turn.
use Rattle.std.proofs.Common.{arith, ◌≡◌, ◌<◌, ◌≤◌, ◌+◌, ◌^◌, ◌⊎◌, inl, inr, ℕ, List, [], ◌∷◌, ◌++◌, Option, Some, None, Bool, true, false, nat_eq, All, slice_get, refl, sym, ap, ◌∙◌, subst, append_assoc}
use Rattle.std.specs.List.{find}
use Rattle.std.proofs.lemmas.Bool.{cases_lt, eqb-true}
use Rattle.std.proofs.lemmas.List.Elements.{All-tail}
use Rattle.std.proofs.lemmas.Option.{same_Some}
use Rattle.wa_types.specs.declared.values.Value.{Value}
use Rattle.wa_types.specs.declared.values.Value.TheVariants as V
use Rattle.wa_types.specs.Syntax.{Module}
use Rattle.wa_model.specs.Outside.{AnswerLine, Call}
use Rattle.wa_model.specs.Plan.{Outcome}
use Rattle.world_model.specs.World.{Device, Program, base_names, name_at}
use Rattle.mailbox_device.specs.declared.mailbox.Settled.{Settled}
use Rattle.mailbox_device.specs.Mail.{Box, IsServed, Mail, at_box, is_box, names_of, received, receiver, sent, sent_past, waits_at_all}
use Rattle.mailbox_device.proofs.Orderly.{served_received, served_sent}
use Rattle.mail_laws.specs.MailWorld.{pauses}
use Rattle.mail_laws.specs.Told.{Amid, AreSent, Await, IsWaiting, StillWait, Teller}
use Rattle.mail_laws.proofs.CallsTold.{AreSmall, are_sent, one_where, still_wait, times, times_settled, times_waiting}
use Rattle.host_laws.specs.Supplies.{bound_to}
use Rattle.pause_host.specs.Mailing.{AsksBound, AsksBox, AsksNamed, AsksValues, MailSupply, TakesMail, amid_of}
use Rattle.many_host.specs.MailStanding.{MailStands, SomeDue}
use Rattle.many_host.specs.MailTurns.{AllWaitThere, MailStandsAmid, WaitsThere}
use Rattle.many_host.proofs.MailBoxes.{changed_all, changed_names, changed_times, found_all, sent_is, settled_on, waiter, waits_is}

-- ---- at the beginning of a turn

-- who waits at a mailbox has told a pause last
pub paused_there : (names : List (List ℕ)) (tellers : List Teller) (mail : Mail) → MailStands names tellers mail → (j : ℕ) (t : Teller) → waits_at_all j mail.boxes ≡ 1 → slice_get tellers j ≡ Some t
    → pauses t.told ≡ true
paused_there names tellers mail s j t waits there =
    let w = waits_is j mail.boxes in
    let x = waiter tellers j mail.boxes s.waiting (omega (arith, w, waits)) in
    ap (λ (y : Teller). pauses y.told) (same_Some t x.there.t (sym there ∙ x.there.there)) ∙ x.there.paused

pub begins_amid : (names : List (List ℕ)) (tellers : List Teller) (mail : Mail) (ds : List Device) → MailStands names tellers mail → SomeDue tellers
    → MailStandsAmid names tellers (record (amid_of ds mail None) { settled = [] })
begins_amid names tellers mail ds s due =
    record {
      names_are = s.names_are;
      waiting = s.waiting;
      served = s.once.served;
      once = λ j. let e = sent_is j [] in let h = s.once.once j in omega (arith, e, h);
      paused = λ j t r there waits. paused_there names tellers mail s j t (s.each j t r there waits) there;
      each = λ j t r there some behind. let e = sent_is j [] in let h = s.stalled j t r there some behind in omega (arith, e, h);
      live = s.live due;
      empty = λ r e. absurd (let no : None ≡ Some r = e in cc);
    }

-- ---- one call

-- What a new call does to mailboxes: nothing, or it sends a value, or takes one, or finds none.
pub data MovesMail (m m' : Amid) : Type 0 where
  stays : m'.boxes ≡ m.boxes → m'.settled ≡ m.settled → m'.receive ≡ m.receive → MovesMail m m'
  posts : (name : List ℕ) (v : ℕ) (b : Box) → find (is_box name) m.boxes ≡ Some b → v < 2 ^ 32
      → m' ≡ record m { boxes = at_box (sent v) name m.boxes; settled = m.settled ++ receiver v b.waits } → MovesMail m m'
  takes : (name : List ℕ) (v : ℕ) (vs : List ℕ) (b : Box) → find (is_box name) m.boxes ≡ Some b → b.values ≡ v ∷ vs → m' ≡ record m { boxes = at_box (received vs) name m.boxes } → MovesMail m m'
  finds_none : (r : Await) (b : Box) → find (is_box r.box) m.boxes ≡ Some b → b.values ≡ [] → m' ≡ record m { receive = Some r } → MovesMail m m'

as_it_was : (m m' : Amid) → m' ≡ m → MovesMail m m'
as_it_was m m' e = stays (ap (λ (z : Amid). z.boxes) e) (ap (λ (z : Amid). z.settled) e) (ap (λ (z : Amid). z.receive) e)

values_move : (import : ℕ) (name : List ℕ) (m : Amid) (o : Outcome) (m' : Amid) (b : Box) → find (is_box name) m.boxes ≡ Some b → (vs : List ℕ) → b.values ≡ vs → AsksValues import name vs m o m'
    → MovesMail m m'
values_move import name m o m' b f [] e h = finds_none (record { import = import; box = name }) b f e h.1
values_move import name m o m' b f (v ∷ vs) e h = takes name v vs b f e h.2

box_moves : (import : ℕ) (name : List ℕ) (args : List Value) (b : Box) (m : Amid) (o : Outcome) (m' : Amid) → find (is_box name) m.boxes ≡ Some b → AsksBox import name args b m o m' → MovesMail m m'
box_moves import name [] b m o m' f h = values_move import name m o m' b f b.values refl h
box_moves import name (V.I32 v ∷ []) b m o m' f h = posts name v b f h.0 h.2
box_moves import name (V.I32 v ∷ y ∷ ys) b m o m' f h = as_it_was m m' h.1
box_moves import name (V.I64 v ∷ ys) b m o m' f h = as_it_was m m' h.1

named_moves : (import : ℕ) (base name : List ℕ) (args : List Value) (found : Option Box) (m : Amid) (o : Outcome) (m' : Amid) → find (is_box name) m.boxes ≡ found
    → AsksNamed import base name args found m o m' → MovesMail m m'
named_moves import base name args None m o m' f h = stays (ap (λ (z : Amid). z.boxes) h.2) (ap (λ (z : Amid). z.settled) h.2) (ap (λ (z : Amid). z.receive) h.2)
named_moves import base name args (Some b) m o m' f h = box_moves import name args b m o m' f h

bound_moves : (p : Module) (import : ℕ) (args : List Value) (bound : Option (List ℕ)) (lines : List AnswerLine) (m : Amid) (o : Outcome) (lines' : List AnswerLine) (m' : Amid)
    → AsksBound p import args bound lines m o lines' m' → MovesMail m m'
bound_moves p import args None lines m o lines' m' h = as_it_was m m' h.1
bound_moves p import args (Some name) lines m o lines' m' h = named_moves import (name_at (base_names p) import) name args (find (is_box name) m.boxes) m o m' refl h.0

-- what a note takes
pub takes_moves : (w : Program) (c : Option Call) (old : MailSupply) (os : List Outcome) (new : MailSupply) → TakesMail w c old os new → MovesMail old.amid new.amid
takes_moves w None old os new h = as_it_was old.amid new.amid (ap (λ (z : MailSupply). z.amid) h.1)
takes_moves w (Some c) old os new h = bound_moves w.source c.import c.args (bound_to w c.import) old.lines old.amid h.0 new.lines new.amid h.2.meets

-- ---- what was sent before

-- with these settled in front
abbrev pub settled_first : List Settled → Amid → Amid
settled_first ss m = record m { settled = ss ++ m.settled }

module _ (ss : List Settled) where
  values_behind : (import : ℕ) (name : List ℕ) (vs : List ℕ) (m : Amid) (o : Outcome) (m' : Amid) → AsksValues import name vs m o m' → AsksValues import name vs (settled_first ss m) o (settled_first ss m')
  values_behind import name [] m o m' h = (h.0, ap (settled_first ss) h.1)
  values_behind import name (v ∷ vs) m o m' h = (h.0, h.1, ap (settled_first ss) h.2)

  box_behind : (import : ℕ) (name : List ℕ) (args : List Value) (b : Box) (m : Amid) (o : Outcome) (m' : Amid) → AsksBox import name args b m o m'
      → AsksBox import name args b (settled_first ss m) o (settled_first ss m')
  box_behind import name [] b m o m' h = values_behind import name b.values m o m' h
  box_behind import name (V.I32 v ∷ []) b m o m' h = (
    h.0,
    h.1,
    ap (settled_first ss) h.2
        ∙ (λ k. record { devices = m.devices; boxes = at_box (sent v) name m.boxes; settled = sym (append_assoc ss m.settled (receiver v b.waits)) k; receive = m.receive }),
  )
  box_behind import name (V.I32 v ∷ y ∷ ys) b m o m' h = (h.0, ap (settled_first ss) h.1)
  box_behind import name (V.I64 v ∷ ys) b m o m' h = (h.0, ap (settled_first ss) h.1)

  named_behind : (import : ℕ) (base name : List ℕ) (args : List Value) (found : Option Box) (m : Amid) (o : Outcome) (m' : Amid) → AsksNamed import base name args found m o m'
      → AsksNamed import base name args found (settled_first ss m) o (settled_first ss m')
  named_behind import base name args None m o m' h = (h.0, h.1, ap (settled_first ss) h.2)
  named_behind import base name args (Some b) m o m' h = box_behind import name args b m o m' h

  bound_behind : (p : Module) (import : ℕ) (args : List Value) (bound : Option (List ℕ)) (lines : List AnswerLine) (m : Amid) (o : Outcome) (lines' : List AnswerLine) (m' : Amid)
      → AsksBound p import args bound lines m o lines' m' → AsksBound p import args bound lines (settled_first ss m) o lines' (settled_first ss m')
  bound_behind p import args None lines m o lines' m' h = (h.0, ap (settled_first ss) h.1)
  bound_behind p import args (Some name) lines m o lines' m' h = (named_behind import (name_at (base_names p) import) name args (find (is_box name) m.boxes) m o m' h.0, h.1)

  -- a note takes what it takes whoever was sent a value before
  pub takes_behind : (w : Program) (c : Option Call) (old : MailSupply) (os : List Outcome) (new : MailSupply) → TakesMail w c old os new
      → TakesMail w c (record old { amid = settled_first ss old.amid }) os (record new { amid = settled_first ss new.amid })
  takes_behind w None old os new h = (h.0, ap (λ (z : MailSupply). record z { amid = settled_first ss z.amid }) h.1)
  takes_behind w (Some c) old os new h = (
    h.0,
    h.1,
    record { meets = bound_behind w.source c.import c.args (bound_to w c.import) old.lines old.amid h.0 new.lines new.amid h.2.meets; counts = h.2.counts },
  )

-- ---- what stays

past_name : (v : ℕ) (b : Box) (ws : List ℕ) → (sent_past v b ws).name ≡ b.name
past_name v b [] = refl
past_name v b (w ∷ ws) = refl

past_times : (v j : ℕ) (b : Box) (ws : List ℕ) → b.waits ≡ ws → times j (sent_past v b ws).waits + times_settled j (receiver v ws) ≡ times j ws + 0
past_times v j b [] is = let h : times j b.waits ≡ 0 = ap (times j) is in omega (arith, h)
past_times v j b (k ∷ ks) is = omega arith

past_waits : (P : List ℕ → ℕ → Type 0) (v : ℕ) (b : Box) (ws : List ℕ) → b.waits ≡ ws → All (P b.name) ws → All (P (sent_past v b ws).name) (sent_past v b ws).waits
past_waits P v b [] is all = subst (All (P b.name)) (sym is) all
past_waits P v b (k ∷ ks) is all = All-tail (P b.name) k ks all

small_receiver : (v : ℕ) (ws : List ℕ) → v < 2 ^ 32 → AreSmall (receiver v ws)
small_receiver v [] fits = tt
small_receiver v (j ∷ js) fits = (fits, tt)

small_on : (xs ys : List Settled) → AreSmall xs → AreSmall ys → AreSmall (xs ++ ys)
small_on [] ys h k = k
small_on (x ∷ xs) ys h k = (h.0, small_on xs ys h.1 k)

-- who is among those that were sent a value waited
pub sent_waits : (tellers : List Teller) (ss : List Settled) (j : ℕ) → AreSent tellers ss → 0 < times_settled j ss → IsWaiting tellers j
sent_waits tellers [] j sent h = absurd (omega (arith, h))
sent_waits tellers (s ∷ ss) j sent h = by (nat_eq j s.program) refl h (sent_waits tellers ss j sent.3)
  where
    by : (y : Bool) → nat_eq j s.program ≡ y → 0 < one_where y + times_settled j ss → (0 < times_settled j ss → IsWaiting tellers j) → IsWaiting tellers j
    by true e h on = subst (IsWaiting tellers) (sym (eqb-true j s.program e)) sent.0
    by false e h on = on (omega (arith, h))

pub sent_small : (tellers : List Teller) (ss : List Settled) → AreSent tellers ss → AreSmall ss
sent_small tellers [] sent = tt
sent_small tellers (s ∷ ss) sent = (sent.1, sent_small tellers ss sent.3)

module _ (names : List (List ℕ)) (mid : List Teller) where
  abbrev Waited : Box → Type 0
  Waited b = All (WaitsThere mid b.name) b.waits

  -- Mailboxes stand as they do in the midst of a turn, and those that were sent a value waited.
  pub record Kept (m : Amid) : Type 0 where
    pub stands : MailStandsAmid names mid m
    pub sent : AreSent mid m.settled

  pub at_once : (m : Amid) → MailStandsAmid names mid m → (j : ℕ) → times_settled j m.settled + times_waiting j m.boxes ≤ 1
  at_once m s j = let w = waits_is j m.boxes in let e = sent_is j m.settled in let h = s.once j in omega (arith, w, e, h)

  -- who waits at a mailbox does wait
  pub waits_now : (m : Amid) → MailStandsAmid names mid m → (j : ℕ) → 0 < times_waiting j m.boxes → IsWaiting mid j
  waits_now m s j some =
      let x = waiter mid j m.boxes s.waiting some in
      let w = waits_is j m.boxes in
      record { t = x.there.t; r = x.there.r; there = x.there.there; unfinished = s.live j x.there.t x.there.there (omega (arith, w, some)); waits = x.there.receive }

  pub still_of : (m : Amid) → MailStandsAmid names mid m → StillWait m.boxes m.settled
  still_of m s = still_wait m.boxes m.settled (λ j some. let h = at_once m s j in omega (arith, h, some))

  module _ (m : Amid) (k : Kept m) where
    abbrev s : MailStandsAmid names mid m
    s = k.stands

    -- the counts are the same
    record Same (m' : Amid) : Type 0 where
      names_are : names_of m'.boxes ≡ names
      waiting : AllWaitThere mid m'.boxes
      served : All IsServed m'.boxes
      total : (j : ℕ) → times_settled j m'.settled + times_waiting j m'.boxes ≡ times_settled j m.settled + times_waiting j m.boxes
      fewer : (j : ℕ) → times_waiting j m'.boxes ≤ times_waiting j m.boxes
      empty : (r : Await) → m'.receive ≡ Some r → (b : Box) × (find (is_box r.box) m'.boxes ≡ Some b) × (b.values ≡ [])
      small : AreSmall m'.settled

    kept_so : (m' : Amid) → Same m' → Kept m'
    kept_so m' x = record {
      stands = record {
        names_are = x.names_are;
        waiting = x.waiting;
        served = x.served;
        once = λ j. let w = waits_is j m'.boxes in let e = sent_is j m'.settled in let t = x.total j in let h = at_once m s j in omega (arith, w, e, t, h);
        paused = s.paused;
        each = λ j t r there some behind.
            let w = waits_is j m'.boxes in
            let e = sent_is j m'.settled in
            let w2 = waits_is j m.boxes in
            let e2 = sent_is j m.settled in
            let q = x.total j in
            let h = s.each j t r there some behind in
            omega (arith, w, e, w2, e2, q, h);
        live = λ j t there some.
            let w = waits_is j m'.boxes in
            let w2 = waits_is j m.boxes in
            let f = x.fewer j in
            s.live j t there (omega (arith, w, w2, f, some));
        empty = x.empty;
      };
      sent = are_sent mid m'.settled (λ j. let t = x.total j in let h = at_once m s j in omega (arith, t, h)) (λ j some. waited j some) x.small;
    }
      where
        waited : (j : ℕ) → 0 < times_settled j m'.settled → IsWaiting mid j
        waited j some = by (cases_lt 0 (times_waiting j m.boxes))
          where
            by : (0 < times_waiting j m.boxes) ⊎ (times_waiting j m.boxes ≤ 0) → IsWaiting mid j
            by (inl h) = waits_now m s j h
            by (inr none) = sent_waits mid m.settled j k.sent (let t = x.total j in omega (arith, t, none, some))

    no_receive : m.receive ≡ None → (r : Await) → m.receive ≡ Some r → ⊥
    no_receive none r e = let no : None ≡ Some r = sym none ∙ e in cc

    kept_posts : m.receive ≡ None → (name : List ℕ) (v : ℕ) (b : Box) → find (is_box name) m.boxes ≡ Some b → v < 2 ^ 32
        → Kept (record m { boxes = at_box (sent v) name m.boxes; settled = m.settled ++ receiver v b.waits })
    kept_posts none name v b f fits = kept_so (record m { boxes = at_box (sent v) name m.boxes; settled = m.settled ++ receiver v b.waits }) (record {
      names_are = changed_names (sent v) name (λ d. past_name v d d.waits) m.boxes ∙ s.names_are;
      waiting = changed_all (sent v) name Waited m.boxes b f s.waiting (past_waits (WaitsThere mid) v b b.waits refl (found_all Waited name m.boxes b f s.waiting));
      served = changed_all (sent v) name IsServed m.boxes b f s.served (served_sent v b (found_all IsServed name m.boxes b f s.served));
      total = λ j. let c = counts j in let o = settled_on j m.settled (receiver v b.waits) in omega (arith, c, o);
      fewer = λ j. let c = counts j in omega (arith, c);
      empty = λ r e. absurd (no_receive none r e);
      small = small_on m.settled (receiver v b.waits) (sent_small mid m.settled k.sent) (small_receiver v b.waits fits);
    })
      where
        counts : (j : ℕ) → times_waiting j (at_box (sent v) name m.boxes) + times_settled j (receiver v b.waits) ≡ times_waiting j m.boxes + 0
        counts j = changed_times (sent v) name j (times_settled j (receiver v b.waits)) 0 m.boxes b f (past_times v j b b.waits refl)

    kept_takes : m.receive ≡ None → (name : List ℕ) (v : ℕ) (vs : List ℕ) (b : Box) → find (is_box name) m.boxes ≡ Some b → b.values ≡ v ∷ vs
        → Kept (record m { boxes = at_box (received vs) name m.boxes })
    kept_takes none name v vs b f queued = kept_so (record m { boxes = at_box (received vs) name m.boxes }) (record {
      names_are = changed_names (received vs) name (λ d. refl) m.boxes ∙ s.names_are;
      waiting = changed_all (received vs) name Waited m.boxes b f s.waiting (found_all Waited name m.boxes b f s.waiting);
      served = changed_all (received vs) name IsServed m.boxes b f s.served (served_received v vs b queued (found_all IsServed name m.boxes b f s.served));
      total = λ j. let c = counts j in omega (arith, c);
      fewer = λ j. let c = counts j in omega (arith, c);
      empty = λ r e. absurd (no_receive none r e);
      small = sent_small mid m.settled k.sent;
    })
      where
        counts : (j : ℕ) → times_waiting j (at_box (received vs) name m.boxes) + 0 ≡ times_waiting j m.boxes + 0
        counts j = changed_times (received vs) name j 0 0 m.boxes b f refl

    kept_as : (m' : Amid) → m'.boxes ≡ m.boxes → m'.settled ≡ m.settled → ((r : Await) → m'.receive ≡ Some r → (b : Box) × (find (is_box r.box) m'.boxes ≡ Some b) × (b.values ≡ [])) → Kept m'
    kept_as m' bs ss empty = kept_so m' (record {
      names_are = ap names_of bs ∙ s.names_are;
      waiting = subst (AllWaitThere mid) (sym bs) s.waiting;
      served = subst (All IsServed) (sym bs) s.served;
      total = λ j l. times_settled j (ss l) + times_waiting j (bs l);
      fewer = λ j. let e = ap (times_waiting j) bs in omega (arith, e);
      empty = empty;
      small = subst AreSmall (sym ss) (sent_small mid m.settled k.sent);
    })

    pub kept_on : (m' : Amid) → m.receive ≡ None → MovesMail m m' → Kept m'
    kept_on m' none (stays bs ss r) = kept_as m' bs ss (λ q e. absurd (no_receive none q (sym r ∙ e)))
    kept_on m' none (posts name v b f fits is) = subst Kept (sym is) (kept_posts none name v b f fits)
    kept_on m' none (takes name v vs b f queued is) = subst Kept (sym is) (kept_takes none name v vs b f queued)
    kept_on m' none (finds_none r b f empty is) =
        subst Kept (sym is) (kept_as (record m { receive = Some r }) refl refl
        (λ q e. let same : r ≡ q = same_Some r q e in (b, subst (λ (x : Await). find (is_box x.box) m.boxes ≡ Some b) same f, empty)))
