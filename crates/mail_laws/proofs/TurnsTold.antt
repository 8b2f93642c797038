-- A program that is due tells a turn, whatever it is promised and others are.
use Rattle.std.proofs.Common.{arith, ◌≡◌, ◌<◌, ◌≤◌, ◌-◌, ◌^◌, ◌⊎◌, inl, inr, ℕ, zero, suc, List, [], ◌∷◌, ◌++◌, Option, Some, None, Bool, true, false, MatchBool, refl, sym, ap, ◌∙◌, subst}
use Rattle.std.proofs.Common.{append_assoc, append-nil}
use Rattle.std.specs.Prelude.{nat_lt, ◌||◌}
use Rattle.std.specs.List.{list_any}
use Rattle.wa_types.specs.declared.values.Value.{Value}
use Rattle.wa_types.specs.declared.values.Value.TheVariants as V
use Rattle.wa_model.specs.Machine.{Turn, stops, goes}
use Rattle.wa_model.specs.declared.events.End.TheVariants.{StepsSpent}
use Rattle.wa_model.specs.Outside.{Call, AnswerLine, Event, called, answered, paused, parked, returned, ended, shown}
use Rattle.wa_model.specs.Plan.{Outcome}
use Rattle.wa_model.specs.Blocking.{Note, note}
use Rattle.wa_model.specs.Protocol.{Exports, exports_of, Held, over, protocol, held_asked, store_held}
use Rattle.run_theory.proofs.Runs.{turned}
use Rattle.world_model.specs.World.{Program, call_in, ends_turn, is_end, unless_over, protocol_story}
use Rattle.host_laws.specs.Stretch.{meeting as with_more}
use Rattle.mail_laws.specs.Mailboxes.{Midst, CallsMeet, NoteMeets, Meets, mailed}
use Rattle.mail_laws.specs.MailWorld.{is_pause}
use Rattle.mail_laws.specs.Told.{Await, Amid, Teller, midst_by, pending, KeepsPromises, EndsOnce, Unended, ends_program}
use Rattle.mail_laws.specs.Stalling.{stalls, note_stalls}
use Rattle.mail_laws.proofs.OpenMoves.{IsTame, NotOver, Plain, Leaves, on_it_goes, it_pauses, it_ends, Fine, CallFine, spent_is, Asks, Kind, kind, asked_with}
use Rattle.mail_laws.proofs.Tales.{tale, tale_stops, tale_dear, tale_goes, tale_over, unwound, Unread, then_ends, then_pauses, unread, Receives, r_stops, r_ends, r_unwinds, receives}
use Rattle.mail_laws.specs.Replays.{wrong_in}
use Rattle.mail_laws.proofs.CallsTold.{Posted, Chosen, Awaits, choose}
use Rattle.mail_laws.proofs.KnownCalls.{CallFree, KnownCalls, KnownNote, OneQuiet, known_more, known_then_free}

-- ---- notes

pub unended_on : (xs ys : List Note) → Unended xs → Unended ys → Unended (xs ++ ys)
unended_on [] ys h k = k
unended_on (x ∷ xs) ys h k = (h.0, unended_on xs ys h.1 k)

pub plain_unended : (xs : List Note) → Plain xs → Unended xs
plain_unended [] h = tt
plain_unended (x ∷ xs) h = (h.0, plain_unended xs h.2)

pub free_last : (xs : List Note) (x : Note) → Plain xs → call_in x.event ≡ None → CallFree (xs ++ x ∷ [])
free_last [] x h e = (e, tt)
free_last (y ∷ xs) x h e = (h.1, free_last xs x h.2 e)

pub plain_free : (xs : List Note) → Plain xs → CallFree xs
plain_free [] h = tt
plain_free (x ∷ xs) h = (h.1, plain_free xs h.2)

pub ends_once : (xs : List Note) (x : Note) → Unended xs → ends_turn x.event ≡ true → EndsOnce (xs ++ x ∷ [])
ends_once [] x h e = subst (λ (b : Bool). MatchBool b (none ≡ []) (EndsOnce [])) (sym e) refl
  where
    none : List Note
    none = []
ends_once (y ∷ xs) x h e = subst (λ (b : Bool). MatchBool b (xs ++ x ∷ [] ≡ []) (EndsOnce (xs ++ x ∷ []))) (sym h.0) (ends_once xs x h.1 e)

pub no_end : (e : Event) → ends_turn e ≡ false → is_end e ≡ false
no_end (paused t u) h = absurd cc
no_end (ended how) h = absurd cc
no_end (called c) h = refl
no_end (answered c) h = refl
no_end (parked u) h = refl
no_end (returned i v) h = refl
no_end (shown i v) h = refl

pub end_ends : (e : Event) → is_end e ≡ true → (ends_turn e ≡ true) × (call_in e ≡ None)
end_ends (paused t u) h = absurd cc
end_ends (ended how) h = (refl, refl)
end_ends (called c) h = absurd cc
end_ends (answered c) h = absurd cc
end_ends (parked u) h = absurd cc
end_ends (returned i v) h = absurd cc
end_ends (shown i v) h = absurd cc

pub pause_ends : (e : Event) → is_pause e ≡ true → (ends_turn e ≡ true) × (call_in e ≡ None) × (is_end e ≡ false)
pause_ends (paused t u) h = (refl, refl, refl)
pause_ends (ended how) h = absurd cc
pause_ends (called c) h = absurd cc
pause_ends (answered c) h = absurd cc
pause_ends (parked u) h = absurd cc
pause_ends (returned i v) h = absurd cc
pause_ends (shown i v) h = absurd cc

pub call_goes_on : (e : Event) (c : Call) → e ≡ called c → (ends_turn e ≡ false) × (call_in e ≡ Some c)
call_goes_on e c is = (ap ends_turn is, ap call_in is)

or_nothing : (b : Bool) → (b || false) ≡ b
or_nothing true = refl
or_nothing false = refl

pub last_tells : (xs : List Note) (x : Note) → Unended xs → ends_program (xs ++ x ∷ []) ≡ is_end x.event
last_tells [] x h = or_nothing (is_end x.event)
last_tells (y ∷ xs) x h = ap (λ (b : Bool). b || ends_program (xs ++ x ∷ [])) (no_end y.event h.0) ∙ last_tells xs x h.1

any_on : (xs ys : List Note) → list_any note_stalls xs ≡ false → list_any note_stalls ys ≡ false → list_any note_stalls (xs ++ ys) ≡ false
any_on [] ys h k = k
any_on (x ∷ xs) ys h k = by (stalls x.event) h (any_on xs ys)
  where
    by : (b : Bool) → (b || list_any note_stalls xs) ≡ false → (list_any note_stalls xs ≡ false → list_any note_stalls ys ≡ false → list_any note_stalls (xs ++ ys) ≡ false)
        → (b || list_any note_stalls (xs ++ ys)) ≡ false
    by true e on = absurd cc
    by false e on = on e k

any_one : (x : Note) → stalls x.event ≡ false → list_any note_stalls (x ∷ []) ≡ false
any_one x h = or_nothing (stalls x.event) ∙ h

goes_calm : (e : Event) → ends_turn e ≡ false → stalls e ≡ false
goes_calm (paused t u) h = absurd cc
goes_calm (ended how) h = absurd cc
goes_calm (called c) h = refl
goes_calm (answered c) h = refl
goes_calm (parked u) h = refl
goes_calm (returned i v) h = refl
goes_calm (shown i v) h = refl

pub pause_calm : (e : Event) → is_pause e ≡ true → stalls e ≡ false
pause_calm (paused t u) h = refl
pause_calm (ended how) h = absurd cc
pause_calm (called c) h = absurd cc
pause_calm (answered c) h = absurd cc
pause_calm (parked u) h = absurd cc
pause_calm (returned i v) h = absurd cc
pause_calm (shown i v) h = absurd cc

unended_calm : (xs : List Note) → Unended xs → list_any note_stalls xs ≡ false
unended_calm [] h = refl
unended_calm (x ∷ xs) h = ap (λ (b : Bool). b || list_any note_stalls xs) (goes_calm x.event h.0) ∙ unended_calm xs h.1

-- notes up to one that tells no stall tell none
pub last_calm : (xs : List Note) (x : Note) → Unended xs → stalls x.event ≡ false → list_any note_stalls (xs ++ x ∷ []) ≡ false
last_calm xs x h e = any_on xs (x ∷ []) (unended_calm xs h) (any_one x e)

-- the value of a wrong type that the last of them tells
abbrev pub last_wrong : List Note → Option (Option Value)
last_wrong [] = None
last_wrong (x ∷ []) = wrong_in x.event
last_wrong (x ∷ y ∷ ys) = last_wrong (y ∷ ys)

pub last_tells_wrong : (xs : List Note) (x : Note) → last_wrong (xs ++ x ∷ []) ≡ wrong_in x.event
last_tells_wrong [] x = refl
last_tells_wrong (y ∷ []) x = refl
last_tells_wrong (y ∷ z ∷ xs) x = last_tells_wrong (z ∷ xs) x

pub some_receive : {X : Type 0} (r : X) → None ≡ Some r → ⊥
some_receive r e = cc

-- ---- calls

pub calls_free : (w : Program) (xs es : List Note) (os : List Outcome) (lines : List AnswerLine) (z : Midst) (os' : List Outcome) (lines' : List AnswerLine) (z' : Midst) → CallFree es
    → CallsMeet w xs os lines z os' lines' z' → CallsMeet w (xs ++ es) os lines z os' lines' z'
calls_free w [] [] os lines z os' lines' z' free h = h
calls_free w [] (e ∷ es) os lines z os' lines' z' free h =
    subst (λ (c : Option Call). NoteMeets w c os lines z (λ o l y. CallsMeet w es o l y os' lines' z')) (sym free.0) (calls_free w [] es os lines z os' lines' z' free.1 h)
calls_free w (x ∷ xs) es os lines z os' lines' z' free h = by (call_in x.event) h (λ o l y g. calls_free w xs es o l y os' lines' z' free g)
  where
    by : (c : Option Call) → NoteMeets w c os lines z (λ o l y. CallsMeet w xs o l y os' lines' z')
        → ((o : List Outcome) (l : List AnswerLine) (y : Midst) → CallsMeet w xs o l y os' lines' z' → CallsMeet w (xs ++ es) o l y os' lines' z')
        → NoteMeets w c os lines z (λ o l y. CallsMeet w (xs ++ es) o l y os' lines' z')
    by None g on = on os lines z g
    by (Some c) g on = (g.0, g.1, g.2, g.3, g.4, g.5, on g.1 g.2 g.3 g.6)

pub calls_more : (w : Program) (xs : List Note) (y : Note) (c : Call) (os : List Outcome) (o : Outcome) (lines mid lines' : List AnswerLine) (z d z' : Midst) → call_in y.event ≡ Some c
    → CallsMeet w xs os lines z [] mid d → Meets w c.import c.args mid d o lines' z' → CallsMeet w (xs ++ y ∷ []) (os ++ o ∷ []) lines z [] lines' z'
calls_more w [] y c os o lines mid lines' z d z' is h m =
    subst (λ (q : Option Call). NoteMeets w q (os ++ o ∷ []) lines z (λ us l e. CallsMeet w [] us l e [] lines' z')) (sym is) (
      o,
      [],
      lines',
      z',
      ap (λ (us : List Outcome). us ++ o ∷ []) (sym h.0),
      subst (λ (l : List AnswerLine). Meets w c.import c.args l z o lines' z') h.1 (subst (λ (e : Midst). Meets w c.import c.args mid e o lines' z') h.2 m),
      (refl, refl, refl),
    )
calls_more w (x ∷ xs) y c os o lines mid lines' z d z' is h m = by (call_in x.event) h (λ us l e g. calls_more w xs y c us o l mid lines' e d z' is g m)
  where
    by : (q : Option Call) → NoteMeets w q os lines z (λ us l e. CallsMeet w xs us l e [] mid d)
        → ((us : List Outcome) (l : List AnswerLine) (e : Midst) → CallsMeet w xs us l e [] mid d → CallsMeet w (xs ++ y ∷ []) (us ++ o ∷ []) l e [] lines' z')
        → NoteMeets w q (os ++ o ∷ []) lines z (λ us l e. CallsMeet w (xs ++ y ∷ []) us l e [] lines' z')
    by None g on = on os lines z g
    by (Some q) g on = (g.0, g.1 ++ o ∷ [], g.2, g.3, ap (λ (us : List Outcome). us ++ o ∷ []) g.4, g.5, on g.1 g.2 g.3 g.6)

-- ---- where a program stands

abbrev pub still_tells : Program → (count n : ℕ) → Held → List Note
still_tells w count n h = tale w.source (exports_of w.source) w.plan w.steps count n h

-- What it will tell is what its machine does from here with so many moves left, whatever its later calls meet.
pub record Stands (w : Program) (met : List Outcome) (told : List Note) (size : ℕ) : Type 0 where
  pub h : Held
  pub n : ℕ
  pub not_over : NotOver h
  pub story : (more : List Outcome) → protocol_story w (met ++ more) ≡ told ++ still_tells w size n (with_more more h)

-- so it does, or it ends by these notes
pub data Knows (w : Program) (met : List Outcome) (told : List Note) (size : ℕ) : Type 0 where
  it_stands : Stands w met told size → Knows w met told size
  only_ends : (xs : List Note) (x : Note) → Plain xs → IsTame x.event → ((more : List Outcome) → protocol_story w (met ++ more) ≡ told ++ (xs ++ x ∷ [])) → Knows w met told size

-- ---- a turn

module _ (w : Program) (i : ℕ) (t : Teller) (tellers : List Teller) (begin : Amid) (limit : ℕ) where
  -- where it ends at a receive that isn't answered, it ends for every value, by the same notes where both tell one value of a wrong type
  abbrev pub ForAny : List Note → List Outcome → Option Await → Type 0
  ForAny turn met receive =
      (r : Await) → receive ≡ Some r → (v : ℕ) (more : List Outcome) → (other : List Note)
      × (protocol_story w (t.met ++ met ++ mailed (Some (V.I32 v)) 1 ∷ more) ≡ t.told ++ other) × (last_wrong other ≡ last_wrong turn → other ≡ turn)

  -- what a turn leaves of its program
  pub data Behind (turn : List Note) (met : List Outcome) (receive : Option Await) : Type 0 where
    is_over : ends_program turn ≡ true → (value : ℕ) → value < 2 ^ 32 → (more : List Outcome) → protocol_story w (t.met ++ met ++ pending value receive ++ more) ≡ t.told ++ turn
        → ForAny turn met receive → Behind turn met receive
    is_paused : ends_program turn ≡ false → receive ≡ None → (size : ℕ) → size < limit → Stands w (t.met ++ met) (t.told ++ turn) size → Behind turn met receive
    is_parked : ends_program turn ≡ false → (r : Await) → receive ≡ Some r → (size : ℕ) → size < limit
        → ((v : ℕ) → Stands w (t.met ++ met ++ mailed (Some (V.I32 v)) 1 ∷ []) (t.told ++ turn) size) → Behind turn met receive

  pub record Turned : Type 0 where
    pub turn : List Note
    pub whole : EndsOnce turn
    pub calm : list_any note_stalls turn ≡ false
    pub met : List Outcome
    pub answers : List AnswerLine
    pub behind : Amid
    pub calls : (will : ℕ → ℕ) → ((j : ℕ) → will j < 2 ^ 32) → KeepsPromises will behind.settled
        → CallsMeet w turn (met ++ pending (will i) behind.receive) t.answers (midst_by will i begin) [] answers (midst_by will i behind)
    pub known : KnownCalls w turn met t.answers begin [] answers behind
    pub posted : Posted tellers behind
    pub after : Behind turn met behind.receive

  -- what was told of the turn so far
  pub record Sofar (part : List Note) (os : List Outcome) (lines : List AnswerLine) (m : Amid) : Type 0 where
    pub plain : Unended part
    pub calls : (will : ℕ → ℕ) → ((j : ℕ) → will j < 2 ^ 32) → KeepsPromises will m.settled → CallsMeet w part os t.answers (midst_by will i begin) [] lines (midst_by will i m)
    pub none : m.receive ≡ None
    pub known : KnownCalls w part os t.answers begin [] lines m
    pub posted : Posted tellers m

  abbrev pub Story : List Note → List Outcome → (List Outcome → List Note) → Type 0
  Story part os f = (more : List Outcome) → protocol_story w (t.met ++ (os ++ more)) ≡ t.told ++ (part ++ f more)

  -- nothing is received
  pub no_receive : (turn : List Note) (os : List Outcome) (lines : List AnswerLine) (m : Amid) (will : ℕ → ℕ) → m.receive ≡ None
      → CallsMeet w turn os t.answers (midst_by will i begin) [] lines (midst_by will i m)
      → CallsMeet w turn (os ++ pending (will i) m.receive) t.answers (midst_by will i begin) [] lines (midst_by will i m)
  no_receive turn os lines m will none h =
      subst (λ (us : List Outcome). CallsMeet w turn us t.answers (midst_by will i begin) [] lines (midst_by will i m)) (sym (ap (λ (o : Option Await). os ++ pending (will i) o) none ∙ append-nil os)) h

  -- its end
  abbrev pub end_turn : (part : List Note) (os : List Outcome) (lines : List AnswerLine) (m : Amid) → Sofar part os lines m → (xs : List Note) (x : Note) → Plain xs → IsTame x.event
      → (more : List Outcome) → protocol_story w (t.met ++ (os ++ more)) ≡ t.told ++ (part ++ (xs ++ x ∷ [])) → Turned
  end_turn part os lines m so xs x pl e more story =
      let ends = end_ends x.event e.0 in
      let all : Unended (part ++ xs) = unended_on part xs so.plain (plain_unended xs pl) in
      let same : (part ++ xs) ++ x ∷ [] ≡ part ++ (xs ++ x ∷ []) = append_assoc part xs (x ∷ []) in
      record {
        turn = part ++ (xs ++ x ∷ []);
        whole = subst EndsOnce same (ends_once (part ++ xs) x all ends.0);
        calm = subst (λ (l : List Note). list_any note_stalls l ≡ false) same (last_calm (part ++ xs) x all e.1);
        met = os;
        answers = lines;
        behind = m;
        calls = λ will small keeps.
            no_receive (part ++ (xs ++ x ∷ [])) os lines m will so.none
            (calls_free w part (xs ++ x ∷ []) os t.answers (midst_by will i begin) [] lines (midst_by will i m) (free_last xs x pl ends.1) (so.calls will small keeps));
        known = known_then_free w part (xs ++ x ∷ []) os t.answers lines begin m so.known so.none (free_last xs x pl ends.1);
        posted = so.posted;
        after = is_over (ap ends_program (sym same) ∙ last_tells (part ++ xs) x all ∙ e.0) 0 (omega arith) more
            (ap (λ (o : Option Await). protocol_story w (t.met ++ os ++ pending 0 o ++ more)) so.none
            ∙ ap (λ (us : List Outcome). protocol_story w (us ++ more)) (append-nil (t.met ++ os))
            ∙ ap (protocol_story w) (append_assoc t.met os more) ∙ story)
            (λ r e. absurd (some_receive r (sym so.none ∙ e)));
      }

  -- a pause
  abbrev pub pause_turn : (part : List Note) (os : List Outcome) (lines : List AnswerLine) (m : Amid) → Sofar part os lines m → (x : Note) → is_pause x.event ≡ true
      → (size n : ℕ) (u : Held) → NotOver u → size < limit → Story part os (λ (more : List Outcome). x ∷ still_tells w size n (with_more more u)) → Turned
  pause_turn part os lines m so x e size n u no_u lt story =
      let ends = pause_ends x.event e in
      record {
        turn = part ++ x ∷ [];
        whole = ends_once part x so.plain ends.0;
        calm = last_calm part x so.plain (pause_calm x.event e);
        met = os;
        answers = lines;
        behind = m;
        calls = λ will small keeps.
            no_receive (part ++ x ∷ []) os lines m will so.none
            (calls_free w part (x ∷ []) os t.answers (midst_by will i begin) [] lines (midst_by will i m) (ends.1, tt) (so.calls will small keeps));
        known = known_then_free w part (x ∷ []) os t.answers lines begin m so.known so.none (ends.1, tt);
        posted = so.posted;
        after = is_paused (last_tells part x so.plain ∙ ends.2) so.none size lt (record {
          h = u;
          n = n;
          not_over = no_u;
          story = λ more.
              ap (protocol_story w) (append_assoc t.met os more) ∙ story more
              ∙ ap (λ (l : List Note). t.told ++ l) (sym (append_assoc part (x ∷ []) (still_tells w size n (with_more more u))))
              ∙ sym (append_assoc t.told (part ++ x ∷ []) (still_tells w size n (with_more more u)));
        });
      }

  -- so far with plain notes
  abbrev pub with_plain : (part : List Note) (os : List Outcome) (lines : List AnswerLine) (m : Amid) → Sofar part os lines m → (es : List Note) → Plain es → Sofar (part ++ es) os lines m
  with_plain part os lines m so es pl =
      record {
        plain = unended_on part es so.plain (plain_unended es pl);
        calls = λ will small keeps. calls_free w part es os t.answers (midst_by will i begin) [] lines (midst_by will i m) (plain_free es pl) (so.calls will small keeps);
        none = so.none;
        known = known_then_free w part es os t.answers lines begin m so.known so.none (plain_free es pl);
        posted = so.posted;
      }

  -- with a call
  abbrev pub with_call : (part : List Note) (os : List Outcome) (lines : List AnswerLine) (m : Amid) → Sofar part os lines m → (y : Note) (c : Call) → y.event ≡ called c → (ch : Chosen w i c lines m)
      → Sofar (part ++ y ∷ []) (os ++ ch.o ∷ []) ch.lines' ch.m'
  with_call part os lines m so y c is ch =
      let goes_on = call_goes_on y.event c is in
      record {
        plain = unended_on part (y ∷ []) so.plain (goes_on.0, tt);
        calls = λ will small keeps.
            calls_more w part y c os ch.o t.answers lines ch.lines' (midst_by will i begin) (midst_by will i m) (midst_by will i ch.m') goes_on.1 (so.calls will small (ch.keeps will keeps))
            (ch.meets will keeps);
        none = ch.none ∙ so.none;
        known = known_more w part (y ∷ []) os (ch.o ∷ []) t.answers lines ch.lines' begin m ch.m' so.known so.none
            (subst (λ (q : Option Call). KnownNote w (OneQuiet []) q (ch.o ∷ []) lines m [] ch.lines' ch.m' (λ us l z. KnownCalls w [] us l z [] ch.lines' ch.m')) (sym goes_on.1)
            (inl (ch.o, [], ch.lines', ch.m', refl, ch.known, (refl, refl, refl))));
        posted = record {
          once = λ j. subst (λ (k : ℕ). k ≤ 1) (sym (ch.same j)) (so.posted.once j);
          waits = λ j some. so.posted.waits j (subst (λ (k : ℕ). 0 < k) (ch.same j) some);
          small = ch.small so.posted.small;
        };
      }

  -- a receive that isn't answered in this turn, and what comes behind it
  abbrev pub receive_turn : (part : List Note) (os : List Outcome) (lines : List AnswerLine) (m : Amid) → Sofar part os lines m → (y z : Note) (c : Call) → y.event ≡ called c → (aw : Awaits w i c lines m)
      → ends_turn z.event ≡ true → call_in z.event ≡ None → stalls z.event ≡ false
      → Behind ((part ++ y ∷ []) ++ z ∷ []) os (Some aw.r) → Turned
  receive_turn part os lines m so y z c is aw ends none calm after =
      let goes_on = call_goes_on y.event c is in
      let now : Amid = record { devices = m.devices; boxes = m.boxes; settled = m.settled; receive = Some aw.r } in
      record {
        turn = (part ++ y ∷ []) ++ z ∷ [];
        whole = ends_once (part ++ y ∷ []) z (unended_on part (y ∷ []) so.plain (goes_on.0, tt)) ends;
        calm = last_calm (part ++ y ∷ []) z (unended_on part (y ∷ []) so.plain (goes_on.0, tt)) calm;
        met = os;
        answers = lines;
        behind = now;
        calls = λ will small keeps.
            calls_free w (part ++ y ∷ []) (z ∷ []) (os ++ mailed (Some (V.I32 (will i))) 1 ∷ []) t.answers (midst_by will i begin) [] lines (midst_by will i now) (none, tt)
            (calls_more w part y c os (mailed (Some (V.I32 (will i))) 1) t.answers lines lines (midst_by will i begin) (midst_by will i m) (midst_by will i now) goes_on.1
            (so.calls will small keeps) (aw.meets will small));
        known =
            subst (λ (us : List Outcome). KnownCalls w ((part ++ y ∷ []) ++ z ∷ []) us t.answers begin [] lines now) (append-nil os)
            (subst (λ (ns : List Note). KnownCalls w ns (os ++ []) t.answers begin [] lines now) (sym (append_assoc part (y ∷ []) (z ∷ [])))
            (known_more w part (y ∷ z ∷ []) os [] t.answers lines lines begin m now so.known so.none
            (subst (λ (q : Option Call). KnownNote w (OneQuiet (z ∷ [])) q [] lines m [] lines now (λ us l u. KnownCalls w (z ∷ []) us l u [] lines now)) (sym goes_on.1)
            (inr (aw.r, aw.known, (z, refl, none), refl, refl, refl)))));
        posted = record { once = so.posted.once; waits = so.posted.waits; small = so.posted.small };
        after = after;
      }

  -- a receive behind which it ends, for every value
  pub ends_for_any : (part : List Note) (os : List Outcome) (f : List Outcome → List Note) → Story part os f → (y z : Note) (r : Await)
      → ((v : ℕ) (more : List Outcome) → (other : Note) × (f (mailed (Some (V.I32 v)) 1 ∷ more) ≡ y ∷ other ∷ []) × (wrong_in other.event ≡ wrong_in z.event → other ≡ z))
      → ForAny ((part ++ y ∷ []) ++ z ∷ []) os (Some r)
  ends_for_any part os f st y z r others q e v more =
      let o = others v more in (
        (part ++ y ∷ []) ++ o.0 ∷ [],
        ap (protocol_story w) (append_assoc t.met os (mailed (Some (V.I32 v)) 1 ∷ more))
            ∙ st (mailed (Some (V.I32 v)) 1 ∷ more)
            ∙ ap (λ (l : List Note). t.told ++ (part ++ l)) o.1
            ∙ ap (λ (l : List Note). t.told ++ l) (sym (append_assoc part (y ∷ []) (o.0 ∷ []))),
        λ same. ap (λ (x : Note). (part ++ y ∷ []) ++ x ∷ []) (o.2 (sym (last_tells_wrong (part ++ y ∷ []) o.0) ∙ same ∙ last_tells_wrong (part ++ y ∷ []) z)),
      )

  -- ---- on and on

  -- a turn that begins with these notes, whose calls met these outcomes and sent these values
  pub record From (part : List Note) (os : List Outcome) (m : Amid) : Type 0 where
    pub tu : Turned
    pub more : List Note
    pub is : tu.turn ≡ part ++ more
    pub later : List Outcome
    pub met_is : tu.met ≡ os ++ later
    pub sent : (will : ℕ → ℕ) → KeepsPromises will tu.behind.settled → KeepsPromises will m.settled

  abbrev pub behind_from : (part es : List Note) (os : List Outcome) (m : Amid) → From (part ++ es) os m → From part os m
  behind_from part es os m f = record { tu = f.tu; more = es ++ f.more; is = f.is ∙ append_assoc part es f.more; later = f.later; met_is = f.met_is; sent = f.sent }

  abbrev pub behind_call : (part es : List Note) (os : List Outcome) (o : Outcome) (m m' : Amid) → ((will : ℕ → ℕ) → KeepsPromises will m'.settled → KeepsPromises will m.settled)
      → From (part ++ es) (os ++ o ∷ []) m' → From part os m
  behind_call part es os o m m' keeps f = record {
    tu = f.tu;
    more = es ++ f.more;
    is = f.is ∙ append_assoc part es f.more;
    later = o ∷ f.later;
    met_is = f.met_is ∙ append_assoc os (o ∷ []) f.later;
    sent = λ will k. keeps will (f.sent will k);
  }

  abbrev pub end_from : (part : List Note) (os : List Outcome) (lines : List AnswerLine) (m : Amid) → Sofar part os lines m → (xs : List Note) (x : Note) → Plain xs → IsTame x.event
      → (more : List Outcome) → protocol_story w (t.met ++ (os ++ more)) ≡ t.told ++ (part ++ (xs ++ x ∷ [])) → From part os m
  end_from part os lines m so xs x pl e more story = record { tu = end_turn part os lines m so xs x pl e more story; more = xs ++ x ∷ []; is = refl; later = []; met_is = sym (append-nil os); sent = λ will k. k }

  abbrev pub pause_from : (part : List Note) (os : List Outcome) (lines : List AnswerLine) (m : Amid) → Sofar part os lines m → (x : Note) → is_pause x.event ≡ true
      → (size n : ℕ) (u : Held) → NotOver u → size < limit → Story part os (λ (more : List Outcome). x ∷ still_tells w size n (with_more more u)) → From part os m
  pause_from part os lines m so x e size n u no_u lt story = record { tu = pause_turn part os lines m so x e size n u no_u lt story; more = x ∷ []; is = refl; later = []; met_is = sym (append-nil os); sent = λ will k. k }

  abbrev pub receive_from : (part : List Note) (os : List Outcome) (lines : List AnswerLine) (m : Amid) → Sofar part os lines m → (y z : Note) (c : Call) → y.event ≡ called c → (aw : Awaits w i c lines m)
      → ends_turn z.event ≡ true → call_in z.event ≡ None → stalls z.event ≡ false
      → Behind ((part ++ y ∷ []) ++ z ∷ []) os (Some aw.r) → From part os m
  receive_from part os lines m so y z c is aw ends none calm after =
      record { tu = receive_turn part os lines m so y z c is aw ends none calm after; more = y ∷ z ∷ []; is = append_assoc part (y ∷ []) (z ∷ []); later = []; met_is = sym (append-nil os); sent = λ will k. k }

  abbrev p : Rattle.wa_types.specs.Syntax.Module
  p = w.source

  abbrev ex : Exports
  ex = exports_of w.source

  abbrev pub On : ℕ → Type 0
  On count = (n : ℕ) (u : Held) → NotOver u → (part : List Note) (os : List Outcome) (lines : List AnswerLine) (m : Amid) → Sofar part os lines m → count ≤ limit
      → Story part os (λ (more : List Outcome). still_tells w count n (with_more more u)) → From part os m

  -- a move, where its notes behind a call's lead
  pub move : (count n : ℕ) → suc count ≤ limit → On count → (part : List Note) (os : List Outcome) (lines : List AnswerLine) (m : Amid) → Sofar part os lines m → (es : List Note) (u : Held) → Leaves es u
      → Story part os (λ (more : List Outcome). es ++ still_tells w count n (with_more more u)) → From part os m
  move count n le on part os lines m so es u (on_it_goes pl no_u) st =
      behind_from part es os m
      (on n u no_u (part ++ es) os lines m (with_plain part os lines m so es pl) (omega (arith, le))
      (λ more. st more ∙ ap (λ (l : List Note). t.told ++ l) (sym (append_assoc part es (still_tells w count n (with_more more u))))))
  move count n le on part os lines m so es u (it_pauses x e is no_u) st =
      pause_from part os lines m so x is count n u no_u (omega (arith, le))
      (λ more. st more ∙ ap (λ (l : List Note). t.told ++ (part ++ (l ++ still_tells w count n (with_more more u)))) e)
  move count n le on part os lines m so es u (it_ends xs x s e pl is eu) st =
      end_from part os lines m so xs x pl is []
      (st []
      ∙ ap (λ (l : List Note). t.told ++ (part ++ (es ++ l))) (ap (λ (h : Held). still_tells w count n (with_more [] h)) eu ∙ tale_over p ex w.plan w.steps count n s)
      ∙ ap (λ (l : List Note). t.told ++ (part ++ l)) (append-nil es ∙ e))

  -- no move that its steps reach for
  spent_turn : (part : List Note) (os : List Outcome) (lines : List AnswerLine) (m : Amid) → Sofar part os lines m → (h : Held) → NotOver h → (more : List Outcome) (l : List Note)
      → protocol_story w (t.met ++ (os ++ more)) ≡ t.told ++ (part ++ l) → l ≡ unless_over w.steps (with_more more h) → From part os m
  spent_turn part os lines m so h no_h more l st is =
      end_from part os lines m so [] (note (ended (StepsSpent w.steps)) (store_held h)) tt (refl, refl) more
      (st ∙ ap (λ (k : List Note). t.told ++ (part ++ k)) (is ∙ spent_is w.steps more h no_h))

  module _ (count n : ℕ) (h : Held) (no_h : NotOver h) (part : List Note) (os : List Outcome) (lines : List AnswerLine) (m : Amid) (so : Sofar part os lines m) (le : suc count ≤ limit)
      (st : Story part os (λ (more : List Outcome). still_tells w (suc count) n (with_more more h))) (on : On count) where
    goes_turn : (o : Turn Held Note) → Fine o → ((more : List Outcome) → protocol p ex w.plan (with_more more h) ≡ turned (with_more more) o) → From part os m
    goes_turn stops fine same = spent_turn part os lines m so h no_h [] (still_tells w (suc count) n (with_more [] h)) (st []) (tale_stops p ex w.plan w.steps count n (with_more [] h) (same []))
    goes_turn (goes k es u) fine same = by_cost (nat_lt k n) refl
      where
        by_cost : (b : Bool) → nat_lt k n ≡ b → From part os m
        by_cost true paid =
            move count (n - suc k) le on part os lines m so es u fine
            (λ more. st more ∙ ap (λ (l : List Note). t.told ++ (part ++ l)) (tale_goes p ex w.plan w.steps count n (with_more more h) k es (with_more more u) (same more) paid))
        by_cost false dear =
            spent_turn part os lines m so h no_h [] (still_tells w (suc count) n (with_more [] h)) (st [])
            (tale_dear p ex w.plan w.steps count n (with_more [] h) k es (with_more [] u) (same []) dear)

    module _ (a : Asks p ex w.plan (λ (more : List Outcome). protocol p ex w.plan (with_more more h))) where
      abbrev call : Call
      call = record { import = a.import; args = a.args }

      answer_turn : (ch : Chosen w i call lines m) → (o : Turn Held Note) → CallFine call o
          → ((more : List Outcome) → protocol p ex w.plan (with_more (ch.o ∷ more) h) ≡ turned (with_more more) o) → From part os m
      answer_turn ch stops fine same =
          spent_turn part os lines m so h no_h (ch.o ∷ []) (still_tells w (suc count) n (with_more (ch.o ∷ []) h)) (st (ch.o ∷ []))
          (tale_stops p ex w.plan w.steps count n (with_more (ch.o ∷ []) h) (same []))
      answer_turn ch (goes k fs u) fine same = by_cost (nat_lt k n) refl
        where
          by_cost : (b : Bool) → nat_lt k n ≡ b → From part os m
          by_cost true paid =
              behind_call part (fine.0 ∷ []) os ch.o m ch.m' ch.keeps
              (move count (n - suc k) le on (part ++ fine.0 ∷ []) (os ++ ch.o ∷ []) ch.lines' ch.m' (with_call part os lines m so fine.0 call fine.3 ch) fine.1 u fine.4
              (λ more.
              ap (λ (us : List Outcome). protocol_story w (t.met ++ us)) (append_assoc os (ch.o ∷ []) more)
              ∙ st (ch.o ∷ more)
              ∙ ap (λ (l : List Note). t.told ++ (part ++ l)) (tale_goes p ex w.plan w.steps count n (with_more (ch.o ∷ more) h) k fs (with_more more u) (same more) paid)
              ∙ ap (λ (l : List Note). t.told ++ (part ++ (l ++ still_tells w count (n - suc k) (with_more more u)))) fine.2
              ∙ ap (λ (l : List Note). t.told ++ l) (sym (append_assoc part (fine.0 ∷ []) (fine.1 ++ still_tells w count (n - suc k) (with_more more u))))))
          by_cost false dear =
              spent_turn part os lines m so h no_h (ch.o ∷ []) (still_tells w (suc count) n (with_more (ch.o ∷ []) h)) (st (ch.o ∷ []))
              (tale_dear p ex w.plan w.steps count n (with_more (ch.o ∷ []) h) k fs (with_more [] u) (same []) dear)

      abbrev zero_first : List Outcome
      zero_first = mailed (Some (V.I32 0)) 1 ∷ []

      -- a receive behind which it ends
      received_end : (aw : Awaits w i call lines m) (y z : Note) → y.event ≡ called call → IsTame z.event
          → still_tells w (suc count) n (with_more zero_first h) ≡ y ∷ z ∷ []
          → ((v : ℕ) (more : List Outcome) → (other : Note) × (still_tells w (suc count) n (with_more (mailed (Some (V.I32 v)) 1 ∷ more) h) ≡ y ∷ other ∷ [])
          × (wrong_in other.event ≡ wrong_in z.event → other ≡ z)) → From part os m
      received_end aw y z is e tells others =
          let ends = end_ends z.event e.0 in
          receive_from part os lines m so y z call is aw ends.0 ends.1 e.1
          (is_over (last_tells (part ++ y ∷ []) z (unended_on part (y ∷ []) so.plain ((call_goes_on y.event call is).0, tt)) ∙ e.0) 0 (omega arith) []
          (ap (protocol_story w) (append-nil (t.met ++ os ++ zero_first) ∙ append_assoc t.met os zero_first)
          ∙ st zero_first
          ∙ ap (λ (l : List Note). t.told ++ (part ++ l)) tells
          ∙ ap (λ (l : List Note). t.told ++ l) (sym (append_assoc part (y ∷ []) (z ∷ []))))
          (ends_for_any part os (λ (more : List Outcome). still_tells w (suc count) n (with_more more h)) st y z aw.r others))

      receive_by : (aw : Awaits w i call lines m)
          → Receives p ex w.plan w.steps 0 call (λ (v : ℕ) (more : List Outcome). held_asked p ex w.plan a.k a.import a.args a.who a.l (mailed (Some (V.I32 v)) 1 ∷ more)) → From part os m
      receive_by aw (r_stops f) =
          spent_turn part os lines m so h no_h zero_first (still_tells w (suc count) n (with_more zero_first h)) (st zero_first)
          (tale_stops p ex w.plan w.steps count n (with_more zero_first h) (a.same zero_first ∙ f []))
      receive_by aw (r_ends k y z s is e f too) = by_cost (nat_lt k n) refl
        where
          by_cost : (b : Bool) → nat_lt k n ≡ b → From part os m
          by_cost true paid =
              received_end aw y z is e
              (tale_goes p ex w.plan w.steps count n (with_more zero_first h) k (y ∷ z ∷ []) (over s) (a.same zero_first ∙ f []) paid
              ∙ ap (λ (l : List Note). y ∷ z ∷ l) (tale_over p ex w.plan w.steps count (n - suc k) s))
              (λ v more.
              let d = too v in (
                d.other,
                tale_goes p ex w.plan w.steps count n (with_more (mailed (Some (V.I32 v)) 1 ∷ more) h) k (y ∷ d.other ∷ []) (over s) (a.same (mailed (Some (V.I32 v)) 1 ∷ more) ∙ d.made more) paid
                    ∙ ap (λ (l : List Note). y ∷ d.other ∷ l) (tale_over p ex w.plan w.steps count (n - suc k) s),
                d.same,
              ))
          by_cost false dear =
              spent_turn part os lines m so h no_h zero_first (still_tells w (suc count) n (with_more zero_first h)) (st zero_first)
              (tale_dear p ex w.plan w.steps count n (with_more zero_first h) k (y ∷ z ∷ []) (over s) (a.same zero_first ∙ f []) dear)
      receive_by aw (r_unwinds k y u is f) = by_cost (nat_lt k n) refl
        where
          goes_so : nat_lt k n ≡ true → (v : ℕ) (more : List Outcome)
              → still_tells w (suc count) n (with_more (mailed (Some (V.I32 v)) 1 ∷ more) h) ≡ y ∷ still_tells w count (n - suc k) (with_more more (unwound u v))
          goes_so paid v more =
              tale_goes p ex w.plan w.steps count n (with_more (mailed (Some (V.I32 v)) 1 ∷ more) h) k (y ∷ []) (with_more more (unwound u v))
              (a.same (mailed (Some (V.I32 v)) 1 ∷ more) ∙ f v more) paid

          by_unread : nat_lt k n ≡ true → Unread p ex w.plan w.steps (λ (v : ℕ) (more : List Outcome). still_tells w count (n - suc k) (with_more more (unwound u v))) count → From part os m
          by_unread paid (then_ends z e g) =
              received_end aw y z is e (goes_so paid 0 [] ∙ ap (λ (l : List Note). y ∷ l) (g 0 []))
              (λ v more. (z, goes_so paid v more ∙ ap (λ (l : List Note). y ∷ l) (g v more), λ q. refl))
          by_unread paid (then_pauses z r c2 n2 e no_r small g) =
              let ends = pause_ends z.event e in
              receive_from part os lines m so y z call is aw ends.0 ends.1 (pause_calm z.event e)
              (is_parked (last_tells (part ++ y ∷ []) z (unended_on part (y ∷ []) so.plain ((call_goes_on y.event call is).0, tt)) ∙ ends.2) aw.r refl c2 (omega (arith, small, le))
              (λ v. record {
                h = r v;
                n = n2;
                not_over = no_r v;
                story = λ more.
                    ap (protocol_story w) (append_assoc (t.met ++ os) (mailed (Some (V.I32 v)) 1 ∷ []) more ∙ append_assoc t.met os (mailed (Some (V.I32 v)) 1 ∷ more))
                    ∙ st (mailed (Some (V.I32 v)) 1 ∷ more)
                    ∙ ap (λ (l : List Note). t.told ++ (part ++ l)) (goes_so paid v more ∙ ap (λ (l : List Note). y ∷ l) (g v more))
                    ∙ ap (λ (l : List Note). t.told ++ l)
                    (sym (append_assoc (part ++ y ∷ []) (z ∷ []) (still_tells w c2 n2 (with_more more (r v))) ∙ append_assoc part (y ∷ []) (z ∷ still_tells w c2 n2 (with_more more (r v)))))
                    ∙ sym (append_assoc t.told ((part ++ y ∷ []) ++ z ∷ []) (still_tells w c2 n2 (with_more more (r v))));
              }))

          by_cost : (b : Bool) → nat_lt k n ≡ b → From part os m
          by_cost true paid = by_unread paid (unread p ex w.plan w.steps count (n - suc k) u)
          by_cost false dear =
              spent_turn part os lines m so h no_h zero_first (still_tells w (suc count) n (with_more zero_first h)) (st zero_first)
              (tale_dear p ex w.plan w.steps count n (with_more zero_first h) k (y ∷ []) (with_more [] (unwound u 0)) (a.same zero_first ∙ f 0 []) dear)

      call_turn : Chosen w i call lines m ⊎ Awaits w i call lines m → From part os m
      call_turn (inl ch) =
          let r = asked_with p ex w.plan a.k a.import a.args a.who a.l ch.o ch.tame in
          answer_turn ch r.turn r.fine (λ more. a.same (ch.o ∷ more) ∙ r.same more)
      call_turn (inr aw) = receive_by aw (receives p ex w.plan w.steps 0 a.k a.import a.args a.who a.l)

    any_turn : Kind p ex w.plan (λ (more : List Outcome). protocol p ex w.plan (with_more more h)) → From part os m
    any_turn (inl g) = goes_turn g.turn g.fine g.same
    any_turn (inr a) = call_turn a (choose w i (record { import = a.import; args = a.args }) lines m)

  pub loop : (count : ℕ) → On count
  loop zero n h no_h part os lines m so le st = spent_turn part os lines m so h no_h [] (still_tells w zero n (with_more [] h)) (st []) refl
  loop (suc count) n h no_h part os lines m so le st = any_turn count n h no_h part os lines m so le st (loop count) (kind p ex w.plan h)

  -- from where it stands
  pub turn_from : begin.receive ≡ None → Posted tellers begin → Knows w t.met t.told limit → Turned
  turn_from none posted (it_stands s) =
      (loop limit s.n s.h s.not_over [] [] t.answers begin (nothing none posted) (omega arith) s.story).tu
    where
      nothing : begin.receive ≡ None → Posted tellers begin → Sofar [] [] t.answers begin
      nothing none posted = record { plain = tt; calls = λ will small keeps. (refl, refl, refl); none = none; known = (refl, refl, refl); posted = posted }
  turn_from none posted (only_ends xs x pl e story) =
      end_turn [] [] t.answers begin (record { plain = tt; calls = λ will small keeps. (refl, refl, refl); none = none; known = (refl, refl, refl); posted = posted }) xs x pl e [] (story [])
