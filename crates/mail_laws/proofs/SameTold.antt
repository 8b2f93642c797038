-- What a program tells in a turn is fixed by where it stands, and by what its devices do.
use Rattle.std.proofs.Common.{◌≡◌, ◌⊎◌, inl, inr, ℕ, List, [], ◌∷◌, ◌++◌, length, Option, Some, Bool, true, false, MatchBool, refl, sym, ap, ◌∙◌, subst, append_assoc, append-nil}
use Rattle.std.proofs.lemmas.List.{append_cancel_left}
use Rattle.wa_types.specs.declared.values.Value.TheVariants as V
use Rattle.wa_model.specs.Outside.{Call, Line}
use Rattle.wa_model.specs.Plan.{Outcome}
use Rattle.wa_model.specs.Blocking.{Note}
use Rattle.host_laws.specs.Stretch.{meeting as with_more}
use Rattle.world_model.specs.World.{Device, Program, ends_turn, protocol_story}
use Rattle.world_laws.specs.Originals.{new_calls}
use Rattle.world_laws.proofs.Journals.{Grows}
use Rattle.mail_laws.specs.Mailboxes.{mailed}
use Rattle.mail_laws.specs.MailWorld.{parks}
use Rattle.mailbox_device.specs.Mail.{names_of}
use Rattle.mail_laws.specs.Replays.{IsNoBox}
use Rattle.mail_laws.specs.Told.{Amid, Await, EndsOnce, Teller, pending}
use Rattle.mail_laws.proofs.KnownCalls.{bound_to}
use Rattle.mail_laws.proofs.SameTurns.{Agree, Lines, turn_same}
use Rattle.mail_laws.proofs.TurnsTold.{Behind, Stands, Turned, is_over, is_parked, is_paused, last_wrong, some_receive, still_tells}

-- ---- turns at the front of notes

pub once_front : (xs ys a b : List Note) → EndsOnce xs → EndsOnce ys → xs ++ a ≡ ys ++ b → xs ≡ ys
once_front [] ys a b h k e = absurd h
once_front (x ∷ xs) [] a b h k e = absurd k
once_front (x ∷ xs) (y ∷ ys) a b h k e = by (ends_turn x.event) refl (λ h2 k2. once_front xs ys a b h2 k2 tails)
  where
    heads : x ≡ y
    heads = first e
      where
        first : x ∷ (xs ++ a) ≡ y ∷ (ys ++ b) → x ≡ y
        first e = cc

    tails : xs ++ a ≡ ys ++ b
    tails = rest e
      where
        rest : x ∷ (xs ++ a) ≡ y ∷ (ys ++ b) → xs ++ a ≡ ys ++ b
        rest e = cc

    by : (t : Bool) → ends_turn x.event ≡ t → (EndsOnce xs → EndsOnce ys → xs ≡ ys) → x ∷ xs ≡ y ∷ ys
    by true f on =
        let none1 : xs ≡ [] = subst (λ (b : Bool). MatchBool b (xs ≡ []) (EndsOnce xs)) f h in
        let none2 : ys ≡ [] = subst (λ (b : Bool). MatchBool b (ys ≡ []) (EndsOnce ys)) (ap (λ (n : Note). ends_turn n.event) (sym heads) ∙ f) k in
        λ j. heads j ∷ (none1 ∙ sym none2) j
    by false f on =
        let same = on (subst (λ (b : Bool). MatchBool b (xs ≡ []) (EndsOnce xs)) f h) (subst (λ (b : Bool). MatchBool b (ys ≡ []) (EndsOnce ys)) (ap (λ (n : Note). ends_turn n.event) (sym heads) ∙ f) k) in
        λ j. heads j ∷ same j

module _ (w : Program) (i : ℕ) (t : Teller) (tellers : List Teller) (begin : Amid) (limit : ℕ) where
  -- a story that goes on as this turn
  record Tail (turn : List Note) (met : List Outcome) : Type 0 where
    more : List Outcome
    rest : List Note
    story : protocol_story w (t.met ++ (met ++ more)) ≡ t.told ++ (turn ++ rest)

  abbrev Left : List Note → List Outcome → Option Await → Type 0
  Left turn met receive = Behind w i t tellers begin limit turn met receive

  tail_of : (turn : List Note) (met : List Outcome) (receive : Option Await) → Left turn met receive → Tail turn met
  tail_of turn met receive (is_over e value small more story any) = record {
    more = pending value receive ++ more;
    rest = [];
    story = ap (protocol_story w) (sym (append_assoc (t.met ++ met) (pending value receive) more ∙ append_assoc t.met met (pending value receive ++ more))) ∙ story
        ∙ ap (λ (ns : List Note). t.told ++ ns) (sym (append-nil turn));
  }
  tail_of turn met receive (is_paused e none size lt st) = record {
    more = [];
    rest = still_tells w size st.n (with_more [] st.h);
    story = ap (protocol_story w) (sym (append_assoc t.met met [])) ∙ st.story [] ∙ append_assoc t.told turn (still_tells w size st.n (with_more [] st.h));
  }
  tail_of turn met receive (is_parked e r some size lt st) =
      let s = st 0 in
      record {
        more = mailed (Some (V.I32 0)) 1 ∷ [];
        rest = still_tells w size s.n (with_more [] s.h);
        story = ap (protocol_story w) (sym (append-nil (t.met ++ met ++ mailed (Some (V.I32 0)) 1 ∷ []) ∙ append_assoc t.met met (mailed (Some (V.I32 0)) 1 ∷ []))) ∙ s.story []
            ∙ append_assoc t.told turn (still_tells w size s.n (with_more [] s.h));
      }

  -- the same, with a value for the receive that isn't answered
  record ForValue (turn : List Note) (met : List Outcome) : Type 0 where
    value : ℕ
    more : List Outcome
    rest : List Note
    story : protocol_story w ((t.met ++ met) ++ mailed (Some (V.I32 value)) 1 ∷ more) ≡ t.told ++ (turn ++ rest)

  for_value : (turn : List Note) (met : List Outcome) (receive : Option Await) (r : Await) → receive ≡ Some r → Left turn met receive → ForValue turn met
  for_value turn met receive r e (is_over o value small more story any) = record {
    value = value;
    more = more;
    rest = [];
    story = ap (protocol_story w) (sym (append_assoc (t.met ++ met) (mailed (Some (V.I32 value)) 1 ∷ []) more) ∙ ap (λ (q : Option Await). t.met ++ met ++ pending value q ++ more) (sym e)) ∙ story
        ∙ ap (λ (ns : List Note). t.told ++ ns) (sym (append-nil turn));
  }
  for_value turn met receive r e (is_paused o none size lt st) = absurd (some_receive r (sym none ∙ e))
  for_value turn met receive r e (is_parked o q some size lt st) =
      let s = st 0 in
      record {
        value = 0;
        more = [];
        rest = still_tells w size s.n (with_more [] s.h);
        story = ap (protocol_story w) (sym (append-nil (t.met ++ met ++ mailed (Some (V.I32 0)) 1 ∷ []))) ∙ s.story [] ∙ append_assoc t.told turn (still_tells w size s.n (with_more [] s.h));
      }

  -- who waits tells the same for the other's value
  parked_same : (turn other : List Note) (met met2 : List Outcome) (size : ℕ) → ((v : ℕ) → Stands w (t.met ++ met ++ mailed (Some (V.I32 v)) 1 ∷ []) (t.told ++ turn) size) → ForValue other met2
      → met ≡ met2 → EndsOnce turn → EndsOnce other → turn ≡ other
  parked_same turn other met met2 size st f same once1 once2 =
      let s = st f.value in
      let here = s.story f.more in
      let both : t.told ++ (turn ++ still_tells w size s.n (with_more f.more s.h)) ≡ t.told ++ (other ++ f.rest) =
      sym (append_assoc t.told turn (still_tells w size s.n (with_more f.more s.h))) ∙ sym here
      ∙ ap (protocol_story w) (append_assoc (t.met ++ met) (mailed (Some (V.I32 f.value)) 1 ∷ []) f.more ∙ ap (λ (os : List Outcome). (t.met ++ os) ++ mailed (Some (V.I32 f.value)) 1 ∷ f.more) same) ∙ f.story in
      once_front turn other (still_tells w size s.n (with_more f.more s.h)) f.rest once1 once2
      (append_cancel_left t.told (turn ++ still_tells w size s.n (with_more f.more s.h)) (other ++ f.rest) both)

  -- two turns that end with such a receive
  open_same : (turn other : List Note) (met met2 : List Outcome) (receive receive2 : Option Await) (r q : Await) → receive ≡ Some r → receive2 ≡ Some q → met ≡ met2 → EndsOnce turn → EndsOnce other
      → last_wrong turn ≡ last_wrong other → Left turn met receive → Left other met2 receive2 → turn ≡ other
  open_same turn other met met2 receive receive2 r q e f same once1 once2 wrong (is_paused o none size lt st) b = absurd (some_receive r (sym none ∙ e))
  open_same turn other met met2 receive receive2 r q e f same once1 once2 wrong (is_parked o p some size lt st) b =
      parked_same turn other met met2 size st (for_value other met2 receive2 q f b) same once1 once2
  open_same turn other met met2 receive receive2 r q e f same once1 once2 wrong (is_over o value small more story any) (is_paused o2 none size lt st) = absurd (some_receive q (sym none ∙ f))
  open_same turn other met met2 receive receive2 r q e f same once1 once2 wrong (is_over o value small more story any) (is_parked o2 p some size lt st) =
      sym (parked_same other turn met2 met size st (for_value turn met receive r e (is_over o value small more story any)) (sym same) once2 once1)
  open_same turn other met met2 receive receive2 r q e f same once1 once2 wrong (is_over o value small more story any) (is_over o2 value2 small2 more2 story2 any2) =
      let a = any r e value2 more2 in
      let is_other : a.0 ≡ other =
      append_cancel_left t.told a.0 other
      (sym a.1
      ∙ ap (protocol_story w)
      (ap (λ (os : List Outcome). (t.met ++ os) ++ mailed (Some (V.I32 value2)) 1 ∷ more2) same
      ∙ sym (append_assoc (t.met ++ met2) (mailed (Some (V.I32 value2)) 1 ∷ []) more2) ∙ ap (λ (p : Option Await). t.met ++ met2 ++ pending value2 p ++ more2) (sym f))
      ∙ story2) in
      sym (a.2 (ap last_wrong is_other ∙ sym wrong)) ∙ is_other

  module _ (one two : Turned w i t tellers begin limit) where
    pub record Twice : Type 0 where
      pub turn : one.turn ≡ two.turn
      pub met : one.met ≡ two.met
      pub answers : one.answers ≡ two.answers
      pub behind : one.behind ≡ two.behind

    module _ (ds' : List Device) (due : ℕ) (more1 more2 : List Line) (F W : Type 0) (names : List (List ℕ)) where
      pub told_twice : new_calls t.told ≡ length t.met → names_of begin.boxes ≡ names → ((c : Call) (name : List ℕ) → bound_to w c ≡ Some name → IsNoBox name names → F)
          → ((c : Call) (name : List ℕ) → bound_to w c ≡ Some name → W)
          → (F → (c : Call) (name : List ℕ) → bound_to w c ≡ Some name → IsNoBox name names → Grows name one.behind.devices ds')
          → (F → (c : Call) (name : List ℕ) → bound_to w c ≡ Some name → IsNoBox name names → Grows name two.behind.devices ds')
          → Agree F W (Lines w.looks due i (parks one.turn one.behind.receive) one.turn more1) (Lines w.looks due i (parks two.turn two.behind.receive) two.turn more2) → Twice
      told_twice count named device some grow1 grow2 agree =
          let a = tail_of one.turn one.met one.behind.receive one.after in
          let b = tail_of two.turn two.met two.behind.receive two.after in
          let s = turn_same w ds' due i (parks one.turn one.behind.receive) (parks two.turn two.behind.receive) more1 more2 one.answers two.answers one.behind two.behind a.rest b.rest a.more b.more
          F W names device some grow1 grow2 one.turn two.turn t.met t.told one.met two.met t.answers begin named count a.story b.story one.whole two.whole one.known two.known agree in
          record { turn = by s.met s.behind s.notes; met = s.met; answers = s.answers; behind = s.behind }
        where
          by : one.met ≡ two.met → one.behind ≡ two.behind → (one.turn ≡ two.turn) ⊎ ((r : Await) × (one.behind.receive ≡ Some r) × (last_wrong one.turn ≡ last_wrong two.turn)) → one.turn ≡ two.turn
          by met behind (inl e) = e
          by met behind (inr h) =
              open_same one.turn two.turn one.met two.met one.behind.receive two.behind.receive h.0 h.0 h.1 (ap (λ (m : Amid). m.receive) (sym behind) ∙ h.1) met one.whole two.whole h.2 one.after two.after
