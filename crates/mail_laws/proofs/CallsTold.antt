-- What a new call meets that is told forwards: a device fails, and a mailbox gives what it has.
use Rattle.std.proofs.Common.{arith, ◌≡◌, ◌<◌, ◌≤◌, ◌+◌, ◌^◌, ◌⊎◌, inl, inr, ℕ, List, [], ◌∷◌, ◌++◌, map, Option, Some, None, Bool, true, false, slice_get, if◌then◌else◌, MatchBool, nat_eq, eq-eqb}
use Rattle.std.proofs.Common.{refl, sym, ap, ◌∙◌, subst}
use Rattle.std.specs.List.{find, list_any}
use Rattle.std.specs.Option.{option_map, unwrap_or}
use Rattle.std.proofs.lemmas.List.{map-append}
use Rattle.wa_types.specs.Validity.{same_name}
use Rattle.wa_types.specs.declared.values.Value.{Value}
use Rattle.wa_types.specs.declared.values.Value.TheVariants as V
use Rattle.wa_model.specs.declared.events.End.TheVariants.{NoAnswer, OtherImport, DeviceFault, NoDevice}
use Rattle.wa_model.specs.Outside.{Call, AnswerLine}
use Rattle.wa_model.specs.Plan.{Outcome, given, refused}
use Rattle.world_model.specs.World.{Program, Device, Reply, MeetsLine, is_named, name_at, base_names, MeetsDevice, import_names, journaled}
use Rattle.mailbox_device.specs.Mail.{Box, at_box as at_told, is_box as has_name, received as told_received, sent as told_sent, sent_past as told_past}
use Rattle.mailbox_device.specs.declared.mailbox.Settled.{Settled}
use Rattle.mail_laws.specs.Mailboxes.{Mailbox, Midst, Meets, MeetsBound, MeetsNamed, MeetsBox, MeetsValues, in_range, IsAwaited, mailed, is_box, at_box, sent, sent_past, receiver, received}
use Rattle.mail_laws.specs.Told.{Await, Amid, Teller, promise, promised, receive_of, number_of, midst_by, KeepsPromises, NotAmong, IsWaiting, AreSent, NoneAmong, StillWait}
use Rattle.mail_laws.proofs.KnownCalls.{AtEmpty, Known, KnownValues, known_box, known_by, known_named, told_receiver}
use Rattle.mail_laws.proofs.OpenMoves.{Tame}

-- ---- how often a program waits, or was sent a value

abbrev pub one_where : Bool → ℕ
one_where true = 1
one_where false = 0

abbrev pub times : ℕ → List ℕ → ℕ
times j [] = 0
times j (k ∷ ks) = one_where (nat_eq j k) + times j ks

abbrev pub times_settled : ℕ → List Settled → ℕ
times_settled j [] = 0
times_settled j (s ∷ ss) = one_where (nat_eq j s.program) + times_settled j ss

abbrev pub times_waiting : ℕ → List Box → ℕ
times_waiting j [] = 0
times_waiting j (b ∷ bs) = times j b.waits + times_waiting j bs

abbrev pub total : ℕ → Amid → ℕ
total j m = times_settled j m.settled + times_waiting j m.boxes

pub one_here : (j : ℕ) → one_where (nat_eq j j) ≡ 1
one_here j = ap one_where (eq-eqb j j refl)

-- so a program that is counted nowhere isn't among them
pub not_among : (j : ℕ) (ss : List Settled) → times_settled j ss ≡ 0 → NotAmong j ss
not_among j [] none = tt
not_among j (s ∷ ss) none = (never, not_among j ss (omega (arith, none)))
  where
    never : j ≡ s.program → ⊥
    never e = let one : one_where (nat_eq j s.program) ≡ 1 = ap (λ (k : ℕ). one_where (nat_eq j k)) (sym e) ∙ one_here j in omega (arith, one, none)

abbrev pub AreSmall : List Settled → Type 0
AreSmall [] = Unit {0}
AreSmall (s ∷ ss) = (s.value < 2 ^ 32) × AreSmall ss

-- each program waits once at most, and those that wait or did are programs that wait
pub record Posted (tellers : List Teller) (m : Amid) : Type 0 where
  pub once : (j : ℕ) → total j m ≤ 1
  pub waits : (j : ℕ) → 0 < total j m → IsWaiting tellers j
  pub small : AreSmall m.settled

pub are_sent : (tellers : List Teller) (ss : List Settled) → ((j : ℕ) → times_settled j ss ≤ 1) → ((j : ℕ) → 0 < times_settled j ss → IsWaiting tellers j) → AreSmall ss → AreSent tellers ss
are_sent tellers [] once waits small = tt
are_sent tellers (s ∷ ss) once waits small =
    let one = one_here s.program in
    let at_most = once s.program in (
      waits s.program (omega (arith, one)),
      small.0,
      not_among s.program ss (omega (arith, one, at_most)),
      are_sent tellers ss (λ j. let h = once j in omega (arith, h)) (λ j some. waits j (omega (arith, some))) small.1,
    )

none_among : (is : List ℕ) (ss : List Settled) → ((j : ℕ) → 0 < times j is → times_settled j ss ≡ 0) → NoneAmong is ss
none_among [] ss none = tt
none_among (i ∷ is) ss none = let one = one_here i in (not_among i ss (none i (omega (arith, one))), none_among is ss (λ j some. none j (omega (arith, some))))

pub still_wait : (bs : List Box) (ss : List Settled) → ((j : ℕ) → 0 < times_waiting j bs → times_settled j ss ≡ 0) → StillWait bs ss
still_wait [] ss none = tt
still_wait (b ∷ bs) ss none = (none_among b.waits ss (λ j some. none j (omega (arith, some))), still_wait bs ss (λ j some. none j (omega (arith, some))))

times_settled_on : (j : ℕ) (xs ys : List Settled) → times_settled j (xs ++ ys) ≡ times_settled j xs + times_settled j ys
times_settled_on j [] ys = omega arith
times_settled_on j (x ∷ xs) ys = let on = times_settled_on j xs ys in omega (arith, on)

small_on : (xs ys : List Settled) → AreSmall xs → AreSmall ys → AreSmall (xs ++ ys)
small_on [] ys h k = k
small_on (x ∷ xs) ys h k = (h.0, small_on xs ys h.1 k)

pub keeps_first : (will : ℕ → ℕ) (xs ys : List Settled) → KeepsPromises will (xs ++ ys) → KeepsPromises will xs
keeps_first will [] ys h = tt
keeps_first will (x ∷ xs) ys h = (h.0, keeps_first will xs ys h.1)

pub keeps_last : (will : ℕ → ℕ) (xs ys : List Settled) → KeepsPromises will (xs ++ ys) → KeepsPromises will ys
keeps_last will [] ys h = h
keeps_last will (x ∷ xs) ys h = keeps_last will xs ys h.1

-- ---- mailboxes

pub at_promised : (will : ℕ → ℕ) (g : Mailbox → Mailbox) (f : Box → Box) (name : List ℕ) (bs : List Box) → ((b : Box) → g (promised will b) ≡ promised will (f b))
    → at_box g name (map (promised will) bs) ≡ map (promised will) (at_told f name bs)
at_promised will g f name [] same = refl
at_promised will g f name (b ∷ bs) same = by (same_name b.name name) (at_promised will g f name bs same)
  where
    by : (y : Bool) → at_box g name (map (promised will) bs) ≡ map (promised will) (at_told f name bs)
        → (if y then g (promised will b) ∷ map (promised will) bs else promised will b ∷ at_box g name (map (promised will) bs)) ≡ map (promised will) (if y then f b ∷ bs else b ∷ at_told f name bs)
    by true on = ap (λ (x : Mailbox). x ∷ map (promised will) bs) (same b)
    by false on = ap (λ (l : List Mailbox). promised will b ∷ l) on

pub find_promised : (will : ℕ → ℕ) (name : List ℕ) (bs : List Box) → find (is_box name) (map (promised will) bs) ≡ option_map (promised will) (find (has_name name) bs)
find_promised will name [] = refl
find_promised will name (b ∷ bs) = by (same_name b.name name) (find_promised will name bs)
  where
    by : (y : Bool) → find (is_box name) (map (promised will) bs) ≡ option_map (promised will) (find (has_name name) bs)
        → (if y then Some (promised will b) else find (is_box name) (map (promised will) bs)) ≡ option_map (promised will) (if y then Some b else find (has_name name) bs)
    by true on = refl
    by false on = on

-- a change of a mailbox that takes away as many waiting programs changes the count by those
times_at : (j gone : ℕ) (f : Box → Box) (name : List ℕ) (bs : List Box) (b : Box) → find (has_name name) bs ≡ Some b → times j (f b).waits + gone ≡ times j b.waits
    → times_waiting j (at_told f name bs) + gone ≡ times_waiting j bs
times_at j gone f name [] b is e = absurd cc
times_at j gone f name (c ∷ bs) b is e = by (same_name c.name name) is (λ h. times_at j gone f name bs b h e)
  where
    first : (x y : Box) → Some x ≡ Some y → x ≡ y
    first x y q = cc

    by : (y : Bool) → (if y then Some c else find (has_name name) bs) ≡ Some b → (find (has_name name) bs ≡ Some b → times_waiting j (at_told f name bs) + gone ≡ times_waiting j bs)
        → times_waiting j (if y then f c ∷ bs else c ∷ at_told f name bs) + gone ≡ times j c.waits + times_waiting j bs
    by true q on =
        let same : c ≡ b = first c b q in
        let here : times j (f c).waits + gone ≡ times j c.waits = subst (λ (x : Box). times j (f x).waits + gone ≡ times j x.waits) (sym same) e in
        omega (arith, here)
    by false q on = let h = on q in omega (arith, h)

-- ---- the choice of an outcome

-- An outcome that a new call meets, whatever is promised to those that go on waiting.
pub record Chosen (w : Program) (i : ℕ) (c : Call) (lines : List AnswerLine) (m : Amid) : Type 0 where
  pub o : Outcome
  pub lines' : List AnswerLine
  pub m' : Amid
  pub meets : (will : ℕ → ℕ) → KeepsPromises will m'.settled → Meets w c.import c.args lines (midst_by will i m) o lines' (midst_by will i m')
  pub none : m'.receive ≡ m.receive
  pub keeps : (will : ℕ → ℕ) → KeepsPromises will m'.settled → KeepsPromises will m.settled
  pub same : (j : ℕ) → total j m' ≡ total j m
  pub small : AreSmall m.settled → AreSmall m'.settled
  pub tame : Tame o
  pub known : Known w c lines m o lines' m'

pub record Awaits (w : Program) (i : ℕ) (c : Call) (lines : List AnswerLine) (m : Amid) : Type 0 where
  pub r : Await
  pub meets : (will : ℕ → ℕ) → ((j : ℕ) → will j < 2 ^ 32) → Meets w c.import c.args lines (midst_by will i m) (mailed (Some (V.I32 (will i))) 1) lines (midst_by will i (record m { receive = Some r }))
  pub known : AtEmpty w c m r

abbrev pub Choice : Program → ℕ → Call → List AnswerLine → Amid → Type 0
Choice w i c lines m = Chosen w i c lines m ⊎ Awaits w i c lines m

pub mod_small : (v : ℕ) → in_range v < 2 ^ 32
mod_small v = omega arith

module _ (w : Program) (i : ℕ) (c : Call) (lines : List AnswerLine) (m : Amid) where
  abbrev bound : Option (List ℕ)
  bound = unwrap_or (slice_get w.binds c.import) None

  -- what is shared stays
  alone : (o : Outcome) (lines' : List AnswerLine) → Tame o → Known w c lines m o lines' m → ((z : Midst) → Meets w c.import c.args lines z o lines' z) → Choice w i c lines m
  alone o lines' tame known h =
      inl (record {
        o = o;
        lines' = lines';
        m' = m;
        meets = λ will keeps. h (midst_by will i m);
        none = refl;
        keeps = λ will keeps. keeps;
        same = λ j. refl;
        small = λ s. s;
        tame = tame;
        known = known;
      })

  meets_by : (b : Option (List ℕ)) → bound ≡ b → (z z' : Midst) (o : Outcome) (lines' : List AnswerLine) → MeetsBound w.source c.import c.args b lines z o lines' z'
      → Meets w c.import c.args lines z o lines' z'
  meets_by b e z z' o lines' h = subst (λ (q : Option (List ℕ)). MeetsBound w.source c.import c.args q lines z o lines' z') (sym e) h

  by_lines : bound ≡ None → (ls : List AnswerLine) → lines ≡ ls → Choice w i c lines m
  by_lines e [] f =
      let line : MeetsLine c.import (name_at (import_names w.source) c.import) lines (refused (NoAnswer c.import)) [] =
      subst (λ (l : List AnswerLine). MeetsLine c.import (name_at (import_names w.source) c.import) l (refused (NoAnswer c.import)) []) (sym f) (refl, refl) in
      alone (refused (NoAnswer c.import)) [] refl (known_by w c lines m None e (refused (NoAnswer c.import)) [] m (line, refl))
      (λ z. meets_by None e z z (refused (NoAnswer c.import)) [] (line, refl))
  by_lines e (l ∷ ls) f = by_name (same_name l.import (name_at (import_names w.source) c.import)) refl
    where
      name : List ℕ
      name = name_at (import_names w.source) c.import

      line : (o : Outcome) (left : List AnswerLine) (b : Bool) → Tame o → same_name l.import (name_at (import_names w.source) c.import) ≡ b
          → MatchBool b ((o ≡ given l.answer) × (left ≡ ls)) ((o ≡ refused (OtherImport c.import l.import)) × (left ≡ l ∷ ls)) → Choice w i c lines m
      line o left b tame q h =
          let met : MeetsLine c.import (name_at (import_names w.source) c.import) lines o left =
          subst (λ (xs : List AnswerLine). MeetsLine c.import (name_at (import_names w.source) c.import) xs o left) (sym f)
          (subst (λ (y : Bool). MatchBool y ((o ≡ given l.answer) × (left ≡ ls)) ((o ≡ refused (OtherImport c.import l.import)) × (left ≡ l ∷ ls))) (sym q) h) in
          alone o left tame (known_by w c lines m None e o left m (met, refl)) (λ z. meets_by None e z z o left (met, refl))

      by_name : (b : Bool) → same_name l.import (name_at (import_names w.source) c.import) ≡ b → Choice w i c lines m
      by_name true q = line (given l.answer) ls true tt q (refl, refl)
      by_name false q = line (refused (OtherImport c.import l.import)) (l ∷ ls) false refl q (refl, refl)

  module _ (name : List ℕ) (e : bound ≡ Some name) where
    abbrev base : List ℕ
    base = name_at (base_names w.source) c.import

    named : (found : Option Box) → find (has_name name) m.boxes ≡ found → (will : ℕ → ℕ) (o : Outcome) (z' : Midst)
        → MeetsNamed c.import base name c.args (option_map (promised will) found) (midst_by will i m) o z' → Meets w c.import c.args lines (midst_by will i m) o lines z'
    named found f will o z' h =
        meets_by (Some name) e (midst_by will i m) z' o lines
        (subst (λ (q : Option Mailbox). MeetsNamed c.import base name c.args q (midst_by will i m) o z') (sym (find_promised will name m.boxes ∙ ap (option_map (promised will)) f)) h, refl)

    unchanged : (found : Option Box) → find (has_name name) m.boxes ≡ found → (o : Outcome) → Tame o → Known w c lines m o lines m
        → ((will : ℕ → ℕ) → MeetsNamed c.import base name c.args (option_map (promised will) found) (midst_by will i m) o (midst_by will i m)) → Choice w i c lines m
    unchanged found f o tame known h =
        inl (record {
          o = o;
          lines' = lines;
          m' = m;
          meets = λ will keeps. named found f will o (midst_by will i m) (h will);
          none = refl;
          keeps = λ will keeps. keeps;
          same = λ j. refl;
          small = λ s. s;
          tame = tame;
          known = known;
        })

    by_device : find (has_name name) m.boxes ≡ None → (b : Bool) → list_any (is_named name) m.devices ≡ b → Choice w i c lines m
    by_device f true q =
        let met : MeetsDevice c.import base name c.args m.devices (refused (DeviceFault c.import)) m.devices =
        subst (λ (y : Bool). MatchBool y
        (((r : Reply) × Rattle.wa_model.specs.Plan.ValueFits r.value × (r.ticks < 2 ^ 32)
        × (refused (DeviceFault c.import) ≡ given (record { said = Rattle.wa_model.specs.declared.answers.Said.TheVariants.Value r.value; pokes = []; ticks = r.ticks }))
        × (m.devices ≡ journaled name (record { base = base; args = c.args; reply = r }) m.devices))
        ⊎ ((refused (DeviceFault c.import) ≡ refused (DeviceFault c.import)) × (m.devices ≡ m.devices)))
        ((refused (DeviceFault c.import) ≡ refused (NoDevice c.import)) × (m.devices ≡ m.devices))) (sym q) (inr (refl, refl)) in
        unchanged None f (refused (DeviceFault c.import)) refl (known_named w c lines m name e None f (refused (DeviceFault c.import)) m (m.devices, met, refl)) (λ will. (m.devices, met, refl))
    by_device f false q =
        let met : MeetsDevice c.import base name c.args m.devices (refused (NoDevice c.import)) m.devices =
        subst (λ (y : Bool). MatchBool y
        (((r : Reply) × Rattle.wa_model.specs.Plan.ValueFits r.value × (r.ticks < 2 ^ 32)
        × (refused (NoDevice c.import) ≡ given (record { said = Rattle.wa_model.specs.declared.answers.Said.TheVariants.Value r.value; pokes = []; ticks = r.ticks }))
        × (m.devices ≡ journaled name (record { base = base; args = c.args; reply = r }) m.devices))
        ⊎ ((refused (NoDevice c.import) ≡ refused (DeviceFault c.import)) × (m.devices ≡ m.devices)))
        ((refused (NoDevice c.import) ≡ refused (NoDevice c.import)) × (m.devices ≡ m.devices))) (sym q) (refl, refl) in
        unchanged None f (refused (NoDevice c.import)) refl (known_named w c lines m name e None f (refused (NoDevice c.import)) m (m.devices, met, refl)) (λ will. (m.devices, met, refl))

    module _ (b : Box) (f : find (has_name name) m.boxes ≡ Some b) where
      -- a send
      abbrev after_send : ℕ → Amid
      after_send v = record { devices = m.devices; boxes = at_told (told_sent v) name m.boxes; settled = m.settled ++ told_receiver v b.waits; receive = m.receive }

      sent_promised : (will : ℕ → ℕ) (v : ℕ) (d : Box) (ws : List ℕ) → sent_past v (promised will d) (map (promise will) ws) ≡ promised will (told_past v d ws)
      sent_promised will v d [] = refl
      sent_promised will v d (j ∷ js) = refl

      awaited_by : (will : ℕ → ℕ) (v : ℕ) (ws : List ℕ) → KeepsPromises will (told_receiver v ws) → IsAwaited v (map (promise will) ws)
      awaited_by will v [] h = tt
      awaited_by will v (j ∷ js) h = h.0

      numbers : (will : ℕ → ℕ) (v : ℕ) (ws : List ℕ) → map number_of (told_receiver v ws) ≡ receiver (map (promise will) ws)
      numbers will v [] = refl
      numbers will v (j ∷ js) = refl

      past_times : (v j : ℕ) (d : Box) (ws : List ℕ) → ws ≡ d.waits → times j (told_past v d ws).waits + times_settled j (told_receiver v ws) ≡ times j ws
      past_times v j d [] is = let h : times j d.waits ≡ 0 = ap (times j) (sym is) in omega (arith, h)
      past_times v j d (k ∷ ks) is = omega arith

      small_receiver : (v : ℕ) (ws : List ℕ) → AreSmall (told_receiver v ws)
      small_receiver v [] = tt
      small_receiver v (j ∷ js) = (mod_small v, tt)

      sends : (v : ℕ) → c.args ≡ V.I32 v ∷ [] → Choice w i c lines m
      sends v a =
          inl (record {
            o = mailed None 0;
            lines' = lines;
            m' = after_send v;
            meets = meets;
            none = refl;
            keeps = λ will keeps. keeps_first will m.settled (told_receiver v b.waits) keeps;
            same = same;
            small = λ s. small_on m.settled (told_receiver v b.waits) s (small_receiver v b.waits);
            tame = tt;
            known = known_box w c lines m name e b f (V.I32 v ∷ []) a (mailed None 0) (after_send v) (refl, refl);
          })
        where
          meets : (will : ℕ → ℕ) → KeepsPromises will (m.settled ++ told_receiver v b.waits) → Meets w c.import c.args lines (midst_by will i m) (mailed None 0) lines (midst_by will i (after_send v))
          meets will keeps =
              named (Some b) f will (mailed None 0) (midst_by will i (after_send v))
              (subst (λ (xs : List Value). MeetsBox c.import name xs (promised will b) (midst_by will i m) (mailed None 0) (midst_by will i (after_send v))) (sym a) (
                awaited_by will v b.waits (keeps_last will m.settled (told_receiver v b.waits) keeps),
                refl,
                λ k. record {
                  devices = m.devices;
                  boxes = sym (at_promised will (sent v) (told_sent v) name m.boxes (λ d. sent_promised will v d d.waits)) k;
                  settled = (map-append number_of m.settled (told_receiver v b.waits) ∙ ap (λ (l : List ℕ). map number_of m.settled ++ l) (numbers will v b.waits)) k;
                  receive = option_map (receive_of (will i)) m.receive;
                },
              ))

          same : (j : ℕ) → total j (after_send v) ≡ total j m
          same j =
              let s = times_settled_on j m.settled (told_receiver v b.waits) in
              let t = times_at j (times_settled j (told_receiver v b.waits)) (told_sent v) name m.boxes b f (past_times v j b b.waits refl) in
              omega (arith, s, t)

      -- a receive
      takes : c.args ≡ [] → (vs : List ℕ) → b.values ≡ vs → Choice w i c lines m
      takes a [] q =
          inr (record {
            r = record { import = c.import; box = name };
            meets = λ will small. named (Some b) f will (mailed (Some (V.I32 (will i))) 1) (midst_by will i (record m { receive = Some (record { import = c.import; box = name }) }))
                (subst (λ (xs : List Value). MeetsBox c.import name xs (promised will b) (midst_by will i m) (mailed (Some (V.I32 (will i))) 1)
                (midst_by will i (record m { receive = Some (record { import = c.import; box = name }) }))) (sym a)
                (subst (λ (us : List ℕ). MeetsValues c.import name us (midst_by will i m) (mailed (Some (V.I32 (will i))) 1)
                (midst_by will i (record m { receive = Some (record { import = c.import; box = name }) }))) (sym q)
                (will i, small i, refl, refl)));
            known = record { name = name; box = b; bound = e; there = f; args = a; empty = q; is = refl };
          })
      takes a (v ∷ vs) q =
          inl (record {
            o = mailed (Some (V.I32 (in_range v))) 0;
            lines' = lines;
            m' = record m { boxes = at_told (told_received vs) name m.boxes };
            meets = meets;
            none = refl;
            keeps = λ will keeps. keeps;
            same = λ j. let t = times_at j 0 (told_received vs) name m.boxes b f (omega arith) in omega (arith, t);
            small = λ s. s;
            tame = tt;
            known = known_box w c lines m name e b f [] a (mailed (Some (V.I32 (in_range v))) 0) (record m { boxes = at_told (told_received vs) name m.boxes })
                (subst (λ (us : List ℕ). KnownValues name us m (mailed (Some (V.I32 (in_range v))) 0) (record m { boxes = at_told (told_received vs) name m.boxes })) (sym q) (refl, refl));
          })
        where
          meets : (will : ℕ → ℕ) → KeepsPromises will m.settled
              → Meets w c.import c.args lines (midst_by will i m) (mailed (Some (V.I32 (in_range v))) 0) lines (midst_by will i (record m { boxes = at_told (told_received vs) name m.boxes }))
          meets will keeps =
              named (Some b) f will (mailed (Some (V.I32 (in_range v))) 0) (midst_by will i (record m { boxes = at_told (told_received vs) name m.boxes }))
              (subst (λ (xs : List Value). MeetsBox c.import name xs (promised will b) (midst_by will i m) (mailed (Some (V.I32 (in_range v))) 0)
              (midst_by will i (record m { boxes = at_told (told_received vs) name m.boxes }))) (sym a)
              (subst (λ (us : List ℕ). MeetsValues c.import name us (midst_by will i m) (mailed (Some (V.I32 (in_range v))) 0)
              (midst_by will i (record m { boxes = at_told (told_received vs) name m.boxes }))) (sym q) (
                refl,
                λ k. record {
                  devices = m.devices;
                  boxes = sym (at_promised will (received vs) (told_received vs) name m.boxes (λ d. refl)) k;
                  settled = map number_of m.settled;
                  receive = option_map (receive_of (will i)) m.receive;
                },
              )))

      -- another call
      refuses : (args : List Value) → c.args ≡ args → Known w c lines m (refused (NoDevice c.import)) lines m → ((will : ℕ → ℕ) → MeetsBox c.import name args (promised will b) (midst_by will i m) (refused (NoDevice c.import)) (midst_by will i m)) → Choice w i c lines m
      refuses args a known h =
          unchanged (Some b) f (refused (NoDevice c.import)) refl known
          (λ will. subst (λ (xs : List Value). MeetsBox c.import name xs (promised will b) (midst_by will i m) (refused (NoDevice c.import)) (midst_by will i m)) (sym a) (h will))

      by_args : (args : List Value) → c.args ≡ args → Choice w i c lines m
      by_args [] a = takes a b.values refl
      by_args (V.I32 v ∷ []) a = sends v a
      by_args (V.I32 v ∷ y ∷ ys) a = refuses (V.I32 v ∷ y ∷ ys) a (known_box w c lines m name e b f (V.I32 v ∷ y ∷ ys) a (refused (NoDevice c.import)) m (refl, refl)) (λ will. (refl, refl))
      by_args (V.I64 v ∷ ys) a = refuses (V.I64 v ∷ ys) a (known_box w c lines m name e b f (V.I64 v ∷ ys) a (refused (NoDevice c.import)) m (refl, refl)) (λ will. (refl, refl))

    by_found : (found : Option Box) → find (has_name name) m.boxes ≡ found → Choice w i c lines m
    by_found None f = by_device f (list_any (is_named name) m.devices) refl
    by_found (Some b) f = by_args b f c.args refl

  by_bound : (b : Option (List ℕ)) → bound ≡ b → Choice w i c lines m
  by_bound None e = by_lines e lines refl
  by_bound (Some name) e = by_found name e (find (has_name name) m.boxes) refl

  pub choose : Choice w i c lines m
  choose = by_bound bound refl

-- ---- an outcome that was met

keeps_both : (will : ℕ → ℕ) (xs ys : List Settled) → KeepsPromises will xs → KeepsPromises will ys → KeepsPromises will (xs ++ ys)
keeps_both will [] ys h k = k
keeps_both will (x ∷ xs) ys h k = (h.0, keeps_both will xs ys h.1 k)

-- What a call meets for these promises, it meets whatever is promised to those that go on waiting; or it is a receive at an empty
-- mailbox.
pub data Mirrors (w : Program) (i : ℕ) (c : Call) (lines : List AnswerLine) (m : Amid) (will : ℕ → ℕ) (o : Outcome) (lines' : List AnswerLine) (z' : Midst) : Type 0 where
  is_chosen : (ch : Chosen w i c lines m) → ch.o ≡ o → ch.lines' ≡ lines' → z' ≡ midst_by will i ch.m' → KeepsPromises will ch.m'.settled → Mirrors w i c lines m will o lines' z'
  is_awaited : (aw : Awaits w i c lines m) → (value : ℕ) → value < 2 ^ 32 → o ≡ mailed (Some (V.I32 value)) 1 → lines' ≡ lines
      → z' ≡ record { devices = m.devices; boxes = map (promised will) m.boxes; settled = map number_of m.settled; receive = Some (receive_of value aw.r) } → Mirrors w i c lines m will o lines' z'

module _ (w : Program) (i : ℕ) (c : Call) (lines : List AnswerLine) (m : Amid) (will : ℕ → ℕ) (keeps : KeepsPromises will m.settled) (o : Outcome) (lines' : List AnswerLine) (z' : Midst) where
  abbrev Mirror : Type 0
  Mirror = Mirrors w i c lines m will o lines' z'

  line_tame : (ls : List AnswerLine) → MeetsLine c.import (name_at (import_names w.source) c.import) ls o lines' → Tame o
  line_tame [] h = subst Tame (sym h.0) refl
  line_tame (l ∷ ls) h = by (same_name l.import (name_at (import_names w.source) c.import)) h
    where
      by : (b : Bool) → MatchBool b ((o ≡ given l.answer) × (lines' ≡ ls)) ((o ≡ refused (OtherImport c.import l.import)) × (lines' ≡ l ∷ ls)) → Tame o
      by true h = subst Tame (sym h.0) tt
      by false h = subst Tame (sym h.0) refl

  device_tame : (called name : List ℕ) (ds ds' : List Device) (b : Bool)
      → MatchBool b
      (((r : Reply) × Rattle.wa_model.specs.Plan.ValueFits r.value × (r.ticks < 2 ^ 32)
      × (o ≡ given (record { said = Rattle.wa_model.specs.declared.answers.Said.TheVariants.Value r.value; pokes = []; ticks = r.ticks }))
      × (ds' ≡ journaled name (record { base = called; args = c.args; reply = r }) ds)) ⊎ ((o ≡ refused (DeviceFault c.import)) × (ds' ≡ ds)))
      ((o ≡ refused (NoDevice c.import)) × (ds' ≡ ds)) → Tame o
  device_tame called name ds ds' true (inl h) = subst Tame (sym h.3) tt
  device_tame called name ds ds' true (inr h) = subst Tame (sym h.0) refl
  device_tame called name ds ds' false h = subst Tame (sym h.0) refl

  -- what is shared stays, or the devices alone change
  devices_alone : (ds : List Device) → Tame o → Known w c lines m o lines' (record m { devices = ds }) → ((will2 : ℕ → ℕ) → Meets w c.import c.args lines (midst_by will2 i m) o lines' (midst_by will2 i (record m { devices = ds })))
      → z' ≡ midst_by will i (record m { devices = ds }) → Mirror
  devices_alone ds tame known h is =
      is_chosen (record {
        o = o;
        lines' = lines';
        m' = record m { devices = ds };
        meets = λ will2 keeps2. h will2;
        none = refl;
        keeps = λ will2 keeps2. keeps2;
        same = λ j. refl;
        small = λ s. s;
        tame = tame;
        known = known;
      }) refl refl is keeps

  module _ (name : List ℕ) (e : bound w i c lines m ≡ Some name) (same_lines : lines' ≡ lines) where
    abbrev met_named : (found : Option Box) → find (has_name name) m.boxes ≡ found → (will2 : ℕ → ℕ) (z2 : Midst)
        → MeetsNamed c.import (name_at (base_names w.source) c.import) name c.args (option_map (promised will2) found) (midst_by will2 i m) o z2 → Meets w c.import c.args lines (midst_by will2 i m) o lines' z2
    met_named found f will2 z2 h =
        subst (λ (l : List AnswerLine). Meets w c.import c.args lines (midst_by will2 i m) o l z2) (sym same_lines) (named w i c lines m name e found f will2 o z2 h)

    known_so : (m' : Amid) → Known w c lines m o lines m' → Known w c lines m o lines' m'
    known_so m' h = subst (λ (l : List AnswerLine). Known w c lines m o l m') (sym same_lines) h

    module _ (b : Box) (f : find (has_name name) m.boxes ≡ Some b) where
      abbrev after_it : ℕ → Amid
      after_it v = after_send w i c lines m name e b f v

      send_is : (will2 : ℕ → ℕ) (v : ℕ)
          → record { devices = m.devices; boxes = at_box (sent v) name (map (promised will2) m.boxes); settled = map number_of m.settled ++ receiver (map (promise will2) b.waits); receive = option_map (receive_of (will2 i)) m.receive }
          ≡ midst_by will2 i (after_it v)
      send_is will2 v = λ k. record {
        devices = m.devices;
        boxes = at_promised will2 (sent v) (told_sent v) name m.boxes (λ d. sent_promised w i c lines m name e b f will2 v d d.waits) k;
        settled = sym (map-append number_of m.settled (told_receiver v b.waits) ∙ ap (λ (l : List ℕ). map number_of m.settled ++ l) (numbers w i c lines m name e b f will2 v b.waits)) k;
        receive = option_map (receive_of (will2 i)) m.receive;
      }

      kept : (v : ℕ) (ws : List ℕ) → IsAwaited v (map (promise will) ws) → KeepsPromises will (told_receiver v ws)
      kept v [] h = tt
      kept v (j ∷ js) h = (h, tt)

      sent_met : (v : ℕ) → c.args ≡ V.I32 v ∷ [] → MeetsBox c.import name (V.I32 v ∷ []) (promised will b) (midst_by will i m) o z' → Mirror
      sent_met v a h =
          is_chosen (record {
            o = o;
            lines' = lines';
            m' = after_it v;
            meets = λ will2 keeps2. met_named (Some b) f will2 (midst_by will2 i (after_it v))
                (subst (λ (xs : List Value). MeetsBox c.import name xs (promised will2 b) (midst_by will2 i m) o (midst_by will2 i (after_it v))) (sym a) (
                  awaited_by w i c lines m name e b f will2 v b.waits (keeps_last will2 m.settled (told_receiver v b.waits) keeps2),
                  h.1,
                  sym (send_is will2 v),
                ));
            none = refl;
            keeps = λ will2 keeps2. keeps_first will2 m.settled (told_receiver v b.waits) keeps2;
            same = λ j.
                let s = times_settled_on j m.settled (told_receiver v b.waits) in
                let t = times_at j (times_settled j (told_receiver v b.waits)) (told_sent v) name m.boxes b f (past_times w i c lines m name e b f v j b b.waits refl) in
                omega (arith, s, t);
            small = λ s. small_on m.settled (told_receiver v b.waits) s (small_receiver w i c lines m name e b f v b.waits);
            tame = subst Tame (sym h.1) tt;
            known = known_so (after_it v) (known_box w c lines m name e b f (V.I32 v ∷ []) a o (after_it v) (h.1, refl));
          }) refl refl (h.2 ∙ send_is will v) (keeps_both will m.settled (told_receiver v b.waits) keeps (kept v b.waits h.0))

      received_is : (will2 : ℕ → ℕ) (vs : List ℕ)
          → record { devices = m.devices; boxes = at_box (received vs) name (map (promised will2) m.boxes); settled = map number_of m.settled; receive = option_map (receive_of (will2 i)) m.receive }
          ≡ midst_by will2 i (record m { boxes = at_told (told_received vs) name m.boxes })
      received_is will2 vs = λ k. record {
        devices = m.devices;
        boxes = at_promised will2 (received vs) (told_received vs) name m.boxes (λ d. refl) k;
        settled = map number_of m.settled;
        receive = option_map (receive_of (will2 i)) m.receive;
      }

      received_met : c.args ≡ [] → (vs : List ℕ) → b.values ≡ vs → MeetsValues c.import name vs (midst_by will i m) o z' → Mirror
      received_met a [] q h =
          is_awaited (record {
            r = record { import = c.import; box = name };
            meets = λ will2 small. named w i c lines m name e (Some b) f will2 (mailed (Some (V.I32 (will2 i))) 1) (midst_by will2 i (record m { receive = Some (record { import = c.import; box = name }) }))
                (subst (λ (xs : List Value). MeetsBox c.import name xs (promised will2 b) (midst_by will2 i m) (mailed (Some (V.I32 (will2 i))) 1)
                (midst_by will2 i (record m { receive = Some (record { import = c.import; box = name }) }))) (sym a)
                (subst (λ (us : List ℕ). MeetsValues c.import name us (midst_by will2 i m) (mailed (Some (V.I32 (will2 i))) 1)
                (midst_by will2 i (record m { receive = Some (record { import = c.import; box = name }) }))) (sym q)
                (will2 i, small i, refl, refl)));
            known = record { name = name; box = b; bound = e; there = f; args = a; empty = q; is = refl };
          }) h.0 h.1 h.2 same_lines h.3
      received_met a (v ∷ vs) q h =
          is_chosen (record {
            o = o;
            lines' = lines';
            m' = record m { boxes = at_told (told_received vs) name m.boxes };
            meets = λ will2 keeps2. met_named (Some b) f will2 (midst_by will2 i (record m { boxes = at_told (told_received vs) name m.boxes }))
                (subst (λ (xs : List Value). MeetsBox c.import name xs (promised will2 b) (midst_by will2 i m) o (midst_by will2 i (record m { boxes = at_told (told_received vs) name m.boxes }))) (sym a)
                (subst (λ (us : List ℕ). MeetsValues c.import name us (midst_by will2 i m) o (midst_by will2 i (record m { boxes = at_told (told_received vs) name m.boxes }))) (sym q)
                (h.0, sym (received_is will2 vs))));
            none = refl;
            keeps = λ will2 keeps2. keeps2;
            same = λ j. let t = times_at j 0 (told_received vs) name m.boxes b f (omega arith) in omega (arith, t);
            small = λ s. s;
            tame = subst Tame (sym h.0) tt;
            known = known_so (record m { boxes = at_told (told_received vs) name m.boxes }) (known_box w c lines m name e b f [] a o (record m { boxes = at_told (told_received vs) name m.boxes })
                (subst (λ (us : List ℕ). KnownValues name us m o (record m { boxes = at_told (told_received vs) name m.boxes })) (sym q) (h.0, refl)));
          }) refl refl (h.1 ∙ received_is will vs) keeps

      refused_met : (args : List Value) → Tame o → c.args ≡ args → Known w c lines m o lines m
          → ((will2 : ℕ → ℕ) → MeetsBox c.import name args (promised will2 b) (midst_by will2 i m) o (midst_by will2 i m)) → z' ≡ midst_by will i m → Mirror
      refused_met args tame a known h is =
          devices_alone m.devices tame (known_so m known)
          (λ will2. met_named (Some b) f will2 (midst_by will2 i m)
          (subst (λ (xs : List Value). MeetsBox c.import name xs (promised will2 b) (midst_by will2 i m) o (midst_by will2 i m)) (sym a) (h will2))) is

      args_met : (args : List Value) → c.args ≡ args → MeetsBox c.import name args (promised will b) (midst_by will i m) o z' → Mirror
      args_met [] a h = received_met a b.values refl h
      args_met (V.I32 v ∷ []) a h = sent_met v a h
      args_met (V.I32 v ∷ y ∷ ys) a h = refused_met (V.I32 v ∷ y ∷ ys) (subst Tame (sym h.0) refl) a (known_box w c lines m name e b f (V.I32 v ∷ y ∷ ys) a o m (h.0, refl)) (λ will2. (h.0, refl)) h.1
      args_met (V.I64 v ∷ ys) a h = refused_met (V.I64 v ∷ ys) (subst Tame (sym h.0) refl) a (known_box w c lines m name e b f (V.I64 v ∷ ys) a o m (h.0, refl)) (λ will2. (h.0, refl)) h.1

    found_met : (found : Option Box) → find (has_name name) m.boxes ≡ found
        → MeetsNamed c.import (name_at (base_names w.source) c.import) name c.args (option_map (promised will) found) (midst_by will i m) o z' → Mirror
    found_met None f h = devices_alone h.0 (device_tame (name_at (base_names w.source) c.import) name m.devices h.0 (list_any (is_named name) m.devices) h.1) (known_so (record m { devices = h.0 }) (known_named w c lines m name e None f o (record m { devices = h.0 }) (h.0, h.1, refl))) (λ will2. met_named None f will2 (midst_by will2 i (record m { devices = h.0 })) (h.0, h.1, refl)) h.2
    found_met (Some b) f h = args_met b f c.args refl h

  bound_met : (b : Option (List ℕ)) → bound w i c lines m ≡ b → MeetsBound w.source c.import c.args b lines (midst_by will i m) o lines' z' → Mirror
  bound_met None e h = devices_alone m.devices (line_tame lines h.0) (known_by w c lines m None e o lines' m (h.0, refl)) (λ will2. meets_by w i c lines m None e (midst_by will2 i m) (midst_by will2 i m) o lines' (h.0, refl)) h.1
  bound_met (Some name) e h =
      found_met name e h.1 (find (has_name name) m.boxes) refl
      (subst (λ (q : Option Mailbox). MeetsNamed c.import (name_at (base_names w.source) c.import) name c.args q (midst_by will i m) o z') (find_promised will name m.boxes) h.0)

  pub mirror : Meets w c.import c.args lines (midst_by will i m) o lines' z' → Mirror
  mirror h = bound_met (bound w i c lines m) refl h
