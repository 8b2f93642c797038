-- What mailboxes answer, by their places and by their names; and what is left of it where there are none.
use Rattle.std.proofs.Common.{◌≡◌, ◌<◌, ◌≤◌, ◌^◌, ℕ, zero, suc, length, List, [], ◌∷◌, Option, Some, None, All, refl, sym, ap, ◌∙◌, subst, arith}
use Rattle.std.specs.Prelude.{slice_get, slice_set}
use Rattle.std.specs.List.{find, position}
use Rattle.std.specs.Option.{option_and_then, unwrap_or}
use Rattle.std.proofs.lemmas.List.Elements.{All-nil}
use Rattle.wa_types.specs.declared.values.Value.{Value}
use Rattle.wa_types.specs.declared.values.Value.TheVariants as V
use Rattle.wa_types.specs.Syntax.{Module}
use Rattle.wa_model.specs.declared.events.End.TheVariants.{DeviceFault, NoDevice}
use Rattle.wa_model.specs.Outside.{Answer, AnswerLine, Call}
use Rattle.wa_model.specs.Plan.{Outcome, given, refused}
use Rattle.world_model.specs.World.{Device, MeetsBound, MeetsDevice, Program, base_names, name_at}
use Rattle.device_port.specs.declared.device.Reply.{Reply}
use Rattle.mailbox_device.specs.declared.mailbox.Settled.{Settled}
use Rattle.mailbox_device.specs.Mail.{Box, IsEmptyAt, Mail, Receives, Sends, at_box, is_box, received, sent}
use Rattle.mailbox_device.proofs.Named.{changed, found}
use Rattle.mail_laws.specs.Mailboxes.{mailed}
use Rattle.mail_laws.specs.Told.{Amid, Await}
use Rattle.host_laws.specs.Answering.{IsShort, outcome_of}
use Rattle.host_laws.specs.declared.lines.Met.TheVariants as Met
use Rattle.host_laws.specs.Supplies.{Takes, bound_to}
use Rattle.pause_host.specs.declared.asking.Asked.{Asked}
use Rattle.pause_host.specs.Mailing.{AsksAt, AsksBound, AsksBox, AsksMailbox, AsksNamed, AsksValues, MailSupply, TakesMail, amid_of, awaits_in, latest, without_mail}

-- ---- by places

found_at : (name : List ℕ) (boxes : List Box) (place : ℕ) (box : Box) → position (is_box name) boxes ≡ Some place → slice_get boxes place ≡ Some box → find (is_box name) boxes ≡ Some box
found_at name boxes place box is there = found (is_box name) boxes ∙ ap (option_and_then (slice_get boxes)) is ∙ there

-- where none is placed none is found
pub found_nowhere : (name : List ℕ) (boxes : List Box) → position (is_box name) boxes ≡ None → find (is_box name) boxes ≡ None
found_nowhere name boxes is = found (is_box name) boxes ∙ ap (option_and_then (slice_get boxes)) is

abbrev amid_at : List Device → Option Await → List Box → List Settled → Amid
amid_at ds r boxes settled = record { devices = ds; boxes = boxes; settled = settled; receive = r }

-- a value was sent
pub asks_sent : (import place value : ℕ) (old new : Mail) (asked : Asked) → value < 2 ^ 32 → Sends place value old new → outcome_of asked.met ≡ mailed None 0 → asked.receive ≡ None
    → AsksAt import (V.I32 value ∷ []) place old new asked
asks_sent import place value old new asked fits s e none = λ x name ds r bound is.
    let m : Amid = amid_of ds old (awaits_in x r) in
    subst (λ z. AsksMailbox import name (V.I32 value ∷ []) m (outcome_of asked.met) (amid_of ds new (awaits_in x (latest z r)))) (sym none)
    (record {
      box = s.box;
      there = found_at name old.boxes place s.box is s.there;
      asks = (
        fits,
        e,
        ap (λ bs. amid_at ds (awaits_in x r) bs new.settled) (s.boxes ∙ changed name old.boxes place s.box (sent value) is s.there)
            ∙ ap (amid_at ds (awaits_in x r) (at_box (sent value) name old.boxes)) s.settled,
      );
    })

-- a value was received
pub asks_received : (import place : ℕ) (reply : Reply) (old new : Mail) (asked : Asked) → Receives place reply old new → outcome_of asked.met ≡ mailed reply.value reply.ticks
    → asked.receive ≡ None → AsksAt import [] place old new asked
asks_received import place reply old new asked s e none = λ x name ds r bound is.
    let m : Amid = amid_of ds old (awaits_in x r) in
    let m' : Amid = amid_of ds new (awaits_in x r) in
    let t = s.takes in
    let made : m' ≡ record m { boxes = at_box (received t.rest) name m.boxes } =
    ap (λ bs. amid_at ds (awaits_in x r) bs new.settled) (s.boxes ∙ ap (slice_set old.boxes place) t.left ∙ changed name old.boxes place s.box (received t.rest) is s.there)
    ∙ ap (amid_at ds (awaits_in x r) (at_box (received t.rest) name old.boxes)) s.settled in
    let answer : outcome_of asked.met ≡ mailed (Some (V.I32 t.value)) 0 = e ∙ ap (λ (z : Reply). mailed z.value z.ticks) t.answer in
    subst (λ z. AsksMailbox import name [] m (outcome_of asked.met) (amid_of ds new (awaits_in x (latest z r)))) (sym none)
    (record {
      box = s.box;
      there = found_at name old.boxes place s.box is s.there;
      asks = subst (λ vs. AsksValues import name vs m (outcome_of asked.met) m') (sym t.queued) (t.fits, answer, made);
    })

-- none was queued
pub asks_none : (import place : ℕ) (old new : Mail) (asked : Asked) → IsEmptyAt place old.boxes → new ≡ old → outcome_of asked.met ≡ mailed (Some (V.I32 0)) 1
    → asked.receive ≡ Some import → AsksAt import [] place old new asked
asks_none import place old new asked s same e some = λ x name ds r bound is.
    let m : Amid = amid_of ds old (awaits_in x r) in
    let await : awaits_in x (Some import) ≡ Some (record { import = import; box = name }) = ap (λ o. Some (await_as import o)) bound in
    subst (λ z. AsksMailbox import name [] m (outcome_of asked.met) (amid_of ds new (awaits_in x (latest z r)))) (sym some)
    (record {
      box = s.box;
      there = found_at name old.boxes place s.box is s.there;
      asks = subst (λ vs. AsksValues import name vs m (outcome_of asked.met) (amid_of ds new (awaits_in x (Some import)))) (sym s.empty)
          (e, ap (λ (z : Mail). amid_of ds z (awaits_in x (Some import))) same ∙ ap (amid_of ds old) await);
    })
  where
    await_as : ℕ → Option (List ℕ) → Await
    await_as n o = record { import = n; box = unwrap_or o [] }

-- there is one at a place in a list
pub some_there : {A : Type 0} (xs : List A) (place : ℕ) → place < length xs → (x : A) × (slice_get xs place ≡ Some x)
some_there [] place h = absurd (omega arith)
some_there (x ∷ xs) zero h = (x, refl)
some_there (x ∷ xs) (suc place) h = some_there xs place (omega arith)

-- arguments that no mailbox takes
abbrev pub IsNoMail : List Value → Type 0
IsNoMail (V.I32 v ∷ []) = ⊥
IsNoMail [] = ⊥
IsNoMail _ = Unit {0}

pub no_mail : (args : List Value) → 2 ≤ length args → IsNoMail args
no_mail [] h = absurd (omega arith)
no_mail (V.I32 v ∷ []) h = absurd (omega arith)
no_mail (V.I32 v ∷ y ∷ ys) h = tt
no_mail (V.I64 v ∷ ys) h = tt

pub asks_refused : (import place : ℕ) (args : List Value) (mail : Mail) (box : Box) → slice_get mail.boxes place ≡ Some box → IsNoMail args
    → AsksAt import args place mail mail (record { met = Met.Refused (NoDevice import); receive = None })
asks_refused import place args mail box there unfit = λ x name ds r bound is.
    record { box = box; there = found_at name mail.boxes place box is there; asks = refused_box name (amid_of ds mail (awaits_in x r)) args unfit }
  where
    refused_box : (name : List ℕ) (m : Amid) (args : List Value) → IsNoMail args → AsksBox import name args box m (refused (NoDevice import)) m
    refused_box name m [] h = absurd h
    refused_box name m (V.I32 v ∷ []) h = absurd h
    refused_box name m (V.I32 v ∷ y ∷ ys) h = (refl, refl)
    refused_box name m (V.I64 v ∷ ys) h = (refl, refl)

-- ---- by outcomes

-- What a mailbox answers: a value that fits, behind ticks or none; or it meets no device.
pub data BoxMeets (import : ℕ) (o : Outcome) : Type 0 where
  answers : (value : Option Value) (ticks : ℕ) → o ≡ mailed value ticks → BoxMeets import o
  refuses : o ≡ refused (NoDevice import) → BoxMeets import o

pub box_meets : (import : ℕ) (name : List ℕ) (args : List Value) (b : Box) (m : Amid) (o : Outcome) (m' : Amid) → AsksBox import name args b m o m' → BoxMeets import o
box_meets import name [] b m o m' h = by_values b.values h
  where
    by_values : (vs : List ℕ) → AsksValues import name vs m o m' → BoxMeets import o
    by_values [] k = answers (Some (V.I32 0)) 1 k.0
    by_values (v ∷ vs) k = answers (Some (V.I32 v)) 0 k.1
box_meets import name (V.I32 v ∷ []) b m o m' h = answers None 0 h.1
box_meets import name (V.I32 v ∷ y ∷ ys) b m o m' h = refuses h.0
box_meets import name (V.I64 v ∷ ys) b m o m' h = refuses h.0

pub box_faultless : (import : ℕ) (o : Outcome) → BoxMeets import o → o ≡ refused (DeviceFault import) → ⊥
box_faultless import o (answers value ticks is) e = let z : mailed value ticks ≡ refused (DeviceFault import) = sym is ∙ e in cc
box_faultless import o (refuses is) e = let z : refused (NoDevice import) ≡ refused (DeviceFault import) = sym is ∙ e in cc

pub box_short : (import : ℕ) (a : Answer) → BoxMeets import (given a) → All IsShort a.pokes
box_short import a (answers value ticks is) = let none : a.pokes ≡ [] = cc in subst (All IsShort) (sym none) (All-nil IsShort)
box_short import a (refuses is) = absurd (let no : given a ≡ refused (NoDevice import) = is in cc)

-- ---- without mailboxes

-- where there are no mailboxes a call meets what a world without them has it meet,
plain_meets : (p : Module) (import : ℕ) (args : List Value) (bound : Option (List ℕ)) (lines : List AnswerLine) (m : Amid) (o : Outcome) (lines' : List AnswerLine) (m' : Amid) → m.boxes ≡ []
    → AsksBound p import args bound lines m o lines' m' → MeetsBound p import args bound lines m.devices o lines' m'.devices
plain_meets p import args (Some name) lines m o lines' m' none h =
    let asks : AsksNamed import (name_at (base_names p) import) name args None m o m' =
    subst (λ boxes. AsksNamed import (name_at (base_names p) import) name args (find (is_box name) boxes) m o m') none h.0 in
    (subst (MeetsDevice import (name_at (base_names p) import) name args m.devices o) (sym (ap (λ (z : Amid). z.devices) asks.2)) asks.1, h.1)
plain_meets p import args None lines m o lines' m' none h = (h.0, ap (λ (z : Amid). z.devices) h.1)

-- and what an event took is what it takes there
pub plain_takes : (w : Program) (c : Option Call) (old : MailSupply) (os : List Outcome) (new : MailSupply) → old.amid.boxes ≡ [] → TakesMail w c old os new
    → Takes w c (without_mail old) os (without_mail new)
plain_takes w None old os new none t = (t.0, ap without_mail t.1)
plain_takes w (Some c) old os new none t = (
  t.0,
  t.1,
  record { meets = plain_meets w.source c.import c.args (bound_to w c.import) old.lines old.amid t.0 new.lines new.amid none t.2.meets; counts = t.2.counts },
)
