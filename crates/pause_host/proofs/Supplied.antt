-- Outcomes of new calls, with names and bindings as the setting has them.
use Rattle.std.proofs.Common.{◌≡◌, ◌⊎◌, inl, inr, ℕ, List, [], ◌∷◌, Option, Some, None, Result, Ok, Err, IfOk, Bool, true, false, All, refl, sym, ap, ◌∙◌, subst}
use Rattle.std.specs.Prelude.{◌<◌, ◌^◌, slice_get, MatchBool}
use Rattle.std.specs.List.{find, list_any, position}
use Rattle.std.specs.Option.{option_map, unwrap_or}
use Rattle.std.proofs.lemmas.List.Elements.{All-nil}
use Rattle.std.proofs.lemmas.Option.{slice_get-map}
use Rattle.wa_types.specs.declared.values.Value.{Value}
use Rattle.wa_types.specs.Validity.{same_name}
use Rattle.wa_types.specs.Syntax.{Module}
use Rattle.wa_model.specs.declared.answers.Said.TheVariants as S
use Rattle.wa_model.specs.declared.events.End.TheVariants.{DeviceFault, NoAnswer, NoDevice, OtherImport}
use Rattle.wa_model.specs.Outside.{Answer, AnswerLine, Call}
use Rattle.wa_model.specs.Plan.{Outcome, given, refused, ValueFits}
use Rattle.world_model.specs.World.{Program, Device, Reply, base_names, import_names, name_at, is_named, journaled, MeetsLine, MeetsDevice}
use Rattle.host_laws.specs.Answering.{IsShort, outcome_of}
use Rattle.host_laws.specs.Supplies.{Counts, bound_to, none_failed}
use Rattle.mailbox_device.specs.Mail.{Box, Mail, is_box}
use Rattle.mail_laws.specs.Told.{Amid, Await}
use Rattle.pause_host.specs.declared.asking.Asked.{Asked}
use Rattle.pause_host.specs.declared.stages.HostImport.{HostImport}
use Rattle.pause_host.specs.declared.stages.Setting.{Setting}
use Rattle.pause_host.specs.Mailing.{AsksAt, AsksBound, AsksMailbox, AsksNamed, MailAnswers, MailSupply, amid_of, awaits_in, bound_in, latest}
use Rattle.pause_host.specs.Moves.{IsSetting, HasShortPokes}
use Rattle.pause_host.proofs.Mailings.{box_faultless, box_meets, box_short, found_nowhere}
use Rattle.pause_host.proofs.Tables.{name_told, short_given}

pub both_ok : {T F : Type 0} {P Q R : T → Type 0} (r : Result T F) → ((x : T) → P x → Q x → R x) → IfOk r P → IfOk r Q → IfOk r R
both_ok (Ok x) f p q = f x p q
both_ok (Err e) f p q = tt

pub three_ok : {T F : Type 0} {P Q R S : T → Type 0} (r : Result T F) → ((x : T) → P x → Q x → R x → S x) → IfOk r P → IfOk r Q → IfOk r R → IfOk r S
three_ok (Ok x) f p q s = f x p q s
three_ok (Err e) f p q s = tt

-- no answer line is a device's fault
line_faultless : (import : ℕ) (name : List ℕ) (lines lines' : List AnswerLine) (o : Outcome) → MeetsLine import name lines o lines' → o ≡ refused (DeviceFault import) → ⊥
line_faultless import name [] lines' o m e = let z : refused (NoAnswer import) ≡ refused (DeviceFault import) = sym m.0 ∙ e in cc
line_faultless import name (l ∷ ls) lines' o m e = by_name (same_name l.import name) m
  where
    by_name : (b : Bool) → MatchBool b ((o ≡ given l.answer) × (lines' ≡ ls)) ((o ≡ refused (OtherImport import l.import)) × (lines' ≡ l ∷ ls)) → ⊥
    by_name true k = let z : given l.answer ≡ refused (DeviceFault import) = sym k.0 ∙ e in cc
    by_name false k = let z : refused (OtherImport import l.import) ≡ refused (DeviceFault import) = sym k.0 ∙ e in cc

module _ (w : Program) (x : Setting) (is : IsSetting w x) (import : ℕ) (i : HostImport) (at : slice_get x.imports.items import ≡ Some i) where
  base_told : i.base ≡ name_at (base_names w.source) import
  base_told =
      sym (ap (λ ns. name_at ns import) is.bases ∙ ap (λ o. unwrap_or o []) (slice_get-map (λ (j : HostImport). j.base) x.imports.items import ∙ ap (option_map (λ (j : HostImport). j.base)) at))

  bound_told : (b : Option (List ℕ)) → b ≡ bound_in x import → b ≡ bound_to w import
  bound_told b e = e ∙ sym (is.binds import)

  -- an answer line answers
  pub by_line : (args : List Value) (lines lines' : List AnswerLine) (m : Amid) (fs : List ℕ) (o : Outcome) → None ≡ bound_in x import → MeetsLine import i.name lines o lines'
      → MailAnswers w (record { import = import; args = args }) (record { lines = lines; amid = m; faults = fs }) o (record { lines = lines'; amid = m; faults = fs })
  by_line args lines lines' m fs o e k = record {
    meets = subst (λ b. AsksBound w.source import args b lines m o lines' m) (bound_told None e) (subst (λ z. MeetsLine import z lines o lines') (name_told w x import i is at) k, refl);
    counts = none_failed (line_faultless import i.name lines lines' o k) refl;
  }

  -- a device does
  pub by_device : (args : List Value) (lines : List AnswerLine) (ds ds' : List Device) (mail : Mail) (r : Option Await) (fs fs' : List ℕ) (o : Outcome) (device : List ℕ)
      → Some device ≡ bound_in x import → position (is_box device) mail.boxes ≡ None → MeetsDevice import i.base device args ds o ds' → Counts import (Some device) ds o fs fs'
      → MailAnswers w (record { import = import; args = args }) (record { lines = lines; amid = amid_of ds mail r; faults = fs }) o
      (record { lines = lines; amid = amid_of ds' mail r; faults = fs' })
  by_device args lines ds ds' mail r fs fs' o device e nowhere m k =
      let met : MeetsDevice import (name_at (base_names w.source) import) device args ds o ds' = subst (λ n. MeetsDevice import n device args ds o ds') base_told m in
      record {
        meets = subst (λ b. AsksBound w.source import args b lines (amid_of ds mail r) o lines (amid_of ds' mail r)) (bound_told (Some device) e) (
          subst (λ z. AsksNamed import (name_at (base_names w.source) import) device args z (amid_of ds mail r) o (amid_of ds' mail r)) (sym (found_nowhere device mail.boxes nowhere))
              (ds', met, refl),
          refl,
        );
        counts = subst (λ b. Counts import b ds o fs fs') (bound_told (Some device) e) k;
      }

  -- a mailbox does
  pub by_mailbox : (args : List Value) (lines : List AnswerLine) (m m' : Amid) (fs : List ℕ) (o : Outcome) (name : List ℕ) → Some name ≡ bound_in x import → AsksMailbox import name args m o m'
      → MailAnswers w (record { import = import; args = args }) (record { lines = lines; amid = m; faults = fs }) o (record { lines = lines; amid = m'; faults = fs })
  by_mailbox args lines m m' fs o name e k = record {
    meets = subst (λ b. AsksBound w.source import args b lines m o lines m') (bound_told (Some name) e)
        (subst (λ z. AsksNamed import (name_at (base_names w.source) import) name args z m o m') (sym k.there) k.asks, refl);
    counts = none_failed (box_faultless import o (box_meets import name args k.box m o m' k.asks)) refl;
  }

  -- ---- with what was asked

  pub asked_line : (args : List Value) (lines lines' : List AnswerLine) (ds : List Device) (mail : Mail) (fs : List ℕ) (asked : Asked) (r : Option ℕ) → None ≡ bound_in x import
      → MeetsLine import i.name lines (outcome_of asked.met) lines' → asked.receive ≡ None
      → MailAnswers w (record { import = import; args = args }) (record { lines = lines; amid = amid_of ds mail (awaits_in x r); faults = fs }) (outcome_of asked.met)
      (record { lines = lines'; amid = amid_of ds mail (awaits_in x (latest asked.receive r)); faults = fs })
  asked_line args lines lines' ds mail fs asked r e m none =
      subst
      (λ z. MailAnswers w (record { import = import; args = args }) (record { lines = lines; amid = amid_of ds mail (awaits_in x r); faults = fs }) (outcome_of asked.met)
      (record { lines = lines'; amid = amid_of ds mail (awaits_in x (latest z r)); faults = fs })) (sym none)
      (by_line args lines lines' (amid_of ds mail (awaits_in x r)) fs (outcome_of asked.met) e m)

  pub asked_device : (args : List Value) (lines : List AnswerLine) (ds ds' : List Device) (mail : Mail) (fs fs' : List ℕ) (asked : Asked) (r : Option ℕ) (device : List ℕ)
      → Some device ≡ bound_in x import → None ≡ position (is_box device) mail.boxes → MeetsDevice import i.base device args ds (outcome_of asked.met) ds'
      → Counts import (Some device) ds (outcome_of asked.met) fs fs' → asked.receive ≡ None
      → MailAnswers w (record { import = import; args = args }) (record { lines = lines; amid = amid_of ds mail (awaits_in x r); faults = fs }) (outcome_of asked.met)
      (record { lines = lines; amid = amid_of ds' mail (awaits_in x (latest asked.receive r)); faults = fs' })
  asked_device args lines ds ds' mail fs fs' asked r device e nowhere m k none =
      subst
      (λ z. MailAnswers w (record { import = import; args = args }) (record { lines = lines; amid = amid_of ds mail (awaits_in x r); faults = fs }) (outcome_of asked.met)
      (record { lines = lines; amid = amid_of ds' mail (awaits_in x (latest z r)); faults = fs' })) (sym none)
      (by_device args lines ds ds' mail (awaits_in x r) fs fs' (outcome_of asked.met) device e (sym nowhere) m k)

  pub asked_mailbox : (args : List Value) (lines : List AnswerLine) (ds : List Device) (old new : Mail) (fs : List ℕ) (asked : Asked) (r : Option ℕ) (name : List ℕ) (place : ℕ)
      → Some name ≡ bound_in x import → Some place ≡ position (is_box name) old.boxes → AsksAt import args place old new asked
      → MailAnswers w (record { import = import; args = args }) (record { lines = lines; amid = amid_of ds old (awaits_in x r); faults = fs }) (outcome_of asked.met)
      (record { lines = lines; amid = amid_of ds new (awaits_in x (latest asked.receive r)); faults = fs })
  asked_mailbox args lines ds old new fs asked r name place e there k =
      by_mailbox args lines (amid_of ds old (awaits_in x r)) (amid_of ds new (awaits_in x (latest asked.receive r))) fs (outcome_of asked.met) name e (k x name ds r (sym e) (sym there))

-- ---- pokes

device_short : (import : ℕ) (base name : List ℕ) (args : List Value) (ds ds' : List Device) (a : Answer) → MeetsDevice import base name args ds (given a) ds' → All IsShort a.pokes
device_short import base name args ds ds' a m = by_any (list_any (is_named name) ds) m
  where
    replied : (r : Reply) → given a ≡ given (record { said = S.Value r.value; pokes = []; ticks = r.ticks }) → All IsShort a.pokes
    replied r e = let none : a.pokes ≡ [] = cc in subst (All IsShort) (sym none) (All-nil IsShort)

    by_any : (b : Bool)
        → MatchBool b
        (((r : Reply) × ValueFits r.value × (r.ticks < 2 ^ 32) × (given a ≡ given (record { said = S.Value r.value; pokes = []; ticks = r.ticks }))
        × (ds' ≡ journaled name (record { base = base; args = args; reply = r }) ds))
        ⊎ ((given a ≡ refused (DeviceFault import)) × (ds' ≡ ds)))
        ((given a ≡ refused (NoDevice import)) × (ds' ≡ ds))
        → All IsShort a.pokes
    by_any true k = elim k [ inl r ↦ replied r.0 r.3 | inr z ↦ absurd (let no : given a ≡ refused (DeviceFault import) = z.0 in cc) ]
    by_any false k = absurd (let no : given a ≡ refused (NoDevice import) = k.0 in cc)

named_short : (import : ℕ) (base name : List ℕ) (args : List Value) (b : Option Box) (m m' : Amid) (a : Answer) → AsksNamed import base name args b m (given a) m' → All IsShort a.pokes
named_short import base name args None m m' a h = device_short import base name args m.devices h.0 a h.1
named_short import base name args (Some b) m m' a h = box_short import a (box_meets import name args b m (given a) m' h)

bound_short : (p : Module) (import : ℕ) (args : List Value) (bound : Option (List ℕ)) (lines lines' : List AnswerLine) (m m' : Amid) (a : Answer)
    → AsksBound p import args bound lines m (given a) lines' m' → All HasShortPokes lines → All IsShort a.pokes
bound_short p import args (Some name) lines lines' m m' a h short = named_short import (name_at (base_names p) import) name args (find (is_box name) m.boxes) m m' a h.0
bound_short p import args None lines lines' m m' a h short = short_given import (name_at (import_names p) import) lines a lines' h.0 short

-- an answer has short pokes, where those of the lines are
pub short_answer : (w : Program) (c : Call) (old new : MailSupply) (a : Answer) → MailAnswers w c old (given a) new → All HasShortPokes old.lines → All IsShort a.pokes
short_answer w c old new a h = bound_short w.source c.import c.args (bound_to w c.import) old.lines new.lines old.amid new.amid a h.meets
