-- What a call takes of a host's devices and mailboxes, as for the devices.
use Rattle.std.proofs.Common.{◌≡◌, inl, inr, ℕ, List, [], ◌∷◌, Option, Some, None, Bool, true, false, if◌then◌else◌, refl, sym, ap, ◌∙◌, subst}
use Rattle.std.specs.Prelude.{MatchBool, MatchOption, ◌||◌}
use Rattle.std.specs.List.{find}
use Rattle.std.specs.Option.{is_some}
use Rattle.wa_types.specs.declared.values.Value.{Value}
use Rattle.wa_types.specs.declared.values.Value.TheVariants as V
use Rattle.wa_types.specs.Validity.{same_name}
use Rattle.wa_model.specs.declared.events.End.TheVariants.{DeviceFault, NoDevice}
use Rattle.wa_model.specs.Outside.{Call, Line}
use Rattle.wa_model.specs.Plan.{Outcome, refused}
use Rattle.world_model.specs.World.{Device, MeetsBound, Program, base_names, call_in, name_at}
use Rattle.event_order.specs.Left.{Counted}
use Rattle.host_laws.specs.Supplies.{Counts, Takes, bound_to, none_failed, one_failed}
use Rattle.mail_laws.specs.Mailboxes.{mailed}
use Rattle.mail_laws.specs.Told.{Amid}
use Rattle.mailbox_device.specs.Mail.{Box, Mail, is_box, names_of}
use Rattle.pause_host.specs.Mailing.{AsksBound, AsksBox, AsksNamed, AsksValues, amid_of}
use Rattle.many_host.specs.Calls.{devices_of, faults_of}
use Rattle.many_host.specs.MailStanding.{CallTakes, TakesCall}
use Rattle.many_host.specs.Telling.{supply}
use Rattle.world_hosting.specs.MailCounts.{IsMailed, TakesBeside, asks_mailbox, is_mailbox}
use Rattle.world_hosting.proofs.Ledgers.{same_counted}

-- a mailbox has a name where one is found
found_name : (name : List ℕ) (bs : List Box) → is_mailbox (names_of bs) name ≡ is_some (find (is_box name) bs)
found_name name [] = refl
found_name name (b ∷ bs) = by (same_name b.name name) (found_name name bs)
  where
    by : (y : Bool) → is_mailbox (names_of bs) name ≡ is_some (find (is_box name) bs) → (y || is_mailbox (names_of bs) name) ≡ is_some (if y then Some b else find (is_box name) bs)
    by true on = refl
    by false on = on

-- what a mailbox answers is no device's fault
no_fault : (import k : ℕ) (o : Outcome) → IsMailed import o → o ≡ refused (DeviceFault k) → ⊥
no_fault import k o (inl h) e = let bad : mailed h.0 h.1 ≡ refused (DeviceFault k) = sym h.2 ∙ e in cc
no_fault import k o (inr h) e = let bad : refused (NoDevice import) ≡ refused (DeviceFault k) = sym h ∙ e in cc

-- it answers, and leaves the devices
asked_box : (import : ℕ) (name : List ℕ) (args : List Value) (b : Box) (m : Amid) (o : Outcome) (m' : Amid) → AsksBox import name args b m o m' → IsMailed import o × (m'.devices ≡ m.devices)
asked_box import name (V.I32 v ∷ []) b m o m' h = (inl (None, 0, h.1), ap (λ (z : Amid). z.devices) h.2)
asked_box import name [] b m o m' h = by b.values h
  where
    by : (vs : List ℕ) → AsksValues import name vs m o m' → IsMailed import o × (m'.devices ≡ m.devices)
    by [] g = (inl (Some (V.I32 0), 1, g.0), ap (λ (z : Amid). z.devices) g.1)
    by (v ∷ vs) g = (inl (Some (V.I32 v), 0, g.1), ap (λ (z : Amid). z.devices) g.2)
asked_box import name (V.I32 v ∷ y ∷ ys) b m o m' h = (inr h.0, ap (λ (z : Amid). z.devices) h.1)
asked_box import name (V.I64 v ∷ ys) b m o m' h = (inr h.0, ap (λ (z : Amid). z.devices) h.1)

module _ (boxes : List (List ℕ)) (w : Program) (c : Call) (met : List Outcome) (old new : List Counted) (mail mail' : Mail) (named : names_of mail.boxes ≡ boxes) (h : CallTakes w c met old new mail mail') where
  -- what it takes, as it is said beside mailboxes
  abbrev Said : Type 0
  Said =
      MatchBool (asks_mailbox boxes (bound_to w c.import)) ((o : Outcome) × (met ≡ o ∷ []) × IsMailed c.import o × (new ≡ old))
      (Takes w (Some c) (supply h.answers (devices_of old) (faults_of old)) met (supply h.left (devices_of new) (faults_of new)))

  of_mailbox : asks_mailbox boxes (bound_to w c.import) ≡ true → IsMailed c.import h.outcome → devices_of new ≡ devices_of old → Said
  of_mailbox e answered same =
      subst (λ (b : Bool). MatchBool b ((o : Outcome) × (met ≡ o ∷ []) × IsMailed c.import o × (new ≡ old))
      (Takes w (Some c) (supply h.answers (devices_of old) (faults_of old)) met (supply h.left (devices_of new) (faults_of new)))) (sym e)
      (h.outcome, h.met_is, answered, same_counted old new same (kept h.takes.counts))
    where
      kept : Counts c.import (bound_to w c.import) (devices_of old) h.outcome (faults_of old) (faults_of new) → faults_of new ≡ faults_of old
      kept (none_failed other is) = is
      kept (one_failed name place is first fault at failed) = absurd (no_fault c.import c.import h.outcome answered fault)

  of_others : asks_mailbox boxes (bound_to w c.import) ≡ false → MeetsBound w.source c.import c.args (bound_to w c.import) h.answers (devices_of old) h.outcome h.left (devices_of new) → Said
  of_others e meets =
      subst (λ (b : Bool). MatchBool b ((o : Outcome) × (met ≡ o ∷ []) × IsMailed c.import o × (new ≡ old))
      (Takes w (Some c) (supply h.answers (devices_of old) (faults_of old)) met (supply h.left (devices_of new) (faults_of new)))) (sym e)
      (h.outcome, h.met_is, record { meets = meets; counts = h.takes.counts })

  call_beside : Said
  call_beside = by_bound (bound_to w c.import) refl h.takes.meets
    where
      in_boxes : (name : List ℕ) → is_mailbox boxes name ≡ is_some (find (is_box name) mail.boxes)
      in_boxes name = ap (λ (ns : List (List ℕ)). is_mailbox ns name) (sym named) ∙ found_name name mail.boxes

      by_found : (name : List ℕ) → bound_to w c.import ≡ Some name → h.left ≡ h.answers → (found : Option Box) → find (is_box name) mail.boxes ≡ found
          → AsksNamed c.import (name_at (base_names w.source) c.import) name c.args found (amid_of (devices_of old) mail h.before) h.outcome (amid_of (devices_of new) (record mail' { settled = h.sent }) h.behind) → Said
      by_found name is same None f g =
          of_others (ap (asks_mailbox boxes) is ∙ in_boxes name ∙ ap (λ (b : Option Box). is_some b) f)
          (subst (λ (b : Option (List ℕ)). MeetsBound w.source c.import c.args b h.answers (devices_of old) h.outcome h.left (devices_of new)) (sym is)
          (subst (λ (ds : List Device). MeetsBound w.source c.import c.args (Some name) h.answers (devices_of old) h.outcome h.left ds) (sym (ap (λ (z : Amid). z.devices) g.2)) (g.1, same)))
      by_found name is same (Some b) f g =
          let r = asked_box c.import name c.args b (amid_of (devices_of old) mail h.before) h.outcome (amid_of (devices_of new) (record mail' { settled = h.sent }) h.behind) g in
          of_mailbox (ap (asks_mailbox boxes) is ∙ in_boxes name ∙ ap (λ (b : Option Box). is_some b) f) r.0 r.1

      by_bound : (b : Option (List ℕ)) → bound_to w c.import ≡ b
          → AsksBound w.source c.import c.args b h.answers (amid_of (devices_of old) mail h.before) h.outcome h.left (amid_of (devices_of new) (record mail' { settled = h.sent }) h.behind) → Said
      by_bound None is g =
          of_others (ap (asks_mailbox boxes) is)
          (subst (λ (b : Option (List ℕ)). MeetsBound w.source c.import c.args b h.answers (devices_of old) h.outcome h.left (devices_of new)) (sym is) (g.0, ap (λ (z : Amid). z.devices) g.1))
      by_bound (Some name) is g = by_found name is g.1 (find (is_box name) mail.boxes) refl g.0

-- so does a line
pub taken_beside : (boxes : List (List ℕ)) (programs : List Program) (l : Line) (met : List Outcome) (old new : List Counted) (mail mail' : Mail) → names_of mail.boxes ≡ boxes
    → TakesCall programs l met old new mail mail' → TakesBeside boxes programs l met old new
taken_beside boxes programs l met old new mail mail' named t = by (call_in l.event) refl t.takes
  where
    by : (q : Option Call) → call_in l.event ≡ q → MatchOption q ((met ≡ []) × (new ≡ old)) (λ c. CallTakes t.w c met old new mail mail') → TakesBeside boxes programs l met old new
    by None is h = record {
      w = t.w;
      program = t.program;
      answers = [];
      left = [];
      takes =
          subst (λ (q : Option Call). MatchOption q ((met ≡ []) × (new ≡ old)) (λ c. MatchBool (asks_mailbox boxes (bound_to t.w c.import))
          ((o : Outcome) × (met ≡ o ∷ []) × IsMailed c.import o × (new ≡ old))
          (Takes t.w (Some c) (supply [] (devices_of old) (faults_of old)) met (supply [] (devices_of new) (faults_of new))))) (sym is) h;
    }
    by (Some c) is h = record {
      w = t.w;
      program = t.program;
      answers = h.answers;
      left = h.left;
      takes =
          subst (λ (q : Option Call). MatchOption q ((met ≡ []) × (new ≡ old)) (λ c. MatchBool (asks_mailbox boxes (bound_to t.w c.import))
          ((o : Outcome) × (met ≡ o ∷ []) × IsMailed c.import o × (new ≡ old))
          (Takes t.w (Some c) (supply h.answers (devices_of old) (faults_of old)) met (supply h.left (devices_of new) (faults_of new))))) (sym is)
          (call_beside boxes t.w c met old new mail mail' named h);
    }
