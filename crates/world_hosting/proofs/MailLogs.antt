-- The devices that are left in a run with mailboxes, each with its log behind its journal.
use Rattle.std.proofs.Common.{◌≡◌, inl, ℕ, List, [], ◌∷◌, ◌++◌, Option, Some, None, Bool, true, false, refl, sym, ap, ◌∙◌, subst, append-nil}
use Rattle.std.specs.Prelude.{MatchBool, MatchOption, if◌then◌else◌, slice_get}
use Rattle.wa_model.specs.declared.answers.Detach.{Detach}
use Rattle.wa_model.specs.Outside.{Call, Event, Line, answered, called, ended, parked, paused, returned, shown}
use Rattle.wa_model.specs.Plan.{Outcome}
use Rattle.world_model.specs.World.{Device, Program, base_names, call_in, name_at}
use Rattle.event_order.specs.Left.{Counted}
use Rattle.host_laws.specs.Supplies.{Takes, bound_to}
use Rattle.many_host.specs.Calls.{IsShown, devices_of, faults_of}
use Rattle.many_host.specs.Telling.{supply}
use Rattle.world_hosting.specs.DeviceLogs.{Logged, logged_as, logged_to}
use Rattle.world_hosting.specs.MailCounts.{IsMailed, TakesBeside, asks_mailbox, device_for, ends_event, event_count, unless_mailbox}
use Rattle.world_hosting.specs.MailLogs.{MailDevicesAreLogged}
use Rattle.world_hosting.specs.Worlds.{world_programs}
use Rattle.world_hosting.proofs.DeviceLogs.{At, first_logs, logs_on, taken_line}

-- memory that is shown ends no event
pub none_shown : (e : Event) → IsShown e → ends_event e ≡ false
none_shown (shown at bytes) h = refl
none_shown (called c) h = absurd h
none_shown (answered v) h = absurd h
none_shown (paused t u) h = absurd h
none_shown (parked used) h = absurd h
none_shown (returned i v) h = absurd h
none_shown (ended how) h = absurd h

-- who asks a mailbox asks no device, and who doesn't asks what it is bound to
pub no_device : (boxes : List (List ℕ)) (b : Option (List ℕ)) → asks_mailbox boxes b ≡ true → unless_mailbox boxes b ≡ None
no_device boxes None e = refl
no_device boxes (Some name) e = ap (λ (c : Bool). if c then None else Some name) e

pub own_device : (boxes : List (List ℕ)) (b : Option (List ℕ)) → asks_mailbox boxes b ≡ false → unless_mailbox boxes b ≡ b
own_device boxes None e = refl
own_device boxes (Some name) e = ap (λ (c : Bool). if c then None else Some name) e

module _ (boxes : List (List ℕ)) (programs : List Program) (detaches : List Detach) (old : List Device) where
  -- the devices are those of the logs with what this call adds
  abbrev Logs : (n : ℕ) → List Logged → Line → Option Call → List Outcome → List Counted → Type 0
  Logs n cs l c os mid = devices_of mid ≡ At programs detaches old n (cs ++ logged_as (device_for boxes) (slice_get programs l.program) n c os)

  logged_line : (l : Line) (os : List Outcome) (left mid : List Counted) (n : ℕ) (cs : List Logged) → TakesBeside boxes programs l os left mid → devices_of left ≡ At programs detaches old n cs
      → Logs n cs l (call_in l.event) os mid
  logged_line l os left mid n cs t e = by (call_in l.event) refl t.takes
    where
      -- no device was asked
      same : (c : Option Call) → logged_as (device_for boxes) (slice_get programs l.program) n c os ≡ [] → mid ≡ left → Logs n cs l c os mid
      same c none is =
          ap (λ (cs : List Counted). devices_of cs) is ∙ e
          ∙ ap (At programs detaches old n) (sym (append-nil cs) ∙ ap (λ (xs : List Logged). cs ++ xs) (sym none))

      unasked : (p : Option Program) → logged_as (device_for boxes) p n None os ≡ []
      unasked None = refl
      unasked (Some w) = refl

      one_logged : (w : Program) (c : Call) (us : List Outcome) (d : Option (List ℕ)) → device_for boxes w c.import ≡ d → d ≡ None → logged_as (device_for boxes) (Some w) n (Some c) us ≡ []
      one_logged w c [] d f none = refl
      one_logged w c (o ∷ us) d f none = ap (λ (b : Option (List ℕ)). logged_to b n (name_at (base_names w.source) c.import) c.args o) (f ∙ none)

      same_logged : (w : Program) (c : Call) (us : List Outcome) → device_for boxes w c.import ≡ bound_to w c.import
          → logged_as bound_to (Some w) n (Some c) us ≡ logged_as (device_for boxes) (Some w) n (Some c) us
      same_logged w c [] f = refl
      same_logged w c (o ∷ us) f = ap (λ (b : Option (List ℕ)). logged_to b n (name_at (base_names w.source) c.import) c.args o) (sym f)

      by_mailbox : (c : Call) → call_in l.event ≡ Some c → (b : Bool) → asks_mailbox boxes (bound_to t.w c.import) ≡ b
          → MatchBool b ((o : Outcome) × (os ≡ o ∷ []) × IsMailed c.import o × (mid ≡ left))
          (Takes t.w (Some c) (supply t.answers (devices_of left) (faults_of left)) os (supply t.left (devices_of mid) (faults_of mid))) → Logs n cs l (Some c) os mid
      by_mailbox c is true f h =
          same (Some c)
          (ap (λ (p : Option Program). logged_as (device_for boxes) p n (Some c) os) t.program ∙ one_logged t.w c os (device_for boxes t.w c.import) refl (no_device boxes (bound_to t.w c.import) f)) h.3
      by_mailbox c is false f h =
          taken_line programs detaches old l os left mid n cs
          (record {
            w = t.w;
            program = t.program;
            answers = t.answers;
            left = t.left;
            takes =
                subst (λ (q : Option Call). Takes t.w q (supply t.answers (devices_of left) (faults_of left)) os (supply t.left (devices_of mid) (faults_of mid))) (sym is) h;
          })
          e
          ∙ ap (λ (xs : List Logged). At programs detaches old n (cs ++ xs))
          (ap (λ (q : Option Call). logged_as bound_to (slice_get programs l.program) n q os) is
          ∙ ap (λ (p : Option Program). logged_as bound_to p n (Some c) os) t.program
          ∙ same_logged t.w c os (own_device boxes (bound_to t.w c.import) f)
          ∙ ap (λ (p : Option Program). logged_as (device_for boxes) p n (Some c) os) (sym t.program))

      by : (q : Option Call) → call_in l.event ≡ q
          → MatchOption q ((os ≡ []) × (mid ≡ left)) (λ c. MatchBool (asks_mailbox boxes (bound_to t.w c.import))
          ((o : Outcome) × (os ≡ o ∷ []) × IsMailed c.import o × (mid ≡ left))
          (Takes t.w (Some c) (supply t.answers (devices_of left) (faults_of left)) os (supply t.left (devices_of mid) (faults_of mid)))) → Logs n cs l q os mid
      by None is h = same None (unasked (slice_get programs l.program)) h.1
      by (Some c) is h = by_mailbox c is (asks_mailbox boxes (bound_to t.w c.import)) refl h

pub mail_devices_logged : MailDevicesAreLogged
mail_devices_logged parts detaches boxes old new text told =
    logs_on (world_programs parts) detaches (devices_of old) ends_event none_shown (device_for boxes) (TakesBeside boxes (world_programs parts))
    (logged_line boxes (world_programs parts) detaches (devices_of old)) told.lines told.met 0 0 old [] (event_count told.lines) new (inl refl) (first_logs detaches [] (devices_of old)) told.took
