-- What becomes of devices along a world's run.
use Rattle.std.proofs.Common.{◌≡◌, ◌⊎◌, inl, inr, ℕ, suc, List, [], ◌∷◌, ◌++◌, length, map, Option, Some, None, Bool, true, false, refl, sym, ap, ◌∙◌, subst, append_assoc, append-nil}
use Rattle.std.specs.Prelude.{MatchBool, if◌then◌else◌, nat_eq, slice_get}
use Rattle.std.specs.List.{list_any}
use Rattle.std.specs.Option.{unwrap_or}
use Rattle.wa_types.specs.declared.values.Value.{Value}
use Rattle.wa_model.specs.declared.answers.Detach.{Detach}
use Rattle.wa_model.specs.declared.events.End.TheVariants.{DeviceFault, NoDevice}
use Rattle.wa_model.specs.Outside.{Call, AnswerLine, Line}
use Rattle.wa_model.specs.Plan.{Outcome, refused}
use Rattle.wa_model.specs.Blocking.{Note}
use Rattle.wa_model.specs.Behaves.{IsPrefix}
use Rattle.world_model.specs.World.{Asked, Device, is_named, taken_out, detached_if, detached, journaled, Program, base_names, name_at, MeetsBound, Meets, turn_of, call_in, NoteMeets, CallsMeet, Actor, Events, no_event, an_event, Original}
use Rattle.world_laws.specs.Kept.{Kept, no_device, taken_away, still_there, DevicesKept, DevicesKeptBlocking, NoneTakenOut}
use Rattle.world_laws.proofs.Journals.{Replied}

same_prefix : (j : List Asked) → IsPrefix j j
same_prefix j = ([], sym (append-nil j))

prefix_on : (a b c : List Asked) → IsPrefix a b → IsPrefix b c → IsPrefix a c
prefix_on a b c h k = (h.0 ++ k.0, k.1 ∙ ap (λ (j : List Asked). j ++ k.0) h.1 ∙ append_assoc a h.0 k.0)

pub all_kept : (ds : List Device) → Kept ds ds
all_kept [] = no_device
all_kept (d ∷ ds) = still_there refl (same_prefix d.journal) (all_kept ds)

pub kept_on : (as_were are will_be : List Device) → Kept as_were are → Kept are will_be → Kept as_were will_be
kept_on [] are will_be no_device k = k
kept_on (d ∷ ds) are will_be (taken_away h) k = taken_away (kept_on ds are will_be h k)
kept_on (d ∷ ds) (e ∷ es) will_be (still_there n p h) (taken_away k) = taken_away (kept_on ds es will_be h k)
kept_on (d ∷ ds) (e ∷ es) (f ∷ fs) (still_there n p h) (still_there m q k) = still_there (m ∙ n) (prefix_on d.journal e.journal f.journal p q) (kept_on ds es fs h k)

taken_kept : (name : List ℕ) (ds : List Device) → Kept ds (taken_out name ds)
taken_kept name [] = no_device
taken_kept name (d ∷ ds) = by_name (is_named name d) (taken_kept name ds)
  where
    by_name : (b : Bool) → Kept ds (taken_out name ds) → Kept (d ∷ ds) (if b then ds else d ∷ taken_out name ds)
    by_name true h = taken_away (all_kept ds)
    by_name false h = still_there refl (same_prefix d.journal) h

pub detached_kept : (number : ℕ) (xs : List Detach) (ds : List Device) → Kept ds (detached number xs ds)
detached_kept number [] ds = all_kept ds
detached_kept number (x ∷ xs) ds =
    kept_on ds (detached_if (nat_eq x.before number) x.device ds) (detached number xs (detached_if (nat_eq x.before number) x.device ds)) (by_number (nat_eq x.before number))
    (detached_kept number xs (detached_if (nat_eq x.before number) x.device ds))
  where
    by_number : (b : Bool) → Kept ds (detached_if b x.device ds)
    by_number true = taken_kept x.device ds
    by_number false = all_kept ds

journaled_kept : (name : List ℕ) (call : Asked) (ds : List Device) → Kept ds (journaled name call ds) × (length (journaled name call ds) ≡ length ds)
journaled_kept name call [] = (no_device, refl)
journaled_kept name call (d ∷ ds) = by_name (is_named name d) (journaled_kept name call ds)
  where
    by_name : (b : Bool) → Kept ds (journaled name call ds) × (length (journaled name call ds) ≡ length ds)
        → Kept (d ∷ ds) (if b then record { name = d.name; journal = d.journal ++ call ∷ [] } ∷ ds else d ∷ journaled name call ds)
        × (length (if b then record { name = d.name; journal = d.journal ++ call ∷ [] } ∷ ds else d ∷ journaled name call ds) ≡ suc (length ds))
    by_name true h = (still_there refl (call ∷ [], refl) (all_kept ds), refl)
    by_name false h = (still_there refl (same_prefix d.journal) h.0, ap suc h.1)

-- kept, and as many
abbrev pub Stay : List Device → List Device → Type 0
Stay ds es = Kept ds es × (length es ≡ length ds)

pub stay_same : (ds es : List Device) → es ≡ ds → Stay ds es
stay_same ds es e = subst (Stay ds) (sym e) (all_kept ds, refl)

pub stay_on : (ds es fs : List Device) → Stay ds es → Stay es fs → Stay ds fs
stay_on ds es fs h k = (kept_on ds es fs h.0 k.0, k.1 ∙ h.1)

pub meets_stay : (w : Program) (import : ℕ) (args : List Value) (lines : List AnswerLine) (ds : List Device) (o : Outcome) (lines' : List AnswerLine) (ds' : List Device)
    → Meets w import args lines ds o lines' ds' → Stay ds ds'
meets_stay w import args lines ds o lines' ds' h = by_bound (unwrap_or (slice_get w.binds import) None) h
  where
    by_there : (device : List ℕ) (b : Bool)
        → MatchBool b (Replied (name_at (base_names w.source) import) device args ds o ds' ⊎ ((o ≡ refused (DeviceFault import)) × (ds' ≡ ds))) ((o ≡ refused (NoDevice import)) × (ds' ≡ ds))
        → Stay ds ds'
    by_there device true (inl r) = subst (Stay ds) (sym r.4) (journaled_kept device (record { base = name_at (base_names w.source) import; args = args; reply = r.0 }) ds)
    by_there device true (inr f) = stay_same ds ds' f.1
    by_there device false f = stay_same ds ds' f.1

    by_bound : (b : Option (List ℕ)) → MeetsBound w.source import args b lines ds o lines' ds' → Stay ds ds'
    by_bound (Some device) g = by_there device (list_any (is_named device) ds) g.0
    by_bound None g = stay_same ds ds' g.1

calls_stay : (w : Program) (xs : List Note) (os : List Outcome) (lines : List AnswerLine) (ds : List Device) (os' : List Outcome) (lines' : List AnswerLine) (ds' : List Device)
    → CallsMeet w xs os lines ds os' lines' ds' → Stay ds ds'
calls_stay w [] os lines ds os' lines' ds' h = stay_same ds ds' h.2
calls_stay w (x ∷ xs) os lines ds os' lines' ds' h = by_call (λ os lines ds g. calls_stay w xs os lines ds os' lines' ds' g) (call_in x.event) h
  where
    by_call : ((os : List Outcome) (lines : List AnswerLine) (ds : List Device) → CallsMeet w xs os lines ds os' lines' ds' → Stay ds ds')
        → (c : Option Call) → NoteMeets w c os lines ds (λ o l d. CallsMeet w xs o l d os' lines' ds') → Stay ds ds'
    by_call on None g = on os lines ds g
    by_call on (Some c) g = stay_on ds g.3 ds' (meets_stay w c.import c.args lines ds g.0 g.2 g.3 g.5) (on g.1 g.2 g.3 g.6)

events_kept : (ws : List Program) (detaches : List Detach) (number : ℕ) (acts last : List Actor) (ds ds' : List Device) (lines : List Line)
    → Events ws detaches number acts ds lines last ds' → Kept ds ds'
events_kept ws detaches number acts last ds ds' lines no_event = all_kept ds
events_kept ws detaches number acts last ds ds' lines (an_event {actors' = mid} {ds' = es} {more = more} play rest e) =
    let begin : List Device = detached number detaches ds in
    let turn = calls_stay play.w (turn_of play.a.notes) play.a.outcomes play.a.answers begin play.outcomes play.answers es play.calls in
    kept_on ds begin ds' (detached_kept number detaches ds) (kept_on begin es ds' turn.0 (events_kept ws detaches (suc number) mid last es ds' more rest))

events_as_many : (ws : List Program) (detaches : List Detach) → detaches ≡ [] → (number : ℕ) (acts last : List Actor) (ds ds' : List Device) (lines : List Line)
    → Events ws detaches number acts ds lines last ds' → length ds' ≡ length ds
events_as_many ws detaches none number acts last ds ds' lines no_event = refl
events_as_many ws detaches none number acts last ds ds' lines (an_event {actors' = mid} {ds' = es} {more = more} play rest e) =
    let turn = calls_stay play.w (turn_of play.a.notes) play.a.outcomes play.a.answers (detached number detaches ds) play.outcomes play.answers es play.calls in
    events_as_many ws detaches none (suc number) mid last es ds' more rest ∙ turn.1 ∙ ap (λ (xs : List Detach). length (detached number xs ds)) none

pub devices_kept : DevicesKept
devices_kept begun ws detaches ds ds' lines world = events_kept ws detaches (suc begun) world.actors world.last ds ds' lines world.events

pub devices_kept_blocking : DevicesKeptBlocking
devices_kept_blocking os detaches ds ds' lines world = events_kept (map (λ (o : Original). o.program) os) detaches 1 world.actors world.last ds ds' lines world.events

pub none_taken_out : NoneTakenOut
none_taken_out begun ws ds ds' lines world = events_as_many ws [] refl (suc begun) world.actors world.last ds ds' lines world.events
