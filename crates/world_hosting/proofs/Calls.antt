-- One call, as a line's devices took it and as the world's did.
use Rattle.std.proofs.Common.{◌≡◌, ◌⊎◌, inl, inr, ℕ, List, [], ◌∷◌, Option, Some, None, Bool, true, false, refl, sym, ap, ◌∙◌, subst}
use Rattle.std.specs.Prelude.{MatchBool}
use Rattle.std.specs.List.{list_any}
use Rattle.wa_types.specs.Validity.{same_name}
use Rattle.wa_model.specs.declared.events.End.{End}
use Rattle.wa_model.specs.declared.events.End.TheVariants.{OtherImport, DeviceFault, NoDevice}
use Rattle.wa_model.specs.Outside.{Call, AnswerLine, Event, ended}
use Rattle.wa_model.specs.Plan.{Outcome, given, refused}
use Rattle.wa_model.specs.Blocking.{Note}
use Rattle.world_model.specs.World.{Asked, Device, Program, base_names, import_names, is_named, name_at, MeetsLine, MeetsBound, Meets}
use Rattle.event_order.specs.Left.{Counted}
use Rattle.host_laws.specs.Supplies.{Answers, Counts, bound_to}
use Rattle.many_host.specs.Calls.{devices_of, faults_of}
use Rattle.many_host.specs.Telling.{supply}
use Rattle.world_laws.specs.Replays.{is_device_fault, is_fault}
use Rattle.world_laws.proofs.Faults.{FaultIs, Opens, OpensIf}
use Rattle.world_laws.proofs.Journals.{Replied}
use Rattle.world_hosting.specs.FaultCounts.{failed_as, one_more, one_more_if}
use Rattle.world_hosting.proofs.Ledgers.{Beside, OneGains, all_keep, counts_rise, failed_beside, failer_gains, kept_beside, paid_beside, replied_beside, replier_gains, there_same}

-- ---- what is owed behind a call: the fault with which it was refused

abbrev pub owed : Program → Option Outcome → List Counted → List Counted
owed w None ls = ls
owed w (Some (given a)) ls = ls
owed w (Some (refused e)) ls = one_more_if (failed_as (Some w) e) ls

-- notes behind a call, or where none is right before them
abbrev pub Behind : Option Outcome → List Note → Type 0
Behind None xs = Opens xs
Behind (Some o) xs = OpensIf o xs

not_failed : (w : Option Program) (how : End) → is_device_fault how ≡ false → failed_as w how ≡ None
not_failed w (DeviceFault import) h = absurd cc
not_failed w _ h = refl

forgiven : (f : Option (List ℕ)) (ms : List Counted) (ds : List Device) (ls : List Counted) → Beside ms ds (one_more_if f ls) → Beside ms ds ls
forgiven None ms ds ls h = h
forgiven (Some name) ms ds ls h = paid_beside name ms ds ls h

-- no line tells it
pub untold : (w : Program) (r : Option Outcome) (ms : List Counted) (ds : List Device) (ls : List Counted) → Beside ms ds (owed w r ls) → Beside ms ds ls
untold w None ms ds ls h = h
untold w (Some (given a)) ms ds ls h = h
untold w (Some (refused e)) ms ds ls h = forgiven (failed_as (Some w) e) ms ds ls h

-- an end tells it, or tells no fault
pub told : (w : Program) (r : Option Outcome) (how : End) (x : Note) (xs : List Note) (ms : List Counted) (ds : List Device) (ls : List Counted) → x.event ≡ ended how → Behind r (x ∷ xs)
    → Beside ms ds (owed w r ls) → Beside ms ds (one_more_if (failed_as (Some w) how) ls)
told w r how x xs ms ds ls is behind h = by (is_device_fault how) refl r behind h
  where
    none : is_device_fault how ≡ false → Beside ms ds ls → Beside ms ds (one_more_if (failed_as (Some w) how) ls)
    none e k = subst (λ (f : Option (List ℕ)). Beside ms ds (one_more_if f ls)) (sym (not_failed (Some w) how e)) k

    this : (e : End) → FaultIs e x.event → is_device_fault how ≡ true → how ≡ e
    this e f = subst (λ (v : Event). FaultIs e v) is f

    by : (b : Bool) → is_device_fault how ≡ b → (q : Option Outcome) → Behind q (x ∷ xs) → Beside ms ds (owed w q ls) → Beside ms ds (one_more_if (failed_as (Some w) how) ls)
    by false e q f k = none e (untold w q ms ds ls k)
    by true e None f k = none (ap is_fault (sym is) ∙ f) k
    by true e (Some (given a)) f k = none (ap is_fault (sym is) ∙ f) k
    by true e (Some (refused q)) f k = subst (λ (v : End). Beside ms ds (one_more_if (failed_as (Some w) v) ls)) (sym (this q f e)) k

-- ---- one call

module _ (w : Program) (ms ms' : List Counted) (ds ds' : List Device) (ls : List Counted) (beside : Beside ms ds ls) where
  -- answer lines refuse otherwise
  line_owes : (import : ℕ) (name : List ℕ) (lines : List AnswerLine) (o : Outcome) (lines' : List AnswerLine) → MeetsLine import name lines o lines' → owed w (Some o) ls ≡ ls
  line_owes import name [] o lines' h = ap (λ (u : Outcome). owed w (Some u) ls) h.0
  line_owes import name (l ∷ lines) o lines' h = by (same_name l.import name) h
    where
      by : (b : Bool) → MatchBool b ((o ≡ given l.answer) × (lines' ≡ lines)) ((o ≡ refused (OtherImport import l.import)) × (lines' ≡ l ∷ lines)) → owed w (Some o) ls ≡ ls
      by true k = ap (λ (u : Outcome). owed w (Some u) ls) k.0
      by false k = ap (λ (u : Outcome). owed w (Some u) ls) k.0

  pub called_beside : (c : Call) (lines lines' answers left : List AnswerLine) (o u : Outcome) → Meets w c.import c.args lines ds o lines' ds'
      → Answers w c (supply answers (devices_of ms) (faults_of ms)) u (supply left (devices_of ms') (faults_of ms')) → Beside ms' ds' (owed w (Some o) ls)
  called_beside c lines lines' answers left o u meets took = by_bound (bound_to w c.import) refl meets took.meets took.counts
    where
      base : List ℕ
      base = name_at (base_names w.source) c.import

      same_world : (q : Outcome) → ds' ≡ ds → owed w (Some o) ls ≡ ls → Beside ms' ds ls → Beside ms' ds' (owed w (Some o) ls)
      same_world q e f k = subst (λ (es : List Device). Beside ms' es (owed w (Some o) ls)) (sym e) (subst (Beside ms' ds) (sym f) k)

      unasked : (bound : Option (List ℕ)) → devices_of ms' ≡ devices_of ms → Counts c.import bound (devices_of ms) u (faults_of ms) (faults_of ms') → Beside ms' ds ls
      unasked bound e counts = kept_beside ms ms' ds ls beside (all_keep ms ms' e (counts_rise c.import bound (devices_of ms) u (faults_of ms) (faults_of ms') counts))

      gains : (name : List ℕ) → Replied base name c.args (devices_of ms) u (devices_of ms') ⊎ ((u ≡ refused (DeviceFault c.import)) × (devices_of ms' ≡ devices_of ms))
          → Counts c.import (Some name) (devices_of ms) u (faults_of ms) (faults_of ms') → OneGains name ms ms'
      gains name (inl r) counts =
          replier_gains name (record { base = base; args = c.args; reply = r.0 }) ms ms' r.4 (counts_rise c.import (Some name) (devices_of ms) u (faults_of ms) (faults_of ms') counts)
      gains name (inr f) counts = failer_gains name c.import ms ms' u f.1 f.0 counts

      asked : (name : List ℕ) → bound_to w c.import ≡ Some name → Replied base name c.args ds o ds' ⊎ ((o ≡ refused (DeviceFault c.import)) × (ds' ≡ ds)) → OneGains name ms ms'
          → Beside ms' ds' (owed w (Some o) ls)
      asked name is (inl r) g =
          let call : Asked = record { base = base; args = c.args; reply = r.0 } in
          let none : owed w (Some o) ls ≡ ls = ap (λ (q : Outcome). owed w (Some q) ls) r.3 in
          subst (Beside ms' ds') (sym none) (subst (λ (es : List Device). Beside ms' es ls) (sym r.4) (replied_beside name call ms ms' ds ls beside g))
      asked name is (inr f) g =
          let fault : owed w (Some o) ls ≡ one_more name ls = ap (λ (q : Outcome). owed w (Some q) ls) f.0 ∙ ap (λ (b : Option (List ℕ)). one_more_if b ls) is in
          subst (Beside ms' ds') (sym fault) (subst (λ (es : List Device). Beside ms' es (one_more name ls)) (sym f.1) (failed_beside name ms ms' ds ls beside g))

      by_there : (name : List ℕ) (a b : Bool) → bound_to w c.import ≡ Some name → a ≡ b
          → MatchBool b (Replied base name c.args ds o ds' ⊎ ((o ≡ refused (DeviceFault c.import)) × (ds' ≡ ds))) ((o ≡ refused (NoDevice c.import)) × (ds' ≡ ds))
          → MatchBool a
          (Replied base name c.args (devices_of ms) u (devices_of ms') ⊎ ((u ≡ refused (DeviceFault c.import)) × (devices_of ms' ≡ devices_of ms)))
          ((u ≡ refused (NoDevice c.import)) × (devices_of ms' ≡ devices_of ms))
          → Counts c.import (Some name) (devices_of ms) u (faults_of ms) (faults_of ms') → Beside ms' ds' (owed w (Some o) ls)
      by_there name true true is e g h counts = asked name is g (gains name h counts)
      by_there name false false is e g h counts = same_world o g.1 (ap (λ (q : Outcome). owed w (Some q) ls) g.0) (unasked (Some name) h.1 counts)
      by_there name true false is e g h counts = absurd cc
      by_there name false true is e g h counts = absurd cc

      by_bound : (b : Option (List ℕ)) → bound_to w c.import ≡ b → MeetsBound w.source c.import c.args b lines ds o lines' ds'
          → MeetsBound w.source c.import c.args b answers (devices_of ms) u left (devices_of ms') → Counts c.import b (devices_of ms) u (faults_of ms) (faults_of ms')
          → Beside ms' ds' (owed w (Some o) ls)
      by_bound None is g h counts =
          same_world o g.1 (line_owes c.import (name_at (import_names w.source) c.import) lines o lines' g.0) (unasked None h.1 counts)
      by_bound (Some name) is g h counts =
          by_there name (list_any (is_named name) (devices_of ms)) (list_any (is_named name) ds) is (there_same name ms ds ls beside) g.0 h.0 counts
