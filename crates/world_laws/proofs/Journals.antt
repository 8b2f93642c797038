-- Journals only grow.
use Rattle.std.proofs.Common.{◌≡◌, ◌^◌, ◌<◌, ◌⊎◌, inl, inr, ℕ, suc, List, [], ◌∷◌, ◌++◌, Option, Some, None, Bool, true, false, eqb-true, All, refl, sym, ap, ◌∙◌, subst, append_assoc, append-nil}
use Rattle.std.specs.Prelude.{MatchBool, if◌then◌else◌, nat_eq, ◌&&◌, ◌||◌, ◌==◌, slice_get}
use Rattle.std.specs.List.{list_any}
use Rattle.std.specs.Option.{unwrap_or}
use Rattle.std.proofs.lemmas.List.Elements.{All-head, All-tail}
use Rattle.wa_types.specs.declared.values.Value.{Value}
use Rattle.wa_types.specs.Validity.{same_name}
use Rattle.wa_model.specs.declared.answers.Detach.{Detach}
use Rattle.wa_model.specs.declared.answers.Said.TheVariants as S
use Rattle.wa_model.specs.declared.events.End.TheVariants.{DeviceFault, NoDevice}
use Rattle.wa_model.specs.Outside.{Call, AnswerLine, Line}
use Rattle.wa_model.specs.Plan.{Outcome, given, refused, ValueFits}
use Rattle.wa_model.specs.Blocking.{Note}
use Rattle.world_model.specs.World.{Reply, Asked, Device, is_named, taken_out, detached_if, detached, journaled, Program, base_names, name_at, MeetsBound, Meets, turn_of, call_in, NoteMeets}
use Rattle.world_model.specs.World.{CallsMeet, Actor, Events, no_event, an_event}

-- ---- names

both_true : (a b : Bool) → a && b ≡ true → (a ≡ true) × (b ≡ true)
both_true true b e = (refl, e)
both_true false b e = cc

pub name_same : (xs ys : List ℕ) → same_name xs ys ≡ true → xs ≡ ys
name_same [] [] e = refl
name_same [] (y ∷ ys) e = cc
name_same (x ∷ xs) [] e = cc
name_same (x ∷ xs) (y ∷ ys) e =
    let b = both_true (x == y) (same_name xs ys) e in
    let first : x ≡ y = eqb-true x y b.0 in
    ap (λ (z : ℕ). z ∷ xs) first ∙ ap (λ (zs : List ℕ). y ∷ zs) (name_same xs ys b.1)

-- ---- the first device of a name

abbrev pub journal_of : List ℕ → List Device → Option (List Asked)
journal_of name [] = None
journal_of name (d ∷ ds) = if is_named name d then Some d.journal else journal_of name ds

-- what is in the journal stays there
abbrev pub Grows : List ℕ → List Device → List Device → Type 0
Grows name ds ds' = (j : List Asked) → journal_of name ds ≡ Some j → (more : List Asked) × (journal_of name ds' ≡ Some (j ++ more))

pub grows_same : (name : List ℕ) (ds ds' : List Device) → journal_of name ds' ≡ journal_of name ds → Grows name ds ds'
grows_same name ds ds' e j h = ([], e ∙ h ∙ ap Some (sym (append-nil j)))

pub grows_on : (name : List ℕ) (ds es fs : List Device) → Grows name ds es → Grows name es fs → Grows name ds fs
grows_on name ds es fs g h j e =
    let a = g j e in
    let b = h (j ++ a.0) a.1 in
    (a.0 ++ b.0, b.1 ∙ ap Some (append_assoc j a.0 b.0))

-- a device of another name is taken out
other_taken : (name device : List ℕ) (ds : List Device) → same_name device name ≡ false → journal_of name (taken_out device ds) ≡ journal_of name ds
other_taken name device [] other = refl
other_taken name device (d ∷ ds) other = by_name (is_named device d) refl (other_taken name device ds other)
  where
    by_name : (b : Bool) → is_named device d ≡ b → journal_of name (taken_out device ds) ≡ journal_of name ds
        → journal_of name (if b then ds else d ∷ taken_out device ds) ≡ (if is_named name d then Some d.journal else journal_of name ds)
    by_name true e ih =
        let not_it : is_named name d ≡ false = ap (λ (n : List ℕ). same_name n name) (name_same d.name device e) ∙ other in
        sym (ap (λ (b : Bool). if b then Some d.journal else journal_of name ds) not_it)
    by_name false e ih = ap (λ (o : Option (List Asked)). if is_named name d then Some d.journal else o) ih

pub other_detached : (name : List ℕ) (number : ℕ) (xs : List Detach) (ds : List Device) → All (λ (x : Detach). same_name x.device name ≡ false) xs
    → journal_of name (detached number xs ds) ≡ journal_of name ds
other_detached name number [] ds h = refl
other_detached name number (x ∷ xs) ds h =
    other_detached name number xs (detached_if (nat_eq x.before number) x.device ds) (All-tail (λ (x : Detach). same_name x.device name ≡ false) x xs h)
    ∙ by_number (nat_eq x.before number)
  where
    by_number : (b : Bool) → journal_of name (detached_if b x.device ds) ≡ journal_of name ds
    by_number true = other_taken name x.device ds (All-head (λ (x : Detach). same_name x.device name ≡ false) x xs h)
    by_number false = refl

-- an answered call is kept
grows_journaled : (name asked : List ℕ) (call : Asked) (ds : List Device) → Grows name ds (journaled asked call ds)
grows_journaled name asked call [] = λ j e. cc
grows_journaled name asked call (d ∷ ds) = by_asked (is_named asked d) (grows_journaled name asked call ds)
  where
    by_name : (b : Bool) (o o' : Option (List Asked)) → ((j : List Asked) → o ≡ Some j → (more : List Asked) × (o' ≡ Some (j ++ more)))
        → (j : List Asked) → (if b then Some d.journal else o) ≡ Some j → (more : List Asked) × ((if b then Some d.journal else o') ≡ Some (j ++ more))
    by_name true o o' g j e = ([], e ∙ ap Some (sym (append-nil j)))
    by_name false o o' g j e = g j e

    by_kept : (b : Bool) (j : List Asked) → (if b then Some d.journal else journal_of name ds) ≡ Some j
        → (more : List Asked) × ((if b then Some (d.journal ++ call ∷ []) else journal_of name ds) ≡ Some (j ++ more))
    by_kept true j e = (call ∷ [], ap (λ (k : List Asked). Some (k ++ call ∷ [])) (some_same d.journal j e))
      where
        some_same : (x y : List Asked) → Some x ≡ Some y → x ≡ y
        some_same x y e = cc
    by_kept false j e = ([], e ∙ ap Some (sym (append-nil j)))

    by_asked : (b : Bool) → Grows name ds (journaled asked call ds)
        → Grows name (d ∷ ds) (if b then record { name = d.name; journal = d.journal ++ call ∷ [] } ∷ ds else d ∷ journaled asked call ds)
    by_asked true ih = by_kept (is_named name d)
    by_asked false ih = by_name (is_named name d) (journal_of name ds) (journal_of name (journaled asked call ds)) ih

-- the journal with one more call
pub journaled_is : (name : List ℕ) (call : Asked) (ds : List Device) → list_any (is_named name) ds ≡ true
    → (j : List Asked) × (journal_of name ds ≡ Some j) × (journal_of name (journaled name call ds) ≡ Some (j ++ call ∷ []))
journaled_is name call [] h = cc
journaled_is name call (d ∷ ds) h = by_name (is_named name d) refl h (λ g. journaled_is name call ds g)
  where
    by_name : (b : Bool) → is_named name d ≡ b → list_any (is_named name) (d ∷ ds) ≡ true
        → (list_any (is_named name) ds ≡ true → (j : List Asked) × (journal_of name ds ≡ Some j) × (journal_of name (journaled name call ds) ≡ Some (j ++ call ∷ [])))
        → (j : List Asked) × ((if is_named name d then Some d.journal else journal_of name ds) ≡ Some j) ×
        (journal_of name (if is_named name d then record { name = d.name; journal = d.journal ++ call ∷ [] } ∷ ds else d ∷ journaled name call ds) ≡ Some (j ++ call ∷ []))
    by_name true e h ih = (
      d.journal,
      ap (λ (b : Bool). if b then Some d.journal else journal_of name ds) e,
      ap (λ (b : Bool). journal_of name (if b then record { name = d.name; journal = d.journal ++ call ∷ [] } ∷ ds else d ∷ journaled name call ds)) e
          ∙ ap (λ (b : Bool). if b then Some (d.journal ++ call ∷ []) else journal_of name ds) e,
    )
    by_name false e h ih =
        let r = ih (later (is_named name d) (list_any (is_named name) ds) e h) in (
          r.0,
          ap (λ (b : Bool). if b then Some d.journal else journal_of name ds) e ∙ r.1,
          ap (λ (b : Bool). journal_of name (if b then record { name = d.name; journal = d.journal ++ call ∷ [] } ∷ ds else d ∷ journaled name call ds)) e
              ∙ ap (λ (b : Bool). if b then Some d.journal else journal_of name (journaled name call ds)) e
              ∙ r.2,
        )
      where
        later : (a b : Bool) → a ≡ false → a || b ≡ true → b ≡ true
        later true b e f = cc
        later false b e f = f

-- ---- calls and events

-- a device of this name replies, and keeps the call
abbrev pub Replied : (base name : List ℕ) → List Value → List Device → Outcome → List Device → Type 0
Replied base name args ds o ds' =
    (r : Reply) × ValueFits r.value × (r.ticks < 2 ^ 32) × (o ≡ given (record { said = S.Value r.value; pokes = []; ticks = r.ticks }))
    × (ds' ≡ journaled name (record { base = base; args = args; reply = r }) ds)

pub meets_grow : (w : Program) (name : List ℕ) (import : ℕ) (args : List Value) (lines : List AnswerLine) (ds : List Device) (o : Outcome) (lines' : List AnswerLine) (ds' : List Device)
    → Meets w import args lines ds o lines' ds' → Grows name ds ds'
meets_grow w name import args lines ds o lines' ds' h = by_bound (unwrap_or (slice_get w.binds import) None) h
  where
    by_there : (device : List ℕ) (b : Bool)
        → MatchBool b
        (Replied (name_at (base_names w.source) import) device args ds o ds'
        ⊎ ((o ≡ refused (DeviceFault import)) × (ds' ≡ ds)))
        ((o ≡ refused (NoDevice import)) × (ds' ≡ ds))
        → Grows name ds ds'
    by_there device true (inl r) =
        subst (Grows name ds) (sym r.4) (grows_journaled name device (record { base = name_at (base_names w.source) import; args = args; reply = r.0 }) ds)
    by_there device true (inr f) = grows_same name ds ds' (ap (journal_of name) f.1)
    by_there device false f = grows_same name ds ds' (ap (journal_of name) f.1)

    by_bound : (b : Option (List ℕ)) → MeetsBound w.source import args b lines ds o lines' ds' → Grows name ds ds'
    by_bound (Some device) g = by_there device (list_any (is_named device) ds) g.0
    by_bound None g = grows_same name ds ds' (ap (journal_of name) g.1)

pub calls_grow : (w : Program) (name : List ℕ) (xs : List Note) (os : List Outcome) (lines : List AnswerLine) (ds : List Device) (os' : List Outcome) (lines' : List AnswerLine) (ds' : List Device)
    → CallsMeet w xs os lines ds os' lines' ds' → Grows name ds ds'
calls_grow w name [] os lines ds os' lines' ds' h = grows_same name ds ds' (ap (journal_of name) h.2)
calls_grow w name (x ∷ xs) os lines ds os' lines' ds' h = by_call (λ os lines ds g. calls_grow w name xs os lines ds os' lines' ds' g) (call_in x.event) h
  where
    by_call : ((os : List Outcome) (lines : List AnswerLine) (ds : List Device) → CallsMeet w xs os lines ds os' lines' ds' → Grows name ds ds')
        → (c : Option Call) → NoteMeets w c os lines ds (λ o l d. CallsMeet w xs o l d os' lines' ds') → Grows name ds ds'
    by_call on None g = on os lines ds g
    by_call on (Some c) g = grows_on name ds g.3 ds' (meets_grow w name c.import c.args lines ds g.0 g.2 g.3 g.5) (on g.1 g.2 g.3 g.6)

-- the journal of a device that isn't taken out
pub events_grow : (ws : List Program) (detaches : List Detach) (name : List ℕ) → All (λ (x : Detach). same_name x.device name ≡ false) detaches
    → (number : ℕ) (acts last : List Actor) (ds ds' : List Device) (lines : List Line) → Events ws detaches number acts ds lines last ds' → Grows name ds ds'
events_grow ws detaches name stays number acts last ds ds' lines no_event = grows_same name ds ds refl
events_grow ws detaches name stays number acts last ds ds' lines (an_event {actors' = mid} {ds' = es} {more = more} play rest e) =
    let first : Grows name ds (detached number detaches ds) = grows_same name ds (detached number detaches ds) (other_detached name number detaches ds stays) in
    let turn = calls_grow play.w name (turn_of play.a.notes) play.a.outcomes play.a.answers (detached number detaches ds) play.outcomes play.answers es play.calls in
    let on = events_grow ws detaches name stays (suc number) mid last es ds' more rest in
    grows_on name ds (detached number detaches ds) ds' first (grows_on name (detached number detaches ds) es ds' turn on)

-- ---- what two journals with one end tell

call_same : (j : List Asked) (a b : Asked) (xs ys : List Asked) → (j ++ a ∷ []) ++ xs ≡ (j ++ b ∷ []) ++ ys → a ≡ b
call_same [] a b xs ys e = head e
  where
    head : a ∷ xs ≡ b ∷ ys → a ≡ b
    head e = cc
call_same (x ∷ j) a b xs ys e = call_same j a b xs ys (rest e)
  where
    rest : x ∷ ((j ++ a ∷ []) ++ xs) ≡ x ∷ ((j ++ b ∷ []) ++ ys) → (j ++ a ∷ []) ++ xs ≡ (j ++ b ∷ []) ++ ys
    rest e = cc

some_list : (x y : List Asked) → Some x ≡ Some y → x ≡ y
some_list x y e = cc

-- Two replies to one call are one, where the journals end as one.
pub replies_same : (name base : List ℕ) (args : List Value) (r q : Reply) (ds ds' : List Device) → list_any (is_named name) ds ≡ true
    → Grows name (journaled name (record { base = base; args = args; reply = r }) ds) ds' → Grows name (journaled name (record { base = base; args = args; reply = q }) ds) ds' → r ≡ q
replies_same name base args r q ds ds' there g h =
    let a = journaled_is name (record { base = base; args = args; reply = r }) ds there in
    let b = journaled_is name (record { base = base; args = args; reply = q }) ds there in
    let same : a.0 ≡ b.0 = some_list a.0 b.0 (sym a.1 ∙ b.1) in
    let x = g (a.0 ++ record { base = base; args = args; reply = r } ∷ []) a.2 in
    let y = h (b.0 ++ record { base = base; args = args; reply = q } ∷ []) b.2 in
    let both : (b.0 ++ record { base = base; args = args; reply = r } ∷ []) ++ x.0 ≡ (b.0 ++ record { base = base; args = args; reply = q } ∷ []) ++ y.0 =
    ap (λ (j : List Asked). (j ++ record { base = base; args = args; reply = r } ∷ []) ++ x.0) (sym same)
    ∙ some_list ((a.0 ++ record { base = base; args = args; reply = r } ∷ []) ++ x.0) ((b.0 ++ record { base = base; args = args; reply = q } ∷ []) ++ y.0) (sym x.1 ∙ y.1) in
    ap (λ (c : Asked). c.reply) (call_same b.0 (record { base = base; args = args; reply = r }) (record { base = base; args = args; reply = q }) x.0 y.0 both)
