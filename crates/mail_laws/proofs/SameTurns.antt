-- A turn that one program tells in two runs, from where it stands in both.
use Rattle.std.proofs.Common.{arith, ◌≡◌, ◌+◌, ◌⊎◌, inl, inr, ℕ, suc, List, [], ◌∷◌, ◌++◌, length, map, Option, Some, None, Bool, true, false, MatchBool, slice_get, refl, sym, ap, ◌∙◌, subst, append_assoc, length-append}
use Rattle.std.specs.Prelude.{if◌then◌else◌, ◌||◌}
use Rattle.std.specs.List.{find, list_any}
use Rattle.wa_types.specs.Validity.{same_name}
use Rattle.std.proofs.lemmas.Option.{same_Some}
use Rattle.wa_types.specs.declared.values.Value.{Value}
use Rattle.wa_types.specs.declared.values.Value.TheVariants as V
use Rattle.wa_model.specs.declared.events.End.{End}
use Rattle.wa_model.specs.Outside.{Answer, AnswerLine, Call, Event, Line, answered, called, ended, parked, paused, returned, shown}
use Rattle.wa_model.specs.Plan.{Outcome, given, refused}
use Rattle.wa_model.specs.Blocking.{Note, note}
use Rattle.wa_model.specs.Store.{Store}
use Rattle.world_model.specs.World.{Device, Look, MeetsBound as UnboxedBound, MeetsDevice, Meets as UnboxedMeets, Program, base_names, call_in, ends_turn, events_with_looks, import_names, line_at, name_at, protocol_story}
use Rattle.world_laws.specs.Originals.{new_calls, one_if}
use Rattle.world_laws.specs.Replays.{is_fault}
use Rattle.world_laws.proofs.Counting.{calls_on}
use Rattle.world_laws.proofs.Determined.{line_fixes}
use Rattle.world_laws.proofs.Faults.{Opens}
use Rattle.world_laws.proofs.Heads.{FirstSame, Like, Met, front_same, next_same, no_fault_behind, refusal_next, same_met}
use Rattle.world_laws.proofs.Journals.{Grows, grows_on, grows_same, journal_of, meets_grow}
use Rattle.world_laws.proofs.Locksteps.{call_is, shows_none}
use Rattle.world_laws.proofs.StoryParts.{begins_any}
use Rattle.mailbox_device.specs.Mail.{Box, at_box as at_told, awaited as told_awaited, is_box as has_name, names_of, received as told_received, sent as told_sent, sent_past as told_past}
use Rattle.mail_laws.specs.MailWorld.{told_pause}
use Rattle.mail_laws.specs.Replays.{IsNoBox, wrong_in}
use Rattle.mail_laws.specs.Told.{Amid, Await, EndsOnce, parked_in}
use Rattle.mail_laws.proofs.KnownCalls.{AtEmpty, Known, KnownBound, KnownBox, KnownCalls, KnownNamed, KnownNote, KnownValues, OneQuiet, bound_to}
use Rattle.mail_laws.proofs.TurnsTold.{last_wrong}

-- ---- devices along known calls

values_stay : (name vs : List ℕ) (m : Amid) (o : Outcome) (m' : Amid) → KnownValues name vs m o m' → m'.devices ≡ m.devices
values_stay name [] m o m' h = absurd h
values_stay name (v ∷ vs) m o m' h = ap (λ (z : Amid). z.devices) h.1

box_stays : (import : ℕ) (name : List ℕ) (args : List Value) (b : Box) (m : Amid) (o : Outcome) (m' : Amid) → KnownBox import name args b m o m' → m'.devices ≡ m.devices
box_stays import name [] b m o m' h = values_stay name b.values m o m' h
box_stays import name (V.I32 v ∷ []) b m o m' h = ap (λ (z : Amid). z.devices) h.1
box_stays import name (V.I32 v ∷ y ∷ ys) b m o m' h = ap (λ (z : Amid). z.devices) h.1
box_stays import name (V.I64 v ∷ ys) b m o m' h = ap (λ (z : Amid). z.devices) h.1

-- a device's call is one of the world without mailboxes
at_device : (w : Program) (c : Call) (name : List ℕ) → bound_to w c ≡ Some name → (lines left : List AnswerLine) (ds es : List Device) (o : Outcome)
    → MeetsDevice c.import (name_at (base_names w.source) c.import) name c.args ds o es → left ≡ lines → UnboxedMeets w c.import c.args lines ds o left es
at_device w c name bound lines left ds es o h same = subst (λ (b : Option (List ℕ)). UnboxedBound w.source c.import c.args b lines ds o left es) (sym bound) (h, same)

known_grows : (w : Program) (name : List ℕ) (c : Call) (lines left : List AnswerLine) (m m' : Amid) (o : Outcome) → Known w c lines m o left m' → Grows name m.devices m'.devices
known_grows w name c lines left m m' o h = by_bound (bound_to w c) refl h
  where
    by_found : (box : List ℕ) → bound_to w c ≡ Some box → left ≡ lines → (found : Option Box) → KnownNamed c.import (name_at (base_names w.source) c.import) box c.args found m o m'
        → Grows name m.devices m'.devices
    by_found box e same None g =
        subst (λ (z : Amid). Grows name m.devices z.devices) (sym g.2)
        (meets_grow w name c.import c.args lines m.devices o left g.0 (at_device w c box e lines left m.devices g.0 o g.1 same))
    by_found box e same (Some b) g = grows_same name m.devices m'.devices (ap (journal_of name) (box_stays c.import box c.args b m o m' g))

    by_bound : (b : Option (List ℕ)) → bound_to w c ≡ b → KnownBound w.source c.import c.args b lines m o left m' → Grows name m.devices m'.devices
    by_bound None e g = grows_same name m.devices m'.devices (ap (λ (z : Amid). journal_of name z.devices) g.1)
    by_bound (Some box) e g = by_found box e g.1 (find (has_name box) m.boxes) g.0

pub calls_grow : (w : Program) (name : List ℕ) (xs : List Note) (os us : List Outcome) (lines left : List AnswerLine) (m m' : Amid) → KnownCalls w xs os lines m us left m' → Grows name m.devices m'.devices
calls_grow w name [] os us lines left m m' h = grows_same name m.devices m'.devices (ap (λ (z : Amid). journal_of name z.devices) h.2)
calls_grow w name (x ∷ xs) os us lines left m m' h = by_call (λ o l z g. calls_grow w name xs o us l left z m' g) (call_in x.event) h
  where
    by_call : ((o : List Outcome) (l : List AnswerLine) (z : Amid) → KnownCalls w xs o l z us left m' → Grows name z.devices m'.devices)
        → (c : Option Call) → KnownNote w (OneQuiet xs) c os lines m us left m' (λ o l z. KnownCalls w xs o l z us left m') → Grows name m.devices m'.devices
    by_call on None g = on os lines m g
    by_call on (Some c) (inl g) = grows_on name m.devices g.3.devices m'.devices (known_grows w name c lines g.2 m g.3 g.0 g.5) (on g.1 g.2 g.3 g.6)
    by_call on (Some c) (inr g) = grows_same name m.devices m'.devices (ap (λ (z : Amid). journal_of name z.devices) g.5)

-- ---- names of mailboxes along them

at_names : (f : Box → Box) → ((b : Box) → (f b).name ≡ b.name) → (name : List ℕ) (bs : List Box) → names_of (at_told f name bs) ≡ names_of bs
at_names f same name [] = refl
at_names f same name (b ∷ bs) = by (same_name b.name name) (at_names f same name bs)
  where
    by : (y : Bool) → names_of (at_told f name bs) ≡ names_of bs → names_of (if y then f b ∷ bs else b ∷ at_told f name bs) ≡ b.name ∷ names_of bs
    by true on = ap (λ (n : List ℕ). n ∷ names_of bs) (same b)
    by false on = ap (λ (ns : List (List ℕ)). b.name ∷ ns) on

past_name : (v : ℕ) (b : Box) (ws : List ℕ) → (told_past v b ws).name ≡ b.name
past_name v b [] = refl
past_name v b (j ∷ js) = refl

known_names : (w : Program) (c : Call) (lines left : List AnswerLine) (m m' : Amid) (o : Outcome) → Known w c lines m o left m' → names_of m'.boxes ≡ names_of m.boxes
known_names w c lines left m m' o h = by_bound (bound_to w c) h
  where
    by_values : (name vs : List ℕ) → KnownValues name vs m o m' → names_of m'.boxes ≡ names_of m.boxes
    by_values name [] g = absurd g
    by_values name (v ∷ vs) g = ap (λ (z : Amid). names_of z.boxes) g.1 ∙ at_names (told_received vs) (λ b. refl) name m.boxes

    by_args : (name : List ℕ) (b : Box) (args : List Value) → KnownBox c.import name args b m o m' → names_of m'.boxes ≡ names_of m.boxes
    by_args name b [] g = by_values name b.values g
    by_args name b (V.I32 v ∷ []) g = ap (λ (z : Amid). names_of z.boxes) g.1 ∙ at_names (told_sent v) (λ d. past_name v d d.waits) name m.boxes
    by_args name b (V.I32 v ∷ y ∷ ys) g = ap (λ (z : Amid). names_of z.boxes) g.1
    by_args name b (V.I64 v ∷ ys) g = ap (λ (z : Amid). names_of z.boxes) g.1

    by_found : (name : List ℕ) (found : Option Box) → KnownNamed c.import (name_at (base_names w.source) c.import) name c.args found m o m' → names_of m'.boxes ≡ names_of m.boxes
    by_found name None g = ap (λ (z : Amid). names_of z.boxes) g.2
    by_found name (Some b) g = by_args name b c.args g

    by_bound : (b : Option (List ℕ)) → KnownBound w.source c.import c.args b lines m o left m' → names_of m'.boxes ≡ names_of m.boxes
    by_bound None g = ap (λ (z : Amid). names_of z.boxes) g.1
    by_bound (Some name) g = by_found name (find (has_name name) m.boxes) g.0

pub calls_names : (w : Program) (xs : List Note) (os us : List Outcome) (lines left : List AnswerLine) (m m' : Amid) → KnownCalls w xs os lines m us left m' → names_of m'.boxes ≡ names_of m.boxes
calls_names w [] os us lines left m m' h = ap (λ (z : Amid). names_of z.boxes) h.2
calls_names w (x ∷ xs) os us lines left m m' h = by_call (λ o l z g. calls_names w xs o us l left z m' g) (call_in x.event) h
  where
    by_call : ((o : List Outcome) (l : List AnswerLine) (z : Amid) → KnownCalls w xs o l z us left m' → names_of m'.boxes ≡ names_of z.boxes)
        → (c : Option Call) → KnownNote w (OneQuiet xs) c os lines m us left m' (λ o l z. KnownCalls w xs o l z us left m') → names_of m'.boxes ≡ names_of m.boxes
    by_call on None g = on os lines m g
    by_call on (Some c) (inl g) = on g.1 g.2 g.3 g.6 ∙ known_names w c lines g.2 m g.3 g.0 g.5
    by_call on (Some c) (inr g) = ap (λ (z : Amid). names_of z.boxes) g.5

pub parked_names : (i : ℕ) (p : Option Await) (bs : List Box) → names_of (parked_in i p bs) ≡ names_of bs
parked_names i None bs = refl
parked_names i (Some r) bs = at_names (told_awaited i) (λ b. refl) r.box bs

-- a name that isn't found is no mailbox's
no_box : (name : List ℕ) (bs : List Box) → find (has_name name) bs ≡ None → IsNoBox name (names_of bs)
no_box name [] e = refl
no_box name (b ∷ bs) e = by (same_name b.name name) e (no_box name bs)
  where
    by : (y : Bool) → (if y then Some b else find (has_name name) bs) ≡ None → (find (has_name name) bs ≡ None → IsNoBox name (names_of bs))
        → (y || list_any (λ (box : List ℕ). same_name box name) (names_of bs)) ≡ false
    by true f on = absurd cc
    by false f on = on f

-- ---- how many calls there are

-- they leave what isn't received yet
known_receive : (w : Program) (c : Call) (lines left : List AnswerLine) (m m' : Amid) (o : Outcome) → Known w c lines m o left m' → m'.receive ≡ m.receive
known_receive w c lines left m m' o h = by_bound (bound_to w c) h
  where
    by_values : (name vs : List ℕ) → KnownValues name vs m o m' → m'.receive ≡ m.receive
    by_values name [] g = absurd g
    by_values name (v ∷ vs) g = ap (λ (z : Amid). z.receive) g.1

    by_args : (name : List ℕ) (b : Box) (args : List Value) → KnownBox c.import name args b m o m' → m'.receive ≡ m.receive
    by_args name b [] g = by_values name b.values g
    by_args name b (V.I32 v ∷ []) g = ap (λ (z : Amid). z.receive) g.1
    by_args name b (V.I32 v ∷ y ∷ ys) g = ap (λ (z : Amid). z.receive) g.1
    by_args name b (V.I64 v ∷ ys) g = ap (λ (z : Amid). z.receive) g.1

    by_found : (name : List ℕ) (found : Option Box) → KnownNamed c.import (name_at (base_names w.source) c.import) name c.args found m o m' → m'.receive ≡ m.receive
    by_found name None g = ap (λ (z : Amid). z.receive) g.2
    by_found name (Some b) g = by_args name b c.args g

    by_bound : (b : Option (List ℕ)) → KnownBound w.source c.import c.args b lines m o left m' → m'.receive ≡ m.receive
    by_bound None g = ap (λ (z : Amid). z.receive) g.1
    by_bound (Some name) g = by_found name (find (has_name name) m.boxes) g.0

-- 1 for a receive that is open
abbrev pub open_receive : Option Await → ℕ
open_receive None = 0
open_receive (Some r) = 1

-- so many calls there are, of which one may be such a receive
pub calls_count : (w : Program) (xs : List Note) (os us : List Outcome) (lines left : List AnswerLine) (m m' : Amid) → KnownCalls w xs os lines m us left m' → m.receive ≡ None
    → new_calls xs + length us ≡ length os + open_receive m'.receive
calls_count w [] os us lines left m m' h none =
    let e = ap length h.0 in let z : open_receive m'.receive ≡ 0 = ap open_receive (ap (λ (z : Amid). z.receive) h.2 ∙ none) in omega (arith, e, z)
calls_count w (x ∷ xs) os us lines left m m' h none = by_call (λ o l z g e. calls_count w xs o us l left z m' g e) (call_in x.event) h
  where
    by_call : ((o : List Outcome) (l : List AnswerLine) (z : Amid) → KnownCalls w xs o l z us left m' → z.receive ≡ None → new_calls xs + length us ≡ length o + open_receive m'.receive)
        → (c : Option Call) → KnownNote w (OneQuiet xs) c os lines m us left m' (λ o l z. KnownCalls w xs o l z us left m')
        → (one_if c + new_calls xs) + length us ≡ length os + open_receive m'.receive
    by_call on None g = let h = on os lines m g none in omega (arith, h)
    by_call on (Some c) (inl g) =
        let h = on g.1 g.2 g.3 g.6 (known_receive w c lines g.2 m g.3 g.0 g.5 ∙ none) in let e = ap length g.4 in omega (arith, h, e)
    by_call on (Some c) (inr g) =
        let e = ap length g.3 in
        let one : open_receive m'.receive ≡ 1 = ap (λ (z : Amid). open_receive z.receive) g.5 in
        let quiet : new_calls xs ≡ 0 = ap new_calls g.2.1 ∙ ap (λ (c : Option Call). one_if c + 0) g.2.2 in
        omega (arith, e, one, quiet)

-- ---- one call in two runs

value_apart : (name vs : List ℕ) (m : Amid) (o : Outcome) (m' : Amid) → vs ≡ [] → KnownValues name vs m o m' → ⊥
value_apart name [] m o m' e h = h
value_apart name (v ∷ vs) m o m' e h = cc

-- it isn't a receive at an empty mailbox too
pub known_apart : (w : Program) (c : Call) (lines left : List AnswerLine) (m m' : Amid) (o : Outcome) (r : Await) → Known w c lines m o left m' → AtEmpty w c m r → ⊥
known_apart w c lines left m m' o r h a =
    let bound : KnownBound w.source c.import c.args (Some a.name) lines m o left m' = subst (λ (b : Option (List ℕ)). KnownBound w.source c.import c.args b lines m o left m') a.bound h in
    let found : KnownBox c.import a.name c.args a.box m o m' =
    subst (λ (f : Option Box). KnownNamed c.import (name_at (base_names w.source) c.import) a.name c.args f m o m') a.there bound.0 in
    value_apart a.name a.box.values m o m' a.empty (subst (λ (xs : List Value). KnownBox c.import a.name xs a.box m o m') a.args found)

pub one_await : (w : Program) (c : Call) (m : Amid) (r q : Await) → AtEmpty w c m r → AtEmpty w c m q → r ≡ q
one_await w c m r q a b =
    let e : a.name ≡ b.name = same_Some a.name b.name (sym a.bound ∙ b.bound) in
    a.is ∙ ap (λ (n : List ℕ). record { import = c.import; box = n }) e ∙ sym b.is

-- what is told behind a call
record Shows (w : Program) (c : Call) (ds' : List Device) (n : List Note) (o : Outcome) (begin m : Amid) : Type 0 where
  grows : (name : List ℕ) → bound_to w c ≡ Some name → find (has_name name) begin.boxes ≡ None → Grows name m.devices ds'
  opens : (a : Answer) → o ≡ given a → Opens n
  fails : (e : End) → o ≡ refused e → (s : Store) × (zs : List Note) × (n ≡ note (ended e) s ∷ zs)
  some : (z : Note) × (zs : List Note) × (n ≡ z ∷ zs)

known_same : (w : Program) (c : Call) (lines : List AnswerLine) (ds' : List Device) (n1 n2 : List Note) (m m1 m2 : Amid) (o q : Outcome) (l1 l2 : List AnswerLine)
    → Known w c lines m o l1 m1 → Known w c lines m q l2 m2 → Shows w c ds' n1 o m m1 → Shows w c ds' n2 q m m2
    → ((name : List ℕ) → bound_to w c ≡ Some name → find (has_name name) m.boxes ≡ None → FirstSame n1 n2) → (o ≡ q) × (l1 ≡ l2) × (m1 ≡ m2)
known_same w c lines ds' n1 n2 m m1 m2 o q l1 l2 h k a b first = by_bound (bound_to w c) refl h k
  where
    by_values : (name vs : List ℕ) → KnownValues name vs m o m1 → KnownValues name vs m q m2 → (o ≡ q) × (m1 ≡ m2)
    by_values name [] f g = absurd f
    by_values name (v ∷ vs) f g = (f.0 ∙ sym g.0, f.1 ∙ sym g.1)

    by_args : (name : List ℕ) (x : Box) (args : List Value) → KnownBox c.import name args x m o m1 → KnownBox c.import name args x m q m2 → (o ≡ q) × (m1 ≡ m2)
    by_args name x [] f g = by_values name x.values f g
    by_args name x (V.I32 v ∷ []) f g = (f.0 ∙ sym g.0, f.1 ∙ sym g.1)
    by_args name x (V.I32 v ∷ y ∷ ys) f g = (f.0 ∙ sym g.0, f.1 ∙ sym g.1)
    by_args name x (V.I64 v ∷ ys) f g = (f.0 ∙ sym g.0, f.1 ∙ sym g.1)

    by_found : (name : List ℕ) → bound_to w c ≡ Some name → l1 ≡ lines → l2 ≡ lines → (found : Option Box) → find (has_name name) m.boxes ≡ found
        → KnownNamed c.import (name_at (base_names w.source) c.import) name c.args found m o m1
        → KnownNamed c.import (name_at (base_names w.source) c.import) name c.args found m q m2 → (o ≡ q) × (m1 ≡ m2)
    by_found name e s1 s2 None none f g =
        let none_too : (other : List ℕ) → bound_to w c ≡ Some other → find (has_name other) m.boxes ≡ None =
        λ other bound. ap (λ (n : List ℕ). find (has_name n) m.boxes) (same_Some other name (sym bound ∙ e)) ∙ none in
        let one : Met w c lines m.devices ds' n1 o l1 f.0 = record {
          meets = at_device w c name e lines l1 m.devices f.0 o f.1 s1;
          grows = λ other bound. subst (λ (z : Amid). Grows other z.devices ds') f.2 (a.grows other bound (none_too other bound));
          opens = a.opens;
          fails = a.fails;
          some = a.some;
        } in
        let two : Met w c lines m.devices ds' n2 q l2 g.0 = record {
          meets = at_device w c name e lines l2 m.devices g.0 q g.1 s2;
          grows = λ other bound. subst (λ (z : Amid). Grows other z.devices ds') g.2 (b.grows other bound (none_too other bound));
          opens = b.opens;
          fails = b.fails;
          some = b.some;
        } in
        let r = same_met w c lines m.devices ds' n1 n2 o q l1 l2 f.0 g.0 one two (λ other bound. first other bound (none_too other bound)) in
        (r.0, f.2 ∙ ap (λ (ds : List Device). record { devices = ds; boxes = m.boxes; settled = m.settled; receive = m.receive }) r.2 ∙ sym g.2)
    by_found name e s1 s2 (Some x) there f g = by_args name x c.args f g

    by_bound : (d : Option (List ℕ)) → bound_to w c ≡ d → KnownBound w.source c.import c.args d lines m o l1 m1 → KnownBound w.source c.import c.args d lines m q l2 m2
        → (o ≡ q) × (l1 ≡ l2) × (m1 ≡ m2)
    by_bound None e f g = let r = line_fixes c.import (name_at (import_names w.source) c.import) lines o q l1 l2 f.0 g.0 in (r.1, r.0, f.1 ∙ sym g.1)
    by_bound (Some name) e f g = let r = by_found name e f.1 g.1 (find (has_name name) m.boxes) refl f.0 g.0 in (r.0, f.1 ∙ sym g.1, r.1)

-- ---- lines

-- As far as both go, lines of one place tell a fault both or neither, where the one is asked, and one value of a wrong type, or none, where the other is.
abbrev pub Agree : (F W : Type 0) → (lines1 lines2 : List Line) → Type 0
Agree F W lines1 lines2 =
    (i : ℕ) (x y : Line) → slice_get lines1 i ≡ Some x → slice_get lines2 i ≡ Some y → (F → is_fault x.event ≡ is_fault y.event) × (W → wrong_in x.event ≡ wrong_in y.event)

told_as : {X : Type 0} (p : Option X) (e : Event) → (is_fault (told_pause p e) ≡ is_fault e) × (wrong_in (told_pause p e) ≡ wrong_in e)
told_as None e = (refl, refl)
told_as (Some r) (paused t u) = (refl, refl)
told_as (Some r) (ended how) = (refl, refl)
told_as (Some r) (called c) = (refl, refl)
told_as (Some r) (answered c) = (refl, refl)
told_as (Some r) (parked u) = (refl, refl)
told_as (Some r) (returned i v) = (refl, refl)
told_as (Some r) (shown i v) = (refl, refl)

module _ (looks : List Look) (due number : ℕ) where
  -- the lines of these notes, and those behind them
  abbrev pub Lines : Option Await → List Note → List Line → List Line
  Lines p ns more = map (λ (e : Event). line_at due number (told_pause p e)) (events_with_looks looks ns) ++ more

  lines_go : (p : Option Await) (x : Note) (ns : List Note) (more : List Line) → ends_turn x.event ≡ false → Lines p (x ∷ ns) more ≡ line_at due number (told_pause p x.event) ∷ Lines p ns more
  lines_go p x ns more f =
      ap (λ (es : List Event). map (λ (e : Event). line_at due number (told_pause p e)) ((x.event ∷ es) ++ events_with_looks looks ns) ++ more) (shows_none looks x x.event f)

  module _ (F W : Type 0) where
    agree_behind : (p q : Option Await) (x y : Note) (n1 n2 : List Note) (more1 more2 : List Line) → ends_turn x.event ≡ false → ends_turn y.event ≡ false
        → Agree F W (Lines p (x ∷ n1) more1) (Lines q (y ∷ n2) more2) → Agree F W (Lines p n1 more1) (Lines q n2 more2)
    agree_behind p q x y n1 n2 more1 more2 f g h =
        let k : Agree F W (line_at due number (told_pause p x.event) ∷ Lines p n1 more1) (line_at due number (told_pause q y.event) ∷ Lines q n2 more2) =
        subst (λ (ls : List Line). Agree F W (line_at due number (told_pause p x.event) ∷ Lines p n1 more1) ls) (lines_go q y n2 more2 g)
        (subst (λ (ls : List Line). Agree F W ls (Lines q (y ∷ n2) more2)) (lines_go p x n1 more1 f) h) in
        λ i u v a b. k (suc i) u v a b

    first_agrees : (p q : Option Await) (x y : Note) (n1 n2 : List Note) (more1 more2 : List Line) → Agree F W (Lines p (x ∷ n1) more1) (Lines q (y ∷ n2) more2)
        → (F → is_fault x.event ≡ is_fault y.event) × (W → wrong_in x.event ≡ wrong_in y.event)
    first_agrees p q x y n1 n2 more1 more2 h =
        let r = h 0 (line_at due number (told_pause p x.event)) (line_at due number (told_pause q y.event)) refl refl in
        (λ f. sym (told_as p x.event).0 ∙ r.0 f ∙ (told_as q y.event).0, λ v. sym (told_as p x.event).1 ∙ r.1 v ∙ (told_as q y.event).1)

-- ---- notes of a turn

ended_once : (x : Note) (xs : List Note) → EndsOnce (x ∷ xs) → ends_turn x.event ≡ true → xs ≡ []
ended_once x xs h e = subst (λ (b : Bool). MatchBool b (xs ≡ []) (EndsOnce xs)) e h

goes_once : (x : Note) (xs : List Note) → EndsOnce (x ∷ xs) → ends_turn x.event ≡ false → EndsOnce xs
goes_once x xs h e = subst (λ (b : Bool). MatchBool b (xs ≡ []) (EndsOnce xs)) e h

some_first : (xs rest : List Note) → EndsOnce xs → (z : Note) × (zs : List Note) × (xs ++ rest ≡ z ∷ zs)
some_first [] rest h = absurd h
some_first (x ∷ xs) rest h = (x, xs ++ rest, refl)

last_behind : (x : Note) (xs : List Note) → EndsOnce xs → last_wrong (x ∷ xs) ≡ last_wrong xs
last_behind x [] h = absurd h
last_behind x (y ∷ ys) h = refl

module _ (w : Program) (ds' : List Device) (due number : ℕ) (p q : Option Await) (more1 more2 : List Line) (l1 l2 : List AnswerLine) (m1 m2 : Amid) (r1 r2 : List Note) (t1 t2 : List Outcome)
    (F W : Type 0) (names : List (List ℕ)) (device : (c : Call) (name : List ℕ) → bound_to w c ≡ Some name → IsNoBox name names → F) (some : (c : Call) (name : List ℕ) → bound_to w c ≡ Some name → W)
    (grow1 : F → (c : Call) (name : List ℕ) → bound_to w c ≡ Some name → IsNoBox name names → Grows name m1.devices ds')
    (grow2 : F → (c : Call) (name : List ℕ) → bound_to w c ≡ Some name → IsNoBox name names → Grows name m2.devices ds') where
  -- the same notes, or those of two receives at an empty mailbox that tell one value of a wrong type, or none
  abbrev pub SameNotes : List Note → List Note → Type 0
  SameNotes xs ys = (xs ≡ ys) ⊎ ((r : Await) × (m1.receive ≡ Some r) × (last_wrong xs ≡ last_wrong ys))

  pub record Same (xs ys : List Note) (os us : List Outcome) : Type 0 where
    pub met : os ≡ us
    pub answers : l1 ≡ l2
    pub behind : m1 ≡ m2
    pub notes : SameNotes xs ys

  abbrev Turn : List Note → List Note → Type 0
  Turn xs ys =
      (pre : List Outcome) (done : List Note) (os us : List Outcome) (lines : List AnswerLine) (m : Amid) → names_of m.boxes ≡ names → new_calls done ≡ length pre
      → protocol_story w (pre ++ (os ++ t1)) ≡ done ++ (xs ++ r1) → protocol_story w (pre ++ (us ++ t2)) ≡ done ++ (ys ++ r2) → EndsOnce xs → EndsOnce ys
      → KnownCalls w xs os lines m [] l1 m1 → KnownCalls w ys us lines m [] l2 m2 → Agree F W (Lines w.looks due number p xs more1) (Lines w.looks due number q ys more2) → Same xs ys os us

  notes_go : (x y : Note) (xs ys : List Note) → x ≡ y → EndsOnce xs → EndsOnce ys → SameNotes xs ys → SameNotes (x ∷ xs) (y ∷ ys)
  notes_go x y xs ys e once1 once2 (inl same) = inl (λ k. e k ∷ same k)
  notes_go x y xs ys e once1 once2 (inr h) = inr (h.0, h.1, last_behind x xs once1 ∙ h.2 ∙ sym (last_behind y ys once2))

  first_same : (xs ys : List Note) → EndsOnce xs → EndsOnce ys → Agree F W (Lines w.looks due number p xs more1) (Lines w.looks due number q ys more2) → F → FirstSame (xs ++ r1) (ys ++ r2)
  first_same [] ys once1 once2 h f = absurd once1
  first_same (x ∷ xs) [] once1 once2 h f = absurd once2
  first_same (x ∷ xs) (y ∷ ys) once1 once2 h f = (first_agrees w.looks due number F W p q x y xs ys more1 more2 h).0 f

  -- behind a call that isn't a receive at an empty mailbox, in both
  both_known : (x y : Note) (n1 n2 : List Note) (c : Call) (pre : List Outcome) (done : List Note) (os us : List Outcome) (lines : List AnswerLine) (m : Amid) → names_of m.boxes ≡ names
      → new_calls done ≡ length pre → protocol_story w (pre ++ (os ++ t1)) ≡ done ++ (x ∷ (n1 ++ r1)) → protocol_story w (pre ++ (us ++ t2)) ≡ done ++ (y ∷ (n2 ++ r2)) → EndsOnce n1 → EndsOnce n2
      → x.event ≡ called c → y.event ≡ called c
      → (g : (o : Outcome) × (vs : List Outcome) × (l : List AnswerLine) × (z : Amid) × (os ≡ o ∷ vs) × Known w c lines m o l z × KnownCalls w n1 vs l z [] l1 m1)
      → (h : (o : Outcome) × (vs : List Outcome) × (l : List AnswerLine) × (z : Amid) × (us ≡ o ∷ vs) × Known w c lines m o l z × KnownCalls w n2 vs l z [] l2 m2)
      → Agree F W (Lines w.looks due number p n1 more1) (Lines w.looks due number q n2 more2) → Turn n1 n2 → Same (x ∷ n1) (y ∷ n2) os us
  both_known x y n1 n2 c pre done os us lines m named count s1 s2 once1 once2 is1 is2 g h agree on =
      let free : (name : List ℕ) → find (has_name name) m.boxes ≡ None → IsNoBox name names =
      λ name e. subst (λ (ns : List (List ℕ)). IsNoBox name ns) named (no_box name m.boxes e) in
      let st1 : protocol_story w (pre ++ g.0 ∷ (g.1 ++ t1)) ≡ done ++ x ∷ (n1 ++ r1) = ap (λ (vs : List Outcome). protocol_story w (pre ++ (vs ++ t1))) (sym g.4) ∙ s1 in
      let st2 : protocol_story w (pre ++ h.0 ∷ (h.1 ++ t2)) ≡ done ++ y ∷ (n2 ++ r2) = ap (λ (vs : List Outcome). protocol_story w (pre ++ (vs ++ t2))) (sym h.4) ∙ s2 in
      let some1 = some_first n1 r1 once1 in
      let some2 = some_first n2 r2 once2 in
      let a : Shows w c ds' (n1 ++ r1) g.0 m g.3 = record {
        grows = λ name bound none.
            grows_on name g.3.devices m1.devices ds' (calls_grow w name n1 g.1 [] g.2 l1 g.3 m1 g.6) (grow1 (device c name bound (free name none)) c name bound (free name none));
        opens = λ v e. no_fault_behind w pre (g.1 ++ t1) done x c (n1 ++ r1) v count (ap (λ (o : Outcome). protocol_story w (pre ++ o ∷ (g.1 ++ t1))) (sym e) ∙ st1) is1;
        fails = λ f e.
            let r = refusal_next w pre (g.1 ++ t1) done x c some1.0 some1.1 f count
            (ap (λ (o : Outcome). protocol_story w (pre ++ o ∷ (g.1 ++ t1))) (sym e) ∙ st1 ∙ ap (λ (ns : List Note). done ++ x ∷ ns) some1.2) is1 in
            (r.0, r.1, some1.2 ∙ r.2);
        some = some1;
      } in
      let b : Shows w c ds' (n2 ++ r2) h.0 m h.3 = record {
        grows = λ name bound none.
            grows_on name h.3.devices m2.devices ds' (calls_grow w name n2 h.1 [] h.2 l2 h.3 m2 h.6) (grow2 (device c name bound (free name none)) c name bound (free name none));
        opens = λ v e. no_fault_behind w pre (h.1 ++ t2) done y c (n2 ++ r2) v count (ap (λ (o : Outcome). protocol_story w (pre ++ o ∷ (h.1 ++ t2))) (sym e) ∙ st2) is2;
        fails = λ f e.
            let r = refusal_next w pre (h.1 ++ t2) done y c some2.0 some2.1 f count
            (ap (λ (o : Outcome). protocol_story w (pre ++ o ∷ (h.1 ++ t2))) (sym e) ∙ st2 ∙ ap (λ (ns : List Note). done ++ y ∷ ns) some2.2) is2 in
            (r.0, r.1, some2.2 ∙ r.2);
        some = some2;
      } in
      let same = known_same w c lines ds' (n1 ++ r1) (n2 ++ r2) m g.3 h.3 g.0 h.0 g.2 h.2 g.5 h.5 a b
      (λ name bound none. first_same n1 n2 once1 once2 agree (device c name bound (free name none))) in
      let pre2 : List Outcome = pre ++ g.0 ∷ [] in
      let done2 : List Note = done ++ x ∷ [] in
      let one_x : new_calls (x ∷ []) ≡ 1 = ap (λ (v : Event). one_if (call_in v) + 0) is1 in
      let count2 : new_calls done2 ≡ length pre2 = omega (arith, calls_on done (x ∷ []), one_x, count, length-append pre (g.0 ∷ [])) in
      let u1 : protocol_story w (pre2 ++ (g.1 ++ t1)) ≡ done2 ++ (n1 ++ r1) =
      ap (protocol_story w) (append_assoc pre (g.0 ∷ []) (g.1 ++ t1)) ∙ st1 ∙ sym (append_assoc done (x ∷ []) (n1 ++ r1)) in
      let v2 : protocol_story w (pre2 ++ (h.1 ++ t2)) ≡ done ++ y ∷ (n2 ++ r2) =
      ap (protocol_story w) (append_assoc pre (g.0 ∷ []) (h.1 ++ t2)) ∙ ap (λ (o : Outcome). protocol_story w (pre ++ o ∷ (h.1 ++ t2))) same.0 ∙ st2 in
      let begins = begins_any w pre2 (g.1 ++ t1) (h.1 ++ t2) done2 count2 (n1 ++ r1, u1) in
      let parts = front_same done begins.0 (n2 ++ r2) x y (sym (append_assoc done (x ∷ []) begins.0) ∙ sym begins.1 ∙ v2) in
      let u2 : protocol_story w (pre2 ++ (h.1 ++ t2)) ≡ done2 ++ (n2 ++ r2) = begins.1 ∙ ap (λ (ns : List Note). done2 ++ ns) parts.1 in
      let k2 : KnownCalls w n2 h.1 g.2 g.3 [] l2 m2 =
      subst (λ (z : Amid). KnownCalls w n2 h.1 g.2 z [] l2 m2) (sym same.2) (subst (λ (l : List AnswerLine). KnownCalls w n2 h.1 l h.3 [] l2 m2) (sym same.1) h.6) in
      let r = on pre2 done2 g.1 h.1 g.2 g.3 (known_names w c lines g.2 m g.3 g.0 g.5 ∙ named) count2 u1 u2 once1 once2 g.6 k2 agree in
      record {
        met = g.4 ∙ (λ k. same.0 k ∷ r.met k) ∙ sym h.4;
        answers = r.answers;
        behind = r.behind;
        notes = notes_go x y n1 n2 parts.0 once1 once2 r.notes;
      }

  -- a receive at an empty mailbox, in both
  both_wait : (x y : Note) (n1 n2 : List Note) (c : Call) (os us : List Outcome) (lines : List AnswerLine) (m : Amid) → EndsOnce n1 → EndsOnce n2
      → (g : (r : Await) × AtEmpty w c m r × OneQuiet n1 × ([] ≡ os) × (l1 ≡ lines) × (m1 ≡ record m { receive = Some r }))
      → (h : (r : Await) × AtEmpty w c m r × OneQuiet n2 × ([] ≡ us) × (l2 ≡ lines) × (m2 ≡ record m { receive = Some r }))
      → Agree F W (Lines w.looks due number p n1 more1) (Lines w.looks due number q n2 more2) → Same (x ∷ n1) (y ∷ n2) os us
  both_wait x y n1 n2 c os us lines m once1 once2 g h agree =
      let one = one_await w c m g.0 h.0 g.1 h.1 in
      let a : Agree F W (Lines w.looks due number p (g.2.0 ∷ []) more1) (Lines w.looks due number q (h.2.0 ∷ []) more2) =
      subst (λ (ns : List Note). Agree F W (Lines w.looks due number p (g.2.0 ∷ []) more1) (Lines w.looks due number q ns more2)) h.2.1
      (subst (λ (ns : List Note). Agree F W (Lines w.looks due number p ns more1) (Lines w.looks due number q n2 more2)) g.2.1 agree) in
      let wrong = (first_agrees w.looks due number F W p q g.2.0 h.2.0 [] [] more1 more2 a).1 (some c g.1.name g.1.bound) in
      record {
        met = sym g.3 ∙ h.3;
        answers = g.4 ∙ sym h.4;
        behind = g.5 ∙ ap (λ (r : Await). record { devices = m.devices; boxes = m.boxes; settled = m.settled; receive = Some r }) one ∙ sym h.5;
        notes = inr (
          g.0,
          ap (λ (z : Amid). z.receive) g.5,
          last_behind x n1 once1 ∙ ap last_wrong g.2.1 ∙ wrong ∙ sym (ap last_wrong h.2.1) ∙ sym (last_behind y n2 once2),
        );
      }

  pub turn_same : (xs ys : List Note) → Turn xs ys
  turn_same [] ys pre done os us lines m named count s1 s2 once1 once2 k1 k2 agree = absurd once1
  turn_same (x ∷ n1) [] pre done os us lines m named count s1 s2 once1 once2 k1 k2 agree = absurd once2
  turn_same (x ∷ n1) (y ∷ n2) pre done os us lines m named count s1 s2 once1 once2 k1 k2 agree = by_call (turn_same n1 n2) (call_in x.event) refl (ends_turn x.event) refl
    where
      like : Like x y
      like = next_same w pre (os ++ t1) (us ++ t2) done x y (n1 ++ r1) (n2 ++ r2) count s1 s2

      note1 : (c : Option Call) → call_in x.event ≡ c → KnownNote w (OneQuiet n1) c os lines m [] l1 m1 (λ o l z. KnownCalls w n1 o l z [] l1 m1)
      note1 c e = subst (λ (d : Option Call). KnownNote w (OneQuiet n1) d os lines m [] l1 m1 (λ o l z. KnownCalls w n1 o l z [] l1 m1)) e k1

      note2 : (c : Option Call) → call_in x.event ≡ c → KnownNote w (OneQuiet n2) c us lines m [] l2 m2 (λ o l z. KnownCalls w n2 o l z [] l2 m2)
      note2 c e = subst (λ (d : Option Call). KnownNote w (OneQuiet n2) d us lines m [] l2 m2 (λ o l z. KnownCalls w n2 o l z [] l2 m2)) (ap call_in like.0 ∙ e) k2

      silent : (c : Option Call) → call_in x.event ≡ None → y ≡ x
      silent c none = like.2 (ap call_in like.0 ∙ none)

      by_both : (c : Call) → x.event ≡ called c → EndsOnce n1 → EndsOnce n2 → Agree F W (Lines w.looks due number p n1 more1) (Lines w.looks due number q n2 more2) → Turn n1 n2
          → KnownNote w (OneQuiet n1) (Some c) os lines m [] l1 m1 (λ o l z. KnownCalls w n1 o l z [] l1 m1)
          → KnownNote w (OneQuiet n2) (Some c) us lines m [] l2 m2 (λ o l z. KnownCalls w n2 o l z [] l2 m2) → Same (x ∷ n1) (y ∷ n2) os us
      by_both c e o1 o2 a on (inl g) (inl h) = both_known x y n1 n2 c pre done os us lines m named count s1 s2 o1 o2 e (like.0 ∙ e) g h a on
      by_both c e o1 o2 a on (inl g) (inr h) = absurd (known_apart w c lines g.2 m g.3 g.0 h.0 g.5 h.1)
      by_both c e o1 o2 a on (inr g) (inl h) = absurd (known_apart w c lines h.2 m h.3 h.0 g.0 h.5 g.1)
      by_both c e o1 o2 a on (inr g) (inr h) = both_wait x y n1 n2 c os us lines m o1 o2 g h a

      by_call : Turn n1 n2 → (c : Option Call) → call_in x.event ≡ c → (b : Bool) → ends_turn x.event ≡ b → Same (x ∷ n1) (y ∷ n2) os us
      by_call on None none true f =
          let e1 = ended_once x n1 once1 f in
          let e2 = ended_once y n2 once2 (ap ends_turn like.0 ∙ f) in
          let a : KnownCalls w [] os lines m [] l1 m1 = subst (λ (ns : List Note). KnownCalls w ns os lines m [] l1 m1) e1 (note1 None none) in
          let b : KnownCalls w [] us lines m [] l2 m2 = subst (λ (ns : List Note). KnownCalls w ns us lines m [] l2 m2) e2 (note2 None none) in
          record {
            met = sym a.0 ∙ b.0;
            answers = a.1 ∙ sym b.1;
            behind = a.2 ∙ sym b.2;
            notes = inl (λ k. sym (silent None none) k ∷ (e1 ∙ sym e2) k);
          }
      by_call on None none false f =
          let same = silent None none in
          let g : ends_turn y.event ≡ false = ap ends_turn like.0 ∙ f in
          let none_x : new_calls (x ∷ []) ≡ 0 = ap (λ (c : Option Call). one_if c + 0) none in
          let o1 = goes_once x n1 once1 f in
          let o2 = goes_once y n2 once2 g in
          let r = on pre (done ++ x ∷ []) os us lines m named (omega (arith, calls_on done (x ∷ []), none_x, count)) (s1 ∙ sym (append_assoc done (x ∷ []) (n1 ++ r1)))
          (s2 ∙ ap (λ (v : Note). done ++ v ∷ (n2 ++ r2)) same ∙ sym (append_assoc done (x ∷ []) (n2 ++ r2))) o1 o2 (note1 None none) (note2 None none)
          (agree_behind w.looks due number F W p q x y n1 n2 more1 more2 f g agree) in
          record { met = r.met; answers = r.answers; behind = r.behind; notes = notes_go x y n1 n2 (sym same) o1 o2 r.notes }
      by_call on (Some c) is b f =
          let e : x.event ≡ called c = call_is x.event c is in
          let fx : ends_turn x.event ≡ false = ap ends_turn e in
          let fy : ends_turn y.event ≡ false = ap ends_turn like.0 ∙ fx in
          by_both c e (goes_once x n1 once1 fx) (goes_once y n2 once2 fy) (agree_behind w.looks due number F W p q x y n1 n2 more1 more2 fx fy agree) on (note1 (Some c) is) (note2 (Some c) is)
