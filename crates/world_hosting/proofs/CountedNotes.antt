-- Line by line, for any world: the devices that the lines' calls left beside those of the world's run.
use Rattle.std.proofs.Common.{arith, ◌≡◌, ◌<◌, ◌+◌, ◌⊎◌, inl, inr, ℕ, suc, List, [], ◌∷◌, ◌++◌, length, map, Option, Some, None, Bool, true, false, refl, sym, ap, ◌∙◌, subst, append-nil}
use Rattle.std.specs.Prelude.{if◌then◌else◌, nat_eq, slice_get}
use Rattle.std.specs.List.{AllZip}
use Rattle.std.proofs.lemmas.Bool.{ne_eqb}
use Rattle.wa_model.specs.declared.answers.Detach.{Detach}
use Rattle.wa_model.specs.declared.events.End.{End}
use Rattle.wa_model.specs.Outside.{Call, Event, called, answered, paused, parked, returned, ended, shown, Line}
use Rattle.wa_model.specs.Store.{Store}
use Rattle.wa_model.specs.Plan.{Outcome}
use Rattle.wa_model.specs.Blocking.{Note}
use Rattle.world_model.specs.World.{Device, Look, Program, behind_turn, bytes_shown, call_in, ends_turn, events_with_looks, line_at, look_events, turn_of}
use Rattle.world_laws.proofs.Faults.{Fine, Inner, OpensIf}
use Rattle.event_order.specs.Left.{Counted, left_before}
use Rattle.many_host.specs.Calls.{IsShown, devices_of, left_at}
use Rattle.world_hosting.specs.Counts.{IsBegunBy, TookBy, closes, ended_in}
use Rattle.world_hosting.specs.FaultCounts.{CountsTo, event_at, failed_as, failed_in, one_more_if, with_told_by}
use Rattle.world_hosting.proofs.Calls.{Behind, owed, told as told_fault, untold}
use Rattle.world_hosting.proofs.Ledgers.{Beside, settled}
use Rattle.world_hosting.proofs.NoneParked.{Unparked, is_parking}

-- ---- which event has begun

-- where n turns are over: the devices that are left once the next event has begun
abbrev pub Begun : List Detach → (n begun : ℕ) → (cs now : List Counted) → Type 0
Begun detaches n begun cs now = ((begun ≡ n) × (now ≡ left_before (suc n) detaches cs)) ⊎ ((begun ≡ suc n) × (now ≡ cs))

-- behind whole turns: it may have begun with a line that shows memory
abbrev pub Between : List Detach → (n begun : ℕ) → (was cs : List Counted) → Type 0
Between detaches n begun was cs = ((begun ≡ n) × (cs ≡ was)) ⊎ ((begun ≡ suc n) × (cs ≡ left_before (suc n) detaches was))

same_number : (n : ℕ) → nat_eq n n ≡ true
same_number n = grind arith

next_number : (begun n : ℕ) → begun ≡ n → nat_eq begun (suc n) ≡ false
next_number begun n e = ne_eqb begun (suc n) (λ f. omega (arith, e, f))

module _ (detaches : List Detach) where
  at_same : (begun now : ℕ) (cs : List Counted) → begun ≡ now → left_at begun now detaches cs ≡ cs
  at_same begun now cs e =
      ap (λ (k : ℕ). left_at begun k detaches cs) (sym e) ∙ ap (λ (b : Bool). if b then cs else left_before begun detaches cs) (same_number begun)

  at_next : (begun n : ℕ) (cs : List Counted) → begun ≡ n → left_at begun (suc n) detaches cs ≡ left_before (suc n) detaches cs
  at_next begun n cs e = ap (λ (b : Bool). if b then cs else left_before (suc n) detaches cs) (next_number begun n e)

  pub begins : (n begun : ℕ) (was cs : List Counted) → Between detaches n begun was cs → Begun detaches n begun cs (left_before (suc n) detaches was)
  begins n begun was cs (inl h) = inl (h.0, ap (left_before (suc n) detaches) (sym h.1))
  begins n begun was cs (inr h) = inr (h.0, sym h.1)

  -- at a line of the event
  pub at_line : (n begun : ℕ) (cs now : List Counted) → Begun detaches n begun cs now → left_at begun (suc n) detaches cs ≡ now
  at_line n begun cs now (inl h) = at_next begun n cs h.0 ∙ sym h.1
  at_line n begun cs now (inr h) = at_same begun (suc n) cs h.0 ∙ sym h.1

  -- behind a line without a call
  stays : (n begun begun' : ℕ) (e : Event) (ms now mid : List Counted) → Begun detaches n begun ms now → IsBegunBy begun n e begun' → mid ≡ left_at begun begun' detaches ms
      → Begun detaches n begun' mid now
  stays n begun begun' e ms now mid h (inl is) same =
      inr (is, sym (same ∙ ap (λ (k : ℕ). left_at begun k detaches ms) is ∙ at_line n begun ms now h))
  stays n begun begun' e ms now mid (inl h) (inr is) same =
      inl (is.0, h.1 ∙ ap (left_before (suc n) detaches) (sym (same ∙ at_same begun begun' ms (is.1 ∙ sym is.0))))
  stays n begun begun' e ms now mid (inr h) (inr is) same = absurd (never h.0 is.1)
    where
      never : begun ≡ suc n → begun ≡ n → ⊥
      never f g = omega (arith, f, g)

  told_stays : (n begun : ℕ) (e : Event) (ls least : List Counted) → Begun detaches n begun ls least → Begun detaches n (event_at begun n e) (left_at begun (event_at begun n e) detaches ls) least
  told_stays n begun (shown at bytes) ls least h = subst (λ (cs : List Counted). Begun detaches n begun cs least) (sym (at_same begun begun ls refl)) h
  told_stays n begun (called c) ls least h = inr (refl, sym (at_line n begun ls least h))
  told_stays n begun (answered v) ls least h = inr (refl, sym (at_line n begun ls least h))
  told_stays n begun (paused t u) ls least h = inr (refl, sym (at_line n begun ls least h))
  told_stays n begun (parked u) ls least h = inr (refl, sym (at_line n begun ls least h))
  told_stays n begun (returned i v) ls least h = inr (refl, sym (at_line n begun ls least h))
  told_stays n begun (ended how) ls least h = inr (refl, sym (at_line n begun ls least h))

  -- behind a line that shows memory, once a turn is over
  shown_between : (n begun begun' at : ℕ) (bytes : Option (List ℕ)) (was ms mid : List Counted) → Between detaches n begun was ms → IsBegunBy begun n (shown at bytes) begun'
      → mid ≡ left_at begun begun' detaches ms → Between detaches n begun' was mid
  shown_between n begun begun' at bytes was ms mid (inl h) (inl is) same =
      inr (is, same ∙ ap (λ (k : ℕ). left_at begun k detaches ms) is ∙ at_next begun n ms h.0 ∙ ap (left_before (suc n) detaches) h.1)
  shown_between n begun begun' at bytes was ms mid (inr h) (inl is) same = inr (is, same ∙ at_same begun begun' ms (h.0 ∙ sym is) ∙ h.1)
  shown_between n begun begun' at bytes was ms mid (inl h) (inr is) same = inl (is.0, same ∙ at_same begun begun' ms (is.1 ∙ sym is.0) ∙ h.1)
  shown_between n begun begun' at bytes was ms mid (inr h) (inr is) same = absurd (never h.0 is.1)
    where
      never : begun ≡ suc n → begun ≡ n → ⊥
      never f g = omega (arith, f, g)

-- ---- notes

abbrev with_event : Note → Event → Note
with_event x e = record { event = e; store = x.store; stack = x.stack; pause = x.pause; since = x.since }

-- the last of these notes ends a turn
abbrev pub Halts : List Note → Type 0
Halts [] = ⊥
Halts (x ∷ []) = ends_turn x.event ≡ true
Halts (x ∷ y ∷ ys) = Halts (y ∷ ys)

-- what an actor still has to tell: to a pause or an end, no fault but behind a call that is refused so, and nothing of parking
pub record Goes (os : List Outcome) (zs : List Note) : Type 0 where
  pub fine : Fine os zs
  pub halts : (zs ≡ []) ⊎ Halts zs
  pub unparked : Unparked zs

halts_rest : (x : Note) (zs : List Note) → ends_turn x.event ≡ false → Halts (x ∷ zs) → Halts zs
halts_rest x [] e h = let bad : true ≡ false = sym h ∙ e in cc
halts_rest x (y ∷ ys) e h = h

goes_on : (x : Note) (zs : List Note) (os os' : List Outcome) → os' ≡ os → Halts (x ∷ zs) → Fine os zs → Unparked zs → Goes os' zs
goes_on x zs os os' e ends fine calm = record { fine = subst (λ (us : List Outcome). Fine us zs) (sym e) fine; halts = rest zs ends; unparked = calm }
  where
    rest : (zs : List Note) → Halts (x ∷ zs) → (zs ≡ []) ⊎ Halts zs
    rest [] h = inl refl
    rest (y ∷ ys) h = inr h

-- an event as its line tells it: a pause at which a program parks is told so
abbrev pub as_line : (parks : Bool) → Event → Event
as_line parks (paused ticks used) = if parks then parked used else paused ticks used
as_line parks e = e

-- what the calls of notes meet, by what is said of one call
abbrev pub NoteMeetsBy : (Program → Call → Outcome → (ds ds' : List Device) → Type 0) → Program → Option Call → List Outcome → List Device → (List Outcome → List Device → Type 0) → Type 0
NoteMeetsBy Meet w None os ds rest = rest os ds
NoteMeetsBy Meet w (Some c) os ds rest = (o : Outcome) × (us : List Outcome) × (es : List Device) × (os ≡ o ∷ us) × Meet w c o ds es × rest us es

abbrev pub CallsBy : (Program → Call → Outcome → (ds ds' : List Device) → Type 0) → Program → List Note → List Outcome → List Device → List Outcome → List Device → Type 0
CallsBy Meet w [] os ds os' ds' = (os' ≡ os) × (ds' ≡ ds)
CallsBy Meet w (x ∷ xs) os ds os' ds' = NoteMeetsBy Meet w (call_in x.event) os ds (λ us es. CallsBy Meet w xs us es os' ds')

-- ---- lines of one event

-- where lines of these kinds end events, calls take so of the devices, and a world says so of a call
module _ (programs : List Program) (detaches : List Detach) (ends : Event → Bool) (takes : Line → List Outcome → (old new : List Counted) → Type 0)
    (quiet : (l : Line) (met : List Outcome) (old mid : List Counted) → takes l met old mid → call_in l.event ≡ None → mid ≡ old)
    (Meet : Program → Call → Outcome → (ds ds' : List Device) → Type 0)
    (answers : (l : Line) (c : Call) (w : Program) (met : List Outcome) (old mid : List Counted) (ds ds' : List Device) (o : Outcome) (ls : List Counted) → call_in l.event ≡ Some c
    → slice_get programs l.program ≡ Some w → takes l met old mid → Beside old ds ls → Meet w c o ds ds' → Beside mid ds' (owed w (Some o) ls))
    (goes : (e : Event) → ends_turn e ≡ false → is_parking e ≡ false → ends e ≡ false) (ended_ends : (how : End) → ends (ended how) ≡ true)
    (count : ℕ) (new : List Counted) where
  -- what these lines took, whatever their calls met
  pub record TookFrom (begun n : ℕ) (lines : List Line) (ms : List Counted) : Type 0 where
    pub met : List (List Outcome)
    pub took : TookBy ends takes detaches begun n lines met ms count new

  -- .. the first of them, and the others
  record First (begun n : ℕ) (l : Line) (others : List Line) (ms : List Counted) : Type 0 where
    now : ℕ
    mid : List Counted
    begins : IsBegunBy begun n l.event now
    met : List Outcome
    call : takes l met (left_at begun now detaches ms) mid
    rest : TookFrom now (n + closes ends l.event) others mid

  first : (begun n : ℕ) (l : Line) (others : List Line) (ms : List Counted) → TookFrom begun n (l ∷ others) ms → First begun n l others ms
  first begun n l others ms h = by h.met h.took where
    by : (met : List (List Outcome)) → TookBy ends takes detaches begun n (l ∷ others) met ms count new → First begun n l others ms
    by [] t = absurd t
    by (os ∷ met) t = record { now = t.0; mid = t.1; begins = t.2; met = os; call = t.3; rest = record { met = met; took = t.4 } }

  pub no_more : (begun n : ℕ) (ms : List Counted) → TookFrom begun n [] ms → (count ≡ begun) × (new ≡ ms)
  no_more begun n ms h = by h.met h.took where
    by : (met : List (List Outcome)) → TookBy ends takes detaches begun n [] met ms count new → (count ≡ begun) × (new ≡ ms)
    by [] t = t
    by (os ∷ met) t = absurd t

  -- what is to be shown of these lines
  abbrev pub Counts : (begun n : ℕ) → List Line → List Counted → Type 0
  Counts begun n lines ls = AllZip CountsTo (with_told_by ends programs detaches begun n lines ls) new

  abbrev pub Within : ℕ → List Line → Type 0
  Within n lines = count ≡ n + ended_in ends lines

  turns_more : (e : Event) (b : Bool) → ends e ≡ b → closes ends e ≡ (if b then 1 else 0)
  turns_more e b h = ap (λ (c : Bool). if c then 1 else 0) h

  module _ (i due : ℕ) (w : Program) (program : slice_get programs i ≡ Some w) (n : ℕ) where
    -- A line without a call, that ends no turn.
    quiet_line : (e : Event) → call_in e ≡ None → ends e ≡ false → failed_in (Some w) e ≡ None → (rest : List Line) (begun told : ℕ) (ms now ls least : List Counted)
        → Begun detaches n begun ms now → Begun detaches n told ls least → TookFrom begun n (line_at due i e ∷ rest) ms → Within n (line_at due i e ∷ rest)
        → ((begun' told' : ℕ) (ms' ls' : List Counted) → Begun detaches n begun' ms' now → Begun detaches n told' ls' least → TookFrom begun' n rest ms' → Within n rest → Counts told' n rest ls')
        → Counts told n (line_at due i e ∷ rest) ls
    quiet_line e none goes nothing rest begun told ms now ls least b t all within on =
        let took = first begun n (line_at due i e) rest ms all in
        let turns : closes ends e ≡ 0 = turns_more e false goes in
        let z : n + closes ends e ≡ n = omega (arith, turns) in
        let same : took.mid ≡ left_at begun took.now detaches ms = quiet (line_at due i e) took.met (left_at begun took.now detaches ms) took.mid took.call none in
        let left : List Counted = left_at told (event_at told n e) detaches ls in
        let fewer : Within n rest = omega (arith, within, turns) in
        let on_from = on took.now (event_at told n e) took.mid left (stays detaches n begun took.now e ms now took.mid b took.begins same) (told_stays detaches n told e ls least t)
        (subst (λ (k : ℕ). TookFrom took.now k rest took.mid) z took.rest) fewer in
        let failed : failed_in (slice_get programs i) e ≡ None = ap (λ (o : Option Program). failed_in o e) program ∙ nothing in
        subst (λ (k : ℕ). Counts (event_at told n e) k rest (one_more_if (failed_in (slice_get programs i) e) left)) (sym z)
        (subst (λ (f : Option (List ℕ)). Counts (event_at told n e) n rest (one_more_if f left)) (sym failed) on_from)

    same_counts : (a a' b b' : ℕ) (rest : List Line) (cs cs' : List Counted) → a ≡ a' → b ≡ b' → cs ≡ cs' → Counts a' b' rest cs' → Counts a b rest cs
    same_counts a a' b b' rest cs cs' e f g h =
        subst (λ (k : ℕ). Counts k b rest cs) (sym e) (subst (λ (k : ℕ). Counts a' k rest cs) (sym f) (subst (λ (ds : List Counted). Counts a' b' rest ds) (sym g) h))

    -- A line that ends the turn.
    pub last_line : (e : Event) → call_in e ≡ None → ends e ≡ true → ((k : ℕ) → event_at k n e ≡ suc n) → (IsShown e → ⊥) → (rest : List Line) (begun told : ℕ) (ms now ls least : List Counted)
        → Begun detaches n begun ms now → Begun detaches n told ls least → TookFrom begun n (line_at due i e ∷ rest) ms → Within n (line_at due i e ∷ rest)
        → ((begun' : ℕ) (ms' : List Counted) → Between detaches (suc n) begun' now ms' → TookFrom begun' (suc n) rest ms' → Within (suc n) rest
        → Counts (suc n) (suc n) rest (one_more_if (failed_in (Some w) e) least))
        → Counts told n (line_at due i e ∷ rest) ls
    last_line e none over later plain rest begun told ms now ls least b t all within on =
        let took = first begun n (line_at due i e) rest ms all in
        let turns : closes ends e ≡ 1 = turns_more e true over in
        let z : n + closes ends e ≡ suc n = omega (arith, turns) in
        let is : took.now ≡ suc n = elim took.begins [ inl f ↦ f | inr g ↦ absurd (plain g.2) ] in
        let same : took.mid ≡ now =
        quiet (line_at due i e) took.met (left_at begun took.now detaches ms) took.mid took.call none ∙ ap (λ (k : ℕ). left_at begun k detaches ms) is ∙ at_line detaches n begun ms now b in
        let left : left_at told (event_at told n e) detaches ls ≡ least = ap (λ (k : ℕ). left_at told k detaches ls) (later told) ∙ at_line detaches n told ls least t in
        let fewer : Within (suc n) rest = omega (arith, within, turns) in
        let on_from = on took.now took.mid (inl (is, same)) (subst (λ (k : ℕ). TookFrom took.now k rest took.mid) z took.rest) fewer in
        same_counts (event_at told n e) (suc n) (n + closes ends e) (suc n) rest (one_more_if (failed_in (slice_get programs i) e) (left_at told (event_at told n e) detaches ls))
        (one_more_if (failed_in (Some w) e) least) (later told) z
        (ap (λ (o : Option Program). one_more_if (failed_in o e) (left_at told (event_at told n e) detaches ls)) program ∙ ap (one_more_if (failed_in (Some w) e)) left) on_from

    -- A line of a call.
    called_line : (c : Call) (rest : List Line) (ds ds' : List Device) (o : Outcome) (begun told : ℕ) (ms now ls least : List Counted)
        → Begun detaches n begun ms now → Begun detaches n told ls least → Beside now ds least → Meet w c o ds ds'
        → TookFrom begun n (line_at due i (called c) ∷ rest) ms → Within n (line_at due i (called c) ∷ rest)
        → ((begun' told' : ℕ) (ms' ls' now' : List Counted) → Begun detaches n begun' ms' now' → Begun detaches n told' ls' least → Beside now' ds' (owed w (Some o) least)
        → TookFrom begun' n rest ms' → Within n rest → Counts told' n rest ls')
        → Counts told n (line_at due i (called c) ∷ rest) ls
    called_line c rest ds ds' o begun told ms now ls least b t beside meets all within on =
        let l : Line = line_at due i (called c) in
        let took = first begun n l rest ms all in
        let turns : closes ends (called c) ≡ 0 = turns_more (called c) false (goes (called c) refl refl) in
        let is : took.now ≡ suc n = elim took.begins [ inl f ↦ f | inr g ↦ absurd g.2 ] in
        let at : left_at begun took.now detaches ms ≡ now = ap (λ (k : ℕ). left_at begun k detaches ms) is ∙ at_line detaches n begun ms now b in
        let call = subst (λ (cs : List Counted). takes l took.met cs took.mid) at took.call in
        let left : List Counted = left_at told (suc n) detaches ls in
        let z : n + closes ends (called c) ≡ n = omega (arith, turns) in
        let fewer : Within n rest = omega (arith, within, turns) in
        let on_from = on took.now (suc n) took.mid left took.mid (inr (is, refl)) (inr (refl, sym (at_line detaches n told ls least t)))
        (answers l c w took.met now took.mid ds ds' o least refl program call beside meets)
        (subst (λ (k : ℕ). TookFrom took.now k rest took.mid) z took.rest) fewer in
        subst (λ (k : ℕ). Counts (suc n) k rest left) (sym z) on_from

    module _ (parks : Bool) (stops : (ticks used : ℕ) → ends (as_line parks (paused ticks used)) ≡ true) (os' : List Outcome) (ds' : List Device) (more : List Line) where
      abbrev pub lines_of : List Note → List Line
      lines_of zs = map (λ (e : Event). line_at due i (as_line parks e)) (events_with_looks w.looks (turn_of zs)) ++ more

      -- once the turn is over
      abbrev pub OnFrom : List Note → Type 0
      OnFrom zs =
          (begun : ℕ) (was ms ls : List Counted) → Between detaches (suc n) begun was ms → Beside was ds' ls → Goes os' zs → TookFrom begun (suc n) more ms → Within (suc n) more
          → Counts (suc n) (suc n) more ls

      abbrev pub NotesOn : List Note → Type 0
      NotesOn zs =
          (r : Option Outcome) (os : List Outcome) (ds : List Device) (begun told : ℕ) (ms now ls least : List Counted) → Halts zs → Unparked zs → Behind r zs → Inner os zs
          → CallsBy Meet w (turn_of zs) os ds os' ds' → Begun detaches n begun ms now → Begun detaches n told ls least → Beside now ds (owed w r least)
          → TookFrom begun n (lines_of zs) ms → Within n (lines_of zs) → OnFrom (behind_turn zs) → Counts told n (lines_of zs) ls

      pub shows_on : (looks : List Look) (s : Store) (begun : ℕ) (was ms ls : List Counted) → Between detaches (suc n) begun was ms
          → TookFrom begun (suc n) (map (line_at due i) (look_events s looks) ++ more) ms → Within (suc n) (map (line_at due i) (look_events s looks) ++ more)
          → ((begun' : ℕ) (ms' : List Counted) → Between detaches (suc n) begun' was ms' → TookFrom begun' (suc n) more ms' → Within (suc n) more → Counts (suc n) (suc n) more ls)
          → Counts (suc n) (suc n) (map (line_at due i) (look_events s looks) ++ more) ls
      shows_on [] s begun was ms ls b took within on = on begun ms b took within
      shows_on (k ∷ ks) s begun was ms ls b all within on =
          let rest : List Line = map (line_at due i) (look_events s ks) ++ more in
          let took = first begun (suc n) (line_at due i (shown k.at (bytes_shown s.memory k))) rest ms all in
          let turns : closes ends (shown k.at (bytes_shown s.memory k)) ≡ 0 = turns_more (shown k.at (bytes_shown s.memory k)) false (goes (shown k.at (bytes_shown s.memory k)) refl refl) in
          let same = quiet (line_at due i (shown k.at (bytes_shown s.memory k))) took.met (left_at begun took.now detaches ms) took.mid took.call refl in
          let z : suc n + closes ends (shown k.at (bytes_shown s.memory k)) ≡ suc n = omega (arith, turns) in
          let fewer : Within (suc n) rest = omega (arith, within, turns) in
          let on_from = shows_on ks s took.now was took.mid ls (shown_between detaches (suc n) begun took.now k.at (bytes_shown s.memory k) was ms took.mid b took.begins same)
          (subst (λ (j : ℕ). TookFrom took.now j rest took.mid) z took.rest) fewer on in
          same_counts (suc n) (suc n) (suc n + closes ends (shown k.at (bytes_shown s.memory k))) (suc n) rest (left_at (suc n) (suc n) detaches ls) ls refl z (at_same detaches (suc n) (suc n) ls refl) on_from

      -- looks are told as they are
      looks_so : (looks : List Look) (s : Store) → map (λ (e : Event). line_at due i (as_line parks e)) (look_events s looks) ≡ map (line_at due i) (look_events s looks)
      looks_so [] s = refl
      looks_so (k ∷ ks) s = ap (λ (ls : List Line). line_at due i (shown k.at (bytes_shown s.memory k)) ∷ ls) (looks_so ks s)

      -- where a program pauses, or parks
      pause_on : (x : Note) (zs : List Note) (ticks used : ℕ) (b : Bool) → parks ≡ b → NotesOn (with_event x (paused ticks used) ∷ zs)
      pause_on x zs ticks used b is = λ r os ds begun told ms now ls least ends calm behind inner calls bg t beside took within go.
          let e : Event = as_line b (paused ticks used) in
          let same : line_at due i (as_line parks (paused ticks used)) ∷ more ≡ line_at due i e ∷ more = ap (λ (c : Bool). line_at due i (as_line c (paused ticks used)) ∷ more) is in
          subst (λ (ks : List Line). Counts told n ks ls) (sym same)
          (last_line e (no_call_there b) (ap (λ (c : Bool). ends_by (as_line c (paused ticks used))) (sym is) ∙ stops ticks used) (later b) (plain b) more begun told ms now ls least bg t
          (subst (λ (ks : List Line). TookFrom begun n ks ms) same took) (subst (λ (ks : List Line). Within n ks) same within)
          (λ begun' ms' b' took' within'. subst (λ (f : Option (List ℕ)). Counts (suc n) (suc n) more (one_more_if f least)) (sym (none_failed_there b))
          (go begun' now ms' least b' (subst (λ (es : List Device). Beside now es least) (sym calls.1) (untold w r now ds least beside))
          (goes_on (with_event x (paused ticks used)) zs os os' calls.0 ends inner calm.1) took' within')))
        where
          ends_by : Event → Bool
          ends_by e = ends e

          no_call_there : (c : Bool) → call_in (as_line c (paused ticks used)) ≡ None
          no_call_there true = refl
          no_call_there false = refl

          later : (c : Bool) (k : ℕ) → event_at k n (as_line c (paused ticks used)) ≡ suc n
          later true k = refl
          later false k = refl

          plain : (c : Bool) → IsShown (as_line c (paused ticks used)) → ⊥
          plain true h = h
          plain false h = h

          none_failed_there : (c : Bool) → failed_in (Some w) (as_line c (paused ticks used)) ≡ None
          none_failed_there true = refl
          none_failed_there false = refl

      note_on : (x : Note) (zs : List Note) → NotesOn zs → (e : Event) → NotesOn (with_event x e ∷ zs)
      note_on x zs on (called c) = λ r os ds begun told ms now ls least halts calm behind inner calls b t beside took within go.
          let o : Outcome = calls.0 in
          let parts : OpensIf o zs × Inner calls.1 zs = subst (λ (us : List Outcome). Inner us (with_event x (called c) ∷ zs)) calls.3 inner in
          called_line c (lines_of zs) ds calls.2 o begun told ms now ls least b t (untold w r now ds least beside) calls.4 took within
          (λ begun' told' ms' ls' now' b' t' beside' took' within'. on (Some o) calls.1 calls.2 begun' told' ms' now' ls' least (halts_rest (with_event x (called c)) zs refl halts) calm.1
          parts.0 parts.1 calls.5 b' t' beside' took' within' go)
      note_on x zs on (answered v) = λ r os ds begun told ms now ls least halts calm behind inner calls b t beside took within go.
          quiet_line (answered v) refl (goes (answered v) refl refl) refl (lines_of zs) begun told ms now ls least b t took within
          (λ begun' told' ms' ls' b' t' took' within'. on None os ds begun' told' ms' now ls' least (halts_rest (with_event x (answered v)) zs refl halts) calm.1 inner.0 inner.1 calls
          b' t' (untold w r now ds least beside) took' within' go)
      note_on x zs on (returned j v) = λ r os ds begun told ms now ls least halts calm behind inner calls b t beside took within go.
          quiet_line (returned j v) refl (goes (returned j v) refl refl) refl (lines_of zs) begun told ms now ls least b t took within
          (λ begun' told' ms' ls' b' t' took' within'. on None os ds begun' told' ms' now ls' least (halts_rest (with_event x (returned j v)) zs refl halts) calm.1 inner.0 inner.1 calls
          b' t' (untold w r now ds least beside) took' within' go)
      note_on x zs on (parked used) = λ r os ds begun told ms now ls least halts calm. absurd (never calm.0)
        where
          never : true ≡ false → ⊥
          never e = cc
      note_on x zs on (shown at bytes) = λ r os ds begun told ms now ls least halts calm behind inner calls b t beside took within go.
          quiet_line (shown at bytes) refl (goes (shown at bytes) refl refl) refl (lines_of zs) begun told ms now ls least b t took within
          (λ begun' told' ms' ls' b' t' took' within'. on None os ds begun' told' ms' now ls' least (halts_rest (with_event x (shown at bytes)) zs refl halts) calm.1 inner.0 inner.1 calls
          b' t' (untold w r now ds least beside) took' within' go)
      note_on x zs on (paused ticks used) = pause_on x zs ticks used parks refl
      note_on x zs on (ended how) = λ r os ds begun told ms now ls least halts calm behind inner calls b t beside took within go.
          let shows : List Line = map (line_at due i) (look_events x.store w.looks) ++ more in
          let nil : map (λ (e : Event). line_at due i (as_line parks e)) (look_events x.store w.looks ++ []) ++ more ≡ shows =
          ap (λ (es : List Event). map (λ (e : Event). line_at due i (as_line parks e)) es ++ more) (append-nil (look_events x.store w.looks))
          ∙ ap (λ (ls : List Line). ls ++ more) (looks_so w.looks x.store) in
          let least' : List Counted = one_more_if (failed_as (Some w) how) least in
          let paid : Beside now ds' least' = subst (λ (es : List Device). Beside now es least') (sym calls.1) (told_fault w r how (with_event x (ended how)) zs now ds least refl behind beside) in
          subst (λ (ks : List Line). Counts told n (line_at due i (ended how) ∷ ks) ls) (sym nil)
          (last_line (ended how) refl (ended_ends how) (λ k. refl) (λ h. h) shows begun told ms now ls least b t
          (subst (λ (ks : List Line). TookFrom begun n (line_at due i (ended how) ∷ ks) ms) nil took) (subst (λ (ks : List Line). Within n (line_at due i (ended how) ∷ ks)) nil within)
          (λ begun' ms' b' took' within'. shows_on w.looks x.store begun' now ms' least' b' took' within'
          (λ begun'' ms'' b'' took'' within''. go begun'' now ms'' least' b'' paid (goes_on (with_event x (ended how)) zs os os' calls.0 halts inner calm.1) took'' within'')))

      pub notes_on : (zs : List Note) → NotesOn zs
      notes_on [] = λ r os ds begun told ms now ls least halts calm behind inner calls b t beside took within go. absurd halts
      notes_on (x ∷ zs) = note_on x zs (notes_on zs) x.event

  -- ---- between events

  pub all_settled : (n begun : ℕ) (was ms ls : List Counted) (ds : List Device) → Between detaches n begun was ms → Beside was ds ls → count ≡ begun → new ≡ ms → count ≡ n + 0 → devices_of new ≡ ds
      → AllZip CountsTo ls new
  all_settled n begun was ms ls ds (inl h) beside e f g d =
      let same : was ≡ new = sym (f ∙ h.1) in
      settled new ds ls (subst (λ (cs : List Counted). Beside cs ds ls) same beside) d
  all_settled n begun was ms ls ds (inr h) beside e f g d = absurd (never h.0)
    where
      never : begun ≡ suc n → ⊥
      never k = omega (arith, k, e, g)

  pub unfinished : (zs : List Note) → (zs ≡ []) ⊎ Halts zs → 0 < length zs → Halts zs
  unfinished zs (inr h) more = h
  unfinished zs (inl h) more = let none : length zs ≡ 0 = ap length h in absurd (omega (arith, none, more))
