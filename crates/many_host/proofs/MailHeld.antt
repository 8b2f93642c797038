-- Programs with mailboxes that are held: which of them are parked.
use Rattle.std.proofs.Common.{arith, ◌≡◌, ◌≤◌, ◌+◌, ℕ, zero, suc, All, take, List, [], ◌∷◌, length, Option, Some, None, Bool, true, false, if◌then◌else◌, refl, sym, ap, ◌∙◌, subst}
use Rattle.std.specs.Prelude.{IsSome, is_some, slice_get}
use Rattle.std.specs.Option.{option_map}
use Rattle.std.proofs.lemmas.List.{take_all}
use Rattle.std.proofs.lemmas.Option.{same_Some}
use Rattle.std.proofs.lemmas.List.Elements.{All-cons, All-head, All-nil, All-tail}
use Rattle.wa_model.specs.declared.events.End.{End}
use Rattle.wa_model.specs.Outside.{Event, called, answered, paused, parked, returned, ended, shown}
use Rattle.wa_model.specs.Blocking.{Note}
use Rattle.world_model.specs.World as W
use Rattle.event_order.specs.declared.shows.Show.{Show}
use Rattle.mail_laws.specs.MailWorld as M
use Rattle.mail_laws.specs.MailWorld.{begins_over, pauses}
use Rattle.mail_laws.specs.Told.{Await, Teller, if_going, waits_at}
use Rattle.pause_host.specs.declared.program.Program.{Program}
use Rattle.pause_host.specs.declared.program.State.{State}
use Rattle.pause_host.specs.declared.program.State.TheVariants as St
use Rattle.pause_host.specs.declared.stages.Stage.TheVariants as Sg
use Rattle.pause_host.specs.Programs.{begins_paused, behind_end, end_at, ends_at, memory_at, ends_in_pause, is_at_pause, parked_in, place_of, receive_in}
use Rattle.pause_host.specs.Views.{is_pause}
use Rattle.many_host.specs.Hosts.{has_ended}
use Rattle.many_host.specs.MailStanding.{Holds, IsFirstParked, IsHeld, has_gone, has_stalled, on_its_way}
use Rattle.many_host.specs.declared.hosted.Hosted.{Hosted}

-- ---- programs at a pause

-- one at a pause hasn't ended
pause_goes : (x : Program) (s : State) → is_at_pause s ≡ true → end_at (place_of x s) ≡ None
pause_goes x St.Fresh e = cc
pause_goes x (St.Failed how) e = cc
pause_goes x St.Lost e = cc
pause_goes x (St.Live i (Sg.Paused p)) e = refl
pause_goes x (St.Live i Sg.Free) e = cc
pause_goes x (St.Live i (Sg.Answering task answer)) e = cc
pause_goes x (St.Live i (Sg.Giving task value)) e = cc
pause_goes x (St.Live i (Sg.Pausing p)) e = cc
pause_goes x (St.Live i (Sg.Ending how)) e = cc
pause_goes x (St.Live i (Sg.Ended how)) e = cc

pub at_pause_goes : (x : Hosted) → is_at_pause x.program.state ≡ true → has_ended x ≡ false
at_pause_goes x e = ap is_some (pause_goes x.program x.program.state e)

-- ---- programs behind their end

pub ended_behind : (x : Program) (how : End) (s : State) → ends_at s ≡ Some how → is_some (end_at (place_of x (behind_end how s))) ≡ true
ended_behind x how St.Fresh e = cc
ended_behind x how (St.Failed other) e = refl
ended_behind x how St.Lost e = cc
ended_behind x how (St.Live i stage) e = refl

pub memory_behind : (how : End) (s : State) → memory_at (behind_end how s) ≡ memory_at s
memory_behind how St.Fresh = refl
memory_behind how (St.Failed other) = refl
memory_behind how St.Lost = refl
memory_behind how (St.Live i stage) = refl

-- ---- notes that end in a pause

pub same_pause : (e : Event) → is_pause e ≡ M.is_pause e
same_pause (called c) = refl
same_pause (answered v) = refl
same_pause (paused ticks used) = refl
same_pause (returned entry v) = refl
same_pause (ended how) = refl
same_pause (parked used) = refl
same_pause (shown at bytes) = refl

pub ends_pausing : (b : Bool) (notes : List Note) → pauses notes ≡ true → ends_in_pause b notes ≡ true
ends_pausing b [] e = cc
ends_pausing b (x ∷ []) e = same_pause x.event ∙ e
ends_pausing b (x ∷ y ∷ ys) e = ends_pausing (is_pause x.event) (y ∷ ys) e

-- ---- who is parked

abbrev parked_if : Bool → Option Await → Option (List ℕ)
parked_if b o = if b then option_map (λ (r : Await). r.box) o else None

-- A program is parked at this receive.
pub record IsParkedAt (x : Program) (name : List ℕ) : Type 0 where
  pub r : Await
  pub paused : is_at_pause x.state ≡ true
  pub receive : receive_in x ≡ Some r
  pub box : r.box ≡ name

pub parked_at : (x : Program) (name : List ℕ) → parked_in x ≡ Some name → IsParkedAt x name
parked_at x name e = by (is_at_pause x.state) refl (receive_in x) refl
  where
    by : (b : Bool) → is_at_pause x.state ≡ b → (o : Option Await) → receive_in x ≡ o → IsParkedAt x name
    by true p (Some r) q =
        let same : Some r.box ≡ Some name = sym (λ j. parked_if (p j) (q j)) ∙ e in
        let box : r.box ≡ name = cc in
        record { r = r; paused = p; receive = q; box = box }
    by true p None q = let z : None ≡ Some name = sym (λ j. parked_if (p j) (q j)) ∙ e in absurd cc
    by false p o q = let z : None ≡ Some name = sym (λ j. parked_if (p j) (q j)) ∙ e in absurd cc

pub parks_there : (x : Program) (r : Await) → is_at_pause x.state ≡ true → receive_in x ≡ Some r → parked_in x ≡ Some r.box
parks_there x r p q = λ j. parked_if (p j) (q j)

-- ---- the first that is parked

abbrev IsFree : Hosted → Type 0
IsFree x = parked_in x.program ≡ None

pub some_mapped : {A B : Type 0} (f : A → B) (o : Option A) → is_some (option_map f o) ≡ is_some o
some_mapped f None = refl
some_mapped f (Some x) = refl

false_true : false ≡ true → ⊥
false_true e = cc

none_before : (xs : List Hosted) (i : ℕ) → All IsFree (take i xs) → (j : ℕ) (y : Hosted) → slice_get xs j ≡ Some y → IsSome (parked_in y.program) → i ≤ j
none_before [] i h j y e s = cc
none_before (x ∷ xs) zero h j y e s = omega arith
none_before (x ∷ xs) (suc i) h zero y e s =
    let same : x ≡ y = same_Some x y e in
    let free : parked_in x.program ≡ None = All-head IsFree x (take i xs) h in
    let z : false ≡ true = sym (ap is_some free) ∙ ap (λ (v : Hosted). is_some (parked_in v.program)) same ∙ s in absurd (false_true z)
none_before (x ∷ xs) (suc i) h (suc j) y e s = let on = none_before xs i (All-tail IsFree x (take i xs) h) j y e s in omega (arith, on)

pub first_is : (xs : List Hosted) (i : ℕ) (x : Hosted) → All IsFree (take i xs) → slice_get xs i ≡ Some x → IsSome (parked_in x.program) → IsFirstParked xs i
first_is xs i x h there is = record { x = x; there = there; parked = is; first = none_before xs i h }

free_next : (xs : List Hosted) (i : ℕ) (x : Hosted) → slice_get xs i ≡ Some x → All IsFree (take i xs) → IsFree x → All IsFree (take (suc i) xs)
free_next [] i x e h free = cc
free_next (y ∷ xs) zero x e h free = let same : x ≡ y = cc in All-cons IsFree y [] (subst IsFree same free) (All-nil IsFree)
free_next (y ∷ xs) (suc i) x e h free =
    All-cons IsFree y (take (suc i) xs) (All-head IsFree y (take i xs) h) (free_next xs i x e (All-tail IsFree y (take i xs) h) free)

pub free_on : (xs : List Hosted) (i : ℕ) (x : Hosted) → slice_get xs i ≡ Some x → All IsFree (take i xs) → is_some (parked_in x.program) ≡ false → All IsFree (take (i + 1) xs)
free_on xs i x there h none =
    let next : suc i ≡ i + 1 = omega arith in
    subst (λ n. All IsFree (take n xs)) next (free_next xs i x there h (by (parked_in x.program) none))
  where
    by : (o : Option (List ℕ)) → is_some o ≡ false → o ≡ None
    by None e = refl
    by (Some n) e = cc

pub free_all : (xs : List Hosted) (i : ℕ) → length xs ≤ i → All IsFree (take i xs) → All IsFree xs
free_all xs i le h = subst (All IsFree) (take_all i xs le) h

-- ---- programs of a world

module _ (shows : List Show) (i : ℕ) (w : W.Program) (t : Teller) (x : Hosted) where
  -- A program of a world is on its way, and waits.
  pub record WaitsHeld : Type 0 where
    pub r : Await
    pub held : IsHeld shows i w t x
    pub waits : waits_at t ≡ Some r
    pub unfinished : t.has_ended ≡ false
    pub receive : t.receive ≡ Some r
    pub parked : parked_in x.program ≡ Some r.box

  -- who is parked waits
  pub parked_waits : Holds shows i w t x → (name : List ℕ) → parked_in x.program ≡ Some name → WaitsHeld
  parked_waits (on_its_way h) name e =
      let p = parked_at x.program name e in
      let goes : t.has_ended ≡ false = sym h.ended_is ∙ at_pause_goes x p.paused in
      let receive : t.receive ≡ Some p.r = sym h.follow.2 ∙ p.receive in
      record {
        r = p.r;
        held = h;
        waits = (λ j. if_going (goes j) (receive j));
        unfinished = goes;
        receive = receive;
        parked = e ∙ ap Some (sym p.box);
      }
  parked_waits (has_stalled h) name e =
      let p = parked_at x.program name e in
      let z : false ≡ true = sym (at_pause_goes x p.paused) ∙ h.over_is in absurd cc
  parked_waits (has_gone over told looks idle) name e = let z : None ≡ Some name = sym idle ∙ e in absurd cc

  going : (b : Bool) (o : Option Await) (r : Await) → if_going b o ≡ Some r → (b ≡ false) × (o ≡ Some r)
  going true o r e = let z : None ≡ Some r = e in absurd cc
  going false o r e = (refl, e)

  -- who waits behind its pause is parked
  pub waits_parked : Holds shows i w t x → (r : Await) → waits_at t ≡ Some r → pauses t.told ≡ true → WaitsHeld
  waits_parked (on_its_way h) r e p =
      let g = going t.has_ended t.receive r e in
      record {
        r = r;
        held = h;
        waits = e;
        unfinished = g.0;
        receive = g.1;
        parked = parks_there x.program r (h.follow.0.paused ∙ ends_pausing (begins_paused w.origin) t.told p) (h.follow.2 ∙ g.1);
      }
  waits_parked (has_stalled h) r e p = let z : true ≡ false = sym h.ended ∙ (going t.has_ended t.receive r e).0 in absurd cc
  waits_parked (has_gone over told looks idle) r e p =
      let z : None ≡ Some r = sym (ap (λ (u : Teller). u.receive) told) ∙ (going t.has_ended t.receive r e).1 in absurd cc
