-- What is still to come of programs that were told: with it they are a world played so far, and a whole one once all have ended.
use Rattle.std.proofs.Common.{arith, ◌≡◌, ◌<◌, ◌+◌, ◌^◌, ℕ, zero, suc, List, [], ◌∷◌, ◌++◌, length, get_or, Option, Some, None, Bool, true, false, slice_get, refl}
use Rattle.std.proofs.Common.{sym, ap, ◌∙◌, subst}
use Rattle.std.specs.List.{AllZip}
use Rattle.std.proofs.lemmas.Option.{slice_get-get_or, slice_get_within, same_Some}
use Rattle.wa_model.specs.declared.answers.Detach.{Detach}
use Rattle.wa_model.specs.Outside.{Line}
use Rattle.wa_model.specs.Plan.{Outcome}
use Rattle.wa_model.specs.Blocking.{Note}
use Rattle.wa_model.specs.Behaves.{IsPrefix}
use Rattle.wa_model.specs.Store.{Store}
use Rattle.world_model.specs.World.{Device, Program}
use Rattle.world_laws.proofs.Places.{item, zip_both}
use Rattle.mail_laws.specs.MailWorld.{Actor, Parked, HeldStory, IsOver, ProtocolWorldFrom, sharing, store_behind}
use Rattle.mail_laws.specs.MailWorld.{tells_end, begins_over}
use Rattle.mail_laws.specs.Played.{EndsAreTold, ProtocolWorldUpToFrom}
use Rattle.mail_laws.specs.Told.{Await, Common, Teller, shared_by, pending, if_going, waits_at}
use Rattle.mail_laws.specs.Told.{Tells, IsRest, HasStory, HaveEnded}
use Rattle.mail_laws.specs.Told.{ToldIsWorld, AllToldIsWorld}
use Rattle.mail_laws.proofs.Played.{as_events}
use Rattle.mail_laws.proofs.ToldAreWorlds.{Foretold, Ties, Whole, ends_told, parked_of, reaches}

-- ---- what is still to come

-- a promise to the first, and those to the others
first_then : ℕ → (ℕ → ℕ) → ℕ → ℕ
first_then v will zero = v
first_then v will (suc j) = will j

record Prepared (programs : List Program) (tellers : List Teller) : Type 0 where
  pub will : ℕ → ℕ
  pub small : (j : ℕ) → will j < 2 ^ 32
  pub wholes : List Whole
  pub actors : List Actor
  pub fore : Foretold will wholes tellers actors
  pub stories : (i : ℕ) (w : Program) (h : Whole) → slice_get programs i ≡ Some w → slice_get wholes i ≡ Some h → HeldStory w h.outcomes h.notes

abbrev whole_of : (t : Teller) (value : ℕ) (rest : List Note) (more : List Outcome) → Whole
whole_of t value rest more = record { notes = t.told ++ rest; outcomes = t.met ++ pending value t.receive ++ more }

abbrev actor_of : (t : Teller) (rest : List Note) (more : List Outcome) → Actor
actor_of t rest more = record { due = t.due; notes = rest; outcomes = more; answers = t.answers; parked = parked_of (store_behind t.told) (waits_at t) }

-- with what holds of each promise
prepared_by : (Q : ℕ → ℕ → Type 0) (programs : List Program) (tellers : List Teller) → length tellers ≡ length programs
    → ((i : ℕ) (w : Program) (t : Teller) → slice_get programs i ≡ Some w → slice_get tellers i ≡ Some t → (s : HasStory w t) × Q i s.value)
    → (p : Prepared programs tellers) × ((i : ℕ) → i < length tellers → Q i (p.will i))
unfolding first_then
prepared_by Q [] [] long story = (
  record {
    will = λ (j : ℕ). 0;
    small = λ j. omega arith;
    wholes = [];
    actors = [];
    fore = record { wide = refl; long = refl; each = λ i t h a et eh ea. absurd cc };
    stories = λ i w h ew eh. absurd cc;
  },
  λ i within. absurd (omega (arith, within)),
)
prepared_by Q [] (t ∷ tellers) long story = let never : ⊥ = omega (arith, long) in absurd never
prepared_by Q (w ∷ programs) [] long story = let never : ⊥ = omega (arith, long) in absurd never
prepared_by Q (w ∷ programs) (t ∷ tellers) long story =
    let s = (story 0 w t refl refl).0 in
    let rest = prepared_by (λ i v. Q (suc i) v) programs tellers (omega (arith, long)) (λ i. story (suc i)) in
    let on = rest.0 in (
      record {
        will = first_then s.value on.will;
        small = small s on;
        wholes = whole_of t s.value s.rest s.more ∷ on.wholes;
        actors = actor_of t s.rest s.more ∷ on.actors;
        fore = record { wide = ap suc on.fore.wide; long = ap suc on.fore.long; each = each s on };
        stories = stories s on;
      },
      kept s (story 0 w t refl refl).1 on rest.1,
    )
  where
    kept : (s : HasStory w t) → Q 0 s.value → (on : Prepared programs tellers) → ((i : ℕ) → i < length tellers → Q (suc i) (on.will i)) → (i : ℕ) → i < suc (length tellers) → Q i (first_then s.value on.will i)
    kept s q on later zero within = q
    kept s q on later (suc i) within = later i (omega (arith, within))

    small : (s : HasStory w t) (on : Prepared programs tellers) (j : ℕ) → first_then s.value on.will j < 2 ^ 32
    small s on zero = s.small
    small s on (suc j) = on.small j

    each : (s : HasStory w t) (on : Prepared programs tellers) (i : ℕ) (t' : Teller) (h' : Whole) (a' : Actor) → slice_get (t ∷ tellers) i ≡ Some t'
        → slice_get (whole_of t s.value s.rest s.more ∷ on.wholes) i ≡ Some h' → slice_get (actor_of t s.rest s.more ∷ on.actors) i ≡ Some a' → Ties (first_then s.value on.will i) t' h' a'
    each s on zero t' h' a' et eh ea =
        let tie : Ties s.value t (whole_of t s.value s.rest s.more) (actor_of t s.rest s.more) =
        record { due = refl; answers = refl; notes = refl; outcomes = refl; parked = refl; is_rest = s.is_rest } in
        subst (λ (x : Teller). Ties s.value x h' a') (same_Some _ _ et)
        (subst (λ (x : Whole). Ties s.value t x a') (same_Some _ _ eh) (subst (λ (x : Actor). Ties s.value t (whole_of t s.value s.rest s.more) x) (same_Some _ _ ea) tie))
    each s on (suc i) t' h' a' et eh ea = on.fore.each i t' h' a' et eh ea

    stories : (s : HasStory w t) (on : Prepared programs tellers) (i : ℕ) (w' : Program) (h' : Whole) → slice_get (w ∷ programs) i ≡ Some w'
        → slice_get (whole_of t s.value s.rest s.more ∷ on.wholes) i ≡ Some h' → HeldStory w' h'.outcomes h'.notes
    stories s on zero w' h' ew eh =
        subst (λ (x : Whole). HeldStory w' x.outcomes x.notes) (same_Some _ _ eh)
        (subst (λ (x : Program). HeldStory x (t.met ++ pending s.value t.receive ++ s.more) (t.told ++ s.rest)) (same_Some _ _ ew) s.story)
    stories s on (suc i) w' h' ew eh = on.stories i w' h' ew eh

pub zip_long : (ws : List Program) (ts : List Teller) → AllZip HasStory ws ts → length ts ≡ length ws
zip_long [] [] z = refl
zip_long [] (t ∷ ts) z = absurd z
zip_long (w ∷ ws) [] z = absurd z
zip_long (w ∷ ws) (t ∷ ts) z = ap suc (zip_long ws ts z.1)

prepared : (programs : List Program) (tellers : List Teller) → AllZip HasStory programs tellers → Prepared programs tellers
prepared programs tellers all =
    (prepared_by (λ i v. Unit {0}) programs tellers (zip_long programs tellers all) (λ i w t ew et. (zip_both HasStory programs tellers all i w t ew et, tt))).0

no_some : (p : Parked) → Some p ≡ None → ⊥
no_some p e = cc

-- who has nothing to tell and doesn't wait has ended
pub is_over : (b : Bool) (o : Option Await) (s : Store) (rest : List Note) (p : Option Parked) → IsRest b o rest → p ≡ parked_of s (if_going b o) → rest ≡ [] → p ≡ None → b ≡ true
is_over true o s rest p is e none awake = refl
is_over false None s rest p is e none awake = let no_way : ⊥ = omega (arith, is, ap length none) in absurd no_way
is_over false (Some r) s rest p is e none awake = absurd (no_some (record { import = r.import; store = s }) (sym e ∙ awake))

ended_over : (b : Bool) (o : Option Await) (s : Store) (rest : List Note) (p : Option Parked) → IsRest b o rest → p ≡ parked_of s (if_going b o) → b ≡ true → (rest ≡ []) × (p ≡ None)
ended_over true o s rest p is e t = (is, e)
ended_over false o s rest p is e t = absurd cc

-- A program's calls met what it has told of them, with some answer where it waits, and are to meet what an actor's still do; it waits where the actor does.
pub record MetOne (t : Teller) (first now : Actor) : Type 0 where
  pub value : ℕ
  pub small : value < 2 ^ 32
  pub outcomes : t.met ++ pending value t.receive ++ now.outcomes ≡ first.outcomes
  pub parked : now.parked ≡ parked_of (store_behind t.told) (waits_at t)
  pub due : now.due ≡ t.due
  pub answers : now.answers ≡ t.answers
  pub notes : t.told ++ now.notes ≡ first.notes
  pub is_rest : IsRest t.has_ended t.receive now.notes

-- so it is of each
abbrev pub MetTo : List Teller → (starts now : List Actor) → Type 0
MetTo tellers starts now = (i : ℕ) (t : Teller) (a b : Actor) → slice_get tellers i ≡ Some t → slice_get starts i ≡ Some a → slice_get now i ≡ Some b → MetOne t a b

pub told_is_world_met : (begun : ℕ) (programs : List Program) (detaches : List Detach) (boxes : List (List ℕ)) (ds : List Device) (count : ℕ) (lines : List Line) (tellers : List Teller) (c : Common)
    → Tells begun programs detaches boxes ds count lines tellers c → AllZip HasStory programs tellers
    → (world : ProtocolWorldUpToFrom begun programs detaches boxes ds (begun + count) lines c.devices) × MetTo tellers world.actors world.now
    × (will : ℕ → ℕ) × (world.shared ≡ shared_by will c)
told_is_world_met begun programs detaches boxes ds count lines tellers c tells all =
    let p = prepared programs tellers all in
    let on = reaches begun programs detaches boxes ds p.wholes p.stories count p.will p.small lines tellers c p.actors tells p.fore in (
      record {
        actors = on.start;
        now = p.actors;
        shared = shared_by p.will c;
        starts = on.starts;
        count = count;
        numbered = refl;
        played = on.played;
        devices = refl;
        ends = ends p;
      },
      λ i t a b et ea eb.
          let h = item p.wholes i (omega (arith, slice_get_within tellers i t et, p.fore.wide)) in
          let tie = p.fore.each i t h.0 b et h.1 eb in
          record { value = p.will i; small = p.small i; outcomes = tie.outcomes ∙ sym (on.outcomes i h.0 a h.1 ea); parked = tie.parked; due = tie.due; answers = tie.answers; notes = tie.notes ∙ sym (on.notes i h.0 a h.1 ea); is_rest = tie.is_rest },
      p.will,
      refl,
    )
  where
    ends : (p : Prepared programs tellers) → EndsAreTold programs lines p.actors
    ends p i w a ew ea going none awake =
        let t = item tellers i (omega (arith, slice_get_within p.actors i a ea, p.fore.long)) in
        let h = item p.wholes i (omega (arith, slice_get_within p.actors i a ea, p.fore.long, p.fore.wide)) in
        let tie = p.fore.each i t.0 h.0 a t.1 h.1 ea in
        ends_told begun programs detaches boxes ds i w ew going count lines tellers c tells t.0 t.1
        (is_over t.0.has_ended t.0.receive (store_behind t.0.told) a.notes a.parked tie.is_rest tie.parked none awake)

pub told_is_world : ToldIsWorld
told_is_world begun programs detaches boxes ds count lines tellers c tells all = (told_is_world_met begun programs detaches boxes ds count lines tellers c tells all).0

-- once all have ended, with what holds of the answers where programs wait
pub all_told_by : (Q : ℕ → ℕ → Type 0) (begun : ℕ) (programs : List Program) (detaches : List Detach) (boxes : List (List ℕ)) (ds : List Device) (count : ℕ) (lines : List Line) (tellers : List Teller)
    (c : Common) → Tells begun programs detaches boxes ds count lines tellers c → length tellers ≡ length programs
    → ((i : ℕ) (w : Program) (t : Teller) → slice_get programs i ≡ Some w → slice_get tellers i ≡ Some t → (s : HasStory w t) × Q i s.value) → HaveEnded tellers
    → (world : ProtocolWorldFrom begun programs detaches boxes ds lines c.devices) × ((i : ℕ) (t : Teller) (a : Actor) → slice_get tellers i ≡ Some t → slice_get world.actors i ≡ Some a
    → (value : ℕ) × (value < 2 ^ 32) × Q i value × IsPrefix (t.met ++ pending value t.receive) a.outcomes)
all_told_by Q begun programs detaches boxes ds count lines tellers c tells long story done =
    let made = prepared_by Q programs tellers long story in
    let p = made.0 in
    let on = reaches begun programs detaches boxes ds p.wholes p.stories count p.will p.small lines tellers c p.actors tells p.fore in (
      record {
        actors = on.start;
        starts = on.starts;
        runs = record {
          last = p.actors;
          shared = shared_by p.will c;
          events = as_events programs detaches count (suc begun) on.start p.actors (sharing boxes ds) (shared_by p.will c) lines on.played;
          over = over p;
          devices = refl;
        };
        ends = each;
      },
      λ i t a et ea.
          let b = item p.actors i (omega (arith, slice_get_within tellers i t et, p.fore.long)) in
          let h = item p.wholes i (omega (arith, slice_get_within tellers i t et, p.fore.wide)) in
          (p.will i, p.small i, made.1 i (slice_get_within tellers i t et), (b.0.outcomes, on.outcomes i h.0 a h.1 ea ∙ sym (p.fore.each i t h.0 b.0 et h.1 b.1).outcomes)),
    )
  where
    over : (p : Prepared programs tellers) → IsOver p.actors
    over p k d within =
        let a = get_or p.actors k d in
        let t = item tellers k (omega (arith, within, p.fore.long)) in
        let h = item p.wholes k (omega (arith, within, p.fore.long, p.fore.wide)) in
        let tie = p.fore.each k t.0 h.0 a t.1 h.1 (slice_get-get_or p.actors k d within) in
        let o = ended_over t.0.has_ended t.0.receive (store_behind t.0.told) a.notes a.parked tie.is_rest tie.parked (done k t.0 t.1) in
        record { no_notes = o.0; awake = o.1 }

    each : (i : ℕ) (w : Program) → slice_get programs i ≡ Some w → begins_over w ≡ false → tells_end i lines ≡ true
    each i w ew going =
        let t = item tellers i (omega (arith, slice_get_within programs i w ew, long)) in
        ends_told begun programs detaches boxes ds i w ew going count lines tellers c tells t.0 t.1 (done i t.0 t.1)

pub all_told_is_world : AllToldIsWorld
all_told_is_world begun programs detaches boxes ds count lines tellers c tells all done =
    let run = all_told_by (λ i v. Unit {0}) begun programs detaches boxes ds count lines tellers c tells (zip_long programs tellers all)
    (λ i w t ew et. (zip_both HasStory programs tellers all i w t ew et, tt)) done in
    (run.0, λ i t a et ea. let m = run.1 i t a et ea in (m.0, m.1, m.3))
