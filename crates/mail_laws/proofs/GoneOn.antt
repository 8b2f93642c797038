-- Told up to whatever event, a world goes on to an end, where programs' calls meet first what they have met.
use Rattle.std.proofs.Common.{arith, ◌≡◌, ◌<◌, ◌+◌, ◌^◌, ℕ, List, ◌++◌, length, map, Option, Some, None, Bool, true, false, slice_get, refl, sym, ap, ◌∙◌, subst}
use Rattle.std.specs.List.{AllZip}
use Rattle.std.proofs.lemmas.List.{append_cancel_right, same_from_push}
use Rattle.std.proofs.lemmas.Option.{slice_get_within, same_Some}
use Rattle.wa_model.specs.declared.answers.Detach.{Detach}
use Rattle.wa_model.specs.Outside.{Line}
use Rattle.wa_model.specs.Plan.{Outcome}
use Rattle.wa_model.specs.Behaves.{IsPrefix}
use Rattle.wa_model.specs.Blocking.{Note}
use Rattle.wa_model.specs.Store.{Store}
use Rattle.world_model.specs.World.{Device, Program}
use Rattle.world_laws.proofs.Places.{item, map_at, zip_both}
use Rattle.mail_laws.specs.MailWorld.{Actor, HeldStory, ProtocolWorldFrom, store_behind}
use Rattle.mail_laws.specs.Played.{ProtocolWorldUpToFrom}
use Rattle.mail_laws.specs.Told.{Await, Common, HasStory, HaveMet, IsRest, Teller, Tells, ToldGoesOn, if_going, pending, shared_by, waits_at}
use Rattle.mail_laws.proofs.GoingOn.{Whole, all_stories, on_and_on, sum}
use Rattle.mail_laws.proofs.Grown.{GrownOne, prefix_on}
use Rattle.mail_laws.proofs.Played.{starts_long}
use Rattle.mail_laws.proofs.PlayedAreTold.{AllTold, Tied, stories, whole_from, world_told}
use Rattle.mail_laws.proofs.ToldAreWorlds.{parked_of}
use Rattle.mail_laws.proofs.Prepared.{MetOne, MetTo, all_told_by, told_is_world_met, zip_long}

-- who waits as another does
pub waits_too : (s s2 : Store) (o o2 : Option Await) (r : Await) → parked_of s o ≡ parked_of s2 o2 → o2 ≡ Some r → (q : Await) × (o ≡ Some q)
waits_too s s2 o None r e some = absurd (let never : None ≡ Some r = some in cc)
waits_too s s2 None (Some q) r e some = absurd cc
waits_too s s2 (Some p) (Some q) r e some = (p, refl)

pub going_so : (b : Bool) (o : Option Await) (r : Await) → if_going b o ≡ Some r → o ≡ Some r
going_so true o r e = absurd cc
going_so false o r e = e

module _ (begun : ℕ) (programs : List Program) (detaches : List Detach) (boxes : List (List ℕ)) (ds : List Device) (count : ℕ) (lines : List Line) (tellers : List Teller) (c : Common)
    (tells : Tells begun programs detaches boxes ds count lines tellers c) (begin : AllZip HasStory programs tellers) where
  abbrev up : (world : ProtocolWorldUpToFrom begun programs detaches boxes ds (begun + count) lines c.devices) × MetTo tellers world.actors world.now × (will : ℕ → ℕ) × (world.shared ≡ shared_by will c)
  up = told_is_world_met begun programs detaches boxes ds count lines tellers c tells begin

  -- the same told again, from which it goes on
  abbrev again : AllTold begun programs detaches boxes ds (map whole_from up.0.actors) up.0.count lines up.0.now up.0.shared
  again = world_told begun programs detaches boxes ds c.devices (begun + count) lines up.0

  module _ (whole : Whole begun programs detaches boxes ds lines again.tellers) where
    -- One program: where it stood, as it is told again, and in the end.
    record Thrice (i : ℕ) : Type 0 where
      first : Actor
      now : Actor
      told : Teller
      end : Teller
      first_there : slice_get up.0.actors i ≡ Some first
      now_there : slice_get up.0.now i ≡ Some now
      told_there : slice_get again.tellers i ≡ Some told
      end_there : slice_get whole.tellers i ≡ Some end
      tied : Tied (again.will i) told (whole_from first) now
      grown : GrownOne told end

    thrice : (i : ℕ) → i < length programs → Thrice i
    thrice i within =
        let a = item up.0.actors i (omega (arith, within, starts_long programs up.0.actors up.0.starts)) in
        let t = item again.tellers i (omega (arith, within, again.holds.long)) in
        let b = item up.0.now i (omega (arith, within, again.holds.long, again.beside.long)) in
        let e = item whole.tellers i (omega (arith, within, again.holds.long, whole.grown.long)) in
        record {
          first = a.0;
          now = b.0;
          told = t.0;
          end = e.0;
          first_there = a.1;
          now_there = b.1;
          told_there = t.1;
          end_there = e.1;
          tied = again.beside.each i t.0 (whole_from a.0) b.0 t.1 (map_at whole_from up.0.actors i a.0 a.1) b.1;
          grown = whole.grown.each i t.0 e.0 t.1 e.1;
        }

    -- who had ended gets the answer that it got there
    abbrev pub Kept : ℕ → ℕ → Type 0
    Kept i v = (t : Teller) → slice_get again.tellers i ≡ Some t → t.has_ended ≡ true → v ≡ again.will i

    story : (i : ℕ) (w : Program) (t : Teller) → slice_get programs i ≡ Some w → slice_get whole.tellers i ≡ Some t → (s : HasStory w t) × Kept i s.value
    story i w t ew et = by (thrice i (slice_get_within programs i w ew))
      where
        by : Thrice i → (s : HasStory w t) × Kept i s.value
        by x = at x.told.has_ended refl
          where
            is : x.end ≡ t
            is = same_Some x.end t (sym x.end_there ∙ et)

            there : HeldStory w x.first.outcomes x.first.notes
            there = stories begun programs detaches boxes ds c.devices (begun + count) lines up.0 i w (whole_from x.first) ew (map_at whole_from up.0.actors i x.first x.first_there)

            at : (b : Bool) → x.told.has_ended ≡ b → (s : HasStory w t) × Kept i s.value
            at true e =
                let same : x.told ≡ t = sym (x.grown.over e) ∙ is in
                subst (λ (y : Teller). (s : HasStory w y) × Kept i s.value) same (
                  record {
                    value = again.will i;
                    small = again.small i;
                    rest = x.now.notes;
                    more = x.now.outcomes;
                    story = subst (λ (ns : List Note). HeldStory w (x.told.met ++ pending (again.will i) x.told.receive ++ x.now.outcomes) ns) (sym x.tied.notes)
                        (subst (λ (os : List Outcome). HeldStory w os x.first.notes) (sym x.tied.outcomes) there);
                    is_rest = subst (λ (b : Bool). IsRest b x.told.receive x.now.notes) (sym e) (x.tied.over e);
                  },
                  λ u eu over. refl,
                )
            at false e = (
              zip_both HasStory programs whole.tellers (all_stories programs whole.tellers whole.c whole.sizes whole.holds whole.over) i w t ew et,
              λ u eu over. absurd (let no_way : false ≡ true = sym e ∙ ap (λ (y : Teller). y.has_ended) (same_Some x.told u (sym x.told_there ∙ eu)) ∙ over in cc),
            )

    abbrev pub last : List Device
    last = whole.c.devices

    pub run : (world : ProtocolWorldFrom begun programs detaches boxes ds (lines ++ whole.more) last)
        × ((i : ℕ) (t : Teller) (a : Actor) → slice_get whole.tellers i ≡ Some t → slice_get world.actors i ≡ Some a
        → (value : ℕ) × (value < 2 ^ 32) × Kept i value × IsPrefix (t.met ++ pending value t.receive) a.outcomes)
    run = all_told_by Kept begun programs detaches boxes ds whole.count (lines ++ whole.more) whole.tellers whole.c whole.tells whole.holds.long story whole.over

    pub met : HaveMet tellers run.0.actors
    met i t a et ea = by (thrice i (omega (arith, slice_get_within tellers i t et, zip_long programs tellers begin)))
      where
        by : Thrice i → (value : ℕ) × (value < 2 ^ 32) × IsPrefix (t.met ++ pending value t.receive) a.outcomes
        by x = at x.told.has_ended refl
          where
            m : MetOne t x.first x.now
            m = up.1 i t x.first x.now et x.first_there x.now_there

            -- what was told and what is told again
            same : x.told.met ++ pending (again.will i) x.told.receive ≡ t.met ++ pending m.value t.receive
            same = append_cancel_right (x.told.met ++ pending (again.will i) x.told.receive) (t.met ++ pending m.value t.receive) x.now.outcomes (x.tied.outcomes ∙ sym m.outcomes)

            f : (value : ℕ) × (value < 2 ^ 32) × Kept i value × IsPrefix (x.end.met ++ pending value x.end.receive) a.outcomes
            f = run.1 i x.end a x.end_there ea

            as_told : IsPrefix (x.told.met ++ pending (again.will i) x.told.receive) a.outcomes → (value : ℕ) × (value < 2 ^ 32) × IsPrefix (t.met ++ pending value t.receive) a.outcomes
            as_told h = (m.value, m.small, subst (λ (os : List Outcome). IsPrefix os a.outcomes) same h)

            later : (v : ℕ) × (v < 2 ^ 32) × IsPrefix (x.told.met ++ pending v x.told.receive) a.outcomes
            later =
                let k = x.grown.later f.0 f.1 in
                (k.0, k.1, prefix_on (x.told.met ++ pending k.0 x.told.receive) (x.end.met ++ pending f.0 x.end.receive) a.outcomes k.2 f.3)

            waits : (r : Await) → x.told.receive ≡ Some r → x.told.has_ended ≡ false → (value : ℕ) × (value < 2 ^ 32) × IsPrefix (t.met ++ pending value t.receive) a.outcomes
            waits r q e =
                let w = waits_too (store_behind t.told) (store_behind x.told.told) (waits_at t) (waits_at x.told) r (sym m.parked ∙ x.tied.parked) (λ k. if_going (e k) (q k)) in
                let some : t.receive ≡ Some w.0 = going_so t.has_ended t.receive w.0 w.1 in
                let pushed : x.told.met ++ pending (again.will i) (Some r) ≡ t.met ++ pending m.value (Some w.0) =
                (λ k. x.told.met ++ pending (again.will i) (sym q k)) ∙ same ∙ (λ k. t.met ++ pending m.value (some k)) in
                let is : x.told.met ≡ t.met = (same_from_push x.told.met t.met _ _ pushed).0 in (
                  later.0,
                  later.1,
                  subst (λ (os : List Outcome). IsPrefix os a.outcomes)
                      ((λ k. is k ++ pending later.0 (q k)) ∙ (λ k. t.met ++ pending later.0 (sym some k)))
                      later.2,
                )

            awake : (r : Option Await) → x.told.receive ≡ r → x.told.has_ended ≡ false → (value : ℕ) × (value < 2 ^ 32) × IsPrefix (t.met ++ pending value t.receive) a.outcomes
            awake (Some r) q e = waits r q e
            awake None q e =
                as_told (subst (λ (os : List Outcome). IsPrefix os a.outcomes) ((λ k. x.told.met ++ pending later.0 (q k)) ∙ (λ k. x.told.met ++ pending (again.will i) (sym q k))) later.2)

            at : (b : Bool) → x.told.has_ended ≡ b → (value : ℕ) × (value < 2 ^ 32) × IsPrefix (t.met ++ pending value t.receive) a.outcomes
            at false e = awake x.told.receive refl e
            at true e =
                as_told (subst (λ (os : List Outcome). IsPrefix os a.outcomes)
                ((λ k. x.end.met ++ pending (f.2 x.told x.told_there e k) x.end.receive) ∙ ap (λ (y : Teller). y.met ++ pending (again.will i) y.receive) (x.grown.over e)) f.3)

pub told_goes_on : ToldGoesOn
told_goes_on begun programs detaches boxes ds count lines tellers c tells begin =
    let told = again begun programs detaches boxes ds count lines tellers c tells begin in
    let whole = on_and_on begun programs detaches boxes ds (sum told.sizes) told.count lines told.tellers told.c told.sizes (omega arith) told.tells told.holds in (
      whole.more,
      last begun programs detaches boxes ds count lines tellers c tells begin whole,
      (run begun programs detaches boxes ds count lines tellers c tells begin whole).0,
      met begun programs detaches boxes ds count lines tellers c tells begin whole,
    )
