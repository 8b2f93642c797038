-- What a call of the mailbox at a place does to all of them.
use Rattle.std.proofs.Common.{Result, Ok, Err, OnErr, ◌≡◌, ℕ, ◌<◌, List, [], ◌∷◌, ◌++◌, length, get_or, set, Option, Some, None, slice_get, refl, sym, ap, ◌∙◌, subst}
use Rattle.std.specs.Prelude.{String, OnOk, MatchOption}
use Rattle.std.specs.declared.alloc.Global.{Global}
use Rattle.std.specs.BTreeMap.{BTreeMap}
use Rattle.std.proofs.lemmas.List.{set-get_or}
use Rattle.std.proofs.lemmas.Option.{slice_get-get_or}
use Rattle.std.proofs.lemmas.Result.{on_ok_weaker}
use Rattle.device_port.specs.declared.device.Reply.{Reply}
use Rattle.device_port.proofs.Places.{unchanged, some_is}
use Rattle.mailbox_device.specs.declared.mailbox.Settled.{Settled}
use Rattle.mailbox_device.specs.Mail.{Box, Mail, names_of, sent, sent_past, receiver, awaited, TakesFirst, IsEmptyAt, WaitsNowhere, waits_at_all, Sends, Receives, Awaits, IsOrderly}
use Rattle.mailbox_device.specs.Places.{AreSound, TellsPlaces}
use Rattle.mailbox_device.proofs.Orderly.{orderly_sent, orderly_received, orderly_awaited}

-- what holds of a change and of none holds behind a call that may want memory
of_both : {T E X : Type 0} (r : Result T E) (P : X → Type 0) (old new changed : X) → OnOk r (new ≡ changed) → OnErr r (new ≡ old) → P changed → P old → P new
of_both (Ok t) P old new changed ok err p q = subst P (sym ok) p
of_both (Err e) P old new changed ok err p q = subst P (sym err) q

-- what holds on Ok holds at once
on_ok_both : {T E : Type 0} (P Q : Type 0) (r : Result T E) → OnOk r P → OnOk r Q → OnOk r (P × Q)
on_ok_both P Q (Ok t) p q = (p, q)
on_ok_both P Q (Err e) p q = tt

name_past : (value : ℕ) (name values waits : List ℕ) → (sent_past value (record { name = name; values = values; waits = waits }) waits).name ≡ name
name_past value name values [] = refl
name_past value name values (w ∷ ws) = refl

-- mailboxes, of which this is one
module _ (boxes : List Box) (settled : List Settled) (old : Mail) (view_is : record { boxes = boxes; settled = settled } ≡ old) (place : ℕ) (box : Box)
    (inside : place < length old.boxes) (is : box ≡ get_or boxes place box) where
  within : place < length boxes
  within = subst (λ (m : Mail). place < length m.boxes) (sym view_is) inside

  there : slice_get boxes place ≡ Some box
  there = slice_get-get_or boxes place box within ∙ ap (λ b. Some b) (sym is)

  -- what is said of the old ones in the view is said of them
  of_old : (P : Mail → Type 0) → P (record { boxes = boxes; settled = settled }) → P old
  of_old P p = subst P view_is p

  -- another of its name in its place
  same_names : (new : Box) → new.name ≡ box.name → names_of (set boxes place new) ≡ names_of old.boxes
  same_names new same = unchanged (λ (b : Box). b.name) boxes place box new is same ∙ ap (λ (m : Mail). names_of m.boxes) view_is

  -- names found are found again
  pub sound : (places : BTreeMap (String Global) ℕ) (new : Box) → AreSound places boxes → names_of (set boxes place new) ≡ names_of old.boxes → IsOrderly (set boxes place new)
      → AreSound places (set boxes place new)
  sound places new before names orderly = record {
    found = subst (TellsPlaces places) (ap (λ (m : Mail). names_of m.boxes) view_is ∙ sym names) before.found;
    orderly = orderly;
  }

  as_before : set boxes place box ≡ boxes
  as_before = ap (set boxes place) is ∙ set-get_or boxes place box

  itself : IsOrderly boxes → IsOrderly (set boxes place box)
  itself orderly = subst IsOrderly (sym as_before) orderly

  -- ---- behind a receive

  -- what is told of it
  abbrev Received : Option Reply → (new : Box) → Type 0
  Received o new = MatchOption o ((box.values ≡ []) × (new ≡ box)) (λ reply. TakesFirst reply box new)

  pub receive_names : (o : Option Reply) (new : Box) → Received o new → names_of (set boxes place new) ≡ names_of old.boxes
  receive_names None new taken = same_names new (ap (λ (b : Box). b.name) taken.1)
  receive_names (Some reply) new taken = same_names new (ap (λ (b : Box). b.name) taken.left)

  pub receive_orderly : (o : Option Reply) (new : Box) → Received o new → IsOrderly boxes → IsOrderly (set boxes place new)
  receive_orderly None new taken orderly = subst (λ b. IsOrderly (set boxes place b)) (sym taken.1) (itself orderly)
  receive_orderly (Some reply) new taken orderly =
      subst (λ b. IsOrderly (set boxes place b)) (sym taken.left) (orderly_received boxes place box within is taken.value taken.rest taken.queued orderly)

  pub receives : (o : Option Reply) (new : Box) → Received o new
      → MatchOption o (IsEmptyAt place old.boxes × (record { boxes = set boxes place new; settled = settled } ≡ old))
      (λ reply. Receives place reply old (record { boxes = set boxes place new; settled = settled }))
  receives None new taken = (
    of_old (λ m. IsEmptyAt place m.boxes) (record { box = box; there = there; empty = taken.0 }),
    ap (λ bs. record { boxes = bs; settled = settled }) (ap (set boxes place) taken.1 ∙ as_before) ∙ view_is,
  )
  receives (Some reply) new taken = of_old (λ m. Receives place reply m (record { boxes = set boxes place new; settled = settled })) (record {
    box = box;
    after = new;
    there = there;
    takes = taken;
    boxes = refl;
    settled = refl;
  })

  -- ---- behind a call that may want memory

  module _ {T E : Type 0} (r : Result T E) (new : Box) where
    pub send_names : (value : ℕ) → OnOk r (new ≡ sent value box) → OnErr r (new ≡ box) → names_of (set boxes place new) ≡ names_of old.boxes
    send_names value ok err = same_names new (of_both r (λ b. b.name ≡ box.name) box new (sent value box) ok err (name_past value box.name box.values box.waits) refl)

    pub send_orderly : (value : ℕ) → OnOk r (new ≡ sent value box) → OnErr r (new ≡ box) → IsOrderly boxes → IsOrderly (set boxes place new)
    send_orderly value ok err orderly =
        of_both r (λ b. IsOrderly (set boxes place b)) box new (sent value box) ok err (orderly_sent boxes place box within is value orderly) (itself orderly)

    pub sends : (value : ℕ) (behind : List Settled) → OnOk r (new ≡ sent value box) → OnOk r (behind ≡ settled ++ receiver value box.waits)
        → OnOk r (Sends place value old (record { boxes = set boxes place new; settled = behind }))
    sends value behind ok joined = on_ok_weaker r (λ so. of_old (λ m. Sends place value m (record { boxes = set boxes place new; settled = behind })) (record {
      box = box;
      there = there;
      boxes = ap (set boxes place) so.0;
      settled = so.1;
    })) (on_ok_both _ _ r ok joined)

    pub wait_names : (program : ℕ) → OnOk r (new ≡ awaited program box) → OnErr r (new ≡ box) → names_of (set boxes place new) ≡ names_of old.boxes
    wait_names program ok err = same_names new (of_both r (λ b. b.name ≡ box.name) box new (awaited program box) ok err refl refl)

    pub wait_orderly : (program : ℕ) → OnOk r (new ≡ awaited program box) → OnErr r (new ≡ box) → IsEmptyAt place old.boxes → WaitsNowhere program old.boxes → IsOrderly boxes
        → IsOrderly (set boxes place new)
    wait_orderly program ok err empty nowhere orderly =
        of_both r (λ b. IsOrderly (set boxes place b)) box new (awaited program box) ok err
        (orderly_awaited boxes place box within is program (empty_there empty) (ap (λ (m : Mail). waits_at_all program m.boxes) view_is ∙ nowhere) orderly)
        (itself orderly)
      where
        empty_there : IsEmptyAt place old.boxes → box.values ≡ []
        empty_there e = let same : e.box ≡ box = some_is e.box box (sym e.there ∙ ap (λ (m : Mail). slice_get m.boxes place) (sym view_is) ∙ there) in
            ap (λ (b : Box). b.values) (sym same) ∙ e.empty

    pub waits : (program : ℕ) → OnOk r (new ≡ awaited program box) → OnOk r (Awaits place program old (record { boxes = set boxes place new; settled = settled }))
    waits program ok = on_ok_weaker r (λ so. of_old (λ m. Awaits place program m (record { boxes = set boxes place new; settled = settled })) (record {
      box = box;
      there = there;
      boxes = ap (set boxes place) so;
      settled = refl;
    })) ok
