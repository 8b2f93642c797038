-- Mailboxes stay orderly: where a program waits no value is queued, and each program waits once at most.
use Rattle.std.proofs.Common.{arith, ◌≡◌, ℕ, ◌+◌, ◌<◌, ◌≤◌, Bool, true, false, cond, nat_eq, List, [], ◌∷◌, ◌++◌, length, get_or, set, map, count_by, refl, sym, ap, ◌∙◌, subst, append-nil}
use Rattle.std.proofs.lemmas.Bool.{eqb-true}
use Rattle.std.proofs.lemmas.List.Elements.{All-map, All-set}
use Rattle.std.proofs.lemmas.List.Sums.{sum_by-cons, sum_by_push, sum_by-set}
use Rattle.mailbox_device.specs.Mail.{Box, empty_box, sent, sent_past, received, awaited, waits_in, waits_at_all, IsServed, IsOrderly}

-- ---- empty mailboxes

pub empty_waits : (program : ℕ) (names : List (List ℕ)) → waits_at_all program (map empty_box names) ≡ 0
empty_waits program [] = refl
empty_waits program (n ∷ names) = sum_by-cons (waits_in program) (empty_box n) (map empty_box names) ∙ ap (λ k. 0 + k) (empty_waits program names)

pub orderly_empty : (names : List (List ℕ)) → IsOrderly (map empty_box names)
orderly_empty names = record {
  served = All-map IsServed empty_box names (λ k d within h. absurd (omega arith));
  once = λ program. let none = empty_waits program names in omega arith;
}

-- once a mailbox is made of each name
pub all_made : (boxes : List Box) (names left : List (List ℕ)) → length left ≡ 0 → boxes ++ map empty_box left ≡ map empty_box names → IsOrderly boxes
all_made boxes names [] done made = subst IsOrderly (sym made ∙ append-nil boxes) (orderly_empty names)
all_made boxes names (n ∷ left) done made = absurd (omega arith)

-- ---- one mailbox

pub served_past : (value : ℕ) (name values waits : List ℕ) → IsServed (record { name = name; values = values; waits = waits })
    → IsServed (sent_past value (record { name = name; values = values; waits = waits }) waits)
served_past value name values [] served = λ some. absurd (omega arith)
served_past value name values (w ∷ ws) served = λ some. served (omega arith)

pub served_sent : (value : ℕ) (b : Box) → IsServed b → IsServed (sent value b)
served_sent value b served = served_past value b.name b.values b.waits served

pub fewer_past : (program value : ℕ) (name values waits : List ℕ)
    → waits_in program (sent_past value (record { name = name; values = values; waits = waits }) waits) ≤ count_by (nat_eq program) waits
fewer_past program value name values [] = omega arith
fewer_past program value name values (w ∷ ws) = let e = sum_by-cons (λ x. cond (nat_eq program x) 1 0) w ws in omega arith

pub fewer_sent : (program value : ℕ) (b : Box) → waits_in program (sent value b) ≤ waits_in program b
fewer_sent program value b = fewer_past program value b.name b.values b.waits

pub served_received : (value : ℕ) (rest : List ℕ) (b : Box) → b.values ≡ value ∷ rest → IsServed b → IsServed (received rest b)
served_received value rest b queued served = λ some. let none = served some in absurd (cc)

-- ---- one of them changed

module _ (boxes : List Box) (place : ℕ) (old : Box) (within : place < length boxes) (is : old ≡ get_or boxes place old) where
  orderly_with : (new : Box) → IsServed new → ((program : ℕ) → waits_at_all program boxes + waits_in program new ≤ 1 + waits_in program old) → IsOrderly boxes
      → IsOrderly (set boxes place new)
  orderly_with new served few orderly = record {
    served = All-set IsServed boxes place new served orderly.served;
    once = λ program.
        let moved = sum_by-set (waits_in program) boxes place new old within in
        let same = ap (waits_in program) is in
        let so = few program in
        omega arith;
  }

  served_here : IsOrderly boxes → IsServed old
  served_here orderly = subst IsServed (sym is) (orderly.served place old within)

  pub orderly_sent : (value : ℕ) → IsOrderly boxes → IsOrderly (set boxes place (sent value old))
  orderly_sent value orderly =
      orderly_with (sent value old) (served_sent value old (served_here orderly))
      (λ program. let fewer = fewer_sent program value old in let once = orderly.once program in omega arith)
      orderly

  pub orderly_received : (value : ℕ) (rest : List ℕ) → old.values ≡ value ∷ rest → IsOrderly boxes → IsOrderly (set boxes place (received rest old))
  orderly_received value rest queued orderly =
      orderly_with (received rest old) (served_received value rest old queued (served_here orderly))
      (λ program. let once = orderly.once program in omega arith)
      orderly

  once_more : (all here : ℕ) (b : Bool) → all ≤ 1 → (b ≡ true → all ≡ 0) → all + (here + cond b 1 0) ≤ 1 + here
  once_more all here true le none = let zero_all = none refl in omega arith
  once_more all here false le none = omega arith

  pub orderly_awaited : (program : ℕ) → old.values ≡ [] → waits_at_all program boxes ≡ 0 → IsOrderly boxes → IsOrderly (set boxes place (awaited program old))
  orderly_awaited program empty nowhere orderly =
      orderly_with (awaited program old) (λ some. empty)
      (λ q. let more = sum_by_push (λ x. cond (nat_eq q x) 1 0) old.waits program in
      let bound = once_more (waits_at_all q boxes) (waits_in q old) (nat_eq q program) (orderly.once q)
      (λ same. ap (λ k. waits_at_all k boxes) (eqb-true q program same) ∙ nowhere) in
      omega arith)
      orderly
