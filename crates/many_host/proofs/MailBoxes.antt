-- Mailboxes of which the first of a name changes: who waits at them.
use Rattle.std.proofs.Common.{arith, ◌≡◌, ◌<◌, ◌+◌, ◌⊎◌, inl, inr, ℕ, zero, suc, List, [], ◌∷◌, ◌++◌, Some, Bool, true, false, cond, nat_eq, All, count_by, refl, sym, ap, ◌∙◌, subst}
use Rattle.std.specs.List.{find}
use Rattle.std.proofs.lemmas.Bool.{eq-eqb, ne_eqb, eqb-true}
use Rattle.std.proofs.lemmas.List.Elements.{All-cons, All-head, All-nil, All-tail}
use Rattle.std.proofs.lemmas.List.Sums.{sum_by-cons}
use Rattle.wa_types.specs.Validity.{same_name}
use Rattle.world_laws.proofs.Journals.{name_same}
use Rattle.mailbox_device.specs.declared.mailbox.Settled.{Settled}
use Rattle.mailbox_device.specs.Mail.{Box, at_box, is_box, names_of, waits_at_all, waits_in}
use Rattle.mail_laws.specs.Told.{Teller}
use Rattle.mail_laws.proofs.CallsTold.{one_where, times, times_settled, times_waiting}
use Rattle.many_host.specs.MailTurns.{AllWaitThere, WaitsThere, times_sent}

-- ---- how often a program waits

one_is : (b : Bool) → one_where b ≡ cond b 1 0
one_is true = refl
one_is false = refl

times_is : (j : ℕ) (ks : List ℕ) → times j ks ≡ count_by (nat_eq j) ks
times_is j [] = refl
times_is j (k ∷ ks) = (λ l. one_is (nat_eq j k) l + times_is j ks l) ∙ sym (sum_by-cons (λ (x : ℕ). cond (nat_eq j x) 1 0) k ks)

pub waits_is : (j : ℕ) (bs : List Box) → waits_at_all j bs ≡ times_waiting j bs
waits_is j [] = refl
waits_is j (b ∷ bs) = sum_by-cons (waits_in j) b bs ∙ (λ l. sym (times_is j b.waits) l + waits_is j bs l)

pub sent_is : (j : ℕ) (ss : List Settled) → times_sent j ss ≡ times_settled j ss
sent_is j [] = refl
sent_is j (s ∷ ss) = sum_by-cons (λ (x : Settled). cond (nat_eq j x.program) 1 0) s ss ∙ (λ l. sym (one_is (nat_eq j s.program)) l + sent_is j ss l)

pub times_on : (j : ℕ) (xs ys : List ℕ) → times j (xs ++ ys) ≡ times j xs + times j ys
times_on j [] ys = omega arith
times_on j (x ∷ xs) ys = let on = times_on j xs ys in omega (arith, on)

pub settled_on : (j : ℕ) (xs ys : List Settled) → times_settled j (xs ++ ys) ≡ times_settled j xs + times_settled j ys
settled_on j [] ys = omega arith
settled_on j (x ∷ xs) ys = let on = settled_on j xs ys in omega (arith, on)

-- itself once, another never
pub once_itself : (j : ℕ) → times j (j ∷ []) ≡ 1
once_itself j = let e = ap one_where (eq-eqb j j refl) in omega (arith, e)

pub never_other : (j i : ℕ) → (j ≡ i → ⊥) → times j (i ∷ []) ≡ 0
never_other j i other = let e = ap one_where (ne_eqb j i other) in omega (arith, e)

-- ---- the first of a name

first : (x y : Box) → Some x ≡ Some y → x ≡ y
first x y q = cc

pub found_name : (name : List ℕ) (bs : List Box) (b : Box) → find (is_box name) bs ≡ Some b → b.name ≡ name
found_name name [] b is = absurd cc
found_name name (c ∷ bs) b is = by (same_name c.name name) refl is (found_name name bs b)
  where
    by : (y : Bool) → same_name c.name name ≡ y → cond y (Some c) (find (is_box name) bs) ≡ Some b → (find (is_box name) bs ≡ Some b → b.name ≡ name) → b.name ≡ name
    by true e q on = ap (λ (x : Box). x.name) (sym (first c b q)) ∙ name_same c.name name e
    by false e q on = on q

pub found_all : (Q : Box → Type 0) (name : List ℕ) (bs : List Box) (b : Box) → find (is_box name) bs ≡ Some b → All Q bs → Q b
found_all Q name [] b is all = absurd cc
found_all Q name (c ∷ bs) b is all = by (same_name c.name name) is (λ q. found_all Q name bs b q (All-tail Q c bs all))
  where
    by : (y : Bool) → cond y (Some c) (find (is_box name) bs) ≡ Some b → (find (is_box name) bs ≡ Some b → Q b) → Q b
    by true q on = subst Q (first c b q) (All-head Q c bs all)
    by false q on = on q

module _ (change : Box → Box) (name : List ℕ) where
  pub changed_all : (Q : Box → Type 0) (bs : List Box) (b : Box) → find (is_box name) bs ≡ Some b → All Q bs → Q (change b) → All Q (at_box change name bs)
  changed_all Q [] b is all new = all
  changed_all Q (c ∷ bs) b is all new = by (same_name c.name name) is (λ q. changed_all Q bs b q (All-tail Q c bs all) new)
    where
      by : (y : Bool) → cond y (Some c) (find (is_box name) bs) ≡ Some b → (find (is_box name) bs ≡ Some b → All Q (at_box change name bs)) → All Q (cond y (change c ∷ bs) (c ∷ at_box change name bs))
      by true q on = All-cons Q (change c) bs (subst (λ (x : Box). Q (change x)) (sym (first c b q)) new) (All-tail Q c bs all)
      by false q on = All-cons Q c (at_box change name bs) (All-head Q c bs all) (on q)

  pub changed_names : ((b : Box) → (change b).name ≡ b.name) → (bs : List Box) → names_of (at_box change name bs) ≡ names_of bs
  changed_names same [] = refl
  changed_names same (c ∷ bs) = by (same_name c.name name) (changed_names same bs)
    where
      by : (y : Bool) → names_of (at_box change name bs) ≡ names_of bs → names_of (cond y (change c ∷ bs) (c ∷ at_box change name bs)) ≡ c.name ∷ names_of bs
      by true on = ap (λ (n : List ℕ). n ∷ names_of bs) (same c)
      by false on = ap (λ (ns : List (List ℕ)). c.name ∷ ns) on

  -- with some that leave and some that come
  pub changed_times : (j gone come : ℕ) (bs : List Box) (b : Box) → find (is_box name) bs ≡ Some b → times j (change b).waits + gone ≡ times j b.waits + come
      → times_waiting j (at_box change name bs) + gone ≡ times_waiting j bs + come
  changed_times j gone come [] b is e = absurd cc
  changed_times j gone come (c ∷ bs) b is e = by (same_name c.name name) is (λ q. changed_times j gone come bs b q e)
    where
      by : (y : Bool) → cond y (Some c) (find (is_box name) bs) ≡ Some b → (find (is_box name) bs ≡ Some b → times_waiting j (at_box change name bs) + gone ≡ times_waiting j bs + come)
          → times_waiting j (cond y (change c ∷ bs) (c ∷ at_box change name bs)) + gone ≡ times j c.waits + times_waiting j bs + come
      by true q on =
          let here : times j (change c).waits + gone ≡ times j c.waits + come = subst (λ (x : Box). times j (change x).waits + gone ≡ times j x.waits + come) (sym (first c b q)) e in
          omega (arith, here)
      by false q on = let h = on q in omega (arith, h)

-- ---- who waits at one of them

-- A program waits at a mailbox of this name.
pub record WaitsSome (tellers : List Teller) (j : ℕ) : Type 0 where
  pub name : List ℕ
  pub there : WaitsThere tellers name j

pub split : (a b : ℕ) → 0 < a + b → (0 < a) ⊎ ((a ≡ 0) × (0 < b))
split zero b h = inr (refl, omega (arith, h))
split (suc a) b h = inl (omega arith)

waiter_in : (tellers : List Teller) (name : List ℕ) (j : ℕ) (ks : List ℕ) → All (WaitsThere tellers name) ks → 0 < times j ks → WaitsThere tellers name j
waiter_in tellers name j [] all h = absurd (omega (arith, h))
waiter_in tellers name j (k ∷ ks) all h = by (nat_eq j k) refl h (waiter_in tellers name j ks (All-tail (WaitsThere tellers name) k ks all))
  where
    by : (y : Bool) → nat_eq j k ≡ y → 0 < one_where y + times j ks → (0 < times j ks → WaitsThere tellers name j) → WaitsThere tellers name j
    by true e h on = subst (WaitsThere tellers name) (sym (eqb-true j k e)) (All-head (WaitsThere tellers name) k ks all)
    by false e h on = on (omega (arith, h))

pub waiter : (tellers : List Teller) (j : ℕ) (bs : List Box) → AllWaitThere tellers bs → 0 < times_waiting j bs → WaitsSome tellers j
waiter tellers j [] all h = absurd (omega (arith, h))
waiter tellers j (b ∷ bs) all h = by (split (times j b.waits) (times_waiting j bs) h) (waiter tellers j bs (All-tail (λ (b : Box). All (WaitsThere tellers b.name) b.waits) b bs all))
  where
    Q : Box → Type 0
    Q b = All (WaitsThere tellers b.name) b.waits

    by : (0 < times j b.waits) ⊎ ((times j b.waits ≡ 0) × (0 < times_waiting j bs)) → (0 < times_waiting j bs → WaitsSome tellers j) → WaitsSome tellers j
    by (inl some) on = record { name = b.name; there = waiter_in tellers b.name j b.waits (All-head Q b bs all) some }
    by (inr later) on = on later.1

module _ (tellers tellers' : List Teller) where
  moved_in : (name : List ℕ) (ks : List ℕ) → ((j : ℕ) → 0 < times j ks → WaitsThere tellers name j → WaitsThere tellers' name j) → All (WaitsThere tellers name) ks
      → All (WaitsThere tellers' name) ks
  moved_in name [] moves all = All-nil (WaitsThere tellers' name)
  moved_in name (k ∷ ks) moves all =
      All-cons (WaitsThere tellers' name) k ks
      (moves k (let e = once_itself k in omega (arith, e)) (All-head (WaitsThere tellers name) k ks all))
      (moved_in name ks (λ j h w. moves j (omega (arith, h)) w) (All-tail (WaitsThere tellers name) k ks all))

  -- where all that wait are told otherwise
  pub moved : (bs : List Box) → ((j : ℕ) (name : List ℕ) → 0 < times_waiting j bs → WaitsThere tellers name j → WaitsThere tellers' name j) → AllWaitThere tellers bs → AllWaitThere tellers' bs
  moved [] moves all = All-nil (λ (b : Box). All (WaitsThere tellers' b.name) b.waits)
  moved (b ∷ bs) moves all =
      All-cons (λ (b : Box). All (WaitsThere tellers' b.name) b.waits) b bs
      (moved_in b.name b.waits (λ j h w. moves j b.name (omega (arith, h)) w) (All-head (λ (b : Box). All (WaitsThere tellers b.name) b.waits) b bs all))
      (moved bs (λ j name h w. moves j name (omega (arith, h)) w) (All-tail (λ (b : Box). All (WaitsThere tellers b.name) b.waits) b bs all))
