-- Items one after another, whatever the grammar.
use Rattle.std.proofs.Common.{◌≡◌, ℕ, ◌+◌, ◌<◌, ◌≤◌, ◌⊎◌, List, [], ◌∷◌, ◌++◌, Option, Some, None, refl, ap, sym, ◌∙◌, subst, arith, add-zero, append_assoc, append-nil, length}
use Rattle.std.proofs.Common.{length-append, Bool, true, false, inl, inr, cond, nat_eq, eqb-true}
use Rattle.wa_types.specs.Begun.{Goal, until, IsItem, IsPart, wants, Steps, Leads, arrived, item, BegunFrom, ends, part, then, Inside, IsBefore, end_of, open_ended, must, must_not_before}
use Rattle.wa_types.specs.Begun.{closing, passed, settled, next, head, rest, content, where_true, name_of, some_of, some_types, some_imports, some_functions, some_tables, some_memories}
use Rattle.wa_types.specs.Begun.{some_globals, some_exports, some_elements, some_bodies, some_segments}
use Rattle.file_laws.proofs.Items.{item_front, part_front, item_some, item_whole, one_item, meet, same_cut, place_of, some_left}

chosen : {A : Type 0} → (b : Bool) (x y z : A) → cond b x y ≡ z → ((b ≡ true) × (x ≡ z)) ⊎ ((b ≡ false) × (y ≡ z))
chosen true x y z e = inl (refl, e)
chosen false x y z e = inr (refl, e)

pub some_same : (a b : List Goal) (o : Option (List Goal)) → o ≡ Some a → o ≡ Some b → a ≡ b
some_same a b o e f = cc

pub not_none : (hs : List Goal) → None ≡ Some hs → ⊥
not_none hs e = cc

-- one way to step
pub one_step : (g : Goal) (gs : List Goal) (v at : ℕ) (hs ks : List Goal) → Steps g gs v at hs → Steps g gs v at ks → hs ≡ ks
one_step g gs v at hs ks s t =
    some_same hs ks _ s.settles (ap (λ z. settled at (z ++ gs)) (some_same _ _ _ s.pushed t.pushed) ∙ t.settles)

-- what leads somewhere and goes on well there is begun
pub leads_on : (at : ℕ) (gs : List Goal) (a : List ℕ) (hs : List Goal) → Leads at gs a hs → (b : List ℕ) → BegunFrom (at + length a) hs b → BegunFrom at gs (a ++ b)
leads_on at gs [] hs arrived b h = subst (λ n. BegunFrom n gs b) (add-zero at) h
leads_on at (g ∷ gs) a hs (item c d v ks e i s l) b h =
    then c (d ++ b) v ks (ap (λ t. t ++ b) e ∙ append_assoc c d b) i s
    (leads_on (at + length c) ks d hs l b (subst (λ n. BegunFrom n hs b) (place_of at a c d e) h))

-- and nothing else is
pub leads_only : (at : ℕ) (gs : List Goal) (a : List ℕ) (hs : List Goal) → Leads at gs a hs → (b c : List ℕ) → BegunFrom at gs c → c ≡ a ++ b → BegunFrom (at + length a) hs b
leads_only at gs [] hs arrived b c h e = subst (λ n. BegunFrom n gs b) (sym (add-zero at)) (subst (λ t. BegunFrom at gs t) e h)
leads_only at (g ∷ gs) a hs (item p q v ks e i s l) b c (part short inside) f =
    absurd (item_whole (wants g) p (q ++ b) v i (subst (IsPart (wants g)) (f ∙ ap (λ t. t ++ b) e ∙ append_assoc p q b) short))
leads_only at (g ∷ gs) a hs (item p q v ks e i s l) b c (then x y w js ee j t k) f =
    let cut : p ++ (q ++ b) ≡ x ++ y = sym (f ∙ ap (λ t. t ++ b) e ∙ append_assoc p q b) ∙ ee in
    let one = one_item (wants g) p (q ++ b) x y v w i j cut in
    let two = same_cut p (q ++ b) x y cut one.1 in
    let near : Steps g gs v (at + length p) js =
    subst (λ u. Steps g gs u (at + length p) js) (sym one.0) (subst (λ n. Steps g gs w (at + n) js) (sym one.1) t) in
    let js-ks : js ≡ ks = one_step g gs v (at + length p) js ks near s in
    let there : BegunFrom (at + length p) ks (q ++ b) =
    subst (λ z. BegunFrom (at + length p) z (q ++ b)) js-ks (subst (λ z. BegunFrom (at + length p) js z) (sym two.1) (subst (λ n. BegunFrom (at + n) js y) (sym one.1) k)) in
    subst (λ n. BegunFrom n hs b) (sym (place_of at a p q e)) (leads_only (at + length p) ks q hs l b (q ++ b) there refl)

-- one more item
pub leads_more : (at : ℕ) (gs : List Goal) (a : List ℕ) (g : Goal) (hs ks : List Goal) → Leads at gs a (g ∷ hs) → (b : List ℕ) (v : ℕ) → IsItem (wants g) b v
    → Steps g hs v (at + length a + length b) ks → Leads at gs (a ++ b) ks
leads_more at gs [] g hs ks arrived b v h s =
    item b [] v ks (sym (append-nil b)) h (subst (λ n. Steps g hs v (n + length b) ks) (add-zero at) s) arrived
leads_more at (f ∷ gs) a g hs ks (item p q w js e i t l) b v h s =
    item p (q ++ b) w js (ap (λ t. t ++ b) e ∙ append_assoc p q b) i t
    (leads_more (at + length p) js q g hs ks l b v h (subst (λ n. Steps g hs v (n + length b) ks) (place_of at a p q e) s))

-- what leads farther leads on from there
pub leads_through : (at : ℕ) (gs : List Goal) (a : List ℕ) (hs : List Goal) → Leads at gs a hs → (b c : List ℕ) (rs : List Goal) → Leads at gs c rs → c ≡ a ++ b → Leads (at + length a) hs b rs
leads_through at gs [] hs arrived b c rs h e = subst (λ n. Leads n gs b rs) (sym (add-zero at)) (subst (λ t. Leads at gs t rs) e h)
leads_through at (g ∷ gs) a hs (item p q v ks e i s l) b [] rs arrived f =
    absurd (omega (arith, item_some (wants g) p v i, ap length f, ap length e, length-append p q, length-append a b))
leads_through at (g ∷ gs) a hs (item p q v ks e i s l) b c rs (item x y w js ee j t k) f =
    let cut : p ++ (q ++ b) ≡ x ++ y = sym (f ∙ ap (λ t. t ++ b) e ∙ append_assoc p q b) ∙ ee in
    let one = one_item (wants g) p (q ++ b) x y v w i j cut in
    let two = same_cut p (q ++ b) x y cut one.1 in
    let near : Steps g gs v (at + length p) js =
    subst (λ u. Steps g gs u (at + length p) js) (sym one.0) (subst (λ n. Steps g gs w (at + n) js) (sym one.1) t) in
    let js-ks : js ≡ ks = one_step g gs v (at + length p) js ks near s in
    let there : Leads (at + length p) ks (q ++ b) rs =
    subst (λ z. Leads (at + length p) z (q ++ b) rs) js-ks (subst (λ z. Leads (at + length p) js z rs) (sym two.1) (subst (λ n. Leads (at + n) js y rs) (sym one.1) k)) in
    subst (λ n. Leads n hs b rs) (sym (place_of at a p q e)) (leads_through (at + length p) ks q hs l b (q ++ b) rs there refl)

before_less : (o : Option ℕ) (j k : ℕ) → j ≤ k → IsBefore k o → IsBefore j o
before_less None j k h b = tt
before_less (Some e) j k h b = omega arith

pub inside_less : (gs : List Goal) (j k : ℕ) → j ≤ k → Inside k gs → Inside j gs
unfolding Inside
inside_less [] j k h i = tt
inside_less (g ∷ gs) j k h i = (before_less (end_of g) j k h i.0, inside_less gs j k h i.1)

pub append_inside : (k : ℕ) (new gs : List Goal) → Inside k (new ++ gs) → Inside k gs
unfolding Inside
append_inside k [] gs i = i
append_inside k (g ∷ new) gs i = append_inside k new gs i.1

-- how a goal closes is what its end is
data Closes (g : Goal) : Type 0 where
  stays : closing g ≡ open_ended → Closes g
  closes : (e : ℕ) → closing g ≡ must e → end_of g ≡ Some e → Closes g
  may_close : (e : ℕ) → closing g ≡ must_not_before e → end_of g ≡ Some e → Closes g

closes_of : (g : Goal) → Closes g
closes_of (until e) = closes e refl refl
closes_of (rest e) = may_close e refl refl
closes_of _ = stays refl

settled_now : (at k e : ℕ) (o : Option ℕ) (gs hs : List Goal) (g : Goal) → o ≡ Some e → settled at gs ≡ Some hs → (settled at gs ≡ Some hs → Inside k gs) → k < at → at ≡ e → IsBefore k o × Inside k gs
settled_now at k e o gs hs g end s more h same = (rw end (omega (arith, h, same)), more s)

-- before the place where goals are settled no content ends
pub settled_inside : (at k : ℕ) (gs hs : List Goal) → settled at gs ≡ Some hs → Inside at hs → k < at → Inside k gs
unfolding Inside settled
settled_inside at k [] hs e i h = tt
settled_inside at k (g ∷ gs) hs e i h =
    let stay : Some (g ∷ gs) ≡ Some hs → IsBefore k (end_of g) × Inside k gs = λ f. inside_less (g ∷ gs) k at (omega arith) (subst (Inside at) (sym (some_same (g ∷ gs) hs _ refl f)) i) in
    let more : settled at gs ≡ Some hs → Inside k gs = λ r. settled_inside at k gs hs r i h in
    elim (closes_of g) [
      | stays c ↦ stay (rw c at e)
      | closes z c f ↦ elim (chosen (nat_eq at z) _ _ _ (let p : passed at (must z) (settled at gs) (Some (g ∷ gs)) ≡ Some hs = rw c at e in p)) [
        | inl now ↦ settled_now at k z (end_of g) gs hs g f now.1 more h (eqb-true _ _ now.0)
        | inr past ↦ absurd (not_none hs past.1)
      ]
      | may_close z c f ↦ elim (chosen (nat_eq at z) _ _ _ (let p : passed at (must_not_before z) (settled at gs) (Some (g ∷ gs)) ≡ Some hs = rw c at e in p)) [
        | inl now ↦ settled_now at k z (end_of g) gs hs g f now.1 more h (eqb-true _ _ now.0)
        | inr past ↦ stay past.1
      ]
    ]

-- goals that hold an end stand before it
Bounded : (end : ℕ) → Option (List Goal) → Type 0
Bounded end o = (hs : List Goal) → o ≡ Some hs → (k : ℕ) (gs : List Goal) → Inside k (hs ++ gs) → k < end

either : (P : Option (List Goal) → Type 0) (b : Bool) (x y : Option (List Goal)) → P x → P y → P (cond b x y)
either P true x y p q = p
either P false x y p q = q

holds_until : (end k : ℕ) (xs ys gs : List Goal) → Inside k ((xs ++ until end ∷ ys) ++ gs) → k < end
unfolding Inside
holds_until end k [] ys gs i = i.0
holds_until end k (x ∷ xs) ys gs i = holds_until end k xs ys gs i.1

holds_rest : (end k : ℕ) (xs ys gs : List Goal) → Inside k ((xs ++ rest end ∷ ys) ++ gs) → k < end
unfolding Inside
holds_rest end k [] ys gs i = i.0
holds_rest end k (x ∷ xs) ys gs i = holds_rest end k xs ys gs i.1

with_until : (end : ℕ) (xs ys : List Goal) → Bounded end (Some (xs ++ until end ∷ ys))
unfolding Bounded
with_until end xs ys hs e k gs i = holds_until end k xs ys gs (subst (λ z. Inside k (z ++ gs)) (sym (some_same (xs ++ until end ∷ ys) hs _ refl e)) i)

with_rest : (end : ℕ) (xs ys : List Goal) → Bounded end (Some (xs ++ rest end ∷ ys))
unfolding Bounded
with_rest end xs ys hs e k gs i = holds_rest end k xs ys gs (subst (λ z. Inside k (z ++ gs)) (sym (some_same (xs ++ rest end ∷ ys) hs _ refl e)) i)

with_none : (end : ℕ) → Bounded end None
unfolding Bounded
with_none end hs e k gs i = absurd (not_none hs e)

where_until : (end : ℕ) (b : Bool) (xs ys : List Goal) → Bounded end (where_true b (xs ++ until end ∷ ys))
where_until end true xs ys = with_until end xs ys
where_until end false xs ys = with_none end

content_bounded : (id end last owed v : ℕ) → Bounded end (content id end last owed v)
content_bounded id end last owed v =
    let P : Option (List Goal) → Type 0 = Bounded end in
    either P (nat_eq id 0) _ _ (with_rest end (name_of v) _)
    (either P (nat_eq id 1) _ _ (with_until end (some_of some_types v) _)
    (either P (nat_eq id 2) _ _ (with_until end (some_of some_imports v) _)
    (either P (nat_eq id 3) _ _ (with_until end (some_of some_functions v) _)
    (either P (nat_eq id 4) _ _ (with_until end (some_of some_tables v) _)
    (either P (nat_eq id 5) _ _ (with_until end (some_of some_memories v) _)
    (either P (nat_eq id 6) _ _ (with_until end (some_of some_globals v) _)
    (either P (nat_eq id 7) _ _ (with_until end (some_of some_exports v) _)
    (either P (nat_eq id 8) _ _ (with_until end [] _)
    (either P (nat_eq id 9) _ _ (with_until end (some_of some_elements v) _)
    (either P (nat_eq id 10) _ _ (where_until end (nat_eq v owed) (some_of some_bodies v) _)
    (either P (nat_eq id 11) _ _ (with_until end (some_of some_segments v) _) (with_none end))))))))))))

-- an item of a goal with an end stands before it
next_before : (g : Goal) (gs : List Goal) (v at k : ℕ) (hs : List Goal) → next g v at ≡ Some hs → Inside k (hs ++ gs) → IsBefore k (end_of g)
unfolding next Bounded
next_before (until e) gs v at k hs f i = absurd (not_none hs f)
next_before (rest e) gs v at k hs f i = holds_rest e k [] [] gs (subst (λ z. Inside k (z ++ gs)) (sym (some_same (rest e ∷ []) hs _ refl f)) i)
next_before (head id e last owed) gs v at k hs f i = content_bounded id e last owed v hs f k gs i
next_before _ gs v at k hs f i = tt

-- before the end of an item no content ends
pub steps_inside : (g : Goal) (gs : List Goal) (v at k : ℕ) (hs : List Goal) → Steps g gs v at hs → k < at → Inside k (g ∷ gs)
unfolding Inside
steps_inside g gs v at k hs s h =
    let i = settled_inside at k (s.new ++ gs) hs s.settles s.inside h in
    (next_before g gs v at k s.new s.pushed i, append_inside k s.new gs i)

-- each beginning is begun
pub begun_front : (at : ℕ) (gs : List Goal) (bytes : List ℕ) → BegunFrom at gs bytes → (a b : List ℕ) → bytes ≡ a ++ b → BegunFrom at gs a
begun_front at [] [] ends [] b e = ends
begun_front at [] [] ends (x ∷ a) b e = absurd (cc)
begun_front at [] (x ∷ xs) h a b e = elim h [ ]
begun_front at (g ∷ gs) bytes (part short inside) a b e =
    part (part_front (wants g) a b (subst (IsPart (wants g)) e short))
    (inside_less (g ∷ gs) (at + length a) (at + length bytes) (omega (arith, ap length e, length-append a b)) inside)
begun_front at (g ∷ gs) bytes (then c d v ks e i s k) a b f =
    elim (meet a b c d (sym f ∙ e)) [
      | inl m ↦ elim (some_left m.0) [
        | inl empty ↦ then c [] v ks (sym (m.1 ∙ ap (λ t. a ++ t) empty ∙ append-nil a) ∙ sym (append-nil c)) i s (begun_front (at + length c) ks d k [] d refl)
        | inr some ↦ part (item_front (wants g) a m.0 v (subst (λ t. IsItem (wants g) t v) m.1 i) some)
            (steps_inside g gs v (at + length c) (at + length a) ks s (omega (arith, ap length m.1, length-append a m.0)))
      ]
      | inr m ↦ then c m.0 v ks m.2 i s (begun_front (at + length c) ks d k m.0 b m.3)
    ]
