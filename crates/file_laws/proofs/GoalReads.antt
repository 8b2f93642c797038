-- From goals on, bytes lead to the end of a file. A goal reads what a spelling says where these are the same.
use Rattle.std.proofs.Common.{◌≡◌, ℕ, ◌+◌, List, [], ◌∷◌, ◌++◌, Option, Some, None, refl, ap, sym, ◌∙◌, subst, arith, add-zero, append_assoc, length, length-append, Bool, true, false, cond}
use Rattle.std.proofs.Common.{nat_eq, eqb-true, IsTrue}
use Rattle.wa_types.specs.Begun.{Goal, sections, until, Item, IsItem, wants, Steps, Leads, arrived, item, Inside, open_ended, closing, settled, next, where_true}
use Rattle.wa_types.specs.Spells.{◌▸◌, Exactly}
use Rattle.file_laws.proofs.Items.{item_some, place_of}
use Rattle.file_laws.proofs.Runs.{some_same, not_none, steps_inside}

-- From these goals, settled at this place, the bytes lead to the end of a file.
pub record Goes (gs : List Goal) (last at : ℕ) (bytes : List ℕ) : Type 0 where
  pub left : List Goal
  pub settles : settled at gs ≡ Some left
  pub inside : Inside at left
  pub leads : Leads at left bytes (sections last 0 ∷ [])

-- an item of the first goal, and what goes on behind it
pub record First (g : Goal) (gs : List Goal) (last at : ℕ) (bytes : List ℕ) : Type 0 where
  pub front : List ℕ
  pub back : List ℕ
  pub value : ℕ
  pub new : List Goal
  pub whole : bytes ≡ front ++ back
  pub is_item : IsItem (wants g) front value
  pub pushed : next g value (at + length front) ≡ Some new
  pub goes : Goes (new ++ gs) last (at + length front) back

abbrev pub is_sections : Goal → Bool
is_sections (sections last owed) = true
is_sections _ = false

stands : (at : ℕ) (g : Goal) (gs : List Goal) → closing g ≡ open_ended → settled at (g ∷ gs) ≡ Some (g ∷ gs)
unfolding settled
stands at g gs e = rw e refl

pub first_item : (g : Goal) (gs : List Goal) (last at : ℕ) (bytes : List ℕ) (hs : List Goal) → hs ≡ sections last 0 ∷ [] → is_sections g ≡ false → Leads at (g ∷ gs) bytes hs → First g gs last at bytes
first_item g gs last at bytes hs e o arrived = absurd (let p : g ≡ sections last 0 = cc in let q : true ≡ false = sym (ap is_sections p) ∙ o in cc)
first_item g gs last at bytes hs e o (item a b v ks f i s l) = record {
  front = a;
  back = b;
  value = v;
  new = s.new;
  whole = f;
  is_item = i;
  pushed = s.pushed;
  goes = record { left = ks; settles = s.settles; inside = s.inside; leads = subst (λ z. Leads (at + length a) ks b z) e l };
}

pub takes_one : (g : Goal) (gs : List Goal) (last at : ℕ) (bytes : List ℕ) → closing g ≡ open_ended → is_sections g ≡ false → Goes (g ∷ gs) last at bytes → First g gs last at bytes
takes_one g gs last at bytes c o h =
    let same : h.left ≡ g ∷ gs = some_same h.left (g ∷ gs) _ h.settles (stands at g gs c) in
    first_item g gs last at bytes (sections last 0 ∷ []) refl o (subst (λ z. Leads at z bytes (sections last 0 ∷ [])) same h.leads)

pub leads_one : (g : Goal) (gs : List Goal) (last at : ℕ) (bytes : List ℕ) → First g gs last at bytes → Leads at (g ∷ gs) bytes (sections last 0 ∷ []) × Inside at (g ∷ gs)
leads_one g gs last at bytes f =
    let s : Steps g gs f.value (at + length f.front) f.goes.left = record { new = f.new; pushed = f.pushed; settles = f.goes.settles; inside = f.goes.inside } in (
      item f.front f.back f.value f.goes.left f.whole f.is_item s f.goes.leads,
      steps_inside g gs f.value (at + length f.front) at f.goes.left s (omega (arith, item_some (wants g) f.front f.value f.is_item)),
    )

pub gives_one : (g : Goal) (gs : List Goal) (last at : ℕ) (bytes : List ℕ) → closing g ≡ open_ended → First g gs last at bytes → Goes (g ∷ gs) last at bytes
gives_one g gs last at bytes c f =
    let l = leads_one g gs last at bytes f in
    record { left = g ∷ gs; settles = stands at g gs c; inside = l.1; leads = l.0 }

-- parts and what goes on behind them
module _ (F G H : ℕ → List ℕ → Type 0) (at : ℕ) (bytes : List ℕ) where
  pub to_left : (F ▸ (G ▸ H)) at bytes → ((F ▸ G) ▸ H) at bytes
  to_left h =
      let t = h.4 in (
        h.0 ++ t.0,
        t.1,
        h.2 ∙ ap (λ z. h.0 ++ z) t.2 ∙ sym (append_assoc h.0 t.0 t.1),
        (h.0, t.0, refl, h.3, t.3),
        subst (λ n. H n t.1) (omega (arith, length-append h.0 t.0)) t.4,
      )

  pub to_right : ((F ▸ G) ▸ H) at bytes → (F ▸ (G ▸ H)) at bytes
  to_right h =
      let t = h.3 in (
        t.0,
        t.1 ++ h.1,
        h.2 ∙ ap (λ z. z ++ h.1) t.2 ∙ append_assoc t.0 t.1 h.1,
        t.3,
        (t.1, h.1, refl, t.4, subst (λ n. H n h.1) (place_of at h.0 t.0 t.1 t.2) h.4),
      )

  pub on_right : ((k : ℕ) (b : List ℕ) → G k b → H k b) → (F ▸ G) at bytes → (F ▸ H) at bytes
  on_right f h = (h.0, h.1, h.2, h.3, f (at + length h.0) h.1 h.4)

  pub on_left : ((a : List ℕ) → F at a → G at a) → (F ▸ H) at bytes → (G ▸ H) at bytes
  on_left f h = (h.0, h.1, h.2, f h.0 h.3, h.4)

-- one of these, whichever
abbrev pub Any : {X : Type 0} → (X → ℕ → List ℕ → Type 0) → ℕ → List ℕ → Type 0
Any {X} f at bytes = (x : X) × f x at bytes

-- The goals read what the spelling says: they lead on exactly where it stands at the front.
pub record Reads (gs : List Goal) (F : ℕ → List ℕ → Type 0) : Type 0 where
  pub sound : (more : List Goal) (last at : ℕ) (bytes : List ℕ) → Goes (gs ++ more) last at bytes → (F ▸ Goes more last) at bytes
  pub complete : (more : List Goal) (last at : ℕ) (bytes : List ℕ) → (F ▸ Goes more last) at bytes → Goes (gs ++ more) last at bytes

pub reads_none : Reads [] (Exactly [])
reads_none = record {
  sound = λ more last at bytes h. ([], bytes, refl, refl, subst (λ n. Goes more last n bytes) (sym (add-zero at)) h);
  complete = λ more last at bytes h.
      let none : at + length h.0 ≡ at = omega (arith, ap length h.3) in
      subst (Goes more last at) (sym (h.2 ∙ ap (λ z. z ++ h.1) h.3)) (subst (λ n. Goes more last n h.1) none h.4);
}

pub reads_then : (g : Goal) (gs : List Goal) (F G : ℕ → List ℕ → Type 0) → Reads (g ∷ []) F → Reads gs G → Reads (g ∷ gs) (F ▸ G)
reads_then g gs F G r s = record {
  sound = λ more last at bytes h.
      to_left F G (Goes more last) at bytes
      (on_right F (Goes (gs ++ more) last) (G ▸ Goes more last) at bytes (λ k b w. s.sound more last k b w) (r.sound (gs ++ more) last at bytes h));
  complete = λ more last at bytes h.
      r.complete (gs ++ more) last at bytes
      (on_right F (G ▸ Goes more last) (Goes (gs ++ more) last) at bytes (λ k b w. s.complete more last k b w) (to_right F G (Goes more last) at bytes h));
}

pub reads_as : (gs : List Goal) (F G : ℕ → List ℕ → Type 0) → ((at : ℕ) (a : List ℕ) → F at a → G at a) → ((at : ℕ) (a : List ℕ) → G at a → F at a) → Reads gs F → Reads gs G
reads_as gs F G to from r = record {
  sound = λ more last at bytes h. on_left F G (Goes more last) at bytes (to at) (r.sound more last at bytes h);
  complete = λ more last at bytes h. r.complete more last at bytes (on_left G F (Goes more last) at bytes (from at) h);
}

-- what is put in place of a goal reads so; where it is wrong nothing does
abbrev pub ReadsNext : Option (List Goal) → (ℕ → List ℕ → Type 0) → Type 0
ReadsNext None F = (at : ℕ) (bytes : List ℕ) → F at bytes → ⊥
ReadsNext (Some new) F = Reads new F

sound_next : (o : Option (List Goal)) (new : List Goal) (F : ℕ → List ℕ → Type 0) → o ≡ Some new → ReadsNext o F → Reads new F
sound_next None new F e r = absurd (not_none new e)
sound_next (Some ks) new F e r = subst (λ z. Reads z F) (some_same ks new _ refl e) r

complete_next : (o : Option (List Goal)) (F : ℕ → List ℕ → Type 0) → ReadsNext o F → (at : ℕ) (bytes : List ℕ) → F at bytes → (new : List Goal) × (o ≡ Some new) × Reads new F
complete_next None F r at bytes h = absurd (r at bytes h)
complete_next (Some ks) F r at bytes h = (ks, refl, r)

-- An item of this value, and then what follows it.
pub record Begins (i : Item) (F : (v at : ℕ) → ℕ → List ℕ → Type 0) (at : ℕ) (bytes : List ℕ) : Type 0 where
  pub front : List ℕ
  pub back : List ℕ
  pub value : ℕ
  pub whole : bytes ≡ front ++ back
  pub is_item : IsItem i front value
  pub follows : F value (at + length front) (at + length front) back

-- A goal reads its item, and then what comes in its place.
pub reads_first : (g : Goal) (F : (v at : ℕ) → ℕ → List ℕ → Type 0) → closing g ≡ open_ended → is_sections g ≡ false → ((v at : ℕ) → ReadsNext (next g v at) (F v at))
    → Reads (g ∷ []) (Begins (wants g) F)
reads_first g F c o r = record {
  sound = λ more last at bytes h.
      let f = takes_one g more last at bytes c o h in
      let s = (sound_next _ f.new (F f.value (at + length f.front)) f.pushed (r f.value (at + length f.front))).sound more last (at + length f.front) f.back f.goes in (
        f.front ++ s.0,
        s.1,
        f.whole ∙ ap (λ z. f.front ++ z) s.2 ∙ sym (append_assoc f.front s.0 s.1),
        record { front = f.front; back = s.0; value = f.value; whole = refl; is_item = f.is_item; follows = s.3 },
        subst (λ n. Goes more last n s.1) (omega (arith, length-append f.front s.0)) s.4,
      );
  complete = λ more last at bytes h.
      let b = h.3 in
      let n = complete_next _ (F b.value (at + length b.front)) (r b.value (at + length b.front)) (at + length b.front) b.back b.follows in
      gives_one g more last at bytes c (record {
        front = b.front;
        back = b.back ++ h.1;
        value = b.value;
        new = n.0;
        whole = h.2 ∙ ap (λ z. z ++ h.1) b.whole ∙ append_assoc b.front b.back h.1;
        is_item = b.is_item;
        pushed = n.1;
        goes = n.2.complete more last (at + length b.front) (b.back ++ h.1)
            (b.back, h.1, refl, b.follows, subst (λ m. Goes more last m h.1) (place_of at h.0 b.front b.back b.whole) h.4);
      });
}

pub next_where : (b : Bool) (new : List Goal) (F : ℕ → List ℕ → Type 0) → Reads new F → ReadsNext (where_true b new) (λ at bytes. IsTrue b × F at bytes)
next_where true new F r = reads_as new F (λ at bytes. IsTrue true × F at bytes) (λ at a h. (refl, h)) (λ at a h. h.1) r
next_where false new F r = λ at bytes h. let e : false ≡ true = h.0 in cc

-- the end of a content
abbrev pub Ends : ℕ → ℕ → List ℕ → Type 0
Ends end at bytes = (at ≡ end) × (bytes ≡ [])

settled_until : (at end : ℕ) (gs hs : List Goal) → settled at (until end ∷ gs) ≡ Some hs → (at ≡ end) × (settled at gs ≡ Some hs)
unfolding settled
settled_until at end gs hs e = by_test (nat_eq at end) refl e where
  by_test : (t : Bool) → nat_eq at end ≡ t → cond t (settled at gs) None ≡ Some hs → (at ≡ end) × (settled at gs ≡ Some hs)
  by_test true f h = (eqb-true _ _ f, h)
  by_test false f h = absurd (not_none hs h)

same_place : (at end : ℕ) → at ≡ end → nat_eq at end ≡ true
same_place at end e = subst (λ z. nat_eq at z ≡ true) e (grind (arith))

until_settled : (at end : ℕ) (gs hs : List Goal) → at ≡ end → settled at gs ≡ Some hs → settled at (until end ∷ gs) ≡ Some hs
unfolding settled
until_settled at end gs hs e s = rw (same_place at end e) s

pub reads_until : (end : ℕ) → Reads (until end ∷ []) (Ends end)
reads_until end = record {
  sound = λ more last at bytes h.
      let s = settled_until at end more h.left h.settles in
      ([], bytes, refl, (s.0, refl), subst (λ n. Goes more last n bytes) (sym (add-zero at)) (record { left = h.left; settles = s.1; inside = h.inside; leads = h.leads }));
  complete = λ more last at bytes h.
      let none : at + length h.0 ≡ at = omega (arith, ap length h.3.1) in
      let g : Goes more last at bytes = subst (Goes more last at) (sym (h.2 ∙ ap (λ z. z ++ h.1) h.3.1)) (subst (λ n. Goes more last n h.1) none h.4) in
      record { left = g.left; settles = until_settled at end more g.left h.3.0 g.settles; inside = g.inside; leads = g.leads };
}
