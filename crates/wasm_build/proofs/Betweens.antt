-- Parts of what a front spells, one behind another.
use Rattle.std.proofs.Common.{◌≡◌, ℕ, suc, ◌+◌, ◌<◌, List, [], ◌∷◌, ◌++◌, map, Result, Ok, Err, refl, ap, sym, ◌∙◌, subst, arith, append_assoc, append-nil, length, length-append}
use Rattle.std.specs.List.{AllZip}
use Rattle.file_laws.proofs.Items.{same_cut}
use Rattle.leb_numbers.specs.Leb.{IsUnsigned}
use Rattle.wa_types.specs.Spells.{◌▸◌, Exactly, Number, Items, Vector}
use Rattle.wasm_grammar.specs.declared.front.NotSpelled.{NotSpelled}
use Rattle.wasm_build.specs.declared.build_types.BuildFault.{BuildFault}
use Rattle.wasm_grammar.specs.Places.{Place, behind, with_more, ReadsNumber}
use Rattle.wasm_build.specs.Builds.{Between, SpelledAs, SpelledBehind, SpelledOnto, IsWant, Gives, Builds}

-- two parts, and the place between them
pub record Parts (P Q : ℕ → List ℕ → Type 0) (from to : Place) : Type 0 where
  pub middle : Place
  pub first : Between P from middle
  pub second : Between Q middle to

pub parts : (P Q : ℕ → List ℕ → Type 0) (from to : Place) → Between (P ▸ Q) from to → Parts P Q from to
parts P Q from to b =
    let h = b.spelled in
    record {
      middle = record { at = from.at + length h.0; left = h.1 ++ to.left };
      first = record {
        front = h.0;
        spelled = h.3;
        left = b.left ∙ ap (λ z. z ++ to.left) h.2 ∙ append_assoc h.0 h.1 to.left;
        place = refl;
      };
      second = record {
        front = h.1;
        spelled = h.4;
        left = refl;
        place = let e = b.place in let f = ap length h.2 in omega (arith, e, f, length-append h.0 h.1);
      };
    }

-- the parts, where the second begins at this place
pub behind_first : (P Q : ℕ → List ℕ → Type 0) (from to new : Place) (k : Parts P Q from to) → new ≡ k.middle → Between Q new to
behind_first P Q from to new k e = subst (λ p. Between Q p to) (sym e) k.second

pub spelled_so : {P Q : ℕ → List ℕ → Type 0} (from to : Place) → ((at : ℕ) (bytes : List ℕ) → P at bytes → Q at bytes) → Between P from to → Between Q from to
spelled_so from to f b = record { front = b.front; spelled = f from.at b.front b.spelled; left = b.left; place = b.place }

-- the same from where the code is
pub from_here : (P : ℕ → List ℕ → Type 0) (from new to : Place) → new ≡ from → Between P from to → Between P new to
from_here P from new to e b = subst (λ p. Between P p to) (sym e) b

here_is : (from to : Place) (front : List ℕ) → to.at ≡ from.at + length front → behind from front to.left ≡ to
here_is from to front e = ap (λ k. record { at = k; left = to.left }) (sym e)

-- a number that is read
pub number_is : (Spells : List ℕ → ℕ → Type 0) (v : ℕ) (old new : Place) (more : List ℕ) (end : Place) (n : ℕ) → ReadsNumber Spells (Ok v) old new
    → Between (λ at bytes. Spells bytes n) (with_more old more) end → (v ≡ n) × (with_more new more ≡ end)
number_is Spells v old new more end n f b =
    let g = f n b.front end.left more b.left b.spelled in (g.0, g.1 ∙ here_is old end b.front b.place)

pub number_fails : (Spells : List ℕ → ℕ → Type 0) (d : NotSpelled) (old new : Place) (more : List ℕ) (end : Place) (n : ℕ) → ReadsNumber Spells (Err d) old new
    → Between (λ at bytes. Spells bytes n) (with_more old more) end → more ≡ [] → ⊥
number_fails Spells d old new more end n f b = f n b.front end.left more b.left b.spelled

-- a byte that is read
pub byte_is : (v k : ℕ) (old new end : Place) → old.left ≡ v ∷ new.left → new.at ≡ old.at + 1 → Between (Exactly (k ∷ [])) old end → (v ≡ k) × (new ≡ end)
byte_is v k old new end e f b =
    let whole : v ∷ new.left ≡ k ∷ end.left = sym e ∙ b.left ∙ ap (λ z. z ++ end.left) b.spelled in
    let left : new.left ≡ end.left = cc in
    let place : new.at ≡ end.at = let g = b.place in let h = ap length b.spelled in omega (arith, f, g, h) in
    ((let p : v ≡ k = cc in p), λ i. record { at = place i; left = left i })

pub no_byte : (k : ℕ) (old end : Place) → old.left ≡ [] → Between (Exactly (k ∷ [])) old end → ⊥
no_byte k old end e b =
    let whole : [] ≡ k ∷ end.left = sym e ∙ b.left ∙ ap (λ z. z ++ end.left) b.spelled in cc

-- the exit of a `?` with this error
pub fails : {A X : Type 0} (view : A → X) (more : List ℕ) (r : Result A BuildFault) (x : X) (new end : Place) (d y : BuildFault) → r ≡ Err y → y ≡ d → IsWant more d → Gives view more r x new end
fails view more r x new end d y e f g = let P : Result _ BuildFault → Type 0 = λ q. Gives view more q x new end in subst P (sym e) (λ none. f ∙ g none)

-- the same where nothing was to be read unless more bytes follow
pub lacks : {A X : Type 0} (view : A → X) (more : List ℕ) (r : Result A BuildFault) (x : X) (new end : Place) (y : BuildFault) → r ≡ Err y → (more ≡ [] → ⊥) → Gives view more r x new end
lacks view more r x new end y e f = fails view more r x new end y y e refl (λ none. absurd (f none))

-- These are read of the list, and the rest of it is spelled from here on.
pub record Going {A X : Type 0} (view : A → X) (Spelled : X → ℕ → List ℕ → Type 0) (count : ℕ) (got : List A) (here end : Place) (xs : List X) : Type 0 where
  pub counted : count ≡ length xs
  pub rest : List X
  pub whole : map view got ++ rest ≡ xs
  pub between : Between (Items Spelled rest) here end

-- For whatever vector is spelled, these are read of it.
pub record Keeps {A X : Type 0} (view : A → X) (Spelled : X → ℕ → List ℕ → Type 0) (count : ℕ) (old : Place) (got : List A) (here : Place) : Type 0 where
  pub going : (more : List ℕ) (xs : List X) (end : Place) → Between (Vector Spelled xs) (with_more old more) end → Going view Spelled count got (with_more here more) end xs

pub keeps_none : {A X : Type 0} (view : A → X) (Spelled : X → ℕ → List ℕ → Type 0) (count : ℕ) (old new : Place) (got : List A) → ReadsNumber (IsUnsigned 32) (Ok count) old new → got ≡ []
    → Keeps view Spelled count old got new
keeps_none view Spelled count old new got f e = record {
  going = λ more xs end b.
      let k = parts (Number (length xs)) (Items Spelled xs) (with_more old more) end b in
      let n = number_is (IsUnsigned 32) count old new more k.middle (length xs) f k.first in
      record {
        counted = n.0;
        rest = xs;
        whole = ap (λ s. map view s ++ xs) e;
        between = behind_first _ _ (with_more old more) end (with_more new more) k n.1;
      };
}

map_length : {A X : Type 0} (view : A → X) (s : List A) → length (map view s) ≡ length s
map_length view [] = refl
map_length view (x ∷ s) = ap suc (map_length view s)

pub map_append : {A X : Type 0} (view : A → X) (s t : List A) → map view (s ++ t) ≡ map view s ++ map view t
map_append view [] t = refl
map_append view (x ∷ s) t = ap (λ z. view x ∷ z) (map_append view s t)

-- the item that comes next
pub record NextEntry {A X : Type 0} (view : A → X) (Spelled : X → ℕ → List ℕ → Type 0) (got : List A) (here end : Place) (xs : List X) : Type 0 where
  pub item : X
  pub more : List X
  pub whole : map view got ++ item ∷ more ≡ xs
  pub middle : Place
  pub first : Between (Spelled item) here middle
  pub others : Between (Items Spelled more) middle end

next_of : {A X : Type 0} (view : A → X) (Spelled : X → ℕ → List ℕ → Type 0) (got : List A) (here end : Place) (xs rest : List X) → map view got ++ rest ≡ xs
    → Between (Items Spelled rest) here end → length got < length xs → NextEntry view Spelled got here end xs
next_of view Spelled got here end xs [] e b k =
    absurd (let n : length (map view got) + 0 ≡ length xs = sym (length-append (map view got) []) ∙ ap length e in omega (arith, map_length view got, n))
next_of view Spelled got here end xs (x ∷ more) e b k =
    let p = parts (Spelled x) (Items Spelled more) here end b in
    record { item = x; more = more; whole = e; middle = p.middle; first = p.first; others = p.second }

next : {A X : Type 0} (view : A → X) (Spelled : X → ℕ → List ℕ → Type 0) (count : ℕ) (got : List A) (here end : Place) (xs : List X) → Going view Spelled count got here end xs
    → length got < count → NextEntry view Spelled got here end xs
next view Spelled count got here end xs g k = next_of view Spelled got here end xs g.rest g.whole g.between (let c = g.counted in omega (arith, c, k))

pub keeps_more : {A X : Type 0} (view : A → X) (Spelled : X → ℕ → List ℕ → Type 0) (count : ℕ) (old here new : Place) (got more : List A) (a : A) → Keeps view Spelled count old got here
    → length got < count → Builds view Spelled (Ok a) here new → more ≡ got ++ a ∷ [] → Keeps view Spelled count old more new
keeps_more view Spelled count old here new got more a k some read f = record {
  going = λ tail xs end b.
      let g = k.going tail xs end b in
      let n = next view Spelled count got (with_more here tail) end xs g some in
      let r = read.built tail n.item n.middle n.first in
      record {
        counted = g.counted;
        rest = n.more;
        whole = ap (λ s. map view s ++ n.more) f ∙ ap (λ s. s ++ n.more) (map_append view got (a ∷ [])) ∙ append_assoc (map view got) (view a ∷ []) n.more
            ∙ ap (λ y. map view got ++ y ∷ n.more) r.0 ∙ n.whole;
        between = from_here _ _ _ _ r.1 n.others;
      };
}

pub keeps_stop : {A X : Type 0} (view : A → X) (Spelled : X → ℕ → List ℕ → Type 0) (count : ℕ) (old here new : Place) (got : List A) (d : BuildFault) → Keeps view Spelled count old got here
    → length got < count → Builds view Spelled (Err d) here new → (more : List ℕ) (xs : List X) (end : Place) → Between (Vector Spelled xs) (with_more old more) end → IsWant more d
keeps_stop view Spelled count old here new got d k some read more xs end b =
    let n = next view Spelled count got (with_more here more) end xs (k.going more xs end b) some in
    read.built more n.item n.middle n.first

ends_of : {A X : Type 0} (view : A → X) (Spelled : X → ℕ → List ℕ → Type 0) (got : List A) (here end : Place) (xs rest : List X) → map view got ++ rest ≡ xs
    → Between (Items Spelled rest) here end → length got ≡ length xs → (map view got ≡ xs) × (here ≡ end)
ends_of view Spelled got here end xs [] e b k =
    let left : here.left ≡ end.left = b.left ∙ ap (λ z. z ++ end.left) b.spelled in
    let place : here.at ≡ end.at = let g = b.place in let h = ap length b.spelled in omega (arith, g, h) in
    (sym (append-nil (map view got)) ∙ e, λ i. record { at = place i; left = left i })
ends_of view Spelled got here end xs (x ∷ more) e b k =
    absurd (let n : length (map view got) + suc (length more) ≡ length xs = sym (length-append (map view got) (x ∷ more)) ∙ ap length e in omega (arith, map_length view got, n))

-- all of them are read
pub keeps_all : {A X : Type 0} (view : A → X) (Spelled : X → ℕ → List ℕ → Type 0) (count : ℕ) (old here : Place) (got : List A) → Keeps view Spelled count old got here → length got ≡ count
    → (more : List ℕ) (xs : List X) (end : Place) → Between (Vector Spelled xs) (with_more old more) end → (map view got ≡ xs) × (with_more here more ≡ end)
keeps_all view Spelled count old here got k whole more xs end b =
    let g = k.going more xs end b in
    ends_of view Spelled got (with_more here more) end xs g.rest g.whole g.between (whole ∙ g.counted)

-- a vector of what the file spells is one of what is left of it
as_items : {R X : Type 0} (Spelled : R → ℕ → List ℕ → Type 0) (Is : R → X → Type 0) (raws : List R) (xs : List X) (at : ℕ) (bytes : List ℕ) → AllZip Is raws xs → Items Spelled raws at bytes
    → Items (SpelledAs Spelled Is) xs at bytes
as_items Spelled Is [] [] at bytes h b = b
as_items Spelled Is [] (x ∷ xs) at bytes h b = absurd h
as_items Spelled Is (r ∷ raws) [] at bytes h b = absurd h
as_items Spelled Is (r ∷ raws) (x ∷ xs) at bytes h b = (b.0, b.1, b.2, (r, h.0, b.3), as_items Spelled Is raws xs (at + length b.0) b.1 h.1 b.4)

each_length : {R X : Type 0} (Is : R → X → Type 0) (raws : List R) (xs : List X) → AllZip Is raws xs → length raws ≡ length xs
each_length Is [] [] h = refl
each_length Is [] (x ∷ xs) h = absurd h
each_length Is (r ∷ raws) [] h = absurd h
each_length Is (r ∷ raws) (x ∷ xs) h = ap suc (each_length Is raws xs h.1)

pub as_vector : {R X : Type 0} (Spelled : R → ℕ → List ℕ → Type 0) (Is : R → X → Type 0) (raws : List R) (xs : List X) (at : ℕ) (bytes : List ℕ) → AllZip Is raws xs
    → Vector Spelled raws at bytes → Vector (SpelledAs Spelled Is) xs at bytes
as_vector Spelled Is raws xs at bytes h b =
    (b.0, b.1, b.2, subst (IsUnsigned 32 b.0) (each_length Is raws xs h) b.3, as_items Spelled Is raws xs (at + length b.0) b.1 h b.4)

-- nothing follows the bytes
no_more : (p : Place) → with_more p [] ≡ p
no_more p = λ i. record { at = p.at; left = append-nil p.left i }

pub built_alone : {A X : Type 0} {view : A → X} {Spelled : X → ℕ → List ℕ → Type 0} {r : Result A BuildFault} {old new : Place} (x : X) (end : Place) → Builds view Spelled r old new
    → Between (Spelled x) old end → Gives view [] r x new end
built_alone {view = view} {Spelled = Spelled} {r = r} {old = old} {new = new} x end f b =
    subst (λ p. Gives view [] r x p end) (no_more new) (f.built [] x end (subst (λ p. Between (Spelled x) p end) (sym (no_more old)) b))

pub map_same : {A : Type 0} (s : List A) → map (λ x. x) s ≡ s
map_same [] = refl
map_same (x ∷ s) = ap (λ z. x ∷ z) (map_same s)

-- so many bytes that are taken
pub taken_is : (got : List ℕ) (count : ℕ) (these : List ℕ) (old new end : Place) → old.left ≡ got ++ new.left → length got ≡ count → new.at ≡ old.at + count → count ≡ length these
    → Between (Exactly these) old end → (got ≡ these) × (new ≡ end)
taken_is got count these old new end e f g h b =
    let whole : got ++ new.left ≡ these ++ end.left = sym e ∙ b.left ∙ ap (λ z. z ++ end.left) b.spelled in
    let same = same_cut got new.left these end.left whole (f ∙ h) in
    let place : new.at ≡ end.at = let p = b.place in let q = ap length b.spelled in omega (arith, g, h, p, q) in
    (same.0, λ i. record { at = place i; left = same.1 i })

pub nothing_between : (old end : Place) → Between (Exactly []) old end → old ≡ end
nothing_between old end b =
    let left : old.left ≡ end.left = b.left ∙ ap (λ z. z ++ end.left) b.spelled in
    let place : old.at ≡ end.at = let p = b.place in let q = ap length b.spelled in omega (arith, p, q) in
    λ i. record { at = place i; left = left i }

-- These are read of the list, behind those that were there.
pub record Gotten {A X : Type 0} (view : A → X) (Spelled : X → ℕ → List ℕ → Type 0) (count : ℕ) (old : Place) (before items : List A) (index : ℕ) (here : Place) : Type 0 where
  pub got : List A
  pub items_are : items ≡ before ++ got
  pub counted : length got ≡ index
  pub keeps : Keeps view Spelled count old got here

pub gotten_none : {A X : Type 0} {view : A → X} {Spelled : X → ℕ → List ℕ → Type 0} {count : ℕ} {old new : Place} (before : List A) → ReadsNumber (IsUnsigned 32) (Ok count) old new
    → Gotten view Spelled count old before before 0 new
gotten_none before r = record { got = []; items_are = sym (append-nil before); counted = refl; keeps = keeps_none _ _ _ _ _ _ r refl }

pub gotten_more : {A X : Type 0} {view : A → X} {Spelled : X → ℕ → List ℕ → Type 0} {count : ℕ} {old here new : Place} {before items more : List A} {index : ℕ} {a : A}
    → Gotten view Spelled count old before items index here → index < count → Builds view Spelled (Ok a) here new → more ≡ items ++ a ∷ []
    → Gotten view Spelled count old before more (index + 1) new
gotten_more {before = before} {items = items} {a = a} g some r e = record {
  got = g.got ++ a ∷ [];
  items_are = e ∙ ap (λ s. s ++ a ∷ []) g.items_are ∙ append_assoc before g.got (a ∷ []);
  counted = let c = g.counted in omega (arith, length-append g.got (a ∷ []), c);
  keeps = keeps_more _ _ _ _ _ _ _ _ _ g.keeps (let c = g.counted in omega (arith, c, some)) r refl;
}

pub gotten_stop : {A X : Type 0} {view : A → X} {Spelled : X → ℕ → List ℕ → Type 0} {count : ℕ} {old here new : Place} {before items : List A} {index : ℕ} {d y : BuildFault} {q : Result
    (Unit {0}) BuildFault} (after : List A) → Gotten view Spelled count old before items index here → index < count → q ≡ Err y → y ≡ d → Builds view Spelled (Err d) here new
    → Builds (λ (u : Unit {0}). map view after) (SpelledBehind Spelled (map view before)) q old new
gotten_stop {view = view} after g some e f r = record {
  built = λ more ys end b.
      let h = b.spelled in
      fails (λ (u : Unit {0}). map view after) more _ ys _ end _ _ e f
      (keeps_stop _ _ _ _ _ _ _ _ g.keeps (let c = g.counted in omega (arith, c, some)) r more h.0 end (record { front = b.front; spelled = h.2; left = b.left; place = b.place }));
}

pub gotten_all : {A X : Type 0} {view : A → X} {Spelled : X → ℕ → List ℕ → Type 0} {count : ℕ} {old here : Place} {before items : List A} {index : ℕ}
    → Gotten view Spelled count old before items index here → index ≡ count → Builds (λ (u : Unit {0}). map view items) (SpelledBehind Spelled (map view before)) (Ok tt) old here
gotten_all {view = view} {before = before} {items = items} g all = record {
  built = λ more ys end b.
      let h = b.spelled in
      let k = keeps_all _ _ _ _ _ _ g.keeps (g.counted ∙ all) more h.0 end (record { front = b.front; spelled = h.2; left = b.left; place = b.place }) in
      (ap (map view) g.items_are ∙ map_append view before g.got ∙ ap (λ s. map view before ++ s) k.0 ∙ sym h.1, k.1);
}

-- a vector alone is one behind nothing
pub from_nothing : {A X B : Type 0} {Spelled : X → ℕ → List ℕ → Type 0} {old new : Place} {u : Unit {0}} (view : A → X) (v : List A) (none : List A) (whole : B → List X) (c : B) → none ≡ []
    → whole c ≡ map view v → Builds (λ (u : Unit {0}). map view v) (SpelledBehind Spelled (map view none)) (Ok u) old new → Builds whole (λ xs. Vector Spelled xs) (Ok c) old new
from_nothing view v none whole c e f r = record {
  built = λ more xs end b.
      let g = r.built more xs end (record { front = b.front; spelled = (xs, sym (ap (λ z. map view z ++ xs) e), b.spelled); left = b.left; place = b.place }) in
      (f ∙ g.0, g.1);
}

pub from_nothing_stop : {A X B : Type 0} {Spelled : X → ℕ → List ℕ → Type 0} {old new : Place} {d y : BuildFault} {q : Result B BuildFault} (view : A → X) (v : List A) (none : List A)
    (whole : B → List X) → none ≡ [] → q ≡ Err y → y ≡ d → Builds (λ (u : Unit {0}). map view v) (SpelledBehind Spelled (map view none)) (Err d) old new
    → Builds whole (λ xs. Vector Spelled xs) q old new
from_nothing_stop view v none whole e f g r = record {
  built = λ more xs end b. fails whole more _ xs _ end _ _ f g
      (r.built more xs end (record { front = b.front; spelled = (xs, sym (ap (λ z. map view z ++ xs) e), b.spelled); left = b.left; place = b.place }));
}

-- one more is put behind these
pub onto_built : {A X : Type 0} {view : A → X} {Spelled : X → ℕ → List ℕ → Type 0} {old new : Place} {u : Unit {0}} (before items : List A) (a : A) → items ≡ before ++ a ∷ []
    → Builds view Spelled (Ok a) old new → Builds (λ (u : Unit {0}). map view items) (SpelledOnto Spelled (map view before)) (Ok u) old new
onto_built {view = view} before items a e r = record {
  built = λ more all end b.
      let h = b.spelled in
      let g = r.built more h.0 end (record { front = b.front; spelled = h.2; left = b.left; place = b.place }) in
      (ap (map view) e ∙ map_append view before (a ∷ []) ∙ ap (λ y. map view before ++ y ∷ []) g.0 ∙ sym h.1, g.1);
}

pub onto_stop : {A X : Type 0} {view : A → X} {Spelled : X → ℕ → List ℕ → Type 0} {old new : Place} {d y : BuildFault} {q : Result (Unit {0}) BuildFault} (before items : List A) → q ≡ Err y → y ≡ d
    → Builds view Spelled (Err d) old new → Builds (λ (u : Unit {0}). map view items) (SpelledOnto Spelled (map view before)) q old new
onto_stop {view = view} before items e f r = record {
  built = λ more all end b.
      let h = b.spelled in
      fails (λ (u : Unit {0}). map view items) more _ all _ end _ _ e f (r.built more h.0 end (record { front = b.front; spelled = h.2; left = b.left; place = b.place }));
}
