-- What is computed of a file's beginnings is so.
use Rattle.std.proofs.Common.{◌≡◌, ℕ, zero, suc, ◌+◌, ◌<◌, ◌≤◌, ◌⊎◌, inl, inr, List, [], ◌∷◌, ◌++◌, ◌&&◌, map, Option, Some, None, Result, Ok, Err, Bool, true, false, cond, nat_lt, nat_eq, refl, ap, sym, ◌∙◌, subst, arith, eqb-true, length, length-append, length-take-le, take, drop, get_or, IsUtf8}
use Rattle.std.proofs.lemmas.Bool.{lt-ltb, le-ltb, ltb-true, ltb-false, ne_eqb}
use Rattle.std.proofs.lemmas.List.{take-append-drop}
use Rattle.std.proofs.lemmas.Str.{IsUtf8-from_is_utf8, is_utf8-from_IsUtf8}
use Rattle.std.specs.Str.{is_utf8}
use Rattle.leb_numbers.specs.declared.leb.LebFault.{LebFault}
use Rattle.leb_numbers.specs.declared.leb.LebFault.TheVariants.{Short, Long, Bits}
use Rattle.leb_numbers.specs.Leb.{unsigned_at, signed_at}
use Rattle.wa_types.specs.Begun.{Goal, Item, a_byte, an_unsigned, a_signed, a_name, a_constant_of, IsItem, IsPart, size, head, until, rest, entries, count, exact, number, name, value_type, block_type, mutable, import_kind, space, limits, signed, bulk_number, name_bytes, float_bytes, code, wants, next, settled, end_of, IsBefore, Inside, Steps, Leads, arrived, item, BegunFrom, ends, part, then, sections, start, Begun, IsWhole}
use Rattle.leb_numbers.proofs.UnsignedReads.{again, takes}
use Rattle.leb_numbers.proofs.SignedReads.{again as signed_again, takes as signed_takes}
use Rattle.file_laws.proofs.Items.{item_some}
use Rattle.wa_types.proofs.TypingLemmas.{less_on}
use Rattle.checks.specs.Beginnings.{Front, a_part, wrong, whole, of_number, of_bytes, of_byte, front_of, on_front, on_goals, is_before, is_inside, walks, is_none, part_left, owes_none, is_end, nothing_left, is_begun, is_whole, or_else, search, at_the_end, fault_place, FaultFound}
use Rattle.checks.specs.Files.{File, AllFound}
use Rattle.std.specs.List.{list_all}

-- bytes are bytes
abbrev AreBytes : List ℕ → Type 0
AreBytes bytes = (i : ℕ) → get_or bytes i 0 < 256

bytes_behind : (a b : List ℕ) → AreBytes (a ++ b) → AreBytes b
bytes_behind [] b h = h
bytes_behind (x ∷ a) b h = bytes_behind a b (λ i. h (suc i))

drop_front : (a b : List ℕ) → drop (length a) (a ++ b) ≡ b
drop_front [] b = refl
drop_front (x ∷ a) b = drop_front a b

take_front : (a b : List ℕ) → take (length a) (a ++ b) ≡ a
take_front [] b = refl
take_front (x ∷ a) b = ap (λ z. x ∷ z) (take_front a b)

both : (a b : Bool) → a && b ≡ true → (a ≡ true) × (b ≡ true)
both true true h = (refl, refl)
both true false h = absurd (let e : false ≡ true = h in cc)
both false b h = absurd (let e : false ≡ true = h in cc)

join : (a b : Bool) → a ≡ true → b ≡ true → a && b ≡ true
join true true e f = refl
join true false e f = f
join false b e f = absurd (cc)

-- what stands at the front, in the terms of the definition
abbrev Says : Item → List ℕ → Front → Type 0
Says i bytes a_part = IsPart i bytes
Says i bytes wrong = Unit {0}
Says i bytes (whole v used) = (a b : List ℕ) × (bytes ≡ a ++ b) × IsItem i a v × (used ≡ length a)

byte_says : (bytes : List ℕ) → Says a_byte bytes (of_byte bytes)
byte_says [] = refl
byte_says (b ∷ bs) = (b ∷ [], bs, refl, refl, refl)

unsigned_says : (bytes : List ℕ) → AreBytes bytes → (r : Result ℕ LebFault) (used : ℕ) → unsigned_at 32 bytes 0 ≡ (r, used) → Says an_unsigned bytes (of_number r used)
unsigned_says bytes fits (Ok v) used e = let f = takes 32 bytes 0 v used fits e in (f.front, f.rest, f.split, f.spells, omega (arith, f.place))
unsigned_says bytes fits (Err Short) used e = ap (λ p. p.0) e
unsigned_says bytes fits (Err Long) used e = tt
unsigned_says bytes fits (Err Bits) used e = tt

signed_says : (bits : ℕ) (bytes : List ℕ) → AreBytes bytes → (r : Result ℕ LebFault) (used : ℕ) → signed_at bits bytes 0 ≡ (r, used) → Says (a_signed bits) bytes (of_number r used)
signed_says bits bytes fits (Ok v) used e = let f = signed_takes bits bytes 0 v used fits e in (f.front, f.rest, f.split, f.spells, omega (arith, f.place))
signed_says bits bytes fits (Err Short) used e = ap (λ p. p.0) e
signed_says bits bytes fits (Err Long) used e = tt
signed_says bits bytes fits (Err Bits) used e = tt

zero_or : (n : ℕ) → nat_eq n 0 ≡ false → 0 < n
zero_or zero e = absurd (cc)
zero_or (suc n) e = omega arith

not_zero : (n : ℕ) → 0 < n → nat_eq n 0 ≡ false
not_zero n h = ne_eqb n 0 (λ e. omega (arith, h, e))

name_says : (n : ℕ) (bytes : List ℕ) → Says (a_name n) bytes (of_bytes n (is_utf8 (take n bytes)) bytes)
name_says n bytes = by_zero (nat_eq n 0) refl where
  by_text : (t : Bool) → is_utf8 (take n bytes) ≡ t → 0 < n → n ≤ length bytes → Says (a_name n) bytes (cond t (whole 0 n) wrong)
  by_text true e some l = (take n bytes, drop n bytes, sym (take-append-drop n bytes), (some, length-take-le n bytes l, IsUtf8-from_is_utf8 _ e, refl), sym (length-take-le n bytes l))
  by_text false e some l = tt

  by_less : (t : Bool) → nat_lt (length bytes) n ≡ t → 0 < n → Says (a_name n) bytes (cond t a_part (cond (is_utf8 (take n bytes)) (whole 0 n) wrong))
  by_less true e some = ltb-true _ _ e
  by_less false e some = by_text (is_utf8 (take n bytes)) refl some (ltb-false _ _ e)

  by_zero : (t : Bool) → nat_eq n 0 ≡ t → Says (a_name n) bytes (cond t wrong (cond (nat_lt (length bytes) n) a_part (cond (is_utf8 (take n bytes)) (whole 0 n) wrong)))
  by_zero true e = tt
  by_zero false e = by_less (nat_lt (length bytes) n) refl (zero_or n e)

float_says : (n : ℕ) (bytes : List ℕ) → Says (a_constant_of n) bytes (of_bytes n true bytes)
float_says n bytes = by_zero (nat_eq n 0) refl where
  by_less : (t : Bool) → nat_lt (length bytes) n ≡ t → 0 < n → Says (a_constant_of n) bytes (cond t a_part (whole 0 n))
  by_less true e some = ltb-true _ _ e
  by_less false e some =
      let l = length-take-le n bytes (ltb-false _ _ e) in
      (take n bytes, drop n bytes, sym (take-append-drop n bytes), (some, l, refl), sym l)

  by_zero : (t : Bool) → nat_eq n 0 ≡ t → Says (a_constant_of n) bytes (cond t wrong (cond (nat_lt (length bytes) n) a_part (whole 0 n)))
  by_zero true e = tt
  by_zero false e = by_less (nat_lt (length bytes) n) refl (zero_or n e)

front_says : (i : Item) (bytes : List ℕ) → AreBytes bytes → Says i bytes (front_of i bytes)
front_says a_byte bytes fits = byte_says bytes
front_says an_unsigned bytes fits = unsigned_says bytes fits (unsigned_at 32 bytes 0).0 (unsigned_at 32 bytes 0).1 refl
front_says (a_signed bits) bytes fits = signed_says bits bytes fits (signed_at bits bytes 0).0 (signed_at bits bytes 0).1 refl
front_says (a_name n) bytes fits = name_says n bytes
front_says (a_constant_of n) bytes fits = float_says n bytes

passes : (x y z : Bool) (n : ℕ) → x ≡ false → y ≡ false → z ≡ true → cond x wrong (cond y a_part (cond z (whole 0 n) wrong)) ≡ whole 0 n
passes false false true n e f g = refl
passes true y z n e f g = absurd (cc)
passes false true z n e f g = absurd (cc)
passes false false false n e f g = absurd (cc)

bytes_item : (n : ℕ) (a b : List ℕ) (pass : Bool) → 0 < n → length a ≡ n → pass ≡ true → of_bytes n pass (a ++ b) ≡ whole 0 (length a)
bytes_item n a b pass some e h =
    passes (nat_eq n 0) (nat_lt (length (a ++ b)) n) pass n (not_zero n some) (le-ltb (length (a ++ b)) n (omega (arith, e, length-append a b))) h ∙ ap (whole 0) (sym e)

text_here : (n : ℕ) (a b : List ℕ) → length a ≡ n → IsUtf8 a → is_utf8 (take n (a ++ b)) ≡ true
text_here n a b e u = subst (λ k. is_utf8 (take k (a ++ b)) ≡ true) e (subst (λ z. is_utf8 z ≡ true) (sym (take_front a b)) (is_utf8-from_IsUtf8 _ u))

-- an item at the front is taken
front_item : (i : Item) (a b : List ℕ) (v : ℕ) → IsItem i a v → front_of i (a ++ b) ≡ whole v (length a)
front_item a_byte a b v h = subst (λ z. of_byte (z ++ b) ≡ whole v (length z)) (sym h) refl
front_item an_unsigned a b v h =
    let e = again 32 a b v 0 h in
    let l : 0 + length a ≡ length a = omega arith in
    ap (λ p. of_number p.0 p.1) e ∙ ap (whole v) l
front_item (a_signed bits) a b v h =
    let e = signed_again bits a b v 0 h in
    let l : 0 + length a ≡ length a = omega arith in
    ap (λ p. of_number p.0 p.1) e ∙ ap (whole v) l
front_item (a_name n) a b v h = bytes_item n a b (is_utf8 (take n (a ++ b))) h.0 h.1 (text_here n a b h.1 h.2) ∙ ap (λ z. whole z (length a)) (sym h.3)
front_item (a_constant_of n) a b v h = bytes_item n a b true h.0 h.1 refl ∙ ap (λ z. whole z (length a)) (sym h.2)

fewer : (x y z : Bool) (n : ℕ) → x ≡ false → y ≡ true → cond x wrong (cond y a_part (cond z (whole 0 n) wrong)) ≡ a_part
fewer false true z n e f = refl
fewer true y z n e f = absurd (cc)
fewer false false z n e f = absurd (cc)

bytes_part : (n : ℕ) (bytes : List ℕ) (pass : Bool) → length bytes < n → of_bytes n pass bytes ≡ a_part
bytes_part n bytes pass h = fewer (nat_eq n 0) (nat_lt (length bytes) n) pass n (not_zero n (omega (arith, h))) (lt-ltb _ _ h)

-- a part at the front is seen
front_part : (i : Item) (bytes : List ℕ) → IsPart i bytes → front_of i bytes ≡ a_part
front_part a_byte bytes h = subst (λ z. of_byte z ≡ a_part) (sym h) refl
front_part an_unsigned bytes h = ap (λ r. of_number r (unsigned_at 32 bytes 0).1) h
front_part (a_signed bits) bytes h = ap (λ r. of_number r (signed_at bits bytes 0).1) h
front_part (a_name n) bytes h = bytes_part n bytes (is_utf8 (take n bytes)) h
front_part (a_constant_of n) bytes h = bytes_part n bytes true h

before_true : (at : ℕ) (e : Option ℕ) → is_before at e ≡ true → IsBefore at e
before_true at None h = tt
before_true at (Some end) h = ltb-true _ _ h

true_before : (at : ℕ) (e : Option ℕ) → IsBefore at e → is_before at e ≡ true
true_before at None h = refl
true_before at (Some end) h = lt-ltb _ _ h

inside_true : (at : ℕ) (gs : List Goal) → is_inside at gs ≡ true → Inside at gs
unfolding is_inside Inside
inside_true at [] h = tt
inside_true at (g ∷ gs) h = let b = both _ _ h in (before_true at (end_of g) b.0, inside_true at gs b.1)

true_inside : (at : ℕ) (gs : List Goal) → Inside at gs → is_inside at gs ≡ true
unfolding is_inside Inside
true_inside at [] h = refl
true_inside at (g ∷ gs) h = join _ _ (true_before at (end_of g) h.0) (true_inside at gs h.1)

-- one item more
record Took (test : ℕ → List Goal → List ℕ → Bool) (n at : ℕ) (g : Goal) (gs : List Goal) (bytes : List ℕ) : Type 0 where
  a : List ℕ
  b : List ℕ
  v : ℕ
  ks : List Goal
  split : bytes ≡ a ++ b
  is_item : IsItem (wants g) a v
  steps : Steps g gs v (at + length a) ks
  on : walks test n (at + length a) ks b ≡ true

abbrev Takes : (test : ℕ → List Goal → List ℕ → Bool) (n at : ℕ) (g : Goal) (gs : List Goal) (bytes : List ℕ) → Type 0
Takes test n at g gs bytes = (IsPart (wants g) bytes × (test at (g ∷ gs) bytes ≡ true)) ⊎ Took test n at g gs bytes

module _ (test : ℕ → List Goal → List ℕ → Bool) (n at : ℕ) (g : Goal) (gs : List Goal) (bytes : List ℕ) where
  abbrev On : ℕ → List Goal → Bool
  On used hs = is_inside (at + used) hs && walks test n (at + used) hs (drop used bytes)

  abbrev NextItem : ℕ → List Goal → Bool
  NextItem used new = on_goals (settled (at + used) (new ++ gs)) (On used)

  abbrev Taken : ℕ → ℕ → Bool
  Taken v used = on_goals (next g v (at + used)) (NextItem used)

  module _ (v used : ℕ) (a b : List ℕ) (e : bytes ≡ a ++ b) (i : IsItem (wants g) a v) (u : used ≡ length a) where
    by_settled : (new : List Goal) → next g v (at + used) ≡ Some new → (o : Option (List Goal)) → settled (at + used) (new ++ gs) ≡ o → on_goals o (On used) ≡ true → Took test n at g gs bytes
    by_settled new f None s h = absurd (let w : false ≡ true = h in cc)
    by_settled new f (Some hs) s h =
        let t = both (is_inside (at + used) hs) (walks test n (at + used) hs (drop used bytes)) h in
        let step : Steps g gs v (at + used) hs = record { new = new; pushed = f; settles = s; inside = inside_true (at + used) hs t.0 } in
        let rest : drop used bytes ≡ b = ap (λ k. drop k bytes) u ∙ ap (drop (length a)) e ∙ drop_front a b in
        record {
          a = a;
          b = b;
          v = v;
          ks = hs;
          split = e;
          is_item = i;
          steps = subst (λ k. Steps g gs v (at + k) hs) u step;
          on = subst (λ k. walks test n (at + k) hs b ≡ true) u (subst (λ z. walks test n (at + used) hs z ≡ true) rest t.1);
        }

    by_next : (o : Option (List Goal)) → next g v (at + used) ≡ o → on_goals o (NextItem used) ≡ true → Took test n at g gs bytes
    by_next None f h = absurd (let w : false ≡ true = h in cc)
    by_next (Some new) f h = by_settled new f (settled (at + used) (new ++ gs)) refl h

  by_front : (f : Front) → Says (wants g) bytes f → on_front f (test at (g ∷ gs) bytes) Taken ≡ true → Takes test n at g gs bytes
  by_front a_part s h = inl (s, h)
  by_front wrong s h = absurd (let w : false ≡ true = h in cc)
  by_front (whole v used) s h = inr (by_next v used s.0 s.1 s.2 s.3 s.4 (next g v (at + used)) refl h)

  step_sound : AreBytes bytes → walks test (suc n) at (g ∷ gs) bytes ≡ true → Takes test n at g gs bytes
  unfolding walks
  step_sound fits h = by_front (front_of (wants g) bytes) (front_says (wants g) bytes fits) h

step_part : (test : ℕ → List Goal → List ℕ → Bool) (n at : ℕ) (g : Goal) (gs : List Goal) (bytes : List ℕ) → IsPart (wants g) bytes → test at (g ∷ gs) bytes ≡ true
    → walks test (suc n) at (g ∷ gs) bytes ≡ true
unfolding walks
step_part test n at g gs bytes p h = ap (λ f. on_front f (test at (g ∷ gs) bytes) (Taken test n at g gs bytes)) (front_part (wants g) bytes p) ∙ h

step_item : (test : ℕ → List Goal → List ℕ → Bool) (n at : ℕ) (g : Goal) (gs : List Goal) (bytes a b : List ℕ) (v : ℕ) (ks : List Goal) → bytes ≡ a ++ b → IsItem (wants g) a v
    → Steps g gs v (at + length a) ks → walks test n (at + length a) ks b ≡ true → walks test (suc n) at (g ∷ gs) bytes ≡ true
unfolding walks
step_item test n at g gs bytes a b v ks e i s h =
    let used = length a in
    let front : front_of (wants g) bytes ≡ whole v used = ap (front_of (wants g)) e ∙ front_item (wants g) a b v i in
    let rest : b ≡ drop used bytes = sym (ap (drop used) e ∙ drop_front a b) in
    ap (λ f. on_front f (test at (g ∷ gs) bytes) (Taken test n at g gs bytes)) front
    ∙ ap (λ o. on_goals o (NextItem test n at g gs bytes used)) s.pushed
    ∙ ap (λ o. on_goals o (On test n at g gs bytes used)) s.settles
    ∙ join _ _ (true_inside (at + used) ks s.inside) (subst (λ z. walks test n (at + used) ks z ≡ true) rest h)

none_left : (bytes : List ℕ) → is_none bytes ≡ true → bytes ≡ []
none_left [] h = refl
none_left (b ∷ bs) h = absurd (let w : false ≡ true = h in cc)

begun_sound : (n at : ℕ) (gs : List Goal) (bytes : List ℕ) → AreBytes bytes → walks part_left n at gs bytes ≡ true → BegunFrom at gs bytes
unfolding walks
begun_sound zero at gs bytes fits h = absurd (let w : false ≡ true = h in cc)
begun_sound (suc n) at [] [] fits h = ends
begun_sound (suc n) at [] (b ∷ bs) fits h = absurd (let w : false ≡ true = h in cc)
begun_sound (suc n) at (g ∷ gs) bytes fits h = elim (step_sound part_left n at g gs bytes fits h) [
  | inl p ↦ part p.0 (inside_true (at + length bytes) (g ∷ gs) p.1)
  | inr s ↦ then s.a s.b s.v s.ks s.split s.is_item s.steps (begun_sound n (at + length s.a) s.ks s.b (bytes_behind s.a s.b (subst AreBytes s.split fits)) s.on)
]

begun_complete : (at : ℕ) (gs : List Goal) (bytes : List ℕ) → BegunFrom at gs bytes → (n : ℕ) → length bytes < n → walks part_left n at gs bytes ≡ true
unfolding walks
begun_complete at gs bytes h zero l = absurd (omega (arith, l))
begun_complete at [] [] ends (suc n) l = refl
begun_complete at [] (x ∷ xs) h (suc n) l = elim h [ ]
begun_complete at (g ∷ gs) bytes (part p i) (suc n) l = step_part part_left n at g gs bytes p (true_inside (at + length bytes) (g ∷ gs) i)
begun_complete at (g ∷ gs) bytes (then a b v ks e i s k) (suc n) l =
    step_item part_left n at g gs bytes a b v ks e i s
    (begun_complete (at + length a) ks b k n (omega (arith, l, ap length e, length-append a b, item_some (wants g) a v i)))

owes : (g : Goal) → owes_none g ≡ true → (last : ℕ) × (g ≡ sections last 0)
owes (exact byte) h = absurd (let w : false ≡ true = h in cc)
owes (sections last owed) h = (last, ap (sections last) (eqb-true _ _ h))
owes (size id last owed) h = absurd (let w : false ≡ true = h in cc)
owes (head id end last owed) h = absurd (let w : false ≡ true = h in cc)
owes (until end) h = absurd (let w : false ≡ true = h in cc)
owes (rest end) h = absurd (let w : false ≡ true = h in cc)
owes (entries k n) h = absurd (let w : false ≡ true = h in cc)
owes (count k) h = absurd (let w : false ≡ true = h in cc)
owes number h = absurd (let w : false ≡ true = h in cc)
owes name h = absurd (let w : false ≡ true = h in cc)
owes value_type h = absurd (let w : false ≡ true = h in cc)
owes block_type h = absurd (let w : false ≡ true = h in cc)
owes mutable h = absurd (let w : false ≡ true = h in cc)
owes import_kind h = absurd (let w : false ≡ true = h in cc)
owes space h = absurd (let w : false ≡ true = h in cc)
owes limits h = absurd (let w : false ≡ true = h in cc)
owes (signed bits) h = absurd (let w : false ≡ true = h in cc)
owes bulk_number h = absurd (let w : false ≡ true = h in cc)
owes (name_bytes n) h = absurd (let w : false ≡ true = h in cc)
owes (float_bytes n) h = absurd (let w : false ≡ true = h in cc)
owes (code first_arm) h = absurd (let w : false ≡ true = h in cc)

end_goals : (gs : List Goal) → is_end gs ≡ true → (last : ℕ) × (gs ≡ sections last 0 ∷ [])
end_goals [] h = absurd (let w : false ≡ true = h in cc)
end_goals (g ∷ []) h = let o = owes g h in (o.0, ap (λ z. z ∷ []) o.1)
end_goals (g ∷ f ∷ gs) h = absurd (let w : false ≡ true = h in cc)

whole_sound : (n at : ℕ) (gs : List Goal) (bytes : List ℕ) → AreBytes bytes → walks nothing_left n at gs bytes ≡ true → (last : ℕ) × Leads at gs bytes (sections last 0 ∷ [])
unfolding walks
whole_sound zero at gs bytes fits h = absurd (let w : false ≡ true = h in cc)
whole_sound (suc n) at [] bytes fits h = absurd (let b = both (is_none bytes) false h in let w : false ≡ true = b.1 in cc)
whole_sound (suc n) at (g ∷ gs) bytes fits h = elim (step_sound nothing_left n at g gs bytes fits h) [
  | inl p ↦
      let t = both (is_none bytes) (is_end (g ∷ gs)) p.1 in
      let o = end_goals (g ∷ gs) t.1 in
      (o.0, subst (λ z. Leads at z bytes (sections o.0 0 ∷ [])) (sym o.1) (subst (λ z. Leads at (sections o.0 0 ∷ []) z (sections o.0 0 ∷ [])) (sym (none_left bytes t.0)) arrived))
  | inr s ↦
      let more = whole_sound n (at + length s.a) s.ks s.b (bytes_behind s.a s.b (subst AreBytes s.split fits)) s.on in
      (more.0, item s.a s.b s.v s.ks s.split s.is_item s.steps more.1)
]

whole_complete : (at last : ℕ) (gs hs : List Goal) (bytes : List ℕ) → Leads at gs bytes hs → hs ≡ sections last 0 ∷ [] → (n : ℕ) → length bytes < n → walks nothing_left n at gs bytes ≡ true
unfolding walks
whole_complete at last gs hs bytes h e zero l = absurd (omega (arith, l))
whole_complete at last gs hs [] arrived e (suc n) l = subst (λ z. walks nothing_left (suc n) at z [] ≡ true) (sym e) refl
whole_complete at last (g ∷ gs) hs bytes (item a b v ks f i s k) e (suc n) l =
    step_item nothing_left n at g gs bytes a b v ks f i s
    (whole_complete (at + length a) last ks hs b k e n (omega (arith, l, ap length f, length-append a b, item_some (wants g) a v i)))

bytes_before : (a b : List ℕ) → AreBytes (a ++ b) → AreBytes a
bytes_before [] b h i = omega arith
bytes_before (x ∷ a) b h zero = h 0
bytes_before (x ∷ a) b h (suc i) = bytes_before a b (λ j. h (suc j)) i

bytes_taken : (k : ℕ) (bytes : List ℕ) → AreBytes bytes → AreBytes (take k bytes)
bytes_taken k bytes fits = bytes_before (take k bytes) (drop k bytes) (subst AreBytes (sym (take-append-drop k bytes)) fits)

not_true : (t : Bool) → t ≡ false → t ≡ true → ⊥
not_true t e f = cc

pub begun_is : (bytes : List ℕ) → AreBytes bytes → is_begun bytes ≡ true → Begun bytes
begun_is bytes fits h = begun_sound (suc (length bytes)) 0 start bytes fits h

pub begun_not : (bytes : List ℕ) → is_begun bytes ≡ false → Begun bytes → ⊥
begun_not bytes e b = not_true _ e (begun_complete 0 start bytes b (suc (length bytes)) (omega arith))

whole_not : (bytes : List ℕ) → is_whole bytes ≡ false → IsWhole bytes → ⊥
whole_not bytes e w = not_true _ e (whole_complete 0 w.0 start (sections w.0 0 ∷ []) bytes w.1 refl (suc (length bytes)) (omega arith))

abbrev SearchSays : List ℕ → Option ℕ → Type 0
SearchSays bytes None = (j : ℕ) → j ≤ length bytes → Begun (take j bytes)
SearchSays bytes (Some k) = (k ≤ length bytes) × ((j : ℕ) → j < k → Begun (take j bytes)) × (Begun (take k bytes) → ⊥)

search_says : (n k : ℕ) (bytes : List ℕ) → AreBytes bytes → k + n ≡ suc (length bytes) → ((j : ℕ) → j < k → Begun (take j bytes)) → SearchSays bytes (search n k bytes)
unfolding search
search_says zero k bytes fits e before = λ j l. before j (omega (arith, e, l))
search_says (suc n) k bytes fits e before =
    by_test (search_says n (suc k) bytes fits (omega (arith, e))) (is_begun (take k bytes)) refl
  where
    by_test : (((j : ℕ) → j < suc k → Begun (take j bytes)) → SearchSays bytes (search n (suc k) bytes)) → (t : Bool) → is_begun (take k bytes) ≡ t
        → SearchSays bytes (or_else t (search n (suc k) bytes) k)
    by_test on false f = (omega (arith, e), before, begun_not (take k bytes) f)
    by_test on true f = on (λ j l. elim (less_on j k) [
      | inl less ↦ before j less
      | inr more ↦
          let same : k ≡ j = omega (arith, l, more) in
          subst (λ z. Begun (take z bytes)) same (begun_is (take k bytes) (bytes_taken k bytes fits) f)
    ])

pub fault_found : (bytes : List ℕ) → ((i : ℕ) → get_or bytes i 0 < 256) → FaultFound bytes (fault_place bytes)
fault_found bytes fits =
    by_search (search (suc (length bytes)) 0 bytes)
    (search_says (suc (length bytes)) 0 bytes fits (omega arith) (λ j l. absurd (omega (arith, l))))
  where
    by_whole : (t : Bool) → is_whole bytes ≡ t → SearchSays bytes None → FaultFound bytes (at_the_end None t (length bytes))
    by_whole true e s = whole_sound (suc (length bytes)) 0 start bytes fits e
    by_whole false e s = record { within = omega arith; before = λ j l. s j (omega (arith, l)); stops = inr (refl, whole_not bytes e) }

    by_search : (o : Option ℕ) → SearchSays bytes o → FaultFound bytes (at_the_end o (is_whole bytes) (length bytes))
    by_search (Some k) s = record { within = s.0; before = s.1; stops = inl s.2 }
    by_search None s = by_whole (is_whole bytes) refl s

-- bytes that are written out
written : (bytes : List ℕ) → list_all (λ b. nat_lt b 256) bytes ≡ true → AreBytes bytes
written [] h i = omega arith
written (b ∷ bs) h zero = ltb-true _ _ (both (nat_lt b 256) (list_all (λ c. nat_lt c 256) bs) h).0
written (b ∷ bs) h (suc i) = written bs (both (nat_lt b 256) (list_all (λ c. nat_lt c 256) bs) h).1 i

first_same : (a b : Option ℕ) (xs ys : List (Option ℕ)) → a ∷ xs ≡ b ∷ ys → (a ≡ b) × (xs ≡ ys)
first_same a b xs ys e = (cc, cc)

pub all_found : (fs : List File) → list_all (λ (f : File). list_all (λ b. nat_lt b 256) f.bytes) fs ≡ true → map (λ (f : File). fault_place f.bytes) fs ≡ map (λ (f : File). f.fault) fs → AllFound fs
all_found [] h e = tt
all_found (f ∷ fs) h e =
    let t = both (list_all (λ b. nat_lt b 256) f.bytes) (list_all (λ (f : File). list_all (λ b. nat_lt b 256) f.bytes) fs) h in
    let s = first_same (fault_place f.bytes) f.fault (map (λ (f : File). fault_place f.bytes) fs) (map (λ (f : File). f.fault) fs) e in
    (subst (FaultFound f.bytes) s.0 (fault_found f.bytes (written f.bytes t.0)), all_found fs t.1 s.1)
