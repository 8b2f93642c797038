-- Bytes that begin at a place spell at most one thing of a kind, and end in one place.
use Rattle.std.proofs.Common.{◌≡◌, ℕ, ◌+◌, List, [], ◌∷◌, ◌++◌, Option, Some, None, Bool, true, false, refl, ap, sym, ◌∙◌, subst, arith, append_assoc, length}
use Rattle.wa_types.specs.declared.syntax.Space.{Space}
use Rattle.wa_types.specs.declared.syntax.Space.TheVariants.{Func as a_func, Table as a_table, Memory as a_memory, Global as a_global}
use Rattle.wa_types.specs.Encoding.{space_byte, mutable_byte}
use Rattle.wa_types.specs.Binary.{Placed, RawKind, raw_func, raw_table, raw_memory, raw_global}
use Rattle.wa_types.specs.Spells.{◌▸◌, Exactly, Number, SignedNumber, Items, Vector, Text, Byte, ValueType, BlockType, FunctionType, Maximum, LimitsOf, TableType, GlobalType, ImportKindOf}
use Rattle.wa_types.specs.Spells.{ImportOf, ExportOf}
use Rattle.wa_types.specs.Begun.{an_unsigned, a_signed}
use Rattle.file_laws.proofs.Items.{one_item, same_cut}

-- two spellings at the front of the same bytes are one
pub record Same {X : Type 0} (x y : X) (a c : List ℕ) : Type 0 where
  pub value : x ≡ y
  pub front : a ≡ c

-- whatever follows
abbrev pub One : {X : Type 0} → (X → ℕ → List ℕ → Type 0) → Type 0
One {X} f = (x y : X) (at : ℕ) (a b c d : List ℕ) → f x at a → f y at c → a ++ b ≡ c ++ d → Same x y a c

-- a pair of parts
abbrev pub Pair : {X Y : Type 0} → (X → ℕ → List ℕ → Type 0) → (Y → ℕ → List ℕ → Type 0) → (X × Y) → ℕ → List ℕ → Type 0
Pair f g t = f t.0 ▸ g t.1

pub one_pair : {X Y : Type 0} (f : X → ℕ → List ℕ → Type 0) (g : Y → ℕ → List ℕ → Type 0) → One f → One g → One (Pair f g)
one_pair f g u v x y at a b c d h k e =
    let cut : h.0 ++ (h.1 ++ b) ≡ k.0 ++ (k.1 ++ d) = sym (append_assoc h.0 h.1 b) ∙ ap (λ z. z ++ b) (sym h.2) ∙ e ∙ ap (λ z. z ++ d) k.2 ∙ append_assoc k.0 k.1 d in
    let s = u x.0 y.0 at h.0 (h.1 ++ b) k.0 (k.1 ++ d) h.3 k.3 cut in
    let rest = (same_cut h.0 (h.1 ++ b) k.0 (k.1 ++ d) cut (ap length s.front)).1 in
    let t = v x.1 y.1 (at + length h.0) h.1 b k.1 d h.4 (subst (λ z. g y.1 (at + length z) k.1) (sym s.front) k.4) rest in
    record { value = λ i. (s.value i, t.value i); front = h.2 ∙ ap (λ z. z ++ h.1) s.front ∙ ap (λ z. k.0 ++ z) t.front ∙ sym k.2 }

-- by a view of what is spelled
pub one_view : {X Y : Type 0} (f : X → ℕ → List ℕ → Type 0) (g : Y → ℕ → List ℕ → Type 0) (to : X → Y) (from : Y → X) → ((x : X) → from (to x) ≡ x)
    → ((x : X) (at : ℕ) (a : List ℕ) → f x at a → g (to x) at a) → One g → One f
one_view f g to from back view u x y at a b c d h k e =
    let s = u (to x) (to y) at a b c d (view x at a h) (view y at c k) e in
    record { value = sym (back x) ∙ ap from s.value ∙ back y; front = s.front }

pub one_exact : (bytes : List ℕ) → One (λ (u : Unit {0}). Exactly bytes)
one_exact bytes x y at a b c d h k e = record { value = refl; front = h ∙ sym k }

pub one_number : One Number
one_number x y at a b c d h k e = let o = one_item an_unsigned a b c d x y h k e in record { value = o.0; front = (same_cut a b c d e o.1).0 }

pub one_signed : (bits : ℕ) → One (SignedNumber bits)
one_signed bits x y at a b c d h k e = let o = one_item (a_signed bits) a b c d x y h k e in record { value = o.0; front = (same_cut a b c d e o.1).0 }

pub one_items : {X : Type 0} (f : X → ℕ → List ℕ → Type 0) → One f → (xs ys : List X) (at : ℕ) (a b c d : List ℕ) → length xs ≡ length ys → Items f xs at a → Items f ys at c
    → a ++ b ≡ c ++ d → Same xs ys a c
one_items f u [] [] at a b c d n h k e = record { value = refl; front = h ∙ sym k }
one_items f u [] (y ∷ ys) at a b c d n h k e = absurd (omega (arith, n))
one_items f u (x ∷ xs) [] at a b c d n h k e = absurd (omega (arith, n))
one_items f u (x ∷ xs) (y ∷ ys) at a b c d n h k e =
    let cut : h.0 ++ (h.1 ++ b) ≡ k.0 ++ (k.1 ++ d) = sym (append_assoc h.0 h.1 b) ∙ ap (λ z. z ++ b) (sym h.2) ∙ e ∙ ap (λ z. z ++ d) k.2 ∙ append_assoc k.0 k.1 d in
    let s = u x y at h.0 (h.1 ++ b) k.0 (k.1 ++ d) h.3 k.3 cut in
    let rest = (same_cut h.0 (h.1 ++ b) k.0 (k.1 ++ d) cut (ap length s.front)).1 in
    let t = one_items f u xs ys (at + length h.0) h.1 b k.1 d (omega (arith, n)) h.4 (subst (λ z. Items f ys (at + length z) k.1) (sym s.front) k.4) rest in
    record { value = λ i. s.value i ∷ t.value i; front = h.2 ∙ ap (λ z. z ++ h.1) s.front ∙ ap (λ z. k.0 ++ z) t.front ∙ sym k.2 }

pub one_vector : {X : Type 0} (f : X → ℕ → List ℕ → Type 0) → One f → One (Vector f)
one_vector f u x y at a b c d h k e =
    let cut : h.0 ++ (h.1 ++ b) ≡ k.0 ++ (k.1 ++ d) = sym (append_assoc h.0 h.1 b) ∙ ap (λ z. z ++ b) (sym h.2) ∙ e ∙ ap (λ z. z ++ d) k.2 ∙ append_assoc k.0 k.1 d in
    let s = one_number (length x) (length y) at h.0 (h.1 ++ b) k.0 (k.1 ++ d) h.3 k.3 cut in
    let rest = (same_cut h.0 (h.1 ++ b) k.0 (k.1 ++ d) cut (ap length s.front)).1 in
    let t = one_items f u x y (at + length h.0) h.1 b k.1 d s.value h.4 (subst (λ z. Items f y (at + length z) k.1) (sym s.front) k.4) rest in
    record { value = t.value; front = h.2 ∙ ap (λ z. z ++ h.1) s.front ∙ ap (λ z. k.0 ++ z) t.front ∙ sym k.2 }

pub one_text : One Text
one_text x y at a b c d h k e =
    let cut : h.0 ++ (h.1 ++ b) ≡ k.0 ++ (k.1 ++ d) = sym (append_assoc h.0 h.1 b) ∙ ap (λ z. z ++ b) (sym h.2) ∙ e ∙ ap (λ z. z ++ d) k.2 ∙ append_assoc k.0 k.1 d in
    let s = one_number (length x) (length y) at h.0 (h.1 ++ b) k.0 (k.1 ++ d) h.3 k.3 cut in
    let rest = (same_cut h.0 (h.1 ++ b) k.0 (k.1 ++ d) cut (ap length s.front)).1 in
    let same = (same_cut h.1 b k.1 d rest (ap length h.4.0 ∙ s.value ∙ ap length (sym k.4.0))).0 in
    record { value = sym h.4.0 ∙ same ∙ k.4.0; front = h.2 ∙ ap (λ z. z ++ h.1) s.front ∙ ap (λ z. k.0 ++ z) same ∙ sym k.2 }

pub one_head : (x y : ℕ) (b d : List ℕ) → (x ∷ []) ++ b ≡ (y ∷ []) ++ d → x ≡ y
one_head x y b d e = cc

pub one_byte : One Byte
one_byte x y at a b c d h k e =
    let both : (x.byte ∷ []) ++ b ≡ (y.byte ∷ []) ++ d = sym (ap (λ z. z ++ b) h.1) ∙ e ∙ ap (λ z. z ++ d) k.1 in
    let byte = one_head x.byte y.byte b d both in
    let place : x.place ≡ y.place = sym h.0 ∙ k.0 in
    record { value = λ i. record { place = place i; byte = byte i }; front = h.1 ∙ ap (λ z. z ∷ []) byte ∙ sym k.1 }

pub one_value_type : One ValueType
one_value_type x y at a b c d h k e = one_byte x y at a b c d h.1 k.1 e

pub one_block_type : One BlockType
one_block_type x y at a b c d h k e = one_byte x y at a b c d h.1 k.1 e

-- a byte that a table gives
one_of_bytes : {X : Type 0} (byte : X → ℕ) → ((x y : X) → byte x ≡ byte y → x ≡ y) → One (λ x. Exactly (byte x ∷ []))
one_of_bytes byte inj x y at a b c d h k e =
    let both : (byte x ∷ []) ++ b ≡ (byte y ∷ []) ++ d = sym (ap (λ z. z ++ b) h) ∙ e ∙ ap (λ z. z ++ d) k in
    let same = one_head (byte x) (byte y) b d both in
    record { value = inj x y same; front = h ∙ ap (λ z. z ∷ []) same ∙ sym k }

mutable_same : (x y : Bool) → mutable_byte x ≡ mutable_byte y → x ≡ y
mutable_same true true e = refl
mutable_same false false e = refl
mutable_same true false e = absurd (omega (arith, e))
mutable_same false true e = absurd (omega (arith, e))

space_number : (s t : Space) → space_byte s ≡ space_byte t → s ≡ t
space_number a_func a_func e = refl
space_number a_table a_table e = refl
space_number a_memory a_memory e = refl
space_number a_global a_global e = refl
space_number a_func _ e = absurd (omega (arith, e))
space_number a_table _ e = absurd (omega (arith, e))
space_number a_memory _ e = absurd (omega (arith, e))
space_number a_global _ e = absurd (omega (arith, e))

pub one_mutable : One (λ m. Exactly (mutable_byte m ∷ []))
one_mutable = one_of_bytes mutable_byte mutable_same

pub one_space : One (λ s. Exactly (space_byte s ∷ []))
one_space = one_of_bytes space_byte space_number

pub one_function_type : One FunctionType
one_function_type =
    let V = one_vector ValueType one_value_type in
    one_view FunctionType (Pair (λ (u : Unit {0}). Exactly (0x60 ∷ [])) (Pair (Vector ValueType) (Vector ValueType))) (λ t. (tt, (t.params, t.results)))
    (λ p. record { params = p.1.0; results = p.1.1 }) (λ t. refl) (λ t at a h. h)
    (one_pair _ _ (one_exact (0x60 ∷ [])) (one_pair _ _ V V))

-- the bytes behind a first one
pub first_byte : (x : ℕ) (F : ℕ → List ℕ → Type 0) (at : ℕ) (a : List ℕ) → (Exactly (x ∷ []) ▸ F) at a → (r : List ℕ) × (a ≡ x ∷ r) × F (at + 1) r
first_byte x F at a h = (h.1, h.2 ∙ ap (λ z. z ++ h.1) h.3, subst (λ z. F (at + length z) h.1) h.3 h.4)

pub heads : (x y : ℕ) (p q a b c d : List ℕ) → a ≡ x ∷ p → c ≡ y ∷ q → a ++ b ≡ c ++ d → x ≡ y
heads x y p q a b c d e f g = one_head x y (p ++ b) (q ++ d) (sym (ap (λ z. z ++ b) e) ∙ g ∙ ap (λ z. z ++ d) f)

one_max : (low low' : ℕ) (high high' : Option ℕ) (at : ℕ) (a b c d : List ℕ) → Maximum low high at a → Maximum low' high' at c → a ++ b ≡ c ++ d → (low ≡ low') × (high ≡ high') × (a ≡ c)
one_max low low' None None at a b c d h k e =
    let s = one_pair _ _ (one_exact (0x00 ∷ [])) one_number (tt, low) (tt, low') at a b c d h k e in
    (ap (λ t. t.1) s.value, refl, s.front)
one_max low low' None (Some high') at a b c d h k e =
    let p = first_byte 0 (Number low) at a h in
    let q = first_byte 1 (Number low' ▸ Number high') at c k in
    absurd (omega (arith, heads 0 1 p.0 q.0 a b c d p.1 q.1 e))
one_max low low' (Some high) None at a b c d h k e =
    let p = first_byte 1 (Number low ▸ Number high) at a h in
    let q = first_byte 0 (Number low') at c k in
    absurd (omega (arith, heads 1 0 p.0 q.0 a b c d p.1 q.1 e))
one_max low low' (Some high) (Some high') at a b c d h k e =
    let s = one_pair _ _ (one_exact (0x01 ∷ [])) (one_pair _ _ one_number one_number) (tt, (low, high)) (tt, (low', high')) at a b c d h k e in
    (ap (λ t. t.1.0) s.value, ap (λ t. Some t.1.1) s.value, s.front)

pub one_limits : One LimitsOf
one_limits x y at a b c d h k e =
    let s = one_max x.min y.min x.max y.max at a b c d h k e in
    record { value = λ i. record { min = s.0 i; max = s.1 i }; front = s.2 }

pub one_table : One TableType
one_table = one_view TableType (Pair (λ (u : Unit {0}). Exactly (0x70 ∷ [])) LimitsOf) (λ l. (tt, l)) (λ p. p.1) (λ l. refl) (λ l at a h. h) (one_pair _ _ (one_exact (0x70 ∷ [])) one_limits)

pub one_global_type : One (λ (t : Placed × Bool). GlobalType t.0 t.1)
one_global_type = one_pair ValueType (λ m. Exactly (mutable_byte m ∷ [])) one_value_type one_mutable

kind_byte : RawKind → ℕ
kind_byte (raw_func sort) = 0
kind_byte (raw_table l) = 1
kind_byte (raw_memory l) = 2
kind_byte (raw_global t m) = 3

kind_head : (k : RawKind) (at : ℕ) (a : List ℕ) → ImportKindOf k at a → (r : List ℕ) × (a ≡ kind_byte k ∷ r)
unfolding kind_byte
kind_head (raw_func sort) at a h = let p = first_byte 0 (Number sort) at a h in (p.0, p.1)
kind_head (raw_table l) at a h = let p = first_byte 1 (TableType l) at a h in (p.0, p.1)
kind_head (raw_memory l) at a h = let p = first_byte 2 (LimitsOf l) at a h in (p.0, p.1)
kind_head (raw_global t m) at a h = let p = first_byte 3 (GlobalType t m) at a h in (p.0, p.1)

kinds_same : (x y : RawKind) (at : ℕ) (a b c d : List ℕ) → ImportKindOf x at a → ImportKindOf y at c → a ++ b ≡ c ++ d → kind_byte x ≡ kind_byte y
kinds_same x y at a b c d h k e =
    let p = kind_head x at a h in
    let q = kind_head y at c k in
    heads (kind_byte x) (kind_byte y) p.0 q.0 a b c d p.1 q.1 e

one_same_kind : (x y : RawKind) (at : ℕ) (a b c d : List ℕ) → kind_byte x ≡ kind_byte y → ImportKindOf x at a → ImportKindOf y at c → a ++ b ≡ c ++ d → Same x y a c
unfolding kind_byte
one_same_kind (raw_func s) (raw_func t) at a b c d n h k e =
    let o = one_pair _ _ (one_exact (0x00 ∷ [])) one_number (tt, s) (tt, t) at a b c d h k e in
    record { value = ap (λ p. raw_func p.1) o.value; front = o.front }
one_same_kind (raw_table s) (raw_table t) at a b c d n h k e =
    let o = one_pair _ _ (one_exact (0x01 ∷ [])) one_table (tt, s) (tt, t) at a b c d h k e in
    record { value = ap (λ p. raw_table p.1) o.value; front = o.front }
one_same_kind (raw_memory s) (raw_memory t) at a b c d n h k e =
    let o = one_pair _ _ (one_exact (0x02 ∷ [])) one_limits (tt, s) (tt, t) at a b c d h k e in
    record { value = ap (λ p. raw_memory p.1) o.value; front = o.front }
one_same_kind (raw_global s m) (raw_global t n) at a b c d w h k e =
    let o = one_pair (λ (u : Unit {0}). Exactly (0x03 ∷ [])) (λ (t : Placed × Bool). GlobalType t.0 t.1) (one_exact (0x03 ∷ [])) one_global_type (tt, (s, m)) (tt, (t, n)) at a b c d h k e in
    record { value = ap (λ p. raw_global p.1.0 p.1.1) o.value; front = o.front }
one_same_kind (raw_func s) _ at a b c d n h k e = absurd (omega (arith, n))
one_same_kind (raw_table s) _ at a b c d n h k e = absurd (omega (arith, n))
one_same_kind (raw_memory s) _ at a b c d n h k e = absurd (omega (arith, n))
one_same_kind (raw_global s m) _ at a b c d n h k e = absurd (omega (arith, n))

pub one_kind : One ImportKindOf
one_kind x y at a b c d h k e = one_same_kind x y at a b c d (kinds_same x y at a b c d h k e) h k e

pub one_import : One ImportOf
one_import = one_view ImportOf (Pair Text (Pair Text ImportKindOf)) (λ i. (i.module_name, (i.base, i.kind))) (λ p. record { module_name = p.0; base = p.1.0; kind = p.1.1 }) (λ i. refl) (λ i at a h. h)
    (one_pair _ _ one_text (one_pair _ _ one_text one_kind))

pub one_export : One ExportOf
one_export = one_view ExportOf (Pair Text (Pair (λ s. Exactly (space_byte s ∷ [])) Number)) (λ x. (x.name, (x.space, x.index))) (λ p. record { name = p.0; space = p.1.0; index = p.1.1 })
    (λ x. refl) (λ x at a h. h)
    (one_pair _ _ one_text (one_pair _ _ one_space one_number))
