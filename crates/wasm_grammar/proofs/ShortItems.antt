-- Short items, passed over at once.
use Rattle.std.proofs.Common.{◌≡◌, ℕ, suc, zero, ◌+◌, ◌-◌, ◌*◌, ◌^◌, ◌<◌, ◌≤◌, inl, inr, List, [], ◌∷◌, ◌++◌, Option, Some, None, IfSome, Ok, refl, ap, sym, ◌∙◌, subst, arith, length, take, drop, get_or, Bool, true, false, nat_le}
use Rattle.std.specs.Bool.{OnTrue}
use Rattle.std.proofs.lemmas.List.{drop_more, append_assoc}
use Rattle.std.proofs.lemmas.Bool.{le-ltb, cases_lt}
use Rattle.std.proofs.Math.Pow.{pow_mono}
use Rattle.leb_numbers.specs.Leb.{IsUnsigned, IsSigned, last_signed}
use Rattle.wa_types.specs.Opcodes.{Form, no_immediate, an_index, an_access, a_constant, follows, is_block_type, is_float_op, is_float_type}
use Rattle.wa_types.specs.Marks.{place_if}
use Rattle.wa_types.specs.ModuleBounds.{ModuleBounds}
use Rattle.file_laws.specs.declared.marks.Marks.{Marks}
use Rattle.file_laws.specs.Showing.{nothing_seen, floats_seen, opens_seen, levels, shown, Noted}
use Rattle.file_laws.proofs.Noting.{noted_none}
use Rattle.file_laws.proofs.TellingCode.{opens_none}
use Rattle.wa_types.specs.Begun.{Goal, code, block_type, value_type, number, signed, entries, EntryKind, some_runs, Item, a_byte, an_unsigned, a_signed, a_name, a_constant_of, wants, IsItem, next, Inside, Steps, settled, immediates, where_true, and_then, others}
use Rattle.file_laws.proofs.CodeReads.{refuted, none_nest}
use Rattle.wasm_grammar.proofs.LowNumbers.{low_signed}
use Rattle.wasm_grammar.specs.Items.{IsTold, IsWholeItem}
use Rattle.wasm_grammar.specs.Ends.{IsReached}
use Rattle.wasm_grammar.specs.Machine.{Stands}
use Rattle.wasm_grammar.specs.Passing.{IsShort, AreShort, Below, Passes, Opens, Closes, PassesEntries, IsEntryByte, PassesRuns, IsShortRun}
use Rattle.wasm_grammar.proofs.Faults.{between, length_between, front_between, Ready, goes_on}

pub some_by : (o : Option ℕ) (P Q : ℕ → Type 0) → ((x : ℕ) → P x → Q x) → IfSome o P → IfSome o Q
some_by None P Q f h = tt
some_by (Some x) P Q f h = f x h

pub some_both : (o : Option ℕ) (P Q R : ℕ → Type 0) → ((x : ℕ) → P x → Q x → R x) → IfSome o P → IfSome o Q → IfSome o R
some_both None P Q R f h k = tt
some_both (Some x) P Q R f h k = f x h k

pub true_by : (b : Bool) (Q : Type 0) → (b ≡ true → Q) → OnTrue b Q
true_by true Q f = f refl
true_by false Q f = tt

-- goals without an end of their own change nothing below
pub below_more : (g : Goal) (gs : List Goal) (stop : ℕ) → ((j : ℕ) → j < stop → Inside j (g ∷ gs)) → Below stop gs
unfolding Inside
below_more g gs stop b j h = (b j h).1

pub below_code : (b : Bool) (gs : List Goal) (stop : ℕ) → Below stop gs → Below stop (code b ∷ gs)
unfolding Inside
below_code b gs stop h j l = (tt, h j l)

pub below_entries : (k : EntryKind) (n : ℕ) (gs : List Goal) (stop : ℕ) → Below stop gs → Below stop (entries k n ∷ gs)
unfolding Inside
below_entries k n gs stop h j l = (tt, h j l)

below_number : (gs : List Goal) (stop : ℕ) → Below stop gs → Below stop (number ∷ gs)
unfolding Inside
below_number gs stop h j l = (tt, h j l)

below_signed : (bits : ℕ) (gs : List Goal) (stop : ℕ) → Below stop gs → Below stop (signed bits ∷ gs)
unfolding Inside
below_signed bits gs stop h j l = (tt, h j l)

below_type : (gs : List Goal) (stop : ℕ) → Below stop gs → Below stop (block_type ∷ gs)
unfolding Inside
below_type gs stop h j l = (tt, h j l)

below_value : (gs : List Goal) (stop : ℕ) → Below stop gs → Below stop (value_type ∷ gs)
unfolding Inside
below_value gs stop h j l = (tt, h j l)

told_self : (i : Item) (v : ℕ) → IsTold i v v
told_self a_byte v = refl
told_self an_unsigned v = refl
told_self (a_signed bits) v = tt
told_self (a_name n) v = refl
told_self (a_constant_of n) v = refl

one_between : (bytes : List ℕ) (at end : ℕ) → at < length bytes → end ≡ at + 1 → between bytes at end ≡ get_or bytes at 0 ∷ []
one_between bytes at end h e =
    let one : end - at ≡ 1 = omega (arith, e) in
    ap (λ n. take n (drop at bytes)) one ∙ ap (take 1) (drop_more bytes at 0 h)

-- an item leads on
item_on : {bounds : ModuleBounds} {m : Marks} (n : Marks) (bytes : List ℕ) (at end stop : ℕ) (g : Goal) (gs new hs : List Goal) (v : ℕ) → at ≤ end → end < stop → stop ≤ length bytes
    → Below stop (g ∷ gs) → Stands bounds m bytes at (g ∷ gs) → IsItem (wants g) (between bytes at end) v → next g v end ≡ Some new → Noted bounds (shown bounds g gs v at) m n
    → settled end (new ++ gs) ≡ Some hs → Below stop hs → Stands bounds n bytes end hs
item_on {bounds = bounds} {m = m} n bytes at end stop g gs new hs v ahead room fits below s it e noted t inside =
    let y : Ready bounds m bytes at stop g gs = record { room = omega (arith, ahead, room); fits = fits; leads = s.leads; marked = s.marked; below = below } in
    let long = length_between bytes at stop (omega (arith, ahead, room)) fits in
    let place : at + (end - at) ≡ end = omega (arith, ahead) in
    let front : take (end - at) (between bytes at stop) ≡ between bytes at end =
    front_between bytes at stop (end - at) (omega (arith, ahead, room)) fits ∙ ap (between bytes at) place in
    let w : IsWholeItem (wants g) (between bytes at stop) v (end - at) = record {
      within = omega (arith, long, room);
      value = v;
      is_item = subst (λ z. IsItem (wants g) z v) (sym front) it;
      is_told = told_self (wants g) v;
    } in
    let steps : Steps g gs v end hs = record { new = new; pushed = e; settles = t; inside = inside end room } in
    subst (λ k. Stands bounds n bytes k hs) place
    (goes_on bytes at stop g gs y n v (end - at) hs w noted (subst (λ k. Steps g gs v k hs) (sym place) steps))

-- an item of one byte leads on
one_on : {bounds : ModuleBounds} {m : Marks} (n : Marks) (bytes : List ℕ) (at stop : ℕ) (g : Goal) (gs new hs : List Goal) (v : ℕ) → at + 1 < stop → stop ≤ length bytes
    → Below stop (g ∷ gs) → Stands bounds m bytes at (g ∷ gs) → IsItem (wants g) (get_or bytes at 0 ∷ []) v → next g v (at + 1) ≡ Some new → Noted bounds (shown bounds g gs v at) m n
    → settled (at + 1) (new ++ gs) ≡ Some hs → Below stop hs → Stands bounds n bytes (at + 1) hs
one_on n bytes at stop g gs new hs v room fits below s it e noted t inside =
    item_on n bytes at (at + 1) stop g gs new hs v (omega arith) room fits below s
    (subst (λ z. IsItem (wants g) z v) (sym (one_between bytes at (at + 1) (omega (arith, room, fits)) refl)) it) e noted t inside

-- a signed number of one byte that isn't negative
signed_value : (bits b : ℕ) → 7 < bits → b < 128 → (n : ℕ) × (last_signed bits b ≡ Ok n)
signed_value bits b many h =
    let p : 128 ≤ 2 ^ (bits - 1) = pow_mono {i = 7} {j = bits - 1} (omega arith) in
    elim (cases_lt b 64) [
      | inl lt ↦ (b, low_signed bits b many lt)
      | inr ge ↦ (b + 2 ^ bits - 128, rw (le-ltb b 64 ge, le-ltb (b + 2 ^ (bits - 1)) 128 (omega (arith, p))) refl)
    ]

-- short numbers
unsigned_by : (k bits : ℕ) (a : List ℕ) → 7 * k < bits → IsShort k a → (n : ℕ) × IsUnsigned bits a n
unsigned_by zero bits a many h = absurd h
unsigned_by (suc k) bits [] many h = absurd h
unsigned_by (suc k) bits (b ∷ bs) many (inl h) =
    let p : 128 ≤ 2 ^ bits = pow_mono {i = 7} {j = bits} (omega (arith, many)) in
    (b, inl (h.0, omega (arith, h.0, p), h.1, refl))
unsigned_by (suc k) bits (b ∷ bs) many (inr h) =
    let high = unsigned_by k (bits - 7) bs (omega (arith, many)) h.2 in
    (b + 128 * high.0 - 128, inr (h.0, h.1, omega (arith, many), high.0, omega (arith, h.0), high.1))

signed_by : (k bits : ℕ) (a : List ℕ) → 7 * k < bits → IsShort k a → (n : ℕ) × IsSigned bits a n
signed_by zero bits a many h = absurd h
signed_by (suc k) bits [] many h = absurd h
signed_by (suc k) bits (b ∷ bs) many (inl h) =
    let s = signed_value bits b (omega (arith, many)) h.0 in
    (s.0, inl (h.0, h.1, s.1))
signed_by (suc k) bits (b ∷ bs) many (inr h) =
    let high = signed_by k (bits - 7) bs (omega (arith, many)) h.2 in
    (b + 128 * high.0 - 128, inr (h.0, h.1, omega (arith, many), high.0, omega (arith, h.0), high.1))

-- code
settled_code : (at : ℕ) (b : Bool) (gs : List Goal) → settled at (code b ∷ gs) ≡ Some (code b ∷ gs)
unfolding settled
settled_code at b gs = refl

settled_number : (at : ℕ) (gs : List Goal) → settled at (number ∷ gs) ≡ Some (number ∷ gs)
unfolding settled
settled_number at gs = refl

settled_signed : (at bits : ℕ) (gs : List Goal) → settled at (signed bits ∷ gs) ≡ Some (signed bits ∷ gs)
unfolding settled
settled_signed at bits gs = refl

settled_type : (at : ℕ) (gs : List Goal) → settled at (block_type ∷ gs) ≡ Some (block_type ∷ gs)
unfolding settled
settled_type at gs = refl

settled_value : (at : ℕ) (gs : List Goal) → settled at (value_type ∷ gs) ≡ Some (value_type ∷ gs)
unfolding settled
settled_value at gs = refl

settled_entries : (at : ℕ) (k : EntryKind) (n : ℕ) (gs : List Goal) → settled at (entries k n ∷ gs) ≡ Some (entries k n ∷ gs)
unfolding settled
settled_entries at k n gs = refl

plain_next : (first_arm : Bool) (op at : ℕ) (f : Form) → follows op ≡ Some f → next (code first_arm) op at ≡ Some (immediates f ++ code first_arm ∷ [])
unfolding next follows
plain_next first_arm op at f e = rw (refuted op 0x0B f e refl, refuted op 0x05 f e refl, none_nest op f e, refuted op 0x04 f e refl, e) refl

plain_shown : (bounds : ModuleBounds) (b : Bool) (gs : List Goal) (op at : ℕ) (f : Form) → follows op ≡ Some f → is_float_op op ≡ false → shown bounds (code b) gs op at ≡ nothing_seen
plain_shown bounds b gs op at f e whole = rw (whole, opens_none op f e) refl

-- a number behind an opcode
number_on : {bounds : ModuleBounds} {m : Marks} (bytes : List ℕ) (at end stop : ℕ) (g : Goal) (gs : List Goal) → at < end → end < stop → stop ≤ length bytes
    → IsShort 4 (between bytes at end) → Below stop (g ∷ gs) → settled end (g ∷ gs) ≡ Some (g ∷ gs) → Stands bounds m bytes at (number ∷ g ∷ gs) → Stands bounds m bytes end (g ∷ gs)
unfolding next
number_on {bounds = bounds} {m = m} bytes at end stop g gs ahead room fits short below t s =
    let n = unsigned_by 4 32 (between bytes at end) (omega arith) short in
    item_on m bytes at end stop number (g ∷ gs) [] (g ∷ gs) n.0 (omega (arith, ahead)) room fits (below_number (g ∷ gs) stop below) s n.1 refl (noted_none bounds m) t below

-- an opcode, and what its numbers have to lead to
opcode_on : {bounds : ModuleBounds} {m : Marks} (bytes : List ℕ) (at stop : ℕ) (f : Form) (b : Bool) (gs : List Goal) → at + 1 < stop → stop ≤ length bytes
    → Some f ≡ follows (get_or bytes at 0) → is_float_op (get_or bytes at 0) ≡ false → Below stop gs → settled (at + 1) (immediates f ++ code b ∷ gs) ≡ Some (immediates f ++ code b ∷ gs)
    → Below stop (immediates f ++ code b ∷ gs) → Stands bounds m bytes at (code b ∷ gs) → Stands bounds m bytes (at + 1) (immediates f ++ code b ∷ gs)
opcode_on {bounds = bounds} {m = m} bytes at stop f b gs room fits e whole below t inside s =
    one_on m bytes at stop (code b) gs (immediates f ++ code b ∷ []) (immediates f ++ code b ∷ gs) (get_or bytes at 0) room fits (below_code b gs stop below) s refl (plain_next b _ (at + 1) f (sym e))
    (subst (λ z. Noted bounds z m m) (sym (plain_shown bounds b gs _ at f (sym e) whole)) (noted_none bounds m)) (ap (settled (at + 1)) (append_assoc (immediates f) (code b ∷ []) gs) ∙ t) inside

pub passes_nothing : (bytes : List ℕ) (at stop : ℕ) → at + 1 < stop → stop ≤ length bytes → Some no_immediate ≡ follows (get_or bytes at 0) → is_float_op (get_or bytes at 0) ≡ false
    → Passes bytes at (at + 1) stop
passes_nothing bytes at stop room fits e whole bounds m b gs below s =
    opcode_on bytes at stop no_immediate b gs room fits e whole below (settled_code (at + 1) b gs) (below_code b gs stop below) s

pub passes_index : (bytes : List ℕ) (at end stop : ℕ) → at + 1 < end → end < stop → stop ≤ length bytes → Some an_index ≡ follows (get_or bytes at 0)
    → is_float_op (get_or bytes at 0) ≡ false → IsShort 4 (between bytes (at + 1) end) → Passes bytes at end stop
passes_index bytes at end stop ahead room fits e whole short bounds m b gs below s =
    let inside = below_code b gs stop below in
    number_on bytes (at + 1) end stop (code b) gs ahead room fits short inside (settled_code end b gs)
    (opcode_on bytes at stop an_index b gs (omega (arith, ahead, room)) fits e whole below (settled_number (at + 1) (code b ∷ gs)) (below_number (code b ∷ gs) stop inside) s)

pub passes_access : (bytes : List ℕ) (at end stop : ℕ) → end < stop → stop ≤ length bytes → Some an_access ≡ follows (get_or bytes at 0) → is_float_op (get_or bytes at 0) ≡ false
    → AreShort bytes (at + 1) end → Passes bytes at end stop
passes_access bytes at end stop room fits e whole short bounds m b gs below s =
    let inside = below_code b gs stop below in
    let one = below_number (code b ∷ gs) stop inside in
    let room_before : at + 1 < stop = omega (arith, short.ahead, short.more, room) in
    number_on bytes short.second end stop (code b) gs short.more room fits short.second_short inside (settled_code end b gs)
    (number_on bytes (at + 1) short.second stop number (code b ∷ gs) short.ahead (omega (arith, short.more, room)) fits short.first_short one (settled_number short.second (code b ∷ gs))
    (opcode_on bytes at stop an_access b gs room_before fits e whole below (settled_number (at + 1) (number ∷ code b ∷ gs)) (below_number (number ∷ code b ∷ gs) stop one) s))

pub passes_constant : (bits : ℕ) (bytes : List ℕ) (at end stop : ℕ) → 28 < bits → at + 1 < end → end < stop → stop ≤ length bytes → Some (a_constant bits) ≡ follows (get_or bytes at 0)
    → is_float_op (get_or bytes at 0) ≡ false → IsShort 4 (between bytes (at + 1) end) → Passes bytes at end stop
unfolding next
passes_constant bits bytes at end stop many ahead room fits e whole short bounds m b gs below s =
    let inside = below_code b gs stop below in
    let n = signed_by 4 bits (between bytes (at + 1) end) (omega (arith, many)) short in
    item_on m bytes (at + 1) end stop (signed bits) (code b ∷ gs) [] (code b ∷ gs) n.0 (omega (arith, ahead)) room fits (below_signed bits (code b ∷ gs) stop inside)
    (opcode_on bytes at stop (a_constant bits) b gs (omega (arith, ahead, room)) fits e whole below (settled_signed (at + 1) bits (code b ∷ gs)) (below_signed bits (code b ∷ gs) stop inside) s)
    n.1 refl (noted_none bounds m) (settled_code end b gs) inside

-- the head of a construct
opens_level : (bytes : List ℕ) (at stop : ℕ) (inner : Bool) → at + 2 < stop → stop ≤ length bytes
    → ((b : Bool) → next (code b) (get_or bytes at 0) (at + 1) ≡ Some (block_type ∷ code inner ∷ code b ∷ []))
    → ((bounds : ModuleBounds) (b : Bool) (gs : List Goal) → shown bounds (code b) gs (get_or bytes at 0) at ≡ opens_seen (place_if (nat_le bounds.nesting (levels gs)) at))
    → is_block_type (get_or bytes (at + 1) 0) ≡ true → is_float_type (get_or bytes (at + 1) 0) ≡ false → Opens bytes at inner stop
unfolding next
opens_level bytes at stop inner room fits e level typed whole bounds m n b gs below noted s =
    let inside = below_code inner (code b ∷ gs) stop (below_code b gs stop below) in
    let one : Stands bounds n bytes (at + 1) (block_type ∷ code inner ∷ code b ∷ gs) =
    one_on n bytes at stop (code b) gs (block_type ∷ code inner ∷ code b ∷ []) (block_type ∷ code inner ∷ code b ∷ gs) (get_or bytes at 0) (omega (arith, room)) fits
    (below_code b gs stop below) s refl (e b) (subst (λ z. Noted bounds z m n) (sym (level bounds b gs)) noted) (settled_type (at + 1) (code inner ∷ code b ∷ gs))
    (below_type (code inner ∷ code b ∷ gs) stop inside) in
    let place : at + 1 + 1 ≡ at + 2 = omega arith in
    subst (λ k. Stands bounds n bytes k (code inner ∷ code b ∷ gs)) place
    (one_on n bytes (at + 1) stop block_type (code inner ∷ code b ∷ gs) [] (code inner ∷ code b ∷ gs) (get_or bytes (at + 1) 0) (omega (arith, room)) fits
    (below_type (code inner ∷ code b ∷ gs) stop inside) one refl (ap (λ t. where_true t []) typed)
    (subst (λ z. Noted bounds (floats_seen (place_if z (at + 1))) n n) (sym whole) (noted_none bounds n)) (settled_code (at + 1 + 1) inner (code b ∷ gs)) inside)

level_of : (op k at : ℕ) (inner b : Bool) → op ≡ k → next (code b) k at ≡ Some (block_type ∷ code inner ∷ code b ∷ []) → next (code b) op at ≡ Some (block_type ∷ code inner ∷ code b ∷ [])
level_of op k at inner b e h = ap (λ z. next (code b) z at) e ∙ h

pub opens_block : (bytes : List ℕ) (at stop : ℕ) → at + 2 < stop → stop ≤ length bytes → get_or bytes at 0 ≡ 0x02 → is_block_type (get_or bytes (at + 1) 0) ≡ true
    → is_float_type (get_or bytes (at + 1) 0) ≡ false → Opens bytes at false stop
unfolding next
opens_block bytes at stop room fits e typed whole =
    opens_level bytes at stop false room fits (λ b. level_of _ 0x02 (at + 1) false b e refl) (λ bounds b gs. ap (λ z. shown bounds (code b) gs z at) e) typed whole

pub opens_loop : (bytes : List ℕ) (at stop : ℕ) → at + 2 < stop → stop ≤ length bytes → get_or bytes at 0 ≡ 0x03 → is_block_type (get_or bytes (at + 1) 0) ≡ true
    → is_float_type (get_or bytes (at + 1) 0) ≡ false → Opens bytes at false stop
unfolding next
opens_loop bytes at stop room fits e typed whole =
    opens_level bytes at stop false room fits (λ b. level_of _ 0x03 (at + 1) false b e refl) (λ bounds b gs. ap (λ z. shown bounds (code b) gs z at) e) typed whole

pub opens_if : (bytes : List ℕ) (at stop : ℕ) → at + 2 < stop → stop ≤ length bytes → get_or bytes at 0 ≡ 0x04 → is_block_type (get_or bytes (at + 1) 0) ≡ true
    → is_float_type (get_or bytes (at + 1) 0) ≡ false → Opens bytes at true stop
unfolding next
opens_if bytes at stop room fits e typed whole =
    opens_level bytes at stop true room fits (λ b. level_of _ 0x04 (at + 1) true b e refl) (λ bounds b gs. ap (λ z. shown bounds (code b) gs z at) e) typed whole

pub closes_level : (bytes : List ℕ) (at stop : ℕ) → at + 1 < stop → stop ≤ length bytes → get_or bytes at 0 ≡ 0x0B → Closes bytes at stop
unfolding next
closes_level bytes at stop room fits e bounds m inner b gs below s =
    let h : next (code inner) 0x0B (at + 1) ≡ Some [] = refl in
    let outside = below_code b gs stop below in
    one_on m bytes at stop (code inner) (code b ∷ gs) [] (code b ∷ gs) (get_or bytes at 0) room fits (below_code inner (code b ∷ gs) stop outside) s refl (ap (λ z. next (code inner) z (at + 1)) e ∙ h)
    (subst (λ z. Noted bounds (shown bounds (code inner) (code b ∷ gs) z at) m m) (sym e) (noted_none bounds m)) (settled_code (at + 1) b gs) outside

-- entries
pub passes_none : (bytes : List ℕ) (k : EntryKind) (n at stop : ℕ) → PassesEntries bytes k n at 0 stop
passes_none bytes k n at stop bounds m gs below s =
    let place : at ≡ at + 0 = omega arith in
    let left : n ≡ n - 0 = omega arith in
    subst (λ z. Stands bounds m bytes (at + 0) (entries k z ∷ gs)) left (subst (λ z. Stands bounds m bytes z (entries k n ∷ gs)) place s)

past : (a b : ℕ) → b < a → nat_le a b ≡ false
past a b h = grind (arith)

more_left : (k : EntryKind) (m : ℕ) → 1 < m → others k m ≡ entries k (m - 1) ∷ []
more_left k m h = rw (past m 1 h) refl

pub passes_more : (bytes : List ℕ) (k : EntryKind) (n at i stop : ℕ) → at + i + 1 < stop → stop ≤ length bytes → i + 1 < n → IsEntryByte k (get_or bytes (at + i) 0)
    → PassesEntries bytes k n at i stop → PassesEntries bytes k n at (i + 1) stop
unfolding next
passes_more bytes k n at i stop room fits more a before bounds m gs below s =
    let e : next (entries k (n - i)) (get_or bytes (at + i) 0) (at + i + 1) ≡ Some (entries k (n - i - 1) ∷ []) =
    ap (λ z. and_then z (others k (n - i))) (a.leaves_none (at + i + 1)) ∙ ap Some (more_left k (n - i) (omega (arith, more))) in
    let place : at + i + 1 ≡ at + (i + 1) = omega arith in
    let left : n - i - 1 ≡ n - (i + 1) = omega arith in
    let there : Stands bounds m bytes (at + i + 1) (entries k (n - i - 1) ∷ gs) =
    one_on m bytes (at + i) stop (entries k (n - i)) gs (entries k (n - i - 1) ∷ []) (entries k (n - i - 1) ∷ gs) (get_or bytes (at + i) 0) room fits (below_entries k (n - i) gs stop below)
    (before bounds m gs below s) a.is_item e (subst (λ z. Noted bounds z m m) (sym (a.shows_none (at + i))) (noted_none bounds m)) (settled_entries (at + i + 1) k (n - i - 1) gs)
    (below_entries k (n - i - 1) gs stop below) in
    subst (λ z. Stands bounds m bytes (at + (i + 1)) (entries k z ∷ gs)) left (subst (λ z. Stands bounds m bytes z (entries k (n - i - 1) ∷ gs)) place there)

-- runs of two bytes
byte_number : (b : ℕ) → b < 128 → IsUnsigned 32 (b ∷ []) b
byte_number b h =
    let p : 128 ≤ 2 ^ 32 = pow_mono {i = 7} {j = 32} (omega arith) in
    inl (h, omega (arith, h, p), refl, refl)

pub passes_no_run : (bytes : List ℕ) (n at stop : ℕ) → PassesRuns bytes n at 0 stop
passes_no_run bytes n at stop bounds m gs below s =
    let place : at ≡ at + 2 * 0 = omega arith in
    let left : n ≡ n - 0 = omega arith in
    subst (λ z. Stands bounds m bytes (at + 2 * 0) (entries some_runs z ∷ gs)) left (subst (λ z. Stands bounds m bytes z (entries some_runs n ∷ gs)) place s)

pub passes_one_run : (bytes : List ℕ) (n at i stop : ℕ) → at + 2 * i + 2 < stop → stop ≤ length bytes → i + 1 < n
    → IsShortRun (get_or bytes (at + 2 * i) 0) (get_or bytes (at + 2 * i + 1) 0) → PassesRuns bytes n at i stop → PassesRuns bytes n at (i + 1) stop
unfolding next
passes_one_run bytes n at i stop room fits more run before bounds m gs below s =
    let left : List Goal = entries some_runs (n - i - 1) ∷ gs in
    let inside : Below stop left = below_entries some_runs (n - i - 1) gs stop below in
    let e : next (entries some_runs (n - i)) (get_or bytes (at + 2 * i) 0) (at + 2 * i + 1) ≡ Some (value_type ∷ entries some_runs (n - i - 1) ∷ []) =
    ap (λ z. Some (value_type ∷ z)) (more_left some_runs (n - i) (omega (arith, more))) in
    let one : Stands bounds m bytes (at + 2 * i + 1) (value_type ∷ left) =
    one_on m bytes (at + 2 * i) stop (entries some_runs (n - i)) gs (value_type ∷ entries some_runs (n - i - 1) ∷ []) (value_type ∷ left) (get_or bytes (at + 2 * i) 0)
    (omega (arith, room)) fits (below_entries some_runs (n - i) gs stop below) (before bounds m gs below s)
    (byte_number _ run.small) e (noted_none bounds m) (settled_value (at + 2 * i + 1) left) (below_value left stop inside) in
    let two : Stands bounds m bytes (at + 2 * i + 1 + 1) left =
    one_on m bytes (at + 2 * i + 1) stop value_type left [] left (get_or bytes (at + 2 * i + 1) 0) (omega (arith, room)) fits
    (below_value left stop inside) one refl (ap (λ t. where_true t []) run.typed)
    (subst (λ z. Noted bounds (floats_seen (place_if z (at + 2 * i + 1))) m m) (sym run.whole_number) (noted_none bounds m)) (settled_entries (at + 2 * i + 1 + 1) some_runs (n - i - 1) gs) inside in
    let place : at + 2 * i + 1 + 1 ≡ at + 2 * (i + 1) = omega arith in
    let fewer : n - i - 1 ≡ n - (i + 1) = omega arith in
    subst (λ z. Stands bounds m bytes (at + 2 * (i + 1)) (entries some_runs z ∷ gs)) fewer (subst (λ z. Stands bounds m bytes z left) place two)

-- the machine's goals
pub entries_on : {bounds : ModuleBounds} {m : Marks} (bytes : List ℕ) (all popped new : List Goal) (g : Goal) (k : EntryKind) (n at passed stop : ℕ) → all ≡ g ∷ drop 1 all → g ≡ entries k n
    → popped ≡ drop 1 all → new ≡ entries k (n - passed) ∷ popped → Stands bounds m bytes at all → Below stop all → PassesEntries bytes k n at passed stop
    → Stands bounds m bytes (at + passed) new
entries_on {bounds = bounds} {m = m} bytes all popped new g k n at passed stop top is less more s below on =
    let whole : all ≡ entries k n ∷ drop 1 all = top ∙ ap (λ z. z ∷ drop 1 all) is in
    subst (Stands bounds m bytes (at + passed)) (sym (more ∙ ap (λ z. entries k (n - passed) ∷ z) less))
    (on bounds m (drop 1 all) (below_more (entries k n) (drop 1 all) stop (subst (Below stop) whole below)) (subst (Stands bounds m bytes at) whole s))

pub entries_below : (all popped new : List Goal) (g : Goal) (k : EntryKind) (n stop : ℕ) → all ≡ g ∷ drop 1 all → popped ≡ drop 1 all → new ≡ entries k n ∷ popped → Below stop all → Below stop new
entries_below all popped new g k n stop top less more below =
    subst (Below stop) (sym (more ∙ ap (λ z. entries k n ∷ z) less)) (below_entries k n (drop 1 all) stop (below_more g (drop 1 all) stop (subst (Below stop) top below)))

pub runs_on : {bounds : ModuleBounds} {m : Marks} (bytes : List ℕ) (all popped new : List Goal) (n at passed stop : ℕ) → all ≡ entries some_runs n ∷ drop 1 all → popped ≡ drop 1 all
    → new ≡ entries some_runs (n - passed) ∷ popped → Stands bounds m bytes at all → Below stop all → PassesRuns bytes n at passed stop → Stands bounds m bytes (at + 2 * passed) new
runs_on {bounds = bounds} {m = m} bytes all popped new n at passed stop top less more s below on =
    subst (Stands bounds m bytes (at + 2 * passed)) (sym (more ∙ ap (λ z. entries some_runs (n - passed) ∷ z) less))
    (on bounds m (drop 1 all) (below_more (entries some_runs n) (drop 1 all) stop (subst (Below stop) top below)) (subst (Stands bounds m bytes at) top s))

module _ {bounds : ModuleBounds} {m : Marks} (bytes : List ℕ) (all : List Goal) (g : Goal) (at end stop : ℕ) (top : all ≡ g ∷ drop 1 all) (is : (first_arm : Bool) × (g ≡ code first_arm))
    (s : Stands bounds m bytes at all) (below : Below stop all) (on : Passes bytes at end stop) where
  whole_is : all ≡ code is.0 ∷ drop 1 all
  whole_is = top ∙ ap (λ z. z ∷ drop 1 all) is.1

  rest_below : Below stop (drop 1 all)
  rest_below = below_more (code is.0) (drop 1 all) stop (subst (Below stop) whole_is below)

  far : Stands bounds m bytes end (code is.0 ∷ drop 1 all)
  far = on bounds m is.0 (drop 1 all) rest_below (subst (Stands bounds m bytes at) whole_is s)

  pub code_on : Stands bounds m bytes end all
  code_on = subst (Stands bounds m bytes end) (sym whole_is) far

  pub level_on : (n : Marks) (level : ℕ) (inner : Bool) (new : List Goal) → new ≡ code inner ∷ all → level ≡ levels (drop 1 all)
      → Noted bounds (opens_seen (place_if (nat_le bounds.nesting level) end)) m n → Opens bytes end inner stop → Stands bounds n bytes (end + 2) new
  level_on n level inner new e deep noted opens =
      subst (Stands bounds n bytes (end + 2)) (sym (e ∙ ap (λ z. code inner ∷ z) whole_is))
      (opens bounds m n is.0 (drop 1 all) rest_below (subst (λ z. Noted bounds (opens_seen (place_if (nat_le bounds.nesting z) end)) m n) deep noted) far)

  pub closed_on : (h : Goal) (new : List Goal) → drop 1 all ≡ h ∷ drop 2 all → (first_arm : Bool) × (h ≡ code first_arm) → new ≡ drop 1 all → Closes bytes end stop
      → Stands bounds m bytes (end + 1) new
  closed_on h new e f less closes =
      let outer : drop 1 all ≡ code f.0 ∷ drop 2 all = e ∙ ap (λ z. z ∷ drop 2 all) f.1 in
      subst (Stands bounds m bytes (end + 1)) (sym (less ∙ outer))
      (closes bounds m is.0 f.0 (drop 2 all) (below_more (code f.0) (drop 2 all) stop (subst (Below stop) outer rest_below)) (subst (λ z. Stands bounds m bytes end (code is.0 ∷ z)) outer far))

pub level_below : (inner : Bool) (all new : List Goal) (stop : ℕ) → new ≡ code inner ∷ all → Below stop all → Below stop new
level_below inner all new stop e below = subst (Below stop) (sym e) (below_code inner all stop below)

pub closed_below : (all new : List Goal) (g : Goal) (stop : ℕ) → all ≡ g ∷ drop 1 all → new ≡ drop 1 all → Below stop all → Below stop new
closed_below all new g stop top less below = subst (Below stop) (sym less) (below_more g (drop 1 all) stop (subst (Below stop) top below))

-- the least end is one that no goal passes
pub reached_below : (gs : List Goal) (last stop : ℕ) → IsReached gs last (Some stop) → Below stop gs
reached_below gs last stop h = h.1

pub reached_fits : (gs : List Goal) (last stop : ℕ) → IsReached gs last (Some stop) → stop ≤ last
reached_fits gs last stop h = h.0
