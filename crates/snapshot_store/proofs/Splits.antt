-- Two texts with parts of one form at the front that are equal have equal parts there, and equal rests.
use Rattle.std.proofs.Common.{◌≡◌, ℕ, ◌*◌, ◌%◌, ◌<◌, ◌^◌, List, [], ◌∷◌, ◌++◌, length, take, drop, refl, sym, ◌∙◌, ap, arith, append_assoc, All, get_or}
use Rattle.std.proofs.lemmas.List.{take_at, drop_at, append-nil}
use Rattle.std.proofs.lemmas.List.Elements.{All-head, All-tail}
use Rattle.std.specs.List.{flat_map}
use Rattle.wa_types.specs.declared.values.Value.{Value}
use Rattle.wa_types.specs.declared.values.Value.TheVariants.{I32, I64}
use Rattle.wa_types.specs.Memory.{bytes_of, number_of_bytes, page_size}
use Rattle.wa_types.specs.Sizes.{value_fits}
use Rattle.wa_types.proofs.MemoryLemmas.{length-bytes_of, number_of_bytes-bytes_of}
use Rattle.snapshot_store.specs.Snapshots.{PausedParts, ProgramRecord, fresh, paused, over, Snapshot, PartsFit, RecordFits, SnapText, global_bytes, parts_bytes, record_bytes, snapshot_bytes}
use Rattle.snapshot_store.specs.Parts.{Head, HeadFits, head_bytes}

-- parts of one length
pub split : (a b r s : List ℕ) → length a ≡ length b → a ++ r ≡ b ++ s → (a ≡ b) × (r ≡ s)
split a b r s l e =
    (sym (take_at a r (length b) l) ∙ ap (take (length b)) e ∙ take_at b s (length b) refl, sym (drop_at a r (length b) l) ∙ ap (drop (length b)) e ∙ drop_at b s (length b) refl)

-- numbers of so many bytes
number_split : (width m n : ℕ) (r s : List ℕ) → m % 256 ^ width ≡ m → n % 256 ^ width ≡ n → bytes_of width m ++ r ≡ bytes_of width n ++ s → (m ≡ n) × (r ≡ s)
number_split width m n r s hm hn e =
    let h = split (bytes_of width m) (bytes_of width n) r s (length-bytes_of width m ∙ sym (length-bytes_of width n)) e in
    (sym (number_of_bytes-bytes_of width m ∙ hm) ∙ ap number_of_bytes h.0 ∙ (number_of_bytes-bytes_of width n ∙ hn), h.1)

pub u32_split : (m n : ℕ) (r s : List ℕ) → m < 2 ^ 32 → n < 2 ^ 32 → bytes_of 4 m ++ r ≡ bytes_of 4 n ++ s → (m ≡ n) × (r ≡ s)
u32_split m n r s hm hn e = number_split 4 m n r s (omega arith) (omega arith) e

pub u64_split : (m n : ℕ) (r s : List ℕ) → m < 2 ^ 64 → n < 2 ^ 64 → bytes_of 8 m ++ r ≡ bytes_of 8 n ++ s → (m ≡ n) × (r ≡ s)
u64_split m n r s hm hn e = number_split 8 m n r s (omega arith) (omega arith) e

-- the same of numbers with something behind them
pub moved : (a b t u r s : List ℕ) → (a ++ t) ++ r ≡ (b ++ u) ++ s → a ++ (t ++ r) ≡ b ++ (u ++ s)
moved a b t u r s e = sym (append_assoc a t r) ∙ e ∙ append_assoc b u s

pub u32_peel : (m n : ℕ) (t u r s : List ℕ) → m < 2 ^ 32 → n < 2 ^ 32 → (bytes_of 4 m ++ t) ++ r ≡ (bytes_of 4 n ++ u) ++ s → (m ≡ n) × (t ++ r ≡ u ++ s)
u32_peel m n t u r s hm hn e = u32_split m n (t ++ r) (u ++ s) hm hn (moved (bytes_of 4 m) (bytes_of 4 n) t u r s e)

pub u64_peel : (m n : ℕ) (t u r s : List ℕ) → m < 2 ^ 64 → n < 2 ^ 64 → (bytes_of 8 m ++ t) ++ r ≡ (bytes_of 8 n ++ u) ++ s → (m ≡ n) × (t ++ r ≡ u ++ s)
u64_peel m n t u r s hm hn e = u64_split m n (t ++ r) (u ++ s) hm hn (moved (bytes_of 8 m) (bytes_of 8 n) t u r s e)

pub behind_byte : (x y : ℕ) (r s : List ℕ) → x ∷ r ≡ y ∷ s → r ≡ s
behind_byte x y r s e = ap (drop 1) e

pub differ : {r s : List ℕ} (x y : ℕ) → x ∷ r ≡ y ∷ s → (x ≡ y → ⊥) → ⊥
differ x y e h = h (ap (λ (xs : List ℕ). get_or xs 0 0) e)

pub global_split : (v w : Value) (r s : List ℕ) → value_fits v → value_fits w → global_bytes v ++ r ≡ global_bytes w ++ s → (v ≡ w) × (r ≡ s)
global_split (I32 m) (I32 n) r s f g e = let h = u32_split m n r s f g (behind_byte 127 127 (bytes_of 4 m ++ r) (bytes_of 4 n ++ s) e) in (ap I32 h.0, h.1)
global_split (I64 m) (I64 n) r s f g e = let h = u64_split m n r s f g (behind_byte 126 126 (bytes_of 8 m ++ r) (bytes_of 8 n ++ s) e) in (ap I64 h.0, h.1)
global_split (I32 m) (I64 n) r s f g e = absurd (differ 127 126 e (omega arith))
global_split (I64 m) (I32 n) r s f g e = absurd (differ 126 127 e (omega arith))

-- ---- lists of parts

module _ {X : Type 0} (Fits : X → Type 0) (spell : X → List ℕ)
    (part_split : (x y : X) (r s : List ℕ) → Fits x → Fits y → spell x ++ r ≡ spell y ++ s → (x ≡ y) × (r ≡ s)) where
  pub list_split : (xs ys : List X) (r s : List ℕ) → All Fits xs → All Fits ys → length xs ≡ length ys → flat_map spell xs ++ r ≡ flat_map spell ys ++ s → (xs ≡ ys) × (r ≡ s)
  list_split [] [] r s f g l e = (refl, e)
  list_split [] (y ∷ ys) r s f g l e = absurd (omega (arith, l))
  list_split (x ∷ xs) [] r s f g l e = absurd (omega (arith, l))
  list_split (x ∷ xs) (y ∷ ys) r s f g l e =
      let h = part_split x y (flat_map spell xs ++ r) (flat_map spell ys ++ s) (All-head Fits x xs f) (All-head Fits y ys g) (moved (spell x) (spell y) (flat_map spell xs) (flat_map spell ys) r s e) in
      let k = list_split xs ys r s (All-tail Fits x xs f) (All-tail Fits y ys g) (omega (arith, l)) h.1 in
      ((λ i. h.0 i ∷ k.0 i), k.1)

  -- behind fewer than there are, the next one stands
  pub next_stands : (done ys : List X) (r s : List ℕ) → All Fits done → All Fits ys → length done < length ys → flat_map spell done ++ r ≡ flat_map spell ys ++ s
      → (y : X) × (more : List ℕ) × Fits y × (r ≡ spell y ++ more)
  next_stands [] (y ∷ ys) r s f g l e = (y, flat_map spell ys ++ s, All-head Fits y ys g, e ∙ append_assoc (spell y) (flat_map spell ys) s)
  next_stands done [] r s f g l e = absurd (omega (arith, l))
  next_stands (x ∷ done) (y ∷ ys) r s f g l e =
      let h = part_split x y (flat_map spell done ++ r) (flat_map spell ys ++ s) (All-head Fits x done f) (All-head Fits y ys g) (moved (spell x) (spell y) (flat_map spell done) (flat_map spell ys) r s e) in
      next_stands done ys r s (All-tail Fits x done f) (All-tail Fits y ys g) (omega (arith, l)) h.1

-- ---- paused programs

-- the numbers of a paused program are those of its parts
abbrev pub IsHeadOf : Head → ℕ → PausedParts → Type 0
IsHeadOf h due x = h ≡ record { due = due; steps_used = x.steps_used; entry = x.entry; answers = x.answers; import = x.import; globals = length x.globals }

-- what stands behind these numbers
abbrev pub behind_head : PausedParts → List ℕ → List ℕ
behind_head x memory = flat_map global_bytes x.globals ++ (bytes_of 4 x.pages ++ memory)

pub head_split : (h : Head) (due : ℕ) (x : PausedParts) (memory r s : List ℕ) → HeadFits h → due < 2 ^ 64 → PartsFit x memory
    → head_bytes h ++ r ≡ (bytes_of 8 due ++ parts_bytes x memory) ++ s → IsHeadOf h due x × (r ≡ behind_head x memory ++ s)
head_split h due x memory r s f d p e =
    let g5 = bytes_of 4 h.globals in
    let g4 = bytes_of 4 h.import ++ g5 in
    let g3 = bytes_of 4 h.answers ++ g4 in
    let g2 = bytes_of 4 h.entry ++ g3 in
    let g1 = bytes_of 8 h.steps_used ++ g2 in
    let x5 = bytes_of 4 (length x.globals) ++ behind_head x memory in
    let x4 = bytes_of 4 x.import ++ x5 in
    let x3 = bytes_of 4 x.answers ++ x4 in
    let x2 = bytes_of 4 x.entry ++ x3 in
    let x1 = bytes_of 8 x.steps_used ++ x2 in
    let e1 = u64_peel h.due due g1 x1 r s f.due d e in
    let e2 = u64_peel h.steps_used x.steps_used g2 x2 r s f.steps_used p.steps_used e1.1 in
    let e3 = u32_peel h.entry x.entry g3 x3 r s f.entry p.entry e2.1 in
    let e4 = u32_peel h.answers x.answers g4 x4 r s f.answers p.answers e3.1 in
    let e5 = u32_peel h.import x.import g5 x5 r s f.import p.import e4.1 in
    let e6 = u32_split h.globals (length x.globals) r (behind_head x memory ++ s) f.globals p.count (e5.1 ∙ append_assoc (bytes_of 4 (length x.globals)) (behind_head x memory) s) in
    ((λ i. record { due = e1.0 i; steps_used = e2.0 i; entry = e3.0 i; answers = e4.0 i; import = e5.0 i; globals = e6.0 i }), e6.1)

-- equal pages, and memories of so many
paused_split : (due due' : ℕ) (x y : PausedParts) (memory memory' r s : List ℕ) → due < 2 ^ 64 → due' < 2 ^ 64 → PartsFit x memory → PartsFit y memory'
    → (bytes_of 8 due ++ parts_bytes x memory) ++ r ≡ (bytes_of 8 due' ++ parts_bytes y memory') ++ s → (paused due x memory ≡ paused due' y memory') × (r ≡ s)
paused_split due due' x y memory memory' r s d d' p q e =
    let h : Head = record { due = due; steps_used = x.steps_used; entry = x.entry; answers = x.answers; import = x.import; globals = length x.globals } in
    let f : HeadFits h = record { due = d; steps_used = p.steps_used; entry = p.entry; answers = p.answers; import = p.import; globals = p.count } in
    let k = head_split h due' y memory' (behind_head x memory ++ r) s f d' q (again h x memory r ∙ e) in
    let counts : length x.globals ≡ length y.globals = ap (λ (g : Head). g.globals) k.0 in
    let behind = moved (flat_map global_bytes x.globals) (flat_map global_bytes y.globals) (bytes_of 4 x.pages ++ memory) (bytes_of 4 y.pages ++ memory') r s k.1 in
    let gs = list_split value_fits global_bytes global_split x.globals y.globals ((bytes_of 4 x.pages ++ memory) ++ r) ((bytes_of 4 y.pages ++ memory') ++ s) p.globals q.globals counts behind in
    let ps = u32_peel x.pages y.pages memory memory' r s p.pages q.pages gs.1 in
    let ms = split memory memory' r s (p.whole ∙ ap (λ n. n * page_size) ps.0 ∙ sym q.whole) ps.1 in (
      (λ i. paused ((k.0 i).due)
          (record { steps_used = (k.0 i).steps_used; entry = (k.0 i).entry; answers = (k.0 i).answers; import = (k.0 i).import; globals = gs.0 i; pages = ps.0 i })
          (ms.0 i)),
      ms.1,
    )
  where
    -- the head of a text and what is behind it make the text
    again : (h : Head) (x : PausedParts) (memory r : List ℕ) → head_bytes h ++ (behind_head x memory ++ r)
        ≡ (bytes_of 8 h.due ++ (bytes_of 8 h.steps_used ++ (bytes_of 4 h.entry ++ (bytes_of 4 h.answers ++ (bytes_of 4 h.import ++ (bytes_of 4 h.globals ++ behind_head x memory)))))) ++ r
    again h x memory r = simp append_assoc

pub record_split : (a b : ProgramRecord) (r s : List ℕ) → RecordFits a → RecordFits b → record_bytes a ++ r ≡ record_bytes b ++ s → (a ≡ b) × (r ≡ s)
record_split fresh fresh r s f g e = (refl, behind_byte 0 0 r s e)
record_split over over r s f g e = (refl, behind_byte 2 2 r s e)
record_split (paused due x memory) (paused due' y memory') r s f g e =
    paused_split due due' x y memory memory' r s f.0 g.0 f.1 g.1
    (behind_byte 1 1 ((bytes_of 8 due ++ parts_bytes x memory) ++ r) ((bytes_of 8 due' ++ parts_bytes y memory') ++ s) e)
record_split fresh (paused due y memory) r s f g e = absurd (differ 0 1 e (omega arith))
record_split fresh over r s f g e = absurd (differ 0 2 e (omega arith))
record_split (paused due x memory) fresh r s f g e = absurd (differ 1 0 e (omega arith))
record_split (paused due x memory) over r s f g e = absurd (differ 1 2 e (omega arith))
record_split over fresh r s f g e = absurd (differ 2 0 e (omega arith))
record_split over (paused due y memory) r s f g e = absurd (differ 2 1 e (omega arith))

-- ---- snapshots

pub one_snapshot : (bytes : List ℕ) (s t : Snapshot) → SnapText bytes s → SnapText bytes t → s ≡ t
unfolding snapshot_bytes
one_snapshot bytes s t x y =
    let e = sym x.spells ∙ y.spells in
    let b = ap (drop 8) e in
    let n = u64_split s.events t.events (bytes_of 4 (length s.programs) ++ flat_map record_bytes s.programs) (bytes_of 4 (length t.programs) ++ flat_map record_bytes t.programs)
    x.fits.events y.fits.events b in
    let c = u32_split (length s.programs) (length t.programs) (flat_map record_bytes s.programs) (flat_map record_bytes t.programs) x.fits.count y.fits.count n.1 in
    let p = list_split RecordFits record_bytes record_split s.programs t.programs [] [] x.fits.programs y.fits.programs c.0
    (append-nil (flat_map record_bytes s.programs) ∙ c.1 ∙ sym (append-nil (flat_map record_bytes t.programs))) in
    λ i. record { events = n.0 i; programs = p.0 i }
