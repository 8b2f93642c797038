-- The stores that are written by hand hold the pause, and the others don't.
use Rattle.std.proofs.Common.{All, List, Some, [], ap, arith, length, length-append, refl, subst, sym, ℕ, ◌+◌, ◌-◌, ◌<◌, ◌^◌, ◌∙◌, ◌∷◌, ◌≡◌, ◌≤◌, ◌++◌}
use Rattle.std.specs.Prelude.{replicate, slice_get}
use Rattle.std.proofs.lemmas.List.{replicate-append-replicate}
use Rattle.std.proofs.lemmas.List.Elements.{All-append, All-cons, All-nil, All-replicate}
use Rattle.wa_types.specs.Base.{Base}
use Rattle.wa_types.specs.Counts.{depth_of}
use Rattle.wa_types.specs.Frames.{Image, results_in}
use Rattle.wa_types.specs.Liveness.{behind_calls, live}
use Rattle.wa_types.specs.Memory.{page_size}
use Rattle.wa_types.specs.Pausing.{Policy, calls_of, save_all, save_live}
use Rattle.wa_types.specs.Points.{call_points, points}
use Rattle.wa_types.specs.Pruned.{pruned}
use Rattle.wa_types.specs.Runtime.{with_runtime}
use Rattle.wa_types.specs.Sizes.{value_fits}
use Rattle.wa_types.specs.Syntax.{Module}
use Rattle.wa_types.specs.declared.values.Value.TheVariants as V
use Rattle.run_theory.proofs.GrownSteps.{front}
use Rattle.wa_model.specs.Expected.{SameEnd}
use Rattle.run_theory.specs.Fitting.{StoreFits}
use Rattle.run_laws.specs.Ranges.{StoreIn, byte_in}
use Rattle.emitted_form.specs.EmittedAs.{EmittedAs}
use Rattle.image_laws.specs.Example.{HandWrittenDont, HandWrittenHolds, fresh, image_with, may_pause, page_of, pause_there, plan_there, sample, saving, store_of}
use Rattle.image_laws.specs.Image.{stack_there}
use Rattle.image_laws.proofs.SameStores.{got_back}

image_there : (policy : Policy) (free : ℕ) → Image sample (saving policy) may_pause (stack_there sample pause_there) 1024 64 (page_of (image_with policy free))
unfolding Base pruned points call_points live behind_calls depth_of results_in calls_of
image_there save_all free = record { location = refl; limit = refl; frames = (((refl, (refl, (refl, (tt, tt)))), refl), tt) }
image_there save_live free = record { location = refl; limit = refl; frames = (((refl, (refl, tt)), refl), tt) }

-- the emitted module has the runtime's globals behind none, and no table
fits_there : (policy : Policy) (q : Module) → EmittedAs sample (saving policy) may_pause q → (state address : ℕ) (area : List ℕ) → StoreFits q (store_of state address area)
unfolding with_runtime
fits_there save_all q em state address area = subst (λ (z : Module). StoreFits z (store_of state address area)) (sym em.is) (record { globals = refl; table = tt })
fits_there save_live q em state address area = subst (λ (z : Module). StoreFits z (store_of state address area)) (sym em.is) (record { globals = refl; table = tt })

low_long : length {A = ℕ} (replicate 1024 0) ≡ 1024
low_long = refl

high_long : length {A = ℕ} (replicate 64448 0) ≡ 64448
high_long = refl

area_long : (policy : Policy) (free : ℕ) → length (image_with policy free) ≡ 64
area_long save_all free = refl
area_long save_live free = refl

page_long : (area : List ℕ) → length area ≡ 64 → length (page_of area) ≡ page_size
page_long area l =
    let z = length-append (replicate 1024 0) (area ++ replicate 64448 0) in let y = length-append area (replicate 64448 0) in
    let a = low_long in let b = high_long in omega arith

-- the memory of the original is such a page, with zeros in the area
is_page : fresh.memory ≡ page_of (replicate 64 0)
is_page =
    sym (ap (λ xs. replicate 1024 0 ++ xs) (replicate-append-replicate 64 64448 0) ∙ replicate-append-replicate 1024 64512 0)

-- ---- bytes

abbrev Bytes : Type 0
Bytes = (xs : List ℕ) × All byte_in xs

abbrev byte : (b : ℕ) → b < 256 → Bytes → Bytes
byte b lt p = (b ∷ p.0, All-cons byte_in b p.0 lt p.1)

-- a word of one byte in front of others, and one of the area's two first ones
abbrev word : (b : ℕ) → b < 256 → Bytes → Bytes
word b lt p = let z : 0 < 256 = omega arith in byte b lt (byte 0 z (byte 0 z (byte 0 z p)))

abbrev place : (b : ℕ) → b < 256 → Bytes → Bytes
place b lt p = let z : 0 < 256 = omega arith in byte b lt (byte 4 (omega arith) (byte 0 z (byte 0 z p)))

abbrev junk : (free : ℕ) → free < 256 → Bytes → Bytes
junk free lt p = byte free lt (byte free lt (byte free lt (byte free lt p)))

area_bytes : (policy : Policy) (free : ℕ) → free < 256 → All byte_in (image_with policy free)
area_bytes save_all free lt =
    let number : Bytes = word 0 (omega arith) (replicate 36 free, All-replicate byte_in 36 free lt) in
    let frame : Bytes = word 7 (omega arith) (word 5 (omega arith) (word 8 (omega arith) (junk free lt number))) in
    let all : Bytes = place 0x1c (omega arith) (place 0x40 (omega arith) frame) in
    all.1
area_bytes save_live free lt =
    let number : Bytes = word 0 (omega arith) (replicate 44 free, All-replicate byte_in 44 free lt) in
    let all : Bytes = place 0x14 (omega arith) (place 0x40 (omega arith) (word 5 (omega arith) (word 8 (omega arith) number))) in
    all.1

same_below : (area area2 : List ℕ) (x : ℕ) → x < 1024 → slice_get (page_of area) x ≡ slice_get (page_of area2) x
same_below area area2 x lt =
    let r = low_long in
    front (replicate 1024 0) (area ++ replicate 64448 0) x (omega arith) ∙ sym (front (replicate 1024 0) (area2 ++ replicate 64448 0) x (omega arith))

above_at : (area : List ℕ) (x : ℕ) → length area ≡ 64 → 1088 ≤ x → slice_get (page_of area) x ≡ slice_get (replicate 64448 0) (x - 1088)
above_at area x l le =
    let r = low_long in
    let z : x ≡ length {A = ℕ} (replicate 1024 0) + (length area + (x - 1088)) = omega arith in
    ap (slice_get (page_of area)) z ∙ got_back (replicate 1024 0) (area ++ replicate 64448 0) (length area + (x - 1088)) ∙ got_back area (replicate 64448 0) (x - 1088)

same_pages : (address : ℕ) (area : List ℕ) → length area ≡ 64
    → SameEnd 0 plan_there.area (record { globals = []; memory = page_of (replicate 64 0); table = [] }) (store_of 0 address area)
same_pages address area l =
    let long = page_long area l in let zeros = page_long (replicate 64 0) refl in
    record {
      globals_same = λ x lt. absurd (omega arith);
      size = omega arith;
      below = λ x lt. same_below (replicate 64 0) area x lt;
      above = λ x le. above_at (replicate 64 0) x refl le ∙ sym (above_at area x l le);
    }

same_there : (address : ℕ) (area : List ℕ) → length area ≡ 64 → SameEnd 0 plan_there.area fresh (store_of 0 address area)
same_there address area l =
    subst (λ (memory : List ℕ). SameEnd 0 plan_there.area (record { globals = []; memory = memory; table = [] }) (store_of 0 address area)) (sym is_page) (same_pages address area l)

in_range : (address : ℕ) (area : List ℕ) → address < 2 ^ 32 → length area ≡ 64 → All byte_in area → StoreIn 0 (store_of 0 address area)
in_range address area la l h =
    let long = page_long area l in let z : 0 < 256 = omega arith in
    record {
      globals = All-cons value_fits (V.I32 0) (V.I32 address ∷ []) (omega arith) (All-cons value_fits (V.I32 address) [] la (All-nil value_fits));
      memory = record {
        each = All-append byte_in (replicate 1024 0) (area ++ replicate 64448 0) (All-replicate byte_in 1024 0 z)
            (All-append byte_in area (replicate 64448 0) h (All-replicate byte_in 64448 0 z));
        pages = record { whole = omega arith; bounded = omega arith };
        least = omega arith;
      };
    }

pub hand_written_holds : HandWrittenHolds
hand_written_holds policy q em free address lf la = record {
  fits = fits_there policy q em 0 address (image_with policy free);
  ranges = in_range address (image_with policy free) la (area_long policy free) (area_bytes policy free lf);
  state = refl;
  same = same_there address (image_with policy free) (area_long policy free);
  table = refl;
  image = image_there policy free;
}

pub hand_written_dont : HandWrittenDont
unfolding Base pruned points call_points live behind_calls depth_of results_in calls_of
hand_written_dont q free address = record {
  location = λ h. let i = h.image in let e : 0x08 ∷ 4 ∷ 0 ∷ 0 ∷ [] ≡ 0x1c ∷ 4 ∷ 0 ∷ 0 ∷ [] = i.location in cc;
  parameter = λ h. let i = h.image in let e : 6 ∷ 0 ∷ 0 ∷ 0 ∷ [] ≡ 7 ∷ 0 ∷ 0 ∷ 0 ∷ [] = i.frames.0.0.0 in cc;
  operand = λ h. let i = h.image in let e : 6 ∷ 0 ∷ 0 ∷ 0 ∷ [] ≡ 5 ∷ 0 ∷ 0 ∷ 0 ∷ [] = i.frames.0.0.1.0 in cc;
  argument = λ h. let i = h.image in let e : 9 ∷ 0 ∷ 0 ∷ 0 ∷ [] ≡ 8 ∷ 0 ∷ 0 ∷ 0 ∷ [] = i.frames.0.0.1.1.0 in cc;
  number = λ h. let i = h.image in let e : 1 ∷ 0 ∷ 0 ∷ 0 ∷ [] ≡ 0 ∷ 0 ∷ 0 ∷ 0 ∷ [] = i.frames.0.1 in cc;
  state = λ h. let e : Some (V.I32 1) ≡ Some (V.I32 0) = h.state in cc;
  below = λ h. let s = h.same in let e : Some 0 ≡ Some 1 = s.below 0 (omega arith) in cc;
  policy = λ h. let i = h.image in let e : 0x14 ∷ 4 ∷ 0 ∷ 0 ∷ [] ≡ 0x1c ∷ 4 ∷ 0 ∷ 0 ∷ [] = i.location in cc;
}
