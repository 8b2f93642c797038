-- What is known inside nests of loops, whose worlds hold where what the heads of the loops around read first is known.
use Rattle.std.specs.Prelude.{◌≡◌, ◌<◌, ◌≤◌, ◌||◌, ◌&&◌, ◌^◌, ℕ, suc, List, [], ◌∷◌, length, get_or, Option, Bool, false, Vec, nat_eq}
use Rattle.std.specs.declared.alloc.Global.{Global}
use Rattle.wa_types.specs.Liveness.{live}
use Rattle.run_theory.specs.Flat.{Stmts, code_of}
use Rattle.live_locals.specs.Sets.{has, told_of}
use Rattle.live_locals.specs.Words.{bit, meets}
use Rattle.live_locals.specs.Heads.{deeper, heads, Knows}

-- what two lists of answers tell together
abbrev pub joined : List Bool → List Bool → List Bool
joined [] ds = []
joined (c ∷ cs) [] = []
joined (c ∷ cs) (d ∷ ds) = (c || d) ∷ joined cs ds

-- whether it's told in one of these worlds or in world 0
abbrev pub in_some : (worlds : List ℕ) → (ℕ → Bool) → Bool
in_some [] f = f 0
in_some (i ∷ is) f = in_some is f || f i

-- the same for lists of answers
abbrev pub told_in_some : (worlds : List ℕ) → (ℕ → List Bool) → List Bool
told_in_some [] f = f 0
told_in_some (i ∷ is) f = joined (told_in_some is f) (f i)

-- none is above
abbrev pub NoneAbove : ℕ → List ℕ → Type 0
NoneAbove n [] = Unit {0}
NoneAbove n (i ∷ is) = (i ≤ n) × NoneAbove n is

-- What the worlds of a nest tell of a local, `level` loops of the nest being around. Those that hold tell together what is so:
-- `told` what is read first from each label's target on, `out` from behind the statements on.
pub record Around (level reach : ℕ) (labels : List Bool) (behind : Bool) : Type 0 where
  pub worlds : List ℕ
  pub told : ℕ → List Bool
  pub out : ℕ → Bool
  pub low : NoneAbove level worlds
  pub long : (i : ℕ) → length (told i) ≡ length (told 0)
  pub fresh : (i : ℕ) → i < 64 → level < i → (told i ≡ told 0) × (out i ≡ out 0)
  pub labels_are : labels ≡ told_in_some worlds told
  pub behind_is : behind ≡ in_some worlds out
  pub meet : (w : ℕ) → w < 2 ^ 64 → meets w reach ≡ in_some worlds (λ i. bit i w)

-- the entries tell what is read first from the heads of the loops of statements on, world by world
abbrev pub NestOf : (level reach : ℕ) → (labels : List Bool) → (behind : Bool) → List (Option (Vec ℕ Global)) → Stmts → (x : ℕ) → Type 0
NestOf level reach labels behind entries s x =
    (a : Around level reach labels behind) × ((i : ℕ) → i < 64 → Knows i x entries (heads x i level (a.told i) (a.out i) s))

-- What is known of each local where fewer than 63 loops of the nest are around; else nothing.
abbrev pub Nest : (level : ℕ) → (reach : List ℕ) → List (Vec Bool Global) → List Bool → List (Option (Vec ℕ Global)) → Stmts → Type 0
Nest level reach tos set entries s =
    level < 63 → (length reach ≡ length set) × ((x : ℕ) → x < length set → NestOf level (get_or reach x 0) (told_of x tos) (has set x) entries s x)

-- the same at a loop, where words tell what is read first from its head on
abbrev pub LoopOf : (level reach : ℕ) → (labels : List Bool) → (behind : Bool) → (word : ℕ) → List (Option (Vec ℕ Global)) → Stmts → (x : ℕ) → Type 0
LoopOf level reach labels behind word entries body x =
    (a : Around level reach labels behind)
    × ((i : ℕ) → i < 64 → bit i word ≡ live x (false ∷ a.told i) (a.out i) (code_of body))
    × ((i : ℕ) → i < 64 → Knows i x entries (heads x i (deeper level) (nat_eq i (suc level) ∷ a.told i) (a.out i) body))

-- of each local
abbrev pub AtLoop : (level : ℕ) → (reach : List ℕ) → List (Vec Bool Global) → List Bool → (words : List ℕ) → List (Option (Vec ℕ Global)) → Stmts → Type 0
AtLoop level reach tos set words entries body =
    (length reach ≡ length set) × (length words ≡ length set)
    × ((x : ℕ) → x < length set → LoopOf level (get_or reach x 0) (told_of x tos) (has set x) (get_or words x 0) entries body x)

-- A loop is entered: what is read first from its head on is told, and which worlds hold inside.
pub record Enters (level : ℕ) (reach words : List ℕ) (old new : List Bool) (inner : ℕ) (within : List ℕ) : Type 0 where
  pub size : length new ≡ length old
  pub set : (x : ℕ) → x < length old → has new x ≡ meets (get_or words x 0) (get_or reach x 0)
  pub small : (x : ℕ) → get_or words x 0 < 2 ^ 64
  pub level_is : inner ≡ suc level
  pub long : length within ≡ length reach
  pub holds : (x w : ℕ) → x < length reach → w < 2 ^ 64 → meets w (get_or within x 0) ≡ (meets w (get_or reach x 0) || (has new x && bit (suc level) w))
