-- Parts of the frames of calls, from what each call keeps: locals in groups, and when these are taken rather than classes of calls.
use Rattle.std.specs.Prelude.{ℕ, suc, ◌+◌, ◌*◌, ◌++◌, ◌&&◌, ◌||◌, List, [], ◌∷◌, length, map, Bool, false, nat_eq, nat_le, if◌then◌else◌}
use Rattle.std.specs.Cmp.Lexicographic.{pointwise}
use Rattle.wa_types.specs.declared.values.ValType.{ValType}
use Rattle.frame_laws.specs.Layout.{FrameField, kept, gap}
use Rattle.call_frames.specs.PlainFrames.{SavedPart, at_every, at_these}
use Rattle.call_frames.specs.PlainLaws.{tests_cost, sizes_size, parts_size}
use Rattle.call_frames.specs.Views.{fields_in}

-- ---- groups: locals that the same calls keep

-- a local is among these fields
abbrev pub keeps : (local : ℕ) → List FrameField → Bool
keeps x [] = false
keeps x (kept y t ∷ fs) = nat_eq y x || keeps x fs
keeps x (gap t ∷ fs) = keeps x fs

-- the calls from this number on that keep a local
abbrev pub keepers : (local call : ℕ) → (kept_by : List (List FrameField)) → List ℕ
keepers x call [] = []
keepers x call (fs ∷ rest) = (if keeps x fs then call ∷ [] else []) ++ keepers x (suc call) rest

abbrev pub same_calls : List ℕ → List ℕ → Bool
same_calls ks js = pointwise nat_eq ks js

-- the field joins the part, where these calls keep that; else it is a part of its own behind it
abbrev pub behind_part : (calls : List ℕ) → FrameField → SavedPart → List SavedPart
behind_part ks f (at_every gs) = at_every gs ∷ at_these ks (f ∷ []) ∷ []
behind_part ks f (at_these js gs) = if same_calls js ks then at_these js (gs ++ f ∷ []) ∷ [] else at_these js gs ∷ at_these ks (f ∷ []) ∷ []

-- a field that these calls keep, behind the others
abbrev pub with_field : (calls : List ℕ) → FrameField → List SavedPart → List SavedPart
with_field ks f [] = at_these ks (f ∷ []) ∷ []
with_field ks f (p ∷ []) = behind_part ks f p
with_field ks f (p ∷ q ∷ ps) = p ∷ with_field ks f (q ∷ ps)

-- one that no call keeps is in none
abbrev pub with_kept : (calls : List ℕ) → FrameField → List SavedPart → List SavedPart
with_kept [] f ps = ps
with_kept (k ∷ ks) f ps = with_field (k ∷ ks) f ps

-- Parts, and those of the locals from this one on: neighbours that the same calls keep are a part.
abbrev pub grouped : (local : ℕ) → List ValType → (kept_by : List (List FrameField)) → List SavedPart → List SavedPart
grouped x [] rows ps = ps
grouped x (t ∷ ts) rows ps = grouped (suc x) ts rows (with_kept (keepers x 0 rows) (kept x t) ps)

-- the same, where the calls that keep each local are told
abbrev pub grouped_by : (local : ℕ) → List ValType → (keepers : List (List ℕ)) → List SavedPart → List SavedPart
grouped_by x [] kss ps = ps
grouped_by x (t ∷ ts) [] ps = ps
grouped_by x (t ∷ ts) (ks ∷ kss) ps = grouped_by (suc x) ts kss (with_kept ks (kept x t) ps)

-- what all of so many calls keep has no test
abbrev pub shared_where : (count : ℕ) → SavedPart → SavedPart
shared_where n (at_every fs) = at_every fs
shared_where n (at_these ks fs) = if nat_eq (length ks) n then at_every fs else at_these ks fs

abbrev pub groups : List ValType → (kept_by : List (List FrameField)) → List SavedPart
groups types rows = map (shared_where (length rows)) (grouped 0 types rows [])

-- ---- the shorter of both

-- the instructions of both codes beside those that any frame takes
abbrev pub parts_length : List SavedPart → ℕ
parts_length ps = sizes_size ps + 2 * parts_size ps

-- Groups are taken where their tests cost no more than this, and their codes are no longer than those of classes.
abbrev pub are_better : (most : ℕ) → (groups classes : List SavedPart) → Bool
are_better most gs cs = nat_le (tests_cost gs) most && nat_le (parts_length gs) (parts_length cs)

abbrev pub better_parts : (most : ℕ) → (groups classes : List SavedPart) → List SavedPart
better_parts most gs cs = if are_better most gs cs then gs else cs

-- what tests may cost: 27 for each local and each call
abbrev pub tests_most : (locals calls : ℕ) → ℕ
tests_most locals calls = 27 * (locals + calls)

-- the fields of sets
abbrev pub kept_by_sets : List ValType → List (List Bool) → List (List FrameField)
kept_by_sets types sets = map (λ (set : List Bool). fields_in 0 set types) sets
