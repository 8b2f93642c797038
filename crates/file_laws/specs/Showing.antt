-- What the items of a file show of that which it is judged by besides its spelling (standard, section 5). Nobody need believe this:
-- `MarksOf` (`Found.antt`) says what is meant, and the law `items_show_the_sections` leads there.
use Rattle.std.specs.Prelude.{◌≡◌, ℕ, ◌+◌, ◌<◌, ◌^◌, List, [], ◌∷◌, ◌++◌, length, Option, Some, None, Bool, true, false, nat_le, ◌==◌, ◌&&◌, ◌||◌, if◌then◌else◌}
use Rattle.wa_types.specs.Begun.{Goal, head, entries, count, value_type, block_type, import_kind, code, EntryKind, some_globals, some_bodies, some_value_types, wants, IsItem, Steps}
use Rattle.wa_types.specs.Marks.{place_if, first_above}
use Rattle.wa_types.specs.ModuleBounds.{ModuleBounds}
use Rattle.wa_types.specs.Opcodes.{is_float_type, is_float_op, is_nest}
use Rattle.file_laws.specs.declared.marks.Marks.{Marks}

-- The offsets of floats and of opcodes that open a level past the bound, how many functions stand there and there, the numbers
-- of the types' parameters, and the bodies' declared sizes.
pub record Seen : Type 0 where
  pub floats_at : List ℕ
  pub opens_at : List ℕ
  pub counts : List ℕ
  pub params : List ℕ
  pub sizes : List ℕ

-- nothing of it
abbrev pub nothing_seen : Seen
nothing_seen = record { floats_at = []; opens_at = []; counts = []; params = []; sizes = [] }

-- floats at these offsets
abbrev pub floats_seen : List ℕ → Seen
floats_seen ks = record { floats_at = ks; opens_at = []; counts = []; params = []; sizes = [] }

-- opcodes at these offsets that open a level past the bound
abbrev pub opens_seen : List ℕ → Seen
opens_seen ks = record { floats_at = []; opens_at = ks; counts = []; params = []; sizes = [] }

-- so many functions
abbrev pub functions_seen : ℕ → Seen
functions_seen n = record { floats_at = []; opens_at = []; counts = n ∷ []; params = []; sizes = [] }

-- a type with so many parameters
abbrev pub parameters_seen : ℕ → Seen
parameters_seen n = record { floats_at = []; opens_at = []; counts = []; params = n ∷ []; sizes = [] }

-- a body of this declared size
abbrev pub size_seen : ℕ → Seen
size_seen n = record { floats_at = []; opens_at = []; counts = []; params = []; sizes = n ∷ [] }

-- one part behind another
abbrev pub both : Seen → Seen → Seen
both s t = record { floats_at = s.floats_at ++ t.floats_at; opens_at = s.opens_at ++ t.opens_at; counts = s.counts ++ t.counts; params = s.params ++ t.params; sizes = s.sizes ++ t.sizes }

-- how many levels of code stand open by this goal: one, or none (5.4.1)
abbrev pub level_of : Goal → ℕ
level_of (code first_arm) = 1
level_of _ = 0

-- .. and by all of these
unfoldable pub levels : List Goal → ℕ
levels [] = 0
levels (g ∷ gs) = level_of g + levels gs

abbrev pub of_types : EntryKind → Bool
of_types some_value_types = true
of_types _ = false

-- a number of value types is wanted, as that of a type's results is behind its parameters
abbrev pub counts_types : Goal → Bool
counts_types (count k) = of_types k
counts_types _ = false

-- the number of a type's results is wanted first (5.3.3)
abbrev pub await_results : List Goal → Bool
await_results [] = false
await_results (g ∷ gs) = counts_types g

-- the opcode of a construct (5.4.1)
abbrev pub opens_level : ℕ → Bool
opens_level op = is_nest op || op == 0x04

-- what the first item of an entry shows, of value v at this place: a global's type (5.5.9), a body's size (5.5.13), a value type (5.3.1)
abbrev pub entry_shown : EntryKind → (v at : ℕ) → Seen
entry_shown some_globals v at = floats_seen (place_if (is_float_type v) at)
entry_shown some_bodies v at = size_seen v
entry_shown some_value_types v at = floats_seen (place_if (is_float_type v) at)
entry_shown _ v at = nothing_seen

-- what the number of some entries shows, before these goals: that of a type's first ones is the number of its parameters (5.3.3)
abbrev pub count_shown : EntryKind → List Goal → (v : ℕ) → Seen
count_shown some_value_types gs v = if await_results gs then parameters_seen v else nothing_seen
count_shown _ gs v = nothing_seen

-- what the first number of a section shows: that of functions (5.5.6)
abbrev pub head_shown : (id v : ℕ) → Seen
head_shown id v = if id == 3 then functions_seen v else nothing_seen

-- what the byte shows that says what is imported: a function (5.5.5)
abbrev pub import_shown : ℕ → Seen
import_shown v = if v == 0x00 then functions_seen 1 else nothing_seen

-- what an opcode shows, inside so many levels (5.4)
abbrev pub op_shown : ModuleBounds → (level op at : ℕ) → Seen
op_shown b level op at =
    record { floats_at = place_if (is_float_op op) at; opens_at = place_if (opens_level op && nat_le b.nesting level) at; counts = []; params = []; sizes = [] }

-- What an item of the first goal shows, of value v at this place, where these goals wait behind it.
abbrev pub shown : ModuleBounds → Goal → List Goal → (v at : ℕ) → Seen
shown b (head id end last owed) gs v at = head_shown id v
shown b (entries k n) gs v at = entry_shown k v at
shown b (count k) gs v at = count_shown k gs v
shown b value_type gs v at = floats_seen (place_if (is_float_type v) at)
shown b block_type gs v at = floats_seen (place_if (is_float_type v) at)
shown b import_kind gs v at = import_shown v
shown b (code first_arm) gs v at = op_shown b (levels gs) v at
shown b _ gs v at = nothing_seen

-- From this place and these goals the bytes are items that lead to those goals, and show this.
pub data Shows (b : ModuleBounds) : ℕ → List Goal → List ℕ → List Goal → Seen → Type 0 where
  shows_none : {at : ℕ} {gs : List Goal} {s : Seen} → s ≡ nothing_seen → Shows b at gs [] gs s
  shows_item : {at : ℕ} {g : Goal} {gs : List Goal} {bytes : List ℕ} {hs : List Goal} {s : Seen} →
      (front back : List ℕ) (v : ℕ) (ks : List Goal) (t : Seen) →
      bytes ≡ front ++ back → IsItem (wants g) front v → Steps g gs v (at + length front) ks →
      Shows b (at + length front) ks back hs t → s ≡ both (shown b g gs v at) t →
      Shows b at (g ∷ gs) bytes hs s

-- the first of these, where none was found before
abbrev pub first_of : Option ℕ → List ℕ → Option ℕ
first_of (Some k) ks = Some k
first_of None [] = None
first_of None (k ∷ ks) = Some k

-- the first of these above the bound, where none was found before
abbrev pub above_of : (bound : ℕ) → Option ℕ → List ℕ → Option ℕ
above_of bound (Some n) ns = Some n
above_of bound None ns = first_above bound ns

-- all of these together
abbrev pub total : List ℕ → ℕ
total [] = 0
total (n ∷ ns) = n + total ns

-- What is marked behind a part, from what was marked before it. Functions are counted as far as 64 bits go.
pub record Noted (b : ModuleBounds) (s : Seen) (old new : Marks) : Type 0 where
  pub float : new.float ≡ first_of old.float s.floats_at
  pub functions : old.functions + total s.counts < 2 ^ 64 → new.functions ≡ old.functions + total s.counts
  pub parameters : new.parameters ≡ above_of b.parameters old.parameters s.params
  pub body : new.body ≡ above_of b.body old.body s.sizes
  pub deep : new.deep ≡ first_of old.deep s.opens_at

-- nothing is marked
abbrev pub no_marks : Marks
no_marks = record { float = None; functions = 0; parameters = None; body = None; deep = None }

-- From this place and these goals the bytes are items that lead to those goals, and what they show is marked.
abbrev pub MarksAlong : ModuleBounds → ℕ → List Goal → List ℕ → List Goal → Marks → Type 0
MarksAlong b at gs bytes hs m = (s : Seen) × Shows b at gs bytes hs s × Noted b s no_marks m
