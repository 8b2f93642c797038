-- What a file's sections are judged by besides their spelling: where a float stands, where an instruction opens a
-- level, and the numbers that limits bound.
use Rattle.std.specs.Prelude.{ℕ, ◌+◌, ◌≤◌, List, [], ◌∷◌, ◌++◌, map, length, flat_map, sum_by, Option, Some, None, Bool, if◌then◌else◌, nat_le, nat_lt, All, Contains}
use Rattle.wa_types.specs.Binary.{Placed, RawCode, ended, otherwise, instr, nested, branched, RawType, RawKind, raw_func, raw_global, RawImport, RawGlobal, RawElem, RawRun, RawBody}
use Rattle.wa_types.specs.Binary.{RawSegment, Section, types, imports, globals, elements, bodies, segments}
use Rattle.wa_types.specs.Opcodes.{is_float_type, is_float_op}
use Rattle.wa_types.specs.Spells.{sorts_in, bodies_in}
use Rattle.wa_types.specs.Reading.{types_in, imports_in}

-- an offset, where told
abbrev pub place_if : Bool → ℕ → List ℕ
place_if b place = if b then place ∷ [] else []

-- the offset of a float type (5.3.1)
abbrev pub float_type : Placed → List ℕ
float_type t = place_if (is_float_type t.byte) t.place

-- the offsets of the float opcodes and float types of code
abbrev pub code_floats : RawCode → List ℕ
code_floats (ended k) = []
code_floats (otherwise k arm) = code_floats arm
code_floats (instr op operands rest) = place_if (is_float_op op.byte) op.place ++ code_floats rest
code_floats (nested op result body rest) = float_type result ++ code_floats body ++ code_floats rest
code_floats (branched op result arms rest) = float_type result ++ code_floats arms ++ code_floats rest

-- the offsets of the float types of a function type
abbrev pub type_floats : RawType → List ℕ
type_floats t = flat_map float_type t.params ++ flat_map float_type t.results

-- the offset of the float type of an imported global
abbrev pub kind_floats : RawKind → List ℕ
kind_floats (raw_global t mutable) = float_type t
kind_floats _ = []

-- the offsets of the float types and float opcodes of a body
abbrev pub body_floats : RawBody → List ℕ
body_floats b = flat_map (λ (r : RawRun). float_type r.ty) b.locals ++ code_floats b.code

-- the offsets of the float types and float opcodes of a section
abbrev pub section_floats : Section → List ℕ
section_floats (types ts) = flat_map type_floats ts
section_floats (imports is) = flat_map (λ (i : RawImport). kind_floats i.kind) is
section_floats (globals gs) = flat_map (λ (g : RawGlobal). float_type g.ty ++ code_floats g.init) gs
section_floats (elements es) = flat_map (λ (e : RawElem). code_floats e.offset) es
section_floats (bodies bs) = flat_map body_floats bs
section_floats (segments ss) = flat_map (λ (s : RawSegment). code_floats s.offset) ss
section_floats _ = []

-- the offsets of all float types and float opcodes of a file
abbrev pub floats : List Section → List ℕ
floats ss = flat_map section_floats ss

-- The offsets of the opcodes that open a level past the bound, in code inside so many constructs.
abbrev pub code_opens : (bound level : ℕ) → RawCode → List ℕ
code_opens bound level (ended k) = []
code_opens bound level (otherwise k arm) = code_opens bound level arm
code_opens bound level (instr op operands rest) = code_opens bound level rest
code_opens bound level (nested op result body rest) = place_if (nat_le bound level) op.place ++ code_opens bound (level + 1) body ++ code_opens bound level rest
code_opens bound level (branched op result arms rest) = place_if (nat_le bound level) op.place ++ code_opens bound (level + 1) arms ++ code_opens bound level rest

-- the same in a section
abbrev pub section_opens : (bound : ℕ) → Section → List ℕ
section_opens bound (globals gs) = flat_map (λ (g : RawGlobal). code_opens bound 0 g.init) gs
section_opens bound (elements es) = flat_map (λ (e : RawElem). code_opens bound 0 e.offset) es
section_opens bound (bodies bs) = flat_map (λ (b : RawBody). code_opens bound 0 b.code) bs
section_opens bound (segments ss) = flat_map (λ (s : RawSegment). code_opens bound 0 s.offset) ss
section_opens bound _ = []

-- the same in a whole file, initialisers and offsets included
abbrev pub opens : (bound : ℕ) → List Section → List ℕ
opens bound ss = flat_map (section_opens bound) ss

-- the least of some offsets
pub record IsLeast (k : ℕ) (ks : List ℕ) : Type 0 where
  pub among : Contains ks k
  pub least : All (λ j. k ≤ j) ks

-- the type index of an imported function
abbrev pub kind_sorts : RawKind → List ℕ
kind_sorts (raw_func sort) = sort ∷ []
kind_sorts _ = []

-- the type indices of all imported functions
abbrev pub imported_sorts : List Section → List ℕ
imported_sorts ss = flat_map (λ (i : RawImport). kind_sorts i.kind) (flat_map imports_in ss)

-- the number of functions, imports included
abbrev pub function_count : List Section → ℕ
function_count ss = length (imported_sorts ss) + length (flat_map sorts_in ss)

-- the numbers of parameters of the types
abbrev pub parameter_counts : List Section → List ℕ
parameter_counts ss = map (λ (t : RawType). length t.params) (flat_map types_in ss)

-- the declared sizes of the bodies
abbrev pub body_sizes : List Section → List ℕ
body_sizes ss = map (λ (b : RawBody). b.size) (flat_map bodies_in ss)

-- the parameters of the type with this index; none where there is no such type
abbrev pub params_at : List RawType → ℕ → ℕ
params_at [] sort = 0
params_at (t ∷ ts) ℕ.zero = length t.params
params_at (t ∷ ts) (ℕ.suc sort) = params_at ts sort

-- each body's parameters and locals
abbrev pub locals_with : List RawType → List ℕ → List RawBody → List ℕ
locals_with ts (sort ∷ sorts) (b ∷ bs) = (params_at ts sort + sum_by (λ (r : RawRun). r.count) b.locals) ∷ locals_with ts sorts bs
locals_with ts _ _ = []

-- the numbers of parameters and locals of all bodies
abbrev pub local_counts : List Section → List ℕ
local_counts ss = locals_with (flat_map types_in ss) (flat_map sorts_in ss) (flat_map bodies_in ss)

-- the first of these numbers that is above a bound
abbrev pub first_above : (bound : ℕ) → List ℕ → Option ℕ
first_above bound [] = None
first_above bound (n ∷ ns) = if nat_lt bound n then Some n else first_above bound ns
