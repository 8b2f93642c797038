-- Which imports may pause a program, which functions may then pause, and which of their calls have numbers.
use Rattle.std.specs.Prelude.{◌≡◌, ◌↔◌, ℕ, suc, ◌-◌, ◌++◌, List, [], ◌∷◌, length, take, Option, Some, None, Bool, true, false, not, ◌&&◌, ◌||◌, Result, Ok, Err, slice_get, nat_eq, ◌==◌, if◌then◌else◌}
use Rattle.std.specs.List.{filter_map, list_any, starts_with}
use Rattle.wa_types.specs.declared.syntax.Import.{Import}
use Rattle.wa_types.specs.Syntax.{Plain, call, call_indirect, Code, done, plain, nest, branch, Func, Module}
use Rattle.wa_types.specs.Pruned.{pruned}
use Rattle.wa_types.specs.Modules.{imported_func, func_sorts, defined_at}

-- An entry of a list of imports: all that begin so, or all of exactly this name.
pub data Entry : Type 0 where
  beginning : (text : List ℕ) → Entry
  exactly : (text : List ℕ) → Entry

-- Why a text is no list of imports.
pub data ListError : Type 0 where
  empty_entry star_inside no_dot : ListError

-- Which function imports are listed: every one, none, or those of a list.
pub data Choice : Type 0 where
  every nobody : Choice
  of_list : (entries : List Entry) → Choice

-- Which locals a frame saves: all, or those that may still be read.
pub data Policy : Type 0 where
  save_all save_live : Policy

-- How a module is rewritten: what may pause it, whether calls through the table count, and what frames save.
pub record Settings : Type 0 where
  pub choice : Choice
  pub ignore_indirect : Bool
  pub policy : Policy

-- a byte in front of the first of some pieces
abbrev pub onto_first : ℕ → List (List ℕ) → List (List ℕ)
onto_first b [] = (b ∷ []) ∷ []
onto_first b (p ∷ ps) = (b ∷ p) ∷ ps

-- the pieces between the commas
abbrev pub pieces : List ℕ → List (List ℕ)
pieces [] = [] ∷ []
pieces (b ∷ bs) = if b == 44 then [] ∷ pieces bs else onto_first b (pieces bs)

-- a text has this byte
abbrev pub has_byte : ℕ → List ℕ → Bool
has_byte b text = list_any (λ c. c == b) text

-- a text without its last byte
abbrev pub all_but_last : List ℕ → List ℕ
all_but_last text = take (length text - 1) text

-- the entry of a text that no star ends: exactly this name, which has a dot
abbrev pub entry_without_star : List ℕ → Result Entry ListError
entry_without_star text = if has_byte 46 text then Ok (exactly text) else Err no_dot

-- the entry that a text spells: it isn't empty, a star stands only at its end, and one without star has a dot
abbrev pub entry_of : List ℕ → Result Entry ListError
entry_of [] = Err empty_entry
entry_of (b ∷ bs) =
    if has_byte 42 (all_but_last (b ∷ bs)) then Err star_inside
    else (if has_byte 42 (b ∷ bs) then Ok (beginning (all_but_last (b ∷ bs))) else entry_without_star (b ∷ bs))

-- an entry in front of others, where these are told
abbrev pub onto_entries : Entry → Result (List Entry) ListError → Result (List Entry) ListError
onto_entries e (Ok es) = Ok (e ∷ es)
onto_entries e (Err f) = Err f

-- the same of an entry that may be an error
abbrev pub entry_onto : Result Entry ListError → Result (List Entry) ListError → Result (List Entry) ListError
entry_onto (Ok e) rest = onto_entries e rest
entry_onto (Err f) rest = Err f

-- the entries of these texts, or the first error
abbrev pub entries_of : List (List ℕ) → Result (List Entry) ListError
entries_of [] = Ok []
entries_of (p ∷ ps) = entry_onto (entry_of p) (entries_of ps)

-- the list that a text spells: entries separated by commas
abbrev pub list_of : List ℕ → Result (List Entry) ListError
list_of text = entries_of (pieces text)

-- an import's module name, a dot and its base name
abbrev pub joined_name : Import → List ℕ
joined_name i = i.module ++ 46 ∷ i.base

-- an entry names imports of this joined name
abbrev pub names : Entry → List ℕ → Bool
names (beginning text) name = starts_with nat_eq name text
names (exactly text) name = starts_with nat_eq name text && nat_eq (length name) (length text)

-- imports of this joined name are listed
abbrev pub is_listed : Choice → List ℕ → Bool
is_listed every name = true
is_listed nobody name = false
is_listed (of_list entries) name = list_any (λ e. names e name) entries

-- whether an import is listed, where it is a function, of which the index of the type is told
abbrev pub listed_import : Choice → Import → Option ℕ → Option Bool
listed_import choice i None = None
listed_import choice i (Some sort) = Some (is_listed choice (joined_name i))

-- For each imported function, in order, whether it is listed.
abbrev pub Listed : Module → Settings → List Bool
Listed m s = filter_map (λ (i : Import). listed_import s.choice i (imported_func i.kind)) m.imports

-- What a call goes to: a function by its index, or one of the table by the index of its type.
pub data Callee : Type 0 where
  direct : (func : ℕ) → Callee
  indirect : (sort : ℕ) → Callee

-- what an instruction calls, where it is a call
abbrev pub callee : Plain → Option Callee
callee (call x) = Some (direct x)
callee (call_indirect t) = Some (indirect t)
callee _ = None

-- what a call goes to in front of others, where one is told
abbrev pub callee_onto : Option Callee → List Callee → List Callee
callee_onto None cs = cs
callee_onto (Some x) cs = x ∷ cs

-- the calls of code, in its order
unfoldable pub calls_of : Code → List Callee
calls_of done = []
calls_of (plain p rest) = callee_onto (callee p) (calls_of rest)
calls_of (nest s r body rest) = calls_of body ++ calls_of rest
calls_of (branch r a b rest) = calls_of a ++ calls_of b ++ calls_of rest

-- the calls of a function that can be reached, in order of code; a call's place is its place among them
abbrev pub calls_in : Func → List Callee
calls_in f = calls_of (pruned f.body)

-- A defined function may pause: its pruned body calls a listed import, has a `call_indirect` that isn't ignored, or calls one that may. This is
-- the least such set.
pub data MayPause (m : Module) (s : Settings) : ℕ → Type 0 where
  calls_listed : (x : ℕ) → (f : Func) → (place i : ℕ) → defined_at m x ≡ Some f → slice_get (calls_in f) place ≡ Some (direct i) → slice_get (Listed m s) i ≡ Some true → MayPause m s x
  calls_indirectly : (x : ℕ) → (f : Func) → (place sort : ℕ) → defined_at m x ≡ Some f → slice_get (calls_in f) place ≡ Some (indirect sort) → s.ignore_indirect ≡ false → MayPause m s x
  calls_pausing : (x : ℕ) → (f : Func) → (place y : ℕ) → defined_at m x ≡ Some f → slice_get (calls_in f) place ≡ Some (direct y) → MayPause m s y → MayPause m s x

-- One element for each function, imports false, tells which may pause.
pub record TellsMayPause (m : Module) (s : Settings) (which : List Bool) : Type 0 where
  pub len : length which ≡ length (func_sorts m)
  pub each : (x : ℕ) → (slice_get which x ≡ Some true) ↔ MayPause m s x

-- true is told
abbrev pub is_told : Option Bool → Bool
is_told None = false
is_told (Some b) = b

-- a call has a number: it goes to a listed import or to one of these functions, or is a `call_indirect` that isn't ignored
abbrev pub has_number : Module → Settings → List Bool → Callee → Bool
has_number m s which (direct x) = is_told (slice_get (Listed m s) x) || is_told (slice_get which x)
has_number m s which (indirect sort) = not s.ignore_indirect

-- the places, from this one on, of the items that pass
abbrev pub places_from : {X : Type 0} → (X → Bool) → ℕ → List X → List ℕ
places_from test n [] = []
places_from test n (x ∷ xs) = if test x then n ∷ places_from test (suc n) xs else places_from test (suc n) xs

-- The places of a function's numbered calls, `which` telling the functions that may pause. Call k is the one at the place that stands at k.
abbrev pub Numbered : Module → Settings → List Bool → Func → List ℕ
Numbered m s which f = places_from (has_number m s which) 0 (calls_in f)
