-- Parts of frames as the definitions have them, and the fields of a set.
use Rattle.std.specs.Prelude.{ℕ, suc, ◌+◌, List, [], ◌∷◌, map, Bool, true, false, Vec}
use Rattle.std.specs.declared.alloc.Global.{Global}
use Rattle.wa_types.specs.declared.values.ValType.{ValType}
use Rattle.frame_laws.specs.Layout.{FrameField, kept, kept_count}
use Rattle.call_frames.specs.PlainFrames.{SavedPart, at_every, at_these, SavedParts}
use Rattle.call_frames.specs.declared.frames.CallClass.{CallClass}
use Rattle.call_frames.specs.declared.frames.FrameParts.{FrameParts}
use Rattle.call_frames.specs.declared.frames.KeptLocal.{KeptLocal}
use Rattle.call_frames.specs.declared.frames.KeptPart.{KeptPart}
use Rattle.call_frames.specs.declared.frames.KeptPart.TheVariants as P

-- a local that is kept
abbrev pub kept_field : KeptLocal → FrameField
kept_field k = kept k.local k.ty

-- locals that are kept
abbrev pub fields_of : List KeptLocal → List FrameField
fields_of ks = map kept_field ks

-- a class of calls, as a part
abbrev pub class_part : CallClass → SavedPart
class_part c = at_these c.calls (fields_of c.fields.items)

-- classes of calls, as parts
abbrev pub class_parts : List CallClass → List SavedPart
class_parts cs = map class_part cs

-- a part
abbrev pub part_view : KeptPart → SavedPart
part_view (P.Every fields) = at_every (fields_of fields.items)
part_view (P.These c) = class_part c

-- parts
abbrev pub part_views : List KeptPart → List SavedPart
part_views ps = map part_view ps

-- the parts of a frame
abbrev pub parts_view : FrameParts → List SavedPart
parts_view p = part_views p.parts.items

-- the frames of so many calls, where the call index stands in local `base`, and the scratch local behind it
abbrev pub told_frames : (count base address : ℕ) → FrameParts → SavedParts
told_frames count base address p = record { count = count; address = address; index = base; scratch = base + 1; parts = parts_view p }

-- ---- sets

-- a local in front of others, where it is kept
abbrev pub kept_where : Bool → ℕ → ValType → List FrameField → List FrameField
kept_where true x t rest = kept x t ∷ rest
kept_where false x t rest = rest

-- the fields of the locals that a set has, from local x on
abbrev pub fields_in : (x : ℕ) → List Bool → List ValType → List FrameField
fields_in x [] ts = []
fields_in x (b ∷ bs) [] = []
fields_in x (b ∷ bs) (t ∷ ts) = kept_where b x t (fields_in (suc x) bs ts)

-- sets of locals, one a call
abbrev pub sets_of : List (Vec Bool Global) → List (List Bool)
sets_of sets = map (λ (set : Vec Bool Global). set.items) sets

-- how many locals the calls keep together
abbrev pub kept_total : List ValType → List (List Bool) → ℕ
kept_total types [] = 0
kept_total types (set ∷ sets) = kept_count (fields_in 0 set types) + kept_total types sets
