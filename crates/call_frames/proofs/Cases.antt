-- Parts of a few functions, as the definitions compute them.
use Rattle.std.proofs.Common.{◌≡◌, List, [], ◌∷◌, false, refl}
use Rattle.wa_types.specs.declared.values.ValType.{ValType}
use Rattle.wa_types.specs.declared.values.ValType.TheVariants.{I32, I64}
use Rattle.frame_laws.specs.Layout.{FrameField, kept}
use Rattle.call_frames.specs.PlainFrames.{at_every, at_these}
use Rattle.call_frames.specs.CallParts.{are_better, groups, tests_most}

abbrev a : FrameField
a = kept 0 I32

abbrev b : FrameField
b = kept 1 I64

abbrev c : FrameField
c = kept 2 I32

abbrev d : FrameField
d = kept 3 I64

abbrev types : List ValType
types = I32 ∷ I64 ∷ I32 ∷ I64 ∷ []

-- all calls keep the same
shared : groups types ((a ∷ c ∷ []) ∷ (a ∷ c ∷ []) ∷ []) ≡ at_every (a ∷ c ∷ []) ∷ []
shared = refl

-- the second call keeps two locals more, which are a group
two_more : groups types ((c ∷ []) ∷ (a ∷ b ∷ c ∷ []) ∷ []) ≡ at_these (1 ∷ []) (a ∷ b ∷ []) ∷ at_every (c ∷ []) ∷ []
two_more = refl

-- a call that keeps nothing is in no part
nothing : groups types ([] ∷ (b ∷ []) ∷ []) ≡ at_these (1 ∷ []) (b ∷ []) ∷ []
nothing = refl

-- four groups, but three classes, which are shorter
classes : are_better (tests_most 4 3) (groups types ((a ∷ b ∷ []) ∷ (c ∷ []) ∷ (a ∷ d ∷ []) ∷ []))
    (at_these (0 ∷ []) (a ∷ b ∷ []) ∷ at_these (1 ∷ []) (c ∷ []) ∷ at_these (2 ∷ []) (a ∷ d ∷ []) ∷ []) ≡ false
classes = refl
