-- The parts of entries that hold code.
use Rattle.std.proofs.Common.{ℕ, ◌+◌, List, [], sym, subst, append-nil, length, ◌∙◌, refl}
use Rattle.wa_types.specs.Syntax.{GlobalDef, Elem, Segment}
use Rattle.wa_types.specs.Spells.{◌▸◌, Exactly, Number, Vector, RunOf, GlobalOf, ElementOf, SegmentOf, GlobalType}
use Rattle.wa_types.specs.Reading.{IsGlobal, IsElem, IsSegment, IsRun}
use Rattle.wasm_build.specs.Builds.{SpelledAs, SpelledGlobalType}
use Rattle.wasm_build.specs.BuildsCode.{SpelledExpression}
use Rattle.wasm_build.specs.BuildsSections.{PlainBody, SpelledBody}
use Rattle.wasm_build.proofs.Betweens.{as_vector}

-- a defined global
abbrev pub GlobalParts : GlobalDef → ℕ → List ℕ → Type 0
GlobalParts g = SpelledGlobalType (g.ty, g.mutable) ▸ SpelledExpression g.init

pub global_def_parts : (g : GlobalDef) (at : ℕ) (bytes : List ℕ) → SpelledAs GlobalOf IsGlobal g at bytes → GlobalParts g at bytes
global_def_parts g at bytes (raw, is, h) = (
  h.0,
  h.1,
  h.2,
  (raw.ty, is.ty, subst (λ m. GlobalType raw.ty m at h.0) (sym is.mutable) h.3),
  (raw.init, is.init, h.4),
)

-- an element segment
abbrev pub ElementParts : Elem → ℕ → List ℕ → Type 0
ElementParts e = Number e.table ▸ (SpelledExpression e.offset ▸ Vector Number e.funcs)

pub element_parts : (e : Elem) (at : ℕ) (bytes : List ℕ) → SpelledAs ElementOf IsElem e at bytes → ElementParts e at bytes
element_parts e at bytes (raw, is, h) =
    let k = h.4 in (
      h.0,
      h.1,
      h.2,
      subst (λ n. Number n at h.0) (sym is.table) h.3,
      (
        k.0,
        k.1,
        k.2,
        (raw.offset, is.offset, k.3),
        subst (λ xs. Vector Number xs (at + length h.0 + length k.0) k.1) (sym is.funcs) k.4,
      ),
    )

-- a data segment
abbrev pub SegmentParts : Segment → ℕ → List ℕ → Type 0
SegmentParts s = Number s.memory ▸ (SpelledExpression s.offset ▸ (Number (length s.bytes) ▸ (Exactly s.bytes ▸ Exactly [])))

pub segment_parts : (s : Segment) (at : ℕ) (bytes : List ℕ) → SpelledAs SegmentOf IsSegment s at bytes → SegmentParts s at bytes
segment_parts s at bytes (raw, is, h) =
    let k = h.4 in
    let l = k.4 in (
      h.0,
      h.1,
      h.2,
      subst (λ n. Number n at h.0) (sym is.memory) h.3,
      (
        k.0,
        k.1,
        k.2,
        (raw.offset, is.offset, k.3),
        (l.0, l.1, l.2, subst (λ xs. Number (length xs) (at + length h.0 + length k.0) l.0) (sym is.bytes) l.3, (l.1, [], sym (append-nil l.1), l.4 ∙ sym is.bytes, refl)),
      ),
    )

-- an entry of the code section, behind its size
abbrev pub BodyParts : PlainBody → ℕ → List ℕ → Type 0
BodyParts b = Vector (SpelledAs RunOf IsRun) b.locals ▸ SpelledExpression b.code

pub body_sized : (b : PlainBody) (at : ℕ) (bytes : List ℕ) → SpelledBody b at bytes → (size : ℕ) × (Number size ▸ BodyParts b) at bytes
body_sized b at bytes (raw, is, h) =
    let k = h.4.1 in
    (raw.size, (h.0, h.1, h.2, h.3, (k.0, k.1, k.2, as_vector RunOf IsRun raw.locals b.locals _ _ is.locals k.3, (raw.code, is.code, k.4))))
