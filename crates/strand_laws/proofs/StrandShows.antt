-- What is shown off the areas of all strands is the same in stores that agree outside them.
use Rattle.std.proofs.Common.{arith, ◌≡◌, ◌≤◌, ◌<◌, ◌+◌, ◌⊎◌, inl, inr, ℕ, List, [], ◌∷◌, length, Option, Some, None, Bool, true, false, All, refl, sym, ap, ◌∙◌, subst, ⊎_elim}
use Rattle.std.specs.Prelude.{if◌then◌else◌, nat_le, nat_lt, ◌&&◌}
use Rattle.std.specs.List.{AllZip}
use Rattle.std.proofs.lemmas.Bool.{cases_eq, cases_lt}
use Rattle.std.proofs.lemmas.List.Elements.{All-head, All-nil, All-tail, All-weaker}
use Rattle.wa_types.specs.Memory.{bytes_at}
use Rattle.wa_types.specs.Runtime.{global_space}
use Rattle.wa_model.specs.declared.answers.Area.{Area}
use Rattle.wa_model.specs.Blocking.{Note, overlap}
use Rattle.wa_model.specs.Outside.{Event, answered, called, ended, parked, paused, returned, shown}
use Rattle.wa_model.specs.Store.{Store}
use Rattle.world_model.specs.World.{Look, bytes_shown, look_events, looks_after}
use Rattle.world_laws.proofs.Shows.{Alike, Prints}
use Rattle.strand_laws.proofs.Apart.{off}
use Rattle.strand_laws.proofs.Between.{bytes_by_each}
use Rattle.strand_laws.proofs.TurnsTold.{notes_mine, notes_other}
use Rattle.strand_laws.specs.StrandOriginals.{LooksOff, SameStrandMoment}
use Rattle.strand_laws.specs.StrandWorld.{last_strand, looks_if, notes_of}
use Rattle.strand_laws.specs.Strands.{SameOff, StrandProgram, areas_of}
use Rattle.strand_laws.specs.Woven.{Told}

-- a byte that is shown lies below or behind each area
off_place : (l : Look) (a : Area) (x : ℕ) → overlap l.at l.len a.at a.len ≡ false → l.at ≤ x → x < l.at + l.len → (x < a.at) ⊎ (a.at + a.len ≤ x)
off_place l a x apart low high = by (off l.at l.len a.at a.len (omega (arith, low, high)) apart)
  where
    by : (a.len ≡ 0) ⊎ ((l.at + l.len ≤ a.at) ⊎ (a.at + a.len ≤ l.at)) → (x < a.at) ⊎ (a.at + a.len ≤ x)
    by (inl none) = ⊎_elim (λ lt. inl lt) (λ ge. inr (omega (arith, none, ge))) (cases_lt x a.at)
    by (inr (inl below)) = inl (omega (arith, below, high))
    by (inr (inr above)) = inr (omega (arith, above, low))

module _ (globals : ℕ) (areas : List Area) where
  look_same : (s t : Store) → SameOff globals areas s t → (l : Look) → LooksOff areas l → bytes_shown s.memory l ≡ bytes_shown t.memory l
  look_same s t h l apart =
      ap (λ (n : ℕ). if nat_lt 0 n && nat_le (l.at + l.len) n then Some (bytes_at s.memory l.at l.len) else None) h.size
      ∙ ap (λ (bytes : List ℕ). if nat_lt 0 (length t.memory) && nat_le (l.at + l.len) (length t.memory) then Some bytes else None)
      (bytes_by_each s.memory t.memory l.at l.len
      (λ x low high. h.outside x
      (All-weaker (λ (a : Area). overlap l.at l.len a.at a.len ≡ false) (λ (a : Area). (x < a.at) ⊎ (a.at + a.len ≤ x)) (λ a e. off_place l a x e low high) areas apart)))

  looks_same : (s t : Store) → SameOff globals areas s t → (looks : List Look) → All (LooksOff areas) looks → look_events s looks ≡ look_events t looks
  looks_same s t h [] apart = refl
  looks_same s t h (l ∷ ls) apart =
      ap (λ (bytes : Option (List ℕ)). shown l.at bytes ∷ look_events s ls) (look_same s t h l (All-head (LooksOff areas) l ls apart))
      ∙ ap (λ (es : List Event). shown l.at (bytes_shown t.memory l) ∷ es) (looks_same s t h ls (All-tail (LooksOff areas) l ls apart))

  after_same : (x y : Note) → SameOff globals areas x.store y.store → (looks : List Look) → All (LooksOff areas) looks → (e : Event) → looks_after looks x e ≡ looks_after looks y e
  after_same x y h looks apart (called c) = refl
  after_same x y h looks apart (answered v) = refl
  after_same x y h looks apart (paused t u) = refl
  after_same x y h looks apart (returned i v) = refl
  after_same x y h looks apart (ended how) = looks_same x.store y.store h looks apart
  after_same x y h looks apart (parked used) = refl
  after_same x y h looks apart (shown at bytes) = refl

module _ (g : StrandProgram) where
  abbrev Same : Told → Told → Type 0
  Same = SameStrandMoment g

  -- the same strand tells the last note
  pub last_same : (us ts : List Told) → AllZip Same us ts → last_strand us ≡ last_strand ts
  last_same [] [] h = refl
  last_same [] (y ∷ ts) h = absurd h
  last_same (x ∷ us) [] h = absurd h
  last_same (x ∷ []) (y ∷ []) h = h.0.strand
  last_same (x ∷ []) (y ∷ z ∷ ts) h = absurd h.1
  last_same (x ∷ w ∷ us) (y ∷ []) h = absurd h.1
  last_same (x ∷ w ∷ us) (y ∷ z ∷ ts) h = last_same (w ∷ us) (z ∷ ts) h.1

  off_if : (b : Bool) (looks : List Look) → All (LooksOff (areas_of g)) looks → All (LooksOff (areas_of g)) (looks_if b looks)
  off_if true looks apart = apart
  off_if false looks apart = All-nil (LooksOff (areas_of g))

  -- the notes of each strand print the same
  pub notes_print : (i : ℕ) (looks : List Look) → All (LooksOff (areas_of g)) looks → (b : Bool) (us ts : List Told) → AllZip Same us ts
      → Alike (looks_if b looks) (notes_of i us) (notes_of i ts)
  notes_print i looks apart b [] [] h = tt
  notes_print i looks apart b [] (y ∷ ts) h = absurd h
  notes_print i looks apart b (x ∷ us) [] h = absurd h
  notes_print i looks apart b (x ∷ us) (y ∷ ts) h = told_first (notes_print i looks apart b us ts h.1)
    where
      looks2 : List Look
      looks2 = looks_if b looks

      same : x.strand ≡ y.strand
      same = h.0.strand

      prints : Prints looks2 x.note y.note
      prints = record {
        event = h.0.event;
        shows = after_same (global_space g.source) (areas_of g) x.note y.note h.0.ends looks2 (off_if b looks apart) x.note.event ∙ ap (looks_after looks2 y.note) h.0.event;
      }

      told_first : Alike (looks_if b looks) (notes_of i us) (notes_of i ts) → Alike (looks_if b looks) (notes_of i (x ∷ us)) (notes_of i (y ∷ ts))
      told_first on =
          ⊎_elim
          (λ mine.
          let left : notes_of i (x ∷ us) ≡ x.note ∷ notes_of i us = subst (λ k. notes_of k (x ∷ us) ≡ x.note ∷ notes_of k us) mine (notes_mine x.strand x.note us) in
          let right : notes_of i (y ∷ ts) ≡ y.note ∷ notes_of i ts = subst (λ k. notes_of k (y ∷ ts) ≡ y.note ∷ notes_of k ts) (sym same ∙ mine) (notes_mine y.strand y.note ts) in
          subst (λ (xs : List Note). Alike looks2 xs (notes_of i (y ∷ ts))) (sym left) (subst (λ (ys : List Note). Alike looks2 (x.note ∷ notes_of i us) ys) (sym right) (prints, on)))
          (λ other.
          let left : notes_of i (x ∷ us) ≡ notes_of i us = notes_other i x.strand x.note us other in
          let right : notes_of i (y ∷ ts) ≡ notes_of i ts = notes_other i y.strand y.note ts (λ e. other (same ∙ e)) in
          subst (λ (xs : List Note). Alike looks2 xs (notes_of i (y ∷ ts))) (sym left) (subst (λ (ys : List Note). Alike looks2 (notes_of i us) ys) (sym right) on))
          (cases_eq x.strand i)
