-- The first bytes of a file, and what they say of all of it.
use Rattle.std.proofs.Common.{◌≡◌, ◌≤◌, ◌<◌, ◌+◌, ◌-◌, ◌^◌, ℕ, List, ◌++◌, Option, Some, None, length, take, drop, inl, sym, ap, ◌∙◌, subst, arith, length-append}
use Rattle.std.specs.Prelude.{All, IsSome, replicate}
use Rattle.std.proofs.lemmas.List.Elements.{All-append, All-take}
use Rattle.std.proofs.Math.Seq.{take-length}
use Rattle.std.proofs.lemmas.List.{take_all, take_at, take-take, length-take, length-take-le, length-drop, length-replicate}
use Rattle.vault_port.specs.Files.{Files, bytes_of}
use Rattle.vault_port.specs.Told.{WhereTold}
use Rattle.vault_port.proofs.Pieces.{take-add}
use Rattle.wa_types.specs.Begun.{Begun}
use Rattle.wa_types.specs.declared.bounds.LimitKind.TheVariants.{File, Functions, Parameters, Body, Locals, Output, Script, Programs}
use Rattle.wa_types.specs.ModuleBounds.{ModuleBounds}
use Rattle.wasm_reader.specs.declared.read_fault.ReadFault.{ReadFault}
use Rattle.wasm_reader.specs.declared.read_fault.ReadFault.TheVariants as R
use Rattle.wasm_reader.specs.Answers.{IsRefused}
use Rattle.wasm_reader.specs.Pieces.{IsFeedFault}
use Rattle.wasm_reader.specs.Held.{Holds, IsToldFault}
use Rattle.wasm_reader.specs.FilePieces.{BeginsWith, IsFaultOf, IsFront, IsPiece}
use Rattle.wasm_reader.specs.declared.fault.ModuleFault.{ModuleFault}
use Rattle.wasm_reader.specs.declared.fault.ModuleFault.TheVariants as M
use Rattle.wasm_reader.proofs.Held.{holds_own}

-- one more piece
front_at : (file front buffer : List ℕ) (done n : ℕ) → done ≡ length front → front ≡ take (length front) file → IsPiece file done n buffer
    → front ++ take n buffer ≡ take (length (front ++ take n buffer)) file
front_at file front buffer done n len is piece =
    let few : n ≤ length file - length front = subst (λ k. n ≤ length file - k) len piece.there in
    let next : take n buffer ≡ take n (drop (length front) file) = subst (λ k. take n buffer ≡ take n (drop k file)) len piece.same in
    let long : length (take n buffer) ≡ n = ap (λ (p : List ℕ). length p) next ∙ length-take-le n (drop (length front) file) (omega (arith, few, length-drop (length front) file)) in
    let both : length front + n ≡ length (front ++ take n buffer) = omega (arith, long, length-append front (take n buffer)) in
    ap (λ (p : List ℕ). p ++ take n buffer) is ∙ ap (λ (p : List ℕ). take (length front) file ++ p) next ∙ sym (take-add (length front) n file) ∙ ap (λ k. take k file) both

pub front_more : (files : Option Files) (name front buffer : List ℕ) (done n : ℕ) → done ≡ length front → IsFront files name front → WhereTold files (λ all. IsPiece (bytes_of all name) done n buffer)
    → IsFront files name (front ++ take n buffer)
front_more None name front buffer done n len is piece = tt
front_more (Some all) name front buffer done n len is piece = front_at (bytes_of all name) front buffer done n len is piece

-- where no more comes, the front is the file
pub holds_front : (files : Option Files) (name front buffer : List ℕ) (done n : ℕ) → done ≡ length front → n ≡ 0 → IsFront files name front
    → WhereTold files (λ all. IsPiece (bytes_of all name) done n buffer) → WhereTold files (λ all. IsSome (all name)) → Holds files name front
holds_front None name front buffer done n len none is piece there = tt
holds_front (Some all) name front buffer done n len none is piece there =
    let few : length (bytes_of all name) ≤ length front = omega (arith, piece.none none, len) in
    let whole : front ≡ bytes_of all name = is ∙ take_all (length front) (bytes_of all name) few in
    holds_own all name there ∙ ap (λ (bs : List ℕ). Some bs) (sym whole)

-- what the front isn't begun for, the file isn't
pub refused_at : (b : ModuleBounds) (most : ℕ) (file front : List ℕ) (fault : ReadFault) → b.file ≡ most → front ≡ take (length front) file → length file ≤ most → IsFeedFault most front fault
    → IsRefused b file fault
refused_at b most file front R.Memory e is few h = tt
refused_at b most file front (R.Malformed k) e is few h =
    let size : length front ≤ length file = omega (arith, ap (λ (p : List ℕ). length p) is, length-take (length front) file) in
    let same : (j : ℕ) → j ≤ length front → take j front ≡ take j file = λ j l. ap (take j) is ∙ take-take j (length front) file l in (
      omega (arith, few, e),
      record {
        within = omega (arith, h.1.within, size);
        before = λ j l. subst Begun (same j (omega (arith, l, h.1.within))) (h.1.before j l);
        stops = inl (λ begun. h.1.stops (subst Begun (sym (same k h.1.within)) begun));
      },
    )
refused_at b most file front (R.Float at) e is few h = absurd h
refused_at b most file front (R.Deep at) e is few h = absurd h
refused_at b most file front (R.Limit File n) e is few h =
    let size : length front ≤ length file = omega (arith, ap (λ (p : List ℕ). length p) is, length-take (length front) file) in absurd (omega (arith, size, few, h.0))
refused_at b most file front (R.Limit Functions n) e is few h = absurd h
refused_at b most file front (R.Limit Parameters n) e is few h = absurd h
refused_at b most file front (R.Limit Body n) e is few h = absurd h
refused_at b most file front (R.Limit Locals n) e is few h = absurd h
refused_at b most file front (R.Limit Output n) e is few h = absurd h
refused_at b most file front (R.Limit Script n) e is few h = absurd h
refused_at b most file front (R.Limit Programs n) e is few h = absurd h

-- A front met a fault, and no more comes behind what was fetched.
pub refused_whole : (b : ModuleBounds) (most : ℕ) (files : Option Files) (name front buffer : List ℕ) (done n : ℕ) (fault : ReadFault) → b.file ≡ most → BeginsWith files name front
    → IsFeedFault most front fault → length front ≤ done → done ≤ most → n ≡ 0 → WhereTold files (λ all. IsPiece (bytes_of all name) done n buffer)
    → (bytes : List ℕ) × Holds files name bytes × IsRefused b bytes fault
refused_whole b most None name front buffer done n fault e begins h since within none piece =
    (front, tt, refused_at b most front front fault e (sym (take-length front)) (omega (arith, since, within)) h)
refused_whole b most (Some all) name front buffer done n fault e begins h since within none piece =
    let few : length (bytes_of all name) ≤ most = omega (arith, piece.none none, within) in
    (bytes_of all name, holds_own all name begins.0, refused_at b most (bytes_of all name) front fault e begins.1 few h)

-- More came than a file may have.
pub refused_long : (b : ModuleBounds) (most : ℕ) (files : Option Files) (name : List ℕ) (done : ℕ) → b.file ≡ most → WhereTold files (λ all. IsSome (all name))
    → WhereTold files (λ all. done ≤ length (bytes_of all name)) → most < done
    → (bytes : List ℕ) × Holds files name bytes × IsRefused b bytes (R.Limit File (most + 1))
refused_long b most None name done e there far over =
    let nought : ℕ = 0 in
    let long : length (replicate done nought) ≡ done = length-replicate done nought in (replicate done nought, tt, (omega (arith, e, over, long), omega (arith, e)))
refused_long b most (Some all) name done e there far over =
    (bytes_of all name, holds_own all name there, (omega (arith, e, far, over), omega (arith, e)))

-- what bytes are refused for, the file is that holds them
pub told_fault : (b : ModuleBounds) (files : Option Files) (name bytes : List ℕ) (fault : ModuleFault) → Holds files name bytes → IsFaultOf b bytes fault → IsToldFault b files name fault
told_fault b files name bytes M.Memory holds h = tt
told_fault b files name bytes M.Read holds h = tt
told_fault b files name bytes (M.Refused fault) holds h = (bytes, holds, h)

-- ---- a reader, and a piece for it

-- what was lent comes back as it was left
pub lent_back : (old new : List ℕ) (len : ℕ) → length new ≡ len → take len (new ++ drop (length new) old) ≡ new
lent_back old new len e = take_at new (drop (length new) old) len e

-- the bytes that have come, with one more piece
pub came_more : (front buffer : List ℕ) (done n : ℕ) → done ≡ length front → n ≤ length buffer → length (front ++ take n buffer) ≡ done + n
came_more front buffer done n len few =
    let long : length (take n buffer) ≡ n = length-take-le n buffer few in omega (arith, len, long, length-append front (take n buffer))

pub are_bytes_more : (front buffer : List ℕ) (n : ℕ) → All (λ b. b < 2 ^ 8) front → All (λ b. b < 2 ^ 8) buffer → All (λ b. b < 2 ^ 8) (front ++ take n buffer)
are_bytes_more front buffer n old new = All-append (λ b. b < 2 ^ 8) front (take n buffer) old (All-take (λ b. b < 2 ^ 8) n buffer new)
