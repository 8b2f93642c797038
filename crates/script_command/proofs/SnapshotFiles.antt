-- What holds of the front of a snapshot's file, one byte past the limit, holds of the file.
use Rattle.std.proofs.Common.{◌≡◌, ◌≤◌, ◌<◌, ◌∙◌, inl, inr, ℕ, List, Option, Some, None, Ok, length, refl, subst, take, arith}
use Rattle.std.specs.Prelude.{IsSome}
use Rattle.std.proofs.lemmas.List.{take_all, length-take}
use Rattle.vault_port.specs.Files.{ChangesOnly, Files, bytes_of}
use Rattle.vault_port.specs.Told.{Becomes, WhereTold}
use Rattle.wasm_reader.proofs.Held.{holds_own}
use Rattle.snapshot_store.specs.Snapshots.{Snapshot, SnapText, snapshot_bytes}
use Rattle.script_command.specs.declared.stop.Stop.{Stop}
use Rattle.script_command.specs.declared.stop.Stop.TheVariants.{Memory, Refused, Sink}
use Rattle.script_command.specs.SnapshotTelling.{most_bytes}
use Rattle.script_command.specs.SnapshotViews.{Holding, IsText, NoSnapshot, NoText, Writes}

-- a front that isn't longer than the limit is the whole
short_whole : (all : List ℕ) → length (take 268435457 all) ≤ most_bytes → take 268435457 all ≡ all
short_whole all few = take_all 268435457 all (omega (arith, length-take 268435457 all, few))

pub snapshot_held : (name bytes : List ℕ) (files : Option Files) (s : Snapshot) → WhereTold files (λ all. bytes ≡ take 268435457 (bytes_of all name)) → WhereTold files (λ all. IsSome (all name))
    → IsText bytes s → Holding files name s
snapshot_held name bytes None s read there h = record { bytes = bytes; holds = tt; few = h.few; spells = h.spells }
snapshot_held name bytes (Some all) s read there h =
    let here : IsText (take 268435457 (bytes_of all name)) s = subst (λ (b : List ℕ). IsText b s) read h in
    let whole : IsText (bytes_of all name) s = subst (λ (b : List ℕ). IsText b s) (short_whole (bytes_of all name) here.few) here in
    record { bytes = bytes_of all name; holds = holds_own all name there; few = whole.few; spells = whole.spells }

pub none_held : (name bytes : List ℕ) (files : Option Files) (f f' : ℕ) (stop : Stop) → f' ≡ f → WhereTold files (λ all. bytes ≡ take 268435457 (bytes_of all name)) → WhereTold files (λ all. IsSome (all name))
    → NoText bytes stop → NoSnapshot files f f' name stop
none_held name bytes files f f' Memory same read there h = tt
none_held name bytes files f f' Sink same read there h = absurd h
none_held name bytes None f f' (Refused r) same read there h = (
  h.0,
  inr (elim h.1 [
    | inl long ↦ inl (long.0, record { bytes = bytes; holds = tt; more = long.1 }, same)
    | inr none ↦ inr (none.0, record { bytes = bytes; holds = tt; few = none.1; none = none.2 }, same)
  ]),
)
none_held name bytes (Some all) f f' (Refused r) same read there h = (
  h.0,
  inr (elim h.1 [
    | inl long ↦
        let more = subst (λ (b : List ℕ). most_bytes < length b) read long.1 in
        inl (long.0, record { bytes = bytes_of all name; holds = holds_own all name there; more = omega (arith, length-take 268435457 (bytes_of all name), more) }, same)
    | inr none ↦
        let few : length (take 268435457 (bytes_of all name)) ≤ most_bytes = subst (λ (b : List ℕ). length b ≤ most_bytes) read none.1 in
        let e = read ∙ short_whole (bytes_of all name) few in
        inr (
          none.0,
          record {
            bytes = bytes_of all name;
            holds = holds_own all name there;
            few = subst (λ (b : List ℕ). length b ≤ most_bytes) e none.1;
            none = subst (λ (b : List ℕ). (s : Snapshot) → SnapText b s → ⊥) e none.2;
          },
          same,
        )
  ]),
)

-- ---- what is written

own_text : (bytes : List ℕ) (s : Snapshot) → SnapText bytes s → SnapText (snapshot_bytes s) s
own_text bytes s h = record { fits = h.fits; spells = refl }

pub written : (s : Snapshot) (name : List ℕ) (files files' : Option Files) (f f' : ℕ) (bytes lent : List ℕ) → SnapText bytes s → lent ≡ bytes → (found : ℕ) → found ≡ length (snapshot_bytes s)
    → found ≤ most_bytes → Becomes files files' (ChangesOnly name lent) → f' ≡ f → Writes s name files files' f f' (Ok tt)
written s name files files' f f' bytes lent text same found is few changes still = (
  own_text bytes s text,
  omega (arith, is, few),
  subst (λ (bs : List ℕ). Becomes files files' (ChangesOnly name bs)) (same ∙ text.spells) changes,
  still,
)
